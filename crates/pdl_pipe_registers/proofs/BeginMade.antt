-- A stage before its statements, of the parts with which it begins.
use Rattle.std.proofs.Common.{◌≡◌, ℕ, zero, suc, ◌<◌, ◌≤◌, ◌⊎◌, inl, inr, Bool, true, false, ◌&&◌, List, [], ◌∷◌, map, length, refl, sym, ap, ◌∙◌, subst, arith, leb}
use Rattle.std.specs.Prelude.{nat_le, nat_lt}
use Rattle.std.proofs.lemmas.Bool.{and_parts}
use Rattle.std.proofs.lemmas.Bool.Decides.{leb_tells}
use Rattle.std.proofs.lemmas.List.{get_or_past, length-take}
use Rattle.pdl_semantics.specs.Flat.{Pipe}
use Rattle.pdl_semantics.specs.Stages.{reserve_stage, commit_stage}
use Rattle.pdl_form.specs.Form.{Form}
use Rattle.pdl_form_types.specs.Stmts.{IsTypedForm, param_widths}
use Rattle.pdl_machine_facts.specs.Slots.{ways}
use Rattle.pdl_net.specs.declared.Net.{Net}
use Rattle.pdl_net.specs.Circuit.{Circuit}
use Rattle.pdl_net.specs.Signal.{Signal, no_signal, const_value, const_signal}
use Rattle.pdl_net.specs.Meaning.{signal, IsThere}
use Rattle.pdl_net.specs.Growth.{Keeps}
use Rattle.pdl_pipe_exprs.specs.Nets.{NetsThere, signals_in, signal_at, widths_of}
use Rattle.pdl_pipe_exprs.specs.declared.bits.Bits.{Bits}
use Rattle.pdl_pipe_exprs.specs.Conditions.{AreBits}
use Rattle.pdl_pipe_exprs.proofs.NetLists.{length_widths}
use Rattle.pdl_port.specs.Laws.{AnswerSignals}
use Rattle.pdl_law_parts.specs.declared.Mark.{Mark as MarkKind}
use Rattle.pdl_law_parts.specs.Lives.{lives_from, mark_from, verifies_from}
use Rattle.pdl_law_parts.specs.Walk.{Letting, is_locked, one, zero_bit}
use Rattle.pdl_law_parts.specs.Views.{View}
use Rattle.pdl_law_parts.proofs.StageLooks.{lock_there}
use Rattle.pdl_pipe_lives.specs.Needs.{goes_with}
use Rattle.pdl_pipe_walk.specs.declared.nets.MarkNet.{MarkNet}
use Rattle.pdl_pipe_walk.specs.declared.nets.ReserveNet.{ReserveNet}
use Rattle.pdl_pipe_walk.specs.declared.nets.PutNet.{PutNet}
use Rattle.pdl_pipe_walk.specs.declared.nets.LettingNet.{LettingNet}
use Rattle.pdl_pipe_walk.specs.declared.nets.BirthNet.{BirthNet}
use Rattle.pdl_pipe_walk.specs.declared.nets.AskNet.{AskNet}
use Rattle.pdl_pipe_walk.specs.declared.nets.AdvisingNet.{AdvisingNet}
use Rattle.pdl_pipe_walk.specs.Parts.{MarkSignal, mark_in, mark_of, reservation_in, put_in, letting_in, birth_in, ask_in, advising_in, parts_in, walk_of}
use Rattle.pdl_pipe_walk.specs.Sized.{IsWalk, IsSizedReserve, IsSizedPut, IsSizedBirth, IsSizedAsk, IsSizedAdvising}
use Rattle.pdl_pipe_registers.specs.declared.nets.Item.{Item}
use Rattle.pdl_pipe_registers.specs.declared.nets.Item.TheVariants.{Var, Mark, Ticket, Guess}
use Rattle.pdl_pipe_registers.specs.declared.nets.StageRegs.{StageRegs}
use Rattle.pdl_pipe_registers.specs.declared.nets.Earlier.{Earlier}
use Rattle.pdl_pipe_registers.specs.declared.nets.Shared.{Shared}
use Rattle.pdl_pipe_registers.specs.declared.nets.StageNets.{StageNets}
use Rattle.pdl_pipe_registers.specs.Items.{is_needed, ended_item}
use Rattle.pdl_pipe_registers.specs.Stages.{begun_parts, IsFrame, IsBegun, IsBegunBy, IsSettled, IsSpared, IsThereBegun, HasKept, AreOwn}
use Rattle.pdl_pipe_registers.specs.Begun.{earlier_views, earlier_count, is_listed, IsShared, IsEnded, IsEarlier, IsSettledAfter, IsSparedAfter, AreBegun, AreMarksBegun, HasAllMarks, AreNextTickets, AreAnswered, IsFresh}
use Rattle.pdl_pipe_registers.proofs.Lists.{each_at, each_map, view_at, some_stage}
use Rattle.pdl_pipe_registers.proofs.RegisterGrowth.{by_weaker}
use Rattle.pdl_pipe_registers.proofs.Begins.{next_keep, ends_same, each_way, settled_as, spared_as}
use Rattle.pdl_pipe_registers.proofs.MarksBegun.{mark_none, marks_as}
use Rattle.pdl_pipe_registers.proofs.ReadWords.{past_unanswered}
use Rattle.pdl_word.specs.Each.{Each}
use Rattle.pdl_word.proofs.Each.{each_mapped}

-- ---- what is past the last

none_const : no_signal ≡ const_signal 0 0
unfolding const_value
none_const = refl

past_all : (fs : List Signal) (ws : List ℕ) (x : ℕ) → widths_of fs ≡ ws → length ws ≤ x → signal_at fs x ≡ no_signal
past_all fs ws x e l = get_or_past fs x no_signal (let n = length_widths fs in let m = ap length e in omega (arith, l, n, m))

-- a stage ends with no signal for a variable past the last
pub past_ended : (c : Circuit) (f : Form) (nexts : List Signal) (e : Earlier) (x j : ℕ)
    → length f.widths ≤ x → IsEarlier c f nexts e → j < earlier_count e
    → ended_item (earlier_views c e j) (Var x) ≡ no_signal
past_ended c f nexts e x j l h low =
    let some = some_stage e.stages.now j low in
    let s = some.0 in
    let end = each_at (IsEnded c f nexts) e.stages.now j s low some.1 h.ended in
    ap (λ v. ended_item v (Var x)) (view_at c e.stages.now j s low some.1) ∙ past_all (signals_in c s.end.vars.items) f.widths x end.walk.sized.vars l

past_settled : (f : Form) (us : ℕ → View) (k x : ℕ) → IsTypedForm f
    → length f.widths ≤ x → ((j : ℕ) → j < k → ended_item (us j) (Var x) ≡ no_signal)
    → IsSettled f.pipe us k (Var x) no_signal
past_settled f us zero x t l past = (let p = t.params in omega (arith, p, l), (0, none_const))
past_settled f us (suc k) x t l past = record {
  constant = (0, 0, none_const);
  same = each_way f.pipe (suc k) (λ j. ended_item (us j) (Var x) ≡ no_signal) past;
  unanswered = past_unanswered f (suc k) x t l;
}

-- a location doesn't have a mark that isn't listed
unlisted : (p : Pipe) (us : ℕ → View) (k : ℕ) (mark : MarkKind) (m a : ℕ) (hs : List MarkNet)
    → mark_from p k mark m a ≡ true → is_listed hs mark m a ≡ false → Each (λ j. HasAllMarks p k (us j) hs) (ways p k)
    → IsSettled p us k (Mark mark m a) zero_bit
unlisted p us zero mark m a hs need un all = refl
unlisted p us (suc k) mark m a hs need un all = record {
  constant = (1, 0, refl);
  same =
      each_map (λ j. HasAllMarks p (suc k) (us j) hs) (λ j. ended_item (us j) (Mark mark m a) ≡ zero_bit) (ways p (suc k))
      (λ j h. h mark m a need un) all;
  unanswered = refl;
}

goes_low : (p : Pipe) (k m : ℕ) → goes_with p k m ≡ true → m < length p.mems
goes_low p k m e = lock_there p m (and_parts (is_locked p m) (nat_le (suc (reserve_stage p m)) k && nat_le k (commit_stage p m)) e).0

-- ---- by what is shared, as it stood when the stage began

module _ (a : Circuit) (f : Form) (x : Earlier) (s : Shared) (shared : IsShared a f s)
    (earlier : IsEarlier a f (signals_in a s.next) x) (b : Circuit) (e : Keeps a b) where
  nexts_same : signals_in b s.next ≡ signals_in a s.next
  nexts_same = next_keep a b f s e shared

  -- a stage's registers by the next tickets of the later circuit are such by those of the earlier one
  pub frame_from : (c : Circuit) (r : StageRegs) → IsFrame c f (signals_in b s.next) (earlier_count x) r → IsFrame c f (signals_in a s.next) (earlier_count x) r
  frame_from c r h = subst (λ fs. IsFrame c f fs (earlier_count x) r) nexts_same h

  -- a stage's registers by the next tickets of the earlier circuit are such by those of the later one
  pub frame_to : (c : Circuit) (r : StageRegs) → IsFrame c f (signals_in a s.next) (earlier_count x) r → IsFrame c f (signals_in b s.next) (earlier_count x) r
  frame_to c r h = subst (λ fs. IsFrame c f fs (earlier_count x) r) (sym nexts_same) h

  ends : (i : Item) (j : ℕ) → j < earlier_count x → ended_item (earlier_views a x j) i ≡ ended_item (earlier_views b x j) i
  ends i j l = sym (ends_same a b f (signals_in a s.next) x.stages.now i e earlier.ended j l)

  begun_from : (c : Circuit) (r : StageRegs) (item : ℕ → Item) (needed : ℕ → Bool) (S T : ℕ → Signal → Type 0) (ws : List ℕ) (xs : List Net)
      → ((i : ℕ) (g : Signal) → S i g → T i g) → AreBegun c f (signals_in b s.next) r item needed S ws xs
      → AreBegun c f (signals_in a s.next) r item needed T ws xs
  begun_from c r item needed S T ws xs weaker h =
      let now = subst (λ fs. AreBegun c f fs r item needed S ws xs) nexts_same h in
      record {
        there = now.there;
        wide = now.wide;
        begun =
            λ i l need. by_weaker f (signals_in a s.next) r (item i) (signal_at (signals_in c xs) i) (S i) (T i)
            (λ z. weaker i (signal_at (signals_in c xs) i) z) (now.begun i l need);
      }

  -- the variables with which a stage begins in the later circuit are such by the nets of the earlier one
  pub vars_from : (c : Circuit) (r : StageRegs) (needed : ℕ → Bool) (ws : List ℕ) (xs : List Net)
      → AreBegun c f (signals_in b s.next) r Var needed (λ y. IsSettledAfter b f x (Var y)) ws xs
      → AreBegun c f (signals_in a s.next) r Var needed (λ y. IsSettledAfter a f x (Var y)) ws xs
  vars_from c r needed ws xs h =
      begun_from c r Var needed (λ y. IsSettledAfter b f x (Var y))
      (λ y. IsSettledAfter a f x (Var y)) ws xs
      (λ y g z. settled_as f.pipe (earlier_views b x) (earlier_views a x) (earlier_count x) (Var y) g (ends (Var y)) z) h

  -- the guess of a stage in the later circuit is such by the nets of the earlier one, where the variables have the same signals
  pub guess_from : (c d : Circuit) (r : StageRegs) (needed : ℕ → Bool) (ws : List ℕ) (vars xs : List Net)
      → signals_in d vars ≡ signals_in b vars
      → AreBegun c f (signals_in b s.next) r Guess needed (λ i. IsSparedAfter b f x vars (Guess i)) ws xs
      → AreBegun c f (signals_in a s.next) r Guess needed (λ i. IsSpared f.pipe (earlier_views a x) (earlier_count x) (signals_in d vars) (Guess i)) ws xs
  guess_from c d r needed ws vars xs same h =
      begun_from c r Guess needed (λ i. IsSparedAfter b f x vars (Guess i))
      (λ i. IsSpared f.pipe (earlier_views a x) (earlier_count x) (signals_in d vars) (Guess i)) ws xs
      (λ i g z. spared_as f.pipe (earlier_views b x) (earlier_views a x) (earlier_count x) (signals_in b vars) (signals_in d vars) (Guess i) g ends same z) h

  -- the marks with which a stage begins in the later circuit are such by the nets of the earlier one
  pub marks_from : (c : Circuit) (r : StageRegs) (hs : List MarkNet)
      → AreMarksBegun c f (signals_in b s.next) (earlier_views b x) (earlier_count x) r hs
      → AreMarksBegun c f (signals_in a s.next) (earlier_views a x) (earlier_count x) r hs
  marks_from c r hs h =
      marks_as c f (signals_in a s.next) (earlier_views b x) (earlier_views a x)
      (earlier_count x) r hs (λ mark m v j l. ends (Mark mark m v) j l)
      (subst (λ fs. AreMarksBegun c f fs (earlier_views b x) (earlier_count x) r hs) nexts_same h)

  -- that all marks of a thread are listed for each way into the stage holds by the nets of the earlier circuit
  pub all_marks_from : (hs : List MarkNet)
      → Each (λ j. HasAllMarks f.pipe (earlier_count x) (earlier_views b x j) hs) x.ways.now
      → Each (λ j. HasAllMarks f.pipe (earlier_count x) (earlier_views a x j) hs) (ways f.pipe (earlier_count x))
  all_marks_from hs h = subst (Each (λ j. HasAllMarks f.pipe (earlier_count x) (earlier_views a x j) hs)) earlier.ways (now x.ways.now earlier.low h)
    where
      now : (js : List ℕ) → Each (λ j. j < earlier_count x) js
          → Each (λ j. HasAllMarks f.pipe (earlier_count x) (earlier_views b x j) hs) js
          → Each (λ j. HasAllMarks f.pipe (earlier_count x) (earlier_views a x j) hs) js
      now [] l q = tt
      now (j ∷ js) l q = (λ mark m v need un. ends (Mark mark m v) j l.0 ∙ q.0 mark m v need un, now js l.1 q.1)

-- ---- the stage

-- the parts with which stage k begins: registers, variables, marks of locations, tickets, guess and answers, and a fresh walk
pub record HasParts (c : Circuit) (f : Form) (nexts : List Signal) (answers : ℕ → ℕ → AnswerSignals) (us : ℕ → View)
    (k : ℕ) (bits : Bits) (s : StageNets) : Type 0 where
  pub frame : IsFrame c f nexts k s.regs
  pub own : AreOwn f k s.regs
  pub vars : AreBegun c f nexts s.regs Var (lives_from f.pipe k) (λ x. IsSettled f.pipe us k (Var x)) f.widths s.vars
  pub marks : AreMarksBegun c f nexts us k s.regs s.marks
  pub all : Each (λ j. HasAllMarks f.pipe k (us j) s.marks) (ways f.pipe k)
  pub tickets : AreBegun c f nexts s.regs Ticket (goes_with f.pipe k) (λ m. IsSettled f.pipe us k (Ticket m)) (widths_of nexts) s.tickets
  pub next : AreNextTickets c f.pipe nexts k s.tickets
  pub guess : AreBegun c f nexts s.regs Guess (λ i. verifies_from f.pipe k) (λ i. IsSpared f.pipe us k (signals_in c s.vars) (Guess i)) (param_widths f) s.guess
  pub answered : AreAnswered c f answers k s.vars s.begun
  pub bits_are : AreBits c bits
  pub fresh : IsFresh bits s.begun s.marks s.guess s.end

module _ (c : Circuit) (f : Form) (nexts : List Signal) (answers : ℕ → ℕ → AnswerSignals) (us : ℕ → View) (k : ℕ)
    (bits : Bits) (s : StageNets) (h : HasParts c f nexts answers us k bits s) where
  abbrev fresh : IsFresh bits s.begun s.marks s.guess s.end
  fresh = h.fresh

  marks_one : Each (λ (x : MarkSignal). x.signal.width ≡ 1) (map (mark_in c) s.marks)
  marks_one = each_mapped (λ (x : MarkSignal). x.signal.width ≡ 1) (mark_in c) s.marks h.marks.one

  parts_are : parts_in c s.end ≡ begun_parts c s
  parts_are =
      let e1 : signals_in c s.end.vars.items ≡ signals_in c s.begun = ap (signals_in c) fresh.vars_is in
      let e2 : map (mark_in c) s.end.marks.items ≡ map (mark_in c) s.marks = ap (map (mark_in c)) fresh.marks_is in
      let e3 : signal c s.end.ready ≡ one = ap (signal c) fresh.ready ∙ h.bits_are.one.same in
      let e4 : map (reservation_in c) s.end.reserves ≡ [] = ap (map (reservation_in c)) fresh.reserves in
      let e5 : map (put_in c) s.end.puts ≡ [] = ap (map (put_in c)) fresh.puts in
      let e6 : map (letting_in c) s.end.lettings ≡ [] = ap (map (letting_in c)) fresh.lettings in
      let e7 : map (birth_in c) s.end.births.items ≡ [] = ap (map (birth_in c)) fresh.births in
      let e8 : signals_in c s.end.guess ≡ signals_in c s.guess = ap (signals_in c) fresh.guess_is in
      let e9 : map (ask_in c) s.end.asks ≡ [] = ap (map (ask_in c)) fresh.asks in
      let e12 : map (advising_in c) s.end.advises ≡ [] = ap (map (advising_in c)) fresh.advises in
      let e10 : signal c s.end.fails ≡ zero_bit = ap (signal c) fresh.fails ∙ h.bits_are.zero.same in
      let e11 : signal c s.end.barrier ≡ zero_bit = ap (signal c) fresh.barrier ∙ h.bits_are.zero.same in
      cc (e1, e2, e3, e4, e5, e6, e7, e8, e9, e10, e11, e12)

  -- the nets of the stage's fresh walk are there, with their widths
  pub walk_is : IsWalk c f.pipe f.widths s.end
  walk_is = record {
    there = record {
      vars = subst (NetsThere c) (sym fresh.vars_is) h.answered.there;
      marks = subst (λ (l : List MarkNet). Each (λ (x : MarkNet). IsThere c x.net) l) (sym fresh.marks_is) h.marks.there;
      ready = subst (IsThere c) (sym fresh.ready) h.bits_are.one.there;
      reserves = subst (λ (l : List ReserveNet). Each (λ (r : ReserveNet). IsThere c r.on × IsThere c r.addr) l) (sym fresh.reserves) tt;
      puts = subst (λ (l : List PutNet). Each (λ (x : PutNet). IsThere c x.on × IsThere c x.value) l) (sym fresh.puts) tt;
      lettings = subst (λ (l : List LettingNet). Each (λ (x : LettingNet). IsThere c x.on) l) (sym fresh.lettings) tt;
      births = subst (λ (l : List BirthNet). Each (λ (x : BirthNet). IsThere c x.on × NetsThere c x.args) l) (sym fresh.births) tt;
      asks = subst (λ (l : List AskNet). Each (λ (x : AskNet). IsThere c x.on × IsThere c x.addr) l) (sym fresh.asks) tt;
      advises =
          subst (λ (l : List AdvisingNet). Each (λ (x : AdvisingNet). IsThere c x.on × IsThere c x.addr × IsThere c x.value) l) (sym fresh.advises) tt;
      guess = subst (NetsThere c) (sym fresh.guess_is) h.guess.there;
      fails = subst (IsThere c) (sym fresh.fails) h.bits_are.zero.there;
      barrier = subst (IsThere c) (sym fresh.barrier) h.bits_are.zero.there;
    };
    sized = record {
      vars = ap (λ (l : List Net). widths_of (signals_in c l)) fresh.vars_is ∙ h.answered.wide;
      marks = subst (λ (l : List MarkNet). Each (λ (x : MarkSignal). x.signal.width ≡ 1) (map (mark_in c) l)) (sym fresh.marks_is) marks_one;
      ready = ap (λ (x : Net). (signal c x).width) fresh.ready ∙ ap (λ (g : Signal). g.width) h.bits_are.one.same;
      reserves = subst (λ (l : List ReserveNet). Each (IsSizedReserve f.pipe) (map (reservation_in c) l)) (sym fresh.reserves) tt;
      puts = subst (λ (l : List PutNet). Each (IsSizedPut f.pipe) (map (put_in c) l)) (sym fresh.puts) tt;
      lettings = subst (λ (l : List LettingNet). Each (λ (x : Letting). x.on.width ≡ 1) (map (letting_in c) l)) (sym fresh.lettings) tt;
      births = subst (λ (l : List BirthNet). Each (IsSizedBirth f.pipe f.widths) (map (birth_in c) l)) (sym fresh.births) tt;
      asks = subst (λ (l : List AskNet). Each (IsSizedAsk f.pipe) (map (ask_in c) l)) (sym fresh.asks) tt;
      advises = subst (λ (l : List AdvisingNet). Each (IsSizedAdvising f.pipe) (map (advising_in c) l)) (sym fresh.advises) tt;
      guess = ap (λ (l : List Net). widths_of (signals_in c l)) fresh.guess_is ∙ h.guess.wide;
      fails = ap (λ (x : Net). (signal c x).width) fresh.fails ∙ ap (λ (g : Signal). g.width) h.bits_are.zero.same;
      barrier = ap (λ (x : Net). (signal c x).width) fresh.barrier ∙ ap (λ (g : Signal). g.width) h.bits_are.zero.same;
    };
  }

  nets_are : IsThereBegun c f nexts s
  nets_are = record {
    vars = h.vars.there;
    vars_wide = h.vars.wide;
    begun = h.answered.there;
    begun_wide = h.answered.wide;
    marks = h.marks.there;
    marks_one = marks_one;
    tickets = h.tickets.there;
    tickets_wide = h.tickets.wide;
    guess = h.guess.there;
    guess_wide = h.guess.wide;
  }

  module _ (typed : IsTypedForm f) (count : length nexts ≡ length f.pipe.mems)
      (past : (x j : ℕ) → length f.widths ≤ x → j < k → ended_item (us j) (Var x) ≡ no_signal) where
    by_var : (x : ℕ) → is_needed f.pipe k (Var x) ≡ true
        → ((leb (suc x) (length f.widths) ≡ true) × (suc x ≤ length f.widths)) ⊎ ((leb (suc x) (length f.widths) ≡ false) × (length f.widths < suc x))
        → IsBegunBy f nexts s.regs (Var x) (signal_at (signals_in c s.vars) x) (IsSettled f.pipe us k (Var x))
    by_var x need (inl q) = let r = q.1 in h.vars.begun x (omega (arith, r)) need
    by_var x need (inr q) =
        let r = q.1 in
        let l : length f.widths ≤ x = omega (arith, r) in
        inr
        (subst (IsSettled f.pipe us k (Var x)) (sym (past_all (signals_in c s.vars) f.widths x h.vars.wide l))
        (past_settled f us k x typed l (λ j low. past x j l low)))

    by_mark : (mark : MarkKind) (m a : ℕ) (b : Bool) → is_listed s.marks mark m a ≡ b → mark_from f.pipe k mark m a ≡ true
        → IsBegunBy f nexts s.regs (Mark mark m a) (mark_of (map (mark_in c) s.marks) mark m a) (IsSettled f.pipe us k (Mark mark m a))
    by_mark mark m a true e need = h.marks.begun mark m a e
    by_mark mark m a false e need =
        inr
        (subst (IsSettled f.pipe us k (Mark mark m a)) (sym (mark_none c s.marks mark m a e))
        (unlisted f.pipe us k mark m a s.marks need e h.all))

    kept_is : HasKept c f nexts us k s
    kept_is (Var x) need = by_var x need (leb_tells (suc x) (length f.widths))
    kept_is (Mark mark m a) need = by_mark mark m a (is_listed s.marks mark m a) refl need
    kept_is (Ticket m) need = let low = goes_low f.pipe k m need in let n = length_widths nexts in h.tickets.begun m (omega (arith, low, n, count)) need
    kept_is (Guess i) need =
        let q = and_parts (verifies_from f.pipe k) (nat_lt i (length f.pipe.start)) need in
        let low : i < length f.pipe.start = Rattle.std.proofs.lemmas.Bool.ltb-true i (length f.pipe.start) q.1 in
        let n = length-take (length f.pipe.start) f.widths in
        let p = typed.params in
        h.guess.begun i (omega (arith, low, n, p)) q.0

    -- the stage stands as it is before its rows, where the form is typed
    pub begun_is : IsBegun c f nexts answers us k s
    begun_is = record {
      frame = h.frame;
      own = h.own;
      nets = nets_are;
      tickets = h.next;
      kept = kept_is;
      answered = h.answered.answered;
      walk = ap walk_of parts_are;
      sized = walk_is;
    }
