-- What a stage begins with stays while the circuit grows, and nets for items of a kind, one after the other.
use Rattle.std.proofs.Common.{◌≡◌, inl, inr, ℕ, zero, suc, ◌+◌, ◌<◌, Bool, true, false, List, [], ◌∷◌, ◌++◌, length, take, refl, sym, ap, ap₂, ◌∙◌, subst, arith}
use Rattle.std.specs.Prelude.{slice_index, if◌then◌else◌}
use Rattle.std.proofs.lemmas.List.{get_or_append_left, take_more, length-take}
use Rattle.std.proofs.Math.Seq.{get_or-append_seam}
use Rattle.pdl_semantics.specs.Flat.{Pipe}
use Rattle.pdl_form.specs.Form.{Form}
use Rattle.pdl_semantics.specs.Stages.{stage_at}
use Rattle.pdl_machine_facts.specs.Slots.{leads_to, ways, ways_from}
use Rattle.pdl_net.specs.declared.Net.{Net}
use Rattle.pdl_net.specs.Circuit.{Circuit}
use Rattle.pdl_net.specs.Signal.{Signal, no_signal}
use Rattle.pdl_net.specs.Meaning.{signal}
use Rattle.pdl_net.specs.Growth.{Keeps, Extends}
use Rattle.pdl_net.proofs.Keeps.{extends_keeps}
use Rattle.pdl_pipe_exprs.specs.Nets.{NetsThere, signals_in, signal_at, widths_of}
use Rattle.pdl_pipe_exprs.proofs.NetLists.{there_keeps, signals_keep, net_more, length_signals, length_widths}
use Rattle.pdl_law_parts.specs.Walk.{Walk}
use Rattle.pdl_law_parts.specs.Views.{View}
use Rattle.pdl_pipe_walk.specs.Parts.{walk_of}
use Rattle.pdl_pipe_walk.proofs.NetGrowth.{bits_keep, walk_keep, parts_keep}
use Rattle.pdl_pipe_answers.proofs.PortAnswers.{answers_keep}
use Rattle.pdl_pipe_registers.specs.declared.nets.Item.{Item}
use Rattle.pdl_pipe_registers.specs.declared.nets.Item.TheVariants.{Var, Mark, Ticket, Guess}
use Rattle.pdl_pipe_registers.specs.declared.nets.StageRegs.{StageRegs}
use Rattle.pdl_pipe_registers.specs.declared.nets.Shared.{Shared}
use Rattle.pdl_pipe_registers.specs.declared.nets.Earlier.{Earlier}
use Rattle.pdl_pipe_registers.specs.declared.nets.StageNets.{StageNets}
use Rattle.pdl_pipe_registers.specs.Items.{ended_item, item_width, first_value}
use Rattle.pdl_pipe_registers.specs.Stages.{end_of, view_in, views_in, IsFrame, IsBegunBy, IsSettled, IsTwin, IsSpared, AreOwn}
use Rattle.pdl_pipe_registers.specs.Begun.{IsShared, IsEnded, AreEnded, IsEarlier, MayAdd, MayBegin, AreBegun, IsLonger}
use Rattle.pdl_pipe_registers.proofs.Lists.{each_at, each_map, view_at, some_stage, up_to}
use Rattle.pdl_pipe_registers.proofs.RegisterGrowth.{frame_may, own_more, longer_may, by_longer, by_new, by_weaker, may_there, may_wide}
use Rattle.pdl_word.specs.Each.{Each}

-- ---- what all stages share, and the ends of the earlier ones

-- what all stages share stays in a circuit that keeps its nets
pub shared_keep : (a b : Circuit) (f : Form) (x : Shared) → Keeps a b → IsShared a f x → IsShared b f x
shared_keep a b f x e h = record {
  bits = bits_keep a b x.bits e h.bits;
  zeros_there = there_keeps a b x.zeros e h.zeros_there;
  zeros = signals_keep a b x.zeros e h.zeros_there ∙ h.zeros;
  next_there = there_keeps a b x.next e h.next_there;
  next_count = h.next_count;
  ports = answers_keep a b e f.pipe x.ports.now h.ports;
}

-- the nets of the next tickets mean the same in a circuit that keeps them
pub next_keep : (a b : Circuit) (f : Form) (x : Shared) → Keeps a b → IsShared a f x → signals_in b x.next ≡ signals_in a x.next
next_keep a b f x e h = signals_keep a b x.next e h.next_there

end_keep : (a b : Circuit) (f : Form) (nexts : List Signal) (s : StageNets) → Keeps a b → IsEnded a f nexts s → IsEnded b f nexts s
end_keep a b f nexts s e h = record {
  walk = walk_keep a b e f.pipe f.widths s.end h.walk;
  tickets = there_keeps a b s.tickets e h.tickets;
  tickets_wide = ap widths_of (signals_keep a b s.tickets e h.tickets) ∙ h.tickets_wide;
}

-- the ends of stages stay in a circuit that keeps their nets
pub ends_keep : (a b : Circuit) (f : Form) (nexts : List Signal) (ss : List StageNets) → Keeps a b
    → AreEnded a f nexts ss → AreEnded b f nexts ss
ends_keep a b f nexts ss e h = each_map (IsEnded a f nexts) (IsEnded b f nexts) ss (λ s q. end_keep a b f nexts s e q) h

earlier_keep : (a b : Circuit) (f : Form) (nexts : List Signal) (x : Earlier) → Keeps a b → IsEarlier a f nexts x → IsEarlier b f nexts x
earlier_keep a b f nexts x e h = record { ended = ends_keep a b f nexts x.stages.now e h.ended; ways = h.ways; low = h.low; count = h.count; needs = h.needs }

-- by the nets of the next tickets, as they stand in the later circuit
pub earlier_now : (a b : Circuit) (f : Form) (s : Shared) (x : Earlier) → Keeps a b → IsShared a f s
    → IsEarlier a f (signals_in a s.next) x → IsEarlier b f (signals_in b s.next) x
earlier_now a b f s x e h k = subst (λ fs. IsEarlier b f fs x) (sym (next_keep a b f s e h)) (earlier_keep a b f (signals_in a s.next) x e k)

-- ---- what stages end with

ended_keep : (a b : Circuit) (f : Form) (nexts : List Signal) (s : StageNets) (i : Item) → Keeps a b
    → IsEnded a f nexts s → ended_item (view_in b s) i ≡ ended_item (view_in a s) i
ended_keep a b f nexts s (Var x) e h = ap (λ (w : Walk). w.vars x) (ap walk_of (parts_keep a b e s.end h.walk.there))
ended_keep a b f nexts s (Mark mark m n) e h = ap (λ (w : Walk). w.marks mark m n) (ap walk_of (parts_keep a b e s.end h.walk.there))
ended_keep a b f nexts s (Ticket m) e h = ap (λ fs. signal_at fs m) (signals_keep a b s.tickets e h.tickets)
ended_keep a b f nexts s (Guess i) e h = ap (λ (w : Walk). signal_at w.guess i) (ap walk_of (parts_keep a b e s.end h.walk.there))

-- each of some stages ends with the same for an item in a circuit that keeps its nets
pub ends_same : (a b : Circuit) (f : Form) (nexts : List Signal) (ss : List StageNets) (i : Item) → Keeps a b
    → AreEnded a f nexts ss → (j : ℕ) → j < length ss → ended_item (views_in b ss j) i ≡ ended_item (views_in a ss j) i
ends_same a b f nexts ss i e h j l =
    let some = some_stage ss j l in
    let s = some.0 in
    ap (λ v. ended_item v i) (view_at b ss j s l some.1)
    ∙ ended_keep a b f nexts s i e (each_at (IsEnded a f nexts) ss j s l some.1 h)
    ∙ ap (λ v. ended_item v i) (sym (view_at a ss j s l some.1))

-- ---- ways

ways_low : (p : Pipe) (q n j : ℕ) (P : ℕ → Type 0) → ((i : ℕ) → i < j + n → P i) → Each P (ways_from p q n j)
ways_low p q zero j P h = tt
ways_low p q (suc n) j P h = at (leads_to (stage_at p j).next q) (ways_low p q n (suc j) P (λ i l. h i (omega (arith, l))))
  where
    at : (b : Bool) → Each P (ways_from p q n (suc j)) → Each P (if b then j ∷ ways_from p q n (suc j) else ways_from p q n (suc j))
    at true r = (h j (omega arith), r)
    at false r = r

-- what holds of all stages before q holds of those that may lead to q
pub each_way : (p : Pipe) (q : ℕ) (P : ℕ → Type 0) → ((i : ℕ) → i < q → P i) → Each P (ways p q)
each_way p q P h = ways_low p q q 0 P (λ i l. h i (omega (arith, l)))

each_both : (P Q R : ℕ → Type 0) (js : List ℕ) → ((j : ℕ) → P j → Q j → R j) → Each P js → Each Q js → Each R js
each_both P Q R [] f h k = tt
each_both P Q R (j ∷ js) f h k = (f j h.0 k.0, each_both P Q R js f h.1 k.1)

-- what an item is settled by, by other views that end alike
pub settled_as : (p : Pipe) (us vs : ℕ → View) (k : ℕ) (i : Item) (g : Signal)
    → ((j : ℕ) → j < k → ended_item (vs j) i ≡ ended_item (us j) i) → IsSettled p us k i g → IsSettled p vs k i g
settled_as p us vs zero i g same h = h
settled_as p us vs (suc k) i g same h = record {
  constant = h.constant;
  same =
      each_both (λ j. ended_item (vs j) i ≡ ended_item (us j) i) (λ j. ended_item (us j) i ≡ g)
      (λ j. ended_item (vs j) i ≡ g) (ways p (suc k)) (λ j e f. e ∙ f)
      (each_way p (suc k) (λ j. ended_item (vs j) i ≡ ended_item (us j) i) same) h.same;
  unanswered = h.unanswered;
}

-- a register was added or none, with a weaker demand on the signal where none was
pub may_as : (c : Circuit) (r t : StageRegs) (i : Item) (w v : ℕ) (net : Net) (S Settled : Signal → Type 0)
    → ((g : Signal) → S g → Settled g) → MayAdd c r t i w v net S → MayAdd c r t i w v net Settled
may_as c r t i w v net S Settled k (inl m) = inl record { regs = m.regs; net_is = m.net_is; register = m.register }
may_as c r t i w v net S Settled k (inr m) = inr record { regs = m.regs; wide = m.wide; settled = k (signal c net) m.settled }

-- an item begins with a register or none, with a weaker demand on its signal where it has none
pub begin_as : (c : Circuit) (f : Form) (nexts : List Signal) (k : ℕ) (needed : Bool) (r t : StageRegs) (i : Item)
    (net : Net) (S Settled : Signal → Type 0)
    → ((g : Signal) → S g → Settled g) → MayBegin c f nexts k needed r t i net S
    → MayBegin c f nexts k needed r t i net Settled
begin_as c f nexts k needed r t i net S Settled weaker h = record {
  may =
      may_as c r t i (item_width f nexts i) (first_value f.pipe k i) net (λ g. needed ≡ true → S g)
      (λ g. needed ≡ true → Settled g) (λ g q e. weaker g (q e)) h.may;
  own = h.own;
}

-- and what needs no register, where the variables have the same signals
twin_as : (p : Pipe) (us vs : ℕ → View) (k i x : ℕ)
    → ((i : Item) (j : ℕ) → j < k → ended_item (vs j) i ≡ ended_item (us j) i) → IsTwin p us k i x → IsTwin p vs k i x
twin_as p us vs k i x same h = record {
  later = h.later;
  some = h.some;
  same =
      each_both (λ j. j < k) (λ j. ended_item (us j) (Guess i) ≡ ended_item (us j) (Var x))
      (λ j. ended_item (vs j) (Guess i) ≡ ended_item (vs j) (Var x)) (ways p k)
      (λ j l e. same (Guess i) j l ∙ e ∙ sym (same (Var x) j l)) (each_way p k (λ j. j < k) (λ j l. l)) h.same;
  needed = h.needed;
  unanswered = h.unanswered;
}

-- what needs no register needs none by views that end alike, where the variables' signals are the same
pub spared_as : (p : Pipe) (us vs : ℕ → View) (k : ℕ) (fs gs : List Signal) (i : Item) (g : Signal)
    → ((i : Item) (j : ℕ) → j < k → ended_item (vs j) i ≡ ended_item (us j) i) → gs ≡ fs → IsSpared p us k fs i g
    → IsSpared p vs k gs i g
spared_as p us vs k fs gs (Var x) g same e h = settled_as p us vs k (Var x) g (same (Var x)) h
spared_as p us vs k fs gs (Mark mark m a) g same e h = settled_as p us vs k (Mark mark m a) g (same (Mark mark m a)) h
spared_as p us vs k fs gs (Ticket m) g same e h = settled_as p us vs k (Ticket m) g (same (Ticket m)) h
spared_as p us vs k fs gs (Guess i) g same e (inl h) = inl (settled_as p us vs k (Guess i) g (same (Guess i)) h)
spared_as p us vs k fs gs (Guess i) g same e (inr h) =
    inr record { x = h.x; twin = twin_as p us vs k i h.x same h.twin; is = h.is ∙ ap (λ l. signal_at l h.x) (sym e) }

-- ---- lists of nets

-- the signals of some nets and one more are their signals and its own
pub signals_more : (c : Circuit) (xs : List Net) (x : Net) → signals_in c (xs ++ x ∷ []) ≡ signals_in c xs ++ signal c x ∷ []
signals_more c [] x = refl
signals_more c (y ∷ ys) x = ap (λ l. signal c y ∷ l) (signals_more c ys x)

widths_more : (fs : List Signal) (g : Signal) → widths_of (fs ++ g ∷ []) ≡ widths_of fs ++ g.width ∷ []
widths_more [] g = refl
widths_more (f ∷ fs) g = ap (λ l. f.width ∷ l) (widths_more fs g)

-- a net before the one that was added means what it meant
pub signal_old : (c : Circuit) (xs : List Net) (x : Net) (i : ℕ)
    → i < length xs → signal_at (signals_in c (xs ++ x ∷ [])) i ≡ signal_at (signals_in c xs) i
signal_old c xs x i l =
    ap (λ fs. signal_at fs i) (signals_more c xs x)
    ∙ get_or_append_left (signals_in c xs) (signal c x ∷ []) no_signal i (let e = length_signals c xs in omega (arith, l, e))

-- the net that was added means the last of the signals
pub signal_new : (c : Circuit) (xs : List Net) (x : Net) (i : ℕ) → i ≡ length xs → signal_at (signals_in c (xs ++ x ∷ [])) i ≡ signal c x
signal_new c xs x i e =
    ap₂ (λ fs n. signal_at fs n) (signals_more c xs x) (e ∙ sym (length_signals c xs))
    ∙ get_or-append_seam (signals_in c xs) (signal c x) [] no_signal

-- nets of the first widths, with one more
pub record HasNets (c : Circuit) (ws : List ℕ) (xs : List Net) : Type 0 where
  pub there : NetsThere c xs
  pub wide : widths_of (signals_in c xs) ≡ ws

-- there are as many nets as widths that they have
pub nets_long : (c : Circuit) (ws : List ℕ) (xs : List Net) → widths_of (signals_in c xs) ≡ ws → length xs ≡ length ws
nets_long c ws xs e = sym (length_signals c xs) ∙ sym (length_widths (signals_in c xs)) ∙ ap length e

module _ (b c : Circuit) (e : Keeps b c) (ws : List ℕ) (i : ℕ) (xs : List Net) (net : Net) (low : i < length ws)
    (there : NetsThere b xs) (wide : widths_of (signals_in b xs) ≡ take i ws) where
  -- there are i nets so far
  pub push_count : length xs ≡ i
  push_count = let n = nets_long b (take i ws) xs wide in let m = length-take i ws in omega (arith, n, m, low)

  -- with a net of the next width more, there are nets of the first i + 1 widths
  pub push_nets : Rattle.pdl_net.specs.Meaning.IsThere c net → (signal c net).width ≡ slice_index ws i → HasNets c (take (i + 1) ws) (xs ++ net ∷ [])
  push_nets here w = record {
    there = net_more c xs net (there_keeps b c xs e there) here;
    wide = ap widths_of (signals_more c xs net)
        ∙ widths_more (signals_in c xs) (signal c net)
        ∙ ap₂ (λ vs n. vs ++ n ∷ []) (ap widths_of (signals_keep b c xs e there) ∙ wide) w
        ∙ sym (take_more ws i 0 low);
  }

  -- an earlier one is what it was
  pub push_old : (y : ℕ) → y < i → signal_at (signals_in c (xs ++ net ∷ [])) y ≡ signal_at (signals_in b xs) y
  push_old y l = signal_old c xs net y (let n = push_count in omega (arith, l, n)) ∙ ap (λ fs. signal_at fs y) (signals_keep b c xs e there)

  -- the net that was added is the i-th one
  pub push_new : signal_at (signals_in c (xs ++ net ∷ [])) i ≡ signal c net
  push_new = signal_new c xs net i (sym push_count)

-- ---- items of a kind

module _ (f : Form) (nexts : List Signal) (item : ℕ → Item) (needed : ℕ → Bool) (S : ℕ → Signal → Type 0) (ws : List ℕ) where
  -- the nets with which a stage begins stay as they are in a circuit that grew, with more registers
  pub begun_keep : (b c : Circuit) (r t : StageRegs) (xs : List Net) → Keeps b c → IsLonger r t
      → AreBegun b f nexts r item needed S ws xs → AreBegun c f nexts t item needed S ws xs
  begun_keep b c r t xs e l h =
      let same = signals_keep b c xs e h.there in
      record {
        there = there_keeps b c xs e h.there;
        wide = ap widths_of same ∙ h.wide;
        begun = λ i low need. by_longer f nexts r t (item i) (signal_at (signals_in c xs) i) (S i) l
            (subst (λ fs. IsBegunBy f nexts r (item i) (signal_at fs i) (S i)) (sym same) (h.begun i low need));
      }

module _ (f : Form) (nexts : List Signal) (k : ℕ) (item : ℕ → Item) (needed : ℕ → Bool) (S : ℕ → Signal → Type 0) (ws : List ℕ) where
  -- before the first item there are no nets
  pub begun_none : (c : Circuit) (r : StageRegs) → AreBegun c f nexts r item needed S (take 0 ws) []
  begun_none c r = record { there = tt; wide = refl; begun = λ i low. absurd (omega (arith, low)) }

  -- with the net of one item more, the first i + 1 items have their nets
  pub begun_more : (b c : Circuit) (r t : StageRegs) (i : ℕ) (xs : List Net) (net : Net) → i < length ws → Extends b c
      → MayBegin c f nexts k (needed i) r t (item i) net (S i) → item_width f nexts (item i) ≡ slice_index ws i
      → AreBegun b f nexts r item needed S (take i ws) xs → AreBegun c f nexts t item needed S (take (i + 1) ws) (xs ++ net ∷ [])
  begun_more b c r t i xs net low bc may wide h =
      let e = extends_keeps b c bc in
      let W = item_width f nexts (item i) in
      let V = first_value f.pipe k (item i) in
      let N = λ (g : Signal). needed i ≡ true → S i g in
      let nets =
      push_nets b c e ws i xs net low h.there h.wide (may_there c r t (item i) W V net N may.may) (may_wide c r t (item i) W V net N may.may ∙ wide) in
      record {
        there = nets.there;
        wide = nets.wide;
        begun = λ y l need. up_to (λ y. needed y ≡ true → IsBegunBy f nexts t (item y) (signal_at (signals_in c (xs ++ net ∷ [])) y) (S y)) i
            (λ y q n. by_longer f nexts r t (item y) _ (S y) (longer_may c r t (item i) W V net N may.may)
            (subst (λ g. IsBegunBy f nexts r (item y) g (S y)) (sym (push_old b c e ws i xs net low h.there h.wide y q))
            (h.begun y (let m = length-take i ws in omega (arith, q, m, low)) n)))
            (λ n. subst (λ g. IsBegunBy f nexts t (item i) g (S i)) (sym (push_new b c e ws i xs net low h.there h.wide))
            (by_weaker f nexts t (item i) (signal c net) N (S i) (λ q. q n) (by_new f nexts c r t (item i) V net N may.may)))
            y (let m = length-take (i + 1) ws in omega (arith, l, m, low)) need;
      }

-- the first of them, with the registers
pub record SoFar (a c : Circuit) (f : Form) (nexts : List Signal) (k : ℕ) (r0 r : StageRegs) (item : ℕ → Item)
    (needed : ℕ → Bool) (Settled : ℕ → Signal → Type 0) (ws : List ℕ) (xs : List Net) : Type 0 where
  pub extends : Extends a c
  pub frame : IsFrame c f nexts k r
  pub own : AreOwn f k r
  pub longer : IsLonger r0 r
  pub begun : AreBegun c f nexts r item needed Settled ws xs

module _ (a : Circuit) (f : Form) (nexts : List Signal) (k : ℕ) (r0 : StageRegs) (item : ℕ → Item) (needed : ℕ → Bool)
    (S : ℕ → Signal → Type 0) (ws : List ℕ) where
  -- before the first item nothing was added to the registers
  pub sofar_none : IsFrame a f nexts k r0 → AreOwn f k r0 → Extends a a → SoFar a a f nexts k r0 r0 item needed S (take 0 ws) []
  sofar_none frame own none = record {
    extends = none;
    frame = frame;
    own = own;
    longer = Rattle.pdl_pipe_registers.proofs.RegisterGrowth.longer_none r0;
    begun = begun_none f nexts k item needed S ws a r0;
  }

  -- with the net of one item more, with a register of its own or none, the first i + 1 items have theirs
  pub sofar_more : (b c : Circuit) (r t : StageRegs) (i : ℕ) (xs : List Net) (net : Net) → i < length ws → Extends b c
      → MayBegin c f nexts k (needed i) r t (item i) net (S i) → end_of t ≡ length c.regs
      → item_width f nexts (item i) ≡ slice_index ws i
      → SoFar a b f nexts k r0 r item needed S (take i ws) xs → SoFar a c f nexts k r0 t item needed S (take (i + 1) ws) (xs ++ net ∷ [])
  sofar_more b c r t i xs net low bc may last wide h =
      let W = item_width f nexts (item i) in
      let V = first_value f.pipe k (item i) in
      let N = λ (g : Signal). needed i ≡ true → S i g in
      record {
        extends = Rattle.pdl_net.proofs.Keeps.extends_trans a b c h.extends bc;
        frame = frame_may f nexts k b c r t (item i) net N bc may.may last h.frame;
        own = own_more c f k (item i) r t W V net N may.may may.own h.own;
        longer = Rattle.pdl_pipe_registers.proofs.RegisterGrowth.longer_trans r0 r t h.longer (longer_may c r t (item i) W V net N may.may);
        begun = begun_more f nexts k item needed S ws b c r t i xs net low bc may wide h.begun;
      }
