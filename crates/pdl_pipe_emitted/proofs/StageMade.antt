-- Each stage of a line is a stage of the law.
use Rattle.std.proofs.Common.{◌≡◌, ℕ, suc, ◌<◌, ◌≤◌, ◌==◌, Bool, true, false, ◌&&◌, inl, inr, List, length, refl, sym, ap, ap₂, ◌∙◌, subst, arith}
use Rattle.std.specs.Prelude.{Some, None, if◌then◌else◌, nat_le, slice_index}
use Rattle.std.proofs.lemmas.Bool.{le-leb, lt-leb}
use Rattle.std.proofs.lemmas.List.{length-take}
use Rattle.pdl_semantics.specs.Flat.{Pipe}
use Rattle.pdl_semantics.specs.Stages.{in_stage, reserve_stage, commit_stage}
use Rattle.pdl_net.specs.declared.Net.TheVariants.{Reg as RegNet}
use Rattle.pdl_net.specs.Circuit.{Circuit, HasReg}
use Rattle.pdl_net.specs.Signal.{Signal, reg_signal, mux_signal}
use Rattle.pdl_net.specs.Meaning.{signal, next_signal}
use Rattle.pdl_net.specs.Growth.{Keeps}
use Rattle.pdl_pipe_exprs.specs.Nets.{signals_in, signal_at}
use Rattle.pdl_pipe_exprs.proofs.NetLists.{length_widths, width_at}
use Rattle.pdl_port.specs.Laws.{AnswerSignals}
use Rattle.pdl_pipe_lives.specs.Needs.{goes_with}
use Rattle.pdl_law_parts.specs.Lives.{verifies_from}
use Rattle.pdl_law_parts.specs.Walk.{Locks, is_locked, zero_bit, IsFresh, AreRows}
use Rattle.pdl_law_parts.specs.Views.{View, Gates, moves_where}
use Rattle.pdl_law_parts.specs.Compiled.{Same, Becomes, StartsAs, IsStage}
use Rattle.pdl_law_parts.proofs.Establish.{becomes_reg, starts_reg}
use Rattle.pdl_pipe_registers.specs.declared.nets.Item.{Item}
use Rattle.pdl_pipe_registers.specs.declared.nets.Item.TheVariants.{Var, Mark, Ticket, Guess}
use Rattle.pdl_pipe_registers.specs.declared.nets.StageNets.{StageNets}
use Rattle.pdl_pipe_registers.specs.Items.{item_at, item_width, is_needed, kept_item}
use Rattle.pdl_pipe_registers.specs.Stages.{reg_of, view_in, IsAt, IsRegister, IsBegunBy, IsSettled, IsAsVariable, IsSpared}
use Rattle.pdl_pipe_registers.specs.Staged.{IsStaged, AreStaged}
use Rattle.pdl_pipe_registers.proofs.Lists.{view_at, some_stage}
use Rattle.pdl_pipe_nexts.specs.declared.line.StageLine.{StageLine}
use Rattle.pdl_pipe_nexts.specs.Lines.{line_form, line_pipe, line_views, line_moves, line_kills, ValueAs}
use Rattle.pdl_pipe_nexts.specs.Nexts.{arriving, kept_signal, staying}
use Rattle.pdl_pipe_emitted.specs.MadeLine.{BeginsFirst, AreNextTickets, IsLineMade}
use Rattle.pdl_pipe_emitted.proofs.LineGrowth.{made_keep}
use Rattle.pdl_pipe_emitted.proofs.SettledItems.{AreShort, calls_short, held_item, settled_stays, arrives_alike, settled_unanswered, held_as_kept}

-- ---- registers

-- a register becomes what has the value of what it takes next
becomes_next : (c : Circuit) (w r : ℕ) (f : Signal) → HasReg c r → ValueAs (next_signal c r) f → Becomes c (reg_signal w r) f
becomes_next c w r f has e s t suits regs = becomes_reg c w r (next_signal c r) has refl s t suits regs ∙ e s

-- a register starts as it was told in an earlier circuit
pub starts_at : (c d : Circuit) → Keeps c d → (w r n : ℕ) → IsRegister c r w n → StartsAs d (reg_signal w r) n
starts_at c d e w r n h = subst (StartsAs d (reg_signal w r)) (e.reset r h.has ∙ h.reset) (starts_reg d w r (e.has_reg r h.has))

-- ---- tickets

-- a ticket that is the thread's own
own_ticket : (p : Pipe) (k m : ℕ) → is_locked p m ≡ true → reserve_stage p m < k → k ≤ commit_stage p m → goes_with p k m ≡ true
own_ticket p k m e low high =
    ap (λ b. b && (nat_le (suc (reserve_stage p m)) k && nat_le k (commit_stage p m))) e
    ∙ ap₂ (λ a b. a && b) (le-leb (suc (reserve_stage p m)) k (omega (arith, low))) (le-leb k (commit_stage p m) high)

-- and one that isn't
no_ticket : (p : Pipe) (k m : ℕ) → k ≤ reserve_stage p m → goes_with p k m ≡ false
no_ticket p k m l =
    ap (λ b. is_locked p m && (b && nat_le k (commit_stage p m))) (lt-leb (suc (reserve_stage p m)) k (omega (arith, l))) ∙ never (is_locked p m)
  where
    never : (b : Bool) → (b && false) ≡ false
    never true = refl
    never false = refl

-- an argument of a guess that is verified later
own_guess : (p : Pipe) (k i : ℕ) → i < length p.start → verifies_from p k ≡ true → is_needed p k (Guess i) ≡ true
own_guess p k i l e = ap₂ (λ a b. a && b) e (le-leb (suc i) (length p.start) (omega (arith, l)))

-- ---- a stage

module _ (a c d : Circuit) (x : StageLine) (nexts : List Signal) (answers : ℕ → ℕ → AnswerSignals) (ls : Locks)
    (begins : BeginsFirst (line_pipe x)) (made : IsLineMade a c d x nexts answers ls) where
  staged : AreStaged c (line_form x) nexts answers ls x.stages.now
  staged = made_keep (line_form x) nexts answers ls x.stages.now a c made.before made.staged

  -- the calls of all stages have as many arguments as there are parameters
  short : (j : ℕ) → j < length (line_pipe x).stages → AreShort (length (line_pipe x).start) (line_views c x j).ended.births
  short j l =
      let count = made.line.count in
      let low : j < length x.stages.now = omega (arith, l, count) in
      let some = some_stage x.stages.now j low in
      let s = some.0 in
      subst (λ (v : View). AreShort (length (line_pipe x).start) v.ended.births) (sym (view_at c x.stages.now j s low some.1))
      (calls_short (line_pipe x) (line_form x).widths (view_in c s).ended.births (staged j s low some.1).walk.sized.births)

  module _ (k : ℕ) (s : StageNets) (low : k < length x.stages.now) (is : IsAt x.stages.now k s) where
    st : IsStaged c (line_form x) nexts answers ls x.stages.now k s
    st = staged k s low is

    -- what the register of an item holds where no thread comes
    module _ (i : Item) (j : ℕ) (l : j < length s.regs.items) (same : item_at s.regs.items j ≡ i)
        (reg : kept_item (view_in c s) i ≡ reg_signal (item_width (line_form x) nexts i) (reg_of s.regs j)) where
      reg_now : signal c (RegNet (reg_of s.regs j)) ≡ reg_signal (item_width (line_form x) nexts i) (reg_of s.regs j)
      reg_now = (st.registers.kept j l).same ∙ ap (λ y. reg_signal (item_width (line_form x) nexts y) (reg_of s.regs j)) same

      kept_is : kept_signal c s j i ≡ held_item (view_in c s) i
      kept_is = by i (reg_now ∙ sym reg)
        where
          by : (i : Item) → signal c (RegNet (reg_of s.regs j)) ≡ kept_item (view_in c s) i → kept_signal c s j i ≡ held_item (view_in c s) i
          by (Var y) e = refl
          by (Mark h m v) e = e
          by (Ticket m) e = e
          by (Guess n) e = e

      takes : ValueAs (next_signal d (reg_of s.regs j)) (arriving c x k (Some i) (held_item (view_in c s) i))
      takes =
          subst (λ g. ValueAs (next_signal d (reg_of s.regs j)) (arriving c x k (Some i) g)) kept_is
          (subst
          (λ (y : Item). ValueAs (next_signal d (reg_of s.regs j)) (arriving c x k (Some y) (kept_signal c s j y))) same
          ((made.takes k s low is).kept j l))

      reg_next : Becomes d (kept_item (view_in c s) i) (arriving c x k (Some i) (held_item (view_in c s) i))
      reg_next =
          subst (λ (g : Signal). Becomes d g (arriving c x k (Some i) (held_item (view_in c s) i))) (sym reg)
          (becomes_next d (item_width (line_form x) nexts i) (reg_of s.regs j)
          (arriving c x k (Some i) (held_item (view_in c s) i))
          (made.after.has_reg (reg_of s.regs j) (st.registers.kept j l).has) takes)

    -- what an item becomes: what the comers bring, else what the stage holds
    abbrev Goes : Item → Type 0
    Goes i = Becomes d (kept_item (view_in c s) i) (arriving c x k (Some i) (held_item (view_in c s) i))

    settled_next : (i : Item) → IsSettled (line_pipe x) (line_views c x) k i (kept_item (view_in c s) i) → Goes i
    settled_next i h =
        let un = settled_unanswered (line_pipe x) begins (line_views c x) k i (kept_item (view_in c s) i) h in
        subst (λ (g : Signal). Becomes d (kept_item (view_in c s) i) (arriving c x k (Some i) g))
        (sym (held_as_kept c (line_form x) nexts answers k s st.nets st.answered i un))
        (settled_stays (line_pipe x) (line_views c x) (line_moves c x) d short k i (kept_item (view_in c s) i) h)

    begun_next : (i : Item) → IsBegunBy (line_form x) nexts s.regs i (kept_item (view_in c s) i) (IsSettled (line_pipe x) (line_views c x) k i) → Goes i
    begun_next i (inl h) = reg_next i h.0 h.1 h.2 h.3
    begun_next i (inr h) = settled_next i h

    -- an argument of the guess that is as a variable becomes what this becomes
    alike_next : (i : ℕ) → IsAsVariable (line_pipe x) (line_views c x) k (signals_in c s.vars) i (kept_item (view_in c s) (Guess i)) → Goes (Guess i)
    alike_next i h =
        let y = h.x in
        let twin = h.twin in
        let held : held_item (view_in c s) (Var y) ≡ kept_item (view_in c s) (Guess i) =
        held_as_kept c (line_form x) nexts answers k s st.nets st.answered (Var y) twin.unanswered ∙ sym h.is in
        let comes =
        arrives_alike (line_pipe x) (line_views c x) (line_moves c x) k (Guess i) (Var y) (held_item (view_in c s) (Guess i)) twin.later twin.same in
        subst (λ (g : Signal). Becomes d (kept_item (view_in c s) (Guess i)) g) (sym comes)
        (subst (λ (g : Signal). Becomes d (kept_item (view_in c s) (Guess i)) (arriving c x k (Some (Var y)) g)) held
        (subst (λ (g : Signal). Becomes d g (arriving c x k (Some (Var y)) (held_item (view_in c s) (Var y))))
        (sym h.is) (begun_next (Var y) (st.kept (Var y) twin.needed))))

    -- each item that is needed becomes so
    item_next : (i : Item) → is_needed (line_pipe x) k i ≡ true → Goes i
    item_next (Var y) need = begun_next (Var y) (st.kept (Var y) need)
    item_next (Mark h m v) need = begun_next (Mark h m v) (st.kept (Mark h m v) need)
    item_next (Ticket m) need = begun_next (Ticket m) (st.kept (Ticket m) need)
    item_next (Guess i) need = by (st.kept (Guess i) need)
      where
        by : IsBegunBy (line_form x) nexts s.regs (Guess i) (kept_item (view_in c s) (Guess i))
            (IsSpared (line_pipe x) (line_views c x) k (signals_in c s.vars) (Guess i))
            → Goes (Guess i)
        by (inl h) = reg_next (Guess i) h.0 h.1 h.2 h.3
        by (inr (inl h)) = settled_next (Guess i) h
        by (inr (inr h)) = alike_next i h

    -- whether it holds a thread becomes whether one comes, else whether its own stays
    valid_next : Becomes d (reg_signal 1 s.regs.valid) (arriving c x k None (staying c x k s))
    valid_next =
        becomes_next d 1 s.regs.valid (arriving c x k None (staying c x k s))
        (made.after.has_reg s.regs.valid st.registers.valid.has) (made.takes k s low is).valid

    guess_count : length (signals_in c s.guess) ≡ length (line_pipe x).start
    guess_count =
        let n = length_widths (signals_in c s.guess) in
        let e = ap length st.nets.guess_wide in
        let t = length-take (length (line_pipe x).start) (line_form x).widths in
        let params = made.line.params in
        omega (arith, n, e, t, params)

    here : line_views c x k ≡ view_in c s
    here = view_at c x.stages.now k s low is

    module _ (gates : Gates) (next_is : AreNextTickets (line_pipe x) ls nexts) (kill : gates.kill k ≡ line_kills c x k)
        (leaves : Same d (line_moves c x k) (moves_where (line_pipe x) (line_views c x) gates.gate (line_moves c x) k)) where
      -- the ticket of each lock is as wide as its next one
      ticket_width : (m : ℕ) → is_locked (line_pipe x) m ≡ true → ((view_in c s).tickets m).width ≡ (ls.ticket m).width
      ticket_width m e =
          let q = next_is m e in
          sym (width_at (signals_in c s.tickets) m) ∙ ap (λ ws. slice_index ws m) st.nets.tickets_wide ∙ width_at nexts m ∙ ap (λ (f : Signal). f.width) q.1

      stage_made : IsStage (line_pipe x) ls d (line_views c x) gates (line_moves c x) k
      stage_made = record {
        rows =
            subst (λ (u : View). AreRows d (line_pipe x) ls u.tickets (in_stage k (line_pipe x).stmts) u.begun u.ended)
            (sym here) (st.rows d made.after made.well);
        fresh =
            subst (λ (u : View). IsFresh u.begun) (sym here)
            (record { ready = refl; reserves = refl; puts = refl; lettings = refl; births = refl; asks = refl; advises = refl; fails = refl; barrier = refl });
        leaves = leaves;
        valid_start =
            subst (λ (u : View). StartsAs d u.valid (if k == 0 then 1 else 0)) (sym here) (starts_at c d made.after 1 s.regs.valid _ st.registers.valid);
        valid =
            subst (λ (u : View). Becomes d u.valid (arriving c x k None (mux_signal (line_moves c x k) zero_bit (mux_signal (gates.kill k) zero_bit u.valid))))
            (sym here)
            (subst
            (λ (g : Signal). Becomes d (reg_signal 1 s.regs.valid)
            (arriving c x k None (mux_signal (line_moves c x k) zero_bit (mux_signal g zero_bit (reg_signal 1 s.regs.valid)))))
            (sym kill) valid_next);
        vars = λ y need. subst (λ (u : View). Becomes d (u.kept y) (arriving c x k (Some (Var y)) (u.begun.vars y))) (sym here) (item_next (Var y) need);
        marks =
            λ h m v need. subst (λ (u : View). Becomes d (u.begun.marks h m v) (arriving c x k (Some (Mark h m v)) (u.begun.marks h m v)))
            (sym here) (item_next (Mark h m v) need);
        guess_long = subst (λ (u : View). length u.begun.guess ≡ length (line_pipe x).start) (sym here) guess_count;
        guess = λ i l need.
            subst (λ (u : View). Becomes d (signal_at u.begun.guess i) (arriving c x k (Some (Guess i)) (signal_at u.begun.guess i))) (sym here)
            (item_next (Guess i) (own_guess (line_pipe x) k i l need));
        tickets_wide = λ m e. subst (λ (u : View). (u.tickets m).width ≡ ls.bits m) (sym here) (let q = next_is m e in ticket_width m e ∙ q.2);
        tickets_first = λ m e l.
            subst (λ (u : View). Same d (u.tickets m) (ls.ticket m)) (sym here)
            (λ t suits. ap (λ (g : Signal). g.value t) (let q = next_is m e in st.tickets m q.0 (no_ticket (line_pipe x) k m l) ∙ q.1));
        tickets = λ m e under over.
            subst (λ (u : View). Becomes d (u.tickets m) (arriving c x k (Some (Ticket m)) (u.tickets m))) (sym here)
            (item_next (Ticket m) (own_ticket (line_pipe x) k m e under over));
      }

  -- each stage is one of the law, round gates that remove the threads that the line removes, where its moves are those of the law
  pub is_stage : (gates : Gates) → AreNextTickets (line_pipe x) ls nexts → (k : ℕ) → k < length (line_pipe x).stages → gates.kill k ≡ line_kills c x k
      → Same d (line_moves c x k) (moves_where (line_pipe x) (line_views c x) gates.gate (line_moves c x) k)
      → IsStage (line_pipe x) ls d (line_views c x) gates (line_moves c x) k
  is_stage gates next_is k l kill leaves =
      let count = made.line.count in
      let low : k < length x.stages.now = omega (arith, l, count) in
      let some = some_stage x.stages.now k low in
      stage_made k some.0 low some.1 gates next_is kill leaves
