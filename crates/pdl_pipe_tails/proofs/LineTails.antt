-- The tails of a line as the law of a netlist takes them.
use Rattle.std.proofs.Common.{◌≡◌, refl, sym, ap, ap₂, ◌∙◌, subst, ℕ, ◌+◌, ◌%◌, ◌^◌, ◌<◌, ◌≤◌, ◌==◌, Bool, true, false, ◌&&◌, List, [], ◌∷◌, ◌++◌, length, get_or, arith}
use Rattle.std.specs.Prelude.{nat_lt, Option, Some, None}
use Rattle.std.proofs.lemmas.Bool.{lt-ltb, le-ltb, ne_eqb}
use Rattle.std.proofs.lemmas.List.{get_or_past}
use Rattle.pdl_semantics.specs.Flat.{Pipe}
use Rattle.pdl_semantics.specs.Stages.{reserve_stage, verify_stage}
use Rattle.pdl_semantics.specs.Updates.{update_stage, listed, squash_stages}
use Rattle.pdl_semantics.proofs.SquashStages.{update_before}
use Rattle.pdl_net.specs.Circuit.{Circuit, State, HasReg}
use Rattle.pdl_net.specs.Signal.{Signal, mux_signal, reg_signal, reg_value}
use Rattle.pdl_net.specs.Meaning.{signal, next_signal}
use Rattle.pdl_net.specs.declared.Net.{Net}
use Rattle.pdl_net.specs.Growth.{Keeps}
use Rattle.pdl_net.proofs.Keeps.{next_reg}
use Rattle.pdl_lockapi.specs.Lock.{LockState, next_ticket}
use Rattle.pdl_lockapi.specs.Laws.{holds_ticket, asked_addresses}
use Rattle.pdl_pipe_exprs.specs.Nets.{signals_in, signal_at}
use Rattle.pdl_pipe_exprs.proofs.NetLists.{length_signals}
use Rattle.pdl_law_parts.specs.Walk.{Locks, is_locked}
use Rattle.pdl_law_parts.specs.Views.{View, Gates, Comer, comers, first_coming}
use Rattle.pdl_law_parts.specs.Ports.{all_reserves}
use Rattle.pdl_law_parts.specs.Compiled.{Becomes}
use Rattle.pdl_law_parts.proofs.StageLooks.{lock_there}
use Rattle.pdl_law_sides.specs.Sides.{Sides, of_squasher, with_tickets}
use Rattle.pdl_law_sides.specs.HasSides.{HasTails}
use Rattle.pdl_pipe_walk.proofs.Choices.{choice_at}
use Rattle.pdl_pipe_nexts.specs.declared.line.StageLine.{StageLine}
use Rattle.pdl_pipe_nexts.specs.Lines.{line_pipe, line_views, line_moves, IsLineIn}
use Rattle.pdl_pipe_nexts.proofs.BroughtItems.{after_first}
use Rattle.pdl_pipe_tails.specs.declared.whole.TailNets.{TailNets}
use Rattle.pdl_pipe_tails.specs.Reserved.{IsAfterAll}
use Rattle.pdl_pipe_tails.specs.Carried.{coming_tail, IsCarried}
use Rattle.pdl_pipe_tails.specs.Tails.{tails_in, AreTails, IsCut, IsStageTail, IsNextOf, GoOn}
use Rattle.pdl_pipe_tails.proofs.AllRows.{same_before}

-- ---- which tails are carried

past : (b : Bool) (n k : ℕ) → b ≡ true → n < k → (b && nat_lt n k) ≡ true
past b n k e l = ap (λ c. c && nat_lt n k) e ∙ lt-ltb n k l

not_past : (b : Bool) (n k : ℕ) → k ≤ n → (b && nat_lt n k) ≡ false
not_past true n k l = le-ltb n k l
not_past false n k l = refl

not_first : (k : ℕ) → 0 < k → (k == 0) ≡ false
not_first k l = ne_eqb k 0 (λ e. absurd (omega (arith, e, l)))

-- ---- registers

register_becomes : (c d : Circuit) (r w : ℕ) (g taken : Signal) → Keeps c d
    → g ≡ reg_signal w r → HasReg c r → next_signal d r ≡ next_signal c r
    → ((s : State) → (next_signal c r).value s ≡ taken.value s) → Becomes d g taken
unfolding reg_value
register_becomes c d r w g taken e is has same takes = λ s t suits next.
    ap (λ (f : Signal). f.value t) is
    ∙ ap (λ xs. get_or xs r 0) next
    ∙ next_reg d s r (e.has_reg r has)
    ∙ ap (λ (f : Signal). f.value s) same
    ∙ takes s

carried_becomes : (a c d : Circuit) (g taken : Signal) → Keeps c d → GoOn a c d → IsCarried c (length a.regs) g taken → Becomes d g taken
carried_becomes a c d g taken e on h = register_becomes c d h.reg g.width g taken e h.same h.has (on h.reg h.above h.has) h.takes

-- ---- a ticket after reservations

holds_after : (a : Circuit) (x : StageLine) (ls : Locks) (m n : ℕ) (g : Signal) (s : State) (y : LockState)
    → IsNextOf a x ls m → length x.stages.now ≡ n → IsAfterAll a x m g → ls.stands m s y
    → holds_ticket (ls.bits m) g s (next_ticket y + length (asked_addresses s (all_reserves m (line_views a x) (line_moves a x) n 0)))
holds_after a x ls m n g s y next count after stand =
    let f = signal_at (signals_in a x.shared.now.next) m in
    let w : f.width ≡ ls.bits m = ap (λ (h : Signal). h.width) next.ticket ∙ next.wide in
    let now : f.value s ≡ next_ticket y % 2 ^ f.width =
    ap (λ (h : Signal). h.value s) next.ticket ∙ next.law.holds s y stand ∙ ap (λ i. next_ticket y % 2 ^ i) (sym w) in
    after.holds s (next_ticket y) now
    ∙ ap₂ (λ i j. (next_ticket y + length (asked_addresses s (all_reserves m (line_views a x) (line_moves a x) j 0))) % 2 ^ i) w count

-- ---- all of it

module _ (a c d : Circuit) (x : StageLine) (verify : Net) (t : TailNets) (v : ℕ) (ls : Locks) (line : IsLineIn a x)
    (made : AreTails a c x verify t v) (verified : verify_stage (line_pipe x).stmts ≡ Some v) (keeps : Keeps c d) (on : GoOn a c d)
    (next : (m : ℕ) → is_locked (line_pipe x) m ≡ true → IsNextOf a x ls m) where
  abbrev p : Pipe
  p = line_pipe x

  abbrev vs : ℕ → View
  vs = line_views a x

  abbrev moves : ℕ → Signal
  moves = line_moves a x

  abbrev tails : ℕ → ℕ → Signal
  tails = tails_in c t

  tail_is : (k m : ℕ) → is_locked p m ≡ true → k ≤ v → IsStageTail a c x tails k m (tails k m)
  tail_is k m locked high =
      let stage = made.each k high in
      let low = lock_there p m locked in
      let long = stage.count in
      let mems = line.shared.next_count in
      stage.each m (omega (arith, low, long, mems))

  first_is : (k m : ℕ) → is_locked p m ≡ true → k ≤ v → k ≤ reserve_stage p m → (s : State) (y : LockState) → ls.stands m s y
      → holds_ticket (ls.bits m) (tails k m) s (next_ticket y + length (asked_addresses s (all_reserves m vs moves (length p.stages) 0)))
  first_is k m locked high low s y stand =
      holds_after a x ls m (length p.stages)
      (tails k m) s y (next m locked) line.count ((tail_is k m locked high).first (not_past (is_locked p m) (reserve_stage p m) k low)) stand

  carried_is : (k m : ℕ) → is_locked p m ≡ true → k ≤ v → reserve_stage p m < k
      → Becomes d (tails k m) (first_coming (λ (o : Comer). o.tickets m) (comers p (with_tickets vs tails) moves k) (tails k m))
  carried_is k m locked high low =
      let g = tails k m in
      let coming =
      ap (λ os. first_coming (λ (o : Comer). o.tickets m) os g) (after_first p (with_tickets vs tails) moves k (not_first k (omega (arith, low)))) in
      subst (Becomes d g) coming
      (carried_becomes a c d g (coming_tail p vs moves tails k m g) keeps on
      ((tail_is k m locked high).carried (past (is_locked p m) (reserve_stage p m) k locked low)))

  last_is : (m : ℕ) → signal_at (signals_in c t.last) m ≡ tails v m
  last_is m =
      let count = made.count in sym (ap (λ (row : List Net). signal_at (signals_in c row) m) (get_or_past t.before.items v t.last (omega (arith, count))))

  -- the locks are cut at the tails of the stage that squashes, where V squashes as this says
  cut_is : (squash : ℕ → Signal) → squash v ≡ signal c verify → (m : ℕ) → is_locked p m ≡ true
      → signal_at (signals_in c t.cut) m ≡ of_squasher (squash_stages p.stmts) squash (λ z. tails z m) (tails v m)
  cut_is squash is m locked =
      at (update_stage p.stmts) refl made.cut
      ∙ sym (ap (λ o. of_squasher (listed o ++ listed (update_stage p.stmts)) squash (λ z. tails z m) (tails v m)) verified)
    where
      at : (o : Option ℕ) → update_stage p.stmts ≡ o → IsCut c c verify t.before.items t.last t.cut o
          → signal_at (signals_in c t.cut) m ≡ of_squasher (v ∷ listed o) squash (λ z. tails z m) (tails v m)
      at None e h = ap (λ (row : List Net). signal_at (signals_in c row) m) h ∙ last_is m
      at (Some u) e h =
          let early : u < v = update_before p.stmts u v e verified in
          let count = made.count in
          let own : get_or t.before.items v t.last ≡ t.last = get_or_past t.before.items v t.last (omega (arith, count)) in
          let row : get_or t.before.items u t.last ≡ get_or t.before.items u [] = same_before t.before.items t.last v count u early in
          let long : length t.last ≡ length x.shared.now.next = ap length (sym own) ∙ (made.each v (omega arith)).count in
          let also : length (get_or t.before.items u []) ≡ length x.shared.now.next = ap length (sym row) ∙ (made.each u (omega (arith, early))).count in
          let mems = line.shared.next_count in
          let low = lock_there p m locked in
          let n = length_signals c t.last in
          let k = length_signals c (get_or t.before.items u []) in
          ap (λ fs. signal_at fs m) h
          ∙ choice_at (signal c verify) (signals_in c t.last) (signals_in c (get_or t.before.items u [])) m
          (omega (arith, low, mems, long, n)) (omega (arith, n, k, long, also))
          ∙ ap₂ (λ o f. mux_signal o f (signal_at (signals_in c (get_or t.before.items u [])) m)) (sym is) (last_is m)
          ∙ ap (mux_signal (squash v) (tails v m)) (ap (λ (ns : List Net). signal_at (signals_in c ns) m) (sym row))

  -- in each later circuit that lets their registers go on, the nets that were made are the tails of the line's threads
  pub has_tails : (gates : Gates) (sides : Sides) → sides.tails ≡ tails → sides.squash v ≡ signal c verify
      → ((m : ℕ) → gates.tail m ≡ signal_at (signals_in c t.cut) m) → HasTails p ls d vs gates moves sides v
  has_tails gates sides is squash cut = record {
    first = λ k m locked high low s suits y stand. ap (λ (f : ℕ → ℕ → Signal). (f k m).value s) is ∙ first_is k m locked high low s y stand;
    carried =
        λ k m locked high low. subst
        (λ (f : ℕ → ℕ → Signal). Becomes d (f k m) (first_coming (λ (o : Comer). o.tickets m) (comers p (with_tickets vs f) moves k) (f k m)))
        (sym is) (carried_is k m locked high low);
    tail =
        λ m locked s suits. ap (λ (f : Signal). f.value s)
        (cut m ∙ cut_is sides.squash squash m locked
        ∙ ap (λ (f : ℕ → ℕ → Signal). of_squasher (squash_stages p.stmts) sides.squash (λ z. f z m) (f v m)) (sym is));
  }
