-- Threads of an emission move as the law of a netlist has them move.
use Rattle.std.proofs.Common.{◌≡◌, refl, sym, ap, ◌∙◌, subst, ℕ, zero, suc, ◌<◌, ◌≤◌, ◌==◌, ◌⊎◌, inl, inr, Bool, true, false, length, arith}
use mathlib.Core.Path.{fun_ext}
use Rattle.std.specs.Prelude.{if◌then◌else◌}
use Rattle.std.proofs.lemmas.Bool.{cases_lt, false≢true}
use Rattle.std.proofs.lemmas.List.{get_or_past}
use Rattle.pdl_semantics.specs.Flat as flat
use Rattle.pdl_semantics.specs.Flat.{Next, Pipe}
use Rattle.pdl_semantics.specs.Stages.{stage_at}
use Rattle.pdl_net.specs.Circuit.{State}
use Rattle.pdl_net.specs.Signal.{Signal, no_signal, mux_signal}
use Rattle.pdl_net.specs.Meaning.{signal}
use Rattle.pdl_net.specs.Well.{IsWell, Suits}
use Rattle.pdl_net.proofs.Bounds.{bounded}
use Rattle.pdl_pipe_exprs.specs.Nets.{signals_in, signal_at}
use Rattle.pdl_pipe_exprs.proofs.NetLists.{length_signals}
use Rattle.pdl_law_parts.specs.Walk.{Walk, one, zero_bit, both, is_on}
use Rattle.pdl_law_parts.specs.Views.{View, free, way_on, moves_where, Gates}
use Rattle.pdl_law_parts.specs.Compiled.{Same}
use Rattle.pdl_law_parts.proofs.Signals.{mux_by, one_is, zero_is}
use Rattle.pdl_pipe_walk.specs.Locked.{Members}
use Rattle.pdl_pipe_walk.proofs.Conditions.{below_two}
use Rattle.pdl_pipe_answers.specs.Ports.{IsBit, IsOnAs}
use Rattle.pdl_pipe_registers.proofs.Lists.{each_at}
use Rattle.pdl_pipe_nexts.specs.Lines.{line_pipe, line_views, line_moves}
use Rattle.pdl_pipe_nexts.proofs.LineGrowth.{line_keep, moves_same}
use Rattle.pdl_pipe_moves.specs.Signs.{signs_in, gate_by}
use Rattle.pdl_pipe_moves.specs.Passed.{frees_at}
use Rattle.pdl_pipe_emitted.specs.Emitted.{Nets, Emission, views_of, moves_of, gates_of}
use Rattle.pdl_pipe_emitted.proofs.SidesGrowth.{keeps_cd}
use Rattle.pdl_pipe_emitted.proofs.SidesStages.{some_of, at_signal}
use Rattle.pdl_pipe_emitted.proofs.SidesPorts.{moves_first}
use Rattle.pdl_pipe_emitted.proofs.SidesRemoved.{views_first}
use Rattle.pdl_pipe_emitted.proofs.SidesGates.{gate_is}

-- ---- bits

-- two bits that are 1 together are one
same_bit : (x y : ℕ) → x < 2 → y < 2 → (x == 1) ≡ (y == 1) → x ≡ y
same_bit zero zero a b e = refl
same_bit zero (suc zero) a b e = absurd (false≢true e)
same_bit (suc zero) zero a b e = absurd (false≢true (sym e))
same_bit (suc zero) (suc zero) a b e = refl
same_bit (suc (suc x)) y a b e = absurd (omega (arith, a))
same_bit x (suc (suc y)) a b e = absurd (omega (arith, b))

module _ (s : State) where
  chosen_low : (b : Bool) (x y : ℕ) → x < 2 → y < 2 → (if b then x else y) < 2
  chosen_low true x y l m = l
  chosen_low false x y l m = m

  mux_low : (f g h : Signal) → g.value s < 2 → h.value s < 2 → (mux_signal f g h).value s < 2
  mux_low f g h l m = subst (λ x. x < 2) (sym (mux_by s f g h)) (chosen_low (f.value s == 1) (g.value s) (h.value s) l m)

  one_low : one.value s < 2
  one_low = let e = one_is s in omega (arith, e)

  both_low : (f g : Signal) → g.value s < 2 → (both f g).value s < 2
  both_low f g l = mux_low f g zero_bit l (let e = zero_is s in omega (arith, e))

  free_low : (vs : ℕ → View) (moves : ℕ → Signal) → ((q : ℕ) → (moves q).value s < 2) → (q : ℕ) → (free vs moves q).value s < 2
  free_low vs moves low q = mux_low (vs q).valid (moves q) one (low q) one_low

  way_low : (to : Next) (f : ℕ → Signal) (w : Walk) → ((q : ℕ) → (f q).value s < 2) → (way_on to f w).value s < 2
  way_low flat.Ends f w low = one_low
  way_low (flat.Goes to) f w low = low to
  way_low (flat.Forks x first second) f w low = mux_low (w.vars x) (f first) (f second) (low first) (low second)

  -- whether a thread moves is a bit where that of the later ones is
  where_low : (p : Pipe) (vs : ℕ → View) (gate moves : ℕ → Signal) (k : ℕ) → ((q : ℕ) → (moves q).value s < 2) → (moves_where p vs gate moves k).value s < 2
  where_low p vs gate moves k low =
      let way = way_on (stage_at p k).next (free vs moves) (vs k).ended in
      both_low (vs k).valid (both (vs k).ended.ready (both (gate k) way))
      (both_low (vs k).ended.ready (both (gate k) way)
      (both_low (gate k) way (way_low (stage_at p k).next (free vs moves) (vs k).ended (free_low vs moves low))))

module _ {T : Type 0} (l : Members T) (n : Nets T) (em : Emission l n) (well : IsWell em.d) where
  abbrev p : Pipe
  p = line_pipe n.line

  abbrev vs : ℕ → View
  vs = views_of l n em

  abbrev moves : ℕ → Signal
  moves = moves_of l n em

  abbrev gates : Gates
  gates = gates_of l n em

  -- whether the law lets a thread move
  abbrev allowed : ℕ → Signal
  allowed k = moves_where p vs gates.gate moves k

  moves_low : (s : State) → Suits em.d s → (k : ℕ) → (moves k).value s < 2
  moves_low s suits k =
      subst (λ (f : Signal). f.value s < 2) (moves_same em.c em.d n.line (keeps_cd l n em) em.line k) (at (cases_lt k (length n.line.moves.now)))
    where
      at : (k < length n.line.moves.now) ⊎ (length n.line.moves.now ≤ k) → (line_moves em.d n.line k).value s < 2
      at (inl low) =
          let m = some_of n.line.moves.now k low in
          let bit = each_at (IsBit em.d) n.line.moves.now k m.0 low m.1 (line_keep em.c em.d n.line (keeps_cd l n em) em.line).moves in
          subst (λ (f : Signal). f.value s < 2) (at_signal em.d n.line.moves.now k m.0 low m.1)
          (below_two s (signal em.d m.0) bit.width (bounded em.d s well suits m.0 bit.there))
      at (inr high) =
          let count = length_signals em.d n.line.moves.now in
          subst (λ (f : Signal). f.value s < 2) (sym (get_or_past (signals_in em.d n.line.moves.now) k no_signal (omega (arith, count, high)))) (omega arith)

  -- a thread's net is on where the law lets it move
  on_together : (k : ℕ) → k < length p.stages → IsOnAs (moves k) (allowed k)
  on_together k low =
      let signs = signs_in em.b n.line n.orders n.moves.squashes n.moves.clear.items in
      let frees = signal_at (signals_in em.b (frees_at n.moves.frees.items k)) in
      let first = signal_at (signals_in em.b n.moves.moves.items) in
      let where_by : (ℕ → View) → (ℕ → Signal) → Signal = λ vs ms. moves_where p vs (λ j. gate_by p vs signs frees k) ms k in
      let moved : IsOnAs (first k) (where_by (line_views em.b n.line) first) = (em.moved.passed.each k (omega arith) low).moves in
      λ s.
      subst (λ (ms : ℕ → Signal). is_on (ms k) s ≡ is_on (where_by vs ms) s) (fun_ext (moves_first l n em))
      (subst (λ (vs : ℕ → View). is_on (first k) s ≡ is_on (where_by vs first) s) (views_first l n em) (moved s))
      ∙ ap (λ (g : Signal). is_on (moves_where p vs (λ j. g) moves k) s) (gate_is l n em well k low)

  -- the net of a move has the value by the law in each state of the circuit
  pub leaves : (k : ℕ) → k < length p.stages → Same em.d (moves k) (allowed k)
  leaves k low s suits =
      let bits = moves_low s suits in
      same_bit ((moves k).value s) ((allowed k).value s) (bits k) (where_low s p vs gates.gate moves k bits)
      (on_together k low s)
