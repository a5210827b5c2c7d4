-- The gates of an emission by what stands beside the stages.
use Rattle.std.proofs.Common.{◌≡◌, refl, sym, ap, ap₂, ◌∙◌, subst, ℕ, zero, suc, ◌<◌, ◌≤◌, ◌⊎◌, inl, inr, Bool, List, [], ◌∷◌, length, arith}
use mathlib.Core.Path.{fun_ext}
use Rattle.std.specs.Prelude.{Option, Some, None, is_some, true}
use Rattle.std.proofs.lemmas.Bool.{cases_lt, false≢true}
use Rattle.std.proofs.lemmas.List.{get_or_past}
use Rattle.pdl_word.specs.Each.{Each}
use Rattle.pdl_word.proofs.Each.{each_weaker}
use Rattle.pdl_semantics.specs.Flat.{Branch, Pipe, Stage}
use Rattle.pdl_semantics.specs.Stages as stages
use Rattle.pdl_form.specs.Sides.{first_of}
use Rattle.pdl_semantics.specs.Stages.{stage_at, last_stage, verify_stage}
use Rattle.pdl_semantics.specs.Updates.{squash_stages}
use Rattle.pdl_net.specs.Circuit.{Circuit}
use Rattle.pdl_net.specs.Signal.{Signal}
use Rattle.pdl_net.specs.Growth.{Keeps}
use Rattle.pdl_net.specs.Well.{IsWell}
use Rattle.pdl_pipe_exprs.specs.Nets.{signals_in, signal_at}
use Rattle.pdl_order.specs.declared.OrderRegs.{OrderRegs}
use Rattle.pdl_port.specs.declared.PortRegs.{PortRegs}
use Rattle.pdl_law_parts.specs.Walk.{Ask, both}
use Rattle.pdl_law_parts.specs.Views.{View, way_on}
use Rattle.pdl_law_sides.specs.Sides.{Sides, branch_turn, answers_of, all_answered, unsquashed, clear_to, barrier_open, ports_open, merge_turn, turn}
use Rattle.pdl_pipe_walk.specs.Locked.{Members, some_at, locks_in}
use Rattle.pdl_pipe_answers.specs.Ports.{answers_in, HasAnswers}
use Rattle.pdl_pipe_answers.proofs.PortAnswers.{answers_keep}
use Rattle.pdl_pipe_answers.proofs.Bits.{memory_answered_same}
use Rattle.pdl_pipe_beside.specs.Beside.{order_first, order_empty}
use Rattle.pdl_pipe_beside.proofs.OrderParts.{is_merged_by}
use Rattle.pdl_pipe_registers.proofs.Lists.{view_at}
use Rattle.pdl_pipe_nexts.specs.Lines.{line_pipe}
use Rattle.pdl_pipe_moves.specs.Gates.{opens_by, turn_by, merge_by, turn_in, HasTurns, IsOrderThere}
use Rattle.pdl_pipe_moves.specs.Signs.{signs_in, gate_by}
use Rattle.pdl_pipe_moves.specs.Passed.{frees_at}
use Rattle.pdl_pipe_moves.proofs.TurnGrowth.{turn_same}
use Rattle.pdl_pipe_emitted.specs.Emitted.{Nets, Emission, views_of, gates_of, sides_of, free_of}
use Rattle.pdl_pipe_emitted.proofs.SidesGrowth.{keeps_ab, keeps_ad, keeps_bd, keeps_cd}
use Rattle.pdl_pipe_emitted.proofs.SidesBegun.{made_now}
use Rattle.pdl_pipe_emitted.proofs.SidesStages.{some_of}
use Rattle.pdl_pipe_emitted.proofs.SidesAsks.{AsksOf, asks_of, opens_as}

-- no thread awaits another answer than it did
all_answered_same : (a b : Circuit) → Keeps a b → (p : Pipe) (ports : List (Option PortRegs)) (k i m : ℕ) → HasAnswers a p ports
    → all_answered p (answers_in b ports) k i m ≡ all_answered p (answers_in a ports) k i m
all_answered_same a b e p ports k zero m h = refl
all_answered_same a b e p ports k (suc i) m h = ap₂ both (memory_answered_same a b e p ports k m h) (all_answered_same a b e p ports k i (suc m) h)

module _ {T : Type 0} (l : Members T) (n : Nets T) (em : Emission l n) where
  abbrev p : Pipe
  p = line_pipe n.line

  abbrev sides : Sides
  sides = sides_of l n em

  abbrev vs : ℕ → View
  vs = views_of l n em

  abbrev ports : List (Option PortRegs)
  ports = n.line.shared.now.ports.now

  -- ---- turns

  orders_there : HasTurns em.a p n.orders
  orders_there q f low merges =
      let inside = em.can.forks q f low merges in
      let count = em.layout.stand_orders.count in
      (omega (arith, inside, count), by (some_at n.orders f) refl (em.layout.stand_orders.some f inside ∙ is_merged_by p f q merges))
    where
      by : (o : Option OrderRegs) → some_at n.orders f ≡ o → is_some o ≡ true → IsOrderThere em.a o
      by None at e = absurd (false≢true e)
      by (Some r) at e = (em.layout.stand_orders.each f r (em.can.forks q f low merges) at).nets

  -- by the orders as what stands beside has them
  turn_as : (o : Option ℕ) (from : List Branch) → merge_by em.d n.orders o from ≡ merge_turn sides o from
  turn_as None from = refl
  turn_as (Some f) from = at (stages.sides_of f from)
    where
      at : (bs : List Bool)
          → turn_by (order_first em.d (some_at n.orders f)) (order_empty em.d (some_at n.orders f)) (first_of bs) ≡ branch_turn (sides.order f) bs
      at [] = refl
      at (b ∷ bs) = refl

  turn_is : (k q : ℕ) → turn_in em.b p n.orders k q ≡ turn p sides k q
  turn_is k q = at (cases_lt q (length p.stages))
    where
      at : (q < length p.stages) ⊎ (length p.stages ≤ q) → turn_in em.b p n.orders k q ≡ turn p sides k q
      at (inl low) =
          turn_same em.a em.b (keeps_ab l n em) p n.orders k q low orders_there
          ∙ sym (turn_same em.a em.d (keeps_ad l n em) p n.orders k q low orders_there)
          ∙ turn_as (stage_at p q).merges (stage_at p k).branches
      at (inr high) =
          let past = get_or_past p.stages q last_stage high in
          ap (λ (s : Stage). merge_by em.b n.orders s.merges (stage_at p k).branches) past
          ∙ sym (ap (λ (s : Stage). merge_turn sides s.merges (stage_at p k).branches) past)

  -- ---- ports

  abbrev frees : ℕ → ℕ → Signal
  frees k = signal_at (signals_in em.b (frees_at n.moves.frees.items k))

  module _ (well : IsWell em.d) (k : ℕ) (low : k < length p.stages) where
    asks_are : Each (AsksOf p k) (vs k).ended.asks
    asks_are =
        let count = em.layout.count in
        let inside : k < length n.line.stages.now = omega (arith, low, count) in
        let s = some_of n.line.stages.now k inside in
        let rows = (made_now l n em k s.0 inside s.1).rows em.d (keeps_cd l n em) well in
        subst (λ (u : View). Each (AsksOf p k) u.ended.asks) (sym (view_at em.c n.line.stages.now k s.0 inside s.1))
        (asks_of em.d p (locks_in l p em.a n.locks) _ k _ _ em.can.reads refl rows)

    opens_are : opens_by (frees k) (vs k).ended.asks ≡ ports_open sides (vs k).ended.asks
    opens_are =
        opens_as (frees k) sides (vs k).ended.asks
        (each_weaker (AsksOf p k) (λ (q : Ask). (sides.port q.mem).free ≡ frees k q.mem)
        (λ q is. ap (λ o. free_of l n em o q.mem) is) (vs k).ended.asks asks_are)

    -- ---- gates

    -- a barrier goes by the stages that are clear up to V
    barrier_as : (q : ℕ) (o : Option ℕ) → verify_stage p.stmts ≡ o → (f : Signal)
        → barrier_open o q f (signal_at (signals_in em.b n.moves.clear.items) q) ≡ barrier_open o q f (clear_to o sides.clear q)
    barrier_as q None e f = refl
    barrier_as q (Some v) e f = ap (λ (g : ℕ → Signal). barrier_open (Some v) q f (g q)) (sym (em.moved.cleared_is v e))

    -- the gate that the nets of a stage go by is that of the law
    pub gate_is : gate_by p vs (signs_in em.b n.line n.orders n.moves.squashes n.moves.clear.items) (frees k) k ≡ (gates_of l n em).gate k
    gate_is =
        let v = verify_stage p.stmts in
        let w = (vs k).ended in
        let squash = unsquashed (squash_stages p.stmts) k sides.squash in
        let barrier = barrier_open v k w.barrier (signal_at (signals_in em.b n.moves.clear.items) k) in
        let answered = all_answered p (answers_of sides) k (length p.mems) 0 in
        let here = answers_keep em.a em.b (keeps_ab l n em) p ports em.layout.shared.ports in
        ap₂ (λ (f g : Signal). both f (both squash (both g (both barrier (way_on (stage_at p k).next (turn_in em.b p n.orders k) w)))))
        (sym (all_answered_same em.b em.d (keeps_bd l n em) p ports k (length p.mems) 0 here)) opens_are
        ∙ ap (λ (turns : ℕ → Signal). both answered (both squash (both (ports_open sides w.asks) (both barrier (way_on (stage_at p k).next turns w)))))
        (fun_ext (turn_is k))
        ∙ ap (λ (f : Signal). both answered (both squash (both (ports_open sides w.asks) (both f (way_on (stage_at p k).next (turn p sides k) w)))))
        (barrier_as k v refl w.barrier)
