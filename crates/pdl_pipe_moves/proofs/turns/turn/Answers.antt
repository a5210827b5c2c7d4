use Rattle.std.proofs.Common.{◌≡◌, true, refl, sym, ap, ◌∙◌, subst}
use Rattle.std.specs.Prelude.{Option, Some, None, is_some}
use Rattle.pdl_semantics.specs.Flat.{Stage}
use Rattle.pdl_order.specs.declared.OrderRegs.{OrderRegs}
use Rattle.pdl_net.specs.Circuit.{Circuit}
use Rattle.pdl_pipe_walk.specs.Locked.{some_at}
use Rattle.pdl_pipe_moves.specs.Gates.{IsOrderThere}
use Rattle.pdl_pipe_moves.proofs.turns.turn.Goals as goal

some_order : (c : Circuit) (o : Option OrderRegs) → IsOrderThere c o → is_some o ≡ true
some_order c None h = absurd h
some_order c (Some r) h = refl

pub order_of-requires-clause-low : goal.order_of-requires-clause-low
order_of-requires-clause-low c = (c.requires.turns c.args.q c.in-Some.f c.requires.q (ap (λ (s : Stage). s.merges) (sym c.pipe_stage.ensures) ∙ c.in-Some.is)).0

pub order_of-requires-clause-some : goal.order_of-requires-clause-some
order_of-requires-clause-some c =
    some_order c.args.b.now (some_at c.args.orders.now c.in-Some.f)
    (c.requires.turns c.args.q c.in-Some.f c.requires.q (ap (λ (s : Stage). s.merges) (sym c.pipe_stage.ensures) ∙ c.in-Some.is)).1

pub branch_turn-requires-clause-nets : goal.branch_turn-requires-clause-nets
branch_turn-requires-clause-nets c =
    subst (IsOrderThere c.args.b.now) c.order_of.ensures
    (c.requires.turns c.args.q c.in-Some.f c.requires.q (ap (λ (s : Stage). s.merges) (sym c.pipe_stage.ensures) ∙ c.in-Some.is)).1
