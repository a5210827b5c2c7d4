use Rattle.std.proofs.Common.{ℕ, ◌<◌}
use Rattle.pdl_form.specs.FormView.{form}
use Rattle.pdl_order.specs.Laws.{own as order_own}
use Rattle.pdl_pipe_beside.specs.Parts.{own_at, ExtendsParts}
use Rattle.pdl_pipe_beside.specs.Steps.{IsOrderStepped}
use Rattle.pdl_pipe_beside.proofs.order_round.set_orders.Given as goal

-- the orders of the first forks have made their steps
abbrev pub invariant-loop-fork : goal.invariant-loop-fork
invariant-loop-fork l = record {
  stepped : (f : ℕ) → f < l.fork → IsOrderStepped l.fn.b l.b (form l.round.pipe.now).pipe l.round.ends.now l.squashes l.orders f;
  extends : ExtendsParts (own_at order_own l.orders) l.fork l.fn.b l.b;
}
