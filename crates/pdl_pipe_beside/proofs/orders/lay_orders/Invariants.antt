use Rattle.std.proofs.Common.{length}
use Rattle.pdl_form.specs.FormView.{form}
use Rattle.pdl_net.specs.Growth.{Extends}
use Rattle.pdl_order.specs.Laws.{own as order_own}
use Rattle.pdl_pipe_beside.specs.Parts.{AreParts}
use Rattle.pdl_pipe_beside.specs.Orders.{HasOrderOf}
use Rattle.pdl_pipe_beside.proofs.orders.lay_orders.Given as goal

-- the first forks have their orders
abbrev pub invariant-loop-fork : goal.invariant-loop-fork
invariant-loop-fork l = record {
  orders : AreParts order_own (HasOrderOf l.b (form l.pipe).pipe) (length l.fn.b.regs) (length l.b.regs) l.orders.items l.fork;
  extends : Extends l.fn.b l.b;
}
