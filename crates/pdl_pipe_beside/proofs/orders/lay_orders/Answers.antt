use Rattle.std.proofs.Common.{◌+◌, List, length, sym, subst}
use Rattle.std.specs.Prelude.{Option}
use Rattle.pdl_form.specs.FormView.{form}
use Rattle.pdl_net.proofs.Keeps.{extends_keeps, extends_trans, regs_grow}
use Rattle.pdl_order.specs.declared.OrderRegs.{OrderRegs}
use Rattle.pdl_order.specs.Laws.{own as order_own}
use Rattle.pdl_pipe_beside.specs.Parts.{AreParts}
use Rattle.pdl_pipe_beside.specs.Orders.{HasOrderOf}
use Rattle.pdl_pipe_beside.proofs.PartLists.{parts_more}
use Rattle.pdl_pipe_beside.proofs.OrderParts.{has_order_stays}
use Rattle.pdl_pipe_beside.proofs.orders.lay_orders.Goals as goal

pub loop-fork-preserved : goal.loop-fork-preserved
loop-fork-preserved c =
    let p = (form c.args.pipe.now).pipe in
    let a = c.args.b.now in
    let b = c.loop-fork.b in
    let d = c.lay_order.new.b in
    let f = c.loop-fork.fork in
    let v = c.loop-fork.invariant in
    let s = c.in_ok-order.ensures in
    let k = extends_keeps b d s.extends in
    let more =
    parts_more order_own (HasOrderOf b p) (HasOrderOf d p)
    (length a.regs) b d c.loop-fork.orders.items c.in_ok-order.order f (has_order_stays b d k p) (regs_grow b d k)
    (regs_grow a b (extends_keeps a b v.extends)) s.new s.order v.orders in
    record {
      orders =
          subst (λ (rs : List (Option OrderRegs)). AreParts order_own (HasOrderOf d p) (length a.regs) (length d.regs) rs (f + 1))
          (sym c.in_ok-push.ensures.items) more;
      extends = extends_trans a b d v.extends s.extends;
    }
