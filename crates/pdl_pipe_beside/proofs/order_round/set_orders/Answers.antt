use Rattle.std.proofs.Common.{◌≡◌, ◌+◌, ◌<◌, ◌∙◌, length, sym, ap, arith}
use Rattle.std.proofs.lemmas.List.{length-map}
use Rattle.pdl_form.specs.FormView.{form}
use Rattle.pdl_form.specs.View.{stage_view}
use Rattle.pdl_order.specs.Laws.{own as order_own}
use Rattle.pdl_pipe_beside.specs.Parts.{own_at}
use Rattle.pdl_pipe_beside.proofs.PartLists.{extends_more, parts_wider}
use Rattle.pdl_pipe_beside.proofs.EndGrowth.{ends_keep}
use Rattle.pdl_pipe_beside.proofs.OrderSteps.{orders_stand, stepped_more, no_arrays}
use Rattle.pdl_pipe_beside.proofs.order_round.set_orders.Goals as goal

pub set_order-requires-clause-ends : goal.set_order-requires-clause-ends
set_order-requires-clause-ends c =
    ends_keep c.args.b.now c.loop-fork.b c.loop-fork.invariant.extends.keeps (form c.args.round.now.pipe.now) c.args.round.now.ends.now c.requires.ends

pub set_order-requires-clause-orders : goal.set_order-requires-clause-orders
set_order-requires-clause-orders c =
    orders_stand c.args.b.now c.loop-fork.b (form c.args.round.now.pipe.now).pipe c.args.orders.now c.loop-fork.invariant.extends.keeps c.requires.orders

pub loop-fork-preserved : goal.loop-fork-preserved
loop-fork-preserved c =
    let f = form c.args.round.now.pipe.now in
    let a = c.args.b.now in
    let b = c.loop-fork.b in
    let d = c.set_order.new.b in
    let k = c.loop-fork.fork in
    let rs = c.args.orders.now in
    let v = c.loop-fork.invariant in
    let s = c.in_ok-set_order.ensures in
    let count : length c.stages-fork-end.result.now ≡ length f.pipe.stages =
    sym (length-map c.stages-fork-end.result.now stage_view) ∙ ap length c.stages-fork-end.ensures in
    let low : k < length f.pipe.stages = omega (arith, c.loop-fork-test.true, c.loop-fork.auto.fork-end, count) in
    record {
      stepped =
          stepped_more a f c.args.round.now.ends.now c.args.squashes rs c.requires.squashes c.requires.orders c.requires.ends b d k low
          v.extends.keeps s.extends s.stepped v.stepped;
      extends = extends_more (own_at order_own rs) k a b d (no_arrays rs k) v.extends s.extends;
    }

pub returns-in_err-set_order-clause-extends : goal.returns-in_err-set_order-clause-extends
returns-in_err-set_order-clause-extends c =
    let f = form c.args.round.now.pipe.now in
    let owns = own_at order_own c.args.orders.now in
    let k = c.loop-fork.fork in
    let count : length c.stages-fork-end.result.now ≡ length f.pipe.stages =
    sym (length-map c.stages-fork-end.result.now stage_view) ∙ ap length c.stages-fork-end.ensures in
    let low : k < length f.pipe.stages = omega (arith, c.loop-fork-test.true, c.loop-fork.auto.fork-end, count) in
    parts_wider owns (k + 1) (length f.pipe.stages) c.args.b.now c.set_order.new.b (omega (arith, low))
    (extends_more owns k c.args.b.now c.loop-fork.b c.set_order.new.b (no_arrays c.args.orders.now k) c.loop-fork.invariant.extends c.set_order.ensures.extends)
