use Rattle.std.proofs.Common.{◌≡◌, ◌≤◌, ◌∙◌, true, ap, sym, arith}
use Rattle.pdl_form.specs.FormView.{form}
use Rattle.pdl_machine_inflight.specs.Readings.{branch_stages}
use Rattle.pdl_pipe_beside.specs.Orders.{merged_in, is_merged, branches_in}
use Rattle.pdl_pipe_beside.proofs.OrderParts.{merged_by, new_order, order_some}
use Rattle.pdl_pipe_beside.proofs.orders.lay_order.Goals as goal

pub order_size-requires : goal.order_size-requires
order_size-requires c =
    let p = (form c.args.pipe.now).pipe in
    let f = c.args.fork in
    let merged : is_merged p f ≡ true = sym (c.is_merged.ensures ∙ ap (λ ss. merged_in ss f) c.stages.ensures) ∙ c.if-not-is_merged.false in
    let few = c.requires.fit.few f (merged_by p f merged).0 (merged_by p f merged).1 in
    let is : c.branch_count-count.result ≡ branch_stages p f = c.branch_count-count.ensures ∙ ap (λ ss. branches_in ss f) c.stages-2.ensures in
    omega (arith, few, is)

pub returns-clause-new : goal.returns-clause-new
returns-clause-new c = new_order c.args.b.now c.emit_order_state.new.b c.in_ok-order.order c.in_ok-order.ensures.fragment

pub returns-clause-order : goal.returns-clause-order
returns-clause-order c =
    let p = (form c.args.pipe.now).pipe in
    let f = c.args.fork in
    let s = c.in_ok-order.ensures in
    let merged : is_merged p f ≡ true = sym (c.is_merged.ensures ∙ ap (λ ss. merged_in ss f) c.stages.ensures) ∙ c.if-not-is_merged.false in
    let is : c.branch_count-count.result ≡ branch_stages p f = c.branch_count-count.ensures ∙ ap (λ ss. branches_in ss f) c.stages-2.ensures in
    let fits : branch_stages p f ≤ c.in_ok-order.order.stages = omega (arith, is, c.order_size.ensures.fits, s.stages) in
    order_some c.args.b.now c.emit_order_state.new.b p f c.in_ok-order.order merged fits s.fragment s.nets s.placed s.start s.first
