use Rattle.std.proofs.Common.{◌≡◌, ◌≤◌, ◌∙◌, ◌<◌, sym, subst, length, get_or, arith}
use Rattle.std.specs.Prelude.{vec_capacity}
use Rattle.std.proofs.lemmas.List.{drop_more}
use Rattle.pdl_word.proofs.Lists.{head_same}
use Rattle.pdl_form.specs.FormView.{form}
use Rattle.pdl_machine_run.specs.declared.beside.Order as r_order
use Rattle.pdl_machine_run.specs.Acts.{acts_of}
use Rattle.pdl_machine_run.specs.Orders.{order_after}
use Rattle.pdl_machine_run.proofs.orders.step_orders.Goals as goal

pub step_order-requires-clause-room : goal.step_order-requires-clause-room
step_order-requires-clause-room c =
    let now = c.loop-f.orders in
    let all = c.args.orders.now in
    let f = c.loop-f.f in
    let d = c.index-orders-f.result in
    let long = c.loop-f.auto.orders in
    let here : f < length now = omega arith in
    let there : f < length all = omega arith in
    let same : get_or now f d ≡ get_or all f d = head_same (sym (drop_more now f d here) ∙ c.loop-f.invariant.left ∙ drop_more all f d there) in
    subst
    (λ (o : r_order.Order). length
    (order_after (form c.args.pipe.now).pipe (acts_of 0 c.args.stages.now) f o.branches.items) ≤ vec_capacity o.branches)
    (sym same) (c.requires.room f d there)
