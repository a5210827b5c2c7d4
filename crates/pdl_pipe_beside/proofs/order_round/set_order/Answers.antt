use Rattle.std.proofs.Common.{◌∙◌, sym}
use Rattle.pdl_form.specs.FormView.{form}
use Rattle.pdl_net.proofs.Keeps.{extends_keeps}
use Rattle.pdl_order.specs.Laws.{step_signals}
use Rattle.pdl_order.proofs.OrderGrowth.{order_keeps}
use Rattle.pdl_pipe_beside.proofs.OrderSteps.{some_stepped}
use Rattle.pdl_pipe_beside.proofs.order_round.set_order.Goals as goal

pub emit_order_step-requires-clause-placed : goal.emit_order_step-requires-clause-placed
emit_order_step-requires-clause-placed c =
    let r = c.in-Some.order in
    let is = c.requires.orders.each c.args.fork r c.requires.stage (sym c.order_at.ensures ∙ c.in-Some.is) in
    order_keeps c.args.b.now c.order_ports.new.b r (extends_keeps c.args.b.now c.order_ports.new.b c.in_ok-ports-in-Some.ensures.extends) is.placed

pub returns-in_ok-emit_order_step-in-Some-clause-stepped : goal.returns-in_ok-emit_order_step-in-Some-clause-stepped
returns-in_ok-emit_order_step-in-Some-clause-stepped c =
    let r = c.in-Some.order in
    let p = (form c.args.round.now.pipe.now).pipe in
    let e = sym c.order_at.ensures ∙ c.in-Some.is in
    let is = c.requires.orders.each c.args.fork r c.requires.stage e in
    some_stepped c.args.b.now c.emit_order_step.new.b p c.args.round.now.ends.now c.args.squashes c.args.orders.now c.args.fork r
    (step_signals c.order_ports.new.b c.in_ok-ports-in-Some.ports) e is c.in_ok-ports-in-Some.ensures.same c.in_ok-emit_order_step-in-Some.ensures.law
