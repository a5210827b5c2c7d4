use Rattle.std.proofs.Common.{◌≡◌, ◌∙◌, ap, sym, subst}
use Rattle.std.specs.Prelude.{Some, option_map}
use Rattle.pdl_form.specs.FormView.{form}
use Rattle.pdl_net.proofs.Keeps.{extends_keeps}
use Rattle.pdl_port.specs.Laws.{HasBits}
use Rattle.pdl_port.proofs.PortGrowth.{port_keeps}
use Rattle.pdl_machine_inflight.specs.Readings.{reading}
use Rattle.pdl_pipe_answers.specs.Readings.{reading_view}
use Rattle.pdl_pipe_beside.proofs.PortSteps.{some_stepped}
use Rattle.pdl_pipe_beside.proofs.port_round.set_port.Goals as goal

pub step_nets-requires-clause-to : goal.step_nets-requires-clause-to
step_nets-requires-clause-to c =
    c.requires.leads.to c.args.m (reading_view c.in-Some.r) (sym c.read_delayed.ensures ∙ ap (option_map reading_view) c.in-Some.is)

pub emit_port_step-requires-clause-placed : goal.emit_port_step-requires-clause-placed
emit_port_step-requires-clause-placed c =
    let q = c.port_of.result.now in
    let is =
    c.requires.ports.each c.args.m (reading_view c.in-Some.r) q
    (sym c.read_delayed.ensures ∙ ap (option_map reading_view) c.in-Some.is) c.port_of.ensures in
    let a = c.args.b.now in
    let b = c.step_nets.new.b in
    port_keeps a b q (extends_keeps a b c.in_ok-step-in-Some.ensures.extends) is.placed

pub emit_port_step-requires-clause-asked : goal.emit_port_step-requires-clause-asked
emit_port_step-requires-clause-asked c =
    let q = c.port_of.result.now in
    let is =
    c.requires.ports.each c.args.m (reading_view c.in-Some.r) q
    (sym c.read_delayed.ensures ∙ ap (option_map reading_view) c.in-Some.is) c.port_of.ensures in
    subst (HasBits c.step_nets.new.b c.in_ok-step-in-Some.step.asked) (sym is.count) c.in_ok-step-in-Some.ensures.asked.bits

pub emit_port_step-requires-clause-moves : goal.emit_port_step-requires-clause-moves
emit_port_step-requires-clause-moves c =
    let q = c.port_of.result.now in
    let is =
    c.requires.ports.each c.args.m (reading_view c.in-Some.r) q
    (sym c.read_delayed.ensures ∙ ap (option_map reading_view) c.in-Some.is) c.port_of.ensures in
    subst (HasBits c.step_nets.new.b c.in_ok-step-in-Some.step.moves) (sym is.count) c.in_ok-step-in-Some.ensures.moves.bits

pub emit_port_step-requires-clause-removed : goal.emit_port_step-requires-clause-removed
emit_port_step-requires-clause-removed c =
    let q = c.port_of.result.now in
    let is =
    c.requires.ports.each c.args.m (reading_view c.in-Some.r) q
    (sym c.read_delayed.ensures ∙ ap (option_map reading_view) c.in-Some.is) c.port_of.ensures in
    subst (HasBits c.step_nets.new.b c.in_ok-step-in-Some.step.removed) (sym is.count) c.in_ok-step-in-Some.ensures.removed.bits

pub returns-in_ok-emit_port_step-in-Some-clause-stepped : goal.returns-in_ok-emit_port_step-in-Some-clause-stepped
returns-in_ok-emit_port_step-in-Some-clause-stepped c =
    let p = (form c.args.round.now.pipe.now).pipe in
    let es = c.args.round.now.ends.now in
    let qs = c.args.ports.now in
    let m = c.args.m in
    let r = reading_view c.in-Some.r in
    let q = c.port_of.result.now in
    let e : reading p m ≡ Some r = sym c.read_delayed.ensures ∙ ap (option_map reading_view) c.in-Some.is in
    let is = c.requires.ports.each m r q e c.port_of.ensures in
    let s = c.in_ok-step-in-Some.ensures in
    some_stepped c.args.b.now c.step_nets.new.b c.emit_port_step.new.b p es qs m r q c.in_ok-step-in-Some.step e c.port_of.ensures is s.extends s.asked s.moves s.removed c.in_ok-emit_port_step-in-Some.ensures.law
