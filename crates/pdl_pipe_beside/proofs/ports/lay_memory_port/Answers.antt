use Rattle.std.proofs.Common.{◌∙◌, ap, sym, refl}
use Rattle.std.specs.Prelude.{option_map}
use Rattle.pdl_form.specs.FormView.{form}
use Rattle.pdl_pipe_answers.specs.Readings.{reading_view}
use Rattle.pdl_pipe_beside.specs.Ports.{input_at}
use Rattle.pdl_pipe_beside.proofs.PortParts.{port_some}
use Rattle.pdl_pipe_beside.proofs.ports.lay_memory_port.Goals as goal

pub lay_port-requires-clause-leads : goal.lay_port-requires-clause-leads
lay_port-requires-clause-leads c =
    c.requires.leads.onward c.args.m (reading_view c.in-Some.r) (sym c.read_delayed.ensures ∙ ap (option_map reading_view) c.in-Some.is)

pub lay_port-requires-clause-input : goal.lay_port-requires-clause-input
lay_port-requires-clause-input c = c.requires.inputs.each c.args.m c.input_of-input.result c.input_of-input.ensures

pub returns-in_ok-port-in-Some-clause-port : goal.returns-in_ok-port-in-Some-clause-port
returns-in_ok-port-in-Some-clause-port c =
    let p = (form c.args.pipe.now).pipe in
    let r = reading_view c.in-Some.r in
    let s = c.in_ok-port-in-Some.ensures in
    port_some c.lay_port.new.b p c.args.m r c.input_of-input.result
    (input_at c.args.inputs.now c.args.m) c.in_ok-port-in-Some.port
    (sym c.read_delayed.ensures ∙ ap (option_map reading_view) c.in-Some.is) c.input_of-input.ensures
    (s.port r refl) s.reply s.word
