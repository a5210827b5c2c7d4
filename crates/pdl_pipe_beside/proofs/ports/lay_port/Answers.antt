use Rattle.std.proofs.Common.{◌∙◌, ap}
use Rattle.pdl_form.specs.FormView.{form}
use Rattle.pdl_semantics.specs.Flat.{Mem, Next}
use Rattle.std.specs.Prelude.{length}
use Rattle.pdl_machine_inflight.specs.Readings.{places_of}
use Rattle.pdl_pipe_beside.proofs.PortParts.{new_part, own_there, is_port}
use Rattle.pdl_pipe_beside.proofs.ports.lay_port.Goals as goal

pub returns-clause-new : goal.returns-clause-new
returns-clause-new c = new_part c.args.b.now c.emit_port_state.new.b c.in_ok-port.port c.in_ok-port.ensures.fragment

pub returns-clause-port : goal.returns-clause-port
returns-clause-port c r at =
    let p = (form c.args.pipe.now).pipe in
    let a = c.args.b.now in
    let d = c.emit_port_state.new.b in
    let i = c.args.input in
    let q = c.in_ok-port.port in
    let s = c.in_ok-port.ensures in
    is_port d p c.args.m c.args.stage c.in_ok-info.info.width c.place_count-count.result i q
    (c.in_ok-info.ensures ∙ ap (λ (x : Mem). x.width) c.memory.ensures)
    (c.place_count-count.ensures.count ∙ ap (λ (n : Next). length (places_of n)) c.next_of.ensures)
    (s.extends.there i.word c.requires.input.word.there) s.reply s.word s.count s.nets s.placed (own_there a d q s.fragment) s.start s.answers r at
