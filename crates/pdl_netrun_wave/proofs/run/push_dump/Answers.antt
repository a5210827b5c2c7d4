use Rattle.std.proofs.Common.{◌≡◌, ◌∙◌, ◌+◌, ◌++◌, ap, flat_map, length, sym, refl}
use Rattle.pdl_trace.proofs.BytePieces.{at_first, faulted, step_off, step_on}
use Rattle.pdl_wave.specs.Dump.{dump, ended, header, time_text}
use Rattle.pdl_netrun_wave.specs.Cycles.{cycles_text}
use Rattle.pdl_netrun_wave.proofs.Texts.{dump_text}
use Rattle.pdl_netrun_wave.proofs.DumpedRuns.{whole, left_length, finish_on}
use Rattle.pdl_netrun_wave.proofs.run.push_dump.Goals as goal

pub returns-in_err-push_header-clause-bytes : goal.returns-in_err-push_header-clause-bytes
returns-in_err-push_header-clause-bytes g c =
    let o = g.S.Sink.written c.args.sink.now in
    let a = g.S.Sink.written c.push_header.new.sink in
    let ports = c.args.heading.now.ports.now in
    let rows = whole c.args.sim.now c.args.schedule.now.delays.now c.args.schedule.now.cycles in
    let text = dump c.args.heading.now.name.now ports rows in
    let all = c.args.out.now ++ text in
    let head = flat_map ended (header c.args.heading.now.name.now ports) in
    let rest = cycles_text ports 1 c.args.before.now rows ++ ended (time_text (length rows + 1)) in
    faulted c.from_residual.result o a all c.push_header.new.out c.from_residual.ensures.0
    (step_off o o a all text c.args.out.now head rest (dump_text c.args.heading.now.name.now ports rows c.args.before.now)
    (at_first o c.args.out.now text) c.in_err-push_header.ensures.bytes)

pub returns-in_err-push_cycles-clause-bytes : goal.returns-in_err-push_cycles-clause-bytes
returns-in_err-push_cycles-clause-bytes g c =
    let o = g.S.Sink.written c.args.sink.now in
    let a = g.S.Sink.written c.push_header.new.sink in
    let b = g.S.Sink.written c.push_cycles.new.sink in
    let ports = c.args.heading.now.ports.now in
    let rows = whole c.args.sim.now c.args.schedule.now.delays.now c.args.schedule.now.cycles in
    let text = dump c.args.heading.now.name.now ports rows in
    let all = c.args.out.now ++ text in
    let head = flat_map ended (header c.args.heading.now.name.now ports) in
    let cycles = cycles_text ports 1 c.args.before.now rows in
    let end = ended (time_text (length rows + 1)) in
    let way =
    step_on o o a all text c.args.out.now head (cycles ++ end)
    (dump_text c.args.heading.now.name.now ports rows c.args.before.now)
    (at_first o c.args.out.now text) c.push_header.new.out c.in_ok-push_header.ensures.bytes in
    faulted c.from_residual-in_err-push_cycles.result o b all c.push_cycles.new.out c.from_residual-in_err-push_cycles.ensures.0
    (step_off o a b all (cycles ++ end) c.push_header.new.out cycles end refl way c.in_err-push_cycles.ensures.bytes)

pub returns-clause-bytes : goal.returns-clause-bytes
returns-clause-bytes g c =
    let o = g.S.Sink.written c.args.sink.now in
    let a = g.S.Sink.written c.push_header.new.sink in
    let b = g.S.Sink.written c.push_cycles.new.sink in
    let d = g.S.Sink.written c.push.new.sink in
    let ports = c.args.heading.now.ports.now in
    let sim = c.args.sim.now in
    let rows = whole sim c.args.schedule.now.delays.now c.args.schedule.now.cycles in
    let text = dump c.args.heading.now.name.now ports rows in
    let all = c.args.out.now ++ text in
    let head = flat_map ended (header c.args.heading.now.name.now ports) in
    let cycles = cycles_text ports 1 c.args.before.now rows in
    let end = ended (time_text (length rows + 1)) in
    let one =
    step_on o o a all text c.args.out.now head (cycles ++ end)
    (dump_text c.args.heading.now.name.now ports rows c.args.before.now)
    (at_first o c.args.out.now text) c.push_header.new.out c.in_ok-push_header.ensures.bytes in
    let two = step_on o a b all (cycles ++ end) c.push_header.new.out cycles end refl one c.push_cycles.new.out c.in_ok-push_cycles.ensures.bytes in
    let line : end ≡ c.as_bytes.result.now =
    ap (λ k. ended (time_text (k + 1))) (left_length sim.netlist sim.held c.args.schedule.now.delays.now c.args.schedule.now.cycles ∙ sym c.from.ensures)
    ∙ sym (c.as_bytes.ensures.bytes ∙ c.time_line-line.ensures) in
    finish_on o b d all end c.push_cycles.new.out c.as_bytes.result.now line two c.push.result c.push.new.self c.push.ensures.bytes
