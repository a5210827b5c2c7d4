use Rattle.std.proofs.Common.{◌≡◌, ◌∙◌, ◌++◌, ◌==◌, ap, append_assoc, arith, subst, sym}
use Rattle.pdl_trace.proofs.BytePieces.{at_first, faulted, passes_on, step_off}
use Rattle.pdl_trace.specs.Passed.{Passes}
use Rattle.pdl_wave.specs.Moments.{changes}
use Rattle.pdl_wave.specs.Dump.{ended, time_text}
use Rattle.pdl_wave.proofs.Form.{row_length}
use Rattle.pdl_netrun_wave.specs.Cycles.{known, changes_text, cycle_text}
use Rattle.pdl_netrun_wave.proofs.PortWidths.{outputs_count}
use Rattle.pdl_netrun_wave.proofs.Texts.{loud_text, quiet_same}
use Rattle.pdl_netrun_wave.proofs.cycles.push_cycle.Goals as goal

pub is_silent-requires-clause-count : goal.is_silent-requires-clause-count
is_silent-requires-clause-count g c = let n = outputs_count c.args.sim.now.netlist c.args.ports.now c.requires.shown.own in omega (arith, n, c.requires.before)

pub is_silent-requires-clause-ports : goal.is_silent-requires-clause-ports
is_silent-requires-clause-ports g c = let n = row_length c.args.ports.now c.args.sim.now.last.ports c.requires.shown.row in omega (arith, n, c.requires.before)

pub returns-then-is_silent-clause-before : goal.returns-then-is_silent-clause-before
returns-then-is_silent-clause-before g c =
    let row = c.args.sim.now.last.ports in
    let n = row_length c.args.ports.now row c.requires.shown.row in
    quiet_same (c.args.cycle == 1) c.args.before.now row (omega (arith, n, c.requires.before)) (sym c.if-is_silent.ensures)

pub returns-in_err-push-clause-bytes : goal.returns-in_err-push-clause-bytes
returns-in_err-push-clause-bytes g c =
    let o = g.S.Sink.written c.args.sink.now in
    let b = g.S.Sink.written c.push.new.sink in
    let ports = c.args.ports.now in
    let row = c.args.sim.now.last.ports in
    let first = c.args.cycle == 1 in
    let text = cycle_text ports c.args.cycle c.args.before.now row in
    let line = c.as_bytes.result.now in
    let after = changes_text ports (changes 0 (known first c.args.before.now) row) in
    let e : text ≡ line ++ after =
    loud_text ports first c.args.cycle c.args.before.now row (sym c.if-is_silent.ensures)
    ∙ ap (λ l. l ++ after) (sym (c.as_bytes.ensures.bytes ∙ c.time_line-line.ensures ∙ ap (λ k. ended (time_text k)) c.from.ensures)) in
    faulted c.from_residual.result o b (c.args.out.now ++ text) c.push.new.self c.from_residual.ensures.0
    (step_off o o b (c.args.out.now ++ text) text c.args.out.now line after e (at_first o c.args.out.now text) c.in_err-push.ensures.bytes)

pub returns-clause-bytes : goal.returns-clause-bytes
returns-clause-bytes g c =
    let o = g.S.Sink.written c.args.sink.now in
    let a = g.S.Sink.written c.push.new.sink in
    let b = g.S.Sink.written c.push_ports.new.sink in
    let ports = c.args.ports.now in
    let row = c.args.sim.now.last.ports in
    let first = c.args.cycle == 1 in
    let line = c.as_bytes.result.now in
    let after = changes_text ports (changes 0 (known first c.args.before.now) row) in
    let e : line ++ after ≡ cycle_text ports c.args.cycle c.args.before.now row =
    ap (λ l. l ++ after) (c.as_bytes.ensures.bytes ∙ c.time_line-line.ensures ∙ ap (λ k. ended (time_text k)) c.from.ensures)
    ∙ sym (loud_text ports first c.args.cycle c.args.before.now row (sym c.if-is_silent.ensures)) in
    let whole = append_assoc c.args.out.now line after ∙ ap (λ l. c.args.out.now ++ l) e in
    subst (λ l. Passes o b c.push_ports.result l c.push_ports.new.out) whole
    (passes_on o a b
    (c.args.out.now ++ line) c.push.new.self after c.in_ok-push.ensures.bytes c.push_ports.result c.push_ports.new.out c.push_ports.ensures.bytes)
