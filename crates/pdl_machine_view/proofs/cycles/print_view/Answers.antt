use Rattle.std.proofs.Common.{◌++◌, arith, subst}
use Rattle.pdl_netrun_lines.specs.Printed.{schedule}
use Rattle.pdl_trace.specs.Passed.{HasPassed}
use Rattle.pdl_trace.proofs.BytePieces.{prefix_off}
use Rattle.pdl_machine.specs.Running.{flat_of, state_of}
use Rattle.pdl_machine_view.specs.Lines.{lines_from}
use Rattle.pdl_machine_view.proofs.cycles.print_view.Goals as goal

pub returns-in-Err-clause-text : goal.returns-in-Err-clause-text
returns-in-Err-clause-text g c =
    let o = g.S.Sink.written c.args.sink.now in
    let a = g.S.Sink.written c.push_cycles.new.sink in
    let b = g.S.Sink.written c.finish.new.sink in
    let text = lines_from 1 (flat_of c.args.machine.now) (state_of c.args.machine.now) (schedule c.args.delays.now c.args.cycles) in
    let held = c.push_cycles.new.out in
    let passed = subst (λ l. HasPassed o a (l ++ text) held) c.new-out.ensures c.in_ok-push_cycles.ensures.bytes in
    let failed = c.in-Err.ensures.cause.failed in
    (omega (arith, c.push_cycles.ensures.cause.later, failed), prefix_off o a b text held passed c.in-Err.ensures.bytes)
