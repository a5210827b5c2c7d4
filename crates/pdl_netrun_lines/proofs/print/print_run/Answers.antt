use Rattle.std.proofs.Common.{◌++◌, arith, map, subst}
use Rattle.pdl_semantics.specs.Lines.{lines}
use Rattle.pdl_law_parts.specs.Runs.{column_of, commit_mems}
use Rattle.pdl_trace.specs.Passed.{HasPassed}
use Rattle.pdl_trace.proofs.BytePieces.{prefix_off}
use Rattle.pdl_netrun_lines.specs.Printed.{cycles_from, schedule}
use Rattle.pdl_netrun_lines.proofs.print.print_run.Goals as goal

pub returns-in-Err-clause-text : goal.returns-in-Err-clause-text
returns-in-Err-clause-text g c =
    let o = g.S.Sink.written c.args.sink.now in
    let a = g.S.Sink.written c.push_run.new.sink in
    let b = g.S.Sink.written c.finish.new.sink in
    let sim = c.args.sim.now in
    let text =
    lines (map column_of (commit_mems sim.netlist))
    (cycles_from sim.netlist sim.held (schedule c.args.schedule.now.delays.now c.args.schedule.now.cycles)) in
    let held = c.push_run.new.out in
    let passed = subst (λ l. HasPassed o a (l ++ text) held) c.new-out.ensures c.in_ok-push_run.ensures.bytes in
    let failed = c.in-Err.ensures.cause.failed in
    (omega (arith, c.push_run.ensures.cause.later, failed), prefix_off o a b text held passed c.in-Err.ensures.bytes)
