use Rattle.std.proofs.Common.{◌++◌, arith, subst}
use Rattle.pdl_trace.specs.Passed.{HasPassed}
use Rattle.pdl_trace.proofs.BytePieces.{prefix_off}
use Rattle.pdl_wave.specs.Dump.{dump}
use Rattle.pdl_netrun_wave.proofs.DumpedRuns.{whole}
use Rattle.pdl_netrun_wave.proofs.run.print_dump.Goals as goal

pub returns-in-Err-clause-text : goal.returns-in-Err-clause-text
returns-in-Err-clause-text g c =
    let o = g.S.Sink.written c.args.sink.now in
    let a = g.S.Sink.written c.push_dump.new.sink in
    let b = g.S.Sink.written c.finish.new.sink in
    let text = dump c.args.heading.now.name.now c.args.heading.now.ports.now (whole c.args.sim.now c.args.schedule.now.delays.now c.args.schedule.now.cycles) in
    let held = c.push_dump.new.out in
    let passed = subst (λ l. HasPassed o a (l ++ text) held) c.new-out.ensures c.in_ok-push_dump.ensures.bytes in
    let failed = c.in-Err.ensures.cause.failed in
    (omega (arith, c.push_dump.ensures.cause.later, failed), prefix_off o a b text held passed c.in-Err.ensures.bytes)
