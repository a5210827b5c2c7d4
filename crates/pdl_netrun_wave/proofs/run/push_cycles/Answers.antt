use Rattle.std.proofs.Common.{◌≡◌, ◌∙◌, ◌+◌, ◌++◌, ap, arith, length, sym}
use Rattle.pdl_netrun.specs.Sim.{Run}
use Rattle.pdl_trace.proofs.BytePieces.{faulted, step_off, step_on}
use Rattle.pdl_wave.proofs.Form.{row_length}
use Rattle.pdl_netrun_wave.specs.Cycles.{cycle_text, cycles_text}
use Rattle.pdl_netrun_wave.specs.Dumped.{wave_ports}
use Rattle.pdl_netrun_wave.proofs.DumpedRuns.{whole, left, shown, fit_after, cycle_step}
use Rattle.pdl_netrun_wave.proofs.run.push_cycles.Goals as goal

pub push_cycle-requires-clause-shown : goal.push_cycle-requires-clause-shown
push_cycle-requires-clause-shown g c =
    let i = c.loop-done.invariant in
    shown c.loop-done.sim c.cycle.new.self c.bits.result c.cycle.ensures c.args.ports.now (c.requires.own ∙ ap wave_ports (sym i.netlist)) i.fit

pub returns-in_err-push_cycle-clause-bytes : goal.returns-in_err-push_cycle-clause-bytes
returns-in_err-push_cycle-clause-bytes g c =
    let o = g.S.Sink.written c.args.sink.now in
    let a = g.S.Sink.written c.loop-done.sink in
    let b = g.S.Sink.written c.push_cycle.new.sink in
    let ports = c.args.ports.now in
    let old = c.loop-done.sim in
    let new = c.cycle.new.self in
    let done = c.loop-done.done in
    let cycles = c.args.schedule.now.cycles in
    let delays = c.args.schedule.now.delays.now in
    let all = c.args.out.now ++ cycles_text ports 1 c.args.before.now (whole c.args.sim.now delays cycles) in
    let piece = cycle_text ports (done + 1) c.loop-done.before new.last.ports in
    let after = cycles_text ports (done + 1 + 1) new.last.ports (left new delays (done + 1) cycles) in
    let e = cycle_step old new c.bits.result c.cycle.ensures ports delays done cycles c.loop-done.before c.bits.ensures c.loop-done-test.true in
    faulted c.from_residual.result o b all c.push_cycle.new.out c.from_residual.ensures.0
    (step_off o a b all
    (cycles_text ports (done + 1) c.loop-done.before
    (left old delays done cycles)) c.loop-done.out piece after e c.loop-done.invariant.way c.in_err-push_cycle.ensures.bytes)

pub loop-done-preserved : goal.loop-done-preserved
loop-done-preserved g c =
    let o = g.S.Sink.written c.args.sink.now in
    let a = g.S.Sink.written c.loop-done.sink in
    let b = g.S.Sink.written c.push_cycle.new.sink in
    let ports = c.args.ports.now in
    let old = c.loop-done.sim in
    let new = c.cycle.new.self in
    let done = c.loop-done.done in
    let cycles = c.args.schedule.now.cycles in
    let delays = c.args.schedule.now.delays.now in
    let i = c.loop-done.invariant in
    let all = c.args.out.now ++ cycles_text ports 1 c.args.before.now (whole c.args.sim.now delays cycles) in
    let piece = cycle_text ports (done + 1) c.loop-done.before new.last.ports in
    let before = c.push_cycle.new.before in
    let same : new.last.ports ≡ before = sym c.in_ok-push_cycle.ensures.before in
    let after = cycles_text ports (done + 1 + 1) before (left new delays (done + 1) cycles) in
    let e =
    cycle_step old new c.bits.result c.cycle.ensures ports delays done cycles c.loop-done.before c.bits.ensures c.loop-done-test.true
    ∙ ap (λ vs. piece ++ cycles_text ports (done + 1 + 1) vs (left new delays (done + 1) cycles)) same in
    let row = shown old new c.bits.result c.cycle.ensures ports (c.requires.own ∙ ap wave_ports (sym i.netlist)) i.fit in
    record {
      netlist = ap (λ (r : Run). r.netlist) c.cycle.ensures ∙ i.netlist;
      fit = fit_after old new c.bits.result c.cycle.ensures i.fit;
      count = ap length c.in_ok-push_cycle.ensures.before ∙ row_length ports new.last.ports row.row;
      way =
          step_on o a b all
          (cycles_text ports (done + 1) c.loop-done.before
          (left old delays done cycles)) c.loop-done.out piece after e i.way c.push_cycle.new.out c.in_ok-push_cycle.ensures.bytes;
      later = omega (arith, i.later, c.push_cycle.ensures.cause.later);
    }
