use Rattle.std.proofs.Common.{◌∙◌, ◌+◌, ◌++◌, arith, sym}
use Rattle.pdl_netrun_lines.specs.Printed.{schedule}
use Rattle.pdl_trace.proofs.BytePieces.{at_last, faulted, step_off, step_on}
use Rattle.pdl_machine.specs.Running.{flat_of, state_of}
use Rattle.pdl_machine_view.specs.Lines.{cycle_line, lines_from}
use Rattle.pdl_machine_view.proofs.ViewedRuns.{left, left_none, same_stages, stages_there, cycle_step}
use Rattle.pdl_machine_view.proofs.cycles.push_cycles.Goals as goal

pub push_line-requires-clause-shown : goal.push_line-requires-clause-shown
push_line-requires-clause-shown g c =
    let old = c.loop-done.machine in
    let there = stages_there old c.cycle.new.self c.bits.result c.cycle.ensures.state c.cycle.ensures.ports c.cycle.ensures.pipe in
    let count = c.requires.stages ∙ sym (same_stages old c.args.machine.now c.loop-done.invariant.pipe) in
    omega (arith, there, count)

pub returns-in_err-push_line-clause-bytes : goal.returns-in_err-push_line-clause-bytes
returns-in_err-push_line-clause-bytes g c =
    let o = g.S.Sink.written c.args.sink.now in
    let a = g.S.Sink.written c.loop-done.sink in
    let b = g.S.Sink.written c.push_line.new.sink in
    let old = c.loop-done.machine in
    let new = c.cycle.new.self in
    let done = c.loop-done.done in
    let cycles = c.args.cycles in
    let delays = c.args.delays.now in
    let stages = c.args.stages in
    let count = c.requires.stages ∙ sym (same_stages old c.args.machine.now c.loop-done.invariant.pipe) in
    let all = c.args.out.now ++ lines_from 1 (flat_of c.args.machine.now) (state_of c.args.machine.now) (schedule delays cycles) in
    let piece = cycle_line (done + 1) new.shown stages in
    let after = left (flat_of new) (state_of new) delays (done + 1) cycles in
    let e =
    cycle_step old new c.bits.result c.cycle.ensures.state c.cycle.ensures.ports c.cycle.ensures.pipe delays done cycles stages c.bits.ensures c.loop-done-test.true count in
    faulted c.from_residual.result o b all c.push_line.new.out c.from_residual.ensures.0
    (step_off o a b all
    (left (flat_of old) (state_of old) delays done cycles) c.loop-done.out piece after e c.loop-done.invariant.way c.in_err-push_line.ensures.bytes)

pub loop-done-preserved : goal.loop-done-preserved
loop-done-preserved g c =
    let o = g.S.Sink.written c.args.sink.now in
    let a = g.S.Sink.written c.loop-done.sink in
    let b = g.S.Sink.written c.push_line.new.sink in
    let old = c.loop-done.machine in
    let new = c.cycle.new.self in
    let done = c.loop-done.done in
    let cycles = c.args.cycles in
    let delays = c.args.delays.now in
    let stages = c.args.stages in
    let i = c.loop-done.invariant in
    let count = c.requires.stages ∙ sym (same_stages old c.args.machine.now i.pipe) in
    let all = c.args.out.now ++ lines_from 1 (flat_of c.args.machine.now) (state_of c.args.machine.now) (schedule delays cycles) in
    let piece = cycle_line (done + 1) new.shown stages in
    let after = left (flat_of new) (state_of new) delays (done + 1) cycles in
    let e =
    cycle_step old new c.bits.result c.cycle.ensures.state c.cycle.ensures.ports c.cycle.ensures.pipe delays done cycles stages c.bits.ensures c.loop-done-test.true count in
    record {
      pipe = c.cycle.ensures.pipe ∙ i.pipe;
      few = omega (arith, c.cycle.ensures.cycles, i.few);
      way =
          step_on o a b all
          (left (flat_of old) (state_of old) delays done cycles) c.loop-done.out piece after e i.way c.push_line.new.out c.in_ok-push_line.ensures.bytes;
      later = omega (arith, i.later, c.push_line.ensures.cause.later);
    }

pub returns-clause-bytes : goal.returns-clause-bytes
returns-clause-bytes g c =
    let m = c.loop-done.machine in
    let delays = c.args.delays.now in
    let done = c.loop-done.done in
    let cycles = c.args.cycles in
    at_last (g.S.Sink.written c.args.sink.now) (g.S.Sink.written c.loop-done.sink)
    (c.args.out.now ++ lines_from 1 (flat_of c.args.machine.now) (state_of c.args.machine.now) (schedule delays cycles))
    (left (flat_of m) (state_of m) delays done cycles) c.loop-done.out
    (left_none (flat_of m) (state_of m) delays done cycles (omega (arith, c.loop-done-test.false))) c.loop-done.invariant.way
