use Rattle.std.proofs.Common.{◌≡◌, ◌∙◌, ◌+◌, ◌++◌, ap, arith, map, sym}
use Rattle.pdl_semantics.specs.Lines.{cycle_lines, lines_from}
use Rattle.pdl_net.specs.declared.Netlist.{Netlist}
use Rattle.pdl_law_parts.specs.Runs.{column_of, commit_mems, cycle_of}
use Rattle.pdl_trace.proofs.BytePieces.{step_on, step_off, faulted}
use Rattle.pdl_netrun_lines.proofs.RunSteps.{whole, left, sim_step, lines_step, counted_more}
use Rattle.pdl_netrun_lines.proofs.print.run_cycles.Goals as goal

pub returns-in_err-push_commits-clause-bytes : goal.returns-in_err-push_commits-clause-bytes
returns-in_err-push_commits-clause-bytes g c =
    let o = g.S.Sink.written c.args.sink.now in
    let a = g.S.Sink.written c.loop-done.sink in
    let b = g.S.Sink.written c.push_commits.new.sink in
    let old = c.loop-done.sim in
    let new = c.run_cycle.new.sim in
    let done = c.loop-done.done in
    let cycles = c.args.schedule.now.cycles in
    let rows = c.args.schedule.now.delays.now in
    let n = c.args.sim.now.netlist in
    let one = cycle_of new.netlist new.last in
    let before = left old.netlist old.held rows done cycles in
    let after = left new.netlist new.held rows (done + 1) cycles in
    let columns = map column_of (commit_mems n) in
    let same : new.netlist ≡ n = ap (λ r. r.netlist) c.run_cycle.ensures ∙ c.loop-done.invariant.netlist in
    let piece = cycle_lines (done + 1) (map column_of (commit_mems new.netlist)) one.puts in
    let rest = lines_from (done + 1 + 1) columns after in
    let e : lines_from (done + 1) columns before ≡ piece ++ rest =
    lines_step (done + 1) columns one before after (sim_step old new rows done cycles c.run_cycle.ensures c.loop-done-test.true)
    ∙ ap (λ (m : Netlist). cycle_lines (done + 1) (map column_of (commit_mems m)) one.puts ++ rest) (sym same) in
    let all = c.args.out.now ++ lines_from 1 columns (whole n c.args.sim.now.held rows cycles) in
    faulted c.from_residual.result o b all c.push_commits.new.out c.from_residual.ensures.0
    (step_off o a b all (lines_from (done + 1) columns before) c.loop-done.out piece rest e c.loop-done.invariant.way c.in_err-push_commits.ensures.bytes)

pub loop-done-preserved : goal.loop-done-preserved
loop-done-preserved g c =
    let o = g.S.Sink.written c.args.sink.now in
    let a = g.S.Sink.written c.loop-done.sink in
    let b = g.S.Sink.written c.push_commits.new.sink in
    let old = c.loop-done.sim in
    let new = c.run_cycle.new.sim in
    let done = c.loop-done.done in
    let cycles = c.args.schedule.now.cycles in
    let rows = c.args.schedule.now.delays.now in
    let n = c.args.sim.now.netlist in
    let one = cycle_of new.netlist new.last in
    let before = left old.netlist old.held rows done cycles in
    let after = left new.netlist new.held rows (done + 1) cycles in
    let columns = map column_of (commit_mems n) in
    let i = c.loop-done.invariant in
    let same : new.netlist ≡ n = ap (λ r. r.netlist) c.run_cycle.ensures ∙ i.netlist in
    let more = sim_step old new rows done cycles c.run_cycle.ensures c.loop-done-test.true in
    let piece = cycle_lines (done + 1) (map column_of (commit_mems new.netlist)) one.puts in
    let rest = lines_from (done + 1 + 1) columns after in
    let e : lines_from (done + 1) columns before ≡ piece ++ rest =
    lines_step (done + 1) columns one before after more
    ∙ ap (λ (m : Netlist). cycle_lines (done + 1) (map column_of (commit_mems m)) one.puts ++ rest) (sym same) in
    let all = c.args.out.now ++ lines_from 1 columns (whole n c.args.sim.now.held rows cycles) in
    record {
      netlist = same;
      way =
          step_on o a b all (lines_from (done + 1) columns before) c.loop-done.out piece rest e i.way c.push_commits.new.out c.in_ok-push_commits.ensures.bytes;
      counted =
          counted_more c.loop-done.counts c.with_cycle-counts.result one before after
          (whole n c.args.sim.now.held rows cycles) done more c.with_cycle-counts.ensures i.counted;
      later = omega (arith, i.later, c.push_commits.ensures.cause.later);
    }
