use Rattle.std.proofs.Common.{◌+◌, ap, ◌∙◌}
use Rattle.pdl_law_parts.specs.Runs.{cycle_of}
use Rattle.pdl_netrun_lines.proofs.RunSteps.{whole, left, sim_step, counted_more}
use Rattle.pdl_netrun_lines.proofs.print.count_cycles.Goals as goal

pub loop-done-preserved : goal.loop-done-preserved
loop-done-preserved c =
    let old = c.loop-done.sim in
    let new = c.run_cycle.new.sim in
    let done = c.loop-done.done in
    let cycles = c.args.schedule.now.cycles in
    let rows = c.args.schedule.now.delays.now in
    let before = left old.netlist old.held rows done cycles in
    let after = left new.netlist new.held rows (done + 1) cycles in
    let all = whole c.args.sim.now.netlist c.args.sim.now.held rows cycles in
    let more = sim_step old new rows done cycles c.run_cycle.ensures c.loop-done-test.true in
    let i = c.loop-done.invariant in
    record {
      netlist = ap (λ r. r.netlist) c.run_cycle.ensures ∙ i.netlist;
      counted =
          counted_more c.loop-done.counts c.with_cycle-counts.result
          (cycle_of new.netlist new.last) before after all done more c.with_cycle-counts.ensures i.counted;
    }
