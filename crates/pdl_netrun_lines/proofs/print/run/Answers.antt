use Rattle.std.proofs.Common.{◌≡◌, map, arith, subst}
use Rattle.std.proofs.lemmas.Grind.{common_steps}
use Rattle.pdl_semantics.specs.Lines.{lines}
use Rattle.pdl_netrun.specs.Sim.{Run, run_at_start}
use Rattle.pdl_law_parts.specs.Runs.{column_of, commit_mems}
use Rattle.pdl_trace.specs.Passed.{Streams}
use Rattle.pdl_netrun_lines.specs.Printed.{cycles_from, schedule}
use Rattle.pdl_netrun_lines.proofs.print.run.Goals as goal

pub returns-clause-text : goal.returns-clause-text
returns-clause-text g c =
    let begun : c.in_ok-sim.sim ≡ run_at_start c.args.net.now c.args.image.now = grind (arith, common_steps) in
    subst
    (λ (s : Run). Streams (g.S.Sink.written c.args.sink.now) (g.S.Sink.written c.print_run.new.sink)
    (g.S.Sink.faults c.args.sink.now) (g.S.Sink.faults c.print_run.new.sink)
    (lines (map column_of (commit_mems s.netlist))
    (cycles_from s.netlist s.held (schedule c.args.schedule.now.delays.now c.args.schedule.now.cycles))) c.print_run.result)
    begun c.print_run.ensures.text
