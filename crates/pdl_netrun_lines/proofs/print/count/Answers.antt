use Rattle.std.proofs.Common.{◌≡◌, arith, subst}
use Rattle.std.proofs.lemmas.Grind.{common_steps}
use Rattle.pdl_netrun.specs.Sim.{Run, run_at_start}
use Rattle.pdl_netrun_lines.specs.Printed.{cycles_from, schedule}
use Rattle.pdl_netrun_lines.specs.Tally.{counts_of}
use Rattle.pdl_netrun_lines.proofs.print.count.Goals as goal

pub returns : goal.returns
returns c =
    let begun : c.in_ok-sim.sim ≡ run_at_start c.args.net.now c.args.image.now = grind (arith, common_steps) in
    subst
    (λ (s : Run). c.count_cycles.result
    ≡ counts_of (cycles_from s.netlist s.held (schedule c.args.schedule.now.delays.now c.args.schedule.now.cycles))) begun c.count_cycles.ensures
