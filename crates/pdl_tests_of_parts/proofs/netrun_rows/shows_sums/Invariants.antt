use Rattle.std.proofs.Common.{◌≡◌}
use Rattle.pdl_netrun.specs.Sample.{sample}
use Rattle.pdl_tests_of_parts.proofs.netrun_rows.shows_sums.Given as goal

abbrev pub invariant-loop-sum : goal.invariant-loop-sum
invariant-loop-sum l = l.sim.netlist ≡ sample
