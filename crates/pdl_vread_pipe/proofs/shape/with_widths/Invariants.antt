use Rattle.std.proofs.Common.{◌≡◌, ◌++◌, drop}
use Rattle.pdl_vread_pipe.specs.ToldParts as spec
use Rattle.pdl_vread_pipe.proofs.shape.with_widths.Given as goal

abbrev pub invariant-loop-k : goal.invariant-loop-k
invariant-loop-k l = l.mems ++ spec.mems_from l.k (drop l.k l.names) l.widths l.bits l.twice ≡ spec.mems_from 0 l.names l.widths l.bits l.twice
