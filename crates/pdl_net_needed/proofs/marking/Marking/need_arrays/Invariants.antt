use Rattle.std.proofs.Common.{flat_map, take}
use Rattle.pdl_net_needed.specs.Needed.{written_from}
use Rattle.pdl_net_needed.specs.Marking.{Adds}
use Rattle.pdl_net_needed.proofs.marking.Marking.need_arrays.Given as goal

abbrev pub invariant-loop-i : goal.invariant-loop-i
invariant-loop-i l = Adds l.fn.self l.self (flat_map written_from (take l.i l.arrays))
