use Rattle.std.proofs.Common.{flat_map, take}
use Rattle.pdl_net_needed.specs.Needed.{read_by}
use Rattle.pdl_net_needed.specs.Marking.{Adds}
use Rattle.pdl_net_needed.proofs.marking.Marking.need_writes.Given as goal

abbrev pub invariant-loop-i : goal.invariant-loop-i
invariant-loop-i l = Adds l.fn.self l.self (flat_map read_by (take l.i l.ports))
