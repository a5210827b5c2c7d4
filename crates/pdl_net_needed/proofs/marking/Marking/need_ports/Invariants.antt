use Rattle.std.proofs.Common.{flat_map, take}
use Rattle.pdl_net.specs.declared.Port.{Port}
use Rattle.pdl_net_needed.specs.Needed.{shown_by}
use Rattle.pdl_net_needed.specs.Marking.{Adds}
use Rattle.pdl_net_needed.proofs.marking.Marking.need_ports.Given as goal

abbrev pub invariant-loop-i : goal.invariant-loop-i
invariant-loop-i l = Adds l.fn.self l.self (flat_map (λ (p : Port). shown_by p.dir) (take l.i l.ports))
