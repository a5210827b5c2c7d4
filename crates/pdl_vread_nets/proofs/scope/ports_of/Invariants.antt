use Rattle.std.proofs.Common.{take, map}
use Rattle.pdl_vread_nets.specs.Places.{AreFirsts}
use Rattle.pdl_vread_nets.proofs.scope.ports_of.Given as goal

abbrev pub invariant-loop-port : goal.invariant-loop-port
invariant-loop-port l = AreFirsts (map (λ d. d.name) (take l.port-index l.ports)) l.places
