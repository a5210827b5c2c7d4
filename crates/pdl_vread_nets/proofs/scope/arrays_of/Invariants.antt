use Rattle.std.proofs.Common.{take, map}
use Rattle.pdl_vread_nets.specs.Places.{AreFirsts}
use Rattle.pdl_vread_nets.proofs.scope.arrays_of.Given as goal

abbrev pub invariant-loop-array : goal.invariant-loop-array
invariant-loop-array l = AreFirsts (map (λ d. d.name) (take l.array-index l.arrays)) l.places
