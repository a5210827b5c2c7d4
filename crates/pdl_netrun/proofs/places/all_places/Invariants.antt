use Rattle.std.proofs.Common.{◌≡◌, take, map}
use Rattle.pdl_net.specs.Circuit.{circuit_of}
use Rattle.pdl_netrun.specs.Places.{places_of}
use Rattle.pdl_netrun.proofs.places.all_places.Given as goal

abbrev pub invariant-loop-mem : goal.invariant-loop-mem
invariant-loop-mem l = l.places.items ≡ map (λ m. places_of (circuit_of l.net) m.name) (take l.mem-index l.net.mems)
