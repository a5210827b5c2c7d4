use Rattle.std.proofs.Common.{◌≡◌, take, map}
use Rattle.std.specs.Prelude.{slice_index}
use Rattle.pdl_netrun.proofs.wide_cycle.read_places.Given as goal

abbrev pub invariant-loop-k : goal.invariant-loop-k
invariant-loop-k l = take l.k l.out ≡ map (slice_index l.values) (take l.k l.places)
