use Rattle.std.proofs.Common.{◌≡◌, ◌≤◌, ◌-◌, length, take, map}
use Rattle.std.specs.Prelude.{slice_index}
use Rattle.pdl_netrun.proofs.narrow_cycle.read_places.Given as goal

abbrev pub invariant-loop-out : goal.invariant-loop-out
invariant-loop-out l = record {
  within : l.at ≤ length l.places;
  room : length l.out ≡ length l.places;
  done : take l.at l.out ≡ map (slice_index l.values) (take l.at l.places);
}

abbrev pub decreases-loop-out : goal.decreases-loop-out
decreases-loop-out l = length l.places - l.at

abbrev pub invariant-loop-k : goal.invariant-loop-k
invariant-loop-k l = record {
  room : length l.out ≡ length l.places;
  done : take l.k l.out ≡ map (slice_index l.values) (take l.k l.places);
}
