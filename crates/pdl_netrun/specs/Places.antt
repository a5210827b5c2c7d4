-- Where a memory's commit ports stand among the outputs.
use Rattle.std.specs.Prelude.{ℕ, List, ◌++◌, codes}
use Rattle.pdl_netrun.specs.declared.places.CommitPlaces.{CommitPlaces}
use Rattle.pdl_netrun.specs.declared.places.MemoryPlaces.{MemoryPlaces}
use Rattle.pdl_net.specs.Circuit.{Circuit}
use Rattle.pdl_net.specs.Run.{place_of}

-- where the ports of the first commit of the memory of this name stand among the outputs
abbrev pub first_of : Circuit → List ℕ → CommitPlaces
first_of c mem = record { commit = place_of c (codes "c_" ++ mem); addr = place_of c (codes "ca_" ++ mem); value = place_of c (codes "cd_" ++ mem) }

-- where those of its second one stand
abbrev pub second_of : Circuit → List ℕ → CommitPlaces
second_of c mem = record { commit = place_of c (codes "c2_" ++ mem); addr = place_of c (codes "ca2_" ++ mem); value = place_of c (codes "cd2_" ++ mem) }

-- where those of both stand
abbrev pub places_of : Circuit → List ℕ → MemoryPlaces
places_of c mem = record { first = first_of c mem; second = second_of c mem }
