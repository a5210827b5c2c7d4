use Rattle.std.proofs.Common.{◌≡◌, ◌+◌, ◌≤◌, map, drop}
use Rattle.pdl_machine_run.specs.View.{place_view}
use Rattle.pdl_machine_run.specs.Places.{place_index}
use Rattle.pdl_machine_run.proofs.place.index_of.Given as goal

-- none so far is this location
abbrev pub invariant-loop-place : goal.invariant-loop-place
invariant-loop-place l =
    record {
      left : l.i + place_index (map place_view (drop l.place-index l.held)) l.mem l.var ≡ place_index (map place_view l.held) l.mem l.var;
      count : l.i ≤ l.place-index;
    }
