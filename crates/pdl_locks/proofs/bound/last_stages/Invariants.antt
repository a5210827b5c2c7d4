use Rattle.std.proofs.Common.{◌≡◌, map, take}
use Rattle.pdl_syntax_tree.specs.View.{pipe_view}
use Rattle.pdl_paths.specs.Actions.{place_view}
use Rattle.pdl_locks.specs.Bound.{last_at}
use Rattle.pdl_locks.proofs.bound.last_stages.Given as goal

-- those of the places so far
abbrev pub invariant-loop-place : goal.invariant-loop-place
invariant-loop-place l = l.last.items ≡ map (last_at (pipe_view l.pipe)) (map place_view (take l.place-index l.places))
