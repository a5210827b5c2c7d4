use Rattle.std.proofs.Common.{◌≡◌, map, take, ◌++◌}
use Rattle.pdl_paths.specs.Actions.{place_view}
use Rattle.pdl_paths.specs.Declarations.{memory}
use Rattle.pdl_paths.proofs.walk.add_mems.Given as goal

-- those so far are added
abbrev pub invariant-loop-mem : goal.invariant-loop-mem
invariant-loop-mem l = map place_view l.places.items ≡ map place_view l.initial.places.items ++ map memory (take l.mem-index l.mems)
