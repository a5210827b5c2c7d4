use Rattle.std.proofs.Common.{◌≡◌, map, take, ◌++◌}
use Rattle.pdl_paths.specs.Actions.{place_view}
use Rattle.pdl_paths.specs.Declarations.{parameter}
use Rattle.pdl_paths.proofs.walk.add_params.Given as goal

-- those so far are added
abbrev pub invariant-loop-param : goal.invariant-loop-param
invariant-loop-param l = map place_view l.places.items ≡ map place_view l.initial.places.items ++ map parameter (take l.param-index l.params)
