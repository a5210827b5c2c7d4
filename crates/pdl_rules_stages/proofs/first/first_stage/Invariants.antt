use Rattle.std.proofs.Common.{◌≡◌, [], map, take, drop}
use Rattle.pdl_rules.specs.Stages as spec
use Rattle.pdl_paths.specs.Actions.{place_view}
use Rattle.pdl_rules_stages.specs.Stages.{is_sought}
use Rattle.pdl_rules_stages.proofs.first.first_stage.Given as goal

-- none of those so far is of the kind
abbrev pub invariant-loop-k : goal.invariant-loop-k
invariant-loop-k l =
    spec.first_stage (is_sought l.sought) (take l.k (map place_view l.places)) (drop l.k (map place_view l.places))
    ≡ spec.first_stage (is_sought l.sought) [] (map place_view l.places)
