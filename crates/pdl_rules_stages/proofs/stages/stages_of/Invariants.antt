use Rattle.std.proofs.Common.{◌≡◌, map, take}
use Rattle.pdl_paths.specs.Actions.{place_view}
use Rattle.pdl_rules_stages.specs.Stages.{stages_in}
use Rattle.pdl_rules_stages.proofs.stages.stages_of.Given as goal

-- the stages of those so far
abbrev pub invariant-loop-k : goal.invariant-loop-k
invariant-loop-k l = l.stages.items ≡ stages_in (take l.k (map place_view l.places))
