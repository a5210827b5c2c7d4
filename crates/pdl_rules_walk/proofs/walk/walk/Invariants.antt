use Rattle.std.proofs.Common.{map}
use Rattle.pdl_paths.specs.Actions.{place_view}
use Rattle.pdl_rules_walk.proofs.walk.walk.Given as goal

-- after the places so far
abbrev pub invariant-loop-k : goal.invariant-loop-k
invariant-loop-k g l = g.R.PathRules.stand l.rules l.guards (map place_view l.places) l.path.bits l.k l.courses
