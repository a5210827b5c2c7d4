use Rattle.std.proofs.Common.{map}
use Rattle.pdl_paths.specs.Actions.{place_view}
use Rattle.pdl_rules_walk.proofs.walk.broken_lines.Given as goal

-- of the paths so far
abbrev pub invariant-loop-bits : goal.invariant-loop-bits
invariant-loop-bits g l = g.R.PathRules.found l.rules l.guards (map place_view l.places) l.bits l.lowest
