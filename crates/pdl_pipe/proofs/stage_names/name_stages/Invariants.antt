use Rattle.std.proofs.Common.{ℕ, ◌<◌}
use Rattle.pdl_pipe.specs.NamedNets.{AddsNames, HasStageNames}
use Rattle.pdl_pipe.proofs.stage_names.name_stages.Given as goal

-- names are added, and the first stages have theirs
abbrev pub invariant-loop-stage : goal.invariant-loop-stage
invariant-loop-stage l = record {
  adds : AddsNames l.b l.line l.fn.names.items l.names.items;
  has : (k : ℕ) → k < l.stage → HasStageNames l.b l.line l.names.items k;
}
