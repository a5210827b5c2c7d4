use Rattle.std.proofs.Common.{◌≡◌, ◌++◌, drop}
use Rattle.pdl_semantics.specs.Stages as stages
use Rattle.pdl_form.specs.View.{stages_view}
use Rattle.pdl_stages.proofs.depth.fork_guards.Given as goal

-- those so far and the rest are all
abbrev pub invariant-loop-stage : goal.invariant-loop-stage
invariant-loop-stage l = l.guards.items ++ stages.fork_guards (stages_view (drop l.stage-index l.all)) ≡ stages.fork_guards (stages_view l.all)
