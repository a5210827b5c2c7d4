use Rattle.std.proofs.Common.{◌≡◌, ◌+◌, ◌-◌, length}
use Rattle.pdl_semantics.specs.Stages as stages
use Rattle.pdl_form.specs.View.{stages_view}
use Rattle.pdl_stages.specs.Graph.{of_stages}
use Rattle.pdl_stages.proofs.depth.stages_on.Given as goal

-- those so far and the rest are all
abbrev pub invariant-loop-count : goal.invariant-loop-count
invariant-loop-count l =
    l.count + stages.stages_on (of_stages (stages_view l.all)) l.path (length l.all - l.count) l.stage ≡ stages.stages_on
    (of_stages (stages_view l.all)) l.path (length l.all) 0
