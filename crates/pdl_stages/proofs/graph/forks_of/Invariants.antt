use Rattle.std.proofs.Common.{◌≡◌, ◌++◌, drop}
use Rattle.pdl_form.specs.View.{stages_view}
use Rattle.pdl_stages.specs.Graph.{forks_in}
use Rattle.pdl_stages.specs.Forks.{forks_view}
use Rattle.pdl_stages.proofs.graph.forks_of.Given as goal

-- those so far and the rest are all
abbrev pub invariant-loop-merge : goal.invariant-loop-merge
invariant-loop-merge l = forks_view l.forks.items ++ forks_in l.merge (stages_view (drop l.merge l.stages)) ≡ forks_in 0 (stages_view l.stages)
