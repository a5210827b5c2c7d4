use Rattle.std.proofs.Common.{◌≡◌, drop}
use Rattle.pdl_form.specs.View.{stages_view}
use Rattle.pdl_semantics.specs.Stages.{list_any, merges_fork}
use Rattle.pdl_semantics.specs.Flat as flat
use Rattle.pdl_machine_run.proofs.orders.merge_among.Given as goal

-- the stages left decide
abbrev pub invariant-loop-stage : goal.invariant-loop-stage
invariant-loop-stage l =
    list_any (λ (x : flat.Stage). merges_fork x.merges l.f) (stages_view (drop l.stage-index l.stages))
    ≡ list_any (λ (x : flat.Stage). merges_fork x.merges l.f) (stages_view l.stages)
