use Rattle.std.proofs.Common.{◌-◌, drop}
use Rattle.pdl_form.specs.View.{stages_view}
use Rattle.pdl_pipe_lives.specs.Needs.{any_forks_by, AreNotedBut}
use Rattle.pdl_pipe_lives.proofs.needs.note_forks.Given as goal

-- what is left is what the stages from here on fork by
abbrev pub invariant-loop-stage : goal.invariant-loop-stage
invariant-loop-stage l =
    AreNotedBut l.fn.last l.last (λ k x. any_forks_by x (drop (k - l.stage) (stages_view (drop l.stage l.stages))))
    (λ k x. any_forks_by x (drop k (stages_view l.stages)))
