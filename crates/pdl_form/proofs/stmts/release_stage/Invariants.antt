use Rattle.std.proofs.Common.{◌≡◌, drop}
use Rattle.pdl_semantics.specs.Flatten.{first_stage}
use Rattle.pdl_semantics.specs.Stages as stages
use Rattle.pdl_form.specs.View.{stmts_view}
use Rattle.pdl_form.proofs.stmts.release_stage.Given as goal

-- none before is one
abbrev pub invariant-loop-stmt : goal.invariant-loop-stmt
invariant-loop-stmt l =
    first_stage (stages.is_release l.mem) (stmts_view (drop l.stmt-index l.stmts)) ≡ first_stage (stages.is_release l.mem) (stmts_view l.stmts)
