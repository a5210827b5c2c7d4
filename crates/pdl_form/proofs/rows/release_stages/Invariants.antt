use Rattle.std.proofs.Common.{◌≡◌, ◌++◌, map, drop}
use Rattle.pdl_semantics.specs.Stages as stages
use Rattle.pdl_form.specs.View.{stmts_view, mems_view}
use Rattle.pdl_form.specs.Form.{stage_of_each}
use Rattle.pdl_form.proofs.rows.release_stages.Given as goal

-- those so far and the rest are all
abbrev pub invariant-loop-m : goal.invariant-loop-m
invariant-loop-m l =
    l.all.items ++ stage_of_each stages.is_release (stmts_view l.stmts) l.m (mems_view (drop l.m l.mems))
    ≡ stage_of_each stages.is_release (stmts_view l.stmts) 0 (mems_view l.mems)
