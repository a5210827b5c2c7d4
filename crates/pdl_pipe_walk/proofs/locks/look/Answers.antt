use Rattle.std.proofs.Common.{◌∙◌, ℕ, sym, ap, subst}
use Rattle.std.proofs.lemmas.Result.{IfOk-weaker}
use Rattle.std.specs.Prelude.{is_some}
use Rattle.pdl_lockapi.specs.Laws.{HasValueNet}
use Rattle.pdl_form.specs.FormView.{form}
use Rattle.pdl_semantics.specs.Stages.{mem_at}
use Rattle.pdl_law_parts.specs.Places.{comb_place}
use Rattle.pdl_pipe_walk.proofs.Arrays.{some_array}
use Rattle.pdl_pipe_walk.proofs.locks.look.Goals as goal
use Rattle.pdl_law_parts.proofs.WellFormedMems.{power_one}

pub emit_look-requires-clause-addr : goal.emit_look-requires-clause-addr
emit_look-requires-clause-addr g c =
    let x = c.requires.locks.locks c.args.m c.lock_of-x.result.now c.requires.low c.lock_of-x.ensures in
    record { there = c.requires.addr_there; width = power_one _ _ (c.requires.addr_reach ∙ sym x.bits) }

pub returns-clause-has_value : goal.returns-clause-has_value
returns-clause-has_value g c =
    let x = c.requires.locks.locks c.args.m c.lock_of-x.result.now c.requires.low c.lock_of-x.ensures in
    IfOk-weaker c.emit_look.result _ _
    (λ l h. h ∙ ap is_some x.array
    ∙ some_array (mem_at (form c.args.setting.now.pipe.now).pipe c.args.m)
    (comb_place (form c.args.setting.now.pipe.now).pipe c.args.m)) c.emit_look.ensures.has_value

pub returns-clause-value : goal.returns-clause-value
returns-clause-value g c =
    let x = c.requires.locks.locks c.args.m c.lock_of-x.result.now c.requires.low c.lock_of-x.ensures in
    IfOk-weaker c.emit_look.result _ _ (λ l h. subst (λ (w : ℕ). HasValueNet c.emit_look.new.b w l.value) x.wide h) c.emit_look.ensures.value
