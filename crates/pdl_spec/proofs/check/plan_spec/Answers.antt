use Rattle.std.proofs.Common.{◌∙◌, refl, ap, ap₂, ℕ, [], ◌∷◌, Option}
use Rattle.std.proofs.lemmas.Result.{err_from_is_err_and}
use Rattle.pdl_kit.specs.declared.rule.Rule.TheVariants.{S1, S2, S3, S4, S5, S6, S7}
use Rattle.pdl_syntax_tree.specs.View.{pipe_view}
use Rattle.pdl_rules.specs.Places.{places}
use Rattle.pdl_rules_on_paths.specs.Lowest.{line_where}
use Rattle.pdl_rules_on_paths.proofs.Lines.{rule_lines}
use Rattle.pdl_rules.specs.Speculation.{is_update}
use Rattle.pdl_rules.specs.Stages.{first_stage}
use Rattle.pdl_rules_stages.specs.declared.astray.Kinds.TheVariants.{Verifies, Updates}
use Rattle.pdl_rules_stages.specs.Astray.{is_astray}
use Rattle.pdl_locks.proofs.LowestRule.{told, later, none_more}
use Rattle.pdl_spec.specs.declared.plan.SpecPlan.{SpecPlan}
use Rattle.pdl_spec.proofs.check.plan_spec.Goals as goal

-- the plan of these stages
abbrev planned : Option ℕ → Option ℕ → SpecPlan
planned v u = record { verified = v; updated = u }

pub returns-in_err-refuse : goal.returns-in_err-refuse
returns-in_err-refuse c =
    let p = pipe_view c.args.pipe.now in
    let e = err_from_is_err_and c.from_residual.result c.from_residual.ensures.1 in
    rw (e.1, e.2) (
    told S1 (S2 ∷ S3 ∷ S4 ∷ S5 ∷ S6 ∷ S7 ∷ []) p _ _ c.in_err-refuse.ensures c.requires.lines.one_call)

pub returns-in_err-refuse-2 : goal.returns-in_err-refuse-2
returns-in_err-refuse-2 c =
    let p = pipe_view c.args.pipe.now in
    let e = err_from_is_err_and c.from_residual-in_err-refuse-2.result c.from_residual-in_err-refuse-2.ensures.1 in
    rw (e.1, e.2) (
    later S1 (S2 ∷ S3 ∷ S4 ∷ S5 ∷ S6 ∷ S7 ∷ []) p _ _ c.in_ok-refuse.ensures c.requires.lines.one_call (
    told S2 (S3 ∷ S4 ∷ S5 ∷ S6 ∷ S7 ∷ []) p _ _ c.in_err-refuse-2.ensures c.requires.lines.verified_once))

pub returns-in_err-refuse-3 : goal.returns-in_err-refuse-3
returns-in_err-refuse-3 c =
    let p = pipe_view c.args.pipe.now in
    let e = err_from_is_err_and c.from_residual-in_err-refuse-3.result c.from_residual-in_err-refuse-3.ensures.1 in
    rw (e.1, e.2) (
    later S1 (S2 ∷ S3 ∷ S4 ∷ S5 ∷ S6 ∷ S7 ∷ []) p _ _ c.in_ok-refuse.ensures c.requires.lines.one_call (
    later S2 (S3 ∷ S4 ∷ S5 ∷ S6 ∷ S7 ∷ []) p _ _ c.in_ok-refuse-2.ensures c.requires.lines.verified_once (
    told S3 (S4 ∷ S5 ∷ S6 ∷ S7 ∷ []) p _ _ c.in_err-refuse-3.ensures
    (c.astray_line.ensures ∙ ap (line_where (is_astray Verifies) []) c.requires.of ∙ rule_lines S3 p [] (places p)))))

pub returns-in_err-refuse-4 : goal.returns-in_err-refuse-4
returns-in_err-refuse-4 c =
    let p = pipe_view c.args.pipe.now in
    let e = err_from_is_err_and c.from_residual-in_err-refuse-4.result c.from_residual-in_err-refuse-4.ensures.1 in
    rw (e.1, e.2) (
    later S1 (S2 ∷ S3 ∷ S4 ∷ S5 ∷ S6 ∷ S7 ∷ []) p _ _ c.in_ok-refuse.ensures c.requires.lines.one_call (
    later S2 (S3 ∷ S4 ∷ S5 ∷ S6 ∷ S7 ∷ []) p _ _ c.in_ok-refuse-2.ensures c.requires.lines.verified_once (
    later S3 (S4 ∷ S5 ∷ S6 ∷ S7 ∷ []) p _ _ c.in_ok-refuse-3.ensures
    (c.astray_line.ensures ∙ ap (line_where (is_astray Verifies) []) c.requires.of ∙ rule_lines S3 p [] (places p))
    (
    told S4 (S5 ∷ S6 ∷ S7 ∷ []) p _ _ c.in_err-refuse-4.ensures c.requires.lines.released_sure))))

pub returns-in_err-refuse-5 : goal.returns-in_err-refuse-5
returns-in_err-refuse-5 c =
    let p = pipe_view c.args.pipe.now in
    let e = err_from_is_err_and c.from_residual-in_err-refuse-5.result c.from_residual-in_err-refuse-5.ensures.1 in
    rw (e.1, e.2) (
    later S1 (S2 ∷ S3 ∷ S4 ∷ S5 ∷ S6 ∷ S7 ∷ []) p _ _ c.in_ok-refuse.ensures c.requires.lines.one_call (
    later S2 (S3 ∷ S4 ∷ S5 ∷ S6 ∷ S7 ∷ []) p _ _ c.in_ok-refuse-2.ensures c.requires.lines.verified_once (
    later S3 (S4 ∷ S5 ∷ S6 ∷ S7 ∷ []) p _ _ c.in_ok-refuse-3.ensures
    (c.astray_line.ensures ∙ ap (line_where (is_astray Verifies) []) c.requires.of ∙ rule_lines S3 p [] (places p))
    (
    later S4 (S5 ∷ S6 ∷ S7 ∷ []) p _ _ c.in_ok-refuse-4.ensures c.requires.lines.released_sure (
    told S5 (S6 ∷ S7 ∷ []) p _ _ c.in_err-refuse-5.ensures c.requires.lines.checked_first)))))

pub returns-in_err-refuse-6 : goal.returns-in_err-refuse-6
returns-in_err-refuse-6 c =
    let p = pipe_view c.args.pipe.now in
    let e = err_from_is_err_and c.from_residual-in_err-refuse-6.result c.from_residual-in_err-refuse-6.ensures.1 in
    rw (e.1, e.2) (
    later S1 (S2 ∷ S3 ∷ S4 ∷ S5 ∷ S6 ∷ S7 ∷ []) p _ _ c.in_ok-refuse.ensures c.requires.lines.one_call (
    later S2 (S3 ∷ S4 ∷ S5 ∷ S6 ∷ S7 ∷ []) p _ _ c.in_ok-refuse-2.ensures c.requires.lines.verified_once (
    later S3 (S4 ∷ S5 ∷ S6 ∷ S7 ∷ []) p _ _ c.in_ok-refuse-3.ensures
    (c.astray_line.ensures ∙ ap (line_where (is_astray Verifies) []) c.requires.of ∙ rule_lines S3 p [] (places p))
    (
    later S4 (S5 ∷ S6 ∷ S7 ∷ []) p _ _ c.in_ok-refuse-4.ensures c.requires.lines.released_sure (
    later S5 (S6 ∷ S7 ∷ []) p _ _ c.in_ok-refuse-5.ensures c.requires.lines.checked_first (
    told S6 (S7 ∷ []) p _ _ c.in_err-refuse-6.ensures c.requires.lines.updated_once))))))

pub returns-in_err-refuse-7 : goal.returns-in_err-refuse-7
returns-in_err-refuse-7 c =
    let p = pipe_view c.args.pipe.now in
    let e = err_from_is_err_and c.from_residual-in_err-refuse-7.result c.from_residual-in_err-refuse-7.ensures.1 in
    rw (e.1, e.2) (
    later S1 (S2 ∷ S3 ∷ S4 ∷ S5 ∷ S6 ∷ S7 ∷ []) p _ _ c.in_ok-refuse.ensures c.requires.lines.one_call (
    later S2 (S3 ∷ S4 ∷ S5 ∷ S6 ∷ S7 ∷ []) p _ _ c.in_ok-refuse-2.ensures c.requires.lines.verified_once (
    later S3 (S4 ∷ S5 ∷ S6 ∷ S7 ∷ []) p _ _ c.in_ok-refuse-3.ensures
    (c.astray_line.ensures ∙ ap (line_where (is_astray Verifies) []) c.requires.of ∙ rule_lines S3 p [] (places p))
    (
    later S4 (S5 ∷ S6 ∷ S7 ∷ []) p _ _ c.in_ok-refuse-4.ensures c.requires.lines.released_sure (
    later S5 (S6 ∷ S7 ∷ []) p _ _ c.in_ok-refuse-5.ensures c.requires.lines.checked_first (
    later S6 (S7 ∷ []) p _ _ c.in_ok-refuse-6.ensures c.requires.lines.updated_once (
    told S7 [] p _ _ c.in_err-refuse-7.ensures
    (c.astray_line-2.ensures ∙ ap (line_where (is_astray Updates) []) c.requires.of ∙ rule_lines S7 p [] (places p)))))))))

pub returns : goal.returns
returns c =
    let p = pipe_view c.args.pipe.now in (
      none_more S1 (S2 ∷ S3 ∷ S4 ∷ S5 ∷ S6 ∷ S7 ∷ []) p _ c.in_ok-refuse.ensures c.requires.lines.one_call (
          none_more S2 (S3 ∷ S4 ∷ S5 ∷ S6 ∷ S7 ∷ []) p _ c.in_ok-refuse-2.ensures c.requires.lines.verified_once (
          none_more S3 (S4 ∷ S5 ∷ S6 ∷ S7 ∷ []) p _ c.in_ok-refuse-3.ensures
          (c.astray_line.ensures ∙ ap (line_where (is_astray Verifies) []) c.requires.of ∙ rule_lines S3 p [] (places p))
          (
          none_more S4 (S5 ∷ S6 ∷ S7 ∷ []) p _ c.in_ok-refuse-4.ensures c.requires.lines.released_sure (
          none_more S5 (S6 ∷ S7 ∷ []) p _ c.in_ok-refuse-5.ensures c.requires.lines.checked_first (
          none_more S6 (S7 ∷ []) p _ c.in_ok-refuse-6.ensures c.requires.lines.updated_once (
          none_more S7 [] p _ c.in_ok-refuse-7.ensures
          (c.astray_line-2.ensures ∙ ap (line_where (is_astray Updates) []) c.requires.of ∙ rule_lines S7 p [] (places p)) refl)))))),
      ap₂ planned c.requires.verified (c.first_stage.ensures ∙ ap (first_stage is_update []) c.requires.of),
    )
