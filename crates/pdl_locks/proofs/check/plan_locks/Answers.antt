use Rattle.std.proofs.Common.{◌∙◌, ap, [], refl}
use Rattle.std.proofs.lemmas.Result.{err_from_is_err_and}
use Rattle.pdl_kit.specs.declared.rule.Rule.TheVariants.{L1, L2, L3, L4, L5, L6, L7, L8}
use Rattle.pdl_syntax_tree.specs.View.{pipe_view}
use Rattle.pdl_rules.specs.Places.{places}
use Rattle.pdl_rules_on_paths.specs.Lowest.{line_where}
use Rattle.pdl_rules_on_paths.proofs.Lines.{rule_lines}
use Rattle.pdl_rules_stages.specs.declared.astray.Kinds.TheVariants.{Locks}
use Rattle.pdl_rules_stages.specs.Astray.{is_astray}
use Rattle.pdl_locks.proofs.LowestRule.{told, later, none_more, after_l1, after_l2, after_l3, after_l4, after_l5, after_l6, after_l7}
use Rattle.pdl_locks.proofs.check.plan_locks.Goals as goal

pub returns-in_err-refuse-2 : goal.returns-in_err-refuse-2
returns-in_err-refuse-2 c =
    let p = pipe_view c.args.pipe.now in
    let e = err_from_is_err_and c.from_residual-in_err-refuse-2.result c.from_residual-in_err-refuse-2.ensures.1 in
    rw (e.1, e.2) (
    later L1 after_l1 p _ _ c.in_ok-refuse.ensures c.requires.lines.held (
    told L2 after_l2 p _ _ c.in_err-refuse-2.ensures
    (c.astray_line.ensures ∙ ap (line_where (is_astray Locks) []) c.requires.of ∙ rule_lines L2 p [] (places p))))

pub returns-in_err-refuse-3 : goal.returns-in_err-refuse-3
returns-in_err-refuse-3 c =
    let p = pipe_view c.args.pipe.now in
    let e = err_from_is_err_and c.from_residual-in_err-refuse-3.result c.from_residual-in_err-refuse-3.ensures.1 in
    rw (e.1, e.2) (
    later L1 after_l1 p _ _ c.in_ok-refuse.ensures c.requires.lines.held (
    later L2 after_l2 p _ _ c.in_ok-refuse-2.ensures
    (c.astray_line.ensures ∙ ap (line_where (is_astray Locks) []) c.requires.of ∙ rule_lines L2 p [] (places p))
    (
    told L3 after_l3 p _ _ c.in_err-refuse-3.ensures c.requires.lines.read_first)))

pub returns-in_err-refuse-4 : goal.returns-in_err-refuse-4
returns-in_err-refuse-4 c =
    let p = pipe_view c.args.pipe.now in
    let e = err_from_is_err_and c.from_residual-in_err-refuse-4.result c.from_residual-in_err-refuse-4.ensures.1 in
    rw (e.1, e.2) (
    later L1 after_l1 p _ _ c.in_ok-refuse.ensures c.requires.lines.held (
    later L2 after_l2 p _ _ c.in_ok-refuse-2.ensures
    (c.astray_line.ensures ∙ ap (line_where (is_astray Locks) []) c.requires.of ∙ rule_lines L2 p [] (places p))
    (
    later L3 after_l3 p _ _ c.in_ok-refuse-3.ensures c.requires.lines.read_first (
    told L4 after_l4 p _ _ c.in_err-refuse-4.ensures c.requires.lines.few_reserves))))

pub returns-in_err-refuse-5 : goal.returns-in_err-refuse-5
returns-in_err-refuse-5 c =
    let p = pipe_view c.args.pipe.now in
    let e = err_from_is_err_and c.from_residual-in_err-refuse-5.result c.from_residual-in_err-refuse-5.ensures.1 in
    rw (e.1, e.2) (
    later L1 after_l1 p _ _ c.in_ok-refuse.ensures c.requires.lines.held (
    later L2 after_l2 p _ _ c.in_ok-refuse-2.ensures
    (c.astray_line.ensures ∙ ap (line_where (is_astray Locks) []) c.requires.of ∙ rule_lines L2 p [] (places p))
    (
    later L3 after_l3 p _ _ c.in_ok-refuse-3.ensures c.requires.lines.read_first (
    later L4 after_l4 p _ _ c.in_ok-refuse-4.ensures c.requires.lines.few_reserves (
    told L5 after_l5 p _ _ c.in_err-refuse-5.ensures c.requires.lines.reserved_once)))))

pub returns-in_err-refuse-6 : goal.returns-in_err-refuse-6
returns-in_err-refuse-6 c =
    let p = pipe_view c.args.pipe.now in
    let e = err_from_is_err_and c.from_residual-in_err-refuse-6.result c.from_residual-in_err-refuse-6.ensures.1 in
    rw (e.1, e.2) (
    later L1 after_l1 p _ _ c.in_ok-refuse.ensures c.requires.lines.held (
    later L2 after_l2 p _ _ c.in_ok-refuse-2.ensures
    (c.astray_line.ensures ∙ ap (line_where (is_astray Locks) []) c.requires.of ∙ rule_lines L2 p [] (places p))
    (
    later L3 after_l3 p _ _ c.in_ok-refuse-3.ensures c.requires.lines.read_first (
    later L4 after_l4 p _ _ c.in_ok-refuse-4.ensures c.requires.lines.few_reserves (
    later L5 after_l5 p _ _ c.in_ok-refuse-5.ensures c.requires.lines.reserved_once (
    told L6 after_l6 p _ _ c.in_err-refuse-6.ensures c.requires.lines.written_once))))))

pub returns-in_err-refuse-7 : goal.returns-in_err-refuse-7
returns-in_err-refuse-7 c =
    let p = pipe_view c.args.pipe.now in
    let e = err_from_is_err_and c.from_residual-in_err-refuse-7.result c.from_residual-in_err-refuse-7.ensures.1 in
    rw (e.1, e.2) (
    later L1 after_l1 p _ _ c.in_ok-refuse.ensures c.requires.lines.held (
    later L2 after_l2 p _ _ c.in_ok-refuse-2.ensures
    (c.astray_line.ensures ∙ ap (line_where (is_astray Locks) []) c.requires.of ∙ rule_lines L2 p [] (places p))
    (
    later L3 after_l3 p _ _ c.in_ok-refuse-3.ensures c.requires.lines.read_first (
    later L4 after_l4 p _ _ c.in_ok-refuse-4.ensures c.requires.lines.few_reserves (
    later L5 after_l5 p _ _ c.in_ok-refuse-5.ensures c.requires.lines.reserved_once (
    later L6 after_l6 p _ _ c.in_ok-refuse-6.ensures c.requires.lines.written_once (
    told L7 after_l7 p _ _ c.in_err-refuse-7.ensures c.requires.lines.released)))))))

pub returns-in_err-refuse-8 : goal.returns-in_err-refuse-8
returns-in_err-refuse-8 c =
    let p = pipe_view c.args.pipe.now in
    let e = err_from_is_err_and c.from_residual-in_err-refuse-8.result c.from_residual-in_err-refuse-8.ensures.1 in
    rw (e.1, e.2) (
    later L1 after_l1 p _ _ c.in_ok-refuse.ensures c.requires.lines.held (
    later L2 after_l2 p _ _ c.in_ok-refuse-2.ensures
    (c.astray_line.ensures ∙ ap (line_where (is_astray Locks) []) c.requires.of ∙ rule_lines L2 p [] (places p))
    (
    later L3 after_l3 p _ _ c.in_ok-refuse-3.ensures c.requires.lines.read_first (
    later L4 after_l4 p _ _ c.in_ok-refuse-4.ensures c.requires.lines.few_reserves (
    later L5 after_l5 p _ _ c.in_ok-refuse-5.ensures c.requires.lines.reserved_once (
    later L6 after_l6 p _ _ c.in_ok-refuse-6.ensures c.requires.lines.written_once (
    later L7 after_l7 p _ _ c.in_ok-refuse-7.ensures c.requires.lines.released (
    told L8 [] p _ _ c.in_err-refuse-8.ensures c.requires.lines.bound))))))))

pub returns : goal.returns
returns c =
    let p = pipe_view c.args.pipe.now in (
      none_more L1 after_l1 p _ c.in_ok-refuse.ensures c.requires.lines.held (
          none_more L2 after_l2 p _ c.in_ok-refuse-2.ensures
          (c.astray_line.ensures ∙ ap (line_where (is_astray Locks) []) c.requires.of ∙ rule_lines L2 p [] (places p))
          (
          none_more L3 after_l3 p _ c.in_ok-refuse-3.ensures c.requires.lines.read_first (
          none_more L4 after_l4 p _ c.in_ok-refuse-4.ensures c.requires.lines.few_reserves (
          none_more L5 after_l5 p _ c.in_ok-refuse-5.ensures c.requires.lines.reserved_once (
          none_more L6 after_l6 p _ c.in_ok-refuse-6.ensures c.requires.lines.written_once (
          none_more L7 after_l7 p _ c.in_ok-refuse-7.ensures c.requires.lines.released (
          none_more L8 [] p _ c.in_ok-refuse-8.ensures c.requires.lines.bound (
          refl)))))))),
      c.in_ok-of.ensures,
    )
