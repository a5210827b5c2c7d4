use Rattle.std.proofs.Common.{◌≡◌, ◌<◌, ℕ, List, length, map, get_or, ap, ◌∙◌, sym, subst, arith}
use Rattle.pdl_form.specs.View.{stmts_view}
use Rattle.pdl_form.specs.Form.{stmt_at}
use Rattle.pdl_form.proofs.StageRows.{length_stages, rows_below-long, rows_below-at, rows_stmts, rows_within}
use Rattle.pdl_form.proofs.flat.FlatPipe.rows.Goals as goal

pub index-rows-requires : goal.index-rows-requires
index-rows-requires c =
    omega (
      arith,
      length_stages c.args.self.now.stages.items,
      ap length c.args.self.now.by_stage,
      rows_below-long (length c.args.self.now.stages.items) (stmts_view c.args.self.now.stmts.items),
    )

pub returns-clause-value : goal.returns-clause-value
returns-clause-value c =
    c.as_slice.ensures ∙ c.index-rows.ensures
    ∙ ap (λ rs. get_or rs c.args.stage c.index-rows.result.now) c.args.self.now.by_stage
    ∙ rows_below-at (length c.args.self.now.stages.items)
    (stmts_view c.args.self.now.stmts.items) c.args.stage c.index-rows.result.now (omega (arith, length_stages c.args.self.now.stages.items))

pub returns-clause-stmts : goal.returns-clause-stmts
returns-clause-stmts c =
    ap (map (stmt_at (stmts_view c.args.self.now.stmts.items)))
    (c.as_slice.ensures ∙ c.index-rows.ensures
    ∙ ap (λ rs. get_or rs c.args.stage c.index-rows.result.now) c.args.self.now.by_stage
    ∙ rows_below-at (length c.args.self.now.stages.items)
    (stmts_view c.args.self.now.stmts.items) c.args.stage c.index-rows.result.now (omega (arith, length_stages c.args.self.now.stages.items)))
    ∙ rows_stmts c.args.stage (stmts_view c.args.self.now.stmts.items)

pub returns-clause-within : goal.returns-clause-within
returns-clause-within c =
    subst (λ (rs : List ℕ). (j : ℕ) → j < length rs → get_or rs j 0 < length (stmts_view c.args.self.now.stmts.items))
    (sym (c.as_slice.ensures ∙ c.index-rows.ensures
    ∙ ap (λ rs. get_or rs c.args.stage c.index-rows.result.now) c.args.self.now.by_stage
    ∙ rows_below-at (length c.args.self.now.stages.items)
    (stmts_view c.args.self.now.stmts.items) c.args.stage c.index-rows.result.now (omega (arith, length_stages c.args.self.now.stages.items))))
    (rows_within c.args.stage (stmts_view c.args.self.now.stmts.items))
