use Rattle.std.proofs.Common.{◌≡◌, ◌+◌, ◌∙◌, sym, ap, subst, ℕ, suc, List, ◌∷◌, map, drop, length, arith}
use Rattle.std.proofs.lemmas.List.{length-drop}
use Rattle.pdl_semantics.specs.Flat.{Stmt}
use Rattle.pdl_semantics.specs.Machine.{Deeds, deeds_after_all}
use Rattle.pdl_form.specs.Form.{stmt_at}
use Rattle.pdl_form.specs.FormView.{form}
use Rattle.pdl_form.specs.View.{stmt_view}
use Rattle.pdl_machine_run.specs.View.{deeds_view}
use Rattle.pdl_machine_run.specs.Room.{HasRoomFor, IsLarge}
use Rattle.pdl_machine_run.specs.StageDeeds.{word_of}
use Rattle.pdl_machine_run.proofs.DeedWidths.{safe_op, fit_more}
use Rattle.pdl_machine_run.proofs.Rows.{row_typed, row_split}
use Rattle.pdl_machine_run.proofs.stmts.run_stage.Goals as goal

pub run_stmt-requires-clause-safe : goal.run_stmt-requires-clause-safe
run_stmt-requires-clause-safe c on =
    let f = form c.args.pipe.now in
    let x = c.index-stmts-row.result in
    let typed =
    row_typed f c.stmts-stmts.result.now c.stmts-stmts.ensures c.requires.typed.stmts c.rows-row-items.result.now c.rows-row-items.ensures.within c.loop-row.row-index c.loop-row-test.true x c.index-stmts-row.is in
    let large = subst (IsLarge 0 (length f.pipe.start) (length f.widths)) (sym c.loop-row.invariant.capacities) c.requires.large in
    safe_op f c.requires.typed.wide c.args.memories.now c.requires.memories (stmt_view x).op
    (deeds_view c.loop-row.deeds) _ 0 typed c.loop-row.invariant.fit large

pub loop-row-preserved : goal.loop-row-preserved
loop-row-preserved c =
    let f = form c.args.pipe.now in
    let x = c.index-stmts-row.result in
    let s = stmt_view x in
    let rows = c.rows-row-items.result.now in
    let j = c.loop-row.row-index in
    let ms = c.args.memories.now in
    let old = deeds_view c.loop-row.deeds in
    let new = deeds_view c.run_stmt.new.deeds in
    let rest = map (stmt_at f.pipe.stmts) (drop (j + 1) rows) in
    let typed =
    row_typed f c.stmts-stmts.result.now c.stmts-stmts.ensures c.requires.typed.stmts rows c.rows-row-items.ensures.within j c.loop-row-test.true x c.index-stmts-row.is in
    let split : map (stmt_at f.pipe.stmts) (drop j rows) ≡ s ∷ rest =
    row_split f c.stmts-stmts.result.now c.stmts-stmts.ensures c.requires.typed.stmts rows c.rows-row-items.ensures.within j c.loop-row-test.true x c.index-stmts-row.is in
    let one : length (drop j rows) ≡ suc (length (drop (j + 1) rows)) = omega (arith, length-drop {A = ℕ}) in
    record {
      deeds =
          ap (λ (d : Deeds). deeds_after_all (word_of ms c.args.thread) rest d) c.run_stmt.ensures.deeds
          ∙ ap (λ (ss : List Stmt). deeds_after_all (word_of ms c.args.thread) ss old) (sym split)
          ∙ c.loop-row.invariant.deeds;
      fit = fit_more f c.requires.typed.wide ms c.requires.memories c.args.thread s old new c.run_stmt.ensures.deeds typed c.loop-row.invariant.fit;
      room = c.run_stmt.ensures.room (length (drop (j + 1) rows)) (subst (λ n. HasRoomFor n c.loop-row.deeds) one c.loop-row.invariant.room);
      capacities = c.run_stmt.ensures.capacities ∙ c.loop-row.invariant.capacities;
    }
