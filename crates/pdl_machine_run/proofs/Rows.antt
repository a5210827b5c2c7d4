-- The statement of a row, as the program holds it.
use Rattle.std.proofs.Common.{◌≡◌, sym, ap, ◌∙◌, subst, ℕ, ◌+◌, ◌<◌, List, [], ◌∷◌, map, drop, length, get_or, slice_index, arith}
use Rattle.std.proofs.Math.ListN.{get_or-map}
use Rattle.std.proofs.lemmas.List.{get_or_default, length-map, drop_more}
use Rattle.pdl_semantics.specs.Flat.{Stmt, SpecCheck}
use Rattle.pdl_form.specs.declared.form.FlatStmt as r_stmt
use Rattle.pdl_form.specs.View.{stmt_view, stmts_view}
use Rattle.pdl_form.specs.Form.{Form, stmt_at}
use Rattle.pdl_form_types.specs.Stmts.{IsTypedOp, AreTypedStmts}
use Rattle.pdl_machine_run.proofs.DeedWidths.{typed_at}

-- the i-th element as it is seen is the i-th of the elements that are seen
pub seen_at : {X Y : Type 0} (view : X → Y) (xs : List X) (i : ℕ) (x : X) (d : Y)
    → i < length xs → x ≡ get_or xs i x → view x ≡ get_or (map view xs) i d
seen_at view xs i x d h e =
    let mapped : length (map view xs) ≡ length xs = length-map _ _ in
    let within : i < length (map view xs) = omega arith in
    ap view e ∙ sym (get_or-map view xs i x) ∙ get_or_default (map view xs) i (view x) d within

module _ (f : Form) (stmts : List r_stmt.FlatStmt) (seen : stmts_view stmts ≡ f.pipe.stmts)
    (typed : AreTypedStmts f f.pipe.stmts) (rows : List ℕ)
    (within : (j : ℕ) → j < length rows → slice_index rows j < length f.pipe.stmts)
    (j : ℕ) (there : j < length rows) (x : r_stmt.FlatStmt) (is : x ≡ get_or stmts (get_or rows j 0) x) where
  -- the row's number is that of a statement that the program holds
  pub row_there : get_or rows j 0 < length stmts
  row_there =
      let mapped : length (stmts_view stmts) ≡ length stmts = length-map _ _ in
      let same = ap (λ (ss : List Stmt). length ss) seen in
      let inside = within j there in
      omega arith

  -- the statement at the row's number stands for the pipe's statement of that number
  pub row_stmt : stmt_view x ≡ stmt_at f.pipe.stmts (get_or rows j 0)
  row_stmt =
      seen_at stmt_view stmts (get_or rows j 0) x (record { stage = 0; guards = []; op = SpecCheck }) row_there is
      ∙ ap (λ (ss : List Stmt). stmt_at ss (get_or rows j 0)) seen

  -- the statement at the row's number is typed
  pub row_typed : IsTypedOp f (stmt_view x).op
  row_typed = subst (λ (s : Stmt). IsTypedOp f s.op) (sym row_stmt) (typed_at f f.pipe.stmts (get_or rows j 0) typed (within j there))

  -- the statements of the rows from the j-th on are the one of the j-th and those of the rows after it
  pub row_split : map (stmt_at f.pipe.stmts) (drop j rows) ≡ stmt_view x ∷ map (stmt_at f.pipe.stmts) (drop (j + 1) rows)
  row_split =
      ap (map (stmt_at f.pipe.stmts)) (drop_more rows j 0 there) ∙ ap (λ (s : Stmt). s ∷ map (stmt_at f.pipe.stmts) (drop (j + 1) rows)) (sym row_stmt)
