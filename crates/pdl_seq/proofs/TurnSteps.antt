-- Statement by statement through a turn.
use Rattle.std.proofs.Common.{◌≡◌, sym, ap, ◌∙◌, subst, ℕ, zero, suc, ◌+◌, ◌<◌, ◌≤◌, Bool, true, false, if◌then◌else◌, List, [], ◌∷◌, drop, length, get_or, length-append, arith}
use Rattle.std.proofs.lemmas.List.{drop_more}
use Rattle.pdl_semantics.specs.Flat.{Op, Bind, CombRead, DelayedRead, Write, ReserveRead, ReserveWrite, Block, Release, Call, SpecCall, Verify, SpecCheck, SpecBarrier, AdviceBind, AdviceRead, AdviceWrite, Stmt, Commit, all_hold}
use Rattle.pdl_semantics.specs.Sequential.{Run, run_after, run_all}
use Rattle.pdl_form.specs.declared.form.FlatStmt as r_stmt
use Rattle.pdl_form.specs.View.{stmt_view, stmts_view}
use Rattle.pdl_form.specs.Form.{Form}
use Rattle.pdl_form_types.specs.Stmts.{IsTypedStmt, AreTypedStmts}

-- WRITES ONLY COME TO THE OTHERS

grow_op : (op : Op) (r : Run) → length r.writes ≤ length (run_after op r).writes
grow_op (Bind x e) r = omega arith
grow_op (CombRead x m a) r = omega arith
grow_op (DelayedRead x m a) r = omega arith
grow_op (Write m a e) r = omega (arith, length-append {A = Commit})
grow_op (ReserveRead m a) r = omega arith
grow_op (ReserveWrite m a) r = omega arith
grow_op (Block m a) r = omega arith
grow_op (Release m a) r = omega arith
grow_op (Call args) r = omega arith
grow_op (SpecCall args) r = omega arith
grow_op (Verify true args) r = omega arith
grow_op (Verify false args) r = omega arith
grow_op SpecCheck r = omega arith
grow_op SpecBarrier r = omega arith
grow_op (AdviceBind x e) r = omega arith
grow_op (AdviceRead x m a) r = omega arith
grow_op (AdviceWrite m a e) r = omega arith

grow_if : (b : Bool) (op : Op) (r : Run) → length r.writes ≤ length (if b then run_after op r else r).writes
grow_if true op r = grow_op op r
grow_if false op r = omega arith

-- statements that are carried out never make a turn's writes fewer
pub writes_grow : (xs : List Stmt) (r : Run) → length r.writes ≤ length (run_all xs r).writes
writes_grow [] r = omega arith
writes_grow (x ∷ xs) r =
    let one = grow_if (all_hold x.guards r.env) x.op r in
    let rest = writes_grow xs (if all_hold x.guards r.env then run_after x.op r else r) in
    omega arith

-- THE STATEMENT THAT COMES NEXT

-- the statements from here on begin with this one
pub next_stmt : (items : List r_stmt.FlatStmt) (i : ℕ) (x : r_stmt.FlatStmt)
    → i < length items → x ≡ get_or items i x
    → stmts_view (drop i items) ≡ stmt_view x ∷ stmts_view (drop (i + 1) items)
next_stmt items i x h e = ap stmts_view (drop_more items i x h) ∙ ap (λ (y : r_stmt.FlatStmt). stmt_view y ∷ stmts_view (drop (i + 1) items)) (sym e)

typed_at : (f : Form) (items : List r_stmt.FlatStmt) (i : ℕ) (x : r_stmt.FlatStmt) → AreTypedStmts f (stmts_view items)
    → i < length items → IsTypedStmt f (stmt_view (get_or items i x))
typed_at f [] i x t h = absurd (omega arith)
typed_at f (y ∷ items) zero x t h = t.0
typed_at f (y ∷ items) (suc i) x t h = typed_at f items i x t.1 (omega arith)

-- the statement at a number of a typed pipe is typed
pub typed_next : (f : Form) (items : List r_stmt.FlatStmt) (i : ℕ) (x : r_stmt.FlatStmt)
    → stmts_view items ≡ f.pipe.stmts → AreTypedStmts f f.pipe.stmts → i < length items → x ≡ get_or items i x
    → IsTypedStmt f (stmt_view x)
typed_next f items i x seen t h e =
    subst (λ (y : r_stmt.FlatStmt). IsTypedStmt f (stmt_view y)) (sym e) (typed_at f items i x (subst (AreTypedStmts f) (sym seen) t) h)
