-- Rows one after another, while the circuit grows.
use Rattle.std.proofs.Common.{arith, ◌≡◌, ℕ, ◌+◌, ◌<◌, List, [], ◌∷◌, ◌++◌, map, length, take, drop, get_or, sym, ap, ◌∙◌, subst}
use Rattle.std.proofs.lemmas.List.{drop_more, take_more, map-append, get_or-map, length-map}
use Rattle.std.specs.Prelude.{slice_index}
use Rattle.pdl_semantics.specs.Flat.{Guard, Op, SpecCheck, Stmt, Pipe}
use Rattle.pdl_form.specs.declared.form.FlatStmt as r_stmt
use Rattle.pdl_form.specs.declared.form.Op as r_op
use Rattle.pdl_form.specs.declared.form.FlatGuard as r_guard
use Rattle.pdl_form.specs.View.{act_view, guards_view, stmt_view, stmts_view}
use Rattle.pdl_form_types.specs.Stmts.{AreGuards, IsTypedOp}
use Rattle.pdl_form.specs.Form.{Form, stmt_at}
use Rattle.pdl_net.specs.Circuit.{Circuit}
use Rattle.pdl_net.specs.Signal.{Signal}
use Rattle.pdl_net.specs.Growth.{Keeps}
use Rattle.pdl_net.proofs.Keeps.{keeps_trans}
use Rattle.pdl_law_parts.specs.Walk.{Locks, Walk, Row, IsRow, walk_after, AreRows}
use Rattle.pdl_pipe_walk.specs.Sized.{IsWalked, AreWalked, AreWalkedRows}
use Rattle.pdl_pipe_walk.specs.Steps.{IsStep, AreSteps}
use Rattle.pdl_pipe_walk.proofs.Lists.{each_at, each_by}

-- a step under equal guards, of an equal statement
pub step_as : (c : Circuit) (p : Pipe) (ls : Locks) (tickets : ℕ → Signal) (gs gs' : List Guard) (op op' : Op) (w w' : Walk)
    → gs ≡ gs' → op ≡ op' → IsStep c p ls tickets gs op w w' → IsStep c p ls tickets gs' op' w w'
step_as c p ls tickets gs gs' op op' w w' e h s = subst (λ o. IsStep c p ls tickets gs' o w w') h (subst (λ l. IsStep c p ls tickets l op w w') e s)

-- what a statement of the program needs, by its operation
pub typed_as : (f : Form) (s : r_stmt.FlatStmt) (o : r_op.Op) → IsWalked f (stmt_view s) → s.op ≡ o → IsTypedOp f (act_view o)
typed_as f s o h e = subst (λ (o : r_op.Op). IsTypedOp f (act_view o)) e h.0.1

-- the guards of a statement of which nets are made go by variables of 1 bit
pub guards_as : (f : Form) (s : r_stmt.FlatStmt) (gs : List r_guard.FlatGuard) → IsWalked f (stmt_view s)
    → gs ≡ s.guards → AreGuards f.widths (guards_view gs)
guards_as f s gs h e = subst (λ l. AreGuards f.widths (guards_view l)) (sym e) h.0.0

rows_push : (d : Circuit) (p : Pipe) (ls : Locks) (tickets : ℕ → Signal) (xs : List Stmt) (x : Stmt) (w v u : Walk) (r : Row)
    → AreRows d p ls tickets xs w v → IsRow d p ls tickets x v r → u ≡ walk_after x.op r ls v
    → AreRows d p ls tickets (xs ++ x ∷ []) w u
rows_push d p ls tickets [] x w v u r e i h = (r, subst (λ k. IsRow d p ls tickets x k r) e i, h ∙ ap (walk_after x.op r ls) e)
rows_push d p ls tickets (y ∷ ys) x w v u r e i h = (e.0, e.1, rows_push d p ls tickets ys x (walk_after y.op e.0 ls w) v u r e.2 i h)

-- after the steps of some rows the step of one row more is taken
pub steps_push : (c b : Circuit) (p : Pipe) (ls : Locks) (tickets : ℕ → Signal) (xs : List Stmt) (x : Stmt) (w v u : Walk)
    → Keeps c b → AreSteps c p ls tickets xs w v → IsStep b p ls tickets x.guards x.op v u
    → AreSteps b p ls tickets (xs ++ x ∷ []) w u
steps_push c b p ls tickets xs x w v u e h s d k well =
    rows_push d p ls tickets xs x w v u s.row (h d (keeps_trans c b d e k) well) (record { on = s.on d k well; op = s.does d k well }) s.next

module _ (rows : List ℕ) (i : ℕ) (l : i < length rows) (f : Form) (xs : List Stmt) where
  -- where nets can be made of the statements from the i-th number on, they can be of the next one and of those after it
  pub rows_split : AreWalkedRows f xs (drop i rows) → AreWalkedRows f xs (get_or rows i 0 ∷ drop (i + 1) rows)
  rows_split h = subst (AreWalkedRows f xs) (drop_more rows i 0 l) h

  -- the statements of the first i + 1 numbers are those of the first i and that of the next one
  pub rows_more : map (stmt_at xs) (take (i + 1) rows) ≡ map (stmt_at xs) (take i rows) ++ stmt_at xs (get_or rows i 0) ∷ []
  rows_more = ap (map (stmt_at xs)) (take_more rows i 0 l) ∙ map-append (stmt_at xs) (take i rows) _

-- nets can be made of the statements of these numbers, where they can be of all statements
pub rows_walked : (f : Form) (xs : List Stmt) (rows : List ℕ) → AreWalked f xs
    → ((j : ℕ) → j < length rows → slice_index rows j < length xs) → AreWalkedRows f xs rows
rows_walked f xs rows h low =
    each_by (λ (i : ℕ). (i < length xs) × IsWalked f (stmt_at xs i)) rows 0 (λ j l. (low j l, each_at (IsWalked f) xs (slice_index rows j) _ (low j l) h))

-- the k-th statement of the pipe is one of the program's as well
pub row_low : (ss : List r_stmt.FlatStmt) (k : ℕ) → k < length (stmts_view ss) → k < length ss
row_low ss k l = omega (arith, l, length-map ss stmt_view)

-- the statement of a number, as its view
pub row_view : (ss : List r_stmt.FlatStmt) (k : ℕ) (d : r_stmt.FlatStmt)
    → k < length ss → d ≡ get_or ss k d → stmt_view d ≡ stmt_at (stmts_view ss) k
row_view ss k d l e = ap stmt_view e ∙ sym (get_or-map stmt_view ss k d (record { stage = 0; guards = []; op = SpecCheck }) l)

-- a step of an equal statement, where locks and tickets are the same as before
pub step_here : (b : Circuit) (p : Pipe) (x y : Stmt)
    → x ≡ y → (ls ls' : Locks) (ts ts' : ℕ → Signal) (v u : Walk) → ls ≡ ls' → ts ≡ ts'
    → IsStep b p ls ts x.guards x.op v u → IsStep b p ls' ts' y.guards y.op v u
step_here b p x y q ls ls' ts ts' v u e h s =
    subst (λ (x : Stmt). IsStep b p ls' ts' x.guards x.op v u) q
    (subst (λ (t : ℕ → Signal). IsStep b p ls' t x.guards x.op v u) h
    (subst (λ (l : Locks). IsStep b p l ts x.guards x.op v u) e s))
