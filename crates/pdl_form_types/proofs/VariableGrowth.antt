-- The walk of the flat form puts variables after those that are there.
use Rattle.std.proofs.Common.{◌≡◌, sym, ap, ◌∙◌, subst, ◌<◌, List, [], ◌∷◌, ◌++◌, length, slice_index, append-nil}
use Rattle.pdl_semantics.specs.Tree.{Expr, Variable, Stmt, CombRead, Bind, DelayedRead, If, Stmts, Nil, Cons, Mem}
use Rattle.pdl_semantics.specs.Flatten.{Var, Position, with_guard, past, past_all}
use Rattle.pdl_form_types.proofs.VariableNames.{Begins, begins_self, begins_then, widths_of, flags_of, last_low, last_width, last_flag}
use Rattle.pdl_form_types.specs.Apart.{flag_at}

-- variables are the first of themselves
pub begins_same : (vs : List Var) → Begins vs vs
begins_same vs = ([], sym (append-nil vs))

-- the last one of some, among all
pub new_last : (vs all : List Var) (v : Var) → Begins (vs ++ v ∷ []) all
    → (length vs < length (widths_of all)) × (slice_index (widths_of all) (length vs) ≡ v.width)
new_last vs all v h = (
  subst (λ l. length vs < length (widths_of l)) (sym h.1) (last_low vs h.0 v),
  ap (λ l. slice_index (widths_of l) (length vs)) h.1 ∙ last_width vs h.0 v,
)

-- so is its flag
pub new_flag : (vs all : List Var) (v : Var) → Begins (vs ++ v ∷ []) all → flag_at (flags_of all) (length vs) ≡ v.advised
new_flag vs all v h = ap (λ l. flag_at (flags_of l) (length vs)) h.1 ∙ last_flag vs h.0 v

-- the guard of an `if` comes after the variables that are there
pub guard_begins : (c : Expr) (w : Position) → Begins w.vars (with_guard c w).vars
guard_begins (Variable x) w = begins_same w.vars
guard_begins c w = begins_self w.vars _

mutual
  -- the variables after a statement begin with those before it
  pub past_begins : (ms : List Mem) (s : Stmt) (w : Position) → Begins w.vars (past ms s w).vars
  past_begins ms (CombRead _ x from) w = begins_self w.vars _
  past_begins ms (Bind _ x e) w = begins_self w.vars _
  past_begins ms (DelayedRead _ x from) w = begins_self w.vars _
  past_begins ms (If _ c when otherwise) w =
      begins_then w.vars (with_guard c w).vars _ (guard_begins c w)
      (begins_then (with_guard c w).vars (past_all ms when (with_guard c w)).vars _ (past_all_begins ms when (with_guard c w)) (past_all_begins ms otherwise _))
  past_begins ms _ w = begins_same w.vars

  -- the variables after some statements begin with those before them
  pub past_all_begins : (ms : List Mem) (ss : Stmts) (w : Position) → Begins w.vars (past_all ms ss w).vars
  past_all_begins ms Nil w = begins_same w.vars
  past_all_begins ms (Cons s ss) w = begins_then w.vars (past ms s w).vars _ (past_begins ms s w) (past_all_begins ms ss (past ms s w))
