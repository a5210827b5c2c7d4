-- What the rules give of advice: an advisory memory answers at once and has no lock, and what is advised is used by guesses and by what is advisory alone.
use Rattle.std.proofs.Common.{◌≡◌, refl, sym, ap, ◌∙◌, subst, ℕ, zero, suc, ◌==◌, Bool, true, false, not, ◌&&◌, ◌||◌, List, [], ◌∷◌, ◌++◌, map, Option, Some, None, slice_index_or, append_assoc, ⊎_elim}
use Rattle.std.proofs.lemmas.Bool.{false≢true, or_parts, or_cases, both_ways, false_from_ne_true, eqb-true}
use Rattle.pdl_kit.specs.declared.rule.Rule.TheVariants.{Z7}
use Rattle.pdl_semantics.specs.Tree as tree
use Rattle.pdl_semantics.specs.Tree.{MemKind, Comb, Delayed, Advisory, LockDecl, Mem}
use Rattle.pdl_semantics.specs.Flat.{Expr, Constant, Variable, Slice, Not, Binary, Cat, LessSigned, ZeroExtend, SignExtend, Choose, Op, Bind, CombRead, DelayedRead, Write, ReserveWrite, Block, Call, Verify, AdviceBind, AdviceRead, Guard, Stmt, Next, Ends, Goes, Forks, Stage, Pipe, has_lock, is_delayed, is_advisory}
use Rattle.pdl_semantics.specs.Flatten.{flat, flat_lock, mem_of, mems_of, is_advisory_mem}
use Rattle.pdl_semantics.specs.Stages.{list_any, plain_mem, mem_at, last_stage}
use Rattle.pdl_rules.specs.Places.{Place, Parameter, Memory}
use Rattle.pdl_rules.specs.Parts.{is_some_and}
use Rattle.pdl_rules.specs.Limits.{is_width, is_depth, is_wrong_lock}
use Rattle.pdl_rules.specs.Refusal.{KeepsRules}
use Rattle.pdl_source_stages.proofs.Homes.{advisory_is}
use Rattle.pdl_source_paths.specs.Source.{is_named}
use Rattle.pdl_source_paths.proofs.Memories.{After, all_after}
use Rattle.pdl_form_types.specs.Apart.{flag_at, uses_flagged, some_flagged, IsApartOp, AreApartGuards, AreApartStmts, IsApartNext, AreApartStages, IsApart}
use Rattle.pdl_form_types.proofs.FormTyping.{typed_whole}
use Rattle.pdl_law_parts.specs.Lives.{uses_var, are_using, guards_use, forks_by}
use Rattle.pdl_law_parts.specs.Walk.{is_locked}
use Rattle.pdl_law_parts.specs.Rows.{IsUnlocked}
use Rattle.pdl_law_parts.specs.Advice.{advises_var, is_advised_in, op_plainly, row_plainly, IsAdvisedApart}
use Rattle.pdl_word.specs.Each.{Each}

-- ---- MEMORIES

-- of the memories that stand in the text after some places, one with a lock isn't advisory
locked_from : (p : tree.Pipe) → KeepsRules p → (ms : List Mem) (before : List Place) (m : ℕ) → After p before ms
    → has_lock (slice_index_or (mems_of ms) m plain_mem).lock ≡ true → is_advisory (slice_index_or (mems_of ms) m plain_mem).kind ≡ false
locked_from p rules [] before zero b h = refl
locked_from p rules [] before (suc m) b h = refl
locked_from p rules (x ∷ ms) before (suc m) b h =
    locked_from p rules ms (before ++ Memory x ∷ []) m (b.0, b.1 ∙ sym (append_assoc before (Memory x ∷ []) (map Memory ms ++ b.0))) h
locked_from p rules (x ∷ ms) before zero b h = at x.lock refl h
  where
    wrong : is_some_and (is_wrong_lock x) x.lock ≡ false
    wrong =
        (or_parts (not (is_width x.width.value && is_depth x.depth.value)) (is_some_and (is_wrong_lock x) x.lock)
        (rules Z7 before (Memory x) (map Memory ms ++ b.0) b.1)).1

    at : (l : Option LockDecl) → x.lock ≡ l → has_lock (flat_lock l) ≡ true → is_advisory x.kind ≡ false
    at None e i = absurd (false≢true i)
    at (Some d) e i = (or_parts (is_advisory x.kind) _ (sym (ap (is_some_and (is_wrong_lock x)) e) ∙ wrong)).0

-- no memory with a lock is advisory
pub locked_plain : (p : tree.Pipe) → KeepsRules p → (m : ℕ) → is_locked (flat p) m ≡ true → is_advisory (mem_at (flat p) m).kind ≡ false
locked_plain p rules m h = locked_from p rules p.mems (map Parameter p.params) m (all_after p) h

at_once : (k : MemKind) → is_advisory k ≡ true → is_delayed k ≡ false
at_once Comb h = refl
at_once Delayed h = absurd (false≢true h)
at_once Advisory h = refl

-- an advisory memory answers at once and has no lock
pub unlocked_there : (p : tree.Pipe) → KeepsRules p → (n : List ℕ) → is_advisory_mem p.mems n ≡ true → IsUnlocked (flat p) (mem_of p.mems n)
unlocked_there p rules n h =
    let m = mem_of p.mems n in
    let a : is_advisory (mem_at (flat p) m).kind ≡ true = advisory_is p rules p.mems n ∙ h in
    (false_from_ne_true (is_locked (flat p) m) (λ t. both_ways _ (locked_plain p rules m t) a), at_once (mem_at (flat p) m).kind a)

-- ---- VARIABLES

module _ (fs : List Bool) where
  -- a variable that a statement advises is flagged
  flags_cover : (xs : List Stmt) (x : ℕ) → AreApartStmts fs xs → list_any (λ (r : Stmt). advises_var r.op x) xs ≡ true → flag_at fs x ≡ true
  flags_cover [] x a e = absurd (false≢true e)
  flags_cover (r ∷ rs) x a e = ⊎_elim (here r.op a.0.1) (flags_cover rs x a.1) (or_cases (advises_var r.op x) _ e)
    where
      here : (op : Op) → IsApartOp fs op → advises_var op x ≡ true → flag_at fs x ≡ true
      here (AdviceBind y b) h t = subst (λ z. flag_at fs z ≡ true) (eqb-true y x t) h
      here (AdviceRead y m b) h t = subst (λ z. flag_at fs z ≡ true) (eqb-true y x t) h
      here _ h t = absurd (false≢true t)

  same_flag : (y x : ℕ) → flag_at fs y ≡ false → (y == x) ≡ true → flag_at fs x ≡ false
  same_flag y x h t = subst (λ z. flag_at fs z ≡ false) (eqb-true y x t) h

  -- of two tests that fail, and two of which one passes
  pick : (x : ℕ) (f g u v : Bool) → (f || g) ≡ false → (u || v) ≡ true → (f ≡ false → u ≡ true → flag_at fs x ≡ false)
      → (g ≡ false → v ≡ true → flag_at fs x ≡ false) → flag_at fs x ≡ false
  pick x f g u v h t first second = let k = or_parts f g h in ⊎_elim (first k.0) (second k.1) (or_cases u v t)

  -- a variable of an expression that uses no flagged one isn't flagged
  expr_plain : (e : Expr) (x : ℕ) → uses_flagged fs e ≡ false → uses_var e x ≡ true → flag_at fs x ≡ false
  expr_plain (Constant w v) x h u = absurd (false≢true u)
  expr_plain (Variable y) x h u = same_flag y x h u
  expr_plain (Slice y high low) x h u = same_flag y x h u
  expr_plain (Not w a) x h u = expr_plain a x h u
  expr_plain (Binary op w a b) x h u =
      pick x (uses_flagged fs a) (uses_flagged fs b) (uses_var a x) (uses_var b x) h u (expr_plain a x) (expr_plain b x)
  expr_plain (Cat a w b) x h u = pick x (uses_flagged fs a) (uses_flagged fs b) (uses_var a x) (uses_var b x) h u (expr_plain a x) (expr_plain b x)
  expr_plain (LessSigned w a b) x h u =
      pick x (uses_flagged fs a) (uses_flagged fs b) (uses_var a x) (uses_var b x) h u (expr_plain a x) (expr_plain b x)
  expr_plain (ZeroExtend wide a) x h u = expr_plain a x h u
  expr_plain (SignExtend w wide a) x h u = expr_plain a x h u
  expr_plain (Choose c a b) x h u =
      pick x (uses_flagged fs c) (uses_flagged fs a || uses_flagged fs b) (uses_var c x) (uses_var a x || uses_var b x) h u (expr_plain c x)
      (λ k t. pick x (uses_flagged fs a) (uses_flagged fs b) (uses_var a x) (uses_var b x) k t (expr_plain a x) (expr_plain b x))

  exprs_plain : (es : List Expr) (x : ℕ) → some_flagged fs es ≡ false → are_using es x ≡ true → flag_at fs x ≡ false
  exprs_plain [] x h u = absurd (false≢true u)
  exprs_plain (e ∷ es) x h u =
      pick x (uses_flagged fs e) (some_flagged fs es) (uses_var e x) (are_using es x) h u (expr_plain e x) (exprs_plain es x)

  guards_plain : (gs : List Guard) (x : ℕ) → AreApartGuards fs gs → guards_use gs x ≡ true → flag_at fs x ≡ false
  guards_plain [] x h u = absurd (false≢true u)
  guards_plain (g ∷ gs) x h u = ⊎_elim (same_flag g.var x h.0) (guards_plain gs x h.1) (or_cases (g.var == x) (guards_use gs x) u)

  -- what a statement binds or uses as a plain value isn't flagged
  op_plain : (op : Op) (x : ℕ) → IsApartOp fs op → op_plainly op x ≡ true → flag_at fs x ≡ false
  op_plain (Bind y e) x h u = ⊎_elim (same_flag y x h.0) (expr_plain e x h.1) (or_cases (y == x) (uses_var e x) u)
  op_plain (CombRead y m a) x h u = ⊎_elim (same_flag y x h.0) (same_flag a x h.1) (or_cases (y == x) (a == x) u)
  op_plain (DelayedRead y m a) x h u = ⊎_elim (same_flag y x h.0) (same_flag a x h.1) (or_cases (y == x) (a == x) u)
  op_plain (Write m a e) x h u = expr_plain e x h.1 u
  op_plain (ReserveWrite m a) x h u = same_flag a x h u
  op_plain (Block m a) x h u = same_flag a x h u
  op_plain (Call args) x h u = exprs_plain args x h u
  op_plain (Verify true args) x h u = exprs_plain args x h u
  op_plain (Verify false args) x h u = absurd (false≢true u)
  op_plain _ x h u = absurd (false≢true u)

  next_plain : (n : Next) (x : ℕ) → IsApartNext fs n → forks_by n x ≡ true → flag_at fs x ≡ false
  next_plain Ends x h u = absurd (false≢true u)
  next_plain (Goes to) x h u = absurd (false≢true u)
  next_plain (Forks y first second) x h u = same_flag y x h u

  stages_plain : (xs : List Stage) (k x : ℕ) → AreApartStages fs xs → forks_by (slice_index_or xs k last_stage).next x ≡ true → flag_at fs x ≡ false
  stages_plain [] zero x h u = absurd (false≢true u)
  stages_plain [] (suc k) x h u = absurd (false≢true u)
  stages_plain (s ∷ xs) zero x h u = next_plain s.next x h.0 u
  stages_plain (s ∷ xs) (suc k) x h u = stages_plain xs k x h.1 u

module _ (p : Pipe) (a : IsApart p) where
  unflagged : (x : ℕ) → flag_at a.flags x ≡ false → is_advised_in p x ≡ false
  unflagged x f = false_from_ne_true _ (λ t. both_ways _ f (flags_cover a.flags p.stmts x a.stmts t))

  rows_apart : (xs : List Stmt) → AreApartStmts a.flags xs → Each (λ (r : Stmt). (x : ℕ) → row_plainly r x ≡ true → is_advised_in p x ≡ false) xs
  rows_apart [] h = tt
  rows_apart (r ∷ rs) h = (
    λ x u. unflagged x (⊎_elim (guards_plain a.flags r.guards x h.0.0) (op_plain a.flags r.op x h.0.1) (or_cases (guards_use r.guards x) (op_plainly r.op x) u)),
    rows_apart rs h.1,
  )

-- what is advised in a source that breaks no rule stands apart
pub apart_source : (p : tree.Pipe) → KeepsRules p → is_named p ≡ true → IsAdvisedApart (flat p)
apart_source p rules named =
    let a : IsApart (flat p) = (typed_whole p rules named).apart in
    record {
      rows = rows_apart (flat p) a (flat p).stmts a.stmts;
      forks = λ k x u. unflagged (flat p) a x (stages_plain a.flags (flat p).stages k x a.stages u);
      locks = locked_plain p rules;
    }
