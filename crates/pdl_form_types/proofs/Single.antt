-- The flat statement of one statement that is no `if`, and what stands after it.
use Rattle.std.proofs.Common.{◌≡◌, refl, sym, ◌∙◌, subst, subst₂, ℕ, Bool, true, false, not, ◌||◌, List, [], ◌∷◌, ◌++◌, map, Some, nat_eq}
use Rattle.std.specs.List.{list_any}
use Rattle.std.specs.Cmp.Lexicographic.{pointwise}
use Rattle.std.proofs.lemmas.Bool.{true≢false, eqb-true, not-false}
use Rattle.pdl_kit.specs.declared.rule.Rule.TheVariants.{N2, W5, W6, F5}
use Rattle.pdl_semantics.specs.Tree.{Expr, Location, R, W, Stmt, Separator, CombRead, Bind, SpecCall, DelayedRead, Write, Reserve, Block, Release, If, Call, Verify, Update, SpecCheck, SpecBarrier, Param, Pipe}
use Rattle.pdl_semantics.specs.Flat as flat
use Rattle.pdl_semantics.specs.Flatten.{var_of, mem_of, mems_of, mem_width, width_of, is_advisory_mem, is_advised, bind_op, read_op, write_op, flat_expr, flat_exprs, flat_stmt, past}
use Rattle.pdl_semantics.specs.Flatten
use Rattle.pdl_form.specs.Form.{Form, form_of}
use Rattle.pdl_rules.specs.Places.{Place, Statement, Branch, places}
use Rattle.pdl_rules.specs.Parts.{location_of}
use Rattle.pdl_rules.specs.Names.{OfVariable, is_undefined, is_too_early}
use Rattle.pdl_rules.specs.Widths.{variables}
use Rattle.pdl_rules.specs.Locks.{is_locked}
use Rattle.pdl_rules.specs.Refusal.{KeepsRules}
use Rattle.pdl_rules.proofs.TypedExpressions.{Fits, of_one}
use Rattle.pdl_form_types.specs.Stmts.{AreGuards, IsLocation, IsLockedMem, IsTypedOp, AreArguments, AreTypedStmts, AreTypedMems, param_widths}
use Rattle.pdl_form_types.proofs.VariableNames.{Found, found, flagged, Begins, begins_self, begins_then, widths_of}
use Rattle.pdl_form_types.proofs.Advised.{advised_same}
use Rattle.pdl_form_types.proofs.Values.{Alike, alike, arguments_flat, IsWide, wide_expr}
use Rattle.pdl_form_types.proofs.Memories.{found_width, wide_mem}
use Rattle.pdl_form_types.proofs.VariableFacts.{After, after_same, after_more, has_letters}
use Rattle.pdl_form_types.proofs.StatementFacts.{fits, tree_typed, tree_arguments, memory, located, locked}
use Rattle.pdl_form_types.proofs.Parameters.{params_are}
use Rattle.pdl_form_types.proofs.VariableGrowth.{begins_same, new_last}
use Rattle.pdl_semantics.proofs.Facts.{all_vars}

-- whether a statement is an `if`
abbrev pub is_if : Stmt → Bool
is_if (If _ _ _ _) = true
is_if _ = false

-- what holds of a binding, a read or a write, advisory or not, holds of the one that is made
either_bind : (f : Form) (a : Bool) (x : ℕ) (e : flat.Expr) → IsTypedOp f (flat.Bind x e) → IsTypedOp f (bind_op a x e)
either_bind f true x e h = h
either_bind f false x e h = h

either_read : (f : Form) (b : Bool) (x m a : ℕ) → IsTypedOp f (flat.CombRead x m a) → IsTypedOp f (read_op b x m a)
either_read f true x m a h = h
either_read f false x m a h = h

either_write : (f : Form) (b : Bool) (m a : ℕ) (e : flat.Expr)
    → IsTypedOp f (flat.AdviceWrite m a e) → (b ≡ false → IsLockedMem f.pipe m) → IsTypedOp f (write_op b m a e)
either_write f true m a e h k = h
either_write f false m a e h k = (h.0, h.1, h.2, k refl)

-- a memory that is written and isn't advisory has a lock
unless_advisory : (locked advisory : Bool) → not (locked || advisory) ≡ false → advisory ≡ false → not locked ≡ false
unless_advisory true advisory e f = refl
unless_advisory false true e f = absurd (true≢false f)
unless_advisory false false e f = e

module _ (p : Pipe) (rules : KeepsRules p) (before : List Place) (bs : List Branch) (later : List Place)
    (w : Flatten.Position) (b : After p before w.vars) where
  -- ITS FLAT STATEMENT

  module _ (s : Stmt) (e : places p ≡ before ++ Statement s bs ∷ later) (begins : Begins w.vars (all_vars p)) where
    its_found : Found b.us w.vars (widths_of (all_vars p))
    its_found = found b.us w.vars (all_vars p) b.stays begins

    its_location : (at : Location) → location_of s ≡ Some at
        → IsLocation (Flatten.flat p) (widths_of (all_vars p)) (mem_of p.mems at.mem.name) (var_of w.vars at.address.name)
    its_location at is = located p rules before s bs later e w.vars b at is (widths_of (all_vars p)) its_found

    its_arguments : (es : List Expr) → Fits (is_too_early p before (Statement s bs)) (variables p) (λ test. list_any test es)
        → pointwise nat_eq (map (width_of (variables p)) es) (map (λ (a : Param). a.width.value) p.params) ≡ true
        → AreArguments (widths_of (all_vars p)) (param_widths (form_of p)) (flat_exprs w.vars es)
    its_arguments es f h =
        subst (λ ns. AreArguments (widths_of (all_vars p)) ns (flat_exprs w.vars es)) (sym (params_are p rules))
        (arguments_flat b.us w.vars (widths_of (all_vars p)) its_found p.params es (tree_arguments p rules before s bs later e w.vars b es f h))

    its_value : (v : Expr) → Fits (is_too_early p before (Statement s bs)) (variables p) (of_one v) → Alike b.us w.vars (widths_of (all_vars p)) v
    its_value v f = alike b.us w.vars (widths_of (all_vars p)) its_found v (tree_typed p rules before s bs later e w.vars b v f).0

    its_width : (v : Expr) → Fits (is_too_early p before (Statement s bs)) (variables p) (of_one v) → width_of (variables p) v ≡ width_of b.us v
    its_width v f = (tree_typed p rules before s bs later e w.vars b v f).1

  -- the flat statements of a statement other than an `if` are typed, under guards that are
  pub single : (s : Stmt) → is_if s ≡ false → places p ≡ before ++ Statement s bs ∷ later → Begins (past p.mems s w).vars (all_vars p)
      → (gs : List flat.Guard) → AreGuards (widths_of (all_vars p)) gs → AreTypedStmts (form_of p) (flat_stmt p.mems gs s w)
  single (Separator sp) i e begins gs g = tt
  single (CombRead sp x at) i e begins gs g =
      let new = new_last w.vars (all_vars p) _ begins in
      let place = its_location (CombRead sp x at) e (begins_then w.vars _ (all_vars p) (begins_self w.vars _) begins) at refl in
      ((g, either_read (form_of p) (is_advisory_mem p.mems at.mem.name) _ _ _ (new.0, place, new.1 ∙ sym (found_width p.mems at.mem.name))), tt)
  single (DelayedRead sp x at) i e begins gs g =
      let new = new_last w.vars (all_vars p) _ begins in
      let place = its_location (DelayedRead sp x at) e (begins_then w.vars _ (all_vars p) (begins_self w.vars _) begins) at refl in
      ((g, (new.0, place, new.1 ∙ sym (found_width p.mems at.mem.name))), tt)
  single (Bind sp x v) i e begins gs g =
      let new = new_last w.vars (all_vars p) _ begins in
      let value =
      its_value (Bind sp x v) e (begins_then w.vars _ (all_vars p) (begins_self w.vars _) begins) v (fits p rules before (Bind sp x v) bs later e) in
      ((g, either_bind (form_of p) (is_advised w.vars v) _ _ (new.0, value.typed, value.width ∙ sym value.same ∙ sym new.1)), tt)
  single (SpecCall sp h es) i e begins gs g = (
    (
      g,
      its_arguments (SpecCall sp h es) e begins es (fits p rules before (SpecCall sp h es) bs later e)
          (not-false _ (rules W5 before (Statement (SpecCall sp h es) bs) later e)),
    ),
    tt,
  )
  single (Write sp at v) i e begins gs g =
      let place = its_location (Write sp at v) e begins at refl in
      let value = its_value (Write sp at v) e begins v (fits p rules before (Write sp at v) bs later e) in
      let same = its_width (Write sp at v) e begins v (fits p rules before (Write sp at v) bs later e) in
      let wide = eqb-true (width_of (variables p) v) (mem_width p.mems at.mem.name) (not-false _ (rules W6 before (Statement (Write sp at v) bs) later e)) in (
        (
          g,
          either_write (form_of p) (is_advisory_mem p.mems at.mem.name) _ _ _
              (place, value.typed, value.width ∙ sym same ∙ wide ∙ sym (found_width p.mems at.mem.name))
              (λ plain. locked p at.mem.name
              (unless_advisory (is_locked p.mems at.mem.name) (is_advisory_mem p.mems at.mem.name)
              (rules F5 before (Statement (Write sp at v) bs) later e) plain)),
        ),
        tt,
      )
  single (Reserve sp at R) i e begins gs g =
      ((g, (its_location (Reserve sp at R) e begins at refl, locked p at.mem.name (rules F5 before (Statement (Reserve sp at R) bs) later e))), tt)
  single (Reserve sp at W) i e begins gs g =
      ((g, (its_location (Reserve sp at W) e begins at refl, locked p at.mem.name (rules F5 before (Statement (Reserve sp at W) bs) later e))), tt)
  single (Block sp at) i e begins gs g =
      ((g, (its_location (Block sp at) e begins at refl, locked p at.mem.name (rules F5 before (Statement (Block sp at) bs) later e))), tt)
  single (Release sp at) i e begins gs g =
      ((g, (its_location (Release sp at) e begins at refl, locked p at.mem.name (rules F5 before (Statement (Release sp at) bs) later e))), tt)
  single (If sp c when otherwise) i e begins gs g = absurd (true≢false i)
  single (Call sp es) i e begins gs g = (
    (
      g,
      its_arguments (Call sp es) e begins es (fits p rules before (Call sp es) bs later e)
          (not-false _ (rules W5 before (Statement (Call sp es) bs) later e)),
    ),
    tt,
  )
  single (Verify sp h es) i e begins gs g = (
    (
      g,
      its_arguments (Verify sp h es) e begins es (fits p rules before (Verify sp h es) bs later e)
          (not-false _ (rules W5 before (Statement (Verify sp h es) bs) later e)),
    ),
    tt,
  )
  single (Update sp h es) i e begins gs g = (
    (
      g,
      its_arguments (Update sp h es) e begins es (fits p rules before (Update sp h es) bs later e)
          (not-false _ (rules W5 before (Statement (Update sp h es) bs) later e)),
    ),
    tt,
  )
  single (SpecCheck sp) i e begins gs g = ((g, tt), tt)
  single (SpecBarrier sp) i e begins gs g = ((g, tt), tt)

  -- WHAT STANDS AFTER IT

  module _ (named : is_undefined (places p) (OfVariable []) ≡ true) (mems : AreTypedMems (mems_of p.mems)) where
    -- the variables after a statement other than an `if` are still known to the rules, with allowed widths
    pub after_single : (s : Stmt) → is_if s ≡ false → places p ≡ before ++ Statement s bs ∷ later
        → After p (before ++ Statement s bs ∷ []) (past p.mems s w).vars
    after_single (CombRead sp x at) i e =
        after_more p before w.vars b (Statement (CombRead sp x at) bs) x.name (mem_width p.mems at.mem.name)
        (is_advisory_mem p.mems at.mem.name) refl refl refl
        (rules N2 before (Statement (CombRead sp x at) bs) later e)
        (has_letters p rules named before (Statement (CombRead sp x at) bs) later x.name e refl)
        (wide_mem p.mems at.mem.name mems (memory p rules before (CombRead sp x at) bs later e w.vars b at refl))
    after_single (DelayedRead sp x at) i e =
        after_more p before w.vars b (Statement (DelayedRead sp x at) bs) x.name (mem_width p.mems at.mem.name) false refl refl refl
        (rules N2 before (Statement (DelayedRead sp x at) bs) later e)
        (has_letters p rules named before (Statement (DelayedRead sp x at) bs) later x.name e refl)
        (wide_mem p.mems at.mem.name mems (memory p rules before (DelayedRead sp x at) bs later e w.vars b at refl))
    after_single (Bind sp x v) i e =
        let tree = (tree_typed p rules before (Bind sp x v) bs later e w.vars b v (fits p rules before (Bind sp x v) bs later e)).0 in
        let value = alike b.us w.vars (widths_of w.vars) (found b.us w.vars w.vars b.stays (begins_same w.vars)) v tree in
        let wide = subst IsWide value.width (wide_expr (widths_of w.vars) b.wide (flat_expr w.vars v) value.typed) in
        let flags = flagged b.us w.vars w.vars b.stays (begins_same w.vars) in
        subst₂ (λ n a. After p (before ++ Statement (Bind sp x v) bs ∷ []) (w.vars ++ record { name = x.name; width = n; advised = a } ∷ []))
        (sym value.same) (sym (advised_same b.us w.vars _ flags v tree))
        (after_more p before w.vars b (Statement (Bind sp x v) bs) x.name (width_of b.us v) (is_advised b.us v) refl refl refl
        (rules N2 before (Statement (Bind sp x v) bs) later e)
        (has_letters p rules named before (Statement (Bind sp x v) bs) later x.name e refl) wide)
    after_single (If sp c when otherwise) i e = absurd (true≢false i)
    after_single s i e = after_same p before w.vars b (Statement s bs) refl refl
