-- The flat statement of one statement uses no advised variable where none may stand.
use Rattle.std.proofs.Common.{◌≡◌, refl, sym, ap, ◌∙◌, ℕ, Bool, true, false, not, ◌&&◌, ◌||◌, List, [], ◌∷◌, ◌++◌, map, length, Some, nat_eq}
use Rattle.std.specs.List.{list_any}
use Rattle.std.specs.Cmp.Lexicographic.{pointwise}
use Rattle.std.proofs.lemmas.Bool.{true≢false, or_parts, not-false}
use Rattle.pdl_kit.specs.declared.rule.Rule.TheVariants.{W5, P1}
use Rattle.pdl_semantics.specs.Tree.{Span, Expr, Variable, Location, R, W, Stmt, Separator, CombRead, Bind, SpecCall, DelayedRead, Write, Reserve, Block, Release, If, Call, Verify, Update, SpecCheck, SpecBarrier, Stmts, Param, Pipe}
use Rattle.pdl_semantics.specs.Flat as flat
use Rattle.pdl_semantics.specs.Flatten.{var_of, width_of, is_advisory_mem, is_advised_var, is_advised, bind_op, read_op, write_op, flat_expr, flat_exprs, flat_stmt, past, guard_of, with_guard, binds_guard}
use Rattle.pdl_semantics.specs.Flatten
use Rattle.pdl_rules.specs.Places.{Place, Statement, Branch, places}
use Rattle.pdl_rules.specs.Parts.{location_of}
use Rattle.pdl_rules.specs.Names.{is_too_early}
use Rattle.pdl_rules.specs.Widths.{variables}
use Rattle.pdl_rules.specs.Refusal.{KeepsRules}
use Rattle.pdl_rules.proofs.TypedExpressions.{Fits, of_one}
use Rattle.pdl_rules.proofs.KnownVariables.{Stays, known_stay}
use Rattle.pdl_form_types.specs.Apart.{IsPlain, flag_at, uses_flagged, some_flagged, IsApartOp, AreApartGuards, AreApartStmts}
use Rattle.pdl_form_types.proofs.VariableNames.{Flagged, flagged, flags_of, Begins, begins_self, begins_then}
use Rattle.pdl_form_types.proofs.Advised.{uses_advised, advised_same, advised_stays, some_advised}
use Rattle.pdl_form_types.proofs.VariableFacts.{After}
use Rattle.pdl_form_types.proofs.StatementFacts.{fits, tree_typed, tree_arguments, address}
use Rattle.pdl_form_types.proofs.VariableGrowth.{new_flag}
use Rattle.pdl_form_types.proofs.Single.{is_if}
use Rattle.pdl_semantics.proofs.Facts.{all_vars}

-- a binding, a read and a write, advisory or not, by what is asked of the plain one
apart_bind : (fs : List Bool) (a : Bool) (x : ℕ) (e : flat.Expr)
    → flag_at fs x ≡ a → (a ≡ false → uses_flagged fs e ≡ false) → IsApartOp fs (bind_op a x e)
apart_bind fs true x e h k = h
apart_bind fs false x e h k = (h, k refl)

apart_read : (fs : List Bool) (b : Bool) (x m a : ℕ) → flag_at fs x ≡ b → (b ≡ false → IsPlain fs a) → IsApartOp fs (read_op b x m a)
apart_read fs true x m a h k = h
apart_read fs false x m a h k = (h, k refl)

apart_write : (fs : List Bool) (b : Bool) (m a : ℕ) (e : flat.Expr)
    → (b ≡ false → IsPlain fs a) → (b ≡ false → uses_flagged fs e ≡ false) → IsApartOp fs (write_op b m a e)
apart_write fs true m a e h k = tt
apart_write fs false m a e h k = (h refl, k refl)

unless : (a b : Bool) → (not a && b) ≡ false → a ≡ false → b ≡ false
unless true b h e = absurd (true≢false e)
unless false b h e = h

module _ (p : Pipe) (rules : KeepsRules p) (before : List Place) (bs : List Branch) (later : List Place)
    (w : Flatten.Position) (b : After p before w.vars) where
  module _ (s : Stmt) (e : places p ≡ before ++ Statement s bs ∷ later) (begins : Begins w.vars (all_vars p)) where
    its_flags : Flagged b.us w.vars (flags_of (all_vars p))
    its_flags = flagged b.us w.vars (all_vars p) b.stays begins

    its_stays : Stays b.us (variables p)
    its_stays = known_stay p b.us before (Statement s bs ∷ later) e b.known

    -- an expression at the statement that isn't advised
    pub its_plain : (v : Expr) → Fits (is_too_early p before (Statement s bs)) (variables p) (of_one v) → is_advised (variables p) v ≡ false
        → uses_flagged (flags_of (all_vars p)) (flat_expr w.vars v) ≡ false
    its_plain v f h =
        let typed = (tree_typed p rules before s bs later e w.vars b v f).0 in
        uses_advised b.us w.vars (flags_of (all_vars p)) its_flags v typed ∙ sym (advised_stays b.us (variables p) its_stays v typed) ∙ h

    -- one that isn't advised by the variables so far
    its_bound : (v : Expr) → Fits (is_too_early p before (Statement s bs)) (variables p) (of_one v) → is_advised w.vars v ≡ false
        → uses_flagged (flags_of (all_vars p)) (flat_expr w.vars v) ≡ false
    its_bound v f h =
        let typed = (tree_typed p rules before s bs later e w.vars b v f).0 in
        uses_advised b.us w.vars (flags_of (all_vars p)) its_flags v typed
        ∙ sym (advised_same b.us w.vars (flags_of (all_vars p)) its_flags v typed)
        ∙ h

    its_arguments : (es : List Expr) → Fits (is_too_early p before (Statement s bs)) (variables p) (λ test. list_any test es)
        → pointwise nat_eq (map (width_of (variables p)) es) (map (λ (a : Param). a.width.value) p.params) ≡ true
        → list_any (is_advised (variables p)) es ≡ false → some_flagged (flags_of (all_vars p)) (flat_exprs w.vars es) ≡ false
    its_arguments es f h plain =
        some_advised b.us w.vars (variables p) (flags_of (all_vars p)) its_flags its_stays p.params es
        (tree_arguments p rules before s bs later e w.vars b es f h)
        ∙ plain

    its_address : (at : Location) → location_of s ≡ Some at → is_advised_var (variables p) at.address.name ≡ false
        → IsPlain (flags_of (all_vars p)) (var_of w.vars at.address.name)
    its_address at is h =
        let known = address p rules before s bs later e w.vars b at is in
        its_flags.flag at.address.name known ∙ sym (its_stays at.address.name known).2 ∙ h

  -- the flat statements of a statement other than an `if` use no advised variable where none may stand, under guards that use none
  pub apart_single : (s : Stmt) → is_if s ≡ false → places p ≡ before ++ Statement s bs ∷ later → Begins (past p.mems s w).vars (all_vars p)
      → (gs : List flat.Guard) → AreApartGuards (flags_of (all_vars p)) gs
      → AreApartStmts (flags_of (all_vars p)) (flat_stmt p.mems gs s w)
  apart_single (Separator sp) i e begins gs g = tt
  apart_single (CombRead sp x at) i e begins gs g =
      let low = begins_then w.vars _ (all_vars p) (begins_self w.vars _) begins in (
        (
          g,
          apart_read _ (is_advisory_mem p.mems at.mem.name) _ _ _ (new_flag w.vars (all_vars p) _ begins)
              (λ plain. its_address (CombRead sp x at) e low at refl
              (unless (is_advisory_mem p.mems at.mem.name) _ (rules P1 before (Statement (CombRead sp x at) bs) later e) plain)),
        ),
        tt,
      )
  apart_single (DelayedRead sp x at) i e begins gs g =
      let low = begins_then w.vars _ (all_vars p) (begins_self w.vars _) begins in (
        (
          g,
          (
            new_flag w.vars (all_vars p) _ begins,
            its_address (DelayedRead sp x at) e low at refl (rules P1 before (Statement (DelayedRead sp x at) bs) later e),
          ),
        ),
        tt,
      )
  apart_single (Bind sp x v) i e begins gs g =
      let low = begins_then w.vars _ (all_vars p) (begins_self w.vars _) begins in (
        (
          g,
          apart_bind _ (is_advised w.vars v) _ _ (new_flag w.vars (all_vars p) _ begins)
              (λ plain. its_bound (Bind sp x v) e low v (fits p rules before (Bind sp x v) bs later e) plain),
        ),
        tt,
      )
  apart_single (SpecCall sp h es) i e begins gs g = ((g, tt), tt)
  apart_single (Write sp at v) i e begins gs g =
      let both = λ (plain : is_advisory_mem p.mems at.mem.name ≡ false).
      or_parts (is_advised_var (variables p) at.address.name) (is_advised (variables p) v)
      (unless (is_advisory_mem p.mems at.mem.name) _ (rules P1 before (Statement (Write sp at v) bs) later e) plain) in (
        (
          g,
          apart_write _ (is_advisory_mem p.mems at.mem.name) _ _ _
              (λ plain. its_address (Write sp at v) e begins at refl (both plain).0)
              (λ plain. its_plain (Write sp at v) e begins v (fits p rules before (Write sp at v) bs later e) (both plain).1),
        ),
        tt,
      )
  apart_single (Reserve sp at R) i e begins gs g =
      ((g, its_address (Reserve sp at R) e begins at refl (rules P1 before (Statement (Reserve sp at R) bs) later e)), tt)
  apart_single (Reserve sp at W) i e begins gs g =
      ((g, its_address (Reserve sp at W) e begins at refl (rules P1 before (Statement (Reserve sp at W) bs) later e)), tt)
  apart_single (Block sp at) i e begins gs g =
      ((g, its_address (Block sp at) e begins at refl (rules P1 before (Statement (Block sp at) bs) later e)), tt)
  apart_single (Release sp at) i e begins gs g =
      ((g, its_address (Release sp at) e begins at refl (rules P1 before (Statement (Release sp at) bs) later e)), tt)
  apart_single (If sp c when otherwise) i e begins gs g = absurd (true≢false i)
  apart_single (Call sp es) i e begins gs g = (
    (
      g,
      its_arguments (Call sp es) e begins es (fits p rules before (Call sp es) bs later e)
          (not-false _ (rules W5 before (Statement (Call sp es) bs) later e)) (rules P1 before (Statement (Call sp es) bs) later e),
    ),
    tt,
  )
  apart_single (Verify sp h es) i e begins gs g = (
    (
      g,
      its_arguments (Verify sp h es) e begins es (fits p rules before (Verify sp h es) bs later e)
          (not-false _ (rules W5 before (Statement (Verify sp h es) bs) later e)) (rules P1 before (Statement (Verify sp h es) bs) later e),
    ),
    tt,
  )
  apart_single (Update sp h es) i e begins gs g = ((g, tt), tt)
  apart_single (SpecCheck sp) i e begins gs g = ((g, tt), tt)
  apart_single (SpecBarrier sp) i e begins gs g = ((g, tt), tt)

  -- THE GUARD OF AN `if`

  module _ (sp : Span) (c : Expr) (when otherwise : Stmts) (e : places p ≡ before ++ Statement (If sp c when otherwise) bs ∷ later)
      (begins : Begins w.vars (all_vars p)) where
    its_condition : uses_flagged (flags_of (all_vars p)) (flat_expr w.vars c) ≡ false
    its_condition =
        its_plain (If sp c when otherwise) e begins c (fits p rules before (If sp c when otherwise) bs later e)
        (rules P1 before (Statement (If sp c when otherwise) bs) later e)

    -- its variable isn't advised
    pub guard_plain : Begins (with_guard c w).vars (all_vars p) → IsPlain (flags_of (all_vars p)) (guard_of w.vars c)
    guard_plain start = at c its_condition start
      where
        at : (d : Expr) → uses_flagged (flags_of (all_vars p)) (flat_expr w.vars d) ≡ false → Begins (with_guard d w).vars (all_vars p)
            → IsPlain (flags_of (all_vars p)) (guard_of w.vars d)
        at (Variable x) h k = h
        at d h k = new_flag w.vars (all_vars p) _ k

    -- the statement that binds it uses no advised variable
    pub guard_apart : Begins (with_guard c w).vars (all_vars p) → (gs : List flat.Guard) → AreApartGuards (flags_of (all_vars p)) gs
        → AreApartStmts (flags_of (all_vars p)) (binds_guard gs w c)
    guard_apart start gs g = at c its_condition start
      where
        at : (d : Expr) → uses_flagged (flags_of (all_vars p)) (flat_expr w.vars d) ≡ false → Begins (with_guard d w).vars (all_vars p)
            → AreApartStmts (flags_of (all_vars p)) (binds_guard gs w d)
        at (Variable x) h k = tt
        at d h k = ((g, (new_flag w.vars (all_vars p) _ k, h)), tt)
