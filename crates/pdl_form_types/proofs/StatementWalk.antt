-- A walk over the statements of a pipe that keeps the rules: all flat statements are typed, and so are the forks of the stages; and none uses an advised variable where none may stand.
use Rattle.std.proofs.Common.{◌≡◌, refl, sym, ap, ◌∙◌, subst, ℕ, suc, ◌+◌, ◌<◌, Bool, true, false, ◌==◌, if◌then◌else◌, List, [], ◌∷◌, ◌++◌, length, slice_index, Option, append_assoc, append-nil}
use Rattle.std.proofs.lemmas.Bool.{or_parts, eqb-true, not-false}
use Rattle.pdl_kit.specs.declared.rule.Rule.TheVariants.{W3}
use Rattle.pdl_semantics.specs.Tree.{Span, Expr, Variable, Stmt, If, Stmts, Nil, Cons, Pipe}
use Rattle.pdl_semantics.specs.Tree
use Rattle.pdl_semantics.specs.Flat as flat
use Rattle.pdl_semantics.specs.Flatten.{Graph, guard_of, with_guard, at_otherwise, past, past_all, binds_guard, under, flat_stmt, flat_stmts, separators, side, with_merge, graph_with_fork, graph_with_stage, graph_before, graph, mems_of, width_of}
use Rattle.pdl_semantics.specs.Flatten
use Rattle.pdl_form.specs.Form.{form_of}
use Rattle.pdl_rules.specs.Places.{Place, Statement, Branch, with_inner, statements, places}
use Rattle.pdl_rules.specs.Places
use Rattle.pdl_rules.specs.Names.{OfVariable, is_undefined}
use Rattle.pdl_rules.specs.Widths.{variables, is_wide_if}
use Rattle.pdl_rules.specs.Refusal.{KeepsRules}
use Rattle.pdl_form_types.specs.Stmts.{AreGuards, AreTypedStmts, AreTypedMems, IsFork, AreForks}
use Rattle.pdl_form_types.specs.Apart.{IsPlain, AreApartGuards, AreApartStmts, IsApartNext, AreApartStages}
use Rattle.pdl_form_types.proofs.VariableNames.{found, Begins, begins_then, widths_of, flags_of}
use Rattle.pdl_form_types.proofs.Values.{Alike, alike}
use Rattle.pdl_form_types.proofs.VariableFacts.{After, after_same, after_guard}
use Rattle.pdl_form_types.proofs.StatementFacts.{fits, tree_typed}
use Rattle.pdl_form_types.proofs.VariableGrowth.{new_last, guard_begins, past_all_begins}
use Rattle.pdl_form_types.proofs.Single.{single, after_single}
use Rattle.pdl_form_types.proofs.ApartSingle.{apart_single, guard_plain, guard_apart}
use Rattle.pdl_semantics.proofs.Facts.{all_vars}

-- LISTS

-- guards are still typed with one more that is a variable of 1 bit
pub guards_push : (ws : List ℕ) (gs : List flat.Guard) (g : flat.Guard) → AreGuards ws gs
    → (g.var < length ws) × (slice_index ws g.var ≡ 1) → AreGuards ws (gs ++ g ∷ [])
guards_push ws [] g h k = (k.0, k.1, tt)
guards_push ws (x ∷ xs) g h k = (h.0, h.1, guards_push ws xs g h.2 k)

module _ (p : Pipe) where
  stmts_append : (xs ys : List flat.Stmt) → AreTypedStmts (form_of p) xs → AreTypedStmts (form_of p) ys → AreTypedStmts (form_of p) (xs ++ ys)
  stmts_append [] ys h k = k
  stmts_append (x ∷ xs) ys h k = (h.0, stmts_append xs ys h.1 k)

forks_append : (ws : List ℕ) (xs ys : List flat.Stage) → AreForks ws xs → AreForks ws ys → AreForks ws (xs ++ ys)
forks_append ws [] ys h k = k
forks_append ws (x ∷ xs) ys h k = (h.0, forks_append ws xs ys h.1 k)

merging_forks : (ws : List ℕ) (f : ℕ) (xs : List flat.Stage) → AreForks ws xs → AreForks ws (with_merge f xs)
merging_forks ws f [] h = h
merging_forks ws f (x ∷ xs) h = h

-- where a graph goes and its later stages fork only on variables of 1 bit
abbrev pub IsForked : List ℕ → Graph → Type 0
IsForked ws g = IsFork ws g.next × AreForks ws g.later

either_forked : (ws : List ℕ) (b : Bool) (g h : Graph) → IsForked ws g → IsForked ws h → IsForked ws (if b then g else h)
either_forked ws true g h x y = x
either_forked ws false g h x y = y

-- THE SAME OF ADVISED VARIABLES

apart_push : (fs : List Bool) (gs : List flat.Guard) (g : flat.Guard) → AreApartGuards fs gs → IsPlain fs g.var → AreApartGuards fs (gs ++ g ∷ [])
apart_push fs [] g h k = (k, tt)
apart_push fs (x ∷ xs) g h k = (h.0, apart_push fs xs g h.1 k)

apart_append : (fs : List Bool) (xs ys : List flat.Stmt) → AreApartStmts fs xs → AreApartStmts fs ys → AreApartStmts fs (xs ++ ys)
apart_append fs [] ys h k = k
apart_append fs (x ∷ xs) ys h k = (h.0, apart_append fs xs ys h.1 k)

stages_append : (fs : List Bool) (xs ys : List flat.Stage) → AreApartStages fs xs → AreApartStages fs ys → AreApartStages fs (xs ++ ys)
stages_append fs [] ys h k = k
stages_append fs (x ∷ xs) ys h k = (h.0, stages_append fs xs ys h.1 k)

merging_apart : (fs : List Bool) (f : ℕ) (xs : List flat.Stage) → AreApartStages fs xs → AreApartStages fs (with_merge f xs)
merging_apart fs f [] h = h
merging_apart fs f (x ∷ xs) h = h

-- where a graph goes and its later stages fork on no advised variable
abbrev pub IsApartGraph : List Bool → Graph → Type 0
IsApartGraph fs g = IsApartNext fs g.next × AreApartStages fs g.later

either_apart : (fs : List Bool) (b : Bool) (g h : Graph) → IsApartGraph fs g → IsApartGraph fs h → IsApartGraph fs (if b then g else h)
either_apart fs true g h x y = x
either_apart fs false g h x y = y

-- GUARDS

module _ (p : Pipe) (w : Flatten.Position) where
  -- the guard of an `if` is a variable of 1 bit
  guard_bit : (us : List Flatten.Var) (c : Expr) → Begins (with_guard c w).vars (all_vars p) → Alike us w.vars (widths_of (all_vars p)) c → width_of us c ≡ 1
      → (guard_of w.vars c < length (widths_of (all_vars p))) × (slice_index (widths_of (all_vars p)) (guard_of w.vars c) ≡ 1)
  guard_bit us (Variable x) graph_with_stage h one = (h.typed, h.width ∙ one)
  guard_bit us c graph_with_stage h one = new_last w.vars (all_vars p) _ graph_with_stage

  guard_typed : (us : List Flatten.Var) (gs : List flat.Guard) (c : Expr) → Begins (with_guard c w).vars (all_vars p)
      → Alike us w.vars (widths_of (all_vars p)) c
      → width_of us c ≡ 1 → AreGuards (widths_of (all_vars p)) gs → AreTypedStmts (form_of p) (binds_guard gs w c)
  guard_typed us gs (Variable x) graph_with_stage h one g = tt
  guard_typed us gs c graph_with_stage h one g =
      let new = new_last w.vars (all_vars p) _ graph_with_stage in
      ((g, (new.0, h.typed, h.width ∙ one ∙ sym new.1)), tt)

  guard_after : (before : List Place) (c : Expr) → After p before w.vars → After p before (with_guard c w).vars
  guard_after before (Variable x) b = b
  guard_after before c b = after_guard p before w.vars b

-- THE WALK

-- what comes of a statement that stands after these places
pub record Walked (p : Pipe) (before : List Place) (bs : List Branch) (gs : List flat.Guard) (s : Stmt) (w : Flatten.Position) : Type 0 where
  pub after : After p (before ++ with_inner bs s) (past p.mems s w).vars
  pub typed : AreTypedStmts (form_of p) (flat_stmt p.mems gs s w)
  pub apart : AreApartStmts (flags_of (all_vars p)) (flat_stmt p.mems gs s w)
  pub forked : (branches : List flat.Branch) (rest : Graph) → IsForked (widths_of (all_vars p)) rest
      → IsForked (widths_of (all_vars p)) (graph_before p.mems branches s w rest)
  pub plain : (branches : List flat.Branch) (rest : Graph) → IsApartGraph (flags_of (all_vars p)) rest
      → IsApartGraph (flags_of (all_vars p)) (graph_before p.mems branches s w rest)

-- what comes of some statements, one after another, that stand after these places
pub record AllWalked (p : Pipe) (before : List Place) (bs : List Branch) (gs : List flat.Guard) (ss : Stmts) (w : Flatten.Position) : Type 0 where
  pub after : After p (before ++ statements bs ss) (past_all p.mems ss w).vars
  pub typed : AreTypedStmts (form_of p) (flat_stmts p.mems gs ss w)
  pub apart : AreApartStmts (flags_of (all_vars p)) (flat_stmts p.mems gs ss w)
  pub forked : (branches : List flat.Branch) (exit : flat.Next) → IsFork (widths_of (all_vars p)) exit
      → IsForked (widths_of (all_vars p)) (graph p.mems branches exit ss w)
  pub plain : (branches : List flat.Branch) (exit : flat.Next) → IsApartNext (flags_of (all_vars p)) exit
      → IsApartGraph (flags_of (all_vars p)) (graph p.mems branches exit ss w)

abbrev branch : Span → Expr → Bool → Stmts → Branch
branch sp c truth inside = record { guard = Places.guard_of sp c; truth = truth; inside = inside }

module _ (p : Pipe) (rules : KeepsRules p) (named : is_undefined (places p) (OfVariable []) ≡ true) (mems : AreTypedMems (mems_of p.mems)) where
  mutual
    walked : (before later : List Place) (bs : List Branch) (gs : List flat.Guard) (s : Stmt) (w : Flatten.Position)
        → places p ≡ before ++ (with_inner bs s ++ later)
        → After p before w.vars → Begins (past p.mems s w).vars (all_vars p) → AreGuards (widths_of (all_vars p)) gs
        → AreApartGuards (flags_of (all_vars p)) gs → Walked p before bs gs s w
    walked before later bs gs (If sp c when otherwise) w e b graph_with_stage g k =
        let here = Statement (If sp c when otherwise) bs in
        let first = statements (bs ++ branch sp c true when ∷ []) when in
        let second = statements (bs ++ branch sp c false otherwise ∷ []) otherwise in
        let middle : Begins (past_all p.mems when (with_guard c w)).vars (all_vars p) =
        begins_then (past_all p.mems when (with_guard c w)).vars _ (all_vars p)
        (past_all_begins p.mems otherwise (at_otherwise p.mems c when w)) graph_with_stage in
        let start : Begins (with_guard c w).vars (all_vars p) =
        begins_then (with_guard c w).vars _ (all_vars p) (past_all_begins p.mems when (with_guard c w)) middle in
        let low : Begins w.vars (all_vars p) = begins_then w.vars _ (all_vars p) (guard_begins c w) start in
        let at_if : places p ≡ before ++ here ∷ ((first ++ second) ++ later) = e in
        let condition = tree_typed p rules before (If sp c when otherwise) bs _ at_if w.vars b c (fits p rules before (If sp c when otherwise) bs _ at_if) in
        let value = alike b.us w.vars (widths_of (all_vars p)) (found b.us w.vars (all_vars p) b.stays low) c condition.0 in
        let one : width_of b.us c ≡ 1 =
        sym condition.1 ∙ eqb-true (width_of (variables p) c) 1 (not-false _ (or_parts (is_wide_if (variables p) here) _ (rules W3 before here _ at_if)).0) in
        let bit = guard_bit p w b.us c start value one in
        let unadvised = guard_plain p rules before bs _ w b sp c when otherwise at_if low start in
        let after_if = guard_after p w (before ++ here ∷ []) c (after_same p before w.vars b here refl refl) in
        let at_first : places p ≡ (before ++ here ∷ []) ++ (first ++ (second ++ later)) =
        at_if ∙ ap (λ l. before ++ here ∷ l) (append_assoc first second later) ∙ sym (append_assoc before (here ∷ []) (first ++ (second ++ later))) in
        let one_branch = all_walked (before ++ here ∷ []) (second ++ later) _ _ when (with_guard c w) at_first after_if middle
        (guards_push _ gs (record { var = guard_of w.vars c; first = true }) g bit)
        (apart_push _ gs (record { var = guard_of w.vars c; first = true }) k unadvised) in
        let at_second : places p ≡ ((before ++ here ∷ []) ++ first) ++ (second ++ later) =
        at_first ∙ sym (append_assoc (before ++ here ∷ []) first (second ++ later)) in
        let other_branch =
        all_walked ((before ++ here ∷ []) ++ first) later _ _ otherwise (at_otherwise p.mems c when w) at_second one_branch.after graph_with_stage
        (guards_push _ gs (record { var = guard_of w.vars c; first = false }) g bit)
        (apart_push _ gs (record { var = guard_of w.vars c; first = false }) k unadvised) in
        record {
          after = subst (λ l. After p l (past p.mems (If sp c when otherwise) w).vars)
              (append_assoc (before ++ here ∷ []) first second ∙ append_assoc before (here ∷ []) (first ++ second)) other_branch.after;
          typed = stmts_append p (binds_guard gs w c ++ flat_stmts p.mems (under gs w.vars c true) when (with_guard c w)) _
              (stmts_append p (binds_guard gs w c) _ (guard_typed p w b.us gs c start value one g) one_branch.typed) other_branch.typed;
          apart = apart_append _ (binds_guard gs w c ++ flat_stmts p.mems (under gs w.vars c true) when (with_guard c w)) _
              (apart_append _ (binds_guard gs w c) _ (guard_apart p rules before bs _ w b sp c when otherwise at_if low start gs k) one_branch.apart)
              other_branch.apart;
          forked = λ out rest h.
              let merge = flat.Goes (suc (w.begun + separators when + separators otherwise)) in
              let upper = graph p.mems (side w.stage true ∷ out) merge when (with_guard c w) in
              let lower = graph p.mems (side w.stage false ∷ out) merge otherwise (at_otherwise p.mems c when w) in
              let of_upper = one_branch.forked (side w.stage true ∷ out) merge tt in
              let of_lower = other_branch.forked (side w.stage false ∷ out) merge tt in
              either_forked (widths_of (all_vars p))
              (separators when + separators otherwise == 0) rest (graph_with_fork w.stage (guard_of w.vars c) upper lower rest) h (
                bit,
                forks_append _ (upper.later ++ lower.later) _ (forks_append _ upper.later _ of_upper.1 of_lower.1) (merging_forks _ w.stage rest.later h.1),
              );
          plain = λ out rest h.
              let merge = flat.Goes (suc (w.begun + separators when + separators otherwise)) in
              let upper = graph p.mems (side w.stage true ∷ out) merge when (with_guard c w) in
              let lower = graph p.mems (side w.stage false ∷ out) merge otherwise (at_otherwise p.mems c when w) in
              let of_upper = one_branch.plain (side w.stage true ∷ out) merge tt in
              let of_lower = other_branch.plain (side w.stage false ∷ out) merge tt in
              either_apart (flags_of (all_vars p))
              (separators when + separators otherwise == 0) rest (graph_with_fork w.stage (guard_of w.vars c) upper lower rest) h (
                unadvised,
                stages_append _ (upper.later ++ lower.later) _ (stages_append _ upper.later _ of_upper.1 of_lower.1) (merging_apart _ w.stage rest.later h.1),
              );
        }
    walked before later bs gs (Tree.Separator sp) w e b graph_with_stage g k = record {
      after = after_single p rules before bs later w b named mems (Tree.Separator sp) refl e;
      typed = tt;
      apart = tt;
      forked = λ out rest h. (tt, (h.0, h.1));
      plain = λ out rest h. (tt, (h.0, h.1));
    }
    walked before later bs gs s w e b graph_with_stage g k = record {
      after = after_single p rules before bs later w b named mems s refl e;
      typed = single p rules before bs later w b s refl e graph_with_stage gs g;
      apart = apart_single p rules before bs later w b s refl e graph_with_stage gs k;
      forked = λ out rest h. h;
      plain = λ out rest h. h;
    }

    -- statements of a pipe that keeps the rules are typed, and leave variables that the rules know and forks on 1 bit
    pub all_walked : (before later : List Place) (bs : List Branch) (gs : List flat.Guard) (ss : Stmts) (w : Flatten.Position)
        → places p ≡ before ++ (statements bs ss ++ later)
        → After p before w.vars → Begins (past_all p.mems ss w).vars (all_vars p) → AreGuards (widths_of (all_vars p)) gs
        → AreApartGuards (flags_of (all_vars p)) gs → AllWalked p before bs gs ss w
    all_walked before later bs gs Nil w e b graph_with_stage g k = record {
      after = subst (λ l. After p l w.vars) (sym (append-nil before)) b;
      typed = tt;
      apart = tt;
      forked = λ out exit h. (h, tt);
      plain = λ out exit h. (h, tt);
    }
    all_walked before later bs gs (Cons s ss) w e b graph_with_stage g k =
        let here : places p ≡ before ++ (with_inner bs s ++ (statements bs ss ++ later)) =
        e ∙ ap (λ l. before ++ l) (append_assoc (with_inner bs s) (statements bs ss) later) in
        let one = walked before (statements bs ss ++ later) bs gs s w here b
        (begins_then (past p.mems s w).vars _ (all_vars p) (past_all_begins p.mems ss (past p.mems s w)) graph_with_stage) g k in
        let others =
        all_walked (before ++ with_inner bs s) later bs gs ss (past p.mems s w)
        (here ∙ sym (append_assoc before (with_inner bs s) (statements bs ss ++ later)))
        one.after graph_with_stage g k in
        record {
          after = subst (λ l. After p l (past_all p.mems (Cons s ss) w).vars) (append_assoc before (with_inner bs s) (statements bs ss)) others.after;
          typed = stmts_append p (flat_stmt p.mems gs s w) _ one.typed others.typed;
          apart = apart_append _ (flat_stmt p.mems gs s w) _ one.apart others.apart;
          forked = λ out exit h. one.forked out _ (others.forked out exit h);
          plain = λ out exit h. one.plain out _ (others.plain out exit h);
        }
