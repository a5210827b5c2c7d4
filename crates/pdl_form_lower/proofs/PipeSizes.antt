-- What the rules give a pipe that is to be lowered: its variables are those of the rules, its widths and sizes are in bounds, and it has few separators.
use Rattle.std.proofs.Common.{◌≡◌, ◌≢◌, refl, sym, ap, ap₂, ◌∙◌, subst, subst₂, ℕ, ◌+◌, ◌≤◌, Bool, true, false, not, ◌&&◌, ◌==◌, nat_le, bytes_eq, List, [], ◌∷◌, ◌++◌, map, count_by, Option, Some, None, ⊎_elim, arith, append_assoc, append-nil, leb-true}
use Rattle.std.specs.Prelude.{IsTrue}
use Rattle.std.proofs.lemmas.Bool.{or_parts, or_left, or_right, and_parts, and_cases, not-false, eqb-false}
use Rattle.std.proofs.lemmas.List.Sums.{sum_by-append}
use Rattle.std.specs.List.{list_any}
use Rattle.pdl_kit.specs.declared.rule.Rule.TheVariants.{Z3, Z7, N2, N3, W1, W2, W3}
use Rattle.pdl_semantics.specs.Tree.{Expr, Location, Stmt, Separator, CombRead, Bind, SpecCall, DelayedRead, Write, Reserve, Block, Release, If, Call, Verify, Update, SpecCheck, SpecBarrier, Stmts, Nil, Cons, Param, LockDecl, Mem, Pipe}
use Rattle.pdl_semantics.specs.Flatten.{Var, width_of, mem_width, is_advisory_mem, is_advised, params_of, separators, separators_in}
use Rattle.pdl_semantics.specs.Flat.{is_delayed, is_advisory}
use Rattle.pdl_rules.specs.Places.{Place, Parameter, Memory, Statement, End, StartClause, Branch, guard_of, with_inner, statements, places, on_some_path}
use Rattle.pdl_rules.specs.Parts.{some_part, some_expr_of, location_of, of_constant, is_some_and}
use Rattle.pdl_rules.specs.Limits.{is_separator, depths, is_depth, is_size, is_width, allows_lock, is_wrong_lock, is_wrong_literal, breaks_z7}
use Rattle.pdl_rules.specs.Names.{Use, OfVariable, OfMemory, bound_by, variable_at, in_location, reads_some, is_undefined, is_parameter, is_given, is_too_early}
use Rattle.pdl_rules.specs.Widths.{variables, is_unequal, is_too_large, is_out_of_range, is_wide_choice}
use Rattle.pdl_rules.specs.Typed.{is_named}
use Rattle.pdl_rules.specs.Refusal.{KeepsRules}
use Rattle.pdl_rules.proofs.Counts.{weight, count_push, count_cons}
use Rattle.pdl_rules.proofs.TypedExpressions.{Fits, of_one, typed, width_is}
use Rattle.pdl_rules.proofs.KnownVariables.{Stays, stays_more, defines_variable, AreKnown, none_known, known_same, known_more, known_stay, known_mems, params_named}
use Rattle.pdl_form_lower.specs.Sized.{IsSizedLock, IsSizedMem, AreSizedMems}
use Rattle.pdl_form_lower.specs.Lowerable.{IsKnown, IsLowerable, AreLowerable, IsLowerableStmt, AreLowerableStmts, AreLowerableParams, IsLowerablePipe}
use Rattle.pdl_form_lower.proofs.Widths.{Small, lowerable_typed, small_more, small_mem}
use Rattle.pdl_rules.proofs.Memories.{of_each}
use Rattle.pdl_rules.proofs.SingleWrites.{any_last}
use Rattle.pdl_word.proofs.Bytes.{bytes_refl}
use Rattle.pdl_word.specs.Words.{widest}

-- MEMORIES AND PARAMETERS

sized_lock : (m : Mem) (l : Option LockDecl) → is_some_and (is_wrong_lock m) l ≡ false → IsSizedLock l
sized_lock m None e = tt
sized_lock m (Some l) e =
    let plain = (or_parts (is_advisory m.kind) _ e).1 in
    let fine = and_parts (is_size l.size.value) (allows_lock m.depth.value (is_delayed m.kind) l.kind l.size.value) (not-false _ plain) in
    leb-true _ 16 (of_each (λ n. nat_le n 16) (1 ∷ 2 ∷ 4 ∷ 8 ∷ 16 ∷ []) l.size.value refl fine.0)

sized_mem : (m : Mem) → breaks_z7 (Memory m) ≡ false → IsSizedMem m
sized_mem m e =
    let parts = or_parts (not (is_width m.width.value && is_depth m.depth.value)) (is_some_and (is_wrong_lock m) m.lock) e in
    let both = and_parts (is_width m.width.value) (is_depth m.depth.value) (not-false _ parts.0) in
    let width = and_parts (nat_le 1 m.width.value) (nat_le m.width.value widest) both.0 in
    record {
      width = leb-true _ widest width.1;
      depth = leb-true _ 65536 (of_each (λ n. nat_le n 65536) depths m.depth.value refl both.1);
      lock = sized_lock m m.lock parts.1;
    }

-- EXPRESSIONS AT A PLACE

-- what the rules ask of the expressions at a statement
fits_here : (p : Pipe) → KeepsRules p → (before : List Place) (s : Stmt) (bs : List Branch) (later : List Place)
    → places p ≡ before ++ Statement s bs ∷ later
    → Fits (is_too_early p before (Statement s bs)) (variables p) (λ test. some_expr_of test s)
fits_here p rules before s bs later e = record {
  uses = (or_parts _ _ (or_parts _ _ (rules N3 before (Statement s bs) later e)).1).1;
  widths = rules W1 before (Statement s bs) later e;
  ranges = (or_parts _ _ (rules W2 before (Statement s bs) later e)).1;
  values = (or_parts _ _ (rules W2 before (Statement s bs) later e)).0;
  literals = rules Z7 before (Statement s bs) later e;
  choices = (or_parts _ _ (rules W3 before (Statement s bs) later e)).1;
}

fits_first : (early : Use → Bool) (all : List Var) (e : Expr) (es : List Expr)
    → Fits early all (λ test. list_any test (e ∷ es)) → Fits early all (of_one e)
fits_first early all e es f = record {
  uses = (or_parts (some_part (reads_some early) e) _ f.uses).0;
  widths = (or_parts (some_part (is_unequal all) e) _ f.widths).0;
  ranges = (or_parts (some_part (is_out_of_range all) e) _ f.ranges).0;
  values = (or_parts (some_part (of_constant is_too_large) e) _ f.values).0;
  literals = (or_parts (some_part (of_constant is_wrong_literal) e) _ f.literals).0;
  choices = (or_parts (some_part (is_wide_choice all) e) _ f.choices).0;
}

fits_rest : (early : Use → Bool) (all : List Var) (e : Expr) (es : List Expr) → Fits early all (λ test. list_any test (e ∷ es))
    → Fits early all (λ test. list_any test es)
fits_rest early all e es f = record {
  uses = (or_parts (some_part (reads_some early) e) _ f.uses).1;
  widths = (or_parts (some_part (is_unequal all) e) _ f.widths).1;
  ranges = (or_parts (some_part (is_out_of_range all) e) _ f.ranges).1;
  values = (or_parts (some_part (of_constant is_too_large) e) _ f.values).1;
  literals = (or_parts (some_part (of_constant is_wrong_literal) e) _ f.literals).1;
  choices = (or_parts (some_part (is_wide_choice all) e) _ f.choices).1;
}

-- the variables so far are small, those of a use that isn't too early are among them, and they keep their widths
record Ready (all vs : List Var) (early : Use → Bool) : Type 0 where
  small : Small vs
  knows : (x : List ℕ) → early (OfVariable x) ≡ false → IsTrue (is_named vs x)
  stays : Stays vs all

lowerable_one : (all vs : List Var) (early : Use → Bool) → Ready all vs early → (e : Expr) → Fits early all (of_one e)
    → IsLowerable all e × (width_of vs e ≤ widest)
lowerable_one all vs early r e f = lowerable_typed all vs r.stays r.small e (typed vs all early r.knows (λ x t. (r.stays x t).1) e f).0

lowerable_all : (all vs : List Var) (early : Use → Bool) → Ready all vs early → (es : List Expr)
    → Fits early all (λ test. list_any test es) → AreLowerable all es
lowerable_all all vs early r [] f = tt
lowerable_all all vs early r (e ∷ es) f = (
  (lowerable_one all vs early r e (fits_first early all e es f)).0,
  lowerable_all all vs early r es (fits_rest early all e es f),
)

-- the table has the address of a location whose use isn't too early
known_address : (all vs : List Var) (early : Use → Bool) → Ready all vs early → (at : Location) → in_location early at ≡ false → IsKnown all at.address
known_address all vs early r at h =
    (r.stays at.address.name (r.knows at.address.name (or_parts (early (OfMemory at.mem.name)) (early (OfVariable at.address.name)) h).1)).0

-- what a place itself has can be lowered, without what stands inside it
abbrev IsLowerableHere : List Var → Place → Type 0
IsLowerableHere us (Statement (If _ c _ _) _) = IsLowerable us c
IsLowerableHere us (Statement s _) = IsLowerableStmt us s
IsLowerableHere us _ = Unit {0}

abbrev AllLowerable : List Var → List Place → Type 0
AllLowerable us [] = Unit {0}
AllLowerable us (x ∷ xs) = IsLowerableHere us x × AllLowerable us xs

lowerable_here : (all vs : List Var) (early : Use → Bool) → Ready all vs early → (s : Stmt) (bs : List Branch)
    → ((x : List ℕ) → bound_by s ≡ Some x → IsTrue (is_named all x)) → is_some_and (in_location early) (location_of s) ≡ false
    → Fits early all (λ test. some_expr_of test s) → IsLowerableHere all (Statement s bs)
lowerable_here all vs early r (Separator _) bs d h f = tt
lowerable_here all vs early r (CombRead _ x at) bs d h f = (d x.name refl, known_address all vs early r at h)
lowerable_here all vs early r (Bind _ x e) bs d h f = (d x.name refl, (lowerable_one all vs early r e f).0)
lowerable_here all vs early r (SpecCall _ g es) bs d h f = lowerable_all all vs early r es f
lowerable_here all vs early r (DelayedRead _ x at) bs d h f = (d x.name refl, known_address all vs early r at h)
lowerable_here all vs early r (Write _ at e) bs d h f = (known_address all vs early r at h, (lowerable_one all vs early r e f).0)
lowerable_here all vs early r (Reserve _ at k) bs d h f = known_address all vs early r at h
lowerable_here all vs early r (Block _ at) bs d h f = known_address all vs early r at h
lowerable_here all vs early r (Release _ at) bs d h f = known_address all vs early r at h
lowerable_here all vs early r (If _ c when otherwise) bs d h f = (lowerable_one all vs early r c f).0
lowerable_here all vs early r (Call _ es) bs d h f = lowerable_all all vs early r es f
lowerable_here all vs early r (Verify _ g es) bs d h f = lowerable_all all vs early r es f
lowerable_here all vs early r (Update _ g es) bs d h f = lowerable_all all vs early r es f
lowerable_here all vs early r (SpecCheck _) bs d h f = tt
lowerable_here all vs early r (SpecBarrier _) bs d h f = tt

-- THE VARIABLES SO FAR

-- these are the variables that these places define, with the parameters among them, and none of them is wide
record After (p : Pipe) (vs : List Var) (before : List Place) : Type 0 where
  known : AreKnown p vs before
  small : Small vs
  params : (x : List ℕ) → is_parameter p x ≡ true → IsTrue (is_named vs x)

ready : (p : Pipe) (vs : List Var) (before : List Place) (x : Place) (later : List Place)
    → places p ≡ before ++ x ∷ later → After p vs before → Ready (variables p) vs (is_too_early p before x)
ready p vs before x later e b = record { small = b.small; knows = knows; stays = known_stay p vs before (x ∷ later) e b.known }
  where
    knows : (n : List ℕ) → is_too_early p before x (OfVariable n) ≡ false → IsTrue (is_named vs n)
    knows n h =
        ⊎_elim
        (λ t. b.params n (not-false _ t))
        (λ t. b.known.named n
        (not-false _ (or_parts (is_undefined before (OfVariable n)) (on_some_path (λ earlier. not (is_given earlier (OfVariable n))) p before x) t).0))
        (and_cases (not (is_parameter p n)) _ h)

-- one variable more
more : (p : Pipe) (vs : List Var) (before : List Place) (d : Place) (v : Var) → AreKnown p (vs ++ v ∷ []) (before ++ d ∷ []) → v.width ≤ widest
    → After p vs before → After p (vs ++ v ∷ []) (before ++ d ∷ [])
more p vs before d v known h b = record { known = known; small = small_more vs v b.small h; params = λ x e. (stays_more vs (v ∷ []) x (b.params x e)).0 }

-- what is known of the variables stays so after a place that defines none
same : (p : Pipe) (vs : List Var) (before : List Place) (d : Place) → AreKnown p vs (before ++ d ∷ [])
    → After p vs before → After p vs (before ++ d ∷ [])
same p vs before d known b = record { known = known; small = b.small; params = b.params }

-- the variable that a place defines is one of the pipe
defined_here : (p : Pipe) (us : List Var) (before : List Place) (d : Place) (later : List Place) → places p ≡ before ++ d ∷ later
    → After p us (before ++ d ∷ []) → (x : List ℕ) → variable_at d ≡ Some x → IsTrue (is_named (variables p) x)
defined_here p us before d later e a x h =
    let stays = known_stay p us (before ++ d ∷ []) later (e ∙ sym (append_assoc before (d ∷ []) later)) a.known in
    (stays x (a.known.named x (any_last (defines_variable x) before d (ap (is_some_and (bytes_eq x)) h ∙ bytes_refl x)))).0

module _ (p : Pipe) (rules : KeepsRules p) where
  -- what a place has can be lowered, and what stands after it is as before
  next : AreSizedMems p.mems → (vs : List Var) (before : List Place) (x : Place) (later : List Place) → places p ≡ before ++ x ∷ later → After p vs before
      → IsLowerableHere (variables p) x × ((us : List Var) × After p us (before ++ x ∷ []))
  next ms vs before (Parameter a) later e b = (
    tt,
    (
      vs ++ record { name = a.name.name; width = a.width.value; advised = false } ∷ [],
      more p vs before (Parameter a) _ (known_more p vs before (Parameter a) a.name.name a.width.value false refl refl refl
          (rules N2 before (Parameter a) later e) b.known) (width_is a.width.value (rules Z7 before (Parameter a) later e)).1 b,
    ),
  )
  next ms vs before (Memory m) later e b = (tt, (vs, same p vs before (Memory m) (known_same p vs before (Memory m) refl refl b.known) b))
  next ms vs before (End s) later e b = (tt, (vs, same p vs before (End s) (known_same p vs before (End s) refl refl b.known) b))
  next ms vs before (StartClause s) later e b = (tt, (vs, same p vs before (StartClause s) (known_same p vs before (StartClause s) refl refl b.known) b))
  next ms vs before (Statement s bs) later e b =
      let rest = after s e in (
        lowerable_here (variables p) vs (is_too_early p before (Statement s bs)) (ready p vs before (Statement s bs) later e b) s bs
            (λ x h. defined_here p rest.0 before (Statement s bs) later e rest.1 x h)
            (or_parts _ _ (rules N3 before (Statement s bs) later e)).0 (fits_here p rules before s bs later e),
        rest,
      )
    where
      after : (s : Stmt) → places p ≡ before ++ Statement s bs ∷ later → (us : List Var) × After p us (before ++ Statement s bs ∷ [])
      after (CombRead sp x at) e = (
        vs ++ record { name = x.name; width = mem_width p.mems at.mem.name; advised = is_advisory_mem p.mems at.mem.name } ∷ [],
        more p vs before _ _ (known_more p vs before (Statement (CombRead sp x at) bs) x.name (mem_width p.mems at.mem.name)
            (is_advisory_mem p.mems at.mem.name) refl refl refl
            (rules N2 before _ later e) b.known) (small_mem p.mems at.mem.name ms) b,
      )
      after (DelayedRead sp x at) e = (
        vs ++ record { name = x.name; width = mem_width p.mems at.mem.name; advised = false } ∷ [],
        more p vs before _ _ (known_more p vs before (Statement (DelayedRead sp x at) bs) x.name (mem_width p.mems at.mem.name) false refl refl refl
            (rules N2 before _ later e) b.known) (small_mem p.mems at.mem.name ms) b,
      )
      after (Bind sp x v) e =
          let wide = lowerable_one (variables p) vs (is_too_early p before (Statement (Bind sp x v) bs))
          (ready p vs before (Statement (Bind sp x v) bs) later e b) v (fits_here p rules before (Bind sp x v) bs later e) in (
            vs ++ record { name = x.name; width = width_of vs v; advised = is_advised vs v } ∷ [],
            more p vs before _ _ (known_more p vs before (Statement (Bind sp x v) bs) x.name (width_of vs v) (is_advised vs v) refl refl refl
                (rules N2 before _ later e) b.known) wide.1 b,
          )
      after (Separator sp) e = (vs, same p vs before _ (known_same p vs before (Statement (Separator sp) bs) refl refl b.known) b)
      after (SpecCall sp g es) e = (vs, same p vs before _ (known_same p vs before (Statement (SpecCall sp g es) bs) refl refl b.known) b)
      after (Write sp at v) e = (vs, same p vs before _ (known_same p vs before (Statement (Write sp at v) bs) refl refl b.known) b)
      after (Reserve sp at k) e = (vs, same p vs before _ (known_same p vs before (Statement (Reserve sp at k) bs) refl refl b.known) b)
      after (Block sp at) e = (vs, same p vs before _ (known_same p vs before (Statement (Block sp at) bs) refl refl b.known) b)
      after (Release sp at) e = (vs, same p vs before _ (known_same p vs before (Statement (Release sp at) bs) refl refl b.known) b)
      after (If sp c when otherwise) e = (vs, same p vs before _ (known_same p vs before (Statement (If sp c when otherwise) bs) refl refl b.known) b)
      after (Call sp es) e = (vs, same p vs before _ (known_same p vs before (Statement (Call sp es) bs) refl refl b.known) b)
      after (Verify sp g es) e = (vs, same p vs before _ (known_same p vs before (Statement (Verify sp g es) bs) refl refl b.known) b)
      after (Update sp g es) e = (vs, same p vs before _ (known_same p vs before (Statement (Update sp g es) bs) refl refl b.known) b)
      after (SpecCheck sp) e = (vs, same p vs before _ (known_same p vs before (Statement (SpecCheck sp) bs) refl refl b.known) b)
      after (SpecBarrier sp) e = (vs, same p vs before _ (known_same p vs before (Statement (SpecBarrier sp) bs) refl refl b.known) b)

  -- each of these places
  all_next : AreSizedMems p.mems → (vs : List Var) (before xs later : List Place) → places p ≡ before ++ (xs ++ later) → After p vs before
      → AllLowerable (variables p) xs
  all_next ms vs before [] later e b = tt
  all_next ms vs before (x ∷ xs) later e b =
      let here = next ms vs before x (xs ++ later) e b in
      (here.0, all_next ms here.1.0 (before ++ x ∷ []) xs later (e ∙ sym (append_assoc before (x ∷ []) (xs ++ later))) here.1.1)

  -- PARAMETERS AND MEMORIES

  params_known : (ps : List Param) (vs : List Var) (before later : List Place)
      → places p ≡ before ++ (map Parameter ps ++ later) → AreKnown p vs before → Small vs
      → AreKnown p (vs ++ params_of ps) (before ++ map Parameter ps) × Small (vs ++ params_of ps)
  params_known [] vs before later e k small = (
    subst₂ (λ us xs. AreKnown p us xs) (sym (append-nil vs)) (sym (append-nil before)) k,
    subst Small
        (sym (append-nil vs)) small,
  )
  params_known (a ∷ ps) vs before later e k small =
      let v : Var = record { name = a.name.name; width = a.width.value; advised = false } in
      let rest =
      params_known ps (vs ++ v ∷ []) (before ++ Parameter a ∷ []) later (e ∙ sym (append_assoc before (Parameter a ∷ []) (map Parameter ps ++ later)))
      (known_more p vs before (Parameter a) a.name.name a.width.value false refl refl refl (rules N2 before (Parameter a) _ e) k)
      (small_more vs v small (width_is a.width.value (rules Z7 before (Parameter a) _ e)).1) in (
        subst₂ (λ us xs. AreKnown p us xs) (append_assoc vs (v ∷ []) (params_of ps)) (append_assoc before (Parameter a ∷ []) (map Parameter ps)) rest.0,
        subst Small (append_assoc vs (v ∷ []) (params_of ps)) rest.1,
      )

  params_lowerable : (ps : List Param) (before later : List Place) → places p ≡ before ++ (map Parameter ps ++ later)
      → ((x : List ℕ) → IsTrue (is_named (params_of ps) x) → IsTrue (is_named (variables p) x)) → AreLowerableParams (variables p) ps
  params_lowerable [] before later e known = tt
  params_lowerable (a ∷ ps) before later e known = (
    known a.name.name (or_left _ (is_named (params_of ps) a.name.name) (bytes_refl a.name.name)),
    (width_is a.width.value (rules Z7 before (Parameter a) _ e)).1,
    params_lowerable ps (before ++ Parameter a ∷ []) later
        (e ∙ sym (append_assoc before (Parameter a ∷ []) (map Parameter ps ++ later)))
        (λ x t. known x (or_right (bytes_eq a.name.name x) _ t)),
  )

  mems_sized : (ms : List Mem) (before later : List Place) → places p ≡ before ++ (map Memory ms ++ later) → AreSizedMems ms
  mems_sized [] before later e = tt
  mems_sized (m ∷ ms) before later e = (
    sized_mem m (rules Z7 before (Memory m) _ e),
    mems_sized ms (before ++ Memory m ∷ []) later
        (e ∙ sym (append_assoc before (Memory m ∷ []) (map Memory ms ++ later))),
  )

  -- THE BODY

  abbrev closing : List Place
  closing = End p.end ∷ StartClause p.start ∷ []

  by_params : places p ≡ [] ++ (map Parameter p.params ++ (map Memory p.mems ++ (statements [] p.body ++ closing)))
  by_params =
      append_assoc (map Parameter p.params ++ map Memory p.mems) (statements [] p.body) closing
      ∙ append_assoc (map Parameter p.params) (map Memory p.mems) (statements [] p.body ++ closing)

  by_mems : places p ≡ map Parameter p.params ++ (map Memory p.mems ++ (statements [] p.body ++ closing))
  by_mems = by_params

  by_body : places p ≡ (map Parameter p.params ++ map Memory p.mems) ++ (statements [] p.body ++ closing)
  by_body = append_assoc (map Parameter p.params ++ map Memory p.mems) (statements [] p.body) closing

  all_mems : AreSizedMems p.mems
  all_mems = mems_sized p.mems (map Parameter p.params) (statements [] p.body ++ closing) by_mems

  at_body : After p (params_of p.params) (map Parameter p.params ++ map Memory p.mems)
  at_body =
      let both = params_known p.params [] [] (map Memory p.mems ++ (statements [] p.body ++ closing)) by_params (none_known p) tt in
      record { known = known_mems p p.mems (params_of p.params) (map Parameter p.params) both.0; small = both.1; params = params_named p.params }

  all_params : AreLowerableParams (variables p) p.params
  all_params =
      let stays = known_stay p (params_of p.params) (map Parameter p.params ++ map Memory p.mems) (statements [] p.body ++ closing) by_body at_body.known in
      params_lowerable p.params [] _ by_params (λ x t. (stays x t).0)

  all_body : AllLowerable (variables p) (statements [] p.body)
  all_body = all_next all_mems (params_of p.params) (map Parameter p.params ++ map Memory p.mems) (statements [] p.body) closing by_body at_body

-- BACK TO THE TREE

split_lowerable : (us : List Var) (xs ys : List Place) → AllLowerable us (xs ++ ys) → AllLowerable us xs × AllLowerable us ys
split_lowerable us [] ys a = (tt, a)
split_lowerable us (x ∷ xs) ys a =
    let rest = split_lowerable us xs ys a.1 in
    ((a.0, rest.0), rest.1)

mutual
  tree_stmt : (us : List Var) (bs : List Branch) (s : Stmt) → AllLowerable us (with_inner bs s) → IsLowerableStmt us s
  tree_stmt us bs (Separator _) a = a.0
  tree_stmt us bs (CombRead _ x at) a = a.0
  tree_stmt us bs (Bind _ x e) a = a.0
  tree_stmt us bs (SpecCall _ g es) a = a.0
  tree_stmt us bs (DelayedRead _ x at) a = a.0
  tree_stmt us bs (Write _ at e) a = a.0
  tree_stmt us bs (Reserve _ at k) a = a.0
  tree_stmt us bs (Block _ at) a = a.0
  tree_stmt us bs (Release _ at) a = a.0
  tree_stmt us bs (If s c when otherwise) a =
      let inner = split_lowerable us (statements (bs ++ record { guard = guard_of s c; truth = true; inside = when } ∷ []) when) _ a.1 in
      (a.0, (tree_stmts us _ when inner.0, tree_stmts us _ otherwise inner.1))
  tree_stmt us bs (Call _ es) a = a.0
  tree_stmt us bs (Verify _ g es) a = a.0
  tree_stmt us bs (Update _ g es) a = a.0
  tree_stmt us bs (SpecCheck _) a = a.0
  tree_stmt us bs (SpecBarrier _) a = a.0

  tree_stmts : (us : List Var) (bs : List Branch) (ss : Stmts) → AllLowerable us (statements bs ss) → AreLowerableStmts us ss
  tree_stmts us bs Nil a = tt
  tree_stmts us bs (Cons s ss) a =
      let parts = split_lowerable us (with_inner bs s) (statements bs ss) a in
      (tree_stmt us bs s parts.0, tree_stmts us bs ss parts.1)

-- SEPARATORS

mutual
  count_in : (bs : List Branch) (s : Stmt) → count_by is_separator (with_inner bs s) ≡ separators_in s
  count_in bs (If s c when otherwise) =
      let first = statements (bs ++ record { guard = guard_of s c; truth = true; inside = when } ∷ []) when in
      let second = statements (bs ++ record { guard = guard_of s c; truth = false; inside = otherwise } ∷ []) otherwise in
      let step : count_by is_separator (Statement (If s c when otherwise) bs ∷ (first ++ second)) ≡ count_by is_separator (first ++ second) =
      let e = count_cons is_separator (Statement (If s c when otherwise) bs) (first ++ second) in omega arith in
      step
      ∙ sum_by-append (λ x. weight (is_separator x)) first second
      ∙ ap₂ (λ m n. m + n) (count_all _ when) (count_all _ otherwise)
  count_in bs (Separator _) = refl
  count_in bs _ = refl

  count_all : (bs : List Branch) (ss : Stmts) → count_by is_separator (statements bs ss) ≡ separators ss
  count_all bs Nil = refl
  count_all bs (Cons s ss) =
      sum_by-append (λ x. weight (is_separator x)) (with_inner bs s) (statements bs ss) ∙ ap₂ (λ m n. m + n) (count_in bs s) (count_all bs ss)

few_more : (c : Bool) (n : ℕ) → (c && (n == 63)) ≡ false → n ≤ 63 → n + weight c ≤ 63
few_more true n e h = let other : n ≢ 63 = eqb-false n 63 e in omega arith
few_more false n e h = omega arith

few : (p : Pipe) → KeepsRules p → (before xs : List Place)
    → places p ≡ before ++ xs → count_by is_separator before ≤ 63 → count_by is_separator (places p) ≤ 63
few p rules before [] e h = subst (λ l. count_by is_separator l ≤ 63) (sym (append-nil before) ∙ sym e) h
few p rules before (x ∷ xs) e h =
    few p rules (before ++ x ∷ []) xs (e ∙ sym (append_assoc before (x ∷ []) xs))
    (let sum = count_push is_separator before x in
    let most : count_by is_separator before + weight (is_separator x) ≤ 63 =
    few_more (is_separator x) (count_by is_separator before) (rules Z3 before x xs e) h in
    omega arith)

few_separators : (p : Pipe) → KeepsRules p → separators p.body ≤ 63
few_separators p rules =
    let front = map Parameter p.params ++ map Memory p.mems in
    let all : count_by is_separator (places p) ≤ 63 = few p rules [] (places p) refl (omega arith) in
    let last = sum_by-append (λ x. weight (is_separator x)) (front ++ statements [] p.body) (End p.end ∷ StartClause p.start ∷ []) in
    let body = sum_by-append (λ x. weight (is_separator x)) front (statements [] p.body) in
    let same : count_by is_separator (statements [] p.body) ≡ separators p.body = count_all [] p.body in
    omega arith

-- THE WHOLE

-- a pipe that keeps the rules can be lowered
pub keeps_lowered : (p : Pipe) → KeepsRules p → IsLowerablePipe (variables p) p × (separators p.body ≤ 63)
keeps_lowered p rules = (
  record { params = all_params p rules; mems = all_mems p rules; body = tree_stmts (variables p) [] p.body (all_body p rules) },
  few_separators p rules,
)
