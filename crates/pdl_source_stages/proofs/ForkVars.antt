-- The variable of a fork: bound before the fork's stage ends, and by no delayed read of that stage.
use Rattle.std.proofs.Common.{◌≡◌, refl, sym, ap, ap₂, ◌∙◌, ℕ, suc, ◌+◌, ◌≤◌, ◌<◌, Bool, true, false, ◌&&◌, ◌||◌, not, List, [], ◌∷◌, ◌++◌, filter, length, append_assoc, append-nil, Some, arith, cond, if◌then◌else◌, nat_le, bytes_eq, eqb-true}
use Rattle.std.proofs.lemmas.Bool.{false≢true, and_from, or_parts, or_left, or_right, leb-true}
use Rattle.std.proofs.lemmas.List.Folds.{list_any-append}
use Rattle.std.specs.List.{list_any}
use Rattle.pdl_kit.specs.declared.rule.Rule.TheVariants.{N2}
use Rattle.pdl_semantics.specs.Tree.{Write, R, W, Variable, Stmt, Separator, CombRead, Bind, DelayedRead, Reserve, If, Mem, Pipe}
use Rattle.pdl_semantics.specs.Flat
use Rattle.pdl_semantics.specs.Flatten.{Var, var_of, with_guard, past, at_otherwise, at_start, is_advisory_mem, is_advised, read_op, bind_op, mem_of, flat_expr}
use Rattle.pdl_semantics.specs.Flatten
use Rattle.pdl_rules.specs.Places.{Place, Parameter, Memory, Statement, End, StartClause, with_inner, statements, places}
use Rattle.pdl_rules.specs.Parts.{is_some_and}
use Rattle.pdl_rules.specs.Limits.{is_separator}
use Rattle.pdl_rules.specs.Names.{Use, OfVariable, defines_use, name_at, is_taken_name, is_delayed, is_given}
use Rattle.pdl_rules.specs.Refusal.{KeepsRules}
use Rattle.pdl_theory_turns.specs.Scans.{none_of, binds_var}
use Rattle.pdl_source_stages.proofs.Sites.{branch, sites_of, front_of, All}
use Rattle.pdl_source_stages.proofs.Walks.{holds_all, guard_begun, guard_stage, past_begun, past_all_begun, cut, cut_append, names, names_at, told}
use Rattle.pdl_source_stages.proofs.SiteFacts.{op_of, from_op, write_none}
use Rattle.pdl_word.proofs.Bytes.{bytes_same, bytes_swap}
use Rattle.pdl_word.proofs.Lists.{some_filtered}
use Rattle.pdl_semantics.specs.Sound.{stages_from}
use Rattle.pdl_word.specs.Each.{Each}

-- STAGES AND FRONTS

low_past : (ms : List Mem) (s : Stmt) (w : Flatten.Position) → w.stage ≤ w.begun → (past ms s w).stage ≤ (past ms s w).begun
low_past ms (Separator sp) w h = omega arith
low_past ms (If sp c when otherwise) w h = let b = past_begun ms (If sp c when otherwise) w in
    let e : (past ms (If sp c when otherwise) w).stage ≡ w.stage = refl in omega arith
low_past ms _ w h = h

-- a site's stage has begun, and it stands after the parameters and memories
pub all_low : (p : Pipe) → All (λ t. (t.walk.stage ≤ t.walk.begun) × ((m : List Place) × (t.front ≡ front_of p ++ m))) (sites_of p)
all_low p =
    holds_all p.mems (λ front w gs bs. (w.stage ≤ w.begun) × ((m : List Place) × (front ≡ front_of p ++ m)))
    (λ front w gs bs s h.
    (low_past p.mems s w h.0, (h.1.0 ++ with_inner bs s, ap (λ l. l ++ with_inner bs s) h.1.1 ∙ append_assoc (front_of p) h.1.0 (with_inner bs s))))
    (λ front w gs bs sp c when otherwise h. (
      (let b = guard_begun c w in let s = guard_stage c w in let l = h.0 in omega arith),
      (
        h.1.0 ++ Statement (If sp c when otherwise) bs ∷ [],
        ap (λ l. l ++ Statement (If sp c when otherwise) bs ∷ []) h.1.1 ∙ append_assoc (front_of p) h.1.0 (Statement (If sp c when otherwise) bs ∷ []),
      ),
    ))
    (λ front w gs bs sp c when otherwise h. (
      (let b = guard_begun c w in let d = past_all_begun p.mems when (with_guard c w) in let l = h.0 in
          let e : (at_otherwise p.mems c when w).stage ≡ w.stage = refl in omega arith),
      (
        h.1.0 ++ Statement (If sp c when otherwise) bs ∷ statements (bs ++ branch sp c true when ∷ []) when,
        ap (λ l. l ++ Statement (If sp c when otherwise) bs ∷ statements (bs ++ branch sp c true when ∷ []) when) h.1.1
            ∙ append_assoc (front_of p) h.1.0 (Statement (If sp c when otherwise) bs ∷ statements (bs ++ branch sp c true when ∷ []) when),
      ),
    ))
    (front_of p) (at_start p) [] [] p.body ((let z : 0 ≤ 0 = omega arith in z), ([], sym (append-nil (front_of p))))

-- NUMBERS OF VARIABLES

-- there are as many names of variables as variables
pub told_long : (vs : List Var) → length (told vs) ≡ length vs
told_long [] = refl
told_long (v ∷ vs) = ap suc (told_long vs)

-- a variable of these names has a number below theirs
pub named_low : (vs : List Var) (x : List ℕ) → list_any (bytes_eq x) (told vs) ≡ true → var_of vs x < length vs
named_low [] x e = absurd (false≢true e)
named_low (v ∷ vs) x e = at (bytes_eq v.name x) refl (ap (λ b. b || list_any (bytes_eq x) (told vs)) (bytes_swap v.name x) ∙ e) (named_low vs x)
  where
    at : (b : Bool) → bytes_eq v.name x ≡ b → (bytes_eq v.name x || list_any (bytes_eq x) (told vs)) ≡ true
        → (list_any (bytes_eq x) (told vs) ≡ true → var_of vs x < length vs)
        → (if b then 0 else suc (var_of vs x)) < suc (length vs)
    at true f g k = omega arith
    at false f g k = let l = k (ap (λ b. b || list_any (bytes_eq x) (told vs)) (sym f) ∙ g) in omega arith

-- the name at a variable's number
pub named_at : (vs : List Var) (x n : List ℕ) (xs ys : List (List ℕ))
    → told vs ≡ xs ++ n ∷ ys → var_of vs x ≡ length xs → bytes_eq n x ≡ true
named_at [] x n [] ys e f = absurd (let z = ap length e in let y : 0 ≡ suc (length ys) = z in omega arith)
named_at [] x n (z ∷ xs) ys e f = absurd (let z = ap length e in let y : 0 ≡ suc (length (xs ++ n ∷ ys)) = z in omega arith)
named_at (v ∷ vs) x n [] ys e f = at (bytes_eq v.name x) refl f
  where
    head : List (List ℕ) → List ℕ
    head [] = []
    head (a ∷ l) = a

    at : (b : Bool) → bytes_eq v.name x ≡ b → (if b then 0 else suc (var_of vs x)) ≡ 0 → bytes_eq n x ≡ true
    at true g h = ap (λ a. bytes_eq a x) (sym (ap head e)) ∙ g
    at false g h = absurd (let z : suc (var_of vs x) ≡ 0 = h in omega arith)
named_at (v ∷ vs) x n (z ∷ xs) ys e f = at (bytes_eq v.name x) refl f (named_at vs x n xs ys (ap tail e))
  where
    tail : List (List ℕ) → List (List ℕ)
    tail [] = []
    tail (a ∷ l) = l

    at : (b : Bool) → bytes_eq v.name x ≡ b → (if b then 0 else suc (var_of vs x)) ≡ suc (length xs)
        → (var_of vs x ≡ length xs → bytes_eq n x ≡ true) → bytes_eq n x ≡ true
    at true g h k = absurd (let z : 0 ≡ suc (length xs) = h in omega arith)
    at false g h k = k (let z : suc (var_of vs x) ≡ suc (length xs) = h in let y : var_of vs x ≡ length xs = omega arith in y)

-- what places define has a name among theirs
pub defined_named : (x : List ℕ) (ds : List Place)
    → list_any (defines_use (OfVariable x)) ds ≡ true → list_any (bytes_eq x) (names ds) ≡ true
defined_named x [] e = e
defined_named x (d ∷ ds) e = list_any-append (bytes_eq x) (names_at d) (names ds) ∙ at (defines_use (OfVariable x) d) refl e (defined_named x ds)
  where
    here : (q : Place) → defines_use (OfVariable x) q ≡ true → list_any (bytes_eq x) (names_at q) ≡ true
    here (Parameter a) f = or_left (bytes_eq x a.name.name) false f
    here (Memory m) f = absurd (false≢true f)
    here (Statement (CombRead sp y l) bs) f = or_left (bytes_eq x y.name) false f
    here (Statement (Bind sp y v) bs) f = or_left (bytes_eq x y.name) false f
    here (Statement (DelayedRead sp y l) bs) f = or_left (bytes_eq x y.name) false f
    here (Statement s bs) f = absurd (false≢true f)
    here (End s) f = absurd (false≢true f)
    here (StartClause s) f = absurd (false≢true f)

    at : (b : Bool) → defines_use (OfVariable x) d ≡ b → (b || list_any (defines_use (OfVariable x)) ds) ≡ true
        → (list_any (defines_use (OfVariable x)) ds ≡ true → list_any (bytes_eq x) (names ds) ≡ true)
        → (list_any (bytes_eq x) (names_at d) || list_any (bytes_eq x) (names ds)) ≡ true
    at true f g k = or_left (list_any (bytes_eq x) (names_at d)) _ (here d f)
    at false f g k = or_right (list_any (bytes_eq x) (names_at d)) _ (k g)

-- each statement binds the next variable
pub bound_last : (ms : List Mem) (vs : List Var) (s : Stmt) (x : ℕ) → from_op (binds_var x) (op_of ms vs s) ≡ true → length vs ≡ x
bound_last ms vs (CombRead sp y l) x e = at (is_advisory_mem ms l.mem.name) e
  where
    at : (b : Bool) → binds_var x (read_op b (length vs) (mem_of ms l.mem.name) (var_of vs l.address.name)) ≡ true → length vs ≡ x
    at true f = absurd (false≢true f)
    at false f = eqb-true (length vs) x f
bound_last ms vs (Bind sp y v) x e = at (is_advised vs v) e
  where
    at : (b : Bool) → binds_var x (bind_op b (length vs) (flat_expr vs v)) ≡ true → length vs ≡ x
    at true f = absurd (false≢true f)
    at false f = eqb-true (length vs) x f
bound_last ms vs (Write sp l v) x e =
    absurd
    (false≢true (sym (write_none (binds_var x) (is_advisory_mem ms l.mem.name) (mem_of ms l.mem.name) (var_of vs l.address.name) (flat_expr vs v) refl refl)
    ∙ e))
bound_last ms vs (DelayedRead sp y l) x e = eqb-true (length vs) x e
bound_last ms vs (If sp (Variable y) when otherwise) x e = absurd (false≢true e)
bound_last ms vs (If sp c when otherwise) x e = eqb-true (length vs) x e
bound_last ms vs (Reserve sp l R) x e = absurd (false≢true e)
bound_last ms vs (Reserve sp l W) x e = absurd (false≢true e)
bound_last ms vs _ x e = absurd (false≢true e)

-- nothing from stage s on passes a test that only statements in stages before s pass
pub none_from : (test : Flat.Op → Bool) (s : ℕ) (ys : List Flat.Stmt)
    → Each (λ y. test y.op ≡ true → y.stage < s) ys → none_of test (stages_from s ys) ≡ true
none_from test s [] h = refl
none_from test s (y ∷ ys) h = at (nat_le s y.stage) refl (none_from test s ys h.1)
  where
    here : (b : Bool) → test y.op ≡ b → s ≤ y.stage → not b ≡ true
    here true e l = absurd (let k = h.0 e in omega arith)
    here false e l = refl

    at : (b : Bool) → nat_le s y.stage ≡ b → none_of test (stages_from s ys) ≡ true → none_of test (if b then y ∷ stages_from s ys else stages_from s ys) ≡ true
    at true e k = and_from (not (test y.op)) (none_of test (stages_from s ys)) (here (test y.op) refl (leb-true s y.stage e)) k
    at false e k = k

-- PATHS AND DEFINITIONS

-- places none of which defines something give it on no path
none_given : (u : Use) (test : Place → Bool) (xs : List Place) → list_any (defines_use u) xs ≡ false → is_given (filter test xs) u ≡ false
none_given u test [] e = refl
none_given u test (x ∷ xs) e = at (test x) (none_given u test xs parts.1)
  where
    parts : (defines_use u x ≡ false) × (list_any (defines_use u) xs ≡ false)
    parts = or_parts (defines_use u x) (list_any (defines_use u) xs) e

    at : (b : Bool) → is_given (filter test xs) u ≡ false → is_given (cond b (x ∷ filter test xs) (filter test xs)) u ≡ false
    at true k = ap (λ d. (d && (not (is_delayed x) || list_any is_separator (filter test xs))) || is_given (filter test xs) u) parts.0 ∙ k
    at false k = k

-- where a delayed read is the only place that defines something which is given, a separator stands after it
pub given_after : (u : Use) (test : Place → Bool) (xs : List Place) (d : Place) (m : List Place)
    → is_delayed d ≡ true → list_any (defines_use u) xs ≡ false → list_any (defines_use u) m ≡ false
    → is_given (filter test (xs ++ d ∷ m)) u ≡ true → list_any is_separator m ≡ true
given_after u test [] d m e f g h = at (test d) h
  where
    at : (b : Bool) → is_given (cond b (d ∷ filter test m) (filter test m)) u ≡ true → list_any is_separator m ≡ true
    at true k =
        some_filtered is_separator test m
        (by (defines_use u d) (list_any is_separator (filter test m))
        (ap₂ (λ c i. (defines_use u d && (not c || list_any is_separator (filter test m))) || i) (sym e) (sym (none_given u test m g)) ∙ k))
      where
        by : (a b : Bool) → ((a && (false || b)) || false) ≡ true → b ≡ true
        by true true i = refl
        by true false i = absurd (false≢true i)
        by false b i = absurd (false≢true i)
    at false k = absurd (false≢true (sym (none_given u test m g) ∙ k))
given_after u test (x ∷ xs) d m e f g h = at (test x) h (given_after u test xs d m e parts.1 g)
  where
    parts : (defines_use u x ≡ false) × (list_any (defines_use u) xs ≡ false)
    parts = or_parts (defines_use u x) (list_any (defines_use u) xs) f

    at : (b : Bool) → is_given (cond b (x ∷ filter test (xs ++ d ∷ m)) (filter test (xs ++ d ∷ m))) u ≡ true
        → (is_given (filter test (xs ++ d ∷ m)) u ≡ true → list_any is_separator m ≡ true)
        → list_any is_separator m ≡ true
    at true k more =
        more
        (sym (ap (λ c. (c && (not (is_delayed x) || list_any is_separator (filter test (xs ++ d ∷ m)))) || is_given (filter test (xs ++ d ∷ m)) u) parts.0) ∙ k)
    at false k more = more k

-- where one of these places is a separator, their count of separators is above 0
pub some_cut : (xs : List Place) → list_any is_separator xs ≡ true → 0 < cut xs
some_cut [] e = absurd (false≢true e)
some_cut (x ∷ xs) e = at (is_separator x) refl e (some_cut xs)
  where
    at : (b : Bool) → is_separator x ≡ b → (b || list_any is_separator xs) ≡ true → (list_any is_separator xs ≡ true → 0 < cut xs) → 0 < cut (x ∷ xs)
    at true f g k = let a = cut_append (x ∷ []) xs in let c : cut (x ∷ []) ≡ 1 = ap (λ b. 0 + cond b 1 0) f in omega arith
    at false f g k = let a = cut_append (x ∷ []) xs in let l = k g in omega arith

-- a place that defines a variable has its name
pub variable_name : (x : List ℕ) (d : Place) → defines_use (OfVariable x) d ≡ true → name_at d ≡ Some x
variable_name x (Parameter a) e = ap Some (sym (bytes_same x a.name.name e))
variable_name x (Memory m) e = absurd (false≢true e)
variable_name x (Statement (CombRead sp y l) bs) e = ap Some (sym (bytes_same x y.name e))
variable_name x (Statement (Bind sp y v) bs) e = ap Some (sym (bytes_same x y.name e))
variable_name x (Statement (DelayedRead sp y l) bs) e = ap Some (sym (bytes_same x y.name e))
variable_name x (Statement s bs) e = absurd (false≢true e)
variable_name x (End s) e = absurd (false≢true e)
variable_name x (StartClause s) e = absurd (false≢true e)

-- N2: once a place has a name, no place after it defines it, nor does one before
module _ (p : Pipe) (rules : KeepsRules p) (x : List ℕ) where
  -- no place before one that has the name has it
  pub once_before : (before : List Place) (d : Place) (later : List Place) → places p ≡ before ++ d ∷ later
      → name_at d ≡ Some x → list_any (λ y. is_some_and (bytes_eq x) (name_at y)) before ≡ false
  once_before before d later e f =
      (or_parts (bytes_eq x p.name.name) (list_any (λ y. is_some_and (bytes_eq x) (name_at y)) before)
      (ap (is_some_and (is_taken_name p before)) (sym f) ∙ rules N2 before d later e)).1

  -- no place after one that has the name defines a variable of that name
  pub once_after : (before m later : List Place) → places p ≡ before ++ (m ++ later)
      → list_any (λ y. is_some_and (bytes_eq x) (name_at y)) before ≡ true
      → list_any (defines_use (OfVariable x)) m ≡ false
  once_after before [] later e f = refl
  once_after before (d ∷ m) later e f =
      at (defines_use (OfVariable x) d) refl
      (once_after (before ++ d ∷ []) m later (e ∙ sym (append_assoc before (d ∷ []) (m ++ later)))
      (list_any-append (λ y. is_some_and (bytes_eq x) (name_at y)) before (d ∷ []) ∙ or_left _ _ f))
    where
      at : (b : Bool) → defines_use (OfVariable x) d ≡ b → list_any (defines_use (OfVariable x)) m ≡ false
          → (b || list_any (defines_use (OfVariable x)) m) ≡ false
      at true g k = absurd (false≢true (sym (once_before before d (m ++ later) e (variable_name x d g)) ∙ f))
      at false g k = k

  -- places of which none has a name define no variable of that name
  pub no_name : (ds : List Place) → list_any (λ y. is_some_and (bytes_eq x) (name_at y)) ds ≡ false
      → (text : bytes_eq x x ≡ true) → list_any (defines_use (OfVariable x)) ds ≡ false
  no_name [] e t = refl
  no_name (d ∷ ds) e t = at (defines_use (OfVariable x) d) refl (no_name ds parts.1 t)
    where
      parts : (is_some_and (bytes_eq x) (name_at d) ≡ false) × (list_any (λ y. is_some_and (bytes_eq x) (name_at y)) ds ≡ false)
      parts = or_parts (is_some_and (bytes_eq x) (name_at d)) _ e

      at : (b : Bool) → defines_use (OfVariable x) d ≡ b → list_any (defines_use (OfVariable x)) ds ≡ false
          → (b || list_any (defines_use (OfVariable x)) ds) ≡ false
      at true g k = absurd (false≢true (sym parts.0 ∙ ap (is_some_and (bytes_eq x)) (variable_name x d g) ∙ t))
      at false g k = k
