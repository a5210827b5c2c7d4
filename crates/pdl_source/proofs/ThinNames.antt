-- The limits and the rules on names, widths and advice are the same of a source without its updates.
use Rattle.std.proofs.Common.{◌≡◌, refl, sym, ap, ap₂, ◌∙◌, ℕ, ◌+◌, ◌≤◌, Bool, true, false, ◌&&◌, ◌||◌, not, ◌==◌, bytes_eq, List, [], ◌∷◌, ◌++◌, map, fold, length, count_by, if◌then◌else◌, None, subst, append_assoc, append-nil, arith}
use Rattle.std.specs.List.{list_any}
use mathlib.Core.Path.{fun_ext}
use Rattle.std.proofs.lemmas.Bool.{false≢true, eqb-false, ne_eqb}
use Rattle.pdl_kit.specs.declared.rule.Rule.TheVariants.{Z2}
use Rattle.pdl_semantics.specs.Tree.{Literal, Expr, Location, Stmt, Separator, CombRead, DelayedRead, Write, Reserve, Block, Release, If, Call, Verify, Update, Pipe}
use Rattle.pdl_semantics.specs.Flatten.{Var, var_width, mem_width, width_of, is_advisory_mem, is_advised_var, is_advised}
use Rattle.pdl_semantics.specs.UpdateFree.{without_update}
use Rattle.pdl_rules.specs.Places.{Guard, guard_of, is_among, Place, Parameter, Statement, StartClause, at_statement, guards, places}
use Rattle.pdl_rules.specs.Forms.{of_if, fetches, writes}
use Rattle.pdl_rules.specs.Parts.{Expressions, NoExpressions, One, Arguments, parts_of, some_part, is_some_and, some_expr_of, some_expr, of_constant, some_literal, location_of}
use Rattle.pdl_rules.specs.Limits.{is_statement, breaks_z2, is_separator, breaks_z3, is_memory, breaks_z4, binds_name, is_binding, breaks_z5, breaks_z6, is_wrong_literal, breaks_z7}
use Rattle.pdl_rules.specs.Names.{Use, OfVariable, OfMemory, OfGuess, name_of, bound_by, variable_at, memory_at, guess_at, either_name, name_at, defines_use, uses_some, some_use, names_another_pipe, is_undefined, breaks_n1, is_taken_name, breaks_n2, needs_definition, is_delayed, is_given, is_too_early, breaks_n3}
use Rattle.pdl_rules.specs.Widths.{after_statement, after_place, variables, is_unequal, breaks_w1, is_too_large, is_out_of_range, breaks_w2, is_wide_choice, breaks_w3, mem_depth, address_bits, breaks_w4, are_no_arguments, has_wrong_arguments, breaks_w5, breaks_w6}
use Rattle.pdl_rules.specs.Advice.{uses_advice, breaks_p1}
use Rattle.pdl_rules.specs.Forks.{is_wrong_read, breaks_f4}
use Rattle.pdl_rules.specs.Locks.{lacks_lock, breaks_f5}
use Rattle.pdl_rules.specs.Speculation.{is_update}
use Rattle.pdl_rules.specs.Refusal.{KeepsRules}
use Rattle.pdl_rules.proofs.Counts.{weight, count_push, count_cons}
use Rattle.pdl_rules.proofs.EachPlace.{Each, each_from, each_front}
use Rattle.pdl_source.proofs.ThinPlaces.{thin_stmt, thin_place, thin, places_thin, Stays, thin_same, thin_at, stays_place, stays_at, any_thin, count_thin, fold_thin, guards_thin, some_path_thin}
use Rattle.pdl_source.proofs.ThinStages.{separators_stay}

-- LIMITS

-- Z2: there are no more statements
fewer : (xs : List Place) → count_by is_statement (thin xs) ≤ count_by is_statement xs
fewer [] = omega arith
fewer (x ∷ xs) =
    let here = count_cons is_statement x xs in
    let rest : count_by is_statement (thin xs) ≤ count_by is_statement xs = fewer xs in
    let one : weight (is_statement (thin_place x)) ≡ weight (is_statement x) = ap weight (same x) in
    let left = count_cons is_statement (thin_place x) (thin xs) in
    at (is_update x) (omega arith) (omega arith)
  where
    same : (x : Place) → is_statement (thin_place x) ≡ is_statement x
    same (Statement s bs) = refl
    same (Parameter a) = refl
    same _ = refl

    at : (u : Bool) → count_by is_statement (thin xs) ≤ count_by is_statement (x ∷ xs)
        → count_by is_statement (thin_place x ∷ thin xs) ≤ count_by is_statement (x ∷ xs)
        → count_by is_statement (if u then thin xs else thin_place x ∷ thin xs) ≤ count_by is_statement (x ∷ xs)
    at true h k = h
    at false h k = k

-- where no statement has 1,024 before it, some statements more make no more than these
grown : (xs before : List Place) → count_by is_statement before ≤ 1024 → Each (λ front y. breaks_z2 front y ≡ false) before xs
    → count_by is_statement (before ++ xs) ≤ 1024
grown [] before few h = rw append-nil few
grown (x ∷ xs) before few h = rw append_assoc at (grown xs (before ++ x ∷ []) (one (is_statement x) refl h.0) h.1)
  where
    one : (b : Bool) → is_statement x ≡ b → (b && (count_by is_statement before == 1024)) ≡ false → count_by is_statement (before ++ x ∷ []) ≤ 1024
    one true is e =
        let other : count_by is_statement before ≡ 1024 → ⊥ = λ t. eqb-false (count_by is_statement before) 1024 e t in
        let more : count_by is_statement (before ++ x ∷ []) ≡ count_by is_statement before + 1 =
        count_push is_statement before x ∙ ap (λ b. count_by is_statement before + weight b) is in
        omega (arith, other, more)
    one false is e =
        let more : count_by is_statement (before ++ x ∷ []) ≡ count_by is_statement before + 0 =
        count_push is_statement before x ∙ ap (λ b. count_by is_statement before + weight b) is in
        omega arith

-- Z2 is kept, since no place has more statements before it
pub z2 : (p : Pipe) → KeepsRules p → (before : List Place) (x : Place) (later : List Place) → places p ≡ before ++ x ∷ later
    → breaks_z2 (thin before) (thin_place x) ≡ false
z2 p rules before x later e = at (is_statement x) (same x) (rules Z2 before x later e)
  where
    same : (x : Place) → is_statement (thin_place x) ≡ is_statement x
    same (Statement s bs) = refl
    same (Parameter a) = refl
    same _ = refl

    all : Each (λ front y. breaks_z2 front y ≡ false) [] (places p)
    all = each_from (λ front y. breaks_z2 front y ≡ false) (places p) [] (λ front y behind d. rules Z2 front y behind d)

    few : count_by is_statement before ≤ 1024
    few =
        grown before [] (omega arith)
        (each_front (λ front y. breaks_z2 front y ≡ false) before (x ∷ later) [] (subst (Each (λ front y. breaks_z2 front y ≡ false) []) e all))

    at : (b : Bool) → is_statement (thin_place x) ≡ b → (b && (count_by is_statement before == 1024)) ≡ false
        → (is_statement (thin_place x) && (count_by is_statement (thin before) == 1024)) ≡ false
    at false is h = ap (λ b. b && (count_by is_statement (thin before) == 1024)) is
    at true is h =
        let other : count_by is_statement before ≡ 1024 → ⊥ = λ t. eqb-false (count_by is_statement before) 1024 h t in
        let less : count_by is_statement (thin before) ≤ count_by is_statement before = fewer before in
        let not_all : count_by is_statement (thin before) ≡ 1024 → ⊥ = λ t. other (let k = few in omega (arith, t, less, k)) in
        ap (λ b. b && (count_by is_statement (thin before) == 1024)) is ∙ ne_eqb (count_by is_statement (thin before)) 1024 not_all

-- Z3 is broken at the same places
pub z3 : (before : List Place) (x : Place) → breaks_z3 (thin before) (thin_place x) ≡ breaks_z3 before x
z3 before x = ap₂ (λ a n. a && (n == 63)) (separators_stay.same x) (count_thin is_separator separators_stay before)

memories_stay : Stays is_memory
memories_stay = stays_place is_memory same (λ s g args bs. refl)
  where
    same : (x : Place) → is_memory (thin_place x) ≡ is_memory x
    same (Statement s bs) = refl
    same (Parameter a) = refl
    same _ = refl

-- Z4 is broken at the same places
pub z4 : (before : List Place) (x : Place) → breaks_z4 (thin before) (thin_place x) ≡ breaks_z4 before x
z4 before x = ap₂ (λ a n. a && (n == 16)) (memories_stay.same x) (count_thin is_memory memories_stay before)

bindings_stay : Stays is_binding
bindings_stay = stays_place is_binding same (λ s g args bs. refl)
  where
    same : (x : Place) → is_binding (thin_place x) ≡ is_binding x
    same (Statement s bs) = thin_same binds_name (λ s c w o. refl) s
    same (Parameter a) = refl
    same _ = refl

-- Z5 is broken at the same places
pub z5 : (before : List Place) (x : Place) → breaks_z5 (thin before) (thin_place x) ≡ breaks_z5 before x
z5 before x = ap₂ (λ a n. a && (n == 512)) (bindings_stay.same x) (count_thin is_binding bindings_stay before)

-- whether an `if` has a guard beside these ten
abbrev one_more : List Guard → Stmt → Bool
one_more gs s = of_if false (λ from c. not (is_among (guard_of from c) gs) && (length gs == 10)) s

-- Z6 is broken at the same places
pub z6 : (before : List Place) (x : Place) → breaks_z6 (thin before) (thin_place x) ≡ breaks_z6 before x
z6 before x =
    ap (λ gs. at_statement false (λ s bs. one_more gs s) (thin_place x)) (guards_thin before)
    ∙ thin_at false (λ s bs. one_more (guards before) s) (λ s bs. one_more (guards before) s)
    (λ s bs. thin_same (one_more (guards before)) (λ s c w o. refl) s) x

literals_thin : (test : Literal → Bool) (x : Place) → some_literal test (thin_place x) ≡ some_literal test x
literals_thin test (Statement s bs) = thin_same (some_expr_of (some_part (of_constant test))) (λ s c w o. refl) s
literals_thin test (Parameter a) = refl
literals_thin test _ = refl

-- Z7 is broken at the same places
pub z7 : (x : Place) → breaks_z7 (thin_place x) ≡ breaks_z7 x
z7 (Statement s bs) = literals_thin is_wrong_literal (Statement s bs)
z7 (Parameter a) = refl
z7 _ = refl

-- NAMES

variable_thin : (d : Place) → variable_at (thin_place d) ≡ variable_at d
variable_thin (Statement s bs) = thin_same bound_by (λ s c w o. refl) s
variable_thin (Parameter a) = refl
variable_thin _ = refl

memory_thin : (d : Place) → memory_at (thin_place d) ≡ memory_at d
memory_thin (Statement s bs) = refl
memory_thin (Parameter a) = refl
memory_thin _ = refl

guess_thin : (d : Place) → guess_at (thin_place d) ≡ guess_at d
guess_thin = thin_at None _ _ (λ s bs. thin_same (λ t. name_of (parts_of t).guess) (λ s c w o. refl) s)

name_thin : (d : Place) → name_at (thin_place d) ≡ name_at d
name_thin (Statement s bs) = thin_same (λ t. either_name (bound_by t) (name_of (parts_of t).guess)) (λ s c w o. refl) s
name_thin (Parameter a) = refl
name_thin _ = refl

defines_stay : (u : Use) → Stays (defines_use u)
defines_stay (OfVariable n) =
    stays_place (defines_use (OfVariable n)) (λ d. ap (is_some_and (bytes_eq n)) (variable_thin d)) (λ s g args bs. refl)
defines_stay (OfMemory n) = stays_place (defines_use (OfMemory n)) (λ d. ap (is_some_and (bytes_eq n)) (memory_thin d)) (λ s g args bs. refl)
defines_stay (OfGuess n) = stays_place (defines_use (OfGuess n)) (λ d. ap (is_some_and (bytes_eq n)) (guess_thin d)) (λ s g args bs. refl)

undefined_thin : (xs : List Place) → is_undefined (thin xs) ≡ is_undefined xs
undefined_thin xs = fun_ext (λ u. ap not (any_thin (defines_use u) (defines_stay u) xs))

uses_thin : (test : Use → Bool) (x : Place) → some_use test (thin_place x) ≡ some_use test x
uses_thin test = thin_at false _ _ (λ s bs. thin_same (uses_some test) (λ s c w o. refl) s)

-- N1 is broken at the same places
pub n1 : (p : Pipe) (x : Place) → breaks_n1 (without_update p) (thin_place x) ≡ breaks_n1 p x
n1 p x =
    ap₂ (λ a b. a || b) (other x)
    (ap (λ t. some_use t (thin_place x)) (ap is_undefined (places_thin p) ∙ undefined_thin (places p)) ∙ uses_thin (is_undefined (places p)) x)
  where
    other : (x : Place) → names_another_pipe (without_update p) (thin_place x) ≡ names_another_pipe p x
    other (StartClause s) = refl
    other (Parameter a) = refl
    other _ = refl

-- N2 is broken at the same places
pub n2 : (p : Pipe) (before : List Place) (x : Place) → breaks_n2 (without_update p) (thin before) (thin_place x) ≡ breaks_n2 p before x
n2 p before x = ap₂ is_some_and (fun_ext taken) (name_thin x)
  where
    taken : (n : List ℕ) → is_taken_name (without_update p) (thin before) n ≡ is_taken_name p before n
    taken n =
        ap (λ b. bytes_eq n p.name.name || b)
        (any_thin (λ d. is_some_and (bytes_eq n) (name_at d))
        (stays_place (λ d. is_some_and (bytes_eq n) (name_at d)) (λ d. ap (is_some_and (bytes_eq n)) (name_thin d)) (λ s g args bs. refl)) before)

delayed_stay : Stays is_delayed
delayed_stay = stays_at (λ s. fetches (λ at. true) s) (λ s c w o. refl) (λ s g args. refl)

given_thin : (u : Use) (xs : List Place) → is_given (thin xs) u ≡ is_given xs u
given_thin u [] = refl
given_thin u (d ∷ ds) = at (is_update d) refl (given_thin u ds)
  where
    at : (b : Bool) → is_update d ≡ b → is_given (thin ds) u ≡ is_given ds u
        → is_given (if b then thin ds else thin_place d ∷ thin ds) u ≡ is_given (d ∷ ds) u
    at true i e = e ∙ sym (ap (λ b. (b && (not (is_delayed d) || list_any is_separator ds)) || is_given ds u) ((defines_stay u).none d i))
    at false i e =
        ap₂ (λ a b. a || b)
        (ap₂ (λ a b. a && b) ((defines_stay u).same d) (ap₂ (λ a b. not a || b) (delayed_stay.same d) (any_thin is_separator separators_stay ds))) e

-- N3 is broken at the same places
pub n3 : (p : Pipe) (before : List Place) (x : Place) → breaks_n3 (without_update p) (thin before) (thin_place x) ≡ breaks_n3 p before x
n3 p before x = ap (λ t. some_use t (thin_place x)) (fun_ext early) ∙ uses_thin (is_too_early p before x) x
  where
    needs : (u : Use) → needs_definition (without_update p) u ≡ needs_definition p u
    needs (OfVariable n) = refl
    needs _ = refl

    early : (u : Use) → is_too_early (without_update p) (thin before) (thin_place x) u ≡ is_too_early p before x u
    early u =
        ap₂ (λ a b. a && b) (needs u)
        (ap₂ (λ a b. a || b) (ap (λ f. f u) (undefined_thin before))
        (some_path_thin p (λ earlier. not (is_given earlier u)) (λ earlier. not (is_given earlier u)) before x (λ earlier. ap not (given_thin u earlier))))

-- WIDTHS

vars_thin : (p : Pipe) → variables (without_update p) ≡ variables p
vars_thin p = ap (fold (after_place p.mems) []) (places_thin p) ∙ fold_thin (after_place p.mems) same none [] (places p)
  where
    same : (vs : List Var) (x : Place) → after_place p.mems vs (thin_place x) ≡ after_place p.mems vs x
    same vs (Statement s bs) = thin_same (after_statement p.mems vs) (λ s c w o. refl) s
    same vs (Parameter a) = refl
    same vs _ = refl

    none : (vs : List Var) (x : Place) → is_update x ≡ true → after_place p.mems vs x ≡ vs
    none vs (Statement (Update s g args) bs) h = refl
    none vs (Statement _ bs) h = absurd (false≢true h)
    none vs (Parameter a) h = absurd (false≢true h)
    none vs _ h = absurd (false≢true h)

exprs_thin : (test : Expr → Bool) (x : Place) → some_expr test (thin_place x) ≡ some_expr test x
exprs_thin test = thin_at false _ _ (λ s bs. thin_same (some_expr_of test) (λ s c w o. refl) s)

-- a test of statements that goes by the variables
by_vars : (p : Pipe) (test : List Var → Stmt → Bool)
    → ((s : Stmt) → test (variables p) (thin_stmt s) ≡ test (variables p) s) → (x : Place)
    → at_statement false (λ s bs. test (variables (without_update p)) s) (thin_place x) ≡ at_statement false (λ s bs. test (variables p) s) x
by_vars p test same x =
    ap (λ vs. at_statement false (λ s bs. test vs s) (thin_place x)) (vars_thin p)
    ∙ thin_at false (λ s bs. test (variables p) s) (λ s bs. test (variables p) s) (λ s bs. same s) x

-- W1 is broken at the same places
pub w1 : (p : Pipe) (x : Place) → breaks_w1 (without_update p) (thin_place x) ≡ breaks_w1 p x
w1 p x =
    ap (λ vs. some_expr (some_part (is_unequal vs)) (thin_place x)) (vars_thin p) ∙ exprs_thin (some_part (is_unequal (variables p))) x

-- W2 is broken at the same places
pub w2 : (p : Pipe) (x : Place) → breaks_w2 (without_update p) (thin_place x) ≡ breaks_w2 p x
w2 p x =
    ap₂ (λ a b. a || b) (literals_thin is_too_large x)
    (ap (λ vs. some_expr (some_part (is_out_of_range vs)) (thin_place x)) (vars_thin p) ∙ exprs_thin (some_part (is_out_of_range (variables p))) x)

-- W3 is broken at the same places
pub w3 : (p : Pipe) (x : Place) → breaks_w3 (without_update p) (thin_place x) ≡ breaks_w3 p x
w3 p x =
    ap₂ (λ a b. a || b)
    (by_vars p (λ vs s. of_if false (λ from c. not (width_of vs c == 1)) s)
    (thin_same (λ s. of_if false (λ from c. not (width_of (variables p) c == 1)) s) (λ s c w o. refl)) x)
    (ap (λ vs. some_expr (some_part (is_wide_choice vs)) (thin_place x)) (vars_thin p) ∙ exprs_thin (some_part (is_wide_choice (variables p))) x)

-- whether the address of a location is wrong, by the variables
abbrev wrong_address : Pipe → List Var → Location → Bool
wrong_address p vs at = not (var_width vs at.address.name == address_bits (mem_depth p.mems at.mem.name))

-- W4 is broken at the same places
pub w4 : (p : Pipe) (x : Place) → breaks_w4 (without_update p) (thin_place x) ≡ breaks_w4 p x
w4 p x =
    by_vars p (λ vs s. is_some_and (wrong_address p vs) (location_of s))
    (thin_same (λ s. is_some_and (wrong_address p (variables p)) (location_of s)) (λ s c w o. refl)) x

-- W5 is broken at the same places
pub w5 : (p : Pipe) (x : Place) → breaks_w5 (without_update p) (thin_place x) ≡ breaks_w5 p x
w5 p (Statement s bs) =
    args (parts_of (thin_stmt s)).expressions ∙ thin_same (λ t. has_wrong_arguments p (parts_of t).expressions) (λ s c w o. refl) s
  where
    args : (es : Expressions) → has_wrong_arguments (without_update p) es ≡ has_wrong_arguments p es
    args (Arguments es) = ap (λ vs. are_no_arguments p (map (width_of vs) es)) (vars_thin p)
    args NoExpressions = refl
    args (One e) = refl
w5 p (Parameter a) = refl
w5 p _ = refl

-- W6 is broken at the same places
pub w6 : (p : Pipe) (x : Place) → breaks_w6 (without_update p) (thin_place x) ≡ breaks_w6 p x
w6 p x =
    by_vars p (λ vs s. writes (λ at e. not (width_of vs e == mem_width p.mems at.mem.name)) s)
    (thin_same (λ s. writes (λ at e. not (width_of (variables p) e == mem_width p.mems at.mem.name)) s) (λ s c w o. refl)) x

-- READS, LOCKS AND ADVICE

-- F4 is broken at the same places
pub f4 : (p : Pipe) (x : Place) → breaks_f4 (without_update p) (thin_place x) ≡ breaks_f4 p x
f4 p = thin_at false _ _ (λ s bs. thin_same (is_wrong_read p.mems) (λ s c w o. refl) s)

-- F5 is broken at the same places
pub f5 : (p : Pipe) (x : Place) → breaks_f5 (without_update p) (thin_place x) ≡ breaks_f5 p x
f5 p = thin_at false _ _ (λ s bs. thin_same (lacks_lock p.mems) (λ s c w o. refl) s)

-- P1 is broken at the same places
pub p1 : (p : Pipe) (x : Place) → breaks_p1 (without_update p) (thin_place x) ≡ breaks_p1 p x
p1 p = thin_at false _ _ (λ s bs. advised (thin_stmt s) ∙ thin_same (uses_advice p) (λ s c w o. refl) s)
  where
    advised : (s : Stmt) → uses_advice (without_update p) s ≡ uses_advice p s
    advised (CombRead s x at) = ap (λ vs. not (is_advisory_mem p.mems at.mem.name) && is_advised_var vs at.address.name) (vars_thin p)
    advised (DelayedRead s x at) = ap (λ vs. is_advised_var vs at.address.name) (vars_thin p)
    advised (Write s at e) =
        ap (λ vs. not (is_advisory_mem p.mems at.mem.name) && (is_advised_var vs at.address.name || is_advised vs e)) (vars_thin p)
    advised (Reserve s at k) = ap (λ vs. is_advised_var vs at.address.name) (vars_thin p)
    advised (Block s at) = ap (λ vs. is_advised_var vs at.address.name) (vars_thin p)
    advised (Release s at) = ap (λ vs. is_advised_var vs at.address.name) (vars_thin p)
    advised (If s c w o) = ap (λ vs. is_advised vs c) (vars_thin p)
    advised (Call s args) = ap (λ vs. list_any (is_advised vs) args) (vars_thin p)
    advised (Verify s g args) = ap (λ vs. list_any (is_advised vs) args) (vars_thin p)
    advised (Separator s) = refl
    advised _ = refl
