-- The first statement of a kind: its place in the text and its flat form are one, so the rules that all of a kind stand in one stage hold of the flat statements.
use Rattle.std.proofs.Common.{◌≡◌, refl, sym, ap, ap₂, ◌∙◌, subst, ℕ, suc, ◌<◌, Bool, true, false, ◌||◌, not, List, [], ◌∷◌, ◌++◌, map, length, append_assoc, append-nil, Option, Some, None, arith, if◌then◌else◌, ◌==◌, bytes_eq, eqb-true}
use Rattle.std.proofs.lemmas.Bool.{false≢true, or_parts, not-false}
use Rattle.std.proofs.lemmas.List.Folds.{list_any-append}
use Rattle.std.specs.List.{list_any}
use Rattle.pdl_kit.specs.declared.rule.Rule.TheVariants.{N1}
use Rattle.pdl_semantics.specs.Tree.{Location, Stmt, If, Stmts, Nil, Cons, Param, Mem, Pipe}
use Rattle.pdl_semantics.specs.Flat
use Rattle.pdl_semantics.specs.Flatten.{mem_of, with_guard, past, at_otherwise, under, at_start, flat}
use Rattle.pdl_semantics.specs.Flatten
use Rattle.pdl_rules.specs.Places.{Place, Parameter, Memory, Statement, Branch, with_inner, statements, places}
use Rattle.pdl_rules.specs.Parts.{is_some_and, location_of, some_expr_of, some_part}
use Rattle.pdl_rules.specs.Names.{OfMemory, OfVariable, defines_use, is_undefined, in_location, in_verify, reads_some}
use Rattle.pdl_rules.specs.Stages.{first_stage, is_elsewhere, stage_of, stage_in}
use Rattle.pdl_rules.specs.Refusal.{KeepsRules}
use Rattle.pdl_source_stages.proofs.Sites.{Site, branch, sites_in, sites, sites_of, front_of, place_of, places_in, places_all, All, owns, stmts_are}
use Rattle.pdl_source_stages.proofs.SiteStages.{all_map}
use Rattle.pdl_source_stages.proofs.StatementStages.{Staged}
use Rattle.pdl_source_stages.proofs.SiteFacts.{Fine, all_fine, op_of, rows_of, own_is, from_op}
use Rattle.pdl_word.proofs.Bytes.{bytes_same, bytes_swap}
use Rattle.pdl_rules.proofs.EachPlace.{closing}

-- FRONTS

-- the first site stands after these places, each other after the one before it
abbrev pub Fronts : List Place → List Site → Type 0
Fronts base [] = Unit {0}
Fronts base (t ∷ ts) = (t.front ≡ base) × Fronts (base ++ place_of t ∷ []) ts

fronts_append : (base : List Place) (xs ys : List Site) → Fronts base xs → Fronts (base ++ map place_of xs) ys → Fronts base (xs ++ ys)
fronts_append base [] ys h k = subst (λ l. Fronts l ys) (append-nil base) k
fronts_append base (x ∷ xs) ys h k =
    (h.0, fronts_append (base ++ place_of x ∷ []) xs ys h.1 (subst (λ l. Fronts l ys) (sym (append_assoc base (place_of x ∷ []) (map place_of xs))) k))

mutual
  fronts_in : (ms : List Mem) (front : List Place) (w : Flatten.Position) (gs : List Flat.Guard) (bs : List Branch) (s : Stmt)
      → Fronts front (sites_in ms front w gs bs s)
  fronts_in ms front w gs bs (If sp c when otherwise) = (
    refl,
    fronts_append (front ++ Statement (If sp c when otherwise) bs ∷ [])
        (sites ms (front ++ Statement (If sp c when otherwise) bs ∷ []) (with_guard c w) (under gs w.vars c true) (bs ++ branch sp c true when ∷ []) when) _
        (fronts_all ms (front ++ Statement (If sp c when otherwise) bs ∷ []) (with_guard c w) (under gs w.vars c true) (bs ++ branch sp c true when ∷ []) when)
        (subst
        (λ l. Fronts l
        (sites ms (front ++ Statement (If sp c when otherwise) bs ∷ statements (bs ++ branch sp c true when ∷ []) when)
        (at_otherwise ms c when w) (under gs w.vars c false) (bs ++ branch sp c false otherwise ∷ []) otherwise))
        (sym
        (ap (λ l. (front ++ Statement (If sp c when otherwise) bs ∷ []) ++ l)
        (places_all ms (front ++ Statement (If sp c when otherwise) bs ∷ []) (with_guard c w)
        (under gs w.vars c true) (bs ++ branch sp c true when ∷ []) when)
        ∙ append_assoc front (Statement (If sp c when otherwise) bs ∷ []) (statements (bs ++ branch sp c true when ∷ []) when)))
        (fronts_all ms (front ++ Statement (If sp c when otherwise) bs ∷ statements (bs ++ branch sp c true when ∷ []) when)
        (at_otherwise ms c when w) (under gs w.vars c false) (bs ++ branch sp c false otherwise ∷ []) otherwise)),
  )
  fronts_in ms front w gs bs s = (refl, tt)

  fronts_all : (ms : List Mem) (front : List Place) (w : Flatten.Position) (gs : List Flat.Guard) (bs : List Branch) (ss : Stmts)
      → Fronts front (sites ms front w gs bs ss)
  fronts_all ms front w gs bs Nil = tt
  fronts_all ms front w gs bs (Cons s ss) =
      fronts_append front (sites_in ms front w gs bs s) _ (fronts_in ms front w gs bs s)
      (subst (λ l. Fronts (front ++ l) (sites ms (front ++ with_inner bs s) (past ms s w) gs bs ss))
      (sym (places_in ms front w gs bs s)) (fronts_all ms (front ++ with_inner bs s) (past ms s w) gs bs ss))

all_fronts : (p : Pipe) → Fronts (front_of p) (sites_of p)
all_fronts p = fronts_all p.mems (front_of p) (at_start p) [] [] p.body

-- THE FIRST OF A KIND

-- the stage of the first site whose place passes the test
abbrev pub first_of : (Place → Bool) → List Site → Option ℕ
first_of test [] = None
first_of test (t ∷ ts) = if test (place_of t) then Some t.walk.stage else first_of test ts

-- the first of two stages that may be there, else the second
abbrev pub or_else : Option ℕ → Option ℕ → Option ℕ
or_else None o = o
or_else (Some s) o = Some s

abbrev stage_if : Bool → ℕ → Option ℕ
stage_if b s = if b then Some s else None

first_push : (test : Place → Bool) (before xs : List Place) (y : Place)
    → first_stage test before (xs ++ y ∷ []) ≡ or_else (first_stage test before xs) (stage_if (test y) (stage_of (before ++ xs) y))
first_push test before [] y = ap (λ l. stage_if (test y) (stage_of l y)) (sym (append-nil before))
first_push test before (x ∷ xs) y = at (test x) (first_push test (before ++ x ∷ []) xs y)
  where
    at : (b : Bool)
        → first_stage test (before ++ x ∷ []) (xs ++ y ∷ [])
        ≡ or_else (first_stage test (before ++ x ∷ []) xs) (stage_if (test y) (stage_of ((before ++ x ∷ []) ++ xs) y))
        → (if b then Some (stage_of before x) else first_stage test (before ++ x ∷ []) (xs ++ y ∷ []))
        ≡ or_else (if b then Some (stage_of before x) else first_stage test (before ++ x ∷ []) xs) (stage_if (test y) (stage_of (before ++ x ∷ xs) y))
    at true h = refl
    at false h = h ∙ ap (λ l. or_else (first_stage test (before ++ x ∷ []) xs) (stage_if (test y) (stage_of l y))) (append_assoc before (x ∷ []) xs)

-- each of a kind stands in the stage of the first, where none stands elsewhere
agree : (test : Place → Bool) (base : List Place) (ts : List Site) (found : Option ℕ) → Fronts base ts → All Staged ts
    → first_stage test [] base ≡ found
    → All (λ t. test (place_of t) ≡ true → is_elsewhere test t.front t.walk.stage ≡ false) ts
    → All (λ t. test (place_of t) ≡ true → Some t.walk.stage ≡ or_else found (first_of test ts)) ts
agree test base [] found f s e h = tt
agree test base (t ∷ ts) found f s e h = (
  λ k. here found (e ∙ refl) (ap (λ l. is_some_and (λ i. not (i == t.walk.stage)) (first_stage test [] l)) (sym f.0) ∙ h.0 k) k,
  all_map (λ u. test (place_of u) ≡ true → Some u.walk.stage ≡ or_else (or_else found (stage_if (test (place_of t)) t.walk.stage)) (first_of test ts))
      (λ u. test (place_of u) ≡ true → Some u.walk.stage ≡ or_else found (first_of test (t ∷ ts)))
      (λ u g k. g k ∙ joined found (test (place_of t))) ts
      (agree test (base ++ place_of t ∷ []) ts (or_else found (stage_if (test (place_of t)) t.walk.stage)) f.1 s.1
      (first_push test [] base (place_of t) ∙ ap₂ (λ o n. or_else o (stage_if (test (place_of t)) n)) e (ap (λ l. stage_in l t.branches) (sym f.0) ∙ s.0)) h.1),
)
  where
    here : (o : Option ℕ) → first_stage test [] base ≡ o
        → is_some_and (λ i. not (i == t.walk.stage)) (first_stage test [] base) ≡ false → test (place_of t) ≡ true
        → Some t.walk.stage ≡ or_else o (first_of test (t ∷ ts))
    here None g n k = ap (λ b. if b then Some t.walk.stage else first_of test ts) (sym k)
    here (Some i) g n k = ap Some (sym (eqb-true i t.walk.stage (not-false (i == t.walk.stage) (ap (is_some_and (λ j. not (j == t.walk.stage))) (sym g) ∙ n))))

    joined : (o : Option ℕ) (b : Bool)
        → or_else (or_else o (stage_if b t.walk.stage)) (first_of test ts) ≡ or_else o (if b then Some t.walk.stage else first_of test ts)
    joined None true = refl
    joined None false = refl
    joined (Some i) b = refl

-- the flat statements of a kind
abbrev pub Alike : List Mem → (Flat.Op → Bool) → (Place → Bool) → Site → Type 0
Alike ms op_test test t = from_op op_test (op_of ms t.walk.vars t.stmt) ≡ test (place_of t)

first_owns : (ms : List Mem) (op_test : Flat.Op → Bool) (test : Place → Bool) (ts : List Site)
    → All (Alike ms op_test test) ts → Flatten.first_stage op_test (owns ms ts) ≡ first_of test ts
first_owns ms op_test test [] h = refl
first_owns ms op_test test (t ∷ ts) h =
    ap (λ l. Flatten.first_stage op_test (l ++ owns ms ts)) (own_is ms t.gs t.walk t.stmt)
    ∙ at (op_of ms t.walk.vars t.stmt) h.0 (first_owns ms op_test test ts h.1)
  where
    at : (o : Option Flat.Op) → from_op op_test o ≡ test (place_of t) → Flatten.first_stage op_test (owns ms ts) ≡ first_of test ts
        → Flatten.first_stage op_test (rows_of t.gs t.walk o ++ owns ms ts) ≡ (if test (place_of t) then Some t.walk.stage else first_of test ts)
    at None e k = k ∙ ap (λ b. if b then Some t.walk.stage else first_of test ts) e
    at (Some op) e k =
        ap (λ b. if b then Some t.walk.stage else Flatten.first_stage op_test (owns ms ts)) e ∙ ap (λ o. if test (place_of t) then Some t.walk.stage else o) k

-- PLACES BEFORE THE STATEMENTS

nowhere : (test : Place → Bool) (before xs : List Place) → list_any test xs ≡ false → first_stage test before xs ≡ None
nowhere test before [] e = refl
nowhere test before (x ∷ xs) e =
    let parts = or_parts (test x) (list_any test xs) e in
    ap (λ b. if b then Some (stage_of before x) else first_stage test (before ++ x ∷ []) xs) parts.0 ∙ nowhere test (before ++ x ∷ []) xs parts.1

-- nothing of a kind before a place is no other stage
pub none_elsewhere : (test : Place → Bool) (before : List Place) (s : ℕ) → list_any test before ≡ false → is_elsewhere test before s ≡ false
none_elsewhere test before s e = ap (is_some_and (λ k. not (k == s))) (nowhere test [] before e)

-- a test that no parameter passes finds none among the parameters' places
pub any_params : (test : Place → Bool)
    → ((a : Param) → test (Parameter a) ≡ false) → (xs : List Param) → list_any test (map Parameter xs) ≡ false
any_params test f [] = refl
any_params test f (a ∷ xs) = ap₂ (λ b c. b || c) (f a) (any_params test f xs)

-- a test that no memory passes finds none among the memories' places
pub any_mems : (test : Place → Bool) → ((m : Mem) → test (Memory m) ≡ false) → (xs : List Mem) → list_any test (map Memory xs) ≡ false
any_mems test f [] = refl
any_mems test f (m ∷ xs) = ap₂ (λ b c. b || c) (f m) (any_mems test f xs)

-- a test that neither parameters nor memories pass finds nothing before the statements
pub none_front : (p : Pipe) (test : Place → Bool)
    → ((a : Param) → test (Parameter a) ≡ false) → ((m : Mem) → test (Memory m) ≡ false)
    → list_any test (front_of p) ≡ false
none_front p test f g =
    list_any-append test (map Parameter p.params) (map Memory p.mems) ∙ ap₂ (λ b c. b || c) (any_params test f p.params) (any_mems test g p.mems)

-- a kind of statement that the rules want in one stage stands in that of its first flat statement
pub one_stage : (p : Pipe) → KeepsRules p → (op_test : Flat.Op → Bool) (test : Place → Bool)
    → ((a : Param) → test (Parameter a) ≡ false) → ((m : Mem) → test (Memory m) ≡ false)
    → ((t : Site) → Fine p t → Alike p.mems op_test test t)
    → ((t : Site) → Fine p t → test (place_of t) ≡ true → is_elsewhere test t.front t.walk.stage ≡ false)
    → All (λ t. test (place_of t) ≡ true → Some t.walk.stage ≡ Flatten.first_stage op_test (flat p).stmts) (sites_of p)
one_stage p rules op_test test f g alike here =
    subst (λ o. All (λ t. test (place_of t) ≡ true → Some t.walk.stage ≡ o) (sites_of p))
    (sym
    (ap (Flatten.first_stage op_test) (stmts_are p)
    ∙ first_owns p.mems op_test test (sites_of p) (all_map (Fine p) (Alike p.mems op_test test) alike (sites_of p) (all_fine p rules))))
    (agree test (front_of p) (sites_of p) None (all_fronts p)
    (all_map (Fine p) Staged (λ t h. h.staged) (sites_of p) (all_fine p rules))
    (nowhere test [] (front_of p) (none_front p test f g))
    (all_map (Fine p) (λ t. test (place_of t) ≡ true → is_elsewhere test t.front t.walk.stage ≡ false) here (sites_of p) (all_fine p rules)))

-- MEMORIES BY NAME

-- a memory has this name
abbrev pub is_known : List Mem → List ℕ → Bool
is_known ms n = list_any (λ (m : Mem). bytes_eq n m.name.name) ms

-- the number of a memory whose name is known is below the count of memories
pub known_low : (ms : List Mem) (n : List ℕ) → is_known ms n ≡ true → mem_of ms n < length ms
known_low [] n e = absurd (false≢true e)
known_low (m ∷ ms) n e = at (bytes_eq m.name.name n) refl (ap (λ b. b || is_known ms n) (bytes_swap m.name.name n) ∙ e) (known_low ms n)
  where
    at : (b : Bool) → bytes_eq m.name.name n ≡ b → (bytes_eq m.name.name n || is_known ms n) ≡ true
        → (is_known ms n ≡ true → mem_of ms n < length ms) → (if b then 0 else suc (mem_of ms n)) < suc (length ms)
    at true f g k = omega arith
    at false f g k = let l = k (ap (λ b. b || is_known ms n) (sym f) ∙ g) in omega arith

-- a memory's number tells its name
pub known_one : (ms : List Mem) (n o : List ℕ) → is_known ms n ≡ true → is_known ms o ≡ true → mem_of ms n ≡ mem_of ms o → n ≡ o
known_one [] n o e f g = absurd (false≢true e)
known_one (m ∷ ms) n o e f g =
    at (bytes_eq m.name.name n) (bytes_eq m.name.name o) refl refl g (known_one ms n o)
  where
    after : (x : List ℕ) → bytes_eq m.name.name x ≡ false → is_known (m ∷ ms) x ≡ true → is_known ms x ≡ true
    after x h k = ap (λ b. b || is_known ms x) (sym h ∙ bytes_swap m.name.name x) ∙ k

    at : (b c : Bool) → bytes_eq m.name.name n ≡ b → bytes_eq m.name.name o ≡ c
        → (if b then 0 else suc (mem_of ms n)) ≡ (if c then 0 else suc (mem_of ms o))
        → (is_known ms n ≡ true → is_known ms o ≡ true → mem_of ms n ≡ mem_of ms o → n ≡ o) → n ≡ o
    at true true h i j k = sym (bytes_same m.name.name n h) ∙ bytes_same m.name.name o i
    at true false h i j k = absurd (let z : 0 ≡ suc (mem_of ms o) = j in omega arith)
    at false true h i j k = absurd (let z : suc (mem_of ms n) ≡ 0 = j in omega arith)
    at false false h i j k =
        k (after n h e) (after o i f) (let z : suc (mem_of ms n) ≡ suc (mem_of ms o) = j in let y : mem_of ms n ≡ mem_of ms o = omega arith in y)

-- no statement passes a test that none passes
mutual
  any_in : (test : Place → Bool) → ((s : Stmt) (bs : List Branch) → test (Statement s bs) ≡ false)
      → (bs : List Branch) (s : Stmt) → list_any test (with_inner bs s) ≡ false
  any_in test f bs (If sp c when otherwise) =
      ap₂ (λ a b. a || b) (f (If sp c when otherwise) bs)
      (list_any-append test (statements (bs ++ branch sp c true when ∷ []) when) (statements (bs ++ branch sp c false otherwise ∷ []) otherwise)
      ∙ ap₂ (λ a b. a || b) (any_all test f (bs ++ branch sp c true when ∷ []) when) (any_all test f (bs ++ branch sp c false otherwise ∷ []) otherwise))
  any_in test f bs s = ap (λ b. b || false) (f s bs)

  any_all : (test : Place → Bool) → ((s : Stmt) (bs : List Branch) → test (Statement s bs) ≡ false)
      → (bs : List Branch) (ss : Stmts) → list_any test (statements bs ss) ≡ false
  any_all test f bs Nil = refl
  any_all test f bs (Cons s ss) = list_any-append test (with_inner bs s) (statements bs ss) ∙ ap₂ (λ a b. a || b) (any_in test f bs s) (any_all test f bs ss)

known_places : (p : Pipe) (n : List ℕ) → list_any (defines_use (OfMemory n)) (places p) ≡ is_known p.mems n
known_places p n =
    list_any-append (defines_use (OfMemory n)) (front_of p ++ statements [] p.body) (closing p)
    ∙ ap (λ b. b || false)
    (list_any-append (defines_use (OfMemory n)) (front_of p) (statements [] p.body)
    ∙ ap₂ (λ a b. a || b)
    (list_any-append (defines_use (OfMemory n)) (map Parameter p.params) (map Memory p.mems)
    ∙ ap₂ (λ a b. a || b) (any_params (defines_use (OfMemory n)) (λ a. refl) p.params) (of_mems p.mems))
    (any_all (defines_use (OfMemory n)) (λ s bs. refl) [] p.body))
    ∙ right (is_known p.mems n)
  where
    of_mems : (ms : List Mem) → list_any (defines_use (OfMemory n)) (map Memory ms) ≡ is_known ms n
    of_mems [] = refl
    of_mems (m ∷ ms) = ap (λ b. bytes_eq n m.name.name || b) (of_mems ms)

    right : (b : Bool) → ((b || false) || false) ≡ b
    right true = refl
    right false = refl

-- N1: the memory of a location is there
pub located : (p : Pipe) → KeepsRules p → (t : Site) → Fine p t → (at : Location)
    → location_of t.stmt ≡ Some at → is_known p.mems at.mem.name ≡ true
located p rules t h at e =
    let rule = rules N1 t.front (place_of t) h.later h.whole in
    let uses =
    (or_parts (is_some_and (in_location (is_undefined (places p))) (location_of t.stmt))
    (in_verify (is_undefined (places p)) t.stmt || some_expr_of (some_part (reads_some (is_undefined (places p)))) t.stmt) rule).0 in
    let here =
    (or_parts (is_undefined (places p) (OfMemory at.mem.name))
    (is_undefined (places p) (OfVariable at.address.name))
    (ap (is_some_and (in_location (is_undefined (places p)))) (sym e) ∙ uses)).0 in
    sym (known_places p at.mem.name) ∙ not-false (list_any (defines_use (OfMemory at.mem.name)) (places p)) here
