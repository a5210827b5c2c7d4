-- The names that a site uses are those of memories and of variables before it.
use Rattle.std.proofs.Common.{◌≡◌, refl, sym, ap, ap₂, ◌∙◌, ℕ, Bool, true, false, not, ◌||◌, List, [], ◌∷◌, ◌++◌, map, Some, bytes_eq, append_assoc, append-nil, ⊎_elim}
use Rattle.std.proofs.lemmas.Bool.{false≢true, and_cases, or_parts, or_cases, or_left, or_right, not-false}
use Rattle.std.proofs.lemmas.List.Folds.{list_any-append}
use Rattle.std.specs.List.{list_any}
use Rattle.pdl_semantics.specs.Tree.{Location, Stmt, Separator, CombRead, Bind, SpecCall, DelayedRead, Write, Reserve, Block, Release, If, Call, Verify, Update, SpecCheck, SpecBarrier, Stmts, Nil, Cons, Param, Mem, Pipe}
use Rattle.pdl_semantics.specs.Flatten.{Var, at_start}
use Rattle.pdl_semantics.specs.Flatten
use Rattle.pdl_kit.specs.declared.rule.Rule.TheVariants.{N1, N3}
use Rattle.pdl_rules.specs.Places.{Place, Parameter, Memory, Statement, End, StartClause, Branch, with_inner, statements, places, on_some_path}
use Rattle.pdl_rules.specs.Parts.{location_of, is_some_and, some_part, some_expr_of}
use Rattle.pdl_rules.specs.Names.{OfVariable, OfMemory, Use, defines_use, in_location, is_undefined, is_parameter, is_given, is_too_early, some_use, in_verify, reads_some, names_another_pipe}
use Rattle.pdl_rules.specs.Refusal.{KeepsRules}
use Rattle.pdl_rules.specs.Typed.{is_named, is_memory}
use Rattle.pdl_rules.proofs.SingleWrites.{bytes_sym}
use Rattle.pdl_source_stages.proofs.Sites.{Site, branch, sites_of, front_of, place_of, All, Stands, all_stand}
use Rattle.pdl_source_stages.proofs.Walks.{told, names, names_at, names_append, Named, At, holds_all, all_at}
use Rattle.pdl_source_paths.proofs.Numbers.{is_in, var_place}
use Rattle.pdl_rules.proofs.KnownVariables.{no_params}
use Rattle.pdl_rules.proofs.EachPlace.{closing}

-- NAMES

-- the list of the variables' names is the same as itself
pub told_is : (vs : List Var) → told vs ≡ told vs
told_is [] = refl
told_is (v ∷ vs) = ap (λ l. v.name ∷ l) (told_is vs)

-- a variable is named where its name is among those
pub named_is : (front : List Place) (w : Flatten.Position) (x : List ℕ) → Named front w → is_named w.vars x ≡ is_in (names front) x
named_is front w x h = (var_place w.vars x).1 ∙ ap (λ l. is_in l x) (sym (told_is w.vars) ∙ h)

-- a place that defines a variable adds its name
defined_here : (x : List ℕ) (d : Place) → defines_use (OfVariable x) d ≡ true → is_in (names_at d) x ≡ true
defined_here x (Parameter a) e = or_left (bytes_eq a.name.name x) false (bytes_sym x a.name.name e)
defined_here x (Statement (CombRead _ y from) bs) e = or_left (bytes_eq y.name x) false (bytes_sym x y.name e)
defined_here x (Statement (Bind _ y from) bs) e = or_left (bytes_eq y.name x) false (bytes_sym x y.name e)
defined_here x (Statement (DelayedRead _ y from) bs) e = or_left (bytes_eq y.name x) false (bytes_sym x y.name e)
defined_here x (Statement (Separator _) bs) e = absurd (false≢true e)
defined_here x (Statement (SpecCall _ _ _) bs) e = absurd (false≢true e)
defined_here x (Statement (Write _ _ _) bs) e = absurd (false≢true e)
defined_here x (Statement (Reserve _ _ _) bs) e = absurd (false≢true e)
defined_here x (Statement (Block _ _) bs) e = absurd (false≢true e)
defined_here x (Statement (Release _ _) bs) e = absurd (false≢true e)
defined_here x (Statement (If _ _ _ _) bs) e = absurd (false≢true e)
defined_here x (Statement (Call _ _) bs) e = absurd (false≢true e)
defined_here x (Statement (Verify _ _ _) bs) e = absurd (false≢true e)
defined_here x (Statement (Update _ _ _) bs) e = absurd (false≢true e)
defined_here x (Statement (SpecCheck _) bs) e = absurd (false≢true e)
defined_here x (Statement (SpecBarrier _) bs) e = absurd (false≢true e)
defined_here x (Memory m) e = absurd (false≢true e)
defined_here x (End s) e = absurd (false≢true e)
defined_here x (StartClause s) e = absurd (false≢true e)

defined_in : (x : List ℕ) (ds : List Place) → list_any (defines_use (OfVariable x)) ds ≡ true → is_in (names ds) x ≡ true
defined_in x [] e = absurd (false≢true e)
defined_in x (d ∷ ds) e =
    list_any-append (λ y. bytes_eq y x) (names_at d) (names ds)
    ∙ ⊎_elim (λ t. or_left _ _ (defined_here x d t)) (λ t. or_right (is_in (names_at d) x) _ (defined_in x ds t)) (or_cases (defines_use (OfVariable x) d) _ e)

param_in : (x : List ℕ) (ps : List Param)
    → list_any (λ (a : Param). bytes_eq x a.name.name) ps ≡ true → is_in (names (map Parameter ps)) x ≡ true
param_in x [] e = absurd (false≢true e)
param_in x (a ∷ ps) e =
    ⊎_elim (λ t. or_left _ _ (bytes_sym x a.name.name t)) (λ t. or_right (bytes_eq a.name.name x) _ (param_in x ps t)) (or_cases (bytes_eq x a.name.name) _ e)

-- AFTER THE MEMORIES

-- these places begin with the parameters and memories of the source
abbrev pub After : Pipe → List Place → Type 0
After p front = (more : List Place) × (front ≡ front_of p ++ more)

after_more : (p : Pipe) (front more : List Place) → After p front → After p (front ++ more)
after_more p front more h = (h.0 ++ more, ap (λ l. l ++ more) h.1 ∙ append_assoc (front_of p) h.0 more)

-- each site stands after the parameters and memories
pub all_after : (p : Pipe) → All (λ t. After p t.front) (sites_of p)
all_after p =
    holds_all p.mems (λ front w gs bs. After p front)
    (λ front w gs bs s h. after_more p front (with_inner bs s) h)
    (λ front w gs bs sp c when otherwise h. after_more p front (Statement (If sp c when otherwise) bs ∷ []) h)
    (λ front w gs bs sp c when otherwise h. after_more p front (Statement (If sp c when otherwise) bs ∷ statements (bs ++ branch sp c true when ∷ []) when) h)
    (front_of p) (at_start p) [] [] p.body ([], sym (append-nil (front_of p)))

-- a variable whose use breaks no rule is among those before
pub known : (p : Pipe) (front : List Place) (w : Flatten.Position) (x : Place) (n : List ℕ) → After p front
    → Named front w → is_too_early p front x (OfVariable n) ≡ false → is_named w.vars n ≡ true
known p front w x n after named e =
    named_is front w n named
    ∙ ⊎_elim
    (λ t. ap (λ l. is_in (names l) n) after.1
    ∙ in_more (front_of p) after.0 (in_more (map Parameter p.params) (map Memory p.mems) (param_in n p.params (not-false (is_parameter p n) t))))
    (λ t. defined_in n front
    (not-false _ (or_parts (is_undefined front (OfVariable n)) (on_some_path (λ earlier. not (is_given earlier (OfVariable n))) p front x) t).0))
    (and_cases (not (is_parameter p n)) _ e)
  where
    in_more : (xs ys : List Place) → is_in (names xs) n ≡ true → is_in (names (xs ++ ys)) n ≡ true
    in_more xs ys h = ap (λ l. is_in l n) (names_append xs ys) ∙ list_any-append (λ y. bytes_eq y n) (names xs) (names ys) ∙ or_left _ _ h

-- MEMORIES

mutual
  no_memory_in : (m : List ℕ) (bs : List Branch) (s : Stmt) → list_any (defines_use (OfMemory m)) (with_inner bs s) ≡ false
  no_memory_in m bs (If sp c when otherwise) =
      list_any-append (defines_use (OfMemory m)) (statements (bs ++ branch sp c true when ∷ []) when)
      (statements (bs ++ branch sp c false otherwise ∷ []) otherwise)
      ∙ ap₂ (λ a b. a || b) (no_memory m (bs ++ branch sp c true when ∷ []) when) (no_memory m (bs ++ branch sp c false otherwise ∷ []) otherwise)
  no_memory_in m bs _ = refl

  no_memory : (m : List ℕ) (bs : List Branch) (ss : Stmts) → list_any (defines_use (OfMemory m)) (statements bs ss) ≡ false
  no_memory m bs Nil = refl
  no_memory m bs (Cons s ss) =
      list_any-append (defines_use (OfMemory m)) (with_inner bs s) (statements bs ss) ∙ ap₂ (λ a b. a || b) (no_memory_in m bs s) (no_memory m bs ss)

among_mems : (m : List ℕ) (ms : List Mem) → list_any (defines_use (OfMemory m)) (map Memory ms) ≡ true → is_memory ms m ≡ true
among_mems m [] e = absurd (false≢true e)
among_mems m (x ∷ ms) e =
    ⊎_elim
    (λ t. or_left _ (is_memory ms m) (bytes_sym m x.name.name t))
    (λ t. or_right (bytes_eq x.name.name m) _ (among_mems m ms t))
    (or_cases (bytes_eq m x.name.name) _ e)

-- what some place of the source defines as a memory is one
pub memory_there : (p : Pipe) (m : List ℕ) → is_undefined (places p) (OfMemory m) ≡ false → is_memory p.mems m ≡ true
memory_there p m e = among_mems m p.mems (only (list_any test (map Memory p.mems)) (sym shape ∙ not-false _ e))
  where
    test : Place → Bool
    test = defines_use (OfMemory m)

    shape : list_any test (places p) ≡ ((list_any test (map Memory p.mems) || false) || false)
    shape =
        list_any-append test (map Parameter p.params ++ map Memory p.mems ++ statements [] p.body) (closing p)
        ∙ ap (λ b. b || false) (list_any-append test (map Parameter p.params ++ map Memory p.mems) (statements [] p.body)
        ∙ ap₂ (λ a b. a || b)
        (list_any-append test (map Parameter p.params) (map Memory p.mems) ∙ ap (λ b. b || list_any test (map Memory p.mems)) (no_params m p.params))
        (no_memory m [] p.body))

    only : (b : Bool) → ((b || false) || false) ≡ true → b ≡ true
    only true t = refl
    only false t = t

-- LOCATIONS

-- the memory of a location is there, and so is the variable of its address
abbrev pub IsNamed : List Mem → List Var → Location → Type 0
IsNamed ms vs l = (is_memory ms l.mem.name ≡ true) × (is_named vs l.address.name ≡ true)

-- what is known of a site of the text
pub record Here (p : Pipe) (t : Site) : Type 0 where
  pub later : List Place
  pub whole : places p ≡ t.front ++ place_of t ∷ later
  pub at : At t.front t.walk t.gs t.branches
  pub after : After p t.front

-- `Here` holds of each site of a source: where it stands in the text, and after which places
pub all_here : (p : Pipe) → All (Here p) (sites_of p)
all_here p = go (sites_of p) (all_stand p) (all_at p) (all_after p)
  where
    go : (ts : List Site) → All (Stands (places p)) ts → All (λ t. At t.front t.walk t.gs t.branches) ts → All (λ t. After p t.front) ts → All (Here p) ts
    go [] a b c = tt
    go (t ∷ ts) a b c = (record { later = a.0.0; whole = a.0.1; at = b.0; after = c.0 }, go ts a.1 b.1 c.1)

-- the memory and the address of a site's location are there
pub located : (p : Pipe) → KeepsRules p → (t : Site) → Here p t → (at : Location)
    → location_of t.stmt ≡ Some at → IsNamed p.mems t.walk.vars at
located p rules t h at e = (
  memory_there p at.mem.name
      (or_parts (undefined (OfMemory at.mem.name)) (undefined (OfVariable at.address.name))
      (at_location undefined
      (or_parts (names_another_pipe p (place_of t)) (some_use undefined (place_of t)) (rules N1 t.front (place_of t) h.later h.whole)).1)).0,
  known p t.front t.walk (place_of t) at.address.name h.after h.at.named
      (or_parts (early (OfMemory at.mem.name)) (early (OfVariable at.address.name)) (at_location early (rules N3 t.front (place_of t) h.later h.whole))).1,
)
  where
    undefined : Use → Bool
    undefined = is_undefined (places p)

    early : Use → Bool
    early = is_too_early p t.front (place_of t)

    at_location : (test : Use → Bool) → some_use test (place_of t) ≡ false → in_location test at ≡ false
    at_location test f =
        sym (ap (is_some_and (in_location test)) e)
        ∙ (or_parts (is_some_and (in_location test) (location_of t.stmt)) (in_verify test t.stmt || some_expr_of (some_part (reads_some test)) t.stmt) f).0
