-- Uses that need a definition before them.
use Rattle.std.proofs.Common.{◌≡◌, sym, ap, ◌∙◌, subst, ℕ, ◌<◌, ◌≤◌, Bool, true, false, ◌&&◌, not, List, [], ◌∷◌, ◌++◌, map, length, take, slice_get, nat_le, bytes_eq, Some, None, append_assoc}
use Rattle.std.specs.List.{list_any}
use Rattle.std.proofs.lemmas.Bool.{or_left, and_from, lt-ltb, le-ltb}
use Rattle.pdl_semantics.specs.Tree.{Param, Pipe}
use Rattle.pdl_rules.specs.Places.{Place, Parameter, Memory, End, StartClause, statements, places}
use Rattle.pdl_rules.specs.Parts.{is_some_and}
use Rattle.pdl_rules.specs.Names.{Use, OfVariable, OfMemory, OfGuess, defines_use, is_undefined, is_parameter, is_too_early}
use Rattle.pdl_rules_names.specs.First.{first_where, comes_before}
use Rattle.pdl_rules_names.specs.Early.{early_at}
use Rattle.pdl_rules_names.proofs.Comparisons.{not_less}
use Rattle.pdl_rules_names.proofs.Firsts.{any_before, before_step, none_before}
use Rattle.pdl_rules_names.proofs.MissingDefinitions.{ungiven}

among_params : (v : List ℕ) (ps : List Param) (rest : List Place)
    → list_any (λ (a : Param). bytes_eq v a.name.name) ps
    ≡ comes_before (first_where (defines_use (OfVariable v)) (map Parameter ps ++ rest)) (length ps)
among_params v [] rest = none_before (first_where (defines_use (OfVariable v)) rest)
among_params v (a ∷ ps) rest =
    before_step (bytes_eq v a.name.name) (first_where (defines_use (OfVariable v)) (map Parameter ps ++ rest))
    (list_any (λ (b : Param). bytes_eq v b.name.name) ps) (length ps)
    (among_params v ps rest)

-- a parameter is defined first among the parameters
parameter_first : (p : Pipe) (v : List ℕ)
    → is_parameter p v ≡ comes_before (first_where (defines_use (OfVariable v)) (places p)) (length p.params)
parameter_first p v =
    let ps = map Parameter p.params in
    let ms = map Memory p.mems in
    let ss = statements [] p.body in
    let ends = End p.end ∷ StartClause p.start ∷ [] in
    among_params v p.params (ms ++ (ss ++ ends))
    ∙ ap (λ xs. comes_before (first_where (defines_use (OfVariable v)) xs) (length p.params))
    (sym (append_assoc (ps ++ ms) ss ends ∙ append_assoc ps ms (ss ++ ends)))

at_place : (p : Pipe) (xs : List Place) (k : ℕ) (u : Use) (x : Place)
    → slice_get xs k ≡ Some x → is_too_early p (take k xs) x u ≡ early_at p xs k u
at_place p xs k u x e = sym (ap (is_some_and (λ y. is_too_early p (take k xs) y u)) e)

-- of a variable that nothing defines
nothing_before : (xs : List Place) (k : ℕ) (u : Use) → first_where (defines_use u) xs ≡ None → is_undefined (take k xs) u ≡ true
nothing_before xs k u e = ap not (any_before (defines_use u) xs k ∙ ap (λ o. comes_before o k) e)

-- the use of a variable that no place defines is too early
pub variable_nowhere : (p : Pipe) (xs : List Place) (k : ℕ) (x : Place) (v : List ℕ)
    → xs ≡ places p → slice_get xs k ≡ Some x → first_where (defines_use (OfVariable v)) xs ≡ None
    → true ≡ early_at p xs k (OfVariable v)
variable_nowhere p xs k x v all got e =
    sym
    (and_from _ _
    (ap not (parameter_first p v ∙ ap (λ o. comes_before o (length p.params)) (ap (first_where (defines_use (OfVariable v))) (sym all) ∙ e)))
    (or_left _ _ (nothing_before xs k (OfVariable v) e)))
    ∙ at_place p xs k (OfVariable v) x got

variable_somewhere : (p : Pipe) (xs : List Place) (k : ℕ) (x : Place) (v : List ℕ) (d : ℕ)
    → xs ≡ places p → slice_get xs k ≡ Some x → first_where (defines_use (OfVariable v)) xs ≡ Some d
    → (nat_le (length p.params) d && ungiven p xs k (OfVariable v) x) ≡ early_at p xs k (OfVariable v)
variable_somewhere p xs k x v d all got e =
    ap (λ a. a && ungiven p xs k (OfVariable v) x)
    (not_less d (length p.params)
    ∙ ap not (sym (parameter_first p v ∙ ap (λ o. comes_before o (length p.params)) (ap (first_where (defines_use (OfVariable v))) (sym all) ∙ e))))
    ∙ at_place p xs k (OfVariable v) x got

-- the use of a guess that no place defines is too early
pub guess_nowhere : (p : Pipe) (xs : List Place) (k : ℕ) (x : Place) (v : List ℕ)
    → slice_get xs k ≡ Some x → first_where (defines_use (OfGuess v)) xs ≡ None → true ≡ early_at p xs k (OfGuess v)
guess_nowhere p xs k x v got e = sym (or_left _ _ (nothing_before xs k (OfGuess v) e)) ∙ at_place p xs k (OfGuess v) x got

-- the use of a guess is too early exactly if the guess is not given there
pub guess_somewhere : (p : Pipe) (xs : List Place) (k : ℕ) (x : Place) (v : List ℕ)
    → slice_get xs k ≡ Some x → ungiven p xs k (OfGuess v) x ≡ early_at p xs k (OfGuess v)
guess_somewhere p xs k x v got = at_place p xs k (OfGuess v) x got

-- the use of a memory is never too early
pub memory_never : (p : Pipe) (xs : List Place) (k : ℕ) (x : Place) (v : List ℕ)
    → slice_get xs k ≡ Some x → false ≡ early_at p xs k (OfMemory v)
memory_never p xs k x v got = at_place p xs k (OfMemory v) x got

-- a parameter, and any other variable
pub variable_param : (p : Pipe) (xs : List Place) (k : ℕ) (x : Place) (v : List ℕ) (d n : ℕ)
    → xs ≡ places p → slice_get xs k ≡ Some x → first_where (defines_use (OfVariable v)) xs ≡ Some d
    → n ≡ length p.params → d < n → false ≡ early_at p xs k (OfVariable v)
variable_param p xs k x v d n all got e i l =
    ap (λ a. a && ungiven p xs k (OfVariable v) x) (sym (not_less d (length p.params) ∙ ap not (lt-ltb d (length p.params) (subst (λ m. d < m) i l))))
    ∙ variable_somewhere p xs k x v d all got e

-- the use of a variable that is no parameter is too early exactly if it is not given there
pub variable_other : (p : Pipe) (xs : List Place) (k : ℕ) (x : Place) (v : List ℕ) (d n : ℕ) (b : Bool)
    → xs ≡ places p → slice_get xs k ≡ Some x → first_where (defines_use (OfVariable v)) xs ≡ Some d
    → n ≡ length p.params → n ≤ d → b ≡ ungiven p xs k (OfVariable v) x → b ≡ early_at p xs k (OfVariable v)
variable_other p xs k x v d n b all got e i l made =
    made
    ∙ ap (λ a. a && ungiven p xs k (OfVariable v) x) (sym (not_less d (length p.params) ∙ ap not (le-ltb d (length p.params) (subst (λ m. m ≤ d) i l))))
    ∙ variable_somewhere p xs k x v d all got e
