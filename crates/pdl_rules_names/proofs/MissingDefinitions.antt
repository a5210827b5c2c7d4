-- Whether what a use needs is given at a place, where no name is defined twice.
use Rattle.std.proofs.Common.{◌≡◌, refl, sym, ap, ap₂, ◌∙◌, subst, ℕ, suc, ◌<◌, ◌≤◌, ◌^◌, Bool, true, false, ◌||◌, ◌&&◌, not, List, [], length, filter, take, drop, slice_get, Some, None}
use Rattle.std.specs.List.{list_any}
use Rattle.std.proofs.lemmas.Bool.{or_left, or_right, both_ways, false_from_ne_true, lt-ltb, le-ltb}
use Rattle.pdl_kit.specs.declared.rule.Rule.TheVariants.{N2}
use Rattle.pdl_semantics.specs.Tree.{Pipe}
use Rattle.pdl_rules.specs.Places.{Place, Guard, places, guards, on_path, on_some_path}
use Rattle.pdl_rules.specs.Names.{Use, defines_use, is_undefined, is_given, is_delayed}
use Rattle.pdl_rules.specs.Refusal.{broken_line}
use Rattle.pdl_paths.specs.Masks.{path_of}
use Rattle.pdl_paths.proofs.Choices.{some_path, has_bits}
use Rattle.pdl_rules_names.specs.First.{first_where, comes_before}
use Rattle.pdl_rules_names.specs.Ready.{given_on, is_separator_on}
use Rattle.pdl_rules_names.proofs.Firsts.{any_before, first_taken, get_taken}
use Rattle.pdl_rules_names.proofs.SingleDefinitions.{only_one}
use Rattle.pdl_rules_names.proofs.GivenNames.{given_by}

-- the use at the k-th place, which is x, of what the d-th, which is y, defines first
pub record Known (p : Pipe) (xs : List Place) (k d : ℕ) (u : Use) (x y : Place) : Type 0 where
  pub all : xs ≡ places p
  pub there : slice_get xs d ≡ Some y
  pub first : first_where (defines_use u) xs ≡ Some d
  pub once : broken_line N2 p [] (places p) ≡ None

-- whether a use at the k-th place has no definition before it in the text, or none on some path
abbrev pub ungiven : Pipe → List Place → ℕ → Use → Place → Bool
ungiven p xs k u x = is_undefined (take k xs) u || on_some_path (λ earlier. not (is_given earlier u)) p (take k xs) x

undefined_late : (xs : List Place) (k d : ℕ) (u : Use) → first_where (defines_use u) xs ≡ Some d → k ≤ d → is_undefined (take k xs) u ≡ true
undefined_late xs k d u f l = ap not (any_before (defines_use u) xs k ∙ ap (λ o. comes_before o k) f ∙ le-ltb d k l)

defined_before : (xs : List Place) (k d : ℕ) (u : Use)
    → first_where (defines_use u) xs ≡ Some d → d < k → is_undefined (take k xs) u ≡ false
defined_before xs k d u f l = ap not (any_before (defines_use u) xs k ∙ ap (λ o. comes_before o k) f ∙ lt-ltb d k l)

-- what is first defined at the place of its use, or after it, is not given there
pub late : (p : Pipe) (xs : List Place) (k d : ℕ) (u : Use) (x : Place)
    → first_where (defines_use u) xs ≡ Some d → k ≤ d → true ≡ ungiven p xs k u x
late p xs k d u x f l = sym (or_left _ _ (undefined_late xs k d u f l))

-- what is given on a path
given_here : (p : Pipe) (xs : List Place) (k d : ℕ) (u : Use) (x y : Place) → Known p xs k d u x y → d < k → (path : List Guard)
    → is_given (filter (on_path path) (take k xs)) u ≡ given_on path (take k xs) d y
given_here p xs k d u x y h l path =
    let first = first_taken (defines_use u) xs d k h.first l in
    given_by u path (take k xs) d y first (get_taken xs d k y h.there l)
    (only_one p u xs k d (subst (λ ys. broken_line N2 p [] ys ≡ None) (sym h.all) h.once) first)

-- what some path through the place of its use does not give is not given there
pub missing_on : (p : Pipe) (xs : List Place) (k d : ℕ) (u : Use) (x y : Place) (b : ℕ) → Known p xs k d u x y → d < k
    → (on_path (path_of (guards (places p)) b) x && not (given_on (path_of (guards (places p)) b) (take k xs) d y)) ≡ true
    → true ≡ ungiven p xs k u x
missing_on p xs k d u x y b h l e =
    let path = path_of (guards (places p)) b in
    sym
    (or_right _ _
    (some_path (λ c. on_path c x && not (is_given (filter (on_path c) (take k xs)) u)) (guards (places p)) b
    (ap (λ g. on_path path x && not g) (given_here p xs k d u x y h l path) ∙ e)))

-- what is defined before its use, and given on each path through that place, is given there
pub missing_nowhere : (p : Pipe) (xs : List Place) (k d : ℕ) (u : Use) (x y : Place) → Known p xs k d u x y
    → d < k
    → ((b : ℕ) → b < 2 ^ length (guards (places p))
    → (on_path (path_of (guards (places p)) b) x && not (given_on (path_of (guards (places p)) b) (take k xs) d y)) ≡ false)
    → false ≡ ungiven p xs k u x
missing_nowhere p xs k d u x y h l none =
    let test : List Guard → Bool = λ c. on_path c x && not (is_given (filter (on_path c) (take k xs)) u) in
    sym
    (ap₂ (λ a c. a || c) (defined_before xs k d u h.first l)
    (false_from_ne_true _
    (λ e.
    let s = has_bits test (guards (places p)) e in
    let path = path_of (guards (places p)) s.bits in
    both_ways _ (none s.bits s.below) (sym (ap (λ g. on_path path x && not g) (given_here p xs k d u x y h l path)) ∙ s.passes))))

-- a place in the branches of the definition, which gives at once
pub inside : (path : List Guard) (before : List Place) (d : ℕ) (x y : Place)
    → is_delayed y ≡ false → (on_path path x ≡ true → on_path path y ≡ true)
    → (on_path path x && not (given_on path before d y)) ≡ false
inside path before d x y e h = at (on_path path x) h
  where
    at : (b : Bool) → (b ≡ true → on_path path y ≡ true) → (b && not (given_on path before d y)) ≡ false
    at true k = ap₂ (λ a c. not (a && (not c || list_any (is_separator_on path) (drop (suc d) before)))) (k refl) e
    at false k = refl

-- the k-th of some places is one place alone
pub same_item : (xs : List Place) (k : ℕ) (y x : Place) → slice_get xs k ≡ Some y → slice_get xs k ≡ Some x → y ≡ x
same_item xs k y x e f = cc
