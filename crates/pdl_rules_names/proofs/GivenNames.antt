-- What is given on a path, where one place alone defines it.
use Rattle.std.proofs.Common.{◌≡◌, refl, sym, ap, ap₂, ◌∙◌, ℕ, zero, suc, Bool, true, false, ◌||◌, ◌&&◌, not, cond, List, [], ◌∷◌, filter, drop, slice_get, Some}
use Rattle.std.specs.List.{list_any}
use Rattle.std.proofs.lemmas.Bool.{or_parts}
use Rattle.std.proofs.lemmas.Option.{same_Some}
use Rattle.std.proofs.Math.Bool.{or-false}
use Rattle.pdl_rules.specs.Places.{Place, Guard, on_path}
use Rattle.pdl_rules.specs.Limits.{is_separator}
use Rattle.pdl_rules.specs.Names.{Use, defines_use, is_delayed, is_given}
use Rattle.pdl_rules_names.specs.First.{first_where}
use Rattle.pdl_rules_names.specs.Ready.{is_separator_on, given_on}
use Rattle.pdl_rules_names.proofs.Firsts.{zero_first, later_first, none_some}

-- separators on the path
any_filtered : (path : List Guard) (ys : List Place) → list_any is_separator (filter (on_path path) ys) ≡ list_any (is_separator_on path) ys
any_filtered path [] = refl
any_filtered path (y ∷ ys) = at (on_path path y) (any_filtered path ys)
  where
    neither : (s r : Bool) → r ≡ ((s && false) || r)
    neither true r = refl
    neither false r = refl

    both : (s r : Bool) → (s || r) ≡ ((s && true) || r)
    both true r = refl
    both false r = refl

    at : (b : Bool) → list_any is_separator (filter (on_path path) ys) ≡ list_any (is_separator_on path) ys
        → list_any is_separator (cond b (y ∷ filter (on_path path) ys) (filter (on_path path) ys))
        ≡ ((is_separator y && b) || list_any (is_separator_on path) ys)
    at true e = ap (λ r. is_separator y || r) e ∙ both (is_separator y) (list_any (is_separator_on path) ys)
    at false e = e ∙ neither (is_separator y) (list_any (is_separator_on path) ys)

-- what is defined nowhere isn't given
no_given : (u : Use) (path : List Guard) (ys : List Place)
    → list_any (defines_use u) ys ≡ false → is_given (filter (on_path path) ys) u ≡ false
no_given u path [] h = refl
no_given u path (y ∷ ys) h = let parts = or_parts (defines_use u y) (list_any (defines_use u) ys) h in at (on_path path y) parts.0 (no_given u path ys parts.1)
  where
    at : (b : Bool) → defines_use u y ≡ false → is_given (filter (on_path path) ys) u ≡ false
        → is_given (cond b (y ∷ filter (on_path path) ys) (filter (on_path path) ys)) u ≡ false
    at true d e = ap₂ (λ a g. (a && (not (is_delayed y) || list_any is_separator (filter (on_path path) ys))) || g) d e
    at false d e = e

-- the one place that defines it decides
pub given_by : (u : Use) (path : List Guard) (ds : List Place) (d : ℕ) (x : Place)
    → first_where (defines_use u) ds ≡ Some d → slice_get ds d ≡ Some x
    → list_any (defines_use u) (drop (suc d) ds) ≡ false → is_given (filter (on_path path) ds) u ≡ given_on path ds d x
given_by u path [] d x f g n = absurd (none_some d f)
given_by u path (y ∷ ys) zero x f g n =
    at (on_path path y) (zero_first (defines_use u y) (first_where (defines_use u) ys) f) (no_given u path ys n)
    ∙ ap (given_on path (y ∷ ys) 0) (same_Some y x g)
  where
    at : (b : Bool) → defines_use u y ≡ true → is_given (filter (on_path path) ys) u ≡ false
        → is_given (cond b (y ∷ filter (on_path path) ys) (filter (on_path path) ys)) u ≡ (b && (not (is_delayed y) || list_any (is_separator_on path) ys))
    at true d e =
        ap₂ (λ a c. (a && (not (is_delayed y) || list_any is_separator (filter (on_path path) ys))) || c) d e
        ∙ or-false (not (is_delayed y) || list_any is_separator (filter (on_path path) ys))
        ∙ ap (λ s. not (is_delayed y) || s) (any_filtered path ys)
    at false d e = e
given_by u path (y ∷ ys) (suc d) x f g n =
    let parts = later_first (defines_use u y) (first_where (defines_use u) ys) d f in at (on_path path y) parts.0 (given_by u path ys d x parts.1 g n)
  where
    at : (b : Bool) → defines_use u y ≡ false → is_given (filter (on_path path) ys) u ≡ given_on path ys d x
        → is_given (cond b (y ∷ filter (on_path path) ys) (filter (on_path path) ys)) u ≡ given_on path (y ∷ ys) (suc d) x
    at true h e = ap₂ (λ a c. (a && (not (is_delayed y) || list_any is_separator (filter (on_path path) ys))) || c) h e
    at false h e = e

-- a definition that isn't on the path gives nothing there
pub given_off : (path : List Guard) (before : List Place) (d : ℕ) (y : Place) → on_path path y ≡ false → false ≡ given_on path before d y
given_off path before d y e = sym (ap (λ b. b && (not (is_delayed y) || list_any (is_separator_on path) (drop (suc d) before))) e)

-- a place on the path that is no delayed read gives at once what it defines
pub given_at_once : (path : List Guard) (before : List Place) (d : ℕ) (y : Place)
    → on_path path y ≡ true → is_delayed y ≡ false → true ≡ given_on path before d y
given_at_once path before d y e f = sym (ap₂ (λ b c. b && (not c || list_any (is_separator_on path) (drop (suc d) before))) e f)

-- a delayed read on the path gives what it defines exactly if a separator on the path stands after it
pub given_later : (path : List Guard) (before : List Place) (d : ℕ) (y : Place) (a : Bool)
    → on_path path y ≡ true → is_delayed y ≡ true → a ≡ list_any (is_separator_on path) (drop (suc d) before)
    → a ≡ given_on path before d y
given_later path before d y a e f g = g ∙ sym (ap₂ (λ b c. b && (not c || list_any (is_separator_on path) (drop (suc d) before))) e f)

-- nothing is missing at a place that isn't on the path
pub missing_off : (on given : Bool) → on ≡ false → false ≡ (on && not given)
missing_off on given e = sym (ap (λ b. b && not given) e)

-- at a place on the path, a name is missing exactly if it is not given
pub missing_if : (on given a : Bool) → on ≡ true → a ≡ given → not a ≡ (on && not given)
missing_if on given a e f = ap not f ∙ sym (ap (λ b. b && not given) e)
