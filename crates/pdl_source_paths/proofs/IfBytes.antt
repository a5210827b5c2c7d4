-- Where the `if`s on expressions of a text begin at bytes that ascend, no two begin at one byte.
use Rattle.std.proofs.Common.{◌≡◌, refl, sym, ap, ◌∙◌, ℕ, suc, ◌≤◌, ◌<◌, Bool, true, false, not, ◌&&◌, ◌||◌, List, [], ◌∷◌, Option, Some, None, unwrap_or, arith}
use Rattle.std.proofs.lemmas.Bool.{and_from}
use Rattle.std.specs.List.{list_any}
use Rattle.pdl_rules.specs.Places.{Place}
use Rattle.pdl_source_paths.specs.Source.{begins_at, own_start, is_new, are_apart}
use Rattle.pdl_source_paths.proofs.FlatPaths.{starts_there}

-- a place that has a byte has one from byte n on, and what comes after it begins later
abbrev pub Next : ℕ → Option ℕ → (ℕ → Type 0) → Type 0
Next n None R = R n
Next n (Some k) R = (n ≤ k) × R (suc k)

-- the `if`s on expressions of these places begin at bytes that ascend, from byte n on
abbrev pub Ascends : ℕ → List Place → Type 0
Ascends n [] = Unit {0}
Ascends n (x ∷ xs) = Next n (own_start x) (λ m. Ascends m xs)

none_begins : (k n : ℕ) (xs : List Place) → k < n → Ascends n xs → list_any (begins_at k) xs ≡ false
none_begins k n [] low h = refl
none_begins k n (x ∷ xs) low h = at (own_start x) refl h (λ m l i. none_begins k m xs l i)
  where
    other : (o : Option ℕ) → own_start x ≡ o → (o ≡ Some k → ⊥) → (b : Bool) → begins_at k x ≡ b → b ≡ false
    other o e f false g = refl
    other o e f true g = absurd (f (sym e ∙ starts_there k x g))

    none : None ≡ Some k → ⊥
    none z = cc z

    at : (o : Option ℕ) → own_start x ≡ o → Next n o (λ m. Ascends m xs)
        → ((m : ℕ) → k < m → Ascends m xs → list_any (begins_at k) xs ≡ false)
        → (begins_at k x || list_any (begins_at k) xs) ≡ false
    at None e i go = ap (λ b. b || list_any (begins_at k) xs) (other None e none (begins_at k x) refl) ∙ go n low i
    at (Some j) e i go =
        ap (λ b. b || list_any (begins_at k) xs)
        (other (Some j) e (λ z. let u : j ≡ k = ap (λ o. unwrap_or o j) z in let v : n ≤ j = i.0 in omega arith) (begins_at k x) refl)
        ∙ go (suc j) (let v : n ≤ j = i.0 in omega arith) i.1

-- where such `if`s begin at ascending bytes, no two of them begin at one byte
pub apart_ascending : (n : ℕ) (xs : List Place) → Ascends n xs → are_apart xs ≡ true
apart_ascending n [] h = refl
apart_ascending n (x ∷ xs) h = at (own_start x) h (λ m i. apart_ascending m xs i)
  where
    at : (o : Option ℕ) → Next n o (λ m. Ascends m xs) → ((m : ℕ) → Ascends m xs → are_apart xs ≡ true) → (is_new o xs && are_apart xs) ≡ true
    at None i go = and_from true (are_apart xs) refl (go n i)
    at (Some k) i go = and_from (not (list_any (begins_at k) xs)) (are_apart xs) (ap not (none_begins k (suc k) xs (omega arith) i.1)) (go (suc k) i.1)
