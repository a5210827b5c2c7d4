-- Counts, with one place more.
use Rattle.std.proofs.Common.{◌≡◌, refl, sym, ap, ◌∙◌, ℕ, ◌+◌, ◌<◌, ◌≤◌, Bool, true, false, List, [], ◌∷◌, ◌++◌, take, length, slice_get, Some, count_by, if◌then◌else◌, arith}
use Rattle.std.proofs.lemmas.List.Sums.{count_by-le-length}
use Rattle.pdl_rules.proofs.Counts.{weight, count_push}
use Rattle.pdl_rules_on_paths.proofs.Nth.{take_next, taken_length}

count_more : {X : Type 0} (p : X → Bool) (xs : List X) (y : X)
    → count_by p (xs ++ y ∷ []) ≡ (if p y then count_by p xs + 1 else count_by p xs)
count_more p xs y = count_push p xs y ∙ at (count_by p xs) (p y)
  where
    at : (n : ℕ) (b : Bool) → n + weight b ≡ (if b then n + 1 else n)
    at n true = refl
    at n false = omega arith

-- the count over the first k elements, 1 more where the next passes, is that over the first k + 1
pub count_next : {X : Type 0} (p : X → Bool) (xs : List X) (k : ℕ) (y : X) (old new : ℕ) (b : Bool)
    → slice_get xs k ≡ Some y → b ≡ p y → new ≡ (if b then old + 1 else old) → old ≡ count_by p (take k xs)
    → new ≡ count_by p (take (k + 1) xs)
count_next p xs k y old new b got e made h =
    made
    ∙ ap (λ n. if b then n + 1 else n) h
    ∙ ap (λ c. if c then count_by p (take k xs) + 1 else count_by p (take k xs)) e
    ∙ sym (count_more p (take k xs) y)
    ∙ ap (count_by p) (take_next xs k y got)

-- as many places as pass a test before the k-th are fewer than all places
pub count_below : {X : Type 0} (p : X → Bool) (xs : List X) (k end old : ℕ) (y : X)
    → slice_get xs k ≡ Some y → k < end → old ≡ count_by p (take k xs) → old < end
count_below p xs k end old y got l h =
    let most : count_by p (take k xs) ≤ length (take k xs) = count_by-le-length p (take k xs) in
    let many = taken_length xs k y got in
    omega (arith, l, h, most, many)
