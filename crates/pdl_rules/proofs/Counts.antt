-- How many elements of a list pass a test.
use Rattle.std.proofs.Common.{◌≡◌, refl, ap, ℕ, ◌+◌, ◌≤◌, Bool, true, false, ◌||◌, List, [], ◌∷◌, ◌++◌, cond, count_by, arith}
use Rattle.std.proofs.lemmas.Bool.{false≢true, or_parts}
use Rattle.std.proofs.lemmas.List.Sums.{sum_by_push, sum_by-append}
use Rattle.std.specs.List.{list_any}

-- what an element adds to a count
abbrev pub weight : Bool → ℕ
weight b = cond b 1 0

-- an element at the end of a list adds its weight to the count
pub count_push : {X : Type 0} (f : X → Bool) (xs : List X) (x : X) → count_by f (xs ++ x ∷ []) ≡ count_by f xs + weight (f x)
count_push f xs x = sum_by_push (λ y. weight (f y)) xs x

-- an element at the front of a list adds its weight to the count
pub count_cons : {X : Type 0} (f : X → Bool) (x : X) (xs : List X) → count_by f (x ∷ xs) ≡ weight (f x) + count_by f xs
count_cons f x xs = let e = sum_by-append (λ y. weight (f y)) (x ∷ []) xs in omega arith

-- where some element passes the test, the count is at least 1
pub counted : {X : Type 0} (f : X → Bool) (xs : List X) → list_any f xs ≡ true → 1 ≤ count_by f xs
counted f [] e = absurd (false≢true e)
counted f (x ∷ xs) e =
    let sum = count_cons f x xs in
    let more : 1 ≤ weight (f x) + count_by f xs = at (f x) e (counted f xs) in
    omega arith
  where
    at : (b : Bool) → (b || list_any f xs) ≡ true → (list_any f xs ≡ true → 1 ≤ count_by f xs) → 1 ≤ weight b + count_by f xs
    at true e h = omega arith
    at false e h = let one : 1 ≤ count_by f xs = h e in omega arith

-- where no element passes the test, the count is 0
pub count_none : {X : Type 0} (f : X → Bool) (xs : List X) → list_any f xs ≡ false → count_by f xs ≡ 0
count_none f [] h = refl
count_none f (x ∷ xs) h =
    let parts = or_parts (f x) (list_any f xs) h in
    let here : weight (f x) ≡ 0 = ap weight parts.0 in
    let rest : count_by f xs ≡ 0 = count_none f xs parts.1 in
    omega (arith, count_cons f x xs)
