-- The places of a thread's pending writes in joined lists.
use Rattle.std.proofs.Common.{◌≡◌, refl, sym, ap, ◌∙◌, ℕ, suc, ◌+◌, ◌<◌, ◌≤◌, Bool, true, false, ◌&&◌, List, [], ◌∷◌, ◌++◌, length, ◌==◌, cond, arith, le-ltb, lt-ltb, ⊎_elim}
use Rattle.std.proofs.lemmas.Bool.{cases_lt, ne_eqb}
use Rattle.pdl_semantics.proofs.Bools.{by_bool}
use Rattle.pdl_semantics.specs.Machine.{Pending}
use Rattle.pdl_semantics.specs.PendingLists.{count_older}
use Rattle.pdl_semantics.specs.Sound.{entries_by}
use Rattle.pdl_lockapi.specs.Forget.{has_place, place_of, IsOnce}
use Rattle.pdl_lockapi.proofs.Threads.{ticket_covered}

-- entries put behind a list leave the place of what has one in it
pub place_front : (n y : ℕ) (xs ys : List Pending) → has_place n y xs ≡ true
    → (has_place n y (xs ++ ys) ≡ true) × (place_of n y (xs ++ ys) ≡ place_of n y xs)
place_front n y [] ys h = absurd (cc h)
place_front n y (x ∷ xs) ys h = at ((x.thread == n) && (x.var == y)) h (place_front n y xs ys)
  where
    at : (b : Bool) → cond b true (has_place n y xs) ≡ true
        → (has_place n y xs ≡ true → (has_place n y (xs ++ ys) ≡ true) × (place_of n y (xs ++ ys) ≡ place_of n y xs))
        → (cond b true (has_place n y (xs ++ ys)) ≡ true) × (cond b 0 (suc (place_of n y (xs ++ ys))) ≡ cond b 0 (suc (place_of n y xs)))
    at true k f = (refl, refl)
    at false k f = let i = f k in (i.0, ap suc i.1)

-- what has no place in a list has its place behind it as many later
pub place_behind : (n y : ℕ) (xs ys : List Pending) → has_place n y xs ≡ false
    → (has_place n y (xs ++ ys) ≡ has_place n y ys) × (place_of n y (xs ++ ys) ≡ length xs + place_of n y ys)
place_behind n y [] ys h = (refl, zero (place_of n y ys))
  where
    zero : (k : ℕ) → k ≡ 0 + k
    zero k = omega arith
place_behind n y (x ∷ xs) ys h = at ((x.thread == n) && (x.var == y)) h (place_behind n y xs ys)
  where
    at : (b : Bool) → cond b true (has_place n y xs) ≡ false
        → (has_place n y xs ≡ false
        → (has_place n y (xs ++ ys) ≡ has_place n y ys) × (place_of n y (xs ++ ys) ≡ length xs + place_of n y ys))
        → (cond b true (has_place n y (xs ++ ys)) ≡ has_place n y ys) × (cond b 0 (suc (place_of n y (xs ++ ys))) ≡ suc (length xs) + place_of n y ys)
    at true k f = absurd (cc k)
    at false k f = let i = f k in (i.0, let j = i.1 in omega (arith, j))

-- what is at most once in a list is at most once in its front
pub once_front : (n y : ℕ) (xs ys : List Pending) → IsOnce n y (xs ++ ys) → IsOnce n y xs
once_front n y [] ys o = tt
once_front n y (x ∷ xs) ys o = (
  λ e. by_bool (has_place n y xs) (has_place n y xs ≡ false)
      (λ f. absurd (cc (sym (place_front n y xs ys f).0 ∙ o.0 e))) (λ f. f),
  once_front n y xs ys o.1,
)

-- and what has a place behind a front has none in it
pub once_behind : (n y : ℕ) (xs ys : List Pending) → IsOnce n y (xs ++ ys) → has_place n y ys ≡ true → has_place n y xs ≡ false
once_behind n y [] ys o h = refl
once_behind n y (x ∷ xs) ys o h = at ((x.thread == n) && (x.var == y)) o.0 (once_behind n y xs ys o.1 h)
  where
    at : (b : Bool) → (b ≡ true → has_place n y (xs ++ ys) ≡ false) → has_place n y xs ≡ false → cond b true (has_place n y xs) ≡ false
    at true f i = absurd (cc (sym (f refl) ∙ (place_behind n y xs ys i).0 ∙ h))
    at false f i = i

-- who finds all pending writes older has none of them
pub own_none : (n : ℕ) (es : List Pending) → count_older n es ≡ length es → entries_by n es ≡ []
own_none n [] h = refl
own_none n (e ∷ es) h = ⊎_elim
    (λ (l : e.thread < n).
    let k : suc (count_older n es) ≡ suc (length es) =
    sym (ap (λ b. cond b (suc (count_older n es)) (count_older n es)) (lt-ltb e.thread n l)) ∙ h in
    ap (λ b. cond b (e ∷ entries_by n es) (entries_by n es)) (ne_eqb e.thread n (λ i. omega (arith, i, l)))
    ∙ own_none n es (omega (arith, k)))
    (λ (l : n ≤ e.thread).
    let k : count_older n es ≡ suc (length es) = sym (ap (λ b. cond b (suc (count_older n es)) (count_older n es)) (le-ltb e.thread n l)) ∙ h in
    let t = ticket_covered n es in absurd (omega (arith, k, t)))
    (cases_lt e.thread n)
