-- The first of some places, and the number that a name has.
use Rattle.std.proofs.Common.{◌≡◌, refl, sym, ap, ◌∙◌, subst, ℕ, zero, suc, ◌+◌, ◌<◌, Bool, true, false, ◌||◌, not, cond, List, [], ◌∷◌, ◌++◌, take, length, slice_get, nat_eq, bytes_eq, Option, Some, None, option_map, is_some, if◌then◌else◌, arith}
use Rattle.std.specs.Cmp.Lexicographic.{pointwise}
use Rattle.std.specs.List.{list_any}
use Rattle.std.proofs.lemmas.Slice.Eq.{bytes_eq-Decides}
use Rattle.indexmap.specs.IndexMap.{insert_entry}
use Rattle.pdl_rules.specs.Places.{Place}
use Rattle.pdl_rules.specs.Parts.{is_some_and}
use Rattle.pdl_rules_names.proofs.Comparisons.{less_more, zero_less, none_less}
use Rattle.pdl_rules_names.specs.First.{Entries, first_where, number_in, with_name, AreFirst, comes_before}
use Rattle.pdl_rules_on_paths.proofs.Nth.{take_next, taken_length}

abbrev or_else : Option ℕ → Option ℕ → Option ℕ
or_else None o = o
or_else (Some n) o = Some n

or_none : (a : Option ℕ) → a ≡ or_else a None
or_none None = refl
or_none (Some n) = refl

or_some : (a o : Option ℕ) → is_some a ≡ true → a ≡ or_else a o
or_some None o h = cc
or_some (Some n) o h = refl

shifted : (a : Option ℕ) (b : Bool) (n : ℕ)
    → option_map suc (or_else a (if b then Some n else None)) ≡ or_else (option_map suc a) (if b then Some (suc n) else None)
shifted None true n = refl
shifted None false n = refl
shifted (Some k) b n = refl

-- one place more
first_more : (test : Place → Bool) (xs : List Place) (y : Place)
    → first_where test (xs ++ y ∷ []) ≡ or_else (first_where test xs) (if test y then Some (length xs) else None)
first_more test [] y = refl
first_more test (x ∷ xs) y = at (test x) (first_more test xs y)
  where
    at : (b : Bool) → first_where test (xs ++ y ∷ []) ≡ or_else (first_where test xs) (if test y then Some (length xs) else None)
        → (if b then Some 0 else option_map suc (first_where test (xs ++ y ∷ [])))
        ≡ or_else (if b then Some 0 else option_map suc (first_where test xs)) (if test y then Some (suc (length xs)) else None)
    at true e = refl
    at false e = ap (option_map suc) e ∙ shifted (first_where test xs) (test y) (length xs)

over : (b : Bool) (n : ℕ) (a o : Option ℕ) → cond b (Some n) (or_else a o) ≡ or_else (cond b (Some n) a) o
over true n a o = refl
over false n a o = refl

-- a new name
number_new : (es : Entries) (x : List ℕ) (k : ℕ) (q : List ℕ) → is_some (number_in es x) ≡ false
    → number_in (insert_entry (pointwise nat_eq) es x k) q ≡ or_else (number_in es q) (if bytes_eq q x then Some k else None)
number_new [] x k q h = refl
number_new (e ∷ es) x k q h = at (bytes_eq x e.0) h (λ m. number_new es x k q m)
  where
    at : (b : Bool) → is_some (cond b (Some e.1) (number_in es x)) ≡ false
        → (is_some (number_in es x) ≡ false
        → number_in (insert_entry (pointwise nat_eq) es x k) q ≡ or_else (number_in es q) (if bytes_eq q x then Some k else None))
        → number_in (if b then (e.0, k) ∷ es else e ∷ insert_entry (pointwise nat_eq) es x k) q
        ≡ or_else (cond (bytes_eq q e.0) (Some e.1) (number_in es q)) (if bytes_eq q x then Some k else None)
    at true m go = cc
    at false m go = ap (λ o. cond (bytes_eq q e.0) (Some e.1) o) (go m) ∙ over (bytes_eq q e.0) e.1 (number_in es q) _

-- what a place defines is added
added : (read : Place → Option (List ℕ)) (xs : List Place) (es : Entries) (y : Place) → AreFirst read xs es
    → AreFirst read (xs ++ y ∷ []) (with_name es (read y) (length xs))
added read xs es y h q =
    with_one (read y) ∙ ap (λ f. or_else f (if is_some_and (bytes_eq q) (read y) then Some (length xs) else None)) (h q)
    ∙ sym (first_more (λ d. is_some_and (bytes_eq q) (read d)) xs y)
  where
    same : (x : List ℕ) (b : Bool) → bytes_eq q x ≡ b → is_some (number_in es x) ≡ true
        → number_in es q ≡ or_else (number_in es q) (if b then Some (length xs) else None)
    same x true e s = or_some _ _ (subst (λ n. is_some (number_in es n) ≡ true) (sym ((bytes_eq-Decides q x).0 e)) s)
    same x false e s = or_none _

    known : (x : List ℕ) (b : Bool) → is_some (number_in es x) ≡ b
        → number_in (if b then es else insert_entry (pointwise nat_eq) es x (length xs)) q
        ≡ or_else (number_in es q) (if bytes_eq q x then Some (length xs) else None)
    known x true s = same x (bytes_eq q x) refl s
    known x false s = number_new es x (length xs) q s

    with_one : (o : Option (List ℕ))
        → number_in (with_name es o (length xs)) q ≡ or_else (number_in es q) (if is_some_and (bytes_eq q) o then Some (length xs) else None)
    with_one None = or_none _
    with_one (Some x) = known x (is_some (number_in es x)) refl

-- the first places of names among k places, with the name of the next, are those among k + 1
pub added_at : (read : Place → Option (List ℕ)) (xs : List Place) (k : ℕ) (y : Place) (es fs : Entries) (o : Option (List ℕ))
    → slice_get xs k ≡ Some y → o ≡ read y → fs ≡ with_name es o k → AreFirst read (take k xs) es
    → AreFirst read (take (k + 1) xs) fs
added_at read xs k y es fs o got e made h =
    subst (λ ys. AreFirst read ys fs) (take_next xs k y got)
    (subst (λ gs. AreFirst read (take k xs ++ y ∷ []) gs)
    (ap (λ n. with_name es (read y) n) (sym (taken_length xs k y got)) ∙ sym (made ∙ ap (λ m. with_name es m k) e))
    (added read (take k xs) es y h))

-- whether there is one at all, and one before another
found_step : (b : Bool) (o : Option ℕ) (a : Bool) → a ≡ is_some o → (b || a) ≡ is_some (if b then Some 0 else option_map suc o)
found_step true o a e = refl
found_step false None a e = e
found_step false (Some n) a e = e

-- some place passes a test exactly if there is a first one that does
pub any_found : (test : Place → Bool) (xs : List Place) → list_any test xs ≡ is_some (first_where test xs)
any_found test [] = refl
any_found test (x ∷ xs) = found_step (test x) (first_where test xs) (list_any test xs) (any_found test xs)

-- whether a place below a number passes, with one more place at the front
pub before_step : (b : Bool) (o : Option ℕ) (a : Bool) (k : ℕ)
    → a ≡ comes_before o k → (b || a) ≡ comes_before (if b then Some 0 else option_map suc o) (suc k)
before_step true o a k e = zero_less k
before_step false None a k e = e
before_step false (Some n) a k e = e ∙ less_more n k

-- no first place comes before number 0
pub none_before : (o : Option ℕ) → false ≡ comes_before o 0
none_before None = refl
none_before (Some n) = none_less n

-- one of the first k places passes a test exactly if the first that passes comes before k
pub any_before : (test : Place → Bool) (xs : List Place) (k : ℕ) → list_any test (take k xs) ≡ comes_before (first_where test xs) k
any_before test [] zero = refl
any_before test [] (suc k) = refl
any_before test (x ∷ xs) zero = none_before (first_where test (x ∷ xs))
any_before test (x ∷ xs) (suc k) = before_step (test x) (first_where test xs) (list_any test (take k xs)) k (any_before test xs k)

-- where the first is
abbrev nothing : Option ℕ
nothing = None

-- no number is the same as none
pub none_some : (d : ℕ) → nothing ≡ Some d → ⊥
none_some d e = cc

-- where the first place that passes a test is number 0, the place at the front passes
pub zero_first : (b : Bool) (o : Option ℕ) → (if b then Some 0 else option_map suc o) ≡ Some 0 → b ≡ true
zero_first true o e = refl
zero_first false None e = cc
zero_first false (Some n) e = absurd (apart n (same (suc n) 0 e))
  where
    same : (a b : ℕ) → Some a ≡ Some b → a ≡ b
    same a b i = cc

    apart : (m : ℕ) → suc m ≡ 0 → ⊥
    apart m i = omega (arith, i)

-- where the first place that passes is a later one, the front fails, and the number is 1 less after it
pub later_first : (b : Bool) (o : Option ℕ) (d : ℕ) → (if b then Some 0 else option_map suc o) ≡ Some (suc d) → (b ≡ false) × (o ≡ Some d)
later_first true o d e = absurd (apart d (same 0 (suc d) e))
  where
    same : (a b : ℕ) → Some a ≡ Some b → a ≡ b
    same a b i = cc

    apart : (m : ℕ) → 0 ≡ suc m → ⊥
    apart m i = omega (arith, i)
later_first false None d e = absurd (none_some (suc d) e)
later_first false (Some n) d e = (refl, ap Some (less n d (same (suc n) (suc d) e)))
  where
    same : (a b : ℕ) → Some a ≡ Some b → a ≡ b
    same a b i = cc

    less : (a b : ℕ) → suc a ≡ suc b → a ≡ b
    less a b i = omega (arith, i)

-- the number of the first place that passes a test is below the number of places
pub first_below : (test : Place → Bool) (xs : List Place) (d : ℕ) → first_where test xs ≡ Some d → d < length xs
first_below test [] d e = absurd (none_some d e)
first_below test (x ∷ xs) zero e = omega arith
first_below test (x ∷ xs) (suc d) e = let h = first_below test xs d (later_first (test x) (first_where test xs) d e).1 in omega (arith, h)

-- among the places up to one after it
pub first_taken : (test : Place → Bool) (xs : List Place) (d k : ℕ)
    → first_where test xs ≡ Some d → d < k → first_where test (take k xs) ≡ Some d
first_taken test [] d zero e l = absurd (omega (arith, l))
first_taken test [] d (suc k) e l = e
first_taken test (x ∷ xs) d zero e l = absurd (omega (arith, l))
first_taken test (x ∷ xs) zero (suc k) e l =
    ap (λ b. if b then Some 0 else option_map suc (first_where test (take k xs))) (zero_first (test x) (first_where test xs) e)
first_taken test (x ∷ xs) (suc d) (suc k) e l =
    let parts = later_first (test x) (first_where test xs) d e in
    ap (λ b. if b then Some 0 else option_map suc (first_where test (take k xs))) parts.0
    ∙ ap (option_map suc) (first_taken test xs d k parts.1 (omega (arith, l)))

-- the element at number d is also there among the first k, where d is below k
pub get_taken : {Q : Type 0} (xs : List Q) (d k : ℕ) (x : Q) → slice_get xs d ≡ Some x → d < k → slice_get (take k xs) d ≡ Some x
get_taken [] d zero x e l = absurd (omega (arith, l))
get_taken [] d (suc k) x e l = e
get_taken (y ∷ ys) d zero x e l = absurd (omega (arith, l))
get_taken (y ∷ ys) zero (suc k) x e l = e
get_taken (y ∷ ys) (suc d) (suc k) x e l = get_taken ys d k x e (omega (arith, l))

-- whether nothing was found tells whether no place passes the test
pub missing : (test : Place → Bool) (xs : List Place) (o : Option ℕ) (b : Bool)
    → is_some o ≡ not b → o ≡ first_where test xs → b ≡ not (list_any test xs)
missing test xs o b e f = flip (is_some o) b e ∙ ap not (ap is_some f ∙ sym (any_found test xs))
  where
    flip : (a c : Bool) → a ≡ not c → c ≡ not a
    flip true true h = cc
    flip true false h = refl
    flip false true h = refl
    flip false false h = cc
