-- Facts on lists and options that std doesn't have.
use Rattle.std.proofs.Common.{◌≡◌, refl, sym, ap, ◌∙◌, ℕ, zero, suc, ◌+◌, ◌<◌, ◌≤◌, Bool, true, false, cond, filter, ◌||◌, ◌&&◌, nat_eq, List, [], ◌∷◌, ◌++◌, length, take, drop, replicate, slice_index, Option, Some, None, is_some, Vec, Global, arith, ⊎_elim, get_or}
use Rattle.std.specs.Option.{option_map}
use Rattle.std.specs.List.{prefix_len, starts_with, list_any, list_all}
use Rattle.std.specs.Cmp.Lexicographic.{pointwise}
use Rattle.std.specs.Vec.{with_items}
use Rattle.std.proofs.lemmas.Bool.{and_parts, or_right, cases_lt, and_from, false≢true}
use Rattle.std.proofs.lemmas.List.{append-nil, drop_all, take_all, length-append, length-replicate, get_or-replicate, get_or_past, drop_more}
use Rattle.pdl_word.proofs.Bools.{or_map}
use Rattle.std.specs.Prelude.{slice_index}

-- the first elements of equal lists are equal
pub head_same : {X : Type 0} {x y : X} {xs ys : List X} → x ∷ xs ≡ y ∷ ys → x ≡ y
head_same e = cc

-- equal lists are equal after their first elements
pub tail_same : {X : Type 0} {x y : X} {xs ys : List X} → x ∷ xs ≡ y ∷ ys → xs ≡ ys
tail_same e = cc

-- an option that is mapped is there just where it was
pub is_some-mapped : {T U : Type 0} (f : T → U) (o : Option T) → is_some (option_map f o) ≡ is_some o
is_some-mapped f None = refl
is_some-mapped f (Some x) = refl

-- the first n elements of a list are no more than the list has
pub take_few : (n : ℕ) (xs : List ℕ) → length (take n xs) ≤ length xs
take_few zero xs = omega arith
take_few (suc n) [] = omega arith
take_few (suc n) (x ∷ xs) = let rest = take_few n xs in omega arith

-- at each place of a list of zeros, and past its end, 0 is read
pub zeros_at : (n i : ℕ) → slice_index (replicate n 0) i ≡ 0
zeros_at n i =
    ⊎_elim (λ (lt : i < n). get_or-replicate n i 0 0 lt)
    (λ (ge : n ≤ i). get_or_past (replicate n 0) i 0 (let e = length-replicate {A = ℕ} n 0 in omega (arith, e)))
    (cases_lt i n)

-- a vector that is given as many items has these
pub items_written : {X : Type 0} (v : Vec X Global) (ws : List X) → length ws ≡ length v.items → (with_items v ws).items ≡ ws
items_written v ws h =
    let n : length ws ≡ v.len = h ∙ sym v.ok.0 in
    let e : ws ++ drop (length ws) v.items ≡ ws = ap (λ xs. ws ++ xs) (drop_all (length ws) v.items (omega (arith, h))) ∙ append-nil ws in
    ap (λ xs. take v.len xs) e ∙ take_all v.len ws (omega (arith, n))

-- a run of elements that pass a test has at least one, where the first element passes
pub run_least : (p : ℕ → Bool) (c : ℕ) (cs : List ℕ) → p c ≡ true → 1 ≤ prefix_len p (c ∷ cs)
run_least p c cs e = rw e (omega arith)

-- what bytes begin with is no longer than they are
pub prefix_fits : (xs needle : List ℕ) → starts_with nat_eq xs needle ≡ true → length needle ≤ length xs
prefix_fits xs [] e = omega arith
prefix_fits [] (n ∷ ns) e = cc
prefix_fits (x ∷ xs) (n ∷ ns) e = let k = prefix_fits xs ns (and_parts (nat_eq n x) (pointwise nat_eq ns (take (length ns) xs)) e).1 in omega (arith, k)

-- of two fronts of one list the second is longer, with the same items after, or they are the same
pub record Longer {X : Type 0} (f1 b1 f2 b2 : List X) : Type 0 where
  pub t : X
  pub more : List X
  pub front : f1 ≡ f2 ++ t ∷ more
  pub after : b2 ≡ t ∷ (more ++ b1)

-- of two fronts of one list the one with less after it is longer
pub longer : {X : Type 0} (f1 b1 f2 b2 : List X) → f1 ++ b1 ≡ f2 ++ b2 → length b1 < length b2 → Longer f1 b1 f2 b2
longer [] b1 f2 b2 e le = let k : length b1 ≡ length (f2 ++ b2) = ap length e in let j = length-append f2 b2 in absurd (omega arith)
longer (x ∷ f1) b1 [] b2 e le = record { t = x; more = f1; front = refl; after = sym e }
longer (x ∷ f1) b1 (y ∷ f2) b2 e le = let k : f1 ++ b1 ≡ f2 ++ b2 = cc in let j : x ≡ y = cc in let h = longer f1 b1 f2 b2 k le in
    record { t = h.t; more = h.more; front = let i = h.front in cc; after = h.after }

-- what is left after two fronts of one list is the same, where it is of one length
pub same_after : {X : Type 0} (f1 b1 f2 b2 : List X) → f1 ++ b1 ≡ f2 ++ b2 → length b1 ≡ length b2 → b1 ≡ b2
same_after [] b1 [] b2 e le = e
same_after [] b1 (y ∷ f2) b2 e le = let k : length b1 ≡ length (y ∷ (f2 ++ b2)) = ap length e in let j = length-append f2 b2 in absurd (omega arith)
same_after (x ∷ f1) b1 [] b2 e le = let k : length (x ∷ (f1 ++ b1)) ≡ length b2 = ap length e in let j = length-append f1 b1 in absurd (omega arith)
same_after (x ∷ f1) b1 (y ∷ f2) b2 e le = let k : f1 ++ b1 ≡ f2 ++ b2 = cc in same_after f1 b1 f2 b2 k le

-- an element of a filtered list that passes a test is one of the list
pub some_filtered : {X : Type 0} (f p : X → Bool) (xs : List X) → list_any f (filter p xs) ≡ true → list_any f xs ≡ true
some_filtered f p [] e = e
some_filtered f p (x ∷ xs) e = at (p x) e (some_filtered f p xs)
  where
    at : (b : Bool) → list_any f (cond b (x ∷ filter p xs) (filter p xs)) ≡ true
        → (list_any f (filter p xs) ≡ true → list_any f xs ≡ true) → (f x || list_any f xs) ≡ true
    at true i k = or_map (f x) (list_any f (filter p xs)) (list_any f xs) k i
    at false i k = or_right (f x) (list_any f xs) (k i)

-- where all elements pass a test, all pass each test that follows from it
pub all_weaker : {X : Type 0} (f g : X → Bool)
    → ((x : X) → f x ≡ true → g x ≡ true) → (xs : List X) → list_all f xs ≡ true → list_all g xs ≡ true
all_weaker f g h [] e = e
all_weaker f g h (x ∷ xs) e =
    let parts = and_parts (f x) (list_all f xs) e in
    and_from (g x) (list_all g xs) (h x parts.0) (all_weaker f g h xs parts.1)

-- what is left of a list from place i on begins with the i-th element
pub drop_next : {A : Type 0} (xs : List A) (i : ℕ) (x : A) → i < length xs → x ≡ get_or xs i x → drop i xs ≡ x ∷ drop (i + 1) xs
drop_next xs i x h e = drop_more xs i x h ∙ ap (λ z. z ∷ drop (i + 1) xs) (sym e)

-- what is at a place that has something
pub some_of : {T : Type 0} (o : Option T) → is_some o ≡ true → (x : T) × (o ≡ Some x)
some_of None e = absurd (false≢true e)
some_of (Some x) e = (x, refl)

-- what is so of each register of a slot that keeps a place outside them
pub either : (P : ℕ → Type 0) (a b : ℕ) → P a → P b → (j : ℕ) → j < 2 → P (slice_index (a ∷ b ∷ []) j)
either P a b p q zero h = p
either P a b p q (suc zero) h = q
either P a b p q (suc (suc j)) h = absurd (omega arith)
