-- Numbers of locations and of memories.
use Rattle.std.proofs.Common.{◌≡◌, refl, sym, ap, ◌∙◌, subst, ℕ, ◌+◌, ◌<◌, Bool, true, false, not, cond, List, [], ◌∷◌, ◌++◌, map, length, get_or, bytes_eq, Option, Some, None, arith}
use mathlib.Core.Path.{fun_ext}
use Rattle.std.specs.List.{position_or_len}
use Rattle.std.proofs.lemmas.Bool.{false≢true}
use Rattle.std.proofs.lemmas.List.Sums.{passes_at_first}
use Rattle.pdl_semantics.specs.Tree.{Location}
use Rattle.pdl_rules.specs.Places.{Place}
use Rattle.pdl_rules.specs.Parts.{is_some_and}
use Rattle.pdl_rules.proofs.SingleWrites.{bytes_sym, location_refl, location_sym, same_right}
use Rattle.pdl_paths.specs.Actions.{location_at}
use Rattle.pdl_locks.specs.declared.numbers.Keys.{Keys}
use Rattle.pdl_locks.specs.declared.numbers.Keys.TheVariants.{Locations, Memories}
use Rattle.pdl_locks.specs.Numbers.{are_one, is_at, first_place}
use Rattle.pdl_word.proofs.Bytes.{bytes_same, bytes_refl}

-- ONE NUMBER

one_refl : (keys : Keys) (l : Location) → are_one keys l l ≡ true
one_refl Locations l = location_refl l
one_refl Memories l = bytes_refl l.mem.name

one_sym : (keys : Keys) (a b : Location) → are_one keys a b ≡ true → are_one keys b a ≡ true
one_sym Locations a b e = location_sym a b e
one_sym Memories a b e = bytes_sym a.mem.name b.mem.name e

one_right : (keys : Keys) (x a b : Location) → are_one keys a b ≡ true → are_one keys x a ≡ are_one keys x b
one_right Locations x a b e = same_right x a b e
one_right Memories x a b e = ap (bytes_eq x.mem.name) (bytes_same _ _ e)

-- a place's own location stands at it
pub is_own : (keys : Keys) (l : Location) (x : Place) → location_at x ≡ Some l → is_at keys l x ≡ true
is_own keys l x e = ap (is_some_and (λ m. are_one keys m l)) e ∙ one_refl keys l

at_alike : (keys : Keys) (l m : Location) → are_one keys m l ≡ true → (x : Place) → is_at keys l x ≡ is_at keys m x
at_alike keys l m e x = ap (λ (f : Location → Bool). is_some_and f (location_at x)) (fun_ext (λ n. sym (one_right keys n m l e)))

-- locations that have one number stand first at the same place
pub same_first : (keys : Keys) (l m : Location) (xs : List Place) → are_one keys m l ≡ true → first_place keys l xs ≡ first_place keys m xs
same_first keys l m xs e = ap (λ (f : Place → Bool). position_or_len f xs) (fun_ext (at_alike keys l m e))

-- two locations at one place
both_at : (keys : Keys) (l m : Location) (x : Place) → is_at keys l x ≡ true → is_at keys m x ≡ true → are_one keys m l ≡ true
both_at keys l m x e f = at (location_at x) refl
  where
    at : (o : Option Location) → location_at x ≡ o → are_one keys m l ≡ true
    at None i = absurd (false≢true (sym (ap (is_some_and (λ n. are_one keys n l)) i) ∙ e))
    at (Some n) i =
        let left : are_one keys n l ≡ true = sym (ap (is_some_and (λ k. are_one keys k l)) i) ∙ e in
        let right : are_one keys n m ≡ true = sym (ap (is_some_and (λ k. are_one keys k m)) i) ∙ f in
        sym (one_right keys m n l left) ∙ one_sym keys n m right

-- locations that stand first at the same place, where they stand at one, have one number
pub first_same : (keys : Keys) (l m : Location) (xs : List Place) (x : Place)
    → first_place keys l xs ≡ first_place keys m xs → first_place keys l xs < length xs → are_one keys m l ≡ true
first_same keys l m xs x e within =
    let below : first_place keys m xs < length xs = subst (λ n. n < length xs) e within in
    both_at keys l m (get_or xs (first_place keys m xs) x)
    (subst (λ n. is_at keys l (get_or xs n x) ≡ true) e (passes_at_first (is_at keys l) xs x within))
    (passes_at_first (is_at keys m) xs x below)

-- PLACES WITH NUMBERS

-- one that stands at one of the places stands at one of them and one more before
pub one_before : (keys : Keys) (l : Location) (y : Place) (xs : List Place)
    → first_place keys l xs < length xs → first_place keys l (y ∷ xs) < length (y ∷ xs)
one_before keys l y xs h = at (is_at keys l y) refl
  where
    at : (b : Bool) → is_at keys l y ≡ b → first_place keys l (y ∷ xs) < length (y ∷ xs)
    at true i =
        let here : first_place keys l (y ∷ xs) ≡ 0 = ap (λ b. cond (not b) (1 + first_place keys l xs) 0) i in
        omega (arith, here)
    at false i =
        let later : first_place keys l (y ∷ xs) ≡ 1 + first_place keys l xs = ap (λ b. cond (not b) (1 + first_place keys l xs) 0) i in
        omega (arith, later, h)

-- a location that stands at one of the places stands first at one of them
pub found : (keys : Keys) (l : Location) (before later : List Place) (x : Place)
    → is_at keys l x ≡ true → first_place keys l (before ++ x ∷ later) < length (before ++ x ∷ later)
found keys l [] later x e =
    let here : first_place keys l (x ∷ later) ≡ 0 = ap (λ b. cond (not b) (1 + first_place keys l later) 0) e in
    omega (arith, here)
found keys l (y ∷ before) later x e = one_before keys l y (before ++ x ∷ later) (found keys l before later x e)

-- the k-th of what is told of places
pub nth_told : {T : Type 0} (f : Place → T) (before later : List Place) (x : Place) (k : ℕ) (none : T)
    → k ≡ length before → get_or (map f (before ++ x ∷ later)) k none ≡ f x
nth_told f [] later x k none e = ap (λ n. get_or (f x ∷ map f later) n none) e
nth_told f (y ∷ before) later x k none e =
    ap (λ n. get_or (f y ∷ map f (before ++ x ∷ later)) n none) e ∙ nth_told f before later x (length before) none refl
