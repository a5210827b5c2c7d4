-- A text cut at its first byte of a kind.
use Rattle.std.proofs.Common.{◌≡◌, ℕ, suc, ◌+◌, ◌-◌, ◌<◌, ◌≤◌, refl, arith, ap, sym, subst, Bool, true, false, cond, not, List, [], ◌∷◌, length, take, drop, Some, None, eqb, add-one}
use Rattle.std.specs.List.{slice_split, position, position_or_len, onto_first}
use Rattle.std.proofs.lemmas.Bool.{ltb-true, ltb-false}
use Rattle.std.proofs.lemmas.List.Splits.{slice_split_first, slice_split_none}
use Rattle.std.proofs.lemmas.List.Sums.{fails_before_first}
use Rattle.std.proofs.lemmas.List.{take_rest}
use Rattle.std.proofs.Math.Seq.{drop-length}
use Rattle.std.proofs.lemmas.Option.{cond_some}
use Rattle.pdl_image.specs.Images.{fields}
use Rattle.pdl_image.specs.Lines.{lines}

none_of : (b : Bool) (n : ℕ) → cond b (Some n) None ≡ None → b ≡ false
none_of true n e = cc
none_of false n e = refl

-- where the first byte that passes stands
pub place_is : {X : Type 0} (p : X → Bool) (xs : List X) (i : ℕ) → position p xs ≡ Some i → (position_or_len p xs ≡ i) × (i < length xs)
place_is p xs i e =
    let f = cond_some _ _ _ e in
    let h : position_or_len p xs < length xs = ltb-true _ _ f.0 in
    (f.1, subst (λ n. n < length xs) f.1 h)

-- where no element passes a test, the first place that passes is not before the end
pub none_passes : {X : Type 0} (p : X → Bool) (xs : List X) → position p xs ≡ None → length xs ≤ position_or_len p xs
none_passes p xs e = ltb-false _ _ (none_of _ _ e)

-- a text's first part ends before its first byte of a kind, and the other parts are those after that byte
pub parts_at : (p : ℕ → Bool) (xs : List ℕ) (i : ℕ)
    → position p xs ≡ Some i → slice_split p xs ≡ take i xs ∷ slice_split p (drop (i + 1) xs)
parts_at p xs i e =
    let f = place_is p xs i e in
    let h : position_or_len p xs < length xs = subst (λ n. n < length xs) (sym f.0) f.1 in
    let P : ℕ → Type 0 = λ n. slice_split p xs ≡ take n xs ∷ slice_split p (drop (n + 1) xs) in
    subst P f.0 (slice_split_first p xs 0 h)

-- the bytes up to a line feed are a line
lines_step : (b : Bool) (x : ℕ) (xs : List ℕ) (n i : ℕ)
    → (n < length xs → lines xs ≡ take n xs ∷ lines (drop (n + 1) xs)) → cond (not b) (1 + n) 0 ≡ i
    → i < suc (length xs)
    → cond b ([] ∷ lines xs) (onto_first x (lines xs)) ≡ take i (x ∷ xs) ∷ lines (drop (i + 1) (x ∷ xs))
lines_step true x xs n i later e h =
    let P : ℕ → Type 0 = λ k. [] ∷ lines xs ≡ take k (x ∷ xs) ∷ lines (drop (k + 1) (x ∷ xs)) in
    subst P e refl
lines_step false x xs n i later e h =
    let f : suc n ≡ i = omega arith in
    let g : lines xs ≡ take n xs ∷ lines (drop (n + 1) xs) = later (omega arith) in
    let P : ℕ → Type 0 = λ k. onto_first x (lines xs) ≡ take k (x ∷ xs) ∷ lines (drop (k + 1) (x ∷ xs)) in
    subst P f (rw (g, add-one, add-one) refl)

lines_at_place : (xs : List ℕ)
    → position_or_len (λ c. eqb c 10) xs < length xs
    → lines xs ≡ take (position_or_len (λ c. eqb c 10) xs) xs ∷ lines (drop (position_or_len (λ c. eqb c 10) xs + 1) xs)
unfolding lines
lines_at_place [] h = absurd (omega arith)
lines_at_place (x ∷ xs) h = lines_step (eqb x 10) x xs (position_or_len (λ c. eqb c 10) xs) _ (lines_at_place xs) refl h

-- at the first line feed of a text ends its first line, and the other lines are those of what follows
pub lines_at : (xs : List ℕ) (i : ℕ) → position (λ c. eqb c 10) xs ≡ Some i → lines xs ≡ take i xs ∷ lines (drop (i + 1) xs)
lines_at xs i e =
    let f = place_is (λ c. eqb c 10) xs i e in
    let h : position_or_len (λ c. eqb c 10) xs < length xs = subst (λ n. n < length xs) (sym f.0) f.1 in
    let P : ℕ → Type 0 = λ n. lines xs ≡ take n xs ∷ lines (drop (n + 1) xs) in
    subst P f.0 (lines_at_place xs h)

-- a text without a byte of a kind is its only part
pub parts_whole : (p : ℕ → Bool) (xs : List ℕ) → position p xs ≡ None → slice_split p xs ≡ xs ∷ []
parts_whole p xs e =
    let h : length xs ≤ position_or_len p xs = none_passes p xs e in
    slice_split_none p xs (λ k d l. fails_before_first p xs k d (omega arith))

whole_step : (b : Bool) (x : ℕ) (xs : List ℕ) (n : ℕ)
    → (length xs ≤ n → onto_first x (lines xs) ≡ (x ∷ xs) ∷ []) → suc (length xs) ≤ cond (not b) (1 + n) 0
    → cond b ([] ∷ lines xs) (onto_first x (lines xs)) ≡ (x ∷ xs) ∷ []
whole_step true x xs n later h = absurd (omega arith)
whole_step false x xs n later h = later (omega arith)

lines_none : (x : ℕ) (xs : List ℕ) → length (x ∷ xs) ≤ position_or_len (λ c. eqb c 10) (x ∷ xs) → lines (x ∷ xs) ≡ (x ∷ xs) ∷ []
unfolding lines
lines_none x [] h = whole_step (eqb x 10) x [] (position_or_len {X = ℕ} (λ c. eqb c 10) []) (λ k. refl) h
lines_none x (y ∷ ys) h = whole_step (eqb x 10) x (y ∷ ys) (position_or_len (λ c. eqb c 10) (y ∷ ys)) (λ k. ap (onto_first x) (lines_none y ys k)) h

-- the last line may lack its line feed
lines_whole : (xs : List ℕ) → 0 < length xs → position (λ c. eqb c 10) xs ≡ None → lines xs ≡ xs ∷ []
lines_whole [] l e = absurd (omega arith)
lines_whole (x ∷ xs) l e = lines_none x xs (none_passes (λ c. eqb c 10) (x ∷ xs) e)

lines_none_left : lines [] ≡ []
unfolding lines
lines_none_left = refl

-- at the first line feed of a text ends its first line, and the other lines are those of the slice after it
pub split_at : (xs : List ℕ) (i : ℕ)
    → position (λ c. eqb c 10) xs ≡ Some i → lines xs ≡ take i xs ∷ lines (take (length xs - (i + 1)) (drop (i + 1) xs))
split_at xs i e = rw take_rest (lines_at xs i e)

-- a text that is not empty and has no line feed is one line, and then those of the empty text
pub split_whole : (xs : List ℕ)
    → 0 < length xs → position (λ c. eqb c 10) xs ≡ None
    → lines xs ≡ xs ∷ lines (take (length xs - length xs) (drop (length xs) xs))
split_whole xs l e = rw (take_rest, drop-length, lines_none_left) (lines_whole xs l e)

-- a line's first part ends before its first space, and the other parts are those after that space
pub fields_at : (xs : List ℕ) (i : ℕ)
    → position (λ c. eqb c 32) xs ≡ Some i
    → fields xs ≡ take i xs ∷ fields (take (length xs - (i + 1)) (drop (i + 1) xs))
unfolding fields
fields_at xs i e = rw take_rest (parts_at (λ c. eqb c 32) xs i e)

-- a line without a space is its only part
pub fields_whole : (xs : List ℕ) → position (λ c. eqb c 32) xs ≡ None → fields xs ≡ xs ∷ []
unfolding fields
fields_whole xs e = parts_whole (λ c. eqb c 32) xs e
