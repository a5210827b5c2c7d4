-- One bit more in a mask.
use Rattle.std.proofs.Common.{◌≡◌, sym, ap, ◌∙◌, ℕ, ◌<◌, ◌^◌, min, max, true, false, ◌&&◌, not, ◌==◌, ◌≢◌, bit_and, bit_or, arith, eq-eqb, eqb-true, ◌⊎◌, inl, inr}
use Rattle.std.specs.Int.{bit_at}
use Rattle.std.proofs.lemmas.Nat.Bits.{bit_at_and, bit_at_or, bit_at-pow_same, bit_at-pow_other, bit_at-lt, bit_at-zero, same_from_bits}
use Rattle.std.proofs.lemmas.Bool.{and_parts, and_from, false≢true}
use Rattle.std.proofs.lemmas.Bool.Decides.{eqb_tells}
use Rattle.pdl_word.proofs.Bools.{same_bools}

-- BITS

on_low : (x a p : ℕ) → x < 2 → a < 2 → p < 2 → min x (max a p) ≡ max a p → min x a ≡ a
on_low x a p k l m e = omega arith

on_one : (x a p : ℕ) → x < 2 → a < 2 → p ≡ 1 → min x (max a p) ≡ max a p → x ≡ 1
on_one x a p k l m e = omega arith

on_same : (x a p : ℕ) → x ≡ 1 → a < 2 → p < 2 → min x (max a p) ≡ max a p
on_same x a p k l m = omega arith

on_other : (x a p : ℕ) → x < 2 → a < 2 → p ≡ 0 → min x a ≡ a → min x (max a p) ≡ max a p
on_other x a p k l m e = omega arith

off_low : (x a p : ℕ) → x < 2 → a < 2 → p < 2 → min x (max a p) ≡ 0 → min x a ≡ 0
off_low x a p k l m e = omega arith

off_one : (x a p : ℕ) → x < 2 → a < 2 → p ≡ 1 → min x (max a p) ≡ 0 → x ≡ 0
off_one x a p k l m e = omega arith

off_same : (x a p : ℕ) → x ≡ 0 → min x (max a p) ≡ 0
off_same x a p k = omega arith

off_other : (x a p : ℕ) → x < 2 → a < 2 → p ≡ 0 → min x a ≡ 0 → min x (max a p) ≡ 0
off_other x a p k l m e = omega arith

not_one : (x : ℕ) → x < 2 → not (x == 1) ≡ true → x ≡ 0
not_one x l e = at (eqb_tells x 1)
  where
    at : ((x == 1) ≡ true × (x ≡ 1)) ⊎ ((x == 1) ≡ false × (x ≢ 1)) → x ≡ 0
    at (inl h) = absurd (false≢true (sym (ap not h.0) ∙ e))
    at (inr h) = let differs : x ≢ 1 = h.1 in omega arith

-- WORDS

-- the bits that a word has in common with a mask of one bit more
common : (x a p i : ℕ) → bit_at (bit_and x (bit_or a p)) i ≡ min (bit_at x i) (max (bit_at a i) (bit_at p i))
common x a p i = bit_at_and x (bit_or a p) i ∙ ap (min (bit_at x i)) (bit_at_or a p i)

-- a word has all of a mask's bits and bit n just where it has all of the mask's and its bit n is 1
pub with_bit_on : (x a n : ℕ) → (bit_and x (bit_or a (2 ^ n)) == bit_or a (2 ^ n)) ≡ ((bit_and x a == a) && (bit_at x n == 1))
with_bit_on x a n = same_bools _ _ forth back
  where
    each : bit_and x (bit_or a (2 ^ n)) ≡ bit_or a (2 ^ n) → (i : ℕ)
        → min (bit_at x i) (max (bit_at a i) (bit_at (2 ^ n) i)) ≡ max (bit_at a i) (bit_at (2 ^ n) i)
    each e i = sym (common x a (2 ^ n) i) ∙ ap (λ k. bit_at k i) e ∙ bit_at_or a (2 ^ n) i

    forth : (bit_and x (bit_or a (2 ^ n)) == bit_or a (2 ^ n)) ≡ true → ((bit_and x a == a) && (bit_at x n == 1)) ≡ true
    forth h =
        let e = each (eqb-true _ _ h) in
        and_from _ _
        (eq-eqb _ _ (same_from_bits (bit_and x a) a (λ i. bit_at_and x a i ∙ on_low _ _ _ (bit_at-lt x i) (bit_at-lt a i) (bit_at-lt (2 ^ n) i) (e i))))
        (eq-eqb _ _ (on_one _ _ _ (bit_at-lt x n) (bit_at-lt a n) (bit_at-pow_same n) (e n)))

    bit : bit_and x a ≡ a → bit_at x n ≡ 1 → (i : ℕ) → ((i == n) ≡ true × (i ≡ n)) ⊎ ((i == n) ≡ false × (i ≢ n))
        → min (bit_at x i) (max (bit_at a i) (bit_at (2 ^ n) i)) ≡ max (bit_at a i) (bit_at (2 ^ n) i)
    bit e one i (inl h) = on_same _ _ _ (ap (bit_at x) h.1 ∙ one) (bit_at-lt a i) (bit_at-lt (2 ^ n) i)
    bit e one i (inr h) = on_other _ _ _ (bit_at-lt x i) (bit_at-lt a i) (bit_at-pow_other n i h.1) (sym (bit_at_and x a i) ∙ ap (λ k. bit_at k i) e)

    back : ((bit_and x a == a) && (bit_at x n == 1)) ≡ true → (bit_and x (bit_or a (2 ^ n)) == bit_or a (2 ^ n)) ≡ true
    back h =
        let parts = and_parts (bit_and x a == a) (bit_at x n == 1) h in
        eq-eqb _ _
        (same_from_bits _ _ (λ i. common x a (2 ^ n) i ∙ bit (eqb-true _ _ parts.0) (eqb-true _ _ parts.1) i (eqb_tells i n) ∙ sym (bit_at_or a (2 ^ n) i)))

-- a word has none of a mask's bits and bit n just where it has none of the mask's and its bit n is 0
pub with_bit_off : (x a n : ℕ) → (bit_and x (bit_or a (2 ^ n)) == 0) ≡ ((bit_and x a == 0) && not (bit_at x n == 1))
with_bit_off x a n = same_bools _ _ forth back
  where
    each : bit_and x (bit_or a (2 ^ n)) ≡ 0 → (i : ℕ) → min (bit_at x i) (max (bit_at a i) (bit_at (2 ^ n) i)) ≡ 0
    each e i = sym (common x a (2 ^ n) i) ∙ ap (λ k. bit_at k i) e ∙ bit_at-zero i

    forth : (bit_and x (bit_or a (2 ^ n)) == 0) ≡ true → ((bit_and x a == 0) && not (bit_at x n == 1)) ≡ true
    forth h =
        let e = each (eqb-true _ _ h) in
        and_from _ _
        (eq-eqb _ _
        (same_from_bits (bit_and x a) 0
        (λ i. bit_at_and x a i ∙ off_low _ _ _ (bit_at-lt x i) (bit_at-lt a i) (bit_at-lt (2 ^ n) i) (e i) ∙ sym (bit_at-zero i))))
        (ap (λ k. not (k == 1)) (off_one _ _ _ (bit_at-lt x n) (bit_at-lt a n) (bit_at-pow_same n) (e n)))

    bit : bit_and x a ≡ 0 → bit_at x n ≡ 0 → (i : ℕ) → ((i == n) ≡ true × (i ≡ n)) ⊎ ((i == n) ≡ false × (i ≢ n))
        → min (bit_at x i) (max (bit_at a i) (bit_at (2 ^ n) i)) ≡ 0
    bit e none i (inl h) = off_same _ _ _ (ap (bit_at x) h.1 ∙ none)
    bit e none i (inr h) =
        off_other _ _ _ (bit_at-lt x i) (bit_at-lt a i) (bit_at-pow_other n i h.1) (sym (bit_at_and x a i) ∙ ap (λ k. bit_at k i) e ∙ bit_at-zero i)

    back : ((bit_and x a == 0) && not (bit_at x n == 1)) ≡ true → (bit_and x (bit_or a (2 ^ n)) == 0) ≡ true
    back h =
        let parts = and_parts (bit_and x a == 0) (not (bit_at x n == 1)) h in
        let none = not_one (bit_at x n) (bit_at-lt x n) parts.1 in
        eq-eqb _ _ (same_from_bits _ 0 (λ i. common x a (2 ^ n) i ∙ bit (eqb-true _ _ parts.0) none i (eqb_tells i n) ∙ sym (bit_at-zero i)))
