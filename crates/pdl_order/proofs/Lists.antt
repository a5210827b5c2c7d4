-- Lists of branches as words.
use Rattle.std.proofs.Common.{◌≡◌, ℕ, zero, suc, ◌+◌, ◌*◌, ◌/◌, ◌^◌, ◌<◌, ◌≤◌, Bool, true, false, List, [], ◌∷◌, ◌++◌, length, sym, ap, ◌∙◌, arith}
use Rattle.std.specs.Prelude.{nat_eq}
use Rattle.std.proofs.Math.Nat.{pow-succ', mod-eq_of_lt}
use Rattle.std.proofs.Math.Pow.{pow_mono}
use Rattle.std.proofs.lemmas.Nat.{pow_pos}
use Rattle.std.proofs.lemmas.Bool.{eq-eqb, ne_eqb}
use Rattle.pdl_word.specs.Words as words
use Rattle.pdl_word.specs.Words.{bit}
use Rattle.pdl_word.proofs.Shifts.{shr_within, shr_past}
use Rattle.pdl_order.specs.Words.{word_of}

-- the word of a list fits as many bits as it has entries
pub word_below : (xs : List Bool) → word_of xs < 2 ^ length xs
word_below [] = omega arith
word_below (true ∷ xs) = omega (arith, word_below xs, pow-succ' 2 (length xs))
word_below (false ∷ xs) = omega (arith, word_below xs, pow-succ' 2 (length xs))

-- the word of a list with an entry more at the end has the bit of that entry above it
pub word_more : (xs : List Bool) (x : Bool) → word_of (xs ++ x ∷ []) ≡ word_of xs + bit x * 2 ^ length xs
word_more [] true = omega arith
word_more [] false = omega arith
word_more (y ∷ xs) x = ap (λ n. bit y + 2 * n) (word_more xs x) ∙ by_bit x
  where
    by_bit : (t : Bool) → bit y + 2 * (word_of xs + bit t * 2 ^ length xs) ≡ bit y + 2 * word_of xs + bit t * 2 ^ suc (length xs)
    by_bit true = omega (arith, pow-succ' 2 (length xs))
    by_bit false = omega arith

-- a word of n bits without its lowest bit
pub half : (n a : ℕ) → 1 ≤ n → a < 2 ^ n → words.shr n a 1 ≡ a / 2
half (suc zero) a h l = shr_past 1 a 1 (omega arith) ∙ none
  where
    none : 0 ≡ a / 2
    none = omega (arith, l)
half (suc (suc n)) a h l = shr_within (suc (suc n)) a 1 (omega arith)
half zero a h l = absurd (omega arith)

-- the words without the oldest entry
pub used_half : (u : ℕ) (x : Bool) (xs : List Bool) → u + 1 ≡ 2 ^ length (x ∷ xs) → u / 2 + 1 ≡ 2 ^ length xs
used_half u x xs e = omega (arith, e, pow-succ' 2 (length xs), pow_pos (length xs))

-- half the word of a list is the word of the list without its first entry
pub sides_half : (x : Bool) (xs : List Bool) → word_of (x ∷ xs) / 2 ≡ word_of xs
sides_half true xs = omega arith
sides_half false xs = omega arith

-- a sum that fits n bits
pub sum_is : (n a b : ℕ) → a + b < 2 ^ n → words.add n a b ≡ a + b
unfolding words.add
sum_is n a b h = mod-eq_of_lt h

-- the word with a one for each entry is 0 just where there is no entry
pub used_none : (u : ℕ) (xs : List Bool) → u + 1 ≡ 2 ^ length xs → words.equal u 0 ≡ bit (nat_eq (length xs) 0)
unfolding words.equal
used_none u [] e = let z : u ≡ 0 = omega (arith, e) in ap bit (eq-eqb u 0 z)
used_none u (x ∷ xs) e =
    ap bit (ne_eqb u 0 (λ (z : u ≡ 0). absurd (omega (arith, e, z, pow-succ' 2 (length xs), pow_pos (length xs)))))
    ∙ ap bit (sym (ne_eqb (length (x ∷ xs)) 0 (λ (z : length (x ∷ xs) ≡ 0). absurd (omega (arith, z)))))

-- the lowest bit of a list's word is its first entry
pub lowest : (x : Bool) (xs : List Bool) → words.slice 0 0 (word_of (x ∷ xs)) ≡ bit x
unfolding words.slice
lowest true xs = omega arith
lowest false xs = omega arith

-- a word has room for a 1
pub one_fits : (n : ℕ) → 1 ≤ n → 1 < 2 ^ n
one_fits n h = let p : 2 ^ 1 ≤ 2 ^ n = pow_mono h in omega (arith, p)
