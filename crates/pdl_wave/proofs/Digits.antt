-- Binary digits, and codes: their bytes, and what they are read as.
use Rattle.std.proofs.Common.{◌≡◌, refl, sym, ◌∙◌, ap, ℕ, zero, suc, ◌+◌, ◌-◌, ◌/◌, ◌%◌, ◌^◌, ◌<◌, Bool, true, nat_lt, [], ◌∷◌, ◌++◌, length, add-one, arith}
use Rattle.std.specs.List.{list_all}
use Rattle.std.specs.Char.{digit_value}
use Rattle.std.specs.Str.Parse.{digits_value}
use Rattle.std.proofs.Math.Nat.{div-add-mod, div-div-eq-div-mul, div-lt_iff_lt-mul, mod-lt, pow-suc}
use Rattle.std.proofs.Math.Pow.{pow-add}
use Rattle.std.proofs.lemmas.Bool.{and_from}
use Rattle.std.proofs.lemmas.Int.Digits.{digits_value_push}
use Rattle.std.proofs.lemmas.List.{length-append}
use Rattle.std.proofs.lemmas.List.Folds.{list_all-append}
use Rattle.pdl_word.specs.Digits.{is_digit_of}
use Rattle.pdl_wave.specs.Dump.{binary, is_word}

-- ---- one binary digit

bit_value : (d : ℕ) → d < 2 → digit_value (48 + d) ≡ d
bit_value zero h = refl
bit_value (suc zero) h = refl
bit_value (suc (suc d)) h = absurd (omega (arith, h))

bit_digit : (d : ℕ) → d < 2 → is_digit_of 2 (48 + d) ≡ true
bit_digit zero h = refl
bit_digit (suc zero) h = refl
bit_digit (suc (suc d)) h = absurd (omega (arith, h))

bit_word : (d : ℕ) → d < 2 → nat_lt 32 (48 + d) ≡ true
bit_word zero h = refl
bit_word (suc zero) h = refl
bit_word (suc (suc d)) h = absurd (omega (arith, h))

-- ---- a number's binary digits

-- what each of them passes
binary_all : (p : ℕ → Bool) → ((d : ℕ) → d < 2 → p (48 + d) ≡ true) → (n v : ℕ) → list_all p (binary n v) ≡ true
binary_all p one zero v = refl
binary_all p one (suc n) v =
    list_all-append p (binary n (v / 2)) ((48 + v % 2) ∷ [])
    ∙ and_from _ _ (binary_all p one n (v / 2)) (and_from _ _ (one (v % 2) (mod-lt v {m = 2} (omega arith))) refl)

-- binary digits that are written are digits of base 2
pub binary_digits : (n v : ℕ) → list_all (is_digit_of 2) (binary n v) ≡ true
binary_digits n v = binary_all (is_digit_of 2) bit_digit n v

-- binary digits that are written are a word of a dump
pub binary_word : (n v : ℕ) → is_word (binary n v) ≡ true
binary_word n v = binary_all (nat_lt 32) bit_word n v

-- as many binary digits are written as are asked for
pub binary_length : (n v : ℕ) → length (binary n v) ≡ n
binary_length zero v = refl
binary_length (suc n) v = length-append (binary n (v / 2)) ((48 + v % 2) ∷ []) ∙ omega (arith, binary_length n (v / 2))

-- binary digits that are written are read as the number, where it fits
pub binary_value : (n v : ℕ) → v < 2 ^ n → digits_value 2 (binary n v) ≡ v
binary_value zero v l = omega (arith, l)
binary_value (suc n) v l =
    let high : v / 2 < 2 ^ n = (div-lt_iff_lt-mul {k = 2} {x = v} {y = 2 ^ n} (omega arith)).1 (omega (arith, l, pow-suc 2 n)) in
    let last : digit_value (48 + v % 2) ≡ v % 2 = bit_value (v % 2) (mod-lt v {m = 2} (omega arith)) in
    digits_value_push 2 (binary n (v / 2)) (48 + v % 2)
    ∙ omega (arith, binary_value n (v / 2) high, last, div-add-mod v 2)

-- ---- one digit more

one_more : (v k : ℕ) → v / 2 ^ k / 2 ≡ v / 2 ^ (k + 1)
one_more v k = div-div-eq-div-mul v (2 ^ k) 2 ∙ ap (λ n. v / n) (sym (pow-add 2 k 1))

-- the highest digits with the next
pub binary_next : (count done v : ℕ)
    → done < count
    → binary (done + 1) (v / 2 ^ (count - (done + 1))) ≡ binary done (v / 2 ^ (count - done)) ++ (48 + v / 2 ^ (count - 1 - done) % 2) ∷ []
binary_next count done v h =
    let one : count - done ≡ count - 1 - done + 1 = omega arith in
    let same : count - (done + 1) ≡ count - 1 - done = omega arith in
    rw (same, one, ← one_more v (count - 1 - done), add-one) refl
