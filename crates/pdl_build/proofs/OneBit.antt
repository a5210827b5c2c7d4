-- Laws of words of one bit.
use Rattle.std.proofs.Common.{◌≡◌, ℕ, zero, suc, ◌<◌, refl, arith}
use Rattle.pdl_word.specs.Words.{complement, equal, differ, less, mux}

-- whether a word of 1 bit equals 1 is the word itself
pub equal_one : (x : ℕ) → x < 2 → equal x 1 ≡ x
unfolding equal
equal_one zero h = refl
equal_one (suc zero) h = refl
equal_one (suc (suc n)) h = absurd (omega arith)

-- whether a word of 1 bit equals 0 is its complement
pub equal_zero : (x : ℕ) → x < 2 → equal x 0 ≡ complement 1 x
unfolding equal complement
equal_zero zero h = refl
equal_zero (suc zero) h = refl
equal_zero (suc (suc n)) h = absurd (omega arith)

-- whether a word of 1 bit differs from 0 is the word itself
pub differ_zero : (x : ℕ) → x < 2 → differ x 0 ≡ x
unfolding differ
differ_zero zero h = refl
differ_zero (suc zero) h = refl
differ_zero (suc (suc n)) h = absurd (omega arith)

-- whether a word of 1 bit differs from 1 is its complement
pub differ_one : (x : ℕ) → x < 2 → differ x 1 ≡ complement 1 x
unfolding differ complement
differ_one zero h = refl
differ_one (suc zero) h = refl
differ_one (suc (suc n)) h = absurd (omega arith)

-- whether 0 is less than a word of 1 bit is the word itself
pub zero_less : (x : ℕ) → x < 2 → less 0 x ≡ x
unfolding less
zero_less zero h = refl
zero_less (suc zero) h = refl
zero_less (suc (suc n)) h = absurd (omega arith)

-- a choice by a word of 1 bit is that by its complement with the arms exchanged
pub mux_turned : (x a b : ℕ) → x < 2 → mux x b a ≡ mux (complement 1 x) a b
unfolding mux complement
mux_turned zero a b h = refl
mux_turned (suc zero) a b h = refl
mux_turned (suc (suc n)) a b h = absurd (omega arith)
