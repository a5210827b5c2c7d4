-- Remainders by a power of two, as a mask or a shift of a word computes them.
use Rattle.std.proofs.Common.{◌≡◌, ℕ, ◌+◌, ◌-◌, ◌*◌, ◌%◌, ◌^◌, ◌<◌, ◌≤◌, bit_and, arith, ap, ◌∙◌, subst}
use Rattle.std.proofs.Math.Pow.{mod-mod-pow}
use Rattle.std.proofs.lemmas.Nat.{and_mask, one_shl}
use Rattle.pdl_word.specs.Words.{widest, mask}

-- a number's lowest bits have the same remainder by 2 ^ w as the number, where w is at most as many
pub mod_of_lowest : (bits n w : ℕ) → w ≤ bits → n % 2 ^ bits % 2 ^ w ≡ n % 2 ^ w
mod_of_lowest bits n w h =
    let e : bits - w + w ≡ bits = omega arith in
    let P : ℕ → Type 0 = λ k. n % 2 ^ k % 2 ^ w ≡ n % 2 ^ w in
    subst P e (mod-mod-pow n (bits - w) w)

-- a number masked by the largest word of w bits is its remainder by 2 ^ w
pub and_with_mask : (n w m : ℕ) → m ≡ mask w → bit_and n m ≡ n % 2 ^ w
unfolding mask
and_with_mask n w m e = ap (bit_and n) e ∙ and_mask n w

-- the bits of a number that the widest word has, masked by the largest word of w of them, are its remainder by 2 ^ w
pub masked : (n w m : ℕ) → w ≤ widest → m ≡ mask w → bit_and (n % 2 ^ widest) m ≡ n % 2 ^ w
masked n w m h e = and_with_mask (n % 2 ^ widest) w m e ∙ mod_of_lowest widest n w h

-- 1 shifted up in the widest word, by fewer places than that has, is that power of two
pub one_shifted : (w : ℕ) → w < widest → 1 * 2 ^ w % 2 ^ widest ≡ 2 ^ w
one_shifted w h = one_shl w widest h
