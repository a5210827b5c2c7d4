-- Copies of a word, one after another.
use Rattle.std.proofs.Common.{◌≡◌, ℕ, ◌+◌, add-one, arith}
use Rattle.pdl_word.specs.Words.{cat, rep}

-- one copy of a word is the word
pub rep_once : (u a : ℕ) → a ≡ rep u 1 a
unfolding rep
rep_once u a = omega arith

-- k copies of a word above one more of it are k + 1 copies
pub rep_more : (u k x a y : ℕ) → x ≡ rep u k a → y ≡ cat u x a → y ≡ rep u (k + 1) a
unfolding rep cat
rep_more u k x a y e f = rw (add-one, ← e) f
