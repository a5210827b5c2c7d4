-- Words of the bits of several signals, and words by their bits.
use Rattle.std.proofs.Common.{◌≡◌, ◌≢◌, ℕ, zero, suc, ◌+◌, ◌-◌, ◌*◌, ◌^◌, ◌<◌, ◌≤◌, refl, sym, ap, ◌∙◌, arith, ⊎_elim, pow_pos}
use Rattle.std.specs.Int.{bit_at}
use Rattle.std.proofs.lemmas.Bool.{cases_lt}
use Rattle.std.proofs.lemmas.Nat.Bits.{bit_at_lowest, bit_at-zero, bit_at_cat_low, bit_at_cat_high, same_from_bits_below}
use Rattle.std.proofs.Math.Nat.{mod-eq_of_lt}
use Rattle.pdl_word.specs.Words as words
use Rattle.pdl_word.proofs.Bounds.{cat_below}
use Rattle.pdl_net.specs.Circuit.{State}
use Rattle.pdl_net.specs.Signal.{Signal, cat_signal, cat_value}
use Rattle.pdl_lock_ring.specs.Choices.{bits_signal}

-- the bit of one signal
pub bits_first : (f : ℕ → Signal) (k : ℕ) → k ≡ 0 → bits_signal f k ≡ f 0
unfolding bits_signal
bits_first f k e = ap (bits_signal f) e

-- the bit of one signal more stands above the others
pub bits_more : (f : ℕ → Signal) (k : ℕ) → k ≢ 0 → bits_signal f k ≡ cat_signal (f k) (bits_signal f (k - 1))
unfolding bits_signal
bits_more f zero h = absurd (h refl)
bits_more f (suc k) h = let e : k ≡ suc k - 1 = omega arith in ap (λ n. cat_signal (f (suc k)) (bits_signal f n)) e

pub ruleset gathering = (bits_first, bits_more)

-- as many bits as signals
pub bits_width : (f : ℕ → Signal) → ((k : ℕ) → (f k).width ≡ 1) → (k : ℕ) → (bits_signal f k).width ≡ k + 1
unfolding bits_signal
bits_width f w zero = w 0 ∙ (omega arith)
bits_width f w (suc k) = let e = bits_width f w k in let o = w (suc k) in omega (arith, e, o)

-- signals of one bit each
pub record AreBits (f : ℕ → Signal) (s : State) : Type 0 where
  pub one : (k : ℕ) → (f k).width ≡ 1
  pub few : (k : ℕ) → (f k).value s < 2

-- the word of their bits has no more
pub bits_few : (f : ℕ → Signal) (s : State) → AreBits f s → (k : ℕ) → (bits_signal f k).value s < 2 ^ (k + 1)
unfolding bits_signal cat_value
bits_few f s a zero = let h = a.few 0 in omega (arith, h)
bits_few f s a (suc k) =
    let w = bits_width f a.one k in
    let r = cat_below 1 (k + 1) ((f (suc k)).value s) ((bits_signal f k).value s) (a.few (suc k)) (bits_few f s a k) in
    let e : words.cat (bits_signal f k).width ((f (suc k)).value s) ((bits_signal f k).value s)
    ≡ words.cat (k + 1) ((f (suc k)).value s) ((bits_signal f k).value s) = ap (λ v. words.cat v ((f (suc k)).value s) ((bits_signal f k).value s)) w in
    let p : 1 + (k + 1) ≡ suc k + 1 = omega arith in
    let q : 2 ^ (1 + (k + 1)) ≡ 2 ^ (suc k + 1) = ap (λ v. 2 ^ v) p in
    omega (arith, r, e, q)

-- and each of them is its signal's
pub bits_at : (f : ℕ → Signal) (s : State) → AreBits f s → (k j : ℕ) → j ≤ k → bit_at ((bits_signal f k).value s) j ≡ (f j).value s
unfolding bits_signal cat_value words.cat
bits_at f s a zero j le =
    let z : j ≡ 0 = omega arith in
    let h = a.few 0 in
    ap (bit_at ((f 0).value s)) z ∙ bit_at_lowest ((f 0).value s) ∙ mod-eq_of_lt h ∙ ap (λ n. (f n).value s) (sym z)
bits_at f s a (suc k) j le =
    let w = bits_width f a.one k in
    let x = (f (suc k)).value s in
    let y = (bits_signal f k).value s in
    let v : x * 2 ^ (bits_signal f k).width + y ≡ x * 2 ^ (k + 1) + y = ap (λ n. x * 2 ^ n + y) w in
    let h = a.few (suc k) in
    ap (λ n. bit_at n j) v
    ∙ ⊎_elim
    (λ (l : j < k + 1). bit_at_cat_low x (k + 1) y j l ∙ bits_at f s a k j (omega (arith, l)))
    (λ (l : k + 1 ≤ j).
    let e : j ≡ suc k = omega (arith, l, le) in
    let z : j - (k + 1) ≡ 0 = omega (arith, l, le) in
    bit_at_cat_high x (k + 1) y j (bits_few f s a k) l ∙ ap (bit_at x) z ∙ bit_at_lowest x ∙ mod-eq_of_lt h ∙ ap (λ n. (f n).value s) (sym e))
    (cases_lt j (k + 1))

-- a word all of whose bits are 0 is 0
pub word_none : (w v : ℕ) → v < 2 ^ w → ((k : ℕ) → k < w → bit_at v k ≡ 0) → v ≡ 0
word_none w v h z = same_from_bits_below w v 0 h (pow_pos w) (λ k lt. z k lt ∙ sym (bit_at-zero k))

-- a word of which a bit is 1 is not 0
pub word_some : (v k : ℕ) → bit_at v k ≡ 1 → v ≢ 0
word_some v k e z = let q : bit_at v k ≡ 0 = ap (λ n. bit_at n k) z ∙ bit_at-zero k in absurd (omega (arith, e, q))
