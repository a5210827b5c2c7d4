-- Numbers modulo the number of slots and modulo twice that.
use Rattle.std.proofs.Common.{◌≡◌, ℕ, ◌+◌, ◌-◌, ◌*◌, ◌/◌, ◌%◌, ◌^◌, ◌<◌, ◌≤◌, ap, sym, ◌∙◌, arith, mul_assoc, mod-eq_of_lt, ⊎_elim}
use Rattle.std.specs.Prelude.{bit_and}
use Rattle.std.proofs.lemmas.Bool.{cases_lt}
use Rattle.std.proofs.Math.Nat.{mod-add-mod, mul-add-mod_self_right, add-mul-mod_self_right, add-mod_left, add-mod_right, mod-add-div'}
use Rattle.std.proofs.lemmas.Nat.{mod_below, and_mask}
use Rattle.pdl_word.specs.Words as words

small_mod : (d m : ℕ) → d < m → d % m ≡ d
small_mod d m h = mod-eq_of_lt h

less_mod : (m b t : ℕ) → 0 < m → b ≤ t → t - b < m → (t % m + m - b % m) % m ≡ t - b
less_mod m b t p l h =
    let x : b % m < m = mod_below b m p in
    let q = mod-add-div' b m in
    let e1 : t % m + m - b % m ≡ t % m + (m - b % m) = omega arith in
    let e2 : (t % m + (m - b % m)) % m ≡ (t + (m - b % m)) % m = mod-add-mod t m (m - b % m) in
    let e3 : t + (m - b % m) ≡ b / m * m + (m + (t - b)) = omega arith in
    ap (λ n. n % m) e1 ∙ e2 ∙ ap (λ n. n % m) e3 ∙ mul-add-mod_self_right (b / m) m (m + (t - b)) ∙ add-mod_left m (t - b) ∙ small_mod (t - b) m h

-- two numbers held modulo a power of two differ by their true difference, where that is below the power
pub sub_held : (w b t : ℕ) → b ≤ t → t - b < 2 ^ w → words.sub w (t % 2 ^ w) (b % 2 ^ w) ≡ t - b
unfolding words.sub
sub_held w b t l h = less_mod (2 ^ w) b t (omega arith) l h

-- a sum whose first number is held modulo a power of two
pub sum_held : (w x y : ℕ) → words.add w (x % 2 ^ w) y ≡ (x + y) % 2 ^ w
unfolding words.add
sum_held w x y = mod-add-mod x (2 ^ w) y

-- a number modulo twice another, modulo that one
pub half_mod : (n t : ℕ) → t % (2 * n) % n ≡ t % n
half_mod n t =
    let d = t / (2 * n) in
    let q : t % (2 * n) + d * (2 * n) ≡ t = mod-add-div' t (2 * n) in
    let e : t % (2 * n) + d * 2 * n ≡ t = ap (λ m. t % (2 * n) + m) (mul_assoc d 2 n) ∙ q in
    sym (add-mul-mod_self_right (t % (2 * n)) (d * 2) n) ∙ ap (λ m. m % n) e

-- the lowest bits of a number
pub slot_held : (w n v : ℕ) → n ≡ 2 ^ (w - 1) → words.and v (n - 1) ≡ v % n
unfolding words.and
slot_held w n v p = ap (λ m. bit_and v (m - 1)) p ∙ and_mask v (w - 1) ∙ ap (λ m. v % m) (sym p)

-- the slot of the i-th pending write, as its distance from the first one's slot
pub order_mod : (n b i : ℕ) → i < n → ((b + i) % n + (2 * n - b % (2 * n))) % n ≡ i
order_mod n b i h =
    let m = 2 * n in
    let r = b % m in
    let below : r < m = mod_below b m (omega arith) in
    let d = b / m in
    let q : r + d * m ≡ b = mod-add-div' b m in
    let twice : d * m ≡ d * 2 * n = sym (mul_assoc d 2 n) in
    let k = d * 2 * n in
    let e : b + i + (m - r) ≡ (i + k) + m = omega (arith, q, twice, below) in
    let two : (i + k) + m ≡ (i + n + n) + k = omega arith in
    mod-add-mod (b + i) n (m - r) ∙ ap (λ x. x % n) (e ∙ two) ∙ add-mul-mod_self_right (i + n + n) (d * 2) n
    ∙ add-mod_right (i + n) n ∙ add-mod_right i n ∙ small_mod i n h

-- different pending writes have different slots
pub apart : (n b i j : ℕ) → i < n → j < n → (b + i) % n ≡ (b + j) % n → i ≡ j
apart n b i j p q e = sym (order_mod n b i p) ∙ ap (λ k. (k + (2 * n - b % (2 * n))) % n) e ∙ order_mod n b j q

-- each slot is one of them
pub index_of : (n b k : ℕ) → k < n → (i : ℕ) × (i < n) × ((b + i) % n ≡ k)
index_of n b k h =
    let r = b % n in
    let below : r < n = mod_below b n (omega arith) in
    ⊎_elim
    (λ (l : k < r).
    let i = k + n - r in
    let e : r + i ≡ k + n = omega (arith, below) in
    (i, omega (arith, l, below), sym (mod-add-mod b n i) ∙ ap (λ m. m % n) e ∙ add-mod_right k n ∙ small_mod k n h))
    (λ (l : r ≤ k).
    let i = k - r in
    let e : r + i ≡ k = omega (arith, l) in
    (i, omega (arith, h), sym (mod-add-mod b n i) ∙ ap (λ m. m % n) e ∙ small_mod k n h))
    (cases_lt k r)
