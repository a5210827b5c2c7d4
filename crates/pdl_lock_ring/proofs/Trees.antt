-- Choices by trees: what each half adds, and what they give.
use Rattle.std.proofs.Common.{◌≡◌, ◌≢◌, ℕ, zero, suc, ◌+◌, ◌-◌, ◌*◌, ◌/◌, ◌%◌, ◌^◌, ◌<◌, ◌≤◌, refl, sym, ap, ◌∙◌, arith, ⊎_elim}
use Rattle.std.proofs.lemmas.Bool.{cases_eq, cases_lt}
use Rattle.std.proofs.lemmas.Nat.{mod-pow-add, or_comm}
use Rattle.std.proofs.Math.Nat.{mod-one, mod-lt, two-pow-succ}
use Rattle.pdl_word.specs.Words as words
use Rattle.pdl_word.proofs.Laws.{or_zero}
use Rattle.pdl_net.specs.declared.BinOp.TheVariants.{Or}
use Rattle.pdl_net.specs.Circuit.{State}
use Rattle.pdl_net.specs.Signal.{Signal, bin_signal, mux_signal, slice_signal, bin_value, mux_value, slice_value}
use Rattle.pdl_lock_ring.specs.Choices.{selected_signal, either_signal}
use Rattle.pdl_lock_ring.proofs.RingValues.{mux_one, mux_zero}

-- half of a power of two
pub halved : (b : ℕ) → b ≢ 0 → 2 ^ b ≡ 2 ^ (b - 1) + 2 ^ (b - 1)
halved zero h = absurd (h refl)
halved (suc b) h = let e : suc b - 1 ≡ b = omega arith in two-pow-succ b ∙ ap (λ n. 2 ^ n + 2 ^ n) (sym e)

-- ---- a choice by the bits of a number

-- a choice by no bits is the first signal
pub selected_none : (f : ℕ → Signal) (d : Signal) (b from : ℕ) → b ≡ 0 → selected_signal f d b from ≡ f from
unfolding selected_signal
selected_none f d b from e = ap (λ n. selected_signal f d n from) e

-- a choice by b bits is one by the highest of them between the choices of both halves, where b is not 0
pub selected_more : (f : ℕ → Signal) (d : Signal) (b from : ℕ) → b ≢ 0
    → selected_signal f d b from
    ≡ mux_signal (slice_signal (b - 1) (b - 1) d) (selected_signal f d (b - 1) (from + 2 ^ (b - 1))) (selected_signal f d (b - 1) from)
unfolding selected_signal
selected_more f d zero from h = absurd (h refl)
selected_more f d (suc b) from h = let e : b ≡ suc b - 1 = omega arith in
    ap (λ n. mux_signal (slice_signal n n d) (selected_signal f d n (from + 2 ^ n)) (selected_signal f d n from)) e

-- a choice by bits has the width that all its signals have
pub selected_width : (f : ℕ → Signal) (d : Signal) (w : ℕ)
    → ((k : ℕ) → (f k).width ≡ w) → (b from : ℕ) → (selected_signal f d b from).width ≡ w
unfolding selected_signal
selected_width f d w e zero from = e from
selected_width f d w e (suc b) from = selected_width f d w e b (from + 2 ^ b)

-- a choice by bits gives the signal of the number in the lowest bits
pub selected_value : (f : ℕ → Signal) (d : Signal) (s : State) (b from : ℕ)
    → (selected_signal f d b from).value s ≡ (f (from + d.value s % 2 ^ b)).value s
unfolding selected_signal mux_value slice_value words.slice
selected_value f d s zero from = ap (λ n. (f n).value s) (let e : d.value s % 1 ≡ 0 = mod-one (d.value s) in omega (arith, e))
selected_value f d s (suc b) from =
    let n = d.value s in
    let c = n / 2 ^ b % 2 ^ (b + 1 - b) in
    let bit : c ≡ n / 2 ^ b % 2 ^ 1 = ap (λ k. n / 2 ^ b % 2 ^ k) (let e : b + 1 - b ≡ 1 = omega arith in e) in
    let split : n % 2 ^ suc b ≡ (n / 2 ^ b % 2 ^ 1) * 2 ^ b + n % 2 ^ b = ap (λ k. n % 2 ^ k) (let e : suc b ≡ 1 + b = omega arith in e) ∙ mod-pow-add n 1 b in
    let below : c < 2 = let e : n / 2 ^ b % 2 < 2 = mod-lt (n / 2 ^ b) (omega arith) in omega (arith, e, bit) in
    let high = (selected_signal f d b (from + 2 ^ b)).value s in
    let low = (selected_signal f d b from).value s in
    ⊎_elim
    (λ (e : c ≡ 1).
    let z : n % 2 ^ suc b ≡ 1 * 2 ^ b + n % 2 ^ b = split ∙ ap (λ k. k * 2 ^ b + n % 2 ^ b) (sym bit ∙ e) in
    mux_one c high low e ∙ selected_value f d s b (from + 2 ^ b) ∙ ap (λ k. (f k).value s) (omega (arith, z)))
    (λ (e : c ≢ 1).
    let o : c ≡ 0 = omega (arith, below, e) in
    let z : n % 2 ^ suc b ≡ 0 * 2 ^ b + n % 2 ^ b = split ∙ ap (λ k. k * 2 ^ b + n % 2 ^ b) (sym bit ∙ o) in
    mux_zero c high low o ∙ selected_value f d s b from ∙ ap (λ k. (f k).value s) (omega (arith, z)))
    (cases_eq c 1)

pub ruleset selecting = (selected_none, selected_more)

-- ---- one of several that are 0 but for one

-- of a single signal it is that one
pub either_none : (f : ℕ → Signal) (b from : ℕ) → b ≡ 0 → either_signal f b from ≡ f from
unfolding either_signal
either_none f b from e = ap (λ n. either_signal f n from) e

-- of 2 ^ b signals it is that of both halves in one, where b is not 0
pub either_more : (f : ℕ → Signal) (b from : ℕ) → b ≢ 0
    → either_signal f b from ≡ bin_signal Or (either_signal f (b - 1) (from + 2 ^ (b - 1))) (either_signal f (b - 1) from)
unfolding either_signal
either_more f zero from h = absurd (h refl)
either_more f (suc b) from h = let e : b ≡ suc b - 1 = omega arith in
    ap (λ n. bin_signal Or (either_signal f n (from + 2 ^ n)) (either_signal f n from)) e

-- it has the width that all its signals have
pub either_width : (f : ℕ → Signal) (w : ℕ) → ((k : ℕ) → (f k).width ≡ w) → (b from : ℕ) → (either_signal f b from).width ≡ w
unfolding either_signal
either_width f w e zero from = e from
either_width f w e (suc b) from = either_width f w e b (from + 2 ^ b)

-- it is 0 where all of them are
pub either_zero : (f : ℕ → Signal) (s : State) (b from : ℕ)
    → ((k : ℕ) → from ≤ k → k < from + 2 ^ b → (f k).value s ≡ 0) → (either_signal f b from).value s ≡ 0
unfolding either_signal bin_value
either_zero f s zero from h = h from (omega arith) (omega arith)
either_zero f s (suc b) from h =
    let two = two-pow-succ b in
    let high = (either_signal f b (from + 2 ^ b)).value s in
    ap (words.or high) (either_zero f s b from (λ k lo hi. h k lo (omega (arith, hi, two))))
    ∙ or_zero high ∙ either_zero f s b (from + 2 ^ b) (λ k lo hi. h k (omega (arith, lo)) (omega (arith, hi, two)))

zero_or : (v : ℕ) → words.or 0 v ≡ v
unfolding words.or
zero_or v = or_comm 0 v ∙ or_zero v

-- it is the one of them beside which all are 0
pub either_one : (f : ℕ → Signal) (s : State) (b from m : ℕ) → from ≤ m → m < from + 2 ^ b
    → ((k : ℕ) → from ≤ k → k < from + 2 ^ b → k ≢ m → (f k).value s ≡ 0) → (either_signal f b from).value s ≡ (f m).value s
unfolding either_signal bin_value
either_one f s zero from m lo hi h = ap (λ n. (f n).value s) (omega arith)
either_one f s (suc b) from m lo hi h =
    let two = two-pow-succ b in
    let high = (either_signal f b (from + 2 ^ b)).value s in
    let low = (either_signal f b from).value s in
    ⊎_elim
    (λ (l : m < from + 2 ^ b).
    ap (λ v. words.or v low)
    (either_zero f s b (from + 2 ^ b) (λ k u v. h k (omega (arith, u)) (omega (arith, v, two)) (λ e. omega (arith, e, l, u))))
    ∙ zero_or low ∙ either_one f s b from m lo l (λ k u v. h k u (omega (arith, v, two))))
    (λ (l : from + 2 ^ b ≤ m).
    ap (words.or high) (either_zero f s b from (λ k u v. h k u (omega (arith, v, two)) (λ e. omega (arith, e, l, v))))
    ∙ or_zero high
    ∙ either_one f s b (from + 2 ^ b) m l (omega (arith, hi, two)) (λ k u v. h k (omega (arith, u)) (omega (arith, v, two))))
    (cases_lt m (from + 2 ^ b))

pub ruleset either = (either_none, either_more)
