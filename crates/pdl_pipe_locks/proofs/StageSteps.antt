-- What is made of all stages from the last one on, one stage further.
use Rattle.std.proofs.Common.{◌≡◌, ℕ, suc, ◌+◌, ◌-◌, ◌<◌, ap, ap₂, arith}

-- what is made of n stages after i of them, and of those after one more, where stage k is the next
pub one_further : {A : Type 0} (f : ℕ → ℕ → A) (n i k : ℕ)
    → i < n → k ≡ n - 1 - i → (f (i + 1) (n - (i + 1)) ≡ f (suc i) k) × (f i (suc k) ≡ f i (n - i))
one_further f n i k l e =
    let one : i + 1 ≡ suc i = omega arith in
    let now : n - (i + 1) ≡ k = omega (arith, l, e) in
    let next : suc k ≡ n - i = omega (arith, l, e) in
    (ap₂ f one now, ap (f i) next)
