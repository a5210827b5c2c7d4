-- Comparisons of numbers.
use Rattle.std.proofs.Common.{◌≡◌, sym, ℕ, suc, ◌<◌, ◌≤◌, true, false, not, nat_lt, nat_le, arith}
use Rattle.std.proofs.lemmas.Bool.{lt-ltb, le-ltb, ltb-true}
use Rattle.std.proofs.lemmas.Bool.Decides.{leb_tells}
use Rattle.pdl_word.proofs.Bools.{same_bools}

up : (i k : ℕ) → i < k → suc i < suc k
up i k l = omega (arith, l)

down : (i k : ℕ) → suc i < suc k → i < k
down i k l = omega (arith, l)

-- a number is below another exactly if it is when both are greater by 1
pub less_more : (i k : ℕ) → nat_lt i k ≡ nat_lt (suc i) (suc k)
less_more i k = same_bools _ _ (λ e. lt-ltb (suc i) (suc k) (up i k (ltb-true i k e))) (λ e. lt-ltb i k (down i k (ltb-true (suc i) (suc k) e)))

-- 0 is below each number that is 1 more than another
pub zero_less : (k : ℕ) → true ≡ nat_lt 0 (suc k)
zero_less k = sym (lt-ltb 0 (suc k) (omega arith))

-- no number is below 0
pub none_less : (n : ℕ) → false ≡ nat_lt n 0
none_less n = sym (le-ltb n 0 (omega arith))

-- a number is at most another exactly if the other is not below it
pub not_less : (d n : ℕ) → nat_le n d ≡ not (nat_lt d n)
not_less d n = grind (arith, leb_tells n d, leb_tells (suc d) n)
