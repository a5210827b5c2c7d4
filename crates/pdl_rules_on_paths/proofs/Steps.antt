-- One number more.
use Rattle.std.proofs.Common.{◌≡◌, ap, ◌∙◌, ℕ, ◌+◌, ◌<◌, ◌≤◌, Bool, false, arith, ◌⊎◌, inl, inr}
use Rattle.std.proofs.Math.Nat.{eq-or-lt_of_le}

-- a number below c + 1 is at most c
pub up_to : (b c : ℕ) → b < c + 1 → b ≤ c
up_to b c l = omega arith

-- none of the places so far, and of one more
pub one_place : (test : ℕ → Bool) (k : ℕ) → ((j : ℕ) → j < k → test j ≡ false) → test k ≡ false → (j : ℕ) → j < k + 1 → test j ≡ false
one_place test k others e j l = at (eq-or-lt_of_le (up_to j k l))
  where
    at : (j ≡ k) ⊎ (j < k) → test j ≡ false
    at (inl i) = ap test i ∙ e
    at (inr m) = others j m
