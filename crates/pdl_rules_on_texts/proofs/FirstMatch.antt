-- The first number that passes a test.
use Rattle.std.proofs.Common.{◌≡◌, ◌∙◌, ℕ, ◌+◌, ◌<◌, ◌≤◌, Bool, true, false, arith, ◌⊎◌}
use Rattle.pdl_rules_on_paths.specs.Lowest.{IsLowest}

-- a number below the end that passes a test, where no lower one does, is the lowest
pub found_at : (test : ℕ → Bool) (end k : ℕ) → k < end → test k ≡ true → ((j : ℕ) → j < k → test j ≡ false) → IsLowest test end k
found_at test end k l e others = record { within = omega (arith, l); found = λ m. e; others = others }

-- where no number below the end passes a test, the end stands for the lowest
pub found_nowhere : (test : ℕ → Bool) (end k : ℕ) → end ≡ k → ((j : ℕ) → j < k → test j ≡ false) → IsLowest test end end
found_nowhere test end k e others = record { within = omega arith; found = λ m. absurd (omega arith); others = λ j l. others j (omega (arith, e, l)) }
