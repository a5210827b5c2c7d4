-- All paths of some guards are the choices of the rules.
use Rattle.std.proofs.Common.{◌≡◌, sym, ap, ◌∙◌, ℕ, zero, suc, ◌<◌, ◌≤◌, ◌^◌, Bool, true, ◌||◌, List, length, arith, ◌⊎◌, inl, inr, ⊎_elim}
use Rattle.std.proofs.Math.Nat.{eq-or-lt_of_le}
use Rattle.std.specs.List.{list_any}
use Rattle.std.proofs.lemmas.Bool.{false≢true, or_cases, or_left, or_right}
use Rattle.pdl_rules.specs.Places.{Guard, choices}
use Rattle.pdl_paths.specs.Masks.{path_of}
use Rattle.pdl_paths.specs.Paths.{paths_below}
use Rattle.pdl_paths.proofs.Choices.{some_path, has_bits}
use Rattle.pdl_word.proofs.Bools.{same_bools}

less : (b n : ℕ) → b < suc n → b ≤ n
less b n l = omega arith

below : (test : ℕ → Bool) (n b : ℕ) → b < n → test b ≡ true → list_any (λ path. test path.bits) (paths_below n) ≡ true
below test zero b l e = absurd (omega arith)
below test (suc n) b l e = at (eq-or-lt_of_le (less b n l)) (λ m. below test n b m e)
  where
    at : (b ≡ n) ⊎ (b < n) → (b < n → list_any (λ path. test path.bits) (paths_below n) ≡ true)
        → (test n || list_any (λ path. test path.bits) (paths_below n)) ≡ true
    at (inr m) go = or_right _ _ (go m)
    at (inl i) go = or_left _ _ (sym (ap test i) ∙ e)

-- some path passes the test
pub record HasPath (test : ℕ → Bool) : Type 0 where
  pub bits : ℕ
  pub passes : test bits ≡ true

among : (test : ℕ → Bool) (n : ℕ) → list_any (λ path. test path.bits) (paths_below n) ≡ true → HasPath test
among test zero e = absurd (false≢true e)
among test (suc n) e =
    ⊎_elim (λ a. record { bits = n; passes = a }) (λ b. among test n b) (or_cases (test n) (list_any (λ path. test path.bits) (paths_below n)) e)

-- some path by bits passes a test just where some choice of the guards does
pub each_path : (test : List Guard → Bool) (gs : List Guard) (n : ℕ)
    → n ≡ 2 ^ length gs → list_any (λ path. test (path_of gs path.bits)) (paths_below n) ≡ list_any test (choices gs)
each_path test gs n e =
    same_bools _ _
    (λ h. let s = among (λ b. test (path_of gs b)) n h in some_path test gs s.bits s.passes)
    (λ h. let s = has_bits test gs h in below (λ b. test (path_of gs b)) n s.bits (rw e s.below) s.passes)
