-- When two texts are equal.
use Rattle.std.proofs.Common.{◌≡◌, refl, sym, ℕ, true, List, bytes_eq, false, ◌≢◌}
use Rattle.std.proofs.lemmas.Slice.Eq.{bytes_eq-Decides}
use Rattle.std.proofs.lemmas.Bool.Decides.{same_from_decides}
use Rattle.std.proofs.lemmas.Bool.{false_from_ne_true}

-- texts that pass the test of equality are equal
pub bytes_same : (a b : List ℕ) → bytes_eq a b ≡ true → a ≡ b
bytes_same a b e = (bytes_eq-Decides a b).0 e

-- a text passes the test of equality with itself
pub bytes_refl : (a : List ℕ) → bytes_eq a a ≡ true
bytes_refl a = (bytes_eq-Decides a a).1 refl

-- the test of equality of two texts doesn't hang on their order
pub bytes_swap : (a b : List ℕ) → bytes_eq a b ≡ bytes_eq b a
bytes_swap a b =
    let there = bytes_eq-Decides a b in
    let back = bytes_eq-Decides b a in
    same_from_decides _ _ there (λ e. sym (back.0 e), λ e. back.1 (sym e))

-- equal texts pass the test of equality
pub same_bytes : (a b : List ℕ) → a ≡ b → bytes_eq a b ≡ true
same_bytes a b e = (bytes_eq-Decides a b).1 e

-- texts that differ fail the test of equality
pub bytes_differ : (a b : List ℕ) → a ≢ b → bytes_eq a b ≡ false
bytes_differ a b d = false_from_ne_true (bytes_eq a b) (λ e. d (bytes_same a b e))
