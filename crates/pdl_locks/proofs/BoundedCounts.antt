-- Counts up to a most, and tests of them.
use Rattle.std.proofs.Common.{◌≡◌, refl, sym, ap, ◌∙◌, ℕ, ◌≤◌, min, nat_le, Bool, true, false, List, count_by, if◌then◌else◌, arith}
use Rattle.std.specs.List.{list_any}
use Rattle.std.specs.Cmp.{both_ways}
use Rattle.std.proofs.lemmas.Bool.{le-leb, leb-true}
use Rattle.pdl_rules.specs.Places.{Place}
use Rattle.pdl_rules.proofs.Counts.{counted, count_none}

-- a count up to a most of four is at least four where the whole count is
pub up_to_four : (n count : ℕ) → n ≡ min 4 count → nat_le 4 n ≡ nat_le 4 count
up_to_four n count e =
    both_ways _ _ (λ h. le-leb 4 count (let l : 4 ≤ n = leb-true 4 n h in omega arith))
    (λ h. le-leb 4 n (let l : 4 ≤ count = leb-true 4 count h in omega arith))

-- one of the places passes where at least 1 of them is counted as passing
pub any_counted : (f : Place → Bool) (xs : List Place) → list_any f xs ≡ nat_le 1 (count_by f xs)
any_counted f xs = at (list_any f xs) refl
  where
    at : (b : Bool) → list_any f xs ≡ b → b ≡ nat_le 1 (count_by f xs)
    at true e = sym (le-leb 1 (count_by f xs) (counted f xs e))
    at false e = sym (ap (nat_le 1) (count_none f xs e))

-- a count up to a most of two is at least one or two where the whole count is
pub up_to_most : (b : Bool) (n count : ℕ) → n ≡ min 2 count → nat_le (if b then 1 else 2) n ≡ nat_le (if b then 1 else 2) count
up_to_most true n count e =
    both_ways _ _ (λ h. le-leb 1 count (let l : 1 ≤ n = leb-true 1 n h in omega arith))
    (λ h. le-leb 1 n (let l : 1 ≤ count = leb-true 1 count h in omega arith))
up_to_most false n count e =
    both_ways _ _ (λ h. le-leb 2 count (let l : 2 ≤ n = leb-true 2 n h in omega arith))
    (λ h. le-leb 2 n (let l : 2 ≤ count = leb-true 2 count h in omega arith))

-- a count up to a most of two is at least one where some place passes
pub some_counted : (f : Place → Bool) (xs : List Place) (n : ℕ) → n ≡ min 2 (count_by f xs) → nat_le 1 n ≡ list_any f xs
some_counted f xs n e = up_to_most true n (count_by f xs) e ∙ sym (any_counted f xs)
