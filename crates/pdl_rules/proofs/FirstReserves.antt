-- Which location of a memory is reserved first for writing, after one place more.
use Rattle.std.proofs.Common.{◌≡◌, refl, ℕ, Bool, true, false, List, [], ◌∷◌, ◌++◌}
use Rattle.pdl_semantics.specs.Tree.{W}
use Rattle.pdl_rules.specs.Places.{Place}
use Rattle.pdl_rules.specs.Locks.{first_reserved, is_reserve_of}

-- it stays after a place that doesn't reserve the memory for writing
pub first_stays : (m : List ℕ) (before : List Place) (x : Place)
    → is_reserve_of W m x ≡ false → first_reserved m (before ++ x ∷ []) ≡ first_reserved m before
first_stays m [] x h = rw h refl
first_stays m (y ∷ before) x h = at (is_reserve_of W m y) refl (first_stays m before x h)
  where
    at : (b : Bool) → is_reserve_of W m y ≡ b → first_reserved m (before ++ x ∷ []) ≡ first_reserved m before
        → first_reserved m (y ∷ before ++ x ∷ []) ≡ first_reserved m (y ∷ before)
    at true e on = rw e refl
    at false e on = rw e on
