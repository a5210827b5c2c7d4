-- One address more of a range.
use Rattle.std.proofs.Common.{◌≡◌, refl, ℕ, suc, ◌+◌, ◌-◌, ◌≤◌, arith, ◌||◌, List, Option, Some, is_some, set}
use Rattle.pdl_image.specs.Images.{is_any_given}
use Rattle.pdl_image.specs.Slots.{filled}

-- up to an address and at it, some address has a value where one up to it has, or it has itself
pub any_more : (f : ℕ → Option ℕ) (from a : ℕ) → from ≤ a
    → is_any_given f from (a + 1 - from) ≡ (is_any_given f from (a - from) || is_some (f a))
any_more f from a h =
    let e : a + 1 - from ≡ suc (a - from) = omega (arith, h) in
    let g : from + (a - from) ≡ a = omega (arith, h) in
    rw (e, g) refl

-- slots that are filled up to an address and at it are those that are filled up to it, with this one set
pub filled_more : (xs : List (Option ℕ)) (from a v : ℕ) → from ≤ a
    → filled xs from (a + 1 - from) v ≡ set (filled xs from (a - from) v) a (Some v)
filled_more xs from a v h =
    let e : a + 1 - from ≡ suc (a - from) = omega (arith, h) in
    let g : from + (a - from) ≡ a = omega (arith, h) in
    rw (e, g) refl
