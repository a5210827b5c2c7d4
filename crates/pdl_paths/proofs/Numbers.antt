-- The number of a guard tells whether it is there.
use Rattle.std.proofs.Common.{◌≡◌, refl, suc, ◌<◌, ◌≤◌, Bool, true, false, ◌||◌, List, [], ◌∷◌, length, if◌then◌else◌, arith}
use Rattle.pdl_rules.specs.Places.{Guard, same_guard, is_among}
use Rattle.pdl_paths.specs.Masks.{number_of}

-- a guard whose number is below the number of guards is one of them
pub there : (g : Guard) (gs : List Guard) → number_of g gs < length gs → is_among g gs ≡ true
there g [] l = absurd (omega arith)
there g (h ∷ gs) l = at (same_guard g h) l (there g gs)
  where
    at : (b : Bool) → (if b then 0 else suc (number_of g gs)) < suc (length gs)
        → (number_of g gs < length gs → is_among g gs ≡ true) → (b || is_among g gs) ≡ true
    at true m go = refl
    at false m go = go (omega arith)

-- a guard whose number is not below the number of guards is none of them
pub missing : (g : Guard) (gs : List Guard) → length gs ≤ number_of g gs → is_among g gs ≡ false
missing g [] l = refl
missing g (h ∷ gs) l = at (same_guard g h) l (missing g gs)
  where
    at : (b : Bool) → suc (length gs) ≤ (if b then 0 else suc (number_of g gs))
        → (length gs ≤ number_of g gs → is_among g gs ≡ false) → (b || is_among g gs) ≡ false
    at true m go = absurd (omega arith)
    at false m go = go (omega arith)
