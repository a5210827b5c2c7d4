-- When two guards are the same.
use Rattle.std.proofs.Common.{◌≡◌, refl, ap, true, eq-eqb}
use Rattle.std.proofs.lemmas.Bool.{eqb-true, false≢true}
use Rattle.pdl_semantics.proofs.Bytes.{bytes_same, bytes_refl}
use Rattle.pdl_rules.specs.Places.{Guard, Shared, Own, same_guard}

-- each guard is the same as itself
pub guard_refl : (g : Guard) → same_guard g g ≡ true
guard_refl (Shared x) = bytes_refl x
guard_refl (Own n) = eq-eqb n n refl

-- two guards of which the test says that they are the same are equal
pub guard_same : (g h : Guard) → same_guard g h ≡ true → g ≡ h
guard_same (Shared x) (Shared y) e = ap Shared (bytes_same x y e)
guard_same (Own m) (Own n) e = ap Own (eqb-true m n e)
guard_same (Shared x) (Own n) e = absurd (false≢true e)
guard_same (Own m) (Shared y) e = absurd (false≢true e)
