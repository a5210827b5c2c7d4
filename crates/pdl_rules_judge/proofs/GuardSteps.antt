-- Guards, with one place more.
use Rattle.std.proofs.Common.{◌≡◌, refl, sym, ap, ◌∙◌, ℕ, suc, ◌+◌, Bool, true, false, ◌&&◌, ◌||◌, ◌==◌, not, nat_le, List, [], ◌∷◌, take, length, slice_get, Option, Some, None, if◌then◌else◌, arith}
use Rattle.std.proofs.lemmas.Bool.Decides.{leb_tells}
use Rattle.std.proofs.lemmas.List.Sums.{fold_push}
use Rattle.pdl_semantics.specs.Tree.{If}
use Rattle.pdl_rules.specs.Places.{Place, Statement, Guard, same_guard, is_among, with_guard, guards}
use Rattle.pdl_rules.specs.Limits.{breaks_z6}
use Rattle.pdl_paths.specs.Masks.{number_of}
use Rattle.pdl_rules_on_texts.specs.NotedLine.{noted_line}
use Rattle.pdl_rules_judge.specs.Over.{adds_guard}
use Rattle.pdl_rules_on_paths.proofs.Nth.{take_next}

-- a place breaks Z6 just where it adds a guard and there are ten before it
pub z6_parts : (before : List Place) (y : Place) → (adds_guard (guards before) y && (length (guards before) == 10)) ≡ breaks_z6 before y
z6_parts before (Statement (If s c a b) bs) = refl
z6_parts before _ = refl

-- the guards of the first k places, with the next place's, are those of the first k + 1
pub guards_next : (xs : List Place) (k : ℕ) (y : Place) (gs hs : List Guard)
    → slice_get xs k ≡ Some y → hs ≡ with_guard gs y → gs ≡ guards (take k xs) → hs ≡ guards (take (k + 1) xs)
guards_next xs k y gs hs got made h = made ∙ ap (λ g. with_guard g y) h ∙ sym (fold_push with_guard [] (take k xs) y) ∙ ap guards (take_next xs k y got)

-- once a line is known, later places don't matter
pub noted_if : (first : Option ℕ) (a b : Bool) (line : ℕ) → (first ≡ None → a ≡ b) → noted_line first a line ≡ noted_line first b line
noted_if (Some f) a b line h = refl
noted_if None a b line h = ap (λ c. noted_line None c line) (h refl)

-- where no line is noted with one place more, none was noted before it
pub none_noted : (first new : Option ℕ) (b : Bool) (line : ℕ) → new ≡ noted_line first b line → new ≡ None → first ≡ None
none_noted (Some f) new b line e h = sym e ∙ h
none_noted None new b line e h = refl

-- a guard's number tells whether it is new
less_more : (m n : ℕ) → nat_le m n ≡ nat_le (suc m) (suc n)
less_more m n = grind (arith, leb_tells m n, leb_tells (suc m) (suc n))

none_less : (m : ℕ) → nat_le (suc m) 0 ≡ false
none_less m = grind (arith, leb_tells (suc m) 0)

-- a guard's number is past those of the known guards exactly if the guard is not one of them
pub is_new_number : (g : Guard) (gs : List Guard) → nat_le (length gs) (number_of g gs) ≡ not (is_among g gs)
is_new_number g [] = refl
is_new_number g (h ∷ gs) = at (same_guard g h) (is_new_number g gs)
  where
    at : (b : Bool) → nat_le (length gs) (number_of g gs) ≡ not (is_among g gs)
        → nat_le (suc (length gs)) (if b then 0 else suc (number_of g gs)) ≡ not (b || is_among g gs)
    at true e = none_less (length gs)
    at false e = sym (less_more (length gs) (number_of g gs)) ∙ e
