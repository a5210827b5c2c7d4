-- The path of some bits: a guard is true on it where the bit of its number is 1.
use Rattle.std.proofs.Common.{◌≡◌, refl, sym, ap, ap₂, ◌∙◌, ℕ, suc, ◌+◌, ◌*◌, ◌/◌, ◌%◌, ◌<◌, ◌^◌, Bool, true, false, ◌||◌, not, ◌==◌, List, [], ◌∷◌, length, if◌then◌else◌, arith}
use Rattle.std.specs.Int.{bit_at}
use Rattle.std.proofs.lemmas.Nat.Bits.{bit_at_lowest, bit_at-suc, bit_at-zero}
use Rattle.std.proofs.lemmas.Grind.{pow_more}
use Rattle.std.proofs.lemmas.Bool.{and_parts, or_parts, or_left, not-true}
use Rattle.pdl_rules.specs.Places.{Guard, same_guard, is_among}
use Rattle.pdl_paths.specs.Masks.{number_of, are_distinct, path_of}
use Rattle.pdl_rules.proofs.Guards.{guard_same}

below_half : (b m : ℕ) → b < m * 2 → b / 2 < m
below_half b m l = omega arith

halved : (b n : ℕ) → b < 2 ^ suc n → b / 2 < 2 ^ n
halved b n l =
    let more : 2 ^ (n + 1) ≡ 2 ^ n * 2 = pow_more 2 n in
    let same : suc n ≡ n + 1 = omega arith in
    let bound : b < 2 ^ n * 2 = rw (sym more, sym same) l in
    below_half b (2 ^ n) bound

-- a guard that is none of some isn't on their paths
among_none : (g : Guard) (gs : List Guard) (bits : ℕ) → is_among g gs ≡ false → is_among g (path_of gs bits) ≡ false
among_none g [] bits e = refl
among_none g (h ∷ gs) bits e =
    let parts = or_parts (same_guard g h) (is_among g gs) e in
    pick (bits % 2 == 1) (path_of gs (bits / 2)) parts.0 (among_none g gs (bits / 2) parts.1)
  where
    pick : (b : Bool) (path : List Guard) → same_guard g h ≡ false → is_among g path ≡ false → is_among g (if b then h ∷ path else path) ≡ false
    pick true path f i = ap₂ (λ a c. a || c) f i
    pick false path f i = i

-- a guard is true on the path of some bits just where its bit is 1, if no guard stands twice
pub among_path : (g : Guard) (gs : List Guard) (bits : ℕ)
    → are_distinct gs ≡ true → bits < 2 ^ length gs → is_among g (path_of gs bits) ≡ (bit_at bits (number_of g gs) == 1)
among_path g [] bits d l =
    let none : bits ≡ 0 = omega arith in
    sym (ap (λ k. bit_at k 0 == 1) none ∙ ap (λ k. k == 1) (bit_at-zero 0))
among_path g (h ∷ gs) bits d l =
    let parts = and_parts (not (is_among h gs)) (are_distinct gs) d in
    at (same_guard g h) refl (not-true _ parts.0) (among_path g gs (bits / 2) parts.1 (halved bits (length gs) l))
  where
    first : (b : Bool) → same_guard g h ≡ true → is_among g gs ≡ false → is_among g (if b then h ∷ path_of gs (bits / 2) else path_of gs (bits / 2)) ≡ b
    first true f i = or_left (same_guard g h) _ f
    first false f i = among_none g gs (bits / 2) i

    rest : (b : Bool) → same_guard g h ≡ false
        → is_among g (if b then h ∷ path_of gs (bits / 2) else path_of gs (bits / 2)) ≡ is_among g (path_of gs (bits / 2))
    rest true f = ap (λ k. k || is_among g (path_of gs (bits / 2))) f
    rest false f = refl

    at : (b : Bool) → same_guard g h ≡ b → is_among h gs ≡ false → is_among g (path_of gs (bits / 2)) ≡ (bit_at (bits / 2) (number_of g gs) == 1)
        → is_among g (if bits % 2 == 1 then h ∷ path_of gs (bits / 2) else path_of gs (bits / 2)) ≡ (bit_at bits (if b then 0 else suc (number_of g gs)) == 1)
    at true f i k = first (bits % 2 == 1) f (ap (λ j. is_among j gs) (guard_same g h f) ∙ i) ∙ sym (ap (λ j. j == 1) (bit_at_lowest bits))
    at false f i k = rest (bits % 2 == 1) f ∙ k ∙ sym (ap (λ j. j == 1) (bit_at-suc bits (number_of g gs)))
