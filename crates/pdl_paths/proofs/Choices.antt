-- The choices of some guards are the paths of all bits.
use Rattle.std.proofs.Common.{◌≡◌, refl, sym, ap, ap₂, ◌∙◌, ℕ, suc, ◌+◌, ◌*◌, ◌/◌, ◌%◌, ◌<◌, ◌^◌, Bool, true, false, ◌||◌, ◌==◌, List, [], ◌∷◌, map, length, if◌then◌else◌, arith, ⊎_elim}
use Rattle.std.proofs.lemmas.Grind.{pow_more}
use Rattle.std.proofs.lemmas.Bool.{false≢true, or_cases, or_left, or_right}
use Rattle.std.proofs.lemmas.List.Folds.{list_any-append}
use Rattle.std.specs.List.{list_any}
use Rattle.pdl_rules.specs.Places.{Guard, choices}
use Rattle.pdl_paths.specs.Masks.{path_of}

mapped : (t : List Guard → Bool) (g : Guard) (cs : List (List Guard)) → list_any t (map (λ c. g ∷ c) cs) ≡ list_any (λ c. t (g ∷ c)) cs
mapped t g [] = refl
mapped t g (c ∷ cs) = ap (λ b. t (g ∷ c) || b) (mapped t g cs)

-- each path of bits is a choice
pub some_path : (t : List Guard → Bool) (gs : List Guard) (bits : ℕ) → t (path_of gs bits) ≡ true → list_any t (choices gs) ≡ true
some_path t [] bits e = or_left (t []) false e
some_path t (g ∷ gs) bits e =
    list_any-append t (choices gs) (map (λ c. g ∷ c) (choices gs)) ∙ at (bits % 2 == 1) e (λ other k. some_path other gs (bits / 2) k)
  where
    at : (b : Bool) → t (if b then g ∷ path_of gs (bits / 2) else path_of gs (bits / 2)) ≡ true
        → ((other : List Guard → Bool) → other (path_of gs (bits / 2)) ≡ true → list_any other (choices gs) ≡ true)
        → (list_any t (choices gs) || list_any t (map (λ c. g ∷ c) (choices gs))) ≡ true
    at true k go = or_right _ _ (mapped t g (choices gs) ∙ go (λ c. t (g ∷ c)) k)
    at false k go = or_left _ _ (go t k)

-- the bits of a path that passes a test
pub record HasBits (t : List Guard → Bool) (gs : List Guard) : Type 0 where
  pub bits : ℕ
  pub below : bits < 2 ^ length gs
  pub passes : t (path_of gs bits) ≡ true

doubled : (b n : ℕ) → b < 2 ^ n → b * 2 + 1 < 2 ^ suc n
doubled b n l =
    let more : 2 ^ (n + 1) ≡ 2 ^ n * 2 = pow_more 2 n in
    let same : suc n ≡ n + 1 = omega arith in
    rw (same, more) (twice b (2 ^ n) l)
  where
    twice : (c m : ℕ) → c < m → c * 2 + 1 < m * 2
    twice c m k = omega arith

even : (t : List Guard → Bool) (g : Guard) (gs : List Guard) → HasBits t gs → HasBits t (g ∷ gs)
even t g gs h =
    let b = h.bits in
    let twice = doubled b (length gs) h.below in
    let last : b * 2 % 2 ≡ 0 = omega arith in
    let others : b * 2 / 2 ≡ b = omega arith in
    record {
      bits = b * 2;
      below = omega arith;
      passes = ap₂ (λ m k. t (if m == 1 then g ∷ path_of gs k else path_of gs k)) last others ∙ h.passes;
    }

odd : (t : List Guard → Bool) (g : Guard) (gs : List Guard) → HasBits (λ c. t (g ∷ c)) gs → HasBits t (g ∷ gs)
odd t g gs h =
    let b = h.bits in
    let last : (b * 2 + 1) % 2 ≡ 1 = omega arith in
    let others : (b * 2 + 1) / 2 ≡ b = omega arith in
    record {
      bits = b * 2 + 1;
      below = doubled b (length gs) h.below;
      passes = ap₂ (λ m k. t (if m == 1 then g ∷ path_of gs k else path_of gs k)) last others ∙ h.passes;
    }

-- each choice is a path of bits
pub has_bits : (t : List Guard → Bool) (gs : List Guard) → list_any t (choices gs) ≡ true → HasBits t gs
has_bits t [] e = record { bits = 0; below = omega arith; passes = ⊎_elim (λ a. a) (λ b. absurd (false≢true b)) (or_cases (t []) false e) }
has_bits t (g ∷ gs) e =
    ⊎_elim (λ a. even t g gs (has_bits t gs a)) (λ b. odd t g gs (has_bits (λ c. t (g ∷ c)) gs (sym (mapped t g (choices gs)) ∙ b)))
    (or_cases (list_any t (choices gs)) (list_any t (map (λ c. g ∷ c) (choices gs))) (sym (list_any-append t (choices gs) (map (λ c. g ∷ c) (choices gs))) ∙ e))
