-- A path without bits that no guard has.
use Rattle.std.proofs.Common.{◌≡◌, refl, sym, ap, ap₂, ◌∙◌, subst, ℕ, suc, ◌+◌, ◌-◌, ◌*◌, ◌/◌, ◌%◌, ◌<◌, ◌^◌, ◌==◌, List, [], ◌∷◌, length, if◌then◌else◌, bit_and, arith}
use Rattle.std.proofs.lemmas.Nat.{and_mask, mod-pow-add, mod_below, pow_pos}
use Rattle.pdl_rules.specs.Places.{Guard}
use Rattle.pdl_paths.specs.Masks.{path_of}
use Rattle.pdl_rules_stages.specs.PathBits.{IsPath}

same_low : (gs : List Guard) (bits : ℕ) → path_of gs (bits % 2 ^ length gs) ≡ path_of gs bits
same_low [] bits = refl
same_low (g ∷ gs) bits =
    let halves : bits % 2 ^ (length gs + 1) ≡ (bits / 2 % 2 ^ length gs) * 2 + bits % 2 = mod-pow-add bits (length gs) 1 in
    let one : suc (length gs) ≡ length gs + 1 = omega arith in
    let whole : bits % 2 ^ suc (length gs) ≡ (bits / 2 % 2 ^ length gs) * 2 + bits % 2 = ap (λ n. bits % 2 ^ n) one ∙ halves in
    let low : bits % 2 ^ suc (length gs) % 2 ≡ bits % 2 = omega (arith, whole) in
    let half : bits % 2 ^ suc (length gs) / 2 ≡ bits / 2 % 2 ^ length gs = omega (arith, whole) in
    ap₂ (λ r path. if r == 1 then g ∷ path else path) low (ap (path_of gs) half ∙ same_low gs (bits / 2))

positive : (n : ℕ) → 0 < 2 ^ n
positive n = pow_pos n

-- bits, without those that no guard has, stand for the path of all these bits
pub among_path : (gs : List Guard) (bits all : ℕ) → all ≡ 2 ^ length gs - 1 → IsPath gs (path_of gs bits) (bit_and bits all)
among_path gs bits all e =
    let low : bit_and bits all ≡ bits % 2 ^ length gs = ap (bit_and bits) e ∙ and_mask bits (length gs) in
    record {
      within = subst (λ n. n < 2 ^ length gs) (sym low) (mod_below bits (2 ^ length gs) (positive (length gs)));
      same = sym (ap (path_of gs) low ∙ same_low gs bits);
    }
