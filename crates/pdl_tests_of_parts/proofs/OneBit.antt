-- Nets of 1 bit that drive the circuits beside the stages.
use Rattle.std.proofs.Common.{◌≡◌, ℕ, ◌+◌, ◌<◌, ◌≤◌, List, [], ◌∷◌, ◌++◌, length, refl, sym, subst, ◌∙◌, arith, ⊎_elim, length-append}
use Rattle.std.proofs.lemmas.Bool.{cases_lt}
use Rattle.std.proofs.lemmas.List.{get_or_push, get_or_append_left}
use Rattle.pdl_net.specs.declared.Net.{Net}
use Rattle.pdl_net.specs.declared.Net.TheVariants.{Input}
use Rattle.pdl_net.specs.Circuit.{Circuit}
use Rattle.pdl_net.specs.HasWidth.{HasWidth}
use Rattle.pdl_net.specs.Growth.{Extends}
use Rattle.pdl_port.specs.Laws.{HasBits, net_at}
use Rattle.pdl_net.proofs.Keeps.{extends_keeps}
use Rattle.pdl_port.specs.declared.PortRegs.{PortRegs}
use Rattle.pdl_port.specs.Places.{ArePlaced}
use Rattle.pdl_port.proofs.PortGrowth.{bits_kept, port_keeps}
use Rattle.pdl_squash.specs.Laws.{AreBits}

-- no nets are 0 nets of 1 bit
pub bits_none : (c : Circuit) → HasBits c [] 0
bits_none c = record { count = refl; each = λ k h. absurd (omega arith) }

-- what holds of each net of a list and of one more
upto : (P : Net → Type 0) (nets : List Net) (x : Net) (n : ℕ)
    → length nets ≡ n → P x → ((k : ℕ) → k < n → P (net_at nets k)) → (k : ℕ) → k < n + 1
    → P (net_at (nets ++ x ∷ []) k)
upto P nets x n e last rest k l =
    ⊎_elim
    (λ (i : k < n). subst P (sym (get_or_append_left nets (x ∷ []) (Input 0) k (omega (arith, e, i)))) (rest k i))
    (λ (i : n ≤ k). let j : n ≡ k = omega arith in let Q : ℕ → Type 0 = λ m. P (net_at (nets ++ x ∷ []) m) in
    subst Q j (subst P (sym (get_or_push nets x (Input 0) n e)) last))
    (cases_lt k n)

-- with one net of 1 bit more, n nets are n + 1
pub bits_more : (a b : Circuit) (nets : List Net) (x : Net) (n : ℕ) → HasBits a nets n → Extends a b → HasWidth b x 1
    → HasBits b (nets ++ x ∷ []) (n + 1)
bits_more a b nets x n h e w =
    let g = bits_kept a b nets n h e in
    record {
      count = length-append nets (x ∷ []) ∙ omega (arith, h.count);
      each = upto (λ y. HasWidth b y 1) nets x n h.count w g.each;
    }

-- n nets of 1 bit are as many such nets as a squash goes by
pub squash_bits : (c : Circuit) (nets : List Net) (n : ℕ) → HasBits c nets n → AreBits c nets (length nets)
squash_bits c nets n h = record {
  count = refl;
  each = λ k l. h.each k (omega (arith, h.count, l));
}

-- n nets of 1 bit are m such nets where m is n
pub bits_as : (c : Circuit) (nets : List Net) (m n : ℕ) → HasBits c nets n → m ≡ n → HasBits c nets m
bits_as c nets m n h e = let P : ℕ → Type 0 = λ k. HasBits c nets k in subst P (sym e) h

-- a port in a circuit with more
pub port_kept : (a b : Circuit) (r : PortRegs) → ArePlaced a r → Extends a b → ArePlaced b r
port_kept a b r h e = port_keeps a b r (extends_keeps a b e) h
