-- Netlists in which no net and no array has more than so many bits.
use Rattle.std.proofs.Common.{◌≡◌, refl, Bool, true, false, if◌then◌else◌, sym, subst, ℕ, zero, suc, ◌<◌, ◌≤◌, List, [], ◌∷◌, length, get_or, filter_map, All, arith}
use Rattle.std.specs.List.{cons_option}
use Rattle.pdl_word.specs.Words.{widest}
use Rattle.pdl_net.specs.declared.Net.{Net}
use Rattle.pdl_net.specs.declared.Net.TheVariants.{Input, Reg as RegNet, Cell as CellNet}
use Rattle.pdl_net.specs.declared.Dir.{Dir}
use Rattle.pdl_net.specs.declared.Dir.TheVariants.{In, Out}
use Rattle.pdl_net.specs.declared.Port.{Port}
use Rattle.pdl_net.specs.declared.Reg.{Reg}
use Rattle.pdl_net.specs.declared.Array.{Array}
use Rattle.pdl_net.specs.declared.Netlist.{Netlist}
use Rattle.pdl_net.specs.Circuit.{Circuit, circuit_of, input_with, port_input, no_reg, no_array}
use Rattle.pdl_net.specs.Meaning.{signal, IsThereAt}
use Rattle.pdl_net.specs.Well.{IsWell}
use Rattle.pdl_net.specs.Width.{HasWidths}
use Rattle.pdl_net.proofs.Bounds.{input_well}
use Rattle.pdl_net.proofs.Widths.{cells_well}
use Rattle.pdl_netrun.specs.Held.{AreWithin}

input_step : (d : Dir) (w n : ℕ) (ws : List ℕ) → w ≤ n → ((i : ℕ) → i < length ws → get_or ws i 0 ≤ n)
    → (i : ℕ) → i < length (cons_option (input_with d w) ws) → get_or (cons_option (input_with d w) ws) i 0 ≤ n
input_step In w n ws h f zero l = h
input_step In w n ws h f (suc i) l = f i (omega arith)
input_step (Out x) w n ws h f i l = f i l

inputs_within : (n : ℕ) (ps : List Port) → All (λ p. p.width ≤ n) ps
    → (i : ℕ) → i < length (filter_map port_input ps) → get_or (filter_map port_input ps) i 0 ≤ n
inputs_within n [] f i h = absurd (omega arith)
inputs_within n (p ∷ ps) f i h =
    input_step p.dir p.width n (filter_map port_input ps) (f zero p (omega arith)) (inputs_within n ps (λ k q l. f (suc k) q (omega arith))) i h

-- where no port, register, cell or array has more than so many bits, no net has
pub narrow : (bits : ℕ) (n : Netlist) (widths : List ℕ) → HasWidths (circuit_of n) widths → length widths ≡ length n.cells
    → All (λ w. w ≤ bits) widths → All (λ (p : Port). p.width ≤ bits) n.ports → All (λ (r : Reg). r.width ≤ bits) n.regs
    → All (λ (a : Array). a.width ≤ bits) n.arrays → AreWithin bits (circuit_of n)
narrow bits n widths h e f g r a = record {
  inputs = inputs_within bits n.ports g;
  regs = λ k l. r k no_reg l;
  cells = λ k l. subst (λ x. x ≤ bits) (h.each k (omega (arith, e, l))) (f k 0 (omega (arith, e, l)));
  arrays = λ k l. a k no_array l;
}

-- no net of a well formed circuit has more bits than the widest word
pub within_widest : (c : Circuit) → IsWell c → AreWithin widest c
within_widest c w = record {
  inputs = λ i l. (input_well c w i l).high;
  regs = λ r l. (w.regs r l).high;
  cells = λ k l. ((cells_well c w).widths k l).high;
  arrays = λ m l. (w.arrays m l).high;
}

-- the width of a net that is there
pub width_within : (bits : ℕ) (c : Circuit) → AreWithin bits c → (x : Net) → IsThereAt c (length c.cells) x → (signal c x).width ≤ bits
unfolding signal
width_within bits c h (Input i) l = h.inputs i l
width_within bits c h (RegNet r) l = h.regs r l
width_within bits c h (CellNet k) l = h.cells k l

-- nor has one more than so many bits as are held
pub within_bits : (b : Bool) (c : Circuit) (bits : ℕ) → IsWell c → (b ≡ true → AreWithin 64 c) → bits ≡ (if b then 64 else widest) → AreWithin bits c
within_bits true c bits w f e = subst (λ (n : ℕ). AreWithin n c) (sym e) (f refl)
within_bits false c bits w f e = subst (λ (n : ℕ). AreWithin n c) (sym e) (within_widest c w)
