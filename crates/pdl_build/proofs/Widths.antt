-- The widths of nets, and which are below, as the builder keeps that beside its circuit.
use Rattle.std.proofs.Common.{◌≡◌, ℕ, true, zero, ◌+◌, ◌-◌, ◌^◌, ◌<◌, List, [], map, length, get_or, refl, sym, ap, ◌∙◌, subst, arith, replicate}
use Rattle.std.specs.Prelude.{slice_index, slice_index_or}
use Rattle.std.proofs.lemmas.List.{get_or-map, length-map, length-replicate}
use Rattle.std.proofs.lemmas.Nat.{pow_pos}
use Rattle.pdl_net.specs.declared.Net.{Net}
use Rattle.pdl_net.specs.declared.Net.TheVariants.{Input, Reg as RegNet, Cell as CellNet}
use Rattle.pdl_net.specs.declared.Reg.{Reg}
use Rattle.pdl_net.specs.declared.Array.{Array}
use Rattle.pdl_net.specs.declared.Cell.{Cell}
use Rattle.pdl_net.specs.declared.Cell.TheVariants.{Slice}
use Rattle.pdl_net.specs.Circuit.{Circuit, State, inputs_of, reg_at, array_at, no_reg, no_array}
use Rattle.pdl_net.specs.Meaning.{IsThere, signal}
use Rattle.pdl_net.specs.Well.{Fits, IsWell, IsWidth, Suits}
use Rattle.pdl_net.proofs.Bounds.{bounded}
use Rattle.pdl_build.specs.declared.Extent.{Extent}
use Rattle.pdl_build.specs.Rules.{IsBelow}
use Rattle.pdl_build.specs.Parts.{HaveExtents, extent_in}
use Rattle.pdl_net.proofs.Widths.{there_reg}
use Rattle.pdl_word.proofs.Lists.{zeros_at}

-- `c` is the circuit of the fields, `v` the same as callers see it, and `x` is the net that is asked for
there_as : (c v : Circuit) (x y : Net) → c ≡ v → x ≡ y → IsThere v x → IsThere c y
there_as c v x y e f t = subst (λ z. IsThere c z) f (subst (λ d. IsThere d x) (sym e) t)

width_as : (c v : Circuit) (x y : Net) → c ≡ v → x ≡ y → (signal c y).width ≡ (signal v x).width
width_as c v x y e f = cc (e, f)

input_below : (c : Circuit) (ins : List ℕ) (ns : List Extent) (i : ℕ) → HaveExtents c ins ns → IsThere c (Input i) → i < length ins
unfolding IsThere
input_below c ins ns i h t = let n = ap length h.inputs in omega (arith, n)

input_width : (c : Circuit) (ins : List ℕ) (ns : List Extent) (i : ℕ) → HaveExtents c ins ns → get_or ins i 0 ≡ (signal c (Input i)).width
unfolding signal
input_width c ins ns i h = ap (λ l. get_or l i 0) h.inputs

reg_width : (c : Circuit) (r : ℕ) → (reg_at c r).width ≡ (signal c (RegNet r)).width
unfolding signal
reg_width c r = refl

cell_placed : (c : Circuit) (ins : List ℕ) (ns : List Extent) (k : ℕ) → HaveExtents c ins ns → IsThere c (CellNet k) → k < length ns
unfolding IsThere
cell_placed c ins ns k h t = omega (arith, h.count)

cell_width : (c : Circuit) (ins : List ℕ) (ns : List Extent) (k : ℕ) → HaveExtents c ins ns → IsThere c (CellNet k)
    → (extent_in ns k).width ≡ (signal c (CellNet k)).width
unfolding IsThere
cell_width c ins ns k h t = (h.cells k t).width

-- the number of an input that is there is below the count of the widths that are kept
pub input_in : (c v : Circuit) (ins : List ℕ) (ns : List Extent) (x : Net) (i : ℕ) → HaveExtents c ins ns
    → c ≡ v → x ≡ Input i → IsThere v x → i < length ins
input_in c v ins ns x i h e f t = input_below c ins ns i h (there_as c v x (Input i) e f t)

-- the number of a register whose net is there is below the count of registers
pub reg_in : (c v : Circuit) (x : Net) (r : ℕ) → c ≡ v → x ≡ RegNet r → IsThere v x → r < length c.regs
reg_in c v x r e f t = there_reg c r (there_as c v x (RegNet r) e f t)

-- the number of a cell that is there is below the count of cells of which something is kept
pub cell_in : (c v : Circuit) (ins : List ℕ) (ns : List Extent) (x : Net) (k : ℕ) → HaveExtents c ins ns
    → c ≡ v → x ≡ CellNet k → IsThere v x → k < length ns
cell_in c v ins ns x k h e f t = cell_placed c ins ns k h (there_as c v x (CellNet k) e f t)

-- the width that is kept of an input is that of its net
pub input_is : (c v : Circuit) (ins : List ℕ) (ns : List Extent) (x : Net) (i : ℕ) → HaveExtents c ins ns
    → c ≡ v → x ≡ Input i → get_or ins i 0 ≡ (signal v x).width
input_is c v ins ns x i h e f = input_width c ins ns i h ∙ width_as c v x (Input i) e f

-- the width of a register is that of its net
pub reg_is : (c v : Circuit) (x : Net) (r : ℕ) → c ≡ v → x ≡ RegNet r → (reg_at c r).width ≡ (signal v x).width
reg_is c v x r e f = reg_width c r ∙ width_as c v x (RegNet r) e f

-- the width that is kept of a cell is that of its net
pub cell_is : (c v : Circuit) (ins : List ℕ) (ns : List Extent) (x : Net) (k : ℕ) → HaveExtents c ins ns
    → c ≡ v → x ≡ CellNet k → IsThere v x → (extent_in ns k).width ≡ (signal v x).width
cell_is c v ins ns x k h e f t = cell_width c ins ns k h (there_as c v x (CellNet k) e f t) ∙ width_as c v x (CellNet k) e f

-- a cell of which it is kept that it is below is below
pub cell_below : (c v : Circuit) (ins : List ℕ) (ns : List Extent) (x : Net) (k : ℕ) → HaveExtents c ins ns
    → c ≡ v → x ≡ CellNet k → IsThere v x → (extent_in ns k).is_below ≡ true → IsBelow (signal v x)
unfolding IsThere
cell_below c v ins ns x k h e f t b =
    let s : signal c (CellNet k) ≡ signal v x = cc (e, f) in
    subst IsBelow s ((h.cells k (there_as c v x (CellNet k) e f t)).below b)

-- a state in which all is 0
abbrev pub nothing : Circuit → State
nothing c =
    record { inputs = map (λ (w : ℕ). zero) (inputs_of c); regs = map (λ (r : Reg). zero) c.regs; arrays = map (λ (a : Array). replicate a.depth 0) c.arrays }

zero_fits : (v w : ℕ) → v ≡ 0 → v < 2 ^ w
zero_fits v w e = omega (arith, e, pow_pos w)

-- the state in which all is 0 suits a circuit
pub nothing_suits : (c : Circuit) → Suits c (nothing c)
nothing_suits c =
    let at = λ (m : ℕ) (h : m < length c.arrays). get_or-map (λ (a : Array). replicate a.depth 0) c.arrays m no_array [] h in
    record {
      input_count = length-map (inputs_of c) (λ (w : ℕ). zero);
      inputs = λ i h. zero_fits (slice_index (nothing c).inputs i) (slice_index (inputs_of c) i) (get_or-map (λ (w : ℕ). zero) (inputs_of c) i 0 0 h);
      reg_count = length-map c.regs (λ (r : Reg). zero);
      regs = λ r h. zero_fits (slice_index (nothing c).regs r) (reg_at c r).width (get_or-map (λ (g : Reg). zero) c.regs r no_reg 0 h);
      array_count = length-map c.arrays (λ (a : Array). replicate a.depth 0);
      depth = λ m h. ap length (at m h) ∙ length-replicate {A = ℕ} (array_at c m).depth 0;
      words =
          λ m h a. zero_fits (slice_index (slice_index_or (nothing c).arrays m []) a)
          (array_at c m).width (ap (λ l. get_or l a 0) (at m h) ∙ zeros_at (array_at c m).depth a);
    }

-- each net has 1 to widest bits
pub wide : (c : Circuit) → IsWell c → (x : Net) → IsThere c x → IsWidth (signal c x).width
wide c w x t = let b = bounded c (nothing c) w (nothing_suits c) x t in record { low = b.low; high = b.high }

-- a slice that fits a well formed circuit has fewer than 256 bits
pub slice_fits : (c v : Circuit) (g : Cell) (a : Net) (high low : ℕ) → IsWell c
    → c ≡ v → g ≡ Slice a high low → Fits v g → high - low + 1 < 256
slice_fits c v g a high low w e f t =
    let r : Fits c (Slice a high low) = subst (λ y. Fits c y) f (subst (λ d. Fits d g) (sym e) t) in
    let b = wide c w a r.0 in
    omega (arith, b.high, r.2)
