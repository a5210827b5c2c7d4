-- The text of a well formed netlist declares the widths and depths of its circuit.
use Rattle.std.proofs.Common.{◌≡◌, ℕ, zero, suc, ◌+◌, ◌-◌, ◌^◌, ◌<◌, ◌≤◌, cond, ltb, List, [], ◌∷◌, length, map, get_or, filter_map, Some, None, refl, sym, ap, ap₂, ◌∙◌, arith}
use Rattle.std.specs.List.{cons_option}
use Rattle.std.proofs.lemmas.Bool.{cond-true, lt-ltb}
use Rattle.std.proofs.lemmas.Nat.{pow_pos}
use Rattle.std.proofs.lemmas.List.{get_or-map}
use Rattle.pdl_net.specs.declared.Net.{Net}
use Rattle.pdl_net.specs.declared.Net.TheVariants.{Input, Reg as RegNet, Cell as CellNet}
use Rattle.pdl_net.specs.declared.Cell.{Cell}
use Rattle.pdl_net.specs.declared.Dir.{Dir}
use Rattle.pdl_net.specs.declared.Dir.TheVariants.{In, Out}
use Rattle.pdl_net.specs.declared.Port.{Port}
use Rattle.pdl_net.specs.declared.Reg.{Reg}
use Rattle.pdl_net.specs.declared.Array.{Array}
use Rattle.pdl_net.specs.declared.Netlist.{Netlist}
use Rattle.pdl_net.specs.Circuit.{Circuit, circuit_of, inputs_of, input_with, port_input, no_reg, no_array, array_at}
use Rattle.pdl_net.specs.Meaning.{signal, IsThere}
use Rattle.pdl_net.specs.Well.{IsWidth, IsDepth, IsWellPort, IsWellReg, IsWellArray, IsWell}
use Rattle.pdl_net.specs.Pipe.{is_input}
use Rattle.pdl_net.proofs.Widths.{there_reg, there_cell, width_of_input, width_of_reg, cells_well}
use Rattle.pdl_vread_text.specs.declared.file.PortDecl.{PortDecl}
use Rattle.pdl_vread_text.specs.declared.file.RegDecl.{RegDecl}
use Rattle.pdl_vread_text.specs.declared.file.ArrayDecl.{ArrayDecl}
use Rattle.pdl_vread_text.specs.declared.file.CellDecl.{CellDecl}
use Rattle.pdl_vlog.specs.Layout.{input_names, cell_width}
use Rattle.pdl_vread_rules.specs.declared.table.Widths.{Widths}
use Rattle.pdl_vread_rules.specs.Widths.{bits, input_width, widths_of, net_width}
use Rattle.pdl_verilog.specs.Declared.{Lines, declared, port_decl, reg_decls, array_decls, cell_decls}
use Rattle.pdl_verilog.proofs.Questions.{each_got, each_so}
use Rattle.pdl_word.specs.Each.{Each}
use Rattle.pdl_word.proofs.Each.{each_from_get}
use Rattle.pdl_word.specs.Words.{widest}

-- the range of a width tells that width
pub bits_back : (w : ℕ) → IsWidth w → bits (w - 1) ≡ w
bits_back w h =
    let l : 1 ≤ w = h.low in
    let m : w ≤ widest = h.high in
    let e : w - 1 + 1 ≡ w = omega arith in
    cond-true (ltb (w - 1) 254) (w - 1 + 1) 255 (lt-ltb (w - 1) 254 (omega arith)) ∙ e

-- a last address tells how many words there are
pub depth_back : (d : ℕ) → IsDepth d → d - 1 + 1 ≡ d
depth_back d h =
    let b = h.bits in
    let l = pow_pos b in
    let e : d ≡ 2 ^ b = h.power in
    omega arith

-- ---- lists of widths

port_widths : (line : ℕ) (ps : List Port) → Each (λ p. IsWidth p.width) ps
    → map (λ (p : PortDecl). bits p.high) (map (port_decl line) ps) ≡ map (λ (p : Port). p.width) ps
port_widths line [] h = refl
port_widths line (p ∷ ps) h = ap₂ (λ w ws. w ∷ ws) (bits_back p.width h.0) (port_widths line ps h.1)

input_of : (d : Dir) (v w : ℕ) → v ≡ w → cond (is_input d) (Some v) None ≡ input_with d w
input_of In v w e = ap Some e
input_of (Out x) v w e = refl

input_widths : (line : ℕ) (ps : List Port) → Each (λ p. IsWidth p.width) ps
    → filter_map input_width (map (port_decl line) ps) ≡ filter_map port_input ps
input_widths line [] h = refl
input_widths line (p ∷ ps) h = ap₂ cons_option (input_of p.dir (bits (p.width - 1)) p.width (bits_back p.width h.0)) (input_widths line ps h.1)

reg_widths : (at : ℕ → ℕ) (r : ℕ) (xs : List Reg) → Each (λ x. IsWidth x.width) xs
    → map (λ (d : RegDecl). bits d.high) (reg_decls at r xs) ≡ map (λ (x : Reg). x.width) xs
reg_widths at r [] h = refl
reg_widths at r (x ∷ xs) h = ap₂ (λ w ws. w ∷ ws) (bits_back x.width h.0) (reg_widths at (suc r) xs h.1)

-- an array's words have a width, and it has a depth
abbrev pub IsSized : Array → Type 0
IsSized a = IsWidth a.width × IsDepth a.depth

word_widths : (at : ℕ → ℕ) (m : ℕ) (xs : List Array) → Each IsSized xs
    → map (λ (a : ArrayDecl). bits a.high) (array_decls at m xs) ≡ map (λ (a : Array). a.width) xs
word_widths at m [] h = refl
word_widths at m (a ∷ xs) h = ap₂ (λ w ws. w ∷ ws) (bits_back a.width h.0.0) (word_widths at (suc m) xs h.1)

array_depths : (at : ℕ → ℕ) (m : ℕ) (xs : List Array) → Each IsSized xs
    → map (λ (a : ArrayDecl). a.last + 1) (array_decls at m xs) ≡ map (λ (a : Array). a.depth) xs
array_depths at m [] h = refl
array_depths at m (a ∷ xs) h = ap₂ (λ d ds. d ∷ ds) (depth_back a.depth h.0.1) (array_depths at (suc m) xs h.1)

cell_widths : (at : ℕ → ℕ) (inputs : List (List ℕ)) (arrays : List Array) (width : ℕ → ℕ) (k j i : ℕ) (gs : List Cell)
    → k + j ≡ i → j < length gs → IsWidth (width i)
    → get_or (map (λ (d : CellDecl). bits d.high) (cell_decls at inputs arrays width k gs)) j 0 ≡ width i
cell_widths at inputs arrays width k j i [] e l h = absurd (omega arith)
cell_widths at inputs arrays width k zero i (g ∷ gs) e l h = let s : k ≡ i = omega arith in ap (λ z. bits (width z - 1)) s ∙ bits_back (width i) h
cell_widths at inputs arrays width k (suc j) i (g ∷ gs) e l h = cell_widths at inputs arrays width (suc k) j i gs (omega arith) (omega arith) h

-- ---- the table

-- a table of the widths and depths of a circuit
pub record IsTable (c : Circuit) (t : Widths) : Type 0 where
  pub ports : t.ports ≡ map (λ p. p.width) c.ports
  pub inputs : t.inputs ≡ inputs_of c
  pub regs : t.regs ≡ map (λ r. r.width) c.regs
  pub words : t.words ≡ map (λ a. a.width) c.arrays
  pub depths : t.depths ≡ map (λ a. a.depth) c.arrays
  pub cells : (k : ℕ) → k < length c.cells → get_or t.cells k 0 ≡ (signal c (CellNet k)).width

-- a table of a circuit has the width of each net that is there
pub net_is : (c : Circuit) (t : Widths) → IsTable c t → (x : Net) → IsThere c x → net_width t x ≡ (signal c x).width
net_is c t h (Input i) l = ap (λ z. get_or z i 0) h.inputs ∙ sym (width_of_input c i)
net_is c t h (RegNet r) l = ap (λ z. get_or z r 0) h.regs ∙ (get_or-map (λ (x : Reg). x.width) c.regs r no_reg 0 (there_reg c r l) ∙ sym (width_of_reg c r))
net_is c t h (CellNet k) l = h.cells k (there_cell c k l)

-- a table of a circuit has the width of each array's words
pub word_is : (c : Circuit) (t : Widths) → IsTable c t → (m : ℕ) → m < length c.arrays → get_or t.words m 0 ≡ (array_at c m).width
word_is c t h m l = ap (λ z. get_or z m 0) h.words ∙ get_or-map (λ (a : Array). a.width) c.arrays m no_array 0 l

-- a table of a circuit has the depth of each array
pub depth_is : (c : Circuit) (t : Widths) → IsTable c t → (m : ℕ) → m < length c.arrays → get_or t.depths m 0 ≡ (array_at c m).depth
depth_is c t h m l = ap (λ z. get_or z m 0) h.depths ∙ get_or-map (λ (a : Array). a.depth) c.arrays m no_array 0 l

-- ---- a circuit in which all fits

-- all ports of a circuit in which all fits do
pub well_ports : (c : Circuit) → IsWell c → Each (IsWellPort c) c.ports
well_ports c w = each_from_get (IsWellPort c) c.ports w.ports

-- all registers of a circuit in which all fits do
pub well_regs : (c : Circuit) → IsWell c → Each (IsWellReg c) c.regs
well_regs c w = each_got (IsWellReg c) c.regs no_reg w.regs

-- all arrays of a circuit in which all fits do
pub well_arrays : (c : Circuit) → IsWell c → Each (IsWellArray c) c.arrays
well_arrays c w = each_got (IsWellArray c) c.arrays no_array w.arrays

-- ports that fit have 1 to widest bits
pub port_wide : (c : Circuit) (ps : List Port) → Each (IsWellPort c) ps → Each (λ p. IsWidth p.width) ps
port_wide c ps h = each_so (IsWellPort c) (λ p. IsWidth p.width) ps (λ p k. record { low = k.low; high = k.high }) h

-- registers that fit have 1 to widest bits
pub reg_wide : (c : Circuit) (xs : List Reg) → Each (IsWellReg c) xs → Each (λ x. IsWidth x.width) xs
reg_wide c xs h = each_so (IsWellReg c) (λ x. IsWidth x.width) xs (λ x k. record { low = k.low; high = k.high }) h

-- arrays that fit have words and depths as V3 wants
pub all_sized : (c : Circuit) (xs : List Array) → Each (IsWellArray c) xs → Each IsSized xs
all_sized c xs h = each_so (IsWellArray c) IsSized xs (λ a k. (record { low = k.low; high = k.high }, k.depth)) h

-- the widths that a netlist's text declares are those of its circuit
pub table : (lines : Lines) (n : Netlist) → IsWell (circuit_of n) → IsTable (circuit_of n) (widths_of (declared lines n))
table lines n w =
    let c = circuit_of n in
    let ps = port_wide c n.ports (well_ports c w) in
    let xs = all_sized c n.arrays (well_arrays c w) in
    record {
      ports = port_widths lines.ports n.ports ps;
      inputs = input_widths lines.ports n.ports ps;
      regs = reg_widths lines.regs 0 n.regs (reg_wide c n.regs (well_regs c w));
      words = word_widths lines.arrays 0 n.arrays xs;
      depths = array_depths lines.arrays 0 n.arrays xs;
      cells = λ k l. cell_widths lines.cells (input_names n.ports) n.arrays (cell_width n) 0 k k n.cells (omega arith) l ((cells_well c w).widths k l);
    }
