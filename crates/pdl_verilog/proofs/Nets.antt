-- The names in the text of a netlist stand for its nets and its arrays.
use Rattle.std.proofs.Common.{◌≡◌, ◌≢◌, ℕ, zero, suc, ◌+◌, ◌^◌, ◌<◌, ◌≤◌, List, [], ◌∷◌, ◌++◌, length, map, take, get_or, codes, Some, None, refl, sym, ap, ◌∙◌, arith}
use Rattle.std.proofs.lemmas.List.{length-map}
use Rattle.pdl_word.proofs.Lists.{tail_same}
use Rattle.pdl_net.specs.declared.Net.{Net}
use Rattle.pdl_net.specs.declared.Net.TheVariants.{Input, Reg as RegNet, Cell as CellNet}
use Rattle.pdl_net.specs.declared.Cell.{Cell}
use Rattle.pdl_net.specs.declared.Port.{Port}
use Rattle.pdl_net.specs.declared.Reg.{Reg}
use Rattle.pdl_net.specs.declared.Array.{Array}
use Rattle.pdl_net.specs.declared.Netlist.{Netlist}
use Rattle.pdl_net.specs.Circuit.{circuit_of, inputs_of, no_array}
use Rattle.pdl_net.specs.Meaning.{IsThereAt}
use Rattle.pdl_net.specs.Pipe.{IsWellFormed}
use Rattle.pdl_vread_text.specs.declared.file.File.{File}
use Rattle.pdl_vread_text.specs.declared.file.PortDecl.{PortDecl}
use Rattle.pdl_vread_text.specs.declared.file.RegDecl.{RegDecl}
use Rattle.pdl_vread_text.specs.declared.file.ArrayDecl.{ArrayDecl}
use Rattle.pdl_vread_text.specs.declared.file.CellDecl.{CellDecl}
use Rattle.pdl_vlog.specs.Layout.{net, array, input_names, cell_width}
use Rattle.pdl_vread_nets.specs.Wired.{place, port_nets, net_at, reg_place, array_place, cell_place, input_of, net_of}
use Rattle.pdl_vread_nets.proofs.Steps.{net_cell, net_reg, net_input}
use Rattle.pdl_vread.proofs.ArrayNames.{get_mapped}
use Rattle.pdl_verilog.specs.Names.{IsCounted}
use Rattle.pdl_verilog.specs.Declared.{Lines, reg_name, cell_name, port_decl, reg_decls, array_decls, cell_decls, declared}
use Rattle.pdl_verilog.proofs.Places.{Begins, numbered, each_numbered, place_numbered, place_mapped, place_at, place_apart, regs_apart, cells_apart}
use Rattle.pdl_verilog.proofs.Inputs.{input_placed, input_begins}

-- ---- names of declarations

-- ports are declared with their names
pub port_names : (line : ℕ) (ps : List Port) → map (λ (d : PortDecl). d.name) (map (port_decl line) ps) ≡ map (λ (p : Port). p.name) ps
port_names line [] = refl
port_names line (p ∷ ps) = ap (λ z. p.name ∷ z) (port_names line ps)

-- registers are declared with the names of their numbers
pub reg_names : (at : ℕ → ℕ) (r : ℕ) (xs : List Reg) → map (λ (d : RegDecl). d.name) (reg_decls at r xs) ≡ numbered reg_name r (length xs)
reg_names at r [] = refl
reg_names at r (x ∷ xs) = ap (λ z. reg_name r ∷ z) (reg_names at (suc r) xs)

-- of an array, with the name of its memory
abbrev long_name : List ℕ → List ℕ
long_name x = codes "a_" ++ x

array_names : (at : ℕ → ℕ) (m : ℕ) (xs : List Array)
    → map (λ (d : ArrayDecl). d.name) (array_decls at m xs) ≡ map long_name (map (λ (a : Array). a.name) xs)
array_names at m [] = refl
array_names at m (a ∷ xs) = ap (λ z. long_name a.name ∷ z) (array_names at (suc m) xs)

-- of the first cells
cell_names : (at : ℕ → ℕ) (inputs : List (List ℕ)) (arrays : List Array) (width : ℕ → ℕ) (k : ℕ) (gs : List Cell) (j : ℕ)
    → j ≤ length gs
    → map (λ (d : CellDecl). d.name) (take j (cell_decls at inputs arrays width k gs)) ≡ numbered cell_name k j
cell_names at inputs arrays width k gs zero l = refl
cell_names at inputs arrays width k [] (suc j) l = absurd (omega arith)
cell_names at inputs arrays width k (g ∷ gs) (suc j) l = ap (λ z. cell_name k ∷ z) (cell_names at inputs arrays width (suc k) gs j (omega arith))

module _ (lines : Lines) (n : Netlist) (h : IsWellFormed n) (few : IsCounted n) where
  abbrev f : File
  f = declared lines n

  abbrev inputs : List (List ℕ)
  inputs = input_names n.ports

  -- ---- cells

  cell_found : (k j : ℕ) → k ≤ length n.cells → j < k → cell_place f k (cell_name j) ≡ Some j
  cell_found k j l m =
      let b : 0 + k ≤ 2 ^ 64 = omega (arith, few.cells) in
      ap (λ z. place z (cell_name j)) (cell_names lines.cells inputs n.arrays (cell_width n) 0 n.cells k l)
      ∙ place_numbered cell_name (2 ^ 64) cells_apart 0 k j j b m (omega arith)

  no_cell : (k b : ℕ) (x : List ℕ) → k ≤ length n.cells → Begins b x → 110 ≢ b → cell_place f k x ≡ None
  no_cell k b x l i ne =
      ap (λ z. place z x) (cell_names lines.cells inputs n.arrays (cell_width n) 0 n.cells k l)
      ∙ place_apart 110 b (numbered cell_name 0 k) x (each_numbered (Begins 110) cell_name (λ j. refl) 0 k) i ne

  -- ---- registers

  -- the name of the r-th register stands for it
  pub reg_found : (r : ℕ) → r < length n.regs → reg_place f (reg_name r) ≡ Some r
  reg_found r l =
      let b : 0 + length n.regs ≤ 2 ^ 64 = omega (arith, few.regs) in
      ap (λ z. place z (reg_name r)) (reg_names lines.regs 0 n.regs) ∙ place_numbered reg_name (2 ^ 64) regs_apart 0 (length n.regs) r r b l (omega arith)

  no_reg : (b : ℕ) (x : List ℕ) → Begins b x → 114 ≢ b → reg_place f x ≡ None
  no_reg b x i ne =
      ap (λ z. place z x) (reg_names lines.regs 0 n.regs)
      ∙ place_apart 114 b (numbered reg_name 0 (length n.regs)) x (each_numbered (Begins 114) reg_name (λ j. refl) 0 (length n.regs)) i ne

  -- ---- inputs

  input_found : (i : ℕ) → i < length (inputs_of (circuit_of n)) → input_of f (get_or inputs i []) ≡ Some (Input i)
  input_found i l =
      ap (λ z. net_at (port_nets 0 f.ports) (place z (get_or inputs i []))) (port_names lines.ports n.ports)
      ∙ input_placed lines.ports n.ports i 0 i h.port_names l (omega arith)

  -- ---- nets and arrays

  -- among the first k cells, the name of a net that is there stands for it
  pub net_named : (k : ℕ) → k ≤ length n.cells → (x : Net) → IsThereAt (circuit_of n) k x → net_of f k (net inputs x) ≡ Some x
  net_named k l (Input i) t =
      let x = get_or inputs i [] in
      let b = input_begins n h.pipe i t in
      sym (net_input f k x (sym (no_cell k 112 x l b (λ e. omega arith))) (sym (no_reg 112 x b (λ e. omega arith)))) ∙ input_found i t
  net_named k l (RegNet r) t = sym (net_reg f k (reg_name r) r (sym (no_cell k 114 (reg_name r) l refl (λ e. omega arith))) (sym (reg_found r t)))
  net_named k l (CellNet j) t = sym (net_cell f k (cell_name j) j (sym (cell_found k j l t)))

  -- the name of the m-th array stands for it
  pub array_found : (m : ℕ) → m < length n.arrays → array_place f (array n.arrays m) ≡ Some m
  array_found m l =
      let ns = map (λ (a : Array). a.name) n.arrays in
      let x : List ℕ = (get_or n.arrays m no_array).name in
      let q = get_mapped (λ (a : Array). a.name) n.arrays m [] no_array l in
      let b : m < length ns = omega (arith, length-map n.arrays (λ (a : Array). a.name)) in
      ap (λ z. place z (long_name x)) (array_names lines.arrays 0 n.arrays)
      ∙ (place_mapped long_name (λ y z e. tail_same (tail_same e)) ns x ∙ (ap (place ns) (sym q) ∙ place_at ns m [] h.array_names b))
