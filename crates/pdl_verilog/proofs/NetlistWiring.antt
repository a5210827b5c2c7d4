-- What the text of a netlist declares is wired as the netlist is.
use Rattle.std.proofs.Common.{◌≡◌, ℕ, ◌+◌, ◌*◌, ◌<◌, ◌≤◌, false, cond, List, [], length, map, get_or, Some, None, Ok, refl, sym, ap, ◌∙◌, subst, arith}
use Rattle.std.specs.List.{slice_get}
use Rattle.std.specs.Option.{option_map}
use Rattle.std.proofs.Math.Nat.{mul-le-mul_left}
use Rattle.std.proofs.lemmas.List.{length-map}
use Rattle.std.proofs.lemmas.Option.{slice_get-map, slice_get_within, get_or_from_slice_get}
use Rattle.pdl_net.specs.declared.Net.{Net}
use Rattle.pdl_net.specs.declared.Net.TheVariants.{Input, Reg as RegNet, Cell as CellNet}
use Rattle.pdl_net.specs.declared.Cell.{Cell}
use Rattle.pdl_net.specs.declared.Cell.TheVariants as made
use Rattle.pdl_net.specs.declared.Dir.{Dir}
use Rattle.pdl_net.specs.declared.Dir.TheVariants.{In, Out}
use Rattle.pdl_net.specs.declared.Port.{Port}
use Rattle.pdl_net.specs.declared.Reg.{Reg}
use Rattle.pdl_net.specs.declared.Array.{Array}
use Rattle.pdl_net.specs.declared.Netlist.{Netlist}
use Rattle.pdl_net.specs.Circuit.{Circuit, circuit_of, no_reg, no_array, reg_at}
use Rattle.pdl_net.specs.Meaning.{signal, IsThereAt, IsThere}
use Rattle.pdl_net.specs.Well.{IsWidth, FitsIn, IsDriven, IsWell, IsWellReg, IsWellArray}
use Rattle.pdl_net.specs.Pipe.{IsWellFormed, is_input}
use Rattle.pdl_net.proofs.Bounds.{input_well}
use Rattle.pdl_net.proofs.CellSignals.{no_cell, fits_cell}
use Rattle.pdl_net.proofs.Widths.{there_input, there_reg, there_cell, width_of_input, width_of_reg, cells_well}
use Rattle.pdl_net.proofs.WidthLists.{there_within}
use Rattle.pdl_vread_text.specs.declared.file.File.{File}
use Rattle.pdl_vlog.specs.Layout.{net, array, input_names, cell_width}
use Rattle.pdl_vread_nets.specs.Wired.{place, port_place, output_port, output_at, small, net_of, output_of, array_place, cell_of, wiring}
use Rattle.pdl_vread_nets.proofs.Steps.{wired_so}
use Rattle.pdl_vread.proofs.ArrayNames.{get_mapped}
use Rattle.pdl_verilog.specs.Names.{IsCounted}
use Rattle.pdl_verilog.specs.Declared.{Lines, array_name, port_decl, term, declared, output_drives, reg_drives, block_writes, wiring_of}
use Rattle.pdl_verilog.proofs.Places.{place_at}
use Rattle.pdl_verilog.proofs.Nets.{port_names, reg_found, net_named, array_found}
use Rattle.pdl_verilog.proofs.PassResults.{one_found, two_found, three_found, small_same, cells_found, length_cells, IsNet, IsOutput, outputs_found, IsRegister, regs_found, IsArray, blocks_found}
use Rattle.pdl_word.specs.Words.{widest}

-- ---- widths of nets

-- each net of a well formed circuit has 1 to widest bits
net_wide : (c : Circuit) → IsWell c → (x : Net) → IsThere c x → IsWidth (signal c x).width
net_wide c w (Input i) t = subst IsWidth (sym (width_of_input c i)) (input_well c w i (there_input c i t))
net_wide c w (RegNet r) t =
    let b = w.regs r (there_reg c r t) in
    let own : IsWidth (reg_at c r).width = record { low = b.low; high = b.high } in
    subst IsWidth (sym (width_of_reg c r)) own
net_wide c w (CellNet k) t = (cells_well c w).widths k (there_cell c k t)

there_last : (c : Circuit) (x : Net) → IsThere c x → IsThereAt c (length c.cells) x
unfolding IsThere
there_last c x t = t

few_times : (k w : ℕ) → 1 ≤ w → k * w ≤ widest → k ≤ widest
few_times k w l h = omega (arith, mul-le-mul_left k l)

module _ (lines : Lines) (n : Netlist) (h : IsWellFormed n) (few : IsCounted n) where
  abbrev c : Circuit
  c = circuit_of n

  abbrev f : File
  f = declared lines n

  abbrev inputs : List (List ℕ)
  inputs = input_names n.ports

  -- ---- cells

  cell_read : (k : ℕ) → k ≤ length n.cells → (g : Cell) → FitsIn c (IsThereAt c k) (signal c) g → cell_of f k (term inputs n.arrays g) ≡ Some g
  cell_read k l (made.Const w v) t = ap (λ z. Some (made.Const z v)) (small_same w t.1)
  cell_read k l (made.Not a) t = one_found made.Not (net_of f k (net inputs a)) a (net_named lines n h few k l a t)
  cell_read k l (made.Bin op a b) t =
      two_found (made.Bin op) (net_of f k (net inputs a))
      (net_of f k (net inputs b)) a b (net_named lines n h few k l a t.0) (net_named lines n h few k l b t.1)
  cell_read k l (made.Mux x a b) t =
      three_found made.Mux (net_of f k (net inputs x)) (net_of f k (net inputs a)) (net_of f k (net inputs b)) x a b
      (net_named lines n h few k l x t.0) (net_named lines n h few k l a t.1) (net_named lines n h few k l b t.2)
  cell_read k l (made.Slice a high low) t =
      let w = net_wide c h.well a (there_within c k a l t.0) in
      let p : high ≤ widest = omega (arith, w.high, t.2) in
      let q : low ≤ widest = omega (arith, p, t.1) in
      one_found (λ z. made.Slice z (small high) (small low)) (net_of f k (net inputs a)) a (net_named lines n h few k l a t.0)
      ∙ (ap (λ z. Some (made.Slice a z (small low))) (small_same high p) ∙ ap (λ z. Some (made.Slice a high z)) (small_same low q))
  cell_read k l (made.Cat a b) t =
      two_found made.Cat (net_of f k (net inputs a)) (net_of f k (net inputs b)) a b (net_named lines n h few k l a t.0) (net_named lines n h few k l b t.1)
  cell_read k l (made.Rep m a) t =
      let w = net_wide c h.well a (there_within c k a l t.0) in
      one_found (made.Rep (small m)) (net_of f k (net inputs a)) a (net_named lines n h few k l a t.0)
      ∙ ap (λ z. Some (made.Rep z a)) (small_same m (few_times m (signal c a).width w.low t.2))
  cell_read k l (made.Read m a) t =
      two_found made.Read (array_place f (array n.arrays m))
      (net_of f k (net inputs a)) m a (array_found lines n h few m t.0) (net_named lines n h few k l a t.1)

  cell_at_read : (i j : ℕ) → 0 + i ≡ j → i < length n.cells → cell_of f j (term inputs n.arrays (get_or n.cells i no_cell)) ≡ Some (get_or n.cells i no_cell)
  cell_at_read i j e l =
      let q : i ≡ j = omega arith in
      let g = get_or n.cells i no_cell in
      subst (λ z. cell_of f z (term inputs n.arrays g) ≡ Some g) q (cell_read i (omega arith) g (fits_cell c h.well.cells i l))

  -- ---- outputs

  -- after all cells
  last_net : (x : Net) → IsThere c x → IsNet f (length n.cells) inputs x
  last_net x t = net_named lines n h few (length n.cells) (omega arith) x (there_last c x t)

  output_found : (j : ℕ) (p : Port) → slice_get n.ports j ≡ Some p → is_input p.dir ≡ false → output_of f p.name ≡ Some j
  output_found j p e out =
      let name = λ (q : Port). q.name in
      let ns = map name n.ports in
      let l = slice_get_within n.ports j p e in
      let m = length-map n.ports name in
      let b : j < length ns = omega arith in
      let own : get_or ns j [] ≡ p.name = get_mapped name n.ports j [] p l ∙ ap name (get_or_from_slice_get n.ports j p p e) in
      let at : port_place f p.name ≡ Some j =
      ap (λ z. place z p.name) (port_names lines.ports n.ports) ∙ (ap (place ns) (sym own) ∙ place_at ns j [] h.port_names b) in
      let decl : slice_get f.ports j ≡ Some (port_decl lines.ports p) =
      slice_get-map (port_decl lines.ports) n.ports j ∙ ap (option_map (port_decl lines.ports)) e in
      ap (output_at f.ports) at ∙ (ap (λ o. output_port o j) decl ∙ ap (λ t. cond t None (Some j)) out)

  output_read : (j o : ℕ) (p : Port) → 0 + j ≡ o → slice_get n.ports j ≡ Some p → IsOutput f (length n.cells) inputs o p.name p.dir
  output_read j o p q e =
      let same : j ≡ o = omega arith in
      subst (λ z. IsOutput f (length n.cells) inputs z p.name p.dir) same (go p.dir (output_found j p e) (h.well.ports j p e).driven)
    where
      go : (d : Dir) → (is_input d ≡ false → output_of f p.name ≡ Some j) → IsDriven c p.width d → IsOutput f (length n.cells) inputs j p.name d
      go In found t = tt
      go (Out x) found t = (found refl, last_net x t.0)

  -- ---- registers

  register_read : (i j : ℕ) (x : Reg) → 0 + i ≡ j → slice_get n.regs i ≡ Some x → IsRegister f (length n.cells) inputs j x
  register_read i j x q e =
      let same : i ≡ j = omega arith in
      let l = slice_get_within n.regs i x e in
      let w : IsWellReg c x = subst (IsWellReg c) (get_or_from_slice_get n.regs i x no_reg e) (h.well.regs i l) in
      let own : IsRegister f (length n.cells) inputs i x = record { name = reg_found lines n h few i l; width = w.high; next = last_net x.next w.next } in
      subst (λ z. IsRegister f (length n.cells) inputs z x) same own

  -- ---- arrays

  array_read : (i j : ℕ) (a : Array) → 0 + i ≡ j → slice_get n.arrays i ≡ Some a → IsArray f (length n.cells) inputs j a
  array_read i j a q e =
      let same : i ≡ j = omega arith in
      let l = slice_get_within n.arrays i a e in
      let at = get_or_from_slice_get n.arrays i a no_array e in
      let w : IsWellArray c a = subst (IsWellArray c) at (h.well.arrays i l) in
      let own : IsArray f (length n.cells) inputs i a = record {
        name = ap (λ z. array_place f (array_name z)) (sym at) ∙ array_found lines n h few i l;
        writes = λ k p g.
            let s = w.writes k p g in
            record { enable = last_net p.enable s.enable; addr = last_net p.addr s.addr; value = last_net p.value s.value };
      } in
      subst (λ z. IsArray f (length n.cells) inputs z a) same own

-- ---- the whole

-- the names in what a netlist's text declares are wired as its nets are
pub wired : (lines : Lines) (n : Netlist) → IsWellFormed n → IsCounted n → wiring (declared lines n) ≡ Ok (wiring_of n)
wired lines n h few =
    let file = declared lines n in
    let names = input_names n.ports in
    let all = length n.cells in
    wired_so file file all n.cells (output_drives 0 n.ports) (reg_drives 0 n.regs)
    (block_writes 0 n.arrays) refl (sym (length_cells lines.cells names n.arrays (cell_width n) 0 n.cells))
    (cells_found file lines.cells names n.arrays (cell_width n) 0 n.cells (cell_at_read lines n h few))
    (outputs_found file all names lines.outputs 0 0 n.ports (output_read lines n h few))
    (regs_found file all names lines.blocks 0 n.regs (register_read lines n h few)) (blocks_found file all names lines 0 0 n.arrays (array_read lines n h few))
