-- A well formed netlist whose names are names of PDL has a text that the grammar has.
use Rattle.std.proofs.Common.{◌≡◌, inl, inr, ℕ, zero, suc, ◌+◌, ◌*◌, ◌^◌, ◌<◌, ◌≤◌, true, List, [], ◌∷◌, ◌++◌, length, map, filter_map, find, get_or, bytes_eq, refl, sym, ap, subst, arith}
use Rattle.std.specs.List.{cons_option}
use Rattle.std.proofs.Math.Pow.{pow_mono}
use Rattle.std.proofs.lemmas.List.{get_or_default}
use Rattle.std.proofs.lemmas.Option.{slice_get-get_or}
use Rattle.pdl_kit.specs.declared.mem_info.MemInfo.{MemInfo}
use Rattle.pdl_net.specs.declared.Net.{Net}
use Rattle.pdl_net.specs.declared.Net.TheVariants.{Input, Reg as RegNet, Cell as CellNet}
use Rattle.pdl_net.specs.declared.Cell.{Cell}
use Rattle.pdl_net.specs.declared.Cell.TheVariants as made
use Rattle.pdl_net.specs.declared.Dir.{Dir}
use Rattle.pdl_net.specs.declared.Dir.TheVariants.{In, Out}
use Rattle.pdl_net.specs.declared.Port.{Port}
use Rattle.pdl_net.specs.declared.Reg.{Reg}
use Rattle.pdl_net.specs.declared.Array.{Array}
use Rattle.pdl_net.specs.declared.WritePort.{WritePort}
use Rattle.pdl_net.specs.declared.Netlist.{Netlist}
use Rattle.pdl_net.specs.Circuit.{Circuit, circuit_of, input_with, port_input, no_reg, no_array}
use Rattle.pdl_net.specs.Meaning.{signal, IsThereAt, IsThere}
use Rattle.pdl_net.specs.Well.{IsWidth, IsDepth, FitsIn, IsDriven, IsWellPort, IsWellReg, IsWellWrite, IsWellArray}
use Rattle.pdl_net.specs.Pipe.{PortMem, is_input, head_of, delayed_info, comb_info, IsKept, IsWellFormed}
use Rattle.pdl_net.proofs.CellSignals.{cell_at, no_cell}
use Rattle.pdl_net.proofs.Bounds.{input_well}
use Rattle.pdl_net.proofs.Widths.{fits_now, cells_well}
use Rattle.pdl_vread_text.specs.Words.{is_name}
use Rattle.pdl_vlog.specs.Layout.{input_name, named_input, input_names, cell_width}
use Rattle.pdl_verilog.specs.Names.{HasNames}
use Rattle.pdl_verilog.proofs.Names.{IsOperandText, reg_text, cell_text}
use Rattle.pdl_verilog.proofs.Head.{ArePortTexts}
use Rattle.pdl_verilog.proofs.Declarations.{HaveWidths}
use Rattle.pdl_verilog.proofs.Arrays.{AreArrayTexts}
use Rattle.pdl_verilog.proofs.AllCells.{IsNetText, IsCellText, AreCellTexts}
use Rattle.pdl_verilog.proofs.AllDrives.{IsDrivenText, AreDrivenTexts, AreRegTexts}
use Rattle.pdl_verilog.proofs.AllWrites.{AreWriteTexts, AreBlockTexts}
use Rattle.pdl_verilog.proofs.FileText.{IsTextual}
use Rattle.pdl_verilog.proofs.Ports.{all_from_each, IsHeadText, IsMemName, pipe_texts}
use Rattle.pdl_net.proofs.PipeMems.{told_name}
use Rattle.pdl_word.specs.Each.{Each}
use Rattle.pdl_word.proofs.Each.{each_append, each_front, each_back, each_unmapped, each_weaker, each_from_all, each_mapped}
use Rattle.pdl_word.specs.Words.{widest}

-- ---- lists

port_texts_of : (ps : List Port) → Each (λ p. IsHeadText (head_of p)) ps → Each (λ (p : Port). IsWidth p.width) ps → ArePortTexts ps
port_texts_of [] h w = tt
port_texts_of (p ∷ ps) h w = (record { width = w.0; word = h.0.word; named = h.0.named }, port_texts_of ps h.1 w.1)

one_operand : (d : Dir) (name : List ℕ) (w : ℕ) → IsHeadText (record { name = name; width = w; input = is_input d })
    → Each IsOperandText (input_name d name)
one_operand In name w h = (h.operand refl, tt)
one_operand (Out x) name w h = tt

operands : (ps : List Port) → Each (λ p. IsHeadText (head_of p)) ps → Each IsOperandText (input_names ps)
operands [] h = tt
operands (p ∷ ps) h = each_append IsOperandText (named_input p) (input_names ps) (one_operand p.dir p.name p.width h.0) (operands ps h.1)

one_counted : (d : Dir) (name : List ℕ) (w : ℕ) (xs : List (List ℕ)) (ys : List ℕ)
    → length xs ≡ length ys → length (input_name d name ++ xs) ≡ length (cons_option (input_with d w) ys)
one_counted In name w xs ys e = ap suc e
one_counted (Out x) name w xs ys e = e

inputs_counted : (ps : List Port) → length (input_names ps) ≡ length (filter_map port_input ps)
inputs_counted [] = refl
inputs_counted (p ∷ ps) = one_counted p.dir p.name p.width (input_names ps) (filter_map port_input ps) (inputs_counted ps)

count_fits : (k u : ℕ) → 1 ≤ u → k ≤ k * u
count_fits zero u h = omega arith
count_fits (suc k) u h = let i = count_fits k u h in omega arith

module _ (n : Netlist) (h : IsWellFormed n) (names : HasNames n) (few_regs : length n.regs < 2 ^ 64) (few_cells : length n.cells < 2 ^ 64) where
  abbrev c : Circuit
  c = circuit_of n

  abbrev inputs : List (List ℕ)
  inputs = input_names n.ports

  abbrev delayed : List PortMem
  delayed = h.pipe.delayed

  abbrev locked : List PortMem
  locked = h.pipe.locked

  -- ---- names

  abbrev IsInfoName : MemInfo → Type 0
  IsInfoName m = is_name m.name ≡ true

  abbrev info_of : Array → MemInfo
  info_of a = comb_info a (find (λ m. bytes_eq m.name a.name) locked)

  infos_named : Each IsInfoName (map delayed_info delayed ++ map info_of n.arrays)
  infos_named = subst (Each IsInfoName) h.pipe.mems (each_from_all IsInfoName n.mems names.mems)

  delayed_named : Each IsMemName delayed
  delayed_named = each_unmapped IsInfoName delayed_info delayed (each_front IsInfoName (map delayed_info delayed) (map info_of n.arrays) infos_named)

  abbrev IsArrayNamed : Array → Type 0
  IsArrayNamed a = is_name a.name ≡ true

  arrays_named : Each IsArrayNamed n.arrays
  arrays_named =
      each_weaker (λ a. IsInfoName (info_of a)) IsArrayNamed
      (λ a e. subst (λ z. is_name z ≡ true) (told_name a (find (λ m. bytes_eq m.name a.name) locked)) e) n.arrays
      (each_unmapped IsInfoName info_of n.arrays (each_back IsInfoName (map delayed_info delayed) (map info_of n.arrays) infos_named))

  kept_named : (m : PortMem) → IsKept delayed n.arrays m → IsMemName m
  kept_named m (inl k) =
      subst (λ z. is_name z ≡ true) k.2
      (all_from_each (λ z. is_name z ≡ true) (map (λ (d : PortMem). d.name) delayed)
      (each_mapped (λ z. is_name z ≡ true) (λ (d : PortMem). d.name) delayed delayed_named) k.0 m.name k.1)
  kept_named m (inr k) =
      subst (λ z. is_name z ≡ true) k.2
      (all_from_each (λ z. is_name z ≡ true) (map (λ (a : Array). a.name) n.arrays)
      (each_mapped (λ z. is_name z ≡ true) (λ (a : Array). a.name) n.arrays arrays_named) k.0 m.name k.1)

  locked_named : Each IsMemName locked
  locked_named = each_weaker (IsKept delayed n.arrays) IsMemName kept_named locked (each_from_all (IsKept delayed n.arrays) locked h.pipe.kept)

  heads : Each (λ p. IsHeadText (head_of p)) n.ports
  heads =
      each_unmapped IsHeadText head_of n.ports
      (subst (Each IsHeadText) (sym h.pipe.ports) (pipe_texts h.pipe.stages delayed locked h.pipe.many delayed_named locked_named))

  -- ---- nets

  net_text : (k : ℕ) → k ≤ length n.cells → (x : Net) → IsThereAt c k x → IsNetText inputs x
  net_text k l (Input i) t = all_from_each IsOperandText inputs (operands n.ports heads) i [] (let e = inputs_counted n.ports in omega arith)
  net_text k l (RegNet r) t = reg_text r (omega arith)
  net_text k l (CellNet j) t = cell_text j (omega arith)

  text_there : (x : Net) → IsThere c x → IsNetText inputs x
  unfolding IsThere
  text_there x t = net_text (length n.cells) (omega arith) x t

  net_wide : (k : ℕ) → k ≤ length n.cells → (x : Net) → IsThereAt c k x → IsWidth (signal c x).width
  unfolding signal
  net_wide k l (Input i) t = input_well c h.well i t
  net_wide k l (RegNet r) t = let b = h.well.regs r t in record { low = b.low; high = b.high }
  net_wide k l (CellNet j) t = (cells_well c h.well).widths j (omega arith)

  -- ---- cells

  fit_text : (k : ℕ) → k ≤ length n.cells → (g : Cell) → FitsIn c (IsThereAt c k) (signal c) g → IsCellText inputs n.arrays g
  fit_text k l (made.Const w v) f = f
  fit_text k l (made.Not a) f = net_text k l a f
  fit_text k l (made.Bin op a b) f = (net_text k l a f.0, net_text k l b f.1)
  fit_text k l (made.Mux x a b) f = (net_text k l x f.0, net_text k l a f.1, net_text k l b f.2)
  fit_text k l (made.Slice a high low) f =
      let w : (signal c a).width ≤ widest = (net_wide k l a f.0).high in
      let i : low ≤ high = f.1 in
      let j : high < (signal c a).width = f.2 in
      (net_text k l a f.0, omega arith, omega arith)
  fit_text k l (made.Cat a b) f = (net_text k l a f.0, net_text k l b f.1)
  fit_text k l (made.Rep m a) f =
      let w = count_fits m (signal c a).width (net_wide k l a f.0).low in
      let i : m * (signal c a).width ≤ widest = f.2 in
      (omega arith, net_text k l a f.0)
  fit_text k l (made.Read m a) f = (all_from_each IsArrayNamed n.arrays arrays_named m _ f.0, net_text k l a f.1)

  cells_from : (gs : List Cell) (k : ℕ)
      → ((j : ℕ) → j < length gs → IsWidth (cell_width n (k + j)) × IsCellText inputs n.arrays (get_or gs j no_cell))
      → AreCellTexts inputs n.arrays (cell_width n) k gs
  cells_from [] k f = tt
  cells_from (g ∷ gs) k f =
      let z : k + 0 ≡ k = omega arith in
      let one = f 0 (omega arith) in (
        subst (λ i. IsWidth (cell_width n i)) z one.0,
        one.1,
        cells_from gs (suc k) (λ j l.
            let e : k + suc j ≡ suc k + j = omega arith in
            let more_cells = f (suc j) (omega arith) in
            (subst (λ i. IsWidth (cell_width n i)) e more_cells.0, more_cells.1)),
      )

  cell_at_text : (j : ℕ) → j < length n.cells → IsWidth (cell_width n (0 + j)) × IsCellText inputs n.arrays (get_or n.cells j no_cell)
  cell_at_text j l =
      let w = cells_well c h.well in
      let z : j ≡ 0 + j = omega arith in
      let small : j ≤ length n.cells = omega arith in
      (subst (λ i. IsWidth (cell_width n i)) z (w.widths j l), fit_text j small (cell_at c j) (fits_now c w j (cell_at c j) l refl))

  -- ---- ports, registers and arrays

  wells_ports : Each (IsWellPort c) n.ports
  wells_ports = each_from_all (IsWellPort c) n.ports (λ k d l. h.well.ports k (get_or n.ports k d) (slice_get-get_or n.ports k d l))

  wells_regs : Each (IsWellReg c) n.regs
  wells_regs = each_from_all (IsWellReg c) n.regs (λ k d l. subst (IsWellReg c) (get_or_default n.regs k no_reg d l) (h.well.regs k l))

  wells_arrays : Each (IsWellArray c) n.arrays
  wells_arrays = each_from_all (IsWellArray c) n.arrays (λ k d l. subst (IsWellArray c) (get_or_default n.arrays k no_array d l) (h.well.arrays k l))

  driven_text : (d : Dir) (w : ℕ) → IsDriven c w d → IsDrivenText inputs d
  driven_text In w e = tt
  driven_text (Out x) w e = text_there x e.0

  driven_texts : (ps : List Port) → Each (λ p. IsHeadText (head_of p)) ps → Each (IsWellPort c) ps → AreDrivenTexts inputs ps
  driven_texts [] t w = tt
  driven_texts (p ∷ ps) t w = (t.0.word, t.0.named, driven_text p.dir p.width w.0.driven, driven_texts ps t.1 w.1)

  have_widths : (xs : List Reg) → Each (IsWellReg c) xs → HaveWidths xs
  have_widths [] w = tt
  have_widths (x ∷ xs) w = (record { low = w.0.low; high = w.0.high }, have_widths xs w.1)

  reg_texts : (xs : List Reg) → Each (IsWellReg c) xs → AreRegTexts inputs xs
  reg_texts [] w = tt
  reg_texts (x ∷ xs) w = (record { width = record { low = w.0.low; high = w.0.high }; reset = w.0.reset; next = text_there x.next w.0.next }, reg_texts xs w.1)

  depth_text : (a : Array) → IsDepth a.depth → (1 ≤ a.depth) × (a.depth ≤ 131072)
  depth_text a d =
      let low : 2 ^ 0 ≤ 2 ^ d.bits = pow_mono {i = 0} {j = d.bits} (omega arith) in
      let bits : d.bits ≤ 17 = d.high in
      let high : 2 ^ d.bits ≤ 2 ^ 17 = pow_mono {i = d.bits} {j = 17} bits in
      let e : a.depth ≡ 2 ^ d.bits = d.power in
      (omega arith, omega arith)

  array_texts : (xs : List Array) → Each IsArrayNamed xs → Each (IsWellArray c) xs → AreArrayTexts xs
  array_texts [] t w = tt
  array_texts (a ∷ xs) t w =
      let d = depth_text a w.0.depth in
      (record { width = record { low = w.0.low; high = w.0.high }; named = t.0; low = d.0; high = d.1 }, array_texts xs t.1 w.1)

  write_texts : (a : Array) (ps : List WritePort) → Each (IsWellWrite c a) ps → AreWriteTexts inputs ps
  write_texts a [] w = tt
  write_texts a (p ∷ ps) w =
      (record { enable = text_there p.enable w.0.enable; addr = text_there p.addr w.0.addr; value = text_there p.value w.0.value }, write_texts a ps w.1)

  block_texts : (xs : List Array) → Each IsArrayNamed xs → Each (IsWellArray c) xs → AreBlockTexts inputs xs
  block_texts [] t w = tt
  block_texts (a ∷ xs) t w =
      let each = each_from_all (IsWellWrite c a) a.writes (λ k d l. w.0.writes k (get_or a.writes k d) (slice_get-get_or a.writes k d l)) in
      (record { named = t.0; writes = write_texts a a.writes each }, block_texts xs t.1 w.1)

  -- the text of a well formed netlist with names of PDL and fewer than 2^64 registers and cells is one of the grammar
  pub textual : IsTextual n
  textual = record {
    named = names.netlist;
    ports = port_texts_of n.ports heads (each_weaker (IsWellPort c) (λ p. IsWidth p.width) (λ p w. record { low = w.low; high = w.high }) n.ports wells_ports);
    regs = have_widths n.regs wells_regs;
    reg_count = few_regs;
    arrays = array_texts n.arrays arrays_named wells_arrays;
    cells = cells_from n.cells 0 cell_at_text;
    cell_count = few_cells;
    drives = driven_texts n.ports heads wells_ports;
    blocks = reg_texts n.regs wells_regs;
    writes = block_texts n.arrays arrays_named wells_arrays;
  }
