-- The text of a well formed netlist keeps V4.
use Rattle.std.proofs.Common.{◌≡◌, ◌≢◌, ℕ, suc, ◌^◌, ◌<◌, ◌≤◌, true, false, not, ◌||◌, eqb, List, [], ◌∷◌, ◌++◌, length, map, take, get_or, None, refl, sym, ap, ◌∙◌, arith}
use Rattle.std.specs.List.{list_any, AllPairs}
use Rattle.std.proofs.lemmas.Bool.{and_from, or_from, not_from_false, eq-eqb, ne_eqb}
use Rattle.std.proofs.lemmas.List.{get_or-map, length-map, length-take-le}
use Rattle.std.proofs.lemmas.List.Sums.{length-filter}
use Rattle.pdl_word.proofs.Numbers.{eqb_self}
use Rattle.pdl_net.specs.declared.WritePort.{WritePort}
use Rattle.pdl_net.specs.declared.Port.{Port}
use Rattle.pdl_net.specs.declared.Reg.{Reg}
use Rattle.pdl_net.specs.declared.Array.{Array}
use Rattle.pdl_net.specs.declared.Netlist.{Netlist}
use Rattle.pdl_net.specs.Circuit.{no_reg}
use Rattle.pdl_net.specs.Pipe.{is_input, IsWellFormed}
use Rattle.pdl_vread_text.specs.declared.file.PortDecl.{PortDecl}
use Rattle.pdl_vread_text.specs.declared.file.RegDecl.{RegDecl}
use Rattle.pdl_vread_text.specs.declared.file.ArrayDecl.{ArrayDecl}
use Rattle.pdl_vread_text.specs.declared.file.CellDecl.{CellDecl}
use Rattle.pdl_vread_text.specs.declared.file.Term.TheVariants as t
use Rattle.pdl_vread_nets.specs.declared.wiring.OutputDrive.{OutputDrive}
use Rattle.pdl_vread_nets.specs.declared.wiring.RegDrive.{RegDrive}
use Rattle.pdl_vread_rules.specs.RuleQuestions.{first_wrong, both}
use Rattle.pdl_vread_rules.specs.Once.{is_new, output_drives as drives_of_port, reg_drives as drives_of_reg, in_turn, port_once, reg_once, array_once, cell_once, write_once, blocks_once, declared_once, once_line}
use Rattle.pdl_vlog.specs.Layout.{input_names, cell_width}
use Rattle.pdl_verilog.specs.Names.{IsCounted}
use Rattle.pdl_verilog.specs.Declared.{Lines, declared, wiring_of, port_decl, reg_decls, array_name, array_decls, write_decls, onto_block, array_blocks, output_drives, reg_drives, written_to, onto_writes, block_writes}
use Rattle.pdl_verilog.proofs.Questions.{right_then, append_right, turns_right}
use Rattle.pdl_verilog.proofs.NamesApart.{apart_new, regs_apart, cells_apart, ports_apart, arrays_apart}
use Rattle.pdl_verilog.proofs.FoundDrives.{no_port, ports_at, driven_once, regs_at}
use Rattle.pdl_vread.proofs.WellFormed.{no_port_decl, no_array_decl, no_decl}
use Rattle.pdl_word.specs.Each.{Each}

-- ---- declarations

abbrev no_cell_decl : CellDecl
no_cell_decl = record { line = 0; name = []; high = 0; target = []; term = t.Const 0 0 }

module _ (line : ℕ) (ps : List Port) where
  abbrev declared_ports : List PortDecl
  declared_ports = map (port_decl line) ps

  abbrev driven_ports : List OutputDrive
  driven_ports = output_drives 0 ps

  port_driven : (i : ℕ) → i < length ps
      → ((get_or declared_ports i no_port_decl).input || eqb (drives_of_port driven_ports (length (take i declared_ports))) 1) ≡ true
  port_driven i l =
      let p = get_or ps i no_port in
      let m = length-map ps (port_decl line) in
      let e : get_or declared_ports i no_port_decl ≡ port_decl line p = get_or-map (port_decl line) ps i no_port no_port_decl l in
      let n : length (take i declared_ports) ≡ i = length-take-le i declared_ports (omega arith) in
      ap (λ (z : PortDecl). z.input || eqb (drives_of_port driven_ports (length (take i declared_ports))) 1) e
      ∙ (ap (λ z. is_input p.dir || eqb (drives_of_port driven_ports z) 1) n ∙ driven_once i p.dir driven_ports (ports_at 0 i i ps no_port (omega arith) l))

  ports_once : AllPairs (λ a b. a ≢ b) (map (λ (p : Port). p.name) ps) → first_wrong (in_turn (port_once driven_ports) [] declared_ports) ≡ None
  ports_once h =
      turns_right (port_once driven_ports) [] declared_ports no_port_decl (λ i l.
      let m = length-map ps (port_decl line) in
      let d = get_or declared_ports i no_port_decl in
      and_from (is_new (map (λ (q : PortDecl). q.name) (take i declared_ports)) d.name)
      (d.input || eqb (drives_of_port driven_ports (length (take i declared_ports))) 1)
      (apart_new (λ (q : PortDecl). q.name) declared_ports no_port_decl i (ports_apart line ps h) l) (port_driven i (omega arith)))

length_reg_decls : (at : ℕ → ℕ) (r : ℕ) (xs : List Reg) → length (reg_decls at r xs) ≡ length xs
length_reg_decls at r [] = refl
length_reg_decls at r (x ∷ xs) = ap suc (length_reg_decls at (suc r) xs)

module _ (at : ℕ → ℕ) (xs : List Reg) where
  abbrev declared_regs : List RegDecl
  declared_regs = reg_decls at 0 xs

  abbrev driven_regs : List RegDrive
  driven_regs = reg_drives 0 xs

  reg_driven : (i : ℕ) → i < length xs → eqb (drives_of_reg driven_regs (length (take i declared_regs))) 1 ≡ true
  reg_driven i l =
      let m = length_reg_decls at 0 xs in
      let n : length (take i declared_regs) ≡ i = length-take-le i declared_regs (omega arith) in
      ap (λ z. eqb (drives_of_reg driven_regs z) 1) n
      ∙ eq-eqb (drives_of_reg driven_regs i) 1
      (sym (length-filter (λ (b : RegDrive). eqb b.reg i) driven_regs) ∙ ap length (regs_at 0 i i xs no_reg (omega arith) l))

  regs_once : length xs ≤ 2 ^ 64 → first_wrong (in_turn (reg_once driven_regs) [] declared_regs) ≡ None
  regs_once h =
      turns_right (reg_once driven_regs) [] declared_regs no_decl (λ i l.
      let m = length_reg_decls at 0 xs in
      let d = get_or declared_regs i no_decl in
      and_from (is_new (map (λ (q : RegDecl). q.name) (take i declared_regs)) d.name) (eqb (drives_of_reg driven_regs (length (take i declared_regs))) 1)
      (apart_new (λ (q : RegDecl). q.name) declared_regs no_decl i (regs_apart at xs h) l) (reg_driven i (omega arith)))

arrays_once : (at : ℕ → ℕ) (xs : List Array) → AllPairs (λ a b. a ≢ b) (map (λ (a : Array). a.name) xs)
    → first_wrong (in_turn array_once [] (array_decls at 0 xs)) ≡ None
arrays_once at xs h =
    turns_right array_once []
    (array_decls at 0 xs) no_array_decl (λ i l. apart_new (λ (q : ArrayDecl). q.name) (array_decls at 0 xs) no_array_decl i (arrays_apart at xs h) l)

cells_once : (ds : List CellDecl) → AllPairs (λ a b. a ≢ b) (map (λ (d : CellDecl). d.name) ds)
    → first_wrong (in_turn cell_once [] ds) ≡ None
cells_once ds h = turns_right cell_once [] ds no_cell_decl (λ i l. apart_new (λ (q : CellDecl). q.name) ds no_cell_decl i h l)

-- ---- blocks of arrays

-- arrays before the m-th
abbrev AreBefore : ℕ → List ℕ → Type 0
AreBefore m before = Each (λ k. k < m) before

still_before : (m : ℕ) (before : List ℕ) → AreBefore m before → AreBefore (suc m) before
still_before m [] h = tt
still_before m (k ∷ ks) h = let l : k < m = h.0 in (omega arith, still_before m ks h.1)

one_more : (m : ℕ) (before : List ℕ) → AreBefore m before → AreBefore (suc m) (before ++ m ∷ [])
one_more m [] h = (omega arith, tt)
one_more m (k ∷ ks) h = let l : k < m = h.0 in (omega arith, one_more m ks h.1)

no_owner : (m : ℕ) (before : List ℕ) → AreBefore m before → list_any (λ k. eqb m k) before ≡ false
no_owner m [] h = refl
no_owner m (k ∷ ks) h = let l : k < m = h.0 in or_from (eqb m k) (list_any (λ k. eqb m k) ks) (ne_eqb m k (λ e. omega arith)) (no_owner m ks h.1)

writes_once : (at : ℕ → ℕ) (inputs : List (List ℕ)) (name : List ℕ) (j m : ℕ) (ps : List WritePort)
    → first_wrong (both (write_once m) (write_decls at inputs name j ps) (map (written_to m) ps)) ≡ None
writes_once at inputs name j m [] = refl
writes_once at inputs name j m (p ∷ ps) =
    right_then (eqb m m)
    (first_wrong (both (write_once m) (write_decls at inputs name (suc j) ps) (map (written_to m) ps))) (at j)
    (eqb_self m) (writes_once at inputs name (suc j) m ps)

each_block_once : (lines : Lines) (inputs : List (List ℕ)) (before : List ℕ) (b m : ℕ) (xs : List Array)
    → AreBefore m before → first_wrong (blocks_once before (array_blocks lines inputs b xs) (block_writes m xs)) ≡ None
each_block_once lines inputs before b m [] h = refl
each_block_once lines inputs before b m (a ∷ xs) h = go (λ ks z k. each_block_once lines inputs ks z (suc m) xs k) a.writes
  where
    go : ((ks : List ℕ) (z : ℕ) → AreBefore (suc m) ks → first_wrong (blocks_once ks (array_blocks lines inputs z xs) (block_writes (suc m) xs)) ≡ None)
        → (ps : List WritePort)
        → first_wrong
        (blocks_once before (onto_block lines inputs b (array_name a) ps (λ j. array_blocks lines inputs j xs))
        (onto_writes m ps (block_writes (suc m) xs)))
        ≡ None
    go more [] = more before b (still_before m before h)
    go more (p ∷ ps) =
        let inside = both (write_once m) (write_decls (lines.writes b) inputs (array_name a) 0 (p ∷ ps)) (map (written_to m) (p ∷ ps)) in
        let rest = blocks_once (before ++ m ∷ []) (array_blocks lines inputs (suc b) xs) (block_writes (suc m) xs) in
        right_then (not (list_any (λ k. eqb m k) before)) (first_wrong (inside ++ rest)) (lines.array_blocks b)
        (not_from_false (list_any (λ k. eqb m k) before) (no_owner m before h))
        (append_right inside rest (writes_once (lines.writes b) inputs (array_name a) 0 m (p ∷ ps)) (more (before ++ m ∷ []) (suc b) (one_more m before h)))

-- what a well formed netlist of fewer than 2^64 registers and cells declares breaks V4 nowhere
pub once : (lines : Lines) (n : Netlist) → IsWellFormed n → IsCounted n → once_line (declared lines n) (wiring_of n) ≡ None
unfolding once_line
once lines n h k =
    let f = declared lines n in
    let w = wiring_of n in
    let few_regs : length n.regs ≤ 2 ^ 64 = omega (arith, k.regs) in
    let few_cells : length n.cells ≤ 2 ^ 64 = omega (arith, k.cells) in
    let names = input_names n.ports in
    let ps = in_turn (port_once w.outputs) [] f.ports in
    let rs = in_turn (reg_once w.regs) [] f.regs in
    let qs = in_turn array_once [] f.arrays in
    let cs = in_turn cell_once [] f.cells in
    let bs = blocks_once [] f.array_blocks w.blocks in
    append_right (declared_once f w) bs
    (append_right ps (rs ++ (qs ++ cs)) (ports_once lines.ports n.ports h.port_names)
    (append_right rs (qs ++ cs) (regs_once lines.regs n.regs few_regs)
    (append_right qs cs (arrays_once lines.arrays n.arrays h.array_names)
    (cells_once f.cells (cells_apart lines.cells names n.arrays (cell_width n) n.cells few_cells)))))
    (each_block_once lines names [] 0 0 n.arrays tt)
