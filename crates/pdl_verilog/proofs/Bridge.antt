-- The file of which the written text is the text is the one that a netlist declares.
use Rattle.std.proofs.Common.{◌≡◌, ℕ, suc, ◌+◌, ◌-◌, List, [], ◌∷◌, ◌++◌, map, get_or, codes, refl, sym, ap, ◌∙◌, subst, arith}
use Rattle.pdl_net.specs.declared.Cell.{Cell}
use Rattle.pdl_net.specs.declared.Cell.TheVariants as c
use Rattle.pdl_net.specs.declared.Dir.{Dir}
use Rattle.pdl_net.specs.declared.Dir.TheVariants.{In, Out}
use Rattle.pdl_net.specs.declared.Port.{Port}
use Rattle.pdl_net.specs.declared.Reg.{Reg}
use Rattle.pdl_net.specs.declared.WritePort.{WritePort}
use Rattle.pdl_net.specs.declared.Array.{Array}
use Rattle.pdl_net.specs.declared.Netlist.{Netlist}
use Rattle.pdl_vread_text.specs.declared.file.File.{File}
use Rattle.pdl_vread_text.specs.declared.file.PortDecl.{PortDecl}
use Rattle.pdl_vread_text.specs.declared.file.RegDecl.{RegDecl}
use Rattle.pdl_vread_text.specs.declared.file.ArrayDecl.{ArrayDecl}
use Rattle.pdl_vread_text.specs.declared.file.CellDecl.{CellDecl}
use Rattle.pdl_vread_text.specs.declared.file.RegBlock.{RegBlock}
use Rattle.pdl_vread_text.specs.declared.file.OutputDecl.{OutputDecl}
use Rattle.pdl_vread_text.specs.declared.file.ArrayBlock.{ArrayBlock}
use Rattle.pdl_vlog.specs.Layout.{net, input_names, cell_width}
use Rattle.pdl_verilog.proofs.Head as head
use Rattle.pdl_verilog.proofs.Declarations as declaring
use Rattle.pdl_verilog.proofs.Arrays as arrays
use Rattle.pdl_verilog.proofs.Terms.{cell_decl}
use Rattle.pdl_verilog.proofs.Drives.{output_decl}
use Rattle.pdl_verilog.proofs.AllCells as cells
use Rattle.pdl_verilog.proofs.AllDrives as drives
use Rattle.pdl_verilog.proofs.AllWrites as writing
use Rattle.pdl_verilog.proofs.FileText.{declared_file, regs_at, arrays_at, cells_at, outputs_at, blocks_at, writes_at}
use Rattle.pdl_verilog.specs.Declared.{Lines, port_decl, reg_decls, array_decls, term, cell_name, cell_decls, onto_drive, output_decls, reg_blocks, array_name, write_decls, onto_block, array_blocks, declared}

-- ---- lists of declarations, each a line or two after the one before

ports_same : (ps : List Port) → head.port_decls 1 ps ≡ map (port_decl 1) ps
ports_same [] = refl
ports_same (p ∷ ps) = ap (λ z. port_decl 1 p ∷ z) (ports_same ps)

next_place : (at k : ℕ) → (at + k) + 1 ≡ at + suc k
next_place at k = omega arith

regs_same : (at k : ℕ) (xs : List Reg) → declaring.reg_decls (at + k) k xs ≡ reg_decls (λ i. at + i) k xs
regs_same at k [] = refl
regs_same at k (x ∷ xs) =
    ap (λ z. declaring.reg_decl (at + k) k x ∷ z)
    (ap (λ l. declaring.reg_decls l (suc k) xs) (next_place at k) ∙ regs_same at (suc k) xs)

arrays_same : (at k : ℕ) (xs : List Array) → arrays.array_decls (at + k) xs ≡ array_decls (λ i. at + i) k xs
arrays_same at k [] = refl
arrays_same at k (x ∷ xs) =
    ap (λ z. arrays.array_decl (at + k) x ∷ z)
    (ap (λ l. arrays.array_decls l xs) (next_place at k) ∙ arrays_same at (suc k) xs)

term_same : (inputs : List (List ℕ)) (all : List Array) (g : Cell) → cells.term_of inputs all g ≡ term inputs all g
term_same inputs all (c.Const w v) = refl
term_same inputs all (c.Not a) = refl
term_same inputs all (c.Bin op a b) = refl
term_same inputs all (c.Mux x a b) = refl
term_same inputs all (c.Slice a high low) = refl
term_same inputs all (c.Cat a b) = refl
term_same inputs all (c.Rep k a) = refl
term_same inputs all (c.Read m a) = refl

next_cell : (at k : ℕ) → ((at + (k + k)) + 1) + 1 ≡ at + (suc k + suc k)
next_cell at k = omega arith

cells_same : (inputs : List (List ℕ)) (all : List Array) (width : ℕ → ℕ) (at k : ℕ) (gs : List Cell)
    → cells.cell_decls inputs all width (at + (k + k)) k gs ≡ cell_decls (λ i. (at + (i + i)) + 1) inputs all width k gs
cells_same inputs all width at k [] = refl
cells_same inputs all width at k (g ∷ gs) =
    let one = cell_decl ((at + (k + k)) + 1) (width k - 1) (cell_name k) in
    ap (λ t. one t ∷ cells.cell_decls inputs all width (((at + (k + k)) + 1) + 1) (suc k) gs) (term_same inputs all g)
    ∙ ap (λ z. one (term inputs all g) ∷ z)
    (ap (λ l. cells.cell_decls inputs all width l (suc k) gs) (next_cell at k) ∙ cells_same inputs all width at (suc k) gs)

outputs_same : (inputs : List (List ℕ)) (at k : ℕ) (ps : List Port)
    → drives.output_decls inputs (at + k) ps ≡ output_decls (λ i. at + i) inputs k ps
outputs_same inputs at k [] = refl
outputs_same inputs at k (p ∷ ps) = go (λ j. outputs_same inputs at j ps) p.dir
  where
    go : ((j : ℕ) → drives.output_decls inputs (at + j) ps ≡ output_decls (λ i. at + i) inputs j ps) → (d : Dir)
        → drives.driven_by inputs (at + k) d p.name ++ drives.output_decls inputs (drives.next_line (at + k) d) ps
        ≡ onto_drive (λ i. at + i) inputs k p.name d (λ j. output_decls (λ i. at + i) inputs j ps)
    go more In = more k
    go more (Out x) = ap (λ z. output_decl (at + k) p.name (net inputs x) ∷ z) (ap (λ l. drives.output_decls inputs l ps) (next_place at k) ∙ more (suc k))

blocks_same : (inputs : List (List ℕ)) (at k : ℕ) (xs : List Reg)
    → drives.block_decls inputs (at + k) k xs ≡ reg_blocks (λ i. at + i) inputs k xs
blocks_same inputs at k [] = refl
blocks_same inputs at k (x ∷ xs) =
    ap (λ z. drives.block_decl inputs (at + k) k x ∷ z)
    (ap (λ l. drives.block_decls inputs l (suc k) xs) (next_place at k) ∙ blocks_same inputs at (suc k) xs)

-- ---- blocks of arrays

writes_same : (inputs : List (List ℕ)) (name : List ℕ) (lines : ℕ → ℕ) (at k : ℕ) (ps : List WritePort) → ((i : ℕ) → lines i ≡ at + i)
    → writing.write_decls inputs name (at + k) ps ≡ write_decls lines inputs (codes "a_" ++ name) k ps
writes_same inputs name lines at k [] h = refl
writes_same inputs name lines at k (p ∷ ps) h =
    ap
    (λ l. record { line = l; enable = net inputs p.enable; array = codes "a_" ++ name; addr = net inputs p.addr; value = net inputs p.value }
    ∷ writing.write_decls inputs name ((at + k) + 1) ps)
    (sym (h k))
    ∙ ap (λ z. record { line = lines k; enable = net inputs p.enable; array = codes "a_" ++ name; addr = net inputs p.addr; value = net inputs p.value } ∷ z)
    (ap (λ l. writing.write_decls inputs name l ps) (next_place at k) ∙ writes_same inputs name lines at (suc k) ps h)

abbrev no_block : ArrayBlock
no_block = record { line = 0; writes = [] }

-- from the b-th block on the lines are those of these blocks, and each write stands on the next line
record AreLines (lines : Lines) (b : ℕ) (ds : List ArrayBlock) : Type 0 where
  pub blocks : (i : ℕ) → lines.array_blocks (b + i) ≡ (get_or ds i no_block).line
  pub writes : (i j : ℕ) → lines.writes (b + i) j ≡ (lines.array_blocks (b + i) + 1) + j

later_lines : (lines : Lines) (b : ℕ) (d : ArrayBlock) (ds : List ArrayBlock) → AreLines lines b (d ∷ ds) → AreLines lines (suc b) ds
later_lines lines b d ds h = record {
  blocks = λ i. let n : b + suc i ≡ suc b + i = omega arith in subst (λ z. lines.array_blocks z ≡ (get_or ds i no_block).line) n (h.blocks (suc i));
  writes = λ i j. let n : b + suc i ≡ suc b + i = omega arith in subst (λ z. lines.writes z j ≡ (lines.array_blocks z + 1) + j) n (h.writes (suc i) j);
}

array_blocks_same : (lines : Lines) (inputs : List (List ℕ)) (line b : ℕ) (xs : List Array)
    → AreLines lines b (writing.array_blocks_decls inputs line xs)
    → writing.array_blocks_decls inputs line xs ≡ array_blocks lines inputs b xs
array_blocks_same lines inputs line b [] h = refl
array_blocks_same lines inputs line b (a ∷ xs) h = go (λ l k e. array_blocks_same lines inputs l k xs e) a.writes h
  where
    go : ((l k : ℕ) → AreLines lines k (writing.array_blocks_decls inputs l xs) → writing.array_blocks_decls inputs l xs ≡ array_blocks lines inputs k xs)
        → (ps : List WritePort)
        → AreLines lines b (writing.array_block_decls inputs a.name line ps ++ writing.array_blocks_decls inputs (writing.array_block_end line ps) xs)
        → writing.array_block_decls inputs a.name line ps ++ writing.array_blocks_decls inputs (writing.array_block_end line ps) xs
        ≡ onto_block lines inputs b (array_name a) ps (λ j. array_blocks lines inputs j xs)
    go more [] e = more line b e
    go more (p ∷ ps) e =
        let past = writing.array_block_end line (p ∷ ps) in
        let rest = writing.array_blocks_decls inputs past xs in
        let first : ArrayBlock = record { line = line; writes = writing.write_decls inputs a.name (line + 1) (p ∷ ps) } in
        let n : b + 0 ≡ b = omega arith in
        let here : lines.array_blocks b ≡ line = subst (λ z. lines.array_blocks z ≡ line) n (e.blocks 0) in
        let place : (j : ℕ) → lines.writes b j ≡ (line + 1) + j = λ j.
        subst (λ z. lines.writes b j ≡ (z + 1) + j) here (subst (λ z. lines.writes z j ≡ (lines.array_blocks z + 1) + j) n (e.writes 0 j)) in
        let m : line + 1 ≡ (line + 1) + 0 = omega arith in
        let inside : writing.write_decls inputs a.name (line + 1) (p ∷ ps) ≡ write_decls (lines.writes b) inputs (array_name a) 0 (p ∷ ps) =
        ap (λ l. writing.write_decls inputs a.name l (p ∷ ps)) m ∙ writes_same inputs a.name (lines.writes b) (line + 1) 0 (p ∷ ps) place in
        ap (λ ws. record { line = line; writes = ws } ∷ rest) inside
        ∙ (ap (λ l. record { line = l; writes = write_decls (lines.writes b) inputs (array_name a) 0 (p ∷ ps) } ∷ rest) (sym here)
        ∙ ap (λ z. record { line = lines.array_blocks b; writes = write_decls (lines.writes b) inputs (array_name a) 0 (p ∷ ps) } ∷ z)
        (more past (suc b) (later_lines lines b first rest e)))

-- ---- the whole file

-- the blocks of arrays of the written text
abbrev written_blocks : Netlist → List ArrayBlock
written_blocks n = writing.array_blocks_decls (input_names n.ports) (writes_at n) n.arrays

-- the lines of the written text
abbrev pub lines_of : Netlist → Lines
lines_of n = record {
  ports = 1;
  regs = λ i. regs_at n + i;
  arrays = λ i. arrays_at n + i;
  cells = λ i. (cells_at n + (i + i)) + 1;
  outputs = λ i. outputs_at n + i;
  blocks = λ i. blocks_at n + i;
  array_blocks = λ i. (get_or (written_blocks n) i no_block).line;
  writes = λ i j. ((get_or (written_blocks n) i no_block).line + 1) + j;
}

no_more : (at : ℕ) → at ≡ at + 0
no_more at = omega arith

zero_first : (i : ℕ) → 0 + i ≡ i
zero_first i = omega arith

-- a file of a netlist with these declarations
abbrev file_with : Netlist → List PortDecl → List RegDecl → List ArrayDecl → List CellDecl → List OutputDecl
    → List RegBlock → List ArrayBlock → File
file_with n ps rs xs gs os bs ws =
    record {
      line = 1;
      name = n.name;
      reset_line = 1;
      reset_high = 0;
      ports = ps;
      regs = rs;
      arrays = xs;
      cells = gs;
      outputs = os;
      reg_blocks = bs;
      array_blocks = ws;
    }

same_with : (n : Netlist)
    {ps qs : List PortDecl} {rs rs' : List RegDecl} {xs xs' : List ArrayDecl} {gs gs' : List CellDecl}
    {os os' : List OutputDecl} {bs bs' : List RegBlock} {ws ws' : List ArrayBlock}
    → ps ≡ qs → rs ≡ rs' → xs ≡ xs' → gs ≡ gs' → os ≡ os' → bs ≡ bs' → ws ≡ ws'
    → file_with n ps rs xs gs os bs ws ≡ file_with n qs rs' xs' gs' os' bs' ws'
same_with n e1 e2 e3 e4 e5 e6 e7 = rw (e1, e2, e3, e4, e5, e6, e7) refl

-- the file that a netlist's text declares, line by line, is the one that the netlist declares on these lines
pub same_file : (n : Netlist) → declared_file n ≡ declared (lines_of n) n
same_file n =
    let inputs = input_names n.ports in
    let rs = ap (λ l. declaring.reg_decls l 0 n.regs) (no_more (regs_at n)) ∙ regs_same (regs_at n) 0 n.regs in
    let xs = ap (λ l. arrays.array_decls l n.arrays) (no_more (arrays_at n)) ∙ arrays_same (arrays_at n) 0 n.arrays in
    let gs =
    ap (λ l. cells.cell_decls inputs n.arrays (cell_width n) l 0 n.cells) (no_more (cells_at n))
    ∙ cells_same inputs n.arrays (cell_width n) (cells_at n) 0 n.cells in
    let os = ap (λ l. drives.output_decls inputs l n.ports) (no_more (outputs_at n)) ∙ outputs_same inputs (outputs_at n) 0 n.ports in
    let bs = ap (λ l. drives.block_decls inputs l 0 n.regs) (no_more (blocks_at n)) ∙ blocks_same inputs (blocks_at n) 0 n.regs in
    let ws =
    array_blocks_same (lines_of n) inputs (writes_at n) 0 n.arrays
    (record { blocks = λ i. ap (λ z. (get_or (written_blocks n) z no_block).line) (zero_first i); writes = λ i j. refl }) in
    same_with n (ports_same n.ports) rs xs gs os bs ws
