-- The text of a well formed netlist keeps V3.
use Rattle.std.proofs.Common.{◌≡◌, ℕ, zero, suc, ◌+◌, ◌-◌, ◌*◌, ◌/◌, ◌%◌, ◌^◌, ◌<◌, ◌≤◌, true, ◌&&◌, eqb, leb, ltb, List, [], ◌∷◌, ◌++◌, length, map, get_or, None, refl, sym, ap, ◌∙◌, subst, arith}
use Rattle.std.proofs.Math.Nat.{pow-succ'}
use Rattle.std.proofs.Math.Pow.{pow_mono}
use Rattle.std.proofs.lemmas.Bool.{and_from, eq-eqb, le-leb, lt-ltb}
use Rattle.std.specs.Int.{is_power_of_two}
use lib.Count.{ones, ones_step}
use Rattle.pdl_net.specs.declared.Net.{Net}
use Rattle.pdl_net.specs.declared.Net.TheVariants.{Cell as CellNet}
use Rattle.pdl_net.specs.declared.Cell.{Cell}
use Rattle.pdl_net.specs.declared.Cell.TheVariants.{Const, Not, Bin, Mux, Slice, Cat, Rep, Read}
use Rattle.pdl_net.specs.declared.Dir.{Dir}
use Rattle.pdl_net.specs.declared.Dir.TheVariants.{In, Out}
use Rattle.pdl_net.specs.declared.Port.{Port}
use Rattle.pdl_net.specs.declared.Reg.{Reg}
use Rattle.pdl_net.specs.declared.WritePort.{WritePort}
use Rattle.pdl_net.specs.declared.Array.{Array}
use Rattle.pdl_net.specs.declared.Netlist.{Netlist}
use Rattle.pdl_net.specs.Circuit.{Circuit, circuit_of}
use Rattle.pdl_net.specs.Signal.{bin_width}
use Rattle.pdl_net.specs.Meaning.{cell_signal, signal, IsThereAt, IsThere}
use Rattle.pdl_net.specs.Well.{IsWidth, IsDepth, FitsIn, IsDriven, IsWellPort, IsWellReg, IsWellWrite, IsWellArray, CellsWell}
use Rattle.pdl_net.specs.Pipe.{IsWellFormed}
use Rattle.pdl_net.proofs.CellSignals.{no_cell, cell_at}
use Rattle.pdl_net.proofs.Widths.{cells_well, width_is, fits_now}
use Rattle.pdl_net.proofs.WidthLists.{there_within}
use Rattle.pdl_vlog.specs.Layout.{input_names, cell_width}
use Rattle.pdl_vread_rules.specs.declared.table.Widths.{Widths}
use Rattle.pdl_vread_rules.specs.RuleQuestions.{first_wrong, both}
use Rattle.pdl_vread_rules.specs.Widths.{bits, widths_of, net_width, is_width, is_depth, fits, fits_cell, fits_write, asked_port, asked_reg, asked_array, asked_cell, asked_output, asked_block, asked_write, asked_writes, declared_questions, width_line}
use Rattle.pdl_verilog.specs.Declared.{Lines, declared, port_decl, reg_decls, array_name, array_decls, cell_decls, onto_drive, output_decls, reg_blocks, write_decls, onto_block, array_blocks, onto_output, output_drives, reg_drives, written_to, onto_writes, block_writes, wiring_of}
use Rattle.pdl_verilog.proofs.Questions.{right_then, append_right, each_so, GoesOn, goes_on_here, goes_on_later, goes_on_all}
use Rattle.pdl_verilog.proofs.Table.{bits_back, depth_back, IsSized, IsTable, net_is, word_is, depth_is, well_ports, well_regs, well_arrays, port_wide, reg_wide, all_sized, table}
use Rattle.pdl_word.specs.Each.{Each}
use Rattle.pdl_word.proofs.Each.{each_from_get}
use Rattle.pdl_word.specs.Words.{widest}

-- ---- widths and depths

width_right : (w : ℕ) → IsWidth w → is_width w ≡ true
width_right w h = and_from (leb 1 w) (leb w widest) (le-leb 1 w h.low) (le-leb w widest h.high)

-- a range of so many bits is right
range_right : (w : ℕ) → IsWidth w → is_width (bits (w - 1)) ≡ true
range_right w h = ap is_width (bits_back w h) ∙ width_right w h

one_bit : ones (2 ^ 0) ≡ 1
unfolding ones
one_bit = refl

ones_power : (b : ℕ) → ones (2 ^ b) ≡ 1
ones_power zero = one_bit
ones_power (suc b) =
    let p = pow-succ' 2 b in
    let s = ones_step (2 ^ suc b) in
    let half : 2 ^ suc b / 2 ≡ 2 ^ b = omega arith in
    let bit : 2 ^ suc b % 2 ≡ 0 = omega arith in
    let i : ones (2 ^ suc b / 2) ≡ 1 = ap ones half ∙ ones_power b in
    omega arith

depth_right : (d : ℕ) → IsDepth d → is_depth d ≡ true
depth_right d h =
    let b = h.bits in
    let e : d ≡ 2 ^ b = h.power in
    let low : 2 ^ 1 ≤ 2 ^ b = pow_mono {i = 1} {j = b} h.low in
    let high : 2 ^ b ≤ 2 ^ 17 = pow_mono {i = b} {j = 17} h.high in
    let l : 2 ≤ d = omega arith in
    let m : d ≤ 131072 = omega arith in
    let n : is_power_of_two d ≡ true = eq-eqb (ones d) 1 (ap ones e ∙ ones_power b) in
    and_from (leb 2 d) (leb d 131072 && is_power_of_two d) (le-leb 2 d l) (and_from (leb d 131072) (is_power_of_two d) (le-leb d 131072 m) n)

ports_right : (line : ℕ) (ps : List Port) → Each (λ p. IsWidth p.width) ps → first_wrong (map asked_port (map (port_decl line) ps)) ≡ None
ports_right line [] h = refl
ports_right line (p ∷ ps) h =
    right_then (is_width (bits (p.width - 1))) (first_wrong (map asked_port (map (port_decl line) ps))) line (range_right p.width h.0) (ports_right line ps h.1)

regs_right : (at : ℕ → ℕ) (r : ℕ) (xs : List Reg) → Each (λ x. IsWidth x.width) xs → first_wrong (map asked_reg (reg_decls at r xs)) ≡ None
regs_right at r [] h = refl
regs_right at r (x ∷ xs) h =
    right_then (is_width (bits (x.width - 1))) (first_wrong (map asked_reg (reg_decls at (suc r) xs))) (at r)
    (range_right x.width h.0) (regs_right at (suc r) xs h.1)

-- a last address of so many words is right
last_right : (d : ℕ) → IsDepth d → is_depth (d - 1 + 1) ≡ true
last_right d h = ap is_depth (depth_back d h) ∙ depth_right d h

arrays_right : (at : ℕ → ℕ) (m : ℕ) (xs : List Array) → Each IsSized xs → first_wrong (map asked_array (array_decls at m xs)) ≡ None
arrays_right at m [] h = refl
arrays_right at m (a ∷ xs) h =
    right_then (is_width (bits (a.width - 1)) && is_depth (a.depth - 1 + 1)) (first_wrong (map asked_array (array_decls at (suc m) xs))) (at m)
    (and_from (is_width (bits (a.width - 1))) (is_depth (a.depth - 1 + 1)) (range_right a.width h.0.0) (last_right a.depth h.0.1))
    (arrays_right at (suc m) xs h.1)

fits_right : (v w : ℕ) → IsWidth w → v < 2 ^ w → fits v w ≡ true
fits_right v w h l = and_from (is_width w) (ltb v (2 ^ w)) (width_right w h) (lt-ltb v (2 ^ w) l)

module _ (c : Circuit) (t : Widths) (tb : IsTable c t) where
  abbrev table_width : Net → ℕ
  table_width x = net_width t x

  -- two nets of one width
  same_widths : (a b : Net) → IsThere c a → IsThere c b → (signal c a).width ≡ (signal c b).width → eqb (table_width a) (table_width b) ≡ true
  same_widths a b h k e = eq-eqb (table_width a) (table_width b) (net_is c t tb a h ∙ (e ∙ sym (net_is c t tb b k)))

  has_bits : (a : Net) (w : ℕ) → IsThere c a → (signal c a).width ≡ w → eqb (table_width a) w ≡ true
  has_bits a w h e = eq-eqb (table_width a) w (net_is c t tb a h ∙ e)

  -- ---- cells

  -- a cell that fits is right at the width of its signal
  cell_right : (There : Net → Type 0) → ((x : Net) → There x → IsThere c x) → (g : Cell) (w : ℕ)
      → FitsIn c There (signal c) g → (cell_signal c (signal c) g).width ≡ w → fits_cell t g w ≡ true
  cell_right There is_there (Const own v) w f e = and_from (eqb own w) (fits v own) (eq-eqb own w e) (fits_right v own (record { low = f.0; high = f.1 }) f.2)
  cell_right There is_there (Not a) w f e = has_bits a w (is_there a f) e
  cell_right There is_there (Bin op a b) w f e =
      and_from (eqb (table_width a) (table_width b)) (eqb (bin_width op (table_width a)) w) (same_widths a b (is_there a f.0) (is_there b f.1) f.2)
      (eq-eqb (bin_width op (table_width a)) w (ap (bin_width op) (net_is c t tb a (is_there a f.0)) ∙ e))
  cell_right There is_there (Mux x a b) w f e =
      and_from (eqb (table_width x) 1) (eqb (table_width a) (table_width b) && eqb (table_width a) w) (has_bits x 1 (is_there x f.0) f.3)
      (and_from (eqb (table_width a) (table_width b)) (eqb (table_width a) w)
      (same_widths a b (is_there a f.1) (is_there b f.2) f.4) (has_bits a w (is_there a f.1) e))
  cell_right There is_there (Slice a high low) w f e =
      let i : low ≤ high = f.1 in
      let j : high < (signal c a).width = f.2 in
      let s : table_width a ≡ (signal c a).width = net_is c t tb a (is_there a f.0) in
      let k : high < table_width a = subst (λ z. high < z) (sym s) j in
      let q : high + 1 - low ≡ w = e in
      let r : high - low + 1 ≡ w = omega arith in
      and_from (leb low high) (ltb high (table_width a) && eqb (high - low + 1) w) (le-leb low high i)
      (and_from (ltb high (table_width a)) (eqb (high - low + 1) w) (lt-ltb high (table_width a) k) (eq-eqb (high - low + 1) w r))
  cell_right There is_there (Cat a b) w f e =
      eq-eqb (table_width a + table_width b) w
      (ap (λ z. z + table_width b) (net_is c t tb a (is_there a f.0)) ∙ (ap (λ z. (signal c a).width + z) (net_is c t tb b (is_there b f.1)) ∙ e))
  cell_right There is_there (Rep k a) w f e =
      and_from (leb 1 k) (eqb (k * table_width a) w) (le-leb 1 k f.1) (eq-eqb (k * table_width a) w (ap (λ z. k * z) (net_is c t tb a (is_there a f.0)) ∙ e))
  cell_right There is_there (Read m a) w f e =
      and_from (eqb (2 ^ table_width a) (get_or t.depths m 0)) (eqb (get_or t.words m 0) w)
      (eq-eqb (2 ^ table_width a) (get_or t.depths m 0) (ap (λ z. 2 ^ z) (net_is c t tb a (is_there a f.1)) ∙ (f.2 ∙ sym (depth_is c t tb m f.0))))
      (eq-eqb (get_or t.words m 0) w (word_is c t tb m f.0 ∙ e))

  -- a cell is right at a width
  abbrev IsRight : ℕ → Cell → Type 0
  IsRight w g = IsWidth w × (fits_cell t g w ≡ true)

  decl_right : (w : ℕ) (g : Cell) → IsRight w g → (is_width (bits (w - 1)) && fits_cell t g (bits (w - 1))) ≡ true
  decl_right w g h = ap (λ z. is_width z && fits_cell t g z) (bits_back w h.0) ∙ and_from (is_width w) (fits_cell t g w) (width_right w h.0) h.1

  cells_right : (at : ℕ → ℕ) (inputs : List (List ℕ)) (arrays : List Array) (width : ℕ → ℕ) (k : ℕ) (gs : List Cell)
      → ((j i : ℕ) → k + j ≡ i → j < length gs → IsRight (width i) (get_or gs j no_cell))
      → first_wrong (both (asked_cell t) (cell_decls at inputs arrays width k gs) gs) ≡ None
  cells_right at inputs arrays width k [] h = refl
  cells_right at inputs arrays width k (g ∷ gs) h =
      right_then (is_width (bits (width k - 1)) && fits_cell t g (bits (width k - 1)))
      (first_wrong (both (asked_cell t) (cell_decls at inputs arrays width (suc k) gs) gs)) (at k)
      (decl_right (width k) g (h 0 k (omega arith) (omega arith)))
      (cells_right at inputs arrays width (suc k) gs (λ j i e l. h (suc j) i (omega arith) (omega arith)))

  -- each cell is right at its width
  each_cell : CellsWell c → (k : ℕ) → k < length c.cells → IsRight (signal c (CellNet k)).width (cell_at c k)
  each_cell w k l =
      let n : k ≤ length c.cells = omega arith in (
        w.widths k l,
        cell_right (IsThereAt c k) (λ x h. there_within c k x n h) (cell_at c k)
            (signal c (CellNet k)).width (fits_now c w k (cell_at c k) l refl) (sym (width_is c w k l)),
      )

  -- ---- outputs

  outputs_right : (at : ℕ → ℕ) (inputs : List (List ℕ)) (i k : ℕ) (ps : List Port)
      → GoesOn t.ports k (map (λ p. p.width) ps) → Each (IsWellPort c) ps
      → first_wrong (both (asked_output t) (output_decls at inputs i ps) (output_drives k ps)) ≡ None
  outputs_right at inputs i k [] h w = refl
  outputs_right at inputs i k (p ∷ ps) h w =
      go (λ m. outputs_right at inputs m (suc k) ps (goes_on_later t.ports k p.width (map (λ p. p.width) ps) h) w.1) p.dir w.0.driven
    where
      go : ((m : ℕ) → first_wrong (both (asked_output t) (output_decls at inputs m ps) (output_drives (suc k) ps)) ≡ None) → (d : Dir) → IsDriven c p.width d
          → first_wrong
          (both (asked_output t) (onto_drive at inputs i p.name d (λ j. output_decls at inputs j ps)) (onto_output k d (output_drives (suc k) ps)))
          ≡ None
      go more In q = more i
      go more (Out x) q =
          right_then (eqb (table_width x) (get_or t.ports k 0))
          (first_wrong (both (asked_output t) (output_decls at inputs (suc i) ps) (output_drives (suc k) ps)))
          (at i)
          (has_bits x (get_or t.ports k 0) q.0 (q.1 ∙ sym (goes_on_here t.ports k p.width (map (λ p. p.width) ps) h)))
          (more (suc i))

  -- ---- registers

  blocks_right : (at : ℕ → ℕ) (inputs : List (List ℕ)) (r : ℕ) (xs : List Reg) → GoesOn t.regs r (map (λ x. x.width) xs)
      → Each (IsWellReg c) xs → first_wrong (both (asked_block t) (reg_blocks at inputs r xs) (reg_drives r xs)) ≡ None
  blocks_right at inputs r [] h w = refl
  blocks_right at inputs r (x ∷ xs) h w =
      let k = w.0 in
      let own : eqb x.width (get_or t.regs r 0) ≡ true = eq-eqb x.width (get_or t.regs r 0) (sym (goes_on_here t.regs r x.width (map (λ x. x.width) xs) h)) in
      let reset : fits x.reset x.width ≡ true = fits_right x.reset x.width (record { low = k.low; high = k.high }) k.reset in
      right_then (eqb x.width (get_or t.regs r 0) && (fits x.reset x.width && eqb (table_width x.next) x.width))
      (first_wrong (both (asked_block t) (reg_blocks at inputs (suc r) xs) (reg_drives (suc r) xs))) (at r)
      (and_from (eqb x.width (get_or t.regs r 0))
      (fits x.reset x.width && eqb (table_width x.next) x.width) own
      (and_from (fits x.reset x.width) (eqb (table_width x.next) x.width) reset (has_bits x.next x.width k.next k.width)))
      (blocks_right at inputs (suc r) xs (goes_on_later t.regs r x.width (map (λ x. x.width) xs) h) w.1)

  -- ---- arrays

  write_right : (m : ℕ) (a : Array) → get_or t.words m 0 ≡ a.width → get_or t.depths m 0 ≡ a.depth → (p : WritePort)
      → IsWellWrite c a p → fits_write t (written_to m p) ≡ true
  write_right m a e d p k =
      let depth = get_or t.depths m 0 in
      let word = get_or t.words m 0 in
      and_from (eqb (table_width p.enable) 1) (eqb (2 ^ table_width p.addr) depth && eqb (table_width p.value) word) (has_bits p.enable 1 k.enable k.one)
      (and_from (eqb (2 ^ table_width p.addr) depth) (eqb (table_width p.value) word)
      (eq-eqb (2 ^ table_width p.addr) depth (ap (λ z. 2 ^ z) (net_is c t tb p.addr k.addr) ∙ (k.reach ∙ sym d)))
      (has_bits p.value word k.value (k.width ∙ sym e)))

  block_right : (at : ℕ → ℕ) (inputs : List (List ℕ)) (name : List ℕ) (j m : ℕ) (ps : List WritePort)
      → Each (λ p. fits_write t (written_to m p) ≡ true) ps
      → first_wrong (both (asked_write t) (write_decls at inputs name j ps) (map (written_to m) ps)) ≡ None
  block_right at inputs name j m [] h = refl
  block_right at inputs name j m (p ∷ ps) h =
      right_then (fits_write t (written_to m p))
      (first_wrong (both (asked_write t) (write_decls at inputs name (suc j) ps) (map (written_to m) ps)))
      (at j) h.0 (block_right at inputs name (suc j) m ps h.1)

  writes_right : (lines : Lines) (inputs : List (List ℕ)) (b m : ℕ) (xs : List Array)
      → GoesOn t.words m (map (λ a. a.width) xs) → GoesOn t.depths m (map (λ a. a.depth) xs) → Each (IsWellArray c) xs
      → first_wrong (asked_writes t (array_blocks lines inputs b xs) (block_writes m xs)) ≡ None
  writes_right lines inputs b m [] h k w = refl
  writes_right lines inputs b m (a ∷ xs) h k w =
      go
      (λ z. writes_right lines inputs z (suc m) xs (goes_on_later t.words m a.width (map (λ a. a.width) xs) h)
      (goes_on_later t.depths m a.depth (map (λ a. a.depth) xs) k) w.1) a.writes
      (each_so (IsWellWrite c a) (λ p. fits_write t (written_to m p) ≡ true) a.writes
      (write_right m a (goes_on_here t.words m a.width (map (λ a. a.width) xs) h) (goes_on_here t.depths m a.depth (map (λ a. a.depth) xs) k))
      (each_from_get (IsWellWrite c a) a.writes w.0.writes))
    where
      go : ((z : ℕ) → first_wrong (asked_writes t (array_blocks lines inputs z xs) (block_writes (suc m) xs)) ≡ None)
          → (ps : List WritePort) → Each (λ p. fits_write t (written_to m p) ≡ true) ps
          → first_wrong
          (asked_writes t (onto_block lines inputs b (array_name a) ps (λ j. array_blocks lines inputs j xs)) (onto_writes m ps (block_writes (suc m) xs)))
          ≡ None
      go more [] q = more b
      go more (p ∷ ps) q =
          append_right (both (asked_write t) (write_decls (lines.writes b) inputs (array_name a) 0 (p ∷ ps)) (map (written_to m) (p ∷ ps)))
          (asked_writes t (array_blocks lines inputs (suc b) xs) (block_writes (suc m) xs))
          (block_right (lines.writes b) inputs (array_name a) 0 m (p ∷ ps) q) (more (suc b))

-- what a well formed netlist's text declares breaks V3 nowhere
pub right : (lines : Lines) (n : Netlist) → IsWellFormed n → width_line (declared lines n) (wiring_of n) ≡ None
unfolding width_line
right lines n h =
    let w = h.well in
    let c = circuit_of n in
    let f = declared lines n in
    let t = widths_of f in
    let tb = table lines n w in
    let names = input_names n.ports in
    let ps = well_ports c w in
    let xs = well_regs c w in
    let ys = well_arrays c w in
    let rs = map asked_reg f.regs in
    let qs = map asked_array f.arrays in
    let ws = asked_writes t f.array_blocks (block_writes 0 n.arrays) in
    let bs = both (asked_block t) f.reg_blocks (reg_drives 0 n.regs) in
    let os = both (asked_output t) f.outputs (output_drives 0 n.ports) in
    let cs = both (asked_cell t) f.cells n.cells in
    let head =
    append_right (map asked_port f.ports) (rs ++ qs) (ports_right lines.ports n.ports (port_wide c n.ports ps))
    (append_right rs qs (regs_right lines.regs 0 n.regs (reg_wide c n.regs xs)) (arrays_right lines.arrays 0 n.arrays (all_sized c n.arrays ys))) in
    let last =
    writes_right c t tb lines names 0 0 n.arrays (goes_on_all t.words (map (λ a. a.width) n.arrays) tb.words)
    (goes_on_all t.depths (map (λ a. a.depth) n.arrays) tb.depths) ys in
    let blocks = blocks_right c t tb lines.blocks names 0 n.regs (goes_on_all t.regs (map (λ r. r.width) n.regs) tb.regs) xs in
    let outs = outputs_right c t tb lines.outputs names 0 0 n.ports (goes_on_all t.ports (map (λ p. p.width) n.ports) tb.ports) ps in
    let here : (k : ℕ) → k < length n.cells → IsRight c t tb (cell_width n k) (get_or n.cells k no_cell) = λ k l. each_cell c t tb (cells_well c w) k l in
    let cells =
    cells_right c t tb lines.cells names n.arrays (cell_width n) 0 n.cells
    (λ j i e l. let s : j ≡ i = omega arith in subst (λ z. IsRight c t tb (cell_width n z) (get_or n.cells j no_cell)) s (here j l)) in
    append_right (declared_questions f)
    (cs ++ (os ++ (bs ++ ws))) head (append_right cs (os ++ (bs ++ ws)) cells (append_right os (bs ++ ws) outs (append_right bs ws blocks last)))
