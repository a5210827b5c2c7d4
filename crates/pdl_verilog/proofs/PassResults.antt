-- What the passes over a file find, one declaration after another, where each name stands for what is meant.
use Rattle.std.proofs.Common.{◌≡◌, ℕ, suc, ◌+◌, ◌<◌, ◌≤◌, cond, List, [], ◌∷◌, length, map, get_or, bytes_eq, Option, Some, None, Result, Ok, refl, ap, ◌∙◌, lt-ltb, arith}
use Rattle.std.specs.List.{slice_get}
use Rattle.pdl_word.proofs.Bytes.{bytes_refl}
use Rattle.pdl_net.specs.declared.Net.{Net}
use Rattle.pdl_net.specs.declared.Cell.{Cell}
use Rattle.pdl_net.specs.declared.Dir.{Dir}
use Rattle.pdl_net.specs.declared.Dir.TheVariants.{In, Out}
use Rattle.pdl_net.specs.declared.Port.{Port}
use Rattle.pdl_net.specs.declared.Reg.{Reg}
use Rattle.pdl_net.specs.declared.WritePort.{WritePort}
use Rattle.pdl_net.specs.declared.Array.{Array}
use Rattle.pdl_net.proofs.CellSignals.{no_cell}
use Rattle.pdl_vread_text.specs.declared.file.File.{File}
use Rattle.pdl_vread_text.specs.declared.file.WriteDecl.{WriteDecl}
use Rattle.pdl_vlog.specs.Layout.{net}
use Rattle.pdl_vread_nets.specs.declared.wiring.OutputDrive.{OutputDrive}
use Rattle.pdl_vread_nets.specs.declared.wiring.RegDrive.{RegDrive}
use Rattle.pdl_vread_nets.specs.declared.wiring.ArrayWrite.{ArrayWrite}
use Rattle.pdl_vread_nets.specs.Wired.{small, with_one, with_two, with_three, net_of, output_of, reg_place, array_place, cell_of, wired_array, onto_line, onto_block, cells_from, all_outputs, all_regs, writes_of, blocks_of}
use Rattle.pdl_verilog.specs.Declared as text
use Rattle.pdl_verilog.specs.Declared.{Lines, reg_name, cell_name, array_name, term, cell_decls, output_decls, reg_blocks, write_decls, array_blocks, onto_output, output_drives, reg_drives, written_to, onto_writes, block_writes}
use Rattle.pdl_word.specs.Words.{widest}

-- ---- one declaration

-- a declaration of one name is found where what the name stands for is
pub one_found : {A B : Type 0} (make : A → B) (o : Option A) (a : A) → o ≡ Some a → with_one make o ≡ Some (make a)
one_found make o a e = ap (with_one make) e

-- a declaration of two names is found where what both stand for is
pub two_found : {A B C : Type 0} (make : A → B → C) (o : Option A) (p : Option B) (a : A) (b : B)
    → o ≡ Some a → p ≡ Some b → with_two make o p ≡ Some (make a b)
two_found make o p a b e g = ap (λ z. with_two make z p) e ∙ one_found (make a) p b g

-- a declaration of three names is found where what all stand for is
pub three_found : {A B C D : Type 0} (make : A → B → C → D) (o : Option A) (p : Option B) (q : Option C) (a : A) (b : B) (d : C)
    → o ≡ Some a → p ≡ Some b → q ≡ Some d → with_three make o p q ≡ Some (make a b d)
three_found make o p q a b d e g i = ap (λ z. with_three make z p q) e ∙ two_found (make a) p q b d g i

-- a width of at most widest bits is not cut
pub small_same : (w : ℕ) → w ≤ widest → small w ≡ w
small_same w l = let b : w < 255 = omega arith in ap (λ t. cond t w 255) (lt-ltb w 255 b)

line_more : {B : Type 0} (o : Option B) (line : ℕ) (rest : Result (List B) ℕ) (y : B) (ys : List B)
    → o ≡ Some y → rest ≡ Ok ys → onto_line o line rest ≡ Ok (y ∷ ys)
line_more o line rest y ys e g = ap (λ z. onto_line z line rest) e ∙ ap (onto_line (Some y) line) g

-- ---- cells

-- all cells that are declared are found where the names in each of them stand for its nets
pub cells_found : (f : File) (at : ℕ → ℕ) (inputs : List (List ℕ)) (arrays : List Array) (width : ℕ → ℕ) (k : ℕ) (gs : List Cell)
    → ((i j : ℕ) → k + i ≡ j → i < length gs → cell_of f j (term inputs arrays (get_or gs i no_cell)) ≡ Some (get_or gs i no_cell))
    → cells_from f k (cell_decls at inputs arrays width k gs) ≡ Ok gs
cells_found f at inputs arrays width k [] h = refl
cells_found f at inputs arrays width k (g ∷ gs) h =
    let own = cell_of f k (term inputs arrays g) in
    let more = cells_found f at inputs arrays width (suc k) gs (λ i j e l. h (suc i) j (omega arith) (omega arith)) in
    line_more (cond (bytes_eq (cell_name k) (cell_name k)) own None) (at k) (cells_from f (suc k) (cell_decls at inputs arrays width (suc k) gs)) g gs
    (ap (λ b. cond b own None) (bytes_refl (cell_name k)) ∙ h 0 k (omega arith) (omega arith)) more

-- as many cells are declared as there are
pub length_cells : (at : ℕ → ℕ) (inputs : List (List ℕ)) (arrays : List Array) (width : ℕ → ℕ) (k : ℕ) (gs : List Cell)
    → length (cell_decls at inputs arrays width k gs) ≡ length gs
length_cells at inputs arrays width k [] = refl
length_cells at inputs arrays width k (g ∷ gs) = ap suc (length_cells at inputs arrays width (suc k) gs)

-- after so many cells of a file, over the names of inputs
module _ (f : File) (k : ℕ) (inputs : List (List ℕ)) where
  -- the name of a net stands for it
  abbrev pub IsNet : Net → Type 0
  IsNet x = net_of f k (net inputs x) ≡ Some x

  -- ---- outputs

  abbrev output_drive : ℕ → Net → OutputDrive
  output_drive i x = record { port = i; net = x }

  -- the name of an output stands for the port at a place, and that of its net for the net
  abbrev pub IsOutput : ℕ → List ℕ → Dir → Type 0
  IsOutput m name In = Unit {0}
  IsOutput m name (Out x) = (output_of f name ≡ Some m) × IsNet x

  -- the declared `assign`s read as the drives of the outputs, where their names stand for ports and nets
  pub outputs_found : (at : ℕ → ℕ) (i m : ℕ) (ps : List Port)
      → ((j o : ℕ) (p : Port) → m + j ≡ o → slice_get ps j ≡ Some p → IsOutput o p.name p.dir)
      → all_outputs f k (output_decls at inputs i ps) ≡ Ok (output_drives m ps)
  outputs_found at i m [] h = refl
  outputs_found at i m (p ∷ ps) h = go p.dir (h 0 m p (omega arith) refl) (λ b. outputs_found at b (suc m) ps (λ j o q e l. h (suc j) o q (omega arith) l))
    where
      go : (d : Dir) → IsOutput m p.name d → ((b : ℕ) → all_outputs f k (output_decls at inputs b ps) ≡ Ok (output_drives (suc m) ps))
          → all_outputs f k (text.onto_drive at inputs i p.name d (λ j. output_decls at inputs j ps)) ≡ Ok (onto_output m d (output_drives (suc m) ps))
      go In r more = more i
      go (Out x) r more =
          let own = with_two output_drive (output_of f p.name) (net_of f k (net inputs x)) in
          line_more own (at i) (all_outputs f k (output_decls at inputs (suc i) ps)) (output_drive m x) (output_drives (suc m) ps)
          (two_found output_drive (output_of f p.name) (net_of f k (net inputs x)) m x r.0 r.1) (more (suc i))

  -- ---- registers

  abbrev reg_drive : ℕ → ℕ → ℕ → Net → RegDrive
  reg_drive width reset r x = record { reg = r; width = width; reset = reset; net = x }

  -- the name of a register stands for it, and that of its next value for that net
  pub record IsRegister (r : ℕ) (x : Reg) : Type 0 where
    pub name : reg_place f (reg_name r) ≡ Some r
    pub width : x.width ≤ widest
    pub next : IsNet x.next

  -- the declared blocks of registers read as what they give them, where their names stand for registers and nets
  pub regs_found : (at : ℕ → ℕ) (r : ℕ) (xs : List Reg)
      → ((i j : ℕ) (x : Reg) → r + i ≡ j → slice_get xs i ≡ Some x → IsRegister j x)
      → all_regs f k (reg_blocks at inputs r xs) ≡ Ok (reg_drives r xs)
  regs_found at r [] h = refl
  regs_found at r (x ∷ xs) h =
      let own = h 0 r x (omega arith) refl in
      let more = regs_found at (suc r) xs (λ i j y e l. h (suc i) j y (omega arith) l) in
      let make = reg_drive (small x.width) x.reset in
      let found = two_found make (reg_place f (reg_name r)) (net_of f k (net inputs x.next)) r x.next own.name own.next in
      line_more (with_two make (reg_place f (reg_name r)) (net_of f k (net inputs x.next))) (at r)
      (all_regs f k (reg_blocks at inputs (suc r) xs)) (reg_drive x.width x.reset r x.next) (reg_drives (suc r) xs)
      (found ∙ ap (λ w. Some (reg_drive w x.reset r x.next)) (small_same x.width own.width)) more

  -- ---- arrays

  abbrev array_write : ℕ → Net → Net → Net → ArrayWrite
  array_write m e a v = record { array = m; port = record { enable = e; addr = a; value = v } }

  -- the names of a write port's nets stand for them
  pub record IsWrite (p : WritePort) : Type 0 where
    pub enable : IsNet p.enable
    pub addr : IsNet p.addr
    pub value : IsNet p.value

  writes_found : (at : ℕ → ℕ) (name : List ℕ) (m j : ℕ) (ps : List WritePort) → array_place f name ≡ Some m
      → ((i : ℕ) (p : WritePort) → slice_get ps i ≡ Some p → IsWrite p)
      → writes_of f k (write_decls at inputs name j ps) ≡ Ok (map (written_to m) ps)
  writes_found at name m j [] e h = refl
  writes_found at name m j (p ∷ ps) e h =
      let own = h 0 p refl in
      let more = writes_found at name m (suc j) ps e (λ i q l. h (suc i) q l) in
      let d : WriteDecl = record { line = at j; enable = net inputs p.enable; array = name; addr = net inputs p.addr; value = net inputs p.value } in
      line_more (wired_array f k d (array_place f name)) (at j) (writes_of f k (write_decls at inputs name (suc j) ps)) (written_to m p) (map (written_to m) ps)
      (ap (wired_array f k d) e
      ∙ three_found (array_write m) (net_of f k d.enable) (net_of f k d.addr)
      (net_of f k d.value) p.enable p.addr p.value own.enable own.addr own.value) more

  -- the name of an array stands for it, and those of what is written for these nets
  pub record IsArray (m : ℕ) (a : Array) : Type 0 where
    pub name : array_place f (array_name a) ≡ Some m
    pub writes : (i : ℕ) (p : WritePort) → slice_get a.writes i ≡ Some p → IsWrite p

  -- the declared blocks of arrays read as their writes, where their names stand for arrays and nets
  pub blocks_found : (lines : Lines) (b m : ℕ) (xs : List Array)
      → ((i j : ℕ) (a : Array) → m + i ≡ j → slice_get xs i ≡ Some a → IsArray j a)
      → blocks_of f k (array_blocks lines inputs b xs) ≡ Ok (block_writes m xs)
  blocks_found lines b m [] h = refl
  blocks_found lines b m (a ∷ rest) h =
      let own = h 0 m a (omega arith) refl in
      go own.name a.writes own.writes (λ c. blocks_found lines c (suc m) rest (λ i j x e l. h (suc i) j x (omega arith) l))
    where
      go : array_place f (array_name a) ≡ Some m → (ps : List WritePort)
          → ((i : ℕ) (p : WritePort) → slice_get ps i ≡ Some p → IsWrite p)
          → ((c : ℕ) → blocks_of f k (array_blocks lines inputs c rest) ≡ Ok (block_writes (suc m) rest))
          → blocks_of f k (text.onto_block lines inputs b (array_name a) ps (λ j. array_blocks lines inputs j rest))
          ≡ Ok (onto_writes m ps (block_writes (suc m) rest))
      go e [] w more = more b
      go e (p ∷ ps) w more =
          ap (λ z. onto_block z (blocks_of f k (array_blocks lines inputs (suc b) rest))) (writes_found (lines.writes b) (array_name a) m 0 (p ∷ ps) e w)
          ∙ ap (onto_block (Ok (map (written_to m) (p ∷ ps)))) (more (suc b))
