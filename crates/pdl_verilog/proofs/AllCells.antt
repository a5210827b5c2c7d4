-- The lines of all cells.
use Rattle.std.proofs.Common.{◌≡◌, ℕ, suc, ◌+◌, ◌-◌, ◌^◌, ◌<◌, ◌≤◌, true, List, [], ◌∷◌, ◌++◌, length, append_assoc, append-nil, codes, decimal, sym, ap, ◌∙◌, subst, arith}
use Rattle.std.specs.Prelude.{slice_index_or}
use Rattle.pdl_net.specs.declared.Net.{Net}
use Rattle.pdl_net.specs.declared.Cell.{Cell}
use Rattle.pdl_net.specs.declared.Cell.TheVariants as made
use Rattle.pdl_net.specs.declared.Array.{Array}
use Rattle.pdl_net.specs.Well.{IsWidth}
use Rattle.pdl_vread_text.specs.declared.part.Part.{Part}
use Rattle.pdl_vread_text.specs.declared.part.Part.TheVariants as part
use Rattle.pdl_vread_text.specs.declared.file.File.{File}
use Rattle.pdl_vread_text.specs.declared.file.CellDecl.{CellDecl}
use Rattle.pdl_vread_text.specs.declared.file.Term.{Term}
use Rattle.pdl_vread_text.specs.declared.file.Term.TheVariants as t
use Rattle.pdl_vread_text.specs.Words.{is_name}
use Rattle.pdl_vlog.specs.Layout.{net, array, range, operator, term, wire, cell, cells}
use Rattle.pdl_verilog.proofs.Names.{IsOperandText}
use Rattle.pdl_verilog.proofs.RuleSteps.{CompletesFile}
use Rattle.pdl_verilog.proofs.Declarations.{range_split}
use Rattle.pdl_verilog.proofs.Terms.{add_cell, cell_decl, CompletesTerm, Continues, const_term, not_term, bin_term, mux_term}
use Rattle.pdl_verilog.proofs.BracketTerms.{slice_term, cat_term, rep_term, read_term}
use Rattle.pdl_verilog.proofs.Cells.{cell_head}
use Rattle.pdl_verilog.proofs.Parts.{MayDrive, MayCompute, at_cells}
use Rattle.pdl_word.specs.Words.{widest}

-- the name of an array without `a_`
abbrev pub memory_name : List Array → ℕ → List ℕ
memory_name arrays m = (slice_index_or arrays m (record { name = []; width = 0; depth = 0; writes = [] })).name

-- the term that a cell is written as
abbrev pub term_of : List (List ℕ) → List Array → Cell → Term
term_of inputs arrays (made.Const w v) = t.Const w v
term_of inputs arrays (made.Not a) = t.Not (net inputs a)
term_of inputs arrays (made.Bin op a b) = t.Bin op (net inputs a) (net inputs b)
term_of inputs arrays (made.Mux x a b) = t.Mux (net inputs x) (net inputs a) (net inputs b)
term_of inputs arrays (made.Slice a high low) = t.Slice (net inputs a) high low
term_of inputs arrays (made.Cat a b) = t.Cat (net inputs a) (net inputs b)
term_of inputs arrays (made.Rep k a) = t.Rep k (net inputs a)
term_of inputs arrays (made.Read m a) = t.Read (array arrays m) (net inputs a)

-- a net whose name is an operand
abbrev pub IsNetText : List (List ℕ) → Net → Type 0
IsNetText inputs a = IsOperandText (net inputs a)

-- a cell that can be written
abbrev pub IsCellText : List (List ℕ) → List Array → Cell → Type 0
IsCellText inputs arrays (made.Const w v) = (1 ≤ w) × (w ≤ widest) × (v < 2 ^ w)
IsCellText inputs arrays (made.Not a) = IsNetText inputs a
IsCellText inputs arrays (made.Bin op a b) = IsNetText inputs a × IsNetText inputs b
IsCellText inputs arrays (made.Mux x a b) = IsNetText inputs x × IsNetText inputs a × IsNetText inputs b
IsCellText inputs arrays (made.Slice a high low) = IsNetText inputs a × (high < 1000000) × (low < 1000000)
IsCellText inputs arrays (made.Cat a b) = IsNetText inputs a × IsNetText inputs b
IsCellText inputs arrays (made.Rep k a) = (k < 1000000) × IsNetText inputs a
IsCellText inputs arrays (made.Read m a) = (is_name (memory_name arrays m) ≡ true) × IsNetText inputs a

-- ---- the texts of terms, with what stands after them

bin_split : (a o b r : List ℕ) → (a ++ codes " " ++ o ++ codes " " ++ b) ++ r ≡ a ++ (codes " " ++ (o ++ (codes " " ++ (b ++ r))))
bin_split a o b r = simp append_assoc

mux_split : (x a b r : List ℕ) → (x ++ codes " ? " ++ a ++ codes " : " ++ b) ++ r ≡ x ++ (codes " ? " ++ (a ++ (codes " : " ++ (b ++ r))))
mux_split x a b r = simp append_assoc

slice_split : (a h l r : List ℕ)
    → (a ++ codes "[" ++ h ++ codes ":" ++ l ++ codes "]") ++ r ≡ a ++ (codes "[" ++ (h ++ (codes ":" ++ (l ++ (codes "]" ++ r)))))
slice_split a h l r = simp append_assoc

cat_split : (a b r : List ℕ)
    → (codes "{" ++ a ++ codes ", " ++ b ++ codes "}") ++ r ≡ codes "{" ++ (a ++ (codes ", " ++ (b ++ (codes "}" ++ r))))
cat_split a b r = simp append_assoc

rep_split : (k a r : List ℕ)
    → (codes "{" ++ k ++ codes "{" ++ a ++ codes "}}") ++ r ≡ codes "{" ++ (k ++ (codes "{" ++ (a ++ (codes "}}" ++ r))))
rep_split k a r = simp append_assoc

read_split : (m a r : List ℕ) → (m ++ codes "[" ++ a ++ codes "]") ++ r ≡ m ++ (codes "[" ++ (a ++ (codes "]" ++ r)))
read_split m a r = simp append_assoc

term_text : (inputs : List (List ℕ)) (arrays : List Array) (line at high : ℕ) (name rest : List ℕ) (before f : File) (g : Cell)
    → IsCellText inputs arrays g → Continues line at high name rest before f (term_of inputs arrays g)
    → CompletesTerm line (term inputs arrays g ++ (codes ";\n" ++ rest)) before at high name f
term_text inputs arrays line at high name rest before f (made.Const w v) h k = const_term line at high name rest before f w v h.0 h.1 h.2 k
term_text inputs arrays line at high name rest before f (made.Not a) h k = not_term line at high name rest before f (net inputs a) h k
term_text inputs arrays line at high name rest before f (made.Bin op a b) h k =
    subst (λ z. CompletesTerm line z before at high name f)
    (sym (bin_split (net inputs a) (operator op) (net inputs b) (codes ";\n" ++ rest)))
    (bin_term line at high name rest before f op (net inputs a) (net inputs b) h.0 h.1 k)
term_text inputs arrays line at high name rest before f (made.Mux x a b) h k =
    subst (λ z. CompletesTerm line z before at high name f)
    (sym (mux_split (net inputs x) (net inputs a) (net inputs b) (codes ";\n" ++ rest)))
    (mux_term line at high name rest before f (net inputs x) (net inputs a) (net inputs b) h.0 h.1 h.2 k)
term_text inputs arrays line at high name rest before f (made.Slice a hi lo) h k =
    subst (λ z. CompletesTerm line z before at high name f)
    (sym (slice_split (net inputs a) (decimal hi) (decimal lo) (codes ";\n" ++ rest)))
    (slice_term line at high name rest before f (net inputs a) hi lo h.0 h.1 h.2 k)
term_text inputs arrays line at high name rest before f (made.Cat a b) h k =
    subst (λ z. CompletesTerm line z before at high name f)
    (sym (cat_split (net inputs a) (net inputs b) (codes ";\n" ++ rest)))
    (cat_term line at high name rest before f (net inputs a) (net inputs b) h.0 h.1 k)
term_text inputs arrays line at high name rest before f (made.Rep n a) h k =
    subst (λ z. CompletesTerm line z before at high name f)
    (sym (rep_split (decimal n) (net inputs a) (codes ";\n" ++ rest)))
    (rep_term line at high name rest before f n (net inputs a) h.0 h.1 k)
term_text inputs arrays line at high name rest before f (made.Read m a) h k =
    subst (λ z. CompletesTerm line z before at high name f)
    (sym (read_split (array arrays m) (net inputs a) (codes ";\n" ++ rest)))
    (read_term line at high name rest before f (memory_name arrays m) (net inputs a) h.0 h.1 k)

-- ---- one cell

eleven : (a b c d e k f g t h r : List ℕ)
    → (a ++ (b ++ c ++ d) ++ e ++ k ++ (f ++ k ++ g ++ t ++ h)) ++ r ≡ a
    ++ (b ++ (c ++ (d ++ (e ++ (k ++ (f ++ (k ++ (g ++ (t ++ (h ++ r))))))))))
eleven a b c d e k f g t h r = simp append_assoc

cell_split : (k w : ℕ) (tm rest : List ℕ) → (wire k w ++ (codes ";\nassign n" ++ decimal k ++ codes " = " ++ tm ++ codes ";\n")) ++ rest
    ≡ codes "wire "
    ++ (codes "["
    ++ (decimal (w - 1)
    ++ (codes ":0]" ++ (codes " n" ++ (decimal k ++ (codes ";\nassign n" ++ (decimal k ++ (codes " = " ++ (tm ++ (codes ";\n" ++ rest))))))))))
cell_split k w tm rest =
    eleven (codes "wire ") (codes "[") (decimal (w - 1)) (codes ":0]") (codes " n") (decimal k) (codes ";\nassign n") (codes " = ") tm (codes ";\n") rest

one_cell : (inputs : List (List ℕ)) (arrays : List Array) (p : Part) (line k w : ℕ) (g : Cell) (rest : List ℕ) (before f : File)
    → MayCompute p → k < 2 ^ 64 → IsWidth w → IsCellText inputs arrays g
    → CompletesFile part.Cells ((line + 1) + 1) rest (add_cell before (cell_decl (line + 1) (w - 1) (codes "n" ++ decimal k) (term_of inputs arrays g))) f
    → CompletesFile p line (cell inputs arrays k w g ++ rest) before f
one_cell inputs arrays p line k w g rest before f m l wide h later =
    let tm = term inputs arrays g in
    let name = codes "n" ++ decimal k in
    let after = codes " " ++ (name ++ (codes ";\nassign " ++ (name ++ (codes " = " ++ (tm ++ (codes ";\n" ++ rest)))))) in
    let split : cell inputs arrays k w g ++ rest ≡ codes "wire " ++ (range w ++ after) =
    cell_split k w tm rest ∙ ap (λ z. codes "wire " ++ z) (sym (range_split w after)) in
    subst (λ z. CompletesFile p line z before f) (sym split)
    (cell_head p line k w (tm ++ (codes ";\n" ++ rest)) before f m.cell l wide
    (term_text inputs arrays (line + 1) (line + 1) (w - 1) name rest before f g h later))

-- ---- all cells

-- what the lines of cells declare, from a line and the k-th cell on
abbrev pub cell_decls : List (List ℕ) → List Array → (ℕ → ℕ) → ℕ → ℕ → List Cell → List CellDecl
cell_decls inputs arrays width line k [] = []
cell_decls inputs arrays width line k (g ∷ gs) =
    cell_decl (line + 1) (width k - 1) (codes "n" ++ decimal k) (term_of inputs arrays g) ∷ cell_decls inputs arrays width ((line + 1) + 1) (suc k) gs

-- the line after cells
abbrev pub cells_end : ℕ → List Cell → ℕ
cells_end line [] = line
cells_end line (g ∷ gs) = cells_end ((line + 1) + 1) gs

-- cells that can be written, from the k-th on
abbrev pub AreCellTexts : List (List ℕ) → List Array → (ℕ → ℕ) → ℕ → List Cell → Type 0
AreCellTexts inputs arrays width k [] = Unit {0}
AreCellTexts inputs arrays width k (g ∷ gs) = IsWidth (width k) × IsCellText inputs arrays g × AreCellTexts inputs arrays width (suc k) gs

-- a file with more cells
abbrev pub add_cells : File → List CellDecl → File
add_cells f gs = record f { cells = f.cells ++ gs }

-- the lines of cells, at a part where a cell may stand, complete the file that what is left completes with them
pub cell_lines : (inputs : List (List ℕ)) (arrays : List Array) (width : ℕ → ℕ) (gs : List Cell) (p : Part) (line k : ℕ)
    (rest : List ℕ) (before f : File)
    → MayCompute p → k + length gs < 2 ^ 64 → AreCellTexts inputs arrays width k gs
    → ((q : Part) → MayDrive q → CompletesFile q (cells_end line gs) rest (add_cells before (cell_decls inputs arrays width line k gs)) f)
    → CompletesFile p line (cells inputs arrays width k gs ++ rest) before f
cell_lines inputs arrays width [] p line k rest before f m l h later =
    let same : add_cells before [] ≡ before = ap (λ gs. record before { cells = gs }) (append-nil before.cells) in
    subst (λ z. CompletesFile p line rest z f) same (later p m.drives)
cell_lines inputs arrays width (g ∷ gs) p line k rest before f m l h later =
    let decl = cell_decl (line + 1) (width k - 1) (codes "n" ++ decimal k) (term_of inputs arrays g) in
    let decls = cell_decls inputs arrays width ((line + 1) + 1) (suc k) gs in
    let one = add_cell before decl in
    let same : add_cells before (decl ∷ decls) ≡ add_cells one decls =
    ap (λ gs. record before { cells = gs }) (sym (append_assoc before.cells (decl ∷ []) decls)) in
    let more_cells =
    cell_lines inputs arrays width gs part.Cells ((line + 1) + 1)
    (suc k) rest one f at_cells (omega arith) h.2 (λ q d. subst (λ z. CompletesFile q (cells_end ((line + 1) + 1) gs) rest z f) same (later q d)) in
    subst (λ z. CompletesFile p line z before f) (sym (append_assoc (cell inputs arrays k (width k) g) (cells inputs arrays width (suc k) gs) rest))
    (one_cell inputs arrays p line k (width k) g (cells inputs arrays width (suc k) gs ++ rest) before f m (omega arith) h.0 h.1 more_cells)
