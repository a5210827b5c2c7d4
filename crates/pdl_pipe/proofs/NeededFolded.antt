-- Where no cell of a netlist could be a constant, none of its needed part could.
use Rattle.std.proofs.Common.{◌≡◌, refl, sym, ap, ap₂, ◌∙◌, subst, ◌&&◌, arith}
use Rattle.std.proofs.lemmas.List.{length-map}
use Rattle.pdl_word.specs.Each.{Each}
use Rattle.pdl_net.specs.declared.Net.{Net}
use Rattle.pdl_net.specs.declared.Net.TheVariants.{Input, Reg as RegNet, Cell as CellNet}
use Rattle.pdl_net.specs.declared.Cell.{Cell}
use Rattle.pdl_net.specs.declared.Cell.TheVariants.{Const, Not, Bin, Mux, Slice, Cat, Rep, Read}
use Rattle.pdl_net.specs.declared.Netlist.{Netlist}
use Rattle.pdl_net.specs.Circuit.{circuit_of}
use Rattle.pdl_build.specs.FoldedCells.{is_const, cell_in, is_constant, is_foldable, AreFolded}
use Rattle.pdl_net_needed.specs.Needed.{reads_of, cell_at, Choice, IsKept}
use Rattle.pdl_net_needed.specs.Pruned.{kept_of, moved_net, moved_cell, pruned, IsPruned}
use Rattle.pdl_net_needed.proofs.Counts.{kept_length, within_marks, kept_from}
use Rattle.pdl_net_needed.proofs.ClosedChoices.{IsClosed, closed}
use Rattle.pdl_net_needed.proofs.Needs.{cell_moved}

-- whether a cell is a constant doesn't hang on the numbers of nets
const_moved : (k : Choice) (g : Cell) → is_const (moved_cell k g) ≡ is_const g
const_moved k (Const w v) = refl
const_moved k (Not a) = refl
const_moved k (Bin op a b) = refl
const_moved k (Mux x a b) = refl
const_moved k (Slice a high low) = refl
const_moved k (Cat a b) = refl
const_moved k (Rep n a) = refl
const_moved k (Read m a) = refl

-- a kept net is a constant as much as before
constant_moved : (k : Choice) (n : Netlist) → IsClosed (circuit_of n) k → (x : Net) → IsKept k x
    → is_constant (pruned k n).cells (moved_net k x) ≡ is_constant n.cells x
constant_moved k n h (Input i) e = refl
constant_moved k n h (RegNet r) e = refl
constant_moved k n h (CellNet j) e = ap is_const (cell_moved k n h j e) ∙ const_moved k (cell_at (circuit_of n) j)

-- and so a kept cell could be a constant as much as before
foldable_moved : (k : Choice) (n : Netlist) → IsClosed (circuit_of n) k → (g : Cell) → Each (IsKept k) (reads_of g)
    → is_foldable (pruned k n).cells (moved_cell k g) ≡ is_foldable n.cells g
foldable_moved k n h (Const w v) e = refl
foldable_moved k n h (Not a) e = constant_moved k n h a e.0
foldable_moved k n h (Bin op a b) e = ap₂ (λ s t. s && t) (constant_moved k n h a e.0) (constant_moved k n h b e.1.0)
foldable_moved k n h (Mux x a b) e =
    ap₂ (λ s t. s && t) (constant_moved k n h x e.0) (ap₂ (λ s t. s && t) (constant_moved k n h a e.1.0) (constant_moved k n h b e.1.1.0))
foldable_moved k n h (Slice a high low) e = constant_moved k n h a e.0
foldable_moved k n h (Cat a b) e = ap₂ (λ s t. s && t) (constant_moved k n h a e.0) (constant_moved k n h b e.1.0)
foldable_moved k n h (Rep i a) e = constant_moved k n h a e.0
foldable_moved k n h (Read m a) e = refl

folded_pruned : (k : Choice) (n : Netlist) → IsClosed (circuit_of n) k → AreFolded n.cells → AreFolded (pruned k n).cells
folded_pruned k n h f = record {
  each = λ i l.
      let a = length-map (kept_of k.cells n.cells) (moved_cell k) in
      let b = kept_length k.cells n.cells h.cell_count in
      let q = kept_from k.cells i (omega arith) in
      let g = cell_at (circuit_of n) q.old in
      let w = within_marks k.cells q.old q.kept in
      let u : cell_in (pruned k n).cells i ≡ moved_cell k g = ap (cell_in (pruned k n).cells) (sym q.here) ∙ cell_moved k n h q.old q.kept in
      ap (is_foldable (pruned k n).cells) u
      ∙ foldable_moved k n h g (h.reads (CellNet q.old) q.kept)
      ∙ f.each q.old (omega (arith, w, h.cell_count));
}

-- so it is of the needed part
pub needed_folded : (n p : Netlist) → IsPruned n p → AreFolded n.cells → AreFolded p.cells
needed_folded n p i f = subst (λ (q : Netlist). AreFolded q.cells) (sym i.same) (folded_pruned i.kept n (closed (circuit_of n) i.kept i.needed) f)
