-- No two kept cells become equal.
use Rattle.std.proofs.Common.{◌≡◌, ◌≢◌, ℕ, zero, suc, ◌<◌, ◌≤◌, ⊎_elim, Bool, true, false, List, [], ◌∷◌, get_or, refl, sym, ap, ◌∙◌, arith}
use Rattle.std.specs.Prelude.{AllPairs}
use Rattle.std.proofs.lemmas.Bool.{cases_lt, cases_eq}
use Rattle.std.proofs.lemmas.List.{length-map, get_or_default}
use Rattle.pdl_word.specs.Each.{Each}
use Rattle.pdl_word.proofs.Bools.{untrue}
use Rattle.pdl_net.specs.declared.Net.{Net}
use Rattle.pdl_net.specs.declared.Net.TheVariants.{Input, Reg as RegNet, Cell as CellNet}
use Rattle.pdl_net.specs.declared.Cell.{Cell}
use Rattle.pdl_net.specs.declared.Cell.TheVariants.{Const, Not, Bin, Mux, Slice, Cat, Rep, Read}
use Rattle.pdl_net.specs.declared.Netlist.{Netlist}
use Rattle.pdl_net.specs.Circuit.{circuit_of}
use Rattle.pdl_net_needed.specs.Needed.{reads_of, no_cell, cell_at, Choice, IsKept}
use Rattle.pdl_net_needed.specs.Pruned.{kept_of, kept_before, moved_net, over_nets, moved_cell, pruned}
use Rattle.pdl_net_needed.proofs.Counts.{kept_length, kept_less, within_marks, kept_from}
use Rattle.pdl_net_needed.proofs.ClosedChoices.{IsClosed}
use Rattle.pdl_net_needed.proofs.PrunedParts.{after}
use Rattle.pdl_net_needed.proofs.Needs.{cell_moved}

-- the place of the kept element with a number
nth_kept : List Bool → ℕ → ℕ
nth_kept [] i = zero
nth_kept (true ∷ bs) zero = zero
nth_kept (true ∷ bs) (suc i) = suc (nth_kept bs i)
nth_kept (false ∷ bs) i = suc (nth_kept bs i)

kept_back : (bs : List Bool) (n : ℕ) → get_or bs n false ≡ true → nth_kept bs (kept_before bs n) ≡ n
unfolding nth_kept
kept_back [] n e = untrue e
kept_back (true ∷ bs) zero e = refl
kept_back (false ∷ bs) zero e = untrue e
kept_back (true ∷ bs) (suc n) e = ap suc (kept_back bs n e)
kept_back (false ∷ bs) (suc n) e = ap suc (kept_back bs n e)

-- a net by its old number
old_net : Choice → Net → Net
old_net k (Input i) = Input i
old_net k (RegNet r) = RegNet (nth_kept k.regs r)
old_net k (CellNet j) = CellNet (nth_kept k.cells j)

net_back : (k : Choice) (x : Net) → IsKept k x → old_net k (moved_net k x) ≡ x
unfolding old_net
net_back k (Input i) e = refl
net_back k (RegNet r) e = ap RegNet (kept_back k.regs r e)
net_back k (CellNet j) e = ap CellNet (kept_back k.cells j e)

cell_back : (k : Choice) (g : Cell) → Each (IsKept k) (reads_of g) → over_nets (old_net k) (moved_cell k g) ≡ g
cell_back k (Const w v) e = refl
cell_back k (Not a) e = ap Not (net_back k a e.0)
cell_back k (Bin op a b) e = cc (net_back k a e.0, net_back k b e.1.0)
cell_back k (Mux x a b) e = cc (net_back k x e.0, net_back k a e.1.0, net_back k b e.1.1.0)
cell_back k (Slice a high low) e = cc (net_back k a e.0)
cell_back k (Cat a b) e = cc (net_back k a e.0, net_back k b e.1.0)
cell_back k (Rep n a) e = cc (net_back k a e.0)
cell_back k (Read m a) e = cc (net_back k a e.0)

-- cells that are equal over new numbers are equal
moved_apart : (k : Choice) (g h : Cell) → Each (IsKept k) (reads_of g) → Each (IsKept k) (reads_of h)
    → moved_cell k g ≡ moved_cell k h → g ≡ h
moved_apart k g h e f s = sym (cell_back k g e) ∙ ap (over_nets (old_net k)) s ∙ cell_back k h f

-- the order of places is that of numbers
in_order : (bs : List Bool) (m n : ℕ) → get_or bs n false ≡ true → kept_before bs m < kept_before bs n → m < n
in_order bs m n e l = ⊎_elim
    (λ (a : m < n). a)
    (λ (a : n ≤ m). ⊎_elim
    (λ (s : m ≡ n). let i = ap (kept_before bs) s in absurd (omega arith))
    (λ (o : m ≢ n). let i = kept_less bs n m (omega (arith, o)) e in absurd (omega arith))
    (cases_eq m n))
    (cases_lt m n)

-- no two cells of a netlist pruned by a closed choice are equal where no two of the whole are
pub distinct_cells : (k : Choice) (n : Netlist) → IsClosed (circuit_of n) k → AllPairs (λ a b. a ≢ b) n.cells
    → AllPairs (λ a b. a ≢ b) (pruned k n).cells
distinct_cells k n h apart i j d l m same =
    let a = length-map (kept_of k.cells n.cells) (moved_cell k) in
    let b = kept_length k.cells n.cells h.cell_count in
    let p = kept_from k.cells i (omega arith) in
    let q = kept_from k.cells j (omega arith) in
    let x = cell_at (circuit_of n) p.old in
    let y = cell_at (circuit_of n) q.old in
    let At : ℕ → Cell = cell_at (after k n) in
    let u : At i ≡ moved_cell k x = ap At (sym p.here) ∙ cell_moved k n h p.old p.kept in
    let v : At j ≡ moved_cell k y = ap At (sym q.here) ∙ cell_moved k n h q.old q.kept in
    let s : At i ≡ At j = get_or_default (pruned k n).cells i no_cell d (omega arith) ∙ same ∙ get_or_default (pruned k n).cells j d no_cell m in
    let w = within_marks k.cells q.old q.kept in
    apart p.old q.old no_cell (in_order k.cells p.old q.old q.kept (omega (arith, p.here, q.here))) (omega (arith, w, h.cell_count))
    (moved_apart k x y (h.reads (CellNet p.old) p.kept) (h.reads (CellNet q.old) q.kept) (sym u ∙ s ∙ v))
