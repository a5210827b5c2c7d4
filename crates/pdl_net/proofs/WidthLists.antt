-- The widths of cells are those of their signals.
use Rattle.std.proofs.Common.{◌≡◌, ℕ, ◌<◌, ◌≤◌, List, [], ◌∷◌, ◌++◌, length, get_or, sym, ap, ◌∙◌, subst, arith, length-append, ⊎_elim}
use Rattle.std.proofs.lemmas.List.{get_or_append_left, get_or_push, get_or_default}
use Rattle.std.proofs.lemmas.Bool.{cases_lt}
use Rattle.pdl_net.specs.declared.Net.{Net}
use Rattle.pdl_net.specs.declared.Net.TheVariants.{Input, Reg as RegNet, Cell as CellNet}
use Rattle.pdl_net.specs.declared.Cell.{Cell}
use Rattle.pdl_net.specs.declared.Array.{Array}
use Rattle.pdl_net.specs.declared.Netlist.{Netlist}
use Rattle.pdl_net.specs.Circuit.{Circuit, array_at, no_array, circuit_of}
use Rattle.pdl_net.specs.Meaning.{signal, cell_signal, IsThereAt, IsThere}
use Rattle.pdl_net.specs.Well.{FitsIn, IsWell}
use Rattle.pdl_net.proofs.CellSignals.{no_cell, signal_cell, fits_cell}
use Rattle.pdl_net.proofs.Widths.{cells_well, width_of_input, width_of_reg}
use Rattle.pdl_net.specs.Width.{HasWidths}

-- a net among the first cells is there
pub there_within : (c : Circuit) (n : ℕ) (x : Net) → n ≤ length c.cells → IsThereAt c n x → IsThere c x
unfolding IsThere
there_within c n (Input i) l h = h
there_within c n (RegNet r) l h = h
there_within c n (CellNet k) l h = omega arith

pub ruleset reads = (width_of_input, width_of_reg, there_within, cells_well)

-- a cell that was read fits the cells before it, and makes its net's signal
pub fits_read : (c : Circuit) (xs : List Cell) (k n : ℕ) → IsWell c
    → k < length c.cells → xs ≡ c.cells → n ≡ k → FitsIn c (IsThereAt c n) (signal c) (get_or xs k no_cell)
fits_read c xs k n w h e m =
    let P : List Cell → Type 0 = λ l. FitsIn c (IsThereAt c k) (signal c) (get_or l k no_cell) in
    let Q : ℕ → Type 0 = λ j. FitsIn c (IsThereAt c j) (signal c) (get_or xs k no_cell) in
    subst Q (sym m) (subst P (sym e) (fits_cell c w.cells k h))

-- a cell's net has the signal that the cell makes of the nets which it reads
pub signal_read : (c : Circuit) (xs : List Cell) (k : ℕ) → IsWell c
    → k < length c.cells → xs ≡ c.cells → signal c (CellNet k) ≡ cell_signal c (signal c) (get_or xs k no_cell)
signal_read c xs k w h e = signal_cell c w.cells k h ∙ ap (λ l. cell_signal c (signal c) (get_or l k no_cell)) (sym e)

-- an empty list has the widths of no cells
pub widths_none : (c : Circuit) (ws : List ℕ) → ws ≡ [] → HasWidths c ws
widths_none c ws e = let n = ap length e in record { each = λ j h. absurd (omega (arith, n)) }

-- the widths of the first cells with that of the next one
pub widths_more : (c : Circuit) (ws us : List ℕ) (w : ℕ) → HasWidths c ws
    → w ≡ (signal c (CellNet (length ws))).width → us ≡ ws ++ w ∷ [] → HasWidths c us
widths_more c ws us w h e f = record {
  each = λ j l. ap (λ xs. get_or xs j 0) f ∙ ⊎_elim
      (λ (lt : j < length ws). get_or_append_left ws (w ∷ []) 0 j lt ∙ h.each j lt)
      (λ (ge : length ws ≤ j).
      let n : length ws ≡ j = let i = ap length f in omega (arith, i, length-append ws (w ∷ [])) in
      get_or_push ws w 0 j n ∙ e ∙ ap (λ k. (signal c (CellNet k)).width) n)
      (cases_lt j (length ws));
}

pub ruleset widths = (fits_read, signal_read, widths_none, widths_more)

-- an array of the netlist has the same width in its circuit
pub width_of_array : (n : Netlist) (m : ℕ) (a : Array)
    → m < length n.arrays → a ≡ get_or n.arrays m a → (array_at (circuit_of n) m).width ≡ a.width
width_of_array n m a h e = ap (λ (x : Array). x.width) (sym (e ∙ get_or_default n.arrays m a no_array h))

pub ruleset array_widths = (width_of_array)
