-- The cell that a net is, as the builder's list has it.
use Rattle.std.proofs.Common.{◌≡◌, ℕ, ◌<◌, length, get_or, refl, sym, subst, arith}
use Rattle.pdl_net.specs.declared.Net.{Net}
use Rattle.pdl_net.specs.declared.Net.TheVariants.{Cell as CellNet}
use Rattle.pdl_net.specs.declared.Cell.{Cell}
use Rattle.pdl_net.specs.declared.Cell.TheVariants.{Const}
use Rattle.pdl_net.specs.Circuit.{Circuit}
use Rattle.pdl_net.specs.Meaning.{IsThere, IsThereAt, signal}
use Rattle.pdl_net.specs.Well.{Fits, IsWell}
use Rattle.pdl_net.proofs.CellSignals.{fits_cell, cell_at}
use Rattle.pdl_net.proofs.Signals.{there_grows}
use Rattle.pdl_net.proofs.CircuitGrowth.{fits_same}
use Rattle.pdl_build.proofs.Equal.{same_grows}

-- `c` is the circuit of the fields, `v` the same as callers see it, and `x` is the net that is asked for
pub cell_there : (c v : Circuit) (x : Net) (k : ℕ) → c ≡ v → x ≡ CellNet k → IsThere v x → k < length c.cells
unfolding IsThere
cell_there c v x k e f t = subst (λ (d : Circuit). k < length d.cells) (sym e) (subst (λ z. IsThereAt v (length v.cells) z) f t)

-- a cell of a well formed circuit fits
pub known_fits : (c : Circuit) (k : ℕ) (g : Cell) → IsWell c → k < length c.cells → get_or c.cells k (Const 0 0) ≡ g → Fits c g
unfolding IsThere
known_fits c k g w l e =
    let h =
    fits_same c c (IsThereAt c k) (IsThere c) (signal c) (signal c) (same_grows c)
    (λ x t. there_grows c c (same_grows c) k (length c.cells) (omega arith) x t) (λ x t. refl) (cell_at c k)
    (fits_cell c w.cells k l) in
    subst (λ g. Fits c g) e h
