use Rattle.std.proofs.Common.{◌≡◌, ◌++◌, drop}
use Rattle.pdl_vlog.specs.Layout as spec
use Rattle.pdl_vlog.proofs.declarations.cells.Given as goal

abbrev pub invariant-loop-k : goal.invariant-loop-k
invariant-loop-k l =
    l.text ++ spec.cells l.inputs l.n.arrays (spec.cell_width l.n) l.k (drop l.k l.n.cells)
    ≡ l.fn.text ++ spec.cells l.inputs l.n.arrays (spec.cell_width l.n) 0 l.n.cells
