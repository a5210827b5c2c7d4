use Rattle.std.proofs.Common.{◌<◌, length, arith}
use Rattle.pdl_vlog.proofs.Steps.{short_cell, wide_cell}
use Rattle.pdl_vlog.proofs.declarations.cells.Goals as goal

pub cell-requires-clause-width : goal.cell-requires-clause-width
cell-requires-clause-width c =
    let k : c.loop-k.k < length c.args.n.now.cells = omega (arith, c.loop-k-test.true, c.len-k-end.ensures) in
    wide_cell c.args.n.now _ _ c.requires.well c.requires.widths c.requires.count k

pub cell-requires-clause-short : goal.cell-requires-clause-short
cell-requires-clause-short c =
    let k : c.loop-k.k < length c.args.n.now.cells = omega (arith, c.loop-k-test.true, c.len-k-end.ensures) in
    short_cell c.args.n.now _ _ c.requires.well k c.as_slice-in-loop-k.ensures
