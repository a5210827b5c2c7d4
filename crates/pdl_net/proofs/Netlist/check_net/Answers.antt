use Rattle.std.proofs.Common.{rules, ap, get_or}
use Rattle.pdl_net.specs.Circuit.{circuit_of}
use Rattle.pdl_net.proofs.CellSignals.{no_cell}
use Rattle.pdl_net.proofs.Widths.{nets, fits_now, width_now}
use Rattle.pdl_net.proofs.Netlist.check_net.Goals as goal

pub cell_widens-requires-clause-fits : goal.cell_widens-requires-clause-fits
cell_widens-requires-clause-fits c =
    fits_now (circuit_of c.args.self.now) c.requires.cells c.in-Cell.k (get_or c.as_slice.result.now c.in-Cell.k no_cell)
    (search (rules, nets)) (ap (λ l. get_or l c.in-Cell.k no_cell) c.as_slice.ensures)

pub cell_widens-requires-clause-width : goal.cell_widens-requires-clause-width
cell_widens-requires-clause-width c =
    width_now (circuit_of c.args.self.now) c.requires.cells c.in-Cell.k (get_or c.as_slice.result.now c.in-Cell.k no_cell)
    (search (rules, nets)) (ap (λ l. get_or l c.in-Cell.k no_cell) c.as_slice.ensures)
