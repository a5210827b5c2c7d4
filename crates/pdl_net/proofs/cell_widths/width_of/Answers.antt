use Rattle.pdl_net.specs.Circuit.{circuit_of}
use Rattle.pdl_net.proofs.Widths.{cells_well}
use Rattle.pdl_net.proofs.cell_widths.width_of.Goals as goal

pub width-requires-clause-cells : goal.width-requires-clause-cells
width-requires-clause-cells c = cells_well (circuit_of c.args.n.now) c.requires.well
