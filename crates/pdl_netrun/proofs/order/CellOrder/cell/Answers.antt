use Rattle.pdl_net.specs.Circuit.{circuit_of}
use Rattle.pdl_netrun.proofs.Orders.{reads_read}
use Rattle.pdl_netrun.proofs.order.CellOrder.cell.Goals as goal

pub returns-clause-reads : goal.returns-clause-reads
returns-clause-reads c =
    reads_read (circuit_of c.args.self.now.net.now) c.as_slice.result.now c.args.k c.requires.well c.requires.there c.as_slice.ensures
