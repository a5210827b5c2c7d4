use Rattle.pdl_build.proofs.RegisterGrowth.{fits_read, read_is}
use Rattle.pdl_build.proofs.Builder.read.Goals as goal

pub cell-requires : goal.cell-requires
cell-requires c = fits_read c.args.self.now c.args.array c.args.addr c.requires.has c.requires.addr_there c.requires.reach

pub returns-clause-means : goal.returns-clause-means
returns-clause-means c = rw (read_is c.args.self.now c.args.array c.args.addr) c.cell.ensures.means
