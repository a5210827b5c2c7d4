use Rattle.pdl_netrun.proofs.Sample.{cells_of, well_of}
use Rattle.pdl_tests_of_parts.proofs.netrun_rows.counts_and_commits.Goals as goal

pub width-width-requires-clause-cells : goal.width-width-requires-clause-cells
width-width-requires-clause-cells c = cells_of c.args.net.now c.requires

pub new-requires-clause-well : goal.new-requires-clause-well
new-requires-clause-well c = well_of c.args.net.now c.requires
