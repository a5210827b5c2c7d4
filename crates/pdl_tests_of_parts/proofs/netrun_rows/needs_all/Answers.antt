use Rattle.pdl_netrun.proofs.Sample.{well_of}
use Rattle.pdl_tests_of_parts.proofs.netrun_rows.needs_all.Goals as goal

pub needed_part-requires : goal.needed_part-requires
needed_part-requires c = well_of c.args.net.now c.requires
