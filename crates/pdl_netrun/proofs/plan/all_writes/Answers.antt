use Rattle.std.proofs.Common.{rules}
use Rattle.pdl_netrun.proofs.PlanLemmas.{writes_there}
use Rattle.pdl_netrun.proofs.plan.all_writes.Goals as goal

pub put_writes-requires-clause-there : goal.put_writes-requires-clause-there
put_writes-requires-clause-there c =
    writes_there c.args.order.now c.args.n.now c.as_slice.result.now c.loop-array.array c.index-as_slice-array.result c.as_slice-in-loop-array.result.now c.requires.well c.requires.net
    (search rules) c.as_slice.ensures c.index-as_slice-array.is c.as_slice-in-loop-array.ensures
