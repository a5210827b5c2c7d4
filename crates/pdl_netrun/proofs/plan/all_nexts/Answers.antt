use Rattle.std.proofs.Common.{rules}
use Rattle.pdl_net.specs.Circuit.{circuit_of}
use Rattle.pdl_netrun.proofs.PlanLemmas.{there_in, next_there}
use Rattle.pdl_netrun.proofs.plan.all_nexts.Goals as goal

pub place-requires-clause-there : goal.place-requires-clause-there
place-requires-clause-there c =
    there_in c.args.order.now c.args.n.now c.requires.net _
    (next_there (circuit_of c.args.n.now) c.as_slice.result.now c.loop-r.r c.requires.well (search rules) c.as_slice.ensures)
