use Rattle.std.proofs.Common.{rules}
use Rattle.pdl_net.specs.Circuit.{circuit_of}
use Rattle.pdl_netrun.proofs.PlanLemmas.{there_in, driver_there}
use Rattle.pdl_netrun.proofs.plan.all_drivers.Goals as goal

pub place-requires-clause-there : goal.place-requires-clause-there
place-requires-clause-there c =
    there_in c.args.order.now c.args.n.now c.requires.net c.in-Out.driver
    (driver_there
    (circuit_of c.args.n.now) c.as_slice.result.now c.loop-i.i c.index-as_slice-i.result c.in-Out.driver c.requires.well
    (search rules) c.as_slice.ensures c.index-as_slice-i.is c.in-Out.is)
