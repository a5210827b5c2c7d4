use Rattle.std.proofs.Common.{◌≡◌, ◌++◌, drop}
use Rattle.pdl_net.specs.Circuit.{circuit_of}
use Rattle.pdl_netrun.specs.Plan.{writes_from}
use Rattle.pdl_netrun.proofs.plan.all_writes.Given as goal

abbrev pub invariant-loop-array : goal.invariant-loop-array
invariant-loop-array l =
    l.ports.items ++ writes_from (circuit_of l.n) l.order.places.items l.array (drop l.array l.n.arrays)
    ≡ writes_from (circuit_of l.n) l.order.places.items 0 l.n.arrays
