use Rattle.std.proofs.Common.{◌≡◌, ◌++◌, take, map}
use Rattle.pdl_netrun.specs.Order.{order_circuit}
use Rattle.pdl_netrun.specs.Plan.{planned_write}
use Rattle.pdl_netrun.proofs.plan.put_writes.Given as goal

abbrev pub invariant-loop-k : goal.invariant-loop-k
invariant-loop-k l = l.ports.items ≡ l.initial.ports.items ++ map (planned_write (order_circuit l.order) l.order.places.items l.array) (take l.k l.writes)
