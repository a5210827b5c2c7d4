use Rattle.std.proofs.Common.{◌≡◌, ◌++◌, take, map}
use Rattle.pdl_netrun.specs.Order.{cell_of}
use Rattle.pdl_netrun.specs.Plan.{held_at_start}
use Rattle.pdl_netrun.proofs.plan.put_constants.Given as goal

abbrev pub invariant-loop-j : goal.invariant-loop-j
invariant-loop-j l = l.values.items ≡ l.initial.values.items ++ map (λ k. held_at_start (cell_of l.order k)) (take l.j l.order.cells.items)
