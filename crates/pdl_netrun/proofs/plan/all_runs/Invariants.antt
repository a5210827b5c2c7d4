use Rattle.std.proofs.Common.{◌≡◌, ◌++◌, take, map}
use Rattle.pdl_net.specs.Circuit.{circuit_of}
use Rattle.pdl_netrun.specs.Order.{cell_of}
use Rattle.pdl_netrun.specs.Steps.{steps_of, steps_with}
use Rattle.pdl_netrun.specs.Plan.{step_of_cell}
use Rattle.pdl_netrun.proofs.plan.all_runs.Given as goal

abbrev pub invariant-loop-j : goal.invariant-loop-j
invariant-loop-j l =
    steps_of l.runs.items ++ steps_with l.run.kind l.run.operands.items
    ≡ map (λ k. step_of_cell (circuit_of l.n) l.order.places.items (cell_of l.order k)) (take l.j l.order.cells.items)
