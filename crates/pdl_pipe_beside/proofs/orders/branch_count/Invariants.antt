use Rattle.std.proofs.Common.{◌≡◌, ◌+◌, ◌≤◌, drop}
use Rattle.pdl_form.specs.View.{stages_view}
use Rattle.pdl_pipe_beside.specs.Orders.{branches_in}
use Rattle.pdl_pipe_beside.proofs.orders.branch_count.Given as goal

-- those of the first stages are counted
abbrev pub invariant-loop-stage : goal.invariant-loop-stage
invariant-loop-stage l =
    (l.count ≤ l.stage-index) × (l.count + branches_in (stages_view (drop l.stage-index l.stages)) l.fork ≡ branches_in (stages_view l.stages) l.fork)
