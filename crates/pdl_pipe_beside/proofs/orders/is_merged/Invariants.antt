use Rattle.std.proofs.Common.{◌≡◌, drop}
use Rattle.pdl_form.specs.View.{stages_view}
use Rattle.pdl_pipe_beside.specs.Orders.{merged_in}
use Rattle.pdl_pipe_beside.proofs.orders.is_merged.Given as goal

-- the first stages don't merge it
abbrev pub invariant-loop-stage : goal.invariant-loop-stage
invariant-loop-stage l = merged_in (stages_view (drop l.stage-index l.stages)) l.fork ≡ merged_in (stages_view l.stages) l.fork
