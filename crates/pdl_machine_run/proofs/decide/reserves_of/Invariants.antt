use Rattle.std.proofs.Common.{◌≡◌, ◌+◌, ◌≤◌, map, drop}
use Rattle.pdl_machine_pending.specs.View.{reserved_view}
use Rattle.pdl_semantics.specs.Machine as machine
use Rattle.pdl_machine_run.proofs.decide.reserves_of.Given as goal

-- those so far are counted
abbrev pub invariant-loop-reserved : goal.invariant-loop-reserved
invariant-loop-reserved l =
    (l.count + machine.reserves_of l.m (map reserved_view (drop l.reserved-index l.reserves)) ≡ machine.reserves_of l.m (map reserved_view l.reserves))
    × (l.count ≤ l.reserved-index)
