use Rattle.std.proofs.Common.{◌≡◌, map, drop}
use Rattle.pdl_semantics.specs.Locks.{Nothing}
use Rattle.pdl_semantics.specs.Machine as machine
use Rattle.pdl_machine_pending.specs.View.{pending_view, latest_view}
use Rattle.pdl_machine_pending.proofs.latest.youngest.Given as goal

-- what is left finds the same as all
abbrev pub invariant-loop-entry : goal.invariant-loop-entry
invariant-loop-entry l =
    machine.youngest (map pending_view (drop l.entry-index l.pending)) l.thread l.address (latest_view l.found)
    ≡ machine.youngest (map pending_view l.pending) l.thread l.address Nothing
