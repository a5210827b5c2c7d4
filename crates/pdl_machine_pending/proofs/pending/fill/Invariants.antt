use Rattle.std.proofs.Common.{◌≡◌, map, drop}
use Rattle.pdl_semantics.specs.Cycle as cycle
use Rattle.pdl_machine_pending.specs.View.{pending_view, written_view}
use Rattle.pdl_machine_pending.proofs.pending.fill.Given as goal

-- the writes left give the same as all
abbrev pub invariant-loop-written : goal.invariant-loop-written
invariant-loop-written l =
    cycle.with_writes_of l.m l.thread (map written_view (drop l.written-index l.writes)) (map pending_view l.pending)
    ≡ cycle.with_writes_of l.m l.thread (map written_view l.writes) (map pending_view l.initial.pending)
