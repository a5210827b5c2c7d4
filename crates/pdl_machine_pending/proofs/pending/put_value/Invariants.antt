use Rattle.std.proofs.Common.{◌≡◌, map, take, drop}
use Rattle.pdl_semantics.specs.Cycle as cycle
use Rattle.pdl_machine_pending.specs.View.{pending_view}
use Rattle.pdl_machine_pending.proofs.pending.put_value.Given as goal

-- the entries so far have the value, the others are as they were
abbrev pub invariant-loop-i : goal.invariant-loop-i
invariant-loop-i l =
    record {
      done : map pending_view (take l.i l.pending) ≡ cycle.with_value_of l.thread l.var l.value (map pending_view (take l.i l.initial.pending));
      left : drop l.i l.pending ≡ drop l.i l.initial.pending;
    }
