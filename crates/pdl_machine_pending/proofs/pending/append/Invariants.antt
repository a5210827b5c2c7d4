use Rattle.std.proofs.Common.{◌≡◌, ◌≤◌, ◌+◌, ◌++◌, map, drop, length}
use Rattle.std.specs.Prelude.{vec_len, vec_capacity}
use Rattle.pdl_semantics.specs.Cycle as cycle
use Rattle.pdl_machine_pending.specs.View.{pending_view, reserved_view}
use Rattle.pdl_machine_pending.proofs.pending.append.Given as goal

-- the entries of the reservations so far are there
abbrev pub invariant-loop-reserved : goal.invariant-loop-reserved
invariant-loop-reserved l =
    record {
      entries : map pending_view l.pending.items ++ cycle.new_entries l.m l.thread (map reserved_view (drop l.reserved-index l.reserves))
          ≡ map pending_view l.initial.pending.items ++ cycle.new_entries l.m l.thread (map reserved_view l.reserves);
      room : vec_len l.pending + length (cycle.new_entries l.m l.thread (map reserved_view (drop l.reserved-index l.reserves))) ≤ vec_capacity l.pending;
      capacity : vec_capacity l.pending ≡ vec_capacity l.initial.pending;
    }
