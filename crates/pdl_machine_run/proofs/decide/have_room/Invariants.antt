use Rattle.std.proofs.Common.{◌≡◌, map, drop}
use Rattle.pdl_machine_run.specs.Acts.{is_roomy}
use Rattle.pdl_machine_pending.specs.View.{reserved_view}
use Rattle.pdl_semantics.specs.Flat.{list_all}
use Rattle.pdl_semantics.specs.Machine as machine
use Rattle.pdl_machine_run.proofs.decide.have_room.Given as goal

-- the reservations left decide
abbrev pub invariant-loop-reserved : goal.invariant-loop-reserved
invariant-loop-reserved l =
    list_all (λ (r : machine.Reserved). is_roomy l.memories (machine.reserves_of r.mem (map reserved_view l.reserves)) r.mem)
    (map reserved_view (drop l.reserved-index l.reserves))
    ≡ list_all (λ (r : machine.Reserved). is_roomy l.memories (machine.reserves_of r.mem (map reserved_view l.reserves)) r.mem)
    (map reserved_view l.reserves)
