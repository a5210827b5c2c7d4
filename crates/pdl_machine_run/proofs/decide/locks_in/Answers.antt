use Rattle.std.proofs.Common.{◌∙◌, ap, List, map}
use Rattle.pdl_semantics.specs.Flat.{list_all}
use Rattle.pdl_semantics.specs.Machine.{Blocked, Reserved, reserves_of}
use Rattle.pdl_machine_pending.specs.View.{reserved_view}
use Rattle.pdl_machine_pending.specs.declared.pending.Reserved as r_reserved
use Rattle.pdl_machine_run.specs.declared.deeds.Blocked as r_blocked
use Rattle.pdl_machine_run.specs.View.{blocked_view, deeds_view}
use Rattle.pdl_machine_run.specs.Acts.{block_in, is_roomy}
use Rattle.pdl_machine_run.proofs.LocksReady.{locks_are}
use Rattle.pdl_machine_run.proofs.decide.locks_in.Goals as goal

pub returns-then-blocks_ready : goal.returns-then-blocks_ready
returns-then-blocks_ready c p b memories same =
    let ms = c.args.memories.now in
    let thread = c.args.thread in
    locks_are p b memories ms thread (deeds_view c.args.deeds.now) c.blocks_ready.result c.have_room.result same
    (c.blocks_ready.ensures
    ∙ ap (λ (xs : List r_blocked.Blocked). list_all (λ (x : Blocked). block_in ms thread x) (map blocked_view xs)) c.as_slice.ensures.value)
    c.if-blocks_ready.true
    (c.have_room.ensures
    ∙ ap
    (λ (rs : List r_reserved.Reserved).
    list_all (λ (r : Reserved). is_roomy ms (reserves_of r.mem (map reserved_view rs)) r.mem) (map reserved_view rs))
    c.as_slice-then-blocks_ready.ensures.value)
