use Rattle.std.proofs.Common.{◌≡◌, ◌≤◌, ◌+◌, map, drop}
use Rattle.std.specs.Prelude.{vec_len, vec_capacity}
use Rattle.pdl_form.specs.View.{stmts_view}
use Rattle.pdl_machine_run.specs.View.{place_view}
use Rattle.pdl_semantics.specs.Machine as machine
use Rattle.pdl_machine_run.proofs.deeds.hold_before.Given as goal

-- the statements left do the rest
abbrev pub invariant-loop-stmt : goal.invariant-loop-stmt
invariant-loop-stmt l =
    record {
      held : machine.held_before l.stage l.path (stmts_view (drop l.stmt-index l.stmts)) (map place_view l.held.items)
          ≡ machine.held_before l.stage l.path (stmts_view l.stmts) (map place_view l.initial.held.items);
      more : vec_len l.held ≤ vec_len l.initial.held + l.stmt-index;
      capacity : vec_capacity l.held ≡ vec_capacity l.initial.held;
    }
