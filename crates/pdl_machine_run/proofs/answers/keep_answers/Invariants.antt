use Rattle.std.proofs.Common.{◌≡◌, ◌≤◌, ◌+◌, ◌-◌, ◌++◌, map, drop, length}
use Rattle.std.specs.Prelude.{vec_len, vec_capacity}
use Rattle.pdl_form.specs.FormView.{form}
use Rattle.pdl_machine_run.specs.View.{awaited_view, kept_view}
use Rattle.pdl_machine_run.specs.Outside.{outside}
use Rattle.pdl_semantics.specs.Machine as machine
use Rattle.pdl_machine_run.proofs.answers.keep_answers.Given as goal

-- the answers so far are kept
abbrev pub invariant-loop-read : goal.invariant-loop-read
invariant-loop-read l =
    record {
      done : map kept_view l.kept.items
          ++ machine.answered_reads (form l.pipe).pipe (outside l.beside) l.replies l.thread (map awaited_view (drop l.read-index l.awaits))
          ≡ map kept_view l.initial.kept.items ++ machine.answered_reads (form l.pipe).pipe (outside l.beside) l.replies l.thread (map awaited_view l.awaits);
      room : vec_len l.kept + (length l.awaits - l.read-index) ≤ vec_capacity l.kept;
      capacity : vec_capacity l.kept ≡ vec_capacity l.initial.kept;
    }
