use Rattle.std.proofs.Common.{◌≡◌, map, drop, length}
use Rattle.pdl_form.specs.FormView.{form}
use Rattle.pdl_machine_run.specs.View.{deeds_view}
use Rattle.pdl_machine_run.specs.Typed.{AreFit}
use Rattle.pdl_machine_run.specs.Room.{HasRoomFor, capacities}
use Rattle.pdl_machine_run.specs.StageDeeds.{word_of}
use Rattle.pdl_form.specs.Form.{stmt_at}
use Rattle.pdl_semantics.specs.Machine as machine
use Rattle.pdl_machine_run.proofs.stmts.run_stage.Given as goal

-- the statements left do the rest
abbrev pub invariant-loop-row : goal.invariant-loop-row
invariant-loop-row l =
    record {
      deeds : machine.deeds_after_all (word_of l.memories l.thread) (map (stmt_at (form l.pipe).pipe.stmts) (drop l.row-index l.row-items)) (deeds_view l.deeds)
          ≡ machine.deeds_after_all (word_of l.memories l.thread) (map (stmt_at (form l.pipe).pipe.stmts) (l.row-items)) (deeds_view l.initial.deeds);
      fit : AreFit (form l.pipe) (deeds_view l.deeds);
      room : HasRoomFor (length (drop l.row-index l.row-items)) l.deeds;
      capacities : capacities l.deeds ≡ capacities l.initial.deeds;
    }
