use Rattle.std.proofs.Common.{◌≡◌, drop}
use Rattle.pdl_semantics.specs.Sequential.{run_all}
use Rattle.pdl_form.specs.View.{stmts_view}
use Rattle.pdl_form.specs.FormView.{form}
use Rattle.pdl_seq.specs.Turns.{run_view, rooms}
use Rattle.pdl_seq.specs.Fits.{IsFit}
use Rattle.pdl_seq.proofs.turn.run_turn.Given as goal

-- the statements left do the rest
abbrev pub invariant-loop-stmt : goal.invariant-loop-stmt
invariant-loop-stmt l =
    record {
      run : run_all (stmts_view (drop l.stmt-index l.stmt-items)) (run_view l.turn) ≡ run_all (stmts_view l.stmt-items) (run_view l.initial.turn);
      fit : IsFit (form l.pipe) l.turn;
      rooms : rooms l.turn ≡ rooms l.initial.turn;
    }
