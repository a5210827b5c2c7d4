use Rattle.std.proofs.Common.{arith, ap}
use Rattle.pdl_image.specs.Delays.{rows_of}
use Rattle.pdl_image.specs.Lines.{lines}
use Rattle.pdl_image.proofs.DelayRows.{row_taken, wrong_row_found}
use Rattle.pdl_image.proofs.schedule.take_rows.Goals as goal

pub returns-in-Err : goal.returns-in-Err
returns-in-Err c =
    ap (rows_of (lines c.args.text.now)) (wrong_row_found _ _ _ _ _ _ _ _ c.loop-rest.invariant.taken c.split_line.ensures.value c.in-Err.ensures)

pub loop-rest-preserved : goal.loop-rest-preserved
loop-rest-preserved c = record {
  counted = omega arith;
  room = omega (arith, c.split_line.ensures.shorter, c.loop-rest.invariant.room);
  taken = row_taken _ _ _ _ _ _ _ _ _ c.loop-rest.invariant.taken c.split_line.ensures.value c.in-Ok.ensures.0 c.in-Ok.ensures.1 c.in_ok-push_row-in-Ok.ensures;
}
