use Rattle.std.proofs.Common.{◌+◌, ◌≤◌, length}
use Rattle.pdl_image.specs.Lines.{lines}
use Rattle.pdl_image.proofs.DelayRows.{TakenRows}
use Rattle.pdl_image.proofs.schedule.take_rows.Given as goal

abbrev pub invariant-loop-rest : goal.invariant-loop-rest
invariant-loop-rest l = record {
  counted : 1 ≤ l.number;
  room : l.number + length l.rest ≤ length l.text + 1;
  taken : TakenRows l.count (lines l.text) (lines l.rest) l.number l.rows.items;
}

abbrev pub decreases-loop-rest : goal.decreases-loop-rest
decreases-loop-rest l = length l.rest
