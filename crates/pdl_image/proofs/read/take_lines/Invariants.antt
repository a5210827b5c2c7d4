use Rattle.std.proofs.Common.{◌+◌, ◌-◌, ◌≤◌, length}
use Rattle.pdl_image.specs.Lines.{lines}
use Rattle.pdl_image.proofs.TakenLines.{Taken}
use Rattle.pdl_image.proofs.read.take_lines.Given as goal

abbrev pub invariant-loop-rest : goal.invariant-loop-rest
invariant-loop-rest l = record {
  counted : 2 ≤ l.number;
  room : l.number + length l.rest ≤ length l.text + 2;
  taken : Taken l.ranged l.mems (lines l.text) (l.number - 2) (lines l.rest) l.slots;
}

abbrev pub decreases-loop-rest : goal.decreases-loop-rest
decreases-loop-rest l = length l.rest
