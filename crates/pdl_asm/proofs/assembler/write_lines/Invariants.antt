use Rattle.std.proofs.Common.{◌+◌, ◌-◌, ◌≤◌, length, pos, take}
use Rattle.pdl_image.specs.Lines.{lines}
use Rattle.pdl_asm.specs.Assembly.{lines_from}
use Rattle.pdl_asm.specs.Places.{IsNear}
use Rattle.pdl_asm.proofs.LineSteps.{Taken}
use Rattle.pdl_asm.proofs.assembler.write_lines.Given as goal

-- the lines so far were taken
abbrev pub invariant-loop-rest : goal.invariant-loop-rest
invariant-loop-rest l = record {
  room : length l.rest ≤ length l.text;
  near : IsNear (length l.text - length l.rest) l.place;
  count : l.number + length l.rest ≤ length l.text + 1;
  few : l.before + length l.rest ≤ length l.text;
  taken : Taken l.table l.labels (lines_from l.table (pos 0) (lines l.text)) l.number (lines_from l.table l.place (lines l.rest))
      (take l.before l.labels) l.words;
}

abbrev pub decreases-loop-rest : goal.decreases-loop-rest
decreases-loop-rest l = length l.rest
