use Rattle.std.proofs.Common.{◌≡◌, ◌-◌, ◌≤◌, [], length, fold, pos}
use Rattle.pdl_image.specs.Lines.{lines}
use Rattle.pdl_asm.specs.Assembly.{lines_from, with_line}
use Rattle.pdl_asm.specs.Places.{IsNear}
use Rattle.pdl_asm.proofs.assembler.define_labels.Given as goal

-- labels of the lines so far, and of those to come, are all
abbrev pub invariant-loop-rest : goal.invariant-loop-rest
invariant-loop-rest l = record {
  room : length l.rest ≤ length l.text;
  near : IsNear (length l.text - length l.rest) l.place;
  labels : fold with_line l.labels (lines_from l.table l.place (lines l.rest)) ≡ fold with_line [] (lines_from l.table (pos 0) (lines l.text));
}

abbrev pub decreases-loop-rest : goal.decreases-loop-rest
decreases-loop-rest l = length l.rest
