use Rattle.pdl_seq.proofs.NumberedWrites.{told_lines}
use Rattle.pdl_seq.proofs.accepted.lines.Goals as goal

pub returns : goal.returns
returns c = told_lines
