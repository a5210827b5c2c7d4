use Rattle.pdl_plain.proofs.HeldTimes.{holds_before, marks_blocks}
use Rattle.pdl_plain.proofs.held_locations.Goals as goal

pub returns-clause-before : goal.returns-clause-before
returns-clause-before c = holds_before

pub returns-clause-blocks : goal.returns-clause-blocks
returns-clause-blocks c = marks_blocks
