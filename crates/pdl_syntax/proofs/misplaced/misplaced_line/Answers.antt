use Rattle.pdl_syntax.proofs.AutomatonRuns.{told_place}
use Rattle.pdl_syntax.proofs.misplaced.misplaced_line.Goals as goal

pub returns-clause-place : goal.returns-clause-place
returns-clause-place c = λ line h. told_place c.args.source.now c.first_misplaced.result line c.first_misplaced.ensures h
