use Rattle.pdl_syntax_tree.specs.View.{pipe_view}
use Rattle.pdl_check.proofs.CheckAnswers.{judged_error}
use Rattle.pdl_check.proofs.check.judge.Goals as goal

pub returns-in-Err : goal.returns-in-Err
returns-in-Err c = judged_error (pipe_view c.args.pipe) c.in-Err.refusal c.in-Err.ensures.answers
