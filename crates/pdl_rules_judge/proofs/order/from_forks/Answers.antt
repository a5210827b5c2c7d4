use Rattle.pdl_syntax_tree.specs.View.{pipe_view}
use Rattle.pdl_rules_judge.specs.OrderedRules.{fork_rules, after_forks}
use Rattle.pdl_rules_judge.proofs.FirstBrokenRule.{first_tells, then_answers}
use Rattle.pdl_rules_judge.proofs.order.from_forks.Goals as goal

pub returns-in-Ok-clause-answers : goal.returns-in-Ok-clause-answers
returns-in-Ok-clause-answers c =
    then_answers fork_rules after_forks (pipe_view c.args.pipe.now) c.from_locks.result c.in-Ok.ensures c.from_locks.ensures.answers

pub returns-in-Err-clause-answers : goal.returns-in-Err-clause-answers
returns-in-Err-clause-answers c = first_tells fork_rules after_forks (pipe_view c.args.pipe.now) c.in-Err.refusal c.in-Err.ensures
