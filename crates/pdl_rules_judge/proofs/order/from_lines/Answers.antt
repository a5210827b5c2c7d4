use Rattle.pdl_syntax_tree.specs.View.{pipe_view}
use Rattle.pdl_locks.specs.Plan.{lock_rules}
use Rattle.pdl_rules_judge.specs.OrderedRules.{after_locks}
use Rattle.pdl_rules_judge.proofs.FirstBrokenRule.{first_tells, then_answers}
use Rattle.pdl_rules_judge.proofs.order.from_lines.Goals as goal

pub plan_locks-requires : goal.plan_locks-requires
plan_locks-requires c = record { of = c.requires.known.of; facts = c.requires.known.facts; lines = c.requires.locks }

pub returns-in-Ok-clause-answers : goal.returns-in-Ok-clause-answers
returns-in-Ok-clause-answers c =
    then_answers lock_rules after_locks (pipe_view c.args.pipe.now) c.from_calls.result c.in-Ok.ensures.0 c.from_calls.ensures.answers

pub returns-in-Err-clause-answers : goal.returns-in-Err-clause-answers
returns-in-Err-clause-answers c = first_tells lock_rules after_locks (pipe_view c.args.pipe.now) c.in-Err.refusal c.in-Err.ensures
