use Rattle.pdl_syntax_tree.specs.View.{pipe_view}
use Rattle.pdl_rules_widths.specs.Order.{width_rules}
use Rattle.pdl_rules_judge.specs.OrderedRules.{after_widths}
use Rattle.pdl_rules_judge.proofs.FirstBrokenRule.{first_tells, then_answers}
use Rattle.pdl_rules_judge.proofs.order.from_widths.Goals as goal

pub returns-in-Ok-clause-answers : goal.returns-in-Ok-clause-answers
returns-in-Ok-clause-answers c =
    then_answers width_rules after_widths (pipe_view c.args.pipe.now) c.from_forks.result c.in-Ok.ensures c.from_forks.ensures.answers

pub returns-in-Err-clause-answers : goal.returns-in-Err-clause-answers
returns-in-Err-clause-answers c = first_tells width_rules after_widths (pipe_view c.args.pipe.now) c.in-Err.refusal c.in-Err.ensures
