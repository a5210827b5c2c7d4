use Rattle.pdl_syntax_tree.specs.View.{pipe_view}
use Rattle.pdl_rules_names.specs.Order.{name_rules}
use Rattle.pdl_rules_judge.specs.OrderedRules.{after_names}
use Rattle.pdl_rules_judge.proofs.FirstBrokenRule.{first_tells, then_answers}
use Rattle.pdl_rules_judge.proofs.order.from_names.Goals as goal

pub returns-in-Ok-clause-answers : goal.returns-in-Ok-clause-answers
returns-in-Ok-clause-answers c =
    then_answers name_rules after_names (pipe_view c.args.pipe.now) c.from_widths.result c.in-Ok.ensures c.from_widths.ensures.answers

pub returns-in-Err-clause-answers : goal.returns-in-Err-clause-answers
returns-in-Err-clause-answers c = first_tells name_rules after_names (pipe_view c.args.pipe.now) c.in-Err.refusal c.in-Err.ensures
