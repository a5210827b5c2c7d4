use Rattle.pdl_syntax_tree.specs.View.{pipe_view}
use Rattle.pdl_spec.specs.Plan.{spec_rules}
use Rattle.pdl_rules_judge.specs.OrderedRules.{advice_rules}
use Rattle.pdl_rules_judge.proofs.FirstBrokenRule.{first_tells, then_answers}
use Rattle.pdl_rules_judge.proofs.order.from_calls.Goals as goal

pub plan_spec-requires : goal.plan_spec-requires
plan_spec-requires c =
    record {
      of = c.requires.known.of;
      facts = c.requires.known.facts;
      verified = c.requires.known.verified;
      lines = c.requires.calls;
    }

pub returns-in-Ok-clause-answers : goal.returns-in-Ok-clause-answers
returns-in-Ok-clause-answers c =
    then_answers spec_rules advice_rules (pipe_view c.args.pipe.now) c.from_advice.result c.in-Ok.ensures.0 c.from_advice.ensures.answers

pub returns-in-Err-clause-answers : goal.returns-in-Err-clause-answers
returns-in-Err-clause-answers c = first_tells spec_rules advice_rules (pipe_view c.args.pipe.now) c.in-Err.refusal c.in-Err.ensures
