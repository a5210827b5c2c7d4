use Rattle.std.proofs.Common.{sym, subst}
use Rattle.pdl_syntax_tree.specs.View.{pipe_view}
use Rattle.pdl_spec.specs.WalkLines.{AreLines}
use Rattle.pdl_rules_judge.proofs.order.path_lines.Goals as goal

pub lock_path_rules-requires : goal.lock_path_rules-requires
lock_path_rules-requires c =
    record {
      few = c.requires.few;
      own = c.requires.own;
      masks = c.requires.masks;
      of = c.requires.of;
      facts = c.requires.facts;
    }

pub spec_path_rules-requires : goal.spec_path_rules-requires
spec_path_rules-requires c =
    record {
      few = c.requires.few;
      own = c.requires.own;
      masks = c.requires.masks;
      of = c.requires.of;
      facts = c.requires.facts;
      verified = c.requires.verified;
    }

pub broken_lines-requires-clause-few : goal.broken_lines-requires-clause-few
broken_lines-requires-clause-few c = c.requires.few

pub broken_lines-requires-clause-own : goal.broken_lines-requires-clause-own
broken_lines-requires-clause-own c = c.requires.own

pub broken_lines-requires-clause-masks : goal.broken_lines-requires-clause-masks
broken_lines-requires-clause-masks c = c.requires.masks

pub returns-clause-locks : goal.returns-clause-locks
returns-clause-locks c = c.lock_path_rules.ensures.lines c.in_ok-first.field-0.first c.in_ok-first.ensures.0

pub returns-clause-calls : goal.returns-clause-calls
returns-clause-calls c =
    subst (AreLines (pipe_view c.args.pipe.now)) (sym c.of.ensures) (c.spec_path_rules.ensures.lines c.in_ok-first.field-0.second c.in_ok-first.ensures.1)
