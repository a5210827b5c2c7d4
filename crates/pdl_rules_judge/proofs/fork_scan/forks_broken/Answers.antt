use Rattle.std.proofs.Common.{sym, ap, ◌∙◌}
use Rattle.pdl_syntax_tree.specs.View.{pipe_view}
use Rattle.pdl_rules_judge.specs.ForkOrder.{order, first_of}
use Rattle.pdl_rules_judge.proofs.ForkLines.{rules_same}
use Rattle.pdl_rules_judge.proofs.fork_scan.forks_broken.Goals as goal

pub returns : goal.returns
returns c = c.first_of.ensures ∙ ap (first_of order (pipe_view c.args.pipe.now)) (sym c.requires) ∙ sym (rules_same order (pipe_view c.args.pipe.now))
