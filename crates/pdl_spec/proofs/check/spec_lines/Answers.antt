use Rattle.std.proofs.Common.{sym, subst}
use Rattle.pdl_syntax_tree.specs.View.{pipe_view}
use Rattle.pdl_spec.specs.WalkLines.{AreLines}
use Rattle.pdl_spec.proofs.check.spec_lines.Goals as goal

pub returns : goal.returns
returns c = subst (AreLines (pipe_view c.args.pipe.now)) (sym c.of.ensures) (c.spec_path_rules-rules.ensures.lines c.in_ok-lines.lines c.in_ok-lines.ensures)
