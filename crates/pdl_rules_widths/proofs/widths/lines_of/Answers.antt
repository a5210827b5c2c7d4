use Rattle.std.proofs.Common.{subst}
use Rattle.pdl_syntax_tree.specs.View.{pipe_view}
use Rattle.pdl_paths.specs.Actions.{place_view}
use Rattle.pdl_rules_on_texts.proofs.Nth.{all_taken}
use Rattle.pdl_rules_widths.specs.Lines.{AreLines}
use Rattle.pdl_rules_widths.proofs.widths.lines_of.Goals as goal

pub returns : goal.returns
returns c =
    subst (λ xs. AreLines (pipe_view c.args.pipe.now) xs c.loop-k.lines)
    (all_taken place_view c.args.places.now c.loop-k.k c.loop-k-test.false) c.loop-k.invariant
