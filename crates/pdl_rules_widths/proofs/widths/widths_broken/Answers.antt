use Rattle.std.proofs.Common.{◌∙◌, subst}
use Rattle.pdl_syntax_tree.specs.View.{pipe_view}
use Rattle.pdl_rules_widths.specs.Lines.{AreLines}
use Rattle.pdl_rules_widths.proofs.LowestRule.{lowest_line}
use Rattle.pdl_rules_widths.proofs.widths.widths_broken.Goals as goal

pub returns : goal.returns
returns c =
    let p = pipe_view c.args.pipe.now in
    c.lowest.ensures ∙ lowest_line p c.lines_of.result (subst (λ xs. AreLines p xs c.lines_of.result) c.requires.places c.lines_of.ensures)
