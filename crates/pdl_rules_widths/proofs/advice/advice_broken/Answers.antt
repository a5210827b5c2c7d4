use Rattle.std.proofs.Common.{ap, ◌∙◌, map, None}
use Rattle.pdl_kit.specs.declared.rule.Rule.TheVariants.{P1}
use Rattle.pdl_syntax_tree.specs.View.{mem_view, pipe_view}
use Rattle.pdl_paths.specs.Actions.{place_view}
use Rattle.pdl_rules.specs.Refusal.{refused_at}
use Rattle.pdl_rules_on_paths.specs.Lowest.{first_line}
use Rattle.pdl_rules_widths.specs.Advice.{breaks_advice}
use Rattle.pdl_rules_widths.proofs.AdvisedPlaces.{advice_lines}
use Rattle.pdl_rules_widths.proofs.advice.advice_broken.Goals as goal

pub returns : goal.returns
returns c =
    let xs = map place_view c.args.places.now in
    c.lowest_of.ensures
    ∙ ap (λ line. refused_at P1 line None)
    (c.advice_line.ensures
    ∙ ap (λ ms. first_line (breaks_advice c.args.variables.now (map mem_view ms)) xs) c.as_slice.ensures
    ∙ ap (λ vs. first_line (breaks_advice vs (pipe_view c.args.pipe.now).mems) xs) c.requires.variables
    ∙ advice_lines (pipe_view c.args.pipe.now) xs c.requires.places)
