use Rattle.std.proofs.Common.{◌∙◌, map, subst, sym}
use Rattle.std.proofs.lemmas.List.{length-map}
use Rattle.pdl_paths.specs.Actions.{place_view}
use Rattle.pdl_rules_on_paths.specs.Lowest.{breaks_at, IsLowest}
use Rattle.pdl_rules_on_paths.proofs.Lines.{lowest_line}
use Rattle.pdl_rules_on_texts.proofs.lowest.line_broken.Goals as goal

pub returns : goal.returns
returns g c =
    let test = g.R.TextRule.breaks_on c.args.rule.now in
    let xs = map place_view c.args.places.now in
    c.line_at.ensures
    ∙ lowest_line test xs c.in_ok-lowest.lowest
    (subst (λ n. IsLowest (breaks_at test xs) n c.in_ok-lowest.lowest) (sym (length-map c.args.places.now place_view)) c.in_ok-lowest.ensures)
