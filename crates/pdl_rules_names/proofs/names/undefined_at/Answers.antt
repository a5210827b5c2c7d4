use Rattle.std.proofs.Common.{[], IfOk, ◌≡◌, ◌∙◌, ap, subst}
use Rattle.pdl_kit.specs.declared.rule.Rule.TheVariants.{N1}
use Rattle.pdl_syntax_tree.specs.View.{pipe_view}
use Rattle.pdl_rules.specs.Places.{places}
use Rattle.pdl_rules.specs.Refusal.{breaks_rule}
use Rattle.pdl_rules_on_paths.specs.Lowest.{line_where}
use Rattle.pdl_rules_on_paths.proofs.Lines.{rule_lines}
use Rattle.pdl_rules_names.proofs.names.undefined_at.Goals as goal

pub returns : goal.returns
returns c =
    let p = pipe_view c.args.pipe.now in
    subst (λ t. IfOk c.line_broken.result (λ line. line ≡ t))
    (ap (line_where (breaks_rule N1 p) []) c.requires.all ∙ rule_lines N1 p [] (places p)) c.line_broken.ensures
