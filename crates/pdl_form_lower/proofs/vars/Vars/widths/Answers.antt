use Rattle.std.proofs.Common.{ap, map, ◌∙◌}
use Rattle.pdl_semantics.specs.Flatten.{Var}
use Rattle.pdl_form_lower.specs.declared.vars.NumberedVariable.{NumberedVariable}
use Rattle.pdl_form_lower.specs.Variables.{Scope}
use Rattle.pdl_form_lower.proofs.Numbering.{widths_seen}
use Rattle.pdl_form_lower.proofs.vars.Vars.widths.Goals as goal

pub returns : goal.returns
returns c =
    c.in_ok-widths_of.ensures
    ∙ ap (λ vs. map (λ (v : NumberedVariable). v.width) vs) c.as_slice.ensures.value
    ∙ widths_seen c.self.inside.table.now c.self.inside.vars.items
    ∙ ap (λ (s : Scope). map (λ (v : Var). v.width) s.vars) c.self.view_is
