use Rattle.std.proofs.Common.{length, unwrap_or, ap, sym, ◌∙◌, arith}
use Rattle.pdl_form_lower.specs.Variables.{Scope}
use Rattle.pdl_form_lower.proofs.Numbering.{number_found, length_vars}
use Rattle.pdl_form_lower.proofs.vars.Vars.number.Goals as goal

pub returns-in-Some : goal.returns-in-Some
returns-in-Some c =
    ap (λ o. unwrap_or o (length c.args.self.now.vars)) (sym c.in-Some.is ∙ c.find.ensures) ∙ number_found c.args.self.now.vars c.args.name.now

pub returns-in-None : goal.returns-in-None
returns-in-None c =
    let long = length_vars c.self.inside.table.now c.self.inside.vars.items in
    let same = ap (λ (s : Scope). length s.vars) c.self.view_is in
    let seen = ap (λ o. unwrap_or o (length c.args.self.now.vars)) (sym c.in-None.is ∙ c.find.ensures) ∙ number_found c.args.self.now.vars c.args.name.now in
    omega arith
