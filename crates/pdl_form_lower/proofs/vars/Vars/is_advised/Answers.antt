use Rattle.std.proofs.Common.{◌≡◌, false, Some, None, sym, ap, ◌∙◌, get_or}
use Rattle.pdl_semantics.specs.Flatten.{is_advised_var}
use Rattle.pdl_rules_widths.specs.Variables.{number_among}
use Rattle.pdl_form_lower.specs.Variables.{Scope, vars_of}
use Rattle.pdl_form_lower.specs.declared.vars.NumberedVariable.{NumberedVariable}
use Rattle.pdl_form_lower.proofs.Numbering.{number_within, advised_found, advised_missing}
use Rattle.pdl_form_lower.proofs.vars.Vars.is_advised.Goals as goal

pub is_advised_at-requires : goal.is_advised_at-requires
is_advised_at-requires c =
    let found : number_among (vars_of c.self.inside.table.now c.self.inside.vars.items) c.args.name.now ≡ Some c.in-Some.number =
    ap (λ (s : Scope). number_among s.vars c.args.name.now) c.self.view_is ∙ sym c.find.ensures ∙ c.in-Some.is in
    let below = number_within c.self.inside.table.now c.self.inside.vars.items c.args.name.now c.in-Some.number found in
    let same = c.as_slice.ensures.value in
    rw same below

pub returns-in-Some : goal.returns-in-Some
returns-in-Some c =
    let us = c.self.inside.table.now in
    let vs = c.self.inside.vars.items in
    let d : NumberedVariable = record { place = None; width = 0; advised = false } in
    let found : number_among (vars_of us vs) c.args.name.now ≡ Some c.in-Some.number =
    ap (λ (s : Scope). number_among s.vars c.args.name.now) c.self.view_is ∙ sym c.find.ensures ∙ c.in-Some.is in
    c.is_advised_at.ensures d
    ∙ ap (λ vs. (get_or vs c.in-Some.number d).advised) c.as_slice.ensures.value
    ∙ advised_found us vs c.args.name.now c.in-Some.number d found
    ∙ ap (λ (s : Scope). is_advised_var s.vars c.args.name.now) c.self.view_is

pub returns-in-None : goal.returns-in-None
returns-in-None c = sym (advised_missing c.args.self.now.vars c.args.name.now (sym c.find.ensures ∙ c.in-None.is))
