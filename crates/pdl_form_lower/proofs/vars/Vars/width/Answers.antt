use Rattle.std.proofs.Common.{◌≡◌, false, Some, None, sym, ap, ◌∙◌, arith, get_or, subst, ◌≤◌}
use Rattle.pdl_semantics.specs.Flatten.{var_width}
use Rattle.pdl_rules_widths.specs.Variables.{number_among}
use Rattle.pdl_form_lower.specs.Variables.{Scope, vars_of}
use Rattle.pdl_form_lower.specs.declared.vars.NumberedVariable.{NumberedVariable}
use Rattle.pdl_form_lower.proofs.Numbering.{number_within, width_found, width_missing}
use Rattle.pdl_form_lower.proofs.vars.Vars.width.Goals as goal
use Rattle.pdl_word.specs.Words.{widest}

pub width_at-requires : goal.width_at-requires
width_at-requires c =
    let found : number_among (vars_of c.self.inside.table.now c.self.inside.vars.items) c.args.name.now ≡ Some c.in-Some.number =
    ap (λ (s : Scope). number_among s.vars c.args.name.now) c.self.view_is ∙ sym c.find.ensures ∙ c.in-Some.is in
    let below = number_within c.self.inside.table.now c.self.inside.vars.items c.args.name.now c.in-Some.number found in
    let same = c.as_slice.ensures.value in
    rw same below

pub returns-in-Some-clause-value : goal.returns-in-Some-clause-value
returns-in-Some-clause-value c =
    let us = c.self.inside.table.now in
    let vs = c.self.inside.vars.items in
    let d : NumberedVariable = record { place = None; width = 0; advised = false } in
    let found : number_among (vars_of us vs) c.args.name.now ≡ Some c.in-Some.number =
    ap (λ (s : Scope). number_among s.vars c.args.name.now) c.self.view_is ∙ sym c.find.ensures ∙ c.in-Some.is in
    c.width_at.ensures d
    ∙ ap (λ vs. (get_or vs c.in-Some.number d).width) c.as_slice.ensures.value
    ∙ width_found us vs c.args.name.now c.in-Some.number d found
    ∙ ap (λ (s : Scope). var_width s.vars c.args.name.now) c.self.view_is

pub returns-in-Some-clause-small : goal.returns-in-Some-clause-small
returns-in-Some-clause-small c =
    let value = returns-in-Some-clause-value c in
    let small = subst (λ (s : Scope). var_width s.vars c.args.name.now ≤ widest) c.self.view_is (c.self.invariant.small c.args.name.now) in
    omega arith

pub returns-in-None-clause-value : goal.returns-in-None-clause-value
returns-in-None-clause-value c = sym (width_missing c.args.self.now.vars c.args.name.now (sym c.find.ensures ∙ c.in-None.is))
