use Rattle.std.proofs.Common.{rules, arith, sym, ◌∙◌}
use Rattle.pdl_form_lower.specs.Variables.{vars_of}
use Rattle.pdl_form_lower.proofs.Numbering.{place_within, vars_more, more_known, more_unknown}
use Rattle.pdl_form_lower.proofs.vars.Vars.add.Goals as goal

pub enter-requires : goal.enter-requires
enter-requires c =
    place_within c.self.inside.table.now c.self.inside.numbers.items (vars_of c.self.inside.table.now c.self.inside.vars.items) c.args.name.now c.in-Some.place
    c.self.invariant (sym c.position-place.ensures ∙ c.in-Some.is)

pub invariant_of-self-in-Some : goal.invariant_of-self-in-Some
invariant_of-self-in-Some c =
    more_known c.self.inside.table.now c.self.inside.numbers.items c.enter.new.numbers.items c.self.inside.vars.items c.append.new.items.items
    c.args.self.now c.args.name.now c.args.width c.in-Some.place c.len-number.result c.args.advised c.position-place.result c.self.view_is c.position-place.ensures
    c.requires.known c.in_ok-append.ensures.ok c.self.invariant c.requires.small c.in-Some.is (omega arith) c.enter.ensures

pub invariant_of-self-in_default : goal.invariant_of-self-in_default
invariant_of-self-in_default c =
    more_unknown c.self.inside.table.now c.self.inside.numbers.items c.self.inside.vars.items c.append.new.items.items
    c.args.self.now c.args.name.now c.args.width c.args.advised c.position-place.result c.self.view_is c.position-place.ensures
    c.requires.known c.in_ok-append.ensures.ok c.self.invariant c.requires.small (search rules)

pub returns-in-Some-clause-vars : goal.returns-in-Some-clause-vars
returns-in-Some-clause-vars c =
    vars_more c.self.inside.table.now c.self.inside.vars.items c.append.new.items.items c.args.self.now c.args.name.now c.args.width c.args.advised
    c.position-place.result c.self.view_is c.position-place.ensures c.requires.known c.in_ok-append.ensures.ok

pub returns-in_default-clause-vars : goal.returns-in_default-clause-vars
returns-in_default-clause-vars c =
    vars_more c.self.inside.table.now c.self.inside.vars.items c.append.new.items.items c.args.self.now c.args.name.now c.args.width c.args.advised
    c.position-place.result c.self.view_is c.position-place.ensures c.requires.known c.in_ok-append.ensures.ok
