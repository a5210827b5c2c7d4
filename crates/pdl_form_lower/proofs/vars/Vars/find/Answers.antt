use Rattle.std.proofs.Common.{arith, ap, sym, subst, ◌∙◌}
use Rattle.std.specs.Prelude.{IsTrue}
use Rattle.pdl_rules.specs.Typed.{is_named}
use Rattle.pdl_form_lower.specs.Variables.{Scope, vars_of}
use Rattle.pdl_form_lower.proofs.Numbering.{number_read, place_within, some_place}
use Rattle.pdl_form_lower.proofs.vars.Vars.find.Goals as goal

pub index-requires : goal.index-requires
index-requires c =
    let within = place_within c.self.inside.table.now c.self.inside.numbers.items (vars_of c.self.inside.table.now c.self.inside.vars.items) c.args.name.now
    c.in-Some.place c.self.invariant (sym c.position.ensures ∙ c.in-Some.is) in
    omega arith

pub unreachable-requires : goal.unreachable-requires
unreachable-requires c =
    some_place c.self.inside.table.now c.args.name.now
    (subst (λ (s : Scope). IsTrue (is_named s.table c.args.name.now)) (sym c.self.view_is) c.requires)
    (sym c.position.ensures ∙ c.in-None.is)

pub returns : goal.returns
returns c =
    number_read c.self.inside.table.now c.self.inside.numbers.items (vars_of c.self.inside.table.now c.self.inside.vars.items) _ c.args.name.now c.in-Some.place
    c.index.result.now c.self.invariant (sym c.position.ensures ∙ c.in-Some.is) c.index.ensures (ap (λ (s : Scope). s.vars) c.self.view_is)
