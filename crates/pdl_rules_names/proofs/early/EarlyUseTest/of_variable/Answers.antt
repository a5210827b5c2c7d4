use Rattle.std.proofs.Common.{sym, ◌∙◌, subst, map, ◌<◌}
use Rattle.std.proofs.lemmas.List.{length-map}
use Rattle.pdl_syntax_tree.specs.View.{pipe_view, param_view}
use Rattle.pdl_rules.specs.Names.{OfVariable, defines_use}
use Rattle.pdl_paths.specs.Actions.{place_view}
use Rattle.pdl_rules_on_texts.proofs.Nth.{kth}
use Rattle.pdl_rules_names.proofs.Firsts.{first_below}
use Rattle.pdl_rules_names.proofs.Needs.{variable_nowhere, variable_param, variable_other}
use Rattle.pdl_rules_names.proofs.early.EarlyUseTest.of_variable.Goals as goal

pub returns-in-None : goal.returns-in-None
returns-in-None c =
    let h = kth place_view c.args.self.now.places.now c.args.self.now.k c.requires.here in
    variable_nowhere (pipe_view c.args.self.now.pipe.now)
    (map place_view c.args.self.now.places.now) c.args.self.now.k h.item c.args.name.now c.requires.suits.names.all h.is
    (sym (c.requires.suits.names.first.variables c.args.name.now) ∙ sym c.in-None.ensures)

pub returns-then-d-len : goal.returns-then-d-len
returns-then-d-len c =
    let h = kth place_view c.args.self.now.places.now c.args.self.now.k c.requires.here in
    variable_param (pipe_view c.args.self.now.pipe.now)
    (map place_view c.args.self.now.places.now) c.args.self.now.k h.item c.args.name.now c.in-Some.d c.len.result
    c.requires.suits.names.all h.is (sym (c.requires.suits.names.first.variables c.args.name.now) ∙ sym c.in-Some.ensures)
    (c.len.ensures ∙ sym (length-map c.args.self.now.pipe.now.params param_view)) c.if-d-len.true

pub is_ungiven-requires-clause-there : goal.is_ungiven-requires-clause-there
is_ungiven-requires-clause-there c =
    let xs = map place_view c.args.self.now.places.now in
    subst (λ n. c.in-Some.d < n) (length-map c.args.self.now.places.now place_view)
    (first_below (defines_use (OfVariable c.args.name.now)) xs c.in-Some.d
    (sym (c.requires.suits.names.first.variables c.args.name.now) ∙ sym c.in-Some.ensures))

pub returns-else-d-len : goal.returns-else-d-len
returns-else-d-len c =
    let h = kth place_view c.args.self.now.places.now c.args.self.now.k c.requires.here in
    let first = sym (c.requires.suits.names.first.variables c.args.name.now) ∙ sym c.in-Some.ensures in
    variable_other (pipe_view c.args.self.now.pipe.now)
    (map place_view c.args.self.now.places.now) c.args.self.now.k h.item c.args.name.now c.in-Some.d c.len.result
    c.is_ungiven.result c.requires.suits.names.all h.is first (c.len.ensures ∙ sym (length-map c.args.self.now.pipe.now.params param_view)) c.if-d-len.false
    (c.is_ungiven.ensures (OfVariable c.args.name.now) h.item first h.is)
