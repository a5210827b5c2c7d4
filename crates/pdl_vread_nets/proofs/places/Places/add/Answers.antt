use Rattle.std.proofs.Common.{refl, subst, Some}
use Rattle.std.specs.HashMap.{Updates}
use Rattle.pdl_vread_nets.proofs.Entries.{same, added_there, added_new, is_there}
use Rattle.pdl_vread_nets.proofs.places.Places.add.Goals as goal

pub returns-then-is_some-clause-names : goal.returns-then-is_some-clause-names
returns-then-is_some-clause-names c =
    λ names h. added_there c.args.self.now _ names c.args.name.now h (is_there _ c.get.result _ _ c.get.ensures.value c.if-is_some.ensures) refl refl

pub returns-clause-names : goal.returns-clause-names
returns-clause-names c = λ names h.
    added_new c.args.self.now _ names c.args.name.now h (is_there _ c.get.result _ _ c.get.ensures.value c.if-is_some.ensures)
    (subst
    (λ x. Updates same c.args.self.now.firsts c.insert.new.self x
    (Some c.args.self.now.count)) c.in_ok-name.ensures.cases c.in_ok-insert.ensures.updates) refl
