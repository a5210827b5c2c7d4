use Rattle.std.proofs.Common.{◌≡◌, ◌∙◌, sym, refl, None, Some, Option, is_some, option_map}
use Rattle.pdl_asm_table.proofs.Entries.{defined_there, defined_new}
use Rattle.pdl_asm_table.proofs.dictionary.Dictionary.define.Goals as goal

mapped : {T U : Type 0} (f : T → U) (o : Option T) → is_some (option_map f o) ≡ is_some o
mapped f None = refl
mapped f (Some x) = refl

pub returns-then-is_some-clause-ok : goal.returns-then-is_some-clause-ok
returns-then-is_some-clause-ok g c =
    defined_there c.self.inside.values.entries _ _ _ _ c.get.ensures.value c.self.view_is (mapped _ c.get.result ∙ sym c.is_some.ensures ∙ c.if-is_some.true)

pub returns-clause-ok : goal.returns-clause-ok
returns-clause-ok g c =
    defined_new c.self.inside.values.entries _ _ _ _ _ c.get.ensures.value c.self.view_is (mapped _ c.get.result ∙ sym c.is_some.ensures ∙ c.if-is_some.false)
    c.in_ok-insert.ensures.entries
