use Rattle.std.proofs.Common.{ap, sym, ◌∙◌}
use Rattle.indexmap.specs.IndexMap.{insert_entry}
use Rattle.std.proofs.Common.{nat_eq}
use Rattle.std.specs.Cmp.Lexicographic.{pointwise}
use Rattle.pdl_rules_widths.proofs.Entries.{with_variable-there, with_variable-new}
use Rattle.pdl_rules_widths.proofs.variables.Variables.define.Goals as goal
use Rattle.pdl_word.proofs.Lists.{is_some-mapped}

pub returns-then-is_some : goal.returns-then-is_some
returns-then-is_some c =
    record {
      ok = with_variable-there c.self.inside.types.entries _ _ c.args.width c.args.advised _ c.get.ensures.value c.self.view_is
          (is_some-mapped _ c.get.result ∙ sym c.if-is_some.ensures);
    }

pub returns : goal.returns
returns c =
    record {
      ok =
          with_variable-new c.self.inside.types.entries _ _ _ (record { width = c.args.width; advised = c.args.advised }) _ c.get.ensures.value c.self.view_is (is_some-mapped _ c.get.result ∙ sym c.if-is_some.ensures)
          (c.in_ok-insert.ensures.entries ∙ ap (λ x. insert_entry (pointwise nat_eq) c.self.inside.types.entries x (record { width = c.args.width; advised = c.args.advised })) c.in_ok-name.ensures.cases);
    }
