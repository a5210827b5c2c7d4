use Rattle.std.proofs.Common.{is_some, ap, sym, ◌∙◌}
use Rattle.pdl_form_lower.proofs.Numbering.{number_set, number_kept}
use Rattle.pdl_form_lower.proofs.vars.enter.Goals as goal

pub returns-then-is_none : goal.returns-then-is_none
returns-then-is_none c =
    number_set c.args.numbers.now.items c.args.place c.args.number c.index.result.now c.requires
    (ap is_some (sym c.index.ensures) ∙ c.if-is_none.ensures)

pub returns-else-is_none : goal.returns-else-is_none
returns-else-is_none c =
    number_kept c.args.numbers.now.items c.args.place c.args.number c.index.result.now c.requires
    (ap is_some (sym c.index.ensures) ∙ c.if-is_none.ensures)
