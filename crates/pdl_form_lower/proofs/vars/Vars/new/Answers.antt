use Rattle.pdl_form_lower.proofs.Numbering.{none_numbered}
use Rattle.pdl_form_lower.proofs.vars.Vars.new.Goals as goal

pub invariant_of-result : goal.invariant_of-result
invariant_of-result c =
    none_numbered c.args.table.now c.in_ok-no_numbers.field-0.items c.new.result.items c.len.result c.in_ok-no_numbers.ensures c.len.ensures c.new.ensures.items
