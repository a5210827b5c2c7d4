use Rattle.std.proofs.Common.{◌≡◌, ℤ, ap, get_or, refl, subst, ◌∙◌}
use Rattle.std.specs.Int.{cast_signed, cast_unsigned, w128}
use Rattle.std.proofs.lemmas.Int.{to_z-of_z}
use Rattle.pdl_asm_table.specs.declared.table.Arg.{Arg}
use Rattle.pdl_asm_table.specs.declared.table.ArgumentKind.TheVariants.{Reg}
use Rattle.pdl_asm.specs.Values.{operands_rule, rule_of}
use Rattle.pdl_asm.proofs.Bits.{rule_first}
use Rattle.pdl_asm.proofs.rules.+operands_rule.Goals as goal

pub returns-in-len1-up-operands : goal.returns-in-len1-up-operands
returns-in-len1-up-operands t c =
    let d : Arg = record { letter = 0; kind = Reg } in
    let z : ℤ = c.args.place.now in
    c.lower.ensures
    ∙ rule_first c.args.table.now c.args.labels.now z c.args.bits.now c.args.args.now c.args.operands.now
    (get_or c.args.args.now 0 d) d c.operand-item.result c.rule_of-first.result c.operands_rule-others.result c.in-len1-up.len_at_least c.in-len1-up-operands.len_at_least refl c.operand-item.is
    (c.rule_of-first.ensures ∙ ap rule_of c.argument_value.ensures) c.operands_rule-others.ensures
