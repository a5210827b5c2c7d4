use Rattle.std.proofs.Common.{◌≡◌, ℤ, ap, get_or, refl, subst, ◌∙◌}
use Rattle.std.specs.Result.{result_unwrap_or}
use Rattle.std.specs.Int.{cast_signed, cast_unsigned, w128}
use Rattle.std.proofs.lemmas.Int.{to_z-of_z}
use Rattle.pdl_asm_table.specs.declared.table.Arg.{Arg}
use Rattle.pdl_asm_table.specs.declared.table.ArgumentKind.TheVariants.{Reg}
use Rattle.pdl_asm.specs.Values.{argument_value, letter_value}
use Rattle.pdl_asm.proofs.Bits.{letter_first, unwrap_is}
use Rattle.pdl_asm.proofs.encode.+letter_value.Goals as goal

pub returns-then-arg-letter : goal.returns-then-arg-letter
returns-then-arg-letter t c =
    let d : Arg = record { letter = 0; kind = Reg } in
    let z : ℤ = c.args.place.now in
    c.unwrap_or.ensures ∙ ap (λ r. result_unwrap_or r 0) c.argument_value.ensures
    ∙ unwrap_is (argument_value c.args.table.now c.args.labels.now z c.args.bits.now (get_or c.args.args.now 0 d) c.operand-item.result)
    ∙ letter_first c.args.table.now c.args.labels.now z c.args.bits.now c.args.args.now c.args.operands.now c.args.letter
    (get_or c.args.args.now 0 d) d c.operand-item.result c.in-len1-up.len_at_least c.in-len1-up-operands.len_at_least refl c.operand-item.is c.if-arg-letter.true
