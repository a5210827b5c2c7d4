use Rattle.std.proofs.Common.{◌≡◌, ℤ, subst}
use Rattle.std.specs.Int.{cast_signed, cast_unsigned, w128}
use Rattle.std.proofs.lemmas.Int.{to_z-of_z}
use Rattle.pdl_asm.specs.Assembly.{operation_rule}
use Rattle.pdl_asm.proofs.Bits.{rule_of_insn}
use Rattle.pdl_asm.proofs.rules.operation_rule.Goals as goal

pub returns-in-Insn : goal.returns-in-Insn
returns-in-Insn c =
    rule_of_insn c.args.table.now c.args.labels.now c.args.taken c.args.place.now c.in-Insn.name c.in-Insn.operands c.args.operation.now c.insn_rule.result c.insn_rule.ensures c.in-Insn.is
