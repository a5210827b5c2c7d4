use Rattle.std.proofs.Common.{Some, sym, ap, subst, ◌∙◌, ◌==◌}
use Rattle.std.specs.List.{slice_split}
use Rattle.std.specs.Option.{option_copied}
use Rattle.pdl_asm.specs.Lines.{operand_of, operands_in, operands_of, parts_after}
use Rattle.pdl_asm.proofs.Operands.{Read, all_read, read_more, started}
use Rattle.pdl_asm.proofs.operand.read_operands.Goals as goal

pub loop-rest-init : goal.loop-rest-init
loop-rest-init c =
    subst (λ os. Read os (operands_in (slice_split (λ d. d == 44) c.args.text.now)) (operands_of c.args.text.now)) (sym c.new-operands.ensures)
    (started c.args.text.now c.if-is_empty.ensures)

pub loop-rest-preserved : goal.loop-rest-preserved
loop-rest-preserved c =
    let inv =
    subst (λ r. Read c.loop-rest.operands (operands_in (parts_after (option_copied r))) (operands_of c.args.text.now)) c.in-Some.is c.loop-rest.invariant in
    read_more c.loop-rest.operands c.add.new.operands c.in-Some-2.operand c.split_part.result.0.now _ _
    (operands_of c.args.text.now) c.in_ok-add-in-Some-2.ensures
    (ap operand_of (sym c.without_blanks.ensures) ∙ sym c.in_ok-operand.ensures ∙ c.in-Some-2.is) c.split_part.ensures.parts inv

pub returns : goal.returns
returns c =
    ap (λ os. Some os) c.counted-2.ensures
    ∙ all_read c.loop-rest.operands c.args.text.now
    (subst (λ r. Read c.loop-rest.operands (operands_in (parts_after (option_copied r))) (operands_of c.args.text.now)) c.in_default.is c.loop-rest.invariant)
