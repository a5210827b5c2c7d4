use Rattle.std.proofs.Common.{arith}
use Rattle.std.proofs.lemmas.Grind.{common_steps}
use Rattle.pdl_vlog.proofs.text.Text.push_hex.Goals as goal
use Rattle.pdl_word.proofs.Digits.{hex_next}

pub loop-done-preserved : goal.loop-done-preserved
loop-done-preserved c =
    let next = hex_next c.args.count c.loop-done.done c.args.value c.loop-done-test.true in
    grind (arith, common_steps, next)
