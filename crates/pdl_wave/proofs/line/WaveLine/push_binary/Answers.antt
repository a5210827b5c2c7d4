use Rattle.std.proofs.Common.{arith}
use Rattle.std.proofs.lemmas.Grind.{common_steps}
use Rattle.pdl_wave.proofs.line.WaveLine.push_binary.Goals as goal
use Rattle.pdl_wave.proofs.Digits.{binary_next}

pub loop-done-preserved : goal.loop-done-preserved
loop-done-preserved c =
    let next = binary_next c.args.count c.loop-done.done c.args.value c.loop-done-test.true in
    record {
      text = grind (arith, common_steps, next);
      len = omega arith;
    }
