use Rattle.std.proofs.Common.{ap, sym, arith}
use Rattle.std.specs.Prelude.{length}
use Rattle.pdl_net_needed.proofs.Counts.{none_before}
use Rattle.pdl_net_needed.proofs.kept.numbers.Goals as goal

pub loop-i-init : goal.loop-i-init
loop-i-init c = record {
  count = ap length c.new-numbers.ensures.items;
  each = λ j l. absurd (omega arith);
  next = sym (none_before c.args.marks.now);
  few = omega arith;
}
