use Rattle.std.proofs.Common.{◌≡◌, ◌+◌, ◌-◌}
use Rattle.pdl_net.specs.Signal.{const_signal}
use Rattle.pdl_net.specs.Growth.{Extends}
use Rattle.pdl_net.specs.Meaning.{Means, signal}
use Rattle.pdl_squash.specs.Laws.{squash_signals}
use Rattle.pdl_squash.specs.Nets.{none_signal, clear_signal, MeanFrom}
use Rattle.pdl_squash.proofs.emit_clear.Given as goal

abbrev pub invariant-loop-n : goal.invariant-loop-n
invariant-loop-n l = record {
  extends : Extends l.fn.b l.b;
  zero : Means l.b l.zero (const_signal 1 0);
  none : Means l.b l.none (none_signal (squash_signals l.fn.b l.p) l.n (l.p.stage - l.n + 1));
  one : (signal l.b l.none).width ≡ 1;
  clear : MeanFrom l.b l.clear.items (l.p.stage - l.n) l.p.stage (clear_signal (squash_signals l.fn.b l.p));
}
