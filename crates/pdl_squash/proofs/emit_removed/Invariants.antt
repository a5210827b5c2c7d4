use Rattle.pdl_net.specs.Signal.{const_signal}
use Rattle.pdl_net.specs.Growth.{Extends}
use Rattle.pdl_net.specs.Meaning.{Means}
use Rattle.pdl_squash.specs.Laws.{squash_signals}
use Rattle.pdl_squash.specs.Nets.{removed_signal, MeanFrom}
use Rattle.pdl_squash.proofs.emit_removed.Given as goal

abbrev pub invariant-loop-k : goal.invariant-loop-k
invariant-loop-k l = record {
  extends : Extends l.fn.b l.b;
  zero : Means l.b l.zero (const_signal 1 0);
  removed : MeanFrom l.b l.removed 0 l.k (removed_signal (squash_signals l.fn.b l.p));
}
