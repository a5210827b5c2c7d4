use Rattle.std.proofs.Common.{◌≡◌, drop}
use Rattle.pdl_net.specs.Meaning.{IsThere, signal}
use Rattle.pdl_net.specs.Growth.{Extends}
use Rattle.pdl_pipe_exprs.specs.Nets.{signals_in}
use Rattle.pdl_pipe_walk.specs.Guesses.{differ_from, differ_signal}
use Rattle.pdl_pipe_walk.proofs.guesses.differ.Given as goal

abbrev pub invariant-loop-i : goal.invariant-loop-i
invariant-loop-i l = record {
  found : IsThere l.b l.found;
  one : (signal l.b l.found).width ≡ 1;
  means : differ_from (signal l.b l.found) (drop l.i (signals_in l.fn.b l.xs)) (drop l.i (signals_in l.fn.b l.ys))
      ≡ differ_signal (signals_in l.fn.b l.xs) (signals_in l.fn.b l.ys);
  extends : Extends l.fn.b l.b;
}
