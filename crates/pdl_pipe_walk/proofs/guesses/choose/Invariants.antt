use Rattle.std.proofs.Common.{◌≡◌, take}
use Rattle.pdl_net.specs.Meaning.{signal}
use Rattle.pdl_net.specs.Growth.{Extends}
use Rattle.pdl_pipe_exprs.specs.Nets.{NetsThere, signals_in}
use Rattle.pdl_pipe_walk.specs.Guesses.{choices}
use Rattle.pdl_pipe_walk.proofs.guesses.choose.Given as goal

abbrev pub invariant-loop-i : goal.invariant-loop-i
invariant-loop-i l = record {
  there : NetsThere l.b l.nets;
  means : signals_in l.b l.nets ≡ take l.i (choices (signal l.fn.b l.on) (signals_in l.fn.b l.xs) (signals_in l.fn.b l.ys));
  extends : Extends l.fn.b l.b;
}
