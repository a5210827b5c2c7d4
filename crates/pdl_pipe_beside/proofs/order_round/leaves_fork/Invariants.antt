use Rattle.std.proofs.Common.{◌≡◌, ◌-◌, length}
use Rattle.pdl_form.specs.FormView.{form}
use Rattle.pdl_net.specs.Growth.{Extends}
use Rattle.pdl_net.specs.Meaning.{Means, signal}
use Rattle.pdl_law_sides.specs.Sides.{leaves_fork}
use Rattle.pdl_pipe_beside.specs.Ends.{ends_in, moves_in}
use Rattle.pdl_pipe_beside.proofs.order_round.leaves_fork.Given as goal

-- the last stages
abbrev pub invariant-loop-i : goal.invariant-loop-i
invariant-loop-i l = record {
  means : Means l.b l.net
      (leaves_fork (form l.round.pipe.now).pipe (ends_in l.fn.b l.round.ends.now)
      (moves_in l.fn.b l.round.ends.now) l.fork l.i (length l.round.ends.now - l.i));
  one : (signal l.b l.net).width ≡ 1;
  extends : Extends l.fn.b l.b;
}
