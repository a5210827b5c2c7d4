use Rattle.std.proofs.Common.{ℕ, ◌<◌}
use Rattle.pdl_form.specs.FormView.{form}
use Rattle.pdl_port.specs.Laws.{own as port_own}
use Rattle.pdl_pipe_beside.specs.Parts.{own_at, ExtendsParts}
use Rattle.pdl_pipe_beside.specs.Steps.{IsPortStepped}
use Rattle.pdl_pipe_beside.proofs.port_round.set_ports.Given as goal

-- the ports of the first memories have made their steps
abbrev pub invariant-loop-m : goal.invariant-loop-m
invariant-loop-m l = record {
  stepped : (m : ℕ) → m < l.m → IsPortStepped l.fn.b l.b (form l.round.pipe.now).pipe l.round.ends.now l.ports m;
  extends : ExtendsParts (own_at port_own l.ports) l.m l.fn.b l.b;
}
