use Rattle.std.proofs.Common.{length}
use Rattle.pdl_form.specs.FormView.{form}
use Rattle.pdl_net.specs.Growth.{Extends}
use Rattle.pdl_port.specs.Laws.{own as port_own}
use Rattle.pdl_pipe_beside.specs.Parts.{AreParts}
use Rattle.pdl_pipe_beside.specs.Ports.{has_port}
use Rattle.pdl_pipe_beside.proofs.ports.lay_ports.Given as goal

-- the first memories have their ports
abbrev pub invariant-loop-m : goal.invariant-loop-m
invariant-loop-m l = record {
  ports : AreParts port_own (has_port l.b (form l.pipe).pipe l.inputs) (length l.fn.b.regs) (length l.b.regs) l.ports.items l.m;
  extends : Extends l.fn.b l.b;
}
