use Rattle.pdl_form.specs.FormView.{form}
use Rattle.pdl_pipe_ports.specs.Inputs.{AreWhereRead}
use Rattle.pdl_pipe_ports.proofs.inputs.read_inputs.Given as goal

-- those of the first memories
abbrev pub invariant-loop-m : goal.invariant-loop-m
invariant-loop-m l = AreWhereRead (form l.pipe).pipe l.inputs l.found.items l.m
