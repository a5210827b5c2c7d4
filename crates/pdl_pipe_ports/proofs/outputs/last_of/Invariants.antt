use Rattle.std.proofs.Common.{◌≡◌, drop}
use Rattle.pdl_pipe_ports.specs.OutputList.{last_moves}
use Rattle.pdl_pipe_ports.proofs.outputs.last_of.Given as goal

abbrev pub invariant-loop-stage : goal.invariant-loop-stage
invariant-loop-stage l = last_moves (drop l.stage-index l.stages) l.last ≡ last_moves l.stages l.fn.none
