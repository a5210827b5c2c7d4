use Rattle.std.proofs.Common.{◌≡◌, ◌++◌, drop}
use Rattle.pdl_pipe_ports.specs.OutputList.{stages_outs}
use Rattle.pdl_pipe_ports.proofs.outputs.push_stages.Given as goal

abbrev pub invariant-loop-k : goal.invariant-loop-k
invariant-loop-k l = l.outs ++ stages_outs l.k (drop l.k l.stages) ≡ l.fn.outs ++ stages_outs 0 l.stages
