use Rattle.std.proofs.Common.{◌≡◌, ◌++◌, drop}
use Rattle.pdl_form.specs.View.{mem_names}
use Rattle.pdl_pipe_ports.specs.OutputList.{requests_outs}
use Rattle.pdl_pipe_ports.proofs.outputs.push_requests.Given as goal

abbrev pub invariant-loop-i : goal.invariant-loop-i
invariant-loop-i l = l.outs ++ requests_outs (mem_names (drop l.i l.mems)) (drop l.i l.requests) ≡ l.fn.outs ++ requests_outs (mem_names l.mems) l.requests
