use Rattle.std.proofs.Common.{◌≡◌, ◌++◌, drop}
use Rattle.pdl_form.specs.View.{mem_names}
use Rattle.pdl_pipe_ports.specs.OutputList.{commits_outs}
use Rattle.pdl_pipe_ports.proofs.outputs.push_memories.Given as goal

abbrev pub invariant-loop-i : goal.invariant-loop-i
invariant-loop-i l =
    l.outs ++ commits_outs (mem_names (drop l.i l.mems)) (drop l.i l.twice) (drop l.i l.nets) ≡ l.fn.outs ++ commits_outs (mem_names l.mems) l.twice l.nets
