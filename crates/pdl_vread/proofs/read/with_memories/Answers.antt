use Rattle.pdl_vread.proofs.Steps.{refused_pipe}
use Rattle.pdl_vread.proofs.read.with_memories.Goals as goal

pub returns-in-Err : goal.returns-in-Err
returns-in-Err c = refused_pipe c.args.file c.args.wiring c.in_ok-netlist.netlist c.in-Err.error c.requires c.in_ok-netlist.ensures c.in-Err.ensures
