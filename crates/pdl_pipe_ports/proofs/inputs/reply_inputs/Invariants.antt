use Rattle.std.proofs.Common.{◌≡◌, ◌*◌, take, length, flat_map}
use Rattle.pdl_semantics.specs.Stages.{reply_place}
use Rattle.pdl_form.specs.FormView.{form}
use Rattle.pdl_net.specs.Circuit.{inputs_of}
use Rattle.pdl_net.specs.Growth.{ExtendsPorts}
use Rattle.pdl_pipe_ports.specs.Inputs.{mem_ports, AreReplies}
use Rattle.pdl_pipe_ports.proofs.inputs.reply_inputs.Given as goal

-- those of the first memories
abbrev pub invariant-loop-mem : goal.invariant-loop-mem
invariant-loop-mem l = record {
  inputs : AreReplies l.b (form l.pipe).pipe l.found.items l.mem-index;
  place : length (inputs_of l.b) ≡ 2 * reply_place (form l.pipe).pipe l.mem-index;
  extends : ExtendsPorts l.fn.b l.b (flat_map mem_ports (take l.mem-index l.mems));
  regs : l.b.regs ≡ l.fn.b.regs;
}
