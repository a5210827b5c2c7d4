use Rattle.std.proofs.Common.{◌≡◌, map, take}
use Rattle.pdl_net.specs.Pipe.{delayed_info}
use Rattle.pdl_vread_pipe.proofs.memories.delayed_infos.Given as goal

abbrev pub invariant-loop-mem : goal.invariant-loop-mem
invariant-loop-mem l = l.infos ≡ map delayed_info (take l.mem-index l.delayed)
