use Rattle.std.proofs.Common.{◌≡◌, drop}
use Rattle.pdl_vread_pipe.specs.Tests as spec
use Rattle.pdl_vread_pipe.proofs.memories.find.Given as goal

abbrev pub invariant-loop-mem : goal.invariant-loop-mem
invariant-loop-mem l = spec.find_named l.name (drop l.mem-index l.mems) ≡ spec.find_named l.name l.mems
