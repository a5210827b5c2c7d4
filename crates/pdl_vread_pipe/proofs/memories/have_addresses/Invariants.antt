use Rattle.std.proofs.Common.{◌≡◌, drop}
use Rattle.std.specs.List.{list_all}
use Rattle.pdl_vread_pipe.specs.Tests as spec
use Rattle.pdl_vread_pipe.proofs.memories.have_addresses.Given as goal

abbrev pub invariant-loop-mem : goal.invariant-loop-mem
invariant-loop-mem l = list_all spec.has_address (drop l.mem-index l.mems) ≡ list_all spec.has_address l.mems
