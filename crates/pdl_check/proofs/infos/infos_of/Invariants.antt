use Rattle.std.proofs.Common.{◌≡◌, map, take}
use Rattle.pdl_syntax_tree.specs.View.{mem_view}
use Rattle.pdl_check.proofs.infos.infos_of.Given as goal
use Rattle.pdl_rules.specs.Memories.{infos_of}

abbrev pub invariant-loop-mem : goal.invariant-loop-mem
invariant-loop-mem l = l.infos.items ≡ infos_of (map mem_view (take l.mem-index l.mems))
