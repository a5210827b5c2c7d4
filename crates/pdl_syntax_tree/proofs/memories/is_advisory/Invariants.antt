use Rattle.std.proofs.Common.{◌≡◌, map, drop}
use Rattle.pdl_semantics.specs.Flatten.{is_advisory_mem}
use Rattle.pdl_syntax_tree.specs.View.{mem_view}
use Rattle.pdl_syntax_tree.proofs.memories.is_advisory.Given as goal

-- none so far is named so
abbrev pub invariant-loop-mem : goal.invariant-loop-mem
invariant-loop-mem l = is_advisory_mem (map mem_view (drop l.mem-index l.mems)) l.name ≡ is_advisory_mem (map mem_view l.mems) l.name
