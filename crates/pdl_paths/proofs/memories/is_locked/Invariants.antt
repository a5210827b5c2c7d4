use Rattle.std.proofs.Common.{◌≡◌, map, drop}
use Rattle.pdl_syntax_tree.specs.View.{mem_view}
use Rattle.pdl_rules.specs.Locks.{is_locked}
use Rattle.pdl_paths.proofs.memories.is_locked.Given as goal

-- none so far is named so
abbrev pub invariant-loop-mem : goal.invariant-loop-mem
invariant-loop-mem l = is_locked (map mem_view (drop l.mem-index l.mems)) l.name ≡ is_locked (map mem_view l.mems) l.name
