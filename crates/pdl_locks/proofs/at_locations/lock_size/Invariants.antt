use Rattle.std.proofs.Common.{◌≡◌, map, drop}
use Rattle.pdl_syntax_tree.specs.View.{mem_view}
use Rattle.pdl_rules.specs.Locks.{lock_size}
use Rattle.pdl_locks.proofs.at_locations.lock_size.Given as goal

-- those so far give nothing
abbrev pub invariant-loop-mem : goal.invariant-loop-mem
invariant-loop-mem l = lock_size (map mem_view (drop l.mem-index l.mems)) l.name ≡ lock_size (map mem_view l.mems) l.name
