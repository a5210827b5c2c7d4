use Rattle.std.proofs.Common.{◌≡◌, map, drop}
use Rattle.pdl_semantics.specs.Flatten as spec
use Rattle.pdl_syntax_tree.specs.View.{mem_view}
use Rattle.pdl_rules_widths.proofs.memories.mem_width.Given as goal

-- those before aren't named so
abbrev pub invariant-loop-mem : goal.invariant-loop-mem
invariant-loop-mem l = spec.mem_width (map mem_view (drop l.mem-index l.mems)) l.name ≡ spec.mem_width (map mem_view l.mems) l.name
