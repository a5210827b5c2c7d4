use Rattle.std.proofs.Common.{◌≡◌, map, drop}
use Rattle.pdl_syntax_tree.specs.View.{mem_view}
use Rattle.pdl_rules.specs.Widths.{mem_depth}
use Rattle.pdl_rules_widths.proofs.memories.mem_depth.Given as goal

-- those so far give nothing
abbrev pub invariant-loop-mem : goal.invariant-loop-mem
invariant-loop-mem l = mem_depth (map mem_view (drop l.mem-index l.mems)) l.name ≡ mem_depth (map mem_view l.mems) l.name
