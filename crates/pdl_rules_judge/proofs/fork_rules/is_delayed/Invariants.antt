use Rattle.std.proofs.Common.{◌≡◌, map, drop}
use Rattle.pdl_syntax_tree.specs.View.{mem_view}
use Rattle.pdl_rules.specs.Forks as spec
use Rattle.pdl_rules_judge.proofs.fork_rules.is_delayed.Given as goal

-- none so far is named so
abbrev pub invariant-loop-mem : goal.invariant-loop-mem
invariant-loop-mem l = spec.is_delayed_memory (map mem_view (drop l.mem-index l.mems)) l.name ≡ spec.is_delayed_memory (map mem_view l.mems) l.name
