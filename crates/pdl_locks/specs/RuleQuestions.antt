-- What each rule asks of a place, of the places before it on a path.
use Rattle.std.specs.Prelude.{Bool, List}
use Rattle.pdl_kit.specs.declared.rule.Rule.{Rule}
use Rattle.pdl_kit.specs.declared.rule.Rule.TheVariants.{L1, L3, L4, L5, L7}
use Rattle.pdl_semantics.specs.Tree.{Pipe}
use Rattle.pdl_rules.specs.Places.{Place}
use Rattle.pdl_rules.specs.Locks as spec
use Rattle.pdl_locks.specs.declared.at_locations.LocationRule.{LocationRule}
use Rattle.pdl_locks.specs.declared.at_locations.LocationRule.TheVariants.{Held, ReservedOnce, Released}
use Rattle.pdl_locks.specs.declared.at_memories.MemoryRule.{MemoryRule}
use Rattle.pdl_locks.specs.declared.at_memories.MemoryRule.TheVariants.{ReadFirst, FewReserves}

-- the rule of the language that a rule on locations is
abbrev pub rule_of : LocationRule → Rule
rule_of Held = L1
rule_of ReservedOnce = L5
rule_of Released = L7

-- whether a place breaks a rule on locations, after the earlier places on a path
abbrev pub breaks_at_location : LocationRule → Pipe → List Place → Place → Bool
breaks_at_location Held p earlier x = spec.lacks_hold p earlier x
breaks_at_location ReservedOnce p earlier x = spec.is_reserved_again earlier x
breaks_at_location Released p earlier x = spec.ends_open earlier x

-- the rule of the language that a rule on memories is
abbrev pub memory_rule_of : MemoryRule → Rule
memory_rule_of ReadFirst = L3
memory_rule_of FewReserves = L4

-- whether a place breaks a rule on memories, after the earlier places on a path
abbrev pub breaks_at_memory : MemoryRule → Pipe → List Place → Place → Bool
breaks_at_memory ReadFirst p earlier x = spec.is_late_read p earlier x
breaks_at_memory FewReserves p earlier x = spec.is_one_too_many p earlier x
