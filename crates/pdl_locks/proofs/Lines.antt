-- The lines of the rules.
use Rattle.std.proofs.Common.{◌≡◌, ◌∙◌, [], List}
use Rattle.pdl_kit.specs.declared.rule.Rule.TheVariants.{L1, L3, L4, L5, L6, L7, L8}
use Rattle.pdl_semantics.specs.Tree.{Pipe}
use Rattle.pdl_rules.specs.Places.{Place, Guard, places, guards}
use Rattle.pdl_rules.specs.Refusal.{broken_line}
use Rattle.pdl_rules.specs.Stages.{bound_late}
use Rattle.pdl_rules_on_paths.specs.Lowest.{line_where, on_some}
use Rattle.pdl_rules_on_paths.proofs.Lines.{rule_lines}
use Rattle.pdl_rules_walk.specs.Course.{path_line}
use Rattle.pdl_rules_walk.proofs.Lines.{at_places}
use Rattle.pdl_locks.specs.declared.at_locations.LocationRule.{LocationRule}
use Rattle.pdl_locks.specs.declared.at_locations.LocationRule.TheVariants.{Held, ReservedOnce, Released}
use Rattle.pdl_locks.specs.declared.at_memories.MemoryRule.{MemoryRule}
use Rattle.pdl_locks.specs.declared.at_memories.MemoryRule.TheVariants.{ReadFirst, FewReserves}
use Rattle.pdl_locks.specs.RuleQuestions.{rule_of, memory_rule_of}
use Rattle.pdl_locks.specs.Walk.{at_location, of_memory, in_turn}

of_locations : (rule : LocationRule) (p : Pipe)
    → line_where (on_some (at_location p rule) (guards (places p))) [] (places p) ≡ broken_line (rule_of rule) p [] (places p)
of_locations Held p = rule_lines L1 p [] (places p)
of_locations ReservedOnce p = rule_lines L5 p [] (places p)
of_locations Released p = rule_lines L7 p [] (places p)

of_memories : (rule : MemoryRule) (p : Pipe)
    → line_where (on_some (of_memory p rule) (guards (places p))) [] (places p) ≡ broken_line (memory_rule_of rule) p [] (places p)
of_memories ReadFirst p = rule_lines L3 p [] (places p)
of_memories FewReserves p = rule_lines L4 p [] (places p)

-- the line at which a rule on locations is broken on some path is that at which the pipe breaks it
pub location_line : (rule : LocationRule) (p : Pipe) (gs : List Guard) (xs : List Place) → gs ≡ guards xs → xs ≡ places p
    → path_line (at_location p rule) gs xs ≡ broken_line (rule_of rule) p [] (places p)
location_line rule p gs xs own of = at_places (at_location p rule) p gs xs own of ∙ of_locations rule p

-- the line at which a rule on memories is broken on some path is that at which the pipe breaks it
pub memory_line : (rule : MemoryRule) (p : Pipe) (gs : List Guard) (xs : List Place) → gs ≡ guards xs → xs ≡ places p
    → path_line (of_memory p rule) gs xs ≡ broken_line (memory_rule_of rule) p [] (places p)
memory_line rule p gs xs own of = at_places (of_memory p rule) p gs xs own of ∙ of_memories rule p

-- the line at which a write is out of turn, or a release without one, on some path is that at which the pipe breaks L6
pub written_line : (p : Pipe) (gs : List Guard) (xs : List Place)
    → gs ≡ guards xs → xs ≡ places p → path_line in_turn gs xs ≡ broken_line L6 p [] (places p)
written_line p gs xs own of = at_places in_turn p gs xs own of ∙ rule_lines L6 p [] (places p)

-- the line at which a read is bound too late on some path is that at which the pipe breaks L8
pub bound_line : (p : Pipe) (gs : List Guard) (xs : List Place)
    → gs ≡ guards xs → xs ≡ places p → path_line (bound_late p) gs xs ≡ broken_line L8 p [] (places p)
bound_line p gs xs own of = at_places (bound_late p) p gs xs own of ∙ rule_lines L8 p [] (places p)
