use Rattle.std.proofs.Common.{map, take, filter, length, List}
use Rattle.pdl_syntax_tree.specs.View.{pipe_view}
use Rattle.pdl_rules.specs.Places.{Place, on_path}
use Rattle.pdl_rules.specs.Stages.{bound_late}
use Rattle.pdl_paths.specs.Actions.{place_view}
use Rattle.pdl_paths.specs.Masks.{path_of}
use Rattle.pdl_rules_walk.specs.Course.{by_bits}
use Rattle.pdl_rules_walk.proofs.Steps.{walked}
use Rattle.pdl_locks.specs.declared.at_locations.LocationRule.TheVariants.{Held, ReservedOnce, Released}
use Rattle.pdl_locks.specs.declared.at_memories.MemoryRule.TheVariants.{ReadFirst, FewReserves}
use Rattle.pdl_locks.specs.Walk.{at_location, of_memory, in_turn}
use Rattle.pdl_locks.proofs.walk.LockRulesPathRules.end.Goals as goal

pub returns : goal.returns
returns c gs xs bits h =
    let p = pipe_view c.args.self.now.bound.pipe.now in (
      walked (by_bits (at_location p Held) gs xs) _ bits (length xs) _ h.0,
      walked (by_bits (of_memory p ReadFirst) gs xs) _ bits (length xs) _ h.1,
      walked (by_bits (of_memory p FewReserves) gs xs) _ bits (length xs) _ h.2,
      walked (by_bits (at_location p ReservedOnce) gs xs) _ bits (length xs) _ h.3,
      walked (by_bits in_turn gs xs) _ bits (length xs) _ h.4,
      walked (by_bits (at_location p Released) gs xs) _ bits (length xs) _ h.5,
      walked (by_bits (bound_late p) gs xs) _ bits (length xs) _ h.6,
    )
