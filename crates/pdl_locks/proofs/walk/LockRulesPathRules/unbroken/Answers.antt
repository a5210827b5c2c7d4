use Rattle.std.proofs.Common.{length}
use Rattle.pdl_syntax_tree.specs.View.{pipe_view}
use Rattle.pdl_rules.specs.Stages.{bound_late}
use Rattle.pdl_rules_walk.specs.Course.{by_bits}
use Rattle.pdl_rules_walk.proofs.Steps.{none_yet}
use Rattle.pdl_locks.specs.declared.at_locations.LocationRule.TheVariants.{Held, ReservedOnce, Released}
use Rattle.pdl_locks.specs.declared.at_memories.MemoryRule.TheVariants.{ReadFirst, FewReserves}
use Rattle.pdl_locks.specs.Walk.{at_location, of_memory, in_turn}
use Rattle.pdl_locks.proofs.walk.LockRulesPathRules.unbroken.Goals as goal

pub returns : goal.returns
returns c gs xs e =
    let p = pipe_view c.args.self.now.bound.pipe.now in (
      none_yet (by_bits (at_location p Held) gs xs) (length xs) c.args.count e,
      none_yet (by_bits (of_memory p ReadFirst) gs xs) (length xs) c.args.count e,
      none_yet (by_bits (of_memory p FewReserves) gs xs) (length xs) c.args.count e,
      none_yet (by_bits (at_location p ReservedOnce) gs xs) (length xs) c.args.count e,
      none_yet (by_bits in_turn gs xs) (length xs) c.args.count e,
      none_yet (by_bits (at_location p Released) gs xs) (length xs) c.args.count e,
      none_yet (by_bits (bound_late p) gs xs) (length xs) c.args.count e,
    )
