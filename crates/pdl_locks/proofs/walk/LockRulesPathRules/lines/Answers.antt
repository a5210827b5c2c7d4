use Rattle.std.proofs.Common.{◌∙◌, map}
use Rattle.pdl_syntax_tree.specs.View.{pipe_view}
use Rattle.pdl_rules.specs.Stages.{bound_late}
use Rattle.pdl_paths.specs.Actions.{place_view}
use Rattle.pdl_rules_walk.proofs.Lines.{found_line}
use Rattle.pdl_locks.specs.declared.at_locations.LocationRule.TheVariants.{Held, ReservedOnce, Released}
use Rattle.pdl_locks.specs.declared.at_memories.MemoryRule.TheVariants.{ReadFirst, FewReserves}
use Rattle.pdl_locks.specs.Walk.{at_location, of_memory, in_turn}
use Rattle.pdl_locks.proofs.Lines.{location_line, memory_line, written_line, bound_line}
use Rattle.pdl_locks.proofs.walk.LockRulesPathRules.lines.Goals as goal

pub returns : goal.returns
returns c gs h own of =
    let p = pipe_view c.args.self.now.bound.pipe.now in
    let xs = map place_view c.args.places.now in
    record {
      held = c.line_at.ensures ∙ found_line (at_location p Held) gs xs _ h.0 ∙ location_line Held p gs xs own of;
      read_first = c.line_at-2.ensures ∙ found_line (of_memory p ReadFirst) gs xs _ h.1 ∙ memory_line ReadFirst p gs xs own of;
      few_reserves = c.line_at-3.ensures ∙ found_line (of_memory p FewReserves) gs xs _ h.2 ∙ memory_line FewReserves p gs xs own of;
      reserved_once = c.line_at-4.ensures ∙ found_line (at_location p ReservedOnce) gs xs _ h.3 ∙ location_line ReservedOnce p gs xs own of;
      written_once = c.line_at-5.ensures ∙ found_line in_turn gs xs _ h.4 ∙ written_line p gs xs own of;
      released = c.line_at-6.ensures ∙ found_line (at_location p Released) gs xs _ h.5 ∙ location_line Released p gs xs own of;
      bound = c.line_at-7.ensures ∙ found_line (bound_late p) gs xs _ h.6 ∙ bound_line p gs xs own of;
    }
