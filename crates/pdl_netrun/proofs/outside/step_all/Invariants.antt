use Rattle.std.proofs.Common.{map}
use Rattle.std.specs.Prelude.{slice_index}
use Rattle.pdl_netrun.specs.Held.{held_lists}
use Rattle.pdl_netrun.proofs.Environment.{AreStepped}
use Rattle.pdl_netrun.proofs.outside.step_all.Given as goal

abbrev pub invariant-loop-k : goal.invariant-loop-k
invariant-loop-k l = AreStepped (map (slice_index (held_lists l.held).values) l.drivers) l.initial.memories l.memories l.k l.bits l.replies
