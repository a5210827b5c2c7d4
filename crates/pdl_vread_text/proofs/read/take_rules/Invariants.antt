use Rattle.std.proofs.Common.{length}
use Rattle.pdl_vread_text.proofs.Rules.{AreSoFar}
use Rattle.pdl_vread_text.proofs.read.take_rules.Given as goal

-- the rules taken so far
abbrev pub invariant-loop-alloc : goal.invariant-loop-alloc
invariant-loop-alloc l = AreSoFar l.fn.tokens l.tokens l.part l.draft

abbrev pub decreases-loop-alloc : goal.decreases-loop-alloc
decreases-loop-alloc l = length l.tokens
