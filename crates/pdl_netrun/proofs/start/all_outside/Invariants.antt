use Rattle.pdl_net.specs.Circuit.{circuit_of}
use Rattle.pdl_netrun.proofs.Environment.{AreFirst}
use Rattle.pdl_netrun.proofs.start.all_outside.Given as goal

abbrev pub invariant-loop-m : goal.invariant-loop-m
invariant-loop-m l = AreFirst (circuit_of l.n) l.n.mems l.image l.m l.outside.items
