use Rattle.pdl_netrun.proofs.Fronts.{IsFront}
use Rattle.pdl_netrun.proofs.narrow_cycle.put_inputs.Given as goal

abbrev pub invariant-loop-k : goal.invariant-loop-k
invariant-loop-k l = IsFront l.inputs l.initial.values l.values l.k
