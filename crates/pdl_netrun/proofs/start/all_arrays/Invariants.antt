use Rattle.std.proofs.Common.{◌≡◌, ◌++◌, drop}
use Rattle.pdl_net.specs.Run.{loaded_arrays}
use Rattle.pdl_netrun.specs.Steps.{array_words}
use Rattle.pdl_netrun.proofs.start.all_arrays.Given as goal

abbrev pub invariant-loop-m : goal.invariant-loop-m
invariant-loop-m l =
    array_words l.arrays.items ++ loaded_arrays (drop l.m l.n.arrays) (drop l.m (drop l.delayed l.image)) ≡ loaded_arrays l.n.arrays (drop l.delayed l.image)
