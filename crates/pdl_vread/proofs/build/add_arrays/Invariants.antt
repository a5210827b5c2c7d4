use Rattle.std.proofs.Common.{◌≡◌, ◌++◌, drop}
use Rattle.pdl_vread.specs.Built as spec
use Rattle.pdl_vread.proofs.build.add_arrays.Given as goal

-- what is done and what is to come are the whole
abbrev pub invariant-loop-m : goal.invariant-loop-m
invariant-loop-m l = l.arrays ++ spec.arrays l.blocks l.m (drop l.m l.decls) ≡ spec.arrays l.blocks 0 l.decls
