use Rattle.std.proofs.Common.{◌≡◌, take}
use Rattle.pdl_seq.proofs.setup.memories.Given as goal

-- those so far are copied
abbrev pub invariant-loop-m : goal.invariant-loop-m
invariant-loop-m l = l.memories.items ≡ take l.m l.image
