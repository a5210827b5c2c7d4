use Rattle.std.proofs.Common.{◌≡◌, map, take}
use Rattle.pdl_net_needed.specs.Pruned.{kept_of, moved_reg}
use Rattle.pdl_net_needed.proofs.parts.regs.Given as goal

abbrev pub invariant-loop-i : goal.invariant-loop-i
invariant-loop-i l = l.moved ≡ map (moved_reg l.kept) (kept_of (take l.i l.kept.regs) (take l.i l.regs))
