use Rattle.std.proofs.Common.{◌≡◌, map, take}
use Rattle.pdl_net_needed.specs.Pruned.{kept_of, moved_cell}
use Rattle.pdl_net_needed.proofs.parts.cells.Given as goal

abbrev pub invariant-loop-i : goal.invariant-loop-i
invariant-loop-i l = l.moved ≡ map (moved_cell l.kept) (kept_of (take l.i l.kept.cells) (take l.i l.cells))
