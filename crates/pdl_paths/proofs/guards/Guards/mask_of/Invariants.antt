use Rattle.std.proofs.Common.{◌≡◌, map, take}
use Rattle.std.specs.Prelude.{fold}
use Rattle.pdl_paths.specs.Guards.{branch_view}
use Rattle.pdl_paths.specs.Masks.{with_branch, everywhere}
use Rattle.pdl_paths.proofs.guards.Guards.mask_of.Given as goal

-- the mask of the branches so far
abbrev pub invariant-loop-branch : goal.invariant-loop-branch
invariant-loop-branch l = l.mask ≡ fold (with_branch l.self) everywhere (map branch_view (take l.branch-index l.branches))
