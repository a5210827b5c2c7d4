-- Paths by their bits.
use Rattle.std.specs.Prelude.{ℕ, zero, suc, List, [], ◌∷◌}
use Rattle.pdl_paths.specs.declared.path.Path.{Path}
use Rattle.pdl_paths.specs.declared.path.PathIter.{PathIter}

-- the paths whose bits are below a number, the greatest first
abbrev pub paths_below : ℕ → List Path
paths_below zero = []
paths_below (suc n) = record { bits = n } ∷ paths_below n

-- the paths that are still to come
abbrev pub paths_left : PathIter → List Path
paths_left p = paths_below p.left
