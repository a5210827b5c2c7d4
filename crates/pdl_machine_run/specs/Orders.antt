-- The orders of forks, as acts change them.
use Rattle.std.specs.Prelude.{ℕ, suc, Bool, if◌then◌else◌, List, [], ◌∷◌, ◌++◌}
use Rattle.pdl_semantics.specs.Flat.{Pipe}
use Rattle.pdl_semantics.specs.Moves.{Act}
use Rattle.pdl_semantics.specs.Cycle.{has_left, but_first, entered_branches, squash_stage, branches_left}

-- the order of fork f after those who move
abbrev pub order_passed : Pipe → List Act → ℕ → List Bool → List Bool
order_passed p ms f list = (if has_left p f ms then but_first list else list) ++ entered_branches p f ms

-- the order of fork f after a cycle in which these move
abbrev pub order_after : Pipe → List Act → ℕ → List Bool → List Bool
order_after p ms f list = branches_left p (squash_stage ms) f (order_passed p ms f list)

-- the orders of forks after a cycle, of which the first is f
abbrev pub orders_after : Pipe → List Act → ℕ → List (List Bool) → List (List Bool)
orders_after p ms f [] = []
orders_after p ms f (list ∷ lists) = order_after p ms f list ∷ orders_after p ms (suc f) lists
