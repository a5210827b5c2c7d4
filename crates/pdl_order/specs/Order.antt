-- The order of the threads between a fork and its merge: a list of branches, true for the first one, of the oldest thread first.
use Rattle.std.specs.Prelude.{◌≡◌, ℕ, ◌≤◌, Bool, true, false, ◌&&◌, if◌then◌else◌, List, [], ◌∷◌, ◌++◌, length, drop}

-- what a cycle does to an order: whether a thread comes into the first branch, or into the second one, whether the oldest one leaves, and whether all are removed
pub record OrderAct : Type 0 where
  pub entered_first : Bool
  pub entered_second : Bool
  pub left : Bool
  pub emptied : Bool

-- first the oldest thread leaves
abbrev pub after_left : OrderAct → List Bool → List Bool
after_left a xs = if a.left then drop 1 xs else xs

-- then a thread comes in
abbrev pub after_entered : OrderAct → List Bool → List Bool
after_entered a xs = if a.entered_first then xs ++ true ∷ [] else (if a.entered_second then xs ++ false ∷ [] else xs)

-- the order after a cycle; where all are removed, one that comes in is too
abbrev pub step : List Bool → OrderAct → List Bool
step xs a = if a.emptied then [] else after_entered a (after_left a xs)

-- proper use in one cycle of an order for n threads
pub record Proper (n : ℕ) (xs : List Bool) (a : OrderAct) : Type 0 where
  -- at most one thread comes in
  pub one : (a.entered_first && a.entered_second) ≡ false
  -- one that leaves is there
  pub some : a.left ≡ true → 1 ≤ length xs
  -- there is room for what the cycle leaves
  pub room : length (step xs a) ≤ n
