-- Values of variables of certain widths.
use Rattle.std.specs.Prelude.{◌≡◌, ℕ, ◌^◌, ◌<◌, List, length, slice_index}

-- one value for each variable, below 2 to the power of the variable's width
pub record Fit (ws env : List ℕ) : Type 0 where
  pub count : length env ≡ length ws
  pub below : (x : ℕ) → slice_index env x < 2 ^ slice_index ws x
