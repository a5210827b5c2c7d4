-- Values of registers and arrays that fit a circuit, as they are kept from cycle to cycle where nothing stands outside.
use Rattle.std.specs.Prelude.{◌≡◌, ℕ, ◌<◌, ◌≤◌, ◌^◌, List, [], length, slice_index, slice_index_or}
use Rattle.pdl_net.specs.Circuit.{Circuit, reg_at, array_at}

-- registers and arrays of the circuit, with values that fit their widths
pub record Holds (c : Circuit) (regs : List ℕ) (arrays : List (List ℕ)) : Type 0 where
  pub reg_count : length regs ≡ length c.regs
  pub each : (r : ℕ) → r < length c.regs → slice_index regs r < 2 ^ (reg_at c r).width
  pub array_count : length arrays ≡ length c.arrays
  pub depth : (m : ℕ) → m < length c.arrays → length (slice_index_or arrays m []) ≡ (array_at c m).depth
  pub words : (m : ℕ) → m < length c.arrays → (a : ℕ) → slice_index (slice_index_or arrays m []) a < 2 ^ (array_at c m).width

-- an image with a part for each array, of its width and no longer than it
pub record ImageFits (c : Circuit) (image : List (List ℕ)) : Type 0 where
  pub count : length image ≡ length c.arrays
  pub depth : (m : ℕ) → m < length c.arrays → length (slice_index_or image m []) ≤ (array_at c m).depth
  pub words : (m : ℕ) → m < length c.arrays → (a : ℕ) → slice_index (slice_index_or image m []) a < 2 ^ (array_at c m).width
