-- Words and pending writes that a memory can hold.
use Rattle.std.specs.Prelude.{◌≡◌, ℕ, ◌<◌, List, [], ◌∷◌, Option, Some, None, length, slice_index, ⊤}
use Rattle.pdl_semantics.specs.Machine.{Pending}
use Rattle.pdl_machine_pending.specs.Memory.{Memory}

-- a value below n, as far as it is known
abbrev pub IsBelow : ℕ → Option ℕ → Type 0
IsBelow n None = ⊤
IsBelow n (Some v) = v < n

-- pending writes of values below n to words that are there
abbrev pub AreKept : ℕ → ℕ → List Pending → Type 0
AreKept n depth [] = ⊤
AreKept n depth (e ∷ es) = (e.address < depth) × IsBelow n e.value × AreKept n depth es

-- a memory of so many words, each below n
pub record IsKept (n depth : ℕ) (x : Memory) : Type 0 where
  pub count : length x.words ≡ depth
  pub words : (a : ℕ) → slice_index x.words a < n
  pub pending : AreKept n depth x.pending
