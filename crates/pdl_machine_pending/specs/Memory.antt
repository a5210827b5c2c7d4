-- Memories as they run.
use Rattle.std.specs.Prelude.{ℕ, ◌<◌, ⊤, List, [], ◌∷◌, Option, Some, None, slice_set}
use Rattle.pdl_semantics.specs.Flat.{Lock}
use Rattle.pdl_semantics.specs.Locks.{commit_value}
use Rattle.pdl_semantics.specs.Machine.{Pending}

-- a memory: its words, its lock, its pending writes, oldest first, and for how many of these it has room
pub record Memory : Type 0 where
  pub words : List ℕ
  pub lock : Lock
  pub pending : List Pending
  pub capacity : ℕ

-- the oldest of these pending writes, where there is one
abbrev pub oldest : List Pending → Option Pending
oldest [] = None
oldest (e ∷ es) = Some e

-- the words after a pending write has reached them
abbrev pub committed_to : List ℕ → Option Pending → List ℕ
committed_to words None = words
committed_to words (Some e) = slice_set words e.address (commit_value e.value)

-- the words after these pending writes have reached them, one after the other
abbrev pub all_committed_to : List ℕ → List Pending → List ℕ
all_committed_to words [] = words
all_committed_to words (e ∷ es) = all_committed_to (committed_to words (Some e)) es

-- each of these pending writes has its word among so many
abbrev pub AreWithin : ℕ → List Pending → Type 0
AreWithin n [] = ⊤
AreWithin n (e ∷ es) = (e.address < n) × AreWithin n es
