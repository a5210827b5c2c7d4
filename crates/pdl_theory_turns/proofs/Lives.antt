-- What is undone of older threads' writes, and the sequential arrays at a turn.
use Rattle.std.proofs.Common.{◌≡◌, ℕ, Bool, true, false, List, [], ◌∷◌}
use Rattle.pdl_semantics.specs.Flat.{Arrays, Pipe, Commit}
use Rattle.pdl_semantics.specs.Stages.{mem_at}
use Rattle.pdl_semantics.specs.Locks.{Nothing, read_ready}
use Rattle.pdl_semantics.specs.Promises.{wrote, row}
use Rattle.pdl_theory_turns.specs.Derived.{Thread}
use Rattle.pdl_theory_turns.proofs.Marks.{Mark, seen}

-- the writes of each memory
abbrev pub Writes : Type 0
Writes = ℕ → List Commit

-- the undone writes of older threads to each memory
abbrev pub Marks : Type 0
Marks = ℕ → List Mark

-- a read at this address is ready
abbrev pub Clean : Pipe → Marks → ℕ → ℕ → Type 0
Clean p v m a = read_ready (mem_at p m).lock (seen a (v m) Nothing) ≡ true

-- the sequential array of m at a turn
abbrev pub RowsAt : Arrays → Writes → Arrays → Type 0
RowsAt image w arrays = (m : ℕ) → row arrays m ≡ wrote (row image m) (w m)

-- whether there is no thread
abbrev pub nobody : List Thread → Bool
nobody [] = true
nobody (t ∷ ts) = false
