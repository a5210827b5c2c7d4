-- The memories after writes of advisory memories.
use Rattle.std.specs.Prelude.{ℕ, List, [], ◌∷◌, slice_set}
use Rattle.pdl_semantics.specs.Machine.{Advised}
use Rattle.pdl_semantics.specs.Moves.{Act}
use Rattle.pdl_machine_pending.specs.Memory.{Memory}
use Rattle.pdl_machine_run.specs.StageDeeds.{memory_at}

-- a memory after a write of its word at an address
abbrev pub with_word_at : ℕ → ℕ → Memory → Memory
with_word_at a v x = record x { words = slice_set x.words a v }

-- the memories after one write
abbrev pub after_write : Advised → List Memory → List Memory
after_write w xs = slice_set xs w.mem (with_word_at w.address w.value (memory_at xs w.mem))

-- the memories after writes, of which the first is made first
abbrev pub after_writes : List Advised → List Memory → List Memory
after_writes [] xs = xs
after_writes (w ∷ ws) xs = after_writes ws (after_write w xs)

-- the memories after the writes of those who move, of which the last one's are made first
abbrev pub after_all_writes : List Act → List Memory → List Memory
after_all_writes [] xs = xs
after_all_writes (a ∷ ms) xs = after_writes a.does.advises (after_all_writes ms xs)
