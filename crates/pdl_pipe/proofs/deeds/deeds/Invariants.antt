use Rattle.std.proofs.Common.{◌≡◌, ◌<◌, ℕ, length}
use Rattle.std.specs.Prelude.{slice_index_or}
use Rattle.pdl_net.specs.declared.Net.{Net}
use Rattle.pdl_pipe_locks.specs.declared.deeds.StageDeeds.{StageDeeds}
use Rattle.pdl_pipe_registers.specs.declared.nets.StageNets.{StageNets}
use Rattle.pdl_pipe_registers.specs.Stages.{IsAt}
use Rattle.pdl_pipe.proofs.deeds.deeds.Given as goal

-- those of the first stages
abbrev pub invariant-loop-k : goal.invariant-loop-k
invariant-loop-k l =
    (length l.deeds.items ≡ l.k)
    × ((k : ℕ) (s : StageNets) (d : StageDeeds) → k < length l.deeds.items → IsAt l.line.stages.now k s
    → slice_index_or l.deeds.items k d ≡ d → d.ended.now ≡ s.end)
    × ((k : ℕ) (s : StageNets) (d : StageDeeds) → k < length l.deeds.items → IsAt l.line.stages.now k s
    → slice_index_or l.deeds.items k d ≡ d → d.tickets.now ≡ s.tickets)
    × ((k : ℕ) (y : Net) (d : StageDeeds) → k < length l.deeds.items → slice_index_or l.line.moves.now k y ≡ y
    → slice_index_or l.deeds.items k d ≡ d → d.moves ≡ y)
