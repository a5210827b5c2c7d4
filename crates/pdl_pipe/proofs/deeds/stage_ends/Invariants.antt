use Rattle.std.proofs.Common.{◌≡◌, ◌<◌, ℕ, length}
use Rattle.std.specs.Prelude.{slice_index_or}
use Rattle.pdl_net.specs.declared.Net.{Net}
use Rattle.pdl_pipe_beside.specs.declared.ends.StageEnd.{StageEnd}
use Rattle.pdl_pipe_registers.specs.declared.nets.StageNets.{StageNets}
use Rattle.pdl_pipe_registers.specs.Stages.{IsAt}
use Rattle.pdl_pipe.proofs.deeds.stage_ends.Given as goal

-- those of the first stages
abbrev pub invariant-loop-k : goal.invariant-loop-k
invariant-loop-k l =
    (length l.ends.items ≡ l.k)
    × ((k : ℕ) (s : StageNets) (e : StageEnd) → k < length l.ends.items → IsAt l.line.stages.now k s
    → slice_index_or l.ends.items k e ≡ e → e.ended.now ≡ s.end)
    × ((k : ℕ) (y : Net) (e : StageEnd) → k < length l.ends.items → slice_index_or l.line.moves.now k y ≡ y → slice_index_or l.ends.items k e ≡ e → e.moves ≡ y)
    × ((k : ℕ) (y : Net) (e : StageEnd) → k < length l.ends.items → slice_index_or l.line.kills.now k y ≡ y
    → slice_index_or l.ends.items k e ≡ e → e.killed ≡ y)
