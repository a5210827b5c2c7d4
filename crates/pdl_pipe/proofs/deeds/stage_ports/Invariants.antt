use Rattle.std.proofs.Common.{◌≡◌, ◌<◌, ℕ, length}
use Rattle.std.specs.Prelude.{slice_index_or}
use Rattle.pdl_net.specs.declared.Net.{Net}
use Rattle.pdl_net.specs.declared.Net.TheVariants.{Reg as RegNet}
use Rattle.pdl_pipe_ports.specs.declared.outputs.ShownNets.{ShownNets}
use Rattle.pdl_pipe_registers.specs.declared.nets.StageNets.{StageNets}
use Rattle.pdl_pipe_registers.specs.Stages.{IsAt}
use Rattle.pdl_pipe.proofs.deeds.stage_ports.Given as goal

-- those of the first stages
abbrev pub invariant-loop-k : goal.invariant-loop-k
invariant-loop-k l =
    (length l.shown.items ≡ l.k)
    × ((k : ℕ) (s : StageNets) (y : ShownNets) → k < length l.shown.items → IsAt l.line.stages.now k s
    → slice_index_or l.shown.items k y ≡ y → y.valid ≡ RegNet s.regs.valid)
    × ((k : ℕ) (z : Net) (y : ShownNets) → k < length l.shown.items → slice_index_or l.line.moves.now k z ≡ z
    → slice_index_or l.shown.items k y ≡ y → y.moves ≡ z)
