use Rattle.std.proofs.Common.{◌≡◌, ◌<◌, ℕ, length}
use Rattle.pdl_net.specs.declared.Net.TheVariants.{Reg as RegNet}
use Rattle.pdl_squash.specs.Laws.{net_at}
use Rattle.pdl_pipe_nexts.specs.pipe_registers.declared.nets.StageNets.{StageNets}
use Rattle.pdl_pipe_nexts.specs.pipe_registers.Stages.{IsAt}
use Rattle.pdl_pipe_moves.proofs.squash.valids.Given as goal

-- those of the first stages
abbrev pub invariant-loop-k : goal.invariant-loop-k
invariant-loop-k l = (length l.nets ≡ l.k) × ((k : ℕ) (s : StageNets) → k < length l.nets → IsAt l.line.stages.now k s → net_at l.nets k ≡ RegNet s.regs.valid)
