-- Nets that drive the circuits beside the stages.
use Rattle.std.specs.Prelude.{ℕ, ◌<◌, length}
use Rattle.pdl_net.specs.Circuit.{Circuit}
use Rattle.pdl_net.specs.HasWidth.{HasWidth}
use Rattle.pdl_port.specs.declared.PortStep.{PortStep}
use Rattle.pdl_port.specs.Laws.{HasBits}
use Rattle.pdl_squash.specs.declared.SquashPorts.{SquashPorts}
use Rattle.pdl_squash.specs.Laws.{AreBits}

-- the nets of a port's step, of n places, are there
pub record IsStep (c : Circuit) (p : PortStep) (n : ℕ) : Type 0 where
  pub asked : HasBits c p.asked n
  pub moves : HasBits c p.moves n
  pub removed : HasBits c p.removed n

-- the nets of a squash are there, and its stage is one of those
pub record IsSquash (c : Circuit) (p : SquashPorts) : Type 0 where
  pub stage : p.stage < length p.valid
  pub valid : AreBits c p.valid (length p.valid)
  pub moves : HasWidth c p.moves 1
  pub fails : HasWidth c p.fails 1
