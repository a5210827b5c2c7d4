-- Of the stages whose threads may squash, V and U, whether they do, by nets.
use Rattle.std.specs.Prelude.{ℕ, ◌==◌, Bool, true, false, Option, Some, None, if◌then◌else◌}
use Rattle.pdl_semantics.specs.Flat.{Pipe}
use Rattle.pdl_semantics.specs.Stages.{verify_stage}
use Rattle.pdl_net.specs.Circuit.{Circuit}
use Rattle.pdl_net.specs.Signal.{Signal, mux_signal}
use Rattle.pdl_net.specs.Meaning.{signal}
use Rattle.pdl_net.specs.HasWidth.{HasWidth}
use Rattle.pdl_law_parts.specs.Walk.{one, zero_bit}
use Rattle.pdl_pipe_beside.specs.declared.ends.Squashes.{Squashes}

-- each of the two nets is there, with 1 bit
pub record HasSquashes (c : Circuit) (y : Squashes) : Type 0 where
  pub verify : HasWidth c y.verify 1
  pub update : HasWidth c y.update 1

-- of this stage the first one, of each other stage the second
abbrev pub by_stage : {X : Type 0} → Option ℕ → X → X → ℕ → X
by_stage None f g z = g
by_stage (Some v) f g z = if z == v then f else g

-- whether a stage squashes: V by the first net, U by the second
abbrev pub squashes_in : Circuit → Pipe → Squashes → ℕ → Signal
squashes_in c p y = by_stage (verify_stage p.stmts) (signal c y.verify) (signal c y.update)

-- whether one of two bits is 1, as far as they count
abbrev pub either : Bool → Bool → Signal → Signal → Signal
either true true f g = mux_signal f one g
either true false f g = f
either false true f g = g
either false false f g = zero_bit

-- whether a stage passes a test, where there is one
abbrev pub passes : (ℕ → Bool) → Option ℕ → Bool
passes test None = false
passes test (Some z) = test z
