-- Conditions, of 1 bit each.
use Rattle.std.specs.Prelude.{Bool, true, false, List, [], ◌∷◌}
use Rattle.pdl_semantics.specs.Flat.{Guard}
use Rattle.pdl_net.specs.Circuit.{Circuit}
use Rattle.pdl_net.specs.Signal.{Signal, const_signal, not_signal, mux_signal}
use Rattle.pdl_net.specs.Meaning.{Means}
use Rattle.pdl_pipe_exprs.specs.declared.bits.Bits.{Bits}
use Rattle.pdl_pipe_exprs.specs.Nets.{signal_at}

-- nets that are always 1 and always 0
pub record AreBits (c : Circuit) (b : Bits) : Type 0 where
  pub one : Means c b.one (const_signal 1 1)
  pub zero : Means c b.zero (const_signal 1 0)

-- whether both of two bits are 1
abbrev pub both : Signal → Signal → Signal
both a b = mux_signal a b (const_signal 1 0)

-- whether a branch is taken, by the bit of its variable
abbrev pub literal : Bool → Signal → Signal
literal true f = f
literal false f = not_signal f

-- whether this bit is 1 and each of the branches is taken, where the variables have these signals
abbrev pub taken_from : List Signal → Signal → List Guard → Signal
taken_from fs f [] = f
taken_from fs f (g ∷ gs) = taken_from fs (both f (literal g.first (signal_at fs g.var))) gs

-- whether each of the branches is taken, where the variables have these signals
abbrev pub taken_signal : List Signal → List Guard → Signal
taken_signal fs gs = taken_from fs (const_signal 1 1) gs
