-- What a change of a stage's nets leaves alone.
use Rattle.std.specs.Prelude.{◌≡◌}
use Rattle.pdl_pipe_walk.specs.declared.nets.WalkNets.{WalkNets}

-- all but the variables, the marks and the calls
pub record SameRest (v w : WalkNets) : Type 0 where
  pub ready : w.ready ≡ v.ready
  pub reserves : w.reserves ≡ v.reserves
  pub puts : w.puts ≡ v.puts
  pub lettings : w.lettings ≡ v.lettings
  pub asks : w.asks ≡ v.asks
  pub advises : w.advises ≡ v.advises
  pub guess : w.guess ≡ v.guess
  pub fails : w.fails ≡ v.fails
  pub barrier : w.barrier ≡ v.barrier
