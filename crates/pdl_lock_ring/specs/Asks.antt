-- What the reserve ports ask, as nets.
use Rattle.std.specs.Prelude.{◌≡◌, ℕ}
use Rattle.pdl_net.specs.Circuit.{Circuit}
use Rattle.pdl_net.specs.Signal.{const_signal, mux_signal}
use Rattle.pdl_net.specs.Meaning.{Means, signal}
use Rattle.pdl_lockapi.specs.Laws.{StepSignals, reserve_at}
use Rattle.pdl_lock_ring.specs.declared.layout.RingLayout.{RingLayout}
use Rattle.pdl_lock_ring.specs.declared.taken.Asked.{Asked}
use Rattle.pdl_lock_ring.specs.Steps.{push_signal, push2_signal, last_addr, before_addr}

-- what the first k reserve ports ask
pub record IsAsked (c : Circuit) (l : RingLayout) (f : StepSignals) (k : ℕ) (x : Asked) : Type 0 where
  pub one : Means c x.one (push_signal f k)
  pub two : Means c x.two (push2_signal f k)
  pub last : Means c x.last (last_addr l.bits f k)
  pub before : Means c x.before (before_addr l.bits f k)
  pub last_wide : (signal c x.last).width ≡ l.bits
  pub before_wide : (signal c x.before).width ≡ l.bits

-- what is asked with port k, from what was before it
pub record IsAskedNext (a c : Circuit) (l : RingLayout) (f : StepSignals) (k : ℕ) (y x : Asked) : Type 0 where
  pub one : Means c x.one (mux_signal (reserve_at f.reserves k).enable (const_signal 1 1) (signal a y.one))
  pub two : Means c x.two (mux_signal (reserve_at f.reserves k).enable (signal a y.one) (signal a y.two))
  pub last : Means c x.last (mux_signal (reserve_at f.reserves k).enable (reserve_at f.reserves k).addr (signal a y.last))
  pub before : Means c x.before (mux_signal (reserve_at f.reserves k).enable (signal a y.last) (signal a y.before))
  pub last_wide : (signal c x.last).width ≡ l.bits
  pub before_wide : (signal c x.before).width ≡ l.bits
