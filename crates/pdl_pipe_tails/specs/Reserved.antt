-- The next ticket of a lock after what this cycle's threads reserve.
use Rattle.std.specs.Prelude.{◌≡◌, ℕ, ◌+◌, ◌<◌, List, length}
use Rattle.pdl_net.specs.declared.Net.{Net}
use Rattle.pdl_net.specs.Circuit.{Circuit, State}
use Rattle.pdl_net.specs.Signal.{Signal}
use Rattle.pdl_net.specs.Meaning.{IsThere}
use Rattle.pdl_lockapi.specs.Laws.{ReserveSignal, holds_ticket, asked_addresses}
use Rattle.pdl_pipe_exprs.specs.Nets.{NetsThere, signals_in, signal_at}
use Rattle.pdl_law_parts.specs.Ports.{all_reserves}
use Rattle.pdl_pipe_walk.specs.declared.nets.ReserveNet.{ReserveNet}
use Rattle.pdl_pipe_nexts.specs.declared.line.StageLine.{StageLine}
use Rattle.pdl_pipe_nexts.specs.Lines.{line_views, line_moves, IsBit}

-- a reservation's nets are there, its condition with 1 bit
abbrev pub IsReserve : Circuit → ReserveNet → Type 0
IsReserve c r = IsBit c r.on × IsThere c r.addr

-- a ticket as wide as another one, by so many later as reservations are made of these
pub record IsAfter (f g : Signal) (rs : List ReserveSignal) : Type 0 where
  pub wide : g.width ≡ f.width
  pub holds : (s : State) (t : ℕ) → holds_ticket f.width f s t → holds_ticket f.width g s (t + length (asked_addresses s rs))

-- a memory's ticket after all that the moving threads of a line reserve of it
abbrev pub IsAfterAll : Circuit → StageLine → ℕ → Signal → Type 0
IsAfterAll a x m g = IsAfter (signal_at (signals_in a x.shared.now.next) m) g (all_reserves m (line_views a x) (line_moves a x) (length x.stages.now) 0)

-- nets that are there, of each memory its next ticket after all that is reserved
pub record AreAfterAll (a c : Circuit) (x : StageLine) (nets : List Net) : Type 0 where
  pub there : NetsThere c nets
  pub count : length nets ≡ length x.shared.now.next
  pub after : (m : ℕ) → m < length nets → IsAfterAll a x m (signal_at (signals_in c nets) m)
