-- Tails that go with the threads: the ticket from which on a thread's squash would drop pending writes, beside the thread's own.
use Rattle.std.specs.Prelude.{◌≡◌, ℕ, ◌<◌, ◌≤◌, Bool, ◌&&◌, List, [], ◌∷◌, map, length, slice_index_or, nat_lt}
use Rattle.pdl_kit.specs.declared.seq.Seq.{Seq}
use Rattle.pdl_semantics.specs.Flat.{Pipe}
use Rattle.pdl_semantics.specs.Stages.{reserve_stage}
use Rattle.pdl_machine_facts.specs.Slots.{ways}
use Rattle.pdl_net.specs.declared.Net.{Net}
use Rattle.pdl_net.specs.Circuit.{Circuit, HasReg}
use Rattle.pdl_net.specs.Signal.{Signal, mux_signal, reg_signal}
use Rattle.pdl_net.specs.Meaning.{signal, next_signal}
use Rattle.pdl_pipe_exprs.specs.Nets.{NetsThere, signals_in, signal_at}
use Rattle.pdl_law_parts.specs.Walk.{is_locked}
use Rattle.pdl_law_parts.specs.Views.{View, Comer, out_of, first_coming}
use Rattle.pdl_law_sides.specs.Sides.{with_tickets}
use Rattle.pdl_pipe_nexts.specs.declared.arrivals.Arrival.{Arrival}
use Rattle.pdl_pipe_nexts.specs.Lines.{ValueAs, IsBit}
use Rattle.pdl_word.specs.Each.{Each}

-- whether a thread in stage k has its own tail: the memory has a lock, and the stage of its reserves is past
abbrev pub carries_tail : Pipe → ℕ → ℕ → Bool
carries_tail p k m = is_locked p m && nat_lt (reserve_stage p m) k

-- the tail of the thread in a stage, by the nets of all stages, and by these where a stage has none
abbrev pub tail_in : Circuit → List (Seq Net) → List Net → ℕ → ℕ → Signal
tail_in c rows last k m = signal_at (signals_in c (slice_index_or rows k last)) m

-- nets of a stage, of which one is the tail of memory m, as wide as this
pub record HasTail (c : Circuit) (m w : ℕ) (row : List Net) : Type 0 where
  pub there : NetsThere c row
  pub low : m < length row
  pub wide : (signal_at (signals_in c row) m).width ≡ w

-- nets of several stages, of which each has the tail of memory m, as wide as this
abbrev pub HaveTails : Circuit → ℕ → ℕ → List (Seq Net) → Type 0
HaveTails c m w rows = (k : ℕ) → k < length rows → HasTail c m w (slice_index_or rows k [])

-- threads that may come out of the first n stages
abbrev pub AreComing : Circuit → ℕ → List Arrival → Type 0
AreComing c n ys = Each (λ (y : Arrival). IsBit c y.comes × (y.from < n)) ys

-- the tail of the first of these threads that comes, else this
abbrev pub brought_tail : Circuit → List (Seq Net) → ℕ → List Arrival → Signal → Signal
brought_tail c rows m [] rest = rest
brought_tail c rows m (y ∷ ys) rest = mux_signal (signal c y.comes) (tail_in c rows [] y.from m) (brought_tail c rows m ys rest)

-- the tail of the first thread that comes into stage q out of another one, where threads have these tails, else this
abbrev pub coming_tail : Pipe → (ℕ → View) → (ℕ → Signal) → (ℕ → ℕ → Signal) → ℕ → ℕ → Signal → Signal
coming_tail p vs moves tails q m rest = first_coming (λ (o : Comer). o.tickets m) (map (out_of p (with_tickets vs tails) moves q) (ways p q)) rest

-- the signal of a register of this number or a higher one, which takes this next
pub record IsCarried (c : Circuit) (low : ℕ) (g taken : Signal) : Type 0 where
  pub reg : ℕ
  pub above : low ≤ reg
  pub has : HasReg c reg
  pub same : g ≡ reg_signal g.width reg
  pub takes : ValueAs (next_signal c reg) taken
