-- The tails of all stages up to that of the verifies, and where the locks are cut.
use Rattle.std.specs.Prelude.{◌≡◌, ℕ, ◌<◌, ◌≤◌, true, false, List, [], length, slice_index_or, Option, Some, None}
use Rattle.pdl_kit.specs.declared.seq.Seq.{Seq}
use Rattle.pdl_semantics.specs.Flat.{Pipe}
use Rattle.pdl_semantics.specs.Updates.{update_stage}
use Rattle.pdl_net.specs.declared.Net.{Net}
use Rattle.pdl_net.specs.Circuit.{Circuit, HasReg}
use Rattle.pdl_net.specs.Signal.{Signal}
use Rattle.pdl_net.specs.Meaning.{signal, next_signal}
use Rattle.pdl_lockapi.specs.Laws.{TicketLaw}
use Rattle.pdl_law_parts.specs.Walk.{Locks}
use Rattle.pdl_pipe_exprs.specs.Nets.{NetsThere, signals_in, signal_at, widths_of}
use Rattle.pdl_pipe_walk.specs.Guesses.{choices}
use Rattle.pdl_pipe_nexts.specs.declared.arrivals.Arrival.{Arrival}
use Rattle.pdl_pipe_nexts.specs.declared.line.StageLine.{StageLine}
use Rattle.pdl_pipe_nexts.specs.Lines.{line_pipe, line_views, line_moves}
use Rattle.pdl_pipe_tails.specs.declared.whole.TailNets.{TailNets}
use Rattle.pdl_pipe_tails.specs.Reserved.{IsAfterAll}
use Rattle.pdl_pipe_tails.specs.Carried.{carries_tail, tail_in, brought_tail, coming_tail, IsCarried}

-- a memory's tail in stage k, by nets: the fresh one, or a register's, which takes what one of these threads brings
pub record IsTail (a c : Circuit) (p : Pipe) (fresh : List Net) (before : List (Seq Net)) (arrivals : List Arrival) (k m : ℕ) (g : Signal) : Type 0 where
  pub wide : g.width ≡ (signal_at (signals_in a fresh) m).width
  pub first : carries_tail p k m ≡ false → g ≡ signal_at (signals_in a fresh) m
  pub carried : carries_tail p k m ≡ true → IsCarried c (length a.regs) g (brought_tail a before m arrivals g)

-- a memory's tail in stage k, by signals, where the threads of a line have these tails
pub record IsStageTail (a c : Circuit) (x : StageLine) (tails : ℕ → ℕ → Signal) (k m : ℕ) (g : Signal) : Type 0 where
  pub wide : g.width ≡ (signal_at (signals_in a x.shared.now.next) m).width
  pub first : carries_tail (line_pipe x) k m ≡ false → IsAfterAll a x m g
  pub carried : carries_tail (line_pipe x) k m ≡ true → IsCarried c (length a.regs) g (coming_tail (line_pipe x) (line_views a x) (line_moves a x) tails k m g)

-- a net for each memory, which is its tail in stage k
pub record AreStageTails (a c : Circuit) (x : StageLine) (tails : ℕ → ℕ → Signal) (k : ℕ) (nets : List Net) : Type 0 where
  pub there : NetsThere c nets
  pub count : length nets ≡ length x.shared.now.next
  pub each : (m : ℕ) → m < length nets → IsStageTail a c x tails k m (signal_at (signals_in c nets) m)

-- the tail of a thread in a stage, of each memory
abbrev pub tails_in : Circuit → TailNets → ℕ → ℕ → Signal
tails_in c t = tail_in c t.before.items t.last

-- a stage before V has tails as wide as V's
pub record IsLike (c : Circuit) (before : List (Seq Net)) (last : List Net) (u : ℕ) : Type 0 where
  pub low : u < length before
  pub there : NetsThere c (slice_index_or before u [])
  pub wide : widths_of (signals_in c (slice_index_or before u [])) ≡ widths_of (signals_in c last)

-- the locks are cut at the tails of V, or where there is U, and V doesn't squash, at those of U
abbrev pub IsCut : Circuit → Circuit → Net → List (Seq Net) → List Net → List Net → Option ℕ → Type 0
IsCut a c verify before last cut None = cut ≡ last
IsCut a c verify before last cut (Some u) =
    signals_in c cut ≡ choices (signal a verify) (signals_in a last) (signals_in a (slice_index_or before u []))

-- the tails of the threads in all stages up to V, and where the locks are cut
pub record AreTails (a c : Circuit) (x : StageLine) (verify : Net) (t : TailNets) (v : ℕ) : Type 0 where
  pub count : length t.before.items ≡ v
  pub each : (k : ℕ) → k ≤ v → AreStageTails a c x (tails_in c t) k (slice_index_or t.before.items k t.last)
  pub cut : IsCut c c verify t.before.items t.last t.cut (update_stage (line_pipe x).stmts)

-- nothing is added where no stage verifies: no squash cuts a lock
abbrev pub HasCut : Circuit → Circuit → StageLine → Net → TailNets → Option ℕ → Type 0
HasCut a c x verify t None = (t.cut ≡ x.shared.now.next) × (c ≡ a)
HasCut a c x verify t (Some v) = AreTails a c x verify t v

-- a net for each memory, as wide as its lock's next ticket
pub record IsRow (a c : Circuit) (x : StageLine) (nets : List Net) : Type 0 where
  pub there : NetsThere c nets
  pub wide : widths_of (signals_in c nets) ≡ widths_of (signals_in a x.shared.now.next)

-- a line's next ticket of memory m is that of its lock, with the bits of its tickets
pub record IsNextOf (a : Circuit) (x : StageLine) (ls : Locks) (m : ℕ) : Type 0 where
  pub ticket : signal_at (signals_in a x.shared.now.next) m ≡ ls.ticket m
  pub wide : (ls.ticket m).width ≡ ls.bits m
  pub law : TicketLaw (ls.stands m) (ls.bits m) (ls.ticket m)

-- a later circuit lets the registers that came since a take what they took
abbrev pub GoOn : Circuit → Circuit → Circuit → Type 0
GoOn a c d = (r : ℕ) → length a.regs ≤ r → HasReg c r → next_signal d r ≡ next_signal c r
