-- The squash of a stage by nets, and lists of nets for it.
use Rattle.std.specs.Prelude.{◌≡◌, ℕ, ◌<◌, ◌≤◌, List, length, if◌then◌else◌, nat_lt}
use Rattle.pdl_word.specs.Each.{Each}
use Rattle.pdl_net.specs.declared.Net.{Net}
use Rattle.pdl_net.specs.declared.Net.TheVariants.{Reg as RegNet}
use Rattle.pdl_net.specs.Circuit.{Circuit}
use Rattle.pdl_net.specs.Signal.{Signal, mux_signal}
use Rattle.pdl_net.specs.Meaning.{signal}
use Rattle.pdl_squash.specs.Laws.{SquashLaw, SquashSignals, net_at}
use Rattle.pdl_law_parts.specs.Walk.{one, zero_bit}
use Rattle.pdl_law_sides.specs.HasSides.{squash_of}
use Rattle.pdl_pipe_exprs.specs.Nets.{signals_in, signal_at}
use Rattle.pdl_pipe_answers.specs.Ports.{IsBit}
use Rattle.pdl_pipe_nexts.specs.pipe_registers.declared.nets.StageNets.{StageNets}
use Rattle.pdl_pipe_nexts.specs.pipe_registers.Stages.{IsAt}
use Rattle.pdl_pipe_nexts.specs.declared.line.StageLine.{StageLine}
use Rattle.pdl_pipe_nexts.specs.Lines.{line_pipe, line_views}
use Rattle.pdl_pipe_moves.specs.declared.squash.StageSquash.{StageSquash}

-- a list of nets that has one net so many times
pub record AreFilled (net : Net) (count : ℕ) (xs : List Net) : Type 0 where
  pub count_is : length xs ≡ count
  pub each : Each (λ (x : Net). x ≡ net) xs

-- these nets, and one that fills up after them
pub record ArePadded (nets : List Net) (fill : Net) (count : ℕ) (xs : List Net) : Type 0 where
  pub count_is : length xs ≡ count
  pub front : (k : ℕ) → k < length nets → k < count → net_at xs k ≡ net_at nets k
  pub rest : (k : ℕ) → length nets ≤ k → k < count → net_at xs k ≡ fill

-- whether each stage of a line holds a thread
pub record HasValids (x : StageLine) (xs : List Net) : Type 0 where
  pub count : length xs ≡ length x.stages.now
  pub each : (k : ℕ) (s : StageNets) → k < length xs → IsAt x.stages.now k s → net_at xs k ≡ RegNet s.regs.valid

-- what stage v squashes by, where its thread moves so
abbrev pub squash_signals_by : Circuit → StageLine → ℕ → Signal → SquashSignals
squash_signals_by c x v moves = squash_of (line_views c x) (λ k. moves) v

-- the squash of stage v, where its thread moves so, with a net of each stage: it keeps its law, and from the stage on it removes no thread
pub record IsSquash (c : Circuit) (x : StageLine) (v : ℕ) (moves : Signal) (z : StageSquash) : Type 0 where
  pub happens : IsBit c z.happens
  pub removed_count : length z.removed.items ≡ length (line_pipe x).stages
  pub removed : Each (IsBit c) z.removed.items
  pub clear_count : length z.clear.items ≡ length (line_pipe x).stages
  pub clear : Each (IsBit c) z.clear.items
  pub law : SquashLaw (squash_signals_by c x v moves) (signal c z.happens) (signal_at (signals_in c z.removed.items)) (signal_at (signals_in c z.clear.items))
  pub spared : (k : ℕ) → v ≤ k → k < length (line_pipe x).stages → signal_at (signals_in c z.removed.items) k ≡ zero_bit

-- whether the thread of stage k is removed by either of two bits, of which the second counts before stage u alone
abbrev pub joined_signal : ℕ → ℕ → Signal → Signal → Signal
joined_signal u k f g = if nat_lt k u then mux_signal f one g else f

-- the same of each of the first n stages
pub record AreJoined (f g : ℕ → Signal) (u n : ℕ) (hs : List Signal) : Type 0 where
  pub count : length hs ≡ n
  pub each : (k : ℕ) → k < n → signal_at hs k ≡ joined_signal u k (f k) (g k)
