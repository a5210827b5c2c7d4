-- The nets of a squash as signals.
use Rattle.std.specs.Prelude.{◌≡◌, ℕ, zero, suc, ◌+◌, ◌-◌, ◌<◌, ◌≤◌, List, length}
use Rattle.pdl_net.specs.declared.Net.{Net}
use Rattle.pdl_net.specs.Circuit.{Circuit}
use Rattle.pdl_net.specs.Signal.{Signal, const_signal, mux_signal}
use Rattle.pdl_net.specs.Meaning.{IsThere}
use Rattle.pdl_squash.specs.Laws.{SquashSignals, net_at, signal_at}

-- a squash happens where the thread moves and its guess fails
abbrev pub squash_signal : SquashSignals → Signal
squash_signal f = mux_signal f.moves f.fails (const_signal 1 0)

-- the thread of a stage is removed
abbrev pub removed_signal : SquashSignals → ℕ → Signal
removed_signal f k = mux_signal (squash_signal f) (f.valid k) (const_signal 1 0)

-- none of n stages from stage k on holds a thread
unfoldable pub none_signal : SquashSignals → ℕ → ℕ → Signal
none_signal f zero k = const_signal 1 1
none_signal f (suc n) k = mux_signal (f.valid k) (const_signal 1 0) (none_signal f n (k + 1))

-- no stage after stage k holds a thread
abbrev pub clear_signal : SquashSignals → ℕ → Signal
clear_signal f k = none_signal f (f.stage - k) (k + 1)

-- these are n nets, of which the k-th one means f k from the first-th one on
pub record MeanFrom (c : Circuit) (nets : List Net) (first n : ℕ) (f : ℕ → Signal) : Type 0 where
  pub count : length nets ≡ n
  pub there : (k : ℕ) → first ≤ k → k < n → IsThere c (net_at nets k)
  pub same : (k : ℕ) → first ≤ k → k < n → signal_at c nets k ≡ f k
