-- What the nets of a stage that squashes say.
use Rattle.std.specs.Prelude.{◌≡◌, ℕ, zero, suc, ◌+◌, ◌<◌, ◌≤◌, Bool, true, false, ◌&&◌, if◌then◌else◌, List, length, slice_index_or}
use Rattle.pdl_word.specs.Words.{bit}
use Rattle.pdl_net.specs.declared.Net.{Net}
use Rattle.pdl_net.specs.declared.Net.TheVariants.{Input}
use Rattle.pdl_net.specs.Circuit.{Circuit, State}
use Rattle.pdl_net.specs.Signal.{Signal}
use Rattle.pdl_net.specs.Meaning.{signal}
use Rattle.pdl_net.specs.HasWidth.{HasWidth}
use Rattle.pdl_squash.specs.declared.SquashPorts.{SquashPorts}

-- the k-th of some nets
abbrev pub net_at : List Net → ℕ → Net
net_at nets k = slice_index_or nets k (Input 0)

-- the signal of the k-th of some nets
abbrev pub signal_at : Circuit → List Net → ℕ → Signal
signal_at c nets k = signal c (net_at nets k)

-- these are n nets that are there, each of 1 bit
pub record AreBits (c : Circuit) (nets : List Net) (n : ℕ) : Type 0 where
  pub count : length nets ≡ n
  pub each : (k : ℕ) → k < n → HasWidth c (net_at nets k) 1

-- what a squash goes by: whether each stage holds a thread, which stage squashes, whether its thread moves, and whether its guess fails
pub record SquashSignals : Type 0 where
  pub valid : ℕ → Signal
  pub stage : ℕ
  pub moves : Signal
  pub fails : Signal

-- what a squash goes by, as the nets of its ports say it
abbrev pub squash_signals : Circuit → SquashPorts → SquashSignals
squash_signals c p = record { valid = signal_at c p.valid; stage = p.stage; moves = signal c p.moves; fails = signal c p.fails }

-- in this state the stages hold threads so, and the thread of the squashing stage moves, with a guess that fails, so; where it doesn't move the net of its guess may have any value
pub record Drives (f : SquashSignals) (s : State) (held : ℕ → Bool) (moving failing : Bool) : Type 0 where
  pub valid : (k : ℕ) → k ≤ f.stage → (f.valid k).value s ≡ bit (held k)
  pub moves : f.moves.value s ≡ bit moving
  pub fails : moving ≡ true → f.fails.value s ≡ bit failing

-- none of n stages from stage k on holds a thread
abbrev pub none_held : (ℕ → Bool) → ℕ → ℕ → Bool
none_held held zero k = true
none_held held (suc n) k = if held k then false else none_held held n (k + 1)

-- a squash happens where the thread moves and its guess fails; it removes the threads of all stages before; a stage is clear where none of the stages after it, up to the one that squashes, holds a thread
pub record SquashLaw (f : SquashSignals) (squash : Signal) (removed clear : ℕ → Signal) : Type 0 where
  pub squashes : (s : State) (held : ℕ → Bool) (moves fails : Bool) → Drives f s held moves fails → squash.value s ≡ bit (moves && fails)
  pub removes : (s : State) (held : ℕ → Bool) (moves fails : Bool) → Drives f s held moves fails → (k : ℕ) → k < f.stage
      → (removed k).value s ≡ bit (moves && fails && held k)
  pub clears : (s : State) (held : ℕ → Bool) (moves fails : Bool) → Drives f s held moves fails → (k n : ℕ)
      → k + 1 + n ≡ f.stage + 1 → k < f.stage → (clear k).value s ≡ bit (none_held held n (k + 1))
