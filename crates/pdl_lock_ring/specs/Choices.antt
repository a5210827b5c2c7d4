-- Words of several signals, and choices among a power of two of them, by trees.
use Rattle.std.specs.Prelude.{ℕ, zero, suc, ◌+◌, ◌^◌}
use Rattle.pdl_net.specs.declared.BinOp.TheVariants.{Or}
use Rattle.pdl_net.specs.Signal.{Signal, bin_signal, mux_signal, slice_signal, cat_signal}

-- of 2 ^ b signals from this one on that of the number in the lowest b bits: one choice for each bit, the highest first
unfoldable pub selected_signal : (ℕ → Signal) → Signal → ℕ → ℕ → Signal
selected_signal f d zero from = f from
selected_signal f d (suc b) from = mux_signal (slice_signal b b d) (selected_signal f d b (from + 2 ^ b)) (selected_signal f d b from)

-- the bits of k + 1 signals in one word, the first one lowest
unfoldable pub bits_signal : (ℕ → Signal) → ℕ → Signal
bits_signal f zero = f 0
bits_signal f (suc k) = cat_signal (f (suc k)) (bits_signal f k)

-- 2 ^ b signals from this one on in one, bit by bit: where all but one are 0 it is that one
unfoldable pub either_signal : (ℕ → Signal) → ℕ → ℕ → Signal
either_signal f zero from = f from
either_signal f (suc b) from = bin_signal Or (either_signal f b (from + 2 ^ b)) (either_signal f b from)
