-- A signal: a width in bits, and a value in each state.
use Rattle.std.specs.Prelude.{ℕ, ◌+◌, ◌*◌, ◌-◌, slice_index, slice_index_or, []}
use Rattle.pdl_word.specs.Words as words
use Rattle.pdl_net.specs.declared.BinOp.{BinOp}
use Rattle.pdl_net.specs.declared.BinOp.TheVariants.{Add, Sub, Mul, And, Or, Xor, Eq, Ne, Lt, Shl, Shr}
use Rattle.pdl_net.specs.Circuit.{State}

-- a number for each state
abbrev pub Value : Type 0
Value = State → ℕ

-- what a net means: a width, and a value in each state
pub record Signal : Type 0 where
  pub width : ℕ
  pub value : Value

-- the signal of a cell past the last one
abbrev pub no_signal : Signal
no_signal = record { width = 0; value = λ s. 0 }

-- the value of the i-th input
unfoldable pub input_value : ℕ → Value
input_value i s = slice_index s.inputs i

-- the value of the r-th register
unfoldable pub reg_value : ℕ → Value
reg_value r s = slice_index s.regs r

-- the value of a constant, the same in each state
unfoldable pub const_value : ℕ → Value
const_value v s = v

-- a word of w bits with each bit the other way
unfoldable pub not_value : ℕ → Value → Value
not_value w a s = words.complement w (a s)

-- what an operator makes of two words of w bits
abbrev pub bin_word : BinOp → ℕ → ℕ → ℕ → ℕ
bin_word Add w a b = words.add w a b
bin_word Sub w a b = words.sub w a b
bin_word Mul w a b = words.mul w a b
bin_word And w a b = words.and a b
bin_word Or w a b = words.or a b
bin_word Xor w a b = words.xor a b
bin_word Eq w a b = words.equal a b
bin_word Ne w a b = words.differ a b
bin_word Lt w a b = words.less a b
bin_word Shl w a b = words.shl w a b
bin_word Shr w a b = words.shr w a b

-- what an operator makes of two words of w bits, in each state
unfoldable pub bin_value : BinOp → ℕ → Value → Value → Value
bin_value op w a b s = bin_word op w (a s) (b s)

-- the first value where the choice is 1, else the second
unfoldable pub mux_value : Value → Value → Value → Value
mux_value c a b s = words.mux (c s) (a s) (b s)

-- the bits of a value from high down to low
unfoldable pub slice_value : ℕ → ℕ → Value → Value
slice_value high low a s = words.slice high low (a s)

-- a value above the v bits of another one
unfoldable pub cat_value : ℕ → Value → Value → Value
cat_value v a b s = words.cat v (a s) (b s)

-- k copies of the u bits of a value, each above those before it
unfoldable pub rep_value : ℕ → ℕ → Value → Value
rep_value u k a s = words.rep u k (a s)

-- the word of the m-th array at an address
unfoldable pub read_value : ℕ → Value → Value
read_value m a s = slice_index (slice_index_or s.arrays m []) (a s)

-- the width of what an operator makes of words of w bits
abbrev pub bin_width : BinOp → ℕ → ℕ
bin_width Add w = w
bin_width Sub w = w
bin_width Mul w = w
bin_width And w = w
bin_width Or w = w
bin_width Xor w = w
bin_width Eq w = 1
bin_width Ne w = 1
bin_width Lt w = 1
bin_width Shl w = w
bin_width Shr w = w

-- the signal of the i-th input, of w bits
abbrev pub input_signal : ℕ → ℕ → Signal
input_signal w i = record { width = w; value = input_value i }

-- the signal of the r-th register, of w bits
abbrev pub reg_signal : ℕ → ℕ → Signal
reg_signal w r = record { width = w; value = reg_value r }

-- the signal of a constant v, of w bits
abbrev pub const_signal : ℕ → ℕ → Signal
const_signal w v = record { width = w; value = const_value v }

-- a signal with each bit the other way
abbrev pub not_signal : Signal → Signal
not_signal a = record { width = a.width; value = not_value a.width a.value }

-- what an operator makes of two signals, by the width of the first
abbrev pub bin_signal : BinOp → Signal → Signal → Signal
bin_signal op a b = record { width = bin_width op a.width; value = bin_value op a.width a.value b.value }

-- the first signal where the choice is 1, else the second, with the width of the first
abbrev pub mux_signal : Signal → Signal → Signal → Signal
mux_signal c a b = record { width = a.width; value = mux_value c.value a.value b.value }

-- the bits of a signal from high down to low
abbrev pub slice_signal : ℕ → ℕ → Signal → Signal
slice_signal high low a = record { width = high + 1 - low; value = slice_value high low a.value }

-- a signal above another one, with the widths of both together
abbrev pub cat_signal : Signal → Signal → Signal
cat_signal a b = record { width = a.width + b.width; value = cat_value b.width a.value b.value }

-- k copies of a signal, each above those before it
abbrev pub rep_signal : ℕ → Signal → Signal
rep_signal k a = record { width = k * a.width; value = rep_value a.width k a.value }

-- the word of w bits that the m-th array has at an address
abbrev pub read_signal : ℕ → ℕ → Signal → Signal
read_signal w m a = record { width = w; value = read_value m a.value }
