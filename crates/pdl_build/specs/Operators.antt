-- The operators of the language as signals of cells.
use Rattle.std.specs.Prelude.{ℕ, ◌-◌, ◌^◌, ◌==◌, if◌then◌else◌}
use Rattle.pdl_semantics.specs.Tree.{BinaryOp, Add, Sub, Mul, And, Or, Xor, Equal, Differ, Less, ShiftLeft, ShiftRight}
use Rattle.pdl_net.specs.declared.BinOp.{BinOp}
use Rattle.pdl_net.specs.declared.BinOp.TheVariants as net_op
use Rattle.pdl_net.specs.Signal.{Signal, const_signal, bin_signal, slice_signal, cat_signal, rep_signal}

-- the operator of a cell
abbrev pub op_of : BinaryOp → BinOp
op_of Add = net_op.Add
op_of Sub = net_op.Sub
op_of Mul = net_op.Mul
op_of And = net_op.And
op_of Or = net_op.Or
op_of Xor = net_op.Xor
op_of Equal = net_op.Eq
op_of Differ = net_op.Ne
op_of Less = net_op.Lt
op_of ShiftLeft = net_op.Shl
op_of ShiftRight = net_op.Shr

-- zeros above a signal, up to n bits
unfoldable pub zext_signal : ℕ → Signal → Signal
zext_signal n a = if n == a.width then a else cat_signal (const_signal (n - a.width) 0) a

-- the top bit of a signal
abbrev pub top_signal : Signal → Signal
top_signal a = slice_signal (a.width - 1) (a.width - 1) a

-- copies of the top bit above a signal, up to n bits
unfoldable pub sext_signal : ℕ → Signal → Signal
sext_signal n a = if n == a.width then a else cat_signal (rep_signal (n - a.width) (top_signal a)) a

-- half of the range added, which turns the order of two's complement into that of numbers
unfoldable pub raised_signal : Signal → Signal
raised_signal a = bin_signal net_op.Add a (const_signal a.width (2 ^ (a.width - 1)))
