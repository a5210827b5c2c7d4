-- The kind of a cell.
use Rattle.pdl_net.specs.declared.BinOp.{BinOp}
use Rattle.pdl_net.specs.declared.BinOp.TheVariants as op
use Rattle.pdl_net.specs.declared.Cell.{Cell}
use Rattle.pdl_net.specs.declared.Cell.TheVariants as cell
use Rattle.pdl_netrun.specs.declared.operation.CellKind.{CellKind}
use Rattle.pdl_netrun.specs.declared.operation.CellKind.TheVariants.{Constant, Complement, Add, Sub, Mul, And, Or, Xor, Equal, Differ, Less, ShiftLeft, ShiftRight, Choose, Slice, Join, Repeat, Look}

-- the kind of a cell with this operator
abbrev pub operator_kind : BinOp → CellKind
operator_kind op.Add = Add
operator_kind op.Sub = Sub
operator_kind op.Mul = Mul
operator_kind op.And = And
operator_kind op.Or = Or
operator_kind op.Xor = Xor
operator_kind op.Eq = Equal
operator_kind op.Ne = Differ
operator_kind op.Lt = Less
operator_kind op.Shl = ShiftLeft
operator_kind op.Shr = ShiftRight

-- the kind of a cell: that of its operator, a constant, a choice, a slice and so on
abbrev pub cell_kind : Cell → CellKind
cell_kind (cell.Const w v) = Constant
cell_kind (cell.Not a) = Complement
cell_kind (cell.Bin o a b) = operator_kind o
cell_kind (cell.Mux x a b) = Choose
cell_kind (cell.Slice a high low) = Slice
cell_kind (cell.Cat a b) = Join
cell_kind (cell.Rep k a) = Repeat
cell_kind (cell.Read m a) = Look
