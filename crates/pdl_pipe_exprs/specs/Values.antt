-- What expressions over numbered variables mean over signals.
use Rattle.std.specs.Prelude.{◌≡◌, ℕ, ◌<◌, List, map, length}
use Rattle.pdl_semantics.specs.Flat.{value_of, Expr, Constant, Variable, Slice, Not, Binary, Cat, LessSigned, ZeroExtend, SignExtend, Choose}
use Rattle.pdl_net.specs.declared.BinOp.TheVariants as net_op
use Rattle.pdl_net.specs.Circuit.{State}
use Rattle.pdl_net.specs.Well.{IsBounded}
use Rattle.pdl_net.specs.Signal.{Signal, const_signal, not_signal, bin_signal, mux_signal, slice_signal, cat_signal}
use Rattle.pdl_build.specs.Operators.{op_of, zext_signal, sext_signal, raised_signal}
use Rattle.pdl_pipe_exprs.specs.Nets.{signal_at}

-- the signal of an expression over the variables' signals
abbrev pub value_signal : List Signal → Expr → Signal
value_signal fs (Constant width value) = const_signal width value
value_signal fs (Variable x) = signal_at fs x
value_signal fs (Slice x high low) = slice_signal high low (signal_at fs x)
value_signal fs (Not width a) = not_signal (value_signal fs a)
value_signal fs (Binary op width a b) = bin_signal (op_of op) (value_signal fs a) (value_signal fs b)
value_signal fs (Cat a width b) = cat_signal (value_signal fs a) (value_signal fs b)
value_signal fs (LessSigned width a b) = bin_signal net_op.Lt (raised_signal (value_signal fs a)) (raised_signal (value_signal fs b))
value_signal fs (ZeroExtend wide a) = zext_signal wide (value_signal fs a)
value_signal fs (SignExtend width wide a) = sext_signal wide (value_signal fs a)
value_signal fs (Choose c a b) = mux_signal (value_signal fs c) (value_signal fs a) (value_signal fs b)

-- the signals of expressions over the variables' signals
abbrev pub value_signals : List Signal → List Expr → List Signal
value_signals fs es = map (value_signal fs) es

-- the values of signals in a state
abbrev pub values_in : State → List Signal → List ℕ
values_in s fs = map (λ (f : Signal). f.value s) fs

-- each signal has a value within its width
abbrev pub AreBounded : State → List Signal → Type 0
AreBounded s fs = (x : ℕ) → x < length fs → IsBounded s (signal_at fs x)

-- a signal has the value of an expression, wherever the variables' signals have values within their widths
abbrev pub IsValue : List Signal → Expr → Signal → Type 0
IsValue fs e f = (s : State) → AreBounded s fs → f.value s ≡ value_of e (values_in s fs)
