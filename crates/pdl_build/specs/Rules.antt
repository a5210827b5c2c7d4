-- What may stand for a cell.
use Rattle.std.specs.Prelude.{◌≡◌, ℕ, ◌<◌, ◌^◌, Bool, true, false, Option, Some, None}
use Rattle.pdl_word.specs.Words.{complement}
use Rattle.pdl_net.specs.declared.BinOp.{BinOp}
use Rattle.pdl_net.specs.declared.BinOp.TheVariants.{Add, Sub, Mul, And, Or, Xor, Eq, Ne, Lt, Shl, Shr}
use Rattle.pdl_net.specs.declared.Cell.{Cell}
use Rattle.pdl_net.specs.Circuit.{Circuit, State}
use Rattle.pdl_net.specs.Signal.{Signal, bin_word, bin_width, const_value}
use Rattle.pdl_net.specs.Meaning.{Means, cell_signal, signal}
use Rattle.pdl_net.specs.Well.{Fits}
use Rattle.pdl_build.specs.declared.rules.OperatorRule.{OperatorRule}
use Rattle.pdl_build.specs.declared.rules.OperatorRule.TheVariants.{First, Second, Complement, Number, Itself}
use Rattle.pdl_build.specs.declared.simplify.Simple.{Simple}
use Rattle.pdl_build.specs.declared.simplify.Simple.TheVariants.{Net as OfNet, Cell as OfCell}
use Rattle.pdl_build.specs.FoldedCells.{is_foldable}

-- what an operator makes of words x and y is what the rule says
abbrev pub Gives : OperatorRule → BinOp → ℕ → ℕ → ℕ → Type 0
Gives First op w x y = (bin_width op w ≡ w) × (bin_word op w x y ≡ x)
Gives Second op w x y = (bin_width op w ≡ w) × (bin_word op w x y ≡ y)
Gives Complement op w x y = (bin_width op w ≡ w) × (bin_word op w x y ≡ complement w x)
Gives (Number n) op w x y = (n < 2 ^ bin_width op w) × (bin_word op w x y ≡ n)
Gives Itself op w x y = Unit {0}

-- a net that means a signal, or a cell that fits and would mean it
abbrev pub StandsFor : Circuit → Signal → Simple → Type 0
StandsFor c f (OfNet x) = Means c x f
StandsFor c f (OfCell g) = Fits c g × (cell_signal c (signal c) g ≡ f)

-- an operator whose result is below the power of two of its width whatever it reads
abbrev pub is_cut : BinOp → Bool
is_cut And = false
is_cut Or = false
is_cut Xor = false
is_cut Shr = false
is_cut Add = true
is_cut Sub = true
is_cut Mul = true
is_cut Eq = true
is_cut Ne = true
is_cut Lt = true
is_cut Shl = true

-- in every state, also one that doesn't suit the circuit, a signal's value is below the power of two of its width
abbrev pub IsBelow : Signal → Type 0
IsBelow f = (s : State) → f.value s < 2 ^ f.width

-- the value of a cell whose operands are all constants, and none of any other cell
abbrev pub FoldsTo : Circuit → Cell → Option ℕ → Type 0
FoldsTo c g (Some v) = (cell_signal c (signal c) g).value ≡ const_value v
FoldsTo c g None = is_foldable c.cells g ≡ false
