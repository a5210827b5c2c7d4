-- Expressions of which each operator finds operands of its width.
use Rattle.std.specs.Prelude.{ℕ, ◌-◌, ◌^◌, ◌<◌, ◌≤◌, List, [], ◌∷◌, ⊤}
use Rattle.pdl_semantics.specs.Flat.{Expr, Constant, Variable, Slice, Not, Binary, Cat, LessSigned, ZeroExtend, SignExtend, Choose, value_of}
use Rattle.pdl_word.specs.Words.{widest}

-- a width in bits
abbrev pub IsWidth : ℕ → Type 0
IsWidth w = (1 ≤ w) × (w ≤ widest)

-- in an expression every operator finds operands of its width, where the variables have these values
abbrev pub IsSafe : Expr → List ℕ → Type 0
IsSafe (Constant w v) env = ⊤
IsSafe (Variable x) env = ⊤
IsSafe (Slice x high low) env = (low ≤ high) × (high < widest)
IsSafe (Not w a) env = IsSafe a env × IsWidth w × (value_of a env < 2 ^ w)
IsSafe (Binary op w a b) env = IsSafe a env × IsSafe b env × IsWidth w × (value_of a env < 2 ^ w) × (value_of b env < 2 ^ w)
IsSafe (Cat a w b) env = IsSafe a env × IsSafe b env × (1 ≤ w) × (w < widest) × (value_of a env < 2 ^ (widest - w)) × (value_of b env < 2 ^ w)
IsSafe (LessSigned w a b) env = IsSafe a env × IsSafe b env × IsWidth w
IsSafe (ZeroExtend wide a) env = IsSafe a env
IsSafe (SignExtend w wide a) env = IsSafe a env × (1 ≤ w) × (w ≤ wide) × (wide ≤ widest) × (value_of a env < 2 ^ w)
IsSafe (Choose c a b) env = IsSafe c env × IsSafe a env × IsSafe b env

-- in each of these expressions every operator finds operands of its width
abbrev pub AreSafe : List Expr → List ℕ → Type 0
AreSafe [] env = ⊤
AreSafe (e ∷ es) env = IsSafe e env × AreSafe es env
