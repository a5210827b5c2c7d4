-- Widths of expressions over numbered variables.
use Rattle.std.specs.Prelude.{◌≡◌, ℕ, ◌+◌, ◌-◌, ◌^◌, ◌<◌, ◌≤◌, List, [], ◌∷◌, length, slice_index, ⊤}
use Rattle.pdl_semantics.specs.Flat.{Expr, Constant, Variable, Slice, Not, Binary, Cat, LessSigned, ZeroExtend, SignExtend, Choose}
use Rattle.pdl_semantics.specs.Flatten.{op_width}
use Rattle.pdl_semantics.specs.Words.{widest}

-- the width of a value, where the variables have these widths
abbrev pub width_in : List ℕ → Expr → ℕ
width_in ws (Constant width value) = width
width_in ws (Variable x) = slice_index ws x
width_in ws (Slice x high low) = high + 1 - low
width_in ws (Not width a) = width
width_in ws (Binary op width a b) = op_width op width
width_in ws (Cat a width b) = width_in ws a + width
width_in ws (LessSigned width a b) = 1
width_in ws (ZeroExtend wide a) = wide
width_in ws (SignExtend width wide a) = wide
width_in ws (Choose c a b) = width_in ws a

-- each variable is there, and widths are 1 to widest, those that the operators want, and those that are told
abbrev pub IsTyped : List ℕ → Expr → Type 0
IsTyped ws (Constant width value) = (1 ≤ width) × (width ≤ widest) × (value < 2 ^ width)
IsTyped ws (Variable x) = x < length ws
IsTyped ws (Slice x high low) = (x < length ws) × (low ≤ high) × (high < slice_index ws x)
IsTyped ws (Not width a) = IsTyped ws a × (width_in ws a ≡ width)
IsTyped ws (Binary op width a b) = IsTyped ws a × IsTyped ws b × (width_in ws a ≡ width) × (width_in ws b ≡ width)
IsTyped ws (Cat a width b) = IsTyped ws a × IsTyped ws b × (width_in ws b ≡ width) × (width_in ws a + width ≤ widest)
IsTyped ws (LessSigned width a b) = IsTyped ws a × IsTyped ws b × (width_in ws a ≡ width) × (width_in ws b ≡ width)
IsTyped ws (ZeroExtend wide a) = IsTyped ws a × (width_in ws a ≤ wide) × (wide ≤ widest)
IsTyped ws (SignExtend width wide a) = IsTyped ws a × (width_in ws a ≡ width) × (width ≤ wide) × (wide ≤ widest)
IsTyped ws (Choose c a b) = IsTyped ws c × IsTyped ws a × IsTyped ws b × (width_in ws c ≡ 1) × (width_in ws a ≡ width_in ws b)

-- each of these expressions is typed
abbrev pub AreTyped : List ℕ → List Expr → Type 0
AreTyped ws [] = ⊤
AreTyped ws (e ∷ es) = IsTyped ws e × AreTyped ws es
