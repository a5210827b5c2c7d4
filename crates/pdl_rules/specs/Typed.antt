-- What a pipe in line that breaks no rule gives a compiler: each name is there when it is used, with the widths that its use wants.
use Rattle.std.specs.Prelude.{◌≡◌, ℕ, ◌+◌, ◌^◌, ◌<◌, ◌≤◌, Bool, IsTrue, IsFalse, List, [], ◌∷◌, Option, Some, None, bytes_eq, ⊤}
use Rattle.std.specs.List.{list_any}
use Rattle.pdl_semantics.specs.Tree.{Literal, Expr, Constant, Variable, Slice, Not, Binary, Cat, LessSigned, ZeroExtend, SignExtend, Choose, Param, Mem}
use Rattle.pdl_semantics.specs.Flatten.{Var, var_width, width_of}
use Rattle.pdl_semantics.specs.Words.{widest}

-- NAMES

-- whether a variable, and a memory, has the name
abbrev pub is_named : List Var → List ℕ → Bool
is_named vs x = list_any (λ (v : Var). bytes_eq v.name x) vs

-- whether a memory of the list has the name
abbrev pub is_memory : List Mem → List ℕ → Bool
is_memory ms m = list_any (λ (y : Mem). bytes_eq y.name.name m) ms

-- whether a memory of this name is among these names
abbrev pub is_among : List (List ℕ) → List ℕ → Bool
is_among names m = list_any (bytes_eq m) names

-- EXPRESSIONS

-- the value fits the width
abbrev pub Holds : Option ℕ → ℕ → Type 0
Holds None w = ⊥
Holds (Some v) w = v < 2 ^ w

-- each name is a variable's, widths are 1 to widest and those that the operators want
abbrev pub IsTyped : List Var → Expr → Type 0
IsTyped vs (Constant l) = (1 ≤ l.width) × (l.width ≤ widest) × Holds l.value l.width
IsTyped vs (Variable x) = IsTrue (is_named vs x.name)
IsTyped vs (Slice x high low) = IsTrue (is_named vs x.name) × (low.value ≤ high.value) × (high.value < var_width vs x.name)
IsTyped vs (Not a) = IsTyped vs a
IsTyped vs (Binary op a b) = IsTyped vs a × IsTyped vs b × (width_of vs a ≡ width_of vs b)
IsTyped vs (Cat a b) = IsTyped vs a × IsTyped vs b × (width_of vs a + width_of vs b ≤ widest)
IsTyped vs (LessSigned a b) = IsTyped vs a × IsTyped vs b × (width_of vs a ≡ width_of vs b)
IsTyped vs (ZeroExtend a n) = IsTyped vs a × (width_of vs a ≤ n.value) × (n.value ≤ widest)
IsTyped vs (SignExtend a n) = IsTyped vs a × (width_of vs a ≤ n.value) × (n.value ≤ widest)
IsTyped vs (Choose c a b) = IsTyped vs c × IsTyped vs a × IsTyped vs b × (width_of vs c ≡ 1) × (width_of vs a ≡ width_of vs b)

-- as many expressions as parameters, with their widths
abbrev pub AreArguments : List Var → List Param → List Expr → Type 0
AreArguments vs [] [] = ⊤
AreArguments vs (a ∷ as') (e ∷ es) = IsTyped vs e × (width_of vs e ≡ a.width.value) × AreArguments vs as' es
AreArguments vs _ _ = ⊥

-- there are as many start arguments as parameters, and each has the width of its parameter and a value of that width
abbrev pub AreStarts : List Param → List Literal → Type 0
AreStarts [] [] = ⊤
AreStarts (a ∷ as') (l ∷ ls) = (l.width ≡ a.width.value) × Holds l.value l.width × AreStarts as' ls
AreStarts _ _ = ⊥

-- THE WHOLE

-- no memory has the name of one before
abbrev pub AreDistinct : List Mem → Type 0
AreDistinct [] = ⊤
AreDistinct (m ∷ ms) = IsFalse (is_memory ms m.name.name) × AreDistinct ms

-- the words of a memory have 1 to widest bits, and there is a power of two of them, from 2 to 65,536
pub record IsSized (m : Mem) : Type 0 where
  pub low : 1 ≤ m.width.value
  pub high : m.width.value ≤ widest
  pub bits : ℕ
  pub some : 1 ≤ bits
  pub few : bits ≤ 16
  pub power : m.depth.value ≡ 2 ^ bits

-- each memory of the list has words of 1 to widest bits, and an allowed number of them
abbrev pub AreSized : List Mem → Type 0
AreSized [] = ⊤
AreSized (m ∷ ms) = IsSized m × AreSized ms
