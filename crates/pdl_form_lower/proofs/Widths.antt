-- No variable or expression of a pipe that keeps the rules is wider than the widest word.
use Rattle.std.proofs.Common.{ℕ, ◌+◌, ◌-◌, ◌≤◌, ◌<◌, Bool, true, false, List, [], ◌∷◌, ◌++◌, if◌then◌else◌, nat_lt, bytes_eq, arith}
use Rattle.pdl_semantics.specs.Tree.{Expr, Constant, Variable, Slice, Not, Binary, Cat, LessSigned, ZeroExtend, SignExtend, Choose, Mem}
use Rattle.pdl_semantics.specs.Flatten.{Var, var_width, mem_width, width_of}
use Rattle.pdl_rules.specs.Typed.{IsTyped}
use Rattle.pdl_rules.proofs.KnownVariables.{Stays}
use Rattle.pdl_form_lower.specs.Sized.{AreSizedMems}
use Rattle.pdl_form_lower.specs.Lowerable.{IsLowerable}
use Rattle.pdl_semantics.proofs.Facts.{op_narrow}
use Rattle.pdl_word.specs.Words.{widest}

-- EXPRESSIONS

-- no variable is wider than the widest word
abbrev pub Small : List Var → Type 0
Small [] = Unit {0}
Small (v ∷ vs) = (v.width ≤ widest) × Small vs

small_width : (vs : List Var) → Small vs → (x : List ℕ) → var_width vs x ≤ widest
small_width [] small x = omega arith
small_width (v ∷ vs) small x = go (bytes_eq v.name x) (small_width vs small.1 x)
  where
    go : (b : Bool) → var_width vs x ≤ widest → (if b then v.width else var_width vs x) ≤ widest
    go true h = small.0
    go false h = h

small_if : (b : Bool) (n : ℕ) → n ≤ widest → (if b then 1 else n) ≤ widest
small_if true n h = omega arith
small_if false n h = h

-- a typed expression can be lowered and has at most widest bits, where no variable is wider and the table has them all
pub lowerable_typed : (us vs : List Var) → Stays vs us → Small vs → (e : Expr) → IsTyped vs e → IsLowerable us e × (width_of vs e ≤ widest)
lowerable_typed us vs stays small (Constant l) t = (t.1, t.1)
lowerable_typed us vs stays small (Variable x) t = ((stays x.name t).0, small_width vs small x.name)
lowerable_typed us vs stays small (Slice x high low) t =
    let wide : var_width vs x.name ≤ widest = small_width vs small x.name in
    let order : low.value ≤ high.value = t.1 in
    let below : high.value < var_width vs x.name = t.2 in
    (((stays x.name t.0).0, omega arith, omega arith), small_if (nat_lt high.value low.value) (high.value + 1 - low.value) (omega arith))
lowerable_typed us vs stays small (Not a) t = lowerable_typed us vs stays small a t
lowerable_typed us vs stays small (Binary op a b) t =
    let left = lowerable_typed us vs stays small a t.0 in
    ((left.0, (lowerable_typed us vs stays small b t.1).0), op_narrow op (width_of vs a) left.1)
lowerable_typed us vs stays small (Cat a b) t = (
  ((lowerable_typed us vs stays small a t.0).0, (lowerable_typed us vs stays small b t.1).0),
  small_if (nat_lt widest (width_of vs a + width_of vs b)) (width_of vs a + width_of vs b) t.2,
)
lowerable_typed us vs stays small (LessSigned a b) t = (
  ((lowerable_typed us vs stays small a t.0).0, (lowerable_typed us vs stays small b t.1).0),
  omega arith,
)
lowerable_typed us vs stays small (ZeroExtend a n) t = ((t.2, (lowerable_typed us vs stays small a t.0).0), t.2)
lowerable_typed us vs stays small (SignExtend a n) t = ((t.2, (lowerable_typed us vs stays small a t.0).0), t.2)
lowerable_typed us vs stays small (Choose c a b) t =
    let first = lowerable_typed us vs stays small a t.1 in
    (((lowerable_typed us vs stays small c t.0).0, (first.0, (lowerable_typed us vs stays small b t.2).0)), first.1)

-- VARIABLES

-- with a variable more of at most widest bits, no variable is wider than the widest word
pub small_more : (vs : List Var) (v : Var) → Small vs → v.width ≤ widest → Small (vs ++ v ∷ [])
small_more [] v small h = (h, tt)
small_more (u ∷ vs) v small h = (small.0, small_more vs v small.1 h)

-- the words of a memory have at most widest bits, where the memories' sizes are in bounds
pub small_mem : (ms : List Mem) (m : List ℕ) → AreSizedMems ms → mem_width ms m ≤ widest
small_mem [] m s = omega arith
small_mem (x ∷ ms) m s = go (bytes_eq x.name.name m) (small_mem ms m s.1)
  where
    go : (b : Bool) → mem_width ms m ≤ widest → (if b then x.width.value else mem_width ms m) ≤ widest
    go true h = s.0.width
    go false h = h
