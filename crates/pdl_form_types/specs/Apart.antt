-- A flat form whose plain statements use no advised variable: what an advisory memory says reaches guesses, and updates of these, alone.
use Rattle.std.specs.Prelude.{◌≡◌, ℕ, Bool, true, false, ◌||◌, List, [], ◌∷◌, slice_index_or, ⊤}
use Rattle.pdl_semantics.specs.Flat.{Expr, Constant, Variable, Slice, Not, Binary, Cat, LessSigned, ZeroExtend, SignExtend, Choose, Op, Bind, CombRead, DelayedRead, Write, ReserveRead, ReserveWrite, Block, Release, Call, SpecCall, Verify, SpecCheck, SpecBarrier, AdviceBind, AdviceRead, AdviceWrite, Guard, Stmt, Next, Ends, Goes, Forks, Stage, Pipe}

-- whether a variable is advised, by flags of all variables
abbrev pub flag_at : List Bool → ℕ → Bool
flag_at fs x = slice_index_or fs x false

-- whether an expression uses an advised variable
abbrev pub uses_flagged : List Bool → Expr → Bool
uses_flagged fs (Constant width value) = false
uses_flagged fs (Variable x) = flag_at fs x
uses_flagged fs (Slice x high low) = flag_at fs x
uses_flagged fs (Not width a) = uses_flagged fs a
uses_flagged fs (Binary op width a b) = uses_flagged fs a || uses_flagged fs b
uses_flagged fs (Cat a width b) = uses_flagged fs a || uses_flagged fs b
uses_flagged fs (LessSigned width a b) = uses_flagged fs a || uses_flagged fs b
uses_flagged fs (ZeroExtend wide a) = uses_flagged fs a
uses_flagged fs (SignExtend width wide a) = uses_flagged fs a
uses_flagged fs (Choose c a b) = uses_flagged fs c || (uses_flagged fs a || uses_flagged fs b)

-- whether one of these expressions does
abbrev pub some_flagged : List Bool → List Expr → Bool
some_flagged fs [] = false
some_flagged fs (e ∷ es) = uses_flagged fs e || some_flagged fs es

-- a variable that isn't advised
abbrev pub IsPlain : List Bool → ℕ → Type 0
IsPlain fs x = flag_at fs x ≡ false

-- what is advised is bound by the statements on advice, and used by these, by the guesses of calls and by their updates alone
abbrev pub IsApartOp : List Bool → Op → Type 0
IsApartOp fs (Bind x e) = IsPlain fs x × (uses_flagged fs e ≡ false)
IsApartOp fs (CombRead x m a) = IsPlain fs x × IsPlain fs a
IsApartOp fs (DelayedRead x m a) = IsPlain fs x × IsPlain fs a
IsApartOp fs (Write m a e) = IsPlain fs a × (uses_flagged fs e ≡ false)
IsApartOp fs (ReserveRead m a) = IsPlain fs a
IsApartOp fs (ReserveWrite m a) = IsPlain fs a
IsApartOp fs (Block m a) = IsPlain fs a
IsApartOp fs (Release m a) = IsPlain fs a
IsApartOp fs (Call args) = some_flagged fs args ≡ false
IsApartOp fs (SpecCall args) = ⊤
IsApartOp fs (Verify true args) = some_flagged fs args ≡ false
IsApartOp fs (Verify false args) = ⊤
IsApartOp fs SpecCheck = ⊤
IsApartOp fs SpecBarrier = ⊤
IsApartOp fs (AdviceBind x e) = flag_at fs x ≡ true
IsApartOp fs (AdviceRead x m a) = flag_at fs x ≡ true
IsApartOp fs (AdviceWrite m a e) = ⊤

-- guards by variables that aren't advised
abbrev pub AreApartGuards : List Bool → List Guard → Type 0
AreApartGuards fs [] = ⊤
AreApartGuards fs (g ∷ gs) = IsPlain fs g.var × AreApartGuards fs gs

-- each of these statements uses no advised variable where none may stand
abbrev pub AreApartStmts : List Bool → List Stmt → Type 0
AreApartStmts fs [] = ⊤
AreApartStmts fs (x ∷ xs) = (AreApartGuards fs x.guards × IsApartOp fs x.op) × AreApartStmts fs xs

-- where a stage leads to two others, a variable that isn't advised decides it
abbrev pub IsApartNext : List Bool → Next → Type 0
IsApartNext fs Ends = ⊤
IsApartNext fs (Goes to) = ⊤
IsApartNext fs (Forks x first second) = IsPlain fs x

-- each of these stages that forks does so by a variable that isn't advised
abbrev pub AreApartStages : List Bool → List Stage → Type 0
AreApartStages fs [] = ⊤
AreApartStages fs (x ∷ xs) = IsApartNext fs x.next × AreApartStages fs xs

-- by some flags of its variables, the statements and the forks of a pipe use no advised variable where none may stand
pub record IsApart (p : Pipe) : Type 0 where
  pub flags : List Bool
  pub stmts : AreApartStmts flags p.stmts
  pub stages : AreApartStages flags p.stages
