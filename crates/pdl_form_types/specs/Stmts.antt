-- A flat form whose statements find variables, memories and locks, with the widths that they want.
use Rattle.std.specs.Prelude.{◌≡◌, ℕ, ◌^◌, ◌<◌, ◌≤◌, Bool, true, false, List, [], ◌∷◌, length, take, slice_index, ⊤}
use Rattle.pdl_semantics.specs.Flat.{Expr, Op, Bind, CombRead, DelayedRead, Write, ReserveRead, ReserveWrite, Block, Release, Call, SpecCall, Verify, SpecCheck, SpecBarrier, AdviceBind, AdviceRead, AdviceWrite, Guard, Stmt, has_lock, Mem, Next, Ends, Goes, Forks, Stage, Pipe}
use Rattle.pdl_semantics.specs.Stages.{mem_at}
use Rattle.pdl_form.specs.Form.{Form}
use Rattle.pdl_form_types.specs.Exprs.{width_in, IsTyped}
use Rattle.pdl_form_types.specs.Apart.{IsApart}
use Rattle.pdl_semantics.specs.Words.{widest}

-- the widths of the parameters
abbrev pub param_widths : Form → List ℕ
param_widths f = take (length f.pipe.start) f.widths

-- guards by variables of 1 bit
abbrev pub AreGuards : List ℕ → List Guard → Type 0
AreGuards ws [] = ⊤
AreGuards ws (g ∷ gs) = (g.var < length ws) × (slice_index ws g.var ≡ 1) × AreGuards ws gs

-- a location of a memory, with a variable that reaches each of its words and no more
pub record IsLocation (p : Pipe) (ws : List ℕ) (m a : ℕ) : Type 0 where
  pub memory : m < length p.mems
  pub var : a < length ws
  pub reach : 2 ^ slice_index ws a ≡ (mem_at p m).depth

-- the memory of this number has a lock
abbrev pub IsLockedMem : Pipe → ℕ → Type 0
IsLockedMem p m = has_lock (mem_at p m).lock ≡ true

-- a location of a memory with a lock
abbrev pub IsLocked : Pipe → List ℕ → ℕ → ℕ → Type 0
IsLocked p ws m a = IsLocation p ws m a × IsLockedMem p m

-- one expression for each of these widths, and of that width
abbrev pub AreArguments : List ℕ → List ℕ → List Expr → Type 0
AreArguments ws [] [] = ⊤
AreArguments ws (n ∷ ns) (e ∷ es) = IsTyped ws e × (width_in ws e ≡ n) × AreArguments ws ns es
AreArguments ws _ _ = ⊥

-- a word for a variable, read at a location
abbrev pub IsReadOf : Pipe → List ℕ → ℕ → ℕ → ℕ → Type 0
IsReadOf p ws x m a = (x < length ws) × IsLocation p ws m a × (slice_index ws x ≡ (mem_at p m).width)

-- what a statement does finds its variables, its memory and its lock, with the widths that it wants
abbrev pub IsTypedOp : Form → Op → Type 0
IsTypedOp f (Bind x e) = (x < length f.widths) × IsTyped f.widths e × (width_in f.widths e ≡ slice_index f.widths x)
IsTypedOp f (CombRead x m a) = IsReadOf f.pipe f.widths x m a
IsTypedOp f (DelayedRead x m a) = IsReadOf f.pipe f.widths x m a
IsTypedOp f (Write m a e) =
    IsLocation f.pipe f.widths m a × IsTyped f.widths e × (width_in f.widths e ≡ (mem_at f.pipe m).width) × IsLockedMem f.pipe m
IsTypedOp f (ReserveRead m a) = IsLocked f.pipe f.widths m a
IsTypedOp f (ReserveWrite m a) = IsLocked f.pipe f.widths m a
IsTypedOp f (Block m a) = IsLocked f.pipe f.widths m a
IsTypedOp f (Release m a) = IsLocked f.pipe f.widths m a
IsTypedOp f (Call args) = AreArguments f.widths (param_widths f) args
IsTypedOp f (SpecCall args) = AreArguments f.widths (param_widths f) args
IsTypedOp f (Verify last args) = AreArguments f.widths (param_widths f) args
IsTypedOp f SpecCheck = ⊤
IsTypedOp f SpecBarrier = ⊤
IsTypedOp f (AdviceBind x e) = (x < length f.widths) × IsTyped f.widths e × (width_in f.widths e ≡ slice_index f.widths x)
IsTypedOp f (AdviceRead x m a) = IsReadOf f.pipe f.widths x m a
IsTypedOp f (AdviceWrite m a e) = IsLocation f.pipe f.widths m a × IsTyped f.widths e × (width_in f.widths e ≡ (mem_at f.pipe m).width)

-- a statement under guards by variables of 1 bit that finds what it wants
abbrev pub IsTypedStmt : Form → Stmt → Type 0
IsTypedStmt f x = AreGuards f.widths x.guards × IsTypedOp f x.op

-- each of these statements is typed
abbrev pub AreTypedStmts : Form → List Stmt → Type 0
AreTypedStmts f [] = ⊤
AreTypedStmts f (x ∷ xs) = IsTypedStmt f x × AreTypedStmts f xs

-- variables of 1 to widest bits
abbrev pub AreWidths : List ℕ → Type 0
AreWidths [] = ⊤
AreWidths (w ∷ ws) = (1 ≤ w) × (w ≤ widest) × AreWidths ws

-- values below 2 to the power of these widths, one for each
abbrev pub AreBelow : List ℕ → List ℕ → Type 0
AreBelow [] [] = ⊤
AreBelow (w ∷ ws) (v ∷ vs) = (v < 2 ^ w) × AreBelow ws vs
AreBelow _ _ = ⊥

-- words of 1 to widest bits, and a power of two of them, from 2 to 65,536
pub record IsTypedMem (m : Mem) : Type 0 where
  pub low : 1 ≤ m.width
  pub high : m.width ≤ widest
  pub bits : ℕ
  pub some : 1 ≤ bits
  pub few : bits ≤ 16
  pub depth : m.depth ≡ 2 ^ bits

-- each of these memories is typed
abbrev pub AreTypedMems : List Mem → Type 0
AreTypedMems [] = ⊤
AreTypedMems (m ∷ ms) = IsTypedMem m × AreTypedMems ms

-- where a stage leads to two others, that a variable of 1 bit decides it
abbrev pub IsFork : List ℕ → Next → Type 0
IsFork ws Ends = ⊤
IsFork ws (Goes to) = ⊤
IsFork ws (Forks x first second) = (x < length ws) × (slice_index ws x ≡ 1)

-- each of these stages that forks does so by a variable of 1 bit
abbrev pub AreForks : List ℕ → List Stage → Type 0
AreForks ws [] = ⊤
AreForks ws (x ∷ xs) = IsFork ws x.next × AreForks ws xs

-- a flat form is typed: its variables, start, memories, statements and forks are, and what is advised stands apart
pub record IsTypedForm (f : Form) : Type 0 where
  pub vars : f.pipe.vars ≡ length f.widths
  pub params : length f.pipe.start ≤ length f.widths
  pub wide : AreWidths f.widths
  pub start : AreBelow (param_widths f) f.pipe.start
  pub mems : AreTypedMems f.pipe.mems
  pub stmts : AreTypedStmts f f.pipe.stmts
  pub forks : AreForks f.widths f.pipe.stages
  pub apart : IsApart f.pipe
