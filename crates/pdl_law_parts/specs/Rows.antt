-- The statements for which rows stand.
use Rattle.std.specs.Prelude.{◌≡◌, ℕ, false, ⊤}
use Rattle.pdl_semantics.specs.Flat.{is_delayed, Op, Bind, CombRead, DelayedRead, Write, ReserveRead, ReserveWrite, Block, Release, Call, SpecCall, Verify, SpecCheck, SpecBarrier, AdviceBind, AdviceRead, AdviceWrite, Stmt, Pipe}
use Rattle.pdl_semantics.specs.Stages.{mem_at}
use Rattle.pdl_word.specs.Each.{Each}
use Rattle.pdl_law_parts.specs.Walk.{is_locked}

-- a memory that answers at once and has no lock
abbrev pub IsUnlocked : Pipe → ℕ → Type 0
IsUnlocked p m = (is_locked p m ≡ false) × (is_delayed (mem_at p m).kind ≡ false)

-- a row stands for a statement, where one that reads at once reads a memory that answers at once, and an advisory memory has no lock either
abbrev pub HasRow : Pipe → Op → Type 0
HasRow p (CombRead x m a) = is_delayed (mem_at p m).kind ≡ false
HasRow p (Bind x e) = ⊤
HasRow p (DelayedRead x m a) = ⊤
HasRow p (Write m a e) = ⊤
HasRow p (ReserveRead m a) = ⊤
HasRow p (ReserveWrite m a) = ⊤
HasRow p (Block m a) = ⊤
HasRow p (Release m a) = ⊤
HasRow p (Call args) = ⊤
HasRow p (SpecCall args) = ⊤
HasRow p (Verify last args) = ⊤
HasRow p SpecCheck = ⊤
HasRow p SpecBarrier = ⊤
HasRow p (AdviceBind x e) = ⊤
HasRow p (AdviceRead x m a) = IsUnlocked p m
HasRow p (AdviceWrite m a e) = IsUnlocked p m

-- a row stands for each statement of a pipe
abbrev pub HaveRows : Pipe → Type 0
HaveRows p = Each (λ (x : Stmt). HasRow p x.op) p.stmts
