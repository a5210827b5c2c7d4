-- A pipe without its updates, which replace a guess by a better one: it does the same, only later.
use Rattle.std.specs.Prelude.{◌≡◌, ℕ, Bool, false, not, List, [], ◌∷◌, ◌++◌, Option, Some, None, if◌then◌else◌, nat_lt}
use Rattle.pdl_semantics.specs.Flat.{Arrays, Op, Bind, CombRead, DelayedRead, Write, ReserveRead, ReserveWrite, Block, Release, Call, SpecCall, Verify, SpecCheck, SpecBarrier, AdviceBind, AdviceRead, AdviceWrite, Stmt, Pipe, Commit}
use Rattle.pdl_semantics.specs.Stages.{verify_stage}
use Rattle.pdl_semantics.specs.Sequential.{seqwrites}
use Rattle.pdl_semantics.specs.Cycle.{turns, commits}
use Rattle.pdl_semantics.specs.Promises.{IsPrefix}

-- an update: a check that is not the last
abbrev pub is_update : Op → Bool
is_update (Verify last args) = not last
is_update (Bind x e) = false
is_update (CombRead x m a) = false
is_update (DelayedRead x m a) = false
is_update (Write m a e) = false
is_update (ReserveRead m a) = false
is_update (ReserveWrite m a) = false
is_update (Block m a) = false
is_update (Release m a) = false
is_update (Call args) = false
is_update (SpecCall args) = false
is_update SpecCheck = false
is_update SpecBarrier = false
is_update (AdviceBind x e) = false
is_update (AdviceRead x m a) = false
is_update (AdviceWrite m a e) = false

-- the stage of the first `update`, where there is one
abbrev pub first_update : List Stmt → Option ℕ
first_update [] = None
first_update (x ∷ xs) = if is_update x.op then Some x.stage else first_update xs

-- the second one of two stages, where it is before the first one
abbrev pub earlier : Option ℕ → Option ℕ → Option ℕ
earlier None u = None
earlier (Some v) None = None
earlier (Some v) (Some u) = if nat_lt u v then Some u else None

-- U as the stage of the first `update`, where that is before V; elsewhere an update stands on no path
abbrev pub update_stage : List Stmt → Option ℕ
update_stage xs = earlier (verify_stage xs) (first_update xs)

-- a stage as a list, where there is one
abbrev pub listed : Option ℕ → List ℕ
listed None = []
listed (Some s) = s ∷ []

-- the stages in which a thread may squash: V and U
abbrev pub squash_stages : List Stmt → List ℕ
squash_stages xs = listed (verify_stage xs) ++ listed (update_stage xs)

-- the statements but for the updates
abbrev pub without_updates : List Stmt → List Stmt
without_updates [] = []
without_updates (x ∷ xs) = if is_update x.op then without_updates xs else x ∷ without_updates xs

-- the pipe without its updates
abbrev pub not_updated : Pipe → Pipe
not_updated p = record p { stmts = without_updates p.stmts }

-- both write the same in sequence
abbrev pub WritesAlike : Pipe → Arrays → Type 0
WritesAlike p image = (m k : ℕ) → seqwrites (not_updated p) image m k ≡ seqwrites p image m k

-- and what both commit to a memory, each with a schedule of its own, begins one list
abbrev pub CommitsAlike : Pipe → Arrays → List (List Bool) → List (List Bool) → Type 0
CommitsAlike p image schedule schedule' =
    (m : ℕ) → (all : List Commit) × IsPrefix (commits m (turns p image schedule)) all × IsPrefix (commits m (turns (not_updated p) image schedule')) all
