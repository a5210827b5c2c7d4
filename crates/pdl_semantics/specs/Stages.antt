-- Stages and paths of a pipe in flat form. A path is a truth value for each guard: a list of values of all variables, of which those of guards count.
use Rattle.std.specs.Prelude.{ℕ, zero, suc, max, Bool, true, false, ◌||◌, List, [], ◌∷◌, ◌++◌, Option, Some, None, if◌then◌else◌, ◌==◌, slice_index, slice_index_or, slice_set, length, take, count_by, unwrap_or}
use Rattle.pdl_semantics.specs.Tree.{Comb}
use Rattle.pdl_semantics.specs.Flat.{is_delayed, Op, Bind, CombRead, DelayedRead, Write, ReserveRead, ReserveWrite, Block, Release, Call, SpecCall, Verify, SpecCheck, SpecBarrier, AdviceBind, AdviceRead, AdviceWrite, Stmt, Plain, Mem, Next, Ends, Goes, Forks, Branch, Stage, Pipe, all_hold, start_env}
use Rattle.pdl_semantics.specs.Forms.{on_release}

-- whether some element passes the test
abbrev pub list_any : {X : Type 0} → (X → Bool) → List X → Bool
list_any test [] = false
list_any test (x ∷ xs) = test x || list_any test xs

-- the statements on a path, in text order
abbrev pub onpath : List ℕ → List Stmt → List Stmt
onpath path [] = []
onpath path (x ∷ xs) = if all_hold x.guards path then record x { guards = [] } ∷ onpath path xs else onpath path xs

-- the statements of a stage, in text order
abbrev pub in_stage : ℕ → List Stmt → List Stmt
in_stage s [] = []
in_stage s (x ∷ xs) = if x.stage == s then x ∷ in_stage s xs else in_stage s xs

-- a memory without words and without lock, for a number past those of the memories
abbrev pub plain_mem : Mem
plain_mem = record { width = 0; depth = 0; kind = Comb; lock = Plain }

-- the memory of this number
abbrev pub mem_at : Pipe → ℕ → Mem
mem_at p m = slice_index_or p.mems m plain_mem

-- a stage from which threads leave the pipe, in no branch
abbrev pub last_stage : Stage
last_stage = record { next = Ends; branches = []; merges = None }

-- the stage of this number
abbrev pub stage_at : Pipe → ℕ → Stage
stage_at p s = slice_index_or p.stages s last_stage

-- the stage that a thread goes to, none from the last one
abbrev pub goes_to : Next → List ℕ → Option ℕ
goes_to Ends env = None
goes_to (Goes to) env = Some to
goes_to (Forks x first second) env = Some (if slice_index env x == 1 then first else second)

-- whether stage s of the pipe stands in a branch of fork f, perhaps in a fork inside it
abbrev pub is_inside : Pipe → ℕ → ℕ → Bool
is_inside p f s = list_any (λ b. b.fork == f) (stage_at p s).branches

-- of these branches those of fork f, at most one: whether it is the first one
abbrev pub sides_of : ℕ → List Branch → List Bool
sides_of f [] = []
sides_of f (b ∷ bs) = (if b.fork == f then b.first ∷ [] else []) ++ sides_of f bs

-- whether it merges this fork
abbrev pub merges_fork : Option ℕ → ℕ → Bool
merges_fork None f = false
merges_fork (Some g) f = g == f

-- the place of a delayed memory among the delayed ones
abbrev pub reply_place : Pipe → ℕ → ℕ
reply_place p m = count_by (λ x. is_delayed x.kind) (take m p.mems)

-- R(m), the stage of m's reserves, 0 where it has none
abbrev pub reserve_stage : Pipe → ℕ → ℕ
reserve_stage p m = unwrap_or (slice_index_or p.reserves_at m None) 0

-- C(m), the stage of m's releases, the number of stages where it has none
abbrev pub commit_stage : Pipe → ℕ → ℕ
commit_stage p m = unwrap_or (slice_index_or p.releases_at m None) (length p.stages)

-- a reservation of memory m, to be read or to be written
abbrev pub is_reserve : ℕ → Op → Bool
is_reserve m (ReserveRead n a) = n == m
is_reserve m (ReserveWrite n a) = n == m
is_reserve m (Bind x e) = false
is_reserve m (CombRead x n a) = false
is_reserve m (DelayedRead x n a) = false
is_reserve m (Write n a e) = false
is_reserve m (Block n a) = false
is_reserve m (Release n a) = false
is_reserve m (Call args) = false
is_reserve m (SpecCall args) = false
is_reserve m (Verify last args) = false
is_reserve m SpecCheck = false
is_reserve m SpecBarrier = false
is_reserve m (AdviceBind x e) = false
is_reserve m (AdviceRead x _ a) = false
is_reserve m (AdviceWrite _ a e) = false

-- a reservation of memory m for writing
abbrev pub is_write_reserve : ℕ → Op → Bool
is_write_reserve m (ReserveWrite n a) = n == m
is_write_reserve m (Bind x e) = false
is_write_reserve m (CombRead x n a) = false
is_write_reserve m (DelayedRead x n a) = false
is_write_reserve m (Write n a e) = false
is_write_reserve m (ReserveRead n a) = false
is_write_reserve m (Block n a) = false
is_write_reserve m (Release n a) = false
is_write_reserve m (Call args) = false
is_write_reserve m (SpecCall args) = false
is_write_reserve m (Verify last args) = false
is_write_reserve m SpecCheck = false
is_write_reserve m SpecBarrier = false
is_write_reserve m (AdviceBind x e) = false
is_write_reserve m (AdviceRead x _ a) = false
is_write_reserve m (AdviceWrite _ a e) = false

-- the release of a location in memory m
abbrev pub is_release : ℕ → Op → Bool
is_release m op = on_release (λ n a. n == m) false op

-- V, the stage of the verifies
abbrev pub is_verify : Op → Bool
is_verify (Verify last args) = last
is_verify (Bind x e) = false
is_verify (CombRead x m a) = false
is_verify (DelayedRead x m a) = false
is_verify (Write m a e) = false
is_verify (ReserveRead m a) = false
is_verify (ReserveWrite m a) = false
is_verify (Block m a) = false
is_verify (Release m a) = false
is_verify (Call args) = false
is_verify (SpecCall args) = false
is_verify SpecCheck = false
is_verify SpecBarrier = false
is_verify (AdviceBind x e) = false
is_verify (AdviceRead x m a) = false
is_verify (AdviceWrite m a e) = false

-- a verify or an update, which asks whether the present guess is another
abbrev pub is_check : Op → Bool
is_check (Verify last args) = true
is_check (Bind x e) = false
is_check (CombRead x m a) = false
is_check (DelayedRead x m a) = false
is_check (Write m a e) = false
is_check (ReserveRead m a) = false
is_check (ReserveWrite m a) = false
is_check (Block m a) = false
is_check (Release m a) = false
is_check (Call args) = false
is_check (SpecCall args) = false
is_check SpecCheck = false
is_check SpecBarrier = false
is_check (AdviceBind x e) = false
is_check (AdviceRead x m a) = false
is_check (AdviceWrite m a e) = false

-- V as the stage of the first `verify`, where there is one
abbrev pub verify_stage : List Stmt → Option ℕ
verify_stage [] = None
verify_stage (x ∷ xs) = if is_verify x.op then Some x.stage else verify_stage xs

-- DEPTH

-- what comes of a stage where there is one
abbrev pub onward : (ℕ → ℕ) → Option ℕ → ℕ
onward f None = 0
onward f (Some s) = f s

-- how many stages a thread comes to from this one on a path, or the limit
abbrev pub stages_on : Pipe → List ℕ → ℕ → ℕ → ℕ
stages_on p path zero s = 0
stages_on p path (suc limit) s = suc (onward (stages_on p path limit) (goes_to (stage_at p s).next path))

-- the variable on which a stage forks, if it does
abbrev pub guard_of_fork : Next → List ℕ
guard_of_fork Ends = []
guard_of_fork (Goes to) = []
guard_of_fork (Forks x first second) = x ∷ []

-- the guards of the forks in these stages
abbrev pub fork_guards : List Stage → List ℕ
fork_guards [] = []
fork_guards (x ∷ xs) = guard_of_fork x.next ++ fork_guards xs

-- the greatest number of stages over all truth values of these guards
abbrev pub longest : Pipe → List ℕ → List ℕ → ℕ
longest p path [] = stages_on p path (length p.stages) 0
longest p path (x ∷ xs) = max (longest p (slice_set path x 0) xs) (longest p (slice_set path x 1) xs)

-- D, the greatest number of stages on a path
abbrev pub depth : Pipe → ℕ
depth p = longest p (start_env p []) (fork_guards p.stages)
