-- The delayed reads of a pipe: of each memory the stage and the variable, and the places to which the threads that read go on.
use Rattle.std.specs.Prelude.{◌≡◌, ℕ, ◌<◌, true, false, List, [], ◌∷◌, Option, Some, None, if◌then◌else◌, ◌==◌, slice_index, length, count_by, ⊤}
use Rattle.pdl_word.specs.Each.{Each}
use Rattle.pdl_semantics.specs.Flat.{Op, Bind, CombRead, DelayedRead, Write, ReserveRead, ReserveWrite, Block, Release, Call, SpecCall, Verify, SpecCheck, SpecBarrier, AdviceBind, AdviceRead, AdviceWrite, Stmt, Next, Ends, Goes, Forks, Stage, Pipe, is_delayed}
use Rattle.pdl_semantics.specs.Forms.{on_delayed_read}
use Rattle.pdl_semantics.specs.Stages.{stage_at, mem_at, list_any}

-- the stage of a delayed read, and the variable that it binds
pub record Reading : Type 0 where
  pub stage : ℕ
  pub var : ℕ

-- the first delayed read of a memory among statements
abbrev pub reading_in : ℕ → List Stmt → Option Reading
reading_in m [] = None
reading_in m (x ∷ xs) = on_delayed_read (λ y n a. if n == m then Some (record { stage = x.stage; var = y }) else reading_in m xs) (reading_in m xs) x.op

-- the first delayed read of a memory in a pipe
abbrev pub reading : Pipe → ℕ → Option Reading
reading p m = reading_in m p.stmts

-- the stages to which a stage leads: its places
abbrev pub places_of : Next → List ℕ
places_of Ends = []
places_of (Goes to) = to ∷ []
places_of (Forks x first second) = first ∷ second ∷ []

-- the places of a delayed read: the stages into one of which the thread that reads comes
abbrev pub places : Pipe → Reading → List ℕ
places p r = places_of (stage_at p r.stage).next

-- the i-th of the places to which a thread that reads delayed goes on
abbrev pub place_at : Pipe → Reading → ℕ → ℕ
place_at p r i = slice_index (places p r) i

-- the number of the place to which a thread with these values goes
abbrev pub place_to : Next → List ℕ → ℕ
place_to Ends env = 0
place_to (Goes to) env = 0
place_to (Forks x first second) env = if slice_index env x == 1 then 0 else 1

-- a statement that reads delayed is the pipe's delayed read of its memory, and one that reads at once reads a memory that answers at once
abbrev pub IsTheReading : Pipe → Stmt → Type 0
IsTheReading p x = on_delayed_read (λ y m a. reading p m ≡ Some (record { stage = x.stage; var = y })) ⊤ x.op

-- a statement that reads at once reads a memory that answers at once; an advisory memory does by its kind
abbrev pub ReadsAtOnce : Pipe → Op → Type 0
ReadsAtOnce p (CombRead x m a) = is_delayed (mem_at p m).kind ≡ false
ReadsAtOnce p (Bind x e) = ⊤
ReadsAtOnce p (DelayedRead x m a) = ⊤
ReadsAtOnce p (Write m a e) = ⊤
ReadsAtOnce p (ReserveRead m a) = ⊤
ReadsAtOnce p (ReserveWrite m a) = ⊤
ReadsAtOnce p (Block m a) = ⊤
ReadsAtOnce p (Release m a) = ⊤
ReadsAtOnce p (Call args) = ⊤
ReadsAtOnce p (SpecCall args) = ⊤
ReadsAtOnce p (Verify last args) = ⊤
ReadsAtOnce p SpecCheck = ⊤
ReadsAtOnce p SpecBarrier = ⊤
ReadsAtOnce p (AdviceBind x e) = ⊤
ReadsAtOnce p (AdviceRead x m a) = ⊤
ReadsAtOnce p (AdviceWrite m a e) = ⊤

-- what the rules give of reads: each memory is read delayed by one statement at most, no two of these bind one variable, and each form of read is of a memory of its kind
pub record Reads (p : Pipe) : Type 0 where
  pub one : Each (IsTheReading p) p.stmts
  pub apart : (m n : ℕ) (r q : Reading) → reading p m ≡ Some r → reading p n ≡ Some q → r.var ≡ q.var → m ≡ n
  pub known : (m : ℕ) (r : Reading) → reading p m ≡ Some r → (m < length p.mems) × (is_delayed (mem_at p m).kind ≡ true) × (r.var < p.vars)
  pub at_once : Each (λ (x : Stmt). ReadsAtOnce p x.op) p.stmts

-- how many stages the branches of a fork have
abbrev pub branch_stages : Pipe → ℕ → ℕ
branch_stages p f = count_by (λ (x : Stage). list_any (λ b. b.fork == f) x.branches) p.stages
