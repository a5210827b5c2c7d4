-- How the threads use the locks in a cycle, of any pipe, beside what the law of a netlist takes: room, whose write is released, and where a squash cuts the list of pending writes.
use Rattle.std.specs.Prelude.{◌≡◌, ℕ, zero, suc, ◌+◌, ◌≤◌, ◌<◌, Bool, true, false, ◌&&◌, List, [], ◌∷◌, Some, is_none, nat_le, length, take, if◌then◌else◌, ◌==◌, slice_index, IsTrue, ⊤}
use Rattle.pdl_semantics.specs.Flat.{Op, Bind, CombRead, DelayedRead, Write, ReserveRead, ReserveWrite, Block, Release, Call, SpecCall, Verify, SpecCheck, SpecBarrier, AdviceBind, AdviceRead, AdviceWrite, Stmt, Pipe, all_hold}
use Rattle.pdl_semantics.specs.Stages.{list_any, onpath, in_stage, mem_at, reserve_stage, commit_stage}
use Rattle.pdl_semantics.specs.Machine.{Awaited, State, Pending, Written, Deeds, deeds_after, lock_of, older_write, word_for}
use Rattle.pdl_semantics.specs.Locks.{read_ready, write_ready}
use Rattle.pdl_semantics.specs.Moves.{Act, have_room}
use Rattle.pdl_semantics.specs.Cycle.{releases_of, all_releases, is_kept, entries_left, squasher}
use Rattle.pdl_semantics.specs.Sound.{entries_by}
use Rattle.pdl_lockapi.specs.Forget.{has_place, place_of, IsOnce}
use Rattle.pdl_machine_facts.specs.Slots.{locks_ready}
use Rattle.pdl_machine_facts.specs.Use.{before_stage}
use Rattle.pdl_theory_states.specs.Use.{moving, with_new, with_values, with_release}
use Rattle.pdl_semantics.specs.PendingLists.{count_older}

-- A THREAD AND A LOCK IN A CYCLE

-- a thread that moves has room for what it reserves
abbrev pub HasRoom : Pipe → State → Act → Type 0
HasRoom p st a = a.moves ≡ true → have_room p st a.does ≡ true

-- the oldest k pending writes are of this thread, and have their values, which may come in this cycle
abbrev pub AreOwn : ℕ → ℕ → List Pending → Type 0
AreOwn zero thread es = ⊤
AreOwn (suc k) thread [] = ⊥
AreOwn (suc k) thread (e ∷ es) = (e.thread ≡ thread) × (v : ℕ) × (e.value ≡ Some v) × AreOwn k thread es

-- what a thread that moves releases are its own pending writes, the oldest ones, which have their values
abbrev pub ReleasesOwn : Pipe → State → List Bool → ℕ → Act → Type 0
ReleasesOwn p st bits m a = a.moves ≡ true → AreOwn (releases_of m a.does.releases) a.thread.number (with_values p st bits m)

-- what is released is no younger than this thread: the pending writes up to its own become as many fewer
abbrev pub ShiftsUpTo : Pipe → State → List Bool → ℕ → Act → Type 0
ShiftsUpTo p st bits m a =
    count_older (suc a.thread.number) (with_release p st bits m) + all_releases m (moving p st bits)
    ≡ count_older (suc a.thread.number) (with_new p st bits m)

-- up to the stage of the memory's releases, where a block or a read of it may still be made, what is released is no younger
abbrev pub ReleasesOlder : Pipe → State → List Bool → ℕ → Act → Type 0
ReleasesOlder p st bits m a = a.stage ≤ commit_stage p m → ShiftsUpTo p st bits m a

-- WRITES

-- a read finds the block of its location ready, and so does a write, where the thread came so far
abbrev pub IsLetIn : Pipe → State → ℕ → Op → Deeds → Type 0
IsLetIn p st thread (Bind _ _) d = ⊤
IsLetIn p st thread (CombRead x m a) d = IsTrue (read_ready (mem_at p m).lock (older_write st thread m (slice_index d.env a)))
IsLetIn p st thread (DelayedRead x m a) d = IsTrue (read_ready (mem_at p m).lock (older_write st thread m (slice_index d.env a)))
IsLetIn p st thread (Write m a e) d = IsTrue (write_ready (mem_at p m).lock (older_write st thread m (slice_index d.env a)))
IsLetIn p st thread (ReserveRead _ _) d = ⊤
IsLetIn p st thread (ReserveWrite _ _) d = ⊤
IsLetIn p st thread (Block _ _) d = ⊤
IsLetIn p st thread (Release _ _) d = ⊤
IsLetIn p st thread (Call _) d = ⊤
IsLetIn p st thread (SpecCall _) d = ⊤
IsLetIn p st thread (Verify _ _) d = ⊤
IsLetIn p st thread SpecCheck d = ⊤
IsLetIn p st thread SpecBarrier d = ⊤
IsLetIn p st thread (AdviceBind _ _) d = ⊤
IsLetIn p st thread (AdviceRead _ _ _) d = ⊤
IsLetIn p st thread (AdviceWrite _ _ _) d = ⊤

-- each statement after these deeds, as long as the locks let the thread move so far
abbrev pub AreLetIn : Pipe → State → ℕ → List Stmt → Deeds → Type 0
AreLetIn p st thread [] d = ⊤
AreLetIn p st thread (x ∷ xs) d =
    (all_hold x.guards d.env ≡ true → locks_ready p st thread d ≡ true → IsLetIn p st thread x.op d)
    × AreLetIn p st thread xs (if all_hold x.guards d.env then deeds_after (word_for st thread) x.op d else d)

-- each read and each write of the thread's stage finds the block of its location ready
abbrev pub IsLet : Pipe → State → Act → Type 0
IsLet p st a = AreLetIn p st a.thread.number (in_stage a.stage p.stmts) (before_stage p a.stage a.thread)

-- how many values a thread writes to a memory
abbrev pub written_in : ℕ → List Written → ℕ
written_in m [] = 0
written_in m (w ∷ ws) = if w.mem == m then suc (written_in m ws) else written_in m ws

-- whether a thread has a pending write of this variable without value
abbrev pub is_open : ℕ → ℕ → List Pending → Bool
is_open thread var es = list_any (λ (e : Pending). ((e.thread == thread) && (e.var == var)) && is_none e.value) es

-- each of a thread's writes to a memory goes into a pending write of its own without value, one after the other: the first into
-- the k-th of its own, the next into the one after it
abbrev pub AreInTurn : ℕ → ℕ → List Pending → ℕ → List Written → Type 0
AreInTurn m thread es k [] = ⊤
AreInTurn m thread es k (w ∷ ws) =
    ((w.mem == m) ≡ true
    → (is_open thread w.var es ≡ true) × (has_place thread w.var (entries_by thread es) ≡ true)
    × (place_of thread w.var (entries_by thread es) ≡ k))
    × AreInTurn m thread es (if w.mem == m then suc k else k) ws

-- a thread that moves writes to a memory into pending writes of its own, in the order of its reservations, each once
pub record IsInTurn (thread : ℕ) (m : ℕ) (es : List Pending) (ws : List Written) : Type 0 where
  pub before : ℕ  -- how many of its pending writes have their values
  pub turns : AreInTurn m thread es before ws
  pub once : (y : ℕ) → IsOnce thread y es

-- a thread that moves writes each of its pending writes at most once, in the order of its reservations
abbrev pub WritesOnce : Pipe → State → List Bool → ℕ → Act → Type 0
WritesOnce p st bits m a = a.moves ≡ true → IsInTurn a.thread.number m (with_new p st bits m) a.does.writes

-- whether a statement blocks, reads or writes a memory by its lock, which an advisory memory has not
abbrev pub uses_mem : ℕ → Op → Bool
uses_mem m (Bind _ _) = false
uses_mem m (CombRead x n a) = n == m
uses_mem m (DelayedRead x n a) = n == m
uses_mem m (Write n a e) = n == m
uses_mem m (ReserveRead _ _) = false
uses_mem m (ReserveWrite _ _) = false
uses_mem m (Block n a) = n == m
uses_mem m (Release _ _) = false
uses_mem m (Call _) = false
uses_mem m (SpecCall _) = false
uses_mem m (Verify _ _) = false
uses_mem m SpecCheck = false
uses_mem m SpecBarrier = false
uses_mem m (AdviceBind _ _) = false
uses_mem m (AdviceRead _ _ _) = false
uses_mem m (AdviceWrite _ _ _) = false

-- as long as a statement that uses the memory may be to come, on whatever path, what is released is no younger
abbrev pub UsesOlder : Pipe → State → List Bool → ℕ → Act → Type 0
UsesOlder p st bits m a =
    (path : List ℕ) → list_any (λ (x : Stmt). nat_le a.stage x.stage && uses_mem m x.op) (onpath path p.stmts) ≡ true → ShiftsUpTo p st bits m a

-- as long as a read of the memory awaits its answer, what is released is no younger
abbrev pub AwaitsOlder : Pipe → State → List Bool → ℕ → Act → Type 0
AwaitsOlder p st bits m a = list_any (λ (r : Awaited). r.mem == m) a.thread.awaits ≡ true → ShiftsUpTo p st bits m a

-- WHERE A SQUASH CUTS

-- up to the stage of the reserves all pending writes are a thread's own or older, those of this cycle included
abbrev pub FindsAll : Pipe → State → List Bool → ℕ → Act → Type 0
FindsAll p st bits m a = a.stage ≤ reserve_stage p m → count_older (suc a.thread.number) (with_new p st bits m) ≡ length (with_new p st bits m)

-- past the stage of the reserves what a cycle reserves leaves a thread as many own and older pending writes
abbrev pub KeepsTail : Pipe → State → List Bool → ℕ → Act → Type 0
KeepsTail p st bits m a =
    reserve_stage p m < a.stage → count_older (suc a.thread.number) (with_new p st bits m) ≡ count_older (suc a.thread.number) (lock_of st m)

-- a squash that leaves a thread leaves its own and all older pending writes
abbrev pub LeavesTail : Pipe → State → List Bool → ℕ → Act → Type 0
LeavesTail p st bits m a =
    is_kept (squasher (moving p st bits)) a.thread.number ≡ true
    → count_older (suc a.thread.number) (entries_left (squasher (moving p st bits)) (with_release p st bits m))
    ≡ count_older (suc a.thread.number) (with_release p st bits m)

-- a squash leaves of a memory's pending writes a front, those of the squasher and of older threads
abbrev pub Cuts : Pipe → State → List Bool → ℕ → Type 0
Cuts p st bits m =
    (thread : ℕ) → squasher (moving p st bits) ≡ Some thread
    → entries_left (Some thread) (with_release p st bits m) ≡ take (count_older (suc thread) (with_release p st bits m)) (with_release p st bits m)

-- no thread that moves is removed
abbrev pub IsSpared : Pipe → State → List Bool → Act → Type 0
IsSpared p st bits a = a.moves ≡ true → is_kept (squasher (moving p st bits)) a.thread.number ≡ true
