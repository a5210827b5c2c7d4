-- Sound state: what holds, between cycles, in every state that a run of an accepted pipe comes to. Each point is a test, so that it computes. A turn is a thread of the sequential run.
use Rattle.std.specs.Prelude.{IsTrue, ℕ, zero, suc, ◌+◌, ◌-◌, count_by, Bool, true, false, ◌&&◌, ◌||◌, not, List, [], ◌∷◌, ◌++◌, Option, Some, None, is_none, if◌then◌else◌, nat_lt, nat_le, ◌==◌, slice_index, length}
use Rattle.pdl_semantics.specs.Flat.{is_advisory, Arrays, list_all, Op, Bind, CombRead, DelayedRead, Write, ReserveRead, ReserveWrite, Block, Release, Call, SpecCall, Verify, SpecCheck, SpecBarrier, AdviceBind, AdviceRead, AdviceWrite, Stmt, Mem, Branch, Pipe, value_of, values_of, start_env, word_at, Commit, of_mem}
use Rattle.pdl_semantics.specs.Forms.{on_delayed_read, on_block, on_release}
use Rattle.pdl_semantics.specs.Stages.{list_any, onpath, stage_at, sides_of, goes_to, is_verify, verify_stage, is_write_reserve}
use Rattle.pdl_semantics.specs.Sequential.{Run, run_all, thread, seqwrites, after_turns}
use Rattle.pdl_semantics.specs.Machine.{Awaited, Kept, Thread, Pending, Request, NoRequest, Owned, Orphan, State, lock_of, fork_of, request_of, HeldLocation, is_held, held_before, same_args, with_kept}
use Rattle.pdl_semantics.specs.Moves.{block_ready}
use Rattle.pdl_semantics.specs.Promises.{row, wrote}

-- LIVE THREADS

-- a live thread with its stage
pub record Live : Type 0 where
  pub stage : ℕ
  pub thread : Thread

-- the number of a live thread
abbrev pub number_of : Live → ℕ
number_of l = l.thread.number

-- a thread put among others in the order of their numbers, the oldest first
abbrev pub put_in : Live → List Live → List Live
put_in l [] = l ∷ []
put_in l (k ∷ ks) = if nat_lt l.thread.number k.thread.number then l ∷ k ∷ ks else k ∷ put_in l ks

-- the threads of these stages, of which the first is s, oldest first
abbrev pub live_from : ℕ → List (Option Thread) → List Live
live_from s [] = []
live_from s (None ∷ xs) = live_from (suc s) xs
live_from s (Some t ∷ xs) = put_in (record { stage = s; thread = t }) (live_from (suc s) xs)

-- all live threads of a state, the oldest first
abbrev pub live : State → List Live
live st = live_from 0 st.stages

-- whether a test holds of each older and younger one of two
abbrev pub all_pairs : {X : Type 0} → (X → X → Bool) → List X → Bool
all_pairs test [] = true
all_pairs test (x ∷ xs) = list_all (test x) xs && all_pairs test xs

-- whether the test passes of each number from m on, one for each element
abbrev pub all_from : {X : Type 0} → (ℕ → Bool) → ℕ → List X → Bool
all_from test m [] = true
all_from test m (x ∷ xs) = test m && all_from test (suc m) xs

-- whether the test passes of each number below this one
abbrev pub all_below : (ℕ → Bool) → ℕ → Bool
all_below test zero = true
all_below test (suc n) = all_below test n && test n

-- the statements in stages before s
abbrev pub stages_before : ℕ → List Stmt → List Stmt
stages_before s [] = []
stages_before s (x ∷ xs) = if nat_lt x.stage s then x ∷ stages_before s xs else stages_before s xs

-- the statements in the stages from s on
abbrev pub stages_from : ℕ → List Stmt → List Stmt
stages_from s [] = []
stages_from s (x ∷ xs) = if nat_le s x.stage then x ∷ stages_from s xs else stages_from s xs

-- what a live thread has carried out: the statements on its path in the stages that it has left
abbrev pub past_stmts : Pipe → Live → List Stmt
past_stmts p l = onpath l.thread.env (stages_before l.stage p.stmts)

-- a live thread has carried out a statement that passes the test
abbrev pub has_done : (Op → Bool) → Pipe → Live → Bool
has_done test p l = list_any (λ x. test x.op) (past_stmts p l)

-- the locations that it holds for writing
abbrev pub held_places : Pipe → Live → List HeldLocation
held_places p l = held_before l.stage l.thread.env p.stmts []

-- whether a thread holds a location of this memory for writing
abbrev pub holds_mem : ℕ → Pipe → Live → Bool
holds_mem m p l = list_any (λ h. h.mem == m) (held_places p l)

-- KINDS OF STATEMENT

-- a call, on a guess or not
abbrev pub is_call : Op → Bool
is_call (Call args) = true
is_call (SpecCall args) = true
is_call (Bind x e) = false
is_call (CombRead x m a) = false
is_call (DelayedRead x m a) = false
is_call (Write m a e) = false
is_call (ReserveRead m a) = false
is_call (ReserveWrite m a) = false
is_call (Block m a) = false
is_call (Release m a) = false
is_call (Verify last args) = false
is_call SpecCheck = false
is_call SpecBarrier = false
is_call (AdviceBind x e) = false
is_call (AdviceRead x m a) = false
is_call (AdviceWrite m a e) = false

-- whether a statement is a call on a guess
abbrev pub is_spec_call : Op → Bool
is_spec_call (SpecCall args) = true
is_spec_call (Bind x e) = false
is_spec_call (CombRead x m a) = false
is_spec_call (DelayedRead x m a) = false
is_spec_call (Write m a e) = false
is_spec_call (ReserveRead m a) = false
is_spec_call (ReserveWrite m a) = false
is_spec_call (Block m a) = false
is_spec_call (Release m a) = false
is_spec_call (Call args) = false
is_spec_call (Verify last args) = false
is_spec_call SpecCheck = false
is_spec_call SpecBarrier = false
is_spec_call (AdviceBind x e) = false
is_spec_call (AdviceRead x m a) = false
is_spec_call (AdviceWrite m a e) = false

-- whether a statement is a `spec_barrier`
abbrev pub is_barrier : Op → Bool
is_barrier SpecBarrier = true
is_barrier (AdviceBind x e) = false
is_barrier (AdviceRead x m a) = false
is_barrier (AdviceWrite m a e) = false
is_barrier (Bind x e) = false
is_barrier (CombRead x m a) = false
is_barrier (DelayedRead x m a) = false
is_barrier (Write m a e) = false
is_barrier (ReserveRead m a) = false
is_barrier (ReserveWrite m a) = false
is_barrier (Block m a) = false
is_barrier (Release m a) = false
is_barrier (Call args) = false
is_barrier (SpecCall args) = false
is_barrier (Verify last args) = false
is_barrier SpecCheck = false

-- whether a statement is a write of memory m
abbrev pub is_write : ℕ → Op → Bool
is_write m (Write n a e) = n == m
is_write m (Bind x e) = false
is_write m (CombRead x n a) = false
is_write m (DelayedRead x n a) = false
is_write m (ReserveRead n a) = false
is_write m (ReserveWrite n a) = false
is_write m (Block n a) = false
is_write m (Release n a) = false
is_write m (Call args) = false
is_write m (SpecCall args) = false
is_write m (Verify last args) = false
is_write m SpecCheck = false
is_write m SpecBarrier = false
is_write m (AdviceBind x e) = false
is_write m (AdviceRead x _ a) = false
is_write m (AdviceWrite _ a e) = false

-- the release of the location in memory m whose address is variable a
abbrev pub is_release_at : ℕ → ℕ → Op → Bool
is_release_at m a op = on_release (λ n b. (n == m) && (b == a)) false op

-- a block or a read of m
abbrev pub looks_at : ℕ → Op → Bool
looks_at m (Block n a) = n == m
looks_at m (CombRead x n a) = n == m
looks_at m (DelayedRead x n a) = n == m
looks_at m (Bind x e) = false
looks_at m (Write n a e) = false
looks_at m (ReserveRead n a) = false
looks_at m (ReserveWrite n a) = false
looks_at m (Release n a) = false
looks_at m (Call args) = false
looks_at m (SpecCall args) = false
looks_at m (Verify last args) = false
looks_at m SpecCheck = false
looks_at m SpecBarrier = false
looks_at m (AdviceBind x e) = false
looks_at m (AdviceRead x _ a) = false
looks_at m (AdviceWrite _ a e) = false

-- a thread has released a write of m
abbrev pub has_released : ℕ → Pipe → Live → Bool
has_released m p l = has_done (is_write_reserve m) p l && not (holds_mem m p l)

-- TURNS

-- a live thread that follows the turn which begins with these arrays and arguments
pub record Follower : Type 0 where
  pub live : Live
  pub arrays : Arrays
  pub args : List ℕ

-- its present guess is other arguments than its turn passes on, and it hasn't verified them
abbrev pub guessed_wrong : Pipe → List ℕ → Live → Bool
guessed_wrong p next l = has_done is_spec_call p l && not (has_done is_verify p l) && not (same_args l.thread.guess next)

-- t_1 to t_f: the live threads, one turn each, up to the first with a wrong guess
abbrev pub followers_of : Pipe → Arrays → List ℕ → List Live → List Follower
followers_of p arrays args [] = []
followers_of p arrays args (l ∷ ls) =
    record { live = l; arrays = arrays; args = args }
    ∷ (if guessed_wrong p (thread p arrays args).next l then [] else followers_of p (thread p arrays args).arrays (thread p arrays args).next ls)

-- the live threads after the first with a wrong guess
abbrev pub strays_of : Pipe → Arrays → List ℕ → List Live → List Live
strays_of p arrays args [] = []
strays_of p arrays args (l ∷ ls) =
    if guessed_wrong p (thread p arrays args).next l then ls else strays_of p (thread p arrays args).arrays (thread p arrays args).next ls

-- the followers of a state in which n threads have ended
abbrev pub followers : Pipe → Arrays → ℕ → State → List Follower
followers p image n st = followers_of p (after_turns p image n).arrays (after_turns p image n).next (live st)

-- the live threads after the followers, of a state in which n threads have ended
abbrev pub strays : Pipe → Arrays → ℕ → State → List Live
strays p image n st = strays_of p (after_turns p image n).arrays (after_turns p image n).next (live st)

-- the whole turn of a follower
abbrev pub turn_of : Pipe → Follower → Run
turn_of p f = thread p f.arrays f.args

-- the writes to m of a follower's whole turn
abbrev pub turn_writes : ℕ → Pipe → Follower → List Commit
turn_writes m p f = of_mem m (turn_of p f).writes

-- a follower's turn before the stage in which it stands
abbrev pub turn_so_far : Pipe → Follower → Run
turn_so_far p f =
    run_all (stages_before f.live.stage p.stmts)
    (record { arrays = f.arrays; env = start_env p f.args; writes = []; next = [] })

-- 1. ORDER. Of two live threads the older stands in the greater stage, or they stand in the two branches of some fork

-- whether two branches are the two of one fork
abbrev pub other_branch : Branch → Branch → Bool
other_branch a b = (a.fork == b.fork) && (if a.first then not b.first else b.first)

-- whether two stages stand in the two branches of some fork, by the branches that each stands in
abbrev pub are_apart : List Branch → List Branch → Bool
are_apart older younger = list_any (λ a. list_any (other_branch a) younger) older

-- the younger thread stands in an earlier stage, or in the other branch of a fork
abbrev pub is_behind : Pipe → Live → Live → Bool
is_behind p older younger =
    nat_lt younger.stage older.stage || are_apart (stage_at p older.stage).branches (stage_at p younger.stage).branches

-- a fork's list holds the branches of just the threads inside, oldest first
abbrev pub sides_in : Pipe → ℕ → List Live → List Bool
sides_in p f [] = []
sides_in p f (l ∷ ls) = sides_of f (stage_at p l.stage).branches ++ sides_in p f ls

-- two lists of branches are the same
abbrev pub same_sides : List Bool → List Bool → Bool
same_sides [] [] = true
same_sides (a ∷ xs) (b ∷ ys) = (if a then b else not b) && same_sides xs ys
same_sides _ _ = false

-- point 1: the live threads are in order, and each fork's list has their branches
abbrev pub in_order : Pipe → State → Bool
in_order p st =
    all_pairs (λ older younger. nat_lt older.thread.number younger.thread.number && is_behind p older younger) (live st)
    && all_from (λ f. same_sides (fork_of st f) (sides_in p f (live st))) 0 p.stages

-- 2. CHAIN. At least one thread lives; each but the youngest has made its successor, the youngest hasn't

-- point 2: of these threads, at least one, each but the last has made its successor, the last hasn't
abbrev pub are_linked : Pipe → List Live → Bool
are_linked p [] = false
are_linked p (l ∷ []) = not (has_done is_call p l)
are_linked p (l ∷ k ∷ ls) = has_done is_call p l && are_linked p (k ∷ ls)

-- 3. VALUES. A follower's values, the advised ones apart, once its awaited reads are answered, are those of its turn, and so are the addresses that it awaits

-- the address of a request, 0 where there is none
abbrev pub request_address : Request → ℕ
request_address NoRequest = 0
request_address (Owned owner a) = a
request_address (Orphan a) = a

-- what an awaited read will keep: the word at the address that was asked
abbrev pub awaited_word : State → Awaited → Kept
awaited_word st r = record { var = r.var; word = word_at st.arrays r.mem (request_address (request_of st r.mem)) }

-- the answers that awaited reads will have
abbrev pub awaited_words : State → List Awaited → List Kept
awaited_words st [] = []
awaited_words st (r ∷ rs) = awaited_word st r ∷ awaited_words st rs

-- a thread's values once its awaited reads are answered
abbrev pub once_answered : State → Thread → List ℕ
once_answered st t = with_kept (awaited_words st t.awaits) (with_kept t.kept t.env)

-- a delayed read of memory m that binds x, at this address by these values
abbrev pub has_asked : List ℕ → ℕ → ℕ → ℕ → Op → Bool
has_asked env x m address op = on_delayed_read (λ y n a. (y == x) && (n == m) && (slice_index env a == address)) false op

-- point 3 of a follower: its values, and the addresses that it awaits, are those of its turn
abbrev pub follows_values : Pipe → State → Follower → Bool
follows_values p st f =
    same_args (once_answered st f.live.thread) (turn_so_far p f).env
    && list_all (λ r. has_done (has_asked (turn_so_far p f).env r.var r.mem (request_address (request_of st r.mem))) p f.live) f.live.thread.awaits

-- 4. PENDING WRITES. A lock's list has one entry for each location that a live thread holds for writing, in thread order

-- the thread's number, once for each of these locations that is in memory m
abbrev pub held_of : ℕ → ℕ → List HeldLocation → List ℕ
held_of m thread [] = []
held_of m thread (h ∷ hs) = if h.mem == m then thread ∷ held_of m thread hs else held_of m thread hs

-- for each location of memory m that these threads hold for writing, the number of its thread
abbrev pub holders : Pipe → ℕ → List Live → List ℕ
holders p m [] = []
holders p m (l ∷ ls) = held_of m l.thread.number (held_places p l) ++ holders p m ls

-- the numbers of the threads of pending writes
abbrev pub owners : List Pending → List ℕ
owners [] = []
owners (e ∷ es) = e.thread ∷ owners es

-- a thread's entries, in order
abbrev pub entries_by : ℕ → List Pending → List Pending
entries_by thread [] = []
entries_by thread (e ∷ es) = if e.thread == thread then e ∷ entries_by thread es else entries_by thread es

-- whether an entry's value, where it has one, is this
abbrev pub has_value : Option ℕ → ℕ → Bool
has_value None v = false
has_value (Some w) v = w == v

-- whether an entry has the address of a write and, once that is made, its value
abbrev pub is_right_entry : Bool → Commit → Pending → Bool
is_right_entry written c e =
    (e.address == c.address) && (if written then has_value e.value c.value else is_none e.value)

-- whether entries are those of these writes, of which the first k are made
abbrev pub are_right : ℕ → List Commit → List Pending → Bool
are_right k (c ∷ cs) (e ∷ es) = is_right_entry (nat_lt 0 k) c e && are_right (k - 1) cs es
are_right k [] [] = true
are_right k _ _ = false

-- how many writes of m a thread has made in its earlier stages
abbrev pub writes_done : ℕ → Pipe → Live → ℕ
writes_done m p l = count_by (λ (x : Stmt). is_write m x.op) (past_stmts p l)

-- whether a follower that has entries of memory m has those of its turn's writes
abbrev pub right_entries : Pipe → State → ℕ → Follower → Bool
right_entries p st m f =
    (length (entries_by f.live.thread.number (lock_of st m)) == 0)
    || are_right (writes_done m p f.live) (turn_writes m p f) (entries_by f.live.thread.number (lock_of st m))

-- point 4 of memory m: its list has an entry for each location held, and those of followers are right
abbrev pub pending_right : Pipe → Arrays → ℕ → State → ℕ → Bool
pending_right p image n st m =
    same_args (owners (lock_of st m)) (holders p m (live st)) && list_all (right_entries p st m) (followers p image n st)

-- 5. ARRAYS. An array that isn't advisory is the image with, in order, the writes of the ended turns and the released ones of followers; no later thread has released a write

-- the writes to m that followers have released, in order
abbrev pub released_by : ℕ → Pipe → List Follower → List Commit
released_by m p [] = []
released_by m p (f ∷ fs) = (if has_released m p f.live then turn_writes m p f else []) ++ released_by m p fs

-- the array of a memory has what the ended threads wrote and what followers have released, and no stray has released a write
abbrev pub array_right : Pipe → Arrays → ℕ → State → ℕ → ℕ → Bool
array_right p image n st m depth =
    all_below (λ a. word_at st.arrays m a == wrote (row image m) (seqwrites p image m n ++ released_by m p (followers p image n st)) a) depth
    && list_all (λ l. not (has_released m p l)) (strays p image n st)

-- point 5 of the memories from number m on
abbrev pub arrays_right : Pipe → Arrays → ℕ → State → ℕ → List Mem → Bool
arrays_right p image n st m [] = true
arrays_right p image n st m (x ∷ xs) = (is_advisory x.kind || array_right p image n st m x.depth) && arrays_right p image n st (suc m) xs

-- 6. CERTAINTY. A thread that has moved on from a barrier, or stands after V, has only older threads that stand after V

-- point 6 of two threads: where the younger is past a barrier or V, the older stands after V
abbrev pub certain_after : Pipe → Option ℕ → Live → Live → Bool
certain_after p None older younger = true
certain_after p (Some v) older younger = not (nat_lt v younger.stage || has_done is_barrier p younger) || nat_lt v older.stage

-- 7. REQUESTS. What a thread asked for in its last stage is kept, or awaited with its request outstanding

-- there is a number, and it passes the test
abbrev pub one_of : (ℕ → Bool) → Option ℕ → Bool
one_of test None = false
one_of test (Some q) = test q

-- whether a statement's next stage is the one in which the thread stands
abbrev pub is_here : Pipe → Live → Stmt → Bool
is_here p l x = one_of (λ q. q == l.stage) (goes_to (stage_at p x.stage).next l.thread.env)

-- a request is this thread's
abbrev pub is_owner : ℕ → Request → Bool
is_owner thread NoRequest = false
is_owner thread (Owned owner a) = owner == thread
is_owner thread (Orphan a) = false

-- a delayed read has its answer kept or awaited; any other statement passes
abbrev pub is_kept_or_awaited : Thread → Op → Bool
is_kept_or_awaited t op =
    on_delayed_read (λ x m a. list_any (λ k. k.var == x) t.kept || list_any (λ r. (r.var == x) && (r.mem == m)) t.awaits) true op

-- a delayed read of any memory
abbrev pub is_fetch : Op → Bool
is_fetch op = on_delayed_read (λ x m a. true) false op

-- point 7 of a live thread: just what it asked for in its last stage is kept or awaited
abbrev pub asks_right : Pipe → State → Live → Bool
asks_right p st l =
    list_all (λ x. not (is_here p l x) || is_kept_or_awaited l.thread x.op) (past_stmts p l)
    && list_all (λ r. is_owner l.thread.number (request_of st r.mem)) l.thread.awaits
    && (length l.thread.awaits + length l.thread.kept == count_by (λ (x : Stmt). is_here p l x && is_fetch x.op) (past_stmts p l))

-- whether an outstanding request of m, if it is no orphan, is awaited by its owner
abbrev pub has_owner : State → ℕ → Request → Bool
has_owner st m NoRequest = true
has_owner st m (Owned owner a) = list_any (λ l. (l.thread.number == owner) && list_any (λ r. r.mem == m) l.thread.awaits) (live st)
has_owner st m (Orphan a) = true

-- 8. READS BEFORE COMMITS. While a thread has a block or a read of m to do, or a read of m to bind, no younger one has released a write of m

-- a delayed read of memory m
abbrev pub is_delayed_read : ℕ → Op → Bool
is_delayed_read m op = on_delayed_read (λ x n a. n == m) false op

-- a follower has a block or a read of m to do, or a read of m to bind
abbrev pub still_looks : ℕ → Pipe → Follower → Bool
still_looks m p f =
    list_any (λ x. looks_at m x.op) (onpath (turn_of p f).env (stages_from f.live.stage p.stmts))
    || list_any (λ x. is_here p f.live x && is_delayed_read m x.op) (past_stmts p f.live)

-- 9. BLOCKS. A block that a live thread has moved on from is still ready for it until it releases that location

-- point 9 of a statement: a block is still ready until the thread releases its location
abbrev pub stays_ready : Pipe → State → Live → Op → Bool
stays_ready p st l op =
    on_block (λ m a. has_done (is_release_at m a) p l
    || block_ready p st l.thread.number (record { mem = m; address = slice_index l.thread.env a; writes = is_held (held_places p l) m a }))
    true op

-- WHAT THE INDUCTION NEEDS BESIDE. A thread stands on a stage of its path, and has done just what the statements of its earlier stages say

-- the path leads from stage s to stage q, with fewer steps than the limit
abbrev pub comes_to : Pipe → List ℕ → ℕ → ℕ → ℕ → Bool
comes_to p path q zero s = false
comes_to p path q (suc limit) s = (s == q) || one_of (comes_to p path q limit) (goes_to (stage_at p s).next path)

-- what a binding says is so in the thread's values; any other statement passes
abbrev pub is_done : State → Live → Op → Bool
is_done st l (Bind x e) = slice_index l.thread.env x == value_of e l.thread.env
is_done st l (CombRead x m a) = true
is_done st l (DelayedRead x m a) = true
is_done st l (Write m a e) = true
is_done st l (ReserveRead m a) = true
is_done st l (ReserveWrite m a) = true
is_done st l (Block m a) = true
is_done st l (Release m a) = true
is_done st l (Call args) = true
is_done st l (SpecCall args) = true
is_done st l (Verify last args) = true
is_done st l SpecCheck = true
is_done st l SpecBarrier = true
is_done st l (AdviceBind x e) = true
is_done st l (AdviceRead x m a) = true
is_done st l (AdviceWrite m a e) = true

-- the present guess is that of the last statement that gave one
abbrev pub guess_after : Op → List Kept → List ℕ → List ℕ → List ℕ
guess_after (SpecCall args) advice env guess = values_of args (with_kept advice env)
guess_after (Verify true args) advice env guess = values_of args env
guess_after (Verify false args) advice env guess = values_of args (with_kept advice env)
guess_after (Bind x e) advice env guess = guess
guess_after (CombRead x m a) advice env guess = guess
guess_after (DelayedRead x m a) advice env guess = guess
guess_after (Write m a e) advice env guess = guess
guess_after (ReserveRead m a) advice env guess = guess
guess_after (ReserveWrite m a) advice env guess = guess
guess_after (Block m a) advice env guess = guess
guess_after (Release m a) advice env guess = guess
guess_after (Call args) advice env guess = guess
guess_after SpecCheck advice env guess = guess
guess_after SpecBarrier advice env guess = guess
guess_after (AdviceBind x e) advice env guess = guess
guess_after (AdviceRead x m a) advice env guess = guess
guess_after (AdviceWrite m a e) advice env guess = guess

-- the present guess after these statements
abbrev pub guess_of : List Stmt → List Kept → List ℕ → List ℕ → List ℕ
guess_of [] advice env guess = guess
guess_of (x ∷ xs) advice env guess = guess_of xs advice env (guess_after x.op advice env guess)

-- the memory of a location that a thread holds has a pending write of the thread at its address
abbrev pub right_place : State → Live → HeldLocation → Bool
right_place st l h = list_any (λ e. (e.thread == l.thread.number) && ((e.var == h.var) && (e.address == slice_index l.thread.env h.var))) (lock_of st h.mem)

-- a thread stands on a stage of its path, and has done what the statements of its earlier stages say
abbrev pub on_path : Pipe → State → Live → Bool
on_path p st l =
    comes_to p l.thread.env l.stage (length p.stages) 0 && list_all (λ x. is_done st l x.op) (past_stmts p l)
    && same_args l.thread.guess (guess_of (past_stmts p l) l.thread.advice l.thread.env [])
    && list_all (right_place st l) (held_places p l) && nat_lt l.thread.number st.next

-- THE WHOLE, of a state that a run from this image comes to, in which n threads have ended
abbrev pub is_sound : Pipe → Arrays → ℕ → State → Bool
is_sound p image n st =
    in_order p st
    && are_linked p (live st)
    && list_all (follows_values p st) (followers p image n st)
    && all_from (pending_right p image n st) 0 p.mems
    && arrays_right p image n st 0 p.mems
    && all_pairs (certain_after p (verify_stage p.stmts)) (live st)
    && list_all (asks_right p st) (live st)
    && all_from (λ m. has_owner st m (request_of st m)) 0 p.mems
    && all_from (λ m. all_pairs (λ older younger. not (still_looks m p older && has_released m p younger.live)) (followers p image n st)) 0 p.mems
    && list_all (λ l. list_all (λ x. stays_ready p st l x.op) (past_stmts p l)) (live st)
    && list_all (on_path p st) (live st)

-- the state is sound, as one that this run comes to after n threads have ended
abbrev pub Sound : Pipe → Arrays → ℕ → State → Type 0
Sound p image n st = IsTrue (is_sound p image n st)
