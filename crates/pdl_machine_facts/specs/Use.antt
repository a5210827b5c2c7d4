-- How the threads of a pipe use the locks, in each state of a run.
use Rattle.std.specs.Prelude.{◌≡◌, ℕ, ◌+◌, ◌≤◌, ◌<◌, Bool, true, false, IsTrue, List, [], ◌∷◌, Some, None, length, slice_index, nat_le, if◌then◌else◌, Contains, ⊤}
use Rattle.pdl_semantics.specs.Flat.{Expr, Op, Bind, CombRead, DelayedRead, Write, ReserveRead, ReserveWrite, Block, Release, Call, SpecCall, Verify, SpecCheck, SpecBarrier, AdviceBind, AdviceRead, AdviceWrite, Stmt, Plain, Pipe, all_hold}
use Rattle.pdl_semantics.specs.Stages.{in_stage, mem_at, reserve_stage, commit_stage, verify_stage}
use Rattle.pdl_semantics.specs.Locks.{read_ready, has_room}
use Rattle.pdl_semantics.specs.Machine.{Thread, State, lock_of, Deeds, deeds, deeds_after, held_before, is_held, let_go, with_kept, older_write, word_for}
use Rattle.pdl_semantics.specs.Moves.{next_stage}
use Rattle.pdl_semantics.specs.Cycle.{is_stage, with_reserves, all_releases, list_two, list_three}
use Rattle.pdl_lockapi.specs.Forget.{has_place, IsOnce, addresses}
use Rattle.pdl_machine_facts.specs.Slots.{slot, here, stage_moves, locks_ready, moving}
use Rattle.pdl_semantics.specs.PendingLists.{AreOrdered, count_older, AreWritten}

-- a thread before the statements of its stage
abbrev pub before_stage : Pipe → ℕ → Thread → Deeds
before_stage p k t =
    record {
      env = with_kept t.kept t.env;
      advice = t.advice;
      guess = t.guess;
      held = held_before k t.env p.stmts [];
      blocks = [];
      reserves = [];
      writes = [];
      releases = [];
      asks = [];
      advises = [];
      barrier = false;
      child = None;
      fails = false;
    }

-- whether a statement looks at a memory or writes it in a stage no later than that of its releases
abbrev pub in_time : Pipe → ℕ → Op → Bool
in_time p k (Bind _ _) = true
in_time p k (CombRead y m a) = nat_le k (commit_stage p m)
in_time p k (DelayedRead _ _ _) = true
in_time p k (Write m a e) = nat_le k (commit_stage p m)
in_time p k (ReserveRead _ _) = true
in_time p k (ReserveWrite _ _) = true
in_time p k (Block m a) = nat_le k (commit_stage p m)
in_time p k (Release _ _) = true
in_time p k (Call _) = true
in_time p k (SpecCall _) = true
in_time p k (Verify _ _) = true
in_time p k SpecCheck = true
in_time p k SpecBarrier = true
in_time p k (AdviceBind _ _) = true
in_time p k (AdviceRead _ _ _) = true
in_time p k (AdviceWrite _ _ _) = true

-- whether a statement that looks at a memory or writes it stands no later than the stage of its releases
abbrev pub is_early : Pipe → Stmt → Bool
is_early p x = in_time p x.stage x.op

-- a guess that is verified in stage k with these arguments has as many, it hasn't failed before, and k is V
pub record IsGuessFine (p : Pipe) (k : ℕ) (args : List Expr) (d : Deeds) : Type 0 where
  pub long : length d.guess ≡ length args
  pub calm : d.fails ≡ false
  pub stands : verify_stage p.stmts ≡ Some k

-- a guess that is updated in stage k with these arguments has as many, and k is before V
pub record IsUpdateFine (p : Pipe) (k : ℕ) (args : List Expr) (d : Deeds) : Type 0 where
  pub long : length d.guess ≡ length args
  pub early : (v : ℕ) × (verify_stage p.stmts ≡ Some v) × (k < v)

-- in stage k a read is ready, what is released is held no more, and a verify or an update has as many arguments as the guess
abbrev pub IsOpFine : Pipe → State → (thread k : ℕ) → Op → Deeds → Type 0
IsOpFine p st thread k (Bind _ _) d = ⊤
IsOpFine p st thread k (CombRead x m a) d = IsTrue (read_ready (mem_at p m).lock (older_write st thread m (slice_index d.env a)))
IsOpFine p st thread k (DelayedRead _ _ _) d = ⊤
IsOpFine p st thread k (Write _ _ _) d = ⊤
IsOpFine p st thread k (ReserveRead _ _) d = ⊤
IsOpFine p st thread k (ReserveWrite _ _) d = ⊤
IsOpFine p st thread k (Block _ _) d = ⊤
IsOpFine p st thread k (Release m a) d = is_held (let_go d.held m a) m a ≡ false
IsOpFine p st thread k (Call _) d = ⊤
IsOpFine p st thread k (SpecCall _) d = ⊤
IsOpFine p st thread k (Verify true args) d = IsGuessFine p k args d
IsOpFine p st thread k (Verify false args) d = IsUpdateFine p k args d
IsOpFine p st thread k SpecCheck d = ⊤
IsOpFine p st thread k SpecBarrier d = ⊤
IsOpFine p st thread k (AdviceBind _ _) d = ⊤
IsOpFine p st thread k (AdviceRead _ _ _) d = ⊤
IsOpFine p st thread k (AdviceWrite _ _ _) d = ⊤

-- after these deeds each statement on the thread's path is early and fine, as long as the locks let the thread move so far
abbrev pub AreFine : Pipe → State → ℕ → List Stmt → Deeds → Type 0
AreFine p st thread [] d = ⊤
AreFine p st thread (x ∷ xs) d =
    (all_hold x.guards d.env ≡ true → locks_ready p st thread d ≡ true → (is_early p x ≡ true) × IsOpFine p st thread x.stage x.op d)
    × AreFine p st thread xs (if all_hold x.guards d.env then deeds_after (word_for st thread) x.op d else d)

-- the threads of a state use the locks as the rules have it, in a cycle with these replies
pub record IsInUse (p : Pipe) (st : State) (bits : List Bool) : Type 0 where
  pub count : length st.stages ≡ length p.stages
  -- a memory without lock has no pending writes, and none is released
  pub plain : (m : ℕ) → (mem_at p m).lock ≡ Plain → lock_of st m ≡ []
  pub unreleased : (m : ℕ) → (mem_at p m).lock ≡ Plain → all_releases m (moving p st bits) ≡ 0
  -- pending writes stand in the order of their threads, also with those that this cycle appends, of which there are at most two
  pub ordered : (m : ℕ) → AreOrdered 0 (lock_of st m)
  pub ordered_next : (m : ℕ) → AreOrdered 0 (with_reserves m (moving p st bits) (lock_of st m))
  pub two : (m : ℕ) → m < length p.mems → length (addresses m (moving p st bits)) ≤ 2
  -- a lock has room for what the cycle appends, all of it together
  pub room : (m : ℕ) → 1 ≤ length (addresses m (moving p st bits))
      → has_room (mem_at p m).lock (length (addresses m (moving p st bits))) (length (lock_of st m)) ≡ true
  -- a thread that has come to no reserve of the memory finds all pending writes older
  pub unreserved : (k : ℕ) (t : Thread) (m : ℕ) → slot st k ≡ Some t → k ≤ reserve_stage p m → count_older t.number (lock_of st m) ≡ length (lock_of st m)
  -- a thread that writes has one pending write of the location, with what this cycle appends, of which it finds none older
  pub writer : (k : ℕ) (t : Thread) (m y v : ℕ) → here p st bits k ≡ Some t → stage_moves p st bits k ≡ true
      → Contains (deeds p st k t).writes (record { mem = m; var = y; value = v })
      → (k ≤ commit_stage p m) × (has_place t.number y (with_reserves m (moving p st bits) (lock_of st m)) ≡ true)
      × IsOnce t.number y (with_reserves m (moving p st bits) (lock_of st m))
      × (count_older t.number (with_reserves m (moving p st bits) (lock_of st m)) ≡ count_older t.number (lock_of st m))
  pub after : (k : ℕ) (t : Thread) (m : ℕ) → slot st k ≡ Some t → reserve_stage p m ≤ k
      → count_older t.number (with_reserves m (moving p st bits) (lock_of st m)) ≡ count_older t.number (lock_of st m)
  -- what is released is pending, and has its value; at most two are released
  pub releaser : (m : ℕ) → AreWritten (all_releases m (moving p st bits)) (list_two st (moving p st bits) m)
  pub few : (m : ℕ) → m < length p.mems → all_releases m (moving p st bits) ≤ 2
  -- until a thread moves out of the stage of the releases, its place among the pending writes shifts at each release
  pub shifts : (k : ℕ) (t : Thread) (m : ℕ) → slot st k ≡ Some t → reserve_stage p m ≤ k → k ≤ commit_stage p m
      → (k ≡ commit_stage p m → stage_moves p st bits k ≡ false)
      → count_older t.number (list_three st (moving p st bits) m) + all_releases m (moving p st bits) ≡ count_older t.number (lock_of st m)
  -- what a thread holds as it leaves for a stage is told by the values with which it leaves
  pub held : (k q : ℕ) (t : Thread) → here p st bits k ≡ Some t → is_stage q (next_stage p k (deeds p st k t)) ≡ true
      → (deeds p st k t).held ≡ held_before q (deeds p st k t).env p.stmts []
  -- a block that a thread has passed stays ready, so each of its reads is ready
  pub fine : (k : ℕ) (t : Thread) → here p st bits k ≡ Some t → AreFine p st t.number (in_stage k p.stmts) (before_stage p k t)
