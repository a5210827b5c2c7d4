-- How the threads use the locks, in each state of a run of any pipe: with guesses and squashes, forks, and delayed memories.
use Rattle.std.specs.Prelude.{◌≡◌, ℕ, suc, ◌+◌, ◌≤◌, Bool, false, List, [], ◌∷◌, Some, length, if◌then◌else◌, ◌==◌}
use Rattle.pdl_semantics.specs.Flat.{Pipe}
use Rattle.pdl_semantics.specs.Stages.{reserve_stage, commit_stage, verify_stage}
use Rattle.pdl_semantics.specs.Machine.{State, Pending, reserves_of, lock_of}
use Rattle.pdl_semantics.specs.Moves.{Act, all_acts, movers}
use Rattle.pdl_semantics.specs.Cycle.{with_reserves, all_releases, list_two, list_three}
use Rattle.pdl_semantics.specs.PendingLists.{AreOrdered, count_older, AreWritten}

-- THREADS

-- something that holds of each thread in a cycle
abbrev pub AllActs : (Act → Type 0) → List Act → Type 0
AllActs P [] = Unit {0}
AllActs P (a ∷ these) = P a × AllActs P these

-- until it has left the stage of the reserves, a thread finds all pending writes older
abbrev pub FindsOlder : State → ℕ → ℕ → Act → Type 0
FindsOlder st m r a = a.stage ≤ r → count_older a.thread.number (lock_of st m) ≡ length (lock_of st m)

-- A CYCLE

-- the threads that move
abbrev pub moving : Pipe → State → List Bool → List Act
moving p st bits = movers (all_acts p st bits)

-- a lock's list with what the cycle appends
abbrev pub with_new : Pipe → State → List Bool → ℕ → List Pending
with_new p st bits m = with_reserves m (moving p st bits) (lock_of st m)

-- a lock's list in a cycle after the reservations and the writes
abbrev pub with_values : Pipe → State → List Bool → ℕ → List Pending
with_values p st bits m = list_two st (moving p st bits) m

-- a lock's list in a cycle after the reservations, the writes and the release
abbrev pub with_release : Pipe → State → List Bool → ℕ → List Pending
with_release p st bits m = list_three st (moving p st bits) m

-- how many of these threads reserve writes of a memory
abbrev pub reserved_count : ℕ → List Act → ℕ
reserved_count m [] = 0
reserved_count m (a ∷ ms) = reserved_count m ms + (if reserves_of m a.does.reserves == 0 then 0 else 1)

-- a lock in a cycle: at most one thread reserves writes, and the list stays in order
pub record Reserves (p : Pipe) (st : State) (bits : List Bool) (m : ℕ) : Type 0 where
  pub one : reserved_count m (moving p st bits) ≤ 1
  pub ordered : AreOrdered 0 (with_new p st bits m)

-- a thread and a lock in a cycle. The thread's place among the pending writes is the number of those of older threads: from the stage of the reserves on nothing older is appended
abbrev pub KeepsPlace : Pipe → State → List Bool → ℕ → Act → Type 0
KeepsPlace p st bits m a = reserve_stage p m ≤ a.stage → count_older a.thread.number (with_new p st bits m) ≡ count_older a.thread.number (lock_of st m)

-- where writes of memory m are released in a cycle, as many of the oldest pending ones have their values
abbrev pub ReleasesWritten : Pipe → State → List Bool → ℕ → Type 0
ReleasesWritten p st bits m = AreWritten (all_releases m (moving p st bits)) (with_values p st bits m)

-- up to the stage of the releases, until the thread itself moves out of it, its place shifts by the writes that are released
abbrev pub ShiftsPlace : Pipe → State → List Bool → ℕ → Act → Type 0
ShiftsPlace p st bits m a =
    a.stage ≤ commit_stage p m → (a.stage ≡ commit_stage p m → a.moves ≡ false)
    → count_older a.thread.number (with_release p st bits m) + all_releases m (moving p st bits) ≡ count_older a.thread.number (with_new p st bits m)

-- up to V so does the place behind it, where its squash cuts the list, whoever releases
abbrev pub ShiftsTail : Pipe → State → List Bool → ℕ → Act → Type 0
ShiftsTail p st bits m a =
    (v : ℕ) → verify_stage p.stmts ≡ Some v → a.stage ≤ v
    → count_older (suc a.thread.number) (with_release p st bits m) + all_releases m (moving p st bits)
    ≡ count_older (suc a.thread.number) (with_new p st bits m)
