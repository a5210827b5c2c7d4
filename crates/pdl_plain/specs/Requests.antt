-- The request of a delayed memory after a cycle, by cases.
use Rattle.std.specs.Prelude.{◌≡◌, ℕ, ◌<◌, Bool, true, false, ◌==◌, nat_lt, List, [], ◌∷◌, ◌++◌, Option, Some, None, if◌then◌else◌, length}
use Rattle.pdl_semantics.specs.Flat.{Pipe}
use Rattle.pdl_semantics.specs.Machine.{Ask, Request, NoRequest, Owned, Orphan, State, request_of, is_answered}
use Rattle.pdl_semantics.specs.Moves.{Act, movers}
use Rattle.pdl_semantics.specs.Cycle.{squasher, after_acts}

-- a request that a thread makes: the thread's number, and the address
pub record New : Type 0 where
  pub thread : ℕ
  pub address : ℕ

-- the requests that a thread's delayed reads make of memory m
abbrev pub made_by : ℕ → ℕ → List Ask → List New
made_by m thread [] = []
made_by m thread (q ∷ qs) = (if q.mem == m then record { thread = thread; address = q.address } ∷ [] else []) ++ made_by m thread qs

-- those that the threads make which move
abbrev pub made : ℕ → List Act → List New
made m [] = []
made m (a ∷ ms) = made_by m a.thread.number a.does.asks ++ made m ms

-- whether a thread is younger than the one that squashes, if one does
abbrev pub is_removed : Option ℕ → ℕ → Bool
is_removed None thread = false
is_removed (Some squasher) thread = nat_lt squasher thread

-- a thread's request, which is an orphan's where the thread is removed
abbrev pub of_thread : (ℕ → Bool) → ℕ → ℕ → Request
of_thread removed thread address = if removed thread then Orphan address else Owned thread address

-- the request of a memory after a cycle: the new one, if one is made. Else none where it is answered, and else the old one. A thread that is removed leaves an orphan
abbrev pub request_after : Request → Bool → List New → (ℕ → Bool) → Request
request_after old answered (new ∷ more) removed = of_thread removed new.thread new.address
request_after old true [] removed = NoRequest
request_after NoRequest false [] removed = NoRequest
request_after (Owned thread address) false [] removed = of_thread removed thread address
request_after (Orphan address) false [] removed = Orphan address

-- a cycle of these acts leaves this of each memory's request
abbrev pub LeavesRequest : Type 0
LeavesRequest = (p : Pipe) (st : State) (bits : List Bool) (these : List Act) (m : ℕ) → m < length p.mems
    → request_of (after_acts p st bits these) m
    ≡ request_after (request_of st m) (is_answered p bits m) (made m (movers these)) (is_removed (squasher (movers these)))
