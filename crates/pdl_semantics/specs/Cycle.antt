-- What a cycle does, its ports, and whole runs. `these` are the acts of all threads, `ms` those of the threads that move.
use Rattle.std.specs.Prelude.{ℕ, suc, Bool, true, false, ◌&&◌, ◌||◌, not, List, [], ◌∷◌, ◌++◌, Option, Some, None, is_some, is_none, if◌then◌else◌, nat_le, ◌==◌, ◌+◌, slice_index_or, take, drop}
use Rattle.pdl_semantics.specs.Flat.{Arrays, Mem, Stage, Pipe, start_env, with_word, Commit}
use Rattle.pdl_semantics.specs.Stages.{list_any, stage_at, merges_fork, is_inside, sides_of}
use Rattle.pdl_semantics.specs.Locks.{commit_value}
use Rattle.pdl_semantics.specs.Machine.{Advised, Ask, Awaited, Thread, Pending, Request, NoRequest, Owned, Orphan, State, lock_of, fork_of, request_of, Reserved, Written, is_answered}
use Rattle.pdl_semantics.specs.Moves.{Act, next_stage, all_acts, movers}

-- 1. reservations for writing append an entry without a value
abbrev pub new_entries : ℕ → ℕ → List Reserved → List Pending
new_entries m thread [] = []
new_entries m thread (r ∷ rs) =
    (if r.mem == m then record { thread = thread; var = r.var; address = r.address; value = None } ∷ [] else [])
    ++ new_entries m thread rs

-- a lock's list with the entries of all write reservations that are made
abbrev pub with_reserves : ℕ → List Act → List Pending → List Pending
with_reserves m [] list = list
with_reserves m (a ∷ ms) list = with_reserves m ms list ++ new_entries m a.thread.number a.does.reserves

-- 2. each write puts its value into the entry of its own reservation
abbrev pub with_value_of : ℕ → ℕ → ℕ → List Pending → List Pending
with_value_of thread x v [] = []
with_value_of thread x v (e ∷ es) =
    (if (e.thread == thread) && (e.var == x) then record e { value = Some v } else e) ∷ with_value_of thread x v es

-- a lock's list with the values that one thread writes
abbrev pub with_writes_of : ℕ → ℕ → List Written → List Pending → List Pending
with_writes_of m thread [] list = list
with_writes_of m thread (w ∷ ws) list = with_writes_of m thread ws (if w.mem == m then with_value_of thread w.var w.value list else list)

-- a lock's list with the values that all threads write which move
abbrev pub with_all_writes : ℕ → List Act → List Pending → List Pending
with_all_writes m [] list = list
with_all_writes m (a ∷ ms) list = with_writes_of m a.thread.number a.does.writes (with_all_writes m ms list)

-- 3. the releases of write reservations take as many of the oldest entries out: how many of these releases are of m
abbrev pub releases_of : ℕ → List ℕ → ℕ
releases_of m [] = 0
releases_of m (n ∷ ns) = if n == m then suc (releases_of m ns) else releases_of m ns

-- how many write reservations of m the threads release which move
abbrev pub all_releases : ℕ → List Act → ℕ
all_releases m [] = 0
all_releases m (a ∷ ms) = all_releases m ms + releases_of m a.does.releases

-- a lock's list after steps 1 and 2
abbrev pub list_two : State → List Act → ℕ → List Pending
list_two st ms m = with_all_writes m ms (with_reserves m ms (lock_of st m))

-- a lock's list after step 3
abbrev pub list_three : State → List Act → ℕ → List Pending
list_three st ms m = drop (all_releases m ms) (list_two st ms m)

-- the entries that step 3 takes out, the oldest first
abbrev pub taken_out : State → List Act → ℕ → List Pending
taken_out st ms m = take (all_releases m ms) (list_two st ms m)

-- the arrays, with the values of the writes that are taken out of the lock of m, one after the other
abbrev pub with_commit : Arrays → ℕ → List Pending → Arrays
with_commit arrays m [] = arrays
with_commit arrays m (e ∷ es) = with_commit (with_word arrays m e.address (commit_value e.value)) m es

-- the arrays with what the releases put into them, of the memories from number m on
abbrev pub with_commits : State → List Act → ℕ → List Mem → Arrays → Arrays
with_commits st ms m [] arrays = arrays
with_commits st ms m (x ∷ xs) arrays = with_commits st ms (suc m) xs (with_commit arrays m (taken_out st ms m))

-- the arrays after these advisory writes of one thread, in text order
abbrev pub with_advised : List Advised → Arrays → Arrays
with_advised [] arrays = arrays
with_advised (w ∷ ws) arrays = with_advised ws (with_word arrays w.mem w.address w.value)

-- then the advisory writes come, those of the greatest stage first and within a stage in text order: of two writes of one word the last one holds
abbrev pub with_all_advised : List Act → Arrays → Arrays
with_all_advised [] arrays = arrays
with_all_advised (a ∷ ms) arrays = with_advised a.does.advises (with_all_advised ms arrays)

-- 4. who moves from a fork into a branch appends it to the fork's list; who moves from a branch into the merge takes the first out
abbrev pub goes_into : Pipe → ℕ → Option ℕ → List Bool
goes_into p f None = []
goes_into p f (Some q) = sides_of f (stage_at p q).branches

-- the branches of fork f that are entered by the threads which move from it
abbrev pub entered_branches : Pipe → ℕ → List Act → List Bool
entered_branches p f [] = []
entered_branches p f (a ∷ ms) = entered_branches p f ms ++ (if a.stage == f then goes_into p f (next_stage p a.stage a.does) else [])

-- whether the next stage is there and merges fork f
abbrev pub goes_out : Pipe → ℕ → Option ℕ → Bool
goes_out p f None = false
goes_out p f (Some q) = merges_fork (stage_at p q).merges f

-- whether a thread moves from a branch of fork f into the merge
abbrev pub has_left : Pipe → ℕ → List Act → Bool
has_left p f ms = list_any (λ a. is_inside p f a.stage && goes_out p f (next_stage p a.stage a.does)) ms

-- a fork's list without its first branch
abbrev pub but_first : List Bool → List Bool
but_first [] = []
but_first (b ∷ bs) = bs

-- a fork's list after step 4
abbrev pub fork_next : Pipe → State → List Act → ℕ → List Bool
fork_next p st ms f = (if has_left p f ms then but_first (fork_of st f) else fork_of st f) ++ entered_branches p f ms

-- 5. who moves stands in its next stage, and ends after the last; who doesn't move stays
abbrev pub awaited_of : List Ask → List Awaited
awaited_of [] = []
awaited_of (q ∷ qs) = record { mem = q.mem; var = q.var } ∷ awaited_of qs

-- a thread that has moved, as it stands in its next stage
abbrev pub thread_after : Act → Thread
thread_after a =
    record { number = a.thread.number; env = a.does.env; advice = a.does.advice; guess = a.does.guess; awaits = awaited_of a.does.asks; kept = [] }

-- whether a next stage is there and is stage q
abbrev pub is_stage : ℕ → Option ℕ → Bool
is_stage q None = false
is_stage q (Some r) = r == q

-- the thread of an act, if it moves into stage q, or stands there and does not move
abbrev pub coming_thread : Pipe → ℕ → Act → Option Thread
coming_thread p q a =
    if a.moves
    then (if is_stage q (next_stage p a.stage a.does) then Some (thread_after a) else None)
    else (if a.stage == q then Some a.thread else None)

-- the first of two threads, and the second where there is no first
abbrev pub or_then : Option Thread → Option Thread → Option Thread
or_then None k = k
or_then (Some t) k = Some t

-- the thread that stands in stage q after all moves, if one does
abbrev pub next_thread : Pipe → ℕ → List Act → Option Thread
next_thread p q [] = None
next_thread p q (a ∷ these) = or_then (coming_thread p q a) (next_thread p q these)

-- the requests: an answered one is over, a new one is its maker's
abbrev pub asked_of : ℕ → ℕ → List Ask → Request → Request
asked_of m thread [] old = old
asked_of m thread (q ∷ qs) old = if q.mem == m then Owned thread q.address else asked_of m thread qs old

-- the request of memory m after the new ones of the threads that move
abbrev pub asked_by : ℕ → List Act → Request → Request
asked_by m [] old = old
asked_by m (a ∷ ms) old = asked_of m a.thread.number a.does.asks (asked_by m ms old)

-- the request of memory m after a cycle's answers and new requests, before a squash
abbrev pub request_next : Pipe → State → List Bool → List Act → ℕ → Request
request_next p st bits ms m = asked_by m ms (if is_answered p bits m then NoRequest else request_of st m)

-- 6. a squash: the number of the thread that moves with a failing verify or a changing update
abbrev pub squasher : List Act → Option ℕ
squasher [] = None
squasher (a ∷ ms) = if a.does.fails then Some a.thread.number else squasher ms

-- and its stage
abbrev pub squash_stage : List Act → Option ℕ
squash_stage [] = None
squash_stage (a ∷ ms) = if a.does.fails then Some a.stage else squash_stage ms

-- whether a squash keeps a thread: it removes every younger one
abbrev pub is_kept : Option ℕ → ℕ → Bool
is_kept None thread = true
is_kept (Some squasher) thread = nat_le thread squasher

-- a thread, if there is one and the squash keeps it
abbrev pub if_kept : Option ℕ → Option Thread → Option Thread
if_kept sq None = None
if_kept sq (Some t) = if is_kept sq t.number then Some t else None

-- a lock's list without the entries of the threads that a squash removes
abbrev pub entries_left : Option ℕ → List Pending → List Pending
entries_left sq [] = []
entries_left sq (e ∷ es) = if is_kept sq e.thread then e ∷ entries_left sq es else entries_left sq es

-- the lists of forks whose merge is its stage or before it become empty
abbrev pub merges_by : Pipe → ℕ → Option ℕ → Bool
merges_by p f None = false
merges_by p f (Some v) = list_any (λ x. merges_fork x.merges f) (take (suc v) p.stages)

-- what a squash leaves of the list of fork f
abbrev pub branches_left : Pipe → Option ℕ → ℕ → List Bool → List Bool
branches_left p at f list = if merges_by p f at then [] else list

-- an unanswered request of a removed thread becomes an orphan
abbrev pub request_left : Option ℕ → Request → Request
request_left sq (Owned owner a) = if is_kept sq owner then Owned owner a else Orphan a
request_left sq r = r

-- 7. the new thread stands in stage 0
abbrev pub child_of : List Act → Option (List ℕ)
child_of [] = None
child_of (a ∷ ms) = if is_some a.does.child then a.does.child else child_of ms

-- a new thread with these arguments, where there are some
abbrev pub born_thread : Pipe → ℕ → Option (List ℕ) → Option Thread
born_thread p number None = None
born_thread p number (Some args) =
    Some (record { number = number; env = start_env p args; advice = []; guess = []; awaits = []; kept = [] })

-- the thread in stage q after a cycle: in stage 0 the new one, else one that the squash keeps
abbrev pub stage_next : Pipe → State → List Act → Option ℕ → ℕ → Option Thread
stage_next p st these sq q =
    or_then (if q == 0 then born_thread p st.next (child_of (movers these)) else None) (if_kept sq (next_thread p q these))

-- the same for each memory and for each stage
abbrev pub for_mems : {X : Type 0} → (ℕ → X) → ℕ → List Mem → List X
for_mems f m [] = []
for_mems f m (x ∷ xs) = f m ∷ for_mems f (suc m) xs

-- what a function gives for each stage, of which the first has the number s
abbrev pub for_stages : {X : Type 0} → (ℕ → X) → ℕ → List Stage → List X
for_stages f s [] = []
for_stages f s (x ∷ xs) = f s ∷ for_stages f (suc s) xs

-- the state after a cycle of these acts
abbrev pub after_these : Pipe → State → List Bool → List Act → List Act → Option ℕ → State
after_these p st bits these ms sq =
    record {
      stages = for_stages (λ q. stage_next p st these sq q) 0 p.stages;
      arrays = with_all_advised ms (with_commits st ms 0 p.mems st.arrays);
      locks = for_mems (λ m. entries_left sq (list_three st ms m)) 0 p.mems;
      forks = for_stages (λ f. branches_left p (squash_stage ms) f (fork_next p st ms f)) 0 p.stages;
      requests = for_mems (λ m. request_left sq (request_next p st bits ms m)) 0 p.mems;
      next = if is_some (child_of ms) then suc st.next else st.next;
    }

-- the state after a cycle in which all threads act so
abbrev pub after_acts : Pipe → State → List Bool → List Act → State
after_acts p st bits these = after_these p st bits these (movers these) (squasher (movers these))

-- the state after a cycle with these reply bits
abbrev pub cycle : Pipe → State → List Bool → State
cycle p st bits = after_acts p st bits (all_acts p st bits)

-- thread 1 with the start arguments in stage 0, the image in the arrays, all else empty
abbrev pub first : Pipe → Arrays → State
first p image =
    record {
      stages = for_stages (λ q. if q == 0 then born_thread p 1 (Some p.start) else None) 0 p.stages;
      arrays = image;
      locks = for_mems (λ m. []) 0 p.mems;
      forks = for_stages (λ f. []) 0 p.stages;
      requests = for_mems (λ m. NoRequest) 0 p.mems;
      next = 2;
    }

-- THE PORTS

-- a write as a port shows it
pub record PortWrite : Type 0 where
  pub address : ℕ
  pub value : ℕ

-- a write that is released, as a port shows it
abbrev pub port_writes : List Pending → List PortWrite
port_writes [] = []
port_writes (e ∷ es) = record { address = e.address; value = commit_value e.value } ∷ port_writes es

-- what is seen of a cycle from outside
pub record Ports : Type 0 where
  pub valid : List Bool  -- for each stage: it holds a thread at the start
  pub moves : List Bool  -- for each stage: its thread moves
  pub commits : List (List PortWrite)  -- for each memory the writes that are released, the oldest first: at most two
  pub requests : List (Option ℕ)  -- for each memory: the address of the request
  pub ended : Bool  -- a thread moved out of the last stage
  pub squash : Bool  -- a failing verify or a changing update moved

-- the address of the first of these requests that is of memory m, else what the rest gives
abbrev pub address_of : ℕ → List Ask → Option ℕ → Option ℕ
address_of m [] rest = rest
address_of m (q ∷ qs) rest = if q.mem == m then Some q.address else address_of m qs rest

-- the address of memory m that a thread which moves asks for, if one does
abbrev pub asked_in : List Act → ℕ → Option ℕ
asked_in [] m = None
asked_in (a ∷ ms) m = address_of m a.does.asks (asked_in ms m)

-- the ports in a cycle in which all threads act so, and just these move
abbrev pub ports_these : Pipe → State → List Act → List Act → Ports
ports_these p st these ms =
    record {
      valid = for_stages (λ s. list_any (λ a. a.stage == s) these) 0 p.stages;
      moves = for_stages (λ s. list_any (λ a. a.stage == s) ms) 0 p.stages;
      commits = for_mems (λ m. port_writes (taken_out st ms m)) 0 p.mems;
      requests = for_mems (λ m. asked_in ms m) 0 p.mems;
      ended = list_any (λ a. is_none (next_stage p a.stage a.does)) ms;
      squash = is_some (squasher ms);
    }

-- the ports in a cycle in which all threads act so
abbrev pub ports : Pipe → State → List Act → Ports
ports p st these = ports_these p st these (movers these)

-- a wait: some request, an orphan included, is outstanding at the start and isn't answered
abbrev pub is_outstanding : Request → Bool
is_outstanding NoRequest = false
is_outstanding _ = true

-- whether a request is outstanding and not answered, of those of the memories from number m on
abbrev pub waits_from : Pipe → List Bool → ℕ → List Request → Bool
waits_from p bits m [] = false
waits_from p bits m (r ∷ rs) = (is_outstanding r && not (is_answered p bits m)) || waits_from p bits (suc m) rs

-- whether a cycle with these reply bits is a wait
abbrev pub is_wait : Pipe → State → List Bool → Bool
is_wait p st bits = waits_from p bits 0 st.requests

-- A RUN

-- a cycle of a run, as it is seen, and whether it is a wait
pub record Turn : Type 0 where
  pub ports : Ports
  pub wait : Bool

-- what each cycle with these replies shows, from this state on
abbrev pub turns_from : Pipe → State → List (List Bool) → List Turn
turns_from p st [] = []
turns_from p st (bits ∷ schedule) =
    let these = all_acts p st bits in
    record { ports = ports p st these; wait = is_wait p st bits } ∷ turns_from p (after_acts p st bits these) schedule

-- what each cycle of a run from this image shows
abbrev pub turns : Pipe → Arrays → List (List Bool) → List Turn
turns p image schedule = turns_from p (first p image) schedule

-- the state after cycles with these replies
abbrev pub state_after : Pipe → State → List (List Bool) → State
state_after p st [] = st
state_after p st (bits ∷ schedule) = state_after p (cycle p st bits) schedule

-- how many threads ended, how many cycles were waits, how many had a squash
abbrev pub count : (Turn → Bool) → List Turn → ℕ
count test [] = 0
count test (t ∷ ts) = if test t then suc (count test ts) else count test ts

-- how many threads ended in these cycles
abbrev pub ended_in : List Turn → ℕ
ended_in ts = count (λ t. t.ports.ended) ts

-- how many of these cycles were waits
abbrev pub waits_in : List Turn → ℕ
waits_in ts = count (λ t. t.wait) ts

-- the commits of a memory, in cycle order
abbrev pub commits_shown : ℕ → List PortWrite → List Commit
commits_shown m [] = []
commits_shown m (w ∷ ws) = record { mem = m; address = w.address; value = w.value } ∷ commits_shown m ws

-- what these cycles commit to memory m, in their order
abbrev pub commits : ℕ → List Turn → List Commit
commits m [] = []
commits m (t ∷ ts) = commits_shown m (slice_index_or t.ports.commits m []) ++ commits m ts

-- the letters of `view`: no thread, one that moves, one that stands
abbrev pub letter : Bool → Bool → ℕ
letter false moves = 46
letter true true = 77
letter true false = 83

-- the letter of each stage, by whether it holds a thread and whether that moves
abbrev pub letters : List Bool → List Bool → List ℕ
letters (v ∷ vs) (m ∷ ms) = letter v m ∷ letters vs ms
letters _ _ = []

-- the letters of each cycle, one for each stage
abbrev pub view : List Turn → List (List ℕ)
view [] = []
view (t ∷ ts) = letters t.ports.valid t.ports.moves ∷ view ts
