-- A state of the netlist that stands for a state of the machine, and what the signals of a stage then are.
use Rattle.std.specs.Prelude.{◌≡◌, ℕ, suc, ◌+◌, ◌<◌, ◌≤◌, Bool, true, false, not, List, [], ◌∷◌, ◌++◌, map, length, slice_index, slice_index_or, Option, Some, None, is_some, if◌then◌else◌, nat_lt, ⊤}
use Rattle.pdl_word.specs.Words.{bit}
use Rattle.pdl_semantics.specs.Flat.{Pipe, is_delayed}
use Rattle.pdl_semantics.specs.Stages.{mem_at, reserve_stage, commit_stage, verify_stage}
use Rattle.pdl_semantics.specs.Machine as machine
use Rattle.pdl_semantics.specs.Machine.{Thread, Pending, Reserved, Written, Advised, Deeds, deeds, held_before, is_held, with_kept, all_values}
use Rattle.pdl_semantics.specs.Cycle.{is_kept, squasher, all_releases, list_three, new_entries}
use Rattle.pdl_semantics.specs.Sound.{entries_by}
use Rattle.pdl_net.specs.Circuit.{State}
use Rattle.pdl_net.specs.Signal.{Signal}
use Rattle.pdl_lockapi.specs.Laws.{FitsIn, holds_ticket}
use Rattle.pdl_lockapi.specs.Forget.{lock_state_of, has_place, place_of, IsOnce}
use Rattle.pdl_machine_facts.specs.Slots.{slot, here, locks_ready, stage_moves, moving}
use Rattle.pdl_law_parts.specs.declared.Mark.{Mark}
use Rattle.pdl_law_parts.specs.declared.Mark.TheVariants.{Held, Late}
use Rattle.pdl_law_parts.specs.Lives.{lives_from, mark_from, verifies_from}
use Rattle.pdl_law_parts.specs.Walk.{Locks, Reservation, Put, Letting, Birth, Ask, Advising, Walk, is_locked, is_on, values_at}
use Rattle.pdl_law_parts.specs.Advice.{AreAdvised}
use Rattle.pdl_law_parts.specs.Views.{View, Gates}
use Rattle.pdl_semantics.specs.PendingLists.{count_older}
use Rattle.pdl_semantics.specs.SecondWrites.{reserves_twice}

-- values are those of the variables' signals, as far as they live from stage k on
abbrev pub IsEnv : Pipe → ℕ → State → (ℕ → Signal) → List ℕ → Type 0
IsEnv p k s vars env = (x : ℕ) → lives_from p k x ≡ true → slice_index env x ≡ (vars x).value s

-- the signals tell which locations are held, as far as rows from stage k on ask for it
abbrev pub IsHolding : Pipe → ℕ → State → (Mark → ℕ → ℕ → Signal) → List machine.HeldLocation → Type 0
IsHolding p k s marks places = (m a : ℕ) → mark_from p k Held m a ≡ true → (marks Held m a).value s ≡ bit (is_held places m a)

-- a signal tells whether the pending write of a thread's variable is not the first of these, where there is one
abbrev pub TellsLate : State → Signal → ℕ → ℕ → List Pending → Type 0
TellsLate s late thread a es = has_place thread a es ≡ true → IsOnce thread a es → late.value s ≡ bit (nat_lt 0 (place_of thread a es))

-- the signals tell which locations of memory m are late, as far as writes from stage k on ask for it, by the thread's pending writes of the memory
abbrev pub AreLate : Pipe → ℕ → State → (Mark → ℕ → ℕ → Signal) → ℕ → ℕ → List Pending → Type 0
AreLate p k s marks thread m es = (a : ℕ) → mark_from p k Late m a ≡ true → TellsLate s (marks Late m a) thread a es

-- where a verify is still to come, and a guess was made, its arguments are those of the signals
abbrev pub IsGuess : Pipe → ℕ → State → List Signal → List ℕ → Type 0
IsGuess p k s guess args = verifies_from p k ≡ true → length args ≡ length p.start → args ≡ values_at s guess

-- a lock stands for the pending writes of its memory and the words of its array, and the tickets of the threads for their places among the pending writes, up to the stage of the releases
pub record StandsLock (p : Pipe) (ls : Locks) (vs : ℕ → View) (s : State) (st : machine.State) (m : ℕ) : Type 0 where
  pub base : ℕ
  pub words : List ℕ
  pub long : (mem_at p m).depth ≤ length words
  pub same : (a : ℕ) → a < (mem_at p m).depth → st.arrays m a ≡ slice_index words a
  pub stands : ls.stands m s (lock_state_of base (machine.lock_of st m) words)
  pub few : length (machine.lock_of st m) ≤ ls.size m
  pub tickets : (k : ℕ) (t : Thread) → slot st k ≡ Some t → k ≤ commit_stage p m
      → holds_ticket (ls.bits m) ((vs k).tickets m) s (base + count_older t.number (machine.lock_of st m))
  -- after the stage of the reserves the marks of a thread tell which of its two pending writes is the second one
  pub late : ls.twice m ≡ true → (k : ℕ) (t : Thread) → slot st k ≡ Some t → reserve_stage p m < k → k ≤ commit_stage p m
      → AreLate p k s (vs k).begun.marks t.number m (entries_by t.number (machine.lock_of st m))

-- a state of the netlist stands for one of the machine: which stages hold a thread, what it has, what is advised among its values, memories' words, and locks
pub record StandsFor (p : Pipe) (ls : Locks) (vs : ℕ → View) (s : State) (st : machine.State) : Type 0 where
  pub valid : (k : ℕ) → k < length p.stages → (vs k).valid.value s ≡ bit (is_some (slot st k))
  pub long : (k : ℕ) (t : Thread) → slot st k ≡ Some t → length t.env ≡ p.vars
  pub env : (k : ℕ) (t : Thread) → slot st k ≡ Some t → IsEnv p k s (vs k).kept (with_kept t.advice (with_kept t.kept t.env))
  pub advice : (k : ℕ) (t : Thread) → slot st k ≡ Some t → AreAdvised p t.advice
  pub held : (k : ℕ) (t : Thread) → slot st k ≡ Some t → IsHolding p k s (vs k).begun.marks (held_before k t.env p.stmts [])
  pub guess : (k : ℕ) (t : Thread) → slot st k ≡ Some t → IsGuess p k s (vs k).begun.guess t.guess
  pub words : (m : ℕ) → is_locked p m ≡ false → is_delayed (mem_at p m).kind ≡ false → (a : ℕ) → a < (mem_at p m).depth
      → st.arrays m a ≡ slice_index (slice_index_or s.arrays (ls.array m) []) a
  pub locks : (m : ℕ) → is_locked p m ≡ true → StandsLock p ls vs s st m

-- what a stage's reservations, writes, releases and calls are in a state: those whose condition is 1
abbrev pub reserved_in : State → List Reservation → List Reserved
reserved_in s [] = []
reserved_in s (r ∷ rs) = if is_on r.on s then record { mem = r.mem; var = r.var; address = r.addr.value s } ∷ reserved_in s rs else reserved_in s rs

-- the writes whose condition is 1 in a state, with their values
abbrev pub written_in : State → List Put → List Written
written_in s [] = []
written_in s (x ∷ xs) = if is_on x.on s then record { mem = x.mem; var = x.var; value = x.value.value s } ∷ written_in s xs else written_in s xs

-- the memories of the releases whose condition is 1 in a state
abbrev pub let_in : State → List Letting → List ℕ
let_in s [] = []
let_in s (l ∷ ls) = if is_on l.on s then l.mem ∷ let_in s ls else let_in s ls

-- the requests whose condition is 1 in a state, with their addresses
abbrev pub asked_in : State → List Ask → List machine.Ask
asked_in s [] = []
asked_in s (q ∷ qs) = if is_on q.on s then record { mem = q.mem; var = q.var; address = q.addr.value s } ∷ asked_in s qs else asked_in s qs

-- the advisory writes whose condition is 1 in a state, with their addresses and their values
abbrev pub advised_in : State → List Advising → List Advised
advised_in s [] = []
advised_in s (x ∷ xs) = if is_on x.on s then record { mem = x.mem; address = x.addr.value s; value = x.value.value s } ∷ advised_in s xs else advised_in s xs

-- the arguments of the first of these calls whose condition is 1 in a state, where one is
abbrev pub child_in : State → List Birth → Option (List ℕ)
child_in s [] = None
child_in s (b ∷ bs) = if is_on b.on s then Some (map (λ (f : Signal). f.value s) b.args) else child_in s bs

-- the addresses of reservations that are made fit
abbrev pub AddressesFit : State → List Reservation → Type 0
AddressesFit s [] = ⊤
AddressesFit s (r ∷ rs) = (is_on r.on s ≡ true → FitsIn r.addr s) × AddressesFit s rs

-- conditions of writes are bits
abbrev pub AreBits : State → List Put → Type 0
AreBits s [] = ⊤
AreBits s (x ∷ xs) = (x.on.value s ≡ bit (is_on x.on s)) × AreBits s xs

-- calls have no more arguments than there are variables
abbrev pub AreShort : Pipe → List Birth → Type 0
AreShort p [] = ⊤
AreShort p (b ∷ bs) = (length b.args ≤ p.vars) × AreShort p bs

-- a walk that has come as far as these deeds of a thread in stage k
pub record IsSo (p : Pipe) (k : ℕ) (s : State) (w : Walk) (d : Deeds) : Type 0 where
  pub long : length d.env ≡ p.vars
  pub env : IsEnv p k s w.vars (all_values d)
  pub advice : AreAdvised p d.advice
  pub advises : d.advises ≡ advised_in s w.advises
  pub held : IsHolding p k s w.marks d.held
  pub reserves : d.reserves ≡ reserved_in s w.reserves
  pub fits : AddressesFit s w.reserves
  pub writes : d.writes ≡ written_in s w.puts
  pub bits : AreBits s w.puts
  pub releases : d.releases ≡ let_in s w.lettings
  pub child : d.child ≡ child_in s w.births
  pub short : AreShort p w.births
  pub asks : d.asks ≡ asked_in s w.asks
  pub guess_long : length w.guess ≡ length p.start
  -- after a verify that failed nobody asks for the guess any more
  pub guess : (d.fails ≡ true → verify_stage p.stmts ≡ Some k → ⊥) → IsGuess p k s w.guess d.guess
  pub fails : w.fails.value s ≡ bit d.fails
  pub barrier : w.barrier.value s ≡ bit d.barrier

-- the thread's pending writes of memory m, with those that it reserves in its stage
abbrev pub own_entries : machine.State → ℕ → Deeds → ℕ → List Pending
own_entries st thread d m = entries_by thread (machine.lock_of st m) ++ new_entries m thread d.reserves

-- the walk's marks tell which locations of the thread are late, of each memory that some path reserves twice, up to the stage of its releases
abbrev pub MarksLate : Pipe → ℕ → State → machine.State → ℕ → Walk → Deeds → Type 0
MarksLate p k s st thread w d = (m : ℕ) → m < length p.mems → reserves_twice m p.stmts ≡ true → k ≤ commit_stage p m
    → AreLate p k s w.marks thread m (own_entries st thread d m)

-- the walk tells whether the locks let the thread move, and as long as they do what it does
pub record Follows (p : Pipe) (k : ℕ) (s : State) (st : machine.State) (thread : ℕ) (w : Walk) (d : Deeds) : Type 0 where
  pub ready : w.ready.value s ≡ bit (locks_ready p st thread d)
  pub so : locks_ready p st thread d ≡ true → IsSo p k s w d
  pub late : locks_ready p st thread d ≡ true → MarksLate p k s st thread w d

-- a stage in a state: whether it holds a thread, whether that moves, and what it does
pub record IsSeen (p : Pipe) (vs : ℕ → View) (moves : ℕ → Signal) (s : State) (st : machine.State) (bits : List Bool) (k : ℕ) : Type 0 where
  pub valid : (vs k).valid.value s ≡ bit (is_some (slot st k))
  pub follows : (t : Thread) → here p st bits k ≡ Some t → Follows p k s st t.number (vs k).ended (deeds p st k t)
  pub leaves : (moves k).value s ≡ bit (stage_moves p st bits k)

-- a squash in a state: whether it removes a thread that stays, whether there is one, and the ticket of the next thread after the squasher among the pending writes that are left
pub record IsSquashed (p : Pipe) (ls : Locks) (vs : ℕ → View) (gates : Gates) (s : State) (st : machine.State) (bits : List Bool) : Type 0 where
  pub kill : (k : ℕ) (t : Thread) → here p st bits k ≡ Some t → stage_moves p st bits k ≡ false
      → (gates.kill k).value s ≡ bit (not (is_kept (squasher (moving p st bits)) t.number))
  pub squash : gates.squash.value s ≡ bit (is_some (squasher (moving p st bits)))
  pub tail : (m n : ℕ) → is_locked p m ≡ true → (stand : StandsLock p ls vs s st m) → squasher (moving p st bits) ≡ Some n
      → holds_ticket (ls.bits m)
      (gates.tail m) s (stand.base + all_releases m (moving p st bits) + count_older (suc n) (list_three st (moving p st bits) m))
