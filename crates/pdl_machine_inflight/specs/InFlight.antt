-- What holds of the threads in flight, by their stages, in each state that a run comes to.
use Rattle.std.specs.Prelude.{◌≡◌, ℕ, ◌<◌, ◌≤◌, true, List, [], ◌∷◌, Some, length, ◌⊎◌}
use Rattle.pdl_word.specs.Each.{Each}
use Rattle.pdl_semantics.specs.Flat.{Pipe}
use Rattle.pdl_semantics.specs.Updates.{is_update, first_update}
use Rattle.pdl_theory_turns.specs.Scans.{all_at}
use Rattle.pdl_theory_turns.specs.Graphs.{Trunk}
use Rattle.pdl_semantics.specs.Machine.{Awaited, Thread, Owned, State, request_of, fork_of}
use Rattle.pdl_semantics.specs.Cycle.{for_mems}
use Rattle.pdl_machine_facts.specs.Slots.{slot}
use Rattle.pdl_machine_inflight.specs.Readings.{Reading, reading, places, branch_stages}

-- all updates of the pipe stand in one stage, that of the first
abbrev pub UpdatesTogether : Pipe → Type 0
UpdatesTogether p = (u : ℕ) → first_update p.stmts ≡ Some u → all_at is_update u p.stmts ≡ true

-- one of some elements has a property
abbrev pub Some-of : {X : Type 0} → (X → Type 0) → List X → Type 0
Some-of P [] = ⊥
Some-of P (x ∷ xs) = P x ⊎ Some-of P xs

-- whether a thread awaits a memory's answer
abbrev pub Awaits : Thread → ℕ → Type 0
Awaits t m = Some-of (λ (r : Awaited). r.mem ≡ m) t.awaits

-- a read that a thread in stage k awaits: its request is outstanding as the thread's own, it binds the variable of its memory's delayed read, and the stage of this leads to k
pub record IsAwaited (p : Pipe) (st : State) (k number : ℕ) (r : Awaited) : Type 0 where
  pub address : ℕ
  pub owned : request_of st r.mem ≡ Owned number address
  pub read : Reading
  pub is : reading p r.mem ≡ Some read
  pub var : read.var ≡ r.var
  pub place : Some-of (λ (q : ℕ). q ≡ k) (places p read)

-- the threads of a state, by their stages: their numbers and their order, what they await, and the forks' lists
pub record InFlight (p : Pipe) (st : State) : Type 0 where
  pub count : length st.stages ≡ length p.stages
  -- threads have different numbers, all given before
  pub same : (j k : ℕ) (t u : Thread) → slot st j ≡ Some t → slot st k ≡ Some u → t.number ≡ u.number → j ≡ k
  pub given : (k : ℕ) (t : Thread) → slot st k ≡ Some t → t.number < st.next
  -- a younger thread has reached no stage outside the forks that the older one hasn't left
  pub behind : (j k : ℕ) (t u : Thread) → slot st j ≡ Some t → slot st k ≡ Some u → u.number < t.number → (r : ℕ)
      → Trunk p r → r ≤ j → r < k
  -- what a thread awaits, and whose a request is
  pub awaited : (k : ℕ) (t : Thread) → slot st k ≡ Some t → Each (IsAwaited p st k t.number) t.awaits
  pub owner : (m n a : ℕ) → request_of st m ≡ Owned n a → (k : ℕ) × (t : Thread) × (slot st k ≡ Some t) × (t.number ≡ n) × Awaits t m
  -- requests are those of the memories
  pub listed : st.requests ≡ for_mems (request_of st) 0 p.mems
  -- a fork's list is no longer than its branches have stages
  pub forked : (f : ℕ) → length (fork_of st f) ≤ branch_stages p f
