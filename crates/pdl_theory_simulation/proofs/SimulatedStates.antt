-- A stated state and a derived one that show the same, by the live threads.
use Rattle.std.proofs.Common.{◌≡◌, ℕ, true, List, [], ◌∷◌}
use Rattle.pdl_semantics.specs.Flat.{Pipe}
use Rattle.pdl_semantics.specs.Machine.{State, lock_of, fork_of, request_of}
use Rattle.pdl_semantics.specs.Cycle.{for_mems, for_stages}
use Rattle.pdl_semantics.specs.Promises.{DifferInAdvice}
use Rattle.pdl_theory_turns.specs.Derived
use Rattle.pdl_theory_turns.specs.Derived.{asked_at}
use Rattle.pdl_theory_turns.proofs.Slots.{rev}
use Rattle.pdl_theory_simulation.proofs.Stretches.{has_made}
use Rattle.pdl_theory_simulation.proofs.Seats.{Live, find, threads_of, Ordered, Falls, pends}
use Rattle.pdl_theory_simulation.proofs.Choices.{Matched, Seated}
use Rattle.pdl_theory_simulation.proofs.ThreadFacts.{sides}
use Rattle.pdl_word.specs.Each.{Each}

-- each but the youngest has made its successor
abbrev pub HaveMade : Pipe → List Live → Type 0
HaveMade p [] = Unit {0}
HaveMade p (l ∷ ls) = Each (λ k. has_made p k.env k.thread.stage ≡ true) ls

-- a stated state, a derived state, and the live threads, the youngest first
pub record Sim (p : Pipe) (st : State) (d : Derived.State) (ls : List Live) : Type 0 where
  -- the words of all memories but the advisory ones are the same
  pub arrays : DifferInAdvice p st.arrays d.arrays
  -- the live threads stand in their stages
  pub threads : d.threads ≡ rev (threads_of ls)
  pub stages : st.stages ≡ for_stages (λ q. find q ls) 0 p.stages
  -- each lock's list is their entries, the oldest thread's first
  pub locks : (m : ℕ) → lock_of st m ≡ pends m ls
  -- younger threads have greater numbers, and stand behind
  pub falls : Falls st.next ls
  pub ordered : Ordered p ls
  -- each keeps to its way, has its answers and owns its requests
  pub seated : Each (Seated p st) ls
  pub have_made : HaveMade p ls
  -- each fork's list has the branches of just the threads inside
  pub forks : (f : ℕ) → fork_of st f ≡ sides p f ls
  -- the same requests are outstanding
  pub requests : st.requests ≡ for_mems (request_of st) 0 p.mems
  pub asked : d.asked ≡ for_mems (asked_at d) 0 p.mems
  pub matched : (m : ℕ) → Matched (request_of st m) (asked_at d m) m ls
