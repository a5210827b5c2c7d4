-- Sound state's points on all live threads, as the clauses say them.
use Rattle.std.proofs.Common.{◌≡◌, refl, sym, ap, ap₂, ◌∙◌, length, ℕ, zero, suc, ◌+◌, ◌<◌, Bool, true, false, ◌&&◌, ◌||◌, not, slice_index_or, arith, add-zero, add-suc, suc-add, zero-add, ◌==◌, eq-eqb, List, [], ◌∷◌, ◌++◌, IsTrue}
use Rattle.pdl_semantics.specs.Flat.{Arrays, Array, Pipe, Stmt, Mem, is_advisory, list_all, word_at}
use Rattle.pdl_semantics.specs.Stages.{verify_stage, mem_at, plain_mem}
use Rattle.pdl_semantics.specs.Machine.{State, request_of, lock_of}
use Rattle.pdl_semantics.specs.Cycle.{first, state_after}
use Rattle.pdl_semantics.specs.Sound.{live, all_pairs, all_from, in_order, are_linked, certain_after, asks_right, has_owner, stays_ready, past_stmts, on_path}
use Rattle.pdl_theory_turns.specs.Derived
use Rattle.pdl_theory_turns.specs.Simulation.{hints_of}
use Rattle.pdl_theory_turns.specs.Facts.{Sound}
use Rattle.pdl_theory_turns.proofs.CourseOf.{course}
use Rattle.pdl_theory.proofs.Follows
use Rattle.pdl_theory.proofs.Spots.{Spot, seats, is_nil}
use Rattle.pdl_theory_turns.proofs.Slots.{rev}
use Rattle.pdl_theory_simulation.proofs.Seats.{threads_of}
use Rattle.pdl_semantics.specs.Machine.{same_args}
use Rattle.pdl_semantics.specs.Sound
use Rattle.pdl_semantics.specs.Cycle
use Rattle.pdl_semantics.specs.Sequential.{after_turns, writes_from, seqwrites}
use Rattle.pdl_semantics.specs.Sound.{Follower, followers, followers_of, strays, strays_of, follows_values, pending_right, right_entries, released_by, has_released, still_looks, all_below, arrays_right, is_sound}
use Rattle.pdl_semantics.specs.Flat.{of_mem, Commit}
use Rattle.pdl_theory_turns.proofs.Writes.{row_committed}
use Rattle.pdl_theory_simulation.proofs.AcceptedFacts.{sound_flows}
use Rattle.pdl_theory_simulation.proofs.CarriedTheorems.{ended_same}
use Rattle.pdl_theory_simulation.proofs.Foretold.{run_same}
use Rattle.pdl_theory_turns.proofs.Lives.{RowsAt}
use Rattle.pdl_theory_simulation.proofs.Choices.{Seated}
use Rattle.pdl_semantics.specs.Promises.{row, wrote}
use Rattle.pdl_theory_states.specs.Strict.{Strict}
use Rattle.pdl_theory_states.proofs.ReachedStates.{Whole, reached}
use Rattle.pdl_theory_states.proofs.OwnEntries.{Mine, each_mine}
use Rattle.pdl_theory_states.proofs.Followers.{tells, oldest_tells, threads_back, each_back, Good, AllGood, walk, values_good, asks_good, right_good, good_all}
use Rattle.pdl_theory_states.proofs.Order.{from_all}
use Rattle.pdl_theory_states.proofs.TurnByTurn.{lined, behind, parted, past_is, pairs_good, strays_good}
use Rattle.pdl_theory_states.proofs.Holders.{holders_same, holders_point}
use Rattle.pdl_theory_states.proofs.AllThreads.{live_here, order_point, chain_point, certain_point, requests_point, owners_point, ready_point, paths_point}
use Rattle.pdl_word.specs.Each.{Each}
use Rattle.pdl_theory_simulation.proofs.SimulatedStates.{Sim}

true_is : (b : Bool) → b ≡ true → IsTrue b
true_is b h = h

is_true : (b : Bool) → IsTrue b → b ≡ true
is_true b h = h

module _ (p : Pipe) (sound : Sound p) (strict : Strict p) (image : Arrays) (schedule : List (List Bool)) where
  abbrev st : State
  st = state_after p (first p image) schedule

  abbrev d : Derived.State
  d = Derived.state_after p (Derived.first p image (hints_of p (first p image) (schedule ++ []))) schedule

  sim_here : Sim p (state_after p (first p image) schedule) (Derived.state_after p
      (Derived.first p image (hints_of p (first p image) (schedule ++ []))) schedule) (reached p sound strict image schedule []).live
  sim_here = (reached p sound strict image schedule []).sim

  whole_here : Whole p (state_after p (first p image) schedule) (reached p sound strict image schedule []).live
  whole_here = (reached p sound strict image schedule []).whole

  -- in every state that a run comes to, threads, their numbers and the lists of forks are in order
  pub order : IsTrue (in_order p (state_after p (first p image) schedule))
  order = true_is _ (order_point p sound _ _ _ sim_here whole_here)

  -- in every state that a run comes to, all threads before one that is past V or a barrier are past V
  pub certain : IsTrue (all_pairs (certain_after p (verify_stage p.stmts)) (live (state_after p (first p image) schedule)))
  certain = true_is _ (certain_point p sound _ _ _ sim_here whole_here)

  -- in every state that a run comes to, each thread awaits and keeps just what it asked for in its last stage
  pub requests : IsTrue (list_all (asks_right p (state_after p (first p image) schedule)) (live (state_after p (first p image) schedule)))
  requests = true_is _ (requests_point p sound _ _ _ sim_here whole_here)

  -- in every state that a run comes to, each request that has an owner is awaited by a live thread of that number
  pub owners : IsTrue (all_from (λ m. has_owner (state_after p (first p image) schedule) m (request_of (state_after p (first p image) schedule) m)) 0 p.mems)
  owners = true_is _ (owners_point p sound _ _ _ sim_here whole_here)

  -- in every state that a run comes to, each block that a thread has passed is still ready, or its location was released
  pub blocks : IsTrue
      (list_all (λ l. list_all (λ (x : Stmt). stays_ready p (state_after p (first p image) schedule) l x.op) (past_stmts p l))
      (live (state_after p (first p image) schedule)))
  blocks = true_is _ (ready_point p sound _ _ _ sim_here whole_here)

  -- in every state that a run comes to, each thread stands on its path and has done just what its earlier stages say
  pub paths : IsTrue (list_all (on_path p (state_after p (first p image) schedule)) (live (state_after p (first p image) schedule)))
  paths = true_is _ (paths_point p sound _ _ _ sim_here whole_here)

  -- in every state that a run comes to, a lock's list has an entry for each location that a thread holds, in thread order
  pub pending : IsTrue
      (all_from
      (λ m. same_args (Sound.owners (lock_of (state_after p (first p image) schedule) m))
      (Sound.holders p m (live (state_after p (first p image) schedule)))) 0 p.mems)
  pending = true_is _ (holders_point p sound _ _ _ sim_here whole_here)

  -- the derived machine's state after the schedule is one of a run, with its ended threads and its commits
  pub runs_here : Follows.Runs p (course p sound) image (Derived.ended_in (Derived.turns p image (hints_of p (first p image) (schedule ++ [])) schedule))
      (Derived.all_commits (Derived.turns p image (hints_of p (first p image) (schedule ++ [])) schedule))
      (Derived.state_after p (Derived.first p image (hints_of p (first p image) (schedule ++ []))) schedule)
  runs_here = Follows.run_of p (course p sound) image (hints_of p (first p image) (schedule ++ [])) schedule

  some_seat : (arrays : Arrays) (args : List ℕ) (strays : List Derived.Thread) (sps : List Spot)
      → seats p arrays args sps ++ strays ≡ [] → is_nil sps ≡ false → ⊥
  some_seat arrays args strays [] h k = cc k
  some_seat arrays args strays (sp ∷ sps) h k = cc h

  -- somebody lives
  some_live : (reached p sound strict image schedule []).live ≡ [] → ⊥
  some_live e = some_seat _ _ runs_here.strays runs_here.spots (sym runs_here.threads ∙ sim_here.threads ∙ ap (λ ls. rev (threads_of ls)) e) runs_here.live

  -- in every state that a run comes to, each thread but the youngest has made its successor
  pub chain_here : IsTrue (are_linked p (live (state_after p (first p image) schedule)))
  chain_here = true_is _ (chain_point p sound _ _ _ sim_here whole_here some_live)

  -- THE THREADS ON THEIR TURNS

  abbrev ended : ℕ
  ended = Derived.ended_in (Derived.turns p image (hints_of p (first p image) (schedule ++ [])) schedule)

  abbrev past : ℕ → List Commit
  past m = of_mem m (Derived.all_commits (Derived.turns p image (hints_of p (first p image) (schedule ++ [])) schedule))

  rows_now : RowsAt image (λ m. of_mem m (Derived.all_commits (Derived.turns p image (hints_of p (first p image) (schedule ++ [])) schedule)))
      (Derived.state_after p (Derived.first p image (hints_of p (first p image) (schedule ++ []))) schedule).arrays
  rows_now m =
      ap (λ l. row l m) runs_here.arrays
      ∙ row_committed m (Derived.all_commits (Derived.turns p image (hints_of p (first p image) (schedule ++ [])) schedule)) image

  all_good : AllGood p sound image (state_after p (first p image) schedule)
      (Derived.state_after p (Derived.first p image (hints_of p (first p image) (schedule ++ []))) schedule) sim_here.arrays
      (λ m. of_mem m (Derived.all_commits (Derived.turns p image (hints_of p (first p image) (schedule ++ [])) schedule))) rows_now
      (reached p sound strict image schedule []).live sim_here.matched
      (followers_of p (after_turns p image (Derived.ended_in (Derived.turns p image (hints_of p (first p image) (schedule ++ [])) schedule))).arrays
      (after_turns p image (Derived.ended_in (Derived.turns p image (hints_of p (first p image) (schedule ++ [])) schedule))).next
      (tells (rev (reached p sound strict image schedule []).live)))
  all_good =
      walk p sound image (state_after p (first p image) schedule)
      (Derived.state_after p (Derived.first p image (hints_of p (first p image) (schedule ++ []))) schedule) sim_here.arrays
      (λ m. of_mem m (Derived.all_commits (Derived.turns p image (hints_of p (first p image) (schedule ++ [])) schedule))) rows_now
      (reached p sound strict image schedule []).live sim_here.matched
      (λ m. of_mem m (writes_from p (Derived.ended_in (Derived.turns p image (hints_of p (first p image) (schedule ++ [])) schedule)) image p.start)) (λ m. [])
      (after_turns p image (Derived.ended_in (Derived.turns p image (hints_of p (first p image) (schedule ++ [])) schedule))).arrays
      (after_turns p image (Derived.ended_in (Derived.turns p image (hints_of p (first p image) (schedule ++ [])) schedule))).next (length p.stages ∷ [])
      (rev (reached p sound strict image schedule []).live) runs_here.spots runs_here.strays
      (Follows.rows_at p (course p sound) image (Derived.ended_in (Derived.turns p image (hints_of p (first p image) (schedule ++ [])) schedule)))
      (λ m h. refl) runs_here.standing runs_here.tail
      (sym (threads_back (reached p sound strict image schedule []).live) ∙ sym sim_here.threads ∙ runs_here.threads)
      (each_back (Seated p (state_after p (first p image) schedule)) (reached p sound strict image schedule []).live sim_here.seated)
      (each_back (Mine p (state_after p (first p image) schedule))
      (reached p sound strict image schedule []).live
      (each_mine p (state_after p (first p image) schedule) (reached p sound strict image schedule []).live sim_here.falls whole_here.along sim_here.locks))

  -- how many threads have ended
  same : Cycle.ended_in (Cycle.turns p image schedule) ≡ Derived.ended_in (Derived.turns p image (hints_of p (first p image) (schedule ++ [])) schedule)
  same = ended_same p _ _ (run_same p (sound_flows p sound) image schedule []).0

  lives_are : live (state_after p (first p image) schedule) ≡ tells (rev (reached p sound strict image schedule []).live)
  lives_are = live_here p sound _ _ _ sim_here whole_here ∙ oldest_tells (reached p sound strict image schedule []).live

  followers_here : followers p image (Cycle.ended_in (Cycle.turns p image schedule)) (state_after p (first p image) schedule)
      ≡ followers_of p (after_turns p image (Derived.ended_in (Derived.turns p image (hints_of p (first p image) (schedule ++ [])) schedule))).arrays
      (after_turns p image (Derived.ended_in (Derived.turns p image (hints_of p (first p image) (schedule ++ [])) schedule))).next
      (tells (rev (reached p sound strict image schedule []).live))
  followers_here = λ i. followers_of p (after_turns p image (same i)).arrays (after_turns p image (same i)).next (lives_are i)

  strays_here : strays p image (Cycle.ended_in (Cycle.turns p image schedule)) (state_after p (first p image) schedule)
      ≡ strays_of p (after_turns p image (Derived.ended_in (Derived.turns p image (hints_of p (first p image) (schedule ++ [])) schedule))).arrays
      (after_turns p image (Derived.ended_in (Derived.turns p image (hints_of p (first p image) (schedule ++ [])) schedule))).next
      (tells (rev (reached p sound strict image schedule []).live))
  strays_here = λ i. strays_of p (after_turns p image (same i)).arrays (after_turns p image (same i)).next (lives_are i)

  -- what each follower passes, all pass
  all_follow : (test : Follower → Bool)
      → ((f : Follower)
      → Good p sound image (state_after p (first p image) schedule)
      (Derived.state_after p (Derived.first p image (hints_of p (first p image) (schedule ++ []))) schedule) sim_here.arrays
      (λ m. of_mem m (Derived.all_commits (Derived.turns p image (hints_of p (first p image) (schedule ++ [])) schedule))) rows_now
      (reached p sound strict image schedule []).live sim_here.matched f
      → test f ≡ true)
      → list_all test (followers p image (Cycle.ended_in (Cycle.turns p image schedule)) (state_after p (first p image) schedule)) ≡ true
  all_follow test g =
      ap (list_all test) followers_here
      ∙ good_all p sound image (state_after p (first p image) schedule)
      (Derived.state_after p (Derived.first p image (hints_of p (first p image) (schedule ++ []))) schedule) sim_here.arrays
      (λ m. of_mem m (Derived.all_commits (Derived.turns p image (hints_of p (first p image) (schedule ++ [])) schedule))) rows_now
      (reached p sound strict image schedule []).live sim_here.matched test g _ all_good

  -- in every state that a run comes to, each follower has the values of its turn, and awaits its addresses
  pub values : IsTrue
      (list_all (follows_values p (state_after p (first p image) schedule))
      (followers p image (Cycle.ended_in (Cycle.turns p image schedule)) (state_after p (first p image) schedule)))
  values = true_is _ (all_follow (follows_values p (state_after p (first p image) schedule))
      (λ f g. ap₂ (λ a b. a && b)
      (values_good p sound image (state_after p (first p image) schedule)
      (Derived.state_after p (Derived.first p image (hints_of p (first p image) (schedule ++ []))) schedule) sim_here.arrays
      (λ m. of_mem m (Derived.all_commits (Derived.turns p image (hints_of p (first p image) (schedule ++ [])) schedule))) rows_now
      (reached p sound strict image schedule []).live sim_here.matched f g)
      (asks_good p sound image (state_after p (first p image) schedule)
      (Derived.state_after p (Derived.first p image (hints_of p (first p image) (schedule ++ []))) schedule) sim_here.arrays
      (λ m. of_mem m (Derived.all_commits (Derived.turns p image (hints_of p (first p image) (schedule ++ [])) schedule))) rows_now
      (reached p sound strict image schedule []).live sim_here.matched f g)))

  -- in every state that a run comes to, a lock's list has an entry for each location held, and those of followers are right
  pub entries : IsTrue (all_from (pending_right p image (Cycle.ended_in (Cycle.turns p image schedule)) (state_after p (first p image) schedule)) 0 p.mems)
  entries = true_is _ (from_all _ 0 p.mems (λ m. ap₂ (λ a b. a && b) (holders_same p sound _ _ _ sim_here whole_here m)
      (all_follow (right_entries p (state_after p (first p image) schedule) m)
      (right_good p sound image (state_after p (first p image) schedule)
      (Derived.state_after p (Derived.first p image (hints_of p (first p image) (schedule ++ []))) schedule) sim_here.arrays
      (λ m. of_mem m (Derived.all_commits (Derived.turns p image (hints_of p (first p image) (schedule ++ [])) schedule))) rows_now
      (reached p sound strict image schedule []).live sim_here.matched m))))

  -- TURN BY TURN

  seated_back : Each (Seated p (state_after p (first p image) schedule)) (rev (reached p sound strict image schedule []).live)
  seated_back = each_back (Seated p (state_after p (first p image) schedule)) (reached p sound strict image schedule []).live sim_here.seated

  seats_here : threads_of (rev (reached p sound strict image schedule []).live)
      ≡ seats p (after_turns p image (Derived.ended_in (Derived.turns p image (hints_of p (first p image) (schedule ++ [])) schedule))).arrays
      (after_turns p image (Derived.ended_in (Derived.turns p image (hints_of p (first p image) (schedule ++ [])) schedule))).next runs_here.spots
      ++ runs_here.strays
  seats_here = sym (threads_back (reached p sound strict image schedule []).live) ∙ sym sim_here.threads ∙ runs_here.threads

  parted_here :
      (followers_of p (after_turns p image (Derived.ended_in (Derived.turns p image (hints_of p (first p image) (schedule ++ [])) schedule))).arrays
      (after_turns p image (Derived.ended_in (Derived.turns p image (hints_of p (first p image) (schedule ++ [])) schedule))).next
      (tells (rev (reached p sound strict image schedule []).live))
      ≡ lined p (after_turns p image (Derived.ended_in (Derived.turns p image (hints_of p (first p image) (schedule ++ [])) schedule))).arrays
      (after_turns p image (Derived.ended_in (Derived.turns p image (hints_of p (first p image) (schedule ++ [])) schedule))).next
      (rev (reached p sound strict image schedule []).live) runs_here.spots)
      × (strays_of p (after_turns p image (Derived.ended_in (Derived.turns p image (hints_of p (first p image) (schedule ++ [])) schedule))).arrays
      (after_turns p image (Derived.ended_in (Derived.turns p image (hints_of p (first p image) (schedule ++ [])) schedule))).next
      (tells (rev (reached p sound strict image schedule []).live))
      ≡ tells (behind (rev (reached p sound strict image schedule []).live) runs_here.spots))
  parted_here = parted p sound _ _ _ _ _ _ _ _ _ runs_here.spots runs_here.strays runs_here.standing runs_here.tail seats_here seated_back

  certain_back : all_pairs (certain_after p (verify_stage p.stmts)) (tells (rev (reached p sound strict image schedule []).live)) ≡ true
  certain_back = ap (all_pairs (certain_after p (verify_stage p.stmts))) (sym lives_are) ∙ certain_point p sound _ _ _ sim_here whole_here

  -- 5.
  commits_are : (m : ℕ)
      → seqwrites p image m (Cycle.ended_in (Cycle.turns p image schedule))
      ++ released_by m p (followers p image (Cycle.ended_in (Cycle.turns p image schedule)) (state_after p (first p image) schedule))
      ≡ of_mem m (Derived.all_commits (Derived.turns p image (hints_of p (first p image) (schedule ++ [])) schedule))
  commits_are m =
      ap₂ (λ n fs. seqwrites p image m n ++ released_by m p fs) same (followers_here ∙ parted_here.0)
      ∙ past_is p sound _ _ _ m _ _ _ _ _ _ runs_here.spots runs_here.strays runs_here.standing seats_here seated_back refl

  word_right : (m : ℕ) → is_advisory (mem_at p m).kind ≡ false → (a : ℕ) → (word_at (state_after p (first p image) schedule).arrays m a
      == wrote (row image m)
      (seqwrites p image m (Cycle.ended_in (Cycle.turns p image schedule))
      ++ released_by m p (followers p image (Cycle.ended_in (Cycle.turns p image schedule)) (state_after p (first p image) schedule))) a)
      ≡ true
  word_right m plain a =
      eq-eqb _ _ (ap (λ (l : Array). l a) (sim_here.arrays m plain) ∙ ap (λ (l : Array). l a) (rows_now m ∙ ap (wrote (row image m)) (sym (commits_are m))))

  none_astray : (m : ℕ)
      → list_all (λ l. not (has_released m p l)) (strays p image (Cycle.ended_in (Cycle.turns p image schedule)) (state_after p (first p image) schedule))
      ≡ true
  none_astray m =
      ap (list_all (λ l. not (has_released m p l))) (strays_here ∙ parted_here.1)
      ∙ strays_good p sound _ _ _ m _ _ _ _ _ _ runs_here.spots runs_here.strays runs_here.standing runs_here.tail seats_here seated_back certain_back

  below_all : (test : ℕ → Bool) (n : ℕ) → ((a : ℕ) → test a ≡ true) → all_below test n ≡ true
  below_all test zero f = refl
  below_all test (suc n) f = ap₂ (λ a b. a && b) (below_all test n f) (f n)

  arrays_from : (m : ℕ) (xs : List Mem)
      → ((k : ℕ) → k < length xs → mem_at p (m + k) ≡ slice_index_or xs k plain_mem)
      → arrays_right p image (Cycle.ended_in (Cycle.turns p image schedule)) (state_after p (first p image) schedule) m xs ≡ true
  arrays_from m [] f = refl
  arrays_from m (x ∷ xs) f =
      ap₂ (λ a b. a && b) (at (is_advisory x.kind) refl)
      (arrays_from (suc m) xs (λ k i. ap (mem_at p) (suc-add m k ∙ sym (add-suc m k)) ∙ f (suc k) (omega arith)))
    where
      same : mem_at p m ≡ x
      same = ap (mem_at p) (sym (add-zero m)) ∙ f 0 (omega arith)

      at : (b : Bool)
          → is_advisory x.kind ≡ b
          → (is_advisory x.kind || Sound.array_right p image (Cycle.ended_in (Cycle.turns p image schedule)) (state_after p (first p image) schedule) m x.depth)
          ≡ true
      at true e = ap (λ b. b || Sound.array_right p image (Cycle.ended_in (Cycle.turns p image schedule)) (state_after p (first p image) schedule) m x.depth) e
      at false e =
          ap (λ b. b || Sound.array_right p image (Cycle.ended_in (Cycle.turns p image schedule)) (state_after p (first p image) schedule) m x.depth) e
          ∙ ap₂ (λ a b. a && b) (below_all _ x.depth (word_right m (ap (λ (y : Mem). is_advisory y.kind) same ∙ e))) (none_astray m)

  -- in every state that a run comes to, the arrays are the image with what was released
  pub arrays : IsTrue (arrays_right p image (Cycle.ended_in (Cycle.turns p image schedule)) (state_after p (first p image) schedule) 0 p.mems)
  arrays = true_is _ (arrays_from 0 p.mems (λ k i. ap (mem_at p) (zero-add k)))

  -- in every state that a run comes to, nobody behind a follower that still looks at a memory has released a write of it
  pub looks : IsTrue
      (all_from
      (λ m. all_pairs (λ older younger. not (still_looks m p older && has_released m p younger.live))
      (followers p image (Cycle.ended_in (Cycle.turns p image schedule)) (state_after p (first p image) schedule))) 0 p.mems)
  looks = true_is _ (from_all _ 0 p.mems (λ m.
      ap (all_pairs (λ older younger. not (still_looks m p older && has_released m p younger.live))) (followers_here ∙ parted_here.0)
      ∙ pairs_good p sound _ _ _ strict m _ _ _ _ _ _ runs_here.spots runs_here.strays runs_here.standing seats_here seated_back))

  -- THE WHOLE

  both : {a b : Bool} → IsTrue a → IsTrue b → IsTrue (a && b)
  both {a} {b} h k = true_is _ (ap₂ (λ a b. a && b) (is_true a h) (is_true b k))

  -- every state that a run comes to is sound
  pub sound_state : IsTrue (is_sound p image (Cycle.ended_in (Cycle.turns p image schedule)) (state_after p (first p image) schedule))
  sound_state =
      both (both (both (both (both (both (both (both (both (both order chain_here) values) entries) arrays) certain) requests) owners) looks) blocks) paths
