-- How the threads use the locks in each state of a run.
use Rattle.std.proofs.Common.{◌≡◌, sym, subst, ap, ◌∙◌, ℕ, ◌+◌, ◌≤◌, Bool, List, [], ◌∷◌, length, ◌++◌}
use Rattle.pdl_semantics.specs.Flat.{Arrays, Pipe}
use Rattle.pdl_semantics.specs.Stages.{reserve_stage}
use Rattle.pdl_semantics.specs.Machine.{State, lock_of}
use Rattle.pdl_semantics.specs.Moves.{Act, all_acts, movers}
use Rattle.pdl_semantics.specs.Cycle.{first, state_after, with_reserves, all_releases}
use Rattle.pdl_theory_turns.specs.Derived
use Rattle.pdl_theory_turns.specs.Simulation.{hints_of}
use Rattle.pdl_theory_turns.specs.Facts.{Sound}
use Rattle.pdl_theory_simulation.proofs.AcceptedFacts.{sound_flows}
use Rattle.pdl_theory_simulation.proofs.Seats.{Live, pends, lact, lacts}
use Rattle.pdl_theory_simulation.proofs.ThreadFacts.{Pair, pairs, EachPair, pair_map, sorted, sorted_each}
use Rattle.pdl_theory_simulation.proofs.Orders.{acts_of, AllForetold}
use Rattle.pdl_theory_simulation.proofs.ActOrder.{Swaps, swaps_all, same_releases}
use Rattle.pdl_theory_simulation.proofs.WholeSimulation.{acts_are}
use Rattle.pdl_theory_states.specs.Strict.{Strict}
use Rattle.pdl_theory_states.specs.Use.{AllActs, FindsOlder, moving, with_new, with_release, reserved_count, Reserves, KeepsPlace, ShiftsPlace}
use Rattle.pdl_theory_states.proofs.ReachedStates.{reached}
use Rattle.pdl_theory_states.proofs.PendingLists.{within_ordered}
use Rattle.pdl_theory_states.proofs.OwnWrites.{within_pends, all_older}
use Rattle.pdl_theory_states.proofs.LockCycle.{within_new, one_reserved, places_kept, same_appended, same_reserved}
use Rattle.pdl_theory_states.proofs.LockRelease.{LowFirst, count_released, older_released}
use Rattle.pdl_semantics.specs.PendingLists.{AreOrdered, count_older}
use Rattle.pdl_theory_simulation.proofs.SimulatedStates.{Sim}
use Rattle.pdl_theory_simulation.proofs.CycleStarts.{known}
use Rattle.pdl_theory_simulation.proofs.Foretold.{foretold_here}

module _ (p : Pipe) (sound : Sound p) (st : State) (d : Derived.State) (bits : List Bool) (ls : List Live) (sim : Sim p st d ls)
    (told : AllForetold p (sound_flows p sound) st d bits sim.arrays ls) (m : ℕ) where
  -- a lock's list is in thread order, with at most one entry of each thread
  pub list_ordered : AreOrdered 0 (lock_of st m)
  list_ordered =
      subst (AreOrdered 0) (sym (sim.locks m))
      (within_ordered 0 st.next (pends m ls) (within_pends p (sound_flows p sound) st m st.next ls sim.seated sim.falls))

  -- what holds of each thread, in the order of the stages
  acts_each : (P : Act → Type 0) (xs : List Pair) → EachPair (λ x. P (lact p st d bits x.older x.live)) xs
      → AllActs P (acts_of p (sound_flows p sound) st d bits sim.arrays xs)
  acts_each P [] h = tt
  acts_each P (x ∷ xs) h = (h.0, acts_each P xs h.1)

  -- what holds of each live thread's act by age holds of each act of the stated machine's cycle
  pub all_each : (P : Act → Type 0) → EachPair (λ x. P (lact p st d bits x.older x.live)) (pairs ls) → AllActs P (all_acts p st bits)
  all_each P h =
      subst (AllActs P) (sym (acts_are p (sound_flows p sound) st d bits ls sim told))
      (acts_each P (sorted ls) (sorted_each (λ x. P (lact p st d bits x.older x.live)) ls h))

  -- up to the stage of the reserves a thread finds all pending writes of m older
  pub finds_older : AllActs (FindsOlder st m (reserve_stage p m)) (all_acts p st bits)
  finds_older = all_each (FindsOlder st m (reserve_stage p m))
      (pair_map (λ x h i. ap (count_older x.live.number) (sim.locks m) ∙ h i ∙ ap length (sym (sim.locks m))) (pairs ls)
      (all_older p (sound_flows p sound) st m st.next ls sim.seated sim.ordered sim.falls))

  -- A CYCLE

  -- the live threads may be taken by stages or by age
  pub swaps : Swaps p (sound_flows p sound) st d bits sim.arrays ls
  swaps = swaps_all p (sound_flows p sound) st d bits sim.arrays st.next ls (known p (sound_flows p sound) st d bits ls sim) sim.ordered sim.falls

  -- a lock's list with the cycle's reservations is the live threads' entries with the reservations by age
  pub with_new_is : with_new p st bits m ≡ with_reserves m (movers (lacts p st d bits ls)) (pends m ls)
  with_new_is =
      ap (λ these. with_reserves m (movers these) (lock_of st m)) (acts_are p (sound_flows p sound) st d bits ls sim told)
      ∙ same_appended p (sound_flows p sound) st d bits sim.arrays m (lock_of st m) ls swaps
      ∙ ap (with_reserves m (movers (lacts p st d bits ls))) (sim.locks m)

  -- at most one write of m is reserved in the cycle, and the list stays in order
  pub reserves : Reserves p st bits m
  reserves = record {
    one =
        subst (λ n. n ≤ 1)
        (sym
        (ap (λ these. reserved_count m (movers these)) (acts_are p (sound_flows p sound) st d bits ls sim told)
        ∙ same_reserved p (sound_flows p sound) st d bits sim.arrays m ls swaps))
        (one_reserved p (sound_flows p sound) st d bits sim.arrays m ls (known p (sound_flows p sound) st d bits ls sim) sim.ordered);
    ordered =
        subst (AreOrdered 0) (sym with_new_is)
        (within_ordered 0 st.next _
        (within_new p (sound_flows p sound) st d bits sim.arrays m st.next ls (known p (sound_flows p sound) st d bits ls sim) sim.ordered sim.falls));
  }

  -- from the stage of the reserves on, what the cycle reserves leaves a thread's place among the pending writes of m as it is
  pub places : AllActs (KeepsPlace p st bits m) (all_acts p st bits)
  places = all_each (KeepsPlace p st bits m)
      (pair_map (λ x h i. ap (count_older x.live.number) with_new_is ∙ h i ∙ ap (count_older x.live.number) (sym (sim.locks m))) (pairs ls)
      (places_kept p (sound_flows p sound) st d bits sim.arrays m st.next ls (pends m ls) sim.ordered sim.falls))

  -- a write of m is released in the cycle just where one is by age
  pub releases_are : all_releases m (moving p st bits) ≡ all_releases m (movers (lacts p st d bits ls))
  releases_are =
      ap (λ these. all_releases m (movers these)) (acts_are p (sound_flows p sound) st d bits ls sim told)
      ∙ same_releases p (sound_flows p sound) st d bits sim.arrays m ls swaps

  -- until a thread moves out of the stage of m's releases, its place among the pending writes shifts by one where one is released
  pub shifts : AllActs (ShiftsPlace p st bits m) (all_acts p st bits)
  shifts =
      all_each (ShiftsPlace p st bits m)
      (pair_map (λ x h i j. one x.live.number (h (i, j))) (pairs ls)
      (older_released p (sound_flows p sound) st d bits sim.arrays m st.next ls sim.seated
      (known p (sound_flows p sound) st d bits ls sim) sim.ordered sim.falls))
    where
      one : (t : ℕ) → LowFirst (all_releases m (movers (lacts p st d bits ls))) t (with_reserves m (movers (lacts p st d bits ls)) (pends m ls))
          → count_older t (with_release p st bits m) + all_releases m (moving p st bits) ≡ count_older t (with_new p st bits m)
      one t low =
          count_released (all_releases m (moving p st bits)) t m (moving p st bits) (with_new p st bits m)
          (subst (λ k. LowFirst k t (with_new p st bits m)) (sym releases_are)
          (subst (λ xs. LowFirst (all_releases m (movers (lacts p st d bits ls))) t xs) (sym with_new_is) low))

module _ (p : Pipe) (sound : Sound p) (strict : Strict p) (image : Arrays) (schedule : List (List Bool)) where
  -- the state of this run, and that of the derived machine, whose threads were given what they say with one cycle more
  abbrev st : State
  st = state_after p (first p image) schedule

  abbrev d : List Bool → Derived.State
  d bits = Derived.state_after p (Derived.first p image (hints_of p (first p image) (schedule ++ bits ∷ []))) schedule

  told_of : (bits : List Bool)
      → AllForetold p (sound_flows p sound) st (d bits) bits (reached p sound strict image schedule (bits ∷ [])).sim.arrays
      (reached p sound strict image schedule (bits ∷ [])).live
  told_of bits =
      let r = reached p sound strict image schedule (bits ∷ []) in foretold_here p (sound_flows p sound) st (d bits) bits r.live r.sim [] r.foretells

  -- in every state that a run comes to, a lock's list is in thread order, with at most one entry of each thread
  pub ordered_here : (m : ℕ) → AreOrdered 0 (lock_of (state_after p (first p image) schedule) m)
  ordered_here m = let r = reached p sound strict image schedule ([] ∷ []) in list_ordered p sound st (d []) [] r.live r.sim (told_of []) m

  -- in every state that a run comes to, a thread up to the stage of m's reserves finds all pending writes of m older
  pub older_here : (bits : List Bool) (m : ℕ)
      → AllActs (FindsOlder (state_after p (first p image) schedule) m (reserve_stage p m)) (all_acts p (state_after p (first p image) schedule) bits)
  older_here bits m = let r = reached p sound strict image schedule (bits ∷ []) in finds_older p sound st (d bits) bits r.live r.sim (told_of bits) m

  -- in each cycle of a run at most one write of m is reserved, and the list stays in order with it
  pub reserves_here : (bits : List Bool) (m : ℕ) → Reserves p (state_after p (first p image) schedule) bits m
  reserves_here bits m = let r = reached p sound strict image schedule (bits ∷ []) in reserves p sound st (d bits) bits r.live r.sim (told_of bits) m

  -- in each cycle of a run, from the reserves' stage on, what is reserved leaves a thread's place among the pending writes as it is
  pub places_here : (bits : List Bool) (m : ℕ)
      → AllActs (KeepsPlace p (state_after p (first p image) schedule) bits m) (all_acts p (state_after p (first p image) schedule) bits)
  places_here bits m = let r = reached p sound strict image schedule (bits ∷ []) in places p sound st (d bits) bits r.live r.sim (told_of bits) m

  -- in each cycle of a run, until a thread moves out of the releases' stage, its place shifts by one where a write of m is released
  pub shifts_here : (bits : List Bool) (m : ℕ)
      → AllActs (ShiftsPlace p (state_after p (first p image) schedule) bits m) (all_acts p (state_after p (first p image) schedule) bits)
  shifts_here bits m = let r = reached p sound strict image schedule (bits ∷ []) in shifts p sound st (d bits) bits r.live r.sim (told_of bits) m
