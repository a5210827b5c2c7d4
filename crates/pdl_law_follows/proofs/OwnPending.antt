-- What each thread of a run has pending of its own of a memory, and how many writes of it a cycle releases: no more than a path reserves.
use Rattle.std.proofs.Common.{◌≡◌, refl, sym, ap, ◌∙◌, subst, ℕ, ◌+◌, ◌≤◌, ◌<◌, Bool, true, false, List, [], ◌∷◌, ◌++◌, length, length-append, append-nil, Some, if◌then◌else◌, arith, ⊎_elim}
use Rattle.std.proofs.lemmas.Bool.{cases_lt}
use Rattle.pdl_semantics.specs.Flat.{Pipe, Arrays}
use Rattle.pdl_semantics.specs.Stages.{onpath, reserve_stage}
use Rattle.pdl_semantics.specs.Machine.{Thread, State, reserves_of, lock_of, deeds}
use Rattle.pdl_semantics.specs.Moves.{Act, all_acts, movers}
use Rattle.pdl_semantics.specs.Cycle.{first, state_after, new_entries, with_reserves, all_releases}
use Rattle.pdl_semantics.specs.PendingLists.{count_older}
use Rattle.pdl_semantics.specs.Promises.{DifferInAdvice}
use Rattle.pdl_semantics.specs.Sound.{entries_by}
use Rattle.pdl_semantics.specs.SecondWrites.{write_reserves, reserves_twice}
use Rattle.pdl_semantics.proofs.SecondWrites.{single_reserve}
use Rattle.pdl_theory_turns.specs.Derived
use Rattle.pdl_theory_turns.specs.Derived.{Entry}
use Rattle.pdl_theory_turns.proofs.Entries.{entries_of, waiting, known}
use Rattle.pdl_theory_turns.proofs.Lists.{pend}
use Rattle.pdl_theory_turns.specs.Scans.{Phase, Fresh, phase_all}
use Rattle.pdl_theory_turns.specs.Facts.{Sound}
use Rattle.pdl_theory_turns.proofs.Apart.{total}
use Rattle.pdl_theory_turns.proofs.OwnEntries.{pend_own}
use Rattle.pdl_theory_turns.proofs.Steps.{pend_append}
use Rattle.pdl_theory_simulation.proofs.AcceptedFacts.{sound_flows}
use Rattle.pdl_theory_simulation.proofs.Choices.{Known, AllKnown}
use Rattle.pdl_theory_simulation.proofs.Seats.{Live, lacts, deeds_of}
use Rattle.pdl_theory_simulation.proofs.Shapes.{Shape}
use Rattle.pdl_theory_simulation.proofs.SimulatedStates.{Sim}
use Rattle.pdl_theory_simulation.proofs.ThreadFacts.{pairs, EachPair, pair_map, pair_both, pairs_each}
use Rattle.pdl_theory_simulation.proofs.CycleStarts as cycle_starts
use Rattle.pdl_theory_simulation.proofs.Orders.{AllForetold}
use Rattle.pdl_theory_simulation.proofs.Foretold.{foretold_here}
use Rattle.pdl_theory_states.specs.Strict.{Strict}
use Rattle.pdl_theory_states.specs.Use.{AllActs, moving, with_new}
use Rattle.pdl_theory_states.proofs.LockCycle.{past_new}
use Rattle.pdl_theory_states.proofs.LockUse.{all_each, with_new_is, releases_are}
use Rattle.pdl_theory_states.proofs.OwnEntries.{Mine, each_mine}
use Rattle.pdl_theory_states.proofs.ReachedStates.{Whole, reached}
use Rattle.pdl_lockapi.proofs.Places.{own_none}
use Rattle.pdl_machine_facts.specs.Slots
use Rattle.pdl_machine_facts.specs.Cycle.{IsByStages}
use Rattle.pdl_machine_facts.specs.Use.{IsInUse}
use Rattle.pdl_machine_lockuse.specs.Careful.{Careful}
use Rattle.pdl_machine_lockuse.proofs.Acts.{at_here}
use Rattle.pdl_machine_lockuse.proofs.OwnPlaces.{pend_length, known_length}
use Rattle.pdl_machine_lockuse.proofs.OwnWrite.{all_few, reserved_here, few_reserves, few_releases}
use Rattle.pdl_machine_lockuse.proofs.Owns.{few_released, by_new}
use Rattle.pdl_machine_lockuse.proofs.Paths.{passed, passed_uses}
use Rattle.pdl_machine_lockuse.proofs.Reservations.{total_all}
use Rattle.pdl_law_parts.specs.Served.{IsServed, at_most}
use Rattle.pdl_law_parts.proofs.AnsweredThreads.{stood}
use Rattle.pdl_law_parts.proofs.Reservations.{entries_long}

-- ---- A LIVE THREAD

-- a thread has no more pending writes of a memory than it has reserved
pend_few : (m n : ℕ) (ph : Phase) (es : List Entry) → Shape m ph (entries_of m es) → length (pend m n es) ≤ total ph
pend_few m n ph es s =
    let e = ap length (pend_own m n es ∙ ap (pend m n) s.entries ∙ pend_append m n (waiting m s.opens) (known m s.fulls)) in
    let l = length-append (pend m n (known m s.fulls)) (pend m n (waiting m s.opens)) in
    let f = known_length m n s.fulls ∙ ap length s.at_full in
    let o = pend_length m n s.opens ∙ ap length s.at_open in
    low (length ph.unwritten) (length ph.full) (length ph.gone) (e ∙ l) f o
  where
    low : (u f g : ℕ) {i a b : ℕ} → i ≡ a + b → a ≡ f → b ≡ u → i ≤ u + (f + g)
    low u f g e k l = omega (arith, e, k, l)

module _ (p : Pipe) (sound : Sound p) (st : State) (d : Derived.State) (bits : List Bool)
    (arrays : DifferInAdvice p st.arrays d.arrays) (older : List Live) (l : Live)
    (k : Known p (sound_flows p sound) st d bits arrays older l) (m : ℕ) where
  -- it has no more pending, with what it reserves, than a path reserves
  few_pending : (n : ℕ) → ((path : List ℕ) → write_reserves m (onpath path p.stmts) ≤ n)
      → length (pend m l.number l.thread.entries ++ new_entries m l.number (deeds_of p st bits l).reserves) ≤ n
  few_pending n each =
      let done = passed p sound st d bits arrays older l k in
      let all = all_few p sound st d bits arrays older l k m n each in
      let here = reserved_here p sound st d bits arrays older l k m in
      let before = total_all m Fresh done (passed_uses p sound st d bits arrays older l k m) in
      let few = pend_few m l.number (phase_all m Fresh done) l.thread.entries (k.seated.keeps_on.shape m) in
      let new = entries_long m l.number (deeds_of p st bits l).reserves in
      let join = length-append (pend m l.number l.thread.entries) (new_entries m l.number (deeds_of p st bits l).reserves) in
      omega (arith, all, here, before, few, new, join)

-- ---- ALL LIVE THREADS

module _ (p : Pipe) (sound : Sound p) (st : State) (d : Derived.State) (bits : List Bool)
    (ls : List Live) (sim : Sim p st d ls) (whole : Whole p st ls) (told : AllForetold p (sound_flows p sound) st d bits sim.arrays ls)
    (m : ℕ) where
  known_pairs : (ks : List Live) → AllKnown p (sound_flows p sound) st d bits sim.arrays ks
      → EachPair (λ x. Known p (sound_flows p sound) st d bits sim.arrays x.older x.live) (pairs ks)
  known_pairs [] k = tt
  known_pairs (l ∷ ks) k = (k.0, known_pairs ks k.1)

  all_known : AllKnown p (sound_flows p sound) st d bits sim.arrays ls
  all_known = cycle_starts.known p (sound_flows p sound) st d bits ls sim

  knowns : EachPair (λ x. Known p (sound_flows p sound) st d bits sim.arrays x.older x.live) (pairs ls)
  knowns = known_pairs ls all_known

  -- a thread that reserves a write stands no later than in the stage of the reserves
  abbrev ReservesEarly : Act → Type 0
  ReservesEarly a = 1 ≤ reserves_of m a.does.reserves → a.stage ≤ reserve_stage p m

  early : (l : Live) → 1 ≤ reserves_of m (deeds_of p st bits l).reserves → l.thread.stage ≤ reserve_stage p m
  early l some = ⊎_elim
      (λ (h : reserve_stage p m < l.thread.stage). absurd
      (let none = sym (ap length (past_new p (sound_flows p sound) st d bits sim.arrays m l h)) ∙ entries_long m l.number (deeds_of p st bits l).reserves in
      omega (arith, some, none)))
      (λ (h : l.thread.stage ≤ reserve_stage p m). h)
      (cases_lt (reserve_stage p m) l.thread.stage)

  early_at : (k : ℕ) (t : Thread) → Slots.here p st bits k ≡ Some t → 1 ≤ reserves_of m (deeds p st k t).reserves → k ≤ reserve_stage p m
  early_at =
      at_here p st bits ReservesEarly
      (all_each p sound st d bits ls sim told m ReservesEarly (pair_map (λ x k some. early x.live some) (pairs ls) knowns))

  -- of the pending writes with those that the cycle appends each thread has its own, and what it reserves where it moves
  abbrev HasOwn : Act → Type 0
  HasOwn a =
      entries_by a.thread.number (with_new p st bits m)
      ≡ entries_by a.thread.number (lock_of st m) ++ (if a.moves then new_entries m a.thread.number a.does.reserves else [])

  own_all : AllActs HasOwn (all_acts p st bits)
  own_all =
      all_each p sound st d bits ls sim told m HasOwn
      (pair_map
      (λ x h. ap (entries_by x.live.number)
      (with_new_is p sound st d bits ls sim told m ∙ ap (with_reserves m (movers (lacts p st d bits ls))) (sym (sim.locks m))) ∙ h)
      (pairs ls) (by_new p sound st d bits sim.arrays m st.next (lock_of st m) ls sim.falls))

  own_at : IsByStages p st bits → (k : ℕ) (t : Thread) → Slots.here p st bits k ≡ Some t
      → entries_by t.number (with_reserves m (Slots.moving p st bits) (lock_of st m))
      ≡ entries_by t.number (lock_of st m) ++ (if Slots.stage_moves p st bits k then new_entries m t.number (deeds p st k t).reserves else [])
  own_at by k t h = ap (λ ms. entries_by t.number (with_reserves m ms (lock_of st m))) (sym by.movers) ∙ at_here p st bits HasOwn own_all k t h

  module _ (n : ℕ) (each : (path : List ℕ) → write_reserves m (onpath path p.stmts) ≤ n) where
    -- each thread reserves no more writes than a path
    abbrev FewReserved : Act → Type 0
    FewReserved a = reserves_of m a.does.reserves ≤ n

    reserved_at : (k : ℕ) (t : Thread) → Slots.here p st bits k ≡ Some t → reserves_of m (deeds p st k t).reserves ≤ n
    reserved_at =
        at_here p st bits FewReserved
        (all_each p sound st d bits ls sim told m FewReserved
        (pair_map (λ x k. few_reserves p sound st d bits sim.arrays x.older x.live k m n each) (pairs ls) knowns))

    -- and has no more pending, with those that it reserves
    abbrev FewPending : Act → Type 0
    FewPending a = length (entries_by a.thread.number (lock_of st m) ++ new_entries m a.thread.number a.does.reserves) ≤ n

    pending_at : (k : ℕ) (t : Thread) → Slots.here p st bits k ≡ Some t
        → length (entries_by t.number (lock_of st m) ++ new_entries m t.number (deeds p st k t).reserves) ≤ n
    pending_at =
        at_here p st bits FewPending
        (all_each p sound st d bits ls sim told m FewPending
        (pair_both
        (λ x k g. subst (λ es. length (es ++ new_entries m x.live.number (deeds_of p st bits x.live).reserves) ≤ n) (sym (g.listed m))
        (few_pending p sound st d bits sim.arrays x.older x.live k m n each))
        (pairs ls) knowns (pairs_each (Mine p st) ls (each_mine p st ls sim.falls whole.along sim.locks))))

    -- a cycle releases no more
    few_gone : all_releases m (moving p st bits) ≤ n
    few_gone =
        subst (λ i. i ≤ n) (sym (releases_are p sound st d bits ls sim told m))
        (few_released p sound st d bits sim.arrays m n ls all_known sim.ordered
        (pair_map (λ x k. few_releases p sound st d bits sim.arrays x.older x.live k m n each) (pairs ls) knowns))

-- ---- A STATE OF A RUN

-- in each state of a run the threads use the locks as circuits serve them
pub served_here : (p : Pipe) → Sound p → Strict p → Careful p → (image : Arrays) (before : List (List Bool)) (bits : List Bool)
    → IsByStages p (state_after p (first p image) before) bits → IsInUse p (state_after p (first p image) before) bits
    → IsServed p (state_after p (first p image) before) bits
served_here p sound strict careful image before bits by used =
    let r = reached p sound strict image before (bits ∷ []) in
    let st = state_after p (first p image) before in
    let told = foretold_here p (sound_flows p sound) st _ bits r.live r.sim [] r.foretells in
    record {
      in_use = used;
      most = λ k t m h low. reserved_at p sound st _ bits r.live r.sim r.whole told m (at_most p m) (bound m low) k t h;
      fresh = λ k t m h low some.
          let early = early_at p sound st _ bits r.live r.sim r.whole told m k t h some in
          let u = stood p st bits k t h in
          own_none t.number (lock_of st m)
          (subst (λ n. count_older n (lock_of st m) ≡ length (lock_of st m)) u.number (used.unreserved k u.thread m u.slot early));
      own = λ k t m h g low.
          own_at p sound st _ bits r.live r.sim r.whole told m by k t h
          ∙ ap (λ b. entries_by t.number (lock_of st m) ++ (if b then new_entries m t.number (deeds p st k t).reserves else [])) g;
      kept = λ k t m h g low.
          own_at p sound st _ bits r.live r.sim r.whole told m by k t h
          ∙ ap (λ b. entries_by t.number (lock_of st m) ++ (if b then new_entries m t.number (deeds p st k t).reserves else [])) g
          ∙ append-nil (entries_by t.number (lock_of st m));
      few = λ k t m h g low. pending_at p sound st _ bits r.live r.sim r.whole told m (at_most p m) (bound m low) k t h;
      released = λ m low.
          subst (λ ms. all_releases m ms ≤ at_most p m) by.movers
          (few_gone p sound st _ bits r.live r.sim r.whole told m (at_most p m) (bound m low));
    }
  where
    -- a path reserves no more than that
    bound : (m : ℕ) → m < length p.mems → (path : List ℕ) → write_reserves m (onpath path p.stmts) ≤ at_most p m
    bound m low path = at (reserves_twice m p.stmts) refl
      where
        at : (b : Bool) → reserves_twice m p.stmts ≡ b → write_reserves m (onpath path p.stmts) ≤ (if b then 2 else 1)
        at true e = careful.few path m low
        at false e = single_reserve m path p.stmts e
