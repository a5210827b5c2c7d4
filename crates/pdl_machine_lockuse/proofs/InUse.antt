-- How the threads use the locks in each state that a run comes to, whatever the replies.
use Rattle.std.proofs.Common.{◌≡◌, refl, sym, ap, ap₂, ◌∙◌, subst, ℕ, suc, ◌+◌, ◌≤◌, ◌<◌, Bool, true, false, ◌&&◌, ◌||◌, not, List, [], ◌∷◌, ◌++◌, length, take, le_refl, Option, Some, None, is_none, ◌==◌, cond, arith, nat_le, leb-true, leb-false, eq-eqb}
use Rattle.std.specs.Prelude.{Contains}
use Rattle.std.proofs.lemmas.Bool.{ne_eqb}
use Rattle.pdl_semantics.specs.Flat.{Pipe, Plain, Stmt, list_all}
use Rattle.pdl_semantics.specs.Stages.{list_any, onpath, in_stage, stage_at, goes_to, mem_at, is_release, reserve_stage, commit_stage, verify_stage}
use Rattle.pdl_semantics.specs.Machine.{State, Thread, Deeds, reserves_of, lock_of, deeds, held_before, with_answers}
use Rattle.pdl_semantics.specs.Locks.{has_room}
use Rattle.pdl_semantics.specs.Sound.{stages_from}
use Rattle.pdl_semantics.specs.Moves.{Act, acts, all_acts, movers, may_move, next_stage, no_failure, blocks_ready, have_room}
use Rattle.pdl_semantics.specs.Cycle.{new_entries, with_reserves, with_all_writes, releases_of, all_releases, list_two, list_three, taken_out, is_kept, is_stage, squasher}
use Rattle.pdl_theory_turns.specs.Derived
use Rattle.pdl_theory_turns.specs.Scans.{is_plain, none_of, Fresh, phase_all, is_over}
use Rattle.pdl_theory_turns.specs.Facts.{Sound}
use Rattle.pdl_theory_turns.proofs.Nested.{within_all}
use Rattle.pdl_theory_turns.proofs.Writes.{and_left, and_right}
use Rattle.pdl_theory_turns.proofs.Entries.{entries_of}
use Rattle.pdl_theory_turns.proofs.Lists.{pend}
use Rattle.pdl_theory_turns.proofs.OwnEntries.{pend_own}
use Rattle.pdl_theory_turns.proofs.Looks.{path_looked}
use Rattle.pdl_theory_simulation.proofs.AcceptedFacts.{sound_flows}
use Rattle.pdl_theory_simulation.proofs.Shapes.{shape_over, over_early}
use Rattle.pdl_theory_simulation.proofs.Stretches.{on_way}
use Rattle.pdl_theory_simulation.proofs.Seats.{Live, find, pends, dacts, lact, lacts, did, deeds_of}
use Rattle.pdl_theory_simulation.proofs.ThreadFacts.{Pair, pairs, EachPair, pair_map, pair_both, pairs_each}
use Rattle.pdl_theory_simulation.proofs.Choices.{Known, AllKnown, Seated}
use Rattle.pdl_theory_simulation.proofs.LockLists.{two, Agrees, unreleased}
use Rattle.pdl_theory_simulation.proofs.ActOrder.{Swaps, same_taken, same_squasher}
use Rattle.pdl_theory_simulation.proofs.WholeSimulation.{acts_are, fit}
use Rattle.pdl_theory_simulation.proofs.LockLists.{two_is}
use Rattle.pdl_lockapi.specs.Forget as forget
use Rattle.pdl_machine_facts.specs.Slots
use Rattle.pdl_machine_facts.specs.Slots.{LeadsOn}
use Rattle.pdl_machine_facts.specs.Cycle.{IsByStages}
use Rattle.pdl_machine_facts.specs.Use.{before_stage, AreFine, IsInUse}
use Rattle.pdl_machine_facts.proofs.Stagewise.{by_stages}
use Rattle.pdl_machine_facts.proofs.StagewisePorts.{stages_count}
use Rattle.pdl_theory_states.specs.Strict.{Strict}
use Rattle.pdl_theory_states.specs.Use.{AllActs, moving, with_new, with_values, with_release, FindsOlder, KeepsPlace, ShiftsPlace, ShiftsTail}
use Rattle.pdl_theory_states.proofs.ThreadFacts.{Lasting, Along}
use Rattle.pdl_theory_states.proofs.ReachedStates.{Whole}
use Rattle.pdl_theory_states.proofs.LockRelease.{LowFirst, count_released}
use Rattle.pdl_theory_states.proofs.LockUse.{all_each, with_new_is, releases_are, swaps, list_ordered, finds_older, reserves, places, shifts}
use Rattle.pdl_machine_lockuse.specs.Careful.{Careful}
use Rattle.pdl_machine_lockuse.specs.Use.{HasRoom, ReleasesOwn, ShiftsUpTo, ReleasesOlder, FindsAll, KeepsTail, LeavesTail, Cuts, IsSpared, WritesOnce, IsLet, AwaitsOlder}
use Rattle.pdl_machine_lockuse.proofs.Acts.{at_here, at_slot, same_order, same_count, few_reserved, sole_reserved, room_together, sole_older}
use Rattle.pdl_machine_lockuse.proofs.Begins.{fine_here, let_here}
use Rattle.pdl_theory_turns.proofs.StageFacts.{none_looked}
use Rattle.pdl_theory_turns.proofs.Turn.{release_looked}
use Rattle.pdl_machine_lockuse.proofs.OwnPlaces.{InTurn, names, once_names}
use Rattle.pdl_machine_lockuse.proofs.OwnWrite.{used_here, writes_early, held_on, few_reserves, few_releases}
use Rattle.pdl_machine_lockuse.proofs.Owns.{contains_write, own_same, written_same, names_by, turn_by, turn_of, open_place, own_two, written_two, fewer_taken, few_released, by_new}
use Rattle.pdl_theory_states.proofs.OwnEntries.{Mine, each_mine}
use Rattle.pdl_semantics.specs.Sound.{entries_by}
use Rattle.pdl_machine_lockuse.proofs.Awaits.{still_early}
use Rattle.pdl_machine_lockuse.proofs.Tails.{Bars, up_released, bars_commit, bars_verify, all_own, tail_kept}
use Rattle.pdl_machine_lockuse.proofs.Cuts.{order_filled, order_behind, tail_left, front_left}
use Rattle.pdl_theory_turns.proofs.TurnPath.{phase_append}
use Rattle.pdl_semantics.specs.PendingLists.{AreOrdered, count_older, AreWritten}
use Rattle.pdl_word.specs.Each.{Each}
use Rattle.pdl_theory_simulation.proofs.SimulatedStates.{Sim}
use Rattle.pdl_theory_simulation.proofs.CycleStarts.{known}
use Rattle.pdl_theory_simulation.proofs.Orders.{AllForetold}

-- STAGES

-- threads go on to later stages
pub leads_sound : (p : Pipe) → Sound p → LeadsOn p
leads_sound p sound = record { up = λ k q env l e. (sound_flows p sound).graph.up k q (env, e, l); over = over; ends = ends }
  where
    over : (k q m : ℕ) (env : List ℕ) → k < length p.stages → goes_to (stage_at p k).next env ≡ Some q → reserve_stage p m < q → reserve_stage p m ≤ k
    over k q m env l e h = at (nat_le (reserve_stage p m) k) refl
      where
        at : (b : Bool) → nat_le (reserve_stage p m) k ≡ b → reserve_stage p m ≤ k
        at true f = leb-true _ _ f
        at false f =
            absurd
            (let i = leb-false _ _ f in
            let j =
            (sound_flows p sound).graph.jump [] k q (reserve_stage p m) (env, e, l) (within_all p k)
            ((sound_flows p sound).trunk_reserve m) (omega (arith, i)) (omega (arith, h)) in
            omega (arith, h, j))

    ends : (k : ℕ) (env : List ℕ) → k < length p.stages → is_none (goes_to (stage_at p k).next env) ≡ (suc k == length p.stages)
    ends k env l = at (goes_to (stage_at p k).next env) refl
      where
        at : (r : Option ℕ) → goes_to (stage_at p k).next env ≡ r → is_none r ≡ (suc k == length p.stages)
        at None e = sym (eq-eqb (suc k) (length p.stages) ((sound_flows p sound).graph.last k env l e).0)
        at (Some q) e =
            let u = (sound_flows p sound).graph.up k q (env, e, l) in
            sym (ne_eqb (suc k) (length p.stages) (λ f. absurd (let a = u.0 in let b = u.1 in omega (arith, a, b, f))))

-- A MEMORY WITHOUT LOCK

none_back : (m : ℕ) (xs ys : List Stmt) → none_of (is_release m) (xs ++ ys) ≡ true → none_of (is_release m) ys ≡ true
none_back m [] ys h = h
none_back m (x ∷ xs) ys h = none_back m xs ys (and_right (not (is_release m x.op)) _ h)

module _ (p : Pipe) (sound : Sound p) (st : State) (m : ℕ) (plain : is_plain (mem_at p m).lock ≡ true) where
  none_pending : (l : Live) → Seated p st l → pend m l.number l.thread.entries ≡ []
  none_pending l s =
      pend_own m l.number l.thread.entries
      ∙ ap (pend m l.number)
      (shape_over m (phase_all m Fresh (on_way p l.env l.thread.stage)) (entries_of m l.thread.entries)
      (over_early m (onpath l.env (stages_from l.thread.stage p.stmts)) (phase_all m Fresh (on_way p l.env l.thread.stage))
      (none_back m (on_way p l.env l.thread.stage) (onpath l.env (stages_from l.thread.stage p.stmts))
      (subst (λ xs. none_of (is_release m) xs ≡ true) ((sound_flows p sound).all_pieces l.env l.thread.stage)
      (sym (none_looked (is_release m) (release_looked m) (onpath l.env p.stmts)) ∙ ap (none_of (is_release m)) (sym (path_looked l.env p.stmts))
      ∙ (sound.pathwise.paths l.env).plain m plain)))
      (subst (λ ph. is_over ph ≡ true)
      (ap (phase_all m Fresh) ((sound_flows p sound).all_pieces l.env l.thread.stage)
      ∙ phase_append m (on_way p l.env l.thread.stage) (onpath l.env (stages_from l.thread.stage p.stmts)) Fresh)
      ((sound_flows p sound).over l.env m)))
      (s.keeps_on.shape m))

  -- no live thread has a pending write of a memory without lock
  pub none_pends : (ls : List Live) → Each (Seated p st) ls → pends m ls ≡ []
  none_pends [] s = refl
  none_pends (l ∷ ls) s = ap₂ (λ x y. x ++ y) (none_pends ls s.1) (none_pending l s.0)

-- ROOM

module _ (p : Pipe) (st : State) (bits : List Bool) where
  room_of : (later : List Act) (s : ℕ) (t : Thread) (e : Deeds) → may_move p st bits later s t e ≡ true → have_room p st e ≡ true
  room_of later s t e h =
      and_right (no_failure later && blocks_ready p st t.number e) _ (and_left _ _ (and_left _ _ (and_left _ _ (and_left _ _ (and_left _ _ h)))))

  rooms : (s : ℕ) (xs : List (Option Thread)) → AllActs (HasRoom p st) (acts p st bits s xs)
  rooms s [] = tt
  rooms s (None ∷ xs) = rooms (suc s) xs
  rooms s (Some t ∷ xs) = (room_of (acts p st bits (suc s) xs) s (with_answers p st bits t) (deeds p st s (with_answers p st bits t)), rooms (suc s) xs)

  -- each thread that moves has room for what it reserves
  pub all_room : AllActs (HasRoom p st) (all_acts p st bits)
  all_room = rooms 0 st.stages

-- A STATE AND THE LIVE THREADS

module _ (p : Pipe) (sound : Sound p) (strict : Strict p) (st : State) (d : Derived.State) (bits : List Bool)
    (ls : List Live) (sim : Sim p st d ls) (whole : Whole p st ls) (told : AllForetold p (sound_flows p sound) st d bits sim.arrays ls) where
  all_known : AllKnown p (sound_flows p sound) st d bits sim.arrays ls
  all_known = known p (sound_flows p sound) st d bits ls sim

  -- each thread with what is known of it
  pairs_known : (ks : List Live) → AllKnown p (sound_flows p sound) st d bits sim.arrays ks
      → EachPair (λ x. Known p (sound_flows p sound) st d bits sim.arrays x.older x.live) (pairs ks)
  pairs_known [] k = tt
  pairs_known (l ∷ ks) k = (k.0, pairs_known ks k.1)

  pairs_along : (ks : List Live) → Along (Lasting p st) ks → EachPair (λ x. Lasting p st x.live x.older) (pairs ks)
  pairs_along [] a = tt
  pairs_along (l ∷ ks) a = (a.0, pairs_along ks a.1)

  knowns : EachPair (λ x. Known p (sound_flows p sound) st d bits sim.arrays x.older x.live) (pairs ls)
  knowns = pairs_known ls all_known

  lastings : EachPair (λ x. Lasting p st x.live x.older) (pairs ls)
  lastings = pairs_along ls whole.along

  count : length st.stages ≡ length p.stages
  count = ap length sim.stages ∙ stages_count (λ q. find q ls) 0 p.stages

  -- the cycle goes stage by stage and memory by memory
  pub by : IsByStages p st bits
  by = by_stages p (leads_sound p sound) (sound_flows p sound).graph.some_stage st bits count

  swapped : Swaps p (sound_flows p sound) st d bits sim.arrays ls
  swapped = swaps p sound st d bits ls sim told 0

  -- in both orders
  taken_is : (m : ℕ) → taken_out st (moving p st bits) m ≡ taken_out st (movers (lacts p st d bits ls)) m
  taken_is m =
      ap (λ these. taken_out st (movers these) m) (acts_are p (sound_flows p sound) st d bits ls sim told)
      ∙ same_taken p (sound_flows p sound) st d bits sim.arrays m ls swapped

  squasher_is : squasher (moving p st bits) ≡ squasher (movers (lacts p st d bits ls))
  squasher_is =
      ap (λ these. squasher (movers these)) (acts_are p (sound_flows p sound) st d bits ls sim told)
      ∙ same_squasher p (sound_flows p sound) st d bits sim.arrays ls swapped

  module _ (m : ℕ) where
    -- WHO RELEASES

    two_here : list_two st (movers (lacts p st d bits ls)) m ≡ two p (sound_flows p sound) st d bits sim.arrays m ls
    two_here =
        ap (λ xs. with_all_writes m (movers (lacts p st d bits ls)) (with_reserves m (movers (lacts p st d bits ls)) xs)) (sim.locks m)
        ∙ two_is p (sound_flows p sound) st d bits sim.arrays m st.next ls sim.seated sim.ordered sim.falls

    -- what is released by age is what is released by stages
    fronts : take (all_releases m (movers (lacts p st d bits ls))) (two p (sound_flows p sound) st d bits sim.arrays m ls)
        ≡ take (all_releases m (moving p st bits)) (with_values p st bits m)
    fronts = ap (take (all_releases m (movers (lacts p st d bits ls)))) (sym two_here) ∙ sym (taken_is m)

    owns_pairs : EachPair (λ x. ReleasesOwn p st bits m (lact p st d bits x.older x.live)) (pairs ls)
    owns_pairs =
        pair_both
        (λ x g h i. own_same (releases_of m (deeds_of p st bits x.live).releases) (all_releases m (movers (lacts p st d bits ls)))
        (all_releases m (moving p st bits)) x.live.number (two p (sound_flows p sound) st d bits sim.arrays m ls) (with_values p st bits m)
        (h i) fronts (g i))
        (pairs ls) (own_two p sound st d bits sim.arrays m ls all_known sim.ordered) (fewer_taken p sound st d bits sim.arrays m ls)

    -- what a thread that moves releases are its own pending writes, the oldest ones, which have their values
    pub owns : AllActs (ReleasesOwn p st bits m) (all_acts p st bits)
    owns = all_each p sound st d bits ls sim told m (ReleasesOwn p st bits m) owns_pairs

    -- what is released has its value
    pub written : AreWritten (all_releases m (moving p st bits)) (with_values p st bits m)
    written =
        subst (λ k. AreWritten k (with_values p st bits m)) (sym (releases_are p sound st d bits ls sim told m))
        (written_same (all_releases m (movers (lacts p st d bits ls))) (all_releases m (movers (lacts p st d bits ls)))
        (all_releases m (moving p st bits)) (two p (sound_flows p sound) st d bits sim.arrays m ls) (with_values p st bits m)
        (le_refl (all_releases m (movers (lacts p st d bits ls)))) fronts
        (written_two p sound st d bits sim.arrays m ls all_known sim.ordered))

    -- PLACES

    -- what is released is no younger than a thread of a kind, behind which nobody releases
    shift_all : (P : Pair → Type 0) → Bars p sound st d bits sim.arrays m P ls
        → EachPair (λ x. P x → ShiftsUpTo p st bits m (lact p st d bits x.older x.live)) (pairs ls)
    shift_all P bars =
        pair_map
        (λ x h g. count_released (all_releases m (moving p st bits)) (suc x.live.number) m (moving p st bits) (with_new p st bits m)
        (subst (λ k. LowFirst k (suc x.live.number) (with_new p st bits m)) (sym (releases_are p sound st d bits ls sim told m))
        (subst (LowFirst (all_releases m (movers (lacts p st d bits ls))) (suc x.live.number)) (sym (with_new_is p sound st d bits ls sim told m)) (h g))))
        (pairs ls) (up_released p sound st d bits sim.arrays m P st.next ls bars sim.seated all_known sim.ordered sim.falls)

    -- what is released is no younger than a thread up to the stage of the memory's releases
    pub older_released : AllActs (ReleasesOlder p st bits m) (all_acts p st bits)
    older_released =
        all_each p sound st d bits ls sim told m (ReleasesOlder p st bits m)
        (shift_all (λ x. x.live.thread.stage ≤ commit_stage p m) (bars_commit p sound st d bits sim.arrays m ls all_known sim.ordered))

    -- what is released is no younger than a thread that awaits a read of the memory
    pub awaits_released : AllActs (AwaitsOlder p st bits m) (all_acts p st bits)
    awaits_released = all_each p sound st d bits ls sim told m (AwaitsOlder p st bits m)
        (pair_both (λ x g h i. h (g i)) (pairs ls) (pair_both (λ x k a. still_early p sound st x.older x.live k.seated a bits m) (pairs ls) knowns lastings)
        (shift_all (λ x. x.live.thread.stage ≤ commit_stage p m) (bars_commit p sound st d bits sim.arrays m ls all_known sim.ordered)))

    tails_at : (r : Option ℕ) → verify_stage p.stmts ≡ r → EachPair (λ x. ShiftsTail p st bits m (lact p st d bits x.older x.live)) (pairs ls)
    tails_at None e = every (pairs ls)
      where
        none : (v : ℕ) → verify_stage p.stmts ≡ Some v → ⊥
        none v f = cc (sym e ∙ f)

        every : (xs : List Pair) → EachPair (λ x. ShiftsTail p st bits m (lact p st d bits x.older x.live)) xs
        every [] = tt
        every (x ∷ xs) = ((λ v f g. absurd (none v f)), every xs)
    tails_at (Some w) e =
        pair_map (λ x h v f g. h (subst (λ n. x.live.thread.stage ≤ n) (same v f) g)) (pairs ls)
        (shift_all (λ x. x.live.thread.stage ≤ w) (bars_verify p sound st d bits sim.arrays m w e ls all_known sim.ordered whole.along))
      where
        same : (v : ℕ) → verify_stage p.stmts ≡ Some v → v ≡ w
        same v f = let i : Some v ≡ Some w = sym f ∙ e in cc

    -- up to V a thread's own and older pending writes become one fewer at each release
    pub tails : AllActs (ShiftsTail p st bits m) (all_acts p st bits)
    tails = all_each p sound st d bits ls sim told m (ShiftsTail p st bits m) (tails_at (verify_stage p.stmts) refl)

    -- up to the stage of the reserves all pending writes are a thread's own or older, those of this cycle included
    pub finds_all : AllActs (FindsAll p st bits m) (all_acts p st bits)
    finds_all = all_each p sound st d bits ls sim told m (FindsAll p st bits m)
        (pair_map
        (λ x h g. ap (count_older (suc x.live.number)) (with_new_is p sound st d bits ls sim told m) ∙ h g
        ∙ ap length (sym (with_new_is p sound st d bits ls sim told m)))
        (pairs ls) (all_own p sound st d bits sim.arrays m st.next ls all_known sim.seated sim.ordered sim.falls))

    -- past the stage of the reserves the cycle appends nothing to a thread's own and older pending writes
    pub tails_kept : AllActs (KeepsTail p st bits m) (all_acts p st bits)
    tails_kept = all_each p sound st d bits ls sim told m (KeepsTail p st bits m)
        (pair_map
        (λ x h g. ap (count_older (suc x.live.number)) (with_new_is p sound st d bits ls sim told m) ∙ h g
        ∙ ap (count_older (suc x.live.number)) (sym (sim.locks m)))
        (pairs ls) (tail_kept p sound st d bits sim.arrays m st.next ls (pends m ls) sim.ordered sim.falls))

    -- a squash that leaves a thread leaves its own and all older pending writes
    pub tails_left : AllActs (LeavesTail p st bits m) (all_acts p st bits)
    tails_left = every (all_acts p st bits)
      where
        every : (these : List Act) → AllActs (LeavesTail p st bits m) these
        every [] = tt
        every (a ∷ these) = ((λ h. tail_left (squasher (moving p st bits)) a.thread.number (with_release p st bits m) h), every these)

    release_ordered : AreOrdered 0 (with_release p st bits m)
    release_ordered =
        order_behind (all_releases m (moving p st bits)) 0 (with_values p st bits m)
        (order_filled m 0 (moving p st bits) (with_new p st bits m) (reserves p sound st d bits ls sim told m).ordered)

    -- a squash leaves of the pending writes a front, those of the squasher and of older threads
    pub cuts : Cuts p st bits m
    cuts thread h = front_left thread 0 (with_release p st bits m) release_ordered

    -- WHO WRITES

    mines : EachPair (λ x. Mine p st x.live) (pairs ls)
    mines = pairs_each (Mine p st) ls (each_mine p st ls sim.falls whole.along sim.locks)

    -- a thread that moves has its own pending writes, and what it reserves
    own_new : EachPair
        (λ x. (did p d bits x.older x.live).moves ≡ true
        → entries_by x.live.number (with_new p st bits m)
        ≡ pend m x.live.number x.live.thread.entries ++ new_entries m x.live.number (deeds_of p st bits x.live).reserves) (pairs ls)
    own_new =
        pair_both
        (λ x g h i. ap (entries_by x.live.number)
        (with_new_is p sound st d bits ls sim told m ∙ ap (with_reserves m (movers (lacts p st d bits ls))) (sym (sim.locks m)))
        ∙ h ∙ ap₂ (λ xs b. xs ++ cond b (new_entries m x.live.number (deeds_of p st bits x.live).reserves) []) (g.listed m) i)
        (pairs ls) mines (by_new p sound st d bits sim.arrays m st.next (lock_of st m) ls sim.falls)

    once_pairs : EachPair (λ x. WritesOnce p st bits m (lact p st d bits x.older x.live)) (pairs ls)
    once_pairs =
        pair_both
        (λ x k h i.
        let u = used_here p sound st d bits sim.arrays x.older x.live k m in
        let e = h i in
        record {
          before = u.before;
          turns =
              turn_by m x.live.number (with_new p st bits m) u.before (deeds_of p st bits x.live).writes
              (subst (λ xs. InTurn m x.live.number xs u.before (deeds_of p st bits x.live).writes) (sym e) u.turns);
          once = λ y. once_names x.live.number y (with_new p st bits m)
              (subst (λ n. n ≤ 1) (sym (names_by x.live.number y (with_new p st bits m) ∙ ap (names x.live.number y) e)) (u.once y));
        })
        (pairs ls) knowns own_new

    -- a thread that moves writes each of its pending writes at most once, in the order of its reservations
    pub once : AllActs (WritesOnce p st bits m) (all_acts p st bits)
    once = all_each p sound st d bits ls sim told m (WritesOnce p st bits m) once_pairs

    -- a thread that moves and writes is in time and has a pending write
    abbrev Writes : ℕ → ℕ → Act → Type 0
    Writes y v a =
        a.moves ≡ true → Contains a.does.writes (record { mem = m; var = y; value = v })
        → (a.stage ≤ commit_stage p m) × (forget.has_place a.thread.number y (with_new p st bits m) ≡ true)
        × forget.IsOnce a.thread.number y (with_new p st bits m)

    writes_all : (y v : ℕ) → AllActs (Writes y v) (all_acts p st bits)
    writes_all y v = all_each p sound st d bits ls sim told m (Writes y v)
        (pair_both (λ x k h i c. (
          writes_early p sound st d bits sim.arrays x.older x.live k strict m
              (contains_write m (deeds_of p st bits x.live).writes (record { mem = m; var = y; value = v }) refl c),
          open_place x.live.number y (with_new p st bits m)
              (turn_of m x.live.number (with_new p st bits m) (h i).before (deeds_of p st bits x.live).writes (record { mem = m; var = y; value = v }) refl
              (h i).turns c),
          (h i).once y,
        )) (pairs ls) knowns once_pairs)

    -- what a thread that moves reserves has room
    each_room : (these : List Act) → AllActs (HasRoom p st) these
        → Each (λ (a : Act). 1 ≤ reserves_of m a.does.reserves → has_room (mem_at p m).lock (reserves_of m a.does.reserves)
        (length (lock_of st m)) ≡ true) (movers these)
    each_room [] h = tt
    each_room (a ∷ these) h = at a.moves refl (each_room these h.1)
      where
        at : (b : Bool) → a.moves ≡ b
            → Each (λ (a : Act). 1 ≤ reserves_of m a.does.reserves → has_room (mem_at p m).lock (reserves_of m a.does.reserves)
            (length (lock_of st m)) ≡ true) (movers these)
            → Each (λ (a : Act). 1 ≤ reserves_of m a.does.reserves → has_room (mem_at p m).lock (reserves_of m a.does.reserves) (length (lock_of st m)) ≡ true)
            (cond b (a ∷ movers these) (movers these))
        at true e g = ((λ some. room_together p st m a.does.reserves a.does.reserves (h.0 e) some), g)
        at false e g = g

    -- a lock has room for all that is reserved in a cycle
    pub room_reserved : 1 ≤ length (forget.addresses m (moving p st bits))
        → has_room (mem_at p m).lock (length (forget.addresses m (moving p st bits))) (length (lock_of st m)) ≡ true
    room_reserved =
        sole_reserved (λ n. has_room (mem_at p m).lock n (length (lock_of st m)) ≡ true) m (moving p st bits)
        (reserves p sound st d bits ls sim told m).one (each_room (all_acts p st bits) (all_room p st bits))

    -- at most two are reserved and released
    module _ (careful : Careful p) (there : m < length p.mems) where
      few_here : EachPair (λ x. reserves_of m (deeds_of p st bits x.live).reserves ≤ 2) (pairs ls)
      few_here = pair_map (λ x k. few_reserves p sound st d bits sim.arrays x.older x.live k m 2 (λ path. careful.few path m there)) (pairs ls) knowns

      each_few : (these : List Act) → AllActs (λ (a : Act). reserves_of m a.does.reserves ≤ 2) these
          → Each (λ (a : Act). reserves_of m a.does.reserves ≤ 2) (movers these)
      each_few [] h = tt
      each_few (a ∷ these) h = at a.moves (each_few these h.1)
        where
          at : (b : Bool) → Each (λ (a : Act). reserves_of m a.does.reserves ≤ 2) (movers these)
              → Each (λ (a : Act). reserves_of m a.does.reserves ≤ 2) (cond b (a ∷ movers these) (movers these))
          at true g = (h.0, g)
          at false g = g

      -- at most two writes of m are reserved in a cycle
      pub two_reserved : length (forget.addresses m (moving p st bits)) ≤ 2
      two_reserved =
          few_reserved m (moving p st bits) (reserves p sound st d bits ls sim told m).one
          (each_few (all_acts p st bits) (all_each p sound st d bits ls sim told m (λ (a : Act). reserves_of m a.does.reserves ≤ 2) few_here))

      -- at most two writes of m are released in a cycle
      pub two_released : all_releases m (moving p st bits) ≤ 2
      two_released =
          subst (λ n. n ≤ 2) (sym (releases_are p sound st d bits ls sim told m))
          (few_released p sound st d bits sim.arrays m 2 ls all_known sim.ordered
          (pair_map (λ x k. few_releases p sound st d bits sim.arrays x.older x.live k m 2 (λ path. careful.few path m there)) (pairs ls) knowns))

    -- a memory without lock
    no_pending : (mem_at p m).lock ≡ Plain → lock_of st m ≡ []
    no_pending h = sim.locks m ∙ none_pends p sound st m (ap is_plain h) ls sim.seated

    no_release : (mem_at p m).lock ≡ Plain → all_releases m (moving p st bits) ≡ 0
    no_release h =
        releases_are p sound st d bits ls sim told m
        ∙ unreleased p (sound_flows p sound) st d bits sim.arrays m ls all_known
        (let far = (sound.pathwise.paths []).plain_to m (ap is_plain h) in omega (arith, far))

  -- WHO MOVES IS SPARED

  no_fall : (these : List Derived.Act) → list_all (λ (o : Derived.Act). not (o.moves && o.work.fails)) these ≡ true
      → list_any (λ (o : Derived.Act). o.moves && o.work.fails) these ≡ false
  no_fall [] h = refl
  no_fall (o ∷ these) h = ap₂ (λ a b. a || b) (off (o.moves && o.work.fails) (and_left _ _ h)) (no_fall these (and_right (not (o.moves && o.work.fails)) _ h))
    where
      off : (b : Bool) → not b ≡ true → b ≡ false
      off true i = absurd (cc i)
      off false i = refl

  spares : (ks : List Live) → Agrees p d bits (squasher (movers (lacts p st d bits ls))) ks
      → EachPair (λ x. IsSpared p st bits (lact p st d bits x.older x.live)) (pairs ks)
  spares [] g = tt
  spares (l ∷ ks) g = (
    (λ may_move. ap (λ q. is_kept q l.number) squasher_is ∙ g.0
        ∙ ap not (no_fall (dacts p d bits ks) (and_left _ _ (and_left _ _ (and_left _ _ (and_left _ _ may_move)))))),
    spares ks g.1,
  )

  -- no thread that moves is removed
  pub spared : AllActs (IsSpared p st bits) (all_acts p st bits)
  spared = all_each p sound st d bits ls sim told 0 (IsSpared p st bits) (spares ls (fit p (sound_flows p sound) st d bits ls sim told))

  -- WHAT A THREAD HOLDS AS IT LEAVES

  abbrev Holds : ℕ → Act → Type 0
  Holds q a = is_stage q (next_stage p a.stage a.does) ≡ true → a.does.held ≡ held_before q a.does.env p.stmts []

  holds_all : (q : ℕ) → AllActs (Holds q) (all_acts p st bits)
  holds_all q = all_each p sound st d bits ls sim told 0 (Holds q) (pair_map (λ x k. held_on p sound st d bits sim.arrays x.older x.live k q) (pairs ls) knowns)

  -- THE WHOLE

  module _ (careful : Careful p) where
    abbrev Fine : Act → Type 0
    Fine a = AreFine p st a.thread.number (in_stage a.stage p.stmts) (before_stage p a.stage a.thread)

    fine_each : AllActs Fine (all_acts p st bits)
    fine_each =
        all_each p sound st d bits ls sim told 0 Fine
        (pair_both (λ x k a. fine_here p sound st d bits sim.arrays x.older x.live k strict careful a) (pairs ls) knowns lastings)

    -- each read and each write of a thread's stage finds the block of its location ready
    pub lets_in : AllActs (IsLet p st) (all_acts p st bits)
    lets_in =
        all_each p sound st d bits ls sim told 0 (IsLet p st)
        (pair_both (λ x k a. let_here p sound st d bits sim.arrays x.older x.live k strict careful a) (pairs ls) knowns lastings)

    -- by the movers of the stages
    list_is : (m : ℕ) → with_reserves m (Slots.moving p st bits) (lock_of st m) ≡ with_new p st bits m
    list_is m = ap (λ ms. with_reserves m ms (lock_of st m)) (sym by.movers)

    -- the threads of the state use the locks as the rules have it
    pub in_use : IsInUse p st bits
    in_use = record {
      count = count;
      plain = no_pending;
      unreleased = λ m h. ap (all_releases m) (sym by.movers) ∙ no_release m h;
      ordered = λ m. same_order 0 (lock_of st m) (list_ordered p sound st d bits ls sim told m);
      ordered_next = λ m. subst (AreOrdered 0) (sym (list_is m)) (same_order 0 (with_new p st bits m) (reserves p sound st d bits ls sim told m).ordered);
      two = λ m low. subst (λ ms. length (forget.addresses m ms) ≤ 2) by.movers (two_reserved m careful low);
      room = λ m. subst
          (λ ms. 1 ≤ length (forget.addresses m ms) → has_room (mem_at p m).lock (length (forget.addresses m ms)) (length (lock_of st m)) ≡ true)
          by.movers (room_reserved m);
      unreserved =
          λ k t m h low. sym (same_count t.number (lock_of st m))
          ∙ at_slot p st bits (FindsOlder st m (reserve_stage p m)) (finds_older p sound st d bits ls sim told m) k t h low;
      writer = λ k t m y v h g c.
          let w = at_here p st bits (Writes m y v) (writes_all m y v) k t h g c in (
            w.0,
            ap (forget.has_place t.number y) (list_is m) ∙ w.1,
            subst (forget.IsOnce t.number y) (sym (list_is m)) w.2,
            ap (count_older t.number) (list_is m)
                ∙ sole_older t.number y m (moving p st bits) (lock_of st m) (reserves p sound st d bits ls sim told m).one
                (reserves p sound st d bits ls sim told m).ordered w.1,
          );
      after =
          λ k t m h low. ap (count_older t.number) (list_is m) ∙ sym (same_count t.number (with_new p st bits m))
          ∙ at_slot p st bits (KeepsPlace p st bits m) (places p sound st d bits ls sim told m) k t h low ∙ same_count t.number (lock_of st m);
      releaser = λ m. subst (λ ms. AreWritten (all_releases m ms) (list_two st ms m)) by.movers (written m);
      few = λ m low. subst (λ ms. all_releases m ms ≤ 2) by.movers (two_released m careful low);
      shifts = λ k t m h low early stands.
          let s = at_slot p st bits (ShiftsPlace p st bits m) (shifts p sound st d bits ls sim told m) k t h early stands in
          let b = at_slot p st bits (KeepsPlace p st bits m) (places p sound st d bits ls sim told m) k t h low in
          ap (λ ms. count_older t.number (list_three st ms m) + all_releases m ms) (sym by.movers)
          ∙ sym (ap (λ x. x + all_releases m (moving p st bits)) (same_count t.number (with_release p st bits m)))
          ∙ s ∙ b ∙ same_count t.number (lock_of st m);
      held = λ k q t h e. at_here p st bits (Holds q) (holds_all q) k t h e;
      fine = λ k t h. at_here p st bits Fine fine_each k t h;
    }
