-- What ties a state of the stated machine to one of the derived machine, one cycle of both, and whole runs.
use Rattle.std.proofs.Common.{drop, take, ◌≡◌, refl, sym, ap, ap₂, ◌∙◌, subst, ℕ, zero, suc, ◌+◌, ◌≤◌, ◌<◌, Bool, true, false, ◌&&◌, ◌||◌, not, List, [], ◌∷◌, ◌++◌, length, Option, Some, None, is_some, is_none, ◌==◌, nat_lt, cond, if◌then◌else◌, arith, append-nil, slice_index_or, ltb-true, ltb-false, zero-add, add-zero, add-suc, suc-add, eq-eqb}
use Rattle.pdl_semantics.specs.Flat.{Arrays, Pipe, Mem, Stage, of_mem, after_commits, Array}
use Rattle.pdl_semantics.specs.Stages.{list_any, stage_at, goes_to, in_stage, is_inside}
use Rattle.pdl_semantics.specs.Sound.{is_delayed_read}
use Rattle.pdl_semantics.specs.Machine.{Ask, Awaited, Request, NoRequest, Owned, Orphan, is_answered, State, lock_of, fork_of, request_of, with_kept}
use Rattle.pdl_semantics.specs.Cycle.{awaited_of, for_mems, for_stages, all_releases, list_two, list_three, taken_out, with_commits, entries_left, request_left, request_next, port_writes, is_kept, squasher, with_all_advised}
use Rattle.pdl_theory_turns.proofs.EntryCommits.{released}
use Rattle.pdl_semantics.specs.Moves.{movers, next_stage}
use Rattle.pdl_semantics.specs.Promises.{row, wrote, DifferInAdvice}
use Rattle.pdl_semantics.specs.Cycle
use Rattle.pdl_semantics.specs.Machine
use Rattle.pdl_semantics.specs.Moves
use Rattle.pdl_theory_turns.specs.Derived.{Work, commits_of, asks_of, asked_at, next_ask, next_asks, find_ask, stage_flags, still}
use Rattle.pdl_theory_turns.specs.Derived
use Rattle.pdl_theory_turns.specs.Scans.{none_of}
use Rattle.pdl_theory_turns.proofs.Nested.{not_inside}
use Rattle.pdl_theory_simulation.proofs.FlowFacts.{Flows}
use Rattle.pdl_theory_turns.specs.Simulation.{SameTurn}
use Rattle.pdl_theory_turns.proofs.Writes.{row_committed}
use Rattle.pdl_theory_turns.proofs.Slots.{rev, stages_same}
use Rattle.pdl_theory_simulation.proofs.PerMemory.{at_mem, past_mems, mems_same, row_commits, past_commits, mems_range, asks_mems}
use Rattle.pdl_theory_simulation.proofs.LockRemovals.{Out}
use Rattle.pdl_theory_turns.proofs.Lists.{pend}
use Rattle.pdl_theory_turns.proofs.OwnEntries.{pend_own}
use Rattle.pdl_theory_simulation.proofs.Stretches.{Keeps, Fetched, AllFetched, unknown}
use Rattle.pdl_theory_simulation.proofs.StretchSteps.{AsksFrom}
use Rattle.pdl_theory_simulation.proofs.Seats.{Live, each_map, Ordered, Falls, dacts, lacts, lact, did, work_of_live, acts_back, pends, pends_append}
use Rattle.pdl_theory_simulation.proofs.Choices.{Matched, OwnedBy, AllOwned, Seated, Known, AllKnown, asks_here, like_here}
use Rattle.pdl_theory_simulation.proofs.Sayings.{AllForeseen}
use Rattle.pdl_theory_simulation.proofs.ThreadFacts.{sides, sorted, Pair}
use Rattle.pdl_theory_simulation.proofs.Orders.{sides_none, acts_of, acts_sorted, AllForetold, foreseen_all}
use Rattle.pdl_theory_simulation.proofs.ActOrder.{same_after, same_ports, Swaps, same_arrays}
use Rattle.pdl_theory_simulation.proofs.ForkLists.{fork_next}
use Rattle.pdl_theory_simulation.proofs.LockLists.{fell, next_live, go_on, Agrees, two, three, two_is, three_is, commits_here, unreleased, pends_on}
use Rattle.pdl_theory_simulation.proofs.LiveThreads.{made, born_live, lives_next, child_is, survive, agrees, squashes, any_rev}
use Rattle.pdl_theory_simulation.proofs.ThreadPlaces.{each_next, ordered_next, falls_next, made_next, ways_next, stage_is}
use Rattle.pdl_theory_simulation.proofs.Requests.{Asker, owned_by, asking, asked_is, shown_is, finds_is, one_asks, port_was_free, request_now, asked_now, matched_next, first_of}
use Rattle.pdl_theory_turns.proofs.OfStage.{none_stage}
use Rattle.pdl_word.specs.Each.{Each}
use Rattle.pdl_word.proofs.Each.{each_append}
use Rattle.pdl_theory_simulation.proofs.SimulatedStates.{Sim}
use Rattle.pdl_theory_simulation.proofs.CycleStarts
use Rattle.pdl_theory_simulation.proofs.Advising.{EachAdvisory, advises_all, fits_stage, advice_apart}

module _ (p : Pipe) (flows : Flows p) where
  -- only memories that are there are read
  pub fetch_low : (m s : ℕ) → none_of (is_delayed_read m) (in_stage s p.stmts) ≡ false → m < length p.mems
  fetch_low m s h = at (nat_lt m (length p.mems)) refl
    where
      at : (b : Bool) → nat_lt m (length p.mems) ≡ b → m < length p.mems
      at true e = ltb-true _ _ e
      at false e = absurd (cc (sym h ∙ none_stage (is_delayed_read m) s p.stmts (flows.unfetched m (ltb-false _ _ e))))

  module _ (st : State) (d : Derived.State) (bits : List Bool) (ls : List Live) (sim : Sim p st d ls)
      (told : AllForetold p flows st d bits sim.arrays ls) where
    known : AllKnown p flows st d bits sim.arrays ls
    known = CycleStarts.known p flows st d bits ls sim

    swaps : Swaps p flows st d bits sim.arrays ls
    swaps = CycleStarts.swaps p flows st d bits ls sim

    -- the stated acts of a cycle are those that the derived machine decides, by stages
    pub acts_are : Moves.all_acts p st bits ≡ acts_of p flows st d bits sim.arrays (sorted ls)
    acts_are =
        CycleStarts.stated_acts p flows st d bits ls sim
        ∙ acts_sorted p flows st d bits sim.arrays ls sim.matched st.next sim.seated sim.ordered sim.falls known sim.forks (length p.stages)
        (CycleStarts.inside_all p flows st d bits ls sim ls sim.seated) (CycleStarts.stated_acts p flows st d bits ls sim) told

    -- each thread that moves in the derived machine says what it was given
    pub foreseen : AllForeseen p flows st d bits sim.arrays ls
    foreseen =
        foreseen_all p flows st d bits sim.arrays ls sim.matched st.next sim.seated sim.ordered sim.falls known sim.forks acts_are told

    abbrev next_state : State
    next_state = CycleStarts.next_state p flows st d bits ls sim

    -- the state after a cycle is that after the same acts by age
    pub after_is : Cycle.cycle p st bits ≡ next_state
    after_is =
        (λ i. record (Cycle.after_acts p st bits (acts_are i)) { arrays = (Cycle.cycle p st bits).arrays })
        ∙ same_after p flows st d bits sim.arrays (Cycle.cycle p st bits).arrays ls swaps

    -- the stated ports of a cycle are those of the same acts by age
    pub ports_are : Cycle.ports p st (Moves.all_acts p st bits) ≡ Cycle.ports p st (lacts p st d bits ls)
    ports_are = ap (Cycle.ports p st) acts_are ∙ same_ports p flows st d bits sim.arrays ls swaps

    -- the derived machine's acts are those of the live threads, the oldest first
    pub derived_acts_are : Derived.all_acts p d bits ≡ rev (dacts p d bits ls)
    derived_acts_are = ap (Derived.acts p d bits []) sim.threads ∙ acts_back p d bits ls

    -- a squash of the stated machine leaves just those threads that the derived machine leaves
    pub fit : Agrees p d bits (squasher (movers (lacts p st d bits ls))) ls
    fit = agrees p flows st d bits sim.arrays st.next ls known foreseen sim.falls

    -- THE LOCKS

    list_is : (m : ℕ) → list_two st (movers (lacts p st d bits ls)) m ≡ two p flows st d bits sim.arrays m ls
    list_is m =
        ap (λ l. Cycle.with_all_writes m (movers (lacts p st d bits ls)) (Cycle.with_reserves m (movers (lacts p st d bits ls)) l)) (sim.locks m)
        ∙ two_is p flows st d bits sim.arrays m st.next ls sim.seated sim.ordered sim.falls

    out : (m : ℕ)
        → Out m (all_releases m (movers (lacts p st d bits ls))) (two p flows st d bits sim.arrays m ls) (three p flows st d bits sim.arrays m ls)
        (commits_here p flows st d bits sim.arrays m ls)
    out m = three_is p flows st d bits sim.arrays m ls known sim.ordered

    list_next : (m : ℕ) → list_three st (movers (lacts p st d bits ls)) m ≡ three p flows st d bits sim.arrays m ls
    list_next m = ap (drop (all_releases m (movers (lacts p st d bits ls)))) (list_is m) ∙ (out m).left

    -- the derived machine commits to m what the stated one takes out of the lock
    pub commits_are : (m : ℕ) → of_mem m (commits_of (rev (dacts p d bits ls))) ≡ released m (taken_out st (movers (lacts p st d bits ls)) m)
    commits_are m = (out m).shows ∙ ap (λ l. released m (take (all_releases m (movers (lacts p st d bits ls))) l)) (sym (list_is m))

    -- nothing is taken out of the lock of a memory that the pipe doesn't have
    pub never : (m : ℕ) → length p.mems ≤ m → taken_out st (movers (lacts p st d bits ls)) m ≡ []
    never m i = ap (λ b. take b (list_two st (movers (lacts p st d bits ls)) m)) (unreleased p flows st d bits sim.arrays m ls known (flows.unreleased m i))

    advises_here : (xs : List Pair) → EachAdvisory p (acts_of p flows st d bits sim.arrays xs)
    advises_here [] = tt
    advises_here (x ∷ xs) = (
      advises_all p (Machine.word_for st x.live.number) (in_stage x.live.thread.stage p.stmts) _
          (fits_stage p x.live.thread.stage p.stmts flows.advice) tt,
      advises_here xs,
    )

    arrays_next : DifferInAdvice p (Cycle.cycle p st bits).arrays (after_commits d.arrays (commits_of (rev (dacts p d bits ls))))
    arrays_next n plain =
        ap (λ these. with_all_advised (movers these) (with_commits st (movers these) 0 p.mems st.arrays) n) acts_are
        ∙ advice_apart p n (acts_of p flows st d bits sim.arrays (sorted ls)) _ plain (advises_here (sorted ls))
        ∙ ap (λ (a : Arrays). a n) (same_arrays p flows st d bits sim.arrays ls swaps st.arrays)
        ∙ at (nat_lt n (length p.mems)) refl
      where
        at : (b : Bool) → nat_lt n (length p.mems) ≡ b
            → with_commits st (movers (lacts p st d bits ls)) 0 p.mems st.arrays n ≡ after_commits d.arrays (commits_of (rev (dacts p d bits ls))) n
        at true e =
            row_commits st (movers (lacts p st d bits ls)) 0 n p.mems st.arrays (omega arith) (let i = ltb-true _ _ e in omega arith)
            ∙ ap₂ (λ (a : Array) c. wrote a c) (sim.arrays n plain) (sym (commits_are n))
            ∙ sym (row_committed n (commits_of (rev (dacts p d bits ls))) d.arrays)
        at false e =
            past_commits st (movers (lacts p st d bits ls)) 0 n p.mems st.arrays (let i = ltb-false _ _ e in omega arith)
            ∙ sim.arrays n plain
            ∙ ap (λ c. wrote (row d.arrays n) c) (sym (commits_are n ∙ ap (released n) (never n (ltb-false _ _ e))))
            ∙ sym (row_committed n (commits_of (rev (dacts p d bits ls))) d.arrays)

    -- THE NEXT STATES

    no_entries : (m : ℕ) → length p.mems ≤ m → (ks : List Live) → Each (λ k. Keeps p k.env k.thread × (with_kept k.kept k.env ≡ k.thread.env)) ks
        → pends m ks ≡ []
    no_entries m i [] o = refl
    no_entries m i (k ∷ ks) o =
        ap₂ (λ x y. x ++ y) (no_entries m i ks o.1) (pend_own m k.number k.thread.entries ∙ ap (pend m k.number) (unknown p flows k.env k.thread o.0.0 m i))

    pends_born : (m : ℕ) (c : Option (List ℕ)) → pends m (born_live p (d.hints 0) st.next c) ≡ []
    pends_born m None = refl
    pends_born m (Some x) = refl

    locks_next : (m : ℕ)
        → lock_of next_state m
        ≡ pends m (lives_next p flows st d bits sim.arrays ls)
    locks_next m = at (nat_lt m (length p.mems)) refl
      where
        at : (b : Bool) → nat_lt m (length p.mems) ≡ b
            → lock_of next_state m
            ≡ pends m (lives_next p flows st d bits sim.arrays ls)
        at true e =
            at_mem (λ j. entries_left (squasher (movers (lacts p st d bits ls))) (list_three st (movers (lacts p st d bits ls)) j)) 0 p.mems m []
            (ltb-true _ _ e)
            ∙ ap (λ j. entries_left (squasher (movers (lacts p st d bits ls))) (list_three st (movers (lacts p st d bits ls)) j)) (zero-add m)
            ∙ ap (entries_left (squasher (movers (lacts p st d bits ls)))) (list_next m)
            ∙ pends_on p flows st d bits sim.arrays m (squasher (movers (lacts p st d bits ls))) ls known fit
            ∙ sym (append-nil _) ∙ ap (λ x. pends m (go_on p st d bits ls) ++ x) (sym (pends_born m (made p flows st d bits sim.arrays ls)))
            ∙ sym (pends_append m (born_live p (d.hints 0) st.next (made p flows st d bits sim.arrays ls)) (go_on p st d bits ls))
        at false e =
            past_mems _ 0 p.mems m [] (ltb-false _ _ e)
            ∙ sym (no_entries m (ltb-false _ _ e) (lives_next p flows st d bits sim.arrays ls) (ways_next p flows st d bits sim.arrays ls known))

    -- THE REQUESTS

    request_is : (m : ℕ)
        → request_left (squasher (movers (lacts p st d bits ls))) (request_next p st bits (movers (lacts p st d bits ls)) m)
        ≡ request_now p flows st d bits sim.arrays (squasher (movers (lacts p st d bits ls))) ls m
    request_is m =
        ap (request_left (squasher (movers (lacts p st d bits ls))))
        (asked_is p flows st d bits sim.arrays m (if is_answered p bits m then NoRequest else request_of st m) ls known)

    requests_are : next_state.requests
        ≡ for_mems (request_now p flows st d bits sim.arrays (squasher (movers (lacts p st d bits ls))) ls) 0 p.mems
    requests_are = mems_same _ _ 0 p.mems request_is

    asked_are : (Derived.after_acts p d bits (rev (dacts p d bits ls))).asked ≡ for_mems (asked_now p flows st d bits sim.arrays ls) 0 p.mems
    asked_are =
        ap (next_asks p bits (asks_of (rev (dacts p d bits ls))) 0) sim.asked ∙ asks_mems p bits (asks_of (rev (dacts p d bits ls))) (asked_at d) 0 p.mems
        ∙ mems_same _ _ 0 p.mems
        (λ m. ap (λ q. next_ask q (is_answered p bits m) (asked_at d m)) (finds_is p flows st d bits sim.arrays m ls known sim.ordered))

    -- the stated request of a memory after a cycle is the new one, or what is left of the old one
    pub request_at : (m : ℕ) → m < length p.mems
        → request_of next_state m
        ≡ request_now p flows st d bits sim.arrays (squasher (movers (lacts p st d bits ls))) ls m
    request_at m h =
        ap (λ l. slice_index_or l m NoRequest) requests_are ∙ at_mem _ 0 p.mems m NoRequest h
        ∙ ap (request_now p flows st d bits sim.arrays (squasher (movers (lacts p st d bits ls))) ls) (zero-add m)

    -- the address that is outstanding for a memory in the derived machine after a cycle is the new one, or the old one that is left
    pub asked_next : (m : ℕ) → m < length p.mems
        → asked_at (Derived.after_acts p d bits (rev (dacts p d bits ls))) m ≡ asked_now p flows st d bits sim.arrays ls m
    asked_next m h = ap (λ l. slice_index_or l m None) asked_are ∙ at_mem _ 0 p.mems m None h ∙ ap (asked_now p flows st d bits sim.arrays ls) (zero-add m)

    matched_after : (m : ℕ)
        → Matched (request_of next_state m)
        (asked_at (Derived.after_acts p d bits (rev (dacts p d bits ls))) m) m (lives_next p flows st d bits sim.arrays ls)
    matched_after m = at (nat_lt m (length p.mems)) refl
      where
        at : (b : Bool) → nat_lt m (length p.mems) ≡ b
            → Matched
            (request_of next_state m)
            (asked_at (Derived.after_acts p d bits (rev (dacts p d bits ls))) m) m (lives_next p flows st d bits sim.arrays ls)
        at true e =
            subst (λ q. Matched q (asked_at (Derived.after_acts p d bits (rev (dacts p d bits ls))) m) m (lives_next p flows st d bits sim.arrays ls))
            (sym (request_at m (ltb-true _ _ e)))
            (subst (λ o. Matched (request_now p flows st d bits sim.arrays (squasher (movers (lacts p st d bits ls))) ls m) o m
            (lives_next p flows st d bits sim.arrays ls)) (sym (asked_next m (ltb-true _ _ e)))
            (matched_next p flows st d bits sim.arrays m st.next (made p flows st d bits sim.arrays ls) (squasher (movers (lacts p st d bits ls))) ls known fit
            (sim.matched m)))
        at false e =
            subst (λ q. Matched q (asked_at (Derived.after_acts p d bits (rev (dacts p d bits ls))) m) m (lives_next p flows st d bits sim.arrays ls))
            (sym (past_mems _ 0 p.mems m NoRequest (ltb-false _ _ e)))
            (ap (λ l. slice_index_or l m None) asked_are ∙ past_mems _ 0 p.mems m None (ltb-false _ _ e))

    nobody_asks : (l : Live) (m : ℕ) → OwnedBy st l.number m → is_answered p bits m ≡ false → (x : Option Asker)
        → asking p flows st d bits sim.arrays ls m ≡ x → asking p flows st d bits sim.arrays ls m ≡ None
    nobody_asks l m o i None e = e
    nobody_asks l m o i (Some a) e =
        absurd (cc (sym i ∙ port_was_free p flows st d bits sim.arrays m o.0 a ls known e (subst (λ q. Matched q (asked_at d m) m ls) o.1 (sim.matched m)).0))

    -- a request that is not answered stays its owner's
    pub request_stays : (l : Live) → is_kept (squasher (movers (lacts p st d bits ls))) l.number ≡ true → (m : ℕ) (o : OwnedBy st l.number m)
        → Fetched p l.thread.stage m → is_answered p bits m ≡ false
        → request_of next_state m
        ≡ Owned l.number o.0
    request_stays l s m o f e =
        request_at m (fetch_low m f.0 f.2)
        ∙ ap₂ (λ k b. request_left (squasher (movers (lacts p st d bits ls))) (owned_by k (if b then NoRequest else request_of st m)))
        (nobody_asks l m o e (asking p flows st d bits sim.arrays ls m) refl) e
        ∙ ap (request_left (squasher (movers (lacts p st d bits ls)))) o.1
        ∙ ap (λ b. if b then Owned l.number o.0 else Orphan o.0) s

    -- a request that is made in the cycle is owned by the thread that made it, where that is kept
    pub request_made : (l : Live)
        → is_kept (squasher (movers (lacts p st d bits ls))) l.number ≡ true → (m a : ℕ) → m < length p.mems
        → asking p flows st d bits sim.arrays ls m ≡ Some (record { number = l.number; address = a })
        → request_of next_state m
        ≡ Owned l.number a
    request_made l s m a low e =
        request_at m low
        ∙ ap (λ k. request_left (squasher (movers (lacts p st d bits ls))) (owned_by k (if is_answered p bits m then NoRequest else request_of st m))) e
        ∙ ap (λ b. if b then Owned l.number a else Orphan a) s

    -- an awaited read has its own request
    owned_stood : (l : Live) → is_kept (squasher (movers (lacts p st d bits ls))) l.number ≡ true → (rs : List Awaited) → AllOwned st l.number rs
        → AllFetched p l.thread.stage rs
        → AllOwned next_state l.number
        (still p bits rs)
    owned_stood l s [] o f = tt
    owned_stood l s (r ∷ rs) o f = at (is_answered p bits r.mem) refl (owned_stood l s rs o.1 f.1)
      where
        nobody : (x : Option Asker) → asking p flows st d bits sim.arrays ls r.mem ≡ x → is_answered p bits r.mem ≡ false
            → asking p flows st d bits sim.arrays ls r.mem ≡ None
        nobody None e i = e
        nobody (Some a) e i =
            absurd
            (cc (sym i ∙ port_was_free p flows st d bits sim.arrays r.mem o.0.0 a ls known e
            (subst (λ q. Matched q (asked_at d r.mem) r.mem ls) o.0.1 (sim.matched r.mem)).0))

        at : (b : Bool) → is_answered p bits r.mem ≡ b
            → AllOwned next_state l.number
            (still p bits rs)
            → AllOwned next_state l.number
            (cond b (still p bits rs) (r ∷ still p bits rs))
        at true e h = h
        at false e h = (
          (
            o.0.0,
            request_at r.mem (fetch_low r.mem f.0.0 f.0.2)
                ∙ ap₂ (λ k b. request_left (squasher (movers (lacts p st d bits ls))) (owned_by k (if b then NoRequest else request_of st r.mem)))
                (nobody (asking p flows st d bits sim.arrays ls r.mem) refl e) e
                ∙ ap (request_left (squasher (movers (lacts p st d bits ls)))) o.0.1
                ∙ ap (λ b. if b then Owned l.number o.0.0 else Orphan o.0.0) s,
          ),
          h,
        )

    -- an ask has its own request
    owned_moved : (l : Live)
        → is_kept (squasher (movers (lacts p st d bits ls))) l.number ≡ true → (all : List Ask)
        → ((m a : ℕ) → find_ask all m ≡ Some a → asking p flows st d bits sim.arrays ls m ≡ Some (record { number = l.number; address = a }))
        → (qs : List Ask) → AsksFrom (in_stage l.thread.stage p.stmts) qs → ((m : ℕ) → is_some (find_ask qs m) ≡ true → is_some (find_ask all m) ≡ true)
        → AllOwned next_state l.number
        (awaited_of qs)
    owned_moved l s all g [] f i = tt
    owned_moved l s all g (q ∷ qs) f i = (own (find_ask all q.mem) refl (i q.mem here), owned_moved l s all g qs f.1 (λ m h. i m (more m (q.mem == m) h)))
      where
        here : is_some (if q.mem == q.mem then Some q.address else find_ask qs q.mem) ≡ true
        here = ap (λ b. is_some (if b then Some q.address else find_ask qs q.mem)) (eq-eqb q.mem q.mem refl)

        more : (m : ℕ) (b : Bool) → is_some (find_ask qs m) ≡ true → is_some (if b then Some q.address else find_ask qs m) ≡ true
        more m true h = refl
        more m false h = h

        own : (x : Option ℕ) → find_ask all q.mem ≡ x → is_some x ≡ true
            → OwnedBy next_state l.number q.mem
        own None e h = absurd (cc h)
        own (Some a) e h = (
          a,
          request_at q.mem (fetch_low q.mem l.thread.stage f.0)
              ∙ ap
              (λ k. request_left (squasher (movers (lacts p st d bits ls))) (owned_by k (if is_answered p bits q.mem then NoRequest else request_of st q.mem)))
              (g q.mem a e)
              ∙ ap (λ b. if b then Owned l.number a else Orphan a) s,
        )

    -- each thread that lives on owns its requests
    owned_on : (ks : List Live) → AllKnown p flows st d bits sim.arrays ks → Ordered p ks → Agrees p d bits (squasher (movers (lacts p st d bits ls))) ks
        → ((m : ℕ) (a : Asker) → asking p flows st d bits sim.arrays ks m ≡ Some a → asking p flows st d bits sim.arrays ls m ≡ Some a)
        → Each
        (λ k. AllOwned next_state k.number k.thread.awaits)
        (go_on p st d bits ks)
    owned_on [] k o g h = tt
    owned_on (l ∷ ks) k o g h = at (fell p d bits ks) refl (owned_on ks k.1 o.1 g.1 (λ m a e. h m a (older m a e (did p d bits ks l).moves)))
      where
        older : (m : ℕ) (a : Asker) → asking p flows st d bits sim.arrays ks m ≡ Some a → (b : Bool)
            → cond b (first_of (find_ask (work_of_live p d bits ks l).asks m) l.number (asking p flows st d bits sim.arrays ks m))
            (asking p flows st d bits sim.arrays ks m)
            ≡ Some a
        older m a e true = ap (λ x. first_of x l.number (asking p flows st d bits sim.arrays ks m)) (one_asks p flows st d bits sim.arrays m a l ks k o e) ∙ e
        older m a e false = e

        mine : (did p d bits ks l).moves ≡ true
            → (m a : ℕ) → find_ask (work_of_live p d bits ks l).asks m ≡ Some a
            → asking p flows st d bits sim.arrays (l ∷ ks) m ≡ Some (record { number = l.number; address = a })
        mine i m a e = ap₂ (λ b x. cond b (first_of x l.number (asking p flows st d bits sim.arrays ks m)) (asking p flows st d bits sim.arrays ks m)) i e

        from_stage : AsksFrom (in_stage l.thread.stage p.stmts) (work_of_live p d bits ks l).asks
        from_stage =
            subst (λ (w : Work). AsksFrom (in_stage l.thread.stage p.stmts) w.asks) (sym (like_here p flows st d bits sim.arrays ks l k.0).is)
            (asks_here p flows st d bits sim.arrays ks l k.0)

        at : (f : Bool) → fell p d bits ks ≡ f
            → Each
            (λ k. AllOwned next_state k.number k.thread.awaits)
            (go_on p st d bits ks)
            → Each
            (λ k. AllOwned next_state k.number k.thread.awaits)
            ((if f then [] else next_live p st d bits ks l) ++ go_on p st d bits ks)
        at true e r = r
        at false e r =
            each_append (λ k. AllOwned next_state k.number k.thread.awaits) (next_live p st d bits ks l) (go_on p st d bits ks)
            (each_next p flows st d bits sim.arrays (λ k. AllOwned next_state k.number k.thread.awaits) ks l k.0
            (λ i. owned_stood l (g.0 ∙ ap not e) l.thread.awaits k.0.seated.owned k.0.seated.keeps_on.fetched)
            (λ i q j. owned_moved l (g.0 ∙ ap not e) (work_of_live p d bits ks l).asks (λ m a u. h m _ (mine i m a u))
            (work_of_live p d bits ks l).asks from_stage (λ m u. u)))
            r

    seated_next : Each
        (Seated p next_state)
        (lives_next p flows st d bits sim.arrays ls)
    seated_next =
        both (lives_next p flows st d bits sim.arrays ls) (ways_next p flows st d bits sim.arrays ls known) (owned (made p flows st d bits sim.arrays ls))
      where
        owned : (c : Option (List ℕ))
            → Each
            (λ k. AllOwned next_state k.number k.thread.awaits)
            (born_live p (d.hints 0) st.next c ++ go_on p st d bits ls)
        owned None = owned_on ls known sim.ordered fit (λ m a e. e)
        owned (Some x) = (tt, owned_on ls known sim.ordered fit (λ m a e. e))

        both : (ks : List Live) → Each (λ k. Keeps p k.env k.thread × (with_kept k.kept k.env ≡ k.thread.env)) ks
            → Each
            (λ k. AllOwned next_state k.number k.thread.awaits) ks
            → Each (Seated p next_state) ks
        both [] w o = tt
        both (k ∷ ks) w o = (record { keeps_on = w.0.0; kept_in = w.0.1; owned = o.0 }, both ks w.1 o.1)

    -- the forks' lists
    at_stage : {X : Type 0} → (g : ℕ → X) (k : ℕ) (xs : List Stage) (i : ℕ) (none : X) → i < length xs → slice_index_or (for_stages g k xs) i none ≡ g (k + i)
    at_stage g k [] i none h = absurd (omega arith)
    at_stage g k (x ∷ xs) zero none h = ap g (sym (add-zero k))
    at_stage g k (x ∷ xs) (suc i) none h = at_stage g (suc k) xs i none (omega arith) ∙ ap g (suc-add k i ∙ sym (add-suc k i))

    past_stages : {X : Type 0} → (g : ℕ → X) (k : ℕ) (xs : List Stage) (i : ℕ) (none : X) → length xs ≤ i → slice_index_or (for_stages g k xs) i none ≡ none
    past_stages g k [] i none h = refl
    past_stages g k (x ∷ xs) zero none h = absurd (omega arith)
    past_stages g k (x ∷ xs) (suc i) none h = past_stages g (suc k) xs i none (omega arith)

    none_inside : (f : ℕ) → length p.stages ≤ f → (ks : List Live) → Each (λ k. Keeps p k.env k.thread × (with_kept k.kept k.env ≡ k.thread.env)) ks
        → sides p f ks ≡ []
    none_inside f h ks o = sides_none p f ks (each_map (λ k w. outside k.thread.stage (w.0.inside)) ks o)
      where
        outside : (s : ℕ) → s < length p.stages → is_inside p f s ≡ false
        outside s low = not_inside p f s (λ x c i e. let below = (flows.graph.fork_below x c s i).1 in omega arith)

    forks_next : (f : ℕ)
        → fork_of next_state f
        ≡ sides p f (lives_next p flows st d bits sim.arrays ls)
    forks_next f = at (nat_lt f (length p.stages)) refl
      where
        at : (b : Bool) → nat_lt f (length p.stages) ≡ b
            → fork_of next_state f
            ≡ sides p f (lives_next p flows st d bits sim.arrays ls)
        at true e =
            at_stage
            (λ j. Cycle.branches_left p (Cycle.squash_stage (movers (lacts p st d bits ls))) j
            (Cycle.fork_next p st (movers (lacts p st d bits ls)) j)) 0 p.stages f [] (ltb-true _ _ e)
            ∙ ap (λ j. Cycle.branches_left p (Cycle.squash_stage (movers (lacts p st d bits ls))) j (Cycle.fork_next p st (movers (lacts p st d bits ls)) j))
            (zero-add f)
            ∙ ap
            (λ l. Cycle.branches_left p (Cycle.squash_stage (movers (lacts p st d bits ls))) f
            ((if Cycle.has_left p f (movers (lacts p st d bits ls)) then Cycle.but_first l else l)
            ++ Cycle.entered_branches p f (movers (lacts p st d bits ls)))) (sim.forks f)
            ∙ fork_next p flows st d bits sim.arrays f st.next (made p flows st d bits sim.arrays ls) ls known foreseen sim.ordered
        at false e =
            past_stages _ 0 p.stages f [] (ltb-false _ _ e)
            ∙ sym (none_inside f (ltb-false _ _ e) (lives_next p flows st d bits sim.arrays ls) (ways_next p flows st d bits sim.arrays ls known))

    -- the next states belong together
    next_sim : Sim p next_state
        (Derived.after_acts p d bits (rev (dacts p d bits ls))) (lives_next p flows st d bits sim.arrays ls)
    next_sim =
        record {
          arrays = arrays_next;
          threads = survive p flows st d bits sim.arrays ls known sim.have_made;
          stages = stages_same _ _ 0 p.stages (λ q i. ap (λ c. Cycle.or_then (if q == 0 then Cycle.born_thread p st.next c else None)
              (Cycle.if_kept (squasher (movers (lacts p st d bits ls))) (Cycle.next_thread p q (lacts p st d bits ls))))
              (child_is p flows st d bits sim.arrays ls known foreseen)
              ∙ stage_is p flows st d bits sim.arrays (squasher (movers (lacts p st d bits ls))) q ls known foreseen sim.ordered fit);
          locks = locks_next;
          falls =
              subst (λ c. Falls (if is_some c then suc st.next else st.next) (lives_next p flows st d bits sim.arrays ls))
              (sym (child_is p flows st d bits sim.arrays ls known foreseen)) (falls_next p flows st d bits sim.arrays ls sim.falls);
          ordered = ordered_next p flows st d bits sim.arrays ls known sim.ordered sim.have_made;
          seated = seated_next;
          have_made = made_next p flows st d bits sim.arrays ls known sim.have_made;
          forks = forks_next;
          requests = requests_are ∙ mems_range _ _ 0 p.mems (λ m i h. sym (request_at m (let j : m < length p.mems = omega arith in j)));
          asked = asked_are ∙ mems_range _ _ 0 p.mems (λ m i h. sym (asked_next m (let j : m < length p.mems = omega arith in j)));
          matched = matched_after;
        }

    -- states that belong together belong together after a cycle of both machines
    pub cycle_sim : Sim p (Cycle.cycle p st bits) (Derived.cycle p d bits) (lives_next p flows st d bits sim.arrays ls)
    cycle_sim =
        subst (λ s. Sim p s (Derived.cycle p d bits) (lives_next p flows st d bits sim.arrays ls)) (sym after_is)
        (subst (λ these. Sim p next_state (Derived.after_acts p d bits these) (lives_next p flows st d bits sim.arrays ls)) (sym derived_acts_are)
        next_sim)

    -- THE PORTS

    any_movers : (test : Moves.Act → Bool) (xs : List Moves.Act) → list_any test (movers xs) ≡ list_any (λ a. a.moves && test a) xs
    any_movers test [] = refl
    any_movers test (x ∷ xs) = at x.moves (any_movers test xs)
      where
        at : (b : Bool) → list_any test (movers xs) ≡ list_any (λ a. a.moves && test a) xs
            → list_any test (cond b (x ∷ movers xs) (movers xs)) ≡ ((b && test x) || list_any (λ a. a.moves && test a) xs)
        at true h = ap (λ b. test x || b) h
        at false h = h

    any_pair : (one : Moves.Act → Bool) (other : Derived.Act → Bool) (ks : List Live) → AllKnown p flows st d bits sim.arrays ks
        → ((ks : List Live) (l : Live) → Known p flows st d bits sim.arrays ks l → one (lact p st d bits ks l) ≡ other (did p d bits ks l))
        → list_any one (lacts p st d bits ks) ≡ list_any other (dacts p d bits ks)
    any_pair one other [] k f = refl
    any_pair one other (l ∷ ks) k f = ap₂ (λ a b. a || b) (f ks l k.0) (any_pair one other ks k.1 f)

    flags : (f : ℕ → Bool) (these : List Derived.Act) (test : Derived.Act → Bool) (s : ℕ) (xs : List Stage)
        → ((q : ℕ) → f q ≡ list_any (λ a. (a.before.stage == q) && test a) these) → for_stages f s xs ≡ stage_flags these test s xs
    flags f these test s [] h = refl
    flags f these test s (x ∷ xs) h = ap₂ (λ a l. a ∷ l) (h s) (flags f these test (suc s) xs h)

    and_true : (b : Bool) → b ≡ (b && true)
    and_true true = refl
    and_true false = refl

    and_comm : (a b : Bool) → (a && b) ≡ (b && a)
    and_comm true b = and_true b
    and_comm false true = refl
    and_comm false false = refl

    -- both waits ask the same of each memory
    waits_are : (f : ℕ → Request) (g : ℕ → Option ℕ) → ((m : ℕ) → Cycle.is_outstanding (f m) ≡ is_some (g m)) → (k : ℕ) (xs : List Mem)
        → Cycle.waits_from p bits k (for_mems f k xs) ≡ Derived.waits_from p bits k (for_mems g k xs)
    waits_are f g h k [] = refl
    waits_are f g h k (x ∷ xs) = at (g k) (ap₂ (λ a b. (a && not (is_answered p bits k)) || b) (h k) (waits_are f g h (suc k) xs))
      where
        at : (o : Option ℕ)
            → ((Cycle.is_outstanding (f k) && not (is_answered p bits k)) || Cycle.waits_from p bits (suc k) (for_mems f (suc k) xs))
            ≡ ((is_some o && not (is_answered p bits k)) || Derived.waits_from p bits (suc k) (for_mems g (suc k) xs))
            → ((Cycle.is_outstanding (f k) && not (is_answered p bits k)) || Cycle.waits_from p bits (suc k) (for_mems f (suc k) xs))
            ≡ Derived.waits_from p bits k (o ∷ for_mems g (suc k) xs)
        at None e = e
        at (Some a) e = e

    outstanding : (m : ℕ) → Cycle.is_outstanding (request_of st m) ≡ is_some (asked_at d m)
    outstanding m = at (request_of st m) (sim.matched m)
      where
        at : (q : Request) → Matched q (asked_at d m) m ls → Cycle.is_outstanding q ≡ is_some (asked_at d m)
        at NoRequest h = ap is_some (sym h)
        at (Owned n a) h = ap is_some (sym h.0)
        at (Orphan a) h = ap is_some (sym h)

    -- from states that belong together both machines have the same ports in a cycle, and both wait or neither
    pub turn_same : SameTurn p (record { ports = Cycle.ports p st (Moves.all_acts p st bits); wait = Cycle.is_wait p st bits })
        (record { ports = Derived.ports_of p (Derived.all_acts p d bits); wait = Derived.is_wait p d bits })
    turn_same =
        subst
        (λ ports. SameTurn p (record { ports = ports; wait = Cycle.is_wait p st bits })
        (record { ports = Derived.ports_of p (Derived.all_acts p d bits); wait = Derived.is_wait p d bits })) (sym ports_are)
        (subst (λ bs. SameTurn p (record { ports = Cycle.ports p st (lacts p st d bits ls); wait = Cycle.is_wait p st bits })
        (record { ports = Derived.ports_of p bs; wait = Derived.is_wait p d bits })) (sym derived_acts_are)
        (record {
          valid =
              flags _ (rev (dacts p d bits ls)) _ 0 p.stages
              (λ q. any_pair (λ a. a.stage == q) (λ a. (a.before.stage == q) && true) ls known (λ ks l k. and_true (l.thread.stage == q))
              ∙ sym (any_rev _ (dacts p d bits ls)));
          moves =
              flags _ (rev (dacts p d bits ls)) _ 0 p.stages
              (λ q. any_movers (λ a. a.stage == q) (lacts p st d bits ls)
              ∙ any_pair (λ a. a.moves && (a.stage == q)) (λ a. (a.before.stage == q) && a.moves) ls known (λ ks l k. and_comm _ (l.thread.stage == q))
              ∙ sym (any_rev _ (dacts p d bits ls)));
          commits = commits_shown;
          requests =
              mems_same _ _ 0 p.mems
              (λ m. shown_is p flows st d bits sim.arrays m ls known ∙ sym (finds_is p flows st d bits sim.arrays m ls known sim.ordered));
          ended = any_movers (λ a. is_none (next_stage p a.stage a.does)) (lacts p st d bits ls)
              ∙ any_pair (λ a. a.moves && is_none (next_stage p a.stage a.does)) (λ a. a.moves && is_none (Derived.exit_of p a)) ls known
              (λ ks l k. ap (λ (w : Work). (did p d bits ks l).moves && is_none (goes_to (stage_at p l.thread.stage).next w.env))
              (sym (like_here p flows st d bits sim.arrays ks l k).is))
              ∙ sym (any_rev _ (dacts p d bits ls));
          squash = squashes p flows st d bits sim.arrays st.next ls known foreseen sim.falls ∙ sym (any_rev _ (dacts p d bits ls));
          wait =
              ap (Cycle.waits_from p bits 0) sim.requests ∙ waits_are (request_of st) (asked_at d) outstanding 0 p.mems
              ∙ ap (Derived.waits_from p bits 0) (sym sim.asked);
        }))
      where
        commits_shown : (m : ℕ)
            → Cycle.commits_shown m (slice_index_or (for_mems (λ j. port_writes (taken_out st (movers (lacts p st d bits ls)) j)) 0 p.mems) m [])
            ≡ of_mem m (commits_of (rev (dacts p d bits ls)))
        commits_shown m = at (nat_lt m (length p.mems)) refl
          where
            at : (b : Bool) → nat_lt m (length p.mems) ≡ b
                → Cycle.commits_shown m (slice_index_or (for_mems (λ j. port_writes (taken_out st (movers (lacts p st d bits ls)) j)) 0 p.mems) m [])
                ≡ of_mem m (commits_of (rev (dacts p d bits ls)))
            at true e =
                ap (Cycle.commits_shown m)
                (at_mem (λ j. port_writes (taken_out st (movers (lacts p st d bits ls)) j)) 0 p.mems m [] (ltb-true _ _ e)
                ∙ ap (λ j. port_writes (taken_out st (movers (lacts p st d bits ls)) j)) (zero-add m))
                ∙ sym (commits_are m)
            at false e =
                ap (Cycle.commits_shown m)
                (past_mems (λ j. port_writes (taken_out st (movers (lacts p st d bits ls)) j)) 0 p.mems m [] (ltb-false _ _ e)
                ∙ ap port_writes (sym (never m (ltb-false _ _ e))))
                ∙ sym (commits_are m)
