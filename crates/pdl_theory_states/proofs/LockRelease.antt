-- What a cycle's releases do to the list of a lock: a thread's place shifts by as many.
use Rattle.std.proofs.Common.{◌≡◌, ◌≢◌, refl, sym, ap, ◌∙◌, subst, ℕ, zero, suc, ◌+◌, ◌≤◌, ◌<◌, Bool, true, false, ◌&&◌, List, [], ◌∷◌, ◌++◌, length, drop, Some, ◌==◌, cond, arith, lt-ltb, nat_lt}
use Rattle.pdl_semantics.specs.Flat.{Pipe}
use Rattle.pdl_semantics.specs.Stages.{commit_stage}
use Rattle.pdl_semantics.specs.Machine.{State, Pending, Written}
use Rattle.pdl_semantics.specs.Moves.{Act, movers}
use Rattle.pdl_semantics.specs.Cycle.{with_reserves, with_value_of, with_writes_of, with_all_writes, all_releases, releases_of}
use Rattle.pdl_semantics.specs.Promises.{DifferInAdvice}
use Rattle.pdl_theory_turns.specs.Derived
use Rattle.pdl_theory_simulation.proofs.FlowFacts.{Flows}
use Rattle.pdl_theory_turns.proofs.Lists.{pend}
use Rattle.pdl_theory_simulation.proofs.Stretches.{Behind, left_trunk}
use Rattle.pdl_theory_simulation.proofs.Seats.{Live, Falls, Ordered, pends, lact, lacts, did, deeds_of}
use Rattle.pdl_theory_simulation.proofs.ThreadFacts.{Pair, pairs, EachPair, pair_map, pairs_each}
use Rattle.pdl_theory_simulation.proofs.Choices.{Seated, AllKnown}
use Rattle.pdl_theory_simulation.proofs.LockLists.{release_here, two_is, three_is}
use Rattle.pdl_semantics.proofs.Facts.{put_all_length}
use Rattle.pdl_theory_states.proofs.PendingLists.{Within, count_filled}
use Rattle.pdl_theory_states.proofs.LockCycle.{within_new, appended_more}
use Rattle.pdl_semantics.specs.PendingLists.{count_older}
use Rattle.pdl_word.specs.Each.{Each}

-- the first k pending writes are of threads older than this one
abbrev pub LowFirst : ℕ → ℕ → List Pending → Type 0
LowFirst zero t xs = Unit {0}
LowFirst (suc k) t [] = ⊥
LowFirst (suc k) t (x ∷ xs) = (x.thread < t) × LowFirst k t xs

-- what the first ones are is so in a longer list
pub low_append : (k t : ℕ) (xs ys : List Pending) → LowFirst k t xs → LowFirst k t (xs ++ ys)
low_append zero t xs ys h = tt
low_append (suc k) t [] ys h = absurd h
low_append (suc k) t (x ∷ xs) ys h = (h.0, low_append k t xs ys h.1)

-- the first of a list whose threads are all below a number are of threads below it
pub low_within : (k a t : ℕ) (xs : List Pending) → Within a t xs → k ≤ length xs → LowFirst k t xs
low_within zero a t xs w h = tt
low_within (suc k) a t [] w h = absurd (omega arith)
low_within (suc k) a t (x ∷ xs) w h = (w.1, low_within k x.thread t xs w.2 (omega arith))

-- writes keep the threads of a list
low_value : (k t n y v : ℕ) (xs : List Pending) → LowFirst k t xs → LowFirst k t (with_value_of n y v xs)
low_value zero t n y v xs h = tt
low_value (suc k) t n y v [] h = absurd h
low_value (suc k) t n y v (x ∷ xs) h = (at ((x.thread == n) && (x.var == y)), low_value k t n y v xs h.1)
  where
    at : (b : Bool) → (cond b (record x { value = Some v }) x).thread < t
    at true = h.0
    at false = h.0

low_put : (k t m n : ℕ) (ws : List Written) (xs : List Pending) → LowFirst k t xs → LowFirst k t (with_writes_of m n ws xs)
low_put k t m n [] xs h = h
low_put k t m n (w ∷ ws) xs h = low_put k t m n ws (cond (w.mem == m) (with_value_of n w.var w.value xs) xs) (at (w.mem == m))
  where
    at : (b : Bool) → LowFirst k t (cond b (with_value_of n w.var w.value xs) xs)
    at true = low_value k t n w.var w.value xs h
    at false = h

low_filled : (k t m : ℕ) (ms : List Act) (xs : List Pending) → LowFirst k t xs → LowFirst k t (with_all_writes m ms xs)
low_filled k t m [] xs h = h
low_filled k t m (a ∷ ms) xs h = low_put k t m a.thread.number a.does.writes (with_all_writes m ms xs) (low_filled k t m ms xs h)

filled_length : (m : ℕ) (ms : List Act) (xs : List Pending) → length (with_all_writes m ms xs) ≡ length xs
filled_length m [] xs = refl
filled_length m (a ∷ ms) xs = put_all_length m a.thread.number a.does.writes (with_all_writes m ms xs) ∙ filled_length m ms xs

-- where the first ones go, and they are older than a thread
count_dropped : (k t : ℕ) (xs : List Pending) → LowFirst k t xs → count_older t (drop k xs) + k ≡ count_older t xs
count_dropped zero t xs h = omega arith
count_dropped (suc k) t [] h = absurd h
count_dropped (suc k) t (x ∷ xs) h =
    let i = count_dropped k t xs h.1 in
    let j : cond (nat_lt x.thread t) (suc (count_older t xs)) (count_older t xs)
    ≡ suc (count_older t xs) = ap (λ b. cond b (suc (count_older t xs)) (count_older t xs)) (lt-ltb x.thread t h.0) in
    omega arith

-- where the first k are older than a thread, its place shifts by k as they are taken out, after all writes
pub count_released : (k t m : ℕ) (ms : List Act) (xs : List Pending) → LowFirst k t xs → count_older t (drop k (with_all_writes m ms xs)) + k ≡ count_older t xs
count_released k t m ms xs h = count_dropped k t (with_all_writes m ms xs) (low_filled k t m ms xs h) ∙ count_filled t m ms xs

module _ (p : Pipe) (flows : Flows p) (st : State) (d : Derived.State) (bits : List Bool) (arrays : DifferInAdvice p st.arrays d.arrays) (m : ℕ) where
  abbrev new : List Live → List Pending
  new ls = with_reserves m (movers (lacts p st d bits ls)) (pends m ls)

  abbrev gone : List Live → ℕ
  gone ls = all_releases m (movers (lacts p st d bits ls))

  -- as many as are released are pending
  pub enough : (n : ℕ) (ls : List Live) → Each (Seated p st) ls → AllKnown p flows st d bits arrays ls
      → Ordered p ls → Falls n ls → gone ls ≤ length (new ls)
  enough n ls s k o f =
      subst (λ j. gone ls ≤ j) (ap length (sym (two_is p flows st d bits arrays m n ls s o f)) ∙ filled_length m (movers (lacts p st d bits ls)) (new ls))
      (three_is p flows st d bits arrays m ls k o).enough

  -- a thread is not past the stage of m's releases, and doesn't move out of it in this cycle
  abbrev pub Stays : Pair → Type 0
  Stays x = (x.live.thread.stage ≤ commit_stage p m) × (x.live.thread.stage ≡ commit_stage p m → (did p d bits x.older x.live).moves ≡ false)

  -- what is released is older than each thread that stays up to the releases
  pub older_released : (n : ℕ) (ls : List Live) → Each (Seated p st) ls → AllKnown p flows st d bits arrays ls
      → Ordered p ls → Falls n ls
      → EachPair
      (λ x. Stays x → LowFirst (all_releases m (movers (lacts p st d bits ls))) x.live.number (with_reserves m (movers (lacts p st d bits ls)) (pends m ls)))
      (pairs ls)
  older_released n [] s k o f = tt
  older_released n (l ∷ ls) s k o f =
      at (did p d bits ls l).moves refl (releases_of m (deeds_of p st bits l).releases) refl
      (appended_more p flows st d bits arrays m ls l s.0 o.0)
      (older_released l.number ls s.1 k.1 o.1 f.1)
    where
      -- the thread itself releases
      own : (did p d bits ls l).moves ≡ true → releases_of m (deeds_of p st bits l).releases ≢ 0
          → (j : ℕ) (all : List Pending)
          → EachPair (λ x. Stays x → LowFirst j x.live.number all) (pairs (l ∷ ls))
      own i r j all = (
        (λ g. absurd (cc (sym i ∙ g.1 here))),
        pair_map
            (λ x b g. absurd
            (let u : commit_stage p m < x.live.thread.stage = left_trunk p _ _ b (commit_stage p m) (flows.trunk_commit m) (let v = here in omega arith) in
            let v = g.0 in omega arith))
            (pairs ls) (pairs_each (λ k. Behind p l.thread.stage k.thread.stage) ls o.0),
      )
        where
          here : l.thread.stage ≡ commit_stage p m
          here = release_here p flows st d bits arrays ls l k.0 m r

      -- an older one does, or none
      other : (j : ℕ) → j ≡ gone ls → (all : List Pending) → ((tail : List Pending) × (all ≡ new ls ++ tail))
          → EachPair (λ x. Stays x → LowFirst (gone ls) x.live.number (new ls)) (pairs ls)
          → EachPair (λ x. Stays x → LowFirst j x.live.number all) (pairs (l ∷ ls))
      other j e all t g = (
        (λ i. longer l.number (low_within
            (gone ls) 0 l.number (new ls) (within_new p flows st d bits arrays m l.number ls k.1 o.1 f.1) (enough l.number ls s.1 k.1 o.1 f.1))),
        pair_map (λ x h i. longer x.live.number (h i)) (pairs ls) g,
      )
        where
          longer : (n : ℕ) → LowFirst (gone ls) n (new ls) → LowFirst j n all
          longer n h = subst (λ i. LowFirst i n all) (sym e) (subst (λ xs. LowFirst (gone ls) n xs) (sym t.1) (low_append (gone ls) n (new ls) t.0 h))

      at : (b : Bool) → (did p d bits ls l).moves ≡ b → (c : ℕ) → releases_of m (deeds_of p st bits l).releases ≡ c
          → ((b : Bool)
          → (tail : List Pending)
          × (with_reserves m (cond b (lact p st d bits ls l ∷ movers (lacts p st d bits ls)) (movers (lacts p st d bits ls)))
          (pends m ls ++ pend m l.number l.thread.entries)
          ≡ new ls ++ tail))
          → EachPair (λ x. Stays x → LowFirst (gone ls) x.live.number (new ls)) (pairs ls)
          → EachPair
          (λ x. Stays x → LowFirst
          (all_releases m (cond b (lact p st d bits ls l ∷ movers (lacts p st d bits ls)) (movers (lacts p st d bits ls)))) x.live.number
          (with_reserves m (cond b (lact p st d bits ls l ∷ movers (lacts p st d bits ls)) (movers (lacts p st d bits ls)))
          (pends m ls ++ pend m l.number l.thread.entries)))
          (pairs (l ∷ ls))
      at true i zero j t g = other (gone ls + releases_of m (deeds_of p st bits l).releases) (let h = j in omega arith) _ (t true) g
      at true i (suc c) j t g = own i (λ z. cc (sym j ∙ z)) _ _
      at false i c j t g = other (gone ls) refl _ (t false) g
