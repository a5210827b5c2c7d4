-- What a cycle's reservations do to the list of a lock.
use Rattle.std.proofs.Common.{◌≡◌, ◌≢◌, refl, sym, ap, ap₂, ◌∙◌, subst, ℕ, suc, ◌+◌, ◌≤◌, ◌<◌, ◌⊎◌, inl, inr, Bool, true, false, List, [], ◌∷◌, ◌++◌, None, ◌==◌, cond, nat_le, arith, append_assoc, le_refl, leb-true, leb-false, eq-eqb}
use Rattle.std.proofs.lemmas.Bool.{eqb-true, eqb-false}
use Rattle.pdl_semantics.specs.Flat.{Pipe}
use Rattle.pdl_semantics.specs.Stages.{in_stage, is_reserve, reserve_stage}
use Rattle.pdl_semantics.specs.Machine.{State, Pending, Reserved, reserves_of, word_for}
use Rattle.pdl_semantics.specs.Moves.{Act, movers}
use Rattle.pdl_semantics.specs.Cycle.{new_entries, with_reserves}
use Rattle.pdl_semantics.specs.Promises.{DifferInAdvice}
use Rattle.pdl_theory_turns.specs.Derived
use Rattle.pdl_theory_simulation.proofs.FlowFacts.{Flows}
use Rattle.pdl_theory_turns.proofs.Turn.{none_in_stage}
use Rattle.pdl_theory_turns.proofs.Lists.{pend, Reserveless, appended_back}
use Rattle.pdl_theory_turns.proofs.OwnEntries.{quiet_reserves}
use Rattle.pdl_theory_simulation.proofs.Stretches.{Behind, left_trunk}
use Rattle.pdl_theory_simulation.proofs.Seats.{Live, each_map, Falls, falls_each, Ordered, pends, lact, lacts, did, deeds_of}
use Rattle.pdl_theory_simulation.proofs.ThreadFacts.{Pair, pairs, EachPair, pair_both, pairs_each, sorted}
use Rattle.pdl_theory_simulation.proofs.Orders.{acts_of}
use Rattle.pdl_theory_simulation.proofs.Choices.{Seated, AllKnown}
use Rattle.pdl_theory_simulation.proofs.ActOrder.{Swap, Swaps, same_movers}
use Rattle.pdl_theory_states.specs.Use.{reserved_count}
use Rattle.pdl_theory_states.proofs.PendingLists.{Within, within_append, within_of, of_append, of_pend, of_new, none_older, count_append}
use Rattle.pdl_theory_states.proofs.OwnWrites.{none_pending}
use Rattle.pdl_semantics.specs.PendingLists.{count_older}
use Rattle.pdl_word.specs.Each.{Each}

-- where nothing new is in the list, nothing is reserved
none_new : (m n : ℕ) (rs : List Reserved) → new_entries m n rs ≡ [] → reserves_of m rs ≡ 0
none_new m n [] h = refl
none_new m n (r ∷ rs) h = at (r.mem == m) h (none_new m n rs)
  where
    at : (b : Bool)
        → cond b (record { thread = n; var = r.var; address = r.address; value = None } ∷ []) [] ++ new_entries m n rs ≡ []
        → (new_entries m n rs ≡ [] → reserves_of m rs ≡ 0) → cond b (suc (reserves_of m rs)) (reserves_of m rs) ≡ 0
    at true k f = absurd (cc k)
    at false k f = f k

-- what is appended behind older threads' entries
abbrev pub NoOlder : ℕ → ℕ → List Act → Type 0
NoOlder t m [] = Unit {0}
NoOlder t m (a ∷ these) = ((new_entries m a.thread.number a.does.reserves ≡ []) ⊎ (t ≤ a.thread.number)) × NoOlder t m these

-- where no thread older than t reserves a write of memory m, none of those that move does
pub movers_no_older : (t m : ℕ) (these : List Act) → NoOlder t m these → NoOlder t m (movers these)
movers_no_older t m [] h = tt
movers_no_older t m (a ∷ these) h = at a.moves (movers_no_older t m these h.1)
  where
    at : (b : Bool) → NoOlder t m (movers these) → NoOlder t m (cond b (a ∷ movers these) (movers these))
    at true k = (h.0, k)
    at false k = k

-- reservations of threads that are not older leave the number of older threads' pending writes as it is
pub count_appended : (t m : ℕ) (ms : List Act) (list : List Pending) → NoOlder t m ms
    → count_older t (with_reserves m ms list) ≡ count_older t list
count_appended t m [] list h = refl
count_appended t m (a ∷ ms) list h =
    let e = count_append t (with_reserves m ms list) (new_entries m a.thread.number a.does.reserves) in
    let f = count_appended t m ms list h.1 in let g = none h.0 in omega arith
  where
    none : (new_entries m a.thread.number a.does.reserves ≡ []) ⊎ (t ≤ a.thread.number) → count_older t (new_entries m a.thread.number a.does.reserves) ≡ 0
    none (inl e) = ap (count_older t) e
    none (inr e) = none_older t a.thread.number _ (of_new m a.thread.number a.does.reserves) e

module _ (p : Pipe) (flows : Flows p) (st : State) (d : Derived.State) (bits : List Bool) (arrays : DifferInAdvice p st.arrays d.arrays) (m : ℕ) where
  -- a thread reserves in one stage alone
  pub quiet_new : (l : Live) → l.thread.stage ≢ reserve_stage p m → new_entries m l.number (deeds_of p st bits l).reserves ≡ []
  quiet_new l h =
      quiet_reserves m l.number (word_for st l.number)
      (in_stage l.thread.stage p.stmts) _ (none_in_stage (is_reserve m) (reserve_stage p m) l.thread.stage p.stmts (flows.reserves m) h) refl

  -- a thread past the stage of m's reserves reserves no write of m
  pub past_new : (l : Live) → reserve_stage p m < l.thread.stage → new_entries m l.number (deeds_of p st bits l).reserves ≡ []
  past_new l h = quiet_new l (λ e. absurd (let i = h in omega arith))

  -- all threads older than one that has come to the stage of m's reserves are past it
  pub older_past : (l : Live) (ls : List Live) → Each (λ k. Behind p l.thread.stage k.thread.stage) ls
      → reserve_stage p m ≤ l.thread.stage → Each (λ k. reserve_stage p m < k.thread.stage) ls
  older_past l ls b h = each_map (λ k i. left_trunk p _ _ i (reserve_stage p m) (flows.trunk_reserve m) h) ls b

  reserveless : (ls : List Live) → Each (λ k. reserve_stage p m < k.thread.stage) ls → Reserveless m (movers (lacts p st d bits ls))
  reserveless [] h = tt
  reserveless (l ∷ ls) h = at (did p d bits ls l).moves (reserveless ls h.1)
    where
      at : (b : Bool) → Reserveless m (movers (lacts p st d bits ls))
          → Reserveless m (cond b (lact p st d bits ls l ∷ movers (lacts p st d bits ls)) (movers (lacts p st d bits ls)))
      at true k = (past_new l h.0, k)
      at false k = k

  -- with a cycle's reservations a lock's list stays in thread order
  pub within_new : (n : ℕ) (ls : List Live) → AllKnown p flows st d bits arrays ls → Ordered p ls → Falls n ls
      → Within 0 n (with_reserves m (movers (lacts p st d bits ls)) (pends m ls))
  within_new n [] k o f = omega arith
  within_new n (l ∷ ls) k o f = at (did p d bits ls l).moves (within_new l.number ls k.1 o.1 f.1)
    where
      back : (pend m l.number l.thread.entries ≡ []) ⊎ Reserveless m (movers (lacts p st d bits ls))
      back = by (nat_le (reserve_stage p m) l.thread.stage) refl
        where
          by : (b : Bool) → nat_le (reserve_stage p m) l.thread.stage ≡ b
              → (pend m l.number l.thread.entries ≡ []) ⊎ Reserveless m (movers (lacts p st d bits ls))
          by true e = inr (reserveless ls (older_past l ls o.0 (leb-true _ _ e)))
          by false e = inl (none_pending p flows st m l k.0.seated (let i = leb-false _ _ e in omega arith))

      apart : with_reserves m (movers (lacts p st d bits ls)) (pends m ls ++ pend m l.number l.thread.entries)
          ≡ with_reserves m (movers (lacts p st d bits ls)) (pends m ls) ++ pend m l.number l.thread.entries
      apart = appended_back m (movers (lacts p st d bits ls)) (pends m ls) (pend m l.number l.thread.entries) back

      at : (b : Bool) → Within 0 l.number (with_reserves m (movers (lacts p st d bits ls)) (pends m ls))
          → Within 0 n
          (with_reserves m (cond b (lact p st d bits ls l ∷ movers (lacts p st d bits ls)) (movers (lacts p st d bits ls)))
          (pends m ls ++ pend m l.number l.thread.entries))
      at true h =
          subst (Within 0 n)
          (sym
          (ap (λ xs. xs ++ new_entries m l.number (deeds_of p st bits l).reserves) apart
          ∙ append_assoc (with_reserves m (movers (lacts p st d bits ls)) (pends m ls))
          (pend m l.number l.thread.entries) (new_entries m l.number (deeds_of p st bits l).reserves)))
          (within_append 0 l.number n _ _ h
          (within_of l.number n l.number _ (le_refl l.number) f.0
          (of_append l.number _ _ (of_pend m l.number l.thread.entries) (of_new m l.number (deeds_of p st bits l).reserves))))
      at false h =
          subst (Within 0 n) (sym apart)
          (within_append 0 l.number n _ _ h
          (within_of l.number n l.number _ (le_refl l.number) f.0 (of_pend m l.number l.thread.entries)))

  -- what is there with the older threads' reservations comes first
  pub appended_more : (ls : List Live) (l : Live) → Seated p st l → Each (λ k. Behind p l.thread.stage k.thread.stage) ls → (b : Bool)
      → (tail : List Pending)
      × (with_reserves m (cond b (lact p st d bits ls l ∷ movers (lacts p st d bits ls)) (movers (lacts p st d bits ls)))
      (pends m ls ++ pend m l.number l.thread.entries)
      ≡ with_reserves m (movers (lacts p st d bits ls)) (pends m ls) ++ tail)
  appended_more ls l s o b = at b
    where
      back : (pend m l.number l.thread.entries ≡ []) ⊎ Reserveless m (movers (lacts p st d bits ls))
      back = by (nat_le (reserve_stage p m) l.thread.stage) refl
        where
          by : (b : Bool) → nat_le (reserve_stage p m) l.thread.stage ≡ b
              → (pend m l.number l.thread.entries ≡ []) ⊎ Reserveless m (movers (lacts p st d bits ls))
          by true e = inr (reserveless ls (older_past l ls o (leb-true _ _ e)))
          by false e = inl (none_pending p flows st m l s (let i = leb-false _ _ e in omega arith))

      apart : with_reserves m (movers (lacts p st d bits ls)) (pends m ls ++ pend m l.number l.thread.entries)
          ≡ with_reserves m (movers (lacts p st d bits ls)) (pends m ls) ++ pend m l.number l.thread.entries
      apart = appended_back m (movers (lacts p st d bits ls)) (pends m ls) (pend m l.number l.thread.entries) back

      at : (b : Bool)
          → (tail : List Pending)
          × (with_reserves m (cond b (lact p st d bits ls l ∷ movers (lacts p st d bits ls)) (movers (lacts p st d bits ls)))
          (pends m ls ++ pend m l.number l.thread.entries)
          ≡ with_reserves m (movers (lacts p st d bits ls)) (pends m ls) ++ tail)
      at true = (
        _,
        ap (λ xs. xs ++ new_entries m l.number (deeds_of p st bits l).reserves) apart
            ∙ append_assoc (with_reserves m (movers (lacts p st d bits ls)) (pends m ls))
            (pend m l.number l.thread.entries) (new_entries m l.number (deeds_of p st bits l).reserves),
      )
      at false = (_, apart)

  -- at most one thread reserves
  none_reserved : (ms : List Act) → Reserveless m ms → reserved_count m ms ≡ 0
  none_reserved [] h = refl
  none_reserved (a ∷ ms) h = let i = none_reserved ms h.1 in
      let j : cond {A = ℕ} (reserves_of m a.does.reserves == 0) 0 1
      ≡ 0 = ap (λ b. cond {A = ℕ} b 0 1) (eq-eqb _ _ (none_new m a.thread.number a.does.reserves h.0)) in
      omega (arith, i, j)

  bit : (b : Bool) → cond {A = ℕ} b 0 1 ≤ 1
  bit true = omega arith
  bit false = omega arith

  -- at most one write of m is reserved in a cycle
  pub one_reserved : (ls : List Live) → AllKnown p flows st d bits arrays ls → Ordered p ls → reserved_count m (movers (lacts p st d bits ls)) ≤ 1
  one_reserved [] k o = omega arith
  one_reserved (l ∷ ls) k o = at (did p d bits ls l).moves (l.thread.stage == reserve_stage p m) refl (one_reserved ls k.1 o.1)
    where
      at : (b c : Bool) → (l.thread.stage == reserve_stage p m) ≡ c
          → reserved_count m (movers (lacts p st d bits ls)) ≤ 1
          → reserved_count m (cond b (lact p st d bits ls l ∷ movers (lacts p st d bits ls)) (movers (lacts p st d bits ls))) ≤ 1
      at false c e h = h
      at true true e h =
          let i = none_reserved (movers (lacts p st d bits ls)) (reserveless ls (older_past l ls o.0 (let j = eqb-true _ _ e in omega arith))) in
          let j = bit (reserves_of m (deeds_of p st bits l).reserves == 0) in
          omega arith
      at true false e h =
          let i : cond {A = ℕ} (reserves_of m (deeds_of p st bits l).reserves == 0) 0 1
          ≡ 0 = ap (λ b. cond {A = ℕ} b 0 1) (eq-eqb _ _ (none_new m l.number (deeds_of p st bits l).reserves (quiet_new l (eqb-false _ _ e)))) in
          omega (arith, h, i)

  -- nothing older is appended
  past_older : (t : ℕ) (ls : List Live) → Each (λ k. reserve_stage p m < k.thread.stage) ls → NoOlder t m (lacts p st d bits ls)
  past_older t [] h = tt
  past_older t (l ∷ ls) h = (inl (past_new l h.0), past_older t ls h.1)

  no_older : (n : ℕ) (ls : List Live) → Ordered p ls → Falls n ls
      → EachPair (λ x. reserve_stage p m ≤ x.live.thread.stage → NoOlder x.live.number m (lacts p st d bits ls)) (pairs ls)
  no_older n [] o f = tt
  no_older n (l ∷ ls) o f = (
    (λ h. (inr (le_refl l.number), past_older l.number ls (older_past l ls o.0 h))),
    pair_both (λ x a g h. (inr (let i = a in omega arith), g h)) (pairs ls)
        (pairs_each (λ k. k.number < l.number) ls (falls_each l.number ls f.1)) (no_older l.number ls o.1 f.1),
  )

  -- from the stage of m's reserves on, what the cycle reserves leaves a thread's place in the list as it is
  pub places_kept : (n : ℕ) (ls : List Live) (list : List Pending) → Ordered p ls → Falls n ls
      → EachPair
      (λ x. reserve_stage p m ≤ x.live.thread.stage
      → count_older x.live.number (with_reserves m (movers (lacts p st d bits ls)) list) ≡ count_older x.live.number list)
      (pairs ls)
  places_kept n ls list o f =
      pair_both (λ x a g h. count_appended x.live.number m (movers (lacts p st d bits ls)) list (movers_no_older x.live.number m (lacts p st d bits ls) (g h)))
      (pairs ls) (no_older n ls o f) (no_older n ls o f)

  -- IN THE ORDER OF THE STAGES

  swapped_new : (x y : Pair) → Swap p flows st d bits arrays x y
      → (new_entries m x.live.number (deeds_of p st bits x.live).reserves ≡ []) × (new_entries m y.live.number (deeds_of p st bits y.live).reserves ≡ [])
  swapped_new x y s = (
    quiet_new x.live
        (λ e. absurd
        (let i : reserve_stage p m < y.live.thread.stage = left_trunk p _ _ s.behind (reserve_stage p m) (flows.trunk_reserve m) (let j = e in omega arith) in
        let k = s.low in let j = e in omega arith)),
    quiet_new y.live
        (λ e. absurd
        (let i : reserve_stage p m < y.live.thread.stage = left_trunk p _ _ s.behind (reserve_stage p m) (flows.trunk_reserve m)
        (let k = s.low in let j = e in omega arith) in
        let j = e in omega arith)),
  )

  -- the list with a cycle's reservations is the same by stages and by age
  pub same_appended : (list : List Pending) (ls : List Live) → Swaps p flows st d bits arrays ls
      → with_reserves m (movers (acts_of p flows st d bits arrays (sorted ls))) list ≡ with_reserves m (movers (lacts p st d bits ls)) list
  same_appended list =
      same_movers p flows st d bits arrays (List Pending) (λ ms. with_reserves m ms list)
      (λ a z. z ++ new_entries m a.thread.number a.does.reserves) (λ a rest. refl)
      (λ x y s z. let none = swapped_new x y s in ap₂ (λ a b. (z ++ a) ++ b) none.0 none.1 ∙ sym (ap₂ (λ a b. (z ++ b) ++ a) none.0 none.1))

  -- as many writes of m are reserved by stages as by age
  pub same_reserved : (ls : List Live) → Swaps p flows st d bits arrays ls
      → reserved_count m (movers (acts_of p flows st d bits arrays (sorted ls))) ≡ reserved_count m (movers (lacts p st d bits ls))
  same_reserved =
      same_movers p flows st d bits arrays ℕ (reserved_count m) (λ a z. z + cond (reserves_of m a.does.reserves == 0) 0 1)
      (λ a rest. refl)
      (λ x y s z. flip z (cond (reserves_of m (deeds_of p st bits x.live).reserves == 0) 0 1)
      (cond (reserves_of m (deeds_of p st bits y.live).reserves == 0) 0 1))
    where
      flip : (z a b : ℕ) → (z + a) + b ≡ (z + b) + a
      flip z a b = omega arith
