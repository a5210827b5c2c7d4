-- Places among the pending writes of a lock in a cycle: what is appended and what is released is no younger than a thread, up to the stages where that matters.
use Rattle.std.proofs.Common.{◌≡◌, ◌≢◌, refl, sym, ap, ◌∙◌, subst, ℕ, zero, suc, ◌+◌, ◌≤◌, ◌<◌, inl, inr, Bool, true, false, List, [], ◌∷◌, ◌++◌, length, Option, Some, None, nat_le, cond, arith, le_refl, leb-true, leb-false, append-nil}
use Rattle.pdl_semantics.specs.Flat.{Pipe}
use Rattle.pdl_semantics.specs.Stages.{reserve_stage, commit_stage, verify_stage}
use Rattle.pdl_semantics.specs.Machine.{State, Pending}
use Rattle.pdl_semantics.specs.Moves.{movers}
use Rattle.pdl_semantics.specs.Cycle.{with_reserves, releases_of, all_releases}
use Rattle.pdl_theory_turns.specs.Derived
use Rattle.pdl_theory_turns.specs.Facts.{Sound}
use Rattle.pdl_theory_turns.proofs.CourseOf
use Rattle.pdl_theory_turns.proofs.Lists.{pend}
use Rattle.pdl_theory_turns.specs.Graphs.{Trunk}
use Rattle.pdl_theory_simulation.proofs.AcceptedFacts.{sound_flows}
use Rattle.pdl_theory_simulation.proofs.Stretches.{Behind, left_trunk}
use Rattle.pdl_theory_simulation.proofs.Seats.{Live, Falls, falls_each, Ordered, pends, lact, lacts, did, deeds_of}
use Rattle.pdl_theory_simulation.proofs.ThreadFacts.{Pair, pairs, EachPair, pair_map, pair_both, pairs_each}
use Rattle.pdl_theory_simulation.proofs.Choices.{Seated, AllKnown}
use Rattle.pdl_theory_simulation.proofs.LockLists.{release_here}
use Rattle.pdl_theory_states.proofs.ThreadFacts.{Lasting, Along}
use Rattle.pdl_theory_states.proofs.PendingLists.{within_count}
use Rattle.pdl_theory_states.proofs.LockCycle.{NoOlder, movers_no_older, count_appended, quiet_new, past_new, older_past, within_new, appended_more}
use Rattle.pdl_theory_states.proofs.OwnWrites.{none_pending}
use Rattle.pdl_theory_states.proofs.LockRelease.{LowFirst, low_append, low_within, enough}
use Rattle.pdl_machine_lockuse.proofs.ReleaseBarriers.{certain_here}
use Rattle.pdl_semantics.specs.PendingLists.{count_older}
use Rattle.pdl_semantics.specs.Promises.{DifferInAdvice}
use Rattle.pdl_word.specs.Each.{Each}

-- V is a trunk stage
verify_trunk : (p : Pipe) → Sound p → (v : ℕ) → verify_stage p.stmts ≡ Some v → Trunk p v
verify_trunk p sound v e = subst (λ n. Trunk p n) (v_is (verify_stage p.stmts) e) (CourseOf.v_trunk p sound (verify_stage p.stmts) refl)
  where
    v_is : (o : Option ℕ) → o ≡ Some v → CourseOf.v_of p sound o ≡ v
    v_is None i = absurd (cc i)
    v_is (Some w) i = cc i

-- a thread before the stage of the reserves leaves the list of the older ones as it is
quiet_same : (p : Pipe) (sound : Sound p) (st : State) (d : Derived.State) (bits : List Bool) (arrays : DifferInAdvice p st.arrays d.arrays)
    (m : ℕ) (ls : List Live)
    (l : Live)
    → Seated p st l → l.thread.stage < reserve_stage p m
    → with_reserves m (movers (lacts p st d bits (l ∷ ls))) (pends m (l ∷ ls)) ≡ with_reserves m (movers (lacts p st d bits ls)) (pends m ls)
quiet_same p sound st d bits arrays m ls l s low =
    ap (λ x. with_reserves m (movers (lacts p st d bits (l ∷ ls))) (pends m ls ++ x)) none
    ∙ ap (with_reserves m (movers (lacts p st d bits (l ∷ ls)))) (append-nil (pends m ls)) ∙ at (did p d bits ls l).moves
  where
    none : pend m l.number l.thread.entries ≡ []
    none = none_pending p (sound_flows p sound) st m l s (omega (arith, low))

    at : (b : Bool)
        → with_reserves m (cond b (lact p st d bits ls l ∷ movers (lacts p st d bits ls)) (movers (lacts p st d bits ls))) (pends m ls) ≡ with_reserves m
        (movers (lacts p st d bits ls)) (pends m ls)
    at true =
        ap (λ x. with_reserves m (movers (lacts p st d bits ls)) (pends m ls) ++ x)
        (quiet_new p (sound_flows p sound) st d bits arrays m l (λ e. absurd (omega (arith, low, e))))
        ∙ append-nil (with_reserves m (movers (lacts p st d bits ls)) (pends m ls))
    at false = refl

module _ (p : Pipe) (sound : Sound p) (st : State) (d : Derived.State) (bits : List Bool) (arrays : DifferInAdvice p st.arrays d.arrays) (m : ℕ) where
  abbrev new : List Live → List Pending
  new ls = with_reserves m (movers (lacts p st d bits ls)) (pends m ls)

  abbrev takes : Live → ℕ
  takes l = releases_of m (deeds_of p st bits l).releases

  -- WHAT IS RELEASED

  -- who releases has no older thread of a kind
  abbrev pub Bars : (Pair → Type 0) → List Live → Type 0
  Bars P [] = Unit {0}
  Bars P (l ∷ ls) = ((did p d bits ls l).moves ≡ true → takes l ≢ 0 → EachPair (λ x. P x → ⊥) (pairs ls)) × Bars P ls

  -- where who releases has no older thread of a kind, what is released is no younger than a thread of that kind
  pub up_released : (P : Pair → Type 0) (n : ℕ) (ls : List Live) → Bars P ls → Each (Seated p st) ls → AllKnown p (sound_flows p sound) st d bits arrays ls
      → Ordered p ls → Falls n ls
      → EachPair (λ x. P x → LowFirst (all_releases m (movers (lacts p st d bits ls))) (suc x.live.number) (new ls)) (pairs ls)
  up_released P n [] bars s k o f = tt
  up_released P n (l ∷ ls) bars s k o f = (
    (λ g. low_within (all_releases m (movers (lacts p st d bits (l ∷ ls)))) 0 (suc l.number) (new (l ∷ ls))
        (within_new p (sound_flows p sound) st d bits arrays m (suc l.number) (l ∷ ls) k o (le_refl (suc l.number), f.1))
        (enough p (sound_flows p sound) st d bits arrays m n (l ∷ ls) s k o f)),
    at (did p d bits ls l).moves refl (takes l) refl (appended_more p (sound_flows p sound) st d bits arrays m ls l s.0 o.0)
        (up_released P l.number ls bars.1 s.1 k.1 o.1 f.1),
  )
    where
      -- another one releases, or none
      other : (j : ℕ) → j ≡ all_releases m (movers (lacts p st d bits ls)) → (all : List Pending) → ((tail : List Pending) × (all ≡ new ls ++ tail))
          → EachPair (λ x. P x → LowFirst (all_releases m (movers (lacts p st d bits ls))) (suc x.live.number) (new ls)) (pairs ls)
          → EachPair (λ x. P x → LowFirst j (suc x.live.number) all) (pairs ls)
      other j e all t g =
          pair_map (λ x h i.
          subst (λ k. LowFirst k (suc x.live.number) all) (sym e)
          (subst (LowFirst (all_releases m (movers (lacts p st d bits ls))) (suc x.live.number)) (sym t.1)
          (low_append (all_releases m (movers (lacts p st d bits ls))) (suc x.live.number) (new ls) t.0 (h i))))
          (pairs ls) g

      at : (b : Bool) → (did p d bits ls l).moves ≡ b → (c : ℕ) → takes l ≡ c
          → ((b : Bool)
          → (tail : List Pending)
          × (with_reserves m (cond b (lact p st d bits ls l ∷ movers (lacts p st d bits ls)) (movers (lacts p st d bits ls)))
          (pends m ls ++ pend m l.number l.thread.entries)
          ≡ new ls ++ tail))
          → EachPair (λ x. P x → LowFirst (all_releases m (movers (lacts p st d bits ls))) (suc x.live.number) (new ls)) (pairs ls)
          → EachPair
          (λ x. P x
          → LowFirst (all_releases m (cond b (lact p st d bits ls l ∷ movers (lacts p st d bits ls)) (movers (lacts p st d bits ls)))) (suc x.live.number)
          (with_reserves m (cond b (lact p st d bits ls l ∷ movers (lacts p st d bits ls)) (movers (lacts p st d bits ls)))
          (pends m ls ++ pend m l.number l.thread.entries)))
          (pairs ls)
      at true i zero j t g = other (all_releases m (movers (lacts p st d bits ls)) + takes l) (let h = j in omega (arith, h)) _ (t true) g
      at true i (suc c) j t g = pair_map (λ x h i. absurd (h i)) (pairs ls) (bars.0 i (λ z. cc (sym j ∙ z)))
      at false i c j t g = other (all_releases m (movers (lacts p st d bits ls))) refl _ (t false) g

  -- no older thread stands up to the stage of the releases
  pub bars_commit : (ls : List Live) → AllKnown p (sound_flows p sound) st d bits arrays ls → Ordered p ls
      → Bars (λ x. x.live.thread.stage ≤ commit_stage p m) ls
  bars_commit [] k o = tt
  bars_commit (l ∷ ls) k o = (
    (λ i j. pair_map
        (λ x b g. absurd
        (let here = release_here p (sound_flows p sound) st d bits arrays ls l k.0 m j in
        let u : commit_stage p m < x.live.thread.stage = left_trunk p _ _ b (commit_stage p m) ((sound_flows p sound).trunk_commit m)
        (let v = here in omega arith) in
        let v = g in omega arith))
        (pairs ls) (pairs_each (λ k. Behind p l.thread.stage k.thread.stage) ls o.0)),
    bars_commit ls k.1 o.1,
  )

  -- no older thread stands up to V
  pub bars_verify : (v : ℕ) → verify_stage p.stmts ≡ Some v → (ls : List Live) → AllKnown p (sound_flows p sound) st d bits arrays ls → Ordered p ls
      → Along (Lasting p st) ls → Bars (λ x. x.live.thread.stage ≤ v) ls
  bars_verify v e [] k o a = tt
  bars_verify v e (l ∷ ls) k o a = ((λ i j. at (nat_le v l.thread.stage) refl i j), bars_verify v e ls k.1 o.1 a.1)
    where
      trunk : Trunk p v
      trunk = verify_trunk p sound v e

      at : (b : Bool) → nat_le v l.thread.stage ≡ b → (did p d bits ls l).moves ≡ true → takes l ≢ 0 → EachPair (λ x. x.live.thread.stage ≤ v → ⊥) (pairs ls)
      at true f i j =
          pair_map (λ x b g. let u : v < x.live.thread.stage = left_trunk p _ _ b v trunk (leb-true _ _ f) in absurd (let w = g in omega (arith, u, w)))
          (pairs ls)
          (pairs_each (λ k. Behind p l.thread.stage k.thread.stage) ls o.0)
      at false f i j =
          pair_map (λ x b g. absurd (let u = b in let w = g in omega (arith, u, w))) (pairs ls)
          (pairs_each (λ k. v < k.thread.stage) ls (certain_here p sound st d bits arrays ls l k.0 a.0 o.0 i m v e (leb-false _ _ f) j))

  -- WHAT IS APPENDED

  -- up to the stage of the reserves all are its own or older
  pub all_own : (n : ℕ) (ls : List Live) → AllKnown p (sound_flows p sound) st d bits arrays ls → Each (Seated p st) ls → Ordered p ls → Falls n ls
      → EachPair
      (λ x. x.live.thread.stage ≤ reserve_stage p m
      → count_older (suc x.live.number) (with_reserves m (movers (lacts p st d bits ls)) (pends m ls))
      ≡ length (with_reserves m (movers (lacts p st d bits ls)) (pends m ls)))
      (pairs ls)
  all_own n [] k s o f = tt
  all_own n (l ∷ ls) k s o f = (
    (λ h. within_count 0 (suc l.number) (suc l.number) (new (l ∷ ls))
        (within_new p (sound_flows p sound) st d bits arrays m (suc l.number) (l ∷ ls) k o (le_refl (suc l.number), f.1))
        (le_refl (suc l.number))),
    pair_both (λ x b g h. subst (λ xs. count_older (suc x.live.number) xs ≡ length xs) (sym (same x b h)) (g h)) (pairs ls)
        (pairs_each (λ k. Behind p l.thread.stage k.thread.stage) ls o.0) (all_own l.number ls k.1 s.1 o.1 f.1),
  )
    where
      -- behind a thread up to the stage of the reserves nobody has come to it
      same : (x : Pair) → Behind p l.thread.stage x.live.thread.stage → x.live.thread.stage ≤ reserve_stage p m → new (l ∷ ls) ≡ new ls
      same x b h = quiet_same p sound st d bits arrays m ls l s.0 (low (nat_le (reserve_stage p m) l.thread.stage) refl)
        where
          low : (c : Bool) → nat_le (reserve_stage p m) l.thread.stage ≡ c → l.thread.stage < reserve_stage p m
          low true e =
              absurd
              (let u : reserve_stage p m < x.live.thread.stage = left_trunk p _ _ b (reserve_stage p m) ((sound_flows p sound).trunk_reserve m)
              (leb-true _ _ e) in
              omega (arith, u, h))
          low false e = leb-false _ _ e

  -- threads past the stage of the reserves append nothing of older threads
  past_older : (t : ℕ) (ls : List Live) → Each (λ k. reserve_stage p m < k.thread.stage) ls → NoOlder t m (lacts p st d bits ls)
  past_older t [] h = tt
  past_older t (l ∷ ls) h = (inl (past_new p (sound_flows p sound) st d bits arrays m l h.0), past_older t ls h.1)

  no_older : (n : ℕ) (ls : List Live) → Ordered p ls → Falls n ls
      → EachPair (λ x. reserve_stage p m < x.live.thread.stage → NoOlder (suc x.live.number) m (lacts p st d bits ls)) (pairs ls)
  no_older n [] o f = tt
  no_older n (l ∷ ls) o f = (
    (λ h. (
      inl (past_new p (sound_flows p sound) st d bits arrays m l h),
      past_older (suc l.number) ls (older_past p (sound_flows p sound) st d bits arrays m l ls o.0 (let i = h in omega arith)),
    )),
    pair_both (λ x a g h. (inr (let i = a in omega arith), g h)) (pairs ls) (pairs_each (λ k. k.number < l.number) ls (falls_each l.number ls f.1))
        (no_older l.number ls o.1 f.1),
  )

  -- past the stage of the reserves nothing is appended to a thread's own and older pending writes
  pub tail_kept : (n : ℕ) (ls : List Live) (list : List Pending) → Ordered p ls → Falls n ls
      → EachPair
      (λ x. reserve_stage p m < x.live.thread.stage
      → count_older (suc x.live.number) (with_reserves m (movers (lacts p st d bits ls)) list) ≡ count_older (suc x.live.number) list)
      (pairs ls)
  tail_kept n ls list o f =
      pair_map
      (λ x g h. count_appended (suc x.live.number) m (movers (lacts p st d bits ls)) list (movers_no_older (suc x.live.number) m (lacts p st d bits ls) (g h)))
      (pairs ls) (no_older n ls o f)
