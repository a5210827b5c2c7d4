-- From what holds of each act of a cycle to the thread in each stage, and what two layers count alike.
use Rattle.std.proofs.Common.{◌≡◌, refl, sym, subst, ap, ap₂, ◌∙◌, ℕ, zero, suc, ◌+◌, ◌≤◌, Bool, true, false, List, [], ◌∷◌, ◌++◌, length, drop, Option, Some, None, ◌==◌, ◌&&◌, cond, if◌then◌else◌, arith, nat_lt, le-ltb, length-append, append-nil, slice_index_or}
use Rattle.std.proofs.lemmas.Bool.{eqb-true, ne_eqb}
use Rattle.pdl_semantics.specs.Flat.{Pipe, list_all}
use Rattle.pdl_semantics.specs.Locks.{has_room}
use Rattle.pdl_semantics.specs.Stages.{mem_at}
use Rattle.pdl_semantics.specs.Machine.{State, Thread, Pending, Reserved, reserves_of, lock_of, with_answers, deeds}
use Rattle.pdl_theory_turns.proofs.Writes.{and_left, and_right}
use Rattle.pdl_semantics.specs.Moves.{Act, act, acts, all_acts}
use Rattle.pdl_semantics.specs.Cycle.{new_entries, with_reserves}
use Rattle.pdl_lockapi.specs.Forget as forget
use Rattle.pdl_machine_facts.specs.Slots.{slot, with_now, here, stage_moves, slot_moves, later_acts}
use Rattle.pdl_theory_states.specs.Use.{AllActs, reserved_count}
use Rattle.pdl_semantics.specs.PendingLists.{AreOrdered, count_older}
use Rattle.pdl_word.specs.Each.{Each}
use Rattle.pdl_theory_states.proofs.PendingLists.{count_append}

-- EACH STAGE

module _ (p : Pipe) (st : State) (bits : List Bool) (P : Act → Type 0) where
  none_some : (t : Thread) → None ≡ Some t → ⊥
  none_some t e = cc

  acts_at : (xs : List (Option Thread)) (s k : ℕ) (t : Thread) → AllActs P (acts p st bits s xs) → slice_index_or xs k None ≡ Some t
      → P (act p st bits (acts p st bits (suc (s + k)) (drop (suc k) xs)) (s + k) (with_answers p st bits t))
  acts_at [] s k t h e = absurd (none_some t e)
  acts_at (None ∷ xs) s zero t h e = absurd (none_some t e)
  acts_at (None ∷ xs) s (suc k) t h e =
      let same : suc s + k ≡ s + suc k = omega arith in
      subst (λ n. P (act p st bits (acts p st bits (suc n) (drop (suc k) xs)) n (with_answers p st bits t))) same (acts_at xs (suc s) k t h e)
  acts_at (Some u ∷ xs) s zero t h e =
      let same : s ≡ s + 0 = omega arith in
      let is : u ≡ t = cc in
      subst (λ n. P (act p st bits (acts p st bits (suc n) xs) n (with_answers p st bits t))) same
      (subst (λ v. P (act p st bits (acts p st bits (suc s) xs) s (with_answers p st bits v))) is h.0)
  acts_at (Some u ∷ xs) s (suc k) t h e =
      let same : suc s + k ≡ s + suc k = omega arith in
      subst (λ n. P (act p st bits (acts p st bits (suc n) (drop (suc k) xs)) n (with_answers p st bits t))) same (acts_at xs (suc s) k t h.1 e)

  -- the act of the thread in a stage
  abbrev pub act_here : ℕ → Thread → Act
  act_here k t = record { stage = k; thread = t; does = deeds p st k t; moves = stage_moves p st bits k }

  -- what holds of each act of a cycle holds of the act of the thread in a stage, as it is with this cycle's answers
  pub at_here : AllActs P (all_acts p st bits) → (k : ℕ) (t : Thread) → here p st bits k ≡ Some t → P (act_here k t)
  at_here h k t e = at (slot st k) refl e
    where
      zero_k : 0 + k ≡ k
      zero_k = omega arith

      at : (o : Option Thread) → slot st k ≡ o → with_now p st bits o ≡ Some t → P (act_here k t)
      at None f g = absurd (none_some t g)
      at (Some u) f g =
          let is : with_answers p st bits u ≡ t = cc in
          let a = acts_at st.stages 0 k u h f in
          subst (λ b. P (record { stage = k; thread = t; does = deeds p st k t; moves = b })) (ap (slot_moves p st bits k) (sym e))
          (subst (λ v. P (act p st bits (later_acts p st bits k) k v)) is
          (subst (λ n. P (act p st bits (acts p st bits (suc n) (drop (suc k) st.stages)) n (with_answers p st bits u))) zero_k a))

  -- what holds of each act of a cycle holds of the act of the thread that stood in a stage, with this cycle's answers
  pub at_slot : AllActs P (all_acts p st bits) → (k : ℕ) (t : Thread) → slot st k ≡ Some t → P (act_here k (with_answers p st bits t))
  at_slot h k t e = at_here h k (with_answers p st bits t) (ap (with_now p st bits) e)

-- LISTS

-- pending writes that stand in the order of their threads stand in it
pub same_order : (t : ℕ) (es : List Pending) → AreOrdered t es → AreOrdered t es
same_order t [] h = tt
same_order t (e ∷ es) h = (h.0, same_order e.thread es h.1)

-- the pending writes that are older than a thread are as many on both sides
pub same_count : (t : ℕ) (es : List Pending) → count_older t es ≡ count_older t es
same_count t [] = refl
same_count t (e ∷ es) = ap (λ n. if nat_lt e.thread t then suc n else n) (same_count t es)

as_many : (m : ℕ) (rs : List Reserved) → reserves_of m rs ≡ length (forget.addresses_of m rs)
as_many m [] = refl
as_many m (r ∷ rs) = at (r.mem == m) (as_many m rs)
  where
    at : (b : Bool) → reserves_of m rs ≡ length (forget.addresses_of m rs)
        → cond b (suc (reserves_of m rs)) (reserves_of m rs) ≡ length (cond b (r.address ∷ []) [] ++ forget.addresses_of m rs)
    at true h = ap suc h
    at false h = h

counts_one : (n : ℕ) → ◌≡◌ {A = ℕ} (if suc n == 0 then 0 else 1) 1
counts_one n = ap (λ b. if b then 0 else 1) (ne_eqb (suc n) 0 (λ f. absurd (omega (arith, f))))

none_counted : (m : ℕ) (ms : List Act) → reserved_count m ms ≡ 0 → length (forget.addresses m ms) ≡ 0
none_counted m [] h = refl
none_counted m (a ∷ ms) h =
    let n = none_counted m ms (first (reserved_count m ms) _ h) in
    let k = as_many m a.does.reserves in
    let z = quiet (reserves_of m a.does.reserves) (second (reserved_count m ms) _ h) in
    let l = length-append (forget.addresses m ms) (forget.addresses_of m a.does.reserves) in
    omega (arith, n, k, z, l)
  where
    first : (i j : ℕ) → i + j ≡ 0 → i ≡ 0
    first i j e = omega (arith, e)

    second : (i j : ℕ) → i + j ≡ 0 → j ≡ 0
    second i j e = omega (arith, e)

    quiet : (n : ℕ) → ◌≡◌ {A = ℕ} (if n == 0 then 0 else 1) 0 → n ≡ 0
    quiet n e = at (n == 0) refl e
      where
        at : (b : Bool) → (n == 0) ≡ b → ◌≡◌ {A = ℕ} (if b then 0 else 1) 0 → n ≡ 0
        at true i k = eqb-true n 0 i
        at false i k = absurd (omega (arith, k))

-- where at most one thread reserves, and each no more than two, at most two addresses are reserved
pub few_reserved : (m : ℕ) (ms : List Act) → reserved_count m ms ≤ 1 → Each (λ a. reserves_of m a.does.reserves ≤ 2) ms
    → length (forget.addresses m ms) ≤ 2
few_reserved m [] h f = omega arith
few_reserved m (a ∷ ms) h f = at (reserves_of m a.does.reserves) refl (few_reserved m ms (low (reserved_count m ms) _ h) f.1)
  where
    low : (i j : ℕ) → i + j ≤ 1 → i ≤ 1
    low i j g = omega (arith, g)

    l : length (forget.addresses m ms ++ forget.addresses_of m a.does.reserves)
        ≡ length (forget.addresses m ms) + length (forget.addresses_of m a.does.reserves)
    l = length-append (forget.addresses m ms) (forget.addresses_of m a.does.reserves)

    at : (n : ℕ) → reserves_of m a.does.reserves ≡ n → length (forget.addresses m ms) ≤ 2 → length (forget.addresses m (a ∷ ms)) ≤ 2
    at zero e r = let k = as_many m a.does.reserves in omega (arith, l, k, e, r)
    at (suc n) e r =
        let k = as_many m a.does.reserves in
        let g = f.0 in
        let z = none_counted m ms (none (reserved_count m ms) (ap (λ j. if j == 0 then 0 else 1) e ∙ counts_one n) h) in
        omega (arith, l, k, g, z)
      where
        none : (i : ℕ) {j : ℕ} → j ≡ 1 → i + j ≤ 1 → i ≡ 0
        none i q g = omega (arith, q, g)

-- what holds of how many each of them reserves that reserves any, holds of how many are reserved, where at most one thread reserves
pub sole_reserved : (P : ℕ → Type 0) (m : ℕ) (ms : List Act) → reserved_count m ms ≤ 1
    → Each (λ a. 1 ≤ reserves_of m a.does.reserves → P (reserves_of m a.does.reserves)) ms
    → 1 ≤ length (forget.addresses m ms) → P (length (forget.addresses m ms))
sole_reserved P m [] h f some = absurd (omega (arith, some))
sole_reserved P m (a ∷ ms) h f some = at (reserves_of m a.does.reserves) refl (sole_reserved P m ms (low (reserved_count m ms) _ h) f.1)
  where
    low : (i j : ℕ) → i + j ≤ 1 → i ≤ 1
    low i j g = omega (arith, g)

    l : length (forget.addresses m ms ++ forget.addresses_of m a.does.reserves)
        ≡ length (forget.addresses m ms) + length (forget.addresses_of m a.does.reserves)
    l = length-append (forget.addresses m ms) (forget.addresses_of m a.does.reserves)

    at : (n : ℕ) → reserves_of m a.does.reserves ≡ n → (1 ≤ length (forget.addresses m ms) → P (length (forget.addresses m ms)))
        → P (length (forget.addresses m (a ∷ ms)))
    at zero e go =
        let k = as_many m a.does.reserves in
        let same : length (forget.addresses m ms) ≡ length (forget.addresses m (a ∷ ms)) = omega (arith, l, k, e) in
        subst P same (go (omega (arith, some, same)))
    at (suc n) e go =
        let k = as_many m a.does.reserves in
        let z = none_counted m ms (none (reserved_count m ms) (ap (λ j. if j == 0 then 0 else 1) e ∙ counts_one n) h) in
        let same : reserves_of m a.does.reserves ≡ length (forget.addresses m (a ∷ ms)) = omega (arith, l, k, z) in
        subst P same (f.0 (omega (arith, e)))
      where
        none : (i : ℕ) {j : ℕ} → j ≡ 1 → i + j ≤ 1 → i ≡ 0
        none i q g = omega (arith, q, g)

-- where there is room for reservations, there is room for those of one memory together
pub room_together : (p : Pipe) (st : State) (m : ℕ) (all rs : List Reserved)
    → list_all (λ r. has_room (mem_at p r.mem).lock (reserves_of r.mem all) (length (lock_of st r.mem))) rs ≡ true
    → 1 ≤ reserves_of m rs → has_room (mem_at p m).lock (reserves_of m all) (length (lock_of st m)) ≡ true
room_together p st m all [] h some = absurd (omega (arith, some))
room_together p st m all (r ∷ rs) h some = at (r.mem == m) refl some (room_together p st m all rs (and_right _ _ h))
  where
    at : (b : Bool) → (r.mem == m) ≡ b → 1 ≤ (if b then suc (reserves_of m rs) else reserves_of m rs)
        → (1 ≤ reserves_of m rs → has_room (mem_at p m).lock (reserves_of m all) (length (lock_of st m)) ≡ true)
        → has_room (mem_at p m).lock (reserves_of m all) (length (lock_of st m)) ≡ true
    at true e some go = subst (λ i. has_room (mem_at p i).lock (reserves_of i all) (length (lock_of st i)) ≡ true) (eqb-true r.mem m e) (and_left _ _ h)
    at false e some go = go some

-- OLDER THREADS

-- what a thread reserves is no older than a thread before it
new_young : (m n t : ℕ) (rs : List Reserved) → t ≤ n → count_older t (new_entries m n rs) ≡ 0
new_young m n t [] h = refl
new_young m n t (r ∷ rs) h = at (r.mem == m) (new_young m n t rs h)
  where
    at : (b : Bool) → count_older t (new_entries m n rs) ≡ 0
        → count_older t (cond b (record { thread = n; var = r.var; address = r.address; value = None } ∷ []) [] ++ new_entries m n rs) ≡ 0
    at true k = rw (le-ltb n t h) k
    at false k = k

-- nor of another one
new_other : (m n t y : ℕ) (rs : List Reserved) → (n == t) ≡ false → forget.has_place t y (new_entries m n rs) ≡ false
new_other m n t y [] h = refl
new_other m n t y (r ∷ rs) h = at (r.mem == m) (new_other m n t y rs h)
  where
    at : (b : Bool) → forget.has_place t y (new_entries m n rs) ≡ false
        → forget.has_place t y (cond b (record { thread = n; var = r.var; address = r.address; value = None } ∷ []) [] ++ new_entries m n rs) ≡ false
    at true k = ap (λ b. cond (b && (r.var == y)) true (forget.has_place t y (new_entries m n rs))) h ∙ k
    at false k = k

new_none : (m n : ℕ) (rs : List Reserved) → reserves_of m rs ≡ 0 → new_entries m n rs ≡ []
new_none m n [] h = refl
new_none m n (r ∷ rs) h = at (r.mem == m) h (new_none m n rs)
  where
    at : (b : Bool) → cond b (suc (reserves_of m rs)) (reserves_of m rs) ≡ 0 → (reserves_of m rs ≡ 0 → new_entries m n rs ≡ [])
        → cond b (record { thread = n; var = r.var; address = r.address; value = None } ∷ []) [] ++ new_entries m n rs ≡ []
    at true k f = absurd (cc k)
    at false k f = f k

new_some : (m n : ℕ) (rs : List Reserved) → 1 ≤ reserves_of m rs
    → (f : Pending) × (fs : List Pending) × (new_entries m n rs ≡ f ∷ fs) × (f.thread ≡ n)
new_some m n [] h = absurd (omega (arith, h))
new_some m n (r ∷ rs) h = at (r.mem == m) h (new_some m n rs)
  where
    at : (b : Bool) → 1 ≤ cond b (suc (reserves_of m rs)) (reserves_of m rs)
        → (1 ≤ reserves_of m rs → (f : Pending) × (fs : List Pending) × (new_entries m n rs ≡ f ∷ fs) × (f.thread ≡ n))
        → (f : Pending) × (fs : List Pending)
        × (cond b (record { thread = n; var = r.var; address = r.address; value = None } ∷ []) [] ++ new_entries m n rs ≡ f ∷ fs) × (f.thread ≡ n)
    at true k f = (record { thread = n; var = r.var; address = r.address; value = None }, new_entries m n rs, refl, refl)
    at false k f = f k

least_front : (u : ℕ) (es : List Pending) (f : Pending) (fs : List Pending) → AreOrdered u (es ++ f ∷ fs) → u ≤ f.thread
least_front u [] f fs o = o.0
least_front u (e ∷ es) f fs o = let k = least_front e.thread es f fs o.1 in let l = o.0 in omega (arith, k, l)

-- a thread that has a place is no younger than what stands behind that
place_below : (t y u : ℕ) (es : List Pending) (f : Pending) (fs : List Pending)
    → AreOrdered u (es ++ f ∷ fs) → forget.has_place t y es ≡ true → t ≤ f.thread
place_below t y u [] f fs o h = absurd (cc h)
place_below t y u (e ∷ es) f fs o h = at (e.thread == t) refl h (place_below t y e.thread es f fs o.1)
  where
    at : (b : Bool) → (e.thread == t) ≡ b → cond (b && (e.var == y)) true (forget.has_place t y es) ≡ true
        → (forget.has_place t y es ≡ true → t ≤ f.thread) → t ≤ f.thread
    at true i k go = let l = least_front e.thread es f fs o.1 in let same = eqb-true e.thread t i in omega (arith, l, same)
    at false i k go = go k

place_either : (t y : ℕ) (es fs : List Pending) → forget.has_place t y fs ≡ false → forget.has_place t y (es ++ fs) ≡ true → forget.has_place t y es ≡ true
place_either t y [] fs n h = absurd (cc (sym n ∙ h))
place_either t y (e ∷ es) fs n h = at ((e.thread == t) && (e.var == y)) h (place_either t y es fs n)
  where
    at : (b : Bool) → cond b true (forget.has_place t y (es ++ fs)) ≡ true → (forget.has_place t y (es ++ fs) ≡ true → forget.has_place t y es ≡ true)
        → cond b true (forget.has_place t y es) ≡ true
    at true k f = refl
    at false k f = f k

none_appended : (m : ℕ) (ms : List Act) (es : List Pending) → reserved_count m ms ≡ 0 → with_reserves m ms es ≡ es
none_appended m [] es h = refl
none_appended m (a ∷ ms) es h =
    ap₂ (λ x y. x ++ y) (none_appended m ms es (first (reserved_count m ms) _ h))
    (new_none m a.thread.number a.does.reserves (quiet (reserves_of m a.does.reserves) (second (reserved_count m ms) _ h)))
    ∙ append-nil es
  where
    first : (i j : ℕ) → i + j ≡ 0 → i ≡ 0
    first i j e = omega (arith, e)

    second : (i j : ℕ) → i + j ≡ 0 → j ≡ 0
    second i j e = omega (arith, e)

    quiet : (n : ℕ) → ◌≡◌ {A = ℕ} (if n == 0 then 0 else 1) 0 → n ≡ 0
    quiet n e = at (n == 0) refl e
      where
        at : (b : Bool) → (n == 0) ≡ b → ◌≡◌ {A = ℕ} (if b then 0 else 1) 0 → n ≡ 0
        at true i k = eqb-true n 0 i
        at false i k = absurd (omega (arith, k))

-- where at most one thread reserves, a thread that has a pending write finds no more of them older with what is appended
pub sole_older : (t y m : ℕ) (ms : List Act) (es : List Pending) → reserved_count m ms ≤ 1 → AreOrdered 0 (with_reserves m ms es)
    → forget.has_place t y (with_reserves m ms es) ≡ true → count_older t (with_reserves m ms es) ≡ count_older t es
sole_older t y m [] es h o p = refl
sole_older t y m (a ∷ ms) es h o p = at (reserves_of m a.does.reserves) refl (sole_older t y m ms es (low (reserved_count m ms) _ h))
  where
    low : (i j : ℕ) → i + j ≤ 1 → i ≤ 1
    low i j g = omega (arith, g)

    new : List Pending
    new = new_entries m a.thread.number a.does.reserves

    at : (n : ℕ) → reserves_of m a.does.reserves ≡ n
        → (AreOrdered 0 (with_reserves m ms es) → forget.has_place t y (with_reserves m ms es) ≡ true → count_older t
        (with_reserves m ms es) ≡ count_older t es)
        → count_older t (with_reserves m ms es ++ new) ≡ count_older t es
    at zero e go =
        let same : with_reserves m ms es ++ new ≡ with_reserves m ms es =
        ap (λ l. with_reserves m ms es ++ l) (new_none m a.thread.number a.does.reserves e) ∙ append-nil (with_reserves m ms es) in
        ap (count_older t) same
        ∙ go (subst (AreOrdered 0) same o) (sym (ap (forget.has_place t y) same) ∙ p)
    at (suc n) e go =
        let same : with_reserves m ms es ≡ es = none_appended m ms es (none (reserved_count m ms) (ap (λ j. if j == 0 then 0 else 1) e ∙ counts_one n) h) in
        ap (λ l. count_older t (l ++ new)) same
        ∙ behind (subst (λ l. AreOrdered 0 (l ++ new)) same o) (sym (ap (λ l. forget.has_place t y (l ++ new)) same) ∙ p)
      where
        none : (i : ℕ) {j : ℕ} → j ≡ 1 → i + j ≤ 1 → i ≡ 0
        none i q g = omega (arith, q, g)

        young : t ≤ a.thread.number → count_older t (es ++ new) ≡ count_older t es
        young l = let k = count_append t es new in let z = new_young m a.thread.number t a.does.reserves l in omega (arith, k, z)

        behind : AreOrdered 0 (es ++ new) → forget.has_place t y (es ++ new) ≡ true → count_older t (es ++ new) ≡ count_older t es
        behind o' p' = by (a.thread.number == t) refl
          where
            f : (f : Pending) × (fs : List Pending) × (new ≡ f ∷ fs) × (f.thread ≡ a.thread.number)
            f = new_some m a.thread.number a.does.reserves (omega (arith, e))

            by : (b : Bool) → (a.thread.number == t) ≡ b → count_older t (es ++ new) ≡ count_older t es
            by true i = young (let s = eqb-true a.thread.number t i in omega (arith, s))
            by false i =
                let l = place_below t y 0 es f.0 f.1 (subst (λ l. AreOrdered 0 (es ++ l)) f.2 o')
                (place_either t y es new (new_other m a.thread.number t y a.does.reserves i) p') in
                let q = f.3 in
                young (omega (arith, l, q))
