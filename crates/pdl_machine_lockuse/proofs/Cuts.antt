-- What a squash leaves of the pending writes of a lock: those up to a thread that it leaves, and of a list in the order of its threads a front.
use Rattle.std.proofs.Common.{◌≡◌, refl, sym, ap, ◌∙◌, ℕ, zero, suc, ◌≤◌, ◌<◌, Bool, true, false, ◌&&◌, List, [], ◌∷◌, take, drop, Option, Some, None, ◌==◌, cond, if◌then◌else◌, arith, nat_lt, nat_le, leb-true, leb-false, le-ltb, lt-ltb}
use Rattle.pdl_semantics.specs.Machine.{Pending, Written}
use Rattle.pdl_semantics.specs.Moves.{Act}
use Rattle.pdl_semantics.specs.Cycle.{with_value_of, with_writes_of, with_all_writes, is_kept, entries_left}
use Rattle.pdl_semantics.specs.PendingLists.{AreOrdered, count_older}

-- THE ORDER OF A LIST

order_low : (s t : ℕ) (es : List Pending) → s ≤ t → AreOrdered t es → AreOrdered s es
order_low s t [] h o = tt
order_low s t (e ∷ es) h o = (let i = o.0 in omega (arith, h, i), o.1)

order_put : (t n y v : ℕ) (es : List Pending) → AreOrdered t es → AreOrdered t (with_value_of n y v es)
order_put t n y v [] o = tt
order_put t n y v (e ∷ es) o = at ((e.thread == n) && (e.var == y)) (order_put e.thread n y v es o.1)
  where
    at : (b : Bool) → AreOrdered e.thread (with_value_of n y v es)
        → AreOrdered t (cond b (record e { value = Some v }) e ∷ with_value_of n y v es)
    at true r = (o.0, r)
    at false r = (o.0, r)

order_put_all : (m t n : ℕ) (ws : List Written) (es : List Pending) → AreOrdered t es → AreOrdered t (with_writes_of m n ws es)
order_put_all m t n [] es o = o
order_put_all m t n (w ∷ ws) es o = order_put_all m t n ws (if w.mem == m then with_value_of n w.var w.value es else es) (at (w.mem == m))
  where
    at : (b : Bool) → AreOrdered t (cond b (with_value_of n w.var w.value es) es)
    at true = order_put t n w.var w.value es o
    at false = o

-- pending writes stand in the order of their threads after the writes of a cycle
pub order_filled : (m t : ℕ) (ms : List Act) (es : List Pending) → AreOrdered t es → AreOrdered t (with_all_writes m ms es)
order_filled m t [] es o = o
order_filled m t (a ∷ ms) es o = order_put_all m t a.thread.number a.does.writes (with_all_writes m ms es) (order_filled m t ms es o)

-- pending writes stand in the order of their threads without the oldest ones
pub order_behind : (k t : ℕ) (es : List Pending) → AreOrdered t es → AreOrdered t (drop k es)
order_behind zero t es o = o
order_behind (suc k) t [] o = tt
order_behind (suc k) t (e ∷ es) o = order_behind k t es (order_low t e.thread es o.0 o.1)

-- WHAT IS LEFT

-- a squash that leaves a thread leaves its pending writes and those of older ones
pub tail_left : (sq : Option ℕ) (n : ℕ) (es : List Pending)
    → is_kept sq n ≡ true → count_older (suc n) (entries_left sq es) ≡ count_older (suc n) es
tail_left sq n [] h = refl
tail_left sq n (e ∷ es) h = at (is_kept sq e.thread) refl (tail_left sq n es h)
  where
    beyond : (q : Option ℕ) → is_kept q n ≡ true → is_kept q e.thread ≡ false → nat_lt e.thread (suc n) ≡ false
    beyond None i j = absurd (cc j)
    beyond (Some q) i j = le-ltb e.thread (suc n) (let a = leb-true n q i in let b = leb-false e.thread q j in omega (arith, a, b))

    at : (b : Bool) → is_kept sq e.thread ≡ b → count_older (suc n) (entries_left sq es) ≡ count_older (suc n) es
        → count_older (suc n) (cond b (e ∷ entries_left sq es) (entries_left sq es)) ≡ count_older (suc n) (e ∷ es)
    at true i r = ap (λ k. if nat_lt e.thread (suc n) then suc k else k) r
    at false i r = r ∙ ap (λ b. cond b (suc (count_older (suc n) es)) (count_older (suc n) es)) (sym (beyond sq h i))

-- where all pending writes are of younger threads than the squasher, none is left
none_left : (t : ℕ) (from : ℕ) (es : List Pending)
    → t < from → AreOrdered from es → (entries_left (Some t) es ≡ []) × (count_older (suc t) es ≡ 0)
none_left t from [] h o = (refl, refl)
none_left t from (e ∷ es) h o =
    let r = none_left t e.thread es (let i = o.0 in omega (arith, h, i)) o.1 in (
      ap (λ b. cond b (e ∷ entries_left (Some t) es) (entries_left (Some t) es)) (gone (nat_le e.thread t) refl) ∙ r.0,
      ap (λ b. cond b (suc (count_older (suc t) es)) (count_older (suc t) es)) (le-ltb e.thread (suc t) (let i = o.0 in omega (arith, h, i))) ∙ r.1,
    )
  where
    gone : (b : Bool) → nat_le e.thread t ≡ b → nat_le e.thread t ≡ false
    gone true i = absurd (let j = leb-true e.thread t i in let k = o.0 in omega (arith, h, j, k))
    gone false i = i

take_nil : (k : ℕ) → take {A = Pending} k [] ≡ []
take_nil zero = refl
take_nil (suc k) = refl

-- a squash leaves a front of pending writes in order, those of the squasher and of older threads
pub front_left : (t from : ℕ) (es : List Pending) → AreOrdered from es → entries_left (Some t) es ≡ take (count_older (suc t) es) es
front_left t from [] o = sym (take_nil (count_older (suc t) []))
front_left t from (e ∷ es) o = at (nat_le e.thread t) refl (front_left t e.thread es o.1)
  where
    at : (b : Bool) → nat_le e.thread t ≡ b → entries_left (Some t) es ≡ take (count_older (suc t) es) es
        → cond b (e ∷ entries_left (Some t) es) (entries_left (Some t) es) ≡ take (count_older (suc t) (e ∷ es)) (e ∷ es)
    at true i r =
        ap (λ l. e ∷ l) r
        ∙ ap (λ b. take (cond b (suc (count_older (suc t) es)) (count_older (suc t) es)) (e ∷ es))
        (sym (lt-ltb e.thread (suc t) (let j = leb-true e.thread t i in omega (arith, j))))
    at false i k =
        let r = none_left t e.thread es (let j = leb-false e.thread t i in omega (arith, j)) o.1 in
        r.0
        ∙ ap (λ k. take k (e ∷ es))
        (sym
        (ap (λ b. cond b (suc (count_older (suc t) es)) (count_older (suc t) es))
        (le-ltb e.thread (suc t) (let j = leb-false e.thread t i in omega (arith, j)))
        ∙ r.1))
