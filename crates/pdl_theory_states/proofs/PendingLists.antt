-- Lists of pending writes by their threads.
use Rattle.std.proofs.Common.{◌≡◌, refl, ap, ◌∙◌, ℕ, suc, ◌+◌, ◌≤◌, ◌<◌, Bool, true, false, List, [], ◌∷◌, ◌++◌, length, ◌==◌, cond, if◌then◌else◌, arith, nat_lt, lt-ltb, le-ltb}
use Rattle.pdl_semantics.specs.Machine.{Pending, Reserved, Written}
use Rattle.pdl_semantics.specs.Moves.{Act}
use Rattle.pdl_semantics.specs.Cycle.{new_entries, with_value_of, with_writes_of, with_all_writes}
use Rattle.pdl_theory_turns.specs.Derived.{Entry}
use Rattle.pdl_theory_turns.proofs.Lists.{own, pend}
use Rattle.pdl_semantics.specs.PendingLists.{AreOrdered, count_older}
use Rattle.pdl_semantics.proofs.Facts.{put_older}

-- in two lists joined as many entries are older as in the first and in the second together
pub count_append : (t : ℕ) (xs ys : List Pending) → count_older t (xs ++ ys) ≡ count_older t xs + count_older t ys
count_append t [] ys = omega arith
count_append t (x ∷ xs) ys = at (nat_lt x.thread t) (count_append t xs ys)
  where
    at : (b : Bool) → count_older t (xs ++ ys) ≡ count_older t xs + count_older t ys
        → cond b (suc (count_older t (xs ++ ys))) (count_older t (xs ++ ys)) ≡ cond b (suc (count_older t xs)) (count_older t xs) + count_older t ys
    at true h = omega arith
    at false h = h

count_put_all : (t m n : ℕ) (ws : List Written) (xs : List Pending) → count_older t (with_writes_of m n ws xs) ≡ count_older t xs
count_put_all t m n [] xs = refl
count_put_all t m n (w ∷ ws) xs = count_put_all t m n ws (if w.mem == m then with_value_of n w.var w.value xs else xs) ∙ at (w.mem == m)
  where
    at : (b : Bool) → count_older t (cond b (with_value_of n w.var w.value xs) xs) ≡ count_older t xs
    at true = put_older t n w.var w.value xs
    at false = refl

-- values that are written leave the number of older threads' pending writes as it is
pub count_filled : (t m : ℕ) (ms : List Act) (xs : List Pending) → count_older t (with_all_writes m ms xs) ≡ count_older t xs
count_filled t m [] xs = refl
count_filled t m (a ∷ ms) xs = count_put_all t m a.thread.number a.does.writes (with_all_writes m ms xs) ∙ count_filled t m ms xs

-- pending writes of one thread
abbrev pub AllOf : ℕ → List Pending → Type 0
AllOf k [] = Unit {0}
AllOf k (x ∷ xs) = (x.thread ≡ k) × AllOf k xs

-- where the pending writes of two lists are all of thread k, those of both joined are
pub of_append : (k : ℕ) (xs ys : List Pending) → AllOf k xs → AllOf k ys → AllOf k (xs ++ ys)
of_append k [] ys f g = g
of_append k (x ∷ xs) ys f g = (f.0, of_append k xs ys f.1 g)

of_if : (k : ℕ) (b : Bool) (e : Pending) → e.thread ≡ k → AllOf k (cond b (e ∷ []) [])
of_if k true e h = (h, tt)
of_if k false e h = tt

-- the pending writes of a thread's entries are all of that thread
pub of_pend : (m n : ℕ) (es : List Entry) → AllOf n (pend m n es)
of_pend m n [] = tt
of_pend m n (e ∷ es) = of_append n (pend m n es) _ (of_pend m n es) (of_if n (e.mem == m) (own n e) refl)

-- the pending writes of a thread's reservations are all of that thread
pub of_new : (m n : ℕ) (rs : List Reserved) → AllOf n (new_entries m n rs)
of_new m n [] = tt
of_new m n (r ∷ rs) = of_append n _ (new_entries m n rs) (of_if n (r.mem == m) _ refl) (of_new m n rs)

-- among pending writes of thread k there is none of a thread older than t, where t is at most k
pub none_older : (t k : ℕ) (xs : List Pending) → AllOf k xs → t ≤ k → count_older t xs ≡ 0
none_older t k [] f h = refl
none_older t k (x ∷ xs) f h =
    ap (λ b. cond b (suc (count_older t xs)) (count_older t xs)) (le-ltb x.thread t (let e = f.0 in omega arith)) ∙ none_older t k xs f.1 h

-- in the order of their threads, from a on and below b
abbrev pub Within : ℕ → ℕ → List Pending → Type 0
Within a b [] = a ≤ b
Within a b (x ∷ xs) = (a ≤ x.thread) × (x.thread < b) × Within x.thread b xs

within_low : (a b c : ℕ) (xs : List Pending) → a ≤ b → Within b c xs → Within a c xs
within_low a b c [] h w = omega arith
within_low a b c (x ∷ xs) h w = (let i = w.0 in omega arith, w.1, w.2)

-- where pending writes are in order from a to b, a is no greater than b
pub within_order : (a b : ℕ) (xs : List Pending) → Within a b xs → a ≤ b
within_order a b [] w = w
within_order a b (x ∷ xs) w = let h = w.0 in let i = w.1 in omega arith

-- pending writes in order from a to b, and others from b to c, are together in order from a to c
pub within_append : (a b c : ℕ) (xs ys : List Pending) → Within a b xs → Within b c ys → Within a c (xs ++ ys)
within_append a b c [] ys v w = within_low a b c ys v w
within_append a b c (x ∷ xs) ys v w = (v.0, let h = v.1 in let i = within_order b c ys w in omega arith, within_append x.thread b c xs ys v.2 w)

-- at most one pending write, of a thread from a on and below b, is in order from a to b
pub within_of : (a b n : ℕ) (xs : List Pending) → a ≤ n → n < b → AllOf n xs → Within a b xs
within_of a b n [] h i f = omega arith
within_of a b n (x ∷ xs) h i f = (let e = f.0 in omega arith, let e = f.0 in omega arith, within_of x.thread b n xs (let e = f.0 in omega arith) i f.1)

-- pending writes in order from a to b are in order from a on
pub within_ordered : (a b : ℕ) (xs : List Pending) → Within a b xs → AreOrdered a xs
within_ordered a b [] w = tt
within_ordered a b (x ∷ xs) w = (w.0, within_ordered x.thread b xs w.2)

-- pending writes of threads below b are all older than thread t, where t is at least b
pub within_count : (a b t : ℕ) (xs : List Pending) → Within a b xs → b ≤ t → count_older t xs ≡ length xs
within_count a b t [] w h = refl
within_count a b t (x ∷ xs) w h =
    ap (λ c. cond c (suc (count_older t xs)) (count_older t xs)) (lt-ltb x.thread t (let i = w.1 in omega arith))
    ∙ ap suc (within_count x.thread b t xs w.2 h)
