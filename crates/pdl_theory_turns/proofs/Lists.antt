-- The list of a lock's pending writes is the live threads' entries, the oldest thread's first.
use Rattle.std.proofs.Common.{◌≡◌, refl, sym, ap, ap₂, ◌∙◌, ℕ, ◌+◌, ◌⊎◌, inl, inr, Bool, true, false, ◌&&◌, List, [], ◌∷◌, ◌++◌, length, Some, ◌==◌, cond, if◌then◌else◌, arith, nat_lt, append-nil, append_assoc, length-append}
use Rattle.pdl_semantics.specs.Locks.{Latest, as_latest}
use Rattle.pdl_semantics.specs.Machine.{Pending, youngest}
use Rattle.pdl_semantics.specs.Cycle.{new_entries, with_reserves, with_value_of, with_writes_of, with_all_writes}
use Rattle.pdl_semantics.specs.Machine
use Rattle.pdl_semantics.specs.Moves
use Rattle.pdl_theory_turns.specs.Derived.{Entry, latest_in, count_in}
use Rattle.pdl_semantics.proofs.Facts.{put_append}

-- a pending write of thread n, as it stands in the lock's list
abbrev pub own : ℕ → Entry → Pending
own n e = record { thread = n; var = e.var; address = e.address; value = e.value }

-- a thread's entries of m in its lock's list
abbrev pub pend : ℕ → ℕ → List Entry → List Pending
pend m n [] = []
pend m n (e ∷ es) = pend m n es ++ (if e.mem == m then own n e ∷ [] else [])

-- the youngest write that a thread finds in two lists is that of the second, else that of the first
pub youngest_append : (xs ys : List Pending) (n a : ℕ) (f : Latest) → youngest (xs ++ ys) n a f ≡ youngest ys n a (youngest xs n a f)
youngest_append [] ys n a f = refl
youngest_append (x ∷ xs) ys n a f = youngest_append xs ys n a (if nat_lt x.thread n && (x.address == a) then as_latest x.value else f)

-- the entries of an older thread are seen, its own and those of younger ones are not
pub youngest_older : (m k n a : ℕ) (es : List Entry) (f : Latest) → nat_lt k n ≡ true → youngest (pend m k es) n a f ≡ latest_in es m a f
youngest_older m k n a [] f h = refl
youngest_older m k n a (e ∷ es) f h =
    youngest_append (pend m k es) _ n a f
    ∙ at (e.mem == m)
    ∙ ap (λ r. cond ((e.mem == m) && (e.address == a)) (as_latest e.value) r) (youngest_older m k n a es f h)
  where
    at : (b : Bool)
        → youngest (cond b (own k e ∷ []) []) n a (youngest (pend m k es) n a f)
        ≡ cond (b && (e.address == a)) (as_latest e.value) (youngest (pend m k es) n a f)
    at true = ap (λ c. cond (c && (e.address == a)) (as_latest e.value) (youngest (pend m k es) n a f)) h
    at false = refl

-- a thread finds no pending write of one that isn't older
pub youngest_other : (m k n a : ℕ) (es : List Entry) (f : Latest) → nat_lt k n ≡ false → youngest (pend m k es) n a f ≡ f
youngest_other m k n a [] f h = refl
youngest_other m k n a (e ∷ es) f h = youngest_append (pend m k es) _ n a f ∙ at (e.mem == m) ∙ youngest_other m k n a es f h
  where
    at : (b : Bool) → youngest (cond b (own k e ∷ []) []) n a (youngest (pend m k es) n a f) ≡ youngest (pend m k es) n a f
    at true = ap (λ c. cond (c && (e.address == a)) (as_latest e.value) (youngest (pend m k es) n a f)) h
    at false = refl

-- a thread has as many pending writes of m as entries of m
pub length_pend : (m n : ℕ) (es : List Entry) → length (pend m n es) ≡ count_in es m
length_pend m n [] = refl
length_pend m n (e ∷ es) = length-append (pend m n es) _ ∙ at (e.mem == m) ∙ ap (λ k. cond (e.mem == m) (1 + k) k) (length_pend m n es)
  where
    at : (b : Bool) → length (pend m n es) + length (cond b (own n e ∷ []) []) ≡ cond b (1 + length (pend m n es)) (length (pend m n es))
    at true = omega arith
    at false = omega arith

-- none of the pending writes is of thread n
abbrev pub Foreign : ℕ → List Pending → Type 0
Foreign n [] = Unit {0}
Foreign n (x ∷ xs) = ((x.thread == n) ≡ false) × Foreign n xs

put_foreign : (n y v : ℕ) (xs : List Pending) → Foreign n xs → with_value_of n y v xs ≡ xs
put_foreign n y v [] h = refl
put_foreign n y v (x ∷ xs) h = ap₂ (λ b l. (cond (b && (x.var == y)) (record x { value = Some v }) x) ∷ l) h.0 (put_foreign n y v xs h.1)

-- a thread's writes leave the entries of others before its own alone
put_all_front : (m n : ℕ) (ws : List Machine.Written) (xs ys : List Pending) → Foreign n xs
    → with_writes_of m n ws (xs ++ ys) ≡ xs ++ with_writes_of m n ws ys
put_all_front m n [] xs ys h = refl
put_all_front m n (w ∷ ws) xs ys h = at (w.mem == m) (put_all_front m n ws xs (with_value_of n w.var w.value ys) h) (put_all_front m n ws xs ys h)
  where
    at : (b : Bool)
        → with_writes_of m n ws (xs ++ with_value_of n w.var w.value ys) ≡ xs ++ with_writes_of m n ws (with_value_of n w.var w.value ys)
        → with_writes_of m n ws (xs ++ ys) ≡ xs ++ with_writes_of m n ws ys
        → with_writes_of m n ws (cond b (with_value_of n w.var w.value (xs ++ ys)) (xs ++ ys)) ≡ xs ++ with_writes_of m n ws
        (cond b (with_value_of n w.var w.value ys) ys)
    at true f g =
        ap (with_writes_of m n ws) (put_append n w.var w.value xs ys ∙ ap (λ l. l ++ with_value_of n w.var w.value ys) (put_foreign n w.var w.value xs h)) ∙ f
    at false f g = g

put_all_back : (m n : ℕ) (ws : List Machine.Written) (xs ys : List Pending) → Foreign n ys
    → with_writes_of m n ws (xs ++ ys) ≡ with_writes_of m n ws xs ++ ys
put_all_back m n [] xs ys h = refl
put_all_back m n (w ∷ ws) xs ys h = at (w.mem == m) (put_all_back m n ws (with_value_of n w.var w.value xs) ys h) (put_all_back m n ws xs ys h)
  where
    at : (b : Bool)
        → with_writes_of m n ws (with_value_of n w.var w.value xs ++ ys) ≡ with_writes_of m n ws (with_value_of n w.var w.value xs) ++ ys
        → with_writes_of m n ws (xs ++ ys) ≡ with_writes_of m n ws xs ++ ys
        → with_writes_of m n ws (cond b (with_value_of n w.var w.value (xs ++ ys)) (xs ++ ys)) ≡ with_writes_of m n ws
        (cond b (with_value_of n w.var w.value xs) xs) ++ ys
    at true f g =
        ap (with_writes_of m n ws) (put_append n w.var w.value xs ys ∙ ap (λ l. with_value_of n w.var w.value xs ++ l) (put_foreign n w.var w.value ys h)) ∙ f
    at false f g = g

-- movers of smaller numbers leave these entries alone
abbrev pub AllForeign : List Moves.Act → List Pending → Type 0
AllForeign [] ys = Unit {0}
AllForeign (a ∷ ms) ys = Foreign a.thread.number ys × AllForeign ms ys

filled_back : (m : ℕ) (ms : List Moves.Act) (xs ys : List Pending) → AllForeign ms ys
    → with_all_writes m ms (xs ++ ys) ≡ with_all_writes m ms xs ++ ys
filled_back m [] xs ys h = refl
filled_back m (a ∷ ms) xs ys h =
    ap (with_writes_of m a.thread.number a.does.writes) (filled_back m ms xs ys h.1)
    ∙ put_all_back m a.thread.number a.does.writes (with_all_writes m ms xs) ys h.0

-- movers that reserve nothing of m
abbrev pub Reserveless : ℕ → List Moves.Act → Type 0
Reserveless m [] = Unit {0}
Reserveless m (a ∷ ms) = (new_entries m a.thread.number a.does.reserves ≡ []) × Reserveless m ms

appended_none : (m : ℕ) (ms : List Moves.Act) (list : List Pending) → Reserveless m ms → with_reserves m ms list ≡ list
appended_none m [] list h = refl
appended_none m (a ∷ ms) list h = ap₂ (λ x y. x ++ y) (appended_none m ms list h.1) h.0 ∙ append-nil list

-- entries at the end of a lock's list stay there as threads reserve, if there are none or no thread reserves m
pub appended_back : (m : ℕ) (ms : List Moves.Act) (xs ys : List Pending)
    → (ys ≡ []) ⊎ Reserveless m ms → with_reserves m ms (xs ++ ys) ≡ with_reserves m ms xs ++ ys
appended_back m ms xs ys (inl e) =
    ap (λ l. with_reserves m ms (xs ++ l)) e ∙ ap (with_reserves m ms) (append-nil xs)
    ∙ sym (append-nil (with_reserves m ms xs)) ∙ ap (λ l. with_reserves m ms xs ++ l) (sym e)
appended_back m ms xs ys (inr h) = appended_none m ms (xs ++ ys) h ∙ ap (λ l. l ++ ys) (sym (appended_none m ms xs h))

-- steps 1 and 2 of one more thread, the youngest
pub two_moved : (m : ℕ) (a : Moves.Act) (ms : List Moves.Act) (xs ys two : List Pending)
    → (ys ≡ []) ⊎ Reserveless m ms → AllForeign ms (ys ++ new_entries m a.thread.number a.does.reserves)
    → Foreign a.thread.number two → with_all_writes m ms (with_reserves m ms xs) ≡ two
    → with_all_writes m (a ∷ ms) (with_reserves m (a ∷ ms) (xs ++ ys)) ≡ two
    ++ with_writes_of m a.thread.number a.does.writes (ys ++ new_entries m a.thread.number a.does.reserves)
two_moved m a ms xs ys two e f g h =
    ap (λ l. with_writes_of m a.thread.number a.does.writes (with_all_writes m ms l))
    (ap (λ l. l ++ new_entries m a.thread.number a.does.reserves) (appended_back m ms xs ys e) ∙ append_assoc (with_reserves m ms xs) ys _)
    ∙ ap (with_writes_of m a.thread.number a.does.writes)
    (filled_back m ms (with_reserves m ms xs) (ys ++ new_entries m a.thread.number a.does.reserves) f
    ∙ ap (λ l. l ++ (ys ++ new_entries m a.thread.number a.does.reserves)) h)
    ∙ put_all_front m a.thread.number a.does.writes two (ys ++ new_entries m a.thread.number a.does.reserves) g

-- entries of no mover at the end of a lock's list stay there as movers reserve and write, if none reserves m
pub two_stays : (m : ℕ) (ms : List Moves.Act) (xs ys two : List Pending)
    → (ys ≡ []) ⊎ Reserveless m ms → AllForeign ms ys → with_all_writes m ms (with_reserves m ms xs) ≡ two
    → with_all_writes m ms (with_reserves m ms (xs ++ ys)) ≡ two ++ ys
two_stays m ms xs ys two e f h = ap (with_all_writes m ms) (appended_back m ms xs ys e) ∙ filled_back m ms (with_reserves m ms xs) ys f ∙ ap (λ l. l ++ ys) h
