-- What writes do to the pending writes of a lock: the machine's by their threads and variables, the lock's by tickets.
use Rattle.std.proofs.Common.{◌≡◌, ◌≢◌, refl, sym, ap, ap₂, ◌∙◌, subst, ℕ, zero, suc, ◌+◌, ◌<◌, ◌≤◌, Bool, true, false, ◌&&◌, List, [], ◌∷◌, ◌++◌, length, drop, Option, Some, None, arith, ◌==◌, ⊎_elim, append_assoc, append-nil, length-append, ltb-true, ne_eqb}
use Rattle.std.specs.Prelude.{if◌then◌else◌, nat_lt, Contains, ⊤}
use Rattle.std.proofs.lemmas.Bool.{cases_eq, eqb-true}
use Rattle.pdl_semantics.specs.Machine.{Pending, Written}
use Rattle.pdl_semantics.specs.Moves.{Act}
use Rattle.pdl_semantics.specs.Cycle.{new_entries, with_reserves, with_value_of, with_writes_of, with_all_writes, is_kept, entries_left}
use Rattle.pdl_net.specs.Circuit.{State}
use Rattle.pdl_lockapi.specs.Lock.{WriteAct, with_writes}
use Rattle.pdl_lockapi.specs.Lock as lock
use Rattle.pdl_lockapi.specs.Forget.{forgotten_entries, has_place, place_of, IsOnce, addresses_of, addresses}
use Rattle.pdl_lockapi.proofs.Lengths.{new_long}
use Rattle.pdl_lockapi.proofs.Threads.{same_put}
use Rattle.pdl_law_parts.specs.Walk.{Put, is_on}
use Rattle.pdl_law_parts.specs.Stands.{written_in}
use Rattle.pdl_semantics.specs.PendingLists.{AreOrdered, count_older}
use Rattle.pdl_semantics.specs.Sound.{entries_by}

-- THREADS AND VARIABLES

-- pending writes as they were reserved: without their values
abbrev pub as_reserved : List Pending → List Pending
as_reserved [] = []
as_reserved (e ∷ es) = record e { value = None } ∷ as_reserved es

-- a list of pending writes of the same threads, variables and addresses as another one
abbrev pub IsAlike : List Pending → List Pending → Type 0
IsAlike es fs = as_reserved es ≡ as_reserved fs

bare_count : (u : ℕ) (es : List Pending) → count_older u (as_reserved es) ≡ count_older u es
bare_count u [] = refl
bare_count u (e ∷ es) = ap (λ k. if nat_lt e.thread u then suc k else k) (bare_count u es)

bare_has : (u z : ℕ) (es : List Pending) → has_place u z (as_reserved es) ≡ has_place u z es
bare_has u z [] = refl
bare_has u z (e ∷ es) = ap (λ b. if (e.thread == u) && (e.var == z) then true else b) (bare_has u z es)

bare_place : (u z : ℕ) (es : List Pending) → place_of u z (as_reserved es) ≡ place_of u z es
bare_place u z [] = refl
bare_place u z (e ∷ es) = ap (λ n. if (e.thread == u) && (e.var == z) then 0 else suc n) (bare_place u z es)

bare_once : (u z : ℕ) (es : List Pending) → IsOnce u z es → IsOnce u z (as_reserved es)
bare_once u z [] o = tt
bare_once u z (e ∷ es) o = ((λ i. bare_has u z es ∙ o.0 i), bare_once u z es o.1)

once_bare : (u z : ℕ) (es : List Pending) → IsOnce u z (as_reserved es) → IsOnce u z es
once_bare u z [] o = tt
once_bare u z (e ∷ es) o = ((λ i. sym (bare_has u z es) ∙ o.0 i), once_bare u z es o.1)

bare_ordered : (u : ℕ) (es : List Pending) → AreOrdered u es → AreOrdered u (as_reserved es)
bare_ordered u [] o = tt
bare_ordered u (e ∷ es) o = (o.0, bare_ordered e.thread es o.1)

ordered_bare : (u : ℕ) (es : List Pending) → AreOrdered u (as_reserved es) → AreOrdered u es
ordered_bare u [] o = tt
ordered_bare u (e ∷ es) o = (o.0, ordered_bare e.thread es o.1)

bare_long : (es : List Pending) → length (as_reserved es) ≡ length es
bare_long [] = refl
bare_long (e ∷ es) = ap suc (bare_long es)

bare_own : (u : ℕ) (es : List Pending) → as_reserved (entries_by u es) ≡ entries_by u (as_reserved es)
bare_own u [] = refl
bare_own u (e ∷ es) = at (e.thread == u) (bare_own u es)
  where
    at : (b : Bool) → as_reserved (entries_by u es) ≡ entries_by u (as_reserved es)
        → as_reserved (if b then e ∷ entries_by u es else entries_by u es)
        ≡ (if b then record e { value = None } ∷ entries_by u (as_reserved es) else entries_by u (as_reserved es))
    at true h = ap (λ l. record e { value = None } ∷ l) h
    at false h = h

-- of two lists of pending writes that are alike one is as long as the other
pub alike_long : (es fs : List Pending) → IsAlike es fs → length es ≡ length fs
alike_long es fs h = sym (bare_long es) ∙ ap length h ∙ bare_long fs

-- of two lists that are alike one has as many writes of threads older than a thread as the other
pub alike_count : (u : ℕ) (es fs : List Pending) → IsAlike es fs → count_older u es ≡ count_older u fs
alike_count u es fs h = sym (bare_count u es) ∙ ap (count_older u) h ∙ bare_count u fs

-- of two lists that are alike one has a write of a thread and a variable where the other has
pub alike_has : (u z : ℕ) (es fs : List Pending) → IsAlike es fs → has_place u z es ≡ has_place u z fs
alike_has u z es fs h = sym (bare_has u z es) ∙ ap (has_place u z) h ∙ bare_has u z fs

-- of two lists that are alike one has the first write of a thread and a variable at the same place as the other
pub alike_place : (u z : ℕ) (es fs : List Pending) → IsAlike es fs → place_of u z es ≡ place_of u z fs
alike_place u z es fs h = sym (bare_place u z es) ∙ ap (place_of u z) h ∙ bare_place u z fs

-- of two lists that are alike one has at most one write of a thread and a variable where the other has at most one
pub alike_once : (u z : ℕ) (es fs : List Pending) → IsAlike es fs → IsOnce u z fs → IsOnce u z es
alike_once u z es fs h o = once_bare u z es (subst (IsOnce u z) (sym h) (bare_once u z fs o))

-- of two lists that are alike one is in the order of its threads where the other is
pub alike_ordered : (u : ℕ) (es fs : List Pending) → IsAlike es fs → AreOrdered u fs → AreOrdered u es
alike_ordered u es fs h o = ordered_bare u es (subst (AreOrdered u) (sym h) (bare_ordered u fs o))

-- of two lists that are alike a thread's own writes are alike
pub alike_own : (u : ℕ) (es fs : List Pending) → IsAlike es fs → IsAlike (entries_by u es) (entries_by u fs)
alike_own u es fs h = bare_own u es ∙ ap (entries_by u) h ∙ sym (bare_own u fs)

-- a write keeps the threads and the variables
put_alike : (t y v : ℕ) (es : List Pending) → IsAlike (with_value_of t y v es) es
put_alike t y v [] = refl
put_alike t y v (e ∷ es) = at ((e.thread == t) && (e.var == y)) (put_alike t y v es)
  where
    at : (b : Bool) → IsAlike (with_value_of t y v es) es
        → IsAlike ((if b then record e { value = Some v } else e) ∷ with_value_of t y v es) (e ∷ es)
    at true h = ap (λ l. record e { value = None } ∷ l) h
    at false h = ap (λ l. record e { value = None } ∷ l) h

writes_of_alike : (m n : ℕ) (ws : List Written) (es : List Pending) → IsAlike (with_writes_of m n ws es) es
writes_of_alike m n [] es = refl
writes_of_alike m n (w ∷ ws) es = writes_of_alike m n ws (if w.mem == m then with_value_of n w.var w.value es else es) ∙ at (w.mem == m)
  where
    at : (b : Bool) → IsAlike (if b then with_value_of n w.var w.value es else es) es
    at true = put_alike n w.var w.value es
    at false = refl

-- the writes of a cycle keep the threads, the variables and the addresses
pub writes_alike : (m : ℕ) (ms : List Act) (es : List Pending) → IsAlike (with_all_writes m ms es) es
writes_alike m [] es = refl
writes_alike m (a ∷ ms) es = writes_of_alike m a.thread.number a.does.writes (with_all_writes m ms es) ∙ writes_alike m ms es

-- RELEASES AND SQUASHES

older_drop : (k u : ℕ) (es : List Pending) → count_older u es ≤ count_older u (drop k es) + k
older_drop zero u es = omega arith
older_drop (suc k) u [] = omega arith
older_drop (suc k) u (e ∷ es) = at (nat_lt e.thread u) (older_drop k u es)
  where
    at : (b : Bool) → count_older u es ≤ count_older u (drop k es) + k
        → (if b then suc (count_older u es) else count_older u es) ≤ count_older u (drop k es) + suc k
    at true h = omega (arith, h)
    at false h = omega (arith, h)

-- where each pending write that releases take out is of an older thread, a thread's own are left
pub own_dropped : (k u : ℕ) (es : List Pending) → count_older u (drop k es) + k ≡ count_older u es → entries_by u (drop k es) ≡ entries_by u es
own_dropped zero u es h = refl
own_dropped (suc k) u [] h = refl
own_dropped (suc k) u (e ∷ es) h = at (nat_lt e.thread u) refl h (own_dropped k u es)
  where
    at : (b : Bool) → nat_lt e.thread u ≡ b → count_older u (drop k es) + suc k ≡ (if b then suc (count_older u es) else count_older u es)
        → (count_older u (drop k es) + k ≡ count_older u es → entries_by u (drop k es) ≡ entries_by u es)
        → entries_by u (drop k es) ≡ (if e.thread == u then e ∷ entries_by u es else entries_by u es)
    at true i h rest =
        let older = ltb-true e.thread u i in
        rest (omega (arith, h)) ∙ sym (ap (λ c. if c then e ∷ entries_by u es else entries_by u es) (ne_eqb e.thread u (λ z. omega (arith, older, z))))
    at false i h rest = absurd (let z = older_drop k u es in omega (arith, h, z))

-- a squash leaves the own pending writes of a thread that it keeps
pub own_left : (sq : Option ℕ) (u : ℕ) (es : List Pending) → is_kept sq u ≡ true → entries_by u (entries_left sq es) ≡ entries_by u es
own_left sq u [] h = refl
own_left sq u (e ∷ es) h = ⊎_elim
    (λ (i : e.thread ≡ u).
    ap (λ c. entries_by u (if c then e ∷ entries_left sq es else entries_left sq es)) (ap (is_kept sq) i ∙ h)
    ∙ ap (λ l. if e.thread == u then e ∷ l else l) (own_left sq u es h))
    (λ (i : e.thread ≢ u). other (ne_eqb e.thread u i) (is_kept sq e.thread) (own_left sq u es h))
    (cases_eq e.thread u)
  where
    other : (e.thread == u) ≡ false → (c : Bool) → entries_by u (entries_left sq es) ≡ entries_by u es
        → entries_by u (if c then e ∷ entries_left sq es else entries_left sq es) ≡ (if e.thread == u then e ∷ entries_by u es else entries_by u es)
    other i true g = ap (λ l. if e.thread == u then e ∷ l else l) g
    other i false g = g ∙ sym (ap (λ c. if c then e ∷ entries_by u es else entries_by u es) i)

-- RESERVATIONS

-- what threads that move add to pending writes
abbrev pub all_new : ℕ → List Act → List Pending
all_new m [] = []
all_new m (a ∷ ms) = all_new m ms ++ new_entries m a.thread.number a.does.reserves

-- what a cycle reserves comes after the pending writes that are there
pub appended_is : (m : ℕ) (ms : List Act) (es : List Pending) → with_reserves m ms es ≡ es ++ all_new m ms
appended_is m [] es = sym (append-nil es)
appended_is m (a ∷ ms) es =
    ap (λ l. l ++ new_entries m a.thread.number a.does.reserves) (appended_is m ms es)
    ∙ append_assoc es (all_new m ms) (new_entries m a.thread.number a.does.reserves)

-- threads that move add as many pending writes as they reserve addresses
pub new_count : (m : ℕ) (ms : List Act) → length (all_new m ms) ≡ length (addresses m ms)
new_count m [] = refl
new_count m (a ∷ ms) =
    let i = new_count m ms in
    let j = new_long m a.thread.number a.does.reserves in
    length-append (all_new m ms) (new_entries m a.thread.number a.does.reserves)
    ∙ ap₂ (λ x y. x + y) i j
    ∙ sym (length-append (addresses m ms) (addresses_of m a.does.reserves))

-- WRITES OF ONE STAGE

-- of each of these writes that is to the memory the variable is one of these
abbrev pub EachTo : ℕ → (ℕ → Type 0) → List Written → Type 0
EachTo m P [] = ⊤
EachTo m P (x ∷ xs) = ((x.mem == m) ≡ true → P x.var) × EachTo m P xs

-- what holds of the variable of each write to the memory that is among these holds of each of them
pub each_to : (m : ℕ) (P : ℕ → Type 0) (xs : List Written)
    → ((y v : ℕ) → Contains xs (record { mem = m; var = y; value = v }) → P y) → EachTo m P xs
each_to m P [] h = tt
each_to m P (x ∷ xs) h = (
  λ e. h x.var x.value (0, omega arith, ap (λ n. record { mem = n; var = x.var; value = x.value }) (eqb-true x.mem m e)),
  each_to m P xs (λ y v i. h y v (suc i.0, omega (arith, i.1), i.2)),
)

-- what each variable has that has another property, each of these has where it has that
pub each_map : (m : ℕ) (P Q : ℕ → Type 0) (xs : List Written) → ((y : ℕ) → P y → Q y) → EachTo m P xs → EachTo m Q xs
each_map m P Q [] f h = tt
each_map m P Q (x ∷ xs) f h = ((λ e. f x.var (h.0 e)), each_map m P Q xs f h.1)

-- what write ports do with these writes, where this tells whether their thread moves, and this the ticket of each variable
abbrev pub write_acts : State → ℕ → Bool → (ℕ → ℕ) → List Put → List WriteAct
write_acts s m goes ticket [] = []
write_acts s m goes ticket (x ∷ xs) =
    if x.mem == m
    then record { on = goes && is_on x.on s; ticket = ticket x.var; value = x.value.value s } ∷ write_acts s m goes ticket xs
    else write_acts s m goes ticket xs

-- writes of two lists are made one list after the other
pub written_append : (base : ℕ) (xs ys : List WriteAct) (es : List lock.Entry)
    → with_writes base (xs ++ ys) es ≡ with_writes base ys (with_writes base xs es)
written_append base [] ys es = refl
written_append base (x ∷ xs) ys es = written_append base xs ys (lock.with_write base x es)

-- where the thread stays nothing is written
pub none_written : (s : State) (m base : ℕ) (ticket : ℕ → ℕ) (xs : List Put) (es : List lock.Entry)
    → with_writes base (write_acts s m false ticket xs) es ≡ es
none_written s m base ticket [] es = refl
none_written s m base ticket (x ∷ xs) es = at (none_written s m base ticket xs es) (x.mem == m)
  where
    at : with_writes base (write_acts s m false ticket xs) es ≡ es → (b : Bool)
        → with_writes base
        (if b
        then record { on = false; ticket = ticket x.var; value = x.value.value s } ∷ write_acts s m false ticket xs
        else write_acts s m false ticket xs) es
        ≡ es
    at i true = i
    at i false = i

-- a thread has one pending write of a variable, and this is its ticket
pub record HasTicket (base t ticket : ℕ) (fs : List Pending) (y : ℕ) : Type 0 where
  pub has : has_place t y fs ≡ true
  pub once : IsOnce t y fs
  pub told : ticket ≡ base + place_of t y fs

-- where it moves the lock's pending writes become those of the machine
pub stage_written : (s : State) (m base t : ℕ) (ticket : ℕ → ℕ) (fs : List Pending) (xs : List Put) (es : List Pending)
    → IsAlike es fs → EachTo m (λ y. HasTicket base t (ticket y) fs y) (written_in s xs)
    → forgotten_entries (with_writes_of m t (written_in s xs) es) ≡ with_writes base (write_acts s m true ticket xs) (forgotten_entries es)
stage_written s m base t ticket fs [] es a h = refl
stage_written s m base t ticket fs (x ∷ xs) es a h = at (λ gs b g. stage_written s m base t ticket fs xs gs b g) (is_on x.on s) h
  where
    Has : List Written → Type 0
    Has ws = EachTo m (λ y. HasTicket base t (ticket y) fs y) ws

    y : ℕ
    y = x.var

    v : ℕ
    v = x.value.value s

    acts : List WriteAct
    acts = write_acts s m true ticket xs

    at : ((gs : List Pending) → IsAlike gs fs → Has (written_in s xs)
        → forgotten_entries (with_writes_of m t (written_in s xs) gs) ≡ with_writes base acts (forgotten_entries gs))
        → (o : Bool) → Has (if o then record { mem = x.mem; var = y; value = v } ∷ written_in s xs else written_in s xs)
        → forgotten_entries (with_writes_of m t (if o then record { mem = x.mem; var = y; value = v } ∷ written_in s xs else written_in s xs) es)
        ≡ with_writes base (if x.mem == m then record { on = o; ticket = ticket y; value = v } ∷ acts else acts) (forgotten_entries es)
    at rest false g = by (rest es a g) (x.mem == m)
      where
        by : forgotten_entries (with_writes_of m t (written_in s xs) es) ≡ with_writes base acts (forgotten_entries es)
            → (b : Bool)
            → forgotten_entries (with_writes_of m t (written_in s xs) es)
            ≡ with_writes base (if b then record { on = false; ticket = ticket y; value = v } ∷ acts else acts) (forgotten_entries es)
        by i true = i
        by i false = i
    at rest true g = by (x.mem == m) g.0
      where
        by : (b : Bool) → (b ≡ true → HasTicket base t (ticket y) fs y)
            → forgotten_entries (with_writes_of m t (written_in s xs) (if b then with_value_of t y v es else es))
            ≡ with_writes base (if b then record { on = true; ticket = ticket y; value = v } ∷ acts else acts) (forgotten_entries es)
        by false mine = rest es a g.1
        by true mine =
            let q = mine refl in
            let k : base + place_of t y es ≡ ticket y = ap (λ n. base + n) (alike_place t y es fs a) ∙ sym q.told in
            let e =
            (same_put base t y v es (alike_once t y es fs a q.once) (alike_has t y es fs a ∙ q.has)).1
            ∙ ap (λ n. lock.with_write base (record { on = true; ticket = n; value = v }) (forgotten_entries es)) k in
            rest (with_value_of t y v es) (put_alike t y v es ∙ a) g.1 ∙ ap (with_writes base acts) e

-- the place of a pending write is among them
pub place_below : (t y : ℕ) (es : List Pending) → IsOnce t y es → has_place t y es ≡ true → place_of t y es < length es
place_below t y es o h = (same_put 0 t y 0 es o h).0
