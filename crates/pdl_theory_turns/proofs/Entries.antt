-- A thread's pending writes of one memory.
use Rattle.std.proofs.Common.{◌≡◌, ◌≢◌, refl, sym, ap, ap₂, ◌∙◌, ℕ, suc, length, Bool, true, false, ◌&&◌, ◌||◌, not, List, [], ◌∷◌, ◌++◌, Option, Some, None, ◌==◌, cond, if◌then◌else◌, arith, eq-eqb}
use Rattle.std.proofs.lemmas.Bool.{eqb-true, eqb-false, ne_eqb}
use Rattle.pdl_semantics.specs.Locks.{commit_value}
use Rattle.std.proofs.lemmas.Bool.Decides.{eqb_tells}
use Rattle.pdl_semantics.specs.Flat.{Commit, of_mem}
use Rattle.pdl_theory_turns.specs.Derived.{Entry, moved_up, without, oldest_of, with_entry_value, released_commits, has_entry}
use Rattle.pdl_theory_turns.specs.Alone.{is_oldest, is_among, drop_var, but_last}

-- the pending writes of memory m
abbrev pub entries_of : ℕ → List Entry → List Entry
entries_of m [] = []
entries_of m (e ∷ es) = if e.mem == m then e ∷ entries_of m es else entries_of m es

-- a value that is written to m is in the pending writes of m
pub entries_of-filled : (es : List Entry) (m a v : ℕ) → entries_of m (with_entry_value es m a v) ≡ with_entry_value (entries_of m es) m a v
entries_of-filled [] m a v = refl
entries_of-filled (e ∷ es) m a v = grind (arith, eqb_tells, entries_of-filled es m a v)

-- a value that is written to another memory leaves the pending writes of m as they are
pub filled_other : (es : List Entry) (m n a v : ℕ) → n ≢ m → entries_of m (with_entry_value es n a v) ≡ entries_of m es
filled_other [] m n a v h = refl
filled_other (e ∷ es) m n a v h = grind (arith, eqb_tells, filled_other es m n a v h)

-- an entry with what another had
abbrev pub refilled : Entry → Entry → Entry
refilled f e = record f { address = e.address; value = e.value }

-- what moves up among all entries of a memory moves up among those of the memory alone
pub moved_own : (e : Entry) (es : List Entry) (m : ℕ) → e.mem ≡ m → entries_of m (moved_up e es) ≡ moved_up e (entries_of m es)
moved_own e [] m h = refl
moved_own e (f ∷ es) m h = at (f.mem == e.mem) refl (λ i. moved_own f es m i) (moved_own e es m h)
  where
    at : (b : Bool)
        → (f.mem == e.mem) ≡ b → (f.mem ≡ m → entries_of m (moved_up f es) ≡ moved_up f (entries_of m es))
        → entries_of m (moved_up e es) ≡ moved_up e (entries_of m es)
        → entries_of m (cond b (refilled f e ∷ moved_up f es) (f ∷ moved_up e es)) ≡ moved_up e (cond (f.mem == m) (f ∷ entries_of m es) (entries_of m es))
    at true k go on =
        let i : f.mem ≡ m = eqb-true f.mem e.mem k ∙ h in
        ap (λ b. cond b (refilled f e ∷ entries_of m (moved_up f es)) (entries_of m (moved_up f es))) (eq-eqb f.mem m i)
        ∙ ap (λ l. refilled f e ∷ l) (go i)
        ∙ sym
        (ap (λ b. moved_up e (cond b (f ∷ entries_of m es) (entries_of m es))) (eq-eqb f.mem m i)
        ∙ ap (λ b. cond b (refilled f e ∷ moved_up f (entries_of m es)) (f ∷ moved_up e (entries_of m es))) k)
    at false k go on =
        let i : (f.mem == m) ≡ false = ne_eqb f.mem m (λ j. eqb-false f.mem e.mem k (j ∙ sym h)) in
        ap (λ b. cond b (f ∷ entries_of m (moved_up e es)) (entries_of m (moved_up e es))) i
        ∙ on
        ∙ sym (ap (λ b. moved_up e (cond b (f ∷ entries_of m es) (entries_of m es))) i)

moved_other : (e : Entry) (es : List Entry) (m : ℕ) → e.mem ≢ m → entries_of m (moved_up e es) ≡ entries_of m es
moved_other e [] m h = refl
moved_other e (f ∷ es) m h = at (f.mem == e.mem) refl (λ j. moved_other f es m j) (moved_other e es m h)
  where
    at : (b : Bool)
        → (f.mem == e.mem) ≡ b → (f.mem ≢ m → entries_of m (moved_up f es) ≡ entries_of m es)
        → entries_of m (moved_up e es) ≡ entries_of m es
        → entries_of m (cond b (refilled f e ∷ moved_up f es) (f ∷ moved_up e es)) ≡ cond (f.mem == m) (f ∷ entries_of m es) (entries_of m es)
    at true k go on =
        let j : f.mem ≢ m = (λ i. h (sym (eqb-true f.mem e.mem k) ∙ i)) in
        ap (λ b. cond b (refilled f e ∷ entries_of m (moved_up f es)) (entries_of m (moved_up f es))) (ne_eqb f.mem m j)
        ∙ go j
        ∙ sym (ap (λ b. cond b (f ∷ entries_of m es) (entries_of m es)) (ne_eqb f.mem m j))
    at false k go on = ap (λ l. cond (f.mem == m) (f ∷ l) l) on

oldest_own : (e : Entry) (es : List Entry) (m : ℕ) → e.mem ≡ m → oldest_of e es ≡ oldest_of e (entries_of m es)
oldest_own e [] m h = refl
oldest_own e (f ∷ es) m h = at (f.mem == e.mem) refl (λ i. oldest_own f es m i) (oldest_own e es m h)
  where
    at : (b : Bool)
        → (f.mem == e.mem) ≡ b → (f.mem ≡ m → oldest_of f es ≡ oldest_of f (entries_of m es))
        → oldest_of e es ≡ oldest_of e (entries_of m es)
        → cond b (oldest_of f es) (oldest_of e es) ≡ oldest_of e (cond (f.mem == m) (f ∷ entries_of m es) (entries_of m es))
    at true k go on =
        let i : f.mem ≡ m = eqb-true f.mem e.mem k ∙ h in
        go i
        ∙ sym
        (ap (λ b. oldest_of e (cond b (f ∷ entries_of m es) (entries_of m es))) (eq-eqb f.mem m i)
        ∙ ap (λ b. cond b (oldest_of f (entries_of m es)) (oldest_of e (entries_of m es))) k)
    at false k go on =
        let i : (f.mem == m) ≡ false = ne_eqb f.mem m (λ j. eqb-false f.mem e.mem k (j ∙ sym h)) in
        on ∙ sym (ap (λ b. oldest_of e (cond b (f ∷ entries_of m es) (entries_of m es))) i)

-- a pending write of m that is taken out is taken out of the pending writes of m
pub without_own : (es : List Entry) (m a : ℕ) → entries_of m (without es m a) ≡ without (entries_of m es) m a
without_own [] m a = refl
without_own (e ∷ es) m a = at (e.mem == m) refl (e.var == a) refl (without_own es m a)
  where
    at : (b : Bool)
        → (e.mem == m) ≡ b → (c : Bool) → (e.var == a) ≡ c → entries_of m (without es m a) ≡ without (entries_of m es) m a
        → entries_of m (cond (b && c) (moved_up e es) (e ∷ without es m a)) ≡ without (cond b (e ∷ entries_of m es) (entries_of m es)) m a
    at true h true k on =
        moved_own e es m (eqb-true e.mem m h) ∙ sym (ap₂ (λ b c. cond (b && c) (moved_up e (entries_of m es)) (e ∷ without (entries_of m es) m a)) h k)
    at true h false k on =
        ap (λ b. cond b (e ∷ entries_of m (without es m a)) (entries_of m (without es m a))) h ∙ ap (λ l. e ∷ l) on
        ∙ sym (ap₂ (λ b c. cond (b && c) (moved_up e (entries_of m es)) (e ∷ without (entries_of m es) m a)) h k)
    at false h c k on = ap (λ b. cond b (e ∷ entries_of m (without es m a)) (entries_of m (without es m a))) h ∙ on

-- a pending write of another memory that is taken out leaves those of m as they are
pub without_other : (es : List Entry) (m n a : ℕ) → n ≢ m → entries_of m (without es n a) ≡ entries_of m es
without_other [] m n a h = refl
without_other (e ∷ es) m n a h = at (e.mem == n) refl (e.var == a) (without_other es m n a h)
  where
    at : (b : Bool)
        → (e.mem == n) ≡ b → (c : Bool) → entries_of m (without es n a) ≡ entries_of m es
        → entries_of m (cond (b && c) (moved_up e es) (e ∷ without es n a)) ≡ cond (e.mem == m) (e ∷ entries_of m es) (entries_of m es)
    at true k true on =
        let j : e.mem ≢ m = (λ i. h (sym (eqb-true e.mem n k) ∙ i)) in
        moved_other e es m j ∙ sym (ap (λ b. cond b (e ∷ entries_of m es) (entries_of m es)) (ne_eqb e.mem m j))
    at true k false on = ap (λ l. cond (e.mem == m) (e ∷ l) l) on
    at false k c on = ap (λ l. cond (e.mem == m) (e ∷ l) l) on

-- what a release commits to m comes from the pending writes of m alone
pub released_own : (es : List Entry) (m a : ℕ) → of_mem m (released_commits es m a) ≡ released_commits (entries_of m es) m a
released_own [] m a = refl
released_own (e ∷ es) m a = at (e.mem == m) refl (e.var == a) refl (released_own es m a)
  where
    out : Entry → Commit
    out o = record { mem = m; address = o.address; value = commit_value o.value }

    at : (b : Bool) → (e.mem == m) ≡ b → (c : Bool) → (e.var == a) ≡ c → of_mem m (released_commits es m a) ≡ released_commits (entries_of m es) m a
        → of_mem m (cond (b && c) (out (oldest_of e es) ∷ []) (released_commits es m a)) ≡ released_commits (cond b (e ∷ entries_of m es) (entries_of m es)) m a
    at true h true k on =
        ap (λ b. cond b (out (oldest_of e es) ∷ []) []) (eq-eqb m m refl)
        ∙ ap (λ o. out o ∷ []) (oldest_own e es m (eqb-true e.mem m h))
        ∙ sym (ap₂ (λ b c. cond (b && c) (out (oldest_of e (entries_of m es)) ∷ []) (released_commits (entries_of m es) m a)) h k)
    at true h false k on = on ∙ sym (ap₂ (λ b c. cond (b && c) (out (oldest_of e (entries_of m es)) ∷ []) (released_commits (entries_of m es) m a)) h k)
    at false h c k on = on

-- a release of another memory commits nothing to m
pub released_other : (es : List Entry) (m n a : ℕ) → n ≢ m → of_mem m (released_commits es n a) ≡ []
released_other [] m n a h = refl
released_other (e ∷ es) m n a h = at ((e.mem == n) && (e.var == a)) (released_other es m n a h)
  where
    out : Commit
    out = record { mem = n; address = (oldest_of e es).address; value = commit_value (oldest_of e es).value }

    at : (b : Bool) → of_mem m (released_commits es n a) ≡ [] → of_mem m (cond b (out ∷ []) (released_commits es n a)) ≡ []
    at true on = ap (λ b. cond b (out ∷ []) []) (ne_eqb n m h)
    at false on = on

-- a pending write of a location
abbrev pub entry : ℕ → ℕ → ℕ → Option ℕ → Entry
entry m x a v = record { mem = m; var = x; address = a; value = v }

-- the write of a value at an address of m
abbrev pub write_of : ℕ → ℕ → ℕ → Commit
write_of m a v = record { mem = m; address = a; value = v }

-- a value that is written to the location of the only pending write is in it
pub record Open : Type 0 where
  pub var : ℕ
  pub address : ℕ

-- a location with a value: its variable, its address and the value
pub record Full : Type 0 where
  pub var : ℕ
  pub address : ℕ
  pub value : ℕ

-- the entries of locations of m without a value
abbrev pub waiting : ℕ → List Open → List Entry
waiting m [] = []
waiting m (o ∷ os) = entry m o.var o.address None ∷ waiting m os

-- the entries of locations of m with a value
abbrev pub known : ℕ → List Full → List Entry
known m [] = []
known m (f ∷ fs) = entry m f.var f.address (Some f.value) ∷ known m fs

-- the variables of locations without a value
abbrev pub open_vars : List Open → List ℕ
open_vars [] = []
open_vars (o ∷ os) = o.var ∷ open_vars os

-- the variables of locations with a value
abbrev pub full_vars : List Full → List ℕ
full_vars [] = []
full_vars (f ∷ fs) = f.var ∷ full_vars fs

-- the writes of those with a value, the oldest first
abbrev pub told : ℕ → List Full → List Commit
told m [] = []
told m (f ∷ fs) = told m fs ++ write_of m f.address f.value ∷ []

-- the last of a list, where it has one
abbrev pub last_or : {X : Type 0} → X → List X → X
last_or x [] = x
last_or x (y ∷ ys) = last_or y ys

-- the address of the oldest location without a value
abbrev pub last_address : List Open → ℕ
last_address [] = 0
last_address (o ∷ []) = o.address
last_address (o ∷ q ∷ os) = last_address (q ∷ os)

-- a write through the oldest location without a value gives it that value
pub filled_last : (m a v : ℕ) (os : List Open) (es : List Entry)
    → is_oldest a (open_vars os) ≡ true
    → with_entry_value (waiting m os ++ es) m a v ≡ waiting m (but_last os) ++ entry m a (last_address os) (Some v) ∷ es
filled_last m a v [] es h = absurd (cc h)
filled_last m a v (o ∷ []) es h =
    ap₂ (λ b c. cond (b && c) (entry m o.var o.address (Some v) ∷ es) (entry m o.var o.address None ∷ with_entry_value es m a v)) (eq-eqb m m refl) h
    ∙ ap (λ x. entry m x o.address (Some v) ∷ es) (eqb-true o.var a h)
filled_last m a v (o ∷ q ∷ os) es h =
    ap₂
    (λ b c. cond (b && c) (entry m o.var o.address (Some v) ∷ waiting m (q ∷ os) ++ es)
    (entry m o.var o.address None ∷ with_entry_value (waiting m (q ∷ os) ++ es) m a v)) (eq-eqb m m refl) (off (o.var == a) h)
    ∙ ap (λ l. entry m o.var o.address None ∷ l) (filled_last m a v (q ∷ os) es (and_second (o.var == a) h))
  where
    off : (b : Bool) → (not b && is_oldest a (open_vars (q ∷ os))) ≡ true → b ≡ false
    off true k = absurd (cc k)
    off false k = refl

    and_second : (b : Bool) → (not b && is_oldest a (open_vars (q ∷ os))) ≡ true → is_oldest a (open_vars (q ∷ os)) ≡ true
    and_second true k = absurd (cc k)
    and_second false k = k

-- A RELEASE takes the oldest out, whichever location is let go

-- what a location had goes on to the next older one
abbrev pub pushed : Full → List Full → List Full
pushed f [] = []
pushed f (g ∷ gs) = record g { address = f.address; value = f.value } ∷ pushed g gs

-- the locations with a value, after the release of one: each takes over what the next younger one had
abbrev pub let_out : List Full → ℕ → List Full
let_out [] a = []
let_out (f ∷ fs) a = if f.var == a then pushed f fs else f ∷ let_out fs a

pushed_vars : (f : Full) (fs : List Full) → full_vars (pushed f fs) ≡ full_vars fs
pushed_vars f [] = refl
pushed_vars f (g ∷ gs) = ap (λ l. g.var ∷ l) (pushed_vars g gs)

-- without the variable that is released
pub let_out_vars : (fs : List Full) (a : ℕ) → full_vars (let_out fs a) ≡ drop_var a (full_vars fs)
let_out_vars [] a = refl
let_out_vars (f ∷ fs) a = at (f.var == a) (let_out_vars fs a)
  where
    at : (b : Bool)
        → full_vars (let_out fs a) ≡ drop_var a (full_vars fs)
        → full_vars (cond b (pushed f fs) (f ∷ let_out fs a)) ≡ cond b (full_vars fs) (f.var ∷ drop_var a (full_vars fs))
    at true on = pushed_vars f fs
    at false on = ap (λ l. f.var ∷ l) on

-- what the release of a location commits
abbrev pub commit_of : ℕ → Full → Commit
commit_of m f = write_of m f.address f.value

pushed_told : (m : ℕ) (f : Full) (fs : List Full) → told m (f ∷ fs) ≡ commit_of m (last_or f fs) ∷ told m (pushed f fs)
pushed_told m f [] = refl
pushed_told m f (g ∷ gs) = ap (λ l. l ++ commit_of m f ∷ []) (pushed_told m g gs)

pushed_known : (m : ℕ) (f : Full) (fs : List Full) → moved_up (entry m f.var f.address (Some f.value)) (known m fs) ≡ known m (pushed f fs)
pushed_known m f [] = refl
pushed_known m f (g ∷ gs) =
    ap
    (λ b. cond b (entry m g.var f.address (Some f.value) ∷ moved_up (entry m g.var g.address (Some g.value)) (known m gs))
    (entry m g.var g.address (Some g.value) ∷ moved_up (entry m f.var f.address (Some f.value)) (known m gs))) (eq-eqb m m refl)
    ∙ ap (λ l. entry m g.var f.address (Some f.value) ∷ l) (pushed_known m g gs)

oldest_known : (m : ℕ) (f : Full) (fs : List Full)
    → oldest_of (entry m f.var f.address (Some f.value)) (known m fs) ≡ entry m (last_or f fs).var (last_or f fs).address (Some (last_or f fs).value)
oldest_known m f [] = refl
oldest_known m f (g ∷ gs) =
    ap (λ b. cond b (oldest_of (entry m g.var g.address (Some g.value)) (known m gs)) (oldest_of (entry m f.var f.address (Some f.value)) (known m gs)))
    (eq-eqb m m refl)
    ∙ oldest_known m g gs

-- a location with a value is let go
pub record Released (m a : ℕ) (fs : List Full) : Type 0 where
  pub out : Full
  pub front : told m fs ≡ commit_of m out ∷ told m (let_out fs a)
  pub rest : without (known m fs) m a ≡ known m (let_out fs a)
  pub commits : released_commits (known m fs) m a ≡ commit_of m out ∷ []
  pub there : has_entry (known m fs) m a ≡ true

-- a release of a location with a value takes the oldest value out
pub released_full : (m a : ℕ) (fs : List Full) → is_among a (full_vars fs) ≡ true → Released m a fs
released_full m a [] h = absurd (cc h)
released_full m a (f ∷ fs) h = at (f.var == a) refl (λ k. released_full m a fs k)
  where
    e : Entry
    e = entry m f.var f.address (Some f.value)

    here : (f.var == a) ≡ true → Released m a (f ∷ fs)
    here k = record {
      out = last_or f fs;
      front = pushed_told m f fs ∙ ap (λ b. commit_of m (last_or f fs) ∷ told m (cond b (pushed f fs) (f ∷ let_out fs a))) (sym k);
      rest =
          ap₂ (λ b c. cond (b && c) (moved_up e (known m fs)) (e ∷ without (known m fs) m a)) (eq-eqb m m refl) k ∙ pushed_known m f fs
          ∙ ap (λ b. known m (cond b (pushed f fs) (f ∷ let_out fs a))) (sym k);
      commits =
          ap₂
          (λ b c. cond (b && c) (record { mem = m; address = (oldest_of e (known m fs)).address; value = commit_value (oldest_of e (known m fs)).value } ∷ [])
          (released_commits (known m fs) m a)) (eq-eqb m m refl) k
          ∙ ap (λ (o : Entry). record { mem = m; address = o.address; value = commit_value o.value } ∷ []) (oldest_known m f fs);
      there = ap₂ (λ b c. (b && c) || has_entry (known m fs) m a) (eq-eqb m m refl) k;
    }

    behind : (f.var == a) ≡ false → Released m a fs → Released m a (f ∷ fs)
    behind k r = record {
      out = r.out;
      front = ap (λ l. l ++ commit_of m f ∷ []) r.front ∙ ap (λ b. commit_of m r.out ∷ told m (cond b (pushed f fs) (f ∷ let_out fs a))) (sym k);
      rest =
          ap₂ (λ b c. cond (b && c) (moved_up e (known m fs)) (e ∷ without (known m fs) m a)) (eq-eqb m m refl) k ∙ ap (λ l. e ∷ l) r.rest
          ∙ ap (λ b. known m (cond b (pushed f fs) (f ∷ let_out fs a))) (sym k);
      commits =
          ap₂
          (λ b c. cond (b && c) (record { mem = m; address = (oldest_of e (known m fs)).address; value = commit_value (oldest_of e (known m fs)).value } ∷ [])
          (released_commits (known m fs) m a)) (eq-eqb m m refl) k
          ∙ r.commits;
      there = ap₂ (λ b c. (b && c) || has_entry (known m fs) m a) (eq-eqb m m refl) k ∙ r.there;
    }

    at : (b : Bool) → (f.var == a) ≡ b → (is_among a (full_vars fs) ≡ true → Released m a fs) → Released m a (f ∷ fs)
    at true k on = here k
    at false k on = behind k (on (ap (λ b. b || is_among a (full_vars fs)) (sym k) ∙ h))

-- locations without a value stay
pub released_behind : (m a : ℕ) (os : List Open) (es : List Entry) → is_among a (open_vars os) ≡ false
    → (without (waiting m os ++ es) m a ≡ waiting m os ++ without es m a) × (released_commits (waiting m os ++ es) m a ≡ released_commits es m a)
    × (has_entry (waiting m os ++ es) m a ≡ has_entry es m a)
released_behind m a [] es h = (refl, refl, refl)
released_behind m a (o ∷ os) es h = at (o.var == a) refl (λ k. released_behind m a os es k)
  where
    e : Entry
    e = entry m o.var o.address None

    off : (b : Bool) → (b && false) ≡ false
    off true = refl
    off false = refl

    at : (b : Bool) → (o.var == a) ≡ b
        → (is_among a (open_vars os) ≡ false → (without (waiting m os ++ es) m a ≡ waiting m os ++ without es m a)
        × (released_commits (waiting m os ++ es) m a ≡ released_commits es m a) × (has_entry (waiting m os ++ es) m a ≡ has_entry es m a))
        → (cond ((m == m) && (o.var == a)) (moved_up e (waiting m os ++ es)) (e ∷ without (waiting m os ++ es) m a) ≡ e ∷ waiting m os ++ without es m a)
        ×
        (cond ((m == m) && (o.var == a))
        (record { mem = m; address = (oldest_of e (waiting m os ++ es)).address; value = commit_value (oldest_of e (waiting m os ++ es)).value } ∷ [])
        (released_commits (waiting m os ++ es) m a) ≡ released_commits es m a)
        × ((((m == m) && (o.var == a)) || has_entry (waiting m os ++ es) m a) ≡ has_entry es m a)
    at true k on = absurd (cc (sym h ∙ ap (λ b. b || is_among a (open_vars os)) k))
    at false k on =
        let r = on (ap (λ b. b || is_among a (open_vars os)) (sym k) ∙ h) in (
          ap (λ c. cond ((m == m) && c) (moved_up e (waiting m os ++ es)) (e ∷ without (waiting m os ++ es) m a)) k
              ∙ ap (λ c. cond c (moved_up e (waiting m os ++ es)) (e ∷ without (waiting m os ++ es) m a)) (off (m == m)) ∙ ap (λ l. e ∷ l) r.0,
          ap
              (λ c. cond ((m == m) && c)
              (record { mem = m; address = (oldest_of e (waiting m os ++ es)).address; value = commit_value (oldest_of e (waiting m os ++ es)).value } ∷ [])
              (released_commits (waiting m os ++ es) m a)) k
              ∙ ap
              (λ c. cond c (record {
                mem = m;
                address = (oldest_of e (waiting m os ++ es)).address;
                value = commit_value
                    (oldest_of e (waiting m os ++ es)).value;
              } ∷ []) (released_commits (waiting m os ++ es) m a)) (off (m == m))
              ∙ r.1,
          ap (λ c. ((m == m) && c) || has_entry (waiting m os ++ es) m a) k ∙ ap (λ c. c || has_entry (waiting m os ++ es) m a) (off (m == m)) ∙ r.2,
        )

-- what no entry is of isn't let go
pub without_none : (es : List Entry) (m a : ℕ) → has_entry es m a ≡ false → (without es m a ≡ es) × (released_commits es m a ≡ [])
without_none [] m a h = (refl, refl)
without_none (e ∷ es) m a h = at ((e.mem == m) && (e.var == a)) h (λ k. without_none es m a k)
  where
    out : Commit
    out = record { mem = m; address = (oldest_of e es).address; value = commit_value (oldest_of e es).value }

    at : (b : Bool) → (b || has_entry es m a) ≡ false → (has_entry es m a ≡ false → (without es m a ≡ es) × (released_commits es m a ≡ []))
        → (cond b (moved_up e es) (e ∷ without es m a) ≡ e ∷ es) × (cond b (out ∷ []) (released_commits es m a) ≡ [])
    at true h k = absurd (cc h)
    at false h k = (ap (λ l. e ∷ l) (k h).0, (k h).1)

-- a location that has no value isn't among those with one
pub no_known : (m a : ℕ) (fs : List Full) → is_among a (full_vars fs) ≡ false → has_entry (known m fs) m a ≡ false
no_known m a [] h = refl
no_known m a (f ∷ fs) h = at (f.var == a) refl (λ k. no_known m a fs k)
  where
    off : (b : Bool) → (b && false) ≡ false
    off true = refl
    off false = refl

    at : (b : Bool)
        → (f.var == a) ≡ b → (is_among a (full_vars fs) ≡ false → has_entry (known m fs) m a ≡ false)
        → (((m == m) && (f.var == a)) || has_entry (known m fs) m a) ≡ false
    at true k on = absurd (cc (sym h ∙ ap (λ b. b || is_among a (full_vars fs)) k))
    at false k on =
        ap (λ c. ((m == m) && c) || has_entry (known m fs) m a) k ∙ ap (λ c. c || has_entry (known m fs) m a) (off (m == m))
        ∙ on (ap (λ b. b || is_among a (full_vars fs)) (sym k) ∙ h)

-- the addresses of pending writes and of writes
abbrev pub addresses : List Entry → List ℕ
addresses [] = []
addresses (e ∷ es) = e.address ∷ addresses es

-- the addresses of these writes
abbrev pub places : List Commit → List ℕ
places [] = []
places (c ∷ cs) = c.address ∷ places cs

-- there are as many places as commits
pub length_places : (cs : List Commit) → length (places cs) ≡ length cs
length_places [] = refl
length_places (c ∷ cs) = ap suc (length_places cs)
