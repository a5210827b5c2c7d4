-- What is released are the releasing thread's own writes, and they have their values; who writes has pending writes.
use Rattle.std.proofs.Common.{◌≡◌, ◌≢◌, refl, sym, ap, ap₂, ◌∙◌, subst, ℕ, zero, suc, ◌+◌, ◌≤◌, ◌<◌, Bool, true, false, ◌&&◌, ◌||◌, List, [], ◌∷◌, ◌++◌, length, take, is_none, ◌==◌, cond, if◌then◌else◌, arith, eq-eqb, append-nil, slice_index_or}
use Rattle.std.specs.Prelude.{Contains}
use Rattle.std.proofs.lemmas.Bool.{false≢true, ne_eqb}
use Rattle.pdl_semantics.specs.Flat.{Pipe}
use Rattle.pdl_semantics.specs.Stages.{commit_stage}
use Rattle.pdl_semantics.specs.Machine.{State, Pending, Written}
use Rattle.pdl_semantics.specs.Moves.{Act, movers}
use Rattle.pdl_semantics.specs.Cycle.{with_reserves, new_entries, releases_of, all_releases}
use Rattle.pdl_semantics.specs.Sound.{entries_by}
use Rattle.pdl_theory_turns.specs.Derived
use Rattle.pdl_theory_turns.specs.Facts.{Sound}
use Rattle.pdl_theory_simulation.proofs.AcceptedFacts.{sound_flows}
use Rattle.pdl_theory_simulation.proofs.Seats.{Live, each_map, Falls, Ordered, lact, lacts, did, deeds_of}
use Rattle.pdl_theory_simulation.proofs.ThreadFacts.{Pair, pairs, EachPair, pair_map, pair_both, pairs_each}
use Rattle.pdl_theory_simulation.proofs.Choices.{AllKnown}
use Rattle.pdl_theory_simulation.proofs.LockLists.{part, two, release_here, gone}
use Rattle.pdl_theory_turns.proofs.Lists.{pend}
use Rattle.pdl_lockapi.specs.Forget.{has_place}
use Rattle.pdl_theory_simulation.proofs.Stretches.{left_trunk}
use Rattle.pdl_machine_facts.proofs.StatementUses.{writes_to}
use Rattle.pdl_semantics.specs.PendingLists.{AreWritten}
use Rattle.pdl_semantics.specs.Promises.{DifferInAdvice}
use Rattle.pdl_theory_states.proofs.PendingLists.{AllOf, of_new}
use Rattle.pdl_theory_states.proofs.OwnEntries.{by_append}
use Rattle.pdl_machine_lockuse.specs.Use.{AreOwn, is_open, AreInTurn}
use Rattle.pdl_machine_lockuse.proofs.Reservations.{one_if}
use Rattle.pdl_machine_lockuse.proofs.OwnPlaces.{InTurn, names}
use Rattle.pdl_machine_lockuse.proofs.OwnWrite.{used_here}
use Rattle.pdl_theory_simulation.proofs.Seats.{falls_each}

-- a memory is written to where one of the writes is to it
pub contains_write : (m : ℕ) (ws : List Written) (w : Written) → w.mem ≡ m → Contains ws w → writes_to m ws ≡ true
contains_write m ws w e c = at ws c.0 c.1 c.2
  where
    or_right : (a b : Bool) → b ≡ true → (a || b) ≡ true
    or_right true b h = refl
    or_right false b h = h

    at : (vs : List Written) (i : ℕ) → i < length vs → slice_index_or vs i w ≡ w → writes_to m vs ≡ true
    at [] i h f = absurd (omega arith)
    at (v ∷ vs) zero h f = ap (λ b. b || writes_to m vs) (eq-eqb v.mem m (ap (λ (u : Written). u.mem) f ∙ e))
    at (v ∷ vs) (suc i) h f = or_right (v.mem == m) (writes_to m vs) (at vs i (omega arith) f)

-- THE FIRST OF A LIST

-- pending writes of a thread at the front of a list are there where the list is longer
pub own_append : (k n : ℕ) (xs ys : List Pending) → AreOwn k n xs → AreOwn k n (xs ++ ys)
own_append zero n xs ys h = tt
own_append (suc k) n [] ys h = absurd h
own_append (suc k) n (x ∷ xs) ys h = (h.0, h.1, h.2, own_append k n xs ys h.3)

own_take : (k j n : ℕ) (xs : List Pending) → k ≤ j → AreOwn k n xs → AreOwn k n (take j xs)
own_take zero j n xs l h = tt
own_take (suc k) j n [] l h = absurd h
own_take (suc k) zero n (x ∷ xs) l h = absurd (omega arith)
own_take (suc k) (suc j) n (x ∷ xs) l h = (h.0, h.1, h.2, own_take k j n xs (omega arith) h.3)

own_back : (k j n : ℕ) (xs : List Pending) → AreOwn k n (take j xs) → AreOwn k n xs
own_back zero j n xs h = tt
own_back (suc k) zero n xs h = absurd h
own_back (suc k) (suc j) n [] h = absurd h
own_back (suc k) (suc j) n (x ∷ xs) h = (h.0, h.1, h.2, own_back k j n xs h.3)

-- what is at the front of two lists that begin alike
pub own_same : (k i j n : ℕ) (xs ys : List Pending) → k ≤ i → take i xs ≡ take j ys → AreOwn k n xs → AreOwn k n ys
own_same k i j n xs ys l e h = own_back k j n ys (subst (AreOwn k n) e (own_take k i n xs l h))

-- pending writes of a thread that have their values have them
pub own_written : (k n : ℕ) (xs : List Pending) → AreOwn k n xs → AreWritten k xs
own_written zero n xs h = tt
own_written (suc k) n [] h = absurd h
own_written (suc k) n (x ∷ xs) h = (h.1, h.2, own_written k n xs h.3)

-- written ones at the front of a list are there where the list is longer
pub written_append : (k : ℕ) (xs ys : List Pending) → AreWritten k xs → AreWritten k (xs ++ ys)
written_append zero xs ys h = tt
written_append (suc k) [] ys h = absurd h
written_append (suc k) (x ∷ xs) ys h = (h.0, h.1, written_append k xs ys h.2)

written_take : (k j : ℕ) (xs : List Pending) → k ≤ j → AreWritten k xs → AreWritten k (take j xs)
written_take zero j xs l h = tt
written_take (suc k) j [] l h = absurd h
written_take (suc k) zero (x ∷ xs) l h = absurd (omega arith)
written_take (suc k) (suc j) (x ∷ xs) l h = (h.0, h.1, written_take k j xs (omega arith) h.2)

written_back : (k j : ℕ) (xs : List Pending) → AreWritten k (take j xs) → AreWritten k xs
written_back zero j xs h = tt
written_back (suc k) zero xs h = absurd h
written_back (suc k) (suc j) [] h = absurd h
written_back (suc k) (suc j) (x ∷ xs) h = (h.0, h.1, written_back k j xs h.2)

-- what is written at the front of two lists that begin alike
pub written_same : (k i j : ℕ) (xs ys : List Pending) → k ≤ i → take i xs ≡ take j ys → AreWritten k xs → AreWritten k ys
written_same k i j xs ys l e h = written_back k j ys (subst (AreWritten k) e (written_take k i xs l h))

-- A THREAD'S OWN ONES

by_all : (n : ℕ) (xs : List Pending) → AllOf n xs → entries_by n xs ≡ xs
by_all n [] h = refl
by_all n (x ∷ xs) h = ap (λ b. cond b (x ∷ entries_by n xs) (entries_by n xs)) (eq-eqb x.thread n h.0) ∙ ap (λ l. x ∷ l) (by_all n xs h.1)

by_none : (n k : ℕ) (xs : List Pending) → AllOf k xs → k ≢ n → entries_by n xs ≡ []
by_none n k [] h f = refl
by_none n k (x ∷ xs) h f =
    ap (λ b. cond b (x ∷ entries_by n xs) (entries_by n xs)) (ne_eqb x.thread n (λ e. f (sym h.0 ∙ e))) ∙ by_none n k xs h.1 f

-- what is open of a thread's own is open
pub open_by : (n y : ℕ) (es : List Pending) → is_open n y (entries_by n es) ≡ true → is_open n y es ≡ true
open_by n y [] h = h
open_by n y (e ∷ es) h = at (e.thread == n) h (open_by n y es)
  where
    or_second : (b c d : Bool) → (c ≡ true → d ≡ true) → (b || c) ≡ true → (b || d) ≡ true
    or_second true c d f i = refl
    or_second false c d f i = f i

    at : (b : Bool) → is_open n y (cond b (e ∷ entries_by n es) (entries_by n es)) ≡ true
        → (is_open n y (entries_by n es) ≡ true → is_open n y es ≡ true)
        → (((e.thread == n) && (e.var == y)) && is_none e.value || is_open n y es) ≡ true
    at true i f = or_second (((e.thread == n) && (e.var == y)) && is_none e.value) (is_open n y (entries_by n es)) (is_open n y es) f i
    at false i f = skip (((e.thread == n) && (e.var == y)) && is_none e.value) (is_open n y es) (f i)
      where
        skip : (b d : Bool) → d ≡ true → (b || d) ≡ true
        skip true d k = refl
        skip false d k = k

-- how often a thread has a variable is told by its own ones
pub names_by : (n y : ℕ) (es : List Pending) → names n y es ≡ names n y (entries_by n es)
names_by n y [] = refl
names_by n y (e ∷ es) = at (e.thread == n) refl (names_by n y es)
  where
    zeros : (i : ℕ) → 0 + i ≡ i
    zeros i = omega arith

    at : (b : Bool) → (e.thread == n) ≡ b → names n y es ≡ names n y (entries_by n es)
        → one_if ((e.thread == n) && (e.var == y)) + names n y es ≡ names n y (cond b (e ∷ entries_by n es) (entries_by n es))
    at true i h = ap (λ k. one_if ((e.thread == n) && (e.var == y)) + k) h
    at false i h = ap (λ b. one_if (b && (e.var == y)) + names n y es) i ∙ zeros (names n y es) ∙ h

-- writes that go into a thread's own ones in turn do so in the whole list
pub turn_by : (m n : ℕ) (es : List Pending) (k : ℕ) (ws : List Written) → InTurn m n (entries_by n es) k ws → AreInTurn m n es k ws
turn_by m n es k [] t = tt
turn_by m n es k (w ∷ ws) t = (
  (λ e. let i = t.0 e in (open_by n w.var es i.0, i.1, i.2)),
  turn_by m n es (cond (w.mem == m) (suc k) k) ws t.1,
)

-- each write to the memory goes into an open one
pub turn_of : (m n : ℕ) (es : List Pending) (k : ℕ) (ws : List Written) (w : Written) → w.mem ≡ m → AreInTurn m n es k ws → Contains ws w
    → is_open n w.var es ≡ true
turn_of m n es k ws w e t c = at k ws c.0 t c.1 c.2
  where
    at : (k : ℕ) (vs : List Written) (i : ℕ) → AreInTurn m n es k vs → i < length vs → slice_index_or vs i w ≡ w → is_open n w.var es ≡ true
    at k [] i t h f = absurd (omega arith)
    at k (v ∷ vs) zero t h f =
        subst (λ (u : Written). is_open n u.var es ≡ true) f (t.0 (eq-eqb v.mem m (ap (λ (u : Written). u.mem) f ∙ e))).0
    at k (v ∷ vs) (suc i) t h f = at (cond (v.mem == m) (suc k) k) vs i t.1 (omega arith) f

-- an open one is there
pub open_place : (n y : ℕ) (es : List Pending) → is_open n y es ≡ true → has_place n y es ≡ true
open_place n y [] h = absurd (false≢true h)
open_place n y (e ∷ es) h = at ((e.thread == n) && (e.var == y)) h (open_place n y es)
  where
    at : (b : Bool) → ((b && is_none e.value) || is_open n y es) ≡ true → (is_open n y es ≡ true → has_place n y es ≡ true)
        → cond b true (has_place n y es) ≡ true
    at true i f = refl
    at false i f = f i

module _ (p : Pipe) (sound : Sound p) (st : State) (d : Derived.State) (bits : List Bool) (arrays : DifferInAdvice p st.arrays d.arrays) (m : ℕ) where
  abbrev takes : Live → ℕ
  takes l = releases_of m (deeds_of p st bits l).releases

  abbrev ms : List Live → List Act
  ms ls = movers (lacts p st d bits ls)

  -- RELEASES

  -- who moves takes out no more than is taken out
  pub fewer_taken : (ls : List Live) → EachPair (λ x. (did p d bits x.older x.live).moves ≡ true → takes x.live ≤ all_releases m (ms ls)) (pairs ls)
  fewer_taken [] = tt
  fewer_taken (l ∷ ls) = (one (did p d bits ls l).moves, pair_map (λ x g i. more (did p d bits ls l).moves (g i)) (pairs ls) (fewer_taken ls))
    where
      one : (b : Bool) → b ≡ true → takes l ≤ all_releases m (cond b (lact p st d bits ls l ∷ ms ls) (ms ls))
      one true i = omega arith
      one false i = absurd (false≢true i)

      more : {k : ℕ} (b : Bool) → k ≤ all_releases m (ms ls) → k ≤ all_releases m (cond b (lact p st d bits ls l ∷ ms ls) (ms ls))
      more true h = omega (arith, h)
      more false h = h

  -- where a thread that moves releases, no older one does, and none has pending writes
  alone : (l : Live) (ls : List Live) → AllKnown p (sound_flows p sound) st d bits arrays (l ∷ ls) → Ordered p (l ∷ ls) → takes l ≢ 0
      → (all_releases m (ms ls) ≡ 0) × (two p (sound_flows p sound) st d bits arrays m ls ≡ [])
  alone l ls k o f =
      let here = release_here p (sound_flows p sound) st d bits arrays ls l k.0 m f in
      let past = each_map (λ k b. left_trunk p _ _ b (commit_stage p m) ((sound_flows p sound).trunk_commit m) (let h = here in omega (arith, h))) ls o.0 in
      let g = gone p (sound_flows p sound) st d bits arrays m ls k.1 past in (g.0, g.1)

  abbrev tail : Live → List Live → List Pending
  tail l ls = if (did p d bits ls l).moves then part p (sound_flows p sound) st d bits arrays m l else pend m l.number l.thread.entries

  -- who releases finds its own writes first, with their values
  pub own_two : (ls : List Live) → AllKnown p (sound_flows p sound) st d bits arrays ls → Ordered p ls
      → EachPair
      (λ x. (did p d bits x.older x.live).moves ≡ true
      → AreOwn (takes x.live) x.live.number (two p (sound_flows p sound) st d bits arrays m ls))
      (pairs ls)
  own_two [] k o = tt
  own_two (l ∷ ls) k o = (
    (λ i. mine i (takes l) refl),
    pair_map (λ x g i. own_append (takes x.live) x.live.number (two p (sound_flows p sound) st d bits arrays m ls) (tail l ls) (g i))
        (pairs ls) (own_two ls k.1 o.1),
  )
    where
      mine : (did p d bits ls l).moves ≡ true → (c : ℕ) → takes l ≡ c → AreOwn (takes l) l.number (two p (sound_flows p sound) st d bits arrays m (l ∷ ls))
      mine i zero e = subst (λ n. AreOwn n l.number (two p (sound_flows p sound) st d bits arrays m (l ∷ ls))) (sym e) tt
      mine i (suc c) e =
          subst (AreOwn (takes l) l.number)
          (sym
          (ap₂ (λ x y. x ++ y) (alone l ls k o (λ z. cc (sym e ∙ z))).1
          (ap (λ b. cond b (part p (sound_flows p sound) st d bits arrays m l) (pend m l.number l.thread.entries)) i)))
          (used_here p sound st d bits arrays ls l k.0 m).gives

  -- all that is released has its value
  pub written_two : (ls : List Live) → AllKnown p (sound_flows p sound) st d bits arrays ls → Ordered p ls
      → AreWritten (all_releases m (ms ls)) (two p (sound_flows p sound) st d bits arrays m ls)
  written_two [] k o = tt
  written_two (l ∷ ls) k o = at (did p d bits ls l).moves (takes l) refl (written_two ls k.1 o.1)
    where
      plus : (i : ℕ) → i ≡ i + 0
      plus i = omega arith

      at : (b : Bool) (c : ℕ) → takes l ≡ c → AreWritten (all_releases m (ms ls)) (two p (sound_flows p sound) st d bits arrays m ls)
          → AreWritten (all_releases m (cond b (lact p st d bits ls l ∷ ms ls) (ms ls)))
          (two p (sound_flows p sound) st d bits arrays m ls
          ++ cond b (part p (sound_flows p sound) st d bits arrays m l) (pend m l.number l.thread.entries))
      at false c e h = written_append _ (two p (sound_flows p sound) st d bits arrays m ls) _ h
      at true zero e h =
          subst (λ n. AreWritten n (two p (sound_flows p sound) st d bits arrays m ls ++ part p (sound_flows p sound) st d bits arrays m l))
          (plus (all_releases m (ms ls)) ∙ ap (λ n. all_releases m (ms ls) + n) (sym e))
          (written_append _ (two p (sound_flows p sound) st d bits arrays m ls) _ h)
      at true (suc c) e h =
          let a = alone l ls k o (λ z. cc (sym e ∙ z)) in
          subst (λ n. AreWritten n (two p (sound_flows p sound) st d bits arrays m ls ++ part p (sound_flows p sound) st d bits arrays m l))
          (zeros (takes l) ∙ ap (λ n. n + takes l) (sym a.0))
          (subst (AreWritten (takes l)) (sym (ap (λ x. x ++ part p (sound_flows p sound) st d bits arrays m l) a.1))
          (own_written (takes l) l.number (part p (sound_flows p sound) st d bits arrays m l) (used_here p sound st d bits arrays ls l k.0 m).gives))
        where
          zeros : (i : ℕ) → i ≡ 0 + i
          zeros i = omega arith

  -- where each thread releases at most n, at most n are released, since one thread does
  pub few_released : (n : ℕ) (ls : List Live) → AllKnown p (sound_flows p sound) st d bits arrays ls → Ordered p ls
      → EachPair (λ x. takes x.live ≤ n) (pairs ls) → all_releases m (ms ls) ≤ n
  few_released n [] k o f = omega arith
  few_released n (l ∷ ls) k o f = at (did p d bits ls l).moves (takes l) refl (few_released n ls k.1 o.1 f.1)
    where
      at : (b : Bool) (c : ℕ) → takes l ≡ c → all_releases m (ms ls) ≤ n → all_releases m (cond b (lact p st d bits ls l ∷ ms ls) (ms ls)) ≤ n
      at false c e h = h
      at true zero e h = omega (arith, e, h)
      at true (suc c) e h = let a = (alone l ls k o (λ z. cc (sym e ∙ z))).0 in let g = f.0 in omega (arith, a, g)

  -- RESERVATIONS

  by_older : (n : ℕ) (list : List Pending) (ls : List Live) → Falls n ls → entries_by n (with_reserves m (ms ls) list) ≡ entries_by n list
  by_older n list [] f = refl
  by_older n list (l ∷ ls) f = at (did p d bits ls l).moves (by_older n list ls (up n ls (let i = f.0 in omega (arith, i)) f.1))
    where
      up : (k : ℕ) (ks : List Live) → l.number < k → Falls l.number ks → Falls k ks
      up k [] h g = tt
      up k (j ∷ ks) h g = (let i = g.0 in omega (arith, h, i), g.1)

      at : (b : Bool) → entries_by n (with_reserves m (ms ls) list) ≡ entries_by n list
          → entries_by n (with_reserves m (cond b (lact p st d bits ls l ∷ ms ls) (ms ls)) list) ≡ entries_by n list
      at true h =
          by_append n (with_reserves m (ms ls) list) (new_entries m l.number (deeds_of p st bits l).reserves)
          ∙ ap₂ (λ x y. x ++ y) h (by_none n l.number _ (of_new m l.number (deeds_of p st bits l).reserves) (λ e. absurd (let i = f.0 in omega (arith, i, e))))
          ∙ append-nil (entries_by n list)
      at false h = h

  -- what a thread appends: what it reserves, where it moves
  abbrev pub appends : Pair → List Pending
  appends x = if (did p d bits x.older x.live).moves then new_entries m x.live.number (deeds_of p st bits x.live).reserves else []

  -- a thread has its own ones, and what it appends
  pub by_new : (bound : ℕ) (list : List Pending) (ls : List Live) → Falls bound ls
      → EachPair (λ x. entries_by x.live.number (with_reserves m (ms ls) list) ≡ entries_by x.live.number list ++ appends x) (pairs ls)
  by_new bound list [] f = tt
  by_new bound list (l ∷ ls) f = (
    mine (did p d bits ls l).moves,
    pair_both (λ x a e. other x.live.number (did p d bits ls l).moves a (appends x) e)
        (pairs ls) (pairs_each (λ k. k.number < l.number) ls (falls_each l.number ls f.1)) (by_new l.number list ls f.1),
  )
    where
      mine : (b : Bool)
          → entries_by l.number (with_reserves m (cond b (lact p st d bits ls l ∷ ms ls) (ms ls)) list)
          ≡ entries_by l.number list ++ cond b (new_entries m l.number (deeds_of p st bits l).reserves) []
      mine false = by_older l.number list ls f.1 ∙ sym (append-nil (entries_by l.number list))
      mine true =
          by_append l.number (with_reserves m (ms ls) list) (new_entries m l.number (deeds_of p st bits l).reserves)
          ∙ ap₂ (λ x y. x ++ y) (by_older l.number list ls f.1) (by_all l.number _ (of_new m l.number (deeds_of p st bits l).reserves))

      other : (n : ℕ) (b : Bool) → n < l.number → (rest : List Pending)
          → entries_by n (with_reserves m (ms ls) list) ≡ entries_by n list ++ rest
          → entries_by n (with_reserves m (cond b (lact p st d bits ls l ∷ ms ls) (ms ls)) list) ≡ entries_by n list ++ rest
      other n true h rest e =
          by_append n (with_reserves m (ms ls) list) (new_entries m l.number (deeds_of p st bits l).reserves)
          ∙ ap (λ x. entries_by n (with_reserves m (ms ls) list) ++ x)
          (by_none n l.number _ (of_new m l.number (deeds_of p st bits l).reserves) (λ i. absurd (omega (arith, h, i))))
          ∙ append-nil (entries_by n (with_reserves m (ms ls) list)) ∙ e
      other n false h rest e = e
