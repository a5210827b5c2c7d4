-- The memories of a pipe, those of its netlist, and where each stands.
use Rattle.std.proofs.Common.{◌≡◌, inl, inr, ℕ, zero, suc, ◌+◌, ◌<◌, Bool, true, false, not, List, [], ◌∷◌, ◌++◌, length, map, take, refl, sym, ap, ◌∙◌, subst, arith}
use Rattle.std.specs.Prelude.{if◌then◌else◌, slice_index_or, count_by, filter}
use Rattle.std.proofs.lemmas.Bool.{or_parts}
use Rattle.pdl_kit.specs.declared.mem_info.MemInfo.{MemInfo}
use Rattle.pdl_semantics.specs.Tree.{Mem}
use Rattle.pdl_semantics.specs.Flat.{is_delayed}
use Rattle.pdl_semantics.specs.Flat as flat
use Rattle.pdl_semantics.specs.Flatten.{flat_lock, mems_of}
use Rattle.pdl_semantics.specs.Stages.{plain_mem}
use Rattle.pdl_semantics.proofs.Facts.{lock_declared}
use Rattle.pdl_rules.specs.Refusal.{answers_at_once}
use Rattle.pdl_rules.specs.Typed.{is_memory, AreDistinct}
use Rattle.pdl_rules.specs.Memories.{info_of}
use Rattle.pdl_law_parts.specs.DeclaredMems.{has_lock, mem_names}
use Rattle.pdl_law_parts.proofs.WellFormedNames.{Among}
use Rattle.pdl_law_sides.specs.WholeNetlist.{names_delayed}
use Rattle.pdl_law_follows.proofs.Places.{count_yes, count_no}
use Rattle.pdl_law_follows.proofs.Places as places
use Rattle.pdl_law_follows.specs.Memories.{delayed_of, comb_of}

-- ---- some of the memories

-- one of those that pass a test
pub among_some : (test : Mem → Bool) (ms : List Mem) (m : Mem) → Among m (filter test ms) → Among m ms × (test m ≡ true)
among_some test [] m a = absurd a
among_some test (x ∷ xs) m a = at (test x) refl a (among_some test xs m)
  where
    at : (b : Bool) → test x ≡ b → Among m (if b then x ∷ filter test xs else filter test xs)
        → (Among m (filter test xs) → Among m xs × (test m ≡ true)) → Among m (x ∷ xs) × (test m ≡ true)
    at true e (inl s) rest = (inl s, subst (λ (y : Mem). test y ≡ true) s e)
    at true e (inr i) rest = let r = rest i in (inr r.0, r.1)
    at false e i rest = let r = rest i in (inr r.0, r.1)

-- a memory that passes a test is one of those that do
pub some_among : (test : Mem → Bool) (ms : List Mem) (m : Mem) → Among m ms → test m ≡ true → Among m (filter test ms)
some_among test [] m a t = absurd a
some_among test (x ∷ xs) m a t = at (test x) refl a (λ i. some_among test xs m i t)
  where
    at : (b : Bool) → test x ≡ b → Among m (x ∷ xs) → (Among m xs → Among m (filter test xs)) → Among m (if b then x ∷ filter test xs else filter test xs)
    at true e (inl s) rest = inl s
    at true e (inr i) rest = inr (rest i)
    at false e (inl s) rest = absurd (let y = subst (λ (y : Mem). test y ≡ false) s e in cc (y, t))
    at false e (inr i) rest = rest i

-- a name that no memory has, none that passes the test has
pub none_named : (test : Mem → Bool) (ms : List Mem) (x : List ℕ) → is_memory ms x ≡ false → is_memory (filter test ms) x ≡ false
none_named test [] x e = refl
none_named test (m ∷ ms) x e = at (test m) (none_named test ms x (or_parts _ (is_memory ms x) e).1)
  where
    at : (b : Bool) → is_memory (filter test ms) x ≡ false → is_memory (if b then m ∷ filter test ms else filter test ms) x ≡ false
    at true h = rw ((or_parts _ (is_memory ms x) e).0, h) refl
    at false h = h

-- of memories with distinct names, those that pass a test have distinct names
pub distinct_some : (test : Mem → Bool) (ms : List Mem) → AreDistinct ms → AreDistinct (filter test ms)
distinct_some test [] h = tt
distinct_some test (m ∷ ms) h = at (test m) (distinct_some test ms h.1)
  where
    at : (b : Bool) → AreDistinct (filter test ms) → AreDistinct (if b then m ∷ filter test ms else filter test ms)
    at true d = (none_named test ms m.name.name h.0, d)
    at false d = d

-- a memory that answers at once is not delayed
pub comb_delayed : (m : Mem) → answers_at_once m ≡ true → is_delayed m.kind ≡ false
comb_delayed m e = at (is_delayed m.kind) e
  where
    at : (b : Bool) → not b ≡ true → b ≡ false
    at false h = refl
    at true h = absurd (cc h)

-- the delayed memories and those that answer at once are as many as all
pub as_many : (ms : List Mem) → length (delayed_of ms) + length (comb_of ms) ≡ length ms
as_many [] = omega arith
as_many (m ∷ ms) = at (is_delayed m.kind) (as_many ms)
  where
    at : (b : Bool) → length (delayed_of ms) + length (comb_of ms) ≡ length ms
        → length (if b then m ∷ delayed_of ms else delayed_of ms) + length (if not b then m ∷ comb_of ms else comb_of ms) ≡ suc (length ms)
    at true h = omega (arith, h)
    at false h = omega (arith, h)

-- ---- their places

-- the k-th memory that answers at once, by its place in the pipe
pub record IsCombAt (ms these : List Mem) (k : ℕ) : Type 0 where
  pub place : ℕ
  pub low : place < length (mems_of ms)
  pub comb : is_delayed (slice_index_or (mems_of ms) place plain_mem).kind ≡ false
  pub count : count_by places.answers_at_once (take place (mems_of ms)) ≡ k
  pub lock : flat.has_lock (slice_index_or (mems_of ms) place plain_mem).lock ≡ has_lock these k

abbrev flat_mem : Mem → flat.Mem
flat_mem m = record { width = m.width.value; depth = m.depth.value; kind = m.kind; lock = flat_lock m.lock }

-- each memory that answers at once has its place in the pipe
pub comb_at : (ms : List Mem) (k : ℕ) → k < length (comb_of ms) → IsCombAt ms (comb_of ms) k
comb_at [] k l = absurd (omega (arith, l))
comb_at (x ∷ xs) k l = at (is_delayed x.kind) refl k l (comb_at xs)
  where
    at : (b : Bool) → is_delayed x.kind ≡ b → (k : ℕ) → k < length (if not b then x ∷ comb_of xs else comb_of xs)
        → ((j : ℕ) → j < length (comb_of xs) → IsCombAt xs (comb_of xs) j)
        → IsCombAt (x ∷ xs) (if not b then x ∷ comb_of xs else comb_of xs) k
    at true e k l rest =
        let r = rest k l in
        let low = r.low in
        record {
          place = suc r.place;
          low = omega (arith, low);
          comb = r.comb;
          count = count_no places.answers_at_once (flat_mem x) (take r.place (mems_of xs)) (ap (λ b. if b then false else true) e) ∙ r.count;
          lock = r.lock;
        }
    at false e zero l rest = record { place = 0; low = omega arith; comb = e; count = refl; lock = lock_declared x.lock }
    at false e (suc j) l rest =
        let r = rest j (omega (arith, l)) in
        let low = r.low in
        record {
          place = suc r.place;
          low = omega (arith, low);
          comb = r.comb;
          count = count_yes places.answers_at_once (flat_mem x) (take r.place (mems_of xs)) (ap (λ b. if b then false else true) e) ∙ ap suc r.count;
          lock = r.lock;
        }

-- memories of two forms that pass a test
module _ (test : Mem → Bool) (other : flat.Mem → Bool) (same : (m : Mem) → other (flat_mem m) ≡ test m) where
  -- as many memories pass the test in one form as in the other
  pub some_count : (ms : List Mem) → length (filter test ms) ≡ count_by other (mems_of ms)
  some_count [] = refl
  some_count (m ∷ ms) = at (test m) refl (some_count ms)
    where
      at : (b : Bool) → test m ≡ b → length (filter test ms) ≡ count_by other (mems_of ms)
          → length (if b then m ∷ filter test ms else filter test ms) ≡ count_by other (flat_mem m ∷ mems_of ms)
      at true e h = ap suc h ∙ sym (count_yes other (flat_mem m) (mems_of ms) (same m ∙ e))
      at false e h = h ∙ sym (count_no other (flat_mem m) (mems_of ms) (same m ∙ e))

  -- one of them, by how many stand before it
  pub some_at : (ms : List Mem) (m : ℕ) (d : MemInfo) → m < length ms
      → other (slice_index_or (mems_of ms) m plain_mem) ≡ true
      → slice_index_or (map info_of (filter test ms)) (count_by other (take m (mems_of ms))) d ≡ slice_index_or (map info_of ms) m d
  some_at [] m d l e = absurd (omega (arith, l))
  some_at (x ∷ xs) zero d l e = ap (λ b. slice_index_or (map info_of (if b then x ∷ filter test xs else filter test xs)) 0 d) (sym (same x) ∙ e)
  some_at (x ∷ xs) (suc m) d l e = at (test x) refl (some_at xs m d (omega (arith, l)) e)
    where
      at : (b : Bool) → test x ≡ b
          → slice_index_or (map info_of (filter test xs)) (count_by other (take m (mems_of xs))) d ≡ slice_index_or (map info_of xs) m d
          → slice_index_or (map info_of (if b then x ∷ filter test xs else filter test xs)) (count_by other (flat_mem x ∷ take m (mems_of xs))) d
          ≡ slice_index_or (map info_of xs) m d
      at true g h = ap (λ k. slice_index_or (map info_of (x ∷ filter test xs)) k d) (count_yes other (flat_mem x) (take m (mems_of xs)) (same x ∙ g)) ∙ h
      at false g h = ap (λ k. slice_index_or (map info_of (filter test xs)) k d) (count_no other (flat_mem x) (take m (mems_of xs)) (same x ∙ g)) ∙ h

-- ---- as they are told

-- a memory as it is told has the sizes of the flat form
pub told_at : (ms : List Mem) (m : ℕ) (d : MemInfo) → m < length ms
    → ((slice_index_or (map info_of ms) m d).depth ≡ (slice_index_or (mems_of ms) m plain_mem).depth)
    × ((slice_index_or (map info_of ms) m d).width ≡ (slice_index_or (mems_of ms) m plain_mem).width)
    × ((slice_index_or (map info_of ms) m d).delayed ≡ is_delayed (slice_index_or (mems_of ms) m plain_mem).kind)
told_at [] m d l = absurd (omega (arith, l))
told_at (x ∷ xs) zero d l = (refl, refl, refl)
told_at (x ∷ xs) (suc m) d l = told_at xs m d (omega (arith, l))

-- a memory is delayed, as it is told
abbrev pub told_delayed : MemInfo → Bool
told_delayed i = i.delayed

-- the delayed ones are told as delayed, and no others
pub all_told : (ms : List Mem) → filter told_delayed (map info_of (delayed_of ms)) ≡ map info_of (delayed_of ms)
all_told [] = refl
all_told (m ∷ ms) = at (is_delayed m.kind) refl (all_told ms)
  where
    at : (b : Bool) → is_delayed m.kind ≡ b → filter told_delayed (map info_of (delayed_of ms)) ≡ map info_of (delayed_of ms)
        → filter told_delayed (map info_of (if b then m ∷ delayed_of ms else delayed_of ms)) ≡ map info_of (if b then m ∷ delayed_of ms else delayed_of ms)
    at true e h =
        ap (λ b. if b then info_of m ∷ filter told_delayed (map info_of (delayed_of ms)) else filter told_delayed (map info_of (delayed_of ms))) e
        ∙ ap (λ l. info_of m ∷ l) h
    at false e h = h

-- no memory that answers at once is told as delayed
pub none_told : (ms : List Mem) → filter told_delayed (map info_of (comb_of ms)) ≡ []
none_told [] = refl
none_told (m ∷ ms) = at (is_delayed m.kind) refl (none_told ms)
  where
    at : (b : Bool) → is_delayed m.kind ≡ b → filter told_delayed (map info_of (comb_of ms)) ≡ []
        → filter told_delayed (map info_of (if not b then m ∷ comb_of ms else comb_of ms)) ≡ []
    at true e h = h
    at false e h = ap (λ b. if b then info_of m ∷ filter told_delayed (map info_of (comb_of ms)) else filter told_delayed (map info_of (comb_of ms))) e ∙ h

-- the names of the delayed memories are those that they are told with
pub names_told : (names : ℕ → List ℕ) (k : ℕ) (ms : List Mem)
    → ((i : ℕ) → i < length ms → names (k + i) ≡ mem_names ms i)
    → map (λ (i : MemInfo). i.name) (map info_of (delayed_of ms)) ≡ names_delayed names k (mems_of ms)
names_told names k [] h = refl
names_told names k (m ∷ ms) h =
    at (is_delayed m.kind) (names_told names (suc k) ms (λ i l. ap names (let z : suc k + i ≡ k + suc i = omega arith in z) ∙ h (suc i) (omega (arith, l))))
  where
    here : names k ≡ m.name.name
    here = ap names (let z : k ≡ k + 0 = omega arith in z) ∙ h 0 (omega arith)

    at : (b : Bool)
        → map (λ (i : MemInfo). i.name) (map info_of (delayed_of ms)) ≡ names_delayed names (suc k) (mems_of ms)
        → map (λ (i : MemInfo). i.name) (map info_of (if b then m ∷ delayed_of ms else delayed_of ms))
        ≡ (if b then names k ∷ [] else []) ++ names_delayed names (suc k) (mems_of ms)
    at true g = ap (λ l. m.name.name ∷ l) g ∙ ap (λ x. x ∷ names_delayed names (suc k) (mems_of ms)) (sym here)
    at false g = g
