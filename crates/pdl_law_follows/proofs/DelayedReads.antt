-- The delayed reads of a sound text whose variables rise: each memory has one, and no two bind one variable.
use Rattle.std.proofs.Common.{◌≡◌, refl, sym, ap, ◌∙◌, subst, ℕ, suc, ◌<◌, ◌≤◌, Bool, true, false, not, List, [], ◌∷◌, Option, Some, ◌==◌, arith, eq-eqb, ne_eqb}
use Rattle.std.specs.Prelude.{if◌then◌else◌, ⊤}
use Rattle.std.proofs.lemmas.Bool.{eqb-true, and_parts, false≢true}
use Rattle.std.proofs.lemmas.Option.{same_Some}
use Rattle.pdl_semantics.specs.Flat.{Op, DelayedRead, Stmt, Pipe}
use Rattle.pdl_semantics.specs.Forms.{on_delayed_read}
use Rattle.pdl_semantics.specs.Stages.{in_stage}
use Rattle.pdl_theory_turns.specs.Facts.{fetches_no, none_like, fetch_apart, AllFetches, Sound}
use Rattle.pdl_machine_inflight.specs.Readings.{Reading, reading_in, IsTheReading}
use Rattle.pdl_word.specs.Each.{Each}

-- ---- VARIABLES

-- the variables that delayed reads bind rise from this number on, below that one
abbrev pub RisesIn : ℕ → ℕ → List Stmt → Type 0
RisesIn lo hi [] = lo ≤ hi
RisesIn lo hi (x ∷ xs) = on_delayed_read (λ y m a. (lo ≤ y) × RisesIn (suc y) hi xs) (RisesIn lo hi xs) x.op

-- variables that rise from a number on rise from a lower one on
pub rises_from : (lo low hi : ℕ) (xs : List Stmt) → lo ≤ low → RisesIn low hi xs → RisesIn lo hi xs
rises_from lo low hi [] l h = omega (arith, l, h)
rises_from lo low hi (x ∷ xs) l h = at x.op h (λ i. rises_from lo low hi xs l i)
  where
    at : (op : Op) → on_delayed_read (λ y m a. (low ≤ y) × RisesIn (suc y) hi xs) (RisesIn low hi xs) op
        → (RisesIn low hi xs → RisesIn lo hi xs)
        → on_delayed_read (λ y m a. (lo ≤ y) × RisesIn (suc y) hi xs) (RisesIn lo hi xs) op
    at (DelayedRead y m a) i go = (let k = i.0 in omega (arith, l, k), i.1)
    at _ i go = go i

-- whatever holds of each delayed read holds of a memory's first one
pub reading_has : (P : ℕ → Reading → Type 0) (xs : List Stmt)
    → Each (λ (x : Stmt). on_delayed_read (λ y m a. P m (record { stage = x.stage; var = y })) ⊤ x.op) xs
    → (m : ℕ) (r : Reading) → reading_in m xs ≡ Some r → P m r
reading_has P [] h m r e = absurd (cc e)
reading_has P (x ∷ xs) h m r e = at x.op h.0 e (reading_has P xs h.1 m r)
  where
    at : (op : Op) → on_delayed_read (λ y n a. P n (record { stage = x.stage; var = y })) ⊤ op
        → on_delayed_read (λ y n a. if n == m then Some (record { stage = x.stage; var = y }) else reading_in m xs) (reading_in m xs) op ≡ Some r
        → (reading_in m xs ≡ Some r → P m r) → P m r
    at (DelayedRead y n a) i f go = by (n == m) refl f
      where
        by : (b : Bool) → (n == m) ≡ b → (if b then Some (record { stage = x.stage; var = y }) else reading_in m xs) ≡ Some r → P m r
        by true g j = subst (λ k. P k r) (eqb-true n m g) (subst (P n) (same_Some (record { stage = x.stage; var = y }) r j) i)
        by false g j = go j
    at _ i f go = go f

-- each variable that a delayed read binds is in the range
pub risen : (lo hi : ℕ) (xs : List Stmt) → RisesIn lo hi xs
    → Each (λ (x : Stmt). on_delayed_read (λ y m a. (lo ≤ y) × (y < hi)) ⊤ x.op) xs × (lo ≤ hi)
risen lo hi [] h = (tt, h)
risen lo hi (x ∷ xs) h = at x.op h (λ low i. risen low hi xs i)
  where
    Range : ℕ → Stmt → Type 0
    Range low z = on_delayed_read (λ y m a. (low ≤ y) × (y < hi)) ⊤ z.op

    weaker_op : (low : ℕ) (op : Op) → lo ≤ low → on_delayed_read (λ y m a. (low ≤ y) × (y < hi)) ⊤ op → on_delayed_read (λ y m a. (lo ≤ y) × (y < hi)) ⊤ op
    weaker_op low (DelayedRead y m a) l i = (let k = i.0 in omega (arith, l, k), i.1)
    weaker_op low _ l i = tt

    weaker : (low : ℕ) → lo ≤ low → (zs : List Stmt) → Each (Range low) zs → Each (Range lo) zs
    weaker low l zs i = Rattle.pdl_word.proofs.Each.each_weaker (Range low) (Range lo) (λ z j. weaker_op low z.op l j) zs i

    at : (op : Op) → on_delayed_read (λ y m a. (lo ≤ y) × RisesIn (suc y) hi xs) (RisesIn lo hi xs) op
        → ((low : ℕ) → RisesIn low hi xs → Each (Range low) xs × (low ≤ hi))
        → (on_delayed_read (λ y m a. (lo ≤ y) × (y < hi)) ⊤ op × Each (Range lo) xs) × (lo ≤ hi)
    at (DelayedRead y m a) i go =
        let r = go (suc y) i.1 in
        let l = i.0 in
        let k = r.1 in
        (((l, omega (arith, k)), weaker (suc y) (omega (arith, l)) xs r.0), omega (arith, l, k))
    at _ i go = let r = go lo i in ((tt, r.0), r.1)

-- two delayed reads that bind one variable are of one memory
pub reads_apart : (lo hi : ℕ) (xs : List Stmt) → RisesIn lo hi xs → (m n : ℕ) (r q : Reading)
    → reading_in m xs ≡ Some r → reading_in n xs ≡ Some q → r.var ≡ q.var → m ≡ n
reads_apart lo hi [] h m n r q e f g = absurd (cc e)
reads_apart lo hi (x ∷ xs) h m n r q e f g = at x.op h e f (λ low i. reads_apart low hi xs i m n r q)
  where
    found : ℕ → Op → Option Reading
    found k op = on_delayed_read (λ y i a. if i == k then Some (record { stage = x.stage; var = y }) else reading_in k xs) (reading_in k xs) op

    at : (op : Op) → on_delayed_read (λ y i a. (lo ≤ y) × RisesIn (suc y) hi xs) (RisesIn lo hi xs) op → found m op ≡ Some r → found n op ≡ Some q
        → ((low : ℕ) → RisesIn low hi xs → reading_in m xs ≡ Some r → reading_in n xs ≡ Some q → r.var ≡ q.var → m ≡ n) → m ≡ n
    at (DelayedRead y i a) j e f go = by (i == m) (i == n) refl refl e f
      where
        later : (k : ℕ) (z : Reading) → reading_in k xs ≡ Some z → suc y ≤ z.var
        later k z l = (reading_has (λ _ v. (suc y ≤ v.var) × (v.var < hi)) xs (risen (suc y) hi xs j.1).0 k z l).0

        by : (b c : Bool) → (i == m) ≡ b → (i == n) ≡ c
            → (if b then Some (record { stage = x.stage; var = y }) else reading_in m xs) ≡ Some r
            → (if c then Some (record { stage = x.stage; var = y }) else reading_in n xs) ≡ Some q → m ≡ n
        by true true s t k l = sym (eqb-true i m s) ∙ eqb-true i n t
        by true false s t k l =
            absurd
            (let v : y ≡ r.var = ap (λ (z : Reading). z.var) (same_Some (record { stage = x.stage; var = y }) r k) in
            let w = later n q l in omega (arith, v, w, g))
        by false true s t k l =
            absurd
            (let v : y ≡ q.var = ap (λ (z : Reading). z.var) (same_Some (record { stage = x.stage; var = y }) q l) in
            let w = later m r k in omega (arith, v, w, g))
        by false false s t k l = go (suc y) j.1 k l g
    at _ j e f go = go lo j e f g

-- ---- MEMORIES

-- none of these reads the memory delayed
abbrev Unread : ℕ → List Stmt → Type 0
Unread m xs = Each (λ (x : Stmt). on_delayed_read (λ y n a. n ≡ m → ⊥) ⊤ x.op) xs

-- no memory is read delayed twice
abbrev ReadOnce : List Stmt → Type 0
ReadOnce [] = ⊤
ReadOnce (x ∷ xs) = on_delayed_read (λ y m a. Unread m xs) ⊤ x.op × ReadOnce xs

module _ (p : Pipe) (fetch : ℕ → ℕ) where
  abbrev Fetched : List Stmt → Type 0
  Fetched xs = (s : ℕ) → AllFetches p fetch s (in_stage s xs)

  -- what holds of a statement's stage, and of the rest
  first_fetched : (x : Stmt) (xs : List Stmt) → Fetched (x ∷ xs) → AllFetches p fetch x.stage (x ∷ in_stage x.stage xs)
  first_fetched x xs h =
      subst (λ b. AllFetches p fetch x.stage (if b then x ∷ in_stage x.stage xs else in_stage x.stage xs)) (eq-eqb x.stage x.stage refl) (h x.stage)

  rest_fetched : (x : Stmt) (xs : List Stmt) → Fetched (x ∷ xs) → Fetched xs
  rest_fetched x xs h s = at (x.stage == s) (h s)
    where
      at : (b : Bool) → AllFetches p fetch s (if b then x ∷ in_stage s xs else in_stage s xs) → AllFetches p fetch s (in_stage s xs)
      at true i = i.1
      at false i = i

  -- a delayed read of a memory stands in its stage
  fetched_op : (x : Stmt) (xs : List Stmt) → Fetched (x ∷ xs) → on_delayed_read (λ y m a. fetch m ≡ x.stage) ⊤ x.op
  fetched_op x xs h = at x.op (first_fetched x xs h).0
    where
      at : (op : Op) → Rattle.pdl_theory_turns.specs.Facts.FetchIf p fetch x.stage x.guards op → on_delayed_read (λ y m a. fetch m ≡ x.stage) ⊤ op
      at (DelayedRead y m a) i = i.0.0
      at _ i = tt

  unread : (v m s : ℕ) (xs : List Stmt) → fetch m ≡ s → none_like v m (in_stage s xs) ≡ true → Fetched xs → Unread m xs
  unread v m s [] e n h = tt
  unread v m s (x ∷ xs) e n h = (one x.op refl (fetched_op x xs h), unread v m s xs e (rest (x.stage == s) n) (rest_fetched x xs h))
    where
      rest : (b : Bool) → none_like v m (if b then x ∷ in_stage s xs else in_stage s xs) ≡ true → none_like v m (in_stage s xs) ≡ true
      rest true i = (and_parts (fetches_no v m x.op) (none_like v m (in_stage s xs)) i).1
      rest false i = i

      here : x.stage ≡ s → fetches_no v m x.op ≡ true
      here i =
          (and_parts (fetches_no v m x.op) (none_like v m (in_stage s xs))
          (subst (λ b. none_like v m (if b then x ∷ in_stage s xs else in_stage s xs) ≡ true) (eq-eqb x.stage s i) n)).0

      one : (op : Op) → x.op ≡ op → on_delayed_read (λ y k a. fetch k ≡ x.stage) ⊤ op → on_delayed_read (λ y k a. k ≡ m → ⊥) ⊤ op
      one (DelayedRead y k a) f i = λ same.
          (let stage : x.stage ≡ s = sym i ∙ ap fetch same ∙ e in
          let apart = (and_parts (not (v == y)) (not (m == k)) (ap (fetches_no v m) (sym f) ∙ here stage)).1 in
          false≢true (ap not (sym (eq-eqb m k (sym same))) ∙ apart))
      one _ f i = tt

  read_once : (xs : List Stmt) → ((s : ℕ) → fetch_apart (in_stage s xs) ≡ true) → Fetched xs → ReadOnce xs
  read_once [] n h = tt
  read_once (x ∷ xs) n h = (one x.op refl (fetched_op x xs h), read_once xs (λ s. rest s (x.stage == s) (n s)) (rest_fetched x xs h))
    where
      rest : (s : ℕ) (b : Bool) → fetch_apart (if b then x ∷ in_stage s xs else in_stage s xs) ≡ true → fetch_apart (in_stage s xs) ≡ true
      rest s true i = (and_parts _ (fetch_apart (in_stage s xs)) i).1
      rest s false i = i

      alone : on_delayed_read (λ y m a. none_like y m (in_stage x.stage xs)) true x.op ≡ true
      alone =
          (and_parts (on_delayed_read (λ y m a. none_like y m (in_stage x.stage xs)) true x.op)
          (fetch_apart (in_stage x.stage xs))
          (subst (λ b. fetch_apart (if b then x ∷ in_stage x.stage xs else in_stage x.stage xs) ≡ true) (eq-eqb x.stage x.stage refl) (n x.stage))).0

      one : (op : Op) → x.op ≡ op → on_delayed_read (λ y k a. fetch k ≡ x.stage) ⊤ op → on_delayed_read (λ y m a. Unread m xs) ⊤ op
      one (DelayedRead y m a) f i =
          unread y m x.stage xs i (ap (λ (o : Op). on_delayed_read (λ y m a. none_like y m (in_stage x.stage xs)) true o) (sym f) ∙ alone) (rest_fetched x xs h)
      one _ f i = tt

-- a statement that reads delayed is the first one of its memory
abbrev IsFirst : List Stmt → Stmt → Type 0
IsFirst xs x = on_delayed_read (λ y m a. reading_in m xs ≡ Some (record { stage = x.stage; var = y })) ⊤ x.op

firsts : (xs : List Stmt) → ReadOnce xs → Each (IsFirst xs) xs
firsts [] h = tt
firsts (x ∷ xs) h = at x.op h.0 (firsts xs h.1)
  where
    -- after a read of memory n, statements that read other memories delayed are still the first ones of these
    behind : (w n : ℕ) (zs : List Stmt) → Unread n zs → Each (IsFirst xs) zs
        → Each
        (λ (z : Stmt). on_delayed_read
        (λ y m a. (if n == m then Some (record { stage = x.stage; var = w }) else reading_in m xs) ≡ Some (record { stage = z.stage; var = y })) ⊤ z.op) zs
    behind w n [] u i = tt
    behind w n (z ∷ zs) u i = (one z.op u.0 i.0, behind w n zs u.1 i.1)
      where
        one : (op : Op) → on_delayed_read (λ y m a. m ≡ n → ⊥) ⊤ op
            → on_delayed_read (λ y m a. reading_in m xs ≡ Some (record { stage = z.stage; var = y })) ⊤ op
            → on_delayed_read
            (λ y m a. (if n == m then Some (record { stage = x.stage; var = w }) else reading_in m xs) ≡ Some (record { stage = z.stage; var = y })) ⊤ op
        one (DelayedRead y m a) j e =
            ap (λ b. if b then Some (record { stage = x.stage; var = w }) else reading_in m xs) (ne_eqb n m (λ same. j (sym same))) ∙ e
        one _ j e = tt

    at : (op : Op) → on_delayed_read (λ y m a. Unread m xs) ⊤ op → Each (IsFirst xs) xs → Each (IsFirst (record x { op = op } ∷ xs)) (record x { op = op } ∷ xs)
    at (DelayedRead w n c) u i = (ap (λ b. if b then Some (record { stage = x.stage; var = w }) else reading_in n xs) (eq-eqb n n refl), behind w n xs u i)
    at _ u i = (tt, i)

-- ---- ALL

-- each delayed read of a sound pipe is that of its memory
pub each_reading : (p : Pipe) → Sound p → Each (IsTheReading p) p.stmts
each_reading p sound = firsts p.stmts (read_once p sound.fetch p.stmts sound.fetch_alone sound.fetch_ok)
