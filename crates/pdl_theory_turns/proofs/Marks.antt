-- Undone writes, each with whether its value is known already.
use Rattle.std.proofs.Common.{◌≡◌, refl, sym, ap, ap₂, ◌∙◌, subst, ℕ, suc, ◌-◌, ◌≤◌, ◌<◌, nat_lt, length, arith, lt-ltb, ltb-true, Bool, true, false, ◌&&◌, List, [], ◌∷◌, ◌++◌, ◌⊎◌, inl, inr, ◌==◌, cond, if◌then◌else◌, append-nil, append_assoc}
use Rattle.std.proofs.lemmas.Bool.{eqb-true, eqb-false}
use Rattle.pdl_semantics.specs.Flat.{Array, with_value, Commit, of_mem, Lock}
use Rattle.pdl_semantics.specs.Locks.{Latest, Nothing, Coming, Known, as_latest, is_coming, value_or, read_ready}
use Rattle.pdl_semantics.specs.Promises.{wrote}
use Rattle.pdl_semantics.proofs.Readiness.{Calm, calm_nothing, calm_read, read_known}
use Rattle.pdl_theory_turns.specs.Derived.{Entry, latest_in}
use Rattle.pdl_theory_turns.proofs.Entries.{entries_of, write_of}
use Rattle.pdl_theory_turns.specs.Scans.{is_plain}

-- an undone write: its address, its value, and whether the value is known already
pub record Mark : Type 0 where
  pub address : ℕ
  pub value : ℕ
  pub known : Bool

abbrev mark_latest : Mark → Latest
mark_latest k = if k.known then Known k.value else Coming

-- what marks, the oldest first, say of an address, behind what older ones say
abbrev pub seen : ℕ → List Mark → Latest → Latest
seen a [] rest = rest
seen a (k ∷ ks) rest = seen a ks (if k.address == a then mark_latest k else rest)

-- the writes of memory m that marks stand for
abbrev pub strips : ℕ → List Mark → List Commit
strips m [] = []
strips m (k ∷ ks) = write_of m k.address k.value ∷ strips m ks

-- writes as marks, all with known values or none
abbrev pub marked : ℕ → List Commit → List Mark
marked k [] = []
marked k (c ∷ cs) = record { address = c.address; value = c.value; known = nat_lt 0 k } ∷ marked (k - 1) cs

-- all writes are marked but the first one, where they are one more
pub marked_more : (n : ℕ) (d : Commit) (cs : List Commit)
    → marked (suc n) (d ∷ cs) ≡ record { address = d.address; value = d.value; known = true } ∷ marked n cs
marked_more n d cs =
    ap₂ (λ b k. record { address = d.address; value = d.value; known = b } ∷ marked k cs) (lt-ltb 0 (suc n) (omega arith))
    (let e : suc n - 1 ≡ n = omega arith in e)

-- all writes are marked, with one more
pub marked_last : (cs : List Commit) (c : Commit)
    → marked (length (cs ++ c ∷ [])) (cs ++ c ∷ []) ≡ marked (length cs) cs ++ record { address = c.address; value = c.value; known = true } ∷ []
marked_last [] c = refl
marked_last (d ∷ cs) c =
    marked_more (length (cs ++ c ∷ [])) d (cs ++ c ∷ []) ∙ ap (λ l. record { address = d.address; value = d.value; known = true } ∷ l) (marked_last cs c)
    ∙ sym (ap (λ l. l ++ record { address = c.address; value = c.value; known = true } ∷ []) (marked_more (length cs) d cs))

-- the same marks, with more values known
abbrev pub Raised : List Mark → List Mark → Type 0
Raised [] [] = Unit {0}
Raised (k ∷ ks) (j ∷ js) = (k.address ≡ j.address) × (k.value ≡ j.value) × (k.known ≡ true → j.known ≡ true) × Raised ks js
Raised [] (j ∷ js) = ⊥
Raised (k ∷ ks) [] = ⊥

-- marks of m after some of the first were committed and more values became known
pub record Later (m : ℕ) (ks : List Mark) (gone : List Commit) (js : List Mark) : Type 0 where
  pub front : List Mark
  pub rest : List Mark
  pub whole : ks ≡ front ++ rest
  pub commits : strips m front ≡ gone
  pub raised : Raised rest js

-- what joined marks say of an address is what the second ones say behind the first
pub seen_append : (a : ℕ) (ks js : List Mark) (rest : Latest) → seen a (ks ++ js) rest ≡ seen a js (seen a ks rest)
seen_append a [] js rest = refl
seen_append a (k ∷ ks) js rest = seen_append a ks js (if k.address == a then mark_latest k else rest)

-- the writes of joined marks are those of the first and then those of the second
pub strips_append : (m : ℕ) (ks js : List Mark) → strips m (ks ++ js) ≡ strips m ks ++ strips m js
strips_append m [] js = refl
strips_append m (k ∷ ks) js = ap (λ l. write_of m k.address k.value ∷ l) (strips_append m ks js)

-- marks are the same as themselves, with all the values known that were
pub raised_refl : (ks : List Mark) → Raised ks ks
raised_refl [] = tt
raised_refl (k ∷ ks) = (refl, refl, (λ h. h), raised_refl ks)

raised_append : (ks ks' js js' : List Mark) → Raised ks ks' → Raised js js' → Raised (ks ++ js) (ks' ++ js')
raised_append [] [] js js' r q = q
raised_append [] (k' ∷ ks') js js' r q = absurd r
raised_append (k ∷ ks) [] js js' r q = absurd r
raised_append (k ∷ ks) (k' ∷ ks') js js' r q = (r.0, r.1, r.2, raised_append ks ks' js js' r.3 q)

strips_raised : (m : ℕ) (ks js : List Mark) → Raised ks js → strips m ks ≡ strips m js
strips_raised m [] [] r = refl
strips_raised m [] (j ∷ js) r = absurd r
strips_raised m (k ∷ ks) [] r = absurd r
strips_raised m (k ∷ ks) (j ∷ js) r = λ i. write_of m (r.0 i) (r.1 i) ∷ strips_raised m ks js r.3 i

-- the same writes, known where they were known before, are the same marks with more values known
pub raised_marked : (b c : ℕ) (cs : List Commit) → b ≤ c → Raised (marked b cs) (marked c cs)
raised_marked b c [] h = tt
raised_marked b c (x ∷ cs) h = (refl, refl, (λ k. lt-ltb 0 c (more (ltb-true 0 b k))), raised_marked (b - 1) (c - 1) cs (omega arith))
  where
    more : 0 < b → 0 < c
    more k = omega arith

-- the writes of marks are those that were committed since, and then those of the later marks
pub later_strips : (m : ℕ) (ks : List Mark) (gone : List Commit) (js : List Mark) → Later m ks gone js → strips m ks ≡ gone ++ strips m js
later_strips m ks gone js l = ap (strips m) l.whole ∙ strips_append m l.front l.rest ∙ ap₂ (λ a b. a ++ b) l.commits (strips_raised m l.rest js l.raised)

-- marks that stand for no writes are none
pub no_strips : (m : ℕ) (ks : List Mark) → strips m ks ≡ [] → ks ≡ []
no_strips m [] h = refl
no_strips m (k ∷ ks) h = absurd (cc h)

no_parts : (ks js : List Mark) → ks ++ js ≡ [] → (ks ≡ []) × (js ≡ [])
no_parts [] js h = (refl, h)
no_parts (k ∷ ks) js h = absurd (cc h)

raised_none : (ks js : List Mark) → ks ≡ [] → Raised ks js → js ≡ []
raised_none [] [] h r = refl
raised_none [] (j ∷ js) h r = absurd r
raised_none (k ∷ ks) js h r = absurd (cc h)

-- nothing is known of no marks
pub later_none : (m : ℕ) → Later m [] [] []
later_none m = record { front = []; rest = []; whole = refl; commits = refl; raised = tt }

-- more marks behind, of which some are committed only where there are none before
pub later_more : (m : ℕ) (ks : List Mark) (d : List Commit) (ks' xs : List Mark) (e : List Commit) (xs' : List Mark)
    → Later m ks d ks' → Later m xs e xs' → (e ≡ []) ⊎ (ks ≡ []) → Later m (ks ++ xs) (d ++ e) (ks' ++ xs')
later_more m ks d ks' xs e xs' l k (inl h) =
    record {
      front = l.front;
      rest = l.rest ++ xs;
      whole = ap (λ a. a ++ xs) l.whole ∙ append_assoc l.front l.rest xs;
      commits = l.commits ∙ sym (append-nil d) ∙ ap (λ a. d ++ a) (sym h);
      raised =
          raised_append l.rest ks' xs xs' l.raised
          (subst (λ a. Raised a xs') (sym (k.whole ∙ ap (λ a. a ++ k.rest) (no_strips m k.front (k.commits ∙ h)))) k.raised);
    }
later_more m ks d ks' xs e xs' l k (inr h) =
    let n = no_parts l.front l.rest (sym l.whole ∙ h) in
    record {
      front = k.front;
      rest = k.rest;
      whole = ap (λ a. a ++ xs) h ∙ k.whole;
      commits = k.commits ∙ ap (λ a. a ++ e) (sym (sym l.commits ∙ ap (strips m) n.0));
      raised = subst (λ a. Raised k.rest (a ++ xs')) (sym (raised_none l.rest ks' n.1 l.raised)) k.raised;
    }

calm_mark : (k j : Mark) → (k.known ≡ true → j.known ≡ true) → Calm (mark_latest k) (mark_latest j)
calm_mark k j h = at k.known j.known h
  where
    at : (b c : Bool) → (b ≡ true → c ≡ true) → Calm (cond b (Known k.value) Coming) (cond c (Known j.value) Coming)
    at true true g = ((λ e. e), (λ e. e))
    at true false g = absurd (cc (g refl))
    at false true g = ((λ e. absurd (cc e)), (λ e. refl))
    at false false g = ((λ e. e), (λ e. e))

calm_raised : (a : ℕ) (ks js : List Mark) (l k : Latest) → Raised ks js → Calm l k → Calm (seen a ks l) (seen a js k)
calm_raised a [] [] l k r c = c
calm_raised a [] (j ∷ js) l k r c = absurd r
calm_raised a (i ∷ ks) [] l k r c = absurd r
calm_raised a (i ∷ ks) (j ∷ js) l k r c = calm_raised a ks js _ _ r.3 (at (i.address == a) (j.address == a) (ap (λ n. n == a) r.0))
  where
    at : (b d : Bool) → b ≡ d → Calm (cond b (mark_latest i) l) (cond d (mark_latest j) k)
    at true true e = calm_mark i j r.2
    at true false e = absurd (cc e)
    at false true e = absurd (cc e)
    at false false e = c

-- a ready location stays ready
pub later_ready : (m a : ℕ) (k : Lock) (ks : List Mark) (gone : List Commit) (js : List Mark) → Later m ks gone js
    → read_ready k (seen a ks Nothing) ≡ true → read_ready k (seen a js Nothing) ≡ true
later_ready m a k ks gone js l h =
    calm_read k (seen a ks Nothing) (seen a js Nothing)
    (subst (λ x. Calm x (seen a js Nothing))
    (sym (ap (λ x. seen a x Nothing) l.whole ∙ seen_append a l.front l.rest Nothing))
    (calm_raised a l.rest js _ Nothing l.raised (calm_nothing _ Nothing refl)))
    h

-- what marks give of a word, where it is not still to come, is the word after their writes
seen_value : (m a : ℕ) (ks : List Mark) (rest : Latest) (words : Array) (base : ℕ)
    → is_coming (seen a ks rest) ≡ false → (is_coming rest ≡ false → value_or rest base ≡ words a)
    → value_or (seen a ks rest) base ≡ wrote words (strips m ks) a
seen_value m a [] rest words base h f = f h
seen_value m a (k ∷ ks) rest words base h f = seen_value m a ks _ (with_value words k.address k.value) base h (at (k.address == a) refl (a == k.address) refl)
  where
    here : (b : Bool) → is_coming (cond b (Known k.value) Coming) ≡ false → value_or (cond b (Known k.value) Coming) base ≡ k.value
    here true e = refl
    here false e = absurd (cc e)

    at : (b : Bool) → (k.address == a) ≡ b → (c : Bool) → (a == k.address) ≡ c
        → is_coming (cond b (mark_latest k) rest) ≡ false
        → value_or (cond b (mark_latest k) rest) base ≡ cond c k.value (words a)
    at true e true g = here k.known
    at true e false g = absurd (eqb-false _ _ g (sym (eqb-true _ _ e)))
    at false e true g = absurd (eqb-false _ _ e (sym (eqb-true _ _ g)))
    at false e false g = f

-- a ready read gives the word after the undone writes
pub ready_value : (m a : ℕ) (k : Lock) (ks : List Mark) (words : Array)
    → (is_plain k ≡ true → ks ≡ []) → read_ready k (seen a ks Nothing) ≡ true
    → value_or (seen a ks Nothing) (words a) ≡ wrote words (strips m ks) a
ready_value m a k ks words p h = seen_value m a ks Nothing words (words a) (read_known k _ (λ e. ap (λ l. seen a l Nothing) (p e)) h) (λ e. refl)

-- only a memory's own entries tell of it
pub latest_own : (es : List Entry) (m a : ℕ) (rest : Latest) → latest_in es m a rest ≡ latest_in (entries_of m es) m a rest
latest_own [] m a rest = refl
latest_own (e ∷ es) m a rest = at (e.mem == m) refl (e.address == a) refl (latest_own es m a rest)
  where
    at : (b : Bool) → (e.mem == m) ≡ b → (c : Bool) → (e.address == a) ≡ c → latest_in es m a rest ≡ latest_in (entries_of m es) m a rest
        → cond (b && c) (as_latest e.value) (latest_in es m a rest) ≡ latest_in (cond b (e ∷ entries_of m es) (entries_of m es)) m a rest
    at true f true g h = sym (ap₂ (λ x y. cond (x && y) (as_latest e.value) (latest_in (entries_of m es) m a rest)) f g)
    at true f false g h = h ∙ sym (ap₂ (λ x y. cond (x && y) (as_latest e.value) (latest_in (entries_of m es) m a rest)) f g)
    at false f c g h = h

-- marks of a memory's writes are those writes
pub strips_marked : (m b : ℕ) (cs : List Commit) → strips m (marked b (of_mem m cs)) ≡ of_mem m cs
strips_marked m b [] = refl
strips_marked m b (c ∷ cs) = at (c.mem == m) refl (strips_marked m (b - 1) cs) (strips_marked m b cs)
  where
    at : (t : Bool) → (c.mem == m) ≡ t → strips m (marked (b - 1) (of_mem m cs)) ≡ of_mem m cs → strips m (marked b (of_mem m cs)) ≡ of_mem m cs
        → strips m (marked b (cond t (c ∷ of_mem m cs) (of_mem m cs))) ≡ cond t (c ∷ of_mem m cs) (of_mem m cs)
    at true e less on = λ i. record { mem = sym (eqb-true c.mem m e) i; address = c.address; value = c.value } ∷ less i
    at false e less on = on
