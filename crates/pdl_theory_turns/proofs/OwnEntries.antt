-- A thread's entries of one memory: what its stage does to them; and guards that keep their values over statements.
use Rattle.std.proofs.Common.{◌≡◌, ◌||◌, ◌⊎◌, refl, sym, ap, ap₂, ◌∙◌, ℕ, ◌+◌, inl, inr, length, take, drop, Bool, true, false, ◌&&◌, not, List, [], ◌∷◌, ◌++◌, Some, None, ◌==◌, cond, if◌then◌else◌, slice_index, append-nil}
use Rattle.pdl_semantics.specs.Flat.{of_mem, Op, ReserveWrite, Release, Verify, Stmt, Guard, all_hold}
use Rattle.pdl_semantics.specs.Stages.{is_reserve, is_release}
use Rattle.pdl_semantics.specs.Machine.{same_args, is_held, Pending, Deeds, deeds_after_all, checked_args}
use Rattle.pdl_semantics.specs.Cycle.{new_entries, with_writes_of, releases_of}
use Rattle.pdl_theory_turns.proofs.EntryCommits.{released}
use Rattle.pdl_semantics.specs.Machine
use Rattle.pdl_theory_turns.specs.Derived.{Entry, Work, Around, do_all}
use Rattle.pdl_theory_turns.proofs.Writes.{and_left, and_right}
use Rattle.pdl_theory_turns.proofs.Entries.{entries_of, entry, Open, waiting, known, open_vars, told}
use Rattle.pdl_theory_turns.specs.Alone.{is_nil}
use Rattle.pdl_theory_turns.proofs.Phases.{nil_of, no_fulls}
use Rattle.pdl_theory_turns.specs.Scans.{Phase, is_over, none_of, binds_var, is_fixed, free_of, is_dead, keeps_guards}
use Rattle.pdl_theory_turns.proofs.Stages.{step}
use Rattle.pdl_theory_turns.proofs.Paths.{Fixed, all_stays, taken_stays}
use Rattle.pdl_theory_turns.proofs.Lists.{own, pend}
use Rattle.pdl_theory_turns.proofs.Steps.{Staged, unnamed, pendings, pend_append, new_more, releases_more}

-- lists of entries of one memory
no_length : {X : Type 0} → (xs : List X) → length xs ≡ 0 → xs ≡ []
no_length [] h = refl
no_length (x ∷ xs) h = absurd (cc h)

-- where no location waits for a value no pending write does
pub no_opens : (os : List Open) → open_vars os ≡ [] → os ≡ []
no_opens [] h = refl
no_opens (o ∷ os) h = absurd (cc h)

no_unnamed : (xs : List Pending) → unnamed xs ≡ [] → xs ≡ []
no_unnamed [] h = refl
no_unnamed (x ∷ xs) h = absurd (cc h)

drop_whole : {X : Type 0} → (xs : List X) → drop (length xs) xs ≡ []
drop_whole [] = refl
drop_whole (x ∷ xs) = drop_whole xs

take_whole : {X : Type 0} → (xs : List X) → take (length xs) xs ≡ xs
take_whole [] = refl
take_whole (x ∷ xs) = ap (λ l. x ∷ l) (take_whole xs)

-- the pending writes of a thread's entries are those of its entries of the memory
pub pend_own : (m n : ℕ) (es : List Entry) → pend m n es ≡ pend m n (entries_of m es)
pend_own m n [] = refl
pend_own m n (e ∷ es) = at (e.mem == m) refl (pend_own m n es)
  where
    at : (b : Bool) → (e.mem == m) ≡ b → pend m n es ≡ pend m n (entries_of m es)
        → pend m n es ++ cond b (own n e ∷ []) [] ≡ pend m n (cond b (e ∷ entries_of m es) (entries_of m es))
    at true f h = ap₂ (λ l b. l ++ cond b (own n e ∷ []) []) h (sym f)
    at false f h = append-nil _ ∙ h

-- a stage's work on a thread's entries of m, of which start are those before it
pub record Worked (m n : ℕ) (start : List Pending) (d : Deeds) (w : Work) : Type 0 where
  pub after : pend m n w.entries
      ≡ drop (releases_of m d.releases) (with_writes_of m n d.writes (start ++ new_entries m n d.reserves))
  -- what a release finds, it takes out whole
  pub full : (releases_of m d.releases ≡ 0) ⊎ (length (with_writes_of m n d.writes (start ++ new_entries m n d.reserves)) ≡ releases_of m d.releases)
  pub commits : of_mem m w.commits
      ≡ released m (take (releases_of m d.releases) (with_writes_of m n d.writes (start ++ new_entries m n d.reserves)))

-- where a thread's entries follow its phase, the stage has done its work on those of memory m
pub worked : (m n : ℕ) (start : List Pending) (d : Deeds) (w : Work) (ph : Phase)
    → Staged m n ph (entries_of m w.entries) (of_mem m w.commits) (start ++ new_entries m n d.reserves) d.writes (releases_of m d.releases)
    → (releases_of m d.releases ≡ 0) ⊎ (is_over ph ≡ true) → Worked m n start d w
worked m n start d w ph g (inl h) =
    let none : g.out ≡ [] = no_length g.out (g.outs ∙ h) in
    let two : with_writes_of m n d.writes (start ++ new_entries m n d.reserves) ≡ pend m n w.entries = g.two
    ∙ ap₂ (λ l k. l ++ (k ++ pend m n (waiting m g.opens))) none (g.exact h) ∙ sym (pend_append m n (waiting m g.opens) (known m g.fulls))
    ∙ ap (pend m n) (sym g.entries) ∙ sym (pend_own m n w.entries) in
    record {
      after = sym two ∙ sym (ap (λ k. drop k (with_writes_of m n d.writes (start ++ new_entries m n d.reserves))) h);
      full = inl h;
      commits = g.commits ∙ ap (released m) none ∙ sym (ap (λ k. released m (take k (with_writes_of m n d.writes (start ++ new_entries m n d.reserves)))) h);
    }
worked m n start d w ph g (inr h) =
    let closed : g.opens ≡ [] = no_opens g.opens (g.at_open ∙ nil_of ph.unwritten (and_left _ _ h)) in
    let empty : g.fulls ≡ [] = no_fulls g.fulls (g.at_full ∙ nil_of ph.full (and_right (is_nil ph.unwritten) _ h)) in
    let rest : g.rest ≡ [] = no_unnamed g.rest (g.same ∙ ap (λ l. pendings n (told m l)) empty) in
    let two : with_writes_of m n d.writes (start ++ new_entries m n d.reserves) ≡ g.out =
    g.two ∙ ap₂ (λ l k. g.out ++ (l ++ pend m n (waiting m k))) rest closed ∙ append-nil g.out in record {
      after =
          pend_own m n w.entries ∙ ap (pend m n) (g.entries ∙ ap₂ (λ l k. waiting m l ++ known m k) closed empty)
          ∙ sym (ap₂ drop (sym g.outs) two ∙ drop_whole g.out);
      full = inr (ap length two ∙ g.outs);
      commits = g.commits ∙ ap (released m) (sym (ap₂ take (sym g.outs) two ∙ take_whole g.out));
    }

-- guards stay over statements that don't bind them
pub none_first : (test : Op → Bool) (xs ys : List Stmt) → none_of test (xs ++ ys) ≡ true → none_of test xs ≡ true
none_first test [] ys h = refl
none_first test (x ∷ xs) ys h = ap₂ (λ a b. a && b) (and_left (not (test x.op)) _ h) (none_first test xs ys (and_right _ _ h))

-- where none of joined statements passes a test, none of the second ones does
pub none_second : (test : Op → Bool) (xs ys : List Stmt) → none_of test (xs ++ ys) ≡ true → none_of test ys ≡ true
none_second test [] ys h = h
none_second test (x ∷ xs) ys h = none_second test xs ys (and_right _ _ h)

free_front : (gs : List Guard) (xs ys : List Stmt) → free_of gs (xs ++ ys) ≡ true → free_of gs xs ≡ true
free_front [] xs ys h = refl
free_front (g ∷ gs) xs ys h = ap₂ (λ a b. a && b) (none_first (binds_var g.var) xs ys (and_left _ _ h)) (free_front gs xs ys (and_right _ _ h))

keeps_front : (gs : List Guard) (xs ys : List Stmt) → keeps_guards gs (xs ++ ys) ≡ true → keeps_guards gs xs ≡ true
keeps_front gs xs ys h = at (is_dead gs) h
  where
    at : (b : Bool) → (b || free_of gs (xs ++ ys)) ≡ true → (b || free_of gs xs) ≡ true
    at true k = refl
    at false k = free_front gs xs ys k

-- where joined statements leave the values of their guards alone, the first ones do
pub fixed_front : (xs ys : List Stmt) → is_fixed (xs ++ ys) ≡ true → is_fixed xs ≡ true
fixed_front [] ys h = refl
fixed_front (x ∷ xs) ys h = ap₂ (λ a b. a && b) (keeps_front x.guards (x ∷ xs) ys (and_left _ _ h)) (fixed_front xs ys (and_right _ _ h))

-- where joined statements leave the values of their guards alone, the second ones do
pub fixed_second : (xs ys : List Stmt) → is_fixed (xs ++ ys) ≡ true → is_fixed ys ≡ true
fixed_second [] ys h = h
fixed_second (x ∷ xs) ys h = fixed_second xs ys (and_right _ _ h)

-- statements are carried out as the values at their end, or after later ones, tell
pub fixed_to : (path : List ℕ) (o : Around) (xs ys : List Stmt) (w : Work) → is_fixed (xs ++ ys) ≡ true
    → ((g : ℕ) → none_of (binds_var g) ys ≡ true → slice_index path g ≡ slice_index (do_all o xs w).env g) → Fixed path o xs w
fixed_to path o [] ys w h e = tt
fixed_to path o (x ∷ xs) ys w h e = (
  taken_stays x.guards ((x ∷ xs) ++ ys) w.env path (and_left _ _ h)
      (λ g k. e g (none_second (binds_var g) (x ∷ xs) ys k) ∙ all_stays g o (x ∷ xs) w (none_first (binds_var g) (x ∷ xs) ys k)),
  fixed_to path o xs ys (step o x w) (and_right _ _ h) e,
)

-- only its stage reserves m
quiet_op : (m n : ℕ) (read : ℕ → ℕ → ℕ) (op : Op) (d : Deeds)
    → not (is_reserve m op) ≡ true → new_entries m n d.reserves ≡ []
    → new_entries m n (Machine.deeds_after read op d).reserves ≡ []
quiet_op m n read (ReserveWrite j a) d h k =
    new_more m n d.reserves (record { mem = j; var = a; address = slice_index d.env a })
    ∙ ap₂ (λ l b. l ++ cond b (own n (entry m a (slice_index d.env a) None) ∷ []) []) k (off (j == m) h)
  where
    off : (b : Bool) → not b ≡ true → b ≡ false
    off true q = absurd (cc q)
    off false q = refl
quiet_op m n read (Verify last args) d h k = at (same_args (checked_args last args d) d.guess)
  where
    at : (b : Bool)
        → new_entries m n (cond b d (record d { child = Some (checked_args last args d); guess = checked_args last args d; fails = true })).reserves ≡ []
    at true = k
    at false = k
quiet_op m n read _ d h k = k

-- only its stage releases m
quiet_release : (m : ℕ) (read : ℕ → ℕ → ℕ) (op : Op) (d : Deeds)
    → not (is_release m op) ≡ true → releases_of m d.releases ≡ 0 → releases_of m (Machine.deeds_after read op d).releases ≡ 0
quiet_release m read (Release j a) d h k = releases_more m d.releases _ ∙ ap₂ (λ x y. x + y) k (none (is_held d.held j a))
  where
    none : (b : Bool) → releases_of m (if b then j ∷ [] else []) ≡ 0
    none true = by (j == m) h
      where
        by : (c : Bool) → not c ≡ true → cond {A = ℕ} c 1 0 ≡ 0
        by true i = absurd (cc i)
        by false i = refl
    none false = refl
quiet_release m read (Verify last args) d h k = at (same_args (checked_args last args d) d.guess)
  where
    at : (b : Bool)
        → releases_of m (cond b d (record d { child = Some (checked_args last args d); guess = checked_args last args d; fails = true })).releases ≡ 0
    at true = k
    at false = k
quiet_release m read _ d h k = k

-- statements that release nothing of m release no write of it
pub quiet_releases : (m : ℕ) (read : ℕ → ℕ → ℕ) (xs : List Stmt) (d : Deeds)
    → none_of (is_release m) xs ≡ true → releases_of m d.releases ≡ 0 → releases_of m (deeds_after_all read xs d).releases ≡ 0
quiet_releases m read [] d h k = k
quiet_releases m read (x ∷ xs) d h k =
    quiet_releases m read xs (if all_hold x.guards d.env then Machine.deeds_after read x.op d else d) (and_right _ _ h) (at (all_hold x.guards d.env))
  where
    at : (b : Bool) → releases_of m (cond b (Machine.deeds_after read x.op d) d).releases ≡ 0
    at true = quiet_release m read x.op d (and_left _ _ h) k
    at false = k

-- statements that reserve no write of memory m give it no new pending writes
pub quiet_reserves : (m n : ℕ) (read : ℕ → ℕ → ℕ) (xs : List Stmt) (d : Deeds)
    → none_of (is_reserve m) xs ≡ true → new_entries m n d.reserves ≡ []
    → new_entries m n (deeds_after_all read xs d).reserves ≡ []
quiet_reserves m n read [] d h k = k
quiet_reserves m n read (x ∷ xs) d h k =
    quiet_reserves m n read xs (if all_hold x.guards d.env then Machine.deeds_after read x.op d else d) (and_right _ _ h) (at (all_hold x.guards d.env))
  where
    at : (b : Bool) → new_entries m n (cond b (Machine.deeds_after read x.op d) d).reserves ≡ []
    at true = quiet_op m n read x.op d (and_left _ _ h) k
    at false = k
