-- The deeds of a stage's statements and the derived work of the same statements. Of the whole language.
use Rattle.std.proofs.Common.{◌≡◌, refl, sym, ap, ◌∙◌, subst, ℕ, Bool, true, false, ◌&&◌, ◌||◌, not, List, [], ◌∷◌, ◌++◌, ◌==◌, cond, if◌then◌else◌, Option, Some, slice_index, slice_set}
use Rattle.std.proofs.Math.Bool.{and_assoc}
use Rattle.pdl_semantics.specs.Flat.{Commit, list_all, Op, Bind, CombRead, DelayedRead, Write, ReserveRead, ReserveWrite, Block, Release, Call, SpecCall, Verify, SpecCheck, SpecBarrier, AdviceBind, AdviceRead, AdviceWrite, Stmt, value_of, values_of, all_hold}
use Rattle.pdl_semantics.specs.Machine.{Ask, same_args, all_values, checked_args, HeldLocation, Blocked, Deeds, is_held, let_go, deeds_after_all}
use Rattle.pdl_semantics.specs.Machine
use Rattle.pdl_theory_turns.specs.Derived
use Rattle.pdl_theory_turns.specs.Derived.{said, Entry, Work, Around, work_after, do_all, has_entry, moved_up, without, with_entry_value}
use Rattle.pdl_semantics.proofs.Bools.{and_swap}

-- the locations of pending writes
abbrev pub places : List Entry → List HeldLocation
places [] = []
places (e ∷ es) = record { mem = e.mem; var = e.var } ∷ places es

-- a location is held exactly where a write of it is pending
pub places_has : (es : List Entry) (m a : ℕ) → is_held (places es) m a ≡ has_entry es m a
places_has [] m a = refl
places_has (e ∷ es) m a = ap (λ b. ((e.mem == m) && (e.var == a)) || b) (places_has es m a)

places_moved : (e : Entry) (es : List Entry) → places (moved_up e es) ≡ places es
places_moved e [] = refl
places_moved e (f ∷ es) = at (f.mem == e.mem) (places_moved f es) (places_moved e es)
  where
    at : (b : Bool) → places (moved_up f es) ≡ places es → places (moved_up e es) ≡ places es
        → places (cond b (record f { address = e.address; value = e.value } ∷ moved_up f es) (f ∷ moved_up e es))
        ≡ record { mem = f.mem; var = f.var } ∷ places es
    at true h k = ap (λ l. record { mem = f.mem; var = f.var } ∷ l) h
    at false h k = ap (λ l. record { mem = f.mem; var = f.var } ∷ l) k

-- without the pending write of a location that location is let go
pub places_without : (es : List Entry) (m a : ℕ) → places (without es m a) ≡ let_go (places es) m a
places_without [] m a = refl
places_without (e ∷ es) m a = at ((e.mem == m) && (e.var == a)) (places_without es m a)
  where
    at : (b : Bool) → places (without es m a) ≡ let_go (places es) m a
        → places (cond b (moved_up e es) (e ∷ without es m a)) ≡ cond b (places es) (record { mem = e.mem; var = e.var } ∷ let_go (places es) m a)
    at true h = places_moved e es
    at false h = ap (λ l. record { mem = e.mem; var = e.var } ∷ l) h

-- a value that is written leaves the locations of the pending writes as they are
pub places_filled : (es : List Entry) (m a v : ℕ) → places (with_entry_value es m a v) ≡ places es
places_filled [] m a v = refl
places_filled (e ∷ es) m a v = at ((e.mem == m) && (e.var == a)) (places_filled es m a v)
  where
    at : (b : Bool) → places (with_entry_value es m a v) ≡ places es
        → places (cond b (record e { value = Some v } ∷ es) (e ∷ with_entry_value es m a v)) ≡ record { mem = e.mem; var = e.var } ∷ places es
    at true h = refl
    at false h = ap (λ l. record { mem = e.mem; var = e.var } ∷ l) h

all_more : {X : Type 0} → (test : X → Bool) (xs : List X) (x : X) → list_all test (xs ++ x ∷ []) ≡ (list_all test xs && test x)
all_more test [] x = one (test x)
  where
    one : (b : Bool) → (b && true) ≡ b
    one true = refl
    one false = refl
all_more test (y ∷ xs) x = at (test y) (all_more test xs x)
  where
    at : (b : Bool) → list_all test (xs ++ x ∷ []) ≡ (list_all test xs && test x) → (b && list_all test (xs ++ x ∷ [])) ≡ ((b && list_all test xs) && test x)
    at true h = h
    at false h = refl

for_ask : (a f c x : Bool) → (((a && f) && c) && x) ≡ ((a && (f && x)) && c)
for_ask a f c x = and_swap (a && f) c x ∙ ap (λ b. b && c) (and_assoc a f x)

for_block : (b f c x : Bool) → (((b && f) && c) && x) ≡ (((b && x) && f) && c)
for_block b f c x = and_swap (b && f) c x ∙ ap (λ y. y && c) (and_swap b f x)

-- a barrier, and whether it finds nobody
clear_swap : (a b c : Bool) → ((a && (not b || c)) && c) ≡ (a && c)
clear_swap false b c = refl
clear_swap true true true = refl
clear_swap true true false = refl
clear_swap true false true = refl
clear_swap true false false = refl

module _ (o : Around) (read : ℕ → ℕ → ℕ) (block : Blocked → Bool) (free : Ask → Bool) where
  -- what the stage's conditions, that of room apart, say of deeds
  abbrev pub all_ready : Deeds → Bool
  all_ready d = (list_all block d.blocks && list_all free d.asks) && (not d.barrier || o.clear)

  -- the work with these deeds, pending writes and commits
  abbrev pub work_of : Deeds → List Entry → List Commit → Work
  work_of d es cs =
      record {
        env = d.env;
        entries = es;
        guess = d.guess;
        asks = d.asks;
        reserves = d.reserves;
        commits = cs;
        child =
            d.child;
        fails = d.fails;
        ready = all_ready d;
      }

  -- the work and the deeds of the same statements
  pub record Told (d : Deeds) (w : Work) : Type 0 where
    pub held : places w.entries ≡ d.held
    pub is : w ≡ work_of d w.entries w.commits

  -- the surroundings say what the stated conditions say
  abbrev pub Fits : Op → Type 0
  Fits (CombRead x m a) = (n : ℕ) → o.read m n ≡ read m n
  Fits (DelayedRead x m a) = (n : ℕ) → o.free m ≡ free (record { mem = m; var = x; address = n })
  Fits (Block m a) =
      (n : ℕ)
      → (o.can_write m n ≡ block (record { mem = m; address = n; writes = true }))
      × (o.can_read m n ≡ block (record { mem = m; address = n; writes = false }))
  Fits (Bind x e) = Unit {0}
  Fits (Write m a e) = Unit {0}
  Fits (ReserveRead m a) = Unit {0}
  Fits (ReserveWrite m a) = Unit {0}
  Fits (Release m a) = Unit {0}
  Fits (Call args) = Unit {0}
  Fits (SpecCall args) = Unit {0}
  Fits (Verify last args) = Unit {0}
  Fits SpecCheck = Unit {0}
  Fits SpecBarrier = Unit {0}
  Fits (AdviceBind x e) = Unit {0}
  Fits (AdviceRead x m a) = Unit {0}
  Fits (AdviceWrite m a e) = Unit {0}

  -- the surroundings say of each of these statements what the stated conditions say
  abbrev pub AllFit : List Stmt → Type 0
  AllFit [] = Unit {0}
  AllFit (x ∷ xs) = Fits x.op × AllFit xs

  -- a guess of these deeds, or an update of one, is what the surroundings give
  abbrev pub Guesses : Op → Deeds → Type 0
  Guesses (SpecCall args) d = values_of args (all_values d) ≡ o.guess
  Guesses (Verify false args) d = values_of args (all_values d) ≡ o.update
  Guesses _ d = Unit {0}

  -- each guess of these statements, after these deeds, and each update, is what the surroundings give
  abbrev pub AllGuesses : List Stmt → Deeds → Type 0
  AllGuesses [] d = Unit {0}
  AllGuesses (x ∷ xs) d =
      (all_hold x.guards d.env ≡ true → Guesses x.op d) × AllGuesses xs (if all_hold x.guards d.env then Machine.deeds_after read x.op d else d)

  told : (d : Deeds) (es : List Entry) (cs : List Commit) → places es ≡ d.held → Told d (work_of d es cs)
  told d es cs h = record { held = h; is = refl }

  block_fits : (b : Bool) (m n : ℕ)
      → ((o.can_write m n ≡ block (record { mem = m; address = n; writes = true }))
      × (o.can_read m n ≡ block (record { mem = m; address = n; writes = false })))
      → cond b (o.can_write m n) (o.can_read m n) ≡ block (record { mem = m; address = n; writes = b })
  block_fits true m n h = h.0
  block_fits false m n h = h.1

  told_check : (args : List ℕ) (d : Deeds) (es : List Entry) (cs : List Commit)
      → places es ≡ d.held → Told (Machine.after_verify args d) (Derived.after_verify args (work_of d es cs))
  told_check args d es cs h = at (same_args args d.guess)
    where
      at : (b : Bool)
          → Told (cond b d (record d { child = Some args; guess = args; fails = true }))
          (cond b (work_of d es cs) (record (work_of d es cs) { child = Some args; guess = args; fails = true }))
      at true = told d es cs h
      at false = told _ es cs h

  told_op : (op : Op) (d : Deeds) (es : List Entry) (cs : List Commit) → places es ≡ d.held → Fits op
      → Guesses op d → Told (Machine.deeds_after read op d) (work_after o op (work_of d es cs))
  told_op (Bind x e) d es cs h f c = told _ es cs h
  told_op (CombRead x m a) d es cs h f c = record { held = h; is = ap (λ v. work_of (record d { env = slice_set d.env x v }) es cs) (f (slice_index d.env a)) }
  told_op (DelayedRead x m a) d es cs h f c = record {
    held = h;
    is = λ i. record (work_of (Machine.deeds_after read (DelayedRead x m a) d) es cs) { ready = ready i };
  }
    where
      ready : (all_ready d && o.free m) ≡ all_ready (Machine.deeds_after read (DelayedRead x m a) d)
      ready =
          for_ask (list_all block d.blocks) (list_all free d.asks) (not d.barrier || o.clear) (o.free m)
          ∙ ap (λ b. (list_all block d.blocks && b) && (not d.barrier || o.clear))
          (ap (λ b. list_all free d.asks && b) (f (slice_index d.env a)) ∙ sym (all_more free d.asks _))
  told_op (Write m a e) d es cs h f c = record { held = places_filled es m a (value_of e d.env) ∙ h; is = refl }
  told_op (ReserveRead m a) d es cs h f c = told _ es cs h
  told_op (ReserveWrite m a) d es cs h f c = record {
    held = ap (λ l. record { mem = m; var = a } ∷ l) h;
    is = refl;
  }
  told_op (Block m a) d es cs h f c = record { held = h; is = λ i. record (work_of d es cs) { ready = ready i } }
    where
      kind : has_entry es m a ≡ is_held d.held m a
      kind = sym (places_has es m a) ∙ ap (λ l. is_held l m a) h

      ready : (all_ready d && cond (has_entry es m a) (o.can_write m (slice_index d.env a)) (o.can_read m (slice_index d.env a)))
          ≡ all_ready (Machine.deeds_after read (Block m a) d)
      ready =
          for_block (list_all block d.blocks) (list_all free d.asks) (not d.barrier || o.clear) _
          ∙ ap (λ b. (b && list_all free d.asks) && (not d.barrier || o.clear))
          (ap (λ b. list_all block d.blocks && cond b (o.can_write m (slice_index d.env a)) (o.can_read m (slice_index d.env a))) kind
          ∙ ap (λ b. list_all block d.blocks && b) (block_fits (is_held d.held m a) m (slice_index d.env a) (f (slice_index d.env a)))
          ∙ sym (all_more block d.blocks _))
  told_op (Release m a) d es cs h f c = record { held = places_without es m a ∙ ap (λ l. let_go l m a) h; is = refl }
  told_op (Call args) d es cs h f c = told _ es cs h
  told_op (SpecCall args) d es cs h f c =
      subst (λ (g : List ℕ). Told (Machine.deeds_after read (SpecCall args) d) (record (work_of d es cs) { child = Some g; guess = g })) c
      (told (Machine.deeds_after read (SpecCall args) d) es cs h)
  told_op (AdviceBind x e) d es cs h f c = told _ es cs h
  told_op (AdviceRead x m a) d es cs h f c = told _ es cs h
  told_op (AdviceWrite m a e) d es cs h f c = told _ es cs h
  told_op (Verify true args) d es cs h f c = told_check (values_of args d.env) d es cs h
  told_op (Verify false args) d es cs h f c =
      subst (λ (u : List ℕ). Told (Machine.deeds_after read (Verify false args) d) (Derived.after_verify u (work_of d es cs))) c
      (told_check (values_of args (all_values d)) d es cs h)
  told_op SpecCheck d es cs h f c = told _ es cs h
  told_op SpecBarrier d es cs h f c =
      record {
        held = h;
        is =
            λ i. record (work_of d es cs)
            { ready = clear_swap (list_all block d.blocks && list_all free d.asks) d.barrier o.clear i };
      }

  -- the same but for the guess, the successor and whether a verify fails: a thread that stands guesses anew in each cycle
  pub record Loosely (d : Deeds) (w : Work) : Type 0 where
    pub held : places w.entries ≡ d.held
    pub is : w ≡ work_of (record d { guess = w.guess; child = w.child; fails = w.fails }) w.entries w.commits

  loosen : (e : Deeds) (g : List ℕ) (c : Option (List ℕ)) (f : Bool) (w : Work) → Told (record e { guess = g; child = c; fails = f }) w → Loosely e w
  loosen e g c f w t = record {
    held = t.held;
    is = t.is ∙ (λ i. work_of (record e { guess = (sym t.is i).guess; child = (sym t.is i).child; fails = (sym t.is i).fails }) w.entries w.commits);
  }

  -- deeds and the work that begins with them agree but for the guess
  pub loose_start : (d : Deeds) (es : List Entry) (cs : List Commit) → places es ≡ d.held → Loosely d (work_of d es cs)
  loose_start d es cs h = record { held = h; is = refl }

  loose_op : (op : Op) (d : Deeds) (es : List Entry) (cs : List Commit) (g : List ℕ) (c : Option (List ℕ)) (f : Bool) → places es ≡ d.held → Fits op
      → Loosely (Machine.deeds_after read op d) (work_after o op (work_of (record d { guess = g; child = c; fails = f }) es cs))
  loose_op (Call args) d es cs g c f h k = record { held = h; is = refl }
  loose_op (SpecCall args) d es cs g c f h k = record { held = h; is = refl }
  loose_op (Verify last args) d es cs g c f h k =
      at (same_args (checked_args last args d) d.guess) (same_args (said o last args d.env) g)
    where
      given : Work
      given = work_of (record d { guess = g; child = c; fails = f }) es cs

      at : (a b : Bool) → Loosely (cond a d (record d { child = Some (checked_args last args d); guess = checked_args last args d; fails = true }))
          (cond b given (record given { child = Some (said o last args d.env); guess = said o last args d.env; fails = true }))
      at true true = record { held = h; is = refl }
      at true false = record { held = h; is = refl }
      at false true = record { held = h; is = refl }
      at false false = record { held = h; is = refl }
  loose_op op d es cs g c f h k = loosen (Machine.deeds_after read op d) g c f _ (told_op op (record d { guess = g; child = c; fails = f }) es cs h k tt)

  -- they agree so after one more statement that is carried out or passed over
  pub loose_step : (b : Bool) (op : Op) (d : Deeds) (w : Work)
      → Fits op → Loosely d w → Loosely (cond b (Machine.deeds_after read op d) d) (cond b (work_after o op w) w)
  loose_step true op d w k l =
      subst (λ v. Loosely (Machine.deeds_after read op d) (work_after o op v)) (sym l.is) (loose_op op d w.entries w.commits w.guess w.child w.fails l.held k)
  loose_step false op d w k l = l

  -- they agree so after more statements, where the surroundings fit each of them
  pub loose_all : (xs : List Stmt) (d : Deeds) (w : Work) → AllFit xs → Loosely d w → Loosely (deeds_after_all read xs d) (do_all o xs w)
  loose_all [] d w k l = l
  loose_all (x ∷ xs) d w k l =
      loose_all xs (if all_hold x.guards d.env then Machine.deeds_after read x.op d else d) (if all_hold x.guards w.env then work_after o x.op w else w) k.1
      (subst (λ b. Loosely (if all_hold x.guards d.env then Machine.deeds_after read x.op d else d) (cond b (work_after o x.op w) w))
      (ap (λ (v : Work). all_hold x.guards v.env) (sym l.is)) (loose_step (all_hold x.guards d.env) x.op d w k.0 l))

  -- the work and the deeds stay those of the same statements over one more statement that is carried out or passed over
  pub told_step : (b : Bool) (op : Op) (d : Deeds) (es : List Entry) (cs : List Commit) → places es ≡ d.held → Fits op
      → (b ≡ true → Guesses op d) → Told (cond b (Machine.deeds_after read op d) d) (cond b (work_after o op (work_of d es cs)) (work_of d es cs))
  told_step true op d es cs h f c = told_op op d es cs h f (c refl)
  told_step false op d es cs h f c = told d es cs h

  -- the work and the deeds stay those of the same statements over more statements, where the surroundings fit each of them
  pub told_all : (xs : List Stmt) (d : Deeds) (es : List Entry) (cs : List Commit) → places es ≡ d.held → AllFit xs
      → AllGuesses xs d → Told (deeds_after_all read xs d) (do_all o xs (work_of d es cs))
  told_all [] d es cs h f c = told d es cs h
  told_all (x ∷ xs) d es cs h f c =
      let t = told_step (all_hold x.guards d.env) x.op d es cs h f.0 c.0 in
      subst (λ w. Told (deeds_after_all read xs (if all_hold x.guards d.env then Machine.deeds_after read x.op d else d)) (do_all o xs w)) (sym t.is)
      (told_all xs (if all_hold x.guards d.env then Machine.deeds_after read x.op d else d) _ _ t.held f.1 c.1)
