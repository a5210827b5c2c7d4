-- What a live thread keeps on its own way through the stages, whatever stands around it: the locations that it holds, its pending writes, the reads that it awaits.
use Rattle.std.proofs.Common.{◌≡◌, refl, sym, ap, ap₂, ◌∙◌, subst, ℕ, ◌≤◌, ◌<◌, Bool, true, false, ◌&&◌, ◌||◌, not, List, [], ◌∷◌, ◌++◌, Some, ◌==◌, nat_lt, cond, if◌then◌else◌, arith, eq-eqb, slice_index, append-nil, ltb-true}
use Rattle.std.proofs.lemmas.Bool.{eqb-true}
use Rattle.pdl_semantics.specs.Flat.{Commit, Op, Write, ReserveWrite, Release, Verify, Stmt, all_hold}
use Rattle.pdl_semantics.specs.Stages.{onpath, is_reserve, is_release}
use Rattle.pdl_semantics.specs.Machine.{same_args, Pending, HeldLocation, held_after, held_before}
use Rattle.pdl_semantics.specs.Sound.{stages_before, is_call}
use Rattle.pdl_semantics.specs.Machine
use Rattle.pdl_theory_turns.specs.Derived.{Entry, Work, Around, work_after, do_all, said}
use Rattle.pdl_theory_turns.specs.Scans.{Phase, Fresh, after_write, after_reserve, after_release, next_phase, phase_all, is_over, none_of, all_at, is_fixed, called}
use Rattle.pdl_theory_simulation.proofs.FlowFacts.{use_ok, uses_ok, calls_ok}
use Rattle.pdl_theory_turns.proofs.Writes.{and_left, and_right}
use Rattle.pdl_theory_turns.proofs.Entries.{entries_of, entry, write_of, Open, Full, waiting, known, open_vars, full_vars, told}
use Rattle.pdl_theory_turns.specs.Alone.{is_nil, is_among, but_last}
use Rattle.pdl_theory_turns.proofs.Apart.{Apart, apart_fresh}
use Rattle.pdl_theory_turns.proofs.Phases.{nil_of, no_fulls}
use Rattle.pdl_theory_turns.proofs.Stages.{step}
use Rattle.pdl_theory_turns.proofs.Paths.{Fixed, all_stays, taken_stays}
use Rattle.pdl_theory_turns.proofs.Deeds.{places, places_without, places_filled}
use Rattle.pdl_theory_turns.proofs.Lists.{own, pend}
use Rattle.pdl_theory_turns.proofs.Steps.{Staged, unnamed, pendings, unnamed_append, pendings_append, pend_append, is_used, AllUsed}
use Rattle.pdl_theory_turns.proofs.OwnEntries.{pend_own, no_opens}

-- SHAPES

-- a thread's entries of m in a phase of its statements
pub record Shape (m : ℕ) (ph : Phase) (es : List Entry) : Type 0 where
  pub opens : List Open
  pub fulls : List Full
  pub entries : es ≡ waiting m opens ++ known m fulls
  pub at_open : open_vars opens ≡ ph.unwritten
  pub at_full : full_vars fulls ≡ ph.full
  pub apart : Apart ph

-- before the first reservation there are none
pub shape_fresh : (m : ℕ) → Shape m Fresh []
shape_fresh m = record { opens = []; fulls = []; entries = refl; at_open = refl; at_full = refl; apart = apart_fresh }

-- a thread whose write to m isn't begun, or is done, has no pending write of m
pub shape_over : (m : ℕ) (ph : Phase) (es : List Entry) → is_over ph ≡ true → Shape m ph es → es ≡ []
shape_over m ph es h s =
    s.entries
    ∙ ap₂ (λ l k. waiting m l ++ known m k) (no_opens s.opens (s.at_open ∙ nil_of ph.unwritten (and_left _ _ h)))
    (no_fulls s.fulls (s.at_full ∙ nil_of ph.full (and_right (is_nil ph.unwritten) _ h)))

-- so there are none then
pub shape_none : (m : ℕ) (es : List Entry) → Shape m Fresh es → es ≡ []
shape_none m es s = shape_over m Fresh es refl s

-- entries with a value, as pending writes
pend_known : (m n : ℕ) (fs : List Full) → unnamed (pend m n (known m fs)) ≡ pendings n (told m fs)
pend_known m n [] = refl
pend_known m n (f ∷ fs) =
    ap (λ b. unnamed (pend m n (known m fs) ++ cond b (own n (entry m f.var f.address (Some f.value)) ∷ []) [])) (eq-eqb m m refl)
    ∙ unnamed_append (pend m n (known m fs)) (own n (entry m f.var f.address (Some f.value)) ∷ [])
    ∙ ap (λ l. l ++ record { thread = n; var = 0; address = f.address; value = Some f.value } ∷ []) (pend_known m n fs)
    ∙ sym (pendings_append n (told m fs) (write_of m f.address f.value ∷ []))

known_used : (m n : ℕ) (ph : Phase) (fs : List Full) → ((x : ℕ) → is_among x (full_vars fs) ≡ true → is_used ph x ≡ true) → AllUsed ph (pend m n (known m fs))
known_used m n ph [] h = tt
known_used m n ph (f ∷ fs) h =
    both (pend m n (known m fs)) (m == m) (known_used m n ph fs (λ x k. h x (ap (λ b. (f.var == x) || b) k ∙ always (f.var == x))))
    (h f.var (ap (λ b. b || is_among f.var (full_vars fs)) (eq-eqb f.var f.var refl)))
  where
    always : (b : Bool) → (b || true) ≡ true
    always true = refl
    always false = refl

    both : (es : List Pending) (b : Bool)
        → AllUsed ph es → is_used ph f.var ≡ true → AllUsed ph (es ++ cond b (own n (entry m f.var f.address (Some f.value)) ∷ []) [])
    both [] true u k = (k, tt)
    both [] false u k = tt
    both (e ∷ es) b u k = (u.0, both es b u.1 k)

-- at the start of a stage, where nothing is done yet, a thread's entries of m fit its phase and its pending writes in the lock
pub shape_start : (m n : ℕ) (ph : Phase) (es : List Entry) → Shape m ph (entries_of m es)
    → Staged m n ph (entries_of m es) [] (pend m n es ++ []) [] 0
shape_start m n ph es t =
    record {
      opens = t.opens;
      fulls = t.fulls;
      out = [];
      rest = pend m n (known m t.fulls);
      entries = t.entries;
      at_open = t.at_open;
      at_full = t.at_full;
      two = append-nil _ ∙ pend_own m n es ∙ ap (pend m n) t.entries ∙ pend_append m n (waiting m t.opens) (known m t.fulls);
      outs = refl;
      given = tt;
      let_go = omega arith;
      commits = refl;
      same = pend_known m n t.fulls;
      exact = λ k. refl;
      used = known_used m n ph t.fulls (λ x k. ap (λ b. b || is_among x ph.gone) (ap (is_among x) (sym t.at_full) ∙ k));
      written = tt;
      apart = t.apart;
    }

-- a thread's entries of m have the shape of its phase at the end of a stage
pub shape_end : (m n : ℕ) (ph : Phase) (es : List Entry) (cs : List Commit) (new : List Pending) (ws : List Machine.Written) (rel : ℕ)
    → Staged m n ph es cs new ws rel → Shape m ph es
shape_end m n ph es cs new ws rel g =
    record { opens = g.opens; fulls = g.fulls; entries = g.entries; at_open = g.at_open; at_full = g.at_full; apart = g.apart }

-- LISTS OF STATEMENTS

-- the uses of a lock are in order in a first part of statements where they are in all of them
pub uses_front : (m : ℕ) (xs ys : List Stmt) (ph : Phase) → uses_ok m ph (xs ++ ys) ≡ true → uses_ok m ph xs ≡ true
uses_front m [] ys ph h = refl
uses_front m (x ∷ xs) ys ph h = ap₂ (λ a b. a && b) (and_left _ _ h) (uses_front m xs ys (next_phase m ph x.op) (and_right _ _ h))

-- the uses of a lock are in order in a second part of statements, after the first, where they are in all of them
pub uses_back : (m : ℕ) (xs ys : List Stmt) (ph : Phase) → uses_ok m ph (xs ++ ys) ≡ true → uses_ok m (phase_all m ph xs) ys ≡ true
uses_back m [] ys ph h = h
uses_back m (x ∷ xs) ys ph h = uses_back m xs ys (next_phase m ph x.op) (and_right _ _ h)

-- whether two lists of statements call the next thread is told by the first and then the second
pub called_append : (c : Bool) (xs ys : List Stmt) → called c (xs ++ ys) ≡ called (called c xs) ys
called_append c [] ys = refl
called_append c (x ∷ xs) ys = called_append (c || is_call x.op) xs ys

-- calls are in order in a first part of statements where they are in all of them
pub calls_front : (c : Bool) (xs ys : List Stmt) → calls_ok c (xs ++ ys) ≡ true → calls_ok c xs ≡ true
calls_front c [] ys h = refl
calls_front c (x ∷ xs) ys h = ap₂ (λ a b. a && b) (and_left _ _ h) (calls_front (c || is_call x.op) xs ys (and_right _ _ h))

-- calls are in order in a second part of statements, after the first, where they are in all of them
pub calls_back : (c : Bool) (xs ys : List Stmt) → calls_ok c (xs ++ ys) ≡ true → calls_ok (called c xs) ys ≡ true
calls_back c [] ys h = h
calls_back c (x ∷ xs) ys h = calls_back (c || is_call x.op) xs ys (and_right _ _ h)

-- a kind of which there is no statement has none before a stage
pub none_before : (test : Op → Bool) (s : ℕ) (xs : List Stmt) → none_of test xs ≡ true → none_of test (stages_before s xs) ≡ true
none_before test s [] h = refl
none_before test s (x ∷ xs) h = at (nat_lt x.stage s) (none_before test s xs (and_right _ _ h))
  where
    at : (b : Bool) → none_of test (stages_before s xs) ≡ true → none_of test (cond b (x ∷ stages_before s xs) (stages_before s xs)) ≡ true
    at true k = ap₂ (λ a b. a && b) (and_left _ _ h) k
    at false k = k

-- where the statements of a kind stand in one stage c, the stages before it and after it have none
pub none_till : (test : Op → Bool) (c s : ℕ) (xs : List Stmt) → all_at test c xs ≡ true → s ≤ c → none_of test (stages_before s xs) ≡ true
none_till test c s [] h k = refl
none_till test c s (x ∷ xs) h k = at (nat_lt x.stage s) refl (test x.op) refl (none_till test c s xs (and_right _ _ h) k) (and_left _ _ h)
  where
    at : (b : Bool) → nat_lt x.stage s ≡ b → (t : Bool) → test x.op ≡ t → none_of test (stages_before s xs) ≡ true → (not (test x.op) || (x.stage == c)) ≡ true
        → none_of test (cond b (x ∷ stages_before s xs) (stages_before s xs)) ≡ true
    at true e true f r q = absurd (early (eqb-true x.stage c (subst (λ t. (not t || (x.stage == c)) ≡ true) f q)) (ltb-true x.stage s e))
      where
        early : x.stage ≡ c → x.stage < s → ⊥
        early u v = omega arith
    at true e false f r q = ap (λ t. not t && none_of test (stages_before s xs)) f ∙ r
    at false e t f r q = r

-- statements are carried out as the values at their end tell
pub fixed_to : (path : List ℕ) (o : Around) (xs : List Stmt) (w : Work)
    → is_fixed xs ≡ true → (do_all o xs w).env ≡ path → Fixed path o xs w
fixed_to path o [] w h e = tt
fixed_to path o (x ∷ xs) w h e = (
  taken_stays x.guards (x ∷ xs) w.env path (and_left _ _ h) (λ g k. ap (λ l. slice_index l g) (sym e) ∙ all_stays g o (x ∷ xs) w k),
  fixed_to path o xs (step o x w) (and_right _ _ h) e,
)

-- without reservations a lock stays unused
pub stays_fresh : (m : ℕ) (xs : List Stmt) → uses_ok m Fresh xs ≡ true → none_of (is_reserve m) xs ≡ true → phase_all m Fresh xs ≡ Fresh
stays_fresh m [] h k = refl
stays_fresh m (x ∷ xs) h k =
    ap (λ q. phase_all m q xs) (same x.op (and_left _ _ h) (and_left _ _ k))
    ∙ stays_fresh m xs (subst (λ q. uses_ok m q xs ≡ true) (same x.op (and_left _ _ h) (and_left _ _ k)) (and_right (use_ok m Fresh x.op) _ h))
    (and_right _ _ k)
  where
    same : (op : Op) → use_ok m Fresh op ≡ true → not (is_reserve m op) ≡ true → next_phase m Fresh op ≡ Fresh
    same (Write n a e) u r = by (n == m) u
      where
        by : (b : Bool) → (not b || false) ≡ true → cond b (after_write Fresh a) Fresh ≡ Fresh
        by true v = absurd (cc v)
        by false v = refl
    same (ReserveWrite n a) u r = by (n == m) r
      where
        by : (b : Bool) → not b ≡ true → cond b (after_reserve Fresh a) Fresh ≡ Fresh
        by true v = absurd (cc v)
        by false v = refl
    same (Release n a) u r = by (n == m)
      where
        by : (b : Bool) → cond b (after_release Fresh a) Fresh ≡ Fresh
        by true = refl
        by false = refl
    same _ u r = refl

-- without releases a write under way stays so
stuck : (m : ℕ) (op : Op) (ph : Phase) → is_over ph ≡ false → not (is_release m op) ≡ true → is_over (next_phase m ph op) ≡ false
stuck m (ReserveWrite k a) ph h r = at (k == m)
  where
    at : (b : Bool) → is_over (cond b (after_reserve ph a) ph) ≡ false
    at true = refl
    at false = h
stuck m (Write k a e) ph h r = at (k == m)
  where
    never : (b : Bool) → (b && false) ≡ false
    never true = refl
    never false = refl

    at : (b : Bool) → is_over (cond b (after_write ph a) ph) ≡ false
    at true = never (is_nil (but_last ph.unwritten))
    at false = h
stuck m (Release k a) ph h r = at (k == m) r
  where
    at : (b : Bool) → not b ≡ true → is_over (cond b (after_release ph a) ph) ≡ false
    at true e = absurd (cc e)
    at false e = h
stuck m _ ph h r = h

-- a write that isn't under way after statements wasn't before them, where none of them releases m
pub over_early : (m : ℕ) (xs : List Stmt) (ph : Phase)
    → none_of (is_release m) xs ≡ true → is_over (phase_all m ph xs) ≡ true → is_over ph ≡ true
over_early m [] ph h k = k
over_early m (x ∷ xs) ph h k = at (is_over ph) refl (over_early m xs (next_phase m ph x.op) (and_right _ _ h) k)
  where
    at : (b : Bool) → is_over ph ≡ b → is_over (next_phase m ph x.op) ≡ true → is_over ph ≡ true
    at true e i = e
    at false e i = absurd (cc (sym i ∙ stuck m x.op ph e (and_left _ _ h)))

-- LOCATIONS

-- the locations held after these statements
abbrev pub held_ops : List Stmt → List HeldLocation → List HeldLocation
held_ops [] ls = ls
held_ops (x ∷ xs) ls = held_ops xs (held_after x.op ls)

-- the locations held after two lists of statements are those after the one and then the other
pub held_append : (xs ys : List Stmt) (ls : List HeldLocation) → held_ops (xs ++ ys) ls ≡ held_ops ys (held_ops xs ls)
held_append [] ys ls = refl
held_append (x ∷ xs) ys ls = held_append xs ys (held_after x.op ls)

-- the locations held on a path before stage s are those after its statements before s
pub held_path : (s : ℕ) (path : List ℕ) (xs : List Stmt) (ls : List HeldLocation)
    → held_before s path xs ls ≡ held_ops (onpath path (stages_before s xs)) ls
held_path s path [] ls = refl
held_path s path (x ∷ xs) ls = at (nat_lt x.stage s) (all_hold x.guards path) refl (held_path s path xs ls) (held_path s path xs (held_after x.op ls))
  where
    at : (c b : Bool) → all_hold x.guards path ≡ b
        → held_before s path xs ls ≡ held_ops (onpath path (stages_before s xs)) ls
        → held_before s path xs (held_after x.op ls) ≡ held_ops (onpath path (stages_before s xs)) (held_after x.op ls)
        → held_before s path xs (if c && b then held_after x.op ls else ls) ≡ held_ops (onpath path (cond c (x ∷ stages_before s xs) (stages_before s xs))) ls
    at true true e f g =
        g ∙ sym (ap (λ b. held_ops (cond b (record x { guards = [] } ∷ onpath path (stages_before s xs)) (onpath path (stages_before s xs))) ls) e)
    at true false e f g =
        f ∙ sym (ap (λ b. held_ops (cond b (record x { guards = [] } ∷ onpath path (stages_before s xs)) (onpath path (stages_before s xs))) ls) e)
    at false b e f g = f

held_op : (o : Around) (op : Op) (w : Work) → places (work_after o op w).entries ≡ held_after op (places w.entries)
held_op o (Write j a e) w = places_filled w.entries j a _
held_op o (Release j a) w = places_without w.entries j a
held_op o (Verify last args) w = at (same_args (said o last args w.env) w.guess)
  where
    at : (b : Bool)
        → places (cond b w (record w { child = Some (said o last args w.env); guess = said o last args w.env; fails = true })).entries ≡ places w.entries
    at true = refl
    at false = refl
held_op o _ w = refl

-- the locations of the pending writes after statements are those held after the ones on the path
pub held_work : (path : List ℕ) (o : Around) (xs : List Stmt) (w : Work) → Fixed path o xs w
    → places (do_all o xs w).entries ≡ held_ops (onpath path xs) (places w.entries)
held_work path o [] w f = refl
held_work path o (x ∷ xs) w f = held_work path o xs (step o x w) f.1 ∙ at (all_hold x.guards w.env) (all_hold x.guards path) f.0
  where
    at : (b c : Bool) → b ≡ c
        → held_ops (onpath path xs) (places (cond b (work_after o x.op w) w).entries)
        ≡ held_ops (cond c (record x { guards = [] } ∷ onpath path xs) (onpath path xs)) (places w.entries)
    at true true e = ap (held_ops (onpath path xs)) (held_op o x.op w)
    at true false e = absurd (cc e)
    at false true e = absurd (cc e)
    at false false e = refl
