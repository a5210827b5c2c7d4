-- What a stage's deeds do to a thread's entries of one memory is what the derived work does at once.
use Rattle.std.proofs.Common.{◌≡◌, ◌≤◌, refl, sym, ap, ap₂, ◌∙◌, subst, ℕ, suc, ◌+◌, Bool, true, false, ◌&&◌, ◌||◌, not, List, [], ◌∷◌, ◌++◌, Some, None, ◌==◌, cond, if◌then◌else◌, arith, eq-eqb, append-nil, append_assoc, length, length-append}
use Rattle.std.proofs.lemmas.Bool.{eqb-true, eqb-false, not-true}
use Rattle.std.proofs.lemmas.Bool.Decides.{eqb_tells}
use Rattle.pdl_semantics.specs.Flat.{Commit, of_mem}
use Rattle.pdl_semantics.specs.Machine.{Ask, Pending, Blocked, Reserved, Deeds}
use Rattle.pdl_semantics.specs.Locks.{commit_value}
use Rattle.pdl_semantics.specs.Cycle.{new_entries, with_value_of, with_writes_of, releases_of}
use Rattle.pdl_semantics.specs.Machine
use Rattle.pdl_semantics.proofs.Facts.{put_append}
use Rattle.pdl_theory_turns.specs.Derived.{Entry, Work, Around, has_entry, without, released_commits}
use Rattle.pdl_theory_turns.specs.Derived
use Rattle.pdl_theory_turns.specs.Alone.{is_among, is_oldest, drop_var, but_last}
use Rattle.pdl_theory_turns.proofs.Writes.{of_mem_append, and_left, and_right}
use Rattle.pdl_theory_turns.proofs.Entries.{entries_of, entry, write_of, Open, Full, waiting, known, open_vars, full_vars, told, last_address, filled_last, filled_other, entries_of-filled, without_own, without_other, released_own, released_other, Released, released_full, released_behind, without_none, no_known, let_out, let_out_vars, commit_of}
use Rattle.pdl_theory_turns.proofs.Lists.{own, pend}
use Rattle.pdl_theory_turns.specs.Scans.{Phase, after_write, after_reserve, after_release, may_write, is_new}
use Rattle.pdl_theory_turns.proofs.Apart.{Apart, apart_reserve, apart_write, apart_release}
use Rattle.pdl_theory_turns.proofs.EntryCommits.{released}

-- LISTS OF PENDING WRITES

-- all but the variables
abbrev pub unnamed : List Pending → List Pending
unnamed [] = []
unnamed (e ∷ es) = record e { var = 0 } ∷ unnamed es

-- commits as pending writes with their values
abbrev pub pendings : ℕ → List Commit → List Pending
pendings n [] = []
pendings n (c ∷ cs) = record { thread = n; var = 0; address = c.address; value = Some c.value } ∷ pendings n cs

-- of two lists joined
pub unnamed_append : (xs ys : List Pending) → unnamed (xs ++ ys) ≡ unnamed xs ++ unnamed ys
unnamed_append [] ys = refl
unnamed_append (x ∷ xs) ys = ap (λ l. record x { var = 0 } ∷ l) (unnamed_append xs ys)

-- of two lists of commits joined
pub pendings_append : (n : ℕ) (xs ys : List Commit) → pendings n (xs ++ ys) ≡ pendings n xs ++ pendings n ys
pendings_append n [] ys = refl
pendings_append n (x ∷ xs) ys = ap (λ l. record { thread = n; var = 0; address = x.address; value = Some x.value } ∷ l) (pendings_append n xs ys)

-- what joined pending writes commit
pub released_append : (m : ℕ) (xs ys : List Pending) → released m (xs ++ ys) ≡ released m xs ++ released m ys
released_append m [] ys = refl
released_append m (x ∷ xs) ys = ap (λ l. record { mem = m; address = x.address; value = commit_value x.value } ∷ l) (released_append m xs ys)

-- the pending writes of joined entries, the older ones first
pub pend_append : (m n : ℕ) (es ks : List Entry) → pend m n (es ++ ks) ≡ pend m n ks ++ pend m n es
pend_append m n [] ks = sym (append-nil _)
pend_append m n (e ∷ es) ks = ap (λ l. l ++ (if e.mem == m then own n e ∷ [] else [])) (pend_append m n es ks) ∙ append_assoc (pend m n ks) (pend m n es) _

-- a variable of a location with a value, or of one that is released
abbrev pub is_used : Phase → ℕ → Bool
is_used ph x = is_among x ph.full || is_among x ph.gone

-- all pending writes are of used variables
abbrev pub AllUsed : Phase → List Pending → Type 0
AllUsed ph [] = Unit {0}
AllUsed ph (e ∷ es) =
    (is_used ph e.var ≡ true) × AllUsed ph es

-- all writes to m are of used variables
abbrev pub WritesUsed : ℕ → Phase → List Machine.Written → Type 0
WritesUsed m ph [] = Unit {0}
WritesUsed m ph (w ∷ ws) = ((w.mem == m) ≡ true → is_used ph w.var ≡ true) × WritesUsed m ph ws

-- what one phase uses, another does
abbrev pub Keeps : Phase → Phase → Type 0
Keeps ph qh = (x : ℕ) → is_used ph x ≡ true → is_used qh x ≡ true

used_kept : (ph qh : Phase) (es : List Pending) → Keeps ph qh → AllUsed ph es → AllUsed qh es
used_kept ph qh [] k u = tt
used_kept ph qh (e ∷ es) k u = (k e.var u.0, used_kept ph qh es k u.1)

writes_kept : (m : ℕ) (ph qh : Phase) (ws : List Machine.Written) → Keeps ph qh → WritesUsed m ph ws → WritesUsed m qh ws
writes_kept m ph qh [] k u = tt
writes_kept m ph qh (w ∷ ws) k u = ((λ e. k w.var (u.0 e)), writes_kept m ph qh ws k u.1)

used_append : (ph : Phase) (xs ys : List Pending) → AllUsed ph xs → AllUsed ph ys → AllUsed ph (xs ++ ys)
used_append ph [] ys u v = v
used_append ph (x ∷ xs) ys u v = (u.0, used_append ph xs ys u.1 v)

used_first : (ph : Phase) (xs ys : List Pending) → AllUsed ph (xs ++ ys) → AllUsed ph xs
used_first ph [] ys u = tt
used_first ph (x ∷ xs) ys u = (u.0, used_first ph xs ys u.1)

used_second : (ph : Phase) (xs ys : List Pending) → AllUsed ph (xs ++ ys) → AllUsed ph ys
used_second ph [] ys u = u
used_second ph (x ∷ xs) ys u = used_second ph xs ys u.1

writes_append : (m : ℕ) (ph : Phase) (xs ys : List Machine.Written) → WritesUsed m ph xs → WritesUsed m ph ys → WritesUsed m ph (xs ++ ys)
writes_append m ph [] ys u v = v
writes_append m ph (x ∷ xs) ys u v = (u.0, writes_append m ph xs ys u.1 v)

-- a write to a location that isn't used leaves these alone
put_used : (ph : Phase) (n a v : ℕ) (es : List Pending) → is_used ph a ≡ false → AllUsed ph es → with_value_of n a v es ≡ es
put_used ph n a v [] h u = refl
put_used ph n a v (e ∷ es) h u = ap₂ (λ b l. (cond b (record e { value = Some v }) e) ∷ l) (off (e.thread == n) (e.var == a) refl) (put_used ph n a v es h u.1)
  where
    off : (b c : Bool) → (e.var == a) ≡ c → (b && c) ≡ false
    off true true k = absurd (clash (sym u.0 ∙ ap (is_used ph) (eqb-true e.var a k) ∙ h))
      where
        clash : true ≡ false → ⊥
        clash q = cc
    off true false k = refl
    off false c k = refl

-- and these writes leave an entry of such a location alone
puts_new : (ph : Phase) (m n a y : ℕ) (ws : List Machine.Written) → is_used ph a ≡ false → WritesUsed m ph ws
    → with_writes_of m n ws (record { thread = n; var = a; address = y; value = None } ∷ []) ≡ record { thread = n; var = a; address = y; value = None } ∷ []
puts_new ph m n a y [] h u = refl
puts_new ph m n a y (w ∷ ws) h u = ap (with_writes_of m n ws) (at (w.mem == m) refl (a == w.var) refl) ∙ puts_new ph m n a y ws h u.1
  where
    e : Pending
    e = record { thread = n; var = a; address = y; value = None }

    at : (b : Bool)
        → (w.mem == m) ≡ b → (c : Bool) → (a == w.var) ≡ c
        → cond b ((cond ((n == n) && c) (record e { value = Some w.value }) e) ∷ []) (e ∷ []) ≡ e ∷ []
    at true k true l = absurd (clash (sym (u.0 k) ∙ ap (is_used ph) (sym (eqb-true a w.var l)) ∙ h))
      where
        clash : true ≡ false → ⊥
        clash q = cc
    at true k false l = ap (λ b. (cond b (record e { value = Some w.value }) e) ∷ []) (off (n == n))
      where
        off : (b : Bool) → (b && false) ≡ false
        off true = refl
        off false = refl
    at false k c l = refl

puts_append : (m n : ℕ) (ws : List Machine.Written) (xs ys : List Pending)
    → with_writes_of m n ws (xs ++ ys) ≡ with_writes_of m n ws xs ++ with_writes_of m n ws ys
puts_append m n [] xs ys = refl
puts_append m n (w ∷ ws) xs ys = at (w.mem == m) (λ us vs. puts_append m n ws us vs)
  where
    at : (b : Bool) → ((us vs : List Pending) → with_writes_of m n ws (us ++ vs) ≡ with_writes_of m n ws us ++ with_writes_of m n ws vs)
        → with_writes_of m n ws (cond b (with_value_of n w.var w.value (xs ++ ys)) (xs ++ ys)) ≡ with_writes_of m n ws
        (cond b (with_value_of n w.var w.value xs) xs) ++ with_writes_of m n ws (cond b (with_value_of n w.var w.value ys) ys)
    at true go = ap (with_writes_of m n ws) (put_append n w.var w.value xs ys) ∙ go (with_value_of n w.var w.value xs) (with_value_of n w.var w.value ys)
    at false go = go xs ys

put_all_more : (m n : ℕ) (ws : List Machine.Written) (w : Machine.Written) (l : List Pending)
    → with_writes_of m n (ws ++ w ∷ []) l ≡ cond (w.mem == m) (with_value_of n w.var w.value (with_writes_of m n ws l)) (with_writes_of m n ws l)
put_all_more m n [] w l = refl
put_all_more m n (x ∷ ws) w l = put_all_more m n ws w (if x.mem == m then with_value_of n x.var x.value l else l)

-- one reservation more, where it is of memory m, gives one pending write more at the end
pub new_more : (m n : ℕ) (rs : List Reserved) (r : Reserved)
    → new_entries m n (rs ++ r ∷ []) ≡ new_entries m n rs
    ++ cond (r.mem == m) (record { thread = n; var = r.var; address = r.address; value = None } ∷ []) []
new_more m n [] r = append-nil _
new_more m n (x ∷ rs) r =
    ap (λ l. (if x.mem == m then record { thread = n; var = x.var; address = x.address; value = None } ∷ [] else []) ++ l) (new_more m n rs r)
    ∙ sym (append_assoc (if x.mem == m then record { thread = n; var = x.var; address = x.address; value = None } ∷ [] else []) _ _)

-- how many releases of m joined lists have
pub releases_more : (m : ℕ) (rs ns : List ℕ) → releases_of m (rs ++ ns) ≡ releases_of m rs + releases_of m ns
releases_more m [] ns = omega arith
releases_more m (r ∷ rs) ns = at (r == m) (releases_more m rs ns)
  where
    at : (b : Bool)
        → releases_of m (rs ++ ns) ≡ releases_of m rs + releases_of m ns
        → cond b (suc (releases_of m (rs ++ ns))) (releases_of m (rs ++ ns)) ≡ cond b (suc (releases_of m rs)) (releases_of m rs) + releases_of m ns
    at true h = omega arith
    at false h = h

has_own : (es : List Entry) (m a : ℕ) → has_entry es m a ≡ has_entry (entries_of m es) m a
has_own [] m a = refl
has_own (e ∷ es) m a = grind (arith, eqb_tells, has_own es m a)

-- the value that is put into the oldest entry without one
filled_pend : (m n a v : ℕ) (os : List Open)
    → is_oldest a (open_vars os) ≡ true
    → with_value_of n a v (pend m n (waiting m os)) ≡ own n (entry m a (last_address os) (Some v)) ∷ pend m n (waiting m (but_last os))
filled_pend m n a v [] h = absurd (cc h)
filled_pend m n a v (o ∷ []) h =
    ap (λ b. with_value_of n a v (cond b (own n (entry m o.var o.address None) ∷ []) [])) (eq-eqb m m refl)
    ∙ ap₂ (λ b c. cond (b && c) (record (own n (entry m o.var o.address None)) { value = Some v }) (own n (entry m o.var o.address None)) ∷ [])
    (eq-eqb n n refl) h
    ∙ ap (λ x. own n (entry m x o.address (Some v)) ∷ []) (eqb-true o.var a h)
filled_pend m n a v (o ∷ q ∷ os) h =
    put_append n a v (pend m n (waiting m (q ∷ os))) _
    ∙ ap₂ (λ l k. l ++ k) (filled_pend m n a v (q ∷ os) (second (o.var == a) h)) (last (m == m) refl (o.var == a) (first (o.var == a) h))
  where
    second : (b : Bool) → (not b && is_oldest a (open_vars (q ∷ os))) ≡ true → is_oldest a (open_vars (q ∷ os)) ≡ true
    second true k = absurd (cc k)
    second false k = k

    first : (b : Bool) → (not b && is_oldest a (open_vars (q ∷ os))) ≡ true → b ≡ false
    first true k = absurd (cc k)
    first false k = refl

    last : (b : Bool)
        → (m == m) ≡ b → (c : Bool) → c ≡ false
        → with_value_of n a v (cond b (own n (entry m o.var o.address None) ∷ []) []) ≡ cond b (own n (entry m o.var o.address None) ∷ []) []
    last true k c l =
        ap (λ t. cond t (record (own n (entry m o.var o.address None)) { value = Some v }) (own n (entry m o.var o.address None)) ∷ []) (off (n == n))
      where
        off : (t : Bool) → (t && (o.var == a)) ≡ false
        off true = first (o.var == a) h
        off false = refl
    last false k c l = refl

-- pending writes of one thread, each with its value
abbrev pub AreGiven : ℕ → List Pending → Type 0
AreGiven n [] = Unit {0}
AreGiven n (e ∷ es) = (e.thread ≡ n) × (v : ℕ) × (e.value ≡ Some v) × AreGiven n es

given_more : (n v : ℕ) (xs : List Pending) (e : Pending) → AreGiven n xs → e.thread ≡ n → e.value ≡ Some v → AreGiven n (xs ++ e ∷ [])
given_more n v [] e g h k = (h, v, k, tt)
given_more n v (x ∷ xs) e g h k = (g.0, g.1, g.2, given_more n v xs e g.3 h k)

-- A STAGE

-- a thread's entries and commits of m in a phase, and what the stage's reservations, writes and releases make of its entries at the start: some are taken out, some have a value, and some have none
pub record Staged (m n : ℕ) (ph : Phase) (es : List Entry) (cs : List Commit) (new : List Pending) (ws : List Machine.Written) (rel : ℕ) : Type 0 where
  pub opens : List Open
  pub fulls : List Full
  pub out : List Pending
  pub rest : List Pending
  pub entries : es ≡ waiting m opens ++ known m fulls
  pub at_open : open_vars opens ≡ ph.unwritten
  pub at_full : full_vars fulls ≡ ph.full
  pub two : with_writes_of m n ws new ≡ out ++ (rest ++ pend m n (waiting m opens))
  pub outs : length out ≡ rel
  pub given : AreGiven n out
  pub let_go : length out ≤ length ph.gone
  pub commits : cs ≡ released m out
  pub same : unnamed rest ≡ pendings n (told m fulls)
  pub exact : rel ≡ 0 → rest ≡ pend m n (known m fulls)
  pub used : AllUsed ph (out ++ rest)
  pub written : WritesUsed m ph ws
  pub apart : Apart ph

staged_moved : (m n : ℕ) (ph : Phase) (es es' : List Entry) (cs cs' : List Commit) (new new' : List Pending) (ws ws' : List Machine.Written) (rel rel' : ℕ)
    → es' ≡ es → cs' ≡ cs → new' ≡ new → ((l : List Pending) → with_writes_of m n ws' l ≡ with_writes_of m n ws l) → WritesUsed m ph ws'
    → rel' ≡ rel → Staged m n ph es cs new ws rel → Staged m n ph es' cs' new' ws' rel'
staged_moved m n ph es es' cs cs' new new' ws ws' rel rel' p q r s u t g =
    record {
      opens = g.opens;
      fulls = g.fulls;
      out = g.out;
      rest = g.rest;
      entries = p ∙ g.entries;
      at_open = g.at_open;
      at_full = g.at_full;
      two = s new' ∙ ap (with_writes_of m n ws) r ∙ g.two;
      outs = g.outs ∙ sym t;
      given = g.given;
      let_go = g.let_go;
      commits = q ∙ g.commits;
      same = g.same;
      exact = λ k. g.exact (sym t ∙ k);
      used = g.used;
      written = u;
      apart = g.apart;
    }

-- a write

-- a write leaves a thread's entries and pending writes of memory m of the phase after it
pub step_write : (m n k a v : ℕ) (ph : Phase) (es : List Entry) (cs : List Commit) (new : List Pending)
    (ws : List Machine.Written) (rel : ℕ) (b : Bool)
    → (k == m) ≡ b → (not b || may_write ph a) ≡ true → Staged m n ph (entries_of m es) cs new ws rel
    → Staged m n (cond b (after_write ph a) ph) (entries_of m (Derived.with_entry_value es k a v)) cs new
    (ws ++ record { mem = k; var = a; value = v } ∷ []) rel
step_write m n k a v ph es cs new ws rel false e h g =
    staged_moved m n ph _ _ _ _ _ _ ws _ _ _ (filled_other es m k a v (eqb-false k m e)) refl refl
    (λ l. put_all_more m n ws (record { mem = k; var = a; value = v }) l
    ∙ ap (λ c. cond c (with_value_of n a v (with_writes_of m n ws l)) (with_writes_of m n ws l)) e)
    (writes_append m ph ws _ g.written ((λ f. absurd (clash (sym f ∙ e))), tt)) refl g
  where
    clash : true ≡ false → ⊥
    clash q = cc
step_write m n k a v ph es cs new ws rel true e h g =
    record {
      opens = but_last g.opens;
      fulls = record { var = a; address = last_address g.opens; value = v } ∷ g.fulls;
      out = g.out;
      rest = g.rest ++ filled ∷ [];
      entries = ap (λ j. entries_of m (Derived.with_entry_value es j a v)) (eqb-true k m e) ∙ entries_of-filled es m a v
          ∙ ap (λ l. Derived.with_entry_value l m a v) g.entries ∙ filled_last m a v g.opens (known m g.fulls) oldest;
      at_open = vars_front g.opens ∙ ap but_last g.at_open;
      at_full = ap (λ l. a ∷ l) g.at_full;
      two = put_all_more m n ws (record { mem = k; var = a; value = v }) new
          ∙ ap (λ c. cond c (with_value_of n a v (with_writes_of m n ws new)) (with_writes_of m n ws new)) e
          ∙ ap (with_value_of n a v) g.two
          ∙ put_append n a v g.out _ ∙ ap₂ (λ l j. l ++ j) (put_used ph n a v g.out unused (used_first ph g.out g.rest g.used)) (put_append n a v g.rest _
          ∙ ap₂ (λ l j. l ++ j) (put_used ph n a v g.rest unused (used_second ph g.out g.rest g.used)) (filled_pend m n a v g.opens oldest)
          ∙ sym (append_assoc g.rest (filled ∷ []) (pend m n (waiting m (but_last g.opens)))));
      outs = g.outs;
      given = g.given;
      let_go = g.let_go;
      commits = g.commits;
      same =
          unnamed_append g.rest (filled ∷ []) ∙ ap (λ l. l ++ record filled { var = 0 } ∷ []) g.same
          ∙ sym (pendings_append n (told m g.fulls) (write_of m (last_address g.opens) v ∷ []));
      exact = λ i. ap (λ l. l ++ filled ∷ []) (g.exact i) ∙ sym (ap (λ b. pend m n (known m g.fulls) ++ cond b (filled ∷ []) []) (eq-eqb m m refl));
      used =
          subst (AllUsed (after_write ph a)) (append_assoc g.out g.rest (filled ∷ []))
          (used_append (after_write ph a) (g.out ++ g.rest) (filled ∷ []) (used_kept ph (after_write ph a) (g.out ++ g.rest) more g.used) (now, tt));
      written = writes_append m (after_write ph a) ws _ (writes_kept m ph (after_write ph a) ws more g.written) ((λ f. now), tt);
      apart = apart_write ph a h g.apart;
    }
  where
    filled : Pending
    filled = own n (entry m a (last_address g.opens) (Some v))

    oldest : is_oldest a (open_vars g.opens) ≡ true
    oldest = ap (is_oldest a) g.at_open ∙ h

    vars_front : (os : List Open) → open_vars (but_last os) ≡ but_last (open_vars os)
    vars_front [] = refl
    vars_front (o ∷ []) = refl
    vars_front (o ∷ q ∷ os) = ap (λ l. o.var ∷ l) (vars_front (q ∷ os))

    among : (xs : List ℕ) → is_oldest a xs ≡ true → is_among a xs ≡ true
    among [] i = absurd (cc i)
    among (x ∷ []) i = ap (λ c. c || false) i
    among (x ∷ y ∷ ys) i = by (x == a) i (λ j. among (y ∷ ys) j)
      where
        by : (c : Bool)
            → (not c && is_oldest a (y ∷ ys)) ≡ true → (is_oldest a (y ∷ ys) ≡ true → is_among a (y ∷ ys) ≡ true)
            → (c || is_among a (y ∷ ys)) ≡ true
        by true j go = refl
        by false j go = go j

    unused : is_used ph a ≡ false
    unused = let i = g.apart a (among ph.unwritten h) in ap₂ (λ c d. c || d) i.0 i.1

    now : is_used (after_write ph a) a ≡ true
    now = ap (λ c. (c || is_among a ph.full) || is_among a ph.gone) (eq-eqb a a refl)

    more : Keeps ph (after_write ph a)
    more x i = by (a == x) i
      where
        by : (c : Bool) → (is_among x ph.full || is_among x ph.gone) ≡ true → ((c || is_among x ph.full) || is_among x ph.gone) ≡ true
        by true j = refl
        by false j = j

-- a reservation for writing

-- a reservation for writing leaves a thread's entries and pending writes of memory m of the phase after it
pub step_reserve : (m n k a y : ℕ) (ph : Phase) (es : List Entry) (cs : List Commit) (start : List Pending)
    (rs : List Reserved) (ws : List Machine.Written) (rel : ℕ) (b : Bool)
    → (k == m) ≡ b → (not b || is_new ph a) ≡ true
    → Staged m n ph (entries_of m es) cs (start ++ new_entries m n rs) ws rel
    → Staged m n (cond b (after_reserve ph a) ph) (entries_of m (entry k a y None ∷ es)) cs
    (start ++ new_entries m n (rs ++ record { mem = k; var = a; address = y } ∷ [])) ws rel
step_reserve m n k a y ph es cs start rs ws rel false e h g =
    staged_moved m n ph _ _ _ _ _ _ ws ws _ _ (ap (λ c. cond c (entry k a y None ∷ entries_of m es) (entries_of m es)) e) refl
    (ap (λ l. start ++ l)
    (new_more m n rs _ ∙ ap (λ c. new_entries m n rs ++ cond c (record { thread = n; var = a; address = y; value = None } ∷ []) []) e ∙ append-nil _))
    (λ l. refl) g.written refl g
step_reserve m n k a y ph es cs start rs ws rel true e h g =
    record {
      opens = record { var = a; address = y } ∷ g.opens;
      fulls = g.fulls;
      out = g.out;
      rest = g.rest;
      entries = ap (λ c. cond c (entry k a y None ∷ entries_of m es) (entries_of m es)) e ∙ ap₂ (λ j l. entry j a y None ∷ l) (eqb-true k m e) g.entries;
      at_open = ap (λ l. a ∷ l) g.at_open;
      at_full = g.at_full;
      two = ap (λ l. with_writes_of m n ws (start ++ l))
          (new_more m n rs _ ∙ ap (λ c. new_entries m n rs ++ cond c (last ∷ []) []) e)
          ∙ ap (with_writes_of m n ws) (sym (append_assoc start (new_entries m n rs) (last ∷ [])))
          ∙ puts_append m n ws (start ++ new_entries m n rs) (last ∷ [])
          ∙ ap₂ (λ l j. l ++ j) g.two (puts_new ph m n a y ws unused g.written)
          ∙ append_assoc g.out (g.rest ++ pend m n (waiting m g.opens)) (last ∷ [])
          ∙ ap (λ l. g.out ++ l)
          (append_assoc g.rest (pend m n (waiting m g.opens)) (last ∷ [])
          ∙ ap (λ c. g.rest ++ (pend m n (waiting m g.opens) ++ cond c (last ∷ []) [])) (sym (eq-eqb m m refl)));
      outs = g.outs;
      given = g.given;
      let_go = g.let_go;
      commits = g.commits;
      same = g.same;
      exact = g.exact;
      used = used_kept ph (after_reserve ph a) (g.out ++ g.rest) (λ x i. i) g.used;
      written = writes_kept m ph (after_reserve ph a) ws (λ x i. i) g.written;
      apart = apart_reserve ph a h g.apart;
    }
  where
    last : Pending
    last = record { thread = n; var = a; address = y; value = None }

    unused : is_used ph a ≡ false
    unused =
        let r = and_right (not (is_among a ph.unwritten)) _ h in
        ap₂ (λ c d. c || d) (not-true _ (and_left (not (is_among a ph.full)) _ r)) (not-true _ (and_right (not (is_among a ph.full)) _ r))

-- a release that takes nothing of m out
step_none : (m n k a : ℕ) (ph : Phase) (es : List Entry) (cs : List Commit) (new : List Pending)
    (ws : List Machine.Written) (rs : List ℕ) (held : Bool)
    → entries_of m (without es k a) ≡ entries_of m es → of_mem m (released_commits es k a) ≡ []
    → (held && (k == m)) ≡ false → Staged m n ph (entries_of m es) (of_mem m cs) new ws (releases_of m rs)
    → Staged m n ph (entries_of m (without es k a)) (of_mem m (cs ++ released_commits es k a)) new ws (releases_of m (rs ++ cond held (k ∷ []) []))
step_none m n k a ph es cs new ws rs held f h i g =
    staged_moved m n ph _ _ _ _ new new ws ws _ _ f (of_mem_append m cs _ ∙ ap (λ l. of_mem m cs ++ l) h ∙ append-nil _) refl (λ l. refl) g.written
    (releases_more m rs _ ∙ ap (λ t. releases_of m rs + t) (none held i) ∙ plus (releases_of m rs)) g
  where
    plus : (t : ℕ) → t + 0 ≡ t
    plus t = omega arith

    none : (c : Bool) → (c && (k == m)) ≡ false → releases_of m (cond c (k ∷ []) []) ≡ 0
    none true j = ap (λ b. cond b 1 0) j
    none false j = refl

-- a release leaves a thread's entries, commits and pending writes of memory m of the phase after it
pub step_release : (m n k a : ℕ) (ph : Phase) (es : List Entry) (cs : List Commit) (new : List Pending)
    (ws : List Machine.Written) (rs : List ℕ) (held : Bool)
    → held ≡ has_entry es k a → (b : Bool) → (k == m) ≡ b → (not b || not (is_among a ph.unwritten)) ≡ true
    → Staged m n ph (entries_of m es) (of_mem m cs) new ws (releases_of m rs)
    → Staged m n (cond b (after_release ph a) ph) (entries_of m (without es k a))
    (of_mem m (cs ++ released_commits es k a)) new ws (releases_of m (rs ++ cond held (k ∷ []) []))
step_release m n k a ph es cs new ws rs held i false e h g =
    step_none m n k a ph es cs new ws rs held (without_other es m k a (eqb-false k m e)) (released_other es m k a (eqb-false k m e)) (off held (k == m) e) g
  where
    off : (c t : Bool) → t ≡ false → (c && t) ≡ false
    off true t q = q
    off false t q = refl
step_release m n k a ph es cs new ws rs held i true e h g = at (is_among a ph.full) refl
  where
    same : k ≡ m
    same = eqb-true k m e

    closed : is_among a (open_vars g.opens) ≡ false
    closed = ap (is_among a) g.at_open ∙ not-true _ h

    behind : (without (waiting m g.opens ++ known m g.fulls) m a ≡ waiting m g.opens ++ without (known m g.fulls) m a)
        × (released_commits (waiting m g.opens ++ known m g.fulls) m a ≡ released_commits (known m g.fulls) m a)
        × (has_entry (waiting m g.opens ++ known m g.fulls) m a ≡ has_entry (known m g.fulls) m a)
    behind = released_behind m a g.opens (known m g.fulls) closed

    known_here : has_entry es k a ≡ has_entry (known m g.fulls) m a
    known_here = ap (λ j. has_entry es j a) same ∙ has_own es m a ∙ ap (λ l. has_entry l m a) g.entries ∙ behind.2

    at : (b : Bool)
        → is_among a ph.full ≡ b
        → Staged m n (if b then record { unwritten = ph.unwritten; full = drop_var a ph.full; gone = a ∷ ph.gone } else ph)
        (entries_of m (without es k a)) (of_mem m (cs ++ released_commits es k a)) new ws (releases_of m (rs ++ cond held (k ∷ []) []))
    at false f =
        let z : has_entry es k a ≡ false = known_here ∙ no_known m a g.fulls (ap (is_among a) g.at_full ∙ f) in
        let w = without_none es k a z in
        step_none m n k a ph es cs new ws rs held (ap (entries_of m) w.0) (ap (of_mem m) w.1) (ap (λ c. c && (k == m)) (i ∙ z)) g
    at true f = taken g.rest (g.same ∙ ap (pendings n) r.front) g.two g.used
      where
        r : Released m a g.fulls
        r = released_full m a g.fulls (ap (is_among a) g.at_full ∙ f)

        qh : Phase
        qh = record { unwritten = ph.unwritten; full = drop_var a ph.full; gone = a ∷ ph.gone }

        more : Keeps ph qh
        more x j = by (a == x) refl (is_among x ph.full) refl j
          where
            still : (xs : List ℕ) → (a == x) ≡ false → is_among x xs ≡ true → is_among x (drop_var a xs) ≡ true
            still [] u t = absurd (cc t)
            still (y ∷ ys) u t = go (y == a) refl (y == x) refl t (λ s. still ys u s)
              where
                go : (c : Bool)
                    → (y == a) ≡ c → (d : Bool) → (y == x) ≡ d → (d || is_among x ys) ≡ true
                    → (is_among x ys ≡ true → is_among x (drop_var a ys) ≡ true) → is_among x (cond c ys (y ∷ drop_var a ys)) ≡ true
                go true l true q s on = absurd (eqb-false a x u (sym (eqb-true y a l) ∙ eqb-true y x q))
                go true l false q s on = s
                go false l true q s on = ap (λ t. t || is_among x (drop_var a ys)) q
                go false l false q s on = ap (λ t. t || is_among x (drop_var a ys)) q ∙ on s

            by : (c : Bool)
                → (a == x) ≡ c → (d : Bool) → is_among x ph.full ≡ d → (d || is_among x ph.gone) ≡ true
                → (is_among x (drop_var a ph.full) || (c || is_among x ph.gone)) ≡ true
            by true u d t s = always (is_among x (drop_var a ph.full))
              where
                always : (q : Bool) → (q || true) ≡ true
                always true = refl
                always false = refl
            by false u true t s = ap (λ q. q || is_among x ph.gone) (still ph.full u t)
            by false u false t s = last (is_among x (drop_var a ph.full)) s
              where
                last : (q : Bool) → is_among x ph.gone ≡ true → (q || is_among x ph.gone) ≡ true
                last true w = refl
                last false w = w

        taken : (rest : List Pending)
            → unnamed rest ≡ pendings n (commit_of m r.out ∷ told m (let_out g.fulls a))
            → with_writes_of m n ws new ≡ g.out ++ (rest ++ pend m n (waiting m g.opens)) → AllUsed ph (g.out ++ rest)
            → Staged m n qh (entries_of m (without es k a))
            (of_mem m (cs ++ released_commits es k a)) new ws (releases_of m (rs ++ cond held (k ∷ []) []))
        taken [] u t s = absurd (cc u)
        taken (x ∷ xs) u t s =
            record {
              opens = g.opens;
              fulls = let_out g.fulls a;
              out = g.out ++ x ∷ [];
              rest = xs;
              entries =
                  ap (λ j. entries_of m (without es j a)) same ∙ without_own es m a ∙ ap (λ l. without l m a) g.entries ∙ behind.0
                  ∙ ap (λ l. waiting m g.opens ++ l) r.rest;
              at_open = g.at_open;
              at_full = let_out_vars g.fulls a ∙ ap (drop_var a) g.at_full;
              two = t ∙ sym (append_assoc g.out (x ∷ []) (xs ++ pend m n (waiting m g.opens)));
              outs = length-append g.out (x ∷ []) ∙ ap (λ l. l + 1) g.outs ∙ sym counted;
              let_go = (let e = length-append g.out (x ∷ []) in let i = g.let_go in omega arith);
              given = given_more n r.out.value g.out x g.given (ap (λ (z : Pending). z.thread) (first u)) (ap (λ (z : Pending). z.value) (first u));
              commits =
                  of_mem_append m cs _
                  ∙ ap₂ (λ c d. c ++ d) g.commits
                  (ap (λ j. of_mem m (released_commits es j a)) same ∙ released_own es m a ∙ ap (λ l. released_commits l m a) g.entries ∙ behind.1 ∙ r.commits
                  ∙ sym (shows (first u)))
                  ∙ sym (released_append m g.out (x ∷ []));
              same = others u;
              exact = λ q. absurd (let c : releases_of m (rs ++ cond held (k ∷ []) []) ≡ releases_of m rs + 1 = counted in omega arith);
              used = used_kept ph qh _ more (subst (AllUsed ph) (sym (append_assoc g.out (x ∷ []) xs)) s);
              written = writes_kept m ph qh ws more g.written;
              apart = subst Apart (ap (λ c. if c then qh else ph) f) (apart_release ph a g.apart);
            }
          where
            counted : releases_of m (rs ++ cond held (k ∷ []) []) ≡ releases_of m rs + 1
            counted =
                releases_more m rs _ ∙ ap (λ c. releases_of m rs + releases_of m (cond c (k ∷ []) [])) (i ∙ known_here ∙ r.there)
                ∙ ap (λ c. releases_of m rs + cond c 1 0) e

            first : unnamed (x ∷ xs) ≡ pendings n (commit_of m r.out ∷ told m (let_out g.fulls a))
                → record x { var = 0 } ≡ record { thread = n; var = 0; address = r.out.address; value = Some r.out.value }
            first q = cc

            others : unnamed (x ∷ xs) ≡ pendings n (commit_of m r.out ∷ told m (let_out g.fulls a)) → unnamed xs ≡ pendings n (told m (let_out g.fulls a))
            others q = cc

            shows : record x { var = 0 } ≡ record { thread = n; var = 0; address = r.out.address; value = Some r.out.value }
                → released m (x ∷ []) ≡ commit_of m r.out ∷ []
            shows q = ap (λ (z : Pending). record { mem = m; address = z.address; value = commit_value z.value } ∷ []) q

-- one statement
module _ (o : Around) (read : ℕ → ℕ → ℕ) (block : Blocked → Bool) (free : Ask → Bool) (m n : ℕ) (start : List Pending) where
  -- what the thread has done with m in its stage so far is what this phase says
  abbrev pub Here : Phase → Deeds → Work → Type 0
  Here ph d w = Staged m n ph (entries_of m w.entries) (of_mem m w.commits) (start ++ new_entries m n d.reserves) d.writes (releases_of m d.releases)
