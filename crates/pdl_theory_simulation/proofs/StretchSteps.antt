-- What the statements of a path do to values, to awaited variables, to requests and to the successor.
use Rattle.std.proofs.Common.{Option, ◌≡◌, refl, sym, ap, ◌∙◌, subst, ℕ, Bool, true, false, ◌&&◌, ◌||◌, not, List, [], ◌∷◌, ◌++◌, Some, None, is_some, ◌==◌, cond, if◌then◌else◌, arith, slice_index, slice_set, eq-eqb}
use Rattle.std.proofs.lemmas.List.{get_or-set_other}
use Rattle.std.proofs.lemmas.Bool.Decides.{eqb_tells}
use Rattle.pdl_semantics.specs.Flat.{Commit, of_mem, Op, Bind, CombRead, DelayedRead, Write, ReserveWrite, Release, Call, SpecCall, Verify, Stmt, value_of, values_of, all_hold}
use Rattle.pdl_semantics.specs.Stages.{onpath, is_reserve}
use Rattle.pdl_semantics.specs.Machine.{Ask, Awaited, same_args, Pending, Blocked, Reserved, Deeds, deeds_after_all, is_held, checked_args}
use Rattle.pdl_semantics.specs.Cycle.{awaited_of}
use Rattle.pdl_semantics.specs.Sound.{is_call, is_delayed_read}
use Rattle.pdl_semantics.specs.Machine
use Rattle.pdl_theory_turns.specs.Derived.{Entry, Work, Around, work_after, do_all, said}
use Rattle.pdl_theory_turns.specs.Scans.{Phase, next_phase, phase_all, none_of, called}
use Rattle.pdl_theory_simulation.proofs.FlowFacts.{SameBut, sets, is_fetch_of, use_ok, uses_ok, call_ok, calls_ok}
use Rattle.pdl_theory_turns.proofs.Writes.{and_left, and_right}
use Rattle.pdl_theory_turns.proofs.Stages.{step}
use Rattle.pdl_theory_turns.proofs.Paths.{Fixed}
use Rattle.pdl_theory_turns.proofs.Deeds.{places, places_has, work_of, AllFit, Loosely, loose_step}
use Rattle.pdl_theory_turns.proofs.Steps.{Here, step_write, step_reserve, step_release}

-- what statements do to the pending writes of m
module _ (o : Around) (read : ℕ → ℕ → ℕ) (block : Blocked → Bool) (free : Ask → Bool) (m n : ℕ) (start : List Pending) where
  step_op : (op : Op) (ph : Phase) (d : Deeds) (es : List Entry) (cs : List Commit) (gu : List ℕ) (c : Option (List ℕ)) (f : Bool)
      → places es ≡ d.held → use_ok m ph op ≡ true
      → Here o read block free m n start ph d (work_of o read block free (record d { guess = gu; child = c; fails = f }) es cs)
      → Here o read block free m n start (next_phase m ph op) (Machine.deeds_after read op d)
      (work_after o op (work_of o read block free (record d { guess = gu; child = c; fails = f }) es cs))
  step_op (Write j a e) ph d es cs gu c f h k g = step_write m n j a (value_of e d.env) ph es (of_mem m cs) _ d.writes _ (j == m) refl k g
  step_op (ReserveWrite j a) ph d es cs gu c f h k g =
      step_reserve m n j a (slice_index d.env a) ph es (of_mem m cs) start d.reserves d.writes _ (j == m) refl k g
  step_op (Release j a) ph d es cs gu c f h k g =
      step_release m n j a ph es cs _ d.writes d.releases (is_held d.held j a) (ap (λ l. is_held l j a) (sym h) ∙ places_has es j a) (j == m) refl k g
  step_op (Verify last args) ph d es cs gu c f h k g =
      at (same_args (checked_args last args d) d.guess) (same_args (said o last args d.env) gu)
    where
      at : (b b' : Bool)
          → Here o read block free m n start ph
          (cond b d (record d { child = Some (checked_args last args d); guess = checked_args last args d; fails = true }))
          (cond b' (work_of o read block free (record d { guess = gu; child = c; fails = f }) es cs)
          (record (work_of o read block free (record d { guess = gu; child = c; fails = f }) es cs) {
            child = Some (said o last args d.env);
            guess = said o last args d.env;
            fails = true;
          }))
      at true true = g
      at true false = g
      at false true = g
      at false false = g
  step_op _ ph d es cs gu c f h k g = g

  -- a statement that is carried out or passed over leaves m's pending writes as the phase after it says
  pub step_if : (b : Bool) (op : Op) (ph : Phase) (d : Deeds) (w : Work) → Loosely o read block free d w → (b ≡ true → use_ok m ph op ≡ true)
      → Here o read block free m n start ph d w
      → Here o read block free m n start (cond b (next_phase m ph op) ph)
      (cond b (Machine.deeds_after read op d) d)
      (cond b (work_after o op w) w)
  step_if true op ph d w l k g =
      subst (λ v. Here o read block free m n start (next_phase m ph op) (Machine.deeds_after read op d) (work_after o op v)) (sym l.is)
      (step_op op ph d w.entries w.commits w.guess w.child w.fails l.held (k refl) g)
  step_if false op ph d w l k g = g

  -- the statements of a stage, each in order in its phase of m's lock, leave m as the phase after them says
  pub steps_all : (path : List ℕ) (xs : List Stmt) (ph : Phase) (d : Deeds) (w : Work)
      → Loosely o read block free d w → AllFit o read block free xs
      → Fixed path o xs w → uses_ok m ph (onpath path xs) ≡ true
      → Here o read block free m n start ph d w
      → Here o read block free m n start (phase_all m ph (onpath path xs)) (deeds_after_all read xs d)
      (do_all o xs w)
  steps_all path [] ph d w l f q k g = g
  steps_all path (x ∷ xs) ph d w l f q k g = subst (λ b. Here o read block free m n start (phase_all m ph (onpath path (x ∷ xs)))
      (deeds_after_all read xs (cond b (Machine.deeds_after read x.op d) d))
      (do_all o (x ∷ xs) w))
      (ap (λ (v : Work). all_hold x.guards v.env) l.is)
      (at (all_hold x.guards w.env) (all_hold x.guards path) q.0 k q.1 (λ ph' d' w' l' q' k' g'. steps_all path xs ph' d' w' l' f.1 q' k' g'))
    where
      at : (b c : Bool) → b ≡ c → uses_ok m ph (cond c (record x { guards = [] } ∷ onpath path xs) (onpath path xs)) ≡ true
          → Fixed path o xs (cond b (work_after o x.op w) w)
          → ((ph' : Phase) (d' : Deeds) (w' : Work) → Loosely o read block free d' w' → Fixed path o xs w' → uses_ok m ph'
          (onpath path xs) ≡ true → Here o read block free m n start ph' d' w' → Here o read block free m n start
          (phase_all m ph' (onpath path xs)) (deeds_after_all read xs d') (do_all o xs w'))
          → Here o read block free m n start (phase_all m ph (cond c (record x { guards = [] } ∷ onpath path xs) (onpath path xs)))
          (deeds_after_all read xs (cond b (Machine.deeds_after read x.op d) d)) (do_all o xs (cond b (work_after o x.op w) w))
      at true true e k q go =
          go (next_phase m ph x.op) (Machine.deeds_after read x.op d) (work_after o x.op w) (loose_step o read block free true x.op d w f.0 l) q
          (and_right (use_ok m ph x.op) _ k)
          (step_if true x.op ph d w l (λ _. and_left _ _ k) g)
      at true false e k q go = absurd (cc e)
      at false true e k q go = absurd (cc e)
      at false false e k q go = go ph d w l q k g

-- a variable keeps its value where another gets one
pub set_stays : (env : List ℕ) (x g v : ℕ) → not (x == g) ≡ true → slice_index env g ≡ slice_index (slice_set env x v) g
set_stays env x g v h = sym (get_or-set_other env x g v 0 apart)
  where
    apart : g ≡ x → ⊥
    apart e = grind (arith, eqb_tells)

op_sets : (g : ℕ) (o : Around) (op : Op) (w : Work) → not (sets g op) ≡ true → slice_index w.env g ≡ slice_index (work_after o op w).env g
op_sets g o (Bind x e) w h = set_stays w.env x g _ h
op_sets g o (CombRead x m a) w h = set_stays w.env x g _ h
op_sets g o (Verify last args) w h = at (same_args (said o last args w.env) w.guess)
  where
    at : (b : Bool)
        → slice_index w.env g ≡ slice_index (cond b w (record w { child = Some (said o last args w.env); guess = said o last args w.env; fails = true })).env g
    at true = refl
    at false = refl
op_sets g o _ w h = refl

-- the statements of a path change only the variables that they bind at once
pub only_sets : (path : List ℕ) (o : Around) (xs : List Stmt) (w : Work) → Fixed path o xs w
    → SameBut sets (onpath path xs) w.env (do_all o xs w).env
only_sets path o [] w f g h = refl
only_sets path o (x ∷ xs) w f g h = at (all_hold x.guards w.env) (all_hold x.guards path) f.0 h (λ k. only_sets path o xs (step o x w) f.1 g k)
  where
    at : (b c : Bool) → b ≡ c → none_of (sets g) (cond c (record x { guards = [] } ∷ onpath path xs) (onpath path xs)) ≡ true
        → (none_of (sets g) (onpath path xs) ≡ true
        → slice_index (cond b (work_after o x.op w) w).env g ≡ slice_index (do_all o xs (cond b (work_after o x.op w) w)).env g)
        → slice_index w.env g ≡ slice_index (do_all o xs (cond b (work_after o x.op w) w)).env g
    at true true e k r = op_sets g o x.op w (and_left _ _ k) ∙ r (and_right (not (sets g x.op)) _ k)
    at true false e k r = absurd (cc e)
    at false true e k r = absurd (cc e)
    at false false e k r = r k

-- whether a variable is awaited
abbrev pub awaits_var : List Awaited → ℕ → Bool
awaits_var [] g = false
awaits_var (r ∷ rs) g = (r.var == g) || awaits_var rs g

-- a statement that is no delayed read into a variable leaves it awaited or not, as it was
op_asks : (g : ℕ) (o : Around) (op : Op) (w : Work)
    → not (is_fetch_of g op) ≡ true
    → awaits_var (awaited_of (work_after o op w).asks) g ≡ awaits_var (awaited_of w.asks) g
op_asks g o (DelayedRead x m a) w h = more w.asks
  where
    off : (b : Bool) → not b ≡ true → (b || false) ≡ false
    off true k = absurd (cc k)
    off false k = refl

    more : (qs : List Ask) → awaits_var (awaited_of (qs ++ record { mem = m; var = x; address = slice_index w.env a } ∷ [])) g ≡ awaits_var (awaited_of qs) g
    more [] = off (x == g) h
    more (q ∷ qs) = ap (λ b. (q.var == g) || b) (more qs)
op_asks g o (Verify last args) w h = at (same_args (said o last args w.env) w.guess)
  where
    at : (b : Bool)
        → awaits_var (awaited_of (cond b w (record w { child = Some (said o last args w.env); guess = said o last args w.env; fails = true })).asks) g
        ≡ awaits_var (awaited_of w.asks) g
    at true = refl
    at false = refl
op_asks g o _ w h = refl

-- the statements of a path await only the variables that they read into
pub only_asks : (path : List ℕ) (o : Around) (xs : List Stmt) (w : Work) → Fixed path o xs w → (g : ℕ)
    → none_of (is_fetch_of g) (onpath path xs) ≡ true
    → awaits_var (awaited_of (do_all o xs w).asks) g ≡ awaits_var (awaited_of w.asks) g
only_asks path o [] w f g h = refl
only_asks path o (x ∷ xs) w f g h = at (all_hold x.guards w.env) (all_hold x.guards path) f.0 h (λ k. only_asks path o xs (step o x w) f.1 g k)
  where
    at : (b c : Bool) → b ≡ c → none_of (is_fetch_of g) (cond c (record x { guards = [] } ∷ onpath path xs) (onpath path xs)) ≡ true
        → (none_of (is_fetch_of g) (onpath path xs) ≡ true
        → awaits_var (awaited_of (do_all o xs (cond b (work_after o x.op w) w)).asks) g ≡ awaits_var (awaited_of (cond b (work_after o x.op w) w).asks) g)
        → awaits_var (awaited_of (do_all o xs (cond b (work_after o x.op w) w)).asks) g ≡ awaits_var (awaited_of w.asks) g
    at true true e k r = r (and_right (not (is_fetch_of g x.op)) _ k) ∙ op_asks g o x.op w (and_left _ _ k)
    at true false e k r = absurd (cc e)
    at false true e k r = absurd (cc e)
    at false false e k r = r k

-- a memory that is reserved for writing is one that a statement of the stage reserves
abbrev pub ReservesFrom : List Stmt → List Reserved → Type 0
ReservesFrom all [] = Unit {0}
ReservesFrom all (r ∷ rs) = (none_of (is_reserve r.mem) all ≡ false) × ReservesFrom all rs

reserved_op : (all : List Stmt) (read : ℕ → ℕ → ℕ) (op : Op) (d : Deeds)
    → ((m : ℕ) → not (is_reserve m op) ≡ false → none_of (is_reserve m) all ≡ false) → ReservesFrom all d.reserves
    → ReservesFrom all (Machine.deeds_after read op d).reserves
reserved_op all read (ReserveWrite m a) d f h = more d.reserves h
  where
    more : (rs : List Reserved) → ReservesFrom all rs → ReservesFrom all (rs ++ record { mem = m; var = a; address = slice_index d.env a } ∷ [])
    more [] g = (f m (ap not (eq-eqb m m refl)), tt)
    more (r ∷ rs) g = (g.0, more rs g.1)
reserved_op all read (Verify last args) d f h = at (same_args (checked_args last args d) d.guess)
  where
    at : (b : Bool)
        → ReservesFrom all (cond b d (record d { child = Some (checked_args last args d); guess = checked_args last args d; fails = true })).reserves
    at true = h
    at false = h
reserved_op all read _ d f h = h

-- what a stage reserves are memories that its statements reserve
pub reserves_from : (all : List Stmt) (read : ℕ → ℕ → ℕ) (xs : List Stmt) (d : Deeds)
    → ((m : ℕ) → none_of (is_reserve m) xs ≡ false → none_of (is_reserve m) all ≡ false) → ReservesFrom all d.reserves
    → ReservesFrom all (deeds_after_all read xs d).reserves
reserves_from all read [] d f h = h
reserves_from all read (x ∷ xs) d f h =
    reserves_from all read xs (if all_hold x.guards d.env then Machine.deeds_after read x.op d else d) (λ m k. f m (behind (not (is_reserve m x.op)) _ k))
    (at (all_hold x.guards d.env))
  where
    behind : (b c : Bool) → c ≡ false → (b && c) ≡ false
    behind true c k = k
    behind false c k = refl

    front : (b c : Bool) → b ≡ false → (b && c) ≡ false
    front true c k = absurd (cc k)
    front false c k = refl

    at : (b : Bool) → ReservesFrom all (cond b (Machine.deeds_after read x.op d) d).reserves
    at true = reserved_op all read x.op d (λ m k. f m (front (not (is_reserve m x.op)) _ k)) h
    at false = h

-- a memory that is asked for is one that a statement of the stage reads
abbrev pub AsksFrom : List Stmt → List Ask → Type 0
AsksFrom all [] = Unit {0}
AsksFrom all (q ∷ qs) = (none_of (is_delayed_read q.mem) all ≡ false) × AsksFrom all qs

op_from : (all : List Stmt) (o : Around) (op : Op) (w : Work)
    → ((m : ℕ) → not (is_delayed_read m op) ≡ false → none_of (is_delayed_read m) all ≡ false) → AsksFrom all w.asks
    → AsksFrom all (work_after o op w).asks
op_from all o (DelayedRead x m a) w f h = more w.asks h
  where
    same : (m == m) ≡ true
    same = grind (arith, eqb_tells)

    more : (qs : List Ask) → AsksFrom all qs → AsksFrom all (qs ++ record { mem = m; var = x; address = slice_index w.env a } ∷ [])
    more [] k = (f m (ap not same), tt)
    more (q ∷ qs) k = (k.0, more qs k.1)
op_from all o (Verify last args) w f h = at (same_args (said o last args w.env) w.guess)
  where
    at : (b : Bool) → AsksFrom all (cond b w (record w { child = Some (said o last args w.env); guess = said o last args w.env; fails = true })).asks
    at true = h
    at false = h
op_from all o _ w f h = h

-- statements ask only for memories that statements of the stage read delayed
pub asks_from : (all : List Stmt) (o : Around) (xs : List Stmt) (w : Work)
    → ((m : ℕ) → none_of (is_delayed_read m) xs ≡ false → none_of (is_delayed_read m) all ≡ false) → AsksFrom all w.asks
    → AsksFrom all (do_all o xs w).asks
asks_from all o [] w f h = h
asks_from all o (x ∷ xs) w f h = asks_from all o xs (step o x w) (λ m k. f m (more (not (is_delayed_read m x.op)) k)) (at (all_hold x.guards w.env))
  where
    more : (b : Bool) {c : Bool} → c ≡ false → (b && c) ≡ false
    more true k = k
    more false k = refl

    first : (b c : Bool) → b ≡ false → (b && c) ≡ false
    first true c k = absurd (cc k)
    first false c k = refl

    at : (b : Bool) → AsksFrom all (cond b (work_after o x.op w) w).asks
    at true = op_from all o x.op w (λ m k. f m (first (not (is_delayed_read m x.op)) (none_of (is_delayed_read m) xs) k)) h
    at false = h

-- what is known of the successor: no second one is made but by a failing verify, and one that is made was called
pub record Childed (been : Bool) (c : Bool) (w : Work) : Type 0 where
  pub since : been ≡ true → c ≡ true
  pub called_it : is_some w.child ≡ true → c ≡ true
  pub no_second : been ≡ true → w.fails ≡ false → w.child ≡ None
  pub squashes : w.fails ≡ true → is_some w.child ≡ true

made_op : (been c : Bool) (o : Around) (op : Op) (w : Work)
    → call_ok c op ≡ true → Childed been c w → Childed been (c || is_call op) (work_after o op w)
made_op been c o (Call args) w h k = fresh_call c (and_left (not (c && true)) _ h) k
  where
    fresh_call : (c : Bool) → not (c && true) ≡ true → Childed been c w → Childed been (c || true) (record w { child = Some (values_of args w.env) })
    fresh_call true h k = absurd (cc h)
    fresh_call false h k = record {
      since = λ e. refl;
      called_it = λ e. refl;
      no_second = λ e f. absurd (clash (k.since e));
      squashes = λ e. refl;
    }
      where
        clash : false ≡ true → ⊥
        clash i = cc
made_op been c o (SpecCall args) w h k = fresh_call c (and_left (not (c && true)) _ h) k
  where
    fresh_call : (c : Bool) → not (c && true) ≡ true → Childed been c w
        → Childed been (c || true) (record w { child = Some o.guess; guess = o.guess })
    fresh_call true h k = absurd (cc h)
    fresh_call false h k = record {
      since = λ e. refl;
      called_it = λ e. refl;
      no_second = λ e f. absurd (clash (k.since e));
      squashes = λ e. refl;
    }
      where
        clash : false ≡ true → ⊥
        clash i = cc
made_op been c o (Verify last args) w h k = at c (and_right (not (c && false)) _ h) k (same_args (said o last args w.env) w.guess)
  where
    at : (c : Bool) → (c || not true) ≡ true → Childed been c w → (b : Bool)
        → Childed been (c || false) (cond b w (record w { child = Some (said o last args w.env); guess = said o last args w.env; fails = true }))
    at false h k b = absurd (cc h)
    at true h k true = k
    at true h k false = record { since = λ e. refl; called_it = λ e. refl; no_second = λ e f. absurd (clash f); squashes = λ e. refl }
      where
        clash : true ≡ false → ⊥
        clash i = cc
made_op been c o _ w h k = record { since = λ e. or_left (k.since e); called_it = λ e. or_left (k.called_it e); no_second = k.no_second; squashes = k.squashes }
  where
    or_left : {b : Bool} → b ≡ true → (b || false) ≡ true
    or_left e = ap (λ b. b || false) e

-- the statements of a path make at most the successor that their calls make
pub made_all : (been c : Bool) (path : List ℕ) (o : Around) (xs : List Stmt) (w : Work) → Fixed path o xs w
    → calls_ok c (onpath path xs) ≡ true → Childed been c w → Childed been (called c (onpath path xs)) (do_all o xs w)
made_all been c path o [] w f h k = k
made_all been c path o (x ∷ xs) w f h k =
    at (all_hold x.guards w.env) (all_hold x.guards path) f.0 h (λ c' w' f' h' k'. made_all been c' path o xs w' f' h' k') f.1
  where
    at : (b d : Bool) → b ≡ d → calls_ok c (cond d (record x { guards = [] } ∷ onpath path xs) (onpath path xs)) ≡ true
        → ((c' : Bool) (w' : Work) → Fixed path o xs w' → calls_ok c' (onpath path xs) ≡ true → Childed been c' w'
        → Childed been (called c' (onpath path xs)) (do_all o xs w'))
        → Fixed path o xs (cond b (work_after o x.op w) w)
        → Childed been (called c (cond d (record x { guards = [] } ∷ onpath path xs) (onpath path xs))) (do_all o xs (cond b (work_after o x.op w) w))
    at true true e i r g = r (c || is_call x.op) (work_after o x.op w) g (and_right (call_ok c x.op) _ i) (made_op been c o x.op w (and_left _ _ i) k)
    at true false e i r g = absurd (cc e)
    at false true e i r g = absurd (cc e)
    at false false e i r g = r c w g i k
