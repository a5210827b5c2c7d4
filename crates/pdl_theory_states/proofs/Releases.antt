-- Who has released a write of a memory: only threads past the stage of its releases, all threads of turns past it that write, and none after a wrong guess.
use Rattle.std.proofs.Common.{◌≡◌, refl, sym, ap, ap₂, ◌∙◌, subst, ℕ, ◌<◌, Bool, true, false, ◌&&◌, ◌||◌, not, List, [], ◌∷◌, ◌++◌, Some, ◌==◌, nat_lt, cond, arith, ltb-true, ltb-false, lt-ltb}
use Rattle.std.proofs.lemmas.Bool.{eqb-true, not-true, or_right}
use Rattle.std.proofs.Math.Bool.{and-false}
use Rattle.pdl_semantics.specs.Flat.{Pipe, Op, Bind, CombRead, DelayedRead, Write, ReserveRead, ReserveWrite, Block, Release, Call, SpecCall, Verify, SpecCheck, SpecBarrier, AdviceBind, AdviceRead, AdviceWrite, Stmt, Commit, all_hold, of_mem}
use Rattle.pdl_semantics.specs.Stages.{list_any, onpath, is_release, commit_stage, verify_stage, is_write_reserve}
use Rattle.pdl_semantics.specs.Machine.{State, HeldLocation}
use Rattle.pdl_semantics.specs.Sequential.{Run, thread}
use Rattle.pdl_semantics.specs.Sound.{stages_before, stages_from, has_released}
use Rattle.pdl_theory_turns.specs.Derived.{Entry, no_hint}
use Rattle.pdl_semantics.specs.Sound
use Rattle.pdl_theory_turns.specs.Alone.{World, before, answered_op, is_nil, is_among, is_oldest, drop_var, but_last}
use Rattle.pdl_theory_turns.specs.Scans.{Phase, Fresh, next_phase, phase_all, phase_ok, phases_ok, after_write, after_reserve, after_release, may_write, none_of, Scan, no_scan, has_location, scan_after, no_guards}
use Rattle.pdl_theory_turns.specs.GuessScans.{is_barrier, is_sure, all_sure}
use Rattle.pdl_theory_turns.specs.Facts.{Sound, looked_all, at_once}
use Rattle.pdl_theory_turns.specs.Accepted.{along}
use Rattle.pdl_theory_turns.proofs.Writes.{and_left, and_right}
use Rattle.pdl_theory_simulation.proofs.FlowFacts.{uses_ok, use_ok}
use Rattle.pdl_theory_simulation.proofs.AcceptedFacts.{sound_flows, phases_looked}
use Rattle.pdl_theory_turns.proofs.Entries.{entries_of, Open, Full, waiting, known, open_vars, full_vars}
use Rattle.pdl_theory_turns.proofs.Apart.{front_among, oldest_among}
use Rattle.pdl_theory_turns.proofs.Phases.{Tied}
use Rattle.pdl_theory_turns.proofs.Deeds.{places}
use Rattle.pdl_theory_turns.proofs.CertaintyScans.{some_barrier, sure_first}
use Rattle.pdl_theory_turns.proofs.StrayPaths.{verify_looked}
use Rattle.pdl_theory_simulation.proofs.Shapes.{Shape, uses_front, none_till}
use Rattle.pdl_theory_simulation.proofs.Stretches.{on_way, late}
use Rattle.pdl_theory_simulation.proofs.Seats.{Live}
use Rattle.pdl_theory_simulation.proofs.Choices.{Seated}
use Rattle.pdl_theory_turns.proofs.TurnPath
use Rattle.pdl_theory_states.proofs.OldestFirst.{told}
use Rattle.pdl_theory_states.proofs.Trails.{AllStmts, stmts_map}
use Rattle.pdl_theory_states.proofs.Stage.{way_looked}
use Rattle.pdl_theory_states.proofs.TurnThreads.{acc, whole}
use Rattle.pdl_theory_turns.proofs.Paths.{none_onpath}

-- PHASES

-- whether a thread's write to a memory is done, that is released
abbrev pub is_done : Phase → Bool
is_done ph = not (is_nil ph.gone)

abbrev is_fresh : Phase → Bool
is_fresh ph = is_nil ph.unwritten && (is_nil ph.full && is_nil ph.gone)

-- without a release a write is not done
done_op : (m : ℕ) (ph : Phase) (op : Op) → not (is_release m op) ≡ true → is_done ph ≡ false → is_done (next_phase m ph op) ≡ false
done_op m ph (ReserveWrite n a) r h = at (n == m)
  where
    at : (b : Bool) → is_done (cond b (after_reserve ph a) ph) ≡ false
    at true = h
    at false = h
done_op m ph (Write n a e) r h = at (n == m)
  where
    at : (b : Bool) → is_done (cond b (after_write ph a) ph) ≡ false
    at true = h
    at false = h
done_op m ph (Release n a) r h = at (n == m) r
  where
    at : (b : Bool) → not b ≡ true → is_done (cond b (after_release ph a) ph) ≡ false
    at true k = absurd (cc k)
    at false k = h
done_op m ph _ r h = h

-- without a release nothing is released
pub never_done : (m : ℕ) (ph : Phase) (xs : List Stmt)
    → none_of (is_release m) xs ≡ true → is_done ph ≡ false → is_done (phase_all m ph xs) ≡ false
never_done m ph [] r h = h
never_done m ph (x ∷ xs) r h = never_done m (next_phase m ph x.op) xs (and_right (not (is_release m x.op)) _ r) (done_op m ph x.op (and_left _ _ r) h)

used_op : (m : ℕ) (ph : Phase) (op : Op) → is_fresh ph ≡ false → is_fresh (next_phase m ph op) ≡ false
used_op m ph (ReserveWrite n a) h = at (n == m)
  where
    at : (b : Bool) → is_fresh (cond b (after_reserve ph a) ph) ≡ false
    at true = refl
    at false = h
used_op m ph (Write n a e) h = at (n == m)
  where
    at : (b : Bool) → is_fresh (cond b (after_write ph a) ph) ≡ false
    at true = and-false (is_nil (but_last ph.unwritten))
    at false = h
used_op m ph (Release n a) h = at (n == m) (is_among a ph.full)
  where
    at : (b c : Bool) → is_fresh (cond b (cond c (record { unwritten = ph.unwritten; full = drop_var a ph.full; gone = a ∷ ph.gone }) ph) ph) ≡ false
    at true true = ap (λ b. is_nil ph.unwritten && b) (and-false (is_nil (drop_var a ph.full))) ∙ and-false (is_nil ph.unwritten)
    at true false = h
    at false c = h
used_op m ph _ h = h

used_all : (m : ℕ) (ph : Phase) (xs : List Stmt) → is_fresh ph ≡ false → is_fresh (phase_all m ph xs) ≡ false
used_all m ph [] h = h
used_all m ph (x ∷ xs) h = used_all m (next_phase m ph x.op) xs (used_op m ph x.op h)

reserve_op : (m : ℕ) (ph : Phase) (op : Op) → is_write_reserve m op ≡ true → is_fresh (next_phase m ph op) ≡ false
reserve_op m ph (ReserveWrite n a) h = ap (λ b. is_fresh (cond b (after_reserve ph a) ph)) h
reserve_op m ph _ h = absurd (cc h)

reserved_used : (m : ℕ) (ph : Phase) (xs : List Stmt)
    → list_any (λ (x : Stmt). is_write_reserve m x.op) xs ≡ true → is_fresh (phase_all m ph xs) ≡ false
reserved_used m ph [] h = absurd (cc h)
reserved_used m ph (x ∷ xs) h = at (is_write_reserve m x.op) refl h (reserved_used m (next_phase m ph x.op) xs)
  where
    at : (b : Bool) → is_write_reserve m x.op ≡ b → (b || list_any (λ (x : Stmt). is_write_reserve m x.op) xs) ≡ true
        → (list_any (λ (x : Stmt). is_write_reserve m x.op) xs ≡ true → is_fresh (phase_all m (next_phase m ph x.op) xs) ≡ false)
        → is_fresh (phase_all m (next_phase m ph x.op) xs) ≡ false
    at true e k f = used_all m (next_phase m ph x.op) xs (reserve_op m ph x.op e)
    at false e k f = f k

-- without a reservation for writing a lock stays fresh
unused_op : (m : ℕ) (op : Op) → use_ok m Fresh op ≡ true → is_write_reserve m op ≡ false → next_phase m Fresh op ≡ Fresh
unused_op m (Write n a e) u r = at (n == m) u
  where
    at : (b : Bool) → (not b || false) ≡ true → cond b (after_write Fresh a) Fresh ≡ Fresh
    at true v = absurd (cc v)
    at false v = refl
unused_op m (ReserveWrite n a) u r = ap (λ b. cond b (after_reserve Fresh a) Fresh) r
unused_op m (Release n a) u r = at (n == m)
  where
    at : (b : Bool) → cond b (after_release Fresh a) Fresh ≡ Fresh
    at true = refl
    at false = refl
unused_op m _ u r = refl

unused_all : (m : ℕ) (xs : List Stmt)
    → uses_ok m Fresh xs ≡ true → list_any (λ (x : Stmt). is_write_reserve m x.op) xs ≡ false
    → phase_all m Fresh xs ≡ Fresh
unused_all m [] u r = refl
unused_all m (x ∷ xs) u r = at (is_write_reserve m x.op) refl r (unused_all m xs)
  where
    at : (b : Bool) → is_write_reserve m x.op ≡ b → (b || list_any (λ (x : Stmt). is_write_reserve m x.op) xs) ≡ false
        → (uses_ok m Fresh xs ≡ true → list_any (λ (x : Stmt). is_write_reserve m x.op) xs ≡ false → phase_all m Fresh xs ≡ Fresh)
        → phase_all m (next_phase m Fresh x.op) xs ≡ Fresh
    at true e k f = absurd (cc k)
    at false e k f =
        let same : next_phase m Fresh x.op ≡ Fresh = unused_op m x.op (and_left _ _ u) e in
        ap (λ ph. phase_all m ph xs) same ∙ f (subst (λ ph. uses_ok m ph xs ≡ true) same (and_right (use_ok m Fresh x.op) _ u)) k

-- LOCATIONS

no_place : (m : ℕ) (es : List Entry) → list_any (λ (h : HeldLocation). h.mem == m) (places es) ≡ false → entries_of m es ≡ []
no_place m [] h = refl
no_place m (e ∷ es) h = at (e.mem == m) h (no_place m es)
  where
    at : (b : Bool) → (b || list_any (λ (h : HeldLocation). h.mem == m) (places es)) ≡ false
        → (list_any (λ (h : HeldLocation). h.mem == m) (places es) ≡ false → entries_of m es ≡ [])
        → cond b (e ∷ entries_of m es) (entries_of m es) ≡ []
    at true k f = absurd (cc k)
    at false k f = f k

no_entry : (m : ℕ) (es : List Entry) → entries_of m es ≡ [] → list_any (λ (h : HeldLocation). h.mem == m) (places es) ≡ false
no_entry m [] h = refl
no_entry m (e ∷ es) h = at (e.mem == m) h (no_entry m es)
  where
    at : (b : Bool) → cond b (e ∷ entries_of m es) (entries_of m es) ≡ []
        → (entries_of m es ≡ [] → list_any (λ (h : HeldLocation). h.mem == m) (places es) ≡ false)
        → (b || list_any (λ (h : HeldLocation). h.mem == m) (places es)) ≡ false
    at true k f = absurd (cc k)
    at false k f = f k

no_shape : (m : ℕ) (os : List Open) (fs : List Full) → waiting m os ++ known m fs ≡ [] → (is_nil (open_vars os) ≡ true) × (is_nil (full_vars fs) ≡ true)
no_shape m [] [] h = (refl, refl)
no_shape m [] (f ∷ fs) h = absurd (cc h)
no_shape m (o ∷ os) fs h = absurd (cc h)

used_done : (m : ℕ) (ph : Phase) (es : List Entry) → Shape m ph es → is_fresh ph ≡ false → es ≡ [] → is_done ph ≡ true
used_done m ph es s f e =
    let n = no_shape m s.opens s.fulls (sym s.entries ∙ e) in
    ap not (sym (ap₂ (λ a b. a && (b && is_nil ph.gone)) (ap is_nil (sym s.at_open) ∙ n.0) (ap is_nil (sym s.at_full) ∙ n.1)) ∙ f)

-- A LIVE THREAD

module _ (p : Pipe) (sound : Sound p) (st : State) (l : Live) (seated : Seated p st l) (m : ℕ) where
  released_done : has_released m p (told l) ≡ true → is_done (phase_all m Fresh (on_way p l.env l.thread.stage)) ≡ true
  released_done h =
      used_done m (phase_all m Fresh (on_way p l.env l.thread.stage)) (entries_of m l.thread.entries)
      (seated.keeps_on.shape m) (reserved_used m Fresh (on_way p l.env l.thread.stage) (and_left _ _ h))
      (no_place m l.thread.entries
      (ap (list_any (λ (h : HeldLocation). h.mem == m)) seated.keeps_on.held
      ∙ not-true _ (and_right (list_any (λ (x : Stmt). is_write_reserve m x.op) (on_way p l.env l.thread.stage)) _ h)))

  -- something is released only past the releases
  done_late : is_done (phase_all m Fresh (on_way p l.env l.thread.stage)) ≡ true → commit_stage p m < l.thread.stage
  done_late h = at (nat_lt (commit_stage p m) l.thread.stage) refl
    where
      at : (b : Bool) → nat_lt (commit_stage p m) l.thread.stage ≡ b → commit_stage p m < l.thread.stage
      at true e = ltb-true _ _ e
      at false e =
          absurd
          (cc (sym h ∙ never_done m Fresh (on_way p l.env l.thread.stage)
          (none_onpath (is_release m) l.env (stages_before l.thread.stage p.stmts)
          (none_till (is_release m) (commit_stage p m) l.thread.stage p.stmts ((sound_flows p sound).releases m) (ltb-false _ _ e))) refl))

  -- a thread whose way has come to the release of its write of m has released it
  pub done_released : is_done (phase_all m Fresh (on_way p l.env l.thread.stage)) ≡ true → has_released m p (told l) ≡ true
  done_released h =
      ap₂ (λ a b. a && not b) (reserved (list_any (λ (x : Stmt). is_write_reserve m x.op) (on_way p l.env l.thread.stage)) refl)
      (ap (list_any (λ (h : HeldLocation). h.mem == m)) (sym seated.keeps_on.held)
      ∙ no_entry m l.thread.entries
      (late p (sound_flows p sound) l.env l.thread seated.keeps_on m (done_late h)))
    where
      uses : uses_ok m Fresh (on_way p l.env l.thread.stage) ≡ true
      uses =
          uses_front m (on_way p l.env l.thread.stage)
          (onpath l.env (stages_from l.thread.stage p.stmts)) Fresh
          (subst (λ xs. uses_ok m Fresh xs ≡ true) ((sound_flows p sound).all_pieces l.env l.thread.stage) ((sound_flows p sound).uses l.env m))

      reserved : (b : Bool) → list_any (λ (x : Stmt). is_write_reserve m x.op) (on_way p l.env l.thread.stage) ≡ b
          → list_any (λ (x : Stmt). is_write_reserve m x.op) (on_way p l.env l.thread.stage) ≡ true
      reserved true e = e
      reserved false e = absurd (cc (sym h ∙ ap is_done (unused_all m (on_way p l.env l.thread.stage) uses e)))

  -- a thread that has released a write of m is past the stage of m's releases
  pub released_late : has_released m p (told l) ≡ true → commit_stage p m < l.thread.stage
  released_late h = done_late (released_done h)

  -- a thread whose way has not come to the release of a write of m has released none
  pub not_released : is_done (phase_all m Fresh (on_way p l.env l.thread.stage)) ≡ false → has_released m p (told l) ≡ false
  not_released h = at (has_released m p (told l)) refl
    where
      at : (b : Bool) → has_released m p (told l) ≡ b → has_released m p (told l) ≡ false
      at true e = absurd (cc (sym h ∙ released_done e))
      at false e = e

-- A THREAD ON ITS TURN

pending_none : (m : ℕ) (ph : Phase) (env : List ℕ) (es : List Entry) (cs ws : List Commit) → Tied m ph env es cs ws
    → is_done ph ≡ false → cs ≡ []
pending_none m ph env es cs ws t h = t.calm (at ph.gone h)
  where
    at : (xs : List ℕ) → not (is_nil xs) ≡ false → xs ≡ []
    at [] i = refl
    at (x ∷ xs) i = absurd (cc i)

module _ (p : Pipe) (sound : Sound p) (world : World) (args : List ℕ) where
  -- past the releases it has none undone
  pub turn_kept : (s m : ℕ) → commit_stage p m < s
      → is_done (phase_all m Fresh (on_way p (thread (at_once p) world.words args).env s)) ≡ false
      → of_mem m (thread p world.words args).writes ≡ []
  turn_kept s m late h =
      ap (λ (r : Run). of_mem m r.writes) (whole p sound world args)
      ∙ sym (TurnPath.commits_late (along (thread (at_once p) world.words args).env (at_once p)) (acc p sound world args) world args s m late)
      ∙ pending_none m
      (phase_all m Fresh (before s (onpath (thread (at_once p) world.words args).env (looked_all p.stmts)))) _ _ _ _
      ((TurnPath.related_at (along (thread (at_once p) world.words args).env (at_once p)) (acc p sound world args) world args s).tied m)
      (ap (λ xs. is_done (phase_all m Fresh xs)) (way_looked p (thread (at_once p) world.words args).env s)
      ∙ ap is_done (phases_looked m Fresh (on_way p (thread (at_once p) world.words args).env s)) ∙ h)

-- A THREAD AFTER A WRONG GUESS

-- writes under way have their locations among those that were opened
pub record Opened (m : ℕ) (ph : Phase) (c : Scan) : Type 0 where
  pub unwritten : (x : ℕ) → is_among x ph.unwritten ≡ true → has_location c.held m x ≡ true
  pub full : (x : ℕ) → is_among x ph.full ≡ true → has_location c.held m x ≡ true

opened_more : (m : ℕ) (ph : Phase) (c c' : Scan)
    → ((x : ℕ) → has_location c.held m x ≡ true → has_location c'.held m x ≡ true) → Opened m ph c → Opened m ph c'
opened_more m ph c c' f o = record { unwritten = λ x i. f x (o.unwritten x i); full = λ x i. f x (o.full x i) }

-- before V and without a barrier such a write is not released
sure_op : (m v s : ℕ) (c : Scan) (ph : Phase) (op : Op)
    → phase_ok m ph op ≡ true → is_sure (Some v) false c s op ≡ true → nat_lt s v ≡ true → Opened m ph c
    → is_done ph ≡ false → Opened m (next_phase m ph op) (scan_after op c) × (is_done (next_phase m ph op) ≡ false)
sure_op m v s c ph (ReserveWrite n a) k u low o d = at (n == m) refl
  where
    more : Opened m ph (scan_after (ReserveWrite n a) c)
    more = opened_more m ph c (scan_after (ReserveWrite n a) c) (λ x i. or_right ((n == m) && (a == x)) _ i) o

    new : (n == m) ≡ true
        → (x : ℕ) (b : Bool) → (a == x) ≡ b → (b || is_among x ph.unwritten) ≡ true
        → has_location (scan_after (ReserveWrite n a) c).held m x ≡ true
    new e x true j i = ap₂ (λ s t. (s && t) || has_location c.held m x) e j
    new e x false j i = more.unwritten x i

    at : (b : Bool)
        → (n == m) ≡ b
        → Opened m (cond b (after_reserve ph a) ph) (scan_after (ReserveWrite n a) c) × (is_done (cond b (after_reserve ph a) ph) ≡ false)
    at true e = (record { unwritten = λ x i. new e x (a == x) refl i; full = more.full }, d)
    at false e = (more, d)
sure_op m v s c ph (Write n a e) k u low o d = at (n == m) k
  where
    by : is_oldest a ph.unwritten ≡ true → (x : ℕ) (b : Bool) → (a == x) ≡ b → (b || is_among x ph.full) ≡ true → has_location c.held m x ≡ true
    by i x true j l = subst (λ y. has_location c.held m y ≡ true) (eqb-true a x j) (o.unwritten a (oldest_among a ph.unwritten i))
    by i x false j l = o.full x l

    at : (b : Bool) → (not b || may_write ph a) ≡ true → Opened m (cond b (after_write ph a) ph) c × (is_done (cond b (after_write ph a) ph) ≡ false)
    at true i = (record { unwritten = λ x j. o.unwritten x (front_among x ph.unwritten j); full = λ x j. by i x (a == x) refl j }, d)
    at false i = (o, d)
sure_op m v s c ph (Release n a) k u low o d = at (n == m) refl (is_among a ph.full) refl
  where
    shut : (b t : Bool) → (not b || not t) ≡ true → t ≡ true → b ≡ false
    shut false t i j = refl
    shut true true i j = absurd (cc i)
    shut true false i j = absurd (cc j)

    at : (b : Bool) → (n == m) ≡ b → (t : Bool) → is_among a ph.full ≡ t
        → Opened m (cond b (cond t (record { unwritten = ph.unwritten; full = drop_var a ph.full; gone = a ∷ ph.gone }) ph) ph) c
        × (is_done (cond b (cond t (record { unwritten = ph.unwritten; full = drop_var a ph.full; gone = a ∷ ph.gone }) ph) ph) ≡ false)
    at true e true g = absurd (cc (sym (shut (has_location c.held n a) (nat_lt s v) u low) ∙ ap (λ j. has_location c.held j a) (eqb-true n m e) ∙ o.full a g))
    at true e false g = (o, d)
    at false e t g = (o, d)
sure_op m v s c ph (Block n a) k u low o d = (at (has_location c.held n a), d)
  where
    at : (b : Bool) → Opened m ph (cond b c (record { held = c.held; blocked = record { mem = n; var = a } ∷ c.blocked }))
    at true = o
    at false = opened_more m ph c (record { held = c.held; blocked = record { mem = n; var = a } ∷ c.blocked }) (λ x i. i) o
sure_op m v s c ph _ k u low o d = (o, d)

barred_stays : (xs : List Stmt) → some_barrier true xs ≡ true
barred_stays [] = refl
barred_stays (x ∷ xs) = barred_stays xs

-- before stage V, and without a barrier, certain releases leave a write that is not done as not done
pub sure_done : (m v : ℕ) (c : Scan) (ph : Phase) (xs : List Stmt)
    → phases_ok m ph xs ≡ true → all_sure (Some v) false c xs ≡ true → some_barrier false xs ≡ false
    → AllStmts (λ x. nat_lt x.stage v ≡ true) xs → Opened m ph c → is_done ph ≡ false
    → is_done (phase_all m ph xs) ≡ false
sure_done m v c ph [] k u b low o d = d
sure_done m v c ph (x ∷ xs) k u b low o d =
    let one = sure_op m v x.stage c ph x.op (and_right (no_guards x.guards) _ (and_left _ _ k)) (and_left _ _ u) low.0 o d in
    at (is_barrier x.op) refl b (and_right (is_sure (Some v) false c x.stage x.op) _ u)
    (λ i j. sure_done m v (scan_after x.op c) (next_phase m ph x.op) xs (and_right (no_guards x.guards && phase_ok m ph x.op) _ k) i j low.1 one.0 one.1)
  where
    at : (t : Bool) → is_barrier x.op ≡ t → some_barrier t xs ≡ false
        → all_sure (Some v) (is_barrier x.op) (scan_after x.op c) xs ≡ true
        → (all_sure (Some v) false (scan_after x.op c) xs ≡ true → some_barrier false xs ≡ false → is_done (phase_all m (next_phase m ph x.op) xs) ≡ false)
        → is_done (phase_all m (next_phase m ph x.op) xs) ≡ false
    at true e j i f = absurd (cc (sym (barred_stays xs) ∙ j))
    at false e j i f = f (subst (λ t. all_sure (Some v) t (scan_after x.op c) xs ≡ true) e i) j

-- the statements of a path before stage s stand in earlier stages
pub low_stages : (path : List ℕ) (s : ℕ) (xs : List Stmt) → AllStmts (λ x. x.stage < s) (onpath path (stages_before s xs))
low_stages path s [] = tt
low_stages path s (x ∷ xs) = at (nat_lt x.stage s) refl (low_stages path s xs)
  where
    by : (c : Bool) → x.stage < s → AllStmts (λ x. x.stage < s) (onpath path (stages_before s xs))
        → AllStmts (λ x. x.stage < s) (cond c (record x { guards = [] } ∷ onpath path (stages_before s xs)) (onpath path (stages_before s xs)))
    by true i h = (i, h)
    by false i h = h

    at : (b : Bool) → nat_lt x.stage s ≡ b → AllStmts (λ x. x.stage < s) (onpath path (stages_before s xs))
        → AllStmts (λ x. x.stage < s) (onpath path (cond b (x ∷ stages_before s xs) (stages_before s xs)))
    at true e h = by (all_hold x.guards path) (ltb-true _ _ e) h
    at false e h = h

-- what holds of the statements' stages holds of them where delayed reads are answered at once
pub stages_looked : (P : ℕ → Type 0) (xs : List Stmt) → AllStmts (λ x. P x.stage) xs → AllStmts (λ x. P x.stage) (looked_all xs)
stages_looked P [] h = tt
stages_looked P (x ∷ xs) h = (h.0, stages_looked P xs h.1)

barrier_looked : (op : Op) → is_barrier (answered_op op) ≡ Sound.is_barrier op
barrier_looked SpecBarrier = refl
barrier_looked (Bind x e) = refl
barrier_looked (CombRead x m a) = refl
barrier_looked (DelayedRead x m a) = refl
barrier_looked (Write m a e) = refl
barrier_looked (ReserveRead m a) = refl
barrier_looked (ReserveWrite m a) = refl
barrier_looked (Block m a) = refl
barrier_looked (Release m a) = refl
barrier_looked (Call args) = refl
barrier_looked (SpecCall args) = refl
barrier_looked (Verify last args) = refl
barrier_looked SpecCheck = refl
barrier_looked (AdviceBind x' e') = refl
barrier_looked (AdviceRead x' m' a') = refl
barrier_looked (AdviceWrite m' a' e') = refl

-- statements without a barrier have none where their delayed reads are answered at once
pub unbarred : (xs : List Stmt) → list_any (λ (x : Stmt). Sound.is_barrier x.op) xs ≡ false → some_barrier false (looked_all xs) ≡ false
unbarred [] h = refl
unbarred (x ∷ xs) h = ap (λ b. some_barrier b (looked_all xs)) (barrier_looked x.op) ∙ at (Sound.is_barrier x.op) h (unbarred xs)
  where
    at : (b : Bool) → (b || list_any (λ (x : Stmt). Sound.is_barrier x.op) xs) ≡ false
        → (list_any (λ (x : Stmt). Sound.is_barrier x.op) xs ≡ false → some_barrier false (looked_all xs) ≡ false)
        → some_barrier b (looked_all xs) ≡ false
    at true i f = absurd (cc i)
    at false i f = f i

-- before V and after no barrier
pub early_unreleased : (p : Pipe) (sound : Sound p) (st : State) (l : Live) → Seated p st l → (v : ℕ)
    → verify_stage p.stmts ≡ Some v → l.thread.stage < v
    → list_any (λ (x : Stmt). Sound.is_barrier x.op) (on_way p l.env l.thread.stage) ≡ false → (m : ℕ)
    → has_released m p (told l) ≡ false
early_unreleased p sound st l seated v verifies low clear m = not_released p sound st l seated m
    (ap is_done (sym (phases_looked m Fresh (on_way p l.env l.thread.stage)))
    ∙ ap (λ xs. is_done (phase_all m Fresh xs)) (sym (way_looked p l.env l.thread.stage))
    ∙ sure_done m v no_scan Fresh (before l.thread.stage (onpath l.env (looked_all p.stmts)))
    (TurnPath.ok_before (along l.env (at_once p)) (sound.pathwise.paths l.env) (record { words = λ k a. 0; hint = no_hint }) [] l.thread.stage m)
    (subst (λ o. all_sure o false no_scan (before l.thread.stage (onpath l.env (looked_all p.stmts))) ≡ true) (verify_looked p.stmts ∙ verifies)
    (sure_first (verify_stage (looked_all p.stmts)) false no_scan (before l.thread.stage (onpath l.env (looked_all p.stmts)))
    (stages_from l.thread.stage (onpath l.env (looked_all p.stmts)))
    (subst (λ xs. all_sure (verify_stage (looked_all p.stmts)) false no_scan xs ≡ true)
    ((sound.pathwise.paths l.env).ordered l.thread.stage) (sound.pathwise.sure l.env))))
    (ap (some_barrier false) (way_looked p l.env l.thread.stage) ∙ unbarred (on_way p l.env l.thread.stage) clear)
    (subst (AllStmts (λ x. nat_lt x.stage v ≡ true)) (sym (way_looked p l.env l.thread.stage))
    (stages_looked (λ s. nat_lt s v ≡ true) (on_way p l.env l.thread.stage)
    (stmts_map (λ z i. lt-ltb _ _ (let k = i in let j = low in omega arith)) (on_way p l.env l.thread.stage) (low_stages l.env l.thread.stage p.stmts))))
    (record { unwritten = λ x h. absurd (cc h); full = λ x h. absurd (cc h) }) refl)
