-- A sound pipe of the whole language has the facts that the pipeline's proof takes.
use Rattle.std.proofs.Common.{◌≡◌, ◌≢◌, refl, sym, ap, ap₂, ◌∙◌, subst, ℕ, zero, suc, ◌≤◌, ◌<◌, inl, inr, Bool, true, false, ◌&&◌, ◌||◌, not, List, [], ◌∷◌, length, Option, Some, None, is_some, ◌==◌, cond, arith, slice_index, lt-ltb, eq-eqb}
use Rattle.std.proofs.lemmas.Bool.{eqb-true, eqb-false, ne_eqb}
use Rattle.pdl_semantics.specs.Flat.{Op, DelayedRead, Verify, SpecBarrier, Stmt, Pipe, Branch, all_hold}
use Rattle.pdl_semantics.specs.Stages.{onpath, in_stage, stage_at, commit_stage, is_release, is_verify, verify_stage}
use Rattle.pdl_semantics.specs.Machine.{Ask, same_args}
use Rattle.pdl_semantics.specs.Sequential.{Run, thread}
use Rattle.pdl_theory_turns.specs.Derived.{no_hint, Work, Around, Thread, work_of_stage, work_after, do_all, find_ask, said}
use Rattle.pdl_theory_turns.specs.Alone.{World, alone, before, start_work, so_far, thread_at}
use Rattle.pdl_theory_turns.specs.Scans.{none_of, all_at, no_scan, scan_after_all}
use Rattle.pdl_theory_turns.specs.GuessScans.{stands_at, stands_before, is_barrier}
use Rattle.pdl_theory_turns.specs.Graphs.{Trunk, next_of}
use Rattle.pdl_theory_turns.specs.Facts.{fetches_no, none_like, alone_op, fetch_apart, FetchOk, looked_all, at_once, visits_stage, Sound}
use Rattle.pdl_theory_turns.specs.Accepted.{along}
use Rattle.pdl_theory_turns.specs.Facts.{trunk_only}
use Rattle.pdl_theory_turns.proofs.Writes.{and_left, and_right}
use Rattle.pdl_theory_turns.proofs.Stages.{step}
use Rattle.pdl_theory_turns.proofs.Paths.{before_path, none_onpath}
use Rattle.pdl_theory_turns.proofs.Turn.{quiet, none_in_stage, release_looked}
use Rattle.pdl_theory_turns.proofs.Guesses.{same_args_refl, Changed}
use Rattle.pdl_theory_turns.proofs.TurnFacts.{next_at, right_guess, stage_work}
use Rattle.pdl_theory_turns.proofs.DelayedReads.{AllAsks, all_more, all_snoc, Apart, apart_snoc}
use Rattle.pdl_theory_turns.proofs.Rooms
use Rattle.pdl_theory_turns.proofs.Courses.{Course, AskOk, Strayed}
use Rattle.pdl_theory_turns.proofs.StageFacts.{EachFetch, asks_each, fetch_each, alive}
use Rattle.pdl_theory_turns.proofs.StrayPaths.{verify_looked, before_none, Barred}
use Rattle.pdl_theory_turns.proofs.RoamingThreads.{Roams, has_made, roams_answered, fresh_roams, roam_step}
use Rattle.pdl_theory_turns.proofs.StageFacts
use Rattle.pdl_theory_turns.proofs.Turns
use Rattle.pdl_theory_turns.proofs.Makes

-- DIFFERENT REQUESTS

-- a request that later delayed reads avoid
abbrev Later : Ask → List Stmt → Type 0
Later q ys = EachFetch (λ x m. (x ≢ q.var) × (m ≢ q.mem)) ys

later_like : (x m : ℕ) (q : Ask) (ys : List Stmt) → q.var ≡ x → q.mem ≡ m → none_like x m ys ≡ true → Later q ys
later_like x m q [] e f h = tt
later_like x m q (y ∷ ys) e f h =
    ((λ d z n a i. one z n (ap (fetches_no x m) (sym i) ∙ and_left (fetches_no x m y.op) _ h)), later_like x m q ys e f (and_right (fetches_no x m y.op) _ h))
  where
    differ : (a b : ℕ) → not (a == b) ≡ true → b ≢ a
    differ a b k i = at (a == b) refl k
      where
        at : (c : Bool) → (a == b) ≡ c → not c ≡ true → ⊥
        at true j l = absurd (cc l)
        at false j l = eqb-false a b j (sym i)

    one : (z n : ℕ) → (not (x == z) && not (m == n)) ≡ true → (z ≢ q.var) × (n ≢ q.mem)
    one z n k = ((λ i. differ x z (and_left _ _ k) (i ∙ e)), (λ i. differ m n (and_right (not (x == z)) _ k) (i ∙ f)))

apart_op : (o : Around) (op : Op) (ys : List Stmt) (w : Work)
    → alone_op op ys ≡ true → Apart w.asks
    → AllAsks (λ q. ((x m a : ℕ) → op ≡ DelayedRead x m a → (x ≢ q.var) × (m ≢ q.mem)) × Later q ys) w.asks
    → Apart (work_after o op w).asks × AllAsks (λ q. Later q ys) (work_after o op w).asks
apart_op o (DelayedRead x m a) ys w h p l = (
  apart_snoc w.asks (record { mem = m; var = x; address = slice_index w.env a }) p
      (all_more _ (λ r. (r.var ≢ x) × (r.mem ≢ m)) w.asks (λ q k. ((λ i. (k.0 x m a refl).0 (sym i)), (λ i. (k.0 x m a refl).1 (sym i)))) l),
  all_snoc (λ q. Later q ys) w.asks (record { mem = m; var = x; address = slice_index w.env a })
      (all_more _ (λ q. Later q ys) w.asks (λ q k. k.1) l)
      (later_like x m (record { mem = m; var = x; address = slice_index w.env a }) ys refl refl h),
)
apart_op o (Verify last args) ys w h p l = at (same_args (said o last args w.env) w.guess)
  where
    at : (b : Bool)
        → Apart (cond b w (record w { child = Some (said o last args w.env); guess = said o last args w.env; fails = true })).asks
        × AllAsks (λ q. Later q ys) (cond b w (record w { child = Some (said o last args w.env); guess = said o last args w.env; fails = true })).asks
    at true = (p, all_more _ (λ q. Later q ys) w.asks (λ q k. k.1) l)
    at false = (p, all_more _ (λ q. Later q ys) w.asks (λ q k. k.1) l)
apart_op o _ ys w h p l = (p, all_more _ (λ q. Later q ys) w.asks (λ q k. k.1) l)

-- requests stay of different memories and variables, where later delayed reads avoid one another and them
pub apart_asks : (o : Around) (ys : List Stmt) (w : Work)
    → fetch_apart ys ≡ true → Apart w.asks → AllAsks (λ q. Later q ys) w.asks → Apart (do_all o ys w).asks
apart_asks o [] w h p l = p
apart_asks o (y ∷ ys) w h p l =
    let s = at (all_hold y.guards w.env) refl in apart_asks o ys (step o y w) (and_right (alone_op y.op ys) _ h) s.0 s.1
  where
    at : (b : Bool) → all_hold y.guards w.env ≡ b
        → Apart (cond b (work_after o y.op w) w).asks × AllAsks (λ q. Later q ys) (cond b (work_after o y.op w) w).asks
    at true e =
        apart_op o y.op ys w (and_left _ _ h) p
        (all_more _ (λ q. ((x m a : ℕ) → y.op ≡ DelayedRead x m a → (x ≢ q.var) × (m ≢ q.mem)) × Later q ys) w.asks
        (λ q k. (k.0 (alive y.guards w.env e), k.1)) l)
    at false e = (p, all_more _ (λ q. Later q ys) w.asks (λ q k. k.1) l)

-- what is known of a request that is found
found_one : (P : ℕ → Type 0) (qs : List Ask) (m : ℕ) → AllAsks (λ q. P q.mem) qs → is_some (find_ask qs m) ≡ true → P m
found_one P [] m h k = absurd (cc k)
found_one P (q ∷ qs) m h k = at (q.mem == m) refl k (found_one P qs m h.1)
  where
    at : (b : Bool) → (q.mem == m) ≡ b → is_some (cond b (Some q.address) (find_ask qs m)) ≡ true → (is_some (find_ask qs m) ≡ true → P m) → P m
    at true e i f = subst P (eqb-true q.mem m e) h.0
    at false e i f = f i

-- a memory's releases stand in stage c just where they do with delayed reads answered at once
pub all_at_looked : (m c : ℕ) (xs : List Stmt) → all_at (is_release m) c (looked_all xs) ≡ all_at (is_release m) c xs
all_at_looked m c [] = refl
all_at_looked m c (x ∷ xs) = ap₂ (λ b d. (not b || (x.stage == c)) && d) (release_looked m x.op) (all_at_looked m c xs)

-- what no branch may hold
trunk_none : (test : Op → Bool)
    → ((op : Op) → not (trunk_only op) ≡ true → not (test op) ≡ true) → (xs : List Stmt) → none_of trunk_only xs ≡ true
    → none_of test xs ≡ true
trunk_none test f [] h = refl
trunk_none test f (x ∷ xs) h =
    ap₂ (λ a b. a && b) (f x.op (and_left (not (trunk_only x.op)) _ h)) (trunk_none test f xs (and_right (not (trunk_only x.op)) _ h))

no_barrier : (op : Op) → not (trunk_only op) ≡ true → not (is_barrier op) ≡ true
no_barrier SpecBarrier h = absurd (cc h)
no_barrier _ h = refl

no_verify : (op : Op) → not (trunk_only op) ≡ true → not (is_verify op) ≡ true
no_verify (Verify last args) h = absurd (cc h)
no_verify _ h = refl

-- the stage of the verifies has one
verify_here : (xs : List Stmt) (v : ℕ) → verify_stage xs ≡ Some v → none_of is_verify (in_stage v xs) ≡ true → ⊥
verify_here [] v e h = cc e
verify_here (x ∷ xs) v e h = at (is_verify x.op) refl e (λ i. verify_here xs v i (rest (x.stage == v) h))
  where
    rest : (b : Bool) → none_of is_verify (cond b (x ∷ in_stage v xs) (in_stage v xs)) ≡ true → none_of is_verify (in_stage v xs) ≡ true
    rest true k = and_right (not (is_verify x.op)) _ k
    rest false k = k

    same : Some x.stage ≡ Some v → x.stage ≡ v
    same k = cc

    clash : false ≡ true → ⊥
    clash k = cc

    at : (b : Bool) → is_verify x.op ≡ b → cond b (Some x.stage) (verify_stage xs) ≡ Some v → (verify_stage xs ≡ Some v → ⊥) → ⊥
    at true f i g =
        clash
        (sym (ap not f)
        ∙ and_left (not (is_verify x.op)) _
        (subst (λ b. none_of is_verify (cond b (x ∷ in_stage v xs) (in_stage v xs)) ≡ true) (eq-eqb x.stage v (same i)) h))
    at false f i g = g i

-- the stages that a path comes to one after another, and whether it comes to this one
abbrev pub walk : Pipe → List ℕ → ℕ → ℕ
walk p path zero = 0
walk p path (suc k) = next_of p (walk p path k) path

-- stage s is one that the path comes to
abbrev pub Reached : Pipe → List ℕ → ℕ → Type 0
Reached p path s = (k : ℕ) × (s ≡ walk p path k)

module _ (p : Pipe) (acc : Sound p) where
  -- the stage of the verifies, or 0 where there is none
  abbrev pub v_of : Option ℕ → ℕ
  v_of None = 0
  v_of (Some v) = v

  v_low : (o : Option ℕ) → verify_stage p.stmts ≡ o → v_of o < length p.stages
  v_low None e = acc.graph.some_stage
  v_low (Some v) e = acc.pathwise.verify_inside v (verify_looked p.stmts ∙ e)

  -- the stage of the verifies, or stage 0 where there are none, is a trunk stage
  pub v_trunk : (o : Option ℕ) → verify_stage p.stmts ≡ o → Trunk p (v_of o)
  v_trunk None e = acc.graph.trunk_start
  v_trunk (Some v) e = at (stage_at p v).branches refl
    where
      at : (b : List Branch) → (stage_at p v).branches ≡ b → Trunk p v
      at [] i = i
      at (x ∷ c) i = absurd (verify_here p.stmts v e (trunk_none is_verify no_verify (in_stage v p.stmts) (acc.trunk_holds x c v i)))

  no_start : before 0 p.stmts ≡ []
  no_start = before_none p.stmts

  module _ (world : World) (args : List ℕ) where
    so : (s : ℕ) → so_far p world args s ≡ so_far (along (thread (at_once p) world.words args).env (at_once p)) world args s
    so s = sym (StageFacts.same_so p acc world args s) ∙ Turns.so_path (at_once p) acc.pathwise world args s

    whole : thread p world.words args ≡ thread (along (thread (at_once p) world.words args).env (at_once p)) world.words args
    whole = sym (StageFacts.same_thread p acc world args) ∙ Turns.thread_path (at_once p) acc.pathwise world args

    child_here : (s : ℕ) → (stage_work p world args s).child ≡ (stage_work (along (thread (at_once p) world.words args).env (at_once p)) world args s).child
    child_here s =
        ap (λ (w : Work). w.child) (sym (StageFacts.same_stage p acc world args s))
        ∙ ap (λ (w : Work). w.child) (Turns.works_path (at_once p) acc.pathwise world args s)

    fails_here : (s : ℕ) → (stage_work p world args s).fails ≡ (stage_work (along (thread (at_once p) world.words args).env (at_once p)) world args s).fails
    fails_here s =
        ap (λ (w : Work). w.fails) (sym (StageFacts.same_stage p acc world args s))
        ∙ ap (λ (w : Work). w.fails) (Turns.works_path (at_once p) acc.pathwise world args s)

    moved_here : (s : ℕ) (c : Option (List ℕ)) (f : Bool)
        → ((stage_work (along (thread (at_once p) world.words args).env (at_once p)) world args s).child ≡ c)
        × ((stage_work (along (thread (at_once p) world.words args).env (at_once p)) world args s).fails ≡ f)
        → ((stage_work p world args s).child ≡ c) × ((stage_work p world args s).fails ≡ f)
    moved_here s c f h = (child_here s ∙ h.0, fails_here s ∙ h.1)

    child_end : right_guess (so_far p world args (length p.stages)).child (thread p world.words args).next ≡ true
    child_end =
        ap₂ (λ (w : Work) (r : Run). right_guess w.child r.next) (so (length p.stages)) whole
        ∙ ap (λ c. right_guess c (thread (along (thread (at_once p) world.words args).env (at_once p)) world.words args).next)
        (Makes.child_in_end (at_once p) acc.pathwise (thread (at_once p) world.words args).env world args)
        ∙ same_args_refl (thread (along (thread (at_once p) world.words args).env (at_once p)) world.words args).next

    changed_here : (s : ℕ)
        → Changed (stage_work (along (thread (at_once p) world.words args).env (at_once p)) world args s)
        → Changed (stage_work p world args s)
    changed_here s (inl h) = inl (child_here s ∙ h.0, fails_here s ∙ h.1)
    changed_here s (inr h) = inr (h.0, child_here s ∙ h.1, fails_here s ∙ h.2)

    made_changes : (s : ℕ) (x : List ℕ) → (so_far p world args s).child ≡ Some x → Changed (stage_work p world args s)
    made_changes s x e =
        changed_here s
        (Makes.made_changes (at_once p) acc.pathwise (thread (at_once p) world.words args).env world args (alone world) s x
        (ap (λ (w : Work). w.child) (sym (so s)) ∙ e))

    -- along the path: a guess that isn't verified yet
    inside : (s : ℕ)
        → ((v : ℕ) × (verify_stage (looked_all p.stmts) ≡ Some v) × (s ≤ v))
        → (s ≤ v_of (verify_stage p.stmts)) × (verify_stage p.stmts ≡ Some (v_of (verify_stage p.stmts)))
    inside s i =
        let there : verify_stage p.stmts ≡ Some i.0 = sym
        (verify_looked p.stmts) ∙ i.1 in
        (subst (λ o. s ≤ v_of o) (sym there) i.2, there ∙ ap (λ o. Some (v_of o)) (sym there))

    -- a thread that has made one
    module _ (s : ℕ) (x : List ℕ) (e : (so_far p world args s).child ≡ Some x) where
      made_here : (so_far (along (thread (at_once p) world.words args).env (at_once p)) world args s).child ≡ Some x
      made_here = ap (λ (w : Work). w.child) (sym (so s)) ∙ e

      wrong_made : same_args x (thread p world.words args).next ≡ false
          → (s ≤ v_of (verify_stage p.stmts)) × (verify_stage p.stmts ≡ Some (v_of (verify_stage p.stmts)))
      wrong_made h =
          inside s (
          Makes.guess_inside (at_once p) acc.pathwise (thread (at_once p) world.words args).env world args s
          (Makes.wrong_made (at_once p) acc.pathwise (thread (at_once p) world.words args).env world args s x made_here
          (ap (λ (r : Run). same_args x r.next) (sym whole) ∙ h)))

      changes_early : (stage_work p world args s).fails ≡ true → (s ≤ v_of (verify_stage p.stmts)) × (verify_stage p.stmts ≡ Some (v_of (verify_stage p.stmts)))
      changes_early h =
          inside s (Makes.guess_inside (at_once p) acc.pathwise (thread (at_once p) world.words args).env world args s
          (Makes.change_guessed (at_once p) acc.pathwise (thread (at_once p) world.words args).env world args (alone world) s x made_here
          (sym (fails_here s) ∙ h)))

    fetched : (o : Around) (t : Thread) → AllAsks (λ q. FetchOk p acc.fetch t.stage q.var q.mem) (work_of_stage p o t).asks
    fetched o t =
        asks_each (λ x m. FetchOk p acc.fetch t.stage x m) o (in_stage t.stage p.stmts) _
        (fetch_each p acc.fetch t.stage (in_stage t.stage p.stmts) (acc.fetch_ok t.stage)) tt

  roams_step : (o : Around) (t : Thread) → Roams p t → t.awaits ≡ [] → t.stage < v_of (verify_stage p.stmts)
      → (Trunk p t.stage → o.clear ≡ false) → (work_of_stage p o t).ready ≡ true
      → Strayed p (Roams p) (has_made p) t (work_of_stage p o t)
  roams_step o t r done low clear ready = at (verify_stage p.stmts) refl
    where
      below_last : v_of (verify_stage p.stmts) < length p.stages → t.stage < v_of (verify_stage p.stmts) → t.stage < length p.stages
      below_last i j = omega arith

      barred : (b : List Branch) → (stage_at p t.stage).branches ≡ b → Barred o (onpath (work_of_stage p o t).env (in_stage t.stage p.stmts))
      barred [] e = inr (clear e)
      barred (x ∷ c) e =
          inl
          (none_onpath is_barrier (work_of_stage p o t).env (in_stage t.stage p.stmts)
          (trunk_none is_barrier no_barrier (in_stage t.stage p.stmts) (acc.trunk_holds x c t.stage e)))

      at : (v : Option ℕ) → verify_stage p.stmts ≡ v → Strayed p (Roams p) (has_made p) t (work_of_stage p o t)
      at None e = absurd (let i : t.stage < 0 = subst (λ v. t.stage < v_of v) e low in omega arith)
      at (Some v) e =
          let i : t.stage < v = subst (λ o. t.stage < v_of o) e low in
          let h =
          roam_step p acc o t r (below_last (v_low (verify_stage p.stmts) refl) low)
          (ap (λ o. stands_before o t.stage) e ∙ lt-ltb _ _ i)
          (ap (λ o. stands_at o t.stage) e ∙ ne_eqb t.stage v (λ j. absurd (omega arith)))
          (barred (stage_at p t.stage).branches refl) ready in
          record { commits = h.0; goes_on = h.1; once = h.2; born = λ g x k. fresh_roams p acc g x; made_next = h.3 }

  -- a sound pipe has the facts of single threads that the pipeline's proof takes
  pub course : Course p
  course =
      record {
        graph = acc.graph;
        branches = acc.branches;
        rooms = Rooms.rooms p acc;
        plain_from = (acc.pathwise.paths []).plain_from;
        plain_to = (acc.pathwise.paths []).plain_to;
        on = λ world args s. (visits_stage p (thread (at_once p) world.words args).env s ≡ true) × Reached p (thread (at_once p) world.words args).env s;
        on_start = λ world args. (StageFacts.on_start p acc world args, (0, refl));
        on_next =
            λ world args s on low. (
              StageFacts.on_next p acc world args s on.0 low,
              (suc on.1.0, StageFacts.path_next p acc world args s on.0 ∙ ap (λ n. next_of p n (thread (at_once p) world.words args).env) on.1.1),
            );
        start_so = λ world args. ap (λ l. do_all (alone world) l (start_work p args)) no_start;
        start_blocked =
            λ world args. ap (λ l. (scan_after_all l no_scan).blocked)
            (before_path (thread p world.words args).env 0 p.stmts ∙ ap (onpath (thread p world.words args).env) no_start);
        here_alike = λ world args o s clean on low f plain ready r. StageFacts.here_alike p acc world args o s clean on.0 low f plain ready r;
        next_so = λ world args s on low. StageFacts.next_values p acc world args s on.0 low;
        fetch = acc.fetch;
        asks_at =
            λ o t m h. sym
            (found_one (λ n. acc.fetch n ≡ t.stage)
            (work_of_stage p o t).asks m
            (all_more _ (λ q. acc.fetch q.mem ≡ t.stage) (work_of_stage p o t).asks (λ q k. k.here)
            (fetched (record { words = λ n a. 0; hint = no_hint }) [] o t)) h);
        asks_ok =
            λ world args s on low. all_more _ (AskOk p acc.fetch s (next_at p world args s))
            (stage_work p world args s).asks
            (λ q k. record { here = k.here; known = k.known; exact = k.exact; early = k.early (stage_work p world args s).env })
            (fetched world args (alone world) (thread_at p world args s));
        asks_apart = λ world args s on low. apart_asks (alone world) (in_stage s p.stmts) _ (acc.fetch_alone s) tt tt;
        row_after = λ world args m. StageFacts.row_after p acc world args m;
        quiet_at =
            λ o t m h. quiet m o (in_stage t.stage p.stmts) _
            (none_in_stage (is_release m) (commit_stage p m) t.stage p.stmts (sym (all_at_looked m (commit_stage p m) p.stmts) ∙ acc.pathwise.releases m) h);
        marks_start = λ world args m. StageFacts.marks_start p acc world args m;
        marks_step = λ world args s m on low. StageFacts.marks_step p acc world args s m on.0 low;
        marks_seen = λ world args s m a rest h. StageFacts.marks_seen p acc world args s m a rest h;
        marks_plain = λ world args s m h. StageFacts.marks_plain p acc world args s m h;
        marks_late = λ world args s m h. StageFacts.marks_late p acc world args s m h;
        marks_end = λ world args m. StageFacts.marks_end p acc world args m;
        v = v_of (verify_stage p.stmts);
        v_inside = v_low (verify_stage p.stmts) refl;
        trunk_v = v_trunk (verify_stage p.stmts) refl;
        child_next = λ world args s on low. StageFacts.child_next p acc world args s on.0 low;
        child_end = child_end;
        made_changes = λ world args s x on e. made_changes world args s x e;
        changes_early = λ world args s x on e h. changes_early world args s x e h;
        wrong_made = wrong_made;
        stray = Roams p;
        made = has_made p;
        stray_fresh = fresh_roams p acc;
        stray_answered = λ st bits t r. roams_answered p st bits t r;
        stray_step = roams_step;
      }

  -- a stage that a turn comes to is reached on its path
  pub on_reached : (world : World) (args : List ℕ) (s : ℕ) → course.on world args s → Reached p (thread (at_once p) world.words args).env s
  unfolding course
  on_reached world args s on = on.1

  -- and its path comes to it
  pub on_visited : (world : World) (args : List ℕ) (s : ℕ) → course.on world args s → visits_stage p (thread (at_once p) world.words args).env s ≡ true
  unfolding course
  on_visited world args s on = on.0
