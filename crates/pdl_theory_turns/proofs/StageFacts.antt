-- One turn of a pipe of the whole language: stages_from the facts of its path, where delayed reads are reads, to those of its stages, where they ask.
use Rattle.std.proofs.Common.{◌≡◌, refl, sym, ap, ap₂, ◌∙◌, subst, ℕ, suc, ◌≤◌, ◌<◌, Bool, true, false, ◌&&◌, not, List, [], ◌∷◌, length, Some, ◌==◌, nat_lt, nat_le, cond, if◌then◌else◌, arith, slice_index, ltb-true, ltb-false}
use Rattle.std.proofs.lemmas.List.{get_or-set_other}
use Rattle.std.proofs.lemmas.Bool.{eqb-false}
use Rattle.pdl_semantics.specs.Flat.{Op, DelayedRead, Verify, Guard, Stmt, Pipe, Next, Ends, Goes, Forks, all_hold, of_mem}
use Rattle.pdl_semantics.specs.Stages.{onpath, in_stage, stage_at, mem_at, commit_stage, reserve_stage, goes_to}
use Rattle.pdl_semantics.specs.Locks.{Latest}
use Rattle.pdl_semantics.specs.Machine.{Ask, same_args}
use Rattle.pdl_semantics.specs.Sequential.{Run, thread}
use Rattle.pdl_semantics.specs.Promises.{wrote, row}
use Rattle.pdl_theory_turns.specs.Derived.{Work, Around, Thread, work_of_stage, work_after, do_all, latest_in, has_entry, said}
use Rattle.pdl_theory_turns.specs.Alone.{World, alone, before, answered_op, start_work, so_far, thread_at}
use Rattle.pdl_theory_turns.specs.Scans.{is_plain, none_of, binds_var, no_scan, scan_after_all, reads_ok, has_location}
use Rattle.pdl_theory_turns.specs.Graphs.{stage_or, next_of}
use Rattle.pdl_theory_turns.specs.Facts.{is_dead, is_fetch_of, FetchOk, FetchIf, AllFetches, looked_all, at_once, comes_by, visits_stage, Sound}
use Rattle.pdl_theory_turns.specs.Accepted.{along}
use Rattle.pdl_theory_turns.proofs.Writes.{and_left, and_right}
use Rattle.pdl_theory_turns.proofs.Entries.{entries_of}
use Rattle.pdl_theory_turns.proofs.Stages.{or_else, reset, step}
use Rattle.pdl_theory_turns.proofs.Surroundings.{Surrounds, Right, in_stage_all, covers_all}
use Rattle.pdl_theory_turns.proofs.Paths.{Fixed, all_stays, stage_path, dead_none}
use Rattle.pdl_theory_turns.proofs.Marks.{seen, strips, Later, marked}
use Rattle.pdl_theory_turns.proofs.UndoneWrites.{marks, known_count}
use Rattle.pdl_theory_turns.proofs.Nested.{within_all, arrives}
use Rattle.pdl_theory_turns.proofs.TurnFacts.{next_at, blocked_at, stage_work}
use Rattle.pdl_theory_turns.proofs.DelayedReads.{caught, AllAsks, all_more, all_snoc}
use Rattle.pdl_theory_turns.proofs.Looks.{look, answered_now, raw_looked, fixed_raw, before_looked, stage_looked, path_looked, run_looked}
use Rattle.pdl_theory_turns.proofs.StageRequests.{Known, alike_asking, right_caught}
use Rattle.pdl_theory_turns.proofs.TurnPath
use Rattle.pdl_theory_turns.proofs.Turns
use Rattle.pdl_theory_turns.proofs.Turns.{none_from_path}
use Rattle.pdl_semantics.specs.Sound.{stages_from}

-- where answering a delayed read changes nothing for a test, no statement passes it with all answered just where none did before
pub none_looked : (test : Op → Bool)
    → ((op : Op) → test (answered_op op) ≡ test op) → (xs : List Stmt) → none_of test (looked_all xs) ≡ none_of test xs
none_looked test f [] = refl
none_looked test f (x ∷ xs) = ap₂ (λ b c. not b && c) (f x.op) (none_looked test f xs)

-- a statement binds the same variable with a delayed read answered at once
pub binds_looked : (g : ℕ) (op : Op) → binds_var g (answered_op op) ≡ binds_var g op
binds_looked g (DelayedRead x m a) = refl
binds_looked g _ = refl

from_looked : (s : ℕ) (xs : List Stmt) → stages_from s (looked_all xs) ≡ looked_all (stages_from s xs)
from_looked s [] = refl
from_looked s (x ∷ xs) = at (nat_le s x.stage) (from_looked s xs)
  where
    at : (b : Bool) → stages_from s (looked_all xs) ≡ looked_all (stages_from s xs)
        → cond b (look x ∷ stages_from s (looked_all xs)) (stages_from s (looked_all xs)) ≡ looked_all (cond b (x ∷ stages_from s xs) (stages_from s xs))
    at true h = ap (λ l. look x ∷ l) h
    at false h = h

-- requests come stages_from delayed reads
asks_op : (P : Ask → Type 0) (o : Around) (op : Op) (w : Work)
    → ((x m a : ℕ) → op ≡ DelayedRead x m a → P (record { mem = m; var = x; address = slice_index w.env a }))
    → AllAsks P w.asks → AllAsks P (work_after o op w).asks
asks_op P o (DelayedRead x m a) w f h = all_snoc P w.asks _ h (f x m a refl)
asks_op P o (Verify last args) w f h = at (same_args (said o last args w.env) w.guess)
  where
    at : (b : Bool) → AllAsks P (cond b w (record w { child = Some (said o last args w.env); guess = said o last args w.env; fails = true })).asks
    at true = h
    at false = h
asks_op P o _ w f h = h

-- what is carried out stands on some path
pub alive : (gs : List Guard) (env : List ℕ) → all_hold gs env ≡ true → is_dead gs ≡ false
alive gs env t = at (is_dead gs) refl
  where
    at : (b : Bool) → is_dead gs ≡ b → b ≡ false
    at true e = sym t ∙ dead_none gs env e
    at false e = refl

-- something that holds of each delayed read of these statements that stands on some path
abbrev pub EachFetch : (ℕ → ℕ → Type 0) → List Stmt → Type 0
EachFetch P [] = Unit {0}
EachFetch P (y ∷ ys) = (is_dead y.guards ≡ false → (x m a : ℕ) → y.op ≡ DelayedRead x m a → P x m) × EachFetch P ys

-- what holds of the delayed reads of statements, and of the requests so far, holds of all requests after them
pub asks_each : (P : ℕ → ℕ → Type 0) (o : Around) (ys : List Stmt) (w : Work) → EachFetch P ys
    → AllAsks (λ q. P q.var q.mem) w.asks → AllAsks (λ q. P q.var q.mem) (do_all o ys w).asks
asks_each P o [] w f h = h
asks_each P o (y ∷ ys) w f h = asks_each P o ys (step o y w) f.1 (at (all_hold y.guards w.env) refl)
  where
    at : (b : Bool) → all_hold y.guards w.env ≡ b → AllAsks (λ q. P q.var q.mem) (cond b (work_after o y.op w) w).asks
    at true e = asks_op (λ q. P q.var q.mem) o y.op w (f.0 (alive y.guards w.env e)) h
    at false e = h

-- each delayed read on a path, of statements that keep the rules on such reads, keeps them
pub fetch_each : (p : Pipe) (fetch : ℕ → ℕ) (s : ℕ) (ys : List Stmt) → AllFetches p fetch s ys → EachFetch (λ x m. FetchOk p fetch s x m) ys
fetch_each p fetch s [] h = tt
fetch_each p fetch s (y ∷ ys) h = ((λ d x m a e. (subst (λ op. FetchIf p fetch s y.guards op) e h.0).1 d), fetch_each p fetch s ys h.1)

-- where no statement reads x with delay, each delayed read is into another variable
pub not_fetched : (x : ℕ) (ys : List Stmt) → none_of (is_fetch_of x) ys ≡ true → EachFetch (λ y m. not (y == x) ≡ true) ys
not_fetched x [] h = tt
not_fetched x (y ∷ ys) h = (
  (λ d z m a e. ap (λ op. not (is_fetch_of x op)) (sym e) ∙ and_left (not (is_fetch_of x y.op)) _ h),
  not_fetched x ys (and_right (not (is_fetch_of x y.op)) _ h),
)

-- a variable that no answer is for
pub caught_other : (world : World) (x : ℕ) (qs : List Ask) (env : List ℕ)
    → AllAsks (λ q. not (q.var == x) ≡ true) qs → slice_index (caught world.words qs env) x ≡ slice_index env x
caught_other world x [] env h = refl
caught_other world x (q ∷ qs) env h = caught_other world x qs _ h.1 ∙ get_or-set_other env q.var x _ 0 (λ e. clash (ap (λ n. not (n == x)) e ∙ h.0))
  where
    clash : not (x == x) ≡ true → ⊥
    clash k = at (x == x) refl k
      where
        at : (b : Bool) → (x == x) ≡ b → not b ≡ true → ⊥
        at true i j = absurd (cc j)
        at false i j = eqb-false x x i refl

module _ (p : Pipe) (acc : Sound p) (world : World) (args : List ℕ) where
  -- the values with which the turn ends, with delayed reads answered at once, which tell its path
  abbrev pub path : List ℕ
  path = (thread (at_once p) world.words args).env

  -- the sequential thread is the same with delayed reads answered at once
  pub same_thread : thread (at_once p) world.words args ≡ thread p world.words args
  same_thread = run_looked p.stmts _

  -- a turn has done the same before each stage with delayed reads answered at once
  pub same_so : (s : ℕ) → so_far (at_once p) world args s ≡ so_far p world args s
  same_so s = ap (λ l. do_all (alone world) l (start_work p args)) (before_looked s p.stmts)

  -- with delayed reads answered at once a turn's stage does its work with the answers to its requests
  pub same_stage : (s : ℕ) → stage_work (at_once p) world args s ≡ answered_now world (stage_work p world args s)
  same_stage s =
      ap₂ (λ l (w : Work). do_all (alone world) l (reset w)) (stage_looked s p.stmts) (same_so s)
      ∙ raw_looked world (in_stage s p.stmts) (reset (so_far p world args s)) (acc.fetch_unseen s)

  -- THE WAY OF A TURN

  -- a fork's variable has its value of the path
  fork_value : (s x a b : ℕ) → visits_stage p (thread (at_once p) world.words args).env s ≡ true → (stage_at p s).next ≡ Forks x a b
      → slice_index (stage_work p world args s).env x ≡ slice_index (thread (at_once p) world.words args).env x
  fork_value s x a b on e =
      sym
      (caught_other world x (stage_work p world args s).asks (stage_work p world args s).env
      (asks_each (λ y m. not (y == x) ≡ true) (alone world) (in_stage s p.stmts)
      (reset (so_far p world args s)) (not_fetched x (in_stage s p.stmts) (acc.fork_seen (thread (at_once p) world.words args).env s x a b on e)) tt))
      ∙ ap (λ (w : Work). slice_index w.env x) (sym (same_stage s))
      ∙ ap (λ (t : Thread). slice_index t.env x) (sym (Turns.placed_next (at_once p) acc.pathwise world args s))
      ∙ ap (λ (w : Work). slice_index w.env x) (Turns.so_path (at_once p) acc.pathwise world args (suc s))
      ∙ sym
      (all_stays x (alone world) (stages_from (suc s) (onpath path (looked_all p.stmts)))
      (so_far (along (thread (at_once p) world.words args).env (at_once p)) world args (suc s)) rest)
      ∙ ap (λ (w : Work). slice_index w.env x)
      (sym (TurnPath.rest_of (along (thread (at_once p) world.words args).env (at_once p)) (acc.pathwise.paths path) world args (suc s)))
      ∙ ap (λ l. slice_index l x)
      ((TurnPath.related_whole (along (thread (at_once p) world.words args).env (at_once p)) (acc.pathwise.paths path) world args).env
      ∙ ap (λ (r : Run). r.env) (sym (Turns.thread_path (at_once p) acc.pathwise world args)))
    where
      rest : none_of (binds_var x) (stages_from (suc s) (onpath (thread (at_once p) world.words args).env (looked_all p.stmts))) ≡ true
      rest =
          none_from_path (binds_var x) (thread (at_once p) world.words args).env (suc s) (looked_all p.stmts)
          (ap (none_of (binds_var x)) (from_looked (suc s) p.stmts)
          ∙ none_looked (binds_var x) (binds_looked x) (stages_from (suc s) p.stmts) ∙ acc.fork_bound s x a b e)

  -- from each stage that its path comes to a turn goes on to the next stage as its path tells
  pub path_next : (s : ℕ) → visits_stage p (thread (at_once p) world.words args).env s ≡ true
      → next_at p world args s ≡ next_of p s (thread (at_once p) world.words args).env
  path_next s on = ap (stage_or (length p.stages)) (at (stage_at p s).next refl)
    where
      at : (n : Next) → (stage_at p s).next ≡ n
          → goes_to (stage_at p s).next (stage_work p world args s).env ≡ goes_to (stage_at p s).next (thread (at_once p) world.words args).env
      at Ends e = ap (λ n. goes_to n (stage_work p world args s).env) e ∙ sym (ap (λ n. goes_to n (thread (at_once p) world.words args).env) e)
      at (Goes to) e = ap (λ n. goes_to n (stage_work p world args s).env) e ∙ sym (ap (λ n. goes_to n (thread (at_once p) world.words args).env) e)
      at (Forks x a b) e =
          ap (λ n. goes_to n (stage_work p world args s).env) e
          ∙ ap (λ k. Some (if k == 1 then a else b)) (fork_value s x a b on e)
          ∙ sym (ap (λ n. goes_to n (thread (at_once p) world.words args).env) e)

  -- the path of a turn comes to stage 0
  pub on_start : visits_stage p (thread (at_once p) world.words args).env 0 ≡ true
  on_start = ap (comes_by p (thread (at_once p) world.words args).env) acc.graph.trunk_start

  -- from each stage that it comes to, the path of a turn comes to the turn's next stage
  pub on_next : (s : ℕ) → visits_stage p (thread (at_once p) world.words args).env s ≡ true → s < length p.stages
      → visits_stage p (thread (at_once p) world.words args).env (next_at p world args s) ≡ true
  on_next s on low =
      ap (visits_stage p (thread (at_once p) world.words args).env) (path_next s on) ∙ arrives p acc.branches s (thread (at_once p) world.words args).env low on

  -- nothing of its path stands in the stages that it passes over
  path_skips : (s : ℕ) → visits_stage p (thread (at_once p) world.words args).env s ≡ true → s < length p.stages
      → before (next_at p world args s) (onpath (thread (at_once p) world.words args).env p.stmts)
      ≡ before (suc s) (onpath (thread (at_once p) world.words args).env p.stmts)
  path_skips s on low =
      ap (λ n. before n (onpath (thread (at_once p) world.words args).env p.stmts)) (path_next s on)
      ∙ acc.skips (thread (at_once p) world.words args).env s low on

  -- what it did by a stage, along its path
  so_on : (s : ℕ) → so_far p world args s ≡ do_all (alone world) (before s (onpath (thread (at_once p) world.words args).env p.stmts)) (start_work p args)
  so_on s =
      sym (same_so s) ∙ Turns.so_path (at_once p) acc.pathwise world args s
      ∙ ap (λ l. do_all (alone world) l (start_work p args))
      (ap (before s) (path_looked (thread (at_once p) world.words args).env p.stmts)
      ∙ before_looked s (onpath (thread (at_once p) world.words args).env p.stmts))

  -- the stages that a turn passes over add nothing to what it has done
  pub so_next : (s : ℕ) → visits_stage p (thread (at_once p) world.words args).env s ≡ true → s < length p.stages
      → so_far p world args (next_at p world args s) ≡ so_far p world args (suc s)
  so_next s on low = so_on (next_at p world args s) ∙ ap (λ l. do_all (alone world) l (start_work p args)) (path_skips s on low) ∙ sym (so_on (suc s))

  -- what a stage leaves, with the answers to its requests, is what the turn has before its next stage
  pub next_values : (s : ℕ) → visits_stage p (thread (at_once p) world.words args).env s ≡ true → s < length p.stages
      → (caught world.words (stage_work p world args s).asks (stage_work p world args s).env ≡ (so_far p world args (next_at p world args s)).env)
      × ((stage_work p world args s).entries ≡ (so_far p world args (next_at p world args s)).entries)
      × ((stage_work p world args s).guess ≡ (so_far p world args (next_at p world args s)).guess)
  next_values s on low =
      let e : thread_at (at_once p) world args (suc s) ≡ _ = Turns.placed_next (at_once p) acc.pathwise world args s in
      let so : so_far (at_once p) world args (suc s) ≡ so_far p world args (next_at p world args s) = same_so (suc s) ∙ sym (so_next s on low) in (
        ap (λ (w : Work). w.env) (sym (same_stage s)) ∙ ap (λ (t : Thread). t.env) (sym e) ∙ ap (λ (w : Work). w.env) so,
        ap (λ (w : Work). w.entries) (sym (same_stage s)) ∙ ap (λ (t : Thread). t.entries) (sym e) ∙ ap (λ (w : Work). w.entries) so,
        ap (λ (w : Work). w.guess) (sym (same_stage s)) ∙ ap (λ (t : Thread). t.guess) (sym e) ∙ ap (λ (w : Work). w.guess) so,
      )

  -- the successor that a turn has by its next stage is the one that this stage makes, else the one that it had
  pub child_next : (s : ℕ) → visits_stage p (thread (at_once p) world.words args).env s ≡ true → s < length p.stages
      → (so_far p world args (next_at p world args s)).child ≡ or_else (stage_work p world args s).child (so_far p world args s).child
  child_next s on low =
      ap (λ (w : Work). w.child) (so_next s on low ∙ sym (same_so (suc s)))
      ∙ Turns.child_next (at_once p) acc.pathwise world args s
      ∙ ap₂ (λ (v w : Work). or_else v.child w.child) (same_stage s) (same_so s)

  -- THE BLOCKED LOCATIONS

  same_blocked : (s : ℕ) → blocked_at p world args s ≡ (scan_after_all (before s (onpath (thread (at_once p) world.words args).env p.stmts)) no_scan).blocked
  same_blocked s = ap (λ (r : Run). (scan_after_all (before s (onpath r.env p.stmts)) no_scan).blocked) (sym same_thread)

  scan_same : (s : ℕ)
      → scan_after_all (before s (onpath (thread (at_once p) world.words args).env (looked_all p.stmts))) no_scan
      ≡ scan_after_all (before s (onpath (thread (at_once p) world.words args).env p.stmts)) no_scan
  scan_same s =
      ap (λ l. scan_after_all l no_scan)
      (ap (before s) (path_looked (thread (at_once p) world.words args).env p.stmts)
      ∙ before_looked s (onpath (thread (at_once p) world.words args).env p.stmts))

  stage_here : (s : ℕ)
      → in_stage s (onpath (thread (at_once p) world.words args).env (looked_all p.stmts))
      ≡ onpath (thread (at_once p) world.words args).env (looked_all (in_stage s p.stmts))
  stage_here s =
      stage_path (thread (at_once p) world.words args).env s (looked_all p.stmts)
      ∙ ap (onpath (thread (at_once p) world.words args).env) (stage_looked s p.stmts)

  -- in right surroundings a thread that is ready does what its turn does alone, and its blocked locations stay right
  pub here_alike : (o : Around) (s : ℕ) (clean : ℕ → ℕ → Type 0)
      → visits_stage p (thread (at_once p) world.words args).env s ≡ true → s < length p.stages
      → Surrounds p o world s clean → ((m a : ℕ) → is_plain (mem_at p m).lock ≡ true → clean m a)
      → (work_of_stage p o (thread_at p world args s)).ready ≡ true → Right p s clean (blocked_at p world args s) (so_far p world args s).env
      → (work_of_stage p o (thread_at p world args s) ≡ stage_work p world args s)
      × Right p s clean (blocked_at p world args (next_at p world args s)) (so_far p world args (next_at p world args s)).env
      × AllAsks (λ q. clean q.mem q.address) (stage_work p world args s).asks
  here_alike o s clean on low f plain ready r =
      let c0 = scan_after_all (before s (onpath (thread (at_once p) world.words args).env p.stmts)) no_scan in
      let reads : reads_ok p (scan_after_all (before s (onpath (thread (at_once p) world.words args).env p.stmts)) no_scan)
      (onpath (thread (at_once p) world.words args).env (looked_all (in_stage s p.stmts)))
      ≡ true =
      subst (λ l. reads_ok p (scan_after_all (before s (onpath (thread (at_once p) world.words args).env p.stmts)) no_scan) l ≡ true) (stage_here s)
      (subst (λ c. reads_ok p c (in_stage s (onpath (thread (at_once p) world.words args).env (looked_all p.stmts))) ≡ true) (scan_same s)
      (TurnPath.reads_here (along (thread (at_once p) world.words args).env (at_once p))
      (acc.pathwise.paths (thread (at_once p) world.words args).env) world args s)) in
      let covers : (m a : ℕ) → has_entry (so_far p world args s).entries m a ≡ true
      → has_location (scan_after_all (before s (onpath (thread (at_once p) world.words args).env p.stmts)) no_scan).held m a ≡ true =
      subst
      (λ (w : Work). (m a : ℕ) → has_entry w.entries m a ≡ true
      → has_location (scan_after_all (before s (onpath (thread (at_once p) world.words args).env p.stmts)) no_scan).held m a ≡ true)
      (sym (Turns.so_path (at_once p) acc.pathwise world args s) ∙ same_so s)
      (subst
      (λ c. (m a : ℕ)
      → has_entry (so_far (along (thread (at_once p) world.words args).env (at_once p)) world args s).entries m a ≡ true
      → has_location c.held m a ≡ true)
      (scan_same s)
      (covers_all (along (thread (at_once p) world.words args).env (at_once p))
      (alone world) no_scan (before s (onpath (thread (at_once p) world.words args).env (looked_all p.stmts)))
      (start_work p args) ((acc.pathwise.paths (thread (at_once p) world.words args).env).reads s) (λ m a h. h))) in
      let fixed : Fixed (thread (at_once p) world.words args).env (alone world) (in_stage s p.stmts) (reset (so_far p world args s)) =
      fixed_raw (thread (at_once p) world.words args).env world (in_stage s p.stmts) (reset (so_far p world args s)) (acc.fetch_unseen s)
      (subst (λ l. Fixed (thread (at_once p) world.words args).env (alone world) l (reset (so_far p world args s))) (stage_looked s p.stmts)
      (subst (λ (w : Work). Fixed (thread (at_once p) world.words args).env (alone world) (in_stage s (looked_all p.stmts)) (reset w))
      (same_so s) (Turns.fixed_stage (at_once p) acc.pathwise world args s))) in
      let h =
      alike_asking p o world s clean f plain (thread (at_once p) world.words args).env
      (scan_after_all (before s (onpath (thread (at_once p) world.words args).env p.stmts)) no_scan)
      (in_stage s p.stmts) (reset (so_far p world args s))
      (in_stage_all s p.stmts) fixed (acc.fetch_unseen s) reads covers ready
      (subst (λ l. Right p s clean l (so_far p world args s).env) (same_blocked s) r) tt in
      let next : scan_after_all (onpath (thread (at_once p) world.words args).env (looked_all (in_stage s p.stmts)))
      (scan_after_all (before s (onpath (thread (at_once p) world.words args).env p.stmts)) no_scan)
      ≡ scan_after_all (before (suc s) (onpath (thread (at_once p) world.words args).env p.stmts)) no_scan =
      sym (ap₂ (λ l c. scan_after_all l c) (ap (onpath (thread (at_once p) world.words args).env) (stage_looked s p.stmts)) (scan_same s))
      ∙ sym (Turns.blocked_next (at_once p) acc.pathwise world args s) ∙ scan_same (suc s) in
      let known : AllAsks (Known clean (scan_after_all (before (suc s) (onpath (thread (at_once p) world.words args).env p.stmts)) no_scan) [])
      (stage_work p world args s).asks =
      subst (λ c. AllAsks (Known clean c []) (stage_work p world args s).asks) next
      (subst
      (λ (w : Work). AllAsks
      (Known clean
      (scan_after_all (onpath (thread (at_once p) world.words args).env (looked_all (in_stage s p.stmts)))
      (scan_after_all (before s (onpath (thread (at_once p) world.words args).env p.stmts)) no_scan))
      []) w.asks) h.0 h.2) in
      let right : Right p s clean
      (scan_after_all (before (suc s) (onpath (thread (at_once p) world.words args).env p.stmts)) no_scan).blocked
      (stage_work p world args s).env =
      subst (λ c. Right p s clean c.blocked (stage_work p world args s).env) next
      (subst
      (λ (w : Work). Right p s clean
      (scan_after_all (onpath (thread (at_once p) world.words args).env (looked_all (in_stage s p.stmts)))
      (scan_after_all (before s (onpath (thread (at_once p) world.words args).env p.stmts)) no_scan)).blocked w.env) h.0 h.1) in (
        h.0,
        subst (λ l. Right p s clean l (so_far p world args (next_at p world args s)).env)
            (sym (same_blocked (next_at p world args s) ∙ ap (λ l. (scan_after_all l no_scan).blocked) (path_skips s on low)))
            (subst (λ e. Right p s clean (scan_after_all (before (suc s) (onpath (thread (at_once p) world.words args).env p.stmts)) no_scan).blocked e)
            (next_values s on low).0
            (right_caught p o world s clean f plain
            (scan_after_all (before (suc s) (onpath (thread (at_once p) world.words args).env p.stmts)) no_scan).blocked
            (stage_work p world args s).asks (stage_work p world args s).env
            (all_more
            (Known clean (scan_after_all (before (suc s) (onpath (thread (at_once p) world.words args).env p.stmts)) no_scan) []) _
            (stage_work p world args s).asks (λ q k. k.1) known) right)),
        all_more
            (Known clean (scan_after_all (before (suc s) (onpath (thread (at_once p) world.words args).env p.stmts)) no_scan) []) _
            (stage_work p world args s).asks (λ q k. k.0) known,
      )

  -- WRITES

  same_marks : (s m : ℕ) → marks (at_once p) world args s m ≡ marks p world args s m
  same_marks s m =
      ap₂ (λ (w : Work) (r : Run). cond (nat_lt (commit_stage p m) s) [] (marked (known_count (entries_of m w.entries)) (of_mem m r.writes)))
      (same_so s) same_thread

  late_next : (s m : ℕ) → s < length p.stages → nat_lt (commit_stage p m) (next_at p world args s) ≡ nat_lt (commit_stage p m) (suc s)
  late_next s m low = at (nat_lt (commit_stage p m) (suc s)) refl (nat_lt (commit_stage p m) (next_at p world args s)) refl
    where
      up : s < next_at p world args s
      up = acc.graph.up s (stage_work p world args s).env low

      at : (b : Bool) → nat_lt (commit_stage p m) (suc s) ≡ b → (d : Bool) → nat_lt (commit_stage p m) (next_at p world args s) ≡ d → d ≡ b
      at true e true f = refl
      at true e false f =
          absurd
          (let i : commit_stage p m < suc s = ltb-true _ _ e in
          let j : next_at p world args s ≤ commit_stage p m = ltb-false _ _ f in let k = up in omega arith)
      at false e true f =
          absurd
          (jumped
          (acc.graph.jump [] s (stage_work p world args s).env (commit_stage p m) low (within_all p s) (acc.graph.trunk_commit m) (ltb-false _ _ e)
          (below (ltb-true _ _ f)))
          (ltb-true _ _ f))
        where
          below : commit_stage p m < next_at p world args s → commit_stage p m ≤ next_at p world args s
          below k = omega arith

          jumped : commit_stage p m ≡ next_at p world args s → commit_stage p m < next_at p world args s → ⊥
          jumped i j = omega arith
      at false e false f = refl

  marks_next : (s m : ℕ) → visits_stage p (thread (at_once p) world.words args).env s ≡ true → s < length p.stages
      → marks p world args (next_at p world args s) m ≡ marks p world args (suc s) m
  marks_next s m on low =
      ap₂ (λ b (w : Work). cond b [] (marked (known_count (entries_of m w.entries)) (of_mem m (thread p world.words args).writes)))
      (late_next s m low) (so_next s on low)

  -- a stage commits the first of a turn's undone writes of m, and leaves the others with more of their values known
  pub marks_step : (s m : ℕ) → visits_stage p (thread (at_once p) world.words args).env s ≡ true → s < length p.stages
      → Later m (marks p world args s m) (of_mem m (stage_work p world args s).commits) (marks p world args (next_at p world args s) m)
  marks_step s m on low =
      subst (λ k. Later m (marks p world args s m) (of_mem m (stage_work p world args s).commits) k) (same_marks (suc s) m ∙ sym (marks_next s m on low))
      (subst (λ k. Later m k (of_mem m (stage_work p world args s).commits) (marks (at_once p) world args (suc s) m)) (same_marks s m)
      (subst (λ (w : Work). Later m (marks (at_once p) world args s m) (of_mem m w.commits) (marks (at_once p) world args (suc s) m))
      (same_stage s) (Turns.marks_step (at_once p) acc.pathwise world args s m)))

  -- past the reserves of m a turn's pending writes say of an address what its undone writes say
  pub marks_seen : (s m a : ℕ) (rest : Latest) → reserve_stage p m < s
      → latest_in (so_far p world args s).entries m a rest ≡ seen a (marks p world args s m) rest
  marks_seen s m a rest h =
      ap (λ (w : Work). latest_in w.entries m a rest) (sym (same_so s))
      ∙ Turns.marks_seen (at_once p) acc.pathwise world args s m a rest h ∙ ap (λ k. seen a k rest) (same_marks s m)

  -- a turn has no undone writes of a memory without lock
  pub marks_plain : (s m : ℕ) → is_plain (mem_at p m).lock ≡ true → marks p world args s m ≡ []
  marks_plain s m h = sym (same_marks s m) ∙ Turns.marks_plain (at_once p) acc.pathwise world args s m h

  -- past the stage of m's releases a turn has no undone writes of m
  pub marks_late : (s m : ℕ) → commit_stage p m < s → marks p world args s m ≡ []
  marks_late s m h = sym (same_marks s m) ∙ Turns.marks_late (at_once p) acc.pathwise world args s m h

  -- at the end of the pipe a turn has no undone writes
  pub marks_end : (m : ℕ) → marks p world args (length p.stages) m ≡ []
  marks_end m = sym (same_marks (length p.stages) m) ∙ Turns.marks_end (at_once p) acc.pathwise world args m

  -- at its start all writes of a turn are undone
  pub marks_start : (m : ℕ) → strips m (marks p world args 0 m) ≡ of_mem m (thread p world.words args).writes
  marks_start m =
      ap (strips m) (sym (same_marks 0 m)) ∙ Turns.marks_start (at_once p) acc.pathwise world args m ∙ ap (λ (r : Run). of_mem m r.writes) same_thread

  -- after a turn the words of m are those before it with the turn's writes
  pub row_after : (m : ℕ) → row (thread p world.words args).arrays m ≡ wrote (row world.words m) (of_mem m (thread p world.words args).writes)
  row_after m =
      subst (λ (r : Run). row r.arrays m ≡ wrote (row world.words m) (of_mem m r.writes)) same_thread (Turns.row_after (at_once p) acc.pathwise world args m)
