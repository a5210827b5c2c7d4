-- A pipe without its updates has the facts of an accepted one, where the pipe with them has.
use Rattle.std.proofs.Common.{◌≡◌, refl, sym, ap, ap₂, ◌∙◌, subst, ℕ, suc, ◌<◌, Bool, true, false, ◌&&◌, ◌||◌, List, [], ◌∷◌, ◌++◌, if◌then◌else◌, Option, Some, None, length}
use Rattle.std.proofs.lemmas.Bool.{and_parts}
use Rattle.pdl_semantics.specs.Flat.{Op, Bind, DelayedRead, Guard, Branch, Stmt, Pipe}
use Rattle.pdl_semantics.specs.Stages.{onpath, in_stage, stage_at, mem_at, is_verify, verify_stage, commit_stage, reserve_stage, is_reserve, is_release}
use Rattle.pdl_semantics.specs.Locks.{has_room}
use Rattle.pdl_semantics.specs.Sound.{stages_from, is_fetch}
use Rattle.pdl_semantics.specs.Promises.{fits_kind}
use Rattle.pdl_semantics.specs.Updates.{is_update, without_updates, not_updated}
use Rattle.pdl_theory_turns.specs.Alone.{before}
use Rattle.pdl_theory_turns.specs.Scans.{none_of, no_guards, op_ok, Scan, scan_after, no_scan, reads_ok, Fresh, phase_all, is_over, is_dead, is_fixed, binds_var}
use Rattle.pdl_theory_turns.specs.GuessScans.{Unmade, makings_ok, making_all, is_made, checks_apart, once, all_sure}
use Rattle.pdl_theory_turns.specs.Graphs.{Graph, Branches, goes_by, next_of}
use Rattle.pdl_theory_turns.specs.Accepted.{Accepted, Pathwise, along}
use Rattle.pdl_theory_turns.specs.Facts.{Sound, FetchOk, FetchIf, AllFetches, DifferIn, is_fetch_of, trunk_only, late_for, is_unseen, fetch_apart, looked_all, at_once, comes_by, visits_stage}
use Rattle.pdl_semantics.proofs.Updates.{both_left}
use Rattle.pdl_theory.proofs.UpdatesLeftOut.{before_left, stage_left, from_left, path_left, looked_left, scanned, all_left, none_left, at_left, fixed_left, late_left, unseen_left, apart_left, scan_idle, phases_left, phase_left, reserves_left, verify_left, makings_left, making_left, checks_left, once_left, sure_left}

-- ONE PATH

same_op : (p : Pipe) (s : ℕ) (c : Scan) (op : Op) → op_ok (not_updated p) s c op ≡ op_ok p s c op
same_op p s c (Bind x e) = refl
same_op p s c _ = refl

reads_left : (p : Pipe) (c : Scan) (xs : List Stmt) → reads_ok p c xs ≡ true → reads_ok (not_updated p) c (without_updates xs) ≡ true
reads_left p c [] h = refl
reads_left p c (x ∷ xs) h =
    let q = and_parts (no_guards x.guards && op_ok p x.stage c x.op) (reads_ok p (scan_after x.op c) xs) h in
    scanned (reads_ok (not_updated p)) (is_update x.op) c (scan_after x.op c) x (without_updates xs)
    (no_guards x.guards && op_ok (not_updated p) x.stage c x.op) refl
    (ap (λ b. no_guards x.guards && b) (same_op p x.stage c x.op) ∙ q.0)
    (reads_left p (scan_after x.op c) xs q.1) (scan_idle x.op c)

-- the statements of one path
accepted_left : (p : Pipe) → Accepted p → Accepted (not_updated p)
accepted_left p acc = record {
  pieces = λ s.
      before_left (suc s) p.stmts ∙ ap without_updates (acc.pieces s) ∙ both_left (before s p.stmts) (in_stage s p.stmts)
      ∙ ap₂ (λ a b. a ++ b) (sym (before_left s p.stmts)) (sym (stage_left s p.stmts));
  ordered = λ s.
      ap without_updates (acc.ordered s) ∙ both_left (before s p.stmts) (stages_from s p.stmts)
      ∙ ap₂ (λ a b. a ++ b) (sym (before_left s p.stmts)) (sym (from_left s p.stmts));
  start_first = before_left 0 p.stmts ∙ ap without_updates acc.start_first;
  whole = before_left (length p.stages) p.stmts ∙ ap without_updates acc.whole;
  some_stage = acc.some_stage;
  locks = λ m. subst (λ n. has_room (mem_at p m).lock n 0 ≡ true) (sym (reserves_left m p.stmts)) (acc.locks m);
  plain = λ m e. none_left (is_release m) p.stmts (acc.plain m e);
  plain_from = acc.plain_from;
  plain_to = acc.plain_to;
  reads = λ s. subst (λ xs. reads_ok (not_updated p) no_scan xs ≡ true) (sym (before_left s p.stmts)) (reads_left p no_scan (before s p.stmts) (acc.reads s));
  phases = λ m. phases_left m Fresh p.stmts (acc.phases m);
  over = λ m. ap is_over (phase_left m Fresh p.stmts) ∙ acc.over m;
  reserves = λ m. at_left (is_reserve m) (reserve_stage p m) p.stmts (acc.reserves m);
  releases = λ m. at_left (is_release m) (commit_stage p m) p.stmts (acc.releases m);
}

-- EACH PATH

abbrev with_stmts : Pipe → List Stmt → Pipe
with_stmts p xs = record p { stmts = xs }

pathwise_left : (p : Pipe) → Pathwise p → Pathwise (not_updated p)
pathwise_left p acc = record {
  some_stage = acc.some_stage;
  fixed_guards = fixed_left p.stmts acc.fixed_guards;
  fixed_by = λ s.
      subst (λ xs. is_fixed xs ≡ true)
      (both_left (before s p.stmts) (in_stage s p.stmts ++ stages_from (suc s) p.stmts)
      ∙ ap₂ (λ a b. a ++ b) (sym (before_left s p.stmts))
      (both_left (in_stage s p.stmts) (stages_from (suc s) p.stmts) ∙ ap₂ (λ a b. a ++ b) (sym (stage_left s p.stmts)) (sym (from_left (suc s) p.stmts))))
      (fixed_left (before s p.stmts ++ (in_stage s p.stmts ++ stages_from (suc s) p.stmts)) (acc.fixed_by s));
  releases = λ m. at_left (is_release m) (commit_stage p m) p.stmts (acc.releases m);
  verify_inside = λ v e. acc.verify_inside v (sym (verify_left p.stmts) ∙ e);
  paths = λ path.
      subst Accepted (sym (ap (with_stmts p) (path_left path p.stmts))) (accepted_left (along path p) (acc.paths path));
  makings = λ path.
      ap₂ (λ v xs. makings_ok v Unmade xs) (verify_left p.stmts) (path_left path p.stmts)
      ∙ makings_left (verify_stage p.stmts) Unmade (onpath path p.stmts) (acc.makings path);
  apart = λ path. ap (checks_apart None) (path_left path p.stmts) ∙ checks_left None (onpath path p.stmts) (acc.apart path);
  updated = λ path. ap (once is_update false) (path_left path p.stmts) ∙ once_left (onpath path p.stmts);
  made = λ path.
      ap (λ xs. is_made (making_all Unmade xs)) (path_left path p.stmts)
      ∙ ap is_made (making_left (verify_stage p.stmts) Unmade (onpath path p.stmts) (acc.makings path)) ∙ acc.made path;
  sure = λ path.
      ap₂ (λ v xs. all_sure v false no_scan xs) (verify_left p.stmts) (path_left path p.stmts)
      ∙ sure_left (verify_stage p.stmts) false no_scan (onpath path p.stmts) (acc.sure path);
}

once_looked : (p : Pipe) → Pathwise (at_once p) → Pathwise (at_once (not_updated p))
once_looked p acc = subst Pathwise (sym (ap (with_stmts p) (looked_left p.stmts))) (pathwise_left (at_once p) acc)

-- THE STAGE GRAPH, in which no statement stands

graph_left : (p : Pipe) → Graph p → Graph (not_updated p)
graph_left p g = record {
  some_stage = g.some_stage;
  trunk_start = g.trunk_start;
  trunk_past = g.trunk_past;
  trunk_reserve = g.trunk_reserve;
  trunk_commit = g.trunk_commit;
  leaves = g.leaves;
  up = g.up;
  inside = g.inside;
  jump = g.jump;
  last = g.last;
  between = g.between;
}

branches_left : (p : Pipe) → Branches p → Branches (not_updated p)
branches_left p b = record { fork = b.fork; way = b.way; side = b.side; entry = b.entry; merge = b.merge }

comes_left : (p : Pipe) (path : List ℕ) (cs : List Branch) → comes_by (not_updated p) path cs ≡ comes_by p path cs
comes_left p path [] = refl
comes_left p path (c ∷ cs) = ap (λ b. goes_by p c path && b) (comes_left p path cs)

-- DELAYED READS

fetch_kept : (p : Pipe) (fetch : ℕ → ℕ) (s x m : ℕ) → FetchOk p fetch s x m → FetchOk (not_updated p) fetch s x m
fetch_kept p fetch s x m h = record { here = h.here; known = h.known; exact = h.exact; early = h.early }

fetch_here : (p : Pipe) (fetch : ℕ → ℕ) (s : ℕ) (gs : List Guard) (op : Op) → FetchIf p fetch s gs op → FetchIf (not_updated p) fetch s gs op
fetch_here p fetch s gs (DelayedRead x m a) h = (h.0, λ live. fetch_kept p fetch s x m (h.1 live))
fetch_here p fetch s gs _ h = h

fetches_left : (p : Pipe) (fetch : ℕ → ℕ) (s : ℕ) (xs : List Stmt)
    → AllFetches p fetch s xs → AllFetches (not_updated p) fetch s (without_updates xs)
fetches_left p fetch s [] h = h
fetches_left p fetch s (x ∷ xs) h = at (is_update x.op) (fetches_left p fetch s xs h.1)
  where
    at : (u : Bool) → AllFetches (not_updated p) fetch s (without_updates xs)
        → AllFetches (not_updated p) fetch s (if u then without_updates xs else x ∷ without_updates xs)
    at true k = k
    at false k = (fetch_here p fetch s x.guards x.op h.0, k)

-- values that differ in nothing that a stage reads delayed without its updates differ in nothing that it does with them
differ_left : (xs : List Stmt) (env env' : List ℕ) → DifferIn (without_updates xs) env env' → DifferIn xs env env'
differ_left xs env env' h x none = h x (none_left (is_fetch_of x) xs none)

-- THE WHOLE

same_kind : (p : Pipe) (op : Op) → fits_kind (not_updated p) op ≡ fits_kind p op
same_kind p (Bind x e) = refl
same_kind p _ = refl

module _ (p : Pipe) (sound : Sound p) where
  guard_late : (z : Stmt) → (is_dead z.guards || late_for z p.stmts) ≡ true → (is_dead z.guards || late_for z (without_updates p.stmts)) ≡ true
  guard_late z = at (is_dead z.guards)
    where
      at : (b : Bool) → (b || late_for z p.stmts) ≡ true → (b || late_for z (without_updates p.stmts)) ≡ true
      at true h = refl
      at false h = late_left z p.stmts h

  -- no statement is passed over
  skipped : (path : List ℕ) (s : ℕ) → s < length p.stages → visits_stage (not_updated p) path s ≡ true
      → before (next_of p s path) (onpath path (without_updates p.stmts)) ≡ before (suc s) (onpath path (without_updates p.stmts))
  skipped path s within visits =
      let xs = onpath path p.stmts in
      ap (before (next_of p s path)) (path_left path p.stmts) ∙ before_left (next_of p s path) xs
      ∙ ap without_updates (sound.skips path s within (sym (comes_left p path (stage_at p s).branches) ∙ visits))
      ∙ sym (before_left (suc s) xs) ∙ sym (ap (before (suc s)) (path_left path p.stmts))

  -- what a stage reads delayed decides no guard
  blind : (s : ℕ) (env env' : List ℕ) → DifferIn (in_stage s (without_updates p.stmts)) env env'
      → onpath env' (before (next_of p s env) (without_updates p.stmts)) ≡ onpath env (before (next_of p s env) (without_updates p.stmts))
  blind s env env' differ =
      let k = next_of p s env in
      let d = differ_left (in_stage s p.stmts) env env' (subst (λ xs. DifferIn xs env env') (stage_left s p.stmts) differ) in
      ap (onpath env') (before_left k p.stmts) ∙ path_left env' (before k p.stmts)
      ∙ ap without_updates (sound.fetch_blind s env env' d)
      ∙ sym (path_left env (before k p.stmts)) ∙ sym (ap (onpath env) (before_left k p.stmts))

  -- without its updates the pipe has the facts that it has with them
  pub sound_left : Sound (not_updated p)
  sound_left = record {
    graph = graph_left p sound.graph;
    branches = branches_left p sound.branches;
    pathwise = once_looked p sound.pathwise;
    trunk_holds = λ x c s home.
        ap (none_of trunk_only) (stage_left s p.stmts) ∙ none_left trunk_only (in_stage s p.stmts) (sound.trunk_holds x c s home);
    merged = sound.merged;
    unmerged = sound.unmerged;
    inside = all_left _ _ p.stmts (λ x h. h) sound.inside;
    reserves = λ m. at_left (is_reserve m) (reserve_stage p m) p.stmts (sound.reserves m);
    verifies = λ v e. at_left is_verify v p.stmts (sound.verifies v (sym (verify_left p.stmts) ∙ e));
    unreserved = λ m past. none_left (is_reserve m) p.stmts (sound.unreserved m past);
    unreleased = sound.unreleased;
    guards_late = all_left _ _ p.stmts guard_late sound.guards_late;
    skips = skipped;
    fork_bound = λ s x a b e.
        ap (none_of (binds_var x)) (from_left (suc s) p.stmts) ∙ none_left (binds_var x) (stages_from (suc s) p.stmts) (sound.fork_bound s x a b e);
    fork_known = sound.fork_known;
    fork_seen = λ path s x a b visits e.
        ap (none_of (is_fetch_of x)) (stage_left s p.stmts)
        ∙ none_left (is_fetch_of x) (in_stage s p.stmts) (sound.fork_seen path s x a b (sym (comes_left p path (stage_at p s).branches) ∙ visits) e);
    fetch = sound.fetch;
    fetch_ok = λ s.
        subst (AllFetches (not_updated p) sound.fetch s) (sym (stage_left s p.stmts)) (fetches_left p sound.fetch s (in_stage s p.stmts) (sound.fetch_ok s));
    fetch_blind = blind;
    fetch_unseen = λ s. ap is_unseen (stage_left s p.stmts) ∙ unseen_left (in_stage s p.stmts) (sound.fetch_unseen s);
    fetch_alone = λ s. ap fetch_apart (stage_left s p.stmts) ∙ apart_left (in_stage s p.stmts) (sound.fetch_alone s);
    advice = all_left _ _ p.stmts (λ x h. same_kind p x.op ∙ h) sound.advice;
    fetch_inside = λ s last.
        ap (none_of is_fetch) (stage_left s p.stmts) ∙ none_left is_fetch (in_stage s p.stmts) (sound.fetch_inside s last);
  }
