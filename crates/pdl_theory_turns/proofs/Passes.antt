-- A pipe that passes the tests has the facts of an accepted pipe.
use Rattle.std.proofs.Common.{◌≡◌, refl, ap, ap₂, ◌∙◌, subst, ℕ, suc, ◌<◌, ◌≤◌, Bool, true, false, ◌&&◌, ◌||◌, not, List, [], ◌∷◌, ◌++◌, length, unwrap_or, Some, None, nat_lt, nat_le, ◌==◌, arith, ltb-true, ltb-false, leb-true, append-nil, cond, lt-ltb}
use Rattle.std.proofs.lemmas.Bool.{eqb-true, ne_eqb}
use Rattle.pdl_theory_turns.specs.semantics.Flat.{list_all, Stmt, Mem, Pipe}
use Rattle.pdl_theory_turns.specs.semantics.Stages.{onpath, in_stage, mem_at, plain_mem, commit_stage, reserve_stage, is_reserve, is_release, verify_stage}
use Rattle.pdl_theory_turns.specs.semantics.Locks.{has_room}
use Rattle.pdl_theory_turns.specs.semantics.Sound.{all_below, stages_from, is_fetch}
use Rattle.pdl_theory_turns.specs.Alone.{before}
use Rattle.pdl_theory_turns.specs.Scans.{is_plain, none_of, all_at, reads_ok, no_scan, phases_ok, phase_all, Fresh, is_over, write_reserves, is_fixed}
use Rattle.pdl_theory_turns.specs.GuessScans.{Unmade, makings_ok, making_all, is_made, checks_apart, is_update, once, all_sure}
use Rattle.pdl_theory_turns.specs.Checks.{in_text_order, knows_memory, on_paths, guard_vars, mem_passes, path_passes, lock_passes, is_below, locks_pass, text_passes, paths_pass}
use Rattle.pdl_theory_turns.specs.Accepted.{Accepted, Pathwise, along}
use Rattle.pdl_theory_turns.proofs.Writes.{and_left, and_right}
use Rattle.pdl_theory_turns.proofs.Texts.{below_at, past_end, where_true, none_before, pieces, ordered, whole, reads_first, no_fetch, all_at_none, no_reserve, no_release, stays_fresh, on_each_path}

-- what holds of each number below a bound, and after it
by_bound : (n m : ℕ) (R : Type 0) → (m < n → R) → (n ≤ m → R) → R
by_bound n m R f g = at (nat_lt m n) refl
  where
    at : (b : Bool) → nat_lt m n ≡ b → R
    at true e = f (ltb-true _ _ e)
    at false e = g (ltb-false _ _ e)

-- what the tests tell of the locks, the text and the paths
pub record Parts (p : Pipe) : Type 0 where
  pub some : 0 < length p.stages
  pub locks : locks_pass p ≡ true
  pub known : list_all (λ x. knows_memory (length p.mems) x.op) p.stmts ≡ true
  pub unfetched : none_of is_fetch p.stmts ≡ true
  pub below : is_below (length p.stages) (verify_stage p.stmts) ≡ true
  pub paths : (path : List ℕ) → path_passes p (onpath path p.stmts) ≡ true

-- what is tested of a path's reads
reads_of : (p : Pipe) (xs : List Stmt) → path_passes p xs ≡ true → reads_ok p no_scan xs ≡ true
reads_of p xs ok =
    and_left _ _
    (and_right (list_all (λ x. knows_memory (length p.mems) x.op) xs) _
    (and_right (list_all (λ x. nat_lt x.stage (length p.stages)) xs) _ (and_right (in_text_order 0 xs) _ ok)))

each_passes : (p : Pipe)
    → on_paths (guard_vars p.stmts) (path_passes p) p.stmts ≡ true → (path : List ℕ)
    → path_passes p (onpath path p.stmts) ≡ true
each_passes p ok path = on_each_path p no_scan (guard_vars p.stmts) (path_passes p) p.stmts path (reads_of p) ok

module _ (p : Pipe) (h : Parts p) where
  some_stage : 0 < length p.stages
  some_stage = h.some

  locks_ok : locks_pass p ≡ true
  locks_ok = h.locks

  -- LOCKS
  lock_ok : (m : ℕ) → m < length p.mems → lock_passes p m ≡ true
  lock_ok m low =
      below_at (lock_passes p)
      (length p.mems) m (and_right (nat_le (length p.releases_at) (length p.mems)) _ (and_right (nat_le (length p.reserves_at) (length p.mems)) _ locks_ok)) low

  -- a number past those of the memories has its reserves in stage 0
  pub reserve_past : (m : ℕ) → length p.mems ≤ m → reserve_stage p m ≡ 0
  reserve_past m past =
      ap (λ o. unwrap_or o 0)
      (past_end p.reserves_at m None
      (let i : length p.reserves_at ≤ length p.mems = leb-true _ _ (and_left (nat_le (length p.reserves_at) (length p.mems)) _ locks_ok) in omega arith))

  -- a number past those of the memories has its releases past the last stage
  pub commit_past : (m : ℕ) → length p.mems ≤ m → commit_stage p m ≡ length p.stages
  commit_past m past =
      ap (λ o. unwrap_or o (length p.stages)) (past_end p.releases_at m None
      (let i : length p.releases_at ≤ length p.mems = leb-true _ _
      (and_left (nat_le (length p.releases_at) (length p.mems)) _ (and_right (nat_le (length p.reserves_at) (length p.mems)) _ locks_ok)) in
      omega arith))

  lock_rest : (m : ℕ) → m < length p.mems
      → (all_at (is_reserve m) (reserve_stage p m) p.stmts
      && (all_at (is_release m) (commit_stage p m) p.stmts
      && (not (is_plain (mem_at p m).lock) || ((reserve_stage p m == 0) && (commit_stage p m == length p.stages)))))
      ≡ true
  lock_rest m low = lock_ok m low

  plain_at : (m : ℕ) → m < length p.mems → is_plain (mem_at p m).lock ≡ true → ((reserve_stage p m == 0) && (commit_stage p m == length p.stages)) ≡ true
  plain_at m low e =
      where_true (is_plain (mem_at p m).lock) _
      (and_right (all_at (is_release m) (commit_stage p m) p.stmts) _ (and_right (all_at (is_reserve m) (reserve_stage p m) p.stmts) _ (lock_rest m low))) e

  -- a memory without lock has its reserves in stage 0
  pub plain_from : (m : ℕ) → is_plain (mem_at p m).lock ≡ true → reserve_stage p m ≡ 0
  plain_from m e =
      by_bound (length p.mems) m (reserve_stage p m ≡ 0)
      (λ low. eqb-true _ _ (and_left (reserve_stage p m == 0) _ (plain_at m low e)))
      (λ past. reserve_past m past)

  -- a memory without lock has its releases past the last stage
  pub plain_to : (m : ℕ) → is_plain (mem_at p m).lock ≡ true → commit_stage p m ≡ length p.stages
  plain_to m e =
      by_bound (length p.mems) m (commit_stage p m ≡ length p.stages)
      (λ low. eqb-true _ _ (and_right (reserve_stage p m == 0) _ (plain_at m low e)))
      (λ past. commit_past m past)

  -- each statement names only memories that the pipe has
  pub known : list_all (λ x. knows_memory (length p.mems) x.op) p.stmts ≡ true
  known = h.known

  -- no statement of the text is a delayed read
  pub unfetched : none_of is_fetch p.stmts ≡ true
  unfetched = h.unfetched

  -- each reserve of a memory in the text stands in the stage of that memory's reserves
  pub reserves : (m : ℕ) → all_at (is_reserve m) (reserve_stage p m) p.stmts ≡ true
  reserves m =
      by_bound (length p.mems) m (all_at (is_reserve m) (reserve_stage p m) p.stmts ≡ true)
      (λ low. and_left (all_at (is_reserve m) (reserve_stage p m) p.stmts) _ (lock_rest m low))
      (λ past. all_at_none (is_reserve m) _ p.stmts (no_reserve m _ p.stmts known past))

  -- each release of a memory in the text stands in the stage of that memory's releases
  pub releases : (m : ℕ) → all_at (is_release m) (commit_stage p m) p.stmts ≡ true
  releases m =
      by_bound (length p.mems) m (all_at (is_release m) (commit_stage p m) p.stmts ≡ true)
      (λ low. and_left (all_at (is_release m) (commit_stage p m) p.stmts) _ (and_right (all_at (is_reserve m) (reserve_stage p m) p.stmts) _ (lock_rest m low)))
      (λ past. all_at_none (is_release m) _ p.stmts (no_release m _ p.stmts known past))

  -- PATHS
  module _ (path : List ℕ) where
    abbrev xs : List Stmt
    xs = onpath path p.stmts

    ok : path_passes p (onpath path p.stmts) ≡ true
    ok = h.paths path

    path_order : in_text_order 0 (onpath path p.stmts) ≡ true
    path_order = and_left _ _ ok

    after_order :
        (list_all (λ x. nat_lt x.stage (length p.stages)) xs
        && (list_all (λ x. knows_memory (length p.mems) x.op) xs
        && (reads_ok p no_scan xs
        && (all_below (mem_passes p xs) (length p.mems)
        &&
        (makings_ok (verify_stage p.stmts) Unmade xs
        && (is_made (making_all Unmade xs) && (checks_apart None xs && (once is_update false xs && all_sure (verify_stage p.stmts) false no_scan xs))))))))
        ≡ true
    after_order = and_right (in_text_order 0 xs) _ ok

    after_stages :
        (list_all (λ x. knows_memory (length p.mems) x.op) xs
        && (reads_ok p no_scan xs
        && (all_below (mem_passes p xs) (length p.mems)
        &&
        (makings_ok (verify_stage p.stmts) Unmade xs
        && (is_made (making_all Unmade xs) && (checks_apart None xs && (once is_update false xs && all_sure (verify_stage p.stmts) false no_scan xs)))))))
        ≡ true
    after_stages = and_right (list_all (λ x. nat_lt x.stage (length p.stages)) xs) _ after_order

    path_known : list_all (λ x. knows_memory (length p.mems) x.op) (onpath path p.stmts) ≡ true
    path_known = and_left _ _ after_stages

    path_reads : reads_ok p no_scan (onpath path p.stmts) ≡ true
    path_reads = reads_of p (onpath path p.stmts) ok

    after_reads :
        (all_below (mem_passes p xs) (length p.mems)
        &&
        (makings_ok (verify_stage p.stmts) Unmade xs
        && (is_made (making_all Unmade xs) && (checks_apart None xs && (once is_update false xs && all_sure (verify_stage p.stmts) false no_scan xs)))))
        ≡ true
    after_reads = and_right (reads_ok p no_scan xs) _ (and_right (list_all (λ x. knows_memory (length p.mems) x.op) xs) _ after_stages)

    path_unfetched : none_of is_fetch (onpath path p.stmts) ≡ true
    path_unfetched = no_fetch p no_scan (onpath path p.stmts) path_reads

    path_whole : (s : ℕ) → onpath path p.stmts ≡ before s (onpath path p.stmts) ++ stages_from s (onpath path p.stmts)
    path_whole s = ordered s 0 (onpath path p.stmts) path_order path_unfetched

    mem_ok : (m : ℕ) → m < length p.mems → mem_passes p (onpath path p.stmts) m ≡ true
    mem_ok m low = below_at (mem_passes p (onpath path p.stmts)) (length p.mems) m (and_left _ _ after_reads) low

    path_phases : (m : ℕ) → phases_ok m Fresh (onpath path p.stmts) ≡ true
    path_phases m =
        by_bound (length p.mems) m (phases_ok m Fresh (onpath path p.stmts) ≡ true)
        (λ low. and_left _ _ (mem_ok m low))
        (λ past. (stays_fresh p m (length p.mems) no_scan (onpath path p.stmts) path_known path_reads past).0)

    path_over : (m : ℕ) → is_over (phase_all m Fresh (onpath path p.stmts)) ≡ true
    path_over m =
        by_bound (length p.mems) m (is_over (phase_all m Fresh (onpath path p.stmts)) ≡ true)
        (λ low. and_left _ _ (and_right (phases_ok m Fresh xs) _ (mem_ok m low)))
        (λ past. ap is_over (stays_fresh p m (length p.mems) no_scan (onpath path p.stmts) path_known path_reads past).1)

    -- a memory's tests after the phases
    after_over : (m : ℕ)
        → m < length p.mems
        →
        (has_room (mem_at p m).lock (write_reserves m xs) 0
        &&
        (all_at (is_reserve m) (reserve_stage p m) xs
        && (all_at (is_release m) (commit_stage p m) xs && (not (is_plain (mem_at p m).lock) || none_of (is_release m) xs)))) ≡ true
    after_over m low = and_right (is_over (phase_all m Fresh xs)) _ (and_right (phases_ok m Fresh xs) _ (mem_ok m low))

    path_locks : (m : ℕ) → has_room (mem_at p m).lock (write_reserves m (onpath path p.stmts)) 0 ≡ true
    path_locks m =
        by_bound (length p.mems) m (has_room (mem_at p m).lock (write_reserves m (onpath path p.stmts)) 0 ≡ true)
        (λ low. and_left (has_room (mem_at p m).lock (write_reserves m xs) 0) _ (after_over m low))
        (λ past. ap (λ (x : Mem). has_room x.lock (write_reserves m (onpath path p.stmts)) 0) (past_end p.mems m plain_mem past))

    mem_rest : (m : ℕ) → m < length p.mems
        → (all_at (is_reserve m) (reserve_stage p m) xs
        && (all_at (is_release m) (commit_stage p m) xs && (not (is_plain (mem_at p m).lock) || none_of (is_release m) xs)))
        ≡ true
    mem_rest m low = and_right (has_room (mem_at p m).lock (write_reserves m xs) 0) _ (after_over m low)

    path_reserves : (m : ℕ) → all_at (is_reserve m) (reserve_stage p m) (onpath path p.stmts) ≡ true
    path_reserves m =
        by_bound (length p.mems) m (all_at (is_reserve m) (reserve_stage p m) (onpath path p.stmts) ≡ true)
        (λ low. and_left _ _ (mem_rest m low))
        (λ past. all_at_none (is_reserve m) _ (onpath path p.stmts) (no_reserve m _ (onpath path p.stmts) path_known past))

    path_releases : (m : ℕ) → all_at (is_release m) (commit_stage p m) (onpath path p.stmts) ≡ true
    path_releases m =
        by_bound (length p.mems) m (all_at (is_release m) (commit_stage p m) (onpath path p.stmts) ≡ true)
        (λ low. and_left _ _ (and_right (all_at (is_reserve m) (reserve_stage p m) xs) _ (mem_rest m low)))
        (λ past. all_at_none (is_release m) _ (onpath path p.stmts) (no_release m _ (onpath path p.stmts) path_known past))

    path_plain : (m : ℕ) → is_plain (mem_at p m).lock ≡ true → none_of (is_release m) (onpath path p.stmts) ≡ true
    path_plain m e =
        by_bound (length p.mems) m (none_of (is_release m) (onpath path p.stmts) ≡ true)
        (λ low. where_true (is_plain (mem_at p m).lock) _
        (and_right (all_at (is_release m) (commit_stage p m) xs) _ (and_right (all_at (is_reserve m) (reserve_stage p m) xs) _ (mem_rest m low))) e)
        (λ past. no_release m _ (onpath path p.stmts) path_known past)

    after_mems : (makings_ok (verify_stage p.stmts) Unmade xs && (is_made (making_all Unmade xs)
        && (checks_apart None xs && (once is_update false xs && all_sure (verify_stage p.stmts) false no_scan xs)))) ≡ true
    after_mems = and_right (all_below (mem_passes p xs) (length p.mems)) _ after_reads

    -- a path makes the next thread in order: by one call, or by one guess and its verify
    pub path_makings : makings_ok (verify_stage p.stmts) Unmade (onpath path p.stmts) ≡ true
    path_makings = and_left _ _ after_mems

    -- at the end of a path the next thread is made for certain
    pub path_made : is_made (making_all Unmade (onpath path p.stmts)) ≡ true
    path_made = and_left _ _ (and_right (makings_ok (verify_stage p.stmts) Unmade xs) _ after_mems)

    after_apart : (once is_update false xs && all_sure (verify_stage p.stmts) false no_scan xs) ≡ true
    after_apart =
        and_right (checks_apart None xs) _ (and_right (is_made (making_all Unmade xs)) _ (and_right (makings_ok (verify_stage p.stmts) Unmade xs) _ after_mems))

    -- each release on a path is certain: after a barrier, in V or later, or of what was not reserved for writing
    pub path_sure : all_sure (verify_stage p.stmts) false no_scan (onpath path p.stmts) ≡ true
    path_sure = and_right (once is_update false xs) _ after_apart

    -- a path has one update at most
    pub path_updated : once is_update false (onpath path p.stmts) ≡ true
    path_updated = and_left _ _ after_apart

    -- a check on a path stands in another stage than the guess
    pub path_apart : checks_apart None (onpath path p.stmts) ≡ true
    path_apart = and_left _ _ (and_right (is_made (making_all Unmade xs)) _ (and_right (makings_ok (verify_stage p.stmts) Unmade xs) _ after_mems))

    -- the statements of a path, as a pipe of their own, have the facts of an accepted pipe
    pub accepted : Accepted (along path p)
    accepted =
        record {
          pieces = λ s. pieces s 0 (onpath path p.stmts) path_order path_unfetched;
          ordered = path_whole;
          start_first = none_before 0 0 (onpath path p.stmts) path_order (omega arith);
          whole = whole (length p.stages) (onpath path p.stmts) (and_left _ _ after_order) path_unfetched;
          some_stage = some_stage;
          locks = path_locks;
          plain = path_plain;
          plain_from = plain_from;
          plain_to = plain_to;
          reads =
              λ s. reads_first p no_scan (before s (onpath path p.stmts)) (stages_from s (onpath path p.stmts))
              (subst (λ ys. reads_ok p no_scan ys ≡ true) (path_whole s) path_reads);
          phases = path_phases;
          over = path_over;
          reserves = path_reserves;
          releases = path_releases;
        }

  -- the stage of the verifies is one of the pipe's stages
  pub verify_low : (v : ℕ) → verify_stage p.stmts ≡ Some v → v < length p.stages
  verify_low v e = ltb-true _ _ (subst (λ o. is_below (length p.stages) o ≡ true) e h.below)

  -- a pipe that passes its tests has the facts of its text and of each of its paths, where its statements don't bind guards again
  pub pathwise : is_fixed p.stmts ≡ true → ((s : ℕ) → is_fixed (before s p.stmts ++ (in_stage s p.stmts ++ stages_from (suc s) p.stmts)) ≡ true) → Pathwise p
  pathwise guards by =
      record {
        some_stage = some_stage;
        fixed_guards = guards;
        fixed_by = by;
        releases = releases;
        verify_inside = verify_low;
        paths = accepted;
        makings = path_makings;
        apart = path_apart;
        updated = path_updated;
        made = path_made;
        sure = path_sure;
      }

module _ (p : Pipe) (h : paths_pass p ≡ true) where
  after_locks : (text_passes p && on_paths (guard_vars p.stmts) (path_passes p) p.stmts) ≡ true
  after_locks = and_right (locks_pass p) _ (and_right (nat_lt 0 (length p.stages)) _ h)

  text_ok : text_passes p ≡ true
  text_ok = and_left (text_passes p) _ after_locks

  after_known :
      (none_of is_fetch p.stmts
      && (is_below (length p.stages) (verify_stage p.stmts)
      && (is_fixed p.stmts
      && (list_all (λ x. nat_lt x.stage (length p.stages)) p.stmts
      && all_below (λ s. is_fixed (before s p.stmts ++ (in_stage s p.stmts ++ stages_from (suc s) p.stmts))) (length p.stages)))))
      ≡ true
  after_known = and_right (list_all (λ x. knows_memory (length p.mems) x.op) p.stmts) _ text_ok

  after_fetch :
      (is_below (length p.stages) (verify_stage p.stmts)
      && (is_fixed p.stmts
      && (list_all (λ x. nat_lt x.stage (length p.stages)) p.stmts
      && all_below (λ s. is_fixed (before s p.stmts ++ (in_stage s p.stmts ++ stages_from (suc s) p.stmts))) (length p.stages))))
      ≡ true
  after_fetch = and_right (none_of is_fetch p.stmts) _ after_known

  after_below :
      (is_fixed p.stmts
      && (list_all (λ x. nat_lt x.stage (length p.stages)) p.stmts
      && all_below (λ s. is_fixed (before s p.stmts ++ (in_stage s p.stmts ++ stages_from (suc s) p.stmts))) (length p.stages)))
      ≡ true
  after_below = and_right (is_below (length p.stages) (verify_stage p.stmts)) _ after_fetch

  after_fixed :
      (list_all (λ x. nat_lt x.stage (length p.stages)) p.stmts
      && all_below (λ s. is_fixed (before s p.stmts ++ (in_stage s p.stmts ++ stages_from (suc s) p.stmts))) (length p.stages))
      ≡ true
  after_fixed = and_right (is_fixed p.stmts) _ after_below

  -- a pipe that passes the tests of all paths passes those of its locks, of its text and of each path
  pub parts_paths : Parts p
  parts_paths =
      record {
        some = ltb-true _ _ (and_left (nat_lt 0 (length p.stages)) _ h);
        locks = and_left (locks_pass p) _ (and_right (nat_lt 0 (length p.stages)) _ h);
        known = and_left (list_all (λ x. knows_memory (length p.mems) x.op) p.stmts) _ text_ok;
        unfetched = and_left (none_of is_fetch p.stmts) _ after_known;
        below = and_left (is_below (length p.stages) (verify_stage p.stmts)) _ after_fetch;
        paths = each_passes p (and_right (text_passes p) _ after_locks);
      }

  -- past the last stage there is nothing more
  none_left : (s : ℕ) (xs : List Stmt) → length p.stages ≤ s
      → list_all (λ x. nat_lt x.stage (length p.stages)) xs ≡ true
      → (in_stage s xs ≡ []) × (stages_from (suc s) xs ≡ [])
  none_left s [] low k = (refl, refl)
  none_left s (x ∷ xs) low k =
      let i : x.stage < length p.stages = ltb-true _ _ (and_left (nat_lt x.stage (length p.stages)) _ k) in
      let r = none_left s xs low (and_right (nat_lt x.stage (length p.stages)) _ k) in (
        ap (λ b. cond b (x ∷ in_stage s xs) (in_stage s xs)) (ne_eqb x.stage s (λ e. absurd (omega arith))) ∙ r.0,
        ap (λ b. cond b (x ∷ stages_from (suc s) xs) (stages_from (suc s) xs)) (late (nat_le (suc s) x.stage) refl i) ∙ r.1,
      )
    where
      late : (b : Bool) → nat_le (suc s) x.stage ≡ b → x.stage < length p.stages → nat_le (suc s) x.stage ≡ false
      late true e i = absurd (let j : suc s ≤ x.stage = leb-true _ _ e in omega arith)
      late false e i = e

  whole_before : (s : ℕ) (xs : List Stmt) → length p.stages ≤ s
      → list_all (λ x. nat_lt x.stage (length p.stages)) xs ≡ true → none_of is_fetch xs ≡ true → before s xs ≡ xs
  whole_before s xs low k f = whole s xs (longer xs k) f
    where
      longer : (ys : List Stmt) → list_all (λ x. nat_lt x.stage (length p.stages)) ys ≡ true → list_all (λ x. nat_lt x.stage s) ys ≡ true
      longer [] i = refl
      longer (y ∷ ys) i =
          ap₂ (λ a b. a && b)
          (lt-ltb y.stage s (let j : y.stage < length p.stages = ltb-true _ _ (and_left (nat_lt y.stage (length p.stages)) _ i) in omega arith))
          (longer ys (and_right (nat_lt y.stage (length p.stages)) _ i))

  fixed_each : (s : ℕ) → is_fixed (before s p.stmts ++ (in_stage s p.stmts ++ stages_from (suc s) p.stmts)) ≡ true
  fixed_each s =
      by_bound (length p.stages) s _
      (λ low. below_at (λ s. is_fixed (before s p.stmts ++ (in_stage s p.stmts ++ stages_from (suc s) p.stmts)))
      (length p.stages) s (and_right (list_all (λ x. nat_lt x.stage (length p.stages)) p.stmts) _ after_fixed) low)
      (λ past.
      let n = none_left s p.stmts past (and_left (list_all (λ x. nat_lt x.stage (length p.stages)) p.stmts) _ after_fixed) in
      ap₂ (λ k l. is_fixed (k ++ l))
      (whole_before s p.stmts past (and_left (list_all (λ x. nat_lt x.stage (length p.stages)) p.stmts) _ after_fixed)
      (and_left (none_of is_fetch p.stmts) _ after_known))
      (ap₂ (λ k l. k ++ l) n.0 n.1)
      ∙ ap is_fixed (append-nil p.stmts) ∙ and_left (is_fixed p.stmts) _ after_below)

  -- a pipe that passes the tests of all paths has the facts of its text and of each of its paths
  pub pathwise_paths : Pathwise p
  pathwise_paths = pathwise p parts_paths (and_left (is_fixed p.stmts) _ after_below) fixed_each
