-- One turn of a pipe with guards, by its path: the facts that the pipeline's proof takes of it.
use Rattle.std.proofs.Common.{◌≡◌, ◌≢◌, refl, sym, ap, ap₂, ◌∙◌, subst, ℕ, suc, ◌<◌, ◌≤◌, Bool, true, false, ◌&&◌, not, List, [], ◌∷◌, ◌++◌, length, ◌==◌, nat_lt, nat_le, cond, arith, slice_index, leb-true, leb-false}
use Rattle.pdl_semantics.specs.Flat.{Op, Stmt, Pipe, all_hold, of_mem}
use Rattle.pdl_semantics.specs.Stages.{onpath, in_stage, mem_at, commit_stage, reserve_stage}
use Rattle.pdl_semantics.specs.Locks.{Latest}
use Rattle.pdl_semantics.specs.Sequential.{Run, thread}
use Rattle.pdl_semantics.specs.Promises.{wrote, row}
use Rattle.pdl_theory_turns.specs.Derived.{Work, work_of_stage, do_all, latest_in}
use Rattle.pdl_theory_turns.specs.Alone.{World, alone, before, start_work, so_far, thread_at}
use Rattle.pdl_theory_turns.proofs.Entries.{entries_of}
use Rattle.pdl_theory_turns.proofs.Stages.{or_else, next_piece, joined, reset}
use Rattle.pdl_theory_turns.specs.Scans.{is_plain, none_of, binds_var, no_scan, scan_after_all}
use Rattle.pdl_theory_turns.specs.Accepted.{Accepted, along, Pathwise}
use Rattle.pdl_theory_turns.proofs.Paths.{Fixed, run_path, fixed_path_to, fixed_all, all_stays, before_path, stage_path}
use Rattle.pdl_theory_turns.proofs.Writes.{and_left, and_right}
use Rattle.std.proofs.lemmas.Bool.{eqb-true, eqb-false}
use Rattle.pdl_theory_turns.proofs.Marks.{seen, strips, Later, marked}
use Rattle.pdl_theory_turns.proofs.UndoneWrites.{marks, known_count}
use Rattle.pdl_theory_turns.proofs.UndoneWrites
use Rattle.pdl_theory_turns.proofs.TurnPath
use Rattle.pdl_theory_turns.proofs.OwnEntries.{fixed_second}
use Rattle.pdl_semantics.specs.Sound.{stages_from}

-- what holds of a stage and of those after it holds of all stages_from it on
pub none_parts : (test : Op → Bool) (s : ℕ) (xs : List Stmt)
    → none_of test (in_stage s xs ++ stages_from (suc s) xs) ≡ true → none_of test (stages_from s xs) ≡ true
none_parts test s xs h = both xs (none_first test (in_stage s xs) (stages_from (suc s) xs) h) (none_second test (in_stage s xs) (stages_from (suc s) xs) h)
  where
    none_first : (test : Op → Bool) (us vs : List Stmt) → none_of test (us ++ vs) ≡ true → none_of test us ≡ true
    none_first test [] vs k = refl
    none_first test (u ∷ us) vs k = ap₂ (λ a b. a && b) (and_left (not (test u.op)) _ k) (none_first test us vs (and_right _ _ k))

    none_second : (test : Op → Bool) (us vs : List Stmt) → none_of test (us ++ vs) ≡ true → none_of test vs ≡ true
    none_second test [] vs k = k
    none_second test (u ∷ us) vs k = none_second test us vs (and_right _ _ k)

    both : (ys : List Stmt) → none_of test (in_stage s ys) ≡ true → none_of test (stages_from (suc s) ys) ≡ true → none_of test (stages_from s ys) ≡ true
    both [] h k = refl
    both (y ∷ ys) h k = at (y.stage == s) refl (nat_le (suc s) y.stage) refl (nat_le s y.stage) refl h k (both ys)
      where
        at : (b : Bool) → (y.stage == s) ≡ b → (c : Bool) → nat_le (suc s) y.stage ≡ c → (d : Bool) → nat_le s y.stage ≡ d
            → none_of test (cond b (y ∷ in_stage s ys) (in_stage s ys)) ≡ true
            → none_of test (cond c (y ∷ stages_from (suc s) ys) (stages_from (suc s) ys)) ≡ true
            → (none_of test (in_stage s ys) ≡ true → none_of test (stages_from (suc s) ys) ≡ true → none_of test (stages_from s ys) ≡ true)
            → none_of test (cond d (y ∷ stages_from s ys) (stages_from s ys)) ≡ true
        at true e true f d g i j go = absurd (let x : y.stage ≡ s = eqb-true _ _ e in let z : suc s ≤ y.stage = leb-true _ _ f in omega arith)
        at true e false f true g i j go = ap₂ (λ a b. a && b) (and_left (not (test y.op)) _ i) (go (and_right (not (test y.op)) _ i) j)
        at true e false f false g i j go = absurd (let x : y.stage ≡ s = eqb-true _ _ e in let z : y.stage < s = leb-false _ _ g in omega arith)
        at false e true f true g i j go = ap₂ (λ a b. a && b) (and_left (not (test y.op)) _ j) (go i (and_right (not (test y.op)) _ j))
        at false e true f false g i j go = absurd (let x : suc s ≤ y.stage = leb-true _ _ f in let z : y.stage < s = leb-false _ _ g in omega arith)
        at false e false f true g i j go = absurd (apart (eqb-false _ _ e) (leb-false _ _ f) (leb-true _ _ g))
          where
            apart : y.stage ≢ s → y.stage < suc s → s ≤ y.stage → ⊥
            apart u v w = u (omega arith)
        at false e false f false g i j go = go i j

-- what no statement of stage s and later ones is, none on a path is
pub none_from_path : (test : Op → Bool) (path : List ℕ) (s : ℕ) (xs : List Stmt)
    → none_of test (stages_from s xs) ≡ true → none_of test (stages_from s (onpath path xs)) ≡ true
none_from_path test path s [] h = refl
none_from_path test path s (x ∷ xs) h = at (nat_le s x.stage) refl (all_hold x.guards path) h (none_from_path test path s xs)
  where
    at : (b : Bool) → nat_le s x.stage ≡ b → (c : Bool)
        → none_of test (cond b (x ∷ stages_from s xs) (stages_from s xs)) ≡ true
        → (none_of test (stages_from s xs) ≡ true → none_of test (stages_from s (onpath path xs)) ≡ true)
        → none_of test (stages_from s (cond c (record x { guards = [] } ∷ onpath path xs) (onpath path xs))) ≡ true
    at true e true k f =
        ap (λ b. none_of test (cond b (record x { guards = [] } ∷ stages_from s (onpath path xs)) (stages_from s (onpath path xs)))) e
        ∙ ap₂ (λ a d. a && d) (and_left (not (test x.op)) _ k) (f (and_right (not (test x.op)) _ k))
    at false e true k f = ap (λ b. none_of test (cond b (record x { guards = [] } ∷ stages_from s (onpath path xs)) (stages_from s (onpath path xs)))) e ∙ f k
    at true e false k f = f (and_right (not (test x.op)) _ k)
    at false e false k f = f k

module _ (p : Pipe) (acc : Pathwise p) (world : World) (args : List ℕ) where
  -- the values with which the turn ends, which tell its path
  abbrev pub path : List ℕ
  path = (thread p world.words args).env

  -- the statements of the turn's path have the facts of an accepted pipe
  pub accq : Accepted (along (thread p world.words args).env p)
  accq = acc.paths (thread p world.words args).env

  -- the sequential thread is the same on the statements of its path alone
  pub thread_path : thread p world.words args ≡ thread (along (thread p world.words args).env p) world.words args
  thread_path = run_path (thread p world.words args).env p.stmts (TurnPath.start_run p world.words args) acc.fixed_guards refl

  -- a variable that is bound no more has its value of the path
  pub value_kept : (s g : ℕ) → none_of (binds_var g) (stages_from s p.stmts) ≡ true
      → slice_index (so_far (along (thread p world.words args).env p) world args s).env g ≡ slice_index (thread p world.words args).env g
  value_kept s g h =
      sym
      (all_stays g (alone world) (stages_from s (onpath (thread p world.words args).env p.stmts))
      (so_far (along (thread p world.words args).env p) world args s)
      (none_from_path (binds_var g) (thread p world.words args).env s p.stmts h))
      ∙ ap (λ (w : Work). slice_index w.env g) (sym (TurnPath.rest_of (along (thread p world.words args).env p) accq world args s))
      ∙ ap (λ l. slice_index l g)
      ((TurnPath.related_whole (along (thread p world.words args).env p) accq world args).env ∙ ap (λ (r : Run). r.env) (sym thread_path))

  -- the guards of the statements before a stage hold, when they are met, just where they hold on the turn's path
  pub fixed_before : (s : ℕ) → Fixed (thread p world.words args).env (alone world) (before s p.stmts) (start_work p args)
  fixed_before s =
      fixed_path_to (thread p world.words args).env (alone world) (before s p.stmts)
      (in_stage s p.stmts ++ stages_from (suc s) p.stmts) (start_work p args) (acc.fixed_by s)
      (λ g k. ap (λ l. slice_index (do_all (alone world) l (start_work p args)).env g) (sym (before_path (thread p world.words args).env s p.stmts))
      ∙ value_kept s g (none_parts (binds_var g) s p.stmts k))

  -- a turn has done the same before each stage on the statements of its path alone
  pub so_path : (s : ℕ) → so_far p world args s ≡ so_far (along (thread p world.words args).env p) world args s
  so_path s =
      fixed_all (thread p world.words args).env (alone world) (before s p.stmts) (start_work p args) (fixed_before s)
      ∙ ap (λ l. do_all (alone world) l (start_work p args)) (sym (before_path (thread p world.words args).env s p.stmts))

  -- the guards of a stage's statements hold, when they are met, just where they hold on the turn's path
  pub fixed_stage : (s : ℕ) → Fixed (thread p world.words args).env (alone world) (in_stage s p.stmts) (reset (so_far p world args s))
  fixed_stage s =
      fixed_path_to (thread p world.words args).env (alone world) (in_stage s p.stmts) (stages_from (suc s) p.stmts)
      (reset (so_far p world args s))
      (fixed_second (before s p.stmts) (in_stage s p.stmts ++ stages_from (suc s) p.stmts) (acc.fixed_by s))
      (λ g k. (λ i. slice_index (do_all (alone world) (sym (stage_path (thread p world.words args).env s p.stmts) i) (reset (so_path s i))).env g)
      ∙ ap (λ (w : Work). slice_index w.env g) (sym (next_piece (along (thread p world.words args).env p) world args s (accq.pieces s)))
      ∙ value_kept (suc s) g k)

  -- a stage does the same work on the statements of the turn's path alone
  pub works_path : (s : ℕ)
      → work_of_stage p (alone world) (thread_at p world args s)
      ≡ work_of_stage (along (thread p world.words args).env p) (alone world) (thread_at (along (thread p world.words args).env p) world args s)
  works_path s =
      fixed_all (thread p world.words args).env (alone world) (in_stage s p.stmts) (reset (so_far p world args s)) (fixed_stage s)
      ∙ ap₂ (λ l (w : Work). do_all (alone world) l (reset w)) (sym (stage_path (thread p world.words args).env s p.stmts)) (so_path s)

  marks_path : (s m : ℕ) → marks p world args s m ≡ marks (along (thread p world.words args).env p) world args s m
  marks_path s m =
      ap₂ (λ (w : Work) (r : Run). cond (nat_lt (commit_stage p m) s) [] (marked (known_count (entries_of m w.entries)) (of_mem m r.writes)))
      (so_path s) thread_path

  -- past the reserves of m the turn's pending writes say of an address what its undone writes say
  pub marks_seen : (s m a : ℕ) (rest : Latest) → reserve_stage p m < s
      → latest_in (so_far p world args s).entries m a rest ≡ seen a (marks p world args s m) rest
  marks_seen s m a rest h =
      ap (λ (w : Work). latest_in w.entries m a rest) (so_path s)
      ∙ UndoneWrites.marks_seen _ accq world args s m a rest h ∙ ap (λ l. seen a l rest) (sym (marks_path s m))

  -- a stage commits the first of the turn's undone writes of m, and leaves the others with more of their values known
  pub marks_step : (s m : ℕ)
      → Later m (marks p world args s m) (of_mem m (work_of_stage p (alone world) (thread_at p world args s)).commits) (marks p world args (suc s) m)
  marks_step s m =
      subst (λ k. Later m k (of_mem m (work_of_stage p (alone world) (thread_at p world args s)).commits) (marks p world args (suc s) m))
      (sym (marks_path s m))
      (subst (λ (w : Work). Later m (marks (along (thread p world.words args).env p) world args s m) (of_mem m w.commits) (marks p world args (suc s) m))
      (sym (works_path s))
      (subst
      (λ k. Later m (marks (along (thread p world.words args).env p) world args s m)
      (of_mem m
      (work_of_stage (along (thread p world.words args).env p) (alone world) (thread_at (along (thread p world.words args).env p) world args s)).commits) k)
      (sym (marks_path (suc s) m))
      (UndoneWrites.marks_step (along (thread p world.words args).env p) accq world args s m)))

  -- a turn has no undone writes of a memory without lock
  pub marks_plain : (s m : ℕ) → is_plain (mem_at p m).lock ≡ true → marks p world args s m ≡ []
  marks_plain s m h = marks_path s m ∙ UndoneWrites.marks_plain _ accq world args s m h

  -- past the stage of m's releases a turn has no undone writes of m
  pub marks_late : (s m : ℕ) → commit_stage p m < s → marks p world args s m ≡ []
  marks_late s m h = marks_path s m ∙ UndoneWrites.marks_late _ accq world args s m h

  -- at the end of the pipe a turn has no undone writes
  pub marks_end : (m : ℕ) → marks p world args (length p.stages) m ≡ []
  marks_end m = marks_path (length p.stages) m ∙ UndoneWrites.marks_end _ accq world args m

  -- at the start all of its writes are undone
  pub marks_start : (m : ℕ) → strips m (marks p world args 0 m) ≡ of_mem m (thread p world.words args).writes
  marks_start m =
      ap (strips m) (marks_path 0 m) ∙ UndoneWrites.marks_strips _ accq world args 0 m ∙ TurnPath.undone_start _ accq world args m
      ∙ ap (λ (r : Run). of_mem m r.writes) (sym thread_path)

  -- after the turn the words of m are those before it with the turn's writes
  pub row_after : (m : ℕ) → row (thread p world.words args).arrays m ≡ wrote (row world.words m) (of_mem m (thread p world.words args).writes)
  row_after m =
      ap (λ (r : Run). row r.arrays m) thread_path ∙ TurnPath.row_after _ accq world args m
      ∙ ap (λ (r : Run). wrote (row world.words m) (of_mem m r.writes)) (sym thread_path)

  -- what is done by the following stage is what was done before this one, with this stage's work
  pub piece : (s : ℕ) → so_far p world args (suc s) ≡ joined (so_far p world args s) (work_of_stage p (alone world) (thread_at p world args s))
  piece s =
      so_path (suc s) ∙ next_piece (along (thread p world.words args).env p) world args s (accq.pieces s) ∙ ap₂ joined (sym (so_path s)) (sym (works_path s))

  -- in the following stage the thread has the values, the pending writes and the guess that this stage's work leaves
  pub placed_next : (s : ℕ)
      → thread_at p world args (suc s)
      ≡ (let w = work_of_stage p (alone world) (thread_at p world args s) in
      record { stage = suc s; hint = world.hint; env = w.env; entries = w.entries; guess = w.guess; awaits = [] })
  placed_next s = ap (λ (w : Work). record { stage = suc s; hint = world.hint; env = w.env; entries = w.entries; guess = w.guess; awaits = [] }) (piece s)

  -- the successor that a turn has by the following stage is the one that this stage makes, else the one that it had
  pub child_next : (s : ℕ)
      → (so_far p world args (suc s)).child ≡ or_else (work_of_stage p (alone world) (thread_at p world args s)).child (so_far p world args s).child
  child_next s = ap (λ (w : Work). w.child) (piece s)

  -- the locations that it has blocked for reading before stage s
  pub blocked_next : (s : ℕ)
      → scan_after_all (before (suc s) (onpath (thread p world.words args).env p.stmts)) no_scan
      ≡ scan_after_all (onpath (thread p world.words args).env (in_stage s p.stmts))
      (scan_after_all (before s (onpath (thread p world.words args).env p.stmts)) no_scan)
  blocked_next s =
      ap (λ l. scan_after_all l no_scan) (accq.pieces s)
      ∙ TurnPath.opens_append (before s (onpath (thread p world.words args).env p.stmts)) (in_stage s (onpath (thread p world.words args).env p.stmts)) no_scan
      ∙ ap (λ l. scan_after_all l (scan_after_all (before s (onpath (thread p world.words args).env p.stmts)) no_scan))
      (stage_path (thread p world.words args).env s p.stmts)
