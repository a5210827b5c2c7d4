-- One turn along its path, by stages.
use Rattle.std.proofs.Common.{◌≡◌, ◌≢◌, refl, sym, ap, ap₂, ◌∙◌, subst, ℕ, suc, ◌≤◌, ◌<◌, Bool, true, false, ◌&&◌, List, [], ◌∷◌, ◌++◌, length, nat_lt, cond, if◌then◌else◌, arith, append-nil}
use Rattle.std.proofs.Common.{ltb-true, ltb-false, le_of_eq}
use Rattle.pdl_semantics.specs.Flat.{Arrays, Stmt, Pipe, all_hold, Commit, of_mem, start_env}
use Rattle.pdl_semantics.specs.Stages.{in_stage, mem_at, is_release, is_reserve, commit_stage, reserve_stage}
use Rattle.pdl_semantics.specs.Sequential.{Run, run_after, run_all, thread}
use Rattle.pdl_semantics.specs.Promises.{wrote, row}
use Rattle.pdl_theory_turns.specs.Derived.{Work, Around, Thread, work_after, do_all, work_of_stage}
use Rattle.pdl_theory_turns.specs.Alone.{World, alone, before, start_work, so_far, thread_at, undone, is_nil}
use Rattle.pdl_theory_turns.proofs.Writes.{and_left, and_right, of_mem_append, row_committed}
use Rattle.pdl_theory_turns.proofs.Entries.{entries_of, places}
use Rattle.pdl_theory_turns.proofs.Slots.{rev}
use Rattle.pdl_theory_turns.proofs.Phases.{finished, nil_of}
use Rattle.pdl_theory_turns.specs.Scans.{Phase, Fresh, next_phase, phase_ok, no_guards, phases_ok, phase_all, is_over, none_of, scan_after, reads_ok, scan_after_all, is_plain, Scan, no_scan}
use Rattle.pdl_theory_turns.proofs.SequentialThread.{Related, related_all, related_step, Ok, next_phases}
use Rattle.pdl_theory_turns.proofs.Stages.{step, joined, next_piece, do_all_append}
use Rattle.pdl_theory_turns.specs.Accepted.{Accepted}
use Rattle.pdl_theory_turns.proofs.Turn.{quiet, none_in_stage, none_before, none_from, release_looked, spots, spots_op, addresses_at}
use Rattle.pdl_theory_turns.proofs.Surroundings.{taken_none}
use Rattle.pdl_semantics.specs.Sound.{stages_from}

ok_here : (n : ℕ) (ph : Phase) (x : Stmt) (xs : List Stmt) → phases_ok n ph (x ∷ xs) ≡ true → phase_ok n ph x.op ≡ true
ok_here n ph x xs h = and_right _ _ (and_left _ _ h)

free_here : (n : ℕ) (ph : Phase) (x : Stmt) (xs : List Stmt) → phases_ok n ph (x ∷ xs) ≡ true → no_guards x.guards ≡ true
free_here n ph x xs h = and_left _ _ (and_left _ _ h)

-- the addresses stay over statements that don't reserve m
spots_all : (world : World) (m : ℕ) (xs : List Stmt) (ph : ℕ → Phase) (w : Work) (r : Run)
    → none_of (is_reserve m) xs ≡ true → ((n : ℕ) → phases_ok n (ph n) xs ≡ true) → Related world ph w r
    → spots (phase_all m (ph m) xs) (do_all (alone world) xs w).env (of_mem m (run_all xs r).writes)
    ≡ spots (ph m) w.env (of_mem m r.writes)
spots_all world m [] ph w r h ok rel = refl
spots_all world m (x ∷ xs) ph w r h ok rel =
    ap₂ (λ (v : Work) (s : Run). spots (phase_all m (next_phase m (ph m) x.op) xs) (do_all (alone world) xs v).env (of_mem m (run_all xs s).writes)) goes goes'
    ∙ spots_all world m xs (next_phases ph x.op) (work_after (alone world) x.op w) (run_after x.op r)
    (and_right _ _ h) (λ n. and_right _ _ (ok n)) (related_step world ph x.op w r here rel)
    ∙ spots_op world m ph x.op w r (and_left _ _ h) here rel
  where
    here : Ok ph x.op
    here n = ok_here n (ph n) x xs (ok n)

    goes : step (alone world) x w ≡ work_after (alone world) x.op w
    goes = ap (λ b. cond b (work_after (alone world) x.op w) w) (taken_none x.guards w.env (free_here 0 (ph 0) x xs (ok 0)))

    goes' : (if all_hold x.guards r.env then run_after x.op r else r) ≡ run_after x.op r
    goes' = ap (λ b. cond b (run_after x.op r) r) (taken_none x.guards r.env (free_here 0 (ph 0) x xs (ok 0)))

-- the phases of a list in two parts
phases_first : (m : ℕ) (xs ys : List Stmt) (ph : Phase) → phases_ok m ph (xs ++ ys) ≡ true → phases_ok m ph xs ≡ true
phases_first m [] ys ph h = refl
phases_first m (x ∷ xs) ys ph h = both (and_left _ _ h) (phases_first m xs ys (next_phase m ph x.op) (and_right _ _ h))
  where
    both : {b c : Bool} → b ≡ true → c ≡ true → (b && c) ≡ true
    both p q = ap₂ (λ b c. b && c) p q

-- where the phases allow joined statements, they allow the second ones after the first
pub phases_second : (m : ℕ) (xs ys : List Stmt) (ph : Phase) → phases_ok m ph (xs ++ ys) ≡ true → phases_ok m (phase_all m ph xs) ys ≡ true
phases_second m [] ys ph h = h
phases_second m (x ∷ xs) ys ph h = phases_second m xs ys (next_phase m ph x.op) (and_right _ _ h)

-- the phase after joined statements
pub phase_append : (m : ℕ) (xs ys : List Stmt) (ph : Phase) → phase_all m ph (xs ++ ys) ≡ phase_all m (phase_all m ph xs) ys
phase_append m [] ys ph = refl
phase_append m (x ∷ xs) ys ph = phase_append m xs ys (next_phase m ph x.op)

-- the run with which a turn begins, and after the stages before s
abbrev pub start_run : Pipe → Arrays → List ℕ → Run
start_run p arrays args = record { arrays = arrays; env = start_env p args; writes = []; next = [] }

-- the sequential run as it is before stage s
abbrev pub run_at : Pipe → Arrays → List ℕ → ℕ → Run
run_at p arrays args s = run_all (before s p.stmts) (start_run p arrays args)

undone_split : (c s : ℕ) (us xs : List Commit)
    → (s ≢ c → xs ≡ []) → (s ≡ c → xs ≡ us) → cond (nat_lt c s) [] us ≡ xs ++ cond (nat_lt c (suc s)) [] us
undone_split c s us xs f g = at (nat_lt c s) refl (nat_lt c (suc s)) refl
  where
    at : (b : Bool) → nat_lt c s ≡ b → (d : Bool) → nat_lt c (suc s) ≡ d → cond b [] us ≡ xs ++ cond d [] us
    at true e true k = sym (ap (λ l. l ++ []) (f apart))
      where
        apart : s ≢ c
        apart q = let h : c < s = ltb-true c s e in omega arith
    at true e false k = absurd (let h : c < s = ltb-true c s e in let i : suc s ≤ c = ltb-false c (suc s) k in omega arith)
    at false e true k = sym (append-nil xs ∙ g here)
      where
        here : s ≡ c
        here = let h : s ≤ c = ltb-false c s e in let i : c < suc s = ltb-true c (suc s) k in omega arith
    at false e false k = sym (ap (λ l. l ++ us) (f apart))
      where
        apart : s ≢ c
        apart q = let i : suc s ≤ c = ltb-false c (suc s) k in omega arith

reads_first : (p : Pipe) (xs ys : List Stmt) (c : Scan) → reads_ok p c (xs ++ ys) ≡ true → reads_ok p (scan_after_all xs c) ys ≡ true
reads_first p [] ys c h = h
reads_first p (x ∷ xs) ys c h = reads_first p xs ys (scan_after x.op c) (and_right _ _ h)

-- what joined statements reserve and block is what the second ones do after the first
pub opens_append : (xs ys : List Stmt) (c : Scan) → scan_after_all (xs ++ ys) c ≡ scan_after_all ys (scan_after_all xs c)
opens_append [] ys c = refl
opens_append (x ∷ xs) ys c = opens_append xs ys (scan_after x.op c)

-- the sequential run of joined statements is that of the second ones after the first
pub run_append : (xs ys : List Stmt) (r : Run) → run_all (xs ++ ys) r ≡ run_all ys (run_all xs r)
run_append [] ys r = refl
run_append (x ∷ xs) ys r = run_append xs ys (if all_hold x.guards r.env then run_after x.op r else r)

module _ (p : Pipe) (acc : Accepted p) (world : World) (args : List ℕ) where
  -- at the start what the thread holds alone agrees with the sequential run, where no write is begun
  pub start_related : Related world (λ m. Fresh) (start_work p args) (start_run p world.words args)
  start_related = record { env = refl; arrays_now = refl; tied = λ m. record { fulls = []; entries = refl; vars = refl; written = refl; calm = λ h. refl } }

  -- the statements before a stage use each memory's write in order
  pub ok_before : (s m : ℕ) → phases_ok m Fresh (before s p.stmts) ≡ true
  ok_before s m = phases_first m (before s p.stmts) (stages_from s p.stmts) Fresh (subst (λ l. phases_ok m Fresh l ≡ true) (acc.ordered s) (acc.phases m))

  -- the statements from a stage on use each memory's write in order, after those before it
  pub ok_from : (s m : ℕ) → phases_ok m (phase_all m Fresh (before s p.stmts)) (stages_from s p.stmts) ≡ true
  ok_from s m = phases_second m (before s p.stmts) (stages_from s p.stmts) Fresh (subst (λ l. phases_ok m Fresh l ≡ true) (acc.ordered s) (acc.phases m))

  -- before each stage what the thread has done alone agrees with the sequential run
  pub related_at : (s : ℕ) → Related world (λ m. phase_all m Fresh (before s p.stmts)) (so_far p world args s) (run_at p world.words args s)
  related_at s = related_all world (before s p.stmts) (λ m. Fresh) (start_work p args) (start_run p world.words args) (ok_before s) start_related

  -- in the end what the thread has done alone agrees with the sequential thread
  pub related_whole : Related world (λ m. phase_all m Fresh p.stmts) (do_all (alone world) p.stmts (start_work p args)) (thread p world.words args)
  related_whole = related_all world p.stmts (λ m. Fresh) (start_work p args) (start_run p world.words args) acc.phases start_related

  -- the rest of the thread stages_from stage s on
  pub rest_of : (s : ℕ) → do_all (alone world) p.stmts (start_work p args) ≡ do_all (alone world) (stages_from s p.stmts) (so_far p world args s)
  rest_of s =
      ap (λ l. do_all (alone world) l (start_work p args)) (acc.ordered s)
      ∙ do_all_append (alone world) (before s p.stmts) (stages_from s p.stmts) (start_work p args)

  -- in the end nothing of m is pending, and the commits are the writes
  pub at_end : (m : ℕ)
      → (entries_of m (do_all (alone world) p.stmts (start_work p args)).entries ≡ [])
      × (of_mem m (do_all (alone world) p.stmts (start_work p args)).commits ≡ of_mem m (thread p world.words args).writes)
  at_end m = finished m (phase_all m Fresh p.stmts) (acc.over m) _ _ _ _ (related_whole.tied m)

  -- the commits of m: none up to its stage, all after it
  pub commits_early : (s m : ℕ) → s ≤ commit_stage p m → of_mem m (so_far p world args s).commits ≡ []
  commits_early s m h =
      quiet m (alone world) (before s p.stmts) (start_work p args)
      (none_before (is_release m) (commit_stage p m) s p.stmts (release_looked m) (acc.releases m) h)

  -- past the stage of m's releases the thread has committed all its writes of m
  pub commits_late : (s m : ℕ) → commit_stage p m < s → of_mem m (so_far p world args s).commits ≡ of_mem m (thread p world.words args).writes
  commits_late s m h =
      sym (quiet m (alone world) (stages_from s p.stmts) (so_far p world args s) (none_from (is_release m) (commit_stage p m) s p.stmts (acc.releases m) h))
      ∙ ap (λ (w : Work). of_mem m w.commits) (sym (rest_of s)) ∙ (at_end m).1

  -- what is done by the following stage is what was done before this one, with this stage's work
  pub piece : (s : ℕ) → so_far p world args (suc s) ≡ joined (so_far p world args s) (work_of_stage p (alone world) (thread_at p world args s))
  piece s = next_piece p world args s (acc.pieces s)

  -- a thread that isn't in the stage of m's releases commits nothing to m
  pub quiet_at : (o : Around) (t : Thread) (m : ℕ) → t.stage ≢ commit_stage p m → of_mem m (work_of_stage p o t).commits ≡ []
  quiet_at o t m h = quiet m o (in_stage t.stage p.stmts) _ (none_in_stage (is_release m) (commit_stage p m) t.stage p.stmts (acc.releases m) h)

  -- a stage's commits of m are what is no longer undone behind it
  pub undone_step : (s m : ℕ)
      → undone p world.words args s m ≡ of_mem m (work_of_stage p (alone world) (thread_at p world args s)).commits ++ undone p world.words args (suc s) m
  undone_step s m = undone_split (commit_stage p m) s (of_mem m (thread p world.words args).writes) _ (quiet_at (alone world) (thread_at p world args s) m) here
    where
      here : s ≡ commit_stage p m → of_mem m (work_of_stage p (alone world) (thread_at p world args s)).commits ≡ of_mem m (thread p world.words args).writes
      here e =
          ap (λ l. l ++ of_mem m (work_of_stage p (alone world) (thread_at p world args s)).commits) (sym (commits_early s m (le_of_eq e)))
          ∙ sym (of_mem_append m (so_far p world args s).commits _)
          ∙ ap (λ (w : Work). of_mem m w.commits) (sym (piece s))
          ∙ commits_late (suc s) m (le_of_eq (ap suc (sym e)))

  -- the rest of the sequential thread
  pub run_rest : (s : ℕ) → thread p world.words args ≡ run_all (stages_from s p.stmts) (run_at p world.words args s)
  run_rest s =
      ap (λ l. run_all l (start_run p world.words args)) (acc.ordered s) ∙ run_append (before s p.stmts) (stages_from s p.stmts) (start_run p world.words args)

  -- past the reserves, the addresses of the writes made and of those to come are those of the turn's writes
  pub all_places : (s m : ℕ) → reserve_stage p m < s
      → spots (phase_all m Fresh (before s p.stmts)) (so_far p world args s).env (of_mem m (run_at p world.words args s).writes)
      ≡ places (of_mem m (thread p world.words args).writes)
  all_places s m h =
      sym
      (spots_all world m (stages_from s p.stmts) (λ n. phase_all n Fresh (before s p.stmts))
      (so_far p world args s) (run_at p world.words args s)
      (none_from (is_reserve m) (reserve_stage p m) s p.stmts (acc.reserves m) h) (ok_from s) (related_at s))
      ∙ ap
      (λ xs. places (of_mem m (run_all (stages_from s p.stmts) (run_at p world.words args s)).writes)
      ++ rev (addresses_at (do_all (alone world) (stages_from s p.stmts) (so_far p world args s)).env xs)) none_open
      ∙ append-nil _
      ∙ ap (λ (r : Run). places (of_mem m r.writes)) (sym (run_rest s))
    where
      none_open : (phase_all m (phase_all m Fresh (before s p.stmts)) (stages_from s p.stmts)).unwritten ≡ []
      none_open =
          nil_of _ (and_left (is_nil (phase_all m (phase_all m Fresh (before s p.stmts)) (stages_from s p.stmts)).unwritten) _
          (subst (λ ph. is_over ph ≡ true) (ap (phase_all m Fresh) (acc.ordered s)
          ∙ phase_append m (before s p.stmts) (stages_from s p.stmts) Fresh) (acc.over m)))

  -- the array of m after the turn
  pub row_after : (m : ℕ) → row (thread p world.words args).arrays m ≡ wrote (row world.words m) (of_mem m (thread p world.words args).writes)
  row_after m = ap (λ l. row l m) related_whole.arrays_now ∙ row_committed m (thread p world.words args).writes world.words

  -- no thread has written anything in stage 0
  pub undone_start : (m : ℕ) → undone p world.words args 0 m ≡ of_mem m (thread p world.words args).writes
  undone_start m = at (nat_lt (commit_stage p m) 0) refl
    where
      at : (b : Bool) → nat_lt (commit_stage p m) 0 ≡ b → cond b [] (of_mem m (thread p world.words args).writes) ≡ of_mem m (thread p world.words args).writes
      at true e = absurd (let h : commit_stage p m < 0 = ltb-true _ _ e in omega arith)
      at false e = refl

  -- nothing is undone in the end
  pub undone_in_end : (m : ℕ) → undone p world.words args (length p.stages) m ≡ []
  undone_in_end m = at (nat_lt (commit_stage p m) (length p.stages)) refl
    where
      at : (b : Bool) → nat_lt (commit_stage p m) (length p.stages) ≡ b → cond b [] (of_mem m (thread p world.words args).writes) ≡ []
      at true e = refl
      at false e =
          sym (at_end m).1 ∙ ap (λ l. of_mem m (do_all (alone world) l (start_work p args)).commits) (sym acc.whole)
          ∙ commits_early (length p.stages) m (ltb-false _ _ e)

  -- a memory without lock is not written
  pub plain_writes : (m : ℕ) → is_plain (mem_at p m).lock ≡ true → of_mem m (thread p world.words args).writes ≡ []
  plain_writes m h = sym (at_end m).1 ∙ quiet m (alone world) p.stmts (start_work p args) (acc.plain m h)

  -- the reads of a stage are in order after the statements before it
  pub reads_here : (s : ℕ) → reads_ok p (scan_after_all (before s p.stmts) no_scan) (in_stage s p.stmts) ≡ true
  reads_here s = reads_first p (before s p.stmts) (in_stage s p.stmts) no_scan (subst (λ l. reads_ok p no_scan l ≡ true) (acc.pieces s) (acc.reads (suc s)))
