-- A thread of a pipe that can be run writes at most 32 times.
use Rattle.std.proofs.Common.{◌≡◌, sym, ap, ◌∙◌, subst, ℕ, ◌*◌, ◌<◌, ◌≤◌, Bool, true, false, if◌then◌else◌, List, [], ◌∷◌, ◌++◌, length, arith}
use Rattle.std.proofs.lemmas.List.{length-map}
use Rattle.pdl_semantics.specs.Flat.{Op, Bind, CombRead, DelayedRead, Write, ReserveRead, ReserveWrite, Block, Release, Call, SpecCall, Verify, SpecCheck, SpecBarrier, AdviceBind, AdviceRead, AdviceWrite, Stmt, Arrays, Commit, of_mem, all_hold, start_env}
use Rattle.pdl_semantics.specs.Stages.{onpath}
use Rattle.pdl_semantics.specs.Sequential.{Run, run_after, run_all, thread}
use Rattle.pdl_theory_turns.specs.Scans.{Fresh}
use Rattle.pdl_theory_turns.specs.Facts.{looked_all}
use Rattle.pdl_theory_turns.proofs.Paths.{run_path}
use Rattle.pdl_theory_turns.proofs.Looks.{run_looked}
use Rattle.pdl_form.specs.Form.{Form}
use Rattle.pdl_form_types.specs.Stmts.{IsTypedOp, AreTypedStmts}
use Rattle.pdl_seq.specs.declared.commit.Commit as r_commit
use Rattle.pdl_seq.specs.Turns.{commits_view}
use Rattle.pdl_seq.specs.Runs.{IsRunnable}
use Rattle.pdl_seq.proofs.ReservedWrites.{at_most}
use Rattle.pdl_seq.proofs.LookedReserves.{looked_reserves}
use Rattle.pdl_seq.proofs.WriteCounts.{AreKnown, few_writes}

-- WRITES TO MEMORIES THAT ARE THERE

known_more : (n : ℕ) (ws : List Commit) (c : Commit) → AreKnown n ws → c.mem < n → AreKnown n (ws ++ c ∷ [])
known_more n [] c k h = (h, tt)
known_more n (w ∷ ws) c k h = (k.0, known_more n ws c k.1 h)

module _ (f : Form) where
  known_runs : (op : Op) (r : Run) → IsTypedOp f op → AreKnown (length f.pipe.mems) r.writes → AreKnown (length f.pipe.mems) (run_after op r).writes
  known_runs (Bind x e) r t k = k
  known_runs (CombRead x m a) r t k = k
  known_runs (DelayedRead x m a) r t k = k
  known_runs (Write m a e) r t k = known_more _ r.writes _ k t.0.memory
  known_runs (ReserveRead m a) r t k = k
  known_runs (ReserveWrite m a) r t k = k
  known_runs (Block m a) r t k = k
  known_runs (Release m a) r t k = k
  known_runs (Call args) r t k = k
  known_runs (SpecCall args) r t k = k
  known_runs (Verify true args) r t k = k
  known_runs (Verify false args) r t k = k
  known_runs SpecCheck r t k = k
  known_runs SpecBarrier r t k = k
  known_runs (AdviceBind x e) r t k = k
  known_runs (AdviceRead x m a) r t k = k
  known_runs (AdviceWrite m a e) r t k = k

  known_if : (b : Bool) (op : Op) (r : Run) → IsTypedOp f op → AreKnown (length f.pipe.mems) r.writes
      → AreKnown (length f.pipe.mems) (if b then run_after op r else r).writes
  known_if true op r t k = known_runs op r t k
  known_if false op r t k = k

  known_all : (xs : List Stmt) (r : Run) → AreTypedStmts f xs → AreKnown (length f.pipe.mems) r.writes → AreKnown (length f.pipe.mems) (run_all xs r).writes
  known_all [] r t k = k
  known_all (x ∷ xs) r t k = known_all xs _ t.1 (known_if (all_hold x.guards r.env) x.op r t.0.1 k)

  -- at most two to each of them, and so at most 32
  module _ (run : IsRunnable f) (arrays : Arrays) (args : List ℕ) where
    abbrev start : Run
    start = record { arrays = arrays; env = start_env f.pipe args; writes = []; next = [] }

    abbrev path : List ℕ
    path = (thread f.pipe arrays args).env

    by_path : thread f.pipe arrays args ≡ run_all (onpath path (looked_all f.pipe.stmts)) start
    by_path =
        sym (run_looked f.pipe.stmts start)
        ∙ run_path path (looked_all f.pipe.stmts) start run.sound.pathwise.fixed_guards (ap (λ (r : Run). r.env) (run_looked f.pipe.stmts start))

    twice : (m : ℕ) → m < length f.pipe.mems → length (of_mem m (thread f.pipe arrays args).writes) ≤ 2
    twice m low =
        subst (λ (r : Run). length (of_mem m r.writes) ≤ 2) (sym by_path)
        (let most = at_most m (onpath path (looked_all f.pipe.stmts)) Fresh start ((run.sound.pathwise.paths path).phases m) in
        let same = looked_reserves path m f.pipe.stmts in
        let two = run.twice path m low in
        omega (arith, most, same, two))

    -- a thread writes at most 32 times
    pub few : length (thread f.pipe arrays args).writes ≤ 32
    few =
        let most : length (thread f.pipe arrays args).writes ≤ 2 * length f.pipe.mems =
        few_writes (length f.pipe.mems) _ (known_all f.pipe.stmts start run.typed.stmts tt) twice in
        let mems = run.few in
        omega arith

    -- of what a thread writes at most 32 writes are lent
    pub few_lent : (r : Run) (cs lent : List r_commit.Commit) → r ≡ thread f.pipe arrays args → commits_view cs ≡ r.writes → lent ≡ cs → length lent ≤ 32
    few_lent r cs lent ran seen is =
        let same : length (commits_view cs) ≡ length cs = length-map _ _ in
        let lent_all : length lent ≡ length cs = ap length is in
        let written : length (commits_view cs) ≡ length (thread f.pipe arrays args).writes = ap length seen ∙ ap (λ (t : Run). length t.writes) ran in
        let most = few in
        omega arith
