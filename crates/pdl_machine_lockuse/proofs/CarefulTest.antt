-- A pipe that passes the test has the facts.
use Rattle.std.proofs.Common.{◌≡◌, sym, ap, ◌∙◌, ℕ, Bool, true, ◌&&◌, ◌||◌, List, [], length, nat_lt, leb-true, nat_le}
use Rattle.pdl_semantics.specs.Flat.{Pipe, Stmt, list_all, start_env}
use Rattle.pdl_semantics.specs.Stages.{onpath, fork_guards}
use Rattle.pdl_theory_turns.specs.Scans.{write_reserves}
use Rattle.pdl_theory_turns.proofs.Texts.{below_at}
use Rattle.pdl_theory_turns.specs.Checks.{guard_vars}
use Rattle.pdl_theory_turns.specs.SoundChecks.{all_paths, all_guards}
use Rattle.pdl_theory_turns.proofs.Writes.{and_left, and_right}
use Rattle.pdl_theory.proofs.Rates.{picks, among, among_append}
use Rattle.pdl_theory.proofs.TestedPaths.{all_picks, path_agree, agree_picks}
use Rattle.pdl_machine_lockuse.specs.Careful.{Careful, is_careful, all_keep_kind, all_let_in, all_few}

module _ (p : Pipe) (low : list_all (λ g. nat_lt g (length (start_env p []))) (all_guards p) ≡ true) where
  guard_among : (g : ℕ) → among g (guard_vars p.stmts) ≡ true → among g (all_guards p) ≡ true
  guard_among g k = among_append g (guard_vars p.stmts) (fork_guards p.stages) ∙ ap (λ b. b || among g (fork_guards p.stages)) k

  -- what holds of the paths that a test goes through holds of all
  each_path : (test : List Stmt → Bool) → all_paths (all_guards p) (λ path. test (onpath path p.stmts)) (start_env p []) ≡ true → (path : List ℕ)
      → test (onpath path p.stmts) ≡ true
  each_path test h path =
      ap test
      (sym
      (path_agree (all_guards p)
      (picks path (all_guards p) (start_env p [])) path p.stmts (agree_picks path (all_guards p) (start_env p []) low) guard_among))
      ∙ all_picks (λ path. test (onpath path p.stmts)) path (all_guards p) (start_env p []) h

  careful_tested : is_careful p ≡ true → Careful p
  careful_tested h =
      let rest = and_left _ _ h in
      let both =
      each_path (λ xs. all_keep_kind xs && (all_let_in [] xs && all_few (length p.mems) xs))
      (and_right (list_all (λ g. nat_lt g (length (start_env p []))) (all_guards p)) _ rest) in
      record {
        kinds = λ path. and_left _ _ (both path);
        writes = λ path. and_left _ _ (and_right (all_keep_kind (onpath path p.stmts)) _ (both path));
        few = λ path m low. leb-true _ 2
            (below_at (λ m. nat_le (write_reserves m (onpath path p.stmts)) 2) (length p.mems) m
            (and_right (all_let_in [] (onpath path p.stmts)) _ (and_right (all_keep_kind (onpath path p.stmts)) _ (both path))) low);
        args =
            and_right
            (list_all (λ g. nat_lt g (length (start_env p []))) (all_guards p)
            && all_paths (all_guards p)
            (λ path. all_keep_kind (onpath path p.stmts) && (all_let_in [] (onpath path p.stmts) && all_few (length p.mems) (onpath path p.stmts)))
            (start_env p [])) _ h;
      }

-- the facts of a pipe that passes the test
pub tested : (p : Pipe) → is_careful p ≡ true → Careful p
tested p h = careful_tested p (and_left _ _ (and_left _ _ h)) h
