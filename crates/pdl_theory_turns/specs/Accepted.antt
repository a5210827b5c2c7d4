-- What is taken of the text and the paths of an accepted pipe, with guards, calls, guesses, comb memories and any locks: facts that the rules of the language give.
use Rattle.std.specs.Prelude.{◌≡◌, ℕ, suc, ◌<◌, true, false, List, [], ◌++◌, Some, length, None}
use Rattle.pdl_theory_turns.specs.semantics.Flat.{Pipe}
use Rattle.pdl_theory_turns.specs.semantics.Stages.{onpath, in_stage, mem_at, verify_stage, commit_stage, reserve_stage, is_reserve, is_release}
use Rattle.pdl_theory_turns.specs.semantics.Locks.{has_room}
use Rattle.pdl_theory_turns.specs.Alone.{before}
use Rattle.pdl_theory_turns.specs.Scans.{is_plain, none_of, reads_ok, no_scan, phases_ok, phase_all, Fresh, is_over, write_reserves, all_at, is_fixed}
use Rattle.pdl_theory_turns.specs.GuessScans.{Unmade, makings_ok, making_all, is_made, checks_apart, is_update, once, all_sure}
use Rattle.pdl_theory_turns.specs.semantics.Sound.{stages_from}

-- of a pipe without guards: what holds of the statements of one path
pub record Accepted (p : Pipe) : Type 0 where
  -- statements stand in the order of their stages, which are as many as the pipe has
  pub pieces : (s : ℕ) → before (suc s) p.stmts ≡ before s p.stmts ++ in_stage s p.stmts
  pub ordered : (s : ℕ) → p.stmts ≡ before s p.stmts ++ stages_from s p.stmts
  pub start_first : before 0 p.stmts ≡ []
  pub whole : before (length p.stages) p.stmts ≡ p.stmts
  pub some_stage : 0 < length p.stages
  -- L4: each lock has room for the thread's write reservations
  pub locks : (m : ℕ) → has_room (mem_at p m).lock (write_reserves m p.stmts) 0 ≡ true
  -- F5
  pub plain : (m : ℕ) → is_plain (mem_at p m).lock ≡ true → none_of (is_release m) p.stmts ≡ true
  pub plain_from : (m : ℕ) → is_plain (mem_at p m).lock ≡ true → reserve_stage p m ≡ 0
  pub plain_to : (m : ℕ) → is_plain (mem_at p m).lock ≡ true → commit_stage p m ≡ length p.stages
  -- N2, N3, L1 for reads, L8
  pub reads : (s : ℕ) → reads_ok p no_scan (before s p.stmts) ≡ true
  -- N2, L1 for writes, L3, L4, L6, L7
  pub phases : (m : ℕ) → phases_ok m Fresh p.stmts ≡ true
  pub over : (m : ℕ) → is_over (phase_all m Fresh p.stmts) ≡ true
  -- L2, and a release stands no earlier than the reserves
  pub reserves : (m : ℕ) → all_at (is_reserve m) (reserve_stage p m) p.stmts ≡ true
  pub releases : (m : ℕ) → all_at (is_release m) (commit_stage p m) p.stmts ≡ true

-- the pipe of one path's statements
abbrev pub along : List ℕ → Pipe → Pipe
along path p = record p { stmts = onpath path p.stmts }

-- of a pipe with guards: its text and each of its paths, whatever its stage graph
pub record Pathwise (p : Pipe) : Type 0 where
  pub some_stage : 0 < length p.stages
  -- N2, N3: a guard's variable is not bound where it is tested or later in the text, nor in a later stage
  pub fixed_guards : is_fixed p.stmts ≡ true
  pub fixed_by : (s : ℕ) → is_fixed (before s p.stmts ++ (in_stage s p.stmts ++ stages_from (suc s) p.stmts)) ≡ true
  pub releases : (m : ℕ) → all_at (is_release m) (commit_stage p m) p.stmts ≡ true
  pub verify_inside : (v : ℕ) → verify_stage p.stmts ≡ Some v → v < length p.stages
  pub paths : (path : List ℕ) → Accepted (along path p)
  pub makings : (path : List ℕ) → makings_ok (verify_stage p.stmts) Unmade (onpath path p.stmts) ≡ true
  pub apart : (path : List ℕ) → checks_apart None (onpath path p.stmts) ≡ true
  -- S6
  pub updated : (path : List ℕ) → once is_update false (onpath path p.stmts) ≡ true
  pub made : (path : List ℕ) → is_made (making_all Unmade (onpath path p.stmts)) ≡ true
  pub sure : (path : List ℕ) → all_sure (verify_stage p.stmts) false no_scan (onpath path p.stmts) ≡ true
