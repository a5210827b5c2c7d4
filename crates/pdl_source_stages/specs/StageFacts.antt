-- What the rules of the language give of an accepted pipe's stage graph and of its text: the facts of `Sound` that no path's statements are asked for.
use Rattle.std.specs.Prelude.{◌≡◌, ℕ, suc, ◌≤◌, ◌<◌, true, false, List, [], ◌∷◌, Some, length, nat_lt}
use Rattle.pdl_semantics.specs.Flat.{list_all, Op, Bind, CombRead, DelayedRead, Write, ReserveRead, ReserveWrite, Block, Release, Call, SpecCall, Verify, SpecCheck, SpecBarrier, AdviceBind, AdviceRead, AdviceWrite, Stmt, Branch, Forks, Pipe}
use Rattle.pdl_semantics.specs.Stages.{is_inside, is_reserve, is_release, is_verify, onpath, in_stage, stage_at, verify_stage, commit_stage, reserve_stage}
use Rattle.pdl_semantics.specs.Updates.{is_update, first_update}
use Rattle.pdl_semantics.specs.Cycle.{merges_by}
use Rattle.pdl_semantics.specs.Promises.{KeepsAdvice}
use Rattle.pdl_theory_turns.specs.Alone.{before}
use Rattle.pdl_theory_turns.specs.Scans.{none_of, all_at, binds_var}
use Rattle.pdl_theory_turns.specs.Graphs.{Trunk, next_of, Graph, Home, Branches}
use Rattle.pdl_theory_turns.specs.Facts.{trunk_only, visits_stage, Found}
use Rattle.pdl_semantics.specs.Sound.{stages_from, is_fetch}

-- what is known of the delayed reads of stage s
abbrev pub FoundIf : Pipe → (ℕ → ℕ) → ℕ → Op → Type 0
FoundIf p fetch s (Bind _ _) = Unit {0}
FoundIf p fetch s (CombRead _ _ _) = Unit {0}
FoundIf p fetch s (DelayedRead x m a) = Found p fetch s m
FoundIf p fetch s (Write _ _ _) = Unit {0}
FoundIf p fetch s (ReserveRead _ _) = Unit {0}
FoundIf p fetch s (ReserveWrite _ _) = Unit {0}
FoundIf p fetch s (Block _ _) = Unit {0}
FoundIf p fetch s (Release _ _) = Unit {0}
FoundIf p fetch s (Call _) = Unit {0}
FoundIf p fetch s (SpecCall _) = Unit {0}
FoundIf p fetch s (Verify _ _) = Unit {0}
FoundIf p fetch s SpecCheck = Unit {0}
FoundIf p fetch s SpecBarrier = Unit {0}
FoundIf p fetch s (AdviceBind x e) = Unit {0}
FoundIf p fetch s (AdviceRead x m a) = Unit {0}
FoundIf p fetch s (AdviceWrite m a e) = Unit {0}

-- what is known of the delayed reads of stage s holds of each of these statements
abbrev pub AllFound : Pipe → (ℕ → ℕ) → ℕ → List Stmt → Type 0
AllFound p fetch s [] = Unit {0}
AllFound p fetch s (y ∷ ys) = FoundIf p fetch s y.op × AllFound p fetch s ys

-- what is known of a pipe's stages, and of the stages in which its statements stand
pub record StageFacts (p : Pipe) : Type 0 where
  -- F2: the stages
  pub graph : Graph p
  pub branches : Branches p
  -- F1: a branch holds no reserve, release, call or statement of guesses
  pub trunk_holds : (x : Branch) (c : List Branch) (s : ℕ) → Home p (x ∷ c) s → none_of trunk_only (in_stage s p.stmts) ≡ true
  -- F1: a fork whose merge is no later than a trunk stage v is wholly before it, any other is not before it
  pub merged : (v f b : ℕ) → v < length p.stages → Trunk p v → is_inside p f b ≡ true → merges_by p f (Some v) ≡ true → b < v
  pub unmerged : (v f b : ℕ) → v < length p.stages → Trunk p v → is_inside p f b ≡ true → merges_by p f (Some v) ≡ false → v ≤ f
  -- statements stand in the pipe's stages
  pub inside : list_all (λ y. nat_lt y.stage (length p.stages)) p.stmts ≡ true
  -- L2, S3, S7: a memory's reserves stand in one stage, its releases too, and so do the verifies and the updates
  pub reserves : (m : ℕ) → all_at (is_reserve m) (reserve_stage p m) p.stmts ≡ true
  pub releases : (m : ℕ) → all_at (is_release m) (commit_stage p m) p.stmts ≡ true
  pub verifies : (v : ℕ) → verify_stage p.stmts ≡ Some v → all_at is_verify v p.stmts ≡ true
  pub updates : (u : ℕ) → first_update p.stmts ≡ Some u → all_at is_update u p.stmts ≡ true
  pub verify_inside : (v : ℕ) → verify_stage p.stmts ≡ Some v → v < length p.stages
  -- N1: only memories that are there are reserved and released
  pub unreserved : (m : ℕ) → length p.mems ≤ m → none_of (is_reserve m) p.stmts ≡ true
  pub unreleased : (m : ℕ) → length p.mems ≤ m → length p.stages ≤ commit_stage p m
  -- a path has no statement in the stages that it passes over
  pub skips : (path : List ℕ) (s : ℕ) → s < length p.stages → visits_stage p path s ≡ true
      → before (next_of p s path) (onpath path p.stmts) ≡ before (suc s) (onpath path p.stmts)
  -- N2, N3: a fork's variable is bound before its stage ends
  pub fork_bound : (s x a b : ℕ) → (stage_at p s).next ≡ Forks x a b → none_of (binds_var x) (stages_from (suc s) p.stmts) ≡ true
  pub fork_known : (s x a b : ℕ) → (stage_at p s).next ≡ Forks x a b → x < p.vars
  -- F3, F4, N1, Z7: delayed reads, none of them in the last stage
  pub fetch : ℕ → ℕ
  pub found : (s : ℕ) → AllFound p fetch s (in_stage s p.stmts)
  pub fetch_inside : (s : ℕ) → suc s ≡ length p.stages → none_of is_fetch (in_stage s p.stmts) ≡ true
  -- F4, F5: a statement takes a memory by its kind
  pub advice : KeepsAdvice p
