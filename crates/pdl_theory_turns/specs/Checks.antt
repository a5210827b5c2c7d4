-- The facts of an accepted pipe's text and of each of its paths, as tests that compute.
use Rattle.std.specs.Prelude.{ℕ, suc, Bool, true, false, ◌&&◌, ◌||◌, not, List, [], ◌∷◌, ◌++◌, Option, Some, None, if◌then◌else◌, nat_lt, nat_le, ◌==◌, length}
use Rattle.pdl_theory_turns.specs.semantics.Flat.{list_all, Op, Bind, CombRead, DelayedRead, Write, ReserveRead, ReserveWrite, Block, Release, Call, SpecCall, Verify, SpecCheck, SpecBarrier, AdviceBind, AdviceRead, AdviceWrite, Stmt, Guard, Pipe}
use Rattle.pdl_theory_turns.specs.Alone.{before}
use Rattle.pdl_theory_turns.specs.semantics.Stages.{in_stage, mem_at, commit_stage, reserve_stage, is_reserve, is_release, verify_stage}
use Rattle.pdl_theory_turns.specs.semantics.Locks.{has_room}
use Rattle.pdl_theory_turns.specs.semantics.Sound.{all_below, stages_from, is_fetch}
use Rattle.pdl_theory_turns.specs.Scans.{is_plain, none_of, reads_ok, no_scan, phases_ok, phase_all, Fresh, is_over, write_reserves, all_at, is_fixed}
use Rattle.pdl_theory_turns.specs.GuessScans.{Unmade, makings_ok, making_all, is_made, checks_apart, is_update, once, all_sure}

-- statements stand in the order of their stages, the first in stage s or after it
abbrev pub in_text_order : ℕ → List Stmt → Bool
in_text_order s [] = true
in_text_order s (x ∷ xs) = nat_le s x.stage && in_text_order x.stage xs

-- a statement's memory is one of n
abbrev pub knows_memory : ℕ → Op → Bool
knows_memory n (CombRead x m a) = nat_lt m n
knows_memory n (DelayedRead x m a) = nat_lt m n
knows_memory n (Write m a e) = nat_lt m n
knows_memory n (ReserveRead m a) = nat_lt m n
knows_memory n (ReserveWrite m a) = nat_lt m n
knows_memory n (Block m a) = nat_lt m n
knows_memory n (Release m a) = nat_lt m n
knows_memory n (Bind x e) = true
knows_memory n (Call args) = true
knows_memory n (SpecCall args) = true
knows_memory n (Verify last args) = true
knows_memory n SpecCheck = true
knows_memory n SpecBarrier = true
knows_memory n (AdviceBind x e) = true
knows_memory n (AdviceRead x m a) = true
knows_memory n (AdviceWrite m a e) = true

-- PATHS

-- the statements that are left where the guard g has this value; they no longer ask for it
abbrev pub alike : Bool → Bool → Bool
alike a b = if a then b else not b

-- each of these guards on variable g is taken where g has this truth value
abbrev pub agrees_with : ℕ → Bool → List Guard → Bool
agrees_with g b [] = true
agrees_with g b (h ∷ hs) = (not (h.var == g) || alike h.first b) && agrees_with g b hs

-- these guards without those on variable g
abbrev pub without : ℕ → List Guard → List Guard
without g [] = []
without g (h ∷ hs) = if h.var == g then without g hs else h ∷ without g hs

-- the statements that are left where g has this truth value, without their guards on it
abbrev pub choose : ℕ → Bool → List Stmt → List Stmt
choose g b [] = []
choose g b (x ∷ xs) = if agrees_with g b x.guards then record x { guards = without g x.guards } ∷ choose g b xs else choose g b xs

-- a test of the statements of each path, over all values of these guards
abbrev pub on_paths : List ℕ → (List Stmt → Bool) → List Stmt → Bool
on_paths [] test xs = test xs
on_paths (g ∷ gs) test xs = on_paths gs test (choose g true xs) && on_paths gs test (choose g false xs)

-- the variables of these guards
abbrev pub vars_of : List Guard → List ℕ
vars_of [] = []
vars_of (g ∷ gs) = g.var ∷ vars_of gs

-- the variables of all guards of these statements
abbrev pub guard_vars : List Stmt → List ℕ
guard_vars [] = []
guard_vars (x ∷ xs) = vars_of x.guards ++ guard_vars xs

-- whether the statements of a path pass the tests of memory m
abbrev pub mem_passes : Pipe → List Stmt → ℕ → Bool
mem_passes p xs m =
    phases_ok m Fresh xs
    && (is_over (phase_all m Fresh xs)
    && (has_room (mem_at p m).lock (write_reserves m xs) 0
    && (all_at (is_reserve m) (reserve_stage p m) xs
    && (all_at (is_release m) (commit_stage p m) xs && (not (is_plain (mem_at p m).lock) || none_of (is_release m) xs)))))

-- the statements of a path pass all tests of a path
abbrev pub path_passes : Pipe → List Stmt → Bool
path_passes p xs =
    in_text_order 0 xs
    && (list_all (λ x. nat_lt x.stage (length p.stages)) xs
    && (list_all (λ x. knows_memory (length p.mems) x.op) xs
    && (reads_ok p no_scan xs
    && (all_below (mem_passes p xs) (length p.mems)
    &&
    (makings_ok (verify_stage p.stmts) Unmade xs
    && (is_made (making_all Unmade xs) && (checks_apart None xs && (once is_update false xs && all_sure (verify_stage p.stmts) false no_scan xs))))))))

-- THE TEXT

-- the reserves of m stand in one stage, and so do its releases
abbrev pub lock_passes : Pipe → ℕ → Bool
lock_passes p m =
    all_at (is_reserve m) (reserve_stage p m) p.stmts
    && (all_at (is_release m) (commit_stage p m) p.stmts
    && (not (is_plain (mem_at p m).lock) || ((reserve_stage p m == 0) && (commit_stage p m == length p.stages))))

-- a stage, if there is one, is one of k
abbrev pub is_below : ℕ → Option ℕ → Bool
is_below k None = true
is_below k (Some s) = nat_lt s k

-- what is asked of the locks
abbrev pub locks_pass : Pipe → Bool
locks_pass p =
    nat_le (length p.reserves_at) (length p.mems) && (nat_le (length p.releases_at) (length p.mems) && all_below (lock_passes p) (length p.mems))

-- whether the text passes its tests; with forks it need not stand in the order of stages
abbrev pub text_passes : Pipe → Bool
text_passes p =
    list_all (λ x. knows_memory (length p.mems) x.op) p.stmts
    && (none_of is_fetch p.stmts
    && (is_below (length p.stages) (verify_stage p.stmts)
    && (is_fixed p.stmts
    && (list_all (λ x. nat_lt x.stage (length p.stages)) p.stmts
    && all_below (λ s. is_fixed (before s p.stmts ++ (in_stage s p.stmts ++ stages_from (suc s) p.stmts))) (length p.stages)))))

-- the locks, the text and the statements of each path pass their tests, and there is a stage
abbrev pub paths_pass : Pipe → Bool
paths_pass p = nat_lt 0 (length p.stages) && (locks_pass p && (text_passes p && on_paths (guard_vars p.stmts) (path_passes p) p.stmts))
