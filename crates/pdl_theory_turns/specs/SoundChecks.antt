-- The facts of an accepted pipe of the whole language, as tests that compute.
use Rattle.std.specs.Prelude.{ℕ, suc, Bool, true, false, ◌&&◌, ◌||◌, not, List, [], ◌∷◌, ◌++◌, Option, Some, None, if◌then◌else◌, nat_lt, nat_le, ◌==◌, length, slice_set}
use Rattle.pdl_theory_turns.specs.semantics.Flat.{list_all, Op, Guard, Stmt, Next, Ends, Goes, Forks, Branch, Pipe, all_hold, start_env}
use Rattle.pdl_theory_turns.specs.semantics.Forms.{on_delayed_read}
use Rattle.pdl_theory_turns.specs.semantics.Stages.{onpath, in_stage, stage_at, is_inside, mem_at, commit_stage, reserve_stage, verify_stage, is_verify, fork_guards}
use Rattle.pdl_theory_turns.specs.semantics.Promises.{fits_kind}
use Rattle.pdl_theory_turns.specs.semantics.Sound.{all_below, stages_from, is_fetch, is_delayed_read}
use Rattle.pdl_theory_turns.specs.Alone.{before}
use Rattle.pdl_theory_turns.specs.Scans.{none_of, all_at, binds_var}
use Rattle.pdl_theory_turns.specs.semantics.Cycle.{merges_by}
use Rattle.pdl_theory_turns.specs.Graphs.{next_of}
use Rattle.pdl_theory_turns.specs.Facts.{trunk_only, is_dead, late_for, is_unseen, fetch_apart, is_exact, is_fetch_of, visits_stage, at_once}
use Rattle.pdl_theory_turns.specs.Checks.{guard_vars, paths_pass}

-- THE STAGE GRAPH

-- the stages that may come next, K after the last one
abbrev pub nexts_of : ℕ → Next → List ℕ
nexts_of k Ends = k ∷ []
nexts_of k (Goes to) = to ∷ []
nexts_of k (Forks x a b) = a ∷ b ∷ []

-- the stages that may come after stage s of a pipe, the number of its stages after the last one
abbrev pub nexts : Pipe → ℕ → List ℕ
nexts p s = nexts_of (length p.stages) (stage_at p s).next

-- whether two branches are the same
abbrev pub same_branch : Branch → Branch → Bool
same_branch b c = (b.fork == c.fork) && (if b.first then c.first else not c.first)

-- whether two lists of branches are the same
abbrev pub same_branches : List Branch → List Branch → Bool
same_branches [] [] = true
same_branches (b ∷ bs) (c ∷ cs) = same_branch b c && same_branches bs cs
same_branches _ _ = false

-- whether a stage stands in just these branches
abbrev pub is_home : Pipe → List Branch → ℕ → Bool
is_home p c s = same_branches (stage_at p s).branches c

-- whether these branches are the ones that stand around some branches, or all of them
abbrev pub has_outer : List Branch → List Branch → Bool
has_outer [] c = same_branches [] c
has_outer (b ∷ bs) c = same_branches (b ∷ bs) c || has_outer bs c

-- whether a stage stands in these branches and perhaps further inside
abbrev pub is_within : Pipe → List Branch → ℕ → Bool
is_within p c s = has_outer (stage_at p s).branches c

-- whether stage s stands in no branch
abbrev pub is_trunk : Pipe → ℕ → Bool
is_trunk p s = is_home p [] s

-- what holds of some branches, and of those around them
abbrev pub all_outer : (List Branch → Bool) → List Branch → Bool
all_outer test [] = test []
all_outer test (b ∷ bs) = test (b ∷ bs) && all_outer test bs

-- a way on leads to a stage
abbrev pub leads_in : ℕ → Next → Bool
leads_in k Ends = true
leads_in k (Goes to) = nat_lt to k
leads_in k (Forks x a b) = nat_lt a k && nat_lt b k

-- whether some number below n passes the test
abbrev pub any_below : (ℕ → Bool) → ℕ → Bool
any_below test n = not (all_below (λ m. not (test m)) n)

-- a stage of just these branches that stage s has passed or stands in stands at b or after it
abbrev pub is_passed : Pipe → List Branch → ℕ → ℕ → Bool
is_passed p c s b = any_below (λ r. is_home p c r && nat_le b r) (suc s)

-- whether stage b is inside the fork that is merged, if one is
abbrev pub is_in_merge : Pipe → Option ℕ → ℕ → Bool
is_in_merge p None b = false
is_in_merge p (Some f) b = is_inside p f b

-- a way stays in its branches, enters one more from its fork in its first stage, or leaves the innermost one into the merge: whether it stays
abbrev pub stays : Pipe → ℕ → ℕ → Bool
stays p s n = same_branches (stage_at p n).branches (stage_at p s).branches

-- whether stage n is the first one of the innermost of its branches, and stage s is the fork of that
abbrev pub is_entered : Pipe → ℕ → ℕ → List Branch → Bool
is_entered p s n [] = false
is_entered p s n (x ∷ c) =
    same_branches c (stage_at p s).branches
    && ((x.fork == s) && all_below (λ r. not (is_within p (x ∷ c) r) || nat_le n r) (length p.stages))

-- whether a stage that merges this fork, or none, merges fork f
abbrev pub merges_it : Option ℕ → ℕ → Bool
merges_it None f = false
merges_it (Some g) f = g == f

-- whether stage n merges the fork of the innermost of these branches, and stands in those around it
abbrev pub is_left : Pipe → ℕ → List Branch → Bool
is_left p n [] = false
is_left p n (x ∷ c) = same_branches c (stage_at p n).branches && merges_it (stage_at p n).merges x.fork

-- whether a way from stage s to stage n is one of the three
abbrev pub is_way : Pipe → ℕ → ℕ → Bool
is_way p s n = stays p s n || (is_entered p s n (stage_at p n).branches || is_left p n (stage_at p s).branches)

-- n may come after stage s: no trunk stage lies between, and the branch or the merge in n is rightly entered
abbrev pub next_passes : Pipe → ℕ → ℕ → Bool
next_passes p s n =
    nat_lt s n
    && (nat_le n (length p.stages)
    && (all_outer (λ c. all_below (λ r. not (is_home p c r) || not (nat_lt s r && nat_lt r n)) (length p.stages)) (stage_at p s).branches
    && ((not (n == length p.stages) || (is_trunk p s && (suc s == length p.stages)))
    && (all_below (λ b. not (is_within p (stage_at p n).branches b) || (is_passed p (stage_at p n).branches s b || is_in_merge p (stage_at p n).merges b)) n
    && is_way p s n))))

-- a branch's fork stands before it, in the branches around it
abbrev pub branch_passes : Pipe → ℕ → List Branch → Bool
branch_passes p s [] = true
branch_passes p s (x ∷ c) = is_home p c x.fork && (nat_lt x.fork s && branch_passes p s c)

-- a way stages_from a fork leads into a branch of its own side
abbrev pub side_is : ℕ → Bool → List Branch → Bool
side_is s first [] = true
side_is s first (x ∷ c) = not (x.fork == s) || (if x.first then first else not first)

-- a stage stands in no branch of a fork in stage s
abbrev pub no_side : ℕ → List Branch → Bool
no_side s [] = true
no_side s (x ∷ c) = not (x.fork == s)

-- from stage s only a fork leads into branches of a fork in s, each way into one of its side
abbrev pub side_passes : Pipe → ℕ → Next → Bool
side_passes p s Ends = true
side_passes p s (Goes to) = no_side s (stage_at p to).branches
side_passes p s (Forks x a b) = side_is s true (stage_at p a).branches && side_is s false (stage_at p b).branches

-- the ways on from stage s, and the branch in which it stands, pass their tests
abbrev pub stage_sound : Pipe → ℕ → Bool
stage_sound p s =
    leads_in (length p.stages) (stage_at p s).next
    && (list_all (next_passes p s) (nexts p s) && (branch_passes p s (stage_at p s).branches && side_passes p s (stage_at p s).next))

-- FORKS AND BARRIERS

-- the variable of a fork in stage s is there, bound in no later stage, and read delayed by none in s
abbrev pub fork_sound : Pipe → ℕ → Next → Bool
fork_sound p s Ends = true
fork_sound p s (Goes to) = true
fork_sound p s (Forks x a b) = nat_lt x p.vars && (none_of (binds_var x) (stages_from (suc s) p.stmts) && none_of (is_fetch_of x) (in_stage s p.stmts))

-- a stage is the last one of a branch of this fork
abbrev pub is_last_of : Pipe → ℕ → ℕ → ℕ → List Branch → Bool
is_last_of p s f n [] = false
is_last_of p s f n (x ∷ c) =
    same_branches c (stage_at p n).branches
    && ((x.fork == f) && all_below (λ b. not (is_within p (x ∷ c) b) || nat_le b s) (length p.stages))

-- a merge is entered stages_from its fork or stages_from the last stage of a branch
abbrev pub merge_sound : Pipe → ℕ → Option ℕ → ℕ → Bool
merge_sound p s None n = true
merge_sound p s (Some f) n = ((s == f) && stays p s n) || is_last_of p s f n (stage_at p s).branches

-- each branch is wholly before a trunk stage v, or its fork is not before v
abbrev pub branch_whole : Pipe → ℕ → ℕ → List Branch → Bool
branch_whole p v b [] = true
branch_whole p v b (x ∷ c) = (if merges_by p x.fork (Some v) then nat_lt b v else nat_le v x.fork) && branch_whole p v b c

-- each branch is wholly before the verifies' stage, or its fork is not before it, where there is one
abbrev pub forks_whole : Pipe → ℕ → Bool
forks_whole p v = not (is_trunk p v) || all_below (λ b. branch_whole p v b (stage_at p b).branches) (length p.stages)

-- each verify stands in this stage, if there is one
abbrev pub verifies_at : Pipe → Option ℕ → Bool
verifies_at p None = true
verifies_at p (Some v) = all_at is_verify v p.stmts

-- PATHS

-- over all values of these guards
abbrev pub all_paths : List ℕ → (List ℕ → Bool) → List ℕ → Bool
all_paths [] test path = test path
all_paths (g ∷ gs) test path = all_paths gs test (slice_set path g 0) && all_paths gs test (slice_set path g 1)

-- no statement stands in a stage stages_from a on and before b
abbrev pub none_between : ℕ → ℕ → List Stmt → Bool
none_between a b [] = true
none_between a b (x ∷ xs) = not (nat_le a x.stage && nat_lt x.stage b) && none_between a b xs

-- a path has no statement between a stage that it comes to and the next one
abbrev pub skip_passes : Pipe → List ℕ → Bool
skip_passes p path = all_below (λ s. not (visits_stage p path s) || none_between (suc s) (next_of p s path) (onpath path p.stmts)) (length p.stages)

-- the variables of all guards of statements and of forks
abbrev pub all_guards : Pipe → List ℕ
all_guards p = guard_vars p.stmts ++ fork_guards p.stages

-- DELAYED READS

-- the stage of the first delayed read of m
abbrev pub fetch_stage : ℕ → List Stmt → ℕ
fetch_stage m [] = 0
fetch_stage m (y ∷ ys) = if is_delayed_read m y.op then y.stage else fetch_stage m ys

-- a delayed read in stage s is where its memory's first one is, and bound no later than the releases
abbrev pub fetch_sound : Pipe → ℕ → List Guard → Op → Bool
fetch_sound p s gs op =
    on_delayed_read (λ x m a. (fetch_stage m p.stmts == s)
    && (nat_lt m (length p.mems)
    && (is_exact (mem_at p m).lock
    && (is_dead gs || list_all (λ n. nat_le n (commit_stage p m)) (nexts p s)))))
    true op

-- the guards on variables that these statements don't read delayed
abbrev pub unfetched_guards : List Stmt → List Guard → List Guard
unfetched_guards ys [] = []
unfetched_guards ys (g ∷ gs) = if none_of (is_fetch_of g.var) ys then g ∷ unfetched_guards ys gs else unfetched_guards ys gs

-- a path takes none of these statements that has another guard, whatever the values of those variables
abbrev pub none_hangs : List ℕ → List Stmt → List Stmt → Bool
none_hangs path ys [] = true
none_hangs path ys (z ∷ zs) =
    (list_all (λ g. none_of (is_fetch_of g.var) ys) z.guards || not (all_hold (unfetched_guards ys z.guards) path)) && none_hangs path ys zs

-- what a stage reads delayed decides no guard on this path before the path's next stage
abbrev pub blind_passes : Pipe → List ℕ → Bool
blind_passes p path = all_below (λ s. none_hangs path (in_stage s p.stmts) (before (next_of p s path) p.stmts)) (length p.stages)

-- all tests
abbrev pub tests : Pipe → List Bool
tests p =
    paths_pass (at_once p)
    ∷ is_trunk p 0
    ∷ all_below (stage_sound p) (length p.stages)
    ∷ all_below (λ m. is_trunk p (reserve_stage p m) && is_trunk p (commit_stage p m)) (length p.mems)
    ∷ all_below (λ s. is_trunk p s || none_of trunk_only (in_stage s p.stmts)) (length p.stages)
    ∷ all_below (λ s. fork_sound p s (stage_at p s).next) (length p.stages)
    ∷ list_all (λ g. nat_lt g p.vars) (all_guards p)
    ∷ all_paths (all_guards p) (skip_passes p) (start_env p [])
    ∷ list_all (λ y. fetch_sound p y.stage y.guards y.op) p.stmts
    ∷ list_all (λ y. nat_lt y.stage (length p.stages)) p.stmts
    ∷ all_below (λ s. is_unseen (in_stage s p.stmts)) (length p.stages)
    ∷ all_below (λ s. fetch_apart (in_stage s p.stmts)) (length p.stages)
    ∷ all_below (λ s. list_all (λ n. merge_sound p s (stage_at p n).merges n) (nexts p s)) (length p.stages)
    ∷ all_below (forks_whole p) (length p.stages)
    ∷ verifies_at p (verify_stage p.stmts)
    ∷ list_all (λ z. is_dead z.guards || late_for z p.stmts) p.stmts
    ∷ all_below (λ s. not (suc s == length p.stages) || none_of is_fetch (in_stage s p.stmts)) (length p.stages)
    ∷ all_paths (all_guards p) (blind_passes p) (start_env p [])
    ∷ list_all (λ y. fits_kind p y.op) p.stmts
    ∷ []

-- a pipe passes all tests
abbrev pub passes_tests : Pipe → Bool
passes_tests p = list_all (λ b. b) (tests p)
