-- The forms in which the simulation takes the facts of an accepted pipe of the whole language (all follow from the record of Facts).
use Rattle.std.specs.Prelude.{◌≡◌, ◌⊎◌, ℕ, suc, ◌<◌, ◌≤◌, Bool, true, false, ◌&&◌, ◌||◌, not, List, [], ◌∷◌, ◌++◌, Some, None, if◌then◌else◌, ◌==◌, length, slice_index}
use Rattle.pdl_semantics.specs.Flat.{Op, Bind, CombRead, DelayedRead, Write, ReserveRead, ReserveWrite, Block, Release, Call, SpecCall, Verify, SpecCheck, SpecBarrier, AdviceBind, AdviceRead, AdviceWrite, Stmt, Forks, Branch, Pipe, all_hold}
use Rattle.pdl_semantics.specs.Stages.{onpath, in_stage, stage_at, is_inside, goes_to, verify_stage, commit_stage, reserve_stage, is_reserve, is_release, is_verify}
use Rattle.pdl_semantics.specs.Cycle.{merges_by}
use Rattle.pdl_semantics.specs.Stages.{is_check}
use Rattle.pdl_semantics.specs.Promises.{KeepsAdvice}
use Rattle.pdl_semantics.specs.Sound.{stages_before, stages_from, is_fetch, is_call, is_delayed_read, is_spec_call}
pub use Rattle.pdl_theory_turns.specs.Graphs.{Home, Within, Trunk, Below, Way, stage_or, next_of, on_side, goes_by}
use Rattle.pdl_theory_turns.specs.Alone.{is_among}
use Rattle.pdl_theory_turns.specs.Scans.{Phase, Fresh, next_phase, may_write, is_new, is_over, phase_all, all_at, none_of, binds_var, is_fixed}
pub use Rattle.pdl_theory_turns.specs.Facts.{trunk_only, binds_guard, is_fetch_of, comes_by, visits_stage}
use Rattle.pdl_theory_turns.specs.GuessScans.{is_update, once}

-- a statement that gives variable x its value in its own stage
abbrev pub sets : ℕ → Op → Bool
sets x (Bind y e) = y == x
sets x (CombRead y m a) = y == x
sets x (DelayedRead y m a) = false
sets x (Write m a e) = false
sets x (ReserveRead m a) = false
sets x (ReserveWrite m a) = false
sets x (Block m a) = false
sets x (Release m a) = false
sets x (Call args) = false
sets x (SpecCall args) = false
sets x (Verify last args) = false
sets x SpecCheck = false
sets x SpecBarrier = false
sets x (AdviceBind _ e) = false
sets x (AdviceRead _ m a) = false
sets x (AdviceWrite m a e) = false

-- whether at most one statement is of a kind
abbrev pub at_most_one : (Op → Bool) → List Stmt → Bool
at_most_one test [] = true
at_most_one test (x ∷ xs) = if test x.op then none_of test xs else at_most_one test xs

-- a statement in this phase of the lock of m: a write goes through the oldest reservation that has no value yet, no location is reserved twice, and no release precedes its write
abbrev pub use_ok : ℕ → Phase → Op → Bool
use_ok m ph (Write n a e) = not (n == m) || may_write ph a
use_ok m ph (ReserveWrite n a) = not (n == m) || is_new ph a
use_ok m ph (Release n a) = not (n == m) || not (is_among a ph.unwritten)
use_ok m ph (Bind x e) = true
use_ok m ph (CombRead x n a) = true
use_ok m ph (DelayedRead x n a) = true
use_ok m ph (ReserveRead n a) = true
use_ok m ph (Block n a) = true
use_ok m ph (Call args) = true
use_ok m ph (SpecCall args) = true
use_ok m ph (Verify last args) = true
use_ok m ph SpecCheck = true
use_ok m ph SpecBarrier = true
use_ok m ph (AdviceBind x e) = true
use_ok m ph (AdviceRead x _ a) = true
use_ok m ph (AdviceWrite _ a e) = true

-- each of these statements is in order in its phase of the lock of m
abbrev pub uses_ok : ℕ → Phase → List Stmt → Bool
uses_ok m ph [] = true
uses_ok m ph (x ∷ xs) = use_ok m ph x.op && uses_ok m (next_phase m ph x.op) xs

-- whether no second thread is called, and each verify follows the call
abbrev pub call_ok : Bool → Op → Bool
call_ok been op = not (been && is_call op) && (been || not (is_check op))

-- these statements call no second thread, and each verify among them follows the call
abbrev pub calls_ok : Bool → List Stmt → Bool
calls_ok been [] = true
calls_ok been (x ∷ xs) = call_ok been x.op && calls_ok (been || is_call x.op) xs

-- values that differ at most in variables to which these statements give one
abbrev pub SameBut : (ℕ → Op → Bool) → List Stmt → List ℕ → List ℕ → Type 0
SameBut test xs env env' = (g : ℕ) → none_of (test g) xs ≡ true → slice_index env g ≡ slice_index env' g

-- on some path stage s leads to stage q
abbrev pub Leads : Pipe → ℕ → ℕ → Type 0
Leads p s q = (path : List ℕ) × (goes_to (stage_at p s).next path ≡ Some q) × (s < length p.stages)

-- the stage graph, by the ways from a stage to the next one (follows from Graph and Branches of Graphs)
pub record Ways (p : Pipe) : Type 0 where
  pub some_stage : 0 < length p.stages
  pub trunk_start : Trunk p 0
  -- a next stage has a greater number, and only the last stage, a trunk stage, has none
  pub up : (s q : ℕ) → Leads p s q → (s < q) × (q < length p.stages)
  pub last : (s : ℕ) (path : List ℕ) → s < length p.stages → goes_to (stage_at p s).next path ≡ None
      → (suc s ≡ length p.stages) × Trunk p s
  -- inside a branch no stage of just this branch is passed over, nor is one of the trunk
  pub jump : (c : List Branch) (s q r : ℕ) → Leads p s q → Within p c s → Home p c r → s < r → r ≤ q → r ≡ q
  -- what stands in a branch between its stages that were reached and its next one stands inside the fork that this one merges
  pub between : (c : List Branch) (s q b : ℕ) → Leads p s q → Within p c s → Home p c q → Below p c b s → Within p c b → b < q
      → (f : ℕ) × ((stage_at p q).merges ≡ Some f) × (is_inside p f b ≡ true)
  -- a way stays in its branches, enters one more from its fork, or leaves the innermost one into the merge
  pub way : (s q : ℕ) → Leads p s q → Way p s q
  pub entry : (x : Branch) (c : List Branch) (q r : ℕ) → Leads p x.fork q → Home p (x ∷ c) q → Within p (x ∷ c) r → q ≤ r
  -- a branch's stages stand after its fork, which stands in the branches around it
  pub fork_below : (x : Branch) (c : List Branch) (s : ℕ) → Within p (x ∷ c) s → Home p c x.fork × (x.fork < s)
  -- into a merge a thread comes straight from the fork or from the last stage of a branch
  pub merge : (s q f : ℕ) → Leads p s q → (stage_at p q).merges ≡ Some f
      → ((s ≡ f) × ((stage_at p q).branches ≡ (stage_at p s).branches))
      ⊎ ((x : Branch) × ((stage_at p s).branches ≡ x ∷ (stage_at p q).branches) × (x.fork ≡ f) × ((b : ℕ) → Within p (x ∷ (stage_at p q).branches) b → b ≤ s))
  -- a fork whose merge is no later than a trunk stage v is wholly before v, any other is not before v
  pub merged : (v f b : ℕ) → v < length p.stages → Trunk p v → is_inside p f b ≡ true → merges_by p f (Some v) ≡ true → b < v
  pub unmerged : (v f b : ℕ) → v < length p.stages → Trunk p v → is_inside p f b ≡ true → merges_by p f (Some v) ≡ false → v ≤ f

-- the facts. A path is a list of values of all variables, of which those of guards count
pub record Flows (p : Pipe) : Type 0 where
  pub graph : Ways p
  -- F1: a branch holds no reserve, release, call or statement of guesses
  pub branches : (x : Branch) (c : List Branch) (s : ℕ) → Home p (x ∷ c) s → none_of trunk_only (in_stage s p.stmts) ≡ true
  -- L2, F1: a memory's reserves stand in one trunk stage, and so do its releases; S3: the verifies stand in one stage
  pub reserves : (m : ℕ) → all_at (is_reserve m) (reserve_stage p m) p.stmts ≡ true
  pub releases : (m : ℕ) → all_at (is_release m) (commit_stage p m) p.stmts ≡ true
  pub trunk_reserve : (m : ℕ) → Trunk p (reserve_stage p m)
  pub trunk_commit : (m : ℕ) → Trunk p (commit_stage p m)
  pub verifies : (v : ℕ) → verify_stage p.stmts ≡ Some v → all_at is_verify v p.stmts ≡ true
  -- N2, N3: each variable has one definition, before each use, so a guard's variable is not bound where it is tested or later in the text
  pub fixed_guards : is_fixed p.stmts ≡ true
  -- a path's statements stand in the order of their stages, and those before its next stage are those up to its stage
  pub first_piece : (path : List ℕ) → onpath path (stages_before 0 p.stmts) ≡ []
  pub next_piece : (path : List ℕ) (s : ℕ) → s < length p.stages → visits_stage p path s ≡ true
      → onpath path (stages_before (next_of p s path) p.stmts) ≡ onpath path (stages_before s p.stmts) ++ onpath path (in_stage s p.stmts)
  pub all_pieces : (path : List ℕ) (s : ℕ) → onpath path p.stmts ≡ onpath path (stages_before s p.stmts) ++ onpath path (stages_from s p.stmts)
  pub whole : (path : List ℕ) → onpath path (stages_before (length p.stages) p.stmts) ≡ onpath path p.stmts
  -- the next stage of a path stands on it
  pub arrives : (path : List ℕ) (s q : ℕ) → s < length p.stages → goes_to (stage_at p s).next path ≡ Some q
      → visits_stage p path s ≡ true → visits_stage p path q ≡ true
  -- N2, N3: what a path's statements of stage s bind at once is no guard of an earlier stage's statement, nor of the fork around s, so values that differ in these alone take the same earlier statements
  pub steady : (s : ℕ) (env env' : List ℕ) → visits_stage p env s ≡ true → SameBut sets (onpath env' (in_stage s p.stmts)) env env'
      → (onpath env (stages_before s p.stmts) ≡ onpath env' (stages_before s p.stmts)) × (visits_stage p env s ≡ visits_stage p env' s)
  -- N2, N3: a delayed read's variable is used after the next separator on the path, so it is no guard in its own stage either, nor that of the next stage's fork
  pub settled : (s : ℕ) (env env' : List ℕ) → s < length p.stages → visits_stage p env' s ≡ true
      → SameBut is_fetch_of (onpath env' (in_stage s p.stmts)) env env'
      → (onpath env (stages_before (next_of p s env') p.stmts) ≡ onpath env' (stages_before (next_of p s env') p.stmts))
      × (visits_stage p env (next_of p s env') ≡ visits_stage p env' (next_of p s env'))
  -- L1, L4, L5, L6: on each path at most one write reservation of a memory, one write through it, and no release before it
  pub uses : (path : List ℕ) (m : ℕ) → uses_ok m Fresh (onpath path p.stmts) ≡ true
  -- L6, L7: it is written and released in the end
  pub over : (path : List ℕ) (m : ℕ) → is_over (phase_all m Fresh (onpath path p.stmts)) ≡ true
  -- N1: only memories that are there are reserved, released and read
  pub unreserved : (m : ℕ) → length p.mems ≤ m → none_of (is_reserve m) p.stmts ≡ true
  pub unreleased : (m : ℕ) → length p.mems ≤ m → length p.stages ≤ commit_stage p m
  pub unfetched : (m : ℕ) → length p.mems ≤ m → none_of (is_delayed_read m) p.stmts ≡ true
  -- S1, S2, N3: on each path one call or speculative call, and a verify after it
  pub calls : (path : List ℕ) → calls_ok false (onpath path p.stmts) ≡ true
  -- F4, F5: a statement takes a memory by its kind
  pub advice : KeepsAdvice p
  -- S2, S3: a stage of a path that makes a guess verifies none
  pub guess_apart : (path : List ℕ) (s : ℕ)
      → (none_of is_spec_call (onpath path (in_stage s p.stmts)) ≡ true) ⊎ (none_of is_check (onpath path (in_stage s p.stmts)) ≡ true)
  -- S6: each path has one update at most
  pub updates : (path : List ℕ) → once is_update false (onpath path p.stmts) ≡ true
  -- S3, S6: a stage of a path that updates a guess verifies none
  pub update_apart : (path : List ℕ) (s : ℕ)
      → (none_of is_update (onpath path (in_stage s p.stmts)) ≡ true) ⊎ (none_of is_verify (onpath path (in_stage s p.stmts)) ≡ true)
  -- F3: no second delayed read statement of one memory, and none in the last stage
  pub one_fetch : (m : ℕ) → at_most_one (is_delayed_read m) p.stmts ≡ true
  pub fetch_inside : (s : ℕ) → suc s ≡ length p.stages → none_of is_fetch (in_stage s p.stmts) ≡ true

-- THE SAME FACTS, AS THE RULES SAY THEM

-- what holds of each statement
abbrev pub AllOf : (Stmt → Type 0) → List Stmt → Type 0
AllOf holds_location [] = Unit {0}
AllOf holds_location (x ∷ xs) = holds_location x × AllOf holds_location xs

-- a definition in stage s for a use in stage r: not later, and earlier if it is a delayed read
abbrev pub DefinedBy : ℕ → Op → ℕ → Type 0
DefinedBy s op r = (s ≤ r) × (is_fetch op ≡ true → s < r)

-- the facts that the simulation takes, in the form in which the rules give them
pub record FlowRules (p : Pipe) : Type 0 where
  pub graph : Ways p
  -- F1
  pub branches : (x : Branch) (c : List Branch) (s : ℕ) → Home p (x ∷ c) s → none_of trunk_only (in_stage s p.stmts) ≡ true
  -- L2, F1, S3
  pub reserves : (m : ℕ) → all_at (is_reserve m) (reserve_stage p m) p.stmts ≡ true
  pub releases : (m : ℕ) → all_at (is_release m) (commit_stage p m) p.stmts ≡ true
  pub trunk_reserve : (m : ℕ) → Trunk p (reserve_stage p m)
  pub trunk_commit : (m : ℕ) → Trunk p (commit_stage p m)
  pub verifies : (v : ℕ) → verify_stage p.stmts ≡ Some v → all_at is_verify v p.stmts ≡ true
  -- N2, N3: a guard's variable is bound nowhere but before it in the text
  pub fixed_guards : is_fixed p.stmts ≡ true
  -- statements stand in the pipe's stages, those of a path in the order of their stages
  pub inside : AllOf (λ z. z.stage < length p.stages) p.stmts
  pub order : (path : List ℕ) (s : ℕ) → onpath path p.stmts ≡ onpath path (stages_before s p.stmts) ++ onpath path (stages_from s p.stmts)
  -- between a stage of a path and its next one the path has no statement, and the next stage stands on the path
  pub on_stages : (path : List ℕ) (s : ℕ) → s < length p.stages → visits_stage p path s ≡ true
      → AllOf (λ z. all_hold z.guards path ≡ true → (z.stage ≤ s) ⊎ (next_of p s path ≤ z.stage)) p.stmts
  pub arrives : (path : List ℕ) (s q : ℕ) → s < length p.stages → goes_to (stage_at p s).next path ≡ Some q
      → visits_stage p path s ≡ true → visits_stage p path q ≡ true
  -- N2, N3: the definition of a guard's variable stands before each use of a path, a delayed read's before the separator before it
  pub guards_late : (path : List ℕ)
      → AllOf (λ z. all_hold z.guards path ≡ true → AllOf (λ y. binds_guard y.op z.guards ≡ true → DefinedBy y.stage y.op z.stage) p.stmts) p.stmts
  -- and that of a fork's guard before the fork, where some path comes to it
  pub forks_late : (path : List ℕ) (s x a b : ℕ) → visits_stage p path s ≡ true → (stage_at p s).next ≡ Forks x a b
      → AllOf (λ y. binds_var x y.op ≡ true → DefinedBy y.stage y.op s) p.stmts
  -- L1, L4 to L7
  pub uses : (path : List ℕ) (m : ℕ) → uses_ok m Fresh (onpath path p.stmts) ≡ true
  pub over : (path : List ℕ) (m : ℕ) → is_over (phase_all m Fresh (onpath path p.stmts)) ≡ true
  -- N1
  pub unreserved : (m : ℕ) → length p.mems ≤ m → none_of (is_reserve m) p.stmts ≡ true
  pub unreleased : (m : ℕ) → length p.mems ≤ m → length p.stages ≤ commit_stage p m
  pub unfetched : (m : ℕ) → length p.mems ≤ m → none_of (is_delayed_read m) p.stmts ≡ true
  -- S1, S2, N3
  pub calls : (path : List ℕ) → calls_ok false (onpath path p.stmts) ≡ true
  -- F4, F5: a statement takes a memory by its kind
  pub advice : KeepsAdvice p
  -- S2, S3: a stage of a path that makes a guess verifies none
  pub guess_apart : (path : List ℕ) (s : ℕ)
      → (none_of is_spec_call (onpath path (in_stage s p.stmts)) ≡ true) ⊎ (none_of is_check (onpath path (in_stage s p.stmts)) ≡ true)
  -- S6: each path has one update at most
  pub updates : (path : List ℕ) → once is_update false (onpath path p.stmts) ≡ true
  -- S3, S6: a stage of a path that updates a guess verifies none
  pub update_apart : (path : List ℕ) (s : ℕ)
      → (none_of is_update (onpath path (in_stage s p.stmts)) ≡ true) ⊎ (none_of is_verify (onpath path (in_stage s p.stmts)) ≡ true)
  -- F3
  pub one_fetch : (m : ℕ) → at_most_one (is_delayed_read m) p.stmts ≡ true
  pub fetch_inside : (s : ℕ) → suc s ≡ length p.stages → none_of is_fetch (in_stage s p.stmts) ≡ true
