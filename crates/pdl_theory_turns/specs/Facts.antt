-- WHAT IS TAKEN OF AN ACCEPTED PIPE OF THE WHOLE LANGUAGE: facts that the rules of the language give, of its text, of its stage graph, and of the statements of each path.
use Rattle.std.specs.Prelude.{◌≡◌, ℕ, suc, ◌≤◌, ◌<◌, Bool, true, false, ◌&&◌, ◌||◌, not, List, [], ◌∷◌, Some, ◌==◌, length, nat_lt, nat_le, slice_index}
use Rattle.pdl_theory_turns.specs.semantics.Flat.{list_all, Op, Bind, CombRead, DelayedRead, Write, ReserveRead, ReserveWrite, Block, Release, Call, SpecCall, Verify, SpecCheck, SpecBarrier, AdviceBind, AdviceRead, AdviceWrite, Expr, Constant, Variable, Slice, Not, Binary, Cat, LessSigned, ZeroExtend, SignExtend, Choose, Guard, Stmt, Forks, Branch, Pipe}
use Rattle.pdl_theory_turns.specs.semantics.Forms.{on_delayed_read}
use Rattle.pdl_theory_turns.specs.semantics.Stages.{is_inside, is_reserve, is_verify, onpath, in_stage, stage_at, mem_at, verify_stage, commit_stage, reserve_stage}
pub use Rattle.pdl_theory_turns.specs.semantics.Locks.{is_exact}
use Rattle.pdl_theory_turns.specs.Alone.{before, answered_op}
use Rattle.pdl_theory_turns.specs.Scans.{none_of, all_at, binds_var}
pub use Rattle.pdl_theory_turns.specs.Scans.{against, is_dead}
use Rattle.pdl_theory_turns.specs.semantics.Cycle.{merges_by}
use Rattle.pdl_theory_turns.specs.Graphs.{Trunk, next_of, Graph, Home, Branches, goes_by}
use Rattle.pdl_theory_turns.specs.semantics.Promises.{KeepsAdvice}
use Rattle.pdl_theory_turns.specs.Accepted.{Pathwise}
use Rattle.pdl_theory_turns.specs.semantics.Sound.{stages_from, is_fetch}

-- USES OF A VARIABLE

-- whether variable x stands in an expression
abbrev pub uses_in : ℕ → Expr → Bool
uses_in x (Constant w v) = false
uses_in x (Variable y) = y == x
uses_in x (Slice y high low) = y == x
uses_in x (Not w a) = uses_in x a
uses_in x (Binary op w a b) = uses_in x a || uses_in x b
uses_in x (Cat a w b) = uses_in x a || uses_in x b
uses_in x (LessSigned w a b) = uses_in x a || uses_in x b
uses_in x (ZeroExtend wide a) = uses_in x a
uses_in x (SignExtend w wide a) = uses_in x a
uses_in x (Choose c a b) = uses_in x c || (uses_in x a || uses_in x b)

-- whether variable x stands in one of these expressions
abbrev pub uses_any : ℕ → List Expr → Bool
uses_any x [] = false
uses_any x (e ∷ es) = uses_in x e || uses_any x es

-- whether a statement binds a variable or uses its value; advisory statements, by which no path and no lock is told, are left out
abbrev pub mentions_var : ℕ → Op → Bool
mentions_var x (Bind y e) = (y == x) || uses_in x e
mentions_var x (CombRead y m a) = (y == x) || (a == x)
mentions_var x (DelayedRead y m a) = (y == x) || (a == x)
mentions_var x (Write m a e) = (a == x) || uses_in x e
mentions_var x (ReserveWrite m a) = a == x
mentions_var x (Block m a) = a == x
mentions_var x (Call args) = uses_any x args
mentions_var x (SpecCall args) = uses_any x args
mentions_var x (Verify last args) = uses_any x args
mentions_var x (ReserveRead m a) = false
mentions_var x (Release m a) = false
mentions_var x SpecCheck = false
mentions_var x SpecBarrier = false
mentions_var x (AdviceBind _ e) = false
mentions_var x (AdviceRead _ m a) = false
mentions_var x (AdviceWrite m a e) = false

-- whether one of these guards is on variable x
abbrev pub asks_for : ℕ → List Guard → Bool
asks_for x [] = false
asks_for x (g ∷ gs) = (g.var == x) || asks_for x gs

-- no statement of a path has a guard on x or anything to do with it
abbrev pub silent_on : ℕ → List Stmt → Bool
silent_on x [] = true
silent_on x (y ∷ ys) = (is_dead y.guards || (not (asks_for x y.guards) && not (mentions_var x y.op))) && silent_on x ys

-- FORKS

-- statements that no branch of a fork may hold
abbrev pub trunk_only : Op → Bool
trunk_only (ReserveRead m a) = true
trunk_only (ReserveWrite m a) = true
trunk_only (Release m a) = true
trunk_only (Call args) = true
trunk_only (SpecCall args) = true
trunk_only (Verify last args) = true
trunk_only SpecCheck = true
trunk_only SpecBarrier = true
trunk_only (AdviceBind x e) = false
trunk_only (AdviceRead x m a) = false
trunk_only (AdviceWrite m a e) = false
trunk_only (Bind x e) = false
trunk_only (CombRead x m a) = false
trunk_only (DelayedRead x m a) = false
trunk_only (Write m a e) = false
trunk_only (Block m a) = false

-- DELAYED READS

-- N3: in its stage nothing after a delayed read has to do with its variable
abbrev pub unseen_op : Op → List Stmt → Bool
unseen_op op ys = on_delayed_read (λ x m a. silent_on x ys) true op

-- no statement after a delayed read among these has to do with its variable
abbrev pub is_unseen : List Stmt → Bool
is_unseen [] = true
is_unseen (y ∷ ys) = unseen_op y.op ys && is_unseen ys

-- N2, F3: delayed reads of one stage have different memories and variables
abbrev pub fetches_no : ℕ → ℕ → Op → Bool
fetches_no x m op = on_delayed_read (λ y n a. not (x == y) && not (m == n)) true op

-- no delayed read among these statements is into x or of m
abbrev pub none_like : ℕ → ℕ → List Stmt → Bool
none_like x m [] = true
none_like x m (y ∷ ys) = fetches_no x m y.op && none_like x m ys

-- a delayed read has another variable and another memory than each one among these statements
abbrev pub alone_op : Op → List Stmt → Bool
alone_op op ys = on_delayed_read (λ x m a. none_like x m ys) true op

-- each two delayed reads among these statements have different variables and memories
abbrev pub fetch_apart : List Stmt → Bool
fetch_apart [] = true
fetch_apart (y ∷ ys) = alone_op y.op ys && fetch_apart ys

-- a delayed read of m in stage s, whether it stands on a path or not: F3, N1, and Z7, that the lock of a delayed memory finds no pending write where it is ready
abbrev pub Found : Pipe → (ℕ → ℕ) → ℕ → ℕ → Type 0
Found p fetch s m = (fetch m ≡ s) × (m < length p.mems) × (is_exact (mem_at p m).lock ≡ true)

-- one into x that stands on some path
pub record FetchOk (p : Pipe) (fetch : ℕ → ℕ) (s x m : ℕ) : Type 0 where
  -- F3: the delayed reads of a memory stand in one stage
  pub here : fetch m ≡ s
  pub known : m < length p.mems
  pub exact : is_exact (mem_at p m).lock ≡ true
  -- L8: it is bound no later than the releases
  pub early : (env : List ℕ) → next_of p s env ≤ commit_stage p m

-- what is known of a delayed read in stage s under these guards, and nothing of any other statement
abbrev pub FetchIf : Pipe → (ℕ → ℕ) → ℕ → List Guard → Op → Type 0
FetchIf p fetch s gs op = on_delayed_read (λ x m a. Found p fetch s m × (is_dead gs ≡ false → FetchOk p fetch s x m)) (Unit {0}) op

-- what is known of delayed reads in stage s holds of each one among these statements
abbrev pub AllFetches : Pipe → (ℕ → ℕ) → ℕ → List Stmt → Type 0
AllFetches p fetch s [] = Unit {0}
AllFetches p fetch s (y ∷ ys) = FetchIf p fetch s y.guards y.op × AllFetches p fetch s ys

-- whether a statement is a delayed read into x
abbrev pub is_fetch_of : ℕ → Op → Bool
is_fetch_of x op = on_delayed_read (λ y m a. y == x) false op

-- values that differ in what these statements read delayed, and in nothing else
abbrev pub DifferIn : List Stmt → List ℕ → List ℕ → Type 0
DifferIn ys env env' = (x : ℕ) → none_of (is_fetch_of x) ys ≡ true → slice_index env' x ≡ slice_index env x

-- GUARDS

-- whether a statement binds the variable of one of these guards
abbrev pub binds_guard : Op → List Guard → Bool
binds_guard op [] = false
binds_guard op (g ∷ gs) = binds_var g.var op || binds_guard op gs

-- a definition in stage s for a use in stage r: not later, and earlier if it is a delayed read
abbrev pub defined_by : ℕ → Op → ℕ → Bool
defined_by s op r = nat_le s r && (not (is_fetch op) || nat_lt s r)

-- where one of these statements binds a guard's variable of z, it defines that early enough for z
abbrev pub late_for : Stmt → List Stmt → Bool
late_for z [] = true
late_for z (y ∷ ys) = (not (binds_guard y.op z.guards) || defined_by y.stage y.op z.stage) && late_for z ys

-- THE PIPE

-- where each delayed read has its answer at once
abbrev pub looked_all : List Stmt → List Stmt
looked_all [] = []
looked_all (x ∷ xs) = record x { op = answered_op x.op } ∷ looked_all xs

-- a pipe whose delayed reads have their answers at once
abbrev pub at_once : Pipe → Pipe
at_once p = record p { stmts = looked_all p.stmts }

-- whether a path comes to a stage: at each fork around it it takes this branch
abbrev pub comes_by : Pipe → List ℕ → List Branch → Bool
comes_by p path [] = true
comes_by p path (c ∷ cs) = goes_by p c path && comes_by p path cs

-- whether a path comes to stage s, by the branches that this stands in
abbrev pub visits_stage : Pipe → List ℕ → ℕ → Bool
visits_stage p path s = comes_by p path (stage_at p s).branches

-- what is taken of an accepted pipe of the whole language: of its stages, paths, forks, locks and delayed reads
pub record Sound (p : Pipe) : Type 0 where
  -- part C, F1, F2: the stages
  pub graph : Graph p
  pub branches : Branches p
  -- the rules of each path, where delayed reads are reads: N2, N3, L1 to L8, S1 to S4, and of the locks: Z7, F5
  pub pathwise : Pathwise (at_once p)
  -- F1: a branch holds no reserve, release, call or statement of guesses
  pub trunk_holds : (x : Branch) (c : List Branch) (s : ℕ) → Home p (x ∷ c) s → none_of trunk_only (in_stage s p.stmts) ≡ true
  -- F1: a fork whose merge is no later than a trunk stage v is wholly before it, any other is not before it
  pub merged : (v f b : ℕ) → v < length p.stages → Trunk p v → is_inside p f b ≡ true → merges_by p f (Some v) ≡ true → b < v
  pub unmerged : (v f b : ℕ) → v < length p.stages → Trunk p v → is_inside p f b ≡ true → merges_by p f (Some v) ≡ false → v ≤ f
  -- part C: statements stand in the pipe's stages
  pub inside : list_all (λ y. nat_lt y.stage (length p.stages)) p.stmts ≡ true
  -- L2, S3: a memory's reserves stand in one stage, and so do the verifies
  pub reserves : (m : ℕ) → all_at (is_reserve m) (reserve_stage p m) p.stmts ≡ true
  pub verifies : (v : ℕ) → verify_stage p.stmts ≡ Some v → all_at is_verify v p.stmts ≡ true
  -- N1: only memories that are there are reserved and released
  pub unreserved : (m : ℕ) → length p.mems ≤ m → none_of (is_reserve m) p.stmts ≡ true
  pub unreleased : (m : ℕ) → length p.mems ≤ m → length p.stages ≤ commit_stage p m
  -- N2, N3: the definition of a guard's variable stands before each use of a path, a delayed read's before the separator before it
  pub guards_late : list_all (λ z. is_dead z.guards || late_for z p.stmts) p.stmts ≡ true
  -- part C: a path has no statement in the stages that it passes over
  pub skips : (path : List ℕ) (s : ℕ) → s < length p.stages → visits_stage p path s ≡ true
      → before (next_of p s path) (onpath path p.stmts) ≡ before (suc s) (onpath path p.stmts)
  -- N2, N3: a fork's variable is bound before its stage ends, and read at once where some path comes to the fork
  pub fork_bound : (s x a b : ℕ) → (stage_at p s).next ≡ Forks x a b → none_of (binds_var x) (stages_from (suc s) p.stmts) ≡ true
  pub fork_known : (s x a b : ℕ) → (stage_at p s).next ≡ Forks x a b → x < p.vars
  pub fork_seen : (path : List ℕ) (s x a b : ℕ) → visits_stage p path s ≡ true → (stage_at p s).next ≡ Forks x a b
      → none_of (is_fetch_of x) (in_stage s p.stmts) ≡ true
  -- delayed reads
  pub fetch : ℕ → ℕ
  pub fetch_ok : (s : ℕ) → AllFetches p fetch s (in_stage s p.stmts)
  -- N3: what a stage reads delayed decides no guard on a path before the stage where it is bound
  pub fetch_blind : (s : ℕ) (env env' : List ℕ) → DifferIn (in_stage s p.stmts) env env'
      → onpath env' (before (next_of p s env) p.stmts) ≡ onpath env (before (next_of p s env) p.stmts)
  pub fetch_unseen : (s : ℕ) → is_unseen (in_stage s p.stmts) ≡ true
  pub fetch_alone : (s : ℕ) → fetch_apart (in_stage s p.stmts) ≡ true
  -- F4, F5: a statement takes a memory by its kind
  pub advice : KeepsAdvice p
  -- F3: none stands in the last stage
  pub fetch_inside : (s : ℕ) → suc s ≡ length p.stages → none_of is_fetch (in_stage s p.stmts) ≡ true
