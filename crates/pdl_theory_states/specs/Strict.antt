-- What Sound state takes of an accepted pipe beside the facts of a sound one: each path binds a variable before it is used and none of a guess after it, and lets go of each location that it blocks.
use Rattle.std.specs.Prelude.{◌≡◌, ℕ, Bool, true, false, ◌&&◌, ◌||◌, not, List, [], ◌∷◌, Option, Some, None, ◌==◌, nat_lt}
use Rattle.pdl_semantics.specs.Flat.{list_all, Op, Bind, CombRead, DelayedRead, Write, ReserveRead, ReserveWrite, Block, Release, Call, SpecCall, Verify, SpecCheck, SpecBarrier, AdviceBind, AdviceRead, AdviceWrite, Expr, Stmt, Pipe, start_env}
use Rattle.pdl_semantics.specs.Forms.{on_binding, on_block}
use Rattle.pdl_semantics.specs.Stages.{list_any, onpath}
use Rattle.pdl_semantics.specs.Sound.{is_release_at}
use Rattle.pdl_theory_turns.specs.Facts.{uses_in, uses_any, mentions_var}
use Rattle.pdl_theory_turns.specs.SoundChecks.{all_paths, all_guards}

-- the variable that a statement binds
abbrev pub bound_by : Op → Option ℕ
bound_by op = on_binding Some None op

-- whether a statement uses the variable that it binds; advised variables, which stand apart, are left out
abbrev pub uses_own : Op → Bool
uses_own (Bind x e) = uses_in x e
uses_own (CombRead x m a) = a == x
uses_own (DelayedRead x m a) = a == x
uses_own (Write m a e) = false
uses_own (ReserveRead m a) = false
uses_own (ReserveWrite m a) = false
uses_own (Block m a) = false
uses_own (Release m a) = false
uses_own (Call args) = false
uses_own (SpecCall args) = false
uses_own (Verify last args) = false
uses_own SpecCheck = false
uses_own SpecBarrier = false
uses_own (AdviceBind x e) = false
uses_own (AdviceRead x m a) = false
uses_own (AdviceWrite m a e) = false

-- whether one of these binds or uses a variable
abbrev pub is_mentioned : ℕ → List Op → Bool
is_mentioned x [] = false
is_mentioned x (op ∷ ops) = mentions_var x op || is_mentioned x ops

-- a variable of the pipe with which none of these has to do
abbrev pub is_new : ℕ → List Op → Option ℕ → Bool
is_new vars past None = true
is_new vars past (Some x) = nat_lt x vars && not (is_mentioned x past)

-- each statement binds a variable that it doesn't use and with which no earlier one has to do; the earlier ones are the last first
abbrev pub all_new : ℕ → List Op → List Stmt → Bool
all_new vars past [] = true
all_new vars past (y ∷ ys) = (is_new vars past (bound_by y.op) && not (uses_own y.op)) && all_new vars (y.op ∷ past) ys

-- after a block its location is released
abbrev pub lets_go : Op → List Stmt → Bool
lets_go op ys = on_block (λ m a. list_any (λ (z : Stmt). is_release_at m a z.op) ys) true op

-- the location of each block is released after it
abbrev pub all_let_go : List Stmt → Bool
all_let_go [] = true
all_let_go (y ∷ ys) = lets_go y.op ys && all_let_go ys

-- the variable that a statement binds, an advised one too
abbrev pub bound_of : Op → Option ℕ
bound_of (Bind x e) = Some x
bound_of (CombRead x m a) = Some x
bound_of (DelayedRead x m a) = Some x
bound_of (AdviceBind x e) = Some x
bound_of (AdviceRead x m a) = Some x
bound_of (Write m a e) = None
bound_of (ReserveRead m a) = None
bound_of (ReserveWrite m a) = None
bound_of (Block m a) = None
bound_of (Release m a) = None
bound_of (Call args) = None
bound_of (SpecCall args) = None
bound_of (Verify last args) = None
bound_of SpecCheck = None
bound_of SpecBarrier = None
bound_of (AdviceWrite m a e) = None

-- whether it binds a variable that these arguments use
abbrev pub is_used_by : List Expr → Option ℕ → Bool
is_used_by args None = false
is_used_by args (Some x) = uses_any x args

-- whether a statement binds a variable that these arguments use
abbrev pub binds_used : List Expr → Op → Bool
binds_used args op = is_used_by args (bound_of op)

-- after a guess, and after an update of one, none of its variables is bound
abbrev pub keeps_guess : Op → List Stmt → Bool
keeps_guess (SpecCall args) ys = list_all (λ z. not (binds_used args z.op)) ys
keeps_guess (Bind x e) ys = true
keeps_guess (CombRead x m a) ys = true
keeps_guess (DelayedRead x m a) ys = true
keeps_guess (Write m a e) ys = true
keeps_guess (ReserveRead m a) ys = true
keeps_guess (ReserveWrite m a) ys = true
keeps_guess (Block m a) ys = true
keeps_guess (Release m a) ys = true
keeps_guess (Call args) ys = true
keeps_guess (Verify true args) ys = true
keeps_guess (Verify false args) ys = list_all (λ z. not (binds_used args z.op)) ys
keeps_guess SpecCheck ys = true
keeps_guess SpecBarrier ys = true
keeps_guess (AdviceBind x e) ys = true
keeps_guess (AdviceRead x m a) ys = true
keeps_guess (AdviceWrite m a e) ys = true

-- after each guess of these statements, and after each update of one, none of its variables is bound
abbrev pub all_keep_guess : List Stmt → Bool
all_keep_guess [] = true
all_keep_guess (y ∷ ys) = keeps_guess y.op ys && all_keep_guess ys

-- of each path, whose guards have these truth values
pub record Strict (p : Pipe) : Type 0 where
  -- N1, N2
  pub names : (path : List ℕ) → all_new p.vars [] (onpath path p.stmts) ≡ true
  -- N2
  pub guesses : (path : List ℕ) → all_keep_guess (onpath path p.stmts) ≡ true
  -- L1, L7
  pub blocks : (path : List ℕ) → all_let_go (onpath path p.stmts) ≡ true

-- whether each path passes the tests of names and of blocks that are released
abbrev pub is_strict : Pipe → Bool
is_strict p =
    all_paths (all_guards p) (λ path. all_new p.vars [] (onpath path p.stmts) && (all_keep_guess (onpath path p.stmts) && all_let_go (onpath path p.stmts)))
    (start_env p [])
