-- The stages of a path: those that a thread comes to, and those that the separators of the path begin.
use Rattle.std.specs.Prelude.{ℕ, zero, suc, List, [], ◌∷◌, ◌++◌, Option, Some, None, if◌then◌else◌, ◌==◌, slice_index}
use Rattle.pdl_semantics.specs.Tree.{Stmt, Separator, CombRead, Bind, SpecCall, DelayedRead, Write, Reserve, Block, Release, If, Call, Verify, Update, SpecCheck, SpecBarrier, Stmts, Nil, Cons, Mem}
use Rattle.pdl_semantics.specs.Flat.{Pipe}
use Rattle.pdl_semantics.specs.Stages.{stage_at, goes_to}
use Rattle.pdl_semantics.specs.Flatten.{Position, guard_of, with_guard, past, at_otherwise}

-- what comes of a stage where there is one
abbrev pub onward : (ℕ → List ℕ) → Option ℕ → List ℕ
onward f None = []
onward f (Some s) = f s

-- the stages that a thread comes to from stage s on, where the variables have these values; at most so many
abbrev pub visited_stages : Pipe → List ℕ → ℕ → ℕ → List ℕ
visited_stages p env zero s = []
visited_stages p env (suc limit) s = s ∷ onward (visited_stages p env limit) (goes_to (stage_at p s).next env)

-- the stages that the separators of a path begin, in text order: the k-th separator of the text begins stage k
abbrev mutual
  -- the stages that the separators of a path begin in a statement, in text order
  pub begun_in : List ℕ → List Mem → Stmt → Position → List ℕ
  begun_in env ms (Separator _) w = suc w.begun ∷ []
  begun_in env ms (CombRead _ _ _) w = []
  begun_in env ms (Bind _ _ _) w = []
  begun_in env ms (SpecCall _ _ _) w = []
  begun_in env ms (DelayedRead _ _ _) w = []
  begun_in env ms (Write _ _ _) w = []
  begun_in env ms (Reserve _ _ _) w = []
  begun_in env ms (Block _ _) w = []
  begun_in env ms (Release _ _) w = []
  begun_in env ms (If _ c when otherwise) w =
      if slice_index env (guard_of w.vars c) == 1 then begun_by env ms when (with_guard c w) else begun_by env ms otherwise (at_otherwise ms c when w)
  begun_in env ms (Call _ _) w = []
  begun_in env ms (Verify _ _ _) w = []
  begun_in env ms (Update _ _ _) w = []
  begun_in env ms (SpecCheck _) w = []
  begun_in env ms (SpecBarrier _) w = []

  -- the stages that the separators of a path begin in a list of statements, in text order
  pub begun_by : List ℕ → List Mem → Stmts → Position → List ℕ
  begun_by env ms Nil w = []
  begun_by env ms (Cons s ss) w = begun_in env ms s w ++ begun_by env ms ss (past ms s w)
