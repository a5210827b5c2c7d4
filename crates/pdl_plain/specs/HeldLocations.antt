-- Which locations a thread holds for writing, by what it has passed on its path.
use Rattle.std.specs.Prelude.{◌≡◌, ℕ, suc, ◌-◌, Bool, false, ◌&&◌, not, ◌==◌, nat_lt, List, [], ◌∷◌, ◌++◌, map, filter, slice_index, None, if◌then◌else◌}
use Rattle.pdl_semantics.specs.Flat.{Op, Bind, CombRead, DelayedRead, Write, ReserveRead, ReserveWrite, Block, Release, Call, SpecCall, Verify, SpecCheck, SpecBarrier, AdviceBind, AdviceRead, AdviceWrite, Guard, Stmt, Pipe, list_all}
use Rattle.pdl_semantics.specs.Forms.{on_block}
use Rattle.pdl_semantics.specs.Stages.{in_stage}
use Rattle.pdl_semantics.specs.Machine.{Thread, Deeds, with_kept, is_held, held_before, deeds_after, deeds_with}

-- a path: the truth value of each guard, by its variable
abbrev pub Path : Type 0
Path = ℕ → Bool

-- the path of a thread with these values
abbrev pub path_of : List ℕ → Path
path_of env x = slice_index env x == 1

-- whether a path takes a branch of an `if`: the first where its guard is true, the second where it isn't
abbrev pub takes : Path → Guard → Bool
takes path g = if g.first then path g.var else not (path g.var)

-- whether a statement is on a path: that takes each branch which it stands in
abbrev pub is_on : Path → Stmt → Bool
is_on path x = list_all (takes path) x.guards

-- the statements on a path in the stages before s, in text order
abbrev pub passed : ℕ → Path → List Stmt → List Stmt
passed s path xs = filter (λ x. nat_lt x.stage s && is_on path x) xs

-- how many reservations for writing of memory m by variable a are held after one more statement, of n before it
abbrev pub with_one : ℕ → ℕ → Op → ℕ → ℕ
with_one m a (ReserveWrite k b) n = if (k == m) && (b == a) then suc n else n
with_one m a (Release k b) n = if (k == m) && (b == a) then n - 1 else n
with_one m a (Bind x e) n = n
with_one m a (CombRead x k b) n = n
with_one m a (DelayedRead x k b) n = n
with_one m a (Write k b e) n = n
with_one m a (ReserveRead k b) n = n
with_one m a (Block k b) n = n
with_one m a (Call args) n = n
with_one m a (SpecCall args) n = n
with_one m a (Verify last args) n = n
with_one m a SpecCheck n = n
with_one m a SpecBarrier n = n
with_one m a (AdviceBind x e) n = n
with_one m a (AdviceRead x k b) n = n
with_one m a (AdviceWrite k b e) n = n

-- after these statements, of n before them
abbrev pub times_held : ℕ → ℕ → List Stmt → ℕ → ℕ
times_held m a [] n = n
times_held m a (x ∷ xs) n = times_held m a xs (with_one m a x.op n)

-- whether some reservation of the location is held after statements that a thread passed
abbrev pub holds : List Stmt → ℕ → ℕ → Bool
holds xs m a = nat_lt 0 (times_held m a xs 0)

-- what a thread holds as it comes into a stage is what it passed on its path before
abbrev pub HoldsBefore : Type 0
HoldsBefore = (s : ℕ) (env : List ℕ) (xs : List Stmt) (m a : ℕ)
    → is_held (held_before s env xs []) m a ≡ holds (passed s (path_of env) xs) m a

-- of these statements those that a thread does, each by the path that its values then tell
abbrev pub done : (ℕ → ℕ → ℕ) → List Stmt → Deeds → List Stmt
done read [] d = []
done read (x ∷ xs) d = if is_on (path_of d.env) x then x ∷ done read xs (deeds_after read x.op d) else done read xs d

-- for each block among these statements whether its location is held for writing where it stands, after those before
abbrev pub marks : List Stmt → List Stmt → List Bool
marks before [] = []
marks before (x ∷ xs) = on_block (λ m a. holds before m a ∷ []) [] x.op ++ marks (before ++ x ∷ []) xs

-- a thread as it begins a stage
abbrev pub begun : Pipe → ℕ → Thread → Deeds
begun p s t =
    record {
      env = with_kept t.kept t.env;
      advice = t.advice;
      guess = t.guess;
      held = held_before s t.env p.stmts [];
      blocks = [];
      reserves = [];
      writes = [];
      releases = [];
      asks = [];
      advises = [];
      barrier = false;
      child = None;
      fails = false;
    }

-- of each block of a thread's stage, in text order, the deeds tell whether the thread holds its location for writing
abbrev pub MarksBlocks : Type 0
MarksBlocks = (read : ℕ → ℕ → ℕ) (p : Pipe) (s : ℕ) (t : Thread)
    → map (λ b. b.writes) (deeds_with read p s t).blocks
    ≡ marks (passed s (path_of t.env) p.stmts) (done read (in_stage s p.stmts) (begun p s t))
