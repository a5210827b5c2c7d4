-- What callers see of a flat form: the semantics' one, and what the circuit and its ports need beside it.
use Rattle.std.specs.Prelude.{ℕ, zero, suc, Bool, List, [], ◌∷◌, ◌++◌, map, Option, if◌then◌else◌, ◌==◌, slice_index_or, length}
use Rattle.pdl_semantics.specs.Tree as tree
use Rattle.pdl_semantics.specs.Flat.{Op, Stmt, SpecCheck, Mem, Stage, Pipe}
use Rattle.pdl_semantics.specs.Flatten.{Var, past_all, at_start, first_stage, flat}
use Rattle.pdl_semantics.specs.Stages.{is_reserve, is_release}

-- a flat form: the pipe of the semantics, the widths of its variables, and the names of its memories
pub record Form : Type 0 where
  pub pipe : Pipe
  -- the widths of the variables
  pub widths : List ℕ
  -- the names of the memories
  pub names : List (List ℕ)

-- for each memory, of which the first has the number m, the stage of the first statement of this kind
abbrev pub stage_of_each : (ℕ → Op → Bool) → List Stmt → ℕ → List Mem → List (Option ℕ)
stage_of_each test xs m [] = []
stage_of_each test xs m (x ∷ ms) = first_stage (test m) xs ∷ stage_of_each test xs (suc m) ms

-- the form of these parts
abbrev pub form_with : List ℕ → List Mem → List (List ℕ) → List Stmt → List Stage → List ℕ → Form
form_with widths mems names stmts stages start =
    record {
      pipe = record {
        vars = length widths;
        mems = mems;
        stmts = stmts;
        stages = stages;
        start = start;
        reserves_at = stage_of_each is_reserve stmts 0 mems;
        releases_at = stage_of_each is_release stmts 0 mems;
      };
      widths = widths;
      names = names;
    }

-- the names of a tree's memories
abbrev pub names_of : List tree.Mem → List (List ℕ)
names_of ms = map (λ (m : tree.Mem). m.name.name) ms

-- the flat form of a tree
abbrev pub form_of : tree.Pipe → Form
form_of p =
    record {
      pipe = flat p;
      widths = map (λ (v : Var). v.width) (past_all p.mems p.body (at_start p)).vars;
      names = names_of p.mems;
    }

-- the numbers of the statements of stage k, where the first of these statements has the number i
abbrev pub rows_in : ℕ → ℕ → List Stmt → List ℕ
rows_in k i [] = []
rows_in k i (x ∷ xs) = if x.stage == k then i ∷ rows_in k (suc i) xs else rows_in k (suc i) xs

-- the numbers of the statements of each stage below this one
abbrev pub rows_below : ℕ → List Stmt → List (List ℕ)
rows_below zero xs = []
rows_below (suc k) xs = rows_below k xs ++ rows_in k 0 xs ∷ []

-- the statement of a number
abbrev pub stmt_at : List Stmt → ℕ → Stmt
stmt_at xs i = slice_index_or xs i (record { stage = 0; guards = []; op = SpecCheck })
