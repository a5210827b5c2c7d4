-- A thread that runs alone in the machine that the proofs use, and what that machine's runs are shown to do.
use Rattle.std.specs.Prelude.{◌≡◌, ℕ, ◌+◌, ◌-◌, ◌/◌, ◌≤◌, Bool, true, false, ◌||◌, not, List, [], ◌∷◌, None, if◌then◌else◌, nat_lt, IsTrue, IsFalse, length, ◌==◌, ◌&&◌}
use Rattle.pdl_semantics.specs.Flat.{Arrays, Op, CombRead, Stmt, Pipe, start_env, word_at, Commit, of_mem, after_commits}
use Rattle.pdl_semantics.specs.Forms.{on_delayed_read}
use Rattle.pdl_semantics.specs.Stages.{commit_stage, depth}
use Rattle.pdl_semantics.specs.Sequential.{thread, seqwrites}
use Rattle.pdl_semantics.specs.Promises.{IsPrefix}
use Rattle.pdl_theory_turns.specs.Derived.{Hint, Thread, Work, Around, do_all, Act, all_acts, all_commits, turns, commits, ended_in, waits_in, is_wait, state_after, first}

-- what a thread runs on: the words of the arrays, and what it says of its successor
pub record World : Type 0 where
  pub words : Arrays
  pub hint : Hint

-- the surroundings of a thread that runs alone: nothing holds it up
abbrev pub alone : World → Around
alone world =
    record {
      guess = world.hint.guess;
      update = world.hint.update;
      read = word_at world.words;
      can_read = λ m a. true;
      can_write = λ m a. true;
      free = λ m. true;
      clear = true;
    }

-- alone, a fetch has its answer at once
abbrev pub answered_op : Op → Op
answered_op op = on_delayed_read CombRead op op

-- the statements of the stages before s, in text order
abbrev pub before : ℕ → List Stmt → List Stmt
before s [] = []
before s (x ∷ xs) = if nat_lt x.stage s then record x { op = answered_op x.op } ∷ before s xs else before s xs

-- the work with which a thread with these arguments begins
abbrev pub start_work : Pipe → List ℕ → Work
start_work p args =
    record {
      env = start_env p args;
      entries = [];
      guess = [];
      asks = [];
      reserves = [];
      commits = [];
      child = None;
      fails = false;
      ready = true;
    }

-- what a thread has done before stage s where it runs alone on these arrays
abbrev pub so_far : Pipe → World → List ℕ → ℕ → Work
so_far p world args s = do_all (alone world) (before s p.stmts) (start_work p args)

-- that thread in stage s
abbrev pub thread_at : Pipe → World → List ℕ → ℕ → Thread
thread_at p world args s =
    let w = so_far p world args s in
    record { stage = s; hint = world.hint; env = w.env; entries = w.entries; guess = w.guess; awaits = [] }

-- the writes to m of this turn that a thread in stage s has not released
abbrev pub undone : Pipe → Arrays → List ℕ → ℕ → ℕ → List Commit
undone p arrays args s m = if nat_lt (commit_stage p m) s then [] else of_mem m (thread p arrays args).writes

-- LISTS OF VARIABLES, the youngest first

-- whether there is none
abbrev pub is_nil : List ℕ → Bool
is_nil [] = true
is_nil (x ∷ xs) = false

-- all but the oldest
abbrev pub but_last : {X : Type 0} → List X → List X
but_last [] = []
but_last (x ∷ []) = []
but_last (x ∷ y ∷ ys) = x ∷ but_last (y ∷ ys)

-- whether x is one of them
abbrev pub is_among : ℕ → List ℕ → Bool
is_among x [] = false
is_among x (y ∷ ys) = (y == x) || is_among x ys

-- whether x is the oldest, and no other one
abbrev pub is_oldest : ℕ → List ℕ → Bool
is_oldest x [] = false
is_oldest x (y ∷ []) = y == x
is_oldest x (y ∷ z ∷ zs) = not (y == x) && is_oldest x (z ∷ zs)

-- all but x
abbrev pub drop_var : ℕ → List ℕ → List ℕ
drop_var x [] = []
drop_var x (y ∷ ys) = if y == x then ys else y ∷ drop_var x ys

-- a location: a memory and the variable of its address
pub record Location : Type 0 where
  pub mem : ℕ
  pub var : ℕ

-- Pipeline refinement and Progress of a pipe

-- each memory's commits are a prefix of the sequential writes, and have all writes of the threads that ended
pub record Refines (p : Pipe) (image : Arrays) (hints : ℕ → Hint) (schedule : List (List Bool)) : Type 0 where
  pub whole : (m : ℕ) → IsPrefix (seqwrites p image m (ended_in (turns p image hints schedule))) (commits m (turns p image hints schedule))
  pub prefix : (m : ℕ) → IsPrefix (commits m (turns p image hints schedule)) (seqwrites p image m (ended_in (turns p image hints schedule) + length p.stages))
  pub end : (state_after p (first p image hints) schedule).arrays ≡ after_commits image (all_commits (turns p image hints schedule))

-- whether the oldest live thread moves
abbrev pub oldest_moves : List Act → Bool
oldest_moves [] = false
oldest_moves (a ∷ these) = a.moves

-- after any schedule, the oldest live thread moves in a cycle that isn't a wait
abbrev pub Advances : Pipe → Arrays → (ℕ → Hint) → List (List Bool) → List Bool → Type 0
Advances p image hints schedule bits =
    IsFalse (is_wait p (state_after p (first p image hints) schedule) bits)
    → IsTrue (oldest_moves (all_acts p (state_after p (first p image hints) schedule) bits))

-- as many threads end as cycles that are no waits, divided by the depth
abbrev pub KeepsPace : Pipe → Arrays → (ℕ → Hint) → List (List Bool) → Type 0
KeepsPace p image hints schedule =
    (length schedule - waits_in (turns p image hints schedule)) / depth p ≤ ended_in (turns p image hints schedule)
