-- What the use of the locks takes of an accepted pipe beside the facts of a sound and strict one: a location that was blocked for reading is not reserved for writing later, one that is written was blocked before, and guesses have as many arguments as their verifies.
use Rattle.std.specs.Prelude.{◌≡◌, ℕ, ◌≤◌, ◌<◌, Bool, true, false, ◌&&◌, ◌||◌, List, [], ◌∷◌, length, nat_lt, nat_le, ◌==◌}
use Rattle.pdl_semantics.specs.Flat.{list_all, Op, Bind, CombRead, DelayedRead, Write, ReserveRead, ReserveWrite, Block, Release, Call, SpecCall, Verify, SpecCheck, SpecBarrier, AdviceBind, AdviceRead, AdviceWrite, Stmt, Pipe, start_env}
use Rattle.pdl_semantics.specs.Stages.{onpath}
use Rattle.pdl_semantics.specs.Sound.{all_below}
use Rattle.pdl_theory_turns.specs.Scans.{none_of, write_reserves}
use Rattle.pdl_theory_turns.specs.SoundChecks.{all_paths, all_guards}

-- whether a statement reserves this location for writing
abbrev pub reserves_at : ℕ → ℕ → Op → Bool
reserves_at m a (Bind _ _) = false
reserves_at m a (CombRead _ _ _) = false
reserves_at m a (DelayedRead _ _ _) = false
reserves_at m a (Write _ _ _) = false
reserves_at m a (ReserveRead _ _) = false
reserves_at m a (ReserveWrite n b) = (n == m) && (b == a)
reserves_at m a (Block _ _) = false
reserves_at m a (Release _ _) = false
reserves_at m a (Call _) = false
reserves_at m a (SpecCall _) = false
reserves_at m a (Verify _ _) = false
reserves_at m a SpecCheck = false
reserves_at m a SpecBarrier = false
reserves_at m a (AdviceBind _ _) = false
reserves_at m a (AdviceRead _ _ _) = false
reserves_at m a (AdviceWrite _ _ _) = false

-- after a block its location is not reserved for writing
abbrev pub keeps_kind : Op → List Stmt → Bool
keeps_kind (Bind _ _) ys = true
keeps_kind (CombRead _ _ _) ys = true
keeps_kind (DelayedRead _ _ _) ys = true
keeps_kind (Write _ _ _) ys = true
keeps_kind (ReserveRead _ _) ys = true
keeps_kind (ReserveWrite _ _) ys = true
keeps_kind (Block m a) ys = none_of (reserves_at m a) ys
keeps_kind (Release _ _) ys = true
keeps_kind (Call _) ys = true
keeps_kind (SpecCall _) ys = true
keeps_kind (Verify _ _) ys = true
keeps_kind SpecCheck ys = true
keeps_kind SpecBarrier ys = true
keeps_kind (AdviceBind _ _) ys = true
keeps_kind (AdviceRead _ _ _) ys = true
keeps_kind (AdviceWrite _ _ _) ys = true

-- after each block of these statements its location is not reserved for writing
abbrev pub all_keep_kind : List Stmt → Bool
all_keep_kind [] = true
all_keep_kind (y ∷ ys) = keeps_kind y.op ys && all_keep_kind ys

-- a write's location was blocked before; the earlier statements are the last first
abbrev pub is_block_at : ℕ → ℕ → Op → Bool
is_block_at m a (Bind _ _) = false
is_block_at m a (CombRead _ _ _) = false
is_block_at m a (DelayedRead _ _ _) = false
is_block_at m a (Write _ _ _) = false
is_block_at m a (ReserveRead _ _) = false
is_block_at m a (ReserveWrite _ _) = false
is_block_at m a (Block n b) = (n == m) && (b == a)
is_block_at m a (Release _ _) = false
is_block_at m a (Call _) = false
is_block_at m a (SpecCall _) = false
is_block_at m a (Verify _ _) = false
is_block_at m a SpecCheck = false
is_block_at m a SpecBarrier = false
is_block_at m a (AdviceBind _ _) = false
is_block_at m a (AdviceRead _ _ _) = false
is_block_at m a (AdviceWrite _ _ _) = false

-- whether one of the earlier statements blocked this location
abbrev pub was_blocked : ℕ → ℕ → List Op → Bool
was_blocked m a [] = false
was_blocked m a (op ∷ past) = is_block_at m a op || was_blocked m a past

-- the location of a write was blocked by one of the earlier statements
abbrev pub is_let_in : Op → List Op → Bool
is_let_in (Bind _ _) past = true
is_let_in (CombRead _ _ _) past = true
is_let_in (DelayedRead _ _ _) past = true
is_let_in (Write m a e) past = was_blocked m a past
is_let_in (ReserveRead _ _) past = true
is_let_in (ReserveWrite _ _) past = true
is_let_in (Block _ _) past = true
is_let_in (Release _ _) past = true
is_let_in (Call _) past = true
is_let_in (SpecCall _) past = true
is_let_in (Verify _ _) past = true
is_let_in SpecCheck past = true
is_let_in SpecBarrier past = true
is_let_in (AdviceBind _ _) past = true
is_let_in (AdviceRead _ _ _) past = true
is_let_in (AdviceWrite _ _ _) past = true

-- the location of each write of these statements was blocked before it
abbrev pub all_let_in : List Op → List Stmt → Bool
all_let_in past [] = true
all_let_in past (y ∷ ys) = is_let_in y.op past && all_let_in (y.op ∷ past) ys

-- a guess and a verify pass so many arguments
abbrev pub passes_on : ℕ → Op → Bool
passes_on n (Bind _ _) = true
passes_on n (CombRead _ _ _) = true
passes_on n (DelayedRead _ _ _) = true
passes_on n (Write _ _ _) = true
passes_on n (ReserveRead _ _) = true
passes_on n (ReserveWrite _ _) = true
passes_on n (Block _ _) = true
passes_on n (Release _ _) = true
passes_on n (Call _) = true
passes_on n (SpecCall args) = length args == n
passes_on n (Verify last args) = length args == n
passes_on n SpecCheck = true
passes_on n SpecBarrier = true
passes_on n (AdviceBind _ _) = true
passes_on n (AdviceRead _ _ _) = true
passes_on n (AdviceWrite _ _ _) = true

-- each of n memories is reserved for writing at most twice by these statements
abbrev pub all_few : ℕ → List Stmt → Bool
all_few n xs = all_below (λ m. nat_le (write_reserves m xs) 2) n

-- on each path blocks keep their kinds and writes were blocked before, and guesses pass as many arguments as the start
pub record Careful (p : Pipe) : Type 0 where
  -- L1, L5: of each path, whose guards have these truth values
  pub kinds : (path : List ℕ) → all_keep_kind (onpath path p.stmts) ≡ true
  -- L4
  pub few : (path : List ℕ) (m : ℕ) → m < length p.mems → write_reserves m (onpath path p.stmts) ≤ 2
  -- L1
  pub writes : (path : List ℕ) → all_let_in [] (onpath path p.stmts) ≡ true
  -- W5
  pub args : list_all (λ x. passes_on (length p.start) x.op) p.stmts ≡ true

-- whether a pipe is careful, computed over all its paths, where its guards are variables
abbrev pub is_careful : Pipe → Bool
is_careful p =
    list_all (λ g. nat_lt g (length (start_env p []))) (all_guards p)
    && all_paths (all_guards p)
    (λ path. all_keep_kind (onpath path p.stmts) && (all_let_in [] (onpath path p.stmts) && all_few (length p.mems) (onpath path p.stmts))) (start_env p [])
    && list_all (λ x. passes_on (length p.start) x.op) p.stmts
