-- A turn's stages: what it has blocked, what it does in each, where it goes on, and whether it was made by a right guess.
use Rattle.std.proofs.Common.{ℕ, Bool, false, List, Option, Some, None}
use Rattle.pdl_semantics.specs.Flat.{Pipe}
use Rattle.pdl_semantics.specs.Stages.{onpath}
use Rattle.pdl_semantics.specs.Machine.{same_args}
use Rattle.pdl_semantics.specs.Sequential.{thread}
use Rattle.pdl_theory_turns.specs.Derived.{Work, work_of_stage}
use Rattle.pdl_theory_turns.specs.Alone.{World, alone, before, thread_at, Location}
use Rattle.pdl_theory_turns.specs.Scans.{no_scan, scan_after_all}
pub use Rattle.pdl_theory_turns.specs.Graphs.{Home, Within, Trunk, stage_or, next_of, Below, Graph}

-- the locations that a turn has blocked for reading before stage s
abbrev pub blocked_at : Pipe → World → List ℕ → ℕ → List Location
blocked_at p world args s = (scan_after_all (before s (onpath (thread p world.words args).env p.stmts)) no_scan).blocked

-- the work that a turn's stage does alone
abbrev pub stage_work : Pipe → World → List ℕ → ℕ → Work
stage_work p world args s = work_of_stage p (alone world) (thread_at p world args s)

-- whether a thread was made with the right arguments
abbrev pub right_guess : Option (List ℕ) → List ℕ → Bool
right_guess None next = false
right_guess (Some x) next = same_args x next

-- the stage of a turn after stage s
abbrev pub next_at : Pipe → World → List ℕ → ℕ → ℕ
next_at p world args s = next_of p s (stage_work p world args s).env
