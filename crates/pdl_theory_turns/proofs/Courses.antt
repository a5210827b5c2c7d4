-- What the pipeline's proof takes of single threads, in the whole language: facts of each turn, of its delayed reads, and of threads after a wrong guess.
use Rattle.std.proofs.Common.{◌≡◌, ◌≢◌, ℕ, ◌≤◌, ◌<◌, Bool, true, false, ◌||◌, List, [], length, Some, is_some}
use Rattle.pdl_semantics.specs.Flat.{Pipe, of_mem}
use Rattle.pdl_semantics.specs.Stages.{mem_at, verify_stage, commit_stage, reserve_stage}
use Rattle.pdl_semantics.specs.Locks.{Latest, has_room}
use Rattle.pdl_semantics.specs.Machine.{Ask, same_args, reserves_of}
use Rattle.pdl_semantics.specs.Cycle.{awaited_of}
use Rattle.pdl_semantics.specs.Sequential.{thread}
use Rattle.pdl_semantics.specs.Promises.{wrote, row}
use Rattle.pdl_theory_turns.specs.Derived.{Hint, Work, Around, Thread, State, work_of_stage, latest_in, fresh, find_ask, answered_thread}
use Rattle.pdl_theory_turns.specs.Alone.{World, start_work, so_far, thread_at}
use Rattle.pdl_theory_turns.specs.Scans.{is_plain}
use Rattle.pdl_theory_turns.specs.Facts.{is_exact}
use Rattle.pdl_theory_turns.proofs.Surroundings.{Surrounds, Right}
use Rattle.pdl_theory_turns.proofs.Stages.{or_else}
use Rattle.pdl_theory_turns.proofs.Marks.{seen, strips, Later}
use Rattle.pdl_theory_turns.proofs.UndoneWrites.{marks}
use Rattle.pdl_theory_turns.proofs.TurnFacts.{Graph, Trunk, next_of, next_at, blocked_at, right_guess, stage_work}
use Rattle.pdl_theory_turns.proofs.ThreadOrder.{Branches}
use Rattle.pdl_theory_turns.proofs.Guesses.{Changed}
use Rattle.pdl_theory_turns.proofs.DelayedReads.{caught, Apart, AllAsks}

-- a thread that moved to stage n, with what it awaits there
abbrev pub onward : ℕ → Hint → Work → Thread
onward n g w = record { stage = n; hint = g; env = w.env; entries = w.entries; guess = w.guess; awaits = awaited_of w.asks }

-- a thread after a wrong guess moved in a cycle in which a barrier of its stage is not clear
pub record Strayed (p : Pipe) (stray : Thread → Type 0) (made : Thread → Bool) (t : Thread) (w : Work) : Type 0 where
  pub commits : w.commits ≡ []
  pub goes_on : stray (onward (next_of p t.stage w.env) t.hint w)
  pub once : made t ≡ true → Changed w
  pub born : (g : Hint) (x : List ℕ) → w.child ≡ Some x → stray (fresh p g x) × (made (fresh p g x) ≡ false)
  pub made_next : made (onward (next_of p t.stage w.env) t.hint w) ≡ (made t || is_some w.child)

-- a delayed read of a turn in stage s
pub record AskOk (p : Pipe) (fetch : ℕ → ℕ) (s next : ℕ) (q : Ask) : Type 0 where
  pub here : fetch q.mem ≡ s
  pub known : q.mem < length p.mems
  pub exact : is_exact (mem_at p q.mem).lock ≡ true
  pub early : next ≤ commit_stage p q.mem

-- what is taken of each turn: its stages, values, reads, writes and successor, and of a thread after a wrong guess
pub record Course (p : Pipe) : Type 1 where
  -- the stage graph and the memories
  pub graph : Graph p
  pub branches : Branches p
  pub rooms : (o : Around) (t : Thread) (m : ℕ) → has_room (mem_at p m).lock (reserves_of m (work_of_stage p o t).reserves) 0 ≡ true
  pub plain_from : (m : ℕ) → is_plain (mem_at p m).lock ≡ true → reserve_stage p m ≡ 0
  pub plain_to : (m : ℕ) → is_plain (mem_at p m).lock ≡ true → commit_stage p m ≡ length p.stages
  -- the stages that a turn comes to
  pub on : World → List ℕ → ℕ → Type 0
  pub on_start : (world : World) (args : List ℕ) → on world args 0
  pub on_next : (world : World) (args : List ℕ) (s : ℕ) → on world args s → s < length p.stages → on world args (next_at p world args s)
  -- a turn's values and reads
  pub start_so : (world : World) (args : List ℕ) → so_far p world args 0 ≡ start_work p args
  pub start_blocked : (world : World) (args : List ℕ) → blocked_at p world args 0 ≡ []
  pub here_alike : (world : World) (args : List ℕ) (o : Around) (s : ℕ) (clean : ℕ → ℕ → Type 0)
      → on world args s → s < length p.stages → Surrounds p o world s clean → ((m a : ℕ) → is_plain (mem_at p m).lock ≡ true → clean m a)
      → (work_of_stage p o (thread_at p world args s)).ready ≡ true → Right p s clean (blocked_at p world args s) (so_far p world args s).env
      → (work_of_stage p o (thread_at p world args s) ≡ stage_work p world args s)
      × Right p s clean (blocked_at p world args (next_at p world args s)) (so_far p world args (next_at p world args s)).env
      × AllAsks (λ q. clean q.mem q.address) (stage_work p world args s).asks
  pub next_so : (world : World) (args : List ℕ) (s : ℕ) → on world args s → s < length p.stages
      → (caught world.words (stage_work p world args s).asks (stage_work p world args s).env ≡ (so_far p world args (next_at p world args s)).env)
      × ((stage_work p world args s).entries ≡ (so_far p world args (next_at p world args s)).entries)
      × ((stage_work p world args s).guess ≡ (so_far p world args (next_at p world args s)).guess)
  -- its delayed reads; fetch m is the stage of those of m
  pub fetch : ℕ → ℕ
  pub asks_at : (o : Around) (t : Thread) (m : ℕ) → is_some (find_ask (work_of_stage p o t).asks m) ≡ true → t.stage ≡ fetch m
  pub asks_ok : (world : World) (args : List ℕ) (s : ℕ) → on world args s → s < length p.stages
      → AllAsks (AskOk p fetch s (next_at p world args s)) (stage_work p world args s).asks
  pub asks_apart : (world : World) (args : List ℕ) (s : ℕ) → on world args s → s < length p.stages → Apart (stage_work p world args s).asks
  -- its writes
  pub row_after : (world : World) (args : List ℕ) (m : ℕ)
      → row (thread p world.words args).arrays m ≡ wrote (row world.words m) (of_mem m (thread p world.words args).writes)
  pub quiet_at : (o : Around) (t : Thread) (m : ℕ) → t.stage ≢ commit_stage p m → of_mem m (work_of_stage p o t).commits ≡ []
  pub marks_start : (world : World) (args : List ℕ) (m : ℕ) → strips m (marks p world args 0 m) ≡ of_mem m (thread p world.words args).writes
  pub marks_step : (world : World) (args : List ℕ) (s m : ℕ) → on world args s → s < length p.stages
      → Later m (marks p world args s m) (of_mem m (stage_work p world args s).commits) (marks p world args (next_at p world args s) m)
  pub marks_seen : (world : World) (args : List ℕ) (s m a : ℕ) (rest : Latest) → reserve_stage p m < s
      → latest_in (so_far p world args s).entries m a rest ≡ seen a (marks p world args s m) rest
  pub marks_plain : (world : World) (args : List ℕ) (s m : ℕ) → is_plain (mem_at p m).lock ≡ true → marks p world args s m ≡ []
  pub marks_late : (world : World) (args : List ℕ) (s m : ℕ) → commit_stage p m < s → marks p world args s m ≡ []
  pub marks_end : (world : World) (args : List ℕ) (m : ℕ) → marks p world args (length p.stages) m ≡ []
  -- the thread that a turn makes; v is the stage of the verifies
  pub v : ℕ
  pub v_inside : v < length p.stages
  pub trunk_v : Trunk p v
  pub child_next : (world : World) (args : List ℕ) (s : ℕ) → on world args s → s < length p.stages
      → (so_far p world args (next_at p world args s)).child ≡ or_else (stage_work p world args s).child (so_far p world args s).child
  pub child_end : (world : World) (args : List ℕ) → right_guess (so_far p world args (length p.stages)).child (thread p world.words args).next ≡ true
  -- once it has made one, a stage makes nothing or replaces it, which is no later than v
  pub made_changes : (world : World) (args : List ℕ) (s : ℕ) (x : List ℕ)
      → on world args s → (so_far p world args s).child ≡ Some x → Changed (stage_work p world args s)
  pub changes_early : (world : World) (args : List ℕ) (s : ℕ) (x : List ℕ)
      → on world args s → (so_far p world args s).child ≡ Some x → (stage_work p world args s).fails ≡ true
      → (s ≤ v) × (verify_stage p.stmts ≡ Some v)
  pub wrong_made : (world : World) (args : List ℕ) (s : ℕ) (x : List ℕ) → (so_far p world args s).child ≡ Some x
      → same_args x (thread p world.words args).next ≡ false → (s ≤ v) × (verify_stage p.stmts ≡ Some v)
  -- a thread after a wrong guess, which has passed no barrier
  pub stray : Thread → Type 0
  pub made : Thread → Bool
  pub stray_fresh : (g : Hint) (args : List ℕ) → stray (fresh p g args) × (made (fresh p g args) ≡ false)
  pub stray_answered : (st : State) (bits : List Bool) (t : Thread) → stray t
      → stray (answered_thread p st bits t) × (made (answered_thread p st bits t) ≡ made t)
  pub stray_step : (o : Around) (t : Thread) → stray t → t.awaits ≡ [] → t.stage < v
      → (Trunk p t.stage → o.clear ≡ false) → (work_of_stage p o t).ready ≡ true
      → Strayed p stray made t (work_of_stage p o t)
