-- Pipeline refinement and Progress, as statements about the runs of the machine.
use Rattle.std.specs.Prelude.{◌≡◌, ◌⊎◌, not, true, IsTrue, IsFalse, ℕ, ◌+◌, ◌-◌, ◌/◌, ◌≤◌, Bool, false, List, [], ◌∷◌, ◌++◌, Option, Some, None, if◌then◌else◌, nat_lt, length}
use Rattle.pdl_semantics.specs.Flat.{Arrays, Array, with_value, is_advisory, list_all, Op, Bind, CombRead, DelayedRead, Write, ReserveRead, ReserveWrite, Block, Release, Call, SpecCall, Verify, SpecCheck, SpecBarrier, AdviceBind, AdviceRead, AdviceWrite, Plain, Pipe, Commit}
use Rattle.pdl_semantics.specs.Stages.{mem_at, depth}
use Rattle.pdl_semantics.specs.Sequential.{seqwrites}
use Rattle.pdl_semantics.specs.Moves.{Act, all_acts}
use Rattle.pdl_semantics.specs.Cycle.{first, turns, state_after, ended_in, waits_in, is_wait, commits}

-- a memory's words
abbrev pub row : Arrays → ℕ → Array
row arrays m = arrays m

-- a memory's words after these writes to it, in order
abbrev pub wrote : Array → List Commit → Array
wrote words [] = words
wrote words (c ∷ cs) = wrote (with_value words c.address c.value) cs

-- some writes are the first ones of others
abbrev pub IsPrefix : List Commit → List Commit → Type 0
IsPrefix xs ys = (rest : List Commit) × (xs ++ rest ≡ ys)

-- PIPELINE REFINEMENT

-- each memory's commits have all sequential writes of the threads that ended, and are a prefix of the sequential writes; a memory without lock has none; in the end the array of one that isn't advisory is the image with them in order
pub record Refines (p : Pipe) (image : Arrays) (schedule : List (List Bool)) : Type 0 where
  pub whole : (m : ℕ) → IsPrefix (seqwrites p image m (ended_in (turns p image schedule))) (commits m (turns p image schedule))
  pub prefix : (m : ℕ) → IsPrefix (commits m (turns p image schedule)) (seqwrites p image m (ended_in (turns p image schedule) + length p.stages))
  pub unlocked : (m : ℕ) → (mem_at p m).lock ≡ Plain → commits m (turns p image schedule) ≡ []
  pub end : (m : ℕ)
      → is_advisory (mem_at p m).kind ≡ false
      → row (state_after p (first p image) schedule).arrays m ≡ wrote (row image m) (commits m (turns p image schedule))

-- PROGRESS

-- the act of the thread with the lowest number
abbrev pub older_of : Act → Option Act → Act
older_of a None = a
older_of a (Some b) = if nat_lt b.thread.number a.thread.number then b else a

-- the act of the oldest thread, where there is one
abbrev pub oldest_act : List Act → Option Act
oldest_act [] = None
oldest_act (a ∷ these) = Some (older_of a (oldest_act these))

-- whether there is an act, and its thread moves
abbrev pub it_moves : Option Act → Bool
it_moves None = false
it_moves (Some a) = a.moves

-- after any schedule the oldest live thread moves in a cycle that is no wait
abbrev pub Advances : Pipe → Arrays → List (List Bool) → List Bool → Type 0
Advances p image schedule bits =
    IsFalse (is_wait p (state_after p (first p image) schedule) bits)
    → IsTrue (it_moves (oldest_act (all_acts p (state_after p (first p image) schedule) bits)))

-- as many threads end as cycles that are no waits, divided by the depth
abbrev pub KeepsPace : Pipe → Arrays → List (List Bool) → Type 0
KeepsPace p image schedule =
    (length schedule - waits_in (turns p image schedule)) / depth p ≤ ended_in (turns p image schedule)

-- ADVICE

-- images that differ in advisory memories alone
abbrev pub DifferInAdvice : Pipe → Arrays → Arrays → Type 0
DifferInAdvice p image other = (m : ℕ) → is_advisory (mem_at p m).kind ≡ false → image m ≡ other m

-- what advisory memories hold changes no write: the threads write the same, and of two runs, with any replies, one's commits begin with those of the other
pub record AdviceIsIdle (p : Pipe) (image other : Arrays) (schedule replies : List (List Bool)) : Type 0 where
  pub same : (m k : ℕ) → seqwrites p image m k ≡ seqwrites p other m k
  pub prefix : (m : ℕ)
      → IsPrefix (commits m (turns p image schedule)) (commits m (turns p other replies)) ⊎ IsPrefix (commits m (turns p other replies)) (commits m (turns p image schedule))

-- whether a statement takes its memory by its kind: no plain read is of an advisory memory, and no advisory write of another
abbrev pub fits_kind : Pipe → Op → Bool
fits_kind p (CombRead x m a) = not (is_advisory (mem_at p m).kind)
fits_kind p (DelayedRead x m a) = not (is_advisory (mem_at p m).kind)
fits_kind p (AdviceWrite m a e) = is_advisory (mem_at p m).kind
fits_kind p (Bind x e) = true
fits_kind p (Write m a e) = true
fits_kind p (ReserveRead m a) = true
fits_kind p (ReserveWrite m a) = true
fits_kind p (Block m a) = true
fits_kind p (Release m a) = true
fits_kind p (Call args) = true
fits_kind p (SpecCall args) = true
fits_kind p (Verify last args) = true
fits_kind p SpecCheck = true
fits_kind p SpecBarrier = true
fits_kind p (AdviceBind x e) = true
fits_kind p (AdviceRead x m a) = true

-- each statement of the pipe takes its memory by its kind
abbrev pub KeepsAdvice : Pipe → Type 0
KeepsAdvice p = list_all (λ x. fits_kind p x.op) p.stmts ≡ true
