-- What a stage's statements find in the memories, and what they do.
use Rattle.std.specs.Prelude.{ℕ, ◌≤◌, Bool, true, false, List, [], None, slice_index, slice_index_or, length, ⊤}
use Rattle.pdl_semantics.specs.Flat.{Op, Bind, CombRead, DelayedRead, Write, ReserveRead, ReserveWrite, Block, Release, Call, SpecCall, Verify, SpecCheck, SpecBarrier, AdviceBind, AdviceRead, AdviceWrite, Plain}
use Rattle.pdl_semantics.specs.Locks.{Latest, Nothing, value_or}
use Rattle.pdl_semantics.specs.Machine.{Kept, Deeds, all_values, youngest}
use Rattle.pdl_form_values.specs.Safe.{IsSafe, AreSafe}
use Rattle.pdl_machine_pending.specs.Memory.{Memory}
use Rattle.pdl_machine_run.specs.Room.{Capacities}

-- the memory of a number
abbrev pub no_memory : Memory
no_memory = record { words = []; lock = Plain; pending = []; capacity = 0 }

-- the memory of this number, or none
abbrev pub memory_at : List Memory → ℕ → Memory
memory_at xs m = slice_index_or xs m no_memory

-- what the pending writes of older threads say of an address, and the word that a read finds there
abbrev pub latest_in : List Memory → ℕ → ℕ → ℕ → Latest
latest_in xs thread m a = youngest (memory_at xs m).pending thread a Nothing

-- the word that a thread's read finds at an address of a memory
abbrev pub word_of : List Memory → ℕ → ℕ → ℕ → ℕ
word_of xs thread m a = value_or (latest_in xs thread m a) (slice_index (memory_at xs m).words a)

-- deeds with these values, advised ones and guess, where nothing is done yet and nothing is held
abbrev pub nothing_done : List ℕ → List Kept → List ℕ → Deeds
nothing_done env advice guess =
    record {
      env = env;
      advice = advice;
      guess = guess;
      held = [];
      blocks = [];
      reserves = [];
      writes = [];
      releases = [];
      asks = [];
      advises = [];
      barrier = false;
      child = None;
      fails = false;
    }

-- the values from which a verify, the last check of a guess, or an update takes its arguments
abbrev pub checked_values : Bool → Deeds → List ℕ
checked_values true d = d.env
checked_values false d = all_values d

-- an operation that can be carried out after these deeds, with room for its arguments and for the values with the advised ones
abbrev pub IsSafeOp : Capacities → Op → Deeds → Type 0
IsSafeOp c (Bind x e) d = IsSafe e d.env
IsSafeOp c (CombRead x m a) d = ⊤
IsSafeOp c (DelayedRead x m a) d = ⊤
IsSafeOp c (Write m a e) d = IsSafe e d.env
IsSafeOp c (ReserveRead m a) d = ⊤
IsSafeOp c (ReserveWrite m a) d = ⊤
IsSafeOp c (Block m a) d = ⊤
IsSafeOp c (Release m a) d = ⊤
IsSafeOp c (Call args) d = AreSafe args d.env × (length args ≤ c.args)
IsSafeOp c (SpecCall args) d = AreSafe args (all_values d) × (length args ≤ c.args) × (length args ≤ c.guess) × (length d.env ≤ c.whole)
IsSafeOp c (Verify last args) d =
    AreSafe args (checked_values last d) × (length args ≤ c.args) × (length args ≤ c.verified) × (length args ≤ c.guess) × (length d.env ≤ c.whole)
IsSafeOp c SpecCheck d = ⊤
IsSafeOp c SpecBarrier d = ⊤
IsSafeOp c (AdviceBind x e) d = IsSafe e (all_values d) × (length d.env ≤ c.whole)
IsSafeOp c (AdviceRead x m a) d = length d.env ≤ c.whole
IsSafeOp c (AdviceWrite m a e) d = IsSafe e (all_values d) × (length d.env ≤ c.whole)
