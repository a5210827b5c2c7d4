-- The fields of a sequential run.
use Rattle.std.specs.Prelude.{ℕ, ◌+◌, ◌*◌, ◌-◌, ◌≤◌, Bool, true, false, length, vec_len, vec_capacity}
use Rattle.pdl_form.specs.FormView.{form}
use Rattle.pdl_seq.specs.declared.run.SeqRun.TheInside.{Inside}
use Rattle.pdl_seq.specs.Turns.{rooms}
use Rattle.pdl_seq.specs.Fits.{IsFit, AreWrites}
use Rattle.pdl_seq.specs.Runs.{IsRunnable, Running}

-- a sequential run with the values of its fields
abbrev pub running : Inside → Running
running r =
    record {
      pipe = r.pipe.now;
      memories = r.turn.memories.items;
      next = r.turn.next.items;
      writes = r.writes.items;
      run = r.run;
      threads = r.threads;
      streams = r.streams;
    }

-- room for the writes of the threads that are left after those that are told, or of one thread where a run streams
abbrev pub HasRoom : Bool → ℕ → ℕ → ℕ → Type 0
HasRoom true told left room = 32 ≤ room
HasRoom false told left room = told + 32 * left ≤ room

-- its pipe can be run, and there is room for the threads that are left
pub record IsReady (r : Inside) : Type 0 where
  pub runnable : IsRunnable (form r.pipe.now)
  pub fit : IsFit (form r.pipe.now) r.turn
  pub next : length (form r.pipe.now).pipe.start ≤ (rooms r.turn).next
  pub commits : 32 ≤ (rooms r.turn).commits
  pub writes : HasRoom r.streams (vec_len r.writes) (r.threads - r.run) (vec_capacity r.writes)
  pub count : r.run ≤ r.threads
  pub told : AreWrites (form r.pipe.now).pipe r.writes.items
