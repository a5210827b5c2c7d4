-- What a sequential run has done after some threads.
use Rattle.std.specs.Prelude.{◌≡◌, ℕ, suc, ◌-◌, ◌<◌, ◌≤◌, Bool, true, false, List, [], ◌∷◌, ◌++◌, drop, map, length}
use Rattle.pdl_semantics.specs.Flat.{Arrays, Commit, Pipe, arrays_of}
use Rattle.pdl_semantics.specs.Sequential.{threads, after_turns}
use Rattle.pdl_semantics.specs.Stages.{onpath}
use Rattle.pdl_theory_turns.specs.Scans.{write_reserves}
use Rattle.pdl_semantics.specs.Lines.{Column, column_at, put_line}
use Rattle.pdl_theory_turns.specs.Facts.{Sound}
use Rattle.pdl_form.specs.Form.{Form}
use Rattle.pdl_form.specs.declared.flat.FlatPipe as r_pipe
use Rattle.pdl_form.specs.FormView.{form}
use Rattle.pdl_form_types.specs.Stmts.{IsTypedForm}
use Rattle.pdl_seq.specs.declared.commit.Write as r_write

-- a pipe that can be run thread by thread: its flat form is typed and has the facts of an accepted pipe, a path reserves a memory for writing at most twice, and it has at most 16 memories
pub record IsRunnable (f : Form) : Type 0 where
  pub typed : IsTypedForm f
  pub sound : Sound f.pipe
  pub twice : (path : List ℕ) (m : ℕ) → m < length f.pipe.mems → write_reserves m (onpath path f.pipe.stmts) ≤ 2
  pub few : length f.pipe.mems ≤ 16

-- a write with the number of its thread
abbrev pub numbered_write : ℕ → Commit → r_write.Write
numbered_write n c = record { thread = n; mem = c.mem; addr = c.address; value = c.value }

-- the writes of threads, of which the first has this number
abbrev pub numbered_writes : ℕ → List (List Commit) → List r_write.Write
numbered_writes n [] = []
numbered_writes n (cs ∷ rest) = map (numbered_write n) cs ++ numbered_writes (suc n) rest

-- the line of a write, where the memories are these
abbrev pub write_line : List Column → r_write.Write → List ℕ
write_line ms w = put_line w.thread (column_at ms w.mem) (record { address = w.addr; value = w.value })

-- a run: its pipe, the words of the memories, the next thread's arguments, the writes that it tells, how many threads were run, and may be, and whether it streams, and so tells the last thread's writes alone
pub record Running : Type 0 where
  pub pipe : r_pipe.FlatPipe
  pub memories : List (List ℕ)
  pub next : List ℕ
  pub writes : List r_write.Write
  pub run : ℕ
  pub threads : ℕ
  pub streams : Bool

-- of how many threads the writes are told no more, after k threads: of all but the last where a run streams, else of none
abbrev pub forgotten : Bool → ℕ → ℕ
forgotten true k = k - 1
forgotten false k = 0

-- the writes that are told after k threads, with the numbers of their threads
abbrev pub told_writes : Bool → Pipe → Arrays → ℕ → List r_write.Write
told_writes streams p image k = numbered_writes (suc (forgotten streams k)) (drop (forgotten streams k) (threads p image k))

-- it has run its threads from this image: the writes that it tells are theirs, and it stands where they have come to
pub record HasRun (r : Running) (image : List (List ℕ)) : Type 0 where
  pub writes : r.writes ≡ told_writes r.streams (form r.pipe).pipe (arrays_of image) r.run
  pub memories : arrays_of r.memories ≡ (after_turns (form r.pipe).pipe (arrays_of image) r.run).arrays
  pub next : r.next ≡ (after_turns (form r.pipe).pipe (arrays_of image) r.run).next
