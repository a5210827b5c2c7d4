-- A turn as the sequential meaning sees it, and which operations can be carried out in it.
use Rattle.std.specs.Prelude.{ℕ, ◌^◌, ◌<◌, ◌≤◌, List, [], map, length, slice_index, slice_index_or, vec_capacity, ⊤}
use Rattle.pdl_semantics.specs.Flat.{Op, Bind, CombRead, DelayedRead, Write, ReserveRead, ReserveWrite, Block, Release, Call, SpecCall, Verify, SpecCheck, SpecBarrier, AdviceBind, AdviceRead, AdviceWrite, Commit, Pipe, arrays_of, start_env}
use Rattle.pdl_semantics.specs.Sequential.{Run}
use Rattle.pdl_form_values.specs.Safe.{IsSafe, AreSafe}
use Rattle.pdl_seq.specs.declared.commit.Commit as r_commit
use Rattle.pdl_seq.specs.declared.turn.Turn as r_turn

-- a write of a turn, as the sequential meaning sees it
abbrev pub commit_view : r_commit.Commit → Commit
commit_view c = record { mem = c.mem; address = c.addr; value = c.value }

-- a turn's writes, as the sequential meaning sees them
abbrev pub commits_view : List r_commit.Commit → List Commit
commits_view cs = map commit_view cs

-- the thread on its way
abbrev pub run_view : r_turn.Turn → Run
run_view t =
    record {
      arrays = arrays_of t.memories.items;
      env = t.values.items;
      writes = commits_view t.commits.items;
      next = t.next.items;
    }

-- the next thread as it begins: it has its arguments, zeros after them, and has done nothing yet
abbrev pub begun_run : Pipe → r_turn.Turn → Run
begun_run p t = record { arrays = arrays_of t.memories.items; env = start_env p t.next.items; writes = []; next = [] }

-- room for the next thread's arguments, and for writes
pub record Rooms : Type 0 where
  pub next : ℕ
  pub commits : ℕ

-- the room that a turn has
abbrev pub rooms : r_turn.Turn → Rooms
rooms t = record { next = vec_capacity t.next; commits = vec_capacity t.commits }

-- the words of the memory of this number
abbrev pub list_at : List (List ℕ) → ℕ → List ℕ
list_at lists m = slice_index_or lists m []

-- how many words each memory has
abbrev pub shape : List (List ℕ) → List ℕ
shape lists = map (λ (words : List ℕ). length words) lists

-- an operation that can be carried out on these values, with these memories, and room for so many arguments
abbrev pub IsSafeOp : List (List ℕ) → ℕ → Op → List ℕ → Type 0
IsSafeOp lists room (Bind x e) env = (x < length env) × IsSafe e env
IsSafeOp lists room (CombRead x m a) env = (x < length env) × (m < length lists)
IsSafeOp lists room (DelayedRead x m a) env = (x < length env) × (m < length lists)
IsSafeOp lists room (Write m a e) env =
    (m < length lists) × (slice_index env a < length (list_at lists m)) × (slice_index env a < 2 ^ 32) × IsSafe e env
IsSafeOp lists room (ReserveRead m a) env = ⊤
IsSafeOp lists room (ReserveWrite m a) env = ⊤
IsSafeOp lists room (Block m a) env = ⊤
IsSafeOp lists room (Release m a) env = ⊤
IsSafeOp lists room (Call args) env = AreSafe args env × (length args ≤ room)
IsSafeOp lists room (SpecCall args) env = ⊤
IsSafeOp lists room (Verify last args) env = AreSafe args env × (length args ≤ room)
IsSafeOp lists room SpecCheck env = ⊤
IsSafeOp lists room SpecBarrier env = ⊤
IsSafeOp lists room (AdviceBind x e) env = ⊤
IsSafeOp lists room (AdviceRead x m a) env = ⊤
IsSafeOp lists room (AdviceWrite m a e) env = ⊤
