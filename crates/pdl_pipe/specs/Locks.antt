-- The locks of a netlist: for each memory with a lock the one that the pipe asks for, by the laws of its module.
use Rattle.std.specs.Prelude.{◌≡◌, ℕ, ◌<◌, List, ◌++◌, map, length, Option, Some}
use Rattle.pdl_semantics.specs.Tree as tree
use Rattle.pdl_semantics.specs.Flatten.{flat}
use Rattle.pdl_net.specs.declared.Netlist.{Netlist}
use Rattle.pdl_net.specs.Circuit.{circuit_of, Output}
use Rattle.pdl_net.specs.Signal.{Signal}
use Rattle.pdl_net.specs.Run.{start, state_in}
use Rattle.pdl_net_needed.specs.Pruned.{IsPruned}
use Rattle.pdl_image.specs.Images.{IsImage}
use Rattle.pdl_lockapi.specs.declared.LockNets.{LockNets}
use Rattle.pdl_lock_any.specs.declared.AnyLock.{AnyLock}
use Rattle.pdl_lock_any.specs.Any.{any_kind, any_size, any_tickets, any_placed, any_stands}
use Rattle.pdl_law_parts.specs.Places.{delayed_count}
use Rattle.pdl_law_parts.specs.Views.{View, Gates}
use Rattle.pdl_law_parts.specs.Ports.{step_of}
use Rattle.pdl_law_parts.specs.Compiled.{IsStage, shown_in, port_in}
use Rattle.pdl_law_parts.specs.DeclaredMems.{mem_names}
use Rattle.pdl_law_parts.specs.States.{held_after}
use Rattle.pdl_law_sides.specs.WholeNetlist.{Request, replies_of, reply_ports, whole_shown}
use Rattle.pdl_law_follows.specs.Refined.{machine_after}
use Rattle.pdl_pipe_emitted.specs.Used.{IsUsed, IsStageAs}
use Rattle.pdl_pipe_walk.specs.declared.locks.MemLock.{MemLock}
use Rattle.pdl_pipe_walk.specs.Locked.{Members, some_at, locks_in, AreLocked}
use Rattle.pdl_pipe_locks.specs.Lawful.{AreLawful}
use Rattle.pdl_pipe_locks.specs.Stepped.{AreStepped, commits_in}

-- a netlist with the locks that a pipe asks for
pub record HasLocks {T : Type 0} (l : Members T) (p : tree.Pipe) (n : Netlist) : Type 0 where
  -- each memory with a lock has one, with the memory's array, where it answers at once, and registers that no other lock has
  pub locks : List (Option (MemLock T))
  pub locked : AreLocked l (circuit_of n) (flat p) locks
  -- it is of the kind and size that the memory asks for, and keeps the laws of its start, of the places in its array, of room for one and for two, and of the next ticket
  pub lawful : AreLawful l (circuit_of n) (flat p) locks
  -- the stages go by these locks: each of their blocks and reads asks the memory's lock
  pub views : ℕ → View
  pub gates : Gates
  pub moves : ℕ → Signal
  pub stages : (k : ℕ) → k < length (flat p).stages → IsStage (flat p) (locks_in l (flat p) (circuit_of n) locks) (circuit_of n) views gates moves k
  -- their reservations, writes and releases, and the squash, go to these locks too: each lock keeps the laws of its step, of a second commit and of hidden values
  pub commits : List (Option LockNets)
  pub stepped : AreStepped l (circuit_of n) (flat p) (step_of (flat p) views gates moves) locks commits (length (flat p).mems)
  -- what the netlist's ports show is of these stages and locks, and of nothing beside them: of each stage whether it holds a thread and whether that moves, of each memory with a lock what its lock commits, and what the delayed memories are asked
  pub asks : ℕ → Request
  pub outs : List Output
  pub ports : (circuit_of n).ports ≡ reply_ports (mem_names p.mems) 0 (flat p).mems ++ map (port_in (circuit_of n)) outs
  pub shown : map (shown_in (circuit_of n)) outs
      ≡ whole_shown (flat p) (mem_names p.mems) (commits_in (circuit_of n) commits) asks views gates moves
  -- in each cycle of each run, from each image and with each schedule of replies, each stage holds a thread, and that moves, where the machine's does
  pub alike : (image : List (List ℕ)) (schedule : List ℕ) (bits k : ℕ)
      → IsImage n.mems image → k < length (flat p).stages
      → IsStageAs (views k) (moves k) (state_in (held_after n (start n image) schedule) bits) (flat p)
      (machine_after (flat p) image schedule) (replies_of (delayed_count (flat p)) bits) k
  -- and each lock is used as the machine's threads use it
  pub used : (image : List (List ℕ)) (schedule : List ℕ) (bits m : ℕ) (x : MemLock T)
      → IsImage n.mems image → m < length (flat p).mems → some_at locks m ≡ Some x
      → IsUsed l (flat p) m x (step_of (flat p) views gates moves m)
      (state_in (held_after n (start n image) schedule) bits) (machine_after (flat p) image schedule)
      (replies_of (delayed_count (flat p)) bits)

-- it is the needed part of a netlist with the locks that the pipe asks for
pub record HasLocksOf {T : Type 0} (l : Members T) (p : tree.Pipe) (n : Netlist) : Type 0 where
  pub whole : Netlist
  pub locks : HasLocks l p whole
  pub part : IsPruned whole n

-- what the definitions take of a lock of any kind
abbrev pub any_lock : Members AnyLock
any_lock = record { placed = any_placed; stands = any_stands; kind = any_kind; size = any_size; tickets = any_tickets }
