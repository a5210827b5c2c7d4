-- The locks of a pipe in a circuit, by the numbers of their memories.
use Rattle.std.specs.Prelude.{◌≡◌, ℕ, ◌^◌, ◌<◌, false, List, length, slice_index_or, Option, Some, None, is_some, if◌then◌else◌}
use Rattle.pdl_semantics.specs.Tree.{LockKind, Queue}
use Rattle.pdl_semantics.specs.Flat.{Mem, Pipe, is_delayed}
use Rattle.pdl_semantics.specs.Stages.{mem_at}
use Rattle.pdl_semantics.specs.SecondWrites.{reserves_twice}
use Rattle.pdl_net.specs.declared.Net.{Net}
use Rattle.pdl_net.specs.declared.Net.TheVariants.{Input}
use Rattle.pdl_net.specs.Circuit.{Circuit, State, HasArray, array_width, array_depth}
use Rattle.pdl_net.specs.Signal.{Signal}
use Rattle.pdl_net.specs.Meaning.{signal}
use Rattle.pdl_net.specs.HasWidth.{HasWidth}
use Rattle.pdl_lockapi.specs.declared.LockModule.{Ghosts}
use Rattle.pdl_lockapi.specs.declared.LockRegs.{LockRegs}
use Rattle.pdl_lockapi.specs.Lock.{LockState}
use Rattle.pdl_pipe_exprs.specs.Nets.{NetsThere, signals_in, signal_at}
use Rattle.pdl_law_parts.specs.Walk.{Locks, is_locked, zero_bit}
use Rattle.pdl_law_parts.specs.Places.{comb_place}
use Rattle.pdl_pipe_walk.specs.declared.locks.MemLock.{MemLock}

-- what is needed of a lock module
pub record Members (T : Type 0) : Type 1 where
  pub placed : T → Circuit → LockRegs → Type 0
  pub stands : T → LockRegs → State → LockState → Type 0
  pub kind : T → LockKind
  pub size : T → ℕ
  pub tickets : T → ℕ

-- what is needed of a lock module, by the ghosts of its trait
abbrev pub members : {T : Type 0} → Ghosts T → Members T
members g = record { placed = g.placed; stands = g.stands; kind = g.kind_of; size = g.size; tickets = g.tickets }

-- what is at a number, or none
abbrev pub some_at : {X : Type 0} → List (Option X) → ℕ → Option X
some_at xs m = slice_index_or xs m None

-- what f gives of a lock, or what is said of none
abbrev pub of_lock {ℓ} : {T : Type 0} {A : Type ℓ} → (MemLock T → A) → A → Option (MemLock T) → A
of_lock f none None = none
of_lock f none (Some x) = f x

-- the kind of a lock; that of none isn't asked for
abbrev pub kind_in : {T : Type 0} → Members T → Option (MemLock T) → LockKind
kind_in l x = of_lock (λ x. l.kind x.lock) Queue x

-- the net of a lock's room
abbrev pub room_net : {T : Type 0} → Option (MemLock T) → Net
room_net None = Input 0
room_net (Some x) = x.regs.room

-- the net of a lock's room for two
abbrev pub room2_net : {T : Type 0} → Option (MemLock T) → Net
room2_net None = Input 0
room2_net (Some x) = x.regs.room2

-- the locks as a circuit has them; memories that answer at once have their arrays in order
abbrev pub locks_in : {T : Type 0} → Members T → Pipe → Circuit → List (Option (MemLock T)) → Locks
locks_in l p c xs =
    record {
      stands = λ m. of_lock (λ x. l.stands x.lock x.regs) (λ s y. Unit {0}) (some_at xs m);
      kind = λ m. kind_in l (some_at xs m);
      size = λ m. of_lock (λ x. l.size x.lock) 1 (some_at xs m);
      bits = λ m. of_lock (λ x. l.tickets x.lock) 1 (some_at xs m);
      room = λ m. of_lock (λ x. signal c x.regs.room) zero_bit (some_at xs m);
      room2 = λ m. of_lock (λ x. signal c x.regs.room2) zero_bit (some_at xs m);
      ticket = λ m. of_lock (λ x. signal c x.regs.ticket) zero_bit (some_at xs m);
      twice = λ m. reserves_twice m p.stmts;
      array = λ m. comb_place p m;
    }

-- the array of a memory whose place among those that answer at once is i; a delayed one has none
abbrev pub array_of : Mem → ℕ → Option ℕ
array_of mem i = if is_delayed mem.kind then None else Some i

-- a memory's lock that is in a circuit, and its array
pub record IsLockIn {T : Type 0} (l : Members T) (c : Circuit) (i : ℕ) (mem : Mem) (x : MemLock T) : Type 0 where
  pub is_placed : l.placed x.lock c x.regs
  pub room : HasWidth c x.regs.room 1
  pub room2 : HasWidth c x.regs.room2 1
  pub ticket : HasWidth c x.regs.ticket (l.tickets x.lock)
  pub wide : x.regs.width ≡ mem.width
  pub bits : 2 ^ x.regs.bits ≡ mem.depth
  pub array : x.regs.array ≡ array_of mem i

-- each memory that answers at once has its array, and those with a lock have one
pub record AreLocked {T : Type 0} (l : Members T) (c : Circuit) (p : Pipe) (xs : List (Option (MemLock T))) : Type 0 where
  pub count : length xs ≡ length p.mems
  pub locked : (m : ℕ) → m < length p.mems → is_some (some_at xs m) ≡ is_locked p m
  pub locks : (m : ℕ) (x : MemLock T) → m < length p.mems → some_at xs m ≡ Some x → IsLockIn l c (comb_place p m) (mem_at p m) x
  pub has_array : (m : ℕ) → m < length p.mems → is_delayed (mem_at p m).kind ≡ false → HasArray c (comb_place p m)
  pub width : (m : ℕ) → m < length p.mems → is_delayed (mem_at p m).kind ≡ false → array_width c (comb_place p m) ≡ (mem_at p m).width
  pub depth : (m : ℕ) → m < length p.mems → is_locked p m ≡ false → is_delayed (mem_at p m).kind ≡ false → array_depth c (comb_place p m) ≡ (mem_at p m).depth

-- a ticket for each memory, which has the bits of its lock's tickets
pub record AreTickets {T : Type 0} (l : Members T) (c : Circuit) (xs : List (Option (MemLock T))) (ts : List Net) : Type 0 where
  pub there : NetsThere c ts
  pub count : length ts ≡ length xs
  pub wide : (m : ℕ) (x : MemLock T) → m < length xs → some_at xs m ≡ Some x → (signal_at (signals_in c ts) m).width ≡ l.tickets x.lock

-- the ticket of memory m, by the nets of all memories' tickets
abbrev pub tickets_in : Circuit → List Net → ℕ → Signal
tickets_in c ts m = signal_at (signals_in c ts) m
