-- The laws of the locks in a circuit, which hold as they are made and stay as it grows.
use Rattle.std.specs.Prelude.{◌≡◌, ℕ, ◌<◌, ◌≤◌, true, false, List, [], length, Option, Some}
use Rattle.pdl_semantics.specs.Tree.{LockKind}
use Rattle.pdl_semantics.specs.Flat.{Pipe, is_delayed}
use Rattle.pdl_semantics.specs.Stages.{mem_at}
use Rattle.pdl_net.specs.Circuit.{Circuit, State, HasReg, array_depth}
use Rattle.pdl_net.specs.Meaning.{signal, write_signals}
use Rattle.pdl_lockapi.specs.declared.LockRegs.{LockRegs}
use Rattle.pdl_lockapi.specs.Lock.{LockState}
use Rattle.pdl_lockapi.specs.Laws.{first_reg, end_reg, words_of, StartLaw, PlacesLaw, RoomLaw, TicketLaw}
use Rattle.pdl_lockapi.specs.Second.{Room2Law}
use Rattle.pdl_lockapi.specs.Forget.{as_lock}
use Rattle.pdl_law_parts.specs.Walk.{is_locked}
use Rattle.pdl_law_parts.specs.Places.{comb_place}
use Rattle.pdl_pipe_walk.specs.declared.locks.MemLock.{MemLock}
use Rattle.pdl_pipe_walk.specs.Locked.{Members, some_at}

-- a lock's registers are there, and the laws of its start, its places, its room and its tickets hold
pub record IsLawful (stands : State → LockState → Type 0) (kind : LockKind) (size tickets : ℕ) (c : Circuit) (r : LockRegs) : Type 0 where
  pub some : 1 ≤ length r.regs
  pub regs : (k : ℕ) → first_reg r ≤ k → k < end_reg r → HasReg c k
  pub start : StartLaw stands kind c r
  pub places : PlacesLaw stands kind r
  pub room : RoomLaw stands size (signal c r.room)
  pub room2 : Room2Law stands size (signal c r.room2)
  pub ticket : TicketLaw stands tickets (signal c r.ticket)

-- the registers of this lock are there, and its laws hold
abbrev pub IsLawfulLock : {T : Type 0} → Members T → Circuit → MemLock T → Type 0
IsLawfulLock l c x = IsLawful (l.stands x.lock x.regs) (l.kind x.lock) (l.size x.lock) (l.tickets x.lock) c x.regs

-- the locks of all memories: their laws, kinds, sizes and words; the registers of each end before those of the later ones begin
pub record AreLawful {T : Type 0} (l : Members T) (c : Circuit) (p : Pipe) (xs : List (Option (MemLock T))) : Type 0 where
  pub laws : (m : ℕ) (x : MemLock T) → m < length p.mems → some_at xs m ≡ Some x → IsLawfulLock l c x
  pub kinds : (m : ℕ) (x : MemLock T) → m < length p.mems → some_at xs m ≡ Some x → (mem_at p m).lock ≡ as_lock (l.kind x.lock) (l.size x.lock)
  pub deep : (m : ℕ) (x : MemLock T) → m < length p.mems → is_delayed (mem_at p m).kind ≡ false → some_at xs m ≡ Some x
      → array_depth c (comb_place p m) ≡ words_of (l.kind x.lock) (mem_at p m).depth
  pub apart : (m n : ℕ) (x y : MemLock T) → m < n → n < length p.mems → some_at xs m ≡ Some x → some_at xs n ≡ Some y → end_reg x.regs ≤ first_reg y.regs

-- the locks' registers are above those of a circuit
abbrev pub AreAbove : {T : Type 0} → Circuit → Pipe → List (Option (MemLock T)) → Type 0
AreAbove {T} c p xs = (m : ℕ) (x : MemLock T) → m < length p.mems → some_at xs m ≡ Some x → length c.regs ≤ first_reg x.regs

-- no port writes the array of a memory with a lock
abbrev pub AreLocksUnwritten : Circuit → Pipe → Type 0
AreLocksUnwritten c p =
    (m : ℕ) → m < length p.mems → is_locked p m ≡ true → is_delayed (mem_at p m).kind ≡ false → write_signals c (comb_place p m) ≡ []

-- no port writes the memories' arrays
abbrev pub AreUnwritten : Circuit → Pipe → Type 0
AreUnwritten c p = (m : ℕ) → m < length p.mems → is_delayed (mem_at p m).kind ≡ false → write_signals c (comb_place p m) ≡ []
