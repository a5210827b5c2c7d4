-- The laws of a lock's slots: slot k serves the tickets that are k modulo the lock's size, and its registers change only by a reservation or a write of such a ticket.
use Rattle.std.specs.Prelude.{◌≡◌, ◌≢◌, ℕ, ◌+◌, ◌%◌, ◌<◌, ◌≤◌, List, [], length, slice_index, slice_index_or, Some, true}
use Rattle.pdl_semantics.specs.Tree.{LockKind, Queue, Bypass, Rename}
use Rattle.pdl_net.specs.Circuit.{Circuit, State}
use Rattle.pdl_net.specs.Growth.{Own}
use Rattle.pdl_lockapi.specs.declared.LockRegs.{LockRegs}
use Rattle.pdl_lockapi.specs.Lock.{LockState, LockAct, entry_at, act_at, Proper}
use Rattle.pdl_lockapi.specs.Laws.{StepSignals, Drives, IsNext, first_reg, end_reg}

-- the registers of slot k
abbrev pub slot_regs : LockRegs → ℕ → List ℕ
slot_regs r k = slice_index_or r.slots k []

-- how many registers a slot of a lock of this kind has at least: its address, and its value where the lock keeps values in registers
abbrev pub least_regs : LockKind → ℕ
least_regs Queue = 2
least_regs Bypass = 2
least_regs Rename = 1

-- as many slots as the lock's size, each of registers of the lock
pub record HasSlotRegs (k : LockKind) (n : ℕ) (r : LockRegs) : Type 0 where
  pub count : length r.slots ≡ n
  pub least : (i : ℕ) → i < n → least_regs k ≤ length (slot_regs r i)
  pub within : (i j : ℕ) → i < n → j < length (slot_regs r i) → (first_reg r ≤ slice_index (slot_regs r i) j) × (slice_index (slot_regs r i) j < end_reg r)

-- the register of this number in a slot
abbrev pub slot_reg : LockRegs → ℕ → ℕ → State → ℕ
slot_reg r k j s = slice_index s.regs (slice_index (slot_regs r k) j)

-- the first register of a slot has the address of the pending write that it serves
pub record HoldsAddresses (stands : State → LockState → Type 0) (n : ℕ) (r : LockRegs) : Type 0 where
  pub addr : (s : State) (x : LockState) (i : ℕ) → stands s x → i < length x.entries → slot_reg r ((x.base + i) % n) 0 s ≡ (entry_at x.entries i).addr

-- the second one has its value, once it was written
pub record HoldsValues (stands : State → LockState → Type 0) (n : ℕ) (r : LockRegs) : Type 0 where
  pub value : (s : State) (x : LockState) (i v : ℕ) → stands s x → i < length x.entries
      → (entry_at x.entries i).value ≡ Some v → slot_reg r ((x.base + i) % n) 1 s ≡ v

-- a renaming lock keeps no value in a register
abbrev pub KeepsValues : (State → LockState → Type 0) → LockKind → ℕ → LockRegs → Type 0
KeepsValues stands Queue n r = HoldsValues stands n r
KeepsValues stands Bypass n r = HoldsValues stands n r
KeepsValues stands Rename n r = Unit {0}

-- each slot's registers have the address of the pending write that it serves, and its value unless the lock renames
pub record SlotsLaw (stands : State → LockState → Type 0) (k : LockKind) (n : ℕ) (r : LockRegs) : Type 0 where
  pub regs : HasSlotRegs k n r
  pub addresses : HoldsAddresses stands n r
  pub values : KeepsValues stands k n r

-- no reservation and no write of a cycle is of a ticket that slot k serves
pub record IsSpared (n : ℕ) (x : LockState) (a : LockAct) (k : ℕ) : Type 0 where
  pub reserves : (i : ℕ) → i < length a.reserves → (x.base + length x.entries + i) % n ≢ k
  pub writes : (j : ℕ) → j < length a.writes → (act_at a.writes j).on ≡ true → (act_at a.writes j).ticket % n ≢ k

-- then its registers stay as they are, whatever is released and dropped
pub record StillLaw (stands : State → LockState → Type 0) (n w : ℕ) (o : Own) (c : Circuit) (f : StepSignals) (r : LockRegs) : Type 0 where
  pub still : (s t : State) (x : LockState) (a : LockAct) (k j : ℕ) → stands s x → Drives w f s a → Proper n x a
      → IsNext c o s t → k < n → j < length (slot_regs r k) → IsSpared n x a k → slot_reg r k j t ≡ slot_reg r k j s
