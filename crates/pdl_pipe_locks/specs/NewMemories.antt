-- A memory's new array and lock.
use Rattle.std.specs.Prelude.{◌≡◌, ℕ, ◌≤◌, List, length, Option, Some, is_some}
use Rattle.pdl_kit.specs.declared.mem_info.MemInfo.{MemInfo}
use Rattle.pdl_semantics.specs.Flat.{Mem, has_lock}
use Rattle.pdl_net.specs.Circuit.{Circuit}
use Rattle.pdl_lockapi.specs.Laws.{first_reg}
use Rattle.pdl_lockapi.specs.Forget.{as_lock}
use Rattle.pdl_pipe_walk.specs.declared.locks.MemLock.{MemLock}
use Rattle.pdl_pipe_walk.specs.Locked.{Members, IsLockIn}
use Rattle.pdl_pipe_locks.specs.Suited.{info_of}
use Rattle.pdl_pipe_locks.specs.Lawful.{IsLawfulLock}

-- the lock is one that the memory should have and that serves it
pub record IsServed {T : Type 0} (suits : T → MemInfo → Type 0) (l : Members T) (name : List ℕ) (mem : Mem) (x : T) : Type 0 where
  pub suited : suits x (info_of name mem)
  pub kind : mem.lock ≡ as_lock (l.kind x) (l.size x)

-- there is a lock where the memory should have one
pub record AreServed {T : Type 0} (suits : T → MemInfo → Type 0) (l : Members T) (name : List ℕ) (mem : Mem) (x : Option T) : Type 0 where
  pub locked : is_some x ≡ has_lock mem.lock
  pub lock : (y : T) → x ≡ Some y → IsServed suits l name mem y

-- a lock that is new, with the next array
pub record IsNewLock {T : Type 0} (l : Members T) (old new : Circuit) (mem : Mem) (x : MemLock T) : Type 0 where
  pub is_in : IsLockIn l new (length old.arrays) mem x
  pub laws : IsLawfulLock l new x
  pub kind : mem.lock ≡ as_lock (l.kind x.lock) (l.size x.lock)
  pub above : length old.regs ≤ first_reg x.regs

-- a memory has a new lock where it should have one
pub record IsNewMemory {T : Type 0} (l : Members T) (old new : Circuit) (mem : Mem) (x : Option (MemLock T)) : Type 0 where
  pub locked : is_some x ≡ has_lock mem.lock
  pub lock : (y : MemLock T) → x ≡ Some y → IsNewLock l old new mem y
