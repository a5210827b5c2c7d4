-- What a lock of any kind is, by its kind.
use Rattle.std.specs.Prelude.{ℕ}
use Rattle.pdl_kit.specs.declared.mem_info.MemInfo.{MemInfo}
use Rattle.pdl_semantics.specs.Tree.{LockKind}
use Rattle.pdl_semantics.specs.Tree as tree
use Rattle.pdl_net.specs.Circuit.{Circuit, State}
use Rattle.pdl_net.specs.Growth.{Keeps}
use Rattle.pdl_lockapi.specs.declared.LockRegs.{LockRegs}
use Rattle.pdl_lockapi.specs.Lock.{LockState}
use Rattle.pdl_lock_ring.specs.Slots.{ticket_bits}
use Rattle.pdl_lock_ring.specs.SlotGrowth.{placed_stay}
use Rattle.pdl_queue.specs.Suited.{queue_suits, queue_placed, queue_stands}
use Rattle.pdl_bypass.specs.Bypasses.{bypass_suits, IsBypass, bypass_stands, bypass_stays}
use Rattle.pdl_rename.specs.Places.{rename_suits, IsRename, rename_stands}
use Rattle.pdl_rename.specs.RenameGrowth.{rename_stays}
use Rattle.pdl_lock_any.specs.declared.AnyLock.{AnyLock}
use Rattle.pdl_lock_any.specs.declared.AnyLock.TheVariants.{Queue, Bypass, Rename}

-- the kind of the lock
abbrev pub any_kind : AnyLock → LockKind
any_kind (Queue q) = tree.Queue
any_kind (Bypass q) = tree.Bypass
any_kind (Rename q) = tree.Rename

-- how many writes may be pending
abbrev pub any_size : AnyLock → ℕ
any_size (Queue q) = q.size
any_size (Bypass q) = q.size
any_size (Rename q) = q.size

-- how many bits a ticket has
abbrev pub any_tickets : AnyLock → ℕ
any_tickets (Queue q) = ticket_bits q.size
any_tickets (Bypass q) = ticket_bits q.size
any_tickets (Rename q) = ticket_bits q.size

-- the lock serves a memory
abbrev pub any_suits : AnyLock → MemInfo → Type 0
any_suits (Queue q) m = queue_suits q m
any_suits (Bypass q) m = bypass_suits q m
any_suits (Rename q) m = rename_suits q m

-- the lock is in a circuit, with these registers
abbrev pub any_placed : AnyLock → Circuit → LockRegs → Type 0
any_placed (Queue q) c r = queue_placed q c r
any_placed (Bypass q) c r = IsBypass q c r
any_placed (Rename q) c r = IsRename q c r

-- a state's registers of the lock stand for a state of it
abbrev pub any_stands : AnyLock → LockRegs → State → LockState → Type 0
any_stands (Queue q) r = queue_stands q r
any_stands (Bypass q) r = bypass_stands q r
any_stands (Rename q) r = rename_stands q r

-- a lock in a circuit is in each circuit that keeps that one's nets and registers
pub any_stays : (l : AnyLock) (a b : Circuit) (r : LockRegs) → Keeps a b → any_placed l a r → any_placed l b r
any_stays (Queue q) a b r k i = placed_stay q.size a b r k i
any_stays (Bypass q) a b r k i = bypass_stays q a b r k i
any_stays (Rename q) a b r k i = rename_stays q a b r k i
