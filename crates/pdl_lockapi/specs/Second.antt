-- The laws of a cycle's second reservation, second release and second commit.
use Rattle.std.specs.Prelude.{◌≡◌, ℕ, ◌+◌, ◌≤◌, Option, Some, true}
use Rattle.pdl_semantics.specs.Words.{bit}
use Rattle.pdl_semantics.specs.Tree.{LockKind}
use Rattle.pdl_net.specs.Circuit.{Circuit, State}
use Rattle.pdl_net.specs.Signal.{Signal}
use Rattle.pdl_net.specs.HasWidth.{HasWidth}
use Rattle.pdl_lockapi.specs.declared.Kind.{Kind}
use Rattle.pdl_lockapi.specs.declared.Kind.TheVariants.{R}
use Rattle.pdl_lockapi.specs.declared.LockRegs.{LockRegs}
use Rattle.pdl_lockapi.specs.Lock.{LockState, LockAct, look_ready, look_value, has_room2, next_ticket, commit2_addr, commit2_value, Proper}
use Rattle.pdl_lockapi.specs.Laws.{StepSignals, Drives, FitsIn, holds_ticket}

-- the nets of room for two, of 1 bit, and of the ticket after the next one
pub record HasSecondNets (w : ℕ) (c : Circuit) (r : LockRegs) : Type 0 where
  pub room2 : HasWidth c r.room2 1
  pub ticket2 : HasWidth c r.ticket2 w

-- the net of room for two says whether there is room for two reservations
pub record Room2Law (stands : State → LockState → Type 0) (n : ℕ) (room2 : Signal) : Type 0 where
  pub holds : (s : State) (x : LockState) → stands s x → room2.value s ≡ bit (has_room2 n x)

-- the net of the second ticket holds the one after the next ticket
pub record Ticket2Law (stands : State → LockState → Type 0) (w : ℕ) (ticket2 : Signal) : Type 0 where
  pub holds : (s : State) (x : LockState) → stands s x → holds_ticket w ticket2 s (next_ticket x + 1)

-- a look with the ticket of a cycle's second reservation says what all pending writes say, where a lock's size is at least 2
pub record LateLookLaw (stands : State → LockState → Type 0) (k : LockKind) (n w : ℕ) (u : Kind)
    (addr ticket ready : Signal) (value : Option Signal) : Type 0 where
  pub answers : 2 ≤ n → (s : State) (x : LockState) → stands s x → holds_ticket w ticket s (next_ticket x + 1)
      → ready.value s ≡ bit (look_ready k u x (next_ticket x + 1) (addr.value s))
  pub gives : 2 ≤ n → (f : Signal) → value ≡ Some f → (s : State) (x : LockState) → stands s x
      → holds_ticket w ticket s (next_ticket x + 1) → FitsIn addr s
      → look_ready k R x (next_ticket x + 1) (addr.value s) ≡ true
      → f.value s ≡ look_value x (next_ticket x + 1) (addr.value s)

-- in a cycle of proper use the second commit's nets show the second commit
pub record Commit2Law (stands : State → LockState → Type 0) (n w : ℕ) (f : StepSignals) (commit addr value : Signal) : Type 0 where
  pub commits : (s : State) (x : LockState) (a : LockAct) → stands s x → Drives w f s a → Proper n x a → commit.value s ≡ bit a.release2
  pub commits_addr : (s : State) (x : LockState) (a : LockAct) → stands s x → Drives w f s a → Proper n x a → addr.value s ≡ commit2_addr x a
  pub commits_value : (s : State) (x : LockState) (a : LockAct) → stands s x → Drives w f s a → Proper n x a → value.value s ≡ commit2_value x a
