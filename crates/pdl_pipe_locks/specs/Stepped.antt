-- The steps of the locks: what they promise, and what of the circuit they change.
use Rattle.std.specs.Prelude.{◌≡◌, ℕ, ◌^◌, ◌<◌, List, length, Option, Some, None, is_some}
use Rattle.pdl_semantics.specs.Flat.{Mem, Pipe}
use Rattle.pdl_semantics.specs.Stages.{mem_at}
use Rattle.pdl_net.specs.declared.Net.{Net}
use Rattle.pdl_net.specs.Circuit.{Circuit, HasReg, HasArray, shapes_of}
use Rattle.pdl_net.specs.Meaning.{IsThere, signal, next_signal, write_signals}
use Rattle.pdl_net.specs.HasWidth.{HasWidth}
use Rattle.pdl_net.specs.Growth.{Own, Outside, Keeps}
use Rattle.pdl_lockapi.specs.declared.LockNets.{LockNets}
use Rattle.pdl_lockapi.specs.Laws.{own, HidesLaw, StepLaw, StepSignals}
use Rattle.pdl_lockapi.specs.Second.{Commit2Law}
use Rattle.pdl_law_parts.specs.Walk.{zero_bit}
use Rattle.pdl_law_parts.specs.Ports.{Commit, Commits}
use Rattle.pdl_pipe_walk.specs.declared.locks.MemLock.{MemLock}
use Rattle.pdl_pipe_walk.specs.Locked.{Members, some_at}

-- the nets of a commit are there, with the widths of a memory: whether it is made, where, and what it commits
pub record FitsMemory (c : Circuit) (mem : Mem) (commit_net addr_net value_net : Net) : Type 0 where
  pub commit : HasWidth c commit_net 1
  pub addr_there : IsThere c addr_net
  pub addr_reach : 2 ^ (signal c addr_net).width ≡ mem.depth
  pub value : HasWidth c value_net mem.width

-- a lock's step keeps its law, that of a second commit and that of hidden values, and its commit nets are there with the widths of its memory
pub record IsStepped {T : Type 0} (l : Members T) (c : Circuit) (mem : Mem) (f : StepSignals) (x : MemLock T) (n : LockNets) : Type 0 where
  pub law : StepLaw (l.stands x.lock x.regs) (l.size x.lock) (l.tickets x.lock) (own x.regs) c f (signal c n.commit) (signal c n.addr) (signal c n.value)
  pub law2 : Commit2Law (l.stands x.lock x.regs) (l.size x.lock) (l.tickets x.lock) f (signal c n.commit2) (signal c n.addr2) (signal c n.value2)
  pub hides : HidesLaw (l.kind x.lock) c (own x.regs) f
  pub nets : FitsMemory c mem n.commit n.addr n.value
  pub nets2 : FitsMemory c mem n.commit2 n.addr2 n.value2

-- one memory: it has commit nets where it has a lock
pub record IsSteppedMemory {T : Type 0} (l : Members T) (c : Circuit) (mem : Mem) (f : StepSignals)
    (x : Option (MemLock T)) (n : Option LockNets) : Type 0 where
  pub has : is_some n ≡ is_some x
  pub lock : (y : MemLock T) (z : LockNets) → x ≡ Some y → n ≡ Some z → IsStepped l c mem f y z

-- the locks of the first i memories have made their steps
pub record AreStepped {T : Type 0} (l : Members T) (c : Circuit) (p : Pipe) (f : ℕ → StepSignals)
    (xs : List (Option (MemLock T))) (ns : List (Option LockNets)) (i : ℕ) : Type 0 where
  pub count : length ns ≡ i
  pub each : (m : ℕ) → m < i → IsSteppedMemory l c (mem_at p m) (f m) (some_at xs m) (some_at ns m)

-- ---- what changes

-- the registers and the array of a memory's lock
abbrev pub own_of : {T : Type 0} → Option (MemLock T) → Own
own_of None = record { from = 0; to = 0; first = 0; last = 0 }
own_of (Some x) = own x.regs

-- only the registers and the arrays of some of the first i locks have changed what they take next
pub record ExtendsLocks {T : Type 0} (xs : List (Option (MemLock T))) (i : ℕ) (old new : Circuit) : Type 0 where
  pub keeps : Keeps old new
  pub nexts : (k : ℕ) → HasReg old k
      → ((m : ℕ) → m < i → Outside (own_of (some_at xs m)).from (own_of (some_at xs m)).to k)
      → next_signal new k ≡ next_signal old k
  pub writes : (n : ℕ) → HasArray old n
      → ((m : ℕ) → m < i → Outside (own_of (some_at xs m)).first (own_of (some_at xs m)).last n)
      → write_signals new n ≡ write_signals old n
  pub ports : new.ports ≡ old.ports
  pub shapes : shapes_of new ≡ shapes_of old

-- ---- what the memories commit

-- no commit
abbrev pub no_commit : Commit
no_commit = record { enable = zero_bit; addr = zero_bit; value = zero_bit }

-- what a memory commits by its nets; nothing where it has no lock
abbrev pub commit_of : Circuit → Option LockNets → Commits
commit_of c None = record { first = no_commit; second = no_commit }
commit_of c (Some n) = record {
  first = record { enable = signal c n.commit; addr = signal c n.addr; value = signal c n.value };
  second = record { enable = signal c n.commit2; addr = signal c n.addr2; value = signal c n.value2 };
}

-- what memory m commits
abbrev pub commits_in : Circuit → List (Option LockNets) → ℕ → Commits
commits_in c ns m = commit_of c (some_at ns m)
