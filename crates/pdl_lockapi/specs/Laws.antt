-- What the calls of a lock module ensure.
use Rattle.std.specs.Prelude.{◌≡◌, ◌≢◌, ℕ, ◌+◌, ◌%◌, ◌^◌, ◌<◌, ◌≤◌, List, [], ◌∷◌, length, map, slice_index, slice_index_or, slice_set, ◌==◌, if◌then◌else◌, true, Option, Some, None}
use Rattle.pdl_semantics.specs.Words.{bit}
use Rattle.pdl_kit.specs.declared.mem_info.MemInfo.{MemInfo}
use Rattle.pdl_semantics.specs.Tree.{LockKind, Queue, Bypass, Rename}
use Rattle.pdl_net.specs.declared.Net.{Net}
use Rattle.pdl_net.specs.Circuit.{Circuit, State, Shape, HasReg, reg_reset, HasArray}
use Rattle.pdl_net.specs.Signal.{Signal, const_signal}
use Rattle.pdl_net.specs.HasWidth.{HasWidth}
use Rattle.pdl_net.specs.Meaning.{IsThere, signal, next_signal, WriteSignal, write_signals}
use Rattle.pdl_net.specs.Growth.{Own}
use Rattle.pdl_net.specs.Run.{filled_words}
use Rattle.pdl_lockapi.specs.declared.Kind.{Kind}
use Rattle.pdl_lockapi.specs.declared.Kind.TheVariants.{R, W}
use Rattle.pdl_lockapi.specs.declared.LockRegs.{LockRegs}
use Rattle.pdl_lockapi.specs.declared.ReservePort.{ReservePort}
use Rattle.pdl_lockapi.specs.declared.TicketWrite.{TicketWrite}
use Rattle.pdl_lockapi.specs.declared.LockPorts.{LockPorts}
use Rattle.pdl_lockapi.specs.Lock.{LockState, LockAct, entry_at, act_at, start, step, look_ready, look_value, has_room, next_ticket, commit_addr, commit_value, Covered, Proper}

-- the registers of a lock: from this number up to that one
abbrev pub first_reg : LockRegs → ℕ
first_reg r = slice_index r.regs 0

-- the number after a lock's last register
abbrev pub end_reg : LockRegs → ℕ
end_reg r = first_reg r + length r.regs

-- the number of a lock's array, 0 where it has none
abbrev pub first_array : Option ℕ → ℕ
first_array None = 0
first_array (Some m) = m

-- the number after that of a lock's array, 0 where it has none
abbrev pub end_array : Option ℕ → ℕ
end_array None = 0
end_array (Some m) = m + 1

-- the registers and the array of a lock
abbrev pub own : LockRegs → Own
own r = record { from = first_reg r; to = end_reg r; first = first_array r.array; last = end_array r.array }

-- a state whose registers of a range have their reset values
pub record IsReset (c : Circuit) (from to : ℕ) (s : State) : Type 0 where
  pub regs : (k : ℕ) → from ≤ k → k < to → slice_index s.regs k ≡ reg_reset c k

-- the words after these ports have written, the later port last
abbrev pub after_writes : State → List WriteSignal → List ℕ → List ℕ
after_writes s [] xs = xs
after_writes s (p ∷ ps) xs = after_writes s ps (if p.enable.value s == 1 then slice_set xs (p.addr.value s) (p.value.value s) else xs)

-- a state whose registers and arrays of a fragment are what the circuit makes of another state
pub record IsNext (c : Circuit) (o : Own) (s t : State) : Type 0 where
  pub regs : (k : ℕ) → o.from ≤ k → k < o.to → slice_index t.regs k ≡ (next_signal c k).value s
  pub arrays : (m : ℕ) → o.first ≤ m → m < o.last → slice_index_or t.arrays m [] ≡ after_writes s (write_signals c m) (slice_index_or s.arrays m [])

-- the array, where there is one, has these words
abbrev pub HasWords : Option ℕ → State → List ℕ → Type 0
HasWords None s ws = Unit {0}
HasWords (Some m) s ws = slice_index_or s.arrays m [] ≡ ws

-- the array that a lock of this kind has for a memory: none where it is delayed; a renaming lock keeps twice as many words
abbrev pub words_of : LockKind → ℕ → ℕ
words_of Queue d = d
words_of Bypass d = d
words_of Rename d = d + d

-- the array, where there is one, has the image in front, and zeros after it
abbrev pub HasImage : LockKind → Option ℕ → State → List ℕ → Type 0
HasImage k array s image = HasWords array s (filled_words (words_of k (length image)) image)

-- the shapes of the arrays that a lock of this kind has for a memory: none where it is delayed
abbrev pub arrays_of : LockKind → MemInfo → List Shape
arrays_of k m = if m.delayed then [] else record { name = m.name; width = m.width; depth = words_of k m.depth } ∷ []

-- no port writes the array, where there is one
abbrev pub HasNoPorts : Option ℕ → Circuit → Type 0
HasNoPorts None c = Unit {0}
HasNoPorts (Some m) c = write_signals c m ≡ []

-- the registers are new and follow one another, and the array is new
pub record IsFragment (old new : Circuit) (r : LockRegs) : Type 0 where
  pub some : 1 ≤ length r.regs
  pub listed : (k : ℕ) → k < length r.regs → slice_index r.regs k ≡ first_reg r + k
  pub above : length old.regs ≤ first_reg r
  pub has_reg : (k : ℕ) → first_reg r ≤ k → k < end_reg r → HasReg new k
  pub array_above : (m : ℕ) → r.array ≡ Some m → length old.arrays ≤ m
  pub has_array : (m : ℕ) → r.array ≡ Some m → HasArray new m

-- the nets of room, of 1 bit, and of the next ticket
pub record HasRegNets (w : ℕ) (c : Circuit) (r : LockRegs) : Type 0 where
  pub room : HasWidth c r.room 1
  pub ticket : HasWidth c r.ticket w

-- registers at reset, and an array that holds a whole image, stand for the lock at its start
pub record StartLaw (stands : State → LockState → Type 0) (k : LockKind) (c : Circuit) (r : LockRegs) : Type 0 where
  pub starts : (s : State) (image : List ℕ) → IsReset c (first_reg r) (end_reg r) s → length image ≡ 2 ^ r.bits
      → HasImage k r.array s image → stands s (start image)

-- where the array of a renaming lock has the word of each address and the value of each pending write that has one, all at different places
pub record HasPlaces (bits m : ℕ) (s : State) (x : LockState) : Type 0 where
  pub word : ℕ → ℕ
  pub value : ℕ → ℕ
  pub depth : length (slice_index_or s.arrays m []) ≡ 2 ^ bits + 2 ^ bits
  pub word_in : (a : ℕ) → a < 2 ^ bits → word a < 2 ^ bits + 2 ^ bits
  pub value_in : (k : ℕ) → k < length x.entries → value k < 2 ^ bits + 2 ^ bits
  pub words : (a : ℕ) → a < 2 ^ bits → slice_index (slice_index_or s.arrays m []) (word a) ≡ slice_index x.words a
  pub values : (k v : ℕ) → k < length x.entries → (entry_at x.entries k).value ≡ Some v → slice_index (slice_index_or s.arrays m []) (value k) ≡ v
  pub words_apart : (a b : ℕ) → a < 2 ^ bits → b < 2 ^ bits → word a ≡ word b → a ≡ b
  pub values_apart : (j k : ℕ) → j < length x.entries → k < length x.entries → value j ≡ value k → j ≡ k
  pub apart : (a k : ℕ) → a < 2 ^ bits → k < length x.entries → word a ≢ value k

-- a renaming lock keeps words and values in its array
abbrev pub PlacesLaw : (State → LockState → Type 0) → LockKind → LockRegs → Type 0
PlacesLaw stands Queue r = Unit {0}
PlacesLaw stands Bypass r = Unit {0}
PlacesLaw stands Rename r = (m : ℕ) (s : State) (x : LockState) → r.array ≡ Some m → stands s x → HasPlaces r.bits m s x

-- the net of room says whether there is room
pub record RoomLaw (stands : State → LockState → Type 0) (n : ℕ) (room : Signal) : Type 0 where
  pub holds : (s : State) (x : LockState) → stands s x → room.value s ≡ bit (has_room n x)

-- a net holds a ticket: the ticket's number modulo a power of two
abbrev pub holds_ticket : ℕ → Signal → State → ℕ → Type 0
holds_ticket w f s t = f.value s ≡ t % 2 ^ w

-- the net of the next ticket holds it
pub record TicketLaw (stands : State → LockState → Type 0) (w : ℕ) (ticket : Signal) : Type 0 where
  pub holds : (s : State) (x : LockState) → stands s x → holds_ticket w ticket s (next_ticket x)

-- a signal's value fits its width
abbrev pub FitsIn : Signal → State → Type 0
FitsIn f s = f.value s < 2 ^ f.width

-- a look of a covered ticket says whether it is ready, and at an address that fits it gives the value of a ready read
pub record LookLaw (stands : State → LockState → Type 0) (k : LockKind) (w : ℕ) (u : Kind) (addr ticket ready : Signal) (value : Option Signal) : Type 0 where
  pub answers : (s : State) (x : LockState) (t : ℕ) → stands s x → Covered x t → holds_ticket w ticket s t
      → ready.value s ≡ bit (look_ready k u x t (addr.value s))
  pub gives : (f : Signal) → value ≡ Some f → (s : State) (x : LockState) (t : ℕ) → stands s x → Covered x t
      → holds_ticket w ticket s t → FitsIn addr s → look_ready k R x t (addr.value s) ≡ true
      → f.value s ≡ look_value x t (addr.value s)

-- the net of a look's value, where there is one
pub record HasValueNet (c : Circuit) (width : ℕ) (value : Option Net) : Type 0 where
  pub net : (x : Net) → value ≡ Some x → HasWidth c x width

-- what the nets of a reserve port mean: whether it reserves, and which address
pub record ReserveSignal : Type 0 where
  pub enable : Signal
  pub addr : Signal

-- what the nets of a write port mean: whether it writes, through which ticket, and which value
pub record TicketSignal : Type 0 where
  pub enable : Signal
  pub ticket : Signal
  pub value : Signal

-- what the nets of a whole step mean: reservations, writes, both releases, and a squash with its tail
pub record StepSignals : Type 0 where
  pub reserves : List ReserveSignal
  pub writes : List TicketSignal
  pub release : Signal
  pub release2 : Signal
  pub squash : Signal
  pub tail : Signal

-- a reservation for reading appends nothing
abbrev pub enabled_reserve : Kind → Signal → Signal
enabled_reserve R f = const_signal 1 0
enabled_reserve W f = f

-- what the nets of a reserve port mean
abbrev pub reserve_signal : Circuit → ReservePort → ReserveSignal
reserve_signal c p = record { enable = enabled_reserve p.kind (signal c p.enable); addr = signal c p.addr }

-- what the nets of a write port mean
abbrev pub ticket_signal : Circuit → TicketWrite → TicketSignal
ticket_signal c p = record { enable = signal c p.enable; ticket = signal c p.ticket; value = signal c p.value }

-- what the nets of all ports of a step mean
unfoldable pub step_signals : Circuit → LockPorts → StepSignals
step_signals c p = record {
  reserves = map (reserve_signal c) p.reserves;
  writes = map (ticket_signal c) p.writes;
  release = signal c p.release;
  release2 = signal c p.release2;
  squash = signal c p.squash;
  tail = signal c p.tail;
}

-- the reserve port past the last one: it asks nothing
abbrev pub no_reserve : ReserveSignal
no_reserve = record { enable = const_signal 1 0; addr = const_signal 1 0 }

-- the write port past the last one: it writes nothing
abbrev pub no_ticket : TicketSignal
no_ticket = record { enable = const_signal 1 0; ticket = const_signal 1 0; value = const_signal 1 0 }

-- the k-th reserve port
abbrev pub reserve_at : List ReserveSignal → ℕ → ReserveSignal
reserve_at fs k = slice_index_or fs k no_reserve

-- the k-th write port
abbrev pub ticket_at : List TicketSignal → ℕ → TicketSignal
ticket_at fs k = slice_index_or fs k no_ticket

-- the addresses of the enabled reservations for writing
abbrev pub asked_addresses : State → List ReserveSignal → List ℕ
asked_addresses s [] = []
asked_addresses s (f ∷ fs) = if f.enable.value s == 1 then f.addr.value s ∷ asked_addresses s fs else asked_addresses s fs

-- in this state the ports' nets do this to the lock
pub record Drives (w : ℕ) (f : StepSignals) (s : State) (a : LockAct) : Type 0 where
  pub reserves : a.reserves ≡ asked_addresses s f.reserves
  pub fits : (k : ℕ) → k < length f.reserves → (reserve_at f.reserves k).enable.value s ≡ 1 → FitsIn (reserve_at f.reserves k).addr s
  pub count : length a.writes ≡ length f.writes
  pub on : (k : ℕ) → k < length a.writes → (ticket_at f.writes k).enable.value s ≡ bit (act_at a.writes k).on
  pub ticket : (k : ℕ) → k < length a.writes → (act_at a.writes k).on ≡ true → holds_ticket w (ticket_at f.writes k).ticket s (act_at a.writes k).ticket
  pub value : (k : ℕ) → k < length a.writes → (ticket_at f.writes k).value.value s ≡ (act_at a.writes k).value
  pub release : f.release.value s ≡ bit a.release
  pub release2 : f.release2.value s ≡ bit a.release2
  pub squash : f.squash.value s ≡ bit a.squash
  pub tail : a.squash ≡ true → holds_ticket w f.tail s a.tail

-- in a cycle of proper use the commit nets show the commit, and the next state stands for the step's
pub record StepLaw (stands : State → LockState → Type 0) (n w : ℕ) (o : Own) (c : Circuit) (f : StepSignals) (commit addr value : Signal) : Type 0 where
  pub commits : (s : State) (x : LockState) (a : LockAct) → stands s x → Drives w f s a → Proper n x a → commit.value s ≡ bit a.release
  pub commits_addr : (s : State) (x : LockState) (a : LockAct) → stands s x → Drives w f s a → Proper n x a → addr.value s ≡ commit_addr x a
  pub commits_value : (s : State) (x : LockState) (a : LockAct) → stands s x → Drives w f s a → Proper n x a → value.value s ≡ commit_value x a
  pub next : (s t : State) (x : LockState) (a : LockAct) → stands s x → Drives w f s a → Proper n x a → IsNext c o s t → stands t (step x a)

-- two states in which a lock's registers are the same, and the nets of a step's ports but for the written values
pub record SameButValues (o : Own) (f : StepSignals) (s t : State) : Type 0 where
  pub regs : (k : ℕ) → o.from ≤ k → k < o.to → slice_index s.regs k ≡ slice_index t.regs k
  pub ask : (k : ℕ) → k < length f.reserves → (reserve_at f.reserves k).enable.value s ≡ (reserve_at f.reserves k).enable.value t
  pub addr : (k : ℕ) → k < length f.reserves → (reserve_at f.reserves k).addr.value s ≡ (reserve_at f.reserves k).addr.value t
  pub enable : (k : ℕ) → k < length f.writes → (ticket_at f.writes k).enable.value s ≡ (ticket_at f.writes k).enable.value t
  pub ticket : (k : ℕ) → k < length f.writes → (ticket_at f.writes k).ticket.value s ≡ (ticket_at f.writes k).ticket.value t
  pub release : f.release.value s ≡ f.release.value t
  pub release2 : f.release2.value s ≡ f.release2.value t
  pub squash : f.squash.value s ≡ f.squash.value t
  pub tail : f.tail.value s ≡ f.tail.value t

-- where two states differ in written values alone, the fragment's registers are the same again in their next states
pub record HidesValues (c : Circuit) (o : Own) (f : StepSignals) : Type 0 where
  pub same : (s t u v : State) → SameButValues o f s t → IsNext c o s u → IsNext c o t v → (k : ℕ) → o.from ≤ k
      → k < o.to → slice_index u.regs k ≡ slice_index v.regs k

-- no written value comes into a register of a renaming lock
abbrev pub HidesLaw : LockKind → Circuit → Own → StepSignals → Type 0
HidesLaw Queue c o f = Unit {0}
HidesLaw Bypass c o f = Unit {0}
HidesLaw Rename c o f = HidesValues c o f

-- the nets of a commit: 1 bit, an address, a value
pub record HasCommitNets (c : Circuit) (bits width : ℕ) (commit_net addr_net value_net : Net) : Type 0 where
  pub commit : HasWidth c commit_net 1
  pub addr : HasWidth c addr_net bits
  pub value : HasWidth c value_net width

-- the nets of a step's ports are there
pub record PortsThere (c : Circuit) (p : LockPorts) : Type 0 where
  pub ask : (k : ℕ) (q : ReservePort) → k < length p.reserves → slice_index_or p.reserves k q ≡ q → IsThere c q.enable
  pub addr : (k : ℕ) (q : ReservePort) → k < length p.reserves → slice_index_or p.reserves k q ≡ q → IsThere c q.addr
  pub enable : (k : ℕ) (q : TicketWrite) → k < length p.writes → slice_index_or p.writes k q ≡ q → IsThere c q.enable
  pub ticket : (k : ℕ) (q : TicketWrite) → k < length p.writes → slice_index_or p.writes k q ≡ q → IsThere c q.ticket
  pub value : (k : ℕ) (q : TicketWrite) → k < length p.writes → slice_index_or p.writes k q ≡ q → IsThere c q.value
  pub release : IsThere c p.release
  pub release2 : IsThere c p.release2
  pub squash : IsThere c p.squash
  pub tail : IsThere c p.tail

-- the nets of a step's ports have their widths: 1 bit, and those of an address, a word and a ticket
pub record PortsFit (c : Circuit) (bits width w : ℕ) (p : LockPorts) : Type 0 where
  pub ask_one : (k : ℕ) (q : ReservePort) → k < length p.reserves → slice_index_or p.reserves k q ≡ q → (signal c q.enable).width ≡ 1
  pub addr_width : (k : ℕ) (q : ReservePort) → k < length p.reserves → slice_index_or p.reserves k q ≡ q → (signal c q.addr).width ≡ bits
  pub one : (k : ℕ) (q : TicketWrite) → k < length p.writes → slice_index_or p.writes k q ≡ q → (signal c q.enable).width ≡ 1
  pub ticket_width : (k : ℕ) (q : TicketWrite) → k < length p.writes → slice_index_or p.writes k q ≡ q → (signal c q.ticket).width ≡ w
  pub value_width : (k : ℕ) (q : TicketWrite) → k < length p.writes → slice_index_or p.writes k q ≡ q → (signal c q.value).width ≡ width
  pub release_one : (signal c p.release).width ≡ 1
  pub release2_one : (signal c p.release2).width ≡ 1
  pub squash_one : (signal c p.squash).width ≡ 1
  pub tail_width : (signal c p.tail).width ≡ w

-- another circuit gives the registers and arrays of a fragment the same next values
pub record OwnKept (o : Own) (a b : Circuit) : Type 0 where
  pub has_reg : (k : ℕ) → o.from ≤ k → k < o.to → HasReg b k
  pub nexts : (k : ℕ) → o.from ≤ k → k < o.to → next_signal b k ≡ next_signal a k
  pub has_array : (m : ℕ) → o.first ≤ m → m < o.last → HasArray b m
  pub writes : (m : ℕ) → o.first ≤ m → m < o.last → write_signals b m ≡ write_signals a m
