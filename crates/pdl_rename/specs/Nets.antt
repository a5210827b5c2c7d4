-- The signals of a renaming lock.
use Rattle.std.specs.Prelude.{◌≡◌, ℕ, zero, suc, ◌+◌, ◌*◌, ◌-◌, ◌<◌, List, [], ◌∷◌, ◌++◌, length}
use Rattle.pdl_net.specs.declared.BinOp.TheVariants.{Eq}
use Rattle.pdl_net.specs.Circuit.{Circuit}
use Rattle.pdl_net.specs.Signal.{Signal, const_signal, bin_signal, mux_signal, read_signal}
use Rattle.pdl_net.specs.Meaning.{Means, signal, next_signal, WriteSignal, write_signals}
use Rattle.pdl_net.specs.Growth.{Own}
use Rattle.pdl_lockapi.specs.declared.LockNets.{LockNets}
use Rattle.pdl_lockapi.specs.Laws.{StepSignals, ticket_at}
use Rattle.pdl_lock_ring.specs.declared.choice.Registers.{Registers}
use Rattle.pdl_lock_ring.specs.Slots.{content_signal, value_at}
use Rattle.pdl_lock_ring.specs.Choices.{selected_signal}
use Rattle.pdl_lock_ring.specs.Registers.{register_of}
use Rattle.pdl_lock_ring.specs.Looks.{head_signal, slot_of, youngest_value}
use Rattle.pdl_lock_ring.specs.Steps as ring
use Rattle.pdl_lock_ring.specs.Steps.{filled_value, next_head, oldest_addr, next_addr, NextAddrs, NextBits, NextEnds, own_row}
use Rattle.pdl_rename.specs.declared.layout.Layout.{Layout}
use Rattle.pdl_rename.specs.Places.{map_at, map_signal}

-- the registers of the map
abbrev pub registers_of_map : Layout → Registers
registers_of_map l = record { first = l.map; count = l.depth; width = l.slots.kept }

-- the registers of the slots' places
abbrev pub registers_of_places : Layout → Registers
registers_of_places l = record { first = l.slots.from + 2 + 2 * l.slots.size; count = l.slots.size; width = l.slots.kept }

-- the place of an address's word
abbrev pub mapped_place : Layout → Signal → Signal
mapped_place l a = selected_signal (register_of (registers_of_map l)) a l.slots.bits 0

-- the place of a ticket's slot
abbrev pub ticket_place : Layout → Signal → Signal
ticket_place l t = selected_signal (register_of (registers_of_places l)) t (l.slots.ticket - 1) 0

-- the place of the youngest older pending write of an address, else that of its word; and what the array has there
abbrev pub found_place : Layout → Signal → Signal → Signal
found_place l a t = youngest_value l.slots (content_signal l.slots) (mapped_place l a) a t

-- the word that the array has at the place found for an address
abbrev pub found_word : Layout → Signal → Signal → Signal
found_word l a t = read_signal l.slots.width l.array (found_place l a t)

-- write port j as a port of the array, and the first j ones
abbrev pub place_of : Layout → StepSignals → ℕ → Signal
place_of l f j = ticket_place l (ticket_at f.writes j).ticket

-- write port j as a port of the array, at the place of its ticket's slot
abbrev pub one_put : Layout → StepSignals → ℕ → WriteSignal
one_put l f j = record { enable = (ticket_at f.writes j).enable; addr = place_of l f j; value = (ticket_at f.writes j).value }

-- the first j write ports as ports of the array
unfoldable pub place_writes : Layout → StepSignals → ℕ → List WriteSignal
place_writes l f zero = []
place_writes l f (suc j) = place_writes l f j ++ one_put l f j ∷ []

-- the places of the oldest pending write and of the one after it
abbrev pub oldest_place : Layout → StepSignals → Signal
oldest_place l f = ring.oldest_value l.slots f

-- the place of the pending write after the oldest
abbrev pub next_place_of : Layout → StepSignals → Signal
next_place_of l f = ring.next_value l.slots f

-- the word that the array has at a place, which is that of the slot of this number, after this cycle's writes
abbrev pub stored_signal : Layout → StepSignals → Signal → Signal → Signal
stored_signal l f place slot = filled_value l.slots f (read_signal l.slots.width l.array place) slot (length f.writes)

-- the values of the two oldest pending writes, after this cycle's writes
abbrev pub oldest_value : Layout → StepSignals → Signal
oldest_value l f = stored_signal l f (oldest_place l f) (slot_of l.slots (head_signal l.slots))

-- the value of the pending write after the oldest, after this cycle's writes
abbrev pub next_value : Layout → StepSignals → Signal
next_value l f = stored_signal l f (next_place_of l f) (slot_of l.slots (next_head l.slots))

-- the slots that are released, a number that no slot has where there is none
abbrev pub freed_slot : Layout → StepSignals → Signal
freed_slot l f = mux_signal f.release (slot_of l.slots (head_signal l.slots)) (const_signal l.slots.ticket l.slots.size)

-- the slot that the second release frees, a number that no slot has where there is none
abbrev pub freed2_slot : Layout → StepSignals → Signal
freed2_slot l f = mux_signal f.release2 (slot_of l.slots (next_head l.slots)) (const_signal l.slots.ticket l.slots.size)

-- the places that become free: those of the words which the released values take over, one after the other
abbrev pub freed_place : Layout → StepSignals → Signal
freed_place l f = mapped_place l (oldest_addr l.slots f)

-- the place that the second release sets free: the oldest's where both are of one address, else the map's
abbrev pub freed2_place : Layout → StepSignals → Signal
freed2_place l f = mux_signal (bin_signal Eq (next_addr l.slots f) (oldest_addr l.slots f)) (oldest_place l f) (mapped_place l (next_addr l.slots f))

-- slot k's place takes what its release sets free
abbrev pub next_place : Layout → StepSignals → ℕ → Signal
next_place l f k =
    mux_signal (bin_signal Eq (freed2_slot l f) (const_signal l.slots.ticket k)) (freed2_place l f)
    (mux_signal (bin_signal Eq (freed_slot l f) (const_signal l.slots.ticket k)) (freed_place l f) (content_signal l.slots k))

-- the place of an address's word after the first release
abbrev pub first_map : Layout → StepSignals → ℕ → Signal
first_map l f a =
    mux_signal f.release (mux_signal (bin_signal Eq (oldest_addr l.slots f) (const_signal l.slots.bits a)) (oldest_place l f) (map_signal l a)) (map_signal l a)

-- the place of an address's word after both releases
abbrev pub next_map : Layout → StepSignals → ℕ → Signal
next_map l f a =
    mux_signal f.release2 (mux_signal (bin_signal Eq (next_addr l.slots f) (const_signal l.slots.bits a)) (next_place_of l f) (first_map l f a))
    (first_map l f a)

-- what the first n registers of the map take next
pub record NextMap (c : Circuit) (l : Layout) (f : StepSignals) (n : ℕ) : Type 0 where
  pub map : (a : ℕ) → a < n → next_signal c (map_at l a) ≡ next_map l f a

-- what the places of the first n slots take next
pub record NextPlaces (c : Circuit) (l : Layout) (f : StepSignals) (n : ℕ) : Type 0 where
  pub place : (k : ℕ) → k < n → next_signal c (value_at l.slots k) ≡ next_place l f k

-- what all registers and the array take next
pub record NextRename (c : Circuit) (l : Layout) (f : StepSignals) : Type 0 where
  pub addrs : NextAddrs c l.slots f l.slots.size
  pub bits : NextBits c l.slots f l.slots.size
  pub ends : NextEnds c l.slots f
  pub places : NextPlaces c l f l.slots.size
  pub map : NextMap c l f l.depth
  pub store : write_signals c l.array ≡ place_writes l f (length f.writes)

-- the nets of the commit ports
pub record AreRenamed (c : Circuit) (l : Layout) (f : StepSignals) (n : LockNets) : Type 0 where
  pub commit : Means c n.commit f.release
  pub addr : Means c n.addr (mux_signal f.release (oldest_addr l.slots f) (const_signal l.slots.bits 0))
  pub value : Means c n.value (mux_signal f.release (oldest_value l f) (const_signal l.slots.width 0))
  pub commit2 : Means c n.commit2 f.release2
  pub addr2 : Means c n.addr2 (mux_signal f.release2 (next_addr l.slots f) (const_signal l.slots.bits 0))
  pub value2 : Means c n.value2 (mux_signal f.release2 (next_value l f) (const_signal l.slots.width 0))
  pub addr_wide : (signal c n.addr).width ≡ l.slots.bits
  pub value_wide : (signal c n.value).width ≡ l.slots.width
  pub addr2_wide : (signal c n.addr2).width ≡ l.slots.bits
  pub value2_wide : (signal c n.value2).width ≡ l.slots.width

-- the registers of the map, and no array
abbrev pub own_map : Layout → Own
own_map l = own_row l.map l.depth

-- the array alone, without registers
abbrev pub own_store : Layout → Own
own_store l = record { from = 0; to = 0; first = l.array; last = l.array + 1 }

-- all registers of the lock, and its array
abbrev pub own_rename : Layout → Own
own_rename l = record { from = l.slots.from; to = l.slots.from + (2 + 3 * l.slots.size + l.depth); first = l.array; last = l.array + 1 }
