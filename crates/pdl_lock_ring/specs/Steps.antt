-- The signals of a step: what slots, head and tail take next.
use Rattle.std.specs.Prelude.{◌≡◌, ℕ, zero, suc, ◌+◌, ◌-◌, ◌*◌, ◌<◌, List, [], ◌∷◌, length, Some}
use Rattle.pdl_net.specs.declared.BinOp.TheVariants.{Add, Eq}
use Rattle.pdl_net.specs.Circuit.{Circuit, State}
use Rattle.pdl_net.specs.Signal.{Signal, reg_signal, const_signal, bin_signal, mux_signal}
use Rattle.pdl_net.specs.Meaning.{next_signal, WriteSignal, write_signals}
use Rattle.pdl_net.specs.Growth.{Own}
use Rattle.pdl_lockapi.specs.Laws.{StepSignals, reserve_at, ticket_at, after_writes, first_array, end_array}
use Rattle.pdl_lock_ring.specs.declared.layout.RingLayout.{RingLayout}
use Rattle.pdl_lock_ring.specs.declared.layout.Content.{Content}
use Rattle.pdl_lock_ring.specs.declared.layout.Content.TheVariants.{Value, Place}
use Rattle.pdl_lock_ring.specs.Slots.{addr_at, has_at, value_at, content_signal}
use Rattle.pdl_lock_ring.specs.Choices.{selected_signal}
use Rattle.pdl_lock_ring.specs.Looks.{head_signal, tail_signal, second_ticket, slot_of}

-- whether one of the first k reserve ports asks for an entry, and whether two do
unfoldable pub push_signal : StepSignals → ℕ → Signal
push_signal f zero = const_signal 1 0
push_signal f (suc k) = mux_signal (reserve_at f.reserves k).enable (const_signal 1 1) (push_signal f k)

-- whether two of the first k reserve ports ask for an entry
unfoldable pub push2_signal : StepSignals → ℕ → Signal
push2_signal f zero = const_signal 1 0
push2_signal f (suc k) = mux_signal (reserve_at f.reserves k).enable (push_signal f k) (push2_signal f k)

-- the address of the last that does, and that of the one before it
unfoldable pub last_addr : ℕ → StepSignals → ℕ → Signal
last_addr bits f zero = const_signal bits 0
last_addr bits f (suc k) = mux_signal (reserve_at f.reserves k).enable (reserve_at f.reserves k).addr (last_addr bits f k)

-- the address of the last but one that asks among the first k reserve ports
unfoldable pub before_addr : ℕ → StepSignals → ℕ → Signal
before_addr bits f zero = const_signal bits 0
before_addr bits f (suc k) = mux_signal (reserve_at f.reserves k).enable (last_addr bits f k) (before_addr bits f k)

-- whether one of all reserve ports asks for an entry
abbrev pub pushes : StepSignals → Signal
pushes f = push_signal f (length f.reserves)

-- whether two of all reserve ports ask for an entry
abbrev pub pushes2 : StepSignals → Signal
pushes2 f = push2_signal f (length f.reserves)

-- the addresses of a cycle's first and second reservation
unfoldable pub first_addr : RingLayout → StepSignals → Signal
first_addr l f = mux_signal (pushes2 f) (before_addr l.bits f (length f.reserves)) (last_addr l.bits f (length f.reserves))

-- the address of a cycle's second reservation
unfoldable pub second_addr : RingLayout → StepSignals → Signal
second_addr l f = last_addr l.bits f (length f.reserves)

-- the slots that they are given; where there is none, a number that no slot has
unfoldable pub first_slot : RingLayout → StepSignals → Signal
first_slot l f = mux_signal (pushes f) (slot_of l (tail_signal l)) (const_signal l.ticket l.size)

-- the slot of a cycle's second reservation, or a number that no slot has where there is none
unfoldable pub second_slot : RingLayout → StepSignals → Signal
second_slot l f = mux_signal (pushes2 f) (slot_of l (second_ticket l)) (const_signal l.ticket l.size)

-- the number of slot k
abbrev pub number_at : RingLayout → ℕ → Signal
number_at l k = const_signal l.ticket k

-- slot k is given to the first, to the second
abbrev pub takes_first : RingLayout → StepSignals → ℕ → Signal
takes_first l f k = bin_signal Eq (first_slot l f) (number_at l k)

-- slot k is given to a cycle's second reservation
abbrev pub takes_second : RingLayout → StepSignals → ℕ → Signal
takes_second l f k = bin_signal Eq (second_slot l f) (number_at l k)

-- the slot into which write port j writes; where it is off, a number that no slot has
abbrev pub written_slot : RingLayout → StepSignals → ℕ → Signal
written_slot l f j = mux_signal (ticket_at f.writes j).enable (slot_of l (ticket_at f.writes j).ticket) (const_signal l.ticket l.size)

-- write port j writes into slot k
abbrev pub fills_slot : RingLayout → StepSignals → ℕ → ℕ → Signal
fills_slot l f k j = bin_signal Eq (written_slot l f j) (number_at l k)

-- the address of the slot of this number after the reservations, from what it was before
unfoldable pub reserved_addr : RingLayout → StepSignals → Signal → Signal → Signal
reserved_addr l f addr slot =
    mux_signal (bin_signal Eq (second_slot l f) slot) (second_addr l f) (mux_signal (bin_signal Eq (first_slot l f) slot) (first_addr l f) addr)

-- slot k's address after the reservations
abbrev pub slot_addr : RingLayout → StepSignals → ℕ → Signal
slot_addr l f k = reserved_addr l f (reg_signal l.bits (addr_at l k)) (number_at l k)

-- slot k's value bit after the reservations and the first j write ports
unfoldable pub filled_bit : RingLayout → StepSignals → ℕ → ℕ → Signal
filled_bit l f k zero = mux_signal (takes_second l f k) (const_signal 1 0) (mux_signal (takes_first l f k) (const_signal 1 0) (reg_signal 1 (has_at l k)))
filled_bit l f k (suc j) = mux_signal (fills_slot l f k j) (const_signal 1 1) (filled_bit l f k j)

-- the value of the slot of this number after the first j write ports, from what it was before
unfoldable pub filled_value : RingLayout → StepSignals → Signal → Signal → ℕ → Signal
filled_value l f value slot zero = value
filled_value l f value slot (suc j) =
    mux_signal (bin_signal Eq (written_slot l f j) slot) (ticket_at f.writes j).value (filled_value l f value slot j)

-- slot k's value bit after the reservations and all write ports
abbrev pub slot_bit : RingLayout → StepSignals → ℕ → Signal
slot_bit l f k = filled_bit l f k (length f.writes)

-- the content of the slot of this number after the write ports, which change a value but no place
abbrev pub content_after : Content → RingLayout → StepSignals → Signal → Signal → Signal
content_after Value l f content slot = filled_value l f content slot (length f.writes)
content_after Place l f content slot = content

-- what slot k keeps after all write ports: its value, or its place, which no write changes
abbrev pub slot_value : RingLayout → StepSignals → ℕ → Signal
slot_value l f k = content_after l.content l f (content_signal l k) (number_at l k)

-- the ticket after the oldest one
abbrev pub next_head : RingLayout → Signal
next_head l = bin_signal Add (head_signal l) (const_signal l.ticket 1)

-- the head after the releases, and the tail after the reservations and the squash
unfoldable pub head_after : RingLayout → StepSignals → Signal
head_after l f = mux_signal f.release2 (bin_signal Add (next_head l) (const_signal l.ticket 1)) (mux_signal f.release (next_head l) (head_signal l))

-- the tail after the reservations and the squash
unfoldable pub tail_after : RingLayout → StepSignals → Signal
tail_after l f =
    mux_signal f.squash f.tail
    (mux_signal (pushes2 f) (bin_signal Add (second_ticket l) (const_signal l.ticket 1)) (mux_signal (pushes f) (second_ticket l) (tail_signal l)))

-- of a signal for each slot that of a ticket's slot
abbrev pub at_ticket : RingLayout → (ℕ → Signal) → Signal → Signal
at_ticket l g t = selected_signal g t (l.ticket - 1) 0

-- the address of a ticket's slot after this cycle's reservations
abbrev pub addr_of : RingLayout → StepSignals → Signal → Signal
addr_of l f t = reserved_addr l f (at_ticket l (λ k. reg_signal l.bits (addr_at l k)) t) (slot_of l t)

-- the content of a ticket's slot after this cycle's writes
abbrev pub content_of : RingLayout → StepSignals → Signal → Signal
content_of l f t = content_after l.content l f (at_ticket l (content_signal l) t) (slot_of l t)

-- the address of the oldest pending write after this cycle's reservations and writes
abbrev pub oldest_addr : RingLayout → StepSignals → Signal
oldest_addr l f = addr_of l f (head_signal l)

-- the content of the oldest pending write after this cycle's reservations and writes
abbrev pub oldest_value : RingLayout → StepSignals → Signal
oldest_value l f = content_of l f (head_signal l)

-- the address of the pending write after the oldest one, after this cycle's reservations and writes
abbrev pub next_addr : RingLayout → StepSignals → Signal
next_addr l f = addr_of l f (next_head l)

-- the content of the pending write after the oldest one, after this cycle's reservations and writes
abbrev pub next_value : RingLayout → StepSignals → Signal
next_value l f = content_of l f (next_head l)

-- the addresses of the first n slots take what the cycle makes of them
pub record NextAddrs (c : Circuit) (l : RingLayout) (f : StepSignals) (n : ℕ) : Type 0 where
  pub addr : (k : ℕ) → k < n → next_signal c (addr_at l k) ≡ slot_addr l f k

-- the bits that tell whether the first n slots have their values take what the cycle makes of them
pub record NextBits (c : Circuit) (l : RingLayout) (f : StepSignals) (n : ℕ) : Type 0 where
  pub bit : (k : ℕ) → k < n → next_signal c (has_at l k) ≡ slot_bit l f k

-- the contents of the first n slots take the values after the cycle's writes
pub record NextContents (c : Circuit) (l : RingLayout) (f : StepSignals) (n : ℕ) : Type 0 where
  pub value : (k : ℕ) → k < n → next_signal c (value_at l k) ≡ slot_value l f k

-- what head and tail take next
pub record NextEnds (c : Circuit) (l : RingLayout) (f : StepSignals) : Type 0 where
  pub head : next_signal c l.from ≡ head_after l f
  pub tail : next_signal c (l.from + 1) ≡ tail_after l f

-- two write ports of an array, each with its enable, address and value
abbrev pub two_writes : Signal → Signal → Signal → Signal → Signal → Signal → List WriteSignal
two_writes e a v e' a' v' = record { enable = e; addr = a; value = v } ∷ record { enable = e'; addr = a'; value = v' } ∷ []

-- the array, where there is one, has the words that these two writes leave, the second one last
pub record WritesArray (c : Circuit) (l : RingLayout) (writes : List WriteSignal) : Type 0 where
  pub words : (m : ℕ) → l.array ≡ Some m → (s : State) (ws : List ℕ) → after_writes s (write_signals c m) ws ≡ after_writes s writes ws

-- what the registers and the array take next where the slots keep values
pub record NextValues (c : Circuit) (l : RingLayout) (f : StepSignals) : Type 0 where
  pub addrs : NextAddrs c l f l.size
  pub bits : NextBits c l f l.size
  pub contents : NextContents c l f l.size
  pub ends : NextEnds c l f
  pub array : WritesArray c l (two_writes f.release (oldest_addr l f) (oldest_value l f) f.release2 (next_addr l f) (next_value l f))

-- this one register, and no array
abbrev pub own_reg : ℕ → Own
own_reg r = record { from = r; to = r + 1; first = 0; last = 0 }

-- n registers from this one on, and no array
abbrev pub own_row : ℕ → ℕ → Own
own_row r n = record { from = r; to = r + n; first = 0; last = 0 }

-- the registers of head and tail
abbrev pub own_ends : RingLayout → Own
own_ends l = own_row l.from 2

-- the registers of the slots' addresses
abbrev pub own_addrs : RingLayout → Own
own_addrs l = own_row (l.from + 2) l.size

-- the registers of the slots' value bits
abbrev pub own_bits : RingLayout → Own
own_bits l = own_row (l.from + 2 + l.size) l.size

-- the registers of the slots' addresses and value bits
abbrev pub own_slots : RingLayout → Own
own_slots l = own_row (l.from + 2) (2 * l.size)

-- the registers of the slots' values, or places
abbrev pub own_contents : RingLayout → Own
own_contents l = own_row (l.from + 2 + 2 * l.size) l.size

-- the array, where there is one, and no register
abbrev pub own_array : RingLayout → Own
own_array l = record { from = 0; to = 0; first = first_array l.array; last = end_array l.array }

-- all registers of the lock, and the array, where there is one
abbrev pub own_all : RingLayout → Own
own_all l = record { from = l.from; to = l.from + (2 + 3 * l.size); first = first_array l.array; last = end_array l.array }
