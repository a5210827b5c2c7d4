-- The signals of looks, of room and of the tickets. Words of as many bits as there are slots have a bit for each.
use Rattle.std.specs.Prelude.{◌≡◌, ℕ, ◌+◌, ◌-◌, ◌^◌, Option, Some, is_some}
use Rattle.pdl_net.specs.declared.Net.{Net}
use Rattle.pdl_net.specs.declared.BinOp.TheVariants.{Add, Sub, And, Or, Xor, Eq, Ne, Lt, Shl}
use Rattle.pdl_net.specs.Circuit.{Circuit}
use Rattle.pdl_net.specs.Signal.{Signal, reg_signal, const_signal, not_signal, bin_signal, mux_signal, slice_signal, read_signal}
use Rattle.pdl_net.specs.Meaning.{IsThere, signal}
use Rattle.pdl_build.specs.Operators.{zext_signal}
use Rattle.pdl_lockapi.specs.declared.Kind.{Kind}
use Rattle.pdl_lockapi.specs.declared.Kind.TheVariants.{R, W}
use Rattle.pdl_lock_ring.specs.declared.layout.RingLayout.{RingLayout}
use Rattle.pdl_lock_ring.specs.Slots.{addr_at, has_at}
use Rattle.pdl_lock_ring.specs.Choices.{bits_signal, either_signal}

-- the ticket of the oldest pending write, and the next ticket
abbrev pub head_signal : RingLayout → Signal
head_signal l = reg_signal l.ticket l.from

-- the ticket of the next reservation
abbrev pub tail_signal : RingLayout → Signal
tail_signal l = reg_signal l.ticket (l.from + 1)

-- the ticket after the next one
abbrev pub second_ticket : RingLayout → Signal
second_ticket l = bin_signal Add (tail_signal l) (const_signal l.ticket 1)

-- how many writes are pending
abbrev pub count_signal : RingLayout → Signal
count_signal l = bin_signal Sub (tail_signal l) (head_signal l)

-- whether there is room for one reservation
abbrev pub room_signal : RingLayout → Signal
room_signal l = bin_signal Lt (count_signal l) (const_signal l.ticket l.size)

-- whether there is room for two reservations
abbrev pub room2_signal : RingLayout → Signal
room2_signal l = bin_signal Lt (count_signal l) (const_signal l.ticket (l.size - 1))

-- a number modulo the number of slots: the slot of a ticket
abbrev pub slot_of : RingLayout → Signal → Signal
slot_of l t = bin_signal And t (const_signal l.ticket (l.size - 1))

-- no slot
abbrev pub no_slots : RingLayout → Signal
no_slots l = const_signal l.size 0

-- these slots, moved up by the slot of a ticket
abbrev pub shifted_slots : RingLayout → ℕ → Signal → Signal
shifted_slots l v t = bin_signal Shl (const_signal l.size v) (zext_signal l.size (slot_of l t))

-- the slots from that of a ticket on
abbrev pub slots_from : RingLayout → Signal → Signal
slots_from l t = shifted_slots l (2 ^ l.size - 1) t

-- these, and in every second round of the ring the others: a slot's bit changes just where one of its tickets is passed
unfoldable pub turns_of : RingLayout → Signal → Signal
turns_of l t = mux_signal (slice_signal (l.ticket - 1) (l.ticket - 1) t) (not_signal (slots_from l t)) (slots_from l t)

-- the slots that have a ticket from the head's up to this one
unfoldable pub passed_slots : RingLayout → Signal → Signal
passed_slots l t = bin_signal Xor (turns_of l t) (turns_of l (head_signal l))

-- the slots of the pending writes
abbrev pub pending_slots : RingLayout → Signal
pending_slots l = passed_slots l (tail_signal l)

-- the head's slot
unfoldable pub head_slot : RingLayout → Signal
head_slot l = shifted_slots l 1 (head_signal l)

-- the head's slot where the ticket is another one than the head's
unfoldable pub oldest_slot : RingLayout → Signal → Signal
oldest_slot l t = mux_signal (bin_signal Ne t (head_signal l)) (head_slot l) (no_slots l)

-- the pending writes with lower tickets than this one
unfoldable pub older_slots : RingLayout → Signal → Signal
older_slots l t = bin_signal And (pending_slots l) (bin_signal Or (oldest_slot l t) (passed_slots l t))

-- slot k has the address
abbrev pub same_at : RingLayout → Signal → ℕ → Signal
same_at l a k = bin_signal Eq (reg_signal l.bits (addr_at l k)) a

-- the slots that have the address
unfoldable pub same_slots : RingLayout → Signal → Signal
same_slots l a = bits_signal (same_at l a) (l.size - 1)

-- the older pending writes of the address
unfoldable pub hit_slots : RingLayout → Signal → Signal → Signal
hit_slots l a t = bin_signal And (same_slots l a) (older_slots l t)

-- there is one
abbrev pub is_found : RingLayout → Signal → Signal → Signal
is_found l a t = bin_signal Ne (hit_slots l a t) (no_slots l)

-- a queue's look is ready where there is none
abbrev pub ready_signal : RingLayout → Signal → Signal → Signal
ready_signal l a t = bin_signal Eq (hit_slots l a t) (no_slots l)

-- the slots before the head's: their pending writes are younger than those of the others
abbrev pub second_slots : RingLayout → Signal
second_slots l = not_signal (slots_from l (head_signal l))

-- slot k and those after it
abbrev pub slots_from_own : RingLayout → ℕ → Signal
slots_from_own l k = const_signal l.size (2 ^ l.size - 2 ^ k)

-- slot k and the slots of younger pending writes
unfoldable pub young_slots : RingLayout → ℕ → Signal
young_slots l k =
    mux_signal (slice_signal k k (slots_from l (head_signal l))) (bin_signal Or (slots_from_own l k) (second_slots l))
    (bin_signal And (slots_from_own l k) (second_slots l))

-- of slot k and the younger ones slot k alone is hit
unfoldable pub wins_at : RingLayout → Signal → ℕ → Signal
wins_at l hits k = bin_signal Eq (bin_signal And hits (young_slots l k)) (const_signal l.size (2 ^ k))

-- a signal of w bits of each slot, where the slot wins; else 0
abbrev pub won_at : RingLayout → (ℕ → Signal) → ℕ → Signal → ℕ → Signal
won_at l f w hits k = mux_signal (wins_at l hits k) (f k) (const_signal w 0)

-- that of the youngest older pending write of the address
abbrev pub won_signal : RingLayout → (ℕ → Signal) → ℕ → Signal → Signal → Signal
won_signal l f w a t = either_signal (won_at l f w (hit_slots l a t)) (l.ticket - 1) 0

-- whether slot k has its value
abbrev pub has_signal : RingLayout → ℕ → Signal
has_signal l k = reg_signal 1 (has_at l k)

-- whether the youngest older pending write of the address has its value, or there is none
abbrev pub youngest_ready : RingLayout → Signal → Signal → Signal
youngest_ready l a t = mux_signal (is_found l a t) (won_signal l (has_signal l) 1 a t) (const_signal 1 1)

-- what is given of its slot, or else this
abbrev pub youngest_value : RingLayout → (ℕ → Signal) → Signal → Signal → Signal → Signal
youngest_value l value other a t = mux_signal (is_found l a t) (won_signal l value l.kept a t) other

-- a look at the youngest older slot: a write waits for nothing
abbrev pub youngest_look : Kind → Signal → Signal
youngest_look R f = f
youngest_look W f = const_signal 1 1

-- the first net for reading, the second for writing
abbrev pub net_by_kind : Kind → Net → Net → Net
net_by_kind R x y = x
net_by_kind W x y = y

-- what a look gives: the word of the array, where there is one
pub record GivesWord (c : Circuit) (l : RingLayout) (a : Signal) (value : Option Net) : Type 0 where
  pub some : is_some value ≡ is_some l.array
  pub there : (x : Net) → value ≡ Some x → IsThere c x
  pub same : (m : ℕ) (x : Net) → l.array ≡ Some m → value ≡ Some x → signal c x ≡ read_signal l.width m a
