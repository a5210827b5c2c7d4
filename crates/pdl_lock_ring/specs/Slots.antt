-- The slots of a lock, which never move: the pending write of a ticket stands in the slot of that number modulo their count. The first register is the head, the ticket of the oldest pending write, the second one the tail, the ticket of the next reservation; each slot has three registers: the address, whether it has its value, and the value, or in a renaming lock its place in the array.
use Rattle.std.specs.Prelude.{◌≡◌, IsTrue, ◌||◌, not, ◌==◌, if◌then◌else◌, ℕ, zero, suc, [], ◌∷◌, ◌++◌, Option, ◌+◌, ◌-◌, ◌*◌, ◌%◌, ◌^◌, ◌<◌, ◌≤◌, List, length, slice_index, Some, is_some}
use Rattle.pdl_word.specs.Words.{bit, widest}
use Rattle.pdl_kit.specs.declared.mem_info.MemInfo.{MemInfo}
use Rattle.pdl_net.specs.declared.Net.TheVariants.{Reg}
use Rattle.pdl_net.specs.Circuit.{Circuit, State, HasReg, reg_width, reg_reset, HasArray, array_width, array_depth}
use Rattle.pdl_net.specs.Signal.{Signal, reg_signal}
use Rattle.pdl_net.specs.Meaning.{IsThere, signal, write_signals}
use Rattle.pdl_lockapi.specs.declared.LockRegs.{LockRegs}
use Rattle.pdl_lockapi.specs.Lock.{Entry, LockState, entry_at}
use Rattle.pdl_lockapi.specs.Laws.{first_reg, HasWords}
use Rattle.pdl_lock_ring.specs.declared.layout.RingLayout.{RingLayout}
use Rattle.pdl_lock_ring.specs.declared.layout.Content.{Content}
use Rattle.pdl_lock_ring.specs.declared.layout.Content.TheVariants.{Value, Place}

-- the registers of slot k: those of one sort stand together
abbrev pub addr_at : RingLayout → ℕ → ℕ
addr_at l k = l.from + 2 + k

-- the register of slot k that says whether it has its value
abbrev pub has_at : RingLayout → ℕ → ℕ
has_at l k = l.from + 2 + l.size + k

-- the register of slot k that keeps its value, or its place in the array
abbrev pub value_at : RingLayout → ℕ → ℕ
value_at l k = l.from + 2 + 2 * l.size + k

-- how many writes may be pending
abbrev pub IsSize : ℕ → Type 0
IsSize n = IsTrue ((n == 1) || (n == 2) || (n == 4) || (n == 8) || (n == 16))

-- a memory's depth: a power of two from 2 to 65,536
pub record IsMemDepth (d : ℕ) : Type 0 where
  pub bits : ℕ
  pub low : 1 ≤ bits
  pub high : bits ≤ 16
  pub power : d ≡ 2 ^ bits

-- the sizes of slots for a memory, which may be a delayed one
pub record Suits (n : ℕ) (m : MemInfo) : Type 0 where
  pub size : IsSize n
  pub width_low : 1 ≤ m.width
  pub width_high : m.width ≤ widest
  pub depth : IsMemDepth m.depth

-- tickets are numbers modulo twice the size
abbrev pub ticket_bits : ℕ → ℕ
ticket_bits n = if n == 1 then 1 else if n == 2 then 2 else if n == 4 then 3 else if n == 8 then 4 else 5

-- where the slots stand that keep values, by what `emit_state` has answered
abbrev pub layout_of : ℕ → LockRegs → RingLayout
layout_of size r =
    record { size = size; ticket = ticket_bits size; width = r.width; kept = r.width; bits = r.bits; from = first_reg r; array = r.array; content = Value }

-- the sizes and widths of a layout, and that its numbers are those of a machine
pub record IsSized (l : RingLayout) : Type 0 where
  pub some : 1 ≤ l.size
  pub few : l.size ≤ 16
  pub fits : l.size < 2 ^ l.ticket
  pub whole : 2 ^ l.ticket ≡ 2 * l.size
  pub power : l.size ≡ 2 ^ (l.ticket - 1)
  pub ticket_low : 1 ≤ l.ticket
  pub ticket_high : l.ticket ≤ widest
  pub width_low : 1 ≤ l.width
  pub width_high : l.width ≤ widest
  pub kept_low : 1 ≤ l.kept
  pub kept_high : l.kept ≤ widest
  pub same : l.content ≡ Value → l.kept ≡ l.width
  pub bits_low : 1 ≤ l.bits
  pub bits_high : l.bits ≤ widest
  pub small : l.from + 2 + 3 * l.size < 2 ^ 64

-- n numbers that count up from this one
abbrev pub numbers_from : ℕ → ℕ → List ℕ
numbers_from a zero = []
numbers_from a (suc n) = a ∷ numbers_from (a + 1) n

-- the layout of so many slots for a memory, with its registers from this one on
pub record IsLayout (n : ℕ) (m : MemInfo) (from : ℕ) (l : RingLayout) : Type 0 where
  pub size : l.size ≡ n
  pub ticket : l.ticket ≡ ticket_bits n
  pub content : l.content ≡ Value
  pub width : l.width ≡ m.width
  pub kept : l.kept ≡ m.width
  pub bits : 2 ^ l.bits ≡ m.depth
  pub low : 1 ≤ l.bits
  pub high : l.bits ≤ 16
  pub place : l.from ≡ from

-- an array that was made for a memory, which nothing writes yet; none is made for a delayed one
pub record IsMemArray (old new : Circuit) (m : MemInfo) (array : Option ℕ) : Type 0 where
  pub some : is_some array ≡ not m.delayed
  pub above : (k : ℕ) → array ≡ Some k → length old.arrays ≤ k
  pub has : (k : ℕ) → array ≡ Some k → HasArray new k
  pub word : (k : ℕ) → array ≡ Some k → array_width new k ≡ m.width
  pub depth : (k : ℕ) → array ≡ Some k → array_depth new k ≡ m.depth
  pub empty : (k : ℕ) → array ≡ Some k → write_signals new k ≡ []

-- the array, where there is one, is in a circuit
pub record HasOwnArray (c : Circuit) (l : RingLayout) : Type 0 where
  pub has_array : (m : ℕ) → l.array ≡ Some m → HasArray c m
  pub array_word : (m : ℕ) → l.array ≡ Some m → array_width c m ≡ l.width
  pub array_depth : (m : ℕ) → l.array ≡ Some m → array_depth c m ≡ 2 ^ l.bits

-- the registers of head and tail, those of all slots, and the array, where there is one, are in a circuit
pub record HasSlots (c : Circuit) (l : RingLayout) : Type 0 where
  pub head_there : IsThere c (Reg l.from)
  pub head : signal c (Reg l.from) ≡ reg_signal l.ticket l.from
  pub has_head : HasReg c l.from
  pub head_wide : reg_width c l.from ≡ l.ticket
  pub tail_there : IsThere c (Reg (l.from + 1))
  pub tail : signal c (Reg (l.from + 1)) ≡ reg_signal l.ticket (l.from + 1)
  pub has_tail : HasReg c (l.from + 1)
  pub tail_wide : reg_width c (l.from + 1) ≡ l.ticket
  pub addr_there : (k : ℕ) → k < l.size → IsThere c (Reg (addr_at l k))
  pub addr : (k : ℕ) → k < l.size → signal c (Reg (addr_at l k)) ≡ reg_signal l.bits (addr_at l k)
  pub has_addr : (k : ℕ) → k < l.size → HasReg c (addr_at l k)
  pub addr_wide : (k : ℕ) → k < l.size → reg_width c (addr_at l k) ≡ l.bits
  pub value_there : (k : ℕ) → k < l.size → IsThere c (Reg (value_at l k))
  pub value : (k : ℕ) → k < l.size → signal c (Reg (value_at l k)) ≡ reg_signal l.kept (value_at l k)
  pub has_value : (k : ℕ) → k < l.size → HasReg c (value_at l k)
  pub value_wide : (k : ℕ) → k < l.size → reg_width c (value_at l k) ≡ l.kept
  pub has_there : (k : ℕ) → k < l.size → IsThere c (Reg (has_at l k))
  pub holds : (k : ℕ) → k < l.size → signal c (Reg (has_at l k)) ≡ reg_signal 1 (has_at l k)
  pub has_has : (k : ℕ) → k < l.size → HasReg c (has_at l k)
  pub has_wide : (k : ℕ) → k < l.size → reg_width c (has_at l k) ≡ 1
  pub has_array : (m : ℕ) → l.array ≡ Some m → HasArray c m
  pub array_word : (m : ℕ) → l.array ≡ Some m → array_width c m ≡ l.width
  pub array_depth : (m : ℕ) → l.array ≡ Some m → array_depth c m ≡ 2 ^ l.bits

-- the registers of slot k that only its own reservations and writes change: a place is none of them
abbrev pub slot_numbers : Content → RingLayout → ℕ → List ℕ
slot_numbers Value l k = addr_at l k ∷ value_at l k ∷ has_at l k ∷ []
slot_numbers Place l k = addr_at l k ∷ has_at l k ∷ []

-- the registers of each of the first n slots that only its own reservations and writes change
abbrev pub slots_of : RingLayout → ℕ → List (List ℕ)
slots_of l zero = []
slots_of l (suc n) = slots_of l n ++ slot_numbers l.content l n ∷ []

-- slots that keep values, as many as the size, are in a circuit, by what was answered of them
pub record ArePlaced (size : ℕ) (c : Circuit) (r : LockRegs) : Type 0 where
  pub count : length r.regs ≡ 2 + 3 * size
  pub listed : r.slots ≡ slots_of (layout_of size r) size
  pub sized : IsSized (layout_of size r)
  pub slots : HasSlots c (layout_of size r)

-- what slot k holds in the first cycle, the places being numbered from this one on
abbrev pub first_content_of : Content → ℕ → ℕ → ℕ
first_content_of Value place k = 0
first_content_of Place place k = place + k

-- the slots hold in the first cycle what they hold first: 0, or places that count up from one
pub record AreFirst (c : Circuit) (l : RingLayout) (place : ℕ) : Type 0 where
  pub content : (k : ℕ) → k < l.size → reg_reset c (value_at l k) ≡ first_content_of l.content place k

-- in the first cycle head and tail are 0, and the slots hold what they hold first
pub record AreReset (c : Circuit) (l : RingLayout) (place : ℕ) : Type 0 where
  pub head : reg_reset c l.from ≡ 0
  pub tail : reg_reset c (l.from + 1) ≡ 0
  pub contents : AreFirst c l place

-- slots with these addresses, value bits and values hold a list of entries, the i-th in the slot of the number base + i modulo n
pub record Holds (n base : ℕ) (addr full value : ℕ → ℕ) (xs : List Entry) : Type 0 where
  pub room : length xs ≤ n
  pub has_addr : (i : ℕ) → i < length xs → addr ((base + i) % n) ≡ (entry_at xs i).addr
  pub is_full : (i : ℕ) → i < length xs → full ((base + i) % n) ≡ bit (is_some (entry_at xs i).value)
  pub has_value : (i v : ℕ) → i < length xs → (entry_at xs i).value ≡ Some v → value ((base + i) % n) ≡ v

-- the value of a register in a state
abbrev pub reg_of : State → ℕ → ℕ
reg_of s k = slice_index s.regs k

-- what the second register of slot k holds
abbrev pub content_signal : RingLayout → ℕ → Signal
content_signal l k = reg_signal l.kept (value_at l k)

-- the registers stand for the pending writes of a state, where the value of slot k is this signal's
pub record HasEntries (l : RingLayout) (value : ℕ → Signal) (s : State) (x : LockState) : Type 0 where
  pub head : reg_of s l.from ≡ x.base % 2 ^ l.ticket
  pub tail : reg_of s (l.from + 1) ≡ (x.base + length x.entries) % 2 ^ l.ticket
  pub slots : Holds l.size x.base (λ k. reg_of s (addr_at l k)) (λ k. reg_of s (has_at l k)) (λ k. (value k).value s) x.entries

-- registers that keep the values, and an array that holds the words, stand for a state of the lock
pub record Stands (l : RingLayout) (s : State) (x : LockState) : Type 0 where
  pub entries : HasEntries l (content_signal l) s x
  pub words : HasWords l.array s x.words
