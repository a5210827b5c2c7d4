-- Room for the writes of the threads that are still to run.
use Rattle.std.proofs.Common.{◌≡◌, ℕ, suc, ◌+◌, ◌-◌, ◌*◌, ◌≤◌, Bool, true, false, if◌then◌else◌, arith}
use Rattle.pdl_seq.specs.Inside.{HasRoom}

-- at first there is room for the writes of all threads, or of one where the run streams
pub room_first : (streams : Bool) (threads told asked room : ℕ)
    → asked ≡ (if streams then 32 else 32 * threads) → told ≡ 0 → asked ≤ room → HasRoom streams told (threads - 0) room
room_first true threads told asked room e none h = omega arith
room_first false threads told asked room e none h = omega arith

module _ (streams : Bool) (told begun left rest room n : ℕ) where
  -- there is room for the writes of the next thread
  pub room_next : HasRoom streams told left room → left ≡ suc rest → begun ≡ (if streams then 0 else told) → n ≤ 32 → begun + n ≤ room
  room_next = at streams
    where
      at : (b : Bool) → HasRoom b told left room → left ≡ suc rest → begun ≡ (if b then 0 else told) → n ≤ 32 → begun + n ≤ room
      at true h e none few = omega arith
      at false h e same few = omega arith

  -- after the writes of the next thread there is room for those of the threads after it
  pub room_left : HasRoom streams told left room → left ≡ suc rest → begun ≡ (if streams then 0 else told) → n ≤ 32 → HasRoom streams (begun + n) rest room
  room_left = at streams
    where
      at : (b : Bool) → HasRoom b told left room → left ≡ suc rest → begun ≡ (if b then 0 else told) → n ≤ 32 → HasRoom b (begun + n) rest room
      at true h e none few = h
      at false h e same few = omega arith

-- there is room where as many writes are told and there is as much room
pub room_same : (streams : Bool) (told told' left room room' : ℕ) → HasRoom streams told' left room'
    → told ≡ told' → room ≡ room' → HasRoom streams told left room
room_same true told told' left room room' h e f = omega arith
room_same false told told' left room room' h e f = omega arith
