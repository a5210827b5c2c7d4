-- What became of a lock's reservations, told by the acts of its cycles so far, the newest first. It names no state of the lock.
use Rattle.std.specs.Prelude.{◌≡◌, ℕ, suc, ◌+◌, ◌<◌, ◌≤◌, ◌⊎◌, Bool, true, not, nat_lt, if◌then◌else◌, List, [], ◌∷◌, ◌++◌, length, take, drop, filter}
use Rattle.pdl_lockapi.specs.Lock.{LockAct, act_at}

-- a reservation for writing: the cycle in which it was made, the first being 0, and the ticket that it was given
pub record Reservation : Type 0 where
  pub cycle : ℕ
  pub ticket : ℕ

-- the next ticket: they are given in order from 0 on, and a squash gives those from its tail on out again
abbrev pub next_given : List LockAct → ℕ
next_given [] = 0
next_given (a ∷ past) = if a.squash then a.tail else next_given past + length a.reserves

-- as many reservations as these addresses, made in one cycle, from this ticket on
abbrev pub numbered : ℕ → ℕ → List ℕ → List Reservation
numbered cycle ticket [] = []
numbered cycle ticket (r ∷ rs) = record { cycle = cycle; ticket = ticket } ∷ numbered cycle (suc ticket) rs

-- the reservations that a cycle makes
abbrev pub made : List LockAct → LockAct → List Reservation
made past a = numbered (length past) (next_given past) a.reserves

-- how many reservations a cycle releases
abbrev pub releases : LockAct → ℕ
releases a = if a.release2 then 2 else if a.release then 1 else 0

-- whether a cycle's squash, where there is one, leaves a reservation: its ticket is below the tail
abbrev pub is_left : LockAct → Reservation → Bool
is_left a r = if a.squash then nat_lt r.ticket a.tail else true

-- the live reservations, the oldest first: those that were made, and neither released, which are the oldest, nor squashed
abbrev pub live : List LockAct → List Reservation
live [] = []
live (a ∷ past) = filter (is_left a) (drop (releases a) (live past ++ made past a))

-- the reservations that are live in a cycle: those from before it and its own
abbrev pub live_in : List LockAct → LockAct → List Reservation
live_in past a = live past ++ made past a

-- those of them that the cycle releases
abbrev pub released : List LockAct → LockAct → List Reservation
released past a = take (releases a) (live_in past a)

-- and those that it squashes
abbrev pub squashed : List LockAct → LockAct → List Reservation
squashed past a = filter (λ r. not (is_left a r)) (drop (releases a) (live_in past a))

-- a cycle has a write through this ticket
abbrev pub IsThrough : LockAct → ℕ → Type 0
IsThrough a t = (k : ℕ) × (k < length a.writes) × ((act_at a.writes k).on ≡ true) × ((act_at a.writes k).ticket ≡ t)

-- a write went through a reservation's ticket in the cycle in which it was made, or later
abbrev pub IsWritten : List LockAct → Reservation → Type 0
IsWritten [] r = ⊥
IsWritten (a ∷ past) r = (r.cycle ≤ length past) × (IsThrough a r.ticket ⊎ IsWritten past r)
