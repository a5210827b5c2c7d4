-- Proper use of a lock, told by its history.
use Rattle.std.specs.Prelude.{◌≡◌, ℕ, suc, ◌+◌, ◌<◌, ◌≤◌, ◌⊎◌, true, List, [], ◌∷◌, ◌++◌, length, map, All, Contains, ⊤}
use Rattle.pdl_lockapi.specs.Lock.{LockAct, act_at}
use Rattle.pdl_lock_any.specs.History.{Reservation, next_given, live, live_in, released, squashed, IsWritten}

-- since cycle c no reservation was released that was made in cycle k or later
abbrev pub NoneReleased : ℕ → ℕ → List LockAct → Type 0
NoneReleased c k [] = ⊤
NoneReleased c k (a ∷ past) = (c ≤ length past → All (λ r. r.cycle < k) (released past a)) × NoneReleased c k past

-- since cycle c no reservation was squashed that was made before cycle k
abbrev pub NoneSquashed : ℕ → ℕ → List LockAct → Type 0
NoneSquashed c k [] = ⊤
NoneSquashed c k (a ∷ past) = (c ≤ length past → All (λ r. k ≤ r.cycle) (squashed past a)) × NoneSquashed c k past

-- the tail of a cycle's squash, by some cycle c, which is this or an earlier one
pub record IsTail (past : List LockAct) (a : LockAct) : Type 0 where
  -- the cycles before c, what c does, and the cycles since
  pub before : List LockAct
  pub act : LockAct
  pub since : List LockAct
  pub parts : a ∷ past ≡ since ++ act ∷ before
  -- the tail is the next ticket of c plus the number of c's reservations
  pub tail : a.tail ≡ next_given before + length act.reserves
  -- since c no reservation that was made after c was released, and none that was made up to c was squashed
  pub kept : NoneReleased (length before) (suc (length before)) (a ∷ past)
  pub held : NoneSquashed (length before) (suc (length before)) past

-- proper use of a lock of size n in a cycle
pub record IsUse (n : ℕ) (past : List LockAct) (a : LockAct) : Type 0 where
  -- at most two reservations are made, and only where there is room for their number beside the live ones
  pub two : length a.reserves ≤ 2
  pub room : length (live past) + length a.reserves ≤ n
  -- the ticket of each write is live
  pub through : (k : ℕ) → k < length a.writes → (act_at a.writes k).on ≡ true → Contains (map (λ r. r.ticket) (live_in past a)) (act_at a.writes k).ticket
  -- a release is of the oldest live reservation, which was written, in this cycle at the latest
  pub oldest : a.release ≡ true → (r : Reservation) × (rs : List Reservation) × (live_in past a ≡ r ∷ rs) × IsWritten (a ∷ past) r
  -- a second release comes only together with the first, and is of the next one, which was written too
  pub both : a.release2 ≡ true → a.release ≡ true
  pub next : a.release2 ≡ true → (q r : Reservation) × (rs : List Reservation) × (live_in past a ≡ q ∷ r ∷ rs) × IsWritten (a ∷ past) r
  -- a squash drops what was reserved after some cycle
  pub squash : a.squash ≡ true → IsTail past a

-- proper use of a lock of size n in each cycle
abbrev pub AreUses : ℕ → List LockAct → Type 0
AreUses n [] = ⊤
AreUses n (a ∷ past) = AreUses n past × IsUse n past a

-- a ticket that a reservation for reading was given in some cycle c, this or an earlier one, and that still stands
pub record IsGiven (past : List LockAct) (t : ℕ) : Type 0 where
  -- the cycles before c, and those from c on
  pub before : List LockAct
  pub since : List LockAct
  pub parts : past ≡ since ++ before
  -- it is the next ticket of c
  pub ticket : t ≡ next_given before
  -- since c no reservation that was made in c or later was released, and none that was made before c was squashed
  pub kept : NoneReleased (length before) (length before) past
  pub held : NoneSquashed (length before) (length before) past

-- a look may be asked with the ticket that a reservation is given in this cycle, with a live one, and with one that was given for reading and still stands
abbrev pub IsCovered : List LockAct → ℕ → Type 0
IsCovered past t = (t ≡ next_given past) ⊎ (Contains (map (λ r. r.ticket) (live past)) t ⊎ IsGiven past t)
