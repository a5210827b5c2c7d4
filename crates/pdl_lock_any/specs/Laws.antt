-- Proper use that is told by a lock's history is proper use of its state in each cycle.
use Rattle.std.specs.Prelude.{◌≡◌, ℕ, suc, true, nat_lt, List, [], ◌∷◌, length, map, drop, filter}
use Rattle.std.specs.List.{range_with_len}
use Rattle.pdl_lockapi.specs.Lock.{LockState, LockAct, start, step, next_ticket, Proper, Covered}
use Rattle.pdl_lock_any.specs.History.{next_given, releases, live, live_in}
use Rattle.pdl_lock_any.specs.Use.{IsTail, AreUses, IsCovered}

-- the state of a lock over an image after these cycles
abbrev pub after : List ℕ → List LockAct → LockState
after image [] = start image
after image (a ∷ past) = step (after image past) a

-- each cycle is one of proper use by the state as it starts
abbrev pub IsProperByState : Type 0
IsProperByState = (n : ℕ) (image : List ℕ) (past : List LockAct) (a : LockAct) → AreUses n (a ∷ past) → Proper n (after image past) a

-- each ticket with which a look may be asked is one by the state
abbrev pub IsCoveredByState : Type 0
IsCoveredByState = (n t : ℕ) (image : List ℕ) (past : List LockAct) → AreUses n past → IsCovered past t → Covered (after image past) t

-- the live reservations are those of the pending writes, and the next ticket is that of the state
abbrev pub ArePending : Type 0
ArePending = (n : ℕ) (image : List ℕ) (past : List LockAct) → AreUses n past
    → (map (λ r. r.ticket) (live past) ≡ range_with_len (after image past).base (length (after image past).entries))
    × (next_given past ≡ next_ticket (after image past))

-- a squash by a cycle c leaves just those that were made up to c, of the live reservations that the releases leave
abbrev pub DropsLater : Type 0
DropsLater = (n : ℕ) (past : List LockAct) (a : LockAct) → AreUses n (a ∷ past) → a.squash ≡ true → (by : IsTail past a)
    → live (a ∷ past) ≡ filter (λ r. nat_lt r.cycle (suc (length by.before))) (drop (releases a) (live_in past a))
