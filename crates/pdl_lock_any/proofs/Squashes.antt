-- A squash drops what was reserved after its cycle.
use Rattle.std.proofs.Common.{◌≡◌, ℕ, suc, Bool, true, false, List, [], ◌∷◌, length, drop, filter, arith}
use Rattle.std.specs.Prelude.{nat_lt, if◌then◌else◌}
use Rattle.pdl_lockapi.specs.Lock.{LockAct, next_base, filled_entries, after_release}
use Rattle.pdl_lock_any.specs.History.{Reservation, next_given, made, releases, is_left, live, live_in, IsWritten}
use Rattle.pdl_lock_any.specs.Use.{IsTail, AreUses}
use Rattle.pdl_lock_any.specs.Laws.{after}
use Rattle.pdl_lock_any.proofs.Cycles.{Known, unreleased}
use Rattle.pdl_lock_any.proofs.Tails.{AllKnown, known_of, tail_mark}
use Rattle.pdl_lock_any.proofs.Histories.{all_known}
use Rattle.pdl_lock_any.proofs.Orders.{AreFrom, from_made, from_append, from_drop, from_filter, below_made}

-- those that are left by a cycle's releases are in the order of their cycles where those before it are
order_left : (past : List LockAct) (a : LockAct) → Known [] past → AreFrom 0 (live past) → AreFrom 0 (drop (releases a) (live_in past a))
order_left past a k f =
    from_drop 0 (releases a) (live_in past a)
    (from_append 0 (length past) (live past) (made past a) (omega arith) k.made_so_far f (from_made (length past) (next_given past) a.reserves))

in_order : (past : List LockAct) → AllKnown [] past → AreFrom 0 (live past)
in_order [] k = tt
in_order (a ∷ past) k =
    from_filter 0 (is_left a) (drop (releases a) (live_in past a)) (order_left past a (known_of [] past k.1) (in_order past k.1))

where_squashed : (o : Bool) (t : ℕ) (rs qs : List Reservation) → o ≡ true → filter (λ r. nat_lt r.ticket t) rs ≡ qs
    → filter (λ r. if o then nat_lt r.ticket t else true) rs ≡ qs
where_squashed true t rs qs e h = h
where_squashed false t rs qs e h = absurd (cc e)

-- a squash by a cycle leaves just those that were made up to it
pub drops_later : (n : ℕ) (past : List LockAct) (a : LockAct) → AreUses n (a ∷ past) → a.squash ≡ true → (by : IsTail past a)
    → live (a ∷ past) ≡ filter (λ r. nat_lt r.cycle (suc (length by.before))) (drop (releases a) (live_in past a))
drops_later n past a u o by =
    let all = all_known n [] past u.0 in
    let known = known_of [] past all in
    where_squashed a.squash a.tail (drop (releases a) (live_in past a))
    (filter (λ r. nat_lt r.cycle (suc (length by.before))) (drop (releases a) (live_in past a))) o
    (below_made (IsWritten (a ∷ past)) (suc (length by.before)) 0 a.tail (next_base (after [] past) a) (drop (releases a) (live_in past a))
    (after_release a (filled_entries (after [] past) a)) (tail_mark n [] past a all u.0 u.1 by)
    (order_left past a known (in_order past all)) (unreleased n [] past a known u.1))
