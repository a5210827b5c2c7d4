-- Proper use by a history is proper use by the state.
use Rattle.std.proofs.Common.{◌≡◌, sym, ap, ◌∙◌, subst, ℕ, ◌+◌, ◌-◌, ◌<◌, ◌≤◌, ◌⊎◌, ⊎_elim, List, [], ◌∷◌, length, map, drop, Contains, arith, length-drop}
use Rattle.std.specs.List.{range_with_len}
use Rattle.pdl_lockapi.specs.Lock.{LockAct, next_base, filled_entries, next_ticket, Proper, Covered}
use Rattle.pdl_lock_any.specs.History.{Reservation, next_given, releases, live, live_in, IsWritten}
use Rattle.pdl_lock_any.specs.Use.{AreUses, IsGiven, IsCovered}
use Rattle.pdl_lock_any.specs.Laws.{after}
use Rattle.pdl_lock_any.proofs.Standing.{Stand, stand_length, ticket_at, tickets_are, has_first, has_second}
use Rattle.pdl_lock_any.proofs.Cycles.{known_first, known_next, live_in_long, through_pending, filled, releases_there, base_is}
use Rattle.pdl_lock_any.proofs.Tails.{AllKnown, known_of, tail_left, given_stands}

-- of each history of proper use it is known
pub all_known : (n : ℕ) (image : List ℕ) (past : List LockAct) → AreUses n past → AllKnown image past
all_known n image [] u = known_first image
all_known n image (a ∷ past) u =
    let k = all_known n image past u.0 in
    (known_next n image past a (known_of image past k) u.1 (λ o. tail_left n image past a k u.0 u.1 o), k)

-- each cycle of proper use by what came before it is one by the state
pub proper_by_state : (n : ℕ) (image : List ℕ) (past : List LockAct) (a : LockAct) → AreUses n (a ∷ past) → Proper n (after image past) a
proper_by_state n image past a u =
    let all = all_known n image past u.0 in
    let known = known_of image past all in
    let b = (after image past).base in
    let long : length (live past) ≡ length (after image past).entries =
    stand_length (IsWritten past) (after image past).base (live past) (after image past).entries known.stand in
    let many : length (live_in past a) ≡ length (live past) + length a.reserves = live_in_long past a in
    let stand = filled n image past a known u.1 in
    let room : length (live past) + length a.reserves ≤ n = u.1.room in
    let base : next_base (after image past) a ≡ (after image past).base + releases a = base_is (after image past) a in
    let there : releases a ≤ length (live_in past a) = releases_there n past a u.1 in
    let fewer : length (drop (releases a) (live_in past a)) ≡ length (live_in past a) - releases a = length-drop (releases a) (live_in past a) in
    record {
      two = u.1.two;
      room = omega (arith, long, room);
      from = λ k l o. (through_pending n image past a known u.1 k l o).0;
      below =
          λ k l o.
          let h = (through_pending n image past a known u.1 k l o).1 in
          omega (arith, h, many, long);
      done =
          λ o.
          let m = u.1.oldest o in
          has_first (IsWritten (a ∷ past)) (after image past).base m.0 m.1 (filled_entries (after image past) a)
          (subst (λ (rs : List Reservation). Stand (IsWritten (a ∷ past)) (after image past).base rs (filled_entries (after image past) a)) m.2 stand)
          m.3;
      both = u.1.both;
      done2 =
          λ o.
          let m = u.1.next o in
          has_second (IsWritten (a ∷ past)) (after image past).base m.0 m.1 m.2 (filled_entries (after image past) a)
          (subst (λ (rs : List Reservation). Stand (IsWritten (a ∷ past)) (after image past).base rs (filled_entries (after image past) a)) m.3 stand)
          m.4;
      tail_from = λ o. (tail_left n image past a all u.0 u.1 o).0;
      tail_to =
          λ o.
          let h : a.tail ≤ next_base (after image past) a + length (drop (releases a) (live_in past a)) =
          (tail_left n image past a all u.0 u.1 o).1 in
          omega (arith, h, base, there, fewer, many, long);
    }

-- the live reservations have the tickets of the pending writes, and the next ticket is the state's
pub are_pending : (n : ℕ) (image : List ℕ) (past : List LockAct) → AreUses n past
    → (map (λ r. r.ticket) (live past) ≡ range_with_len (after image past).base (length (after image past).entries))
    × (next_given past ≡ next_ticket (after image past))
are_pending n image past u =
    let known = known_of image past (all_known n image past u) in
    let long : length (live past) ≡ length (after image past).entries =
    stand_length (IsWritten past) (after image past).base (live past) (after image past).entries known.stand in (
      tickets_are (IsWritten past) (after image past).base (live past) (after image past).entries known.stand,
      known.next ∙ ap (λ n. (after image past).base + n) long,
    )

-- each ticket with which a look may be asked is covered by the state
pub covered_by_state : (n t : ℕ) (image : List ℕ) (past : List LockAct) → AreUses n past → IsCovered past t → Covered (after image past) t
covered_by_state n t image past u c =
    let all = all_known n image past u in
    let known = known_of image past all in
    let long : length (live past) ≡ length (after image past).entries =
    stand_length (IsWritten past) (after image past).base (live past) (after image past).entries known.stand in
    let next : next_given past ≡ (after image past).base + length (live past) = known.next in
    ⊎_elim
    (λ (e : t ≡ next_given past). record { from = omega (arith, e, next); to = omega (arith, e, next, long) })
    (λ (o : Contains (map (λ r. r.ticket) (live past)) t ⊎ IsGiven past t).
    ⊎_elim
    (λ (m : Contains (map (λ r. r.ticket) (live past)) t).
    let p = ticket_at (IsWritten past) (after image past).base (live past) (after image past).entries known.stand m.0 t m.1 in
    let e : t ≡ (after image past).base + m.0 = sym m.2 ∙ p.0 in
    let h : m.0 < length (after image past).entries = p.1 in
    record { from = omega (arith, e); to = omega (arith, e, h) })
    (λ (g : IsGiven past t).
    let h = given_stands n image past t all u g in
    let low : (after image past).base ≤ t = h.0 in
    let high : t ≤ (after image past).base + length (live past) = h.1 in
    record { from = low; to = omega (arith, high, long) })
    o)
    c
