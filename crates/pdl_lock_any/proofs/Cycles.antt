-- What a history tells of a lock's state, and that a cycle of proper use keeps it.
use Rattle.std.proofs.Common.{◌≡◌, refl, sym, ap, ◌∙◌, subst, ℕ, suc, ◌+◌, ◌-◌, ◌<◌, ◌≤◌, ◌⊎◌, Bool, true, false, List, [], ◌∷◌, length, map, drop, arith, length-append, length-drop}
use Rattle.std.specs.Prelude.{if◌then◌else◌}
use Rattle.pdl_lockapi.specs.Lock.{LockState, LockAct, Entry, act_at, fresh, with_reserves, filled_entries, next_base, after_release}
use Rattle.pdl_lock_any.specs.History.{Reservation, next_given, made, releases, is_left, live, live_in, IsWritten}
use Rattle.pdl_lock_any.specs.Use.{IsUse}
use Rattle.pdl_lock_any.specs.Laws.{after}
use Rattle.pdl_lock_any.proofs.Standing.{Stand, Goes, stand_length, stand_map, stand_append, stand_fresh, stand_drop, stand_squash, next_squash, ticket_at, stand_writes}
use Rattle.pdl_lock_any.proofs.Counts.{AreBefore, before_later, before_append, before_made, before_drop, before_filter, numbered_long}

-- the live reservations stand for the pending writes, the written ones for those with values; the next ticket is behind them, and all were made so far
pub record Known (image : List ℕ) (past : List LockAct) : Type 0 where
  pub stand : Stand (IsWritten past) (after image past).base (live past) (after image past).entries
  pub next : next_given past ≡ (after image past).base + length (live past)
  pub made_so_far : AreBefore (length past) (live past)

-- before the first cycle there is nothing
pub known_first : (image : List ℕ) → Known image []
known_first image = record { stand = tt; next = refl; made_so_far = tt }

-- no reservation was written before it was made
not_yet : (past : List LockAct) (r : Reservation) → length past ≤ r.cycle → IsWritten past r → ⊥
not_yet [] r h w = w
not_yet (a ∷ past) r h w = omega (arith, h, w.0)

-- in a cycle as many reservations are live as before it and its own
pub live_in_long : (past : List LockAct) (a : LockAct) → length (live_in past a) ≡ length (live past) + length a.reserves
live_in_long past a =
    length-append (live past) (made past a) ∙ ap (λ n. length (live past) + n) (numbered_long (length past) (next_given past) a.reserves)

reserved : (image : List ℕ) (past : List LockAct) (a : LockAct) → Known image past
    → Stand (IsWritten past) (after image past).base (live_in past a) (with_reserves a.reserves (after image past).entries)
reserved image past a k =
    stand_append (IsWritten past) (after image past).base (next_given past) (live past) (made past a) (after image past).entries
    (map fresh a.reserves) k.next k.stand
    (stand_fresh (IsWritten past) (length past) (next_given past) a.reserves
    (λ t w. not_yet past (record { cycle = length past; ticket = t }) (omega arith) w))

-- each write goes through the ticket of a pending write
pub through_pending : (n : ℕ) (image : List ℕ) (past : List LockAct) (a : LockAct) → Known image past → IsUse n past a
    → (k : ℕ) → k < length a.writes → (act_at a.writes k).on ≡ true
    → ((after image past).base ≤ (act_at a.writes k).ticket)
    × ((act_at a.writes k).ticket < (after image past).base + length (live_in past a))
through_pending n image past a known u k l o =
    let c = u.through k l o in
    let s = reserved image past a known in
    let t = ticket_at (IsWritten past) (after image past).base (live_in past a) (with_reserves a.reserves (after image past).entries) s c.0 (act_at a.writes k).ticket c.1 in
    let e : (act_at a.writes k).ticket ≡ (after image past).base + c.0 = sym c.2 ∙ t.0 in
    let m : length (live_in past a) ≡ length (with_reserves a.reserves (after image past).entries) =
    stand_length (IsWritten past) (after image past).base (live_in past a) (with_reserves a.reserves (after image past).entries) s in
    let i : c.0 < length (with_reserves a.reserves (after image past).entries) = t.1 in
    (omega (arith, e), omega (arith, e, m, i))

-- after the cycle's reservations and writes the live ones stand for the pending writes
pub filled : (n : ℕ) (image : List ℕ) (past : List LockAct) (a : LockAct) → Known image past → IsUse n past a
    → Stand (IsWritten (a ∷ past)) (after image past).base (live_in past a) (filled_entries (after image past) a)
filled n image past a known u =
    stand_map (λ r. Goes a.writes r.ticket ⊎ IsWritten past r) (IsWritten (a ∷ past)) (after image past).base (live_in past a)
    (filled_entries (after image past) a) (λ r w. w.1)
    (stand_writes (IsWritten past) (after image past).base a.writes (live_in past a) (with_reserves a.reserves (after image past).entries)
    (λ k l o. (through_pending n image past a known u k l o).0) (reserved image past a known))

-- what is released is there
pub releases_there : (n : ℕ) (past : List LockAct) (a : LockAct) → IsUse n past a → releases a ≤ length (live_in past a)
releases_there n past a u =
    at a.release2 a.release
    (λ o. let m = u.next o in let e : length (live_in past a) ≡ suc (suc (length m.2)) = ap length m.3 in omega (arith, e))
    (λ o. let m = u.oldest o in let e : length (live_in past a) ≡ suc (length m.1) = ap length m.2 in omega (arith, e))
  where
    at : (second first : Bool) → (second ≡ true → 2 ≤ length (live_in past a)) → (first ≡ true → 1 ≤ length (live_in past a))
        → (if second then 2 else if first then 1 else 0) ≤ length (live_in past a)
    at true first f g = f refl
    at false true f g = g refl
    at false false f g = omega arith

-- the next base is as many later as are released
pub base_is : (x : LockState) (a : LockAct) → next_base x a ≡ x.base + releases a
base_is x a = at a.release2 a.release
  where
    at : (second first : Bool)
        → (if second then x.base + 2 else if first then x.base + 1 else x.base) ≡ x.base + (if second then 2 else if first then 1 else 0)
    at true first = refl
    at false true = refl
    at false false = omega arith

release_is : (a : LockAct) (es : List Entry) → after_release a es ≡ drop (releases a) es
release_is a es = at a.release2 a.release
  where
    at : (second first : Bool)
        → (if second then drop 2 es else if first then drop 1 es else es) ≡ drop (if second then 2 else if first then 1 else 0) es
    at true first = refl
    at false true = refl
    at false false = refl

-- what the releases leave stands for the pending writes that they leave
pub unreleased : (n : ℕ) (image : List ℕ) (past : List LockAct) (a : LockAct) → Known image past → IsUse n past a
    → Stand (IsWritten (a ∷ past)) (next_base (after image past) a) (drop (releases a) (live_in past a))
    (after_release a (filled_entries (after image past) a))
unreleased n image past a known u =
    subst
    (λ (es : List Entry). Stand (IsWritten (a ∷ past)) (next_base (after image past) a) (drop (releases a) (live_in past a)) es)
    (sym (release_is a (filled_entries (after image past) a)))
    (stand_drop (IsWritten (a ∷ past)) (after image past).base (next_base (after image past) a) (releases a) (live_in past a)
    (filled_entries (after image past) a) (base_is (after image past) a) (releases_there n past a u) (filled n image past a known u))

-- a cycle of proper use, whose squash has its tail among the pending writes that are left, keeps what is known
pub known_next : (n : ℕ) (image : List ℕ) (past : List LockAct) (a : LockAct) → Known image past → IsUse n past a
    → (a.squash ≡ true
    → (next_base (after image past) a ≤ a.tail)
    × (a.tail ≤ next_base (after image past) a + length (drop (releases a) (live_in past a))))
    → Known image (a ∷ past)
known_next n image past a known u tail =
    let b : next_base (after image past) a ≡ (after image past).base + releases a = base_is (after image past) a in
    let many : length (live_in past a) ≡ length (live past) + length a.reserves = live_in_long past a in
    let fewer : length (drop (releases a) (live_in past a)) ≡ length (live_in past a) - releases a =
    length-drop (releases a) (live_in past a) in
    let there : releases a ≤ length (live_in past a) = releases_there n past a u in
    let next : next_given past ≡ (after image past).base + length (live past) = known.next in
    let given : next_given past + length a.reserves ≡ next_base (after image past) a + length (drop (releases a) (live_in past a)) =
    omega (arith, b, many, fewer, there, next) in
    let s = unreleased n image past a known u in
    record {
      stand =
          stand_squash (IsWritten (a ∷ past)) a.squash a.tail (next_base (after image past) a) (drop (releases a) (live_in past a))
          (after_release a (filled_entries (after image past) a)) (λ o. (tail o).0) s;
      next =
          next_squash (IsWritten (a ∷ past)) a.squash a.tail (next_given past + length a.reserves) (next_base (after image past) a)
          (drop (releases a) (live_in past a)) (after_release a (filled_entries (after image past) a)) tail given s;
      made_so_far =
          before_filter (suc (length past)) (is_left a) (drop (releases a) (live_in past a))
          (before_drop (suc (length past)) (releases a) (live_in past a)
          (before_append (suc (length past)) (live past) (made past a)
          (before_later (length past) (suc (length past)) (live past) (omega arith) known.made_so_far)
          (before_made (suc (length past)) (length past) (next_given past) a.reserves (omega arith))));
    }
