-- A ticket that stands since a cycle is among those of the pending writes, or the next one.
use Rattle.std.proofs.Common.{◌≡◌, sym, ap, subst, ℕ, suc, ◌+◌, ◌<◌, ◌≤◌, true, List, [], ◌∷◌, ◌++◌, length, drop, filter, All, arith, length-append}
use Rattle.std.specs.Prelude.{⊤}
use Rattle.pdl_lockapi.specs.Lock.{LockAct, next_base}
use Rattle.pdl_lock_any.specs.History.{next_given, made, releases, is_left, live, live_in, released, squashed}
use Rattle.pdl_lock_any.specs.Use.{NoneReleased, NoneSquashed, IsTail, IsUse, AreUses, IsGiven}
use Rattle.pdl_lock_any.specs.Laws.{after}
use Rattle.pdl_lock_any.proofs.Counts.{AreBefore, count_made, count_le, count_append, count_drop, count_filter, count_later, count_before, before_later, before_append, before_made}
use Rattle.pdl_lock_any.proofs.Cycles.{Known, live_in_long, releases_there, base_is}

-- a ticket is behind just those live reservations that were made before cycle c, as a cycle starts
abbrev pub Marks : List ℕ → ℕ → ℕ → List LockAct → Type 0
Marks image c t past = t ≡ (after image past).base + count_made c (live past)

-- and after its reservations
abbrev pub MarksIn : List ℕ → ℕ → ℕ → List LockAct → LockAct → Type 0
MarksIn image c t past a = t ≡ (after image past).base + count_made c (live_in past a)

-- a cycle's own reservations are later ones
mark_in : (image : List ℕ) (c t : ℕ) (past : List LockAct) (a : LockAct) → c ≤ length past → Marks image c t past → MarksIn image c t past a
mark_in image c t past a h m =
    let s : count_made c (live_in past a) ≡ count_made c (live past) + count_made c (made past a) =
    count_append c (live past) (made past a) in
    let z : count_made c (made past a) ≡ 0 = count_later c (length past) (next_given past) a.reserves h in
    let k : t ≡ (after image past).base + count_made c (live past) = m in
    let g : t ≡ (after image past).base + count_made c (live_in past a) = omega (arith, s, z, k) in
    g

-- a cycle that releases none that was made later, and squashes none that was made earlier, keeps the mark
mark_next : (n : ℕ) (image : List ℕ) (c t : ℕ) (past : List LockAct) (a : LockAct) → IsUse n past a
    → All (λ r. r.cycle < c) (released past a) → All (λ r. c ≤ r.cycle) (squashed past a)
    → MarksIn image c t past a → Marks image c t (a ∷ past)
mark_next n image c t past a u r s m =
    let b : next_base (after image past) a ≡ (after image past).base + releases a = base_is (after image past) a in
    let d : count_made c (live_in past a) ≡ count_made c (drop (releases a) (live_in past a)) + releases a =
    count_drop c (releases a) (live_in past a) (releases_there n past a u) r in
    let f : count_made c (filter (is_left a) (drop (releases a) (live_in past a))) ≡ count_made c (drop (releases a) (live_in past a)) =
    count_filter c (is_left a) (drop (releases a) (live_in past a)) s in
    let k : t ≡ (after image past).base + count_made c (live_in past a) = m in
    let g : t ≡ next_base (after image past) a + count_made c (filter (is_left a) (drop (releases a) (live_in past a))) =
    omega (arith, b, d, f, k) in
    g

-- and so do the cycles since
carry : (n : ℕ) (image : List ℕ) (first c t : ℕ) (since before : List LockAct) → first ≤ length before → c ≤ length before
    → AreUses n (since ++ before) → NoneReleased first c (since ++ before) → NoneSquashed first c (since ++ before)
    → Marks image c t before → Marks image c t (since ++ before)
carry n image first c t [] before h k u r s m = m
carry n image first c t (a ∷ since) before h k u r s m =
    let l : length (since ++ before) ≡ length since + length before = length-append since before in
    mark_next n image c t (since ++ before) a u.1 (r.0 (omega (arith, l, h))) (s.0 (omega (arith, l, h)))
    (mark_in image c t (since ++ before) a (omega (arith, l, k)) (carry n image first c t since before h k u.0 r.1 s.1 m))

-- what is known as each cycle of a history starts
abbrev pub AllKnown : List ℕ → List LockAct → Type 0
AllKnown image [] = Known image []
AllKnown image (a ∷ past) = Known image (a ∷ past) × AllKnown image past

-- it is known of the last one
pub known_of : (image : List ℕ) (past : List LockAct) → AllKnown image past → Known image past
known_of image [] k = k
known_of image (a ∷ past) k = k.0

known_since : (image : List ℕ) (since before : List LockAct) → AllKnown image (since ++ before) → AllKnown image before
known_since image [] before k = k
known_since image (a ∷ since) before k = known_since image since before k.1

uses_since : (n : ℕ) (since before : List LockAct) → AreUses n (since ++ before) → AreUses n before
uses_since n [] before u = u
uses_since n (a ∷ since) before u = uses_since n since before u.0

released_since : (first c : ℕ) (since before : List LockAct) → NoneReleased first c (since ++ before) → NoneReleased first c before
released_since first c [] before r = r
released_since first c (a ∷ since) before r = released_since first c since before r.1

squashed_since : (first c : ℕ) (since before : List LockAct) → NoneSquashed first c (since ++ before) → NoneSquashed first c before
squashed_since first c [] before s = s
squashed_since first c (a ∷ since) before s = squashed_since first c since before s.1

-- what is asked of the cycles before the last one of a history
abbrev Before : ℕ → List ℕ → ℕ → List LockAct → Type 0
Before n image first [] = ⊤
Before n image first (a ∷ past) = AllKnown image past × AreUses n past × NoneReleased first (suc first) past × NoneSquashed first (suc first) past

-- the mark in the last cycle of a history
abbrev Last : List ℕ → ℕ → ℕ → List LockAct → Type 0
Last image c t [] = ⊤
Last image c t (a ∷ past) = MarksIn image c t past a

-- the ticket after a cycle's reservations
mark_after : (image : List ℕ) (t : ℕ) (before : List LockAct) (act : LockAct) → Known image before
    → t ≡ next_given before + length act.reserves → MarksIn image (suc (length before)) t before act
mark_after image t before act k e =
    let all : AreBefore (suc (length before)) (live_in before act) =
    before_append (suc (length before)) (live before) (made before act)
    (before_later (length before) (suc (length before)) (live before) (omega arith) k.made_so_far)
    (before_made (suc (length before)) (length before) (next_given before) act.reserves (omega arith)) in
    let c : count_made (suc (length before)) (live_in before act) ≡ length (live_in before act) =
    count_before (suc (length before)) (live_in before act) all in
    let l : length (live_in before act) ≡ length (live before) + length act.reserves = live_in_long before act in
    let next : next_given before ≡ (after image before).base + length (live before) = k.next in
    let g : t ≡ (after image before).base + count_made (suc (length before)) (live_in before act) = omega (arith, e, c, l, next) in
    g

-- it is still behind just those made up to that cycle
mark_last : (n : ℕ) (image : List ℕ) (t : ℕ) (since : List LockAct) (act : LockAct) (before : List LockAct)
    → t ≡ next_given before + length act.reserves → Before n image (length before) (since ++ act ∷ before)
    → Last image (suc (length before)) t (since ++ act ∷ before)
mark_last n image t [] act before e b = mark_after image t before act (known_of image before b.0) e
mark_last n image t (a ∷ since) act before e b =
    let k = known_since image since (act ∷ before) b.0 in
    let u = uses_since n since (act ∷ before) b.1 in
    let r = released_since (length before) (suc (length before)) since (act ∷ before) b.2 in
    let s = squashed_since (length before) (suc (length before)) since (act ∷ before) b.3 in
    let m = mark_next n image (suc (length before)) t before act u.1 (r.0 (omega arith)) (s.0 (omega arith))
    (mark_after image t before act (known_of image before k.1) e) in
    let l : length (since ++ act ∷ before) ≡ length since + suc (length before) = length-append since (act ∷ before) in
    mark_in image (suc (length before)) t (since ++ act ∷ before) a (omega (arith, l))
    (carry n image (length before) (suc (length before)) t since (act ∷ before) (omega arith) (omega arith) b.1 b.2 b.3 m)

-- the tail of a squash by a cycle is behind just those that were made up to it, of what the releases leave
pub tail_mark : (n : ℕ) (image : List ℕ) (past : List LockAct) (a : LockAct) → AllKnown image past → AreUses n past → IsUse n past a
    → (by : IsTail past a)
    → a.tail ≡ next_base (after image past) a + count_made (suc (length by.before)) (drop (releases a) (live_in past a))
tail_mark n image past a k u cycle by =
    let c = suc (length by.before) in
    let b : Before n image (length by.before) (by.since ++ by.act ∷ by.before) =
    subst (λ (h : List LockAct). Before n image (length by.before) h) by.parts (k, u, by.kept.1, by.held) in
    let m : MarksIn image c a.tail past a =
    subst (λ (h : List LockAct). Last image c a.tail h) (sym by.parts) (mark_last n image a.tail by.since by.act by.before by.tail b) in
    let long : suc (length past) ≡ length (by.since ++ by.act ∷ by.before) = ap length by.parts in
    let sum : length (by.since ++ by.act ∷ by.before) ≡ length by.since + suc (length by.before) = length-append by.since (by.act ∷ by.before) in
    let nb : next_base (after image past) a ≡ (after image past).base + releases a = base_is (after image past) a in
    let d : count_made c (live_in past a) ≡ count_made c (drop (releases a) (live_in past a)) + releases a =
    count_drop c (releases a) (live_in past a) (releases_there n past a cycle) (by.kept.0 (omega (arith, long, sum))) in
    let e : a.tail ≡ (after image past).base + count_made c (live_in past a) = m in
    let g : a.tail ≡ next_base (after image past) a + count_made c (drop (releases a) (live_in past a)) = omega (arith, nb, d, e) in
    g

-- so it is among the tickets of the pending writes that the releases leave, or behind them
pub tail_left : (n : ℕ) (image : List ℕ) (past : List LockAct) (a : LockAct) → AllKnown image past → AreUses n past → IsUse n past a
    → a.squash ≡ true
    → (next_base (after image past) a ≤ a.tail)
    × (a.tail ≤ next_base (after image past) a + length (drop (releases a) (live_in past a)))
tail_left n image past a k u cycle o =
    let by : IsTail past a = cycle.squash o in
    let c = suc (length by.before) in
    let e : a.tail ≡ next_base (after image past) a + count_made c (drop (releases a) (live_in past a)) =
    tail_mark n image past a k u cycle by in
    let f : count_made c (drop (releases a) (live_in past a)) ≤ length (drop (releases a) (live_in past a)) =
    count_le c (drop (releases a) (live_in past a)) in
    (omega (arith, e), omega (arith, e, f))

-- what is asked of a history in which a ticket was given
abbrev Since : ℕ → List ℕ → ℕ → List LockAct → Type 0
Since n image first past = AllKnown image past × AreUses n past × NoneReleased first first past × NoneSquashed first first past

-- a ticket that was given and still stands is among those of the live reservations, or the next one
pub given_stands : (n : ℕ) (image : List ℕ) (past : List LockAct) (t : ℕ) → AllKnown image past → AreUses n past → IsGiven past t
    → ((after image past).base ≤ t) × (t ≤ (after image past).base + length (live past))
given_stands n image past t k u g =
    let c = length g.before in
    let b : Since n image c (g.since ++ g.before) =
    subst (λ (h : List LockAct). Since n image c h) g.parts (k, u, g.kept, g.held) in
    let first = known_of image g.before (known_since image g.since g.before b.0) in
    let all : count_made c (live g.before) ≡ length (live g.before) = count_before c (live g.before) first.made_so_far in
    let next : next_given g.before ≡ (after image g.before).base + length (live g.before) = first.next in
    let given : t ≡ next_given g.before = g.ticket in
    let start : t ≡ (after image g.before).base + count_made c (live g.before) = omega (arith, all, next, given) in
    let m : t ≡ (after image past).base + count_made c (live past) =
    subst (λ (h : List LockAct). Marks image c t h) (sym g.parts)
    (carry n image c c t g.since g.before (omega arith) (omega arith) b.1 b.2 b.3 start) in
    let f : count_made c (live past) ≤ length (live past) = count_le c (live past) in
    (omega (arith, m), omega (arith, m, f))
