-- When reads and writes through a lock are ready, and what they find: all that proofs need of the kinds of lock, so that no proof above tells them apart.
use Rattle.std.proofs.Common.{◌≡◌, refl, ap, ℕ, ◌+◌, ◌≤◌, Bool, true, false, not, Option, Some, None, is_none, arith, leb-true, le-leb}
use Rattle.std.proofs.lemmas.Bool.{not-true}
use Rattle.pdl_semantics.specs.Flat.{Lock, Plain, Queue, Bypass, Rename}
use Rattle.pdl_semantics.specs.Locks.{Latest, Nothing, Coming, Known, as_latest, is_nothing, is_coming, read_ready, write_ready, is_plain, is_exact, has_room}

-- WHAT PENDING WRITES SAY AS TIME GOES ON

-- the second says no less ready a thing than the first
abbrev pub Calm : Latest → Latest → Type 0
Calm l k = (is_nothing l ≡ true → is_nothing k ≡ true) × (is_coming l ≡ false → is_coming k ≡ false)

-- once nothing is pending, whatever was
pub calm_nothing : (l k : Latest) → k ≡ Nothing → Calm l k
calm_nothing l k e = ((λ h. ap is_nothing e), (λ h. ap is_coming e))

-- a pending write whose value, once known, stays known
pub calm_value : (v u : Option ℕ) → (is_none u ≡ true → is_none v ≡ true) → Calm (as_latest v) (as_latest u)
calm_value None u f = ((λ h. absurd (cc h)), (λ h. absurd (cc h)))
calm_value (Some v) None f = absurd (cc (f refl))
calm_value (Some v) (Some u) f = ((λ h. absurd (cc h)), (λ h. refl))

-- READS

-- a value that isn't to come stays so, and is known: of what bypass and rename locks ask
still_known : (a b : Bool) → (a ≡ false → b ≡ false) → not a ≡ true → not b ≡ true
still_known true b f e = absurd (cc e)
still_known false b f e = ap not (f refl)

-- a read waits for no pending write where there is none
pub read_free : (k : Lock) → read_ready k Nothing ≡ true
read_free Plain = refl
read_free (Queue n) = refl
read_free (Bypass n) = refl
read_free (Rename n) = refl

-- a read of a memory without lock is always ready
pub plain_ready : (k : Lock) (l : Latest) → is_plain k ≡ true → read_ready k l ≡ true
plain_ready Plain l h = refl
plain_ready (Queue n) l h = absurd (cc h)
plain_ready (Bypass n) l h = absurd (cc h)
plain_ready (Rename n) l h = absurd (cc h)

-- a ready read stays ready as pending writes go on
pub calm_read : (k : Lock) (l j : Latest) → Calm l j → read_ready k l ≡ true → read_ready k j ≡ true
calm_read Plain l j c h = refl
calm_read (Queue n) l j c h = c.0 h
calm_read (Bypass n) l j c h = still_known (is_coming l) (is_coming j) c.1 h
calm_read (Rename n) l j c h = still_known (is_coming l) (is_coming j) c.1 h

-- a ready read knows its value
pub read_known : (k : Lock) (l : Latest) → (is_plain k ≡ true → l ≡ Nothing) → read_ready k l ≡ true → is_coming l ≡ false
read_known Plain l p h = ap is_coming (p refl)
read_known (Queue n) Nothing p h = refl
read_known (Queue n) Coming p h = absurd (cc h)
read_known (Queue n) (Known v) p h = refl
read_known (Bypass n) l p h = not-true (is_coming l) h
read_known (Rename n) l p h = not-true (is_coming l) h

-- an exact lock's ready read finds no pending write
pub exact_none : (k : Lock) (l : Latest) → is_exact k ≡ true → (is_plain k ≡ true → l ≡ Nothing) → read_ready k l ≡ true → l ≡ Nothing
exact_none Plain l h f r = f refl
exact_none (Queue n) Nothing h f r = refl
exact_none (Queue n) Coming h f r = absurd (cc r)
exact_none (Queue n) (Known x) h f r = absurd (cc r)
exact_none (Bypass n) l h f r = absurd (cc h)
exact_none (Rename n) l h f r = absurd (cc h)

-- WRITES

-- a write waits for no pending write where there is none
pub write_free : (k : Lock) → write_ready k Nothing ≡ true
write_free Plain = refl
write_free (Queue n) = refl
write_free (Bypass n) = refl
write_free (Rename n) = refl

-- a ready write stays ready as pending writes go on
pub calm_write : (k : Lock) (l j : Latest) → Calm l j → write_ready k l ≡ true → write_ready k j ≡ true
calm_write Plain l j c h = refl
calm_write (Queue n) l j c h = c.0 h
calm_write (Bypass n) l j c h = refl
calm_write (Rename n) l j c h = refl

-- where a read is ready, so is a write
pub read_write : (k : Lock) (l : Latest) → read_ready k l ≡ true → write_ready k l ≡ true
read_write Plain l h = refl
read_write (Queue n) l h = h
read_write (Bypass n) l h = refl
read_write (Rename n) l h = refl

-- ROOM

-- where there is room for some beside n pending writes, there is room for fewer
pub room_fewer : (l : Lock) (i j n : ℕ) → j ≤ i → has_room l i n ≡ true → has_room l j n ≡ true
room_fewer Plain i j n low h = refl
room_fewer (Queue s) i j n low h = le-leb (j + n) s (let e : i + n ≤ s = leb-true (i + n) s h in omega (arith, e, low))
room_fewer (Bypass s) i j n low h = le-leb (j + n) s (let e : i + n ≤ s = leb-true (i + n) s h in omega (arith, e, low))
room_fewer (Rename s) i j n low h = le-leb (j + n) s (let e : i + n ≤ s = leb-true (i + n) s h in omega (arith, e, low))
