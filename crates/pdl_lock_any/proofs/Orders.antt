-- Reservations in the order of their cycles.
use Rattle.std.proofs.Common.{◌≡◌, refl, sym, ap, ◌∙◌, ℕ, zero, suc, ◌+◌, ◌<◌, ◌≤◌, Bool, true, false, cond, List, [], ◌∷◌, ◌++◌, drop, filter, ⊎_elim, arith, lt-ltb, le-ltb}
use Rattle.std.specs.Prelude.{nat_lt, ⊤}
use Rattle.std.proofs.lemmas.Bool.{cases_lt}
use Rattle.pdl_lockapi.specs.Lock.{Entry}
use Rattle.pdl_lock_any.specs.History.{Reservation, numbered}
use Rattle.pdl_lock_any.proofs.Standing.{Stand, none_below}
use Rattle.pdl_lock_any.proofs.Counts.{AreBefore, count_made}

-- none was made in an earlier cycle than the one before it, the first from cycle d on
abbrev pub AreFrom : ℕ → List Reservation → Type 0
AreFrom d [] = ⊤
AreFrom d (r ∷ rs) = (d ≤ r.cycle) × AreFrom r.cycle rs

from_lower : (c d : ℕ) (rs : List Reservation) → c ≤ d → AreFrom d rs → AreFrom c rs
from_lower c d [] h f = tt
from_lower c d (r ∷ rs) h f = (omega (arith, h, f.0), f.1)

-- those that one cycle makes
pub from_made : (c t : ℕ) (addresses : List ℕ) → AreFrom c (numbered c t addresses)
from_made c t [] = tt
from_made c t (a ∷ addresses) = (omega arith, from_made c (suc t) addresses)

-- those of a cycle behind those that were made so far
pub from_append : (c d : ℕ) (rs qs : List Reservation) → c ≤ d → AreBefore d rs → AreFrom c rs → AreFrom d qs → AreFrom c (rs ++ qs)
from_append c d [] qs h b f g = from_lower c d qs h g
from_append c d (r ∷ rs) qs h b f g = (f.0, from_append r.cycle d rs qs (omega (arith, b.0)) b.1 f.1 g)

-- what is left after some were taken out
pub from_drop : (c k : ℕ) (rs : List Reservation) → AreFrom c rs → AreFrom c (drop k rs)
from_drop c zero rs f = f
from_drop c (suc k) [] f = tt
from_drop c (suc k) (r ∷ rs) f = from_lower c r.cycle (drop k rs) f.0 (from_drop r.cycle k rs f.1)

-- what a test leaves
pub from_filter : (c : ℕ) (keep : Reservation → Bool) (rs : List Reservation) → AreFrom c rs → AreFrom c (filter keep rs)
from_filter c keep [] f = tt
from_filter c keep (r ∷ rs) f = at (keep r) (from_filter r.cycle keep rs f.1)
  where
    at : (o : Bool) → AreFrom r.cycle (filter keep rs) → AreFrom c (cond o (r ∷ filter keep rs) (filter keep rs))
    at true g = (f.0, g)
    at false g = from_lower c r.cycle (filter keep rs) f.0 g

-- of those from a cycle on none was made before it
none_made : (c d : ℕ) (rs : List Reservation) → c ≤ d → AreFrom d rs
    → (count_made c rs ≡ 0) × (filter (λ r. nat_lt r.cycle c) rs ≡ [])
none_made c d [] h f = (refl, refl)
none_made c d (r ∷ rs) h f =
    let l : c ≤ r.cycle = omega (arith, h, f.0) in
    let i = none_made c r.cycle rs l f.1 in (
      ap (λ o. cond o (suc (count_made c rs)) (count_made c rs)) (le-ltb r.cycle c l) ∙ i.0,
      ap (λ o. cond o (r ∷ filter (λ q. nat_lt q.cycle c) rs) (filter (λ q. nat_lt q.cycle c) rs)) (le-ltb r.cycle c l) ∙ i.1,
    )

-- the tickets below one that is behind just those made before a cycle are theirs
pub below_made : (V : Reservation → Type 0) (c d t b : ℕ) (rs : List Reservation) (es : List Entry)
    → t ≡ b + count_made c rs → AreFrom d rs → Stand V b rs es
    → filter (λ r. nat_lt r.ticket t) rs ≡ filter (λ r. nat_lt r.cycle c) rs
below_made V c d t b [] es e f s = refl
below_made V c d t b (r ∷ rs) [] e f s = absurd s
below_made V c d t b (r ∷ rs) (x ∷ es) e f s = ⊎_elim
    (λ (h : r.cycle < c).
    let n : count_made c (r ∷ rs) ≡ suc (count_made c rs) =
    ap (λ o. cond o (suc (count_made c rs)) (count_made c rs)) (lt-ltb r.cycle c h) in
    let l : r.ticket < t = omega (arith, e, n, s.0) in
    let rest : filter (λ q. nat_lt q.ticket t) rs ≡ filter (λ q. nat_lt q.cycle c) rs =
    below_made V c r.cycle t (suc b) rs es (omega (arith, e, n)) f.1 s.2 in
    ap (λ o. cond o (r ∷ filter (λ q. nat_lt q.ticket t) rs) (filter (λ q. nat_lt q.ticket t) rs)) (lt-ltb r.ticket t l)
    ∙ ap (λ qs. r ∷ qs) rest
    ∙ sym (ap (λ o. cond o (r ∷ filter (λ q. nat_lt q.cycle c) rs) (filter (λ q. nat_lt q.cycle c) rs)) (lt-ltb r.cycle c h)))
    (λ (h : c ≤ r.cycle).
    let z = none_made c r.cycle (r ∷ rs) h (omega arith, f.1) in
    let y : count_made c (r ∷ rs) ≡ 0 = z.0 in
    none_below V t b (r ∷ rs) (x ∷ es) (omega (arith, e, y)) s ∙ sym z.1)
    (cases_lt r.cycle c)
