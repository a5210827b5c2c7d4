-- The words that reads find are below the bound of all words and pending values.
use Rattle.std.proofs.Common.{ℕ, ◌<◌, Bool, true, false, ◌&&◌, if◌then◌else◌, ◌==◌, nat_lt, List, [], ◌∷◌, Option, Some, None, slice_index}
use Rattle.pdl_semantics.specs.Locks.{Latest, Nothing, Coming, Known, as_latest, value_or}
use Rattle.pdl_semantics.specs.Machine.{Pending, youngest}
use Rattle.pdl_machine_pending.specs.Memory.{Memory}
use Rattle.pdl_machine_pending.specs.KeptWords.{IsBelow, AreKept, IsKept}

-- what is found is below n, as far as it is known
abbrev IsFound : ℕ → Latest → Type 0
IsFound n Nothing = Unit {0}
IsFound n Coming = Unit {0}
IsFound n (Known v) = v < n

found_as : (n : ℕ) (v : Option ℕ) → IsBelow n v → IsFound n (as_latest v)
found_as n None h = tt
found_as n (Some v) h = h

found_next : (n : ℕ) (b : Bool) (v : Option ℕ) (found : Latest) → IsBelow n v → IsFound n found
    → IsFound n (if b then as_latest v else found)
found_next n true v found h f = found_as n v h
found_next n false v found h f = f

youngest_found : (n depth thread a : ℕ) (es : List Pending) (found : Latest) → AreKept n depth es → IsFound n found
    → IsFound n (youngest es thread a found)
youngest_found n depth thread a [] found h f = f
youngest_found n depth thread a (e ∷ es) found h f =
    youngest_found n depth thread a es
    (if nat_lt e.thread thread && (e.address == a) then as_latest e.value else found) h.2
    (found_next n (nat_lt e.thread thread && (e.address == a)) e.value found h.1 f)

value_found : (n : ℕ) (found : Latest) (w : ℕ) → IsFound n found → w < n → value_or found w < n
value_found n Nothing w f h = h
value_found n Coming w f h = h
value_found n (Known v) w f h = f

-- the word that a read finds is below the bound of a memory's words and pending values
pub read_fits : (n depth thread a : ℕ) (x : Memory) → IsKept n depth x
    → value_or (youngest x.pending thread a Nothing) (slice_index x.words a) < n
read_fits n depth thread a x k =
    value_found n (youngest x.pending thread a Nothing) _ (youngest_found n depth thread a x.pending Nothing k.pending tt) (k.words a)
