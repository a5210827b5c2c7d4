-- Which location of a memory is reserved first to write, after one place more.
use Rattle.std.proofs.Common.{◌≡◌, refl, sym, ap, ◌∙◌, ℕ, ◌<◌, Bool, true, false, cond, if◌then◌else◌, List, [], ◌∷◌, ◌++◌, filter, length, Option, Some, None}
use Rattle.std.proofs.lemmas.Bool.{false≢true}
use Rattle.std.proofs.lemmas.Option.{none-some}
use Rattle.pdl_semantics.specs.Tree.{Location, W, Reserve}
use Rattle.pdl_rules.specs.Places.{Place, Statement}
use Rattle.pdl_rules.specs.Locks.{first_reserved, is_reserve_of}
pub use Rattle.pdl_rules.proofs.FirstReserves.{first_stays}
use Rattle.pdl_paths.specs.Actions.{location_at}
use Rattle.pdl_locks.specs.declared.numbers.Keys.TheVariants.{Locations, Memories}
use Rattle.pdl_locks.specs.Numbers.{first_place}
use Rattle.pdl_locks.specs.Uses.{IsFirst, first_number}
use Rattle.pdl_locks.proofs.KeyNumbers.{found, is_own, one_before}
use Rattle.pdl_locks.proofs.UseLaws.{unreserved_memory}
use Rattle.pdl_locks.proofs.UseSteps.{HasLaws}
use Rattle.pdl_word.proofs.Bytes.{bytes_same}

-- a place that reserves a memory has a location
pub reserve_place : (m : List ℕ) (x : Place) → is_reserve_of W m x ≡ true → (l : Location) × (location_at x ≡ Some l)
reserve_place m (Statement (Reserve s l k) bs) e = (l, refl)
reserve_place m _ e = absurd (false≢true e)

-- it stays where there is one
pub first_kept : (m : List ℕ) (before : List Place) (x : Place) (f : Location)
    → first_reserved m before ≡ Some f → first_reserved m (before ++ x ∷ []) ≡ Some f
first_kept m [] x f h = absurd (none-some f h)
first_kept m (y ∷ before) x f h = at (is_reserve_of W m y) refl h (λ k. first_kept m before x f k)
  where
    at : (b : Bool) → is_reserve_of W m y ≡ b → (if b then location_at y else first_reserved m before) ≡ Some f
        → (first_reserved m before ≡ Some f → first_reserved m (before ++ x ∷ []) ≡ Some f)
        → first_reserved m (y ∷ before ++ x ∷ []) ≡ Some f
    at true e k rest = rw e k
    at false e k rest = rw e (rest k)

-- where there is none it is that of the place
pub first_comes : (m : List ℕ) (before : List Place) (x : Place) (l : Location)
    → location_at x ≡ Some l → is_reserve_of W m x ≡ true → first_reserved m before ≡ None
    → first_reserved m (before ++ x ∷ []) ≡ Some l
first_comes m [] x l own h none = rw h own
first_comes m (y ∷ before) x l own h none = at (is_reserve_of W m y) refl none (λ k. first_comes m before x l own h k)
  where
    at : (b : Bool) → is_reserve_of W m y ≡ b → (if b then location_at y else first_reserved m before) ≡ None
        → (first_reserved m before ≡ None → first_reserved m (before ++ x ∷ []) ≡ Some l)
        → first_reserved m (y ∷ before ++ x ∷ []) ≡ Some l
    at true e k rest = let o = reserve_place m y e in absurd (none-some o.0 (sym k ∙ o.1))
    at false e k rest = rw e (rest k)

-- the first of some places is a location of all of them
pub first_there : (m : List ℕ) (f : Location) (keep : Place → Bool) (before later : List Place)
    → first_reserved m (filter keep before) ≡ Some f → first_place Locations f (before ++ later) < length (before ++ later)
first_there m f keep [] later h = absurd (none-some f h)
first_there m f keep (y ∷ before) later h = at (keep y) refl h (λ k. one_before Locations f y (before ++ later) (first_there m f keep before later k))
  where
    which : (b : Bool) → is_reserve_of W m y ≡ b → (if b then location_at y else first_reserved m (filter keep before)) ≡ Some f
        → (first_reserved m (filter keep before) ≡ Some f → first_place Locations f (y ∷ before ++ later) < length (y ∷ before ++ later)) → first_place Locations f (y ∷ before ++ later) < length (y ∷ before ++ later)
    which true e k past = found Locations f [] (before ++ later) y (is_own Locations f y k)
    which false e k past = past k

    at : (b : Bool) → keep y ≡ b → first_reserved m (cond b (y ∷ filter keep before) (filter keep before)) ≡ Some f
        → (first_reserved m (filter keep before) ≡ Some f → first_place Locations f (y ∷ before ++ later) < length (y ∷ before ++ later)) → first_place Locations f (y ∷ before ++ later) < length (y ∷ before ++ later)
    at true e k past = which (is_reserve_of W m y) refl k past
    at false e k past = past k

-- its number is the same of each location in its memory, and stays after a place with another
pub first_laws : (all : List Place) → HasLaws Memories (IsFirst all)
first_laws all = record {
  alike = λ n l m earlier j h. h ∙ ap (λ name. first_number all (first_reserved name earlier)) (bytes_same m.mem.name l.mem.name j);
  aside = λ n l earlier x e h. h ∙ ap (first_number all) (sym (first_stays l.mem.name earlier x (unreserved_memory W l x e)));
}
