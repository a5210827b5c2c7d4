-- Locations that are left open at the end.
use Rattle.std.proofs.Common.{◌≡◌, refl, sym, ap, ◌∙◌, subst, ℕ, ◌<◌, Bool, true, false, ◌||◌, List, [], ◌∷◌, ◌++◌, map, filter, fold, length, if◌then◌else◌, Option, Some, None, ◌⊎◌, inl, inr, append_assoc}
use Rattle.std.specs.List.{list_any}
use Rattle.std.specs.Cmp.{both_ways}
use Rattle.std.proofs.lemmas.Option.{slice_get-get_or}
use Rattle.std.proofs.lemmas.Bool.{false≢true, or_left, or_right, or_cases}
use Rattle.std.proofs.lemmas.List.Folds.{list_any-append}
use Rattle.pdl_semantics.specs.Tree.{Location, Reserve, Block, Release}
use Rattle.pdl_rules.specs.Places.{Place, Guard, Statement, on_path}
use Rattle.pdl_rules.specs.Parts.{is_some_and}
use Rattle.pdl_rules.specs.Locks as spec
use Rattle.pdl_rules.specs.Locks.{Hold, hold_after, after_place, same_location, is_unreleased, reserves_location, leaves_open}
use Rattle.pdl_rules.proofs.SingleWrites.{any_weaker, held_alike}
use Rattle.pdl_paths.specs.declared.place.Place as r_place
use Rattle.pdl_paths.specs.Actions.{location_at, place_view}
use Rattle.pdl_locks.specs.declared.hold.Hold.TheVariants.{Nothing}
use Rattle.pdl_locks.specs.declared.numbers.Keys.TheVariants.{Locations}
use Rattle.pdl_locks.specs.declared.uses.LocationUse as location
use Rattle.pdl_locks.specs.Numbers.{first_place, first_of, number_at, AreNumbered}
use Rattle.pdl_locks.specs.Holds.{hold_view}
use Rattle.pdl_locks.specs.Uses.{IsUsed, AreKept, is_open}
use Rattle.pdl_locks.proofs.KeyNumbers.{found, is_own}
use Rattle.pdl_rules_on_paths.proofs.Nth.{past_last}
use Rattle.pdl_word.proofs.Lists.{some_filtered}

-- A LOCATION THAT IS OPEN WAS RESERVED

opens : (l : Location) (h : Hold) (x : Place) → is_unreleased (after_place l h x) ≡ true → (is_unreleased h || reserves_location l x) ≡ true
opens l h (Statement (Reserve s m k) bs) e = at (same_location m l) e
  where
    at : (b : Bool) → is_unreleased (if b then spec.Reserved k else h) ≡ true → (is_unreleased h || b) ≡ true
    at true i = or_right (is_unreleased h) true refl
    at false i = or_left (is_unreleased h) false i
opens l h (Statement (Block s m) bs) e = or_left (is_unreleased h) false (at (same_location m l) h e)
  where
    at : (b : Bool) (g : Hold) → is_unreleased (if b then spec.after_block g else g) ≡ true → is_unreleased g ≡ true
    at true (spec.Reserved k) i = refl
    at true (spec.Blocked k) i = refl
    at true spec.Nothing i = i
    at true spec.Released i = i
    at false g i = i
opens l h (Statement (Release s m) bs) e = or_left (is_unreleased h) false (at (same_location m l) e)
  where
    at : (b : Bool) → is_unreleased (if b then spec.Released else h) ≡ true → is_unreleased h ≡ true
    at true i = absurd (false≢true i)
    at false i = i
opens l h x e = or_left (is_unreleased h) false e

opened : (l : Location) (h : Hold) (xs : List Place)
    → is_unreleased (fold (after_place l) h xs) ≡ true → (is_unreleased h || list_any (reserves_location l) xs) ≡ true
opened l h [] e = or_left (is_unreleased h) false e
opened l h (x ∷ xs) e = at (or_cases (is_unreleased (after_place l h x)) _ (opened l (after_place l h x) xs e))
  where
    at : (is_unreleased (after_place l h x) ≡ true) ⊎ (list_any (reserves_location l) xs ≡ true)
        → (is_unreleased h || (reserves_location l x || list_any (reserves_location l) xs)) ≡ true
    at (inr i) = or_right (is_unreleased h) _ (or_right (reserves_location l x) _ i)
    at (inl i) = here (or_cases (is_unreleased h) _ (opens l h x i))
      where
        here : (is_unreleased h ≡ true) ⊎ (reserves_location l x ≡ true)
            → (is_unreleased h || (reserves_location l x || list_any (reserves_location l) xs)) ≡ true
        here (inl j) = or_left (is_unreleased h) _ j
        here (inr j) = or_right (is_unreleased h) _ (or_left (reserves_location l x) _ j)

leaves : (earlier : List Place) (l : Location)
    → is_unreleased (hold_after l earlier) ≡ true → (x : Place) → reserves_location l x ≡ true
    → leaves_open earlier x ≡ true
leaves earlier l e (Statement (Reserve s at k) bs) same = ap is_unreleased (held_alike at l same earlier) ∙ e
leaves earlier l e _ same = absurd (false≢true same)

-- PLACES AT OPEN LOCATIONS

abbrev open_at : List Place → Place → Bool
open_at earlier x = is_some_and (λ l. is_unreleased (hold_after l earlier)) (location_at x)

some_left : (earlier xs : List Place) → list_any (open_at earlier) xs ≡ true → list_any (leaves_open earlier) earlier ≡ true
some_left earlier [] e = absurd (false≢true e)
some_left earlier (x ∷ xs) e = which (λ i. some_left earlier xs i) (or_cases (open_at earlier x) _ e)
  where
    at : (o : Option Location) → is_some_and (λ l. is_unreleased (hold_after l earlier)) o ≡ true → list_any (leaves_open earlier) earlier ≡ true
    at None i = absurd (false≢true i)
    at (Some l) i = any_weaker (reserves_location l) (leaves_open earlier) (leaves earlier l i) earlier (opened l spec.Nothing earlier i)

    which : (list_any (open_at earlier) xs ≡ true → list_any (leaves_open earlier) earlier ≡ true)
        → (open_at earlier x ≡ true) ⊎ (list_any (open_at earlier) xs ≡ true)
        → list_any (leaves_open earlier) earlier ≡ true
    which rest (inl i) = at (location_at x) i
    which rest (inr i) = rest i

left_at : (earlier : List Place) (x : Place) → leaves_open earlier x ≡ true → open_at earlier x ≡ true
left_at earlier (Statement (Reserve s at k) bs) e = e
left_at earlier _ e = absurd (false≢true e)

-- THEIR NUMBERS

open_number : (all earlier : List Place) (uses : List location.LocationUse) → AreKept Locations IsUsed all earlier uses
    → (before later : List Place) (x : Place) → all ≡ before ++ x ∷ later
    → is_open uses (number_at Locations all x) ≡ open_at earlier x
open_number all earlier uses h before later x e = at (location_at x) refl
  where
    none : location.LocationUse
    none = record { hold = Nothing; reserved = false; writes = 0 }

    at : (o : Option Location) → location_at x ≡ o → is_open uses (first_of Locations o all) ≡ is_some_and (λ l. is_unreleased (hold_after l earlier)) o
    at None i = ap (λ o. is_some_and (λ (used : location.LocationUse). is_unreleased (hold_view used.hold)) o) (past_last uses (length all) (sym h.one_each))
    at (Some l) i =
        let within : first_place Locations l all < length all =
        subst (λ xs. first_place Locations l xs < length xs) (sym e) (found Locations l before later x (is_own Locations l x i)) in
        ap (is_some_and (λ (used : location.LocationUse). is_unreleased (hold_view used.hold)))
        (slice_get-get_or uses (first_place Locations l all) none (subst (λ n. first_place Locations l all < n) (sym h.one_each) within))
        ∙ ap is_unreleased (h.each l none within).hold

by_number : (f : ℕ → Bool) (g : Place → Bool) (num : Place → ℕ) (all front xs : List Place)
    → ((before later : List Place) (x : Place) → all ≡ before ++ x ∷ later → f (num x) ≡ g x) → all ≡ front ++ xs
    → list_any f (map num xs) ≡ list_any g xs
by_number f g num all front [] each e = refl
by_number f g num all front (x ∷ xs) each e =
    ap (λ b. b || list_any f (map num xs)) (each front xs x e)
    ∙ ap (λ b. g x || b) (by_number f g num all (front ++ x ∷ []) xs each (e ∙ sym (append_assoc front (x ∷ []) xs)))

-- one of the numbers is that of an open location where the places before on the path leave one open
pub some_open : (places : List r_place.Place) (first : List ℕ) (path : List Guard) (before later : List Place)
    (x : Place) (uses : List location.LocationUse)
    → AreNumbered Locations places first (before ++ x ∷ later)
    → AreKept Locations IsUsed (map place_view places) (filter (on_path path) before) uses
    → list_any (is_open uses) first ≡ list_any (leaves_open (filter (on_path path) before)) (filter (on_path path) before)
some_open places first path before later x uses s h =
    ap (list_any (is_open uses)) s.numbers
    ∙ by_number (is_open uses) (open_at earlier) (number_at Locations all) all [] all (open_number all earlier uses so) refl
    ∙ both_ways _ _ (some_left earlier all) back
  where
    all : List Place
    all = before ++ x ∷ later

    earlier : List Place
    earlier = filter (on_path path) before

    so : AreKept Locations IsUsed all earlier uses
    so = subst (λ xs. AreKept Locations IsUsed xs earlier uses) (sym s.own) h

    back : list_any (leaves_open earlier) earlier ≡ true → list_any (open_at earlier) all ≡ true
    back e =
        list_any-append (open_at earlier) before (x ∷ later)
        ∙ or_left (list_any (open_at earlier) before) _
        (some_filtered (open_at earlier) (on_path path) before (any_weaker (leaves_open earlier) (open_at earlier) (left_at earlier) earlier e))
