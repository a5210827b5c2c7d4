-- Whether a location waits for the one that was reserved first.
use Rattle.std.proofs.Common.{◌≡◌, refl, sym, ap, ◌∙◌, subst, ap₂, ℕ, zero, suc, ◌==◌, ◌<◌, min, nat_le, Bool, true, false, not, ◌&&◌, List, count_by, length, Option, Some, None, eq-eqb, ne_eqb, get_or, arith}
use Rattle.std.specs.List.{list_any}
use Rattle.std.proofs.lemmas.Bool.{eqb-true, le-leb}
use Rattle.std.specs.Cmp.{both_ways}
use Rattle.std.proofs.lemmas.Option.{none-some}
use Rattle.pdl_semantics.specs.Tree.{Location}
use Rattle.pdl_rules.specs.Places.{Place}
use Rattle.pdl_rules.specs.Locks.{same_location, writes_location, is_out_of_turn, first_reserved}
use Rattle.pdl_locks.specs.declared.numbers.Keys.TheVariants.{Locations}
use Rattle.pdl_locks.specs.declared.uses.LocationUse as location
use Rattle.pdl_locks.specs.Numbers.{first_place}
use Rattle.pdl_locks.specs.Uses.{AreKept, IsFirst, IsThere, IsUsed, first_number}
use Rattle.pdl_locks.proofs.BoundedCounts.{some_counted}
use Rattle.pdl_locks.proofs.KeyNumbers.{first_same, same_first}

-- the location that has a number
pub numbered : (all : List Place) (o : Option Location) (n : ℕ) → Some n ≡ first_number all o
    → (f : Location) × (o ≡ Some f) × (n ≡ first_place Locations f all)
numbered all None n e = absurd (none-some n (sym e))
numbered all (Some f) n e = (f, refl, cc e)

-- there is none where there is no number
pub unnumbered : (all : List Place) (o : Option Location) → None ≡ first_number all o → o ≡ None
unnumbered all None e = refl
unnumbered all (Some f) e = absurd (none-some (first_place Locations f all) e)

-- locations have one number where they are the same
same_number : (all : List Place) (l f : Location) (x : Place) (n k : ℕ) → n ≡ first_place Locations f all → k ≡ first_place Locations l all
    → first_place Locations f all < length all → (n == k) ≡ same_location f l
same_number all l f x n k is own there = both_ways (n == k) (same_location f l)
    (λ e. let same : first_place Locations f all ≡ first_place Locations l all = sym is ∙ eqb-true n k e ∙ own in
    first_same Locations l f all x (sym same) (subst (λ i. i < length all) same there))
    (λ e. eq-eqb n k (is ∙ sym (same_first Locations l f all e) ∙ sym own))

none_or_one : (n : ℕ) → (n == 0) ≡ not (nat_le 1 n)
none_or_one zero = refl
none_or_one (suc n) = ne_eqb (suc n) 0 (λ e. absurd (omega (arith, e))) ∙ sym (ap not (le-leb 1 (suc n) (omega arith)))

-- by these numbers and writes it is told whether it is out of turn
told : (all earlier : List Place) (l f : Location) (x : Place) (n k w : ℕ) → n ≡ first_place Locations f all → k ≡ first_place Locations l all
    → first_place Locations f all < length all → w ≡ min 2 (count_by (writes_location f) earlier)
    → (not (n == k) && (w == 0)) ≡ is_out_of_turn l earlier (Some f)
told all earlier l f x n k w is own there writes =
    ap₂ (λ a b. not a && b) (same_number all l f x n k is own there)
    (none_or_one w ∙ ap not (some_counted (writes_location f) earlier w writes))

-- the same by what is kept of the locations
pub waits : (all earlier : List Place) (l : Location) (x : Place) (uses : List location.LocationUse) (none : location.LocationUse) (first : Option ℕ) (n k : ℕ)
    → AreKept Locations IsUsed all earlier uses → IsFirst all first l earlier → IsThere all l earlier
    → k ≡ first_place Locations l all → first ≡ Some n
    → (not (n == k) && ((get_or uses n none).writes == 0)) ≡ is_out_of_turn l earlier (first_reserved l.mem.name earlier)
waits all earlier l x uses none first n k kept is there own some =
    let f = numbered all (first_reserved l.mem.name earlier) n (sym some ∙ is) in
    let within = there f.0 f.1 in
    told all earlier l f.0 x n k (get_or uses n none).writes f.2 own within
    (subst (λ i. (get_or uses i none).writes ≡ min 2 (count_by (writes_location f.0) earlier)) (sym f.2) (kept.each f.0 none within).writes)
    ∙ sym (ap (is_out_of_turn l earlier) f.1)

-- without one nothing waits
pub waits_for_none : (all earlier : List Place) (l : Location) (first : Option ℕ)
    → IsFirst all first l earlier → first ≡ None → false ≡ is_out_of_turn l earlier (first_reserved l.mem.name earlier)
waits_for_none all earlier l first is none =
    sym (ap (is_out_of_turn l earlier) (unnumbered all (first_reserved l.mem.name earlier) (sym none ∙ is)))

-- the one that was reserved first waits for none
pub waits_own : (all earlier : List Place) (l : Location) (x : Place) (first : Option ℕ) (n k : ℕ)
    → IsFirst all first l earlier → IsThere all l earlier → k ≡ first_place Locations l all → first ≡ Some n → n ≡ k
    → false ≡ is_out_of_turn l earlier (first_reserved l.mem.name earlier)
waits_own all earlier l x first n k is there own some same =
    let f = numbered all (first_reserved l.mem.name earlier) n (sym some ∙ is) in
    ap (λ a. not a && not (list_any (writes_location f.0) earlier))
    (sym (eq-eqb n k same) ∙ same_number all l f.0 x n k f.2 own (there f.0 f.1))
    ∙ sym (ap (is_out_of_turn l earlier) f.1)
