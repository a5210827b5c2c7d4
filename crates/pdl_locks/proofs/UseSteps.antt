-- What was done, after one place more.
use Rattle.std.proofs.Common.{◌≡◌, refl, sym, ap, ◌∙◌, subst, ℕ, ◌<◌, ◌≤◌, Bool, true, false, List, [], ◌∷◌, ◌++◌, map, filter, length, get_or, set, replicate, Option, Some, None, arith}
use Rattle.std.proofs.lemmas.Bool.{false≢true}
use Rattle.std.proofs.lemmas.List.{get_or-set_other, length-set, get_or-replicate, length-replicate}
use Rattle.std.proofs.lemmas.Grind.{get_or-set_at}
use Rattle.pdl_semantics.specs.Tree.{Location}
use Rattle.pdl_rules.specs.Places.{Place, Guard, on_path}
use Rattle.pdl_rules.specs.Parts.{is_some_and}
use Rattle.pdl_paths.specs.declared.place.Place as r_place
use Rattle.pdl_paths.specs.Actions.{location_at, place_view}
use Rattle.pdl_rules_on_paths.specs.Earlier.{earlier_more}
use Rattle.pdl_locks.specs.declared.numbers.Keys.{Keys}
use Rattle.pdl_locks.specs.Numbers.{are_one, is_at, first_place, first_of, number_at, AreNumbered}
use Rattle.pdl_locks.specs.Uses.{AreKept, IsOwn}
use Rattle.pdl_locks.proofs.KeyNumbers.{same_first, first_same, found, is_own, nth_told}

-- what is done is the same of locations with one number, and nothing is done at a place elsewhere
pub record HasLaws {T : Type 0} (keys : Keys) (Is : T → Location → List Place → Type 0) : Type 0 where
  pub alike : (used : T) (l m : Location) (earlier : List Place) → are_one keys m l ≡ true → Is used m earlier → Is used l earlier
  pub aside : (used : T) (l : Location) (earlier : List Place) (x : Place) → is_at keys l x ≡ false → Is used l earlier → Is used l (earlier ++ x ∷ [])

-- what a place reads
read : {T : Type 0} (keys : Keys) (Is : T → Location → List Place → Type 0) (places : List r_place.Place)
    (first : List ℕ) (before later : List Place) (x : Place) (k : ℕ)
    (uses : List T) (none : T) (earlier : List Place) → AreNumbered keys places first (before ++ x ∷ later)
    → k ≡ length before → AreKept keys Is (map place_view places) earlier uses
    → IsOwn Is (get_or uses (get_or first k 0) none) earlier x
read keys Is places first before later x k uses none earlier s e h l own =
    let all = before ++ x ∷ later in
    let number : get_or first k 0 ≡ first_place keys l all =
    ap (λ ns. get_or ns k 0) s.numbers ∙ nth_told (number_at keys all) before later x k 0 e ∙ ap (λ o. first_of keys o all) own in
    let so : AreKept keys Is all earlier uses = subst (λ xs. AreKept keys Is xs earlier uses) (sym s.own) h in
    subst (λ n. Is (get_or uses n none) l earlier) (sym number) (so.each l none (found keys l before later x (is_own keys l x own)))

-- the use that is kept by a place's number is that of its own location, or of its memory
pub own : {T : Type 0} (keys : Keys) (Is : T → Location → List Place → Type 0) (places : List r_place.Place)
    (first : List ℕ) (before later : List Place) (x : Place) (k : ℕ)
    (uses : List T) (none used : T) (earlier : List Place) → AreNumbered keys places first (before ++ x ∷ later)
    → k ≡ length before → AreKept keys Is (map place_view places) earlier uses
    → used ≡ get_or uses (get_or first k 0) none → IsOwn Is used earlier x
own keys Is places first before later x k uses none used earlier s e h is l at =
    subst (λ u. Is u l earlier) (sym is) (read keys Is places first before later x k uses none earlier s e h l at)

-- the number at a place is that of its own location, or of its memory
pub own_number : (keys : Keys) (places : List r_place.Place) (first : List ℕ) (before later : List Place) (x : Place) (k : ℕ) (l : Location)
    → AreNumbered keys places first (before ++ x ∷ later) → k ≡ length before → location_at x ≡ Some l
    → get_or first k 0 ≡ first_place keys l (map place_view places)
own_number keys places first before later x k l s e own =
    ap (λ ns. get_or ns k 0) s.numbers ∙ nth_told (number_at keys (before ++ x ∷ later)) before later x k 0 e
    ∙ ap (λ o. first_of keys o (before ++ x ∷ later)) own ∙ ap (first_place keys l) s.own

changed : {T : Type 0} (keys : Keys) (Is : T → Location → List Place → Type 0) (laws : HasLaws keys Is)
    (all earlier : List Place) (x : Place) (n : ℕ) (uses : List T) (new old : T)
    → n ≡ number_at keys all x → AreKept keys Is all earlier uses → n < length uses → old ≡ get_or uses n old
    → ((l : Location) → location_at x ≡ Some l → Is old l earlier → Is new l (earlier ++ x ∷ []))
    → AreKept keys Is all (earlier ++ x ∷ []) (set uses n new)
changed keys Is laws all earlier x n uses new old number h below is step =
    record { one_each = length-set uses n new ∙ h.one_each; each = λ l other within. at l other within (location_at x) refl }
  where
    at : (l : Location) (other : _) → first_place keys l all < length all → (o : Option Location) → location_at x ≡ o
        → Is (get_or (set uses n new) (first_place keys l all) other) l (earlier ++ x ∷ [])
    at l other within None i =
        let past : n ≡ length all = number ∙ ap (λ o. first_of keys o all) i in
        let same : length uses ≡ length all = h.one_each in
        absurd (omega (arith, past, below, same))
    at l other within (Some m) i = which (are_one keys m l) refl
      where
        here : n ≡ first_place keys m all
        here = number ∙ ap (λ o. first_of keys o all) i

        inside : first_place keys m all < length all
        inside =
            let same : length uses ≡ length all = h.one_each in
            omega (arith, here, below, same)

        was : Is old m earlier
        was = subst (λ u. Is u m earlier) (sym (is ∙ ap (λ k. get_or uses k old) here)) (h.each m old inside)

        which : (b : Bool) → are_one keys m l ≡ b → Is (get_or (set uses n new) (first_place keys l all) other) l (earlier ++ x ∷ [])
        which true j =
            subst (λ u. Is u l (earlier ++ x ∷ [])) (sym (get_or-set_at uses n (first_place keys l all) new other (same_first keys l m all j ∙ sym here) below))
            (laws.alike new l m (earlier ++ x ∷ []) j (step m i was))
        which false j =
            subst (λ u. Is u l (earlier ++ x ∷ []))
            (sym (get_or-set_other uses n (first_place keys l all) new other (λ e. false≢true (sym j ∙ first_same keys l m all x (e ∙ here) within))))
            (laws.aside _ l earlier x (ap (is_some_and (λ q. are_one keys q l)) i ∙ j) (h.each l other within))

unchanged : {T : Type 0} (keys : Keys) (Is : T → Location → List Place → Type 0) (laws : HasLaws keys Is)
    (before later earlier : List Place) (x : Place) (n : ℕ) (uses : List T)
    → n ≡ number_at keys (before ++ x ∷ later) x → AreKept keys Is (before ++ x ∷ later) earlier uses → length uses ≤ n
    → AreKept keys Is (before ++ x ∷ later) (earlier ++ x ∷ []) uses
unchanged keys Is laws before later earlier x n uses number h past =
    record { one_each = h.one_each; each = λ l other within. at l other within (location_at x) refl }
  where
    at : (l : Location) (other : _) → first_place keys l (before ++ x ∷ later) < length (before ++ x ∷ later) → (o : Option Location) → location_at x ≡ o
        → Is (get_or uses (first_place keys l (before ++ x ∷ later)) other) l (earlier ++ x ∷ [])
    at l other within None i = laws.aside _ l earlier x (ap (is_some_and (λ q. are_one keys q l)) i) (h.each l other within)
    at l other within (Some m) i =
        let here : n ≡ first_place keys m (before ++ x ∷ later) = number ∙ ap (λ o. first_of keys o (before ++ x ∷ later)) i in
        let inside : first_place keys m (before ++ x ∷ later) < length (before ++ x ∷ later) = found keys m before later x (is_own keys m x i) in
        let same : length uses ≡ length (before ++ x ∷ later) = h.one_each in
        absurd (omega (arith, here, inside, same, past))

-- the uses stay right with a place on the path, where the use of its location takes the step
pub stepped : {T : Type 0} (keys : Keys) (Is : T → Location → List Place → Type 0) (laws : HasLaws keys Is)
    (places : List r_place.Place) (first : List ℕ) (path : List Guard)
    (before later : List Place) (x : Place) (k n : ℕ) (uses : List T) (new old : T)
    → AreNumbered keys places first (before ++ x ∷ later) → k ≡ length before → on_path path x ≡ true
    → AreKept keys Is (map place_view places) (filter (on_path path) before) uses
    → n ≡ get_or first k 0 → n < length uses → old ≡ get_or uses n old
    → ((l : Location) (earlier : List Place) → location_at x ≡ Some l → Is old l earlier → Is new l (earlier ++ x ∷ []))
    → AreKept keys Is (map place_view places) (filter (on_path path) (before ++ x ∷ [])) (set uses n new)
stepped keys Is laws places first path before later x k n uses new old s e is_on h is below was step =
    let all = before ++ x ∷ later in
    let earlier = filter (on_path path) before in
    let number : n ≡ number_at keys all x = is ∙ ap (λ ns. get_or ns k 0) s.numbers ∙ nth_told (number_at keys all) before later x k 0 e in
    let so : AreKept keys Is all earlier uses = subst (λ xs. AreKept keys Is xs earlier uses) (sym s.own) h in
    let moved : AreKept keys Is (map place_view places) (earlier ++ x ∷ []) (set uses n new) =
    subst (λ xs. AreKept keys Is xs (earlier ++ x ∷ []) (set uses n new)) s.own
    (changed keys Is laws all earlier x n uses new old number so below was (λ l. step l earlier)) in
    subst (λ b. AreKept keys Is (map place_view places) b (set uses n new)) (sym (earlier_more path before x is_on)) moved

-- the uses stay as they are after a place on the path whose number none of them has
pub unstepped : {T : Type 0} (keys : Keys) (Is : T → Location → List Place → Type 0) (laws : HasLaws keys Is)
    (places : List r_place.Place) (first : List ℕ) (path : List Guard)
    (before later : List Place) (x : Place) (k n : ℕ) (uses : List T)
    → AreNumbered keys places first (before ++ x ∷ later) → k ≡ length before → on_path path x ≡ true
    → AreKept keys Is (map place_view places) (filter (on_path path) before) uses
    → n ≡ get_or first k 0 → length uses ≤ n → AreKept keys Is (map place_view places) (filter (on_path path) (before ++ x ∷ [])) uses
unstepped keys Is laws places first path before later x k n uses s e is_on h is past =
    let all = before ++ x ∷ later in
    let earlier = filter (on_path path) before in
    let number : n ≡ number_at keys all x = is ∙ ap (λ ns. get_or ns k 0) s.numbers ∙ nth_told (number_at keys all) before later x k 0 e in
    let so : AreKept keys Is all earlier uses = subst (λ xs. AreKept keys Is xs earlier uses) (sym s.own) h in
    let moved : AreKept keys Is (map place_view places) (earlier ++ x ∷ []) uses =
    subst (λ xs. AreKept keys Is xs (earlier ++ x ∷ []) uses) s.own (unchanged keys Is laws before later earlier x n uses number so past) in
    subst (λ b. AreKept keys Is (map place_view places) b uses) (sym (earlier_more path before x is_on)) moved

-- nothing was done before the first place
repeated : {T : Type 0} (n k : ℕ) (used other : T) → k < n → get_or (replicate n used) k other ≡ used
repeated n k used other l = get_or-replicate n k used other l

-- before the first place each location has the use in which nothing was done
pub begun : {T : Type 0} (keys : Keys) (Is : T → Location → List Place → Type 0) (all : List Place) (none : T) (n : ℕ)
    → n ≡ length all → ((l : Location) → Is none l []) → AreKept keys Is all [] (replicate n none)
begun keys Is all none n e h = record {
  one_each = length-replicate n none ∙ e;
  each =
      λ l other within. subst (λ u. Is u l [])
      (sym (repeated n (first_place keys l all) none other (subst (λ m. first_place keys l all < m) (sym e) within)))
      (h l);
}
