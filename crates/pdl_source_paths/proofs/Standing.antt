-- Where a memory stands on a path: which of its locations are reserved for writing, written and released.
use Rattle.std.proofs.Common.{◌≡◌, refl, sym, ap, ◌∙◌, subst, ℕ, ◌<◌, ◌≤◌, Bool, true, false, ◌&&◌, ◌||◌, not, List, [], ◌∷◌, ◌++◌, length, cond, ◌==◌, ◌⊎◌, inl, inr, ⊎_elim, bytes_eq, count_by, Some, arith, eq-eqb}
use Rattle.std.proofs.lemmas.Bool.{false≢true, and_parts, and_from, or_left, or_right, or_cases, eqb-true, eqb-false, not-true, both_ways, false_from_ne_true}
use Rattle.std.proofs.lemmas.List.Folds.{list_any-append}
use Rattle.std.specs.List.{list_any}
use Rattle.pdl_semantics.specs.Tree.{Location, W, Write, Pipe}
use Rattle.pdl_semantics.specs.Flatten.{Var, var_of}
use Rattle.pdl_rules.specs.Places.{Place, Statement}
use Rattle.pdl_rules.specs.Locks.{same_location, Hold, Blocked, after_place, hold_after, is_held_for, is_reserve_of, is_write_of, writes_location, most_reservations, first_reserved}
use Rattle.pdl_rules.specs.Typed.{is_named}
use Rattle.pdl_rules.proofs.FirstReserves.{first_stays}
use Rattle.pdl_rules.proofs.SingleWrites.{any_weaker, any_front, reserves_to_write, reserves_mem, weight, count_push}
use Rattle.pdl_theory_turns.specs.Alone.{is_nil, is_among, is_oldest, drop_var, but_last}
use Rattle.pdl_theory_turns.specs.Scans.{Phase, may_read}
use Rattle.pdl_theory_turns.proofs.Apart.{Apart, front_among, total}
use Rattle.pdl_source_paths.proofs.Numbers.{var_low, var_stays}
use Rattle.pdl_source_paths.proofs.ReadsKept.{held_more}
use Rattle.pdl_source_paths.proofs.Calls.{none_more}

-- WHERE A MEMORY STANDS

-- a location of m that is reserved to be written; x is the number of its variable
pub record Open (vs : List Var) (before : List Place) (m : List ℕ) (x : ℕ) : Type 0 where
  pub at : Location
  pub mem : at.mem.name ≡ m
  pub named : is_named vs at.address.name ≡ true
  pub number : var_of vs at.address.name ≡ x
  pub reserved : list_any (reserves_to_write at) before ≡ true

-- one that isn't written
pub record IsUnset (vs : List Var) (before : List Place) (m : List ℕ) (x : ℕ) : Type 0 where
  pub place : Open vs before m x
  pub unset : list_any (writes_location place.at) before ≡ false
  pub held : is_held_for W (hold_after place.at before) ≡ true

-- one that is written and not released
pub record IsSet (vs : List Var) (before : List Place) (m : List ℕ) (x : ℕ) : Type 0 where
  pub place : Open vs before m x
  pub set : list_any (writes_location place.at) before ≡ true
  pub held : hold_after place.at before ≡ Blocked W

-- one that is released
pub record IsOut (vs : List Var) (before : List Place) (m : List ℕ) (x : ℕ) : Type 0 where
  pub place : Open vs before m x
  pub set : list_any (writes_location place.at) before ≡ true

-- the location of this number is the one of m that is reserved first
pub record IsFirst (vs : List Var) (before : List Place) (m : List ℕ) (x : ℕ) : Type 0 where
  pub at : Location
  pub first : first_reserved m before ≡ Some at
  pub mem : at.mem.name ≡ m
  pub named : is_named vs at.address.name ≡ true
  pub number : var_of vs at.address.name ≡ x

-- whether a phase has a variable
abbrev pub is_in : Phase → ℕ → Bool
is_in ph x = is_among x ph.unwritten || (is_among x ph.full || is_among x ph.gone)

-- whether a number is the last of these
abbrev pub is_last : ℕ → List ℕ → Bool
is_last x [] = false
is_last x (y ∷ []) = y == x
is_last x (y ∷ z ∷ zs) = is_last x (z ∷ zs)

-- whether no number stands there twice
abbrev pub is_distinct : List ℕ → Bool
is_distinct [] = true
is_distinct (x ∷ xs) = not (is_among x xs) && is_distinct xs

-- what these places have reserved and written of memory m is as this phase of its write says
pub record Stands (p : Pipe) (vs : List Var) (before : List Place) (m : List ℕ) (ph : Phase) : Type 0 where
  pub unset : (x : ℕ) → is_among x ph.unwritten ≡ true → IsUnset vs before m x
  pub set : (x : ℕ) → is_among x ph.full ≡ true → IsSet vs before m x
  pub out : (x : ℕ) → is_among x ph.gone ≡ true → IsOut vs before m x
  pub count : count_by (is_reserve_of W m) before ≡ total ph
  pub few : count_by (is_reserve_of W m) before ≤ most_reservations p.mems W m
  pub every : (l : Location)
      → l.mem.name ≡ m → list_any (reserves_to_write l) before ≡ true
      → (x : ℕ) × (o : Open vs before m x) × (is_in ph x ≡ true) × (same_location o.at l ≡ true)
  pub first : ph.full ≡ [] → ph.gone ≡ [] → (x : ℕ) → is_last x ph.unwritten ≡ true → IsFirst vs before m x
  pub one_open : is_distinct ph.unwritten ≡ true
  pub one_full : is_distinct ph.full ≡ true
  pub apart : Apart ph

-- LISTS OF NUMBERS

-- what is among some numbers is the first, or among the rest
pub among_here : (x y : ℕ) (xs : List ℕ) → is_among x (y ∷ xs) ≡ true → (y ≡ x) ⊎ (is_among x xs ≡ true)
among_here x y xs h = at (y == x) refl h
  where
    at : (b : Bool) → (y == x) ≡ b → (b || is_among x xs) ≡ true → (y ≡ x) ⊎ (is_among x xs ≡ true)
    at true e k = inl (eqb-true y x e)
    at false e k = inr k

-- the first of some numbers is among them
pub among_self : (x : ℕ) (xs : List ℕ) → is_among x (x ∷ xs) ≡ true
among_self x xs = or_left (x == x) _ (eq-eqb x x refl)

-- a number among some is the oldest of them, or among those without it
pub oldest_or : (x a : ℕ) (xs : List ℕ) → is_oldest a xs ≡ true → is_among x xs ≡ true → (a ≡ x) ⊎ (is_among x (but_last xs) ≡ true)
oldest_or x a [] h k = absurd (false≢true h)
oldest_or x a (y ∷ []) h k = ⊎_elim (λ e. inl (sym (eqb-true y a h) ∙ e)) (λ e. absurd (false≢true e)) (among_here x y [] k)
oldest_or x a (y ∷ z ∷ zs) h k = ⊎_elim
    (λ e. inr (or_left (y == x) _ (eq-eqb y x e)))
    (λ e. ⊎_elim (λ f. inl f) (λ f. inr (or_right (y == x) _ f)) (oldest_or x a (z ∷ zs) (and_parts (not (y == a)) _ h).1 e))
    (among_here x y (z ∷ zs) k)

-- what is left after one is dropped was there
pub dropped_among : (x a : ℕ) (xs : List ℕ) → is_among x (drop_var a xs) ≡ true → is_among x xs ≡ true
dropped_among x a [] h = absurd (false≢true h)
dropped_among x a (y ∷ ys) h = at (y == a) h (λ e. dropped_among x a ys e)
  where
    at : (b : Bool)
        → is_among x (cond b ys (y ∷ drop_var a ys)) ≡ true → (is_among x (drop_var a ys) ≡ true → is_among x ys ≡ true)
        → is_among x (y ∷ ys) ≡ true
    at true k go = or_right (y == x) _ k
    at false k go = ⊎_elim (λ e. or_left (y == x) _ (eq-eqb y x e)) (λ e. or_right (y == x) _ (go e)) (among_here x y (drop_var a ys) k)

-- where numbers differ, what is left after one is dropped is another one
pub dropped_other : (x a : ℕ) (xs : List ℕ) → is_distinct xs ≡ true → is_among x (drop_var a xs) ≡ true → a ≡ x → ⊥
dropped_other x a [] d h e = false≢true h
dropped_other x a (y ∷ ys) d h e = at (y == a) refl h (λ d f. dropped_other x a ys d f e)
  where
    parts : (not (is_among y ys) ≡ true) × (is_distinct ys ≡ true)
    parts = and_parts (not (is_among y ys)) _ d

    at : (b : Bool) → (y == a) ≡ b → is_among x (cond b ys (y ∷ drop_var a ys)) ≡ true → (is_distinct ys ≡ true → is_among x (drop_var a ys) ≡ true → ⊥) → ⊥
    at true i k go = both_ways _ (not-true _ parts.0) (subst (λ n. is_among n ys ≡ true) (sym (eqb-true y a i ∙ e)) k)
    at false i k go = ⊎_elim (λ f. eqb-false y a i (f ∙ sym e)) (λ f. go parts.1 f) (among_here x y (drop_var a ys) k)

-- what was there is left, or is the one that is dropped
pub still_among : (x a : ℕ) (xs : List ℕ) → is_among x xs ≡ true → (a ≡ x) ⊎ (is_among x (drop_var a xs) ≡ true)
still_among x a [] h = absurd (false≢true h)
still_among x a (y ∷ ys) h = at (y == a) refl (among_here x y ys h) (λ k. still_among x a ys k)
  where
    at : (b : Bool)
        → (y == a) ≡ b → (y ≡ x) ⊎ (is_among x ys ≡ true) → (is_among x ys ≡ true → (a ≡ x) ⊎ (is_among x (drop_var a ys) ≡ true))
        → (a ≡ x) ⊎ (is_among x (cond b ys (y ∷ drop_var a ys)) ≡ true)
    at true i (inl e) go = inl (sym (eqb-true y a i) ∙ e)
    at true i (inr k) go = inr k
    at false i (inl e) go = inr (or_left (y == x) _ (eq-eqb y x e))
    at false i (inr k) go = ⊎_elim (λ e. inl e) (λ e. inr (or_right (y == x) _ e)) (go k)

-- numbers that differ still do without the last
pub front_distinct : (xs : List ℕ) → is_distinct xs ≡ true → is_distinct (but_last xs) ≡ true
front_distinct [] h = refl
front_distinct (x ∷ []) h = refl
front_distinct (x ∷ y ∷ ys) h =
    let parts = and_parts (not (is_among x (y ∷ ys))) _ h in
    and_from _ _ (ap not (false_from_ne_true _ (λ t. both_ways _ (not-true _ parts.0) (front_among x (y ∷ ys) t)))) (front_distinct (y ∷ ys) parts.1)

-- and without one of them
pub drop_distinct : (a : ℕ) (xs : List ℕ) → is_distinct xs ≡ true → is_distinct (drop_var a xs) ≡ true
drop_distinct a [] h = refl
drop_distinct a (x ∷ xs) h = at (x == a) (λ d. drop_distinct a xs d)
  where
    parts : (not (is_among x xs) ≡ true) × (is_distinct xs ≡ true)
    parts = and_parts (not (is_among x xs)) _ h

    at : (b : Bool) → (is_distinct xs ≡ true → is_distinct (drop_var a xs) ≡ true) → is_distinct (cond b xs (x ∷ drop_var a xs)) ≡ true
    at true go = parts.1
    at false go = and_from _ _ (ap not (false_from_ne_true _ (λ t. both_ways _ (not-true _ parts.0) (dropped_among x a xs t)))) (go parts.1)

-- PLACES

-- one more place
abbrev place_front : (vs us : List Var) (before : List Place) (m : List ℕ) (n : ℕ) (x : Place) → Open vs before m n
    → Open (vs ++ us) (before ++ x ∷ []) m n
place_front vs us before m n x o = record {
  at = o.at;
  mem = o.mem;
  named = list_any-append _ vs us ∙ or_left (is_named vs o.at.address.name) _ o.named;
  number = var_stays vs us o.at.address.name o.named ∙ o.number;
  reserved = any_front (reserves_to_write o.at) before x o.reserved;
}

abbrev first_front : (vs us : List Var) (before : List Place) (m : List ℕ) (n : ℕ) (x : Place) → is_reserve_of W m x ≡ false → IsFirst vs before m n
    → IsFirst (vs ++ us) (before ++ x ∷ []) m n
first_front vs us before m n x nor f = record {
  at = f.at;
  first = first_stays m before x nor ∙ f.first;
  mem = f.mem;
  named = list_any-append _ vs us ∙ or_left (is_named vs f.at.address.name) _ f.named;
  number = var_stays vs us f.at.address.name f.named ∙ f.number;
}

writes_there : (l : Location) (m : List ℕ) (x : Place) → l.mem.name ≡ m → writes_location l x ≡ true → is_write_of m x ≡ true
writes_there l m (Statement (Write sp k v) bs) same f = subst (λ n. bytes_eq k.mem.name n ≡ true) same (and_parts (bytes_eq k.mem.name l.mem.name) _ f).0
writes_there l m _ same f = absurd (false≢true f)

-- a place that reserves nothing of m for writing changes no count of its reservations
pub counted_more : (m : List ℕ) (before : List Place) (x : Place)
    → is_reserve_of W m x ≡ false → count_by (is_reserve_of W m) (before ++ x ∷ []) ≡ count_by (is_reserve_of W m) before
counted_more m before x nor =
    let here : weight (is_reserve_of W m x) ≡ 0 = ap weight nor in
    omega (arith, count_push (is_reserve_of W m) before x)

-- a statement that doesn't reserve m for writing and doesn't write it leaves it where it stands, if it lets the location be
pub moved : (p : Pipe) (vs us : List Var) (before : List Place) (m : List ℕ) (ph : Phase) (x : Place)
    → is_reserve_of W m x ≡ false → is_write_of m x ≡ false
    → ((l : Location) → l.mem.name ≡ m → list_any (reserves_to_write l) before ≡ true → (h : Hold)
    → is_held_for W h ≡ true → is_held_for W (after_place l h x) ≡ true)
    → ((l : Location) → l.mem.name ≡ m → list_any (reserves_to_write l) before ≡ true → after_place l (Blocked W) x ≡ Blocked W)
    → Stands p vs before m ph → Stands p (vs ++ us) (before ++ x ∷ []) m ph
moved p vs us before m ph x nor now keep still s =
    record {
      unset = λ n t. let u = s.unset n t in record {
        place = place_front vs us before m n x u.place;
        unset = none_more (writes_location u.place.at) before x u.unset (quiet u.place.at u.place.mem);
        held = ap (is_held_for W) (held_more u.place.at before x) ∙ keep u.place.at u.place.mem u.place.reserved (hold_after u.place.at before) u.held;
      };
      set = λ n t. let u = s.set n t in record {
        place = place_front vs us before m n x u.place;
        set = any_front (writes_location u.place.at) before x u.set;
        held = held_more u.place.at before x ∙ ap (λ h. after_place u.place.at h x) u.held ∙ still u.place.at u.place.mem u.place.reserved;
      };
      out = λ n t. let u = s.out n t in record { place = place_front vs us before m n x u.place; set = any_front (writes_location u.place.at) before x u.set };
      count = counted_more m before x nor ∙ s.count;
      few = subst (λ n. n ≤ most_reservations p.mems W m) (sym (counted_more m before x nor)) s.few;
      every = λ l same r. let e = s.every l same (reserved_front l same r) in (e.0, place_front vs us before m e.0 x e.1, e.2, e.3);
      first = λ f g n t. first_front vs us before m n x nor (s.first f g n t);
      one_open = s.one_open;
      one_full = s.one_full;
      apart = s.apart;
    }
  where
    quiet : (l : Location) → l.mem.name ≡ m → writes_location l x ≡ false
    quiet l same = false_from_ne_true _ (λ t. both_ways _ now (writes_there l m x same t))

    reserved_front : (l : Location) → l.mem.name ≡ m → list_any (reserves_to_write l) (before ++ x ∷ []) ≡ true → list_any (reserves_to_write l) before ≡ true
    reserved_front l same r =
        ⊎_elim (λ t. t)
        (λ t. ⊎_elim (λ u. absurd (both_ways _ nor (subst (λ n. is_reserve_of W n x ≡ true) same (reserves_mem l x u)))) (λ u. absurd (false≢true u))
        (or_cases (reserves_to_write l x) false t))
        (or_cases (list_any (reserves_to_write l) before) _ (sym (list_any-append (reserves_to_write l) before (x ∷ [])) ∙ r))

-- no write, no location with a value
pub wrote_none : (p : Pipe) (vs : List Var) (before : List Place) (m : List ℕ) (ph : Phase) → Stands p vs before m ph
    → list_any (is_write_of m) before ≡ false → may_read ph ≡ true
wrote_none p vs before m ph s h =
    and_from _ _
    (nil ph.full (λ n t. both_ways _ h (any_weaker _ _ (λ x e. writes_there (s.set n t).place.at m x (s.set n t).place.mem e) before (s.set n t).set)))
    (nil ph.gone (λ n t. both_ways _ h (any_weaker _ _ (λ x e. writes_there (s.out n t).place.at m x (s.out n t).place.mem e) before (s.out n t).set)))
  where
    nil : (xs : List ℕ) → ((n : ℕ) → is_among n xs ≡ true → ⊥) → is_nil xs ≡ true
    nil [] f = refl
    nil (x ∷ xs) f = absurd (f x (among_self x xs))

-- a new variable is the address of none
pub held_low : (p : Pipe) (vs : List Var) (before : List Place) (m : List ℕ) (ph : Phase) → Stands p vs before m ph
    → not (is_among (length vs) ph.unwritten) ≡ true
held_low p vs before m ph s =
    ap not
    (false_from_ne_true _ (λ t.
    let o = (s.unset (length vs) t).place in let i : var_of vs o.at.address.name < length vs = var_low vs o.at.address.name o.named in let j =
    o.number in absurd (omega arith)))

-- a location of another memory is another location
pub other_mem : (at l : Location) (m : List ℕ) → bytes_eq at.mem.name m ≡ false → l.mem.name ≡ m → same_location at l ≡ false
other_mem at l m e f =
    false_from_ne_true _ (λ t. both_ways _ e (subst (λ n. bytes_eq at.mem.name n ≡ true) f (and_parts (bytes_eq at.mem.name l.mem.name) _ t).0))
