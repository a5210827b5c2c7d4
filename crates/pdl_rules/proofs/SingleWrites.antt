-- A memory is written once: two writes would go to the one location that is reserved for them, and its release is after both or between them.
use Rattle.std.proofs.Common.{◌≡◌, refl, sym, ap, ap₂, ◌∙◌, ℕ, ◌≤◌, Bool, true, false, not, ◌&&◌, ◌||◌, List, [], ◌∷◌, ◌++◌, fold, if◌then◌else◌, ◌==◌, bytes_eq, count_by, arith, ⊎_elim}
use mathlib.Core.Path.{fun_ext}
use Rattle.std.proofs.lemmas.Bool.{false≢true, true≢false, and_parts, and_from, or_cases, or_left, or_right, cases_Bool, eqb-true, not-false, both_ways}
use Rattle.std.proofs.lemmas.List.Folds.{list_any-append, list_all-append}
use Rattle.std.proofs.lemmas.List.Sums.{fold_push}
use Rattle.std.proofs.lemmas.Slice.Eq.{bytes_eq-Decides}
use Rattle.std.specs.List.{list_any, list_all}
use Rattle.pdl_semantics.specs.Tree.{Span, Expr, Location, R, W, Write, Reserve, Block, Release, Pipe}
use Rattle.pdl_semantics.specs.Flatten.{is_advisory_mem}
use Rattle.pdl_rules.specs.Places.{Place, Statement, End, Branch}
use Rattle.pdl_rules.specs.Locks.{same_location, same_kind, Hold, Nothing, Reserved, Blocked, Released, after_block, after_place, hold_after, is_blocked_for, is_held_for, lacks_hold, is_late_read, is_reserve_of, is_one_too_many, is_reserved_again, is_not_written_once, ends_open, reserves_location, writes_location, leaves_open}
use Rattle.pdl_rules.proofs.EachPlace.{Each}
pub use Rattle.pdl_rules.proofs.Counts.{weight, count_push, count_cons, counted, count_none}
use Rattle.pdl_rules.proofs.Counts.{weight, count_push, count_cons, counted}
use Rattle.pdl_semantics.proofs.Bytes.{bytes_same, bytes_refl}
use Rattle.pdl_semantics.proofs.Lists.{all_weaker}

-- what the rules of locks say of a place, with the places before it on a path
pub record KeepsLocks (p : Pipe) (before : List Place) (x : Place) : Type 0 where
  pub l1 : lacks_hold p before x ≡ false
  pub l3 : is_late_read p before x ≡ false
  pub l4 : is_one_too_many p before x ≡ false
  pub l5 : is_reserved_again before x ≡ false
  pub l6 : is_not_written_once before x ≡ false
  pub l7 : ends_open before x ≡ false

-- LISTS

-- where some element passes a test, some element passes a weaker one
pub any_weaker : {X : Type 0} (f g : X → Bool)
    → ((x : X) → f x ≡ true → g x ≡ true) → (xs : List X) → list_any f xs ≡ true → list_any g xs ≡ true
any_weaker f g h [] e = e
any_weaker f g h (x ∷ xs) e =
    ⊎_elim (λ a. or_left (g x) (list_any g xs) (h x a)) (λ a. or_right (g x) (list_any g xs) (any_weaker f g h xs a)) (or_cases (f x) (list_any f xs) e)

-- where an item of a list passes a test, one does with an item more at the end
pub any_front : {X : Type 0} (f : X → Bool) (xs : List X) (x : X) → list_any f xs ≡ true → list_any f (xs ++ x ∷ []) ≡ true
any_front f xs x e = list_any-append f xs (x ∷ []) ∙ or_left (list_any f xs) (list_any f (x ∷ [])) e

-- where the element added at the end passes a test, some element of the list does
pub any_last : {X : Type 0} (f : X → Bool) (xs : List X) (x : X) → f x ≡ true → list_any f (xs ++ x ∷ []) ≡ true
any_last f xs x e = list_any-append f xs (x ∷ []) ∙ or_right (list_any f xs) (list_any f (x ∷ [])) (or_left (f x) false e)

-- LOCATIONS

-- bytes that equal others are equalled by them
pub bytes_sym : (a b : List ℕ) → bytes_eq a b ≡ true → bytes_eq b a ≡ true
bytes_sym a b e = (bytes_eq-Decides b a).1 (sym (bytes_same a b e))

-- each location is the same as itself
pub location_refl : (a : Location) → same_location a a ≡ true
location_refl a = and_from _ _ (bytes_refl a.mem.name) (bytes_refl a.address.name)

-- where a location is the same as another, the other is the same as it
pub location_sym : (a b : Location) → same_location a b ≡ true → same_location b a ≡ true
location_sym a b e =
    let parts = and_parts (bytes_eq a.mem.name b.mem.name) _ e in
    and_from _ _ (bytes_sym a.mem.name b.mem.name parts.0) (bytes_sym a.address.name b.address.name parts.1)

-- a location is the same as the one just where it is the same as the other of two that are the same
pub same_right : (x a b : Location) → same_location a b ≡ true → same_location x a ≡ same_location x b
same_right x a b e =
    let parts = and_parts (bytes_eq a.mem.name b.mem.name) _ e in
    ap₂ (λ m n. bytes_eq x.mem.name m && bytes_eq x.address.name n) (bytes_same _ _ parts.0) (bytes_same _ _ parts.1)

after_alike : (a b : Location) → same_location a b ≡ true → (h : Hold) (x : Place) → after_place a h x ≡ after_place b h x
after_alike a b e h (Statement (Reserve s l k) bs) = ap (λ c. if c then Reserved k else h) (same_right l a b e)
after_alike a b e h (Statement (Block s l) bs) = ap (λ c. if c then after_block h else h) (same_right l a b e)
after_alike a b e h (Statement (Release s l) bs) = ap (λ c. if c then Released else h) (same_right l a b e)
after_alike a b e h _ = refl

-- of two locations that are the same, the same is held after some places
pub held_alike : (a b : Location) → same_location a b ≡ true → (xs : List Place) → hold_after a xs ≡ hold_after b xs
held_alike a b e xs = ap (λ (f : Hold → Place → Hold). fold f Nothing xs) (fun_ext (λ h. fun_ext (λ x. after_alike a b e h x)))

-- a place writes both of two locations that are the same, or neither
pub writes_alike : (a b : Location) → same_location a b ≡ true → (x : Place) → writes_location a x ≡ writes_location b x
writes_alike a b e (Statement (Write s l v) bs) = same_right l a b e
writes_alike a b e _ = refl

-- a place reserves both of two locations that are the same, or neither
pub reserves_alike : (a b : Location) → same_location a b ≡ true → (x : Place) → reserves_location a x ≡ reserves_location b x
reserves_alike a b e (Statement (Reserve s l k) bs) = same_right l a b e
reserves_alike a b e _ = refl

-- RESERVATIONS

-- whether a place reserves the location to be written
abbrev pub reserves_to_write : Location → Place → Bool
reserves_to_write l (Statement (Reserve _ at k) _) = same_kind W k && same_location at l
reserves_to_write l _ = false

-- a place that reserves a location to be written reserves that location
pub reserves_some : (l : Location) (x : Place) → reserves_to_write l x ≡ true → reserves_location l x ≡ true
reserves_some l (Statement (Reserve s at k) bs) e = (and_parts (same_kind W k) (same_location at l) e).1
reserves_some l _ e = absurd (false≢true e)

-- a place that reserves a location to be written reserves its memory to be written
pub reserves_mem : (l : Location) (x : Place) → reserves_to_write l x ≡ true → is_reserve_of W l.mem.name x ≡ true
reserves_mem l (Statement (Reserve s at k) bs) e =
    let parts = and_parts (same_kind W k) (same_location at l) e in
    and_from _ _ parts.0 (and_parts (bytes_eq at.mem.name l.mem.name) _ parts.1).0
reserves_mem l _ e = absurd (false≢true e)

one_place : (l a : Location) (x : Place) → reserves_to_write l x ≡ true → reserves_to_write a x ≡ true → same_location l a ≡ true
one_place l a (Statement (Reserve s at k) bs) e f =
    sym (same_right l at a (and_parts (same_kind W k) _ f).1) ∙ location_sym at l (and_parts (same_kind W k) _ e).1
one_place l a _ e f = absurd (false≢true e)

-- what is held to be written was reserved for it
pub unheld : (l : Location) (h : Hold) (x : Place)
    → reserves_to_write l x ≡ false → is_held_for W h ≡ false → is_held_for W (after_place l h x) ≡ false
unheld l h (Statement (Reserve s at k) bs) e f = go (same_location at l) e
  where
    go : (b : Bool) → (same_kind W k && b) ≡ false → is_held_for W (if b then Reserved k else h) ≡ false
    go true g = ⊎_elim (λ t. absurd (true≢false (sym (and_from _ _ t refl) ∙ g))) (λ t. t) (cases_Bool (same_kind W k))
    go false g = f
unheld l h (Statement (Block s at) bs) e f = go (same_location at l)
  where
    still : (g : Hold) → is_held_for W g ≡ false → is_held_for W (after_block g) ≡ false
    still Nothing t = t
    still (Reserved k) t = t
    still (Blocked k) t = t
    still Released t = t

    go : (b : Bool) → is_held_for W (if b then after_block h else h) ≡ false
    go true = still h f
    go false = f
unheld l h (Statement (Release s at) bs) e f = go (same_location at l)
  where
    go : (b : Bool) → is_held_for W (if b then Released else h) ≡ false
    go true = refl
    go false = f
unheld l h _ e f = f

reserved_if_held : (l : Location) (xs : List Place) (h : Hold)
    → is_held_for W h ≡ false → is_held_for W (fold (after_place l) h xs) ≡ true
    → list_any (reserves_to_write l) xs ≡ true
reserved_if_held l [] h f e = absurd (both_ways _ f e)
reserved_if_held l (x ∷ xs) h f e =
    ⊎_elim
    (λ t. or_left _ _ t)
    (λ t. or_right _ _ (reserved_if_held l xs (after_place l h x) (unheld l h x t f) e))
    (cases_Bool (reserves_to_write l x))

-- THE PLACES SO FAR

-- whether a write that isn't one of an advisory memory goes to a location that one of these places reserves for it
abbrev is_backed : Pipe → List Place → Place → Bool
is_backed p before (Statement (Write _ l _) _) = is_advisory_mem p.mems l.mem.name || list_any (reserves_to_write l) before
is_backed p before _ = true

-- each such write has its location reserved
pub record AreBacked (p : Pipe) (before : List Place) : Type 0 where
  pub backed : list_all (is_backed p before) before ≡ true

-- where there are no places, no memory is reserved twice, and no write lacks its reservation
pub none_backed : (p : Pipe) → AreBacked p []
none_backed p = record { backed = refl }

backed_more : (p : Pipe) (before : List Place) (y x : Place) → is_backed p before x ≡ true → is_backed p (before ++ y ∷ []) x ≡ true
backed_more p before y (Statement (Write s l v) bs) e =
    ⊎_elim (λ t. or_left _ (list_any (reserves_to_write l) (before ++ y ∷ [])) t)
    (λ t. or_right (is_advisory_mem p.mems l.mem.name) _ (any_front (reserves_to_write l) before y t)) (or_cases (is_advisory_mem p.mems l.mem.name) _ e)
backed_more p before y _ e = refl

-- what is blocked to be written is held as `Blocked W`
pub held_if_blocked : (h : Hold) → is_blocked_for W h ≡ true → h ≡ Blocked W
held_if_blocked (Blocked W) e = refl
held_if_blocked (Blocked R) e = absurd (false≢true e)
held_if_blocked Nothing e = absurd (false≢true e)
held_if_blocked (Reserved k) e = absurd (false≢true e)
held_if_blocked Released e = absurd (false≢true e)

-- where a location is blocked to be written, a place before has reserved it to be written
pub reserved_if_blocked : (l : Location) (before : List Place)
    → hold_after l before ≡ Blocked W → list_any (reserves_to_write l) before ≡ true
reserved_if_blocked l before e = reserved_if_held l before Nothing refl (ap (is_held_for W) e)

-- a write of a memory that isn't advisory has its location blocked
pub blocked_here : (p : Pipe) (before : List Place) (l : Location)
    → is_advisory_mem p.mems l.mem.name ≡ false
    → (not (is_advisory_mem p.mems l.mem.name) && not (is_blocked_for W (hold_after l before))) ≡ false → hold_after l before ≡ Blocked W
blocked_here p before l plain e = held_if_blocked _ (not-false _ (sym (ap (λ a. not a && not (is_blocked_for W (hold_after l before))) plain) ∙ e))

backed_here : (p : Pipe) (before : List Place) (x : Place) → lacks_hold p before x ≡ false → is_backed p before x ≡ true
backed_here p before (Statement (Write s l v) bs) e = go (is_advisory_mem p.mems l.mem.name) refl
  where
    go : (b : Bool) → is_advisory_mem p.mems l.mem.name ≡ b → (is_advisory_mem p.mems l.mem.name || list_any (reserves_to_write l) before) ≡ true
    go true a = or_left _ (list_any (reserves_to_write l) before) a
    go false a = or_right (is_advisory_mem p.mems l.mem.name) _ (reserved_if_blocked l before (blocked_here p before l a e))
backed_here p before _ e = refl

-- after a place that keeps the rules on locks, too, each write has its location reserved
pub backed_next : (p : Pipe) (before : List Place) (x : Place) → KeepsLocks p before x → AreBacked p before → AreBacked p (before ++ x ∷ [])
backed_next p before x k b = record {
  backed = list_all-append _ before (x ∷ []) ∙ and_from _ _
      (all_weaker _ _ (backed_more p before x) before b.backed)
      (and_from _ _ (backed_more p before x x (backed_here p before x k.l1)) refl);
}

-- what is written is reserved
reserved_alike : (a b : Location) → same_location a b ≡ true → (x : Place) → reserves_to_write a x ≡ reserves_to_write b x
reserved_alike a b e (Statement (Reserve s l k) bs) = ap (λ c. same_kind W k && c) (same_right l a b e)
reserved_alike a b e _ = refl

same_advisory : (p : Pipe) (a b : Location) → same_location a b ≡ true → is_advisory_mem p.mems a.mem.name ≡ is_advisory_mem p.mems b.mem.name
same_advisory p a b e = ap (is_advisory_mem p.mems) (bytes_same a.mem.name b.mem.name (and_parts (bytes_eq a.mem.name b.mem.name) _ e).0)

written_here : (p : Pipe) (before : List Place) (a : Location) (x : Place) → is_advisory_mem p.mems a.mem.name ≡ false → is_backed p before x ≡ true
    → writes_location a x ≡ true → list_any (reserves_to_write a) before ≡ true
written_here p before a (Statement (Write s l v) bs) plain e w =
    sym (ap (λ f. list_any f before) (fun_ext (reserved_alike l a w)))
    ∙ sym (ap (λ b. b || list_any (reserves_to_write l) before) (same_advisory p l a w ∙ plain)) ∙ e
written_here p before a _ plain e w = absurd (false≢true w)

written_among : (p : Pipe) (before : List Place) (a : Location) (xs : List Place)
    → is_advisory_mem p.mems a.mem.name ≡ false → list_all (is_backed p before) xs ≡ true
    → list_any (writes_location a) xs ≡ true → list_any (reserves_to_write a) before ≡ true
written_among p before a [] plain e w = absurd (false≢true w)
written_among p before a (x ∷ xs) plain e w =
    let parts = and_parts (is_backed p before x) (list_all (is_backed p before) xs) e in
    ⊎_elim
    (λ t. written_here p before a x plain parts.0 t)
    (λ t. written_among p before a xs plain parts.1 t)
    (or_cases (writes_location a x) (list_any (writes_location a) xs) w)

-- what is written was reserved
pub written_reserved : (p : Pipe) (before : List Place) (a : Location)
    → is_advisory_mem p.mems a.mem.name ≡ false → AreBacked p before → list_any (writes_location a) before ≡ true
    → list_any (reserves_to_write a) before ≡ true
written_reserved p before a plain b w = written_among p before a before plain b.backed w

-- WRITTEN TWICE

-- a location that is blocked to be written, with two writes: nothing can release it any more
record IsStuck (l : Location) (before : List Place) : Type 0 where
  holds : hold_after l before ≡ Blocked W
  reserved : list_any (reserves_location l) before ≡ true
  many : 2 ≤ count_by (writes_location l) before

stays_held : (p : Pipe) (l : Location) (before : List Place) (x : Place) → KeepsLocks p before x → IsStuck l before
    → after_place l (Blocked W) x ≡ Blocked W
stays_held p l before (Statement (Reserve s at k) bs) keeps stuck = go (same_location at l) refl
  where
    go : (b : Bool) → same_location at l ≡ b → (if b then Reserved k else Blocked W) ≡ Blocked W
    go true e = absurd (true≢false (sym stuck.reserved ∙ sym (ap (λ f. list_any f before) (fun_ext (reserves_alike at l e))) ∙ keeps.l5))
    go false e = refl
stays_held p l before (Statement (Block s at) bs) keeps stuck = go (same_location at l) refl
  where
    go : (b : Bool) → same_location at l ≡ b → (if b then Blocked W else Blocked W) ≡ Blocked W
    go true e = refl
    go false e = refl
stays_held p l before (Statement (Release s at) bs) keeps stuck = go (same_location at l) refl
  where
    go : (b : Bool) → same_location at l ≡ b → (if b then Released else Blocked W) ≡ Blocked W
    go true e =
        let here : hold_after at before ≡ Blocked W = held_alike at l e before ∙ stuck.holds in
        let count : count_by (writes_location at) before ≡ count_by (writes_location l) before =
        ap (λ (f : Place → Bool). count_by f before) (fun_ext (writes_alike at l e)) in
        let one : not (count_by (writes_location at) before == 1) ≡ false =
        ap (λ h. is_held_for W h && not (count_by (writes_location at) before == 1)) (sym here) ∙ keeps.l6 in
        let is : count_by (writes_location at) before ≡ 1 = eqb-true _ 1 (not-false _ one) in
        let many : 2 ≤ count_by (writes_location l) before = stuck.many in
        absurd (omega arith)
    go false e = refl
stays_held p l before _ keeps stuck = refl

stuck_next : (p : Pipe) (l : Location) (before : List Place) (x : Place) → KeepsLocks p before x → IsStuck l before
    → IsStuck l (before ++ x ∷ [])
stuck_next p l before x keeps stuck = record {
  holds = fold_push (after_place l) Nothing before x ∙ ap (λ h. after_place l h x) stuck.holds ∙ stays_held p l before x keeps stuck;
  reserved = any_front (reserves_location l) before x stuck.reserved;
  many =
      let many : 2 ≤ count_by (writes_location l) before = stuck.many in
      omega (arith, count_push (writes_location l) before x);
}

-- a reserve of a location that is blocked to be written, and so not released, leaves it open
pub left_open : (before : List Place) (l : Location)
    → hold_after l before ≡ Blocked W → (x : Place) → reserves_location l x ≡ true → leaves_open before x ≡ true
left_open before l e (Statement (Reserve s at k) bs) same = rw (held_alike at l same before, e) refl
left_open before l e _ same = absurd (false≢true same)

stuck_at_end : (p : Pipe) (l : Location) (xs later before : List Place) (s : Span) → IsStuck l before
    → Each (KeepsLocks p) before (xs ++ End s ∷ later) → ⊥
stuck_at_end p l [] later before s stuck each = both_ways _ each.0.l7 (any_weaker _ _ (left_open before l stuck.holds) before stuck.reserved)
stuck_at_end p l (x ∷ xs) later before s stuck each = stuck_at_end p l xs later (before ++ x ∷ []) s (stuck_next p l before x each.0 stuck) each.1

-- no write through a location stands after a write through it
pub written_once : (p : Pipe) (s : Span) (l : Location) (v : Expr) (bs : List Branch) (before xs later : List Place) (end : Span)
    → is_advisory_mem p.mems l.mem.name ≡ false
    → Each (KeepsLocks p) before (Statement (Write s l v) bs ∷ (xs ++ End end ∷ later))
    → list_any (writes_location l) before ≡ false
written_once p s l v bs before xs later end plain each = go (list_any (writes_location l) before) refl
  where
    here : hold_after l before ≡ Blocked W
    here = blocked_here p before l plain each.0.l1

    asked : list_any (reserves_to_write l) before ≡ true
    asked = reserved_if_blocked l before here

    stuck : list_any (writes_location l) before ≡ true → IsStuck l (before ++ Statement (Write s l v) bs ∷ [])
    stuck e = record {
      holds = fold_push (after_place l) Nothing before (Statement (Write s l v) bs) ∙ here;
      reserved = any_front (reserves_location l) before _ (any_weaker _ _ (reserves_some l) before asked);
      many =
          let one : 1 ≤ count_by (writes_location l) before = counted (writes_location l) before e in
          let this : weight (writes_location l (Statement (Write s l v) bs)) ≡ 1 = ap weight (location_refl l) in
          omega (arith, count_push (writes_location l) before (Statement (Write s l v) bs));
    }

    go : (b : Bool) → list_any (writes_location l) before ≡ b → b ≡ false
    go true e = absurd (stuck_at_end p l xs later _ end (stuck e) each.1)
    go false e = refl
