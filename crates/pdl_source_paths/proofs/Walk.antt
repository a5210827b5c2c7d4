-- A walk over the sites on a path of a source that breaks no rule: what holds at each, of the places before it on the path.
use Rattle.std.proofs.Common.{◌≡◌, refl, sym, ap, ◌∙◌, subst, Bool, true, false, List, [], ◌∷◌, ◌++◌, filter, map, cond, if◌then◌else◌, append_assoc, append-nil}
use Rattle.pdl_semantics.specs.Tree.{Stmt, If, Stmts, Nil, Cons, Mem, Pipe}
use Rattle.pdl_semantics.specs.Flat
use Rattle.pdl_semantics.specs.Flatten.{at_start, with_guard, past, at_otherwise, under}
use Rattle.pdl_semantics.specs.Flatten
use Rattle.pdl_kit.specs.declared.rule.Rule.TheVariants.{L1, L3, L4, L5, L6, L7, S1}
use Rattle.pdl_rules.specs.Places.{Place, Statement, End, StartClause, Guard, Branch, with_inner, statements, places, on_path}
use Rattle.pdl_rules.specs.Locks.{lacks_hold, is_late_read, is_one_too_many, is_reserved_again, is_not_written_once, ends_open}
use Rattle.pdl_rules.specs.Calls.{is_wrong_call}
use Rattle.pdl_rules.specs.Refusal.{KeepsRules}
use Rattle.pdl_rules.proofs.EachPlace.{Each, closing}
use Rattle.pdl_rules.proofs.SingleWrites.{KeepsLocks}
use Rattle.pdl_source_stages.proofs.Sites.{Site, branch, sites_in, sites, sites_of, front_of, place_of, All, places_in, places_all}
use Rattle.pdl_source_paths.proofs.Choices.{path_of, unbroken_on}
use Rattle.pdl_source_paths.proofs.PathStatements.{on_sites}
use Rattle.pdl_source_paths.proofs.Variables.{Here, all_here}

-- IN TEXT ORDER

-- each site's front is what stands before it
abbrev pub InText : List Place → List Site → Type 0
InText front [] = Unit {0}
InText front (t ∷ ts) = (t.front ≡ front) × InText (front ++ place_of t ∷ []) ts

in_append : (front : List Place) (xs ys : List Site) → InText front xs → InText (front ++ map place_of xs) ys → InText front (xs ++ ys)
in_append front [] ys h k = subst (λ l. InText l ys) (append-nil front) k
in_append front (x ∷ xs) ys h k =
    (h.0, in_append (front ++ place_of x ∷ []) xs ys h.1 (subst (λ l. InText l ys) (sym (append_assoc front (place_of x ∷ []) (map place_of xs))) k))

mutual
  in_text_in : (ms : List Mem) (front : List Place) (w : Flatten.Position) (gs : List Flat.Guard) (bs : List Branch) (s : Stmt)
      → InText front (sites_in ms front w gs bs s)
  in_text_in ms front w gs bs (If sp c when otherwise) = (
    refl,
    in_append (front ++ Statement (If sp c when otherwise) bs ∷ [])
        (sites ms (front ++ Statement (If sp c when otherwise) bs ∷ []) (with_guard c w) (under gs w.vars c true) (bs ++ branch sp c true when ∷ []) when)
        (sites ms (front ++ Statement (If sp c when otherwise) bs ∷ statements (bs ++ branch sp c true when ∷ []) when)
        (at_otherwise ms c when w) (under gs w.vars c false) (bs ++ branch sp c false otherwise ∷ []) otherwise)
        (in_text ms (front ++ Statement (If sp c when otherwise) bs ∷ []) (with_guard c w) (under gs w.vars c true) (bs ++ branch sp c true when ∷ []) when)
        (subst
        (λ l. InText l
        (sites ms (front ++ Statement (If sp c when otherwise) bs ∷ statements (bs ++ branch sp c true when ∷ []) when)
        (at_otherwise ms c when w) (under gs w.vars c false) (bs ++ branch sp c false otherwise ∷ []) otherwise))
        (sym (append_assoc front (Statement (If sp c when otherwise) bs ∷ []) (statements (bs ++ branch sp c true when ∷ []) when))
        ∙ ap (λ l. (front ++ Statement (If sp c when otherwise) bs ∷ []) ++ l)
        (sym
        (places_all ms (front ++ Statement (If sp c when otherwise) bs ∷ []) (with_guard c w)
        (under gs w.vars c true) (bs ++ branch sp c true when ∷ []) when)))
        (in_text ms (front ++ Statement (If sp c when otherwise) bs ∷ statements (bs ++ branch sp c true when ∷ []) when)
        (at_otherwise ms c when w) (under gs w.vars c false) (bs ++ branch sp c false otherwise ∷ []) otherwise)),
  )
  in_text_in ms front w gs bs s = (refl, tt)

  in_text : (ms : List Mem) (front : List Place) (w : Flatten.Position) (gs : List Flat.Guard) (bs : List Branch) (ss : Stmts)
      → InText front (sites ms front w gs bs ss)
  in_text ms front w gs bs Nil = tt
  in_text ms front w gs bs (Cons s ss) =
      in_append front (sites_in ms front w gs bs s) (sites ms (front ++ with_inner bs s) (past ms s w) gs bs ss)
      (in_text_in ms front w gs bs s)
      (subst (λ l. InText (front ++ l) (sites ms (front ++ with_inner bs s) (past ms s w) gs bs ss))
      (sym (places_in ms front w gs bs s)) (in_text ms (front ++ with_inner bs s) (past ms s w) gs bs ss))

-- the front of each site of a source is what stands before it in the text
pub all_in_text : (p : Pipe) → InText (front_of p) (sites_of p)
all_in_text p = in_text p.mems (front_of p) (at_start p) [] [] p.body

-- ON A PATH

-- these sites stand on a path one after the other, and what the path has before each are these places and the sites before it
abbrev pub OnPath : List Guard → List Place → List Site → Type 0
OnPath c earlier [] = Unit {0}
OnPath c earlier (t ∷ ts) = (filter (on_path c) t.front ≡ earlier) × (on_path c (place_of t) ≡ true) × OnPath c (earlier ++ place_of t ∷ []) ts

-- the places of two lists that pass a test are those of the one and then those of the other
pub filter_append : (f : Place → Bool) (xs ys : List Place) → filter f (xs ++ ys) ≡ filter f xs ++ filter f ys
filter_append f [] ys = refl
filter_append f (x ∷ xs) ys = at (f x) (filter_append f xs ys)
  where
    at : (b : Bool) → filter f (xs ++ ys) ≡ filter f xs ++ filter f ys
        → cond b (x ∷ filter f (xs ++ ys)) (filter f (xs ++ ys)) ≡ cond b (x ∷ filter f xs) (filter f xs) ++ filter f ys
    at true e = ap (λ l. x ∷ l) e
    at false e = e

-- the front of each site on a path, on that path, is what stands before the site on it
pub on_the_path : (c : List Guard) (front : List Place) (ts : List Site) → InText front ts
    → OnPath c (filter (on_path c) front) (on_sites c ts)
on_the_path c front [] h = tt
on_the_path c front (t ∷ ts) h = at (on_path c (place_of t)) refl (on_the_path c (front ++ place_of t ∷ []) ts h.1)
  where
    at : (b : Bool) → on_path c (place_of t) ≡ b
        → OnPath c (filter (on_path c) (front ++ place_of t ∷ [])) (on_sites c ts)
        → OnPath c (filter (on_path c) front) (if b then t ∷ on_sites c ts else on_sites c ts)
    at true e k = (
      ap (filter (on_path c)) h.0,
      e,
      subst (λ l. OnPath c l (on_sites c ts))
          (filter_append (on_path c) front (place_of t ∷ []) ∙ ap (λ b. filter (on_path c) front ++ cond b (place_of t ∷ []) []) e) k,
    )
    at false e k =
        subst (λ l. OnPath c l (on_sites c ts))
        (filter_append (on_path c) front (place_of t ∷ [])
        ∙ ap (λ b. filter (on_path c) front ++ cond b (place_of t ∷ []) []) e
        ∙ append-nil (filter (on_path c) front)) k

-- the places of the sites on a path are the places on it
path_places : (c : List Guard) (ts : List Site) → filter (on_path c) (map place_of ts) ≡ map place_of (on_sites c ts)
path_places c [] = refl
path_places c (t ∷ ts) = at (on_path c (place_of t)) (path_places c ts)
  where
    at : (b : Bool) → filter (on_path c) (map place_of ts) ≡ map place_of (on_sites c ts)
        → cond b (place_of t ∷ filter (on_path c) (map place_of ts)) (filter (on_path c) (map place_of ts))
        ≡ map place_of (if b then t ∷ on_sites c ts else on_sites c ts)
    at true e = ap (λ l. place_of t ∷ l) e
    at false e = e

-- what holds of each site holds of each one on a path
pub all_on : (P : Site → Type 0) (c : List Guard) (ts : List Site) → All P ts → All P (on_sites c ts)
all_on P c [] h = tt
all_on P c (t ∷ ts) h = at (on_path c (place_of t)) (all_on P c ts h.1)
  where
    at : (b : Bool) → All P (on_sites c ts) → All P (if b then t ∷ on_sites c ts else on_sites c ts)
    at true k = (h.0, k)
    at false k = k

-- the places of a source, by its sites
pub text_places : (p : Pipe) → places p ≡ front_of p ++ (map place_of (sites_of p) ++ closing p)
text_places p =
    append_assoc (front_of p) (statements [] p.body) (closing p)
    ∙ ap (λ l. front_of p ++ (l ++ closing p)) (sym (places_all p.mems (front_of p) (at_start p) [] [] p.body))

-- WHAT THE RULES SAY

module _ (p : Pipe) (rules : KeepsRules p) (v : Guard → Bool) where
  abbrev c : List Guard
  c = path_of p v

  -- of a place of the text that is on the path
  pub keeps : (before later : List Place) (x : Place) → places p ≡ before ++ x ∷ later → on_path c x ≡ true → KeepsLocks p (filter (on_path c) before) x
  keeps before later x e on = record {
    l1 = unbroken_on (λ earlier. lacks_hold p earlier x) p v before x (rules L1 before x later e) on;
    l3 = unbroken_on (λ earlier. is_late_read p earlier x) p v before x (rules L3 before x later e) on;
    l4 = unbroken_on (λ earlier. is_one_too_many p earlier x) p v before x (rules L4 before x later e) on;
    l5 = unbroken_on (λ earlier. is_reserved_again earlier x) p v before x (rules L5 before x later e) on;
    l6 = unbroken_on (λ earlier. is_not_written_once earlier x) p v before x (rules L6 before x later e) on;
    l7 = unbroken_on (λ earlier. ends_open earlier x) p v before x (rules L7 before x later e) on;
  }

  -- no place on a path is a wrong call after the places before it on the path
  pub calls_right : (before later : List Place) (x : Place) → places p ≡ before ++ x ∷ later → on_path c x ≡ true
      → is_wrong_call (filter (on_path c) before) x ≡ false
  calls_right before later x e on = unbroken_on (λ earlier. is_wrong_call earlier x) p v before x (rules S1 before x later e) on

  -- each place of the sites on a path keeps the rules of locks with those before it, where what comes after the last one does
  pub each_keeps : (earlier : List Place) (ts : List Site) → OnPath c earlier ts → All (Here p) ts
      → Each (KeepsLocks p) (earlier ++ map place_of ts) (closing p)
      → Each (KeepsLocks p) earlier (map place_of ts ++ closing p)
  each_keeps earlier [] on here end = subst (λ l. Each (KeepsLocks p) l (closing p)) (append-nil earlier) end
  each_keeps earlier (t ∷ ts) on here end = (
    subst (λ l. KeepsLocks p l (place_of t)) on.0 (keeps t.front here.0.later (place_of t) here.0.whole on.1),
    each_keeps (earlier ++ place_of t ∷ []) ts on.2 here.1
        (subst (λ l. Each (KeepsLocks p) l (closing p)) (sym (append_assoc earlier (place_of t ∷ []) (map place_of ts))) end),
  )

  -- the places before the end
  abbrev pub text : List Place
  text = front_of p ++ statements [] p.body

  -- the places before the end that are on a path are those before the statements, and then those of the sites on it
  pub path_text : filter (on_path c) text ≡ filter (on_path c) (front_of p) ++ map place_of (on_sites c (sites_of p))
  path_text =
      filter_append (on_path c) (front_of p) (statements [] p.body)
      ∙ ap (λ l. filter (on_path c) (front_of p) ++ l)
      (ap (filter (on_path c)) (sym (places_all p.mems (front_of p) (at_start p) [] [] p.body)) ∙ path_places c (sites_of p))

  -- after the places on a path the end and the start clause keep the rules of locks
  pub ends : Each (KeepsLocks p) (filter (on_path c) text) (closing p)
  ends = (
    keeps text (StartClause p.start ∷ []) (End p.end) refl refl,
    (
      subst (λ l. KeepsLocks p l (StartClause p.start)) (filter_append (on_path c) text (End p.end ∷ []))
          (keeps (text ++ End p.end ∷ []) [] (StartClause p.start) (sym (append_assoc text (End p.end ∷ []) (StartClause p.start ∷ []))) refl),
      tt,
    ),
  )

  -- the places before the statements that are on the path
  abbrev pub front : List Place
  front = filter (on_path c) (front_of p)

  -- the sites on the path
  abbrev pub along : List Site
  along = on_sites c (sites_of p)

  -- each place along a path keeps the rules of locks with those before it, and so do the end and the start clause
  pub keeps_all : Each (KeepsLocks p) front (map place_of along ++ closing p)
  keeps_all =
      each_keeps front along (on_the_path c (front_of p) (sites_of p) (all_in_text p))
      (all_on (Here p) c (sites_of p) (all_here p)) (subst (λ l. Each (KeepsLocks p) l (closing p)) path_text ends)
