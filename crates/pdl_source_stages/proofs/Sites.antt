-- The statements of a source in text order, each with the places before it, the branches that it stands in, and where the walk of the flat form is: what ties the rules' places to the flat statements.
use Rattle.std.proofs.Common.{◌≡◌, refl, sym, ap, ap₂, ◌∙◌, Bool, true, false, List, [], ◌∷◌, ◌++◌, map, append_assoc, append-nil}
use Rattle.pdl_semantics.specs.Tree.{Span, Expr, Stmt, If, Stmts, Nil, Cons, Mem, Pipe}
use Rattle.pdl_semantics.specs.Flat
use Rattle.pdl_semantics.specs.Flatten.{with_guard, past, at_otherwise, binds_guard, under, flat_stmt, flat_stmts, at_start}
use Rattle.pdl_semantics.specs.Flatten
use Rattle.pdl_rules.specs.Places.{Place, Parameter, Memory, Statement, Branch, guard_of, with_inner, statements, places}
use Rattle.pdl_rules.proofs.EachPlace.{closing}

-- a statement, the places before it, where the walk of the flat form is, the guards of its flat statements, and its branches
pub record Site : Type 0 where
  pub front : List Place
  pub walk : Flatten.Position
  pub gs : List Flat.Guard
  pub branches : List Branch
  pub stmt : Stmt

-- the branch of an `if` that is taken where its condition has this truth value
abbrev pub branch : Span → Expr → Bool → Stmts → Branch
branch sp c truth inside = record { guard = guard_of sp c; truth = truth; inside = inside }

-- the site of a statement with these places before it, this position, these guards and these branches
abbrev pub site : List Place → Flatten.Position → List Flat.Guard → List Branch → Stmt → Site
site front w gs bs s = record { front = front; walk = w; gs = gs; branches = bs; stmt = s }

-- the sites of statements, in text order
abbrev mutual
  -- the sites of a statement and of what stands inside it
  pub sites_in : List Mem → List Place → Flatten.Position → List Flat.Guard → List Branch → Stmt → List Site
  sites_in ms front w gs bs (If sp c when otherwise) =
      site front w gs bs (If sp c when otherwise)
      ∷ (sites ms (front ++ Statement (If sp c when otherwise) bs ∷ []) (with_guard c w) (under gs w.vars c true) (bs ++ branch sp c true when ∷ []) when
      ++ sites ms (front ++ Statement (If sp c when otherwise) bs ∷ statements (bs ++ branch sp c true when ∷ []) when)
      (at_otherwise ms c when w) (under gs w.vars c false) (bs ++ branch sp c false otherwise ∷ []) otherwise)
  sites_in ms front w gs bs s = site front w gs bs s ∷ []

  -- the sites of statements one after the other, each after the places of those before it
  pub sites : List Mem → List Place → Flatten.Position → List Flat.Guard → List Branch → Stmts → List Site
  sites ms front w gs bs Nil = []
  sites ms front w gs bs (Cons s ss) = sites_in ms front w gs bs s ++ sites ms (front ++ with_inner bs s) (past ms s w) gs bs ss

-- the places before the statements of a source
abbrev pub front_of : Pipe → List Place
front_of p = map Parameter p.params ++ map Memory p.mems

-- the sites of a source, in text order
abbrev pub sites_of : Pipe → List Site
sites_of p = sites p.mems (front_of p) (at_start p) [] [] p.body

-- THE PLACES

-- the place of a site in the text: its statement in its branches
abbrev pub place_of : Site → Place
place_of t = Statement t.stmt t.branches

map_append : {A B : Type 0} (f : A → B) (xs ys : List A) → map f (xs ++ ys) ≡ map f xs ++ map f ys
map_append f [] ys = refl
map_append f (x ∷ xs) ys = ap (λ l. f x ∷ l) (map_append f xs ys)

-- the sites are the statements' places, in text order
mutual
  -- the places of the sites of a statement are its place and those of what stands inside it
  pub places_in : (ms : List Mem) (front : List Place) (w : Flatten.Position) (gs : List Flat.Guard) (bs : List Branch) (s : Stmt)
      → map place_of (sites_in ms front w gs bs s) ≡ with_inner bs s
  places_in ms front w gs bs (If sp c when otherwise) =
      ap (λ l. Statement (If sp c when otherwise) bs ∷ l)
      (map_append place_of
      (sites ms (front ++ Statement (If sp c when otherwise) bs ∷ []) (with_guard c w) (under gs w.vars c true) (bs ++ branch sp c true when ∷ []) when) _
      ∙ ap₂ (λ a b. a ++ b)
      (places_all ms (front ++ Statement (If sp c when otherwise) bs ∷ []) (with_guard c w) (under gs w.vars c true) (bs ++ branch sp c true when ∷ []) when)
      (places_all ms (front ++ Statement (If sp c when otherwise) bs ∷ statements (bs ++ branch sp c true when ∷ []) when)
      (at_otherwise ms c when w) (under gs w.vars c false) (bs ++ branch sp c false otherwise ∷ []) otherwise))
  places_in ms front w gs bs _ = refl

  -- the places of the sites of a list of statements are the places of the list
  pub places_all : (ms : List Mem) (front : List Place) (w : Flatten.Position) (gs : List Flat.Guard) (bs : List Branch) (ss : Stmts)
      → map place_of (sites ms front w gs bs ss) ≡ statements bs ss
  places_all ms front w gs bs Nil = refl
  places_all ms front w gs bs (Cons s ss) =
      map_append place_of (sites_in ms front w gs bs s) _
      ∙ ap₂ (λ a b. a ++ b) (places_in ms front w gs bs s) (places_all ms (front ++ with_inner bs s) (past ms s w) gs bs ss)

-- THE FLAT STATEMENTS

-- the flat statements of a site alone: none of a `---` and of an `if` on a variable, else one
abbrev pub own_of : List Mem → List Flat.Guard → Flatten.Position → Stmt → List Flat.Stmt
own_of ms gs w (If sp c when otherwise) = binds_guard gs w c
own_of ms gs w s = flat_stmt ms gs s w

-- the flat statements of a site alone
abbrev pub own : List Mem → Site → List Flat.Stmt
own ms t = own_of ms t.gs t.walk t.stmt

-- the flat statements of each of these sites alone, one site's after the other's
abbrev pub owns : List Mem → List Site → List Flat.Stmt
owns ms [] = []
owns ms (t ∷ ts) = own ms t ++ owns ms ts

owns_append : (ms : List Mem) (xs ys : List Site) → owns ms (xs ++ ys) ≡ owns ms xs ++ owns ms ys
owns_append ms [] ys = refl
owns_append ms (x ∷ xs) ys = ap (λ l. own ms x ++ l) (owns_append ms xs ys) ∙ sym (append_assoc (own ms x) (owns ms xs) (owns ms ys))

-- the flat statements are those of the sites, in text order
mutual
  owns_in : (ms : List Mem) (front : List Place) (w : Flatten.Position) (gs : List Flat.Guard) (bs : List Branch) (s : Stmt)
      → owns ms (sites_in ms front w gs bs s) ≡ flat_stmt ms gs s w
  owns_in ms front w gs bs (If sp c when otherwise) =
      ap (λ l. binds_guard gs w c ++ l)
      (owns_append ms
      (sites ms (front ++ Statement (If sp c when otherwise) bs ∷ []) (with_guard c w) (under gs w.vars c true) (bs ++ branch sp c true when ∷ []) when) _
      ∙ ap₂ (λ a b. a ++ b)
      (owns_all ms (front ++ Statement (If sp c when otherwise) bs ∷ []) (with_guard c w) (under gs w.vars c true) (bs ++ branch sp c true when ∷ []) when)
      (owns_all ms (front ++ Statement (If sp c when otherwise) bs ∷ statements (bs ++ branch sp c true when ∷ []) when)
      (at_otherwise ms c when w) (under gs w.vars c false) (bs ++ branch sp c false otherwise ∷ []) otherwise))
      ∙ sym
      (append_assoc (binds_guard gs w c) (flat_stmts ms (under gs w.vars c true) when (with_guard c w))
      (flat_stmts ms (under gs w.vars c false) otherwise (at_otherwise ms c when w)))
  owns_in ms front w gs bs s = append-nil (flat_stmt ms gs s w)

  -- the flat statements of the sites of a list of statements are those of the list
  pub owns_all : (ms : List Mem) (front : List Place) (w : Flatten.Position) (gs : List Flat.Guard) (bs : List Branch) (ss : Stmts)
      → owns ms (sites ms front w gs bs ss) ≡ flat_stmts ms gs ss w
  owns_all ms front w gs bs Nil = refl
  owns_all ms front w gs bs (Cons s ss) =
      owns_append ms (sites_in ms front w gs bs s) _
      ∙ ap₂ (λ a b. a ++ b) (owns_in ms front w gs bs s) (owns_all ms (front ++ with_inner bs s) (past ms s w) gs bs ss)

-- WHERE SITES STAND

-- something that holds of each site
abbrev pub All : (Site → Type 0) → List Site → Type 0
All P [] = Unit {0}
All P (t ∷ ts) = P t × All P ts

-- what holds of each site of two lists holds of each one of both together
pub all_append : (P : Site → Type 0) (xs ys : List Site) → All P xs → All P ys → All P (xs ++ ys)
all_append P [] ys h k = k
all_append P (x ∷ xs) ys h k = (h.0, all_append P xs ys h.1 k)

-- the site stands in this text after its front
abbrev pub Stands : List Place → Site → Type 0
Stands whole t = (later : List Place) × (whole ≡ t.front ++ place_of t ∷ later)

mutual
  stands_in : (whole : List Place) (ms : List Mem) (front : List Place) (w : Flatten.Position) (gs : List Flat.Guard)
      (bs : List Branch) (s : Stmt) (tail : List Place)
      → whole ≡ front ++ (with_inner bs s ++ tail) → All (Stands whole) (sites_in ms front w gs bs s)
  stands_in whole ms front w gs bs (If sp c when otherwise) tail e = (
    (_, e),
    all_append (Stands whole)
        (sites ms (front ++ Statement (If sp c when otherwise) bs ∷ []) (with_guard c w) (under gs w.vars c true) (bs ++ branch sp c true when ∷ []) when) _
        (stands_all whole ms (front ++ Statement (If sp c when otherwise) bs ∷ []) (with_guard c w)
        (under gs w.vars c true)
        (bs ++ branch sp c true when ∷ []) when (statements (bs ++ branch sp c false otherwise ∷ []) otherwise ++ tail)
        (e
        ∙ ap (λ l. front ++ Statement (If sp c when otherwise) bs ∷ l)
        (append_assoc (statements (bs ++ branch sp c true when ∷ []) when) (statements (bs ++ branch sp c false otherwise ∷ []) otherwise) tail)
        ∙ sym
        (append_assoc front (Statement (If sp c when otherwise) bs ∷ [])
        (statements (bs ++ branch sp c true when ∷ []) when ++ (statements (bs ++ branch sp c false otherwise ∷ []) otherwise ++ tail)))))
        (stands_all whole ms (front ++ Statement (If sp c when otherwise) bs ∷ statements (bs ++ branch sp c true when ∷ []) when)
        (at_otherwise ms c when w) (under gs w.vars c false) (bs ++ branch sp c false otherwise ∷ []) otherwise tail
        (e
        ∙ ap (λ l. front ++ Statement (If sp c when otherwise) bs ∷ l)
        (append_assoc (statements (bs ++ branch sp c true when ∷ []) when) (statements (bs ++ branch sp c false otherwise ∷ []) otherwise) tail)
        ∙ sym
        (append_assoc front (Statement (If sp c when otherwise) bs ∷ statements (bs ++ branch sp c true when ∷ []) when)
        (statements (bs ++ branch sp c false otherwise ∷ []) otherwise ++ tail)))),
  )
  stands_in whole ms front w gs bs s tail e = ((tail, e), tt)

  -- where a list of statements stands in a text after a front, each of its sites stands in that text after its own front
  pub stands_all : (whole : List Place) (ms : List Mem) (front : List Place) (w : Flatten.Position)
      (gs : List Flat.Guard) (bs : List Branch) (ss : Stmts) (tail : List Place)
      → whole ≡ front ++ (statements bs ss ++ tail) → All (Stands whole) (sites ms front w gs bs ss)
  stands_all whole ms front w gs bs Nil tail e = tt
  stands_all whole ms front w gs bs (Cons s ss) tail e =
      all_append (Stands whole) (sites_in ms front w gs bs s) _
      (stands_in whole ms front w gs bs s (statements bs ss ++ tail) (e ∙ ap (λ l. front ++ l) (append_assoc (with_inner bs s) (statements bs ss) tail)))
      (stands_all whole ms (front ++ with_inner bs s) (past ms s w) gs bs ss tail
      (e ∙ ap (λ l. front ++ l) (append_assoc (with_inner bs s) (statements bs ss) tail)
      ∙ sym (append_assoc front (with_inner bs s) (statements bs ss ++ tail))))

-- THE WHOLE

-- each site of a source stands in it
pub all_stand : (p : Pipe) → All (Stands (places p)) (sites_of p)
all_stand p = stands_all (places p) p.mems (front_of p) (at_start p) [] [] p.body (closing p) (append_assoc (front_of p) (statements [] p.body) (closing p))

-- the flat statements of a source are those of its sites
pub stmts_are : (p : Pipe) → (Flatten.flat p).stmts ≡ owns p.mems (sites_of p)
stmts_are p = sym (owns_all p.mems (front_of p) (at_start p) [] [] p.body)
