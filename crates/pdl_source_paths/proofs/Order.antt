-- On a path the sites stand in the order of their stages, and each separator begins a later one.
use Rattle.std.proofs.Common.{◌≡◌, refl, sym, ap, ◌∙◌, subst, ℕ, suc, ◌+◌, ◌≤◌, ◌⊎◌, inl, inr, Bool, true, false, ◌&&◌, ◌||◌, not, List, [], ◌∷◌, ◌++◌, cond, if◌then◌else◌, arith}
use Rattle.std.proofs.lemmas.Bool.{false≢true, and_parts, eqb-true}
use Rattle.std.proofs.lemmas.List.Folds.{list_all-append}
use Rattle.std.specs.List.{list_all}
use Rattle.pdl_semantics.specs.Tree.{Span, Expr, Stmt, Separator, If, Stmts, Nil, Cons, Mem, Pipe}
use Rattle.pdl_semantics.specs.Flat
use Rattle.pdl_semantics.specs.Flatten.{at_start, with_guard, past, past_all, at_otherwise, under, separators_in, separators}
use Rattle.pdl_semantics.specs.Flatten
use Rattle.pdl_rules.specs.Places.{Place, Statement, Guard, Branch, guard_of, is_among, is_taken, with_inner, statements, on_path}
use Rattle.pdl_rules.specs.Limits.{is_separator}
use Rattle.pdl_source_stages.proofs.Sites
use Rattle.pdl_source_stages.proofs.Sites.{Site, branch, sites_in, sites, sites_of, front_of, place_of, All}
use Rattle.pdl_source_stages.proofs.Walks.{holds_all, guard_stage, guard_begun, past_begun, past_all_begun}
use Rattle.pdl_source_stages.proofs.Shapes.{is_whole, is_forked, is_late, begins_stage, late_forked}
use Rattle.pdl_source_paths.proofs.PathStatements.{on_sites}

-- after stage k, which a separator leaves after
abbrev pub Next : Bool → ℕ → ℕ → (ℕ → Type 0) → Type 0
Next true k s R = R (suc k)
Next false k s R = (k ≤ s) × R s

-- these sites stand in stages from k to `end`, in their order, and in later ones after each separator
abbrev pub Rises : ℕ → List Site → ℕ → Type 0
Rises k [] end = k ≤ end
Rises k (t ∷ ts) end = Next (is_separator (place_of t)) k t.walk.stage (λ n. Rises n ts end)

-- sites that rise from a stage on rise from each stage before it on too
pub rises_from : (k l end : ℕ) (ts : List Site) → k ≤ l → Rises l ts end → Rises k ts end
rises_from k l end [] h i = omega arith
rises_from k l end (t ∷ ts) h i = at (is_separator (place_of t)) i (λ j. rises_from (suc k) (suc l) end ts (omega arith) j)
  where
    at : (b : Bool) → Next b l t.walk.stage (λ n. Rises n ts end) → (Rises (suc l) ts end → Rises (suc k) ts end) → Next b k t.walk.stage (λ n. Rises n ts end)
    at true j f = f j
    at false j f = (let m : l ≤ t.walk.stage = j.0 in omega arith, j.1)

rises_append : (k l end : ℕ) (xs ys : List Site) → Rises k xs l → Rises l ys end → Rises k (xs ++ ys) end
rises_append k l end [] ys h i = rises_from k l end ys h i
rises_append k l end (x ∷ xs) ys h i = at (is_separator (place_of x)) h (λ n j. rises_append n l end xs ys j i)
  where
    at : (b : Bool) → Next b k x.walk.stage (λ n. Rises n xs l) → ((n : ℕ) → Rises n xs l → Rises n (xs ++ ys) end)
        → Next b k x.walk.stage (λ n. Rises n (xs ++ ys) end)
    at true j f = f (suc k) j
    at false j f = (j.0, f x.walk.stage j.1)

on_append : (c : List Guard) (xs ys : List Site) → on_sites c (xs ++ ys) ≡ on_sites c xs ++ on_sites c ys
on_append c [] ys = refl
on_append c (x ∷ xs) ys = at (on_path c (place_of x)) (on_append c xs ys)
  where
    at : (b : Bool) → on_sites c (xs ++ ys) ≡ on_sites c xs ++ on_sites c ys
        → cond b (x ∷ on_sites c (xs ++ ys)) (on_sites c (xs ++ ys)) ≡ cond b (x ∷ on_sites c xs) (on_sites c xs) ++ on_sites c ys
    at true e = ap (λ l. x ∷ l) e
    at false e = e

-- one site, on the path or not
one_on : (c : List Guard) (k s : ℕ) (t : Site)
    → k ≤ s → t.walk.stage ≡ s → is_separator (place_of t) ≡ false → Rises k (on_sites c (t ∷ [])) s
one_on c k s t h e f = at (on_path c (place_of t))
  where
    here : (b : Bool) → is_separator (place_of t) ≡ b → b ≡ false → Next b k t.walk.stage (λ n. Rises n [] s)
    here true g i = absurd (cc i)
    here false g i = (omega arith, omega arith)

    at : (b : Bool) → Rises k (if b then t ∷ [] else []) s
    at true = here (is_separator (place_of t)) refl f
    at false = h

-- WITHOUT SEPARATORS

none_left : (a b : ℕ) → a + b ≡ 0 → (a ≡ 0) × (b ≡ 0)
none_left a b h = (omega arith, omega arith)

module _ (ms : List Mem) (c : List Guard) where
  mutual
    flat_in : (front : List Place) (w : Flatten.Position) (gs : List Flat.Guard) (bs : List Branch) (s : Stmt)
        → separators_in s ≡ 0 → Rises w.stage (on_sites c (sites_in ms front w gs bs s)) w.stage
    flat_in front w gs bs (Separator sp) h = absurd (omega arith)
    flat_in front w gs bs (If sp e when otherwise) h =
        let none = none_left (separators when) (separators otherwise) h in
        subst (λ l. Rises w.stage l w.stage)
        (sym
        (on_append c (Sites.site front w gs bs (If sp e when otherwise) ∷ []) (xs ++ ys)
        ∙ ap (λ l. on_sites c (Sites.site front w gs bs (If sp e when otherwise) ∷ []) ++ l) (on_append c xs ys)))
        (rises_append w.stage w.stage w.stage (on_sites c (Sites.site front w gs bs (If sp e when otherwise) ∷ [])) (on_sites c xs ++ on_sites c ys)
        (one_on c w.stage w.stage (Sites.site front w gs bs (If sp e when otherwise)) (omega arith) refl refl)
        (rises_append w.stage w.stage w.stage (on_sites c xs) (on_sites c ys)
        (subst (λ s. Rises s (on_sites c xs) s) (guard_stage e w)
        (flat_all (front ++ Statement (If sp e when otherwise) bs ∷ []) (with_guard e w) (under gs w.vars e true)
        (bs ++ branch sp e true when ∷ []) when none.0))
        (flat_all (front ++ Statement (If sp e when otherwise) bs ∷ statements (bs ++ branch sp e true when ∷ []) when)
        (at_otherwise ms e when w) (under gs w.vars e false)
        (bs ++ branch sp e false otherwise ∷ []) otherwise none.1)))
      where
        xs : List Site
        xs = sites ms (front ++ Statement (If sp e when otherwise) bs ∷ []) (with_guard e w) (under gs w.vars e true) (bs ++ branch sp e true when ∷ []) when

        ys : List Site
        ys =
            sites ms (front ++ Statement (If sp e when otherwise) bs ∷ statements (bs ++ branch sp e true when ∷ []) when)
            (at_otherwise ms e when w) (under gs w.vars e false) (bs ++ branch sp e false otherwise ∷ []) otherwise
    flat_in front w gs bs s h = one_on c w.stage w.stage (Sites.site front w gs bs s) (omega arith) refl refl

    flat_all : (front : List Place) (w : Flatten.Position) (gs : List Flat.Guard) (bs : List Branch) (ss : Stmts)
        → separators ss ≡ 0 → Rises w.stage (on_sites c (sites ms front w gs bs ss)) w.stage
    flat_all front w gs bs Nil h = omega arith
    flat_all front w gs bs (Cons s ss) h =
        let none = none_left (separators_in s) (separators ss) h in
        subst (λ l. Rises w.stage l w.stage) (sym (on_append c (sites_in ms front w gs bs s) (sites ms (front ++ with_inner bs s) (past ms s w) gs bs ss)))
        (rises_append w.stage w.stage w.stage (on_sites c (sites_in ms front w gs bs s))
        (on_sites c (sites ms (front ++ with_inner bs s) (past ms s w) gs bs ss))
        (flat_in front w gs bs s none.0)
        (subst (λ k. Rises k (on_sites c (sites ms (front ++ with_inner bs s) (past ms s w) gs bs ss)) k)
        (same s none.0) (flat_all (front ++ with_inner bs s) (past ms s w) gs bs ss none.1)))
      where
        same : (x : Stmt) → separators_in x ≡ 0 → (past ms x w).stage ≡ w.stage
        same (Separator sp) i = absurd (omega arith)
        same _ i = refl

-- BRANCHES

-- nothing of a branch that isn't taken stands on the path
off : (ms : List Mem) (c : List Guard) (front : List Place) (w : Flatten.Position) (gs : List Flat.Guard) (bs : List Branch) (ss : Stmts)
    → list_all (is_taken c) bs ≡ false → on_sites c (sites ms front w gs bs ss) ≡ []
off ms c front w gs bs ss h =
    none (sites ms front w gs bs ss)
    (holds_all ms (λ front w gs bs. list_all (is_taken c) bs ≡ false) (λ front w gs bs s i. i)
    (λ front w gs bs sp e when otherwise i. list_all-append (is_taken c) bs (branch sp e true when ∷ [])
    ∙ ap (λ b. b && (is_taken c (branch sp e true when) && true)) i)
    (λ front w gs bs sp e when otherwise i. list_all-append (is_taken c) bs (branch sp e false otherwise ∷ [])
    ∙ ap (λ b. b && (is_taken c (branch sp e false otherwise) && true)) i)
    front w gs bs ss h)
  where
    none : (ts : List Site) → All (λ t. list_all (is_taken c) t.branches ≡ false) ts → on_sites c ts ≡ []
    none [] h = refl
    none (t ∷ ts) h = ap (λ b. if b then t ∷ on_sites c ts else on_sites c ts) h.0 ∙ none ts h.1

-- one of the two branches isn't taken
one_off : (c : List Guard) (sp : Span) (e : Expr) (when otherwise : Stmts) (bs : List Branch)
    → (list_all (is_taken c) (bs ++ branch sp e true when ∷ []) ≡ false) ⊎ (list_all (is_taken c) (bs ++ branch sp e false otherwise ∷ []) ≡ false)
one_off c sp e when otherwise bs = at (is_among (guard_of sp e) c) refl
  where
    no_more : (a : Bool) → (a && false) ≡ false
    no_more true = refl
    no_more false = refl

    at : (b : Bool) → is_among (guard_of sp e) c ≡ b
        → (list_all (is_taken c) (bs ++ branch sp e true when ∷ []) ≡ false) ⊎ (list_all (is_taken c) (bs ++ branch sp e false otherwise ∷ []) ≡ false)
    at true h =
        inr
        (list_all-append (is_taken c) bs (branch sp e false otherwise ∷ [])
        ∙ ap (λ b. list_all (is_taken c) bs && (not b && true)) h ∙ no_more (list_all (is_taken c) bs))
    at false h =
        inl
        (list_all-append (is_taken c) bs (branch sp e true when ∷ [])
        ∙ ap (λ b. list_all (is_taken c) bs && (b && true)) h ∙ no_more (list_all (is_taken c) bs))

module _ (ms : List Mem) (c : List Guard) where
  -- a statement that begins no stage, and others after it
  flat_then : (k end : ℕ) (front : List Place) (w : Flatten.Position) (gs : List Flat.Guard) (bs : List Branch) (s : Stmt) (ss : Stmts)
      → separators_in s ≡ 0 → k ≤ w.stage
      → Rises w.stage (on_sites c (sites ms (front ++ with_inner bs s) (past ms s w) gs bs ss)) end
      → Rises k (on_sites c (sites ms front w gs bs (Cons s ss))) end
  flat_then k end front w gs bs s ss h low rest =
      subst (λ l. Rises k l end) (sym (on_append c (sites_in ms front w gs bs s) (sites ms (front ++ with_inner bs s) (past ms s w) gs bs ss)))
      (rises_append k w.stage end (on_sites c (sites_in ms front w gs bs s)) (on_sites c (sites ms (front ++ with_inner bs s) (past ms s w) gs bs ss))
      (rises_from k w.stage w.stage (on_sites c (sites_in ms front w gs bs s)) low (flat_in ms c front w gs bs s h)) rest)

  -- a separator
  cut_then : (k end : ℕ) (front : List Place) (w : Flatten.Position) (gs : List Flat.Guard) (bs : List Branch) (sp : Span) (ss : Stmts)
      → Rises (suc k) (on_sites c (sites ms (front ++ Statement (Separator sp) bs ∷ []) (past ms (Separator sp) w) gs bs ss)) end
      → Rises k (on_sites c (sites ms front w gs bs (Cons (Separator sp) ss))) end
  cut_then k end front w gs bs sp ss rest = at (on_path c (Statement (Separator sp) bs))
    where
      at : (b : Bool)
          → Rises k
          (if b
          then Sites.site front w gs bs (Separator sp) ∷ on_sites c (sites ms (front ++ Statement (Separator sp) bs ∷ []) (past ms (Separator sp) w) gs bs ss)
          else on_sites c (sites ms (front ++ Statement (Separator sp) bs ∷ []) (past ms (Separator sp) w) gs bs ss)) end
      at true = rest
      at false =
          rises_from k (suc k) end (on_sites c (sites ms (front ++ Statement (Separator sp) bs ∷ []) (past ms (Separator sp) w) gs bs ss)) (omega arith) rest

  -- statements in form: where a fork stands before, a separator follows
  abbrev Ready : ℕ → Flatten.Position → Stmts → Type 0
  Ready k w ss = (k ≤ w.stage) ⊎ ((k ≤ w.begun) × (begins_stage ss ≡ true))

  low_begun : (k : ℕ) (w : Flatten.Position) (ss : Stmts) → Ready k w ss → w.stage ≤ w.begun → k ≤ w.begun
  low_begun k w ss (inl h) up = omega arith
  low_begun k w ss (inr h) up = h.0

  low_stage : (k : ℕ) (w : Flatten.Position) (ss : Stmts) → Ready k w ss → begins_stage ss ≡ false → k ≤ w.stage
  low_stage k w ss (inl h) e = h
  low_stage k w ss (inr h) e = absurd (false≢true (sym e ∙ h.1))

  -- the branches of a fork
  branch_rises : (front : List Place) (w : Flatten.Position) (gs : List Flat.Guard) (bs : List Branch) (sp : Span) (e : Expr) (when otherwise : Stmts)
      → Rises w.stage
      (on_sites c (sites ms (front ++ Statement (If sp e when otherwise) bs ∷ []) (with_guard e w) (under gs w.vars e true)
      (bs ++ branch sp e true when ∷ []) when))
      (past_all ms when (with_guard e w)).begun
      → Rises w.stage
      (on_sites c
      (sites ms (front ++ Statement (If sp e when otherwise) bs ∷ statements (bs ++ branch sp e true when ∷ []) when)
      (at_otherwise ms e when w) (under gs w.vars e false) (bs ++ branch sp e false otherwise ∷ []) otherwise))
      (past ms (If sp e when otherwise) w).begun
      → Rises w.stage (on_sites c (sites_in ms front w gs bs (If sp e when otherwise))) (past ms (If sp e when otherwise) w).begun
  branch_rises front w gs bs sp e when otherwise first second =
      subst (λ l. Rises w.stage l end)
      (sym
      (on_append c (Sites.site front w gs bs (If sp e when otherwise) ∷ []) (xs ++ ys)
      ∙ ap (λ l. on_sites c (Sites.site front w gs bs (If sp e when otherwise) ∷ []) ++ l) (on_append c xs ys)))
      (rises_append w.stage w.stage end (on_sites c (Sites.site front w gs bs (If sp e when otherwise) ∷ [])) (on_sites c xs ++ on_sites c ys)
      (one_on c w.stage w.stage (Sites.site front w gs bs (If sp e when otherwise)) (omega arith) refl refl)
      (by (one_off c sp e when otherwise bs)))
    where
      xs : List Site
      xs = sites ms (front ++ Statement (If sp e when otherwise) bs ∷ []) (with_guard e w) (under gs w.vars e true) (bs ++ branch sp e true when ∷ []) when

      ys : List Site
      ys =
          sites ms (front ++ Statement (If sp e when otherwise) bs ∷ statements (bs ++ branch sp e true when ∷ []) when)
          (at_otherwise ms e when w) (under gs w.vars e false) (bs ++ branch sp e false otherwise ∷ []) otherwise

      end : ℕ
      end = (past ms (If sp e when otherwise) w).begun

      high : (past_all ms when (with_guard e w)).begun ≤ end
      high = let f = past_all_begun ms otherwise (at_otherwise ms e when w) in omega arith

      by : (list_all (is_taken c) (bs ++ branch sp e true when ∷ []) ≡ false) ⊎ (list_all (is_taken c) (bs ++ branch sp e false otherwise ∷ []) ≡ false)
          → Rises w.stage (on_sites c xs ++ on_sites c ys) end
      by (inl f) =
          subst (λ l. Rises w.stage (l ++ on_sites c ys) end)
          (sym
          (off ms c (front ++ Statement (If sp e when otherwise) bs ∷ []) (with_guard e w) (under gs w.vars e true)
          (bs ++ branch sp e true when ∷ []) when f)) second
      by (inr f) =
          rises_append w.stage (past_all ms when (with_guard e w)).begun end (on_sites c xs) (on_sites c ys) first
          (subst (λ l. Rises (past_all ms when (with_guard e w)).begun l end)
          (sym
          (off ms c (front ++ Statement (If sp e when otherwise) bs ∷ statements (bs ++ branch sp e true when ∷ []) when)
          (at_otherwise ms e when w) (under gs w.vars e false)
          (bs ++ branch sp e false otherwise ∷ []) otherwise f)) high)

  forked_rises : (k : ℕ) (front : List Place) (w : Flatten.Position) (gs : List Flat.Guard) (bs : List Branch) (ss : Stmts) → is_forked ss ≡ true → Ready k w ss
      → w.stage ≤ w.begun → Rises k (on_sites c (sites ms front w gs bs ss)) (past_all ms ss w).begun
  forked_rises k front w gs bs Nil h low up = low_begun k w Nil low up
  forked_rises k front w gs bs (Cons (Separator sp) ss) h low up =
      cut_then k (past_all ms ss (past ms (Separator sp) w)).begun front w gs bs sp ss
      (forked_rises (suc k) (front ++ Statement (Separator sp) bs ∷ [])
      (past ms (Separator sp) w) gs bs ss h (inl (let i = low_begun k w (Cons (Separator sp) ss) low up in omega arith))
      (omega arith))
  forked_rises k front w gs bs (Cons (If sp e when otherwise) ss) h low up =
      let parts = and_parts (is_whole when otherwise || (begins_stage ss && (is_late when && is_late otherwise))) (is_forked ss) h in
      let f = past_begun ms (If sp e when otherwise) w in
      by (is_whole when otherwise) refl parts.0 (low_stage k w (Cons (If sp e when otherwise) ss) low refl)
      (λ i. forked_rises w.stage (front ++ Statement (If sp e when otherwise) bs ∷ []) (with_guard e w)
      (under gs w.vars e true) (bs ++ branch sp e true when ∷ []) when (late_forked when i)
      (inl (let a = guard_stage e w in omega arith)) (let a = guard_stage e w in let b = guard_begun e w in omega arith))
      (λ i. forked_rises w.stage (front ++ Statement (If sp e when otherwise) bs ∷ statements (bs ++ branch sp e true when ∷ []) when)
      (at_otherwise ms e when w) (under gs w.vars e false)
      (bs ++ branch sp e false otherwise ∷ []) otherwise (late_forked otherwise i)
      (inl (let j : w.stage ≤ w.stage = omega arith in j))
      (let a = past_all_begun ms when (with_guard e w) in let b = guard_begun e w in omega arith))
      (λ l r. forked_rises l (front ++ with_inner bs (If sp e when otherwise)) (past ms (If sp e when otherwise) w) gs bs ss parts.1 r (omega arith))
    where
      w2 : Flatten.Position
      w2 = past ms (If sp e when otherwise) w

      rest : List Site
      rest = on_sites c (sites ms (front ++ with_inner bs (If sp e when otherwise)) w2 gs bs ss)

      by : (b : Bool) → is_whole when otherwise ≡ b → (b || (begins_stage ss && (is_late when && is_late otherwise))) ≡ true → k ≤ w.stage
          → (is_late when ≡ true → Rises w.stage
          (on_sites c (sites ms (front ++ Statement (If sp e when otherwise) bs ∷ []) (with_guard e w) (under gs w.vars e true)
          (bs ++ branch sp e true when ∷ []) when))
          (past_all ms when (with_guard e w)).begun)
          → (is_late otherwise ≡ true → Rises w.stage
          (on_sites c
          (sites ms (front ++ Statement (If sp e when otherwise) bs ∷ statements (bs ++ branch sp e true when ∷ []) when)
          (at_otherwise ms e when w) (under gs w.vars e false) (bs ++ branch sp e false otherwise ∷ []) otherwise))
          (past ms (If sp e when otherwise) w).begun)
          → ((l : ℕ) → Ready l w2 ss → Rises l rest (past_all ms ss w2).begun)
          → Rises k (on_sites c (sites ms front w gs bs (Cons (If sp e when otherwise) ss))) (past_all ms ss w2).begun
      by true i fits lo one two go =
          flat_then k (past_all ms ss w2).begun front w gs bs
          (If sp e when otherwise) ss (eqb-true (separators when + separators otherwise) 0 i) lo
          (go w.stage (inl (let j : w.stage ≤ w.stage = omega arith in j)))
      by false i fits lo one two go =
          let parts = and_parts (begins_stage ss) (is_late when && is_late otherwise) fits in
          let late = and_parts (is_late when) (is_late otherwise) parts.1 in
          subst (λ l. Rises k l (past_all ms ss w2).begun)
          (sym (on_append c (sites_in ms front w gs bs (If sp e when otherwise)) (sites ms (front ++ with_inner bs (If sp e when otherwise)) w2 gs bs ss)))
          (rises_append k w2.begun (past_all ms ss w2).begun (on_sites c (sites_in ms front w gs bs (If sp e when otherwise))) rest
          (rises_from k w.stage w2.begun (on_sites c (sites_in ms front w gs bs (If sp e when otherwise))) lo
          (branch_rises front w gs bs sp e when otherwise (one late.0) (two late.1)))
          (go w2.begun (inr ((let j : w2.begun ≤ w2.begun = omega arith in j), parts.0))))
  forked_rises k front w gs bs (Cons s ss) h low up =
      flat_then k (past_all ms ss (past ms s w)).begun front w gs bs s ss refl (low_stage k w (Cons s ss) low refl)
      (forked_rises w.stage (front ++ with_inner bs s) (past ms s w) gs bs ss h (inl (let i : w.stage ≤ w.stage = omega arith in i)) up)

-- each path of a source whose forks are in form
pub all_rise : (p : Pipe) (c : List Guard)
    → is_forked p.body ≡ true → Rises 0 (on_sites c (sites_of p)) (past_all p.mems p.body (at_start p)).begun
all_rise p c h = forked_rises p.mems c 0 (front_of p) (at_start p) [] [] p.body h (inl (let i : 0 ≤ 0 = omega arith in i)) (let i : 0 ≤ 0 = omega arith in i)
