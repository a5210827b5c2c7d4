-- What holds at each site of a source: of the stages begun, of the variables' names, and of the choices that it stands under.
use Rattle.std.proofs.Common.{◌≡◌, refl, sym, ap, ap₂, ◌∙◌, ℕ, ◌+◌, Bool, true, false, List, [], ◌∷◌, ◌++◌, map, append_assoc, append-nil, arith, count_by, cond, if◌then◌else◌}
use Rattle.std.proofs.lemmas.List.Sums.{sum_by-append}
use Rattle.std.proofs.lemmas.List.{map_push}
use Rattle.pdl_semantics.specs.Tree.{Span, Expr, Variable, Stmt, Separator, CombRead, Bind, SpecCall, DelayedRead, Write, Reserve, Block, Release, If, Call, Verify, Update, SpecCheck, SpecBarrier, Stmts, Nil, Cons, Param, Mem, Pipe}
use Rattle.pdl_semantics.specs.Flat
use Rattle.pdl_semantics.specs.Flatten.{Var, with_guard, back_in, past, past_all, at_otherwise, under, at_start, params_of, separators_in, separators}
use Rattle.pdl_semantics.specs.Flatten
use Rattle.pdl_rules.specs.Places.{Place, Parameter, Memory, Statement, Branch, with_inner, statements}
use Rattle.pdl_rules.specs.Limits.{is_separator}
use Rattle.pdl_source_stages.proofs.Sites.{branch, sites_in, sites, sites_of, front_of, All, all_append}

-- AN INVARIANT OF THE WALK

module _ (ms : List Mem) (I : List Place → Flatten.Position → List Flat.Guard → List Branch → Type 0)
    (passes : (front : List Place) (w : Flatten.Position) (gs : List Flat.Guard) (bs : List Branch) (s : Stmt)
    → I front w gs bs → I (front ++ with_inner bs s) (past ms s w) gs bs)
    (first : (front : List Place) (w : Flatten.Position) (gs : List Flat.Guard) (bs : List Branch) (sp : Span) (c : Expr) (when otherwise : Stmts)
    → I front w gs bs
    → I (front ++ Statement (If sp c when otherwise) bs ∷ []) (with_guard c w) (under gs w.vars c true) (bs ++ branch sp c true when ∷ []))
    (second : (front : List Place) (w : Flatten.Position) (gs : List Flat.Guard) (bs : List Branch) (sp : Span) (c : Expr) (when otherwise : Stmts)
    → I front w gs bs
    → I (front ++ Statement (If sp c when otherwise) bs ∷ statements (bs ++ branch sp c true when ∷ []) when)
    (at_otherwise ms c when w) (under gs w.vars c false) (bs ++ branch sp c false otherwise ∷ [])) where
  mutual
    -- what holds before a statement holds at each site of it
    pub holds_in : (front : List Place) (w : Flatten.Position) (gs : List Flat.Guard) (bs : List Branch) (s : Stmt)
        → I front w gs bs → All (λ t. I t.front t.walk t.gs t.branches) (sites_in ms front w gs bs s)
    holds_in front w gs bs (If sp c when otherwise) h = (
      h,
      all_append (λ t. I t.front t.walk t.gs t.branches)
          (sites ms (front ++ Statement (If sp c when otherwise) bs ∷ []) (with_guard c w) (under gs w.vars c true) (bs ++ branch sp c true when ∷ []) when) _
          (holds_all (front ++ Statement (If sp c when otherwise) bs ∷ []) (with_guard c w) (under gs w.vars c true)
          (bs ++ branch sp c true when ∷ []) when (first front w gs bs sp c when otherwise h))
          (holds_all (front ++ Statement (If sp c when otherwise) bs ∷ statements (bs ++ branch sp c true when ∷ []) when)
          (at_otherwise ms c when w) (under gs w.vars c false)
          (bs ++ branch sp c false otherwise ∷ []) otherwise (second front w gs bs sp c when otherwise h)),
    )
    holds_in front w gs bs s h = (h, tt)

    -- what holds before a list of statements, and is kept by each statement and into each branch, holds at each site of the list
    pub holds_all : (front : List Place) (w : Flatten.Position) (gs : List Flat.Guard) (bs : List Branch) (ss : Stmts)
        → I front w gs bs → All (λ t. I t.front t.walk t.gs t.branches) (sites ms front w gs bs ss)
    holds_all front w gs bs Nil h = tt
    holds_all front w gs bs (Cons s ss) h =
        all_append (λ t. I t.front t.walk t.gs t.branches) (sites_in ms front w gs bs s) _
        (holds_in front w gs bs s h)
        (holds_all (front ++ with_inner bs s) (past ms s w) gs bs ss (passes front w gs bs s h))

-- STAGES BEGUN

-- as many stages have begun after the guard of an `if` as before it
pub guard_begun : (c : Expr) (w : Flatten.Position) → (with_guard c w).begun ≡ w.begun
guard_begun (Variable x) w = refl
guard_begun _ w = refl

-- the guard of an `if` leaves the walk in its stage
pub guard_stage : (c : Expr) (w : Flatten.Position) → (with_guard c w).stage ≡ w.stage
guard_stage (Variable x) w = refl
guard_stage _ w = refl

mutual
  -- after a statement as many more stages have begun as begin in it
  pub past_begun : (ms : List Mem) (s : Stmt) (w : Flatten.Position) → (past ms s w).begun ≡ w.begun + separators_in s
  past_begun ms (Separator _) w = omega arith
  past_begun ms (If _ c when otherwise) w =
      let f = past_all_begun ms when (with_guard c w) in
      let g = guard_begun c w in
      let h = past_all_begun ms otherwise (back_in w.stage (past_all ms when (with_guard c w))) in
      omega arith
  past_begun ms (CombRead _ x from) w = omega arith
  past_begun ms (Bind _ x e) w = omega arith
  past_begun ms (SpecCall _ x e) w = omega arith
  past_begun ms (DelayedRead _ x from) w = omega arith
  past_begun ms (Write _ x e) w = omega arith
  past_begun ms (Reserve _ x e) w = omega arith
  past_begun ms (Block _ x) w = omega arith
  past_begun ms (Release _ x) w = omega arith
  past_begun ms (Call _ x) w = omega arith
  past_begun ms (Verify _ x e) w = omega arith
  past_begun ms (Update _ x e) w = omega arith
  past_begun ms (SpecCheck _) w = omega arith
  past_begun ms (SpecBarrier _) w = omega arith

  -- after a list of statements as many more stages have begun as begin in it
  pub past_all_begun : (ms : List Mem) (ss : Stmts) (w : Flatten.Position) → (past_all ms ss w).begun ≡ w.begun + separators ss
  past_all_begun ms Nil w = omega arith
  past_all_begun ms (Cons s ss) w =
      let f = past_begun ms s w in
      let g = past_all_begun ms ss (past ms s w) in
      omega arith

-- the separators among places
abbrev pub cut : List Place → ℕ
cut xs = count_by is_separator xs

-- the separators of two lists of places are those of the one and those of the other
pub cut_append : (xs ys : List Place) → cut (xs ++ ys) ≡ cut xs + cut ys
cut_append xs ys = sum_by-append (λ x. cond (is_separator x) 1 0) xs ys

mutual
  -- a statement and what stands inside it have as many separators as stages begin in it
  pub cut_in : (bs : List Branch) (s : Stmt) → cut (with_inner bs s) ≡ separators_in s
  cut_in bs (Separator _) = refl
  cut_in bs (If sp c when otherwise) =
      let f = cut_append (statements (bs ++ branch sp c true when ∷ []) when) (statements (bs ++ branch sp c false otherwise ∷ []) otherwise) in
      let g = cut_all (bs ++ branch sp c true when ∷ []) when in
      let h = cut_all (bs ++ branch sp c false otherwise ∷ []) otherwise in
      let i : cut (with_inner bs (If sp c when otherwise))
      ≡ cut (statements (bs ++ branch sp c true when ∷ []) when ++ statements (bs ++ branch sp c false otherwise ∷ []) otherwise) =
      omega arith in
      omega arith
  cut_in bs _ = refl

  -- the places of a list of statements have as many separators as stages begin in it
  pub cut_all : (bs : List Branch) (ss : Stmts) → cut (statements bs ss) ≡ separators ss
  cut_all bs Nil = refl
  cut_all bs (Cons s ss) =
      let f = cut_append (with_inner bs s) (statements bs ss) in
      let g = cut_in bs s in
      let h = cut_all bs ss in
      omega arith

-- as many stages have begun as separators stand before
abbrev pub Begun : List Place → Flatten.Position → Type 0
Begun front w = w.begun ≡ cut front

-- as many stages have begun after a statement as separators stand before, where it was so at the statement
pub begun_passes : (ms : List Mem) (front : List Place) (w : Flatten.Position) (bs : List Branch) (s : Stmt)
    → Begun front w → Begun (front ++ with_inner bs s) (past ms s w)
begun_passes ms front w bs s h =
    let f = past_begun ms s w in
    let g = cut_append front (with_inner bs s) in
    let i = cut_in bs s in
    omega arith

-- as many stages have begun in an `if`'s first branch as separators stand before, where it was so at the `if`
pub begun_first : (front : List Place) (w : Flatten.Position) (bs : List Branch) (sp : Span) (c : Expr) (when otherwise : Stmts)
    → Begun front w → Begun (front ++ Statement (If sp c when otherwise) bs ∷ []) (with_guard c w)
begun_first front w bs sp c when otherwise h =
    let f = guard_begun c w in
    let g = cut_append front (Statement (If sp c when otherwise) bs ∷ []) in
    let i : cut (Statement (If sp c when otherwise) bs ∷ []) ≡ 0 = refl in
    omega arith

-- as many stages have begun in an `if`'s second branch as separators stand before, where it was so at the `if`
pub begun_second : (ms : List Mem) (front : List Place) (w : Flatten.Position) (bs : List Branch) (sp : Span) (c : Expr)
    (when otherwise : Stmts)
    → Begun front w
    → Begun (front ++ Statement (If sp c when otherwise) bs ∷ statements (bs ++ branch sp c true when ∷ []) when) (at_otherwise ms c when w)
begun_second ms front w bs sp c when otherwise h =
    let f = guard_begun c w in
    let d = past_all_begun ms when (with_guard c w) in
    let g = cut_append front (Statement (If sp c when otherwise) bs ∷ statements (bs ++ branch sp c true when ∷ []) when) in
    let i = cut_all (bs ++ branch sp c true when ∷ []) when in
    let j : cut (Statement (If sp c when otherwise) bs ∷ statements (bs ++ branch sp c true when ∷ []) when)
    ≡ cut (statements (bs ++ branch sp c true when ∷ []) when) =
    omega arith in
    omega arith

-- NAMES OF VARIABLES

-- the names of the variables that a statement alone adds; the guard of an `if` on an expression has none
abbrev pub names_by : Stmt → List (List ℕ)
names_by (CombRead _ x from) = x.name ∷ []
names_by (Bind _ x e) = x.name ∷ []
names_by (DelayedRead _ x from) = x.name ∷ []
names_by (If _ (Variable x) when otherwise) = []
names_by (If _ c when otherwise) = [] ∷ []
names_by _ = []

-- the names of variables that a place alone adds
abbrev pub names_at : Place → List (List ℕ)
names_at (Parameter a) = a.name.name ∷ []
names_at (Statement s bs) = names_by s
names_at _ = []

-- the names of variables that these places add, in order
abbrev pub names : List Place → List (List ℕ)
names [] = []
names (x ∷ xs) = names_at x ++ names xs

-- the names that two lists of places add are those of the one and then those of the other
pub names_append : (xs ys : List Place) → names (xs ++ ys) ≡ names xs ++ names ys
names_append [] ys = refl
names_append (x ∷ xs) ys = ap (λ l. names_at x ++ l) (names_append xs ys) ∙ sym (append_assoc (names_at x) (names xs) (names ys))

-- the names of these variables, in order
abbrev pub told : List Var → List (List ℕ)
told [] = []
told (v ∷ vs) = v.name ∷ told vs

-- the names of two lists of variables are those of the one and then those of the other
pub told_append : (xs ys : List Var) → told (xs ++ ys) ≡ told xs ++ told ys
told_append [] ys = refl
told_append (x ∷ xs) ys = ap (λ l. x.name ∷ l) (told_append xs ys)

told_guard : (sp : Span) (c : Expr) (when otherwise : Stmts) (w : Flatten.Position)
    → told (with_guard c w).vars ≡ told w.vars ++ names_by (If sp c when otherwise)
told_guard sp (Variable x) when otherwise w = sym (append-nil (told w.vars))
told_guard sp _ when otherwise w = told_append w.vars _

mutual
  -- after a statement the variables have the names of those before it, and then the names that its places add
  pub told_past : (ms : List Mem) (bs : List Branch) (s : Stmt) (w : Flatten.Position) → told (past ms s w).vars ≡ told w.vars ++ names (with_inner bs s)
  told_past ms bs (CombRead _ x from) w = told_append w.vars _
  told_past ms bs (Bind _ x e) w = told_append w.vars _
  told_past ms bs (DelayedRead _ x from) w = told_append w.vars _
  told_past ms bs (If sp c when otherwise) w =
      told_past_all ms (bs ++ branch sp c false otherwise ∷ []) otherwise (back_in w.stage (past_all ms when (with_guard c w)))
      ∙ ap (λ l. l ++ names (statements (bs ++ branch sp c false otherwise ∷ []) otherwise))
      (told_past_all ms (bs ++ branch sp c true when ∷ []) when (with_guard c w)
      ∙ ap (λ l. l ++ names (statements (bs ++ branch sp c true when ∷ []) when)) (told_guard sp c when otherwise w))
      ∙ append_assoc (told w.vars ++ names_by (If sp c when otherwise))
      (names (statements (bs ++ branch sp c true when ∷ []) when))
      (names (statements (bs ++ branch sp c false otherwise ∷ []) otherwise))
      ∙ append_assoc (told w.vars) (names_by (If sp c when otherwise))
      (names (statements (bs ++ branch sp c true when ∷ []) when) ++ names (statements (bs ++ branch sp c false otherwise ∷ []) otherwise))
      ∙ ap (λ l. told w.vars ++ (names_by (If sp c when otherwise) ++ l))
      (sym (names_append (statements (bs ++ branch sp c true when ∷ []) when) (statements (bs ++ branch sp c false otherwise ∷ []) otherwise)))
  told_past ms bs _ w = sym (append-nil (told w.vars))

  -- after a list of statements the variables have the names of those before it, and then the names that its places add
  pub told_past_all : (ms : List Mem) (bs : List Branch) (ss : Stmts) (w : Flatten.Position)
      → told (past_all ms ss w).vars ≡ told w.vars ++ names (statements bs ss)
  told_past_all ms bs Nil w = sym (append-nil (told w.vars))
  told_past_all ms bs (Cons s ss) w =
      told_past_all ms bs ss (past ms s w)
      ∙ ap (λ l. l ++ names (statements bs ss)) (told_past ms bs s w)
      ∙ append_assoc (told w.vars) (names (with_inner bs s)) (names (statements bs ss))
      ∙ ap (λ l. told w.vars ++ l) (sym (names_append (with_inner bs s) (statements bs ss)))

-- the variables have the names of the places before
abbrev pub Named : List Place → Flatten.Position → Type 0
Named front w = told w.vars ≡ names front

named_passes : (ms : List Mem) (front : List Place) (w : Flatten.Position) (bs : List Branch) (s : Stmt) → Named front w
    → Named (front ++ with_inner bs s) (past ms s w)
named_passes ms front w bs s h = told_past ms bs s w ∙ ap (λ l. l ++ names (with_inner bs s)) h ∙ sym (names_append front (with_inner bs s))

-- where the variables have the names of the places before an `if`, they have those before its first branch as well
pub named_first : (front : List Place) (w : Flatten.Position) (bs : List Branch) (sp : Span) (c : Expr) (when otherwise : Stmts)
    → Named front w → Named (front ++ Statement (If sp c when otherwise) bs ∷ []) (with_guard c w)
named_first front w bs sp c when otherwise h =
    told_guard sp c when otherwise w
    ∙ ap₂ (λ a b. a ++ b) h (sym (append-nil (names_by (If sp c when otherwise))))
    ∙ sym (names_append front (Statement (If sp c when otherwise) bs ∷ []))

named_second : (ms : List Mem) (front : List Place) (w : Flatten.Position) (bs : List Branch) (sp : Span) (c : Expr)
    (when otherwise : Stmts)
    → Named front w
    → Named (front ++ Statement (If sp c when otherwise) bs ∷ statements (bs ++ branch sp c true when ∷ []) when) (at_otherwise ms c when w)
named_second ms front w bs sp c when otherwise h =
    told_past_all ms (bs ++ branch sp c true when ∷ []) when (with_guard c w)
    ∙ ap (λ l. l ++ names (statements (bs ++ branch sp c true when ∷ []) when)) (named_first front w bs sp c when otherwise h)
    ∙ sym (names_append (front ++ Statement (If sp c when otherwise) bs ∷ []) (statements (bs ++ branch sp c true when ∷ []) when))
    ∙ ap names (append_assoc front (Statement (If sp c when otherwise) bs ∷ []) (statements (bs ++ branch sp c true when ∷ []) when))

-- CHOICES

-- a branch of an `if` that something stands in: the `if` with what stands before it
pub record Choice : Type 0 where
  pub front : List Place
  pub walk : Flatten.Position
  pub branches : List Branch
  pub span : Span
  pub condition : Expr
  pub when : Stmts
  pub otherwise : Stmts
  pub truth : Bool

-- the place of a choice's `if`
abbrev pub its_if : Choice → Place
its_if h = Statement (If h.span h.condition h.when h.otherwise) h.branches

abbrev its_inside : Choice → Stmts
its_inside h = if h.truth then h.when else h.otherwise

-- the guard of the flat form, and the branch of the rules
abbrev pub flat_guard : Choice → Flat.Guard
flat_guard h = record { var = Flatten.guard_of h.walk.vars h.condition; first = h.truth }

-- the branch of the rules in which what makes this choice stands
abbrev pub rule_branch : Choice → Branch
rule_branch h = branch h.span h.condition h.truth (its_inside h)

-- the `if` stands before, and the variables before it have the names of the places before it
abbrev pub Chosen : List Place → Choice → Type 0
Chosen front h = (later : List Place) × (front ≡ h.front ++ its_if h ∷ later) × Named h.front h.walk

-- `Chosen` holds of each of these choices
abbrev pub AllChosen : List Place → List Choice → Type 0
AllChosen front [] = Unit {0}
AllChosen front (h ∷ hs) = Chosen front h × AllChosen front hs

-- each `if` stands in the branches of those before it
abbrev pub Nested : List Branch → List Choice → Type 0
Nested bs [] = Unit {0}
Nested bs (h ∷ hs) = (h.branches ≡ bs) × Nested (bs ++ rule_branch h ∷ []) hs

-- guards and branches are those of the same choices
pub record Under (front : List Place) (gs : List Flat.Guard) (bs : List Branch) : Type 0 where
  pub choices : List Choice
  pub guards_are : gs ≡ map flat_guard choices
  pub branches_are : bs ≡ map rule_branch choices
  pub chosen : AllChosen front choices
  pub nested : Nested [] choices

chosen_more : (front more : List Place) (hs : List Choice) → AllChosen front hs → AllChosen (front ++ more) hs
chosen_more front more [] h = tt
chosen_more front more (x ∷ xs) h = (
  (h.0.0 ++ more, ap (λ l. l ++ more) h.0.1 ∙ append_assoc x.front (its_if x ∷ h.0.0) more, h.0.2),
  chosen_more front more xs h.1,
)

chosen_push : (front : List Place) (hs : List Choice) (x : Choice) → AllChosen front hs → Chosen front x → AllChosen front (hs ++ x ∷ [])
chosen_push front [] x h k = (k, tt)
chosen_push front (y ∷ ys) x h k = (h.0, chosen_push front ys x h.1 k)

under_more : (front more : List Place) (gs : List Flat.Guard) (bs : List Branch) → Under front gs bs → Under (front ++ more) gs bs
under_more front more gs bs u =
    record {
      choices = u.choices;
      guards_are = u.guards_are;
      branches_are = u.branches_are;
      chosen = chosen_more front more u.choices u.chosen;
      nested = u.nested;
    }

nested_push : (bs : List Branch) (hs : List Choice) (x : Choice) → Nested bs hs
    → x.branches ≡ bs ++ map rule_branch hs → Nested bs (hs ++ x ∷ [])
nested_push bs [] x h e = (e ∙ append-nil bs, tt)
nested_push bs (y ∷ ys) x h e = (h.0, nested_push (bs ++ rule_branch y ∷ []) ys x h.1 (e ∙ sym (append_assoc bs (rule_branch y ∷ []) (map rule_branch ys))))

under_push : (front : List Place) (gs : List Flat.Guard) (bs : List Branch) (x : Choice) → Under front gs bs
    → Chosen front x → x.branches ≡ bs → Under front (gs ++ flat_guard x ∷ []) (bs ++ rule_branch x ∷ [])
under_push front gs bs x u k e = record {
  choices = u.choices ++ x ∷ [];
  guards_are = ap (λ l. l ++ flat_guard x ∷ []) u.guards_are ∙ sym (map_push flat_guard u.choices x);
  branches_are = ap (λ l. l ++ rule_branch x ∷ []) u.branches_are ∙ sym (map_push rule_branch u.choices x);
  chosen = chosen_push front u.choices x u.chosen k;
  nested = nested_push [] u.choices x u.nested (e ∙ u.branches_are);
}

-- ALL TOGETHER

-- what holds at each site: the places before it tell how many stages have begun, which variables there are, and which guards
pub record At (front : List Place) (w : Flatten.Position) (gs : List Flat.Guard) (bs : List Branch) : Type 0 where
  pub begun : Begun front w
  pub named : Named front w
  pub under : Under front gs bs

at_passes : (ms : List Mem) (front : List Place) (w : Flatten.Position) (gs : List Flat.Guard) (bs : List Branch) (s : Stmt)
    → At front w gs bs → At (front ++ with_inner bs s) (past ms s w) gs bs
at_passes ms front w gs bs s h = record {
  begun = begun_passes ms front w bs s h.begun;
  named = named_passes ms front w bs s h.named;
  under = under_more front (with_inner bs s) gs bs h.under;
}

at_first : (front : List Place) (w : Flatten.Position) (gs : List Flat.Guard) (bs : List Branch) (sp : Span) (c : Expr)
    (when otherwise : Stmts)
    → At front w gs bs
    → At (front ++ Statement (If sp c when otherwise) bs ∷ []) (with_guard c w) (under gs w.vars c true) (bs ++ branch sp c true when ∷ [])
at_first front w gs bs sp c when otherwise h = record {
  begun = begun_first front w bs sp c when otherwise h.begun;
  named = named_first front w bs sp c when otherwise h.named;
  under =
      under_push (front ++ Statement (If sp c when otherwise) bs ∷ []) gs bs
      (record { front = front; walk = w; branches = bs; span = sp; condition = c; when = when; otherwise = otherwise; truth = true })
      (under_more front (Statement (If sp c when otherwise) bs ∷ []) gs bs h.under)
      ([], refl, h.named) refl;
}

at_second : (ms : List Mem) (front : List Place) (w : Flatten.Position) (gs : List Flat.Guard) (bs : List Branch)
    (sp : Span) (c : Expr) (when otherwise : Stmts)
    → At front w gs bs
    → At (front ++ Statement (If sp c when otherwise) bs ∷ statements (bs ++ branch sp c true when ∷ []) when)
    (at_otherwise ms c when w) (under gs w.vars c false) (bs ++ branch sp c false otherwise ∷ [])
at_second ms front w gs bs sp c when otherwise h = record {
  begun = begun_second ms front w bs sp c when otherwise h.begun;
  named = named_second ms front w bs sp c when otherwise h.named;
  under =
      under_push (front ++ Statement (If sp c when otherwise) bs ∷ statements (bs ++ branch sp c true when ∷ []) when) gs bs
      (record { front = front; walk = w; branches = bs; span = sp; condition = c; when = when; otherwise = otherwise; truth = false })
      (under_more front (Statement (If sp c when otherwise) bs ∷ statements (bs ++ branch sp c true when ∷ []) when) gs bs h.under)
      (statements (bs ++ branch sp c true when ∷ []) when, refl, h.named) refl;
}

-- before the statements
front_named : (p : Pipe) → Named (front_of p) (at_start p)
front_named p =
    of_params p.params
    ∙ sym
    (names_append (map Parameter p.params) (map Memory p.mems)
    ∙ ap (λ l. names (map Parameter p.params) ++ l) (of_mems p.mems) ∙ append-nil (names (map Parameter p.params)))
  where
    of_params : (xs : List Param) → told (params_of xs) ≡ names (map Parameter xs)
    of_params [] = refl
    of_params (x ∷ xs) = ap (λ l. x.name.name ∷ l) (of_params xs)

    of_mems : (xs : List Mem) → names (map Memory xs) ≡ []
    of_mems [] = refl
    of_mems (x ∷ xs) = of_mems xs

front_cut : (p : Pipe) → cut (front_of p) ≡ 0
front_cut p =
    let f = cut_append (map Parameter p.params) (map Memory p.mems) in
    let g = of_params p.params in
    let h = of_mems p.mems in
    omega arith
  where
    of_params : (xs : List Param) → cut (map Parameter xs) ≡ 0
    of_params [] = refl
    of_params (x ∷ xs) = of_params xs

    of_mems : (xs : List Mem) → cut (map Memory xs) ≡ 0
    of_mems [] = refl
    of_mems (x ∷ xs) = of_mems xs

-- `At` holds before the first statement of a source
pub at_front : (p : Pipe) → At (front_of p) (at_start p) [] []
at_front p = record {
  begun = sym (front_cut p);
  named = front_named p;
  under = record { choices = []; guards_are = refl; branches_are = refl; chosen = tt; nested = tt };
}

-- each site of a source is so
pub all_at : (p : Pipe) → All (λ t. At t.front t.walk t.gs t.branches) (sites_of p)
all_at p = holds_all p.mems At (at_passes p.mems) at_first (at_second p.mems) (front_of p) (at_start p) [] [] p.body (at_front p)
