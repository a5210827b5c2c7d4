-- Each path of the flat form is a path of the rules: the same branches are taken.
use Rattle.std.proofs.Common.{◌≡◌, refl, sym, ap, ap₂, ◌∙◌, subst, ℕ, ◌+◌, Bool, true, false, ◌&&◌, ◌||◌, not, List, [], ◌∷◌, ◌++◌, length, map, if◌then◌else◌, ◌==◌, slice_index, Some, append_assoc, length-append, eq-eqb}
use Rattle.std.proofs.lemmas.Bool.{false≢true, and_parts, or_parts, or_left, or_right, eqb-true}
use Rattle.std.proofs.lemmas.List.Folds.{list_any-append}
use Rattle.std.specs.List.{list_any, list_all}
use Rattle.pdl_semantics.specs.Tree.{Span, Ident, Stmts, Expr, Constant, Variable, Slice, Not, Binary, Cat, LessSigned, ZeroExtend, SignExtend, Choose, Stmt, If, Param, Mem, Pipe}
use Rattle.pdl_semantics.specs.Flat.{all_hold, takes_branch}
use Rattle.pdl_semantics.specs.Flatten.{var_of}
use Rattle.pdl_semantics.specs.Flatten
use Rattle.pdl_kit.specs.declared.rule.Rule.TheVariants.{N3}
use Rattle.pdl_rules.specs.Places.{Place, Parameter, Memory, Statement, Guard, Shared, Own, Branch, guard_of, same_guard, is_among, same_truth, is_taken, places, guards, statements}
use Rattle.pdl_rules.specs.Names.{is_too_early, some_use}
use Rattle.pdl_rules.specs.Refusal.{KeepsRules}
use Rattle.pdl_source_stages.proofs.Sites
use Rattle.pdl_source_stages.proofs.Sites.{Site, sites_of, front_of, All}
use Rattle.pdl_source_stages.proofs.Walks.{names, names_at, names_append, Named, Choice, its_if, flat_guard, rule_branch, AllChosen}
use Rattle.pdl_source_paths.specs.Source
use Rattle.pdl_source_paths.specs.Source.{begins_at, own_start, is_new, are_apart}
use Rattle.pdl_source_paths.proofs.Choices.{path_of, among_chosen, if_among}
use Rattle.pdl_source_paths.proofs.PathStatements.{Alike}
use Rattle.pdl_source_paths.proofs.Numbers.{place_of, in_stays, var_place}
use Rattle.pdl_source_paths.proofs.Variables.{Here, all_here, After, known, named_is, told_is}
use Rattle.pdl_rules.proofs.EachPlace.{closing}

-- BEHIND THE MEMORIES

abbrev no_statement : Place → Bool
no_statement (Statement s bs) = false
no_statement _ = true

abbrev first_of : Place → List Place → Place
first_of d [] = d
first_of d (x ∷ xs) = x

abbrev rest_of : List Place → List Place
rest_of [] = []
rest_of (x ∷ xs) = xs

split_front : (xs ys hf later : List Place) (s : Stmt) (bs : List Branch)
    → list_all no_statement xs ≡ true → xs ++ ys ≡ hf ++ Statement s bs ∷ later
    → (more : List Place) × (hf ≡ xs ++ more)
split_front [] ys hf later s bs h e = (hf, refl)
split_front (x ∷ xs) ys [] later s bs h e =
    absurd (false≢true (sym (ap (λ l. no_statement (first_of x l)) e) ∙ (and_parts (no_statement x) (list_all no_statement xs) h).0))
split_front (x ∷ xs) ys (y ∷ hf) later s bs h e =
    let rest = split_front xs ys hf later s bs (and_parts (no_statement x) (list_all no_statement xs) h).1 (ap rest_of e) in
    (rest.0, ap₂ (λ a l. a ∷ l) (sym (ap (first_of x) e)) rest.1)

none_params : (ps : List Param) (ms : List Mem) → list_all no_statement (map Parameter ps ++ map Memory ms) ≡ true
none_params [] [] = refl
none_params [] (m ∷ ms) = none_params [] ms
none_params (a ∷ ps) ms = none_params ps ms

-- a statement stands after the parameters and the memories
pub after_of : (p : Pipe) (hf later : List Place) (s : Stmt) (bs : List Branch) → places p ≡ hf ++ Statement s bs ∷ later → After p hf
after_of p hf later s bs e =
    split_front (front_of p) (statements [] p.body ++ closing p) hf later s bs (none_params p.params p.mems)
    (sym (append_assoc (front_of p) (statements [] p.body) (closing p)) ∙ e)

-- THE VALUES OF GUARDS

-- how many variables stand before the `if` on an expression that begins at byte n
abbrev own_at : ℕ → List Place → ℕ
own_at n [] = 0
own_at n (x ∷ xs) = if begins_at n x then 0 else length (names_at x) + own_at n xs

-- the truth values that a path of the flat form gives the guards
abbrev pub value : Pipe → List ℕ → Guard → Bool
value p path (Shared x) = slice_index path (place_of (names (places p)) x) == 1
value p path (Own n) = slice_index path (own_at n (places p)) == 1

own_found : (n : ℕ) (before later : List Place) (x : Place)
    → list_any (begins_at n) before ≡ false → begins_at n x ≡ true
    → own_at n (before ++ x ∷ later) ≡ length (names before)
own_found n [] later x h e = ap (λ b. if b then 0 else length (names_at x) + own_at n later) e
own_found n (y ∷ before) later x h e =
    let parts = or_parts (begins_at n y) (list_any (begins_at n) before) h in
    ap (λ b. if b then 0 else length (names_at y) + own_at n (before ++ x ∷ later)) parts.0
    ∙ ap (λ k. length (names_at y) + k) (own_found n before later x parts.1 e)
    ∙ sym (length-append (names_at y) (names before))

-- what begins at a byte is an `if` with that start
pub starts_there : (n : ℕ) (y : Place) → begins_at n y ≡ true → own_start y ≡ Some n
starts_there n (Statement (If s c when otherwise) bs) e = at (guard_of s c) e
  where
    at : (g : Guard) → same_guard (Own n) g ≡ true → Source.start_of g ≡ Some n
    at (Shared x) f = absurd (false≢true f)
    at (Own m) f = ap Some (sym (eqb-true n m f))
starts_there n _ e = absurd (false≢true e)

-- where `if`s on expressions begin apart, none before the one at byte n begins there too
pub apart_before : (n : ℕ) (before later : List Place) (x : Place)
    → are_apart (before ++ x ∷ later) ≡ true → begins_at n x ≡ true → list_any (begins_at n) before ≡ false
apart_before n [] later x h e = refl
apart_before n (y ∷ before) later x h e =
    let parts = and_parts (is_new (own_start y) (before ++ x ∷ later)) (are_apart (before ++ x ∷ later)) h in
    at (begins_at n y) refl parts.0 (apart_before n before later x parts.1 e)
  where
    among : list_any (begins_at n) (before ++ x ∷ later) ≡ true
    among = list_any-append (begins_at n) before (x ∷ later) ∙ or_right (list_any (begins_at n) before) _ (or_left (begins_at n x) _ e)

    at : (b : Bool) → begins_at n y ≡ b → is_new (own_start y) (before ++ x ∷ later) ≡ true
        → list_any (begins_at n) before ≡ false → (b || list_any (begins_at n) before) ≡ false
    at true f g i = absurd (false≢true (sym (ap not among) ∙ (sym (ap (λ o. is_new o (before ++ x ∷ later)) (starts_there n y f)) ∙ g)))
    at false f g i = i

module _ (p : Pipe) (rules : KeepsRules p) (apart : are_apart (places p) ≡ true) (path : List ℕ) where
  -- the guard of each `if` has the value of its variable
  agrees : (hf later : List Place) (w : Flatten.Position) (bs : List Branch) (s : Span) (c : Expr) (when otherwise : Stmts)
      → places p ≡ hf ++ Statement (If s c when otherwise) bs ∷ later → Named hf w
      → is_among (guard_of s c) (path_of p (value p path)) ≡ (slice_index path (Flatten.guard_of w.vars c) == 1)
  agrees hf later w bs s c when otherwise e named =
      among_chosen (value p path) (guard_of s c) (guards (places p))
      (subst (λ l. is_among (guard_of s c) (guards l) ≡ true) (sym e) (if_among s c when otherwise bs hf later []))
      ∙ at c refl
    where
      own : (d : Expr) → c ≡ d → begins_at s.start (Statement (If s d when otherwise) bs) ≡ true
          → (slice_index path (own_at s.start (places p)) == 1) ≡ (slice_index path (length w.vars) == 1)
      own d same i =
          let e2 = subst (λ (x : Expr). places p ≡ hf ++ Statement (If s x when otherwise) bs ∷ later) same e in
          let none = apart_before s.start hf later (Statement (If s d when otherwise) bs) (subst (λ l. are_apart l ≡ true) e2 apart) i in
          let here = ap (own_at s.start) e2 ∙ own_found s.start hf later (Statement (If s d when otherwise) bs) none i in
          let long : length w.vars ≡ length (names hf) = sym (var_place w.vars []).2 ∙ ap length (sym (told_is w.vars) ∙ named) in
          ap (λ n. slice_index path n == 1) (here ∙ sym long)

      shared : (x : Ident) → c ≡ Variable x → (slice_index path (place_of (names (places p)) x.name) == 1) ≡ (slice_index path (var_of w.vars x.name) == 1)
      shared x same =
          let e2 = subst (λ (d : Expr). places p ≡ hf ++ Statement (If s d when otherwise) bs ∷ later) same e in
          let early = is_too_early p hf (Statement (If s (Variable x) when otherwise) bs) in
          let unused : some_use early (Statement (If s (Variable x) when otherwise) bs) ≡ false =
          rules N3 hf (Statement (If s (Variable x) when otherwise) bs) later e2 in
          let there =
          known p hf w (Statement (If s (Variable x) when otherwise) bs) x.name
          (after_of p hf later (If s (Variable x) when otherwise) bs e2) named unused in
          ap (λ n. slice_index path n == 1)
          (ap (λ l. place_of l x.name) (ap names e2 ∙ names_append hf (Statement (If s (Variable x) when otherwise) bs ∷ later))
          ∙ in_stays (names hf) (names (Statement (If s (Variable x) when otherwise) bs ∷ later)) x.name (sym (named_is hf w x.name named) ∙ there)
          ∙ sym ((var_place w.vars x.name).0 ∙ ap (λ l. place_of l x.name) (sym (told_is w.vars) ∙ named)))

      at : (d : Expr) → c ≡ d → value p path (guard_of s d) ≡ (slice_index path (Flatten.guard_of w.vars d) == 1)
      at (Variable x) same = shared x same
      at (Constant l) same = own (Constant l) same (eq-eqb s.start s.start refl)
      at (Slice x h l) same = own (Slice x h l) same (eq-eqb s.start s.start refl)
      at (Not a) same = own (Not a) same (eq-eqb s.start s.start refl)
      at (Binary o a b) same = own (Binary o a b) same (eq-eqb s.start s.start refl)
      at (Cat a b) same = own (Cat a b) same (eq-eqb s.start s.start refl)
      at (LessSigned a b) same = own (LessSigned a b) same (eq-eqb s.start s.start refl)
      at (ZeroExtend a n) same = own (ZeroExtend a n) same (eq-eqb s.start s.start refl)
      at (SignExtend a n) same = own (SignExtend a n) same (eq-eqb s.start s.start refl)
      at (Choose d a b) same = own (Choose d a b) same (eq-eqb s.start s.start refl)

  branch_alike : (first a b : Bool) (n : ℕ) → a ≡ (n == 1) → takes_branch first n ≡ same_truth first a
  branch_alike true a b n e = sym e
  branch_alike false a b n e = ap not (sym e)

  choices_alike : (front later : List Place) → places p ≡ front ++ later → (hs : List Choice) → AllChosen front hs
      → all_hold (map flat_guard hs) path ≡ list_all (is_taken (path_of p (value p path))) (map rule_branch hs)
  choices_alike front later e [] k = refl
  choices_alike front later e (h ∷ hs) k =
      ap₂ (λ a b. a && b)
      (branch_alike h.truth (is_among (guard_of h.span h.condition) (path_of p (value p path))) true
      (slice_index path (Flatten.guard_of h.walk.vars h.condition))
      (agrees h.front (k.0.0 ++ later) h.walk h.branches h.span h.condition h.when h.otherwise
      (e ∙ ap (λ l. l ++ later) k.0.1 ∙ append_assoc h.front (its_if h ∷ k.0.0) later) k.0.2))
      (choices_alike front later e hs k.1)

  site_alike : (t : Site) → Here p t → Alike path (path_of p (value p path)) t
  site_alike t h =
      ap (λ gs. all_hold gs path) h.at.under.guards_are
      ∙ choices_alike t.front (place_of_site t ∷ h.later) h.whole h.at.under.choices h.at.under.chosen
      ∙ sym (ap (λ bs. list_all (is_taken (path_of p (value p path))) bs) h.at.under.branches_are)
    where
      place_of_site : Site → Place
      place_of_site t = Sites.place_of t

  -- a path of the flat form leads through each site just where the path of the rules with the same truth values does
  pub all_alike : All (Alike path (path_of p (value p path))) (sites_of p)
  all_alike = go (sites_of p) (all_here p)
    where
      go : (ts : List Site) → All (Here p) ts → All (Alike path (path_of p (value p path))) ts
      go [] h = tt
      go (t ∷ ts) h = (site_alike t h.0, go ts h.1)
