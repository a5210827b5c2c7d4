-- The paths of the rules: each choice of truth values for the guards of a text is one of them, and what no path breaks holds of the places on that one.
use Rattle.std.proofs.Common.{◌≡◌, refl, sym, ap, ap₂, ◌∙◌, Bool, true, false, ◌&&◌, ◌||◌, List, [], ◌∷◌, ◌++◌, map, filter, fold, if◌then◌else◌, ◌⊎◌, ⊎_elim}
use Rattle.std.proofs.lemmas.Bool.{false≢true, or_parts, or_left, or_right, cases_Bool, both_ways}
use Rattle.std.proofs.lemmas.List.Folds.{list_any-append}
use Rattle.std.specs.List.{list_any}
use Rattle.pdl_semantics.specs.Tree.{Span, Expr, Stmts, If, Pipe}
use Rattle.pdl_rules.specs.Places.{Place, Statement, Guard, Branch, guard_of, same_guard, is_among, places, with_guard, guards, choices, on_path, on_some_path}
use Rattle.pdl_rules.proofs.Guards.{guard_refl, guard_same}

-- GUARDS

-- the guards that have the value true
abbrev pub chosen : (Guard → Bool) → List Guard → List Guard
chosen v [] = []
chosen v (g ∷ gs) = if v g then g ∷ chosen v gs else chosen v gs

-- of the guards of a text those that were chosen are among the choice
pub among_chosen : (v : Guard → Bool) (g : Guard) (gs : List Guard) → is_among g gs ≡ true → is_among g (chosen v gs) ≡ v g
among_chosen v g [] e = absurd (false≢true e)
among_chosen v g (h ∷ gs) e = at (same_guard g h) refl (cases_Bool (is_among g gs)) e (among_chosen v g gs)
  where
    unchosen : (hs : List Guard) → v g ≡ false → is_among g (chosen v hs) ≡ false
    unchosen [] f = refl
    unchosen (k ∷ hs) f = by (v k) refl (unchosen hs f)
      where
        by : (b : Bool) → v k ≡ b → is_among g (chosen v hs) ≡ false → is_among g (if b then k ∷ chosen v hs else chosen v hs) ≡ false
        by true i j = ap₂ (λ a b. a || b) (differs (same_guard g k) refl) j
          where
            differs : (b : Bool) → same_guard g k ≡ b → same_guard g k ≡ false
            differs true l = absurd (both_ways (v g) f (ap v (guard_same g k l) ∙ i))
            differs false l = l
        by false i j = j

    first : (b : Bool) → v g ≡ b → same_guard g h ≡ true → is_among g (if v h then h ∷ chosen v gs else chosen v gs) ≡ b
    first true f i = ap (λ c. is_among g (if c then h ∷ chosen v gs else chosen v gs)) (sym (ap v (guard_same g h i)) ∙ f) ∙ or_left (same_guard g h) _ i
    first false f i = ap (λ c. is_among g (if c then h ∷ chosen v gs else chosen v gs)) (sym (ap v (guard_same g h i)) ∙ f) ∙ unchosen gs f

    rest : (b : Bool) → same_guard g h ≡ false → is_among g (chosen v gs) ≡ v g → is_among g (if b then h ∷ chosen v gs else chosen v gs) ≡ v g
    rest true f i = ap (λ c. c || is_among g (chosen v gs)) f ∙ i
    rest false f i = i

    at : (b : Bool) → same_guard g h ≡ b → ((is_among g gs ≡ true) ⊎ (is_among g gs ≡ false))
        → (same_guard g h || is_among g gs) ≡ true → (is_among g gs ≡ true → is_among g (chosen v gs) ≡ v g)
        → is_among g (if v h then h ∷ chosen v gs else chosen v gs) ≡ v g
    at true f c i k = first (v g) refl f
    at false f c i k = rest (v h) f (k (⊎_elim (λ t. t) (λ t. absurd (both_ways (same_guard g h || is_among g gs) (ap₂ (λ a b. a || b) f t) i)) c))

-- each choice is one of the paths
pub by_choice : (test : List Guard → Bool) (v : Guard → Bool) (gs : List Guard)
    → list_any test (choices gs) ≡ false → test (chosen v gs) ≡ false
by_choice test v [] e = (or_parts (test []) false e).0
by_choice test v (g ∷ gs) e =
    let parts = or_parts (list_any test (choices gs)) _ (sym (list_any-append test (choices gs) (map (λ c. g ∷ c) (choices gs))) ∙ e) in
    at (v g) parts.0 (sym (mapped (choices gs)) ∙ parts.1) (λ other. by_choice other v gs)
  where
    mapped : (cs : List (List Guard)) → list_any test (map (λ c. g ∷ c) cs) ≡ list_any (λ c. test (g ∷ c)) cs
    mapped [] = refl
    mapped (c ∷ cs) = ap (λ b. test (g ∷ c) || b) (mapped cs)

    at : (b : Bool) → list_any test (choices gs) ≡ false → list_any (λ c. test (g ∷ c)) (choices gs) ≡ false
        → ((other : List Guard → Bool) → list_any other (choices gs) ≡ false → other (chosen v gs) ≡ false)
        → test (if b then g ∷ chosen v gs else chosen v gs) ≡ false
    at true f h k = k (λ c. test (g ∷ c)) h
    at false f h k = k test f

-- the path of these truth values
abbrev pub path_of : Pipe → (Guard → Bool) → List Guard
path_of p v = chosen v (guards (places p))

-- what is broken on no path isn't broken on this one
pub unbroken_on : (test : List Place → Bool) (p : Pipe) (v : Guard → Bool) (before : List Place) (x : Place)
    → on_some_path test p before x ≡ false → on_path (path_of p v) x ≡ true
    → test (filter (on_path (path_of p v)) before) ≡ false
unbroken_on test p v before x e on =
    ap (λ b. b && test (filter (on_path (path_of p v)) before)) (sym on)
    ∙ by_choice (λ path. on_path path x && test (filter (on_path path) before)) v (guards (places p)) e

-- the guard of each `if` of the text is among its guards
still_among : (g : Guard) (xs : List Place) (gs : List Guard) → is_among g gs ≡ true → is_among g (fold with_guard gs xs) ≡ true
still_among g [] gs e = e
still_among g (x ∷ xs) gs e = still_among g xs (with_guard gs x) (here x)
  where
    more : (b : Bool) (h : Guard) → is_among g (if b then gs else gs ++ h ∷ []) ≡ true
    more true h = e
    more false h = list_any-append (same_guard g) gs (h ∷ []) ∙ or_left _ _ e

    here : (y : Place) → is_among g (with_guard gs y) ≡ true
    here (Statement (If s c _ _) _) = more (is_among (guard_of s c) gs) (guard_of s c)
    here _ = e

-- the guard of an `if` is among the guards of each text that it stands in
pub if_among : (s : Span) (c : Expr) (when otherwise : Stmts) (bs : List Branch) (before later : List Place) (gs : List Guard)
    → is_among (guard_of s c) (fold with_guard gs (before ++ Statement (If s c when otherwise) bs ∷ later)) ≡ true
if_among s c when otherwise bs [] later gs = still_among (guard_of s c) later _ (at (is_among (guard_of s c) gs) refl)
  where
    at : (b : Bool) → is_among (guard_of s c) gs ≡ b → is_among (guard_of s c) (if b then gs else gs ++ guard_of s c ∷ []) ≡ true
    at true e = e
    at false e =
        list_any-append (same_guard (guard_of s c)) gs (guard_of s c ∷ [])
        ∙ or_right (is_among (guard_of s c) gs) _ (or_left _ false (guard_refl (guard_of s c)))
if_among s c when otherwise bs (x ∷ before) later gs = if_among s c when otherwise bs before later (with_guard gs x)
