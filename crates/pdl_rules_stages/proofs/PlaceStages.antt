-- Stages of places, and the first of a kind.
use Rattle.std.proofs.Common.{◌≡◌, refl, sym, ap, ap₂, ◌∙◌, subst, ℕ, suc, ◌+◌, ◌<◌, Bool, true, false, not, ◌&&◌, ◌==◌, List, [], ◌∷◌, ◌++◌, take, drop, length, get_or, slice_get, if◌then◌else◌, Some, arith, append_assoc, append-nil, eq-eqb}
use Rattle.pdl_rules.specs.Places.{Place, Branch, Guard, on_path}
use Rattle.pdl_rules.specs.Parts.{is_some_and}
use Rattle.pdl_rules.specs.Limits.{is_separator}
use Rattle.pdl_rules.specs.Stages.{branches_of, same_branch, are_outer, stage_from, stage_after, stage_of, next_on, first_stage, stages_that, is_elsewhere}
use Rattle.pdl_rules.proofs.Counts.{count_cons}
use Rattle.pdl_rules_stages.specs.Stages.{each, stages_in}
use Rattle.pdl_rules_stages.proofs.Nth.{dropped, taken, split}
use Rattle.pdl_rules_on_paths.proofs.Nth.{taken_length}

-- BRANCHES

-- some branches are not outer ones of fewer branches
pub longer : (xs ys : List Branch) → length ys < length xs → are_outer xs ys ≡ false
longer [] ys l = absurd (omega arith)
longer (x ∷ xs) [] l = refl
longer (x ∷ xs) (y ∷ ys) l = ap (λ b. same_branch x y && b) (longer xs ys (omega arith)) ∙ none (same_branch x y)
  where
    none : (b : Bool) → (b && false) ≡ false
    none true = refl
    none false = refl

-- branches from the k-th on are outer ones if the k-th is the same, and those after it are outer ones
pub outer_here : (xs ys : List Branch) (k : ℕ) (x y : Branch) → slice_get xs k ≡ Some x → slice_get ys k ≡ Some y
    → are_outer (drop k xs) (drop k ys) ≡ (same_branch x y && are_outer (drop (k + 1) xs) (drop (k + 1) ys))
outer_here xs ys k x y e f = rw (dropped xs k x e, dropped ys k y f) refl

-- THE STAGE OF A PLACE

-- one place more on the way to a stage: a separator begins one, the last found if its branches are outer
pub stage_step : (begun found next last : ℕ) (bs : List Branch) (x : Place) (rest : List Place) (s o : Bool)
    → is_separator x ≡ s → are_outer (branches_of x) bs ≡ o → next ≡ (if s then suc begun else begun)
    → last ≡ (if s then (if o then suc begun else found) else found)
    → stage_from next last bs rest ≡ stage_from begun found bs (x ∷ rest)
stage_step begun found next last bs x rest true o e i j k =
    ap₂ (λ m n. stage_from m n bs rest) j k
    ∙ ap₂ (λ (a b : Bool). if a then stage_from (suc begun) (if b then suc begun else found) bs rest else stage_from begun found bs rest) (sym e) (sym i)
stage_step begun found next last bs x rest false o e i j k =
    ap₂ (λ m n. stage_from m n bs rest) j k
    ∙ ap
    (λ (a : Bool). if a then stage_from (suc begun) (if are_outer (branches_of x) bs then suc begun else found) bs rest else stage_from begun found bs rest)
    (sym e)

-- as many stages have begun after some places as after their rest, and 1 more if the first is a separator
pub count_step : (x : Place) (rest : List Place) (s : Bool)
    → is_separator x ≡ s → stage_after (x ∷ rest) ≡ (if s then 1 else 0) + stage_after rest
count_step x rest s e = let more = count_cons is_separator x rest in more ∙ ap (λ (b : Bool). (if b then 1 else 0) + stage_after rest) e

-- THE NEXT SEPARATOR ON A PATH

-- where the first place is a separator on the path, the next stage on the path is the one that it begins
pub next_here : (path : List Guard) (begun : ℕ) (x : Place) (rest : List Place)
    → is_separator x ≡ true → on_path path x ≡ true → next_on path begun (x ∷ rest) ≡ suc begun
next_here path begun x rest e i =
    ap₂ (λ (a b : Bool). if a then (if b then suc begun else next_on path (suc begun) rest) else next_on path begun rest) e i

-- where the first place is a separator off the path, the places after it tell, with one stage more begun
pub next_past : (path : List Guard) (begun : ℕ) (x : Place) (rest : List Place)
    → is_separator x ≡ true → on_path path x ≡ false → next_on path begun (x ∷ rest) ≡ next_on path (suc begun) rest
next_past path begun x rest e i =
    ap₂ (λ (a b : Bool). if a then (if b then suc begun else next_on path (suc begun) rest) else next_on path begun rest) e i

-- where the first place is no separator, the next stage on the path is that by the places after it
pub next_other : (path : List Guard) (begun : ℕ) (x : Place) (rest : List Place)
    → is_separator x ≡ false → next_on path begun (x ∷ rest) ≡ next_on path begun rest
next_other path begun x rest e =
    ap (λ (a : Bool). if a then (if on_path path x then suc begun else next_on path (suc begun) rest) else next_on path begun rest) e

-- THE STAGES OF PLACES

-- the stages of the places that pass a test are those of the first places and then of the others after them
pub that_append : (test : Place → Bool) (before xs ys : List Place)
    → stages_that test before (xs ++ ys) ≡ stages_that test before xs ++ stages_that test (before ++ xs) ys
that_append test before [] ys = ap (λ b. stages_that test b ys) (sym (append-nil before))
that_append test before (x ∷ xs) ys =
    let rest =
    that_append test (before ++ x ∷ []) xs ys
    ∙ ap (λ b. stages_that test (before ++ x ∷ []) xs ++ stages_that test b ys) (append_assoc before (x ∷ []) xs) in
    at (test x) rest
  where
    at : (b : Bool) → stages_that test (before ++ x ∷ []) (xs ++ ys) ≡ stages_that test (before ++ x ∷ []) xs ++ stages_that test (before ++ x ∷ xs) ys
        → (if b then stage_of before x ∷ stages_that test (before ++ x ∷ []) (xs ++ ys) else stages_that test (before ++ x ∷ []) (xs ++ ys))
        ≡ (if b then stage_of before x ∷ stages_that test (before ++ x ∷ []) xs else stages_that test (before ++ x ∷ []) xs)
        ++ stages_that test (before ++ x ∷ xs) ys
    at true e = ap (λ ns. stage_of before x ∷ ns) e
    at false e = e

-- the stages of places that pass a test, with one place more: its own is the last, if it passes
pub that_more : (test : Place → Bool) (before xs : List Place) (x : Place)
    → stages_that test before (xs ++ x ∷ []) ≡ stages_that test before xs ++ (if test x then stage_of (before ++ xs) x ∷ [] else [])
that_more test before xs x = that_append test before xs (x ∷ [])

-- the stages of the first k places, with that of the next, are those of the first k + 1
pub stages_more : (xs : List Place) (k : ℕ) (x : Place)
    → slice_get xs k ≡ Some x → stages_in (take k xs) ++ stage_of (take k xs) x ∷ [] ≡ stages_in (take (k + 1) xs)
stages_more xs k x e = sym (ap stages_in (taken xs k x e) ∙ that_more each [] (take k xs) x)

-- the k-th of them
nth_from : (front before later : List Place) (x : Place) (k : ℕ)
    → k ≡ length before → get_or (stages_that each front (before ++ x ∷ later)) k 0 ≡ stage_of (front ++ before) x
nth_from front [] later x k e =
    ap (λ n. get_or (stage_of front x ∷ stages_that each (front ++ x ∷ []) later) n 0) e ∙ ap (λ b. stage_of b x) (sym (append-nil front))
nth_from front (y ∷ before) later x k e =
    ap (λ n. get_or (stage_of front y ∷ stages_that each (front ++ y ∷ []) (before ++ x ∷ later)) n 0) e
    ∙ nth_from (front ++ y ∷ []) before later x (length before) refl
    ∙ ap (λ b. stage_of b x) (append_assoc front (y ∷ []) before)

-- the k-th of the stages of places is that of the place with k places before it
pub nth_stage : (before later : List Place) (x : Place) (k : ℕ)
    → k ≡ length before → get_or (stages_in (before ++ x ∷ later)) k 0 ≡ stage_of before x
nth_stage before later x k e = nth_from [] before later x k e

-- the k-th of the stages of places is that of the k-th place
pub stage_got : (xs : List Place) (k : ℕ) (x : Place) → slice_get xs k ≡ Some x → get_or (stages_in xs) k 0 ≡ stage_of (take k xs) x
stage_got xs k x e = ap (λ ys. get_or (stages_in ys) k 0) (split xs k x e) ∙ nth_stage (take k xs) (drop (k + 1) xs) x k (taken_length xs k x e)

-- THE FIRST OF A KIND

-- where the k-th place passes a test, the first stage of those from it on that pass is its own
pub first_here : (test : Place → Bool) (xs : List Place) (k : ℕ) (x : Place)
    → slice_get xs k ≡ Some x → test x ≡ true → first_stage test (take k xs) (drop k xs) ≡ Some (stage_of (take k xs) x)
first_here test xs k x e is_one =
    ap (first_stage test (take k xs)) (dropped xs k x e)
    ∙ ap (λ b. if b then Some (stage_of (take k xs) x) else first_stage test (take k xs ++ x ∷ []) (drop (k + 1) xs)) is_one

-- where the k-th place fails a test, the first stage of those from it on that pass is that of those after it
pub first_later : (test : Place → Bool) (xs : List Place) (k : ℕ) (x : Place) → slice_get xs k ≡ Some x → test x ≡ false
    → first_stage test (take k xs) (drop k xs) ≡ first_stage test (take (k + 1) xs) (drop (k + 1) xs)
first_later test xs k x e is_none =
    ap (first_stage test (take k xs)) (dropped xs k x e)
    ∙ ap (λ b. if b then Some (stage_of (take k xs) x) else first_stage test (take k xs ++ x ∷ []) (drop (k + 1) xs)) is_none
    ∙ ap (λ b. first_stage test b (drop (k + 1) xs)) (sym (taken xs k x e))

-- of all places and of those before one of the kind
elsewhere_from : (test : Place → Bool) (front before later : List Place) (x : Place)
    → test x ≡ true
    → is_some_and (λ s. not (s == stage_of (front ++ before) x)) (first_stage test front (before ++ x ∷ later))
    ≡ is_some_and (λ s. not (s == stage_of (front ++ before) x)) (first_stage test front before)
elsewhere_from test front [] later x e =
    ap (λ b. is_some_and (λ s. not (s == stage_of (front ++ []) x)) (if b then Some (stage_of front x) else first_stage test (front ++ x ∷ []) later)) e
    ∙ ap not (eq-eqb (stage_of front x) (stage_of (front ++ []) x) (ap (λ b. stage_of b x) (sym (append-nil front))))
elsewhere_from test front (y ∷ before) later x e =
    let moved : (front ++ y ∷ []) ++ before ≡ front ++ y ∷ before = append_assoc front (y ∷ []) before in
    let rest = elsewhere_from test (front ++ y ∷ []) before later x e in
    at (test y) (subst (λ b. is_some_and (λ s. not (s == stage_of b x)) (first_stage test (front ++ y ∷ []) (before ++ x ∷ later))
    ≡ is_some_and (λ s. not (s == stage_of b x)) (first_stage test (front ++ y ∷ []) before)) moved rest)
  where
    at : (b : Bool) → is_some_and (λ s. not (s == stage_of (front ++ y ∷ before) x)) (first_stage test (front ++ y ∷ []) (before ++ x ∷ later))
        ≡ is_some_and (λ s. not (s == stage_of (front ++ y ∷ before) x)) (first_stage test (front ++ y ∷ []) before)
        → is_some_and (λ s. not (s == stage_of (front ++ y ∷ before) x))
        (if b then Some (stage_of front y) else first_stage test (front ++ y ∷ []) (before ++ x ∷ later))
        ≡ is_some_and (λ s. not (s == stage_of (front ++ y ∷ before) x)) (if b then Some (stage_of front y) else first_stage test (front ++ y ∷ []) before)
    at true h = refl
    at false h = h

-- of a place that passes a test, the first of all that pass is in another stage if the first before it is
pub elsewhere_before : (test : Place → Bool) (xs : List Place) (k : ℕ) (x : Place) → slice_get xs k ≡ Some x → test x ≡ true
    → is_some_and (λ s. not (s == stage_of (take k xs) x)) (first_stage test [] xs) ≡ is_elsewhere test (take k xs) (stage_of (take k xs) x)
elsewhere_before test xs k x e is_one =
    ap (λ ys. is_some_and (λ s. not (s == stage_of (take k xs) x)) (first_stage test [] ys)) (split xs k x e)
    ∙ elsewhere_from test [] (take k xs) (drop (k + 1) xs) x is_one
