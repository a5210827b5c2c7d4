-- The stages of the places of a source without its updates are those that they have with them.
use Rattle.std.proofs.Common.{◌≡◌, refl, sym, ap, ap₂, ◌∙◌, ℕ, suc, Bool, true, false, ◌&&◌, not, ◌==◌, List, [], ◌∷◌, ◌++◌, length, drop, if◌then◌else◌, append-nil, Some}
use Rattle.std.proofs.lemmas.Bool.{false≢true}
use Rattle.pdl_semantics.specs.Tree.{Pipe}
use Rattle.pdl_semantics.specs.UpdateFree.{without_update}
use Rattle.pdl_rules.specs.Places.{Guard, Branch, Place, Parameter, Statement, on_path, places, places_after}
use Rattle.pdl_rules.specs.Parts.{is_some_and}
use Rattle.pdl_rules.specs.Forms.{separates}
use Rattle.pdl_rules.specs.Limits.{is_separator}
use Rattle.pdl_rules.specs.Speculation.{is_update}
use Rattle.pdl_rules.specs.Stages.{stage_after, branches_of, same_branch, are_outer, stage_from, stage_in, stage_of, first_stage, stages_that, is_elsewhere, next_on}
use Rattle.pdl_source.proofs.ThinPlaces.{thin_branches, thin_place, thin, thin_both, places_thin, Stays, stays_at, count_thin, on_path_thin}
use Rattle.pdl_source_paths.proofs.EarlyReads.{drop_past}

-- a separator stays one
pub separators_stay : Stays is_separator
separators_stay = stays_at (λ s. separates s) (λ s c w o. refl) (λ s g args. refl)

-- as many stages begin
pub after_thin : (xs : List Place) → stage_after (thin xs) ≡ stage_after xs
after_thin xs = count_thin is_separator separators_stay xs

-- the branches of a place
pub branches_thin : (x : Place) → branches_of (thin_place x) ≡ thin_branches (branches_of x)
branches_thin (Statement s bs) = refl
branches_thin (Parameter a) = refl
branches_thin _ = refl

-- what stands in some branches stands in others too, where it did
pub outer_thin : (xs bs : List Branch) → are_outer (thin_branches xs) (thin_branches bs) ≡ are_outer xs bs
outer_thin [] bs = refl
outer_thin (x ∷ xs) [] = refl
outer_thin (x ∷ xs) (b ∷ bs) = ap (λ c. same_branch x b && c) (outer_thin xs bs)

-- a stage by the separators before it
from_thin : (begun found : ℕ) (bs : List Branch) (xs : List Place) → stage_from begun found (thin_branches bs) (thin xs) ≡ stage_from begun found bs xs
from_thin begun found bs [] = refl
from_thin begun found bs (x ∷ xs) =
    at (is_update x) (is_separator x) refl (separators_stay.same x) (separators_stay.none x) (λ b f. from_thin b f bs xs)
  where
    found' : Bool → ℕ
    found' b = if b then suc begun else found

    outer : are_outer (branches_of (thin_place x)) (thin_branches bs) ≡ are_outer (branches_of x) bs
    outer = ap (λ cs. are_outer cs (thin_branches bs)) (branches_thin x) ∙ outer_thin (branches_of x) bs

    at : (u k : Bool) → is_update x ≡ u → is_separator (thin_place x) ≡ k → (is_update x ≡ true → k ≡ false)
        → ((b f : ℕ) → stage_from b f (thin_branches bs) (thin xs) ≡ stage_from b f bs xs)
        → stage_from begun found (thin_branches bs) (if u then thin xs else thin_place x ∷ thin xs)
        ≡ (if k then stage_from (suc begun) (found' (are_outer (branches_of x) bs)) bs xs else stage_from begun found bs xs)
    at true true i s none later = absurd (false≢true (sym (none i)))
    at true false i s none later = later begun found
    at false true i s none later =
        ap (λ (b : Bool).
        if b
        then stage_from (suc begun) (found' (are_outer (branches_of (thin_place x)) (thin_branches bs))) (thin_branches bs) (thin xs)
        else stage_from begun found (thin_branches bs) (thin xs)) s
        ∙ ap (λ b. stage_from (suc begun) (found' b) (thin_branches bs) (thin xs)) outer
        ∙ later (suc begun) (found' (are_outer (branches_of x) bs))
    at false false i s none later =
        ap (λ (b : Bool).
        if b
        then stage_from (suc begun) (found' (are_outer (branches_of (thin_place x)) (thin_branches bs))) (thin_branches bs) (thin xs)
        else stage_from begun found (thin_branches bs) (thin xs)) s
        ∙ later begun found

-- what stands in these branches is in the same stage
pub in_thin : (before : List Place) (bs : List Branch) → stage_in (thin before) (thin_branches bs) ≡ stage_in before bs
in_thin before bs = from_thin 0 0 bs before

-- a place that stays is in the same stage
pub of_thin : (before : List Place) (x : Place) → stage_of (thin before) (thin_place x) ≡ stage_of before x
of_thin before x = ap (stage_in (thin before)) (branches_thin x) ∙ in_thin before (branches_of x)

-- one more place
more_stays : (before : List Place) (x : Place) → is_update x ≡ false → thin (before ++ x ∷ []) ≡ thin before ++ thin_place x ∷ []
more_stays before x i =
    thin_both before (x ∷ []) ∙ ap (λ u. thin before ++ (if u then [] else thin_place x ∷ [])) i

more_goes : (before : List Place) (x : Place) → is_update x ≡ true → thin (before ++ x ∷ []) ≡ thin before
more_goes before x i =
    thin_both before (x ∷ []) ∙ ap (λ u. thin before ++ (if u then [] else thin_place x ∷ [])) i ∙ append-nil (thin before)

-- the stage of the first place that passes a test
pub first_thin : (test : Place → Bool) → Stays test → (before xs : List Place) → first_stage test (thin before) (thin xs) ≡ first_stage test before xs
first_thin test stays before [] = refl
first_thin test stays before (x ∷ xs) = at (is_update x) (test x) refl (stays.same x) (stays.none x) (first_thin test stays (before ++ x ∷ []) xs)
  where
    at : (u k : Bool) → is_update x ≡ u → test (thin_place x) ≡ k → (is_update x ≡ true → k ≡ false)
        → first_stage test (thin (before ++ x ∷ [])) (thin xs) ≡ first_stage test (before ++ x ∷ []) xs
        → first_stage test (thin before) (if u then thin xs else thin_place x ∷ thin xs)
        ≡ (if k then Some (stage_of before x) else first_stage test (before ++ x ∷ []) xs)
    at true true i t none later = absurd (false≢true (sym (none i)))
    at true false i t none later = ap (λ zs. first_stage test zs (thin xs)) (sym (more_goes before x i)) ∙ later
    at false true i t none later =
        ap (λ (b : Bool). if b then Some (stage_of (thin before) (thin_place x)) else first_stage test (thin before ++ thin_place x ∷ []) (thin xs)) t
        ∙ ap Some (of_thin before x)
    at false false i t none later =
        ap (λ (b : Bool). if b then Some (stage_of (thin before) (thin_place x)) else first_stage test (thin before ++ thin_place x ∷ []) (thin xs)) t
        ∙ ap (λ zs. first_stage test zs (thin xs)) (sym (more_stays before x i)) ∙ later

-- the stages of all places that pass a test
pub that_thin : (test : Place → Bool) → Stays test → (before xs : List Place) → stages_that test (thin before) (thin xs) ≡ stages_that test before xs
that_thin test stays before [] = refl
that_thin test stays before (x ∷ xs) = at (is_update x) (test x) refl (stays.same x) (stays.none x) (that_thin test stays (before ++ x ∷ []) xs)
  where
    at : (u k : Bool) → is_update x ≡ u → test (thin_place x) ≡ k → (is_update x ≡ true → k ≡ false)
        → stages_that test (thin (before ++ x ∷ [])) (thin xs) ≡ stages_that test (before ++ x ∷ []) xs
        → stages_that test (thin before) (if u then thin xs else thin_place x ∷ thin xs)
        ≡ (if k then stage_of before x ∷ stages_that test (before ++ x ∷ []) xs else stages_that test (before ++ x ∷ []) xs)
    at true true i t none later = absurd (false≢true (sym (none i)))
    at true false i t none later = ap (λ zs. stages_that test zs (thin xs)) (sym (more_goes before x i)) ∙ later
    at false true i t none later =
        ap (λ (b : Bool).
        if b
        then stage_of (thin before) (thin_place x) ∷ stages_that test (thin before ++ thin_place x ∷ []) (thin xs)
        else stages_that test (thin before ++ thin_place x ∷ []) (thin xs)) t
        ∙ ap₂ (λ n ns. n ∷ ns) (of_thin before x)
        (ap (λ zs. stages_that test zs (thin xs)) (sym (more_stays before x i)) ∙ later)
    at false false i t none later =
        ap (λ (b : Bool).
        if b
        then stage_of (thin before) (thin_place x) ∷ stages_that test (thin before ++ thin_place x ∷ []) (thin xs)
        else stages_that test (thin before ++ thin_place x ∷ []) (thin xs)) t
        ∙ ap (λ zs. stages_that test zs (thin xs)) (sym (more_stays before x i)) ∙ later

-- a place stands elsewhere than the first of its kind where it did
pub elsewhere_thin : (test : Place → Bool) → Stays test → (before : List Place) (s : ℕ) → is_elsewhere test (thin before) s ≡ is_elsewhere test before s
elsewhere_thin test stays before s = ap (is_some_and (λ k. not (k == s))) (first_thin test stays [] before)

-- the stage that the next separator on a path begins
pub next_thin : (path : List Guard) (begun : ℕ) (xs : List Place) → next_on path begun (thin xs) ≡ next_on path begun xs
next_thin path begun [] = refl
next_thin path begun (x ∷ xs) =
    at (is_update x) (is_separator x) refl (separators_stay.same x) (separators_stay.none x) (λ b. next_thin path b xs)
  where
    go : Bool → List Place → ℕ
    go b zs = if b then suc begun else next_on path (suc begun) zs

    at : (u k : Bool) → is_update x ≡ u → is_separator (thin_place x) ≡ k → (is_update x ≡ true → k ≡ false)
        → ((b : ℕ) → next_on path b (thin xs) ≡ next_on path b xs)
        → next_on path begun (if u then thin xs else thin_place x ∷ thin xs) ≡ (if k then go (on_path path x) xs else next_on path begun xs)
    at true true i s none later = absurd (false≢true (sym (none i)))
    at true false i s none later = later begun
    at false true i s none later =
        ap (λ (b : Bool). if b then go (on_path path (thin_place x)) (thin xs) else next_on path begun (thin xs)) s
        ∙ ap₂ (λ (b : Bool) n. if b then suc begun else n) (on_path_thin path x) (later (suc begun))
    at false false i s none later =
        ap (λ (b : Bool). if b then go (on_path path (thin_place x)) (thin xs) else next_on path begun (thin xs)) s ∙ later begun

-- the places after one that stays
pub later_thin : (p : Pipe) (before : List Place) (x : Place) (later : List Place)
    → places p ≡ before ++ x ∷ later → is_update x ≡ false → places_after (without_update p) (thin before) ≡ thin (places_after p before)
later_thin p before x later e i =
    let whole = places_thin p ∙ ap thin e ∙ thin_both before (x ∷ later)
    ∙ ap (λ u. thin before ++ (if u then thin later else thin_place x ∷ thin later)) i in
    ap (drop (suc (length (thin before)))) whole ∙ drop_past (thin before) (thin_place x) (thin later)
    ∙ sym (ap thin (ap (drop (suc (length before))) e ∙ drop_past before x later))
