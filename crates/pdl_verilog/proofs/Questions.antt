-- Where all that is asked is right, no place is wrong.
use Rattle.std.proofs.Common.{◌≡◌, ℕ, suc, ◌+◌, ◌<◌, Bool, true, cond, List, [], ◌∷◌, ◌++◌, length, take, get_or, append-nil, append_assoc, Option, Some, None, refl, sym, ap, ◌∙◌, arith}
use Rattle.std.specs.List.{slice_get}
use Rattle.std.proofs.lemmas.Bool.{cond-true}
use Rattle.pdl_vread_rules.specs.RuleQuestions.{Asked, first_wrong}
use Rattle.pdl_vread_rules.specs.Once.{in_turn}
use Rattle.pdl_vread_rules.proofs.Blocks.{rest_first}
use Rattle.pdl_word.specs.Each.{Each}

-- where one place is right and nothing after it is wrong, nothing from it on is
pub right_then : (b : Bool) (o : Option ℕ) (line : ℕ) → b ≡ true → o ≡ None → cond b o (Some line) ≡ None
right_then b o line h k = cond-true b o (Some line) h ∙ k

-- where nothing is wrong in two lists of what is asked, nothing is in both joined
pub append_right : (xs ys : List Asked) → first_wrong xs ≡ None → first_wrong ys ≡ None → first_wrong (xs ++ ys) ≡ None
append_right xs ys h k = rest_first xs ys h ∙ k

-- each of a list is right after those before it
pub turns_right : {A : Type 0} (ask : List A → A → Asked) (before xs : List A) (d : A)
    → ((i : ℕ) → i < length xs → (ask (before ++ take i xs) (get_or xs i d)).right ≡ true)
    → first_wrong (in_turn ask before xs) ≡ None
turns_right ask before [] d h = refl
turns_right ask before (x ∷ xs) d h =
    right_then (ask before x).right (first_wrong (in_turn ask (before ++ x ∷ []) xs)) (ask before x).line
    (ap (λ z. (ask z x).right) (sym (append-nil before)) ∙ h 0 (omega arith))
    (turns_right ask (before ++ x ∷ []) xs d
    (λ i l. ap (λ z. (ask z (get_or xs i d)).right) (append_assoc before (x ∷ []) (take i xs)) ∙ h (suc i) (omega arith)))

-- ---- each element

-- what holds of the element at each place, read with a default, holds of each element
pub each_got : {A : Type 0} (P : A → Type 0) (xs : List A) (d : A) → ((i : ℕ) → i < length xs → P (get_or xs i d)) → Each P xs
each_got P [] d h = tt
each_got P (x ∷ xs) d h = (h 0 (omega arith), each_got P xs d (λ i l. h (suc i) (omega arith)))

-- a property of each element gives each property that follows from it
pub each_so : {A : Type 0} (P Q : A → Type 0) (xs : List A) → ((x : A) → P x → Q x) → Each P xs → Each Q xs
each_so P Q [] f h = tt
each_so P Q (x ∷ xs) f h = (f x h.0, each_so P Q xs f h.1)

-- ---- numbers after others

-- after its first i numbers a list goes on with these
abbrev pub GoesOn : List ℕ → ℕ → List ℕ → Type 0
GoesOn whole i xs = (j : ℕ) → j < length xs → get_or whole (i + j) 0 ≡ get_or xs j 0

-- where a list goes on with numbers, the first of them stands at that place
pub goes_on_here : (whole : List ℕ) (i x : ℕ) (xs : List ℕ) → GoesOn whole i (x ∷ xs) → get_or whole i 0 ≡ x
goes_on_here whole i x xs h = let e : i ≡ i + 0 = omega arith in ap (λ z. get_or whole z 0) e ∙ h 0 (omega arith)

-- where a list goes on with numbers, it goes on with those after the first one place later
pub goes_on_later : (whole : List ℕ) (i x : ℕ) (xs : List ℕ) → GoesOn whole i (x ∷ xs) → GoesOn whole (suc i) xs
goes_on_later whole i x xs h = λ j l. let e : suc i + j ≡ i + suc j = omega arith in ap (λ z. get_or whole z 0) e ∙ h (suc j) (omega arith)

-- from its first place a list goes on with all its numbers
pub goes_on_all : (whole xs : List ℕ) → whole ≡ xs → GoesOn whole 0 xs
goes_on_all whole xs e = λ j l. let z : 0 + j ≡ j = omega arith in ap (λ n. get_or whole n 0) z ∙ ap (λ ys. get_or ys j 0) e
