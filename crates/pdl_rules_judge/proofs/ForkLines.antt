-- The rules as they are asked are those of the language.
use Rattle.std.proofs.Common.{◌≡◌, refl, sym, ap, ap₂, ◌∙◌, ℕ, zero, suc, ◌+◌, ◌-◌, ◌<◌, ◌≤◌, true, false, get_or, List, [], ◌∷◌, ◌++◌, map, take, drop, length, if◌then◌else◌, Some, arith}
use Rattle.std.proofs.lemmas.List.{map_push}
use Rattle.pdl_semantics.specs.Tree.{Pipe}
use Rattle.pdl_rules.specs.Places.{Place, places, places_after, line_of}
use Rattle.pdl_rules.specs.Refusal.{refused_at, breaks_rule, broken_line, first_broken}
use Rattle.pdl_rules_judge.specs.declared.fork_scan.ForkRule.{ForkRule}
use Rattle.pdl_rules_judge.specs.declared.fork_scan.ForkRule.TheVariants.{F1, F2, F3, F4, F5}
use Rattle.pdl_rules_judge.proofs.ForkSteps.{take_next}
use Rattle.pdl_rules_judge.specs.ForkOrder as order
use Rattle.pdl_word.proofs.Lists.{drop_next}

asked : (r : ForkRule) (p : Pipe) (before : List Place) (x : Place)
    → breaks_rule (order.rule_of r) p before x ≡ order.breaks_fork_rule r p before x
unfolding order.breaks_fork_rule
asked F1 p before x = refl
asked F2 p before x = refl
asked F3 p before x = refl
asked F4 p before x = refl
asked F5 p before x = refl

lines : (r : ForkRule) (p : Pipe) (before xs : List Place) → broken_line (order.rule_of r) p before xs ≡ order.line_from r p before xs
lines r p before [] = refl
lines r p before (x ∷ xs) = ap₂ (λ b o. if b then Some (line_of x) else o) (asked r p before x) (lines r p (before ++ x ∷ []) xs)

-- the first broken rule on forks, as it is asked, is the first by the rules of the language
pub rules_same : (rs : List ForkRule) (p : Pipe) → first_broken (map order.rule_of rs) p ≡ order.first_of rs p (places p)
unfolding order.broken_line
rules_same [] p = refl
rules_same (r ∷ rs) p = ap₂ (λ o later. refused_at (order.rule_of r) o later) (lines r p [] (places p)) (rules_same rs p)

-- THE PLACES AFTER ONE

drop_map : {A B : Type 0} (f : A → B) (n : ℕ) (xs : List A) → drop n (map f xs) ≡ map f (drop n xs)
drop_map f zero xs = refl
drop_map f (suc n) [] = refl
drop_map f (suc n) (x ∷ xs) = drop_map f n xs

long_front : {A B : Type 0} (f : A → B) (k : ℕ) (xs : List A) → k < length xs → length (map f (take k xs)) ≡ k
long_front f zero xs h = refl
long_front f (suc k) [] h = absurd (omega arith)
long_front f (suc k) (x ∷ xs) h = ap suc (long_front f k xs (omega arith))

-- the places after the k-th one of a pipe are those from number k + 1 on
pub after_here : {A : Type 0} (f : A → Place) (p : Pipe) (k : ℕ) (xs : List A) → places p ≡ map f xs → k < length xs
    → places_after p (map f (take k xs)) ≡ map f (drop (k + 1) xs)
after_here f p k xs e h =
    ap₂ (λ n ys. drop (suc n) ys) (long_front f k xs h) e
    ∙ drop_map f (suc k) xs
    ∙ ap (λ n. map f (drop n xs)) (let one : suc k ≡ k + 1 = omega arith in one)

take_all : {A : Type 0} (n : ℕ) (xs : List A) → length xs ≤ n → take n xs ≡ xs
take_all zero [] h = refl
take_all zero (x ∷ xs) h = absurd (omega arith)
take_all (suc n) [] h = refl
take_all (suc n) (x ∷ xs) h = ap (λ ys. x ∷ ys) (take_all n xs (omega arith))

long_drop : {A : Type 0} (n : ℕ) (xs : List A) → n ≤ length xs → length (drop n xs) + n ≡ length xs
long_drop zero xs h = omega arith
long_drop (suc n) [] h = absurd (omega arith)
long_drop (suc n) (x ∷ xs) h = let rest = long_drop n xs (omega arith) in omega arith

-- of the elements after the first n, as many as the length less n are all
pub all_after : {A : Type 0} (n : ℕ) (xs : List A) → n ≤ length xs → take (length xs - n) (drop n xs) ≡ drop n xs
all_after n xs h = take_all (length xs - n) (drop n xs) (let rest = long_drop n xs h in omega arith)

-- ONE PLACE MORE

-- a place that breaks a rule on forks has the rule's line, where no place before it breaks it
pub found : {A : Type 0} (f : A → Place) (r : ForkRule) (p : Pipe) (xs : List A) (k : ℕ) (x : A)
    → k < length xs → x ≡ get_or xs k x → order.breaks_fork_rule r p (map f (take k xs)) (f x) ≡ true
    → order.line_from r p (map f (take k xs)) (map f (drop k xs)) ≡ order.line_from r p [] (map f xs)
    → Some (line_of (f x)) ≡ order.broken_line r p (map f xs)
unfolding order.broken_line
found f r p xs k x h e is inv =
    sym (ap (λ b. if b then Some (line_of (f x)) else order.line_from r p (map f (take k xs) ++ f x ∷ []) (map f (drop (k + 1) xs))) is)
    ∙ sym (ap (λ ys. order.line_from r p (map f (take k xs)) (map f ys)) (drop_next xs k x h e))
    ∙ inv

-- a place that keeps a rule on forks leaves the rule's line to the places after it
pub passed : {A : Type 0} (f : A → Place) (r : ForkRule) (p : Pipe) (xs : List A) (k : ℕ) (x : A) → k < length xs → x ≡ get_or xs k x
    → order.breaks_fork_rule r p (map f (take k xs)) (f x) ≡ false
    → order.line_from r p (map f (take k xs)) (map f (drop k xs)) ≡ order.line_from r p [] (map f xs)
    → order.line_from r p (map f (take (k + 1) xs)) (map f (drop (k + 1) xs)) ≡ order.line_from r p [] (map f xs)
passed f r p xs k x h e is inv =
    ap (λ ps. order.line_from r p ps (map f (drop (k + 1) xs))) (ap (map f) (take_next xs k x h e) ∙ map_push f (take k xs) x)
    ∙ sym (ap (λ b. if b then Some (line_of (f x)) else order.line_from r p (map f (take k xs) ++ f x ∷ []) (map f (drop (k + 1) xs))) is)
    ∙ sym (ap (λ ys. order.line_from r p (map f (take k xs)) (map f ys)) (drop_next xs k x h e))
    ∙ inv
