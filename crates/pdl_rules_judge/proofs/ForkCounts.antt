-- Counts of separators and of places inside branches.
use Rattle.std.proofs.Common.{◌≡◌, refl, sym, ap, ap₂, ◌∙◌, ℕ, zero, suc, ◌+◌, ◌-◌, ◌==◌, Bool, true, false, ◌||◌, ◌<◌, List, [], ◌∷◌, ◌++◌, map, take, drop, get_or, length, arith, length-append}
use Rattle.std.specs.List.{list_any}
use Rattle.std.proofs.lemmas.Bool.{true≢false}
use Rattle.std.proofs.lemmas.List.{length-map}
use Rattle.pdl_semantics.specs.Tree.{Span, Expr, Stmt, If, Stmts, Nil, Cons}
use Rattle.pdl_rules.specs.Places.{Place, Branch, guard_of, with_inner, statements}
use Rattle.pdl_rules.specs.Stages.{stage_in}
use Rattle.pdl_rules.specs.Forks.{starts_with_separator, is_in_outer_stage}
use Rattle.pdl_rules_judge.specs.ForkOrder.{is_cut_in}
use Rattle.pdl_word.proofs.Lists.{drop_next}

-- PLACES

-- the number of places goes by the statements alone
mutual
  long_in : (bs cs : List Branch) (s : Stmt) → length (with_inner bs s) ≡ length (with_inner cs s)
  long_in bs cs (If sp c when otherwise) =
      ap suc (length-append (statements (bs ++ record { guard = guard_of sp c; truth = true; inside = when } ∷ []) when) _
      ∙ ap₂ (λ m n. m + n) (long_all _ _ when) (long_all _ _ otherwise)
      ∙ sym (length-append (statements (cs ++ record { guard = guard_of sp c; truth = true; inside = when } ∷ []) when) _))
  long_in bs cs _ = refl

  -- statements have as many places, whichever branches they stand in
  pub long_all : (bs cs : List Branch) (ss : Stmts) → length (statements bs ss) ≡ length (statements cs ss)
  long_all bs cs Nil = refl
  long_all bs cs (Cons s ss) =
      length-append (with_inner bs s) (statements bs ss)
      ∙ ap₂ (λ m n. m + n) (long_in bs cs s) (long_all bs cs ss)
      ∙ sym (length-append (with_inner cs s) (statements cs ss))

-- what an `if` and its branches leave
pub left_if : (sp : Span) (c : Expr) (when otherwise : Stmts) (left : ℕ)
    → left - 1 - length (statements [] when) - length (statements [] otherwise) ≡ left - length (with_inner [] (If sp c when otherwise))
left_if sp c when otherwise left =
    let first = statements (record { guard = guard_of sp c; truth = true; inside = when } ∷ []) when in
    let second = statements (record { guard = guard_of sp c; truth = false; inside = otherwise } ∷ []) otherwise in
    let both = length-append first second in
    let a = long_all (record { guard = guard_of sp c; truth = true; inside = when } ∷ []) [] when in
    let b = long_all (record { guard = guard_of sp c; truth = false; inside = otherwise } ∷ []) [] otherwise in
    omega arith

-- THE PLACE AFTER

-- the n-th place is the first of those after
first_after : {A : Type 0} (f : A → Place) (bs : List Branch) (xs : List A) (n : ℕ) (x : A) → n < length xs → x ≡ get_or xs n x
    → starts_with_separator bs (drop n (map f xs)) ≡ is_cut_in bs (f x)
first_after f bs [] n x h e = absurd (omega arith)
first_after f bs (y ∷ ys) zero x h e = ap (λ z. is_cut_in bs (f z)) (sym e)
first_after f bs (y ∷ ys) (suc n) x h e = first_after f bs ys n x (omega arith) e

-- the places that are left, where there are any, start with a separator in these branches exactly if the first of them is one
pub next_is : {A : Type 0} (f : A → Place) (bs : List Branch) (xs : List A) (n left : ℕ) (x : A)
    → left ≡ length xs - n → (left ≡ 0 → ⊥) → x ≡ get_or xs (length xs - left) x
    → starts_with_separator bs (drop n (map f xs)) ≡ is_cut_in bs (f x)
next_is f bs xs n left x is other e = first_after f bs xs n x low (e ∙ ap (λ k. get_or xs k x) same)
  where
    low : n < length xs
    low = grind (arith, other, is)

    same : length xs - left ≡ n
    same = omega (arith, is, low)

-- OUTER BRANCHES

-- the first elements, each viewed, are the first of the viewed ones
pub take_map : {A B : Type 0} (f : A → B) (n : ℕ) (xs : List A) → map f (take n xs) ≡ take n (map f xs)
take_map f zero xs = refl
take_map f (suc n) [] = refl
take_map f (suc n) (x ∷ xs) = ap (λ ys. f x ∷ ys) (take_map f n xs)

-- all elements but the last, as views
pub all_but_last : {A B : Type 0} (f : A → B) (x : A) (xs : List A) → map f (take (length (x ∷ xs) - 1) (x ∷ xs)) ≡ take (length (map f xs)) (map f (x ∷ xs))
all_but_last f x xs =
    take_map f (length (x ∷ xs) - 1) (x ∷ xs)
    ∙ ap (λ n. take n (map f (x ∷ xs))) (let e = length-map xs f in let same : length (x ∷ xs) - 1 ≡ length (map f xs) = omega (arith, e) in same)

-- whether what stands in some branches stands in the stage of the fork around it, where it stands in one at least
pub outer_stage : {A : Type 0} (f : A → Branch) (before : List Place) (xs : List A) (empty : Bool) (m n : ℕ)
    → empty ≡ (length xs == 0) → empty ≡ false
    → m ≡ stage_in before (map f xs) → n ≡ stage_in before (map f (take (length xs - 1) xs))
    → (m == n) ≡ is_in_outer_stage before (map f xs)
outer_stage f before [] empty m n e g em en = absurd (true≢false (sym e ∙ g))
outer_stage f before (x ∷ xs) empty m n e g em en = ap₂ (λ i j. i == j) em (en ∙ ap (stage_in before) (all_but_last f x xs))

-- ONE OF SOME

-- where the k-th element passes a test, some element from the k-th on does
pub any_found : {A B : Type 0} (f : B → Bool) (g : A → B) (xs : List A) (k : ℕ) (x : A) (whole : Bool)
    → k < length xs → x ≡ get_or xs k x → f (g x) ≡ true → list_any f (map g (drop k xs)) ≡ whole → true ≡ whole
any_found f g xs k x whole h e is inv = sym (ap (λ b. b || list_any f (map g (drop (k + 1) xs))) is)
    ∙ sym (ap (λ ys. list_any f (map g ys)) (drop_next xs k x h e)) ∙ inv

-- where the k-th element fails a test, some element from it on passes exactly if one after it does
pub any_passed : {A B : Type 0} (f : B → Bool) (g : A → B) (xs : List A) (k : ℕ) (x : A) (whole : Bool)
    → k < length xs → x ≡ get_or xs k x → f (g x) ≡ false → list_any f (map g (drop k xs)) ≡ whole
    → list_any f (map g (drop (k + 1) xs)) ≡ whole
any_passed f g xs k x whole h e is inv = sym (ap (λ b. b || list_any f (map g (drop (k + 1) xs))) is)
    ∙ sym (ap (λ ys. list_any f (map g ys)) (drop_next xs k x h e)) ∙ inv
