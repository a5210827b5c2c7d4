-- A path that leads into some branches leads into the outer ones of them.
use Rattle.std.proofs.Common.{◌≡◌, refl, sym, ap, ◌∙◌, subst, ℕ, zero, suc, ◌+◌, ◌<◌, ◌≤◌, Bool, true, List, [], ◌∷◌, map, take, length, get_or, arith}
use Rattle.std.specs.List.{list_all}
use Rattle.std.proofs.lemmas.Bool.{and_parts, and_from}
use Rattle.pdl_rules.specs.Places.{Guard, Branch, is_taken}
use Rattle.pdl_paths.specs.Guards.{branch_view}
use Rattle.pdl_paths.specs.declared.branch.Branch.{Branch as r_branch}

nth_taken : (t : Branch → Bool) (xs : List r_branch) (i : ℕ) (x : r_branch)
    → i < length xs → x ≡ get_or xs i x → list_all t (map branch_view xs) ≡ true → t (branch_view x) ≡ true
nth_taken t [] i x l e h = absurd (omega (arith, l))
nth_taken t (y ∷ ys) zero x l e h = ap (λ z. t (branch_view z)) e ∙ (and_parts (t (branch_view y)) (list_all t (map branch_view ys)) h).0
nth_taken t (y ∷ ys) (suc i) x l e h = nth_taken t ys i x (omega (arith, l)) e (and_parts (t (branch_view y)) (list_all t (map branch_view ys)) h).1

all_more : (t : Branch → Bool) (xs : List r_branch) (i : ℕ) (x : r_branch)
    → i < length xs → x ≡ get_or xs i x → t (branch_view x) ≡ true → list_all t (map branch_view (take i xs)) ≡ true
    → list_all t (map branch_view (take (suc i) xs)) ≡ true
all_more t [] i x l e k h = absurd (omega (arith, l))
all_more t (y ∷ ys) zero x l e k h = and_from _ _ (ap (λ z. t (branch_view z)) (sym e) ∙ k) refl
all_more t (y ∷ ys) (suc i) x l e k h =
    let parts = and_parts (t (branch_view y)) (list_all t (map branch_view (take i ys))) h in
    and_from _ _ parts.0 (all_more t ys i x (omega (arith, l)) e k parts.1)

-- one branch more that is the same in both
pub one_branch : (path : List Guard) (outer inner : List r_branch) (i : ℕ) (a b : r_branch)
    → i < length outer → i < length inner → a ≡ get_or outer i a → b ≡ get_or inner i b
    → is_taken path (branch_view a) ≡ is_taken path (branch_view b)
    → list_all (is_taken path) (map branch_view inner) ≡ true
    → list_all (is_taken path) (map branch_view (take i outer)) ≡ true
    → list_all (is_taken path) (map branch_view (take (i + 1) outer)) ≡ true
one_branch path outer inner i a b l m is_a is_b e all h =
    let next : suc i ≡ i + 1 = omega arith in
    subst (λ n. list_all (is_taken path) (map branch_view (take n outer)) ≡ true) next
    (all_more (is_taken path) outer i a l is_a (e ∙ nth_taken (is_taken path) inner i b m is_b all) h)

taken : (bs : List r_branch) (n : ℕ) → length bs ≤ n → take n bs ≡ bs
taken [] zero l = refl
taken [] (suc n) l = refl
taken (b ∷ bs) zero l = absurd (omega (arith, l))
taken (b ∷ bs) (suc n) l = ap (λ cs. b ∷ cs) (taken bs n (omega (arith, l)))

-- a path that takes the first i of some branches takes all of them, where there are no more than i
pub all_branches : (path : List Guard) (outer : List r_branch) (i : ℕ)
    → length outer ≤ i → list_all (is_taken path) (map branch_view (take i outer)) ≡ true
    → list_all (is_taken path) (map branch_view outer) ≡ true
all_branches path outer i l h = subst (λ bs. list_all (is_taken path) (map branch_view bs) ≡ true) (taken outer i l) h
