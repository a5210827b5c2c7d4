-- The stage that the rules read in a text: that of the last separator before a place whose branches the place stands in too.
use Rattle.std.proofs.Common.{◌≡◌, refl, sym, ap, ◌∙◌, subst, ℕ, suc, ◌+◌, Bool, true, false, ◌&&◌, List, [], ◌∷◌, ◌++◌, append_assoc, append-nil, arith, cond, if◌then◌else◌}
use Rattle.std.proofs.lemmas.Bool.{and_from}
use Rattle.pdl_semantics.specs.Tree.{Span, Expr, Stmt, Separator, If, Stmts, Nil, Cons}
use Rattle.pdl_rules.specs.Places.{Place, Statement, Branch, same_guard, same_truth, with_inner, statements}
use Rattle.pdl_rules.specs.Limits.{is_separator}
use Rattle.pdl_rules.specs.Stages.{same_branch, are_outer, branches_of, stage_from, stage_in}
use Rattle.pdl_source_stages.proofs.Sites.{branch}
use Rattle.pdl_source_stages.proofs.Walks.{cut, cut_append}
use Rattle.pdl_rules.proofs.Guards.{guard_refl}

-- BRANCHES

truth_same : (b : Bool) → same_truth b b ≡ true
truth_same true = refl
truth_same false = refl

same_self : (b : Branch) → same_branch b b ≡ true
same_self b = and_from (same_guard b.guard b.guard) (same_truth b.truth b.truth) (guard_refl b.guard) (truth_same b.truth)

-- what stands in more branches stands in these
pub outer_more : (bs more : List Branch) → are_outer bs (bs ++ more) ≡ true
outer_more [] more = refl
outer_more (b ∷ bs) more = and_from (same_branch b b) (are_outer bs (bs ++ more)) (same_self b) (outer_more bs more)

-- whether some branches are outer to others is told by what they have more than those that both have
outer_both : (bs xs ys : List Branch) → are_outer (bs ++ xs) (bs ++ ys) ≡ are_outer xs ys
outer_both [] xs ys = refl
outer_both (b ∷ bs) xs ys = ap (λ c. c && are_outer (bs ++ xs) (bs ++ ys)) (same_self b) ∙ outer_both bs xs ys

-- what stands in a branch more doesn't stand around
pub outer_less : (bs : List Branch) (b : Branch) (xs : List Branch) → are_outer (bs ++ b ∷ xs) bs ≡ false
outer_less bs b xs = ap (are_outer (bs ++ b ∷ xs)) (sym (append-nil bs)) ∙ outer_both bs (b ∷ xs) []

-- what stands in the first branch of an `if` doesn't stand in the second, nor the other way round
pub sides_differ : (sp : Span) (c : Expr) (first : Bool) (when otherwise : Stmts) (bs xs more : List Branch)
    → are_outer (bs ++ branch sp c first when ∷ xs) (bs ++ branch sp c (if first then false else true) otherwise ∷ more) ≡ false
sides_differ sp c first when otherwise bs xs more =
    outer_both bs (branch sp c first when ∷ xs) (branch sp c (if first then false else true) otherwise ∷ more)
    ∙ at first (same_guard (branch sp c true when).guard (branch sp c true otherwise).guard)
  where
    at : (first b : Bool) → ((b && same_truth first (if first then false else true)) && are_outer xs more) ≡ false
    at true true = refl
    at true false = refl
    at false true = refl
    at false false = refl

-- STAGES BY THE TEXT

-- the stage that two lists of places lead to is the one that the second leads to from that of the first
pub from_append : (begun found : ℕ) (bs : List Branch) (xs ys : List Place)
    → stage_from begun found bs (xs ++ ys) ≡ stage_from (begun + cut xs) (stage_from begun found bs xs) bs ys
from_append begun found bs [] ys = ap (λ n. stage_from n found bs ys) (let e : begun ≡ begun + 0 = omega arith in e)
from_append begun found bs (x ∷ xs) ys =
    at (is_separator x) refl (from_append (suc begun) (if are_outer (branches_of x) bs then suc begun else found) bs xs ys) (from_append begun found bs xs ys)
  where
    at : (b : Bool) → is_separator x ≡ b
        → stage_from (suc begun) (if are_outer (branches_of x) bs then suc begun else found) bs (xs ++ ys)
        ≡ stage_from (suc begun + cut xs) (stage_from (suc begun) (if are_outer (branches_of x) bs then suc begun else found) bs xs) bs ys
        → stage_from begun found bs (xs ++ ys) ≡ stage_from (begun + cut xs) (stage_from begun found bs xs) bs ys
        → (if b then stage_from (suc begun) (if are_outer (branches_of x) bs then suc begun else found) bs (xs ++ ys) else stage_from begun found bs (xs ++ ys))
        ≡ stage_from (begun + cut (x ∷ xs))
        (if b then stage_from (suc begun) (if are_outer (branches_of x) bs then suc begun else found) bs xs else stage_from begun found bs xs) bs ys
    at true e h k =
        h ∙ ap (λ n. stage_from n (stage_from (suc begun) (if are_outer (branches_of x) bs then suc begun else found) bs xs) bs ys)
        (let f = cut_append (x ∷ []) xs in let g : cut (x ∷ []) ≡ 1 = ap (λ b. 0 + cond b 1 0) e in
        let i : suc begun + cut xs ≡ begun + cut (x ∷ xs) = omega arith in i)
    at false e h k =
        k ∙ ap (λ n. stage_from n (stage_from begun found bs xs) bs ys)
        (let f = cut_append (x ∷ []) xs in let g : cut (x ∷ []) ≡ 0 = ap (λ b. 0 + cond b 1 0) e in
        let i : begun + cut xs ≡ begun + cut (x ∷ xs) = omega arith in i)

-- without a separator nothing new is found
pub from_none : (begun found : ℕ) (bs : List Branch) (xs : List Place) → cut xs ≡ 0 → stage_from begun found bs xs ≡ found
from_none begun found bs [] e = refl
from_none begun found bs (x ∷ xs) e = at (is_separator x) refl (from_none begun found bs xs)
  where
    at : (b : Bool) → is_separator x ≡ b → (cut xs ≡ 0 → stage_from begun found bs xs ≡ found)
        → (if b then stage_from (suc begun) (if are_outer (branches_of x) bs then suc begun else found) bs xs else stage_from begun found bs xs) ≡ found
    at true f k = absurd (let g = cut_append (x ∷ []) xs in let h : cut (x ∷ []) ≡ 1 = ap (λ b. 0 + cond b 1 0) f in omega arith)
    at false f k = k (let g = cut_append (x ∷ []) xs in omega arith)

-- where all separators stand in other branches nothing new is found
mutual
  skip_in : (begun found : ℕ) (cs ds xs : List Branch) (s : Stmt) → ((xs : List Branch) → are_outer (ds ++ xs) cs ≡ false)
      → stage_from begun found cs (with_inner (ds ++ xs) s) ≡ found
  skip_in begun found cs ds xs (Separator sp) h = ap (λ c. if c then suc begun else found) (h xs)
  skip_in begun found cs ds xs (If sp c when otherwise) h =
      from_append begun found cs (statements ((ds ++ xs) ++ branch sp c true when ∷ []) when)
      (statements ((ds ++ xs) ++ branch sp c false otherwise ∷ []) otherwise)
      ∙ subst
      (λ l. stage_from (begun + cut (statements ((ds ++ xs) ++ branch sp c true when ∷ []) when))
      (stage_from begun found cs (statements ((ds ++ xs) ++ branch sp c true when ∷ []) when)) cs (statements l otherwise)
      ≡ stage_from begun found cs (statements ((ds ++ xs) ++ branch sp c true when ∷ []) when))
      (sym (append_assoc ds xs (branch sp c false otherwise ∷ [])))
      (skip_all (begun + cut (statements ((ds ++ xs) ++ branch sp c true when ∷ []) when)) _ cs ds (xs ++ branch sp c false otherwise ∷ []) otherwise h)
      ∙ subst (λ l. stage_from begun found cs (statements l when) ≡ found) (sym (append_assoc ds xs (branch sp c true when ∷ [])))
      (skip_all begun found cs ds (xs ++ branch sp c true when ∷ []) when h)
  skip_in begun found cs ds xs _ h = refl

  -- statements all of which stand in branches that are not around leave the stage
  pub skip_all : (begun found : ℕ) (cs ds xs : List Branch) (ss : Stmts) → ((xs : List Branch) → are_outer (ds ++ xs) cs ≡ false)
      → stage_from begun found cs (statements (ds ++ xs) ss) ≡ found
  skip_all begun found cs ds xs Nil h = refl
  skip_all begun found cs ds xs (Cons s ss) h =
      from_append begun found cs (with_inner (ds ++ xs) s) (statements (ds ++ xs) ss)
      ∙ skip_all (begun + cut (with_inner (ds ++ xs) s)) _ cs ds xs ss h
      ∙ skip_in begun found cs ds xs s h

-- WALKS

-- whatever stands in these branches stands in this stage
abbrev pub Reads : List Place → List Branch → ℕ → Type 0
Reads front bs n = (more : List Branch) → stage_in front (bs ++ more) ≡ n

-- what stands in just these branches stands in the stage that whatever stands in them does
pub reads_here : (front : List Place) (bs : List Branch) (n : ℕ) → Reads front bs n → stage_in front bs ≡ n
reads_here front bs n h = subst (λ l. stage_in front l ≡ n) (append-nil bs) (h [])

-- places without a separator leave the stage
pub reads_none : (front more : List Place) (bs : List Branch) (n : ℕ) → cut more ≡ 0 → Reads front bs n → Reads (front ++ more) bs n
reads_none front more bs n e h cs = from_append 0 0 (bs ++ cs) front more ∙ from_none (0 + cut front) _ (bs ++ cs) more e ∙ h cs

-- what stands in one branch more stands in the same stage
pub reads_inner : (front : List Place) (bs : List Branch) (b : Branch) (n : ℕ) → Reads front bs n → Reads front (bs ++ b ∷ []) n
reads_inner front bs b n h cs = ap (stage_in front) (append_assoc bs (b ∷ []) cs) ∙ h (b ∷ cs)

-- a separator begins the next stage
pub reads_cut : (front : List Place) (bs : List Branch) (sp : Span) → Reads (front ++ Statement (Separator sp) bs ∷ []) bs (suc (cut front))
reads_cut front bs sp cs =
    from_append 0 0 (bs ++ cs) front (Statement (Separator sp) bs ∷ [])
    ∙ ap (λ c. if c then suc (0 + cut front) else stage_from 0 0 (bs ++ cs) front) (outer_more bs cs)
    ∙ (let e : suc (0 + cut front) ≡ suc (cut front) = omega arith in e)

-- the first branch of an `if` begins in the stage of the `if`
pub reads_first : (front : List Place) (bs : List Branch) (sp : Span) (c : Expr) (when otherwise : Stmts) (n : ℕ) → Reads front bs n
    → Reads (front ++ Statement (If sp c when otherwise) bs ∷ []) (bs ++ branch sp c true when ∷ []) n
reads_first front bs sp c when otherwise n h =
    reads_inner (front ++ Statement (If sp c when otherwise) bs ∷ []) bs (branch sp c true when) n
    (reads_none front (Statement (If sp c when otherwise) bs ∷ []) bs n refl h)

-- and so does the second
pub reads_second : (front : List Place) (bs : List Branch) (sp : Span) (c : Expr) (when otherwise : Stmts) (n : ℕ) → Reads front bs n
    → Reads (front ++ Statement (If sp c when otherwise) bs ∷ statements (bs ++ branch sp c true when ∷ []) when) (bs ++ branch sp c false otherwise ∷ []) n
reads_second front bs sp c when otherwise n h cs =
    ap (stage_in (front ++ Statement (If sp c when otherwise) bs ∷ statements (bs ++ branch sp c true when ∷ []) when))
    (append_assoc bs (branch sp c false otherwise ∷ []) cs)
    ∙ from_append 0 0 (bs ++ branch sp c false otherwise ∷ cs) front
    (Statement (If sp c when otherwise) bs ∷ statements (bs ++ branch sp c true when ∷ []) when)
    ∙ subst
    (λ l. stage_from (0 + cut front) (stage_in front (bs ++ branch sp c false otherwise ∷ cs)) (bs ++ branch sp c false otherwise ∷ cs) (statements l when)
    ≡ stage_in front (bs ++ branch sp c false otherwise ∷ cs))
    (append-nil (bs ++ branch sp c true when ∷ []))
    (skip_all (0 + cut front) _ (bs ++ branch sp c false otherwise ∷ cs) (bs ++ branch sp c true when ∷ []) [] when
    (λ xs. ap (λ l. are_outer l (bs ++ branch sp c false otherwise ∷ cs)) (append_assoc bs (branch sp c true when ∷ []) xs)
    ∙ sides_differ sp c true when otherwise bs xs cs))
    ∙ h (branch sp c false otherwise ∷ cs)

-- what stands in the branches of an `if` leaves the stage of what stands around it
pub past_branch : (begun found : ℕ) (bs : List Branch) (b : Branch) (ss : Stmts) → stage_from begun found bs (statements (bs ++ b ∷ []) ss) ≡ found
past_branch begun found bs b ss =
    subst (λ l. stage_from begun found bs (statements l ss) ≡ found) (append-nil (bs ++ b ∷ []))
    (skip_all begun found bs (bs ++ b ∷ []) [] ss (λ xs. ap (λ l. are_outer l bs) (append_assoc bs (b ∷ []) xs) ∙ outer_less bs b xs))

-- after an `if` what stands around it stands in the stage of the `if`
pub past_if : (front : List Place) (bs : List Branch) (sp : Span) (c : Expr) (when otherwise : Stmts)
    → stage_in (front ++ with_inner bs (If sp c when otherwise)) bs ≡ stage_in front bs
past_if front bs sp c when otherwise =
    from_append 0 0 bs front (with_inner bs (If sp c when otherwise))
    ∙ from_append (0 + cut front) (stage_in front bs) bs (statements (bs ++ branch sp c true when ∷ []) when)
    (statements (bs ++ branch sp c false otherwise ∷ []) otherwise)
    ∙ past_branch (0 + cut front + cut (statements (bs ++ branch sp c true when ∷ []) when)) _ bs (branch sp c false otherwise) otherwise
    ∙ past_branch (0 + cut front) _ bs (branch sp c true when) when
