-- Values and statements one after another.
use Rattle.std.proofs.Common.{◌≡◌, ◌≢◌, ℕ, zero, suc, ◌+◌, ◌-◌, ◌≤◌, map, true, false, List, [], ◌∷◌, ◌++◌, Some, None, Ok, Err, append_assoc, refl, ap, sym, subst, ◌∙◌, arith}
use Rattle.std.proofs.lemmas.List.{map-append}
use Rattle.pdl_semantics.specs.Tree.{Stmt, Stmts, Nil, Cons, stmts_of}
use Rattle.pdl_syntax_tokens.specs.declared.token.Mark.{Mark}
use Rattle.pdl_syntax_tokens.specs.declared.token.Mark.TheVariants as mark
use Rattle.pdl_syntax_tokens.specs.Cursor.{next, first_kind}
use Rattle.pdl_syntax_tokens.specs.Tokens.{Row}
use Rattle.pdl_syntax_grammar.specs.Grammar.{prepend}
use Rattle.pdl_syntax_grammar.specs.Read.{after, after_stmts}
use Rattle.pdl_syntax_cursor.specs.Looks.{is_mark}
use Rattle.pdl_syntax_grammar.specs.Reading.{Outcome, Parser, and_then, goes_on, list_of, listed_by, item, items}

-- ---- statements

prepend_nil : (ss : List Stmt) → prepend ss Nil ≡ stmts_of ss
prepend_nil [] = refl
prepend_nil (s ∷ ss) = ap (λ x. Cons s x) (prepend_nil ss)

prepend_all : (ss ts : List Stmt) (more : Stmts) → prepend (ss ++ ts) more ≡ prepend ss (prepend ts more)
prepend_all [] ts more = refl
prepend_all (x ∷ ss) ts more = ap (λ y. Cons x y) (prepend_all ss ts more)

-- statements that are read after none are those that are read
pub after_no_stmts : (o : Outcome Stmts) → after_stmts [] o ≡ o
after_no_stmts (Ok p) = refl
after_no_stmts (Err n) = refl

-- at the closing brace the items before it are all of them
pub items_end : (room n : ℕ) (ss : List Stmt) (ts : Row) → n ≢ 0
    → is_mark mark.CloseBrace (first_kind ts) ≡ true → after_stmts ss (items room n ts) ≡ Ok (stmts_of ss, ts)
unfolding items
items_end room zero ss ts h e = absurd (h refl)
items_end room (suc n) ss ts h e = rw e (ap (λ x. Ok (x, ts)) (prepend_nil ss))

-- an item that is read comes after those before it, and the items go on after it
pub items_item : (room n m : ℕ) (ss s : List Stmt) (ts r : Row) → n ≡ m + 1
    → is_mark mark.CloseBrace (first_kind ts) ≡ false → item room (items room m) ts ≡ Ok (s, r) →
    after_stmts ss (items room n ts) ≡ after_stmts (ss ++ s) (items room m r)
unfolding items
items_item room zero m ss s ts r c h e = absurd (omega arith)
items_item room (suc n) m ss s ts r c h e =
    let is : m ≡ n = omega arith in
    let f : item room (items room n) ts ≡ Ok (s, r) = subst (λ k. item room (items room k) ts ≡ Ok (s, r)) is e in
    rw is (rw (h, f) (go (items room n r)))
  where
    go : (o : Outcome Stmts) → after_stmts ss (and_then o (λ xs t. Ok (prepend s xs, t))) ≡ after_stmts (ss ++ s) o
    go (Ok p) = ap (λ x. Ok (x, p.1)) (sym (prepend_all ss s p.0))
    go (Err n) = refl

-- where an item is refused, the items are refused at the same tokens
pub items_fails : (room n m : ℕ) (ss : List Stmt) (ts left : Row) → n ≡ m + 1
    → is_mark mark.CloseBrace (first_kind ts) ≡ false → item room (items room m) ts ≡ Err left →
    after_stmts ss (items room n ts) ≡ Err left
unfolding items
items_fails room zero m ss ts left c h e = absurd (omega arith)
items_fails room (suc n) m ss ts left c h e =
    let is : m ≡ n = omega arith in
    let f : item room (items room n) ts ≡ Err left = subst (λ k. item room (items room k) ts ≡ Err left) is e in
    rw (h, f) refl

-- where there is no room for an item, the tokens are refused
pub items_stuck : (room n : ℕ) (ss : List Stmt) (ts : Row) → n ≡ 0 → after_stmts ss (items room n ts) ≡ Err ts
unfolding items
items_stuck room n ss ts e = rw e refl

-- ---- values with commas between them

listed_of : {A : Type 0} (p : Parser A) (close : Mark) (n m : ℕ) (xs : List A) (x : A) (ts r : Row) → n ≡ m + 1 → p ts ≡ Ok (x, r) →
    after xs (list_of p close n ts) ≡ after xs (listed_by (list_of p close m) x (goes_on close (first_kind r)) r)
unfolding list_of
listed_of p close zero m xs x ts r c e = absurd (omega arith)
listed_of p close (suc n) m xs x ts r c e = let is : m ≡ n = omega arith in rw is (rw e refl)

-- a value that a comma follows comes after those before it, and the list goes on after the comma
pub listed_more : {A : Type 0} (p : Parser A) (close : Mark) (n m : ℕ) (xs : List A) (x : A) (ts r : Row) → n ≡ m + 1
    → p ts ≡ Ok (x, r) → goes_on close (first_kind r) ≡ Some true →
    after xs (list_of p close n ts) ≡ after (xs ++ x ∷ []) (list_of p close m (next r))
listed_more {A = A} p close n m xs x ts r c e k = listed_of p close n m xs x ts r c e ∙ rw k (go (list_of p close m (next r)))
  where
    go : (o : Outcome (List A)) → after xs (and_then o (λ ys t. Ok (x ∷ ys, t))) ≡ after (xs ++ x ∷ []) o
    go (Ok p) = ap (λ y. Ok (y, p.1)) (sym (append_assoc xs (x ∷ []) p.0))
    go (Err n) = refl

listed_last : {A : Type 0} (p : Parser A) (close : Mark) (n m : ℕ) (xs : List A) (x : A) (ts r : Row) → n ≡ m + 1
    → p ts ≡ Ok (x, r) → goes_on close (first_kind r) ≡ Some false →
    after xs (list_of p close n ts) ≡ Ok (xs ++ x ∷ [], next r)
listed_last p close n m xs x ts r c e k = listed_of p close n m xs x ts r c e ∙ rw k refl

listed_stuck : {A : Type 0} (p : Parser A) (close : Mark) (n m : ℕ) (xs : List A) (x : A) (ts r : Row) → n ≡ m + 1
    → p ts ≡ Ok (x, r) → goes_on close (first_kind r) ≡ None →
    after xs (list_of p close n ts) ≡ Err r
listed_stuck p close n m xs x ts r c e k = listed_of p close n m xs x ts r c e ∙ rw k refl

listed_fails : {A : Type 0} (p : Parser A) (close : Mark) (n : ℕ) (xs : List A) (ts left : Row) → n ≢ 0
    → p ts ≡ Err left → after xs (list_of p close n ts) ≡ Err left
unfolding list_of
listed_fails p close zero xs ts left h e = absurd (h refl)
listed_fails p close (suc n) xs ts left h e = rw e refl

-- where there is no room for a value, the tokens are refused
pub listed_none : {A : Type 0} (p : Parser A) (close : Mark) (n : ℕ) (xs : List A) (ts : Row)
    → n ≡ 0 → after xs (list_of p close n ts) ≡ Err ts
unfolding list_of
listed_none p close n xs ts e = rw e refl

-- ---- the same of a loop that reads values, where `done` were read and x is the next

module _ {A B : Type 0} (view : B → A) (p : Parser A) (close : Mark) where
  one_more : (done now : List B) (x : B) → now ≡ done ++ x ∷ [] → map view now ≡ map view done ++ view x ∷ []
  one_more done now x e = rw e (map-append view done (x ∷ []))

  -- where a comma follows x, the list goes on after the comma with x among what was read
  pub value_more : (n m : ℕ) (done now : List B) (x : B) (ts r left : Row) → n ≡ m + 1 → p ts ≡ Ok (view x, r)
      → goes_on close (first_kind r) ≡ Some true → now ≡ done ++ x ∷ [] → left ≡ next r →
      after (map view done) (list_of p close n ts) ≡ after (map view now) (list_of p close m left)
  value_more n m done now x ts r left c e k i j = rw (one_more done now x i, j) (listed_more p close n m (map view done) (view x) ts r c e k)

  -- where the closer follows x, the values that were read and x are the list
  pub value_last : (n : ℕ) (done now : List B) (x : B) (ts r left : Row) → 1 ≤ n → p ts ≡ Ok (view x, r)
      → goes_on close (first_kind r) ≡ Some false → now ≡ done ++ x ∷ [] → left ≡ next r →
      after (map view done) (list_of p close n ts) ≡ Ok (map view now, left)
  value_last n done now x ts r left c e k i j = rw (one_more done now x i, j) (listed_last p close n (n - 1) (map view done) (view x) ts r (omega arith) e k)

  -- where neither a comma nor the closer follows x, the tokens after x are refused
  pub value_stuck : (n : ℕ) (done : List B) (x : B) (ts r : Row) → 1 ≤ n → p ts ≡ Ok (view x, r)
      → goes_on close (first_kind r) ≡ None → after (map view done) (list_of p close n ts) ≡ Err r
  value_stuck n done x ts r c e k = listed_stuck p close n (n - 1) (map view done) (view x) ts r (omega arith) e k

  -- where the next value is refused, the list is refused at the same tokens
  pub value_fails : (n : ℕ) (done : List B) (ts left : Row) → 1 ≤ n → p ts ≡ Err left → after (map view done) (list_of p close n ts) ≡ Err left
  value_fails n done ts left c e = listed_fails p close n (map view done) ts left (λ z. omega arith) e

-- values that are read after none are those that are read
pub after_nothing : {A : Type 0} (o : Outcome (List A)) → after [] o ≡ o
after_nothing (Ok p) = refl
after_nothing (Err n) = refl
