-- The statements of a text, in the order of its tokens: the `if`s on expressions begin at bytes that ascend, and each variable that is bound has letters.
use Rattle.std.proofs.Common.{◌≡◌, refl, sym, ap, subst, ◌∙◌, ℕ, suc, ◌≤◌, true, false, List, [], ◌∷◌, ◌++◌, append_assoc, arith}
use Rattle.std.specs.Prelude.{⊤}
use Rattle.pdl_semantics.specs.Tree.{Span, Expr, Constant, Variable, Slice, Not, Binary, Cat, LessSigned, ZeroExtend, SignExtend, Choose, Stmt, If, Stmts, Nil}
use Rattle.pdl_syntax_tokens.specs.Tokens.{Row}
use Rattle.pdl_syntax_grammar.specs.Grammar.{across, prepend, Item, separating, reading, binding, guessing, fetching, writing, reserving, acquiring, blocking, releasing, branching, choosing, calling, verifying, updating, checking, barring, Items, none, more}
use Rattle.pdl_rules.specs.Places.{Place, Branch, guard_of, with_inner, statements}
use Rattle.pdl_rules.specs.Names.{OfVariable, defines_use}
use Rattle.pdl_source_paths.specs.Source.{own_start, start_of}
use Rattle.pdl_source_paths.proofs.IfBytes.{Next}
use Rattle.pdl_source.proofs.Words.{Stand, from, letters, rest, sooner, later}
use Rattle.pdl_source.proofs.RemainingTokens.{after_full, after_args}

-- places from byte n on in the order of a text
abbrev pub Ordered : ℕ → List Place → Type 0
Ordered n [] = ⊤
Ordered n (x ∷ xs) = (defines_use (OfVariable []) x ≡ false) × Next n (own_start x) (λ m. Ordered m xs)

-- the places of what stands after the tokens of a part, wherever those begin
abbrev pub Follows : Row → List Place → Type 0
Follows r xs = (n : ℕ) → Stand n r → Ordered n xs

-- an `if` on an expression begins where its first token does
branch : (n : ℕ) (s : Span) (v : Expr) (xs : List Place)
    → n ≤ s.start → ((m : ℕ) → m ≤ suc s.start → Ordered m xs) → Next n (start_of (guard_of s v)) (λ m. Ordered m xs)
branch n s (Constant l) xs le h = (le, h (suc s.start) (omega arith))
branch n s (Variable x) xs le h = h n (omega arith)
branch n s (Slice x high low) xs le h = (le, h (suc s.start) (omega arith))
branch n s (Not a) xs le h = (le, h (suc s.start) (omega arith))
branch n s (Binary op a b) xs le h = (le, h (suc s.start) (omega arith))
branch n s (Cat a b) xs le h = (le, h (suc s.start) (omega arith))
branch n s (LessSigned a b) xs le h = (le, h (suc s.start) (omega arith))
branch n s (ZeroExtend a w) xs le h = (le, h (suc s.start) (omega arith))
branch n s (SignExtend a w) xs le h = (le, h (suc s.start) (omega arith))
branch n s (Choose c a b) xs le h = (le, h (suc s.start) (omega arith))

-- the places of some statements, and then others
abbrev placed : List Branch → List Stmt → List Place → List Place
placed bs [] xs = xs
placed bs (s ∷ ss) xs = with_inner bs s ++ placed bs ss xs

placed_first : (bs : List Branch) (ss : List Stmt) (others : Stmts) (xs : List Place)
    → placed bs ss (statements bs others ++ xs) ≡ statements bs (prepend ss others) ++ xs
placed_first bs [] others xs = refl
placed_first bs (s ∷ ss) others xs =
    ap (λ l. with_inner bs s ++ l) (placed_first bs ss others xs) ∙ sym (append_assoc (with_inner bs s) (statements bs (prepend ss others)) xs)

-- an `if` with what stands in it
if_ordered : (bs : List Branch) (s : Span) (v : Expr) (first second : Stmts) (n : ℕ) (xs : List Place) → n ≤ s.start →
    ((m : ℕ) → m ≤ suc s.start → (one two : List Branch) → Ordered m (statements one first ++ (statements two second ++ xs)))
    → Ordered n (with_inner bs (If s v first second) ++ xs)
if_ordered bs s v first second n xs le h =
    let one : List Branch = bs ++ record { guard = guard_of s v; truth = true; inside = first } ∷ [] in
    let two : List Branch = bs ++ record { guard = guard_of s v; truth = false; inside = second } ∷ [] in
    (refl, branch n s v _ le (λ m low. subst (Ordered m) (sym (append_assoc (statements one first) (statements two second) xs)) (h m low one two)))

mutual
  item_ordered : (ss : List Stmt) (a r : Row) → Item ss a r → (bs : List Branch) (xs : List Place) → Follows r xs → Follows a (placed bs ss xs)
  item_ordered ss a r separating bs xs f n h = (refl, f n (later 1 h))
  item_ordered ss a r reading bs xs f n h = (letters h refl, f n (later 7 h))
  item_ordered ss a r (binding v) bs xs f n h = (letters h refl, f n (later 1 (after_full _ _ _ v n (later 2 h))))
  item_ordered ss a r (guessing v) bs xs f n h = (refl, f n (later 1 (after_args _ _ _ _ v n (later 4 h))))
  item_ordered ss a r fetching bs xs f n h = (letters h refl, f n (later 7 h))
  item_ordered ss a r (writing v) bs xs f n h = (refl, f n (later 1 (after_full _ _ _ v n (later 5 h))))
  item_ordered ss a r reserving bs xs f n h = (refl, f n (later 10 h))
  item_ordered ss a r acquiring bs xs f n h = (refl, (refl, f n (later 10 h)))
  item_ordered ss a r blocking bs xs f n h = (refl, f n (later 8 h))
  item_ordered ss a r releasing bs xs f n h = (refl, f n (later 8 h))
  item_ordered ss a r (branching {w = w} {e = e} v i) bs xs f n h =
      if_ordered bs (across w.span e.span) _ _ Nil n xs (from h)
      (λ m low one two. items_ordered _ _ _ i one xs (λ k g. f k (later 1 g)) m (later 2 (after_full _ _ _ v m (later 1 (sooner m low (rest h))))))
  item_ordered ss a r (choosing {w = w} {e = e} v i j) bs xs f n h =
      if_ordered bs (across w.span e.span) _ _ _ n xs (from h) (λ m low one two.
      items_ordered _ _ _ i one _ (λ k g. items_ordered _ _ _ j two xs (λ l t. f l (later 1 t)) k (later 3 g)) m
      (later 2 (after_full _ _ _ v m (later 1 (sooner m low (rest h))))))
  item_ordered ss a r (calling v) bs xs f n h = (refl, f n (later 1 (after_args _ _ _ _ v n (later 2 h))))
  item_ordered ss a r (verifying v) bs xs f n h = (refl, f n (later 1 (after_args _ _ _ _ v n (later 4 h))))
  item_ordered ss a r (updating v) bs xs f n h = (refl, f n (later 1 (after_args _ _ _ _ v n (later 4 h))))
  item_ordered ss a r checking bs xs f n h = (refl, f n (later 4 h))
  item_ordered ss a r barring bs xs f n h = (refl, f n (later 4 h))

  -- statements with what stands after them are in the order of their tokens, where what stands after them is
  pub items_ordered : (ss : Stmts) (a r : Row) → Items ss a r → (bs : List Branch) (xs : List Place) → Follows r xs → Follows a (statements bs ss ++ xs)
  items_ordered ss a r none bs xs f n h = f n h
  items_ordered ss a r (more i is) bs xs f n h =
      subst (Ordered n) (placed_first bs _ _ xs) (item_ordered _ _ _ i bs _ (items_ordered _ _ _ is bs xs f) n h)
