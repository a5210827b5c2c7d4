-- Kinds of which a path has one statement at most.
use Rattle.std.proofs.Common.{◌≡◌, refl, sym, ap, ap₂, ◌∙◌, Bool, true, false, ◌&&◌, ◌||◌, not, List, [], ◌∷◌, ◌++◌}
use Rattle.pdl_semantics.specs.Flat.{Op, Call, SpecCall, Stmt}
use Rattle.pdl_semantics.specs.Stages.{list_any}
use Rattle.pdl_semantics.specs.Sound.{is_call, is_spec_call}
use Rattle.pdl_theory_turns.specs.Scans.{none_of}
use Rattle.pdl_theory_turns.specs.GuessScans.{once}
use Rattle.pdl_theory_simulation.proofs.FlowFacts.{call_ok, calls_ok}
use Rattle.pdl_theory_turns.proofs.Writes.{and_left, and_right}

-- whether some statement is of this kind
abbrev pub has_any : (Op → Bool) → List Stmt → Bool
has_any test xs = list_any (λ x. test x.op) xs

-- in two lists of statements one is of a kind where one is in the first or in the second
pub any_append : (test : Op → Bool) (xs ys : List Stmt) → has_any test (xs ++ ys) ≡ (has_any test xs || has_any test ys)
any_append test [] ys = refl
any_append test (x ∷ xs) ys = ap (λ b. test x.op || b) (any_append test xs ys) ∙ sym (or_assoc (test x.op) (has_any test xs) (has_any test ys))
  where
    or_assoc : (a b c : Bool) → ((a || b) || c) ≡ (a || (b || c))
    or_assoc true b c = refl
    or_assoc false b c = refl

-- none is of a kind where not one is
pub none_any : (test : Op → Bool) (xs : List Stmt) → none_of test xs ≡ not (has_any test xs)
none_any test [] = refl
none_any test (x ∷ xs) = ap (λ b. not (test x.op) && b) (none_any test xs) ∙ both (test x.op) (has_any test xs)
  where
    both : (a b : Bool) → (not a && not b) ≡ not (a || b)
    both true b = refl
    both false b = refl

-- a kind stands once at most in a first part of statements where it does in all of them
pub once_front : (test : Op → Bool) (been : Bool) (xs ys : List Stmt) → once test been (xs ++ ys) ≡ true → once test been xs ≡ true
once_front test been [] ys h = refl
once_front test been (x ∷ xs) ys h = ap₂ (λ a b. a && b) (and_left _ _ h) (once_front test (been || test x.op) xs ys (and_right _ _ h))

-- and in a second part, after the first
pub once_back : (test : Op → Bool) (been : Bool) (xs ys : List Stmt) → once test been (xs ++ ys) ≡ true → once test (been || has_any test xs) ys ≡ true
once_back test been [] ys h = ap (λ b. once test b ys) (or_false been) ∙ h
  where
    or_false : (b : Bool) → (b || false) ≡ b
    or_false true = refl
    or_false false = refl
once_back test been (x ∷ xs) ys h =
    ap (λ b. once test b ys) (sym (or_assoc been (test x.op) (has_any test xs)))
    ∙ once_back test (been || test x.op) xs ys (and_right _ _ h)
  where
    or_assoc : (a b c : Bool) → ((a || b) || c) ≡ (a || (b || c))
    or_assoc true b c = refl
    or_assoc false b c = refl

-- after one statement of the kind there is no other
pub once_only : (test : Op → Bool) (xs : List Stmt) → once test true xs ≡ true → none_of test xs ≡ true
once_only test [] h = refl
once_only test (x ∷ xs) h = ap₂ (λ a b. a && b) (and_left _ _ h) (once_only test xs (and_right (not (test x.op)) _ h))

-- where calls are in order, a guess is made once at most
pub once_called : (been called : Bool) (xs : List Stmt)
    → (been ≡ true → called ≡ true) → calls_ok called xs ≡ true → once is_spec_call been xs ≡ true
once_called been called [] f h = refl
once_called been called (x ∷ xs) f h =
    ap₂ (λ a b. a && b) (first been called (is_call x.op) (is_spec_call x.op) f (kind x.op) (and_left _ _ (and_left _ _ h)))
    (once_called (been || is_spec_call x.op) (called || is_call x.op) xs (λ e. more been called (is_call x.op) (is_spec_call x.op) f (kind x.op) e)
    (and_right (call_ok called x.op) _ h))
  where
    kind : (op : Op) → is_spec_call op ≡ true → is_call op ≡ true
    kind (SpecCall args) e = refl
    kind (Call args) e = refl
    kind _ e = absurd (cc e)

    first : (a b c d : Bool) → (a ≡ true → b ≡ true) → (d ≡ true → c ≡ true) → not (b && c) ≡ true → not (a && d) ≡ true
    first true b c true f g h = absurd (cc (sym h ∙ ap₂ (λ i j. not (i && j)) (f refl) (g refl)))
    first true b c false f g h = refl
    first false b c d f g h = refl

    more : (a b c d : Bool) → (a ≡ true → b ≡ true) → (d ≡ true → c ≡ true) → (a || d) ≡ true → (b || c) ≡ true
    more true b c d f g e = ap (λ i. i || c) (f refl)
    more false b c d f g e = ap (λ j. b || j) (g e) ∙ or_true b
      where
        or_true : (b : Bool) → (b || true) ≡ true
        or_true true = refl
        or_true false = refl
