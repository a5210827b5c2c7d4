-- Properties of statements that were carried out, and the values of variables that they don't hang on.
use Rattle.std.proofs.Common.{◌≡◌, refl, sym, ap, ap₂, ◌∙◌, ℕ, ◌⊎◌, inl, inr, Bool, true, false, ◌&&◌, not, List, [], ◌∷◌, ◌++◌, ◌==◌, slice_index, slice_set, eq-eqb}
use Rattle.std.proofs.lemmas.List.{get_or-set_other}
use Rattle.std.proofs.lemmas.Bool.{or_parts, or_right, or_left}
use Rattle.pdl_word.specs.Words
use Rattle.pdl_semantics.specs.Flat.{Op, Bind, CombRead, DelayedRead, Write, ReserveRead, ReserveWrite, Block, Release, Call, SpecCall, Verify, SpecCheck, SpecBarrier, Expr, Constant, Variable, Slice, Not, Binary, Cat, LessSigned, ZeroExtend, SignExtend, Choose, Stmt, value_of, values_of, operator_value, AdviceBind, AdviceRead, AdviceWrite}
use Rattle.pdl_semantics.specs.Forms.{on_delayed_read}
use Rattle.pdl_theory_turns.specs.Facts.{uses_in, uses_any, mentions_var}
use Rattle.pdl_theory_turns.proofs.Writes.{and_left, and_right}
use Rattle.pdl_theory_states.specs.Strict.{bound_by, uses_own, is_mentioned, is_new, all_new}
use Rattle.pdl_word.proofs.Bools.{untrue}
use Rattle.pdl_theory_turns.specs.Derived.{Hint, Around, said}

-- each statement that was carried out has the property
abbrev pub AllOps : (Op → Type 0) → List Op → Type 0
AllOps P [] = Unit {0}
AllOps P (op ∷ ops) = P op × AllOps P ops

-- some statement that was carried out has the property
abbrev pub AnyOp : (Op → Type 0) → List Op → Type 0
AnyOp P [] = ⊥
AnyOp P (op ∷ ops) = P op ⊎ AnyOp P ops

-- a property of each statement carried out gives each property that follows from it
pub ops_map : {P Q : Op → Type 0} → ((op : Op) → P op → Q op) → (ops : List Op) → AllOps P ops → AllOps Q ops
ops_map f [] h = tt
ops_map f (op ∷ ops) h = (f op h.0, ops_map f ops h.1)

-- two properties of each statement carried out give each property that follows from both
pub ops_both : {P Q R : Op → Type 0} → ((op : Op) → P op → Q op → R op) → (ops : List Op) → AllOps P ops → AllOps Q ops → AllOps R ops
ops_both f [] h k = tt
ops_both f (op ∷ ops) h k = (f op h.0 k.0, ops_both f ops h.1 k.1)

-- a property of each statement carried out and another of one of them give one that follows from both
pub any_both : {P Q R : Op → Type 0} → ((op : Op) → P op → Q op → R op) → (ops : List Op) → AllOps P ops → AnyOp Q ops → AnyOp R ops
any_both f [] h k = absurd k
any_both f (op ∷ ops) h (inl k) = inl (f op h.0 k)
any_both f (op ∷ ops) h (inr k) = inr (any_both f ops h.1 k)

-- statements after others that were carried out, the last one first
abbrev pub onto : List Stmt → List Op → List Op
onto [] past = past
onto (x ∷ xs) past = onto xs (x.op ∷ past)

-- after two lists of statements those of the first have been carried out, then those of the second
pub onto_append : (xs ys : List Stmt) (past : List Op) → onto (xs ++ ys) past ≡ onto ys (onto xs past)
onto_append [] ys past = refl
onto_append (x ∷ xs) ys past = onto_append xs ys (x.op ∷ past)

-- where joined statements bind new variables, those of the second list do so after the first
pub all_new_append : (vars : ℕ) (xs ys : List Stmt) (past : List Op)
    → all_new vars past (xs ++ ys) ≡ true → all_new vars (onto xs past) ys ≡ true
all_new_append vars [] ys past h = h
all_new_append vars (x ∷ xs) ys past h = all_new_append vars xs ys (x.op ∷ past) (and_right (is_new vars past (bound_by x.op) && not (uses_own x.op)) _ h)

-- where joined statements bind new variables, those of the first list do
pub all_new_front : (vars : ℕ) (xs ys : List Stmt) (past : List Op) → all_new vars past (xs ++ ys) ≡ true → all_new vars past xs ≡ true
all_new_front vars [] ys past h = refl
all_new_front vars (x ∷ xs) ys past h =
    ap₂ (λ a b. a && b) (and_left _ _ h) (all_new_front vars xs ys (x.op ∷ past) (and_right (is_new vars past (bound_by x.op) && not (uses_own x.op)) _ h))

-- VALUES OF VARIABLES THAT ARE NOT USED

-- whether a statement hangs on the value of a variable when it has been carried out
abbrev pub touches : ℕ → Op → Bool
touches x op = on_delayed_read (λ y m a. a == x) (mentions_var x op) op

-- an expression has one value by two lists of values that agree on its variables
pub value_agree : (e : Expr) (env env' : List ℕ)
    → ((g : ℕ) → uses_in g e ≡ true → slice_index env g ≡ slice_index env' g) → value_of e env ≡ value_of e env'
value_agree (Constant w v) env env' f = refl
value_agree (Variable x) env env' f = f x (eq-eqb x x refl)
value_agree (Slice x high low) env env' f = ap (Words.slice high low) (f x (eq-eqb x x refl))
value_agree (Not w a) env env' f = ap (Words.complement w) (value_agree a env env' f)
value_agree (Binary op w a b) env env' f =
    ap₂ (operator_value op w) (value_agree a env env' (λ g h. f g (or_left _ _ h))) (value_agree b env env' (λ g h. f g (or_right (uses_in g a) _ h)))
value_agree (Cat a w b) env env' f =
    ap₂ (Words.cat w) (value_agree a env env' (λ g h. f g (or_left _ _ h))) (value_agree b env env' (λ g h. f g (or_right (uses_in g a) _ h)))
value_agree (LessSigned w a b) env env' f =
    ap₂ (Words.lts w) (value_agree a env env' (λ g h. f g (or_left _ _ h))) (value_agree b env env' (λ g h. f g (or_right (uses_in g a) _ h)))
value_agree (ZeroExtend wide a) env env' f = ap Words.zext (value_agree a env env' f)
value_agree (SignExtend w wide a) env env' f = ap (Words.sext w wide) (value_agree a env env' f)
value_agree (Choose c a b) env env' f =
    let k = value_agree c env env' (λ g h. f g (or_left _ _ h)) in
    let m = value_agree a env env' (λ g h. f g (or_right (uses_in g c) _ (or_left _ _ h))) in
    let n = value_agree b env env' (λ g h. f g (or_right (uses_in g c) _ (or_right (uses_in g a) _ h))) in
    λ i. Words.mux (k i) (m i) (n i)

-- arguments have one value where the values of their variables agree
pub values_agree : (es : List Expr) (env env' : List ℕ)
    → ((g : ℕ) → uses_any g es ≡ true → slice_index env g ≡ slice_index env' g) → values_of es env ≡ values_of es env'
values_agree [] env env' f = refl
values_agree (e ∷ es) env env' f =
    ap₂ (λ a l. a ∷ l) (value_agree e env env' (λ g h. f g (or_left _ _ h))) (values_agree es env env' (λ g h. f g (or_right (uses_in g e) _ h)))

-- what a binding gave is still so: the value of its variable; any other statement passes
abbrev pub Done : List ℕ → List ℕ → Op → Type 0
Done env guess (Bind x e) = slice_index env x ≡ value_of e env
Done env guess (SpecCall args) = Unit {0}
Done env guess (CombRead x m a) = Unit {0}
Done env guess (DelayedRead x m a) = Unit {0}
Done env guess (Write m a e) = Unit {0}
Done env guess (ReserveRead m a) = Unit {0}
Done env guess (ReserveWrite m a) = Unit {0}
Done env guess (Block m a) = Unit {0}
Done env guess (Release m a) = Unit {0}
Done env guess (Call args) = Unit {0}
Done env guess (Verify last args) = Unit {0}
Done env guess SpecCheck = Unit {0}
Done env guess SpecBarrier = Unit {0}
Done env guess (AdviceBind x e) = Unit {0}
Done env guess (AdviceRead x m a) = Unit {0}
Done env guess (AdviceWrite m a e) = Unit {0}

-- two lists of values agree on the variables that a statement hangs on
abbrev pub Agrees : Op → List ℕ → List ℕ → Type 0
Agrees op env env' = (g : ℕ) → touches g op ≡ true → slice_index env g ≡ slice_index env' g

-- what a statement gave is true of other values too that agree on all variables that it hangs on
pub done_agrees : (env env' guess : List ℕ) (op : Op) → Agrees op env env' → Done env guess op → Done env' guess op
done_agrees env env' guess (Bind x e) f h = sym (f x (or_left _ _ (eq-eqb x x refl))) ∙ h ∙ value_agree e env env' (λ g k. f g (or_right (x == g) _ k))
done_agrees env env' guess (SpecCall args) f h = tt
done_agrees env env' guess (CombRead x m a) f h = tt
done_agrees env env' guess (DelayedRead x m a) f h = tt
done_agrees env env' guess (Write m a e) f h = tt
done_agrees env env' guess (ReserveRead m a) f h = tt
done_agrees env env' guess (ReserveWrite m a) f h = tt
done_agrees env env' guess (Block m a) f h = tt
done_agrees env env' guess (Release m a) f h = tt
done_agrees env env' guess (Call args) f h = tt
done_agrees env env' guess (Verify last args) f h = tt
done_agrees env env' guess SpecCheck f h = tt
done_agrees env env' guess SpecBarrier f h = tt
done_agrees env env' guess (AdviceBind x e) f h = tt
done_agrees env env' guess (AdviceRead x m a) f h = tt
done_agrees env env' guess (AdviceWrite m a e) f h = tt

-- what surroundings say of the successor
abbrev pub given : Around → Hint
given o = record { guess = o.guess; update = o.update }

-- the guess after these statements, the last one first: what the last statement gave that gives one, where a speculative call and an update give what the hint says
abbrev pub guess_past : Hint → List Op → List ℕ → List ℕ
guess_past hint [] env = []
guess_past hint (SpecCall args ∷ past) env = hint.guess
guess_past hint (Verify true args ∷ past) env = values_of args env
guess_past hint (Verify false args ∷ past) env = hint.update
guess_past hint (_ ∷ past) env = guess_past hint past env

-- by values that agree on all variables that a statement hangs on it is the same
pub guess_agrees : (hint : Hint) (op : Op) (past : List Op) (env env' : List ℕ) → Agrees op env env' → guess_past hint past env ≡ guess_past hint past env'
    → guess_past hint (op ∷ past) env ≡ guess_past hint (op ∷ past) env'
guess_agrees hint (SpecCall args) past env env' f h = refl
guess_agrees hint (Verify true args) past env env' f h = values_agree args env env' f
guess_agrees hint (Verify false args) past env env' f h = refl
guess_agrees hint _ past env env' f h = h

-- after a check the guess is what this says
pub said_past : (o : Around) (last : Bool) (args : List Expr) (past : List Op) (env : List ℕ)
    → said o last args env ≡ guess_past (given o) (Verify last args ∷ past) env
said_past o true args past env = refl
said_past o false args past env = refl

-- what a statement gave doesn't hang on the guess
pub done_guess : (env guess guess' : List ℕ) (op : Op) → Done env guess op → Done env guess' op
done_guess env guess guess' (Bind x e) h = h
done_guess env guess guess' (CombRead x m a) h = tt
done_guess env guess guess' (DelayedRead x m a) h = tt
done_guess env guess guess' (Write m a e) h = tt
done_guess env guess guess' (ReserveRead m a) h = tt
done_guess env guess guess' (ReserveWrite m a) h = tt
done_guess env guess guess' (Block m a) h = tt
done_guess env guess guess' (Release m a) h = tt
done_guess env guess guess' (Call args) h = tt
done_guess env guess guess' (SpecCall args) h = tt
done_guess env guess guess' (Verify last args) h = tt
done_guess env guess guess' SpecCheck h = tt
done_guess env guess guess' SpecBarrier h = tt
done_guess env guess guess' (AdviceBind x e) h = tt
done_guess env guess guess' (AdviceRead x m a) h = tt
done_guess env guess guess' (AdviceWrite m a e) h = tt

-- a statement that has nothing to do with a variable doesn't hang on its value
pub mention_touch : (x : ℕ) (op : Op) → mentions_var x op ≡ false → touches x op ≡ false
mention_touch x (DelayedRead y m a) h = (or_parts (y == x) (a == x) h).1
mention_touch x (Bind y e) h = h
mention_touch x (CombRead y m a) h = h
mention_touch x (Write m a e) h = h
mention_touch x (ReserveRead m a) h = h
mention_touch x (ReserveWrite m a) h = h
mention_touch x (Block m a) h = h
mention_touch x (Release m a) h = h
mention_touch x (Call args) h = h
mention_touch x (SpecCall args) h = h
mention_touch x (Verify last args) h = h
mention_touch x SpecCheck h = h
mention_touch x (AdviceBind x' e') h = h
mention_touch x (AdviceRead x' m' a') h = h
mention_touch x (AdviceWrite m' a' e') h = h
mention_touch x SpecBarrier h = h

-- no statement hangs on a variable with which none of them has to do
pub untouched : (x : ℕ) (ops : List Op) → is_mentioned x ops ≡ false → AllOps (λ op. touches x op ≡ false) ops
untouched x [] h = tt
untouched x (op ∷ ops) h = let k = or_parts (mentions_var x op) (is_mentioned x ops) h in (mention_touch x op k.0, untouched x ops k.1)

-- another value of a variable on which a statement doesn't hang
pub set_agrees : (x v : ℕ) (op : Op) (env : List ℕ) → touches x op ≡ false → Agrees op env (slice_set env x v)
set_agrees x v op env h g k = sym (get_or-set_other env x g v 0 (λ e. untrue (sym h ∙ ap (λ n. touches n op) (sym e) ∙ k)))
