-- Expressions are read as the automaton takes them, and what is read is so.
use Rattle.std.proofs.Common.{◌≡◌, ◌⊎◌, inl, inr, ℕ, zero, suc, ◌≤◌, ◌<◌, Bool, true, false, List, [], ◌∷◌, length, Option, Some, None, Ok, cond, nat_eq, refl, ap, sym, subst, ◌∙◌, arith}
use Rattle.std.proofs.lemmas.Bool.{eqb-true}
use Rattle.pdl_semantics.specs.Tree.{BinaryOp, Mul, Add, Sub, And, Or, Xor, Equal, Differ, Less, ShiftLeft, ShiftRight, Number, Expr, Variable, Binary}
use Rattle.pdl_syntax_tokens.specs.declared.token.Mark.{Mark}
use Rattle.pdl_syntax_tokens.specs.declared.token.Mark.TheVariants as mark
use Rattle.pdl_syntax_tokens.specs.declared.token.TokenKind.{TokenKind}
use Rattle.pdl_syntax_tokens.specs.declared.token.TokenKind.TheVariants as kind
use Rattle.pdl_syntax_tokens.specs.Cursor.{next, first_kind}
use Rattle.pdl_syntax_tokens.specs.Tokens.{Row}
use Rattle.pdl_syntax_grammar.specs.Grammar.{Word, on, at, ident, operator_of, loose, levels, Level, Full, constant, variable, sliced, bracketed, inverted, catenated, compared, extended, sign_extended, tighter, joined, whole, chosen}
use Rattle.pdl_syntax_cursor.specs.Looks.{is_mark}
use Rattle.pdl_syntax_grammar.specs.Reading.{Parser, Inner, and_then, bounds, slice_of, after_name, operand_by, op_by, op_in, chain, joined_expr, level, arms, choose, full, inside, expr}
use Rattle.pdl_syntax_grammar.specs.Reading as reading
use Rattle.pdl_syntax_grammar.specs.Automaton.{a, a_number, operand, slicing, rest, Closer, semicolon, round, comma, colon, in_args, closing, act, act_rest, act_choice, act_close, run_after, Stack, run}
use Rattle.pdl_syntax_grammar.proofs.GoodTokens.{Good, reads, stops, weaker, then, step, word, word_of, take_good, number_good, on_test, on_option, begins}

-- where no slice begins, the automaton goes on after the operand
no_slice : (q : Closer) (r : Row) (below : Stack)
    → is_mark mark.OpenSquare (first_kind r) ≡ false → run r (slicing q ∷ below) ≡ run r (rest q ∷ below)
no_slice q [] below e = refl
no_slice q (t ∷ r) below e = go t.kind (word_of t) e
  where
    go : (k : TokenKind) (w : Word) → is_mark mark.OpenSquare (Some k) ≡ false → run (on w k ∷ r) (slicing q ∷ below) ≡ run (on w k ∷ r) (rest q ∷ below)
    go (kind.Mark mark.OpenSquare) w e = cc
    go _ w e = refl

-- the tokens are the two numbers of a slice and its closing bracket
record IsBounds (ts : Row) (v : Number × Number) (r : Row) : Type 0 where
  c : Word
  d : Word
  x : List ℕ
  y : List ℕ
  is : ts ≡ on (word x v.0.span) (kind.Number v.0.value) ∷ at c mark.Colon ∷ on (word y v.1.span) (kind.Number v.1.value) ∷ at d mark.CloseSquare ∷ r

bounds_good : (ts : Row) → Good (IsBounds ts) (a_number ∷ a mark.Colon ∷ a_number ∷ a mark.CloseSquare ∷ []) [] (bounds ts) ts
unfolding bounds
bounds_good ts =
    then _ _ (number_good ts) (λ h r1 p1 _.
    then _ _ (take_good mark.Colon r1) (λ c r2 p2 _.
    then _ _ (number_good r2) (λ n r3 p3 _.
    then _ _ (take_good mark.CloseSquare r3) (λ d r4 p4 _.
    reads (record { c = word p2.0 c; d = word p4.0 d; x = p1.0; y = p3.0; is = rw (p1.1, p2.1, p3.1, p4.1) refl }) (omega arith) (λ below. refl)))))

slice_good : (q : Closer) (x o : Word) (ts : Row)
    → Good (λ e r. Level 0 e (on x kind.Name ∷ at o mark.OpenSquare ∷ ts) r)
    (a_number ∷ a mark.Colon ∷ a_number ∷ a mark.CloseSquare ∷ rest q ∷ []) (rest q ∷ []) (slice_of (ident x) ts) ts
slice_good q x o ts = then _ _ (bounds_good ts) (λ b r p _. reads (rw p.is sliced) (omega arith) (λ below. refl))

name_operand : (q : Closer) (x : Word) (ts : Row)
    → Good (λ e r. Level 0 e (on x kind.Name ∷ ts) r) (slicing q ∷ []) (rest q ∷ []) (after_name (ident x) ts) ts
name_operand q x ts =
    on_test
    (λ b. Good (λ e r. Level 0 e (on x kind.Name ∷ ts) r) (slicing q ∷ []) (rest q ∷ [])
    (cond b (slice_of (ident x) (next ts)) (Ok (Variable (ident x), ts))) ts)
    (is_mark mark.OpenSquare (first_kind ts))
    (λ e. let s = begins mark.OpenSquare ts e in
    subst (λ us. Good (λ e r. Level 0 e (on x kind.Name ∷ us) r) (slicing q ∷ []) (rest q ∷ []) (slice_of (ident x) (next us)) us) (sym s.is)
    (step refl (slice_good q x s.w s.more)))
    (λ e. reads variable (omega arith) (λ below. no_slice q ts below e))

-- the readers of what stands inside do so on fewer tokens than n
pub record Fine (inner : Inner) (n : ℕ) : Type 0 where
  pub one : (q : Closer) (ts : Row) → length ts < n → Good (λ e r. Level 0 e ts r) (operand q ∷ []) (rest q ∷ []) (inner.operand ts) ts
  pub all : (q : Closer) (ts : Row) → length ts < n → Good (λ e r. Full e ts r) (operand q ∷ []) (closing q ∷ []) (inner.full ts) ts

-- the tokens are two expressions in brackets
record IsPair (ts : Row) (v : Expr × Expr) (r : Row) : Type 0 where
  o : Word
  c : Word
  d : Word
  a : Row
  b : Row
  is : ts ≡ at o mark.OpenRound ∷ a
  first : Full v.0 a (at c mark.Comma ∷ b)
  second : Full v.1 b (at d mark.CloseRound ∷ r)

-- the tokens are an expression and a number in brackets
record IsSized (ts : Row) (v : Expr × Number) (r : Row) : Type 0 where
  o : Word
  c : Word
  d : Word
  x : List ℕ
  a : Row
  is : ts ≡ at o mark.OpenRound ∷ a
  first : Full v.0 a (at c mark.Comma ∷ on (word x v.1.span) (kind.Number v.1.value) ∷ at d mark.CloseRound ∷ r)

module _ (inner : Inner) (n : ℕ) (fine : Fine inner n) where
  pair_good : (ts : Row) → length ts < n → Good (IsPair ts) (a mark.OpenRound ∷ operand comma ∷ operand round ∷ []) [] (reading.pair inner.full ts) ts
  pair_good ts le =
      then _ _ (take_good mark.OpenRound ts) (λ o r1 p1 le1.
      then _ _ (fine.all comma r1 (omega arith)) (λ x r2 p2 le2.
      then _ _ (take_good mark.Comma r2) (λ c r3 p3 le3.
      then _ _ (fine.all round r3 (omega arith)) (λ y r4 p4 le4.
      then _ _ (take_good mark.CloseRound r4) (λ d r5 p5 _.
      reads (record { o = word p1.0 o; c = word p3.0 c; d = word p5.0 d; a = r1; b = r3; is = p1.1; first = rw p3.1 at p2; second = rw p5.1 at p4 })
      (omega arith) (λ below. refl))))))

  sized_good : (ts : Row) → length ts < n
      → Good (IsSized ts) (a mark.OpenRound ∷ operand comma ∷ a_number ∷ a mark.CloseRound ∷ []) [] (reading.sized_expr inner.full ts) ts
  sized_good ts le =
      then _ _ (take_good mark.OpenRound ts) (λ o r1 p1 le1.
      then _ _ (fine.all comma r1 (omega arith)) (λ e r2 p2 _.
      then _ _ (take_good mark.Comma r2) (λ c r3 p3 _.
      then _ _ (number_good r3) (λ m r4 p4 _.
      then _ _ (take_good mark.CloseRound r4) (λ d r5 p5 _.
      reads (record { o = word p1.0 o; c = word p3.0 c; d = word p5.0 d; x = p4.0; a = r1; is = p1.1; first = rw (p3.1, p4.1, p5.1) at p2 })
      (omega arith) (λ below. refl))))))

  operand_at : (q : Closer) (k : TokenKind) (w : Word) (ts : Row) → length (on w k ∷ ts) ≤ n →
      Good (λ e r. Level 0 e (on w k ∷ ts) r) (operand q ∷ []) (rest q ∷ []) (operand_by inner (Some k) (on w k ∷ ts)) (on w k ∷ ts)
  operand_at q (kind.Literal m v) w ts le = reads constant (omega arith) (λ below. refl)
  operand_at q kind.Name w ts le = step refl (name_operand q w ts)
  operand_at q (kind.Mark mark.OpenRound) w ts le = step refl
      (then _ _ (fine.all round ts (omega arith)) (λ e r1 p1 _.
      then _ _ (take_good mark.CloseRound r1) (λ _ r2 p2 _.
      reads (bracketed (rw p2.1 at p1)) (omega arith) (λ below. refl))))
  operand_at q (kind.Mark mark.Tilde) w ts le = step refl
      (then _ _ (fine.one q ts (omega arith)) (λ e r1 p1 _. reads (inverted p1) (omega arith) (λ below. refl)))
  operand_at q (kind.Mark mark.Cat) w ts le = step refl
      (then _ _ (pair_good ts (omega arith)) (λ v r1 p _. reads (rw p.is (catenated p.first p.second)) (omega arith) (λ below. refl)))
  operand_at q (kind.Mark mark.LessSigned) w ts le = step refl
      (then _ _ (pair_good ts (omega arith)) (λ v r1 p _. reads (rw p.is (compared p.first p.second)) (omega arith) (λ below. refl)))
  operand_at q (kind.Mark mark.ZeroExtend) w ts le = step refl
      (then _ _ (sized_good ts (omega arith)) (λ v r1 p _. reads (rw p.is (extended p.first)) (omega arith) (λ below. refl)))
  operand_at q (kind.Mark mark.SignExtend) w ts le = step refl
      (then _ _ (sized_good ts (omega arith)) (λ v r1 p _. reads (rw p.is (sign_extended p.first)) (omega arith) (λ below. refl)))
  operand_at q _ w ts le = stops (λ below. refl)

  operand_good : (q : Closer) (ts : Row) → length ts ≤ n → Good (λ e r. Level 0 e ts r) (operand q ∷ []) (rest q ∷ []) (reading.operand inner ts) ts
  unfolding reading.operand
  operand_good q [] le = stops (λ below. refl)
  operand_good q (t ∷ ts) le = operand_at q t.kind (word_of t) ts le

-- ---- operators

-- no operator below this looseness comes
pub record Ends (n : ℕ) (r : Row) : Type 0 where
  pub none : (j : ℕ) → j < n → op_in j (first_kind r) ≡ None

-- the tokens begin with the mark of this operator, which is of this looseness
pub record BeginsOperator (n : ℕ) (op : BinaryOp) (ts : Row) : Type 0 where
  pub w : Word
  pub m : Mark
  pub more : Row
  pub is : ts ≡ at w m ∷ more
  pub means : operator_of m ≡ Some op
  pub level : n ≡ loose op

begins_operator : (n : ℕ) (op : BinaryOp) (ts : Row) → op_in n (first_kind ts) ≡ Some op → BeginsOperator n op ts
begins_operator n op [] e = cc
begins_operator n op (t ∷ ts) e = go t.kind (word_of t) e
  where
    tell : (p : BinaryOp) (m : Mark) (w : Word) (b : Bool) → operator_of m ≡ Some p → nat_eq (loose p) n ≡ b
        → cond b (Some p) None ≡ Some op → BeginsOperator n op (at w m ∷ ts)
    tell p m w false i is e = cc
    tell p m w true i is e = let k : p ≡ op = cc in
        record { w = w; m = m; more = ts; is = refl; means = i ∙ ap Some k; level = sym (eqb-true (loose p) n is) ∙ ap loose k }

    found : (o : Option BinaryOp) (m : Mark) (w : Word) → operator_of m ≡ o → op_by n o ≡ Some op → BeginsOperator n op (at w m ∷ ts)
    found None m w i e = cc
    found (Some p) m w i e = tell p m w _ i refl e

    go : (k : TokenKind) (w : Word) → op_in n (Some k) ≡ Some op → BeginsOperator n op (on w k ∷ ts)
    go (kind.Mark m) w e = found _ m w refl e
    go _ w e = cc

ends_more : (n : ℕ) (r : Row) → Ends n r → op_in n (first_kind r) ≡ None → Ends (suc n) r
ends_more n r h e = record { none = λ j b. elim (le_or j n (omega arith)) [ inl c ↦ h.none j c | inr c ↦ rw c e ] }
  where
    le_or : (j n : ℕ) → j ≤ n → (j < n) ⊎ (j ≡ n)
    le_or j n h = grind arith

joined_at : (n : ℕ) (op : BinaryOp) (m : Mark) (w : Word) (x y : Expr) (ts b r : Row) → n ≡ loose op → operator_of m ≡ Some op →
    Level (suc n) x ts (at w m ∷ b) → Level n y b r → Level (suc n) (Binary op x y) ts r
joined_at n op m w x y ts b r e i = rw e (joined i)

-- an operator makes the automaton expect an operand
takes_operator : (q : Closer) (m : Mark) (op : BinaryOp) → operator_of m ≡ Some op → act (rest q) (kind.Mark m) ≡ Some (operand q ∷ [])
takes_operator q m op e = rw e refl

module _ (q : Closer) (p : Parser Expr) (n : ℕ) (top : ℕ)
    (good : (ts : Row) → length ts ≤ top → Good (λ e r. Level n e ts r × Ends n r) (operand q ∷ []) (rest q ∷ []) (p ts) ts) where
  chain_good : (m : ℕ) (x : Expr) (ts r : Row) → length r ≤ m → length r ≤ top → Level (suc n) x ts r → Ends n r
      → Good (λ e r2. Level (suc n) e ts r2 × Ends (suc n) r2) (rest q ∷ []) (rest q ∷ []) (chain p n m x r) r
  unfolding chain
  chain_good zero x ts [] le le2 so end = reads (so, record { none = λ j b. refl }) (omega arith) (λ below. refl)
  chain_good zero x ts (t ∷ r) le le2 so end = absurd (omega arith)
  chain_good (suc m) x ts r le le2 so end =
      on_option (λ o. Good (λ e r2. Level (suc n) e ts r2 × Ends (suc n) r2) (rest q ∷ []) (rest q ∷ []) (joined_expr p (chain p n m) x o r) r)
      (op_in n (first_kind r))
      (λ e. reads (so, ends_more n r end e) (omega arith) (λ below. refl))
      (λ op e. let b = begins_operator n op r e in let k : length r ≡ length (at b.w b.m ∷ b.more) = ap length b.is in
      subst
      (λ us. Good (λ e r2. Level (suc n) e ts r2 × Ends (suc n) r2) (rest q ∷ []) (rest q ∷ [])
      (and_then (p (next us)) (λ y. chain p n m (Binary op x y))) us)
      (sym b.is)
      (step (takes_operator q b.m op b.means) (then _ _ (good b.more (omega arith)) (λ y r1 p1 le1.
      chain_good m (Binary op x y) ts r1 (omega arith) (omega arith)
      (joined_at n op b.m b.w x y ts b.more r1 b.level b.means (rw b.is at so) p1.0) p1.1))))

closing_act : (q : Closer) (k : TokenKind) → act_close q k ≡ act (closing q) k
closing_act semicolon k = refl
closing_act round k = refl
closing_act comma k = refl
closing_act colon k = refl
closing_act in_args k = refl

-- every operator has a level
loose_enough : (m : Mark) (r : Row) (w : Word) → Ends levels (at w m ∷ r) → operator_of m ≡ None
loose_enough mark.Star r w h = let k : Some Mul ≡ None = h.none 0 (omega arith) in cc
loose_enough mark.Plus r w h = let k : Some Add ≡ None = h.none 1 (omega arith) in cc
loose_enough mark.Minus r w h = let k : Some Sub ≡ None = h.none 1 (omega arith) in cc
loose_enough mark.ShiftLeft r w h = let k : Some ShiftLeft ≡ None = h.none 2 (omega arith) in cc
loose_enough mark.ShiftRight r w h = let k : Some ShiftRight ≡ None = h.none 2 (omega arith) in cc
loose_enough mark.Less r w h = let k : Some Less ≡ None = h.none 3 (omega arith) in cc
loose_enough mark.Equal r w h = let k : Some Equal ≡ None = h.none 4 (omega arith) in cc
loose_enough mark.Differ r w h = let k : Some Differ ≡ None = h.none 4 (omega arith) in cc
loose_enough mark.Ampersand r w h = let k : Some And ≡ None = h.none 5 (omega arith) in cc
loose_enough mark.Caret r w h = let k : Some Xor ≡ None = h.none 6 (omega arith) in cc
loose_enough mark.Bar r w h = let k : Some Or ≡ None = h.none 7 (omega arith) in cc
loose_enough _ r w h = refl

-- where no choice begins
no_choice : (q : Closer) (m : Mark)
    → is_mark mark.Question (Some (kind.Mark m)) ≡ false → act_choice q (kind.Mark m) ≡ act_close q (kind.Mark m)
no_choice q mark.Question e = cc
no_choice q _ e = refl

closes : (q : Closer) (r : Row) (below : Stack) → Ends levels r
    → is_mark mark.Question (first_kind r) ≡ false → run r (rest q ∷ below) ≡ run r (closing q ∷ below)
closes q [] below h e = refl
closes q (t ∷ r) below h e = ap (λ o. run_after o below (run r) (t ∷ r)) (go t.kind (word_of t) h e)
  where
    go : (k : TokenKind) (w : Word) → Ends levels (on w k ∷ r) → is_mark mark.Question (Some k) ≡ false → act_rest q k ≡ act (closing q) k
    go (kind.Mark m) w h e = rw (loose_enough m r w h) (no_choice q m e ∙ closing_act q (kind.Mark m))
    go kind.Name w h e = closing_act q kind.Name
    go (kind.Number n) w h e = closing_act q (kind.Number n)
    go (kind.Literal n v) w h e = closing_act q (kind.Literal n v)
    go kind.Bad w h e = closing_act q kind.Bad

-- a question mark makes the automaton expect two arms
takes_question : (q : Closer) → act (rest q) (kind.Mark mark.Question) ≡ Some (operand colon ∷ operand q ∷ [])
takes_question q = refl

module _ (inner : Inner) (top : ℕ) (fine : Fine inner top) where
  level_good : (n : ℕ) (q : Closer) (ts : Row) → length ts ≤ top
      → Good (λ e r. Level n e ts r × Ends n r) (operand q ∷ []) (rest q ∷ []) (level (reading.operand inner) top n ts) ts
  unfolding level
  level_good zero q ts le = weaker (λ e r p _. (p, record { none = λ j b. absurd (omega arith) })) (operand_good inner top fine q ts le)
  level_good (suc n) q ts le = then [] _ (level_good n q ts le) (λ x r p le1.
      chain_good q (level (reading.operand inner) top n) n top (level_good n q) top x ts r (omega arith) (omega arith) (tighter p.0) p.1)

  choose_good : (q : Closer) (c : Expr) (ts r : Row) → length r ≤ top → Level levels c ts r → Ends levels r
      → Good (λ e r2. Full e ts r2) (rest q ∷ []) (closing q ∷ []) (choose inner.full c r) r
  choose_good q c ts r le so end =
      on_test (λ b. Good (λ e r2. Full e ts r2) (rest q ∷ []) (closing q ∷ []) (cond b (arms inner.full c (next r)) (Ok (c, r))) r)
      (is_mark mark.Question (first_kind r))
      (λ e. let s = begins mark.Question r e in let k : length r ≡ length (at s.w mark.Question ∷ s.more) = ap length s.is in
      subst (λ us. Good (λ e r2. Full e ts r2) (rest q ∷ []) (closing q ∷ []) (arms inner.full c (next us)) us) (sym s.is)
      (step (takes_question q)
      (then _ _ (fine.all colon s.more (omega arith)) (λ x r1 p1 le1.
      then _ _ (take_good mark.Colon r1) (λ _ r2 p2 le2.
      then _ _ (fine.all q r2 (omega arith)) (λ y r3 p3 _.
      reads (chosen (rw s.is at so) (rw p2.1 at p1) p3) (omega arith) (λ below. refl)))))))
      (λ e. reads (whole so) (omega arith) (λ below. closes q r below end e))

  full_good : (q : Closer) (ts : Row) → length ts ≤ top → Good (λ e r. Full e ts r) (operand q ∷ []) (closing q ∷ []) (full inner top ts) ts
  unfolding full
  full_good q ts le = then [] _ (level_good levels q ts le) (λ c r p le1. choose_good q c ts r (omega arith) p.0 p.1)

fine_inside : (n : ℕ) → Fine (inside n) n
unfolding inside
fine_inside zero = record { one = λ q ts le. absurd (omega arith); all = λ q ts le. absurd (omega arith) }
fine_inside (suc n) =
    record {
      one = λ q ts le. operand_good (inside n) n (fine_inside n) q ts (omega arith);
      all = λ q ts le. full_good (inside n) n (fine_inside n) q ts (omega arith);
    }

-- an expression up to its closer is read as the automaton takes it, and what is read is so
pub expr_good : (n : ℕ) (q : Closer) (ts : Row) → length ts ≤ n → Good (λ e r. Full e ts r) (operand q ∷ []) (closing q ∷ []) (expr n ts) ts
expr_good n = full_good (inside n) n (fine_inside n)
