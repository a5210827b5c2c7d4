-- Items with others inside are read as the automaton takes them, and what is read is so.
use Rattle.std.proofs.Common.{◌≡◌, ℕ, zero, suc, ◌≤◌, ◌<◌, true, false, List, [], ◌∷◌, length, Some, Ok, cond, refl, ap, sym, subst, arith}
use Rattle.pdl_semantics.specs.Tree.{Span, Expr, If, Stmts, Nil}
use Rattle.pdl_syntax_tokens.specs.declared.token.Mark.TheVariants as mark
use Rattle.pdl_syntax_tokens.specs.declared.token.TokenKind.{TokenKind}
use Rattle.pdl_syntax_tokens.specs.declared.token.TokenKind.TheVariants as kind
use Rattle.pdl_syntax_tokens.specs.Cursor.{next, first_kind, first_span}
use Rattle.pdl_syntax_tokens.specs.Tokens.{Row}
use Rattle.pdl_syntax_grammar.specs.Grammar.{Word, on, at, across, Full, Item, branching, choosing, Items, none, more, prepend}
use Rattle.pdl_syntax_cursor.specs.Looks.{is_mark}
use Rattle.pdl_syntax_grammar.specs.Reading.{Parser, and_then, ◌>>=◌, pure, take, plain, branch, otherwise, condition, if_of, item, items}
use Rattle.pdl_syntax_grammar.specs.Automaton.{a, operand, else_items, round, Stack, run}
use Rattle.pdl_syntax_grammar.specs.Automaton as m
use Rattle.pdl_syntax_grammar.proofs.GoodTokens.{Good, reads, under, weaker, then, step, word, word_of, take_good, on_test, begins}
use Rattle.pdl_syntax_grammar.proofs.GoodExpr.{expr_good}
use Rattle.pdl_syntax_grammar.proofs.GoodItems.{Item_good, plain_good}

-- the tokens are a condition in brackets and an opening brace
record IsCondition (ts : Row) (v : Expr) (r : Row) : Type 0 where
  p : Word
  z : Word
  o : Word
  a : Row
  is : ts ≡ at p mark.OpenRound ∷ a
  full : Full v a (at z mark.CloseRound ∷ at o mark.OpenBrace ∷ r)

condition_good : (top : ℕ) (ts : Row)
    → length ts ≤ top
    → Good (IsCondition ts) (a mark.OpenRound ∷ operand round ∷ a mark.OpenBrace ∷ []) [] (condition top ts) ts
unfolding condition
condition_good top ts le =
    then _ _ (take_good mark.OpenRound ts) (λ p r1 p1 le1.
    then _ _ (expr_good top round r1 (omega arith)) (λ v r2 p2 _.
    then _ _ (take_good mark.CloseRound r2) (λ z r3 p3 _.
    then _ _ (take_good mark.OpenBrace r3) (λ o r4 p4 _.
    reads (record { p = word p1.0 p; z = word p3.0 z; o = word p4.0 o; a = r1; is = p1.1; full = rw (p3.1, p4.1) at p2 }) (omega arith) (λ below. refl)))))

-- the tokens are statements and a closing brace
abbrev IsBranch : Row → Stmts × Span → Row → Type 0
IsBranch ts v r = (x : List ℕ) × Items v.0 ts (at (word x v.1) mark.CloseBrace ∷ r)

-- the tokens are the other branch, or none
data IsOther (end : Span) : Row → Stmts × Span → Row → Type 0 where
  missing : {r : Row} → IsOther end r (Nil, end) r
  present : {l q : Word} {x : List ℕ} {ss : Stmts} {s : Span} {d r : Row}
      → Items ss d (at (word x s) mark.CloseBrace ∷ r)
      → IsOther end (at l mark.Else ∷ at q mark.OpenBrace ∷ d) (ss, s) r

if_item : (w : Word) (c : Expr) (one other : Stmts × Span) (ts r1 r2 r3 : Row) → IsCondition ts c r1 → IsBranch r1 one r2 → IsOther one.1 r2 other r3 →
    Item (If (across w.span other.1) c one.0 other.0 ∷ []) (at w mark.If ∷ ts) r3
if_item w c one other ts r1 r2 r3 h i missing = rw h.is (branching h.full i.1)
if_item w c one other ts r1 r2 r3 h i (present j) = rw h.is (choosing h.full i.1 j)

-- where no `else` comes, the automaton goes on after the branch
no_else : (ts : Row) (below : Stack) → is_mark mark.Else (first_kind ts) ≡ false → run ts (else_items ∷ below) ≡ run ts (m.items ∷ below)
no_else [] below e = refl
no_else (t ∷ ts) below e = go t.kind (word_of t) e
  where
    go : (k : TokenKind) (w : Word) → is_mark mark.Else (Some k) ≡ false → run (on w k ∷ ts) (else_items ∷ below) ≡ run (on w k ∷ ts) (m.items ∷ below)
    go (kind.Mark mark.Else) w e = cc
    go _ w e = refl

module _ (top n : ℕ) (inside : Parser Stmts)
    (good : (ts : Row) → length ts < n → length ts ≤ top → Good (λ ss r. Items ss ts r) (m.items ∷ []) (a mark.CloseBrace ∷ []) (inside ts) ts) where
  -- a branch is read as the automaton takes it, and what is read is so
  pub branch_good : (ts : Row) → length ts < n → length ts ≤ top → Good (IsBranch ts) (m.items ∷ []) [] (branch inside ts) ts
  branch_good ts le le2 =
      then [] _ (good ts le le2) (λ ss r1 p1 _.
      then _ _ (take_good mark.CloseBrace r1) (λ e r2 p2 _.
      reads (p2.0, rw p2.1 at p1) (omega arith) (λ below. refl)))

  otherwise_good : (end : Span) (ts : Row) → length ts < n → length ts ≤ top
      → Good (IsOther end ts) (else_items ∷ []) (m.items ∷ []) (otherwise inside end ts) ts
  otherwise_good end ts le le2 =
      on_test
      (λ b. Good (IsOther end ts) (else_items ∷ []) (m.items ∷ [])
      (cond b (and_then (take mark.OpenBrace (next ts)) (λ _. branch inside)) (Ok ((Nil, end), ts))) ts)
      (is_mark mark.Else (first_kind ts))
      (λ e. let s = begins mark.Else ts e in let k : length ts ≡ length (at s.w mark.Else ∷ s.more) = ap length s.is in
      subst (λ us. Good (IsOther end us) (else_items ∷ []) (m.items ∷ []) (and_then (take mark.OpenBrace (next us)) (λ _. branch inside)) us) (sym s.is)
      (step refl
      (then _ _ (take_good mark.OpenBrace s.more) (λ o r1 p1 le1.
      weaker (λ v r2 p2 _. rw p1.1 (present p2.1)) (under (m.items ∷ []) (branch_good r1 (omega arith) (omega arith)))))))
      (λ e. reads missing (omega arith) (λ below. no_else ts below e))

  if_good : (w : Word) (ts : Row) → length ts < n → length ts ≤ top →
      Good (λ s r. Item s (at w mark.If ∷ ts) r × (length r < length (at w mark.If ∷ ts)))
      (a mark.OpenRound ∷ operand round ∷ a mark.OpenBrace ∷ m.items ∷ else_items ∷ []) (m.items ∷ [])
      (if_of top inside w.span ts) ts
  if_good w ts le le2 =
      then _ _ (condition_good top ts le2) (λ c r1 p1 le3.
      then _ _ (branch_good r1 (omega arith) (omega arith)) (λ one r2 p2 le4.
      then [] _ (otherwise_good one.1 r2 (omega arith) (omega arith)) (λ other r3 p3 le5.
      reads (if_item w c one other ts r1 r2 r3 p1 p2 p3, omega arith) (omega arith) (λ below. refl))))

  item_good : (ts : Row) → length ts ≤ n → length ts ≤ top → is_mark mark.CloseBrace (first_kind ts) ≡ false → Item_good (length ts) ts (item top inside ts) ts
  unfolding item
  item_good ts le le2 f =
      on_test (λ b. Item_good (length ts) ts (cond b (if_of top inside (first_span ts) (next ts)) (plain top ts)) ts) (is_mark mark.If (first_kind ts))
      (λ e. let s = begins mark.If ts e in let k : length ts ≡ length (at s.w mark.If ∷ s.more) = ap length s.is in
      subst (λ us. Item_good (length us) us (if_of top inside (first_span us) (next us)) us) (sym s.is)
      (step refl (if_good s.w s.more (omega arith) (omega arith))))
      (λ e. plain_good top ts le2 f e)

-- at a closing brace
brace_next : (ts : Row) (below : Stack)
    → is_mark mark.CloseBrace (first_kind ts) ≡ true → run ts (m.items ∷ below) ≡ run ts (a mark.CloseBrace ∷ below)
brace_next ts below e = let s = begins mark.CloseBrace ts e in rw s.is refl

-- statements up to a closing brace are read as the automaton takes them, and what is read is so
pub items_good : (top n : ℕ) (ts : Row)
    → length ts < n → length ts ≤ top
    → Good (λ ss r. Items ss ts r) (m.items ∷ []) (a mark.CloseBrace ∷ []) (items top n ts) ts
unfolding items
items_good top zero ts le le2 = absurd (omega arith)
items_good top (suc n) ts le le2 = go (items_good top n)
  where
    go : ((us : Row) → length us < n → length us ≤ top → Good (λ ss r. Items ss us r) (m.items ∷ []) (a mark.CloseBrace ∷ []) (items top n us) us) →
        Good (λ ss r. Items ss ts r) (m.items ∷ []) (a mark.CloseBrace ∷ []) (items top (suc n) ts) ts
    go ih =
        on_test
        (λ b. Good (λ ss r. Items ss ts r) (m.items ∷ []) (a mark.CloseBrace ∷ [])
        (cond b (Ok (Nil, ts)) (and_then (item top (items top n) ts) (λ s. items top n >>= (λ ss. pure (prepend s ss))))) ts)
        (is_mark mark.CloseBrace (first_kind ts))
        (λ e. reads none (omega arith) (λ below. brace_next ts below e))
        (λ e. then [] _ (item_good top n (items top n) ih ts (omega arith) le2 e) (λ s r1 p1 le1.
        then [] _ (ih r1 (let k = p1.1 in omega arith) (omega arith)) (λ ss r2 p2 _.
        reads (more p1.0 p2) (omega arith) (λ below. refl))))
