-- Texts are read as the automaton takes them, and what is read is so.
use Rattle.std.proofs.Common.{◌≡◌, ℕ, ◌<◌, Bool, true, false, List, [], ◌∷◌, ◌++◌, length, Option, Some, None, Ok, cond, refl, sym, subst, arith}
use Rattle.pdl_semantics.specs.Tree.{Span, Ident, Number, Literal, Stmts, LockDecl, Param, MemKind, Advisory, Mem, Start}
use Rattle.pdl_syntax_tokens.specs.declared.token.Mark.TheVariants as mark
use Rattle.pdl_syntax_tokens.specs.declared.token.TokenKind.{TokenKind}
use Rattle.pdl_syntax_tokens.specs.declared.token.TokenKind.TheVariants as kind
use Rattle.pdl_syntax_tokens.specs.Cursor.{next, first_kind}
use Rattle.pdl_syntax_tokens.specs.Tokens.{Row}
use Rattle.pdl_syntax_grammar.specs.Grammar.{Word, on, at, ident, number as number_of, type_row, pace_mark, pace_kind, Listed, Items, Parameter, parameter, Lock, unlocked, locked as locked_by, Memory, memory, advisory, Given, given, Starting, starting, Text, text}
use Rattle.pdl_syntax_cursor.specs.Looks.{is_mark}
use Rattle.pdl_syntax_grammar.specs.Reading.{Outcome, literal, width, param, lock_clause, lock, pace, keeping, shape, mem, items, start, pipe_head, pipe_rest, pipe}
use Rattle.pdl_syntax_grammar.specs.Automaton.{a, a_name, a_number, a_literal, a_pace, a_lock_kind, more, locked, params, mems, literals, first_of, start_clause, whole, Stack, run}
use Rattle.pdl_syntax_grammar.specs.Automaton as m
use Rattle.pdl_syntax_grammar.proofs.GoodTokens.{Good, reads, stops, then, step, word, word_of, Valued, take_good, name_good, number_good, literal_good, lock_kind_good, on_test, begins}
use Rattle.pdl_syntax_grammar.proofs.GoodItems.{listed_good}
use Rattle.pdl_syntax_grammar.proofs.GoodBranches.{branch_good, items_good}

-- the tokens are a type
record IsWidth (ts : Row) (n : Number) (r : Row) : Type 0 where
  u : Word
  o : Word
  x : List ℕ
  g : Word
  is : ts ≡ at u mark.Uint ∷ at o mark.Less ∷ on (word x n.span) (kind.Number n.value) ∷ at g mark.Greater ∷ r

width_good : (ts : Row) → Good (IsWidth ts) (a mark.Uint ∷ a mark.Less ∷ a_number ∷ a mark.Greater ∷ []) [] (width ts) ts
unfolding width
width_good ts =
    then _ _ (take_good mark.Uint ts) (λ u r1 p1 _.
    then _ _ (take_good mark.Less r1) (λ o r2 p2 _.
    then _ _ (number_good r2) (λ n r3 p3 _.
    then _ _ (take_good mark.Greater r3) (λ g r4 p4 _.
    reads (record { u = word p1.0 u; o = word p2.0 o; x = p3.0; g = word p4.0 g; is = rw (p1.1, p2.1, p3.1, p4.1) refl }) (omega arith) (λ below. refl)))))

param_good : (ts : Row) → Good (λ x r. Parameter x ts r) (first_of params) (more params ∷ []) (param ts) ts
unfolding param
param_good ts =
    then _ _ (name_good ts) (λ x r1 p1 _.
    then _ _ (take_good mark.Colon r1) (λ _ r2 p2 _.
    then _ _ (width_good r2) (λ n r3 p3 _.
    reads (rw (p1, p2.1, p3.is) parameter) (omega arith) (λ below. refl))))

-- where no lock begins, the automaton goes on after the memory
no_lock : (ts : Row) (below : Stack) → is_mark mark.Lock (first_kind ts) ≡ false → run ts (locked ∷ below) ≡ run ts (more mems ∷ below)
no_lock [] below e = refl
no_lock (t ∷ ts) below e = go t.kind (word_of t) e
  where
    go : (k : TokenKind) (w : Word) → is_mark mark.Lock (Some k) ≡ false → run (on w k ∷ ts) (locked ∷ below) ≡ run (on w k ∷ ts) (more mems ∷ below)
    go (kind.Mark mark.Lock) w e = cc
    go _ w e = refl

lock_of_good : (l : Word) (ts : Row)
    → Good (λ x r. Lock x (at l mark.Lock ∷ ts) r)
    (a_lock_kind ∷ a mark.OpenRound ∷ a_number ∷ a mark.CloseRound ∷ more mems ∷ []) (more mems ∷ [])
    (lock_clause ts) ts
lock_of_good l ts =
    then _ _ (lock_kind_good ts) (λ _ r1 p1 _.
    then _ _ (take_good mark.OpenRound r1) (λ _ r2 p2 _.
    then _ _ (number_good r2) (λ n r3 p3 _.
    then _ _ (take_good mark.CloseRound r3) (λ _ r4 p4 _.
    reads (rw (p1.1, p2.1, p3.1, p4.1) locked_by) (omega arith) (λ below. refl)))))

lock_good : (ts : Row) → Good (λ x r. Lock x ts r) (locked ∷ []) (more mems ∷ []) (lock ts) ts
unfolding lock
lock_good ts =
    on_test (λ b. Good (λ x r. Lock x ts r) (locked ∷ []) (more mems ∷ []) (cond b (lock_clause (next ts)) (Ok (None, ts))) ts)
    (is_mark mark.Lock (first_kind ts))
    (λ e. let s = begins mark.Lock ts e in
    subst (λ us. Good (λ x r. Lock x us r) (locked ∷ []) (more mems ∷ []) (lock_clause (next us)) us) (sym s.is) (step refl (lock_of_good s.w s.more)))
    (λ e. reads unlocked (omega arith) (λ below. no_lock ts below e))

-- the tokens are the kind of a memory, and its lock or none
data IsKeeping (ts : Row) : MemKind × Option LockDecl → Row → Type 0 where
  paced : {l : Option LockDecl} {r : Row} (k : Word) (delayed : Bool) (a : Row) → ts ≡ at k (pace_mark delayed) ∷ a → Lock l a r
      → IsKeeping ts (pace_kind delayed, l) r
  advised : {r : Row} (k : Word) → ts ≡ at k mark.Advisory ∷ r → IsKeeping ts (Advisory, None) r

keeping_good : (ts : Row) → Good (IsKeeping ts) (a_pace ∷ []) (more mems ∷ []) (keeping ts) ts
unfolding keeping pace
keeping_good [] = stops (λ below. refl)
keeping_good (t ∷ ts) = go t.kind (word_of t)
  where
    go : (k : TokenKind) (w : Word) → Good (IsKeeping (on w k ∷ ts)) (a_pace ∷ []) (more mems ∷ []) (keeping (on w k ∷ ts)) (on w k ∷ ts)
    go (kind.Mark mark.Comb) w = step refl (then [] _ (lock_good ts) (λ l r p _. reads (paced w false ts refl p) (omega arith) (λ below. refl)))
    go (kind.Mark mark.Delayed) w = step refl (then [] _ (lock_good ts) (λ l r p _. reads (paced w true ts refl p) (omega arith) (λ below. refl)))
    go (kind.Mark mark.Advisory) w = reads (advised w refl) (omega arith) (λ below. refl)
    go _ w = stops (λ below. refl)

-- the tokens are what stands after the name of a memory
record IsShape (ts : Row) (v : Number × Number × MemKind × Option LockDecl) (r : Row) : Type 0 where
  c : Word
  u : Word
  o : Word
  x : List ℕ
  g : Word
  p : Word
  y : List ℕ
  z : Word
  a : Row
  is : ts ≡ at c mark.Colon ∷ at u mark.Uint ∷ at o mark.Less ∷ on (word x v.0.span) (kind.Number v.0.value) ∷ at g mark.Greater
      ∷ at p mark.OpenSquare ∷ on (word y v.1.span) (kind.Number v.1.value) ∷ at z mark.CloseSquare ∷ a
  keeping : IsKeeping a (v.2, v.3) r

shape_good : (ts : Row)
    → Good (IsShape ts)
    (a mark.Colon ∷ a mark.Uint ∷ a mark.Less ∷ a_number ∷ a mark.Greater ∷ a mark.OpenSquare ∷ a_number ∷ a mark.CloseSquare ∷ a_pace ∷ [])
    (more mems ∷ []) (shape ts) ts
unfolding shape
shape_good ts =
    then _ _ (take_good mark.Colon ts) (λ c r2 p2 _.
    then _ _ (width_good r2) (λ n r3 p3 _.
    then _ _ (take_good mark.OpenSquare r3) (λ p r4 p4 _.
    then _ _ (number_good r4) (λ d r5 p5 _.
    then _ _ (take_good mark.CloseSquare r5) (λ z r6 p6 _.
    then [] _ (keeping_good r6) (λ k r7 p7 _.
    reads
    (record {
      c = word p2.0 c;
      u = p3.u;
      o = p3.o;
      x = p3.x;
      g = p3.g;
      p = word p4.0 p;
      y = p5.0;
      z = word p6.0 z;
      a = r6;
      is = rw (p2.1, p3.is, p4.1, p5.1, p6.1) refl;
      keeping = p7;
    })
    (omega arith) (λ below. refl)))))))

-- a memory by its name, its sizes, its kind and its lock
memory_of : {x c u o w g p d z : Word} {n size : ℕ} {ts r : Row} (v : MemKind × Option LockDecl) → IsKeeping ts v r
    → Memory (record { name = ident x; width = number_of w n; depth = number_of d size; kind = v.0; lock = v.1 })
    (type_row x c u o w n g (at p mark.OpenSquare ∷ on d (kind.Number size) ∷ at z mark.CloseSquare ∷ ts)) r
memory_of _ (paced k delayed rest e h) = rw e (memory delayed h)
memory_of _ (advised k e) = rw e advisory

mem_good : (ts : Row) → Good (λ x r. Memory x ts r) (first_of mems) (more mems ∷ []) (mem ts) ts
unfolding mem
mem_good ts =
    then _ _ (name_good ts) (λ x r1 p1 _.
    then [] _ (shape_good r1) (λ s r2 p2 _.
    reads (rw (p1, p2.is) (memory_of (s.2, s.3) p2.keeping)) (omega arith) (λ below. refl)))

given_good : (ts : Row) → Good (λ x r. Given x ts r) (first_of literals) (more literals ∷ []) (literal ts) ts
given_good ts = go (literal_good ts)
  where
    go : {o : Outcome Literal} → Good (Valued ts) (a_literal ∷ []) [] o ts → Good (λ x r. Given x ts r) (first_of literals) (more literals ∷ []) o ts
    go (reads p le e) = reads (rw p.1 given) le (λ below. e (more literals ∷ below))
    go (stops e) = stops (λ below. e (more literals ∷ below))

start_good : (top : ℕ) (ts : Row) → length ts < top → Good (λ x r. Starting x ts r) start_clause [] (start top ts) ts
unfolding start
start_good top ts le =
    then _ _ (take_good mark.Start ts) (λ _ r1 p1 le1.
    then _ _ (name_good r1) (λ x r2 p2 le2.
    then _ _ (take_good mark.OpenRound r2) (λ _ r3 p3 le3.
    then _ _ (listed_good Given literal literals top (λ us h. given_good us) top r3 (omega arith) (omega arith)) (λ vs r4 p4 le4.
    then _ _ (take_good mark.Semicolon r4) (λ _ r5 p5 le5.
    reads (rw (p1.1, p2, p3.1) (starting (rw p5.1 at p4))) (omega arith) (λ below. refl))))))

-- the tokens are what stands before the body of a pipe
record IsHead (ts : Row) (v : Ident × List Param × List Mem) (r : Row) : Type 0 where
  k : Word
  o : Word
  p : Word
  a : Row
  b : Row
  is : ts ≡ at k mark.Pipe ∷ on (word v.0.name v.0.span) kind.Name ∷ at o mark.OpenRound ∷ a
  params : Listed Parameter mark.CloseRound v.1 a (at p mark.OpenSquare ∷ b)
  mems : Listed Memory mark.CloseSquare v.2 b r

head_good : (n : ℕ) (ts : Row)
    → length ts < n
    → Good (IsHead ts) (a mark.Pipe ∷ a_name ∷ a mark.OpenRound ∷ (first_of params ++ (a mark.OpenSquare ∷ first_of mems))) [] (pipe_head n ts) ts
unfolding pipe_head
head_good n ts le =
    then _ _ (take_good mark.Pipe ts) (λ k r1 p1 le1.
    then _ _ (name_good r1) (λ x r2 p2 le2.
    then _ _ (take_good mark.OpenRound r2) (λ o r3 p3 le3.
    then _ _ (listed_good Parameter param params n (λ us h. param_good us) n r3 (omega arith) (omega arith)) (λ xs r4 p4 le4.
    then _ _ (take_good mark.OpenSquare r4) (λ p r5 p5 le5.
    then _ _ (listed_good Memory mem mems n (λ us h. mem_good us) n r5 (omega arith) (omega arith)) (λ ms r6 p6 le6.
    reads (record { k = word p1.0 k; o = word p3.0 o; p = word p5.0 p; a = r3; b = r5; is = rw (p1.1, p2, p3.1) refl; params = rw p5.1 at p4; mems = p6 })
    (omega arith) (λ below. refl)))))))

-- the tokens are a body in braces and a start clause
record IsRest (ts : Row) (v : Stmts × Span × Start) (r : Row) : Type 0 where
  q : Word
  x : List ℕ
  c : Row
  d : Row
  is : ts ≡ at q mark.OpenBrace ∷ c
  body : Items v.0 c (at (word x v.1) mark.CloseBrace ∷ d)
  start : Starting v.2 d r

rest_good : (n : ℕ) (ts : Row) → length ts < n → Good (IsRest ts) (a mark.OpenBrace ∷ m.items ∷ start_clause) [] (pipe_rest n ts) ts
unfolding pipe_rest
rest_good n ts le =
    then _ _ (take_good mark.OpenBrace ts) (λ q r1 p1 le1.
    then _ _ (branch_good n n (items n n) (items_good n n) r1 (omega arith) (omega arith)) (λ b r2 p2 le2.
    then [] _ (start_good n r2 (omega arith)) (λ s r3 p3 le3.
    reads (record { q = word p1.0 q; x = p2.0; c = r1; d = r2; is = p1.1; body = p2.1; start = p3 }) (omega arith) (λ below. refl))))

-- a text is read as the automaton takes it, and what is read is so
pub pipe_good : (n : ℕ) (ts : Row) → length ts < n → Good (λ p r. Text p ts r) whole [] (pipe n ts) ts
unfolding pipe
pipe_good n ts le =
    then _ _ (head_good n ts le) (λ h r1 p1 le1.
    then [] _ (rest_good n r1 (omega arith)) (λ t r2 p2 le2.
    reads (rw p1.is (text p1.params (rw p2.is at p1.mems) p2.body p2.start)) (omega arith) (λ below. refl)))
