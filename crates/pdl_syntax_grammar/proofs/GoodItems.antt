-- Items without others inside are read as the automaton takes them, and what is read is so.
use Rattle.std.proofs.Common.{◌≡◌, ℕ, zero, suc, ◌≤◌, ◌<◌, Bool, true, false, List, [], ◌∷◌, length, Option, Some, None, Ok, cond, refl, ap, sym, subst, arith}
use Rattle.pdl_semantics.specs.Tree.{Span, Ident, Expr, Location, Kind, Stmt}
use Rattle.pdl_syntax_tokens.specs.declared.token.Mark.{Mark}
use Rattle.pdl_syntax_tokens.specs.declared.token.Mark.TheVariants as mark
use Rattle.pdl_syntax_tokens.specs.declared.token.TokenKind.{TokenKind}
use Rattle.pdl_syntax_tokens.specs.declared.token.TokenKind.TheVariants as kind
use Rattle.pdl_syntax_tokens.specs.Cursor.{next, first_kind}
use Rattle.pdl_syntax_tokens.specs.Tokens.{Token}
use Rattle.pdl_syntax_tokens.specs.Tokens.{Row}
use Rattle.pdl_syntax_grammar.specs.Grammar.{Word, on, at, ident, location_row, mark_of, Listed, last, further, Full, Item, separating, reading, binding, guessing, fetching, writing, reserving, acquiring, blocking, releasing, calling, verifying, updating, checking, barring}
use Rattle.pdl_syntax_cursor.specs.Looks.{is_mark, begins_place, is_place}
use Rattle.pdl_syntax_grammar.specs.Reading.{Outcome, Parser, and_then, goes_on, list_of, listed_by, ended, place, address, purpose, closed, expr, args, read_of, guess_of, bind_of, computed_stmt, assigned_stmt, named_by, named_stmt, reserved_location, held_location, against, bare, locking, plain_by, plain}
use Rattle.pdl_syntax_grammar.specs.Automaton.{Sym, a, a_name, an_access, operand, slicing, rest, after_name, assigned_name, in_square, Listing, closer, first_of, Closer, semicolon, round, comma, in_args, closing, act_on, Stack, run, run_after}
use Rattle.pdl_syntax_grammar.specs.Automaton as m
use Rattle.pdl_syntax_grammar.proofs.GoodTokens.{Good, reads, stops, beyond, instead, under, weaker, then, step, word, word_of, take_good, name_good, access_good, place_good, is_that, on_test, on_option, begins}
use Rattle.pdl_syntax_grammar.proofs.GoodExpr.{expr_good}

-- ---- values with commas between them

comma_comes : (c : Mark) (k : TokenKind) → goes_on c (Some k) ≡ Some true → k ≡ kind.Mark mark.Comma
comma_comes c k e = go (is_mark mark.Comma (Some k)) (is_mark c (Some k)) refl e
  where
    go : (b d : Bool) → is_mark mark.Comma (Some k) ≡ b → cond b (Some true) (cond d (Some false) None) ≡ Some true → k ≡ kind.Mark mark.Comma
    go true d i f = is_that mark.Comma k i
    go false true i f = cc
    go false false i f = cc

closer_comes : (c : Mark) (k : TokenKind) → goes_on c (Some k) ≡ Some false → k ≡ kind.Mark c
closer_comes c k e = go (is_mark mark.Comma (Some k)) (is_mark c (Some k)) refl e
  where
    go : (b d : Bool) → is_mark c (Some k) ≡ d → cond b (Some true) (cond d (Some false) None) ≡ Some false → k ≡ kind.Mark c
    go true d i f = cc
    go false true i f = is_that c k i
    go false false i f = cc

-- a comma or the closer, as the automaton takes it
more_step : (l : Listing) (t : Token) (us : Row) (b : Option Bool) (below : Stack)
    → goes_on (closer l) (Some t.kind) ≡ b
    → run (t ∷ us) (m.more l ∷ below) ≡ run_after (act_on l b) below (run us) (t ∷ us)
more_step l t us b below e = ap (λ o. run_after (act_on l o) below (run us) (t ∷ us)) e

module _ {A : Type 0} (P : A → Row → Row → Type 0) (p : Parser A) (l : Listing) (top : ℕ)
    (good : (ts : Row) → length ts ≤ top → Good (λ x r. P x ts r) (first_of l) (m.more l ∷ []) (p ts) ts) where
  abbrev List_good : Row → Stack → Outcome (List A) → Row → Type 0
  List_good ts before o us = Good (λ xs r. Listed P (closer l) xs ts r) before [] o us

  further_good : (x : A) (w : Word) (ts us : Row) {o : Outcome (List A)} → P x ts (at w mark.Comma ∷ us)
      → List_good us (first_of l) o us → List_good ts (first_of l) (and_then o (λ xs t. Ok (x ∷ xs, t))) us
  further_good x w ts us h (reads q le e) = reads (further h q) le e
  further_good x w ts us h (stops e) = stops e

  after_value : (n : ℕ) (ts : Row) → ((us : Row) → length us < n → length us ≤ top → List_good us (first_of l) (list_of p (closer l) n us) us) →
      (x : A) (r : Row) → length r ≤ n → length r ≤ top → P x ts r
      → List_good ts (m.more l ∷ []) (listed_by (list_of p (closer l) n) x (goes_on (closer l) (first_kind r)) r) r
  after_value n ts others x [] le le2 h = stops (λ below. refl)
  after_value n ts others x (t ∷ us) le le2 h =
      on_option (λ o. List_good ts (m.more l ∷ []) (listed_by (list_of p (closer l) n) x o (t ∷ us)) (t ∷ us)) (goes_on (closer l) (Some t.kind))
      (λ e. stops (λ below. more_step l t us None below e))
      follows
    where
      follows : (b : Bool) → goes_on (closer l) (Some t.kind) ≡ Some b
          → List_good ts (m.more l ∷ []) (listed_by (list_of p (closer l) n) x (Some b) (t ∷ us)) (t ∷ us)
      follows true e = beyond (omega arith) (λ below. more_step l t us (Some true) below e)
          (further_good x (word_of t) ts us (subst (λ k. P x ts (on (word_of t) k ∷ us)) (comma_comes (closer l) t.kind e) h)
          (others us (omega arith) (omega arith)))
      follows false e =
          reads (last (subst (λ k. P x ts (on (word_of t) k ∷ us)) (closer_comes (closer l) t.kind e) h)) (omega arith)
          (λ below. more_step l t us (Some false) below e)

  -- values with commas between them are read as the automaton takes them, and what is read is so, where each value is
  pub listed_good : (n : ℕ) (ts : Row) → length ts < n → length ts ≤ top → List_good ts (first_of l) (list_of p (closer l) n ts) ts
  unfolding list_of
  listed_good zero ts le le2 = absurd (omega arith)
  listed_good (suc n) ts le le2 = go (good ts le2) (after_value n ts (listed_good n))
    where
      go : {o : Outcome A} → Good (λ x r. P x ts r) (first_of l) (m.more l ∷ []) o ts
          → ((x : A) (r : Row) → length r ≤ n → length r ≤ top → P x ts r
          → List_good ts (m.more l ∷ []) (listed_by (list_of p (closer l) n) x (goes_on (closer l) (first_kind r)) r) r) →
          List_good ts (first_of l) (and_then o (λ x us. listed_by (list_of p (closer l) n) x (goes_on (closer l) (first_kind us)) us)) ts
      go (reads {v = x} {r = r} h le3 f) tail = beyond le3 f (tail x r (omega arith) (omega arith) h)
      go (stops f) tail = stops f

-- ---- what is assigned

-- a name, a square bracket and a name at the front
record FrontPlace (ts : Row) : Type 0 where
  x : Word
  o : Word
  y : Word
  more : Row
  is : ts ≡ on x kind.Name ∷ at o mark.OpenSquare ∷ on y kind.Name ∷ more

front_place : (ts : Row) → begins_place ts ≡ true → FrontPlace ts
front_place [] e = cc
front_place (t ∷ []) e = one t.kind e
  where
    one : (h : TokenKind) → is_place (Some h) None None ≡ true → FrontPlace (t ∷ [])
    one kind.Name e = cc
    one _ e = cc
front_place (t ∷ u ∷ []) e = two t.kind u.kind e
  where
    two : (h i : TokenKind) → is_place (Some h) (Some i) None ≡ true → FrontPlace (t ∷ u ∷ [])
    two kind.Name (kind.Mark mark.OpenSquare) e = cc
    two _ _ e = cc
front_place (t ∷ u ∷ v ∷ ts) e = go t.kind u.kind v.kind (word_of t) (word_of u) (word_of v) e
  where
    go : (h i j : TokenKind) (x o y : Word) → begins_place (on x h ∷ on o i ∷ on y j ∷ ts) ≡ true → FrontPlace (on x h ∷ on o i ∷ on y j ∷ ts)
    go kind.Name (kind.Mark mark.OpenSquare) kind.Name x o y e = record { x = x; o = o; y = y; more = ts; is = refl }
    go _ _ _ x o y e = cc

-- elsewhere the automaton expects an expression, where no guess comes
no_place : (ts : Row) (below : Stack)
    → begins_place ts ≡ false → is_mark mark.SpecCall (first_kind ts) ≡ false
    → run ts (m.assigned ∷ below) ≡ run ts (operand semicolon ∷ below)
no_place [] below e f = refl
no_place (t ∷ ts) below e f = first t.kind (word_of t) e f
  where
    third : (k : TokenKind) (x o y : Word) (us : Row) → begins_place (on x kind.Name ∷ at o mark.OpenSquare ∷ on y k ∷ us) ≡ false →
        run (on x kind.Name ∷ at o mark.OpenSquare ∷ on y k ∷ us) (m.assigned ∷ below)
        ≡ run (on x kind.Name ∷ at o mark.OpenSquare ∷ on y k ∷ us) (operand semicolon ∷ below)
    third kind.Name x o y us e = cc
    third _ x o y us e = refl

    after : (us : Row) (x o : Word) → begins_place (on x kind.Name ∷ at o mark.OpenSquare ∷ us) ≡ false →
        run (on x kind.Name ∷ at o mark.OpenSquare ∷ us) (m.assigned ∷ below) ≡ run (on x kind.Name ∷ at o mark.OpenSquare ∷ us) (operand semicolon ∷ below)
    after [] x o e = refl
    after (u ∷ us) x o e = third u.kind x o (word_of u) us e

    second : (k : TokenKind) (x o : Word) (us : Row) → begins_place (on x kind.Name ∷ on o k ∷ us) ≡ false →
        run (on x kind.Name ∷ on o k ∷ us) (m.assigned ∷ below) ≡ run (on x kind.Name ∷ on o k ∷ us) (operand semicolon ∷ below)
    second (kind.Mark mark.OpenSquare) x o us e = after us x o e
    second _ x o us e = refl

    named_first : (us : Row) (x : Word) → begins_place (on x kind.Name ∷ us) ≡ false
        → run (on x kind.Name ∷ us) (m.assigned ∷ below) ≡ run (on x kind.Name ∷ us) (operand semicolon ∷ below)
    named_first [] x e = refl
    named_first (u ∷ us) x e = second u.kind x (word_of u) us e

    first : (k : TokenKind) (x : Word) → begins_place (on x k ∷ ts) ≡ false → is_mark mark.SpecCall (Some k) ≡ false
        → run (on x k ∷ ts) (m.assigned ∷ below) ≡ run (on x k ∷ ts) (operand semicolon ∷ below)
    first kind.Name x e f = named_first ts x e
    first (kind.Mark mark.SpecCall) x e f = cc
    first _ x e f = refl

-- there the automaton expects a place and a semicolon
a_place : (ts : Row) (below : Stack)
    → begins_place ts ≡ true
    → run ts (m.assigned ∷ below) ≡ run ts (a_name ∷ a mark.OpenSquare ∷ a_name ∷ a mark.CloseSquare ∷ a mark.Semicolon ∷ below)
a_place ts below e = let p = front_place ts e in rw p.is refl

args_good : (top : ℕ) (ts : Row)
    → length ts < top → Good (λ es r. Listed Full mark.CloseRound es ts r) (operand in_args ∷ []) [] (args top ts) ts
args_good top ts le = listed_good Full (expr top) m.args top (λ us h. expr_good top in_args us h) top ts le (omega arith)

-- ---- what stands up to a semicolon

-- the tokens are a location and a semicolon
record IsPlaceEnd (ts : Row) (v : Location × Span) (r : Row) : Type 0 where
  o : Word
  c : Word
  x : List ℕ
  is : ts ≡ location_row (word v.0.mem.name v.0.mem.span) o (word v.0.address.name v.0.address.span) c (at (word x v.1) mark.Semicolon ∷ r)

place_end_good : (ts : Row)
    → Good (IsPlaceEnd ts) (a_name ∷ a mark.OpenSquare ∷ a_name ∷ a mark.CloseSquare ∷ a mark.Semicolon ∷ []) [] (ended place ts) ts
unfolding ended
place_end_good ts =
    then _ _ (place_good ts) (λ v r1 p1 _.
    then _ _ (take_good mark.Semicolon r1) (λ e r2 p2 _.
    reads (record { o = p1.o; c = p1.c; x = p2.0; is = rw (p1.is, p2.1) refl }) (omega arith) (λ below. refl)))

-- the tokens are an expression and a semicolon
abbrev IsExprEnd : Row → Expr × Span → Row → Type 0
IsExprEnd ts v r = (x : List ℕ) × Full v.0 ts (at (word x v.1) mark.Semicolon ∷ r)

expr_end_good : (top : ℕ) (ts : Row) → length ts ≤ top → Good (IsExprEnd ts) (operand semicolon ∷ []) [] (ended (expr top) ts) ts
unfolding ended
expr_end_good top ts le =
    then _ _ (expr_good top semicolon ts le) (λ v r1 p1 _.
    then _ _ (take_good mark.Semicolon r1) (λ e r2 p2 _.
    reads (p2.0, rw p2.1 at p1) (omega arith) (λ below. refl)))

-- the tokens are arguments and a semicolon
abbrev IsArgsEnd : Row → List Expr × Span → Row → Type 0
IsArgsEnd ts v r = (x : List ℕ) × Listed Full mark.CloseRound v.0 ts (at (word x v.1) mark.Semicolon ∷ r)

args_end_good : (top : ℕ) (ts : Row)
    → length ts < top → Good (IsArgsEnd ts) (operand in_args ∷ a mark.Semicolon ∷ []) [] (ended (args top) ts) ts
unfolding ended
args_end_good top ts le =
    then _ _ (args_good top ts le) (λ es r1 p1 _.
    then _ _ (take_good mark.Semicolon r1) (λ e r2 p2 _.
    reads (p2.0, rw p2.1 at p1) (omega arith) (λ below. refl)))

computed_good : (top : ℕ) (x q : Word) (ts : Row)
    → length ts ≤ top → begins_place ts ≡ false
    → Good (λ s r. Item (s ∷ []) (on x kind.Name ∷ at q mark.Assign ∷ ts) r) (m.assigned ∷ []) [] (computed_stmt top (ident x) ts) ts
computed_good top x q ts le e =
    on_test
    (λ b. Good (λ s r. Item (s ∷ []) (on x kind.Name ∷ at q mark.Assign ∷ ts) r) (m.assigned ∷ []) []
    (cond b (guess_of top (ident x) (next ts)) (bind_of (expr top) (ident x) ts)) ts)
    (is_mark mark.SpecCall (first_kind ts))
    (λ f. let s = begins mark.SpecCall ts f in let k : length ts ≡ length (at s.w mark.SpecCall ∷ s.more) = ap length s.is in
    subst (λ us. Good (λ s r. Item (s ∷ []) (on x kind.Name ∷ at q mark.Assign ∷ us) r) (m.assigned ∷ []) [] (guess_of top (ident x) (next us)) us) (sym s.is)
    (step refl
    (then _ _ (take_good mark.OpenRound s.more) (λ _ r1 p1 le1.
    then _ _ (args_end_good top r1 (omega arith)) (λ v r2 p2 _.
    reads (rw p1.1 (guessing p2.1)) (omega arith) (λ below. refl))))))
    (λ f. instead (operand semicolon ∷ []) (λ below. no_place ts below e f)
    (then _ _ (expr_end_good top ts le) (λ v r1 p1 _.
    reads (binding p1.1) (omega arith) (λ below. refl))))

assigned_good : (top : ℕ) (x q : Word) (ts : Row)
    → length ts ≤ top
    → Good (λ s r. Item (s ∷ []) (on x kind.Name ∷ at q mark.Assign ∷ ts) r) (m.assigned ∷ []) [] (assigned_stmt top (ident x) ts) ts
assigned_good top x q ts le =
    on_test
    (λ b. Good (λ s r. Item (s ∷ []) (on x kind.Name ∷ at q mark.Assign ∷ ts) r) (m.assigned ∷ []) []
    (cond b (read_of (ident x) ts) (computed_stmt top (ident x) ts)) ts)
    (begins_place ts)
    (λ e. instead (a_name ∷ a mark.OpenSquare ∷ a_name ∷ a mark.CloseSquare ∷ a mark.Semicolon ∷ []) (λ below. a_place ts below e)
    (then _ _ (place_end_good ts) (λ v r1 p1 _.
    reads (rw p1.is reading) (omega arith) (λ below. refl))))
    (λ e. computed_good top x q ts le e)

-- the tokens are an address, a closing bracket and an arrow
record IsAddress (ts : Row) (y : Ident) (r : Row) : Type 0 where
  c : Word
  d : Word
  is : ts ≡ on (word y.name y.span) kind.Name ∷ at c mark.CloseSquare ∷ at d mark.Arrow ∷ r

address_good : (ts : Row) → Good (IsAddress ts) (a_name ∷ a mark.CloseSquare ∷ a mark.Arrow ∷ []) [] (address ts) ts
unfolding address
address_good ts =
    then _ _ (name_good ts) (λ y r1 p1 _.
    then _ _ (take_good mark.CloseSquare r1) (λ c r2 p2 _.
    then _ _ (take_good mark.Arrow r2) (λ d r3 p3 _.
    reads (record { c = word p2.0 c; d = word p3.0 d; is = rw (p1, p2.1, p3.1) refl }) (omega arith) (λ below. refl))))

named_good : (top : ℕ) (x : Word) (ts : Row)
    → length ts ≤ top
    → Good (λ s r. Item (s ∷ []) (on x kind.Name ∷ ts) r) (after_name ∷ []) [] (named_stmt top (ident x) ts) ts
unfolding named_stmt
named_good top x [] le = stops (λ below. refl)
named_good top x (t ∷ ts) le = go t.kind (word_of t) le
  where
    go : (k : TokenKind) (q : Word) → length (on q k ∷ ts) ≤ top
        → Good (λ s r. Item (s ∷ []) (on x kind.Name ∷ on q k ∷ ts) r) (after_name ∷ []) [] (named_by top (ident x) (Some k) (on q k ∷ ts)) (on q k ∷ ts)
    go (kind.Mark mark.Assign) q le = step refl (assigned_good top x q ts (omega arith))
    go (kind.Mark mark.Arrow) q le = step refl
        (then _ _ (place_end_good ts) (λ v r1 p1 _.
        reads (rw p1.is fetching) (omega arith) (λ below. refl)))
    go (kind.Mark mark.OpenSquare) q le = step refl
        (then _ _ (address_good ts) (λ y r1 p1 le1.
        then _ _ (expr_end_good top r1 (omega arith)) (λ v r2 p2 _.
        reads (rw p1.is (writing p2.1)) (omega arith) (λ below. refl))))
    go _ q le = stops (λ below. refl)

-- ---- locations in brackets

-- the tokens are what a location is reserved for, a bracket and a semicolon
record IsPurpose (ts : Row) (v : Kind × Span) (r : Row) : Type 0 where
  q : Word
  k : Word
  z : Word
  x : List ℕ
  is : ts ≡ at q mark.Comma ∷ at k (mark_of v.0) ∷ at z mark.CloseRound ∷ at (word x v.1) mark.Semicolon ∷ r

purpose_good : (ts : Row) → Good (IsPurpose ts) (a mark.Comma ∷ an_access ∷ a mark.CloseRound ∷ a mark.Semicolon ∷ []) [] (purpose ts) ts
unfolding purpose
purpose_good ts =
    then _ _ (take_good mark.Comma ts) (λ q r1 p1 _.
    then _ _ (access_good r1) (λ k r2 p2 _.
    then _ _ (take_good mark.CloseRound r2) (λ z r3 p3 _.
    then _ _ (take_good mark.Semicolon r3) (λ e r4 p4 _.
    reads (record { q = word p1.0 q; k = p2.0; z = word p3.0 z; x = p4.0; is = rw (p1.1, p2.1, p3.1, p4.1) refl }) (omega arith) (λ below. refl)))))

-- the tokens are a bracket and a semicolon
record IsClosed (ts : Row) (v : Span) (r : Row) : Type 0 where
  z : Word
  x : List ℕ
  is : ts ≡ at z mark.CloseRound ∷ at (word x v) mark.Semicolon ∷ r

closed_good : (ts : Row) → Good (IsClosed ts) (a mark.CloseRound ∷ a mark.Semicolon ∷ []) [] (closed ts) ts
unfolding closed
closed_good ts =
    then _ _ (take_good mark.CloseRound ts) (λ z r1 p1 _.
    then _ _ (take_good mark.Semicolon r1) (λ e r2 p2 _.
    reads (record { z = word p1.0 z; x = p2.0; is = rw (p1.1, p2.1) refl }) (omega arith) (λ below. refl)))

-- the tokens are a location and what it is reserved for, in brackets, and a semicolon
record IsReserved (ts : Row) (v : Location × Kind × Span) (r : Row) : Type 0 where
  p : Word
  o : Word
  c : Word
  q : Word
  k : Word
  z : Word
  x : List ℕ
  is : ts
      ≡ at p mark.OpenRound
      ∷ location_row (word v.0.mem.name v.0.mem.span) o (word v.0.address.name v.0.address.span) c
      (at q mark.Comma ∷ at k (mark_of v.1) ∷ at z mark.CloseRound ∷ at (word x v.2) mark.Semicolon ∷ r)

reserved_good : (ts : Row) → Good (IsReserved ts) (m.held_stack (a mark.Comma ∷ an_access ∷ [])) [] (reserved_location ts) ts
unfolding reserved_location
reserved_good ts =
    then _ _ (take_good mark.OpenRound ts) (λ p r1 p1 _.
    then _ _ (place_good r1) (λ v r2 p2 _.
    then _ _ (purpose_good r2) (λ u r3 p3 _.
    reads (record { p = word p1.0 p; o = p2.o; c = p2.c; q = p3.q; k = p3.k; z = p3.z; x = p3.x; is = rw (p1.1, p2.is, p3.is) refl })
    (omega arith) (λ below. refl))))

-- the tokens are a location in brackets and a semicolon
record IsHeld (ts : Row) (v : Location × Span) (r : Row) : Type 0 where
  p : Word
  o : Word
  c : Word
  z : Word
  x : List ℕ
  is : ts
      ≡ at p mark.OpenRound
      ∷ location_row (word v.0.mem.name v.0.mem.span) o (word v.0.address.name v.0.address.span) c (at z mark.CloseRound ∷ at (word x v.1) mark.Semicolon ∷ r)

held_good : (ts : Row) → Good (IsHeld ts) (m.held_stack []) [] (held_location ts) ts
unfolding held_location
held_good ts =
    then _ _ (take_good mark.OpenRound ts) (λ p r1 p1 _.
    then _ _ (place_good r1) (λ v r2 p2 _.
    then _ _ (closed_good r2) (λ e r3 p3 _.
    reads (record { p = word p1.0 p; o = p2.o; c = p2.c; z = p3.z; x = p3.x; is = rw (p1.1, p2.is, p3.is) refl }) (omega arith) (λ below. refl))))

-- the tokens are a guess and arguments, in brackets, and a semicolon
record IsAgainst (ts : Row) (v : Ident × List Expr × Span) (r : Row) : Type 0 where
  p : Word
  c : Word
  x : List ℕ
  b : Row
  args : Listed Full mark.CloseRound v.1 b (at (word x v.2) mark.Semicolon ∷ r)
  is : ts ≡ at p mark.OpenRound ∷ on (word v.0.name v.0.span) kind.Name ∷ at c mark.Comma ∷ b

against_good : (top : ℕ) (ts : Row) → length ts < top → Good (IsAgainst ts) m.against_stack [] (against top ts) ts
unfolding against
against_good top ts le =
    then _ _ (take_good mark.OpenRound ts) (λ p r1 p1 le1.
    then _ _ (name_good r1) (λ g r2 p2 le2.
    then _ _ (take_good mark.Comma r2) (λ c r3 p3 le3.
    then _ _ (args_end_good top r3 (omega arith)) (λ v r4 p4 le4.
    reads (record { p = word p1.0 p; c = word p3.0 c; x = p4.0; b = r3; args = p4.1; is = rw (p1.1, p2, p3.1) refl })
    (omega arith) (λ below. refl)))))

-- the tokens are empty brackets and a semicolon
record IsBare (ts : Row) (v : Span) (r : Row) : Type 0 where
  p : Word
  z : Word
  x : List ℕ
  is : ts ≡ at p mark.OpenRound ∷ at z mark.CloseRound ∷ at (word x v) mark.Semicolon ∷ r

bare_good : (ts : Row) → Good (IsBare ts) (a mark.OpenRound ∷ a mark.CloseRound ∷ a mark.Semicolon ∷ []) [] (bare ts) ts
unfolding bare
bare_good ts =
    then _ _ (take_good mark.OpenRound ts) (λ p r1 p1 _.
    then _ _ (take_good mark.CloseRound r1) (λ z r2 p2 _.
    then _ _ (take_good mark.Semicolon r2) (λ e r3 p3 _.
    reads (record { p = word p1.0 p; z = word p2.0 z; x = p3.0; is = rw (p1.1, p2.1, p3.1) refl }) (omega arith) (λ below. refl))))

-- ---- items without others inside

alone_good : {P : List Stmt → Row → Type 0} {before after : Stack} {o : Outcome Stmt} {ts : Row}
    → Good (λ s r. P (s ∷ []) r) before after o ts → Good P before after (and_then o (λ s us. Ok (s ∷ [], us))) ts
alone_good (reads p le e) = reads p le e
alone_good (stops e) = stops e

-- the reader of an item does what the automaton does, finds what is so, and leaves fewer than n tokens
abbrev pub Item_good : ℕ → Row → Outcome (List Stmt) → Row → Type 0
Item_good n ts o us = Good (λ s r. Item s ts r × (length r < n)) (m.items ∷ []) (m.items ∷ []) o us

plain_at : (top : ℕ) (k : TokenKind) (w : Word) (ts : Row) → length (on w k ∷ ts) ≤ top
    → is_mark mark.CloseBrace (Some k) ≡ false → is_mark mark.If (Some k) ≡ false →
    Item_good (length (on w k ∷ ts)) (on w k ∷ ts) (plain_by top (Some k) (on w k ∷ ts)) (on w k ∷ ts)
unfolding locking
plain_at top kind.Name w ts le e f = step refl (under (m.items ∷ []) (alone_good (weaker (λ s r p le2. (p, omega arith)) (named_good top w ts (omega arith)))))
plain_at top (kind.Mark mark.Separator) w ts le e f = step refl (reads (separating, omega arith) (omega arith) (λ below. refl))
plain_at top (kind.Mark mark.Reserve) w ts le e f = step refl
    (then _ _ (reserved_good ts) (λ v r p le2. reads (rw p.is reserving, omega arith) (omega arith) (λ below. refl)))
plain_at top (kind.Mark mark.Acquire) w ts le e f = step refl
    (then _ _ (reserved_good ts) (λ v r p le2. reads (rw p.is acquiring, omega arith) (omega arith) (λ below. refl)))
plain_at top (kind.Mark mark.Block) w ts le e f = step refl
    (then _ _ (held_good ts) (λ v r p le2. reads (rw p.is blocking, omega arith) (omega arith) (λ below. refl)))
plain_at top (kind.Mark mark.Release) w ts le e f = step refl
    (then _ _ (held_good ts) (λ v r p le2. reads (rw p.is releasing, omega arith) (omega arith) (λ below. refl)))
plain_at top (kind.Mark mark.Call) w ts le e f = step refl
    (then _ _ (take_good mark.OpenRound ts) (λ _ r1 p1 le1.
    then _ _ (args_end_good top r1 (omega arith)) (λ v r2 p2 le2.
    reads (rw p1.1 (calling p2.1), omega arith) (omega arith) (λ below. refl))))
plain_at top (kind.Mark mark.Verify) w ts le e f = step refl
    (then _ _ (against_good top ts (omega arith)) (λ v r p le2. reads (rw p.is (verifying p.args), omega arith) (omega arith) (λ below. refl)))
plain_at top (kind.Mark mark.Update) w ts le e f = step refl
    (then _ _ (against_good top ts (omega arith)) (λ v r p le2. reads (rw p.is (updating p.args), omega arith) (omega arith) (λ below. refl)))
plain_at top (kind.Mark mark.SpecCheck) w ts le e f = step refl
    (then _ _ (bare_good ts) (λ v r p le2. reads (rw p.is checking, omega arith) (omega arith) (λ below. refl)))
plain_at top (kind.Mark mark.SpecBarrier) w ts le e f = step refl
    (then _ _ (bare_good ts) (λ v r p le2. reads (rw p.is barring, omega arith) (omega arith) (λ below. refl)))
plain_at top (kind.Mark mark.CloseBrace) w ts le e f = cc
plain_at top (kind.Mark mark.If) w ts le e f = cc
plain_at top _ w ts le e f = stops (λ below. refl)

-- an item with none inside is read so, where neither a closing brace nor an `if` comes
pub plain_good : (top : ℕ) (ts : Row)
    → length ts ≤ top → is_mark mark.CloseBrace (first_kind ts) ≡ false → is_mark mark.If (first_kind ts) ≡ false
    → Item_good (length ts) ts (plain top ts) ts
unfolding plain locking
plain_good top [] le e f = stops (λ below. refl)
plain_good top (t ∷ ts) le e f = plain_at top t.kind (word_of t) ts le e f
