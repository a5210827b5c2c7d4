-- What is derived is read, where a token follows that can: so each text has one tree.
use Rattle.std.proofs.Common.{◌≡◌, ℕ, zero, suc, pred, ◌≤◌, ◌<◌, Bool, true, false, List, ◌∷◌, length, Option, Some, None, Ok, cond, nat_eq, refl, ◌∙◌, arith}
use Rattle.std.proofs.lemmas.Bool.{eqb-true}
use Rattle.std.proofs.lemmas.Bool.Decides.{nat_tests}
use Rattle.pdl_semantics.specs.Tree.{BinaryOp, Expr, Binary, Kind, R, W, Stmt, Stmts, LockKind, Queue, Bypass, Rename, LockDecl, Param, Advisory, Mem, Literal, Start, Pipe}
use Rattle.pdl_syntax_tokens.specs.declared.token.Mark.{Mark}
use Rattle.pdl_syntax_tokens.specs.declared.token.Mark.TheVariants as mark
use Rattle.pdl_syntax_tokens.specs.declared.token.TokenKind.{TokenKind}
use Rattle.pdl_syntax_tokens.specs.declared.token.TokenKind.TheVariants as kind
use Rattle.pdl_syntax_tokens.specs.Cursor.{next, first_kind}
use Rattle.pdl_syntax_tokens.specs.Tokens.{Row}
use Rattle.pdl_syntax_grammar.specs.Grammar.{Word, at, operator_of, loose, levels, mark_of, lock_mark, pace_mark, pace_kind, Listed, last, further, Level, Full, constant, variable, sliced, bracketed, inverted, catenated, compared, extended, sign_extended, tighter, joined, whole, chosen, Item, separating, reading, binding, guessing, fetching, writing, reserving, acquiring, blocking, releasing, branching, choosing, calling, verifying, updating, checking, barring, Items, none, more, Parameter, parameter, Lock, unlocked, locked, Memory, memory, advisory, Given, given, Starting, starting, Text, text}
use Rattle.pdl_syntax_cursor.specs.Looks.{is_mark, begins_place, is_place}
use Rattle.pdl_syntax_grammar.specs.Reading.{Parser, goes_on, list_of, op_in, op_by, chain, level, full, inside, expr, args, item, items, pipe}
use Rattle.pdl_syntax_grammar.specs.Reading as spec

-- ---- how much is left

mutual
  shorter : {n : ℕ} {e : Expr} {ts r : Row} → Level n e ts r → length r < length ts
  shorter constant = omega arith
  shorter variable = omega arith
  shorter sliced = omega arith
  shorter (bracketed h) = let k = shorter_full h in omega arith
  shorter (inverted h) = let k = shorter h in omega arith
  shorter (catenated h i) = let k = shorter_full h in let j = shorter_full i in omega arith
  shorter (compared h i) = let k = shorter_full h in let j = shorter_full i in omega arith
  shorter (extended h) = let k = shorter_full h in omega arith
  shorter (sign_extended h) = let k = shorter_full h in omega arith
  shorter (tighter h) = shorter h
  shorter (joined e h i) = let k = shorter h in let j = shorter i in omega arith

  shorter_full : {e : Expr} {ts r : Row} → Full e ts r → length r < length ts
  shorter_full (whole h) = shorter h
  shorter_full (chosen h i j) = let k = shorter h in let k2 = shorter_full i in let k3 = shorter_full j in omega arith

full_shorter : (e : Expr) (ts r : Row) → Full e ts r → length r < length ts
full_shorter e ts r h = shorter_full h

shorter_listed : {A : Type 0} {P : A → Row → Row → Type 0} {close : Mark} {xs : List A} {ts r : Row} → ((x : A) (a b : Row) → P x a b → length b < length a) →
    Listed P close xs ts r → length r < length ts
shorter_listed f (last h) = let k = f _ _ _ h in omega arith
shorter_listed f (further h i) = let k = f _ _ _ h in let j = shorter_listed f i in omega arith

mutual
  shorter_item : {s : List Stmt} {ts r : Row} → Item s ts r → length r < length ts
  shorter_item separating = omega arith
  shorter_item reading = omega arith
  shorter_item (binding h) = let k = shorter_full h in omega arith
  shorter_item (guessing h) = let k = shorter_listed full_shorter h in omega arith
  shorter_item fetching = omega arith
  shorter_item (writing h) = let k = shorter_full h in omega arith
  shorter_item reserving = omega arith
  shorter_item acquiring = omega arith
  shorter_item blocking = omega arith
  shorter_item releasing = omega arith
  shorter_item (branching h i) = let k = shorter_full h in let j = shorter_items i in omega arith
  shorter_item (choosing h i j) = let k = shorter_full h in let k2 = shorter_items i in let k3 = shorter_items j in omega arith
  shorter_item (calling h) = let k = shorter_listed full_shorter h in omega arith
  shorter_item (verifying h) = let k = shorter_listed full_shorter h in omega arith
  shorter_item (updating h) = let k = shorter_listed full_shorter h in omega arith
  shorter_item checking = omega arith
  shorter_item barring = omega arith

  shorter_items : {ss : Stmts} {ts r : Row} → Items ss ts r → length r ≤ length ts
  shorter_items none = omega arith
  shorter_items (more h i) = let k = shorter_item h in let j = shorter_items i in omega arith

param_shorter : (x : Param) (ts r : Row) → Parameter x ts r → length r < length ts
param_shorter x ts r parameter = omega arith

shorter_lock : {x : Option LockDecl} {ts r : Row} → Lock x ts r → length r ≤ length ts
shorter_lock unlocked = omega arith
shorter_lock locked = omega arith

mem_shorter : (x : Mem) (ts r : Row) → Memory x ts r → length r < length ts
mem_shorter x ts r (memory d h) = let k = shorter_lock h in omega arith
mem_shorter x ts r advisory = omega arith

given_shorter : (x : Literal) (ts r : Row) → Given x ts r → length r < length ts
given_shorter x ts r given = omega arith

-- ---- what may follow an expression

-- no operator below this looseness, and no slice
record After (n : ℕ) (r : Row) : Type 0 where
  ends : (j : ℕ) → j < n → op_in j (first_kind r) ≡ None
  square : is_mark mark.OpenSquare (first_kind r) ≡ false

-- after these tokens no operator and no choice goes on
record Closed (r : Row) : Type 0 where
  after : After levels r
  question : is_mark mark.Question (first_kind r) ≡ false

fewer : (n k : ℕ) (r : Row) → k ≤ n → After n r → After k r
fewer n k r le h = record { ends = λ j b. h.ends j (omega arith); square = h.square }

-- a mark that is neither
after_mark : (n : ℕ) (w : Word) (m : Mark) (r : Row)
    → operator_of m ≡ None → is_mark mark.OpenSquare (Some (kind.Mark m)) ≡ false → After n (at w m ∷ r)
after_mark n w m r e f = record { ends = λ j b. rw e refl; square = f }

closed_mark : (w : Word) (m : Mark) (r : Row)
    → operator_of m ≡ None → is_mark mark.OpenSquare (Some (kind.Mark m)) ≡ false
    → is_mark mark.Question (Some (kind.Mark m)) ≡ false → Closed (at w m ∷ r)
closed_mark w m r e f g = record { after = after_mark levels w m r e f; question = g }

same_looseness : (op : BinaryOp) → nat_eq (loose op) (loose op) ≡ true
same_looseness op = grind (arith, nat_tests)

op_there : (m : Mark) (op : BinaryOp) → operator_of m ≡ Some op → op_in (loose op) (Some (kind.Mark m)) ≡ Some op
op_there m op e = rw (e, same_looseness op) refl

op_not : (m : Mark) (op : BinaryOp) (j : ℕ) → operator_of m ≡ Some op → j < loose op → op_in j (Some (kind.Mark m)) ≡ None
op_not m op j e le = rw e (go (nat_eq (loose op) j) refl)
  where
    go : (b : Bool) → nat_eq (loose op) j ≡ b → cond b (Some op) None ≡ None
    go true i = let k = eqb-true (loose op) j i in absurd (omega arith)
    go false i = refl

not_square : (m : Mark) (op : BinaryOp) → operator_of m ≡ Some op → is_mark mark.OpenSquare (Some (kind.Mark m)) ≡ false
not_square mark.OpenSquare op e = cc
not_square _ op e = refl

after_operand : (w : Word) (m : Mark) (op : BinaryOp) (r : Row) → operator_of m ≡ Some op → After (loose op) (at w m ∷ r)
after_operand w m op r e = record { ends = λ j b. op_not m op j e b; square = not_square m op e }

-- ---- expressions

Reached : Parser Expr → ℕ → ℕ → Expr → Row → Row → Type 0
Reached p room zero e ts r = p ts ≡ Ok (e, r)
Reached p room (suc j) e ts r = (m : ℕ) × (length r ≤ m) × (level p room (suc j) ts ≡ chain (level p room j) j m e r)

chain_ends : (q : Parser Expr) (j m : ℕ) (e : Expr) (r : Row) → op_in j (first_kind r) ≡ None → chain q j m e r ≡ Ok (e, r)
unfolding chain
chain_ends q j zero e r h = refl
chain_ends q j (suc m) e r h = rw h refl

done : (p : Parser Expr) (room n : ℕ) (e : Expr) (ts r : Row) → Reached p room n e ts r → After n r → level p room n ts ≡ Ok (e, r)
unfolding Reached level
done p room zero e ts r h a = h
done p room (suc j) e ts r h a = h.2 ∙ chain_ends (level p room j) j h.0 e r (a.ends j (omega arith))

begun : (p : Parser Expr) (room j : ℕ) (e : Expr) (ts r : Row)
    → length r ≤ room → level p room j ts ≡ Ok (e, r) → Reached p room (suc j) e ts r
unfolding Reached level
begun p room j e ts r le h = (room, le, rw h refl)

gone_on : (p : Parser Expr) (room : ℕ) (m : Mark) (op : BinaryOp) (w : Word) (x y : Expr) (ts b r : Row)
    → operator_of m ≡ Some op → Reached p room (suc (loose op)) x ts (at w m ∷ b) →
    level p room (loose op) b ≡ Ok (y, r) → length r < length b → Reached p room (suc (loose op)) (Binary op x y) ts r
unfolding Reached chain
gone_on p room m op w x y ts b r i h e le = go h.0 h.1 h.2
  where
    go : (n : ℕ) → length (at w m ∷ b) ≤ n → level p room (suc (loose op)) ts ≡ chain (level p room (loose op)) (loose op) n x (at w m ∷ b) →
        (n : ℕ) × (length r ≤ n) × (level p room (suc (loose op)) ts ≡ chain (level p room (loose op)) (loose op) n (Binary op x y) r)
    go zero le2 s = absurd (omega arith)
    go (suc n) le2 s = (n, omega arith, s ∙ rw (op_there m op i) (rw e refl))

mutual
  unfolding Reached spec.operand spec.bounds spec.number spec.take inside full

  only_level : {n : ℕ} {e : Expr} {ts r : Row} → Level n e ts r → (k : ℕ) → length ts ≤ k → After (pred n) r → Reached (spec.operand (inside k)) k n e ts r
  only_level constant k le f = refl
  only_level variable k le f = rw f.square refl
  only_level sliced k le f = refl
  only_level (bracketed h) zero le f = absurd (omega arith)
  only_level (bracketed h) (suc k) le f = rw (only_full h k (omega arith) (closed_mark _ mark.CloseRound _ refl refl refl)) refl
  only_level (inverted h) zero le f = absurd (omega arith)
  only_level (inverted h) (suc k) le f = rw (only_level h k (omega arith) f) refl
  only_level (catenated h i) zero le f = absurd (omega arith)
  only_level (catenated h i) (suc k) le f = let sh = shorter_full h in
      rw (only_full h k (omega arith) (closed_mark _ mark.Comma _ refl refl refl))
      (rw (only_full i k (omega arith) (closed_mark _ mark.CloseRound _ refl refl refl)) refl)
  only_level (compared h i) zero le f = absurd (omega arith)
  only_level (compared h i) (suc k) le f = let sh = shorter_full h in
      rw (only_full h k (omega arith) (closed_mark _ mark.Comma _ refl refl refl))
      (rw (only_full i k (omega arith) (closed_mark _ mark.CloseRound _ refl refl refl)) refl)
  only_level (extended h) zero le f = absurd (omega arith)
  only_level (extended h) (suc k) le f = rw (only_full h k (omega arith) (closed_mark _ mark.Comma _ refl refl refl)) refl
  only_level (sign_extended h) zero le f = absurd (omega arith)
  only_level (sign_extended h) (suc k) le f = rw (only_full h k (omega arith) (closed_mark _ mark.Comma _ refl refl refl)) refl
  only_level (tighter {n = n} {e = e} {a = a} {r = r} h) k le f =
      let sh = shorter h in
      begun _ k n e a r (omega arith) (done _ k n e a r (only_level h k le (fewer n (pred n) r (omega arith) f)) f)
  only_level (joined {w = w} {m = m} {op = op} {x = x} {y = y} {a = a} {b = b} {r = r} i h j) k le f =
      let sh = shorter h in
      gone_on _ k m op w x y a b r i (only_level h k le (after_operand w m op b i))
      (done _ k (loose op) y b r (only_level j k (omega arith) (fewer (loose op) (pred (loose op)) r (omega arith) f)) f)
      (shorter j)

  only_full : {e : Expr} {ts r : Row} → Full e ts r → (k : ℕ) → length ts ≤ k → Closed r → expr k ts ≡ Ok (e, r)
  only_full (whole {e = e} {a = a} {r = r} h) k le f =
      rw (done _ k levels e a r (only_level h k le (fewer levels (pred levels) r (omega arith) f.after)) f.after) (rw f.question refl)
  only_full (chosen h i j) zero le f = let sh = shorter h in absurd (omega arith)
  only_full (chosen {q = q} {c = c} {a = a} {b = b} h i j) (suc k) le f =
      let sh = shorter h in let si = shorter_full i in let g = after_mark levels q mark.Question b refl refl in
      rw (done _ (suc k) levels c a (at q mark.Question ∷ b) (only_level h (suc k) le (fewer levels (pred levels) (at q mark.Question ∷ b) (omega arith) g)) g)
      (rw (only_full i k (omega arith) (closed_mark _ mark.Colon _ refl refl refl)) (rw (only_full j k (omega arith) f) refl))

-- ---- values with commas between them

module _ {A : Type 0} {P : A → Row → Row → Type 0} (p : Parser A) (close : Mark) (top : ℕ) (short : (x : A) (a b : Row) → P x a b → length b < length a)
    (at_comma : (x : A) (a b : Row) (w : Word) → P x a (at w mark.Comma ∷ b) → length a ≤ top → p a ≡ Ok (x, at w mark.Comma ∷ b))
    (at_close : (x : A) (a b : Row) (w : Word) → P x a (at w close ∷ b) → length a ≤ top → p a ≡ Ok (x, at w close ∷ b))
    (ends : goes_on close (Some (kind.Mark close)) ≡ Some false) where
  only_listed : {xs : List A} {ts r : Row} → Listed P close xs ts r → (n : ℕ) → length ts < n → length ts ≤ top → list_of p close n ts ≡ Ok (xs, r)
  unfolding list_of
  only_listed h zero le le2 = absurd (omega arith)
  only_listed (last h) (suc n) le le2 = rw (at_close _ _ _ _ h le2) (rw ends refl)
  only_listed {ts = ts} {r = r} (further {x = x} {xs = xs} {b = b} h i) (suc n) le le2 = let sh = short _ _ _ h in
      rw (at_comma _ _ _ _ h le2) (rw (only_listed {xs = xs} {ts = b} {r = r} i n (omega arith) (omega arith)) refl)

only_args : {es : List Expr} {ts r : Row} → Listed Full mark.CloseRound es ts r → (k : ℕ) → length ts < k → args k ts ≡ Ok (es, r)
only_args h k le =
    only_listed (expr k) mark.CloseRound k full_shorter (λ x a b w f le2. only_full f k le2 (closed_mark _ mark.Comma _ refl refl refl))
    (λ x a b w f le2. only_full f k le2 (closed_mark _ mark.CloseRound _ refl refl refl)) refl h k le (omega arith)

-- ---- statements

after_name : (k k2 : Option TokenKind) → is_mark mark.OpenSquare k ≡ false → is_place (Some kind.Name) k k2 ≡ false
after_name (Some (kind.Mark mark.OpenSquare)) k2 f = cc
after_name _ k2 f = refl

-- an expression doesn't begin as a place
no_place : {n : ℕ} {e : Expr} {ts r : Row} → Level n e ts r → is_mark mark.OpenSquare (first_kind r) ≡ false → begins_place ts ≡ false
no_place constant f = refl
no_place (variable {r = r}) f = after_name (first_kind r) (first_kind (next r)) f
no_place sliced f = refl
no_place (bracketed h) f = refl
no_place (inverted h) f = refl
no_place (catenated h i) f = refl
no_place (compared h i) f = refl
no_place (extended h) f = refl
no_place (sign_extended h) f = refl
no_place (tighter h) f = no_place h f
no_place (joined {m = m} {op = op} e h i) f = no_place h (not_square m op e)

no_place_full : {e : Expr} {ts r : Row} → Full e ts r → is_mark mark.OpenSquare (first_kind r) ≡ false → begins_place ts ≡ false
no_place_full (whole h) f = no_place h f
no_place_full (chosen h i j) f = no_place h refl

-- an expression does not begin as a guess
no_guess : {n : ℕ} {e : Expr} {ts r : Row} → Level n e ts r → is_mark mark.SpecCall (first_kind ts) ≡ false
no_guess (tighter h) = no_guess h
no_guess (joined e h i) = no_guess h
no_guess constant = refl
no_guess _ = refl

no_guess_full : {e : Expr} {ts r : Row} → Full e ts r → is_mark mark.SpecCall (first_kind ts) ≡ false
no_guess_full (whole h) = no_guess h
no_guess_full (chosen h i j) = no_guess h

only_access : (k : Kind) (w : Word) (r : Row) → spec.access (at w (mark_of k) ∷ r) ≡ Ok (k, r)
unfolding spec.access
only_access R w r = refl
only_access W w r = refl

not_closed : {s : List Stmt} {ts r : Row} → Item s ts r → is_mark mark.CloseBrace (first_kind ts) ≡ false
not_closed separating = refl
not_closed reading = refl
not_closed _ = refl

not_else : {s : List Stmt} {ts r : Row} → Item s ts r → is_mark mark.Else (first_kind ts) ≡ false
not_else separating = refl
not_else reading = refl
not_else _ = refl

brace_no_else : (k : Option TokenKind) → is_mark mark.CloseBrace k ≡ true → is_mark mark.Else k ≡ false
brace_no_else (Some (kind.Mark mark.Else)) e = cc
brace_no_else _ e = refl

no_else : {ss : Stmts} {ts r : Row} → Items ss ts r
    → is_mark mark.CloseBrace (first_kind r) ≡ true → is_mark mark.Else (first_kind ts) ≡ false
no_else (none {r = r}) f = brace_no_else (first_kind r) f
no_else (more h i) f = not_else h

mutual
  unfolding item items spec.plain spec.locking spec.named_stmt spec.reserved_location spec.held_location spec.ended spec.address spec.purpose spec.closed spec.against spec.bare spec.condition spec.place spec.index spec.take spec.name

  only_item : {s : List Stmt} {ts r : Row} → Item s ts r → (k n : ℕ) → length ts ≤ k → length ts ≤ n
      → is_mark mark.Else (first_kind r) ≡ false → item k (items k n) ts ≡ Ok (s, r)
  only_item separating k n le le2 f = refl
  only_item reading k n le le2 f = refl
  only_item (binding h) k n le le2 f =
      rw (no_place_full h refl) (rw (no_guess_full h) (rw (only_full h k (omega arith) (closed_mark _ mark.Semicolon _ refl refl refl)) refl))
  only_item (guessing h) k n le le2 f = rw (only_args h k (omega arith)) refl
  only_item fetching k n le le2 f = refl
  only_item (writing h) k n le le2 f = rw (only_full h k (omega arith) (closed_mark _ mark.Semicolon _ refl refl refl)) refl
  only_item (reserving {access = a}) k n le le2 f = rw only_access refl
  only_item (acquiring {access = a}) k n le le2 f = rw only_access refl
  only_item blocking k n le le2 f = refl
  only_item releasing k n le le2 f = refl
  only_item (branching h i) k n le le2 f =
      let sh = shorter_full h in
      rw (only_full h k (omega arith) (closed_mark _ mark.CloseRound _ refl refl refl)) (rw (only_items i k n (omega arith) (omega arith) refl) (rw f refl))
  only_item (choosing h i j) k n le le2 f =
      let sh = shorter_full h in let si = shorter_items i in
      rw (only_full h k (omega arith) (closed_mark _ mark.CloseRound _ refl refl refl))
      (rw (only_items i k n (omega arith) (omega arith) refl) (rw (only_items j k n (omega arith) (omega arith) refl) refl))
  only_item (calling h) k n le le2 f = rw (only_args h k (omega arith)) refl
  only_item (verifying h) k n le le2 f = rw (only_args h k (omega arith)) refl
  only_item (updating h) k n le le2 f = rw (only_args h k (omega arith)) refl
  only_item checking k n le le2 f = refl
  only_item barring k n le le2 f = refl

  only_items : {ss : Stmts} {ts r : Row} → Items ss ts r → (k n : ℕ) → length ts ≤ k → length ts < n
      → is_mark mark.CloseBrace (first_kind r) ≡ true → items k n ts ≡ Ok (ss, r)
  only_items h k zero le le2 f = absurd (omega arith)
  only_items none k (suc n) le le2 f = rw f refl
  only_items (more h i) k (suc n) le le2 f = let sh = shorter_item h in
      rw (not_closed h) (rw (only_item h k n le (omega arith) (no_else i f)) (rw (only_items i k n (omega arith) (omega arith) f) refl))

-- ---- texts

only_param : {x : Param} {ts r : Row} → Parameter x ts r → spec.param ts ≡ Ok (x, r)
unfolding spec.param spec.width spec.name spec.take spec.number
only_param parameter = refl

only_lock_kind : (k : LockKind) (w : Word) (r : Row) → spec.lock_kind (at w (lock_mark k) ∷ r) ≡ Ok (k, r)
unfolding spec.lock_kind
only_lock_kind Queue w r = refl
only_lock_kind Bypass w r = refl
only_lock_kind Rename w r = refl

only_lock : {x : Option LockDecl} {ts r : Row} → Lock x ts r → is_mark mark.Lock (first_kind r) ≡ false → spec.lock ts ≡ Ok (x, r)
unfolding spec.lock spec.take spec.number
only_lock unlocked f = rw f refl
only_lock (locked {how = k}) f = rw only_lock_kind refl

only_keeping : {x : Option LockDecl} {ts r : Row} (delayed : Bool) (w : Word) → Lock x ts r → is_mark mark.Lock (first_kind r) ≡ false
    → spec.keeping (at w (pace_mark delayed) ∷ ts) ≡ Ok ((pace_kind delayed, x), r)
unfolding spec.keeping spec.pace
only_keeping true w h f = rw (only_lock h f) refl
only_keeping false w h f = rw (only_lock h f) refl

only_advisory : (w : Word) (r : Row) → spec.keeping (at w mark.Advisory ∷ r) ≡ Ok ((Advisory, None), r)
unfolding spec.keeping spec.pace
only_advisory w r = refl

only_mem : {x : Mem} {ts r : Row} → Memory x ts r → is_mark mark.Lock (first_kind r) ≡ false → spec.mem ts ≡ Ok (x, r)
unfolding spec.mem spec.shape spec.width spec.name spec.take spec.number
only_mem (memory {k = k} d h) f = rw (only_keeping d k h f) refl
only_mem (advisory {k = k} {r = r}) f = rw (only_advisory k r) refl

only_given : {x : Literal} {ts r : Row} → Given x ts r → spec.literal ts ≡ Ok (x, r)
unfolding spec.literal
only_given given = refl

only_start : {x : Start} {ts r : Row} → Starting x ts r → (k : ℕ) → length ts ≤ k → spec.start k ts ≡ Ok (x, r)
unfolding spec.start spec.name spec.take
only_start (starting h) k le =
    rw
    (only_listed spec.literal mark.CloseRound k given_shorter (λ x a b w f le2. only_given f)
    (λ x a b w f le2. only_given f) refl h k (omega arith) (omega arith)) refl

-- tokens that begin with a text of a pipe are read as that pipe, where there is room for more than they are
pub only_pipe : {p : Pipe} {ts r : Row} → Text p ts r → (n : ℕ) → length ts < n → pipe n ts ≡ Ok (p, r)
unfolding pipe spec.pipe_head spec.pipe_rest spec.take spec.name
only_pipe (text h i j s) n le =
    let sh = shorter_listed param_shorter h in let si = shorter_listed mem_shorter i in let sj = shorter_items j in
    rw
    (only_listed spec.param mark.CloseRound n param_shorter (λ x a b w f le2. only_param f)
    (λ x a b w f le2. only_param f) refl h n (omega arith) (omega arith))
    (rw
    (only_listed spec.mem mark.CloseSquare n mem_shorter (λ x a b w f le2. only_mem f refl)
    (λ x a b w f le2. only_mem f refl) refl i n (omega arith) (omega arith))
    (rw (only_items j n n (omega arith) (omega arith) refl)
    (rw (only_start s n (omega arith)) refl)))
