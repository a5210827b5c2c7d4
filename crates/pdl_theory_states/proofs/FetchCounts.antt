-- The delayed reads among statements: what they ask for, and how many they are.
use Rattle.std.proofs.Common.{◌≡◌, refl, sym, ap, ap₂, ◌∙◌, ℕ, ◌+◌, Bool, true, false, ◌&&◌, ◌||◌, List, [], ◌∷◌, ◌++◌, length, Some, ◌==◌, cond, arith, eq-eqb, count_by, append-nil, append_assoc, length-append}
use Rattle.std.proofs.lemmas.List.Recursion.{is_count_by}
use Rattle.pdl_semantics.specs.Flat.{Op, Bind, CombRead, DelayedRead, Write, ReserveRead, ReserveWrite, Block, Release, Call, SpecCall, Verify, SpecCheck, SpecBarrier, Stmt, all_hold, AdviceBind, AdviceRead, AdviceWrite}
use Rattle.pdl_semantics.specs.Forms.{on_delayed_read}
use Rattle.pdl_semantics.specs.Stages.{list_any, onpath}
use Rattle.pdl_semantics.specs.Machine.{Ask, Awaited, Kept, same_args}
use Rattle.pdl_semantics.specs.Cycle.{awaited_of}
use Rattle.pdl_semantics.specs.Sound.{is_fetch}
use Rattle.pdl_theory_turns.specs.Derived.{Work, Around, work_after, do_all, said}
use Rattle.pdl_theory_turns.proofs.Stages.{step}
use Rattle.pdl_theory_turns.proofs.Paths.{Fixed}
use Rattle.pdl_theory_states.proofs.Trails.{AllStmts, stmts_map}

-- the read that a statement asks for, none where it is no delayed read
abbrev pub fetch_of : Op → List Awaited
fetch_of op = on_delayed_read (λ x m a. record { mem = m; var = x } ∷ []) [] op

-- the awaited reads of the delayed reads among statements
abbrev pub fetches_of : List Stmt → List Awaited
fetches_of [] = []
fetches_of (y ∷ ys) = fetch_of y.op ++ fetches_of ys

awaited_snoc : (qs : List Ask) (q : Ask) → awaited_of (qs ++ q ∷ []) ≡ awaited_of qs ++ record { mem = q.mem; var = q.var } ∷ []
awaited_snoc [] q = refl
awaited_snoc (r ∷ qs) q = ap (λ l. record { mem = r.mem; var = r.var } ∷ l) (awaited_snoc qs q)

asks_op : (o : Around) (op : Op) (w : Work) → awaited_of (work_after o op w).asks ≡ awaited_of w.asks ++ fetch_of op
asks_op o (DelayedRead x m a) w = awaited_snoc w.asks _
asks_op o (Verify last args) w = at (same_args (said o last args w.env) w.guess)
  where
    at : (b : Bool)
        → awaited_of (cond b w (record w { child = Some (said o last args w.env); guess = said o last args w.env; fails = true })).asks
        ≡ awaited_of w.asks ++ []
    at true = sym (append-nil _)
    at false = sym (append-nil _)
asks_op o (Bind x e) w = sym (append-nil _)
asks_op o (CombRead x m a) w = sym (append-nil _)
asks_op o (Write m a e) w = sym (append-nil _)
asks_op o (ReserveRead m a) w = sym (append-nil _)
asks_op o (ReserveWrite m a) w = sym (append-nil _)
asks_op o (Block m a) w = sym (append-nil _)
asks_op o (Release m a) w = sym (append-nil _)
asks_op o (Call args) w = sym (append-nil _)
asks_op o (SpecCall args) w = sym (append-nil _)
asks_op o SpecCheck w = sym (append-nil _)
asks_op o (AdviceBind x' e') w = sym (append-nil _)
asks_op o (AdviceRead x' m' a') w = sym (append-nil _)
asks_op o (AdviceWrite m' a' e') w = sym (append-nil _)
asks_op o SpecBarrier w = sym (append-nil _)

-- the statements of a path ask for their delayed reads, after what was asked for before
pub asks_are : (path : List ℕ) (o : Around) (xs : List Stmt) (w : Work) → Fixed path o xs w
    → awaited_of (do_all o xs w).asks ≡ awaited_of w.asks ++ fetches_of (onpath path xs)
asks_are path o [] w f = sym (append-nil _)
asks_are path o (x ∷ xs) w f = asks_are path o xs (step o x w) f.1 ∙ at (all_hold x.guards w.env) (all_hold x.guards path) f.0
  where
    at : (b c : Bool) → b ≡ c
        → awaited_of (cond b (work_after o x.op w) w).asks ++ fetches_of (onpath path xs)
        ≡ awaited_of w.asks ++ fetches_of (cond c (record x { guards = [] } ∷ onpath path xs) (onpath path xs))
    at true true e = ap (λ l. l ++ fetches_of (onpath path xs)) (asks_op o x.op w) ∙ append_assoc (awaited_of w.asks) (fetch_of x.op) _
    at true false e = absurd (cc e)
    at false true e = absurd (cc e)
    at false false e = refl

fetch_one : (op : Op) → length (fetch_of op) ≡ cond (is_fetch op) 1 0
fetch_one (DelayedRead x m a) = refl
fetch_one (Bind x e) = refl
fetch_one (CombRead x m a) = refl
fetch_one (Write m a e) = refl
fetch_one (ReserveRead m a) = refl
fetch_one (ReserveWrite m a) = refl
fetch_one (Block m a) = refl
fetch_one (Release m a) = refl
fetch_one (Call args) = refl
fetch_one (SpecCall args) = refl
fetch_one (Verify last args) = refl
fetch_one SpecCheck = refl
fetch_one (AdviceBind x' e') = refl
fetch_one (AdviceRead x' m' a') = refl
fetch_one (AdviceWrite m' a' e') = refl
fetch_one SpecBarrier = refl

-- whether a read of m into x is awaited or kept
abbrev pub held_in : List Kept → List Awaited → ℕ → ℕ → Bool
held_in kept awaits x m = list_any (λ k. k.var == x) kept || list_any (λ r. (r.var == x) && (r.mem == m)) awaits

-- a statement, where it is a delayed read, is awaited or has its answer kept
abbrev pub HeldOp : List Kept → List Awaited → Op → Type 0
HeldOp kept awaits op = (x m a : ℕ) → op ≡ DelayedRead x m a → held_in kept awaits x m ≡ true

-- an element of the second list that passes a test is found in both lists joined
pub any_append : {X : Type 0} → (test : X → Bool) (xs ys : List X) → list_any test ys ≡ true → list_any test (xs ++ ys) ≡ true
any_append test [] ys h = h
any_append test (x ∷ xs) ys h = at (test x) (any_append test xs ys h)
  where
    at : (b : Bool) → list_any test (xs ++ ys) ≡ true → (b || list_any test (xs ++ ys)) ≡ true
    at true k = refl
    at false k = k

-- an element of the first list that passes a test is found in both lists joined
pub any_front : {X : Type 0} → (test : X → Bool) (xs ys : List X) → list_any test xs ≡ true → list_any test (xs ++ ys) ≡ true
any_front test [] ys h = absurd (cc h)
any_front test (x ∷ xs) ys h = at (test x) h (λ k. any_front test xs ys k)
  where
    at : (b : Bool) → (b || list_any test xs) ≡ true → (list_any test xs ≡ true → list_any test (xs ++ ys) ≡ true) → (b || list_any test (xs ++ ys)) ≡ true
    at true k f = refl
    at false k f = f k

-- each delayed read among statements is one of their awaited reads
pub fetches_in : (xs : List Stmt) → AllStmts (λ z. HeldOp [] (fetches_of xs) z.op) xs
fetches_in [] = tt
fetches_in (y ∷ ys) = (
  (λ x m a e. any_front (λ (r : Awaited). (r.var == x) && (r.mem == m)) (fetch_of y.op) (fetches_of ys)
      (ap (λ op. list_any (λ (r : Awaited). (r.var == x) && (r.mem == m)) (fetch_of op)) e
      ∙ ap₂ (λ a b. (a && b) || false) (eq-eqb x x refl) (eq-eqb m m refl))),
  stmts_map (λ z h x m a e. any_append (λ (r : Awaited). (r.var == x) && (r.mem == m)) (fetch_of y.op) (fetches_of ys) (h x m a e)) ys (fetches_in ys),
)

-- COUNTS

-- how many statements pass a test
abbrev pub count : (Stmt → Bool) → List Stmt → ℕ
count test [] = 0
count test (x ∷ xs) = cond (test x) (1 + count test xs) (count test xs)

-- the number of statements that pass a test is that of `count_by`
pub count_is : (test : Stmt → Bool) (xs : List Stmt) → count test xs ≡ count_by test xs
count_is test xs = is_count_by (count test) test refl (λ x xs. refl) xs

-- in two lists joined as many statements pass a test as in the first and in the second together
pub count_append : (test : Stmt → Bool) (xs ys : List Stmt) → count test (xs ++ ys) ≡ count test xs + count test ys
count_append test [] ys = omega arith
count_append test (x ∷ xs) ys = at (test x) (count_append test xs ys)
  where
    at : (b : Bool) → count test (xs ++ ys) ≡ count test xs + count test ys
        → cond b (1 + count test (xs ++ ys)) (count test (xs ++ ys)) ≡ cond b (1 + count test xs) (count test xs) + count test ys
    at true h = omega arith
    at false h = h

-- no statement passes a test that fails at each
pub count_none : (test : Stmt → Bool) (xs : List Stmt) → AllStmts (λ x. test x ≡ false) xs → count test xs ≡ 0
count_none test [] h = refl
count_none test (x ∷ xs) h = ap₂ (λ b n. cond b (1 + n) n) h.0 (count_none test xs h.1)

-- as many statements pass the one as the other of two tests that agree at each
pub count_same : (test test' : Stmt → Bool) (xs : List Stmt) → AllStmts (λ x. test x ≡ test' x) xs → count test xs ≡ count test' xs
count_same test test' [] h = refl
count_same test test' (x ∷ xs) h = ap₂ (λ b n. cond b (1 + n) n) h.0 (count_same test test' xs h.1)

-- statements have as many awaited reads as there are delayed reads among them
pub count_fetch : (xs : List Stmt) → length (fetches_of xs) ≡ count (λ (x : Stmt). is_fetch x.op) xs
count_fetch [] = refl
count_fetch (x ∷ xs) = length-append (fetch_of x.op) (fetches_of xs) ∙ ap₂ (λ a b. a + b) (fetch_one x.op) (count_fetch xs) ∙ at (is_fetch x.op)
  where
    at : (b : Bool)
        → cond b 1 0 + count (λ (x : Stmt). is_fetch x.op) xs ≡ cond b (1 + count (λ (x : Stmt). is_fetch x.op) xs) (count (λ (x : Stmt). is_fetch x.op) xs)
    at true = refl
    at false = omega arith
