-- The graph of an `if`, as the walk comes to it: first the stages of the one branch, then those of the other.
use Rattle.std.proofs.Common.{◌≡◌, ℕ, zero, suc, ◌+◌, ◌≤◌, ◌<◌, ◌==◌, Bool, true, false, if◌then◌else◌, List, [], ◌∷◌, ◌++◌, length, refl, ap, ap₂, sym, ◌∙◌, arith, append_assoc, append-nil, length-append, eqb-true}
use Rattle.std.proofs.Common.{inl, inr}
use Rattle.std.proofs.lemmas.Bool.Decides.{eqb_tells}
use Rattle.pdl_semantics.specs.Tree.{Span, Expr, Variable, Stmt, Separator, If, Stmts, Nil, Cons, Mem}
use Rattle.pdl_semantics.specs.Flat.{Next, Forks, Goes, Stage, Branch}
use Rattle.pdl_semantics.specs.Flatten.{Position, Graph, with_merge, entry, graph_with_fork, graph_before, graph, past, separators, separators_in, with_guard, at_otherwise, guard_of, side}
use Rattle.pdl_form_lower.specs.Walking.{leading, with_merge_at, next_at, closed_stages, settled_stages}
use Rattle.pdl_form_lower.proofs.StageWays.{leading-append, leading-twice, leading-same, length-leading, next-leading, marked-after, merging-append}

-- AS MANY STAGES AS SEPARATORS

length-merging : (f : ℕ) (xs : List Stage) → length (with_merge f xs) ≡ length xs
length-merging f [] = refl
length-merging f (x ∷ xs) = refl

-- the later stages of an `if` with these branches
if_step : (t : Bool) (f x a b : ℕ) (first second rest : Graph) → (t ≡ true → a + b ≡ 0) → length first.later ≡ a → length second.later ≡ b
    → length (if t then rest else graph_with_fork f x first second rest).later ≡ a + b + length rest.later
if_step true f x a b first second rest z ha hb = omega (arith, z refl)
if_step false f x a b first second rest z ha hb =
    length-append (first.later ++ second.later) (with_merge f rest.later)
    ∙ ap₂ (λ u v. u + v) (length-append first.later second.later ∙ ap₂ (λ u v. u + v) ha hb) (length-merging f rest.later)

mutual
  later_in : (ms : List Mem) (b : List Branch) (s : Stmt) (at' : Position) (rest : Graph)
      → length (graph_before ms b s at' rest).later ≡ separators_in s + length rest.later
  later_in ms b (Separator _) at' rest = omega arith
  later_in ms b (If sp c when otherwise) at' rest =
      if_step (separators when + separators otherwise == 0) at'.stage (guard_of at'.vars c) (separators when) (separators otherwise)
      (graph ms (side at'.stage true ∷ b) (Goes (suc (at'.begun + separators when + separators otherwise))) when (with_guard c at'))
      (graph ms (side at'.stage false ∷ b) (Goes (suc (at'.begun + separators when + separators otherwise))) otherwise (at_otherwise ms c when at'))
      rest (eqb-true (separators when + separators otherwise) 0)
      (later_all ms (side at'.stage true ∷ b) (Goes (suc (at'.begun + separators when + separators otherwise))) when (with_guard c at'))
      (later_all ms (side at'.stage false ∷ b) (Goes (suc (at'.begun + separators when + separators otherwise))) otherwise (at_otherwise ms c when at'))
  later_in ms b s at' rest = omega arith

  -- as many stages begin in some statements as separators stand in them
  pub later_all : (ms : List Mem) (b : List Branch) (exit : Next) (ss : Stmts) (at' : Position) → length (graph ms b exit ss at').later ≡ separators ss
  later_all ms b exit Nil at' = refl
  later_all ms b exit (Cons s ss) at' =
      later_in ms b s at' (graph ms b exit ss (past ms s at')) ∙ ap (λ n. separators_in s + n) (later_all ms b exit ss (past ms s at'))

-- AFTER BOTH BRANCHES

none_later : (xs : List Stage) → length xs ≡ 0 → xs ≡ []
none_later [] h = refl
none_later (x ∷ xs) h = absurd (omega arith)

module _ (k begun more : ℕ) (s0 s1 s2 : List Stage) (first second : Graph)
    (whole : length s0 ≡ suc begun) (within : k ≤ begun)
    (one : s1 ≡ leading k first.next s0 ++ first.later) (two : s2 ≡ leading k second.next s1 ++ second.later)
    (count : length first.later + length second.later ≡ more) where
  -- the stages, whatever stage k then leads to
  led_after : (n : Next) → leading k n s2 ≡ (leading k n s0 ++ first.later) ++ second.later
  led_after n =
      let here : k < length s0 = omega arith in
      let a : k < length (leading k first.next s0) = omega (arith, length-leading k first.next s0) in
      let b : k < length (leading k second.next s0) = omega (arith, length-leading k second.next s0) in
      let c : k < length (leading k second.next s0 ++ first.later) = omega (arith, b, length-append (leading k second.next s0) first.later) in
      let second_on : leading k second.next s1 ≡ leading k second.next s0 ++ first.later =
      ap (leading k second.next) one ∙ leading-append k second.next (leading k first.next s0) first.later a
      ∙ ap (λ xs. xs ++ first.later) (leading-twice k first.next second.next s0) in
      ap (leading k n) (two ∙ ap (λ xs. xs ++ second.later) second_on)
      ∙ leading-append k n (leading k second.next s0 ++ first.later) second.later c
      ∙ ap (λ xs. xs ++ second.later)
      (leading-append k n (leading k second.next s0) first.later b ∙ ap (λ xs. xs ++ first.later) (leading-twice k second.next n s0))

  led_back : leading k (next_at k s0) s2 ≡ s0 ++ (first.later ++ second.later)
  led_back = led_after (next_at k s0) ∙ append_assoc (leading k (next_at k s0) s0) first.later second.later
      ∙ ap (λ xs. xs ++ (first.later ++ second.later)) (leading-same k s0)

  no_stages : more ≡ 0 → first.later ++ second.later ≡ []
  no_stages h = none_later (first.later ++ second.later) (omega (arith, length-append first.later second.later))

  some_stages : 0 < more → 0 < length (first.later ++ second.later)
  some_stages h = omega (arith, length-append first.later second.later)

  -- what the later statements then give
  pub choice_closed : (t u forked : Bool) (x : ℕ) (rest : Graph) → (t ≡ true → more ≡ 0) → (t ≡ false → 0 < more) → t ≡ u
      → closed_stages k (if t then forked else true) (settled_stages t forked k begun (next_at k s0) (Forks x (entry first.next) (entry second.next)) s2) rest
      ≡ closed_stages k forked s0 (if u then rest else graph_with_fork k x first second rest)
  choice_closed true true forked x rest z p e = ap (λ xs. closed_stages k forked xs rest) (led_back ∙ ap (λ xs. s0 ++ xs) (no_stages (z refl)) ∙ append-nil s0)
  choice_closed true false forked x rest z p e = cc
  choice_closed false true forked x rest z p e = cc
  choice_closed false false false x rest z p e =
      ap (λ xs. xs ++ with_merge k rest.later) (led_after (Forks x (entry first.next) (entry second.next))
      ∙ append_assoc (leading k (Forks x (entry first.next) (entry second.next)) s0) first.later second.later)
      ∙ append_assoc (leading k (Forks x (entry first.next) (entry second.next)) s0) (first.later ++ second.later) (with_merge k rest.later)
  choice_closed false false true x rest z p e =
      ap (λ xs. xs ++ with_merge k rest.later)
      (ap (with_merge_at (suc begun) k) led_back ∙ ap (λ n. with_merge_at n k (s0 ++ (first.later ++ second.later))) (sym whole)
      ∙ marked-after s0 (first.later ++ second.later) k)
      ∙ append_assoc s0 (with_merge k (first.later ++ second.later)) (with_merge k rest.later)
      ∙ ap (λ xs. s0 ++ xs) (sym (merging-append k (first.later ++ second.later) (with_merge k rest.later) (some_stages (p refl))))

-- AN `IF` OF THE TEXT

-- the same graph of a branch
graph_same : (ms : List Mem) (bs : List Branch) (first : Bool) (ss : Stmts) (k i m n : ℕ) (p q : Position) → k ≡ i → m ≡ n → p ≡ q
    → graph ms (side k first ∷ bs) (Goes m) ss p ≡ graph ms (side i first ∷ bs) (Goes n) ss q
graph_same ms bs first ss k i m n p q e f g =
    ap (λ j. graph ms (side j first ∷ bs) (Goes m) ss p) e
    ∙ ap (λ j. graph ms (side i first ∷ bs) (Goes j) ss p) f
    ∙ ap (λ w. graph ms (side i first ∷ bs) (Goes n) ss w) g

-- no stage has begun
none_begun : (n m more : ℕ) → n ≡ m + more → (n == m) ≡ (more == 0)
none_begun n m more e =
    elim (eqb_tells n m) [
      | inl a ↦ elim (eqb_tells more 0) [ inl b ↦ a.0 ∙ sym b.0 | inr b ↦ absurd (b.1 (omega (arith, a.1))) ]
      | inr a ↦ elim (eqb_tells more 0) [ inl b ↦ absurd (a.1 (omega (arith, b.1))) | inr b ↦ a.0 ∙ sym b.0 ]
    ]

some_begun : (more : ℕ) → (more == 0) ≡ false → 0 < more
some_begun zero h = cc
some_begun (suc n) h = omega arith

-- an `if` at a place, as the walk comes to it: in stage k, where it led so before, with the guard x and the entries of both branches, to which it comes at p and q
module _ (ms : List Mem) (b : List Branch) (sp : Span) (c : Expr) (when otherwise : Stmts) (at' : Position) (k begun merge x u v n : ℕ)
    (s0 s1 s2 : List Stage) (before : Next) (p q : Position)
    (ek : k ≡ at'.stage) (eb : begun ≡ at'.begun) (em : merge ≡ suc (at'.begun + (separators when + separators otherwise))) (ex : x ≡ guard_of at'.vars c)
    (en : before ≡ next_at at'.stage s0) (ep : p ≡ with_guard c at') (eq : q ≡ at_otherwise ms c when at') (whole : length s0 ≡ suc at'.begun)
    (within : at'.stage ≤ at'.begun)
    (e1 : s1 ≡ closed_stages k false s0 (graph ms (side k true ∷ b) (Goes merge) when p))
    (e2 : s2 ≡ closed_stages k false s1 (graph ms (side k false ∷ b) (Goes merge) otherwise q))
    (eu : u ≡ entry (graph ms (side k true ∷ b) (Goes merge) when p).next) (ev : v ≡ entry (graph ms (side k false ∷ b) (Goes merge) otherwise q).next)
    (count : n ≡ at'.begun + (separators when + separators otherwise)) where
  abbrev exit : ℕ
  exit = suc (at'.begun + separators when + separators otherwise)

  abbrev first : Graph
  first = graph ms (side at'.stage true ∷ b) (Goes exit) when (with_guard c at')

  abbrev second : Graph
  second = graph ms (side at'.stage false ∷ b) (Goes exit) otherwise (at_otherwise ms c when at')

  meets : merge ≡ exit
  meets = em ∙ ap suc (omega arith)

  is_first : graph ms (side k true ∷ b) (Goes merge) when p ≡ first
  is_first = graph_same ms b true when k at'.stage merge exit p (with_guard c at') ek meets ep

  is_second : graph ms (side k false ∷ b) (Goes merge) otherwise q ≡ second
  is_second = graph_same ms b false otherwise k at'.stage merge exit q (at_otherwise ms c when at') ek meets eq

  test : (n == begun) ≡ (separators when + separators otherwise == 0)
  test = ap (λ m. n == m) eb ∙ none_begun n at'.begun (separators when + separators otherwise) count

  -- the stages after both branches of an `if`, settled and closed with what follows, are those of its flattening before that
  pub if_closed : (forked : Bool) (rest : Graph)
      → closed_stages k (if n == begun then forked else true) (settled_stages (n == begun) forked k begun before (Forks x u v) s2) rest
      ≡ closed_stages at'.stage forked s0 (graph_before ms b (If sp c when otherwise) at' rest)
  if_closed forked rest =
      ap (λ i. closed_stages i (if n == begun then forked else true) (settled_stages (n == begun) forked i begun before (Forks x u v) s2) rest) ek
      ∙ ap (λ i. closed_stages at'.stage (if n == begun then forked else true) (settled_stages (n == begun) forked at'.stage i before (Forks x u v) s2) rest) eb
      ∙ ap
      (λ i. closed_stages at'.stage (if n == begun then forked else true)
      (settled_stages (n == begun) forked at'.stage at'.begun i (Forks x u v) s2) rest) en
      ∙ ap
      (λ i. closed_stages at'.stage (if n == begun then forked else true)
      (settled_stages (n == begun) forked at'.stage at'.begun (next_at at'.stage s0) i s2) rest)
      (ap (λ i. Forks i u v) ex ∙ ap (λ i. Forks (guard_of at'.vars c) i v) (eu ∙ ap (λ (g : Graph). entry g.next) is_first)
      ∙ ap (λ i. Forks (guard_of at'.vars c) (entry first.next) i) (ev ∙ ap (λ (g : Graph). entry g.next) is_second))
      ∙ choice_closed at'.stage at'.begun (separators when + separators otherwise) s0 s1 s2 first second whole within
      (e1 ∙ ap (λ i. closed_stages i false s0 (graph ms (side k true ∷ b) (Goes merge) when p)) ek ∙ ap (closed_stages at'.stage false s0) is_first)
      (e2 ∙ ap (λ i. closed_stages i false s1 (graph ms (side k false ∷ b) (Goes merge) otherwise q)) ek ∙ ap (closed_stages at'.stage false s1) is_second)
      (ap₂ (λ i j. i + j) (later_all ms (side at'.stage true ∷ b) (Goes exit) when (with_guard c at'))
      (later_all ms (side at'.stage false ∷ b) (Goes exit) otherwise (at_otherwise ms c when at')))
      (n == begun) (separators when + separators otherwise == 0) forked (guard_of at'.vars c) rest
      (λ t. eqb-true (separators when + separators otherwise) 0 (sym test ∙ t))
      (λ t. some_begun (separators when + separators otherwise) (sym test ∙ t))
      test

-- NO STAGE BEGINS

none_if : (f x : ℕ) (t : Bool) (a b c d rest : Graph) → t ≡ true → (if t then rest else graph_with_fork f x a b rest) ≡ (if t then rest else graph_with_fork f x c d rest)
none_if f x true a b c d rest h = refl
none_if f x false a b c d rest h = cc

mutual
  flat_in : (ms : List Mem) (b c : List Branch) (s : Stmt) (at' : Position) (rest : Graph) → separators_in s ≡ 0
      → graph_before ms b s at' rest ≡ graph_before ms c s at' rest
  flat_in ms b c (Separator _) at' rest h = absurd (omega (arith, h))
  flat_in ms b c (If sp e when otherwise) at' rest h =
      none_if at'.stage (guard_of at'.vars e) (separators when + separators otherwise == 0)
      (graph ms (side at'.stage true ∷ b) (Goes (suc (at'.begun + separators when + separators otherwise))) when (with_guard e at'))
      (graph ms (side at'.stage false ∷ b) (Goes (suc (at'.begun + separators when + separators otherwise))) otherwise (at_otherwise ms e when at'))
      (graph ms (side at'.stage true ∷ c) (Goes (suc (at'.begun + separators when + separators otherwise))) when (with_guard e at'))
      (graph ms (side at'.stage false ∷ c) (Goes (suc (at'.begun + separators when + separators otherwise))) otherwise (at_otherwise ms e when at'))
      rest (ap (λ n. n == 0) h)
  flat_in ms b c s at' rest h = refl

  -- where no stage begins the branches around don't matter
  flat_all : (ms : List Mem) (b c : List Branch) (exit : Next) (ss : Stmts) (at' : Position) → separators ss ≡ 0
      → graph ms b exit ss at' ≡ graph ms c exit ss at'
  flat_all ms b c exit Nil at' h = refl
  flat_all ms b c exit (Cons s ss) at' h =
      flat_in ms b c s at' (graph ms b exit ss (past ms s at')) (omega (arith, h))
      ∙ ap (graph_before ms c s at') (flat_all ms b c exit ss (past ms s at') (omega (arith, h)))

-- the graph of a branch, with the branches of the stages that begin in it, if any do
branch_graph : (ms : List Mem) (b bs : List Branch) (s : Branch) (n : Next) (ss : Stmts) (p : Position)
    → b ≡ (if separators ss == 0 then bs else s ∷ bs) → graph ms b n ss p ≡ graph ms (s ∷ bs) n ss p
branch_graph ms b bs s n ss p h = at (separators ss == 0) refl h
  where
    at : (t : Bool) → (separators ss == 0) ≡ t → b ≡ (if t then bs else s ∷ bs) → graph ms b n ss p ≡ graph ms (s ∷ bs) n ss p
    at true e f = flat_all ms b (s ∷ bs) n ss p (eqb-true (separators ss) 0 e)
    at false e f = ap (λ c. graph ms c n ss p) f

-- the stages after a branch
pub branch_seen : (ms : List Mem) (b bs : List Branch) (n : Next) (first : Bool) (k i merge : ℕ) (ss : Stmts)
    (p : Position) (s0 s1 : List Stage)
    → s1 ≡ closed_stages i false s0 (graph ms b n ss p) → b ≡ (if separators ss == 0 then bs else side k first ∷ bs) → n ≡ Goes merge → i ≡ k
    → s1 ≡ closed_stages k false s0 (graph ms (side k first ∷ bs) (Goes merge) ss p)
branch_seen ms b bs n first k i merge ss p s0 s1 h eb en ei =
    h
    ∙ ap (λ j. closed_stages j false s0 (graph ms b n ss p)) ei
    ∙ ap (λ m. closed_stages k false s0 (graph ms b m ss p)) en
    ∙ ap (closed_stages k false s0) (branch_graph ms b bs (side k first) (Goes merge) ss p eb)

-- the stage that a branch enters first, as its `if`'s stage shows it
pub entry_seen : (ms : List Mem) (bs : List Branch) (first : Bool) (k merge : ℕ) (ss : Stmts)
    (p : Position) (s0 s1 : List Stage)
    → s1 ≡ closed_stages k false s0 (graph ms (side k first ∷ bs) (Goes merge) ss p) → k < length s0
    → entry (next_at k s1) ≡ entry (graph ms (side k first ∷ bs) (Goes merge) ss p).next
entry_seen ms bs first k merge ss p s0 s1 h low =
    ap (λ ys. entry (next_at k ys)) h
    ∙ ap entry (next-leading k (graph ms (side k first ∷ bs) (Goes merge) ss p).next s0 (graph ms (side k first ∷ bs) (Goes merge) ss p).later low)

-- the guard of an `if` begins no stage
pub guard_begun : (c : Expr) (at' : Position) → (with_guard c at').begun ≡ at'.begun
guard_begun (Variable x) at' = refl
guard_begun c at' = refl
