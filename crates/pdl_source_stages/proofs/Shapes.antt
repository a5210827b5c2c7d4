-- The stage graph of a body in which each fork is directly followed by a separator, and each branch has one before its first fork: a trunk, from which each fork leads through two branches to its merge; a branch is built as the trunk is.
use Rattle.std.proofs.Common.{◌≡◌, refl, sym, ap, ap₂, ◌∙◌, ℕ, suc, ◌+◌, Bool, true, false, ◌&&◌, ◌||◌, List, [], ◌∷◌, ◌++◌, Option, Some, None, arith, cond, if◌then◌else◌, ◌==◌, eqb-true}
use Rattle.std.proofs.lemmas.Bool.{false≢true, and_parts, and_from, or_left}
use Rattle.pdl_semantics.specs.Tree.{Separator, If, Stmts, Nil, Cons, Mem}
use Rattle.pdl_semantics.specs.Flat
use Rattle.pdl_semantics.specs.Flatten.{with_guard, past, at_otherwise, guard_of, separators_in, separators, graph, entry, graph_with_fork, side, graph_with_stage}
use Rattle.pdl_semantics.specs.Flatten
use Rattle.pdl_source_stages.proofs.Walks.{past_begun, past_all_begun, guard_begun}

-- BODIES

-- whether some statements begin no stage
abbrev pub is_whole : Stmts → Stmts → Bool
is_whole when otherwise = separators when + separators otherwise == 0

-- whether some statements begin with a separator
abbrev pub begins_stage : Stmts → Bool
begins_stage (Cons (Separator sp) ss) = true
begins_stage _ = false

-- a fork is directly followed by a separator, and a branch has one before its first fork: of statements that begin a stage, and of a branch
abbrev mutual
  -- of statements that begin a stage
  pub is_forked : Stmts → Bool
  is_forked Nil = true
  is_forked (Cons (If sp c when otherwise) ss) = (is_whole when otherwise || (begins_stage ss && (is_late when && is_late otherwise))) && is_forked ss
  is_forked (Cons s ss) = is_forked ss

  -- of a branch
  pub is_late : Stmts → Bool
  is_late Nil = true
  is_late (Cons (Separator sp) ss) = is_forked ss
  is_late (Cons (If sp c when otherwise) ss) = is_whole when otherwise && is_late ss
  is_late (Cons s ss) = is_late ss

-- a branch with a separator before its first fork is in form as statements that begin a stage are
pub late_forked : (ss : Stmts) → is_late ss ≡ true → is_forked ss ≡ true
late_forked Nil h = refl
late_forked (Cons (Separator sp) ss) h = h
late_forked (Cons (If sp c when otherwise) ss) h =
    let parts = and_parts (is_whole when otherwise) (is_late ss) h in
    and_from (is_whole when otherwise || (begins_stage ss && (is_late when && is_late otherwise))) (is_forked ss)
    (or_left (is_whole when otherwise) _ parts.0) (late_forked ss parts.1)
late_forked (Cons s ss) h = late_forked ss h

-- SHAPES

-- the stages of the trunk or of a branch, from one of them on: the last one, one that leads to the next, or a fork on x with its two branches; a branch has no stage or some
mutual
  -- the last stage, one that leads to the next, or a fork on x with two branches
  pub data Shape : Type 0 where
    Last : Shape
    Cut : (rest : Shape) → Shape
    Fork : (x : ℕ) (first second : Side) (rest : Shape) → Shape

  -- a branch without stages, or with some
  pub data Side : Type 0 where
    Straight : Side
    Runs : (stages : Shape) → Side

-- how many stages they are
abbrev mutual
  -- of a shape
  pub size : Shape → ℕ
  size Last = 1
  size (Cut rest) = suc (size rest)
  size (Fork x a b rest) = suc (long a + long b + size rest)

  -- of a branch
  pub long : Side → ℕ
  long Straight = 0
  long (Runs sh) = size sh

-- a stage that leads there, in these branches, and merges this fork or none
abbrev pub stage : Flat.Next → List Flat.Branch → Option ℕ → Flat.Stage
stage next branches merges = record { next = next; branches = branches; merges = merges }

-- the merge of a fork in stage f, of which the branches have a and b stages
abbrev pub merge_at : ℕ → ℕ → ℕ → ℕ
merge_at f a b = suc (f + a + b)

-- where a branch leads that begins after stage k, and where stage k of a shape leads
abbrev pub side_leads : Flat.Next → ℕ → Side → Flat.Next
side_leads exit k Straight = exit
side_leads exit k (Runs sh) = Flat.Goes (suc k)

-- where the first stage of a shape leads, which has the number k
abbrev pub leads_on : Flat.Next → ℕ → Shape → Flat.Next
leads_on exit k Last = exit
leads_on exit k (Cut rest) = Flat.Goes (suc k)
leads_on exit k (Fork x a b rest) =
    Flat.Forks x (entry (side_leads (Flat.Goes (merge_at k (long a) (long b))) k a))
    (entry (side_leads (Flat.Goes (merge_at k (long a) (long b))) (k + long a) b))

-- the stages after stage k, in these branches
abbrev mutual
  -- of a shape
  pub after : List Flat.Branch → Flat.Next → ℕ → Shape → List Flat.Stage
  after c exit k Last = []
  after c exit k (Cut rest) = stage (leads_on exit (suc k) rest) c None ∷ after c exit (suc k) rest
  after c exit k (Fork x a b rest) =
      side_after (side k true ∷ c) (Flat.Goes (merge_at k (long a) (long b))) k a
      ++ side_after (side k false ∷ c) (Flat.Goes (merge_at k (long a) (long b))) (k + long a) b
      ++ stage (leads_on exit (merge_at k (long a) (long b)) rest) c (Some k) ∷ after c exit (merge_at k (long a) (long b)) rest

  -- of a branch
  pub side_after : List Flat.Branch → Flat.Next → ℕ → Side → List Flat.Stage
  side_after c exit k Straight = []
  side_after c exit k (Runs sh) = stage (leads_on exit (suc k) sh) c None ∷ after c exit (suc k) sh

-- the shape of statements that begin a stage, and of a branch
abbrev mutual
  -- of statements that begin a stage
  pub shape : List Mem → Stmts → Flatten.Position → Shape
  shape ms Nil w = Last
  shape ms (Cons (Separator sp) ss) w = Cut (shape ms ss (past ms (Separator sp) w))
  shape ms (Cons (If sp c when otherwise) (Cons (Separator sq) ss)) w =
      cond (is_whole when otherwise) (Cut (shape ms ss (past ms (Separator sq) (past ms (If sp c when otherwise) w))))
      (Fork (guard_of w.vars c) (side_shape ms when (with_guard c w)) (side_shape ms otherwise (at_otherwise ms c when w))
      (shape ms ss (past ms (Separator sq) (past ms (If sp c when otherwise) w))))
  shape ms (Cons s ss) w = shape ms ss (past ms s w)

  -- of a branch
  pub side_shape : List Mem → Stmts → Flatten.Position → Side
  side_shape ms Nil w = Straight
  side_shape ms (Cons (Separator sp) ss) w = Runs (shape ms ss (past ms (Separator sp) w))
  side_shape ms (Cons s ss) w = side_shape ms ss (past ms s w)

-- THE GRAPH

-- the graph of a shape that begins in stage k
abbrev pub trunk : List Flat.Branch → Flat.Next → ℕ → Shape → Flatten.Graph
trunk c exit k sh = record { next = leads_on exit k sh; later = after c exit k sh }

-- the graph of a branch that begins after stage k
abbrev pub bunch : List Flat.Branch → Flat.Next → ℕ → Side → Flatten.Graph
bunch c exit k sd = record { next = side_leads exit k sd; later = side_after c exit k sd }

-- the sizes are told by the separators
mutual
  -- a shape has one stage more than separators
  pub size_is : (ms : List Mem) (ss : Stmts) (w : Flatten.Position) → is_forked ss ≡ true → size (shape ms ss w) ≡ suc (separators ss)
  size_is ms Nil w h = refl
  size_is ms (Cons (Separator sp) ss) w h = let k = size_is ms ss (past ms (Separator sp) w) h in omega arith
  size_is ms (Cons (If sp c when otherwise) (Cons (Separator sq) ss)) w h =
      let parts = and_parts (is_whole when otherwise || (true && (is_late when && is_late otherwise))) (is_forked ss) h in
      at (is_whole when otherwise) refl parts.0 (size_is ms ss (past ms (Separator sq) (past ms (If sp c when otherwise) w)) parts.1)
      (λ i. long_is ms when (with_guard c w) i) (λ i. long_is ms otherwise (at_otherwise ms c when w) i)
    where
      at : (b : Bool) → is_whole when otherwise ≡ b → (b || (true && (is_late when && is_late otherwise))) ≡ true
          → size (shape ms ss (past ms (Separator sq) (past ms (If sp c when otherwise) w))) ≡ suc (separators ss)
          → (is_late when ≡ true → long (side_shape ms when (with_guard c w)) ≡ separators when)
          → (is_late otherwise ≡ true → long (side_shape ms otherwise (at_otherwise ms c when w)) ≡ separators otherwise)
          → size (cond b (Cut (shape ms ss (past ms (Separator sq) (past ms (If sp c when otherwise) w))))
          (Fork (guard_of w.vars c) (side_shape ms when (with_guard c w)) (side_shape ms otherwise (at_otherwise ms c when w))
          (shape ms ss (past ms (Separator sq) (past ms (If sp c when otherwise) w)))))
          ≡ suc (separators_in (If sp c when otherwise) + separators (Cons (Separator sq) ss))
      at true none fits k f g = let z : separators when + separators otherwise ≡ 0 = eqb-true _ _ none in omega arith
      at false some fits k f g =
          let late = and_parts (is_late when) (is_late otherwise) fits in
          let i = f late.0 in
          let j = g late.1 in
          omega arith
  size_is ms (Cons (If sp c when otherwise) ss) w h =
      let parts = and_parts (is_whole when otherwise || (begins_stage ss && (is_late when && is_late otherwise))) (is_forked ss) h in
      let k = size_is ms ss (past ms (If sp c when otherwise) w) parts.1 in
      let none : separators when + separators otherwise ≡ 0 = eqb-true _ _ (fitting (is_whole when otherwise) parts.0) in
      omega arith
    where
      fitting : (b : Bool) → (b || (begins_stage ss && (is_late when && is_late otherwise))) ≡ true → b ≡ true
      fitting true e = refl
      fitting false e = absurd (false≢true (and_parts (begins_stage ss) (is_late when && is_late otherwise) e).0)
  size_is ms (Cons s ss) w h = let k = size_is ms ss (past ms s w) h in omega arith

  -- a branch has as many stages as separators
  pub long_is : (ms : List Mem) (ss : Stmts) (w : Flatten.Position) → is_late ss ≡ true → long (side_shape ms ss w) ≡ separators ss
  long_is ms Nil w h = refl
  long_is ms (Cons (Separator sp) ss) w h = let k = size_is ms ss (past ms (Separator sp) w) h in omega arith
  long_is ms (Cons (If sp c when otherwise) ss) w h =
      let parts = and_parts (is_whole when otherwise) (is_late ss) h in
      let k = long_is ms ss (past ms (If sp c when otherwise) w) parts.1 in
      let none : separators when + separators otherwise ≡ 0 = eqb-true _ _ parts.0 in
      omega arith
  long_is ms (Cons s ss) w h = let k = long_is ms ss (past ms s w) h in omega arith

-- a fork's graph by the numbers that stand in it
abbrev forked : List Flat.Branch → Flat.Next → ℕ → Side → Side → ℕ → ℕ → ℕ → ℕ → ℕ → Shape → Flatten.Graph
forked d exit x a b f m i j k r =
    graph_with_fork f x (bunch (side f true ∷ d) (Flat.Goes m) i a) (bunch (side f false ∷ d) (Flat.Goes m) j b)
    (record { next = Flat.Goes (suc k); later = stage (leads_on exit (suc k) r) d None ∷ after d exit (suc k) r })

forked_is : (d : List Flat.Branch) (exit : Flat.Next) (x : ℕ) (a b : Side) (f m i j k n : ℕ) (r : Shape)
    → f ≡ n → m ≡ merge_at n (long a) (long b) → i ≡ n → j ≡ n + long a → k ≡ n + long a + long b
    → forked d exit x a b f m i j k r ≡ trunk d exit n (Fork x a b r)
forked_is d exit x a b f m i j k n r e1 e2 e3 e4 e5 =
    ap (λ u. forked d exit x a b u m i j k r) e1 ∙ ap (λ u. forked d exit x a b n u i j k r) e2
    ∙ ap (λ u. forked d exit x a b n (merge_at n (long a) (long b)) u j k r) e3
    ∙ ap (λ u. forked d exit x a b n (merge_at n (long a) (long b)) n u k r) e4
    ∙ ap (λ u. forked d exit x a b n (merge_at n (long a) (long b)) n (n + long a) u r) e5

mutual
  -- the graph of statements that begin a stage is that of their shape
  pub graph_trunk : (ms : List Mem) (d : List Flat.Branch) (exit : Flat.Next) (ss : Stmts) (w : Flatten.Position)
      → w.stage ≡ w.begun → is_forked ss ≡ true → graph ms d exit ss w ≡ trunk d exit w.begun (shape ms ss w)
  graph_trunk ms d exit Nil w e h = refl
  graph_trunk ms d exit (Cons (Separator sp) ss) w e h = ap (graph_with_stage d w) (graph_trunk ms d exit ss (past ms (Separator sp) w) refl h)
  graph_trunk ms d exit (Cons (If sp c when otherwise) (Cons (Separator sq) ss)) w e h =
      let parts = and_parts (is_whole when otherwise || (true && (is_late when && is_late otherwise))) (is_forked ss) h in
      at (is_whole when otherwise) refl parts.0 (graph_trunk ms d exit ss (past ms (Separator sq) (past ms (If sp c when otherwise) w)) refl parts.1)
      (λ i. graph_side ms (side w.stage true ∷ d) (Flat.Goes (suc (w.begun + separators when + separators otherwise))) when (with_guard c w) i)
      (λ i. graph_side ms (side w.stage false ∷ d) (Flat.Goes (suc (w.begun + separators when + separators otherwise))) otherwise (at_otherwise ms c when w) i)
    where
      begun : (past ms (If sp c when otherwise) w).begun ≡ w.begun + (separators when + separators otherwise)
      begun = past_begun ms (If sp c when otherwise) w

      at : (b : Bool) → is_whole when otherwise ≡ b → (b || (true && (is_late when && is_late otherwise))) ≡ true
          → graph ms d exit ss (past ms (Separator sq) (past ms (If sp c when otherwise) w)) ≡ trunk d exit
          (suc (past ms (If sp c when otherwise) w).begun) (shape ms ss (past ms (Separator sq) (past ms (If sp c when otherwise) w)))
          → (is_late when ≡ true → graph ms (side w.stage true ∷ d) (Flat.Goes (suc (w.begun + separators when + separators otherwise))) when
          (with_guard c w) ≡ bunch (side w.stage true ∷ d) (Flat.Goes (suc (w.begun + separators when + separators otherwise)))
          (with_guard c w).begun (side_shape ms when (with_guard c w)))
          → (is_late otherwise ≡ true → graph ms (side w.stage false ∷ d)
          (Flat.Goes (suc (w.begun + separators when + separators otherwise))) otherwise (at_otherwise ms c when w) ≡ bunch
          (side w.stage false ∷ d) (Flat.Goes (suc (w.begun + separators when + separators otherwise)))
          (at_otherwise ms c when w).begun (side_shape ms otherwise (at_otherwise ms c when w)))
          → (if b then graph ms d exit (Cons (Separator sq) ss) (past ms (If sp c when otherwise) w) else graph_with_fork w.stage
          (guard_of w.vars c) (graph ms (side w.stage true ∷ d) (Flat.Goes (suc (w.begun + separators when + separators otherwise))) when
          (with_guard c w)) (graph ms (side w.stage false ∷ d) (Flat.Goes (suc (w.begun + separators when + separators otherwise))) otherwise
          (at_otherwise ms c when w)) (graph ms d exit (Cons (Separator sq) ss) (past ms (If sp c when otherwise) w)))
          ≡ trunk d exit w.begun
          (cond b (Cut (shape ms ss (past ms (Separator sq) (past ms (If sp c when otherwise) w))))
          (Fork (guard_of w.vars c) (side_shape ms when (with_guard c w)) (side_shape ms otherwise (at_otherwise ms c when w))
          (shape ms ss (past ms (Separator sq) (past ms (If sp c when otherwise) w)))))
      at true none fits ih f g =
          ap (graph_with_stage d (past ms (If sp c when otherwise) w)) ih
          ∙ ap (λ n. trunk d exit n (Cut (shape ms ss (past ms (Separator sq) (past ms (If sp c when otherwise) w)))))
          (let z : separators when + separators otherwise ≡ 0 = eqb-true _ _ none in let k = begun in let r : (past ms (If sp c when otherwise) w).begun
          ≡ w.begun = omega arith in r)
      at false some fits ih f g =
          let late = and_parts (is_late when) (is_late otherwise) fits in
          let g1 = guard_begun c w in
          let g2 = past_all_begun ms when (with_guard c w) in
          let g3 = begun in
          let l1 = long_is ms when (with_guard c w) late.0 in
          let l2 = long_is ms otherwise (at_otherwise ms c when w) late.1 in
          ap₂ (λ u v. graph_with_fork w.stage (guard_of w.vars c) u v (graph ms d exit (Cons (Separator sq) ss) (past ms (If sp c when otherwise) w)))
          (f late.0) (g late.1)
          ∙ ap
          (λ u. graph_with_fork w.stage (guard_of w.vars c)
          (bunch (side w.stage true ∷ d) (Flat.Goes (suc (w.begun + separators when + separators otherwise))) (with_guard c w).begun
          (side_shape ms when (with_guard c w))) (bunch (side w.stage false ∷ d) (Flat.Goes (suc (w.begun + separators when + separators otherwise)))
          (at_otherwise ms c when w).begun (side_shape ms otherwise (at_otherwise ms c when w))) (graph_with_stage d (past ms (If sp c when otherwise) w) u)) ih
          ∙ forked_is d exit (guard_of w.vars c) (side_shape ms when (with_guard c w)) (side_shape ms otherwise (at_otherwise ms c when w)) w.stage
          (suc (w.begun + separators when + separators otherwise)) (with_guard c w).begun (at_otherwise ms c when w).begun
          (past ms (If sp c when otherwise) w).begun w.begun (shape ms ss (past ms (Separator sq) (past ms (If sp c when otherwise) w))) e
          (let k : suc (w.begun + separators when + separators otherwise)
          ≡ suc (w.begun + long (side_shape ms when (with_guard c w)) + long (side_shape ms otherwise (at_otherwise ms c when w))) = omega arith in k) g1
          (let k : (at_otherwise ms c when w).begun ≡ w.begun + long (side_shape ms when (with_guard c w)) = omega arith in k)
          (let k : (past ms (If sp c when otherwise) w).begun
          ≡ w.begun + long (side_shape ms when (with_guard c w)) + long (side_shape ms otherwise (at_otherwise ms c when w)) = omega arith in k)
  graph_trunk ms d exit (Cons (If sp c when otherwise) ss) w e h =
      let parts = and_parts (is_whole when otherwise || (begins_stage ss && (is_late when && is_late otherwise))) (is_forked ss) h in
      let whole = fitting (is_whole when otherwise) parts.0 in
      let none : separators when + separators otherwise ≡ 0 = eqb-true _ _ whole in
      let f = past_begun ms (If sp c when otherwise) w in
      let same : (past ms (If sp c when otherwise) w).begun ≡ w.begun = omega arith in
      skipped (is_whole when otherwise) whole (graph ms d exit ss (past ms (If sp c when otherwise) w)) _
      ∙ graph_trunk ms d exit ss (past ms (If sp c when otherwise) w) (e ∙ sym same) parts.1
      ∙ ap (λ n. trunk d exit n (shape ms ss (past ms (If sp c when otherwise) w))) same
    where
      skipped : (b : Bool) → b ≡ true → (g k : Flatten.Graph) → (if b then g else k) ≡ g
      skipped true e g k = refl
      skipped false e g k = absurd (false≢true e)

      fitting : (b : Bool) → (b || (begins_stage ss && (is_late when && is_late otherwise))) ≡ true → b ≡ true
      fitting true e = refl
      fitting false e = absurd (false≢true (and_parts (begins_stage ss) (is_late when && is_late otherwise) e).0)
  graph_trunk ms d exit (Cons s ss) w e h = graph_trunk ms d exit ss (past ms s w) e h

  -- the graph of a branch is that of its shape
  pub graph_side : (ms : List Mem) (d : List Flat.Branch) (exit : Flat.Next) (ss : Stmts) (w : Flatten.Position)
      → is_late ss ≡ true → graph ms d exit ss w ≡ bunch d exit w.begun (side_shape ms ss w)
  graph_side ms d exit Nil w h = refl
  graph_side ms d exit (Cons (Separator sp) ss) w h = ap (graph_with_stage d w) (graph_trunk ms d exit ss (past ms (Separator sp) w) refl h)
  graph_side ms d exit (Cons (If sp c when otherwise) ss) w h =
      let parts = and_parts (is_whole when otherwise) (is_late ss) h in
      let none : separators when + separators otherwise ≡ 0 = eqb-true _ _ parts.0 in
      let f = past_begun ms (If sp c when otherwise) w in
      skipped (is_whole when otherwise) parts.0 (graph ms d exit ss (past ms (If sp c when otherwise) w)) _
      ∙ graph_side ms d exit ss (past ms (If sp c when otherwise) w) parts.1
      ∙ ap (λ n. bunch d exit n (side_shape ms ss (past ms (If sp c when otherwise) w)))
      (let e : (past ms (If sp c when otherwise) w).begun ≡ w.begun = omega arith in e)
    where
      skipped : (b : Bool) → b ≡ true → (g k : Flatten.Graph) → (if b then g else k) ≡ g
      skipped true e g k = refl
      skipped false e g k = absurd (false≢true e)
  graph_side ms d exit (Cons s ss) w h = graph_side ms d exit ss (past ms s w) h
