-- Where the sites of a source stand in its stage graph: under the guards of all branches around their stage.
use Rattle.std.proofs.Common.{◌≡◌, refl, sym, ap, ◌∙◌, subst, ℕ, suc, ◌+◌, ◌≤◌, ◌<◌, ◌⊎◌, inl, inr, Bool, true, false, ◌&&◌, ◌||◌, not, List, [], ◌∷◌, ◌++◌, length, append_assoc, Option, Some, None, arith, cond, ◌==◌, eqb-true}
use Rattle.std.proofs.lemmas.Bool.{false≢true, and_parts, or_left, or_right}
use Rattle.std.proofs.lemmas.List.Folds.{list_any-append}
use Rattle.std.specs.List.{list_any}
use Rattle.pdl_semantics.specs.Tree.{Span, Expr, Stmt, Separator, If, Stmts, Nil, Cons, Mem, Pipe}
use Rattle.pdl_semantics.specs.Flat
use Rattle.pdl_semantics.specs.Flatten.{with_guard, past, at_otherwise, under, guard_of, side, separators_in, separators, at_start, flat}
use Rattle.pdl_semantics.specs.Flatten
use Rattle.pdl_semantics.specs.Stages.{stage_at}
use Rattle.pdl_theory_turns.specs.Graphs.{Home}
use Rattle.pdl_rules.specs.Places.{Place, Statement, Branch, with_inner, statements}
use Rattle.pdl_rules.specs.Forks.{holds_separator}
use Rattle.pdl_source_stages.proofs.Sites.{Site, branch, sites_in, sites, sites_of, front_of, All, all_append}
use Rattle.pdl_source_stages.proofs.Walks.{holds_in, guard_begun, guard_stage, past_begun, past_all_begun}
use Rattle.pdl_source_stages.proofs.Shapes.{is_whole, is_forked, is_late, begins_stage, Shape, Cut, Fork, size, long, shape, side_shape, merge_at, long_is}
use Rattle.pdl_source_stages.proofs.Spots.{Groups, Sides, group_home, group_fork, Forked}
use Rattle.pdl_source_stages.proofs.BodyShape.{body_groups, body_size}

-- STAGES OF SITES

-- what holds of the stage where some statements begin, and of those that begin in them, holds of each site's stage
mutual
  -- a property of the stage where a statement begins, and of those that begin in it, holds of the stage of each of its sites
  pub stages_in : (Good : ℕ → Type 0) (ms : List Mem) (front : List Place) (w : Flatten.Position) (gs : List Flat.Guard) (bs : List Branch) (s : Stmt)
      → Good w.stage → ((n : ℕ) → w.begun < n → n ≤ w.begun + separators_in s → Good n) → All (λ t. Good t.walk.stage) (sites_in ms front w gs bs s)
  stages_in Good ms front w gs bs (If sp c when otherwise) here more =
      let b = guard_begun c w in
      let g = past_all_begun ms when (with_guard c w) in (
        here,
        all_append (λ t. Good t.walk.stage)
            (sites ms (front ++ Statement (If sp c when otherwise) bs ∷ []) (with_guard c w) (under gs w.vars c true) (bs ++ branch sp c true when ∷ []) when) _
            (stages_all Good ms (front ++ Statement (If sp c when otherwise) bs ∷ []) (with_guard c w)
            (under gs w.vars c true)
            (bs ++ branch sp c true when ∷ []) when (subst Good (sym (guard_stage c w)) here)
            (λ n low high. more n (omega arith) (omega arith)))
            (stages_all Good ms (front ++ Statement (If sp c when otherwise) bs ∷ statements (bs ++ branch sp c true when ∷ []) when)
            (at_otherwise ms c when w) (under gs w.vars c false)
            (bs ++ branch sp c false otherwise ∷ []) otherwise here (λ n low high. more n (omega arith) (omega arith))),
      )
  stages_in Good ms front w gs bs s here more = (here, tt)

  -- a property of the stage where a list of statements begins, and of those that begin in it, holds of the stage of each site
  pub stages_all : (Good : ℕ → Type 0) (ms : List Mem) (front : List Place) (w : Flatten.Position) (gs : List Flat.Guard) (bs : List Branch) (ss : Stmts)
      → Good w.stage → ((n : ℕ) → w.begun < n → n ≤ w.begun + separators ss → Good n) → All (λ t. Good t.walk.stage) (sites ms front w gs bs ss)
  stages_all Good ms front w gs bs Nil here more = tt
  stages_all Good ms front w gs bs (Cons s ss) here more =
      let b = past_begun ms s w in
      all_append (λ t. Good t.walk.stage) (sites_in ms front w gs bs s) _
      (stages_in Good ms front w gs bs s here (λ n low high. more n low (omega arith)))
      (stages_all Good ms (front ++ with_inner bs s)
      (past ms s w) gs bs ss (stage_past Good ms w s here (λ n low high. more n low (omega arith)))
      (λ n low high. more n (omega arith) (omega arith)))

  stage_past : (Good : ℕ → Type 0) (ms : List Mem) (w : Flatten.Position) (s : Stmt) → Good w.stage
      → ((n : ℕ) → w.begun < n → n ≤ w.begun + separators_in s → Good n) → Good (past ms s w).stage
  stage_past Good ms w (Separator sp) here more = more (suc w.begun) (omega arith) (omega arith)
  stage_past Good ms w s here more = here

-- GUARDS OF SITES

-- the guard is among these
abbrev pub HasGuard : Flat.Guard → List Flat.Guard → Type 0
HasGuard g gs = (outer : List Flat.Guard) × (inner : List Flat.Guard) × (gs ≡ outer ++ g ∷ inner)

-- one of these branches holds a separator
abbrev pub in_fork : List Branch → Bool
in_fork bs = list_any (λ (b : Branch). holds_separator b.inside) bs

has_more : (g : Flat.Guard) (gs more : List Flat.Guard) → HasGuard g gs → HasGuard g (gs ++ more)
has_more g gs more h = (h.0, h.1 ++ more, ap (λ l. l ++ more) h.2 ∙ append_assoc h.0 (g ∷ h.1) more)

fork_more : (bs more : List Branch) → in_fork bs ≡ true → in_fork (bs ++ more) ≡ true
fork_more bs more h = list_any-append (λ (b : Branch). holds_separator b.inside) bs more ∙ or_left (in_fork bs) (in_fork more) h

fork_last : (bs : List Branch) (b : Branch) → holds_separator b.inside ≡ true → in_fork (bs ++ b ∷ []) ≡ true
fork_last bs b h =
    list_any-append (λ (b : Branch). holds_separator b.inside) bs (b ∷ [])
    ∙ or_right (in_fork bs) (in_fork (b ∷ [])) (or_left (holds_separator b.inside) false h)

-- what follows from two properties holds of each of these sites, where both do
pub all_both : (P Q R : Site → Type 0) → ((t : Site) → P t → Q t → R t) → (ts : List Site) → All P ts → All Q ts → All R ts
all_both P Q R f [] h k = tt
all_both P Q R f (t ∷ ts) h k = (f t h.0 k.0, all_both P Q R f ts h.1 k.1)

-- what follows from a property holds of each of these sites, where the property does
pub all_map : (P R : Site → Type 0) → ((t : Site) → P t → R t) → (ts : List Site) → All P ts → All R ts
all_map P R f [] h = tt
all_map P R f (t ∷ ts) h = (f t h.0, all_map P R f ts h.1)

-- STANDING

-- of each of these branches the guard, on the variable of its fork, is among the guards
abbrev pub AllGuarded : Flat.Pipe → List Flat.Guard → List Flat.Branch → Type 0
AllGuarded p gs [] = Unit {0}
AllGuarded p gs (y ∷ c) =
    ((x : ℕ) × (a : ℕ) × (b : ℕ) × Forked p c y.fork x a b × HasGuard (record { var = x; first = y.first }) gs) × AllGuarded p gs c

-- there are no such branches, or what stands in these branches of the text stands in one that holds a separator
abbrev pub InFork : List Flat.Branch → List Branch → Type 0
InFork c bs = (c ≡ []) ⊎ (in_fork bs ≡ true)

-- a site stands under the guards of all branches around its stage, and where there are any, in a branch that holds a separator
pub record Standing (p : Flat.Pipe) (t : Site) : Type 0 where
  pub guarded : AllGuarded p t.gs (stage_at p t.walk.stage).branches
  pub inner : InFork (stage_at p t.walk.stage).branches t.branches

guarded_more : (p : Flat.Pipe) (gs more : List Flat.Guard) (c : List Flat.Branch) → AllGuarded p gs c → AllGuarded p (gs ++ more) c
guarded_more p gs more [] h = tt
guarded_more p gs more (y ∷ c) h = ((h.0.0, h.0.1, h.0.2, h.0.3, has_more _ gs more h.0.4), guarded_more p gs more c h.1)

inner_more : (c : List Flat.Branch) (bs more : List Branch) → InFork c bs → InFork c (bs ++ more)
inner_more c bs more (inl e) = inl e
inner_more c bs more (inr e) = inr (fork_more bs more e)

-- a site of a stage in these branches
stands_here : (p : Flat.Pipe) (c : List Flat.Branch) (k : ℕ) (t : Site) → Home p c k → t.walk.stage ≡ k
    → AllGuarded p t.gs c → InFork c t.branches → Standing p t
stands_here p c k t h e g d =
    let same : c ≡ (stage_at p t.walk.stage).branches = sym (ap (λ n. (stage_at p n).branches) e ∙ h) in
    record { guarded = subst (AllGuarded p t.gs) same g; inner = subst (λ l. InFork l t.branches) same d }

-- the sites of a statement that begins no stage
whole_stands : (p : Flat.Pipe) (c : List Flat.Branch) (k : ℕ) (ms : List Mem) (front : List Place) (w : Flatten.Position) (gs : List Flat.Guard)
    (bs : List Branch) (s : Stmt)
    → Home p c k → w.stage ≡ k → separators_in s ≡ 0 → AllGuarded p gs c → InFork c bs → All (Standing p) (sites_in ms front w gs bs s)
whole_stands p c k ms front w gs bs s h e none g d =
    all_both (λ t. t.walk.stage ≡ k) (λ t. AllGuarded p t.gs c × InFork c t.branches) (Standing p)
    (λ t i j. stands_here p c k t h i j.0 j.1) (sites_in ms front w gs bs s)
    (stages_in (λ n. n ≡ k) ms front w gs bs s e (λ n low high. absurd (omega arith)))
    (holds_in ms (λ front w gs bs. AllGuarded p gs c × InFork c bs) (λ front w gs bs s i. i)
    (λ front w gs bs sp c' when otherwise i. (guarded_more p gs _ c i.0, inner_more c bs _ i.1))
    (λ front w gs bs sp c' when otherwise i. (guarded_more p gs _ c i.0, inner_more c bs _ i.1)) front w gs bs s (g, d))

-- a branch that begins a stage holds a separator
holds_some : (ss : Stmts) → 0 < separators ss → holds_separator ss ≡ true
holds_some ss l = at (separators ss == 0) refl
  where
    at : (b : Bool) → (separators ss == 0) ≡ b → not b ≡ true
    at true e = absurd (let f = eqb-true (separators ss) 0 e in omega arith)
    at false e = refl

-- no separator stands in the branches of an `if` that begins no stage
pub none_of_whole : (when otherwise : Stmts) → is_whole when otherwise ≡ true → separators when + separators otherwise ≡ 0
none_of_whole when otherwise e = eqb-true (separators when + separators otherwise) 0 e

-- an `if` that no separator follows begins no stage, where it is in form
pub fitting : (when otherwise ss : Stmts) → begins_stage ss ≡ false → (b : Bool)
    → (b || (begins_stage ss && (is_late when && is_late otherwise))) ≡ true → b ≡ true
fitting when otherwise ss e true f = refl
fitting when otherwise ss e false f = absurd (false≢true (sym e ∙ (and_parts (begins_stage ss) (is_late when && is_late otherwise) f).0))

-- the shape after an `if` and a separator
abbrev pub rest_shape : List Mem → Span → Expr → Stmts → Stmts → Span → Stmts → Flatten.Position → Shape
rest_shape ms sp c when otherwise sq ss w = shape ms ss (past ms (Separator sq) (past ms (If sp c when otherwise) w))

-- the shape from an `if` and the separator after it on: a fork, or a cut where the `if` begins no stage
abbrev pub either_shape : List Mem → Span → Expr → Stmts → Stmts → Span → Stmts → Flatten.Position → Bool → Shape
either_shape ms sp c when otherwise sq ss w b =
    cond b (Cut (rest_shape ms sp c when otherwise sq ss w))
    (Fork (guard_of w.vars c) (side_shape ms when (with_guard c w)) (side_shape ms otherwise (at_otherwise ms c when w))
    (rest_shape ms sp c when otherwise sq ss w))

mutual
  -- each site of statements that begin a stage stands under the guards of the branches around its stage, if the forks are in form
  stands : (p : Flat.Pipe) (ms : List Mem) (d : List Flat.Branch) (exit : Flat.Next) (k : ℕ) (merges : Option ℕ) (front : List Place) (w : Flatten.Position)
      (gs : List Flat.Guard) (bs : List Branch) (ss : Stmts)
      → w.stage ≡ w.begun → w.begun ≡ k → is_forked ss ≡ true → Groups p d exit k merges (shape ms ss w)
      → k + size (shape ms ss w) ≤ length p.stages → AllGuarded p gs d → InFork d bs → All (Standing p) (sites ms front w gs bs ss)
  stands p ms d exit k merges front w gs bs Nil e i h g l a f = tt
  stands p ms d exit k merges front w gs bs (Cons (Separator sp) ss) e i h g l a f = (
    stands_here p d k _ (group_home p d exit k merges (Cut (shape ms ss (past ms (Separator sp) w))) g) (e ∙ i) a f,
    stands p ms d exit (suc k) None (front ++ Statement (Separator sp) bs ∷ []) (past ms (Separator sp) w) gs bs ss refl (ap suc i) h g.1 (omega arith) a f,
  )
  stands p ms d exit k merges front w gs bs (Cons (If sp c when otherwise) (Cons (Separator sq) ss)) e i h g l a f =
      at (is_whole when otherwise) refl parts.0 g l
      (λ fork late sides inside. side_stands p ms d (side k true)
      (Flat.Goes (merge_at k (long (side_shape ms when (with_guard c w))) (long (side_shape ms otherwise (at_otherwise ms c when w))))) k k
      (front ++ Statement (If sp c when otherwise) bs ∷ []) (with_guard c w) (under gs w.vars c true)
      (bs ++ branch sp c true when ∷ []) when fork.home (guard_stage c w ∙ e ∙ i) (guard_begun c w ∙ i) late sides inside (
        (
          guard_of w.vars c,
          long (side_shape ms when (with_guard c w)),
          long (side_shape ms otherwise (at_otherwise ms c when w)),
          fork,
          (gs, [], refl),
        ),
        guarded_more p gs _ d a,
      )
      (inner_more d bs _ f) (λ some. fork_last bs (branch sp c true when) (holds_some when some)))
      (λ fork late sides inside begun. side_stands p ms d (side k false)
      (Flat.Goes (merge_at k (long (side_shape ms when (with_guard c w))) (long (side_shape ms otherwise (at_otherwise ms c when w))))) k
      (k + long (side_shape ms when (with_guard c w)))
      (front ++ Statement (If sp c when otherwise) bs ∷ statements (bs ++ branch sp c true when ∷ []) when)
      (at_otherwise ms c when w) (under gs w.vars c false)
      (bs ++ branch sp c false otherwise ∷ []) otherwise fork.home (e ∙ i) begun late sides inside (
        (
          guard_of w.vars c,
          long (side_shape ms when (with_guard c w)),
          long (side_shape ms otherwise (at_otherwise ms c when w)),
          fork,
          (gs, [], refl),
        ),
        guarded_more p gs _ d a,
      )
      (inner_more d bs _ f) (λ some. fork_last bs (branch sp c false otherwise) (holds_some otherwise some)))
      (λ j merge begun groups inside. stands p ms d exit j merge ((front ++ with_inner bs (If sp c when otherwise)) ++ Statement (Separator sq) bs ∷ [])
      (past ms (Separator sq) (past ms (If sp c when otherwise) w)) gs bs ss refl begun parts.1 groups inside a f)
    where
      parts : ((is_whole when otherwise || (true && (is_late when && is_late otherwise))) ≡ true) × (is_forked ss ≡ true)
      parts = and_parts (is_whole when otherwise || (true && (is_late when && is_late otherwise))) (is_forked ss) h

      begun : (past ms (If sp c when otherwise) w).begun ≡ w.begun + (separators when + separators otherwise)
      begun = past_begun ms (If sp c when otherwise) w

      at : (b : Bool) → is_whole when otherwise ≡ b → (b || (true && (is_late when && is_late otherwise))) ≡ true
          → Groups p d exit k merges (either_shape ms sp c when otherwise sq ss w b)
          → k + size (either_shape ms sp c when otherwise sq ss w b) ≤ length p.stages
          →
          (Forked p d k (guard_of w.vars c) (long (side_shape ms when (with_guard c w))) (long (side_shape ms otherwise (at_otherwise ms c when w)))
          → is_late when ≡ true
          → Sides p (side k true ∷ d) (Flat.Goes (merge_at k (long (side_shape ms when (with_guard c w)))
          (long (side_shape ms otherwise (at_otherwise ms c when w))))) k (side_shape ms when (with_guard c w))
          → suc (k + long (side_shape ms when (with_guard c w))) ≤ length p.stages → All (Standing p)
          (sites ms (front ++ Statement (If sp c when otherwise) bs ∷ []) (with_guard c w) (under gs w.vars c true) (bs ++ branch sp c true when ∷ []) when))
          →
          (Forked p d k (guard_of w.vars c) (long (side_shape ms when (with_guard c w))) (long (side_shape ms otherwise (at_otherwise ms c when w)))
          → is_late otherwise ≡ true
          → Sides p (side k false ∷ d) (Flat.Goes (merge_at k (long (side_shape ms when (with_guard c w)))
          (long (side_shape ms otherwise (at_otherwise ms c when w))))) (k + long (side_shape ms when (with_guard c w)))
          (side_shape ms otherwise (at_otherwise ms c when w))
          → suc (k + long (side_shape ms when (with_guard c w)) + long (side_shape ms otherwise (at_otherwise ms c when w))) ≤ length p.stages
          → (at_otherwise ms c when w).begun
          ≡ k + long (side_shape ms when (with_guard c w)) → All (Standing p)
          (sites ms (front ++ Statement (If sp c when otherwise) bs ∷ statements (bs ++ branch sp c true when ∷ []) when)
          (at_otherwise ms c when w) (under gs w.vars c false) (bs ++ branch sp c false otherwise ∷ []) otherwise))
          → ((j : ℕ) (merge : Option ℕ) → suc (past ms (If sp c when otherwise) w).begun ≡ j
          → Groups p d exit j merge (rest_shape ms sp c when otherwise sq ss w)
          → j + size (rest_shape ms sp c when otherwise sq ss w) ≤ length p.stages → All (Standing p)
          (sites ms ((front ++ with_inner bs (If sp c when otherwise)) ++ Statement (Separator sq) bs ∷ [])
          (past ms (Separator sq) (past ms (If sp c when otherwise) w)) gs bs ss))
          → All (Standing p) (sites ms front w gs bs (Cons (If sp c when otherwise) (Cons (Separator sq) ss)))
      at true whole fits g l one two more =
          let none = none_of_whole when otherwise whole in
          let b = begun in
          let home = group_home p d exit k merges (Cut (rest_shape ms sp c when otherwise sq ss w)) g in
          all_append (Standing p) (sites_in ms front w gs bs (If sp c when otherwise)) _
          (whole_stands p d k ms front w gs bs (If sp c when otherwise) home (e ∙ i) none a f)
          (stands_here p d k _ home (e ∙ i) a f, more (suc k) None (omega arith) g.1 (omega arith))
      at false some fits g l one two more =
          let b = begun in
          let late = and_parts (is_late when) (is_late otherwise) fits in
          let l1 = long_is ms when (with_guard c w) late.0 in
          let l2 = long_is ms otherwise (at_otherwise ms c when w) late.1 in
          let b1 = guard_begun c w in
          let b2 = past_all_begun ms when (with_guard c w) in
          let fork = group_fork p d exit k merges (guard_of w.vars c) (side_shape ms when (with_guard c w)) (side_shape ms otherwise (at_otherwise ms c when w))
          (rest_shape ms sp c when otherwise sq ss w) g l in
          all_append (Standing p) (sites_in ms front w gs bs (If sp c when otherwise)) _ (
            stands_here p d k _ fork.home (e ∙ i) a f,
            all_append (Standing p)
                (sites ms (front ++ Statement (If sp c when otherwise) bs ∷ []) (with_guard c w) (under gs w.vars c true)
                (bs ++ branch sp c true when ∷ []) when) _
                (one fork late.0 g.2 (omega arith)) (two fork late.1 g.3 (omega arith) (omega arith)),
          ) (
            stands_here p d k _ fork.home (e ∙ i) a f,
            more
                (merge_at k (long (side_shape ms when (with_guard c w))) (long (side_shape ms otherwise (at_otherwise ms c when w)))) (Some k) (omega arith) g.4
                (omega arith),
          )
  stands p ms d exit k merges front w gs bs (Cons (If sp c when otherwise) ss) e i h g l a f =
      let parts = and_parts (is_whole when otherwise || (begins_stage ss && (is_late when && is_late otherwise))) (is_forked ss) h in
      let none = none_of_whole when otherwise (fitting when otherwise ss refl (is_whole when otherwise) parts.0) in
      let b = past_begun ms (If sp c when otherwise) w in
      all_append (Standing p) (sites_in ms front w gs bs (If sp c when otherwise)) _
      (whole_stands p d k ms front w gs bs (If sp c when otherwise)
      (group_home p d exit k merges (shape ms ss (past ms (If sp c when otherwise) w)) g) (e ∙ i) none a f)
      (stands p ms d exit k merges (front ++ with_inner bs (If sp c when otherwise)) (past ms (If sp c when otherwise) w) gs bs ss
      (omega arith) (omega arith) parts.1 g l a f)
  stands p ms d exit k merges front w gs bs (Cons s ss) e i h g l a f = (
    stands_here p d k _ (group_home p d exit k merges (shape ms ss (past ms s w)) g) (e ∙ i) a f,
    stands p ms d exit k merges (front ++ with_inner bs s) (past ms s w) gs bs ss e i h g l a f,
  )

  -- each site of a branch stands in the stage k of its fork, or under the guards of the branches around its stage, this one among them
  side_stands : (p : Flat.Pipe) (ms : List Mem) (d : List Flat.Branch) (y : Flat.Branch) (exit : Flat.Next) (k j : ℕ)
      (front : List Place) (w : Flatten.Position)
      (gs : List Flat.Guard) (bs : List Branch) (ss : Stmts)
      → Home p d k → w.stage ≡ k → w.begun ≡ j → is_late ss ≡ true → Sides p (y ∷ d) exit j (side_shape ms ss w)
      → suc (j + long (side_shape ms ss w)) ≤ length p.stages → AllGuarded p gs (y ∷ d) → InFork d bs → (0 < separators ss → in_fork bs ≡ true)
      → All (Standing p) (sites ms front w gs bs ss)
  side_stands p ms d y exit k j front w gs bs Nil t e i h g l a f n = tt
  side_stands p ms d y exit k j front w gs bs (Cons (Separator sp) ss) t e i h g l a f n = (
    stands_here p d k _ t e a.1 f,
    stands p ms (y ∷ d) exit (suc j) None (front ++ Statement (Separator sp) bs ∷ []) (past ms (Separator sp) w) gs bs ss refl (ap suc i) h g (omega arith) a
        (inr (n (omega arith))),
  )
  side_stands p ms d y exit k j front w gs bs (Cons (If sp c when otherwise) ss) t e i h g l a f n =
      let parts = and_parts (is_whole when otherwise) (is_late ss) h in
      let none = none_of_whole when otherwise parts.0 in
      let b = past_begun ms (If sp c when otherwise) w in
      all_append (Standing p) (sites_in ms front w gs bs (If sp c when otherwise)) _
      (whole_stands p d k ms front w gs bs (If sp c when otherwise) t e none a.1 f)
      (side_stands p ms d y exit k j (front ++ with_inner bs (If sp c when otherwise)) (past ms (If sp c when otherwise) w) gs bs ss
      t e (omega arith) parts.1 g l a f (λ some. n (omega arith)))
  side_stands p ms d y exit k j front w gs bs (Cons s ss) t e i h g l a f n = (
    stands_here p d k _ t e a.1 f,
    side_stands p ms d y exit k j (front ++ with_inner bs s) (past ms s w) gs bs ss t e i h g l a f (λ some. n (omega arith)),
  )

-- each site of a source stands under the guards of all branches around its stage
pub all_standing : (p : Pipe) → is_forked p.body ≡ true → All (Standing (flat p)) (sites_of p)
all_standing p h =
    let e = body_size p h in
    stands (flat p) p.mems [] Flat.Ends 0 None (front_of p) (at_start p) [] [] p.body refl refl h (body_groups p h) (omega arith) tt (inl refl)
