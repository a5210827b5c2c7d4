-- The `if` of each fork: where it stands, and under which guards.
use Rattle.std.proofs.Common.{◌≡◌, refl, sym, ap, ap₂, ◌∙◌, ℕ, suc, ◌+◌, ◌≤◌, ◌<◌, ◌⊎◌, inl, inr, Bool, true, false, ◌&&◌, ◌||◌, not, List, [], ◌∷◌, ◌++◌, length, Option, Some, None, unwrap_or, arith, if◌then◌else◌, ◌==◌, slice_index}
use Rattle.std.proofs.lemmas.Bool.{and_parts, and_from, cases_lt}
use Rattle.std.proofs.lemmas.Option.{none-some}
use Rattle.pdl_semantics.specs.Tree.{Span, Expr, Separator, If, Stmts, Nil, Cons, Mem, Pipe}
use Rattle.pdl_semantics.specs.Flat
use Rattle.pdl_semantics.specs.Flat.{all_hold, takes_branch}
use Rattle.pdl_semantics.specs.Flatten.{guard_of, with_guard, past, at_otherwise, under, side, separators}
use Rattle.pdl_semantics.specs.Flatten
use Rattle.pdl_semantics.specs.Stages.{stage_at}
use Rattle.pdl_theory_turns.specs.Graphs.{goes_by, on_side}
use Rattle.pdl_theory_turns.specs.Facts.{comes_by}
use Rattle.pdl_rules.specs.Places.{Place, Statement, Branch, with_inner, statements}
use Rattle.pdl_source_stages.proofs.Sites.{Site, branch, sites_in, sites, place_of, All}
use Rattle.pdl_source_stages.proofs.Walks.{guard_begun, past_begun, past_all_begun}
use Rattle.pdl_source_stages.proofs.Shapes.{is_whole, is_forked, is_late, begins_stage, size, long, merge_at, shape, side_shape, long_is}
use Rattle.pdl_source_stages.proofs.Spots.{Groups, Sides, group_fork, Forked}
use Rattle.pdl_source_stages.proofs.SiteStages.{none_of_whole, fitting, rest_shape, either_shape}
use Rattle.pdl_source_stages.proofs.SiteFacts.{Fine}

-- THE IFS OF FORKS

-- on each path that comes by these branches the guards are taken
abbrev pub Shown : Flat.Pipe → List Flat.Guard → List Flat.Branch → Type 0
Shown p gs d = (path : List ℕ) → comes_by p path d ≡ true → all_hold gs path ≡ true

-- the `if` that makes stage s a fork on x, under guards that are taken on each path that comes to the stage
pub record ForkSite (p : Flat.Pipe) (s x : ℕ) (t : Site) : Type 0 where
  pub span : Span
  pub condition : Expr
  pub when : Stmts
  pub otherwise : Stmts
  pub is : t.stmt ≡ If span condition when otherwise
  pub stage : t.walk.stage ≡ s
  pub begun : t.walk.begun ≡ s
  pub var : guard_of t.walk.vars condition ≡ x
  pub shown : Shown p t.gs (stage_at p s).branches

-- something that holds of some site
abbrev pub Some_site : (Site → Type 0) → List Site → Type 0
Some_site P [] = ⊥
Some_site P (t ∷ ts) = P t ⊎ Some_site P ts

some_left : (P : Site → Type 0) (xs ys : List Site) → Some_site P xs → Some_site P (xs ++ ys)
some_left P [] ys h = absurd h
some_left P (x ∷ xs) ys (inl h) = inl h
some_left P (x ∷ xs) ys (inr h) = inr (some_left P xs ys h)

some_right : (P : Site → Type 0) (xs ys : List Site) → Some_site P ys → Some_site P (xs ++ ys)
some_right P [] ys h = h
some_right P (x ∷ xs) ys h = inr (some_right P xs ys h)

-- where a property holds of some site and another of all, one site has both
pub pick : (P Q : Site → Type 0) (ts : List Site) → Some_site P ts → All Q ts → (t : Site) × P t × Q t
pick P Q [] h k = absurd h
pick P Q (t ∷ ts) (inl h) k = (t, h, k.0)
pick P Q (t ∷ ts) (inr h) k = pick P Q ts h k.1

-- the variable of a fork
abbrev pub fork_var : Flat.Next → Option ℕ
fork_var Flat.Ends = None
fork_var (Flat.Goes to) = None
fork_var (Flat.Forks x a b) = Some x

-- the guard of a branch is taken on each path that goes by the branch
shown_side : (p : Flat.Pipe) (gs : List Flat.Guard) (d : List Flat.Branch) (k x a b : ℕ) (first : Bool) → Forked p d k x a b → Shown p gs d
    → Shown p (gs ++ record { var = x; first = first } ∷ []) (side k first ∷ d)
shown_side p gs d k x a b first fork h path on =
    let parts = and_parts (goes_by p (side k first) path) (comes_by p path d) on in
    both gs (h path parts.1) (turn first (slice_index path x) (sym (ap (λ n. on_side n first path) fork.next) ∙ parts.0))
  where
    both : (gs : List Flat.Guard) → all_hold gs path ≡ true → takes_branch first (slice_index path x) ≡ true
        → all_hold (gs ++ record { var = x; first = first } ∷ []) path ≡ true
    both [] i j = and_from (takes_branch first (slice_index path x)) true j refl
    both (g ∷ gs) i j =
        let parts = and_parts (takes_branch g.first (slice_index path g.var)) (all_hold gs path) i in
        and_from (takes_branch g.first (slice_index path g.var)) (all_hold (gs ++ record { var = x; first = first } ∷ []) path) parts.0 (both gs parts.1 j)

    turn : (first : Bool) (v : ℕ) → (if first then v == 1 else not (v == 1)) ≡ true → takes_branch first v ≡ true
    turn true v e = e
    turn false v e = e

mutual
  -- a stage of statements that begin stage k, which forks on x, has such an `if`
  pub fork_sites : (p : Flat.Pipe) (ms : List Mem) (d : List Flat.Branch) (exit : Flat.Next) (k : ℕ) (merges : Option ℕ)
      (front : List Place) (w : Flatten.Position)
      (gs : List Flat.Guard) (bs : List Branch) (ss : Stmts)
      → w.stage ≡ w.begun → w.begun ≡ k → is_forked ss ≡ true → Groups p d exit k merges (shape ms ss w)
      → k + size (shape ms ss w) ≤ length p.stages → fork_var exit ≡ None → Shown p gs d → (s x : ℕ) → k ≤ s → s < k + size (shape ms ss w)
      → fork_var (stage_at p s).next ≡ Some x → Some_site (ForkSite p s x) (sites ms front w gs bs ss)
  fork_sites p ms d exit k merges front w gs bs Nil e i h g l z q s x low high f =
      none-some x (sym z ∙ ap (λ (y : Flat.Stage). fork_var y.next) (sym g) ∙ ap (λ n. fork_var (stage_at p n).next) (let y : k ≡ s = omega arith in y) ∙ f)
  fork_sites p ms d exit k merges front w gs bs (Cons (Separator sp) ss) e i h g l z q s x low high f =
      inr
      (at (cases_lt k s)
      (λ m. fork_sites p ms d exit (suc k) None (front ++ Statement (Separator sp) bs ∷ []) (past ms (Separator sp) w) gs bs ss
      refl (ap suc i) h g.1 (omega arith) z q s x m (omega arith) f))
    where
      at : (k < s) ⊎ (s ≤ k)
          → (suc k ≤ s → Some_site (ForkSite p s x) (sites ms (front ++ Statement (Separator sp) bs ∷ []) (past ms (Separator sp) w) gs bs ss))
          → Some_site (ForkSite p s x) (sites ms (front ++ Statement (Separator sp) bs ∷ []) (past ms (Separator sp) w) gs bs ss)
      at (inl m) more = more (omega arith)
      at (inr m) more =
          absurd
          (none-some x (ap (λ (y : Flat.Stage). fork_var y.next) (sym g.0) ∙ ap (λ n. fork_var (stage_at p n).next) (let y : k ≡ s = omega arith in y) ∙ f))
  fork_sites p ms d exit k merges front w gs bs (Cons (If sp c when otherwise) (Cons (Separator sq) ss)) e i h g l z q s x low high f =
      at (is_whole when otherwise) refl parts.0 g l high
      (λ fork late sides inside m n. fork_side p ms (side k true ∷ d)
      (Flat.Goes (merge_at k (long (side_shape ms when (with_guard c w))) (long (side_shape ms otherwise (at_otherwise ms c when w))))) k
      (front ++ Statement (If sp c when otherwise) bs ∷ []) (with_guard c w)
      (under gs w.vars c true) (bs ++ branch sp c true when ∷ []) when (guard_begun c w ∙ i) late sides inside refl
      (shown_side p gs d k (guard_of w.vars c) (long (side_shape ms when (with_guard c w)))
      (long (side_shape ms otherwise (at_otherwise ms c when w))) true fork q) s x m n f)
      (λ fork late sides inside begun m n. fork_side p ms (side k false ∷ d)
      (Flat.Goes (merge_at k (long (side_shape ms when (with_guard c w))) (long (side_shape ms otherwise (at_otherwise ms c when w)))))
      (k + long (side_shape ms when (with_guard c w)))
      (front ++ Statement (If sp c when otherwise) bs ∷ statements (bs ++ branch sp c true when ∷ []) when) (at_otherwise ms c when w)
      (under gs w.vars c false) (bs ++ branch sp c false otherwise ∷ []) otherwise begun late sides inside refl
      (shown_side p gs d k (guard_of w.vars c) (long (side_shape ms when (with_guard c w)))
      (long (side_shape ms otherwise (at_otherwise ms c when w))) false fork q) s x m n f)
      (λ j merge begun groups inside m n. fork_sites p ms d exit j merge ((front ++ with_inner bs (If sp c when otherwise)) ++ Statement (Separator sq) bs ∷ [])
      (past ms (Separator sq) (past ms (If sp c when otherwise) w)) gs bs ss refl begun parts.1 groups inside z q s x m n f)
    where
      parts : ((is_whole when otherwise || (true && (is_late when && is_late otherwise))) ≡ true) × (is_forked ss ≡ true)
      parts = and_parts (is_whole when otherwise || (true && (is_late when && is_late otherwise))) (is_forked ss) h

      begun : (past ms (If sp c when otherwise) w).begun ≡ w.begun + (separators when + separators otherwise)
      begun = past_begun ms (If sp c when otherwise) w

      after : Some_site (ForkSite p s x) (sites ms ((front ++ with_inner bs (If sp c when otherwise)) ++ Statement (Separator sq) bs ∷ [])
          (past ms (Separator sq) (past ms (If sp c when otherwise) w)) gs bs ss)
          → Some_site (ForkSite p s x) (sites ms front w gs bs (Cons (If sp c when otherwise) (Cons (Separator sq) ss)))
      after r = some_right (ForkSite p s x) (sites_in ms front w gs bs (If sp c when otherwise)) _ (inr r)

      at : (b : Bool) → is_whole when otherwise ≡ b → (b || (true && (is_late when && is_late otherwise))) ≡ true
          → Groups p d exit k merges (either_shape ms sp c when otherwise sq ss w b)
          → k + size (either_shape ms sp c when otherwise sq ss w b) ≤ length p.stages
          → s < k + size (either_shape ms sp c when otherwise sq ss w b)
          →
          (Forked p d k (guard_of w.vars c) (long (side_shape ms when (with_guard c w))) (long (side_shape ms otherwise (at_otherwise ms c when w)))
          → is_late when ≡ true
          → Sides p (side k true ∷ d) (Flat.Goes (merge_at k (long (side_shape ms when (with_guard c w)))
          (long (side_shape ms otherwise (at_otherwise ms c when w))))) k (side_shape ms when (with_guard c w))
          → suc (k + long (side_shape ms when (with_guard c w))) ≤ length p.stages → k < s → s ≤ k + long (side_shape ms when (with_guard c w)) → Some_site
          (ForkSite p s x)
          (sites ms (front ++ Statement (If sp c when otherwise) bs ∷ []) (with_guard c w) (under gs w.vars c true) (bs ++ branch sp c true when ∷ []) when))
          →
          (Forked p d k (guard_of w.vars c) (long (side_shape ms when (with_guard c w))) (long (side_shape ms otherwise (at_otherwise ms c when w)))
          → is_late otherwise ≡ true
          → Sides p (side k false ∷ d) (Flat.Goes (merge_at k (long (side_shape ms when (with_guard c w)))
          (long (side_shape ms otherwise (at_otherwise ms c when w))))) (k + long (side_shape ms when (with_guard c w)))
          (side_shape ms otherwise (at_otherwise ms c when w))
          → suc (k + long (side_shape ms when (with_guard c w)) + long (side_shape ms otherwise (at_otherwise ms c when w))) ≤ length p.stages
          → (at_otherwise ms c when w).begun ≡ k + long (side_shape ms when (with_guard c w))
          → k + long (side_shape ms when (with_guard c w)) < s
          → s ≤ k + long (side_shape ms when (with_guard c w)) + long (side_shape ms otherwise (at_otherwise ms c when w))
          → Some_site (ForkSite p s x) (sites ms (front ++ Statement (If sp c when otherwise) bs ∷ statements (bs ++ branch sp c true when ∷ []) when)
          (at_otherwise ms c when w) (under gs w.vars c false) (bs ++ branch sp c false otherwise ∷ []) otherwise))
          → ((j : ℕ) (merge : Option ℕ) → suc (past ms (If sp c when otherwise) w).begun ≡ j
          → Groups p d exit j merge (rest_shape ms sp c when otherwise sq ss w)
          → j + size (rest_shape ms sp c when otherwise sq ss w) ≤ length p.stages
          → j ≤ s → s < j + size (rest_shape ms sp c when otherwise sq ss w) → Some_site (ForkSite p s x)
          (sites ms ((front ++ with_inner bs (If sp c when otherwise)) ++ Statement (Separator sq) bs ∷ [])
          (past ms (Separator sq) (past ms (If sp c when otherwise) w)) gs bs ss))
          → Some_site (ForkSite p s x) (sites ms front w gs bs (Cons (If sp c when otherwise) (Cons (Separator sq) ss)))
      at true whole fits g l high one two more = turn (cases_lt k s)
        where
          turn : (k < s) ⊎ (s ≤ k) → Some_site (ForkSite p s x) (sites ms front w gs bs (Cons (If sp c when otherwise) (Cons (Separator sq) ss)))
          turn (inl m) =
              after
              (more (suc k) None (let none = none_of_whole when otherwise whole in let y = begun in omega arith) g.1 (omega arith) (omega arith) (omega arith))
          turn (inr m) =
              absurd
              (none-some x (ap (λ (y : Flat.Stage). fork_var y.next) (sym g.0) ∙ ap (λ n. fork_var (stage_at p n).next) (let y : k ≡ s = omega arith in y) ∙ f))
      at false some fits g l high one two more =
          turn (cases_lt k s) (cases_lt (k + long (side_shape ms when (with_guard c w))) s)
          (cases_lt s (merge_at k (long (side_shape ms when (with_guard c w))) (long (side_shape ms otherwise (at_otherwise ms c when w)))))
        where
          late : (is_late when ≡ true) × (is_late otherwise ≡ true)
          late = and_parts (is_late when) (is_late otherwise) fits

          fork : Forked p d k (guard_of w.vars c) (long (side_shape ms when (with_guard c w))) (long (side_shape ms otherwise (at_otherwise ms c when w)))
          fork =
              group_fork p d exit k merges (guard_of w.vars c) (side_shape ms when (with_guard c w)) (side_shape ms otherwise (at_otherwise ms c when w))
              (rest_shape ms sp c when otherwise sq ss w) g l

          second : (at_otherwise ms c when w).begun ≡ k + long (side_shape ms when (with_guard c w))
          second =
              let l1 = long_is ms when (with_guard c w) late.0 in
              let b1 = guard_begun c w in
              let b2 = past_all_begun ms when (with_guard c w) in
              omega arith

          merged : suc (past ms (If sp c when otherwise) w).begun ≡ (merge_at k (long (side_shape ms when (with_guard c w)))
              (long (side_shape ms otherwise (at_otherwise ms c when w))))
          merged =
              let l1 = long_is ms when (with_guard c w) late.0 in
              let l2 = long_is ms otherwise (at_otherwise ms c when w) late.1 in
              let b = begun in
              omega arith

          turn : (k < s) ⊎ (s ≤ k)
              → (k + long (side_shape ms when (with_guard c w)) < s) ⊎ (s ≤ k + long (side_shape ms when (with_guard c w)))
              → (s < (merge_at k (long (side_shape ms when (with_guard c w))) (long (side_shape ms otherwise (at_otherwise ms c when w)))))
              ⊎ ((merge_at k (long (side_shape ms when (with_guard c w))) (long (side_shape ms otherwise (at_otherwise ms c when w)))) ≤ s)
              → Some_site (ForkSite p s x) (sites ms front w gs bs (Cons (If sp c when otherwise) (Cons (Separator sq) ss)))
          turn (inl m) (inr n) o =
              some_left (ForkSite p s x) (sites_in ms front w gs bs (If sp c when otherwise)) _
              (inr (some_left (ForkSite p s x)
              (sites ms (front ++ Statement (If sp c when otherwise) bs ∷ []) (with_guard c w) (under gs w.vars c true)
              (bs ++ branch sp c true when ∷ []) when) _ (one fork late.0 g.2 (omega arith) m n)))
          turn (inl m) (inl n) (inl o) =
              some_left (ForkSite p s x) (sites_in ms front w gs bs (If sp c when otherwise)) _
              (inr (some_right (ForkSite p s x)
              (sites ms (front ++ Statement (If sp c when otherwise) bs ∷ []) (with_guard c w) (under gs w.vars c true)
              (bs ++ branch sp c true when ∷ []) when) _ (two fork late.1 g.3 (omega arith) second n (omega arith))))
          turn (inl m) (inl n) (inr o) =
              after
              (more (merge_at k (long (side_shape ms when (with_guard c w))) (long (side_shape ms otherwise (at_otherwise ms c when w)))) (Some k) merged g.4
              (omega arith) o (omega arith))
          turn (inr m) n o =
              let same : k ≡ s = omega arith in
              inl (record {
                span = sp;
                condition = c;
                when = when;
                otherwise = otherwise;
                is = refl;
                stage = e ∙ i ∙ same;
                begun = i ∙ same;
                var = ap (λ o. unwrap_or o 0) (ap (λ (y : Flat.Stage). fork_var y.next) (sym g.0) ∙ ap (λ n. fork_var (stage_at p n).next) same ∙ f);
                shown = λ path on. q path (ap (comes_by p path) (sym fork.home ∙ ap (λ n. (stage_at p n).branches) same) ∙ on);
              })
  fork_sites p ms d exit k merges front w gs bs (Cons (If sp c when otherwise) ss) e i h g l z q s x low high f =
      let parts = and_parts (is_whole when otherwise || (begins_stage ss && (is_late when && is_late otherwise))) (is_forked ss) h in
      let none = none_of_whole when otherwise (fitting when otherwise ss refl (is_whole when otherwise) parts.0) in
      let y = past_begun ms (If sp c when otherwise) w in
      some_right (ForkSite p s x) (sites_in ms front w gs bs (If sp c when otherwise)) _
      (fork_sites p ms d exit k merges (front ++ with_inner bs (If sp c when otherwise))
      (past ms (If sp c when otherwise) w) gs bs ss (omega arith) (omega arith) parts.1 g l z q s x low high f)
  fork_sites p ms d exit k merges front w gs bs (Cons t ss) e i h g l z q s x low high f =
      inr (fork_sites p ms d exit k merges (front ++ with_inner bs t) (past ms t w) gs bs ss e i h g l z q s x low high f)

  fork_side : (p : Flat.Pipe) (ms : List Mem) (d : List Flat.Branch) (exit : Flat.Next) (j : ℕ) (front : List Place) (w : Flatten.Position)
      (gs : List Flat.Guard) (bs : List Branch) (ss : Stmts)
      → w.begun ≡ j → is_late ss ≡ true → Sides p d exit j (side_shape ms ss w)
      → suc (j + long (side_shape ms ss w)) ≤ length p.stages → fork_var exit ≡ None → Shown p gs d → (s x : ℕ) → j < s → s ≤ j + long (side_shape ms ss w)
      → fork_var (stage_at p s).next ≡ Some x → Some_site (ForkSite p s x) (sites ms front w gs bs ss)
  fork_side p ms d exit j front w gs bs Nil i h g l z q s x low high f = absurd (omega arith)
  fork_side p ms d exit j front w gs bs (Cons (Separator sp) ss) i h g l z q s x low high f =
      inr
      (fork_sites p ms d exit (suc j) None (front ++ Statement (Separator sp) bs ∷ []) (past ms (Separator sp) w) gs bs ss refl (ap suc i) h g
      (omega arith) z q s x low (omega arith) f)
  fork_side p ms d exit j front w gs bs (Cons (If sp c when otherwise) ss) i h g l z q s x low high f =
      let parts = and_parts (is_whole when otherwise) (is_late ss) h in
      let none = none_of_whole when otherwise parts.0 in
      let y = past_begun ms (If sp c when otherwise) w in
      some_right (ForkSite p s x) (sites_in ms front w gs bs (If sp c when otherwise)) _
      (fork_side p ms d exit j (front ++ with_inner bs (If sp c when otherwise))
      (past ms (If sp c when otherwise) w) gs bs ss (omega arith) parts.1 g l z q s x low high f)
  fork_side p ms d exit j front w gs bs (Cons t ss) i h g l z q s x low high f =
      inr (fork_side p ms d exit j (front ++ with_inner bs t) (past ms t w) gs bs ss i h g l z q s x low high f)

-- ORDER IN THE TEXT

head_is : (x y : Place) (xs ys : List Place) → x ∷ xs ≡ y ∷ ys → x ≡ y
head_is x y xs ys e = ap (head x) e
  where
    head : Place → List Place → Place
    head d [] = d
    head d (z ∷ zs) = z

tail_is : (x y : Place) (xs ys : List Place) → x ∷ xs ≡ y ∷ ys → xs ≡ ys
tail_is x y xs ys e = ap tail e
  where
    tail : List Place → List Place
    tail [] = []
    tail (z ∷ zs) = zs

-- of two places the one that stands before the other
pub before_is : (xs ys later more : List Place) (x y : Place)
    → xs ++ x ∷ later ≡ ys ++ y ∷ more → length xs < length ys → (m : List Place) × (ys ≡ xs ++ x ∷ m)
before_is xs [] later more x y e l = absurd (omega arith)
before_is [] (z ∷ ys) later more x y e l = (ys, ap (λ u. u ∷ ys) (sym (head_is x z later (ys ++ y ∷ more) e)))
before_is (u ∷ xs) (z ∷ ys) later more x y e l =
    let r = before_is xs ys later more x y (tail_is u z (xs ++ x ∷ later) (ys ++ y ∷ more) e) (omega arith) in
    (r.0, ap₂ (λ a b. a ∷ b) (sym (head_is u z (xs ++ x ∷ later) (ys ++ y ∷ more) e)) r.1)

-- two places of one text with equally many before them are one, with the same places before it
pub same_is : (xs ys later more : List Place) (x y : Place) → xs ++ x ∷ later ≡ ys ++ y ∷ more → length xs ≡ length ys → (xs ≡ ys) × (x ≡ y)
same_is [] [] later more x y e l = (refl, head_is x y later more e)
same_is [] (z ∷ ys) later more x y e l = absurd (let k : 0 ≡ suc (length ys) = l in omega arith)
same_is (u ∷ xs) [] later more x y e l = absurd (let k : suc (length xs) ≡ 0 = l in omega arith)
same_is (u ∷ xs) (z ∷ ys) later more x y e l =
    let r = same_is xs ys later more x y (tail_is u z (xs ++ x ∷ later) (ys ++ y ∷ more) e) (let k : suc (length xs) ≡ suc (length ys) = l in omega arith) in
    (ap₂ (λ a b. a ∷ b) (head_is u z (xs ++ x ∷ later) (ys ++ y ∷ more) e) r.0, r.1)

-- how two sites of a source stand to one another
pub data Order (t u : Site) : Type 0 where
  Before : (m : List Place) → u.front ≡ t.front ++ place_of t ∷ m → Order t u
  Same : t.front ≡ u.front → place_of t ≡ place_of u → Order t u
  After : (m : List Place) → t.front ≡ u.front ++ place_of u ∷ m → Order t u

-- of two sites of a source one stands before the other, or both stand at one place
pub order : (p : Pipe) (t u : Site) → Fine p t → Fine p u → Order t u
order p t u h k = at (cases_lt (length t.front) (length u.front)) (cases_lt (length u.front) (length t.front))
  where
    whole : t.front ++ place_of t ∷ h.later ≡ u.front ++ place_of u ∷ k.later
    whole = sym h.whole ∙ k.whole

    at : (length t.front < length u.front) ⊎ (length u.front ≤ length t.front)
        → (length u.front < length t.front) ⊎ (length t.front ≤ length u.front) → Order t u
    at (inl l) m = let r = before_is t.front u.front h.later k.later (place_of t) (place_of u) whole l in Before r.0 r.1
    at (inr l) (inl m) = let r = before_is u.front t.front k.later h.later (place_of u) (place_of t) (sym whole) m in After r.0 r.1
    at (inr l) (inr m) = let r = same_is t.front u.front h.later k.later (place_of t) (place_of u) whole (omega arith) in Same r.0 r.1
