-- What stands in the trunk: the stages of reserves, releases and verifies; and a branch's statements under the guards of the branches around it.
use Rattle.std.proofs.Common.{◌≡◌, refl, sym, ap, ◌∙◌, subst, ℕ, zero, suc, ◌+◌, ◌≤◌, ◌<◌, ◌⊎◌, inl, inr, Bool, true, false, not, List, [], ◌∷◌, ◌++◌, length, Option, Some, None, unwrap_or, arith, if◌then◌else◌, ◌==◌, nat_lt, slice_index, slice_index_or, ltb-true, ltb-false}
use Rattle.std.proofs.lemmas.Bool.{false≢true, and_parts, and_from, cases_lt}
use Rattle.std.proofs.lemmas.Option.{none-some}
use Rattle.pdl_kit.specs.declared.rule.Rule.TheVariants.{F1}
use Rattle.pdl_semantics.specs.Tree.{Mem, Pipe}
use Rattle.pdl_semantics.specs.Flat
use Rattle.pdl_semantics.specs.Flat.{all_hold, takes_branch}
use Rattle.pdl_semantics.specs.Flatten.{first_stage, first_stages, side, flat}
use Rattle.pdl_semantics.specs.Stages.{stage_at, in_stage, onpath, is_inside, is_reserve, is_release, is_verify, verify_stage}
use Rattle.pdl_semantics.specs.Cycle.{merges_by}
use Rattle.pdl_rules.specs.Forks.{is_trunk_only}
use Rattle.pdl_rules.specs.Refusal.{KeepsRules}
use Rattle.pdl_theory_turns.specs.Alone.{before, answered_op}
use Rattle.pdl_theory_turns.specs.Scans.{none_of}
use Rattle.pdl_theory_turns.specs.Graphs.{Home, Trunk, next_of, stage_or, goes_by, on_side, Graph, Branches}
use Rattle.pdl_theory_turns.specs.Facts.{trunk_only, visits_stage, comes_by}
use Rattle.pdl_theory_turns.proofs.Nested.{not_empty}
use Rattle.pdl_source_stages.proofs.Sites.{Site, place_of}
use Rattle.pdl_source_stages.proofs.Shapes.{merge_at}
use Rattle.pdl_source_stages.proofs.Spots.{start, many, group_home, Forked, Known}
use Rattle.pdl_source_stages.proofs.Ways.{Step, Ends, Steps, Enters, Skips, Out, step, start_low, start_high, between_in}
use Rattle.pdl_source_stages.proofs.Ways
use Rattle.pdl_source_stages.proofs.BodyShape.{body_forked, body_shape, body_groups, stage_count, knows}
use Rattle.pdl_source_stages.proofs.SiteStages.{AllGuarded, InFork, HasGuard, in_fork}
use Rattle.pdl_source_stages.proofs.SiteFacts.{Fine, each_fine, each_in_stage, none_each, op_of, op_trunk_only}
use Rattle.pdl_word.specs.Each.{Each}
use Rattle.pdl_word.proofs.Each.{each_weaker}

-- THE FIRST STATEMENT OF A KIND

first_good : (Good : ℕ → Type 0) (test : Flat.Op → Bool) (ys : List Flat.Stmt) (s : ℕ)
    → Each (λ y. test y.op ≡ true → Good y.stage) ys → first_stage test ys ≡ Some s → Good s
first_good Good test [] s h e = absurd (none-some s e)
first_good Good test (y ∷ ys) s h e = at (test y.op) refl e (first_good Good test ys s h.1)
  where
    at : (b : Bool) → test y.op ≡ b → (if b then Some y.stage else first_stage test ys) ≡ Some s → (first_stage test ys ≡ Some s → Good s) → Good s
    at true f g more = subst Good (ap (λ o. unwrap_or o 0) g) (h.0 f)
    at false f g more = more g

-- that of a memory by its number
pub first_index : (test : ℕ → Flat.Op → Bool) (ys : List Flat.Stmt) (k m : ℕ) (ms : List Mem)
    → m < length ms → slice_index_or (first_stages test ys k ms) m None ≡ first_stage (test (k + m)) ys
first_index test ys k m [] l = absurd (omega arith)
first_index test ys k zero (x ∷ ms) l = ap (λ n. first_stage (test n) ys) (let e : k ≡ k + 0 = omega arith in e)
first_index test ys k (suc m) (x ∷ ms) l =
    first_index test ys (suc k) m ms (omega arith) ∙ ap (λ n. first_stage (test n) ys) (let e : suc k + m ≡ k + suc m = omega arith in e)

-- no stage is listed for a memory past the last one
pub first_past : (test : ℕ → Flat.Op → Bool) (ys : List Flat.Stmt) (k m : ℕ) (ms : List Mem)
    → length ms ≤ m → slice_index_or (first_stages test ys k ms) m None ≡ None
first_past test ys k m [] l = refl
first_past test ys k zero (x ∷ ms) l = absurd (omega arith)
first_past test ys k (suc m) (x ∷ ms) l = first_past test ys (suc k) m ms (omega arith)

-- the verifies' stage is that of the first verify
pub verify_first : (ys : List Flat.Stmt) → verify_stage ys ≡ first_stage is_verify ys
verify_first [] = refl
verify_first (y ∷ ys) = ap (λ o. if is_verify y.op then Some y.stage else o) (verify_first ys)

-- kinds that only the trunk holds
reserve_trunk : (m : ℕ) (op : Flat.Op) → is_reserve m op ≡ true → trunk_only op ≡ true
reserve_trunk m (Flat.ReserveRead n a) h = refl
reserve_trunk m (Flat.ReserveWrite n a) h = refl
reserve_trunk m _ h = absurd (false≢true h)

release_trunk : (m : ℕ) (op : Flat.Op) → is_release m op ≡ true → trunk_only op ≡ true
release_trunk m (Flat.Release n a) h = refl
release_trunk m _ h = absurd (false≢true h)

verify_trunk : (op : Flat.Op) → is_verify op ≡ true → trunk_only op ≡ true
verify_trunk (Flat.Verify last args) h = refl
verify_trunk _ h = absurd (false≢true h)

-- GUARDS

has_taken : (g : Flat.Guard) (gs : List Flat.Guard) (path : List ℕ) → HasGuard g gs
    → all_hold gs path ≡ true → takes_branch g.first (slice_index path g.var) ≡ true
has_taken g gs path h t = at h.0 (ap (λ l. all_hold l path) (sym h.2) ∙ t)
  where
    at : (outer : List Flat.Guard) → all_hold (outer ++ g ∷ h.1) path ≡ true → takes_branch g.first (slice_index path g.var) ≡ true
    at [] k = (and_parts (takes_branch g.first (slice_index path g.var)) (all_hold h.1 path) k).0
    at (o ∷ os) k = at os (and_parts (takes_branch o.first (slice_index path o.var)) (all_hold (os ++ g ∷ h.1) path) k).1

-- of a path's statements before a stage, where none stands in between
before_same : (path : List ℕ) (a b : ℕ) (ys : List Flat.Stmt)
    → a ≤ b → Each (λ y. all_hold y.guards path ≡ true → a ≤ y.stage → y.stage < b → ⊥) ys
    → before b (onpath path ys) ≡ before a (onpath path ys)
before_same path a b [] l h = refl
before_same path a b (y ∷ ys) l h = at (all_hold y.guards path) refl (before_same path a b ys l h.1)
  where
    here : (c d : Bool) → nat_lt y.stage b ≡ c → nat_lt y.stage a ≡ d → all_hold y.guards path ≡ true → before b (onpath path ys) ≡ before a (onpath path ys)
        → (if c then record y { guards = []; op = answered_op y.op } ∷ before b (onpath path ys) else before b (onpath path ys))
        ≡ (if d then record y { guards = []; op = answered_op y.op } ∷ before a (onpath path ys) else before a (onpath path ys))
    here true true e f t k = ap (λ r. record y { guards = []; op = answered_op y.op } ∷ r) k
    here true false e f t k = absurd (h.0 t (ltb-false y.stage a f) (ltb-true y.stage b e))
    here false true e f t k = absurd (let i = ltb-true y.stage a f in let j = ltb-false y.stage b e in omega arith)
    here false false e f t k = k

    at : (t : Bool) → all_hold y.guards path ≡ t → before b (onpath path ys) ≡ before a (onpath path ys)
        → before b (if t then record y { guards = [] } ∷ onpath path ys else onpath path ys)
        ≡ before a (if t then record y { guards = [] } ∷ onpath path ys else onpath path ys)
    at true e k = here (nat_lt y.stage b) (nat_lt y.stage a) refl refl e k
    at false e k = k

-- a path on which guards are taken comes by all branches whose guards are among them
pub guarded_comes : (p : Flat.Pipe) (gs : List Flat.Guard) (path : List ℕ) (c : List Flat.Branch) → AllGuarded p gs c → all_hold gs path ≡ true
    → comes_by p path c ≡ true
guarded_comes p gs path [] h t = refl
guarded_comes p gs path (y ∷ c) h t =
    and_from (goes_by p y path) (comes_by p path c)
    (ap (λ n. on_side n y.first path) h.0.3.next
    ∙ turn y.first (slice_index path h.0.0) (has_taken (record { var = h.0.0; first = y.first }) gs path h.0.4 t))
    (guarded_comes p gs path c h.1 t)
  where
    turn : (first : Bool) (v : ℕ) → takes_branch first v ≡ true → (if first then v == 1 else not (v == 1)) ≡ true
    turn true v e = e
    turn false v e = e

-- a path that comes by some branches goes by each of them
comes_within : (p : Flat.Pipe) (path : List ℕ) (inner : List Flat.Branch) (y : Flat.Branch) (c : List Flat.Branch)
    → comes_by p path (inner ++ y ∷ c) ≡ true → goes_by p y path ≡ true
comes_within p path [] y c h = (and_parts (goes_by p y path) (comes_by p path c) h).0
comes_within p path (z ∷ zs) y c h = comes_within p path zs y c (and_parts (goes_by p z path) (comes_by p path (zs ++ y ∷ c)) h).1

-- THE FACTS

module _ (p : Pipe) (rules : KeepsRules p) where
  -- what is known of each stage
  pub known_at : (s : ℕ) → s < length (flat p).stages → Known (flat p) s
  known_at = knows p (body_forked p rules)

  -- F1: what only the trunk holds stands in the trunk
  only_trunk : (t : Site) → Fine p t → (op : Flat.Op) → op_of p.mems t.walk.vars t.stmt ≡ Some op → trunk_only op ≡ true → Trunk (flat p) t.walk.stage
  only_trunk t h op e o = at h.standing.inner
    where
      at : InFork (stage_at (flat p) t.walk.stage).branches t.branches → Trunk (flat p) t.walk.stage
      at (inl u) = u
      at (inr f) =
          let rule = rules F1 t.front (place_of t) h.later h.whole in
          absurd (false≢true (sym rule ∙ and_from (is_trunk_only t.stmt) (in_fork t.branches) (op_trunk_only p.mems t.walk.vars t.stmt op e o) f))

  -- each statement that no branch may hold stands in a trunk stage
  pub each_trunk : Each (λ y. trunk_only y.op ≡ true → Trunk (flat p) y.stage) (flat p).stmts
  each_trunk = each_fine p rules (λ y. trunk_only y.op ≡ true → Trunk (flat p) y.stage) (λ t h op e. only_trunk t h op e)

  -- a stage in a branch has no statement that no branch may hold
  pub trunk_holds : (x : Flat.Branch) (c : List Flat.Branch) (s : ℕ) → Home (flat p) (x ∷ c) s → none_of trunk_only (in_stage s (flat p).stmts) ≡ true
  trunk_holds x c s i =
      none_each trunk_only (in_stage s (flat p).stmts)
      (each_in_stage (λ y. trunk_only y.op ≡ false) s (flat p).stmts
      (each_weaker (λ y. trunk_only y.op ≡ true → Trunk (flat p) y.stage) (λ y. y.stage ≡ s → trunk_only y.op ≡ false) at (flat p).stmts each_trunk))
    where
      at : (y : Flat.Stmt) → (trunk_only y.op ≡ true → Trunk (flat p) y.stage) → y.stage ≡ s → trunk_only y.op ≡ false
      at y h e = by (trunk_only y.op) refl
        where
          by : (b : Bool) → trunk_only y.op ≡ b → b ≡ false
          by true f = not_empty x c (sym i ∙ subst (Trunk (flat p)) e (h f))
          by false f = refl

  -- the first statement of a kind that only the trunk holds
  first_trunk : (test : Flat.Op → Bool) → ((op : Flat.Op) → test op ≡ true → trunk_only op ≡ true) → (s : ℕ)
      → first_stage test (flat p).stmts ≡ Some s → Trunk (flat p) s
  first_trunk test f s e =
      first_good (Trunk (flat p)) test (flat p).stmts s
      (each_weaker (λ y. trunk_only y.op ≡ true → Trunk (flat p) y.stage)
      (λ y. test y.op ≡ true → Trunk (flat p) y.stage) (λ y h k. h (f y.op k)) (flat p).stmts each_trunk) e

  some_stage : 0 < length (flat p).stages
  some_stage = let e = stage_count p (body_forked p rules) in omega arith

  trunk_start : Trunk (flat p) 0
  trunk_start = group_home (flat p) [] Flat.Ends 0 None (body_shape p) (body_groups p (body_forked p rules))

  trunk_or : (test : ℕ → Flat.Op → Bool) → ((m : ℕ) (op : Flat.Op) → test m op ≡ true → trunk_only op ≡ true)
      → (d m : ℕ) → Trunk (flat p) d
      → Trunk (flat p) (unwrap_or (slice_index_or (first_stages test (flat p).stmts 0 p.mems) m None) d)
  trunk_or test f d m t = at (cases_lt m (length p.mems))
    where
      by : (o : Option ℕ) → first_stage (test (0 + m)) (flat p).stmts ≡ o → Trunk (flat p) (unwrap_or o d)
      by None e = t
      by (Some s) e = first_trunk (test (0 + m)) (f (0 + m)) s e

      at : (m < length p.mems) ⊎ (length p.mems ≤ m) → Trunk (flat p) (unwrap_or (slice_index_or (first_stages test (flat p).stmts 0 p.mems) m None) d)
      at (inl l) =
          subst (λ o. Trunk (flat p) (unwrap_or o d)) (sym (first_index test (flat p).stmts 0 m p.mems l)) (by (first_stage (test (0 + m)) (flat p).stmts) refl)
      at (inr l) = subst (λ o. Trunk (flat p) (unwrap_or o d)) (sym (first_past test (flat p).stmts 0 m p.mems l)) t

  -- the facts of the stage graph hold of a source that breaks no rule
  pub graph : Graph (flat p)
  graph =
      Ways.graph_of (flat p) known_at some_stage trunk_start (λ m. trunk_or is_reserve reserve_trunk 0 m trunk_start)
      (λ m. trunk_or is_release release_trunk (length (flat p).stages) m
      (Ways.trunk_past (flat p) known_at (length (flat p).stages) (let e : length (flat p).stages ≤ length (flat p).stages = omega arith in e)))

  -- the facts of the branches of forks hold of a source that breaks no rule
  pub branches : Branches (flat p)
  branches = Ways.branches_of (flat p) known_at

  -- V stands in the trunk
  pub verify_in_trunk : (v : ℕ) → verify_stage (flat p).stmts ≡ Some v → Trunk (flat p) v
  verify_in_trunk v e = first_trunk is_verify verify_trunk v (sym (verify_first (flat p).stmts) ∙ e)

  -- each flat statement stands in one of the pipe's stages
  pub each_inside : Each (λ y. y.stage < length (flat p).stages) (flat p).stmts
  each_inside = each_fine p rules (λ y. y.stage < length (flat p).stages) (λ t h op e. h.inside)

  -- V is one of the pipe's stages
  pub verify_low : (v : ℕ) → verify_stage (flat p).stmts ≡ Some v → v < length (flat p).stages
  verify_low v e =
      first_good (λ n. n < length (flat p).stages) is_verify (flat p).stmts v
      (each_weaker (λ y. y.stage < length (flat p).stages)
      (λ y. is_verify y.op ≡ true → y.stage < length (flat p).stages) (λ y h k. h) (flat p).stmts each_inside)
      (sym (verify_first (flat p).stmts) ∙ e)

  -- of a fork that merges in a trunk stage or before, all stages in its branches stand before that stage
  pub merged : (v f b : ℕ) → v < length (flat p).stages → Trunk (flat p) v → is_inside (flat p) f b ≡ true → merges_by (flat p) f (Some v) ≡ true → b < v
  merged v f b low t i m = Ways.merged (flat p) known_at v f b t low i m

  -- a fork with a stage in a branch that doesn't merge in a trunk stage or before stands no earlier than that stage
  pub unmerged : (v f b : ℕ) → v < length (flat p).stages → Trunk (flat p) v → is_inside (flat p) f b ≡ true → merges_by (flat p) f (Some v) ≡ false → v ≤ f
  unmerged v f b low t i m = Ways.unmerged (flat p) known_at v f b t low i m

  -- PATHS

  -- a statement of a path stands in a stage that the path comes to
  pub each_visited : (path : List ℕ) → Each (λ y. all_hold y.guards path ≡ true → visits_stage (flat p) path y.stage ≡ true) (flat p).stmts
  each_visited path =
      each_fine p rules (λ y. all_hold y.guards path ≡ true → visits_stage (flat p) path y.stage ≡ true)
      (λ t h op e k. guarded_comes (flat p) t.gs path (stage_at (flat p) t.walk.stage).branches h.standing.guarded k)

  side_of : (y : Flat.Branch) (path : List ℕ) (c : List Flat.Branch) (x a b : ℕ) → Forked (flat p) c y.fork x a b
      → goes_by (flat p) y path ≡ true → (slice_index path x == 1) ≡ y.first
  side_of y path c x a b k h = by y.first (slice_index path x == 1) (sym (ap (λ n. on_side n y.first path) k.next) ∙ h)
    where
      by : (first v : Bool) → (if first then v else not v) ≡ true → v ≡ first
      by true v e = e
      by false true e = absurd (false≢true e)
      by false false e = refl

  -- a path has no statement between a stage that it comes to and the next stage on it
  pub skips : (path : List ℕ) (s : ℕ) → s < length (flat p).stages → visits_stage (flat p) path s ≡ true
      → before (next_of (flat p) s path) (onpath path (flat p).stmts) ≡ before (suc s) (onpath path (flat p).stmts)
  skips path s low on = at (step (flat p) s path (known_at s low).spot)
    where
      near : next_of (flat p) s path ≡ suc s → before (next_of (flat p) s path) (onpath path (flat p).stmts) ≡ before (suc s) (onpath path (flat p).stmts)
      near e = ap (λ n. before n (onpath path (flat p).stmts)) e

      far : (n f : ℕ) (c : List Flat.Branch) (x a b : ℕ) (first : Bool) → Forked (flat p) c f x a b → next_of (flat p) s path ≡ n → f ≤ s → suc s ≤ n
          → n ≤ merge_at f a b → (slice_index path x == 1) ≡ first
          → ((r : ℕ) → start f a first < r → r ≤ start f a first + many a b first → suc s ≤ r → r < n → ⊥)
          → before (next_of (flat p) s path) (onpath path (flat p).stmts) ≡ before (suc s) (onpath path (flat p).stmts)
      far n f c x a b first k e l m u v none =
          ap (λ i. before i (onpath path (flat p).stmts)) e
          ∙ before_same path (suc s) n (flat p).stmts m
          (each_weaker (λ y. all_hold y.guards path ≡ true → visits_stage (flat p) path y.stage ≡ true)
          (λ y. all_hold y.guards path ≡ true → suc s ≤ y.stage → y.stage < n → ⊥) by (flat p).stmts (each_visited path))
        where
          by : (y : Flat.Stmt) → (all_hold y.guards path ≡ true → visits_stage (flat p) path y.stage ≡ true)
              → all_hold y.guards path ≡ true → suc s ≤ y.stage → y.stage < n → ⊥
          by y h t q r =
              let i = between_in (flat p) c f x a b y.stage k (omega arith) (omega arith) in
              let same : i.0 ≡ first =
              sym (side_of (side f i.0) path c x a b k (comes_within (flat p) path i.3.0 (side f i.0) c (ap (comes_by (flat p) path) (sym i.3.1) ∙ h t))) ∙ v
              in
              none y.stage (subst (λ o. start f a o < y.stage) same i.1) (subst (λ o. y.stage ≤ start f a o + many a b o) same i.2) q r

      at : Step (flat p) s path → before (next_of (flat p) s path) (onpath path (flat p).stmts) ≡ before (suc s) (onpath path (flat p).stmts)
      at (Ends t e g) = near (ap (stage_or (length (flat p).stages)) g ∙ sym e)
      at (Steps c t u m l g) = near (ap (stage_or (length (flat p).stages)) g)
      at (Enters c x a b first k l v g) =
          let h = start_high s a b first in
          let y = start_low s a first in
          far (suc (start s a first)) s c x a b first k (ap (stage_or (length (flat p).stages)) g) (omega arith)
          (omega arith) (omega arith) v (λ r i j q z. omega arith)
      at (Skips c x a b first k e v g) =
          far (merge_at s a b) s c x a b first k (ap (stage_or (length (flat p).stages)) g) (omega arith) (omega arith) (omega arith) v
          (λ r i j q z. omega arith)
      at (Out c f x a b first k h e g) =
          let y = start_low f a first in
          let z = start_high f a b first in
          far (merge_at f a b) f c x a b first k (ap (stage_or (length (flat p).stages)) g) (omega arith) (omega arith) (omega arith)
          (side_of (side f first) path c x a b k (comes_within (flat p) path [] (side f first) c (ap (comes_by (flat p) path) (sym h) ∙ on)))
          (λ r i j q w. omega arith)
