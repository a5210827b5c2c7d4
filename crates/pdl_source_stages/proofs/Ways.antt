-- Where a thread goes from a stage, and the facts of the stage graph and of its branches that follow, in the trunk as in each branch.
use Rattle.std.proofs.Common.{◌≡◌, refl, sym, ap, ◌∙◌, subst, ℕ, zero, suc, ◌+◌, ◌≤◌, ◌<◌, ◌⊎◌, inl, inr, Bool, true, false, not, List, [], ◌∷◌, ◌++◌, length, append_assoc, length-append, Option, Some, None, unwrap_or, arith, if◌then◌else◌, ◌==◌, nat_lt, slice_index, slice_index_or, take, ◌||◌, eqb-true, eq-eqb, ltb-true, lt-ltb}
use Rattle.std.proofs.lemmas.List.{get_or_past}
use Rattle.std.proofs.lemmas.Bool.{false≢true, or_left, or_right, cases_lt}
use Rattle.pdl_semantics.specs.Flat
use Rattle.pdl_semantics.specs.Flatten.{side}
use Rattle.pdl_semantics.specs.Stages.{list_any, last_stage, stage_at, goes_to, is_inside, merges_fork, commit_stage, reserve_stage}
use Rattle.pdl_semantics.specs.Cycle.{merges_by}
use Rattle.pdl_theory_turns.specs.Graphs.{Home, Within, Trunk, next_of, stage_or, Below, Graph, Way, Branches, goes_by, on_side}
use Rattle.pdl_theory_turns.proofs.Nested.{same_head, same_tail, within_home, trunk_within, inside_at, inside_of}
use Rattle.pdl_source_stages.proofs.Shapes.{merge_at}
use Rattle.pdl_source_stages.proofs.Spots.{start, many, enters, Forked, Spot, Final, Line, AtFork, Leaves, Around, AllAround, Known}

-- a thread in stage s leaves the pipe, goes on in its branches, enters a branch of a fork or passes over it, or leaves a branch for the merge
pub data Step (p : Flat.Pipe) (s : ℕ) (env : List ℕ) : Type 0 where
  Ends : Trunk p s → suc s ≡ length p.stages → goes_to (stage_at p s).next env ≡ None → Step p s env
  Steps : (c : List Flat.Branch) → Home p c s → Home p c (suc s) → (stage_at p (suc s)).merges ≡ None → suc s < length p.stages
      → goes_to (stage_at p s).next env ≡ Some (suc s) → Step p s env
  Enters : (c : List Flat.Branch) (x a b : ℕ) (first : Bool) → Forked p c s x a b → 0 < many a b first → (slice_index env x == 1) ≡ first
      → goes_to (stage_at p s).next env ≡ Some (suc (start s a first)) → Step p s env
  Skips : (c : List Flat.Branch) (x a b : ℕ) (first : Bool) → Forked p c s x a b → many a b first ≡ 0 → (slice_index env x == 1) ≡ first
      → goes_to (stage_at p s).next env ≡ Some (merge_at s a b) → Step p s env
  Out : (c : List Flat.Branch) (f x a b : ℕ) (first : Bool) → Forked p c f x a b → Home p (side f first ∷ c) s
      → s ≡ start f a first + many a b first → goes_to (stage_at p s).next env ≡ Some (merge_at f a b) → Step p s env

fork_step : (p : Flat.Pipe) (s : ℕ) (env : List ℕ) (c : List Flat.Branch) (x a b : ℕ) → Forked p c s x a b → Step p s env
fork_step p s env c x a b k = at (slice_index env x == 1) refl
  where
    by : (first : Bool)
        → (slice_index env x == 1) ≡ first → (n : ℕ) → many a b first ≡ n
        → goes_to (stage_at p s).next env ≡ Some (enters (start s a first) (merge_at s a b) n) → Step p s env
    by first v zero e g = Skips c x a b first k e v g
    by first v (suc n) e g = Enters c x a b first k (let z = e in omega arith) v g

    at : (v : Bool) → (slice_index env x == 1) ≡ v → Step p s env
    at true e =
        by true e a refl (ap (λ n. goes_to n env) k.next ∙ ap (λ v. Some (if v then enters s (merge_at s a b) a else enters (s + a) (merge_at s a b) b)) e)
    at false e =
        by false e b refl (ap (λ n. goes_to n env) k.next ∙ ap (λ v. Some (if v then enters s (merge_at s a b) a else enters (s + a) (merge_at s a b) b)) e)

-- a step from a stage is of one of these forms
pub step : (p : Flat.Pipe) (s : ℕ) (env : List ℕ) → Spot p s → Step p s env
step p s env (Final n t e) = Ends t e (ap (λ n. goes_to n env) n)
step p s env (Line c n t u m l) = Steps c t u m l (ap (λ n. goes_to n env) n)
step p s env (AtFork c x a b k) = fork_step p s env c x a b k
step p s env (Leaves c f x a b first k h e n) = Out c f x a b first k h e (ap (λ n. goes_to n env) n)

-- LISTS OF BRANCHES

no_cycle : {R : Type 0} → (x : Flat.Branch) (c inner : List Flat.Branch) → c ≡ inner ++ x ∷ c → R
no_cycle x c inner e =
    absurd
    (let i : length c ≡ length (inner ++ x ∷ c) = ap length e in let j = length-append inner (x ∷ c) in let k : length (x ∷ c)
    ≡ suc (length c) = refl in omega arith)

same_ends : (x y : Flat.Branch) (c inner inner' : List Flat.Branch) → inner ++ x ∷ c ≡ inner' ++ y ∷ c → x ≡ y
same_ends x y c [] [] e = same_head x y c c e
same_ends x y c [] (z ∷ zs) e = no_cycle y c zs (same_tail x z _ _ e)
same_ends x y c (z ∷ zs) [] e = no_cycle x c zs (sym (same_tail z y _ _ e))
same_ends x y c (z ∷ zs) (w ∷ ws) e = same_ends x y c zs ws (same_tail z w _ _ e)

not_home : {R : Type 0} → (p : Flat.Pipe) (x : Flat.Branch) (c : List Flat.Branch) (r : ℕ) → Home p c r → Within p (x ∷ c) r → R
not_home p x c r h w = no_cycle x c w.0 (sym h ∙ w.1)

-- a branch begins after its fork or later
pub start_low : (f a : ℕ) (first : Bool) → f ≤ start f a first
start_low f a true = omega arith
start_low f a false = omega arith

-- and ends before the merge
pub start_high : (f a b : ℕ) (first : Bool) → start f a first + many a b first < merge_at f a b
start_high f a b true = omega arith
start_high f a b false = omega arith

-- every stage between a fork and its merge stands in one of the two branches
pub between_in : (p : Flat.Pipe) (c : List Flat.Branch) (f x a b r : ℕ)
    → Forked p c f x a b → f < r → r < merge_at f a b
    → (first : Bool) × (start f a first < r) × (r ≤ start f a first + many a b first) × Within p (side f first ∷ c) r
between_in p c f x a b r k low high = at (cases_lt (f + a) r)
  where
    at : (f + a < r) ⊎ (r ≤ f + a) → (first : Bool) × (start f a first < r) × (r ≤ start f a first + many a b first) × Within p (side f first ∷ c) r
    at (inl l) = let h : r ≤ f + a + b = omega arith in (false, l, h, k.within false r l h)
    at (inr l) = (true, low, l, k.within true r low l)

-- a fork has one form
pub fork_same : (p : Flat.Pipe) (c d : List Flat.Branch) (f x a b y a' b' : ℕ) → Forked p c f x a b → Forked p d f y a' b' → (a ≡ a') × (b ≡ b')
fork_same p c d f x a b y a' b' k l =
    let one = no_less p c d f x a b y a' b' k l in
    let two = no_less p d c f y a' b' x a b l k in
    let three = no_first p c d f x a b y a' b' k l one in
    let four = no_first p d c f y a' b' x a b l k two in
    (omega arith, omega arith)
  where
    no_less : (p : Flat.Pipe) (c d : List Flat.Branch) (f x a b y a' b' : ℕ) → Forked p c f x a b → Forked p d f y a' b' → a + b ≤ a' + b'
    no_less p c d f x a b y a' b' k l = at (cases_lt (a' + b') (a + b))
      where
        at : (a' + b' < a + b) ⊎ (a + b ≤ a' + b') → a + b ≤ a' + b'
        at (inl m) =
            let h = between_in p c f x a b (merge_at f a' b') k (omega arith) (omega arith) in
            not_home p (side f h.0) c (merge_at f a' b') (l.merge_home ∙ sym l.home ∙ k.home) h.3
        at (inr m) = m

    clash : true ≡ false → ⊥
    clash e = cc

    no_first : (p : Flat.Pipe) (c d : List Flat.Branch) (f x a b y a' b' : ℕ) → Forked p c f x a b → Forked p d f y a' b' → a + b ≤ a' + b' → a ≤ a'
    no_first p c d f x a b y a' b' k l q = at (cases_lt a' a)
      where
        at : (a' < a) ⊎ (a ≤ a') → a ≤ a'
        at (inl m) =
            let i = k.within true (suc (f + a')) (omega arith) (omega arith) in
            let j = l.within false (suc (f + a')) (omega arith) (omega arith) in
            absurd
            (clash (ap (λ (z : Flat.Branch). z.first)
            (same_ends (side f true) (side f false) c i.0 j.0 (sym i.1 ∙ j.1 ∙ ap (λ e. j.0 ++ side f false ∷ e) (sym l.home ∙ k.home)))))
        at (inr m) = m

-- a test of the first stages
some_taken : (test : Flat.Stage → Bool) (d : Flat.Stage) (n i : ℕ) (xs : List Flat.Stage)
    → i < n → i < length xs → test (slice_index_or xs i d) ≡ true → list_any test (take n xs) ≡ true
some_taken test d n i [] l m h = absurd (omega arith)
some_taken test d zero i (x ∷ xs) l m h = absurd (omega arith)
some_taken test d (suc n) zero (x ∷ xs) l m h = or_left (test x) _ h
some_taken test d (suc n) (suc i) (x ∷ xs) l m h = or_right (test x) _ (some_taken test d n i xs (omega arith) (omega arith) h)

taken_some : (test : Flat.Stage → Bool) (d : Flat.Stage) (n : ℕ) (xs : List Flat.Stage)
    → list_any test (take n xs) ≡ true → (i : ℕ) × (i < n) × (test (slice_index_or xs i d) ≡ true)
taken_some test d zero [] h = absurd (false≢true h)
taken_some test d (suc n) [] h = absurd (false≢true h)
taken_some test d zero (x ∷ xs) h = absurd (false≢true h)
taken_some test d (suc n) (x ∷ xs) h = at (test x) refl h (taken_some test d n xs)
  where
    at : (b : Bool)
        → test x ≡ b → (b || list_any test (take n xs)) ≡ true
        → (list_any test (take n xs) ≡ true → (i : ℕ) × (i < n) × (test (slice_index_or xs i d) ≡ true))
        → (i : ℕ) × (i < suc n) × (test (slice_index_or (x ∷ xs) i d) ≡ true)
    at true e k more = (0, omega arith, e)
    at false e k more = let r = more k in (suc r.0, (let l = r.1 in omega arith), r.2)

-- GRAPH

module _ (p : Flat.Pipe) (knows : (s : ℕ) → s < length p.stages → Known p s) where
  abbrev go : (s : ℕ) (env : List ℕ) → s < length p.stages → Step p s env
  go s env low = step p s env (knows s low).spot

  past : (r : ℕ) → length p.stages ≤ r → stage_at p r ≡ last_stage
  past r h = get_or_past p.stages r last_stage h

  -- a number past the stages stands for the trunk
  pub trunk_past : (r : ℕ) → length p.stages ≤ r → Trunk p r
  trunk_past r h = ap (λ (y : Flat.Stage). y.branches) (past r h)

  to : (s : ℕ) (env : List ℕ) (n : ℕ) → goes_to (stage_at p s).next env ≡ Some n → next_of p s env ≡ n
  to s env n e = ap (stage_or (length p.stages)) e

  to_end : (s : ℕ) (env : List ℕ) → goes_to (stage_at p s).next env ≡ None → next_of p s env ≡ length p.stages
  to_end s env e = ap (stage_or (length p.stages)) e

  -- it goes on to a stage of the pipe, or ends
  pub on_or_end : (s : ℕ) (env : List ℕ) → s < length p.stages
      → ((Trunk p s) × (suc s ≡ length p.stages) × (goes_to (stage_at p s).next env ≡ None))
      ⊎ ((n : ℕ) × (goes_to (stage_at p s).next env ≡ Some n) × (s < n) × (n < length p.stages))
  on_or_end s env low = at (go s env low)
    where
      at : Step p s env
          → ((Trunk p s) × (suc s ≡ length p.stages) × (goes_to (stage_at p s).next env ≡ None))
          ⊎ ((n : ℕ) × (goes_to (stage_at p s).next env ≡ Some n) × (s < n) × (n < length p.stages))
      at (Ends t e g) = inl (t, e, g)
      at (Steps c t u m l g) = inr (suc s, g, (omega arith), l)
      at (Enters c x a b first k l v g) =
          let i = start_low s a first in
          let j = start_high s a b first in
          let h = k.inside in
          inr (suc (start s a first), g, (omega arith), (omega arith))
      at (Skips c x a b first k e v g) = inr (merge_at s a b, g, (omega arith), k.inside)
      at (Out c f x a b first k h e g) = let j = start_high f a b first in inr (merge_at f a b, g, (omega arith), k.inside)

  up : (s : ℕ) (env : List ℕ) → s < length p.stages → s < next_of p s env
  up s env low = at (on_or_end s env low)
    where
      at : ((Trunk p s) × (suc s ≡ length p.stages) × (goes_to (stage_at p s).next env ≡ None))
          ⊎ ((n : ℕ) × (goes_to (stage_at p s).next env ≡ Some n) × (s < n) × (n < length p.stages))
          → s < next_of p s env
      at (inl h) = let z = to_end s env h.2 in omega arith
      at (inr h) = let z = to s env h.0 h.1 in let i = h.2 in omega arith

  inside : (s : ℕ) (env : List ℕ) → s < length p.stages → next_of p s env ≤ length p.stages
  inside s env low = at (on_or_end s env low)
    where
      at : ((Trunk p s) × (suc s ≡ length p.stages) × (goes_to (stage_at p s).next env ≡ None))
          ⊎ ((n : ℕ) × (goes_to (stage_at p s).next env ≡ Some n) × (s < n) × (n < length p.stages))
          → next_of p s env ≤ length p.stages
      at (inl h) = let z = to_end s env h.2 in omega arith
      at (inr h) = let z = to s env h.0 h.1 in let i = h.3 in omega arith

  last : (s : ℕ) (env : List ℕ) → s < length p.stages → next_of p s env ≡ length p.stages → Trunk p s × (suc s ≡ length p.stages)
  last s env low e = at (on_or_end s env low)
    where
      at : ((Trunk p s) × (suc s ≡ length p.stages) × (goes_to (stage_at p s).next env ≡ None))
          ⊎ ((n : ℕ) × (goes_to (stage_at p s).next env ≡ Some n) × (s < n) × (n < length p.stages))
          → Trunk p s × (suc s ≡ length p.stages)
      at (inl h) = (h.0, h.1)
      at (inr h) = absurd (let z = to s env h.0 h.1 in let i = h.3 in omega arith)

  leaves : (s : ℕ) (env : List ℕ)
      → s < length p.stages
      → goes_to (stage_at p s).next env ≡ (if nat_lt (next_of p s env) (length p.stages) then Some (next_of p s env) else None)
  leaves s env low = at (on_or_end s env low)
    where
      at : ((Trunk p s) × (suc s ≡ length p.stages) × (goes_to (stage_at p s).next env ≡ None))
          ⊎ ((n : ℕ) × (goes_to (stage_at p s).next env ≡ Some n) × (s < n) × (n < length p.stages))
          → goes_to (stage_at p s).next env ≡ (if nat_lt (next_of p s env) (length p.stages) then Some (next_of p s env) else None)
      at (inl h) = h.2 ∙ by (nat_lt (next_of p s env) (length p.stages)) refl
        where
          by : (c : Bool) → nat_lt (next_of p s env) (length p.stages) ≡ c → None ≡ (if c then Some (next_of p s env) else None)
          by true e = absurd (let l = ltb-true _ _ e in let z = to_end s env h.2 in omega arith)
          by false e = refl
      at (inr h) =
          h.1 ∙ ap (λ c. if c then Some h.0 else None) (sym (lt-ltb h.0 (length p.stages) h.3))
          ∙ ap (λ i. if nat_lt i (length p.stages) then Some i else None) (sym (to s env h.0 h.1))

  -- no stage of the branches around a fork stands between it and its merge
  pub no_home : {R : Type 0} → (c : List Flat.Branch) (f x a b r : ℕ) → Forked p c f x a b → f < r → r < merge_at f a b → Home p c r → R
  no_home c f x a b r k low high h = let i = between_in p c f x a b r k low high in not_home p (side f i.0) c r h i.3

  jump : (d : List Flat.Branch) (s : ℕ) (env : List ℕ) (r : ℕ)
      → s < length p.stages → Within p d s → Home p d r → s < r → r ≤ next_of p s env → r ≡ next_of p s env
  jump d s env r low w t i j = at (go s env low)
    where
      -- a stage of branches around this one is not passed over at a fork
      over : (c : List Flat.Branch) (f x a b : ℕ)
          → Forked p c f x a b → (mine : List Flat.Branch) → Home p (mine ++ c) s → f < r
          →
          ((first : Bool) → start f a first < r → r ≤ start f a first + many a b first → (inner : List Flat.Branch) → mine ++ c ≡ inner ++ side f first ∷ c → ⊥)
          → r < merge_at f a b → ⊥
      over c f x a b k mine h l none high =
          let q = between_in p c f x a b r k l high in
          none q.0 q.1 q.2 (w.0 ++ q.3.0) (sym h ∙ w.1 ∙ ap (λ z. w.0 ++ z) (sym t ∙ q.3.1) ∙ sym (append_assoc w.0 q.3.0 (side f q.0 ∷ c)))

      exact : (n : ℕ) → next_of p s env ≡ n → (r < n → ⊥) → r ≡ next_of p s env
      exact n e f = by (cases_lt r n)
        where
          by : (r < n) ⊎ (n ≤ r) → r ≡ next_of p s env
          by (inl l) = absurd (f l)
          by (inr l) = omega arith

      same_side : (f : ℕ) (first other : Bool) → side f first ≡ side f other → first ≡ other
      same_side f first other e = ap (λ (z : Flat.Branch). z.first) e

      at : Step p s env → r ≡ next_of p s env
      at (Ends u e g) = let z = to_end s env g in omega arith
      at (Steps c u v m l g) = let z = to s env (suc s) g in omega arith
      at (Enters c x a b first k l v g) =
          exact (suc (start s a first)) (to s env _ g)
          (λ q. over c s x a b k [] k.home i (λ other _ _ inner e. no_cycle (side s other) c inner e) (let h = start_high s a b first in omega arith))
      at (Skips c x a b first k e v g) =
          exact (merge_at s a b) (to s env _ g) (λ q. over c s x a b k [] k.home i (λ other _ _ inner e. no_cycle (side s other) c inner e) q)
      at (Out c f x a b first k h e g) =
          exact (merge_at f a b) (to s env _ g)
          (λ q.
          over c f x a b k (side f first ∷ []) h (let y = start_low f a first in omega arith)
          (λ other l m inner z.
          let y : first ≡ other = same_side f first other (same_ends (side f first) (side f other) c [] inner z) in
          let n : r ≤ start f a first + many a b first = subst (λ o. r ≤ start f a o + many a b o) (sym y) m in
          omega arith) q)

  between : (d : List Flat.Branch) (s : ℕ) (env : List ℕ) (b : ℕ)
      → s < length p.stages → Within p d s → Home p d (next_of p s env) → next_of p s env < length p.stages → Below p d b s → Within p d b
      → b < next_of p s env
      → (f : ℕ) × ((stage_at p (next_of p s env)).merges ≡ Some f) × (is_inside p f b ≡ true)
  between d s env b low w t high bel wb j = at (go s env low)
    where
      merged : (c : List Flat.Branch) (f x a e : ℕ)
          → Forked p c f x a e → next_of p s env ≡ merge_at f a e → f < b
          → (f : ℕ) × ((stage_at p (next_of p s env)).merges ≡ Some f) × (is_inside p f b ≡ true)
      merged c f x a e k n l =
          let i = between_in p c f x a e b k l (omega arith) in
          (f, ap (λ q. (stage_at p q).merges) n ∙ k.merge, inside_of p f b (side f i.0) c i.3 refl)

      home_at : (n : ℕ) → goes_to (stage_at p s).next env ≡ Some n → (c : List Flat.Branch) → Home p c n → c ≡ d
      home_at n g c h = sym h ∙ ap (λ q. (stage_at p q).branches) (sym (to s env n g)) ∙ t

      at : Step p s env → (f : ℕ) × ((stage_at p (next_of p s env)).merges ≡ Some f) × (is_inside p f b ≡ true)
      at (Ends u e g) = absurd (let z = to_end s env g in omega arith)
      at (Steps c u v m l g) =
          absurd (let z = to s env (suc s) g in let i : s < b = bel s (u ∙ home_at (suc s) g c v) (let n : s ≤ s = omega arith in n) in omega arith)
      at (Enters c x a e first k l v g) =
          let h : side s first ∷ c ≡ d = home_at _ g (side s first ∷ c) (k.begins first l).0 in
          no_cycle (side s first) c w.0 (sym k.home ∙ w.1 ∙ ap (λ z. w.0 ++ z) (sym h))
      at (Skips c x a e first k z v g) = merged c s x a e k (to s env _ g) (bel s (k.home ∙ home_at _ g c k.merge_home) (let n : s ≤ s = omega arith in n))
      at (Out c f x a e first k h i g) =
          merged c f x a e k (to s env _ g) (bel f (k.home ∙ home_at _ g c k.merge_home) (let y = start_low f a first in omega arith))

  -- the stage graph has the facts that the theorems take
  pub graph_of : 0 < length p.stages → Trunk p 0 → ((m : ℕ) → Trunk p (reserve_stage p m)) → ((m : ℕ) → Trunk p (commit_stage p m)) → Graph p
  graph_of some begin reserve commit = record {
    some_stage = some;
    trunk_start = begin;
    trunk_past = trunk_past;
    trunk_reserve = reserve;
    trunk_commit = commit;
    leaves = leaves;
    up = up;
    inside = inside;
    jump = jump;
    last = last;
    between = between;
  }

  -- BRANCHES

  -- the fork of a branch around a stage
  pub around : (y : Flat.Branch) (c : List Flat.Branch) (s : ℕ) → Within p (y ∷ c) s → Around p y c s
  around y c s w = by (cases_lt s (length p.stages))
    where
      at : (inner l : List Flat.Branch) → l ≡ inner ++ y ∷ c → AllAround p l s → Around p y c s
      at [] l e h = (subst (λ l. AllAround p l s) e h).0
      at (z ∷ zs) l e h = at zs (zs ++ y ∷ c) refl (subst (λ l. AllAround p l s) e h).1

      by : (s < length p.stages) ⊎ (length p.stages ≤ s) → Around p y c s
      by (inl l) = at w.0 (stage_at p s).branches w.1 (knows s l).around
      by (inr l) = trunk_within p y c s (trunk_past s l) w

  fork : (x : Flat.Branch) (c : List Flat.Branch) (s : ℕ) → Within p (x ∷ c) s → Home p c x.fork × (x.fork < s)
  fork x c s w = let h = around x c s w in let i = start_low x.fork h.a x.first in let j = h.low in (h.fork.home, omega arith)

  way : (s : ℕ) (env : List ℕ) → s < length p.stages → Way p s (next_of p s env)
  way s env low = at (go s env low)
    where
      there : (n : ℕ) → goes_to (stage_at p s).next env ≡ Some n → (c : List Flat.Branch) → Home p c n → (stage_at p (next_of p s env)).branches ≡ c
      there n g c h = ap (λ q. (stage_at p q).branches) (to s env n g) ∙ h

      at : Step p s env → Way p s (next_of p s env)
      at (Ends t e g) =
          inl
          (ap (λ q. (stage_at p q).branches) (to_end s env g) ∙ trunk_past (length p.stages) (let n : length p.stages ≤ length p.stages = omega arith in n)
          ∙ sym t)
      at (Steps c t u m l g) = inl (there (suc s) g c u ∙ sym t)
      at (Enters c x a b first k l v g) = inr (inl (side s first, there _ g _ (k.begins first l).0 ∙ ap (λ z. side s first ∷ z) (sym k.home), refl))
      at (Skips c x a b first k e v g) = inl (there _ g c k.merge_home ∙ sym k.home)
      at (Out c f x a b first k h e g) =
          inr (inr (side f first, h ∙ ap (λ z. side f first ∷ z) (sym (there _ g c k.merge_home)), ap (λ q. (stage_at p q).merges) (to s env _ g) ∙ k.merge))

  -- a branch is entered from its fork alone
  not_from : {R : Type 0} → (x : Flat.Branch) (c : List Flat.Branch) → Within p (x ∷ c) x.fork → R
  not_from x c w = absurd (let h = (fork x c x.fork w).1 in omega arith)

  -- where a thread enters a branch
  entered : (x : Flat.Branch) (c : List Flat.Branch) (env : List ℕ) → x.fork < length p.stages → Home p (x ∷ c) (next_of p x.fork env)
      → (v : ℕ) × (a : ℕ) × (b : ℕ) × Forked p c x.fork v a b × ((slice_index env v == 1) ≡ x.first) × (next_of p x.fork env ≡ suc (start x.fork a x.first))
  entered x c env low h = at (go x.fork env low)
    where
      same : (n : ℕ) → goes_to (stage_at p x.fork).next env ≡ Some n → (d : List Flat.Branch) → Home p d n → x ∷ c ≡ d
      same n g d i = sym h ∙ ap (λ q. (stage_at p q).branches) (to x.fork env n g) ∙ i

      at : Step p x.fork env
          → (v : ℕ) × (a : ℕ) × (b : ℕ) × Forked p c x.fork v a b × ((slice_index env v == 1) ≡ x.first) × (next_of p x.fork env ≡ suc (start x.fork a x.first))
      at (Ends t e g) = trunk_within p x c (next_of p x.fork env) (trunk_past _ (let z = to_end x.fork env g in omega arith)) (within_home p _ _ h)
      at (Steps d t u m l g) = not_from x c (within_home p _ _ (t ∙ sym (same _ g d u)))
      at (Enters d v a b first k l e g) =
          let s = same _ g (side x.fork first ∷ d) (k.begins first l).0 in
          let first_is : first ≡ x.first = sym (ap (λ (z : Flat.Branch). z.first) (same_head x (side x.fork first) c d s)) in
          let around_is : d ≡ c = sym (same_tail x (side x.fork first) c d s) in
          (v, a, b, subst (λ z. Forked p z x.fork v a b) around_is k, e ∙ first_is, to x.fork env _ g ∙ ap (λ z. suc (start x.fork a z)) first_is)
      at (Skips d v a b first k e u g) = not_from x c (within_home p _ _ (k.home ∙ sym (same _ g d k.merge_home)))
      at (Out d f v a b first k i e g) = not_from x c (side f first ∷ [], i ∙ ap (λ z. side f first ∷ z) (sym (same _ g d k.merge_home)))

  side_of : (x : Flat.Branch) (c : List Flat.Branch) (env : List ℕ) → x.fork < length p.stages → Home p (x ∷ c) (next_of p x.fork env) → goes_by p x env ≡ true
  side_of x c env low h = let e = entered x c env low h in ap (λ n. on_side n x.first env) e.3.next ∙ at x.first (slice_index env e.0 == 1) e.4
    where
      at : (first v : Bool) → v ≡ first → (if first then v else not v) ≡ true
      at true v e = e
      at false v e = ap not e

  entry : (x : Flat.Branch) (c : List Flat.Branch) (env : List ℕ) (r : ℕ)
      → x.fork < length p.stages → Home p (x ∷ c) (next_of p x.fork env) → Within p (x ∷ c) r → next_of p x.fork env ≤ r
  entry x c env r low h w =
      let e = entered x c env low h in
      let i = around x c r w in
      let same : e.1 ≡ i.a = (fork_same p c c x.fork e.0 e.1 e.2 i.x i.a i.b e.3 i.fork).0 in
      let z : next_of p x.fork env ≡ suc (start x.fork i.a x.first) = e.5 ∙ ap (λ a. suc (start x.fork a x.first)) same in
      let l = i.low in
      omega arith

  merge : (s : ℕ) (env : List ℕ) (f : ℕ) → s < length p.stages → (stage_at p (next_of p s env)).merges ≡ Some f
      → ((s ≡ f) × ((stage_at p (next_of p s env)).branches ≡ (stage_at p s).branches))
      ⊎
      ((x : Flat.Branch) × ((stage_at p s).branches ≡ x ∷ (stage_at p (next_of p s env)).branches) × (x.fork ≡ f)
      × ((b : ℕ) → Within p (x ∷ (stage_at p (next_of p s env)).branches) b → b ≤ s))
  merge s env f low e = at (go s env low)
    where
      none : {R : Type 0} → (n : ℕ) → goes_to (stage_at p s).next env ≡ Some n → (stage_at p n).merges ≡ None → R
      none n g h = absurd (cc (sym h ∙ ap (λ q. (stage_at p q).merges) (sym (to s env n g)) ∙ e))

      it_is : (n g : ℕ) → goes_to (stage_at p s).next env ≡ Some n → (stage_at p n).merges ≡ Some g → g ≡ f
      it_is n g i h = ap (λ o. unwrap_or o 0) (sym h ∙ ap (λ q. (stage_at p q).merges) (sym (to s env n i)) ∙ e)

      there : (n : ℕ) → goes_to (stage_at p s).next env ≡ Some n → (c : List Flat.Branch) → Home p c n → (stage_at p (next_of p s env)).branches ≡ c
      there n g c h = ap (λ q. (stage_at p q).branches) (to s env n g) ∙ h

      at : Step p s env → ((s ≡ f) × ((stage_at p (next_of p s env)).branches ≡ (stage_at p s).branches))
          ⊎
          ((x : Flat.Branch) × ((stage_at p s).branches ≡ x ∷ (stage_at p (next_of p s env)).branches) × (x.fork ≡ f)
          × ((b : ℕ) → Within p (x ∷ (stage_at p (next_of p s env)).branches) b → b ≤ s))
      at (Ends t i g) = absurd (cc (sym (ap (λ (y : Flat.Stage). y.merges) (past (next_of p s env) (let z = to_end s env g in omega arith))) ∙ e))
      at (Steps c t u m l g) = none (suc s) g m
      at (Enters c x a b first k l v g) = none _ g (k.begins first l).1
      at (Skips c x a b first k e v g) = inl (it_is _ s g k.merge, there _ g c k.merge_home ∙ sym k.home)
      at (Out c h x a b first k i j g) =
          inr (
            side h first,
            i ∙ ap (λ z. side h first ∷ z) (sym (there _ g c k.merge_home)),
            it_is _ h g k.merge,
            λ r w.
                let o = around (side h first) (stage_at p (next_of p s env)).branches r w in
                let same = fork_same p (stage_at p (next_of p s env)).branches c h o.x o.a o.b x a b o.fork k in
                let z : r ≤ start h a first + many a b first = subst (λ n. r ≤ start h n first + many n b first) same.0
                (subst (λ n. r ≤ start h o.a first + many o.a n first) same.1 o.high) in
                omega arith,
          )

  -- and so have its branches
  pub branches_of : Branches p
  branches_of = record { fork = fork; way = way; side = side_of; entry = entry; merge = merge }

  -- V AND FORKS

  merges_some : (o : Option ℕ) (f : ℕ) → merges_fork o f ≡ true → o ≡ Some f
  merges_some None f h = absurd (cc h)
  merges_some (Some g) f h = ap Some (eqb-true g f h)

  -- a fork whose merge is no later than a trunk stage v is wholly before v, any other is not before v
  pub merged : (v f b : ℕ) → Trunk p v → v < length p.stages → is_inside p f b ≡ true → merges_by p f (Some v) ≡ true → b < v
  merged v f b t low h m = inside_at p f b h at
    where
      found : (i : ℕ) × (i < suc v) × (merges_fork (stage_at p i).merges f ≡ true)
      found = taken_some (λ y. merges_fork y.merges f) last_stage (suc v) p.stages m

      at : (y : Flat.Branch) (c : List Flat.Branch) → Within p (y ∷ c) b → y.fork ≡ f → b < v
      at y c w e =
          let i = found.1 in
          let k = (knows found.0 (omega arith)).merges f (merges_some (stage_at p found.0).merges f found.2) in
          let o = around y c b w in
          let same = fork_same p c k.0 f o.x o.a o.b k.1 k.2 k.3 (subst (λ n. Forked p c n o.x o.a o.b) e o.fork) k.4 in
          let high : b ≤ start f k.2 y.first + many k.2 k.3 y.first = subst (λ n. b ≤ start f n y.first + many n k.3 y.first) same.0
          (subst (λ n. b ≤ start f o.a y.first + many o.a n y.first) same.1 (subst (λ n. b ≤ start n o.a y.first + many o.a o.b y.first) e o.high)) in
          let z = start_high f k.2 k.3 y.first in
          let q = k.5 in
          omega arith

  -- any other fork is not before v
  pub unmerged : (v f b : ℕ) → Trunk p v → v < length p.stages → is_inside p f b ≡ true → merges_by p f (Some v) ≡ false → v ≤ f
  unmerged v f b t low h m = inside_at p f b h at
    where
      at : (y : Flat.Branch) (c : List Flat.Branch) → Within p (y ∷ c) b → y.fork ≡ f → v ≤ f
      at y c w e = by (cases_lt f v)
        where
          o : Around p y c b
          o = around y c b w

          k : Forked p c f o.x o.a o.b
          k = subst (λ n. Forked p c n o.x o.a o.b) e o.fork

          clash : false ≡ true → ⊥
          clash i = cc

          past_it : merge_at f o.a o.b ≤ v → ⊥
          past_it l =
              clash
              (sym m ∙ some_taken (λ y. merges_fork y.merges f) last_stage (suc v) (merge_at f o.a o.b) p.stages (omega arith) k.inside
              (ap (λ r. merges_fork r f) k.merge ∙ eq-eqb f f refl))

          second : f < v → (v < merge_at f o.a o.b) ⊎ (merge_at f o.a o.b ≤ v) → v ≤ f
          second l (inl i) = let q = between_in p c f o.x o.a o.b v k l i in trunk_within p (side f q.0) c v t q.3
          second l (inr i) = absurd (past_it i)

          by : (f < v) ⊎ (v ≤ f) → v ≤ f
          by (inl l) = second l (cases_lt v (merge_at f o.a o.b))
          by (inr l) = l
