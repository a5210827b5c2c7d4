-- Stages in branches and in branches inside these: what a way from one stage to another keeps.
use Rattle.std.proofs.Common.{◌≡◌, refl, sym, ap, ap₂, ◌∙◌, subst, ℕ, ◌<◌, ◌⊎◌, inl, inr, Bool, true, false, ◌&&◌, ◌||◌, List, [], ◌∷◌, ◌++◌, ◌==◌, if◌then◌else◌, length, arith, append-nil, append_assoc, eq-eqb}
use Rattle.std.proofs.lemmas.Bool.{eqb-true, ne_eqb}
use Rattle.pdl_theory_turns.specs.semantics.Flat.{Pipe, Branch}
use Rattle.pdl_theory_turns.specs.semantics.Stages.{list_any, stage_at, is_inside, sides_of}
use Rattle.pdl_theory_turns.specs.Graphs.{Home, Within, Trunk, next_of, goes_by, Way, Branches}
use Rattle.pdl_theory_turns.specs.Facts.{comes_by, visits_stage}
use Rattle.pdl_theory_turns.proofs.Facts.{sides_append}
use Rattle.pdl_theory_turns.proofs.Writes.{and_right}

abbrev head_of : Branch → List Branch → Branch
head_of x [] = x
head_of x (y ∷ ys) = y

abbrev tail_of : List Branch → List Branch
tail_of [] = []
tail_of (y ∷ ys) = ys

-- equal lists of branches begin with the same branch
pub same_head : (x y : Branch) (xs ys : List Branch) → x ∷ xs ≡ y ∷ ys → x ≡ y
same_head x y xs ys e = ap (head_of x) e

-- and go on in the same way
pub same_tail : (x y : Branch) (xs ys : List Branch) → x ∷ xs ≡ y ∷ ys → xs ≡ ys
same_tail x y xs ys e = ap tail_of e

-- a list with a branch is not empty
pub not_empty : {R : Type 0} → (x : Branch) (xs : List Branch) → x ∷ xs ≡ [] → R
not_empty x xs e = absurd (cc e)

-- each stage stands within what is around it
pub within_all : (p : Pipe) (s : ℕ) → Within p [] s
within_all p s = ((stage_at p s).branches, sym (append-nil _))

-- a stage stands within its own branches
pub within_home : (p : Pipe) (c : List Branch) (s : ℕ) → Home p c s → Within p c s
within_home p c s h = ([], h)

-- what stands within some branches stands within those around them
pub within_more : (p : Pipe) (x : Branch) (c : List Branch) (s : ℕ) → Within p (x ∷ c) s → Within p c s
within_more p x c s h = (h.0 ++ x ∷ [], h.1 ∙ sym (append_assoc h.0 (x ∷ []) c))

-- no branch holds a stage of the trunk
pub trunk_within : {R : Type 0} → (p : Pipe) (x : Branch) (c : List Branch) (s : ℕ) → Trunk p s → Within p (x ∷ c) s → R
trunk_within p x c s t h = at h.0 (sym t ∙ h.1)
  where
    at : {R : Type 0} → (inner : List Branch) → [] ≡ inner ++ x ∷ c → R
    at [] e = not_empty x c (sym e)
    at (y ∷ ys) e = not_empty y _ (sym e)

-- a thread that is within some branches was there before, or enters the innermost of them from its fork
abbrev pub Came : Pipe → List Branch → ℕ → ℕ → Type 0
Came p c s q = Within p c s ⊎ ((x : Branch) × (c ≡ x ∷ (stage_at p s).branches) × (x.fork ≡ s) × Home p c q)

-- a way into some branches comes from within them, or from the fork of the innermost one
pub came_way : (p : Pipe) (c : List Branch) (s q : ℕ) → Way p s q → Within p c q → Came p c s q
came_way p c s q (inl e) h = inl (h.0, sym e ∙ h.1)
came_way p c s q (inr (inl e)) h = at h.0 (sym e.1 ∙ h.1)
  where
    at : (inner : List Branch) → e.0 ∷ (stage_at p s).branches ≡ inner ++ c → Came p c s q
    at [] i = inr (e.0, sym i, e.2, e.1 ∙ i)
    at (y ∷ ys) i = inl (ys, same_tail e.0 y _ _ i)
came_way p c s q (inr (inr e)) h = inl (e.0 ∷ h.0, e.1 ∙ ap (λ l. e.0 ∷ l) h.1)

-- of one branch: it is entered from its fork, or was entered before
pub came_from_way : (p : Pipe) (x : Branch) (c : List Branch) (s q : ℕ) → Way p s q → Within p (x ∷ c) q → (x.fork ≡ s) ⊎ Within p (x ∷ c) s
came_from_way p x c s q w h = at (came_way p (x ∷ c) s q w h)
  where
    at : Came p (x ∷ c) s q → (x.fork ≡ s) ⊎ Within p (x ∷ c) s
    at (inl k) = inr k
    at (inr k) = inl (ap (λ (y : Branch). y.fork) (same_head x k.0 c _ k.1) ∙ k.2)

module _ (p : Pipe) (br : Branches p) where
  -- whoever stands within some branches after its next step was there before, or enters the innermost of them from its fork
  pub came : (c : List Branch) (s : ℕ) (env : List ℕ) → s < length p.stages → Within p c (next_of p s env) → Came p c s (next_of p s env)
  came c s env low h = came_way p c s (next_of p s env) (br.way s env low) h

  -- of one branch: it was entered before, or is entered from its fork
  pub came_from : (x : Branch) (c : List Branch) (s : ℕ) (env : List ℕ)
      → s < length p.stages → Within p (x ∷ c) (next_of p s env) → (x.fork ≡ s) ⊎ Within p (x ∷ c) s
  came_from x c s env low h = came_from_way p x c s (next_of p s env) (br.way s env low) h

  -- the next stage on a path is one that the path comes to
  pub arrives : (s : ℕ) (env : List ℕ) → s < length p.stages → visits_stage p env s ≡ true → visits_stage p env (next_of p s env) ≡ true
  arrives s env low h = at (br.way s env low)
    where
      at : Way p s (next_of p s env) → visits_stage p env (next_of p s env) ≡ true
      at (inl e) = ap (comes_by p env) e ∙ h
      at (inr (inl e)) =
          ap (comes_by p env) e.1
          ∙ ap₂ (λ a b. a && b)
          (br.side e.0 (stage_at p s).branches env (subst (λ n. n < length p.stages) (sym e.2) low)
          (subst (λ n. Home p (e.0 ∷ (stage_at p s).branches) (next_of p n env)) (sym e.2) e.1))
          h
      at (inr (inr e)) = and_right (goes_by p e.0 env) _ (sym (ap (comes_by p env) e.1) ∙ h)

-- a path's values that lead to the same sides come to the same stages
pub comes_same : (p : Pipe) (s : ℕ) (env env' : List ℕ)
    → ((x : Branch) (c : List Branch) → Within p (x ∷ c) s → goes_by p x env ≡ goes_by p x env') → (c : List Branch) → Within p c s
    → comes_by p env c ≡ comes_by p env' c
comes_same p s env env' f [] h = refl
comes_same p s env env' f (x ∷ c) h = ap₂ (λ a b. a && b) (f x c h) (comes_same p s env env' f c (within_more p x c s h))

-- a path's values that lead to the same sides of the forks around a stage come to it alike
pub visits_same : (p : Pipe) (s : ℕ) (env env' : List ℕ)
    → ((x : Branch) (c : List Branch) → Within p (x ∷ c) s → goes_by p x env ≡ goes_by p x env')
    → visits_stage p env s ≡ visits_stage p env' s
visits_same p s env env' f = comes_same p s env env' f (stage_at p s).branches (within_home p _ s refl)

-- a path that comes by some branches comes by those around them
comes_outer : (p : Pipe) (path : List ℕ) (inner c : List Branch) → comes_by p path (inner ++ c) ≡ true → comes_by p path c ≡ true
comes_outer p path [] c h = h
comes_outer p path (y ∷ ys) c h = comes_outer p path ys c (and_right (goes_by p y path) _ h)

-- a path that comes to a stage inside a fork comes to the fork
pub visits_fork : (p : Pipe) (path : List ℕ) (x : Branch) (c : List Branch) (s : ℕ) → Within p (x ∷ c) s → Home p c x.fork
    → visits_stage p path s ≡ true → visits_stage p path x.fork ≡ true
visits_fork p path x c s i h on =
    ap (comes_by p path) h
    ∙ comes_outer p path (i.0 ++ x ∷ []) c (ap (comes_by p path) (append_assoc i.0 (x ∷ []) c ∙ sym i.1) ∙ on)

-- FORKS AROUND A STAGE

-- the branch of a fork that a stage is inside
pub inside_at : {R : Type 0} → (p : Pipe) (f s : ℕ) → is_inside p f s ≡ true → ((x : Branch) (c : List Branch) → Within p (x ∷ c) s → x.fork ≡ f → R) → R
inside_at {R} p f s h go = at (stage_at p s).branches [] refl h
  where
    at : (l inner : List Branch) → (stage_at p s).branches ≡ inner ++ l → list_any (λ b. b.fork == f) l ≡ true → R
    at [] inner e k = absurd (cc k)
    at (x ∷ c) inner e k = by (x.fork == f) refl k (at c (inner ++ x ∷ []) (e ∙ sym (append_assoc inner (x ∷ []) c)))
      where
        by : (t : Bool) → (x.fork == f) ≡ t → (t || list_any (λ b. b.fork == f) c) ≡ true → (list_any (λ b. b.fork == f) c ≡ true → R) → R
        by true i j next = go x c (inner, e) (eqb-true _ _ i)
        by false i j next = next j

-- a stage is not inside a fork whose branches it does not stand within
pub not_inside : (p : Pipe) (f s : ℕ) → ((x : Branch) (c : List Branch) → Within p (x ∷ c) s → x.fork ≡ f → ⊥) → is_inside p f s ≡ false
not_inside p f s none = at (is_inside p f s) refl
  where
    at : (b : Bool) → is_inside p f s ≡ b → is_inside p f s ≡ false
    at true e = absurd (inside_at p f s e none)
    at false e = e

-- a stage within a branch of a fork is inside the fork
pub inside_of : (p : Pipe) (f s : ℕ) (x : Branch) (c : List Branch) → Within p (x ∷ c) s → x.fork ≡ f → is_inside p f s ≡ true
inside_of p f s x c h e = ap (λ l. list_any (λ (b : Branch). b.fork == f) l) h.1 ∙ at h.0
  where
    or_true : (b : Bool) {d : Bool} → d ≡ true → (b || d) ≡ true
    or_true true k = refl
    or_true false k = k

    at : (inner : List Branch) → list_any (λ (b : Branch). b.fork == f) (inner ++ x ∷ c) ≡ true
    at [] = ap (λ b. b || list_any (λ (b : Branch). b.fork == f) c) (eq-eqb _ _ e)
    at (y ∷ ys) = or_true (y.fork == f) (at ys)

-- of branches that have none of the fork nothing is taken
pub sides_outside : (f : ℕ) (bs : List Branch) → list_any (λ b. b.fork == f) bs ≡ false → sides_of f bs ≡ []
sides_outside f [] h = refl
sides_outside f (b ∷ bs) h = at (b.fork == f) h (sides_outside f bs)
  where
    at : (t : Bool)
        → (t || list_any (λ b. b.fork == f) bs) ≡ false → (list_any (λ b. b.fork == f) bs ≡ false → sides_of f bs ≡ [])
        → ((if t then b.first ∷ [] else []) ++ sides_of f bs) ≡ []
    at true k next = absurd (cc k)
    at false k next = next k

-- a branch of another fork says nothing of this one
pub sides_other : (f : ℕ) (x : Branch) (c : List Branch) → (x.fork ≡ f → ⊥) → sides_of f (x ∷ c) ≡ sides_of f c
sides_other f x c n = ap (λ t. (if t then x.first ∷ [] else []) ++ sides_of f c) (ne_eqb x.fork f n)

module _ (p : Pipe) (below : (x : Branch) (c : List Branch) (s : ℕ) → Within p (x ∷ c) s → Home p c x.fork × (x.fork < s)) where
  -- no stage is inside its own fork
  pub outside_self : (f : ℕ) → is_inside p f f ≡ false
  outside_self f = not_inside p f f (λ x c h e. let k = (below x c f h).1 in absurd (omega arith))

  outside_branches : (x : Branch) (c : List Branch) (s : ℕ) → Within p (x ∷ c) s → list_any (λ b. b.fork == x.fork) c ≡ false
  outside_branches x c s h = ap (list_any (λ (b : Branch). b.fork == x.fork)) (sym (below x c s h).0) ∙ outside_self x.fork

  -- a stage stands in one branch of a fork at most
  pub sides_inside : (f : ℕ) (x : Branch) (c : List Branch) (s : ℕ) → Within p (x ∷ c) s → x.fork ≡ f → sides_of f (stage_at p s).branches ≡ x.first ∷ []
  sides_inside f x c s h e =
      ap (sides_of f) h.1 ∙ sides_append f h.0 (x ∷ c)
      ∙ ap₂ (λ a b. a ++ b) (none h.0 [] h.1)
      (ap₂ (λ t l. (if t then x.first ∷ [] else []) ++ l) (eq-eqb _ _ e)
      (sides_outside f c (subst (λ n. list_any (λ (b : Branch). b.fork == n) c ≡ false) e (outside_branches x c s h))))
    where
      none : (inner before : List Branch) → (stage_at p s).branches ≡ before ++ (inner ++ x ∷ c) → sides_of f inner ≡ []
      none [] before i = refl
      none (y ∷ ys) before i =
          sides_other f y ys
          (λ j.
          let here : Within p (y ∷ (ys ++ x ∷ c)) s = (before, i) in
          let k : Home p (ys ++ x ∷ c) y.fork = (below y (ys ++ x ∷ c) s here).0 in
          let l : x.fork < y.fork = (below x c y.fork (ys, k)).1 in
          absurd (omega arith))
          ∙ none ys (before ++ y ∷ []) (i ∙ sym (append_assoc before (y ∷ []) (ys ++ x ∷ c)))
