-- Where a stage stands in the graph of a shape: what its fork is, in each branch around it, and where it leads.
use Rattle.std.proofs.Common.{◌≡◌, refl, sym, ap, ap₂, ◌∙◌, subst, ℕ, zero, suc, ◌+◌, ◌≤◌, ◌<◌, ◌⊎◌, inl, inr, Bool, true, false, List, [], ◌∷◌, ◌++◌, length, append_assoc, length-append, Option, Some, None, unwrap_or, arith, cond, slice_index_or, le_refl}
use Rattle.std.proofs.Math.Seq.{get_or-append_seam}
use Rattle.std.proofs.lemmas.Bool.{cases_lt}
use Rattle.pdl_semantics.specs.Flat
use Rattle.pdl_semantics.specs.Flatten.{entry, side}
use Rattle.pdl_semantics.specs.Stages.{last_stage, stage_at}
use Rattle.pdl_theory_turns.specs.Graphs.{Home, Within, Trunk}
use Rattle.pdl_theory_turns.proofs.Nested.{within_home}
use Rattle.pdl_source_stages.proofs.Shapes.{Shape, Last, Cut, Fork, Side, Straight, Runs, size, long, stage, merge_at, side_leads, leads_on, after, side_after}

-- each fork has a branch stage
abbrev mutual
  -- of a shape
  pub Proper : Shape → Type 0
  Proper Last = Unit {0}
  Proper (Cut rest) = Proper rest
  Proper (Fork x a b rest) = (0 < long a + long b) × ProperSide a × ProperSide b × Proper rest

  -- of a branch
  pub ProperSide : Side → Type 0
  ProperSide Straight = Unit {0}
  ProperSide (Runs sh) = Proper sh

-- after which stage a branch begins, and how many stages it has
abbrev pub start : ℕ → ℕ → Bool → ℕ
start f a first = cond first f (f + a)

-- how many stages this branch of the two has
abbrev pub many : ℕ → ℕ → Bool → ℕ
many a b first = cond first a b

-- THE LIST OF STAGES

-- these are the stages from k on
abbrev pub Rest : Flat.Pipe → ℕ → List Flat.Stage → Type 0
Rest p k xs = (front : List Flat.Stage) × (p.stages ≡ front ++ xs) × (length front ≡ k)

rest_head : (p : Flat.Pipe) (k : ℕ) (x : Flat.Stage) (xs : List Flat.Stage) → Rest p k (x ∷ xs) → stage_at p k ≡ x
rest_head p k x xs h =
    ap₂ (λ l i. slice_index_or l i last_stage) h.1 (sym h.2) ∙ get_or-append_seam h.0 x xs last_stage

rest_tail : (p : Flat.Pipe) (k : ℕ) (x : Flat.Stage) (xs : List Flat.Stage) → Rest p k (x ∷ xs) → Rest p (suc k) xs
rest_tail p k x xs h = (
  h.0 ++ x ∷ [],
  h.1 ∙ sym (append_assoc h.0 (x ∷ []) xs),
  let e = h.2 in let f = length-append h.0 (x ∷ []) in let g : length (x ∷ []) ≡ 1 = refl in omega arith,
)

-- GROUPS

abbrev mutual
  -- the stages from k on are those of this shape, in these branches
  pub Groups : Flat.Pipe → List Flat.Branch → Flat.Next → ℕ → Option ℕ → Shape → Type 0
  Groups p c exit k merges Last = stage_at p k ≡ stage exit c merges
  Groups p c exit k merges (Cut rest) = (stage_at p k ≡ stage (Flat.Goes (suc k)) c merges) × Groups p c exit (suc k) None rest
  Groups p c exit k merges (Fork x a b rest) =
      (stage_at p k ≡ stage (leads_on exit k (Fork x a b rest)) c merges)
      × (0 < long a + long b)
      × Sides p (side k true ∷ c) (Flat.Goes (merge_at k (long a) (long b))) k a
      × Sides p (side k false ∷ c) (Flat.Goes (merge_at k (long a) (long b))) (k + long a) b
      × Groups p c exit (merge_at k (long a) (long b)) (Some k) rest

  -- the stages after k are those of this branch
  pub Sides : Flat.Pipe → List Flat.Branch → Flat.Next → ℕ → Side → Type 0
  Sides p c exit k Straight = Unit {0}
  Sides p c exit k (Runs sh) = Groups p c exit (suc k) None sh

mutual
  -- where the list of stages goes on with those of a shape, they are its stages
  pub groups : (p : Flat.Pipe) (c : List Flat.Branch) (exit : Flat.Next) (k : ℕ) (merges : Option ℕ) (sh : Shape) (ys : List Flat.Stage)
      → Proper sh → Rest p k (stage (leads_on exit k sh) c merges ∷ (after c exit k sh ++ ys))
      → Groups p c exit k merges sh × Rest p (k + size sh) ys
  groups p c exit k merges Last ys proper h = (rest_head p k _ _ h, subst (λ n. Rest p n ys) (let e : suc k ≡ k + 1 = omega arith in e) (rest_tail p k _ _ h))
  groups p c exit k merges (Cut rest) ys proper h =
      let more = groups p c exit (suc k) None rest ys proper (rest_tail p k _ _ h) in
      ((rest_head p k _ _ h, more.0), subst (λ n. Rest p n ys) (let e : suc k + size rest ≡ k + suc (size rest) = omega arith in e) more.1)
  groups p c exit k merges (Fork x a b rest) ys proper h =
      let m = merge_at k (long a) (long b) in
      let one' = side_after (side k true ∷ c) (Flat.Goes m) k a in
      let two' = side_after (side k false ∷ c) (Flat.Goes m) (k + long a) b in
      let third = stage (leads_on exit m rest) c (Some k) ∷ after c exit m rest in
      let tail = subst (λ l. Rest p (suc k) l) (append_assoc (one' ++ two') third ys ∙ append_assoc one' two' (third ++ ys)) (rest_tail p k _ _ h) in
      let one = sides p (side k true ∷ c) (Flat.Goes m) k a (two' ++ (third ++ ys)) proper.1 tail in
      let two = sides p (side k false ∷ c) (Flat.Goes m) (k + long a) b (third ++ ys) proper.2 one.1 in
      let more = groups p c exit m (Some k) rest ys proper.3 two.1 in (
        (rest_head p k _ _ h, proper.0, one.0, two.0, more.0),
        subst (λ n. Rest p n ys)
            (let e : merge_at k (long a) (long b) + size rest ≡ k + suc (long a + long b + size rest) = omega arith in e) more.1,
      )

  -- and with those of a branch
  pub sides : (p : Flat.Pipe) (c : List Flat.Branch) (exit : Flat.Next) (k : ℕ) (sd : Side) (ys : List Flat.Stage)
      → ProperSide sd → Rest p (suc k) (side_after c exit k sd ++ ys) → Sides p c exit k sd × Rest p (suc (k + long sd)) ys
  sides p c exit k Straight ys proper h = (tt, subst (λ n. Rest p n ys) (let e : suc k ≡ suc (k + 0) = omega arith in e) h)
  sides p c exit k (Runs sh) ys proper h =
      let more = groups p c exit (suc k) None sh ys proper h in
      (more.0, subst (λ n. Rest p n ys) (let e : suc k + size sh ≡ suc (k + size sh) = omega arith in e) more.1)

-- the first stage of a shape stands in just its branches
pub group_home : (p : Flat.Pipe) (c : List Flat.Branch) (exit : Flat.Next) (k : ℕ) (merges : Option ℕ) (sh : Shape) → Groups p c exit k merges sh → Home p c k
group_home p c exit k merges Last g = ap (λ (x : Flat.Stage). x.branches) g
group_home p c exit k merges (Cut rest) g = ap (λ (x : Flat.Stage). x.branches) g.0
group_home p c exit k merges (Fork x a b rest) g = ap (λ (x : Flat.Stage). x.branches) g.0

-- and merges what is told
pub group_merge : (p : Flat.Pipe) (c : List Flat.Branch) (exit : Flat.Next) (k : ℕ) (merges : Option ℕ) (sh : Shape)
    → Groups p c exit k merges sh → (stage_at p k).merges ≡ merges
group_merge p c exit k merges Last g = ap (λ (x : Flat.Stage). x.merges) g
group_merge p c exit k merges (Cut rest) g = ap (λ (x : Flat.Stage). x.merges) g.0
group_merge p c exit k merges (Fork x a b rest) g = ap (λ (x : Flat.Stage). x.merges) g.0

some_size : (sh : Shape) → 0 < size sh
some_size Last = omega arith
some_size (Cut rest) = omega arith
some_size (Fork x a b rest) = omega arith

more_within : (p : Flat.Pipe) (c d : List Flat.Branch) (x : Flat.Branch) (r : ℕ) → d ≡ x ∷ c → Within p d r → Within p c r
more_within p c d x r e h = (h.0 ++ x ∷ [], h.1 ∙ ap (λ l. h.0 ++ l) e ∙ sym (append_assoc h.0 (x ∷ []) c))

-- all stages of a shape stand within its branches
mutual
  -- those of a shape
  pub group_within : (p : Flat.Pipe) (c : List Flat.Branch) (exit : Flat.Next) (k : ℕ) (merges : Option ℕ) (sh : Shape)
      → Groups p c exit k merges sh → (r : ℕ) → k ≤ r → r < k + size sh → Within p c r
  group_within p c exit k merges Last g r low high =
      subst (Within p c) (let e : k ≡ r = omega arith in e) (within_home p c k (group_home p c exit k merges Last g))
  group_within p c exit k merges (Cut rest) g r low high = at (cases_lt k r) (λ l. group_within p c exit (suc k) None rest g.1 r l (omega arith))
    where
      at : (k < r) ⊎ (r ≤ k) → (suc k ≤ r → Within p c r) → Within p c r
      at (inl l) more = more (omega arith)
      at (inr l) more = subst (Within p c) (let e : k ≡ r = omega arith in e) (within_home p c k (group_home p c exit k merges (Cut rest) g))
  group_within p c exit k merges (Fork x a b rest) g r low high =
      at (cases_lt k r) (cases_lt (k + long a) r) (cases_lt r (merge_at k (long a) (long b)))
      (λ l m. more_within p c (side k true ∷ c) (side k true) r refl (side_within p (side k true ∷ c) (Flat.Goes (merge_at k (long a) (long b))) k a g.2 r l m))
      (λ l m. more_within p c (side k false ∷ c) (side k false) r refl
      (side_within p (side k false ∷ c) (Flat.Goes (merge_at k (long a) (long b))) (k + long a) b g.3 r l m))
      (λ l. group_within p c exit (merge_at k (long a) (long b)) (Some k) rest g.4 r l (omega arith))
    where
      at : (k < r) ⊎ (r ≤ k) → (k + long a < r) ⊎ (r ≤ k + long a) → (r < merge_at k (long a) (long b)) ⊎ (merge_at k (long a) (long b) ≤ r)
          → (k < r → r ≤ k + long a → Within p c r) → (k + long a < r → r ≤ k + long a + long b → Within p c r)
          → (merge_at k (long a) (long b) ≤ r → Within p c r) → Within p c r
      at (inr l) m n one two three =
          subst (Within p c) (let e : k ≡ r = omega arith in e) (within_home p c k (group_home p c exit k merges (Fork x a b rest) g))
      at (inl l) (inr m) n one two three = one l m
      at (inl l) (inl m) (inl n) one two three = two m (omega arith)
      at (inl l) (inl m) (inr n) one two three = three n

  -- and those of a branch
  pub side_within : (p : Flat.Pipe) (c : List Flat.Branch) (exit : Flat.Next) (k : ℕ) (sd : Side)
      → Sides p c exit k sd → (r : ℕ) → k < r → r ≤ k + long sd → Within p c r
  side_within p c exit k Straight g r low high = absurd (omega arith)
  side_within p c exit k (Runs sh) g r low high = group_within p c exit (suc k) None sh g r (omega arith) (omega arith)

-- SPOTS

-- where a branch of so many stages after stage k is entered
abbrev pub enters : ℕ → ℕ → ℕ → ℕ
enters k m zero = m
enters k m (suc n) = suc k

-- stage f forks on x, with a and b stages in its branches
pub record Forked (p : Flat.Pipe) (c : List Flat.Branch) (f x a b : ℕ) : Type 0 where
  pub home : Home p c f
  pub next : (stage_at p f).next ≡ Flat.Forks x (enters f (merge_at f a b) a) (enters (f + a) (merge_at f a b) b)
  pub some : 0 < a + b
  pub within : (first : Bool) (r : ℕ) → start f a first < r → r ≤ start f a first + many a b first → Within p (side f first ∷ c) r
  pub begins : (first : Bool) → 0 < many a b first → Home p (side f first ∷ c) (suc (start f a first)) × ((stage_at p (suc (start f a first))).merges ≡ None)
  pub merge_home : Home p c (merge_at f a b)
  pub merge : (stage_at p (merge_at f a b)).merges ≡ Some f
  pub inside : merge_at f a b < length p.stages

-- the last stage; one that leads to the next; a fork; or the last one of a branch
pub data Spot (p : Flat.Pipe) (s : ℕ) : Type 0 where
  Final : (stage_at p s).next ≡ Flat.Ends → Trunk p s → suc s ≡ length p.stages → Spot p s
  Line : (c : List Flat.Branch)
      → (stage_at p s).next ≡ Flat.Goes (suc s) → Home p c s → Home p c (suc s) → (stage_at p (suc s)).merges ≡ None
      → suc s < length p.stages → Spot p s
  AtFork : (c : List Flat.Branch) (x a b : ℕ) → Forked p c s x a b → Spot p s
  Leaves : (c : List Flat.Branch) (f x a b : ℕ) (first : Bool)
      → Forked p c f x a b → Home p (side f first ∷ c) s → s ≡ start f a first + many a b first
      → (stage_at p s).next ≡ Flat.Goes (merge_at f a b) → Spot p s

-- the fork of a branch around a stage
pub record Around (p : Flat.Pipe) (y : Flat.Branch) (c : List Flat.Branch) (s : ℕ) : Type 0 where
  pub x : ℕ
  pub a : ℕ
  pub b : ℕ
  pub fork : Forked p c y.fork x a b
  pub low : start y.fork a y.first < s
  pub high : s ≤ start y.fork a y.first + many a b y.first

-- of each branch of these
abbrev pub AllAround : Flat.Pipe → List Flat.Branch → ℕ → Type 0
AllAround p [] s = Unit {0}
AllAround p (y ∷ c) s = Around p y c s × AllAround p c s

-- a stage is the merge of this fork
abbrev pub Merges : Flat.Pipe → ℕ → ℕ → Type 0
Merges p f s = (c : List Flat.Branch) × (x : ℕ) × (a : ℕ) × (b : ℕ) × Forked p c f x a b × (s ≡ merge_at f a b)

-- what is shown of a stage: where it stands, each fork around it, and which fork it merges
pub record Known (p : Flat.Pipe) (s : ℕ) : Type 0 where
  pub spot : Spot p s
  pub around : AllAround p (stage_at p s).branches s
  pub merges : (f : ℕ) → (stage_at p s).merges ≡ Some f → Merges p f s

none_some : {f : ℕ} → None ≡ Some f → ⊥
none_some e = cc

entry_side : (exit k m : ℕ) (sd : Side) → exit ≡ m → entry (side_leads (Flat.Goes exit) k sd) ≡ enters k m (long sd)
entry_side exit k m Straight e = e
entry_side exit k m (Runs sh) e = at (size sh) (some_size sh)
  where
    at : (n : ℕ) → 0 < n → suc k ≡ enters k m n
    at zero l = absurd (omega arith)
    at (suc n) l = refl

-- what is known of a fork in a shape
pub group_fork : (p : Flat.Pipe) (c : List Flat.Branch) (exit : Flat.Next) (k : ℕ) (merges : Option ℕ) (x : ℕ) (a b : Side) (rest : Shape)
    → Groups p c exit k merges (Fork x a b rest) → k + size (Fork x a b rest) ≤ length p.stages → Forked p c k x (long a) (long b)
group_fork p c exit k merges x a b rest g inside = record {
  home = ap (λ (y : Flat.Stage). y.branches) g.0;
  next =
      ap (λ (y : Flat.Stage). y.next) g.0
      ∙ ap₂ (λ i j. Flat.Forks x i j) (entry_side (merge_at k (long a) (long b)) k (merge_at k (long a) (long b)) a refl)
      (entry_side (merge_at k (long a) (long b)) (k + long a) (merge_at k (long a) (long b)) b refl);
  some = g.1;
  within = ins;
  begins = firsts;
  merge_home = group_home p c exit (merge_at k (long a) (long b)) (Some k) rest g.4;
  merge = group_merge p c exit (merge_at k (long a) (long b)) (Some k) rest g.4;
  inside = let n = some_size rest in omega arith;
}
  where
    ins : (first : Bool) (r : ℕ) → start k (long a) first < r → r ≤ start k (long a) first + many (long a) (long b) first → Within p (side k first ∷ c) r
    ins true r low high = side_within p (side k true ∷ c) (Flat.Goes (merge_at k (long a) (long b))) k a g.2 r low high
    ins false r low high = side_within p (side k false ∷ c) (Flat.Goes (merge_at k (long a) (long b))) (k + long a) b g.3 r low high

    one : (d : List Flat.Branch) (m : Flat.Next) (j : ℕ) (sd : Side) → Sides p d m j sd → 0 < long sd → Home p d (suc j) × ((stage_at p (suc j)).merges ≡ None)
    one d m j Straight h l = absurd (omega arith)
    one d m j (Runs sh) h l = (group_home p d m (suc j) None sh h, group_merge p d m (suc j) None sh h)

    firsts : (first : Bool)
        → 0 < many (long a) (long b) first
        → Home p (side k first ∷ c) (suc (start k (long a) first)) × ((stage_at p (suc (start k (long a) first))).merges ≡ None)
    firsts true l = one (side k true ∷ c) (Flat.Goes (merge_at k (long a) (long b))) k a g.2 l
    firsts false l = one (side k false ∷ c) (Flat.Goes (merge_at k (long a) (long b))) (k + long a) b g.3 l

-- each stage of a shape, where the last one is known, and the forks around the shape
mutual
  -- of a shape
  pub known : (p : Flat.Pipe) (c : List Flat.Branch) (exit : Flat.Next) (k : ℕ) (merges : Option ℕ) (sh : Shape)
      → Groups p c exit k merges sh → k + size sh ≤ length p.stages
      → ((n : ℕ) → suc n ≡ k + size sh → (stage_at p n).next ≡ exit → Home p c n → Spot p n) → ((n : ℕ) → k ≤ n → n < k + size sh → AllAround p c n)
      → ((f : ℕ) → merges ≡ Some f → Merges p f k) → (s : ℕ) → k ≤ s → s < k + size sh → Known p s
  known p c exit k merges Last g inside last around merge s low high =
      subst (Known p) (let e : k ≡ s = omega arith in e)
      (record {
        spot = last k (omega arith) (ap (λ (x : Flat.Stage). x.next) g) (group_home p c exit k merges Last g);
        around = subst (λ l. AllAround p l k) (sym (group_home p c exit k merges Last g)) (around k (le_refl k) (omega arith));
        merges = λ f e. merge f (sym (group_merge p c exit k merges Last g) ∙ e);
      })
  known p c exit k merges (Cut rest) g inside last around merge s low high =
      at (cases_lt k s)
      (λ l. known p c exit (suc k) None rest g.1 (omega arith) (λ n e. last n (omega arith)) (λ n i j. around n (omega arith) (omega arith))
      (λ f e. absurd (none_some e)) s l (omega arith))
    where
      at : (k < s) ⊎ (s ≤ k) → (suc k ≤ s → Known p s) → Known p s
      at (inl l) more = more (omega arith)
      at (inr l) more =
          subst (Known p) (let e : k ≡ s = omega arith in e)
          (record {
            spot =
                Line c (ap (λ (x : Flat.Stage). x.next) g.0) (ap (λ (x : Flat.Stage). x.branches) g.0) (group_home p c exit (suc k) None rest g.1)
                (group_merge p c exit (suc k) None rest g.1) (let n = some_size rest in omega arith);
            around = subst (λ l. AllAround p l k) (sym (ap (λ (x : Flat.Stage). x.branches) g.0)) (around k (le_refl k) (omega arith));
            merges = λ f e. merge f (sym (group_merge p c exit k merges (Cut rest) g) ∙ e);
          })
  known p c exit k merges (Fork x a b rest) g inside last around merge s low high =
      at (cases_lt k s) (cases_lt (k + long a) s) (cases_lt s (merge_at k (long a) (long b)))
      (λ l m. known_side p c k x (long a) (long b) true fork a k refl g.2 (omega arith) (λ n i j. around n (omega arith) (omega arith)) s l m refl)
      (λ l m. known_side p c k x (long a) (long b) false fork b (k + long a) refl g.3 (omega arith) (λ n i j. around n (omega arith) (omega arith)) s l m refl)
      (λ l. known p c exit (merge_at k (long a) (long b)) (Some k) rest g.4 (omega arith) (λ n e. last n (omega arith))
      (λ n i j. around n (omega arith) (omega arith))
      (λ f e. subst (λ n. Merges p n (merge_at k (long a) (long b))) (some_is k f e) (c, x, long a, long b, fork, refl)) s l (omega arith))
    where
      some_is : (m n : ℕ) → Some m ≡ Some n → m ≡ n
      some_is m n e = ap (λ o. unwrap_or o 0) e

      fork : Forked p c k x (long a) (long b)
      fork = group_fork p c exit k merges x a b rest g inside

      at : (k < s) ⊎ (s ≤ k) → (k + long a < s) ⊎ (s ≤ k + long a) → (s < merge_at k (long a) (long b)) ⊎ (merge_at k (long a) (long b) ≤ s)
          → (k < s → s ≤ k + long a → Known p s) → (k + long a < s → s ≤ k + long a + long b → Known p s)
          → (merge_at k (long a) (long b) ≤ s → Known p s) → Known p s
      at (inr l) m n one two three =
          subst (Known p) (let e : k ≡ s = omega arith in e)
          (record {
            spot = AtFork c x (long a) (long b) fork;
            around = subst (λ l. AllAround p l k) (sym fork.home)
                (around k (le_refl k) (omega arith));
            merges = λ f e. merge f (sym (group_merge p c exit k merges (Fork x a b rest) g) ∙ e);
          })
      at (inl l) (inr m) n one two three = one l m
      at (inl l) (inl m) (inl n) one two three = two m (omega arith)
      at (inl l) (inl m) (inr n) one two three = three n

  known_side : (p : Flat.Pipe) (c : List Flat.Branch) (f x a b : ℕ) (first : Bool)
      → Forked p c f x a b → (sd : Side) (k : ℕ) → k ≡ start f a first → Sides p (side f first ∷ c) (Flat.Goes (merge_at f a b)) k sd
      → suc (k + long sd) ≤ length p.stages
      → ((n : ℕ) → k < n → n ≤ k + long sd → AllAround p c n) → (s : ℕ) → k < s → s ≤ k + long sd → long sd ≡ many a b first → Known p s
  known_side p c f x a b first fork Straight k at_start g inside around s low high is = absurd (omega arith)
  known_side p c f x a b first fork (Runs sh) k at_start g inside around s low high is =
      known p (side f first ∷ c) (Flat.Goes (merge_at f a b)) (suc k) None sh g (omega arith)
      (λ n e i h. Leaves c f x a b first fork h (omega arith) i)
      (λ n i j. (record { x = x; a = a; b = b; fork = fork; low = omega arith; high = omega arith }, around n (omega arith) (omega arith)))
      (λ h e. absurd (none_some e))
      s (omega arith) (omega arith)
