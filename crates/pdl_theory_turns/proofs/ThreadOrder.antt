-- The order of the live threads in the stage graph: each stands behind all older ones, also in the branches of forks.
use Rattle.std.proofs.Common.{◌≡◌, refl, sym, ap, ap₂, ◌∙◌, subst, ℕ, suc, ◌≤◌, ◌<◌, ◌⊎◌, inl, inr, Bool, true, false, ◌&&◌, ◌||◌, not, List, [], ◌∷◌, length, Option, Some, None, ◌==◌, nat_lt, cond, arith, le_refl, le_of_lt, ltb-true, ltb-false, lt-ltb}
use Rattle.std.proofs.lemmas.Bool.{eqb-true, eqb-false}
use Rattle.pdl_semantics.specs.Flat.{Pipe, Branch, list_all}
use Rattle.pdl_semantics.specs.Stages.{stage_at, is_inside, goes_to}
use Rattle.pdl_theory_turns.specs.Derived.{Act, can_enter, fork_clear}
use Rattle.pdl_theory_turns.proofs.Writes.{and_left, and_right}
use Rattle.pdl_theory_turns.proofs.TurnFacts.{Graph, Home, Within, Below, next_of}
use Rattle.pdl_theory_turns.proofs.Strays.{enter_next, step_below}
use Rattle.pdl_theory_turns.proofs.Nested.{same_head, same_tail, within_all, within_home, within_more, trunk_within, came}
use Rattle.pdl_theory_turns.specs.Graphs.{Way}
pub use Rattle.pdl_theory_turns.specs.Graphs.{Branches}

-- a thread in stage s stands behind an older one in stage b: in whatever branches both stand, each stage of just these that it has reached is one that the older one has left
abbrev pub Under : Pipe → ℕ → ℕ → Type 0
Under p b s = (c : List Branch) → Within p c b → Within p c s → Below p c b s

-- a thread in stage s stands behind older ones in all these stages
abbrev pub AllUnder : Pipe → List ℕ → ℕ → Type 0
AllUnder p [] s = Unit {0}
AllUnder p (b ∷ bs) s = Under p b s × AllUnder p bs s

-- a stage b of a thread becomes b'
abbrev pub Stepped : Pipe → Bool → ℕ → ℕ → Type 0
Stepped p moves b b' = ((b < length p.stages) × (moves ≡ false) × (b' ≡ b)) ⊎ ((env : List ℕ) × (moves ≡ true) × (b' ≡ next_of p b env) × (b < length p.stages))

-- the stages of the older threads before and after a cycle; behind them all stands the end of the pipe
abbrev pub Moves : Pipe → List Act → List ℕ → List ℕ → Type 0
Moves p [] [] bs' = ⊥
Moves p [] (b ∷ []) [] = ⊥
Moves p [] (b ∷ []) (b' ∷ []) = (b ≡ length p.stages) × (b' ≡ suc (length p.stages))
Moves p [] (b ∷ []) (b' ∷ c' ∷ bs') = ⊥
Moves p [] (b ∷ c ∷ bs) bs' = ⊥
Moves p (o ∷ os) [] bs' = ⊥
Moves p (o ∷ os) (b ∷ bs) [] = ⊥
Moves p (o ∷ os) (b ∷ bs) (b' ∷ bs') = (o.before.stage ≡ b) × Stepped p o.moves b b' × Moves p os bs bs'

irrefl : (a b : ℕ) → a ≡ b → a < b → ⊥
irrefl a b e h = omega arith

module _ (p : Pipe) (g : Graph p) (br : Branches p) where
  -- who is inside a branch is not behind its fork
  not_fork : (b s : ℕ) (x : Branch) → Under p b s → Within p (x ∷ (stage_at p b).branches) s → x.fork ≡ b → ⊥
  not_fork b s x u i e =
      let t = br.fork x (stage_at p b).branches s i in
      irrefl x.fork b e (u (stage_at p b).branches (within_home p _ b refl) (within_more p x _ s i) x.fork t.0 (le_of_lt t.1))

  -- the older one moves on: within the branches c it was before, or it enters them
  was_there : (c : List Branch) (b s : ℕ) (env : List ℕ) → b < length p.stages → Under p b s → Within p c (next_of p b env) → Within p c s → Within p c b
  was_there c b s env low u i j = at (came p br c b env low i)
    where
      at : Within p c b ⊎ ((x : Branch) × (c ≡ x ∷ (stage_at p b).branches) × (x.fork ≡ b) × Home p c (next_of p b env)) → Within p c b
      at (inl h) = h
      at (inr h) = absurd (not_fork b s h.0 u (subst (λ l. Within p l s) h.1 j) h.2)

  grows_one : (moves : Bool) (b b' s : ℕ) → Stepped p moves b b' → Under p b s → Under p b' s
  grows_one moves b b' s (inl h) u c i j r home k = subst (λ n. Under p n s) (sym h.2) u c i j r home k
  grows_one moves b b' s (inr h) u c i j r home k =
      let up : b < b' = subst (λ n. b < n) (sym h.2) (g.up b h.0 h.3) in
      let low : r < b = u c (was_there c b s h.0 h.3 u (subst (λ n. Within p c n) h.2 i) j) j r home k in
      omega arith

  step_one : (older : List Act) (moves : Bool) (b b' s : ℕ) (env : List ℕ) → Stepped p moves b b'
      → ((q : ℕ) → can_enter p older (Some q) ≡ true → (b ≡ q → b < b') × ((f : ℕ) → (stage_at p q).merges ≡ Some f → is_inside p f b ≡ false))
      → Under p b s → s < length p.stages → can_enter p older (goes_to (stage_at p s).next env) ≡ true → Under p b' (next_of p s env)
  step_one older moves b b' s env h enter u low can c i j = by (came p br c s env low j)
    where
      grows : Stepped p moves b b' → b ≤ b'
      grows (inl k) = let e = k.2 in omega arith
      grows (inr k) = subst (λ n. b ≤ n) (sym k.2) (le_of_lt (g.up b k.0 k.3))

      inside : Stepped p moves b b' → b ≤ length p.stages
      inside (inl k) = le_of_lt k.0
      inside (inr k) = le_of_lt k.3

      never : Stepped p moves b b' → b ≡ length p.stages → ⊥
      never (inl k) e = irrefl b _ e k.0
      never (inr k) e = irrefl b _ e k.3

      -- the older one was within these branches too, if the younger one was
      there : Within p c s → Stepped p moves b b' → Within p c b
      there k (inl l) = subst (λ n. Within p c n) l.2 i
      there k (inr l) = was_there c b s l.0 l.3 u (subst (λ n. Within p c n) l.2 i) k

      -- the younger one enters them from the fork, in their first stage
      enters : (x : Branch) → c ≡ x ∷ (stage_at p s).branches → x.fork ≡ s → Home p c (next_of p s env) → Below p c b' (next_of p s env)
      enters x is from home r at_home k =
          let low_r : next_of p s env ≤ r =
          subst (λ n. next_of p n env ≤ r) from
          (br.entry x (stage_at p s).branches env r (subst (λ n. n < length p.stages) (sym from) low)
          (subst (λ n. Home p (x ∷ (stage_at p s).branches) (next_of p n env)) (sym from) (subst (λ l. Home p l (next_of p s env)) is home))
          (subst (λ l. Within p l r) is (within_home p c r at_home))) in
          let y = behind h in
          omega arith
        where
          -- the older one has left the fork before
          left : Within p (stage_at p s).branches b → s < b
          left k = u (stage_at p s).branches k (within_home p _ s refl) s refl (le_refl s)

          first_here : Within p c b → next_of p s env ≤ b
          first_here k =
              subst (λ n. next_of p n env ≤ b) from
              (br.entry x (stage_at p s).branches env b (subst (λ n. n < length p.stages) (sym from) low)
              (subst (λ n. Home p (x ∷ (stage_at p s).branches) (next_of p n env)) (sym from) (subst (λ l. Home p l (next_of p s env)) is home))
              (subst (λ l. Within p l b) is k))

          in_pipe : next_of p s env < length p.stages
          in_pipe = at (nat_lt (next_of p s env) (length p.stages)) refl
            where
              at : (t : Bool) → nat_lt (next_of p s env) (length p.stages) ≡ t → next_of p s env < length p.stages
              at true e = ltb-true _ _ e
              at false e =
                  absurd
                  (trunk_within p x (stage_at p s).branches (next_of p s env) (g.trunk_past (next_of p s env) (ltb-false _ _ e))
                  (subst (λ l. Within p l (next_of p s env)) is j))

          entered : can_enter p older (Some (next_of p s env)) ≡ true
          entered = subst (λ o. can_enter p older o ≡ true) (g.leaves s env low ∙ ap (λ t. cond t (Some (next_of p s env)) None) (lt-ltb _ _ in_pipe)) can

          -- and a standing thread is not entered upon
          ahead : Within p c b → next_of p s env < b'
          ahead k = at (b == next_of p s env) refl
            where
              at : (t : Bool) → (b == next_of p s env) ≡ t → next_of p s env < b'
              at true e = subst (λ n. n < b') (eqb-true _ _ e) ((enter (next_of p s env) entered).0 (eqb-true _ _ e))
              at false e = let y = eqb-false _ _ e in let z = first_here k in let w = grows h in omega arith

          behind : Stepped p moves b b' → next_of p s env < b'
          behind (inl k) = ahead (subst (λ n. Within p c n) k.2 i)
          behind (inr k) = at (came p br c b k.0 k.3 (subst (λ n. Within p c n) k.2 i))
            where
              at : Within p c b ⊎ ((y : Branch) × (c ≡ y ∷ (stage_at p b).branches) × (y.fork ≡ b) × Home p c (next_of p b k.0)) → next_of p s env < b'
              at (inl l) = ahead l
              at (inr l) =
                  let same : b ≡ s = sym l.2 ∙ ap (λ (y : Branch). y.fork) (same_head l.0 x _ _ (sym l.1 ∙ is)) ∙ from in
                  let e : (stage_at p b).branches ≡ (stage_at p s).branches = same_tail l.0 x _ _ (sym l.1 ∙ is) in
                  absurd (irrefl s b (sym same) (left (within_home p _ b e)))

      by : Within p c s ⊎ ((x : Branch) × (c ≡ x ∷ (stage_at p s).branches) × (x.fork ≡ s) × Home p c (next_of p s env)) → Below p c b' (next_of p s env)
      by (inl k) = let t = there k h in step_below p g older c b b' s env t k (grows h) (inside h) (λ e. absurd (never h e)) enter (u c t k) low can
      by (inr k) = enters k.0 k.1 k.2 k.3

  -- the end of the pipe
  end_one : (s : ℕ) → Under p (length p.stages) s → Under p (suc (length p.stages)) s
  end_one s u [] i j r t k = let l : r < length p.stages = u [] (within_all p _) j r t k in omega arith
  end_one s u (x ∷ c) i j r t k = trunk_within p x c _ (g.trunk_past (suc (length p.stages)) (omega arith)) i

  end_step : (s : ℕ) (env : List ℕ) → s < length p.stages → Under p (suc (length p.stages)) (next_of p s env)
  end_step s env low [] i j r t k = let l : next_of p s env ≤ length p.stages = g.inside s env low in omega arith
  end_step s env low (x ∷ c) i j r t k = trunk_within p x c _ (g.trunk_past (suc (length p.stages)) (omega arith)) i

  -- a thread behind all older ones stays so where it stands
  pub all_grow : (os : List Act) (bs bs' : List ℕ) (s : ℕ) → Moves p os bs bs' → AllUnder p bs s → AllUnder p bs' s
  all_grow [] [] bs' s m u = absurd m
  all_grow [] (b ∷ []) [] s m u = absurd m
  all_grow [] (b ∷ []) (b' ∷ []) s m u = (subst (λ n. Under p n s) (sym m.1) (end_one s (subst (λ n. Under p n s) m.0 u.0)), tt)
  all_grow [] (b ∷ []) (b' ∷ c' ∷ bs') s m u = absurd m
  all_grow [] (b ∷ c ∷ bs) bs' s m u = absurd m
  all_grow (o ∷ os) [] bs' s m u = absurd m
  all_grow (o ∷ os) (b ∷ bs) [] s m u = absurd m
  all_grow (o ∷ os) (b ∷ bs) (b' ∷ bs') s m u = (grows_one o.moves b b' s m.1 u.0, all_grow os bs bs' s m.2 u.1)

  -- a thread behind all older ones is in one of the pipe's stages
  pub all_low : (os : List Act) (bs bs' : List ℕ) (s : ℕ) → Moves p os bs bs' → AllUnder p bs s → s < length p.stages
  all_low [] [] bs' s m u = absurd m
  all_low [] (b ∷ []) [] s m u = absurd m
  all_low [] (b ∷ []) (b' ∷ []) s m u = at (nat_lt s (length p.stages)) refl
    where
      at : (c : Bool) → nat_lt s (length p.stages) ≡ c → s < length p.stages
      at true e = ltb-true _ _ e
      at false e =
          absurd
          (irrefl (length p.stages) b (sym m.0)
          (u.0 [] (within_all p b) (within_all p s) (length p.stages) (g.trunk_past (length p.stages) (le_refl _)) (ltb-false _ _ e)))
  all_low [] (b ∷ []) (b' ∷ c' ∷ bs') s m u = absurd m
  all_low [] (b ∷ c ∷ bs) bs' s m u = absurd m
  all_low (o ∷ os) [] bs' s m u = absurd m
  all_low (o ∷ os) (b ∷ bs) [] s m u = absurd m
  all_low (o ∷ os) (b ∷ bs) (b' ∷ bs') s m u = all_low os bs bs' s m.2 u.1

  -- the tests of one older thread among all
  enter_all : (o : Act) (os : List Act) (q : Option ℕ) → can_enter p (o ∷ os) q ≡ true → can_enter p os q ≡ true
  enter_all o os None h = refl
  enter_all o os (Some q) h =
      ap₂ (λ x y. x && y) (and_right (not (o.before.stage == q) || o.moves) _ (and_left _ _ h))
      (clear (stage_at p q).merges (and_right ((not (o.before.stage == q) || o.moves) && list_all (λ a. not (a.before.stage == q) || a.moves) os) _ h))
    where
      clear : (m : Option ℕ) → fork_clear p (o ∷ os) m ≡ true → fork_clear p os m ≡ true
      clear None k = refl
      clear (Some f) k = and_right (not (is_inside p f o.before.stage)) _ k

  moved_on : (o : Act) (b b' : ℕ) → Stepped p o.moves b b' → o.moves ≡ true → b < b'
  moved_on o b b' (inl k) h = absurd (clash (sym k.1 ∙ h))
    where
      clash : false ≡ true → ⊥
      clash e = cc
  moved_on o b b' (inr k) h = subst (λ n. b < n) (sym k.2) (g.up b k.0 k.3)

  -- a thread behind all older ones that can enter its next stage is there behind all of them as they stand after the cycle
  pub all_step : (os : List Act) (bs bs' : List ℕ) (s : ℕ) (env : List ℕ) → Moves p os bs bs' → AllUnder p bs s
      → s < length p.stages → can_enter p os (goes_to (stage_at p s).next env) ≡ true → AllUnder p bs' (next_of p s env)
  all_step [] [] bs' s env m u low h = absurd m
  all_step [] (b ∷ []) [] s env m u low h = absurd m
  all_step [] (b ∷ []) (b' ∷ []) s env m u low h = (subst (λ n. Under p n (next_of p s env)) (sym m.1) (end_step s env low), tt)
  all_step [] (b ∷ []) (b' ∷ c' ∷ bs') s env m u low h = absurd m
  all_step [] (b ∷ c ∷ bs) bs' s env m u low h = absurd m
  all_step (o ∷ os) [] bs' s env m u low h = absurd m
  all_step (o ∷ os) (b ∷ bs) [] s env m u low h = absurd m
  all_step (o ∷ os) (b ∷ bs) (b' ∷ bs') s env m u low h = (
    step_one (o ∷ os) o.moves b b' s env m.1 (enter_next p os o b b' m.0 (moved_on o b b' m.1)) u.0 low h,
    all_step os bs bs' s env m.2 u.1 low (enter_all o os (goes_to (stage_at p s).next env) h),
  )

  -- nobody stands under a stage and next to it
  pub not_next : (b : ℕ) (env : List ℕ) → b < length p.stages → Under p b (next_of p b env) → ⊥
  not_next b env low u = at (br.way b env low)
    where
      up : b < next_of p b env
      up = g.up b env low

      -- the next stage stands in just these branches
      here : (c : List Branch) → Within p c b → Home p c (next_of p b env) → ⊥
      here c i j = let k : next_of p b env < b = u c i (within_home p c _ j) (next_of p b env) j (le_refl _) in omega arith

      at : Way p b (next_of p b env) → ⊥
      at (inl e) = here (stage_at p b).branches (within_home p _ b refl) e
      at (inr (inl e)) = not_fork b (next_of p b env) e.0 u (within_home p _ _ e.1) e.2
      at (inr (inr e)) = here (stage_at p (next_of p b env)).branches (e.0 ∷ [], e.1) refl

  -- a new thread stands behind all
  pub fresh_under : (b : ℕ) → 0 < b → Under p b 0
  fresh_under b h c i j r home k = omega arith
