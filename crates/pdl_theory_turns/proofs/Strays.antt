-- A thread that moves stays behind the older ones.
use Rattle.std.proofs.Common.{◌≡◌, ◌≢◌, refl, sym, ap, ◌∙◌, subst, ℕ, suc, ◌≤◌, ◌<◌, Bool, true, false, ◌&&◌, ◌||◌, not, List, [], ◌∷◌, length, Some, None, ◌==◌, nat_lt, nat_le, cond, arith, eq-eqb, le_refl, ltb-true, ltb-false, leb-true, leb-false}
use Rattle.std.proofs.lemmas.Bool.{eqb-true, eqb-false}
use Rattle.pdl_semantics.specs.Flat.{Branch, Pipe, list_all}
use Rattle.pdl_semantics.specs.Stages.{stage_at, is_inside, goes_to}
use Rattle.pdl_theory_turns.specs.Derived.{Act, befores, can_enter, fork_clear, barrier_clear}
use Rattle.pdl_theory_turns.proofs.Writes.{and_left, and_right}
use Rattle.pdl_theory_turns.proofs.TurnFacts.{Graph, Home, Within, Below, Trunk, next_of}

-- what is known of the older threads of a stray one
pub record Ahead (p : Pipe) (v : ℕ) (older : List Act) (bound bound' : ℕ) : Type 0 where
  pub low : bound ≤ v
  pub enter : (q : ℕ) → can_enter p older (Some q) ≡ true
      → (bound ≡ q → bound < bound') × ((f : ℕ) → (stage_at p q).merges ≡ Some f → is_inside p f bound ≡ false)
  pub grows : bound ≤ bound'
  pub unclear : (s : ℕ) → s < bound → Trunk p s → barrier_clear (Some v) s (befores older) ≡ false

-- what the first older thread tells of one that enters a stage
pub enter_next : (p : Pipe) (older : List Act) (a : Act) (s s' : ℕ)
    → a.before.stage ≡ s → (a.moves ≡ true → s < s') → (q : ℕ) → can_enter p (a ∷ older) (Some q) ≡ true
    → (s ≡ q → s < s') × ((f : ℕ) → (stage_at p q).merges ≡ Some f → is_inside p f s ≡ false)
enter_next p older a s s' is moved q h = (first, second)
  where
    tests : ((not (a.before.stage == q) || a.moves) && list_all (λ o. not (o.before.stage == q) || o.moves) older) ≡ true
    tests =
        and_left ((not (a.before.stage == q) || a.moves) && list_all (λ o. not (o.before.stage == q) || o.moves) older)
        (fork_clear p (a ∷ older) (stage_at p q).merges) h

    first : s ≡ q → s < s'
    first e =
        moved
        (subst (λ t. (not t || a.moves) ≡ true) (ap (λ n. n == q) (is ∙ e) ∙ eq-eqb q q refl)
        (and_left (not (a.before.stage == q) || a.moves) (list_all (λ o. not (o.before.stage == q) || o.moves) older) tests))

    second : (f : ℕ) → (stage_at p q).merges ≡ Some f → is_inside p f s ≡ false
    second f e =
        let k : (not (is_inside p f a.before.stage) && list_all (λ o. not (is_inside p f o.before.stage)) older) ≡ true =
        subst (λ m. fork_clear p (a ∷ older) m ≡ true) e
        (and_right ((not (a.before.stage == q) || a.moves) && list_all (λ o. not (o.before.stage == q) || o.moves) older)
        (fork_clear p (a ∷ older) (stage_at p q).merges) h) in
        subst (λ n. is_inside p f n ≡ false) is (flip (is_inside p f a.before.stage) (and_left (not (is_inside p f a.before.stage)) _ k))
      where
        flip : (b : Bool) → not b ≡ true → b ≡ false
        flip true i = absurd (cc i)
        flip false i = refl

-- a thread that moves inside some branches stays behind the older ones that stand there
pub step_below : (p : Pipe) (g : Graph p) (older : List Act) (c : List Branch) (bound bound' s : ℕ) (env : List ℕ)
    → Within p c bound → Within p c s → bound ≤ bound' → bound ≤ length p.stages → (bound ≡ length p.stages → bound < bound')
    → ((q : ℕ) → can_enter p older (Some q) ≡ true → (bound ≡ q → bound < bound') × ((f : ℕ) → (stage_at p q).merges ≡ Some f → is_inside p f bound ≡ false))
    → Below p c bound s → s < length p.stages → can_enter p older (goes_to (stage_at p s).next env) ≡ true
    → Below p c bound' (next_of p s env)
step_below p g older c bound bound' s env there here grows fits top enter b low h r home up = at (nat_le r s) refl
  where
    far : r < bound → r < bound'
    far i = omega arith

    at_next : r ≡ next_of p s env → next_of p s env < bound'
    at_next e = by_end (nat_lt (next_of p s env) (length p.stages)) refl
      where
        t : Home p c (next_of p s env)
        t = subst (λ n. Home p c n) e home

        by_end : (d : Bool) → nat_lt (next_of p s env) (length p.stages) ≡ d → next_of p s env < bound'
        by_end false i = last (g.last s env low (exact (g.inside s env low) (ltb-false _ _ i)))
          where
            exact : next_of p s env ≤ length p.stages → length p.stages ≤ next_of p s env → next_of p s env ≡ length p.stages
            exact u v = omega arith

            last : Trunk p s × (suc s ≡ length p.stages) → next_of p s env < bound'
            last u = whole (b s (subst (λ l. Home p l s) none u.0) (le_refl s)) u.1 (g.inside s env low)
              where
                none : [] ≡ c
                none = sym (g.trunk_past (next_of p s env) (ltb-false _ _ i)) ∙ t

                whole : s < bound → suc s ≡ length p.stages → next_of p s env ≤ length p.stages → next_of p s env < bound'
                whole x y z = let k : bound < bound' = top (omega arith) in omega arith
        by_end true i = compare (nat_le bound (next_of p s env)) refl
          where
            entered : can_enter p older (Some (next_of p s env)) ≡ true
            entered = subst (λ o. can_enter p older o ≡ true) (g.leaves s env low ∙ ap (λ c. cond c (Some (next_of p s env)) None) i) h

            compare : (c : Bool) → nat_le bound (next_of p s env) ≡ c → next_of p s env < bound'
            compare false k = let x : next_of p s env < bound = leb-false _ _ k in omega arith
            compare true k = same (bound == next_of p s env) refl
              where
                same : (c : Bool) → (bound == next_of p s env) ≡ c → next_of p s env < bound'
                same true y = subst (λ n. n < bound') (eqb-true _ _ y) ((enter (next_of p s env) entered).0 (eqb-true _ _ y))
                same false y = absurd (clash (g.between c s env bound low here t (ltb-true _ _ i) b there (strict (leb-true _ _ k) (eqb-false _ _ y))))
                  where
                    strict : bound ≤ next_of p s env → bound ≢ next_of p s env → bound < next_of p s env
                    strict u v = omega arith

                    clash : (f : ℕ) × ((stage_at p (next_of p s env)).merges ≡ Some f) × (is_inside p f bound ≡ true) → ⊥
                    clash u = contra (sym u.2 ∙ (enter (next_of p s env) entered).1 u.0 u.1)
                      where
                        contra : true ≡ false → ⊥
                        contra w = cc

    at : (d : Bool) → nat_le r s ≡ d → r < bound'
    at true e = far (b r home (leb-true _ _ e))
    at false e = let j : r ≡ next_of p s env = g.jump c s env r low here home (leb-false _ _ e) up in subst (λ n. n < bound') (sym j) (at_next j)
