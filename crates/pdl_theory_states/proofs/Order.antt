-- Live threads stand in order: the older one in the greater stage, or in the other branch of a fork.
use Rattle.std.proofs.Common.{◌≡◌, ◌≢◌, refl, sym, ap, ap₂, ◌∙◌, subst, ℕ, zero, suc, length, ◌≤◌, ◌<◌, ◌⊎◌, inl, inr, Bool, true, false, ◌&&◌, ◌||◌, not, List, [], ◌∷◌, ◌++◌, ◌==◌, nat_lt, if◌then◌else◌, arith, eq-eqb, ltb-true, ltb-false, lt-ltb, le_refl, append-nil, append_assoc, length-append}
use Rattle.std.proofs.lemmas.Bool.{eqb-true, eqb-false, or_right, or_left}
use Rattle.pdl_semantics.specs.Flat.{Pipe, Branch}
use Rattle.pdl_semantics.specs.Stages.{list_any, stage_at, sides_of}
use Rattle.pdl_semantics.specs.Sound.{all_from, other_branch, are_apart, sides_in, same_sides}
use Rattle.pdl_semantics.specs.Sound
use Rattle.pdl_theory_simulation.proofs.FlowFacts.{Home, Within, Trunk, Ways}
use Rattle.pdl_theory_turns.proofs.Nested.{trunk_within, within_home, within_more, came_from_way}
use Rattle.pdl_theory_simulation.proofs.Stretches.{Behind, fork_left}
use Rattle.pdl_theory_simulation.proofs.Seats.{Live}
use Rattle.pdl_theory_simulation.proofs.ThreadFacts.{sides}
use Rattle.pdl_theory_states.proofs.OldestFirst.{told, oldest_first}
use Rattle.pdl_theory_states.proofs.Trails.{Trail}

-- the last of some branches
last_of : (y : Branch) (ys : List Branch) → (init : List Branch) × (z : Branch) × (y ∷ ys ≡ init ++ z ∷ [])
last_of y [] = ([], y, refl)
last_of y (x ∷ xs) = let r = last_of x xs in (y ∷ r.0, r.1, ap (λ l. y ∷ l) r.2)

longer : (init : List Branch) (z : Branch) → length (init ++ z ∷ []) ≡ suc (length init)
longer [] z = refl
longer (x ∷ xs) z = ap suc (longer xs z)

no_cycle : (x : Branch) (c inner : List Branch) → c ≡ inner ++ x ∷ c → ⊥
no_cycle x c inner e =
    let i : length c ≡ length (inner ++ x ∷ c) = ap length e in
    let j = length-append inner (x ∷ c) in let k : length (x ∷ c) ≡ suc (length c) = refl in omega arith

any_of : (test : Branch → Bool) (inner : List Branch) (z : Branch) (c : List Branch) → test z ≡ true → list_any test (inner ++ z ∷ c) ≡ true
any_of test [] z c h = ap (λ b. b || list_any test c) h
any_of test (y ∷ ys) z c h = or_right (test y) _ (any_of test ys z c h)

module _ (p : Pipe) (g : Ways p) where
  -- between a fork and a stage in one of its branches stands no stage of the branches around the fork
  none_between : (env : List ℕ) (s : ℕ) (trail : List ℕ) (x : Branch) (c : List Branch) (r : ℕ) → Trail p env s trail
      → Within p (x ∷ c) s → Home p c r → x.fork < r → r ≤ s → ⊥
  none_between env s [] x c r h b t low up = trunk_within p x c s (subst (λ n. Trunk p n) (sym h) g.trunk_start) b
  none_between env s (q ∷ qs) x c r h b t low up =
      at (nat_lt q r) refl (came_from_way p x c q s (g.way q s (env, h.0, h.1)) b) (λ e i. none_between env q qs x c r h.2 e t low i)
    where
      around : (x.fork ≡ q) ⊎ Within p (x ∷ c) q → Within p c q
      around (inl i) = within_home p c q (subst (λ n. Home p c n) i (g.fork_below x c s b).0)
      around (inr i) = within_more p x c q i

      at : (d : Bool) → nat_lt q r ≡ d
          → (x.fork ≡ q) ⊎ Within p (x ∷ c) q → (Within p (x ∷ c) q → r ≤ q → ⊥) → ⊥
      at true e i f =
          no_cycle x c b.0 (sym (ap (λ n. (stage_at p n).branches) (sym (g.jump c q s r (env, h.0, h.1) (around i) t (ltb-true _ _ e) up)) ∙ t) ∙ b.1)
      at false e (inl i) f = absurd (let k = ltb-false _ _ e in omega arith)
      at false e (inr i) f = f i (ltb-false _ _ e)

  -- a younger one behind an older one
  pub behind_is : (older younger : Sound.Live) (env env' : List ℕ) (trail trail' : List ℕ)
      → Trail p env older.stage trail → Trail p env' younger.stage trail' → Behind p younger.stage older.stage
      → Sound.is_behind p older younger ≡ true
  behind_is older younger env env' trail trail' t t' h =
      from (suc (length (stage_at p younger.stage).branches)) [] (stage_at p younger.stage).branches (stage_at p older.stage).branches (sym (append-nil _))
      (sym (append-nil _)) (omega arith)
    where
      less : younger.stage < older.stage
          → Sound.is_behind p older younger ≡ true
      less i = or_left (nat_lt younger.stage older.stage) _ (lt-ltb _ _ i)

      unless : (older.stage ≤ younger.stage → ⊥) → younger.stage < older.stage
      unless f = by (nat_lt younger.stage older.stage) refl
        where
          by : (b : Bool) → nat_lt younger.stage older.stage ≡ b → younger.stage < older.stage
          by true e = ltb-true _ _ e
          by false e = absurd (f (ltb-false _ _ e))

      same : (x y : Branch) → x.fork ≡ y.fork → x.first ≡ y.first → x ≡ y
      same x y e f = λ i. record { fork = e i; first = f i }

      alike : (a b : Bool) → (a ≡ b) ⊎ ((if b then not a else a) ≡ true)
      alike true true = inl refl
      alike true false = inr refl
      alike false true = inr refl
      alike false false = inl refl

      -- in branches of two forks that stand in the branches c
      apart : (c : List Branch) (x y : Branch) → Within p (x ∷ c) younger.stage → Within p (y ∷ c) older.stage
          → x.fork ≢ y.fork → older.stage ≤ younger.stage → ⊥
      apart c x y e f n low = by (nat_lt x.fork y.fork) refl
        where
          fx : Home p c x.fork × (x.fork < younger.stage)
          fx = g.fork_below x c younger.stage e

          fy : Home p c y.fork × (y.fork < older.stage)
          fy = g.fork_below y c older.stage f

          under : x.fork < older.stage
          under = fork_left p g x c younger.stage older.stage h e (within_more p y c older.stage f)

          by : (b : Bool) → nat_lt x.fork y.fork ≡ b → ⊥
          by true i = none_between env' younger.stage trail' x c y.fork t' e fy.0 (ltb-true _ _ i) (let j = fy.1 in omega arith)
          by false i = none_between env older.stage trail y c x.fork t f fx.0 (strict n (ltb-false _ _ i)) (let j = under in omega arith)
            where
              strict : x.fork ≢ y.fork → y.fork ≤ x.fork → y.fork < x.fork
              strict u v = go (y.fork == x.fork) refl
                where
                  go : (b : Bool) → (y.fork == x.fork) ≡ b → y.fork < x.fork
                  go true w = absurd (u (sym (eqb-true _ _ w)))
                  go false w = let z = eqb-false _ _ w in omega arith

      -- from the branches c, in which both stand, inwards
      from : (n : ℕ) (c mine its : List Branch) → (stage_at p younger.stage).branches ≡ mine ++ c → (stage_at p older.stage).branches ≡ its ++ c
          → length mine < n → Sound.is_behind p older younger ≡ true
      from zero c mine its e f low = absurd (omega arith)
      from (suc n) c [] its e f low = less (h c ([], e) (its, f) younger.stage e (le_refl younger.stage))
      from (suc n) c (m ∷ ms) [] e f low = inner (last_of m ms)
        where
          inner : (init : List Branch) × (z : Branch) × (m ∷ ms ≡ init ++ z ∷ []) → Sound.is_behind p older younger ≡ true
          inner r =
              let here : Within p (r.1 ∷ c) younger.stage = (r.0, e ∙ ap (λ l. l ++ c) r.2 ∙ append_assoc r.0 (r.1 ∷ []) c) in
              less
              (unless (λ i. none_between env' younger.stage trail' r.1 c older.stage t' here f
              (fork_left p g r.1 c younger.stage older.stage h here ([], f)) i))
      from (suc n) c (m ∷ ms) (o ∷ os) e f low = inner (last_of m ms) (last_of o os) (λ d a b i j k. from n d a b i j k)
        where
          inner : (init : List Branch) × (z : Branch) × (m ∷ ms ≡ init ++ z ∷ []) → (init : List Branch) × (z : Branch) × (o ∷ os ≡ init ++ z ∷ [])
              → ((d a b : List Branch) → (stage_at p younger.stage).branches ≡ a ++ d → (stage_at p older.stage).branches ≡ b
              ++ d → length a < n → Sound.is_behind p older younger ≡ true)
              → Sound.is_behind p older younger ≡ true
          inner r s further = at (r.1.fork == s.1.fork) refl
            where
              here : Within p (r.1 ∷ c) younger.stage
              here = (r.0, e ∙ ap (λ l. l ++ c) r.2 ∙ append_assoc r.0 (r.1 ∷ []) c)

              there : Within p (s.1 ∷ c) older.stage
              there = (s.0, f ∙ ap (λ l. l ++ c) s.2 ∙ append_assoc s.0 (s.1 ∷ []) c)

              shorter : length r.0 < n
              shorter = let k : length (m ∷ ms) ≡ suc (length r.0) = ap length r.2 ∙ longer r.0 r.1 in omega arith

              others : (if s.1.first then not r.1.first else r.1.first) ≡ true → (s.1.fork == r.1.fork) ≡ true → Sound.is_behind p older younger ≡ true
              others i j =
                  or_right (nat_lt younger.stage older.stage) _
                  (ap₂ are_apart there.1 here.1
                  ∙ any_of (λ a. list_any (other_branch a) (r.0 ++ r.1 ∷ c)) s.0 s.1 c (any_of (other_branch s.1) r.0 r.1 c (ap₂ (λ a b. a && b) j i)))

              at : (b : Bool) → (r.1.fork == s.1.fork) ≡ b → Sound.is_behind p older younger ≡ true
              at false i = less (unless (apart c r.1 s.1 here there (eqb-false _ _ i)))
              at true i = by (alike r.1.first s.1.first)
                where
                  by : (r.1.first ≡ s.1.first) ⊎ ((if s.1.first then not r.1.first else r.1.first) ≡ true) → Sound.is_behind p older younger ≡ true
                  by (inl j) = further (r.1 ∷ c) r.0 s.0 here.1 (there.1 ∙ ap (λ z. s.0 ++ z ∷ c) (sym (same r.1 s.1 (eqb-true _ _ i) j))) shorter
                  by (inr j) = others j (eq-eqb _ _ (sym (eqb-true _ _ i)))

-- FORKS

sides_snoc : (p : Pipe) (f : ℕ) (xs : List Sound.Live) (l : Sound.Live)
    → sides_in p f (xs ++ l ∷ []) ≡ sides_in p f xs ++ sides_of f (stage_at p l.stage).branches
sides_snoc p f [] l = append-nil (sides_of f (stage_at p l.stage).branches)
sides_snoc p f (x ∷ xs) l =
    ap (λ k. sides_of f (stage_at p x.stage).branches ++ k) (sides_snoc p f xs l)
    ∙ sym (append_assoc (sides_of f (stage_at p x.stage).branches) (sides_in p f xs) (sides_of f (stage_at p l.stage).branches))

-- the branches inside a fork that Sound state sees are those of the simulation
pub sides_are : (p : Pipe) (f : ℕ) (ls : List Live) → sides_in p f (oldest_first ls) ≡ sides p f ls
sides_are p f [] = refl
sides_are p f (l ∷ ls) = sides_snoc p f (oldest_first ls) (told l) ∙ ap (λ k. k ++ sides_of f (stage_at p l.thread.stage).branches) (sides_are p f ls)

-- a list of branches is the same as itself
pub sides_same : (xs : List Bool) → same_sides xs xs ≡ true
sides_same [] = refl
sides_same (true ∷ xs) = sides_same xs
sides_same (false ∷ xs) = sides_same xs

-- a test that every number passes is passed by the numbers from k on, one for each element
pub from_all : {X : Type 0} → (test : ℕ → Bool) (k : ℕ) (xs : List X) → ((m : ℕ) → test m ≡ true) → all_from test k xs ≡ true
from_all test k [] f = refl
from_all test k (x ∷ xs) f = ap₂ (λ a b. a && b) (f k) (from_all test (suc k) xs f)
