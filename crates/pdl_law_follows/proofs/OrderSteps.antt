-- A fork's list over a cycle is its order's step, properly used.
use Rattle.std.proofs.Common.{◌≡◌, refl, sym, ap, ap₂, ◌∙◌, subst, ℕ, zero, suc, ◌+◌, ◌≤◌, ◌<◌, ◌⊎◌, inl, inr, Bool, true, false, ◌&&◌, ◌||◌, not, List, [], ◌∷◌, ◌++◌, length, drop, Option, Some, None, is_some, arith, ◌==◌, append-nil}
use Rattle.std.specs.Prelude.{if◌then◌else◌, slice_index}
use Rattle.std.proofs.lemmas.Bool.{false≢true, eqb-true, eqb-false, and_parts, or_parts}
use Rattle.pdl_semantics.specs.Flat.{Next, Ends, Goes, Forks, Branch, Pipe}
use Rattle.pdl_semantics.specs.Stages.{list_any, stage_at, goes_to, is_inside, sides_of, merges_fork}
use Rattle.pdl_semantics.specs.Machine.{Thread, State, Deeds, fork_of, deeds}
use Rattle.pdl_semantics.specs.Moves.{Act, next_stage, no_failure, ports_free, barrier_clear, merges_well, may_merge, is_its_turn, is_first, is_empty}
use Rattle.pdl_semantics.specs.Cycle.{cycle, squash_stage, goes_into, entered_branches, goes_out, has_left, but_first, fork_next, merges_by, branches_left}
use Rattle.pdl_theory_turns.specs.Facts.{Sound}
use Rattle.pdl_theory_turns.specs.Graphs.{Home, Within, Way, next_of, stage_or, on_side}
use Rattle.pdl_theory_turns.proofs.Nested.{inside_of, sides_outside, outside_self, sides_inside}
use Rattle.pdl_machine_facts.specs.Slots.{LeadsOn, here, later_acts, locks_ready, may_pass, stage_moves, mover, movers_from, moving}
use Rattle.pdl_machine_facts.specs.Cycle.{IsByStages}
use Rattle.pdl_machine_facts.proofs.Stagewise.{next_is}
use Rattle.pdl_machine_facts.proofs.StagewisePorts.{at_stage}
use Rattle.pdl_order.specs.Order.{OrderAct, step, Proper}
use Rattle.pdl_machine_inflight.specs.Readings.{branch_stages}
use Rattle.pdl_machine_inflight.specs.InFlight.{InFlight}

-- what the thread of the fork does as it moves: whether it goes into the first branch, and into the second one
abbrev pub goes_first : Pipe → ℕ → Next → List ℕ → Bool
goes_first p f Ends env = false
goes_first p f (Goes to) env = false
goes_first p f (Forks x a b) env = is_inside p f a && (slice_index env x == 1)

-- the thread of the fork, as it moves, goes into the second branch
abbrev pub goes_second : Pipe → ℕ → Next → List ℕ → Bool
goes_second p f Ends env = false
goes_second p f (Goes to) env = false
goes_second p f (Forks x a b) env = is_inside p f b && not (slice_index env x == 1)

-- the thread of a stage moves, and its values pass a test
abbrev pub if_moves : (List ℕ → Bool) → Pipe → State → ℕ → Bool → Option Thread → Bool
if_moves test p st f false o = false
if_moves test p st f true None = false
if_moves test p st f true (Some t) = test (deeds p st f t).env

-- what a cycle does to the fork's order
abbrev pub order_act : Pipe → State → List Bool → ℕ → OrderAct
order_act p st bits f = record {
  entered_first = if_moves (goes_first p f (stage_at p f).next) p st f (stage_moves p st bits f) (here p st bits f);
  entered_second = if_moves (goes_second p f (stage_at p f).next) p st f (stage_moves p st bits f) (here p st bits f);
  left = has_left p f (moving p st bits);
  emptied = merges_by p f (squash_stage (moving p st bits));
}

-- who comes into a branch, as a list
abbrev entered_list : Bool → Bool → List Bool
entered_list a b = if a then true ∷ [] else (if b then false ∷ [] else [])

first_some : (b : Bool) (xs : List Bool) → is_first b xs ≡ true → 1 ≤ length xs
first_some b [] i = absurd (cc i)
first_some b (x ∷ xs) i = omega arith

-- who has its turn in a fork that it is in finds a list that isn't empty
some_in : (f : ℕ) (bs : List Branch) → list_any (λ (b : Branch). b.fork == f) bs ≡ true → (xs : List Bool)
    → is_its_turn (sides_of f bs) xs ≡ true → 1 ≤ length xs
some_in f [] i xs j = absurd (cc i)
some_in f (b ∷ bs) i xs j = at (b.fork == f) i j (λ i j. some_in f bs i xs j)
  where
    at : (t : Bool) → (t || list_any (λ (y : Branch). y.fork == f) bs) ≡ true
        → is_its_turn ((if t then b.first ∷ [] else []) ++ sides_of f bs) xs ≡ true
        → (list_any (λ (y : Branch). y.fork == f) bs ≡ true → is_its_turn (sides_of f bs) xs ≡ true → 1 ≤ length xs) → 1 ≤ length xs
    at true i j rest = first_some b.first xs j
    at false i j rest = rest i j

module _ (p : Pipe) (sound : Sound p) (st : State) (bits : List Bool) (f : ℕ) (low : f < length p.stages) where
  -- a thread that goes from the fork comes to one of its sides, that of its values, or to none
  side_to : (q : ℕ) (env : List ℕ) → goes_to (stage_at p f).next env ≡ Some q
      → ((sides_of f (stage_at p q).branches ≡ []) × (is_inside p f q ≡ false))
      ⊎ ((x : Branch) × (sides_of f (stage_at p q).branches ≡ x.first ∷ []) × (is_inside p f q ≡ true)
      × (on_side (stage_at p f).next x.first env ≡ true))
  side_to q env e = at (subst (Way p f) n (sound.branches.way f env low))
    where
      n : next_of p f env ≡ q
      n = ap (stage_or (length p.stages)) e

      own : is_inside p f f ≡ false
      own = outside_self p sound.branches.fork f

      at : Way p f q
          → ((sides_of f (stage_at p q).branches ≡ []) × (is_inside p f q ≡ false))
          ⊎ ((x : Branch) × (sides_of f (stage_at p q).branches ≡ x.first ∷ []) × (is_inside p f q ≡ true)
          × (on_side (stage_at p f).next x.first env ≡ true))
      at (inl h) = inl (ap (sides_of f) h ∙ sides_outside f (stage_at p f).branches own, ap (list_any (λ (b : Branch). b.fork == f)) h ∙ own)
      at (inr (inl h)) =
          let here : Within p (h.0 ∷ (stage_at p f).branches) q = ([], h.1) in
          let there : Home p (h.0 ∷ (stage_at p f).branches) (next_of p h.0.fork env) =
          ap (λ k. (stage_at p k).branches) (ap (λ g. next_of p g env) h.2 ∙ n) ∙ h.1 in
          let goes = sound.branches.side h.0 (stage_at p f).branches env (let same = h.2 in omega (arith, low, same)) there in
          inr (
            h.0,
            sides_inside p sound.branches.fork f h.0 (stage_at p f).branches q here h.2,
            inside_of p f q h.0 (stage_at p f).branches here h.2,
            ap (λ k. on_side (stage_at p k).next h.0.first env) (sym h.2) ∙ goes,
          )
      at (inr (inr h)) =
          let off = (or_parts _ _ (ap (list_any (λ (b : Branch). b.fork == f)) (sym h.1) ∙ own)).1 in
          inl (sides_outside f (stage_at p q).branches off, off)

  -- the branch that a thread appends
  into_is : (n : Next) → (stage_at p f).next ≡ n → (env : List ℕ)
      → goes_into p f (goes_to n env) ≡ entered_list (goes_first p f n env) (goes_second p f n env)
  into_is Ends same env = refl
  into_is (Goes to) same env = at (side_to to env (ap (λ n. goes_to n env) same))
    where
      at : ((sides_of f (stage_at p to).branches ≡ []) × (is_inside p f to ≡ false))
          ⊎ ((x : Branch) × (sides_of f (stage_at p to).branches ≡ x.first ∷ []) × (is_inside p f to ≡ true)
          × (on_side (stage_at p f).next x.first env ≡ true))
          → goes_into p f (Some to) ≡ []
      at (inl h) = h.0
      at (inr h) = absurd (false≢true (ap (λ n. on_side n h.0.first env) (sym same) ∙ h.3))
  into_is (Forks x a b) same env = at (slice_index env x == 1) refl
    where
      right : (u v : Bool) → (if u then v else not v) ≡ true → u ≡ v
      right true true i = refl
      right true false i = absurd (cc i)
      right false true i = absurd (cc i)
      right false false i = refl

      -- of the stage to which it goes
      to : (q : ℕ) (first : Bool) → (slice_index env x == 1) ≡ first → goes_to (Forks x a b) env ≡ Some q
          → sides_of f (stage_at p q).branches ≡ (if is_inside p f q then first ∷ [] else [])
      to q first e g = by (side_to q env (ap (λ n. goes_to n env) same ∙ g))
        where
          by : ((sides_of f (stage_at p q).branches ≡ []) × (is_inside p f q ≡ false))
              ⊎ ((y : Branch) × (sides_of f (stage_at p q).branches ≡ y.first ∷ []) × (is_inside p f q ≡ true)
              × (on_side (stage_at p f).next y.first env ≡ true))
              → sides_of f (stage_at p q).branches ≡ (if is_inside p f q then first ∷ [] else [])
          by (inl h) = h.0 ∙ sym (ap (λ t. if t then first ∷ [] else []) h.1)
          by (inr h) =
              let goes : (if h.0.first then slice_index env x == 1 else not (slice_index env x == 1)) ≡ true =
              ap (λ n. on_side n h.0.first env) (sym same) ∙ h.3 in
              let side : h.0.first ≡ first = right h.0.first first (ap (λ w. if h.0.first then w else not w) (sym e) ∙ goes) in
              h.1 ∙ ap (λ u. u ∷ []) side ∙ sym (ap (λ t. if t then first ∷ [] else []) h.2)

      first_list : (u : Bool) → (if u then true ∷ [] else []) ≡ entered_list (u && true) false
      first_list true = refl
      first_list false = refl

      no : (u : Bool) → (u && false) ≡ false
      no true = refl
      no false = refl

      second_list : (u : Bool) → (if u then false ∷ [] else []) ≡ (if (u && true) then false ∷ [] else [])
      second_list true = refl
      second_list false = refl

      at : (w : Bool) → (slice_index env x == 1) ≡ w
          → sides_of f (stage_at p (if slice_index env x == 1 then a else b)).branches
          ≡ entered_list (is_inside p f a && (slice_index env x == 1)) (is_inside p f b && not (slice_index env x == 1))
      at true e =
          ap (λ w. sides_of f (stage_at p (if w then a else b)).branches) e ∙ to a true e (ap (λ w. Some (if w then a else b)) e) ∙ first_list (is_inside p f a)
          ∙ ap (entered_list (is_inside p f a && true)) (sym (no (is_inside p f b)))
          ∙ ap (λ w. entered_list (is_inside p f a && w) (is_inside p f b && not w)) (sym e)
      at false e =
          ap (λ w. sides_of f (stage_at p (if w then a else b)).branches) e ∙ to b false e (ap (λ w. Some (if w then a else b)) e)
          ∙ second_list (is_inside p f b)
          ∙ ap (λ u. entered_list u (is_inside p f b && true)) (sym (no (is_inside p f a)))
          ∙ ap (λ w. entered_list (is_inside p f a && w) (is_inside p f b && not w)) (sym e)

  -- OVER ALL MOVERS

  entered_past : (k : ℕ) (b : Bool) (o : Option Thread) (rest : List Act) → (k == f) ≡ false
      → entered_branches p f (mover p st k b o ++ rest) ≡ entered_branches p f rest
  entered_past k false o rest h = refl
  entered_past k true None rest h = refl
  entered_past k true (Some t) rest h =
      ap (λ c. entered_branches p f rest ++ (if c then goes_into p f (next_stage p k (deeds p st k t)) else [])) h ∙ append-nil (entered_branches p f rest)

  entered_none : (n k : ℕ) → ((j : ℕ) → k ≤ j → j < k + n → (j == f) ≡ false) → entered_branches p f (movers_from p st bits n k) ≡ []
  entered_none zero k h = refl
  entered_none (suc n) k h =
      entered_past k (stage_moves p st bits k) (here p st bits k) (movers_from p st bits n (suc k)) (h k (omega arith) (omega arith))
      ∙ entered_none n (suc k) (λ j l i. h j (omega (arith, l)) (omega (arith, i)))

  module _ (leads : LeadsOn p) where
    entered_here : (b : Bool) (o : Option Thread) (rest : List Act) → entered_branches p f rest ≡ []
        → entered_branches p f (mover p st f b o ++ rest)
        ≡ entered_list (if_moves (goes_first p f (stage_at p f).next) p st f b o) (if_moves (goes_second p f (stage_at p f).next) p st f b o)
    entered_here false o rest h = h
    entered_here true None rest h = h
    entered_here true (Some t) rest h =
        ap₂ (λ l c. l ++ (if c then goes_into p f (next_stage p f (deeds p st f t)) else [])) h (Rattle.std.proofs.Common.eq-eqb f f refl)
        ∙ into_is (stage_at p f).next refl (deeds p st f t).env

    entered_from : (n k : ℕ) → k ≤ f → f < k + n
        → entered_branches p f (movers_from p st bits n k) ≡ entered_list (order_act p st bits f).entered_first (order_act p st bits f).entered_second
    entered_from zero k l h = absurd (omega (arith, l, h))
    entered_from (suc n) k l h = at (k == f) refl (λ i. entered_from n (suc k) i (omega (arith, h)))
      where
        Goal : List Act → Type 0
        Goal ms = entered_branches p f ms ≡ entered_list (order_act p st bits f).entered_first (order_act p st bits f).entered_second

        at : (b : Bool) → (k == f) ≡ b
            → (suc k ≤ f
            → entered_branches p f (movers_from p st bits n (suc k))
            ≡ entered_list (order_act p st bits f).entered_first (order_act p st bits f).entered_second)
            → entered_branches p f (movers_from p st bits (suc n) k) ≡ entered_list (order_act p st bits f).entered_first (order_act p st bits f).entered_second
        at false e rest =
            entered_past k (stage_moves p st bits k) (here p st bits k) (movers_from p st bits n (suc k)) e
            ∙ rest (let d = eqb-false k f e in omega (arith, l, d))
        at true e rest =
            let same = eqb-true k f e in
            ap (λ j. entered_branches p f (mover p st j (stage_moves p st bits j) (here p st bits j) ++ movers_from p st bits n (suc j))) same
            ∙ entered_here (stage_moves p st bits f) (here p st bits f) (movers_from p st bits n (suc f))
            (entered_none n (suc f) (λ j i m. Rattle.std.proofs.Common.ne_eqb j f (λ z. absurd (omega (arith, i, z)))))

    -- A CYCLE

    module _ (some : 0 < length p.stages) (count : length st.stages ≡ length p.stages) (by : IsByStages p st bits) where
      list_next : fork_of (cycle p st bits) f ≡ branches_left p (squash_stage (moving p st bits)) f (fork_next p st (moving p st bits) f)
      list_next =
          ap (λ (s : State). fork_of s f) (next_is p leads some st bits count)
          ∙ at_stage (λ g. branches_left p (squash_stage (moving p st bits)) g (fork_next p st (moving p st bits) g)) 0 p.stages f [] low
          ∙ ap (λ g. branches_left p (squash_stage (moving p st bits)) g (fork_next p st (moving p st bits) g)) (let z : 0 + f ≡ f = omega arith in z)

      but_is : (xs : List Bool) → but_first xs ≡ drop 1 xs
      but_is [] = refl
      but_is (x ∷ xs) = refl

      step_of_list : (left emptied first second : Bool) (xs : List Bool)
          → step xs (record { entered_first = first; entered_second = second; left = left; emptied = emptied })
          ≡ (if emptied then [] else ((if left then but_first xs else xs) ++ entered_list first second))
      step_of_list left true first second xs = refl
      step_of_list left false first second xs = at first second ∙ ap (λ ys. (if left then ys else xs) ++ entered_list first second) (sym (but_is xs))
        where
          ys : List Bool
          ys = if left then drop 1 xs else xs

          at : (a b : Bool) → (if a then ys ++ true ∷ [] else (if b then ys ++ false ∷ [] else ys)) ≡ ys ++ entered_list a b
          at true b = refl
          at false true = refl
          at false false = sym (append-nil ys)

      -- the list after the cycle is the order's step
      pub step_is : step (fork_of st f) (order_act p st bits f) ≡ fork_of (cycle p st bits) f
      step_is =
          let a = order_act p st bits f in
          step_of_list a.left a.emptied a.entered_first a.entered_second (fork_of st f)
          ∙ ap (λ es. if a.emptied then [] else ((if a.left then but_first (fork_of st f) else fork_of st f) ++ es))
          (sym (entered_from (length p.stages) 0 (omega arith) (omega (arith, low))))
          ∙ sym list_next

      -- who leaves is the first
      left_some : (n k : ℕ) → k + n ≡ length p.stages → has_left p f (movers_from p st bits n k) ≡ true → 1 ≤ length (fork_of st f)
      left_some zero k e h = absurd (cc h)
      left_some (suc n) k e h = at (stage_moves p st bits k) (here p st bits k) refl refl h (left_some n (suc k) (omega (arith, e)))
        where
          merged : (m : Option ℕ) (from : List Branch) → merges_fork m f ≡ true → list_any (λ (b : Branch). b.fork == f) from ≡ true
              → may_merge st m from ≡ true → 1 ≤ length (fork_of st f)
          merged None from g i j = absurd (cc g)
          merged (Some g') from g i j =
              some_in f from i (fork_of st f) (subst (λ k. is_its_turn (sides_of k from) (fork_of st k) ≡ true) (eqb-true g' f g) j)

          well : (q : Option ℕ) → goes_out p f q ≡ true → is_inside p f k ≡ true → merges_well p st k q ≡ true → 1 ≤ length (fork_of st f)
          well None g i j = absurd (cc g)
          well (Some q) g i j = merged (stage_at p q).merges (stage_at p k).branches g i j

          last : (a b c d e' f' : Bool) → ((a && b) && ((c && (d && (e' && f'))) && true)) ≡ true → f' ≡ true
          last true true true true true true i = refl
          last true true true true true false i = absurd (cc i)
          last true true true true false f' i = absurd (cc i)
          last true true true false e' f' i = absurd (cc i)
          last true true false d e' f' i = absurd (cc i)
          last true false c d e' f' i = absurd (cc i)
          last false b c d e' f' i = absurd (cc i)

          enter : (a b : Bool) → (a && b) ≡ true → (a && true) ≡ true
          enter true true i = refl
          enter true false i = refl
          enter false b i = absurd (cc i)

          at : (b : Bool) (o : Option Thread) → stage_moves p st bits k ≡ b → here p st bits k ≡ o
              → has_left p f (mover p st k b o ++ movers_from p st bits n (suc k)) ≡ true
              → (has_left p f (movers_from p st bits n (suc k)) ≡ true → 1 ≤ length (fork_of st f))
              → 1 ≤ length (fork_of st f)
          at false o g i h rest = rest h
          at true None g i h rest = rest h
          at true (Some t) g i h rest = by' (is_inside p f k && goes_out p f (next_stage p k (deeds p st k t))) refl h
            where
              d : Deeds
              d = deeds p st k t

              passes : merges_well p st k (next_stage p k d) ≡ true
              passes =
                  let m = sym (by.goes_where k t (omega (arith, e)) i) ∙ g in
                  let x = and_parts (is_empty t.awaits && locks_ready p st t.number d) _ m in
                  let y = and_parts (may_pass p st bits (later_acts p st bits k) k d) _ x.1 in
                  let z = and_parts (no_failure (later_acts p st bits k)) _ y.0 in
                  let u = and_parts (ports_free p st bits (later_acts p st bits k) d) _ z.1 in
                  (and_parts (barrier_clear p (later_acts p st bits k) d) _ u.1).1

              by' : (c : Bool) → (is_inside p f k && goes_out p f (next_stage p k d)) ≡ c
                  → (c || has_left p f (movers_from p st bits n (suc k))) ≡ true → 1 ≤ length (fork_of st f)
              by' false j h = rest h
              by' true j h = let parts = and_parts (is_inside p f k) _ j in well (next_stage p k d) parts.1 parts.0 passes

      one_side : (n : Next) (env : List ℕ) → (goes_first p f n env && goes_second p f n env) ≡ false
      one_side Ends env = refl
      one_side (Goes to) env = refl
      one_side (Forks x a b) env = at (is_inside p f a) (is_inside p f b) (slice_index env x == 1)
        where
          at : (u v w : Bool) → ((u && w) && (v && not w)) ≡ false
          at true true true = refl
          at true true false = refl
          at true false true = refl
          at true false false = refl
          at false v w = refl

      -- what a cycle does to a fork's order is proper use, where the facts of threads in flight hold of the next state
      pub proper_order : InFlight p (cycle p st bits) → Proper (branch_stages p f) (fork_of st f) (order_act p st bits f)
      proper_order flight' = record {
        one = at (stage_moves p st bits f) (here p st bits f);
        some = λ h. left_some (length p.stages) 0 (omega arith) h;
        room = subst (λ (xs : List Bool). length xs ≤ branch_stages p f) (sym step_is) (flight'.forked f);
      }
        where
          at : (b : Bool) (o : Option Thread)
              → (if_moves (goes_first p f (stage_at p f).next) p st f b o && if_moves (goes_second p f (stage_at p f).next) p st f b o) ≡ false
          at false o = refl
          at true None = refl
          at true (Some t) = one_side (stage_at p f).next (deeds p st f t).env
