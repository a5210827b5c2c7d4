-- The orders of forks beside the stages: what drives them, that each goes on to stand for its fork's list, and what a thread is told before a merge.
use Rattle.std.proofs.Common.{◌≡◌, refl, sym, ap, ap₂, ◌∙◌, subst, ℕ, zero, suc, ◌+◌, ◌≤◌, ◌<◌, ◌⊎◌, inl, inr, Bool, true, false, ◌&&◌, ◌||◌, not, List, [], ◌∷◌, ◌++◌, length, map, Option, Some, None, arith, ◌==◌, eq-eqb, ne_eqb}
use Rattle.std.specs.Prelude.{if◌then◌else◌, slice_index}
use Rattle.std.proofs.lemmas.Bool.{false≢true}
use Rattle.pdl_word.specs.Words.{bit}
use Rattle.pdl_semantics.specs.Flat.{Next, Ends, Goes, Forks, Branch, Pipe, Arrays}
use Rattle.pdl_semantics.specs.Stages.{stage_at, goes_to, is_inside, sides_of, merges_fork}
use Rattle.pdl_semantics.specs.Updates.{squash_stages}
use Rattle.pdl_semantics.specs.Machine as machine
use Rattle.pdl_semantics.specs.Machine.{Thread, Deeds, fork_of, deeds}
use Rattle.pdl_semantics.specs.Moves.{next_stage, merges_well, may_merge, is_its_turn}
use Rattle.pdl_semantics.specs.Cycle.{cycle, first, squash_stage, goes_out, has_left, merges_by}
use Rattle.pdl_theory_turns.specs.Facts.{Sound}
use Rattle.pdl_theory_turns.specs.Graphs.{Within, next_of, stage_or}
use Rattle.pdl_net.specs.declared.Reg.{Reg}
use Rattle.pdl_net.specs.Circuit.{Circuit, State}
use Rattle.pdl_net.specs.Signal.{Signal, mux_signal}
use Rattle.pdl_net.specs.Cycle.{next_regs, next_arrays}
use Rattle.pdl_net.specs.Growth.{Own}
use Rattle.pdl_lockapi.proofs.NextState.{is_next, is_reset}
use Rattle.pdl_order.specs.Laws.{Drives}
use Rattle.pdl_machine_facts.specs.Slots.{LeadsOn, here, slot_moves, stage_moves, mover, movers_from, moving}
use Rattle.pdl_machine_facts.specs.Cycle.{IsByStages}
use Rattle.pdl_machine_facts.proofs.StagewisePorts.{at_stage}
use Rattle.pdl_law_parts.specs.Lives.{forks_by}
use Rattle.pdl_law_parts.specs.Walk.{Locks, Walk, one, zero_bit, both}
use Rattle.pdl_law_parts.specs.Advice.{IsAdvisedApart}
use Rattle.pdl_law_parts.specs.Views.{View, Gates, way_on}
use Rattle.pdl_law_parts.specs.Stands.{IsSo, IsSeen}
use Rattle.pdl_law_parts.proofs.Signals.{mux_at, mux_by, one_is, zero_is}
use Rattle.pdl_law_parts.proofs.Moves.{ready_of, fork_value}
use Rattle.pdl_machine_inflight.specs.InFlight.{InFlight}
use Rattle.pdl_law_sides.specs.Sides.{Sides, OrderNets, into_first, into_second, merging, into_merge, leaves_fork, emptied_by, order_step, branch_turn, merge_turn, turn}
use Rattle.pdl_law_sides.specs.HasSides.{HasOrder, HasSides}
use Rattle.pdl_law_follows.proofs.OrderSteps.{goes_first, goes_second, if_moves, order_act, step_is, proper_order}

-- ---- WAYS

-- a walk's signals of a fork's variable are its value
abbrev pub Agrees : State → Walk → Next → List ℕ → Type 0
Agrees s w n env = (x : ℕ) → forks_by n x ≡ true → slice_index env x ≡ (w.vars x).value s

-- a choice by a fork's variable has the value of the arm that the thread's value takes
pub fork_at : (s : State) (w : Walk) (x a b : ℕ) (env : List ℕ) → Agrees s w (Forks x a b) env → (f g : Signal)
    → (mux_signal (w.vars x) f g).value s ≡ (if slice_index env x == 1 then f.value s else g.value s)
fork_at s w x a b env h f g = mux_by s (w.vars x) f g ∙ ap (λ n. if n == 1 then f.value s else g.value s) (sym (h x (eq-eqb x x refl)))

-- what stands at the way on is that of the next stage
pub way_at : (s : State) (w : Walk) (n : Next) (env : List ℕ) → Agrees s w n env
    → (f : ℕ → Signal) (g : Option ℕ → Bool) → g None ≡ true
    → ((q : ℕ) → goes_to n env ≡ Some q → (f q).value s ≡ bit (g (Some q)))
    → (way_on n f w).value s ≡ bit (g (goes_to n env))
way_at s w Ends env h f g none some = one_is s ∙ ap bit (sym none)
way_at s w (Goes to) env h f g none some = some to refl
way_at s w (Forks x a b) env h f g none some = fork_at s w x a b env h (f a) (f b) ∙ choose (slice_index env x == 1) (λ q e. some q e)
  where
    choose : (t : Bool) → ((q : ℕ) → Some (if t then a else b) ≡ Some q → (f q).value s ≡ bit (g (Some q)))
        → (if t then (f a).value s else (f b).value s) ≡ bit (g (Some (if t then a else b)))
    choose true k = k a refl
    choose false k = k b refl

-- ---- THE START

-- at the start no thread is in a fork
list_first : (p : Pipe) (image : Arrays) (f : ℕ) → f < length p.stages → fork_of (first p image) f ≡ []
list_first p image f low = at_stage (λ g. []) 0 p.stages f [] low

module _ (p : Pipe) (c : Circuit) (vs : ℕ → View) (gates : Gates) (moves : ℕ → Signal) (sides : Sides) (own : Own)
    (f : ℕ) (low : f < length p.stages) (order : HasOrder p c vs gates moves sides own f) where
  -- with registers at reset, a fork's order stands for its list in the machine's first state
  pub order_starts : (image : Arrays) (s : State) → s.regs ≡ map (λ (r : Reg). r.reset) c.regs → (sides.order f).stands s (fork_of (first p image) f)
  order_starts image s regs =
      subst ((sides.order f).stands s) (sym (list_first p image f low)) (order.starts.starts s (is_reset c own.from own.to s order.owned.regs regs))

  -- ---- A CYCLE

  module _ (s : State) (st : machine.State) (bits : List Bool) (by : IsByStages p st bits) (apart : IsAdvisedApart p)
      (seen : (j : ℕ) → j < length p.stages → IsSeen p vs moves s st bits j)
      (emptied : (emptied_by p f (squash_stages p.stmts) sides.squash).value s ≡ bit (merges_by p f (squash_stage (moving p st bits)))) where
    so_at : (k : ℕ) (t : Thread) → k < length p.stages → here p st bits k ≡ Some t → stage_moves p st bits k ≡ true → IsSo p k s (vs k).ended (deeds p st k t)
    so_at k t l h g = ((seen k l).follows t h).so (ready_of p st bits k t by l h g)

    agrees_at : (k : ℕ) (t : Thread) → k < length p.stages → here p st bits k ≡ Some t → stage_moves p st bits k ≡ true
        → Agrees s (vs k).ended (stage_at p k).next (deeds p st k t).env
    agrees_at k t l h g = fork_value p apart k s (vs k).ended (deeds p st k t) l (so_at k t l h g)

    nobody : (k : ℕ) → here p st bits k ≡ None → stage_moves p st bits k ≡ true → ⊥
    nobody k h g = false≢true (sym (ap (slot_moves p st bits k) h) ∙ g)

    -- what holds of a thread that moves
    moves_so : (k : ℕ) → k < length p.stages → (b : Signal) (test : List ℕ → Bool)
        → ((t : Thread) → here p st bits k ≡ Some t → stage_moves p st bits k ≡ true → b.value s ≡ bit (test (deeds p st k t).env))
        → (both (moves k) b).value s ≡ bit (if_moves test p st k (stage_moves p st bits k) (here p st bits k))
    moves_so k l b test h = at (stage_moves p st bits k) (here p st bits k) refl refl
      where
        at : (g : Bool) (o : Option Thread) → stage_moves p st bits k ≡ g → here p st bits k ≡ o → (both (moves k) b).value s ≡ bit (if_moves test p st k g o)
        at false o e i = mux_at s (moves k) b zero_bit false ((seen k l).leaves ∙ ap bit e) ∙ zero_is s
        at true None e i = absurd (nobody k i e)
        at true (Some t) e i = mux_at s (moves k) b zero_bit true ((seen k l).leaves ∙ ap bit e) ∙ h t i e

    bit_at : (b : Bool) → (if b then one else zero_bit).value s ≡ bit b
    bit_at true = one_is s
    bit_at false = zero_is s

    first_is : (w : Walk) (n : Next) (env : List ℕ) → Agrees s w n env → (into_first p f n w).value s ≡ bit (goes_first p f n env)
    first_is w Ends env h = zero_is s
    first_is w (Goes to) env h = zero_is s
    first_is w (Forks x a b) env h = at (is_inside p f a)
      where
        which : (t : Bool) → (if t then one.value s else zero_bit.value s) ≡ bit t
        which true = one_is s
        which false = zero_is s

        at : (i : Bool) → (if i then mux_signal (w.vars x) one zero_bit else zero_bit).value s ≡ bit (i && (slice_index env x == 1))
        at true = fork_at s w x a b env h one zero_bit ∙ which (slice_index env x == 1)
        at false = zero_is s

    second_is : (w : Walk) (n : Next) (env : List ℕ) → Agrees s w n env → (into_second p f n w).value s ≡ bit (goes_second p f n env)
    second_is w Ends env h = zero_is s
    second_is w (Goes to) env h = zero_is s
    second_is w (Forks x a b) env h = at (is_inside p f b)
      where
        which : (t : Bool) → (if t then zero_bit.value s else one.value s) ≡ bit (not t)
        which true = zero_is s
        which false = one_is s

        at : (i : Bool) → (if i then mux_signal (w.vars x) zero_bit one else zero_bit).value s ≡ bit (i && not (slice_index env x == 1))
        at true = fork_at s w x a b env h zero_bit one ∙ which (slice_index env x == 1)
        at false = zero_is s

    merge_is : (w : Walk) (n : Next) (env : List ℕ) → Agrees s w n env → (into_merge p f n w).value s ≡ bit (goes_out p f (goes_to n env))
    merge_is w Ends env h = zero_is s
    merge_is w (Goes to) env h = bit_at (merges_fork (stage_at p to).merges f)
    merge_is w (Forks x a b) env h = fork_at s w x a b env h (merging p f a) (merging p f b) ∙ at (slice_index env x == 1)
      where
        at : (t : Bool) → (if t then (merging p f a).value s else (merging p f b).value s) ≡ bit (merges_fork (stage_at p (if t then a else b)).merges f)
        at true = bit_at (merges_fork (stage_at p a).merges f)
        at false = bit_at (merges_fork (stage_at p b).merges f)

    -- whether one of n stages lets its thread out of the fork
    left_is : (n k : ℕ) → k + n ≡ length p.stages → (leaves_fork p vs moves f n k).value s ≡ bit (has_left p f (movers_from p st bits n k))
    left_is zero k e = zero_is s
    left_is (suc n) k e = at (stage_moves p st bits k) (here p st bits k) refl refl (left_is n (suc k) (omega (arith, e)))
      where
        l : k < length p.stages
        l = omega (arith, e)

        rest : Signal
        rest = leaves_fork p vs moves f n (suc k)

        out : Signal
        out = both (moves k) (into_merge p f (stage_at p k).next (vs k).ended)

        or_is : (a r : Bool) → (if a then 1 else bit r) ≡ bit (a || r)
        or_is true r = refl
        or_is false r = refl

        stays : (i : Bool) → out.value s ≡ 0 → (if i then mux_signal out one rest else rest).value s ≡ rest.value s
        stays true h = mux_at s out one rest false h
        stays false h = refl

        goes : (i o r : Bool) → out.value s ≡ bit o → rest.value s ≡ bit r → (if i then mux_signal out one rest else rest).value s ≡ bit ((i && o) || r)
        goes true o r h g = mux_at s out one rest o h ∙ ap₂ (λ x y. if o then x else y) (one_is s) g ∙ or_is o r
        goes false o r h g = g

        at : (g : Bool) (o : Option Thread) → stage_moves p st bits k ≡ g → here p st bits k ≡ o
            → rest.value s ≡ bit (has_left p f (movers_from p st bits n (suc k)))
            → (if is_inside p f k then mux_signal out one rest else rest).value s ≡ bit (has_left p f (mover p st k g o ++ movers_from p st bits n (suc k)))
        at false o h i r =
            stays (is_inside p f k)
            (mux_at s (moves k) (into_merge p f (stage_at p k).next (vs k).ended) zero_bit false ((seen k l).leaves ∙ ap bit h) ∙ zero_is s)
            ∙ r
        at true None h i r = absurd (nobody k i h)
        at true (Some t) h i r =
            goes (is_inside p f k) (goes_out p f (next_stage p k (deeds p st k t))) (has_left p f (movers_from p st bits n (suc k)))
            (mux_at s (moves k) (into_merge p f (stage_at p k).next (vs k).ended) zero_bit true ((seen k l).leaves ∙ ap bit h)
            ∙ merge_is (vs k).ended (stage_at p k).next (deeds p st k t).env (agrees_at k t l i h)) r

    -- the nets of the order's step do what the cycle does to the fork's list
    pub order_driven : Drives (order_step p vs sides.squash moves f) s (order_act p st bits f)
    order_driven = record {
      entered_first =
          moves_so f low (into_first p f (stage_at p f).next (vs f).ended) (goes_first p f (stage_at p f).next)
          (λ t h g. first_is (vs f).ended (stage_at p f).next (deeds p st f t).env (agrees_at f t low h g));
      entered_second =
          moves_so f low (into_second p f (stage_at p f).next (vs f).ended) (goes_second p f (stage_at p f).next)
          (λ t h g. second_is (vs f).ended (stage_at p f).next (deeds p st f t).env (agrees_at f t low h g));
      left = left_is (length p.stages) 0 (omega arith);
      emptied = emptied;
    }

    -- an order that stands for the fork's list stands for the next one
    pub order_kept : Sound p → LeadsOn p → length st.stages ≡ length p.stages → InFlight p (cycle p st bits)
        → (sides.order f).stands s (fork_of st f) → (t : State) → t.regs ≡ next_regs c s → t.arrays ≡ next_arrays c s
        → (sides.order f).stands t (fork_of (cycle p st bits) f)
    order_kept sound leads count flight stands t regs arrays =
        let none = order.owned.none in
        subst ((sides.order f).stands t) (step_is p sound st bits f low leads sound.graph.some_stage count by)
        (order.step.next s t (fork_of st f)
        (order_act p st bits f) stands order_driven (proper_order p sound st bits f low leads sound.graph.some_stage count by flight)
        (is_next own c c s t
        (record {
          has_reg = order.owned.regs;
          nexts = λ k lo hi. refl;
          has_array = λ i lo hi. absurd (omega (arith, lo, hi, none));
          writes = λ i lo hi. refl;
        }) regs arrays))

-- ---- MERGES

-- whether a thread may go into a merge, where the fork's order stands for its list
pub turn_is : (p : Pipe) (c : Circuit) (vs : ℕ → View) (gates : Gates) (moves : ℕ → Signal) (sides : Sides) (own : Own) (f : ℕ)
    → HasOrder p c vs gates moves sides own f → (s : State) (st : machine.State) (from : List Branch)
    → (sides.order f).stands s (fork_of st f)
    → (branch_turn (sides.order f) (sides_of f from)).value s ≡ bit (may_merge st (Some f) from)
turn_is p c vs gates moves sides own f order s st from stands = at (sides_of f from) (fork_of st f) stands
  where
    o : OrderNets
    o = sides.order f

    not_at : (x : Bool) → o.first.value s ≡ bit x → (mux_signal o.first zero_bit one).value s ≡ bit (not x)
    not_at x e = mux_at s o.first zero_bit one x e ∙ which x
      where
        which : (x : Bool) → (if x then zero_bit.value s else one.value s) ≡ bit (not x)
        which true = zero_is s
        which false = one_is s

    side : (first x : Bool) → o.first.value s ≡ bit x → (if first then o.first else mux_signal o.first zero_bit one).value s ≡ bit (if first then x else not x)
    side true x e = e
    side false x e = not_at x e

    not_empty : (xs : List Bool) → (suc (length xs) == 0) ≡ false
    not_empty xs = ne_eqb (suc (length xs)) 0 (λ e. absurd (omega (arith, e)))

    at : (bs : List Bool) (xs : List Bool) → o.stands s xs → (branch_turn o bs).value s ≡ bit (is_its_turn bs xs)
    at [] [] h = order.first.empties s [] h
    at [] (x ∷ xs) h = order.first.empties s (x ∷ xs) h ∙ ap bit (not_empty xs)
    at (b ∷ bs) [] h = mux_at s o.empty zero_bit (if b then o.first else mux_signal o.first zero_bit one) true (order.first.empties s [] h) ∙ zero_is s
    at (b ∷ bs) (x ∷ xs) h =
        mux_at s o.empty zero_bit (if b then o.first else mux_signal o.first zero_bit one) false
        (order.first.empties s (x ∷ xs) h ∙ ap bit (not_empty xs))
        ∙ side b x (order.first.leads s x xs h)

module _ (p : Pipe) (sound : Sound p) (c : Circuit) (vs : ℕ → View) (gates : Gates) (moves : ℕ → Signal) (sides : Sides)
    (owns : ℕ → Own)
    (orders : (f q : ℕ) → f < length p.stages → (stage_at p q).merges ≡ Some f → HasOrder p c vs gates moves sides (owns f) f)
    (s : State) (st : machine.State) (stands : (f q : ℕ) → f < length p.stages → (stage_at p q).merges ≡ Some f → (sides.order f).stands s (fork_of st f)) where
  -- a fork that a thread may leave is one of the stages
  fork_low : (k q f : ℕ) (env : List ℕ) → k < length p.stages → goes_to (stage_at p k).next env ≡ Some q → (stage_at p q).merges ≡ Some f → f < length p.stages
  fork_low k q f env l e m =
      let n : next_of p k env ≡ q = ap (stage_or (length p.stages)) e in
      at (next_of p k env) (sound.branches.merge k env f l (ap (λ j. (stage_at p j).merges) n ∙ m))
    where
      at : (r : ℕ) → ((k ≡ f) × ((stage_at p r).branches ≡ (stage_at p k).branches))
          ⊎ ((x : Branch) × ((stage_at p k).branches ≡ x ∷ (stage_at p r).branches) × (x.fork ≡ f)
          × ((b : ℕ) → Within p (x ∷ (stage_at p r).branches) b → b ≤ k)) → f < length p.stages
      at r (inl h) = let same = h.0 in omega (arith, same, l)
      at r (inr h) =
          let below = (sound.branches.fork h.0 (stage_at p r).branches k ([], h.1)).1 in
          let same = h.2 in
          omega (arith, below, same, l)

  -- condition 8: a thread is told whether it is its turn at a merge
  pub merges_is : (k : ℕ) (w : Walk) (d : Deeds) → k < length p.stages → Agrees s w (stage_at p k).next d.env
      → (way_on (stage_at p k).next (turn p sides k) w).value s ≡ bit (merges_well p st k (next_stage p k d))
  merges_is k w d l agrees = way_at s w (stage_at p k).next d.env agrees (turn p sides k) (merges_well p st k) refl one_turn
    where
      one_turn : (q : ℕ) → goes_to (stage_at p k).next d.env ≡ Some q → (turn p sides k q).value s ≡ bit (merges_well p st k (Some q))
      one_turn q e = at (stage_at p q).merges refl
        where
          at : (o : Option ℕ) → (stage_at p q).merges ≡ o → (merge_turn sides o (stage_at p k).branches).value s ≡ bit (may_merge st o (stage_at p k).branches)
          at None m = one_is s
          at (Some f) m =
              let low = fork_low k q f d.env l e m in
              turn_is p c vs gates moves sides (owns f) f (orders f q low m) s st (stage_at p k).branches (stands f q low m)

-- ---- ALL FORKS

-- the order of each fork that is merged stands for its list
abbrev OrdersStand : Pipe → Sides → State → machine.State → Type 0
OrdersStand p sides s st = (f q : ℕ) → f < length p.stages → (stage_at p q).merges ≡ Some f → (sides.order f).stands s (fork_of st f)

module _ (p : Pipe) (ls : Locks) (c : Circuit) (vs : ℕ → View) (gates : Gates) (moves : ℕ → Signal) (sides : Sides)
    (has : HasSides p ls c vs gates moves sides) where
  -- with registers at reset, the order of each fork that is merged stands for its list in the machine's first state
  pub orders_first : (image : Arrays) (s : State) → s.regs ≡ map (λ (r : Reg). r.reset) c.regs → OrdersStand p sides s (first p image)
  orders_first image s regs f q low m = order_starts p c vs gates moves sides (has.order_owns f) f low (has.orders f q low m) image s regs

  -- after a cycle whose stages and squash are as the machine's, the orders stand for the lists of the next state
  pub orders_next : Sound p → LeadsOn p → (s t : State) (st : machine.State) (bits : List Bool) → IsByStages p st bits → IsAdvisedApart p
      → ((j : ℕ) → j < length p.stages → IsSeen p vs moves s st bits j)
      → ((f : ℕ) → (emptied_by p f (squash_stages p.stmts) sides.squash).value s ≡ bit (merges_by p f (squash_stage (moving p st bits))))
      → InFlight p st → InFlight p (cycle p st bits)
      → OrdersStand p sides s st → t.regs ≡ next_regs c s
      → t.arrays ≡ next_arrays c s → OrdersStand p sides t (cycle p st bits)
  orders_next sound leads s t st bits by apart seen emptied flight flight' stands regs arrays f q low m =
      order_kept p c vs gates moves sides (has.order_owns f) f low
      (has.orders f q low m) s st bits by apart seen (emptied f) sound leads flight.count flight' (stands f q low m) t regs arrays

  -- whether it is a thread's turn at a merge
  pub merges_told : Sound p → (s : State) (st : machine.State) → OrdersStand p sides s st → (k : ℕ) (d : Deeds)
      → IsAdvisedApart p → k < length p.stages → IsSo p k s (vs k).ended d
      → (way_on (stage_at p k).next (turn p sides k) (vs k).ended).value s ≡ bit (merges_well p st k (next_stage p k d))
  merges_told sound s st stands k d apart l so =
      merges_is p sound c vs gates moves sides has.order_owns has.orders s st stands k (vs k).ended d l (fork_value p apart k s (vs k).ended d l so)
