-- What the acts of a cycle show stage by stage, and who comes into a stage.
use Rattle.std.proofs.Common.{◌≡◌, refl, sym, ap, ap₂, ◌∙◌, ℕ, zero, suc, ◌+◌, ◌-◌, ◌≤◌, ◌<◌, Bool, true, false, ◌&&◌, ◌||◌, List, [], ◌∷◌, ◌++◌, length, Option, Some, None, is_some, is_none, ◌==◌, if◌then◌else◌, arith, slice_index_or, add-zero, add-suc, suc-add}
use Rattle.std.proofs.lemmas.Bool.{eqb-true, eqb-false, ne_eqb}
use Rattle.pdl_semantics.specs.Flat.{Pipe, Next, Ends, Goes, Forks, Stage}
use Rattle.pdl_semantics.specs.Stages.{stage_at, goes_to, list_any}
use Rattle.pdl_semantics.specs.Machine.{Thread, State, deeds}
use Rattle.pdl_semantics.specs.Moves.{Act, next_stage}
use Rattle.pdl_semantics.specs.Cycle.{for_stages, is_stage, thread_after, next_thread, or_then}
use Rattle.pdl_machine_facts.specs.Slots
use Rattle.pdl_machine_facts.specs.Slots.{LeadsOn, slot, here, stage_moves, act_at, mover, movers_from, leads_to, ways_from, first_of, passing_thread, thread_into, arriving_thread}
use Rattle.pdl_machine_facts.proofs.StagewiseActs.{seen, line_acts, some_here, someone}
use Rattle.pdl_word.proofs.Numbers.{eqb_self}

-- the entries for each stage are the same by functions that agree on these stages
pub stages_below : {X : Type 0} → (f g : ℕ → X) (s : ℕ) (xs : List Stage)
    → ((q : ℕ) → s ≤ q → q < s + length xs → f q ≡ g q) → for_stages f s xs ≡ for_stages g s xs
stages_below f g s [] h = refl
stages_below f g s (x ∷ xs) h =
    ap₂ (λ a l. a ∷ l) (h s (omega arith) (omega arith)) (stages_below f g (suc s) xs (λ q i j. h q (omega (arith, i)) (omega (arith, j))))

-- what is listed for each stage is as long as the list of stages
pub stages_count : {X : Type 0} → (f : ℕ → X) (s : ℕ) (xs : List Stage) → length (for_stages f s xs) ≡ length xs
stages_count f s [] = refl
stages_count f s (x ∷ xs) = ap suc (stages_count f (suc s) xs)

-- the k-th of what is listed for the stages from s on is that of stage s + k
pub at_stage : {X : Type 0} → (f : ℕ → X) (s : ℕ) (xs : List Stage) (k : ℕ) (none : X)
    → k < length xs → slice_index_or (for_stages f s xs) k none ≡ f (s + k)
at_stage f s [] k none h = absurd (omega arith)
at_stage f s (x ∷ xs) zero none h = ap f (sym (add-zero s))
at_stage f s (x ∷ xs) (suc k) none h = at_stage f (suc s) xs k none (omega arith) ∙ ap f (suc-add s k ∙ sym (add-suc s k))

-- past the last stage nothing is listed
pub past_stage : {X : Type 0} → (f : ℕ → X) (s : ℕ) (xs : List Stage) (k : ℕ) (none : X)
    → length xs ≤ k → slice_index_or (for_stages f s xs) k none ≡ none
past_stage f s [] k none h = refl
past_stage f s (x ∷ xs) zero none h = absurd (omega arith)
past_stage f s (x ∷ xs) (suc k) none h = past_stage f (suc s) xs k none (omega arith)

then_none : (o : Option Thread) → or_then o None ≡ o
then_none None = refl
then_none (Some t) = refl

-- the first thread that is there, of three that may be, however they are grouped
pub then_then : (a b c : Option Thread) → or_then (or_then a b) c ≡ or_then a (or_then b c)
then_then None b c = refl
then_then (Some t) b c = refl

-- a stage that isn't reached isn't gone to
not_reached : (n : Next) (q : ℕ) (env : List ℕ) → leads_to n q ≡ false → is_stage q (goes_to n env) ≡ false
not_reached Ends q env h = refl
not_reached (Goes to) q env h = h
not_reached (Forks x a b) q env h = at (a == q) refl (b == q) refl h (Rattle.std.proofs.Common.slice_index env x == 1)
  where
    at : (c : Bool) → (a == q) ≡ c → (d : Bool) → (b == q) ≡ d → (c || d) ≡ false → (t : Bool) → ((if t then a else b) == q) ≡ false
    at true e d f h t = absurd (cc h)
    at false e true f h t = absurd (cc h)
    at false e false f h true = e
    at false e false f h false = f

module _ (p : Pipe) (st : State) (bits : List Bool) where
  abbrev lined : ℕ → ℕ → List Act
  lined n k = line_acts p st bits n k

  abbrev shown : Bool → ℕ → Option Thread → List Act
  shown b k o = seen p st bits b k o

  -- WHO IS THERE

  or_none : (b r : Bool) → b ≡ false → (b || r) ≡ r
  or_none b r e = ap (λ x. x || r) e

  is_other : (s : ℕ) (b : Bool) (k : ℕ) (o : Option Thread) (rest : List Act) → (k == s) ≡ false
      → list_any (λ (a : Act). a.stage == s) (shown b k o ++ rest) ≡ list_any (λ (a : Act). a.stage == s) rest
  is_other s b k None rest e = refl
  is_other s b k (Some t) rest e = or_none (k == s) (list_any (λ (a : Act). a.stage == s) rest) e

  none_there : (n k s : ℕ) → s < k → list_any (λ (a : Act). a.stage == s) (lined n k) ≡ false
  none_there zero k s h = refl
  none_there (suc n) k s h =
      is_other s (stage_moves p st bits k) k (here p st bits k) (lined n (suc k)) (ne_eqb k s (λ e. absurd (omega arith)))
      ∙ none_there n (suc k) s (omega arith)

  is_here : (s : ℕ) (b : Bool) (k : ℕ) (o : Option Thread) (rest : List Act) → (k == s) ≡ true
      → list_any (λ (a : Act). a.stage == s) rest ≡ false
      → list_any (λ (a : Act). a.stage == s) (shown b k o ++ rest) ≡ is_some o
  is_here s b k None rest e h = h
  is_here s b k (Some t) rest e h = ap (λ x. x || list_any (λ (a : Act). a.stage == s) rest) e

  -- among the acts of n stages from k on one is of stage s just where that holds a thread
  pub valid_at : (n k s : ℕ) → k ≤ s → s < k + n → list_any (λ (a : Act). a.stage == s) (lined n k) ≡ is_some (slot st s)
  valid_at zero k s h i = absurd (omega (arith, h, i))
  valid_at (suc n) k s h i = at (k == s) refl (λ j. valid_at n (suc k) s j (omega (arith, i)))
    where
      at : (b : Bool) → (k == s) ≡ b
          → (k < s → list_any (λ (a : Act). a.stage == s) (lined n (suc k)) ≡ is_some (slot st s))
          → list_any (λ (a : Act). a.stage == s) (shown (stage_moves p st bits k) k (here p st bits k) ++ lined n (suc k)) ≡ is_some (slot st s)
      at true e f =
          is_here s (stage_moves p st bits k) k (here p st bits k) (lined n (suc k)) e (none_there n (suc k) s (let j = eqb-true k s e in omega arith))
          ∙ some_here p st bits k
          ∙ ap (λ j. is_some (slot st j)) (eqb-true k s e)
      at false e f = is_other s (stage_moves p st bits k) k (here p st bits k) (lined n (suc k)) e ∙ f (let j = eqb-false k s e in omega arith)

  -- WHO MOVES

  mover_other : (s : ℕ) (b : Bool) (k : ℕ) (o : Option Thread) (rest : List Act) → (k == s) ≡ false
      → list_any (λ (a : Act). a.stage == s) (mover p st k b o ++ rest) ≡ list_any (λ (a : Act). a.stage == s) rest
  mover_other s false k o rest e = refl
  mover_other s true k None rest e = refl
  mover_other s true k (Some t) rest e = or_none (k == s) (list_any (λ (a : Act). a.stage == s) rest) e

  none_moves : (n k s : ℕ) → s < k → list_any (λ (a : Act). a.stage == s) (movers_from p st bits n k) ≡ false
  none_moves zero k s h = refl
  none_moves (suc n) k s h =
      mover_other s (stage_moves p st bits k) k (here p st bits k) (movers_from p st bits n (suc k)) (ne_eqb k s (λ e. absurd (omega arith)))
      ∙ none_moves n (suc k) s (omega arith)

  mover_here : (s : ℕ) (b : Bool) (k : ℕ) (o : Option Thread) (rest : List Act) → (k == s) ≡ true
      → list_any (λ (a : Act). a.stage == s) rest ≡ false
      → list_any (λ (a : Act). a.stage == s) (mover p st k b o ++ rest) ≡ (b && is_some o)
  mover_here s false k o rest e h = h
  mover_here s true k None rest e h = h
  mover_here s true k (Some t) rest e h = ap (λ x. x || list_any (λ (a : Act). a.stage == s) rest) e

  -- among the movers of n stages from k on one is of stage s just where the thread in it moves
  pub moves_at : (n k s : ℕ) → k ≤ s → s < k + n → list_any (λ (a : Act). a.stage == s) (movers_from p st bits n k) ≡ stage_moves p st bits s
  moves_at zero k s h i = absurd (omega (arith, h, i))
  moves_at (suc n) k s h i = at (k == s) refl (λ j. moves_at n (suc k) s j (omega (arith, i)))
    where
      at : (b : Bool) → (k == s) ≡ b
          → (k < s → list_any (λ (a : Act). a.stage == s) (movers_from p st bits n (suc k)) ≡ stage_moves p st bits s)
          → list_any (λ (a : Act). a.stage == s) (mover p st k (stage_moves p st bits k) (here p st bits k) ++ movers_from p st bits n (suc k))
          ≡ stage_moves p st bits s
      at true e f =
          mover_here s (stage_moves p st bits k) k (here p st bits k)
          (movers_from p st bits n (suc k)) e (none_moves n (suc k) s (let j = eqb-true k s e in omega arith))
          ∙ someone p st bits k ∙ ap (stage_moves p st bits) (eqb-true k s e)
      at false e f =
          mover_other s (stage_moves p st bits k) k (here p st bits k) (movers_from p st bits n (suc k)) e ∙ f (let j = eqb-false k s e in omega arith)

  module _ (leads : LeadsOn p) where
    -- who moves out of the last stage ends
    abbrev leaves : Act → Bool
    leaves a = is_none (next_stage p a.stage a.does)

    leaves_on : (k : ℕ) (b : Bool) (o : Option Thread) (rest : List Act) → suc k < length p.stages
        → list_any leaves (mover p st k b o ++ rest) ≡ list_any leaves rest
    leaves_on k false o rest h = refl
    leaves_on k true None rest h = refl
    leaves_on k true (Some t) rest h =
        ap (λ x. x || list_any leaves rest)
        (leads.ends k (deeds p st k t).env (omega (arith, h)) ∙ ne_eqb (suc k) (length p.stages) (λ e. absurd (omega (arith, e, h))))

    leaves_last : (k : ℕ) (b : Bool) (o : Option Thread) → suc k ≡ length p.stages → list_any leaves (mover p st k b o ++ []) ≡ (b && is_some o)
    leaves_last k false o h = refl
    leaves_last k true None h = refl
    leaves_last k true (Some t) h =
        ap (λ x. x || false) (leads.ends k (deeds p st k t).env (omega (arith, h)) ∙ Rattle.std.proofs.Common.eq-eqb (suc k) (length p.stages) h)

    -- among the movers of the stages up to the last one somebody leaves the pipe just where the last stage's thread moves
    pub ended_at : (n k : ℕ) → k + suc n ≡ length p.stages → list_any leaves (movers_from p st bits (suc n) k) ≡ stage_moves p st bits (length p.stages - 1)
    ended_at zero k e =
        leaves_last k (stage_moves p st bits k) (here p st bits k) (omega (arith, e)) ∙ someone p st bits k
        ∙ ap (stage_moves p st bits) (let i : k ≡ length p.stages - 1 = omega (arith, e) in i)
    ended_at (suc n) k e =
        leaves_on k (stage_moves p st bits k) (here p st bits k) (movers_from p st bits (suc n) (suc k)) (omega (arith, e))
        ∙ ended_at n (suc k) (omega (arith, e))

    -- WHO STANDS IN A STAGE

    -- who stays, where it is asked of its own stage
    abbrev left : Bool → Bool → Option Thread → Option Thread
    left same b o = if same then (if b then None else o) else None

    stands_seen : (q k : ℕ) (b : Bool) (o : Option Thread) (rest : List Act)
        → next_thread p q (shown b k o ++ rest) ≡ or_then (thread_into p st q k b o) (or_then (left (k == q) b o) (next_thread p q rest))
    stands_seen q k b None rest = at b (k == q)
      where
        at : (b same : Bool) → next_thread p q rest ≡ or_then (thread_into p st q k b None) (or_then (left same b None) (next_thread p q rest))
        at true true = refl
        at true false = refl
        at false true = refl
        at false false = refl
    stands_seen q k true (Some t) rest = at (is_stage q (next_stage p k (deeds p st k t))) (k == q)
      where
        at : (c same : Bool)
            → or_then (if c then Some (thread_after (act_at p st k t)) else None) (next_thread p q rest)
            ≡ or_then (if c then Some (thread_after (act_at p st k t)) else None) (or_then (left same true (Some t)) (next_thread p q rest))
        at c true = refl
        at c false = refl
    stands_seen q k false (Some t) rest = refl

    -- nobody goes into its own stage or an earlier one
    no_way : (q k : ℕ) (b : Bool) (o : Option Thread) → k < length p.stages → q ≤ k → thread_into p st q k b o ≡ None
    no_way q k false o l h = refl
    no_way q k true None l h = refl
    no_way q k true (Some t) l h =
        ap (λ c. if c then Some (thread_after (act_at p st k t)) else None)
        (at (next_stage p k (deeds p st k t)) (λ r e. (leads.up k r (deeds p st k t).env l e).0))
      where
        at : (n : Option ℕ) → ((r : ℕ) → n ≡ Some r → k < r) → is_stage q n ≡ false
        at None f = refl
        at (Some r) f = ne_eqb r q (λ e. absurd (let i = f r refl in omega (arith, i, h, e)))

    no_reach : (q k : ℕ) (b : Bool) (o : Option Thread) → leads_to (stage_at p k).next q ≡ false → thread_into p st q k b o ≡ None
    no_reach q k false o h = refl
    no_reach q k true None h = refl
    no_reach q k true (Some t) h =
        ap (λ c. if c then Some (thread_after (act_at p st k t)) else None) (not_reached (stage_at p k).next q (deeds p st k t).env h)

    -- after a stage nobody comes into it
    stands_after : (q n k : ℕ) → q < k → k + n ≤ length p.stages → next_thread p q (lined n k) ≡ None
    stands_after q zero k h e = refl
    stands_after q (suc n) k h e =
        stands_seen q k (stage_moves p st bits k) (here p st bits k) (lined n (suc k))
        ∙ ap₂ (λ a c. or_then a (or_then (left c (stage_moves p st bits k) (here p st bits k)) (next_thread p q (lined n (suc k)))))
        (no_way q k (stage_moves p st bits k) (here p st bits k) (omega (arith, e)) (omega (arith, h)))
        (ne_eqb k q (λ s. absurd (omega (arith, s, h))))
        ∙ stands_after q n (suc k) (omega (arith, h)) (omega (arith, e))

    stands_own : (q n : ℕ) → q + suc n ≤ length p.stages → next_thread p q (lined (suc n) q) ≡ Slots.staying_thread p st bits q
    stands_own q n e =
        stands_seen q q (stage_moves p st bits q) (here p st bits q) (lined n (suc q))
        ∙ ap₂ (λ a c. or_then a (or_then (left c (stage_moves p st bits q) (here p st bits q)) (next_thread p q (lined n (suc q)))))
        (no_way q q (stage_moves p st bits q) (here p st bits q) (omega (arith, e)) (omega arith)) (eqb_self q)
        ∙ ap (or_then (Slots.staying_thread p st bits q)) (stands_after q n (suc q) (omega arith) (omega (arith, e)))
        ∙ then_none (Slots.staying_thread p st bits q)

    stands_ways : (q m n j : ℕ) → j + m ≡ q → q + suc n ≤ length p.stages
        → next_thread p q (lined (m + suc n) j) ≡ or_then (first_of p st bits q (ways_from p q m j)) (Slots.staying_thread p st bits q)
    stands_ways q zero n j e l =
        let z : 0 + suc n ≡ suc n = omega arith in
        let i : j ≡ q = omega (arith, e) in
        ap₂ (λ a b. next_thread p q (lined a b)) z i ∙ stands_own q n l
    stands_ways q (suc m) n j e l =
        let z : suc m + suc n ≡ suc (m + suc n) = omega arith in
        ap (λ a. next_thread p q (lined a j)) z
        ∙ stands_seen q j (stage_moves p st bits j) (here p st bits j) (lined (m + suc n) (suc j))
        ∙ ap
        (λ c. or_then (passing_thread p st bits q j)
        (or_then (left c (stage_moves p st bits j) (here p st bits j)) (next_thread p q (lined (m + suc n) (suc j)))))
        (ne_eqb j q (λ s. absurd (omega (arith, s, e))))
        ∙ ap (or_then (passing_thread p st bits q j)) (stands_ways q m n (suc j) (omega (arith, e)) l)
        ∙ at (leads_to (stage_at p j).next q) refl
      where
        rest : List ℕ
        rest = ways_from p q m (suc j)

        at : (b : Bool) → leads_to (stage_at p j).next q ≡ b
            → or_then (passing_thread p st bits q j) (or_then (first_of p st bits q rest) (Slots.staying_thread p st bits q))
            ≡ or_then (first_of p st bits q (if b then j ∷ rest else rest)) (Slots.staying_thread p st bits q)
        at true h = sym (then_then (passing_thread p st bits q j) (first_of p st bits q rest) (Slots.staying_thread p st bits q))
        at false h =
            ap (λ o. or_then o (or_then (first_of p st bits q rest) (Slots.staying_thread p st bits q)))
            (no_reach q j (stage_moves p st bits j) (here p st bits j) h)

    -- after all moves a stage holds the thread that comes into it out of an earlier one, else the one that stays
    pub stands_at : (q : ℕ) → q < length p.stages
        → next_thread p q (lined (length p.stages) 0) ≡ or_then (arriving_thread p st bits q) (Slots.staying_thread p st bits q)
    stands_at q l =
        let n = length p.stages - suc q in
        let z : length p.stages ≡ q + suc n = omega (arith, l) in
        ap (λ a. next_thread p q (lined a 0)) z ∙ stands_ways q q n 0 (omega arith) (omega (arith, l))
