-- A fork's list is no longer than its branches have stages.
use Rattle.std.proofs.Common.{◌≡◌, refl, sym, ap, ap₂, ◌∙◌, subst, ℕ, zero, suc, ◌+◌, ◌<◌, ◌≤◌, Bool, true, false, List, [], ◌∷◌, length, Some, None, is_some, ◌==◌, cond, arith, ne_eqb, eq-eqb, length-append}
use Rattle.std.specs.Prelude.{if◌then◌else◌, slice_index_or, count_by}
use Rattle.std.proofs.lemmas.Bool.{eqb-true, eqb-false}
use Rattle.std.proofs.lemmas.List.Recursion.{is_count_by}
use Rattle.pdl_semantics.specs.Flat.{Pipe, Branch, Stage}
use Rattle.pdl_semantics.specs.Stages.{stage_at, last_stage, list_any, is_inside, sides_of}
use Rattle.pdl_semantics.specs.Machine.{State, fork_of}
use Rattle.pdl_theory_turns.proofs.Nested.{inside_at, sides_inside, sides_outside}
use Rattle.pdl_theory_simulation.proofs.FlowFacts.{Ways}
use Rattle.pdl_theory_turns.specs.Derived
use Rattle.pdl_theory_simulation.proofs.Stretches.{Behind, less_home}
use Rattle.pdl_theory_simulation.proofs.Seats.{Live, seat, find, Ordered}
use Rattle.pdl_theory_simulation.proofs.ThreadFacts.{sides}
use Rattle.pdl_theory_simulation.proofs.SimulatedStates.{Sim}
use Rattle.pdl_machine_inflight.specs.Readings.{branch_stages}
use Rattle.pdl_word.specs.Each.{Each}

-- SUMS OVER STAGES

abbrev total : (ℕ → ℕ) → ℕ → ℕ
total f zero = 0
total f (suc n) = total f n + f n

total_le : (f g : ℕ → ℕ) (n : ℕ) → ((k : ℕ) → f k ≤ g k) → total f n ≤ total g n
total_le f g zero h = omega arith
total_le f g (suc n) h = let r = total_le f g n h in let k = h n in omega (arith, r, k)

total_same : (f g : ℕ → ℕ) (n : ℕ) → ((k : ℕ) → k < n → f k ≡ g k) → total f n ≡ total g n
total_same f g zero h = refl
total_same f g (suc n) h = ap₂ (λ a b. a + b) (total_same f g n (λ k l. h k (omega (arith, l)))) (h n (omega arith))

-- one more at one place
total_one : (f g : ℕ → ℕ) (s c : ℕ) → ((k : ℕ) → (k ≡ s → ⊥) → f k ≡ g k) → f s ≡ c + g s → (n : ℕ) → s < n → total f n ≡ c + total g n
total_one f g s c other here zero l = absurd (omega (arith, l))
total_one f g s c other here (suc n) l = at (n == s) refl (λ i. total_one f g s c other here n i)
  where
    at : (b : Bool) → (n == s) ≡ b → (s < n → total f n ≡ c + total g n) → total f n + f n ≡ c + (total g n + g n)
    at true e before =
        let same = eqb-true n s e in
        let rest = total_same f g n (λ k low. other k (λ i. absurd (omega (arith, i, low, same)))) in
        let mine : f n ≡ c + g n = subst (λ j. f j ≡ c + g j) (sym same) here in omega (arith, rest, mine)
    at false e before =
        let apart = eqb-false n s e in
        let rest = before (omega (arith, l, apart)) in
        let mine = other n apart in omega (arith, rest, mine)

total_shift : (f : ℕ → ℕ) (n : ℕ) → total f (suc n) ≡ f 0 + total (λ k. f (suc k)) n
total_shift f zero = omega arith
total_shift f (suc n) = let r = total_shift f n in omega (arith, r)

-- THE THREADS INSIDE

abbrev side_count : ℕ → List Branch → ℕ
side_count f bs = if list_any (λ (b : Branch). b.fork == f) bs then 1 else 0

-- a stage stands in one branch of a fork at most
side_long : (p : Pipe) → Ways p → (f s : ℕ) → length (sides_of f (stage_at p s).branches) ≡ side_count f (stage_at p s).branches
side_long p g f s = at (is_inside p f s) refl
  where
    at : (b : Bool) → is_inside p f s ≡ b → length (sides_of f (stage_at p s).branches) ≡ (if is_inside p f s then 1 else 0)
    at true e =
        inside_at p f s e (λ x c w same. ap length (sides_inside p g.fork_below f x c s w same))
        ∙ sym (ap (λ b. if b then 1 else 0) e)
    at false e = ap length (sides_outside f (stage_at p s).branches e) ∙ sym (ap (λ b. if b then 1 else 0) e)

stages_counted : (f : ℕ) (xs : List Stage)
    → total (λ k. side_count f (slice_index_or xs k last_stage).branches) (length xs) ≡ count_by
    (λ (x : Stage). list_any (λ (b : Branch). b.fork == f) x.branches) xs
stages_counted f xs =
    is_count_by (λ ys. total (λ k. side_count f (slice_index_or ys k last_stage).branches) (length ys))
    (λ (x : Stage). list_any (λ (b : Branch). b.fork == f) x.branches) refl one xs
  where
    at : (b : Bool) (n : ℕ) → (if b then 1 else 0) + n ≡ cond b (1 + n) n
    at true n = refl
    at false n = omega arith

    one : (x : Stage) (ys : List Stage)
        → total (λ k. side_count f (slice_index_or (x ∷ ys) k last_stage).branches) (suc (length ys))
        ≡ cond (list_any (λ (b : Branch). b.fork == f) x.branches)
        (1 + total (λ k. side_count f (slice_index_or ys k last_stage).branches) (length ys))
        (total (λ k. side_count f (slice_index_or ys k last_stage).branches) (length ys))
    one x ys =
        total_shift (λ k. side_count f (slice_index_or (x ∷ ys) k last_stage).branches) (length ys)
        ∙ at (list_any (λ (b : Branch). b.fork == f) x.branches) (total (λ k. side_count f (slice_index_or ys k last_stage).branches) (length ys))

module _ (p : Pipe) (g : Ways p) (f : ℕ) where
  abbrev inside_of_at : ℕ → ℕ
  inside_of_at k = side_count f (stage_at p k).branches

  abbrev held_at : List Live → ℕ → ℕ
  held_at ls k = if is_some (find k ls) then inside_of_at k else 0

  not_found : (l : Live) (ks : List Live) → Each (λ k. Behind p l.thread.stage k.thread.stage) ks → find l.thread.stage ks ≡ None
  not_found l [] h = refl
  not_found l (k ∷ ks) h =
      ap (λ b. cond b (Some (seat k)) (find l.thread.stage ks))
      (ne_eqb k.thread.stage l.thread.stage (λ e. (let low = less_home p _ _ h.0 (ap (λ s. (stage_at p s).branches) (sym e)) in omega (arith, low, e))))
      ∙ not_found l ks h.1

  sides_counted : (ls : List Live) (n : ℕ) → Ordered p ls → Each (λ l. l.thread.stage < n) ls → length (sides p f ls) ≡ total (held_at ls) n
  sides_counted [] n o h = sym (none n)
    where
      none : (n : ℕ) → total (held_at []) n ≡ 0
      none zero = refl
      none (suc n) = let r = none n in omega (arith, r)
  sides_counted (l ∷ ls) n o h =
      length-append (sides p f ls) (sides_of f (stage_at p l.thread.stage).branches)
      ∙ ap₂ (λ a b. a + b) (sides_counted ls n o.1 h.1) (side_long p g f l.thread.stage)
      ∙ (let r = total_one (held_at (l ∷ ls)) (held_at ls) l.thread.stage (inside_of_at l.thread.stage) other here n h.0 in omega (arith, r))
    where
      other : (k : ℕ) → (k ≡ l.thread.stage → ⊥) → held_at (l ∷ ls) k ≡ held_at ls k
      other k e = ap (λ b. if is_some (if b then Some (seat l) else find k ls) then inside_of_at k else 0) (ne_eqb l.thread.stage k (λ i. e (sym i)))

      here : held_at (l ∷ ls) l.thread.stage ≡ inside_of_at l.thread.stage + held_at ls l.thread.stage
      here =
          ap (λ b. if is_some (if b then Some (seat l) else find l.thread.stage ls) then inside_of_at l.thread.stage else 0)
          (eq-eqb l.thread.stage l.thread.stage refl)
          ∙ (let z = ap (λ o. if is_some o then inside_of_at l.thread.stage else 0) (not_found l ls o.0) in omega (arith, z))

  sides_few : (ls : List Live) → Ordered p ls → Each (λ l. l.thread.stage < length p.stages) ls → length (sides p f ls) ≤ branch_stages p f
  sides_few ls o h =
      let a = sides_counted ls (length p.stages) o h in
      let b = total_le (held_at ls) inside_of_at (length p.stages) (λ k. at (is_some (find k ls)) (inside_of_at k)) in
      let c = stages_counted f p.stages in
      omega (arith, a, b, c)
    where
      at : (b : Bool) (n : ℕ) → (if b then n else 0) ≤ n
      at true n = omega arith
      at false n = omega arith

-- a fork's list is no longer than its branches have stages, where the state stands for live threads
pub list_few : (p : Pipe) → Ways p → (st : State) (d : Derived.State) (ls : List Live) → Sim p st d ls → (f : ℕ)
    → length (fork_of st f) ≤ branch_stages p f
list_few p g st d ls sim f =
    subst (λ (xs : List Bool). length xs ≤ branch_stages p f) (sym (sim.forks f))
    (sides_few p g f ls sim.ordered (Rattle.pdl_theory_simulation.proofs.Seats.each_map (λ l s. s.keeps_on.inside) ls sim.seated))
