-- No stage leads to the first one, so no answer comes there.
use Rattle.std.proofs.Common.{◌≡◌, refl, ap, ap₂, ◌∙◌, ℕ, zero, suc, ◌<◌, ◌≤◌, ◌==◌, Bool, true, false, ◌&&◌, ◌||◌, ◌⊎◌, inl, inr, length, replicate, arith}
use Rattle.std.specs.Prelude.{List, Option, Some, None, if◌then◌else◌}
use Rattle.std.proofs.lemmas.Bool.{eqb-true, false≢true, cases_lt}
use Rattle.std.proofs.lemmas.List.{get_or_past, get_or-replicate}
use Rattle.pdl_semantics.specs.Flat as flat
use Rattle.pdl_semantics.specs.Flat.{Next, Pipe, Stage}
use Rattle.pdl_semantics.specs.Stages.{stage_at, last_stage, goes_to}
use Rattle.pdl_machine_facts.specs.Slots.{LeadsOn, leads_to}
use Rattle.pdl_machine_inflight.specs.Readings.{Reading, reading}
use Rattle.pdl_pipe_answers.specs.Readings.{gets_one, gets_some, gets_answer}
use Rattle.pdl_pipe_emitted.specs.MadeLine.{BeginsFirst}

-- a stage that may lead to another one does so by some values
goes_there : (n : Next) (q : ℕ) → leads_to n q ≡ true → (env : List ℕ) × (goes_to n env ≡ Some q)
goes_there flat.Ends q e = absurd (false≢true e)
goes_there (flat.Goes to) q e = (replicate 0 0, ap Some (eqb-true to q e))
goes_there (flat.Forks x first second) q e = at (first == q) refl e
  where
    at : (b : Bool) → (first == q) ≡ b → (b || (second == q)) ≡ true → (env : List ℕ) × (goes_to (flat.Forks x first second) env ≡ Some q)
    at true h k =
        (replicate (suc x) 1, ap (λ n. Some (if n == 1 then first else second)) (get_or-replicate (suc x) x 1 0 (omega arith)) ∙ ap Some (eqb-true first q h))
    at false h k =
        (replicate (suc x) 0, ap (λ n. Some (if n == 1 then first else second)) (get_or-replicate (suc x) x 0 0 (omega arith)) ∙ ap Some (eqb-true second q k))

-- where threads go to later stages, stages lead to later ones
pub leads_up : (p : Pipe) → LeadsOn p → (j q : ℕ)
    → j < length p.stages → leads_to (stage_at p j).next q ≡ true → (j < q) × (q < length p.stages)
leads_up p on j q l e = let there = goes_there (stage_at p j).next q e in on.up j q there.0 l there.1

-- threads begin in the first stage, to which none leads, where stages lead on to later ones
pub begins_first : (p : Pipe) → LeadsOn p → 0 < length p.stages → length p.start ≤ p.vars → BeginsFirst p
begins_first p on some params = record { some = some; params = params; first = λ j l. at j l (leads_to (stage_at p j).next 0) refl }
  where
    at : (j : ℕ) → j < length p.stages → (b : Bool) → leads_to (stage_at p j).next 0 ≡ b → b ≡ false
    at j l false e = refl
    at j l true e = let up = (leads_up p on j 0 l e).0 in absurd (omega (arith, up))

-- ---- answers

module _ (p : Pipe) (begins : BeginsFirst p) where
  none_leads : (j : ℕ) → leads_to (stage_at p j).next 0 ≡ false
  none_leads j = at (cases_lt j (length p.stages))
    where
      at : (j < length p.stages) ⊎ (length p.stages ≤ j) → leads_to (stage_at p j).next 0 ≡ false
      at (inl low) = begins.first j low
      at (inr high) = ap (λ (s : Stage). leads_to s.next 0) (get_or_past p.stages j last_stage high)

  one_none : (x : ℕ) (o : Option Reading) → gets_one p 0 x o ≡ false
  one_none x None = refl
  one_none x (Some r) = ap (λ b. (r.var == x) && b) (none_leads r.stage) ∙ never (r.var == x)
    where
      never : (b : Bool) → (b && false) ≡ false
      never true = refl
      never false = refl

  some_none : (x n m : ℕ) → gets_some p 0 x n m ≡ false
  some_none x zero m = refl
  some_none x (suc n) m = ap₂ (λ a b. a || b) (one_none x (reading p m)) (some_none x n (suc m))

  -- no answer comes for a variable in the first stage
  pub first_unanswered : (x : ℕ) → gets_answer p 0 x ≡ false
  first_unanswered x = some_none x (length p.mems) 0
