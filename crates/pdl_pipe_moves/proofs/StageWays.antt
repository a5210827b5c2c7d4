-- Where stages lead, and bits that open a stage's way.
use Rattle.std.proofs.Common.{◌≡◌, ◌==◌, ◌<◌, ℕ, refl, ap, ◌∙◌, length, eq-eqb}
use Rattle.std.proofs.lemmas.Bool.{or_left, or_right}
use Rattle.pdl_semantics.specs.Flat as flat
use Rattle.pdl_semantics.specs.Flat.{Next, Pipe}
use Rattle.pdl_semantics.specs.Stages.{stage_at}
use Rattle.pdl_machine_facts.specs.Slots.{leads_to}
use Rattle.pdl_pipe_moves.specs.Inside.{LeadsInside}

module _ (p : Pipe) (h : LeadsInside p) (k : ℕ) (low : k < length p.stages) where
  -- the stage to which stage k leads straight on is one of the pipe
  pub straight_low : (to : ℕ) → (stage_at p k).next ≡ flat.Goes to → to < length p.stages
  straight_low to e = (h k to low (ap (λ (n : Next). leads_to n to) e ∙ eq-eqb to to refl)).1

  -- the first branch of stage k, where it forks, begins with a stage of the pipe
  pub first_low : (x first second : ℕ) → (stage_at p k).next ≡ flat.Forks x first second → first < length p.stages
  first_low x first second e = (h k first low (ap (λ (n : Next). leads_to n first) e ∙ or_left (first == first) (second == first) (eq-eqb first first refl))).1

  -- the second branch of stage k, where it forks, begins with a stage of the pipe
  pub second_low : (x first second : ℕ) → (stage_at p k).next ≡ flat.Forks x first second → second < length p.stages
  second_low x first second e =
      (h k second low (ap (λ (n : Next). leads_to n second) e ∙ or_right (first == second) (second == second) (eq-eqb second second refl))).1
