-- The words of a memory that isn't advisory change by what is released alone.
use Rattle.std.proofs.Common.{◌≡◌, sym, ap, ◌∙◌, ℕ, suc, ◌<◌, Bool, false, List, [], ◌∷◌, length, Option, Some, None}
use Rattle.pdl_semantics.specs.Flat.{is_advisory, Pipe}
use Rattle.pdl_semantics.specs.Stages.{in_stage, mem_at}
use Rattle.pdl_semantics.specs.Machine.{Thread, State, with_answers, word_for}
use Rattle.pdl_semantics.specs.Moves.{Act, acts, all_acts}
use Rattle.pdl_semantics.specs.Cycle.{cycle, taken_out, with_commit, with_all_advised}
use Rattle.pdl_semantics.specs.Promises.{KeepsAdvice}
use Rattle.pdl_theory_simulation.proofs.Advising.{EachAdvisory, advises_all, fits_stage, advice_apart}
use Rattle.pdl_machine_facts.specs.Slots.{moving}
use Rattle.pdl_machine_facts.specs.Cycle.{IsByStages}

module _ (p : Pipe) (advice : KeepsAdvice p) (st : State) (bits : List Bool) where
  acts_advise : (s : ℕ) (xs : List (Option Thread)) → EachAdvisory p (acts p st bits s xs)
  acts_advise s [] = tt
  acts_advise s (None ∷ xs) = acts_advise (suc s) xs
  acts_advise s (Some t ∷ xs) = (
    advises_all p (word_for st (with_answers p st bits t).number) (in_stage s p.stmts) _ (fits_stage p s p.stmts advice) tt,
    acts_advise (suc s) xs,
  )

  -- a cycle puts into such a memory what is released, the oldest first
  pub plain_next : IsByStages p st bits → (m : ℕ) → m < length p.mems → is_advisory (mem_at p m).kind ≡ false
      → (cycle p st bits).arrays m ≡ with_commit st.arrays m (taken_out st (moving p st bits) m) m
  plain_next by m low plain =
      by.arrays m low
      ∙ sym (ap (λ (ms : List Act). with_all_advised ms (with_commit st.arrays m (taken_out st (moving p st bits) m)) m) by.movers)
      ∙ advice_apart p m (all_acts p st bits) (with_commit st.arrays m (taken_out st (moving p st bits) m)) plain (acts_advise 0 st.stages)
