-- A thread with this cycle's answers stands in its stage as it stood: answers change neither its number, nor its values and its guess.
use Rattle.std.proofs.Common.{◌≡◌, refl, ℕ, Bool, List, Option, Some, None}
use Rattle.pdl_semantics.specs.Flat.{Pipe}
use Rattle.pdl_semantics.specs.Machine.{Thread, State, with_answers}
use Rattle.pdl_machine_facts.specs.Slots.{slot, with_now, here}

-- a thread stands in stage k with the number, the values, the advice and the guess of this one
pub record Stood (st : State) (k : ℕ) (t : Thread) : Type 0 where
  pub thread : Thread
  pub slot : slot st k ≡ Some thread
  pub number : thread.number ≡ t.number
  pub env : thread.env ≡ t.env
  pub advice : thread.advice ≡ t.advice
  pub guess : thread.guess ≡ t.guess

-- a thread with this cycle's answers stands in its stage, with the same number, values and guess
pub stood : (p : Pipe) (st : State) (bits : List Bool) (k : ℕ) (t : Thread) → here p st bits k ≡ Some t → Stood st k t
stood p st bits k t h = at (slot st k) refl h
  where
    at : (o : Option Thread) → slot st k ≡ o → with_now p st bits o ≡ Some t → Stood st k t
    at None e h = absurd (cc h)
    at (Some u) e h = let same : with_answers p st bits u ≡ t = cc h in record {
      thread = u;
      slot = e;
      number = Rattle.std.proofs.Common.ap (λ (v : Thread). v.number) same;
      env = Rattle.std.proofs.Common.ap (λ (v : Thread). v.env) same;
      advice = Rattle.std.proofs.Common.ap (λ (v : Thread). v.advice) same;
      guess = Rattle.std.proofs.Common.ap (λ (v : Thread). v.guess) same;
    }
