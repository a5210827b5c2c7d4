-- Answers of delayed reads, as lists.
use Rattle.std.proofs.Common.{◌≡◌, refl, ap, ℕ, Bool, List, [], ◌∷◌, ◌++◌, map, Option, Some, None, if◌then◌else◌, is_some, is_none}
use Rattle.std.specs.Prelude.{filter}
use Rattle.pdl_semantics.specs.Flat.{Pipe}
use Rattle.pdl_semantics.specs.Machine.{Awaited, State, answer_for, unanswered_reads}
use Rattle.pdl_machine_run.specs.declared.stage.Awaited as r_awaited
use Rattle.pdl_machine_run.specs.View.{awaited_view}

-- a thread's awaited reads without those that have an answer are its unanswered ones
pub unanswered_filtered : (p : Pipe) (st : State) (bits : List Bool) (thread : ℕ) (xs : List r_awaited.Awaited)
    → map awaited_view (filter (λ (r : r_awaited.Awaited). is_none (answer_for p st bits thread r.mem)) xs)
    ≡ unanswered_reads p st bits thread (map awaited_view xs)
unanswered_filtered p st bits thread [] = refl
unanswered_filtered p st bits thread (x ∷ xs) = at (answer_for p st bits thread x.mem) (unanswered_filtered p st bits thread xs)
  where
    rest : List r_awaited.Awaited → List r_awaited.Awaited
    rest ys = filter (λ (r : r_awaited.Awaited). is_none (answer_for p st bits thread r.mem)) ys

    at : (o : Option ℕ) → map awaited_view (rest xs) ≡ unanswered_reads p st bits thread (map awaited_view xs)
        → map awaited_view (if is_none o then x ∷ rest xs else rest xs)
        ≡ (if is_some o then [] else awaited_view x ∷ []) ++ unanswered_reads p st bits thread (map awaited_view xs)
    at None h = ap (λ (rs : List Awaited). awaited_view x ∷ rs) h
    at (Some w) h = h
