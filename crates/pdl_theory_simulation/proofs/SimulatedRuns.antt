-- Whole runs of the stated and of the derived machine: they begin alike, and show the same.
use Rattle.std.proofs.Common.{◌≡◌, refl, sym, ap, ◌∙◌, subst, ℕ, zero, suc, Bool, true, false, List, [], ◌∷◌, ◌++◌, Some, None, ◌==◌, cond, arith, slice_index_or}
use Rattle.std.proofs.lemmas.Bool.{eqb-true, eqb-false}
use Rattle.pdl_semantics.specs.Flat.{Arrays, Pipe, Mem, Stage}
use Rattle.pdl_semantics.specs.Stages.{sides_of}
use Rattle.pdl_semantics.specs.Machine.{NoRequest, Pending}
use Rattle.pdl_semantics.specs.Cycle.{for_mems, for_stages}
use Rattle.pdl_semantics.specs.Cycle
use Rattle.pdl_theory_turns.specs.Derived.{asked_at}
use Rattle.pdl_theory_turns.specs.Derived
use Rattle.pdl_theory_simulation.proofs.FlowFacts.{Flows}
use Rattle.pdl_theory_turns.proofs.Slots.{stages_same}
use Rattle.pdl_theory_simulation.proofs.PerMemory.{mems_same}
use Rattle.pdl_theory_simulation.proofs.Stretches.{keeps_fresh}
use Rattle.pdl_theory_simulation.proofs.Seats.{Live}
use Rattle.pdl_theory_simulation.proofs.Choices.{Matched}
use Rattle.pdl_theory_simulation.proofs.SimulatedStates.{Sim}

module _ (p : Pipe) (flows : Flows p) where
  -- RUNS

  no_lists : (k m : ℕ) (xs : List Mem) → slice_index_or (for_mems {X = List Pending} (λ m. []) k xs) m [] ≡ []
  no_lists k m [] = refl
  no_lists k zero (x ∷ xs) = refl
  no_lists k (suc m) (x ∷ xs) = no_lists (suc k) m xs

  no_branches : (k f : ℕ) (xs : List Stage) → slice_index_or (for_stages {X = List Bool} (λ f. []) k xs) f [] ≡ []
  no_branches k f [] = refl
  no_branches k zero (x ∷ xs) = refl
  no_branches k (suc f) (x ∷ xs) = no_branches (suc k) f xs

  no_request : (k m : ℕ) (xs : List Mem) → slice_index_or (for_mems (λ m. NoRequest) k xs) m NoRequest ≡ NoRequest
  no_request k m [] = refl
  no_request k zero (x ∷ xs) = refl
  no_request k (suc m) (x ∷ xs) = no_request (suc k) m xs

  nothing_is : (k : ℕ) (xs : List Mem) → Derived.nothing_asked xs ≡ for_mems (λ m. None) k xs
  nothing_is k [] = refl
  nothing_is k (x ∷ xs) = ap (λ l. None ∷ l) (nothing_is (suc k) xs)

  nothing_at : (m : ℕ) (xs : List Mem) → slice_index_or (Derived.nothing_asked xs) m None ≡ None
  nothing_at m [] = refl
  nothing_at zero (x ∷ xs) = refl
  nothing_at (suc m) (x ∷ xs) = nothing_at m xs

  same_numbers : (a b : ℕ) → (a == b) ≡ (b == a)
  same_numbers a b = at (a == b) refl (b == a) refl
    where
      at : (x : Bool) → (a == b) ≡ x → (y : Bool) → (b == a) ≡ y → x ≡ y
      at true e true f = refl
      at true e false f = absurd (eqb-false b a f (sym (eqb-true a b e)))
      at false e true f = absurd (eqb-false a b e (sym (eqb-true b a f)))
      at false e false f = refl

  -- thread 1 in stage 0 with the start arguments
  abbrev pub first_live : Derived.Hint → Live
  first_live hint = record { number = 1; thread = Derived.fresh p hint p.start; env = (Derived.fresh p hint p.start).env; kept = []; advice = [] }

  -- the first states of both machines belong together, with thread 1 as the one live thread
  pub first_sim : (image : Arrays) (hints : ℕ → Derived.Hint) → Sim p (Cycle.first p image) (Derived.first p image hints) (first_live (hints 0) ∷ [])
  first_sim image hints =
      record {
        arrays = λ m plain. refl;
        threads = refl;
        stages = stages_same _ _ 0 p.stages (λ q i. ap (λ b. cond b (Cycle.born_thread p 1 (Some p.start)) None) (same_numbers q 0));
        locks = λ m. no_lists 0 m p.mems;
        falls = (omega arith, tt);
        ordered = (tt, tt);
        seated = (record { keeps_on = keeps_fresh p flows (hints 0) p.start; kept_in = refl; owned = tt }, tt);
        have_made = tt;
        forks = λ f. no_branches 0 f p.stages ∙ sym (ap (λ b. [] ++ sides_of f b) flows.graph.trunk_start);
        requests = mems_same _ _ 0 p.mems (λ m. sym (no_request 0 m p.mems));
        asked = nothing_is 0 p.mems ∙ mems_same _ _ 0 p.mems (λ m. sym (nothing_at m p.mems));
        matched =
            λ m. subst (λ q. Matched q (asked_at (Derived.first p image hints) m) m (first_live (hints 0) ∷ [])) (sym (no_request 0 m p.mems))
            (nothing_at m p.mems);
      }
