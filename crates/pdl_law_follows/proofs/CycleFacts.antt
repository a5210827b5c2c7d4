-- What is known of a cycle from each state that a run of a sound pipe comes to.
use Rattle.std.proofs.Common.{sym, ap, ◌∙◌, subst, Bool, List, [], ◌∷◌, ◌++◌}
use Rattle.pdl_semantics.specs.Flat.{Arrays, Pipe}
use Rattle.pdl_semantics.specs.Cycle.{first, state_after, squasher, is_kept}
use Rattle.pdl_theory_turns.specs.Facts.{Sound}
use Rattle.pdl_theory_states.specs.Strict.{Strict}
use Rattle.pdl_machine_facts.specs.Use.{IsInUse}
use Rattle.pdl_machine_lockuse.specs.Careful.{Careful}
use Rattle.pdl_machine_lockuse.specs.Use.{IsSpared}
use Rattle.pdl_machine_lockuse.proofs.Acts.{at_here}
use Rattle.pdl_machine_lockuse.proofs.InRuns.{stages_here, in_use_here, spared_here}
use Rattle.pdl_machine_lockuse.proofs.Slotwise.{cut_here}
use Rattle.pdl_machine_inflight.specs.Readings.{Reads}
use Rattle.pdl_machine_inflight.specs.InFlight.{InFlight}
use Rattle.pdl_machine_inflight.proofs.Flights.{flights}
use Rattle.pdl_law_follows.specs.StandingStates.{IsKnown}
use Rattle.pdl_law_follows.proofs.OwnPending.{served_here}
use Rattle.pdl_semantics.proofs.Facts.{after_more}

-- all that is known of a cycle is known in each state that a run of a sound and strict pipe comes to
pub known_here : (p : Pipe) → Sound p → Strict p → Careful p → Reads p
    → (image : Arrays) (before : List (List Bool)) (bits : List Bool)
    → IsKnown p (state_after p (first p image) before) bits
known_here p sound strict careful reads image before bits = record {
  by = stages_here p sound strict image before bits;
  used =
      served_here p sound strict careful image before bits (stages_here p sound strict image before bits) (in_use_here p sound strict image before bits careful);
  later = subst (λ st. IsInUse p st []) (after_more p (first p image) before bits) (in_use_here p sound strict image (before ++ bits ∷ []) [] careful);
  cut = cut_here p sound strict image before bits;
  flight = flights p sound strict reads image before;
  next = subst (InFlight p) (after_more p (first p image) before bits) (flights p sound strict reads image (before ++ bits ∷ []));
  spared =
      λ k t h g. ap (λ ms. is_kept (squasher ms) t.number) (sym (stages_here p sound strict image before bits).movers)
      ∙ at_here p (state_after p (first p image) before) bits (IsSpared p (state_after p (first p image) before) bits)
      (spared_here p sound strict image before bits) k t h g;
}
