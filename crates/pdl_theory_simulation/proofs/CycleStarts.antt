-- What is known of each live thread at the start of a cycle of states that belong together, and the stated acts of the cycle in the order of the stages.
use Rattle.std.proofs.Common.{◌≡◌, sym, ap, ◌∙◌, subst, ◌<◌, Bool, List, length, zero-add}
use Rattle.pdl_semantics.specs.Flat.{Pipe}
use Rattle.pdl_semantics.specs.Machine.{State}
use Rattle.pdl_semantics.specs.Moves.{movers}
use Rattle.pdl_semantics.specs.Cycle.{squasher}
use Rattle.pdl_semantics.specs.Cycle
use Rattle.pdl_semantics.specs.Locks
use Rattle.pdl_semantics.specs.Machine
use Rattle.pdl_semantics.specs.Moves
use Rattle.pdl_theory_turns.specs.Derived
use Rattle.pdl_theory_turns.proofs.Slots.{stages_same}
use Rattle.pdl_theory_simulation.proofs.FlowFacts.{Flows}
use Rattle.pdl_theory_simulation.proofs.Seats.{Live, each_map, Rises, sacts, lacts, acts_slots}
use Rattle.pdl_theory_simulation.proofs.Choices.{Seated, AllKnown}
use Rattle.pdl_theory_simulation.proofs.ThreadFacts.{sorted, lives_of, find_sorted, rises_sorted}
use Rattle.pdl_theory_simulation.proofs.Orders.{known_all}
use Rattle.pdl_theory_simulation.proofs.ActOrder.{swaps_all, Swaps}
use Rattle.pdl_theory_simulation.proofs.SimulatedStates.{Sim}
use Rattle.pdl_word.specs.Each.{Each}

module _ (p : Pipe) (flows : Flows p) (st : State) (d : Derived.State) (bits : List Bool) (ls : List Live) (sim : Sim p st d ls) where
  -- in states that belong together, what is needed at the start of a cycle is known of each live thread
  pub known : AllKnown p flows st d bits sim.arrays ls
  known =
      known_all p flows st d bits sim.arrays ls sim.matched st.next ls sim.seated sim.ordered sim.falls
      (λ m a k i. ap (λ q. Machine.youngest q k a Locks.Nothing) (sim.locks m)) (λ m i. sim.locks m)

  -- each live thread stands in one of the pipe's stages
  pub inside_all : (ks : List Live) → Each (Seated p st) ks → Each (λ k. k.thread.stage < length p.stages) ks
  inside_all ks s = each_map (λ k h. h.keeps_on.inside) ks s

  -- the stated acts of a cycle, each decided by those of the later stages
  pub stated_acts : Moves.all_acts p st bits ≡ sacts p st bits (lives_of (sorted ls))
  stated_acts =
      ap (Moves.acts p st bits 0) (sim.stages ∙ stages_same _ _ 0 p.stages (λ q i. sym (find_sorted p q ls sim.ordered)))
      ∙ acts_slots p st bits p.stages 0 (lives_of (sorted ls))
      (subst (λ h. Rises 0 h (lives_of (sorted ls))) (sym (zero-add (length p.stages)))
      (rises_sorted p (length p.stages) ls (inside_all ls sim.seated) sim.ordered))

  -- two live threads that stand in another order by age than by stage can be exchanged
  pub swaps : Swaps p flows st d bits sim.arrays ls
  swaps = swaps_all p flows st d bits sim.arrays st.next ls known sim.ordered sim.falls

  -- the stated state after a cycle is that after the same acts by age
  abbrev pub next_state : State
  next_state =
      record (Cycle.after_these p st bits (lacts p st d bits ls) (movers (lacts p st d bits ls)) (squasher (movers (lacts p st d bits ls)))) {
        arrays = (Cycle.cycle p st bits).arrays;
      }
