-- What a squash does in a cycle, as the law of the netlist takes it, and that the second tickets go on to stand.
use Rattle.std.proofs.Common.{◌≡◌, sym, ◌∙◌, ℕ, ◌<◌, ◌≤◌, ⊎_elim, Bool, true, List, length, Some, None, arith}
use Rattle.std.proofs.lemmas.Bool.{cases_lt}
use Rattle.std.proofs.lemmas.List.{get_or_past}
use Rattle.pdl_semantics.specs.Flat.{Pipe, Arrays}
use Rattle.pdl_semantics.specs.Stages.{verify_stage}
use Rattle.pdl_semantics.specs.Machine as machine
use Rattle.pdl_semantics.specs.Machine.{Thread}
use Rattle.pdl_semantics.specs.Cycle.{cycle, first}
use Rattle.pdl_theory_turns.specs.Facts.{Sound}
use Rattle.pdl_net.specs.Circuit.{Circuit, State}
use Rattle.pdl_net.specs.Signal.{Signal}
use Rattle.pdl_net.specs.Cycle.{next_regs, next_arrays}
use Rattle.pdl_net.specs.Well.{Suits}
use Rattle.pdl_machine_facts.specs.Slots.{LeadsOn, slot}
use Rattle.pdl_machine_facts.specs.Cycle.{IsByStages}
use Rattle.pdl_law_parts.specs.Served.{IsServed}
use Rattle.pdl_machine_lockuse.specs.Cut.{IsCut}
use Rattle.pdl_law_parts.specs.Walk.{Locks, is_locked}
use Rattle.pdl_law_parts.specs.Advice.{IsAdvisedApart}
use Rattle.pdl_law_parts.specs.Views.{View, Gates}
use Rattle.pdl_law_parts.specs.Compiled.{IsLaid}
use Rattle.pdl_law_parts.specs.Stands.{StandsLock, IsSeen, IsSquashed}
use Rattle.pdl_law_parts.proofs.AnsweredThreads.{stood}
use Rattle.pdl_machine_inflight.specs.InFlight.{InFlight, UpdatesTogether}
use Rattle.pdl_machine_inflight.proofs.SquashStages.{squash_early}
use Rattle.pdl_machine_inflight.proofs.Squashes.{stood_in, squasher_in}
use Rattle.pdl_law_sides.specs.Sides.{Sides}
use Rattle.pdl_law_sides.specs.HasSides.{HasSides}
use Rattle.pdl_law_follows.proofs.Removals.{squash_is, squashes_told, kill_here}
use Rattle.pdl_law_follows.proofs.Tails.{StandTails, tails_first, tail_is, tails_kept}

-- the second tickets of the threads up to V, where there is a V
abbrev pub TailsStand : Pipe → Locks → (ℕ → View) → Sides → State → machine.State → Type 0
TailsStand p ls vs sides s st = (v : ℕ) → verify_stage p.stmts ≡ Some v → StandTails p ls vs sides v s st

-- at the start the second tickets of the threads up to V stand
pub tails_start : (p : Pipe) (ls : Locks) (vs : ℕ → View) (sides : Sides) (image : Arrays) (s : State)
    → TailsStand p ls vs sides s (first p image)
tails_start p ls vs sides image s v is = tails_first p ls vs sides v image s

module _ (p : Pipe) (sound : Sound p) (together : UpdatesTogether p) (leads : LeadsOn p) (apart : IsAdvisedApart p) (ls : Locks) (c : Circuit) (vs : ℕ → View) (gates : Gates)
    (moves : ℕ → Signal) (made : IsLaid p ls vs gates moves c) (sides : Sides)
    (has : HasSides p ls c vs gates moves sides)
    (s : State) (st : machine.State) (bits : List Bool) (suits : Suits c s) (flight : InFlight p st)
    (by : IsByStages p st bits) (used : IsServed p st bits) (cut : IsCut p st bits)
    (seen : (j : ℕ) → j < length p.stages → IsSeen p vs moves s st bits j) (tails : TailsStand p ls vs sides s st) where
  stage_there : (k : ℕ) (t : Thread) → slot st k ≡ Some t → k < length p.stages
  stage_there k t e = ⊎_elim
      (λ (l : k < length p.stages). l)
      (λ (l : length p.stages ≤ k). absurd (none_some (sym (get_or_past st.stages k None (let n = flight.count in omega (arith, n, l))) ∙ e)))
      (cases_lt k (length p.stages))
    where
      none_some : None ≡ Some t → ⊥
      none_some i = cc i

  -- squash, removals and cuts are as the machine's
  pub squashed_is : IsSquashed p ls vs gates s st bits
  squashed_is = record {
    kill =
        λ k t h g.
        (let l = (let u = stood_in p st bits k t h in stage_there k u.0 u.1) in
        kill_here p sound together c vs gates moves sides has.removals s st bits suits flight by (λ j i. (seen j i).valid) seen k t l h);
    squash = squash_is p sound together c vs gates moves sides has.removals s st bits suits flight by (λ j i. (seen j i).valid) seen;
    tail =
        λ m n locked stand e.
        (let z = (squasher_in p sound together st bits flight n e).1 in
        let v = squash_early p (squasher_in p sound together st bits flight n e).0 z in
        tail_is p sound together leads apart ls c vs gates moves made sides v.0 v.1 (has.tails v.0 v.1) s st bits suits flight by used cut seen (stood p st bits)
        (tails v.0 v.1) m locked stand
        (squashes_told p sound together c vs gates moves sides has.removals s st bits suits flight by (λ j i. (seen j i).valid) seen) n e);
  }

  -- the second tickets go on to stand
  pub tails_next : ((m : ℕ) → is_locked p m ≡ true → StandsLock p ls vs s st m) → (t : State) → t.regs ≡ next_regs c s
      → t.arrays ≡ next_arrays c s → TailsStand p ls vs sides t (cycle p st bits)
  tails_next locks t regs arrays v is =
      tails_kept p sound together leads apart ls c vs gates moves made sides v is (has.tails v is) s st bits suits flight by used cut seen (stood p st bits)
      (tails v is) locks squashed_is t regs arrays
