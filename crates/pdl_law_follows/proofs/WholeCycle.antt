-- A netlist of a whole pipe in one cycle: each stage is as the machine's, squashes are as they should be, and the next state stands for the machine's next state.
use Rattle.std.proofs.Common.{◌≡◌, sym, ap, ◌∙◌, subst, ℕ, ◌<◌, Bool, true, false, ◌&&◌, List, length, map, Some}
use Rattle.std.specs.Prelude.{slice_index}
use Rattle.pdl_word.specs.Words.{bit}
use Rattle.pdl_word.proofs.Bools.{by_bool}
use Rattle.pdl_semantics.proofs.Facts.{kept_append, kept_long}
use Rattle.pdl_semantics.specs.Flat.{Arrays, Pipe}
use Rattle.pdl_semantics.specs.Stages.{stage_at, verify_stage}
use Rattle.pdl_semantics.specs.Updates.{squash_stages}
use Rattle.pdl_semantics.specs.Machine as machine
use Rattle.pdl_semantics.specs.Machine.{Thread, answered_reads, with_answers, deeds, fork_of, with_kept}
use Rattle.pdl_semantics.specs.Moves.{is_empty, no_failure, ports_free, barrier_clear, merges_well, next_stage}
use Rattle.pdl_semantics.specs.Cycle.{first, cycle, squasher}
use Rattle.pdl_net.specs.declared.Reg.{Reg}
use Rattle.pdl_net.specs.Circuit.{Circuit, State}
use Rattle.pdl_net.specs.Signal.{Signal}
use Rattle.pdl_net.specs.Cycle.{next_regs, next_arrays}
use Rattle.pdl_net.specs.Well.{Suits}
use Rattle.pdl_machine_facts.specs.Slots.{slot, here, later_acts, may_pass, moving}
use Rattle.pdl_machine_facts.proofs.PlainWords.{plain_next}
use Rattle.pdl_law_parts.specs.Walk.{Locks, both}
use Rattle.pdl_law_parts.specs.Advice.{is_advised_in, AreAdvised}
use Rattle.pdl_law_parts.specs.Views.{View, Gates, way_on}
use Rattle.pdl_law_parts.specs.Compiled.{IsLaid}
use Rattle.pdl_law_parts.specs.Beside.{TellsGate}
use Rattle.pdl_law_parts.specs.Stands.{IsEnv, StandsFor, IsSeen, IsSquashed}
use Rattle.pdl_law_parts.proofs.Signals.{both_at}
use Rattle.pdl_law_parts.proofs.AnsweredThreads.{stood}
use Rattle.pdl_law_parts.proofs.AdvisedValues.{plain_value, over_same}
use Rattle.pdl_law_parts.proofs.Moves.{all_seen, fork_value}
use Rattle.pdl_law_parts.proofs.Comers.{Spares}
use Rattle.pdl_law_parts.proofs.NextState.{stands_after}
use Rattle.pdl_machine_inflight.specs.Readings.{Reading, reading}
use Rattle.pdl_machine_inflight.proofs.Squashes.{stood_in}
use Rattle.pdl_machine_inflight.proofs.Answers.{not_bound}
use Rattle.pdl_machine_inflight.proofs.DeedsIn.{verified_later}
use Rattle.pdl_law_sides.specs.Sides.{Sides, answers_of, with_answer, all_answered, unsquashed, ports_open, clear_to, barrier_open, turn}
use Rattle.pdl_law_sides.specs.HasSides.{HasSides}
use Rattle.pdl_law_follows.specs.StandingStates.{IsLawful, IsKnown}
use Rattle.pdl_law_follows.proofs.AdvisedAnswers.{not_answered, not_awaited}
use Rattle.pdl_law_follows.proofs.PortSides.{PortStands, IsGiven, awaits_told, variable_told, ports_told}
use Rattle.pdl_law_follows.proofs.PortsNext.{ports_first, ports_next}
use Rattle.pdl_law_follows.proofs.Removals.{removes, unsquashed_is, barrier_is, emptied_told, kill_is}
use Rattle.pdl_law_follows.proofs.OrderSides.{order_starts, order_kept, merges_is}
use Rattle.pdl_law_follows.proofs.SquashSides.{TailsStand, tails_start, squashed_is, tails_next}

-- the stages and the locks, the ports, the orders, and the second tickets stand for the machine's
pub record WholeStands (p : Pipe) (ls : Locks) (vs : ℕ → View) (sides : Sides) (s : State) (st : machine.State) : Type 0 where
  pub stands : StandsFor p ls vs s st
  pub ports : (m : ℕ) (r : Reading) → reading p m ≡ Some r → PortStands p sides s st m r
  pub orders : (f q : ℕ) → f < length p.stages → (stage_at p q).merges ≡ Some f → (sides.order f).stands s (fork_of st f)
  pub tails : TailsStand p ls vs sides s st

module _ (p : Pipe) (lawful : IsLawful p) (ls : Locks) (vs : ℕ → View) (gates : Gates) (moves : ℕ → Signal)
    (sides : Sides) (c : Circuit) (laid : IsLaid p ls vs gates moves c)
    (beside : HasSides p ls c vs gates moves sides) where
  -- THE START

  -- with registers at reset, where stages and locks stand for the machine's first state, so do ports, orders and second tickets
  pub whole_first : (image : Arrays) (s : State) → s.regs ≡ map (λ (r : Reg). r.reset) c.regs
      → StandsFor p ls vs s (first p image) → WholeStands p ls vs sides s (first p image)
  whole_first image s regs stands = record {
    stands = stands;
    ports = λ m r is. ports_first p c vs gates moves sides (beside.port_owns m) m r (beside.ports m r is) image s regs;
    orders = λ f q low e. order_starts p c vs gates moves sides (beside.order_owns f) f low (beside.orders f q low e) image s regs;
    tails = tails_start p ls vs sides image s;
  }

  -- A CYCLE

  module _ (s : State) (st : machine.State) (bits : List Bool) (suits : Suits c s) (known : IsKnown p st bits)
      (whole : WholeStands p ls vs sides s st) (given : IsGiven p sides s st bits) where
    -- a variable with the answers of this cycle, under what is advised
    answered : (k : ℕ) (u : Thread) → slot st k ≡ Some u → (x : ℕ) (kept : Signal)
        → kept.value s ≡ slice_index (with_kept u.advice (with_kept u.kept u.env)) x
        → (with_answer p (answers_of sides) k x kept).value s ≡ slice_index (with_kept u.advice (with_kept (with_answers p st bits u).kept u.env)) x
    answered k u f x kept e = by_bool (is_advised_in p x) _ advised plain
      where
        before : List ℕ
        before = with_kept u.kept u.env

        after : List ℕ
        after = with_kept (with_answers p st bits u).kept u.env

        told : AreAdvised p u.advice
        told = whole.stands.advice k u f

        Goal : Type 0
        Goal = (with_answer p (answers_of sides) k x kept).value s ≡ slice_index (with_kept u.advice after) x

        plain : is_advised_in p x ≡ false → Goal
        plain h =
            variable_told p lawful.reads lawful.leads lawful.inside c vs gates moves sides beside.port_owns beside.ports s st bits known.flight known.by whole.ports given k u f
            (whole.stands.long k u f) x kept (e ∙ plain_value p u.advice before x told h)
            ∙ sym (plain_value p u.advice after x told h)

        advised : is_advised_in p x ≡ true → Goal
        advised h =
            ap (λ (f : Signal). f.value s) (not_answered p lawful.apart x h (answers_of sides) k (length p.mems) 0 kept)
            ∙ e
            ∙ over_same u.advice before after x (kept_long u.kept u.env ∙ sym (kept_long (with_answers p st bits u).kept u.env))
            (sym
            (not_bound p st bits k u.number x u.awaits before (known.flight.awaited k u f)
            (not_awaited p lawful.apart x h st bits k u.number u.awaits (known.flight.awaited k u f)))
            ∙ sym (ap (λ l. slice_index l x) (kept_append u.kept (answered_reads p st bits u.number u.awaits) u.env)))

    -- each walk begins with the answers
    answers : (k : ℕ) (t : Thread) → k < length p.stages → here p st bits k ≡ Some t
        → IsEnv p k s (vs k).begun.vars (with_kept t.advice (with_kept t.kept t.env))
    answers k t l h x live =
        let y = stood_in p st bits k t h in
        subst (λ (v : Thread). slice_index (with_kept v.advice (with_kept v.kept v.env)) x ≡ ((vs k).begun.vars x).value s) y.2
        (sym (beside.begun k x l s suits ∙ answered k y.0 y.1 x ((vs k).kept x) (sym (whole.stands.env k y.0 y.1 x live))))

    -- and each gate tells what it should
    tells : (k : ℕ) (t : Thread) → k < length p.stages → here p st bits k ≡ Some t → TellsGate p vs gates moves s st bits k t
    tells k t l h follows ready later =
        let so = follows.so ready in
        let d = deeds p st k t in
        let y = stood_in p st bits k t h in
        let w = (vs k).ended in
        let v = verify_stage p.stmts in
        let zs = squash_stages p.stmts in
        let acts = later_acts p st bits k in
        let pass = both (barrier_open v k w.barrier (clear_to v sides.clear k)) (way_on (stage_at p k).next (turn p sides k) w) in
        beside.gate k l s suits
        ∙ both_at s (all_answered p (answers_of sides) k (length p.mems) 0)
        (both (unsquashed zs k sides.squash) (both (ports_open sides w.asks) pass)) (is_empty t.awaits)
        (may_pass p st bits acts k d)
        (awaits_told p lawful.reads lawful.leads lawful.inside c vs gates moves sides beside.port_owns beside.ports s st bits known.flight known.by whole.ports given k y.0 y.1
        ∙ ap (λ (u : Thread). bit (is_empty u.awaits)) y.2)
        (λ a. both_at s (unsquashed zs k sides.squash) (both (ports_open sides w.asks) pass) (no_failure acts)
        (ports_free p st bits acts d && (barrier_clear p acts d && merges_well p st k (next_stage p k d)))
        (unsquashed_is p lawful.sound lawful.updates c vs gates moves sides beside.removals s st bits suits known.flight known.by whole.stands.valid k later)
        (λ b. both_at s (ports_open sides w.asks) pass (ports_free p st bits acts d) (barrier_clear p acts d && merges_well p st k (next_stage p k d))
        (ports_told p lawful.reads lawful.leads lawful.inside c vs gates moves sides beside.port_owns beside.ports s st bits known.flight known.by whole.ports given k t w.asks so.asks later)
        (λ e. both_at s (barrier_open v k w.barrier (clear_to v sides.clear k)) (way_on (stage_at p k).next (turn p sides k) w)
        (barrier_clear p acts d) (merges_well p st k (next_stage p k d))
        (barrier_is p lawful.sound lawful.updates c vs gates moves sides beside.removals s st bits suits known.flight known.by whole.stands.valid k d w.barrier
        so.barrier later)
        (λ g. merges_is p lawful.sound c vs gates moves sides beside.order_owns beside.orders s st whole.orders k w d l
        (fork_value p lawful.apart k s w d l so)))))

    -- each stage is as the machine's
    pub seen_whole : (j : ℕ) → j < length p.stages → IsSeen p vs moves s st bits j
    seen_whole = all_seen p ls vs gates moves c laid lawful.rows lawful.apart lawful.leads s st bits suits whole.stands known.used known.by answers tells

    -- the squash is as the machine's
    pub squashed_whole : IsSquashed p ls vs gates s st bits
    squashed_whole =
        squashed_is p lawful.sound lawful.updates lawful.leads lawful.apart ls c vs gates moves laid sides beside s st bits suits known.flight known.by known.used known.cut
        seen_whole whole.tails

    -- no thread that moves is removed, and no stage past V verifies
    spares : Spares p st bits
    spares = record { kept = known.spared; calm = λ k later. verified_later p lawful.sound.verifies k later }

    -- the next state of the circuit stands for the machine's next state
    pub whole_next : (t : State) → Suits c t → t.regs ≡ next_regs c s → t.arrays ≡ next_arrays c s → WholeStands p ls vs sides t (cycle p st bits)
    whole_next t suits' regs arrays = record {
      stands =
          stands_after p ls vs gates moves c laid lawful.leads s st bits suits whole.stands known.used known.by spares seen_whole
          (stood p st bits) squashed_whole answers lawful.apart (plain_next p lawful.sound.advice st bits known.by) t suits' regs arrays known.later;
      ports = λ m r is.
          ports_next p lawful.reads lawful.leads lawful.apart lawful.some c vs gates moves sides (beside.port_owns m) m r is (lawful.inside m r is)
          (beside.ports m r is) s st bits known.flight known.next known.by (whole.ports m r is) given seen_whole known.spared
          (λ k. removes (squasher (moving p st bits)) (slot st k))
          (λ k l. kill_is p lawful.sound lawful.updates c vs gates moves sides beside.removals s st bits suits known.flight known.by whole.stands.valid
          seen_whole k l)
          (λ k u e. ap (removes (squasher (moving p st bits))) e) t regs arrays;
      orders =
          λ f q low e. order_kept p c vs gates moves sides (beside.order_owns f) f low
          (beside.orders f q low e) s st bits known.by lawful.apart seen_whole
          (emptied_told p lawful.sound lawful.updates c vs gates moves sides beside.removals s st bits suits known.flight known.by whole.stands.valid
          seen_whole f)
          lawful.sound lawful.leads known.flight.count known.next
          (whole.orders f q low e) t regs arrays;
      tails =
          tails_next p lawful.sound lawful.updates lawful.leads lawful.apart ls c vs gates moves laid sides beside s st bits suits known.flight known.by known.used known.cut
          seen_whole whole.tails whole.stands.locks t regs arrays;
    }
