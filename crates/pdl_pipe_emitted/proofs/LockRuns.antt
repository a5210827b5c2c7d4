-- In each cycle of each run of a netlist that is made of an accepted source each stage is as the machine's, and each lock is used as the machine's threads use it.
use Rattle.std.proofs.Common.{◌≡◌, refl, sym, ap, ◌∙◌, ℕ, ◌+◌, ◌<◌, ◌==◌, Bool, true, false, List, [], ◌∷◌, length, arith}
use Rattle.std.specs.Prelude.{is_some, nat_lt, slice_index_or}
use Rattle.pdl_word.specs.Words.{bit}
use Rattle.pdl_semantics.specs.Tree as tree
use Rattle.pdl_semantics.specs.Flat.{Pipe, arrays_of}
use Rattle.pdl_semantics.specs.Flatten.{flat}
use Rattle.pdl_semantics.specs.Stages.{mem_at, list_any}
use Rattle.pdl_semantics.specs.Machine as machine
use Rattle.pdl_semantics.specs.Moves.{Act, all_acts, movers}
use Rattle.pdl_semantics.specs.Cycle.{first, cycle, state_after, all_releases, list_two, squasher}
use Rattle.pdl_rules.specs.Refusal.{KeepsRules}
use Rattle.pdl_source_paths.specs.Source.{is_source, is_named}
use Rattle.pdl_net.specs.declared.Netlist.{Netlist}
use Rattle.pdl_net.specs.Circuit.{State}
use Rattle.pdl_net.specs.Signal.{Signal}
use Rattle.pdl_net.specs.Run.{Held, start, next, state_in}
use Rattle.pdl_image.specs.Images.{IsImage}
use Rattle.pdl_lockapi.specs.Lock.{LockAct, LockState, filled_entries, step}
use Rattle.pdl_lockapi.specs.Forget.{as_lock, forgotten_entries, lock_state_of}
use Rattle.pdl_machine_facts.specs.Slots.{stage_moves, moving}
use Rattle.pdl_machine_facts.specs.Cycle.{IsByStages}
use Rattle.pdl_machine_facts.proofs.StagewisePorts.{at_stage}
use Rattle.pdl_law_parts.specs.Walk.{Locks, is_locked}
use Rattle.pdl_law_parts.specs.Views.{View, Gates}
use Rattle.pdl_law_parts.specs.DeclaredMems.{mem_names}
use Rattle.pdl_law_parts.specs.Places.{delayed_count}
use Rattle.pdl_law_parts.specs.States.{held_after}
use Rattle.pdl_law_parts.specs.Stands.{IsSeen, IsSquashed, StandsFor, StandsLock}
use Rattle.pdl_law_parts.proofs.AnsweredThreads.{stood}
use Rattle.pdl_law_parts.proofs.StageLooks.{lock_there}
use Rattle.pdl_law_parts.proofs.LockActs.{act_of, drives, filled_is, proper}
use Rattle.pdl_law_parts.proofs.LockStep.{step_is}
use Rattle.pdl_law_sides.specs.Sides.{Sides}
use Rattle.pdl_law_sides.specs.WholeNetlist.{in_order, replies_of}
use Rattle.pdl_law_follows.specs.StandingStates.{IsLawful, IsKnown}
use Rattle.pdl_law_follows.specs.MadeNetlist.{IsMadeWhole}
use Rattle.pdl_law_follows.proofs.OutputNames.{Apart}
use Rattle.pdl_law_follows.proofs.WholeRuns as runs
use Rattle.pdl_law_follows.proofs.WholeRuns.{stands_next}
use Rattle.pdl_law_follows.proofs.ShowsSource.{IsStandingFor, lawful, apart, known_source, stands_source}
use Rattle.pdl_law_follows.specs.Follows.{IsMade}
use Rattle.pdl_law_follows.specs.Memories.{replies_in}
use Rattle.pdl_law_follows.specs.Refined.{machine_after}
use Rattle.pdl_law_follows.proofs.FollowsMade.{follows}
use Rattle.pdl_law_follows.proofs.HasMems.{has_mems}
use Rattle.pdl_pipe_emitted.specs.Used.{IsUsedLock, IsStageAs}

-- ---- a cycle

-- where the state stands for the machine's, and stages and squashes are as the machine's
module _ (p : Pipe) (ls : Locks) (vs : ℕ → View) (gates : Gates) (moves : ℕ → Signal) (s : State) (st : machine.State)
    (bits : List Bool) (known : IsKnown p st bits)
    (seen : (j : ℕ) → j < length p.stages → IsSeen p vs moves s st bits j)
    (squashed : IsSquashed p ls vs gates s st bits) (m : ℕ) (locked : is_locked p m ≡ true)
    (stand : StandsLock p ls vs s st m) where
  -- what the stages do to the lock, the pending writes that this fills, and those that are left
  abbrev act : LockAct
  act = act_of p ls vs moves s st bits known.by known.used seen (stood p st bits) m locked stand gates squashed

  filled : filled_entries (lock_state_of stand.base (machine.lock_of st m) stand.words) act ≡ forgotten_entries (list_two st (moving p st bits) m)
  filled = filled_is p ls vs moves s st bits known.by known.used seen (stood p st bits) m locked stand gates squashed

  left_is : (step (lock_state_of stand.base (machine.lock_of st m) stand.words) act).entries ≡ forgotten_entries (machine.lock_of (cycle p st bits) m)
  left_is =
      ap (λ (x : LockState). x.entries) (step_is p ls vs moves s st bits known.by known.used seen (stood p st bits) m locked stand gates squashed)
      ∙ ap forgotten_entries (sym (known.by.locks m (lock_there p m locked)))

  -- the lock of a memory that declares its kind and size, and whose tickets have its bits in each stage, is used in this cycle as the machine's threads use it
  pub used_here : (mem_at p m).lock ≡ as_lock (ls.kind m) (ls.size m)
      → ((k : ℕ) → k < length p.stages → ((vs k).tickets m).width ≡ ls.bits m) → IsUsedLock p ls vs gates moves s st bits m
  used_here kind wide = record {
    base = stand.base;
    words = stand.words;
    same = stand.same;
    stands = stand.stands;
    act = act;
    drives = drives p ls vs moves s st bits known.by known.used seen (stood p st bits) m locked stand gates squashed wide;
    proper = proper p ls vs moves s st bits known.by known.used seen (stood p st bits) m locked stand gates squashed kind;
    fills = filled ∙ ap (λ (ms : List Act). forgotten_entries (list_two st ms m)) (sym known.by.movers);
    releases = ap (λ (ms : List Act). nat_lt 0 (all_releases m ms)) (sym known.by.movers);
    seconds = ap (λ (ms : List Act). nat_lt 1 (all_releases m ms)) (sym known.by.movers);
    squashes = ap (λ (ms : List Act). is_some (squasher ms)) (sym known.by.movers);
    left = left_is;
  }

-- where a stage is seen to be as the machine's
stage_here : (p : Pipe) (vs : ℕ → View) (moves : ℕ → Signal) (s : State) (st : machine.State) (bits : List Bool)
    → IsByStages p st bits → (k : ℕ) → k < length p.stages → IsSeen p vs moves s st bits k
    → IsStageAs (vs k) (moves k) s p st bits k
stage_here p vs moves s st bits by k low seen = record {
  holds = seen.valid;
  moves = seen.leaves ∙ ap bit (sym same);
}
  where
    same : list_any (λ (a : Act). a.stage == k) (movers (all_acts p st bits)) ≡ stage_moves p st bits k
    same =
        sym
        (at_stage (λ q. list_any (λ (a : Act). a.stage == q) (movers (all_acts p st bits))) 0 p.stages k false low
        ∙ ap (λ q. list_any (λ (a : Act). a.stage == q) (movers (all_acts p st bits))) (let z : 0 + k ≡ k = omega arith in z))
        ∙ ap (λ (bs : List Bool). slice_index_or bs k false) by.moves
        ∙ at_stage (stage_moves p st bits) 0 p.stages k false low ∙ ap (stage_moves p st bits) (let z : 0 + k ≡ k = omega arith in z)

-- ---- runs

module _ (p : tree.Pipe) (rules : KeepsRules p) (source : is_source p ≡ true) (named : is_named p ≡ true) (ls : Locks)
    (vs : ℕ → View) (gates : Gates) (moves : ℕ → Signal) (sides : Sides) (n : Netlist) where
  module _ (made : IsMadeWhole p ls vs gates moves sides n) (image : List (List ℕ)) where
    abbrev far : Apart (mem_names p.mems) (length (flat p).mems)
    far = apart p rules source named ls vs gates moves sides n made

    abbrev law : IsLawful (flat p)
    law = lawful p rules source named ls vs gates moves sides n made

    -- each state that a run comes to stands for the machine's
    stands_from : (schedule : List ℕ) (h : Held) (st : machine.State) → IsStandingFor p rules source named ls vs gates moves sides n made image h st
        → IsStandingFor p rules source named ls vs gates moves sides n made image (held_after n h schedule)
        (state_after (flat p) st (replies_in (flat p) schedule))
    stands_from [] h st x = x
    stands_from (b ∷ schedule) h st x =
        stands_from schedule (next n h b) (cycle (flat p) st (replies_of (delayed_count (flat p)) b))
        (stands_next (flat p)
        (mem_names p.mems) far law
        (known_source p rules source named) ls vs gates moves sides n made.compiled made.formed.well made.mems
        (arrays_of (in_order (flat p) image)) h st x b)

    -- a cycle from such a state
    module _ (h : Held) (st : machine.State) (x : IsStandingFor p rules source named ls vs gates moves sides n made image h st) (b : ℕ) where
      knows : IsKnown (flat p) st (replies_of (delayed_count (flat p)) b)
      knows =
          runs.knows (flat p)
          (mem_names p.mems) far law
          (known_source p rules source named) ls vs gates moves sides n made.compiled made.formed.well made.mems
          (arrays_of (in_order (flat p) image)) h st x b

      seen : (j : ℕ) → j < length (flat p).stages → IsSeen (flat p) vs moves (state_in h b) st (replies_of (delayed_count (flat p)) b) j
      seen =
          runs.seen (flat p)
          (mem_names p.mems) far law
          (known_source p rules source named) ls vs gates moves sides n made.compiled made.formed.well made.mems
          (arrays_of (in_order (flat p) image)) h st x b

      stands : StandsFor (flat p) ls vs (state_in h b) st
      stands =
          let suits =
          runs.suits (flat p)
          (mem_names p.mems) far law
          (known_source p rules source named) ls vs gates moves sides n made.compiled made.formed.well made.mems
          (arrays_of (in_order (flat p) image)) h st x b in
          (x.whole b suits).stands

      used_standing : (m : ℕ) → is_locked (flat p) m ≡ true → IsUsedLock (flat p) ls vs gates moves (state_in h b) st (replies_of (delayed_count (flat p)) b) m
      used_standing m locked =
          used_here (flat p) ls vs gates moves (state_in h b) st (replies_of (delayed_count (flat p)) b) knows seen
          (runs.squashed (flat p)
          (mem_names p.mems) far law
          (known_source p rules source named) ls vs gates moves sides n made.compiled made.formed.well made.mems
          (arrays_of (in_order (flat p) image)) h st x b)
          m locked (stands.locks m locked) (made.compiled.laid.locks m locked).kind
          (λ k low. (made.compiled.laid.stages k low).tickets_wide m locked)

      stage_standing : (k : ℕ) → k < length (flat p).stages → IsStageAs (vs k) (moves k) (state_in h b) (flat p) st (replies_of (delayed_count (flat p)) b) k
      stage_standing k low = stage_here (flat p) vs moves (state_in h b) st (replies_of (delayed_count (flat p)) b) knows.by k low (seen k low)

  module _ (made : IsMade p ls vs gates moves sides n) where
    whole : IsMadeWhole p ls vs gates moves sides n
    whole = record {
      compiled = made.compiled;
      formed = (follows p rules source named ls vs gates moves sides n made).well_formed;
      mems = has_mems (flat p) p.mems refl ls n made.in_order made.mems;
    }

    -- what the netlist holds after a schedule stands for the machine's state
    abbrev Reached : (image : List (List ℕ)) → List ℕ → Type 0
    Reached image schedule =
        IsStandingFor p rules source named ls vs gates moves sides n whole image (held_after n (start n image) schedule)
        (machine_after (flat p) image schedule)

    reached : (image : List (List ℕ)) (schedule : List ℕ) → IsImage n.mems image → Reached image schedule
    reached image schedule is_image =
        stands_from whole image schedule (start n image) (first (flat p) (arrays_of (in_order (flat p) image)))
        (stands_source p rules source named ls vs gates moves sides n whole image is_image)

    -- from each image, after each schedule, whatever is replied next, a memory's lock is used as the machine's threads use it
    pub used_made : (image : List (List ℕ)) (schedule : List ℕ) (bits m : ℕ) → IsImage n.mems image → is_locked (flat p) m ≡ true
        → IsUsedLock (flat p) ls vs gates moves (state_in (held_after n (start n image) schedule) bits)
        (machine_after (flat p) image schedule) (replies_of (delayed_count (flat p)) bits) m
    used_made image schedule bits m is_image locked =
        used_standing whole image (held_after n (start n image) schedule) (machine_after (flat p) image schedule)
        (reached image schedule is_image) bits m locked

    -- each stage holds a thread where the machine's does, and moves one where one moves there
    pub stages_made : (image : List (List ℕ)) (schedule : List ℕ) (bits k : ℕ) → IsImage n.mems image → k < length (flat p).stages
        → IsStageAs (vs k) (moves k) (state_in (held_after n (start n image) schedule) bits) (flat p)
        (machine_after (flat p) image schedule) (replies_of (delayed_count (flat p)) bits) k
    stages_made image schedule bits k is_image low =
        stage_standing whole image (held_after n (start n image) schedule) (machine_after (flat p) image schedule) (reached image schedule is_image) bits k low

    -- the state of the cycle stands for the machine's
    pub stands_made : (image : List (List ℕ)) (schedule : List ℕ) (bits : ℕ) → IsImage n.mems image
        → StandsFor (flat p) ls vs (state_in (held_after n (start n image) schedule) bits) (machine_after (flat p) image schedule)
    stands_made image schedule bits is_image =
        stands whole image (held_after n (start n image) schedule) (machine_after (flat p) image schedule) (reached image schedule is_image) bits

    -- each stage is seen to be as the machine's
    pub seen_made : (image : List (List ℕ)) (schedule : List ℕ) (bits k : ℕ) → IsImage n.mems image → k < length (flat p).stages
        → IsSeen (flat p) vs moves (state_in (held_after n (start n image) schedule) bits)
        (machine_after (flat p) image schedule) (replies_of (delayed_count (flat p)) bits) k
    seen_made image schedule bits k is_image low =
        seen whole image (held_after n (start n image) schedule) (machine_after (flat p) image schedule) (reached image schedule is_image) bits k low
