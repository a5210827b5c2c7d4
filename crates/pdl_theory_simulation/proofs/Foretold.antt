-- What the threads of the derived machine are given to say is what those of a run of the stated machine say, and so whole runs of both are the same.
use Rattle.std.proofs.Common.{◌≡◌, refl, sym, ap, ap₂, ◌∙◌, subst, ℕ, suc, ◌<◌, Bool, true, false, ◌&&◌, ◌||◌, not, List, [], ◌∷◌, ◌++◌, Option, Some, None, ◌==◌, cond, arith, length, append-nil}
use Rattle.std.proofs.lemmas.Bool.{eqb-true, and_right}
use Rattle.pdl_semantics.specs.Flat.{Arrays, Pipe, Op, Stmt}
use Rattle.pdl_semantics.specs.Stages.{onpath, in_stage, stage_at, goes_to}
use Rattle.pdl_semantics.specs.Machine.{State, with_answers}
use Rattle.pdl_semantics.specs.Sound.{is_spec_call}
use Rattle.pdl_semantics.specs.Cycle
use Rattle.pdl_semantics.specs.Moves
use Rattle.pdl_theory_turns.specs.Derived.{Work, around}
use Rattle.pdl_theory_turns.specs.Derived
use Rattle.pdl_theory_turns.specs.Simulation.{SameTurns, said_in, said_of, made_hints, hints_of}
use Rattle.pdl_theory_turns.specs.Scans.{none_of, called}
use Rattle.pdl_theory_turns.specs.GuessScans.{is_update, once}
use Rattle.pdl_theory_simulation.proofs.FlowFacts.{Flows, stage_or}
use Rattle.pdl_theory_simulation.proofs.Onces.{has_any, none_any, once_only, once_called}
use Rattle.pdl_theory_simulation.proofs.Stretches.{has_done, done_then, once_here}
use Rattle.pdl_theory_simulation.proofs.Seats.{Live, seat, advised, Falls, falls_each, dacts, did, now_of, work_of_live, deeds_of, sacts}
use Rattle.pdl_theory_simulation.proofs.Choices.{Known, like_here, keeps_now}
use Rattle.pdl_theory_simulation.proofs.Sayings.{Foresees, Foretold, moves_in, none_foreseen, guess_foreseen, update_foreseen}
use Rattle.pdl_theory_simulation.proofs.ThreadFacts.{Pair, pairs, sorted, lives_of, EachPair, pair_map, pair_both, pairs_each, sorted_each}
use Rattle.pdl_theory_simulation.proofs.Orders.{acts_of, known_pairs, AllForetold}
use Rattle.pdl_theory_simulation.proofs.LockLists.{stood, moved_one, next_live, go_on}
use Rattle.pdl_theory_simulation.proofs.LiveThreads.{made, born_live, lives_next}
use Rattle.pdl_theory_simulation.proofs.ThreadPlaces.{each_next, becomes_on}
use Rattle.pdl_theory_simulation.proofs.SimulatedStates.{Sim}
use Rattle.pdl_theory_simulation.proofs.CycleStarts.{known, stated_acts}
use Rattle.pdl_theory_simulation.proofs.WholeSimulation.{acts_are, cycle_sim, turn_same}
use Rattle.pdl_theory_simulation.proofs.SimulatedRuns.{first_live, first_sim}
use Rattle.pdl_word.specs.Each.{Each}

-- a live thread that has carried out no statement of a kind was given what it will then guess
abbrev pub Says : (Op → Bool) → List ℕ → Pipe → State → List (List Bool) → Live → Type 0
Says test word p st schedule l = has_done test p l.env l.thread.stage ≡ false → word ≡ said_of test p st schedule l.number

-- a live thread was given what it will say
pub record Given (p : Pipe) (st : State) (schedule : List (List Bool)) (l : Live) : Type 0 where
  pub guess : Says is_spec_call l.thread.hint.guess p st schedule l
  pub update : Says is_update l.thread.hint.update p st schedule l

-- each live thread was, and those that are made later will be
pub record Foretells (p : Pipe) (st : State) (d : Derived.State) (schedule : List (List Bool)) (ls : List Live) : Type 0 where
  pub hints : (n : ℕ) → d.hints n ≡ made_hints p st schedule n
  pub given : Each (Given p st schedule) ls

-- after a call a thread has made its successor
pub stays_called : (xs : List Stmt) → called true xs ≡ true
stays_called [] = refl
stays_called (x ∷ xs) = stays_called xs

-- each of these threads that has the number of this one is this one
abbrev Only : Pair → List Pair → Type 0
Only y xs = EachPair (λ z. z.live.number ≡ y.live.number → z ≡ y) xs

only_each : (n : ℕ) (ls : List Live) → Falls n ls → EachPair (λ y. Only y (pairs ls)) (pairs ls)
only_each n [] f = tt
only_each n (l ∷ ls) f = (
  ((λ e. refl), pair_map (λ z i. λ e. absurd (clash i e)) (pairs ls) older),
  pair_both (λ y i r. ((λ e. absurd (clash i (sym e))), r)) (pairs ls) older (only_each l.number ls f.1),
)
  where
    older : EachPair (λ z. z.live.number < l.number) (pairs ls)
    older = pairs_each (λ k. k.number < l.number) ls (falls_each l.number ls f.1)

    clash : {a b : ℕ} → a < b → a ≡ b → ⊥
    clash i e = omega arith

-- a choice by two tests
picked : {X : Type 0} → (m i c : Bool) (g tail rest : X) → tail ≡ cond (i && c) g rest → cond (m && c) g tail ≡ cond ((m || i) && c) g rest
picked true i true g tail rest h = refl
picked true true false g tail rest h = h
picked true false false g tail rest h = h
picked false i c g tail rest h = h

is_so : (b : Bool) → not b ≡ false → b ≡ true
is_so true e = refl
is_so false e = absurd (cc e)

module _ (p : Pipe) (flows : Flows p) where
  guesses_once : (path : List ℕ) → once is_spec_call false (onpath path p.stmts) ≡ true
  guesses_once path = once_called false false (onpath path p.stmts) (λ e. e) (flows.calls path)

  module _ (st : State) (d : Derived.State) (bits : List Bool) (ls : List Live) (sim : Sim p st d ls) where
    -- the statements that a thread's stage carries out
    abbrev here : Pair → List Stmt
    here y = onpath (work_of_live p d bits y.older y.live).env (in_stage y.live.thread.stage p.stmts)

    -- those by the stated machine
    abbrev stated_here : Live → List Stmt
    stated_here l = onpath (deeds_of p st bits l).env (in_stage l.thread.stage p.stmts)

    here_is : (y : Pair) → Known p flows st d bits sim.arrays y.older y.live → stated_here y.live ≡ here y
    here_is y k = ap (λ (w : Work). onpath w.env (in_stage y.live.thread.stage p.stmts)) (sym (like_here p flows st d bits sim.arrays y.older y.live k).is)

    -- what a thread says in a cycle of the stated machine
    said_stated : (test : Op → Bool) (y : Pair) (rest : List ℕ) (xs : List Pair) → Only y xs
        → said_in test p (sacts p st bits (lives_of xs)) y.live.number rest
        ≡ cond (moves_in y.live.number (sacts p st bits (lives_of xs)) && has_any test (stated_here y.live)) (deeds_of p st bits y.live).guess rest
    said_stated test y rest [] o = refl
    said_stated test y rest (x ∷ xs) o = at (x.live.number == y.live.number) refl (said_stated test y rest xs o.1)
      where
        a : Moves.Act
        a = Moves.act p st bits (sacts p st bits (lives_of xs)) x.live.thread.stage (with_answers p st bits (seat x.live))

        tail : List ℕ
        tail = said_in test p (sacts p st bits (lives_of xs)) y.live.number rest

        at : (b : Bool) → (x.live.number == y.live.number) ≡ b
            → tail ≡ cond (moves_in y.live.number (sacts p st bits (lives_of xs)) && has_any test (stated_here y.live)) (deeds_of p st bits y.live).guess rest
            → cond ((x.live.number == y.live.number) && (a.moves && has_any test (stated_here x.live))) (deeds_of p st bits x.live).guess tail
            ≡ cond ((((x.live.number == y.live.number) && a.moves) || moves_in y.live.number (sacts p st bits (lives_of xs)))
            && has_any test (stated_here y.live)) (deeds_of p st bits y.live).guess rest
        at true e h =
            ap (λ b. cond (b && (a.moves && has_any test (stated_here x.live))) (deeds_of p st bits x.live).guess tail) e
            ∙ ap (λ (z : Pair). cond (a.moves && has_any test (stated_here z.live)) (deeds_of p st bits z.live).guess tail) (o.0 (eqb-true _ _ e))
            ∙ picked a.moves (moves_in y.live.number (sacts p st bits (lives_of xs))) (has_any test (stated_here y.live))
            (deeds_of p st bits y.live).guess tail rest h
            ∙ sym
            (ap (λ b. cond (((b && a.moves) || moves_in y.live.number (sacts p st bits (lives_of xs))) && has_any test (stated_here y.live))
            (deeds_of p st bits y.live).guess rest) e)
        at false e h =
            ap (λ b. cond (b && (a.moves && has_any test (stated_here x.live))) (deeds_of p st bits x.live).guess tail) e
            ∙ h
            ∙ sym
            (ap (λ b. cond (((b && a.moves) || moves_in y.live.number (sacts p st bits (lives_of xs))) && has_any test (stated_here y.live))
            (deeds_of p st bits y.live).guess rest) e)

    -- the same in terms of the whole cycle
    said_now : (test : Op → Bool) (y : Pair) (rest : List ℕ) → Only y (sorted ls)
        → said_in test p (Moves.all_acts p st bits) y.live.number rest
        ≡ cond (moves_in y.live.number (Moves.all_acts p st bits) && has_any test (stated_here y.live)) (deeds_of p st bits y.live).guess rest
    said_now test y rest o =
        ap (λ these. said_in test p these y.live.number rest) (stated_acts p flows st d bits ls sim)
        ∙ said_stated test y rest (sorted ls) o
        ∙ ap (λ these. cond (moves_in y.live.number these && has_any test (stated_here y.live)) (deeds_of p st bits y.live).guess rest)
        (sym (stated_acts p flows st d bits ls sim))

    -- a thread that moves from a stage with a statement of the kind has said what it was given
    said_here : (test : Op → Bool) (word : List ℕ) (schedule : List (List Bool)) (y : Pair)
        → ((path : List ℕ) → once test false (onpath path p.stmts) ≡ true) → Known p flows st d bits sim.arrays y.older y.live → Only y (sorted ls)
        → Says test word p st (bits ∷ schedule) y.live → moves_in y.live.number (Moves.all_acts p st bits) ≡ true
        → none_of test (here y) ≡ false → (deeds_of p st bits y.live).guess ≡ word
    said_here test word schedule y one k o h e i = at (has_done test p y.live.env y.live.thread.stage) refl
      where
        there : has_any test (stated_here y.live) ≡ true
        there = ap (has_any test) (here_is y k) ∙ is_so (has_any test (here y)) (sym (none_any test (here y)) ∙ i)

        at : (b : Bool) → has_done test p y.live.env y.live.thread.stage ≡ b → (deeds_of p st bits y.live).guess ≡ word
        at true j =
            absurd
            (cc
            (sym i
            ∙ once_only test (here y)
            (subst (λ b. once test b (here y) ≡ true) j
            (once_here p flows y.live.env (now_of p d bits y.live) (keeps_now p flows st d bits sim.arrays y.live k.seated) test one
            (around p d bits (dacts p d bits y.older) y.live.thread.stage y.live.thread.hint)))))
        at false j =
            sym
            (h j
            ∙ said_now test y (said_of test p (Cycle.cycle p st bits) schedule y.live.number) o
            ∙ ap₂ (λ a b. cond (a && b) (deeds_of p st bits y.live).guess (said_of test p (Cycle.cycle p st bits) schedule y.live.number)) e there)

    -- where each live thread was given what it will say, each one that moves says it
    told_here : (schedule : List (List Bool)) (y : Pair)
        → Known p flows st d bits sim.arrays y.older y.live → Only y (sorted ls) → Given p st (bits ∷ schedule) y.live
        → Foretold p flows st d bits sim.arrays y.older y.live
    told_here schedule y k o g e = at (none_of is_spec_call (here y)) refl (none_of is_update (here y)) refl
      where
        at : (b : Bool) → none_of is_spec_call (here y) ≡ b → (c : Bool) → none_of is_update (here y) ≡ c
            → Foresees p flows st d bits sim.arrays y.older y.live
        at true i true j = none_foreseen p flows st d bits sim.arrays y.older y.live k i j
        at true i false j =
            update_foreseen p flows st d bits sim.arrays y.older y.live k j
            (said_here is_update y.live.thread.hint.update schedule y flows.updates k o g.update e j)
        at false i c j =
            guess_foreseen p flows st d bits sim.arrays y.older y.live k i
            (said_here is_spec_call y.live.thread.hint.guess schedule y guesses_once k o g.guess e i)

    only_sorted : EachPair (λ y. Only y (sorted ls)) (pairs ls)
    only_sorted = pair_map (λ y o. sorted_each (λ z. z.live.number ≡ y.live.number → z ≡ y) ls o) (pairs ls) (only_each st.next ls sim.falls)

    known_here : EachPair (λ y. Known p flows st d bits sim.arrays y.older y.live) (pairs ls)
    known_here = known_pairs p flows st d bits sim.arrays ls (known p flows st d bits ls sim)

    -- where what is said in the rest of a run was given, each thread that moves says what it was given
    pub foretold_here : (schedule : List (List Bool)) → Foretells p st d (bits ∷ schedule) ls
        → AllForetold p flows st d bits sim.arrays ls
    foretold_here schedule f =
        pair_both (λ y u g. u g) (pairs ls) (pair_both (told_here schedule) (pairs ls) known_here only_sorted)
        (pairs_each (Given p st (bits ∷ schedule)) ls f.given)

    -- AFTER THE CYCLE

    module _ (told : AllForetold p flows st d bits sim.arrays ls) where
      -- who stands in the derived machine stands in the stated one
      stands_among : (y : Pair) (xs : List Pair) → Only y xs → (did p d bits y.older y.live).moves ≡ false
          → moves_in y.live.number (acts_of p flows st d bits sim.arrays xs) ≡ false
      stands_among y [] o e = refl
      stands_among y (x ∷ xs) o e = at (x.live.number == y.live.number) refl (stands_among y xs o.1 e)
        where
          at : (b : Bool) → (x.live.number == y.live.number) ≡ b → moves_in y.live.number (acts_of p flows st d bits sim.arrays xs) ≡ false
              → (((x.live.number == y.live.number) && (did p d bits x.older x.live).moves) || moves_in y.live.number (acts_of p flows st d bits sim.arrays xs))
              ≡ false
          at true i h =
              ap₂ (λ b c. ((x.live.number == y.live.number) && b) || c)
              (ap (λ (z : Pair). (did p d bits z.older z.live).moves) (o.0 (eqb-true _ _ i)) ∙ e) h
              ∙ ap (λ b. b || false) (and_right (x.live.number == y.live.number) false refl)
          at false i h = ap₂ (λ b c. (b && (did p d bits x.older x.live).moves) || c) i h

      -- one that stands, or says nothing as it moves, will say later what it was given
      later : (test : Op → Bool) (word : List ℕ) (schedule : List (List Bool)) (y : Pair)
          → Known p flows st d bits sim.arrays y.older y.live → Only y (sorted ls) → Says test word p st (bits ∷ schedule) y.live
          → has_done test p y.live.env y.live.thread.stage ≡ false → ((did p d bits y.older y.live).moves && has_any test (here y)) ≡ false
          → word ≡ said_of test p (Cycle.cycle p st bits) schedule y.live.number
      later test word schedule y k o h j e =
          h j
          ∙ said_now test y (said_of test p (Cycle.cycle p st bits) schedule y.live.number) o
          ∙ ap (λ b. cond b (deeds_of p st bits y.live).guess (said_of test p (Cycle.cycle p st bits) schedule y.live.number))
          (at (did p d bits y.older y.live).moves refl e)
        where
          at : (b : Bool) → (did p d bits y.older y.live).moves ≡ b → (b && has_any test (here y)) ≡ false
              → (moves_in y.live.number (Moves.all_acts p st bits) && has_any test (stated_here y.live)) ≡ false
          at true i n = and_right (moves_in y.live.number (Moves.all_acts p st bits)) _ (ap (has_any test) (here_is y k) ∙ n)
          at false i n =
              ap (λ b. b && has_any test (stated_here y.live))
              (ap (moves_in y.live.number) (acts_are p flows st d bits ls sim told) ∙ stands_among y (sorted ls) o i)

      -- so it stays with what the thread becomes
      says_stood : (test : Op → Bool) (word : List ℕ) (schedule : List (List Bool)) (y : Pair)
          → Known p flows st d bits sim.arrays y.older y.live → Only y (sorted ls) → Says test word p st (bits ∷ schedule) y.live
          → (did p d bits y.older y.live).moves ≡ false → Says test word p (Cycle.cycle p st bits) schedule (stood p st d bits y.live)
      says_stood test word schedule y k o h e j = later test word schedule y k o h j (ap (λ b. b && has_any test (here y)) e)

      says_moved : (test : Op → Bool) (word : List ℕ) (schedule : List (List Bool)) (y : Pair)
          → Known p flows st d bits sim.arrays y.older y.live → Only y (sorted ls) → Says test word p st (bits ∷ schedule) y.live
          → (q : ℕ) → goes_to (stage_at p y.live.thread.stage).next (work_of_live p d bits y.older y.live).env ≡ Some q
          → Says test word p (Cycle.cycle p st bits) schedule (moved_one q (advised p st bits y.live) (work_of_live p d bits y.older y.live))
      says_moved test word schedule y k o h q i j =
          later test word schedule y k o h (first _ _ both) (and_right (did p d bits y.older y.live).moves (has_any test (here y)) (second _ _ both))
        where
          first : (a b : Bool) → (a || b) ≡ false → a ≡ false
          first true b e = absurd (cc e)
          first false b e = refl

          second : (a b : Bool) → (a || b) ≡ false → b ≡ false
          second true b e = absurd (cc e)
          second false b e = e

          both : (has_done test p y.live.env y.live.thread.stage || has_any test (here y)) ≡ false
          both =
              sym
              (done_then p flows y.live.env (now_of p d bits y.live) (keeps_now p flows st d bits sim.arrays y.live k.seated) test
              (around p d bits (dacts p d bits y.older) y.live.thread.stage y.live.thread.hint))
              ∙ ap (has_done test p (work_of_live p d bits y.older y.live).env) (ap (stage_or (length p.stages)) i) ∙ j

      given_next : (schedule : List (List Bool)) (y : Pair)
          → Known p flows st d bits sim.arrays y.older y.live → Only y (sorted ls) → Given p st (bits ∷ schedule) y.live
          → Each (Given p (Cycle.cycle p st bits) schedule) (next_live p st d bits y.older y.live)
      given_next schedule y k o g =
          each_next p flows st d bits sim.arrays (Given p (Cycle.cycle p st bits) schedule) y.older y.live k
          (λ e. record {
            guess = says_stood is_spec_call y.live.thread.hint.guess schedule y k o g.guess e;
            update = says_stood is_update y.live.thread.hint.update schedule y k o g.update e;
          })
          (λ e q i. record {
            guess = says_moved is_spec_call y.live.thread.hint.guess schedule y k o g.guess q i;
            update = says_moved is_update y.live.thread.hint.update schedule y k o g.update q i;
          })

      -- what is said in the rest of the run was given after a cycle too
      pub foretells_next : (schedule : List (List Bool))
          → Foretells p st d (bits ∷ schedule) ls
          → Foretells p (Cycle.cycle p st bits) (Derived.cycle p d bits) schedule (lives_next p flows st d bits sim.arrays ls)
      foretells_next schedule f = record { hints = λ n. f.hints (suc n); given = at (made p flows st d bits sim.arrays ls) }
        where
          on : Each (Given p (Cycle.cycle p st bits) schedule) (go_on p st d bits ls)
          on =
              becomes_on p flows st d bits sim.arrays (Given p (Cycle.cycle p st bits) schedule) ls
              (pair_both (λ y u g. u g) (pairs ls) (pair_both (given_next schedule) (pairs ls) known_here only_sorted)
              (pairs_each (Given p st (bits ∷ schedule)) ls f.given))

          at : (c : Option (List ℕ)) → Each (Given p (Cycle.cycle p st bits) schedule) (born_live p (d.hints 0) st.next c ++ go_on p st d bits ls)
          at None = on
          at (Some x) = (
            record { guess = λ j. ap (λ (h : Derived.Hint). h.guess) (f.hints 0); update = λ j. ap (λ (h : Derived.Hint). h.update) (f.hints 0) },
            on,
          )

  -- RUNS

  -- the first thread is given what it will say
  pub first_foretells : (image : Arrays) (schedule : List (List Bool))
      → Foretells p (Cycle.first p image) (Derived.first p image (hints_of p (Cycle.first p image) schedule)) schedule
      (first_live p flows (hints_of p (Cycle.first p image) schedule 0) ∷ [])
  first_foretells image schedule = record { hints = λ n. refl; given = (record { guess = λ j. refl; update = λ j. refl }, tt) }

  -- states of both machines that belong together, with what is said in these cycles given to the live threads
  pub record Reaches (st : State) (d : Derived.State) (more : List (List Bool)) : Type 0 where
    pub live : List Live
    pub sim : Sim p st d live
    pub foretells : Foretells p st d more live

  -- a run of both, and where it leads, where what is said in the cycles after it was given too
  pub runs_same : (st : State) (d : Derived.State) (schedule more : List (List Bool)) (ls : List Live)
      → Sim p st d ls → Foretells p st d (schedule ++ more) ls
      → SameTurns p (Cycle.turns_from p st schedule) (Derived.turns_from p d schedule)
      × Reaches (Cycle.state_after p st schedule) (Derived.state_after p d schedule) more
  runs_same st d [] more ls sim f = (tt, record { live = ls; sim = sim; foretells = f })
  runs_same st d (bits ∷ schedule) more ls sim f =
      let told = foretold_here st d bits ls sim (schedule ++ more) f in
      let rest = runs_same (Cycle.cycle p st bits) (Derived.cycle p d bits) schedule more (lives_next p flows st d bits sim.arrays ls)
      (cycle_sim p flows st d bits ls sim told) (foretells_next st d bits ls sim told (schedule ++ more) f) in
      ((turn_same p flows st d bits ls sim told, rest.0), rest.1)

  -- the simulation, where the threads are given what they say in a longer run
  pub run_same : (image : Arrays) (schedule more : List (List Bool))
      → SameTurns p (Cycle.turns p image schedule) (Derived.turns p image (hints_of p (Cycle.first p image) (schedule ++ more)) schedule)
      × Reaches (Cycle.state_after p (Cycle.first p image) schedule)
      (Derived.state_after p (Derived.first p image (hints_of p (Cycle.first p image) (schedule ++ more))) schedule) more
  run_same image schedule more =
      runs_same (Cycle.first p image) (Derived.first p image (hints_of p (Cycle.first p image) (schedule ++ more))) schedule more
      (first_live p flows (hints_of p (Cycle.first p image) (schedule ++ more) 0) ∷ [])
      (first_sim p flows image (hints_of p (Cycle.first p image) (schedule ++ more))) (first_foretells image (schedule ++ more))

  -- the simulation
  pub same_turns : (image : Arrays) (schedule : List (List Bool))
      → SameTurns p (Cycle.turns p image schedule) (Derived.turns p image (hints_of p (Cycle.first p image) schedule) schedule)
  same_turns image schedule =
      subst (λ all. SameTurns p (Cycle.turns p image schedule) (Derived.turns p image (hints_of p (Cycle.first p image) all) schedule)) (append-nil schedule)
      (run_same image schedule []).0
