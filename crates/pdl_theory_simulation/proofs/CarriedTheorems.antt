-- What is proved of the derived machine's runs holds of the stated machine's, of every pipe of the whole language.
use Rattle.std.proofs.Common.{◌≡◌, refl, sym, ap, ap₂, ◌∙◌, subst, ℕ, suc, ◌+◌, ◌-◌, ◌/◌, ◌≤◌, ◌<◌, Bool, true, false, List, [], ◌∷◌, ◌++◌, length, Option, Some, None, nat_lt, cond, if◌then◌else◌, arith, lt-ltb, ltb-true, ltb-false}
use Rattle.pdl_semantics.specs.Flat.{Arrays, Plain, Pipe, Commit}
use Rattle.pdl_semantics.specs.Stages.{mem_at, depth}
use Rattle.pdl_semantics.specs.Sequential.{seqwrites}
use Rattle.pdl_semantics.specs.Machine.{State}
use Rattle.pdl_semantics.specs.Cycle.{commits}
use Rattle.pdl_semantics.specs.Promises.{KeepsPace, IsPrefix, older_of, oldest_act, it_moves, row, wrote}
use Rattle.pdl_semantics.specs.Cycle
use Rattle.pdl_semantics.specs.Moves
use Rattle.pdl_semantics.specs.Promises
use Rattle.pdl_theory_turns.specs.Alone.{oldest_moves}
use Rattle.pdl_theory_turns.specs.Alone
use Rattle.pdl_theory_turns.specs.Derived
use Rattle.pdl_theory_turns.specs.Simulation.{SameTurns, hints_of}
use Rattle.pdl_theory_simulation.proofs.FlowFacts.{Flows}
use Rattle.pdl_theory_turns.proofs.Writes.{of_mem_append, row_committed}
use Rattle.pdl_theory_turns.proofs.Slots.{rev}
use Rattle.pdl_theory_simulation.proofs.Seats.{Live, Falls, dacts, lacts, lact}
use Rattle.pdl_theory_simulation.proofs.ThreadFacts.{sorted}
use Rattle.pdl_theory_simulation.proofs.Orders.{acts_of, AllForetold}
use Rattle.pdl_theory_simulation.proofs.ActOrder.{same_fold}
use Rattle.pdl_theory_simulation.proofs.CycleStarts.{swaps}
use Rattle.pdl_theory_simulation.proofs.WholeSimulation.{acts_are, derived_acts_are, turn_same}
use Rattle.pdl_theory_simulation.proofs.Foretold.{foretold_here, run_same}
use Rattle.pdl_theory_simulation.proofs.SimulatedStates.{Sim}

-- WHAT THE TURNS TELL

-- as many threads end in the same cycles of both machines
pub ended_same : (p : Pipe) (ts : List Cycle.Turn) (us : List Derived.Turn) → SameTurns p ts us → Cycle.ended_in ts ≡ Derived.ended_in us
ended_same p [] [] h = refl
ended_same p [] (u ∷ us) h = absurd h
ended_same p (t ∷ ts) [] h = absurd h
ended_same p (t ∷ ts) (u ∷ us) h = ap₂ (λ b n. cond b (suc n) n) h.0.ended (ended_same p ts us h.1)

-- the commits to m are the same in the same cycles of both machines
pub commits_same : (p : Pipe) (m : ℕ) (ts : List Cycle.Turn) (us : List Derived.Turn) → SameTurns p ts us
    → commits m ts ≡ Derived.commits m us
commits_same p m [] [] h = refl
commits_same p m [] (u ∷ us) h = absurd h
commits_same p m (t ∷ ts) [] h = absurd h
commits_same p m (t ∷ ts) (u ∷ us) h =
    ap₂ (λ a b. a ++ b) (h.0.commits m) (commits_same p m ts us h.1) ∙ sym (of_mem_append m u.ports.commits (Derived.all_commits us))

-- where the cycles of both machines have the same ports and waits, as many of them are waits
pub waits_same : (p : Pipe) (ts : List Cycle.Turn) (us : List Derived.Turn) → SameTurns p ts us → Cycle.waits_in ts ≡ Derived.waits_in us
waits_same p [] [] h = refl
waits_same p [] (u ∷ us) h = absurd h
waits_same p (t ∷ ts) [] h = absurd h
waits_same p (t ∷ ts) (u ∷ us) h = ap₂ (λ b n. cond b (suc n) n) h.0.wait (waits_same p ts us h.1)

nothing_before : (xs : List Commit) (h : IsPrefix xs []) → xs ≡ []
nothing_before [] h = refl
nothing_before (x ∷ xs) h = absurd (cc h.1)

-- THE OLDEST THREAD

not_less : (a b : ℕ) → a < b → nat_lt b a ≡ false
not_less a b h = at (nat_lt b a) refl
  where
    at : (c : Bool) → nat_lt b a ≡ c → nat_lt b a ≡ false
    at true e = absurd (let i = ltb-true _ _ e in omega arith)
    at false e = e

-- the older of two comes out in either order
older_swap : (x y : Moves.Act) (z : Option Moves.Act)
    → y.thread.number < x.thread.number → older_of y (Some (older_of x z)) ≡ older_of x (Some (older_of y z))
older_swap x y None h = ap (λ c. if c then x else y) (not_less _ _ h) ∙ sym (ap (λ c. if c then y else x) (lt-ltb _ _ h))
older_swap x y (Some b) h = at (nat_lt b.thread.number x.thread.number) refl (nat_lt b.thread.number y.thread.number) refl
  where
    at : (c : Bool) → nat_lt b.thread.number x.thread.number ≡ c → (e : Bool) → nat_lt b.thread.number y.thread.number ≡ e
        → older_of y (Some (if nat_lt b.thread.number x.thread.number then b else x))
        ≡ older_of x (Some (if nat_lt b.thread.number y.thread.number then b else y))
    at true i true j =
        ap (λ c. older_of y (Some (if c then b else x))) i ∙ ap (λ c. if c then b else y) j
        ∙ sym (ap (λ c. older_of x (Some (if c then b else y))) j ∙ ap (λ c. if c then b else x) i)
    at true i false j =
        ap (λ c. older_of y (Some (if c then b else x))) i ∙ ap (λ c. if c then b else y) j
        ∙ sym (ap (λ c. older_of x (Some (if c then b else y))) j ∙ ap (λ c. if c then y else x) (lt-ltb _ _ h))
    at false i true j = absurd (let k = ltb-false _ _ i in let l = ltb-true _ _ j in omega arith)
    at false i false j =
        ap (λ c. older_of y (Some (if c then b else x))) i ∙ ap (λ c. if c then x else y) (not_less _ _ h)
        ∙ sym (ap (λ c. older_of x (Some (if c then b else y))) j ∙ ap (λ c. if c then y else x) (lt-ltb _ _ h))

module _ (p : Pipe) (flows : Flows p) where
  module _ (st : State) (d : Derived.State) (bits : List Bool) (ls : List Live) (sim : Sim p st d ls) where
    same_oldest : oldest_act (acts_of p flows st d bits sim.arrays (sorted ls)) ≡ oldest_act (lacts p st d bits ls)
    same_oldest =
        same_fold p flows st d bits sim.arrays (Option Moves.Act) oldest_act (λ a z. Some (older_of a z))
        (λ a rest. refl)
        (λ x y s z. ap Some (older_swap (lact p st d bits x.older x.live) (lact p st d bits y.older y.live) z s.numbers)) ls
        (swaps p flows st d bits ls sim)

    oldest_more : (xs : List Derived.Act) (y z : Derived.Act) → oldest_moves ((xs ++ y ∷ []) ++ z ∷ []) ≡ oldest_moves (xs ++ y ∷ [])
    oldest_more [] y z = refl
    oldest_more (x ∷ xs) y z = refl

    -- the act of the lowest number is that of the oldest thread
    lowest : (n : ℕ) (l : Live) (ks : List Live) → Falls n (l ∷ ks)
        → ((older_of (lact p st d bits ks l) (oldest_act (lacts p st d bits ks))).moves ≡ oldest_moves (rev (dacts p d bits (l ∷ ks))))
        × ((older_of (lact p st d bits ks l) (oldest_act (lacts p st d bits ks))).thread.number < n)
    lowest n l [] f = (refl, f.0)
    lowest n l (k ∷ ks) f =
        let rest = lowest l.number k ks f.1 in
        let b : Moves.Act = older_of (lact p st d bits ks k) (oldest_act (lacts p st d bits ks)) in
        let e : (if nat_lt b.thread.number l.number then b else lact p st d bits (k ∷ ks) l) ≡ b =
        ap (λ c. cond c b (lact p st d bits (k ∷ ks) l)) (lt-ltb _ _ rest.1) in (
          ap (λ (a : Moves.Act). a.moves) e ∙ rest.0 ∙ sym (oldest_more (rev (dacts p d bits ks)) _ _),
          subst (λ (a : Moves.Act). a.thread.number < n) (sym e) (let i = rest.1 in let j = f.0 in omega arith),
        )

    lowest_all : (n : ℕ) (ks : List Live) → Falls n ks → it_moves (oldest_act (lacts p st d bits ks)) ≡ oldest_moves (rev (dacts p d bits ks))
    lowest_all n [] f = refl
    lowest_all n (l ∷ ks) f = (lowest n l ks f).0

    -- in both machines the oldest thread moves, or in none
    pub oldest_same : AllForetold p flows st d bits sim.arrays ls → it_moves (oldest_act (Moves.all_acts p st bits)) ≡ oldest_moves (Derived.all_acts p d bits)
    oldest_same told =
        ap (λ these. it_moves (oldest_act these)) (acts_are p flows st d bits ls sim told) ∙ ap it_moves same_oldest ∙ lowest_all st.next ls sim.falls
        ∙ ap oldest_moves (sym (derived_acts_are p flows st d bits ls sim told))

  -- THE THEOREMS

  -- what the threads of a run of the stated machine say
  abbrev pub hints : Arrays → List (List Bool) → ℕ → Derived.Hint
  hints image schedule = hints_of p (Cycle.first p image) schedule

  -- Pipeline refinement, where nobody writes a memory without lock
  pub carries_refines : (image : Arrays) (schedule : List (List Bool)) → Alone.Refines p image (hints image (schedule ++ [])) schedule
      → ((m n : ℕ) → (mem_at p m).lock ≡ Plain → seqwrites p image m n ≡ []) → Promises.Refines p image schedule
  carries_refines image schedule r unwritten =
      let both = run_same p flows image schedule [] in
      let prefix : (m : ℕ)
      → IsPrefix (commits m (Cycle.turns p image schedule)) (seqwrites p image m (Cycle.ended_in (Cycle.turns p image schedule) + length p.stages)) =
      λ m. subst (λ c. IsPrefix c (seqwrites p image m (Cycle.ended_in (Cycle.turns p image schedule) + length p.stages))) (sym (commits_same p m _ _ both.0))
      (subst (λ n. IsPrefix (Derived.commits m (Derived.turns p image (hints image (schedule ++ [])) schedule)) (seqwrites p image m (n + length p.stages)))
      (sym (ended_same p _ _ both.0)) (r.prefix m)) in
      record {
        whole = λ m. subst (λ c. IsPrefix (seqwrites p image m (Cycle.ended_in (Cycle.turns p image schedule))) c) (sym (commits_same p m _ _ both.0))
            (subst (λ n. IsPrefix (seqwrites p image m n) (Derived.commits m (Derived.turns p image (hints image (schedule ++ [])) schedule)))
            (sym (ended_same p _ _ both.0)) (r.whole m));
        prefix = prefix;
        unlocked = λ m e. nothing_before _ ((prefix m).0, (prefix m).1 ∙ unwritten m _ e);
        end =
            λ m plain. both.1.sim.arrays m plain ∙ ap (λ (a : Arrays). row a m) r.end ∙ row_committed m
            (Derived.all_commits (Derived.turns p image (hints image (schedule ++ [])) schedule)) image
            ∙ ap (wrote (row image m)) (sym (commits_same p m _ _ both.0));
      }

  -- where the oldest thread of the derived machine advances, that of the stated one does
  pub carries_advances : (image : Arrays) (schedule : List (List Bool)) (bits : List Bool)
      → Alone.Advances p image (hints image (schedule ++ bits ∷ [])) schedule bits → Promises.Advances p image schedule bits
  carries_advances image schedule bits advances k =
      let both = run_same p flows image schedule (bits ∷ []) in
      let st : State = Cycle.state_after p (Cycle.first p image) schedule in
      let d : Derived.State = Derived.state_after p (Derived.first p image (hints image (schedule ++ bits ∷ []))) schedule in
      let told : AllForetold p flows st d bits both.1.sim.arrays both.1.live = foretold_here p flows st d bits both.1.live both.1.sim [] both.1.foretells in
      oldest_same st d bits both.1.live both.1.sim told ∙ advances (sym (turn_same p flows st d bits both.1.live both.1.sim told).wait ∙ k)

  -- where enough threads end in a run of the derived machine for its cycles, they do in that of the stated one
  pub carries_pace : (image : Arrays) (schedule : List (List Bool))
      → Alone.KeepsPace p image (hints image (schedule ++ [])) schedule
      → KeepsPace p image schedule
  carries_pace image schedule pace =
      let both = run_same p flows image schedule [] in
      subst (λ n. (length schedule - n) / depth p ≤ Cycle.ended_in (Cycle.turns p image schedule)) (sym (waits_same p _ _ both.0))
      (subst (λ n. (length schedule - Derived.waits_in (Derived.turns p image (hints image (schedule ++ [])) schedule)) / depth p ≤ n)
      (sym (ended_same p _ _ both.0)) pace)
