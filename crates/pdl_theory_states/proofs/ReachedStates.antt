-- Every state that a run of the stated machine comes to: the simulation, what holds of each live thread, and the youngest without a successor.
use Rattle.std.proofs.Common.{◌≡◌, refl, sym, ap, ap₂, ◌∙◌, subst, ℕ, Bool, true, false, ◌&&◌, ◌||◌, not, List, [], ◌∷◌, ◌++◌, length, Option, Some, None, is_some, cond, if◌then◌else◌}
use Rattle.pdl_semantics.specs.Flat.{Arrays, Pipe, Op, Call, SpecCall, Verify, Stmt, start_env}
use Rattle.pdl_semantics.specs.Stages.{onpath, in_stage, stage_at, goes_to}
use Rattle.pdl_semantics.specs.Machine.{State}
use Rattle.pdl_semantics.specs.Moves.{movers}
use Rattle.pdl_semantics.specs.Cycle.{squasher, state_after, cycle, first}
use Rattle.pdl_theory_turns.specs.Derived.{find_ask, fresh, around}
use Rattle.pdl_theory_turns.specs.Derived
use Rattle.pdl_theory_turns.specs.Simulation.{hints_of}
use Rattle.pdl_theory_turns.specs.GuessScans.{Unmade, next_making, making_all, is_made}
use Rattle.pdl_theory_turns.specs.Scans.{called}
use Rattle.pdl_theory_turns.specs.Facts.{Sound}
use Rattle.pdl_theory_turns.proofs.Writes.{and_left, and_right}
use Rattle.pdl_theory_simulation.proofs.FlowFacts.{call_ok, calls_ok, next_of, stage_or}
use Rattle.pdl_theory_simulation.proofs.AcceptedFacts.{sound_flows}
use Rattle.pdl_theory_turns.proofs.Looks.{path_looked}
use Rattle.pdl_theory_turns.proofs.StrayPaths.{making_looked}
use Rattle.pdl_theory_simulation.proofs.Shapes.{called_append}
use Rattle.pdl_theory_simulation.proofs.Stretches.{on_way, has_made, way_next, fixed_here, start_of}
use Rattle.pdl_theory_simulation.proofs.Seats.{advised, Live, threads_of, Ordered, dacts, lacts, did, now_of, work_of_live}
use Rattle.pdl_theory_simulation.proofs.Choices.{Known, AllKnown, keeps_now}
use Rattle.pdl_theory_simulation.proofs.Sayings.{AllForeseen}
use Rattle.pdl_theory_simulation.proofs.LockLists.{fell, moved_live, stood, go_on, Agrees}
use Rattle.pdl_theory_simulation.proofs.LiveThreads.{made, childed_here, born_live, lives_next}
use Rattle.pdl_theory_simulation.proofs.Requests.{Asker, asking, one_asks, first_of}
use Rattle.pdl_theory_simulation.proofs.WholeSimulation.{foreseen, fit, after_is, cycle_sim}
use Rattle.pdl_theory_simulation.proofs.SimulatedRuns.{first_sim, first_live}
use Rattle.pdl_theory_simulation.proofs.Foretold.{Foretells, foretold_here, foretells_next, first_foretells, stays_called}
use Rattle.pdl_theory_states.specs.Strict.{Strict}
use Rattle.pdl_theory_states.proofs.PastStatements.{BlockOk}
use Rattle.pdl_theory_states.proofs.Guessed.{GuessDone}
use Rattle.pdl_theory_states.proofs.UnusedValues.{AllOps, onto}
use Rattle.pdl_theory_states.proofs.ThreadHistory.{local_fresh}
use Rattle.pdl_theory_states.proofs.Stage.{barred, look_at, childless}
use Rattle.pdl_theory_states.proofs.ThreadFacts.{Lasting, Along, lasting_stood, lasting_moved}
use Rattle.pdl_semantics.specs.Sound.{is_call}
use Rattle.pdl_theory_simulation.proofs.SimulatedStates.{Sim}
use Rattle.pdl_theory_simulation.proofs.CycleStarts.{next_state, known}
use Rattle.pdl_theory_simulation.proofs.Orders.{AllForetold}

-- the youngest has not made its successor
abbrev pub Youngest : Pipe → List Live → Type 0
Youngest p [] = Unit {0}
Youngest p (l ∷ ls) = has_made p l.env l.thread.stage ≡ false

-- what holds of all live threads: that of each one beside the older ones, and that the youngest has no successor
pub record Whole (p : Pipe) (st : State) (ls : List Live) : Type 0 where
  pub along : Along (Lasting p st) ls
  pub youngest : Youngest p ls

-- a thread that calls nobody has made nobody
unmade_op : (op : Op) → call_ok false op ≡ true → is_call op ≡ false → next_making Unmade op ≡ Unmade
unmade_op (Call args) h k = absurd (cc k)
unmade_op (SpecCall args) h k = absurd (cc k)
unmade_op (Verify last args) h k = absurd (cc h)
unmade_op _ h k = refl

unmade_all : (xs : List Stmt) → calls_ok false xs ≡ true → called false xs ≡ false → making_all Unmade xs ≡ Unmade
unmade_all [] h k = refl
unmade_all (x ∷ xs) h k = at (is_call x.op) refl h k (λ i j. unmade_all xs i j)
  where
    at : (b : Bool) → is_call x.op ≡ b → (call_ok false x.op && calls_ok b xs) ≡ true → called b xs ≡ false
        → (calls_ok false xs ≡ true → called false xs ≡ false → making_all Unmade xs ≡ Unmade)
        → making_all (next_making Unmade x.op) xs ≡ Unmade
    at true e i j f = absurd (cc (sym (stays_called xs) ∙ j))
    at false e i j f = ap (λ k. making_all k xs) (unmade_op x.op (and_left _ _ i) e) ∙ f (and_right (call_ok false x.op) _ i) j

module _ (p : Pipe) (sound : Sound p) (strict : Strict p) where
  -- in the end a path has called
  called_end : (path : List ℕ) → called false (onpath path p.stmts) ≡ true
  called_end path = at (called false (onpath path p.stmts)) refl
    where
      unmade : making_all Unmade (onpath path p.stmts) ≡ Unmade → ⊥
      unmade e =
          cc
          (sym (ap is_made e) ∙ ap is_made (sym (making_looked Unmade (onpath path p.stmts)))
          ∙ ap (λ l. is_made (making_all Unmade l)) (sym (path_looked path p.stmts)) ∙ sound.pathwise.made path)

      at : (b : Bool) → called false (onpath path p.stmts) ≡ b → called false (onpath path p.stmts) ≡ true
      at true e = e
      at false e = absurd (unmade (unmade_all (onpath path p.stmts) ((sound_flows p sound).calls path) e))

  fresh_lasting : (st : State) (n : ℕ) (hint : Derived.Hint) (args : List ℕ) (older : List Live)
      → Lasting p st (record { number = n; thread = fresh p hint args; env = (fresh p hint args).env; kept = []; advice = [] }) older
  fresh_lasting st n hint args older =
      record {
        local = local_fresh p (sound_flows p sound) hint args;
        guessed = subst (λ l. AllOps (GuessDone [] (start_env p args) hint) (onto l [])) (sym ((sound_flows p sound).first_piece (start_env p args))) tt;
        owns = tt;
        certain = λ v e h. absurd (cc (sym (ap (λ l. barred (onto l [])) ((sound_flows p sound).first_piece (start_env p args))) ∙ h));
        blocks =
            subst (λ l. AllOps (BlockOk (look_at p (threads_of older)) (start_env p args) [] (onto l [])) (onto l []))
            (sym ((sound_flows p sound).first_piece (start_env p args))) tt;
      }

  fresh_young : (args : List ℕ) → has_made p (start_env p args) 0 ≡ false
  fresh_young args = ap (called false) ((sound_flows p sound).first_piece (start_env p args))

  module _ (st : State) (d : Derived.State) (bits : List Bool) (ls : List Live) (sim : Sim p st d ls)
      (told : AllForetold p (sound_flows p sound) st d bits sim.arrays ls) where
    -- the threads that live on
    along_on : (ks : List Live)
        → AllKnown p (sound_flows p sound) st d bits sim.arrays ks → AllForeseen p (sound_flows p sound) st d bits sim.arrays ks
        → Ordered p ks
        → Agrees p d bits (squasher (movers (lacts p st d bits ls))) ks
        → ((m : ℕ) (a : Asker) → asking p (sound_flows p sound) st d bits sim.arrays ks m ≡ Some a
        → asking p (sound_flows p sound) st d bits sim.arrays ls m ≡ Some a)
        → Along (Lasting p st) ks
        → Along (Lasting p (next_state p (sound_flows p sound) st d bits ls sim))
        (go_on p st d bits ks)
    along_on [] k fs o g h a = tt
    along_on (l ∷ ks) k fs o g h a =
        at (fell p d bits ks) refl (did p d bits ks l).moves refl (along_on ks k.1 fs.1 o.1 g.1 (λ m x e. h m x (older m x e (did p d bits ks l).moves)) a.1)
      where
        older : (m : ℕ) (x : Asker) → asking p (sound_flows p sound) st d bits sim.arrays ks m ≡ Some x → (b : Bool)
            → cond b (first_of (find_ask (work_of_live p d bits ks l).asks m) l.number (asking p (sound_flows p sound) st d bits sim.arrays ks m))
            (asking p (sound_flows p sound) st d bits sim.arrays ks m)
            ≡ Some x
        older m x e true =
            ap (λ y. first_of y l.number (asking p (sound_flows p sound) st d bits sim.arrays ks m))
            (one_asks p (sound_flows p sound) st d bits sim.arrays m x l ks k o e)
            ∙ e
        older m x e false = e

        mine : (did p d bits ks l).moves ≡ true → (m x : ℕ) → find_ask (work_of_live p d bits ks l).asks m ≡ Some x
            → asking p (sound_flows p sound) st d bits sim.arrays (l ∷ ks) m ≡ Some (record { number = l.number; address = x })
        mine i m x e =
            ap₂
            (λ b y. cond b (first_of y l.number (asking p (sound_flows p sound) st d bits sim.arrays ks m))
            (asking p (sound_flows p sound) st d bits sim.arrays ks m)) i e

        P : Live → List Live → Type 0
        P = Lasting p (next_state p (sound_flows p sound) st d bits ls sim)

        out : fell p d bits ks ≡ false → (did p d bits ks l).moves ≡ true → (r : Option ℕ)
            → goes_to (stage_at p l.thread.stage).next (work_of_live p d bits ks l).env ≡ r
            → Along (Lasting p (next_state p (sound_flows p sound) st d bits ls sim))
            (go_on p st d bits ks)
            → Along (Lasting p (next_state p (sound_flows p sound) st d bits ls sim))
            (moved_live r (advised p st bits l) (work_of_live p d bits ks l) ++ go_on p st d bits ks)
        out f i None e r = r
        out f i (Some q) e r =
            (lasting_moved p sound strict st d bits ls sim told ks l k.0 k.1 o.1 o.0 f (g.0 ∙ ap not f) a.0 i (fs.0 i) (λ m x u. h m _ (mine i m x u)) q e, r)

        at : (f : Bool) → fell p d bits ks ≡ f → (b : Bool) → (did p d bits ks l).moves ≡ b
            → Along (Lasting p (next_state p (sound_flows p sound) st d bits ls sim))
            (go_on p st d bits ks)
            → Along (Lasting p (next_state p (sound_flows p sound) st d bits ls sim))
            ((if f then []
            else cond b
            (moved_live (goes_to (stage_at p l.thread.stage).next (work_of_live p d bits ks l).env) (advised p st bits l) (work_of_live p d bits ks l))
            (stood p st d bits l ∷ []))
            ++ go_on p st d bits ks)
        at true e b i r = r
        at false e true i r = out e i (goes_to (stage_at p l.thread.stage).next (work_of_live p d bits ks l).env) refl r
        at false e false i r = (lasting_stood p sound strict st d bits ls sim told ks l k.0 k.1 o.1 o.0 e (g.0 ∙ ap not e) a.0, r)

    along_next : AllForeseen p (sound_flows p sound) st d bits sim.arrays ls → Along (Lasting p st) ls
        → Along (Lasting p (next_state p (sound_flows p sound) st d bits ls sim))
        (lives_next p (sound_flows p sound) st d bits sim.arrays ls)
    along_next fs a =
        at (made p (sound_flows p sound) st d bits sim.arrays ls)
        (along_on ls (known p (sound_flows p sound) st d bits ls sim) fs sim.ordered (fit p (sound_flows p sound) st d bits ls sim told) (λ m x e. e) a)
      where
        at : (c : Option (List ℕ))
            → Along (Lasting p (next_state p (sound_flows p sound) st d bits ls sim))
            (go_on p st d bits ls)
            → Along (Lasting p (next_state p (sound_flows p sound) st d bits ls sim))
            (born_live p (d.hints 0) st.next c ++ go_on p st d bits ls)
        at None r = r
        at (Some x) r = (fresh_lasting _ st.next (d.hints 0) x (go_on p st d bits ls), r)

    -- THE YOUNGEST

    none_is : (c r : Option (List ℕ)) → (if is_some c then c else r) ≡ None → (c ≡ None) × (r ≡ None)
    none_is None r h = (refl, h)
    none_is (Some x) r h = absurd (cc h)

    -- a squash makes a thread
    fell_made : (ks : List Live) → AllKnown p (sound_flows p sound) st d bits sim.arrays ks → fell p d bits ks ≡ true
        → made p (sound_flows p sound) st d bits sim.arrays ks ≡ None → ⊥
    fell_made [] k f e = cc f
    fell_made (l ∷ ks) k f e = at (did p d bits ks l).moves (work_of_live p d bits ks l).fails refl f e (λ i j. fell_made ks k.1 i j)
      where
        at : (b c : Bool) → (work_of_live p d bits ks l).fails ≡ c → ((b && c) || fell p d bits ks) ≡ true
            → cond b
            (if is_some (work_of_live p d bits ks l).child then (work_of_live p d bits ks l).child else made p (sound_flows p sound) st d bits sim.arrays ks)
            (made p (sound_flows p sound) st d bits sim.arrays ks)
            ≡ None
            → (fell p d bits ks ≡ true → made p (sound_flows p sound) st d bits sim.arrays ks ≡ None → ⊥) → ⊥
        at true true u i j g = cc (sym (ap is_some (none_is _ _ j).0) ∙ (childed_here p (sound_flows p sound) st d bits sim.arrays ks l k.0).squashes u)
        at true false u i j g = g i (none_is (work_of_live p d bits ks l).child _ j).1
        at false c u i j g = g i j

    -- a stage that makes nobody leaves it so
    unmade_next : (ks : List Live) (l : Live) → Known p (sound_flows p sound) st d bits sim.arrays ks l
        → has_made p l.env l.thread.stage ≡ false → (work_of_live p d bits ks l).child ≡ None
        → has_made p (work_of_live p d bits ks l).env (next_of p l.thread.stage (work_of_live p d bits ks l).env) ≡ false
    unmade_next ks l k y c =
        let keeps = keeps_now p (sound_flows p sound) st d bits sim.arrays l k.seated in
        ap (called false) (way_next p (sound_flows p sound) l.env (now_of p d bits l) keeps (around p d bits (dacts p d bits ks) l.thread.stage l.thread.hint))
        ∙ called_append false (on_way p l.env l.thread.stage) _
        ∙ ap (λ b. called b (onpath (work_of_live p d bits ks l).env (in_stage l.thread.stage p.stmts))) y
        ∙ childless (work_of_live p d bits ks l).env (around p d bits (dacts p d bits ks) l.thread.stage l.thread.hint)
        (in_stage l.thread.stage p.stmts) (start_of (now_of p d bits l))
        (fixed_here p (sound_flows p sound) l.env (now_of p d bits l) keeps (around p d bits (dacts p d bits ks) l.thread.stage l.thread.hint)) c

    young_on : (ks : List Live) → AllKnown p (sound_flows p sound) st d bits sim.arrays ks
        → made p (sound_flows p sound) st d bits sim.arrays ks ≡ None → Youngest p ks
        → Youngest p (go_on p st d bits ks)
    young_on [] k e y = tt
    young_on (l ∷ ks) k e y = at (fell p d bits ks) refl (did p d bits ks l).moves e
      where
        later : (b : Bool)
            → cond b
            (if is_some (work_of_live p d bits ks l).child then (work_of_live p d bits ks l).child else made p (sound_flows p sound) st d bits sim.arrays ks)
            (made p (sound_flows p sound) st d bits sim.arrays ks)
            ≡ None
            → made p (sound_flows p sound) st d bits sim.arrays ks ≡ None
        later true i = (none_is (work_of_live p d bits ks l).child _ i).1
        later false i = i

        out : (work_of_live p d bits ks l).child ≡ None → (r : Option ℕ)
            → goes_to (stage_at p l.thread.stage).next (work_of_live p d bits ks l).env ≡ r
            → Youngest p (moved_live r (advised p st bits l) (work_of_live p d bits ks l) ++ go_on p st d bits ks)
        out c None i =
            absurd
            (cc
            (sym (called_end (work_of_live p d bits ks l).env)
            ∙ ap (called false) (sym ((sound_flows p sound).whole (work_of_live p d bits ks l).env))
            ∙ ap (has_made p (work_of_live p d bits ks l).env) (sym (ap (stage_or (length p.stages)) i))
            ∙ unmade_next ks l k.0 y c))
        out c (Some q) i = ap (has_made p (work_of_live p d bits ks l).env) (sym (ap (stage_or (length p.stages)) i)) ∙ unmade_next ks l k.0 y c

        at : (f : Bool) → fell p d bits ks ≡ f → (b : Bool)
            → cond b
            (if is_some (work_of_live p d bits ks l).child then (work_of_live p d bits ks l).child else made p (sound_flows p sound) st d bits sim.arrays ks)
            (made p (sound_flows p sound) st d bits sim.arrays ks)
            ≡ None
            → Youngest p
            ((if f then []
            else cond b
            (moved_live (goes_to (stage_at p l.thread.stage).next (work_of_live p d bits ks l).env) (advised p st bits l) (work_of_live p d bits ks l))
            (stood p st d bits l ∷ []))
            ++ go_on p st d bits ks)
        at true f b i = absurd (fell_made ks k.1 f (later b i))
        at false f true i = out (none_is _ _ i).0 (goes_to (stage_at p l.thread.stage).next (work_of_live p d bits ks l).env) refl
        at false f false i = y

    young_next : Youngest p ls → Youngest p (lives_next p (sound_flows p sound) st d bits sim.arrays ls)
    young_next y = at (made p (sound_flows p sound) st d bits sim.arrays ls) refl
      where
        at : (c : Option (List ℕ))
            → made p (sound_flows p sound) st d bits sim.arrays ls ≡ c
            → Youngest p (born_live p (d.hints 0) st.next c ++ go_on p st d bits ls)
        at None e = young_on ls (known p (sound_flows p sound) st d bits ls sim) e y
        at (Some x) e = fresh_young x

    whole_next : Whole p st ls → Whole p (cycle p st bits) (lives_next p (sound_flows p sound) st d bits sim.arrays ls)
    whole_next w = record {
      along =
          subst (λ s. Along (Lasting p s) (lives_next p (sound_flows p sound) st d bits sim.arrays ls))
          (sym (after_is p (sound_flows p sound) st d bits ls sim told)) (along_next (foreseen p (sound_flows p sound) st d bits ls sim told) w.along);
      youngest = young_next w.youngest;
    }

  -- a state of the stated machine that belongs to one of the derived machine; all this holds of the live threads, and they were given what they say next
  pub record Reached (st : State) (d : Derived.State) (more : List (List Bool)) : Type 0 where
    pub live : List Live
    pub sim : Sim p st d live
    pub whole : Whole p st live
    pub foretells : Foretells p st d more live

  whole_run : (st : State) (d : Derived.State) (schedule more : List (List Bool)) (ls : List Live) → Sim p st d ls
      → Foretells p st d (schedule ++ more) ls → Whole p st ls
      → Reached (state_after p st schedule) (Derived.state_after p d schedule) more
  whole_run st d [] more ls sim f w = record { live = ls; sim = sim; whole = w; foretells = f }
  whole_run st d (bits ∷ schedule) more ls sim f w =
      let told = foretold_here p (sound_flows p sound) st d bits ls sim (schedule ++ more) f in
      whole_run (cycle p st bits)
      (Derived.cycle p d bits) schedule more (lives_next p (sound_flows p sound) st d bits sim.arrays ls)
      (cycle_sim p (sound_flows p sound) st d bits ls sim told)
      (foretells_next p (sound_flows p sound) st d bits ls sim told (schedule ++ more) f) (whole_next st d bits ls sim told w)

  -- every state that a run comes to belongs to one of the derived machine, and all this holds of its live threads
  pub reached : (image : Arrays) (schedule more : List (List Bool))
      → Reached (state_after p (first p image) schedule)
      (Derived.state_after p (Derived.first p image (hints_of p (first p image) (schedule ++ more))) schedule) more
  reached image schedule more =
      whole_run (first p image) (Derived.first p image (hints_of p (first p image) (schedule ++ more))) schedule more
      (first_live p (sound_flows p sound) (hints_of p (first p image) (schedule ++ more) 0) ∷ [])
      (first_sim p (sound_flows p sound) image (hints_of p (first p image) (schedule ++ more)))
      (first_foretells p (sound_flows p sound) image (schedule ++ more))
      (record { along = (fresh_lasting (first p image) 1 (hints_of p (first p image) (schedule ++ more) 0) p.start [], tt); youngest = fresh_young p.start })
