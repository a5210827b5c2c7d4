-- A thread that releases a write before V has passed a barrier, so that all older ones stand after V.
use Rattle.std.proofs.Common.{◌≡◌, refl, sym, ap, ◌∙◌, subst, ℕ, ◌<◌, Bool, true, false, ◌&&◌, ◌||◌, not, List, [], ◌∷◌, ◌++◌, Some, nat_lt, nat_le, cond, arith, le_refl, ltb-true, leb-true, lt-ltb, ◌≢◌}
use Rattle.std.proofs.lemmas.Bool.{false≢true}
use Rattle.pdl_semantics.specs.Flat.{list_all, Pipe, Branch, Op, Block, SpecBarrier, Stmt, all_hold}
use Rattle.pdl_semantics.specs.Stages.{list_any, onpath, in_stage, stage_at, verify_stage}
use Rattle.pdl_semantics.specs.Machine.{State}
use Rattle.pdl_semantics.specs.Sound
use Rattle.pdl_semantics.specs.Cycle.{releases_of}
use Rattle.pdl_theory_turns.specs.Derived
use Rattle.pdl_theory_turns.specs.Derived.{Around, around, befores, no_hint}
use Rattle.pdl_theory_turns.specs.Scans.{Fresh, phase_all, phases_ok, no_scan, none_of}
use Rattle.pdl_theory_turns.specs.GuessScans.{all_sure}
use Rattle.pdl_theory_turns.specs.Facts.{Sound, trunk_only, looked_all, at_once}
use Rattle.pdl_theory_turns.specs.Accepted.{along}
use Rattle.pdl_theory_turns.proofs.Writes.{and_left, and_right}
use Rattle.pdl_theory_turns.proofs.CertaintyScans.{sure_first}
use Rattle.pdl_theory_turns.proofs.StrayPaths.{verify_looked}
use Rattle.pdl_theory_turns.proofs.TurnPath
use Rattle.pdl_theory_simulation.proofs.FlowFacts.{next_of}
use Rattle.pdl_theory_simulation.proofs.AcceptedFacts.{sound_flows, phases_looked}
use Rattle.pdl_theory_simulation.proofs.Stretches.{Behind, Keeps, start_of, fixed_here, left_trunk}
use Rattle.pdl_theory_simulation.proofs.Seats.{Live, each_map, threads_of, dacts, did, now_of, work_of_live, deeds_of, befores_are}
use Rattle.pdl_theory_simulation.proofs.Choices.{Known, keeps_now}
use Rattle.pdl_theory_states.proofs.Trails.{stmts_append, stmts_map, stage_stmts}
use Rattle.pdl_theory_states.proofs.Points.{any_onto}
use Rattle.pdl_theory_states.proofs.Stage.{barred, clear_all, way_looked}
use Rattle.pdl_theory_states.proofs.Stage as stage
use Rattle.pdl_theory_states.proofs.ThreadFacts.{Lasting}
use Rattle.pdl_theory_states.proofs.Releases.{is_done, sure_done, low_stages, stages_looked, unbarred}
use Rattle.pdl_machine_lockuse.proofs.Paths.{path, mine, passed, way_is}
use Rattle.pdl_machine_lockuse.proofs.OwnWrite.{used_here}
use Rattle.pdl_theory_turns.proofs.TurnPath.{phase_append}
use Rattle.pdl_semantics.specs.Sound.{stages_from}
use Rattle.pdl_semantics.specs.Promises.{DifferInAdvice}
use Rattle.pdl_word.specs.Each.{Each}

-- barriers stand in the trunk alone
not_barred : (xs : List Stmt) (path : List ℕ) → none_of trunk_only xs ≡ true → stage.some_barrier (onpath path xs) ≡ true → ⊥
not_barred [] path h k = cc k
not_barred (x ∷ xs) path h k = at (all_hold x.guards path) k (λ i. not_barred xs path (and_right (not (trunk_only x.op)) _ h) i)
  where
    no : (op : Op) → not (trunk_only op) ≡ true → Sound.is_barrier op ≡ true → ⊥
    no SpecBarrier i j = cc i
    no (Block m a) i j = cc j
    no _ i j = absurd (cc j)

    first : (b c : Bool) → (b ≡ true → ⊥) → (b || c) ≡ true → c ≡ true
    first true c f i = absurd (f refl)
    first false c f i = i

    at : (b : Bool) → stage.some_barrier (cond b (record x { guards = [] } ∷ onpath path xs) (onpath path xs)) ≡ true
        → (stage.some_barrier (onpath path xs) ≡ true → ⊥) → ⊥
    at true i f = f (first (Sound.is_barrier x.op) (stage.some_barrier (onpath path xs)) (λ e. no x.op (and_left _ _ h) e) i)
    at false i f = f i

any_append : (xs ys : List Stmt) → list_any (λ (x : Stmt). Sound.is_barrier x.op) xs ≡ false → stage.some_barrier ys ≡ false
    → list_any (λ (x : Stmt). Sound.is_barrier x.op) (xs ++ ys) ≡ false
any_append [] [] h k = refl
any_append [] (y ∷ ys) h k = at (Sound.is_barrier y.op) k (any_append [] ys refl)
  where
    at : (b : Bool) → (b || stage.some_barrier ys) ≡ false → (stage.some_barrier ys ≡ false → list_any (λ (x : Stmt). Sound.is_barrier x.op) ys ≡ false)
        → (b || list_any (λ (x : Stmt). Sound.is_barrier x.op) ys) ≡ false
    at true e f = absurd (cc e)
    at false e f = f e
any_append (x ∷ xs) ys h k = at (Sound.is_barrier x.op) h (λ i. any_append xs ys i k)
  where
    at : (b : Bool) → (b || list_any (λ (x : Stmt). Sound.is_barrier x.op) xs) ≡ false
        → (list_any (λ (x : Stmt). Sound.is_barrier x.op) xs ≡ false → list_any (λ (x : Stmt). Sound.is_barrier x.op) (xs ++ ys) ≡ false)
        → (b || list_any (λ (x : Stmt). Sound.is_barrier x.op) (xs ++ ys)) ≡ false
    at true e f = absurd (cc e)
    at false e f = f e

module _ (p : Pipe) (sound : Sound p) (st : State) (d : Derived.State) (bits : List Bool)
    (arrays : DifferInAdvice p st.arrays d.arrays) (older : List Live) (l : Live)
    (k : Known p (sound_flows p sound) st d bits arrays older l) where
  abbrev route : List ℕ
  route = path p sound st d bits arrays older l k

  abbrev own : List Stmt
  own = mine p sound st d bits arrays older l k

  abbrev gone : List Stmt
  gone = passed p sound st d bits arrays older l k

  keeps : Keeps p l.env (now_of p d bits l)
  keeps = keeps_now p (sound_flows p sound) st d bits arrays l k.seated

  abbrev way : List Stmt
  way = gone ++ own

  way_here : Rattle.pdl_theory_simulation.proofs.Stretches.on_way p route
      (next_of p l.thread.stage route) ≡ way
  way_here = way_is p sound st d bits arrays older l k

  -- without a barrier nothing is released before V
  unreleased : (v : ℕ) → verify_stage p.stmts ≡ Some v → l.thread.stage < v → list_any (λ (x : Stmt). Sound.is_barrier x.op) way ≡ false → (m : ℕ)
      → is_done (phase_all m Fresh way) ≡ false
  unreleased v verifies low clear m =
      let q = route in
      let n = next_of p l.thread.stage q in
      let looked_way = way_looked p q n ∙ ap looked_all way_here in
      ap is_done (sym (phases_looked m Fresh way))
      ∙ sure_done m v no_scan Fresh (looked_all way)
      (subst (λ xs. phases_ok m Fresh xs ≡ true) looked_way
      (TurnPath.ok_before (along q (at_once p)) (sound.pathwise.paths q) (record { words = λ k a. 0; hint = no_hint }) [] n m))
      (subst (λ o. all_sure o false no_scan (looked_all way) ≡ true) (verify_looked p.stmts ∙ verifies)
      (subst (λ xs. all_sure (verify_stage (looked_all p.stmts)) false no_scan xs ≡ true) looked_way
      (sure_first (verify_stage (looked_all p.stmts)) false no_scan (Rattle.pdl_theory_turns.specs.Alone.before n (onpath q (looked_all p.stmts)))
      (stages_from n (onpath q (looked_all p.stmts)))
      (subst (λ xs. all_sure (verify_stage (looked_all p.stmts)) false no_scan xs ≡ true) ((sound.pathwise.paths q).ordered n) (sound.pathwise.sure q)))))
      (unbarred way clear)
      (stages_looked (λ s. nat_lt s v ≡ true) way
      (stmts_append (λ x. nat_lt x.stage v ≡ true) gone own
      (stmts_map (λ z i. lt-ltb _ _ (let j = i in omega (arith, j, low))) gone (low_stages l.env l.thread.stage p.stmts))
      (stmts_map (λ z i. lt-ltb _ _ (let j = i in omega (arith, j, low))) own (stage_stmts q l.thread.stage p.stmts))))
      (record { unwritten = λ x i. absurd (cc i); full = λ x i. absurd (cc i) }) refl

  -- a barrier of the stage found nobody before V
  barrier_here : (v : ℕ) → verify_stage p.stmts ≡ Some v → Each (λ j. Behind p l.thread.stage j.thread.stage) older
      → (work_of_live p d bits older l).ready ≡ true → stage.some_barrier own ≡ true
      → Each (λ j. v < j.thread.stage) older
  barrier_here v e behind ready b = at (stage_at p l.thread.stage).branches refl
    where
      o : Around
      o = around p d bits (dacts p d bits older) l.thread.stage l.thread.hint

      clear : Derived.barrier_clear (Some v) l.thread.stage (threads_of older) ≡ true
      clear =
          subst (λ ts. Derived.barrier_clear (Some v) l.thread.stage ts ≡ true) (befores_are p d bits older)
          (subst (λ r. Derived.barrier_clear r l.thread.stage (befores (dacts p d bits older)) ≡ true) e
          (clear_all (work_of_live p d bits older l).env o (in_stage l.thread.stage p.stmts)
          (start_of (now_of p d bits l))
          (fixed_here p (sound_flows p sound) l.env (now_of p d bits l) keeps o) b ready))

      each : (js : List Live) → Each (λ j. l.thread.stage < j.thread.stage) js → Derived.barrier_clear (Some v) l.thread.stage (threads_of js) ≡ true
          → Each (λ j. v < j.thread.stage) js
      each [] s c = tt
      each (j ∷ js) s c = (
        one (nat_le j.thread.stage l.thread.stage) refl (and_left _ _ c),
        each js s.1 (and_right (nat_le j.thread.stage l.thread.stage || nat_lt v j.thread.stage) _ c),
      )
        where
          one : (t : Bool) → nat_le j.thread.stage l.thread.stage ≡ t → (t || nat_lt v j.thread.stage) ≡ true → v < j.thread.stage
          one true i u = absurd (let w = leb-true _ _ i in let y = s.0 in omega (arith, w, y))
          one false i u = ltb-true _ _ u

      at : (c : List Branch) → (stage_at p l.thread.stage).branches ≡ c → Each (λ j. v < j.thread.stage) older
      at [] i = each older (each_map (λ j g. left_trunk p _ _ g l.thread.stage i (le_refl l.thread.stage)) older behind) clear
      at (x ∷ c) i =
          absurd (not_barred (in_stage l.thread.stage p.stmts) (work_of_live p d bits older l).env ((sound_flows p sound).branches x c l.thread.stage i) b)

  -- so who releases before V has only older threads that stand after V
  pub certain_here : Lasting p st l older → Each (λ j. Behind p l.thread.stage j.thread.stage) older → (did p d bits older l).moves ≡ true → (m v : ℕ)
      → verify_stage p.stmts ≡ Some v → l.thread.stage < v → releases_of m (deeds_of p st bits l).releases ≢ 0
      → Each (λ j. v < j.thread.stage) older
  certain_here lasting behind moves m v e low h =
      at (list_any (λ (x : Stmt). Sound.is_barrier x.op) gone) refl
      (stage.some_barrier own) refl
    where
      ready : (work_of_live p d bits older l).ready ≡ true
      ready =
          and_right (list_all (λ (o : Derived.Act). not (o.moves && o.work.fails)) (dacts p d bits older)) (work_of_live p d bits older l).ready
          (and_left _ _ (and_left _ _ (and_left _ _ moves)))

      done : is_done (phase_all m Fresh way) ≡ true
      done =
          ap is_done (phase_append m gone own Fresh)
          ∙ (used_here p sound st d bits arrays older l k m).done h

      at : (b : Bool) → list_any (λ (x : Stmt). Sound.is_barrier x.op) gone ≡ b → (c : Bool)
          → stage.some_barrier own ≡ c → Each (λ j. v < j.thread.stage) older
      at true i c j = lasting.certain v e (any_onto Sound.is_barrier barred (λ op ops. refl) gone [] i)
      at false i true j = barrier_here v e behind ready j
      at false i false j =
          absurd
          (false≢true (sym (unreleased v e low (any_append gone own i j) m) ∙ done))
