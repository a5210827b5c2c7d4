-- What the threads of one path make: the facts of their calls and guesses by stages.
use Rattle.std.proofs.Common.{◌≡◌, refl, sym, ap, ◌∙◌, subst, ℕ, suc, ◌≤◌, ◌<◌, inl, true, false, List, length, Option, Some, None, nat_lt, ltb-true, ltb-false}
use Rattle.std.proofs.lemmas.Bool.{false≢true}
use Rattle.pdl_semantics.specs.Flat.{Pipe}
use Rattle.pdl_semantics.specs.Stages.{is_check, onpath, in_stage, verify_stage}
use Rattle.pdl_semantics.specs.Machine.{same_args}
use Rattle.pdl_semantics.specs.Sequential.{Run, run_all, thread}
use Rattle.pdl_theory_turns.specs.Derived.{Around, work_of_stage}
use Rattle.pdl_theory_turns.specs.Alone.{World, alone, before, start_work, so_far, thread_at}
use Rattle.pdl_theory_turns.specs.Scans.{Fresh, none_of}
use Rattle.pdl_theory_turns.specs.GuessScans.{Making, Unmade, Guessed, Made, making_all, is_unmade, is_guessed, is_made, makings_ok}
use Rattle.pdl_theory_turns.specs.Accepted.{Pathwise, along}
use Rattle.pdl_theory_turns.proofs.Stages.{reset}
use Rattle.pdl_theory_turns.proofs.TurnPath.{start_run, run_at, run_append, ok_before, start_related}
use Rattle.pdl_theory_turns.proofs.Guesses.{same_args_refl, unchecked_from, making_append, makings_first, makings_second, no_guess, unverified_made, settled, unfailed, run_settled, Calls, calls_all, Changed, changed_all}
use Rattle.pdl_semantics.proofs.Bools.{by_bool}
use Rattle.pdl_semantics.specs.Sound.{stages_from}

made_is : (k : Making) → is_made k ≡ true → k ≡ Made
made_is Unmade h = absurd (cc h)
made_is Guessed h = absurd (cc h)
made_is Made h = refl

by_making : (k : Making) (R : Type 0) → (k ≡ Unmade → R) → (k ≡ Guessed → R) → (k ≡ Made → R) → R
by_making Unmade R f g h = f refl
by_making Guessed R f g h = g refl
by_making Made R f g h = h refl

not_some : {x : List ℕ} → None ≡ Some x → ⊥
not_some h = cc

same_some : {x y : List ℕ} → Some x ≡ Some y → x ≡ y
same_some h = cc

module _ (p : Pipe) (acc : Pathwise p) (path : List ℕ) (world : World) (args : List ℕ) where
  -- the statements of a path before a stage make the next thread in order
  pub makings_before : (s : ℕ) → makings_ok (verify_stage p.stmts) Unmade (before s (onpath path p.stmts)) ≡ true
  makings_before s =
      makings_first (verify_stage p.stmts) Unmade (before s (onpath path p.stmts)) (stages_from s (onpath path p.stmts))
      (subst (λ l. makings_ok (verify_stage p.stmts) Unmade l ≡ true) ((acc.paths path).ordered s) (acc.makings path))

  makings_from : (s : ℕ) → makings_ok (verify_stage p.stmts) (making_all Unmade (before s (onpath path p.stmts))) (stages_from s (onpath path p.stmts)) ≡ true
  makings_from s =
      makings_second (verify_stage p.stmts) Unmade (before s (onpath path p.stmts)) (stages_from s (onpath path p.stmts))
      (subst (λ l. makings_ok (verify_stage p.stmts) Unmade l ≡ true) ((acc.paths path).ordered s) (acc.makings path))

  -- the statements of a path in one stage make the next thread in order, after those before that stage
  pub makings_stage : (s : ℕ) → makings_ok (verify_stage p.stmts) (making_all Unmade (before s (onpath path p.stmts))) (in_stage s (onpath path p.stmts)) ≡ true
  makings_stage s =
      makings_second (verify_stage p.stmts) Unmade (before s (onpath path p.stmts)) (in_stage s (onpath path p.stmts))
      (subst (λ l. makings_ok (verify_stage p.stmts) Unmade l ≡ true) ((acc.paths path).pieces s) (makings_before (suc s)))

  -- how far a path is with the next thread after a stage is what the stage's statements make of how far it was before
  pub next_making : (s : ℕ)
      → making_all Unmade (before (suc s) (onpath path p.stmts))
      ≡ making_all (making_all Unmade (before s (onpath path p.stmts))) (in_stage s (onpath path p.stmts))
  next_making s = ap (making_all Unmade) ((acc.paths path).pieces s) ∙ making_append Unmade (before s (onpath path p.stmts)) (in_stage s (onpath path p.stmts))

  -- in the end the next thread is made for certain
  at_last : (s : ℕ) → making_all (making_all Unmade (before s (onpath path p.stmts))) (stages_from s (onpath path p.stmts)) ≡ Made
  at_last s =
      sym (making_append Unmade (before s (onpath path p.stmts)) (stages_from s (onpath path p.stmts)))
      ∙ ap (making_all Unmade) (sym ((acc.paths path).ordered s))
      ∙ made_is _ (acc.made path)

  -- before each stage the thread has made nobody, the one that it guesses, or the next turn's, by how far its path is
  pub calls_at : (s : ℕ)
      → Calls (making_all Unmade (before s (onpath path p.stmts)))
      (so_far (along path p) world args s).child (so_far (along path p) world args s).guess (run_at (along path p) world.words args s).next
  calls_at s =
      calls_all world (verify_stage p.stmts) (before s (onpath path p.stmts))
      (λ m. Fresh) Unmade (start_work (along path p) args) (start_run (along path p) world.words args)
      (ok_before (along path p) (acc.paths path) world args s) (makings_before s) (start_related (along path p) (acc.paths path) world args) refl

  -- the next arguments stay once the next thread is made for certain
  rest_next : (s : ℕ) → making_all Unmade (before s (onpath path p.stmts)) ≡ Made
      → (thread (along path p) world.words args).next ≡ (run_at (along path p) world.words args s).next
  rest_next s e =
      let ok = subst (λ k. makings_ok (verify_stage p.stmts) k (stages_from s (onpath path p.stmts)) ≡ true) e (makings_from s) in
      ap (λ l. (run_all l (start_run (along path p) world.words args)).next) ((acc.paths path).ordered s)
      ∙ ap (λ (r : Run). r.next) (run_append (before s (onpath path p.stmts)) (stages_from s (onpath path p.stmts)) (start_run (along path p) world.words args))
      ∙ run_settled (verify_stage p.stmts) Made (stages_from s (onpath path p.stmts))
      (run_at (along path p) world.words args s) refl ok (unverified_made (verify_stage p.stmts) (stages_from s (onpath path p.stmts)) ok)

  -- where a path has made the next thread for certain, that has the arguments which the sequential run gives it
  pub made_child : (s : ℕ) → making_all Unmade (before s (onpath path p.stmts)) ≡ Made
      → (so_far (along path p) world args s).child ≡ Some (thread (along path p) world.words args).next
  made_child s e =
      subst
      (λ k. Calls k (so_far (along path p) world args s).child (so_far (along path p) world args s).guess (run_at (along path p) world.words args s).next) e
      (calls_at s)
      ∙ ap Some (sym (rest_next s e))

  guessed_child : (s : ℕ) → making_all Unmade (before s (onpath path p.stmts)) ≡ Guessed
      → (so_far (along path p) world args s).child ≡ Some (so_far (along path p) world args s).guess
  guessed_child s e =
      subst
      (λ k. Calls k (so_far (along path p) world args s).child (so_far (along path p) world args s).guess (run_at (along path p) world.words args s).next) e
      (calls_at s)

  unmade_child : (s : ℕ) → making_all Unmade (before s (onpath path p.stmts)) ≡ Unmade → (so_far (along path p) world args s).child ≡ None
  unmade_child s e =
      subst
      (λ k. Calls k (so_far (along path p) world args s).child (so_far (along path p) world args s).guess (run_at (along path p) world.words args s).next) e
      (calls_at s)

  -- at the end of the pipe a thread has made a successor with the arguments which the sequential run gives it
  pub child_in_end : (so_far (along path p) world args (length p.stages)).child ≡ Some (thread (along path p) world.words args).next
  child_in_end = made_child (length p.stages) (ap (making_all Unmade) (acc.paths path).whole ∙ made_is _ (acc.made path))

  -- where a guess is open before a stage, the verifies stand in that stage or a later one
  pub guess_inside : (s : ℕ) → making_all Unmade (before s (onpath path p.stmts)) ≡ Guessed → (v : ℕ) × (verify_stage p.stmts ≡ Some v) × (s ≤ v)
  guess_inside s e = at (verify_stage p.stmts) refl
    where
      guessed_none : is_guessed (making_all Unmade (before s (onpath path p.stmts))) ≡ true
      guessed_none = ap is_guessed e

      at : (o : Option ℕ) → verify_stage p.stmts ≡ o → (v : ℕ) × (verify_stage p.stmts ≡ Some v) × (s ≤ v)
      at None i =
          absurd
          (false≢true
          (sym
          (no_guess Unmade (before s (onpath path p.stmts))
          (subst (λ o. makings_ok o Unmade (before s (onpath path p.stmts)) ≡ true) i (makings_before s)) refl)
          ∙ guessed_none))
      at (Some v) i = (v, i, by_bool (nat_lt v s) (s ≤ v) (λ late. absurd (never (ltb-true _ _ late))) (λ early. ltb-false _ _ early))
        where
          never : v < s → ⊥
          never low =
              let none : none_of is_check (stages_from s (onpath path p.stmts)) ≡ true =
              unchecked_from v Unmade (onpath path p.stmts) s low (subst (λ o. makings_ok o Unmade (onpath path p.stmts) ≡ true) i (acc.makings path)) in
              let ok = subst (λ k. makings_ok (verify_stage p.stmts) k (stages_from s (onpath path p.stmts)) ≡ true) e (makings_from s) in
              apart
              (sym (settled (alone world) (verify_stage p.stmts) Guessed (stages_from s (onpath path p.stmts)) (start_work p args) refl ok none).1
              ∙ ap (λ k. making_all k (stages_from s (onpath path p.stmts))) (sym e) ∙ at_last s)
            where
              apart : Guessed ≡ Made → ⊥
              apart k = cc

  -- a stage of a thread that has made one makes nothing, or replaces it
  pub made_changes : (o : Around) (s : ℕ) (x : List ℕ)
      → (so_far (along path p) world args s).child ≡ Some x
      → Changed (work_of_stage (along path p) o (thread_at (along path p) world args s))
  made_changes o s x h =
      by_making (making_all Unmade (before s (onpath path p.stmts))) _
      (λ k. absurd (not_some (sym (unmade_child s k) ∙ h)))
      (λ k. here Guessed k refl)
      (λ k. here Made k refl)
    where
      here : (k : Making)
          → making_all Unmade (before s (onpath path p.stmts)) ≡ k → is_unmade k ≡ false
          → Changed (work_of_stage (along path p) o (thread_at (along path p) world args s))
      here k i u =
          (changed_all o (verify_stage p.stmts) k (in_stage s (onpath path p.stmts))
          (reset (so_far (along path p) world args s)) u
          (subst (λ j. makings_ok (verify_stage p.stmts) j (in_stage s (onpath path p.stmts)) ≡ true) i (makings_stage s)) (inl (refl, refl))).0

  -- only a thread whose guess isn't verified yet replaces it before a stage, the stage makes none and fails no verify
  pub change_guessed : (o : Around) (s : ℕ) (x : List ℕ)
      → (so_far (along path p) world args s).child ≡ Some x
      → (work_of_stage (along path p) o (thread_at (along path p) world args s)).fails ≡ true
      → making_all Unmade (before s (onpath path p.stmts)) ≡ Guessed
  change_guessed o s x h f =
      by_making (making_all Unmade (before s (onpath path p.stmts))) _
      (λ k. absurd (not_some (sym (unmade_child s k) ∙ h)))
      (λ k. k)
      (λ k.
      let ok = subst (λ j. makings_ok (verify_stage p.stmts) j (in_stage s (onpath path p.stmts)) ≡ true) k (makings_stage s) in
      absurd (false≢true (sym (unfailed o (in_stage s (onpath path p.stmts))
      (reset (so_far (along path p) world args s)) (unverified_made (verify_stage p.stmts) (in_stage s (onpath path p.stmts)) ok)) ∙ f)))

  -- a wrong guess is not verified yet
  pub wrong_made : (s : ℕ) (x : List ℕ) → (so_far (along path p) world args s).child ≡ Some x
      → same_args x (thread (along path p) world.words args).next ≡ false
      → making_all Unmade (before s (onpath path p.stmts)) ≡ Guessed
  wrong_made s x e h =
      by_making (making_all Unmade (before s (onpath path p.stmts))) _
      (λ k. absurd (not_some (sym (unmade_child s k) ∙ e)))
      (λ k. k)
      (λ k. absurd
      (false≢true
      (sym h ∙ ap (λ y. same_args y (thread (along path p) world.words args).next) (same_some (sym e ∙ made_child s k))
      ∙ same_args_refl (thread (along path p) world.words args).next)))
