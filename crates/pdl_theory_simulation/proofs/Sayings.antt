-- What the threads say that move: where it is what they were given, both machines do the same.
use Rattle.std.proofs.Common.{◌≡◌, refl, sym, ap, ap₂, ◌∙◌, subst, ℕ, ◌⊎◌, inl, inr, Bool, true, false, ◌&&◌, not, List, [], ◌∷◌, ◌==◌}
use Rattle.pdl_semantics.specs.Flat.{Pipe, Op, Verify, Stmt}
use Rattle.pdl_semantics.specs.Stages.{list_any, onpath, in_stage, is_check, is_verify}
use Rattle.pdl_semantics.specs.Machine.{State, Deeds, word_for}
use Rattle.pdl_semantics.specs.Moves.{block_ready}
use Rattle.pdl_semantics.specs.Moves
use Rattle.pdl_semantics.specs.Promises.{DifferInAdvice}
use Rattle.pdl_semantics.specs.Sound.{is_spec_call}
use Rattle.pdl_theory_turns.specs.Derived.{Work, around, port_free}
use Rattle.pdl_theory_turns.specs.Derived
use Rattle.pdl_theory_turns.proofs.Writes.{and_left, and_right}
use Rattle.pdl_theory_turns.proofs.Deeds.{AllGuesses, told_all}
use Rattle.pdl_theory_turns.specs.Scans.{none_of}
use Rattle.pdl_theory_turns.specs.GuessScans.{is_update}
use Rattle.pdl_theory_turns.proofs.Guesses.{unfailed}
use Rattle.pdl_theory_simulation.proofs.FlowFacts.{Flows}
use Rattle.pdl_theory_simulation.proofs.Stretches.{start_of, has_made, has_done, calls_here, once_here}
use Rattle.pdl_theory_simulation.proofs.Guessing.{unguessed, foreseen, renewed}
use Rattle.pdl_theory_simulation.proofs.Seats.{Live, dacts, did, now_of, work_of_live, deeds_of}
use Rattle.pdl_theory_simulation.proofs.Choices.{Known, Same_deeds, begun, deeds_are, fit_all, starts_here, fixed_way, keeps_now}

-- whether the thread of this number moves by these acts of the stated machine
abbrev pub moves_in : ℕ → List Moves.Act → Bool
moves_in n these = list_any (λ a. (a.thread.number == n) && a.moves) these

module _ (p : Pipe) (flows : Flows p) (st : State) (d : Derived.State) (bits : List Bool) (arrays : DifferInAdvice p st.arrays d.arrays) where
  -- its stage's guesses are those that it was given
  abbrev pub Foresees : List Live → Live → Type 0
  Foresees ls l =
      AllGuesses (around p d bits (dacts p d bits ls) l.thread.stage l.thread.hint) (word_for st l.number) (λ b. block_ready p st l.number b)
      (λ q. port_free p d bits (dacts p d bits ls) q.mem) (in_stage l.thread.stage p.stmts) (begun p flows st d bits arrays l (now_of p d bits l).env)

  -- what a live thread's stage asks of the stated machine and its work in the derived one are of the same statements
  pub told_here : (ls : List Live) (l : Live) → Known p flows st d bits arrays ls l → Foresees ls l
      → Same_deeds p flows st d bits arrays ls l (deeds_of p st bits l) (work_of_live p d bits ls l)
  told_here ls l k foresees =
      subst (λ e. Same_deeds p flows st d bits arrays ls l e (work_of_live p d bits ls l)) (sym (deeds_are p flows st d bits arrays ls l k))
      (told_all (around p d bits (dacts p d bits ls) l.thread.stage l.thread.hint) (word_for st l.number) (λ b. block_ready p st l.number b)
      (λ q. port_free p d bits (dacts p d bits ls) q.mem)
      (in_stage l.thread.stage p.stmts)
      (begun p flows st d bits arrays l (now_of p d bits l).env) l.thread.entries [] k.seated.keeps_on.held (fit_all p flows st d bits arrays ls l k) foresees)

  -- where it makes no guess and no update
  pub none_foreseen : (ls : List Live) (l : Live) (k : Known p flows st d bits arrays ls l)
      → none_of is_spec_call (onpath (work_of_live p d bits ls l).env (in_stage l.thread.stage p.stmts)) ≡ true
      → none_of is_update (onpath (work_of_live p d bits ls l).env (in_stage l.thread.stage p.stmts)) ≡ true → Foresees ls l
  none_foreseen ls l k h u =
      unguessed (around p d bits (dacts p d bits ls) l.thread.stage l.thread.hint) (word_for st l.number) (λ b. block_ready p st l.number b)
      (λ q. port_free p d bits (dacts p d bits ls) q.mem) (work_of_live p d bits ls l).env (in_stage l.thread.stage p.stmts)
      (begun p flows st d bits arrays l (now_of p d bits l).env) (start_of (now_of p d bits l))
      (starts_here p flows st d bits arrays ls l k) (fit_all p flows st d bits arrays ls l k) (fixed_way p flows st d bits arrays ls l k) h u

  -- a stage that makes a guess has no check
  pub guess_unchecked : (ls : List Live) (l : Live)
      → none_of is_spec_call (onpath (work_of_live p d bits ls l).env (in_stage l.thread.stage p.stmts)) ≡ false
      → none_of is_check (onpath (work_of_live p d bits ls l).env (in_stage l.thread.stage p.stmts)) ≡ true
  guess_unchecked ls l i = at (flows.guess_apart (work_of_live p d bits ls l).env l.thread.stage)
    where
      at : (none_of is_spec_call (onpath (work_of_live p d bits ls l).env (in_stage l.thread.stage p.stmts)) ≡ true)
          ⊎ (none_of is_check (onpath (work_of_live p d bits ls l).env (in_stage l.thread.stage p.stmts)) ≡ true)
          → none_of is_check (onpath (work_of_live p d bits ls l).env (in_stage l.thread.stage p.stmts)) ≡ true
      at (inl j) = absurd (cc (sym i ∙ j))
      at (inr j) = j

  -- where it makes a guess, which is its hint
  pub guess_foreseen : (ls : List Live) (l : Live) (k : Known p flows st d bits arrays ls l)
      → none_of is_spec_call (onpath (work_of_live p d bits ls l).env (in_stage l.thread.stage p.stmts)) ≡ false
      → (deeds_of p st bits l).guess ≡ l.thread.hint.guess → Foresees ls l
  guess_foreseen ls l k i h =
      foreseen (around p d bits (dacts p d bits ls) l.thread.stage l.thread.hint) (word_for st l.number) (λ b. block_ready p st l.number b)
      (λ q. port_free p d bits (dacts p d bits ls) q.mem) (work_of_live p d bits ls l).env (in_stage l.thread.stage p.stmts) (has_made p l.env l.thread.stage)
      (begun p flows st d bits arrays l (now_of p d bits l).env) (start_of (now_of p d bits l))
      (starts_here p flows st d bits arrays ls l k) (fit_all p flows st d bits arrays ls l k) (fixed_way p flows st d bits arrays ls l k)
      (calls_here p flows l.env (now_of p d bits l) (keeps_now p flows st d bits arrays l k.seated)
      (around p d bits (dacts p d bits ls) l.thread.stage l.thread.hint))
      (guess_unchecked ls l i) (ap (λ (e : Deeds). e.guess) (sym (deeds_are p flows st d bits arrays ls l k)) ∙ h)

  -- where it makes an update, which is its hint
  pub update_foreseen : (ls : List Live) (l : Live) (k : Known p flows st d bits arrays ls l)
      → none_of is_update (onpath (work_of_live p d bits ls l).env (in_stage l.thread.stage p.stmts)) ≡ false
      → (deeds_of p st bits l).guess ≡ l.thread.hint.update → Foresees ls l
  update_foreseen ls l k i h =
      renewed (around p d bits (dacts p d bits ls) l.thread.stage l.thread.hint) (word_for st l.number) (λ b. block_ready p st l.number b)
      (λ q. port_free p d bits (dacts p d bits ls) q.mem) (work_of_live p d bits ls l).env (in_stage l.thread.stage p.stmts)
      (has_done is_update p l.env l.thread.stage)
      (begun p flows st d bits arrays l (now_of p d bits l).env) (start_of (now_of p d bits l))
      (starts_here p flows st d bits arrays ls l k) (fit_all p flows st d bits arrays ls l k) (fixed_way p flows st d bits arrays ls l k)
      (unguessing (flows.guess_apart (work_of_live p d bits ls l).env l.thread.stage))
      (unverified (flows.update_apart (work_of_live p d bits ls l).env l.thread.stage))
      (once_here p flows l.env (now_of p d bits l) (keeps_now p flows st d bits arrays l k.seated) is_update flows.updates
      (around p d bits (dacts p d bits ls) l.thread.stage l.thread.hint))
      (ap (λ (e : Deeds). e.guess) (sym (deeds_are p flows st d bits arrays ls l k)) ∙ h)
    where
      unchecked : (xs : List Stmt) → none_of is_check xs ≡ true → none_of is_update xs ≡ true
      unchecked [] n = refl
      unchecked (x ∷ xs) n = ap₂ (λ a b. a && b) (off x.op (and_left _ _ n)) (unchecked xs (and_right (not (is_check x.op)) _ n))
        where
          off : (op : Op) → not (is_check op) ≡ true → not (is_update op) ≡ true
          off (Verify last args) e = absurd (cc e)
          off _ e = refl

      unguessing : (none_of is_spec_call (onpath (work_of_live p d bits ls l).env (in_stage l.thread.stage p.stmts)) ≡ true)
          ⊎ (none_of is_check (onpath (work_of_live p d bits ls l).env (in_stage l.thread.stage p.stmts)) ≡ true)
          → none_of is_spec_call (onpath (work_of_live p d bits ls l).env (in_stage l.thread.stage p.stmts)) ≡ true
      unguessing (inl j) = j
      unguessing (inr j) = absurd (cc (sym i ∙ unchecked (onpath (work_of_live p d bits ls l).env (in_stage l.thread.stage p.stmts)) j))

      unverified : (none_of is_update (onpath (work_of_live p d bits ls l).env (in_stage l.thread.stage p.stmts)) ≡ true)
          ⊎ (none_of is_verify (onpath (work_of_live p d bits ls l).env (in_stage l.thread.stage p.stmts)) ≡ true)
          → none_of is_verify (onpath (work_of_live p d bits ls l).env (in_stage l.thread.stage p.stmts)) ≡ true
      unverified (inl j) = absurd (cc (sym i ∙ j))
      unverified (inr j) = j

  -- a thread that moves says what it was given, in the derived machine
  abbrev pub MovesForeseen : List Live → Live → Type 0
  MovesForeseen ls l = (did p d bits ls l).moves ≡ true → Foresees ls l

  -- each thread that moves does
  abbrev pub AllForeseen : List Live → Type 0
  AllForeseen [] = Unit {0}
  AllForeseen (l ∷ ls) = MovesForeseen ls l × AllForeseen ls

  -- a thread that moves says what it was given, in the stated machine
  abbrev pub Foretold : List Live → Live → Type 0
  Foretold ls l = moves_in l.number (Moves.all_acts p st bits) ≡ true → Foresees ls l

  -- where a thread moves, both machines have a failing check, or neither has
  abbrev pub FailsAlike : List Live → Live → Type 0
  FailsAlike ls l =
      ((did p d bits ls l).moves && (deeds_of p st bits l).fails) ≡ ((did p d bits ls l).moves && (work_of_live p d bits ls l).fails)

  -- they have where it says what it was given
  pub fails_here : (ls : List Live) (l : Live) → Known p flows st d bits arrays ls l → MovesForeseen ls l → FailsAlike ls l
  fails_here ls l k f = at (did p d bits ls l).moves f
    where
      at : (b : Bool) → (b ≡ true → Foresees ls l) → (b && (deeds_of p st bits l).fails) ≡ (b && (work_of_live p d bits ls l).fails)
      at true g = ap (λ (w : Work). w.fails) (sym (told_here ls l k (g refl)).is)
      at false g = refl

  -- and where no check stands in its stage
  pub fails_unchecked : (ls : List Live) (l : Live)
      → none_of is_check (in_stage l.thread.stage p.stmts) ≡ true → (deeds_of p st bits l).fails ≡ false → FailsAlike ls l
  fails_unchecked ls l n e =
      ap (λ b. (did p d bits ls l).moves && b)
      (e ∙ sym (unfailed (around p d bits (dacts p d bits ls) l.thread.stage l.thread.hint) (in_stage l.thread.stage p.stmts) (start_of (now_of p d bits l)) n))
