-- What a stage guesses, and whether it fails a verify: where its path makes no guess and no update, and where what it guesses in the end is what the surroundings give.
use Rattle.std.proofs.Common.{◌≡◌, refl, sym, ap, ap₂, ◌∙◌, subst, ℕ, Bool, true, false, ◌&&◌, ◌||◌, not, List, [], ◌∷◌, cond, Some}
use Rattle.pdl_semantics.specs.Flat.{Op, SpecCall, Verify, Stmt, all_hold, values_of}
use Rattle.pdl_semantics.specs.Stages.{onpath, is_check, is_verify}
use Rattle.pdl_semantics.specs.Machine.{Ask, Blocked, Deeds, deeds_after_all, same_args, all_values}
use Rattle.pdl_semantics.specs.Machine
use Rattle.pdl_semantics.specs.Sound.{is_call, is_spec_call}
use Rattle.pdl_theory_turns.specs.Derived.{Work, Around, work_after}
use Rattle.pdl_theory_turns.proofs.Deeds.{AllFit, Guesses, AllGuesses, Loosely, loose_step}
use Rattle.pdl_theory_turns.proofs.Writes.{and_left, and_right}
use Rattle.pdl_theory_turns.specs.Scans.{none_of}
use Rattle.pdl_theory_turns.proofs.Paths.{Fixed}
use Rattle.pdl_theory_simulation.proofs.FlowFacts.{call_ok, calls_ok}
use Rattle.pdl_theory_turns.specs.GuessScans.{is_update, once}
use Rattle.pdl_theory_turns.proofs.Guesses.{same_args_eq}
use Rattle.pdl_theory_simulation.proofs.Onces.{once_only}

-- after a call no path makes a guess
pub no_second : (xs : List Stmt) → calls_ok true xs ≡ true → none_of is_spec_call xs ≡ true
no_second [] h = refl
no_second (x ∷ xs) h = ap₂ (λ a b. a && b) (off x.op (and_left _ _ h)) (no_second xs (and_right (call_ok true x.op) _ h))
  where
    off : (op : Op) → call_ok true op ≡ true → not (is_spec_call op) ≡ true
    off (SpecCall args) i = absurd (cc i)
    off _ i = refl

module _ (o : Around) (read : ℕ → ℕ → ℕ) (block : Blocked → Bool) (free : Ask → Bool) where
  -- the deeds of a statement, where the path takes it
  abbrev then_done : Bool → Op → Deeds → Deeds
  then_done b op d = cond b (Machine.deeds_after read op d) d

  same_guess : (op : Op) (d : Deeds) → not (is_spec_call op) ≡ true → not (is_check op) ≡ true → (Machine.deeds_after read op d).guess ≡ d.guess
  same_guess (SpecCall args) d h c = absurd (cc h)
  same_guess (Verify last args) d h c = absurd (cc c)
  same_guess _ d h c = refl

  -- a path without guess and without check leaves what was guessed before
  pub kept_guess : (path : List ℕ) (xs : List Stmt) (d : Deeds) (w : Work) → Loosely o read block free d w → AllFit o read block free xs → Fixed path o xs w
      → none_of is_spec_call (onpath path xs) ≡ true → none_of is_check (onpath path xs) ≡ true → (deeds_after_all read xs d).guess ≡ d.guess
  kept_guess path [] d w l f q h c = refl
  kept_guess path (x ∷ xs) d w l f q h c =
      subst (λ b. (deeds_after_all read xs (then_done b x.op d)).guess ≡ d.guess) (ap (λ (v : Work). all_hold x.guards v.env) l.is)
      (at (all_hold x.guards w.env) (all_hold x.guards path) q.0 h c q.1 (λ d' w' l' q' h' c'. kept_guess path xs d' w' l' f.1 q' h' c'))
    where
      at : (b c : Bool)
          → b ≡ c → none_of is_spec_call (cond c (record x { guards = [] } ∷ onpath path xs) (onpath path xs)) ≡ true
          → none_of is_check (cond c (record x { guards = [] } ∷ onpath path xs) (onpath path xs)) ≡ true
          → Fixed path o xs (cond b (work_after o x.op w) w)
          → ((d' : Deeds) (w' : Work) → Loosely o read block free d' w' → Fixed path o xs w' → none_of is_spec_call (onpath path xs)
          ≡ true → none_of is_check (onpath path xs) ≡ true → (deeds_after_all read xs d').guess ≡ d'.guess)
          → (deeds_after_all read xs (then_done b x.op d)).guess ≡ d.guess
      at true true e h c q go =
          go (Machine.deeds_after read x.op d) (work_after o x.op w) (loose_step o read block free true x.op d w f.0 l) q
          (and_right (not (is_spec_call x.op)) _ h) (and_right (not (is_check x.op)) _ c)
          ∙ same_guess x.op d (and_left _ _ h) (and_left _ _ c)
      at true false e h c q go = absurd (cc e)
      at false true e h c q go = absurd (cc e)
      at false false e h c q go = go d w l q h c

  -- where the path makes no guess and no update there is nothing to foresee
  pub unguessed : (path : List ℕ) (xs : List Stmt) (d : Deeds) (w : Work) → Loosely o read block free d w → AllFit o read block free xs → Fixed path o xs w
      → none_of is_spec_call (onpath path xs) ≡ true → none_of is_update (onpath path xs) ≡ true → AllGuesses o read block free xs d
  unguessed path [] d w l f q h u = tt
  unguessed path (x ∷ xs) d w l f q h u =
      subst (λ b. (b ≡ true → Guesses o read block free x.op d) × AllGuesses o read block free xs (then_done b x.op d))
      (ap (λ (v : Work). all_hold x.guards v.env) l.is)
      (at (all_hold x.guards w.env) (all_hold x.guards path) q.0 h u q.1 (λ d' w' l' q' h' u'. unguessed path xs d' w' l' f.1 q' h' u'))
    where
      off : (op : Op) → not (is_spec_call op) ≡ true → not (is_update op) ≡ true → Guesses o read block free op d
      off (SpecCall args) i j = absurd (cc i)
      off (Verify true args) i j = tt
      off (Verify false args) i j = absurd (cc j)
      off _ i j = tt

      at : (b c : Bool)
          → b ≡ c → none_of is_spec_call (cond c (record x { guards = [] } ∷ onpath path xs) (onpath path xs)) ≡ true
          → none_of is_update (cond c (record x { guards = [] } ∷ onpath path xs) (onpath path xs)) ≡ true
          → Fixed path o xs (cond b (work_after o x.op w) w)
          → ((d' : Deeds) (w' : Work) → Loosely o read block free d' w' → Fixed path o xs w' → none_of is_spec_call (onpath path xs)
          ≡ true → none_of is_update (onpath path xs) ≡ true → AllGuesses o read block free xs d')
          → (b ≡ true → Guesses o read block free x.op d) × AllGuesses o read block free xs (then_done b x.op d)
      at true true e h u q go = (
        (λ _. off x.op (and_left _ _ h) (and_left _ _ u)),
        go (Machine.deeds_after read x.op d) (work_after o x.op w) (loose_step o read block free true x.op d w f.0 l) q
            (and_right (not (is_spec_call x.op)) _ h) (and_right (not (is_update x.op)) _ u),
      )
      at true false e h u q go = absurd (cc e)
      at false true e h u q go = absurd (cc e)
      at false false e h u q go = ((λ i. absurd (cc i)), go d w l q h u)

  -- where it makes one, and that is what the surroundings give
  pub foreseen : (path : List ℕ) (xs : List Stmt) (been : Bool) (d : Deeds) (w : Work)
      → Loosely o read block free d w → AllFit o read block free xs → Fixed path o xs w
      → calls_ok been (onpath path xs) ≡ true → none_of is_check (onpath path xs) ≡ true → (deeds_after_all read xs d).guess ≡ o.guess
      → AllGuesses o read block free xs d
  foreseen path [] been d w l f q h n g = tt
  foreseen path (x ∷ xs) been d w l f q h n g =
      subst
      (λ b. (deeds_after_all read xs (then_done b x.op d)).guess
      ≡ o.guess → (b ≡ true → Guesses o read block free x.op d)
      × AllGuesses o read block free xs (then_done b x.op d)) (ap (λ (v : Work). all_hold x.guards v.env) l.is)
      (at (all_hold x.guards w.env) (all_hold x.guards path) q.0 h n q.1 (λ been' d' w' l' q' h' n' g'. foreseen path xs been' d' w' l' f.1 q' h' n' g')) g
    where
      one : (op : Op)
          → not (is_check op) ≡ true → calls_ok (been || is_call op) (onpath path xs) ≡ true → none_of is_check (onpath path xs) ≡ true
          → Loosely o read block free (Machine.deeds_after read op d) (work_after o op w) → Fixed path o xs (work_after o op w)
          → (deeds_after_all read xs (Machine.deeds_after read op d)).guess ≡ o.guess → Guesses o read block free op d
      one (SpecCall args) v i n l q g =
          sym
          (kept_guess path xs (Machine.deeds_after read (SpecCall args) d) (work_after o (SpecCall args) w) l f.1 q
          (no_second (onpath path xs) (subst (λ b. calls_ok b (onpath path xs) ≡ true) (or_true been) i)) n)
          ∙ g
        where
          or_true : (b : Bool) → (b || true) ≡ true
          or_true true = refl
          or_true false = refl
      one (Verify last args) v i n l q g = absurd (cc v)
      one _ v i n l q g = tt

      at : (b c : Bool)
          → b ≡ c → calls_ok been (cond c (record x { guards = [] } ∷ onpath path xs) (onpath path xs)) ≡ true
          → none_of is_check (cond c (record x { guards = [] } ∷ onpath path xs) (onpath path xs)) ≡ true
          → Fixed path o xs (cond b (work_after o x.op w) w)
          → ((been' : Bool) (d' : Deeds) (w' : Work) → Loosely o read block free d' w' → Fixed path o xs w' → calls_ok been'
          (onpath path xs) ≡ true → none_of is_check (onpath path xs) ≡ true → (deeds_after_all read xs d').guess ≡ o.guess
          → AllGuesses o read block free xs d')
          → (deeds_after_all read xs (then_done b x.op d)).guess ≡ o.guess
          → (b ≡ true → Guesses o read block free x.op d) × AllGuesses o read block free xs (then_done b x.op d)
      at true true e h n q go g =
          let l' = loose_step o read block free true x.op d w f.0 l in
          let h' = and_right (call_ok been x.op) _ h in
          let n' = and_right (not (is_check x.op)) _ n in
          ((λ _. one x.op (and_left _ _ n) h' n' l' q g), go (been || is_call x.op) (Machine.deeds_after read x.op d) (work_after o x.op w) l' q h' n' g)
      at true false e h n q go g = absurd (cc e)
      at false true e h n q go g = absurd (cc e)
      at false false e h n q go g = ((λ i. absurd (cc i)), go been d w l q h n g)

  -- an update leaves its arguments as the guess
  renewed_guess : (args : List ℕ) (d : Deeds) → (Machine.after_verify args d).guess ≡ args
  renewed_guess args d = at (same_args args d.guess) refl
    where
      at : (b : Bool) → same_args args d.guess ≡ b → (cond b d (record d { child = Some args; guess = args; fails = true })).guess ≡ args
      at true e = sym (same_args_eq args d.guess e)
      at false e = refl

  -- where it makes an update, and that is what the surroundings give
  pub renewed : (path : List ℕ) (xs : List Stmt) (been : Bool) (d : Deeds) (w : Work)
      → Loosely o read block free d w → AllFit o read block free xs → Fixed path o xs w
      → none_of is_spec_call (onpath path xs) ≡ true → none_of is_verify (onpath path xs) ≡ true → once is_update been (onpath path xs) ≡ true
      → (deeds_after_all read xs d).guess ≡ o.update → AllGuesses o read block free xs d
  renewed path [] been d w l f q h v u g = tt
  renewed path (x ∷ xs) been d w l f q h v u g =
      subst
      (λ b. (deeds_after_all read xs (then_done b x.op d)).guess
      ≡ o.update → (b ≡ true → Guesses o read block free x.op d)
      × AllGuesses o read block free xs (then_done b x.op d)) (ap (λ (v : Work). all_hold x.guards v.env) l.is)
      (at (all_hold x.guards w.env) (all_hold x.guards path) q.0 h v u q.1
      (λ been' d' w' l' q' h' v' u' g'. renewed path xs been' d' w' l' f.1 q' h' v' u' g')) g
    where
      or_true : (b : Bool) → (b || true) ≡ true
      or_true true = refl
      or_true false = refl

      -- without verify and update there is no check
      unchecked : (ys : List Stmt) → none_of is_verify ys ≡ true → none_of is_update ys ≡ true → none_of is_check ys ≡ true
      unchecked [] i j = refl
      unchecked (y ∷ ys) i j =
          ap₂ (λ a b. a && b) (off y.op (and_left _ _ i) (and_left _ _ j))
          (unchecked ys (and_right (not (is_verify y.op)) _ i) (and_right (not (is_update y.op)) _ j))
        where
          off : (op : Op) → not (is_verify op) ≡ true → not (is_update op) ≡ true → not (is_check op) ≡ true
          off (Verify true args) i j = absurd (cc i)
          off (Verify false args) i j = absurd (cc j)
          off _ i j = refl

      one : (op : Op)
          → not (is_spec_call op) ≡ true → none_of is_spec_call (onpath path xs) ≡ true → none_of is_verify (onpath path xs) ≡ true
          → once is_update (been || is_update op) (onpath path xs) ≡ true
          → Loosely o read block free (Machine.deeds_after read op d) (work_after o op w) → Fixed path o xs (work_after o op w)
          → (deeds_after_all read xs (Machine.deeds_after read op d)).guess ≡ o.update → Guesses o read block free op d
      one (SpecCall args) s h v u l q g = absurd (cc s)
      one (Verify true args) s h v u l q g = tt
      one (Verify false args) s h v u l q g =
          sym (renewed_guess (values_of args (all_values d)) d)
          ∙ sym
          (kept_guess path xs (Machine.deeds_after read (Verify false args) d) (work_after o (Verify false args) w) l f.1 q h
          (unchecked (onpath path xs) v (once_only is_update (onpath path xs) (subst (λ b. once is_update b (onpath path xs) ≡ true) (or_true been) u))))
          ∙ g
      one _ s h v u l q g = tt

      at : (b c : Bool)
          → b ≡ c → none_of is_spec_call (cond c (record x { guards = [] } ∷ onpath path xs) (onpath path xs)) ≡ true
          → none_of is_verify (cond c (record x { guards = [] } ∷ onpath path xs) (onpath path xs)) ≡ true
          → once is_update been (cond c (record x { guards = [] } ∷ onpath path xs) (onpath path xs)) ≡ true
          → Fixed path o xs (cond b (work_after o x.op w) w)
          → ((been' : Bool) (d' : Deeds) (w' : Work) → Loosely o read block free d' w' → Fixed path o xs w'
          → none_of is_spec_call (onpath path xs) ≡ true → none_of is_verify (onpath path xs) ≡ true → once is_update been' (onpath path xs) ≡ true
          → (deeds_after_all read xs d').guess ≡ o.update → AllGuesses o read block free xs d')
          → (deeds_after_all read xs (then_done b x.op d)).guess ≡ o.update
          → (b ≡ true → Guesses o read block free x.op d) × AllGuesses o read block free xs (then_done b x.op d)
      at true true e h v u q go g =
          let l' = loose_step o read block free true x.op d w f.0 l in
          let h' = and_right (not (is_spec_call x.op)) _ h in
          let v' = and_right (not (is_verify x.op)) _ v in
          let u' = and_right (not (been && is_update x.op)) _ u in (
            (λ _. one x.op (and_left _ _ h) h' v' u' l' q g),
            go (been || is_update x.op) (Machine.deeds_after read x.op d) (work_after o x.op w) l' q h' v' u' g,
          )
      at true false e h v u q go g = absurd (cc e)
      at false true e h v u q go g = absurd (cc e)
      at false false e h v u q go g = ((λ i. absurd (cc i)), go been d w l q h v u g)
