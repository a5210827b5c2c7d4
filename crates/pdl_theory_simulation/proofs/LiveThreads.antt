-- The live threads after a cycle in both machines: those that move, those that stand, the new one, and none that a squash removes.
use Rattle.std.proofs.Common.{◌≡◌, refl, sym, ap, ap₂, ◌∙◌, subst, ℕ, ◌<◌, Bool, true, false, ◌&&◌, ◌||◌, not, List, [], ◌∷◌, ◌++◌, Option, Some, None, is_some, ◌==◌, nat_le, cond, if◌then◌else◌, arith, append-nil, append_assoc, leb-true, leb-false}
use Rattle.pdl_semantics.specs.Flat.{Pipe, list_all}
use Rattle.pdl_semantics.specs.Stages.{list_any, stage_at, goes_to}
use Rattle.pdl_semantics.specs.Machine.{State, with_answers}
use Rattle.pdl_semantics.specs.Cycle.{awaited_of, coming_thread, or_then, squasher, squash_stage, child_of, is_kept}
use Rattle.pdl_semantics.specs.Moves.{movers, next_stage}
use Rattle.pdl_semantics.specs.Cycle
use Rattle.pdl_semantics.specs.Machine
use Rattle.pdl_semantics.specs.Promises.{DifferInAdvice}
use Rattle.pdl_theory_turns.specs.Derived.{Work, around, survivors, moved_to, born_threads, exit_of, fresh}
use Rattle.pdl_theory_turns.specs.Derived
use Rattle.pdl_theory_simulation.proofs.FlowFacts.{Flows, next_of}
use Rattle.pdl_theory_turns.proofs.Writes.{and_left}
use Rattle.pdl_theory_turns.proofs.Slots.{rev}
use Rattle.pdl_theory_simulation.proofs.Stretches.{has_made, stage_child}
use Rattle.pdl_theory_simulation.proofs.StretchSteps.{Childed}
use Rattle.pdl_theory_simulation.proofs.Seats.{advised, Live, seat, find, threads_of, each_map, Falls, falls_each, dacts, lacts, lact, did, now_of, work_of_live, deeds_of}
use Rattle.pdl_theory_simulation.proofs.Choices.{Known, AllKnown, like_here, keeps_now}
use Rattle.pdl_theory_simulation.proofs.Sayings.{Foresees, MovesForeseen, AllForeseen, told_here, fails_here}
use Rattle.pdl_theory_simulation.proofs.LockLists.{fell, moved_live, stood, next_live, go_on, Agrees}
use Rattle.pdl_word.specs.Each.{Each}

rev_append : {X : Type 0} → (xs ys : List X) → rev (xs ++ ys) ≡ rev ys ++ rev xs
rev_append [] ys = sym (append-nil (rev ys))
rev_append (x ∷ xs) ys = ap (λ l. l ++ x ∷ []) (rev_append xs ys) ∙ append_assoc (rev ys) (rev xs) (x ∷ [])

threads_append : (xs ys : List Live) → threads_of (xs ++ ys) ≡ threads_of xs ++ threads_of ys
threads_append [] ys = refl
threads_append (x ∷ xs) ys = ap (λ l. x.thread ∷ l) (threads_append xs ys)

-- who stands in a stage, of two lists of threads, is found in the first, else in the second
pub find_append : (q : ℕ) (xs ys : List Live) → find q (xs ++ ys) ≡ or_then (find q xs) (find q ys)
find_append q [] ys = refl
find_append q (x ∷ xs) ys = at (x.thread.stage == q) (find_append q xs ys)
  where
    at : (b : Bool) → find q (xs ++ ys) ≡ or_then (find q xs) (find q ys)
        → cond b (Some (seat x)) (find q (xs ++ ys)) ≡ or_then (cond b (Some (seat x)) (find q xs)) (find q ys)
    at true h = refl
    at false h = h

any_more : {X : Type 0} → (test : X → Bool) (xs : List X) (x : X) → list_any test (xs ++ x ∷ []) ≡ (test x || list_any test xs)
any_more test [] x = refl
any_more test (y ∷ xs) x = ap (λ b. test y || b) (any_more test xs x) ∙ swap (test y) (test x) (list_any test xs)
  where
    swap : (a b c : Bool) → (a || (b || c)) ≡ (b || (a || c))
    swap true true c = refl
    swap true false c = refl
    swap false true c = refl
    swap false false c = refl

-- some element passes a test in either order of a list
pub any_rev : {X : Type 0} → (test : X → Bool) (xs : List X) → list_any test (rev xs) ≡ list_any test xs
any_rev test [] = refl
any_rev test (x ∷ xs) = any_more test (rev xs) x ∙ ap (λ b. test x || b) (any_rev test xs)

-- THE SQUASH

-- with an older failing verify nobody moves
none_fails : (p : Pipe) (xs : List Derived.Act)
    → list_all (λ (o : Derived.Act). not (o.moves && o.work.fails)) xs ≡ true
    → list_any (λ (o : Derived.Act). o.moves && o.work.fails) xs ≡ false
none_fails p [] h = refl
none_fails p (x ∷ xs) h = at (x.moves && x.work.fails) h (none_fails p xs)
  where
    at : (b : Bool) → (not b && list_all (λ (o : Derived.Act). not (o.moves && o.work.fails)) xs) ≡ true
        → (list_all (λ (o : Derived.Act). not (o.moves && o.work.fails)) xs ≡ true → list_any (λ (o : Derived.Act). o.moves && o.work.fails) xs ≡ false)
        → (b || list_any (λ (o : Derived.Act). o.moves && o.work.fails) xs) ≡ false
    at true h f = absurd (cc h)
    at false h f = f h

-- what follows a list of acts of which one fails
survivors_more : (p : Pipe) (g : Derived.Hint) (xs : List Derived.Act) (b : Derived.Act)
    → survivors p g (xs ++ b ∷ []) ≡ survivors p g xs
    ++ (if list_any (λ (o : Derived.Act). o.moves && o.work.fails) xs then [] else survivors p g (b ∷ []))
survivors_more p g [] b = refl
survivors_more p g (a ∷ xs) b = at a.moves a.work.fails (survivors_more p g xs b)
  where
    rest : List Derived.Thread
    rest = if list_any (λ (o : Derived.Act). o.moves && o.work.fails) xs then [] else survivors p g (b ∷ [])

    at : (c f : Bool)
        → survivors p g (xs ++ b ∷ []) ≡ survivors p g xs ++ (if list_any (λ (o : Derived.Act). o.moves && o.work.fails) xs then [] else survivors p g (b ∷ []))
        → cond c (moved_to (exit_of p a) a.now.hint a.work ++ (born_threads p g a.work.child ++ cond f [] (survivors p g (xs ++ b ∷ []))))
        (a.now ∷ survivors p g (xs ++ b ∷ []))
        ≡ cond c (moved_to (exit_of p a) a.now.hint a.work ++ (born_threads p g a.work.child ++ cond f [] (survivors p g xs))) (a.now ∷ survivors p g xs)
        ++ (if (c && f) || list_any (λ (o : Derived.Act). o.moves && o.work.fails) xs then [] else survivors p g (b ∷ []))
    at true true h = sym (append-nil _)
    at true false h =
        ap (λ l. moved_to (exit_of p a) a.now.hint a.work ++ (born_threads p g a.work.child ++ l)) h
        ∙ ap (λ l. moved_to (exit_of p a) a.now.hint a.work ++ l) (sym (append_assoc (born_threads p g a.work.child) (survivors p g xs) _))
        ∙ sym (append_assoc (moved_to (exit_of p a) a.now.hint a.work) (born_threads p g a.work.child ++ survivors p g xs) _)
    at false f h = ap (λ l. a.now ∷ l) h

-- the new live thread, if one is made
abbrev pub born_live : Pipe → Derived.Hint → ℕ → Option (List ℕ) → List Live
born_live p g n None = []
born_live p g n (Some args) = record { number = n; thread = fresh p g args; env = (fresh p g args).env; kept = []; advice = [] } ∷ []

module _ (p : Pipe) (flows : Flows p) (st : State) (d : Derived.State) (bits : List Bool) (arrays : DifferInAdvice p st.arrays d.arrays) where
  -- a thread doesn't move behind one that moves with a failing verify
  pub stuck_here : (ls : List Live) (l : Live) → fell p d bits ls ≡ true → (did p d bits ls l).moves ≡ false
  stuck_here ls l f = at (did p d bits ls l).moves refl
    where
      at : (b : Bool) → (did p d bits ls l).moves ≡ b → (did p d bits ls l).moves ≡ false
      at true e = absurd (cc (sym f ∙ none_fails p (dacts p d bits ls) (and_left _ _ (and_left _ _ (and_left _ _ (and_left _ _ e))))))
      at false e = e

  -- THE NEW THREAD

  -- a live thread's stage makes no second successor but by a failing verify, and one that it makes was called
  pub childed_here : (ls : List Live) (l : Live) → Known p flows st d bits arrays ls l
      → Childed (has_made p l.env l.thread.stage)
      (has_made p (work_of_live p d bits ls l).env (next_of p l.thread.stage (work_of_live p d bits ls l).env))
      (work_of_live p d bits ls l)
  childed_here ls l k =
      stage_child p flows l.env (now_of p d bits l) (keeps_now p flows st d bits arrays l k.seated)
      (around p d bits (dacts p d bits ls) l.thread.stage l.thread.hint)

  -- each live thread has made its successor
  abbrev pub Made : List Live → Type 0
  Made ls = Each (λ l. has_made p l.env l.thread.stage ≡ true) ls

  -- each live thread but the youngest has made its successor
  abbrev pub MadeBehind : List Live → Type 0
  MadeBehind [] = Unit {0}
  MadeBehind (l ∷ ls) = Made ls

  -- the arguments of the new thread
  abbrev pub made : List Live → Option (List ℕ)
  made [] = None
  made (l ∷ ls) =
      if (did p d bits ls l).moves then (if is_some (work_of_live p d bits ls l).child then (work_of_live p d bits ls l).child else made ls) else made ls

  -- the stated machine's new thread has the arguments that the live threads of the derived one make
  pub child_is : (ls : List Live)
      → AllKnown p flows st d bits arrays ls → AllForeseen p flows st d bits arrays ls → child_of (movers (lacts p st d bits ls)) ≡ made ls
  child_is [] k h = refl
  child_is (l ∷ ls) k h = at (did p d bits ls l).moves refl (child_is ls k.1 h.1)
    where
      at : (b : Bool) → (did p d bits ls l).moves ≡ b → child_of (movers (lacts p st d bits ls)) ≡ made ls
          → child_of (cond b (lact p st d bits ls l ∷ movers (lacts p st d bits ls)) (movers (lacts p st d bits ls)))
          ≡ cond b (if is_some (work_of_live p d bits ls l).child then (work_of_live p d bits ls l).child else made ls) (made ls)
      at true f e = ap₂ (λ c r. if is_some c then c else r) (ap (λ (w : Work). w.child) (sym (told_here p flows st d bits arrays ls l k.0 (h.0 f)).is)) e
      at false f e = e

  -- older threads make none but by a failing verify
  pub made_none : (ls : List Live) → AllKnown p flows st d bits arrays ls → Made ls → fell p d bits ls ≡ false → made ls ≡ None
  made_none [] k m f = refl
  made_none (l ∷ ls) k m f = at (did p d bits ls l).moves (work_of_live p d bits ls l).fails refl f (made_none ls k.1 m.1)
    where
      at : (b c : Bool) → (work_of_live p d bits ls l).fails ≡ c → ((b && c) || fell p d bits ls) ≡ false → (fell p d bits ls ≡ false → made ls ≡ None)
          → cond b (if is_some (work_of_live p d bits ls l).child then (work_of_live p d bits ls l).child else made ls) (made ls) ≡ None
      at true true e g r = absurd (cc g)
      at true false e g r = ap (λ c. if is_some c then c else made ls) ((childed_here ls l k.0).no_second m.0 e) ∙ r g
      at false c e g r = r (by c g)
        where
          by : (c : Bool) → ((false && c) || fell p d bits ls) ≡ false → fell p d bits ls ≡ false
          by c g = g

  -- one thread
  one_survives : (ls : List Live) (l : Live)
      → survivors p (d.hints 0) (did p d bits ls l ∷ [])
      ≡ threads_of (next_live p st d bits ls l) ++ born_threads p (d.hints 0) (if (did p d bits ls l).moves then (work_of_live p d bits ls l).child else None)
  one_survives ls l = at (did p d bits ls l).moves
    where
      w : Work
      w = work_of_live p d bits ls l

      out : (r : Option ℕ)
          → moved_to r l.thread.hint (work_of_live p d bits ls l) ≡ threads_of (moved_live r (advised p st bits l) (work_of_live p d bits ls l))
      out None = refl
      out (Some q) = refl

      none : (f : Bool) → cond f [] (survivors p (d.hints 0) []) ≡ []
      none true = refl
      none false = refl

      at : (b : Bool)
          → cond b
          (moved_to (exit_of p (did p d bits ls l)) l.thread.hint (work_of_live p d bits ls l)
          ++ (born_threads p (d.hints 0) (work_of_live p d bits ls l).child ++ (if (work_of_live p d bits ls l).fails then [] else survivors p (d.hints 0) [])))
          (now_of p d bits l ∷ [])
          ≡ threads_of
          (cond b (moved_live (goes_to (stage_at p l.thread.stage).next (work_of_live p d bits ls l).env) (advised p st bits l) (work_of_live p d bits ls l))
          (stood p st d bits l ∷ []))
          ++ born_threads p (d.hints 0) (cond b (work_of_live p d bits ls l).child None)
      at true =
          ap₂ (λ x y. x ++ y) (out (exit_of p (did p d bits ls l)))
          (ap (λ x. born_threads p (d.hints 0) (work_of_live p d bits ls l).child ++ x) (none (work_of_live p d bits ls l).fails) ∙ append-nil _)
      at false = refl

  -- the live threads after the cycle: the new one, if one is made, and those that live on
  abbrev pub lives_next : List Live → List Live
  lives_next ls = born_live p (d.hints 0) st.next (made ls) ++ go_on p st d bits ls

  rev_next : (ls : List Live) (l : Live) → rev (threads_of (next_live p st d bits ls l)) ≡ threads_of (next_live p st d bits ls l)
  rev_next ls l = at (did p d bits ls l).moves
    where
      out : (r : Option ℕ)
          → rev (threads_of (moved_live r (advised p st bits l) (work_of_live p d bits ls l)))
          ≡ threads_of (moved_live r (advised p st bits l) (work_of_live p d bits ls l))
      out None = refl
      out (Some q) = refl

      at : (b : Bool)
          → rev
          (threads_of
          (cond b (moved_live (goes_to (stage_at p l.thread.stage).next (work_of_live p d bits ls l).env) (advised p st bits l) (work_of_live p d bits ls l))
          (stood p st d bits l ∷ [])))
          ≡ threads_of
          (cond b (moved_live (goes_to (stage_at p l.thread.stage).next (work_of_live p d bits ls l).env) (advised p st bits l) (work_of_live p d bits ls l))
          (stood p st d bits l ∷ []))
      at true = out (goes_to (stage_at p l.thread.stage).next (work_of_live p d bits ls l).env)
      at false = refl

  rev_born : (c : Option (List ℕ)) → rev (threads_of (born_live p (d.hints 0) st.next c)) ≡ born_threads p (d.hints 0) c
  rev_born None = refl
  rev_born (Some x) = refl

  -- a list of lives with a new one, oldest first
  back_lives : (c : Option (List ℕ)) (xs : List Live)
      → rev (threads_of (born_live p (d.hints 0) st.next c ++ xs)) ≡ rev (threads_of xs) ++ born_threads p (d.hints 0) c
  back_lives c xs =
      ap rev (threads_append (born_live p (d.hints 0) st.next c) xs)
      ∙ rev_append (threads_of (born_live p (d.hints 0) st.next c)) (threads_of xs)
      ∙ ap (λ l. rev (threads_of xs) ++ l) (rev_born c)

  -- the derived machine's live threads
  pub survive : (ls : List Live) → AllKnown p flows st d bits arrays ls → MadeBehind ls
      → survivors p (d.hints 0) (rev (dacts p d bits ls)) ≡ rev (threads_of (lives_next ls))
  survive [] k m = refl
  survive (l ∷ ls) k m =
      survivors_more p (d.hints 0) (rev (dacts p d bits ls)) (did p d bits ls l)
      ∙ ap₂ (λ f x. x ++ (if f then [] else survivors p (d.hints 0) (did p d bits ls l ∷ [])))
      (any_rev (λ (o : Derived.Act). o.moves && o.work.fails) (dacts p d bits ls)) (survive ls k.1 (behind ls m))
      ∙ at (fell p d bits ls) refl
      ∙ sym (back_lives (made (l ∷ ls)) (go_on p st d bits (l ∷ ls)))
    where
      behind : (ks : List Live) → Made ks → MadeBehind ks
      behind [] h = tt
      behind (k ∷ ks) h = h.1

      at : (f : Bool) → fell p d bits ls ≡ f → rev (threads_of (lives_next ls)) ++ (if f then [] else survivors p (d.hints 0) (did p d bits ls l ∷ []))
          ≡ rev (threads_of ((if f then [] else next_live p st d bits ls l) ++ go_on p st d bits ls))
          ++ born_threads p
          (d.hints 0) (if (did p d bits ls l).moves
          then (if is_some (work_of_live p d bits ls l).child then (work_of_live p d bits ls l).child else made ls)
          else made ls)
      at true e =
          append-nil _ ∙ back_lives (made ls) (go_on p st d bits ls)
          ∙ ap
          (λ b. rev (threads_of (go_on p st d bits ls))
          ++ born_threads p (d.hints 0)
          (if b then (if is_some (work_of_live p d bits ls l).child then (work_of_live p d bits ls l).child else made ls) else made ls))
          (sym (stuck_here ls l e))
      at false e =
          ap₂ (λ x y. x ++ y)
          (back_lives (made ls) (go_on p st d bits ls) ∙ ap (λ c. rev (threads_of (go_on p st d bits ls)) ++ born_threads p (d.hints 0) c) none ∙ append-nil _)
          (one_survives ls l)
          ∙ sym (append_assoc (rev (threads_of (go_on p st d bits ls))) (threads_of (next_live p st d bits ls l)) _)
          ∙ ap₂ (λ x c. x ++ born_threads p (d.hints 0) c)
          (ap (λ x. rev (threads_of (go_on p st d bits ls)) ++ x) (sym (rev_next ls l))
          ∙ sym (rev_append (threads_of (next_live p st d bits ls l)) (threads_of (go_on p st d bits ls)))
          ∙ ap rev (sym (threads_append (next_live p st d bits ls l) (go_on p st d bits ls))))
          (mine (did p d bits ls l).moves)
        where
          none : made ls ≡ None
          none = made_none ls k.1 m e

          some : (c : Option (List ℕ)) → c ≡ (if is_some c then c else None)
          some None = refl
          some (Some x) = refl

          mine : (b : Bool)
              → cond b (work_of_live p d bits ls l).child None
              ≡ cond b (if is_some (work_of_live p d bits ls l).child then (work_of_live p d bits ls l).child else made ls) (made ls)
          mine true =
              some (work_of_live p d bits ls l).child
              ∙ ap (λ r. if is_some (work_of_live p d bits ls l).child then (work_of_live p d bits ls l).child else r) (sym none)
          mine false = sym none

  -- THE SQUASHER

  squash_is : (ls : List Live) (l : Live) → Known p flows st d bits arrays ls l → MovesForeseen p flows st d bits arrays ls l
      → squasher (movers (lacts p st d bits (l ∷ ls)))
      ≡ (if (did p d bits ls l).moves && (work_of_live p d bits ls l).fails then Some l.number else squasher (movers (lacts p st d bits ls)))
  squash_is ls l h u = at (did p d bits ls l).moves (fails_here p flows st d bits arrays ls l h u)
    where
      at : (b : Bool) → (b && (deeds_of p st bits l).fails) ≡ (b && (work_of_live p d bits ls l).fails)
          → squasher (cond b (lact p st d bits ls l ∷ movers (lacts p st d bits ls)) (movers (lacts p st d bits ls)))
          ≡ (if b && (work_of_live p d bits ls l).fails then Some l.number else squasher (movers (lacts p st d bits ls)))
      at true e = ap (λ f. if f then Some l.number else squasher (movers (lacts p st d bits ls))) e
      at false e = refl

  -- where a verify fails, a thread squashes, and its number is below n
  squash_low : (n : ℕ) (ls : List Live) → AllKnown p flows st d bits arrays ls → AllForeseen p flows st d bits arrays ls → Falls n ls
      → fell p d bits ls ≡ true
      → (k : ℕ) × (squasher (movers (lacts p st d bits ls)) ≡ Some k) × (k < n)
  squash_low n [] k u f h = absurd (cc h)
  squash_low n (l ∷ ls) k u f h = at ((did p d bits ls l).moves && (work_of_live p d bits ls l).fails) refl h (λ i. squash_low l.number ls k.1 u.1 f.1 i)
    where
      is : squasher (movers (lacts p st d bits (l ∷ ls)))
          ≡ (if (did p d bits ls l).moves && (work_of_live p d bits ls l).fails then Some l.number else squasher (movers (lacts p st d bits ls)))
      is = squash_is ls l k.0 u.0

      at : (b : Bool) → ((did p d bits ls l).moves && (work_of_live p d bits ls l).fails) ≡ b → (b || fell p d bits ls) ≡ true
          → (fell p d bits ls ≡ true → (k : ℕ) × (squasher (movers (lacts p st d bits ls)) ≡ Some k) × (k < l.number))
          → (k : ℕ) × (squasher (movers (lacts p st d bits (l ∷ ls))) ≡ Some k) × (k < n)
      at true e g r = (l.number, is ∙ ap (λ b. if b then Some l.number else squasher (movers (lacts p st d bits ls))) e, f.0)
      at false e g r = let s = r g in
          (s.0, is ∙ ap (λ b. if b then Some l.number else squasher (movers (lacts p st d bits ls))) e ∙ s.1, (let i = s.2 in let j = f.0 in omega arith))

  squash_none : (ls : List Live) → AllKnown p flows st d bits arrays ls → AllForeseen p flows st d bits arrays ls
      → fell p d bits ls ≡ false → squasher (movers (lacts p st d bits ls)) ≡ None
  squash_none [] k u h = refl
  squash_none (l ∷ ls) k u h = squash_is ls l k.0 u.0 ∙ at ((did p d bits ls l).moves && (work_of_live p d bits ls l).fails) h (squash_none ls k.1 u.1)
    where
      at : (b : Bool) → (b || fell p d bits ls) ≡ false
          → (fell p d bits ls ≡ false → squasher (movers (lacts p st d bits ls)) ≡ None)
          → (if b then Some l.number else squasher (movers (lacts p st d bits ls))) ≡ None
      at true g r = absurd (cc g)
      at false g r = r g

  -- its stage
  pub squash_stage_is : (ls : List Live) → (l : Live) → Known p flows st d bits arrays ls l → MovesForeseen p flows st d bits arrays ls l
      → squash_stage (movers (lacts p st d bits (l ∷ ls))) ≡ (if (did p d bits ls l).moves
      && (work_of_live p d bits ls l).fails then Some l.thread.stage else squash_stage (movers (lacts p st d bits ls)))
  squash_stage_is ls l h u = at (did p d bits ls l).moves (fails_here p flows st d bits arrays ls l h u)
    where
      at : (b : Bool) → (b && (deeds_of p st bits l).fails) ≡ (b && (work_of_live p d bits ls l).fails)
          → squash_stage (cond b (lact p st d bits ls l ∷ movers (lacts p st d bits ls)) (movers (lacts p st d bits ls)))
          ≡ (if b && (work_of_live p d bits ls l).fails then Some l.thread.stage else squash_stage (movers (lacts p st d bits ls)))
      at true e = ap (λ f. if f then Some l.thread.stage else squash_stage (movers (lacts p st d bits ls))) e
      at false e = refl

  -- where no thread moves with a failing check there is no squash, so it has no stage
  pub no_squash_stage : (ls : List Live) → AllKnown p flows st d bits arrays ls → AllForeseen p flows st d bits arrays ls
      → fell p d bits ls ≡ false → squash_stage (movers (lacts p st d bits ls)) ≡ None
  no_squash_stage [] k u h = refl
  no_squash_stage (l ∷ ls) k u h =
      squash_stage_is ls l k.0 u.0 ∙ at ((did p d bits ls l).moves && (work_of_live p d bits ls l).fails) h (no_squash_stage ls k.1 u.1)
    where
      at : (b : Bool)
          → (b || fell p d bits ls) ≡ false → (fell p d bits ls ≡ false → squash_stage (movers (lacts p st d bits ls)) ≡ None)
          → (if b then Some l.thread.stage else squash_stage (movers (lacts p st d bits ls))) ≡ None
      at true g r = absurd (cc g)
      at false g r = r g

  -- both machines have a squash, or none
  pub squashes : (n : ℕ) (ls : List Live) → AllKnown p flows st d bits arrays ls → AllForeseen p flows st d bits arrays ls → Falls n ls
      → is_some (squasher (movers (lacts p st d bits ls))) ≡ fell p d bits ls
  squashes n ls k u f = at (fell p d bits ls) refl
    where
      at : (b : Bool) → fell p d bits ls ≡ b → is_some (squasher (movers (lacts p st d bits ls))) ≡ b
      at true e = ap is_some (squash_low n ls k u f e).1
      at false e = ap is_some (squash_none ls k u e)

  -- without a failing verify all of them stay
  agrees_all : (sq : Option ℕ) (ls : List Live) → Each (λ l. is_kept sq l.number ≡ true) ls → fell p d bits ls ≡ false → Agrees p d bits sq ls
  agrees_all sq [] s f = tt
  agrees_all sq (l ∷ ls) s f = let rest = second ((did p d bits ls l).moves && (work_of_live p d bits ls l).fails) f in
      (s.0 ∙ ap not (sym rest), agrees_all sq ls s.1 rest)
    where
      second : (b : Bool) → (b || fell p d bits ls) ≡ false → fell p d bits ls ≡ false
      second true g = absurd (cc g)
      second false g = g

  older_stay : (n : ℕ) (ls : List Live) → Falls n ls → Each (λ l. is_kept (Some n) l.number ≡ true) ls
  older_stay n ls f = each_map (λ l h. low l.number h) ls (falls_each n ls f)
    where
      low : (k : ℕ) → k < n → nat_le k n ≡ true
      low k h = at (nat_le k n) refl
        where
          at : (b : Bool) → nat_le k n ≡ b → nat_le k n ≡ true
          at true e = e
          at false e = absurd (let i = leb-false _ _ e in omega arith)

  each_stays : (ls : List Live) → Each (λ l. is_kept None l.number ≡ true) ls
  each_stays [] = tt
  each_stays (l ∷ ls) = (refl, each_stays ls)

  -- the squash leaves those that the derived machine leaves
  pub agrees : (n : ℕ) (ls : List Live) → AllKnown p flows st d bits arrays ls → AllForeseen p flows st d bits arrays ls → Falls n ls
      → Agrees p d bits (squasher (movers (lacts p st d bits ls))) ls
  agrees n [] k u f = tt
  agrees n (l ∷ ls) k u f = at (fell p d bits ls) refl ((did p d bits ls l).moves && (work_of_live p d bits ls l).fails) refl (agrees l.number ls k.1 u.1 f.1)
    where
      is : squasher (movers (lacts p st d bits (l ∷ ls)))
          ≡ (if (did p d bits ls l).moves && (work_of_live p d bits ls l).fails then Some l.number else squasher (movers (lacts p st d bits ls)))
      is = squash_is ls l k.0 u.0

      by : (b : Bool) → ((did p d bits ls l).moves && (work_of_live p d bits ls l).fails) ≡ b
          → squasher (movers (lacts p st d bits (l ∷ ls))) ≡ (if b then Some l.number else squasher (movers (lacts p st d bits ls)))
      by b e = is ∙ ap (λ c. if c then Some l.number else squasher (movers (lacts p st d bits ls))) e

      beyond : (j : ℕ) → j < l.number → nat_le l.number j ≡ false
      beyond j h = go (nat_le l.number j) refl
        where
          go : (b : Bool) → nat_le l.number j ≡ b → nat_le l.number j ≡ false
          go true e = absurd (let i = leb-true _ _ e in omega arith)
          go false e = e

      same : nat_le l.number l.number ≡ true
      same = go (nat_le l.number l.number) refl
        where
          go : (b : Bool) → nat_le l.number l.number ≡ b → nat_le l.number l.number ≡ true
          go true e = e
          go false e = absurd (let i = leb-false _ _ e in omega arith)

      at : (g : Bool) → fell p d bits ls ≡ g → (b : Bool)
          → ((did p d bits ls l).moves && (work_of_live p d bits ls l).fails) ≡ b
          → Agrees p d bits (squasher (movers (lacts p st d bits ls))) ls
          → Agrees p d bits (squasher (movers (lacts p st d bits (l ∷ ls)))) (l ∷ ls)
      at true g true e r = absurd (cc (sym e ∙ ap (λ b. b && (work_of_live p d bits ls l).fails) (stuck_here ls l g)))
      at true g false e r =
          let low = squash_low l.number ls k.1 u.1 f.1 g in
          subst (λ s. Agrees p d bits s (l ∷ ls)) (sym (by false e)) (ap (λ s. is_kept s l.number) low.1 ∙ beyond low.0 low.2 ∙ ap not (sym g), r)
      at false g true e r =
          subst (λ s. Agrees p d bits s (l ∷ ls)) (sym (by true e)) (same ∙ ap not (sym g), agrees_all (Some l.number) ls (older_stay l.number ls f.1) g)
      at false g false e r =
          subst (λ s. Agrees p d bits s (l ∷ ls)) (sym (by false e ∙ squash_none ls k.1 u.1 g)) (ap not (sym g), agrees_all None ls (each_stays ls) g)

  -- THE STAGES

  -- its next stage is the same in both machines
  pub same_next : (ls : List Live) (l : Live)
      → Known p flows st d bits arrays ls l
      → next_stage p l.thread.stage (deeds_of p st bits l) ≡ goes_to (stage_at p l.thread.stage).next (work_of_live p d bits ls l).env
  same_next ls l k = ap (λ (w : Work). goes_to (stage_at p l.thread.stage).next w.env) (sym (like_here p flows st d bits arrays ls l k).is)

  -- where one thread comes

  -- the thread that a live thread's act brings into a stage is what becomes of it, where that stands there
  pub comes_is : (ls : List Live) (l : Live) (q : ℕ) → Known p flows st d bits arrays ls l
      → MovesForeseen p flows st d bits arrays ls l → coming_thread p q (lact p st d bits ls l) ≡ find q (next_live p st d bits ls l)
  comes_is ls l q k f = at (did p d bits ls l).moves refl
    where
      there : Foresees p flows st d bits arrays ls l → (r : Option ℕ)
          → cond (Cycle.is_stage q r) (Some (Cycle.thread_after (lact p st d bits ls l))) None ≡ find q
          (moved_live r (advised p st bits l) (work_of_live p d bits ls l))
      there g None = refl
      there g (Some s) =
          λ i. cond (s == q)
          (Some
          (record {
            number = l.number;
            env = (sym (told_here p flows st d bits arrays ls l k g).is i).env;
            advice = (deeds_of p st bits l).advice;
            guess = (sym (told_here p flows st d bits arrays ls l k g).is i).guess;
            awaits = awaited_of (sym (told_here p flows st d bits arrays ls l k g).is i).asks;
            kept = [];
          })) None

      at : (b : Bool)
          → (did p d bits ls l).moves ≡ b
          → cond b (cond (Cycle.is_stage q (next_stage p l.thread.stage (deeds_of p st bits l))) (Some (Cycle.thread_after (lact p st d bits ls l))) None)
          (cond (l.thread.stage == q) (Some (with_answers p st bits (seat l))) None)
          ≡ find q
          (cond b (moved_live (goes_to (stage_at p l.thread.stage).next (work_of_live p d bits ls l).env) (advised p st bits l) (work_of_live p d bits ls l))
          (stood p st d bits l ∷ []))
      at true e =
          there (f e) (next_stage p l.thread.stage (deeds_of p st bits l))
          ∙ ap (λ r. find q (moved_live r (advised p st bits l) (work_of_live p d bits ls l)))
          (same_next ls l k)
      at false e =
          λ i. cond (l.thread.stage == q)
          (Some (record {
            number = l.number;
            env = l.env;
            advice = l.advice;
            guess = l.thread.guess;
            awaits = k.waits i;
            kept =
                (with_answers p st bits (seat l)).kept;
          })) None

  -- nor does it come there in the one where it doesn't in the other, whatever it guesses
  pub comes_none : (ls : List Live) (l : Live) (q : ℕ)
      → Known p flows st d bits arrays ls l → find q (next_live p st d bits ls l) ≡ None → coming_thread p q (lact p st d bits ls l) ≡ None
  comes_none ls l q k h = at (did p d bits ls l).moves h
    where
      clash : {t : Machine.Thread} → Some t ≡ None → ⊥
      clash i = cc

      none : (b : Bool) (t u : Machine.Thread) → cond b (Some t) None ≡ None → cond b (Some u) None ≡ None
      none true t u i = absurd (clash i)
      none false t u i = refl

      there : (r : Option ℕ)
          → find q (moved_live r (advised p st bits l) (work_of_live p d bits ls l)) ≡ None
          → cond (Cycle.is_stage q r) (Some (Cycle.thread_after (lact p st d bits ls l))) None ≡ None
      there None i = refl
      there (Some s) i = none (s == q) _ _ i

      at : (b : Bool)
          → find q
          (cond b (moved_live (goes_to (stage_at p l.thread.stage).next (work_of_live p d bits ls l).env) (advised p st bits l) (work_of_live p d bits ls l))
          (stood p st d bits l ∷ [])) ≡ None
          → cond b (cond (Cycle.is_stage q (next_stage p l.thread.stage (deeds_of p st bits l)))
          (Some (Cycle.thread_after (lact p st d bits ls l))) None) (cond (l.thread.stage == q) (Some (with_answers p st bits (seat l))) None) ≡ None
      at true i = ap (λ r. cond (Cycle.is_stage q r) (Some (Cycle.thread_after (lact p st d bits ls l))) None) (same_next ls l k) ∙ there _ i
      at false i = none (l.thread.stage == q) _ _ i
