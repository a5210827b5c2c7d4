-- Who makes the next thread: a call, or a guess and the verify of it.
use Rattle.std.proofs.Common.{◌≡◌, refl, sym, ap, ap₂, ◌∙◌, subst, ℕ, ◌≤◌, ◌<◌, ◌⊎◌, inr, Bool, true, false, ◌&&◌, not, List, [], ◌∷◌, ◌++◌, Option, Some, None, is_some, cond, if◌then◌else◌, arith, eq-eqb, ltb-true, leb-true, nat_le}
use Rattle.std.proofs.lemmas.Bool.{eqb-true}
use Rattle.pdl_semantics.specs.Flat.{Op, Call, SpecCall, Verify, Stmt, values_of, all_hold}
use Rattle.pdl_semantics.specs.Sound.{stages_from}
use Rattle.pdl_semantics.specs.Stages.{is_check}
use Rattle.pdl_semantics.specs.Machine.{same_args}
use Rattle.pdl_semantics.specs.Sequential.{Run, run_after, run_all}
use Rattle.pdl_theory_turns.specs.Derived.{no_hint, Work, Around, work_after, do_all, said}
use Rattle.pdl_theory_turns.specs.Alone.{World, alone}
use Rattle.pdl_theory_turns.specs.Scans.{Phase, no_guards, phases_ok, none_of}
use Rattle.pdl_theory_turns.specs.GuessScans.{Making, Unmade, Guessed, Made, next_making, making_all, is_unmade, is_guessed, making_ok, makings_ok}
use Rattle.pdl_theory_turns.proofs.Writes.{and_left, and_right}
use Rattle.pdl_theory_turns.proofs.Stages.{step}
use Rattle.pdl_theory_turns.proofs.SequentialThread.{Related, related_step, next_phases}
use Rattle.pdl_theory_turns.proofs.Surroundings.{taken_none}

-- arguments that pass the test of sameness are equal
pub same_args_eq : (x y : List ℕ) → same_args x y ≡ true → x ≡ y
same_args_eq [] [] h = refl
same_args_eq [] (y ∷ ys) h = absurd (cc h)
same_args_eq (x ∷ xs) [] h = absurd (cc h)
same_args_eq (x ∷ xs) (y ∷ ys) h = ap₂ (λ a l. a ∷ l) (eqb-true x y (and_left _ _ h)) (same_args_eq xs ys (and_right _ _ h))

-- arguments are the same as themselves
pub same_args_refl : (x : List ℕ) → same_args x x ≡ true
same_args_refl [] = refl
same_args_refl (x ∷ xs) = ap₂ (λ a b. a && b) (eq-eqb x x refl) (same_args_refl xs)

-- THE SCAN OF TWO LISTS

-- how far a thread is after two lists of statements
pub making_append : (k : Making) (xs ys : List Stmt) → making_all k (xs ++ ys) ≡ making_all (making_all k xs) ys
making_append k [] ys = refl
making_append k (x ∷ xs) ys = making_append (next_making k x.op) xs ys

-- of two lists that make the next thread in order the first does
pub makings_first : (v : Option ℕ) (k : Making) (xs ys : List Stmt) → makings_ok v k (xs ++ ys) ≡ true → makings_ok v k xs ≡ true
makings_first v k [] ys h = refl
makings_first v k (x ∷ xs) ys h =
    ap₂ (λ a b. a && b) (and_left (making_ok v k x.stage x.op) _ h) (makings_first v (next_making k x.op) xs ys (and_right (making_ok v k x.stage x.op) _ h))

-- and so does the second, from where the first one leads
pub makings_second : (v : Option ℕ) (k : Making) (xs ys : List Stmt) → makings_ok v k (xs ++ ys) ≡ true → makings_ok v (making_all k xs) ys ≡ true
makings_second v k [] ys h = h
makings_second v k (x ∷ xs) ys h = makings_second v (next_making k x.op) xs ys (and_right (making_ok v k x.stage x.op) _ h)

-- a verify stands in V, and an update before it
check_op : (v : ℕ) (k : Making) (s : ℕ) (op : Op) → making_ok (Some v) k s op ≡ true → is_check op ≡ true → s ≤ v
check_op v k s (Verify true args) h c = let e : s ≡ v = eqb-true s v (and_right (is_guessed k) _ h) in omega arith
check_op v k s (Verify false args) h c = let e : s < v = ltb-true s v (and_right (is_guessed k) _ h) in omega arith
check_op v k s _ h c = absurd (cc c)

-- none stands behind V
pub unchecked_from : (v : ℕ) (k : Making) (xs : List Stmt) (s : ℕ) → v < s → makings_ok (Some v) k xs ≡ true → none_of is_check (stages_from s xs) ≡ true
unchecked_from v k [] s low h = refl
unchecked_from v k (x ∷ xs) s low h =
    at (nat_le s x.stage) refl (is_check x.op) refl (unchecked_from v (next_making k x.op) xs s low (and_right (making_ok (Some v) k x.stage x.op) _ h))
  where
    at : (b : Bool)
        → nat_le s x.stage ≡ b → (c : Bool) → is_check x.op ≡ c → none_of is_check (stages_from s xs) ≡ true
        → none_of is_check (cond b (x ∷ stages_from s xs) (stages_from s xs)) ≡ true
    at true e true f r = absurd (let i = leb-true s x.stage e in let j = check_op v k x.stage x.op (and_left _ _ h) f in omega arith)
    at true e false f r = ap₂ (λ a b. not a && b) f r
    at false e c f r = r

-- without V there is no guess
unguessed_op : (k : Making) (s : ℕ) (op : Op) → making_ok None k s op ≡ true → is_guessed k ≡ false → is_guessed (next_making k op) ≡ false
unguessed_op k s (Call args) h e = refl
unguessed_op k s (SpecCall args) h e = absurd (cc (and_right (is_unmade k) _ h))
unguessed_op k s (Verify true args) h e = refl
unguessed_op k s (Verify false args) h e = absurd (cc (and_right (is_guessed k) _ h))
unguessed_op k s _ h e = e

-- in a pipe without V no guess is made
pub no_guess : (k : Making) (xs : List Stmt) → makings_ok None k xs ≡ true → is_guessed k ≡ false → is_guessed (making_all k xs) ≡ false
no_guess k [] h e = e
no_guess k (x ∷ xs) h e = no_guess (next_making k x.op) xs (and_right (making_ok None k x.stage x.op) _ h) (unguessed_op k x.stage x.op (and_left _ _ h) e)

-- once the next thread is made for certain nothing is checked
made_next : (v : Option ℕ) (s : ℕ) (op : Op) → making_ok v Made s op ≡ true → (not (is_check op) ≡ true) × (next_making Made op ≡ Made)
made_next v s (Call args) h = absurd (cc h)
made_next v s (SpecCall args) h = absurd (cc h)
made_next v s (Verify true args) h = absurd (cc h)
made_next v s (Verify false args) h = absurd (cc h)
made_next v s _ h = (refl, refl)

-- once the next thread is made for certain no statement checks a guess
pub unverified_made : (v : Option ℕ) (xs : List Stmt) → makings_ok v Made xs ≡ true → none_of is_check xs ≡ true
unverified_made v [] h = refl
unverified_made v (x ∷ xs) h =
    let n = made_next v x.stage x.op (and_left _ _ h) in
    ap₂ (λ b c. b && c) n.0 (unverified_made v xs (subst (λ k. makings_ok v k xs ≡ true) n.1 (and_right (making_ok v Made x.stage x.op) _ h)))

-- WORK THAT MAKES NOTHING

-- the same child, failure and guess
abbrev pub Kept : Work → Work → Type 0
Kept v w = (v.child ≡ w.child) × (v.fails ≡ w.fails) × (v.guess ≡ w.guess)

settled_op : (o : Around) (v : Option ℕ) (k : Making) (s : ℕ) (op : Op) (w : Work)
    → is_unmade k ≡ false → making_ok v k s op ≡ true → not (is_check op) ≡ true → Kept (work_after o op w) w × (next_making k op ≡ k)
settled_op o v k s (Call args) w u h n = absurd (clash (sym u ∙ h))
  where
    clash : false ≡ true → ⊥
    clash i = cc
settled_op o v k s (SpecCall args) w u h n = absurd (clash (sym u ∙ and_left _ _ h))
  where
    clash : false ≡ true → ⊥
    clash i = cc
settled_op o v k s (Verify last args) w u h n = absurd (cc n)
settled_op o v k s _ w u h n = ((refl, refl, refl), refl)

kept_step : (b : Bool) (v w : Work) → Kept v w → Kept (cond b v w) w
kept_step true v w h = h
kept_step false v w h = (refl, refl, refl)

-- once something is made, statements without a check keep child, failure and guess
pub settled : (o : Around) (v : Option ℕ) (k : Making) (xs : List Stmt) (w : Work)
    → is_unmade k ≡ false → makings_ok v k xs ≡ true → none_of is_check xs ≡ true → Kept (do_all o xs w) w × (making_all k xs ≡ k)
settled o v k [] w u h n = ((refl, refl, refl), refl)
settled o v k (x ∷ xs) w u h n =
    let here = settled_op o v k x.stage x.op w u (and_left _ _ h) (and_left _ _ n) in
    let rest = settled o v k xs (step o x w) u (subst (λ j. makings_ok v j xs ≡ true) here.1 (and_right (making_ok v k x.stage x.op) _ h))
    (and_right (not (is_check x.op)) _ n) in
    let one = kept_step (all_hold x.guards w.env) (work_after o x.op w) w here.0 in
    ((rest.0.0 ∙ one.0, rest.0.1 ∙ one.1, rest.0.2 ∙ one.2), ap (λ j. making_all j xs) here.1 ∙ rest.1)

-- nor is the next arguments' value changed
run_op_settled : (v : Option ℕ) (k : Making) (s : ℕ) (op : Op) (r : Run)
    → is_unmade k ≡ false → making_ok v k s op ≡ true → not (is_check op) ≡ true → (run_after op r).next ≡ r.next
run_op_settled v k s (Call args) r u h n = absurd (clash (sym u ∙ h))
  where
    clash : false ≡ true → ⊥
    clash i = cc
run_op_settled v k s (Verify last args) r u h n = absurd (cc n)
run_op_settled v k s _ r u h n = refl

-- and in sequence they keep the next arguments
pub run_settled : (v : Option ℕ) (k : Making) (xs : List Stmt) (r : Run)
    → is_unmade k ≡ false → makings_ok v k xs ≡ true → none_of is_check xs ≡ true → (run_all xs r).next ≡ r.next
run_settled v k [] r u h n = refl
run_settled v k (x ∷ xs) r u h n =
    let here = settled_op (alone (record { words = r.arrays; hint = no_hint })) v k x.stage x.op
    (record { env = []; entries = []; guess = []; asks = []; reserves = []; commits = []; child = None; fails = false; ready = true }) u (and_left _ _ h)
    (and_left _ _ n) in
    run_settled v k xs (if all_hold x.guards r.env then run_after x.op r else r) u
    (subst (λ j. makings_ok v j xs ≡ true) here.1 (and_right (making_ok v k x.stage x.op) _ h)) (and_right (not (is_check x.op)) _ n)
    ∙ at (all_hold x.guards r.env)
  where
    at : (b : Bool) → (cond b (run_after x.op r) r).next ≡ r.next
    at true = run_op_settled v k x.stage x.op r u (and_left _ _ h) (and_left _ _ n)
    at false = refl

-- without a verify nothing fails
pub fails_op : (o : Around) (op : Op) (w : Work) → not (is_check op) ≡ true → (work_after o op w).fails ≡ w.fails
fails_op o (Verify last args) w n = absurd (cc n)
fails_op o _ w n = refl

-- statements without a check fail none
pub unfailed : (o : Around) (xs : List Stmt) (w : Work) → none_of is_check xs ≡ true → (do_all o xs w).fails ≡ w.fails
unfailed o [] w n = refl
unfailed o (x ∷ xs) w n = unfailed o xs (step o x w) (and_right (not (is_check x.op)) _ n) ∙ at (all_hold x.guards w.env)
  where
    at : (b : Bool) → (cond b (work_after o x.op w) w).fails ≡ w.fails
    at true = fails_op o x.op w (and_left _ _ n)
    at false = refl

-- statements of a path, without guards
abbrev pub unguarded : List Stmt → Bool
unguarded [] = true
unguarded (x ∷ xs) = no_guards x.guards && unguarded xs

-- a statement without guards is carried out
pub step_free : (o : Around) (x : Stmt) (w : Work) → no_guards x.guards ≡ true → step o x w ≡ work_after o x.op w
step_free o x w h = ap (λ b. cond b (work_after o x.op w) w) (taken_none x.guards w.env h)

-- a thread has made one where the scan says so
begins_op : (o : Around) (v : Option ℕ) (k : Making) (s : ℕ) (op : Op) (w : Work)
    → making_ok v k s op ≡ true → is_unmade k ≡ not (is_some w.child)
    → is_unmade (next_making k op) ≡ not (is_some (work_after o op w).child)
begins_op o v k s (Call args) w h e = refl
begins_op o v k s (SpecCall args) w h e = refl
begins_op o v k s (Verify true args) w h e = by k e (and_left _ _ h) (same_args (said o true args w.env) w.guess)
  where
    by : (k : Making)
        → is_unmade k ≡ not (is_some w.child) → is_guessed k ≡ true → (b : Bool)
        → false ≡ not (is_some (cond b w (record w { child = Some (said o true args w.env); guess = said o true args w.env; fails = true })).child)
    by Unmade e g b = absurd (cc g)
    by Guessed e g true = e
    by Guessed e g false = refl
    by Made e g b = absurd (cc g)
begins_op o v k s (Verify false args) w h e = by k e (and_left _ _ h) (same_args (said o false args w.env) w.guess)
  where
    by : (k : Making)
        → is_unmade k ≡ not (is_some w.child) → is_guessed k ≡ true → (b : Bool)
        → false ≡ not (is_some (cond b w (record w { child = Some (said o false args w.env); guess = said o false args w.env; fails = true })).child)
    by Unmade e g b = absurd (cc g)
    by Guessed e g true = e
    by Guessed e g false = refl
    by Made e g b = absurd (cc g)
begins_op o v k s _ w h e = e

-- after statements that make the next thread in order a thread has made one just where they say so
pub begins : (o : Around) (v : Option ℕ) (k : Making) (xs : List Stmt) (w : Work)
    → is_unmade k ≡ not (is_some w.child) → makings_ok v k xs ≡ true → unguarded xs ≡ true
    → is_unmade (making_all k xs) ≡ not (is_some (do_all o xs w).child)
begins o v k [] w e h g = e
begins o v k (x ∷ xs) w e h g =
    begins o v (next_making k x.op) xs (work_after o x.op w) (begins_op o v k x.stage x.op w (and_left _ _ h) e) (and_right (making_ok v k x.stage x.op) _ h)
    (and_right (no_guards x.guards) _ g)
    ∙ ap (λ (u : Work). not (is_some (do_all o xs u).child)) (sym (step_free o x w (and_left _ _ g)))

-- A TURN, ALONE AND IN THE SEQUENTIAL RUN

-- what a thread has made, its guess, and the next arguments so far
abbrev pub Calls : Making → Option (List ℕ) → List ℕ → List ℕ → Type 0
Calls Unmade child guess next = child ≡ None
Calls Guessed child guess next = child ≡ Some guess
Calls Made child guess next = child ≡ Some next

calls_op : (o : Around) (v : Option ℕ) (k : Making) (s : ℕ) (op : Op) (w : Work) (r : Run)
    → making_ok v k s op ≡ true → w.env ≡ r.env → Calls k w.child w.guess r.next
    → Calls (next_making k op) (work_after o op w).child (work_after o op w).guess (run_after op r).next
calls_op o v k s (Call args) w r h e c = ap (λ l. Some (values_of args l)) e
calls_op o v k s (SpecCall args) w r h e c = refl
calls_op o v k s (Verify true args) w r h e c = by k c (and_left _ _ h)
  where
    at : (b : Bool)
        → same_args (said o true args w.env) w.guess ≡ b → w.child ≡ Some w.guess
        → (cond b w (record w { child = Some (said o true args w.env); guess = said o true args w.env; fails = true })).child ≡ Some (values_of args r.env)
    at true i c = c ∙ ap Some (sym (same_args_eq _ _ i)) ∙ ap (λ l. Some (values_of args l)) e
    at false i c = ap (λ l. Some (values_of args l)) e

    by : (k : Making) → Calls k w.child w.guess r.next → is_guessed k ≡ true → (work_after o (Verify true args) w).child ≡ Some (values_of args r.env)
    by Unmade c i = absurd (cc i)
    by Guessed c i = at (same_args (values_of args w.env) w.guess) refl c
    by Made c i = absurd (cc i)
calls_op o v k s (Verify false args) w r h e c = by k c (and_left _ _ h)
  where
    at : (b : Bool)
        → w.child ≡ Some w.guess
        → (cond b w (record w { child = Some (said o false args w.env); guess = said o false args w.env; fails = true })).child
        ≡ Some (cond b w (record w { child = Some (said o false args w.env); guess = said o false args w.env; fails = true })).guess
    at true c = c
    at false c = refl

    by : (k : Making)
        → Calls k w.child w.guess r.next → is_guessed k ≡ true
        → (work_after o (Verify false args) w).child ≡ Some (work_after o (Verify false args) w).guess
    by Unmade c i = absurd (cc i)
    by Guessed c i = at (same_args (said o false args w.env) w.guess) c
    by Made c i = absurd (cc i)
calls_op o v k s _ w r h e c = c

-- alone, what a thread has made is what the sequential thread passes on, as far as it has come
pub calls_all : (world : World) (v : Option ℕ) (xs : List Stmt) (ph : ℕ → Phase) (k : Making) (w : Work) (r : Run)
    → ((m : ℕ) → phases_ok m (ph m) xs ≡ true) → makings_ok v k xs ≡ true → Related world ph w r → Calls k w.child w.guess r.next
    → Calls (making_all k xs) (do_all (alone world) xs w).child (do_all (alone world) xs w).guess (run_all xs r).next
calls_all world v [] ph k w r ok h rel c = c
calls_all world v (x ∷ xs) ph k w r ok h rel c =
    subst
    (λ (u : Work). Calls (making_all (next_making k x.op) xs) (do_all (alone world) xs u).child (do_all (alone world) xs u).guess
    (run_all xs (cond (all_hold x.guards r.env) (run_after x.op r) r)).next) (sym (step_free (alone world) x w free))
    (subst (λ (u : Run). Calls (making_all (next_making k x.op) xs) (do_all (alone world) xs (work_after (alone world) x.op w)).child
    (do_all (alone world) xs (work_after (alone world) x.op w)).guess (run_all xs u).next) (sym
    (ap (λ b. cond b (run_after x.op r) r) (taken_none x.guards r.env free)))
    (calls_all world v xs (next_phases ph x.op) (next_making k x.op) (work_after (alone world) x.op w) (run_after x.op r) (λ m. and_right _ _ (ok m))
    (and_right (making_ok v k x.stage x.op) _ h)
    (related_step world ph x.op w r (λ m. and_right _ _ (and_left _ _ (ok m))) rel)
    (calls_op (alone world) v k x.stage x.op w r (and_left _ _ h) rel.env c)))
  where
    free : no_guards x.guards ≡ true
    free = and_left _ _ (and_left _ _ (ok 0))

-- WHAT A THREAD DOES THAT HAS MADE ANOTHER: nothing, or it replaces it

-- either nothing is made, or a new thread in place of the one that was made
abbrev pub Changed : Work → Type 0
Changed w = ((w.child ≡ None) × (w.fails ≡ false)) ⊎ ((y : List ℕ) × (w.child ≡ Some y) × (w.fails ≡ true))

changed_op : (o : Around) (v : Option ℕ) (k : Making) (s : ℕ) (op : Op) (w : Work)
    → is_unmade k ≡ false → making_ok v k s op ≡ true → Changed w → Changed (work_after o op w) × (is_unmade (next_making k op) ≡ false)
changed_op o v k s (Call args) w u h c = absurd (clash (sym u ∙ h))
  where
    clash : false ≡ true → ⊥
    clash i = cc
changed_op o v k s (SpecCall args) w u h c = absurd (clash (sym u ∙ and_left _ _ h))
  where
    clash : false ≡ true → ⊥
    clash i = cc
changed_op o v k s (Verify true args) w u h c = (at (same_args (said o true args w.env) w.guess), refl)
  where
    at : (b : Bool) → Changed (cond b w (record w { child = Some (said o true args w.env); guess = said o true args w.env; fails = true }))
    at true = c
    at false = inr (said o true args w.env, refl, refl)
changed_op o v k s (Verify false args) w u h c = (at (same_args (said o false args w.env) w.guess), refl)
  where
    at : (b : Bool) → Changed (cond b w (record w { child = Some (said o false args w.env); guess = said o false args w.env; fails = true }))
    at true = c
    at false = inr (said o false args w.env, refl, refl)
changed_op o v k s _ w u h c = (c, u)

-- once something is made, statements make nothing, or a new thread in its place
pub changed_all : (o : Around) (v : Option ℕ) (k : Making) (xs : List Stmt) (w : Work)
    → is_unmade k ≡ false → makings_ok v k xs ≡ true → Changed w → Changed (do_all o xs w) × (is_unmade (making_all k xs) ≡ false)
changed_all o v k [] w u h c = (c, u)
changed_all o v k (x ∷ xs) w u h c =
    let one = changed_op o v k x.stage x.op w u (and_left _ _ h) c in
    changed_all o v (next_making k x.op) xs (step o x w) one.1 (and_right (making_ok v k x.stage x.op) _ h) (at (all_hold x.guards w.env) one.0)
  where
    at : (b : Bool) → Changed (work_after o x.op w) → Changed (cond b (work_after o x.op w) w)
    at true r = r
    at false r = c
