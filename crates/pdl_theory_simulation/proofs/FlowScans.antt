-- What the scans of locks and calls tell the simulation.
use Rattle.std.proofs.Common.{◌≡◌, refl, ap, ap₂, ◌∙◌, ℕ, ◌&&◌, ◌||◌, not, List, [], ◌∷◌, Option, true, false, sym, ◌⊎◌, inl, inr, Bool, Some, ◌==◌, cond, subst, None, nat_lt, ◌<◌, arith, ltb-true}
use Rattle.std.proofs.lemmas.Bool.{eqb-true, false≢true}
use Rattle.pdl_semantics.specs.Flat.{Op, Write, ReserveWrite, Release, SpecCall, Verify, Call, Stmt, DelayedRead}
use Rattle.pdl_semantics.specs.Stages.{in_stage, is_check, is_verify}
use Rattle.pdl_theory_turns.specs.Alone.{answered_op}
use Rattle.pdl_theory_turns.specs.Scans.{Phase, phase_ok, phases_ok, next_phase, none_of}
use Rattle.pdl_theory_turns.specs.Facts.{looked_all}
use Rattle.pdl_theory_turns.specs.GuessScans.{Making, Unmade, Guessed, Made, next_making, is_unmade, is_guessed, making_ok, makings_ok, guess_stage, check_apart, checks_apart, is_update, once, stands_at, stands_before}
use Rattle.pdl_theory_simulation.proofs.FlowFacts.{use_ok, uses_ok, call_ok, calls_ok}
use Rattle.pdl_theory_turns.proofs.Writes.{and_left, and_right}
use Rattle.pdl_semantics.specs.Sound.{is_call, is_spec_call}

-- the use of a lock
use_of : (m : ℕ) (ph : Phase) (op : Op) → phase_ok m ph op ≡ true → use_ok m ph op ≡ true
use_of m ph (Write n a e) h = h
use_of m ph (ReserveWrite n a) h = h
use_of m ph (Release n a) h = h
use_of m ph _ h = refl

-- statements that are in order in their phases of m's write are in order in their phases of its lock
pub uses_of : (m : ℕ) (ph : Phase) (xs : List Stmt) → phases_ok m ph xs ≡ true → uses_ok m ph xs ≡ true
uses_of m ph [] h = refl
uses_of m ph (x ∷ xs) h = ap₂ (λ a b. a && b) (use_of m ph x.op (and_right _ _ (and_left _ _ h))) (uses_of m (next_phase m ph x.op) xs (and_right _ _ h))

-- calls and verifies
call_of : (v : Option ℕ) (k : Making) (s : ℕ) (op : Op)
    → making_ok v k s op ≡ true
    → (call_ok (not (is_unmade k)) op ≡ true) × ((not (is_unmade k) || is_call op) ≡ not (is_unmade (next_making k op)))
call_of v Unmade s (Call args) h = (refl, refl)
call_of v Unmade s (SpecCall args) h = (refl, refl)
call_of v Unmade s (Verify true args) h = absurd (cc h)
call_of v Unmade s (Verify false args) h = absurd (cc h)
call_of v Unmade s _ h = (refl, refl)
call_of v Guessed s (Call args) h = absurd (cc h)
call_of v Guessed s (SpecCall args) h = absurd (cc h)
call_of v Guessed s (Verify true args) h = (refl, refl)
call_of v Guessed s (Verify false args) h = (refl, refl)
call_of v Guessed s _ h = (refl, refl)
call_of v Made s (Call args) h = absurd (cc h)
call_of v Made s (SpecCall args) h = absurd (cc h)
call_of v Made s (Verify true args) h = absurd (cc h)
call_of v Made s (Verify false args) h = absurd (cc h)
call_of v Made s _ h = (refl, refl)

-- statements that make the next thread in order have their calls in order
pub calls_of : (v : Option ℕ) (k : Making) (xs : List Stmt) → makings_ok v k xs ≡ true → calls_ok (not (is_unmade k)) xs ≡ true
calls_of v k [] h = refl
calls_of v k (x ∷ xs) h =
    let c = call_of v k x.stage x.op (and_left _ _ h) in
    ap₂ (λ a b. a && b) c.0 (ap (λ b. calls_ok b xs) c.1 ∙ calls_of v (next_making k x.op) xs (and_right (making_ok v k x.stage x.op) _ h))

-- A GUESS AND ITS CHECKS

-- after a guess or a call no path makes a guess
still : (v : Option ℕ) (s : ℕ) (k : Making) (op : Op)
    → is_unmade k ≡ false → making_ok v k s (answered_op op) ≡ true
    → (is_unmade (next_making k (answered_op op)) ≡ false) × (is_spec_call op ≡ false)
still v s k (Call args) u i = (refl, refl)
still v s k (SpecCall args) u i = absurd (false≢true (sym u ∙ and_left _ _ i))
still v s k (Verify true args) u i = (refl, refl)
still v s k (Verify false args) u i = (refl, refl)
still v s k _ u i = (u, refl)

unguessed : (v : Option ℕ) (s : ℕ) (k : Making) (xs : List Stmt)
    → is_unmade k ≡ false → makings_ok v k (looked_all xs) ≡ true → none_of is_spec_call (in_stage s xs) ≡ true
unguessed v s k [] u h = refl
unguessed v s k (x ∷ xs) u h =
    let here = still v x.stage k x.op u (and_left _ _ h) in
    at (x.stage == s) here.1 (unguessed v s (next_making k (answered_op x.op)) xs here.0 (and_right (making_ok v k x.stage (answered_op x.op)) _ h))
  where
    at : (b : Bool)
        → is_spec_call x.op ≡ false → none_of is_spec_call (in_stage s xs) ≡ true
        → none_of is_spec_call (cond b (x ∷ in_stage s xs) (in_stage s xs)) ≡ true
    at true e r = ap₂ (λ a b. not a && b) e r
    at false e r = r

-- nor does it ask in the stage of its guess
same_stage : (g : Option ℕ) (s : ℕ) (op : Op) → is_spec_call op ≡ false → guess_stage g s (answered_op op) ≡ g
same_stage g s (SpecCall args) h = absurd (cc h)
same_stage g s _ h = refl

no_check : (s r : ℕ) (op : Op) → check_apart (Some s) r (answered_op op) ≡ true → (r == s) ≡ true → is_check op ≡ false
no_check s r (Verify last args) h e = absurd (false≢true (sym (ap not e) ∙ h))
no_check s r _ h e = refl

unchecked : (v : Option ℕ) (s : ℕ) (k : Making) (xs : List Stmt)
    → is_unmade k ≡ false → makings_ok v k (looked_all xs) ≡ true → checks_apart (Some s) (looked_all xs) ≡ true
    → none_of is_check (in_stage s xs) ≡ true
unchecked v s k [] u h c = refl
unchecked v s k (x ∷ xs) u h c =
    let here = still v x.stage k x.op u (and_left _ _ h) in
    at (x.stage == s) refl
    (unchecked v s (next_making k (answered_op x.op)) xs here.0 (and_right (making_ok v k x.stage (answered_op x.op)) _ h)
    (subst (λ g. checks_apart g (looked_all xs) ≡ true) (same_stage (Some s) x.stage x.op here.1)
    (and_right (check_apart (Some s) x.stage (answered_op x.op)) _ c)))
  where
    at : (b : Bool) → (x.stage == s) ≡ b → none_of is_check (in_stage s xs) ≡ true → none_of is_check (cond b (x ∷ in_stage s xs) (in_stage s xs)) ≡ true
    at true e r = ap₂ (λ a b. not a && b) (no_check s x.stage x.op (and_left _ _ c) e) r
    at false e r = r

-- a stage that makes a guess checks none
pub apart_of : (v : Option ℕ) (s : ℕ) (k : Making) (g : Option ℕ) (xs : List Stmt)
    → makings_ok v k (looked_all xs) ≡ true → checks_apart g (looked_all xs) ≡ true
    → (none_of is_spec_call (in_stage s xs) ≡ true) ⊎ (none_of is_check (in_stage s xs) ≡ true)
apart_of v s k g [] h c = inl refl
apart_of v s k g (x ∷ xs) h c =
    by (is_unmade k) refl
    (apart_of v s (next_making k (answered_op x.op)) (guess_stage g x.stage (answered_op x.op)) xs (and_right (making_ok v k x.stage (answered_op x.op)) _ h)
    (and_right (check_apart g x.stage (answered_op x.op)) _ c))
  where
    Apart : List Stmt → Type 0
    Apart ys = (none_of is_spec_call ys ≡ true) ⊎ (none_of is_check ys ≡ true)

    rest : makings_ok v (next_making k (answered_op x.op)) (looked_all xs) ≡ true
    rest = and_right (making_ok v k x.stage (answered_op x.op)) _ h

    more : checks_apart (guess_stage g x.stage (answered_op x.op)) (looked_all xs) ≡ true
    more = and_right (check_apart g x.stage (answered_op x.op)) _ c

    add : (b : Bool) → is_spec_call x.op ≡ false → is_check x.op ≡ false → Apart (in_stage s xs) → Apart (cond b (x ∷ in_stage s xs) (in_stage s xs))
    add true e f (inl r) = inl (ap₂ (λ a b. not a && b) e r)
    add true e f (inr r) = inr (ap₂ (λ a b. not a && b) f r)
    add false e f r = r

    -- a statement that is neither
    quiet : (op : Op) → is_unmade k ≡ true → making_ok v k x.stage (answered_op op) ≡ true → is_spec_call op ≡ false → is_check op ≡ false
    quiet (Verify true args) u i e = absurd (two k u (and_left _ _ i))
      where
        two : (j : Making) → is_unmade j ≡ true → is_guessed j ≡ true → ⊥
        two Unmade a b = cc b
        two Guessed a b = cc a
        two Made a b = cc a
    quiet (Verify false args) u i e = absurd (two k u (and_left _ _ i))
      where
        two : (j : Making) → is_unmade j ≡ true → is_guessed j ≡ true → ⊥
        two Unmade a b = cc b
        two Guessed a b = cc a
        two Made a b = cc a
    quiet _ u i e = refl

    -- a guess
    made : (op : Op)
        → is_spec_call op ≡ true
        → (is_unmade (next_making k (answered_op op)) ≡ false) × (guess_stage g x.stage (answered_op op) ≡ Some x.stage) × (is_check op ≡ false)
    made (SpecCall args) e = (refl, refl, refl)
    made _ e = absurd (cc e)

    guessed : (b : Bool) → (x.stage == s) ≡ b → is_spec_call x.op ≡ true → Apart (cond b (x ∷ in_stage s xs) (in_stage s xs))
    guessed true i e =
        let m = made x.op e in
        inr (ap₂ (λ a b. not a && b) m.2
        (unchecked v s (next_making k (answered_op x.op)) xs m.0 rest
        (subst (λ n. checks_apart (Some n) (looked_all xs) ≡ true) (eqb-true x.stage s i) (subst (λ o. checks_apart o (looked_all xs) ≡ true) m.1 more))))
    guessed false i e = inl (unguessed v s (next_making k (answered_op x.op)) xs (made x.op e).0 rest)

    first : (b : Bool) → is_spec_call x.op ≡ b → is_unmade k ≡ true → Apart (in_stage s xs) → Apart (cond (x.stage == s) (x ∷ in_stage s xs) (in_stage s xs))
    first true e u r = guessed (x.stage == s) refl e
    first false e u r = add (x.stage == s) e (quiet x.op u (and_left _ _ h) e) r

    by : (b : Bool) → is_unmade k ≡ b → Apart (in_stage s xs) → Apart (in_stage s (x ∷ xs))
    by true u r = first (is_spec_call x.op) refl u r
    by false u r = inl (unguessed v s k (x ∷ xs) u h)

-- UPDATES

-- an operation whose answer has come is an update just where it was
pub is_update_looked : (op : Op) → is_update (answered_op op) ≡ is_update op
is_update_looked (DelayedRead x m a) = refl
is_update_looked _ = refl

-- updates stand among statements as they do where delayed reads have their answers at once
pub once_looked : (been : Bool) (xs : List Stmt) → once is_update been (looked_all xs) ≡ once is_update been xs
once_looked been [] = refl
once_looked been (x ∷ xs) =
    ap (λ b. not (been && b) && once is_update (been || b) (looked_all xs)) (is_update_looked x.op)
    ∙ ap (λ c. not (been && is_update x.op) && c) (once_looked (been || is_update x.op) xs)

update_low : (v : Option ℕ) (k : Making) (s : ℕ) (op : Op)
    → stands_before v s ≡ false → making_ok v k s (answered_op op) ≡ true → not (is_update op) ≡ true
update_low v k s (Verify true args) e h = refl
update_low v k s (Verify false args) e h = absurd (false≢true (sym e ∙ and_right (is_guessed k) _ h))
update_low v k s _ e h = refl

verify_there : (v : Option ℕ) (k : Making) (s : ℕ) (op : Op)
    → stands_at v s ≡ false → making_ok v k s (answered_op op) ≡ true → not (is_verify op) ≡ true
verify_there v k s (Verify true args) e h = absurd (false≢true (sym e ∙ and_right (is_guessed k) _ h))
verify_there v k s (Verify false args) e h = refl
verify_there v k s _ e h = refl

-- a kind of statement that stage s of a path can't have has none there
none_here : (test : Op → Bool) (v : Option ℕ) (s : ℕ) (k : Making) (xs : List Stmt)
    → ((k : Making) (op : Op) → making_ok v k s (answered_op op) ≡ true → not (test op) ≡ true) → makings_ok v k (looked_all xs) ≡ true
    → none_of test (in_stage s xs) ≡ true
none_here test v s k [] f h = refl
none_here test v s k (x ∷ xs) f h =
    at (x.stage == s) refl (none_here test v s (next_making k (answered_op x.op)) xs f (and_right (making_ok v k x.stage (answered_op x.op)) _ h))
  where
    at : (b : Bool) → (x.stage == s) ≡ b → none_of test (in_stage s xs) ≡ true → none_of test (cond b (x ∷ in_stage s xs) (in_stage s xs)) ≡ true
    at true e r =
        ap₂ (λ a b. a && b) (f k x.op (subst (λ q. making_ok v k q (answered_op x.op) ≡ true) (eqb-true _ _ e) (and_left _ _ h))) r
    at false e r = r

-- a stage of a path that updates a guess verifies none
pub update_or_verify : (v : Option ℕ) (s : ℕ) (k : Making) (xs : List Stmt) → makings_ok v k (looked_all xs) ≡ true
    → (none_of is_update (in_stage s xs) ≡ true) ⊎ (none_of is_verify (in_stage s xs) ≡ true)
update_or_verify v s k xs h = at (stands_at v s) refl
  where
    not_before : (w : Option ℕ) → stands_at w s ≡ true → stands_before w s ≡ false
    not_before None e = absurd (false≢true e)
    not_before (Some q) e = by (nat_lt s q) refl
      where
        by : (b : Bool) → nat_lt s q ≡ b → nat_lt s q ≡ false
        by true i = absurd (let j : s ≡ q = eqb-true s q e in let u : s < q = ltb-true s q i in omega arith)
        by false i = i

    at : (b : Bool) → stands_at v s ≡ b → (none_of is_update (in_stage s xs) ≡ true) ⊎ (none_of is_verify (in_stage s xs) ≡ true)
    at true e = inl (none_here is_update v s k xs (λ q op i. update_low v q s op (not_before v e) i) h)
    at false e = inr (none_here is_verify v s k xs (λ q op i. verify_there v q s op e i) h)
