-- Statements but for the updates: the same of each stage and each path, and what is asked of statements, of all or of one after another, holds of these too.
use Rattle.std.proofs.Common.{◌≡◌, refl, sym, ap, ap₂, ◌∙◌, ℕ, suc, Bool, true, false, ◌&&◌, ◌||◌, not, List, [], ◌∷◌, ◌++◌, if◌then◌else◌, Option, Some, nat_lt, nat_le, ◌==◌, subst}
use Rattle.std.proofs.lemmas.Bool.{and_parts, false≢true}
use Rattle.std.proofs.Math.Bool.{or-false}
use Rattle.pdl_semantics.specs.Flat.{list_all, Op, Verify, DelayedRead, Guard, Stmt, all_hold}
use Rattle.pdl_semantics.specs.Stages.{onpath, in_stage, is_verify, verify_stage, is_write_reserve}
use Rattle.pdl_semantics.specs.SecondWrites.{write_reserves}
use Rattle.pdl_semantics.specs.Sound.{stages_from, is_barrier}
use Rattle.pdl_semantics.specs.Updates.{is_update, without_updates}
use Rattle.pdl_theory_turns.specs.Alone.{before, answered_op}
use Rattle.pdl_theory_turns.specs.Scans.{none_of, all_at, free_of, is_dead, keeps_guards, is_fixed, binds_var, Scan, scan_after, no_guards, Phase, phase_ok, next_phase, phases_ok, phase_all}
use Rattle.pdl_theory_turns.specs.GuessScans.{Making, Unmade, Guessed, Made, next_making, making_all, making_ok, makings_ok, guess_stage, check_apart, checks_apart, once, is_sure, all_sure}
use Rattle.pdl_theory_turns.specs.Facts.{asks_for, mentions_var, silent_on, unseen_op, is_unseen, fetches_no, none_like, alone_op, fetch_apart, binds_guard, defined_by, late_for, looked_all}
use Rattle.pdl_theory_simulation.proofs.FlowScans.{is_update_looked}

-- PARTS OF THE STATEMENTS

-- a part that takes statements by a test, or all, is the same before and after the updates are left out
swapped : (part : List Stmt → List Stmt) (u k : Bool) (x y : Stmt) (xs ys : List Stmt)
    → part (x ∷ xs) ≡ (if k then y ∷ part xs else part xs) → without_updates (y ∷ ys) ≡ (if u then without_updates ys else y ∷ without_updates ys)
    → part xs ≡ without_updates ys → part (if u then xs else x ∷ xs) ≡ without_updates (if k then y ∷ ys else ys)
swapped part true true x y xs ys f l h = h ∙ sym l
swapped part true false x y xs ys f l h = h
swapped part false true x y xs ys f l h = f ∙ ap (λ zs. y ∷ zs) h ∙ sym l
swapped part false false x y xs ys f l h = f ∙ h

-- those of the stages before s
pub before_left : (s : ℕ) (xs : List Stmt) → before s (without_updates xs) ≡ without_updates (before s xs)
before_left s [] = refl
before_left s (x ∷ xs) =
    let y : Stmt = record x { op = answered_op x.op } in
    swapped (before s) (is_update x.op) (nat_lt x.stage s) x y (without_updates xs) (before s xs) refl
    (ap (λ u. if u then without_updates (before s xs) else y ∷ without_updates (before s xs)) (is_update_looked x.op))
    (before_left s xs)

-- those of a stage
pub stage_left : (s : ℕ) (xs : List Stmt) → in_stage s (without_updates xs) ≡ without_updates (in_stage s xs)
stage_left s [] = refl
stage_left s (x ∷ xs) =
    swapped (in_stage s) (is_update x.op) (x.stage == s) x x (without_updates xs) (in_stage s xs) refl refl (stage_left s xs)

-- those from a stage on
pub from_left : (s : ℕ) (xs : List Stmt) → stages_from s (without_updates xs) ≡ without_updates (stages_from s xs)
from_left s [] = refl
from_left s (x ∷ xs) =
    swapped (stages_from s) (is_update x.op) (nat_le s x.stage) x x (without_updates xs) (stages_from s xs) refl refl (from_left s xs)

-- those on a path
pub path_left : (path : List ℕ) (xs : List Stmt) → onpath path (without_updates xs) ≡ without_updates (onpath path xs)
path_left path [] = refl
path_left path (x ∷ xs) =
    swapped (onpath path) (is_update x.op) (all_hold x.guards path) x (record x { guards = [] }) (without_updates xs) (onpath path xs) refl refl
    (path_left path xs)

-- where each delayed read has its answer at once
pub looked_left : (xs : List Stmt) → looked_all (without_updates xs) ≡ without_updates (looked_all xs)
looked_left [] = refl
looked_left (x ∷ xs) =
    let y : Stmt = record x { op = answered_op x.op } in
    swapped looked_all (is_update x.op) true x y (without_updates xs) (looked_all xs) refl
    (ap (λ u. if u then without_updates (looked_all xs) else y ∷ without_updates (looked_all xs)) (is_update_looked x.op))
    (looked_left xs)

-- WHAT IS ASKED OF EACH STATEMENT

-- what is asked of statements one after another holds where an update is passed over, which leaves what was told before it
pub scanned : {S : Type 0} (test : S → List Stmt → Bool) (u : Bool) (s t : S) (x : Stmt) (xs : List Stmt) (here : Bool)
    → test s (x ∷ xs) ≡ (here && test t xs) → here ≡ true → test t xs ≡ true → (u ≡ true → t ≡ s) → test s (if u then xs else x ∷ xs) ≡ true
scanned test true s t x xs here e h k idle = subst (λ r. test r xs ≡ true) (idle refl) k
scanned test false s t x xs here e h k idle = e ∙ ap₂ (λ a b. a && b) h k

-- the same where nothing is told
each : (test : List Stmt → Bool) (u : Bool) (x : Stmt) (xs : List Stmt) (here : Bool)
    → test (x ∷ xs) ≡ (here && test xs) → here ≡ true → test xs ≡ true → test (if u then xs else x ∷ xs) ≡ true
each test true x xs here e h k = k
each test false x xs here e h k = e ∙ ap₂ (λ a b. a && b) h k

-- all pass a test that is asked of more, or another that follows from it
pub all_left : (test other : Stmt → Bool) (xs : List Stmt)
    → ((x : Stmt) → test x ≡ true → other x ≡ true) → list_all test xs ≡ true → list_all other (without_updates xs) ≡ true
all_left test other [] f h = refl
all_left test other (x ∷ xs) f h =
    let p = and_parts (test x) (list_all test xs) h in
    each (list_all other) (is_update x.op) x (without_updates xs) (other x) refl (f x p.0) (all_left test other xs f p.1)

-- none passes a test
pub none_left : (test : Op → Bool) (xs : List Stmt) → none_of test xs ≡ true → none_of test (without_updates xs) ≡ true
none_left test [] h = refl
none_left test (x ∷ xs) h =
    let p = and_parts (not (test x.op)) (none_of test xs) h in
    each (none_of test) (is_update x.op) x (without_updates xs) (not (test x.op)) refl p.0 (none_left test xs p.1)

-- those of a kind stand in one stage
pub at_left : (test : Op → Bool) (s : ℕ) (xs : List Stmt) → all_at test s xs ≡ true → all_at test s (without_updates xs) ≡ true
at_left test s [] h = refl
at_left test s (x ∷ xs) h =
    let p = and_parts (not (test x.op) || (x.stage == s)) (all_at test s xs) h in
    each (all_at test s) (is_update x.op) x (without_updates xs) (not (test x.op) || (x.stage == s)) refl p.0 (at_left test s xs p.1)

-- guards that no statement binds
free_among : (gs : List Guard) (xs ys : List Stmt)
    → ((test : Op → Bool) → none_of test xs ≡ true → none_of test ys ≡ true) → free_of gs xs ≡ true → free_of gs ys ≡ true
free_among [] xs ys f h = refl
free_among (g ∷ gs) xs ys f h =
    let p = and_parts (none_of (binds_var g.var) xs) (free_of gs xs) h in
    ap₂ (λ a b. a && b) (f (binds_var g.var) p.0) (free_among gs xs ys f p.1)

kept_among : (gs : List Guard) (xs ys : List Stmt)
    → ((test : Op → Bool) → none_of test xs ≡ true → none_of test ys ≡ true) → keeps_guards gs xs ≡ true → keeps_guards gs ys ≡ true
kept_among gs xs ys f = at (is_dead gs)
  where
    at : (b : Bool) → (b || free_of gs xs) ≡ true → (b || free_of gs ys) ≡ true
    at true h = refl
    at false h = free_among gs xs ys f h

-- no guard is bound anew
pub fixed_left : (xs : List Stmt) → is_fixed xs ≡ true → is_fixed (without_updates xs) ≡ true
fixed_left [] h = refl
fixed_left (x ∷ xs) h =
    let p = and_parts (keeps_guards x.guards (x ∷ xs)) (is_fixed xs) h in
    let fewer : (test : Op → Bool) → none_of test (x ∷ xs) ≡ true → none_of test (x ∷ without_updates xs) ≡ true =
    λ test k. (let q = and_parts (not (test x.op)) (none_of test xs) k in ap₂ (λ a b. a && b) q.0 (none_left test xs q.1)) in
    each is_fixed (is_update x.op) x (without_updates xs) (keeps_guards x.guards (x ∷ without_updates xs)) refl
    (kept_among x.guards (x ∷ xs) (x ∷ without_updates xs) fewer p.0)
    (fixed_left xs p.1)

-- a guard's variable is defined early enough
pub late_left : (z : Stmt) (xs : List Stmt) → late_for z xs ≡ true → late_for z (without_updates xs) ≡ true
late_left z [] h = refl
late_left z (x ∷ xs) h =
    let here = not (binds_guard x.op z.guards) || defined_by x.stage x.op z.stage in
    let p = and_parts here (late_for z xs) h in
    each (late_for z) (is_update x.op) x (without_updates xs) here refl p.0 (late_left z xs p.1)

-- DELAYED READS

silent_left : (v : ℕ) (xs : List Stmt) → silent_on v xs ≡ true → silent_on v (without_updates xs) ≡ true
silent_left v [] h = refl
silent_left v (x ∷ xs) h =
    let here = is_dead x.guards || (not (asks_for v x.guards) && not (mentions_var v x.op)) in
    let p = and_parts here (silent_on v xs) h in
    each (silent_on v) (is_update x.op) x (without_updates xs) here refl p.0 (silent_left v xs p.1)

unseen_here : (op : Op) (xs : List Stmt) → unseen_op op xs ≡ true → unseen_op op (without_updates xs) ≡ true
unseen_here (DelayedRead x m a) xs h = silent_left x xs h
unseen_here _ xs h = refl

-- nothing after a delayed read has to do with its variable
pub unseen_left : (xs : List Stmt) → is_unseen xs ≡ true → is_unseen (without_updates xs) ≡ true
unseen_left [] h = refl
unseen_left (x ∷ xs) h =
    let p = and_parts (unseen_op x.op xs) (is_unseen xs) h in
    each is_unseen (is_update x.op) x (without_updates xs) (unseen_op x.op (without_updates xs)) refl (unseen_here x.op xs p.0) (unseen_left xs p.1)

like_left : (v m : ℕ) (xs : List Stmt) → none_like v m xs ≡ true → none_like v m (without_updates xs) ≡ true
like_left v m [] h = refl
like_left v m (x ∷ xs) h =
    let p = and_parts (fetches_no v m x.op) (none_like v m xs) h in
    each (none_like v m) (is_update x.op) x (without_updates xs) (fetches_no v m x.op) refl p.0 (like_left v m xs p.1)

alone_here : (op : Op) (xs : List Stmt) → alone_op op xs ≡ true → alone_op op (without_updates xs) ≡ true
alone_here (DelayedRead x m a) xs h = like_left x m xs h
alone_here _ xs h = refl

-- two delayed reads have different variables and memories
pub apart_left : (xs : List Stmt) → fetch_apart xs ≡ true → fetch_apart (without_updates xs) ≡ true
apart_left [] h = refl
apart_left (x ∷ xs) h =
    let p = and_parts (alone_op x.op xs) (fetch_apart xs) h in
    each fetch_apart (is_update x.op) x (without_updates xs) (alone_op x.op (without_updates xs)) refl (alone_here x.op xs p.0) (apart_left xs p.1)

-- SCANS

-- an update changes no scan of locks
pub scan_idle : (op : Op) (c : Scan) → is_update op ≡ true → scan_after op c ≡ c
scan_idle (Verify true args) c h = absurd (false≢true h)
scan_idle (Verify false args) c h = refl
scan_idle _ c h = absurd (false≢true h)

phase_idle : (m : ℕ) (ph : Phase) (op : Op) → is_update op ≡ true → next_phase m ph op ≡ ph
phase_idle m ph (Verify true args) h = absurd (false≢true h)
phase_idle m ph (Verify false args) h = refl
phase_idle m ph _ h = absurd (false≢true h)

-- each statement is in order in its phase of a memory's writes
pub phases_left : (m : ℕ) (ph : Phase) (xs : List Stmt) → phases_ok m ph xs ≡ true → phases_ok m ph (without_updates xs) ≡ true
phases_left m ph [] h = refl
phases_left m ph (x ∷ xs) h =
    let here = no_guards x.guards && phase_ok m ph x.op in
    let p = and_parts here (phases_ok m (next_phase m ph x.op) xs) h in
    scanned (phases_ok m) (is_update x.op) ph (next_phase m ph x.op) x (without_updates xs) here refl p.0
    (phases_left m (next_phase m ph x.op) xs p.1) (phase_idle m ph x.op)

-- they end in the same phase
pub phase_left : (m : ℕ) (ph : Phase) (xs : List Stmt) → phase_all m ph (without_updates xs) ≡ phase_all m ph xs
phase_left m ph [] = refl
phase_left m ph (x ∷ xs) = at (is_update x.op) (phase_idle m ph x.op) (phase_left m (next_phase m ph x.op) xs)
  where
    at : (u : Bool) → (u ≡ true → next_phase m ph x.op ≡ ph)
        → phase_all m (next_phase m ph x.op) (without_updates xs) ≡ phase_all m (next_phase m ph x.op) xs
        → phase_all m ph (if u then without_updates xs else x ∷ without_updates xs) ≡ phase_all m (next_phase m ph x.op) xs
    at true idle e = ap (λ q. phase_all m q (without_updates xs)) (sym (idle refl)) ∙ e
    at false idle e = e

reserves_idle : (m : ℕ) (op : Op) → is_update op ≡ true → is_write_reserve m op ≡ false
reserves_idle m (Verify true args) h = absurd (false≢true h)
reserves_idle m (Verify false args) h = refl
reserves_idle m _ h = absurd (false≢true h)

-- as many reserve a memory to write it
pub reserves_left : (m : ℕ) (xs : List Stmt) → write_reserves m (without_updates xs) ≡ write_reserves m xs
reserves_left m [] = refl
reserves_left m (x ∷ xs) = at (is_update x.op) (reserves_idle m x.op) (reserves_left m xs)
  where
    at : (u : Bool) → (u ≡ true → is_write_reserve m x.op ≡ false) → write_reserves m (without_updates xs) ≡ write_reserves m xs
        → write_reserves m (if u then without_updates xs else x ∷ without_updates xs) ≡ write_reserves m (x ∷ xs)
    at true idle e = e ∙ sym (ap (λ b. if b then suc (write_reserves m xs) else write_reserves m xs) (idle refl))
    at false idle e = ap (λ n. if is_write_reserve m x.op then suc n else n) e

-- GUESSES

verify_idle : (op : Op) → is_update op ≡ true → is_verify op ≡ false
verify_idle (Verify true args) h = absurd (false≢true h)
verify_idle (Verify false args) h = refl
verify_idle _ h = absurd (false≢true h)

-- the first verify stands in the same stage
pub verify_left : (xs : List Stmt) → verify_stage (without_updates xs) ≡ verify_stage xs
verify_left [] = refl
verify_left (x ∷ xs) = at (is_update x.op) (verify_idle x.op) (verify_left xs)
  where
    at : (u : Bool) → (u ≡ true → is_verify x.op ≡ false) → verify_stage (without_updates xs) ≡ verify_stage xs
        → verify_stage (if u then without_updates xs else x ∷ without_updates xs) ≡ verify_stage (x ∷ xs)
    at true idle e = e ∙ sym (ap (λ b. if b then Some x.stage else verify_stage xs) (idle refl))
    at false idle e = ap (λ o. if is_verify x.op then Some x.stage else o) e

-- an update that is in order leaves a guess a guess
making_idle : (v : Option ℕ) (k : Making) (s : ℕ) (op : Op) → making_ok v k s op ≡ true → is_update op ≡ true → next_making k op ≡ k
making_idle v Unmade s (Verify false args) h e = absurd (false≢true h)
making_idle v Guessed s (Verify false args) h e = refl
making_idle v Made s (Verify false args) h e = absurd (false≢true h)
making_idle v k s (Verify true args) h e = absurd (false≢true e)
making_idle v k s _ h e = absurd (false≢true e)

-- these make the next thread in order
pub makings_left : (v : Option ℕ) (k : Making) (xs : List Stmt) → makings_ok v k xs ≡ true → makings_ok v k (without_updates xs) ≡ true
makings_left v k [] h = refl
makings_left v k (x ∷ xs) h =
    let p = and_parts (making_ok v k x.stage x.op) (makings_ok v (next_making k x.op) xs) h in
    scanned (makings_ok v) (is_update x.op) k (next_making k x.op) x (without_updates xs) (making_ok v k x.stage x.op) refl p.0
    (makings_left v (next_making k x.op) xs p.1) (making_idle v k x.stage x.op p.0)

-- they make it as far
pub making_left : (v : Option ℕ) (k : Making) (xs : List Stmt) → makings_ok v k xs ≡ true → making_all k (without_updates xs) ≡ making_all k xs
making_left v k [] h = refl
making_left v k (x ∷ xs) h =
    let p = and_parts (making_ok v k x.stage x.op) (makings_ok v (next_making k x.op) xs) h in
    at (is_update x.op) (making_idle v k x.stage x.op p.0) (making_left v (next_making k x.op) xs p.1)
  where
    at : (u : Bool) → (u ≡ true → next_making k x.op ≡ k) → making_all (next_making k x.op) (without_updates xs) ≡ making_all (next_making k x.op) xs
        → making_all k (if u then without_updates xs else x ∷ without_updates xs) ≡ making_all (next_making k x.op) xs
    at true idle e = ap (λ j. making_all j (without_updates xs)) (sym (idle refl)) ∙ e
    at false idle e = e

guess_idle : (g : Option ℕ) (s : ℕ) (op : Op) → is_update op ≡ true → guess_stage g s op ≡ g
guess_idle g s (Verify true args) h = absurd (false≢true h)
guess_idle g s (Verify false args) h = refl
guess_idle g s _ h = absurd (false≢true h)

-- a verify stands in another stage than the guess that it asks about
pub checks_left : (g : Option ℕ) (xs : List Stmt) → checks_apart g xs ≡ true → checks_apart g (without_updates xs) ≡ true
checks_left g [] h = refl
checks_left g (x ∷ xs) h =
    let p = and_parts (check_apart g x.stage x.op) (checks_apart (guess_stage g x.stage x.op) xs) h in
    scanned checks_apart (is_update x.op) g (guess_stage g x.stage x.op) x (without_updates xs) (check_apart g x.stage x.op) refl p.0
    (checks_left (guess_stage g x.stage x.op) xs p.1) (guess_idle g x.stage x.op)

-- there is no update, so no second one
pub once_left : (xs : List Stmt) → once is_update false (without_updates xs) ≡ true
once_left [] = refl
once_left (x ∷ xs) = at (is_update x.op) refl (once_left xs)
  where
    at : (u : Bool) → is_update x.op ≡ u → once is_update false (without_updates xs) ≡ true
        → once is_update false (if u then without_updates xs else x ∷ without_updates xs) ≡ true
    at true e h = h
    at false e h = ap (λ b. once is_update b (without_updates xs)) e ∙ h

-- whether a barrier was passed, and the scan, as one
abbrev known : Bool → Scan → Bool × Scan
known b c = (b, c)

sure_idle : (op : Op) (b : Bool) (c : Scan) → is_update op ≡ true → known (b || is_barrier op) (scan_after op c) ≡ known b c
sure_idle (Verify true args) b c h = absurd (false≢true h)
sure_idle (Verify false args) b c h = ap (λ d. known d c) (or-false b)
sure_idle _ b c h = absurd (false≢true h)

-- each release is certain
pub sure_left : (v : Option ℕ) (b : Bool) (c : Scan) (xs : List Stmt) → all_sure v b c xs ≡ true → all_sure v b c (without_updates xs) ≡ true
sure_left v b c [] h = refl
sure_left v b c (x ∷ xs) h =
    let p = and_parts (is_sure v b c x.stage x.op) (all_sure v (b || is_barrier x.op) (scan_after x.op c) xs) h in
    scanned (λ (k : Bool × Scan) ys. all_sure v k.0 k.1 ys) (is_update x.op) (known b c) (known (b || is_barrier x.op) (scan_after x.op c)) x
    (without_updates xs)
    (is_sure v b c x.stage x.op) refl p.0
    (sure_left v (b || is_barrier x.op) (scan_after x.op c) xs p.1) (sure_idle x.op b c)
