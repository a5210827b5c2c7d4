-- A thread after a wrong guess in the whole language: it keeps to one path, whatever answers come, has passed no barrier, and so releases nothing.
use Rattle.std.proofs.Common.{◌≡◌, refl, sym, ap, ap₂, ◌∙◌, subst, ℕ, ◌≤◌, ◌<◌, ◌⊎◌, inl, inr, Bool, true, false, ◌&&◌, ◌||◌, not, List, [], ◌∷◌, ◌++◌, Option, Some, ◌==◌, nat_lt, cond, if◌then◌else◌, slice_index, slice_set, append-nil, nat_le, arith, leb-false, ltb-true}
use Rattle.pdl_semantics.specs.Flat.{Op, Guard, DelayedRead, Release, SpecBarrier, Verify, Stmt, Pipe, Branch, Next, Ends, Goes, Forks}
use Rattle.pdl_semantics.specs.Stages.{in_stage, stage_at, is_verify, verify_stage}
use Rattle.pdl_semantics.specs.Machine.{Ask, Awaited, is_answered, same_args}
use Rattle.pdl_semantics.specs.Cycle.{awaited_of}
use Rattle.pdl_theory_turns.specs.Derived.{Work, Around, State, work_after, do_all, has_entry, with_answers, still, word_of, asked_at, said}
use Rattle.pdl_theory_turns.specs.Alone.{before, answered_op}
use Rattle.pdl_theory_turns.specs.Scans.{Scan, has_location, scan_after, scan_after_all, no_guards, none_of, binds_var, free_of, is_fixed}
use Rattle.pdl_theory_turns.specs.GuessScans.{stands_before, Making, next_making, making_all, making_ok, makings_ok, is_barrier, is_sure, all_sure}
use Rattle.pdl_theory_turns.specs.Facts.{is_dead, looked_all, is_fetch_of, visits_stage}
use Rattle.pdl_theory_turns.specs.Graphs.{on_side, Within}
use Rattle.pdl_theory_turns.proofs.Nested.{visits_same}
use Rattle.std.proofs.lemmas.List.{get_or-set_other}
use Rattle.std.proofs.lemmas.Bool.{eqb-true, eqb-false, false≢true}
use Rattle.pdl_theory_turns.proofs.Writes.{and_left, and_right}
use Rattle.pdl_theory_turns.proofs.Stages.{step, was_ready}
use Rattle.pdl_theory_turns.proofs.Surroundings.{AllIn, Covers, covers_op}
use Rattle.pdl_theory_turns.proofs.Guesses.{unguarded, step_free}
use Rattle.pdl_theory_turns.proofs.CertaintyScans.{some_barrier, unreleased}
use Rattle.pdl_theory_turns.proofs.DelayedReads.{AllAsks}
use Rattle.pdl_theory_turns.proofs.Looks.{look, looked_twice}
use Rattle.pdl_theory_turns.proofs.StageFacts.{binds_looked}
use Rattle.pdl_semantics.specs.Sound.{stages_from}

-- SCANS WHERE DELAYED READS ARE READS

making_looked_op : (k : Making) (op : Op) → next_making k (answered_op op) ≡ next_making k op
making_looked_op k (DelayedRead x m a) = refl
making_looked_op k _ = refl

-- statements make the same with their delayed reads answered at once
pub making_looked : (k : Making) (xs : List Stmt) → making_all k (looked_all xs) ≡ making_all k xs
making_looked k [] = refl
making_looked k (x ∷ xs) = ap (λ j. making_all j (looked_all xs)) (making_looked_op k x.op) ∙ making_looked (next_making k x.op) xs

ok_looked_op : (v : Option ℕ) (k : Making) (s : ℕ) (op : Op) → making_ok v k s (answered_op op) ≡ making_ok v k s op
ok_looked_op v k s (DelayedRead x m a) = refl
ok_looked_op v k s _ = refl

-- statements keep the rules on guesses just where they do with delayed reads answered at once
pub ok_looked : (v : Option ℕ) (k : Making) (xs : List Stmt) → makings_ok v k (looked_all xs) ≡ makings_ok v k xs
ok_looked v k [] = refl
ok_looked v k (x ∷ xs) =
    ap₂ (λ b j. b && makings_ok v j (looked_all xs)) (ok_looked_op v k x.stage x.op) (making_looked_op k x.op)
    ∙ ap (λ b. making_ok v k x.stage x.op && b) (ok_looked v (next_making k x.op) xs)

opens_looked_op : (op : Op) (c : Scan) → scan_after (answered_op op) c ≡ scan_after op c
opens_looked_op (DelayedRead x m a) c = refl
opens_looked_op _ c = refl

-- statements reserve and block the same locations with their delayed reads answered at once
pub opens_looked : (xs : List Stmt) (c : Scan) → scan_after_all (looked_all xs) c ≡ scan_after_all xs c
opens_looked [] c = refl
opens_looked (x ∷ xs) c = ap (scan_after_all (looked_all xs)) (opens_looked_op x.op c) ∙ opens_looked xs (scan_after x.op c)

barrier_looked : (op : Op) → is_barrier (answered_op op) ≡ is_barrier op
barrier_looked (DelayedRead x m a) = refl
barrier_looked _ = refl

-- statements pass a barrier just where they do with delayed reads answered at once
pub barred_looked : (b : Bool) (xs : List Stmt) → some_barrier b (looked_all xs) ≡ some_barrier b xs
barred_looked b [] = refl
barred_looked b (x ∷ xs) = ap (λ c. some_barrier (b || c) (looked_all xs)) (barrier_looked x.op) ∙ barred_looked (b || is_barrier x.op) xs

sure_looked_op : (v : Option ℕ) (b : Bool) (c : Scan) (s : ℕ) (op : Op) → is_sure v b c s (answered_op op) ≡ is_sure v b c s op
sure_looked_op v b c s (DelayedRead x m a) = refl
sure_looked_op v b c s _ = refl

-- the releases of statements are certain just where they are with delayed reads answered at once
pub sure_looked : (v : Option ℕ) (b : Bool) (c : Scan) (xs : List Stmt) → all_sure v b c (looked_all xs) ≡ all_sure v b c xs
sure_looked v b c [] = refl
sure_looked v b c (x ∷ xs) =
    (λ i. sure_looked_op v b c x.stage x.op i && all_sure v (b || barrier_looked x.op i) (opens_looked_op x.op c i) (looked_all xs))
    ∙ ap (λ d. is_sure v b c x.stage x.op && d) (sure_looked v (b || is_barrier x.op) (scan_after x.op c) xs)

none_binds : (g : ℕ) (xs : List Stmt) → none_of (binds_var g) (looked_all xs) ≡ none_of (binds_var g) xs
none_binds g [] = refl
none_binds g (x ∷ xs) = ap₂ (λ b c. not b && c) (binds_looked g x.op) (none_binds g xs)

free_of_looked : (gs : List Guard) (xs : List Stmt) → free_of gs (looked_all xs) ≡ free_of gs xs
free_of_looked [] xs = refl
free_of_looked (g ∷ gs) xs = ap₂ (λ b c. b && c) (none_binds g.var xs) (free_of_looked gs xs)

-- statements leave the values of their guards alone just where they do with delayed reads answered at once
pub fixed_looked : (xs : List Stmt) → is_fixed (looked_all xs) ≡ is_fixed xs
fixed_looked [] = refl
fixed_looked (x ∷ xs) = ap₂ (λ b c. (is_dead x.guards || b) && c) (free_of_looked x.guards (x ∷ xs)) (fixed_looked xs)

-- delayed reads of joined statements are answered at once as those of each part
pub looked_append : (xs ys : List Stmt) → looked_all (xs ++ ys) ≡ looked_all xs ++ looked_all ys
looked_append [] ys = refl
looked_append (x ∷ xs) ys = ap (λ l. look x ∷ l) (looked_append xs ys)

-- delayed reads of the statements before stage s are answered already
pub looked_before : (s : ℕ) (xs : List Stmt) → looked_all (before s xs) ≡ before s xs
looked_before s [] = refl
looked_before s (x ∷ xs) = at (nat_lt x.stage s) (looked_before s xs)
  where
    at : (b : Bool) → looked_all (before s xs) ≡ before s xs
        → looked_all (cond b (look x ∷ before s xs) (before s xs)) ≡ cond b (look x ∷ before s xs) (before s xs)
    at true h = ap₂ (λ op l. record x { op = op } ∷ l) (looked_twice x.op) h
    at false h = h

-- a statement is a verify just where it is one with a delayed read answered at once
pub verify_same : (op : Op) → is_verify (answered_op op) ≡ is_verify op
verify_same (DelayedRead x m a) = refl
verify_same _ = refl

-- the stage of the verifies is the same with delayed reads answered at once
pub verify_looked : (xs : List Stmt) → verify_stage (looked_all xs) ≡ verify_stage xs
verify_looked [] = refl
verify_looked (x ∷ xs) = ap₂ (λ b o. cond b (Some x.stage) o) (verify_same x.op) (verify_looked xs)

-- WHAT A STAGE DOES

-- a barrier would not be clear, or there is none
abbrev pub Barred : Around → List Stmt → Type 0
Barred o xs = (none_of is_barrier xs ≡ true) ⊎ (o.clear ≡ false)

roam_op : (v : Option ℕ) (o : Around) (c : Scan) (s : ℕ) (op : Op) (w : Work)
    → (not (is_barrier op) ≡ true) ⊎ (o.clear ≡ false) → stands_before v s ≡ true → is_sure v false c s op ≡ true
    → Covers c.held w.entries → (work_after o op w).ready ≡ true
    → ((work_after o op w).commits ≡ w.commits) × (is_barrier op ≡ false)
roam_op v o c s (Release m a) w clear low sure cover ready =
    (ap (λ l. w.commits ++ l) (unreleased w.entries m a (unheld (has_entry w.entries m a) refl)) ∙ append-nil w.commits, refl)
  where
    unopened : has_location c.held m a ≡ false
    unopened = by (has_location c.held m a) (stands_before v s) sure low
      where
        by : (b d : Bool) → (not b || not d) ≡ true → d ≡ true → b ≡ false
        by false d h k = refl
        by true true h k = absurd (cc h)
        by true false h k = absurd (cc k)

    unheld : (b : Bool) → has_entry w.entries m a ≡ b → has_entry w.entries m a ≡ false
    unheld true e = absurd (false≢true (sym unopened ∙ cover m a e))
    unheld false e = e
roam_op v o c s (Verify last args) w clear low sure cover ready = at (same_args (said o last args w.env) w.guess)
  where
    at : (b : Bool)
        → ((cond b w (record w { child = Some (said o last args w.env); guess = said o last args w.env; fails = true })).commits ≡ w.commits) × (false ≡ false)
    at true = (refl, refl)
    at false = (refl, refl)
roam_op v o c s SpecBarrier w (inl n) low sure cover ready = absurd (cc n)
roam_op v o c s SpecBarrier w (inr clear) low sure cover ready = absurd (false≢true (sym clear ∙ and_right w.ready o.clear ready))
roam_op v o c s _ w clear low sure cover ready = (refl, refl)

first_barred : (o : Around) (x : Stmt) (xs : List Stmt) → Barred o (x ∷ xs) → (not (is_barrier x.op) ≡ true) ⊎ (o.clear ≡ false)
first_barred o x xs (inl h) = inl (and_left _ _ h)
first_barred o x xs (inr h) = inr h

rest_barred : (o : Around) (x : Stmt) (xs : List Stmt) → Barred o (x ∷ xs) → Barred o xs
rest_barred o x xs (inl h) = inl (and_right (not (is_barrier x.op)) _ h)
rest_barred o x xs (inr h) = inr h

-- before V, a thread that passes a stage where no barrier is clear commits nothing and passes no barrier
pub roam_all : (v : Option ℕ) (o : Around) (c : Scan) (s : ℕ) (xs : List Stmt) (w : Work)
    → unguarded xs ≡ true → AllIn s xs → Barred o xs → stands_before v s ≡ true → all_sure v false c xs ≡ true
    → Covers c.held w.entries → (do_all o xs w).ready ≡ true
    → ((do_all o xs w).commits ≡ w.commits) × (some_barrier false xs ≡ false) × Covers (scan_after_all xs c).held (do_all o xs w).entries
roam_all v o c s [] w g a clear low sure cover ready = (refl, refl, cover)
roam_all v o c s (x ∷ xs) w g a clear low sure cover ready =
    let free : no_guards x.guards ≡ true = and_left _ _ g in
    let goes : step o x w ≡ work_after o x.op w = step_free o x w free in
    let ready' : (do_all o xs (work_after o x.op w)).ready ≡ true = subst (λ u. (do_all o xs u).ready ≡ true) goes ready in
    let one =
    roam_op v o c s x.op w (first_barred o x xs clear) low
    (subst (λ n. is_sure v false c n x.op ≡ true) a.0 (and_left (is_sure v false c x.stage x.op) _ sure)) cover
    (was_ready o xs (work_after o x.op w) ready') in
    let rest = roam_all v o (scan_after x.op c) s xs (work_after o x.op w) (and_right (no_guards x.guards) _ g) a.1 (rest_barred o x xs clear) low
    (subst (λ b. all_sure v b (scan_after x.op c) xs ≡ true) one.1 (and_right (is_sure v false c x.stage x.op) _ sure)) (covers_op o c x.op w cover) ready' in (
      ap (λ (u : Work). (do_all o xs u).commits) goes ∙ rest.0 ∙ one.0,
      ap (λ b. some_barrier b xs) one.1 ∙ rest.1,
      subst (λ (u : Work). Covers (scan_after_all xs (scan_after x.op c)).held (do_all o xs u).entries) (sym goes) rest.2,
    )

-- THE WAY OF A PATH

-- whether a fork's side hangs on a variable
abbrev pub steers_by : Next → ℕ → Bool
steers_by Ends x = false
steers_by (Goes to) x = false
steers_by (Forks z a b) x = z == x

-- whether the side of a branch's fork hangs on a variable
abbrev pub steers : Pipe → Branch → ℕ → Bool
steers p c x = steers_by (stage_at p c.fork).next x

side_set : (n : Next) (first : Bool) (x v : ℕ) (env : List ℕ)
    → steers_by n x ≡ false → on_side n first (slice_set env x v) ≡ on_side n first env
side_set Ends first x v env h = refl
side_set (Goes to) first x v env h = refl
side_set (Forks z a b) first x v env h = ap (λ k. if first then k == 1 else not (k == 1)) (get_or-set_other env x z v 0 (eqb-false z x h))

-- values that agree on a fork's variable take the same side of it
pub side_same : (n : Next) (first : Bool) (env env' : List ℕ)
    → ((z a b : ℕ) → n ≡ Forks z a b → slice_index env z ≡ slice_index env' z)
    → on_side n first env ≡ on_side n first env'
side_same Ends first env env' h = refl
side_same (Goes to) first env env' h = refl
side_same (Forks z a b) first env env' h = ap (λ k. if first then k == 1 else not (k == 1)) (h z a b refl)

-- no side that leads to this stage hangs on it
abbrev pub Aside : Pipe → ℕ → ℕ → Type 0
Aside p s x = (b : Branch) (c : List Branch) → Within p (b ∷ c) s → steers p b x ≡ false

-- no side that leads to stage s hangs on the variable of an awaited read
abbrev pub AllAside : Pipe → ℕ → List Awaited → Type 0
AllAside p s [] = Unit {0}
AllAside p s (r ∷ rs) = Aside p s r.var × AllAside p s rs

visits_set : (p : Pipe) (s x v : ℕ) (env : List ℕ) → Aside p s x → visits_stage p (slice_set env x v) s ≡ visits_stage p env s
visits_set p s x v env h = visits_same p s (slice_set env x v) env (λ b c i. side_set (stage_at p b.fork).next b.first x v env (h b c i))

-- answers for variables on which no side hangs leave the stages that the values come to as they are
pub visits_answers : (p : Pipe) (st : State) (bits : List Bool) (s : ℕ) (rs : List Awaited) (env : List ℕ)
    → AllAside p s rs → visits_stage p (with_answers p st bits rs env) s ≡ visits_stage p env s
visits_answers p st bits s [] env h = refl
visits_answers p st bits s (r ∷ rs) env h =
    visits_answers p st bits s rs (if is_answered p bits r.mem then slice_set env r.var (word_of st.arrays r.mem (asked_at st r.mem)) else env) h.1
    ∙ at (is_answered p bits r.mem)
  where
    at : (b : Bool) → visits_stage p (if b then slice_set env r.var (word_of st.arrays r.mem (asked_at st r.mem)) else env) s ≡ visits_stage p env s
    at true = visits_set p s r.var (word_of st.arrays r.mem (asked_at st r.mem)) env h.0
    at false = refl

-- of awaited reads on which no side hangs those that are not answered yet are such too
pub still_aside : (p : Pipe) (bits : List Bool) (s : ℕ) (rs : List Awaited) → AllAside p s rs → AllAside p s (still p bits rs)
still_aside p bits s [] h = tt
still_aside p bits s (r ∷ rs) h = at (is_answered p bits r.mem) (still_aside p bits s rs h.1)
  where
    at : (b : Bool) → AllAside p s (still p bits rs) → AllAside p s (cond b (still p bits rs) (r ∷ still p bits rs))
    at true k = k
    at false k = (h.0, k)

-- requests for variables on which no side hangs are awaited reads on which none hangs
pub aside_asks : (p : Pipe) (s : ℕ) (qs : List Ask) → AllAsks (λ q. Aside p s q.var) qs → AllAside p s (awaited_of qs)
aside_asks p s [] h = tt
aside_asks p s (q ∷ qs) h = (h.0, aside_asks p s qs h.1)

-- what no statement of stage k and later ones is, none of stage s is, where k is at most s
pub none_stage_from : (test : Op → Bool) (k s : ℕ) (xs : List Stmt)
    → k ≤ s → none_of test (stages_from k xs) ≡ true → none_of test (in_stage s xs) ≡ true
none_stage_from test k s [] low h = refl
none_stage_from test k s (x ∷ xs) low h = at (x.stage == s) refl (nat_le k x.stage) refl h (none_stage_from test k s xs low)
  where
    at : (b : Bool) → (x.stage == s) ≡ b → (c : Bool) → nat_le k x.stage ≡ c
        → none_of test (cond c (x ∷ stages_from k xs) (stages_from k xs)) ≡ true
        → (none_of test (stages_from k xs) ≡ true → none_of test (in_stage s xs) ≡ true)
        → none_of test (cond b (x ∷ in_stage s xs) (in_stage s xs)) ≡ true
    at true e true f i g = ap₂ (λ a d. a && d) (and_left (not (test x.op)) _ i) (g (and_right (not (test x.op)) _ i))
    at true e false f i g = absurd (late (eqb-true x.stage s e) (leb-false k x.stage f))
      where
        late : x.stage ≡ s → x.stage < k → ⊥
        late u v = omega arith
    at false e true f i g = g (and_right (not (test x.op)) _ i)
    at false e false f i g = g i

-- statements that don't bind a variable have no delayed read into it
pub fetch_binds : (x : ℕ) (xs : List Stmt) → none_of (binds_var x) xs ≡ true → none_of (is_fetch_of x) xs ≡ true
fetch_binds x [] h = refl
fetch_binds x (y ∷ ys) h = ap₂ (λ a b. a && b) (at y.op (and_left (not (binds_var x y.op)) _ h)) (fetch_binds x ys (and_right (not (binds_var x y.op)) _ h))
  where
    at : (op : Op) → not (binds_var x op) ≡ true → not (is_fetch_of x op) ≡ true
    at (DelayedRead z m a) k = k
    at _ k = refl

-- no stage stands before the first
pub before_none : (xs : List Stmt) → before 0 xs ≡ []
before_none [] = refl
before_none (x ∷ xs) = ap (λ b. cond b (look x ∷ before 0 xs) (before 0 xs)) (at (nat_lt x.stage 0) refl) ∙ before_none xs
  where
    at : (b : Bool) → nat_lt x.stage 0 ≡ b → nat_lt x.stage 0 ≡ false
    at true e = absurd (let i : x.stage < 0 = ltb-true _ _ e in omega arith)
    at false e = e
