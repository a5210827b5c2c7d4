-- A thread of a turn in a stage: its way is the turn's path, its values and pending writes are the turn's, and its guess is wrong just where its successor isn't the next turn.
use Rattle.std.proofs.Common.{◌≡◌, refl, sym, ap, ap₂, ◌∙◌, subst, ℕ, suc, ◌+◌, ◌-◌, ◌<◌, ◌≤◌, length, arith, nat_lt, is_none, append_assoc, length-append, ltb-true, ltb-false, lt-ltb, Bool, true, false, ◌&&◌, ◌||◌, not, List, [], ◌∷◌, ◌++◌, Option, Some, None, is_some, ◌==◌, cond, slice_index, eq-eqb}
use Rattle.std.proofs.Math.Bool.{and-false}
use Rattle.std.proofs.lemmas.List.{append_cancel_left}
use Rattle.pdl_semantics.specs.Flat.{Pipe, Op, Bind, CombRead, DelayedRead, Write, ReserveRead, ReserveWrite, Block, Release, Call, SpecCall, Verify, SpecCheck, SpecBarrier, AdviceBind, AdviceRead, AdviceWrite, Stmt, value_of, all_hold, Commit, of_mem}
use Rattle.pdl_semantics.specs.Stages.{list_any, onpath, in_stage, is_verify, verify_stage, reserve_stage, commit_stage}
use Rattle.pdl_semantics.specs.Machine.{Pending, same_args}
use Rattle.pdl_semantics.specs.Sequential.{Run, run_after, run_all, thread}
use Rattle.pdl_semantics.specs.Sound.{stages_before, is_right_entry, are_right, is_write, is_spec_call, stages_from}
use Rattle.pdl_theory_turns.specs.Derived.{Work, work_after, do_all}
use Rattle.pdl_theory_turns.specs.Alone.{World, alone, before, answered_op, start_work, so_far}
use Rattle.pdl_theory_turns.specs.GuessScans.{Making, Unmade, Guessed, Made, next_making, making_all, makings_ok, making_ok, is_guessed, is_unmade}
use Rattle.pdl_theory_turns.specs.Scans.{Phase, Fresh, next_phase, phase_all, phase_ok, phases_ok, none_of, binds_var, is_fixed, no_guards}
use Rattle.pdl_theory_turns.specs.Facts.{Sound, looked_all, at_once}
use Rattle.pdl_theory_turns.specs.Accepted.{Accepted, along}
use Rattle.pdl_theory_turns.proofs.Writes.{and_left, and_right, of_mem_append}
use Rattle.pdl_theory_turns.proofs.Entries.{entries_of, entry, write_of, places, Open, Full, waiting, known, told}
use Rattle.pdl_theory_turns.proofs.Slots.{rev}
use Rattle.pdl_theory_turns.proofs.Phases.{opened}
use Rattle.pdl_theory_turns.proofs.Turn.{addresses_at, places_append}
use Rattle.pdl_theory_turns.proofs.Surroundings.{taken_none}
use Rattle.pdl_theory_turns.proofs.Steps.{pend_append}
use Rattle.pdl_theory_turns.proofs.SequentialThread.{Related, related_step}
use Rattle.pdl_theory_turns.proofs.Paths.{Fixed, taken_stays, before_path}
use Rattle.pdl_theory_turns.proofs.OwnEntries.{none_second}
use Rattle.pdl_theory_turns.proofs.Looks.{before_looked, run_looked}
use Rattle.pdl_theory_turns.proofs.UndoneWrites.{writes_first, tied_at, early_written, late_empty}
use Rattle.pdl_theory_turns.proofs.Lists.{own, pend}
use Rattle.pdl_theory_turns.proofs.TurnFacts.{right_guess}
use Rattle.pdl_theory_turns.proofs.Guesses.{Calls, same_args_refl}
use Rattle.pdl_theory_simulation.proofs.Stretches.{on_way}
use Rattle.pdl_theory_turns.proofs.Makes
use Rattle.pdl_theory_turns.proofs.StageFacts
use Rattle.pdl_theory_turns.proofs.Turns
use Rattle.pdl_theory_turns.proofs.TurnPath
use Rattle.pdl_theory_states.proofs.Stage.{before_stages, way_looked}
use Rattle.pdl_theory_states.proofs.FetchCounts.{count}
use Rattle.pdl_theory_turns.proofs.StrayPaths.{verify_same}

-- PATHS

-- values that agree on all that is not bound later take the same way
way_same : (env path : List ℕ) (xs ys : List Stmt)
    → is_fixed (looked_all xs ++ ys) ≡ true
    → ((g : ℕ) → none_of (binds_var g) ys ≡ true → slice_index path g ≡ slice_index env g)
    → onpath env xs ≡ onpath path xs
way_same env path [] ys h f = refl
way_same env path (x ∷ xs) ys h f =
    ap₂ (λ b l. cond b (record x { guards = [] } ∷ l) l)
    (taken_stays x.guards (looked_all (x ∷ xs) ++ ys) env path (and_left _ _ h) (λ g k. f g (none_second (binds_var g) (looked_all (x ∷ xs)) ys k)))
    (way_same env path xs ys (and_right _ _ h) f)

-- a run of the statements that a thread alone carries out
follow : (path : List ℕ) (world : World) (xs : List Stmt) (ph : ℕ → Phase) (w : Work) (r : Run)
    → Fixed path (alone world) xs w → ((n : ℕ) → phases_ok n (ph n) (onpath path xs) ≡ true) → Related world ph w r
    → (do_all (alone world) xs w).env ≡ (run_all xs r).env
follow path world [] ph w r f ok rel = rel.env
follow path world (x ∷ xs) ph w r f ok rel =
    at (all_hold x.guards w.env) (all_hold x.guards r.env) (ap (all_hold x.guards) rel.env)
    (all_hold x.guards path) f.0 ok f.1 (λ ph' w' r' f' ok' rel'. follow path world xs ph' w' r' f' ok' rel')
  where
    at : (b c : Bool) → b ≡ c → (d : Bool) → b ≡ d
        → ((n : ℕ) → phases_ok n (ph n) (cond d (record x { guards = [] } ∷ onpath path xs) (onpath path xs)) ≡ true)
        → Fixed path (alone world) xs (cond b (work_after (alone world) x.op w) w)
        → ((ph' : ℕ → Phase) (w' : Work) (r' : Run) → Fixed path (alone world) xs w'
        → ((n : ℕ) → phases_ok n (ph' n) (onpath path xs) ≡ true) → Related world ph' w' r'
        → (do_all (alone world) xs w').env ≡ (run_all xs r').env)
        → (do_all (alone world) xs (cond b (work_after (alone world) x.op w) w)).env ≡ (run_all xs (cond c (run_after x.op r) r)).env
    at true true e true i k g go =
        go (λ n. next_phase n (ph n) x.op) (work_after (alone world) x.op w)
        (run_after x.op r) g (λ n. and_right (true && phase_ok n (ph n) x.op) _ (k n))
        (related_step world ph x.op w r (λ n. and_right true _ (and_left _ _ (k n))) rel)
    at true true e false i k g go = absurd (cc i)
    at true false e d i k g go = absurd (cc e)
    at false true e d i k g go = absurd (cc e)
    at false false e true i k g go = absurd (cc i)
    at false false e false i k g go = go ph w r g k rel

-- WRITES

-- each entry of a thread has the property
abbrev pub right_list : ℕ → List Commit → List Pending → Bool
right_list k ds es = (length es == 0) || are_right k ds es

right_some : (k : ℕ) (ds : List Commit) (es : List Pending) → are_right k ds es ≡ true → right_list k ds es ≡ true
right_some k ds es h = at (length es == 0)
  where
    at : (b : Bool) → (b || are_right k ds es) ≡ true
    at true = refl
    at false = h

-- entries with a value are those of the first writes
right_known : (m n k : ℕ) (fs : List Full) (ds : List Commit) (ys : List Pending)
    → are_right k ds ys ≡ true → are_right (k + length (told m fs)) (told m fs ++ ds) (pend m n (known m fs) ++ ys) ≡ true
right_known m n k [] ds ys h = subst (λ j. are_right j ds ys ≡ true) (let e : k ≡ k + 0 = omega arith in e) h
right_known m n k (f ∷ fs) ds ys h =
    ap (λ b. are_right (k + length (told m (f ∷ fs))) (told m (f ∷ fs) ++ ds) ((pend m n (known m fs) ++ cond b (e ∷ []) []) ++ ys)) (eq-eqb m m refl)
    ∙ ap₂ (λ xs es. are_right (k + length (told m (f ∷ fs))) xs es) (append_assoc (told m fs) (w ∷ []) ds) (append_assoc (pend m n (known m fs)) (e ∷ []) ys)
    ∙ ap (λ j. are_right j (told m fs ++ w ∷ ds) (pend m n (known m fs) ++ e ∷ ys)) more
    ∙ right_known m n (suc k) fs (w ∷ ds) (e ∷ ys)
    (ap₂ (λ b j. is_right_entry b w e && are_right j ds ys) (lt-ltb 0 (suc k) (omega arith)) (let e : suc k - 1 ≡ k = omega arith in e)
    ∙ ap₂ (λ a b. a && b) (ap₂ (λ a b. a && b) (eq-eqb f.address f.address refl) (eq-eqb f.value f.value refl)) h)
  where
    w : Commit
    w = write_of m f.address f.value

    e : Pending
    e = own n (entry m f.var f.address (Some f.value))

    more : k + length (told m fs ++ w ∷ []) ≡ suc k + length (told m fs)
    more = let l : length (told m fs ++ w ∷ []) ≡ length (told m fs) + 1 = length-append (told m fs) (w ∷ []) in omega arith

-- entries without a value have the addresses of the others
abbrev NoneYet : List Pending → Type 0
NoneYet [] = Unit {0}
NoneYet (e ∷ es) = (e.value ≡ None) × NoneYet es

abbrev spots_of : List Pending → List ℕ
spots_of [] = []
spots_of (e ∷ es) = e.address ∷ spots_of es

none_append : (xs ys : List Pending) → NoneYet xs → NoneYet ys → NoneYet (xs ++ ys)
none_append [] ys f g = g
none_append (x ∷ xs) ys f g = (f.0, none_append xs ys f.1 g)

spots_append : (xs ys : List Pending) → spots_of (xs ++ ys) ≡ spots_of xs ++ spots_of ys
spots_append [] ys = refl
spots_append (x ∷ xs) ys = ap (λ l. x.address ∷ l) (spots_append xs ys)

none_waiting : (m n : ℕ) (os : List Open) → NoneYet (pend m n (waiting m os))
none_waiting m n [] = tt
none_waiting m n (o ∷ os) = none_append (pend m n (waiting m os)) _ (none_waiting m n os) (at (m == m))
  where
    at : (b : Bool) → NoneYet (cond b (own n (entry m o.var o.address None) ∷ []) [])
    at true = (refl, tt)
    at false = tt

spots_waiting : (m n : ℕ) (env xs : List ℕ) → spots_of (pend m n (waiting m (opened env xs))) ≡ rev (addresses_at env xs)
spots_waiting m n env [] = refl
spots_waiting m n env (x ∷ xs) =
    spots_append (pend m n (waiting m (opened env xs))) _
    ∙ ap₂ (λ l b. l ++ spots_of (cond b (own n (entry m x (slice_index env x) None) ∷ []) [])) (spots_waiting m n env xs) (eq-eqb m m refl)

right_none : (ds : List Commit) (es : List Pending) → NoneYet es → places ds ≡ spots_of es → are_right 0 ds es ≡ true
right_none [] [] f h = refl
right_none [] (e ∷ es) f h = absurd (cc h)
right_none (d ∷ ds) [] f h = absurd (cc h)
right_none (d ∷ ds) (e ∷ es) f h = ap₂ (λ a b. a && b)
    (ap₂ (λ a b. a && b) (eq-eqb e.address d.address (sym (first h))) (ap is_none f.0)) (right_none ds es f.1 (rest h))
  where
    first : d.address ∷ places ds ≡ e.address ∷ spots_of es → d.address ≡ e.address
    first i = cc

    rest : d.address ∷ places ds ≡ e.address ∷ spots_of es → places ds ≡ spots_of es
    rest i = cc

-- how many writes a run makes
plus_none : (n : ℕ) → n ≡ n + 0
plus_none n = omega arith

more_writes : (m : ℕ) (op : Op) (r : Run) → length (of_mem m (run_after op r).writes) ≡ length (of_mem m r.writes) + cond (is_write m op) 1 0
more_writes m (Write n a e) r =
    ap length (of_mem_append m r.writes _) ∙ length-append (of_mem m r.writes) _ ∙ ap (λ k. length (of_mem m r.writes) + k) (at (n == m))
  where
    at : (b : Bool) → length (cond b (write_of n (slice_index r.env a) (value_of e r.env) ∷ []) []) ≡ cond b 1 0
    at true = refl
    at false = refl
more_writes m (Verify true args) r = plus_none (length (of_mem m r.writes))
more_writes m (Verify false args) r = plus_none (length (of_mem m r.writes))
more_writes m _ r = plus_none (length (of_mem m r.writes))

none_first : (n : ℕ) → 0 + n ≡ n
none_first n = omega arith

run_count : (m : ℕ) (ph : Phase) (xs : List Stmt) (r : Run)
    → phases_ok m ph xs ≡ true
    → length (of_mem m (run_all xs r).writes) ≡ length (of_mem m r.writes) + count (λ x. is_write m x.op) xs
run_count m ph [] r h = plus_none (length (of_mem m r.writes))
run_count m ph (x ∷ xs) r h =
    ap (λ b. length (of_mem m (run_all xs (cond b (run_after x.op r) r)).writes))
    (taken_none x.guards r.env (and_left _ _ (and_left (no_guards x.guards && phase_ok m ph x.op) _ h)))
    ∙ run_count m (next_phase m ph x.op) xs (run_after x.op r) (and_right (no_guards x.guards && phase_ok m ph x.op) _ h)
    ∙ ap (λ n. n + count (λ x. is_write m x.op) xs) (more_writes m x.op r)
    ∙ one (is_write m x.op)
  where
    one : (b : Bool)
        → (length (of_mem m r.writes) + cond b 1 0) + count (λ x. is_write m x.op) xs
        ≡ length (of_mem m r.writes) + cond b (1 + count (λ x. is_write m x.op) xs) (count (λ x. is_write m x.op) xs)
    one true = omega arith
    one false = omega arith

count_looked : (test : Op → Bool)
    → ((op : Op) → test (answered_op op) ≡ test op) → (xs : List Stmt) → count (λ x. test x.op) (looked_all xs) ≡ count (λ x. test x.op) xs
count_looked test f [] = refl
count_looked test f (x ∷ xs) = ap₂ (λ b n. cond b (1 + n) n) (f x.op) (count_looked test f xs)

any_looked : (test : Op → Bool)
    → ((op : Op) → test (answered_op op) ≡ test op) → (xs : List Stmt)
    → list_any (λ (x : Stmt). test x.op) (looked_all xs) ≡ list_any (λ (x : Stmt). test x.op) xs
any_looked test f [] = refl
any_looked test f (x ∷ xs) = ap₂ (λ a b. a || b) (f x.op) (any_looked test f xs)

write_looked : (m : ℕ) (op : Op) → is_write m (answered_op op) ≡ is_write m op
write_looked m (DelayedRead x n a) = refl
write_looked m _ = refl

spec_looked : (op : Op) → is_spec_call (answered_op op) ≡ is_spec_call op
spec_looked (DelayedRead x n a) = refl
spec_looked _ = refl

-- GUESSES

abbrev specs : List Stmt → Bool
specs xs = list_any (λ (x : Stmt). is_spec_call x.op) xs

abbrev checks : List Stmt → Bool
checks xs = list_any (λ (x : Stmt). is_verify x.op) xs

guess_op : (v : Option ℕ) (k : Making) (s : ℕ) (op : Op)
    → making_ok v k s op ≡ true
    → is_guessed (next_making k op) ≡ ((is_guessed k || is_spec_call op) && not (is_verify op))
guess_op v k s (Call args) h = at k h
  where
    at : (k : Making) → is_unmade k ≡ true → false ≡ ((is_guessed k || false) && true)
    at Unmade i = refl
    at Guessed i = absurd (cc i)
    at Made i = absurd (cc i)
guess_op v k s (SpecCall args) h = yes (is_guessed k)
  where
    yes : (b : Bool) → true ≡ ((b || true) && true)
    yes true = refl
    yes false = refl
guess_op v k s (Verify true args) h = no (is_guessed k || false)
  where
    no : (b : Bool) → false ≡ (b && false)
    no true = refl
    no false = refl
guess_op v k s (Verify false args) h = yes (is_guessed k) (and_left (is_guessed k) _ h)
  where
    yes : (b : Bool) → b ≡ true → true ≡ ((b || false) && true)
    yes true i = refl
    yes false i = absurd (cc i)
guess_op v k s _ h = same (is_guessed k)
  where
    same : (b : Bool) → b ≡ ((b || false) && true)
    same true = refl
    same false = refl

-- a guess that is verified is no guess any more, and none follows
after_check : (v : Option ℕ) (k : Making) (xs : List Stmt)
    → makings_ok v k xs ≡ true → is_guessed k ≡ false → is_unmade k ≡ false → (specs xs ≡ false) × (checks xs ≡ false)
after_check v k [] h g u = (refl, refl)
after_check v k (x ∷ xs) h g u =
    at k x.op g u (and_left _ _ h) (λ e. after_check v k xs (subst (λ j. makings_ok v j xs ≡ true) e (and_right (making_ok v k x.stage x.op) _ h)) g u)
  where
    at : (k : Making) (op : Op) → is_guessed k ≡ false → is_unmade k ≡ false → making_ok v k x.stage op ≡ true
        → (next_making k op ≡ k → (specs xs ≡ false) × (checks xs ≡ false))
        → ((is_spec_call op || specs xs) ≡ false) × ((is_verify op || checks xs) ≡ false)
    at Unmade op g u i f = absurd (cc u)
    at Guessed op g u i f = absurd (cc g)
    at Made (Call args) g u i f = absurd (cc i)
    at Made (SpecCall args) g u i f = absurd (cc i)
    at Made (Verify true args) g u i f = absurd (cc i)
    at Made (Verify false args) g u i f = absurd (cc i)
    at Made _ g u i f = f refl

guess_all : (v : Option ℕ) (k : Making) (xs : List Stmt)
    → makings_ok v k xs ≡ true → is_guessed (making_all k xs) ≡ ((is_guessed k || specs xs) && not (checks xs))
guess_all v k [] h = same (is_guessed k)
  where
    same : (b : Bool) → b ≡ ((b || false) && true)
    same true = refl
    same false = refl
guess_all v k (x ∷ xs) h =
    guess_all v (next_making k x.op) xs (and_right (making_ok v k x.stage x.op) _ h)
    ∙ at (is_verify x.op) refl
  where
    clean : (g s t c : Bool) → (((g || s) && true) || t) ≡ (g || (s || t))
    clean true true t c = refl
    clean true false t c = refl
    clean false true t c = refl
    clean false false t c = refl

    made : (op : Op) → is_verify op ≡ true → next_making k op ≡ Made
    made (Verify true args) e = refl
    made (Verify false args) e = absurd (cc e)
    made (Bind y e') e = absurd (cc e)
    made (CombRead y m a) e = absurd (cc e)
    made (DelayedRead y m a) e = absurd (cc e)
    made (Write m a e') e = absurd (cc e)
    made (ReserveRead m a) e = absurd (cc e)
    made (ReserveWrite m a) e = absurd (cc e)
    made (Block m a) e = absurd (cc e)
    made (Release m a) e = absurd (cc e)
    made (Call args) e = absurd (cc e)
    made (SpecCall args) e = absurd (cc e)
    made SpecCheck e = absurd (cc e)
    made (AdviceBind x' e') e = absurd (cc e)
    made (AdviceRead x' m' a') e = absurd (cc e)
    made (AdviceWrite m' a' e') e = absurd (cc e)
    made SpecBarrier e = absurd (cc e)

    at : (b : Bool) → is_verify x.op ≡ b
        → ((is_guessed (next_making k x.op) || specs xs) && not (checks xs))
        ≡ ((is_guessed k || (is_spec_call x.op || specs xs)) && not (is_verify x.op || checks xs))
    at true e =
        let m : next_making k x.op ≡ Made = made x.op e in
        let none = after_check v Made xs (subst (λ j. makings_ok v j xs ≡ true) m (and_right (making_ok v k x.stage x.op) _ h)) refl refl in
        ap₂ (λ (j : Making) b. (is_guessed j || b) && not (checks xs)) m none.0
        ∙ sym (ap (λ b. (is_guessed k || (is_spec_call x.op || specs xs)) && not (b || checks xs)) e ∙ and-false _)
    at false e =
        ap (λ b. (b || specs xs) && not (checks xs)) (guess_op v k x.stage x.op (and_left _ _ h) ∙ ap (λ b. (is_guessed k || is_spec_call x.op) && not b) e)
        ∙ ap (λ b. b && not (checks xs)) (clean (is_guessed k) (is_spec_call x.op) (specs xs) true)
        ∙ ap (λ b. (is_guessed k || (is_spec_call x.op || specs xs)) && not (b || checks xs)) (sym e)

-- A TURN

module _ (p : Pipe) (sound : Sound p) (world : World) (args : List ℕ) where
  -- the values with which the turn ends where delayed reads have their answers at once, which tell its path
  abbrev pub path : List ℕ
  path = (thread (at_once p) world.words args).env

  -- the statements of the turn's path, with delayed reads answered at once, have the facts of an accepted pipe
  pub acc : Accepted (along (thread (at_once p) world.words args).env (at_once p))
  acc = sound.pathwise.paths (thread (at_once p) world.words args).env

  -- before each stage the turn has done the same on the statements of its path alone, with delayed reads answered at once
  pub so : (s : ℕ) → so_far p world args s ≡ so_far (along (thread (at_once p) world.words args).env (at_once p)) world args s
  so s = sym (StageFacts.same_so p sound world args s) ∙ Turns.so_path (at_once p) sound.pathwise world args s

  -- the sequential thread is the same on the statements of its path alone, with delayed reads answered at once
  pub whole : thread p world.words args ≡ thread (along (thread (at_once p) world.words args).env (at_once p)) world.words args
  whole = sym (StageFacts.same_thread p sound world args) ∙ Turns.thread_path (at_once p) sound.pathwise world args

  -- the way of a turn up to a stage is that of its path
  pub turn_way : (s : ℕ) → on_way p (so_far p world args s).env s ≡ on_way p (thread (at_once p) world.words args).env s
  turn_way s =
      way_same (so_far p world args s).env (thread (at_once p) world.words args).env (stages_before s p.stmts)
      (in_stage s (looked_all p.stmts) ++ stages_from (suc s) (looked_all p.stmts))
      (subst (λ l. is_fixed (l ++ (in_stage s (looked_all p.stmts) ++ stages_from (suc s) (looked_all p.stmts))) ≡ true)
      (before_looked s p.stmts ∙ before_stages s p.stmts) (sound.pathwise.fixed_by s))
      (λ g k. sym
      (ap (λ (w : Work). slice_index w.env g) (so s)
      ∙ Turns.value_kept (at_once p) sound.pathwise world args s g (Turns.none_parts (binds_var g) s (looked_all p.stmts) k)))

  -- the values of a turn before a stage are those of the sequential run after the statements of earlier stages
  pub turn_env : (s : ℕ) → (so_far p world args s).env ≡ (run_all (stages_before s p.stmts) (TurnPath.start_run p world.words args)).env
  turn_env s =
      follow (thread (at_once p) world.words args).env world (before s p.stmts) (λ m. Fresh) (start_work p args) (TurnPath.start_run p world.words args)
      (subst (λ l. Fixed (thread (at_once p) world.words args).env (alone world) l (start_work p args))
      (before_looked s p.stmts) (Turns.fixed_before (at_once p) sound.pathwise world args s))
      (λ n. subst (λ l. phases_ok n Fresh l ≡ true)
      (before_path (thread (at_once p) world.words args).env s (looked_all p.stmts)
      ∙ ap (onpath (thread (at_once p) world.words args).env) (before_looked s p.stmts))
      (TurnPath.ok_before (along (thread (at_once p) world.words args).env (at_once p)) acc world args s n))
      (TurnPath.start_related (along (thread (at_once p) world.words args).env (at_once p)) acc world args)
      ∙ ap (λ l. (run_all l (TurnPath.start_run p world.words args)).env) (before_stages s p.stmts)
      ∙ ap (λ (r : Run). r.env) (run_looked (stages_before s p.stmts) (TurnPath.start_run p world.words args))

  -- past the stage of m's reserves the pending writes of a turn have the address of its write of m and, once written, its value
  pub turn_entries : (s m n : ℕ) → reserve_stage p m < s
      → right_list (count
      (λ x. is_write m x.op) (on_way p (thread (at_once p) world.words args).env s))
      (of_mem m (thread p world.words args).writes) (pend m n
      (entries_of m (so_far p world args s).entries)) ≡ true
  turn_entries s m n h =
      subst
      (λ (w : Work). right_list made
      (of_mem m (thread p world.words args).writes) (pend m n
      (entries_of m w.entries)) ≡ true)
      (sym (so s))
      (subst
      (λ (r : Run). right_list made
      (of_mem m r.writes) (pend m n
      (entries_of m (so_far q world args s).entries)) ≡ true)
      (sym whole)
      (at (nat_lt (commit_stage p m) s) refl))
    where
      q : Pipe
      q = along (thread (at_once p) world.words args).env (at_once p)

      made : ℕ
      made = count (λ x. is_write m x.op) (on_way p (thread (at_once p) world.words args).env s)

      xs : List Stmt
      xs = before s (onpath (thread (at_once p) world.words args).env (looked_all p.stmts))

      counts : length (of_mem m (TurnPath.run_at q world.words args s).writes) ≡ made
      counts =
          run_count m Fresh xs (TurnPath.start_run q world.words args) (TurnPath.ok_before q acc world args s m)
          ∙ none_first (count (λ x. is_write m x.op) xs)
          ∙ ap (count (λ x. is_write m x.op)) (way_looked p (thread (at_once p) world.words args).env s)
          ∙ count_looked (is_write m) (write_looked m) (on_way p (thread (at_once p) world.words args).env s)

      early : s ≤ commit_stage p m
          → are_right made (of_mem m (thread q world.words args).writes) (pend m n (entries_of m (so_far q world args s).entries)) ≡ true
      early low =
          let t = tied_at q acc world args s m in
          let ws : of_mem m (TurnPath.run_at q world.words args s).writes ≡ told m t.fulls = early_written q acc world args s m low in
          let more = writes_first q acc world args s m in
          let unset : List ℕ = (phase_all m Fresh xs).unwritten in
          let all : of_mem m (thread q world.words args).writes ≡ told m t.fulls ++ more.0 = more.1 ∙ ap (λ l. l ++ more.0) ws in
          let rest : places more.0
          ≡ rev (addresses_at (so_far q world args s).env unset) = append_cancel_left (places (told m t.fulls)) (places more.0)
          (rev (addresses_at (so_far q world args s).env unset))
          (sym (places_append (told m t.fulls) more.0) ∙ ap places (sym all) ∙ sym (TurnPath.all_places q acc world args s m h)
          ∙ ap (λ l. places l ++ rev (addresses_at (so_far q world args s).env unset)) ws) in
          ap₂ (λ xs es. are_right made xs es) all
          (ap (pend m n) t.entries ∙ pend_append m n (waiting m (opened (so_far q world args s).env unset)) (known m t.fulls))
          ∙ ap (λ k. are_right k (told m t.fulls ++ more.0) (pend m n (known m t.fulls) ++ pend m n (waiting m (opened (so_far q world args s).env unset))))
          (sym counts ∙ ap length ws ∙ sym (none_first (length (told m t.fulls))))
          ∙ right_known m n 0 t.fulls more.0 (pend m n (waiting m (opened (so_far q world args s).env unset)))
          (right_none more.0 (pend m n (waiting m (opened (so_far q world args s).env unset))) (none_waiting m n (opened (so_far q world args s).env unset))
          (rest ∙ sym (spots_waiting m n (so_far q world args s).env unset)))

      at : (b : Bool)
          → nat_lt (commit_stage p m) s ≡ b
          → right_list made (of_mem m (thread q world.words args).writes) (pend m n (entries_of m (so_far q world args s).entries)) ≡ true
      at true e =
          ap (λ es. right_list made (of_mem m (thread q world.words args).writes) (pend m n es))
          (late_empty q acc world args s m (ltb-true (commit_stage p m) s e) h)
      at false e =
          right_some made (of_mem m (thread q world.words args).writes) (pend m n (entries_of m (so_far q world args s).entries))
          (early (ltb-false (commit_stage p m) s e))

  -- its guess

  -- a turn has an open guess before a stage just where its way has a speculative call and no verify
  pub turn_guess : (s : ℕ)
      → is_guessed (making_all Unmade (before s (onpath (thread (at_once p) world.words args).env (looked_all p.stmts))))
      ≡ (list_any (λ (x : Stmt). is_spec_call x.op) (on_way p (thread (at_once p) world.words args).env s)
      && not (list_any (λ (x : Stmt). is_verify x.op) (on_way p (thread (at_once p) world.words args).env s)))
  turn_guess s =
      guess_all (verify_stage (looked_all p.stmts)) Unmade (before s (onpath (thread (at_once p) world.words args).env (looked_all p.stmts)))
      (Makes.makings_before (at_once p) sound.pathwise (thread (at_once p) world.words args).env world args s)
      ∙ ap (λ l. list_any (λ (x : Stmt). is_spec_call x.op) l && not (list_any (λ (x : Stmt). is_verify x.op) l))
      (way_looked p (thread (at_once p) world.words args).env s)
      ∙ ap₂ (λ a b. a && not b) (any_looked is_spec_call spec_looked (on_way p (thread (at_once p) world.words args).env s))
      (any_looked is_verify verify_same (on_way p (thread (at_once p) world.words args).env s))

  -- an open guess is wrong just where a thread was made with other arguments
  pub turn_wrong : (s : ℕ) (b : Bool) → (right_guess (so_far p world args s).child (thread p world.words args).next ≡ not b)
      → is_some (so_far p world args s).child ≡ true
      → (is_guessed (making_all Unmade (before s (onpath (thread (at_once p) world.words args).env (looked_all p.stmts))))
      && not (same_args (so_far p world args s).guess (thread p world.words args).next))
      ≡ b
  turn_wrong s b h made = at (making_all Unmade (before s (onpath (thread (at_once p) world.words args).env (looked_all p.stmts)))) refl
      (subst
      (λ (w : Work). Calls
      (making_all Unmade (before s (onpath (thread (at_once p) world.words args).env (looked_all p.stmts)))) w.child w.guess
      (TurnPath.run_at (along (thread (at_once p) world.words args).env (at_once p)) world.words args s).next)
      (sym (so s)) (Makes.calls_at (at_once p) sound.pathwise (thread (at_once p) world.words args).env world args s))
    where
      flip : (c : Bool) → c ≡ not b → not c ≡ b
      flip true i = by b i
        where
          by : (b : Bool) → true ≡ not b → false ≡ b
          by true j = absurd (cc j)
          by false j = refl
      flip false i = by b i
        where
          by : (b : Bool) → false ≡ not b → true ≡ b
          by true j = refl
          by false j = absurd (cc j)

      at : (k : Making)
          → making_all Unmade (before s (onpath (thread (at_once p) world.words args).env (looked_all p.stmts))) ≡ k
          → Calls k (so_far p world args s).child (so_far p world args s).guess
          (TurnPath.run_at (along (thread (at_once p) world.words args).env (at_once p)) world.words args s).next
          → (is_guessed k && not (same_args (so_far p world args s).guess (thread p world.words args).next)) ≡ b
      at Unmade e c = absurd (cc (sym (ap is_some c) ∙ made))
      at Guessed e c =
          flip (same_args (so_far p world args s).guess (thread p world.words args).next) (ap (λ x. right_guess x (thread p world.words args).next) (sym c) ∙ h)
      at Made e c =
          flip true (sym (same_args_refl (thread p world.words args).next)
          ∙ ap (λ x. right_guess x (thread p world.words args).next)
          (sym
          (ap (λ (w : Work). w.child) (so s)
          ∙ Makes.made_child (at_once p) sound.pathwise (thread (at_once p) world.words args).env world args s e
          ∙ ap (λ (r : Run). Some r.next) (sym whole)))
          ∙ h)
