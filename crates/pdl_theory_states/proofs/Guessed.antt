-- What a thread has guessed is what its statement says of its values and its advised ones, ever after.
use Rattle.std.proofs.Common.{◌≡◌, ◌≢◌, refl, sym, ap, ap₂, ◌∙◌, subst, ℕ, zero, suc, Bool, true, false, ◌&&◌, not, List, [], ◌∷◌, ◌++◌, length, Some, cond, slice_index, slice_set}
use Rattle.std.proofs.lemmas.List.{get_or-set_other, length-set}
use Rattle.std.proofs.lemmas.Bool.{not-true}
use Rattle.pdl_semantics.specs.Flat.{list_all, Op, Bind, CombRead, SpecCall, Verify, AdviceBind, AdviceRead, Expr, Stmt, values_of, all_hold}
use Rattle.pdl_semantics.specs.Stages.{onpath}
use Rattle.pdl_semantics.specs.Machine.{Ask, Kept, Blocked, same_args, with_kept, Deeds, deeds_after_all, all_values, checked_args}
use Rattle.pdl_semantics.specs.Machine
use Rattle.pdl_theory_turns.specs.Derived.{Work, Around, work_after, Hint}
use Rattle.pdl_theory_turns.proofs.Deeds.{AllFit, Loosely, loose_step, Guesses, AllGuesses}
use Rattle.pdl_theory_turns.proofs.Writes.{and_left, and_right}
use Rattle.pdl_theory_turns.specs.Facts.{uses_any}
use Rattle.pdl_theory_turns.proofs.Paths.{Fixed}
use Rattle.pdl_semantics.proofs.Facts.{kept_append}
use Rattle.pdl_theory_states.specs.Strict.{binds_used, keeps_guess, all_keep_guess}
use Rattle.pdl_theory_states.proofs.UnusedValues.{AllOps, ops_both, onto, touches, values_agree, given}
use Rattle.pdl_theory_states.proofs.ThreadHistory.{AllKept}
use Rattle.pdl_word.proofs.Bools.{untrue}

-- what a guess gave, and what an update gave: what the hint says
abbrev pub GuessDone : List Kept → List ℕ → Hint → Op → Type 0
GuessDone advice env hint (SpecCall args) = hint.guess ≡ values_of args (with_kept advice env)
GuessDone advice env hint (Verify false args) = hint.update ≡ values_of args (with_kept advice env)
GuessDone advice env hint _ = Unit {0}

-- VALUES THAT AGREE IN A VARIABLE

set_same : (env env' : List ℕ) (k g w : ℕ)
    → length env ≡ length env' → slice_index env g ≡ slice_index env' g
    → slice_index (slice_set env k w) g ≡ slice_index (slice_set env' k w) g
set_same [] [] k g w e h = refl
set_same [] (y ∷ ys) k g w e h = absurd (cc e)
set_same (x ∷ xs) [] k g w e h = absurd (cc e)
set_same (x ∷ xs) (y ∷ ys) zero zero w e h = refl
set_same (x ∷ xs) (y ∷ ys) zero (suc g) w e h = h
set_same (x ∷ xs) (y ∷ ys) (suc k) zero w e h = h
set_same (x ∷ xs) (y ∷ ys) (suc k) (suc g) w e h = set_same xs ys k g w (rest e) h
  where
    rest : suc (length xs) ≡ suc (length ys) → length xs ≡ length ys
    rest i = cc

agree_kept : (ks : List Kept) (env env' : List ℕ) (g : ℕ)
    → length env ≡ length env' → slice_index env g ≡ slice_index env' g
    → slice_index (with_kept ks env) g ≡ slice_index (with_kept ks env') g
agree_kept [] env env' g e h = h
agree_kept (k ∷ ks) env env' g e h =
    agree_kept ks (slice_set env k.var k.word) (slice_set env' k.var k.word) g (length-set env k.var k.word ∙ e ∙ sym (length-set env' k.var k.word))
    (set_same env env' k.var g k.word e h)

other_var : (x g : ℕ) (args : List Expr) → uses_any x args ≡ false → uses_any g args ≡ true → g ≢ x
other_var x g args h k e = untrue (sym h ∙ ap (λ n. uses_any n args) (sym e) ∙ k)

-- another value of a variable that it doesn't use
set_done : (x v : ℕ) (advice : List Kept) (env guess : List ℕ) (args : List Expr)
    → uses_any x args ≡ false → guess ≡ values_of args (with_kept advice env)
    → guess ≡ values_of args (with_kept advice (slice_set env x v))
set_done x v advice env guess args u h =
    h ∙ values_agree args (with_kept advice env) (with_kept advice (slice_set env x v))
    (λ g k. agree_kept advice env (slice_set env x v) g (sym (length-set env x v)) (sym (get_or-set_other env x g v 0 (other_var x g args u k))))

-- an advised value more
more_done : (x v : ℕ) (advice : List Kept) (env guess : List ℕ) (args : List Expr) → uses_any x args ≡ false → guess ≡ values_of args (with_kept advice env)
    → guess ≡ values_of args (with_kept (advice ++ record { var = x; word = v } ∷ []) env)
more_done x v advice env guess args u h =
    h
    ∙ values_agree args (with_kept advice env) (slice_set (with_kept advice env) x v)
    (λ g k. sym (get_or-set_other (with_kept advice env) x g v 0 (other_var x g args u k)))
    ∙ ap (values_of args) (sym (kept_append advice (record { var = x; word = v } ∷ []) env))

-- kept answers are for variables that no guess uses
pub kept_guesses : (advice : List Kept) (guess : Hint) (past : List Op) (kept : List Kept) (env : List ℕ)
    → AllKept (λ k. AllOps (λ op. touches k.var op ≡ false) past) kept → AllOps (GuessDone advice env guess) past
    → AllOps (GuessDone advice (with_kept kept env) guess) past
kept_guesses advice guess past [] env u h = h
kept_guesses advice guess past (k ∷ kept) env u h =
    kept_guesses advice guess past kept (slice_set env k.var k.word) u.1 (ops_both (λ op t d. one op t d) past u.0 h)
  where
    one : (op : Op) → touches k.var op ≡ false → GuessDone advice env guess op → GuessDone advice (slice_set env k.var k.word) guess op
    one (SpecCall args) t d = set_done k.var k.word advice env guess.guess args t d
    one (Verify true args) t d = tt
    one (Verify false args) t d = set_done k.var k.word advice env guess.update args t d
    one _ t d = tt

-- A STATEMENT

-- a statement binds nothing that a guess or an update of one uses
abbrev kept_by : Op → Op → Bool
kept_by (SpecCall args) op = not (binds_used args op)
kept_by (Verify true args) op = true
kept_by (Verify false args) op = not (binds_used args op)
kept_by _ op = true

done_op : (read : ℕ → ℕ → ℕ) (op : Op) (args : List Expr) (hint : List ℕ) (d : Deeds)
    → binds_used args op ≡ false → hint ≡ values_of args (with_kept d.advice d.env)
    → hint ≡ values_of args (with_kept (Machine.deeds_after read op d).advice (Machine.deeds_after read op d).env)
done_op read (Bind x e) args hint d u h = set_done x _ d.advice d.env hint args u h
done_op read (CombRead x m a) args hint d u h = set_done x _ d.advice d.env hint args u h
done_op read (AdviceBind x e) args hint d u h = more_done x _ d.advice d.env hint args u h
done_op read (AdviceRead x m a) args hint d u h = more_done x _ d.advice d.env hint args u h
done_op read (Verify last es) args hint d u h = at (same_args (checked_args last es d) d.guess)
  where
    at : (b : Bool)
        → hint
        ≡ values_of args
        (with_kept (cond b d (record d { child = Some (checked_args last es d); guess = checked_args last es d; fails = true })).advice
        (cond b d (record d { child = Some (checked_args last es d); guess = checked_args last es d; fails = true })).env)
    at true = h
    at false = h
done_op read _ args hint d u h = h

one_kept : (read : ℕ → ℕ → ℕ) (op o : Op) (hint : Hint) (d : Deeds) → kept_by o op ≡ true → GuessDone d.advice d.env hint o
    → GuessDone (Machine.deeds_after read op d).advice (Machine.deeds_after read op d).env hint o
one_kept read op (SpecCall args) hint d u h = done_op read op args hint.guess d (not-true _ u) h
one_kept read op (Verify true args) hint d u h = tt
one_kept read op (Verify false args) hint d u h = done_op read op args hint.update d (not-true _ u) h
one_kept read op _ hint d u h = tt

own_guess : (o : Around) (read : ℕ → ℕ → ℕ) (block : Blocked → Bool) (free : Ask → Bool) (op : Op) (d : Deeds)
    → Guesses o read block free op d → GuessDone (Machine.deeds_after read op d).advice (Machine.deeds_after read op d).env (given o) op
own_guess o read block free (SpecCall args) d g = sym g
own_guess o read block free (Verify true args) d g = tt
own_guess o read block free (Verify false args) d g =
    at (same_args (values_of args (all_values d)) d.guess)
  where
    at : (b : Bool)
        → o.update
        ≡ values_of args
        (with_kept (cond b d (record d { child = Some (values_of args (all_values d)); guess = values_of args (all_values d); fails = true })).advice
        (cond b d (record d { child = Some (values_of args (all_values d)); guess = values_of args (all_values d); fails = true })).env)
    at true = sym g
    at false = sym g
own_guess o read block free _ d g = tt

-- A STAGE

abbrev Free : List Op → List Stmt → Type 0
Free past ys = AllOps (λ o. keeps_guess o ys ≡ true) past

first_kept : (o : Op) (y : Stmt) (ys : List Stmt) → keeps_guess o (y ∷ ys) ≡ true → (kept_by o y.op ≡ true) × (keeps_guess o ys ≡ true)
first_kept (SpecCall args) y ys h = (and_left _ _ h, and_right (not (binds_used args y.op)) _ h)
first_kept (Verify true args) y ys h = (refl, refl)
first_kept (Verify false args) y ys h = (and_left _ _ h, and_right (not (binds_used args y.op)) _ h)
first_kept _ y ys h = (refl, refl)

module _ (o : Around) (read : ℕ → ℕ → ℕ) (block : Blocked → Bool) (free : Ask → Bool) where
  -- what a guess gave is still what its arguments say after more statements
  pub guesses_all : (path : List ℕ) (xs : List Stmt) (past : List Op) (d : Deeds) (w : Work)
      → Loosely o read block free d w → AllFit o read block free xs → Fixed path o xs w → AllGuesses o read block free xs d
      → Free past (onpath path xs) → all_keep_guess (onpath path xs) ≡ true → AllOps (GuessDone d.advice d.env (given o)) past
      → AllOps (GuessDone (deeds_after_all read xs d).advice (deeds_after_all read xs d).env (given o)) (onto (onpath path xs) past)
  guesses_all path [] past d w l f q n r g h = h
  guesses_all path (x ∷ xs) past d w l f q n r g h =
      subst
      (λ b. ((b ≡ true → Guesses o read block free x.op d) × AllGuesses o read block free xs (cond b (Machine.deeds_after read x.op d) d))
      → AllOps
      (GuessDone (deeds_after_all read xs (cond b (Machine.deeds_after read x.op d) d)).advice
      (deeds_after_all read xs (cond b (Machine.deeds_after read x.op d) d)).env (given o)) (onto (onpath path (x ∷ xs)) past)) (ap (λ
      (v : Work). all_hold x.guards v.env) l.is)
      (at (all_hold x.guards w.env) (all_hold x.guards path) q.0 r g q.1
      (λ past' d' w' l' q' n' r' g' h'. guesses_all path xs past' d' w' l' f.1 q' n' r' g' h')) n
    where
      parts : (ps : List Op) → Free ps (record x { guards = [] } ∷ onpath path xs) → AllOps (λ o. kept_by o x.op ≡ true) ps × Free ps (onpath path xs)
      parts [] r = (tt, tt)
      parts (p ∷ ps) r = let one = first_kept p (record x { guards = [] }) (onpath path xs) r.0 in let more = parts ps r.1 in ((one.0, more.0), (one.1, more.1))

      each : (ps : List Op) → AllOps (λ o. kept_by o x.op ≡ true) ps → AllOps (GuessDone d.advice d.env (given o)) ps
          → AllOps (GuessDone (Machine.deeds_after read x.op d).advice (Machine.deeds_after read x.op d).env (given o)) ps
      each [] a h = tt
      each (p ∷ ps) a h = (one_kept read x.op p (given o) d a.0 h.0, each ps a.1 h.1)

      at : (b e : Bool)
          → b ≡ e → Free past (cond e (record x { guards = [] } ∷ onpath path xs) (onpath path xs))
          → all_keep_guess (cond e (record x { guards = [] } ∷ onpath path xs) (onpath path xs)) ≡ true
          → Fixed path o xs (cond b (work_after o x.op w) w)
          →
          ((past' : List Op) (d' : Deeds) (w' : Work) → Loosely o read block free d' w' → Fixed path o xs w' → AllGuesses o read block free xs d'
          → Free past' (onpath path xs) → all_keep_guess (onpath path xs) ≡ true → AllOps (GuessDone d'.advice d'.env (given o)) past'
          → AllOps (GuessDone (deeds_after_all read xs d').advice (deeds_after_all read xs d').env (given o)) (onto (onpath path xs) past'))
          → ((b ≡ true → Guesses o read block free x.op d) × AllGuesses o read block free xs (cond b (Machine.deeds_after read x.op d) d))
          → AllOps (GuessDone (deeds_after_all read xs (cond b (Machine.deeds_after read x.op d) d)).advice
          (deeds_after_all read xs (cond b (Machine.deeds_after read x.op d) d)).env (given o))
          (onto (cond e (record x { guards = [] } ∷ onpath path xs) (onpath path xs)) past)
      at true true i r g q go n =
          let c = parts past r in
          go (x.op ∷ past) (Machine.deeds_after read x.op d) (work_after o x.op w) (loose_step o read block free true x.op d w f.0 l) q n.1
          (and_left _ _ g, c.1) (and_right (keeps_guess x.op (onpath path xs)) _ g)
          (own_guess o read block free x.op d (n.0 refl), each past c.0 h)
      at true false i r g q go n = absurd (cc i)
      at false true i r g q go n = absurd (cc i)
      at false false i r g q go n = go past d w l q n.1 r g h

-- what a path keeps of its guesses
pub keep_front : (xs ys : List Stmt) → all_keep_guess (xs ++ ys) ≡ true → all_keep_guess xs ≡ true
keep_front [] ys h = refl
keep_front (x ∷ xs) ys h = ap₂ (λ a b. a && b) (first x.op (and_left _ _ h)) (keep_front xs ys (and_right (keeps_guess x.op (xs ++ ys)) _ h))
  where
    all_front : (test : Stmt → Bool) (us vs : List Stmt) → list_all test (us ++ vs) ≡ true → list_all test us ≡ true
    all_front test [] vs k = refl
    all_front test (u ∷ us) vs k = ap₂ (λ a b. a && b) (and_left _ _ k) (all_front test us vs (and_right (test u) _ k))

    first : (op : Op) → keeps_guess op (xs ++ ys) ≡ true → keeps_guess op xs ≡ true
    first (SpecCall args) k = all_front (λ z. not (binds_used args z.op)) xs ys k
    first (Verify true args) k = refl
    first (Verify false args) k = all_front (λ z. not (binds_used args z.op)) xs ys k
    first _ k = refl

-- what keeps the guesses of a list keeps those of its second part, and of what came before
pub keep_back : (xs ys : List Stmt) (past : List Op)
    → all_keep_guess (xs ++ ys) ≡ true → AllOps (λ o. keeps_guess o ys ≡ true) past
    → AllOps (λ o. keeps_guess o ys ≡ true) (onto xs past) × (all_keep_guess ys ≡ true)
keep_back [] ys past h r = (r, h)
keep_back (x ∷ xs) ys past h r = keep_back xs ys (x.op ∷ past) (and_right (keeps_guess x.op (xs ++ ys)) _ h) (last x.op (and_left _ _ h), r)
  where
    all_back : (test : Stmt → Bool) (us vs : List Stmt) → list_all test (us ++ vs) ≡ true → list_all test vs ≡ true
    all_back test [] vs k = k
    all_back test (u ∷ us) vs k = all_back test us vs (and_right (test u) _ k)

    last : (op : Op) → keeps_guess op (xs ++ ys) ≡ true → keeps_guess op ys ≡ true
    last (SpecCall args) k = all_back (λ z. not (binds_used args z.op)) xs ys k
    last (Verify true args) k = refl
    last (Verify false args) k = all_back (λ z. not (binds_used args z.op)) xs ys k
    last _ k = refl
