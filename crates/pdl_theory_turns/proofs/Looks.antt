-- Statements with their delayed reads answered at once, beside the same ones that ask: what they do differs in the values of the variables that await answers, and in nothing else.
use Rattle.std.proofs.Common.{◌≡◌, ◌≢◌, refl, sym, ap, ap₂, ◌∙◌, subst, ℕ, Bool, true, false, ◌&&◌, ◌||◌, not, List, [], ◌∷◌, ◌++◌, Option, Some, None, ◌==◌, nat_lt, cond, if◌then◌else◌, slice_index, slice_set}
use Rattle.std.proofs.lemmas.List.{set_comm, get_or-set_other}
use Rattle.std.proofs.lemmas.Bool.{eqb-false}
use Rattle.std.proofs.Math.Bool.{and-true, or-false}
use Rattle.pdl_semantics.specs.Flat.{Op, Bind, CombRead, DelayedRead, Write, ReserveRead, ReserveWrite, Block, Release, Call, SpecCall, Verify, SpecCheck, SpecBarrier, AdviceBind, AdviceRead, AdviceWrite, Expr, Constant, Variable, Slice, Not, Binary, Cat, LessSigned, ZeroExtend, SignExtend, Choose, Guard, Stmt, value_of, values_of, takes_branch, all_hold, word_at, operator_value}
use Rattle.pdl_semantics.specs.Stages.{onpath, in_stage}
use Rattle.pdl_semantics.specs.Machine.{Ask, same_args}
use Rattle.pdl_semantics.specs.Sequential.{Run, run_after, run_all}
use Rattle.pdl_semantics.specs.Words
use Rattle.pdl_theory_turns.specs.Derived.{Work, Around, work_after, do_all, with_entry_value, said}
use Rattle.pdl_theory_turns.specs.Alone.{World, alone, before, answered_op}
use Rattle.pdl_theory_turns.specs.Facts.{uses_in, uses_any, mentions_var, asks_for, is_dead, silent_on, unseen_op, is_unseen, looked_all}
use Rattle.pdl_theory_turns.proofs.Writes.{and_left, and_right}
use Rattle.pdl_theory_turns.proofs.Stages.{step, joined, do_all_joined, or_else}
use Rattle.pdl_theory_turns.proofs.Paths.{Fixed}
pub use Rattle.pdl_theory_turns.proofs.Paths.{dead_none}
use Rattle.pdl_theory_turns.proofs.DelayedReads.{caught, caught_set, AllAsks, all_snoc}
use Rattle.pdl_semantics.proofs.Bools.{by_or}
use Rattle.pdl_semantics.specs.Sound.{is_fetch}

not_or : (a b : Bool) → not (a || b) ≡ true → (not a ≡ true) × (not b ≡ true)
not_or true b h = absurd (cc h)
not_or false b h = (refl, h)

apart : (x y : ℕ) → not (y == x) ≡ true → x ≢ y
apart x y h e = absurd (clash (sym h ∙ ap not (ap (λ n. n == x) (sym e) ∙ same x)))
  where
    clash : true ≡ false → ⊥
    clash k = cc

    same : (x : ℕ) → (x == x) ≡ true
    same x = at (x == x) refl
      where
        at : (b : Bool) → (x == x) ≡ b → (x == x) ≡ true
        at true k = k
        at false k = absurd (eqb-false x x k refl)

-- VALUES OF A VARIABLE THAT IS NOT USED

other : (env : List ℕ) (x v y : ℕ) → not (y == x) ≡ true → slice_index (slice_set env x v) y ≡ slice_index env y
other env x v y h = get_or-set_other env x y v 0 (λ e. apart x y h (sym e))

value_unused : (x v : ℕ) (e : Expr) (env : List ℕ) → not (uses_in x e) ≡ true → value_of e (slice_set env x v) ≡ value_of e env
value_unused x v (Constant w n) env h = refl
value_unused x v (Variable y) env h = other env x v y h
value_unused x v (Slice y high low) env h = ap (Words.slice high low) (other env x v y h)
value_unused x v (Not w a) env h = ap (Words.complement w) (value_unused x v a env h)
value_unused x v (Binary op w a b) env h = let n = not_or (uses_in x a) (uses_in x b) h in
    ap₂ (operator_value op w) (value_unused x v a env n.0) (value_unused x v b env n.1)
value_unused x v (Cat a w b) env h = let n = not_or (uses_in x a) (uses_in x b) h in ap₂ (Words.cat w) (value_unused x v a env n.0) (value_unused x v b env n.1)
value_unused x v (LessSigned w a b) env h = let n = not_or (uses_in x a) (uses_in x b) h in
    ap₂ (Words.lts w) (value_unused x v a env n.0) (value_unused x v b env n.1)
value_unused x v (ZeroExtend wide a) env h = ap Words.zext (value_unused x v a env h)
value_unused x v (SignExtend w wide a) env h = ap (Words.sext w wide) (value_unused x v a env h)
value_unused x v (Choose c a b) env h =
    let n = not_or (uses_in x c) (uses_in x a || uses_in x b) h in
    let m = not_or (uses_in x a) (uses_in x b) n.1 in
    λ i. Words.mux (value_unused x v c env n.0 i) (value_unused x v a env m.0 i) (value_unused x v b env m.1 i)

values_unused : (x v : ℕ) (es : List Expr) (env : List ℕ) → not (uses_any x es) ≡ true → values_of es (slice_set env x v) ≡ values_of es env
values_unused x v [] env h = refl
values_unused x v (e ∷ es) env h = let n = not_or (uses_in x e) (uses_any x es) h in
    ap₂ (λ a l. a ∷ l) (value_unused x v e env n.0) (values_unused x v es env n.1)

-- GUARDS

taken_unused : (x v : ℕ) (gs : List Guard) (env : List ℕ) → not (asks_for x gs) ≡ true → all_hold gs (slice_set env x v) ≡ all_hold gs env
taken_unused x v [] env h = refl
taken_unused x v (g ∷ gs) env h = let n = not_or (g.var == x) (asks_for x gs) h in
    ap₂ (λ k b. takes_branch g.first k && b) (other env x v g.var n.0) (taken_unused x v gs env n.1)

-- STATEMENTS THAT HAVE NOTHING TO DO WITH A VARIABLE

-- the same work with another value of a variable
abbrev pub with_set : Work → ℕ → ℕ → Work
with_set w x v = record w { env = slice_set w.env x v }

said_unused : (world : World) (x v : ℕ) (last : Bool) (args : List Expr) (env : List ℕ)
    → not (uses_any x args) ≡ true → said (alone world) last args (slice_set env x v) ≡ said (alone world) last args env
said_unused world x v true args env h = values_unused x v args env h
said_unused world x v false args env h = refl

does_set : (world : World) (x v : ℕ) (op : Op) (w : Work)
    → not (mentions_var x op) ≡ true
    → work_after (alone world) (answered_op op) (with_set w x v) ≡ with_set (work_after (alone world) (answered_op op) w) x v
does_set world x v (Bind y e) w h =
    let n = not_or (y == x) (uses_in x e) h in
    ap (λ l. record w { env = l })
    (ap (λ k. slice_set (slice_set w.env x v) y k) (value_unused x v e w.env n.1) ∙ set_comm w.env x y v (value_of e w.env) (apart x y n.0))
does_set world x v (CombRead y m a) w h =
    let n = not_or (y == x) (a == x) h in
    ap (λ l. record w { env = l })
    (ap (λ k. slice_set (slice_set w.env x v) y (word_at world.words m k)) (other w.env x v a n.1)
    ∙ set_comm w.env x y v (word_at world.words m (slice_index w.env a)) (apart x y n.0))
does_set world x v (DelayedRead y m a) w h =
    let n = not_or (y == x) (a == x) h in
    ap (λ l. record w { env = l })
    (ap (λ k. slice_set (slice_set w.env x v) y (word_at world.words m k)) (other w.env x v a n.1)
    ∙ set_comm w.env x y v (word_at world.words m (slice_index w.env a)) (apart x y n.0))
does_set world x v (Write m a e) w h = let n = not_or (a == x) (uses_in x e) h in
    ap (λ k. record (with_set w x v) { entries = with_entry_value w.entries m a k }) (value_unused x v e w.env n.1)
does_set world x v (ReserveWrite m a) w h =
    ap
    (λ k. record (with_set w x v) {
      entries = record { mem = m; var = a; address = k; value = None } ∷ w.entries;
      reserves = w.reserves
          ++ record { mem = m; var = a; address = k } ∷ [];
    })
    (other w.env x v a h)
does_set world x v (Block m a) w h = refl
does_set world x v (Call args) w h = ap (λ k. record (with_set w x v) { child = Some k }) (values_unused x v args w.env h)
does_set world x v (SpecCall args) w h = refl
does_set world x v (Verify last args) w h =
    ap (λ k. cond (same_args k w.guess) (with_set w x v) (record (with_set w x v) { child = Some k; guess = k; fails = true }))
    (said_unused world x v last args w.env h)
    ∙ at (same_args (said (alone world) last args w.env) w.guess)
  where
    at : (b : Bool)
        → cond b (with_set w x v)
        (record (with_set w x v) { child = Some (said (alone world) last args w.env); guess = said (alone world) last args w.env; fails = true })
        ≡ with_set (cond b w (record w { child = Some (said (alone world) last args w.env); guess = said (alone world) last args w.env; fails = true })) x v
    at true = refl
    at false = refl
does_set world x v _ w h = refl

-- a looked-at statement
abbrev pub look : Stmt → Stmt
look y = record y { op = answered_op y.op }

step_set : (world : World) (x v : ℕ) (y : Stmt) (w : Work)
    → (is_dead y.guards || (not (asks_for x y.guards) && not (mentions_var x y.op))) ≡ true
    → step (alone world) (look y) (with_set w x v) ≡ with_set (step (alone world) (look y) w) x v
step_set world x v y w h =
    by_or (is_dead y.guards) _ _ h
    (λ d. ap (λ b. cond b (work_after (alone world) (answered_op y.op) (with_set w x v)) (with_set w x v)) (dead_none y.guards (slice_set w.env x v) d)
    ∙ sym (ap (λ b. with_set (cond b (work_after (alone world) (answered_op y.op) w) w) x v) (dead_none y.guards w.env d)))
    (λ s. ap (λ b. cond b (work_after (alone world) (answered_op y.op) (with_set w x v)) (with_set w x v)) (taken_unused x v y.guards w.env (and_left _ _ s))
    ∙ at (all_hold y.guards w.env) (and_right (not (asks_for x y.guards)) _ s))
  where
    at : (b : Bool) → not (mentions_var x y.op) ≡ true
        → cond b (work_after (alone world) (answered_op y.op) (with_set w x v)) (with_set w x v)
        ≡ with_set (cond b (work_after (alone world) (answered_op y.op) w) w) x v
    at true k = does_set world x v y.op w k
    at false k = refl

-- statements that have nothing to do with a variable do the same whether it gets a value before or after them
pub set_later : (world : World) (x v : ℕ) (ys : List Stmt) (w : Work)
    → silent_on x ys ≡ true
    → do_all (alone world) (looked_all ys) (with_set w x v) ≡ with_set (do_all (alone world) (looked_all ys) w) x v
set_later world x v [] w h = refl
set_later world x v (y ∷ ys) w h =
    ap (do_all (alone world) (looked_all ys))
    (step_set world x v y w (and_left (is_dead y.guards || (not (asks_for x y.guards) && not (mentions_var x y.op))) _ h))
    ∙ set_later world x v ys (step (alone world) (look y) w) (and_right (is_dead y.guards || (not (asks_for x y.guards) && not (mentions_var x y.op))) _ h)

-- ASKING AND LOOKING

-- the work of a stage whose requests are answered at once
abbrev pub answered_now : World → Work → Work
answered_now world w = record w { env = caught world.words w.asks w.env; asks = [] }

-- the same work without requests
abbrev pub clear : Work → Work
clear w = record w { asks = [] }

or_none : (c : Option (List ℕ)) → or_else c None ≡ c
or_none None = refl
or_none (Some x) = refl

abbrev asking : List Ask → Work
asking qs = record { env = []; entries = []; guess = []; asks = qs; reserves = []; commits = []; child = None; fails = false; ready = true }

joined_asks : (qs : List Ask) (v : Work) → joined (asking qs) v ≡ record v { asks = qs ++ v.asks }
joined_asks qs v = λ i. record v { asks = qs ++ v.asks; child = or_none v.child i; fails = or-false v.fails i }

-- what a work's request was before stands before those of more statements
asks_more : (o : Around) (ys : List Stmt) (w : Work) (q : Ask)
    → do_all o ys (record w { asks = q ∷ [] }) ≡ record (do_all o ys (clear w)) { asks = q ∷ (do_all o ys (clear w)).asks }
asks_more o ys w q =
    ap (do_all o ys) (sym (joined_asks (q ∷ []) (clear w))) ∙ do_all_joined o ys (asking (q ∷ [])) (clear w) ∙ joined_asks (q ∷ []) (do_all o ys (clear w))

-- statements that have nothing to do with a variable don't ask for it
unasked_op : (x : ℕ) (o : Around) (op : Op) (w : Work)
    → not (mentions_var x op) ≡ true → AllAsks (λ q. q.var ≢ x) w.asks
    → AllAsks (λ q. q.var ≢ x) (work_after o op w).asks
unasked_op x o (DelayedRead y m a) w h k =
    all_snoc (λ q. q.var ≢ x) w.asks (record { mem = m; var = y; address = slice_index w.env a }) k (λ e. apart x y (not_or (y == x) (a == x) h).0 (sym e))
unasked_op x o (Verify last args) w h k = at (same_args (said o last args w.env) w.guess)
  where
    at : (b : Bool)
        → AllAsks (λ q. q.var ≢ x) (cond b w (record w { child = Some (said o last args w.env); guess = said o last args w.env; fails = true })).asks
    at true = k
    at false = k
unasked_op x o _ w h k = k

unasked_by : (x : ℕ) (o : Around) (ys : List Stmt) (w : Work)
    → silent_on x ys ≡ true → AllAsks (λ q. q.var ≢ x) w.asks → AllAsks (λ q. q.var ≢ x) (do_all o ys w).asks
unasked_by x o [] w h k = k
unasked_by x o (y ∷ ys) w h k =
    unasked_by x o ys (step o y w)
    (and_right (is_dead y.guards || (not (asks_for x y.guards) && not (mentions_var x y.op))) _ h)
    (at (all_hold y.guards w.env) refl)
  where
    at : (b : Bool) → all_hold y.guards w.env ≡ b → AllAsks (λ q. q.var ≢ x) (cond b (work_after o y.op w) w).asks
    at true t =
        by_or (is_dead y.guards) _ _ (and_left _ _ h)
        (λ d. absurd (cc (sym t ∙ dead_none y.guards w.env d)))
        (λ s. unasked_op x o y.op w (and_right (not (asks_for x y.guards)) _ s) k)
    at false t = k

-- statements without requests make none
pub keeps_clear : (o : Around) (op : Op) (w : Work)
    → is_fetch op ≡ false → (answered_op op ≡ op) × (work_after o op (clear w) ≡ clear (work_after o op (clear w)))
keeps_clear o (DelayedRead x m a) w h = absurd (cc h)
keeps_clear o (Verify last args) w h = (refl, at (same_args (said o last args w.env) w.guess))
  where
    at : (b : Bool)
        → cond b (clear w) (record (clear w) { child = Some (said o last args w.env); guess = said o last args w.env; fails = true })
        ≡ clear (cond b (clear w) (record (clear w) { child = Some (said o last args w.env); guess = said o last args w.env; fails = true }))
    at true = refl
    at false = refl
keeps_clear o _ w h = (refl, refl)

-- a stage that looks does what it does where it asks, with the answers
raw_step : (world : World) (y : Op) (ys : List Stmt) (w : Work)
    → unseen_op y ys ≡ true → (f : Bool) → is_fetch y ≡ f
    → ((v : Work) → do_all (alone world) (looked_all ys) (clear v) ≡ answered_now world (do_all (alone world) ys (clear v)))
    → do_all (alone world) (looked_all ys) (work_after (alone world) (answered_op y) (clear w))
    ≡ answered_now world (do_all (alone world) ys (work_after (alone world) y (clear w)))
raw_step world y ys w h false e go =
    let k = keeps_clear (alone world) y w e in
    ap (λ op. do_all (alone world) (looked_all ys) (work_after (alone world) op (clear w))) k.0
    ∙ ap (do_all (alone world) (looked_all ys)) k.1 ∙ go (work_after (alone world) y (clear w))
    ∙ ap (λ v. answered_now world (do_all (alone world) ys v)) (sym k.1)
raw_step world (DelayedRead x m a) ys w h true e go =
    set_later world x (word_at world.words m (slice_index w.env a)) ys (clear w) h
    ∙ ap (λ v. with_set v x (word_at world.words m (slice_index w.env a))) (go w)
    ∙ sym
    (ap (answered_now world)
    (ap (λ r. do_all (alone world) ys (record w { asks = record { mem = m; var = x; address = slice_index w.env a } ∷ []; ready = r })) (and-true w.ready)
    ∙ asks_more (alone world) ys w (record { mem = m; var = x; address = slice_index w.env a }))
    ∙ ap (λ l. record (do_all (alone world) ys (clear w)) { env = l; asks = [] })
    (caught_set world.words x (word_at world.words m (slice_index w.env a))
    (do_all (alone world) ys (clear w)).asks (do_all (alone world) ys (clear w)).env (unasked_by x (alone world) ys (clear w) h tt)))
raw_step world (Bind x e) ys w h true f go = absurd (cc f)
raw_step world (CombRead x m a) ys w h true f go = absurd (cc f)
raw_step world (Write m a e) ys w h true f go = absurd (cc f)
raw_step world (ReserveRead m a) ys w h true f go = absurd (cc f)
raw_step world (ReserveWrite m a) ys w h true f go = absurd (cc f)
raw_step world (Block m a) ys w h true f go = absurd (cc f)
raw_step world (Release m a) ys w h true f go = absurd (cc f)
raw_step world (Call args) ys w h true f go = absurd (cc f)
raw_step world (SpecCall args) ys w h true f go = absurd (cc f)
raw_step world (Verify last args) ys w h true f go = absurd (cc f)
raw_step world SpecCheck ys w h true f go = absurd (cc f)
raw_step world SpecBarrier ys w h true f go = absurd (cc f)
raw_step world (AdviceBind x e) ys w h true f go = absurd (cc f)
raw_step world (AdviceRead x m a) ys w h true f go = absurd (cc f)
raw_step world (AdviceWrite m a e) ys w h true f go = absurd (cc f)

-- delayed reads whose variables no later statement mentions may be answered at once or after the statements
pub raw_looked : (world : World) (ys : List Stmt) (w : Work)
    → is_unseen ys ≡ true
    → do_all (alone world) (looked_all ys) (clear w) ≡ answered_now world (do_all (alone world) ys (clear w))
raw_looked world [] w h = refl
raw_looked world (y ∷ ys) w h = at (all_hold y.guards w.env) (λ v. raw_looked world ys v (and_right (unseen_op y.op ys) _ h))
  where
    at : (b : Bool) → ((v : Work) → do_all (alone world) (looked_all ys) (clear v) ≡ answered_now world (do_all (alone world) ys (clear v)))
        → do_all (alone world) (looked_all ys) (cond b (work_after (alone world) (answered_op y.op) (clear w)) (clear w))
        ≡ answered_now world (do_all (alone world) ys (cond b (work_after (alone world) y.op (clear w)) (clear w)))
    at true go = raw_step world y.op ys w (and_left _ _ h) (is_fetch y.op) refl go
    at false go = go w

-- PATHS

-- which statements are carried out hangs on the values alone
env_op : (o : Around) (op : Op) (w v : Work) → w.env ≡ v.env → (work_after o op w).env ≡ (work_after o op v).env
env_op o (Bind x e) w v h = ap (λ l. slice_set l x (value_of e l)) h
env_op o (CombRead x m a) w v h = ap (λ l. slice_set l x (o.read m (slice_index l a))) h
env_op o (Verify last args) w v h = at (same_args (said o last args w.env) w.guess) ∙ h ∙ sym (by (same_args (said o last args v.env) v.guess))
  where
    at : (b : Bool) → (cond b w (record w { child = Some (said o last args w.env); guess = said o last args w.env; fails = true })).env ≡ w.env
    at true = refl
    at false = refl

    by : (b : Bool) → (cond b v (record v { child = Some (said o last args v.env); guess = said o last args v.env; fails = true })).env ≡ v.env
    by true = refl
    by false = refl
env_op o _ w v h = h

env_step : (o : Around) (y : Stmt) (w v : Work) → w.env ≡ v.env → (step o y w).env ≡ (step o y v).env
env_step o y w v h = at (all_hold y.guards w.env) (all_hold y.guards v.env) (ap (all_hold y.guards) h)
  where
    at : (b c : Bool) → b ≡ c → (cond b (work_after o y.op w) w).env ≡ (cond c (work_after o y.op v) v).env
    at true true e = env_op o y.op w v h
    at true false e = absurd (cc e)
    at false true e = absurd (cc e)
    at false false e = h

fixed_env : (path : List ℕ) (o : Around) (ys : List Stmt) (w v : Work) → w.env ≡ v.env → Fixed path o ys w → Fixed path o ys v
fixed_env path o [] w v h f = tt
fixed_env path o (y ∷ ys) w v h f = (ap (all_hold y.guards) (sym h) ∙ f.0, fixed_env path o ys (step o y w) (step o y v) (env_step o y w v h) f.1)

-- the guards hold as on the path with another value of a variable that no statement has to do with
fixed_set : (path : List ℕ) (world : World) (x v : ℕ) (ys : List Stmt) (w : Work)
    → silent_on x ys ≡ true → Fixed path (alone world) (looked_all ys) (with_set w x v)
    → Fixed path (alone world) (looked_all ys) w
fixed_set path world x v [] w h f = tt
fixed_set path world x v (y ∷ ys) w h f = (
  by_or (is_dead y.guards) _ _ here (λ d. dead_none y.guards w.env d ∙ sym (dead_none y.guards (slice_set w.env x v) d))
      (λ s. sym (taken_unused x v y.guards w.env (and_left _ _ s)))
      ∙ f.0,
  fixed_set path world x v ys (step (alone world) (look y) w) (and_right (is_dead y.guards || (not (asks_for x y.guards) && not (mentions_var x y.op))) _ h)
      (subst (λ u. Fixed path (alone world) (looked_all ys) u) (step_set world x v y w here) f.1),
)
  where
    here : (is_dead y.guards || (not (asks_for x y.guards) && not (mentions_var x y.op))) ≡ true
    here = and_left _ _ h

-- a stage that asks takes the path that it takes where it looks
fixed_op : (path : List ℕ) (world : World) (y : Op) (ys : List Stmt) (w : Work)
    → unseen_op y ys ≡ true → (f : Bool) → is_fetch y ≡ f
    → Fixed path (alone world) (looked_all ys) (work_after (alone world) (answered_op y) w)
    → Fixed path (alone world) (looked_all ys) (work_after (alone world) y w)
fixed_op path world y ys w h false e g =
    subst (λ op. Fixed path (alone world) (looked_all ys) (work_after (alone world) op w)) (keeps_clear (alone world) y w e).0 g
fixed_op path world (DelayedRead x m a) ys w h true e g =
    fixed_env path (alone world)
    (looked_all ys) w (work_after (alone world) (DelayedRead x m a) w) refl (fixed_set path world x (word_at world.words m (slice_index w.env a)) ys w h g)
fixed_op path world (Bind x e) ys w h true f g = absurd (cc f)
fixed_op path world (CombRead x m a) ys w h true f g = absurd (cc f)
fixed_op path world (Write m a e) ys w h true f g = absurd (cc f)
fixed_op path world (ReserveRead m a) ys w h true f g = absurd (cc f)
fixed_op path world (ReserveWrite m a) ys w h true f g = absurd (cc f)
fixed_op path world (Block m a) ys w h true f g = absurd (cc f)
fixed_op path world (Release m a) ys w h true f g = absurd (cc f)
fixed_op path world (Call args) ys w h true f g = absurd (cc f)
fixed_op path world (SpecCall args) ys w h true f g = absurd (cc f)
fixed_op path world (Verify last args) ys w h true f g = absurd (cc f)
fixed_op path world SpecCheck ys w h true f g = absurd (cc f)
fixed_op path world SpecBarrier ys w h true f g = absurd (cc f)
fixed_op path world (AdviceBind x e) ys w h true f g = absurd (cc f)
fixed_op path world (AdviceRead x m a) ys w h true f g = absurd (cc f)
fixed_op path world (AdviceWrite m a e) ys w h true f g = absurd (cc f)

-- where a path fixes which statements are carried out with delayed reads answered at once, it does if they ask
pub fixed_raw : (path : List ℕ) (world : World) (ys : List Stmt) (w : Work)
    → is_unseen ys ≡ true → Fixed path (alone world) (looked_all ys) w → Fixed path (alone world) ys w
fixed_raw path world [] w h f = tt
fixed_raw path world (y ∷ ys) w h f = (
  f.0,
  fixed_raw path world ys (step (alone world) y w) (and_right (unseen_op y.op ys) _ h) (at (all_hold y.guards w.env) f.1),
)
  where
    at : (b : Bool)
        → Fixed path (alone world) (looked_all ys) (cond b (work_after (alone world) (answered_op y.op) w) w)
        → Fixed path (alone world) (looked_all ys) (cond b (work_after (alone world) y.op w) w)
    at true g = fixed_op path world y.op ys w (and_left _ _ h) (is_fetch y.op) refl g
    at false g = g

-- THE TEXT WITH READS AT ONCE

-- a delayed read that is answered at once is answered once
pub looked_twice : (op : Op) → answered_op (answered_op op) ≡ answered_op op
looked_twice (DelayedRead x m a) = refl
looked_twice _ = refl

-- the statements before stage s are the same with delayed reads answered at once
pub before_looked : (s : ℕ) (xs : List Stmt) → before s (looked_all xs) ≡ before s xs
before_looked s [] = refl
before_looked s (x ∷ xs) = ap₂ (λ op l. cond (nat_lt x.stage s) (record x { op = op } ∷ l) l) (looked_twice x.op) (before_looked s xs)

-- delayed reads of a stage's statements, answered at once, are the stage's of those answered at once
pub stage_looked : (s : ℕ) (xs : List Stmt) → in_stage s (looked_all xs) ≡ looked_all (in_stage s xs)
stage_looked s [] = refl
stage_looked s (x ∷ xs) = at (x.stage == s) (stage_looked s xs)
  where
    at : (b : Bool) → in_stage s (looked_all xs) ≡ looked_all (in_stage s xs)
        → cond b (look x ∷ in_stage s (looked_all xs)) (in_stage s (looked_all xs)) ≡ looked_all (cond b (x ∷ in_stage s xs) (in_stage s xs))
    at true h = ap (λ l. look x ∷ l) h
    at false h = h

-- delayed reads of a path's statements, answered at once, are the path's of those answered at once
pub path_looked : (path : List ℕ) (xs : List Stmt) → onpath path (looked_all xs) ≡ looked_all (onpath path xs)
path_looked path [] = refl
path_looked path (x ∷ xs) = at (all_hold x.guards path) (path_looked path xs)
  where
    at : (b : Bool) → onpath path (looked_all xs) ≡ looked_all (onpath path xs)
        → cond b (record (look x) { guards = [] } ∷ onpath path (looked_all xs)) (onpath path (looked_all xs))
        ≡ looked_all (cond b (record x { guards = [] } ∷ onpath path xs) (onpath path xs))
    at true h = ap (λ l. record (look x) { guards = [] } ∷ l) h
    at false h = h

runs_looked : (op : Op) (r : Run) → run_after (answered_op op) r ≡ run_after op r
runs_looked (DelayedRead x m a) r = refl
runs_looked _ r = refl

-- the sequential run is the same with delayed reads answered at once
pub run_looked : (xs : List Stmt) (r : Run) → run_all (looked_all xs) r ≡ run_all xs r
run_looked [] r = refl
run_looked (x ∷ xs) r =
    ap (λ v. run_all (looked_all xs) (if all_hold x.guards r.env then v else r)) (runs_looked x.op r)
    ∙ run_looked xs (if all_hold x.guards r.env then run_after x.op r else r)
