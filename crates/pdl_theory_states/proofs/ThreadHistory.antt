-- What a live thread keeps to on its own: it came through the stages of its path, has done just their statements, and awaits or keeps just what the last of them asked for.
use Rattle.std.proofs.Common.{◌≡◌, ◌≢◌, refl, sym, ap, ap₂, ◌∙◌, subst, ℕ, suc, ◌+◌, ◌≤◌, ◌<◌, ◌⊎◌, inl, inr, Bool, true, false, ◌&&◌, ◌||◌, not, List, [], ◌∷◌, ◌++◌, length, Option, Some, None, is_some, ◌==◌, if◌then◌else◌, arith, slice_index, slice_set, eq-eqb, length-append, add-zero, zero-add, length-set}
use Rattle.std.proofs.lemmas.List.{get_or-set_other, length-replicate}
use Rattle.std.proofs.lemmas.Bool.{ne_eqb}
use Rattle.pdl_semantics.specs.Flat.{Op, Stmt, Pipe, Forks, start_env}
use Rattle.pdl_semantics.specs.Stages.{list_any, onpath, in_stage, stage_at, goes_to}
use Rattle.pdl_semantics.specs.Machine.{Ask, Awaited, Kept, with_kept, State, answer_for, kept_answer, unanswered_reads}
use Rattle.pdl_semantics.specs.Cycle.{awaited_of}
use Rattle.pdl_semantics.specs.Sound.{one_of, is_fetch, stages_from, is_call}
use Rattle.pdl_semantics.specs.Machine
use Rattle.pdl_theory_turns.specs.Derived.{Entry, Around, work_of_stage}
use Rattle.pdl_theory_turns.specs.Derived
use Rattle.pdl_theory_turns.specs.Scans.{none_of, binds_var, called}
use Rattle.pdl_theory_turns.specs.Facts.{Sound, is_fetch_of}
use Rattle.pdl_theory_turns.proofs.Writes.{and_left}
use Rattle.pdl_theory_simulation.proofs.FlowFacts.{Flows, calls_ok, next_of, stage_or}
use Rattle.pdl_theory_turns.proofs.Paths.{all_stays}
use Rattle.pdl_theory_turns.proofs.DelayedReads.{AllAsks, all_more}
use Rattle.pdl_theory_turns.proofs.StageFacts.{asks_each, not_fetched}
use Rattle.pdl_theory_turns.proofs.StrayPaths.{none_stage_from, fetch_binds}
use Rattle.pdl_theory_simulation.proofs.Shapes.{calls_front, calls_back}
use Rattle.pdl_theory_simulation.proofs.Stretches.{Keeps, on_way, start_of, fixed_here, way_next}
use Rattle.pdl_theory_states.specs.Strict.{Strict, all_new}
use Rattle.pdl_theory_states.proofs.PastStatements.{none_touched, guess_set, AskedBy, AllPlaced, placed_set, BlockOk, Past, Kind, past_all}
use Rattle.pdl_theory_states.proofs.UnusedValues.{AllOps, ops_both, onto, onto_append, all_new_append, all_new_front, touches, Done, done_agrees, set_agrees, guess_past, given}
use Rattle.pdl_theory_states.proofs.Trails.{AllStmts, stmts_append, stmts_map, stage_stmts, Trail, Among, Steady, trail_same, among_low, among_next}
use Rattle.pdl_theory_states.proofs.FetchCounts.{fetches_of, asks_are, held_in, HeldOp, fetches_in, count, count_append, count_none, count_same, count_fetch}

-- DELAYED READS OF A STAGE

-- A LIVE THREAD

-- whether a statement stands in a stage from which these values lead to stage s
abbrev pub here : Pipe → List ℕ → ℕ → Stmt → Bool
here p env s x = one_of (λ q. q == s) (goes_to (stage_at p x.stage).next env)

-- what a thread with these values has carried out before stage s, the last statement first
abbrev pub past_of : Pipe → List ℕ → ℕ → List Op
past_of p env s = onto (on_way p env s) []

-- some request has the property
abbrev pub AnyAsk : (Ask → Type 0) → List Ask → Type 0
AnyAsk P [] = ⊥
AnyAsk P (q ∷ qs) = P q ⊎ AnyAsk P qs

-- each kept answer has the property
abbrev pub AllKept : (Kept → Type 0) → List Kept → Type 0
AllKept P [] = Unit {0}
AllKept P (k ∷ ks) = P k × AllKept P ks

-- each awaited read has the property
abbrev pub AllAwaited : (Awaited → Type 0) → List Awaited → Type 0
AllAwaited P [] = Unit {0}
AllAwaited P (r ∷ rs) = P r × AllAwaited P rs

-- what a thread keeps to on its own: the stages that it came through, what it did there, and what it asked for in the last
pub record Local (p : Pipe) (env : List ℕ) (kept : List Kept) (t : Derived.Thread) : Type 0 where
  pub long : p.vars ≤ length env
  -- the stages that it came through
  pub trail : List ℕ
  pub walked : Trail p env t.stage trail
  pub among : AllStmts (λ z. Among z.stage trail) (on_way p env t.stage)
  -- what it did there
  pub done : AllOps (Done env t.guess) (past_of p env t.stage)
  pub guessed : t.guess ≡ guess_past t.hint (past_of p env t.stage) env
  pub placed : AllPlaced env (past_of p env t.stage) t.entries
  -- what it asked for in the last one
  pub asks : List Ask
  pub asked : AllAsks (AskedBy env (past_of p env t.stage)) asks
  pub unused : AllAsks (λ q. AllOps (λ op. touches q.var op ≡ false) (past_of p env t.stage)) asks
  pub steady : AllAsks (λ q. Steady p trail q.var) asks
  pub kept_in : AllKept (λ k. AnyAsk (λ q. q.var ≡ k.var) asks) kept
  pub held : AllStmts (λ z. here p env t.stage z ≡ true → HeldOp kept t.awaits z.op) (on_way p env t.stage)
  pub total : length t.awaits + length kept ≡ count (λ (x : Stmt). here p env t.stage x && is_fetch x.op) (on_way p env t.stage)

-- ANSWERS

-- where each request has one property, and some request another, some request has both
pub any_of : (P Q : Ask → Type 0) (qs : List Ask) → AllAsks P qs → AnyAsk Q qs → (q : Ask) × P q × Q q
any_of P Q [] h k = absurd k
any_of P Q (q ∷ qs) h (inl k) = (q, h.0, k)
any_of P Q (q ∷ qs) h (inr k) = any_of P Q qs h.1 k

-- where the kept answers of two lists have a property, those of both lists joined have it
pub kept_more : (P : Kept → Type 0) (xs ys : List Kept) → AllKept P xs → AllKept P ys → AllKept P (xs ++ ys)
kept_more P [] ys h k = k
kept_more P (x ∷ xs) ys h k = (h.0, kept_more P xs ys h.1 k)

module _ (p : Pipe) (st : State) (bits : List Bool) (n : ℕ) where
  answers_kept : (P : ℕ → Type 0) (rs : List Awaited) → AllAwaited (λ r. P r.var) rs → AllKept (λ k. P k.var) (Machine.answered_reads p st bits n rs)
  answers_kept P [] h = tt
  answers_kept P (r ∷ rs) h =
      kept_more (λ k. P k.var) (kept_answer r.var (answer_for p st bits n r.mem))
      (Machine.answered_reads p st bits n rs) (at (answer_for p st bits n r.mem)) (answers_kept P rs h.1)
    where
      at : (x : Option ℕ) → AllKept (λ k. P k.var) (kept_answer r.var x)
      at None = tt
      at (Some v) = (h.0, tt)

  answers_count : (rs : List Awaited) → length (unanswered_reads p st bits n rs) + length (Machine.answered_reads p st bits n rs) ≡ length rs
  answers_count [] = refl
  answers_count (r ∷ rs) = at (answer_for p st bits n r.mem) (answers_count rs)
    where
      at : (x : Option ℕ) → length (unanswered_reads p st bits n rs) + length (Machine.answered_reads p st bits n rs) ≡ length rs
          → length ((if is_some x then [] else r ∷ []) ++ unanswered_reads p st bits n rs) + length
          (kept_answer r.var x ++ Machine.answered_reads p st bits n rs)
          ≡ suc (length rs)
      at None h = omega arith
      at (Some v) h = omega arith

  answers_share : (x m : ℕ) (rs : List Awaited) → list_any (λ r. (r.var == x) && (r.mem == m)) rs ≡ true
      → held_in (Machine.answered_reads p st bits n rs) (unanswered_reads p st bits n rs) x m ≡ true
  answers_share x m [] h = absurd (cc h)
  answers_share x m (r ∷ rs) h = at (answer_for p st bits n r.mem) ((r.var == x) && (r.mem == m)) refl h (λ k. answers_share x m rs k)
    where
      last : (a b c : Bool) → (a || b) ≡ true → (a || (c || b)) ≡ true
      last true b c k = refl
      last false true true k = refl
      last false true false k = refl
      last false false c k = absurd (cc k)

      first : (a b c : Bool) → (a || b) ≡ true → ((c || a) || b) ≡ true
      first a b true k = refl
      first a b false k = k

      or_in : (a b : Bool) → (a || (true || b)) ≡ true
      or_in true b = refl
      or_in false b = refl

      at : (o : Option ℕ) (b : Bool) → ((r.var == x) && (r.mem == m)) ≡ b
          → (b || list_any (λ r. (r.var == x) && (r.mem == m)) rs) ≡ true
          → (list_any (λ r. (r.var == x) && (r.mem == m)) rs ≡ true
          → held_in (Machine.answered_reads p st bits n rs) (unanswered_reads p st bits n rs) x m ≡ true)
          → held_in (kept_answer r.var o ++ Machine.answered_reads p st bits n rs) ((if is_some o then [] else r ∷ []) ++ unanswered_reads p st bits n rs) x m
          ≡ true
      at None true e h f =
          ap
          (λ c. list_any (λ k. k.var == x) (Machine.answered_reads p st bits n rs)
          || (c || list_any (λ r. (r.var == x) && (r.mem == m)) (unanswered_reads p st bits n rs))) e
          ∙ or_in (list_any (λ k. k.var == x) (Machine.answered_reads p st bits n rs))
          (list_any (λ r. (r.var == x) && (r.mem == m)) (unanswered_reads p st bits n rs))
      at None false e h f =
          last (list_any (λ k. k.var == x) (Machine.answered_reads p st bits n rs))
          (list_any (λ r. (r.var == x) && (r.mem == m)) (unanswered_reads p st bits n rs))
          ((r.var == x) && (r.mem == m)) (f h)
      at (Some v) true e h f =
          ap
          (λ c. (c || list_any (λ k. k.var == x) (Machine.answered_reads p st bits n rs))
          || list_any (λ r. (r.var == x) && (r.mem == m)) (unanswered_reads p st bits n rs))
          (and_left _ _ e)
      at (Some v) false e h f =
          first (list_any (λ k. k.var == x) (Machine.answered_reads p st bits n rs))
          (list_any (λ r. (r.var == x) && (r.mem == m)) (unanswered_reads p st bits n rs)) (r.var == x) (f h)

  held_more : (kept : List Kept) (rs : List Awaited) (x m : ℕ) → held_in kept rs x m ≡ true
      → held_in (kept ++ Machine.answered_reads p st bits n rs) (unanswered_reads p st bits n rs) x m ≡ true
  held_more [] rs x m h = answers_share x m rs h
  held_more (k ∷ kept) rs x m h = at (k.var == x) h (λ i. held_more kept rs x m i)
    where
      at : (b : Bool)
          → ((b || list_any (λ k. k.var == x) kept) || list_any (λ r. (r.var == x) && (r.mem == m)) rs) ≡ true
          → (held_in kept rs x m ≡ true → held_in (kept ++ Machine.answered_reads p st bits n rs) (unanswered_reads p st bits n rs) x m ≡ true)
          → ((b || list_any (λ k. k.var == x) (kept ++ Machine.answered_reads p st bits n rs))
          || list_any (λ r. (r.var == x) && (r.mem == m)) (unanswered_reads p st bits n rs))
          ≡ true
      at true i f = refl
      at false i f = f i

  -- a thread keeps to its path as answers come, which are then kept for it
  pub local_answered : (env : List ℕ) (kept : List Kept) (t : Derived.Thread) (values : List ℕ) (rs : List Awaited)
      → unanswered_reads p st bits n t.awaits ≡ rs → (loc : Local p env kept t)
      → AllAwaited (λ r. AnyAsk (λ q. q.var ≡ r.var) loc.asks) t.awaits
      → Local p env (kept ++ Machine.answered_reads p st bits n t.awaits) (record t { env = values; awaits = rs })
  local_answered env kept t values rs e loc h =
      record {
        long = loc.long;
        trail = loc.trail;
        walked = loc.walked;
        among = loc.among;
        done = loc.done;
        guessed = loc.guessed;
        placed = loc.placed;
        asks = loc.asks;
        asked = loc.asked;
        unused = loc.unused;
        steady = loc.steady;
        kept_in =
            kept_more (λ k. AnyAsk (λ q. q.var ≡ k.var) loc.asks) kept
            (Machine.answered_reads p st bits n t.awaits) loc.kept_in
            (answers_kept (λ v. AnyAsk (λ q. q.var ≡ v) loc.asks) t.awaits h);
        held =
            stmts_map
            (λ z f i x m a j. subst (λ l. held_in (kept ++ Machine.answered_reads p st bits n t.awaits) l x m ≡ true) e
            (held_more kept t.awaits x m (f i x m a j)))
            (on_way p env t.stage) loc.held;
        total =
            ap (λ l. length l + length (kept ++ Machine.answered_reads p st bits n t.awaits)) (sym e)
            ∙ ap (λ k. length (unanswered_reads p st bits n t.awaits) + k) (length-append kept (Machine.answered_reads p st bits n t.awaits))
            ∙ flip (length (unanswered_reads p st bits n t.awaits)) (length kept) (length (Machine.answered_reads p st bits n t.awaits))
            ∙ ap (λ k. k + length kept) (answers_count t.awaits) ∙ loc.total;
      }
    where
      flip : (a b c : ℕ) → a + (b + c) ≡ (a + c) + b
      flip a b c = omega arith

  -- with answers, the requests that a thread made in its last stage are the same
  pub answered_asks : (env : List ℕ) (kept : List Kept) (t : Derived.Thread) (values : List ℕ) (rs : List Awaited)
      → (e : unanswered_reads p st bits n t.awaits ≡ rs) → (loc : Local p env kept t)
      → (h : AllAwaited (λ r. AnyAsk (λ q. q.var ≡ r.var) loc.asks) t.awaits)
      → (local_answered env kept t values rs e loc h).asks ≡ loc.asks
  unfolding local_answered
  answered_asks env kept t values rs e loc h = refl

-- A NEW THREAD

start_long : (p : Pipe) (args : List ℕ) → p.vars ≤ length (start_env p args)
start_long p args = subst (λ n. p.vars ≤ n) (sym (length-append args _ ∙ ap (λ n. length args + n) (length-replicate _ 0))) (omega arith)

-- a new thread, with just its arguments, keeps to what a live thread keeps to on its own
pub local_fresh : (p : Pipe) (flows : Flows p) (hint : Derived.Hint) (args : List ℕ) → Local p (start_env p args) [] (Derived.fresh p hint args)
local_fresh p flows hint args =
    record {
      long = start_long p args;
      trail = [];
      walked = refl;
      among = subst (λ l. AllStmts (λ z. Among z.stage []) l) (sym (flows.first_piece (start_env p args))) tt;
      done = subst (λ l. AllOps (Done (start_env p args) []) (onto l [])) (sym (flows.first_piece (start_env p args))) tt;
      guessed = ap (λ l. guess_past hint (onto l []) (start_env p args)) (sym (flows.first_piece (start_env p args)));
      placed = tt;
      asks = [];
      asked = tt;
      unused = tt;
      steady = tt;
      kept_in = tt;
      held = subst (λ l. AllStmts (λ z. here p (start_env p args) 0 z ≡ true → HeldOp [] [] z.op) l) (sym (flows.first_piece (start_env p args))) tt;
      total = sym (ap (count (λ (x : Stmt). here p (start_env p args) 0 x && is_fetch x.op)) (flows.first_piece (start_env p args)));
    }

-- A STAGE

-- what holds of each request for all of something
all_flip : {A : Type 0} → (P : A → Ask → Type 0) (qs : List Ask) → ((a : A) → AllAsks (P a) qs) → AllAsks (λ q. (a : A) → P a q) qs
all_flip P [] f = tt
all_flip P (q ∷ qs) f = ((λ a. (f a).0), all_flip P qs (λ a. (f a).1))

-- no call among statements
pub uncalled : (c : Bool) (xs : List Stmt) (past : List Op)
    → called c xs ≡ false → (c ≡ false → AllOps (λ op. is_call op ≡ false) past)
    → AllOps (λ op. is_call op ≡ false) (onto xs past)
uncalled c [] past h f = f h
uncalled c (x ∷ xs) past h f = uncalled (c || is_call x.op) xs (x.op ∷ past) h (λ e. both c (is_call x.op) e f)
  where
    both : (c d : Bool) → (c || d) ≡ false → (c ≡ false → AllOps (λ op. is_call op ≡ false) past) → (d ≡ false) × AllOps (λ op. is_call op ≡ false) past
    both true d e f = absurd (cc e)
    both false d e f = (e, f refl)

kept_done : (guess : List ℕ) (past : List Op) (kept : List Kept) (env : List ℕ)
    → AllKept (λ k. AllOps (λ op. touches k.var op ≡ false) past) kept → AllOps (Done env guess) past
    → AllOps (Done (with_kept kept env) guess) past
kept_done guess past [] env u h = h
kept_done guess past (k ∷ kept) env u h =
    kept_done guess past kept (slice_set env k.var k.word) u.1
    (ops_both (λ op t d. done_agrees env (slice_set env k.var k.word) guess op (set_agrees k.var k.word op env t) d) past u.0 h)

kept_guess : (hint : Derived.Hint) (past : List Op) (kept : List Kept) (env : List ℕ)
    → AllKept (λ k. AllOps (λ op. touches k.var op ≡ false) past) kept
    → guess_past hint past env ≡ guess_past hint past (with_kept kept env)
kept_guess hint past [] env u = refl
kept_guess hint past (k ∷ kept) env u = guess_set hint k.var k.word env past u.0 ∙ kept_guess hint past kept (slice_set env k.var k.word) u.1

kept_placed : (past : List Op) (es : List Entry) (kept : List Kept) (env : List ℕ)
    → AllKept (λ k. AllOps (λ op. touches k.var op ≡ false) past) kept → AllPlaced env past es
    → AllPlaced (with_kept kept env) past es
kept_placed past es [] env u h = h
kept_placed past es (k ∷ kept) env u h =
    kept_placed past es kept (slice_set env k.var k.word) u.1 (placed_set k.var k.word env past es (none_touched k.var past u.0) h)

kept_long : (n : ℕ) (kept : List Kept) (env : List ℕ) → n ≤ length env → n ≤ length (with_kept kept env)
kept_long n [] env h = h
kept_long n (k ∷ kept) env h = kept_long n kept (slice_set env k.var k.word) (subst (λ m. n ≤ m) (sym (length-set env k.var k.word)) h)

-- kept answers leave the value of a variable as it is where none of them is for it
pub kept_other : (z : ℕ) (kept : List Kept) (env : List ℕ) → AllKept (λ k. z ≢ k.var) kept
    → slice_index (with_kept kept env) z ≡ slice_index env z
kept_other z [] env h = refl
kept_other z (k ∷ kept) env h = kept_other z kept (slice_set env k.var k.word) h.1 ∙ get_or-set_other env k.var z k.word 0 h.0

-- a property of each kept answer gives each property that follows from it
pub kept_map : {P Q : Kept → Type 0} → ((k : Kept) → P k → Q k) → (ks : List Kept) → AllKept P ks → AllKept Q ks
kept_map f [] h = tt
kept_map f (k ∷ ks) h = (f k h.0, kept_map f ks h.1)

-- kept answers are for variables on which nothing hangs
pub kept_unused : (p : Pipe) (env : List ℕ) (kept : List Kept) (t : Derived.Thread) → (loc : Local p env kept t)
    → AllKept (λ k. AllOps (λ op. touches k.var op ≡ false) (past_of p env t.stage)) kept
kept_unused p env kept t loc =
    kept_map
    (λ k i. let a = any_of (λ q. AllOps (λ op. touches q.var op ≡ false) (past_of p env t.stage)) (λ q. q.var ≡ k.var) loc.asks loc.unused i in
    subst (λ v. AllOps (λ op. touches v op ≡ false) (past_of p env t.stage)) a.2 a.1) kept loc.kept_in

kept_steady : (p : Pipe) (env : List ℕ) (kept : List Kept) (t : Derived.Thread) → (loc : Local p env kept t)
    → AllKept (λ k. Steady p loc.trail k.var) kept
kept_steady p env kept t loc =
    kept_map
    (λ k i. let a = any_of (λ q. Steady p loc.trail q.var) (λ q. q.var ≡ k.var) loc.asks loc.steady i in
    subst (λ v. Steady p loc.trail v) a.2 a.1) kept loc.kept_in

module _ (p : Pipe) (flows : Flows p) (sound : Sound p) (strict : Strict p) (o : Around) (kind : Kind o) (env : List ℕ)
    (kept : List Kept) (t : Derived.Thread) (kept_answer : Keeps p env t) (values : with_kept kept env ≡ t.env)
    (loc : Local p env kept t) (ready : (work_of_stage p o t).ready ≡ true) (hinted : given o ≡ t.hint) where
  -- the statements of the thread's stage that are on its path
  abbrev pub mine : List Stmt
  mine = onpath (work_of_stage p o t).env (in_stage t.stage p.stmts)

  -- at the start of a stage what is true of the past statements is true with the work that begins there
  pub past_start : AllOps (BlockOk o t.env t.entries (past_of p env t.stage)) (past_of p env t.stage) → Past o p.vars (past_of p env t.stage) (start_of t)
  past_start blocks =
      record {
        long = subst (λ (l : List ℕ). p.vars ≤ length l) values (kept_long p.vars kept env loc.long);
        done =
            subst (λ l. AllOps (Done l t.guess) (past_of p env t.stage)) values
            (kept_done t.guess (past_of p env t.stage) kept env (kept_unused p env kept t loc) loc.done);
        guessed =
            loc.guessed ∙ kept_guess t.hint (past_of p env t.stage) kept env (kept_unused p env kept t loc)
            ∙ ap (guess_past t.hint (past_of p env t.stage)) values
            ∙ ap (λ g. guess_past g (past_of p env t.stage) t.env) (sym hinted);
        placed =
            subst (λ l. AllPlaced l (past_of p env t.stage) t.entries) values
            (kept_placed (past_of p env t.stage) t.entries kept env (kept_unused p env kept t loc) loc.placed);
        asked = tt;
        unused = tt;
        blocks = blocks;
      }

  -- a path is what the thread has done, its stage, and what is left
  pub whole_way : onpath (work_of_stage p o t).env p.stmts
      ≡ (on_way p env t.stage ++ onpath (work_of_stage p o t).env (in_stage t.stage p.stmts))
      ++ onpath (work_of_stage p o t).env (stages_from (next_of p t.stage (work_of_stage p o t).env) p.stmts)
  whole_way =
      flows.all_pieces (work_of_stage p o t).env (next_of p t.stage (work_of_stage p o t).env)
      ∙ ap (λ l. l ++ onpath (work_of_stage p o t).env (stages_from (next_of p t.stage (work_of_stage p o t).env) p.stmts))
      (way_next p flows env t kept_answer o)

  -- at the end of a stage what is true of the past statements is true with those of the stage that are on the path
  pub past_end : AllOps (BlockOk o t.env t.entries (past_of p env t.stage)) (past_of p env t.stage)
      → Past o p.vars (onto (onpath (work_of_stage p o t).env (in_stage t.stage p.stmts)) (past_of p env t.stage)) (work_of_stage p o t)
  past_end blocks =
      past_all o p.vars kind (work_of_stage p o t).env (called false (on_way p env t.stage)) (in_stage t.stage p.stmts)
      (past_of p env t.stage) (start_of t) (fixed_here p flows env t kept_answer o)
      (all_new_append p.vars (on_way p env t.stage) (onpath (work_of_stage p o t).env (in_stage t.stage p.stmts)) []
      (all_new_front p.vars (on_way p env t.stage ++ onpath (work_of_stage p o t).env (in_stage t.stage p.stmts))
      (onpath (work_of_stage p o t).env (stages_from (next_of p t.stage (work_of_stage p o t).env) p.stmts)) []
      (subst (λ l. all_new p.vars [] l ≡ true) whole_way (strict.names (work_of_stage p o t).env))))
      (calls_back false (on_way p env t.stage) (onpath (work_of_stage p o t).env (in_stage t.stage p.stmts))
      (calls_front false (on_way p env t.stage ++ onpath (work_of_stage p o t).env (in_stage t.stage p.stmts))
      (onpath (work_of_stage p o t).env (stages_from (next_of p t.stage (work_of_stage p o t).env) p.stmts))
      (subst (λ l. calls_ok false l ≡ true) whole_way (flows.calls (work_of_stage p o t).env))))
      (λ e. uncalled false (on_way p env t.stage) [] e (λ i. tt)) (sound.fetch_unseen t.stage) tt ready (past_start blocks)

  -- the forks' variables keep their values
  steady_values : (r : ℕ) → Among r loc.trail → (z a b : ℕ) → (stage_at p r).next ≡ Forks z a b → slice_index env z ≡ slice_index (work_of_stage p o t).env z
  steady_values r i z a b e =
      sym (kept_other z kept env (kept_map (λ k s. s r i z a b e) kept (kept_steady p env kept t loc)))
      ∙ ap (λ l. slice_index l z) values
      ∙ sym
      (all_stays z o (in_stage t.stage p.stmts) (start_of t)
      (none_stage_from (binds_var z) (suc r) t.stage p.stmts (among_low p flows.graph env t.stage loc.trail loc.walked r i) (sound.fork_bound r z a b e)))

  -- what the stage asks for steers no fork
  steady_asks : AllAsks (λ q. Steady p (t.stage ∷ loc.trail) q.var) (work_of_stage p o t).asks
  steady_asks = all_flip (λ r q. Among r (t.stage ∷ loc.trail) → (z a b : ℕ) → (stage_at p r).next ≡ Forks z a b → z ≢ q.var) (work_of_stage p o t).asks
      (λ r. all_flip (λ i q. (z a b : ℕ) → (stage_at p r).next ≡ Forks z a b → z ≢ q.var) (work_of_stage p o t).asks
      (λ i. all_flip (λ z q. (a b : ℕ) → (stage_at p r).next ≡ Forks z a b → z ≢ q.var) (work_of_stage p o t).asks
      (λ z. all_flip (λ a q. (b : ℕ) → (stage_at p r).next ≡ Forks z a b → z ≢ q.var) (work_of_stage p o t).asks
      (λ a. all_flip (λ b q. (stage_at p r).next ≡ Forks z a b → z ≢ q.var) (work_of_stage p o t).asks
      (λ b. all_flip (λ e q. z ≢ q.var) (work_of_stage p o t).asks
      (λ e. all_more (λ q. not (q.var == z) ≡ true) (λ q. z ≢ q.var) (work_of_stage p o t).asks (λ q k j. absurd (differ q.var z k (sym j)))
      (asks_each (λ y m. not (y == z) ≡ true) o (in_stage t.stage p.stmts) (start_of t)
      (not_fetched z (in_stage t.stage p.stmts) (unfetched r i z a b e)) tt)))))))
    where
      differ : (x z : ℕ) → not (x == z) ≡ true → x ≡ z → ⊥
      differ x z k j = cc (sym (ap not (eq-eqb x z j)) ∙ k)

      unfetched : (r : ℕ) → Among r (t.stage ∷ loc.trail) → (z a b : ℕ) → (stage_at p r).next ≡ Forks z a b
          → none_of (is_fetch_of z) (in_stage t.stage p.stmts) ≡ true
      unfetched r (inl i) z a b e = sound.fork_seen env t.stage z a b kept_answer.reached (ap (λ n. (stage_at p n).next) (sym i) ∙ e)
      unfetched r (inr i) z a b e =
          fetch_binds z (in_stage t.stage p.stmts)
          (none_stage_from (binds_var z) (suc r) t.stage p.stmts (among_low p flows.graph env t.stage loc.trail loc.walked r i) (sound.fork_bound r z a b e))

  -- the requests of the stage are its delayed reads
  asks_here : awaited_of (work_of_stage p o t).asks ≡ fetches_of (onpath (work_of_stage p o t).env (in_stage t.stage p.stmts))
  asks_here = asks_are (work_of_stage p o t).env o (in_stage t.stage p.stmts) (start_of t) (fixed_here p flows env t kept_answer o)

  module _ (q : ℕ) (goes : goes_to (stage_at p t.stage).next (work_of_stage p o t).env ≡ Some q) where
    is_next : next_of p t.stage (work_of_stage p o t).env ≡ q
    is_next = ap (stage_or (length p.stages)) goes

    -- the thread's way by its next stage is its way so far with the statements of this stage that it takes
    pub way_q : on_way p (work_of_stage p o t).env q ≡ on_way p env t.stage ++ onpath (work_of_stage p o t).env (in_stage t.stage p.stmts)
    way_q = ap (on_way p (work_of_stage p o t).env) (sym is_next) ∙ way_next p flows env t kept_answer o

    -- what the thread has carried out by its next stage is what it had carried out before, and then these statements
    pub past_q : past_of p (work_of_stage p o t).env q ≡ onto (onpath (work_of_stage p o t).env (in_stage t.stage p.stmts)) (past_of p env t.stage)
    past_q = ap (λ l. onto l []) way_q ∙ onto_append (on_way p env t.stage) (onpath (work_of_stage p o t).env (in_stage t.stage p.stmts)) []

    up : t.stage < q
    up = (flows.graph.up t.stage q ((work_of_stage p o t).env, goes, kept_answer.inside)).0

    -- into its next stage the thread came from this one, and through the same stages before
    pub new_trail : Trail p (work_of_stage p o t).env q (t.stage ∷ loc.trail)
    new_trail = (goes, kept_answer.inside, trail_same p env (work_of_stage p o t).env t.stage loc.trail steady_values loc.walked)

    -- only the statements of the stage lead here
    not_here : (z : Stmt) → Among z.stage loc.trail → here p (work_of_stage p o t).env q z ≡ false
    not_here z i =
        let n = among_next p flows.graph (work_of_stage p o t).env t.stage loc.trail new_trail.2 z.stage i in
        ap (one_of (λ k. k == q)) n.1 ∙ ne_eqb n.0 q (λ e. absurd (let j = n.2 in let u = up in omega arith))

    is_here : (z : Stmt) → z.stage ≡ t.stage → here p (work_of_stage p o t).env q z ≡ true
    is_here z e = ap (λ k. one_of (λ k. k == q) (goes_to (stage_at p k).next (work_of_stage p o t).env)) e ∙ ap (one_of (λ k. k == q)) goes ∙ eq-eqb q q refl

    held_awaited : (z : Op) → HeldOp [] (fetches_of (onpath (work_of_stage p o t).env (in_stage t.stage p.stmts))) z
        → HeldOp [] (awaited_of (work_of_stage p o t).asks) z
    held_awaited z h x m a e = ap (λ l. held_in [] l x m) asks_here ∙ h x m a e

    -- in its next stage the thread keeps to its path, and awaits just what it asked for in this one
    pub local_moved : AllOps (BlockOk o t.env t.entries (past_of p env t.stage)) (past_of p env t.stage)
        → Local p (work_of_stage p o t).env []
        (record {
          stage = q;
          hint = t.hint;
          env = (work_of_stage p o t).env;
          entries = (work_of_stage p o t).entries;
          guess = (work_of_stage p o t).guess;
          awaits = awaited_of (work_of_stage p o t).asks;
        })
    local_moved blocks =
        let e = past_end blocks in
        record {
          long = e.long;
          trail = t.stage ∷ loc.trail;
          walked = new_trail;
          among = subst (λ l. AllStmts (λ z. Among z.stage (t.stage ∷ loc.trail)) l) (sym way_q)
              (stmts_append (λ z. Among z.stage (t.stage ∷ loc.trail)) (on_way p env t.stage)
              (onpath (work_of_stage p o t).env (in_stage t.stage p.stmts))
              (stmts_map (λ z i. inr i) (on_way p env t.stage) loc.among)
              (stmts_map (λ z i. inl i) (onpath (work_of_stage p o t).env (in_stage t.stage p.stmts))
              (stage_stmts (work_of_stage p o t).env t.stage p.stmts)));
          done = subst (λ l. AllOps (Done (work_of_stage p o t).env (work_of_stage p o t).guess) l) (sym past_q) e.done;
          guessed = e.guessed ∙ ap₂ (λ g l. guess_past g l (work_of_stage p o t).env) hinted (sym past_q);
          placed = subst (λ l. AllPlaced (work_of_stage p o t).env l (work_of_stage p o t).entries) (sym past_q) e.placed;
          asks = (work_of_stage p o t).asks;
          asked = subst (λ l. AllAsks (AskedBy (work_of_stage p o t).env l) (work_of_stage p o t).asks) (sym past_q) e.asked;
          unused = subst (λ l. AllAsks (λ q. AllOps (λ op. touches q.var op ≡ false) l) (work_of_stage p o t).asks) (sym past_q) e.unused;
          steady = steady_asks;
          kept_in = tt;
          held = subst (λ l. AllStmts (λ z. here p (work_of_stage p o t).env q z ≡ true → HeldOp [] (awaited_of (work_of_stage p o t).asks) z.op) l) (sym way_q)
              (stmts_append (λ z. here p (work_of_stage p o t).env q z ≡ true → HeldOp [] (awaited_of (work_of_stage p o t).asks) z.op)
              (on_way p env t.stage) (onpath (work_of_stage p o t).env (in_stage t.stage p.stmts))
              (stmts_map (λ z i h. absurd (cc (sym (not_here z i) ∙ h))) (on_way p env t.stage) loc.among)
              (stmts_map (λ z f h. held_awaited z.op f) (onpath (work_of_stage p o t).env (in_stage t.stage p.stmts))
              (fetches_in (onpath (work_of_stage p o t).env (in_stage t.stage p.stmts)))));
          total =
              add-zero (length (awaited_of (work_of_stage p o t).asks)) ∙ ap length asks_here
              ∙ count_fetch (onpath (work_of_stage p o t).env (in_stage t.stage p.stmts))
              ∙ sym (ap (count (λ (x : Stmt). here p (work_of_stage p o t).env q x && is_fetch x.op)) way_q
              ∙ count_append (λ (x : Stmt). here p (work_of_stage p o t).env q x && is_fetch x.op)
              (on_way p env t.stage) (onpath (work_of_stage p o t).env (in_stage t.stage p.stmts))
              ∙ ap₂ (λ a b. a + b)
              (count_none (λ (x : Stmt). here p (work_of_stage p o t).env q x && is_fetch x.op) (on_way p env t.stage)
              (stmts_map (λ z i. ap (λ b. b && is_fetch z.op) (not_here z i)) (on_way p env t.stage) loc.among))
              (count_same (λ (x : Stmt). here p (work_of_stage p o t).env q x && is_fetch x.op)
              (λ (x : Stmt). is_fetch x.op) (onpath (work_of_stage p o t).env (in_stage t.stage p.stmts))
              (stmts_map (λ z i. ap (λ b. b && is_fetch z.op) (is_here z i))
              (onpath (work_of_stage p o t).env (in_stage t.stage p.stmts))
              (stage_stmts (work_of_stage p o t).env t.stage p.stmts)))
              ∙ zero-add (count (λ (x : Stmt). is_fetch x.op) (onpath (work_of_stage p o t).env (in_stage t.stage p.stmts))));
        }

    -- in its next stage the thread's last requests are those of this stage
    pub moved_asks : (blocks : AllOps (BlockOk o t.env t.entries (past_of p env t.stage)) (past_of p env t.stage))
        → (local_moved blocks).asks ≡ (work_of_stage p o t).asks
    unfolding local_moved
    moved_asks blocks = refl

    -- in its next stage the thread has come through this stage and those before
    pub moved_trail : (blocks : AllOps (BlockOk o t.env t.entries (past_of p env t.stage)) (past_of p env t.stage))
        → (local_moved blocks).trail ≡ t.stage ∷ loc.trail
    unfolding local_moved
    moved_trail blocks = refl
