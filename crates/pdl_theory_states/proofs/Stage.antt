-- What a thread's stage tells of barriers, blocks and calls.
use Rattle.std.proofs.Common.{◌≡◌, refl, sym, ap, ◌∙◌, subst, ℕ, ◌≤◌, ◌⊎◌, inl, inr, Bool, true, false, ◌&&◌, ◌||◌, List, [], ◌∷◌, Option, Some, None, is_some, nat_lt, cond, slice_index, slice_set, leb-true}
use Rattle.std.proofs.lemmas.Bool.{or_cases}
use Rattle.pdl_semantics.specs.Flat.{Op, Bind, CombRead, DelayedRead, Write, ReserveRead, ReserveWrite, Block, Release, Call, SpecCall, Verify, SpecCheck, SpecBarrier, AdviceBind, AdviceRead, AdviceWrite, Stmt, Pipe, all_hold}
use Rattle.pdl_semantics.specs.Stages.{onpath, reserve_stage, mem_at}
use Rattle.pdl_semantics.specs.Locks.{read_ready, write_ready}
use Rattle.pdl_semantics.specs.Machine.{Kept, same_args, with_kept}
use Rattle.pdl_semantics.specs.Sound.{stages_before, is_barrier, is_call}
use Rattle.pdl_theory_turns.specs.Derived.{Entry, Work, Around, work_after, do_all, has_entry, latest, said}
use Rattle.pdl_theory_turns.specs.Derived
use Rattle.pdl_theory_turns.specs.Alone.{before, answered_op}
use Rattle.pdl_theory_turns.specs.Scans.{Scan, no_scan, scan_after, op_ok, reads_ok, no_guards, called}
use Rattle.pdl_theory_turns.specs.Facts.{Sound, looked_all, at_once}
use Rattle.pdl_theory_turns.specs.Accepted.{along}
use Rattle.pdl_theory_turns.proofs.Writes.{and_left, and_right}
use Rattle.pdl_theory_turns.proofs.Stages.{step, was_ready}
use Rattle.pdl_theory_turns.proofs.Paths.{Fixed, before_path}
use Rattle.pdl_theory_turns.proofs.Looks.{look, path_looked, before_looked}
use Rattle.pdl_theory_simulation.proofs.Stretches.{on_way}
use Rattle.pdl_theory_states.proofs.PastStatements.{BlockOk, block_set}
use Rattle.pdl_theory_states.proofs.UnusedValues.{AllOps, ops_both, touches, onto}
use Rattle.pdl_theory_states.proofs.Trails.{AllStmts}
use Rattle.pdl_theory_states.proofs.ThreadHistory.{AllKept}

-- BARRIERS

-- whether a barrier is among what was carried out
abbrev pub barred : List Op → Bool
barred [] = false
barred (op ∷ ops) = is_barrier op || barred ops

-- whether a barrier is among the statements
abbrev pub some_barrier : List Stmt → Bool
some_barrier [] = false
some_barrier (x ∷ xs) = is_barrier x.op || some_barrier xs

-- a barrier among what was carried out is one of these statements or was passed before
pub barred_onto : (xs : List Stmt) (past : List Op) → barred (onto xs past) ≡ true → (some_barrier xs ≡ true) ⊎ (barred past ≡ true)
barred_onto [] past h = inr h
barred_onto (x ∷ xs) past h = at (is_barrier x.op) refl (barred_onto xs (x.op ∷ past) h)
  where
    at : (b : Bool) → is_barrier x.op ≡ b → (some_barrier xs ≡ true) ⊎ ((is_barrier x.op || barred past) ≡ true)
        → ((is_barrier x.op || some_barrier xs) ≡ true) ⊎ (barred past ≡ true)
    at true e k = inl (ap (λ b. b || some_barrier xs) e)
    at false e (inl k) = inl (ap (λ b. b || some_barrier xs) e ∙ k)
    at false e (inr k) = inr (sym (ap (λ b. b || barred past) e) ∙ k)

clear_op : (o : Around) (op : Op) (w : Work) → is_barrier op ≡ true → (work_after o op w).ready ≡ true → o.clear ≡ true
clear_op o SpecBarrier w h r = and_right w.ready o.clear r
clear_op o (Bind x e) w h r = absurd (cc h)
clear_op o (CombRead x m a) w h r = absurd (cc h)
clear_op o (DelayedRead x m a) w h r = absurd (cc h)
clear_op o (Write m a e) w h r = absurd (cc h)
clear_op o (ReserveRead m a) w h r = absurd (cc h)
clear_op o (ReserveWrite m a) w h r = absurd (cc h)
clear_op o (Block m a) w h r = absurd (cc h)
clear_op o (Release m a) w h r = absurd (cc h)
clear_op o (Call args) w h r = absurd (cc h)
clear_op o (SpecCall args) w h r = absurd (cc h)
clear_op o (Verify last args) w h r = absurd (cc h)
clear_op o SpecCheck w h r = absurd (cc h)
clear_op o (AdviceBind x' e') w h r = absurd (cc h)
clear_op o (AdviceRead x' m' a') w h r = absurd (cc h)
clear_op o (AdviceWrite m' a' e') w h r = absurd (cc h)

-- a thread that moves on from a barrier found nobody
pub clear_all : (path : List ℕ) (o : Around) (xs : List Stmt) (w : Work) → Fixed path o xs w
    → some_barrier (onpath path xs) ≡ true → (do_all o xs w).ready ≡ true → o.clear ≡ true
clear_all path o [] w f h r = absurd (cc h)
clear_all path o (x ∷ xs) w f h r = at (all_hold x.guards w.env) (all_hold x.guards path) f.0 h r (λ k l. clear_all path o xs (step o x w) f.1 k l)
  where
    by : (is_barrier x.op ≡ true) ⊎ (some_barrier (onpath path xs) ≡ true)
        → (do_all o xs (work_after o x.op w)).ready ≡ true
        → (some_barrier (onpath path xs) ≡ true → (do_all o xs (work_after o x.op w)).ready ≡ true → o.clear ≡ true)
        → o.clear ≡ true
    by (inl i) k g = clear_op o x.op w i (was_ready o xs (work_after o x.op w) k)
    by (inr i) k g = g i k

    at : (b c : Bool) → b ≡ c
        → some_barrier (cond c (record x { guards = [] } ∷ onpath path xs) (onpath path xs)) ≡ true
        → (do_all o xs (cond b (work_after o x.op w) w)).ready ≡ true
        → (some_barrier (onpath path xs) ≡ true → (do_all o xs (cond b (work_after o x.op w) w)).ready ≡ true → o.clear ≡ true) → o.clear ≡ true
    at true true e k l g = by (or_cases (is_barrier x.op) _ k) l g
    at true false e k l g = absurd (cc e)
    at false true e k l g = absurd (cc e)
    at false false e k l g = g k l

-- BLOCKS

-- what the pending writes of older threads say
abbrev pub look_at : Pipe → List Derived.Thread → Around
look_at p ts =
    record {
      guess = [];
      update = [];
      read = λ m a. 0;
      can_read = λ m a. read_ready (mem_at p m).lock (latest ts m a);
      can_write = λ m a. write_ready (mem_at p m).lock (latest ts m a);
      free = λ m. true;
      clear = true;
    }

-- a block stays ready, or released, in surroundings in which its location is as ready as before
pub block_like : (o o' : Around) (env : List ℕ) (es : List Entry) (past : List Op) (op : Op)
    → ((m a : ℕ) → op ≡ Block m a
    → (o.can_read m (slice_index env a) ≡ true → o'.can_read m (slice_index env a) ≡ true)
    × (o.can_write m (slice_index env a) ≡ true → o'.can_write m (slice_index env a) ≡ true))
    → BlockOk o env es past op → BlockOk o' env es past op
block_like o o' env es past (Block m a) f (inl h) = inl h
block_like o o' env es past (Block m a) f (inr h) = inr (at (has_entry es m a) h)
  where
    at : (b : Bool) → cond b (o.can_write m (slice_index env a)) (o.can_read m (slice_index env a)) ≡ true
        → cond b (o'.can_write m (slice_index env a)) (o'.can_read m (slice_index env a)) ≡ true
    at true k = (f m a refl).1 k
    at false k = (f m a refl).0 k
block_like o o' env es past (Bind x e) f h = tt
block_like o o' env es past (CombRead x m a) f h = tt
block_like o o' env es past (DelayedRead x m a) f h = tt
block_like o o' env es past (Write m a e) f h = tt
block_like o o' env es past (ReserveRead m a) f h = tt
block_like o o' env es past (ReserveWrite m a) f h = tt
block_like o o' env es past (Release m a) f h = tt
block_like o o' env es past (Call args) f h = tt
block_like o o' env es past (SpecCall args) f h = tt
block_like o o' env es past (Verify last args) f h = tt
block_like o o' env es past SpecCheck f h = tt
block_like o o' env es past (AdviceBind x' e') f h = tt
block_like o o' env es past (AdviceRead x' m' a') f h = tt
block_like o o' env es past (AdviceWrite m' a' e') f h = tt
block_like o o' env es past SpecBarrier f h = tt

-- with the answers that are kept
pub kept_blocks : (o : Around) (es : List Entry) (past ops : List Op) (kept : List Kept) (env : List ℕ)
    → AllKept (λ k. AllOps (λ op. touches k.var op ≡ false) ops) kept → AllOps (BlockOk o env es past) ops
    → AllOps (BlockOk o (with_kept kept env) es past) ops
kept_blocks o es past ops [] env u h = h
kept_blocks o es past ops (k ∷ kept) env u h =
    kept_blocks o es past ops kept (slice_set env k.var k.word) u.1 (ops_both (λ op t b. block_set o k.var k.word env es past op t b) ops u.0 h)

-- a block stands no earlier than the reserves
abbrev pub LowBlock : Pipe → ℕ → Op → Type 0
LowBlock p s op = (m a : ℕ) → op ≡ Block m a → reserve_stage p m ≤ s

low_op : (p q : Pipe)
    → ((m : ℕ) → reserve_stage q m ≡ reserve_stage p m) → (s : ℕ) (c : Scan) (op : Op)
    → op_ok q s c (answered_op op) ≡ true → LowBlock p s op
low_op p q f s c op h m a e = subst (λ n. n ≤ s) (f m) (leb-true (reserve_stage q m) s (subst (λ o. op_ok q s c (answered_op o) ≡ true) e h))

low_all : (p q : Pipe)
    → ((m : ℕ) → reserve_stage q m ≡ reserve_stage p m) → (c : Scan) (xs : List Stmt)
    → reads_ok q c (looked_all xs) ≡ true → AllStmts (λ z. LowBlock p z.stage z.op) xs
low_all p q f c [] h = tt
low_all p q f c (x ∷ xs) h = (
  low_op p q f x.stage c x.op (and_right (no_guards x.guards) _ (and_left _ _ h)),
  low_all p q f (scan_after (answered_op x.op) c) xs (and_right (no_guards x.guards && op_ok q x.stage c (answered_op x.op)) _ h),
)

-- the statements before stage s are those of the earlier stages with delayed reads answered at once
pub before_stages : (s : ℕ) (xs : List Stmt) → before s xs ≡ looked_all (stages_before s xs)
before_stages s [] = refl
before_stages s (x ∷ xs) = at (nat_lt x.stage s) (before_stages s xs)
  where
    at : (b : Bool) → before s xs ≡ looked_all (stages_before s xs)
        → cond b (look x ∷ before s xs) (before s xs) ≡ looked_all (cond b (x ∷ stages_before s xs) (stages_before s xs))
    at true h = ap (λ l. look x ∷ l) h
    at false h = h

-- the statements of a path before a stage, with reads at once
pub way_looked : (p : Pipe) (path : List ℕ) (s : ℕ) → before s (onpath path (looked_all p.stmts)) ≡ looked_all (on_way p path s)
way_looked p path s =
    ap (before s) (path_looked path p.stmts) ∙ before_looked s (onpath path p.stmts) ∙ before_path path s p.stmts
    ∙ ap (onpath path) (before_stages s p.stmts) ∙ path_looked path (stages_before s p.stmts)

-- each block before stage s on a path stands no earlier than its memory's reserves
pub low_blocks : (p : Pipe) → Sound p → (path : List ℕ) (s : ℕ) → AllStmts (λ z. LowBlock p z.stage z.op) (on_way p path s)
low_blocks p sound path s =
    low_all p (along path (at_once p)) (λ m. refl) no_scan (on_way p path s)
    (subst (λ l. reads_ok (along path (at_once p)) no_scan l ≡ true) (way_looked p path s) ((sound.pathwise.paths path).reads s))

-- CALLS

child_op : (o : Around) (op : Op) (w : Work) → is_some w.child ≡ true → is_some (work_after o op w).child ≡ true
child_op o (Verify last args) w h = at (same_args (said o last args w.env) w.guess)
  where
    at : (b : Bool) → is_some (cond b w (record w { child = Some (said o last args w.env); guess = said o last args w.env; fails = true })).child ≡ true
    at true = h
    at false = refl
child_op o (Call args) w h = refl
child_op o (SpecCall args) w h = refl
child_op o (Bind x e) w h = h
child_op o (CombRead x m a) w h = h
child_op o (DelayedRead x m a) w h = h
child_op o (Write m a e) w h = h
child_op o (ReserveRead m a) w h = h
child_op o (ReserveWrite m a) w h = h
child_op o (Block m a) w h = h
child_op o (Release m a) w h = h
child_op o SpecCheck w h = h
child_op o (AdviceBind x' e') w h = h
child_op o (AdviceRead x' m' a') w h = h
child_op o (AdviceWrite m' a' e') w h = h
child_op o SpecBarrier w h = h

child_stays : (o : Around) (xs : List Stmt) (w : Work) → is_some w.child ≡ true → is_some (do_all o xs w).child ≡ true
child_stays o [] w h = h
child_stays o (x ∷ xs) w h = child_stays o xs (step o x w) (at (all_hold x.guards w.env))
  where
    at : (b : Bool) → is_some (cond b (work_after o x.op w) w).child ≡ true
    at true = child_op o x.op w h
    at false = h

call_child : (o : Around) (op : Op) (w : Work) → is_call op ≡ true → is_some (work_after o op w).child ≡ true
call_child o (Call args) w h = refl
call_child o (SpecCall args) w h = refl
call_child o (Bind x e) w h = absurd (cc h)
call_child o (CombRead x m a) w h = absurd (cc h)
call_child o (DelayedRead x m a) w h = absurd (cc h)
call_child o (Write m a e) w h = absurd (cc h)
call_child o (ReserveRead m a) w h = absurd (cc h)
call_child o (ReserveWrite m a) w h = absurd (cc h)
call_child o (Block m a) w h = absurd (cc h)
call_child o (Release m a) w h = absurd (cc h)
call_child o (Verify last args) w h = absurd (cc h)
call_child o SpecCheck w h = absurd (cc h)
call_child o (AdviceBind x' e') w h = absurd (cc h)
call_child o (AdviceRead x' m' a') w h = absurd (cc h)
call_child o (AdviceWrite m' a' e') w h = absurd (cc h)
call_child o SpecBarrier w h = absurd (cc h)

-- a stage that makes no thread calls none
pub childless : (path : List ℕ) (o : Around) (xs : List Stmt) (w : Work) → Fixed path o xs w
    → (do_all o xs w).child ≡ None → called false (onpath path xs) ≡ false
childless path o [] w f h = refl
childless path o (x ∷ xs) w f h = at (all_hold x.guards w.env) (all_hold x.guards path) f.0 h (λ k. childless path o xs (step o x w) f.1 k)
  where
    clash : (c : Option (List ℕ)) → c ≡ None → is_some c ≡ true → ⊥
    clash c e k = cc (sym k ∙ ap is_some e)

    by : (b : Bool) → is_call x.op ≡ b → (do_all o xs (work_after o x.op w)).child ≡ None
        → called false (onpath path xs) ≡ false → called b (onpath path xs) ≡ false
    by true e k g = absurd (clash (do_all o xs (work_after o x.op w)).child k (child_stays o xs (work_after o x.op w) (call_child o x.op w e)))
    by false e k g = g

    at : (b c : Bool) → b ≡ c → (do_all o xs (cond b (work_after o x.op w) w)).child ≡ None
        → ((do_all o xs (cond b (work_after o x.op w) w)).child ≡ None → called false (onpath path xs) ≡ false)
        → called false (cond c (record x { guards = [] } ∷ onpath path xs) (onpath path xs)) ≡ false
    at true true e k g = by (is_call x.op) refl k (g k)
    at true false e k g = absurd (cc e)
    at false true e k g = absurd (cc e)
    at false false e k g = g k
