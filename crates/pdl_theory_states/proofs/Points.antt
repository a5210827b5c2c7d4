-- The points of Sound state that hold of all live threads alike.
use Rattle.std.proofs.Common.{◌≡◌, refl, sym, ap, ap₂, ◌∙◌, subst, ℕ, ◌<◌, ◌⊎◌, inl, inr, Bool, true, false, ◌&&◌, ◌||◌, not, List, [], ◌∷◌, ◌++◌, length, ◌==◌, cond, arith, slice_index, eq-eqb, lt-ltb, ltb-true, ltb-false, nat_lt}
use Rattle.std.proofs.lemmas.Bool.{or_right, or_left, not-true}
use Rattle.pdl_semantics.specs.Flat.{Pipe, Op, Bind, CombRead, DelayedRead, Write, ReserveRead, ReserveWrite, Block, Release, Call, SpecCall, Verify, SpecCheck, SpecBarrier, AdviceBind, AdviceRead, AdviceWrite, Stmt, list_all}
use Rattle.pdl_semantics.specs.Stages.{list_any, is_release, commit_stage, mem_at}
use Rattle.pdl_semantics.specs.Locks.{read_ready, write_ready}
use Rattle.pdl_semantics.specs.Machine.{State, Awaited, Kept, Pending, HeldLocation, lock_of, request_of, same_args, is_held, held_before, older_write}
use Rattle.pdl_semantics.specs.Moves.{block_ready}
use Rattle.pdl_semantics.specs.Sound.{stages_before, are_linked, is_kept_or_awaited, asks_right, is_owner, is_release_at, stays_ready, on_path, is_done, right_place, is_fetch, held_places, has_done, is_call, guess_of, guess_after}
use Rattle.pdl_semantics.specs.Sound
use Rattle.pdl_theory_turns.specs.Derived.{Entry, has_entry, latest, awaits_mem, Hint}
use Rattle.pdl_theory_turns.specs.Scans.{called, none_of}
use Rattle.pdl_theory_turns.proofs.Paths.{none_onpath}
use Rattle.pdl_theory_simulation.proofs.Shapes.{none_till}
use Rattle.pdl_theory_turns.proofs.Writes.{and_left, and_right}
use Rattle.pdl_theory_turns.specs.Facts.{Sound}
use Rattle.pdl_theory_simulation.proofs.AcceptedFacts.{sound_flows}
use Rattle.pdl_theory_turns.proofs.Guesses.{same_args_refl}
use Rattle.pdl_theory_turns.proofs.Deeds.{places, places_has}
use Rattle.pdl_theory_turns.proofs.Lists.{own, pend}
use Rattle.pdl_theory_simulation.proofs.Stretches.{on_way, has_made, late}
use Rattle.pdl_theory_simulation.proofs.Seats.{Live, threads_of, each_map}
use Rattle.pdl_theory_simulation.proofs.Choices.{Seated}
use Rattle.pdl_theory_simulation.proofs.Choices
use Rattle.pdl_theory_states.proofs.OldestFirst.{told, oldest_first, AllLive, live_each}
use Rattle.pdl_theory_states.proofs.PastStatements.{BlockOk, is_released, AllStand, let_go, standing}
use Rattle.pdl_theory_states.proofs.UnusedValues.{AllOps, onto, Done, guess_past}
use Rattle.pdl_theory_states.proofs.Trails.{AllStmts, stmts_map, stmts_ops, trail_comes}
use Rattle.pdl_theory_states.proofs.ThreadHistory.{Local, here, past_of}
use Rattle.pdl_theory_states.proofs.FetchCounts.{HeldOp, count_is, any_append, any_front}
use Rattle.pdl_theory_states.proofs.Guessed.{GuessDone}
use Rattle.pdl_theory_states.proofs.Stage.{look_at}
use Rattle.pdl_theory_simulation.proofs.SimulatedStates.{HaveMade}

-- two truth values that are true are true together
pub both_true : {a b : Bool} → a ≡ true → b ≡ true → (a && b) ≡ true
both_true h k = ap₂ (λ a b. a && b) h k

-- TESTS OF STATEMENTS

stmts_all : (test : Stmt → Bool) (xs : List Stmt) → AllStmts (λ x. test x ≡ true) xs → list_all test xs ≡ true
stmts_all test [] h = refl
stmts_all test (x ∷ xs) h = both_true h.0 (stmts_all test xs h.1)

-- where one of these statements passes a test, one of those carried out with them does
pub any_onto : (test : Op → Bool) (some : List Op → Bool)
    → ((op : Op) (ops : List Op) → some (op ∷ ops) ≡ (test op || some ops)) → (xs : List Stmt) (past : List Op)
    → list_any (λ (x : Stmt). test x.op) xs ≡ true → some (onto xs past) ≡ true
any_onto test some f [] past h = absurd (cc h)
any_onto test some f (x ∷ xs) past h = at (test x.op) refl h (λ k. any_onto test some f xs (x.op ∷ past) k)
  where
    keep : (ys : List Stmt) (ops : List Op) → some ops ≡ true → some (onto ys ops) ≡ true
    keep [] ops k = k
    keep (y ∷ ys) ops k = keep ys (y.op ∷ ops) (f y.op ops ∙ or_right (test y.op) _ k)

    at : (b : Bool) → test x.op ≡ b → (b || list_any (λ (x : Stmt). test x.op) xs) ≡ true
        → (list_any (λ (x : Stmt). test x.op) xs ≡ true → some (onto xs (x.op ∷ past)) ≡ true)
        → some (onto xs (x.op ∷ past)) ≡ true
    at true e k g = keep xs (x.op ∷ past) (f x.op past ∙ or_left (test x.op) _ e)
    at false e k g = g k

-- a statement carried out that passes a test is one of these or one that was carried out before
pub onto_any : (test : Op → Bool) (some : List Op → Bool)
    → ((op : Op) (ops : List Op) → some (op ∷ ops) ≡ (test op || some ops)) → (xs : List Stmt) (past : List Op)
    → some (onto xs past) ≡ true → (list_any (λ (x : Stmt). test x.op) xs ≡ true) ⊎ (some past ≡ true)
onto_any test some f [] past h = inr h
onto_any test some f (x ∷ xs) past h = at (onto_any test some f xs (x.op ∷ past) h)
  where
    by : (b : Bool) → test x.op ≡ b → (test x.op || some past) ≡ true → (list_any (λ (x : Stmt). test x.op) (x ∷ xs) ≡ true) ⊎ (some past ≡ true)
    by true e k = inl (or_left (test x.op) _ e)
    by false e k = inr (sym (ap (λ b. b || some past) e) ∙ k)

    at : (list_any (λ (x : Stmt). test x.op) xs ≡ true) ⊎ (some (x.op ∷ past) ≡ true)
        → (list_any (λ (x : Stmt). test x.op) (x ∷ xs) ≡ true) ⊎ (some past ≡ true)
    at (inl k) = inl (or_right (test x.op) _ k)
    at (inr k) = by (test x.op) refl (sym (f x.op past) ∙ k)

-- where these statements have released a location, one of them is its release
pub released_done : (m a : ℕ) (xs : List Stmt)
    → is_released m a (onto xs []) ≡ true → list_any (λ (x : Stmt). is_release_at m a x.op) xs ≡ true
released_done m a xs h = at (onto_any (is_release_at m a) (is_released m a) (λ op ops. refl) xs [] h)
  where
    at : (list_any (λ (x : Stmt). is_release_at m a x.op) xs ≡ true) ⊎ (false ≡ true) → list_any (λ (x : Stmt). is_release_at m a x.op) xs ≡ true
    at (inl k) = k
    at (inr k) = absurd (cc k)

same_call : (op : Op) → Sound.is_call op ≡ is_call op
same_call (Call args) = refl
same_call (SpecCall args) = refl
same_call _ = refl

called_any : (c : Bool) (xs : List Stmt) → called c xs ≡ (c || list_any (λ (x : Stmt). Sound.is_call x.op) xs)
called_any true [] = refl
called_any false [] = refl
called_any true (x ∷ xs) = called_any true xs
called_any false (x ∷ xs) = called_any (is_call x.op) xs ∙ ap (λ b. b || list_any (λ (x : Stmt). Sound.is_call x.op) xs) (sym (same_call x.op))

-- whether it has made its successor
pub made_is : (p : Pipe) (l : Live) → has_done Sound.is_call p (told l) ≡ has_made p l.env l.thread.stage
made_is p l = sym (called_any false (on_way p l.env l.thread.stage))

-- 2. CHAIN

linked_snoc : (p : Pipe) (xs : List Sound.Live) (l : Sound.Live)
    → AllLive (λ x. has_done Sound.is_call p x ≡ true) xs → has_done Sound.is_call p l ≡ false
    → are_linked p (xs ++ l ∷ []) ≡ true
linked_snoc p [] l h k = ap not k
linked_snoc p (x ∷ []) l h k = both_true h.0 (ap not k)
linked_snoc p (x ∷ y ∷ xs) l h k = both_true h.0 (linked_snoc p (y ∷ xs) l h.1 k)

-- live threads are linked where each but the youngest has made its successor, and the youngest none
pub chain : (p : Pipe) (l : Live) (ls : List Live) → HaveMade p (l ∷ ls)
    → has_made p l.env l.thread.stage ≡ false → are_linked p (oldest_first (l ∷ ls)) ≡ true
chain p l ls h k =
    linked_snoc p (oldest_first ls) (told l) (live_each (λ x. has_done Sound.is_call p x ≡ true) ls (each_map (λ j e. made_is p j ∙ e) ls h)) (made_is p l ∙ k)

-- OF EACH THREAD

-- 7. REQUESTS

held_op : (kept : List Kept) (awaits : List Awaited) (n : ℕ) (advice : List Kept) (env guess : List ℕ) (op : Op) → HeldOp kept awaits op
    → is_kept_or_awaited (record { number = n; env = env; advice = advice; guess = guess; awaits = awaits; kept = kept }) op ≡ true
held_op kept awaits n advice env guess (DelayedRead x m a) h = h x m a refl
held_op kept awaits n advice env guess _ h = refl

imply : (b c : Bool) → (b ≡ true → c ≡ true) → (not b || c) ≡ true
imply true c f = f refl
imply false c f = refl

owners_all : (st : State) (n : ℕ) (rs : List Awaited) → Choices.AllOwned st n rs
    → list_all (λ r. is_owner n (request_of st r.mem)) rs ≡ true
owners_all st n [] h = refl
owners_all st n (r ∷ rs) h = both_true (ap (is_owner n) h.0.1 ∙ eq-eqb n n refl) (owners_all st n rs h.1)

-- a seated live thread that keeps to what is its own has the requests that Sound state wants
pub asks_point : (p : Pipe) (st : State) (l : Live) → Seated p st l → Local p l.env l.kept l.thread → asks_right p st (told l) ≡ true
asks_point p st l seated loc =
    ap₂ (λ a b. a && b) (both_true
    (stmts_all _ (on_way p l.env l.thread.stage)
    (stmts_map (λ z f. imply (here p l.env l.thread.stage z) _ (λ i. held_op l.kept l.thread.awaits l.number l.advice l.env l.thread.guess z.op (f i)))
    (on_way p l.env l.thread.stage) loc.held))
    (owners_all st l.number l.thread.awaits seated.owned))
    (eq-eqb _ _ (loc.total ∙ count_is (λ (x : Stmt). here p l.env l.thread.stage x && is_fetch x.op) (on_way p l.env l.thread.stage)))

awaits_any : (m : ℕ) (rs : List Awaited) → awaits_mem rs m ≡ list_any (λ r. r.mem == m) rs
awaits_any m [] = refl
awaits_any m (r ∷ rs) = ap (λ b. (r.mem == m) || b) (awaits_any m rs)

any_snoc : {X : Type 0} → (test : X → Bool) (xs : List X) (x : X)
    → (list_any test xs || test x) ≡ true → list_any test (xs ++ x ∷ []) ≡ true
any_snoc test [] x h = or_left (test x) _ h
any_snoc test (y ∷ xs) x h = at (test y) h (λ k. any_snoc test xs x k)
  where
    at : (b : Bool) → ((b || list_any test xs) || test x) ≡ true
        → ((list_any test xs || test x) ≡ true → list_any test (xs ++ x ∷ []) ≡ true)
        → (b || list_any test (xs ++ x ∷ [])) ≡ true
    at true k f = refl
    at false k f = f k

-- where the thread of this number awaits memory m, it is found in the list that begins with the oldest
pub owner_any : (n m : ℕ) (ls : List Live)
    → Choices.has_owner n m ls ≡ true
    → list_any (λ (l : Sound.Live). (l.thread.number == n) && list_any (λ r. r.mem == m) l.thread.awaits) (oldest_first ls) ≡ true
owner_any n m [] h = absurd (cc h)
owner_any n m (l ∷ ls) h = any_snoc _ (oldest_first ls) (told l) (at ((l.number == n) && awaits_mem l.thread.awaits m) refl h (λ k. owner_any n m ls k))
  where
    at : (b : Bool) → ((l.number == n) && awaits_mem l.thread.awaits m) ≡ b → (b || Choices.has_owner n m ls) ≡ true
        → (Choices.has_owner n m ls ≡ true
        → list_any (λ (l : Sound.Live). (l.thread.number == n) && list_any (λ r. r.mem == m) l.thread.awaits) (oldest_first ls) ≡ true)
        → (list_any (λ (l : Sound.Live). (l.thread.number == n) && list_any (λ r. r.mem == m) l.thread.awaits) (oldest_first ls)
        || ((l.number == n) && list_any (λ r. r.mem == m) l.thread.awaits))
        ≡ true
    at true e k f =
        or_right
        (list_any (λ (l : Sound.Live). (l.thread.number == n) && list_any (λ r. r.mem == m) l.thread.awaits) (oldest_first ls)) _
        (ap (λ b. (l.number == n) && b) (sym (awaits_any m l.thread.awaits)) ∙ e)
    at false e k f = or_left _ _ (f k)

-- 9. BLOCKS

module _ (p : Pipe) (st : State) (l : Live) (older : List Live)
    (held : places l.thread.entries ≡ held_before l.thread.stage l.env p.stmts [])
    (ahead : (m a : ℕ) → older_write st l.number m a ≡ latest (threads_of older) m a) where
  block_now : (m a : ℕ)
      → cond (has_entry l.thread.entries m a)
      (write_ready (mem_at p m).lock (latest (threads_of older) m (slice_index l.env a)))
      (read_ready (mem_at p m).lock (latest (threads_of older) m (slice_index l.env a)))
      ≡ true
      → block_ready p st l.number (record { mem = m; address = slice_index l.env a; writes = is_held (held_places p (told l)) m a }) ≡ true
  block_now m a h =
      (λ i. cond (kinds i) (write_ready (mem_at p m).lock (ahead m (slice_index l.env a) i)) (read_ready (mem_at p m).lock (ahead m (slice_index l.env a) i)))
      ∙ h
    where
      kinds : is_held (held_places p (told l)) m a ≡ has_entry l.thread.entries m a
      kinds = ap (λ ps. is_held ps m a) (sym held) ∙ places_has l.thread.entries m a

  block_op : (op : Op) → BlockOk (look_at p (threads_of older)) l.env l.thread.entries (past_of p l.env l.thread.stage) op → stays_ready p st (told l) op ≡ true
  block_op (Block m a) (inl h) = or_left (has_done (is_release_at m a) p (told l)) _ (released_done m a (on_way p l.env l.thread.stage) h)
  block_op (Block m a) (inr h) = or_right (has_done (is_release_at m a) p (told l)) _ (block_now m a h)
  block_op (Bind x e) h = refl
  block_op (CombRead x m a) h = refl
  block_op (DelayedRead x m a) h = refl
  block_op (Write m a e) h = refl
  block_op (ReserveRead m a) h = refl
  block_op (ReserveWrite m a) h = refl
  block_op (Release m a) h = refl
  block_op (Call args) h = refl
  block_op (SpecCall args) h = refl
  block_op (Verify last args) h = refl
  block_op SpecCheck h = refl
  block_op (AdviceBind x' e') h = refl
  block_op (AdviceRead x' m' a') h = refl
  block_op (AdviceWrite m' a' e') h = refl
  block_op SpecBarrier h = refl

  -- where each block that a thread has passed is ready or let go, the test of Sound state on blocks passes
  pub blocks_point : AllOps (BlockOk (look_at p (threads_of older)) l.env l.thread.entries (past_of p l.env l.thread.stage)) (past_of p l.env l.thread.stage)
      → list_all (λ (x : Stmt). stays_ready p st (told l) x.op) (on_way p l.env l.thread.stage) ≡ true
  blocks_point h =
      stmts_all _ (on_way p l.env l.thread.stage)
      (stmts_map (λ z b. block_op z.op b) (on_way p l.env l.thread.stage)
      (stmts_ops (BlockOk (look_at p (threads_of older)) l.env l.thread.entries (past_of p l.env l.thread.stage)) (on_way p l.env l.thread.stage) [] h).0)

-- BESIDE: THE PATH

done_op : (st : State) (l : Live) (op : Op) → Done l.env l.thread.guess op → is_done st (told l) op ≡ true
done_op st l (Bind x e) h = eq-eqb _ _ h
done_op st l (SpecCall args) h = refl
done_op st l (CombRead x m a) h = refl
done_op st l (DelayedRead x m a) h = refl
done_op st l (Write m a e) h = refl
done_op st l (ReserveRead m a) h = refl
done_op st l (ReserveWrite m a) h = refl
done_op st l (Block m a) h = refl
done_op st l (Release m a) h = refl
done_op st l (Call args) h = refl
done_op st l (Verify last args) h = refl
done_op st l SpecCheck h = refl
done_op st l SpecBarrier h = refl
done_op st l (AdviceBind x e) h = refl
done_op st l (AdviceRead x m a) h = refl
done_op st l (AdviceWrite m a e) h = refl

-- the guess after statements that were carried out one after another is what these give, in the order of the text
pub guess_onto : (hint : Hint) (advice : List Kept) (env : List ℕ) (xs : List Stmt) (past : List Op) → AllOps (GuessDone advice env hint) (onto xs past)
    → guess_past hint (onto xs past) env ≡ guess_of xs advice env (guess_past hint past env)
guess_onto hint advice env [] past h = refl
guess_onto hint advice env (x ∷ xs) past h =
    guess_onto hint advice env xs (x.op ∷ past) h ∙ ap (guess_of xs advice env) (one x.op (first xs (x.op ∷ past) h).0)
  where
    first : (ys : List Stmt) (ops : List Op) → AllOps (GuessDone advice env hint) (onto ys ops) → AllOps (GuessDone advice env hint) ops
    first [] ops k = k
    first (y ∷ ys) ops k = (first ys (y.op ∷ ops) k).1

    one : (op : Op) → GuessDone advice env hint op → guess_past hint (op ∷ past) env ≡ guess_after op advice env (guess_past hint past env)
    one (SpecCall args) k = k
    one (Verify true args) k = refl
    one (Verify false args) k = k
    one _ k = refl

never_go : (m : ℕ) (xs : List Stmt) → none_of (is_release m) xs ≡ true → let_go m (onto xs []) ≡ true → ⊥
never_go m xs n h = at (onto_any (is_release m) (let_go m) (λ op ops. refl) xs [] h)
  where
    none : (ys : List Stmt) → none_of (is_release m) ys ≡ true → list_any (λ (x : Stmt). is_release m x.op) ys ≡ false
    none [] h = refl
    none (y ∷ ys) h = ap₂ (λ a b. a || b) (not-true _ (and_left _ _ h)) (none ys (and_right (not (is_release m y.op)) _ h))

    at : (list_any (λ (x : Stmt). is_release m x.op) xs ≡ true) ⊎ (false ≡ true) → ⊥
    at (inl k) = absurd (cc (sym k ∙ none xs n))
    at (inr k) = absurd (cc k)

abbrev places_test : ℕ → List ℕ → HeldLocation → Pending → Bool
places_test n env h e = (e.thread == n) && ((e.var == h.var) && (e.address == slice_index env h.var))

-- each pending write of a thread is in its lock's list
own_places : (n : ℕ) (env : List ℕ) (es : List Entry) → AllStand env es
    → (test : HeldLocation → Bool)
    → ((h : HeldLocation) → list_any (places_test n env h) (pend h.mem n es) ≡ true → test h ≡ true)
    → list_all test (places es) ≡ true
own_places n env [] h test f = refl
own_places n env (e ∷ es) h test f =
    both_true (f (record { mem = e.mem; var = e.var }) (any_append (places_test n env (record { mem = e.mem; var = e.var })) (pend e.mem n es) _ mine))
    (own_places n env es h.1 test (λ g k. f g (any_front (places_test n env g) (pend g.mem n es) _ k)))
  where
    mine : list_any (places_test n env (record { mem = e.mem; var = e.var })) (cond (e.mem == e.mem) (own n e ∷ []) []) ≡ true
    mine =
        ap (λ b. list_any (places_test n env (record { mem = e.mem; var = e.var })) (cond b (own n e ∷ []) [])) (eq-eqb e.mem e.mem refl)
        ∙ ap₂ (λ a b. (a && b) || false) (eq-eqb n n refl) (ap₂ (λ a b. a && b) (eq-eqb e.var e.var refl) (eq-eqb _ _ h.0))

module _ (p : Pipe) (sound : Sound p) where
  -- a thread that keeps to its path, with its pending writes in the locks' lists, passes the test of Sound state on paths
  pub path_point : (st : State) (l : Live)
      → Seated p st l → Local p l.env l.kept l.thread → AllOps (GuessDone l.advice l.env l.thread.hint) (past_of p l.env l.thread.stage)
      → l.number < st.next
      → ((m : ℕ) (test : Pending → Bool) → list_any test (pend m l.number l.thread.entries) ≡ true → list_any test (lock_of st m) ≡ true)
      → on_path p st (told l) ≡ true
  path_point st l seated loc guessed low locks =
      both_true (both_true (both_true (both_true
      (trail_comes p (sound_flows p sound).graph l.env l.thread.stage l.thread.stage
      (length p.stages) 1 loc.trail loc.walked (or_left (l.thread.stage == l.thread.stage) _ (eq-eqb _ _ refl))
      (let i = seated.keeps_on.inside in omega arith))
      (stmts_all _ (on_way p l.env l.thread.stage)
      (stmts_map (λ z d. done_op st l z.op d) (on_way p l.env l.thread.stage)
      (stmts_ops (Done l.env l.thread.guess) (on_way p l.env l.thread.stage) [] loc.done).0)))
      (ap (λ g. same_args g (guess_of (on_way p l.env l.thread.stage) l.advice l.env []))
      (loc.guessed ∙ guess_onto l.thread.hint l.advice l.env (on_way p l.env l.thread.stage) [] guessed)
      ∙ same_args_refl (guess_of (on_way p l.env l.thread.stage) l.advice l.env [])))
      (subst (λ hs. list_all (right_place st (told l)) hs ≡ true) seated.keeps_on.held
      (own_places l.number l.env l.thread.entries stand (right_place st (told l))
      (λ h k. locks h.mem (places_test l.number l.env h) k))))
      (lt-ltb _ _ low)
    where
      -- what is released is released whole
      past : (m : ℕ) → let_go m (past_of p l.env l.thread.stage) ≡ true → commit_stage p m < l.thread.stage
      past m k = at (nat_lt (commit_stage p m) l.thread.stage) refl
        where
          at : (b : Bool) → nat_lt (commit_stage p m) l.thread.stage ≡ b → commit_stage p m < l.thread.stage
          at true e = ltb-true _ _ e
          at false e =
              absurd (never_go m (on_way p l.env l.thread.stage)
              (none_onpath (is_release m) l.env (stages_before l.thread.stage p.stmts)
              (none_till (is_release m) (commit_stage p m) l.thread.stage p.stmts ((sound_flows p sound).releases m) (ltb-false _ _ e))) k)

      stand : AllStand l.env l.thread.entries
      stand =
          standing l.env (past_of p l.env l.thread.stage) l.thread.entries loc.placed
          (λ m k. late p (sound_flows p sound) l.env l.thread seated.keeps_on m (past m k))
