-- What older threads' pending writes say of an address grows only more ready, where they are past the reserves.
use Rattle.std.proofs.Common.{◌≡◌, ◌≢◌, refl, sym, ap, ◌∙◌, subst, ℕ, ◌≤◌, ◌<◌, Bool, true, false, ◌&&◌, ◌||◌, not, List, [], ◌∷◌, ◌++◌, length, Option, Some, None, is_none, ◌==◌, cond, if◌then◌else◌, arith, eq-eqb, slice_index}
use Rattle.std.proofs.lemmas.Bool.{eqb-true, eqb-false}
use Rattle.pdl_semantics.specs.Flat.{Pipe, Op, Bind, CombRead, DelayedRead, Write, ReserveRead, ReserveWrite, Block, Release, Call, SpecCall, Verify, SpecCheck, SpecBarrier, AdviceBind, AdviceRead, AdviceWrite, Stmt, value_of, all_hold}
use Rattle.pdl_semantics.specs.Stages.{in_stage, stage_at, goes_to, is_reserve, is_release, reserve_stage, commit_stage}
use Rattle.pdl_semantics.specs.Locks.{Latest, Nothing, as_latest}
use Rattle.pdl_semantics.specs.Machine.{State, same_args}
use Rattle.pdl_semantics.proofs.Readiness.{Calm, calm_nothing, calm_value}
use Rattle.pdl_semantics.specs.Promises.{DifferInAdvice}
use Rattle.pdl_theory_turns.specs.Derived.{Entry, Work, Around, work_after, do_all, with_entry_value, latest_in, latest, around, said}
use Rattle.pdl_theory_turns.specs.Derived
use Rattle.pdl_theory_turns.specs.Scans.{none_of}
use Rattle.pdl_theory_simulation.proofs.FlowFacts.{Flows, stage_or}
use Rattle.pdl_theory_turns.proofs.Writes.{and_left, and_right}
use Rattle.pdl_theory_turns.proofs.Entries.{entries_of, filled_other, without_other, entries_of-filled}
use Rattle.pdl_theory_turns.proofs.Marks.{latest_own}
use Rattle.pdl_theory_turns.proofs.Stages.{step}
use Rattle.pdl_theory_turns.proofs.Turn.{none_in_stage}
use Rattle.pdl_theory_simulation.proofs.Stretches.{Behind, late, start_of, stage_up, left_trunk}
use Rattle.pdl_theory_simulation.proofs.Seats.{Live, threads_of, Ordered, dacts, did, now_of, work_of_live, advised}
use Rattle.pdl_theory_simulation.proofs.Choices.{AllKnown, ends_here, late_here}
use Rattle.pdl_theory_simulation.proofs.LockLists.{fell, moved_live, stood, go_on}
use Rattle.pdl_theory_simulation.proofs.ThreadPlaces.{ways_on, behind_stay}
use Rattle.pdl_theory_simulation.proofs.ThreadPlaces
use Rattle.pdl_word.specs.Each.{Each}

-- a thread's pending writes of a memory, of which more have a value
abbrev Filled : List Entry → List Entry → Type 0
Filled [] [] = Unit {0}
Filled (e ∷ es) (f ∷ fs) = (f.mem ≡ e.mem) × (f.address ≡ e.address) × (is_none f.value ≡ true → is_none e.value ≡ true) × Filled es fs
Filled _ _ = ⊥

filled_same : (es : List Entry) → Filled es es
filled_same [] = tt
filled_same (e ∷ es) = (refl, refl, (λ h. h), filled_same es)

filled_more : (m a v : ℕ) (es fs : List Entry) → Filled es fs → Filled es (with_entry_value fs m a v)
filled_more m a v [] [] h = h
filled_more m a v [] (f ∷ fs) h = absurd h
filled_more m a v (e ∷ es) [] h = absurd h
filled_more m a v (e ∷ es) (f ∷ fs) h = at ((f.mem == m) && (f.var == a)) (filled_more m a v es fs h.3)
  where
    at : (b : Bool) → Filled es (with_entry_value fs m a v) → Filled (e ∷ es) (cond b (record f { value = Some v } ∷ fs) (f ∷ with_entry_value fs m a v))
    at true k = (h.0, h.1, (λ i. absurd (cc i)), h.3)
    at false k = (h.0, h.1, h.2, k)

off_case : (n m : ℕ) → not (n == m) ≡ true → n ≢ m
off_case n m h e = cc (sym (ap not (eq-eqb n m e)) ∙ h)

by_memory : (n m : ℕ) (R : Type 0) → (n ≡ m → R) → (n ≢ m → R) → R
by_memory n m R f g = at (n == m) refl
  where
    at : (b : Bool) → (n == m) ≡ b → R
    at true e = f (eqb-true n m e)
    at false e = g (eqb-false n m e)

filled_op : (m : ℕ) (start : List Entry) (o : Around) (op : Op) (w : Work)
    → not (is_reserve m op) ≡ true → not (is_release m op) ≡ true → Filled start (entries_of m w.entries)
    → Filled start (entries_of m (work_after o op w).entries)
filled_op m start o (Write n a e) w r q h =
    by_memory n m (Filled start (entries_of m (with_entry_value w.entries n a (value_of e w.env))))
    (λ i. subst (λ j. Filled start (entries_of m (with_entry_value w.entries j a (value_of e w.env)))) (sym i)
    (subst (λ l. Filled start l) (sym (entries_of-filled w.entries m a (value_of e w.env)))
    (filled_more m a (value_of e w.env) start (entries_of m w.entries) h)))
    (λ i. subst (λ l. Filled start l) (sym (filled_other w.entries m n a (value_of e w.env) i)) h)
filled_op m start o (Release n a) w r q h = subst (λ l. Filled start l) (sym (without_other w.entries m n a (off_case n m q))) h
filled_op m start o (ReserveWrite n a) w r q h = at (n == m) r
  where
    at : (b : Bool) → not b ≡ true
        → Filled start (cond b (record { mem = n; var = a; address = slice_index w.env a; value = None } ∷ entries_of m w.entries) (entries_of m w.entries))
    at true i = absurd (cc i)
    at false i = h
filled_op m start o (Verify last args) w r q h = at (same_args (said o last args w.env) w.guess)
  where
    at : (b : Bool)
        → Filled start (entries_of m (cond b w (record w { child = Some (said o last args w.env); guess = said o last args w.env; fails = true })).entries)
    at true = h
    at false = h
filled_op m start o (Bind x e) w r q h = h
filled_op m start o (CombRead x n a) w r q h = h
filled_op m start o (DelayedRead x n a) w r q h = h
filled_op m start o (ReserveRead n a) w r q h = h
filled_op m start o (Block n a) w r q h = h
filled_op m start o (Call args) w r q h = h
filled_op m start o (SpecCall args) w r q h = h
filled_op m start o SpecCheck w r q h = h
filled_op m start o (AdviceBind x' e') w r q h = h
filled_op m start o (AdviceRead x' m' a') w r q h = h
filled_op m start o (AdviceWrite m' a' e') w r q h = h
filled_op m start o SpecBarrier w r q h = h

filled_all : (m : ℕ) (start : List Entry) (o : Around) (xs : List Stmt) (w : Work)
    → none_of (is_reserve m) xs ≡ true → none_of (is_release m) xs ≡ true → Filled start (entries_of m w.entries)
    → Filled start (entries_of m (do_all o xs w).entries)
filled_all m start o [] w r q h = h
filled_all m start o (x ∷ xs) w r q h =
    filled_all m start o xs (step o x w) (and_right (not (is_reserve m x.op)) _ r) (and_right (not (is_release m x.op)) _ q) (at (all_hold x.guards w.env))
  where
    at : (b : Bool) → Filled start (entries_of m (cond b (work_after o x.op w) w).entries)
    at true = filled_op m start o x.op w (and_left _ _ r) (and_left _ _ q) h
    at false = h

-- READINESS

calm_filled : (m a : ℕ) (es fs : List Entry) (r r' : Latest) → Filled es fs → Calm r r'
    → Calm (latest_in es m a r) (latest_in fs m a r')
calm_filled m a [] [] r r' h c = c
calm_filled m a [] (x ∷ fs) r r' h c = absurd h
calm_filled m a (e ∷ es) [] r r' h c = absurd h
calm_filled m a (e ∷ es) (x ∷ fs) r r' h c =
    subst (λ n. Calm (latest_in (e ∷ es) m a r) (cond ((n == m) && (x.address == a)) (as_latest x.value) (latest_in fs m a r'))) (sym h.0)
    (subst (λ n. Calm (latest_in (e ∷ es) m a r) (cond ((e.mem == m) && (n == a)) (as_latest x.value) (latest_in fs m a r'))) (sym h.1)
    (at ((e.mem == m) && (e.address == a)) (calm_filled m a es fs r r' h.3 c)))
  where
    at : (b : Bool)
        → Calm (latest_in es m a r) (latest_in fs m a r')
        → Calm (cond b (as_latest e.value) (latest_in es m a r)) (cond b (as_latest x.value) (latest_in fs m a r'))
    at true k = calm_value e.value x.value h.2
    at false k = k

calm_same : (m a : ℕ) (es : List Entry) (r r' : Latest) → Calm r r' → Calm (latest_in es m a r) (latest_in es m a r')
calm_same m a [] r r' c = c
calm_same m a (e ∷ es) r r' c = at ((e.mem == m) && (e.address == a)) (calm_same m a es r r' c)
  where
    at : (b : Bool) → Calm (latest_in es m a r) (latest_in es m a r')
        → Calm (cond b (as_latest e.value) (latest_in es m a r)) (cond b (as_latest e.value) (latest_in es m a r'))
    at true h = ((λ i. i), (λ i. i))
    at false h = h

none_latest : (m a : ℕ) (ks : List Live) → Each (λ k. entries_of m k.thread.entries ≡ []) ks → latest (threads_of ks) m a ≡ Nothing
none_latest m a [] h = refl
none_latest m a (k ∷ ks) h =
    latest_own k.thread.entries m a (latest (threads_of ks) m a) ∙ ap (λ l. latest_in l m a (latest (threads_of ks) m a)) h.0 ∙ none_latest m a ks h.1

module _ (p : Pipe) (flows : Flows p) (st : State) (d : Derived.State) (bits : List Bool) (arrays : DifferInAdvice p st.arrays d.arrays) where
  -- a thread past the releases of m, behind all these, finds no write of theirs pending after the cycle
  late_next : (m a s : ℕ) (ks : List Live) → AllKnown p flows st d bits arrays ks
      → Each (λ k. Behind p s k.thread.stage) ks → commit_stage p m ≤ s
      → latest (threads_of (go_on p st d bits ks)) m a ≡ Nothing
  late_next m a s ks k b low =
      none_latest m a (go_on p st d bits ks)
      (both (go_on p st d bits ks) (ways_on p flows st d bits arrays ks k) (behind_stay p flows st d bits arrays s ks k b))
    where
      both : (ls : List Live) → Each (ThreadPlaces.OnWay p flows st d bits arrays) ls
          → Each (λ k. Behind p s k.thread.stage) ls → Each (λ k. entries_of m k.thread.entries ≡ []) ls
      both [] w i = tt
      both (l ∷ ls) w i = (late p flows l.env l.thread w.0.0 m (left_trunk p _ _ i.0 (commit_stage p m) (flows.trunk_commit m) low), both ls w.1 i.1)

  -- what the older threads' writes say of an address stays calm as they go on, past the stage of m's reserves
  pub calm_next : (m a : ℕ) (ks : List Live) → AllKnown p flows st d bits arrays ks → Ordered p ks
      → Each (λ k. reserve_stage p m < k.thread.stage) ks → fell p d bits ks ≡ false
      → Calm (latest (threads_of ks) m a) (latest (threads_of (go_on p st d bits ks)) m a)
  calm_next m a [] k o h f = ((λ i. i), (λ i. i))
  calm_next m a (l ∷ ks) k o h f = at (fell p d bits ks) refl (did p d bits ks l).moves f (λ g. calm_next m a ks k.1 o.1 h.1 g)
    where
      w : Work
      w = work_of_live p d bits ks l

      kept : none_of (is_reserve m) (in_stage l.thread.stage p.stmts) ≡ true
      kept = none_in_stage (is_reserve m) (reserve_stage p m) l.thread.stage p.stmts (flows.reserves m) (λ e. absurd (let i = h.0 in omega arith))

      -- where it releases nothing is left, else more has a value
      own : Calm (latest (threads_of ks) m a) (latest (threads_of (go_on p st d bits ks)) m a)
          → Calm (latest_in l.thread.entries m a (latest (threads_of ks) m a))
          (latest_in (work_of_live p d bits ks l).entries m a (latest (threads_of (go_on p st d bits ks)) m a))
      own c =
          by_memory l.thread.stage (commit_stage p m)
          (Calm (latest_in l.thread.entries m a (latest (threads_of ks) m a))
          (latest_in (work_of_live p d bits ks l).entries m a (latest (threads_of (go_on p st d bits ks)) m a)))
          (λ i. calm_nothing _ _ (latest_own (work_of_live p d bits ks l).entries m a _
          ∙ ap (λ es. latest_in es m a (latest (threads_of (go_on p st d bits ks)) m a))
          (late_here p flows st d bits arrays ks l k.0 m
          (let j = i in let u = stage_up p flows l.env l.thread k.0.seated.keeps_on (work_of_live p d bits ks l).env in omega arith))
          ∙ late_next m a l.thread.stage ks k.1 o.0 (let j = i in omega arith)))
          (λ i.
          subst
          (λ x. Calm x (latest_in (work_of_live p d bits ks l).entries m a (latest (threads_of (go_on p st d bits ks)) m a)))
          (sym (latest_own l.thread.entries m a _))
          (subst (λ x. Calm (latest_in (entries_of m l.thread.entries) m a (latest (threads_of ks) m a)) x)
          (sym (latest_own (work_of_live p d bits ks l).entries m a _))
          (calm_filled m a (entries_of m l.thread.entries) (entries_of m (work_of_live p d bits ks l).entries) (latest (threads_of ks) m a)
          (latest (threads_of (go_on p st d bits ks)) m a)
          (filled_all m (entries_of m l.thread.entries) (around p d bits (dacts p d bits ks) l.thread.stage l.thread.hint) (in_stage l.thread.stage p.stmts)
          (start_of (now_of p d bits l)) kept (none_in_stage (is_release m) (commit_stage p m) l.thread.stage p.stmts (flows.releases m) i)
          (filled_same (entries_of m l.thread.entries))) c)))

      out : (r : Option ℕ) → goes_to (stage_at p l.thread.stage).next (work_of_live p d bits ks l).env ≡ r
          → Calm (latest (threads_of ks) m a) (latest (threads_of (go_on p st d bits ks)) m a)
          → Calm (latest_in l.thread.entries m a (latest (threads_of ks) m a))
          (latest (threads_of (moved_live r (advised p st bits l) (work_of_live p d bits ks l) ++ go_on p st d bits ks)) m a)
      out None e c =
          subst (λ x. Calm (latest_in l.thread.entries m a (latest (threads_of ks) m a)) x)
          (latest_own (work_of_live p d bits ks l).entries m a _
          ∙ ap (λ es. latest_in es m a (latest (threads_of (go_on p st d bits ks)) m a))
          (ends_here p flows st d bits arrays ks l k.0 m (ap (stage_or (length p.stages)) e)))
          (own c)
      out (Some q) e c = own c

      second : (b c : Bool) → ((b && c) || fell p d bits ks) ≡ false → fell p d bits ks ≡ false
      second true true g = absurd (cc g)
      second true false g = g
      second false c g = g

      at : (g : Bool) → fell p d bits ks ≡ g → (b : Bool)
          → ((b && (work_of_live p d bits ks l).fails) || fell p d bits ks) ≡ false
          → (fell p d bits ks ≡ false → Calm (latest (threads_of ks) m a) (latest (threads_of (go_on p st d bits ks)) m a))
          → Calm (latest_in l.thread.entries m a (latest (threads_of ks) m a))
          (latest
          (threads_of
          ((if g then []
          else cond b
          (moved_live (goes_to (stage_at p l.thread.stage).next (work_of_live p d bits ks l).env) (advised p st bits l) (work_of_live p d bits ks l))
          (stood p st d bits l ∷ []))
          ++ go_on p st d bits ks)) m a)
      at true e b i c = absurd (cc (sym (second b (work_of_live p d bits ks l).fails i) ∙ e))
      at false e true i c = out (goes_to (stage_at p l.thread.stage).next (work_of_live p d bits ks l).env) refl (c e)
      at false e false i c = calm_same m a l.thread.entries (latest (threads_of ks) m a) (latest (threads_of (go_on p st d bits ks)) m a) (c e)
