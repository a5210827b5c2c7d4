-- Both machines decide alike which threads move.
use Rattle.std.proofs.Common.{◌≡◌, refl, sym, ap, ap₂, ◌∙◌, subst, ℕ, ◌≤◌, ◌<◌, ◌⊎◌, inl, inr, Bool, true, false, ◌&&◌, ◌||◌, not, List, [], ◌∷◌, ◌++◌, length, Option, Some, None, is_none, is_some, ◌==◌, cond, if◌then◌else◌, arith, slice_set, eq-eqb}
use Rattle.std.proofs.lemmas.Bool.{eqb-true, eqb-false, ne_eqb, not-true}
use Rattle.pdl_semantics.specs.Flat.{Array, Pipe, is_advisory, Op, DelayedRead, CombRead, Block, Stmt, list_all, word_at, Verify}
use Rattle.pdl_semantics.specs.Stages.{list_any, onpath, in_stage, mem_at, stage_at, goes_to, is_check, is_reserve, reserve_stage, commit_stage, is_verify}
use Rattle.pdl_semantics.specs.Locks.{Latest, has_room}
use Rattle.pdl_semantics.specs.Machine.{Ask, Reserved, reserves_of, Awaited, is_answered, Request, NoRequest, Owned, Orphan, State, Deeds, lock_of, request_of, older_write, word_for, held_before, with_kept, unanswered_reads, answer_to, answer_for, kept_answer, with_answers, deeds_after_all}
use Rattle.pdl_semantics.specs.Moves.{block_ready, is_free, next_stage}
use Rattle.pdl_semantics.specs.Locks
use Rattle.pdl_semantics.specs.Machine
use Rattle.pdl_semantics.specs.Moves
use Rattle.pdl_semantics.specs.Promises.{DifferInAdvice, fits_kind}
use Rattle.pdl_theory_turns.proofs.Paths.{Fixed}
use Rattle.pdl_theory_simulation.proofs.Guessing.{unguessed, foreseen, renewed}
use Rattle.pdl_theory_turns.specs.Derived.{Work, latest, pending, befores, around, awaits_mem, port_free, still, asked_at, word_of}
use Rattle.pdl_theory_turns.specs.Derived
use Rattle.pdl_theory_turns.specs.Scans.{all_at, none_of}
use Rattle.pdl_theory_simulation.proofs.FlowFacts.{Flows, at_most_one, next_of}
use Rattle.pdl_theory_turns.proofs.Writes.{and_left, and_right}
use Rattle.pdl_theory_turns.proofs.Entries.{entries_of}
use Rattle.pdl_theory_turns.proofs.Deeds.{Told, Fits, AllFit, AllGuesses, Loosely, loose_start, loose_all, told_all}
use Rattle.pdl_theory_turns.proofs.Lists.{pend}
use Rattle.pdl_theory_turns.proofs.OwnEntries.{Worked}
use Rattle.pdl_theory_simulation.proofs.Stretches.{Keeps, Fetched, AllFetched, start_deeds, start_of, has_made, fixed_here, calls_here, keeps_answered, stage_worked, ends_empty, late_empty, has_done, once_here}
use Rattle.pdl_theory_simulation.proofs.StretchSteps.{AsksFrom, asks_from, ReservesFrom, reserves_from}
use Rattle.pdl_theory_simulation.proofs.Seats.{Live, seat, Falls, dacts, lacts, lact, did, now_of, work_of_live, deeds_of}
use Rattle.pdl_theory_turns.proofs.OfStage.{none_stage}
use Rattle.pdl_theory_turns.proofs.Turn.{none_in_stage}
use Rattle.pdl_semantics.specs.Sound.{is_delayed_read, is_spec_call}
use Rattle.pdl_word.specs.Each.{Each}
use Rattle.pdl_semantics.proofs.Facts.{kept_append}
use Rattle.pdl_theory_turns.specs.GuessScans.{is_update}
use Rattle.pdl_theory_turns.proofs.Guesses.{unfailed}

-- REQUESTS

-- whether the thread of this number is there and awaits m
abbrev pub has_owner : ℕ → ℕ → List Live → Bool
has_owner n m [] = false
has_owner n m (l ∷ ls) = ((l.number == n) && awaits_mem l.thread.awaits m) || has_owner n m ls

-- the request of m in both machines: a request's owner lives and awaits it, an orphan is outstanding in both
abbrev pub Matched : Request → Option ℕ → ℕ → List Live → Type 0
Matched NoRequest o m ls = o ≡ None
Matched (Owned n a) o m ls = (o ≡ Some a) × (has_owner n m ls ≡ true)
Matched (Orphan a) o m ls = o ≡ Some a

-- the number of the thread that owns a request, 0 where none does
abbrev pub owner_of : Request → ℕ
owner_of NoRequest = 0
owner_of (Owned n a) = n
owner_of (Orphan a) = 0

-- a thread's awaited reads have their requests outstanding, and are its own
abbrev pub OwnedBy : State → ℕ → ℕ → Type 0
OwnedBy st n m = (a : ℕ) × (request_of st m ≡ Owned n a)

-- each of these awaited reads has a request that thread n owns
abbrev pub AllOwned : State → ℕ → List Awaited → Type 0
AllOwned st n [] = Unit {0}
AllOwned st n (r ∷ rs) = OwnedBy st n r.mem × AllOwned st n rs

owned_of : (st : State) (n m : ℕ) (rs : List Awaited) → AllOwned st n rs → awaits_mem rs m ≡ true → OwnedBy st n m
owned_of st n m [] o h = absurd (cc h)
owned_of st n m (r ∷ rs) o h = at (r.mem == m) refl h (λ k. owned_of st n m rs o.1 k)
  where
    at : (b : Bool) → (r.mem == m) ≡ b → (b || awaits_mem rs m) ≡ true → (awaits_mem rs m ≡ true → OwnedBy st n m) → OwnedBy st n m
    at true e k f = subst (λ j. OwnedBy st n j) (eqb-true r.mem m e) o.0
    at false e k f = f k

-- a memory that is awaited is read in the stage before, where each awaited one is
pub fetched_of : (p : Pipe) (s m : ℕ) (rs : List Awaited) → AllFetched p s rs → awaits_mem rs m ≡ true → Fetched p s m
fetched_of p s m [] o h = absurd (cc h)
fetched_of p s m (r ∷ rs) o h = at (r.mem == m) refl h (λ k. fetched_of p s m rs o.1 k)
  where
    at : (b : Bool) → (r.mem == m) ≡ b → (b || awaits_mem rs m) ≡ true → (awaits_mem rs m ≡ true → Fetched p s m) → Fetched p s m
    at true e k f = subst (λ j. Fetched p s j) (eqb-true r.mem m e) o.0
    at false e k f = f k

-- one delayed read statement stands in one stage
pub one_stage : (test : Op → Bool) (xs : List Stmt) (j k : ℕ)
    → at_most_one test xs ≡ true → none_of test (in_stage j xs) ≡ false → none_of test (in_stage k xs) ≡ false → j ≡ k
one_stage test [] j k h f g = absurd (cc f)
one_stage test (x ∷ xs) j k h f g = at (test x.op) refl h (λ i. one_stage test xs j k i)
  where
    clash : true ≡ false → ⊥
    clash i = cc

    -- the only one
    mine : (s : ℕ) → none_of test xs ≡ true → none_of test (in_stage s (x ∷ xs)) ≡ false → x.stage ≡ s
    mine s n i = by (x.stage == s) refl i
      where
        by : (b : Bool) → (x.stage == s) ≡ b → none_of test (cond b (x ∷ in_stage s xs) (in_stage s xs)) ≡ false → x.stage ≡ s
        by true e i = eqb-true _ _ e
        by false e i = absurd (clash (sym (none_stage test s xs n) ∙ i))

    skip : (s : ℕ) → test x.op ≡ false → none_of test (in_stage s (x ∷ xs)) ≡ false → none_of test (in_stage s xs) ≡ false
    skip s e i = by (x.stage == s) i
      where
        by : (b : Bool) → none_of test (cond b (x ∷ in_stage s xs) (in_stage s xs)) ≡ false → none_of test (in_stage s xs) ≡ false
        by true i = ap (λ t. not t && none_of test (in_stage s xs)) (sym e) ∙ i
        by false i = i

    at : (b : Bool) → test x.op ≡ b → (if b then none_of test xs else at_most_one test xs) ≡ true
        → (at_most_one test xs ≡ true → none_of test (in_stage j xs) ≡ false → none_of test (in_stage k xs) ≡ false → j ≡ k)
        → j ≡ k
    at true e n r = sym (mine j n f) ∙ mine k n g
    at false e n r = r n (skip j e f) (skip k e g)

-- a live thread keeps to its way, its kept answers are in the derived machine's values, and it owns its requests
pub record Seated (p : Pipe) (st : State) (l : Live) : Type 0 where
  pub keeps_on : Keeps p l.env l.thread
  pub kept_in : with_kept l.kept l.env ≡ l.thread.env
  pub owned : AllOwned st l.number l.thread.awaits

module _ (p : Pipe) (flows : Flows p) (st : State) (d : Derived.State) (bits : List Bool) (arrays : DifferInAdvice p st.arrays d.arrays) where
  -- an advisory memory is never read delayed
  unread : (m : ℕ)
      → is_advisory (mem_at p m).kind ≡ true → (xs : List Stmt) → list_all (λ x. fits_kind p x.op) xs ≡ true
      → none_of (is_delayed_read m) xs ≡ true
  unread m a [] h = refl
  unread m a (x ∷ xs) h = ap₂ (λ b c. b && c) (off x.op (and_left _ _ h)) (unread m a xs (and_right (fits_kind p x.op) _ h))
    where
      off : (op : Op) → fits_kind p op ≡ true → not (is_delayed_read m op) ≡ true
      off (DelayedRead y n b) i = at (n == m) refl
        where
          at : (c : Bool) → (n == m) ≡ c → not (n == m) ≡ true
          at true e = absurd (cc (sym i ∙ ap (λ j. not (is_advisory (mem_at p j).kind)) (eqb-true _ _ e) ∙ ap not a))
          at false e = ap not e
      off _ i = refl

  -- a memory that is read delayed is not advisory
  pub plain_fetch : (s m : ℕ) → Fetched p s m → is_advisory (mem_at p m).kind ≡ false
  plain_fetch s m f = at (is_advisory (mem_at p m).kind) refl
    where
      at : (b : Bool) → is_advisory (mem_at p m).kind ≡ b → is_advisory (mem_at p m).kind ≡ false
      at true e = absurd (cc (sym (none_stage (is_delayed_read m) f.0 p.stmts (unread m e p.stmts flows.advice)) ∙ f.2))
      at false e = e

  -- ANSWERS

  -- the answer to an own request
  answer_is : (n m a : ℕ) → request_of st m ≡ Owned n a → answer_for p st bits n m ≡ cond (is_answered p bits m) (Some (word_at st.arrays m a)) None
  answer_is n m a e = ap (λ q. answer_to st n m q (is_answered p bits m)) e ∙ at (is_answered p bits m)
    where
      at : (b : Bool) → cond (b && (n == n)) (Some (word_at st.arrays m a)) None ≡ cond b (Some (word_at st.arrays m a)) None
      at true = ap (λ c. cond c (Some (word_at st.arrays m a)) None) (eq-eqb n n refl)
      at false = refl

  -- of reads whose requests a thread owns, a cycle leaves the same unanswered in both machines
  pub waits_are : (n : ℕ) (rs : List Awaited) → AllOwned st n rs → unanswered_reads p st bits n rs ≡ still p bits rs
  waits_are n [] o = refl
  waits_are n (r ∷ rs) o = ap₂ (λ x l. cond (is_some x) [] (r ∷ []) ++ l) (answer_is n r.mem o.0.0 o.0.1) (waits_are n rs o.1) ∙ at (is_answered p bits r.mem)
    where
      at : (b : Bool)
          → cond (is_some (cond b (Some (word_at st.arrays r.mem o.0.0)) None)) [] (r ∷ []) ++ still p bits rs ≡ cond b (still p bits rs) (r ∷ still p bits rs)
      at true = refl
      at false = refl

  module _ (all : List Live) (matched : (m : ℕ) → Matched (request_of st m) (asked_at d m) m all) where
    asked_is : (n m a : ℕ) → request_of st m ≡ Owned n a → asked_at d m ≡ Some a
    asked_is n m a e = (subst (λ q. Matched q (asked_at d m) m all) e (matched m)).0

    values_are : (n s : ℕ) (rs : List Awaited) (env : List ℕ) → AllOwned st n rs
        → AllFetched p s rs → with_kept (Machine.answered_reads p st bits n rs) env ≡ Derived.with_answers p d bits rs env
    values_are n s [] env o g = refl
    values_are n s (r ∷ rs) env o g =
        ap (λ x. with_kept (kept_answer r.var x ++ Machine.answered_reads p st bits n rs) env) (answer_is n r.mem o.0.0 o.0.1)
        ∙ at (is_answered p bits r.mem) (λ e. values_are n s rs e o.1 g.1)
      where
        word : word_at st.arrays r.mem o.0.0 ≡ word_of d.arrays r.mem (asked_at d r.mem)
        word = ap (λ (w : Array). w o.0.0) (arrays r.mem (plain_fetch s r.mem g.0)) ∙ ap (word_of d.arrays r.mem) (sym (asked_is n r.mem o.0.0 o.0.1))

        at : (b : Bool) → ((e : List ℕ) → with_kept (Machine.answered_reads p st bits n rs) e ≡ Derived.with_answers p d bits rs e)
            → with_kept (kept_answer r.var (cond b (Some (word_at st.arrays r.mem o.0.0)) None) ++ Machine.answered_reads p st bits n rs) env
            ≡ Derived.with_answers p d bits rs (cond b (slice_set env r.var (word_of d.arrays r.mem (asked_at d r.mem))) env)
        at true f = f _ ∙ ap (λ v. Derived.with_answers p d bits rs (slice_set env r.var v)) word
        at false f = f _

    -- a thread's values with its answers
    pub env_is : (l : Live) → Seated p st l → with_kept (with_answers p st bits (seat l)).kept l.env ≡ (now_of p d bits l).env
    env_is l s =
        kept_append l.kept _ l.env
        ∙ ap (with_kept (Machine.answered_reads p st bits l.number l.thread.awaits)) s.kept_in
        ∙ values_are l.number l.thread.stage l.thread.awaits l.thread.env s.owned s.keeps_on.fetched

    -- PORTS

    -- nobody awaits what is nobody's
    none_awaits : (m : ℕ) (ls : List Live) → Each (Seated p st) ls → ((n : ℕ) → OwnedBy st n m → ⊥)
        → list_all (λ (o : Derived.Act). not (awaits_mem o.before.awaits m) || o.moves) (dacts p d bits ls) ≡ true
    none_awaits m [] s f = refl
    none_awaits m (l ∷ ls) s f = ap₂ (λ b c. (not b || (did p d bits ls l).moves) && c) (none (awaits_mem l.thread.awaits m) refl) (none_awaits m ls s.1 f)
      where
        none : (b : Bool) → awaits_mem l.thread.awaits m ≡ b → awaits_mem l.thread.awaits m ≡ false
        none true e = absurd (f l.number (owned_of st l.number m l.thread.awaits s.0.owned e))
        none false e = e

    -- numbers of older threads are others
    no_number : (n bound : ℕ) (ls : List Live) → Falls bound ls → bound ≤ n
        → list_any (λ (o : Moves.Act). (o.thread.number == n) && o.moves) (lacts p st d bits ls) ≡ false
    no_number n bound [] f h = refl
    no_number n bound (l ∷ ls) f h =
        ap₂ (λ b c. (b && (did p d bits ls l).moves) || c)
        (ne_eqb l.number n (λ e. absurd (let i = f.0 in omega arith)))
        (no_number n l.number ls f.1 (let i = f.0 in omega arith))

    no_owner : (n m bound : ℕ) (ls : List Live) → Falls bound ls → bound ≤ n → has_owner n m ls ≡ false
    no_owner n m bound [] f h = refl
    no_owner n m bound (l ∷ ls) f h =
        ap₂ (λ b c. (b && awaits_mem l.thread.awaits m) || c)
        (ne_eqb l.number n (λ e. absurd (let i = f.0 in omega arith)))
        (no_owner n m l.number ls f.1 (let i = f.0 in omega arith))

    all_others : (n m bound : ℕ) (ls : List Live) → Falls bound ls → bound ≤ n
        → Each (λ k. awaits_mem k.thread.awaits m ≡ true → k.number ≡ n) ls
        → list_all (λ (o : Derived.Act). not (awaits_mem o.before.awaits m) || o.moves) (dacts p d bits ls) ≡ true
    all_others n m bound [] f h o = refl
    all_others n m bound (l ∷ ls) f h o =
        ap₂ (λ b c. (not b || (did p d bits ls l).moves) && c) (none (awaits_mem l.thread.awaits m) refl)
        (all_others n m l.number ls f.1 (let i = f.0 in omega arith) o.1)
      where
        none : (b : Bool) → awaits_mem l.thread.awaits m ≡ b → awaits_mem l.thread.awaits m ≡ false
        none true e = absurd (let i = o.0 e in let j = f.0 in omega arith)
        none false e = e

    -- the owner moves
    owner_moves : (n m bound : ℕ) (ls : List Live) → Falls bound ls
        → Each (λ k. awaits_mem k.thread.awaits m ≡ true → k.number ≡ n) ls → has_owner n m ls ≡ true
        → list_any (λ (o : Moves.Act). (o.thread.number == n) && o.moves) (lacts p st d bits ls)
        ≡ list_all (λ (o : Derived.Act). not (awaits_mem o.before.awaits m) || o.moves) (dacts p d bits ls)
    owner_moves n m bound [] f o h = absurd (cc h)
    owner_moves n m bound (l ∷ ls) f o h = at (l.number == n) refl (awaits_mem l.thread.awaits m) refl h (λ i. owner_moves n m l.number ls f.1 o.1 i)
      where
        clash : false ≡ true → ⊥
        clash i = cc

        one : (b : Bool) → (b || false) ≡ (b && true)
        one true = refl
        one false = refl

        at : (b : Bool) → (l.number == n) ≡ b → (c : Bool) → awaits_mem l.thread.awaits m ≡ c → ((b && c) || has_owner n m ls) ≡ true
            → (has_owner n m ls ≡ true
            → list_any (λ (o : Moves.Act). (o.thread.number == n) && o.moves) (lacts p st d bits ls)
            ≡ list_all (λ (o : Derived.Act). not (awaits_mem o.before.awaits m) || o.moves) (dacts p d bits ls))
            → (((l.number == n) && (did p d bits ls l).moves) || list_any (λ (o : Moves.Act). (o.thread.number == n) && o.moves) (lacts p st d bits ls))
            ≡ ((not (awaits_mem l.thread.awaits m) || (did p d bits ls l).moves)
            && list_all (λ (o : Derived.Act). not (awaits_mem o.before.awaits m) || o.moves) (dacts p d bits ls))
        at true e true g k r =
            ap₂ (λ x y. (x && (did p d bits ls l).moves) || y) e (no_number n l.number ls f.1 (let i = eqb-true _ _ e in omega arith))
            ∙ one (did p d bits ls l).moves
            ∙ sym (ap₂ (λ x y. (not x || (did p d bits ls l).moves) && y) g (all_others n m l.number ls f.1 (let i = eqb-true _ _ e in omega arith) o.1))
        at true e false g k r = absurd (clash (sym (no_owner n m l.number ls f.1 (let i = eqb-true _ _ e in omega arith)) ∙ k))
        at false e true g k r = absurd (eqb-false _ _ e (o.0 g))
        at false e false g k r =
            ap (λ x. (x && (did p d bits ls l).moves) || list_any (λ (o : Moves.Act). (o.thread.number == n) && o.moves) (lacts p st d bits ls)) e
            ∙ r k
            ∙ sym
            (ap
            (λ x. (not x || (did p d bits ls l).moves)
            && list_all (λ (o : Derived.Act). not (awaits_mem o.before.awaits m) || o.moves) (dacts p d bits ls)) g)

    -- who awaits an owned request is its owner
    owners : (n m a : ℕ) → request_of st m ≡ Owned n a → (ls : List Live) → Each (Seated p st) ls
        → Each (λ k. awaits_mem k.thread.awaits m ≡ true → k.number ≡ n) ls
    owners n m a e [] s = tt
    owners n m a e (l ∷ ls) s = ((λ h. same (owned_of st l.number m l.thread.awaits s.0.owned h)), owners n m a e ls s.1)
      where
        same : OwnedBy st l.number m → l.number ≡ n
        same o = ap owner_of (sym o.1 ∙ e)

    -- the port of m is free in both machines
    pub port_is : (m bound : ℕ) (ls : List Live) → Each (Seated p st) ls → Falls bound ls → ((n a : ℕ) → request_of st m ≡ Owned n a → has_owner n m ls ≡ true)
        → is_free (request_of st m) (is_answered p bits m) (lacts p st d bits ls) ≡ port_free p d bits (dacts p d bits ls) m
    port_is m bound ls s f h = at (request_of st m) refl (matched m)
      where
        older : Bool
        older = list_all (λ (o : Derived.Act). not (awaits_mem o.before.awaits m) || o.moves) (dacts p d bits ls)

        at : (q : Request) → request_of st m ≡ q → Matched q (asked_at d m) m all
            → is_free q (is_answered p bits m) (lacts p st d bits ls)
            ≡ (is_none (asked_at d m)
            || (is_answered p bits m && list_all (λ (o : Derived.Act). not (awaits_mem o.before.awaits m) || o.moves) (dacts p d bits ls)))
        at NoRequest e k =
            sym
            (ap
            (λ o. is_none o || (is_answered p bits m && list_all (λ (o : Derived.Act). not (awaits_mem o.before.awaits m) || o.moves) (dacts p d bits ls))) k)
        at (Owned n a) e k =
            ap (λ x. is_answered p bits m && x) (owner_moves n m bound ls f (owners n m a e ls s) (h n a e))
            ∙ sym
            (ap
            (λ o. is_none o
            || (is_answered p bits m && list_all (λ (o : Derived.Act). not (awaits_mem o.before.awaits m) || o.moves) (dacts p d bits ls))) k.0)
        at (Orphan a) e k =
            sym (and_true (is_answered p bits m)) ∙ ap (λ x. is_answered p bits m && x) (sym (none_awaits m ls s (λ n o. clash (sym e ∙ o.1))))
            ∙ sym
            (ap
            (λ o. is_none o
            || (is_answered p bits m && list_all (λ (o : Derived.Act). not (awaits_mem o.before.awaits m) || o.moves) (dacts p d bits ls))) k)
          where
            clash : {n a' : ℕ} → Orphan a ≡ Owned n a' → ⊥
            clash i = cc

            and_true : (b : Bool) → (b && true) ≡ b
            and_true true = refl
            and_true false = refl

  -- ONE THREAD

  -- what is known of a live thread at the start, behind these older ones
  pub record Known (ls : List Live) (l : Live) : Type 0 where
    pub seated : Seated p st l
    pub waits : unanswered_reads p st bits l.number l.thread.awaits ≡ still p bits l.thread.awaits
    pub values : with_kept (with_answers p st bits (seat l)).kept l.env ≡ (now_of p d bits l).env
    pub older : (m a : ℕ) → older_write st l.number m a ≡ latest (befores (dacts p d bits ls)) m a
    pub room : (m : ℕ) → l.thread.stage ≡ reserve_stage p m → pending (befores (dacts p d bits ls)) m ≡ length (lock_of st m)

  -- what is known of a live thread at the start is known of each of these, behind the older ones
  abbrev pub AllKnown : List Live → Type 0
  AllKnown [] = Unit {0}
  AllKnown (l ∷ ls) = Known ls l × AllKnown ls

  -- what both machines ask of a thread's surroundings
  abbrev pub Same_deeds : List Live → Live → Deeds → Work → Type 0
  Same_deeds ls l e w =
      Told (around p d bits (dacts p d bits ls) l.thread.stage l.thread.hint) (word_for st l.number) (λ b. block_ready p st l.number b)
      (λ q. port_free p d bits (dacts p d bits ls) q.mem) e w

  -- what a thread finds around it in the derived machine says of these statements what the stated conditions say
  abbrev pub FitsAll : List Live → Live → List Stmt → Type 0
  FitsAll ls l xs =
      AllFit (around p d bits (dacts p d bits ls) l.thread.stage l.thread.hint) (word_for st l.number) (λ b. block_ready p st l.number b)
      (λ q. port_free p d bits (dacts p d bits ls) q.mem) xs

  fits : (ls : List Live) (l : Live) → Known ls l → (op : Op) → fits_kind p op ≡ true → ((m : ℕ) → is_reserve m op ≡ true → l.thread.stage ≡ reserve_stage p m)
      → Fits (around p d bits (dacts p d bits ls) l.thread.stage l.thread.hint) (word_for st l.number) (λ b. block_ready p st l.number b)
      (λ q. port_free p d bits (dacts p d bits ls) q.mem) op
  fits ls l k (CombRead x m a) g f = λ n. ap₂ (λ (o : Latest) (w : Array). Locks.value_or o (w n)) (sym (k.older m n)) (sym (arrays m (not-true _ g)))
  fits ls l k (DelayedRead x m a) g f = λ n. refl
  fits ls l k (Block m a) g f = λ n. (ap (Locks.write_ready (mem_at p m).lock) (sym (k.older m n)), ap (Locks.read_ready (mem_at p m).lock) (sym (k.older m n)))
  fits ls l k _ g f = tt

  fit_from : (ls : List Live) (l : Live) → Known ls l → (xs : List Stmt)
      → list_all (λ x. fits_kind p x.op) xs ≡ true → ((m : ℕ) → all_at (is_reserve m) (reserve_stage p m) xs ≡ true) → FitsAll ls l (in_stage l.thread.stage xs)
  fit_from ls l k [] g f = tt
  fit_from ls l k (x ∷ xs) g f = at (x.stage == l.thread.stage) refl (fit_from ls l k xs (and_right (fits_kind p x.op) _ g) (λ m. and_right _ _ (f m)))
    where
      at : (b : Bool) → (x.stage == l.thread.stage) ≡ b → FitsAll ls l (in_stage l.thread.stage xs)
          → FitsAll ls l (cond b (x ∷ in_stage l.thread.stage xs) (in_stage l.thread.stage xs))
      at true e r = (
        fits ls l k x.op (and_left _ _ g)
            (λ m i. sym (eqb-true _ _ e) ∙ eqb-true _ _ (subst (λ t. (not t || (x.stage == reserve_stage p m)) ≡ true) i (and_left _ _ (f m)))),
        r,
      )
      at false e r = r

  -- of a live thread's stage, what it finds around it in the derived machine says what the stated conditions say
  pub fit_all : (ls : List Live) (l : Live) → Known ls l → FitsAll ls l (in_stage l.thread.stage p.stmts)
  fit_all ls l k = fit_from ls l k p.stmts flows.advice flows.reserves

  -- a live thread keeps to its way with this cycle's answers
  pub keeps_now : (l : Live) → Seated p st l → Keeps p l.env (now_of p d bits l)
  keeps_now l s = keeps_answered p d bits l.env l.thread s.keeps_on

  -- the deeds with which its stage begins, where these are its values
  abbrev pub begun : Live → List ℕ → Deeds
  begun l env = record {
    env = env;
    advice = l.advice;
    guess = l.thread.guess;
    held = held_before l.thread.stage l.env p.stmts [];
    blocks = [];
    reserves = [];
    writes = [];
    releases = [];
    asks = [];
    advises = [];
    barrier = false;
    child = None;
    fails = false;
  }

  -- a thread's deeds begin with its values in the derived machine
  pub deeds_are : (ls : List Live) (l : Live) (k : Known ls l)
      → deeds_of p st bits l
      ≡ deeds_after_all (word_for st l.number) (in_stage l.thread.stage p.stmts) (start_deeds p flows l.env (now_of p d bits l) (keeps_now l k.seated) l.advice)
  deeds_are ls l k = λ i. deeds_after_all (word_for st l.number) (in_stage l.thread.stage p.stmts) (begun l (k.values i))

  -- deeds and work of a thread's stage agree but for the guess
  abbrev pub Like_deeds : List Live → Live → Deeds → Work → Type 0
  Like_deeds ls l e w =
      Loosely (around p d bits (dacts p d bits ls) l.thread.stage l.thread.hint) (word_for st l.number) (λ b. block_ready p st l.number b)
      (λ q. port_free p d bits (dacts p d bits ls) q.mem) e w

  -- they do where the stage begins
  pub starts_here : (ls : List Live) (l : Live) (k : Known ls l) → Like_deeds ls l (begun l (now_of p d bits l).env) (start_of (now_of p d bits l))
  starts_here ls l k = loose_start (around p d bits (dacts p d bits ls) l.thread.stage l.thread.hint) (word_for st l.number) (λ b. block_ready p st l.number b)
      (λ q. port_free p d bits (dacts p d bits ls) q.mem) (begun l (now_of p d bits l).env) l.thread.entries [] k.seated.keeps_on.held

  -- a thread's stage does the same in both machines, but for its guess
  pub like_here : (ls : List Live) (l : Live) → Known ls l → Like_deeds ls l (deeds_of p st bits l) (work_of_live p d bits ls l)
  like_here ls l k =
      subst (λ e. Like_deeds ls l e (work_of_live p d bits ls l)) (sym (deeds_are ls l k))
      (loose_all (around p d bits (dacts p d bits ls) l.thread.stage l.thread.hint) (word_for st l.number) (λ b. block_ready p st l.number b)
      (λ q. port_free p d bits (dacts p d bits ls) q.mem)
      (in_stage l.thread.stage p.stmts) (begun l (now_of p d bits l).env) (start_of (now_of p d bits l)) (fit_all ls l k) (starts_here ls l k))

  -- a thread's stage keeps to the path of its values
  pub fixed_way : (ls : List Live) (l : Live) (k : Known ls l)
      → Fixed (work_of_live p d bits ls l).env (around p d bits (dacts p d bits ls) l.thread.stage l.thread.hint) (in_stage l.thread.stage p.stmts)
      (start_of (now_of p d bits l))
  fixed_way ls l k = fixed_here p flows l.env (now_of p d bits l) (keeps_now l k.seated) (around p d bits (dacts p d bits ls) l.thread.stage l.thread.hint)

  -- what its stage does to its entries of m
  pub worked_here : (ls : List Live) (l : Live) (k : Known ls l) (m : ℕ)
      → Worked m l.number (pend m l.number l.thread.entries) (deeds_of p st bits l) (work_of_live p d bits ls l)
  worked_here ls l k m =
      subst (λ e. Worked m l.number (pend m l.number l.thread.entries) e (work_of_live p d bits ls l)) (sym (deeds_are ls l k))
      (stage_worked p flows l.env (now_of p d bits l) (keeps_now l k.seated)
      (around p d bits (dacts p d bits ls) l.thread.stage l.thread.hint) (word_for st l.number) (λ b. block_ready p st l.number b)
      (λ q. port_free p d bits (dacts p d bits ls) q.mem) (fit_all ls l k) l.advice m l.number)

  -- a thread that goes out of the pipe has no entry of m left
  pub ends_here : (ls : List Live) (l : Live) (k : Known ls l) (m : ℕ)
      → next_of p l.thread.stage (work_of_live p d bits ls l).env ≡ length p.stages
      → entries_of m (work_of_live p d bits ls l).entries ≡ []
  ends_here ls l k m =
      ends_empty p flows l.env (now_of p d bits l) (keeps_now l k.seated)
      (around p d bits (dacts p d bits ls) l.thread.stage l.thread.hint) (word_for st l.number) (λ b. block_ready p st l.number b)
      (λ q. port_free p d bits (dacts p d bits ls) q.mem) (fit_all ls l k) l.advice m l.number

  -- a thread that goes past the stage of m's releases has no entry of m left
  pub late_here : (ls : List Live) (l : Live) (k : Known ls l) (m : ℕ)
      → commit_stage p m < next_of p l.thread.stage (work_of_live p d bits ls l).env
      → entries_of m (work_of_live p d bits ls l).entries ≡ []
  late_here ls l k m =
      late_empty p flows l.env (now_of p d bits l) (keeps_now l k.seated)
      (around p d bits (dacts p d bits ls) l.thread.stage l.thread.hint) (word_for st l.number) (λ b. block_ready p st l.number b)
      (λ q. port_free p d bits (dacts p d bits ls) q.mem) (fit_all ls l k) l.advice m l.number

  -- a memory that it asks for is read in its stage
  pub asks_here : (ls : List Live) (l : Live) → Known ls l → AsksFrom (in_stage l.thread.stage p.stmts) (deeds_of p st bits l).asks
  asks_here ls l k =
      subst (λ (w : Work). AsksFrom (in_stage l.thread.stage p.stmts) w.asks) (like_here ls l k).is
      (asks_from (in_stage l.thread.stage p.stmts) (around p d bits (dacts p d bits ls) l.thread.stage l.thread.hint)
      (in_stage l.thread.stage p.stmts) (start_of (now_of p d bits l)) (λ m h. h) tt)

  -- what the acts of the later stages say, as the derived machine's acts of the older threads say it
  pub record Tells (ls : List Live) (l : Live) (later : List Moves.Act) : Type 0 where
    pub fails : Moves.no_failure later ≡ list_all (λ (o : Derived.Act). not (o.moves && o.work.fails)) (dacts p d bits ls)
    pub port : (m : ℕ) → none_of (is_delayed_read m) (in_stage l.thread.stage p.stmts) ≡ false
        → is_free (request_of st m) (is_answered p bits m) later ≡ port_free p d bits (dacts p d bits ls) m
    pub clear : Moves.barrier_clear p later (deeds_of p st bits l)
        ≡ (not (deeds_of p st bits l).barrier || (around p d bits (dacts p d bits ls) l.thread.stage l.thread.hint).clear)
    pub enters :
        (Moves.can_enter (next_stage p l.thread.stage (deeds_of p st bits l)) later
        && Moves.merges_well p st l.thread.stage (next_stage p l.thread.stage (deeds_of p st bits l)))
        ≡ Derived.can_enter p (dacts p d bits ls) (next_stage p l.thread.stage (deeds_of p st bits l))

  -- the eight conditions
  join : (n b r w f c e g : Bool) → (((((((n && b) && r) && w) && f) && c) && e) && g) ≡ ((((n && ((b && f) && c)) && r) && w) && (e && g))
  join false b r w f c e g = refl
  join true false r w f c e g = refl
  join true true false w false c e g = refl
  join true true false w true false e g = refl
  join true true false w true true e g = refl
  join true true true false false c e g = refl
  join true true true false true false e g = refl
  join true true true false true true e g = refl
  join true true true true false c e g = refl
  join true true true true true false e g = refl
  join true true true true true true e g = refl

  ports_are : (ls : List Live) (l : Live) (later : List Moves.Act) → Tells ls l later → (qs : List Ask) → AsksFrom (in_stage l.thread.stage p.stmts) qs
      → list_all (λ q. is_free (request_of st q.mem) (is_answered p bits q.mem) later) qs ≡ list_all (λ q. port_free p d bits (dacts p d bits ls) q.mem) qs
  ports_are ls l later t [] h = refl
  ports_are ls l later t (q ∷ qs) h = ap₂ (λ a b. a && b) (t.port q.mem h.0) (ports_are ls l later t qs h.1)

  -- a memory that it reserves is reserved in its stage
  reserves_here : (ls : List Live) (l : Live) → Known ls l → ReservesFrom (in_stage l.thread.stage p.stmts) (deeds_of p st bits l).reserves
  reserves_here ls l k =
      subst (λ e. ReservesFrom (in_stage l.thread.stage p.stmts) e.reserves) (sym (deeds_are ls l k))
      (reserves_from (in_stage l.thread.stage p.stmts) (word_for st l.number) (in_stage l.thread.stage p.stmts)
      (start_deeds p flows l.env (now_of p d bits l) (keeps_now l k.seated) l.advice) (λ m h. h) tt)

  rooms_are : (ls : List Live) (l : Live) → Known ls l → (rs : List Reserved) → ReservesFrom (in_stage l.thread.stage p.stmts) rs
      → list_all (λ r. has_room (mem_at p r.mem).lock (reserves_of r.mem (deeds_of p st bits l).reserves) (length (lock_of st r.mem))) rs
      ≡ list_all (λ r. has_room (mem_at p r.mem).lock (reserves_of r.mem (deeds_of p st bits l).reserves) (pending (befores (dacts p d bits ls)) r.mem)) rs
  rooms_are ls l k [] h = refl
  rooms_are ls l k (r ∷ rs) h =
      ap₂ (λ n b. has_room (mem_at p r.mem).lock (reserves_of r.mem (deeds_of p st bits l).reserves) n && b) (sym (k.room r.mem here)) (rooms_are ls l k rs h.1)
    where
      here : l.thread.stage ≡ reserve_stage p r.mem
      here = by (l.thread.stage == reserve_stage p r.mem) refl
        where
          by : (b : Bool) → (l.thread.stage == reserve_stage p r.mem) ≡ b → l.thread.stage ≡ reserve_stage p r.mem
          by true e = eqb-true _ _ e
          by false e =
              absurd (cc (sym (none_in_stage (is_reserve r.mem) (reserve_stage p r.mem) l.thread.stage p.stmts (flows.reserves r.mem) (eqb-false _ _ e)) ∙ h.0))

  moves_are : (ls : List Live) (l : Live) (later : List Moves.Act) → Known ls l → Tells ls l later
      → Moves.may_move p st bits later l.thread.stage (with_answers p st bits (seat l)) (deeds_of p st bits l) ≡ (did p d bits ls l).moves
  moves_are ls l later k t =
      (λ i.
      (((((((t.fails i && Moves.blocks_ready p st l.number (deeds_of p st bits l)) && Moves.have_room p st (deeds_of p st bits l))
      && Moves.is_empty (k.waits i))
      && ports_are ls l later t (deeds_of p st bits l).asks (asks_here ls l k) i)
      && t.clear i)
      && Moves.can_enter (next_stage p l.thread.stage (deeds_of p st bits l)) later)
      && Moves.merges_well p st l.thread.stage (next_stage p l.thread.stage (deeds_of p st bits l))))
      ∙ join (list_all (λ (o : Derived.Act). not (o.moves && o.work.fails)) (dacts p d bits ls))
      (Moves.blocks_ready p st l.number (deeds_of p st bits l)) (Moves.have_room p st (deeds_of p st bits l))
      (Moves.is_empty (still p bits l.thread.awaits))
      (list_all (λ q. port_free p d bits (dacts p d bits ls) q.mem) (deeds_of p st bits l).asks)
      (not (deeds_of p st bits l).barrier || (around p d bits (dacts p d bits ls) l.thread.stage l.thread.hint).clear)
      (Moves.can_enter (next_stage p l.thread.stage (deeds_of p st bits l)) later)
      (Moves.merges_well p st l.thread.stage (next_stage p l.thread.stage (deeds_of p st bits l)))
      ∙ ap₂
      (λ r x.
      (((list_all (λ (o : Derived.Act). not (o.moves && o.work.fails)) (dacts p d bits ls)
      && ((Moves.blocks_ready p st l.number (deeds_of p st bits l) && list_all (λ q. port_free p d bits (dacts p d bits ls) q.mem) (deeds_of p st bits l).asks)
      && (not (deeds_of p st bits l).barrier || (around p d bits (dacts p d bits ls) l.thread.stage l.thread.hint).clear)))
      && r) && Moves.is_empty (still p bits l.thread.awaits))
      && x)
      (rooms_are ls l k (deeds_of p st bits l).reserves (reserves_here ls l k)) t.enters
      ∙ ap
      (λ (v : Work).
      (((list_all (λ (o : Derived.Act). not (o.moves && o.work.fails)) (dacts p d bits ls) && v.ready) && Derived.have_room p (befores (dacts p d bits ls)) v)
      && Moves.is_empty (still p bits l.thread.awaits))
      && Derived.can_enter p (dacts p d bits ls) (goes_to (stage_at p l.thread.stage).next v.env))
      (sym (like_here ls l k).is)

  -- the stated act is the one that the derived machine decides
  pub act_is : (ls : List Live) (l : Live) (later : List Moves.Act) → Known ls l → Tells ls l later
      → Moves.act p st bits later l.thread.stage (with_answers p st bits (seat l)) ≡ lact p st d bits ls l
  act_is ls l later k t =
      λ i. record { stage = l.thread.stage; thread = with_answers p st bits (seat l); does = deeds_of p st bits l; moves = moves_are ls l later k t i }
