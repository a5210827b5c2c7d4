-- The live threads up to the first wrong guess follow their turns: their values, once answered, are the turn's.
use Rattle.std.proofs.Common.{◌≡◌, ◌≢◌, refl, sym, ap, ap₂, ◌∙◌, subst, ℕ, ◌≤◌, ◌⊎◌, inl, inr, Bool, true, false, ◌&&◌, ◌||◌, not, List, [], ◌∷◌, ◌++◌, Option, Some, None, is_some, ◌==◌, nat_lt, if◌then◌else◌, slice_index, slice_set, eq-eqb, ltb-true, ltb-false}
use Rattle.std.proofs.lemmas.Bool.{eqb-false, or_right, or_left}
use Rattle.pdl_semantics.specs.Flat.{Arrays, Array, Pipe, Op, DelayedRead, Stmt, of_mem, word_at, list_all}
use Rattle.pdl_semantics.specs.Stages
use Rattle.pdl_semantics.specs.Stages.{list_any, is_verify, mem_at, reserve_stage}
use Rattle.pdl_semantics.specs.Locks.{Nothing, value_or}
use Rattle.pdl_semantics.specs.Machine.{Ask, Awaited, State, Owned, lock_of, request_of, same_args, with_kept}
use Rattle.pdl_semantics.specs.Cycle.{awaited_of}
use Rattle.pdl_semantics.specs.Sequential
use Rattle.pdl_semantics.specs.Sequential.{thread}
use Rattle.pdl_semantics.specs.Promises.{wrote, row}
use Rattle.pdl_semantics.specs.Sound.{Follower, followers_of, guessed_wrong, has_done, is_spec_call, is_write, once_answered, awaited_words, request_address, has_asked, entries_by, writes_done, right_entries, turn_writes, turn_so_far}
use Rattle.pdl_semantics.specs.Sound
use Rattle.pdl_semantics.specs.Promises.{DifferInAdvice}
use Rattle.pdl_theory_turns.specs.Derived.{asked_at}
use Rattle.pdl_theory_turns.specs.Derived
use Rattle.pdl_theory_turns.specs.Alone.{World, so_far}
use Rattle.pdl_theory_turns.specs.Scans.{is_plain}
use Rattle.pdl_theory_turns.specs.Facts.{Sound, at_once}
use Rattle.pdl_theory_turns.proofs.Writes.{wrote_append}
use Rattle.pdl_theory_turns.proofs.TurnPath
use Rattle.pdl_theory.proofs.Spots
use Rattle.pdl_theory_turns.proofs.Slots.{rev}
use Rattle.pdl_theory_turns.proofs.Guesses.{same_args_refl}
use Rattle.pdl_theory_turns.proofs.Marks.{seen, strips, ready_value}
use Rattle.pdl_theory_turns.proofs.UndoneWrites.{marks}
use Rattle.pdl_theory_turns.proofs.TurnFacts.{right_guess}
use Rattle.pdl_theory_turns.proofs.DelayedReads.{AllAsks, caught}
use Rattle.pdl_theory_turns.proofs.StageFacts.{caught_other}
use Rattle.pdl_theory_turns.proofs.CourseOf.{course}
use Rattle.pdl_theory_turns.proofs.Lives.{Writes, Marks, RowsAt}
use Rattle.pdl_theory.proofs.Cycles.{rows_next}
use Rattle.pdl_theory.proofs.Spots.{Spot, with_hint, seats, Sure, Here, Standing, Tail, Last}
use Rattle.pdl_semantics.proofs.Readiness.{exact_none}
use Rattle.pdl_theory_simulation.proofs.AcceptedFacts.{sound_flows}
use Rattle.pdl_theory_turns.proofs.Entries.{entries_of}
use Rattle.pdl_theory_turns.proofs.Lists.{pend}
use Rattle.pdl_theory_turns.proofs.OwnEntries.{pend_own}
use Rattle.pdl_theory_simulation.proofs.Stretches.{on_way, early, Fetched, AllFetched}
use Rattle.pdl_theory_simulation.proofs.StretchSteps.{awaits_var}
use Rattle.pdl_theory_simulation.proofs.Seats.{Live, seat, threads_of}
use Rattle.pdl_theory_simulation.proofs.Choices.{Seated, Matched, OwnedBy, AllOwned, plain_fetch}
use Rattle.pdl_theory_states.proofs.OldestFirst.{told, oldest_first}
use Rattle.pdl_theory_states.proofs.PastStatements.{AskedBy}
use Rattle.pdl_theory_states.proofs.UnusedValues.{AllOps, AnyOp, ops_both, any_both, onto, touches}
use Rattle.pdl_theory_states.proofs.ThreadHistory.{AnyAsk, AllKept, AllAwaited, any_of, past_of, kept_other, kept_map}
use Rattle.pdl_theory_states.proofs.ThreadFacts.{awaited_map, any_ask_map}
use Rattle.pdl_theory_states.proofs.Points.{onto_any}
use Rattle.pdl_theory_states.proofs.OwnEntries.{Mine}
use Rattle.pdl_theory_states.proofs.TurnThreads.{right_list, turn_way, turn_env, turn_entries, turn_guess, turn_wrong}
use Rattle.pdl_word.specs.Each.{Each}
use Rattle.pdl_word.proofs.Each.{each_push}
use Rattle.pdl_theory_states.proofs.FetchCounts.{count, count_is}

-- these live threads as the tests of Sound state see them
abbrev pub tells : List Live → List Sound.Live
tells [] = []
tells (l ∷ ls) = told l ∷ tells ls

tells_append : (xs : List Live) (l : Live) → tells (xs ++ l ∷ []) ≡ tells xs ++ told l ∷ []
tells_append [] l = refl
tells_append (x ∷ xs) l = ap (λ k. told x ∷ k) (tells_append xs l)

-- the threads that the tests of Sound state see, oldest first, are the live ones in that order
pub oldest_tells : (ls : List Live) → oldest_first ls ≡ tells (rev ls)
oldest_tells [] = refl
oldest_tells (l ∷ ls) = ap (λ k. k ++ told l ∷ []) (oldest_tells ls) ∙ sym (tells_append (rev ls) l)

threads_snoc : (xs : List Live) (l : Live) → threads_of (xs ++ l ∷ []) ≡ threads_of xs ++ l.thread ∷ []
threads_snoc [] l = refl
threads_snoc (x ∷ xs) l = ap (λ k. x.thread ∷ k) (threads_snoc xs l)

-- the threads of the derived machine, oldest first, are those of the live ones in that order
pub threads_back : (ls : List Live) → rev (threads_of ls) ≡ threads_of (rev ls)
threads_back [] = refl
threads_back (l ∷ ls) = ap (λ k. k ++ l.thread ∷ []) (threads_back ls) ∙ sym (threads_snoc (rev ls) l)

-- what holds of each live thread holds of each one, oldest first
pub each_back : (P : Live → Type 0) (ls : List Live) → Each P ls → Each P (rev ls)
each_back P [] h = tt
each_back P (l ∷ ls) h = each_push P (rev ls) l (each_back P ls h.1) h.0

-- answers change only what is awaited
not_awaited : (g : ℕ) (qs : List Ask) → awaits_var (awaited_of qs) g ≡ false → AllAsks (λ q. not (q.var == g) ≡ true) qs
not_awaited g [] h = tt
not_awaited g (q ∷ qs) h = at (q.var == g) refl h (λ k. not_awaited g qs k)
  where
    at : (b : Bool) → (q.var == g) ≡ b → (b || awaits_var (awaited_of qs) g) ≡ false
        → (awaits_var (awaited_of qs) g ≡ false → AllAsks (λ q. not (q.var == g) ≡ true) qs)
        → (not (q.var == g) ≡ true) × AllAsks (λ q. not (q.var == g) ≡ true) qs
    at true e k f = absurd (cc k)
    at false e k f = (ap not e, f k)

-- the answers that a thread awaits, as its turn has them
words_are : (st : State) (arrays : Arrays) (qs : List Ask) (env : List ℕ)
    → AllAsks (λ q. word_at st.arrays q.mem (request_address (request_of st q.mem)) ≡ word_at arrays q.mem q.address) qs
    → with_kept (awaited_words st (awaited_of qs)) env ≡ caught arrays qs env
words_are st arrays [] env h = refl
words_are st arrays (q ∷ qs) env h =
    words_are st arrays qs (slice_set env q.var (word_at st.arrays q.mem (request_address (request_of st q.mem)))) h.1
    ∙ ap (λ v. caught arrays qs (slice_set env q.var v)) h.0

-- what later answers don't touch
words_kept : (st : State) (P : ℕ → Type 0) (rs : List Awaited) → AllAwaited (λ r. P r.var) rs → AllKept (λ k. P k.var) (awaited_words st rs)
words_kept st P [] h = tt
words_kept st P (r ∷ rs) h = (h.0, words_kept st P rs h.1)

all_ops : (P : ℕ → Op → Type 0) (qs : List Ask) (ops : List Op) → AllAsks (λ q. AllOps (P q.var) ops) qs
    → AllOps (λ op. AllAsks (λ q. P q.var op) qs) ops
all_ops P [] ops h = every ops
  where
    every : (ops : List Op) → AllOps (λ op. AllAsks (λ q. P q.var op) []) ops
    every [] = tt
    every (op ∷ ops) = (tt, every ops)
all_ops P (q ∷ qs) ops h = ops_both (λ op a b. (a, b)) ops h.0 (all_ops P qs ops h.1)

-- what passes a test among the statements that were carried out
abbrev passes : (Op → Bool) → List Op → Bool
passes test [] = false
passes test (op ∷ ops) = test op || passes test ops

some_passes : (test : Op → Bool) (ops : List Op) → AnyOp (λ op. test op ≡ true) ops → passes test ops ≡ true
some_passes test [] h = absurd h
some_passes test (op ∷ ops) (inl h) = or_left (test op) _ h
some_passes test (op ∷ ops) (inr h) = or_right (test op) _ (some_passes test ops h)

passed : (test : Op → Bool) (xs : List Stmt) → AnyOp (λ op. test op ≡ true) (onto xs []) → list_any (λ (x : Stmt). test x.op) xs ≡ true
passed test xs h = at (onto_any test (passes test) (λ op ops. refl) xs [] (some_passes test (onto xs []) h))
  where
    at : (list_any (λ (x : Stmt). test x.op) xs ≡ true) ⊎ (false ≡ true) → list_any (λ (x : Stmt). test x.op) xs ≡ true
    at (inl k) = k
    at (inr k) = absurd (cc k)

awaited_all : (test : Awaited → Bool) (rs : List Awaited) → AllAwaited (λ r. test r ≡ true) rs → list_all test rs ≡ true
awaited_all test [] h = refl
awaited_all test (r ∷ rs) h = ap₂ (λ a b. a && b) h.0 (awaited_all test rs h.1)

-- values that answers to a thread's requests leave as they are
module _ (p : Pipe) (st : State) (l : Live) (mine : Mine p st l) where
  answered_other : (a : ℕ) → AllAsks (λ q. (a == q.var) ≡ false) mine.local.asks → slice_index (once_answered st (seat l)) a ≡ slice_index l.env a
  answered_other a h =
      kept_other a (awaited_words st l.thread.awaits) (with_kept l.kept l.env)
      (words_kept st (λ x. a ≢ x) l.thread.awaits (awaited_map (λ r i. apart r.var (any_ask_map (λ q j. j.0) mine.local.asks i)) l.thread.awaits mine.owns))
      ∙ kept_other a l.kept l.env (kept_map (λ k i. apart k.var i) l.kept mine.local.kept_in)
    where
      apart : (x : ℕ) → AnyAsk (λ q. q.var ≡ x) mine.local.asks → a ≢ x
      apart x i =
          let q = any_of (λ q. (a == q.var) ≡ false) (λ q. q.var ≡ x) mine.local.asks h i in
          λ e. eqb-false a q.0.var q.1 (e ∙ sym q.2)

  -- each read that it awaits is one that it has asked for
  asked_right : (env : List ℕ) → once_answered st (seat l) ≡ env
      → list_all (λ r. has_done (has_asked env r.var r.mem (request_address (request_of st r.mem))) p (told l)) l.thread.awaits ≡ true
  asked_right env same = awaited_all _ l.thread.awaits (awaited_map one l.thread.awaits mine.owns)
    where
      one : (r : Awaited)
          → AnyAsk (λ q. (q.var ≡ r.var) × (q.mem ≡ r.mem) × (request_of st r.mem ≡ Owned l.number q.address)) mine.local.asks
          → has_done (has_asked env r.var r.mem (request_address (request_of st r.mem))) p (told l) ≡ true
      one r h =
          let q =
          any_of (AskedBy l.env (past_of p l.env l.thread.stage))
          (λ q. (q.var ≡ r.var) × (q.mem ≡ r.mem) × (request_of st r.mem ≡ Owned l.number q.address)) mine.local.asks mine.local.asked h in
          passed (has_asked env r.var r.mem (request_address (request_of st r.mem))) (on_way p l.env l.thread.stage)
          (any_both (is_it q.0 q.2) (past_of p l.env l.thread.stage)
          (all_ops (λ x op. touches x op ≡ false) mine.local.asks (past_of p l.env l.thread.stage) mine.local.unused) q.1)
        where
          is_it : (q : Ask) → (q.var ≡ r.var) × (q.mem ≡ r.mem) × (request_of st r.mem ≡ Owned l.number q.address)
              → (op : Op) → AllAsks (λ k. touches k.var op ≡ false) mine.local.asks
              → (a : ℕ) × (op ≡ DelayedRead q.var q.mem a) × (slice_index l.env a ≡ q.address)
              → has_asked env r.var r.mem (request_address (request_of st r.mem)) op ≡ true
          is_it q e op u k =
              ap (has_asked env r.var r.mem (request_address (request_of st r.mem))) k.1
              ∙ (λ i. (eq-eqb q.var r.var e.0 i) && (eq-eqb q.mem r.mem e.1 i) && (slice_index env k.0 == request_address (e.2 i)))
              ∙ eq-eqb (slice_index env k.0) q.address
              (ap (λ v. slice_index v k.0) (sym same)
              ∙ answered_other k.0 (subst (λ o. AllAsks (λ j. touches j.var o ≡ false) mine.local.asks) k.1 u)
              ∙ k.2)

-- equal lists of threads have the same first thread
pub cons_head : {x y : Derived.Thread} {xs ys : List Derived.Thread} → x ∷ xs ≡ y ∷ ys → x ≡ y
cons_head h = cc

-- equal lists of threads have the same threads after the first
pub cons_tail : {x y : Derived.Thread} {xs ys : List Derived.Thread} → x ∷ xs ≡ y ∷ ys → xs ≡ ys
cons_tail h = cc

-- there is no live thread where the derived machine has none
pub no_lives : (os : List Live) → threads_of os ≡ [] → os ≡ []
no_lives [] h = refl
no_lives (o ∷ os) h = absurd (cc h)

module _ (p : Pipe) (sound : Sound p) (st : State) where
  -- the way of a thread on its turn is that of its turn
  pub way_of : (world : World) (args : List ℕ) (l : Live) (sp : Spot) → l.thread ≡ Spots.seat p world args sp
      → Seated p st l → caught world.words sp.asks sp.env ≡ (so_far p world args sp.stage).env
      → on_way p l.env l.thread.stage ≡ on_way p (thread (at_once p) world.words args).env l.thread.stage
  way_of world args l sp e seated gets =
      sym (seated.keeps_on.path (so_far p world args l.thread.stage).env (λ g h. ap (λ (t : Derived.Thread). slice_index t.env g) e
      ∙ sym (caught_other world g sp.asks sp.env (not_awaited g sp.asks (ap (λ (t : Derived.Thread). awaits_var t.awaits g) (sym e) ∙ h)))
      ∙ ap (λ k. slice_index k g) (gets ∙ ap (λ (t : Derived.Thread). (so_far p world args t.stage).env) (sym e)))).0
      ∙ turn_way p sound world args l.thread.stage

  -- the youngest on its turn has guessed wrong where others follow
  pub wrong_of : (world : World) (args : List ℕ) (l : Live) (sp : Spot) → l.thread ≡ Spots.seat p world args sp
      → Seated p st l → caught world.words sp.asks sp.env ≡ (so_far p world args sp.stage).env → (b : Bool)
      → right_guess (so_far p world args sp.stage).child (thread p world.words args).next ≡ not b
      → is_some (so_far p world args sp.stage).child ≡ true
      → guessed_wrong p (thread p world.words args).next (told l) ≡ b
  wrong_of world args l sp e seated gets b linked made =
      ap₂
      (λ xs g. (list_any (λ (x : Stmt). is_spec_call x.op) xs && not (list_any (λ (x : Stmt). is_verify x.op) xs))
      && not (same_args g (thread p world.words args).next))
      (way_of world args l sp e seated gets ∙ ap (λ (t : Derived.Thread). on_way p (thread (at_once p) world.words args).env t.stage) e)
      (ap (λ (t : Derived.Thread). t.guess) e)
      ∙ ap (λ c. c && not (same_args (so_far p world args sp.stage).guess (thread p world.words args).next)) (sym (turn_guess p sound world args sp.stage))
      ∙ turn_wrong p sound world args sp.stage b linked made

module _ (p : Pipe) (sound : Sound p) (image : Arrays) (st : State) (d : Derived.State)
    (arrays_same : DifferInAdvice p st.arrays d.arrays) (past : Writes) (rows : RowsAt image past d.arrays) (all : List Live)
    (matched : (m : ℕ) → Matched (request_of st m) (asked_at d m) m all) where
  -- a follower is a live thread on its turn
  pub record Good (f : Follower) : Type 0 where
    pub l : Live
    pub is : f.live ≡ told l
    pub seated : Seated p st l
    pub mine : Mine p st l
    pub sp : Spot
    pub thread : l.thread ≡ Spots.seat p (with_hint f.arrays sp.hint) f.args sp
    pub w : Writes
    pub v : Marks
    pub ahead : List ℕ
    pub last : Bool
    pub rows_now : RowsAt image w f.arrays
    pub plain : (m : ℕ) → is_plain (mem_at p m).lock ≡ true → v m ≡ []
    pub here : Here p (course p sound) d.asked past w v (with_hint f.arrays sp.hint) f.args ahead sp last

  -- each of these is a thread on its turn
  abbrev pub AllGood : List Follower → Type 0
  AllGood [] = Unit {0}
  AllGood (f ∷ fs) = Good f × AllGood fs

  -- the followers among the live threads are all threads on their turns
  pub walk : (w : Writes) (v : Marks) (arrays : Arrays) (args : List ℕ) (ahead : List ℕ) (os : List Live) (sps : List Spot) (strays : List Derived.Thread)
      → RowsAt image w arrays → ((m : ℕ) → is_plain (mem_at p m).lock ≡ true → v m ≡ [])
      → Standing p (course p sound) d.asked past w v arrays args ahead sps
      → Tail p (course p sound).stray (course p sound).made arrays args sps strays
      → threads_of os ≡ seats p arrays args sps ++ strays → Each (Seated p st) os → Each (Mine p st) os
      → AllGood (followers_of p arrays args (tells os))
  walk w v arrays args ahead os [] strays rows_now plain h t e s mine =
      subst (λ ks. AllGood (followers_of p arrays args (tells ks))) (sym (no_lives os (e ∙ t))) tt
  walk w v arrays args ahead [] (sp ∷ sps) strays rows_now plain h t e s mine = tt
  walk w v arrays args ahead (o ∷ os) (sp ∷ []) strays rows_now plain h t e s mine =
      (good, at (so_far p (with_hint arrays sp.hint) args sp.stage).child refl t)
    where
      good : Good (record { live = told o; arrays = arrays; args = args })
      good =
          record {
            l = o;
            is = refl;
            seated = s.0;
            mine = mine.0;
            sp = sp;
            thread = cons_head e;
            w = w;
            v = v;
            ahead = ahead;
            last = true;
            rows_now = rows_now;
            plain = plain;
            here = h.0;
          }

      none : (b : Bool) → os ≡ [] → AllGood (if b then [] else followers_of p (thread p arrays args).arrays (thread p arrays args).next (tells os))
      none true i = tt
      none false i = subst (λ ks. AllGood (followers_of p (thread p arrays args).arrays (thread p arrays args).next (tells ks))) (sym i) tt

      at : (c : Option (List ℕ))
          → (so_far p (with_hint arrays sp.hint) args sp.stage).child ≡ c
          → Last p (course p sound).stray (course p sound).made sp.stage c strays
          → AllGood
          (if guessed_wrong p (thread p arrays args).next (told o) then []
          else followers_of p (thread p arrays args).arrays (thread p arrays args).next (tells os))
      at None i k = none (guessed_wrong p (thread p arrays args).next (told o)) (no_lives os (cons_tail e ∙ k))
      at (Some x) i k =
          subst (λ b. AllGood (if b then [] else followers_of p (thread p arrays args).arrays (thread p arrays args).next (tells os)))
          (sym (wrong_of p sound st (with_hint arrays sp.hint) args o sp (cons_head e) s.0 h.0.waits.gets true h.0.linked (ap is_some i))) tt
  walk w v arrays args ahead (o ∷ os) (sp ∷ sp' ∷ sps) strays rows_now plain h t e s mine = (
    record {
      l = o;
      is = refl;
      seated = s.0;
      mine = mine.0;
      sp = sp;
      thread = cons_head e;
      w = w;
      v = v;
      ahead = ahead;
      last = false;
      rows_now = rows_now;
      plain = plain;
      here = h.0;
    },
    either (guessed_wrong p (thread p arrays args).next (told o))
        (walk (λ m. w m ++ of_mem m (thread p arrays args).writes) (λ m. v m ++ marks p (with_hint arrays sp.hint) args sp.stage m)
        (thread p arrays args).arrays (thread p arrays args).next (sp.stage ∷ ahead) os (sp' ∷ sps) strays
        (rows_next p (course p sound) image w (with_hint arrays sp.hint) args rows_now)
        (λ m i. ap₂ (λ a b. a ++ b) (plain m i) ((course p sound).marks_plain (with_hint arrays sp.hint) args sp.stage m i)) h.1 t (cons_tail e) s.1 mine.1),
  )
    where
      either : (b : Bool)
          → AllGood (followers_of p (thread p arrays args).arrays (thread p arrays args).next (tells os))
          → AllGood (if b then [] else followers_of p (thread p arrays args).arrays (thread p arrays args).next (tells os))
      either true k = tt
      either false k = k

  -- 3. its values

  module _ (w : Writes) (v : Marks) (arrays : Arrays) (rows_now : RowsAt image w arrays)
      (plain : (m : ℕ) → is_plain (mem_at p m).lock ≡ true → v m ≡ []) (s : ℕ)
      (words : (m : ℕ) → s ≤ Stages.commit_stage p m → w m ≡ past m ++ strips m (v m)) where
    answer_right : (n : ℕ) (q : Ask) → Fetched p s q.mem → OwnedBy st n q.mem → asked_at d q.mem ≡ Some q.address
        → Sure p (course p sound) v s q
        → word_at st.arrays q.mem (request_address (request_of st q.mem)) ≡ word_at arrays q.mem q.address
    answer_right n q fetched own out sure =
        ap (λ r. word_at st.arrays q.mem (request_address r)) own.1
        ∙ ap (word_at st.arrays q.mem) (same (sym (matches q.mem own.0 own.1) ∙ out))
        ∙ ap (λ (w : Array). w q.address) (arrays_same q.mem (plain_fetch p (sound_flows p sound) st d [] arrays_same s q.mem fetched))
        ∙ ap (λ l. value_or l (word_at d.arrays q.mem q.address)) (sym none)
        ∙ ready_value q.mem q.address (mem_at p q.mem).lock (v q.mem) (row d.arrays q.mem) (plain q.mem) sure.clean
        ∙ ap (λ (l : Array). l q.address)
        (ap (λ l. wrote l (strips q.mem (v q.mem))) (rows q.mem)
        ∙ sym (wrote_append (past q.mem) (strips q.mem (v q.mem)) (row image q.mem))
        ∙ ap (wrote (row image q.mem)) (sym (words q.mem sure.early)) ∙ sym (rows_now q.mem))
      where
        none : seen q.address (v q.mem) Nothing ≡ Nothing
        none =
            exact_none (mem_at p q.mem).lock (seen q.address (v q.mem) Nothing) sure.exact (λ e. ap (λ l. seen q.address l Nothing) (plain q.mem e)) sure.clean

        matches : (m a : ℕ) → request_of st m ≡ Owned n a → asked_at d m ≡ Some a
        matches m a e = (subst (λ r. Matched r (asked_at d m) m all) e (matched m)).0

        same : {a b : ℕ} → Some a ≡ Some b → a ≡ b
        same h = cc

    answers_right : (n : ℕ) (qs : List Ask) → AllFetched p s (awaited_of qs) → AllOwned st n (awaited_of qs)
        → AllAsks (λ q. asked_at d q.mem ≡ Some q.address) qs → AllAsks (Sure p (course p sound) v s) qs
        → AllAsks (λ q. word_at st.arrays q.mem (request_address (request_of st q.mem)) ≡ word_at arrays q.mem q.address) qs
    answers_right n [] f o a b = tt
    answers_right n (q ∷ qs) f o a b = (answer_right n q f.0 o.0 a.0 b.0, answers_right n qs f.1 o.1 a.1 b.1)

  -- with its awaited reads answered, a thread on its turn has the values of the sequential run before its stage
  pub values_are : (f : Follower) → Good f → once_answered st f.live.thread ≡ (turn_so_far p f).env
  values_are f g =
      ap (λ (x : Sound.Live). once_answered st x.thread) g.is
      ∙ ap (with_kept (awaited_words st g.l.thread.awaits)) g.seated.kept_in
      ∙ ap (λ (t : Derived.Thread). with_kept (awaited_words st t.awaits) t.env) g.thread
      ∙ words_are st f.arrays g.sp.asks g.sp.env
      (answers_right g.w g.v f.arrays g.rows_now g.plain g.sp.stage (λ m c. g.here.words m (inl c)) g.l.number g.sp.asks
      (subst (λ (t : Derived.Thread). AllFetched p t.stage t.awaits) g.thread g.seated.keeps_on.fetched)
      (subst (λ rs. AllOwned st g.l.number rs) (ap (λ (t : Derived.Thread). t.awaits) g.thread) g.seated.owned) g.here.waits.out g.here.waits.sure)
      ∙ g.here.waits.gets ∙ turn_env p sound (with_hint f.arrays g.sp.hint) f.args g.sp.stage
      ∙ ap (λ s. (Sequential.run_all (Sound.stages_before s p.stmts) (TurnPath.start_run p f.arrays f.args)).env)
      (ap (λ (t : Derived.Thread). t.stage) (sym g.thread) ∙ ap (λ (x : Sound.Live). x.stage) (sym g.is))

  -- the test that compares these values passes of a thread on its turn
  pub values_good : (f : Follower) → Good f → same_args (once_answered st f.live.thread) (turn_so_far p f).env ≡ true
  values_good f g = ap (λ l. same_args l (turn_so_far p f).env) (values_are f g) ∙ same_args_refl (turn_so_far p f).env

  -- the addresses that a thread on its turn awaits are those of its turn
  pub asks_good : (f : Follower) → Good f
      → list_all (λ r. has_done (has_asked (turn_so_far p f).env r.var r.mem (request_address (request_of st r.mem))) p f.live) f.live.thread.awaits ≡ true
  asks_good f g =
      ap
      (λ (x : Sound.Live). list_all
      (λ r. has_done (has_asked (turn_so_far p f).env r.var r.mem (request_address (request_of st r.mem))) p x) x.thread.awaits) g.is
      ∙ asked_right p st g.l g.mine (turn_so_far p f).env (ap (λ (x : Sound.Live). once_answered st x.thread) (sym g.is) ∙ values_are f g)

  -- 4. its pending writes

  -- each entry of a thread on its turn in the list of m has the turn's address and, once written, its value
  pub right_good : (m : ℕ) (f : Follower) → Good f → right_entries p st m f ≡ true
  right_good m f g =
      ap (λ (x : Sound.Live). right_list (writes_done m p x) (turn_writes m p f) (entries_by x.thread.number (lock_of st m))) g.is
      ∙ ap₂ (λ k es. right_list k (turn_writes m p f) es) (sym (count_is (λ x. is_write m x.op) (on_way p g.l.env g.l.thread.stage)))
      (g.mine.listed m ∙ pend_own m g.l.number g.l.thread.entries)
      ∙ at (nat_lt (reserve_stage p m) g.sp.stage) refl
    where
      here : g.l.thread.stage ≡ g.sp.stage
      here = ap (λ (t : Derived.Thread). t.stage) g.thread

      way : on_way p g.l.env g.l.thread.stage ≡ on_way p (thread (at_once p) f.arrays f.args).env g.sp.stage
      way =
          way_of p sound st (with_hint f.arrays g.sp.hint) f.args g.l g.sp g.thread g.seated g.here.waits.gets
          ∙ ap (on_way p (thread (at_once p) f.arrays f.args).env) here

      at : (b : Bool) → nat_lt (reserve_stage p m) g.sp.stage ≡ b
          → right_list (count (λ x. is_write m x.op) (on_way p g.l.env g.l.thread.stage)) (turn_writes m p f) (pend m g.l.number
          (entries_of m g.l.thread.entries)) ≡ true
      at true e =
          ap₂
          (λ xs (t : Derived.Thread). right_list (count (λ x. is_write m x.op) xs) (turn_writes m p f) (pend m g.l.number
          (entries_of m t.entries))) way g.thread
          ∙ turn_entries p sound (with_hint f.arrays g.sp.hint) f.args g.sp.stage m g.l.number (ltb-true _ _ e)
      at false e =
          ap (λ es. right_list (count (λ x. is_write m x.op) (on_way p g.l.env g.l.thread.stage)) (turn_writes m p f) (pend m g.l.number es))
          (early p (sound_flows p sound) g.l.env g.l.thread g.seated.keeps_on m (subst (λ s. s ≤ reserve_stage p m) (sym here) (ltb-false _ _ e)))

  -- a test that each of them passes
  pub good_all : (test : Follower → Bool) → ((f : Follower) → Good f → test f ≡ true) → (fs : List Follower) → AllGood fs → list_all test fs ≡ true
  good_all test g [] h = refl
  good_all test g (f ∷ fs) h = ap₂ (λ a b. a && b) (g f h.0) (good_all test g fs h.1)
