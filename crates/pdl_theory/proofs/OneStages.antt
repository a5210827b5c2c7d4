-- In a pipe of one stage each cycle is a whole thread of the sequential run, and prints its lines.
use Rattle.std.proofs.Common.{◌≡◌, refl, sym, ap, ap₂, ◌∙◌, subst, ℕ, suc, ◌+◌, ◌≤◌, ◌<◌, inl, Bool, true, false, ◌&&◌, ◌||◌, not, List, [], ◌∷◌, ◌++◌, length, Option, Some, None, ◌==◌, nat_lt, slice_index_or, cond, arith, append-nil, ltb-true}
use Rattle.std.proofs.lemmas.Bool.{eqb-false, false≢true}
use Rattle.pdl_semantics.specs.Flat.{Arrays, Pipe, Op, DelayedRead, SpecCall, Verify, Call, Stmt, Mem, Commit, list_all, of_mem, arrays_of, all_hold}
use Rattle.pdl_semantics.specs.Stages.{list_any, onpath, in_stage, stage_at, goes_to, onward, stages_on, verify_stage}
use Rattle.pdl_semantics.specs.Sequential.{thread, threads, threads_from, writes_from, after_turns}
use Rattle.pdl_semantics.specs.Cycle.{PortWrite, commits_shown, for_mems}
use Rattle.pdl_semantics.specs.Machine.{same_args, is_answered}
use Rattle.pdl_semantics.specs.Machine
use Rattle.pdl_semantics.specs.Lines.{puts_of, puts_for, puts_in, by_mem, columns, lines, turn_cycle, turn_cycles, thread_cycle, thread_cycles, run_lines, sequential_lines}
use Rattle.pdl_semantics.specs.Flatten.{flat, mems_of}
use Rattle.pdl_semantics.specs.Tree
use Rattle.pdl_semantics.specs.Cycle
use Rattle.pdl_semantics.specs.Moves
use Rattle.pdl_theory_turns.specs.Derived.{Hint, Around, Work, Thread, State, Act, do_all, work_after, work_of_stage, around, answered_thread, act, acts, all_acts, cycle, turns_from, first, is_wait, waits_from, next_ask, next_asks, nothing_asked, asks_of, commits_of, said}
use Rattle.pdl_theory_turns.specs.Derived
use Rattle.pdl_theory_turns.specs.Alone.{answered_op}
use Rattle.pdl_theory_turns.specs.Simulation.{SameTurns, hints_of}
use Rattle.pdl_theory_turns.specs.OneStage.{IsThread, AreThreads}
use Rattle.pdl_theory_turns.proofs.Stages.{step}
use Rattle.pdl_theory_turns.proofs.Writes.{and_left, and_right, of_mem_append}
use Rattle.pdl_theory_turns.specs.Scans.{none_of}
use Rattle.pdl_theory_turns.specs.GuessScans.{Making, Unmade, is_unmade, is_guessed, next_making, making_ok, makings_ok, stands_before}
use Rattle.pdl_theory_turns.specs.Facts.{looked_all, Sound}
use Rattle.pdl_theory_turns.proofs.CourseOf.{course}
use Rattle.pdl_theory_turns.proofs.Guesses
use Rattle.pdl_semantics.specs.Stages.{is_check}
use Rattle.pdl_theory_turns.proofs.Paths.{stage_path}
use Rattle.pdl_theory.proofs.Cycle.{ends_one}
use Rattle.pdl_theory.proofs.Refine.{writes_more}
use Rattle.pdl_theory.proofs.Spots.{Spot, Standing, is_nil}
use Rattle.pdl_theory.proofs.Follows.{Runs, runs_cycle, runs_first, low_end}
use Rattle.pdl_theory.proofs.Rates.{left_some, cycle_left, leads, lead, left, turn_path}
use Rattle.pdl_theory_simulation.proofs.PerMemory.{at_mem}
use Rattle.pdl_theory.proofs.StatedTheorems.{whole_same}
use Rattle.pdl_theory_turns.proofs.OfStage.{none_stage}
use Rattle.pdl_semantics.specs.Sound.{is_fetch}

-- VERIFIES

-- statements of which no path verifies let nothing fail
unfailed : (o : Around) (xs : List Stmt) (w : Work)
    → ((path : List ℕ) → none_of is_check (onpath path xs) ≡ true) → (do_all o xs w).fails ≡ w.fails
unfailed o [] w h = refl
unfailed o (x ∷ xs) w h = unfailed o xs (step o x w) (λ path. later path (all_hold x.guards path) (h path)) ∙ at (all_hold x.guards w.env) (h w.env)
  where
    later : (path : List ℕ) (b : Bool)
        → none_of is_check (cond b (record x { guards = [] } ∷ onpath path xs) (onpath path xs)) ≡ true
        → none_of is_check (onpath path xs) ≡ true
    later path true k = and_right (not (is_check x.op)) _ k
    later path false k = k

    at : (b : Bool) → none_of is_check (cond b (record x { guards = [] } ∷ onpath w.env xs) (onpath w.env xs)) ≡ true
        → (cond b (work_after o x.op w) w).fails ≡ w.fails
    at true k = Guesses.unfailed o (record x { guards = [] } ∷ []) w (ap (λ b. b && true) (and_left (not (is_check x.op)) _ k))
    at false k = refl

-- in stages before the verifies' nothing is guessed, and without a guess nothing is verified
one_certain : (v : Option ℕ) (s : ℕ) (k : Making) (op : Op)
    → stands_before v s ≡ false → is_guessed k ≡ false → making_ok v k s (answered_op op) ≡ true
    → (not (is_check op) ≡ true) × (is_guessed (next_making k (answered_op op)) ≡ false)
one_certain v s k (Call args) b g h = (refl, refl)
one_certain v s k (SpecCall args) b g h = absurd (false≢true (sym b ∙ and_right (is_unmade k) _ h))
one_certain v s k (Verify true args) b g h = absurd (false≢true (sym g ∙ and_left (is_guessed k) _ h))
one_certain v s k (Verify false args) b g h = absurd (false≢true (sym g ∙ and_left (is_guessed k) _ h))
one_certain v s k _ b g h = (refl, g)

unverified : (v : Option ℕ) (path : List ℕ) (xs : List Stmt) (k : Making)
    → ((s : ℕ) → stands_before v s ≡ false) → is_guessed k ≡ false → makings_ok v k (onpath path (looked_all xs)) ≡ true
    → none_of is_check (onpath path xs) ≡ true
unverified v path [] k b g h = refl
unverified v path (x ∷ xs) k b g h = at (all_hold x.guards path) h (λ j. unverified v path xs j b)
  where
    at : (t : Bool)
        → makings_ok v k (cond t (record x { op = answered_op x.op; guards = [] } ∷ onpath path (looked_all xs)) (onpath path (looked_all xs))) ≡ true
        → ((j : Making) → is_guessed j ≡ false → makings_ok v j (onpath path (looked_all xs)) ≡ true → none_of is_check (onpath path xs) ≡ true)
        → none_of is_check (cond t (record x { guards = [] } ∷ onpath path xs) (onpath path xs)) ≡ true
    at true m go =
        let one = one_certain v x.stage k x.op (b x.stage) g (and_left (making_ok v k x.stage (answered_op x.op)) _ m) in
        ap₂ (λ c d. c && d) one.0 (go (next_making k (answered_op x.op)) one.1 (and_right (making_ok v k x.stage (answered_op x.op)) _ m))
    at false m go = go k g m

-- no stage stands before the first one
none_before : (v : Option ℕ) → ((n : ℕ) → v ≡ Some n → n < 1) → (s : ℕ) → stands_before v s ≡ false
none_before None f s = refl
none_before (Some n) f s = at (nat_lt s n) refl
  where
    at : (b : Bool) → nat_lt s n ≡ b → nat_lt s n ≡ false
    at true e = absurd (let i = ltb-true s n e in let j = f n refl in omega (arith, i, j))
    at false e = e

-- DELAYED READS

-- a request is made by a delayed read alone
asks_same : (o : Around) (op : Op) (w : Work) → not (is_fetch op) ≡ true → (work_after o op w).asks ≡ w.asks
asks_same o (DelayedRead x m a) w h = absurd (false≢true h)
asks_same o (Verify last args) w h = at (same_args (said o last args w.env) w.guess)
  where
    at : (b : Bool) → (cond b w (record w { child = Some (said o last args w.env); guess = said o last args w.env; fails = true })).asks ≡ w.asks
    at true = refl
    at false = refl
asks_same o _ w h = refl

unasked : (o : Around) (xs : List Stmt) (w : Work) → none_of is_fetch xs ≡ true → (do_all o xs w).asks ≡ w.asks
unasked o [] w h = refl
unasked o (x ∷ xs) w h = unasked o xs (step o x w) (and_right (not (is_fetch x.op)) _ h) ∙ at (all_hold x.guards w.env)
  where
    at : (b : Bool) → (cond b (work_after o x.op w) w).asks ≡ w.asks
    at true = asks_same o x.op w (and_left (not (is_fetch x.op)) _ h)
    at false = refl

-- of statements that all stand in the first stage those of that stage are all
all_first : (test : Op → Bool) (xs : List Stmt)
    → list_all (λ y. nat_lt y.stage 1) xs ≡ true → none_of test (in_stage 0 xs) ≡ true → none_of test xs ≡ true
all_first test [] i h = refl
all_first test (x ∷ xs) i h = at (x.stage == 0) refl h (all_first test xs (and_right (nat_lt x.stage 1) _ i))
  where
    at : (b : Bool) → (x.stage == 0) ≡ b → none_of test (cond b (x ∷ in_stage 0 xs) (in_stage 0 xs)) ≡ true
        → (none_of test (in_stage 0 xs) ≡ true → none_of test xs ≡ true) → (not (test x.op) && none_of test xs) ≡ true
    at true e k go = ap₂ (λ c d. c && d) (and_left (not (test x.op)) _ k) (go (and_right (not (test x.op)) _ k))
    at false e k go = absurd (let low = ltb-true x.stage 1 (and_left (nat_lt x.stage 1) _ i) in eqb-false x.stage 0 e (omega (arith, low)))

-- REQUESTS

none_asked : (p : Pipe) (bits : List Bool) (k : ℕ) (xs : List Mem) → next_asks p bits [] k (nothing_asked xs) ≡ nothing_asked xs
none_asked p bits k [] = refl
none_asked p bits k (x ∷ xs) = ap₂ (λ a l. a ∷ l) (at (is_answered p bits k)) (none_asked p bits (suc k) xs)
  where
    at : (b : Bool) → next_ask None b None ≡ None
    at true = refl
    at false = refl

none_waits : (p : Pipe) (bits : List Bool) (k : ℕ) (xs : List Mem) → waits_from p bits k (nothing_asked xs) ≡ false
none_waits p bits k [] = refl
none_waits p bits k (x ∷ xs) = none_waits p bits (suc k) xs

-- A CYCLE

-- in this cycle of the derived machine a thread with these writes ran from beginning to end
record IsWhole (t : Derived.Turn) (writes : List Commit) : Type 0 where
  commits : (m : ℕ) → of_mem m t.ports.commits ≡ of_mem m writes
  ended : t.ports.ended ≡ true
  squash : t.ports.squash ≡ false
  wait : t.wait ≡ false

abbrev AreWhole : List Derived.Turn → List (List Commit) → Type 0
AreWhole [] [] = Unit {0}
AreWhole (t ∷ ts) (ws ∷ rest) = IsWhole t ws × AreWhole ts rest
AreWhole _ _ = ⊥

behind_first : List Commit → List Commit
behind_first [] = []
behind_first (x ∷ xs) = xs

same_rest : (xs ys zs : List Commit) → xs ++ ys ≡ xs ++ zs → ys ≡ zs
unfolding behind_first
same_rest [] ys zs h = h
same_rest (x ∷ xs) ys zs h = same_rest xs ys zs (ap behind_first h)

module _ (p : Pipe) (sound : Sound p) (single : length p.stages ≡ 1) where
  certain : (path : List ℕ) → none_of is_check (onpath path p.stmts) ≡ true
  certain path =
      unverified (verify_stage (looked_all p.stmts)) path p.stmts Unmade
      (none_before _ (λ n e. let low = sound.pathwise.verify_inside n e in omega (arith, low, single))) refl (sound.pathwise.makings path)

  answered_here : none_of is_fetch p.stmts ≡ true
  answered_here =
      all_first is_fetch p.stmts (subst (λ n. list_all (λ y. nat_lt y.stage n) p.stmts ≡ true) single sound.inside) (sound.fetch_inside 0 (sym single))

  fails_none : (o : Around) (t : Thread) → (work_of_stage p o t).fails ≡ false
  fails_none o t =
      unfailed o (in_stage t.stage p.stmts) _
      (λ path. subst (λ l. none_of is_check l ≡ true) (stage_path path t.stage p.stmts) (none_stage is_check t.stage (onpath path p.stmts) (certain path)))

  asks_none : (o : Around) (t : Thread) → (work_of_stage p o t).asks ≡ []
  asks_none o t = unasked o (in_stage t.stage p.stmts) _ (none_stage is_fetch t.stage p.stmts answered_here)

  none_fail : (st : State) (bits : List Bool) (older : List Act) (ts : List Thread)
      → list_any (λ (a : Act). a.moves && a.work.fails) (acts p st bits older ts) ≡ false
  none_fail st bits older [] = refl
  none_fail st bits older (t ∷ ts) =
      ap₂ (λ c d. c || d)
      (ap (λ f. (act p st bits older t).moves && f) (fails_none (around p st bits older t.stage t.hint) (answered_thread p st bits t))
      ∙ at (act p st bits older t).moves)
      (none_fail st bits (act p st bits older t ∷ older) ts)
    where
      at : (b : Bool) → (b && false) ≡ false
      at true = refl
      at false = refl

  none_ask : (st : State) (bits : List Bool) (older : List Act) (ts : List Thread) → asks_of (acts p st bits older ts) ≡ []
  none_ask st bits older [] = refl
  none_ask st bits older (t ∷ ts) = at (act p st bits older t).moves (none_ask st bits (act p st bits older t ∷ older) ts)
    where
      at : (b : Bool) → asks_of (acts p st bits (act p st bits older t ∷ older) ts) ≡ []
          → cond b ((act p st bits older t).work.asks ++ asks_of (acts p st bits (act p st bits older t ∷ older) ts))
          (asks_of (acts p st bits (act p st bits older t ∷ older) ts))
          ≡ []
      at true h = ap₂ (λ c d. c ++ d) (asks_none (around p st bits older t.stage t.hint) (answered_thread p st bits t)) h
      at false h = h

  -- between cycles the commits are the writes of the threads that ended
  even : (image : Arrays) (n : ℕ) (past : List Commit) (st : State) → Runs p (course p sound) image n past st → (m : ℕ)
      → of_mem m (writes_from p n image p.start) ≡ of_mem m past
  even image n past st r m = at r.spots r.standing r.live
    where
      at : (sps : List Spot)
          → Standing p (course p sound) st.asked (λ m. of_mem m past) (λ m. of_mem m (writes_from p n image p.start))
          (λ m. []) (after_turns p image n).arrays (after_turns p image n).next (length p.stages ∷ []) sps
          → is_nil sps ≡ false → of_mem m (writes_from p n image p.start) ≡ of_mem m past
      at [] h l = absurd (cc l)
      at (sp ∷ sps) h l =
          let low : sp.stage < length p.stages = low_end p (course p sound) sp.stage h.0.under in
          h.0.words m (inl (omega (arith, low, single))) ∙ append-nil (of_mem m past)

  -- from a stage no path has more than one left
  short : (path : List ℕ) (s : ℕ) → stages_on p path (length p.stages) s ≤ 1
  short path s = subst (λ n. stages_on p path n s ≤ 1) (sym single) (at (goes_to (stage_at p s).next path))
    where
      at : (o : Option ℕ) → suc (onward (λ q. 0) o) ≤ 1
      at None = omega arith
      at (Some q) = omega arith

  -- the thread ends
  ended_now : (image : Arrays) (n : ℕ) (past : List Commit) (st : State) (bits : List Bool)
      → Runs p (course p sound) image n past st → is_wait p st bits ≡ false → ends_one p (all_acts p st bits) ≡ true
  ended_now image n past st bits r calm = at (ends_one p (all_acts p st bits)) refl
    where
      at : (b : Bool) → ends_one p (all_acts p st bits) ≡ b → ends_one p (all_acts p st bits) ≡ true
      at true e = e
      at false e =
          let path = turn_path p sound image n in
          let next = leads p sound image _ _ (cycle p st bits) (runs_cycle p (course p sound) image n past st bits r) in
          let some : 0 < left p sound path (lead p sound (cycle p st bits).threads) = left_some p sound path (lead p sound (cycle p st bits).threads) next.0 in
          let less : 1 + left p sound path (lead p sound (cycle p st bits).threads) ≤ left p sound path (lead p sound st.threads) =
          subst
          (λ w. cond w 0 1 + left p sound path (lead p sound (cycle p st bits).threads) ≤ left p sound path (lead p sound st.threads)) calm
          (cycle_left p sound image n past st bits r e) in
          let most = short path (lead p sound st.threads) in
          absurd (omega (arith, some, less, most))

  -- the commits of a cycle in which a thread ends are the writes of its turn
  commits_now : (image : Arrays) (n : ℕ) (past : List Commit) (st : State) (bits : List Bool)
      → Runs p (course p sound) image n past st → ends_one p (all_acts p st bits) ≡ true → (m : ℕ)
      → of_mem m (commits_of (all_acts p st bits)) ≡ of_mem m (thread p (after_turns p image n).arrays (after_turns p image n).next).writes
  commits_now image n past st bits r e m =
      same_rest (of_mem m past) _ _
      (sym (of_mem_append m past (commits_of (all_acts p st bits)))
      ∙ sym
      (even image (suc n) (past ++ commits_of (all_acts p st bits)) (cycle p st bits)
      (subst
      (λ b. Runs p (course p sound) image (cond b (suc n) n) (past ++ commits_of (all_acts p st bits)) (cycle p st bits)) e
      (runs_cycle p (course p sound) image n past st bits r)) m)
      ∙ ap (of_mem m) (writes_more p n image p.start)
      ∙ of_mem_append m (writes_from p n image p.start) _
      ∙ ap (λ l. l ++ of_mem m (thread p (after_turns p image n).arrays (after_turns p image n).next).writes) (even image n past st r m))

  from_here : (image : Arrays) (n : ℕ) (past : List Commit) (st : State) (schedule : List (List Bool))
      → Runs p (course p sound) image n past st → st.asked ≡ nothing_asked p.mems
      → AreWhole (turns_from p st schedule) (threads_from p (length schedule) (after_turns p image n).arrays (after_turns p image n).next)
  from_here image n past st [] r q = tt
  from_here image n past st (bits ∷ schedule) r q =
      let calm : is_wait p st bits ≡ false = ap (waits_from p bits 0) q ∙ none_waits p bits 0 p.mems in
      let e : ends_one p (all_acts p st bits) ≡ true = ended_now image n past st bits r calm in
      let next : Runs p (course p sound) image (suc n) (past ++ commits_of (all_acts p st bits)) (cycle p st bits) =
      subst
      (λ b. Runs p (course p sound) image (cond b (suc n) n) (past ++ commits_of (all_acts p st bits)) (cycle p st bits)) e
      (runs_cycle p (course p sound) image n past st bits r) in (
        record { commits = commits_now image n past st bits r e; ended = e; squash = none_fail st bits [] st.threads; wait = calm },
        from_here image (suc n) (past ++ commits_of (all_acts p st bits)) (cycle p st bits) schedule next
            (ap₂ (λ qs old. next_asks p bits qs 0 old) (none_ask st bits [] st.threads) q ∙ none_asked p bits 0 p.mems),
      )

  -- the stated machine has the same ports and waits
  carried : (ts : List Cycle.Turn) (us : List Derived.Turn) (wss : List (List Commit)) → SameTurns p ts us → AreWhole us wss → AreThreads ts wss
  carried [] [] [] s h = tt
  carried [] [] (ws ∷ wss) s h = absurd h
  carried [] (u ∷ us) wss s h = absurd s
  carried (t ∷ ts) [] wss s h = absurd s
  carried (t ∷ ts) (u ∷ us) [] s h = absurd h
  carried (t ∷ ts) (u ∷ us) (ws ∷ wss) s h = (
    record { commits = λ m. s.0.commits m ∙ h.0.commits m; ended = s.0.ended ∙ h.0.ended; squash = s.0.squash ∙ h.0.squash; wait = s.0.wait ∙ h.0.wait },
    carried ts us wss s.1 h.1,
  )

  abbrev hints : Arrays → List (List Bool) → ℕ → Hint
  hints image schedule = hints_of p (Cycle.first p image) schedule

  -- the cycles of a run of the stated machine are the threads of the sequential run, one after another
  pub whole_threads : (image : Arrays) (schedule : List (List Bool)) → AreThreads (Cycle.turns p image schedule) (threads p image (length schedule))
  whole_threads image schedule =
      carried _ _ _ (whole_same p sound image schedule)
      (from_here image 0 [] (first p image (hints image schedule)) schedule (runs_first p (course p sound) image (hints image schedule)) refl)

-- LINES

puts_alike : (m : ℕ) (es : List PortWrite) → puts_of (commits_shown m es) ≡ puts_for es
puts_alike m [] = refl
puts_alike m (e ∷ es) = ap (λ l. record { address = e.address; value = e.value } ∷ l) (puts_alike m es)

-- what each memory of a cycle shows
puts_same : (f : ℕ → List PortWrite) (ws : List Commit) (k : ℕ) (ms : List Tree.Mem)
    → ((j : ℕ) → j < length (mems_of ms) → commits_shown (k + j) (f (k + j)) ≡ of_mem (k + j) ws)
    → puts_in (for_mems f k (mems_of ms)) ≡ by_mem k (columns ms) ws
puts_same f ws k [] h = refl
puts_same f ws k (m ∷ ms) h =
    ap₂ (λ a l. a ∷ l)
    (sym (puts_alike k (f k)) ∙ ap puts_of (subst (λ i. commits_shown i (f i) ≡ of_mem i ws) (let e : k + 0 ≡ k = omega arith in e) (h 0 (omega arith))))
    (puts_same f ws (suc k) ms
    (λ j low. subst (λ i. commits_shown i (f i) ≡ of_mem i ws) (let e : k + suc j ≡ suc k + j = omega arith in e) (h (suc j) (omega arith))))

-- a cycle that is a thread
cycle_same : (p : Tree.Pipe) (st : Machine.State) (bits : List Bool) (ws : List Commit)
    → IsThread (record { ports = Cycle.ports (flat p) st (Moves.all_acts (flat p) st bits); wait = Cycle.is_wait (flat p) st bits }) ws
    → turn_cycle (record { ports = Cycle.ports (flat p) st (Moves.all_acts (flat p) st bits); wait = Cycle.is_wait (flat p) st bits })
    ≡ thread_cycle (columns p.mems) ws
cycle_same p st bits ws h = λ i. record {
  puts = puts_same (λ m. Cycle.port_writes (Cycle.taken_out st (Moves.movers (Moves.all_acts (flat p) st bits)) m)) ws 0 p.mems each i;
  ended = h.ended i;
  wait = h.wait i;
  squash = h.squash i;
}
  where
    each : (j : ℕ) → j < length (mems_of p.mems)
        → commits_shown (0 + j) (Cycle.port_writes (Cycle.taken_out st (Moves.movers (Moves.all_acts (flat p) st bits)) (0 + j))) ≡ of_mem (0 + j) ws
    each j low =
        ap (commits_shown (0 + j))
        (sym (at_mem (λ m. Cycle.port_writes (Cycle.taken_out st (Moves.movers (Moves.all_acts (flat p) st bits)) m)) 0 (mems_of p.mems) j [] low))
        ∙ subst
        (λ k. commits_shown k
        (slice_index_or
        (for_mems (λ m. Cycle.port_writes (Cycle.taken_out st (Moves.movers (Moves.all_acts (flat p) st bits)) m)) 0 (mems_of p.mems)) j [])
        ≡ of_mem k ws)
        (let e : j ≡ 0 + j = omega arith in e) (h.commits j)

cycles_same : (p : Tree.Pipe) (st : Machine.State) (schedule : List (List Bool)) (tss : List (List Commit))
    → AreThreads (Cycle.turns_from (flat p) st schedule) tss
    → turn_cycles (Cycle.turns_from (flat p) st schedule) ≡ thread_cycles (columns p.mems) tss
cycles_same p st [] [] h = refl
cycles_same p st [] (ws ∷ tss) h = absurd h
cycles_same p st (bits ∷ schedule) [] h = absurd h
cycles_same p st (bits ∷ schedule) (ws ∷ tss) h =
    ap₂ (λ c cs. c ∷ cs) (cycle_same p st bits ws h.0) (cycles_same p (Cycle.cycle (flat p) st bits) schedule tss h.1)

-- the machine prints the lines of the sequential run
pub same_lines : (p : Tree.Pipe) → Sound (flat p)
    → length (flat p).stages ≡ 1 → (image : List (List ℕ)) (schedule : List (List Bool))
    → run_lines p image schedule ≡ sequential_lines p image (length schedule)
same_lines p sound single image schedule =
    ap (lines (columns p.mems))
    (cycles_same p (Cycle.first (flat p) (arrays_of image)) schedule _ (whole_threads (flat p) sound single (arrays_of image) schedule))
