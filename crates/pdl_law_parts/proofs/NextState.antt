-- After a cycle the state of a compiled netlist stands for the machine's next state.
use Rattle.std.proofs.Common.{◌≡◌, refl, sym, ap, ap₂, ◌∙◌, subst, ℕ, suc, ◌+◌, ◌%◌, ◌^◌, ◌<◌, ◌≤◌, Bool, true, false, List, [], ◌∷◌, length, take, Option, Some, None, is_some, arith, ⊎_elim, ltb-true, le-leb}
use Rattle.std.specs.Prelude.{if◌then◌else◌, slice_index, slice_index_or, nat_lt, nat_le, not, ◌==◌}
use Rattle.std.proofs.lemmas.Bool.{cases_lt, leb-true}
use Rattle.std.proofs.lemmas.List.{length-map, get_or_past}
use Rattle.pdl_word.specs.Words.{bit}
use Rattle.pdl_semantics.specs.Flat.{Pipe, is_delayed, is_advisory}
use Rattle.pdl_semantics.specs.Stages.{plain_mem, mem_at, reserve_stage, commit_stage}
use Rattle.pdl_semantics.specs.Machine as machine
use Rattle.pdl_semantics.specs.Machine.{Thread, Pending, held_before, is_held, with_kept}
use Rattle.pdl_semantics.specs.Moves.{next_stage}
use Rattle.pdl_semantics.specs.Cycle.{cycle, or_then, if_kept, is_stage, thread_after, squasher, is_kept as removed, with_reserves, all_releases, list_two, list_three, taken_out, with_commit, entries_left}
use Rattle.pdl_net.specs.Circuit.{Circuit, State, HasArray, HasReg, array_depth}
use Rattle.pdl_net.specs.Signal.{Signal, no_signal, mux_signal}
use Rattle.pdl_net.specs.Cycle.{next_regs, next_arrays}
use Rattle.pdl_net.specs.Well.{Suits}
use Rattle.pdl_net.specs.Growth.{Own}
use Rattle.pdl_lockapi.specs.Laws.{IsNext, holds_ticket, after_writes}
use Rattle.pdl_lockapi.specs.Forget.{forget, lock_state_of}
use Rattle.pdl_lockapi.proofs.NextState.{is_next}
use Rattle.pdl_machine_facts.specs.Slots.{LeadsOn, slot, here, stage_moves, moving, arriving_thread}
use Rattle.pdl_machine_facts.specs.Slots as slots
use Rattle.pdl_machine_facts.specs.Cycle.{newborn, IsByStages}
use Rattle.pdl_machine_facts.specs.Use.{IsInUse}
use Rattle.pdl_machine_facts.proofs.StagewiseActs.{some_here}
use Rattle.pdl_machine_facts.proofs.StagewisePorts.{then_then}
use Rattle.pdl_law_parts.proofs.AnsweredThreads.{Stood}
use Rattle.pdl_law_parts.specs.declared.Mark.{Mark}
use Rattle.pdl_law_parts.specs.declared.Mark.TheVariants.{Held, Late}
use Rattle.pdl_law_parts.specs.Lives.{mark_from}
use Rattle.pdl_law_parts.specs.Walk.{Locks, is_locked, one, zero_bit}
use Rattle.pdl_law_parts.specs.Views.{Gates, View, Comer, comers, first_coming}
use Rattle.pdl_law_parts.specs.Advice.{IsAdvisedApart, AreAdvised}
use Rattle.pdl_law_parts.specs.Compiled.{IsLaid, Becomes}
use Rattle.pdl_law_parts.specs.Served.{IsServed}
use Rattle.pdl_law_parts.specs.Stands.{IsEnv, IsHolding, TellsLate, AreLate, StandsLock, StandsFor, IsSeen, IsSquashed, IsGuess}
use Rattle.pdl_law_parts.proofs.Signals.{mux_at, mux_by, one_is, zero_is}
use Rattle.pdl_law_parts.proofs.StageLooks.{plain_is, lock_there}
use Rattle.pdl_law_parts.proofs.LockUse.{as_reserved, IsAlike, alike_count, alike_has, alike_place, alike_once, alike_own, writes_alike, own_dropped, own_left}
use Rattle.pdl_law_parts.proofs.LockStep.{words_next, words_long, words_same, few_next, stands_next}
use Rattle.pdl_law_parts.proofs.AdvisedWords.{advised_words}
use Rattle.pdl_law_parts.proofs.Comers.{first_come, brought, picked_is, AreAlike, Brings, so_at, comers_alike, signal_at, signals_are, Spares}
use Rattle.pdl_semantics.specs.PendingLists.{count_older}
use Rattle.pdl_semantics.specs.Sound.{entries_by}

-- a memory that has words, or a lock, is there
pub mem_there : (p : Pipe) (m a : ℕ) → a < (mem_at p m).depth → m < length p.mems
mem_there p m a l = ⊎_elim
    (λ (h : m < length p.mems). h)
    (λ (h : length p.mems ≤ m). absurd
    (let z = ap (λ (x : Rattle.pdl_semantics.specs.Flat.Mem). x.depth) (get_or_past p.mems m plain_mem h) in omega (arith, z, l)))
    (cases_lt m (length p.mems))

-- who comes isn't removed
if_stays_then : (sq : Option ℕ) (a b : Option Thread)
    → ((u : Thread) → a ≡ Some u → removed sq u.number ≡ true) → if_kept sq (or_then a b) ≡ or_then a (if_kept sq b)
if_stays_then sq None b h = refl
if_stays_then sq (Some u) b h = ap (λ c. if c then Some u else None) (h u refl)

-- who is left stays
if_stays_is : (sq : Option ℕ) (o : Option Thread) (u : Thread) → if_kept sq o ≡ Some u → (o ≡ Some u) × (removed sq u.number ≡ true)
if_stays_is sq None u e = absurd (cc e)
if_stays_is sq (Some t) u e = at (removed sq t.number) refl e
  where
    at : (b : Bool) → removed sq t.number ≡ b → (if b then Some t else None) ≡ Some u → (Some t ≡ Some u) × (removed sq u.number ≡ true)
    at true f g = let same : t ≡ u = cc g in (g, subst (λ (v : Thread). removed sq v.number ≡ true) same f)
    at false f g = absurd (cc g)

-- older pending writes than those of a thread that stays are left
count_left : (sq : Option ℕ) (n : ℕ) (es : List Pending) → removed sq n ≡ true → count_older n (entries_left sq es) ≡ count_older n es
count_left sq n [] h = refl
count_left sq n (e ∷ es) h = at sq (nat_lt e.thread n) refl h (count_left sq n es h)
  where
    kept : (k : ℕ) → e.thread < n → n ≤ k → nat_le e.thread k ≡ true
    kept k i j = le-leb e.thread k (omega (arith, i, j))

    at : (sq : Option ℕ) (b : Bool) → nat_lt e.thread n ≡ b → removed sq n ≡ true
        → count_older n (entries_left sq es) ≡ count_older n es
        → count_older n (if removed sq e.thread then e ∷ entries_left sq es else entries_left sq es) ≡ (if b then suc (count_older n es) else count_older n es)
    at None b i j g = ap₂ (λ c k. if c then suc k else k) i g
    at (Some k) true i j g =
        ap (λ c. count_older n (if c then e ∷ entries_left (Some k) es else entries_left (Some k) es)) (kept k (ltb-true e.thread n i) (leb-true n k j))
        ∙ ap₂ (λ c k. if c then suc k else k) i g
    at (Some k) false i j g = by (nat_le e.thread k)
      where
        by : (c : Bool) → count_older n (if c then e ∷ entries_left (Some k) es else entries_left (Some k) es) ≡ count_older n es
        by true = ap₂ (λ c k. if c then suc k else k) i g
        by false = g

module _ (p : Pipe) (ls : Locks) (vs : ℕ → View) (gates : Gates) (moves : ℕ → Signal) (c : Circuit) (made : IsLaid p ls vs gates moves c) (leads : LeadsOn p)
    (s : State) (st : machine.State) (bits : List Bool) (suits : Suits c s) (stands : StandsFor p ls vs s st)
    (used : IsServed p st bits) (by : IsByStages p st bits) (spared : Spares p st bits)
    (seen : (j : ℕ) → j < length p.stages → IsSeen p vs moves s st bits j)
    (stood : (k : ℕ) (t : Thread) → here p st bits k ≡ Some t → Stood st k t)
    (squashed : IsSquashed p ls vs gates s st bits)
    (answers : (k : ℕ) (t : Thread) → k < length p.stages → here p st bits k ≡ Some t → IsEnv p k s (vs k).begun.vars (with_kept t.advice (with_kept t.kept t.env)))
    (apart : IsAdvisedApart p)
    (plain : (m : ℕ) → m < length p.mems → is_advisory (mem_at p m).kind ≡ false
    → (cycle p st bits).arrays m ≡ with_commit st.arrays m (taken_out st (moving p st bits) m) m) where
  abbrev next : machine.State
  next = cycle p st bits

  -- the thread that comes into a stage
  abbrev coming : ℕ → Option Thread
  coming q = or_then (newborn p st bits q) (arriving_thread p st bits q)

  abbrev sq : Option ℕ
  sq = squasher (moving p st bits)

  abbrev stays : ℕ → Option Thread
  stays q = if_kept sq (if stage_moves p st bits q then None else here p st bits q)

  none_removed : (q : ℕ) (js : List ℕ) (u : Thread) → slots.first_of p st bits q js ≡ Some u → removed sq u.number ≡ true
  none_removed q [] u e = absurd (cc e)
  none_removed q (j ∷ js) u e = at (stage_moves p st bits j) (here p st bits j) refl refl (λ i. none_removed q js u i) e
    where
      at : (g : Bool) (o : Option Thread) → stage_moves p st bits j ≡ g → here p st bits j ≡ o
          → (slots.first_of p st bits q js ≡ Some u → removed sq u.number ≡ true)
          → or_then (slots.thread_into p st q j g o) (slots.first_of p st bits q js) ≡ Some u
          → removed sq u.number ≡ true
      at false o f h go i = go i
      at true None f h go i = go i
      at true (Some t) f h go i = taken (is_stage q (next_stage p j (machine.deeds p st j t))) i
        where
          taken : (b : Bool)
              → or_then (if b then Some (thread_after (slots.act_at p st j t)) else None) (slots.first_of p st bits q js) ≡ Some u
              → removed sq u.number ≡ true
          taken true k =
              let same : thread_after (slots.act_at p st j t) ≡ u = cc k in
              subst (λ (v : Thread). removed sq v.number ≡ true) same (spared.kept j t h f)
          taken false k = go k

  slot_next : (q : ℕ) → q < length p.stages → slot next q ≡ or_then (coming q) (stays q)
  slot_next q l =
      by.next q l
      ∙ ap (or_then (newborn p st bits q))
      (if_stays_then sq (arriving_thread p st bits q) (slots.staying_thread p st bits q) (λ u e. none_removed q (slots.ways p q) u e))
      ∙ sym (then_then (newborn p st bits q) (arriving_thread p st bits q) (if_kept sq (slots.staying_thread p st bits q)))

  -- a thread in a stage came into it with what a comer brings, or stayed
  pub data Came (q : ℕ) (u : Thread) : Type 0 where
    came : (o : Comer) → first_come s (comers p vs moves q) ≡ Some o → Brings p ls vs moves s st bits leads by used stands seen stood spared apart q o u → Came q u
    stayed : first_come s (comers p vs moves q) ≡ None → stage_moves p st bits q ≡ false → here p st bits q ≡ Some u → removed sq u.number ≡ true → Came q u

  came_how : (q : ℕ) (u : Thread) → q < length p.stages → slot next q ≡ Some u → Came q u
  came_how q u l e =
      at (first_come s (comers p vs moves q)) refl (coming q)
      (stage_moves p st bits q) refl (comers_alike p ls vs moves s st bits leads by used stands seen stood spared apart q l)
      (sym (slot_next q l) ∙ e)
    where
      none_some : None ≡ Some u → ⊥
      none_some h = cc h

      same : (t : Thread) → Some t ≡ Some u → t ≡ u
      same t h = cc h

      at : (o : Option Comer) → first_come s (comers p vs moves q) ≡ o → (a : Option Thread) (g : Bool)
          → stage_moves p st bits q ≡ g → AreAlike p ls vs moves s st bits leads by used stands seen stood spared apart q o a
          → or_then a (if_kept sq (if g then None else here p st bits q)) ≡ Some u → Came q u
      at None f None true i h e = absurd (none_some e)
      at None f None false i h e = let z = if_stays_is sq (here p st bits q) u e in stayed f i z.0 z.1
      at None f (Some t) g i h e = absurd h
      at (Some o) f None g i h e = absurd h
      at (Some o) f (Some t) g i h e = came o f (subst (Brings p ls vs moves s st bits leads by used stands seen stood spared apart q o) (same t e) h)

  -- whether somebody stands in it
  holds_next : (q : ℕ) → q < length p.stages
      → brought s (λ (o : Comer). one) (mux_signal (moves q) zero_bit (mux_signal (gates.kill q) zero_bit (vs q).valid)) (first_come s (comers p vs moves q))
      ≡ bit (is_some (slot next q))
  holds_next q l =
      at (first_come s (comers p vs moves q)) (coming q) (comers_alike p ls vs moves s st bits leads by used stands seen stood spared apart q l)
      ∙ ap (λ o. bit (is_some o)) (sym (slot_next q l))
    where
      still : Signal
      still = mux_signal (gates.kill q) zero_bit (vs q).valid

      none : (a b : ℕ) → a ≡ 0 → b ≡ 0 → (c : Bool) → (if c then a else b) ≡ 0
      none a b e f true = e
      none a b e f false = f

      -- a thread that stays, where it isn't removed
      is_left : (o : Option Thread) → here p st bits q ≡ o → stage_moves p st bits q ≡ false → still.value s ≡ bit (is_some (if_kept sq o))
      is_left None e g =
          mux_by s (gates.kill q) zero_bit (vs q).valid
          ∙ none (zero_bit.value s) ((vs q).valid.value s) (zero_is s)
          (stands.valid q l ∙ ap bit (sym (some_here p st bits q)) ∙ ap (λ o. bit (is_some o)) e)
          ((gates.kill q).value s == 1)
      is_left (Some t) e g =
          mux_at s (gates.kill q) zero_bit (vs q).valid (not (removed sq t.number)) (squashed.kill q t e g)
          ∙ ap₂ (λ x y. if not (removed sq t.number) then x else y) (zero_is s)
          (stands.valid q l ∙ ap bit (sym (some_here p st bits q)) ∙ ap (λ o. bit (is_some o)) e)
          ∙ by' (removed sq t.number)
        where
          by' : (b : Bool) → (if not b then 0 else 1) ≡ bit (is_some (if b then Some t else None))
          by' true = refl
          by' false = refl

      settled : (g : Bool) → stage_moves p st bits q ≡ g → (if g then 0 else still.value s) ≡ bit (is_some (if_kept sq (if g then None else here p st bits q)))
      settled true e = refl
      settled false e = is_left (here p st bits q) refl e

      at : (o : Option Comer) (a : Option Thread)
          → AreAlike p ls vs moves s st bits leads by used stands seen stood spared apart q o a
          → brought s (λ (o : Comer). one) (mux_signal (moves q) zero_bit still) o ≡ bit (is_some (or_then a (stays q)))
      at None None h =
          mux_at s (moves q) zero_bit still (stage_moves p st bits q) (seen q l).leaves
          ∙ ap (λ x. if stage_moves p st bits q then x else still.value s) (zero_is s)
          ∙ settled (stage_moves p st bits q) refl
      at None (Some t) h = absurd h
      at (Some o) None h = absurd h
      at (Some o) (Some t) h = one_is s

  stage_low : (q : ℕ) (u : Thread) → slot next q ≡ Some u → q < length p.stages
  stage_low q u e = ⊎_elim
      (λ (h : q < length p.stages). h)
      (λ (h : length p.stages ≤ q). absurd (none_some (sym (get_or_past next.stages q None (let n = by.count in omega (arith, n, h))) ∙ e)))
      (cases_lt q (length p.stages))
    where
      none_some : None ≡ Some u → ⊥
      none_some h = cc h

  module _ (t : State) (suits' : Suits c t) (regs : t.regs ≡ next_regs c s) (arrays : t.arrays ≡ next_arrays c s) (used' : IsInUse p next []) where
    -- what a signal then has that a comer brings, or that stays
    becomes : (q : ℕ) (of : Comer → Signal) (f g : Signal) → Becomes c f (first_coming of (comers p vs moves q) g)
        → f.value t ≡ brought s of g (first_come s (comers p vs moves q))
    becomes q of f g h = h s t suits regs ∙ picked_is s of (comers p vs moves q) g

    valid_next : (q : ℕ) → q < length p.stages → (vs q).valid.value t ≡ bit (is_some (slot next q))
    valid_next q l =
        becomes q (λ (o : Comer). one) (vs q).valid (mux_signal (moves q) zero_bit (mux_signal (gates.kill q) zero_bit (vs q).valid)) (made.stages q l).valid
        ∙ holds_next q l

    long_next : (q : ℕ) (u : Thread) → slot next q ≡ Some u → length u.env ≡ p.vars
    long_next q u e = at (came_how q u (stage_low q u e) e)
      where
        at : Came q u → length u.env ≡ p.vars
        at (came o f b) = b.long
        at (stayed f g h r) = let v = stood q u h in ap length (sym v.env) ∙ stands.long q v.thread v.slot

    env_next : (q : ℕ) (u : Thread) → slot next q ≡ Some u → IsEnv p q t (vs q).kept (with_kept u.advice (with_kept u.kept u.env))
    env_next q u e x live = at (came_how q u l e)
      where
        l : q < length p.stages
        l = stage_low q u e

        now : ((vs q).kept x).value t ≡ brought s (λ (o : Comer). o.vars x) ((vs q).begun.vars x) (first_come s (comers p vs moves q))
        now = becomes q (λ (o : Comer). o.vars x) ((vs q).kept x) ((vs q).begun.vars x) ((made.stages q l).vars x live)

        at : Came q u → slice_index (with_kept u.advice (with_kept u.kept u.env)) x ≡ ((vs q).kept x).value t
        at (came o f b) = b.env x live ∙ ap (brought s (λ (o : Comer). o.vars x) ((vs q).begun.vars x)) (sym f) ∙ sym now
        at (stayed f g h r) = answers q u l h x live ∙ ap (brought s (λ (o : Comer). o.vars x) ((vs q).begun.vars x)) (sym f) ∙ sym now

    advice_next : (q : ℕ) (u : Thread) → slot next q ≡ Some u → AreAdvised p u.advice
    advice_next q u e = at (came_how q u (stage_low q u e) e)
      where
        at : Came q u → AreAdvised p u.advice
        at (came o f b) = b.advice
        at (stayed f g h r) = let v = stood q u h in subst (AreAdvised p) v.advice (stands.advice q v.thread v.slot)

    mark_now : (q : ℕ) → q < length p.stages → (mark : Mark) (m a : ℕ) → mark_from p q mark m a ≡ true
        → ((vs q).begun.marks mark m a).value t
        ≡ brought s (λ (o : Comer). o.marks mark m a) ((vs q).begun.marks mark m a) (first_come s (comers p vs moves q))
    mark_now q l mark m a live =
        becomes q (λ (o : Comer). o.marks mark m a) ((vs q).begun.marks mark m a) ((vs q).begun.marks mark m a) ((made.stages q l).marks mark m a live)

    held_next : (q : ℕ) (u : Thread) → slot next q ≡ Some u → IsHolding p q t (vs q).begun.marks (held_before q u.env p.stmts [])
    held_next q u e m a live = at (came_how q u l e)
      where
        l : q < length p.stages
        l = stage_low q u e

        at : Came q u → ((vs q).begun.marks Held m a).value t ≡ bit (is_held (held_before q u.env p.stmts []) m a)
        at (came o f b) = mark_now q l Held m a live ∙ ap (brought s (λ (o : Comer). o.marks Held m a) ((vs q).begun.marks Held m a)) f ∙ b.held m a live
        at (stayed f g h r) =
            mark_now q l Held m a live ∙ ap (brought s (λ (o : Comer). o.marks Held m a) ((vs q).begun.marks Held m a)) f
            ∙ (let v = stood q u h in stands.held q v.thread v.slot m a live ∙ ap (λ e. bit (is_held (held_before q e p.stmts []) m a)) v.env)

    guess_next : (q : ℕ) (u : Thread) → slot next q ≡ Some u → IsGuess p q t (vs q).begun.guess u.guess
    guess_next q u e v long =
        signals_are t (vs q).begun.guess u.guess (long ∙ sym (made.stages q l).guess_long)
        (λ i m. at i (let z = (made.stages q l).guess_long in omega (arith, m, z)) (came_how q u l e))
      where
        l : q < length p.stages
        l = stage_low q u e

        at : (i : ℕ) → i < length p.start → Came q u → slice_index u.guess i ≡ (slice_index_or (vs q).begun.guess i no_signal).value t
        at i m c = by' c
          where
            mine : Signal
            mine = slice_index_or (vs q).begun.guess i no_signal

            now : mine.value t ≡ brought s (λ (o : Comer). o.guess i) mine (first_come s (comers p vs moves q))
            now = becomes q (λ (o : Comer). o.guess i) mine mine ((made.stages q l).guess i m v)

            by' : Came q u → slice_index u.guess i ≡ mine.value t
            by' (came o f b) = b.guess v long i m ∙ ap (brought s (λ (o : Comer). o.guess i) mine) (sym f) ∙ sym now
            by' (stayed f g h r) =
                ap (λ l'. slice_index l' i) (let w = stood q u h in sym w.guess ∙ stands.guess q w.thread w.slot v (ap length w.guess ∙ long))
                ∙ signal_at s (vs q).begun.guess i (let z = (made.stages q l).guess_long in omega (arith, m, z))
                ∙ ap (brought s (λ (o : Comer). o.guess i) mine) (sym f) ∙ sym now

    -- MEMORIES

    own_next : (own : Own) → ((r : ℕ) → own.from ≤ r → r < own.to → HasReg c r) → ((i : ℕ) → own.first ≤ i → i < own.last → HasArray c i) → IsNext c own s t
    own_next own has has_array =
        is_next own c c s t (record { has_reg = has; nexts = λ k lo hi. refl; has_array = has_array; writes = λ i lo hi. refl }) regs arrays

    module _ (m : ℕ) (e : is_locked p m ≡ true) where
      abbrev stand : StandsLock p ls vs s st m
      stand = stands.locks m e

      abbrev base : ℕ
      base = stand.base + all_releases m (moving p st bits)

      abbrev words : List ℕ
      words = words_next p ls vs moves s st bits by used seen stood m e stand gates squashed

      list : machine.lock_of next m ≡ entries_left sq (list_three st (moving p st bits) m)
      list = by.locks m (lock_there p m e)

      stands' : ls.stands m t (lock_state_of base (machine.lock_of next m) words)
      stands' =
          let x = made.locks m e in
          subst (λ es. ls.stands m t (lock_state_of base es words)) (sym list)
          (stands_next p ls vs moves s st bits by used seen stood m e stand gates squashed x.kind (λ k l. (made.stages k l).tickets_wide m e)
          (made.owns m) c (made.commits m).first x.step t (own_next (made.owns m) x.regs x.arrays))

      -- the ticket of a thread is its place
      ticket_next : (q : ℕ) (u : Thread) → slot next q ≡ Some u → q ≤ commit_stage p m
          → holds_ticket (ls.bits m) ((vs q).tickets m) t (base + count_older u.number (machine.lock_of next m))
      ticket_next q u h high = ⊎_elim before after (cases_lt (reserve_stage p m) q)
        where
          l : q < length p.stages
          l = stage_low q u h

          es : List Pending
          es = machine.lock_of next m

          before : reserve_stage p m < q → holds_ticket (ls.bits m) ((vs q).tickets m) t (base + count_older u.number es)
          before low = at (came_how q u l h)
            where
              now : ((vs q).tickets m).value t ≡ brought s (λ (o : Comer). o.tickets m) ((vs q).tickets m) (first_come s (comers p vs moves q))
              now = becomes q (λ (o : Comer). o.tickets m) ((vs q).tickets m) ((vs q).tickets m) ((made.stages q l).tickets m e low high)

              thread_after : (f : Signal)
                  → holds_ticket (ls.bits m) f s (stand.base + count_older u.number (machine.lock_of st m))
                  → count_older u.number (list_three st (moving p st bits) m) + all_releases m (moving p st bits)
                  ≡ count_older u.number (machine.lock_of st m)
                  → removed sq u.number ≡ true
                  → f.value s ≡ (base + count_older u.number es) % 2 ^ ls.bits m
              thread_after f i j r =
                  i
                  ∙ ap (λ n. n % 2 ^ ls.bits m)
                  (let k : stand.base + count_older u.number (machine.lock_of st m)
                  ≡ base + count_older u.number (list_three st (moving p st bits) m) = omega (arith, j) in
                  k)
                  ∙ ap (λ n. (base + n) % 2 ^ ls.bits m) (sym (count_left sq u.number (list_three st (moving p st bits) m) r))
                  ∙ ap (λ x. (base + count_older u.number x) % 2 ^ ls.bits m) (sym list)

              at : Came q u → holds_ticket (ls.bits m) ((vs q).tickets m) t (base + count_older u.number es)
              at (came o f b) =
                  now ∙ ap (brought s (λ (o : Comer). o.tickets m) ((vs q).tickets m)) f
                  ∙ (let z = b.tickets m e low high in thread_after (o.tickets m) z.0 z.1 z.2)
              at (stayed f g i r) =
                  now ∙ ap (brought s (λ (o : Comer). o.tickets m) ((vs q).tickets m)) f
                  ∙ (let w = stood q u i in
                  thread_after ((vs q).tickets m)
                  (subst
                  (λ n. holds_ticket (ls.bits m) ((vs q).tickets m) s (stand.base + count_older n (machine.lock_of st m))) w.number
                  (stand.tickets q w.thread w.slot high))
                  (subst
                  (λ n. count_older n (list_three st (moving p st bits) m) + all_releases m (moving p st bits)
                  ≡ count_older n (machine.lock_of st m)) w.number
                  (used.in_use.shifts q w.thread m w.slot (let z : reserve_stage p m ≤ q = omega (arith, low) in z) high (λ z. g))) r)

          after : q ≤ reserve_stage p m → holds_ticket (ls.bits m) ((vs q).tickets m) t (base + count_older u.number es)
          after low =
              let all = used'.unreserved q u m h low in
              let long = length-map es forget in
              (made.stages q l).tickets_first m e low t suits'
              ∙ (made.locks m e).ticket.holds t (lock_state_of base es words) stands'
              ∙ ap (λ n. (base + n) % 2 ^ ls.bits m) (long ∙ sym all)

      abbrev pending : List Pending
      pending = with_reserves m (moving p st bits) (machine.lock_of st m)

      -- the own pending writes of a thread that is left are those that it had, and those that it reserved
      own_alike : (n : ℕ)
          → count_older n (list_three st (moving p st bits) m) + all_releases m (moving p st bits) ≡ count_older n (machine.lock_of st m)
          → count_older n pending ≡ count_older n (machine.lock_of st m) → removed sq n ≡ true
          → IsAlike (entries_by n (machine.lock_of next m)) (entries_by n pending)
      own_alike n shifts after r =
          let two = list_two st (moving p st bits) m in
          let same = writes_alike m (moving p st bits) pending in
          let older = alike_count n two pending same ∙ after in
          ap (λ es. as_reserved (entries_by n es)) list
          ∙ ap as_reserved
          (own_left sq n (list_three st (moving p st bits) m) r
          ∙ own_dropped (all_releases m (moving p st bits)) n two (shifts ∙ sym older))
          ∙ alike_own n two pending same

      -- the marks of a thread tell which of its own pending writes is the second one
      late_next : ls.twice m ≡ true → (q : ℕ) (u : Thread) → slot next q ≡ Some u → reserve_stage p m < q → q ≤ commit_stage p m
          → AreLate p q t (vs q).begun.marks u.number m (entries_by u.number (machine.lock_of next m))
      late_next twice q u h low high a live = at (came_how q u l h)
        where
          l : q < length p.stages
          l = stage_low q u h

          mine : Signal
          mine = (vs q).begun.marks Late m a

          -- where these signals are the same, and the thread's own are alike
          moved : (f : Signal) (n : ℕ) (fs : List Pending) → mine.value t ≡ f.value s → IsAlike (entries_by n (machine.lock_of next m)) fs
              → TellsLate s f n a fs → TellsLate t mine n a (entries_by n (machine.lock_of next m))
          moved f n fs e same tells has once =
              let es = entries_by n (machine.lock_of next m) in
              e
              ∙ tells (sym (alike_has n a es fs same) ∙ has) (alike_once n a fs es (sym same) once)
              ∙ ap (λ k. bit (nat_lt 0 k)) (sym (alike_place n a es fs same))

          at : Came q u → TellsLate t mine u.number a (entries_by u.number (machine.lock_of next m))
          at (came o f b) =
              let z = b.tickets m e low high in
              let known = b.late m e (sym (made.twice m (lock_there p m e)) ∙ twice) low high in
              moved (o.marks Late m a) u.number (entries_by u.number pending)
              (mark_now q l Late m a live ∙ ap (brought s (λ (o : Comer). o.marks Late m a) mine) f)
              (own_alike u.number z.1 known.0 z.2) (known.1 a live)
          at (stayed f g i r) =
              let w = stood q u i in
              let n = u.number in
              let reserved : reserve_stage p m ≤ q = omega (arith, low) in
              let shifts =
              subst
              (λ (n : ℕ). count_older n (list_three st (moving p st bits) m) + all_releases m (moving p st bits)
              ≡ count_older n (machine.lock_of st m)) w.number
              (used.in_use.shifts q w.thread m w.slot reserved high (λ z. g)) in
              let after =
              subst (λ (n : ℕ). count_older n pending ≡ count_older n (machine.lock_of st m)) w.number (used.in_use.after q w.thread m w.slot reserved) in
              moved mine n (entries_by n (machine.lock_of st m)) (mark_now q l Late m a live ∙ ap (brought s (λ (o : Comer). o.marks Late m a) mine) f)
              (own_alike n shifts after r ∙ ap as_reserved (used.kept q u m i g (lock_there p m e)))
              (subst (λ n. TellsLate s mine n a (entries_by n (machine.lock_of st m))) w.number (stand.late twice q w.thread w.slot low high a live))

      lock_next : StandsLock p ls vs t next m
      lock_next =
          let x = made.locks m e in
          let long = words_long p ls vs moves s st bits by used seen stood m e stand gates squashed in
          record {
            base = base;
            words = words;
            long = (let z = stand.long in omega (arith, long, z));
            same =
                λ a low. ap (λ (f : ℕ → ℕ). f a) (plain m (lock_there p m e) (apart.locks m e))
                ∙ words_same p ls vs moves s st bits by used seen stood m e stand gates squashed a low;
            stands = stands';
            few = subst (λ es. length es ≤ ls.size m) (sym list) (few_next p ls vs moves s st bits by used seen stood m e stand gates squashed x.kind);
            tickets = ticket_next;
            late = late_next;
          }

    -- how many words an array has
    long_array : (i : ℕ) → HasArray c i → length (slice_index_or s.arrays i []) ≡ array_depth c i
    unfolding HasArray array_depth
    long_array i h = suits.depth i h

    -- a memory without lock gets the words that are written by advice
    word_next : (m : ℕ) → is_locked p m ≡ false → is_delayed (mem_at p m).kind ≡ false → (a : ℕ) → a < (mem_at p m).depth
        → next.arrays m a ≡ slice_index (slice_index_or t.arrays (ls.array m) []) a
    word_next m e comb a low =
        let l = mem_there p m a low in
        let before = with_commit st.arrays m (taken_out st (moving p st bits) m) in
        let words = slice_index_or s.arrays (ls.array m) [] in
        let own : Own = record { from = 0; to = 0; first = ls.array m; last = ls.array m + 1 } in
        let written =
        (own_next own (λ r lo hi. absurd (omega (arith, hi)))
        (λ i lo hi. (let e : ls.array m ≡ i = omega (arith, lo, hi) in subst (HasArray c) e (made.arrays m l comb)))).arrays
        (ls.array m)
        (omega arith) (omega arith) in
        let long = long_array (ls.array m) (made.arrays m l comb) ∙ made.deep m l e comb in
        let advised =
        advised_words p vs moves s st bits (λ k i. (seen k i).leaves)
        (λ k u i h g. (so_at p ls vs moves s st bits leads by used stands seen stood spared apart k u i h g).advises)
        m (mem_at p m).depth (length p.stages) 0 before words (omega arith) (
          omega (arith, long),
          λ a low. ap (λ k. with_commit st.arrays m (take k (list_two st (moving p st bits) m)) m a) (used.in_use.unreleased m (plain_is p m e))
              ∙ stands.words m e comb a low,
        ) in
        ap (λ (f : ℕ → ℕ). f a) (by.arrays m l)
        ∙ advised.1 a low
        ∙ sym (ap (λ ws. slice_index ws a) (written ∙ ap (λ ps. after_writes s ps words) (made.advised m l e comb)))

    -- the state after the cycle stands for the machine's next state
    pub stands_after : StandsFor p ls vs t next
    stands_after = record {
      valid = valid_next;
      long = long_next;
      env = env_next;
      advice = advice_next;
      held = held_next;
      guess = guess_next;
      words = word_next;
      locks = lock_next;
    }
