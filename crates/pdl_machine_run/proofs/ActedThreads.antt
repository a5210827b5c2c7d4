-- Threads that have acted do what fits; memories keep their widths and their room.
use Rattle.std.proofs.Common.{◌≡◌, refl, sym, ap, ap₂, ◌∙◌, subst, ℕ, zero, suc, ◌+◌, ◌^◌, ◌<◌, ◌≤◌, Bool, true, false, if◌then◌else◌, ◌==◌, List, [], ◌∷◌, ◌++◌, Option, Some, None, length, get_or, slice_index, slice_set, ◌⊎◌, inl, inr, arith, ◌&&◌, drop, take}
use Rattle.std.specs.Prelude.{⊤}
use Rattle.std.proofs.lemmas.List.{length-set}
use Rattle.std.proofs.lemmas.Nat.{pow_pos}
use Rattle.std.proofs.lemmas.Bool.{eqb-true}
use Rattle.pdl_semantics.specs.Flat.{Op, Bind, CombRead, DelayedRead, Write, ReserveRead, ReserveWrite, Block, Release, Call, SpecCall, Verify, SpecCheck, SpecBarrier, AdviceBind, AdviceRead, AdviceWrite, Stmt, all_hold, Pipe}
use Rattle.pdl_semantics.specs.Stages.{in_stage, mem_at}
use Rattle.pdl_semantics.specs.Locks.{commit_value}
use Rattle.pdl_semantics.specs.Machine.{Thread, Pending, Reserved, Written, Deeds, with_answers, deeds, word_for, same_args, deeds_after, deeds_after_all, checked_args}
use Rattle.pdl_semantics.specs.Moves.{Act}
use Rattle.pdl_semantics.specs.Cycle.{new_entries, with_reserves, with_value_of, with_writes_of, with_all_writes, all_releases, is_kept, entries_left}
use Rattle.pdl_lockapi.specs.Forget.{addresses}
use Rattle.pdl_lockapi.proofs.Lengths.{appended_long, filled_long, left_long}
use Rattle.pdl_machine_facts.specs.Use.{before_stage}
use Rattle.pdl_form.specs.Form.{Form}
use Rattle.pdl_machine_pending.specs.Memory.{Memory, committed_to, all_committed_to, AreWithin}
use Rattle.pdl_machine_pending.specs.KeptWords.{IsBelow, AreKept, IsKept}
use Rattle.pdl_machine_run.specs.declared.stage.Stage as r_stage
use Rattle.pdl_machine_run.specs.declared.beside.Beside as r_beside
use Rattle.pdl_machine_run.specs.View.{deeds_view, thread_of, thread_if, thread_in}
use Rattle.pdl_machine_run.specs.Outside.{outside}
use Rattle.pdl_machine_run.specs.Typed.{IsFine, AreReserved, AreWritten, AreAdvised, AreFit, count_before}
use Rattle.pdl_machine_run.specs.Acts.{act_of, acts_of, IsCarried, both, left_of, out_of, memory_after}
use Rattle.pdl_machine_run.proofs.DeedWidths.{stage_few}
use Rattle.pdl_machine_run.proofs.AdviceCounts.{count_next, advised_few}

-- HOW OFTEN A STAGE ASKS

asked_verify : (b : Bool) (args : List ℕ) (d : Deeds)
    → length (if b then d else record d { child = Some args; guess = args; fails = true }).asks ≡ length d.asks
asked_verify true args d = refl
asked_verify false args d = refl

asked_op : (read : ℕ → ℕ → ℕ) (op : Op) (d : Deeds) → length (deeds_after read op d).asks ≤ suc (length d.asks)
asked_op read (Bind x e) d = omega arith
asked_op read (CombRead x m a) d = omega arith
asked_op read (DelayedRead x m a) d = let sum =
    Rattle.std.proofs.Common.length-append d.asks (record { mem = m; var = x; address = slice_index d.env a } ∷ []) in
    omega (arith, sum)
asked_op read (Write m a e) d = omega arith
asked_op read (ReserveRead m a) d = omega arith
asked_op read (ReserveWrite m a) d = omega arith
asked_op read (Block m a) d = omega arith
asked_op read (Release m a) d = omega arith
asked_op read (Call args) d = omega arith
asked_op read (SpecCall args) d = omega arith
asked_op read (Verify last args) d = let same = asked_verify (same_args (checked_args last args d) d.guess) (checked_args last args d) d in omega (arith, same)
asked_op read SpecCheck d = omega arith
asked_op read SpecBarrier d = omega arith
asked_op read (AdviceBind x e) d = omega arith
asked_op read (AdviceRead x m a) d = omega arith
asked_op read (AdviceWrite m a e) d = omega arith

asked_if : (read : ℕ → ℕ → ℕ) (b : Bool) (op : Op) (d : Deeds) → length (if b then deeds_after read op d else d).asks ≤ suc (length d.asks)
asked_if read true op d = asked_op read op d
asked_if read false op d = omega arith

asks_few : (read : ℕ → ℕ → ℕ) (ss : List Stmt) (d : Deeds) → length (deeds_after_all read ss d).asks ≤ length d.asks + length ss
asks_few read [] d = omega arith
asks_few read (x ∷ ss) d =
    let next : Deeds = if all_hold x.guards d.env then deeds_after read x.op d else d in
    let one = asked_if read (all_hold x.guards d.env) x.op d in
    let rest = asks_few read ss next in
    omega (arith, one, rest)

-- WHO HAS ACTED

module _ (f : Form) where
  -- the thread of this number in stage k, if there is one, fits, and so does what it does
  abbrev pub HasActed : ℕ → Option ℕ → r_stage.Stage → Type 0
  HasActed k None x = ⊤
  HasActed k (Some n) x =
      IsFine f k (thread_of n x.slot) × AreFit f (deeds_view x.deeds)
      × (length (deeds_view x.deeds).asks ≤ length f.pipe.stmts)
      × (length (deeds_view x.deeds).advice ≤ count_before (suc k) f.pipe.stmts)

  -- in each of these stages, of which the first is k, the thread that is there fits, and so does what it does
  abbrev pub AllActed : ℕ → List r_stage.Stage → Type 0
  AllActed k [] = ⊤
  AllActed k (z ∷ zs) = HasActed k z.slot.number z × AllActed (suc k) zs

  module _ (b : r_beside.Beside) (bits : List Bool) where
    carried_acted : (k : ℕ) (o : Option Thread) (n : Option ℕ) (z : r_stage.Stage) → z.slot.number ≡ n → IsCarried f b bits k o z → HasActed k n z
    carried_acted k o None z is c = tt
    carried_acted k None (Some m) z is c = absurd (cc (sym is ∙ c))
    carried_acted k (Some t) (Some m) z is c =
        let u : Thread = with_answers f.pipe (outside b) bits t in
        let same : thread_of m z.slot ≡ u = some_same (ap (λ (i : Option ℕ). thread_if i z.slot) (sym is) ∙ c.0) in
        let few = asks_few (word_for (outside b) u.number) (in_stage k f.pipe.stmts) (before_stage f.pipe k u) in
        let most = stage_few k f.pipe.stmts in
        let asked : length (deeds_view z.deeds).asks ≡ length (deeds f.pipe (outside b) k u).asks = ap (λ (d : Deeds). length d.asks) c.1 in
        let advised : length (deeds_view z.deeds).advice ≡ length (deeds f.pipe (outside b) k u).advice = ap (λ (d : Deeds). length d.advice) c.1 in
        let fine : IsFine f k u = c.2 in
        let before = fine.advised in
        let more = advised_few (word_for (outside b) u.number) (in_stage k f.pipe.stmts) (before_stage f.pipe k u) in
        let next = count_next k f.pipe.stmts in
        (subst (IsFine f k) (sym same) fine, c.3, omega (arith, few, most, asked), omega (arith, before, more, next, advised))
      where
        some_same : {a d : Thread} → Some a ≡ Some d → a ≡ d
        some_same e = cc e

    -- where the threads of all stages were carried on, each fits, and so does what it does
    pub all_acted : (k : ℕ) (ys zs : List r_stage.Stage) → length ys ≡ length zs
        → ((i : ℕ) (d : r_stage.Stage) → i < length ys → IsCarried f b bits (k + i) (thread_in (get_or ys i d).slot) (get_or zs i d))
        → AllActed k zs
    all_acted k [] [] n c = tt
    all_acted k [] (z ∷ zs) n c = absurd (omega arith)
    all_acted k (y ∷ ys) [] n c = absurd (omega arith)
    all_acted k (y ∷ ys) (z ∷ zs) n c = let here : k + 0 ≡ k = omega arith in (
      carried_acted k (thread_in y.slot) z.slot.number z refl (subst (λ j. IsCarried f b bits j (thread_in y.slot) z) here (c 0 z (omega arith))),
      all_acted (suc k) ys zs (omega arith)
          (λ i e less. let same : k + suc i ≡ suc k + i = omega arith in
          subst (λ j. IsCarried f b bits j (thread_in (get_or ys i e).slot) (get_or zs i e)) same (c (suc i) e (omega (arith, less)))),
    )

  -- the thread in one of these stages fits, and so does what it does, where it is so in each
  pub acted_at : (k : ℕ) (zs : List r_stage.Stage) (i : ℕ) (d : r_stage.Stage) → AllActed k zs → i < length zs
      → HasActed (k + i) (get_or zs i d).slot.number (get_or zs i d)
  acted_at k [] i d h less = absurd (omega arith)
  acted_at k (z ∷ zs) zero d h less = let here : k ≡ k + 0 = omega arith in subst (λ j. HasActed j z.slot.number z) here h.0
  acted_at k (z ∷ zs) (suc i) d h less =
      let next : suc k + i ≡ k + suc i = omega arith in
      subst (λ j. HasActed j (get_or zs i d).slot.number (get_or zs i d)) next (acted_at (suc k) zs i d h.1 (omega arith))

-- acts whose reservations, writes and writes of advisory memories are of words that are there, and of their widths
abbrev pub AllSized : Pipe → List Act → Type 0
AllSized p [] = ⊤
AllSized p (a ∷ ms) = AreReserved p a.does.reserves × AreWritten p a.does.writes × AreAdvised p a.does.advises × AllSized p ms

module _ (f : Form) where
  sized_one : (k : ℕ) (z : r_stage.Stage) (o : Option ℕ) (b : Bool) (more : List Act) → HasActed f k o z
      → AllSized f.pipe more → AllSized f.pipe (act_of k (if b then o else None) z ++ more)
  sized_one k z o false more done h = h
  sized_one k z None true more done h = h
  sized_one k z (Some n) true more done h = (done.1.reserves, done.1.writes, done.1.advises, h)

  -- where each thread fits, those who move reserve and write words that are there, with values of their widths
  pub acts_sized : (k : ℕ) (zs : List r_stage.Stage) → AllActed f k zs → AllSized f.pipe (acts_of k zs)
  acts_sized k [] done = tt
  acts_sized k (z ∷ zs) done = sized_one k z z.slot.number z.moves (acts_of (suc k) zs) done.0 (acts_sized (suc k) zs done.1)

-- PENDING WRITES

module _ (p : Pipe) (m : ℕ) where
  abbrev Kept : List Pending → Type 0
  Kept es = AreKept (2 ^ (mem_at p m).width) (mem_at p m).depth es

  kept_append : (xs ys : List Pending) → Kept xs → Kept ys → Kept (xs ++ ys)
  kept_append [] ys h g = g
  kept_append (e ∷ xs) ys h g = (h.0, h.1, kept_append xs ys h.2 g)

  kept_entry : (b : Bool) (thread : ℕ) (r : Reserved) (rest : List Pending) → (r.mem == m) ≡ b → r.address < (mem_at p r.mem).depth → Kept rest
      → Kept ((if b then record { thread = thread; var = r.var; address = r.address; value = None } ∷ [] else []) ++ rest)
  kept_entry true thread r rest e h k =
      let same : r.mem ≡ m = eqb-true r.mem m e in
      (subst (λ i. r.address < (mem_at p i).depth) same h, tt, k)
  kept_entry false thread r rest e h k = k

  kept_entries : (thread : ℕ) (rs : List Reserved) → AreReserved p rs → Kept (new_entries m thread rs)
  kept_entries thread [] h = tt
  kept_entries thread (r ∷ rs) h = kept_entry (r.mem == m) thread r (new_entries m thread rs) refl h.0 (kept_entries thread rs h.1)

  kept_here : (b : Bool) (v : ℕ) (e : Pending) → v < 2 ^ (mem_at p m).width → (e.address < (mem_at p m).depth) → IsBelow (2 ^ (mem_at p m).width) e.value
      → ((if b then record e { value = Some v } else e).address < (mem_at p m).depth)
      × IsBelow (2 ^ (mem_at p m).width) (if b then record e { value = Some v } else e).value
  kept_here true v e h a w = (a, h)
  kept_here false v e h a w = (a, w)

  kept_put : (thread x v : ℕ) (es : List Pending) → v < 2 ^ (mem_at p m).width → Kept es → Kept (with_value_of thread x v es)
  kept_put thread x v [] h k = tt
  kept_put thread x v (e ∷ es) h k =
      let here = kept_here ((e.thread == thread) && (e.var == x)) v e h k.0 k.1 in
      (here.0, here.1, kept_put thread x v es h k.2)

  kept_if : (b : Bool) (thread : ℕ) (w : Written) (es : List Pending) → (w.mem == m) ≡ b
      → w.value < 2 ^ (mem_at p w.mem).width → Kept es → Kept (if b then with_value_of thread w.var w.value es else es)
  kept_if true thread w es e h k =
      let same : w.mem ≡ m = eqb-true w.mem m e in
      kept_put thread w.var w.value es (subst (λ i. w.value < 2 ^ (mem_at p i).width) same h) k
  kept_if false thread w es e h k = k

  kept_puts : (thread : ℕ) (ws : List Written) (es : List Pending) → AreWritten p ws → Kept es → Kept (with_writes_of m thread ws es)
  kept_puts thread [] es h k = k
  kept_puts thread (w ∷ ws) es h k =
      kept_puts thread ws (if w.mem == m then with_value_of thread w.var w.value es else es) h.1 (kept_if (w.mem == m) thread w es refl h.0 k)

  kept_appended : (ms : List Act) (es : List Pending) → AllSized p ms → Kept es → Kept (with_reserves m ms es)
  kept_appended [] es h k = k
  kept_appended (a ∷ ms) es h k = kept_append (with_reserves m ms es) _ (kept_appended ms es h.3 k) (kept_entries a.thread.number a.does.reserves h.0)

  kept_filled : (ms : List Act) (es : List Pending) → AllSized p ms → Kept es → Kept (with_all_writes m ms es)
  kept_filled [] es h k = k
  kept_filled (a ∷ ms) es h k = kept_puts a.thread.number a.does.writes (with_all_writes m ms es) h.1 (kept_filled ms es h.3 k)

  -- with fitting reservations and writes, pending writes are of words that are there, with values of their width
  pub kept_both : (ms : List Act) (es : List Pending) → AllSized p ms → Kept es → Kept (both m ms es)
  kept_both ms es h k = kept_filled ms (with_reserves m ms es) h (kept_appended ms es h k)

  -- each pending write is of a word that is there
  pub each_within : (es : List Pending) → Kept es → AreWithin (mem_at p m).depth es
  each_within [] k = tt
  each_within (e ∷ es) k = (k.0, each_within es k.2)

  left_kept : (n : ℕ) (es : List Pending) → Kept es → Kept (drop n es)
  left_kept zero es k = k
  left_kept (suc n) [] k = tt
  left_kept (suc n) (e ∷ es) k = left_kept n es k.2

  out_kept : (n : ℕ) (es : List Pending) → Kept es → Kept (take n es)
  out_kept zero es k = tt
  out_kept (suc n) [] k = tt
  out_kept (suc n) (e ∷ es) k = (k.0, k.1, out_kept n es k.2)

  -- WORDS

  positive : 0 < 2 ^ (mem_at p m).width
  positive = pow_pos (mem_at p m).width

  value_below : (v : Option ℕ) → IsBelow (2 ^ (mem_at p m).width) v → commit_value v < 2 ^ (mem_at p m).width
  value_below None h = positive
  value_below (Some v) h = h

  -- words stay below a bound after one of them is set to a value below it
  pub set_below : (ws : List ℕ) (a v n : ℕ) → ((i : ℕ) → slice_index ws i < n) → v < n → (i : ℕ) → slice_index (slice_set ws a v) i < n
  set_below [] a v n h g i = h i
  set_below (w ∷ ws) zero v n h g zero = g
  set_below (w ∷ ws) zero v n h g (suc i) = h (suc i)
  set_below (w ∷ ws) (suc a) v n h g zero = h 0
  set_below (w ∷ ws) (suc a) v n h g (suc i) = set_below ws a v n (λ j. h (suc j)) g i

  words_below : (ws : List ℕ) (es : List Pending) → ((i : ℕ) → slice_index ws i < 2 ^ (mem_at p m).width) → Kept es
      → (i : ℕ) → slice_index (all_committed_to ws es) i < 2 ^ (mem_at p m).width
  words_below ws [] h k i = h i
  words_below ws (e ∷ es) h k i =
      words_below (committed_to ws (Some e)) es (set_below ws e.address (commit_value e.value) _ h (value_below e.value k.1)) k.2 i

  words_count : (ws : List ℕ) (es : List Pending) → length (all_committed_to ws es) ≡ length ws
  words_count ws [] = refl
  words_count ws (e ∷ es) = words_count (committed_to ws (Some e)) es ∙ length-set ws e.address (commit_value e.value)

  -- what a squash leaves of pending writes is of words that are there, with values of their width
  pub entries_kept : (sq : Option ℕ) (es : List Pending) → Kept es → Kept (entries_left sq es)
  entries_kept sq [] k = tt
  entries_kept sq (e ∷ es) k = at (is_kept sq e.thread) (entries_kept sq es k.2)
    where
      at : (b : Bool) → Kept (entries_left sq es) → Kept (if b then e ∷ entries_left sq es else entries_left sq es)
      at true h = (k.0, k.1, h)
      at false h = h

  -- a memory keeps its depth, and its words and pending writes their width, after fitting acts and a squash
  pub kept_after : (ms : List Act) (sq : Option ℕ) (x : Memory) → AllSized p ms
      → IsKept (2 ^ (mem_at p m).width) (mem_at p m).depth x
      → IsKept (2 ^ (mem_at p m).width) (mem_at p m).depth (memory_after m ms sq x)
  kept_after ms sq x h k =
      let all = kept_both ms x.pending h k.pending in
      record {
        count = words_count x.words (out_of m ms x.pending) ∙ k.count;
        words = words_below x.words (out_of m ms x.pending) k.words (out_kept (all_releases m ms) (both m ms x.pending) all);
        pending = entries_kept sq (left_of m ms x.pending) (left_kept (all_releases m ms) (both m ms x.pending) all);
      }

-- after a cycle's reservations, writes and releases no more writes are pending than before and were reserved
pub left_count : (m : ℕ) (ms : List Act) (es : List Pending) → length (left_of m ms es) ≤ length es + length (addresses m ms)
left_count m ms es =
    let left = left_long (all_releases m ms) (both m ms es) in
    let fill = filled_long m ms (with_reserves m ms es) in
    let count = appended_long m ms es in
    omega arith

-- a squash leaves no more pending writes than there were
pub entries_few : (sq : Option ℕ) (es : List Pending) → length (entries_left sq es) ≤ length es
entries_few sq [] = omega arith
entries_few sq (e ∷ es) = at (is_kept sq e.thread) (entries_few sq es)
  where
    at : (b : Bool) → length (entries_left sq es) ≤ length es → length (if b then e ∷ entries_left sq es else entries_left sq es) ≤ suc (length es)
    at true h = omega (arith, h)
    at false h = omega (arith, h)
