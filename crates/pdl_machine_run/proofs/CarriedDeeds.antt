-- Threads with this cycle's answers, and what the statements of their stages do.
use Rattle.std.proofs.Common.{◌≡◌, refl, sym, ap, ap₂, ◌∙◌, subst, ℕ, zero, suc, ◌+◌, ◌^◌, ◌<◌, ◌≤◌, Bool, true, false, ◌&&◌, ◌==◌, if◌then◌else◌, List, [], ◌∷◌, ◌++◌, Option, Some, None, length, length-append, map, slice_index, slice_index_or, ◌⊎◌, inl, inr, arith, is_some}
use mathlib.Core.Path.{fun_ext}
use Rattle.std.proofs.lemmas.Nat.{pow_pos}
use Rattle.pdl_semantics.specs.Flat.{Pipe, word_at}
use Rattle.pdl_semantics.specs.Stages.{in_stage, mem_at}
use Rattle.pdl_semantics.specs.Locks.{Nothing, value_or}
use Rattle.pdl_semantics.specs.Machine.{Awaited, Kept, Thread, Request, NoRequest, Owned, Orphan, Pending, Deeds, youngest, answer_to, answer_for, kept_answer, unanswered_reads, answered_reads, with_answers, request_of, is_answered, word_for, deeds, deeds_after_all}
use Rattle.pdl_form.specs.Form.{Form}
use Rattle.pdl_machine_pending.specs.Memory.{Memory}
use Rattle.pdl_machine_facts.specs.Use.{before_stage}
use Rattle.pdl_machine_run.specs.declared.beside.Beside as r_beside
use Rattle.pdl_machine_run.specs.declared.deeds.Deeds as r_deeds
use Rattle.pdl_machine_run.specs.Outside.{outside, arrays_in}
use Rattle.pdl_machine_run.specs.StageDeeds.{memory_at, word_of}
use Rattle.pdl_machine_run.specs.Room.{HasRoomFor}
use Rattle.pdl_machine_run.specs.Typed.{IsReadInto, AreAwaited, AreWords, IsFine, AreFit, AreMemories}
use Rattle.pdl_machine_run.proofs.DeedWidths.{kept_fit}

-- WORDS

-- the pending writes that are listed for a memory are its own
pub lock_listed : (xs : List Memory) (m : ℕ) → slice_index_or (map (λ (x : Memory). x.pending) xs) m [] ≡ (memory_at xs m).pending
lock_listed [] m = refl
lock_listed (x ∷ xs) zero = refl
lock_listed (x ∷ xs) (suc m) = lock_listed xs m

-- the word of an address in the arrays is that of the memory
pub word_listed : (xs : List Memory) (m a : ℕ) → arrays_in xs m a ≡ slice_index (memory_at xs m).words a
word_listed [] m a = refl
word_listed (x ∷ xs) zero a = refl
word_listed (x ∷ xs) (suc m) a = word_listed xs m a

-- the words that a thread finds are those that it finds in the memories
pub words_are : (b : r_beside.Beside) (thread : ℕ) → word_for (outside b) thread ≡ word_of b.memories.items thread
words_are b thread =
    fun_ext
    (λ m. fun_ext
    (λ a. ap₂ (λ (es : List Pending) w. value_or (youngest es thread a Nothing) w) (lock_listed b.memories.items m) (word_listed b.memories.items m a)))

-- what the statements of a stage do
pub carried_deeds : (p : Pipe) (b : r_beside.Beside) (xs : List Memory) (thread k : ℕ) (t : Thread) (d : Deeds)
    → xs ≡ b.memories.items → t.number ≡ thread → d ≡ before_stage p k t
    → deeds_after_all (word_of xs thread) (in_stage k p.stmts) d ≡ deeds p (outside b) k t
carried_deeds p b xs thread k t d e n h =
    ap₂ (λ (read : ℕ → ℕ → ℕ) (o : Deeds). deeds_after_all read (in_stage k p.stmts) o)
    (ap (λ (ys : List Memory). word_of ys thread) e ∙ ap (word_of b.memories.items) (sym n) ∙ sym (words_are b t.number)) h

-- ROOM

-- room for the deeds of some statements is room for those of fewer
pub room_less : (n m : ℕ) (r : r_deeds.Deeds) → n ≤ m → HasRoomFor m r → HasRoomFor n r
room_less n m r less h =
    let advice = h.advice in
    let held = h.held in
    let blocks = h.blocks in
    let reserves = h.reserves in
    let writes = h.writes in
    let releases = h.releases in
    let asks = h.asks in
    let advises = h.advises in
    record {
      advice = omega arith;
      held = omega arith;
      blocks = omega arith;
      reserves = omega arith;
      writes = omega arith;
      releases = omega arith;
      asks = omega arith;
      advises = omega arith;
    }

-- ANSWERS

module _ (f : Form) where
  -- a thread that fits begins a stage with deeds that fit
  pub begun_fit : (k : ℕ) (t : Thread) → IsFine f k t → AreFit f (before_stage f.pipe k t)
  begun_fit k t h =
      record {
        env = kept_fit f t.kept t.env h.kept h.env;
        advice = h.advice;
        guess = h.guess;
        reserves = tt;
        writes = tt;
        asks = tt;
        advises = tt;
        child = tt;
      }

  answers_append : (ks js : List Kept) → AreWords f ks → AreWords f js → AreWords f (ks ++ js)
  answers_append [] js h g = g
  answers_append (k ∷ ks) js h g = (h.0, h.1, answers_append ks js h.2 g)

  module _ (b : r_beside.Beside) (bits : List Bool) (memories : AreMemories f.pipe b.memories.items) (thread : ℕ) where
    below_or : (m n : ℕ) → (m < n) ⊎ (n ≤ m)
    below_or m zero = inr (omega arith)
    below_or zero (suc n) = inl (omega arith)
    below_or (suc m) (suc n) = up (below_or m n)
      where
        up : (m < n) ⊎ (n ≤ m) → (suc m < suc n) ⊎ (suc n ≤ suc m)
        up (inl h) = inl (omega arith)
        up (inr h) = inr (omega arith)

    no_words : (xs : List Memory) (m a : ℕ) → length xs ≤ m → slice_index (memory_at xs m).words a ≡ 0
    no_words [] m a h = refl
    no_words (x ∷ xs) zero a h = absurd (omega arith)
    no_words (x ∷ xs) (suc m) a h = no_words xs m a (omega arith)

    word_below : (m a : ℕ) → arrays_in b.memories.items m a < 2 ^ (mem_at f.pipe m).width
    word_below m a = at (below_or m (length f.pipe.mems))
      where
        at : (m < length f.pipe.mems) ⊎ (length f.pipe.mems ≤ m) → arrays_in b.memories.items m a < 2 ^ (mem_at f.pipe m).width
        at (inl less) = subst (λ w. w < 2 ^ (mem_at f.pipe m).width) (sym (word_listed b.memories.items m a)) ((memories.kept m less).words a)
        at (inr past) =
            let count = memories.count in
            let none = no_words b.memories.items m a (omega (arith, count, past)) in
            subst (λ w. w < 2 ^ (mem_at f.pipe m).width) (sym (word_listed b.memories.items m a ∙ none)) (pow_pos (mem_at f.pipe m).width)

    answered_fit : (x m : ℕ) (q : Request) (bit : Bool) → IsReadInto f x m → AreWords f (kept_answer x (answer_to (outside b) thread m q bit))
    answered_fit x m NoRequest bit h = tt
    answered_fit x m (Orphan a) bit h = tt
    answered_fit x m (Owned owner a) bit h = at (bit && (owner == thread))
      where
        at : (c : Bool) → AreWords f (kept_answer x (if c then Some (word_at (arrays_in b.memories.items) m a) else None))
        at true = (h.there, subst (λ w. arrays_in b.memories.items m a < 2 ^ w) (sym h.width) (word_below m a), tt)
        at false = tt

    all_answered_fit : (rs : List Awaited) → AreAwaited f rs → AreWords f (answered_reads f.pipe (outside b) bits thread rs)
    all_answered_fit [] h = tt
    all_answered_fit (r ∷ rs) h =
        answers_append (kept_answer r.var (answer_for f.pipe (outside b) bits thread r.mem)) (answered_reads f.pipe (outside b) bits thread rs)
        (answered_fit r.var r.mem (request_of (outside b) r.mem) (is_answered f.pipe bits r.mem) h.0)
        (all_answered_fit rs h.1)

    unanswered_fit : (rs : List Awaited) → AreAwaited f rs → AreAwaited f (unanswered_reads f.pipe (outside b) bits thread rs)
    unanswered_fit [] h = tt
    unanswered_fit (r ∷ rs) h = at (answer_for f.pipe (outside b) bits thread r.mem) (unanswered_fit rs h.1)
      where
        at : (o : Option ℕ) → AreAwaited f (unanswered_reads f.pipe (outside b) bits thread rs)
            → AreAwaited f ((if is_some o then [] else r ∷ []) ++ unanswered_reads f.pipe (outside b) bits thread rs)
        at None g = (h.0, g)
        at (Some w) g = g

    reads_counted : (rs : List Awaited)
        → length (answered_reads f.pipe (outside b) bits thread rs) + length (unanswered_reads f.pipe (outside b) bits thread rs) ≡ length rs
    reads_counted [] = refl
    reads_counted (r ∷ rs) = at (answer_for f.pipe (outside b) bits thread r.mem) (reads_counted rs)
      where
        at : (o : Option ℕ)
            → length (answered_reads f.pipe (outside b) bits thread rs) + length (unanswered_reads f.pipe (outside b) bits thread rs) ≡ length rs
            → length (kept_answer r.var o ++ answered_reads f.pipe (outside b) bits thread rs) + length
            ((if is_some o then [] else r ∷ []) ++ unanswered_reads f.pipe (outside b) bits thread rs)
            ≡ suc (length rs)
        at None g = omega (arith, g)
        at (Some w) g = omega (arith, g)

  -- a thread with its answers fits
  pub answers_fine : (b : r_beside.Beside) (bits : List Bool) → AreMemories f.pipe b.memories.items → (k : ℕ) (t : Thread)
      → IsFine f k t → IsFine f k (with_answers f.pipe (outside b) bits t)
  answers_fine b bits memories k t h =
      let count = reads_counted b bits memories t.number t.awaits in
      let sum = length-append t.kept (answered_reads f.pipe (outside b) bits t.number t.awaits) in
      let few = h.few in
      record {
        env = h.env;
        advice = h.advice;
        advised = h.advised;
        guess = h.guess;
        awaits = unanswered_fit b bits memories t.number t.awaits h.awaits;
        kept = answers_append t.kept _ h.kept (all_answered_fit b bits memories t.number t.awaits h.awaits);
        few = omega (arith, count, sum, few);
      }
