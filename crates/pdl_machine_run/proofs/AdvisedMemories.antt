-- Memories after the writes of advisory memories.
use Rattle.std.proofs.Common.{◌≡◌, refl, sym, ap, ◌∙◌, subst, ℕ, zero, suc, ◌+◌, ◌^◌, ◌<◌, ◌≤◌, Bool, true, false, if◌then◌else◌, ◌==◌, List, [], ◌∷◌, map, length, slice_index, slice_set, ◌⊎◌, inl, inr}
use mathlib.Core.Path.{fun_ext}
use Rattle.std.proofs.lemmas.Bool.{eqb-true, eqb-false, cases_eq}
use Rattle.std.proofs.lemmas.List.{length-set, get_or-set_same, get_or-set_other}
use Rattle.pdl_semantics.specs.Flat.{Pipe, with_value, with_word}
use Rattle.pdl_semantics.specs.Stages.{mem_at}
use Rattle.pdl_semantics.specs.Machine.{Advised, Pending}
use Rattle.pdl_semantics.specs.Moves.{Act}
use Rattle.pdl_semantics.specs.Cycle.{with_advised, with_all_advised}
use Rattle.pdl_lockapi.specs.Sizes.{size_of}
use Rattle.pdl_machine_pending.specs.Memory.{Memory}
use Rattle.pdl_machine_pending.specs.KeptWords.{IsKept}
use Rattle.pdl_machine_run.specs.StageDeeds.{no_memory, memory_at}
use Rattle.pdl_machine_run.specs.Outside.{arrays_in}
use Rattle.pdl_machine_run.specs.Typed.{AreAdvised}
use Rattle.pdl_machine_run.specs.Running.{AreRoomy}
use Rattle.pdl_machine_run.specs.Advice.{with_word_at, after_write, after_writes, after_all_writes}
use Rattle.pdl_machine_run.proofs.CarriedDeeds.{word_listed}
use Rattle.pdl_machine_run.proofs.Memories.{set_here}
use Rattle.pdl_machine_run.proofs.ActedThreads.{AllSized, set_below}

-- PENDING WRITES

pending_set : (xs : List Memory) (m : ℕ) (y : Memory) → y.pending ≡ (memory_at xs m).pending
    → map (λ (x : Memory). x.pending) (slice_set xs m y) ≡ map (λ (x : Memory). x.pending) xs
pending_set [] m y e = refl
pending_set (x ∷ xs) zero y e = ap (λ (es : List Pending). es ∷ map (λ (z : Memory). z.pending) xs) e
pending_set (x ∷ xs) (suc m) y e = ap (λ (ls : List (List Pending)). x.pending ∷ ls) (pending_set xs m y e)

pending_writes : (ws : List Advised) (xs : List Memory) → map (λ (x : Memory). x.pending) (after_writes ws xs) ≡ map (λ (x : Memory). x.pending) xs
pending_writes [] xs = refl
pending_writes (w ∷ ws) xs = pending_writes ws (after_write w xs) ∙ pending_set xs w.mem (with_word_at w.address w.value (memory_at xs w.mem)) refl

-- writes of advisory memories leave the pending writes of all memories as they were
pub pending_kept : (ms : List Act) (xs : List Memory) → map (λ (x : Memory). x.pending) (after_all_writes ms xs) ≡ map (λ (x : Memory). x.pending) xs
pending_kept [] xs = refl
pending_kept (a ∷ ms) xs = pending_writes a.does.advises (after_all_writes ms xs) ∙ pending_kept ms xs

-- ROOM

written_at : (xs : List Memory) (k i : ℕ) (y : Memory) (P : Memory → Type 0)
    → k < length xs → (i ≡ k → P y) → P (memory_at xs i) → P (memory_at (slice_set xs k y) i)
written_at xs k i y P there here other = at (cases_eq i k)
  where
    at : (i ≡ k) ⊎ (i ≡ k → ⊥) → P (memory_at (slice_set xs k y) i)
    at (inl e) = subst P (sym (ap (memory_at (slice_set xs k y)) e ∙ get_or-set_same xs k y no_memory there)) (here e)
    at (inr n) = subst P (sym (get_or-set_other xs k i y no_memory n)) other

module _ (p : Pipe) where
  one_roomy : (w : Advised) (xs : List Memory) → w.mem < length p.mems → w.value < 2 ^ (mem_at p w.mem).width → AreRoomy p xs → AreRoomy p (after_write w xs)
  one_roomy w xs there fits r =
      record {
        memories = record {
          count = length-set xs w.mem new ∙ r.memories.count;
          kept = λ m less.
              written_at xs w.mem m new (λ (x : Memory). IsKept (2 ^ (mem_at p m).width) (mem_at p m).depth x) inside
              (λ e. subst (λ i. IsKept (2 ^ (mem_at p i).width) (mem_at p i).depth new) (sym e) (word_kept (r.memories.kept w.mem there)))
              (r.memories.kept m less);
          kinds = λ m. written_at xs w.mem m new (λ (x : Memory). (mem_at p m).lock ≡ x.lock) inside
              (λ e. ap (λ i. (mem_at p i).lock) e ∙ r.memories.kinds w.mem) (r.memories.kinds m);
        };
        room = λ m less.
            written_at xs w.mem m new (λ (x : Memory). size_of x.lock + 2 ≤ x.capacity) inside (λ e. r.room w.mem there) (r.room m less);
        few = λ m less.
            written_at xs w.mem m new (λ (x : Memory). length x.pending ≤ size_of x.lock) inside (λ e. r.few w.mem there) (r.few m less);
      }
    where
      old : Memory
      old = memory_at xs w.mem

      new : Memory
      new = with_word_at w.address w.value old

      inside : w.mem < length xs
      inside = subst (λ n. w.mem < n) (sym r.memories.count) there

      word_kept : IsKept (2 ^ (mem_at p w.mem).width) (mem_at p w.mem).depth old → IsKept (2 ^ (mem_at p w.mem).width) (mem_at p w.mem).depth new
      word_kept k =
          record {
            count = length-set old.words w.address w.value ∙ k.count;
            words = set_below p w.mem old.words w.address w.value _ k.words fits;
            pending = k.pending;
          }

  writes_roomy : (ws : List Advised) (xs : List Memory) → AreAdvised p ws → AreRoomy p xs → AreRoomy p (after_writes ws xs)
  writes_roomy [] xs h r = r
  writes_roomy (w ∷ ws) xs h r = writes_roomy ws (after_write w xs) h.3 (one_roomy w xs h.0 h.2 r)

  -- memories have room for what may be pending, and their words fit, after writes of advisory memories that fit
  pub all_roomy : (ms : List Act) (xs : List Memory) → AllSized p ms → AreRoomy p xs → AreRoomy p (after_all_writes ms xs)
  all_roomy [] xs h r = r
  all_roomy (a ∷ ms) xs h r = writes_roomy a.does.advises (after_all_writes ms xs) h.2 (all_roomy ms xs h.3 r)

  -- ARRAYS

  one_array : (w : Advised) (xs : List Memory) → w.mem < length xs → w.address < length (memory_at xs w.mem).words
      → arrays_in (after_write w xs) ≡ with_word (arrays_in xs) w.mem w.address w.value
  one_array w xs there within = fun_ext (λ n. fun_ext (λ b. sym (at n b (n == w.mem) refl)))
    where
      new : Memory
      new = with_word_at w.address w.value (memory_at xs w.mem)

      seen : (n b : ℕ) (y : Memory) → memory_at (after_write w xs) n ≡ y → slice_index y.words b ≡ arrays_in (after_write w xs) n b
      seen n b y e = sym (word_listed (after_write w xs) n b ∙ ap (λ (x : Memory). slice_index x.words b) e)

      at : (n b : ℕ) (t : Bool) → (n == w.mem) ≡ t
          → (if t then with_value (arrays_in xs w.mem) w.address w.value else arrays_in xs n) b ≡ arrays_in (after_write w xs) n b
      at n b true e =
          ap (λ u. if b == w.address then w.value else u) (word_listed xs w.mem b)
          ∙ set_here (memory_at xs w.mem).words w.address w.value b within
          ∙ seen n b new (ap (memory_at (after_write w xs)) (eqb-true n w.mem e) ∙ get_or-set_same xs w.mem new no_memory there)
      at n b false e = word_listed xs n b ∙ seen n b (memory_at xs n) (get_or-set_other xs w.mem n new no_memory (eqb-false n w.mem e))

  writes_arrays : (ws : List Advised) (xs : List Memory) → AreAdvised p ws → AreRoomy p xs → arrays_in (after_writes ws xs) ≡ with_advised ws (arrays_in xs)
  writes_arrays [] xs h r = refl
  writes_arrays (w ∷ ws) xs h r =
      writes_arrays ws (after_write w xs) h.3 (one_roomy w xs h.0 h.2 r)
      ∙ ap (with_advised ws)
      (one_array w xs (subst (λ n. w.mem < n) (sym r.memories.count) h.0) (subst (λ n. w.address < n) (sym (r.memories.kept w.mem h.0).count) h.1))

  -- the arrays of memories after writes of advisory memories are the stated ones
  pub all_arrays : (ms : List Act) (xs : List Memory) → AllSized p ms → AreRoomy p xs
      → arrays_in (after_all_writes ms xs) ≡ with_all_advised ms (arrays_in xs)
  all_arrays [] xs h r = refl
  all_arrays (a ∷ ms) xs h r =
      writes_arrays a.does.advises (after_all_writes ms xs) h.2 (all_roomy ms xs h.3 r) ∙ ap (with_advised a.does.advises) (all_arrays ms xs h.3 r)
