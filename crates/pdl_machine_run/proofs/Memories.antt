-- The locks and the arrays after a cycle.
use Rattle.std.proofs.Common.{◌≡◌, refl, sym, ap, ap₂, ◌∙◌, subst, ℕ, zero, suc, ◌+◌, ◌<◌, Bool, true, false, if◌then◌else◌, ◌==◌, List, [], ◌∷◌, ◌++◌, Option, Some, map, length, slice_index, slice_index_or, slice_set, arith}
use mathlib.Core.Path.{fun_ext}
use Rattle.std.proofs.lemmas.Bool.{eqb-true, false_from_ne_true, both_ways}
use Rattle.std.specs.Prelude.{⊤}
use Rattle.std.proofs.lemmas.List.{length-set}
use Rattle.pdl_semantics.specs.Flat.{Mem, Lock, Array, Arrays, with_value, with_word}
use Rattle.pdl_semantics.specs.Locks.{commit_value}
use Rattle.pdl_semantics.specs.Machine.{Pending, State, lock_of}
use Rattle.pdl_semantics.specs.Moves.{Act}
use Rattle.pdl_semantics.specs.Cycle.{list_three, taken_out, port_writes, with_commit, with_commits, entries_left, for_mems}
use Rattle.pdl_machine_facts.specs.Ports.{commit_values, all_commit_values}
use Rattle.pdl_machine_pending.specs.Memory.{Memory, committed_to, all_committed_to, AreWithin}
use Rattle.pdl_machine_run.specs.StageDeeds.{memory_at}
use Rattle.pdl_machine_run.specs.Outside.{arrays_in}
use Rattle.pdl_machine_run.specs.Acts.{left_of, out_of, memories_after, commits_shown}
use Rattle.pdl_machine_run.proofs.CarriedDeeds.{word_listed}
use Rattle.pdl_word.proofs.Numbers.{eqb_self}

-- WORDS

-- a write to a word that is there
set_hit : (ws : List ℕ) (a v : ℕ) → a < length ws → v ≡ slice_index (slice_set ws a v) a
set_hit [] a v h = absurd (omega arith)
set_hit (w ∷ ws) zero v h = refl
set_hit (w ∷ ws) (suc a) v h = set_hit ws a v (omega arith)

set_miss : (ws : List ℕ) (a v b : ℕ) → (b ≡ a → ⊥) → slice_index ws b ≡ slice_index (slice_set ws a v) b
set_miss [] a v b h = refl
set_miss (w ∷ ws) zero v zero h = absurd (h refl)
set_miss (w ∷ ws) zero v (suc b) h = refl
set_miss (w ∷ ws) (suc a) v zero h = refl
set_miss (w ∷ ws) (suc a) v (suc b) h = set_miss ws a v b (λ e. h (ap suc e))

-- a word after a write of one that is there
pub set_here : (ws : List ℕ) (a v b : ℕ) → a < length ws → (if b == a then v else slice_index ws b) ≡ slice_index (slice_set ws a v) b
set_here ws a v b h = by_equal (b == a) refl
  where
    by_equal : (t : Bool) → (b == a) ≡ t → (if t then v else slice_index ws b) ≡ slice_index (slice_set ws a v) b
    by_equal true e = set_hit ws a v h ∙ ap (slice_index (slice_set ws a v)) (sym (eqb-true b a e))
    by_equal false e = set_miss ws a v b (λ same. both_ways (b == a) e (ap (λ i. i == a) same ∙ eqb_self a))

module _ (st : State) (ms : List Act) where
  -- ALL MEMORIES

  shift : (m i : ℕ) → suc m + i ≡ m + suc i
  shift m i = omega arith

  still : (m : ℕ) → m ≡ m + 0
  still m = omega arith

  abbrev Locked : ℕ → List Memory → Type 0
  Locked m xs = (i : ℕ) → lock_of st (m + i) ≡ (memory_at xs i).pending

  -- the lists of the locks after the cycle are the pending writes of the memories after it
  pub locks_after : (sq : Option ℕ) (m : ℕ) (ds : List Mem) (xs : List Memory) → length ds ≡ length xs → Locked m xs
      → for_mems (λ n. entries_left sq (list_three st ms n)) m ds ≡ map (λ (x : Memory). x.pending) (memories_after m ms sq xs)
  locks_after sq m [] [] n h = refl
  locks_after sq m [] (x ∷ xs) n h = absurd (omega arith)
  locks_after sq m (d ∷ ds) [] n h = absurd (omega arith)
  locks_after sq m (d ∷ ds) (x ∷ xs) n h =
      ap₂ (λ (es : List Pending) (ls : List (List Pending)). entries_left sq (left_of m ms es) ∷ ls) (ap (lock_of st) (still m) ∙ h 0)
      (locks_after sq (suc m) ds xs (omega arith) (λ i. ap (lock_of st) (shift m i) ∙ h (suc i)))

  out_at : (m : ℕ) (x : Memory) → lock_of st m ≡ x.pending → taken_out st ms m ≡ out_of m ms x.pending
  out_at m x h = ap (λ es. out_of m ms es) h

  -- the commits that the stated ports show are those that these memories show
  pub commits_after : (ts : List Bool) (m : ℕ) (ds : List Mem) (xs : List Memory) → length ds ≡ length xs → Locked m xs
      → ((i : ℕ) (d : Mem) → i < length ds → (slice_index_or ds i d).lock ≡ (memory_at xs i).lock)
      → all_commit_values ts ds (for_mems (λ n. port_writes (taken_out st ms n)) m ds) ≡ commits_shown ts m ms xs
  commits_after [] m ds xs n h k = refl
  commits_after (t ∷ ts) m [] [] n h k = refl
  commits_after (t ∷ ts) m [] (x ∷ xs) n h k = absurd (omega arith)
  commits_after (t ∷ ts) m (d ∷ ds) [] n h k = absurd (omega arith)
  commits_after (t ∷ ts) m (d ∷ ds) (x ∷ xs) n h k =
      ap₂ (λ (a b : List ℕ). a ++ b)
      (ap₂ (λ (l : Lock) (es : List Pending). commit_values l t (port_writes es)) (k 0 d (omega arith)) (out_at m x (ap (lock_of st) (still m) ∙ h 0)))
      (commits_after ts (suc m) ds xs (omega arith) (λ i. ap (lock_of st) (shift m i) ∙ h (suc i)) (λ i c less. k (suc i) c (omega arith)))

  -- THE ARRAYS

  other_array : (arrays : Arrays) (m n : ℕ) (es : List Pending) → (n == m) ≡ false → with_commit arrays m es n ≡ arrays n
  other_array arrays m n [] h = refl
  other_array arrays m n (e ∷ es) h =
      other_array (with_word arrays m e.address (commit_value e.value)) m n es h
      ∙ ap (λ (b : Bool). if b then with_value (arrays m) e.address (commit_value e.value) else arrays n) h

  differs : (n m : ℕ) → n < m → (n == m) ≡ false
  differs n m h = false_from_ne_true _ (λ t. let same = eqb-true n m t in absurd (omega arith))

  differs_up : (n m : ℕ) → m < n → (n == m) ≡ false
  differs_up n m h = false_from_ne_true _ (λ t. let same = eqb-true n m t in absurd (omega arith))

  before_all : (m n : ℕ) (ds : List Mem) (arrays : Arrays) → n < m → with_commits st ms m ds arrays n ≡ arrays n
  before_all m n [] arrays h = refl
  before_all m n (d ∷ ds) arrays h =
      before_all (suc m) n ds (with_commit arrays m (taken_out st ms m)) (omega arith) ∙ other_array arrays m n (taken_out st ms m) (differs n m h)

  one_array : (arrays : Arrays) (m : ℕ) (ws : List ℕ) (e : Pending) → ((a : ℕ) → arrays m a ≡ slice_index ws a)
      → e.address < length ws → (a : ℕ) → with_word arrays m e.address (commit_value e.value) m a ≡ slice_index (committed_to ws (Some e)) a
  one_array arrays m ws e h within a =
      ap (λ (b : Bool). (if b then with_value (arrays m) e.address (commit_value e.value) else arrays m) a) (eqb_self m)
      ∙ ap (λ w. if a == e.address then commit_value e.value else w) (h a)
      ∙ set_here ws e.address (commit_value e.value) a within

  this_array : (arrays : Arrays) (m : ℕ) (ws : List ℕ) (es : List Pending) → ((a : ℕ) → arrays m a ≡ slice_index ws a)
      → AreWithin (length ws) es → (a : ℕ) → with_commit arrays m es m a ≡ slice_index (all_committed_to ws es) a
  this_array arrays m ws [] h within a = h a
  this_array arrays m ws (e ∷ es) h within a =
      this_array (with_word arrays m e.address (commit_value e.value)) m (committed_to ws (Some e)) es (one_array arrays m ws e h within.0)
      (subst (λ n. AreWithin n es) (sym (length-set ws e.address (commit_value e.value))) within.1) a

  abbrev Worded : Arrays → ℕ → List Memory → Type 0
  Worded arrays m xs = (i a : ℕ) → arrays (m + i) a ≡ slice_index (memory_at xs i).words a

  -- what is released of each of these memories, of which the first is m, is of a word that is there
  abbrev pub Within : ℕ → List Memory → Type 0
  Within m [] = ⊤
  Within m (x ∷ xs) = AreWithin (length x.words) (out_of m ms x.pending) × Within (suc m) xs

  -- the arrays after the releases have the words of the memories after the cycle
  pub words_after : (sq : Option ℕ) (m : ℕ) (ds : List Mem) (xs : List Memory) (arrays : Arrays) → length ds ≡ length xs
      → Locked m xs → Worded arrays m xs → Within m xs
      → Worded (with_commits st ms m ds arrays) m (memories_after m ms sq xs)
  words_after sq m [] [] arrays n h w k i a = w i a
  words_after sq m [] (x ∷ xs) arrays n h w k i a = absurd (omega arith)
  words_after sq m (d ∷ ds) [] arrays n h w k i a = absurd (omega arith)
  words_after sq m (d ∷ ds) (x ∷ xs) arrays n h w k zero a =
      let out = out_at m x (ap (lock_of st) (still m) ∙ h 0) in
      ap (λ j. with_commits st ms (suc m) ds (with_commit arrays m (taken_out st ms m)) j a) (sym (still m))
      ∙ ap (λ (ws : Array). ws a) (before_all (suc m) m ds (with_commit arrays m (taken_out st ms m)) (omega arith))
      ∙ ap (λ (es : List Pending). with_commit arrays m es m a) out
      ∙ this_array arrays m x.words (out_of m ms x.pending) (λ b. ap (λ j. arrays j b) (still m) ∙ w 0 b) k.0 a
  words_after sq m (d ∷ ds) (x ∷ xs) arrays n h w k (suc i) a =
      ap (λ j. with_commits st ms (suc m) ds (with_commit arrays m (taken_out st ms m)) j a) (sym (shift m i))
      ∙ words_after sq (suc m) ds xs (with_commit arrays m (taken_out st ms m)) (omega arith) (λ j. ap (lock_of st) (shift m j) ∙ h (suc j))
      (λ j b.
      ap (λ (ws : Array). ws b) (other_array arrays m (suc m + j) (taken_out st ms m) (differs_up (suc m + j) m (omega arith)))
      ∙ ap (λ l. arrays l b) (shift m j)
      ∙ w (suc j) b)
      k.1 i a

-- arrays whose words are those of these memories are their arrays
pub arrays_listed : (arrays : Arrays) (xs : List Memory)
    → ((m a : ℕ) → arrays m a ≡ slice_index (memory_at xs m).words a) → arrays ≡ arrays_in xs
arrays_listed arrays xs h = fun_ext (λ m. fun_ext (λ a. h m a ∙ sym (word_listed xs m a)))
