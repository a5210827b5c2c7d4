-- An entry for each memory, and the arrays after the commits of all memories.
use Rattle.std.proofs.Common.{◌≡◌, refl, sym, ap, ap₂, ◌∙◌, ℕ, zero, suc, ◌+◌, ◌≤◌, ◌<◌, Bool, true, false, List, [], ◌∷◌, length, ◌==◌, cond, arith, slice_index_or, add-zero, add-suc, suc-add, eq-eqb, Option}
use Rattle.std.proofs.lemmas.Bool.{eqb-true, eqb-false, ne_eqb}
use Rattle.pdl_semantics.specs.Flat.{Arrays, Array, Pipe, Mem, with_value, with_word}
use Rattle.pdl_semantics.specs.Locks.{commit_value}
use Rattle.pdl_semantics.specs.Machine.{Ask, State, Pending, is_answered}
use Rattle.pdl_semantics.specs.Moves.{Act}
use Rattle.pdl_semantics.specs.Cycle.{for_mems, taken_out, with_commit, with_commits}
use Rattle.pdl_semantics.specs.Promises.{wrote}
use Rattle.pdl_theory_turns.specs.Derived.{next_ask, next_asks, find_ask}
use Rattle.pdl_theory_turns.proofs.EntryCommits.{released}

-- in a list with an entry for each memory the i-th one is that of the i-th memory
pub at_mem : {X : Type 0} → (f : ℕ → X) (k : ℕ) (xs : List Mem) (i : ℕ) (none : X)
    → i < length xs → slice_index_or (for_mems f k xs) i none ≡ f (k + i)
at_mem f k [] i none h = absurd (omega arith)
at_mem f k (x ∷ xs) zero none h = ap f (sym (add-zero k))
at_mem f k (x ∷ xs) (suc i) none h = at_mem f (suc k) xs i none (omega arith) ∙ ap f (suc-add k i ∙ sym (add-suc k i))

-- in a list with an entry for each memory there is none past the last one
pub past_mems : {X : Type 0} → (f : ℕ → X) (k : ℕ) (xs : List Mem) (i : ℕ) (none : X)
    → length xs ≤ i → slice_index_or (for_mems f k xs) i none ≡ none
past_mems f k [] i none h = refl
past_mems f k (x ∷ xs) zero none h = absurd (omega arith)
past_mems f k (x ∷ xs) (suc i) none h = past_mems f (suc k) xs i none (omega arith)

-- lists with an entry for each memory are equal where the entries are
pub mems_same : {X : Type 0} → (f g : ℕ → X) (k : ℕ) (xs : List Mem) → ((m : ℕ) → f m ≡ g m) → for_mems f k xs ≡ for_mems g k xs
mems_same f g k [] h = refl
mems_same f g k (x ∷ xs) h = ap₂ (λ a l. a ∷ l) (h k) (mems_same f g (suc k) xs h)

-- the arrays after the commits of all memories
wrote_shown : (words : Array) (m : ℕ) (es : List Pending) (arrays : Arrays)
    → words ≡ arrays m → with_commit arrays m es m ≡ wrote words (released m es)
wrote_shown words m [] arrays h = sym h
wrote_shown words m (e ∷ es) arrays h =
    wrote_shown (with_value words e.address (commit_value e.value)) m es (with_word arrays m e.address (commit_value e.value))
    (ap (λ w. with_value w e.address (commit_value e.value)) h ∙ sym (
    ap (λ b. cond b (with_value (arrays m) e.address (commit_value e.value)) (arrays m)) (eq-eqb m m refl)))

-- a commit to m leaves the words of other memories as they are
pub other_commit : (m n : ℕ) (es : List Pending) (arrays : Arrays) → (n == m) ≡ false → with_commit arrays m es n ≡ arrays n
other_commit m n [] arrays h = refl
other_commit m n (e ∷ es) arrays h =
    other_commit m n es (with_word arrays m e.address (commit_value e.value)) h
    ∙ ap (λ b. cond b (with_value (arrays m) e.address (commit_value e.value)) (arrays n)) h

-- commits to the memories from k on leave those before k as they are
pub before_commits : (st : State) (ms : List Act) (k n : ℕ) (xs : List Mem) (arrays : Arrays)
    → n < k → with_commits st ms k xs arrays n ≡ arrays n
before_commits st ms k n [] arrays h = refl
before_commits st ms k n (x ∷ xs) arrays h =
    before_commits st ms (suc k) n xs (with_commit arrays k (taken_out st ms k)) (omega arith)
    ∙ other_commit k n (taken_out st ms k) arrays (ne_eqb n k (λ e. absurd (omega arith)))

-- after the commits to the memories from k on each of these has what it releases in its words
pub row_commits : (st : State) (ms : List Act) (k n : ℕ) (xs : List Mem) (arrays : Arrays)
    → k ≤ n → n < k + length xs → with_commits st ms k xs arrays n ≡ wrote (arrays n) (released n (taken_out st ms n))
row_commits st ms k n [] arrays h i = absurd (omega arith)
row_commits st ms k n (x ∷ xs) arrays h i = at (n == k) refl (λ j. row_commits st ms (suc k) n xs (with_commit arrays k (taken_out st ms k)) j (omega arith))
  where
    at : (b : Bool) → (n == k) ≡ b
        → (k < n
        → with_commits st ms (suc k) xs (with_commit arrays k (taken_out st ms k)) n
        ≡ wrote (with_commit arrays k (taken_out st ms k) n) (released n (taken_out st ms n)))
        → with_commits st ms (suc k) xs (with_commit arrays k (taken_out st ms k)) n ≡ wrote (arrays n) (released n (taken_out st ms n))
    at true e f =
        let same : n ≡ k = eqb-true n k e in
        before_commits st ms (suc k) n xs (with_commit arrays k (taken_out st ms k)) (omega arith)
        ∙ ap (λ j. with_commit arrays j (taken_out st ms j) n) (sym same) ∙ wrote_shown (arrays n) n (taken_out st ms n) arrays refl
    at false e f =
        f (let j = eqb-false n k e in omega arith)
        ∙ ap (λ (w : Array). wrote w (released n (taken_out st ms n))) (other_commit k n (taken_out st ms k) arrays e)

-- commits to the memories from k on leave those past the last as they are
pub past_commits : (st : State) (ms : List Act) (k n : ℕ) (xs : List Mem) (arrays : Arrays)
    → k + length xs ≤ n → with_commits st ms k xs arrays n ≡ arrays n
past_commits st ms k n [] arrays h = refl
past_commits st ms k n (x ∷ xs) arrays h =
    past_commits st ms (suc k) n xs (with_commit arrays k (taken_out st ms k)) (omega arith)
    ∙ other_commit k n (taken_out st ms k) arrays (ne_eqb n k (λ e. absurd (omega arith)))

-- entries of memories are the same where they are at each memory
pub mems_range : {X : Type 0} → (f g : ℕ → X) (k : ℕ) (xs : List Mem)
    → ((m : ℕ) → k ≤ m → m < k + length xs → f m ≡ g m) → for_mems f k xs ≡ for_mems g k xs
mems_range f g k [] h = refl
mems_range f g k (x ∷ xs) h = ap₂ (λ a l. a ∷ l) (h k (omega arith) (omega arith)) (mems_range f g (suc k) xs (λ m i j. h m (omega arith) (omega arith)))

-- the next requests of the memories, where each has an entry, are the next request of each
pub asks_mems : (p : Pipe) (bits : List Bool) (qs : List Ask) (f : ℕ → Option ℕ) (k : ℕ) (xs : List Mem)
    → next_asks p bits qs k (for_mems f k xs) ≡ for_mems (λ m. next_ask (find_ask qs m) (is_answered p bits m) (f m)) k xs
asks_mems p bits qs f k [] = refl
asks_mems p bits qs f k (x ∷ xs) = ap (λ l. next_ask (find_ask qs k) (is_answered p bits k) (f k) ∷ l) (asks_mems p bits qs f (suc k) xs)
