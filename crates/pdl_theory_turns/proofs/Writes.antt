-- Facts on arrays and lists of writes.
use Rattle.std.proofs.Common.{◌≡◌, ◌≢◌, refl, sym, ap, ◌∙◌, ℕ, Bool, true, false, ◌&&◌, List, [], ◌∷◌, ◌++◌, ◌==◌, cond, eq-eqb}
use Rattle.std.proofs.lemmas.Bool.{eqb-true, eqb-false, ne_eqb}
use Rattle.pdl_semantics.specs.Flat.{Arrays, Array, with_value, Commit, of_mem, after_commits, with_word}
use Rattle.pdl_semantics.specs.Promises.{wrote, row}
pub use Rattle.pdl_semantics.proofs.Facts.{of_mem_append}

row_same : (arrays : Arrays) (m a v : ℕ) → row (with_word arrays m a v) m ≡ with_value (row arrays m) a v
row_same arrays m a v = ap (λ c. cond c (with_value (arrays m) a v) (arrays m)) (eq-eqb m m refl)

-- a word that is written to one memory leaves the words of another as they are
pub row_other : (arrays : Arrays) (m n a v : ℕ) → n ≢ m → row (with_word arrays m a v) n ≡ row arrays n
row_other arrays m n a v h = ap (λ c. cond c (with_value (arrays m) a v) (arrays n)) (ne_eqb n m h)

-- the words of m after some writes are its words with the writes to m
pub row_committed : (m : ℕ) (cs : List Commit) (arrays : Arrays) → row (after_commits arrays cs) m ≡ wrote (row arrays m) (of_mem m cs)
row_committed m [] arrays = refl
row_committed m (c ∷ cs) arrays = row_committed m cs (with_word arrays c.mem c.address c.value) ∙ at (c.mem == m) refl
  where
    at : (b : Bool) → (c.mem == m) ≡ b
        → wrote (row (with_word arrays c.mem c.address c.value) m) (of_mem m cs) ≡ wrote (row arrays m) (cond b (c ∷ of_mem m cs) (of_mem m cs))
    at true e = ap (λ w. wrote w (of_mem m cs)) (here (eqb-true c.mem m e))
      where
        here : c.mem ≡ m → row (with_word arrays c.mem c.address c.value) m ≡ with_value (row arrays m) c.address c.value
        here h = ap (λ n. row (with_word arrays n c.address c.value) m) h ∙ row_same arrays m c.address c.value
    at false e = ap (λ w. wrote w (of_mem m cs)) (row_other arrays c.mem m c.address c.value (λ h. eqb-false c.mem m e (sym h)))

-- the words after two lists of writes are those after the one and then the other
pub wrote_append : (xs ys : List Commit) (words : Array) → wrote words (xs ++ ys) ≡ wrote (wrote words xs) ys
wrote_append [] ys words = refl
wrote_append (x ∷ xs) ys words = wrote_append xs ys (with_value words x.address x.value)

-- where two things hold, the first holds
pub and_left : (b c : Bool) → (b && c) ≡ true → b ≡ true
and_left true c e = refl
and_left false c e = e

-- where two things hold, the second holds
pub and_right : (b c : Bool) → (b && c) ≡ true → c ≡ true
and_right true c e = e
and_right false c e = cc

-- the arrays after two lists of writes are those after the one and then the other
pub committed_append : (xs ys : List Commit) (arrays : Arrays)
    → after_commits arrays (xs ++ ys) ≡ after_commits (after_commits arrays xs) ys
committed_append [] ys arrays = refl
committed_append (x ∷ xs) ys arrays = committed_append xs ys (with_word arrays x.mem x.address x.value)
