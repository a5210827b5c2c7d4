-- The writes of the sequential run, turn by turn.
use Rattle.std.proofs.Common.{◌≡◌, sym, ap, ap₂, ◌∙◌, ℕ, zero, suc, ◌+◌, ◌≤◌, List, ◌++◌, arith, append-nil, append_assoc, add-zero, add-suc, suc-add, ◌-◌}
use Rattle.pdl_semantics.specs.Flat.{Arrays, Pipe, Commit, of_mem}
use Rattle.pdl_semantics.specs.Sequential.{thread, writes_from, turn_at}
use Rattle.pdl_theory_turns.proofs.Writes.{of_mem_append}
use Rattle.pdl_semantics.proofs.Facts.{turn_front}

-- the writes of one turn more are those of the turns before it and then its own
pub writes_more : (p : Pipe) (k : ℕ) (arrays : Arrays) (args : List ℕ)
    → writes_from p (suc k) arrays args ≡ writes_from p k arrays args
    ++ (thread p (turn_at p arrays args k).arrays (turn_at p arrays args k).next).writes
writes_more p zero arrays args = append-nil (thread p arrays args).writes
writes_more p (suc k) arrays args =
    let h = turn_front p k arrays args in
    ap (λ l. (thread p arrays args).writes ++ l) (writes_more p k (thread p arrays args).arrays (thread p arrays args).next)
    ∙ sym (append_assoc (thread p arrays args).writes (writes_from p k (thread p arrays args).arrays (thread p arrays args).next) _)
    ∙ ap₂ (λ a g. ((thread p arrays args).writes ++ writes_from p k (thread p arrays args).arrays (thread p arrays args).next) ++ (thread p a g).writes)
    (sym h.0) (sym h.1)

-- the writes of k + j turns are those of k turns and then those of the j turns after them
pub writes_add : (p : Pipe) (k j : ℕ) (arrays : Arrays) (args : List ℕ)
    → writes_from p (k + j) arrays args ≡ writes_from p k arrays args
    ++ writes_from p j (turn_at p arrays args k).arrays (turn_at p arrays args k).next
writes_add p k zero arrays args = ap (λ n. writes_from p n arrays args) (add-zero k) ∙ sym (append-nil (writes_from p k arrays args))
writes_add p k (suc j) arrays args =
    ap (λ n. writes_from p n arrays args) (add-suc k j ∙ sym (suc-add k j))
    ∙ writes_add p (suc k) j arrays args
    ∙ ap (λ l. l ++ writes_from p j (turn_at p arrays args (suc k)).arrays (turn_at p arrays args (suc k)).next) (writes_more p k arrays args)
    ∙ append_assoc (writes_from p k arrays args) _ _

-- the writes to m of fewer turns are a prefix of those of more
pub longer : (p : Pipe) (m n j k : ℕ) (image : Arrays) (args : List ℕ)
    → j ≤ k
    → (rest : List Commit) × (of_mem m (writes_from p (n + j) image args) ++ rest ≡ of_mem m (writes_from p (n + k) image args))
longer p m n j k image args h = (
  of_mem m (writes_from p (k - j) (turn_at p image args (n + j)).arrays (turn_at p image args (n + j)).next),
  sym (of_mem_append m (writes_from p (n + j) image args) _)
      ∙ ap (of_mem m) (sym (writes_add p (n + j) (k - j) image args))
      ∙ ap (λ i. of_mem m (writes_from p i image args)) same,
)
  where
    same : (n + j) + (k - j) ≡ n + k
    same = omega arith
