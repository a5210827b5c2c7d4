-- One thread more.
use Rattle.std.proofs.Common.{◌≡◌, refl, sym, ap, ap₂, ◌∙◌, ℕ, zero, suc, ◌+◌, ◌-◌, Bool, true, false, if◌then◌else◌, List, [], ◌∷◌, ◌++◌, drop, map, append-nil, append_assoc, arith}
use Rattle.pdl_semantics.specs.Flat.{Arrays, Pipe}
use Rattle.pdl_semantics.specs.Sequential.{Run, thread, threads_from, threads, turn_at, after_turns}
use Rattle.pdl_seq.specs.declared.commit.Write as r_write
use Rattle.pdl_seq.specs.Runs.{numbered_write, numbered_writes, told_writes}
use Rattle.pdl_semantics.proofs.Facts.{turn_front}

-- the writes of one thread more
more_from : (p : Pipe) (n k : ℕ) (arrays : Arrays) (args : List ℕ)
    → numbered_writes n (threads_from p (suc k) arrays args) ≡ numbered_writes n (threads_from p k arrays args)
    ++ map (numbered_write (n + k)) (thread p (turn_at p arrays args k).arrays (turn_at p arrays args k).next).writes
more_from p n zero arrays args =
    let same : n ≡ n + 0 = omega arith in
    append-nil _ ∙ ap (λ i. map (numbered_write i) (thread p arrays args).writes) same
more_from p n (suc k) arrays args =
    let h = turn_front p k arrays args in
    let same : suc n + k ≡ n + suc k = omega arith in
    let r = thread p arrays args in
    let next : ℕ → List r_write.Write =
    λ (i : ℕ). map (numbered_write i) (thread p (turn_at p r.arrays r.next k).arrays (turn_at p r.arrays r.next k).next).writes in
    ap (λ l. map (numbered_write n) r.writes ++ l)
    (more_from p (suc n) k r.arrays r.next ∙ ap (λ i. numbered_writes (suc n) (threads_from p k r.arrays r.next) ++ next i) same)
    ∙ sym (append_assoc (map (numbered_write n) r.writes) (numbered_writes (suc n) (threads_from p k r.arrays r.next)) (next (n + suc k)))
    ∙ ap₂
    (λ a g. (map (numbered_write n) r.writes ++ numbered_writes (suc n) (threads_from p k r.arrays r.next))
    ++ map (numbered_write (n + suc k)) (thread p a g).writes)
    (sym h.0) (sym h.1)

-- the numbered writes of one thread more are those before, and that thread's with its number
pub one_more : (p : Pipe) (image : Arrays) (k : ℕ)
    → numbered_writes 1 (threads p image (suc k)) ≡ numbered_writes 1 (threads p image k)
    ++ map (numbered_write (suc k)) (thread p (after_turns p image k).arrays (after_turns p image k).next).writes
one_more p image k =
    let same : 1 + k ≡ suc k = omega arith in
    more_from p 1 k image p.start
    ∙ ap
    (λ i. numbered_writes 1 (threads p image k)
    ++ map (numbered_write i) (thread p (after_turns p image k).arrays (after_turns p image k).next).writes) same

-- the last thread alone
last_from : (p : Pipe) (k : ℕ) (arrays : Arrays) (args : List ℕ)
    → drop k (threads_from p (suc k) arrays args) ≡ (thread p (turn_at p arrays args k).arrays (turn_at p arrays args k).next).writes ∷ []
last_from p zero arrays args = refl
last_from p (suc k) arrays args =
    let h = turn_front p k arrays args in
    let r = thread p arrays args in
    last_from p k r.arrays r.next ∙ ap₂ (λ a g. (thread p a g).writes ∷ []) (sym h.0) (sym h.1)

-- its writes
last_writes : (p : Pipe) (image : Arrays) (k : ℕ)
    → told_writes true p image (suc k)
    ≡ map (numbered_write (suc k)) (thread p (after_turns p image k).arrays (after_turns p image k).next).writes
last_writes p image k =
    let less : suc k - 1 ≡ k = omega arith in
    ap (λ i. numbered_writes (suc i) (drop i (threads p image (suc k)))) less
    ∙ ap (numbered_writes (suc k)) (last_from p k image p.start)
    ∙ append-nil _

-- the writes of one thread more are those before and the last thread's
pub last_after : (p : Pipe) (image : Arrays) (k : ℕ)
    → numbered_writes 1 (threads p image (suc k)) ≡ numbered_writes 1 (threads p image k) ++ told_writes true p image (suc k)
last_after p image k = one_more p image k ∙ ap (λ l. numbered_writes 1 (threads p image k) ++ l) (sym (last_writes p image k))

-- a run that has told k threads tells one more
module _ (p : Pipe) (image : Arrays) (k n : ℕ) (is_next : n ≡ suc k) (arrays : Arrays) (args : List ℕ) (r : Run)
    (at : arrays ≡ (after_turns p image k).arrays) (with : args ≡ (after_turns p image k).next)
    (ran : r ≡ thread p arrays args) where
  turned : r ≡ after_turns p image n
  turned = ran ∙ ap₂ (thread p) at with ∙ ap (after_turns p image) (sym is_next)

  -- the arrays that the thread leaves are those after n turns
  pub arrays_next : r.arrays ≡ (after_turns p image n).arrays
  arrays_next = ap (λ (t : Run). t.arrays) turned

  -- the arguments that the thread leaves are those after n turns
  pub args_next : r.next ≡ (after_turns p image n).next
  args_next = ap (λ (t : Run). t.next) turned

  -- the numbered writes so far, with those of the thread, are those of the first n threads
  pub writes_next : (ws more : List r_write.Write) → ws ≡ numbered_writes 1 (threads p image k)
      → more ≡ ws ++ map (numbered_write n) r.writes → more ≡ numbered_writes 1 (threads p image n)
  writes_next ws more told_so_far told_more =
      told_more
      ∙ ap₂ (λ (l : List r_write.Write) (t : Run). l ++ map (numbered_write n) t.writes) told_so_far (ran ∙ ap₂ (thread p) at with)
      ∙ ap
      (λ i. numbered_writes 1 (threads p image k)
      ++ map (numbered_write i) (thread p (after_turns p image k).arrays (after_turns p image k).next).writes) is_next
      ∙ sym (one_more p image k)
      ∙ ap (λ i. numbered_writes 1 (threads p image i)) (sym is_next)

  -- the told writes so far, with those of the thread, are those that are told after n threads, where the run may stream
  pub told_next : (streams : Bool) (ws more : List r_write.Write) → ws ≡ told_writes streams p image k
      → more ≡ (if streams then [] else ws) ++ map (numbered_write n) r.writes → more ≡ told_writes streams p image n
  told_next false ws more told_so_far told_more = writes_next ws more told_so_far told_more
  told_next true ws more told_so_far told_more =
      told_more
      ∙ ap (λ (t : Run). map (numbered_write n) t.writes) (ran ∙ ap₂ (thread p) at with)
      ∙ ap (λ i. map (numbered_write i) (thread p (after_turns p image k).arrays (after_turns p image k).next).writes) is_next
      ∙ sym (last_writes p image k)
      ∙ ap (told_writes true p image) (sym is_next)
