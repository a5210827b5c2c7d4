-- What advisory memories hold changes no write.
use Rattle.std.proofs.Common.{◌≡◌, refl, sym, ap, ap₂, ◌∙◌, subst, ℕ, zero, suc, ◌+◌, ◌⊎◌, inl, inr, Bool, true, false, not, List, [], ◌∷◌, ◌++◌, ◌==◌, cond, if◌then◌else◌, arith, slice_index, slice_set, append_assoc, length}
use Rattle.std.proofs.lemmas.Bool.{eqb-true, not-true, and_parts}
use Rattle.pdl_semantics.specs.Flat.{Arrays, Array, with_value, word_at, is_advisory, list_all, Op, Bind, CombRead, DelayedRead, Write, Call, Verify, Stmt, Pipe, Commit, of_mem, all_hold, value_of, values_of}
use Rattle.pdl_semantics.specs.Stages.{mem_at}
use Rattle.pdl_semantics.specs.Sequential.{Run, run_after, run_all, thread, writes_from, seqwrites}
use Rattle.pdl_semantics.specs.Cycle.{turns, commits, ended_in}
use Rattle.pdl_semantics.specs.Promises.{IsPrefix, Refines, DifferInAdvice, AdviceIsIdle, fits_kind, KeepsAdvice}
use Rattle.pdl_semantics.proofs.Facts.{of_mem_append}

-- two runs with the same values, writes and successor, whose arrays differ in advisory memories alone
record Alike (p : Pipe) (r s : Run) : Type 0 where
  arrays : DifferInAdvice p r.arrays s.arrays
  env : r.env ≡ s.env
  writes : r.writes ≡ s.writes
  next : r.next ≡ s.next

alike_read : (p : Pipe) (x m a : ℕ) (r s : Run) → not (is_advisory (mem_at p m).kind) ≡ true → Alike p r s
    → Alike p (record r { env = slice_set r.env x (word_at r.arrays m (slice_index r.env a)) }) (record s { env = slice_set s.env x (word_at s.arrays m (slice_index s.env a)) })
alike_read p x m a r s h f = record {
  arrays = f.arrays;
  env = ap₂ (λ (w : Array) e. slice_set e x (w (slice_index e a))) (f.arrays m (not-true _ h)) f.env;
  writes = f.writes;
  next = f.next;
}

alike_op : (p : Pipe) (op : Op) (r s : Run) → fits_kind p op ≡ true → Alike p r s → Alike p (run_after op r) (run_after op s)
alike_op p (Bind x e) r s h f = record { arrays = f.arrays; env = ap (λ v. slice_set v x (value_of e v)) f.env; writes = f.writes; next = f.next }
alike_op p (CombRead x m a) r s h f = alike_read p x m a r s h f
alike_op p (DelayedRead x m a) r s h f = alike_read p x m a r s h f
alike_op p (Write m a e) r s h f = record {
  arrays = λ n k. at n (n == m) refl (f.arrays n k) k;
  env = f.env;
  writes = ap₂ (λ ws v. ws ++ record { mem = m; address = slice_index v a; value = value_of e v } ∷ []) f.writes f.env;
  next = f.next;
}
  where
    at : (n : ℕ) (b : Bool) → (n == m) ≡ b → r.arrays n ≡ s.arrays n → is_advisory (mem_at p n).kind ≡ false
        → cond b (with_value (r.arrays m) (slice_index r.env a) (value_of e r.env)) (r.arrays n) ≡ cond b (with_value (s.arrays m) (slice_index s.env a) (value_of e s.env)) (s.arrays n)
    at n true i g k =
        ap₂ (λ (w : Array) v. with_value w (slice_index v a) (value_of e v))
        (f.arrays m (subst (λ l. is_advisory (mem_at p l).kind ≡ false) (eqb-true n m i) k)) f.env
    at n false i g k = g
alike_op p (Call args) r s h f = record { arrays = f.arrays; env = f.env; writes = f.writes; next = ap (values_of args) f.env }
alike_op p (Verify true args) r s h f = record { arrays = f.arrays; env = f.env; writes = f.writes; next = ap (values_of args) f.env }
alike_op p _ r s h f = f

alike_all : (p : Pipe) (xs : List Stmt) (r s : Run) → list_all (λ x. fits_kind p x.op) xs ≡ true → Alike p r s → Alike p (run_all xs r) (run_all xs s)
alike_all p [] r s h f = f
alike_all p (x ∷ xs) r s h f =
    let k = and_parts (fits_kind p x.op) _ h in
    alike_all p xs (if all_hold x.guards r.env then run_after x.op r else r) (if all_hold x.guards s.env then run_after x.op s else s) k.1
    (at (all_hold x.guards r.env) (all_hold x.guards s.env) (ap (all_hold x.guards) f.env) k.0)
  where
    at : (b c : Bool) → b ≡ c → fits_kind p x.op ≡ true → Alike p (cond b (run_after x.op r) r) (cond c (run_after x.op s) s)
    at true true e k = alike_op p x.op r s k f
    at true false e k = absurd (cc e)
    at false true e k = absurd (cc e)
    at false false e k = f

-- a thread, and k threads
alike_thread : (p : Pipe) (image other : Arrays) (args : List ℕ)
    → KeepsAdvice p → DifferInAdvice p image other → Alike p (thread p image args) (thread p other args)
alike_thread p image other args h f = alike_all p p.stmts _ _ h (record { arrays = f; env = refl; writes = refl; next = refl })

same_writes : (p : Pipe) (k : ℕ) (image other : Arrays) (args : List ℕ)
    → KeepsAdvice p → DifferInAdvice p image other → writes_from p k image args ≡ writes_from p k other args
same_writes p zero image other args h f = refl
same_writes p (suc k) image other args h f =
    let t = alike_thread p image other args h f in
    ap₂ (λ a b. a ++ b) t.writes
    (ap (writes_from p k (thread p image args).arrays) t.next
    ∙ same_writes p k (thread p image args).arrays (thread p other args).arrays (thread p other args).next h t.arrays)

-- threads write the same from images that differ in advisory memories alone
pub same_seq : (p : Pipe) (image other : Arrays) → KeepsAdvice p → DifferInAdvice p image other → (m k : ℕ) → seqwrites p image m k ≡ seqwrites p other m k
same_seq p image other h f m k = ap (of_mem m) (same_writes p k image other p.start h f)

-- PREFIXES

more_writes : (p : Pipe) (k j : ℕ) (arrays : Arrays) (args : List ℕ)
    → (rest : List Commit) × (writes_from p k arrays args ++ rest ≡ writes_from p (k + j) arrays args)
more_writes p zero j arrays args = (writes_from p j arrays args, ap (λ n. writes_from p n arrays args) (let e : j ≡ 0 + j = omega arith in e))
more_writes p (suc k) j arrays args =
    let t = thread p arrays args in
    let r = more_writes p k j t.arrays t.next in (
      r.0,
      append_assoc t.writes (writes_from p k t.arrays t.next) r.0 ∙ ap (λ l. t.writes ++ l) r.1
          ∙ ap (λ n. writes_from p n arrays args) (let e : suc (k + j) ≡ suc k + j = omega arith in e),
    )

-- more threads write more
more_seq : (p : Pipe) (image : Arrays) (m k j : ℕ) → IsPrefix (seqwrites p image m k) (seqwrites p image m (k + j))
more_seq p image m k j =
    let r = more_writes p k j image p.start in
    (of_mem m r.0, sym (of_mem_append m (writes_from p k image p.start) r.0) ∙ ap (of_mem m) r.1)

then_prefix : (xs ys zs : List Commit) → IsPrefix xs ys → IsPrefix ys zs → IsPrefix xs zs
then_prefix xs ys zs a b = (a.0 ++ b.0, sym (append_assoc xs a.0 b.0) ∙ ap (λ l. l ++ b.0) a.1 ∙ b.1)

-- of two beginnings of one list one begins with the other
first_of : {x y : Commit} {xs ys : List Commit} → x ∷ xs ≡ y ∷ ys → x ≡ y
first_of h = cc

rest_of : {x y : Commit} {xs ys : List Commit} → x ∷ xs ≡ y ∷ ys → xs ≡ ys
rest_of h = cc

either_first : (xs ys zs : List Commit) → IsPrefix xs zs → IsPrefix ys zs → IsPrefix xs ys ⊎ IsPrefix ys xs
either_first [] ys zs a b = inl (ys, refl)
either_first (x ∷ xs) [] zs a b = inr (x ∷ xs, refl)
either_first (x ∷ xs) (y ∷ ys) [] a b = absurd (cc a.1)
either_first (x ∷ xs) (y ∷ ys) (z ∷ zs) a b = at (either_first xs ys zs (a.0, rest_of a.1) (b.0, rest_of b.1))
  where
    same : x ≡ y
    same = first_of a.1 ∙ sym (first_of b.1)

    at : IsPrefix xs ys ⊎ IsPrefix ys xs → IsPrefix (x ∷ xs) (y ∷ ys) ⊎ IsPrefix (y ∷ ys) (x ∷ xs)
    at (inl p) = inl (p.0, ap₂ (λ c l. c ∷ l) same p.1)
    at (inr p) = inr (p.0, ap₂ (λ c l. c ∷ l) (sym same) p.1)

-- THE WHOLE, where both runs refine the sequential run
pub advice_is_idle : (p : Pipe) (image other : Arrays) (schedule replies : List (List Bool)) → KeepsAdvice p → DifferInAdvice p image other
    → Refines p image schedule → Refines p other replies → AdviceIsIdle p image other schedule replies
advice_is_idle p image other schedule replies h f r s =
    record {
      same = same_seq p image other h f;
      prefix = λ m. both m (ended_in (turns p image schedule) + length p.stages) (ended_in (turns p other replies) + length p.stages) (r.prefix m) (s.prefix m);
    }
  where
    both : (m k j : ℕ)
        → IsPrefix (commits m (turns p image schedule)) (seqwrites p image m k)
        → IsPrefix (commits m (turns p other replies)) (seqwrites p other m j)
        → IsPrefix (commits m (turns p image schedule)) (commits m (turns p other replies)) ⊎ IsPrefix (commits m (turns p other replies)) (commits m (turns p image schedule))
    both m k j a b =
        either_first _ _ (seqwrites p image m (k + j)) (then_prefix _ _ _ a (more_seq p image m k j))
        (subst (λ n. IsPrefix (commits m (turns p other replies)) (seqwrites p image m n)) (swap k j)
        (subst (λ l. IsPrefix (commits m (turns p other replies)) l) (sym (same_seq p image other h f m (j + k)))
        (then_prefix _ _ _ b (more_seq p other m j k))))
      where
        swap : (a b : ℕ) → b + a ≡ a + b
        swap a b = omega arith
