-- A pipe without its updates writes the same in sequence; so where both refine it, what both commit begins one list.
use Rattle.std.proofs.Common.{◌≡◌, refl, sym, ap, ◌∙◌, subst, ℕ, zero, suc, ◌+◌, Bool, true, false, List, [], ◌∷◌, ◌++◌, if◌then◌else◌, cond, length, append_assoc, arith}
use Rattle.pdl_semantics.specs.Flat.{Arrays, Op, Verify, Stmt, Pipe, Commit, all_hold, of_mem}
use Rattle.pdl_semantics.specs.Sequential.{Run, run_after, run_all, thread, writes_from, seqwrites}
use Rattle.pdl_semantics.specs.Cycle.{turns, ended_in}
use Rattle.pdl_semantics.specs.Promises.{IsPrefix, Refines}
use Rattle.pdl_semantics.specs.Updates.{is_update, without_updates, not_updated, WritesAlike, CommitsAlike}
use Rattle.pdl_semantics.proofs.Facts.{of_mem_append}

-- an update does nothing
update_idle : (op : Op) (r : Run) → is_update op ≡ true → run_after op r ≡ r
update_idle (Verify true args) r h = absurd (cc h)
update_idle (Verify false args) r h = refl
update_idle _ r h = absurd (cc h)

-- of two lists, one after the other, the updates are left out of each
pub both_left : (xs ys : List Stmt) → without_updates (xs ++ ys) ≡ without_updates xs ++ without_updates ys
both_left [] ys = refl
both_left (x ∷ xs) ys = at (is_update x.op) (both_left xs ys)
  where
    at : (u : Bool) → without_updates (xs ++ ys) ≡ without_updates xs ++ without_updates ys
        → (if u then without_updates (xs ++ ys) else x ∷ without_updates (xs ++ ys))
        ≡ (if u then without_updates xs else x ∷ without_updates xs) ++ without_updates ys
    at true e = e
    at false e = ap (λ zs. x ∷ zs) e

run_alike : (xs : List Stmt) (r : Run) → run_all (without_updates xs) r ≡ run_all xs r
run_alike [] r = refl
run_alike (x ∷ xs) r = at (is_update x.op) refl (run_alike xs r) (run_alike xs (if all_hold x.guards r.env then run_after x.op r else r))
  where
    idle : (b : Bool) → run_after x.op r ≡ r → (if b then run_after x.op r else r) ≡ r
    idle true e = e
    idle false e = refl

    at : (b : Bool) → is_update x.op ≡ b → run_all (without_updates xs) r ≡ run_all xs r
        → run_all (without_updates xs) (if all_hold x.guards r.env then run_after x.op r else r) ≡ run_all xs (if all_hold x.guards r.env then run_after x.op r else r)
        → run_all (cond b (without_updates xs) (x ∷ without_updates xs)) r ≡ run_all xs (if all_hold x.guards r.env then run_after x.op r else r)
    at true e h k = h ∙ ap (run_all xs) (sym (idle (all_hold x.guards r.env) (update_idle x.op r e)))
    at false e h k = k

thread_alike : (p : Pipe) (arrays : Arrays) (args : List ℕ) → thread (not_updated p) arrays args ≡ thread p arrays args
thread_alike p arrays args = run_alike p.stmts _

writes_alike : (p : Pipe) (k : ℕ) (arrays : Arrays) (args : List ℕ) → writes_from (not_updated p) k arrays args ≡ writes_from p k arrays args
writes_alike p zero arrays args = refl
writes_alike p (suc k) arrays args =
    ap (λ (r : Run). r.writes ++ writes_from (not_updated p) k r.arrays r.next) (thread_alike p arrays args)
    ∙ ap (λ l. (thread p arrays args).writes ++ l) (writes_alike p k (thread p arrays args).arrays (thread p arrays args).next)

-- in sequence a pipe without its updates writes the same
pub seq_alike : (p : Pipe) (image : Arrays) → WritesAlike p image
seq_alike p image m k = ap (of_mem m) (writes_alike p k image p.start)

more_from : (p : Pipe) (m a b : ℕ) (arrays : Arrays) (args : List ℕ)
    → IsPrefix (of_mem m (writes_from p a arrays args)) (of_mem m (writes_from p (a + b) arrays args))
more_from p m zero b arrays args =
    subst (λ n. IsPrefix [] (of_mem m (writes_from p n arrays args))) (let e : b ≡ 0 + b = omega arith in e) (of_mem m (writes_from p b arrays args), refl)
more_from p m (suc a) b arrays args =
    let r = thread p arrays args in
    let k = more_from p m a b r.arrays r.next in
    subst (λ n. IsPrefix (of_mem m (writes_from p (suc a) arrays args)) (of_mem m (writes_from p n arrays args)))
    (let e : suc (a + b) ≡ suc a + b = omega arith in e) (
      k.0,
      ap (λ l. l ++ k.0) (of_mem_append m r.writes (writes_from p a r.arrays r.next)) ∙ append_assoc (of_mem m r.writes) _ k.0 ∙ ap (λ l. of_mem m r.writes ++ l) k.1
          ∙ sym (of_mem_append m r.writes (writes_from p (a + b) r.arrays r.next)),
    )

prefix_on : (xs ys zs : List Commit) → IsPrefix xs ys → IsPrefix ys zs → IsPrefix xs zs
prefix_on xs ys zs h k = (h.0 ++ k.0, sym (append_assoc xs h.0 k.0) ∙ ap (λ l. l ++ k.0) h.1 ∙ k.1)

-- where both machines refine the sequential runs, what both commit to a memory begins one list
pub commits_alike : (p : Pipe) (image : Arrays) (schedule schedule' : List (List Bool))
    → Refines p image schedule → Refines (not_updated p) image schedule' → CommitsAlike p image schedule schedule'
commits_alike p image schedule schedule' h k m =
    let a = ended_in (turns p image schedule) + length p.stages in
    let b = ended_in (turns (not_updated p) image schedule') + length p.stages in (
      seqwrites p image m (a + b),
      prefix_on _ _ _ (h.prefix m) (more_from p m a b image p.start),
      prefix_on _ _ _ (k.prefix m)
          (subst (λ l. IsPrefix l (seqwrites p image m (a + b))) (sym (seq_alike p image m b))
          (subst (λ n. IsPrefix (seqwrites p image m b) (seqwrites p image m n)) (let e : b + a ≡ a + b = omega arith in e) (more_from p m b a image p.start))),
    )
