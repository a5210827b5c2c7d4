-- How many writes of a memory a thread's statements reserve, and that there is room for them.
use Rattle.std.proofs.Common.{◌≡◌, refl, sym, ap, ap₂, ◌∙◌, subst, ℕ, suc, ◌+◌, ◌≤◌, Bool, true, false, ◌&&◌, List, [], ◌∷◌, ◌++◌, length, Some, None, ◌==◌, arith, le_refl, eq-eqb, add-zero}
use Rattle.std.specs.Prelude.{if◌then◌else◌, slice_index}
use Rattle.std.proofs.lemmas.Bool.{eqb-true, eqb-false, ne_eqb}
use Rattle.pdl_semantics.specs.Flat.{Op, Bind, CombRead, DelayedRead, Write, ReserveRead, ReserveWrite, Block, Release, Call, SpecCall, Verify, SpecCheck, SpecBarrier, AdviceBind, AdviceRead, AdviceWrite, Stmt, list_all, all_hold}
use Rattle.pdl_semantics.specs.Machine.{Deeds, Reserved, reserves_of, same_args, deeds_after, deeds_after_all, checked_args}
use Rattle.pdl_semantics.specs.Cycle.{new_entries}
use Rattle.pdl_semantics.proofs.Facts.{all_push}

-- one reservation more is of its memory, and of no other
reserves_more : (n : ℕ) (rs : List Reserved) (r : Reserved) → reserves_of n (rs ++ r ∷ []) ≡ reserves_of n rs + (if r.mem == n then 1 else 0)
reserves_more n [] r = at (r.mem == n)
  where
    at : (b : Bool) → (if b then 1 else 0) ≡ 0 + (if b then 1 else 0)
    at true = refl
    at false = refl
reserves_more n (x ∷ rs) r = at (x.mem == n) (reserves_more n rs r)
  where
    more : ℕ
    more = if r.mem == n then 1 else 0

    at : (b : Bool) → reserves_of n (rs ++ r ∷ []) ≡ reserves_of n rs + more
        → (if b then suc (reserves_of n (rs ++ r ∷ [])) else reserves_of n (rs ++ r ∷ []))
        ≡ (if b then suc (reserves_of n rs) else reserves_of n rs) + more
    at true e = omega (arith, e)
    at false e = e

-- one reservation more of a memory is one more of it
pub one_more_of : (rs : List Reserved) (new : Reserved) → reserves_of new.mem (rs ++ new ∷ []) ≡ suc (reserves_of new.mem rs)
one_more_of rs new =
    let e = reserves_more new.mem rs new ∙ ap (λ b. reserves_of new.mem rs + (if b then 1 else 0)) (eq-eqb new.mem new.mem refl) in omega (arith, e)

-- a thread's new pending writes of a memory are as many as its reservations of it
pub entries_long : (m n : ℕ) (rs : List Reserved) → length (new_entries m n rs) ≡ reserves_of m rs
entries_long m n [] = refl
entries_long m n (r ∷ rs) = at (r.mem == m) (entries_long m n rs)
  where
    at : (b : Bool) → length (new_entries m n rs) ≡ reserves_of m rs
        → length ((if b then record { thread = n; var = r.var; address = r.address; value = None } ∷ [] else []) ++ new_entries m n rs)
        ≡ (if b then suc (reserves_of m rs) else reserves_of m rs)
    at true h = ap suc h
    at false h = h

-- where room for some reservations of a memory is room for fewer
module _ (room : ℕ → ℕ → Bool) (fewer : (m i j : ℕ) → j ≤ i → room m i ≡ true → room m j ≡ true) (rs : List Reserved) (new : Reserved) where
  same_room : room new.mem (suc (reserves_of new.mem rs)) ≡ true → (xs : List Reserved)
      → list_all (λ (r : Reserved). room r.mem (reserves_of r.mem (rs ++ new ∷ []))) xs ≡ list_all (λ (r : Reserved). room r.mem (reserves_of r.mem rs)) xs
  same_room h [] = refl
  same_room h (x ∷ xs) = ap₂ (λ a b. a && b) (at (x.mem == new.mem) refl) (same_room h xs)
    where
      at : (b : Bool) → (x.mem == new.mem) ≡ b → room x.mem (reserves_of x.mem (rs ++ new ∷ [])) ≡ room x.mem (reserves_of x.mem rs)
      at true e =
          subst (λ m. room m (reserves_of m (rs ++ new ∷ [])) ≡ room m (reserves_of m rs)) (sym (eqb-true x.mem new.mem e))
          (ap (room new.mem) (one_more_of rs new) ∙ h
          ∙ sym (fewer new.mem (suc (reserves_of new.mem rs)) (reserves_of new.mem rs) (omega arith) h))
      at false e =
          let other : (new.mem == x.mem) ≡ false = ne_eqb new.mem x.mem (λ i. eqb-false x.mem new.mem e (sym i)) in
          ap (room x.mem) (reserves_more x.mem rs new ∙ ap (λ b. reserves_of x.mem rs + (if b then 1 else 0)) other ∙ add-zero (reserves_of x.mem rs))

  -- with a new reservation there is room for all where there was for the others, and there is for those of its memory together
  pub pushed_room : list_all (λ (r : Reserved). room r.mem (reserves_of r.mem (rs ++ new ∷ []))) (rs ++ new ∷ [])
      ≡ (list_all (λ (r : Reserved). room r.mem (reserves_of r.mem rs)) rs && room new.mem (suc (reserves_of new.mem rs)))
  pushed_room =
      all_push (λ (r : Reserved). room r.mem (reserves_of r.mem (rs ++ new ∷ []))) rs new
      ∙ ap (λ k. list_all (λ (r : Reserved). room r.mem (reserves_of r.mem (rs ++ new ∷ []))) rs && room new.mem k) (one_more_of rs new)
      ∙ at (room new.mem (suc (reserves_of new.mem rs))) refl
    where
      none : (b : Bool) → (b && false) ≡ false
      none true = refl
      none false = refl

      at : (b : Bool) → room new.mem (suc (reserves_of new.mem rs)) ≡ b
          → (list_all (λ (r : Reserved). room r.mem (reserves_of r.mem (rs ++ new ∷ []))) rs && b)
          ≡ (list_all (λ (r : Reserved). room r.mem (reserves_of r.mem rs)) rs && b)
      at true e = ap (λ c. c && true) (same_room e rs)
      at false e =
          none (list_all (λ (r : Reserved). room r.mem (reserves_of r.mem (rs ++ new ∷ []))) rs)
          ∙ sym (none (list_all (λ (r : Reserved). room r.mem (reserves_of r.mem rs)) rs))

-- a statement takes no reservation back
op_grows : (read : ℕ → ℕ → ℕ) (m : ℕ) (op : Op) (d : Deeds) → reserves_of m d.reserves ≤ reserves_of m (deeds_after read op d).reserves
op_grows read m (Bind x e) d = le_refl (reserves_of m d.reserves)
op_grows read m (CombRead x n a) d = le_refl (reserves_of m d.reserves)
op_grows read m (DelayedRead x n a) d = le_refl (reserves_of m d.reserves)
op_grows read m (Write n a e) d = le_refl (reserves_of m d.reserves)
op_grows read m (ReserveRead n a) d = le_refl (reserves_of m d.reserves)
op_grows read m (ReserveWrite n a) d =
    let e = reserves_more m d.reserves (record { mem = n; var = a; address = slice_index d.env a }) in omega (arith, e)
op_grows read m (Block n a) d = le_refl (reserves_of m d.reserves)
op_grows read m (Release n a) d = le_refl (reserves_of m d.reserves)
op_grows read m (Call args) d = le_refl (reserves_of m d.reserves)
op_grows read m (SpecCall args) d = le_refl (reserves_of m d.reserves)
op_grows read m (Verify last args) d = at (same_args (checked_args last args d) d.guess)
  where
    at : (b : Bool) → reserves_of m d.reserves
        ≤ reserves_of m (if b then d else record d { child = Some (checked_args last args d); guess = checked_args last args d; fails = true }).reserves
    at true = le_refl (reserves_of m d.reserves)
    at false = le_refl (reserves_of m d.reserves)
op_grows read m SpecCheck d = le_refl (reserves_of m d.reserves)
op_grows read m SpecBarrier d = le_refl (reserves_of m d.reserves)
op_grows read m (AdviceBind x e) d = le_refl (reserves_of m d.reserves)
op_grows read m (AdviceRead x n a) d = le_refl (reserves_of m d.reserves)
op_grows read m (AdviceWrite n a e) d = le_refl (reserves_of m d.reserves)

-- statements take no reservation back
pub reserves_grow : (read : ℕ → ℕ → ℕ) (m : ℕ) (xs : List Stmt) (d : Deeds)
    → reserves_of m d.reserves ≤ reserves_of m (deeds_after_all read xs d).reserves
reserves_grow read m [] d = le_refl (reserves_of m d.reserves)
reserves_grow read m (x ∷ xs) d = at (λ e. reserves_grow read m xs e) (all_hold x.guards d.env)
  where
    at : ((e : Deeds) → reserves_of m e.reserves ≤ reserves_of m (deeds_after_all read xs e).reserves) → (b : Bool)
        → reserves_of m d.reserves ≤ reserves_of m (deeds_after_all read xs (if b then deeds_after read x.op d else d)).reserves
    at rest true = let i = op_grows read m x.op d in let j = rest (deeds_after read x.op d) in omega (arith, i, j)
    at rest false = rest d
