-- The stages in which a thread may squash: V, and before it U.
use Rattle.std.proofs.Common.{◌≡◌, refl, sym, ap, ◌∙◌, subst, ℕ, zero, suc, ◌<◌, ◌⊎◌, inl, inr, Bool, true, false, List, [], ◌∷◌, ◌++◌, Option, Some, None, arith}
use Rattle.std.specs.Prelude.{if◌then◌else◌, nat_lt, Contains}
use Rattle.std.proofs.lemmas.Bool.{ltb-true}
use Rattle.pdl_semantics.specs.Flat.{Stmt}
use Rattle.pdl_semantics.specs.Stages.{verify_stage}
use Rattle.pdl_semantics.specs.Updates.{first_update, earlier, update_stage, listed, squash_stages}

earlier_is : (o e : Option ℕ) (u : ℕ) → earlier o e ≡ Some u → (v : ℕ) × (o ≡ Some v) × (u < v)
earlier_is None e u h = absurd (cc h)
earlier_is (Some v) None u h = absurd (cc h)
earlier_is (Some v) (Some w) u h = at (nat_lt w v) refl h
  where
    at : (b : Bool) → nat_lt w v ≡ b → (if b then Some w else None) ≡ Some u → (y : ℕ) × (Some v ≡ Some y) × (u < y)
    at true i e = let same : w ≡ u = cc e in (v, refl, subst (λ j. j < v) same (ltb-true w v i))
    at false i e = absurd (cc e)

-- where there is U, there is V after it
pub update_early : (xs : List Stmt) (u : ℕ) → update_stage xs ≡ Some u → (v : ℕ) × (verify_stage xs ≡ Some v) × (u < v)
update_early xs u h = earlier_is (verify_stage xs) (first_update xs) u h

-- U is before V
pub update_before : (xs : List Stmt) (u v : ℕ) → update_stage xs ≡ Some u → verify_stage xs ≡ Some v → u < v
update_before xs u v h e = let r = update_early xs u h in at r.0 (sym r.1) r.2
  where
    at : (w : ℕ) → Some w ≡ verify_stage xs → u < w → u < v
    at w i l = let f : (Some w) ≡ Some v = i ∙ e in let same : w ≡ v = cc f in subst (λ j. u < j) same l

-- where there is no V, there is no U
pub never_update : (xs : List Stmt) → verify_stage xs ≡ None → update_stage xs ≡ None
never_update xs h = ap (λ o. earlier o (first_update xs)) h

in_one : (s z : ℕ) → Contains (s ∷ []) z → s ≡ z
in_one s z (zero, l, e) = e
in_one s z (suc k, l, e) = absurd (omega (arith, l))

in_two : (s t z : ℕ) → Contains (s ∷ t ∷ []) z → (s ≡ z) ⊎ (t ≡ z)
in_two s t z (zero, l, e) = inl e
in_two s t z (suc zero, l, e) = inr e
in_two s t z (suc (suc k), l, e) = absurd (omega (arith, l))

in_listed : (o e : Option ℕ) (z : ℕ) → Contains (listed o ++ listed e) z → (o ≡ Some z) ⊎ (e ≡ Some z)
in_listed None None z (k, l, e) = absurd (omega (arith, l))
in_listed None (Some u) z h = inr (ap (λ i. Some i) (in_one u z h))
in_listed (Some v) None z h = inl (ap (λ i. Some i) (in_one v z h))
in_listed (Some v) (Some u) z h = at (in_two v u z h)
  where
    at : (v ≡ z) ⊎ (u ≡ z) → (Some v ≡ Some z) ⊎ (Some u ≡ Some z)
    at (inl e) = inl (ap (λ i. Some i) e)
    at (inr e) = inr (ap (λ i. Some i) e)

-- a stage in which a thread may squash is V or U
pub squash_either : (xs : List Stmt) (z : ℕ) → Contains (squash_stages xs) z → (verify_stage xs ≡ Some z) ⊎ (update_stage xs ≡ Some z)
squash_either xs z h = in_listed (verify_stage xs) (update_stage xs) z h

-- where there is no V, no stage is one in which a thread may squash
pub no_squash : {R : Type 0} (xs : List Stmt) (z : ℕ) → verify_stage xs ≡ None → Contains (squash_stages xs) z → R
no_squash xs z none h = at (squash_either xs z h)
  where
    at : {R : Type 0} → (verify_stage xs ≡ Some z) ⊎ (update_stage xs ≡ Some z) → R
    at (inl e) = let i : None ≡ Some z = sym none ∙ e in absurd (cc i)
    at (inr e) = let i : None ≡ Some z = sym (never_update xs none) ∙ e in absurd (cc i)
