-- What statements have, those of one stage have.
use Rattle.std.proofs.Common.{◌≡◌, refl, ap₂, subst, ℕ, Bool, true, false, ◌&&◌, ◌||◌, List, [], ◌∷◌, ◌==◌, cond}
use Rattle.pdl_semantics.specs.Flat.{Op, Stmt, Guard}
use Rattle.pdl_semantics.specs.Stages.{in_stage}
use Rattle.pdl_theory_turns.specs.Scans.{none_of, binds_var, is_fixed, free_of, is_dead, keeps_guards}
use Rattle.pdl_theory_turns.proofs.Writes.{and_left, and_right}

-- what no statement of a text is, no statement of a part of it is
pub none_stage : (test : Op → Bool) (s : ℕ) (xs : List Stmt) → none_of test xs ≡ true → none_of test (in_stage s xs) ≡ true
none_stage test s [] h = refl
none_stage test s (x ∷ xs) h = at (x.stage == s) (none_stage test s xs (and_right _ _ h))
  where
    at : (b : Bool) → none_of test (in_stage s xs) ≡ true → none_of test (cond b (x ∷ in_stage s xs) (in_stage s xs)) ≡ true
    at true k = ap₂ (λ a b. a && b) (and_left _ _ h) k
    at false k = k

-- where no statement of a text binds a variable of these guards, none of one stage does
pub free_stage : (s : ℕ) (gs : List Guard) (xs : List Stmt) → free_of gs xs ≡ true → free_of gs (in_stage s xs) ≡ true
free_stage s [] xs h = refl
free_stage s (g ∷ gs) xs h = ap₂ (λ a b. a && b) (none_stage (binds_var g.var) s xs (and_left _ _ h)) (free_stage s gs xs (and_right _ _ h))

keeps_stage : (s : ℕ) (gs : List Guard) (xs : List Stmt) → keeps_guards gs xs ≡ true → keeps_guards gs (in_stage s xs) ≡ true
keeps_stage s gs xs h = at (is_dead gs) h
  where
    at : (b : Bool) → (b || free_of gs xs) ≡ true → (b || free_of gs (in_stage s xs)) ≡ true
    at true k = refl
    at false k = free_stage s gs xs k

-- where statements leave the values of their guards alone, those of one stage do
pub fixed_stage : (s : ℕ) (xs : List Stmt) → is_fixed xs ≡ true → is_fixed (in_stage s xs) ≡ true
fixed_stage s [] h = refl
fixed_stage s (x ∷ xs) h = at (x.stage == s) refl (fixed_stage s xs (and_right _ _ h))
  where
    at : (b : Bool) → (x.stage == s) ≡ b → is_fixed (in_stage s xs) ≡ true → is_fixed (cond b (x ∷ in_stage s xs) (in_stage s xs)) ≡ true
    at true e k =
        ap₂ (λ a b. a && b)
        (subst (λ b. keeps_guards x.guards (cond b (x ∷ in_stage s xs) (in_stage s xs)) ≡ true) e (keeps_stage s x.guards (x ∷ xs) (and_left _ _ h))) k
    at false e k = k
