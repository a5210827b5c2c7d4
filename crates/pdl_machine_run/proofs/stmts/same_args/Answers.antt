use Rattle.std.proofs.Common.{◌≡◌, refl, sym, ap, ℕ, suc, Bool, true, false, ◌==◌, ◌&&◌, List, [], ◌∷◌, length}
use Rattle.pdl_semantics.specs.Machine.{same_args}
use Rattle.pdl_machine_run.proofs.stmts.same_args.Goals as goal

-- lists of different lengths differ
apart : (xs ys : List ℕ) → (length xs ≡ length ys → ⊥) → same_args xs ys ≡ false
apart [] [] h = absurd (h refl)
apart [] (y ∷ ys) h = refl
apart (x ∷ xs) [] h = refl
apart (x ∷ xs) (y ∷ ys) h = at (x == y) (apart xs ys (λ e. h (ap suc e)))
  where
    at : (b : Bool) → same_args xs ys ≡ false → (b && same_args xs ys) ≡ false
    at true e = e
    at false e = refl

pub returns-then-these-those : goal.returns-then-these-those
returns-then-these-those c = sym (apart c.args.these.now c.args.those.now c.if-these-those.true)
