-- The place at a number, and one place more.
use Rattle.std.proofs.Common.{◌≡◌, sym, ap, ◌∙◌, ℕ, zero, suc, ◌+◌, ◌<◌, List, [], ◌∷◌, ◌++◌, take, length, get_or, arith}

-- the first k + 1 elements are the first k ones, and then the one at number k
pub take_next : {A : Type 0} (xs : List A) (k : ℕ) (x : A) → k < length xs → x ≡ get_or xs k x → take (k + 1) xs ≡ take k xs ++ x ∷ []
take_next {A = A} xs k x h e = ap (λ n. take n xs) (let one : k + 1 ≡ suc k = omega arith in one) ∙ at xs k h e
  where
    at : (ys : List A) (j : ℕ) → j < length ys → x ≡ get_or ys j x → take (suc j) ys ≡ take j ys ++ x ∷ []
    at [] j h e = absurd (omega arith)
    at (y ∷ ys) zero h e = ap (λ z. z ∷ []) (sym e)
    at (y ∷ ys) (suc j) h e = ap (λ zs. y ∷ zs) (at ys j (omega arith) e)
