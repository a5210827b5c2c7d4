-- One number more, and one separator more.
use Rattle.std.proofs.Common.{◌≡◌, ◌≢◌, refl, sym, ap, ◌∙◌, ℕ, suc, ◌+◌, ◌%◌, Bool, true, false, cond, ◌==◌, List, ◌++◌, append_assoc, eq-eqb}
use Rattle.std.proofs.lemmas.Bool.{eqb-true}
use Rattle.pdl_gen.specs.Generated.{next, number, made_odd}

-- each number comes next after the one before it
pub number_more : (n i j : ℕ) → j ≡ suc i → number n j ≡ next (number n i)
unfolding number
number_more n i j e = ap (number n) e

-- the first number after `n` is the one that comes next after it
pub first_number : (n : ℕ) → number n 1 ≡ next n
unfolding number
first_number n = refl

-- a byte that is odd, or the next one
pub odd_kept : (y z : ℕ) → y ≡ z → y % 2 ≡ 1 → y ≡ made_odd z
odd_kept y z e h = e ∙ sym (ap (λ b. cond b z (z + 1)) (eq-eqb (z % 2) 1 (sym (ap (λ v. v % 2) e) ∙ h)))

-- an even byte and 1 are that byte made odd
pub even_raised : (y z : ℕ) → y ≡ z → y % 2 ≢ 1 → y + 1 ≡ made_odd z
even_raised y z e h = ap (λ v. v + 1) e ∙ at (z % 2 == 1) refl
  where
    at : (b : Bool) → (z % 2 == 1) ≡ b → z + 1 ≡ cond b z (z + 1)
    at true i = absurd (h (ap (λ v. v % 2) e ∙ eqb-true (z % 2) 1 i))
    at false i = refl

-- three pieces after what was there
pub three_pieces : (old a b c one two three : List ℕ) → one ≡ old ++ a → two ≡ one ++ b → three ≡ two ++ c → three ≡ old ++ (a ++ (b ++ c))
three_pieces old a b c one two three e f g =
    g ∙ ap (λ l. l ++ c) (f ∙ ap (λ l. l ++ b) e ∙ append_assoc old a b) ∙ append_assoc old (a ++ b) c ∙ ap (λ l. old ++ l) (append_assoc a b c)
