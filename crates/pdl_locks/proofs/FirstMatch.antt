-- The k-th of some: the first that passes among those from it on, and those up to it.
use Rattle.std.proofs.Common.{◌≡◌, sym, ap, ◌∙◌, ℕ, zero, suc, ◌+◌, ◌<◌, Bool, true, false, not, cond, List, [], ◌∷◌, ◌++◌, map, take, drop, length, get_or, arith}
use Rattle.std.specs.List.{position_or_len}

ahead : {P Q : Type 0} (test : Q → Bool) (view : P → Q) (ps : List P) (k : ℕ) (p : P) → k < length ps → p ≡ get_or ps k p
    → position_or_len test (map view (drop k ps)) ≡ cond (not (test (view p))) (1 + position_or_len test (map view (drop (suc k) ps))) 0
ahead test view [] k p l e = absurd (omega arith)
ahead test view (q ∷ ps) zero p l e = ap (λ y. cond (not (test (view y))) (1 + position_or_len test (map view ps)) 0) (sym e)
ahead test view (q ∷ ps) (suc k) p l e = ahead test view ps k p (omega arith) e

-- the k-th is the first that passes among those from it on, where it passes
pub is_first : {P Q : Type 0} (test : Q → Bool) (view : P → Q) (ps : List P) (k : ℕ) (p : P)
    → k < length ps → p ≡ get_or ps k p → test (view p) ≡ true → position_or_len test (map view (drop k ps)) ≡ 0
is_first test view ps k p l e t = ahead test view ps k p l e ∙ ap (λ b. cond (not b) (1 + position_or_len test (map view (drop (suc k) ps))) 0) t

-- the first that passes from the k-th on is the first from the one after it on, where the k-th fails
pub is_later : {P Q : Type 0} (test : Q → Bool) (view : P → Q) (ps : List P) (k : ℕ) (p : P)
    → k < length ps → p ≡ get_or ps k p → test (view p) ≡ false
    → position_or_len test (map view (drop k ps)) ≡ 1 + position_or_len test (map view (drop (k + 1) ps))
is_later test view ps k p l e t =
    let one : suc k ≡ k + 1 = omega arith in
    ahead test view ps k p l e
    ∙ ap (λ b. cond (not b) (1 + position_or_len test (map view (drop (suc k) ps))) 0) t
    ∙ ap (λ n. 1 + position_or_len test (map view (drop n ps))) one

mapped : {P Q R : Type 0} (f : Q → R) (view : P → Q) (ps : List P) (k : ℕ) (p : P) → k < length ps → p ≡ get_or ps k p
    → map f (map view (take (suc k) ps)) ≡ map f (map view (take k ps)) ++ f (view p) ∷ []
mapped f view [] k p l e = absurd (omega arith)
mapped f view (q ∷ ps) zero p l e = ap (λ y. f (view y) ∷ []) (sym e)
mapped f view (q ∷ ps) (suc k) p l e = ap (λ ns. f (view q) ∷ ns) (mapped f view ps k p (omega arith) e)

-- what is told of the first k, with that of the k-th, is what is told of the first k + 1
pub one_more : {P Q R : Type 0} (f : Q → R) (view : P → Q) (ps : List P) (k : ℕ) (p : P) → k < length ps → p ≡ get_or ps k p
    → map f (map view (take k ps)) ++ f (view p) ∷ [] ≡ map f (map view (take (k + 1) ps))
one_more f view ps k p l e =
    let one : suc k ≡ k + 1 = omega arith in
    sym (mapped f view ps k p l e) ∙ ap (λ n. map f (map view (take n ps))) one
