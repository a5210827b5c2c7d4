-- Writes to so many memories, counted memory by memory.
use Rattle.std.proofs.Common.{◌≡◌, ◌≢◌, refl, ap, ◌∙◌, ℕ, zero, suc, ◌+◌, ◌*◌, ◌<◌, ◌≤◌, Bool, true, false, cond, if◌then◌else◌, ◌==◌, List, [], ◌∷◌, length, arith}
use Rattle.std.proofs.lemmas.Bool.{eqb-true, eqb-false}
use Rattle.std.specs.Prelude.{⊤}
use Rattle.pdl_semantics.specs.Flat.{Commit, of_mem}

-- each of them is to one of the first n memories
abbrev pub AreKnown : ℕ → List Commit → Type 0
AreKnown n [] = ⊤
AreKnown n (c ∷ cs) = (c.mem < n) × AreKnown n cs

-- how many are to the first n memories
abbrev counted : ℕ → List Commit → ℕ
counted zero cs = 0
counted (suc n) cs = length (of_mem n cs) + counted n cs

here : (c : Commit) (cs : List Commit) (n : ℕ) (b : Bool)
    → (c.mem == n) ≡ b → length (of_mem n (c ∷ cs)) ≡ (if b then suc (length (of_mem n cs)) else length (of_mem n cs))
here c cs n b e = ap (λ t. length (cond t (c ∷ of_mem n cs) (of_mem n cs))) e ∙ at b
  where
    at : (t : Bool) → length (cond t (c ∷ of_mem n cs) (of_mem n cs)) ≡ (if t then suc (length (of_mem n cs)) else length (of_mem n cs))
    at true = refl
    at false = refl

-- one more, that is to none of them, or to one
counted_past : (c : Commit) (cs : List Commit) (n : ℕ) → n ≤ c.mem → counted n (c ∷ cs) ≡ counted n cs
counted_past c cs zero h = refl
counted_past c cs (suc n) h =
    let rest : counted n (c ∷ cs) ≡ counted n cs = counted_past c cs n (omega arith) in
    let not_here : length (of_mem n (c ∷ cs)) ≡ length (of_mem n cs) = other (c.mem == n) refl in
    omega arith
  where
    other : (b : Bool) → (c.mem == n) ≡ b → length (of_mem n (c ∷ cs)) ≡ length (of_mem n cs)
    other true e = let same : c.mem ≡ n = eqb-true c.mem n e in absurd (omega arith)
    other false e = here c cs n false e

counted_more : (c : Commit) (cs : List Commit) (n : ℕ) → c.mem < n → counted n (c ∷ cs) ≡ suc (counted n cs)
counted_more c cs zero h = absurd (omega arith)
counted_more c cs (suc n) h = at (c.mem == n) refl (counted_more c cs n)
  where
    at : (b : Bool) → (c.mem == n) ≡ b → (c.mem < n → counted n (c ∷ cs) ≡ suc (counted n cs))
        → length (of_mem n (c ∷ cs)) + counted n (c ∷ cs) ≡ suc (length (of_mem n cs) + counted n cs)
    at true e more =
        let same : c.mem ≡ n = eqb-true c.mem n e in
        let one = here c cs n true e in
        let rest : counted n (c ∷ cs) ≡ counted n cs = counted_past c cs n (omega arith) in
        omega arith
    at false e more =
        let apart : c.mem ≢ n = eqb-false c.mem n e in
        let one = here c cs n false e in
        let rest : counted n (c ∷ cs) ≡ suc (counted n cs) = more (omega arith) in
        omega arith

all_counted : (n : ℕ) (cs : List Commit) → AreKnown n cs → length cs ≤ counted n cs
all_counted n [] k = omega arith
all_counted n (c ∷ cs) k =
    let rest = all_counted n cs k.1 in
    let one = counted_more c cs n k.0 in
    omega arith

few_counted : (n k : ℕ) (cs : List Commit) → n ≤ k → ((m : ℕ) → m < k → length (of_mem m cs) ≤ 2) → counted n cs ≤ 2 * n
few_counted zero k cs l h = omega arith
few_counted (suc n) k cs l h =
    let rest = few_counted n k cs (omega arith) h in
    let two = h n (omega arith) in
    omega arith

-- writes to n memories, at most two to each, are at most twice as many
pub few_writes : (n : ℕ) (cs : List Commit) → AreKnown n cs → ((m : ℕ) → m < n → length (of_mem m cs) ≤ 2) → length cs ≤ 2 * n
few_writes n cs k h =
    let all = all_counted n cs k in
    let few = few_counted n n cs (omega arith) h in
    omega arith
