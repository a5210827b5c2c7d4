-- The flags that say of each memory whether some path reserves it twice for writing.
use Rattle.std.proofs.Common.{◌≡◌, ◌∙◌, ℕ, zero, suc, ◌+◌, ◌<◌, false, List, [], ◌∷◌, length, get_or, refl, ap, arith}
use Rattle.pdl_semantics.specs.Flat.{Stmt, Mem}
use Rattle.pdl_semantics.specs.SecondWrites.{reserves_twice, all_twice}

-- there is one for each memory
pub flag_count : (xs : List Stmt) (k : ℕ) (ms : List Mem) → length (all_twice xs k ms) ≡ length ms
flag_count xs k [] = refl
flag_count xs k (m ∷ ms) = let rest = flag_count xs (suc k) ms in omega (arith, rest)

-- that of number m, where the first memory has the number k
pub flag_at : (xs : List Stmt) (k : ℕ) (ms : List Mem) (m : ℕ) → m < length ms → get_or (all_twice xs k ms) m false ≡ reserves_twice (k + m) xs
flag_at xs k [] m low = absurd (omega (arith, low))
flag_at xs k (x ∷ ms) zero low = ap (λ i. reserves_twice i xs) (let e : k ≡ k + 0 = omega arith in e)
flag_at xs k (x ∷ ms) (suc m) low =
    flag_at xs (suc k) ms m (omega (arith, low)) ∙ ap (λ i. reserves_twice i xs) (let e : suc k + m ≡ k + suc m = omega arith in e)

-- that of a memory, of flags that are those of all memories
pub flag_is : (xs : List Stmt) (ms : List Mem) (m : ℕ) → m < length ms → get_or (all_twice xs 0 ms) m false ≡ reserves_twice m xs
flag_is xs ms m low = flag_at xs 0 ms m low ∙ ap (λ i. reserves_twice i xs) (let e : 0 + m ≡ m = omega arith in e)
