-- A generated source has at most 500 bytes.
use Rattle.std.proofs.Common.{◌≡◌, ◌∙◌, ap, refl, arith, leb-true, length-append, ℕ, zero, suc, ◌+◌, ◌-◌, ◌*◌, ◌/◌, ◌%◌, ◌==◌, ◌<◌, ◌≤◌, Bool, true, false, ◌++◌, length, codes}
use Rattle.std.specs.Prelude.{decimal, if◌then◌else◌}
use Rattle.std.proofs.lemmas.Fmt.{length-decimal-le}
use Rattle.pdl_semantics.specs.Tree.{LockKind, Queue, Bypass, Rename}
use Rattle.pdl_gen.specs.Generated.{source, head, reading_stages, separators, writing_end, stages, step, kind, byte, number}

head_short : (k : LockKind) → length (head k) ≤ 100
head_short Queue = leb-true (length (head Queue)) 100 refl
head_short Bypass = leb-true (length (head Bypass)) 100 refl
head_short Rename = leb-true (length (head Rename)) 100 refl

odd_case : (b : Bool) (y : ℕ) → y < 256 → (if b then y else y + 1) < 1000
odd_case true y h = omega (arith, h)
odd_case false y h = omega (arith, h)

below : (x : ℕ) → x % 256 < 256
below x = omega arith

step_small : (n : ℕ) → step n < 1000
step_small n = odd_case (byte n 1 % 2 == 1) (byte n 1) (below (number n 1 / 65536))

reads_short : (s : ℕ) → s < 1000 → length (reading_stages s) ≤ 200
reads_short s h =
    let before = codes "a = n[3:0];\nb = n[7:4];\nreserve(m[a], R);\nreserve(m[b], W);\ncall(n + 8'd" in
    let after = codes ");\n---\nblock(m[a]);\nx = m[a];\n" in
    let few : length (decimal s) ≤ 3 = length-decimal-le 3 s (omega arith) h (omega (arith, h)) in
    let all : length (reading_stages s) ≡ length before + length (decimal s) + length after =
    length-append (before ++ decimal s) after ∙ ap (λ n. n + length after) (length-append before (decimal s)) in
    omega (arith, few, all)

separators_short : (k : ℕ) → length (separators k) ≡ 4 * k
separators_short zero = refl
separators_short (suc k) = length-append (separators k) (codes "---\n") ∙ ap (λ n. n + 4) (separators_short k) ∙ omega arith

few_stages : (n : ℕ) → n % 14 < 14
few_stages n = omega arith

writes_short : length writing_end ≤ 100
writes_short = leb-true (length writing_end) 100 refl

-- the source of each generated run has at most 500 bytes
pub short_source : (n : ℕ) → length (source n) ≤ 500
unfolding source
short_source n =
    let h = head (kind n) in
    let r = reading_stages (step n) in
    let k = separators (stages n - 2) in
    let all : length (source n) ≡ length h + length r + length k + length writing_end =
    length-append (h ++ r ++ k) writing_end ∙ ap (λ n. n + length writing_end) (length-append (h ++ r) k ∙ ap (λ n. n + length k) (length-append h r)) in
    omega (arith, all, head_short (kind n), reads_short (step n) (step_small n), separators_short (stages n - 2), few_stages n, writes_short)
