-- The words that lines write fit the table's width.
use Rattle.std.proofs.Common.{◌≡◌, ℕ, ◌+◌, ◌-◌, ◌*◌, ◌/◌, ◌%◌, ◌^◌, ◌<◌, ◌≤◌, refl, ap, arith, Bool, true, false, List, [], ◌∷◌, length, Option, Some, None, ltb, ℤ, pos, negsuc, if◌then◌else◌, ◌==◌}
use Rattle.std.proofs.Math.Nat.{mod-lt, mul-le-mul_right, pow-suc}
use Rattle.std.proofs.lemmas.Bool.{ltb-true}
use Rattle.std.proofs.lemmas.Nat.{pow_pos}
use Rattle.pdl_image.specs.Images.{or_else}
use Rattle.pdl_asm_table.specs.Dictionaries.{value_of}
use Rattle.pdl_asm_table.specs.Tables.{IsTable, TableValue}
use Rattle.pdl_asm_table.specs.declared.table.Insn.{Insn as TableInsn}
use Rattle.pdl_asm_table.proofs.Entries.{wide_found}
use Rattle.pdl_asm.specs.declared.line.AssemblyLine.{AssemblyLine}
use Rattle.pdl_asm.specs.declared.line.Operands.{Operands}
use Rattle.pdl_asm.specs.declared.line.Operation.{Operation}
use Rattle.pdl_asm.specs.declared.line.Operation.TheVariants.{Nothing, At, Word, Insn}
use Rattle.pdl_asm.specs.Values.{Labels, bit_of, field_bits, in_word, given_value, signed_field, unsigned_field, word_of_bits}
use Rattle.pdl_asm.specs.Assembly.{Placed, insn_word, is_at, line_word, operation_word, word_at, written_word}

-- ---- numbers

some_if : (b : Bool) (n v : ℕ) → (if b then Some n else None) ≡ Some v → (b ≡ true) × (n ≡ v)
some_if true n v e = (refl, cc)
some_if false n v e = cc

unsigned_fits : (f : ℕ) (z : ℤ) (v : ℕ) → unsigned_field f z ≡ Some v → v < 2 ^ f
unsigned_fits f (pos n) v e =
    let g = some_if (ltb n (2 ^ f)) n v e in
    omega (arith, ltb-true n (2 ^ f) g.0, g.1)
unsigned_fits f (negsuc n) v e = cc

signed_fits : (f n v : ℕ) → signed_field f (negsuc n) ≡ Some v → v < 2 ^ f
signed_fits f n v e =
    let g = some_if (ltb n (2 ^ (f - 1))) (2 ^ f - 1 - n) v e in
    omega (arith, pow_pos f, g.1)

number_fits : (bits : ℕ) (z : ℤ) (v : ℕ) → in_word bits z ≡ Some v → v < 2 ^ bits
number_fits bits (pos n) v e = unsigned_fits bits (pos n) v e
number_fits bits (negsuc n) v e = signed_fits bits n v e

-- ---- instructions

-- what stands at a place is a bit
pub bit_within : (a b : Bool) (n : ℕ) → (if a then 0 else if b then 1 else n % 2) ≤ 1
bit_within true b n = omega arith
bit_within false true n = omega arith
bit_within false false n = omega (arith, mod-lt n {m = 2} (omega arith))

-- a word has no more bits than are written
pub bits_fit : (value : ℕ → ℕ) (bits : List ℕ) → word_of_bits value bits < 2 ^ length bits
bits_fit value [] = omega arith
bits_fit value (c ∷ right) =
    let one : bit_of value c right ≤ 1 = bit_within (c == 48) (c == 49) (value c / 2 ^ field_bits right c) in
    let high : bit_of value c right * 2 ^ length right ≤ 1 * 2 ^ length right = mul-le-mul_right (2 ^ length right) one in
    let twice : 2 ^ length (c ∷ right) ≡ 2 ^ length right * 2 = pow-suc 2 (length right) in
    let small : bit_of value c right * 2 ^ length right + word_of_bits value right < 2 ^ length (c ∷ right) =
    omega (arith, high, bits_fit value right, twice) in
    small

insn_fits : (t : TableValue) (labels : Labels) (place : ℤ) (name : List ℕ) (o : Option TableInsn) (operands : Operands) (v : ℕ)
    → IsTable t → value_of t.insns name ≡ o → insn_word t labels place o operands ≡ Some v → v < 2 ^ t.word
insn_fits t labels place name None operands v h f e = cc
insn_fits t labels place name (Some i) operands v h f e =
    let same : word_of_bits (given_value t labels place i.bits i.args operands) i.bits ≡ v = cc e in
    let wide : length i.bits ≡ t.word = wide_found t.word t.insns name i h.bits f in
    let small = bits_fit (given_value t labels place i.bits i.args operands) i.bits in
    omega (arith, same, small, ap (λ n. 2 ^ n) wide)

-- ---- lines

operation_fits : (t : TableValue) (labels : Labels) (place : ℤ) (o : Operation) (v : ℕ) → IsTable t
    → operation_word t labels place o ≡ Some v → v < 2 ^ t.word
operation_fits t labels place Nothing v h e = cc
operation_fits t labels place (At n) v h e = cc
operation_fits t labels place (Word n) v h e = number_fits t.word n v e
operation_fits t labels place (Insn name operands) v h e = insn_fits t labels place name (value_of t.insns name) operands v h refl e

line_fits : (t : TableValue) (labels : Labels) (place : ℤ) (l : Option AssemblyLine) (v : ℕ) → IsTable t
    → line_word t labels place l ≡ Some v → v < 2 ^ t.word
line_fits t labels place None v h e = cc
line_fits t labels place (Some l) v h e = operation_fits t labels place l.operation v h e

word_fits : (t : TableValue) (labels : Labels) (b : Bool) (place : ℤ) (l : Option AssemblyLine) (v : ℕ) → IsTable t
    → (if b then line_word t labels place l else None) ≡ Some v → v < 2 ^ t.word
word_fits t labels true place l v h e = line_fits t labels place l v h e
word_fits t labels false place l v h e = cc

first_fits : (n : ℕ) (a b : Option ℕ) (v : ℕ)
    → ((w : ℕ) → a ≡ Some w → w < n) → ((w : ℕ) → b ≡ Some w → w < n) → or_else a b ≡ Some v → v < n
first_fits n None b v h k e = k v e
first_fits n (Some w) b v h k e = h v e

-- a word that lines write at an address fits the width of the table's words
pub written_fits : (t : TableValue) (labels : Labels) (ps : List Placed) (a v : ℕ) → IsTable t
    → written_word t labels ps a ≡ Some v → v < 2 ^ t.word
written_fits t labels [] a v h e = cc
written_fits t labels (p ∷ ps) a v h e =
    first_fits (2 ^ t.word) (word_at t labels a p) (written_word t labels ps a) v
    (λ w f. word_fits t labels (is_at p.place a) p.place p.line w h f) (λ w f. written_fits t labels ps a w h f) e
