-- Lists that are not empty, as code takes them apart.
use Rattle.std.proofs.Common.{◌≡◌, ℕ, ◌+◌, ◌-◌, ◌*◌, ◌^◌, ◌%◌, ◌<◌, ◌≤◌, refl, sym, ap, ◌∙◌, arith, List, [], ◌∷◌, length, take, drop, get_or, ℤ, Bool, true, if◌then◌else◌, ◌==◌}
use Rattle.std.specs.Prelude.{Option, Result, Ok, Err}
use Rattle.std.specs.Result.{result_unwrap_or}
use Rattle.std.proofs.Math.Nat.{mod-eq_of_lt, mul-le-mul_right, pow-le-pow_right}
use Rattle.std.proofs.lemmas.List.{take_rest}
use Rattle.std.proofs.lemmas.Bool.{eq-eqb}
use Rattle.pdl_kit.specs.declared.rule.Rule.{Rule}
use Rattle.pdl_asm_table.specs.Tables.{TableValue}
use Rattle.pdl_asm_table.specs.declared.table.Arg.{Arg}
use Rattle.pdl_asm_table.specs.Dictionaries.{value_of}
use Rattle.pdl_asm.specs.Assembly.{insn_rule, operation_rule}
use Rattle.pdl_asm.specs.declared.line.Operation.{Operation}
use Rattle.pdl_asm.specs.declared.line.Operation.TheVariants.{Insn}
use Rattle.pdl_asm.specs.declared.line.Operand.{Operand}
use Rattle.pdl_asm.specs.declared.line.Operands.{Operands}
use Rattle.pdl_asm.specs.Values.{Labels, argument_value, bit_of, letter_value, lower, operands_rule, or_zero, rule_of, word_of_bits}
use Rattle.pdl_word.specs.Words.{widest}

-- the items after the first
abbrev pub rest_of : {X : Type 0} → List X → List X
rest_of xs = take (length xs - 1) (drop 1 xs)

small_mod : (high n : ℕ) → high ≤ 1 → n < widest → high * 2 ^ n % 2 ^ widest ≡ high * 2 ^ n
small_mod high n h l =
    let a : high * 2 ^ n ≤ 1 * 2 ^ n = mul-le-mul_right (2 ^ n) h in
    let b : 2 ^ n ≤ 2 ^ 127 = pow-le-pow_right (omega arith) {i = n} {j = 127} (omega (arith, l)) in
    mod-eq_of_lt (omega (arith, a, b))

-- such a bit and the bits below it fit in widest bits
pub word_fits : (high n low : ℕ) → high ≤ 1 → n < widest → low < 2 ^ n → high * 2 ^ n % 2 ^ widest + low < 2 ^ widest
word_fits high n low h l b =
    let e : high * 2 ^ n % 2 ^ widest ≡ high * 2 ^ n = small_mod high n h l in
    let a : high * 2 ^ n ≤ 1 * 2 ^ n = mul-le-mul_right (2 ^ n) h in
    let p : 2 ^ n ≤ 2 ^ 127 = pow-le-pow_right (omega arith) {i = n} {j = 127} (omega (arith, l)) in
    omega (arith, a, b, e, p)

-- the word of at most widest bits is its first bit at its position, plus the word of the bits after it
pub word_first : (value : ℕ → ℕ) (xs : List ℕ) (high low d : ℕ)
    → 1 ≤ length xs → length xs ≤ widest → high ≤ 1 → high ≡ bit_of value (get_or xs 0 d) (rest_of xs)
    → low ≡ word_of_bits value (rest_of xs) → high * 2 ^ length (rest_of xs) % 2 ^ widest + low ≡ word_of_bits value xs
word_first value [] high low d h k one e f = absurd (omega (arith, h))
word_first value (c ∷ cs) high low d h k one e f =
    let r : rest_of (c ∷ cs) ≡ cs = take_rest (c ∷ cs) 1 in
    let m : high * 2 ^ length (rest_of (c ∷ cs)) % 2 ^ widest ≡ high * 2 ^ length cs =
    ap (λ ys. high * 2 ^ length ys % 2 ^ widest) r ∙ small_mod high (length cs) one (omega (arith, k)) in
    ap (λ n. n + low) m ∙ ap (λ n. n * 2 ^ length cs + low) (e ∙ ap (bit_of value c) r)
    ∙ ap (λ n. bit_of value c cs * 2 ^ length cs + n) (f ∙ ap (word_of_bits value) r)

-- the first argument with the first operand, and those after them
pub letter_first : (t : TableValue) (labels : Labels) (place : ℤ) (bits : List ℕ) (args : List Arg) (os : List Operand)
    (c : ℕ) (a d : Arg) (o : Operand)
    → 1 ≤ length args → 1 ≤ length os → a ≡ get_or args 0 d → o ≡ get_or os 0 o → a.letter ≡ c
    → or_zero (argument_value t labels place bits a o) ≡ letter_value t labels place bits args os c
letter_first t labels place bits [] os c a d o h k e f g = absurd (omega (arith, h))
letter_first t labels place bits (b ∷ bs) [] c a d o h k e f g = absurd (omega (arith, k))
letter_first t labels place bits (b ∷ bs) (p ∷ ps) c a d o h k e f g =
    let same : (b.letter == c) ≡ true = eq-eqb b.letter c (ap (λ (x : Arg). x.letter) (sym e) ∙ g) in
    ap (λ x. or_zero (argument_value t labels place bits x o)) e ∙ ap (λ x. or_zero (argument_value t labels place bits b x)) f
    ∙ sym (ap (λ x. if x then or_zero (argument_value t labels place bits b p) else letter_value t labels place bits bs ps c) same)

-- a result unwrapped with 0 as its default is its value, or 0 where it is a rule
pub unwrap_is : (r : Result ℕ Rule) → result_unwrap_or r 0 ≡ or_zero r
unwrap_is (Ok v) = refl
unwrap_is (Err rule) = refl

-- the lowest rule that operands break is the lower of the first one's and of that of those after it
pub rule_first : (t : TableValue) (labels : Labels) (place : ℤ) (bits : List ℕ) (args : List Arg) (os : List Operand)
    (a d : Arg) (o : Operand) (x y : Option Rule)
    → 1 ≤ length args → 1 ≤ length os → a ≡ get_or args 0 d → o ≡ get_or os 0 o
    → x ≡ rule_of (argument_value t labels place bits a o)
    → y ≡ operands_rule t labels place bits (rest_of args) (rest_of os)
    → lower x y ≡ operands_rule t labels place bits args os
rule_first t labels place bits [] os a d o x y h k e f g i = absurd (omega (arith, h))
rule_first t labels place bits (b ∷ bs) [] a d o x y h k e f g i = absurd (omega (arith, k))
rule_first t labels place bits (b ∷ bs) (p ∷ ps) a d o x y h k e f g i =
    ap (λ z. lower z y) (g ∙ ap (λ z. rule_of (argument_value t labels place bits z o)) e ∙ ap (λ z. rule_of (argument_value t labels place bits b z)) f)
    ∙ ap (lower (rule_of (argument_value t labels place bits b p)))
    (i ∙ ap (λ xs. operands_rule t labels place bits xs (rest_of (p ∷ ps))) (take_rest (b ∷ bs) 1)
    ∙ ap (operands_rule t labels place bits bs) (take_rest (p ∷ ps) 1))

-- the rule of an instruction is that of the operation
pub rule_of_insn : (t : TableValue) (labels : Labels) (taken : Bool) (place : ℤ) (name : List ℕ) (os : Operands)
    (op : Operation) (r : Option Rule)
    → r ≡ insn_rule t labels taken place (value_of t.insns name) os → op ≡ Insn name os
    → r ≡ operation_rule t labels taken place op
rule_of_insn t labels taken place name os op r e f = e ∙ sym (ap (operation_rule t labels taken place) f)
