-- Numbers, constants and operators that are written read as what they were written from.
use Rattle.std.proofs.Common.{◌≡◌, inl, inr, ℕ, suc, ◌+◌, ◌/◌, ◌^◌, ◌<◌, ◌≤◌, Bool, true, false, ◌&&◌, ◌||◌, cond, leb, eqb, if◌then◌else◌, List, [], ◌∷◌, ◌++◌, length, append_assoc, take, drop, codes, decimal, Option, Some, None, refl, ap, ◌∙◌, arith}
use Rattle.std.specs.List.{list_all, prefix_len}
use Rattle.std.specs.Str.Parse.{AllDigits, digits_value}
use Rattle.std.proofs.lemmas.Bool.{and_from, or_left, or_right, cases_lt, le-leb, lt-ltb, le-ltb}
use Rattle.std.proofs.lemmas.Fmt.{decimal_is_IsNumeral}
use Rattle.std.proofs.lemmas.List.Folds.{list_all-append}
use Rattle.std.proofs.lemmas.Str.Parse.{digit_from_value}
use Rattle.pdl_word.proofs.Digits.{decimal_digits, hex_all, are_hex_digits, hex_value}
use Rattle.pdl_net.specs.declared.BinOp.{BinOp}
use Rattle.pdl_net.specs.declared.BinOp.TheVariants as op
use Rattle.pdl_vread_text.specs.Tokens.{is_lower, is_digit, is_word}
use Rattle.pdl_vread_text.specs.Words.{number_of, hex_part, with_parts, constant_of, operator_of, are_decimals}
use Rattle.pdl_vlog.specs.Layout.{constant, operator}
use Rattle.pdl_word.specs.Digits.{are_digits, hex_digit, hex}
use Rattle.pdl_word.proofs.Lists.{all_weaker}
use Rattle.std.proofs.Math.Seq.{take-append_seam}
use Rattle.pdl_word.specs.Words.{widest}

-- ---- bytes

-- a decimal digit is a byte of a word
pub digit_is_word : (c : ℕ) → is_digit c ≡ true → is_word c ≡ true
digit_is_word c h =
    let a : (is_lower c || (leb 65 c && leb c 90) || is_digit c) ≡ true = or_right (is_lower c || (leb 65 c && leb c 90)) (is_digit c) h in
    or_left _ _ (or_left _ _ (or_left _ (eqb c 95) a))

-- a lower-case letter is a byte of a word
pub lower_is_word : (c : ℕ) → is_lower c ≡ true → is_word c ≡ true
lower_is_word c h = or_left _ _ (or_left _ _ (or_left _ (eqb c 95) (or_left _ (is_digit c) (or_left (is_lower c) (leb 65 c && leb c 90) h))))

-- without as many first elements as the first list has, joined lists are the second
pub drop_front : {X : Type 0} (xs ys : List X) → drop (length xs) (xs ++ ys) ≡ ys
drop_front [] ys = refl
drop_front (x ∷ xs) ys = drop_front xs ys

-- a run of bytes that pass a test, before a byte that doesn't
pub run_before : {X : Type 0} (p : X → Bool) (w rest : List X)
    → list_all p w ≡ true → prefix_len p rest ≡ 0 → prefix_len p (w ++ rest) ≡ length w
run_before p [] rest h e = e
run_before p (x ∷ xs) rest h e = at_test (p x) h (run_before p xs rest)
  where
    at_test : (b : Bool) → (b && list_all p xs) ≡ true
        → (list_all p xs ≡ true → prefix_len p rest ≡ 0 → prefix_len p (xs ++ rest) ≡ length xs)
        → cond b (1 + prefix_len p (xs ++ rest)) 0 ≡ suc (length xs)
    at_test true k more = let i = more k e in omega arith
    at_test false k more = absurd (cc)

-- ---- decimal digits

byte_digits : (ds : List ℕ) → AllDigits 10 ds → list_all is_digit ds ≡ true
byte_digits [] h = refl
byte_digits (d ∷ ds) h =
    let r = digit_from_value d h.0 in
    and_from _ _ (and_from _ _ (le-leb 48 d (omega (arith, r))) (le-leb d 57 (omega (arith, r)))) (byte_digits ds h.1)

-- a number below 2^64 is written in decimal digits
pub decimal_bytes : (n : ℕ) → n < 2 ^ 64 → list_all is_digit (decimal n) ≡ true
decimal_bytes n h = byte_digits (decimal n) (decimal_is_IsNumeral n h).0.1

-- the bytes of a number below 2^64 that is written are bytes of words
pub decimal_words : (n : ℕ) → n < 2 ^ 64 → list_all is_word (decimal n) ≡ true
decimal_words n h = all_weaker is_digit is_word digit_is_word (decimal n) (decimal_bytes n h)

-- a number below 2^64 is written in at least one digit
pub decimals_are : (n : ℕ) → n < 2 ^ 64 → are_decimals (decimal n) ≡ true
decimals_are n h = some_digits (decimal n) (decimal_is_IsNumeral n h).0.0 (decimal_bytes n h)
  where
    some_digits : (ds : List ℕ) → 0 < length ds → list_all is_digit ds ≡ true → are_decimals ds ≡ true
    some_digits [] l e = absurd (omega arith)
    some_digits (d ∷ ds) l e = e

-- a number below 1000000 that is written reads as itself
pub number_back : (n : ℕ) → n < 1000000 → number_of (decimal n) ≡ Some n
unfolding number_of
number_back n h =
    let d = decimal_is_IsNumeral n (omega (arith, h)) in
    let e : are_digits 10 6 (decimal n) ≡ true = decimal_digits 6 n (omega arith) (omega (arith, h)) (omega (arith, h)) in
    ap (λ b. cond b (Some (digits_value 10 (decimal n))) None) e ∙ ap Some d.1

-- ---- hexadecimal digits

hex_digit_word : (d : ℕ) → d < 16 → is_word (hex_digit d) ≡ true
hex_digit_word d h = elim (cases_lt d 10) [
  | inl l ↦
      let e : hex_digit d ≡ 48 + d = ap (λ b. if b then 48 + d else 87 + d) (lt-ltb d 10 l) in
      ap is_word e ∙ digit_is_word (48 + d) (and_from _ _ (le-leb 48 (48 + d) (omega arith)) (le-leb (48 + d) 57 (omega arith)))
  | inr l ↦
      let e : hex_digit d ≡ 87 + d = ap (λ b. if b then 48 + d else 87 + d) (le-ltb d 10 l) in
      ap is_word e ∙ lower_is_word (87 + d) (and_from _ _ (le-leb 97 (87 + d) (omega arith)) (le-leb (87 + d) 122 (omega arith)))
]

-- ---- constants

hex_back : (w v : ℕ) → 1 ≤ w → w ≤ widest → v < 2 ^ w → hex_part (codes "'h" ++ hex ((w + 3) / 4) v) ≡ Some v
hex_back w v low high h =
    ap (λ b. cond b (Some (digits_value 16 (hex ((w + 3) / 4) v))) None) (are_hex_digits w v low high)
    ∙ ap Some (hex_value w v h)

-- a constant that fits in its 1 to widest bits reads as what it was written from
pub constant_back : (w v : ℕ) → 1 ≤ w → w ≤ widest → v < 2 ^ w → constant_of (constant w v) ≡ Some (record { width = w; value = v })
unfolding constant_of
constant_back w v low high h =
    let d = decimal w in
    let x = codes "'h" ++ hex ((w + 3) / 4) v in
    let whole : constant w v ≡ d ++ x = append_assoc d (codes "'h") (hex ((w + 3) / 4) v) in
    let n : prefix_len is_digit (d ++ x) ≡ length d = run_before is_digit d x (decimal_bytes w (omega arith)) refl in
    let front : take (prefix_len is_digit (d ++ x)) (d ++ x) ≡ d = ap (λ k. take k (d ++ x)) n ∙ take-append_seam d x in
    let back : drop (prefix_len is_digit (d ++ x)) (d ++ x) ≡ x = ap (λ k. drop k (d ++ x)) n ∙ drop_front d x in
    let one : number_of (take (prefix_len is_digit (d ++ x)) (d ++ x)) ≡ Some w = ap number_of front ∙ number_back w (omega arith) in
    let two : hex_part (drop (prefix_len is_digit (d ++ x)) (d ++ x)) ≡ Some v = ap hex_part back ∙ hex_back w v low high h in
    ap constant_of whole
    ∙ (ap (λ (z : Option ℕ). with_parts z (hex_part (drop (prefix_len is_digit (d ++ x)) (d ++ x)))) one
    ∙ ap (λ (z : Option ℕ). with_parts (Some w) z) two)

-- the bytes of a constant of fewer than 2^64 bits are bytes of words
pub constant_words : (w v : ℕ) → w < 2 ^ 64 → list_all is_word (constant w v) ≡ true
constant_words w v h =
    let d = decimal w ++ codes "'h" in
    let x = hex ((w + 3) / 4) v in
    list_all-append is_word d x
    ∙ and_from _ _ (list_all-append is_word (decimal w) (codes "'h") ∙ and_from _ _ (decimal_words w h) refl) (hex_all is_word hex_digit_word ((w + 3) / 4) v)

-- ---- operators

-- an operator that is written reads as itself
pub operator_back : (o : BinOp) → operator_of (operator o) ≡ Some o
unfolding operator_of
operator_back op.Add = refl
operator_back op.Sub = refl
operator_back op.Mul = refl
operator_back op.And = refl
operator_back op.Or = refl
operator_back op.Xor = refl
operator_back op.Eq = refl
operator_back op.Ne = refl
operator_back op.Lt = refl
operator_back op.Shl = refl
operator_back op.Shr = refl
