-- The digits of numbers that are written in base 10 and 16.
use Rattle.std.proofs.Common.{◌≡◌, ℕ, zero, suc, ◌+◌, ◌-◌, ◌*◌, ◌/◌, ◌%◌, ◌^◌, ◌<◌, ◌≤◌, refl, sym, ◌∙◌, ap, arith, inl, inr, Bool, true, false, not, ◌&&◌, List, [], ◌∷◌, ◌++◌, length, length-append, add-one, take, get_or, leb, decimal, if◌then◌else◌}
use Rattle.std.specs.List.{list_all}
use Rattle.std.specs.Char.{digit_value}
use Rattle.std.specs.Str.Parse.{AllDigits, digits_value}
use Rattle.std.proofs.Math.Nat.{div-add-mod, div-div-eq-div-mul, div-lt_iff_lt-mul, mod-lt, pow-le-pow_right, pow-suc}
use Rattle.std.proofs.Math.Pow.{pow-add}
use Rattle.std.proofs.lemmas.Bool.{and_from, cases_lt, le-leb, lt-leb, lt-ltb, le-ltb}
use Rattle.std.proofs.lemmas.Fmt.{decimal_is_IsNumeral, length-decimal-le}
use Rattle.std.proofs.lemmas.Int.Digits.{digits_value_push, digits_value_more}
use Rattle.std.proofs.lemmas.List.Folds.{list_all-append, list_all_more}
use Rattle.std.proofs.lemmas.Str.{digit_value-digit_char}
use Rattle.std.proofs.lemmas.Str.Parse.{digit_from_value}
use Rattle.pdl_word.specs.Digits.{is_digit_of, are_digits, hex_digit, hex, most_hex}
use Rattle.pdl_word.specs.Words.{widest}

-- ---- decimal digits

ten_value : (c : ℕ) → digit_value c < 10 → is_digit_of 10 c ≡ true
ten_value c h =
    let r = digit_from_value c h in
    let low : leb 65 c ≡ false = lt-leb 65 c (omega (arith, r)) in
    and_from _ _ (lt-ltb _ _ h) (ap (λ b. not (b && leb c 90)) low)

ten_digits : (ds : List ℕ) → AllDigits 10 ds → list_all (is_digit_of 10) ds ≡ true
ten_digits [] h = refl
ten_digits (d ∷ ds) h = and_from _ _ (ten_value d h.0) (ten_digits ds h.1)

-- a number has no more decimal digits than the power of 10 above it says
pub decimal_digits : (most n : ℕ) → 1 ≤ most → n < 10 ^ most → n < 2 ^ 64 → are_digits 10 most (decimal n) ≡ true
decimal_digits most n some fits h =
    let d = decimal_is_IsNumeral n h in
    and_from _ _ (ten_digits (decimal n) d.0.1)
    (and_from _ _ (le-leb 1 (length (decimal n)) (omega (arith, d.0.0))) (le-leb (length (decimal n)) most (length-decimal-le most n some fits h)))

-- ---- hexadecimal digits

not_both : (b : Bool) → not (b && false) ≡ true
not_both true = refl
not_both false = refl

no_capital : (d : ℕ) → not (leb 65 (hex_digit d) && leb (hex_digit d) 90) ≡ true
no_capital d = elim (cases_lt d 10) [
  | inl h ↦
      let e : hex_digit d ≡ 48 + d = ap (λ b. if b then 48 + d else 87 + d) (lt-ltb d 10 h) in
      let low : leb 65 (48 + d) ≡ false = lt-leb 65 (48 + d) (omega (arith, h)) in
      ap (λ c. not (leb 65 c && leb c 90)) e ∙ ap (λ b. not (b && leb (48 + d) 90)) low
  | inr h ↦
      let e : hex_digit d ≡ 87 + d = ap (λ b. if b then 48 + d else 87 + d) (le-ltb d 10 h) in
      let high : leb (87 + d) 90 ≡ false = lt-leb (87 + d) 90 (omega (arith, h)) in
      ap (λ c. not (leb 65 c && leb c 90)) e ∙ ap (λ b. not (leb 65 (87 + d) && b)) high ∙ not_both (leb 65 (87 + d))
]

hex_digit_value : (d : ℕ) → d < 16 → digit_value (hex_digit d) ≡ d
hex_digit_value d h = digit_value-digit_char d (omega (arith, h))

sixteen_value : (d : ℕ) → d < 16 → is_digit_of 16 (hex_digit d) ≡ true
sixteen_value d h =
    let small : digit_value (hex_digit d) < 16 = omega (arith, hex_digit_value d h, h) in
    and_from _ _ (lt-ltb _ _ small) (no_capital d)

four_bits : (k : ℕ) → 2 ^ (4 * k) ≡ 16 ^ k
four_bits zero = refl
four_bits (suc k) =
    let e : 4 * suc k ≡ 4 * k + 4 = omega arith in
    ap (λ n. 2 ^ n) e ∙ pow-add 2 (4 * k) 4 ∙ ap (λ n. n * 16) (four_bits k) ∙ sym (pow-suc 16 k)

-- a digit for each four bits holds a word
digits_hold : (w : ℕ) → 2 ^ w ≤ 16 ^ ((w + 3) / 4)
digits_hold w =
    let wide : w ≤ 4 * ((w + 3) / 4) = omega (arith, div-add-mod (w + 3) 4, mod-lt (w + 3) {m = 4} (omega arith)) in
    let four : 2 ^ (4 * ((w + 3) / 4)) ≡ 16 ^ ((w + 3) / 4) = four_bits ((w + 3) / 4) in
    let more : 2 ^ w ≤ 2 ^ (4 * ((w + 3) / 4)) = pow-le-pow_right (omega arith) {i = w} {j = 4 * ((w + 3) / 4)} wide in
    omega (arith, more, four)

-- what each hexadecimal digit passes
pub hex_all : (p : ℕ → Bool) → ((d : ℕ) → d < 16 → p (hex_digit d) ≡ true) → (n v : ℕ) → list_all p (hex n v) ≡ true
hex_all p one zero v = refl
hex_all p one (suc n) v =
    list_all-append p (hex n (v / 16)) (hex_digit (v % 16) ∷ [])
    ∙ and_from _ _ (hex_all p one n (v / 16)) (and_from _ _ (one (v % 16) (mod-lt v {m = 16} (omega arith))) refl)

hex_length : (n v : ℕ) → length (hex n v) ≡ n
hex_length zero v = refl
hex_length (suc n) v = length-append (hex n (v / 16)) (hex_digit (v % 16) ∷ []) ∙ omega (arith, hex_length n (v / 16))

value_back : (n v : ℕ) → v < 16 ^ n → digits_value 16 (hex n v) ≡ v
value_back zero v l = omega (arith, l)
value_back (suc n) v l =
    let high : v / 16 < 16 ^ n = (div-lt_iff_lt-mul {k = 16} {x = v} {y = 16 ^ n} (omega arith)).1 (omega (arith, l, pow-suc 16 n)) in
    let last : digit_value (hex_digit (v % 16)) ≡ v % 16 = hex_digit_value (v % 16) (mod-lt v {m = 16} (omega arith)) in
    digits_value_push 16 (hex n (v / 16)) (hex_digit (v % 16))
    ∙ omega (arith, value_back n (v / 16) high, last, div-add-mod v 16)

-- the digits of a word of 1 to widest bits
pub are_hex_digits : (w v : ℕ) → 1 ≤ w → w ≤ widest → are_digits 16 most_hex (hex ((w + 3) / 4) v) ≡ true
are_hex_digits w v low high =
    let n : length (hex ((w + 3) / 4) v) ≡ (w + 3) / 4 = hex_length ((w + 3) / 4) v in
    let parts = div-add-mod (w + 3) 4 in
    let left = mod-lt (w + 3) {m = 4} (omega arith) in
    and_from _ _ (hex_all (is_digit_of 16) sixteen_value ((w + 3) / 4) v)
    (and_from _ _ (le-leb 1 (length (hex ((w + 3) / 4) v)) (omega (arith, n, parts, left, low)))
    (le-leb (length (hex ((w + 3) / 4) v)) most_hex (omega (arith, n, parts, left, high))))

-- a word of w bits is the value of its hexadecimal digits, one for each four bits
pub hex_value : (w v : ℕ) → v < 2 ^ w → digits_value 16 (hex ((w + 3) / 4) v) ≡ v
hex_value w v l = value_back ((w + 3) / 4) v (let k = digits_hold w in omega arith)

-- ---- one digit more of a text

-- a digit after the first i digits of a number gives the first i + 1, with its value after theirs
pub digits_next : (base : ℕ) (xs : List ℕ) (i v d : ℕ)
    → i < length xs → list_all (is_digit_of base) (take i xs) ≡ true → v ≡ digits_value base (take i xs)
    → is_digit_of base (get_or xs i 0) ≡ true → d ≡ digit_value (get_or xs i 0)
    → (list_all (is_digit_of base) (take (i + 1) xs) ≡ true) × (v * base + d ≡ digits_value base (take (i + 1) xs))
digits_next base xs i v d l all e this f =
    (list_all_more (is_digit_of base) xs i 0 l ∙ and_from _ _ all this, rw (e, f) (sym (digits_value_more base xs i l)))

-- ---- one hexadecimal digit more

four_more : (v k : ℕ) → v / 2 ^ (4 * k) / 16 ≡ v / 2 ^ (4 * (k + 1))
four_more v k =
    let e : 4 * (k + 1) ≡ 4 * k + 4 = omega arith in
    div-div-eq-div-mul v (2 ^ (4 * k)) 16 ∙ ap (λ n. v / n) (sym (pow-add 2 (4 * k) 4) ∙ ap (λ n. 2 ^ n) (sym e))

-- of the hexadecimal digits of a number, the first done + 1 are the first done and then the next one
pub hex_next : (count done v : ℕ) → done < count →
    hex (done + 1) (v / 2 ^ (4 * (count - (done + 1)))) ≡ hex done (v / 2 ^ (4 * (count - done))) ++ hex_digit (v / 2 ^ (4 * (count - 1 - done)) % 16) ∷ []
hex_next count done v h =
    let one : count - done ≡ count - 1 - done + 1 = omega arith in
    let same : count - (done + 1) ≡ count - 1 - done = omega arith in
    rw (same, one, ← four_more v (count - 1 - done), add-one) refl
