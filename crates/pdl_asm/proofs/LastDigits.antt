-- The last of a number's decimal digits, and those before it.
use Rattle.std.proofs.Common.{◌≡◌, ℕ, ◌+◌, ◌-◌, ◌*◌, ◌≤◌, refl, sym, ap, ap₂, ◌∙◌, subst, arith, inl, inr, Bool, true, false, ◌&&◌, List, [], ◌∷◌, ◌++◌, length, length-append, take, drop, Option, Some, None, leb, if◌then◌else◌}
use Rattle.std.specs.Prelude.{option_map, pos}
use Rattle.std.specs.List.{list_all}
use Rattle.std.specs.Str.Parse.{digits_value}
use Rattle.std.specs.Char.{digit_value}
use Rattle.std.proofs.lemmas.Bool.{cases_lt, le-leb, lt-leb, and_left, and_right, and_from}
use Rattle.std.proofs.lemmas.Int.Digits.{digits_value_push}
use Rattle.std.proofs.lemmas.List.{take-append-drop, take_rest, length-take-le}
use Rattle.std.proofs.lemmas.List.Folds.{list_all-append}
use Rattle.pdl_word.specs.Digits.{are_digits, is_digit_of}
use Rattle.pdl_asm.specs.Lines.{decimal_of}

few_same : (n : ℕ) → leb (n + 1) 39 ≡ leb n 38
few_same n = elim (cases_lt 38 n) [
  | inl l ↦ lt-leb (n + 1) 39 (omega (arith, l)) ∙ sym (lt-leb n 38 l)
  | inr h ↦ le-leb (n + 1) 39 (omega (arith, h)) ∙ sym (le-leb n 38 h)
]

swapped : (a b t : Bool) → ((a && b) && t) ≡ ((a && t) && (b && true))
swapped true true true = refl
swapped true true false = refl
swapped true false true = refl
swapped true false false = refl
swapped false b t = refl

-- digits before a last one
joined : (ts us : List ℕ) → length us ≡ 1 → 1 ≤ length ts
    → (are_digits 10 39 (ts ++ us) ≡ (are_digits 10 38 ts && are_digits 10 1 us))
    × (digits_value 10 (ts ++ us) ≡ 10 * digits_value 10 ts + digits_value 10 us)
joined ts [] e h = absurd (omega (arith, e))
joined ts (u ∷ v ∷ us) e h = absurd (omega (arith, e))
joined ts (u ∷ []) e h =
    let n : length (ts ++ u ∷ []) ≡ length ts + 1 = length-append ts (u ∷ []) in
    let some : leb 1 (length (ts ++ u ∷ [])) ≡ true = le-leb 1 (length (ts ++ u ∷ [])) (omega (arith, n)) in
    let few : leb (length (ts ++ u ∷ [])) 39 ≡ leb (length ts) 38 = ap (λ k. leb k 39) n ∙ few_same (length ts) in
    let before : leb 1 (length ts) ≡ true = le-leb 1 (length ts) h in (
      ap₂ (λ x y. x && y) (list_all-append (is_digit_of 10) ts (u ∷ [])) (ap₂ (λ x y. x && y) some few)
          ∙ swapped (list_all (is_digit_of 10) ts) (list_all (is_digit_of 10) (u ∷ [])) (leb (length ts) 38)
          ∙ ap (λ b. (list_all (is_digit_of 10) ts && (b && leb (length ts) 38)) && are_digits 10 1 (u ∷ [])) (sym before),
      (let p = digits_value_push 10 ts u in let q = digits_value_push 10 [] u in omega (arith, p, q)),
    )

-- the digits of a text before its last one
abbrev pub first_of : List ℕ → ℕ → List ℕ
first_of ds end = take end ds

-- its last digit
abbrev pub last_of : List ℕ → ℕ → List ℕ
last_of ds end = take (length ds - end) (drop end ds)

parts : (ds : List ℕ) (end : ℕ) → first_of ds end ++ last_of ds end ≡ ds
parts ds end = ap (λ us. take end ds ++ us) (take_rest ds end) ∙ take-append-drop end ds

both : (ds : List ℕ) (end : ℕ) → end + 1 ≡ length ds → 1 ≤ end
    → (are_digits 10 39 ds ≡ (are_digits 10 38 (first_of ds end) && are_digits 10 1 (last_of ds end)))
    × (digits_value 10 ds ≡ 10 * digits_value 10 (first_of ds end) + digits_value 10 (last_of ds end))
both ds end e h =
    let P : List ℕ → Type 0 = λ xs. (are_digits 10 39 xs ≡ (are_digits 10 38 (first_of ds end) && are_digits 10 1 (last_of ds end)))
    × (digits_value 10 xs ≡ 10 * digits_value 10 (first_of ds end) + digits_value 10 (last_of ds end)) in
    let all : length (first_of ds end) + length (last_of ds end) ≡ length ds =
    sym (length-append (first_of ds end) (last_of ds end)) ∙ ap length (parts ds end) in
    let first : length (first_of ds end) ≡ end = length-take-le end ds (omega (arith, e)) in
    subst P (parts ds end) (joined (first_of ds end) (last_of ds end) (omega (arith, all, first, e)) (omega (arith, first, h)))

-- a text of at most one byte is a number of 39 digits just where it is one of one digit
one_same : (ds : List ℕ) → length ds ≤ 1 → are_digits 10 39 ds ≡ are_digits 10 1 ds
one_same ds h = ap (λ b. list_all (is_digit_of 10) ds && (leb 1 (length ds) && b)) (le-leb (length ds) 39 (omega (arith, h)) ∙ sym (le-leb (length ds) 1 h))

if_not : (b : Bool) (n : ℕ) → b ≡ false → (if b then Some n else None) ≡ None
if_not true n e = cc
if_not false n e = refl

if_so : (b : Bool) (n k : ℕ) → b ≡ true → k ≡ n → (if b then Some n else None) ≡ Some k
if_so true n k e f = ap Some (sym f)
if_so false n k e f = cc

-- a text of at most one byte that is no digit is no number
pub no_digit : (ds : List ℕ) → length ds ≤ 1 → are_digits 10 1 ds ≡ false → decimal_of ds ≡ None
no_digit ds h e = if_not (are_digits 10 39 ds) (digits_value 10 ds) (one_same ds h ∙ e)

-- a digit alone is its number
pub one_digit : (ds : List ℕ) (n : ℕ) → length ds ≤ 1 → are_digits 10 1 ds ≡ true → n ≡ digits_value 10 ds → decimal_of ds ≡ Some n
one_digit ds n h e f = if_so (are_digits 10 39 ds) (digits_value 10 ds) n (one_same ds h ∙ e) f

-- a text of which all but the last byte are no number is none
pub no_tens : (ds : List ℕ) (end : ℕ) → end + 1 ≡ length ds → 1 ≤ end → are_digits 10 38 (first_of ds end) ≡ false → decimal_of ds ≡ None
no_tens ds end e h f = if_not (are_digits 10 39 ds) (digits_value 10 ds) ((both ds end e h).0 ∙ and_left _ _ f)

-- and so is one of which the last byte is no digit
pub no_units : (ds : List ℕ) (end : ℕ) → end + 1 ≡ length ds → 1 ≤ end → are_digits 10 1 (last_of ds end) ≡ false → decimal_of ds ≡ None
no_units ds end e h f = if_not (are_digits 10 39 ds) (digits_value 10 ds) ((both ds end e h).0 ∙ and_right _ _ f)

-- else it is ten times the number before the last digit, and this
pub tens_and_units : (ds : List ℕ) (end t u : ℕ) → end + 1 ≡ length ds → 1 ≤ end
    → are_digits 10 38 (first_of ds end) ≡ true → are_digits 10 1 (last_of ds end) ≡ true
    → t ≡ digits_value 10 (first_of ds end) → u ≡ digits_value 10 (last_of ds end) → decimal_of ds ≡ Some (10 * t + u)
tens_and_units ds end t u e h f g p q =
    if_so (are_digits 10 39 ds) (digits_value 10 ds) (10 * t + u) ((both ds end e h).0 ∙ and_from _ _ f g)
    (let b = (both ds end e h).1 in omega (arith, b, p, q))
