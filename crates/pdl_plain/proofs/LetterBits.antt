-- The word of an instruction has the bits of each letter at its places.
use Rattle.std.proofs.Common.{◌≡◌, ℕ, suc, ◌+◌, ◌-◌, ◌*◌, ◌/◌, ◌%◌, ◌^◌, ◌<◌, ◌≤◌, refl, sym, ap, ap₂, ◌∙◌, subst, arith, Bool, true, false, List, [], ◌∷◌, ◌++◌, append-nil, length, ◌==◌, if◌then◌else◌}
use Rattle.std.specs.Prelude.{map}
use Rattle.std.proofs.Math.Nat.{mod-lt, mod-eq_of_lt, mul-le-mul_right, pow-suc, div-eq_of_lt, add-mul-div_left, add-mul-mod_self_right}
use Rattle.std.proofs.lemmas.Nat.{pow_pos, pow-add}
use Rattle.std.proofs.lemmas.List.{map-append}
use Rattle.std.proofs.lemmas.List.Sums.{sum_by-cons}
use Rattle.pdl_asm.specs.Values.{bit_of, field_bits, word_of_bits}
use Rattle.pdl_asm.proofs.WordsFit.{bit_within, bits_fit}
use Rattle.pdl_plain.specs.LetterPlaces.{places_of, bit_at, bit_of_letter, bits_of_letter, HasEachLetter}

bit_small : (value : ℕ → ℕ) (c : ℕ) (right : List ℕ) → bit_of value c right ≤ 1
bit_small value c right = bit_within (c == 48) (c == 49) (value c / 2 ^ field_bits right c)

-- a higher bit changes none below it
low_bit : (b w n p : ℕ) → p < n → bit_at (b * 2 ^ n + w) p ≡ bit_at w p
low_bit b w n p h =
    let m : ℕ = n - p - 1 in
    let e : p + (m + 1) ≡ n = omega arith in
    let P : ℕ → Type 0 = λ k. 2 ^ k ≡ 2 ^ p * (2 ^ m * 2) in
    let f : 2 ^ n ≡ 2 ^ p * (2 ^ m * 2) = subst P e (pow-add 2 p (m + 1) ∙ ap (λ z. 2 ^ p * z) (pow-add 2 m 1)) in
    let g : b * 2 ^ n + w ≡ w + 2 ^ p * (b * 2 ^ m * 2) = ap (λ z. b * z + w) f ∙ omega arith in
    ap (λ z. z / 2 ^ p % 2) g
    ∙ (ap (λ z. z % 2) (add-mul-div_left w (b * 2 ^ m * 2) (pow_pos p)) ∙ add-mul-mod_self_right (w / 2 ^ p) (b * 2 ^ m) 2)

-- the highest bit
top_bit : (b w n : ℕ) → b ≤ 1 → w < 2 ^ n → bit_at (b * 2 ^ n + w) n ≡ b
top_bit b w n h l =
    let e : b * 2 ^ n + w ≡ w + 2 ^ n * b = omega arith in
    let f : (w + 2 ^ n * b) / 2 ^ n ≡ w / 2 ^ n + b = add-mul-div_left w b (pow_pos n) in
    let g : w / 2 ^ n ≡ 0 = div-eq_of_lt l in
    let k : w / 2 ^ n + b ≡ b = omega (arith, g) in
    ap (λ z. z / 2 ^ n % 2) e ∙ (ap (λ z. z % 2) (f ∙ k) ∙ mod-eq_of_lt (omega arith))

-- the places of a letter are below the number of bits
low_place : (t : Bool) (b w n k : ℕ)
    → k < n → map (bit_at (b * 2 ^ n + w)) (if t then k ∷ [] else []) ≡ map (bit_at w) (if t then k ∷ [] else [])
low_place true b w n k h = ap (λ x. x ∷ []) (low_bit b w n k h)
low_place false b w n k h = refl

low_places : (c : ℕ) (right : List ℕ) (b w n : ℕ) → length right ≤ n
    → map (bit_at (b * 2 ^ n + w)) (places_of c right) ≡ map (bit_at w) (places_of c right)
low_places c [] b w n h = refl
low_places c (x ∷ xs) b w n h =
    map-append (bit_at (b * 2 ^ n + w)) (places_of c xs) (if x == c then length xs ∷ [] else [])
    ∙ (ap₂ (λ l r. l ++ r) (low_places c xs b w n (omega arith)) (low_place (x == c) b w n (length xs) (omega arith))
    ∙ sym (map-append (bit_at w) (places_of c xs) (if x == c then length xs ∷ [] else [])))

one_longer : (xs : List ℕ) (x : ℕ) → length (xs ++ x ∷ []) ≡ suc (length xs)
one_longer [] x = refl
one_longer (y ∷ ys) x = ap suc (one_longer ys x)

counted_by : (x c n : ℕ) (xs right : List ℕ) (t : Bool) → length xs ≡ field_bits right c
    → length (xs ++ (if t then n ∷ [] else [])) ≡ (if t then 1 else 0) + field_bits right c
counted_by x c n xs right true e = one_longer xs n ∙ omega (arith, e)
counted_by x c n xs right false e = ap length (append-nil xs) ∙ omega (arith, e)

-- a letter has as many places as its field has bits
counted : (c : ℕ) (bits : List ℕ) → length (places_of c bits) ≡ field_bits bits c
counted c [] = refl
counted c (x ∷ right) =
    counted_by x c (length right) (places_of c right) right (x == c) (counted c right) ∙ sym (sum_by-cons (λ y. if y == c then 1 else 0) x right)

same_letter : (x c : ℕ) → (x == c) ≡ true → x ≡ c
same_letter x c e = grind arith

at_one : (value : ℕ → ℕ) (c x : ℕ) (right : List ℕ)
    → map (bit_at (word_of_bits value right)) (places_of c right) ≡ bits_of_letter value c (length (places_of c right))
    → (t : Bool) → (x == c) ≡ t
    → map (bit_at (bit_of value x right * 2 ^ length right + word_of_bits value right)) (places_of c right ++ (if t then length right ∷ [] else []))
    ≡ bits_of_letter value c (length (places_of c right ++ (if t then length right ∷ [] else [])))
at_one value c x right h true e =
    let b : ℕ = bit_of value x right in
    let w : ℕ = word_of_bits value right in
    let n : ℕ = length right in
    let top : bit_at (b * 2 ^ n + w) n ≡ bit_of_letter value c (length (places_of c right)) =
    top_bit b w n (bit_small value x right) (bits_fit value right)
    ∙ (ap (λ y. bit_of value y right) (same_letter x c e) ∙ ap (bit_of_letter value c) (sym (counted c right))) in
    map-append (bit_at (b * 2 ^ n + w)) (places_of c right) (n ∷ [])
    ∙ (ap₂ (λ l z. l ++ z ∷ []) (low_places c right b w n (omega arith) ∙ h) top
    ∙ ap (bits_of_letter value c) (sym (one_longer (places_of c right) n)))
at_one value c x right h false e =
    ap (map (bit_at (bit_of value x right * 2 ^ length right + word_of_bits value right))) (append-nil (places_of c right))
    ∙ (low_places c right (bit_of value x right) (word_of_bits value right) (length right) (omega arith)
    ∙ (h ∙ ap (λ l. bits_of_letter value c (length l)) (sym (append-nil (places_of c right)))))

at_each : (value : ℕ → ℕ) (bits : List ℕ) (c : ℕ)
    → map (bit_at (word_of_bits value bits)) (places_of c bits) ≡ bits_of_letter value c (length (places_of c bits))
at_each value [] c = refl
at_each value (x ∷ right) c = at_one value c x right (at_each value right c) (x == c) refl

-- the word of bits has each letter's bits at its places
pub has_each : HasEachLetter
has_each value bits = record { below = bits_fit value bits; at = at_each value bits }
