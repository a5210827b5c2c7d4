-- Which bytes stand in words and in lines.
use Rattle.std.proofs.Common.{◌≡◌, refl, ◌∙◌, ℕ, ◌+◌, ◌-◌, ◌/◌, ◌%◌, ◌^◌, ◌<◌, Bool, true, false, nat_lt, ◌==◌, List, [], ◌∷◌, ◌++◌, decimal, All, arith}
use Rattle.std.specs.List.{list_all}
use Rattle.std.specs.Str.Parse.{AllDigits}
use Rattle.std.proofs.lemmas.Bool.{and_from, and_parts, cond_both, lt-ltb, ltb-true, ne_eqb}
use Rattle.std.proofs.lemmas.Fmt.{decimal_is_IsNumeral}
use Rattle.std.proofs.lemmas.List.Elements.{All-nil, All-cons}
use Rattle.std.proofs.lemmas.List.Folds.{list_all-append}
use Rattle.std.proofs.lemmas.Str.Parse.{digit_from_value}
use Rattle.pdl_word.specs.Each.{Each}
use Rattle.pdl_word.proofs.Lists.{all_weaker}
use Rattle.pdl_wave.specs.Dump.{code, is_word}

-- bytes above the line feed
abbrev pub is_line : List ℕ → Bool
is_line bytes = list_all (nat_lt 10) bytes

above : (c : ℕ) → nat_lt 32 c ≡ true → nat_lt 10 c ≡ true
above c h = let k : 32 < c = ltb-true 32 c h in lt-ltb 10 c (omega arith)

-- a word can stand in a line
pub word_line : (bytes : List ℕ) → is_word bytes ≡ true → is_line bytes ≡ true
word_line bytes h = all_weaker (nat_lt 32) (nat_lt 10) above bytes h

line_append : (a b : List ℕ) → is_line a ≡ true → is_line b ≡ true → is_line (a ++ b) ≡ true
line_append a b h k = list_all-append (nat_lt 10) a b ∙ and_from _ _ h k

-- pieces one after another
abbrev pub joined : List ℕ → List (List ℕ) → List ℕ
joined a [] = a
joined a (b ∷ bs) = joined (a ++ b) bs

-- pieces of a line are, joined, a line
pub pieces_line : (a : List ℕ) (bs : List (List ℕ)) → is_line a ≡ true → Each (λ b. is_line b ≡ true) bs → is_line (joined a bs) ≡ true
pieces_line a [] h k = h
pieces_line a (b ∷ bs) h k = pieces_line (a ++ b) bs (line_append a b h k.0) k.1

-- what bytes above a number aren't
none_are : (n : ℕ) (bytes : List ℕ) → list_all (nat_lt n) bytes ≡ true → All (λ c. (c == n) ≡ false) bytes
none_are n [] h = All-nil (λ c. (c == n) ≡ false)
none_are n (c ∷ cs) h =
    let parts = and_parts (nat_lt n c) (list_all (nat_lt n) cs) h in
    let k : n < c = ltb-true n c parts.0 in
    All-cons (λ c. (c == n) ≡ false) c cs (ne_eqb c n (λ e. omega (arith, e, k))) (none_are n cs parts.1)

-- no byte of a word is a blank, and none of a line a line feed
pub no_blank : (bytes : List ℕ) → is_word bytes ≡ true → All (λ c. (c == 32) ≡ false) bytes
no_blank bytes h = none_are 32 bytes h

-- a line has no line feed
pub no_feed : (bytes : List ℕ) → is_line bytes ≡ true → All (λ c. (c == 10) ≡ false) bytes
no_feed bytes h = none_are 10 bytes h

-- ---- numbers and codes

digits_word : (ds : List ℕ) → AllDigits 10 ds → is_word ds ≡ true
digits_word [] h = refl
digits_word (d ∷ ds) h = let r = digit_from_value d h.0 in and_from _ _ (lt-ltb 32 d (omega (arith, r))) (digits_word ds h.1)

-- a number below 2^64 that is written is a word of a dump
pub decimal_word : (n : ℕ) → n < 2 ^ 64 → is_word (decimal n) ≡ true
decimal_word n h = let d = decimal_is_IsNumeral n h in digits_word (decimal n) d.0.1

-- a code is a word of a dump
pub code_word : (i : ℕ) → is_word (code i) ≡ true
unfolding code
code_word i =
    cond_both (nat_lt i 94) ((33 + i) ∷ []) ((33 + (i / 94 - 1)) ∷ (33 + i % 94) ∷ []) (λ word. is_word word ≡ true)
    (λ h. and_from _ _ (lt-ltb 32 (33 + i) (omega arith)) refl)
    (λ h. and_from _ _ (lt-ltb 32 (33 + (i / 94 - 1)) (omega arith)) (and_from _ _ (lt-ltb 32 (33 + i % 94) (omega arith)) refl))
