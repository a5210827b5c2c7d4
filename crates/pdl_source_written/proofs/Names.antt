-- Names of PDL are words of a dump, and short.
use Rattle.std.proofs.Common.{◌≡◌, refl, ◌∙◌, ℕ, ◌+◌, ◌≤◌, ◌==◌, true, ◌&&◌, ◌||◌, not, nat_le, nat_lt, List, [], ◌∷◌, ◌++◌, length, inl, inr, arith}
use Rattle.std.specs.List.{list_all}
use Rattle.std.proofs.lemmas.Bool.{and_from, and_parts, or_cases, leb-true, ltb-true, lt-ltb, eqb-true}
use Rattle.std.proofs.lemmas.List.{length-append}
use Rattle.std.proofs.lemmas.List.Folds.{list_all-append}
use Rattle.pdl_vread_text.specs.Tokens.{is_lower, is_digit}
use Rattle.pdl_vread_text.specs.Words.{is_name_byte, has_name_form, is_name, is_statement_keyword, is_declaration_keyword}
use Rattle.pdl_word.proofs.Lists.{all_weaker}
use Rattle.pdl_wave.specs.Dump.{is_word}

lower_above : (c : ℕ) → is_lower c ≡ true → nat_lt 32 c ≡ true
lower_above c h = let k : 97 ≤ c = leb-true 97 c (and_parts (nat_le 97 c) (nat_le c 122) h).0 in lt-ltb 32 c (omega arith)

digit_above : (c : ℕ) → is_digit c ≡ true → nat_lt 32 c ≡ true
digit_above c h = let k : 48 ≤ c = leb-true 48 c (and_parts (nat_le 48 c) (nat_le c 57) h).0 in lt-ltb 32 c (omega arith)

byte_above : (c : ℕ) → is_name_byte c ≡ true → nat_lt 32 c ≡ true
byte_above c h = elim (or_cases (is_lower c || is_digit c) (c == 95) h) [
  | inl either ↦ elim (or_cases (is_lower c) (is_digit c) either) [ inl l ↦ lower_above c l | inr d ↦ digit_above c d ]
  | inr e ↦ let k : c ≡ 95 = eqb-true c 95 e in lt-ltb 32 c (omega (arith, k))
]

-- a name that can stand in a dump
pub record IsShortWord (most : ℕ) (t : List ℕ) : Type 0 where
  pub word : is_word t ≡ true
  pub short : length t ≤ most

form_word : (t : List ℕ) → has_name_form t ≡ true → IsShortWord 32 t
form_word [] h = record { word = refl; short = omega arith }
form_word (c ∷ cs) h =
    let p = and_parts (is_lower c) (nat_lt (length cs) 32 && list_all is_name_byte cs) h in
    let q = and_parts (nat_lt (length cs) 32) (list_all is_name_byte cs) p.1 in
    let n = ltb-true (length cs) 32 q.0 in
    record {
      word = and_from _ _ (lower_above c p.0) (all_weaker is_name_byte (nat_lt 32) byte_above cs q.1);
      short = omega (arith, n);
    }

-- a name of PDL is a word of a dump, of at most 32 bytes
pub name_word : (t : List ℕ) → is_name t ≡ true → IsShortWord 32 t
unfolding is_name
name_word t h =
    form_word t
    (and_parts (has_name_form t) (not (is_statement_keyword t))
    (and_parts (has_name_form t && not (is_statement_keyword t)) (not (is_declaration_keyword t)) h).0).0

-- a short word after another is a short word
pub prefixed : (m k : ℕ) (a b : List ℕ) → IsShortWord m a → IsShortWord k b → IsShortWord (m + k) (a ++ b)
prefixed m k a b h i =
    let n = length-append a b in
    let s = h.short in
    let t = i.short in
    record {
      word = list_all-append (nat_lt 32) a b ∙ and_from _ _ h.word i.word;
      short = omega (arith, n, s, t);
    }

-- a word of at most m bytes is one of at most k, where m is at most k
pub longer : (m k : ℕ) (t : List ℕ) → m ≤ k → IsShortWord m t → IsShortWord k t
longer m k t l h = let s = h.short in record { word = h.word; short = omega (arith, s, l) }
