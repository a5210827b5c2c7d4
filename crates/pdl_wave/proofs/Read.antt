-- What each line of a dump is read as.
use Rattle.std.proofs.Common.{◌≡◌, refl, ◌∙◌, ap, ℕ, ◌^◌, ◌<◌, ◌≤◌, ◌==◌, true, List, [], ◌∷◌, ◌++◌, flat_map, decimal, Some, None, if◌then◌else◌, arith}
use Rattle.std.specs.Prelude.{codes, bytes_eq}
use Rattle.std.specs.List.{slice_split, onto_first, list_all}
use Rattle.std.specs.Option.{option_map}
use Rattle.std.proofs.lemmas.Bool.{cond-true}
use Rattle.std.proofs.lemmas.Fmt.{decimal_is_IsNumeral}
use Rattle.std.proofs.lemmas.List.{append_assoc}
use Rattle.std.proofs.lemmas.List.Splits.{slice_split_none, slice_split_at}
use Rattle.pdl_word.specs.Digits.{is_digit_of}
use Rattle.pdl_word.specs.Each.{Each}
use Rattle.pdl_word.proofs.Bytes.{bytes_refl}
use Rattle.pdl_wave.specs.declared.port.WavePort.{WavePort}
use Rattle.pdl_wave.specs.Dump.{code, binary, scope, declaration, time_text, change_text, ended, is_word}
use Rattle.pdl_wave.specs.Wave.{Scope, Var, Time, NewValue, number, told, of_words, of_line}
use Rattle.pdl_wave.proofs.Digits.{binary_word, binary_digits}
use Rattle.pdl_wave.proofs.LineBytes.{is_line, no_blank, no_feed, decimal_word, code_word}

-- ---- cuts

-- a text of lines is cut into them, and nothing is left after the last line feed
pub cut_lines : (lines : List (List ℕ))
    → Each (λ line. is_line line ≡ true) lines → slice_split (λ c. c == 10) (flat_map ended lines) ≡ lines ++ [] ∷ []
cut_lines [] h = refl
cut_lines (line ∷ lines) h =
    ap (slice_split (λ c. c == 10)) (append_assoc line (codes "\n") (flat_map ended lines))
    ∙ slice_split_at (λ c. c == 10) line 10 (flat_map ended lines) (no_feed line h.0) refl
    ∙ ap (λ more. line ∷ more) (cut_lines lines h.1)

cut_word : (word rest : List ℕ)
    → is_word word ≡ true → slice_split (λ c. c == 32) (word ++ 32 ∷ rest) ≡ word ∷ slice_split (λ c. c == 32) rest
cut_word word rest h = slice_split_at (λ c. c == 32) word 32 rest (no_blank word h) refl

cut_last : (word : List ℕ) → is_word word ≡ true → slice_split (λ c. c == 32) word ≡ word ∷ []
cut_last word h = slice_split_none (λ c. c == 32) word (no_blank word h)

-- ---- numbers

number_decimal : (n : ℕ) → n < 2 ^ 64 → number (decimal n) ≡ Some n
number_decimal n h =
    let d = decimal_is_IsNumeral n h in
    ap (λ m. if bytes_eq (decimal m) (decimal n) then Some m else None) d.1 ∙ cond-true _ _ _ (bytes_refl (decimal n))

-- ---- lines

-- the line of a time below 2^64 reads as that time
pub read_time : (time : ℕ) → time < 2 ^ 64 → of_line (time_text time) ≡ Time time
read_time time h =
    ap (λ ws. of_words (onto_first 35 ws)) (cut_last (decimal time) (decimal_word time h))
    ∙ ap (λ o. told (option_map Time o)) (number_decimal time h)

-- the line of a change reads as the value's binary digits and the port's code
pub read_change : (value width i : ℕ) → of_line (change_text value width i) ≡ NewValue (binary width value) (code i)
read_change value width i =
    let bits = binary width value in
    ap (λ bytes. of_line (98 ∷ bytes)) (append_assoc bits (codes " ") (code i))
    ∙ ap (λ ws. of_words (onto_first 98 ws)) (cut_word bits (code i) (binary_word width value) ∙ ap (λ ws. bits ∷ ws) (cut_last (code i) (code_word i)))
    ∙ cond-true (list_all (is_digit_of 2) bits) (NewValue bits (code i)) _ (binary_digits width value)

-- the line that names the pipe reads as a scope with that name, where the name is a word
pub read_scope : (name : List ℕ) → is_word name ≡ true → of_line (scope name) ≡ Scope name
read_scope name h =
    let cut : slice_split (λ c. c == 32) (name ++ codes " $end") ≡ name ∷ codes "$end" ∷ [] = cut_word name (codes "$end") h in
    ap (λ ws. of_words (codes "$scope" ∷ codes "module" ∷ onto_first 112 (onto_first 100 (onto_first 108 (onto_first 95 ws))))) cut

regroup : (a d s c n e : List ℕ) → a ++ d ++ s ++ c ++ s ++ n ++ e ≡ a ++ (d ++ (s ++ (c ++ (s ++ (n ++ e)))))
regroup a d s c n e = simp append_assoc

-- the line of a port of at most 128 bits reads as its width, its code and its name, where that is a word
pub read_declaration : (i : ℕ) (p : WavePort)
    → p.width ≤ 128 → is_word p.name ≡ true → of_line (declaration i p) ≡ Var p.width (code i) p.name
read_declaration i p l h =
    let width : p.width < 2 ^ 64 = omega arith in
    let cut : slice_split (λ c. c == 32) (decimal p.width ++ (codes " " ++ (code i ++ (codes " " ++ (p.name ++ codes " $end")))))
    ≡ decimal p.width ∷ code i ∷ p.name ∷ codes "$end" ∷ [] =
    cut_word (decimal p.width) (code i ++ (codes " " ++ (p.name ++ codes " $end"))) (decimal_word p.width width)
    ∙ ap (λ ws. decimal p.width ∷ ws) (cut_word (code i) (p.name ++ codes " $end") (code_word i) ∙ ap (λ ws. code i ∷ ws) (cut_word p.name (codes "$end") h)) in
    ap of_line (regroup (codes "$var wire ") (decimal p.width) (codes " ") (code i) p.name (codes " $end"))
    ∙ ap (λ ws. of_words (codes "$var" ∷ codes "wire" ∷ ws)) cut
    ∙ ap (λ o. told (option_map (λ w. Var w (code i) p.name) o)) (number_decimal p.width width)
