-- Lines that give words, read back as an image.
use Rattle.std.proofs.Common.{◌≡◌, ◌≢◌, ℕ, zero, suc, ◌+◌, ◌-◌, ◌^◌, ◌<◌, ◌≤◌, refl, sym, ◌∙◌, ap, subst, arith, inl, inr, Bool, true, false, cond, eqb, zero-add, add-zero, List, [], ◌∷◌, ◌++◌, map, get_or, append_assoc, Option, Some, None, unwrap_or, Ok, codes}
use Rattle.std.specs.Prelude.{flat_map}
use Rattle.std.specs.List.{range_with_len, list_all}
use Rattle.std.specs.Str.Parse.{digits_value}
use Rattle.std.proofs.lemmas.Bool.{cases_Bool, cases_order, and_parts, eqb-true, lt-leb, le-ltb}
use Rattle.std.proofs.lemmas.List.FromFn.{get_or-range_with_len, length-range_with_len}
use Rattle.std.proofs.lemmas.List.Splits.{slice_split-cons_yes, slice_split-cons_no}
use Rattle.std.proofs.lemmas.Slice.Eq.{bytes_eq-Decides}
use Rattle.pdl_kit.specs.declared.mem_info.MemInfo.{MemInfo}
use Rattle.pdl_image.specs.Lines.{lines, byte_before}
use Rattle.pdl_image.specs.Images.{LineWords, at_line, broken_rule, broken_by, broken_in, contents, ends_of, fields, first_wrong, given_value, image, image_after, after_header, is_letter, is_name, is_name_byte, mem_of, or_else, says_nothing, value_at, words_in, words_of}
use Rattle.pdl_image.proofs.LineSteps.{given_push, value_other, value_same}
use Rattle.pdl_image.proofs.LineWords.{words_found}
use Rattle.pdl_image.proofs.MapSet.{map_same}
use Rattle.pdl_word.specs.Digits.{is_digit_of, are_digits, most_hex}

-- ---- a line

-- no byte of a text is this one
abbrev pub Lacks : ℕ → List ℕ → Type 0
Lacks c [] = Unit {0}
Lacks c (x ∷ xs) = (eqb x c ≡ false) × Lacks c xs

lacks_append : (c : ℕ) (xs ys : List ℕ) → Lacks c xs → Lacks c ys → Lacks c (xs ++ ys)
lacks_append c [] ys h k = k
lacks_append c (x ∷ xs) ys h k = (h.0, lacks_append c xs ys h.1 k)

-- a byte that passes where another doesn't
differs : (p : ℕ → Bool) (c x : ℕ) → p c ≡ false → p x ≡ true → eqb x c ≡ false
differs p c x h k = elim (cases_Bool (eqb x c)) [
  | inl t ↦
      let f : true ≡ false = sym k ∙ ap p (eqb-true x c t) ∙ h in
      cc
  | inr f ↦ f
]

lacks_all : (p : ℕ → Bool) (c : ℕ) (xs : List ℕ) → p c ≡ false → list_all p xs ≡ true → Lacks c xs
lacks_all p c [] h k = tt
lacks_all p c (x ∷ xs) h k =
    let f = and_parts (p x) (list_all p xs) k in
    (differs p c x h f.0, lacks_all p c xs h f.1)

lacks_name : (c : ℕ) (xs : List ℕ) → is_name_byte c ≡ false → is_letter c ≡ false → is_name xs ≡ true → Lacks c xs
lacks_name c [] h l k = tt
lacks_name c (x ∷ xs) h l k =
    let f = and_parts (is_letter x) _ k in
    (differs is_letter c x l f.0, lacks_all is_name_byte c xs h (and_parts _ _ f.1).1)

-- a line ends at a line feed, and a part at a space
lines_at_feed : (xs ys : List ℕ) → Lacks 10 xs → lines (xs ++ 10 ∷ ys) ≡ xs ∷ lines ys
unfolding lines
lines_at_feed [] ys h = refl
lines_at_feed (x ∷ xs) ys h = ap (byte_before x) (lines_at_feed xs ys h.1) ∙ rw h.0 refl

fields_at_space : (xs ys : List ℕ) → Lacks 32 xs → fields (xs ++ 32 ∷ ys) ≡ xs ∷ fields ys
unfolding fields
fields_at_space [] ys h = slice_split-cons_yes (λ c. eqb c 32) 32 ys refl
fields_at_space (x ∷ xs) ys h = slice_split-cons_no (λ c. eqb c 32) x (xs ++ 32 ∷ ys) h.0 ∙ rw (fields_at_space xs ys h.1) refl

-- a line gives a word: it is one line, no comment, and says the memory's name, the address and the value
pub record Says (line name : List ℕ) (address value : ℕ) : Type 0 where
  pub whole : Lacks 10 line
  pub said : says_nothing line ≡ false
  pub word : words_in false line ≡ Some (record { name = name; ends = record { from = address; to = address }; value = value })

no_comment : (name ys : List ℕ) → is_name name ≡ true → says_nothing (name ++ 32 ∷ ys) ≡ false
no_comment [] ys h = cc
no_comment (x ∷ []) ys h = rw (differs is_letter 47 x refl (and_parts (is_letter x) _ h).0) refl
no_comment (x ∷ y ∷ more) ys h = rw (differs is_letter 47 x refl (and_parts (is_letter x) _ h).0) refl

-- decimal digits give one address
one_address : (a : List ℕ) (address : ℕ) → are_digits 10 10 a ≡ true → address ≡ digits_value 10 a
    → ends_of false a ≡ Some (record { from = address; to = address })
unfolding ends_of
one_address a address d e = rw (d, e) refl

-- a name, decimal digits and hexadecimal ones, with spaces between them
pub says : (name a v : List ℕ) (address value : ℕ) → is_name name ≡ true → are_digits 10 10 a ≡ true → are_digits 16 most_hex v ≡ true
    → address ≡ digits_value 10 a → value ≡ digits_value 16 v → Says (name ++ 32 ∷ (a ++ 32 ∷ v)) name address value
says name a v address value n d h e f =
    let ds = (and_parts _ _ d).0 in
    let hs = (and_parts _ _ h).0 in
    record {
      whole = lacks_append 10 name _ (lacks_name 10 name refl refl n)
          (refl, lacks_append 10 a _ (lacks_all (is_digit_of 10) 10 a refl ds) (refl, lacks_all (is_digit_of 16) 10 v refl hs));
      said = no_comment name (a ++ 32 ∷ v) n;
      word = words_found false (name ++ 32 ∷ (a ++ 32 ∷ v)) name (a ++ 32 ∷ v) a v (record { from = address; to = address }) value
          (fields_at_space name (a ++ 32 ∷ v) (lacks_name 32 name refl refl n))
          (fields_at_space a v (lacks_all (is_digit_of 10) 32 a refl ds)) n (one_address a address d e) h f;
    }

-- ---- the lines of words by address

-- the line of an address that has a word
abbrev line_at : (ℕ → ℕ → List ℕ) → ℕ → Option ℕ → List (List ℕ)
line_at line a None = []
line_at line a (Some v) = line a v ∷ []

abbrev lines_from : (ℕ → ℕ → List ℕ) → (ℕ → Option ℕ) → ℕ → ℕ → List (List ℕ)
lines_from line word a zero = []
lines_from line word a (suc n) = line_at line a (word a) ++ lines_from line word (a + 1) n

-- texts of the first addresses: that of a word is a line that gives it to a memory, which takes it
pub record Gives (m : MemInfo) (count : ℕ) (word : ℕ → Option ℕ) (text : ℕ → Option ℕ → List ℕ) (line : ℕ → ℕ → List ℕ) : Type 0 where
  pub none : (a : ℕ) → text a None ≡ []
  pub some : (a v : ℕ) → text a (Some v) ≡ line a v ++ 10 ∷ []
  pub says : (a v : ℕ) → a < count → word a ≡ Some v → Says (line a v) m.name a v
  pub fits : (a v : ℕ) → a < count → word a ≡ Some v → (a < m.depth) × (v < 2 ^ m.width)

module _ (m : MemInfo) (count : ℕ) (word : ℕ → Option ℕ) (text : ℕ → Option ℕ → List ℕ) (line : ℕ → ℕ → List ℕ) (g : Gives m count word text line) where
  text_lines : (a : ℕ) (o : Option ℕ) (more : List ℕ) → a < count → word a ≡ o → lines (text a o ++ more) ≡ line_at line a o ++ lines more
  text_lines a None more l e = ap (λ xs. lines (xs ++ more)) (g.none a)
  text_lines a (Some v) more l e =
      ap (λ xs. lines (xs ++ more)) (g.some a v) ∙ ap lines (append_assoc (line a v) (10 ∷ []) more)
      ∙ lines_at_feed (line a v) more (g.says a v l e).whole

  all_lines : (a n : ℕ) → a + n ≤ count → lines (flat_map (λ k. text k (word k)) (range_with_len a n)) ≡ lines_from line word a n
  unfolding lines
  all_lines a zero h = refl
  all_lines a (suc n) h =
      text_lines a (word a) _ (omega (arith, h)) refl ∙ ap (λ ls. line_at line a (word a) ++ ls) (all_lines (a + 1) n (omega (arith, h)))

  -- what a line gives to an address
  line_given : (a k : ℕ) (o : Option ℕ) (more : List (List ℕ)) → a < count → word a ≡ o → k ≢ a
      → given_value false (line_at line a o ++ more) m.name k ≡ given_value false more m.name k
  unfolding given_value
  line_given a k None more l e ne = refl
  line_given a k (Some v) more l e ne =
      let w : LineWords = record { name = m.name; ends = record { from = a; to = a }; value = v } in
      ap (λ o. or_else (value_at o m.name k) (given_value false more m.name k)) (g.says a v l e).word
      ∙ ap (λ o. or_else o (given_value false more m.name k)) (value_other false w m.name k (λ p q r. ne (omega (arith, q, r))))

  here_given : (a : ℕ) (o : Option ℕ) (more : List (List ℕ)) → a < count → word a ≡ o → given_value false more m.name a ≡ None
      → given_value false (line_at line a o ++ more) m.name a ≡ o
  unfolding given_value
  here_given a None more l e f = f
  here_given a (Some v) more l e f =
      let w : LineWords = record { name = m.name; ends = record { from = a; to = a }; value = v } in
      ap (λ o. or_else (value_at o m.name a) (given_value false more m.name a)) (g.says a v l e).word
      ∙ ap (λ o. or_else o (given_value false more m.name a)) (value_same false w m.name a refl (omega arith) (omega arith))

  -- nothing is given to an address before
  none_before : (a n k : ℕ) → a + n ≤ count → k < a → given_value false (lines_from line word a n) m.name k ≡ None
  unfolding given_value
  none_before a zero k h l = refl
  none_before a (suc n) k h l =
      line_given a k (word a) _ (omega (arith, h)) refl (λ e. omega (arith, l, e)) ∙ none_before (a + 1) n k (omega (arith, h)) (omega (arith, l))

  word_given : (a n k : ℕ) → a + n ≤ count → a ≤ k → k < a + n → given_value false (lines_from line word a n) m.name k ≡ word k
  word_given a zero k h l r = absurd (omega (arith, l, r))
  word_given a (suc n) k h l r = elim (cases_order k a) [
    | inl e ↦
        let P : ℕ → Type 0 = λ i. given_value false (lines_from line word a (suc n)) m.name i ≡ word i in
        subst P (sym e) (here_given a (word a) _ (omega (arith, h)) refl (none_before (a + 1) n a (omega (arith, h)) (omega arith)))
    | inr o ↦ elim o [
      | inl b ↦ absurd (omega (arith, b, l))
      | inr b ↦
          line_given a k (word a) _ (omega (arith, h)) refl (λ e. absurd (omega (arith, b, e)))
          ∙ word_given (a + 1) n k (omega (arith, h)) (omega (arith, b)) (omega (arith, r))
    ]
  ]

  -- ---- no line breaks a rule

  rule_none : (before : List (List ℕ)) (a v : ℕ) → a < m.depth → v < 2 ^ m.width → given_value false before m.name a ≡ None
      → broken_in false before (record { name = m.name; ends = record { from = a; to = a }; value = v }) (Some m) ≡ None
  rule_none before a v l s e =
      let size : a + 1 - a ≡ 1 = omega arith in
      rw (lt-leb m.depth a l, lt-leb (2 ^ m.width) v s, le-ltb a a (omega arith), size, add-zero, e) refl

  line_right : (before : List (List ℕ)) (a v : ℕ) → a < count → word a ≡ Some v → given_value false before m.name a ≡ None
      → broken_rule false (m ∷ []) before (line a v) ≡ None
  unfolding broken_rule
  line_right before a v l e f =
      let w : LineWords = record { name = m.name; ends = record { from = a; to = a }; value = v } in
      let s = g.says a v l e in
      let here : mem_of (m ∷ []) m.name ≡ Some m = ap (λ b. cond b (Some m) None) ((bytes_eq-Decides m.name m.name).1 refl) in
      ap (λ b. cond b None (broken_by false (m ∷ []) before (words_in false (line a v)))) s.said
      ∙ ap (broken_by false (m ∷ []) before) s.word ∙ ap (broken_in false before w) here
      ∙ rule_none before a v (g.fits a v l e).0 (g.fits a v l e).1 f

  -- a line more gives nothing to a later address
  later_free : (before : List (List ℕ)) (a v k : ℕ) → a < count → word a ≡ Some v → a < k
      → given_value false before m.name k ≡ None → given_value false (before ++ line a v ∷ []) m.name k ≡ None
  later_free before a v k l e h f =
      let w : LineWords = record { name = m.name; ends = record { from = a; to = a }; value = v } in
      given_push false before (line a v) m.name k ∙ ap (λ o. or_else o (value_at (words_in false (line a v)) m.name k)) f
      ∙ ap (λ o. value_at o m.name k) (g.says a v l e).word ∙ value_other false w m.name k (λ p q r. omega (arith, h, r))

  abbrev Free : ℕ → List (List ℕ) → Type 0
  Free a before = (k : ℕ) → a ≤ k → given_value false before m.name k ≡ None

  none_after : (before : List (List ℕ)) (number a : ℕ) (o : Option ℕ) (more : List (List ℕ)) → a < count → word a ≡ o → Free a before
      → ((b : List (List ℕ)) (i : ℕ) → Free (a + 1) b → first_wrong false (m ∷ []) b i more ≡ None)
      → first_wrong false (m ∷ []) before number (line_at line a o ++ more) ≡ None
  unfolding first_wrong
  none_after before number a None more l e free later = later before number (λ k h. free k (omega (arith, h)))
  none_after before number a (Some v) more l e free later =
      ap (λ r. at_line number r (first_wrong false (m ∷ []) (before ++ line a v ∷ []) (number + 1) more)) (line_right before a v l e (free a (omega arith)))
      ∙ later (before ++ line a v ∷ []) (number + 1) (λ k h. later_free before a v k l e (omega (arith, h)) (free k (omega (arith, h))))

  none_wrong : (a n : ℕ) → a + n ≤ count → (before : List (List ℕ)) (number : ℕ) → Free a before
      → first_wrong false (m ∷ []) before number (lines_from line word a n) ≡ None
  unfolding first_wrong
  none_wrong a zero h before number free = refl
  none_wrong a (suc n) h before number free =
      none_after before number a (word a) (lines_from line word (a + 1) n) (omega (arith, h)) refl free (none_wrong (a + 1) n (omega (arith, h)))

  nothing_before : (k : ℕ) → given_value false [] m.name k ≡ None
  unfolding given_value
  nothing_before k = refl

  words_same : m.depth ≤ count → words_of false (lines_from line word 0 count) m ≡ map (λ k. unwrap_or (word k) 0) (range_with_len 0 m.depth)
  words_same h = map_same _ _ (range_with_len 0 m.depth) (λ k d l.
      let a : ℕ = get_or (range_with_len 0 m.depth) k d in
      let r : k < m.depth = omega (arith, l, length-range_with_len 0 m.depth) in
      let e : a ≡ k = get_or-range_with_len 0 m.depth k d r ∙ zero-add k in
      ap (λ o. unwrap_or o 0) (word_given 0 count a (omega arith) (omega arith) (omega (arith, e, r, h))))

  -- read as the image of the memory, the texts after the first line give it the words, and 0 where there is none
  pub read_back : m.depth ≤ count
      → image (m ∷ []) (codes "image 1\n" ++ flat_map (λ k. text k (word k)) (range_with_len 0 count))
      ≡ Ok (map (λ k. unwrap_or (word k) 0) (range_with_len 0 m.depth) ∷ [])
  unfolding image
  read_back h =
      let rest : List ℕ = flat_map (λ k. text k (word k)) (range_with_len 0 count) in
      let first : lines (codes "image 1\n" ++ rest) ≡ codes "image 1" ∷ lines rest =
      lines_at_feed (codes "image 1") rest (refl, (refl, (refl, (refl, (refl, (refl, (refl, tt))))))) in
      ap (λ ls. image_after (m ∷ []) (after_header ls)) first
      ∙ ap (λ ls. contents false (m ∷ []) ls (first_wrong false (m ∷ []) [] 2 ls)) (all_lines 0 count (omega arith))
      ∙ ap (contents false (m ∷ []) (lines_from line word 0 count)) (none_wrong 0 count (omega arith) [] 2 (λ k l. nothing_before k))
      ∙ ap (λ ws. Ok (ws ∷ [])) (words_same h)
