-- What a line gives, from its parts between spaces.
use Rattle.std.proofs.Common.{◌≡◌, ℕ, refl, sym, ◌∙◌, ap, subst, Bool, true, false, cond, ◌&&◌, List, [], ◌∷◌, Option, Some, None, eqb, inl, inr}
use Rattle.std.proofs.lemmas.Bool.{cases_Bool, and_parts, and_left, eqb-true}
use Rattle.std.proofs.lemmas.List.Splits.{slice_split-cons_no, join_with_byte-slice_split}
use Rattle.std.specs.List.{onto_first, join_with_byte, list_all}
use Rattle.std.specs.Str.Parse.{digits_value}
use Rattle.pdl_image.specs.Images.{LineWords, ends_of, fields, with_ends, words_in, words_of_parts, is_name}
use Rattle.pdl_image.specs.declared.word.Ends.{Ends}
use Rattle.pdl_word.specs.Digits.{is_digit_of, are_digits, most_hex}

abbrev words_if : Bool → List ℕ → Option Ends → List ℕ → Option LineWords
words_if b n o v = cond b (with_ends n o (digits_value 16 v)) None

module _ (ranged : Bool) where
  -- a line of one part gives nothing
  pub one_part : (line : List ℕ) → fields line ≡ line ∷ [] → words_in ranged line ≡ None
  unfolding words_in
  one_part line e = rw e refl

  -- a line of two parts gives nothing
  pub two_parts : (line n r : List ℕ) → fields line ≡ n ∷ fields r → fields r ≡ r ∷ [] → words_in ranged line ≡ None
  unfolding words_in
  two_parts line n r e f = rw (e, f) refl

  second_fails : (w : Option LineWords) (x z : Bool) → z ≡ false → cond (x && z) w None ≡ None
  second_fails w true z e = rw e refl
  second_fails w false z e = refl

  -- a text that is no number gives nothing, whether or not a space stands in it
  not_value : (n a v : List ℕ) (ps : List (List ℕ))
      → join_with_byte 32 ps ≡ v → are_digits 16 most_hex v ≡ false → words_of_parts ranged (n ∷ a ∷ ps) ≡ None
  not_value n a v [] j f = refl
  not_value n a v (p ∷ []) j f =
      let P : List ℕ → Type 0 = λ q. are_digits 16 most_hex q ≡ false in
      second_fails _ (is_name n) (are_digits 16 most_hex p) (subst P (sym j) f)
  not_value n a v (p ∷ q ∷ ps) j f = refl

  digit_no_space : (c : ℕ) → is_digit_of 16 c ≡ true → eqb c 32 ≡ false
  digit_no_space c h = elim (cases_Bool (eqb c 32)) [
    | inl t ↦
        let P : ℕ → Type 0 = λ k. is_digit_of 16 k ≡ true in
        let f : false ≡ true = subst P (eqb-true c 32 t) h in
        cc
    | inr f ↦ f
  ]

  -- digits hold no space
  no_space : (ds : List ℕ) → list_all (is_digit_of 16) ds ≡ true → fields ds ≡ ds ∷ []
  unfolding fields
  no_space [] h = refl
  no_space (d ∷ ds) h =
      let f = and_parts (is_digit_of 16 d) (list_all (is_digit_of 16) ds) h in
      slice_split-cons_no (λ c. eqb c 32) d ds (digit_no_space d f.0) ∙ ap (onto_first d) (no_space ds f.1)

  three_parts : (n a v : List ℕ)
      → words_of_parts ranged (n ∷ a ∷ fields v) ≡ words_if (is_name n && are_digits 16 most_hex v) n (ends_of ranged a) v
  unfolding fields
  three_parts n a v = elim (cases_Bool (list_all (is_digit_of 16) v)) [
    | inl t ↦ ap (λ ps. words_of_parts ranged (n ∷ a ∷ ps)) (no_space v t)
    | inr f ↦
        let e : are_digits 16 most_hex v ≡ false = and_left _ _ f in
        not_value n a v (fields v) (join_with_byte-slice_split 32 v) e ∙ sym (second_fails _ (is_name n) (are_digits 16 most_hex v) e)
  ]

  words_from : (line n r a v : List ℕ) → fields line ≡ n ∷ fields r → fields r ≡ a ∷ fields v
      → words_in ranged line ≡ words_if (is_name n && are_digits 16 most_hex v) n (ends_of ranged a) v
  unfolding words_in
  words_from line n r a v e f = rw (e, f) (three_parts n a v)

  -- a line whose first part is no name gives nothing
  pub no_name : (line n r a v : List ℕ) → fields line ≡ n ∷ fields r → fields r ≡ a ∷ fields v → is_name n ≡ false → words_in ranged line ≡ None
  no_name line n r a v e f h = words_from line n r a v e f ∙ rw h refl

  no_ends : (b : Bool) (n v : List ℕ) → words_if b n None v ≡ None
  no_ends true n v = refl
  no_ends false n v = refl

  -- a line whose second part gives no addresses gives nothing
  pub no_address : (line n r a v : List ℕ)
      → fields line ≡ n ∷ fields r → fields r ≡ a ∷ fields v → ends_of ranged a ≡ None → words_in ranged line ≡ None
  no_address line n r a v e f k =
      words_from line n r a v e f ∙ ap (λ o. words_if (is_name n && are_digits 16 most_hex v) n o v) k
      ∙ no_ends (is_name n && are_digits 16 most_hex v) n v

  -- a line that has no such number of hexadecimal digits after its second part gives nothing
  pub no_value : (line n r a v : List ℕ)
      → fields line ≡ n ∷ fields r → fields r ≡ a ∷ fields v → are_digits 16 most_hex v ≡ false → words_in ranged line ≡ None
  no_value line n r a v e f k = words_from line n r a v e f ∙ second_fails _ (is_name n) (are_digits 16 most_hex v) k

  -- a line of a name, addresses and a value gives them
  pub words_found : (line n r a v : List ℕ) (ends : Ends) (value : ℕ)
      → fields line ≡ n ∷ fields r → fields r ≡ a ∷ fields v → is_name n ≡ true → ends_of ranged a ≡ Some ends
      → are_digits 16 most_hex v ≡ true → value ≡ digits_value 16 v
      → words_in ranged line ≡ Some (record { name = n; ends = ends; value = value })
  words_found line n r a v ends value e f h k l q = words_from line n r a v e f ∙ rw (h, k, l, q) refl
