-- A whole image: its answer from what its lines give, and its shape.
use Rattle.std.proofs.Common.{◌≡◌, ◌≢◌, ℕ, ◌+◌, ◌^◌, ◌<◌, ◌≤◌, refl, sym, ◌∙◌, ap, subst, arith, inl, inr, Bool, true, false, cond, ◌&&◌, eqb, leb, zero-add, List, [], ◌∷◌, ◌++◌, length, map, get_or, Option, Some, None, unwrap_or, Result, Ok, Err}
use Rattle.std.specs.List.{range_with_len, AllPairs, position_or_len, slice_get}
use Rattle.std.specs.Str.{bytes_eq}
use Rattle.std.proofs.lemmas.Bool.{and_parts, false_from_ne_true, leb-false, cases_Bool, cases_lt}
use Rattle.std.proofs.lemmas.List.Folds.{find_at}
use Rattle.std.proofs.lemmas.List.Sums.{position_or_len_is}
use Rattle.std.proofs.lemmas.Nat.{pow_pos}
use Rattle.std.proofs.lemmas.Option.{slice_get-get_or}
use Rattle.std.proofs.lemmas.Simd.{map-map}
use Rattle.std.proofs.lemmas.Slice.Eq.{bytes_eq-Decides}
use Rattle.std.proofs.lemmas.List.{get_or-map, length-map, get_or_past}
use Rattle.std.proofs.lemmas.List.FromFn.{length-map-range_with_len, get_or-map-range_with_len}
use Rattle.pdl_kit.specs.declared.mem_info.MemInfo.{MemInfo}
use Rattle.pdl_kit.specs.declared.rule.Rule.{Rule}
use Rattle.pdl_kit.specs.declared.rule.Rule.TheVariants.{I1}
use Rattle.pdl_image.specs.Lines.{lines}
use Rattle.pdl_image.specs.Images.{image, image_after, contents, after_header, first_wrong, at_line, words_of, given_value, or_else, value_at, broken_rule, broken_by, broken_in, mem_of, says_nothing, words_in, LineWords, IsRefusal, IsImage}
use Rattle.pdl_image.specs.Slots.{slots_of, all_slots}
use Rattle.pdl_image.proofs.MapSet.{map_same}
use Rattle.pdl_image.proofs.LineSteps.{nothing_given, middle_passes}
use Rattle.pdl_image.specs.declared.file_error.FileError.{FileError}
use Rattle.pdl_image.specs.declared.file_error.FileError.TheVariants.{Refused, NoMemory}

-- a text whose first line is not `image 1` or `image 2` is refused by I1 at line 1
pub no_header : (mems : List MemInfo) (text : List ℕ) → after_header (lines text) ≡ None → image mems text ≡ Err (Refused I1 1)
unfolding image
no_header mems text e = ap (image_after mems) e

-- a text that begins as an image is refused as the first wrong line after that is
pub wrong_line : (mems : List MemInfo) (text : List ℕ) (ranged : Bool) (rest : List (List ℕ)) (refusal : FileError)
    → after_header (lines text) ≡ Some (ranged, rest) → first_wrong ranged mems [] 2 rest ≡ Some refusal → image mems text ≡ Err refusal
unfolding image
wrong_line mems text ranged rest refusal e f = ap (image_after mems) e ∙ ap (contents ranged mems rest) f

-- an error that is the meant answer is the refusal that is meant
pub refusal_of : {T : Type 0} (meant : Result T FileError) (refusal : FileError) → meant ≡ Err refusal → IsRefusal meant refusal
refusal_of meant (Refused rule line) e = e
refusal_of meant NoMemory e = tt

module _ (ranged : Bool) where
  -- the words of slots
  words_row : (rest : List (List ℕ)) (m : MemInfo) → map (λ o. unwrap_or o 0) (slots_of ranged rest m) ≡ words_of ranged rest m
  unfolding slots_of
  words_row rest m = map-map (λ o. unwrap_or o 0) (given_value ranged rest m.name) (range_with_len 0 m.depth)

  words_all : (mems : List MemInfo) (rest : List (List ℕ))
      → map (λ row. map (λ o. unwrap_or o 0) row) (all_slots ranged mems rest) ≡ map (words_of ranged rest) mems
  unfolding all_slots
  words_all mems rest =
      map-map (λ row. map (λ o. unwrap_or o 0) row) (slots_of ranged rest) mems ∙ map_same _ _ mems (λ k d l. words_row rest (get_or mems k d))

  -- a text without a wrong line gives the words of its slots, and 0 where a slot has none
  pub image_read : (mems : List MemInfo) (text : List ℕ) (rest : List (List ℕ)) (slots : List (List (Option ℕ)))
      → after_header (lines text) ≡ Some (ranged, rest) → first_wrong ranged mems [] 2 rest ≡ None → slots ≡ all_slots ranged mems rest
      → image mems text ≡ Ok (map (λ row. map (λ o. unwrap_or o 0) row) slots)
  unfolding image
  image_read mems text rest slots e f g =
      ap (image_after mems) e ∙ ap (contents ranged mems rest) f ∙ ap Ok (sym (ap (map (λ row. map (λ o. unwrap_or o 0) row)) g ∙ words_all mems rest))

  -- ---- the shape of an image that was read

  at_none : (number : ℕ) (o : Option Rule) (later : Option FileError) → at_line number o later ≡ None → (o ≡ None) × (later ≡ None)
  at_none number None later e = (refl, e)
  at_none number (Some rule) later e = cc

  or_small : (x y : Option ℕ) (n : ℕ) → ((v : ℕ) → x ≡ Some v → v < n) → unwrap_or y 0 < n → unwrap_or (or_else x y) 0 < n
  or_small None y n h k = k
  or_small (Some v) y n h k = h v refl

  value_if : (b : Bool) (w : LineWords) (v : ℕ) → cond b (Some w.value) None ≡ Some v → (b ≡ true) × (w.value ≡ v)
  value_if true w v e = (refl, cc)
  value_if false w v e = cc

  -- each memory is the first of its name
  find_self : (mems : List MemInfo) (k : ℕ) (d : MemInfo) → AllPairs (λ a b. a.name ≢ b.name) mems
      → k < length mems → mem_of mems (get_or mems k d).name ≡ Some (get_or mems k d)
  find_self mems k d distinct l =
      let m : MemInfo = get_or mems k d in
      let p : MemInfo → Bool = λ n. bytes_eq n.name m.name in
      let e : position_or_len p mems ≡ k =
      position_or_len_is p mems k d (omega arith)
      (λ j h. false_from_ne_true _ (λ t. distinct j k d h l ((bytes_eq-Decides _ _).0 t)))
      (λ h. (bytes_eq-Decides m.name m.name).1 refl) in
      find_at p mems ∙ ap (slice_get mems) e ∙ slice_get-get_or mems k d l

  -- a right line's value fits its memory
  line_small : (mems : List MemInfo) (before : List (List ℕ)) (line : List ℕ) (m : MemInfo) (o : Option LineWords) (address v : ℕ)
      → broken_by ranged mems before o ≡ None → mem_of mems m.name ≡ Some m → value_at o m.name address ≡ Some v → v < 2 ^ m.width
  line_small mems before line m None address v b e f = cc
  line_small mems before line m (Some w) address v b e f =
      let g = value_if (bytes_eq w.name m.name && (leb w.ends.from address && leb address w.ends.to)) w v f in
      let n : w.name ≡ m.name = (bytes_eq-Decides w.name m.name).0 (and_parts _ _ g.0).0 in
      let c : broken_in ranged before w (mem_of mems w.name) ≡ broken_in ranged before w (Some m) =
      ap (λ k. broken_in ranged before w (mem_of mems k)) n ∙ ap (broken_in ranged before w) e in
      let h = middle_passes ranged _ _ _ _ (sym c ∙ b) in
      omega (arith, leb-false (2 ^ m.width) w.value h, g.1)

  said_small : (mems : List MemInfo) (before : List (List ℕ)) (line : List ℕ) (m : MemInfo) (address v : ℕ)
      → broken_rule ranged mems before line ≡ None → mem_of mems m.name ≡ Some m → value_at (words_in ranged line) m.name address ≡ Some v → v < 2 ^ m.width
  unfolding broken_rule
  said_small mems before line m address v b f h = elim (cases_Bool (says_nothing line)) [
    | inl t ↦
        let k : None ≡ Some v = sym (ap (λ o. value_at o m.name address) (nothing_given ranged line t)) ∙ h in
        cc
    | inr t ↦
        let k : broken_by ranged mems before (words_in ranged line) ≡ None = rw t at b in
        line_small mems before line m (words_in ranged line) address v k f h
  ]

  values_small : (mems : List MemInfo) (rest before : List (List ℕ)) (number : ℕ) (m : MemInfo) (address : ℕ)
      → first_wrong ranged mems before number rest ≡ None → mem_of mems m.name ≡ Some m
      → unwrap_or (given_value ranged rest m.name address) 0 < 2 ^ m.width
  unfolding first_wrong given_value
  values_small mems [] before number m address e f = pow_pos m.width
  values_small mems (line ∷ more) before number m address e f =
      let g = at_none number (broken_rule ranged mems before line) _ e in
      or_small (value_at (words_in ranged line) m.name address) _ _ (λ v h. said_small mems before line m address v g.0 f h)
      (values_small mems more (before ++ line ∷ []) (number + 1) m address g.1 f)

  word_small : (mems : List MemInfo) (rest : List (List ℕ)) (m : MemInfo) (a : ℕ)
      → first_wrong ranged mems [] 2 rest ≡ None → mem_of mems m.name ≡ Some m → get_or (words_of ranged rest m) a 0 < 2 ^ m.width
  word_small mems rest m a e f = elim (cases_lt a m.depth) [
    | inl h ↦
        let P : ℕ → Type 0 = λ n. n < 2 ^ m.width in
        subst P (sym (get_or-map-range_with_len (λ k. unwrap_or (given_value ranged rest m.name k) 0) 0 m.depth a a 0 h (zero-add a)))
        (values_small mems rest [] 2 m a e f)
    | inr h ↦
        let P : ℕ → Type 0 = λ n. n < 2 ^ m.width in
        let k : length (words_of ranged rest m) ≤ a = omega (arith, length-map-range_with_len (λ k. unwrap_or (given_value ranged rest m.name k) 0) 0 m.depth) in
        subst P (sym (get_or_past (words_of ranged rest m) a 0 k)) (pow_pos m.width)
  ]

  image_shape : (mems : List MemInfo) (rest : List (List ℕ)) → AllPairs (λ a b. a.name ≢ b.name) mems
      → first_wrong ranged mems [] 2 rest ≡ None → IsImage mems (map (words_of ranged rest) mems)
  image_shape mems rest distinct e =
      let row = λ (m : ℕ) (d : MemInfo) (l : m < length mems). get_or-map (words_of ranged rest) mems m d [] l in
      record {
        count = length-map mems (words_of ranged rest);
        depth = λ m d l. ap length (row m d l) ∙ length-map-range_with_len _ 0 _;
        width = λ m d l a.
            let P : List ℕ → Type 0 = λ r. get_or r a 0 < 2 ^ (get_or mems m d).width in
            subst P (sym (row m d l)) (word_small mems rest (get_or mems m d) a e (find_self mems m d distinct l));
      }

  -- where no line is wrong and names differ, the words of the slots are an image for the memories
  pub whole : (mems : List MemInfo) (rest : List (List ℕ)) (slots : List (List (Option ℕ))) (words : List (List ℕ))
      → AllPairs (λ a b. a.name ≢ b.name) mems → first_wrong ranged mems [] 2 rest ≡ None → slots ≡ all_slots ranged mems rest
      → words ≡ map (λ row. map (λ o. unwrap_or o 0) row) slots → IsImage mems words
  whole mems rest slots words distinct e f g =
      let P : List (List ℕ) → Type 0 = λ w. IsImage mems w in
      subst P (sym (g ∙ ap (map (λ row. map (λ o. unwrap_or o 0) row)) f ∙ words_all mems rest)) (image_shape mems rest distinct e)
