-- A line taken after those before it.
use Rattle.std.proofs.Common.{◌≡◌, ◌≢◌, ℕ, zero, suc, ◌+◌, ◌-◌, ◌^◌, ◌<◌, ◌≤◌, refl, sym, ◌∙◌, ap, ap₂, subst, arith, inl, inr, Bool, true, false, cond, ◌&&◌, ◌||◌, List, [], ◌∷◌, ◌++◌, length, map, get_or, set, Option, Some, None, eqb, leb, ltb, is_some, zero-add, Result, Ok, Err, MatchResult, OnOk}
use Rattle.std.specs.List.{range_with_len, AllPairs, find, position, position_or_len, slice_split, onto_first}
use Rattle.std.specs.Str.{bytes_eq}
use Rattle.std.proofs.lemmas.Bool.{cases_Bool, cases_lt, cases_order, and_parts, and_from, eqb-true, le-leb, leb-true, leb-false, lt-ltb, ltb-true, ltb-false, false≢true}
use Rattle.std.proofs.lemmas.List.{get_or-map, get_or_default}
use Rattle.std.proofs.lemmas.List.FromFn.{get_or-map-range_with_len, get_or-range_with_len, length-range_with_len, length-map-range_with_len}
use Rattle.std.proofs.lemmas.Slice.Eq.{bytes_eq-Decides}
use Rattle.std.proofs.lemmas.List.Folds.{find_at}
use Rattle.std.proofs.lemmas.List.Sums.{passes_at_first}
use Rattle.std.proofs.lemmas.Option.{slice_get_past, slice_get-get_or}
use Rattle.pdl_kit.specs.declared.mem_info.MemInfo.{MemInfo}
use Rattle.pdl_kit.specs.declared.rule.Rule.{Rule}
use Rattle.pdl_kit.specs.declared.rule.Rule.TheVariants.{I2, I3, I4, I5, I6, I7}
use Rattle.pdl_image.specs.Images.{LineWords, broken_rule, broken_in, given_value, is_any_given, size_of, value_at, words_in, says_nothing, mem_of, fields, words_of_parts, or_else}
use Rattle.pdl_image.specs.declared.word.Ends.{Ends}
use Rattle.pdl_image.specs.Slots.{slots_of, all_slots, IsFor, broken_at, filled, slot_at, Follows}
use Rattle.pdl_image.proofs.Parts.{place_is, none_passes}
use Rattle.pdl_image.proofs.MapSet.{map_same, map_set}

-- there are as many lists of slots as memories
pub as_many : (mems : List MemInfo) (slots : List (List (Option ℕ))) → IsFor mems slots → length slots ≡ length mems
unfolding IsFor
as_many [] [] h = refl
as_many [] (row ∷ slots) h = absurd h
as_many (m ∷ mems) [] h = absurd h
as_many (m ∷ mems) (row ∷ slots) h = ap suc (as_many mems slots h.1)

-- a memory has as many slots as words
pub as_deep : (mems : List MemInfo) (slots : List (List (Option ℕ))) (place : ℕ) (m : MemInfo) (row : List (Option ℕ))
    → IsFor mems slots → place < length mems → length (get_or slots place row) ≡ (get_or mems place m).depth
unfolding IsFor
as_deep [] slots place m row h l = absurd (omega arith)
as_deep (n ∷ mems) [] place m row h l = absurd h
as_deep (n ∷ mems) (r ∷ slots) zero m row h l = h.0
as_deep (n ∷ mems) (r ∷ slots) (suc place) m row h l = as_deep mems slots place m row h.1 (omega arith)

-- with nothing after it, what is there or missing stays so
pub or_else_none : (o : Option ℕ) → or_else o None ≡ o
or_else_none None = refl
or_else_none (Some v) = refl

-- the first of three that is there is the same, whichever two are looked at first
pub or_else_assoc : (o p q : Option ℕ) → or_else o (or_else p q) ≡ or_else (or_else o p) q
or_else_assoc None p q = refl
or_else_assoc (Some v) p q = refl

module _ (ranged : Bool) where
  -- the slots of what lines give are for the memories
  pub slots_fit : (mems : List MemInfo) (before : List (List ℕ)) → IsFor mems (all_slots ranged mems before)
  unfolding IsFor all_slots slots_of
  slots_fit [] before = tt
  slots_fit (m ∷ mems) before = (length-map-range_with_len _ 0 m.depth, slots_fit mems before)

  -- an empty line or a comment gives nothing
  slashes : (ps : List (List ℕ)) → words_of_parts ranged (onto_first 47 (onto_first 47 ps)) ≡ None
  slashes [] = refl
  slashes (p ∷ []) = refl
  slashes (p ∷ q ∷ []) = refl
  slashes (p ∷ q ∷ r ∷ []) = refl
  slashes (p ∷ q ∷ r ∷ s ∷ ss) = refl

  comment_given : (c d : ℕ) (more : List ℕ) → c ≡ 47 → d ≡ 47 → words_in ranged (c ∷ d ∷ more) ≡ None
  unfolding words_in fields
  comment_given c d more e f = rw (e, f) (slashes (slice_split (λ k. eqb k 32) more))

  -- a line that says nothing gives no words
  pub nothing_given : (line : List ℕ) → says_nothing line ≡ true → words_in ranged line ≡ None
  unfolding words_in fields
  nothing_given [] h = refl
  nothing_given (c ∷ []) h = cc
  nothing_given (c ∷ d ∷ more) h =
      let f = and_parts (eqb c 47) (eqb d 47) h in
      comment_given c d more (eqb-true c 47 f.0) (eqb-true d 47 f.1)

  -- the value that an address is given is that of the lines before, else that of the line after them
  pub given_push : (before : List (List ℕ)) (line name : List ℕ) (address : ℕ)
      → given_value ranged (before ++ line ∷ []) name address ≡ or_else (given_value ranged before name address) (value_at (words_in ranged line) name address)
  unfolding given_value
  given_push [] line name address = or_else_none (value_at (words_in ranged line) name address)
  given_push (l ∷ ls) line name address =
      ap (or_else (value_at (words_in ranged l) name address)) (given_push ls line name address)
      ∙ or_else_assoc (value_at (words_in ranged l) name address) (given_value ranged ls name address) (value_at (words_in ranged line) name address)

  -- where a line gives nothing, what was given stays
  kept : (before : List (List ℕ)) (line name : List ℕ) (address : ℕ)
      → value_at (words_in ranged line) name address ≡ None
      → given_value ranged before name address ≡ given_value ranged (before ++ line ∷ []) name address
  kept before line name address e =
      sym (given_push before line name address ∙ ap (or_else (given_value ranged before name address)) e ∙ or_else_none (given_value ranged before name address))

  range_at : (n i d : ℕ) → i < n → get_or (range_with_len 0 n) i d ≡ i
  range_at n i d h = get_or-range_with_len 0 n i d h ∙ zero-add i

  none_row : (before : List (List ℕ)) (line : List ℕ) (m : MemInfo)
      → words_in ranged line ≡ None → slots_of ranged before m ≡ slots_of ranged (before ++ line ∷ []) m
  unfolding slots_of
  none_row before line m e = map_same _ _ (range_with_len 0 m.depth) (λ k d l.
      let a : ℕ = get_or (range_with_len 0 m.depth) k d in
      kept before line m.name a (ap (λ w. value_at w m.name a) e))

  -- a line that says nothing breaks no rule and leaves the slots as they are
  pub nothing_taken : (mems : List MemInfo) (before : List (List ℕ)) (line : List ℕ) (slots : List (List (Option ℕ)))
      → says_nothing line ≡ true → slots ≡ all_slots ranged mems before
      → (broken_rule ranged mems before line ≡ None) × (slots ≡ all_slots ranged mems (before ++ line ∷ []))
  unfolding broken_rule all_slots
  nothing_taken mems before line slots h e =
      (rw h refl, e ∙ map_same _ _ mems (λ k d l. none_row before line (get_or mems k d) (nothing_given line h)))

  -- a line that says something but gives no word breaks I2
  pub no_form : (mems : List MemInfo) (before : List (List ℕ)) (line : List ℕ)
      → says_nothing line ≡ false → words_in ranged line ≡ None → broken_rule ranged mems before line ≡ Some I2
  unfolding broken_rule
  no_form mems before line h e = rw (h, e) refl

  -- a word of a memory that isn't there
  find_none : (p : MemInfo → Bool) (mems : List MemInfo) → position p mems ≡ None → find p mems ≡ None
  find_none p mems e = find_at p mems ∙ slice_get_past mems _ (none_passes p mems e)

  -- a line that gives a word of a memory which is not there breaks I3
  pub no_memory : (mems : List MemInfo) (before : List (List ℕ)) (line : List ℕ) (w : LineWords)
      → says_nothing line ≡ false → words_in ranged line ≡ Some w → position (λ m. bytes_eq m.name w.name) mems ≡ None
      → broken_rule ranged mems before line ≡ Some I3
  unfolding broken_rule
  no_memory mems before line w h e f = rw (h, e, find_none _ mems f) refl

  -- what a memory was given, and what the slots have
  find_some : (p : MemInfo → Bool) (mems : List MemInfo) (place : ℕ) (m : MemInfo)
      → position p mems ≡ Some place → m ≡ get_or mems place m → (find p mems ≡ Some m) × (p m ≡ true)
  find_some p mems place m e f =
      let h = place_is p mems place e in
      let l : position_or_len p mems < length mems = subst (λ n. n < length mems) (sym h.0) h.1 in
      let at : get_or mems (position_or_len p mems) m ≡ m = ap (λ n. get_or mems n m) h.0 ∙ sym f in
      let P : MemInfo → Type 0 = λ n. p n ≡ true in
      (find_at p mems ∙ slice_get-get_or mems _ m l ∙ ap Some at, subst P at (passes_at_first p mems m l))

  row_at : (before : List (List ℕ)) (m : MemInfo) (address : ℕ)
      → address < m.depth → get_or (slots_of ranged before m) address None ≡ given_value ranged before m.name address
  unfolding slots_of
  row_at before m address h = get_or-map-range_with_len _ 0 m.depth address address None h (omega arith)

  -- some of n addresses has a value by one or by another account of them, where these agree on all of them
  any_same : (f g : ℕ → Option ℕ) (from n : ℕ) → ((k : ℕ) → k < n → f (from + k) ≡ g (from + k))
      → is_any_given f from n ≡ is_any_given g from n
  any_same f g from zero h = refl
  any_same f g from (suc n) h =
      ap₂ (λ b o. b || is_some o) (any_same f g from n (λ k l. h k (omega (arith, l)))) (h n (omega arith))

  -- where none of n addresses has a value, one of them has none
  none_given : (f : ℕ → Option ℕ) (from n k : ℕ) → is_any_given f from n ≡ false → k < n → f (from + k) ≡ None
  none_given f from zero k e l = absurd (omega (arith, l))
  none_given f from (suc n) k e l = elim (cases_order k n) [
    | inl here ↦
        let P : ℕ → Type 0 = λ i. f (from + i) ≡ None in
        subst P (sym here) (not_some (f (from + n)) (or_right_false _ _ e))
    | inr o ↦ elim o [
      | inl b ↦ none_given f from n k (or_left_false _ _ e) b
      | inr b ↦ absurd (omega (arith, b, l))
    ]
  ]
    where
      not_some : (o : Option ℕ) → is_some o ≡ false → o ≡ None
      not_some None h = refl
      not_some (Some v) h = cc

      or_left_false : (a b : Bool) → (a || b) ≡ false → a ≡ false
      or_left_false true b h = cc
      or_left_false false b h = refl

      or_right_false : (a b : Bool) → (a || b) ≡ false → b ≡ false
      or_right_false true b h = cc
      or_right_false false b h = h

  -- the rule that is broken of those that stand after I5
  abbrev late_rule : Bool → Bool → Option Rule
  late_rule backwards given = cond backwards (Some I7) (cond given (Some I6) None)

  broken_words : (before : List (List ℕ)) (m : MemInfo) (w : LineWords)
      → m.name ≡ w.name → broken_in ranged before w (Some m) ≡ broken_at m (slots_of ranged before m) w.ends w.value
  unfolding broken_at
  broken_words before m w e = elim (cases_Bool (leb m.depth w.ends.from || leb m.depth w.ends.to)) [
    | inl t ↦ rw t refl
    | inr f ↦
        let to : w.ends.to < m.depth = leb-false m.depth w.ends.to (or_second _ _ f) in
        let same : is_any_given (given_value ranged before w.name) w.ends.from (size_of w.ends)
        ≡ is_any_given (slot_at (slots_of ranged before m)) w.ends.from (size_of w.ends) =
        any_same (given_value ranged before w.name) (slot_at (slots_of ranged before m)) w.ends.from (size_of w.ends) (λ k l.
        ap (λ n. given_value ranged before n (w.ends.from + k)) (sym e) ∙ sym (row_at before m (w.ends.from + k) (omega (arith, to, l)))) in
        ap (λ b. cond (leb m.depth w.ends.from || leb m.depth w.ends.to) (Some I4)
        (cond (leb (2 ^ m.width) w.value) (Some I5) (late_rule (ltb w.ends.to w.ends.from) b))) same
  ]
    where
      or_second : (a b : Bool) → (a || b) ≡ false → b ≡ false
      or_second true b h = cc
      or_second false b h = h

  -- what a line gives has its value at each address from the one end to the other
  pub value_same : (w : LineWords) (name : List ℕ) (address : ℕ)
      → name ≡ w.name → w.ends.from ≤ address → address ≤ w.ends.to → value_at (Some w) name address ≡ Some w.value
  value_same w name address e l h =
      let t : bytes_eq w.name name ≡ true = (bytes_eq-Decides w.name name).1 (sym e) in
      rw (t, le-leb w.ends.from address l, le-leb address w.ends.to h) refl

  -- what a line gives has no value for another memory or another address
  pub value_other : (w : LineWords) (name : List ℕ) (address : ℕ)
      → (name ≡ w.name → w.ends.from ≤ address → address ≤ w.ends.to → ⊥) → value_at (Some w) name address ≡ None
  value_other w name address no_way = elim (cases_Bool (bytes_eq w.name name && (leb w.ends.from address && leb address w.ends.to))) [
    | inl t ↦
        let f = and_parts (bytes_eq w.name name) _ t in
        let g = and_parts (leb w.ends.from address) (leb address w.ends.to) f.1 in
        absurd (no_way (sym ((bytes_eq-Decides w.name name).0 f.0)) (leb-true w.ends.from address g.0) (leb-true address w.ends.to g.1))
    | inr f ↦ rw f refl
  ]

  -- what is known where no rule is broken
  all_pass : (a b c d : Bool) → cond a (Some I4) (cond b (Some I5) (late_rule c d)) ≡ None
      → (a ≡ false) × (b ≡ false) × (c ≡ false) × (d ≡ false)
  all_pass true b c d e = cc
  all_pass false true c d e = cc
  all_pass false false true d e = cc
  all_pass false false false true e = cc
  all_pass false false false false e = (refl, refl, refl, refl)

  -- where none of I4 to I7 is broken, the condition of I5 does not hold
  pub middle_passes : (a b c d : Bool) → cond a (Some I4) (cond b (Some I5) (cond c (Some I7) (cond d (Some I6) None))) ≡ None → b ≡ false
  middle_passes a b c d e = (all_pass a b c d e).1

  -- the ends of a range that breaks no rule
  record IsFree (m : MemInfo) (slots : List (Option ℕ)) (ends : Ends) : Type 0 where
    pub order : ends.from ≤ ends.to
    pub within : ends.to < m.depth
    pub free : (k : ℕ) → k < size_of ends → get_or slots (ends.from + k) None ≡ None

  taken_facts : (m : MemInfo) (slots : List (Option ℕ)) (ends : Ends) (value : ℕ)
      → broken_at m slots ends value ≡ None → IsFree m slots ends
  unfolding broken_at
  taken_facts m slots ends value e =
      let f = all_pass (leb m.depth ends.from || leb m.depth ends.to) (leb (2 ^ m.width) value) (ltb ends.to ends.from)
      (is_any_given (slot_at slots) ends.from (size_of ends)) e in
      record {
        order = ltb-false ends.to ends.from f.2;
        within = leb-false m.depth ends.to (second _ _ f.0);
        free = λ k l. none_given (slot_at slots) ends.from (size_of ends) k f.3 l;
      }
    where
      second : (a b : Bool) → (a || b) ≡ false → b ≡ false
      second true b h = cc
      second false b h = h

  -- where the first n of some addresses have a value, and the others what they had
  abbrev with_first : (ℕ → Option ℕ) → ℕ → ℕ → ℕ → ℕ → Option ℕ
  with_first f from n v a = cond (leb from a && ltb a (from + n)) (Some v) (f a)

  first_in : (f : ℕ → Option ℕ) (from n v a : ℕ) → from ≤ a → a < from + n → with_first f from n v a ≡ Some v
  first_in f from n v a l h = rw (le-leb from a l, lt-ltb a (from + n) h) refl

  first_out : (f : ℕ → Option ℕ) (from n v a : ℕ) → (from ≤ a → a < from + n → ⊥) → with_first f from n v a ≡ f a
  first_out f from n v a no_way = elim (cases_Bool (leb from a && ltb a (from + n))) [
    | inl t ↦ let g = and_parts (leb from a) (ltb a (from + n)) t in absurd (no_way (leb-true from a g.0) (ltb-true a (from + n) g.1))
    | inr f' ↦ rw f' refl
  ]

  -- slots by address, of which n from a place on get a value
  filled_map : (f : ℕ → Option ℕ) (depth from n v : ℕ) → from + n ≤ depth
      → filled (map f (range_with_len 0 depth)) from n v ≡ map (with_first f from n v) (range_with_len 0 depth)
  filled_map f depth from zero v h =
      map_same _ _ (range_with_len 0 depth) (λ k d l. sym (first_out f from 0 v (get_or (range_with_len 0 depth) k d) (λ p q. omega (arith, p, q))))
  filled_map f depth from (suc n) v h =
      ap (λ xs. set xs (from + n) (Some v)) (filled_map f depth from n v (omega (arith, h)))
      ∙ map_set _ _ (range_with_len 0 depth) (from + n) (Some v) (rw length-range_with_len (omega (arith, h)))
      (λ d. let P : ℕ → Type 0 = λ a. Some v ≡ with_first f from (suc n) v a in
      subst P (sym (range_at depth (from + n) d (omega (arith, h)))) (sym (first_in f from (suc n) v (from + n) (omega arith) (omega arith))))
      (λ k d l ne.
      let a : ℕ = get_or (range_with_len 0 depth) k d in
      let e : a ≡ k = range_at depth k d (rw length-range_with_len at l) in
      one_more f from n v a (λ q. ne (sym e ∙ q)))
    where
      one_more : (f : ℕ → Option ℕ) (from n v a : ℕ) → (a ≡ from + n → ⊥) → with_first f from n v a ≡ with_first f from (suc n) v a
      one_more f from n v a ne = elim (cases_lt a from) [
        | inl l ↦ first_out f from n v a (λ p q. omega (arith, l, p)) ∙ sym (first_out f from (suc n) v a (λ p q. omega (arith, l, p)))
        | inr l ↦ elim (cases_lt a (from + n)) [
          | inl h ↦ first_in f from n v a l h ∙ sym (first_in f from (suc n) v a l (omega (arith, h)))
          | inr h ↦
              first_out f from n v a (λ p q. omega (arith, h, q))
              ∙ sym (first_out f from (suc n) v a (λ p q. ne (omega (arith, h, q))))
        ]
      ]

  -- the memory's slots with those of a line's addresses set
  row_set : (before : List (List ℕ)) (line : List ℕ) (w : LineWords) (m : MemInfo)
      → words_in ranged line ≡ Some w → m.name ≡ w.name → IsFree m (slots_of ranged before m) w.ends
      → filled (slots_of ranged before m) w.ends.from (size_of w.ends) w.value ≡ slots_of ranged (before ++ line ∷ []) m
  unfolding slots_of
  row_set before line w m e n free =
      let order = free.order in
      let within = free.within in
      let f : ℕ → Option ℕ = given_value ranged before m.name in
      filled_map f m.depth w.ends.from (size_of w.ends) w.value (omega (arith, order, within))
      ∙ map_same _ _ (range_with_len 0 m.depth) (λ k d l.
      let a : ℕ = get_or (range_with_len 0 m.depth) k d in
      let h : k < m.depth = rw length-range_with_len at l in
      let g : a ≡ k = range_at m.depth k d h in
      at_address a (omega (arith, g, h)))
    where
      at_address : (a : ℕ) → a < m.depth
          → with_first (given_value ranged before m.name) w.ends.from (size_of w.ends) w.value a ≡ given_value ranged (before ++ line ∷ []) m.name a
      at_address a h = elim (cases_Bool (leb w.ends.from a && ltb a (w.ends.from + size_of w.ends))) [
        | inl t ↦
            let g = and_parts (leb w.ends.from a) (ltb a (w.ends.from + size_of w.ends)) t in
            let low : w.ends.from ≤ a = leb-true w.ends.from a g.0 in
            let high : a < w.ends.from + size_of w.ends = ltb-true a (w.ends.from + size_of w.ends) g.1 in
            let order = free.order in
            let k : w.ends.from + (a - w.ends.from) ≡ a = omega (arith, low) in
            let none : given_value ranged before m.name a ≡ None =
            sym (row_at before m a h)
            ∙ ap (λ i. get_or (slots_of ranged before m) i None) (sym k) ∙ free.free (a - w.ends.from) (omega (arith, low, high)) in
            rw t refl
            ∙ sym
            (given_push before line m.name a ∙ ap (λ o. or_else o (value_at (words_in ranged line) m.name a)) none
            ∙ ap (λ o. value_at o m.name a) e ∙ value_same w m.name a n low (omega (arith, low, high, order)))
        | inr t ↦
            rw t refl
            ∙ kept before line m.name a
            (ap (λ o. value_at o m.name a) e
            ∙ value_other w m.name a (λ q low high.
            false≢true (sym t ∙ and_from _ _ (le-leb w.ends.from a low) (lt-ltb a (w.ends.from + size_of w.ends) (omega (arith, low, high))))))
      ]

  -- another memory's slots
  row_other : (before : List (List ℕ)) (line : List ℕ) (w : LineWords) (m : MemInfo)
      → words_in ranged line ≡ Some w → (m.name ≡ w.name → ⊥) → slots_of ranged before m ≡ slots_of ranged (before ++ line ∷ []) m
  unfolding slots_of
  row_other before line w m e ne =
      map_same _ _ (range_with_len 0 m.depth) (λ k d l.
      let a : ℕ = get_or (range_with_len 0 m.depth) k d in
      kept before line m.name a (ap (λ o. value_at o m.name a) e ∙ value_other w m.name a (λ p q r. ne p)))

  -- the names of two places differ
  names_differ : (mems : List MemInfo) (i j : ℕ) (d : MemInfo) → AllPairs (λ a b. a.name ≢ b.name) mems
      → i < length mems → j < length mems → i ≢ j → (get_or mems i d).name ≢ (get_or mems j d).name
  names_differ mems i j d h li lj ne = elim (cases_order i j) [
    | inl e ↦ absurd (ne e)
    | inr o ↦ elim o [ inl l ↦ h i j d l lj | inr l ↦ (λ e. h j i d l li (sym e)) ]
  ]

  -- a line says a word of the memory at a place, whose slots are the row
  pub record IsNamed (mems : List MemInfo) (before : List (List ℕ)) (line : List ℕ) (w : LineWords) (place : ℕ) (m : MemInfo)
      (row : List (Option ℕ)) (slots : List (List (Option ℕ))) : Type 0 where
    pub said : says_nothing line ≡ false
    pub word : words_in ranged line ≡ Some w
    pub found : position (λ k. bytes_eq k.name w.name) mems ≡ Some place
    pub mem : m ≡ get_or mems place m
    pub was : slots ≡ all_slots ranged mems before
    pub here : row ≡ get_or slots place row

  mem_facts : (mems : List MemInfo) (before : List (List ℕ)) (line : List ℕ) (w : LineWords) (place : ℕ) (m : MemInfo)
      (row : List (Option ℕ)) (slots : List (List (Option ℕ)))
      → IsNamed mems before line w place m row slots
      → (place < length mems) × (m.name ≡ w.name) × (row ≡ slots_of ranged before m)
  unfolding all_slots
  mem_facts mems before line w place m row slots f =
      let p : MemInfo → Bool = λ k. bytes_eq k.name w.name in
      let l : place < length mems = (place_is p mems place f.found).1 in
      let n : m.name ≡ w.name = (bytes_eq-Decides m.name w.name).0 (find_some p mems place m f.found f.mem).1 in
      let r : get_or (map (slots_of ranged before) mems) place row ≡ slots_of ranged before (get_or mems place m) = get_or-map (slots_of ranged before) mems place m row l in
      (l, n, f.here ∙ ap (λ s. get_or s place row) f.was ∙ r ∙ ap (slots_of ranged before) (sym f.mem))

  rule_at : (mems : List MemInfo) (before : List (List ℕ)) (line : List ℕ) (w : LineWords) (place : ℕ) (m : MemInfo)
      (row : List (Option ℕ)) (slots : List (List (Option ℕ)))
      → IsNamed mems before line w place m row slots → broken_rule ranged mems before line ≡ broken_at m row w.ends w.value
  unfolding broken_rule
  rule_at mems before line w place m row slots f =
      let g = mem_facts mems before line w place m row slots f in
      let h : mem_of mems w.name ≡ Some m = (find_some (λ k. bytes_eq k.name w.name) mems place m f.found f.mem).0 in
      rw (f.said, f.word) (ap (broken_in ranged before w) h ∙ broken_words before m w g.1 ∙ ap (λ r. broken_at m r w.ends w.value) (sym g.2))

  slots_at : (mems : List MemInfo) (before : List (List ℕ)) (line : List ℕ) (w : LineWords) (place : ℕ) (m : MemInfo)
      (row : List (Option ℕ)) (slots : List (List (Option ℕ)))
      → AllPairs (λ a b. a.name ≢ b.name) mems → IsNamed mems before line w place m row slots
      → broken_at m row w.ends w.value ≡ None
      → set slots place (filled row w.ends.from (size_of w.ends) w.value) ≡ all_slots ranged mems (before ++ line ∷ [])
  unfolding all_slots
  slots_at mems before line w place m row slots distinct f e =
      let g = mem_facts mems before line w place m row slots f in
      let free : IsFree m (slots_of ranged before m) w.ends = subst (λ r. IsFree m r w.ends) g.2 (taken_facts m row w.ends w.value e) in
      let here : filled row w.ends.from (size_of w.ends) w.value ≡ slots_of ranged (before ++ line ∷ []) m =
      ap (λ r. filled r w.ends.from (size_of w.ends) w.value) g.2 ∙ row_set before line w m f.word g.1 free in
      let at = λ (d : MemInfo). f.mem ∙ get_or_default mems place m d g.0 in
      ap (λ s. set s place (filled row w.ends.from (size_of w.ends) w.value)) f.was
      ∙ map_set _ _ mems place (filled row w.ends.from (size_of w.ends) w.value) g.0
      (λ d. here ∙ ap (slots_of ranged (before ++ line ∷ [])) (at d))
      (λ i d l ne. row_other before line w (get_or mems i d) f.word (λ n. names_differ mems i place d distinct l g.0 ne (n ∙ sym g.1 ∙ ap (λ k. k.name) (at d))))

  -- a line that gives a word of a memory which is there breaks the rule that is found, or sets the word's slot
  pub words_follow : (mems : List MemInfo) (before : List (List ℕ)) (line : List ℕ) (w : LineWords) (place : ℕ) (m : MemInfo)
      (row : List (Option ℕ)) (slots : List (List (Option ℕ))) (new : List (Option ℕ)) (result : Result (Unit {0}) Rule)
      → AllPairs (λ a b. a.name ≢ b.name) mems → IsNamed mems before line w place m row slots
      → MatchResult result (λ _. broken_at m row w.ends w.value ≡ None) (λ rule. broken_at m row w.ends w.value ≡ Some rule)
      → OnOk result (new ≡ filled row w.ends.from (size_of w.ends) w.value) → Follows ranged mems before line result (set slots place new)
  words_follow mems before line w place m row slots new (Ok u) distinct f h e =
      (rule_at mems before line w place m row slots f ∙ h, ap (set slots place) e ∙ slots_at mems before line w place m row slots distinct f h)
  words_follow mems before line w place m row slots new (Err rule) distinct f h e = rule_at mems before line w place m row slots f ∙ h
