-- Lines taken one after another.
use Rattle.std.proofs.Common.{◌≡◌, ℕ, suc, Bool, ◌+◌, ◌<◌, refl, sym, ◌∙◌, ap, arith, List, [], ◌∷◌, ◌++◌, length, take, Option, Some, None, map, get_or, replicate, append_assoc, append-nil, length-append}
use Rattle.std.proofs.lemmas.List.{take_more, map-append}
use Rattle.std.proofs.lemmas.List.FromFn.{length-range_with_len}
use Rattle.std.proofs.lemmas.Simd.{splat_is_map}
use Rattle.std.specs.List.{range_with_len}
use Rattle.pdl_kit.specs.declared.mem_info.MemInfo.{MemInfo}
use Rattle.pdl_kit.specs.declared.rule.Rule.{Rule}
use Rattle.pdl_image.specs.Images.{broken_rule, first_wrong, at_line, given_value}
use Rattle.pdl_image.specs.Lines.{lines}
use Rattle.pdl_image.specs.Slots.{slots_of, all_slots}
use Rattle.pdl_image.specs.declared.file_error.FileError.TheVariants.{Refused}

-- an empty text has no lines
pub lines_of_none : (text : List ℕ) → length text ≡ 0 → lines text ≡ []
unfolding lines
lines_of_none [] h = refl
lines_of_none (c ∷ cs) h = absurd (omega arith)

module _ (ranged : Bool) where
  -- so many of all lines are taken, and these are left
  pub record Taken (mems : List MemInfo) (all : List (List ℕ)) (n : ℕ) (left : List (List ℕ)) (slots : List (List (Option ℕ))) : Type 0 where
    pub rest : all ≡ take n all ++ left
    pub many : length (take n all) ≡ n
    pub given : slots ≡ all_slots ranged mems (take n all)
    pub same : first_wrong ranged mems [] 2 all ≡ first_wrong ranged mems (take n all) (n + 2) left

  -- before the first line all lines are left, and the slots are those of no lines
  pub taken_none : (mems : List MemInfo) (all : List (List ℕ)) (slots : List (List (Option ℕ)))
      → slots ≡ all_slots ranged mems [] → Taken mems all 0 all slots
  taken_none mems all slots e = record { rest = refl; many = refl; given = e; same = refl }

  -- where one more is taken
  front_of : (p : List (List ℕ)) (line : List ℕ) (later : List (List ℕ)) → take (suc (length p)) (p ++ line ∷ later) ≡ p ++ line ∷ []
  front_of [] line later = refl
  front_of (q ∷ p) line later = ap (λ xs. q ∷ xs) (front_of p line later)

  front : (all : List (List ℕ)) (n : ℕ) (line : List ℕ) (later : List (List ℕ))
      → all ≡ take n all ++ line ∷ later → length (take n all) ≡ n → take (n + 1) all ≡ take n all ++ line ∷ []
  front all n line later e h =
      let k : n + 1 ≡ suc (length (take n all)) = omega (arith, h) in
      ap (take (n + 1)) e ∙ ap (λ i. take i (take n all ++ line ∷ later)) k ∙ front_of (take n all) line later

  -- what the next line decides
  next_line : (mems : List MemInfo) (before : List (List ℕ)) (number : ℕ) (line : List ℕ) (later : List (List ℕ))
      → first_wrong ranged mems before number (line ∷ later)
      ≡ at_line number (broken_rule ranged mems before line) (first_wrong ranged mems (before ++ line ∷ []) (number + 1) later)
  unfolding first_wrong
  next_line mems before number line later = refl

  -- a line that breaks no rule is taken after those before it, with the slots that it leaves
  pub taken_more : (mems : List MemInfo) (all : List (List ℕ)) (n : ℕ) (left : List (List ℕ)) (line : List ℕ)
      (later : List (List ℕ)) (slots new : List (List (Option ℕ)))
      → Taken mems all n left slots → left ≡ line ∷ later → broken_rule ranged mems (take n all) line ≡ None
      → new ≡ all_slots ranged mems (take n all ++ line ∷ []) → Taken mems all (n + 1) later new
  taken_more mems all n left line later slots new t e b f =
      let whole : all ≡ take n all ++ line ∷ later = t.rest ∙ ap (λ ls. take n all ++ ls) e in
      let g : take (n + 1) all ≡ take n all ++ line ∷ [] = front all n line later whole t.many in
      record {
        rest = whole ∙ sym (ap (λ ls. ls ++ later) g ∙ append_assoc (take n all) (line ∷ []) later);
        many = ap length g ∙ length-append (take n all) (line ∷ []) ∙ ap (λ k. k + 1) t.many;
        given = f ∙ ap (all_slots ranged mems) (sym g);
        same = t.same ∙ ap (first_wrong ranged mems (take n all) (n + 2)) e ∙ next_line mems (take n all) (n + 2) line later
            ∙ ap (λ o. at_line (n + 2) o (first_wrong ranged mems (take n all ++ line ∷ []) (n + 2 + 1) later)) b
            ∙ ap (λ p. first_wrong ranged mems p (n + 2 + 1) later) (sym g)
            ∙ ap (λ k. first_wrong ranged mems (take (n + 1) all) k later) (omega arith);
      }

  -- where the next line breaks a rule, it is the first wrong line of all, refused by this rule
  pub wrong_found : (mems : List MemInfo) (all : List (List ℕ)) (n : ℕ) (left : List (List ℕ)) (line : List ℕ)
      (later : List (List ℕ)) (slots : List (List (Option ℕ))) (rule : Rule)
      → Taken mems all n left slots → left ≡ line ∷ later → broken_rule ranged mems (take n all) line ≡ Some rule
      → first_wrong ranged mems [] 2 all ≡ Some (Refused rule (n + 2))
  wrong_found mems all n left line later slots rule t e b =
      t.same ∙ ap (first_wrong ranged mems (take n all) (n + 2)) e ∙ next_line mems (take n all) (n + 2) line later
      ∙ ap (λ o. at_line (n + 2) o (first_wrong ranged mems (take n all ++ line ∷ []) (n + 2 + 1) later)) b

  none_wrong : (mems : List MemInfo) (before : List (List ℕ)) (number : ℕ) → first_wrong ranged mems before number [] ≡ None
  unfolding first_wrong
  none_wrong mems before number = refl

  -- once all lines are taken, none is wrong and the slots are those of all lines
  pub all_taken : (mems : List MemInfo) (all : List (List ℕ)) (n : ℕ) (text : List ℕ) (slots : List (List (Option ℕ)))
      → Taken mems all n (lines text) slots → length text ≡ 0
      → (first_wrong ranged mems [] 2 all ≡ None) × (slots ≡ all_slots ranged mems all)
  all_taken mems all n text slots t h =
      let e : lines text ≡ [] = lines_of_none text h in
      let g : take n all ≡ all = sym (t.rest ∙ ap (λ ls. take n all ++ ls) e ∙ append-nil (take n all)) in
      (t.same ∙ ap (first_wrong ranged mems (take n all) (n + 2)) e ∙ none_wrong mems (take n all) (n + 2), t.given ∙ ap (all_slots ranged mems) g)

  -- ---- the slots before any line

  empty_row : (m : MemInfo) → replicate m.depth None ≡ slots_of ranged [] m
  unfolding slots_of given_value
  empty_row m = splat_is_map (range_with_len 0 m.depth) m.depth None (length-range_with_len 0 m.depth)

  -- without memories there are no slots
  pub no_slots : all_slots ranged [] [] ≡ []
  unfolding all_slots
  no_slots = refl

  -- with one memory more, its slots, in which there is no word, come after those of the others
  pub one_more_row : (mems : List MemInfo) (i : ℕ) (m : MemInfo) (row : List (Option ℕ))
      → i < length mems → m ≡ get_or mems i m → row ≡ replicate m.depth None
      → all_slots ranged (take (i + 1) mems) [] ≡ all_slots ranged (take i mems) [] ++ row ∷ []
  unfolding all_slots
  one_more_row mems i m row l e f =
      ap (map (slots_of ranged [])) (take_more mems i m l) ∙ map-append (slots_of ranged []) (take i mems) (get_or mems i m ∷ [])
      ∙ ap (λ r. map (slots_of ranged []) (take i mems) ++ r ∷ []) (ap (slots_of ranged []) (sym e) ∙ sym (f ∙ empty_row m))
