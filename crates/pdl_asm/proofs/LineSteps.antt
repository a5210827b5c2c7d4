-- Lines taken one after another.
use Rattle.std.proofs.Common.{◌≡◌, ◌≢◌, ℕ, suc, ◌+◌, ◌<◌, ◌≤◌, refl, sym, ◌∙◌, ap, subst, arith, inl, inr, Bool, true, false, ◌&&◌, List, [], ◌∷◌, ◌++◌, length, ◌-◌, codes, map, get_or, set, Option, Some, None, ltb, is_some, zero-add, zero, append_assoc, append-nil, replicate, pos, negsuc, ℤ, if◌then◌else◌}
use Rattle.std.specs.Prelude.{Ok, Err, flat_map, nat_le}
use Rattle.std.specs.List.{range_with_len}
use Rattle.std.proofs.lemmas.Bool.{cases_lt, lt-ltb, le-ltb, eq-eqb, ne_eqb}
use Rattle.std.proofs.lemmas.List.FromFn.{get_or-map-range_with_len, get_or-range_with_len, length-range_with_len}
use Rattle.std.proofs.lemmas.List.Sums.{fold_push}
use Rattle.pdl_kit.specs.declared.rule.Rule.{Rule}
use Rattle.pdl_kit.specs.declared.rule.Rule.TheVariants.{A2, A3, A4, A5, A6, A7, A8}
use Rattle.pdl_image.proofs.LineSteps.{or_else_assoc, or_else_none}
use Rattle.pdl_image.proofs.MapSet.{map_same, map_set}
use Rattle.pdl_image.specs.Images.{or_else}
use Rattle.pdl_image.specs.Lines.{lines}
use Rattle.pdl_asm_table.specs.Dictionaries.{value_of}
use Rattle.pdl_asm_table.specs.Tables.{TableValue}
use Rattle.pdl_asm_table.specs.declared.table.Insn.{Insn as TableInsn}
use Rattle.pdl_asm.specs.declared.line.Operands.{Operands}
use Rattle.pdl_asm.specs.declared.line.Operation.{Operation}
use Rattle.pdl_asm.specs.declared.line.Operation.TheVariants.{Nothing, At, Word, Insn}
use Rattle.pdl_asm.specs.declared.line.AssemblyLine.{AssemblyLine}
use Rattle.pdl_asm.specs.declared.asm_error.AsmError.TheVariants.{NoMemory, Refused}
use Rattle.pdl_asm.specs.Values.{Labels, lower, rank}
use Rattle.pdl_asm.specs.Assembly.{Placed, addresses, image, image_text, image_unless, lines_from, word_line, at_line, broken_rule, first_wrong, free_rule, insn_rule, insn_word, is_at, is_taken, labels_of, line_rule, line_word, operation_rule, operation_word, place_rule, with_line, word_at, written_word}
use Rattle.pdl_asm.specs.Slots.{AreWritten, IsRefusal, is_taken_in, slots_of, with_word}
use Rattle.pdl_asm.specs.declared.asm_error.AsmError.{AsmError}

-- there are 65,536 addresses
pub addresses_are : addresses ≡ 65536
unfolding addresses
addresses_are = refl

-- ---- what lines write, one line more

written_push : (t : TableValue) (labels : Labels) (done : List Placed) (p : Placed) (a : ℕ)
    → written_word t labels (done ++ p ∷ []) a ≡ or_else (written_word t labels done a) (word_at t labels a p)
written_push t labels [] p a = or_else_none (word_at t labels a p)
written_push t labels (q ∷ done) p a =
    ap (or_else (word_at t labels a q)) (written_push t labels done p a)
    ∙ or_else_assoc (word_at t labels a q) (written_word t labels done a) (word_at t labels a p)

written_kept : (t : TableValue) (labels : Labels) (done : List Placed) (p : Placed) (a : ℕ)
    → word_at t labels a p ≡ None → written_word t labels done a ≡ written_word t labels (done ++ p ∷ []) a
written_kept t labels done p a e =
    sym (written_push t labels done p a ∙ ap (or_else (written_word t labels done a)) e ∙ or_else_none (written_word t labels done a))

if_none : (b : Bool) (o : Option ℕ) → o ≡ None → (if b then o else None) ≡ None
if_none true o e = e
if_none false o e = refl

address_of : (k : ℕ) (d : ℕ) → k < addresses → get_or (range_with_len 0 addresses) k d ≡ k
address_of k d h = get_or-range_with_len 0 addresses k d h ∙ zero-add k

below_all : (k : ℕ) → k < length (range_with_len 0 addresses) → k < addresses
below_all k h = let P : ℕ → Type 0 = λ n. k < n in subst P (length-range_with_len 0 addresses) h

-- a line that writes at no address leaves the slots
slots_kept : (t : TableValue) (labels : Labels) (done : List Placed) (p : Placed)
    → ((a : ℕ) → a < addresses → word_at t labels a p ≡ None)
    → slots_of t labels done ≡ slots_of t labels (done ++ p ∷ [])
unfolding slots_of
slots_kept t labels done p none = map_same _ _ (range_with_len 0 addresses) (λ k d h.
    let a : ℕ = get_or (range_with_len 0 addresses) k d in
    let l : k < addresses = below_all k h in
    let P : ℕ → Type 0 = λ n. n < addresses in
    written_kept t labels done p a (none a (subst P (sym (address_of k d l)) l)))

slots_written : (t : TableValue) (labels : Labels) (done : List Placed) (p : Placed) (n w : ℕ)
    → n < addresses → written_word t labels done n ≡ None → word_at t labels n p ≡ Some w
    → ((a : ℕ) → a ≢ n → word_at t labels a p ≡ None)
    → set (slots_of t labels done) n (Some w) ≡ slots_of t labels (done ++ p ∷ [])
unfolding slots_of
slots_written t labels done p n w l free here others =
    let at : Some w ≡ written_word t labels (done ++ p ∷ []) n =
    sym (written_push t labels done p n ∙ ap (λ o. or_else o (word_at t labels n p)) free ∙ here) in
    map_set _ _ (range_with_len 0 addresses) n (Some w) (let P : ℕ → Type 0 = λ m. n < m in subst P (sym (length-range_with_len 0 addresses)) l)
    (λ d. let P : ℕ → Type 0 = λ a. Some w ≡ written_word t labels (done ++ p ∷ []) a in subst P (sym (address_of n d l)) at)
    (λ k d h ne.
    let a : ℕ = get_or (range_with_len 0 addresses) k d in
    let f : a ≡ k = address_of k d (below_all k h) in
    written_kept t labels done p a (others a (λ q. ne (sym f ∙ q))))

-- ---- a word whose line breaks no rule is at a free address

rank_low : (r : Rule) → nat_le (rank (Some r)) 9 ≡ true
rank_low A2 = refl
rank_low A3 = refl
rank_low A4 = refl
rank_low A5 = refl
rank_low A6 = refl
rank_low A7 = refl
rank_low A8 = refl
rank_low _ = refl

some_rule : (b : Bool) (r s : Rule) → (if b then Some r else Some s) ≡ None → ⊥
some_rule true r s e = cc e
some_rule false r s e = cc e

-- where the lower of two rules is none, the first is none
pub none_left : (a b : Option Rule) → lower a b ≡ None → a ≡ None
none_left None b e = refl
none_left (Some r) None e =
    let f : Some r ≡ None = sym (ap (λ b. if b then Some r else None) (rank_low r)) ∙ e in
    cc
none_left (Some r) (Some s) e = absurd (some_rule (nat_le (rank (Some r)) (rank (Some s))) r s e)

none_right : (o : Option Rule) (a b : Bool) → lower o (free_rule a b) ≡ None → free_rule a b ≡ None
none_right o false b e =
    let P : Option Rule → Type 0 = λ p. lower p (Some A7) ≡ None in
    let f : Some A7 ≡ None = subst P (none_left o (Some A7) e) e in
    cc
none_right o true true e =
    let P : Option Rule → Type 0 = λ p. lower p (Some A8) ≡ None in
    let f : Some A8 ≡ None = subst P (none_left o (Some A8) e) e in
    cc
none_right o true false e = refl

not_taken : (b : Bool) → free_rule true b ≡ None → b ≡ false
not_taken true e = cc
not_taken false e = refl

free_insn : (t : TableValue) (labels : Labels) (taken : Bool) (place : ℤ) (o : Option TableInsn) (operands : Operands) (w : ℕ)
    → insn_rule t labels taken place o operands ≡ None → insn_word t labels place o operands ≡ Some w → place_rule taken place ≡ None
free_insn t labels taken place None operands w e f = cc
free_insn t labels taken place (Some i) operands w e f = none_right _ _ taken e

free_operation : (t : TableValue) (labels : Labels) (taken : Bool) (place : ℤ) (o : Operation) (w : ℕ)
    → operation_rule t labels taken place o ≡ None → operation_word t labels place o ≡ Some w → place_rule taken place ≡ None
free_operation t labels taken place Nothing w e f = cc
free_operation t labels taken place (At n) w e f = cc
free_operation t labels taken place (Word n) w e f = none_right _ _ taken e
free_operation t labels taken place (Insn name operands) w e f = free_insn t labels taken place (value_of t.insns name) operands w e f

free_line : (t : TableValue) (labels before : Labels) (taken : Bool) (place : ℤ) (o : Option AssemblyLine) (w : ℕ)
    → line_rule t labels before taken place o ≡ None → line_word t labels place o ≡ Some w → place_rule taken place ≡ None
free_line t labels before taken place None w e f = cc
free_line t labels before taken place (Some l) w e f = free_operation t labels taken place l.operation w (none_left _ _ e) f

-- ---- what is taken, by slots

row_at : (t : TableValue) (labels : Labels) (done : List Placed) (n : ℕ)
    → n < addresses → get_or (slots_of t labels done) n None ≡ written_word t labels done n
unfolding slots_of
row_at t labels done n h = get_or-map-range_with_len (written_word t labels done) 0 addresses n n None h (zero-add n)

-- the slots of the placed lines say of each address whether it is taken as the lines themselves do
pub taken_is : (t : TableValue) (labels : Labels) (done : List Placed) (place : ℤ)
    → is_taken_in (slots_of t labels done) place ≡ is_taken t labels done place
taken_is t labels done (negsuc n) = refl
taken_is t labels done (pos n) = elim (cases_lt n 65536) [
  | inl h ↦
      let P : ℕ → Type 0 = λ m. n < m in
      ap (λ o. ltb n 65536 && is_some o) (row_at t labels done n (subst P (sym addresses_are) h))
  | inr h ↦ rw (le-ltb _ _ h) refl
]

no_word : (o : Option ℕ) → is_some o ≡ false → o ≡ None
no_word None e = refl
no_word (Some v) e = cc

-- the slots with a line's word
slots_more : (table : TableValue) (labels : Labels) (done : List Placed) (place : ℤ) (line : Option AssemblyLine) (o : Option ℕ)
    → line_word table labels place line ≡ o
    → ((w : ℕ) → o ≡ Some w → place_rule (is_taken table labels done place) place ≡ None)
    → with_word (slots_of table labels done) place o ≡ slots_of table labels (done ++ record { place = place; line = line } ∷ [])
slots_more table labels done place line None e free = slots_kept table labels done (record { place = place; line = line }) (λ a h. if_none (is_at place a) _ e)
slots_more table labels done (negsuc n) line (Some w) e free = slots_kept table labels done (record { place = negsuc n; line = line }) (λ a h. refl)
slots_more table labels done (pos n) line (Some w) e free = elim (cases_lt n 65536) [
  | inl h ↦
      let holds : ltb n 65536 ≡ true = lt-ltb n 65536 h in
      let p : Placed = record { place = pos n; line = line } in
      let P : ℕ → Type 0 = λ m. n < m in
      let f : free_rule true (is_some (written_word table labels done n)) ≡ None =
      sym (ap (λ b. free_rule b (b && is_some (written_word table labels done n))) holds) ∙ free w refl in
      ap (λ b. if b then set (slots_of table labels done) n (Some w) else slots_of table labels done) holds
      ∙ slots_written table labels done p n w (subst P (sym addresses_are) h) (no_word _ (not_taken _ f))
      (ap (λ b. if b then line_word table labels (pos n) line else None) (eq-eqb n n refl) ∙ e)
      (λ a ne. ap (λ b. if b then line_word table labels (pos n) line else None) (ne_eqb n a (λ q. ne (sym q))))
  | inr h ↦
      let p : Placed = record { place = pos n; line = line } in
      let P : ℕ → Type 0 = λ m. m ≤ n in
      let far : addresses ≤ n = subst P (sym addresses_are) h in
      ap (λ b. if b then set (slots_of table labels done) n (Some w) else slots_of table labels done) (le-ltb n 65536 h)
      ∙ slots_kept table labels done p (λ a l. ap (λ b. if b then line_word table labels (pos n) line else None) (ne_eqb n a (λ q. absurd (omega (arith, q)))))
]

-- ---- the whole

-- so many lines were taken: the rest breaks what the whole breaks, and labels and slots are those of the lines so far
pub record Taken (t : TableValue) (labels : Labels) (all : List Placed) (number : ℕ) (rest : List Placed)
    (before : Labels) (slots : List (Option ℕ)) : Type 0 where
  pub done : List Placed
  pub whole : done ++ rest ≡ all
  pub wrong : first_wrong t labels done number rest ≡ first_wrong t labels [] 1 all
  pub defined : before ≡ labels_of done
  pub slot : slots ≡ slots_of t labels done

empty_from : (t : TableValue) (labels : Labels) (a n : ℕ) → replicate n None ≡ map (written_word t labels []) (range_with_len a n)
empty_from t labels a zero = refl
empty_from t labels a (suc n) = ap (λ os. None ∷ os) (empty_from t labels (a + 1) n)

-- before the first line all lines are to come, no label is defined and no address has a word
pub taken_none : (t : TableValue) (labels : Labels) (all : List Placed) (slots : List (Option ℕ))
    → slots ≡ replicate addresses None → Taken t labels all 1 all [] slots
unfolding slots_of
taken_none t labels all slots e = record { done = []; whole = refl; wrong = refl; defined = refl; slot = e ∙ empty_from t labels 0 addresses }

-- the rule that a line breaks is the one that the code finds
rule_is : (t : TableValue) (labels : Labels) (all rest : List Placed) (number : ℕ) (p : Placed) (before : Labels)
    (slots : List (Option ℕ)) (f : Taken t labels all number (p ∷ rest) before slots)
    → broken_rule t labels f.done p ≡ line_rule t labels before (is_taken_in slots p.place) p.place p.line
rule_is t labels all rest number p before slots f =
    sym (ap (λ b. line_rule t labels b (is_taken_in slots p.place) p.place p.line) f.defined
    ∙ ap (λ s. line_rule t labels (labels_of f.done) (is_taken_in s p.place) p.place p.line) f.slot
    ∙ ap (λ b. line_rule t labels (labels_of f.done) b p.place p.line) (taken_is t labels f.done p.place))

-- where the next line breaks a rule, it is the first wrong line of all, refused by this rule
pub wrong_found : (t : TableValue) (labels : Labels) (all rest : List Placed) (number : ℕ) (place : ℤ)
    (line : Option AssemblyLine) (before : Labels) (slots : List (Option ℕ)) (rule : Rule)
    → Taken t labels all number (record { place = place; line = line } ∷ rest) before slots
    → line_rule t labels before (is_taken_in slots place) place line ≡ Some rule
    → first_wrong t labels [] 1 all ≡ Some (Refused rule number)
wrong_found t labels all rest number place line before slots rule f e =
    let p : Placed = record { place = place; line = line } in
    let b = rule_is t labels all rest number p before slots f ∙ e in
    sym f.wrong ∙ ap (λ o. at_line number o (first_wrong t labels (f.done ++ p ∷ []) (number + 1) rest)) b

-- the refusal of a line is the first of all lines
pub refused_first : (t : TableValue) (labels : Labels) (all rest : List Placed) (number : ℕ) (place : ℤ)
    (line : Option AssemblyLine) (before : Labels) (slots : List (Option ℕ)) (e : AsmError)
    → Taken t labels all number (record { place = place; line = line } ∷ rest) before slots
    → IsRefusal (line_rule t labels before (is_taken_in slots place) place line) number e
    → AreWritten t labels all (Err e)
refused_first t labels all rest number place line before slots NoMemory f h = tt
refused_first t labels all rest number place line before slots (Refused rule n) f h =
    wrong_found t labels all rest number place line before slots rule f h.0 ∙ ap (λ m. Some (Refused rule m)) (sym h.1)

-- a line that breaks no rule is taken after those before it, with its label and its word
pub taken_more : (t : TableValue) (labels : Labels) (all rest : List Placed) (number : ℕ) (place : ℤ)
    (line : Option AssemblyLine) (before later : Labels) (slots later_slots : List (Option ℕ))
    → Taken t labels all number (record { place = place; line = line } ∷ rest) before slots
    → line_rule t labels before (is_taken_in slots place) place line ≡ None
    → later ≡ with_line before (record { place = place; line = line })
    → later_slots ≡ with_word slots place (line_word t labels place line)
    → Taken t labels all (number + 1) rest later later_slots
taken_more t labels all rest number place line before later slots later_slots f e g h =
    let p : Placed = record { place = place; line = line } in
    let b : broken_rule t labels f.done p ≡ None = rule_is t labels all rest number p before slots f ∙ e in
    record {
      done = f.done ++ p ∷ [];
      whole = append_assoc f.done (p ∷ []) rest ∙ f.whole;
      wrong = sym (ap (λ o. at_line number o (first_wrong t labels (f.done ++ p ∷ []) (number + 1) rest)) b) ∙ f.wrong;
      defined = g ∙ ap (λ ls. with_line ls p) f.defined ∙ sym (fold_push with_line [] f.done p);
      slot = h ∙ ap (λ s. with_word s place (line_word t labels place line)) f.slot
          ∙ slots_more t labels f.done place line _ refl (λ w q. free_line t labels (labels_of f.done) (is_taken t labels f.done place) place line w b q);
    }

-- once all lines are taken, none is wrong and the addresses have the words that all lines write
pub all_taken : (t : TableValue) (labels : Labels) (all : List Placed) (number : ℕ) (before : Labels) (slots : List (Option ℕ))
    → Taken t labels all number [] before slots
    → (first_wrong t labels [] 1 all ≡ None) × (slots ≡ slots_of t labels all)
all_taken t labels all number before slots f = (sym f.wrong, f.slot ∙ ap (slots_of t labels) (sym (append-nil f.done) ∙ f.whole))

-- ---- the image

flat_same : (f g : ℕ → List ℕ) (a n : ℕ)
    → ((k : ℕ) → k < n → f (a + k) ≡ g (a + k)) → flat_map f (range_with_len a n) ≡ flat_map g (range_with_len a n)
flat_same f g a zero h = refl
flat_same f g a (suc n) h =
    let P : ℕ → Type 0 = λ m. f m ≡ g m in
    let z : a + 0 ≡ a = omega arith in
    let here : f a ≡ g a = subst P z (h 0 (omega arith)) in
    let later : flat_map f (range_with_len (a + 1) n) ≡ flat_map g (range_with_len (a + 1) n) =
    flat_same f g (a + 1) n (λ k l. let e : a + suc k ≡ a + 1 + k = omega arith in subst P e (h (suc k) (omega arith))) in
    ap (λ xs. xs ++ flat_map f (range_with_len (a + 1) n)) here ∙ ap (λ xs. g a ++ xs) later

-- the texts of the numbers from `a` on, after some bytes, begin with the text of `a`
pub flat_step : (f : ℕ → List ℕ) (xs : List ℕ) (a n : ℕ)
    → a < n
    → xs ++ flat_map f (range_with_len a (n - a)) ≡ (xs ++ f a) ++ flat_map f (range_with_len (a + 1) (n - (a + 1)))
flat_step f xs a n h =
    let e : n - a ≡ suc (n - (a + 1)) = omega arith in
    rw e (sym (append_assoc xs (f a) (flat_map f (range_with_len (a + 1) (n - (a + 1))))))

-- where no number is left, no text comes after some bytes
pub flat_end : (f : ℕ → List ℕ) (xs : List ℕ) (a n : ℕ) → n ≤ a → xs ++ flat_map f (range_with_len a (n - a)) ≡ xs
flat_end f xs a n h =
    let e : n - a ≡ 0 = omega arith in
    rw e (append-nil xs)

text_same : (t : TableValue) (labels : Labels) (ps : List Placed) (slots : List (Option ℕ))
    → slots ≡ slots_of t labels ps → image_text t (λ a. get_or slots a None) ≡ image_text t (written_word t labels ps)
text_same t labels ps slots e =
    ap (λ xs. codes "image 1\n" ++ xs)
    (flat_same (λ a. word_line t.mem t.word a (get_or slots a None)) (λ a. word_line t.mem t.word a (written_word t labels ps a)) 0 addresses (λ k h.
    let P : ℕ → Type 0 = λ m. word_line t.mem t.word m (get_or slots m None) ≡ word_line t.mem t.word m (written_word t labels ps m) in
    subst P (sym (zero-add k)) (ap (word_line t.mem t.word k) (ap (λ s. get_or s k None) e ∙ row_at t labels ps k h))))

-- where no line is wrong, a text gives the image that its slots give
pub image_is : (t : TableValue) (text : List ℕ) (labels : Labels) (slots : List (Option ℕ)) (bytes : List ℕ)
    → labels ≡ labels_of (lines_from t (pos 0) (lines text))
    → first_wrong t labels [] 1 (lines_from t (pos 0) (lines text)) ≡ None
    → slots ≡ slots_of t labels (lines_from t (pos 0) (lines text)) → bytes ≡ image_text t (λ a. get_or slots a None)
    → image t text ≡ Ok bytes
unfolding image
image_is t text labels slots bytes e f g h =
    let ps : List Placed = lines_from t (pos 0) (lines text) in
    let free : first_wrong t (labels_of ps) [] 1 ps ≡ None = sym (ap (λ ls. first_wrong t ls [] 1 ps) e) ∙ f in
    let same : slots ≡ slots_of t (labels_of ps) ps = g ∙ ap (λ ls. slots_of t ls ps) e in
    ap (λ o. image_unless o (image_text t (written_word t (labels_of ps) ps))) free ∙ ap Ok (sym (h ∙ text_same t (labels_of ps) ps slots same))

-- where no lines are left, no placed lines are left
pub none_left_of : (t : TableValue) (place : ℤ) (rest : List ℕ) → length rest ≡ 0 → lines_from t place (lines rest) ≡ []
unfolding lines
none_left_of t place [] h = refl
none_left_of t place (c ∷ cs) h = absurd (omega (arith, h))

-- the image's first line and the lines of all 65,536 addresses are the image of these words
pub text_end : (t : TableValue) (slots words : List (Option ℕ))
    → slots ≡ words → length slots ≡ 65536
    → codes "image 1\n"
    ++ flat_map (λ a. word_line t.mem t.word a (get_or slots a None))
    (range_with_len 0 (length slots)) ≡ image_text t (λ a. get_or words a None)
text_end t slots words e l =
    ap (λ m. codes "image 1\n" ++ flat_map (λ a. word_line t.mem t.word a (get_or slots a None)) (range_with_len 0 m)) (l ∙ sym addresses_are)
    ∙ ap (λ s. codes "image 1\n" ++ flat_map (λ a. word_line t.mem t.word a (get_or s a None)) (range_with_len 0 addresses)) e
