-- Which rule of the table a name, a number or a constant begins.
use Rattle.std.proofs.Common.{◌≡◌, ℕ, Bool, true, false, cond, nat_eq, eqb, inl, inr, List, [], ◌∷◌, codes, Some, None, is_some, refl, sym, ap, ◌∙◌, subst, arith}
use Rattle.std.specs.Prelude.{◌⊎◌, ◌||◌}
use Rattle.std.specs.List.{list_all, starts_with}
use Rattle.std.specs.Str.Parse.{digits_value}
use Rattle.std.proofs.lemmas.Bool.{cond-true, cond-false, and_parts, and_left, or_cases, or_from, ne_eqb, true≢false}
use Rattle.std.proofs.lemmas.Bool.Decides.{nat_tests}
use Rattle.pdl_net.specs.declared.BinOp.{BinOp}
use Rattle.pdl_vread_text.specs.declared.part.Part.TheVariants as part
use Rattle.pdl_vread_text.specs.declared.rule.VerilogRule.TheVariants as rule
use Rattle.pdl_vread_text.specs.Tokens.{Token}
use Rattle.pdl_vread_text.specs.Words.{number_of, constant_of, operator_of, is_name, is_reg, is_array, is_cell, is_operand, is_input, is_named as is_given}
use Rattle.pdl_vread_text.specs.Grammar.{chosen}
use Rattle.pdl_word.specs.Digits.{is_digit_of, are_digits}
use Rattle.pdl_plain.specs.NetlistTexts.{num, const, op, name, IsPiece, is_num, is_const, is_op, is_name as is_named, id}

-- ---- names by their first byte

head_is : (p c : ℕ) (ps cs : List ℕ) → starts_with nat_eq (c ∷ cs) (p ∷ ps) ≡ true → p ≡ c
head_is p c ps cs e = let k : nat_eq p c ≡ true = (and_parts (nat_eq p c) _ e).0 in grind (arith, nat_tests, k)

array_head : (c : ℕ) (cs : List ℕ) → is_array (c ∷ cs) ≡ true → 97 ≡ c
array_head c cs e = head_is 97 c (95 ∷ []) cs (and_parts (starts_with nat_eq (c ∷ cs) (codes "a_")) _ e).0

array_no_reg : (x : List ℕ) → is_array x ≡ true → is_reg x ≡ false
array_no_reg [] e = absurd (cc)
array_no_reg (c ∷ cs) e = subst (λ z. is_reg (z ∷ cs) ≡ false) (array_head c cs e) refl

-- after the range of a register or of the first array the name of an array declares it
pub array_declared : (x : List ℕ) (t : Token) → IsPiece (name is_array x) t → chosen part.Declared t.text ≡ Some rule.ArrayDeclared
unfolding chosen
array_declared x _ (is_named e) = cond-false _ _ _ (array_no_reg x e) ∙ cond-true _ _ _ e

-- and so after that of a later one
pub later_declared : (x : List ℕ) (t : Token) → IsPiece (name is_array x) t → chosen part.LaterArray t.text ≡ Some rule.ArrayDeclared
unfolding chosen
later_declared x _ (is_named e) = cond-true _ _ _ e

array_begins : (cs : List ℕ) → is_array (97 ∷ cs) ≡ true → chosen part.Term (97 ∷ cs) ≡ Some rule.ReadTerm
unfolding chosen constant_of number_of is_operand
array_begins cs e = cond-true _ _ _ e

array_at_term : (x : List ℕ) → is_array x ≡ true → chosen part.Term x ≡ Some rule.ReadTerm
array_at_term [] e = absurd (cc)
array_at_term (c ∷ cs) e = subst (λ z. is_array (z ∷ cs) ≡ true → chosen part.Term (z ∷ cs) ≡ Some rule.ReadTerm) (array_head c cs e) (array_begins cs) e

-- the name of an array begins the read of a word
pub array_term : (x : List ℕ) (t : Token) → IsPiece (name is_array x) t → chosen part.Term t.text ≡ Some rule.ReadTerm
array_term x _ (is_named e) = array_at_term x e

cell_begins : (cs : List ℕ) → is_operand (110 ∷ cs) ≡ true → chosen part.Term (110 ∷ cs) ≡ Some rule.FirstOperand
unfolding chosen constant_of number_of
cell_begins cs e = cond-true _ _ _ e

reg_begins : (cs : List ℕ) → is_operand (114 ∷ cs) ≡ true → chosen part.Term (114 ∷ cs) ≡ Some rule.FirstOperand
unfolding chosen constant_of number_of
reg_begins cs e = cond-true _ _ _ e

input_begins : (cs : List ℕ) → is_operand (112 ∷ cs) ≡ true → chosen part.Term (112 ∷ cs) ≡ Some rule.FirstOperand
unfolding chosen constant_of number_of
input_begins cs e = cond-true _ _ _ e

abbrev FirstByte : ℕ → Type 0
FirstByte c = (110 ≡ c) ⊎ ((114 ≡ c) ⊎ (112 ≡ c))

operand_head : (c : ℕ) (cs : List ℕ) → is_operand (c ∷ cs) ≡ true → FirstByte c
unfolding is_operand
operand_head c cs e = elim (or_cases (is_cell (c ∷ cs) || is_reg (c ∷ cs)) (is_input (c ∷ cs)) e) [
  | inl a ↦ elim (or_cases (is_cell (c ∷ cs)) (is_reg (c ∷ cs)) a) [
    | inl b ↦ inl (head_is 110 c [] cs (and_parts (starts_with nat_eq (c ∷ cs) (codes "n")) _ b).0)
    | inr b ↦ inr (inl (head_is 114 c [] cs (and_parts (starts_with nat_eq (c ∷ cs) (codes "r")) _ b).0))
  ]
  | inr a ↦ elim (or_cases (is_given (codes "p_") (c ∷ cs)) (is_given (codes "pd_") (c ∷ cs)) a) [
    | inl b ↦ inr (inr (head_is 112 c (95 ∷ []) cs (and_parts (starts_with nat_eq (c ∷ cs) (codes "p_")) _ b).0))
    | inr b ↦ inr (inr (head_is 112 c (100 ∷ 95 ∷ []) cs (and_parts (starts_with nat_eq (c ∷ cs) (codes "pd_")) _ b).0))
  ]
]

no_name : is_operand [] ≡ true → ⊥
unfolding is_operand
no_name e = cc

operand_at_term : (x : List ℕ) → is_operand x ≡ true → chosen part.Term x ≡ Some rule.FirstOperand
operand_at_term [] e = absurd (no_name e)
operand_at_term (c ∷ cs) e =
    let P : ℕ → Type 0 = λ z. is_operand (z ∷ cs) ≡ true → chosen part.Term (z ∷ cs) ≡ Some rule.FirstOperand in
    elim (operand_head c cs e) [
      | inl n ↦ subst P n (cell_begins cs) e
      | inr m ↦ elim m [ inl r ↦ subst P r (reg_begins cs) e | inr p ↦ subst P p (input_begins cs) e ]
    ]

-- an operand begins a term
pub operand_term : (x : List ℕ) (t : Token) → IsPiece (id x) t → chosen part.Term t.text ≡ Some rule.FirstOperand
operand_term x _ (is_named e) = operand_at_term x e

-- after a brace an operand begins two joined ones
pub operand_braced : (x : List ℕ) (t : Token) → IsPiece (id x) t → chosen part.Braced t.text ≡ Some rule.CatTerm
unfolding chosen
operand_braced x _ (is_named e) = cond-true _ _ _ e

other_byte : (c z : ℕ) → is_digit_of 10 c ≡ true → is_digit_of 10 z ≡ false → eqb z c ≡ false
other_byte c z h k = ne_eqb z c (λ e. true≢false (sym h ∙ (ap (is_digit_of 10) (sym e) ∙ k)))

digits_no_operand : (x : List ℕ) → are_digits 10 6 x ≡ true → is_operand x ≡ false
unfolding is_operand
digits_no_operand [] e = absurd (cc)
digits_no_operand (c ∷ cs) e =
    let d = (and_parts (is_digit_of 10 c) (list_all (is_digit_of 10) cs) (and_parts (list_all (is_digit_of 10) (c ∷ cs)) _ e).0).0 in
    let n = other_byte c 110 d refl in
    let r = other_byte c 114 d refl in
    let p = other_byte c 112 d refl in
    or_from _ _ (or_from (is_cell (c ∷ cs)) (is_reg (c ∷ cs)) (and_left _ _ (and_left _ _ n)) (and_left _ _ (and_left _ _ r)))
    (or_from (is_given (codes "p_") (c ∷ cs)) (is_given (codes "pd_") (c ∷ cs)) (and_left _ _ (and_left _ _ p)) (and_left _ _ (and_left _ _ p)))

number_digits : (x : List ℕ) (n : ℕ) → number_of x ≡ Some n → are_digits 10 6 x ≡ true
unfolding number_of
number_digits x n e = by_test (are_digits 10 6 x) refl e
  where
    by_test : (b : Bool) → are_digits 10 6 x ≡ b → cond b (Some (digits_value 10 x)) None ≡ Some n → are_digits 10 6 x ≡ true
    by_test true q k = q
    by_test false q k = absurd (cc)

-- and a number a repeated one
pub number_braced : (n : ℕ) (t : Token) → IsPiece (num n) t → chosen part.Braced t.text ≡ Some rule.RepTerm
unfolding chosen
number_braced n _ (is_num {text = x} e) = cond-false _ _ _ (digits_no_operand x (number_digits x n e)) ∙ cond-true _ _ _ (ap is_some e)

-- a constant is a term
pub const_term : (w v : ℕ) (t : Token) → IsPiece (const w v) t → chosen part.Term t.text ≡ Some rule.ConstTerm
unfolding chosen
const_term w v _ (is_const e) = cond-true _ _ _ (ap is_some e)

-- after an operand an operator comes before another one
pub op_after : (o : BinOp) (t : Token) → IsPiece (op o) t → chosen part.AfterOperand t.text ≡ Some rule.BinTerm
unfolding chosen
op_after o _ (is_op e) = cond-true _ _ _ (ap is_some e)

-- `~` begins a term
pub not_chosen : chosen part.Term (codes "~") ≡ Some rule.NotTerm
unfolding chosen constant_of number_of
not_chosen = refl

-- a brace begins a term
pub brace_chosen : chosen part.Term (codes "{") ≡ Some rule.OpenTerm
unfolding chosen constant_of number_of is_operand is_name
brace_chosen = refl

-- after an operand `?` begins a choice
pub mux_chosen : chosen part.AfterOperand (codes "?") ≡ Some rule.MuxTerm
unfolding chosen operator_of
mux_chosen = refl

-- and `[` a range of its bits
pub slice_chosen : chosen part.AfterOperand (codes "[") ≡ Some rule.SliceTerm
unfolding chosen operator_of
slice_chosen = refl
