-- Names that are written are words, and of their kind.
use Rattle.std.proofs.Common.{◌≡◌, inl, inr, ℕ, ◌+◌, ◌/◌, ◌^◌, ◌<◌, ◌≤◌, true, ◌&&◌, ◌||◌, not, eqb, List, [], ◌∷◌, ◌++◌, length, length-append, codes, decimal, Some, refl, ◌∙◌, arith}
use Rattle.std.specs.List.{list_all}
use Rattle.std.proofs.lemmas.Bool.{and_parts, and_from, or_cases, or_left, or_right, cond-true}
use Rattle.std.proofs.lemmas.List.Folds.{list_all-append}
use Rattle.std.proofs.lemmas.Fmt.{decimal_nonempty}
use Rattle.pdl_vread_text.specs.declared.part.Part.TheVariants as part
use Rattle.pdl_vread_text.specs.declared.rule.VerilogRule.TheVariants as rule
use Rattle.pdl_vread_text.specs.Tokens.{is_word, is_lower, is_digit}
use Rattle.pdl_vread_text.specs.Words.{number_of, constant_of, is_name, has_name_form, is_name_byte, is_statement_keyword, are_decimals, is_named, is_input, is_reg, is_cell, is_operand}
use Rattle.pdl_vread_text.specs.Grammar.{chosen}
use Rattle.pdl_vlog.specs.Layout.{constant}
use Rattle.pdl_verilog.proofs.Numbers.{digit_is_word, lower_is_word, decimal_words, decimals_are, constant_words}
use Rattle.pdl_verilog.proofs.WordTokens.{IsWordText}
use Rattle.pdl_word.specs.Digits.{hex}
use Rattle.pdl_word.proofs.Lists.{all_weaker}

-- ---- words

name_byte_word : (c : ℕ) → is_name_byte c ≡ true → is_word c ≡ true
name_byte_word c h = elim (or_cases (is_lower c || is_digit c) (eqb c 95) h) [
  | inl a ↦ elim (or_cases (is_lower c) (is_digit c) a) [ inl b ↦ lower_is_word c b | inr b ↦ digit_is_word c b ]
  | inr a ↦ or_left _ _ (or_left _ _ (or_right _ (eqb c 95) a))
]

form_word : (x : List ℕ) → has_name_form x ≡ true → IsWordText x
form_word [] h = absurd (cc)
form_word (c ∷ cs) h =
    let p = and_parts (is_lower c) _ h in
    let q = and_parts _ (list_all is_name_byte cs) p.1 in
    record {
      some = omega arith;
      all = and_from (is_word c) (list_all is_word cs) (lower_is_word c p.0) (all_weaker is_name_byte is_word name_byte_word cs q.1);
    }

-- a name of PDL is a word
pub name_word : (x : List ℕ) → is_name x ≡ true → IsWordText x
unfolding is_name
name_word x h = form_word x (and_parts (has_name_form x) _ (and_parts (has_name_form x && not (is_statement_keyword x)) _ h).0).0

-- a number below 2^64 is written as a word
pub decimal_word : (n : ℕ) → n < 2 ^ 64 → IsWordText (decimal n)
decimal_word n h = record { some = decimal_nonempty n h; all = decimal_words n h }

-- a word after bytes of words is a word
pub after_prefix : (p x : List ℕ) → list_all is_word p ≡ true → IsWordText x → IsWordText (p ++ x)
after_prefix p x e h = record {
  some = (let l = length-append p x in let m : 1 ≤ length x = h.some in omega arith);
  all = list_all-append is_word p x ∙ and_from (list_all is_word p) (list_all is_word x) e h.all;
}

-- a constant of fewer than 2^64 bits is written as a word
pub constant_word : (w v : ℕ) → w < 2 ^ 64 → IsWordText (constant w v)
constant_word w v h = record {
  some =
      (let l = length-append (decimal w ++ codes "'h") (hex ((w + 3) / 4) v) in
      let m = length-append (decimal w) (codes "'h") in let k = decimal_nonempty w h in omega arith);
  all = constant_words w v h;
}

-- ---- operands

-- a word that is an operand, and begins a term as one
pub record IsOperandText (t : List ℕ) : Type 0 where
  pub word : IsWordText t
  pub operand : is_operand t ≡ true
  pub begins : chosen part.Term t ≡ Some rule.FirstOperand
  pub braced : chosen part.Braced t ≡ Some rule.CatTerm

reg_is_operand : (x : List ℕ) → are_decimals x ≡ true → is_operand (codes "r" ++ x) ≡ true
unfolding is_operand
reg_is_operand x h = or_left _ (is_input (codes "r" ++ x)) (or_right (is_cell (codes "r" ++ x)) (is_reg (codes "r" ++ x)) h)

cell_is_operand : (x : List ℕ) → are_decimals x ≡ true → is_operand (codes "n" ++ x) ≡ true
unfolding is_operand
cell_is_operand x h = or_left _ (is_input (codes "n" ++ x)) (or_left (is_cell (codes "n" ++ x)) (is_reg (codes "n" ++ x)) h)

p_is_operand : (x : List ℕ) → is_name x ≡ true → is_operand (codes "p_" ++ x) ≡ true
unfolding is_operand
p_is_operand x h =
    or_right (is_cell (codes "p_" ++ x) || is_reg (codes "p_" ++ x)) (is_input (codes "p_" ++ x))
    (or_left (is_named (codes "p_") (codes "p_" ++ x)) (is_named (codes "pd_") (codes "p_" ++ x)) h)

pd_is_operand : (x : List ℕ) → is_name x ≡ true → is_operand (codes "pd_" ++ x) ≡ true
unfolding is_operand
pd_is_operand x h =
    or_right (is_cell (codes "pd_" ++ x) || is_reg (codes "pd_" ++ x)) (is_input (codes "pd_" ++ x))
    (or_right (is_named (codes "p_") (codes "pd_" ++ x)) (is_named (codes "pd_") (codes "pd_" ++ x)) h)

-- the rule at a term whose first word is an operand that begins with a letter
term_r : (x : List ℕ) → is_operand (codes "r" ++ x) ≡ true → chosen part.Term (codes "r" ++ x) ≡ Some rule.FirstOperand
unfolding chosen constant_of number_of
term_r x h = cond-true _ _ _ h

term_n : (x : List ℕ) → is_operand (codes "n" ++ x) ≡ true → chosen part.Term (codes "n" ++ x) ≡ Some rule.FirstOperand
unfolding chosen constant_of number_of
term_n x h = cond-true _ _ _ h

term_p : (x : List ℕ) → is_operand (codes "p" ++ x) ≡ true → chosen part.Term (codes "p" ++ x) ≡ Some rule.FirstOperand
unfolding chosen constant_of number_of
term_p x h = cond-true _ _ _ h

braced_operand : (t : List ℕ) → is_operand t ≡ true → chosen part.Braced t ≡ Some rule.CatTerm
unfolding chosen
braced_operand t h = cond-true _ _ _ h

-- the name of a register of a number below 2^64 is an operand
pub reg_text : (r : ℕ) → r < 2 ^ 64 → IsOperandText (codes "r" ++ decimal r)
reg_text r h =
    let o = reg_is_operand (decimal r) (decimals_are r h) in
    record { word = after_prefix (codes "r") (decimal r) refl (decimal_word r h); operand = o; begins = term_r (decimal r) o; braced = braced_operand _ o }

-- the name of a cell of a number below 2^64 is an operand
pub cell_text : (k : ℕ) → k < 2 ^ 64 → IsOperandText (codes "n" ++ decimal k)
cell_text k h =
    let o = cell_is_operand (decimal k) (decimals_are k h) in
    record { word = after_prefix (codes "n") (decimal k) refl (decimal_word k h); operand = o; begins = term_n (decimal k) o; braced = braced_operand _ o }

-- `p_` before a name of PDL is an operand
pub p_text : (x : List ℕ) → is_name x ≡ true → IsOperandText (codes "p_" ++ x)
p_text x h =
    let o = p_is_operand x h in
    record { word = after_prefix (codes "p_") x refl (name_word x h); operand = o; begins = term_p (codes "_" ++ x) o; braced = braced_operand _ o }

-- `pd_` before a name of PDL is an operand
pub pd_text : (x : List ℕ) → is_name x ≡ true → IsOperandText (codes "pd_" ++ x)
pd_text x h =
    let o = pd_is_operand x h in
    record { word = after_prefix (codes "pd_") x refl (name_word x h); operand = o; begins = term_p (codes "d_" ++ x) o; braced = braced_operand _ o }
