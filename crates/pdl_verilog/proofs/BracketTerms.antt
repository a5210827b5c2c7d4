-- The right sides of cells with brackets and braces.
use Rattle.std.proofs.Common.{◌≡◌, ℕ, ◌+◌, ◌<◌, ◌≤◌, true, false, eqb, leb, List, [], ◌∷◌, ◌++◌, length, codes, decimal, Some, is_some, unwrap_or, refl, ap, ◌∙◌, arith}
use Rattle.std.specs.List.{list_all}
use Rattle.std.proofs.lemmas.Bool.{and_parts, or_from, ne_eqb, leb-true, cond-true, cond-false, and_left}
use Rattle.std.proofs.lemmas.Fmt.{decimal_nonempty}
use Rattle.pdl_vread_text.specs.declared.part.Part.TheVariants as part
use Rattle.pdl_vread_text.specs.declared.rule.VerilogRule.TheVariants as rule
use Rattle.pdl_vread_text.specs.declared.file.File.{File}
use Rattle.pdl_vread_text.specs.declared.file.Term.{Term}
use Rattle.pdl_vread_text.specs.declared.file.Term.TheVariants as t
use Rattle.pdl_vread_text.specs.declared.draft.Draft.{Draft}
use Rattle.pdl_vread_text.specs.Tokens.{is_digit, piece_at, tokens_from}
use Rattle.pdl_vread_text.specs.Words.{number_of, constant_of, operator_of, is_name, is_cell, is_reg, is_named, is_operand}
use Rattle.pdl_vread_text.specs.Grammar.{Row, AllFit, none, more, fields, chosen}
use Rattle.pdl_vread_text.specs.Drafts.{term, with_operand}
use Rattle.pdl_verilog.proofs.Numbers.{decimal_bytes}
use Rattle.pdl_verilog.proofs.WordTokens.{token, word_token}
use Rattle.pdl_verilog.proofs.Names.{IsOperandText, decimal_word, name_word, after_prefix}
use Rattle.pdl_verilog.proofs.RuleSteps.{Completes, one_rule}
use Rattle.pdl_verilog.proofs.Declarations.{number_fits, high_back}
use Rattle.pdl_verilog.proofs.Terms as terms
use Rattle.pdl_verilog.proofs.Terms.{IsHeaded, CompletesTerm, cell_added}

-- a word that begins with a digit is no operand
digit_other : (c n : ℕ) → is_digit c ≡ true → 57 < n → eqb n c ≡ false
digit_other c n h l =
    let p = and_parts (leb 48 c) (leb c 57) h in
    let k : c ≤ 57 = leb-true c 57 p.1 in
    ne_eqb n c (λ e. absurd (omega arith))

no_operand : (x : List ℕ) → 1 ≤ length x → list_all is_digit x ≡ true → is_operand x ≡ false
unfolding is_operand
no_operand [] l h = absurd (omega arith)
no_operand (c ∷ cs) l h =
    let d = (and_parts (is_digit c) (list_all is_digit cs) h).0 in
    let n = digit_other c 110 d (omega arith) in
    let r = digit_other c 114 d (omega arith) in
    let p = digit_other c 112 d (omega arith) in
    or_from _ _ (or_from (is_cell (c ∷ cs)) (is_reg (c ∷ cs)) (and_left _ _ (and_left _ _ n)) (and_left _ _ (and_left _ _ r)))
    (or_from (is_named (codes "p_") (c ∷ cs)) (is_named (codes "pd_") (c ∷ cs)) (and_left _ _ (and_left _ _ p)) (and_left _ _ (and_left _ _ p)))

module _ (line at high : ℕ) (name rest : List ℕ) (before f : File) where
  abbrev Continues : Term → Type 0
  Continues tm = terms.Continues line at high name rest before f tm

  -- ---- `id [ num : num ]`

  slice_first : (x : List ℕ) → tokens_from 0 line (codes "[" ++ x) ≡ token (codes "[") line ∷ tokens_from 0 line x
  unfolding piece_at
  slice_first x = refl

  colon_first : (x : List ℕ) → tokens_from 0 line (codes ":" ++ x) ≡ token (codes ":") line ∷ tokens_from 0 line x
  unfolding piece_at
  colon_first x = refl

  square_last : (x : List ℕ) → tokens_from 0 line (codes "];\n" ++ x) ≡ token (codes "]") line ∷ token (codes ";") line ∷ tokens_from 0 (line + 1) x
  unfolding piece_at
  square_last x = refl

  slice_chosen : chosen part.AfterOperand (codes "[") ≡ Some rule.SliceTerm
  unfolding chosen operator_of
  slice_chosen = refl

  -- the text of a slice completes a cell, where what follows goes on with a slice
  pub slice_term : (a : List ℕ) (h l : ℕ) → IsOperandText a → h < 1000000 → l < 1000000 → Continues (t.Slice a h l)
      → CompletesTerm line (a ++ (codes "[" ++ (decimal h ++ (codes ":" ++ (decimal l ++ (codes "];\n" ++ rest)))))) before at high name f
  slice_term a h l o p q k d e =
      let last = codes "];\n" ++ rest in
      let inner = codes ":" ++ (decimal l ++ last) in
      let later = codes "[" ++ (decimal h ++ inner) in
      let row : Row = token (decimal h) line ∷ token (codes ":") line ∷ token (decimal l) line ∷ token (codes "]") line ∷ token (codes ";") line ∷ [] in
      let fit : AllFit (fields rule.SliceTerm) (token (codes "[") line ∷ row) =
      more refl (more (number_fits h p) (more refl (more (number_fits l q) (more refl (more refl none))))) in
      let one = with_operand d (token a line ∷ []) in
      let same : term a rule.SliceTerm (token (codes "[") line ∷ row) ≡ t.Slice a h l =
      ap (λ n. t.Slice a n (unwrap_or (number_of (decimal l)) 0)) (high_back h p) ∙ ap (λ n. t.Slice a h n) (high_back l q) in
      let lexed : tokens_from 0 line later ≡ token (codes "[") line ∷ row ++ tokens_from 0 (line + 1) rest =
      slice_first (decimal h ++ inner)
      ∙ (ap (λ z. token (codes "[") line ∷ z) (word_token (decimal h) inner line (decimal_word h (omega arith)) refl)
      ∙ (ap (λ z. token (codes "[") line ∷ token (decimal h) line ∷ z) (colon_first (decimal l ++ last))
      ∙ (ap (λ z. token (codes "[") line ∷ token (decimal h) line ∷ token (codes ":") line ∷ z)
      (word_token (decimal l) last line (decimal_word l (omega arith)) refl)
      ∙ ap (λ z. token (codes "[") line ∷ token (decimal h) line ∷ token (codes ":") line ∷ token (decimal l) line ∷ z) (square_last rest)))) in
      terms.first_operand line at high name rest before f a later d o (word_token a later line o.word refl)
      (one_rule part.AfterOperand rule.SliceTerm line (line + 1) later rest (token (codes "[") line) row one f slice_chosen fit lexed
      (k _
      (cell_added one before at high name rule.SliceTerm (token (codes "[") line ∷ row) (t.Slice a h l)
      (terms.with_first line at high name rest before f d a e) same) e.writes))

  -- ---- `{ id , id }`

  brace_first : (x : List ℕ) → tokens_from 0 line (codes "{" ++ x) ≡ token (codes "{") line ∷ tokens_from 0 line x
  unfolding piece_at
  brace_first x = refl

  comma_first : (x : List ℕ) → tokens_from 0 line (codes ", " ++ x) ≡ token (codes ",") line ∷ tokens_from 0 line x
  unfolding piece_at
  comma_first x = refl

  brace_last : (x : List ℕ) → tokens_from 0 line (codes "};\n" ++ x) ≡ token (codes "}") line ∷ token (codes ";") line ∷ tokens_from 0 (line + 1) x
  unfolding piece_at
  brace_last x = refl

  braces_last : (x : List ℕ)
      → tokens_from 0 line (codes "}};\n" ++ x) ≡ token (codes "}") line ∷ token (codes "}") line ∷ token (codes ";") line ∷ tokens_from 0 (line + 1) x
  unfolding piece_at
  braces_last x = refl

  brace_chosen : chosen part.Term (codes "{") ≡ Some rule.OpenTerm
  unfolding chosen constant_of number_of is_operand is_name
  brace_chosen = refl

  opened_term : (d : Draft) (more_text : List ℕ) → Completes part.Braced line more_text d f → Completes part.Term line (codes "{" ++ more_text) d f
  opened_term d more_text k =
      one_rule part.Term rule.OpenTerm line line (codes "{" ++ more_text) more_text (token (codes "{") line)
      [] d f brace_chosen (more refl none) (brace_first more_text) k

  -- the text of two joined nets completes a cell, where what follows goes on with them joined
  pub cat_term : (a b : List ℕ) → IsOperandText a → IsOperandText b → Continues (t.Cat a b)
      → CompletesTerm line (codes "{" ++ (a ++ (codes ", " ++ (b ++ (codes "};\n" ++ rest))))) before at high name f
  cat_term a b o p k d h =
      let last = codes "};\n" ++ rest in
      let middle = codes ", " ++ (b ++ last) in
      let row : Row = token (codes ",") line ∷ token b line ∷ token (codes "}") line ∷ token (codes ";") line ∷ [] in
      let fit : AllFit (fields rule.CatTerm) (token a line ∷ row) = more o.operand (more refl (more p.operand (more refl (more refl none)))) in
      let lexed : tokens_from 0 line (a ++ middle) ≡ token a line ∷ row ++ tokens_from 0 (line + 1) rest =
      word_token a middle line o.word refl
      ∙ (ap (λ z. token a line ∷ z) (comma_first (b ++ last))
      ∙ (ap (λ z. token a line ∷ token (codes ",") line ∷ z) (word_token b last line p.word refl)
      ∙ ap (λ z. token a line ∷ token (codes ",") line ∷ token b line ∷ z) (brace_last rest))) in
      opened_term d (a ++ middle)
      (one_rule part.Braced rule.CatTerm line (line + 1) (a ++ middle) rest (token a line) row d f o.braced fit lexed
      (k _ (cell_added d before at high name rule.CatTerm (token a line ∷ row) (t.Cat a b) h refl) h.writes))

  -- ---- `{ num { id } }`

  number_chosen : (x : List ℕ) → is_operand x ≡ false → is_some (number_of x) ≡ true → chosen part.Braced x ≡ Some rule.RepTerm
  unfolding chosen
  number_chosen x h k = cond-false _ _ _ h ∙ cond-true _ _ _ k

  -- the text of a repeated net completes a cell, where what follows goes on with it repeated
  pub rep_term : (n : ℕ) (a : List ℕ) → n < 1000000 → IsOperandText a → Continues (t.Rep n a)
      → CompletesTerm line (codes "{" ++ (decimal n ++ (codes "{" ++ (a ++ (codes "}};\n" ++ rest))))) before at high name f
  rep_term n a l o k d h =
      let last = codes "}};\n" ++ rest in
      let middle = codes "{" ++ (a ++ last) in
      let row : Row = token (codes "{") line ∷ token a line ∷ token (codes "}") line ∷ token (codes "}") line ∷ token (codes ";") line ∷ [] in
      let fit : AllFit (fields rule.RepTerm) (token (decimal n) line ∷ row) =
      more (number_fits n l) (more refl (more o.operand (more refl (more refl (more refl none))))) in
      let other : is_operand (decimal n) ≡ false = no_operand (decimal n) (decimal_nonempty n (omega arith)) (decimal_bytes n (omega arith)) in
      let same : term d.operand rule.RepTerm (token (decimal n) line ∷ row) ≡ t.Rep n a = ap (λ m. t.Rep m a) (high_back n l) in
      let lexed : tokens_from 0 line (decimal n ++ middle) ≡ token (decimal n) line ∷ row ++ tokens_from 0 (line + 1) rest =
      word_token (decimal n) middle line (decimal_word n (omega arith)) refl
      ∙ (ap (λ z. token (decimal n) line ∷ z) (brace_first (a ++ last))
      ∙ (ap (λ z. token (decimal n) line ∷ token (codes "{") line ∷ z) (word_token a last line o.word refl)
      ∙ ap (λ z. token (decimal n) line ∷ token (codes "{") line ∷ token a line ∷ z) (braces_last rest))) in
      opened_term d (decimal n ++ middle)
      (one_rule part.Braced rule.RepTerm line (line + 1)
      (decimal n ++ middle) rest (token (decimal n) line) row d f (number_chosen (decimal n) other (number_fits n l)) fit lexed
      (k _ (cell_added d before at high name rule.RepTerm (token (decimal n) line ∷ row) (t.Rep n a) h same) h.writes))

  -- ---- `a_id [ id ]`

  array_chosen : (x : List ℕ) → is_name x ≡ true → chosen part.Term (codes "a_" ++ x) ≡ Some rule.ReadTerm
  unfolding chosen constant_of number_of is_operand
  array_chosen x h = cond-true _ _ _ h

  -- the text of an array's word completes a cell, where what follows goes on with the read
  pub read_term : (m a : List ℕ) → is_name m ≡ true → IsOperandText a → Continues (t.Read (codes "a_" ++ m) a)
      → CompletesTerm line ((codes "a_" ++ m) ++ (codes "[" ++ (a ++ (codes "];\n" ++ rest)))) before at high name f
  read_term m a e o k d h =
      let array = codes "a_" ++ m in
      let last = codes "];\n" ++ rest in
      let later = codes "[" ++ (a ++ last) in
      let row : Row = token (codes "[") line ∷ token a line ∷ token (codes "]") line ∷ token (codes ";") line ∷ [] in
      let fit : AllFit (fields rule.ReadTerm) (token array line ∷ row) = more e (more refl (more o.operand (more refl (more refl none)))) in
      let lexed : tokens_from 0 line (array ++ later) ≡ token array line ∷ row ++ tokens_from 0 (line + 1) rest =
      word_token array later line (after_prefix (codes "a_") m refl (name_word m e)) refl
      ∙ (ap (λ z. token array line ∷ z) (slice_first (a ++ last))
      ∙ (ap (λ z. token array line ∷ token (codes "[") line ∷ z) (word_token a last line o.word refl)
      ∙ ap (λ z. token array line ∷ token (codes "[") line ∷ token a line ∷ z) (square_last rest))) in
      one_rule part.Term rule.ReadTerm line (line + 1) (array ++ later) rest (token array line) row d f (array_chosen m e) fit lexed
      (k _ (cell_added d before at high name rule.ReadTerm (token array line ∷ row) (t.Read array a) h refl) h.writes)
