-- The right sides of cells.
use Rattle.std.proofs.Common.{◌≡◌, ℕ, ◌+◌, ◌^◌, ◌<◌, ◌≤◌, true, List, [], ◌∷◌, ◌++◌, codes, Option, Some, is_some, unwrap_or, refl, ap, ◌∙◌, arith}
use Rattle.std.proofs.lemmas.Bool.{cond-true}
use Rattle.pdl_net.specs.declared.BinOp.{BinOp}
use Rattle.pdl_net.specs.declared.BinOp.TheVariants as op
use Rattle.pdl_vread_text.specs.declared.numbers.Constant.{Constant}
use Rattle.pdl_vread_text.specs.declared.part.Part.TheVariants as part
use Rattle.pdl_vread_text.specs.declared.rule.VerilogRule.{VerilogRule}
use Rattle.pdl_vread_text.specs.declared.rule.VerilogRule.TheVariants as rule
use Rattle.pdl_vread_text.specs.declared.file.File.{File}
use Rattle.pdl_vread_text.specs.declared.file.CellDecl.{CellDecl}
use Rattle.pdl_vread_text.specs.declared.file.Term.{Term}
use Rattle.pdl_vread_text.specs.declared.file.Term.TheVariants as t
use Rattle.pdl_vread_text.specs.declared.draft.Draft.{Draft}
use Rattle.pdl_vread_text.specs.Tokens.{piece_at, tokens_from}
use Rattle.pdl_vread_text.specs.Words.{number_of, constant_of, operator_of}
use Rattle.pdl_vread_text.specs.Grammar.{Row, AllFit, none, more, fields, chosen}
use Rattle.pdl_vread_text.specs.Drafts.{term, with_cell, with_operand}
use Rattle.pdl_vlog.specs.Layout.{constant, operator}
use Rattle.pdl_verilog.proofs.Numbers.{constant_back, operator_back}
use Rattle.pdl_verilog.proofs.WordTokens.{token, word_token, line_end}
use Rattle.pdl_verilog.proofs.Names.{IsOperandText, constant_word}
use Rattle.pdl_verilog.proofs.RuleSteps.{Completes, CompletesFile, one_rule}
use Rattle.pdl_word.specs.Words.{widest}

-- a file with a cell more
abbrev pub add_cell : File → CellDecl → File
add_cell f g = record f { cells = f.cells ++ g ∷ [] }

-- what the line of a cell declares: its name, twice, its high end and its term
abbrev pub cell_decl : ℕ → ℕ → List ℕ → Term → CellDecl
cell_decl line high name tm = record { line = line; name = name; high = high; target = name; term = tm }

-- a draft in which a wire and the name of its `assign` stand
pub record IsHeaded (d : Draft) (before : File) (line high : ℕ) (name : List ℕ) : Type 0 where
  pub file : d.file ≡ before
  pub writes : d.writes ≡ []
  pub line_is : d.line ≡ line
  pub name_is : d.name ≡ name
  pub high_is : d.high ≡ high
  pub target_is : d.target ≡ name

-- a draft with a cell's head has, after its term, the file with that cell
pub cell_added : (d : Draft) (before : File) (line high : ℕ) (name : List ℕ) (r : VerilogRule) (ts : Row) (tm : Term)
    → IsHeaded d before line high name → term d.operand r ts ≡ tm
    → (with_cell d r ts).file ≡ add_cell before (cell_decl line high name tm)
cell_added d before line high name r ts tm h e =
    let F : File → ℕ → List ℕ → ℕ → List ℕ → Term → File = λ f l n k a u. add_cell f (record { line = l; name = n; high = k; target = a; term = u }) in
    let u = term d.operand r ts in
    ap (λ f. F f d.line d.name d.high d.target u) h.file
    ∙ (ap (λ l. F before l d.name d.high d.target u) h.line_is
    ∙ (ap (λ n. F before line n d.high d.target u) h.name_is
    ∙ (ap (λ k. F before line name k d.target u) h.high_is
    ∙ (ap (λ a. F before line name high a u) h.target_is
    ∙ ap (λ u. F before line name high name u) e))))

-- the term, from a line on, completes each draft with a head
abbrev pub CompletesTerm : ℕ → List ℕ → File → ℕ → ℕ → List ℕ → File → Type 0
CompletesTerm line text before at high name f = (d : Draft) → IsHeaded d before at high name → Completes part.Term line text d f

module _ (line at high : ℕ) (name rest : List ℕ) (before f : File) where
  -- what stands after a cell completes the file with it
  abbrev pub Continues : Term → Type 0
  Continues tm = CompletesFile part.Cells (line + 1) rest (add_cell before (cell_decl at high name tm)) f

  -- ---- `const`

  const_tokens : (w v : ℕ) → w ≤ widest
      → tokens_from 0 line (constant w v ++ (codes ";\n" ++ rest)) ≡ token (constant w v) line ∷ token (codes ";") line ∷ tokens_from 0 (line + 1) rest
  const_tokens w v h =
      word_token (constant w v) (codes ";\n" ++ rest) line (constant_word w v (omega arith)) refl ∙ ap (λ z. token (constant w v) line ∷ z) (line_end rest line)

  const_chosen : (x : List ℕ) → is_some (constant_of x) ≡ true → chosen part.Term x ≡ Some rule.ConstTerm
  unfolding chosen
  const_chosen x h = cond-true _ _ _ h

  -- the text of a constant completes a cell, where what follows goes on with the constant
  pub const_term : (w v : ℕ) → 1 ≤ w → w ≤ widest → v < 2 ^ w → Continues (t.Const w v)
      → CompletesTerm line (constant w v ++ (codes ";\n" ++ rest)) before at high name f
  const_term w v low most small k d h =
      let back = constant_back w v low most small in
      let some : is_some (constant_of (constant w v)) ≡ true = ap is_some back in
      let row : Row = token (codes ";") line ∷ [] in
      let fit : AllFit (fields rule.ConstTerm) (token (constant w v) line ∷ row) = more some (more refl none) in
      let same : term d.operand rule.ConstTerm (token (constant w v) line ∷ row) ≡ t.Const w v =
      ap (λ (o : Option Constant). let c = unwrap_or o (record { width = 0; value = 0 }) in t.Const c.width c.value) back in
      one_rule part.Term rule.ConstTerm line (line + 1)
      (constant w v ++ (codes ";\n" ++ rest)) rest (token (constant w v) line) row d f (const_chosen (constant w v) some) fit (const_tokens w v most)
      (k _ (cell_added d before at high name rule.ConstTerm (token (constant w v) line ∷ row) (t.Const w v) h same) h.writes)

  -- ---- `~id`

  not_first : (x : List ℕ) → tokens_from 0 line (codes "~" ++ x) ≡ token (codes "~") line ∷ tokens_from 0 line x
  unfolding piece_at
  not_first x = refl

  not_chosen : chosen part.Term (codes "~") ≡ Some rule.NotTerm
  unfolding chosen constant_of number_of
  not_chosen = refl

  -- the text of a complement completes a cell, where what follows goes on with the complement
  pub not_term : (a : List ℕ) → IsOperandText a → Continues (t.Not a) → CompletesTerm line (codes "~" ++ (a ++ (codes ";\n" ++ rest))) before at high name f
  not_term a o k d h =
      let row : Row = token a line ∷ token (codes ";") line ∷ [] in
      let fit : AllFit (fields rule.NotTerm) (token (codes "~") line ∷ row) = more refl (more o.operand (more refl none)) in
      let lexed : tokens_from 0 line (codes "~" ++ (a ++ (codes ";\n" ++ rest))) ≡ token (codes "~") line ∷ row ++ tokens_from 0 (line + 1) rest =
      not_first (a ++ (codes ";\n" ++ rest))
      ∙ (ap (λ z. token (codes "~") line ∷ z) (word_token a (codes ";\n" ++ rest) line o.word refl)
      ∙ ap (λ z. token (codes "~") line ∷ token a line ∷ z) (line_end rest line)) in
      one_rule part.Term rule.NotTerm line (line + 1) (codes "~" ++ (a ++ (codes ";\n" ++ rest))) rest (token (codes "~") line) row d f not_chosen fit lexed
      (k _ (cell_added d before at high name rule.NotTerm (token (codes "~") line ∷ row) (t.Not a) h refl) h.writes)

  -- ---- a first operand

  -- a draft with a cell's head keeps it as a first operand is read
  pub with_first : (d : Draft) (a : List ℕ) → IsHeaded d before at high name → IsHeaded (with_operand d (token a line ∷ [])) before at high name
  with_first d a h = record { file = h.file; writes = h.writes; line_is = h.line_is; name_is = h.name_is; high_is = h.high_is; target_is = h.target_is }

  -- a term that begins with an operand is completed by what follows, with that operand as the first
  pub first_operand : (a more_text : List ℕ) (d : Draft) → IsOperandText a → tokens_from 0 line (a ++ more_text) ≡ token a line ∷ tokens_from 0 line more_text
      → Completes part.AfterOperand line more_text (with_operand d (token a line ∷ [])) f → Completes part.Term line (a ++ more_text) d f
  first_operand a more_text d o e k =
      one_rule part.Term rule.FirstOperand line line (a ++ more_text) more_text (token a line) [] d f o.begins (more o.operand none) e k

  -- ---- `id op id`

  operator_tokens : (o : BinOp) (x : List ℕ)
      → tokens_from 0 line (codes " " ++ (operator o ++ (codes " " ++ x))) ≡ token (operator o) line ∷ tokens_from 0 line x
  unfolding piece_at
  operator_tokens op.Add x = refl
  operator_tokens op.Sub x = refl
  operator_tokens op.Mul x = refl
  operator_tokens op.And x = refl
  operator_tokens op.Or x = refl
  operator_tokens op.Xor x = refl
  operator_tokens op.Eq x = refl
  operator_tokens op.Ne x = refl
  operator_tokens op.Lt x = refl
  operator_tokens op.Shl x = refl
  operator_tokens op.Shr x = refl

  operator_chosen : (x : List ℕ) → is_some (operator_of x) ≡ true → chosen part.AfterOperand x ≡ Some rule.BinTerm
  unfolding chosen
  operator_chosen x h = cond-true _ _ _ h

  -- the text of an operator between two operands completes a cell, where what follows goes on with it
  pub bin_term : (o : BinOp) (a b : List ℕ) → IsOperandText a → IsOperandText b → Continues (t.Bin o a b)
      → CompletesTerm line (a ++ (codes " " ++ (operator o ++ (codes " " ++ (b ++ (codes ";\n" ++ rest)))))) before at high name f
  bin_term o a b p q k d h =
      let back = operator_back o in
      let some : is_some (operator_of (operator o)) ≡ true = ap is_some back in
      let later = codes " " ++ (operator o ++ (codes " " ++ (b ++ (codes ";\n" ++ rest)))) in
      let row : Row = token b line ∷ token (codes ";") line ∷ [] in
      let fit : AllFit (fields rule.BinTerm) (token (operator o) line ∷ row) = more some (more q.operand (more refl none)) in
      let one = with_operand d (token a line ∷ []) in
      let same : term a rule.BinTerm (token (operator o) line ∷ row) ≡ t.Bin o a b = ap (λ (z : Option BinOp). t.Bin (unwrap_or z op.Add) a b) back in
      let lexed : tokens_from 0 line later ≡ token (operator o) line ∷ row ++ tokens_from 0 (line + 1) rest =
      operator_tokens o (b ++ (codes ";\n" ++ rest))
      ∙ (ap (λ z. token (operator o) line ∷ z) (word_token b (codes ";\n" ++ rest) line q.word refl)
      ∙ ap (λ z. token (operator o) line ∷ token b line ∷ z) (line_end rest line)) in
      first_operand a later d p (word_token a later line p.word refl)
      (one_rule part.AfterOperand rule.BinTerm line (line + 1) later rest (token (operator o) line) row one f (operator_chosen (operator o) some) fit lexed
      (k _ (cell_added one before at high name rule.BinTerm (token (operator o) line ∷ row) (t.Bin o a b) (with_first d a h) same) h.writes))

  -- ---- `id ? id : id`

  question_first : (x : List ℕ) → tokens_from 0 line (codes " ? " ++ x) ≡ token (codes "?") line ∷ tokens_from 0 line x
  unfolding piece_at
  question_first x = refl

  colon_first : (x : List ℕ) → tokens_from 0 line (codes " : " ++ x) ≡ token (codes ":") line ∷ tokens_from 0 line x
  unfolding piece_at
  colon_first x = refl

  mux_chosen : chosen part.AfterOperand (codes "?") ≡ Some rule.MuxTerm
  unfolding chosen operator_of
  mux_chosen = refl

  -- the text of a choice completes a cell, where what follows goes on with the choice
  pub mux_term : (x a b : List ℕ) → IsOperandText x → IsOperandText a → IsOperandText b → Continues (t.Mux x a b)
      → CompletesTerm line (x ++ (codes " ? " ++ (a ++ (codes " : " ++ (b ++ (codes ";\n" ++ rest)))))) before at high name f
  mux_term x a b o p q k d h =
      let last = codes " : " ++ (b ++ (codes ";\n" ++ rest)) in
      let later = codes " ? " ++ (a ++ last) in
      let row : Row = token a line ∷ token (codes ":") line ∷ token b line ∷ token (codes ";") line ∷ [] in
      let fit : AllFit (fields rule.MuxTerm) (token (codes "?") line ∷ row) = more refl (more p.operand (more refl (more q.operand (more refl none)))) in
      let one = with_operand d (token x line ∷ []) in
      let lexed : tokens_from 0 line later ≡ token (codes "?") line ∷ row ++ tokens_from 0 (line + 1) rest =
      question_first (a ++ last)
      ∙ (ap (λ z. token (codes "?") line ∷ z) (word_token a last line p.word refl)
      ∙ (ap (λ z. token (codes "?") line ∷ token a line ∷ z) (colon_first (b ++ (codes ";\n" ++ rest)))
      ∙ (ap (λ z. token (codes "?") line ∷ token a line ∷ token (codes ":") line ∷ z) (word_token b (codes ";\n" ++ rest) line q.word refl)
      ∙ ap (λ z. token (codes "?") line ∷ token a line ∷ token (codes ":") line ∷ token b line ∷ z) (line_end rest line)))) in
      first_operand x later d o (word_token x later line o.word refl)
      (one_rule part.AfterOperand rule.MuxTerm line (line + 1) later rest (token (codes "?") line) row one f mux_chosen fit lexed
      (k _ (cell_added one before at high name rule.MuxTerm (token (codes "?") line ∷ row) (t.Mux x a b) (with_first d x h) refl) h.writes))
