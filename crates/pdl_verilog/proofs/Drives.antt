-- The lines that drive outputs and registers.
use Rattle.std.proofs.Common.{◌≡◌, ℕ, ◌+◌, ◌^◌, ◌<◌, ◌≤◌, true, List, [], ◌∷◌, ◌++◌, codes, decimal, Option, Some, is_some, unwrap_or, refl, ap, ◌∙◌, arith}
use Rattle.std.proofs.lemmas.Bool.{cond-true}
use Rattle.pdl_vread_text.specs.declared.numbers.Constant.{Constant}
use Rattle.pdl_vread_text.specs.declared.part.Part.{Part}
use Rattle.pdl_vread_text.specs.declared.part.Part.TheVariants as part
use Rattle.pdl_vread_text.specs.declared.rule.VerilogRule.TheVariants as rule
use Rattle.pdl_vread_text.specs.declared.file.File.{File}
use Rattle.pdl_vread_text.specs.declared.file.OutputDecl.{OutputDecl}
use Rattle.pdl_vread_text.specs.declared.file.RegBlock.{RegBlock}
use Rattle.pdl_vread_text.specs.Tokens.{piece_at, tokens_from}
use Rattle.pdl_vread_text.specs.Words.{constant_of, are_decimals, is_port}
use Rattle.pdl_vread_text.specs.Grammar.{Row, AllFit, none, more, fields, chosen}
use Rattle.pdl_vread_text.specs.Drafts.{with_block}
use Rattle.pdl_vlog.specs.Layout.{constant, always}
use Rattle.pdl_verilog.proofs.Numbers.{constant_back, decimals_are}
use Rattle.pdl_verilog.proofs.WordTokens.{IsWordText, token, word_token, space_first, line_end}
use Rattle.pdl_verilog.proofs.Names.{IsOperandText, constant_word, reg_text}
use Rattle.pdl_verilog.proofs.RuleSteps.{CompletesFile, one_rule}
use Rattle.pdl_word.specs.Words.{widest}

-- ---- outputs

-- what a line that drives an output declares
abbrev pub output_decl : ℕ → List ℕ → List ℕ → OutputDecl
output_decl line name source = record { line = line; port = name; source = source }

-- a file with one `assign` of an output more
abbrev pub add_output : File → OutputDecl → File
add_output f g = record f { outputs = f.outputs ++ g ∷ [] }

module _ (line : ℕ) (rest : List ℕ) (before f : File) where
  assign_first : (x : List ℕ) → tokens_from 0 line (codes "assign " ++ x) ≡ token (codes "assign") line ∷ tokens_from 0 line x
  unfolding piece_at
  assign_first x = refl

  equals_first : (x : List ℕ) → tokens_from 0 line (codes " = " ++ x) ≡ token (codes "=") line ∷ tokens_from 0 line x
  unfolding piece_at
  equals_first x = refl

  -- `assign port = id ;`, at a part where it may stand
  pub output_line : (p : Part) (name a : List ℕ) → chosen p (codes "assign") ≡ Some rule.OutputDriven → IsWordText name → is_port name ≡ true → IsOperandText a
      → CompletesFile part.Outputs (line + 1) rest (add_output before (output_decl line name a)) f
      → CompletesFile p line (codes "assign " ++ (name ++ (codes " = " ++ (a ++ (codes ";\n" ++ rest))))) before f
  output_line p name a c w named o k d e v =
      let last = codes ";\n" ++ rest in
      let middle = codes " = " ++ (a ++ last) in
      let text = codes "assign " ++ (name ++ middle) in
      let row : Row = token name line ∷ token (codes "=") line ∷ token a line ∷ token (codes ";") line ∷ [] in
      let fit : AllFit (fields rule.OutputDriven) (token (codes "assign") line ∷ row) = more refl (more named (more refl (more o.operand (more refl none)))) in
      let lexed : tokens_from 0 line text ≡ token (codes "assign") line ∷ row ++ tokens_from 0 (line + 1) rest =
      assign_first (name ++ middle)
      ∙ (ap (λ z. token (codes "assign") line ∷ z) (word_token name middle line w refl)
      ∙ (ap (λ z. token (codes "assign") line ∷ token name line ∷ z) (equals_first (a ++ last))
      ∙ (ap (λ z. token (codes "assign") line ∷ token name line ∷ token (codes "=") line ∷ z) (word_token a last line o.word refl)
      ∙ ap (λ z. token (codes "assign") line ∷ token name line ∷ token (codes "=") line ∷ token a line ∷ z) (line_end rest line)))) in
      one_rule p rule.OutputDriven line (line + 1) text rest (token (codes "assign") line) row d f c fit lexed
      (k _ (ap (λ (g : File). add_output g (output_decl line name a)) e) v)

  -- ---- registers

  -- a file with one block of a register more
  abbrev pub add_block : File → RegBlock → File
  add_block f g = record f { reg_blocks = f.reg_blocks ++ g ∷ [] }

  -- what the block of the r-th register declares: its width, its reset value, and the name of its next value's net
  abbrev pub reg_block : ℕ → ℕ → ℕ → List ℕ → RegBlock
  reg_block r w v a = record { line = line; reg = codes "r" ++ decimal r; width = w; reset = v; source = a }

  -- the tokens of `always @(posedge clk)` after its first word
  abbrev pub always_row : Row
  always_row = token (codes "@") line ∷ token (codes "(") line ∷ token (codes "posedge") line ∷ token (codes "clk") line ∷ token (codes ")") line ∷ []

  -- the tokens of a text that begins with `always @(posedge clk)` and a space are those of that head and those of the rest
  pub always_tokens : (x : List ℕ)
      → tokens_from 0 line (always ++ (codes " " ++ x)) ≡ token (codes "always") line ∷ always_row ++ tokens_from 0 line (codes " " ++ x)
  unfolding piece_at always
  always_tokens x = refl

  -- the tokens of `always @(posedge clk)` fit the fields of the rule of a block's head
  pub always_fits : AllFit (fields rule.BlockHead) (token (codes "always") line ∷ always_row)
  always_fits = more refl (more refl (more refl (more refl (more refl (more refl none)))))

  takes_first : (x : List ℕ)
      → tokens_from 0 line (codes " <= rst ? " ++ x) ≡ token (codes "<=") line ∷ token (codes "rst") line ∷ token (codes "?") line ∷ tokens_from 0 line x
  unfolding piece_at
  takes_first x = refl

  colon_first : (x : List ℕ) → tokens_from 0 line (codes " : " ++ x) ≡ token (codes ":") line ∷ tokens_from 0 line x
  unfolding piece_at
  colon_first x = refl

  reg_chosen : (x : List ℕ) → are_decimals x ≡ true → chosen part.Block (codes "r" ++ x) ≡ Some rule.RegDriven
  unfolding chosen
  reg_chosen x h = cond-true _ _ _ h

  -- `always @(posedge clk) r_id <= rst ? const : id ;`, at a part where it may stand
  pub block_line : (p : Part) (r w v : ℕ) (a : List ℕ) → chosen p (codes "always") ≡ Some rule.BlockHead → r < 2 ^ 64
      → 1 ≤ w → w ≤ widest → v < 2 ^ w → IsOperandText a
      → CompletesFile part.Blocks (line + 1) rest (add_block before (reg_block r w v a)) f
      → CompletesFile p line
      (always
      ++ (codes " " ++ ((codes "r" ++ decimal r) ++ (codes " <= rst ? " ++ (constant w v ++ (codes " : " ++ (a ++ (codes ";\n" ++ rest)))))))) before f
  block_line p r w v a c l low high small o k d e writes =
      let name = codes "r" ++ decimal r in
      let const = constant w v in
      let last = codes ";\n" ++ rest in
      let inner = codes " : " ++ (a ++ last) in
      let middle = codes " <= rst ? " ++ (const ++ inner) in
      let back = constant_back w v low high small in
      let some : is_some (constant_of const) ≡ true = ap is_some back in
      let one = with_block d (token (codes "always") line ∷ always_row) in
      let row : Row =
      token (codes "<=") line ∷ token (codes "rst") line ∷ token (codes "?") line ∷ token const line
      ∷ token (codes ":") line ∷ token a line ∷ token (codes ";") line ∷ [] in
      let fit : AllFit (fields rule.RegDriven) (token name line ∷ row) =
      more (decimals_are r l) (more refl (more refl (more refl (more some (more refl (more o.operand (more refl none))))))) in
      let lexed : tokens_from 0 line (codes " " ++ (name ++ middle)) ≡ token name line ∷ row ++ tokens_from 0 (line + 1) rest =
      space_first (name ++ middle) line
      ∙ (word_token name middle line (reg_text r l).word refl
      ∙ (ap (λ z. token name line ∷ z) (takes_first (const ++ inner))
      ∙ (ap (λ z. token name line ∷ token (codes "<=") line ∷ token (codes "rst") line ∷ token (codes "?") line ∷ z)
      (word_token const inner line (constant_word w v (omega arith)) refl)
      ∙ (ap (λ z. token name line ∷ token (codes "<=") line ∷ token (codes "rst") line ∷ token (codes "?") line ∷ token const line ∷ z)
      (colon_first (a ++ last))
      ∙ (ap (λ z. token name line ∷ token (codes "<=") line ∷ token (codes "rst") line ∷ token (codes "?") line ∷ token const line ∷ token (codes ":") line ∷ z)
      (word_token a last line o.word refl)
      ∙ ap
      (λ z. token name line ∷ token (codes "<=") line ∷ token (codes "rst") line ∷ token (codes "?") line
      ∷ token const line ∷ token (codes ":") line ∷ token a line ∷ z)
      (line_end rest line)))))) in
      let B : File → Option Constant → File = λ g z. let n = unwrap_or z (record { width = 0; value = 0 }) in add_block g (reg_block r n.width n.value a) in
      one_rule p rule.BlockHead line line (always ++ (codes " " ++ (name ++ middle))) (codes " " ++ (name ++ middle))
      (token (codes "always") line) always_row d f c always_fits (always_tokens (name ++ middle))
      (one_rule part.Block rule.RegDriven line (line + 1)
      (codes " " ++ (name ++ middle)) rest (token name line) row one f (reg_chosen (decimal r) (decimals_are r l)) fit lexed
      (k _ (ap (λ (g : File). B g (constant_of const)) e ∙ ap (λ (z : Option Constant). B before z) back) writes))
