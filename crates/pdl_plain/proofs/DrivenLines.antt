-- The lines that drive outputs and registers.
use Rattle.std.proofs.Common.{◌≡◌, ℕ, List, [], ◌∷◌, ◌++◌, codes, Option, Some, unwrap_or, refl, ap, ◌∙◌}
use Rattle.std.proofs.lemmas.Bool.{cond-true}
use Rattle.pdl_vread_text.specs.declared.field.Field.{Field}
use Rattle.pdl_vread_text.specs.declared.field.Field.TheVariants as f
use Rattle.pdl_vread_text.specs.declared.part.Part.{Part}
use Rattle.pdl_vread_text.specs.declared.part.Part.TheVariants as part
use Rattle.pdl_vread_text.specs.declared.rule.VerilogRule.TheVariants as rule
use Rattle.pdl_vread_text.specs.declared.file.OutputDecl.{OutputDecl}
use Rattle.pdl_vread_text.specs.declared.file.RegBlock.{RegBlock}
use Rattle.pdl_vread_text.specs.declared.file.File.{File}
use Rattle.pdl_vread_text.specs.declared.numbers.Constant.{Constant}
use Rattle.pdl_vread_text.specs.Tokens.{Token}
use Rattle.pdl_vread_text.specs.Words.{is_reg}
use Rattle.pdl_vread_text.specs.Grammar.{Row, chosen}
use Rattle.pdl_vread_text.specs.Drafts.{taken, text_at, line_at, constant_at}
use Rattle.pdl_plain.specs.NetlistTexts.{Piece, word, const, name, IsPiece, is_word, is_first, is_const, is_name as is_named, AreTokens, one_more, id, output_pieces, always, reg_block_pieces}
use Rattle.pdl_plain.proofs.RuleSteps.{AllMatch, HasBlocks, HasOutputs, Reads, at_blocks, at_const, at_first, at_id, at_outputs, at_port, at_reg, at_word, by_first, takes}
use Rattle.pdl_plain.proofs.DeclaredLines.{line_value}

-- ---- what drives outputs and registers

-- a driven output with its line, its name and its source
abbrev pub output : ℕ → List ℕ → List ℕ → OutputDecl
output line p source = record { line = line; port = p; source = source }

-- a file with one driven output more
abbrev pub add_output : File → OutputDecl → File
add_output g o = record g { outputs = g.outputs ++ o ∷ [] }

output_value : (o : OutputDecl) (front : Row)
    → AreTokens (output_pieces o) front → output (line_at front 0) (text_at front 1) (text_at front 3) ≡ o
output_value o _ (one_more is_first (one_more (is_named e) (one_more is_word (one_more (is_named k) i)))) = refl

-- the pieces of a driven output are read as it
pub output_line : (h : File) (o : OutputDecl) (qs : List Piece) (g : File) → ((q : Part) → HasOutputs q → Reads q qs (add_output g o) h)
    → (q : Part) → HasOutputs q → Reads q (output_pieces o ++ qs) g h
output_line h o qs g k q c ts d a e w =
    takes q rule.OutputDriven (output_pieces o) qs ts d h (by_first q rule.OutputDriven o.line (codes "assign") c.output) (
      at_first f.Assign (codes "assign") o.line refl,
      (
        at_port o.port,
        (
          at_word f.Equals (codes "=") refl,
          (at_id o.source, (at_word f.Semicolon (codes ";") refl, tt)),
        ),
      ),
    ) a
    (λ front back i j. k part.Outputs at_outputs back (taken d rule.OutputDriven front) j
    (ap (λ y. add_output y (output (line_at front 0) (text_at front 1) (text_at front 3))) e ∙ ap (add_output g) (output_value o front i)) w)

-- a file with one block of a register more
abbrev pub add_reg_block : File → RegBlock → File
add_reg_block g b = record g { reg_blocks = g.reg_blocks ++ b ∷ [] }

-- a block with its line, its register, the constant and the source
abbrev pub reg_block : ℕ → List ℕ → Constant → List ℕ → RegBlock
reg_block line r k source = record { line = line; reg = r; width = k.width; reset = k.value; source = source }

-- what a block of a register has after its beginning
abbrev pub driven : RegBlock → List Piece
driven b =
    name is_reg b.reg ∷ word (codes "<=") ∷ word (codes "rst") ∷ word (codes "?") ∷ const b.width b.reset
    ∷ word (codes ":") ∷ id b.source ∷ word (codes ";") ∷ []

reg_block_value : (b : RegBlock) (line : ℕ) (front : Row) → line ≡ b.line → AreTokens (driven b) front
    → reg_block line (text_at front 0) (constant_at front 4) (text_at front 6) ≡ b
reg_block_value b line _ q (one_more (is_named i) (one_more is_word (one_more is_word (one_more is_word (one_more (is_const e) (one_more is_word (one_more (is_named k) j))))))) =
    ap (λ (o : Option Constant). reg_block line b.reg (unwrap_or o (record { width = 0; value = 0 })) b.source) e
    ∙ ap (λ l. reg_block l b.reg (record { width = b.width; value = b.reset }) b.source) q

reg_driven : (x : List ℕ) (t : Token) → IsPiece (name is_reg x) t → chosen part.Block t.text ≡ Some rule.RegDriven
unfolding chosen
reg_driven x _ (is_named e) = cond-true _ _ _ e

-- what begins a block is what is asked of it
pub always_match : (line : ℕ) (gs : List Field) (ps : List Piece) → AllMatch gs ps
    → AllMatch (f.Always ∷ f.At ∷ f.OpenRound ∷ f.Posedge ∷ f.Clock ∷ f.CloseRound ∷ gs) (always line ps)
always_match line gs ps m = (
  at_first f.Always (codes "always") line refl,
  (
    at_word f.At (codes "@") refl,
    (
      at_word f.OpenRound (codes "(") refl,
      (
        at_word f.Posedge (codes "posedge") refl,
        (at_word f.Clock (codes "clk") refl, (at_word f.CloseRound (codes ")") refl, m)),
      ),
    ),
  ),
)

-- the pieces of a register's block are read as it
pub reg_block_line : (h : File) (b : RegBlock) (qs : List Piece) (g : File) → ((q : Part) → HasBlocks q → Reads q qs (add_reg_block g b) h)
    → (q : Part) → HasBlocks q → Reads q (reg_block_pieces b ++ qs) g h
reg_block_line h b qs g k q c ts d a e w =
    takes q rule.BlockHead (always b.line []) (driven b ++ qs) ts d h (by_first q rule.BlockHead b.line (codes "always") c.block)
    (always_match b.line [] [] tt) a (λ front back i j.
    takes part.Block rule.RegDriven (driven b) qs back (taken d rule.BlockHead front) h (reg_driven b.reg) (
      at_reg b.reg,
      (
        at_word f.Takes (codes "<=") refl,
        (
          at_word f.Reset (codes "rst") refl,
          (
            at_word f.Question (codes "?") refl,
            (at_const b.width b.reset, (at_word f.Colon (codes ":") refl, (at_id b.source, (at_word f.Semicolon (codes ";") refl, tt)))),
          ),
        ),
      ),
    ) j
    (λ more rest m n. k part.Blocks at_blocks rest (taken (taken d rule.BlockHead front) rule.RegDriven more) n
    (ap (λ y. add_reg_block y (reg_block (line_at front 0) (text_at more 0) (constant_at more 4) (text_at more 6))) e
    ∙ ap (add_reg_block g) (reg_block_value b (line_at front 0) more
    (line_value b.line (codes "always") (word (codes "@") ∷ word (codes "(") ∷ word (codes "posedge") ∷ word (codes "clk") ∷ word (codes ")") ∷ []) front i) m)) w))
