-- The two lines of a cell, up to its right side.
use Rattle.std.proofs.Common.{◌≡◌, ℕ, ◌+◌, ◌-◌, ◌^◌, ◌<◌, ◌≤◌, List, [], ◌∷◌, ◌++◌, codes, decimal, Some, refl, ap, ◌∙◌, arith}
use Rattle.pdl_net.specs.Well.{IsWidth}
use Rattle.pdl_vread_text.specs.declared.part.Part.{Part}
use Rattle.pdl_vread_text.specs.declared.rule.VerilogRule.TheVariants as rule
use Rattle.pdl_vread_text.specs.declared.file.File.{File}
use Rattle.pdl_vread_text.specs.Tokens.{piece_at, tokens_from}
use Rattle.pdl_vread_text.specs.Grammar.{Row, AllFit, none, more, fields, chosen}
use Rattle.pdl_vread_text.specs.Drafts.{with_head}
use Rattle.pdl_vlog.specs.Layout.{range}
use Rattle.pdl_verilog.proofs.Numbers.{decimals_are}
use Rattle.pdl_verilog.proofs.WordTokens.{token, word_token, space_first}
use Rattle.pdl_verilog.proofs.Names.{cell_text}
use Rattle.pdl_verilog.proofs.RuleSteps.{CompletesFile, one_rule}
use Rattle.pdl_verilog.proofs.Declarations.{range_row, range_tokens, number_fits, high_back}
use Rattle.pdl_verilog.proofs.Terms.{IsHeaded, CompletesTerm}
use Rattle.pdl_word.specs.Words.{widest}

wire_first : (x : List ℕ) (line : ℕ) → tokens_from 0 line (codes "wire " ++ x) ≡ token (codes "wire") line ∷ tokens_from 0 line x
unfolding piece_at
wire_first x line = refl

assign_first : (x : List ℕ) (line : ℕ)
    → tokens_from 0 line (codes ";\nassign " ++ x) ≡ token (codes ";") line ∷ token (codes "assign") (line + 1) ∷ tokens_from 0 (line + 1) x
unfolding piece_at
assign_first x line = refl

equals_first : (x : List ℕ) (line : ℕ) → tokens_from 0 line (codes " = " ++ x) ≡ token (codes "=") line ∷ tokens_from 0 line x
unfolding piece_at
equals_first x line = refl

-- `wire range n_id ; assign n_id =`, at a part where it may stand
pub cell_head : (p : Part) (line k w : ℕ) (x : List ℕ) (before f : File)
    → chosen p (codes "wire") ≡ Some rule.CellHead → k < 2 ^ 64 → IsWidth w
    → CompletesTerm (line + 1) x before (line + 1) (w - 1) (codes "n" ++ decimal k) f
    → CompletesFile p line
    (codes "wire "
    ++ (range w ++ (codes " " ++ ((codes "n" ++ decimal k) ++ (codes ";\nassign " ++ ((codes "n" ++ decimal k) ++ (codes " = " ++ x))))))) before f
cell_head p line k w x before f c l wide later d file writes =
    let name = codes "n" ++ decimal k in
    let t0 = token (codes "wire") line in
    let last = codes " = " ++ x in
    let middle = codes ";\nassign " ++ (name ++ last) in
    let text = codes "wire " ++ (range w ++ (codes " " ++ (name ++ middle))) in
    let most : w ≤ widest = wide.high in
    let small : w - 1 < 1000000 = omega arith in
    let end : Row = token name line ∷ token (codes ";") line ∷ token (codes "assign") (line + 1) ∷ token name (line + 1) ∷ token (codes "=") (line + 1) ∷ [] in
    let row : Row = range_row line w end in
    let fit : AllFit (fields rule.CellHead) (t0 ∷ row) =
    more refl
    (more refl
    (more (number_fits (w - 1) small)
    (more refl (more refl (more refl (more (decimals_are k l) (more refl (more refl (more (decimals_are k l) (more refl none)))))))))) in
    let named : tokens_from 0 line (codes " " ++ (name ++ middle)) ≡ end ++ tokens_from 0 (line + 1) x =
    space_first (name ++ middle) line
    ∙ (word_token name middle line (cell_text k l).word refl
    ∙ (ap (λ z. token name line ∷ z) (assign_first (name ++ last) line)
    ∙ (ap (λ z. token name line ∷ token (codes ";") line ∷ token (codes "assign") (line + 1) ∷ z) (word_token name last (line + 1) (cell_text k l).word refl)
    ∙ ap (λ z. token name line ∷ token (codes ";") line ∷ token (codes "assign") (line + 1) ∷ token name (line + 1) ∷ z) (equals_first x (line + 1))))) in
    let lexed : tokens_from 0 line text ≡ t0 ∷ row ++ tokens_from 0 (line + 1) x =
    wire_first (range w ++ (codes " " ++ (name ++ middle))) line
    ∙ (ap (λ z. t0 ∷ z) (range_tokens w line (codes " " ++ (name ++ middle)) most) ∙ ap (λ z. t0 ∷ range_row line w z) named) in
    let headed : IsHeaded (with_head d (t0 ∷ row)) before (line + 1) (w - 1) name =
    record { file = file; writes = writes; line_is = refl; name_is = refl; high_is = high_back (w - 1) small; target_is = refl } in
    one_rule p rule.CellHead line (line + 1) text x t0 row d f c fit lexed (later (with_head d (t0 ∷ row)) headed)
