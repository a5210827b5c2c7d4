-- The blocks of arrays, and the last line.
use Rattle.std.proofs.Common.{◌≡◌, ℕ, ◌+◌, true, List, [], ◌∷◌, ◌++◌, codes, Some, refl, ap, ◌∙◌}
use Rattle.pdl_vread_text.specs.declared.part.Part.{Part}
use Rattle.pdl_vread_text.specs.declared.part.Part.TheVariants as part
use Rattle.pdl_vread_text.specs.declared.rule.VerilogRule.TheVariants as rule
use Rattle.pdl_vread_text.specs.declared.file.File.{File}
use Rattle.pdl_vread_text.specs.declared.file.ArrayBlock.{ArrayBlock}
use Rattle.pdl_vread_text.specs.declared.file.WriteDecl.{WriteDecl}
use Rattle.pdl_vread_text.specs.declared.draft.Draft.{Draft}
use Rattle.pdl_vread_text.specs.Tokens.{piece_at, tokens_from}
use Rattle.pdl_vread_text.specs.Words.{is_name}
use Rattle.pdl_vread_text.specs.Grammar.{Row, AllFit, none, more, finished, fields, chosen}
use Rattle.pdl_vread_text.specs.Drafts.{all_taken, with_block, with_array_block}
use Rattle.pdl_vlog.specs.Layout.{always}
use Rattle.pdl_verilog.proofs.WordTokens.{token, word_token, line_end}
use Rattle.pdl_verilog.proofs.Names.{IsOperandText, name_word, after_prefix}
use Rattle.pdl_verilog.proofs.RuleSteps.{Completes, CompletesFile, one_rule}
use Rattle.pdl_verilog.proofs.Drives.{always_row, always_fits}

-- the text, from a line on, completes each draft with this file, with these writes and with a block that begins at a line
abbrev pub CompletesBlock : Part → ℕ → List ℕ → File → List WriteDecl → ℕ → File → Type 0
CompletesBlock p line text before ws at f = (d : Draft) → d.file ≡ before → d.writes ≡ ws → d.line ≡ at → Completes p line text d f

abbrev add_array_block : File → ArrayBlock → File
add_array_block f g = record f { array_blocks = f.array_blocks ++ g ∷ [] }

module _ (line : ℕ) (rest : List ℕ) (before f : File) where
  -- ---- one write

  if_first : (x : List ℕ) → tokens_from 0 line (codes "if (" ++ x) ≡ token (codes "if") line ∷ token (codes "(") line ∷ tokens_from 0 line x
  unfolding piece_at
  if_first x = refl

  close_first : (x : List ℕ) → tokens_from 0 line (codes ") " ++ x) ≡ token (codes ")") line ∷ tokens_from 0 line x
  unfolding piece_at
  close_first x = refl

  square_first : (x : List ℕ) → tokens_from 0 line (codes "[" ++ x) ≡ token (codes "[") line ∷ tokens_from 0 line x
  unfolding piece_at
  square_first x = refl

  takes_first : (x : List ℕ) → tokens_from 0 line (codes "] <= " ++ x) ≡ token (codes "]") line ∷ token (codes "<=") line ∷ tokens_from 0 line x
  unfolding piece_at
  takes_first x = refl

  -- what the write of a value to an array at an address, where a net is 1, declares on this line
  abbrev pub write_decl : List ℕ → List ℕ → List ℕ → List ℕ → WriteDecl
  write_decl e m a v = record { line = line; enable = e; array = m; addr = a; value = v }

  -- `if (id) a_id[id] <= id;`, at a part where it may stand
  pub write_line : (p : Part) (e m a v : List ℕ) (ws : List WriteDecl) (at : ℕ)
      → chosen p (codes "if") ≡ Some rule.Written → IsOperandText e → is_name m ≡ true → IsOperandText a
      → IsOperandText v
      → CompletesBlock part.Writes (line + 1) rest before (ws ++ write_decl e (codes "a_" ++ m) a v ∷ []) at f
      → CompletesBlock p line
      (codes "if (" ++ (e ++ (codes ") " ++ ((codes "a_" ++ m) ++ (codes "[" ++ (a ++ (codes "] <= " ++ (v ++ (codes ";\n" ++ rest))))))))) before ws at f
  write_line p e m a v ws at c oe named oa ov k d file writes line_is =
      let array = codes "a_" ++ m in
      let t0 = token (codes "if") line in
      let last = codes ";\n" ++ rest in
      let four = codes "] <= " ++ (v ++ last) in
      let three = codes "[" ++ (a ++ four) in
      let two = codes ") " ++ (array ++ three) in
      let text = codes "if (" ++ (e ++ two) in
      let row : Row =
      token (codes "(") line ∷ token e line ∷ token (codes ")") line ∷ token array line ∷ token (codes "[") line
      ∷ token a line ∷ token (codes "]") line ∷ token (codes "<=") line ∷ token v line ∷ token (codes ";") line
      ∷ [] in
      let fit : AllFit (fields rule.Written) (t0 ∷ row) =
      more refl
      (more refl (more oe.operand (more refl (more named (more refl (more oa.operand (more refl (more refl (more ov.operand (more refl none)))))))))) in
      let lexed : tokens_from 0 line text ≡ t0 ∷ row ++ tokens_from 0 (line + 1) rest =
      if_first (e ++ two)
      ∙ (ap (λ z. t0 ∷ token (codes "(") line ∷ z) (word_token e two line oe.word refl)
      ∙ (ap (λ z. t0 ∷ token (codes "(") line ∷ token e line ∷ z) (close_first (array ++ three))
      ∙ (ap (λ z. t0 ∷ token (codes "(") line ∷ token e line ∷ token (codes ")") line ∷ z)
      (word_token array three line (after_prefix (codes "a_") m refl (name_word m named)) refl)
      ∙ (ap (λ z. t0 ∷ token (codes "(") line ∷ token e line ∷ token (codes ")") line ∷ token array line ∷ z) (square_first (a ++ four))
      ∙ (ap (λ z. t0 ∷ token (codes "(") line ∷ token e line ∷ token (codes ")") line ∷ token array line ∷ token (codes "[") line ∷ z)
      (word_token a four line oa.word refl)
      ∙ (ap (λ z. t0 ∷ token (codes "(") line ∷ token e line ∷ token (codes ")") line ∷ token array line ∷ token (codes "[") line ∷ token a line ∷ z)
      (takes_first (v ++ last))
      ∙ (ap
      (λ z. t0 ∷ token (codes "(") line ∷ token e line ∷ token (codes ")") line ∷ token array line
      ∷ token (codes "[") line ∷ token a line ∷ token (codes "]") line ∷ token (codes "<=") line ∷ z)
      (word_token v last line ov.word refl)
      ∙ ap
      (λ z. t0 ∷ token (codes "(") line ∷ token e line ∷ token (codes ")") line ∷ token array line
      ∷ token (codes "[") line ∷ token a line ∷ token (codes "]") line ∷ token (codes "<=") line ∷ token v line ∷ z)
      (line_end rest line)))))))) in
      one_rule p rule.Written line (line + 1) text rest t0 row d f c fit lexed
      (k _ file (ap (λ z. z ++ write_decl e array a v ∷ []) writes) line_is)

  -- ---- the ends of a block

  end_tokens : tokens_from 0 line (codes "end\n" ++ rest) ≡ token (codes "end") line ∷ [] ++ tokens_from 0 (line + 1) rest
  unfolding piece_at
  end_tokens = refl

  end_chosen : chosen part.Writes (codes "end") ≡ Some rule.ArrayEnd
  unfolding chosen
  end_chosen = refl

  -- `end` completes a block of an array, where what follows completes the file with that block
  pub block_end : (ws : List WriteDecl) (at : ℕ)
      → CompletesFile part.ArrayBlocks (line + 1) rest (add_array_block before (record { line = at; writes = ws })) f
      → CompletesBlock part.Writes line (codes "end\n" ++ rest) before ws at f
  block_end ws at k d file writes line_is =
      let added : (with_array_block d).file ≡ add_array_block before (record { line = at; writes = ws }) =
      ap (λ (g : File). add_array_block g (record { line = d.line; writes = d.writes })) file
      ∙ (ap (λ n. add_array_block before (record { line = n; writes = d.writes })) line_is
      ∙ ap (λ z. add_array_block before (record { line = at; writes = z })) writes) in
      one_rule part.Writes rule.ArrayEnd line (line + 1) (codes "end\n" ++ rest) rest (token (codes "end") line)
      [] d f end_chosen (more refl none) end_tokens (k (with_array_block d) added refl)

  begin_tokens : tokens_from 0 line (codes " begin\n" ++ rest) ≡ token (codes "begin") line ∷ [] ++ tokens_from 0 (line + 1) rest
  unfolding piece_at
  begin_tokens = refl

  begin_chosen : chosen part.Block (codes "begin") ≡ Some rule.ArrayBegin
  unfolding chosen
  begin_chosen = refl

  head_tokens : (x : List ℕ)
      → tokens_from 0 line (always ++ (codes " " ++ x)) ≡ token (codes "always") line ∷ always_row line rest before f ++ tokens_from 0 line (codes " " ++ x)
  unfolding piece_at always
  head_tokens x = refl

  -- the text of the first block of an array completes the file, where what follows its first line completes the block
  pub first_block : (p : Part) → chosen p (codes "always") ≡ Some rule.BlockHead
      → CompletesBlock part.FirstWrite (line + 1) rest before [] line f
      → CompletesFile p line (always ++ (codes " begin\n" ++ rest)) before f
  first_block p c k d file writes =
      let row = always_row line rest before f in
      let t0 = token (codes "always") line in
      let one = with_block d (t0 ∷ row) in
      one_rule p rule.BlockHead line line (always ++ (codes " begin\n" ++ rest))
      (codes " begin\n" ++ rest) t0 row d f c (always_fits line rest before f)
      (head_tokens (codes "begin\n" ++ rest))
      (one_rule part.Block rule.ArrayBegin line (line + 1) (codes " begin\n" ++ rest) rest (token (codes "begin") line)
      [] one f begin_chosen (more refl none) begin_tokens (k one file writes refl))

  array_chosen : chosen part.ArrayBlocks (codes "always") ≡ Some rule.ArrayHead
  unfolding chosen
  array_chosen = refl

  later_tokens : tokens_from 0 line (always ++ (codes " begin\n" ++ rest))
      ≡ token (codes "always") line ∷ token (codes "@") line ∷ token (codes "(") line ∷ token (codes "posedge") line
      ∷ token (codes "clk") line ∷ token (codes ")") line ∷ token (codes "begin") line
      ∷ tokens_from 0 (line + 1) rest
  unfolding piece_at always
  later_tokens = refl

  -- the text of a later block of an array completes the file, where what follows its first line completes the block
  pub later_block : CompletesBlock part.FirstWrite (line + 1) rest before [] line f
      → CompletesFile part.ArrayBlocks line (always ++ (codes " begin\n" ++ rest)) before f
  later_block k d file writes =
      let t0 = token (codes "always") line in
      let row : Row =
      token (codes "@") line ∷ token (codes "(") line ∷ token (codes "posedge") line ∷ token (codes "clk") line
      ∷ token (codes ")") line ∷ token (codes "begin") line ∷ [] in
      let fit : AllFit (fields rule.ArrayHead) (t0 ∷ row) = more refl (more refl (more refl (more refl (more refl (more refl (more refl none)))))) in
      one_rule part.ArrayBlocks rule.ArrayHead line (line + 1)
      (always ++ (codes " begin\n" ++ rest)) rest t0 row d f array_chosen fit later_tokens (k (with_block d (t0 ∷ row)) file writes refl)

-- ---- the last line

last_tokens : (line : ℕ) → tokens_from 0 line (codes "endmodule\n") ≡ token (codes "endmodule") line ∷ []
unfolding piece_at
last_tokens line = refl

nothing_left : (d : Draft) (f : File) → d.file ≡ f → (all_taken d []).file ≡ f
unfolding all_taken
nothing_left d f e = e

-- the last line completes a file as it is, at a part where it may stand
pub last_line : (p : Part) (line : ℕ) (f : File)
    → chosen p (codes "endmodule") ≡ Some rule.Ending → CompletesFile p line (codes "endmodule\n") f f
last_line p line f c d file writes =
    let done : Completes part.Finished (line + 1) [] d f = record { rules = []; derives = finished; same = nothing_left d f file } in
    one_rule p rule.Ending line (line + 1) (codes "endmodule\n") [] (token (codes "endmodule") line) [] d f c (more refl none) (last_tokens line) done
