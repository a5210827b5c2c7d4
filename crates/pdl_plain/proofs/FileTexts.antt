-- The whole text of a file.
use Rattle.std.proofs.Common.{◌≡◌, ◌≤◌, inl, List, [], ◌∷◌, ◌++◌, append_assoc, append-nil, length, codes, refl, sym, ap, ◌∙◌}
use Rattle.std.specs.Prelude.{fold}
use Rattle.pdl_vread_text.specs.declared.field.Field.TheVariants as f
use Rattle.pdl_vread_text.specs.declared.part.Part.{Part}
use Rattle.pdl_vread_text.specs.declared.part.Part.TheVariants as part
use Rattle.pdl_vread_text.specs.declared.rule.VerilogRule.TheVariants as rule
use Rattle.pdl_vread_text.specs.declared.file.PortDecl.{PortDecl}
use Rattle.pdl_vread_text.specs.declared.file.RegDecl.{RegDecl}
use Rattle.pdl_vread_text.specs.declared.file.ArrayDecl.{ArrayDecl}
use Rattle.pdl_vread_text.specs.declared.file.CellDecl.{CellDecl}
use Rattle.pdl_vread_text.specs.declared.file.OutputDecl.{OutputDecl}
use Rattle.pdl_vread_text.specs.declared.file.RegBlock.{RegBlock}
use Rattle.pdl_vread_text.specs.declared.file.ArrayBlock.{ArrayBlock}
use Rattle.pdl_vread_text.specs.declared.file.File.{File}
use Rattle.pdl_vread_text.specs.declared.draft.Draft.{Draft}
use Rattle.pdl_vread_text.specs.Grammar as table
use Rattle.pdl_vread_text.specs.Grammar.{Row, Taken, AllFit, Derives, goes, fits, fields, next, chosen}
use Rattle.pdl_vread_text.specs.Drafts.{no_draft, no_file, all_taken}
use Rattle.pdl_word.specs.Each.{Each}
use Rattle.pdl_plain.specs.NetlistTexts.{Piece, word, AreTokens, no_more, all_of, port_pieces, closing, reg_pieces, array_pieces, cell_pieces, output_pieces, reg_block_pieces, array_block_pieces, text_pieces, ReadsFile}
use Rattle.pdl_plain.proofs.RuleSteps.{Goes, HasArrayBlocks, HasArrays, HasBlocks, HasCells, HasOutputs, HasPorts, HasRegs, Reads, at_ports, at_regs, at_word, by_word, lines, takes}
use Rattle.pdl_plain.proofs.DeclaredLines.{add_array, add_port, add_reg, array_line, closing_line, head_file, opening_line, port_line, reg_line}
use Rattle.pdl_plain.proofs.CellLines.{add_cell, cell_line}
use Rattle.pdl_plain.proofs.DrivenLines.{add_output, add_reg_block, output_line, reg_block_line}
use Rattle.pdl_plain.proofs.BlockLines.{add_array_block, array_blocks_read}

-- ---- the whole text

finished : (ts : Row) (d : Draft) (h : File) → AreTokens [] ts → d.file ≡ h → Goes part.Finished ts d h
unfolding all_taken
finished _ d h no_more e = record { rules = []; derives = table.finished; same = e }

ending_read : (g h : File) → g ≡ h → (p : Part) → HasArrayBlocks p → Reads p (word (codes "endmodule") ∷ []) g h
ending_read g h s p c ts d a e w =
    takes p rule.Ending (word (codes "endmodule") ∷ []) [] ts d h (by_word p rule.Ending (codes "endmodule") c.ending)
    (at_word f.EndModule (codes "endmodule") refl, tt) a (λ front back i j. finished back d h j (e ∙ s))

all_ports : (xs : List PortDecl) (g : File) → fold add_port g xs ≡ record g { ports = g.ports ++ xs }
all_ports [] g = ap (λ l. record g { ports = l }) (sym (append-nil g.ports))
all_ports (x ∷ xs) g = all_ports xs (add_port g x) ∙ ap (λ l. record g { ports = l }) (append_assoc g.ports (x ∷ []) xs)

all_regs : (xs : List RegDecl) (g : File) → fold add_reg g xs ≡ record g { regs = g.regs ++ xs }
all_regs [] g = ap (λ l. record g { regs = l }) (sym (append-nil g.regs))
all_regs (x ∷ xs) g = all_regs xs (add_reg g x) ∙ ap (λ l. record g { regs = l }) (append_assoc g.regs (x ∷ []) xs)

all_arrays : (xs : List ArrayDecl) (g : File) → fold add_array g xs ≡ record g { arrays = g.arrays ++ xs }
all_arrays [] g = ap (λ l. record g { arrays = l }) (sym (append-nil g.arrays))
all_arrays (x ∷ xs) g = all_arrays xs (add_array g x) ∙ ap (λ l. record g { arrays = l }) (append_assoc g.arrays (x ∷ []) xs)

all_cells : (xs : List CellDecl) (g : File) → fold add_cell g xs ≡ record g { cells = g.cells ++ xs }
all_cells [] g = ap (λ l. record g { cells = l }) (sym (append-nil g.cells))
all_cells (x ∷ xs) g = all_cells xs (add_cell g x) ∙ ap (λ l. record g { cells = l }) (append_assoc g.cells (x ∷ []) xs)

all_outputs : (xs : List OutputDecl) (g : File) → fold add_output g xs ≡ record g { outputs = g.outputs ++ xs }
all_outputs [] g = ap (λ l. record g { outputs = l }) (sym (append-nil g.outputs))
all_outputs (x ∷ xs) g = all_outputs xs (add_output g x) ∙ ap (λ l. record g { outputs = l }) (append_assoc g.outputs (x ∷ []) xs)

all_reg_blocks : (xs : List RegBlock) (g : File) → fold add_reg_block g xs ≡ record g { reg_blocks = g.reg_blocks ++ xs }
all_reg_blocks [] g = ap (λ l. record g { reg_blocks = l }) (sym (append-nil g.reg_blocks))
all_reg_blocks (x ∷ xs) g = all_reg_blocks xs (add_reg_block g x) ∙ ap (λ l. record g { reg_blocks = l }) (append_assoc g.reg_blocks (x ∷ []) xs)

all_array_blocks : (xs : List ArrayBlock) (g : File) → fold add_array_block g xs ≡ record g { array_blocks = g.array_blocks ++ xs }
all_array_blocks [] g = ap (λ l. record g { array_blocks = l }) (sym (append-nil g.array_blocks))
all_array_blocks (x ∷ xs) g = all_array_blocks xs (add_array_block g x) ∙ ap (λ l. record g { array_blocks = l }) (append_assoc g.array_blocks (x ∷ []) xs)

module _ (h : File) where
  abbrev g0 : File
  g0 = head_file h.line h.name h.reset_line h.reset_high no_file

  abbrev g1 : File
  g1 = fold add_port g0 h.ports

  abbrev g2 : File
  g2 = fold add_reg g1 h.regs

  abbrev g3 : File
  g3 = fold add_array g2 h.arrays

  abbrev g4 : File
  g4 = fold add_cell g3 h.cells

  abbrev g5 : File
  g5 = fold add_output g4 h.outputs

  abbrev g6 : File
  g6 = fold add_reg_block g5 h.reg_blocks

  is1 : g1 ≡ record g0 { ports = h.ports }
  is1 = all_ports h.ports g0

  is2 : g2 ≡ record g0 { ports = h.ports; regs = h.regs }
  is2 = ap (λ g. fold add_reg g h.regs) is1 ∙ all_regs h.regs (record g0 { ports = h.ports })

  is3 : g3 ≡ record g0 { ports = h.ports; regs = h.regs; arrays = h.arrays }
  is3 = ap (λ g. fold add_array g h.arrays) is2 ∙ all_arrays h.arrays (record g0 { ports = h.ports; regs = h.regs })

  is4 : g4 ≡ record g0 { ports = h.ports; regs = h.regs; arrays = h.arrays; cells = h.cells }
  is4 = ap (λ g. fold add_cell g h.cells) is3 ∙ all_cells h.cells (record g0 { ports = h.ports; regs = h.regs; arrays = h.arrays })

  is5 : g5 ≡ record g0 { ports = h.ports; regs = h.regs; arrays = h.arrays; cells = h.cells; outputs = h.outputs }
  is5 = ap (λ g. fold add_output g h.outputs) is4
      ∙ all_outputs h.outputs (record g0 { ports = h.ports; regs = h.regs; arrays = h.arrays; cells = h.cells })

  is6 : g6 ≡ record h { array_blocks = [] }
  is6 = ap (λ g. fold add_reg_block g h.reg_blocks) is5
      ∙ all_reg_blocks h.reg_blocks (record g0 { ports = h.ports; regs = h.regs; arrays = h.arrays; cells = h.cells; outputs = h.outputs })

  whole : fold add_array_block g6 h.array_blocks ≡ h
  whole = ap (λ g. fold add_array_block g h.array_blocks) is6 ∙ all_array_blocks h.array_blocks (record h { array_blocks = [] })

  abbrev last : List Piece
  last = word (codes "endmodule") ∷ []

  abbrev from_array_blocks : List Piece
  from_array_blocks = all_of array_block_pieces h.array_blocks ++ last

  abbrev from_blocks : List Piece
  from_blocks = all_of reg_block_pieces h.reg_blocks ++ from_array_blocks

  abbrev from_outputs : List Piece
  from_outputs = all_of output_pieces h.outputs ++ from_blocks

  abbrev from_cells : List Piece
  from_cells = all_of cell_pieces h.cells ++ from_outputs

  abbrev from_arrays : List Piece
  from_arrays = all_of array_pieces h.arrays ++ from_cells

  abbrev from_regs : List Piece
  from_regs = all_of reg_pieces h.regs ++ from_arrays

  abbrev Written : Type 0
  Written = Each (λ (b : ArrayBlock). 1 ≤ length b.writes) h.array_blocks

  at6 : Written → (p : Part) → HasArrayBlocks p → Reads p from_array_blocks g6 h
  at6 w p c = array_blocks_read h h.array_blocks last g6 w (ending_read (fold add_array_block g6 h.array_blocks) h whole) p c

  at5 : Written → (p : Part) → HasBlocks p → Reads p from_blocks g5 h
  at5 w p c =
      lines HasBlocks reg_block_pieces add_reg_block h (reg_block_line h) h.reg_blocks from_array_blocks g5
      (λ q b. at6 w q (record { block = inl b.block; ending = b.ending })) p c

  at4 : Written → (p : Part) → HasOutputs p → Reads p from_outputs g4 h
  at4 w p c = lines HasOutputs output_pieces add_output h (output_line h) h.outputs from_blocks g4 (λ q b. at5 w q b.blocks) p c

  at3 : Written → (p : Part) → HasCells p → Reads p from_cells g3 h
  at3 w p c = lines HasCells cell_pieces add_cell h (cell_line h) h.cells from_outputs g3 (λ q b. at4 w q b.outputs) p c

  at2 : Written → (p : Part) → HasArrays p → Reads p from_arrays g2 h
  at2 w p c = lines HasArrays array_pieces add_array h (array_line h) h.arrays from_cells g2 (λ q b. at3 w q b.cells) p c

  at1 : Written → (p : Part) → HasRegs p → Reads p from_regs g1 h
  at1 w p c =
      lines HasRegs reg_pieces add_reg h (reg_line h) h.regs from_arrays g1 (λ q b. at2 w q (record { array = inl b.reg; cells = b.cells })) p c

  at0 : Written → Reads part.Start (text_pieces h) no_file h
  at0 w =
      opening_line h (all_of port_pieces h.ports ++ (closing ++ from_regs)) no_file h
      (lines HasPorts port_pieces add_port h (port_line h) h.ports (closing ++ from_regs) g0
      (λ q b. closing_line from_regs g1 h (at1 w part.Regs at_regs) q b) part.Ports at_ports)

-- the tokens of a file's text are read as it
pub reads_file : ReadsFile
reads_file h ts x =
    let g = at0 h x.written ts no_draft x.tokens refl refl in
    record { rules = g.rules; derives = g.derives; same = sym g.same }
