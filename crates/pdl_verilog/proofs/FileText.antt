-- The whole text of a netlist is that of the file that it declares.
use Rattle.std.proofs.Common.{◌≡◌, ℕ, ◌+◌, ◌^◌, ◌<◌, true, List, [], ◌∷◌, ◌++◌, length, append_assoc, append-nil, flat_map, codes, Some, refl, sym, ap, ◌∙◌, subst, arith}
use Rattle.std.specs.List.{prefix_len}
use Rattle.pdl_net.specs.declared.Array.{Array}
use Rattle.pdl_net.specs.declared.Netlist.{Netlist}
use Rattle.pdl_vread_text.specs.declared.part.Part.{Part}
use Rattle.pdl_vread_text.specs.declared.part.Part.TheVariants as part
use Rattle.pdl_vread_text.specs.declared.rule.VerilogRule.TheVariants as rule
use Rattle.pdl_vread_text.specs.declared.file.File.{File}
use Rattle.pdl_vread_text.specs.Tokens.{is_word, piece_at, tokens_from}
use Rattle.pdl_vread_text.specs.Words.{number_of, is_name}
use Rattle.pdl_vread_text.specs.Grammar.{Row, AllFit, none, more, fields, chosen}
use Rattle.pdl_vread_text.specs.Drafts.{no_draft, no_file, opened}
use Rattle.pdl_vread_text.specs.Text.{IsFile}
use Rattle.pdl_vlog.specs.Layout.{input_names, port, module_word, clock_and_reset, head, regs, array_line, cells, output, blocks, block_of, cell_width, verilog}
use Rattle.pdl_verilog.proofs.WordTokens.{IsWordText, token, word_token}
use Rattle.pdl_verilog.proofs.Names.{name_word, after_prefix}
use Rattle.pdl_verilog.proofs.RuleSteps.{Completes, CompletesFile, one_rule}
use Rattle.pdl_verilog.proofs.Head.{ArePortTexts, closing, ports_start, port_decls, add_ports, port_texts}
use Rattle.pdl_verilog.proofs.Declarations.{HaveWidths, reg_decls, add_regs, reg_lines}
use Rattle.pdl_verilog.proofs.Arrays.{AreArrayTexts, array_decl, array_decls, add_array, add_arrays, first_array, later_arrays}
use Rattle.pdl_verilog.proofs.AllCells.{AreCellTexts, cell_decls, cells_end, add_cells, cell_lines}
use Rattle.pdl_verilog.proofs.AllDrives.{AreDrivenTexts, output_decls, outputs_end, add_outputs, output_lines, AreRegTexts, block_decls, blocks_end, add_blocks, block_lines}
use Rattle.pdl_verilog.proofs.AllWrites.{AreBlockTexts, array_blocks_decls, add_array_blocks, all_blocks_at}
use Rattle.pdl_verilog.proofs.Parts.{MayCompute, at_regs, at_arrays}

-- ---- the module

module_first : (name y : List ℕ) (line : ℕ)
    → tokens_from 0 line (module_word ++ (name ++ y)) ≡ token (codes "module") line ∷ tokens_from 0 line ((codes "pdl_" ++ name) ++ y)
unfolding piece_at module_word
module_first name y line = refl

clock_first : (x : List ℕ) (line : ℕ) → tokens_from 0 line (clock_and_reset ++ x)
    ≡ token (codes "(") line ∷ token (codes "input") line ∷ token (codes "wire") line ∷ token (codes "clk") line
    ∷ token (codes ",") line ∷ token (codes "input") line ∷ token (codes "wire") line
    ∷ token (codes "[") line ∷ token (codes "0") line ∷ token (codes ":") line ∷ token (codes "0") line
    ∷ token (codes "]") line ∷ tokens_from 0 line (codes "rst" ++ x)
unfolding piece_at clock_and_reset
clock_first x line = refl

clock_apart : (x : List ℕ) → prefix_len is_word (clock_and_reset ++ x) ≡ 0
unfolding clock_and_reset
clock_apart x = refl

start_chosen : chosen part.Start (codes "module") ≡ Some rule.Opening
unfolding chosen
start_chosen = refl

-- the file of which a text has declared no more than the module
abbrev opened_file : List ℕ → File
opened_file name = record no_file { line = 1; name = name; reset_line = 1; reset_high = 0 }

opening_row : List ℕ → Row
opening_row name =
    token (codes "pdl_" ++ name) 1 ∷ token (codes "(") 1 ∷ token (codes "input") 1 ∷ token (codes "wire") 1
    ∷ token (codes "clk") 1 ∷ token (codes ",") 1 ∷ token (codes "input") 1 ∷ token (codes "wire") 1
    ∷ token (codes "[") 1 ∷ token (codes "0") 1 ∷ token (codes ":") 1 ∷ token (codes "0") 1 ∷ token (codes "]") 1 ∷ token (codes "rst") 1 ∷ []

opening_file : (name : List ℕ) → (opened no_draft (token (codes "module") 1 ∷ opening_row name)).file ≡ opened_file name
unfolding number_of opening_row
opening_file name = refl

opening_fits : (name : List ℕ) → is_name name ≡ true → AllFit (fields rule.Opening) (token (codes "module") 1 ∷ opening_row name)
unfolding number_of opening_row
opening_fits name h =
    more refl
    (more h
    (more refl
    (more refl (more refl (more refl (more refl (more refl (more refl (more refl (more refl (more refl (more refl (more refl (more refl none))))))))))))))

opening_lexed : (name x : List ℕ)
    → is_name name ≡ true → prefix_len is_word x ≡ 0
    → tokens_from 0 1 (module_word ++ (name ++ (clock_and_reset ++ x))) ≡ token (codes "module") 1 ∷ opening_row name ++ tokens_from 0 1 x
unfolding opening_row
opening_lexed name x h e =
    let rst : IsWordText (codes "rst") = record { some = omega arith; all = refl } in
    module_first name (clock_and_reset ++ x) 1
    ∙ (ap (λ z. token (codes "module") 1 ∷ z)
    (word_token (codes "pdl_" ++ name) (clock_and_reset ++ x) 1 (after_prefix (codes "pdl_") name refl (name_word name h)) (clock_apart x))
    ∙ (ap (λ z. token (codes "module") 1 ∷ token (codes "pdl_" ++ name) 1 ∷ z) (clock_first x 1)
    ∙ ap
    (λ z. token (codes "module") 1 ∷ token (codes "pdl_" ++ name) 1 ∷ token (codes "(") 1 ∷ token (codes "input") 1
    ∷ token (codes "wire") 1 ∷ token (codes "clk") 1 ∷ token (codes ",") 1 ∷ token (codes "input") 1
    ∷ token (codes "wire") 1 ∷ token (codes "[") 1 ∷ token (codes "0") 1 ∷ token (codes ":") 1 ∷ token (codes "0") 1
    ∷ token (codes "]") 1 ∷ z)
    (word_token (codes "rst") x 1 rst e)))

opening_text : (name x : List ℕ) (f : File)
    → is_name name ≡ true → prefix_len is_word x ≡ 0 → CompletesFile part.Ports 1 x (opened_file name) f
    → Completes part.Start 1 (module_word ++ (name ++ (clock_and_reset ++ x))) no_draft f
opening_text name x f h e k =
    one_rule part.Start rule.Opening 1 1 (module_word ++ (name ++ (clock_and_reset ++ x))) x (token (codes "module") 1)
    (opening_row name) no_draft f start_chosen (opening_fits name h) (opening_lexed name x h e)
    (k (opened no_draft (token (codes "module") 1 ∷ opening_row name)) (opening_file name) refl)

-- ---- arrays, after registers

first_arrays : (line : ℕ) (xs : List Array) (rest : List ℕ) (before f : File) → AreArrayTexts xs
    → ((q : Part) → MayCompute q → CompletesFile q (line + length xs) rest (add_arrays before (array_decls line xs)) f)
    → CompletesFile part.Regs line (flat_map array_line xs ++ rest) before f
first_arrays line [] rest before f h k =
    let n : line + 0 ≡ line = omega arith in
    let same : add_arrays before [] ≡ before = ap (λ gs. record before { arrays = gs }) (append-nil before.arrays) in
    subst (λ z. CompletesFile part.Regs z rest before f) n (subst (λ z. CompletesFile part.Regs (line + 0) rest z f) same (k part.Regs at_regs))
first_arrays line (a ∷ xs) rest before f h k =
    let n : line + length (a ∷ xs) ≡ (line + 1) + length xs = omega arith in
    let decl = array_decl line a in
    let decls = array_decls (line + 1) xs in
    let one = add_array before decl in
    let same : add_arrays before (decl ∷ decls) ≡ add_arrays one decls =
    ap (λ gs. record before { arrays = gs }) (sym (append_assoc before.arrays (decl ∷ []) decls)) in
    let moved : CompletesFile part.Arrays ((line + 1) + length xs) rest (add_arrays one decls) f =
    subst (λ z. CompletesFile part.Arrays z rest (add_arrays one decls) f) n
    (subst (λ z. CompletesFile part.Arrays (line + length (a ∷ xs)) rest z f) same (k part.Arrays at_arrays)) in
    subst (λ z. CompletesFile part.Regs line z before f) (sym (append_assoc (array_line a) (flat_map array_line xs) rest))
    (first_array line a (flat_map array_line xs ++ rest) before f h.0 (later_arrays (line + 1) xs rest one f h.1 moved))

-- ---- all together

-- a netlist whose text the grammar has
pub record IsTextual (n : Netlist) : Type 0 where
  pub named : is_name n.name ≡ true
  pub ports : ArePortTexts n.ports
  pub regs : HaveWidths n.regs
  pub reg_count : length n.regs < 2 ^ 64
  pub arrays : AreArrayTexts n.arrays
  pub cells : AreCellTexts (input_names n.ports) n.arrays (cell_width n) 0 n.cells
  pub cell_count : length n.cells < 2 ^ 64
  pub drives : AreDrivenTexts (input_names n.ports) n.ports
  pub blocks : AreRegTexts (input_names n.ports) n.regs
  pub writes : AreBlockTexts (input_names n.ports) n.arrays

module _ (n : Netlist) where
  abbrev inputs : List (List ℕ)
  inputs = input_names n.ports

  -- the line on which the registers begin
  abbrev pub regs_at : ℕ
  regs_at = 1 + 1

  -- the line on which the arrays begin
  abbrev pub arrays_at : ℕ
  arrays_at = regs_at + length n.regs

  -- the line on which the cells begin
  abbrev pub cells_at : ℕ
  cells_at = arrays_at + length n.arrays

  -- the line on which the `assign`s of the outputs begin
  abbrev pub outputs_at : ℕ
  outputs_at = cells_end cells_at n.cells

  -- the line on which the blocks of registers begin
  abbrev pub blocks_at : ℕ
  blocks_at = outputs_end outputs_at n.ports

  -- the line on which the blocks of arrays begin
  abbrev pub writes_at : ℕ
  writes_at = blocks_end blocks_at n.regs

  -- the file that the text declares, part after part
  abbrev with_ports : File
  with_ports = add_ports (opened_file n.name) (port_decls 1 n.ports)

  abbrev with_regs : File
  with_regs = add_regs with_ports (reg_decls regs_at 0 n.regs)

  abbrev with_arrays : File
  with_arrays = add_arrays with_regs (array_decls arrays_at n.arrays)

  abbrev with_cells : File
  with_cells = add_cells with_arrays (cell_decls inputs n.arrays (cell_width n) cells_at 0 n.cells)

  abbrev with_outputs : File
  with_outputs = add_outputs with_cells (output_decls inputs outputs_at n.ports)

  abbrev with_blocks : File
  with_blocks = add_blocks with_outputs (block_decls inputs blocks_at 0 n.regs)

  -- the whole file that the text declares
  abbrev pub declared_file : File
  declared_file = add_array_blocks with_blocks (array_blocks_decls inputs writes_at n.arrays)

  -- the text, from each kind of line on
  abbrev writes_text : List ℕ
  writes_text = flat_map (block_of inputs) n.arrays ++ codes "endmodule\n"

  abbrev blocks_text : List ℕ
  blocks_text = blocks inputs 0 n.regs ++ writes_text

  abbrev outputs_text : List ℕ
  outputs_text = flat_map (output inputs) n.ports ++ blocks_text

  abbrev cells_text : List ℕ
  cells_text = cells inputs n.arrays (cell_width n) 0 n.cells ++ outputs_text

  abbrev arrays_text : List ℕ
  arrays_text = flat_map array_line n.arrays ++ cells_text

  abbrev regs_text : List ℕ
  regs_text = regs 0 n.regs ++ arrays_text

  abbrev ports_text : List ℕ
  ports_text = flat_map port n.ports ++ closing regs_text

  completes : IsTextual n → CompletesFile part.Ports 1 ports_text (opened_file n.name) declared_file
  completes h =
      let few_regs : 0 + length n.regs < 2 ^ 64 = omega (arith, h.reg_count) in
      let few_cells : 0 + length n.cells < 2 ^ 64 = omega (arith, h.cell_count) in
      port_texts 1 n.ports regs_text (opened_file n.name) declared_file h.ports
      (reg_lines regs_at 0 n.regs arrays_text with_ports declared_file few_regs h.regs
      (first_arrays arrays_at n.arrays cells_text with_regs declared_file h.arrays (λ p c.
      cell_lines inputs n.arrays (cell_width n) n.cells p cells_at 0 outputs_text with_arrays declared_file c few_cells h.cells (λ q d.
      output_lines inputs n.ports q outputs_at blocks_text with_cells declared_file d h.drives (λ r b.
      block_lines inputs n.regs r blocks_at 0 writes_text with_outputs declared_file b few_regs h.blocks (λ s m.
      all_blocks_at inputs n.arrays s writes_at with_blocks declared_file m h.writes refl))))))

whole_split : (m name c ps rs xs cs os bs ws e : List ℕ) → (((m ++ name ++ c) ++ ps ++ codes ");\n") ++ rs ++ xs ++ cs) ++ (os ++ bs ++ ws ++ e)
    ≡ m ++ (name ++ (c ++ (ps ++ (codes ");\n" ++ (rs ++ (xs ++ (cs ++ (os ++ (bs ++ (ws ++ e))))))))))
whole_split m name c ps rs xs cs os bs ws e = simp append_assoc

text_is : (n : Netlist) → verilog n ≡ module_word ++ (n.name ++ (clock_and_reset ++ ports_text n))
unfolding verilog head
text_is n =
    let inputs = input_names n.ports in
    whole_split module_word n.name clock_and_reset (flat_map port n.ports) (regs 0 n.regs)
    (flat_map array_line n.arrays) (cells inputs n.arrays (cell_width n) 0 n.cells)
    (flat_map (output inputs) n.ports) (blocks inputs 0 n.regs) (flat_map (block_of inputs) n.arrays) (codes "endmodule\n")

-- what is written of a netlist that can be written is the text of the file that it declares
pub text_of_file : (n : Netlist) → IsTextual n → IsFile (verilog n) (declared_file n)
text_of_file n h =
    let k = opening_text n.name (ports_text n) (declared_file n) h.named (ports_start n.ports (regs_text n)) (completes n h) in
    subst (λ z. IsFile z (declared_file n)) (sym (text_is n)) (record { rules = k.rules; derives = k.derives; same = sym k.same })
