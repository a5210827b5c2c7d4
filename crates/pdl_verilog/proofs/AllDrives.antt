-- The lines of all outputs, and of the blocks of all registers.
use Rattle.std.proofs.Common.{◌≡◌, ℕ, suc, ◌+◌, ◌^◌, ◌<◌, true, List, [], ◌∷◌, ◌++◌, length, append_assoc, append-nil, flat_map, codes, decimal, sym, ap, ◌∙◌, subst, arith}
use Rattle.pdl_net.specs.declared.Dir.{Dir}
use Rattle.pdl_net.specs.declared.Dir.TheVariants.{In, Out}
use Rattle.pdl_net.specs.declared.Port.{Port}
use Rattle.pdl_net.specs.declared.Reg.{Reg}
use Rattle.pdl_net.specs.Well.{IsWidth}
use Rattle.pdl_vread_text.specs.declared.part.Part.{Part}
use Rattle.pdl_vread_text.specs.declared.part.Part.TheVariants as part
use Rattle.pdl_vread_text.specs.declared.file.File.{File}
use Rattle.pdl_vread_text.specs.declared.file.OutputDecl.{OutputDecl}
use Rattle.pdl_vread_text.specs.declared.file.RegBlock.{RegBlock}
use Rattle.pdl_vread_text.specs.Words.{is_port}
use Rattle.pdl_vlog.specs.Layout.{net, constant, always, drive, output, block, blocks}
use Rattle.pdl_verilog.proofs.WordTokens.{IsWordText}
use Rattle.pdl_verilog.proofs.RuleSteps.{CompletesFile}
use Rattle.pdl_verilog.proofs.Drives.{output_decl, output_line, block_line}
use Rattle.pdl_verilog.proofs.AllCells.{IsNetText}
use Rattle.pdl_verilog.proofs.Parts.{MayBlock, MayDrive, at_outputs, at_blocks}

-- ---- outputs

-- what an output declares that it is driven by, on a line
abbrev pub driven_by : List (List ℕ) → ℕ → Dir → List ℕ → List OutputDecl
driven_by inputs line In name = []
driven_by inputs line (Out x) name = output_decl line name (net inputs x) ∷ []

-- the line after a port, where it is an output
abbrev pub next_line : ℕ → Dir → ℕ
next_line line In = line
next_line line (Out x) = line + 1

-- what the lines that drive the outputs of these ports declare, from a line on
abbrev pub output_decls : List (List ℕ) → ℕ → List Port → List OutputDecl
output_decls inputs line [] = []
output_decls inputs line (p ∷ ps) = driven_by inputs line p.dir p.name ++ output_decls inputs (next_line line p.dir) ps

-- the line after those that drive the outputs of these ports
abbrev pub outputs_end : ℕ → List Port → ℕ
outputs_end line [] = line
outputs_end line (p ∷ ps) = outputs_end (next_line line p.dir) ps

-- a port that can be driven in a text
abbrev pub IsDrivenText : List (List ℕ) → Dir → Type 0
IsDrivenText inputs In = Unit {0}
IsDrivenText inputs (Out x) = IsNetText inputs x

-- ports that can be driven in a text, with their names
abbrev pub AreDrivenTexts : List (List ℕ) → List Port → Type 0
AreDrivenTexts inputs [] = Unit {0}
AreDrivenTexts inputs (p ∷ ps) = IsWordText p.name × (is_port p.name ≡ true) × IsDrivenText inputs p.dir × AreDrivenTexts inputs ps

-- a file with more `assign`s of outputs
abbrev pub add_outputs : File → List OutputDecl → File
add_outputs f gs = record f { outputs = f.outputs ++ gs }

output_split : (name a r : List ℕ)
    → (codes "assign " ++ name ++ codes " = " ++ a ++ codes ";\n") ++ r ≡ codes "assign "
    ++ (name ++ (codes " = " ++ (a ++ (codes ";\n" ++ r))))
output_split name a r = simp append_assoc

one_output : (inputs : List (List ℕ)) (d : Dir) (name : List ℕ) (p : Part) (line : ℕ) (rest : List ℕ) (before f : File)
    → MayDrive p → IsWordText name → is_port name ≡ true → IsDrivenText inputs d
    → ((q : Part) → MayDrive q → CompletesFile q (next_line line d) rest (add_outputs before (driven_by inputs line d name)) f)
    → CompletesFile p line (drive inputs d name ++ rest) before f
one_output inputs In name p line rest before f m w n h later =
    let same : add_outputs before [] ≡ before = ap (λ gs. record before { outputs = gs }) (append-nil before.outputs) in
    subst (λ z. CompletesFile p line rest z f) same (later p m)
one_output inputs (Out x) name p line rest before f m w n h later =
    subst (λ z. CompletesFile p line z before f) (sym (output_split name (net inputs x) rest))
    (output_line line rest before f p name (net inputs x) m.output w n h (later part.Outputs at_outputs))

-- the lines of outputs, where one may stand, complete the file that what is left completes with them
pub output_lines : (inputs : List (List ℕ)) (ps : List Port) (p : Part) (line : ℕ) (rest : List ℕ) (before f : File)
    → MayDrive p → AreDrivenTexts inputs ps
    → ((q : Part) → MayBlock q → CompletesFile q (outputs_end line ps) rest (add_outputs before (output_decls inputs line ps)) f)
    → CompletesFile p line (flat_map (output inputs) ps ++ rest) before f
output_lines inputs [] p line rest before f m h later =
    let same : add_outputs before [] ≡ before = ap (λ gs. record before { outputs = gs }) (append-nil before.outputs) in
    subst (λ z. CompletesFile p line rest z f) same (later p m.blocks)
output_lines inputs (o ∷ ps) p line rest before f m h later =
    let mine = driven_by inputs line o.dir o.name in
    let others = output_decls inputs (next_line line o.dir) ps in
    let one = add_outputs before mine in
    let same : add_outputs before (mine ++ others) ≡ add_outputs one others =
    ap (λ gs. record before { outputs = gs }) (sym (append_assoc before.outputs mine others)) in
    let after =
    λ (q : Part)
    (d : MayDrive q). output_lines inputs ps q (next_line line o.dir) rest one f d h.3
    (λ r b. subst (λ z. CompletesFile r (outputs_end (next_line line o.dir) ps) rest z f) same (later r b)) in
    subst (λ z. CompletesFile p line z before f) (sym (append_assoc (output inputs o) (flat_map (output inputs) ps) rest))
    (one_output inputs o.dir o.name p line (flat_map (output inputs) ps ++ rest) before f m h.0 h.1 h.2 after)

-- ---- registers

-- what the block of the r-th register declares, on a line
abbrev pub block_decl : List (List ℕ) → ℕ → ℕ → Reg → RegBlock
block_decl inputs line r x = record { line = line; reg = codes "r" ++ decimal r; width = x.width; reset = x.reset; source = net inputs x.next }

-- what the blocks of registers declare, from a line and the r-th register on
abbrev pub block_decls : List (List ℕ) → ℕ → ℕ → List Reg → List RegBlock
block_decls inputs line r [] = []
block_decls inputs line r (x ∷ xs) = block_decl inputs line r x ∷ block_decls inputs (line + 1) (suc r) xs

-- the line after the blocks of these registers
abbrev pub blocks_end : ℕ → List Reg → ℕ
blocks_end line [] = line
blocks_end line (x ∷ xs) = blocks_end (line + 1) xs

-- a register that can be driven in a text
pub record IsRegText (inputs : List (List ℕ)) (x : Reg) : Type 0 where
  pub width : IsWidth x.width
  pub reset : x.reset < 2 ^ x.width
  pub next : IsNetText inputs x.next

-- registers that can be driven in a text
abbrev pub AreRegTexts : List (List ℕ) → List Reg → Type 0
AreRegTexts inputs [] = Unit {0}
AreRegTexts inputs (x ∷ xs) = IsRegText inputs x × AreRegTexts inputs xs

-- a file with more blocks of registers
abbrev pub add_blocks : File → List RegBlock → File
add_blocks f gs = record f { reg_blocks = f.reg_blocks ++ gs }

block_split : (before d c a r : List ℕ) → (before ++ codes " r" ++ d ++ codes " <= rst ? " ++ (c ++ codes " : " ++ a ++ codes ";\n")) ++ r
    ≡ before ++ (codes " " ++ ((codes "r" ++ d) ++ (codes " <= rst ? " ++ (c ++ (codes " : " ++ (a ++ (codes ";\n" ++ r)))))))
block_split before d c a r = simp append_assoc

-- the blocks of registers, where one may stand, complete the file that what is left completes with them
pub block_lines : (inputs : List (List ℕ)) (xs : List Reg) (p : Part) (line r : ℕ) (rest : List ℕ) (before f : File)
    → MayBlock p → r + length xs < 2 ^ 64 → AreRegTexts inputs xs
    → ((q : Part) → MayBlock q → CompletesFile q (blocks_end line xs) rest (add_blocks before (block_decls inputs line r xs)) f)
    → CompletesFile p line (blocks inputs r xs ++ rest) before f
block_lines inputs [] p line r rest before f m l h later =
    let same : add_blocks before [] ≡ before = ap (λ gs. record before { reg_blocks = gs }) (append-nil before.reg_blocks) in
    subst (λ z. CompletesFile p line rest z f) same (later p m)
block_lines inputs (x ∷ xs) p line r rest before f m l h later =
    let decl = block_decl inputs line r x in
    let decls = block_decls inputs (line + 1) (suc r) xs in
    let one = add_blocks before (decl ∷ []) in
    let same : add_blocks before (decl ∷ decls) ≡ add_blocks one decls =
    ap (λ gs. record before { reg_blocks = gs }) (sym (append_assoc before.reg_blocks (decl ∷ []) decls)) in
    let more_blocks =
    block_lines inputs xs part.Blocks (line + 1)
    (suc r) rest one f at_blocks (omega arith) h.1 (λ q b. subst (λ z. CompletesFile q (blocks_end (line + 1) xs) rest z f) same (later q b)) in
    let others = blocks inputs (suc r) xs ++ rest in
    let split : blocks inputs r (x ∷ xs) ++ rest
    ≡ always
    ++ (codes " "
    ++ ((codes "r" ++ decimal r)
    ++ (codes " <= rst ? " ++ (constant x.width x.reset ++ (codes " : " ++ (net inputs x.next ++ (codes ";\n" ++ others))))))) =
    append_assoc (block inputs r x) (blocks inputs (suc r) xs) rest ∙ block_split always (decimal r) (constant x.width x.reset) (net inputs x.next) others in
    subst (λ z. CompletesFile p line z before f) (sym split)
    (block_line line others before f p r x.width x.reset (net inputs x.next) m.block
    (omega arith) h.0.width.low h.0.width.high h.0.reset h.0.next more_blocks)
