-- The blocks of all arrays, and the last line.
use Rattle.std.proofs.Common.{◌≡◌, ℕ, ◌+◌, true, Some, List, [], ◌∷◌, ◌++◌, append_assoc, append-nil, flat_map, codes, refl, sym, ap, ◌∙◌, subst}
use Rattle.pdl_net.specs.declared.Array.{Array}
use Rattle.pdl_net.specs.declared.WritePort.{WritePort}
use Rattle.pdl_vread_text.specs.declared.part.Part.{Part}
use Rattle.pdl_vread_text.specs.declared.part.Part.TheVariants as part
use Rattle.pdl_vread_text.specs.declared.rule.VerilogRule.TheVariants as rule
use Rattle.pdl_vread_text.specs.declared.file.File.{File}
use Rattle.pdl_vread_text.specs.declared.file.ArrayBlock.{ArrayBlock}
use Rattle.pdl_vread_text.specs.declared.file.WriteDecl.{WriteDecl}
use Rattle.pdl_vread_text.specs.Words.{is_name}
use Rattle.pdl_vread_text.specs.Grammar.{chosen}
use Rattle.pdl_vlog.specs.Layout.{net, always, write, array_block, block_of}
use Rattle.pdl_verilog.proofs.RuleSteps.{CompletesFile}
use Rattle.pdl_verilog.proofs.Writes.{CompletesBlock, write_line, block_end, first_block, later_block, last_line}
use Rattle.pdl_verilog.proofs.AllCells.{IsNetText}
use Rattle.pdl_verilog.proofs.Parts.{MayBlock}

-- a write port that can be written
pub record IsWriteText (inputs : List (List ℕ)) (p : WritePort) : Type 0 where
  pub enable : IsNetText inputs p.enable
  pub addr : IsNetText inputs p.addr
  pub value : IsNetText inputs p.value

-- write ports that can be written
abbrev pub AreWriteTexts : List (List ℕ) → List WritePort → Type 0
AreWriteTexts inputs [] = Unit {0}
AreWriteTexts inputs (p ∷ ps) = IsWriteText inputs p × AreWriteTexts inputs ps

-- what a write of an array's block declares, on a line
abbrev pub write_decl : List (List ℕ) → List ℕ → ℕ → WritePort → WriteDecl
write_decl inputs name line p =
    record { line = line; enable = net inputs p.enable; array = codes "a_" ++ name; addr = net inputs p.addr; value = net inputs p.value }

-- what the writes of a block declare, from a line on
abbrev pub write_decls : List (List ℕ) → List ℕ → ℕ → List WritePort → List WriteDecl
write_decls inputs name line [] = []
write_decls inputs name line (p ∷ ps) = write_decl inputs name line p ∷ write_decls inputs name (line + 1) ps

-- the line after the writes of a block
abbrev pub writes_end : ℕ → List WritePort → ℕ
writes_end line [] = line
writes_end line (p ∷ ps) = writes_end (line + 1) ps

ten : (a b c d e f g h i r : List ℕ)
    → (a ++ b ++ c ++ (d ++ e ++ f ++ g ++ h ++ i)) ++ r ≡ a ++ (b ++ (c ++ (d ++ (e ++ (f ++ (g ++ (h ++ (i ++ r))))))))
ten a b c d e f g h i r = simp append_assoc

write_split : (e m a v r : List ℕ) → (codes "if (" ++ e ++ codes ") a_" ++ (m ++ codes "[" ++ a ++ codes "] <= " ++ v ++ codes ";\n")) ++ r
    ≡ codes "if (" ++ (e ++ (codes ") " ++ ((codes "a_" ++ m) ++ (codes "[" ++ (a ++ (codes "] <= " ++ (v ++ (codes ";\n" ++ r))))))))
write_split e m a v r = ten (codes "if (") e (codes ") a_") m (codes "[") a (codes "] <= ") v (codes ";\n") r

written_chosen : chosen part.Writes (codes "if") ≡ Some rule.Written
unfolding chosen
written_chosen = refl

first_chosen : chosen part.FirstWrite (codes "if") ≡ Some rule.Written
unfolding chosen
first_chosen = refl

-- one write, at a part where it may stand
one_write : (inputs : List (List ℕ)) (name : List ℕ) (w : WritePort) (p : Part) (line at : ℕ) (rest : List ℕ)
    (ws : List WriteDecl) (before f : File)
    → chosen p (codes "if") ≡ Some rule.Written → is_name name ≡ true → IsWriteText inputs w
    → CompletesBlock part.Writes (line + 1) rest before (ws ++ write_decl inputs name line w ∷ []) at f
    → CompletesBlock p line (write inputs name w ++ rest) before ws at f
one_write inputs name w p line at rest ws before f c n h k =
    subst (λ z. CompletesBlock p line z before ws at f) (sym (write_split (net inputs w.enable) name (net inputs w.addr) (net inputs w.value) rest))
    (write_line line rest before f p (net inputs w.enable) name (net inputs w.addr) (net inputs w.value) ws at c h.enable n h.addr h.value k)

-- writes after others
later_writes : (inputs : List (List ℕ)) (name : List ℕ) (ps : List WritePort) (line at : ℕ) (rest : List ℕ)
    (ws : List WriteDecl) (before f : File)
    → is_name name ≡ true → AreWriteTexts inputs ps
    → CompletesBlock part.Writes (writes_end line ps) rest before (ws ++ write_decls inputs name line ps) at f
    → CompletesBlock part.Writes line (flat_map (write inputs name) ps ++ rest) before ws at f
later_writes inputs name [] line at rest ws before f n h k = subst (λ z. CompletesBlock part.Writes line rest before z at f) (append-nil ws) k
later_writes inputs name (p ∷ ps) line at rest ws before f n h k =
    let decl = write_decl inputs name line p in
    let decls = write_decls inputs name (line + 1) ps in
    let same : ws ++ decl ∷ decls ≡ (ws ++ decl ∷ []) ++ decls = sym (append_assoc ws (decl ∷ []) decls) in
    let others =
    later_writes inputs name ps (line + 1) at rest (ws ++ decl ∷ []) before f n h.1
    (subst (λ z. CompletesBlock part.Writes (writes_end (line + 1) ps) rest before z at f) same k) in
    subst (λ z. CompletesBlock part.Writes line z before ws at f) (sym (append_assoc (write inputs name p) (flat_map (write inputs name) ps) rest))
    (one_write inputs name p part.Writes line at (flat_map (write inputs name) ps ++ rest) ws before f written_chosen n h.0 others)

-- ---- one block

-- a file with more blocks of arrays
abbrev pub add_array_blocks : File → List ArrayBlock → File
add_array_blocks f gs = record f { array_blocks = f.array_blocks ++ gs }

-- what a block of an array declares
abbrev pub array_block_decls : List (List ℕ) → List ℕ → ℕ → List WritePort → List ArrayBlock
array_block_decls inputs name line [] = []
array_block_decls inputs name line (p ∷ ps) = record { line = line; writes = write_decls inputs name (line + 1) (p ∷ ps) } ∷ []

-- the line after the block of an array, where there is one
abbrev pub array_block_end : ℕ → List WritePort → ℕ
array_block_end line [] = line
array_block_end line (p ∷ ps) = writes_end (line + 1) (p ∷ ps) + 1

-- the writes of a block and its end
block_inside : (inputs : List (List ℕ)) (name : List ℕ) (p : WritePort) (ps : List WritePort) (line : ℕ) (rest : List ℕ) (before f : File)
    → is_name name ≡ true → AreWriteTexts inputs (p ∷ ps)
    → CompletesFile part.ArrayBlocks (array_block_end line (p ∷ ps)) rest (add_array_blocks before (array_block_decls inputs name line (p ∷ ps))) f
    → CompletesBlock part.FirstWrite (line + 1) (flat_map (write inputs name) (p ∷ ps) ++ (codes "end\n" ++ rest)) before [] line f
block_inside inputs name p ps line rest before f n h k =
    let last = codes "end\n" ++ rest in
    let ends = block_end (writes_end (line + 1) (p ∷ ps)) rest before f (write_decls inputs name (line + 1) (p ∷ ps)) line k in
    let others = later_writes inputs name ps ((line + 1) + 1) line last (write_decl inputs name (line + 1) p ∷ []) before f n h.1 ends in
    subst (λ z. CompletesBlock part.FirstWrite (line + 1) z before [] line f) (sym (append_assoc (write inputs name p) (flat_map (write inputs name) ps) last))
    (one_write inputs name p part.FirstWrite (line + 1) line (flat_map (write inputs name) ps ++ last) [] before f first_chosen n h.0 others)

block_split : (before ws r : List ℕ)
    → (before ++ codes " begin\n" ++ ws ++ codes "end\n") ++ r ≡ before ++ (codes " begin\n" ++ (ws ++ (codes "end\n" ++ r)))
block_split before ws r = simp append_assoc

-- ---- all blocks

-- an array whose block can be written
pub record IsBlockText (inputs : List (List ℕ)) (a : Array) : Type 0 where
  pub named : is_name a.name ≡ true
  pub writes : AreWriteTexts inputs a.writes

-- arrays whose blocks can be written
abbrev pub AreBlockTexts : List (List ℕ) → List Array → Type 0
AreBlockTexts inputs [] = Unit {0}
AreBlockTexts inputs (a ∷ xs) = IsBlockText inputs a × AreBlockTexts inputs xs

-- what the blocks of all arrays declare, from a line on
abbrev pub array_blocks_decls : List (List ℕ) → ℕ → List Array → List ArrayBlock
array_blocks_decls inputs line [] = []
array_blocks_decls inputs line (a ∷ xs) = array_block_decls inputs a.name line a.writes ++ array_blocks_decls inputs (array_block_end line a.writes) xs

no_blocks : (before : File) → add_array_blocks before [] ≡ before
no_blocks before = ap (λ gs. record before { array_blocks = gs }) (append-nil before.array_blocks)

-- blocks one after another: what comes at a part that has no blocks before it, or at that of later blocks
abbrev Ends : Part → Type 0
Ends p = chosen p (codes "endmodule") ≡ Some rule.Ending

-- how a block begins at a part
abbrev Begins : Part → Type 0
Begins p =
    (line : ℕ) (rest : List ℕ) (before f : File) → CompletesBlock part.FirstWrite (line + 1) rest before [] line f
    → CompletesFile p line (always ++ (codes " begin\n" ++ rest)) before f

ending_later : Ends part.ArrayBlocks
unfolding chosen
ending_later = refl

all_blocks : (inputs : List (List ℕ)) (xs : List Array) (p : Part) (line : ℕ) (before f : File) → Ends p → Begins p
    → AreBlockTexts inputs xs → f ≡ add_array_blocks before (array_blocks_decls inputs line xs)
    → CompletesFile p line (flat_map (block_of inputs) xs ++ codes "endmodule\n") before f
all_blocks inputs [] p line before f e b h same =
    subst (λ z. CompletesFile p line (codes "endmodule\n") before z) (sym (same ∙ no_blocks before)) (last_line p line before e)
all_blocks inputs (a ∷ xs) p line before f e b h same =
    subst (λ z. CompletesFile p line z before f) (sym (append_assoc (block_of inputs a) (flat_map (block_of inputs) xs) (codes "endmodule\n")))
    (by_writes (λ q n g c d i. all_blocks inputs xs q n g f c d h.1 i) a.writes h.0.writes same)
  where
    rest : List ℕ
    rest = flat_map (block_of inputs) xs ++ codes "endmodule\n"

    by_writes : ((q : Part) (n : ℕ) (g : File) → Ends q → Begins q → f ≡ add_array_blocks g (array_blocks_decls inputs n xs) → CompletesFile q n rest g f)
        → (ws : List WritePort) → AreWriteTexts inputs ws
        → f ≡ add_array_blocks before (array_block_decls inputs a.name line ws ++ array_blocks_decls inputs (array_block_end line ws) xs)
        → CompletesFile p line (array_block inputs a.name ws ++ rest) before f
    by_writes others [] w i = others p line before e b i
    by_writes others (x ∷ ws) w i =
        let mine = array_block_decls inputs a.name line (x ∷ ws) in
        let later = array_blocks_decls inputs (array_block_end line (x ∷ ws)) xs in
        let one = add_array_blocks before mine in
        let moved : f ≡ add_array_blocks one later = i ∙ ap (λ gs. record before { array_blocks = gs }) (sym (append_assoc before.array_blocks mine later)) in
        let after = others part.ArrayBlocks (array_block_end line (x ∷ ws)) one ending_later (λ n r g u k. later_block n r g u k) moved in
        subst (λ z. CompletesFile p line z before f) (sym (block_split always (flat_map (write inputs a.name) (x ∷ ws)) rest))
        (b line (flat_map (write inputs a.name) (x ∷ ws) ++ (codes "end\n" ++ rest)) before f
        (block_inside inputs a.name x ws line rest before f h.0.named w after))

-- the text of all blocks of arrays completes the file, where blocks of registers may still stand
pub all_blocks_at : (inputs : List (List ℕ)) (xs : List Array) (p : Part) (line : ℕ) (before f : File) → MayBlock p
    → AreBlockTexts inputs xs → f ≡ add_array_blocks before (array_blocks_decls inputs line xs)
    → CompletesFile p line (flat_map (block_of inputs) xs ++ codes "endmodule\n") before f
all_blocks_at inputs xs p line before f m h same = all_blocks inputs xs p line before f m.ending (λ n r g u k. first_block n r g u p m.block k) h same
