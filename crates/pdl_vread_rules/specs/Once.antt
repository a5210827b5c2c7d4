-- V4: each name is declared once, and each output, register and array is driven as it has to be.
use Rattle.std.specs.Prelude.{ℕ, ◌==◌, Bool, ◌&&◌, ◌||◌, not, is_some, List, [], ◌∷◌, ◌++◌, length, map, count_by, Option}
use Rattle.std.specs.List.{list_any}
use Rattle.pdl_vread_text.specs.declared.file.File.{File}
use Rattle.pdl_vread_text.specs.declared.file.PortDecl.{PortDecl}
use Rattle.pdl_vread_text.specs.declared.file.RegDecl.{RegDecl}
use Rattle.pdl_vread_text.specs.declared.file.ArrayDecl.{ArrayDecl}
use Rattle.pdl_vread_text.specs.declared.file.CellDecl.{CellDecl}
use Rattle.pdl_vread_text.specs.declared.file.WriteDecl.{WriteDecl}
use Rattle.pdl_vread_text.specs.declared.file.ArrayBlock.{ArrayBlock}
use Rattle.pdl_vread_nets.specs.declared.wiring.OutputDrive.{OutputDrive}
use Rattle.pdl_vread_nets.specs.declared.wiring.RegDrive.{RegDrive}
use Rattle.pdl_vread_nets.specs.declared.wiring.ArrayWrite.{ArrayWrite}
use Rattle.pdl_vread_nets.specs.declared.wiring.Wiring.{Wiring}
use Rattle.pdl_vread_nets.specs.Wired.{place}
use Rattle.pdl_vread_rules.specs.RuleQuestions.{Asked, asked, both, first_wrong}

-- ---- what is right

-- none of these names is this one
abbrev pub is_new : List (List ℕ) → List ℕ → Bool
is_new names x = not (is_some (place names x))

-- how many `assign`s drive the i-th port
abbrev pub output_drives : List OutputDrive → ℕ → ℕ
output_drives drives i = count_by (λ o. o.port == i) drives

-- how many blocks drive the i-th register
abbrev pub reg_drives : List RegDrive → ℕ → ℕ
reg_drives drives i = count_by (λ b. b.reg == i) drives

-- the array that a block's first write names
abbrev pub owner : List ArrayWrite → ℕ
owner [] = 0
owner (w ∷ ws) = w.array

-- ---- in the order of the text

-- what is asked of each of a list, by those before it
abbrev pub in_turn : {A : Type 0} → (List A → A → Asked) → List A → List A → List Asked
in_turn ask before [] = []
in_turn ask before (x ∷ xs) = ask before x ∷ in_turn ask (before ++ x ∷ []) xs

-- a port has a new name, and an output is driven once
abbrev pub port_once : List OutputDrive → List PortDecl → PortDecl → Asked
port_once drives before p = asked p.line
    (is_new (map (λ q. q.name) before) p.name
    && (p.input || output_drives drives (length before) == 1))

-- a register has a new name and is driven once
abbrev pub reg_once : List RegDrive → List RegDecl → RegDecl → Asked
reg_once drives before d = asked d.line
    (is_new (map (λ q. q.name) before) d.name && reg_drives drives (length before) == 1)

-- an array's name is that of no array before it
abbrev pub array_once : List ArrayDecl → ArrayDecl → Asked
array_once before a = asked a.line (is_new (map (λ q. q.name) before) a.name)

-- a cell's name is that of no cell before it
abbrev pub cell_once : List CellDecl → CellDecl → Asked
cell_once before d = asked d.line (is_new (map (λ q. q.name) before) d.name)

-- a write of a block is to the block's array
abbrev pub write_once : ℕ → WriteDecl → ArrayWrite → Asked
write_once m d w = asked d.line (w.array == m)

-- blocks after blocks of these arrays: each is the first of its array, and its writes are to it
abbrev pub blocks_once : List ℕ → List ArrayBlock → List (List ArrayWrite) → List Asked
blocks_once before (b ∷ bs) (ws ∷ more) =
    asked b.line (not (list_any (λ m. owner ws == m) before))
    ∷ (both (write_once (owner ws)) b.writes ws
    ++ blocks_once (before ++ owner ws ∷ []) bs more)
blocks_once before [] _ = []
blocks_once before (b ∷ bs) [] = []

-- what V4 asks of declarations
abbrev pub declared_once : File → Wiring → List Asked
declared_once f w =
    in_turn (port_once w.outputs) [] f.ports
    ++ (in_turn (reg_once w.regs) [] f.regs
    ++ (in_turn array_once [] f.arrays ++ in_turn cell_once [] f.cells))

-- the line of the first place that breaks V4
unfoldable pub once_line : File → Wiring → Option ℕ
once_line f w = first_wrong (declared_once f w ++ blocks_once [] f.array_blocks w.blocks)
