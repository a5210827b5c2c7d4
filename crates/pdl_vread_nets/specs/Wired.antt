-- V2: which net, register, array or output a name stands for.
use Rattle.std.specs.Prelude.{◌≡◌, ℕ, suc, ◌+◌, Bool, true, false, nat_lt, cond, List, [], ◌∷◌, ◌++◌, length, map, take, slice_get, slice_index_or, bytes_eq, Option, Some, None, Result, Ok, Err}
use Rattle.std.specs.Option.{option_map}
use Rattle.pdl_net.specs.declared.Net.{Net}
use Rattle.pdl_net.specs.declared.Net.TheVariants.{Input, Reg as RegNet, Cell as CellNet}
use Rattle.pdl_net.specs.declared.Cell.{Cell}
use Rattle.pdl_net.specs.declared.Cell.TheVariants as c
use Rattle.pdl_vread_text.specs.declared.file.File.{File}
use Rattle.pdl_vread_text.specs.declared.file.PortDecl.{PortDecl}
use Rattle.pdl_vread_text.specs.declared.file.CellDecl.{CellDecl}
use Rattle.pdl_vread_text.specs.declared.file.OutputDecl.{OutputDecl}
use Rattle.pdl_vread_text.specs.declared.file.RegBlock.{RegBlock}
use Rattle.pdl_vread_text.specs.declared.file.WriteDecl.{WriteDecl}
use Rattle.pdl_vread_text.specs.declared.file.ArrayBlock.{ArrayBlock}
use Rattle.pdl_vread_text.specs.declared.file.Term.{Term}
use Rattle.pdl_vread_text.specs.declared.file.Term.TheVariants as t
use Rattle.pdl_vread_nets.specs.declared.passes.PassStop.{PassStop}
use Rattle.pdl_vread_nets.specs.declared.passes.PassStop.TheVariants.{Broken, NoMemory}
use Rattle.pdl_vread_nets.specs.declared.wiring.OutputDrive.{OutputDrive}
use Rattle.pdl_vread_nets.specs.declared.wiring.RegDrive.{RegDrive}
use Rattle.pdl_vread_nets.specs.declared.wiring.ArrayWrite.{ArrayWrite}
use Rattle.pdl_vread_nets.specs.declared.wiring.Wiring.{Wiring}

-- ---- names

-- a place that is counted from one element earlier
abbrev pub shifted : Option ℕ → Option ℕ
shifted (Some i) = Some (suc i)
shifted None = None

-- where a name first stands among names, counted from 0
abbrev pub place : List (List ℕ) → List ℕ → Option ℕ
place [] x = None
place (y ∷ ys) x = cond (bytes_eq x y) (Some 0) (shifted (place ys x))

-- the first port of a name
abbrev pub port_place : File → List ℕ → Option ℕ
port_place f x = place (map (λ p. p.name) f.ports) x

-- the first register of a name
abbrev pub reg_place : File → List ℕ → Option ℕ
reg_place f x = place (map (λ r. r.name) f.regs) x

-- the first array of a name
abbrev pub array_place : File → List ℕ → Option ℕ
array_place f x = place (map (λ a. a.name) f.arrays) x

-- the first of the first k cells of a name
abbrev pub cell_place : File → ℕ → List ℕ → Option ℕ
cell_place f k x = place (map (λ d. d.name) (take k f.cells)) x

-- the nets of ports, none for an output, where the inputs are counted from i
abbrev pub port_nets : ℕ → List PortDecl → List (Option Net)
port_nets i [] = []
port_nets i (p ∷ ps) = cond p.input (Some (Input i) ∷ port_nets (suc i) ps) (None ∷ port_nets i ps)

-- the net at a place, if there is one
abbrev pub net_at : List (Option Net) → Option ℕ → Option Net
net_at nets None = None
net_at nets (Some i) = slice_index_or nets i None

-- the input of a name, where its first declaration is an input
abbrev pub input_of : File → List ℕ → Option Net
input_of f x = net_at (port_nets 0 f.ports) (port_place f x)

-- the number of a declared port, if that is an output
abbrev pub output_port : Option PortDecl → ℕ → Option ℕ
output_port None i = None
output_port (Some p) i = cond p.input None (Some i)

-- the place among ports, if an output stands there
abbrev pub output_at : List PortDecl → Option ℕ → Option ℕ
output_at ports None = None
output_at ports (Some i) = output_port (slice_get ports i) i

-- the port of a name, where its first declaration is an output
abbrev pub output_of : File → List ℕ → Option ℕ
output_of f x = output_at f.ports (port_place f x)

-- a cell, else another net
abbrev pub cell_or : Option ℕ → Option Net → Option Net
cell_or (Some k) other = Some (CellNet k)
cell_or None other = other

-- a register, else another net
abbrev pub reg_or : Option ℕ → Option Net → Option Net
reg_or (Some r) other = Some (RegNet r)
reg_or None other = other

-- the net that an operand names after the first k cells: one of them, a register, or an input
unfoldable pub net_of : File → ℕ → List ℕ → Option Net
net_of f k x = cell_or (cell_place f k x) (reg_or (reg_place f x) (input_of f x))

-- ---- cells, `assign`s and blocks

-- a number where it is below 255, and else 255; no width, place or count of the subset reaches 255
abbrev pub small : ℕ → ℕ
small n = cond (nat_lt n 255) n 255

-- what is made of a value, if that is there
abbrev pub with_one : {A B : Type 0} → (A → B) → Option A → Option B
with_one make (Some a) = Some (make a)
with_one make None = None

-- what is made of two values, if both are there
abbrev pub with_two : {A B C : Type 0} → (A → B → C) → Option A → Option B → Option C
with_two make (Some a) b = with_one (make a) b
with_two make None b = None

-- what is made of three values, if all are there
abbrev pub with_three : {A B C D : Type 0} → (A → B → C → D) → Option A → Option B → Option C → Option D
with_three make (Some a) b d = with_two (make a) b d
with_three make None b d = None

-- the cell of a term after the first k cells
abbrev pub cell_of : File → ℕ → Term → Option Cell
cell_of f k (t.Const w v) = Some (c.Const (small w) v)
cell_of f k (t.Not a) = with_one c.Not (net_of f k a)
cell_of f k (t.Bin op a b) = with_two (c.Bin op) (net_of f k a) (net_of f k b)
cell_of f k (t.Mux x a b) = with_three c.Mux (net_of f k x) (net_of f k a) (net_of f k b)
cell_of f k (t.Slice a high low) = with_one (λ n. c.Slice n (small high) (small low)) (net_of f k a)
cell_of f k (t.Cat a b) = with_two c.Cat (net_of f k a) (net_of f k b)
cell_of f k (t.Rep count a) = with_one (c.Rep (small count)) (net_of f k a)
cell_of f k (t.Read m a) = with_two c.Read (array_place f m) (net_of f k a)

-- the cell of a declaration; the `assign` after a wire is to that wire
abbrev pub wired_cell : File → ℕ → CellDecl → Option Cell
wired_cell f k d = cond (bytes_eq d.target d.name) (cell_of f k d.term) None

-- what an `assign` drives with which net, if its names stand for an output and a net
abbrev pub wired_output : File → ℕ → OutputDecl → Option OutputDrive
wired_output f k d = with_two (λ i n. record { port = i; net = n }) (output_of f d.port) (net_of f k d.source)

-- what a block gives a register, if its names stand for a register and a net
abbrev pub wired_reg : File → ℕ → RegBlock → Option RegDrive
wired_reg f k b = with_two (λ r n. record { reg = r; width = small b.width; reset = b.reset; net = n }) (reg_place f b.reg) (net_of f k b.source)

-- a write to array m, if the names of its operands stand for nets
abbrev pub wired_port : File → ℕ → ℕ → WriteDecl → Option ArrayWrite
wired_port f k m d =
    with_three (λ e a v. record { array = m; port = record { enable = e; addr = a; value = v } }) (net_of f k d.enable) (net_of f k d.addr) (net_of f k d.value)

-- a write to an array, if that is there and the names of the operands stand for nets
abbrev pub wired_array : File → ℕ → WriteDecl → Option ℕ → Option ArrayWrite
wired_array f k d None = None
wired_array f k d (Some m) = wired_port f k m d

-- a write, if its names stand for an array and for nets
abbrev pub wired_write : File → ℕ → WriteDecl → Option ArrayWrite
wired_write f k d = wired_array f k d (array_place f d.array)

-- ---- in the order of the text

-- one more at the front, where the first is there; else its line
abbrev pub onto_line : {B : Type 0} → Option B → ℕ → Result (List B) ℕ → Result (List B) ℕ
onto_line None line rest = Err line
onto_line (Some y) line (Ok ys) = Ok (y ∷ ys)
onto_line (Some y) line (Err other) = Err other

-- each of a list, or the line of the first for which there is nothing
abbrev pub each : {A B : Type 0} → (A → Option B) → (A → ℕ) → List A → Result (List B) ℕ
each find line [] = Ok []
each find line (x ∷ xs) = onto_line (find x) (line x) (each find line xs)

-- the cells from the k-th on
abbrev pub cells_from : File → ℕ → List CellDecl → Result (List Cell) ℕ
cells_from f k [] = Ok []
cells_from f k (d ∷ ds) = onto_line (wired_cell f k d) d.line (cells_from f (suc k) ds)

-- what all `assign`s drive, or the line of the first with a name that stands for nothing
abbrev pub all_outputs : File → ℕ → List OutputDecl → Result (List OutputDrive) ℕ
all_outputs f k ds = each (wired_output f k) (λ d. d.line) ds

-- what all blocks of registers give, or the line of the first with a name that stands for nothing
abbrev pub all_regs : File → ℕ → List RegBlock → Result (List RegDrive) ℕ
all_regs f k bs = each (wired_reg f k) (λ b. b.line) bs

-- the writes of a block, or the line of the first with a name that stands for nothing
abbrev pub writes_of : File → ℕ → List WriteDecl → Result (List ArrayWrite) ℕ
writes_of f k ds = each (wired_write f k) (λ d. d.line) ds

-- one block more at the front, or the line of a write
abbrev pub onto_block : Result (List ArrayWrite) ℕ → Result (List (List ArrayWrite)) ℕ → Result (List (List ArrayWrite)) ℕ
onto_block (Err line) rest = Err line
onto_block (Ok ws) (Ok blocks) = Ok (ws ∷ blocks)
onto_block (Ok ws) (Err line) = Err line

-- the writes of all blocks of arrays, or the line of the first with a name that stands for nothing
abbrev pub blocks_of : File → ℕ → List ArrayBlock → Result (List (List ArrayWrite)) ℕ
blocks_of f k [] = Ok []
blocks_of f k (b ∷ bs) = onto_block (writes_of f k b.writes) (blocks_of f k bs)

-- the wiring of cells, outputs, registers and blocks, or the first line of the first part that has none
abbrev pub with_parts : Result (List Cell) ℕ → Result (List OutputDrive) ℕ → Result (List RegDrive) ℕ
    → Result (List (List ArrayWrite)) ℕ → Result Wiring ℕ
with_parts (Err line) os rs bs = Err line
with_parts (Ok cs) (Err line) rs bs = Err line
with_parts (Ok cs) (Ok os) (Err line) bs = Err line
with_parts (Ok cs) (Ok os) (Ok rs) (Err line) = Err line
with_parts (Ok cs) (Ok os) (Ok rs) (Ok bs) = Ok (record { cells = cs; outputs = os; regs = rs; blocks = bs })

-- the nets that all names stand for, or the line of the first place where a name stands for nothing of its kind: V2
unfoldable pub wiring : File → Result Wiring ℕ
wiring f =
    with_parts (cells_from f 0 f.cells) (all_outputs f (length f.cells) f.outputs)
    (all_regs f (length f.cells) f.reg_blocks) (blocks_of f (length f.cells) f.array_blocks)

-- ---- what passes answer

-- the answer is what is wanted, unless memory ran out
abbrev pub Gives : {A : Type 0} → Result A ℕ → Result A PassStop → Type 0
Gives wanted (Ok a) = wanted ≡ Ok a
Gives wanted (Err (Broken line)) = wanted ≡ Err line
Gives wanted (Err NoMemory) = Unit {0}

-- what is done, and what is to come
abbrev pub after : {B : Type 0} → List B → Result (List B) ℕ → Result (List B) ℕ
after done (Ok rest) = Ok (done ++ rest)
after done (Err line) = Err line

-- the k-th cell has this name
abbrev pub IsNamed : File → ℕ → List ℕ → Type 0
IsNamed f k name = map (λ d. d.name) (take (k + 1) f.cells) ≡ map (λ d. d.name) (take k f.cells) ++ name ∷ []

-- the stop where memory ran out
abbrev pub no_memory : PassStop
no_memory = NoMemory

-- what holds where an answer isn't an error
abbrev pub IfDone : {A : Type 0} → Result A PassStop → Type 0 → Type 0
IfDone (Ok a) T = T
IfDone (Err e) T = Unit {0}
