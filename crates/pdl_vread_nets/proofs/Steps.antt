-- The passes that wire a file, one declaration after another.
use Rattle.std.proofs.Common.{◌≡◌, ℕ, ◌+◌, ◌<◌, ◌≤◌, List, [], ◌∷◌, ◌++◌, length, Some, None, Ok, Err, ap, ◌∙◌, subst}
use Rattle.pdl_net.specs.declared.Cell.{Cell}
use Rattle.pdl_vread_text.specs.declared.file.File.{File}
use Rattle.pdl_vread_nets.specs.declared.wiring.ArrayWrite.{ArrayWrite}
use Rattle.pdl_vread_nets.specs.declared.wiring.OutputDrive.{OutputDrive}
use Rattle.pdl_vread_nets.specs.declared.wiring.RegDrive.{RegDrive}
use Rattle.pdl_vread_nets.specs.Wired as spec
use Rattle.pdl_vread_nets.specs.Wired.{wiring, net_of}
use Rattle.pdl_net.specs.declared.Net.TheVariants.{Reg as RegNet, Cell as CellNet}
use Rattle.pdl_vread_nets.specs.declared.passes.PassStop.{PassStop}
use Rattle.pdl_vread_nets.specs.declared.passes.PassStop.TheVariants as stop

-- ---- all of it

moved : (P : File → ℕ → Type 0) (f g : File) (k : ℕ) → g ≡ f → k ≡ length f.cells → P g k → P f (length f.cells)
moved P f g k e h p = subst (P f) h (subst (λ x. P x k) e p)

-- a file is wired so where its cells, outputs, registers and blocks of arrays are
pub wired_so : (f g : File) (k : ℕ) (cs : List Cell) (os : List OutputDrive) (rs : List RegDrive) (bs : List (List ArrayWrite))
    → g ≡ f → k ≡ length f.cells → spec.cells_from f 0 f.cells ≡ Ok cs → spec.all_outputs g k f.outputs ≡ Ok os
    → spec.all_regs g k f.reg_blocks ≡ Ok rs → spec.blocks_of g k f.array_blocks ≡ Ok bs
    → spec.wiring f ≡ Ok (record { cells = cs; outputs = os; regs = rs; blocks = bs })
unfolding wiring
wired_so f g k cs os rs bs e h a b c d =
    let b2 = moved (λ x n. spec.all_outputs x n f.outputs ≡ Ok os) f g k e h b in
    let c2 = moved (λ x n. spec.all_regs x n f.reg_blocks ≡ Ok rs) f g k e h c in
    let d2 = moved (λ x n. spec.blocks_of x n f.array_blocks ≡ Ok bs) f g k e h d in
    ap
    (λ x. spec.with_parts x (spec.all_outputs f (length f.cells) f.outputs)
    (spec.all_regs f (length f.cells) f.reg_blocks) (spec.blocks_of f (length f.cells) f.array_blocks)) a
    ∙ (ap (λ x. spec.with_parts (Ok cs) x (spec.all_regs f (length f.cells) f.reg_blocks) (spec.blocks_of f (length f.cells) f.array_blocks)) b2
    ∙ (ap (λ x. spec.with_parts (Ok cs) (Ok os) x (spec.blocks_of f (length f.cells) f.array_blocks)) c2
    ∙ ap (λ x. spec.with_parts (Ok cs) (Ok os) (Ok rs) x) d2))

-- where the pass over cells stops, the wiring of the file does
pub cells_stop : (f g : File) (e : PassStop) → g ≡ f → spec.Gives (spec.cells_from g 0 f.cells) (Err e) → spec.Gives (spec.wiring f) (Err e)
unfolding wiring
cells_stop f g (stop.Broken line) i h =
    ap
    (λ x. spec.with_parts x (spec.all_outputs f (length f.cells) f.outputs)
    (spec.all_regs f (length f.cells) f.reg_blocks) (spec.blocks_of f (length f.cells) f.array_blocks))
    (subst (λ x. spec.cells_from x 0 f.cells ≡ Err line) i h)
cells_stop f g stop.NoMemory i h = tt

-- where the pass over outputs stops, after that over cells, the wiring of the file does
pub outputs_stop : (f g : File) (k : ℕ) (cs : List Cell) (e : PassStop)
    → g ≡ f → k ≡ length f.cells → spec.cells_from f 0 f.cells ≡ Ok cs
    → spec.Gives (spec.all_outputs g k f.outputs) (Err e) → spec.Gives (spec.wiring f) (Err e)
unfolding wiring
outputs_stop f g k cs (stop.Broken line) i j a h =
    ap
    (λ x. spec.with_parts x (spec.all_outputs f (length f.cells) f.outputs)
    (spec.all_regs f (length f.cells) f.reg_blocks) (spec.blocks_of f (length f.cells) f.array_blocks)) a
    ∙ ap (λ x. spec.with_parts (Ok cs) x (spec.all_regs f (length f.cells) f.reg_blocks) (spec.blocks_of f (length f.cells) f.array_blocks))
    (moved (λ x n. spec.all_outputs x n f.outputs ≡ Err line) f g k i j h)
outputs_stop f g k cs stop.NoMemory i j a h = tt

-- where the pass over registers stops, after that over outputs, the wiring of the file does
pub regs_stop : (f g : File) (k : ℕ) (cs : List Cell) (os : List OutputDrive) (e : PassStop)
    → g ≡ f → k ≡ length f.cells → spec.cells_from f 0 f.cells ≡ Ok cs → spec.all_outputs g k f.outputs ≡ Ok os
    → spec.Gives (spec.all_regs g k f.reg_blocks) (Err e) → spec.Gives (spec.wiring f) (Err e)
unfolding wiring
regs_stop f g k cs os (stop.Broken line) i j a b h =
    ap
    (λ x. spec.with_parts x (spec.all_outputs f (length f.cells) f.outputs)
    (spec.all_regs f (length f.cells) f.reg_blocks) (spec.blocks_of f (length f.cells) f.array_blocks)) a
    ∙ (ap (λ x. spec.with_parts (Ok cs) x (spec.all_regs f (length f.cells) f.reg_blocks) (spec.blocks_of f (length f.cells) f.array_blocks))
    (moved (λ x n. spec.all_outputs x n f.outputs ≡ Ok os) f g k i j b)
    ∙ ap (λ x. spec.with_parts (Ok cs) (Ok os) x (spec.blocks_of f (length f.cells) f.array_blocks))
    (moved (λ x n. spec.all_regs x n f.reg_blocks ≡ Err line) f g k i j h))
regs_stop f g k cs os stop.NoMemory i j a b h = tt

-- where the pass over blocks of arrays stops, after that over registers, the wiring of the file does
pub blocks_stop : (f g : File) (k : ℕ) (cs : List Cell) (os : List OutputDrive) (rs : List RegDrive) (e : PassStop)
    → g ≡ f → k ≡ length f.cells → spec.cells_from f 0 f.cells ≡ Ok cs → spec.all_outputs g k f.outputs ≡ Ok os
    → spec.all_regs g k f.reg_blocks ≡ Ok rs → spec.Gives (spec.blocks_of g k f.array_blocks) (Err e)
    → spec.Gives (spec.wiring f) (Err e)
unfolding wiring
blocks_stop f g k cs os rs (stop.Broken line) i j a b c h =
    ap
    (λ x. spec.with_parts x (spec.all_outputs f (length f.cells) f.outputs)
    (spec.all_regs f (length f.cells) f.reg_blocks) (spec.blocks_of f (length f.cells) f.array_blocks)) a
    ∙ (ap (λ x. spec.with_parts (Ok cs) x (spec.all_regs f (length f.cells) f.reg_blocks) (spec.blocks_of f (length f.cells) f.array_blocks))
    (moved (λ x n. spec.all_outputs x n f.outputs ≡ Ok os) f g k i j b)
    ∙ (ap (λ x. spec.with_parts (Ok cs) (Ok os) x (spec.blocks_of f (length f.cells) f.array_blocks))
    (moved (λ x n. spec.all_regs x n f.reg_blocks ≡ Ok rs) f g k i j c)
    ∙ ap (λ x. spec.with_parts (Ok cs) (Ok os) (Ok rs) x) (moved (λ x n. spec.blocks_of x n f.array_blocks ≡ Err line) f g k i j h)))
blocks_stop f g k cs os rs stop.NoMemory i j a b c h = tt

-- ---- nets

-- a name that one of the first k cells has stands for that cell
pub net_cell : (f : File) (k : ℕ) (x : List ℕ) (i : ℕ) → Some i ≡ spec.cell_place f k x → Some (CellNet i) ≡ spec.net_of f k x
unfolding net_of
net_cell f k x i e = ap (λ o. spec.cell_or o (spec.reg_or (spec.reg_place f x) (spec.input_of f x))) e

-- a name that a register has, and none of the first k cells, stands for that register
pub net_reg : (f : File) (k : ℕ) (x : List ℕ) (r : ℕ)
    → None ≡ spec.cell_place f k x → Some r ≡ spec.reg_place f x → Some (RegNet r) ≡ spec.net_of f k x
unfolding net_of
net_reg f k x r e h = ap (λ o. spec.reg_or o (spec.input_of f x)) h ∙ ap (λ o. spec.cell_or o (spec.reg_or (spec.reg_place f x) (spec.input_of f x))) e

-- a name that no register has, and none of the first k cells, stands for the input of that name, if there is one
pub net_input : (f : File) (k : ℕ) (x : List ℕ)
    → None ≡ spec.cell_place f k x → None ≡ spec.reg_place f x → spec.input_of f x ≡ spec.net_of f k x
unfolding net_of
net_input f k x e h = ap (λ o. spec.reg_or o (spec.input_of f x)) h ∙ ap (λ o. spec.cell_or o (spec.reg_or (spec.reg_place f x) (spec.input_of f x))) e
