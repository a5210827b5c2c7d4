-- One step of each list that is written.
use Rattle.std.proofs.Common.{◌≡◌, ◌≢◌, ℕ, suc, ◌+◌, ◌<◌, ◌≤◌, List, [], ◌∷◌, ◌++◌, length, drop, get_or, refl, sym, ap, ◌∙◌, subst, arith, append_assoc, append-nil, zero, Some, slice_get, ◌^◌}
use Rattle.std.proofs.lemmas.Nat.{pow_pos}
use Rattle.std.proofs.lemmas.List.{drop_more}
use Rattle.pdl_net.specs.declared.Reg.{Reg}
use Rattle.pdl_net.specs.declared.Cell.{Cell}
use Rattle.pdl_net.specs.declared.Cell.TheVariants.{Const, Not, Bin, Mux, Slice, Cat, Rep, Read}
use Rattle.pdl_net.specs.declared.Netlist.{Netlist}
use Rattle.pdl_net.specs.declared.WritePort.{WritePort}
use Rattle.pdl_net.specs.declared.Net.{Net}
use Rattle.pdl_net.specs.Circuit.{Circuit, circuit_of, no_array}
use Rattle.pdl_net.specs.Signal.{Signal}
use Rattle.pdl_net.specs.Meaning.{signal, IsThereAt}
use Rattle.pdl_net.specs.Well.{IsWell, FitsIn}
use Rattle.pdl_net.proofs.CellSignals.{no_cell}
use Rattle.pdl_net.proofs.Widths.{cells_well}
use Rattle.pdl_vlog.specs.Layout as spec
use Rattle.pdl_net.specs.Width.{HasWidths}
use Rattle.pdl_net.proofs.WidthLists.{fits_read}

-- an array without write ports adds no block to a text
pub no_block : (inputs : List (List ℕ)) (name : List ℕ) (ports : List WritePort) (t : List ℕ)
    → length ports ≡ 0 → t ≡ t ++ spec.array_block inputs name ports
no_block inputs name [] t e = sym (append-nil t)
no_block inputs name (p ∷ ps) t e = cc

-- the block of an array with write ports is a whole block
pub some_block : (inputs : List (List ℕ)) (name : List ℕ) (ports : List WritePort) → length ports ≢ 0
    → spec.array_block inputs name ports ≡ spec.whole_block inputs name ports
some_block inputs name [] e = absurd (e refl)
some_block inputs name (p ∷ ps) e = refl

-- the block of the next register, and those of the others
pub block_more : (inputs : List (List ℕ)) (xs : List Reg) (r : ℕ) (d : Reg) (t u : List ℕ)
    → r < length xs → u ≡ t ++ spec.block inputs r (get_or xs r d)
    → u ++ spec.blocks inputs (r + 1) (drop (r + 1) xs) ≡ t ++ spec.blocks inputs r (drop r xs)
block_more inputs xs r d t u l e =
    let x = get_or xs r d in
    let rest = drop (r + 1) xs in
    let one : r + 1 ≡ suc r = omega arith in
    let k : spec.blocks inputs r (drop r xs) ≡ spec.block inputs r x ++ spec.blocks inputs (suc r) rest = ap (spec.blocks inputs r) (drop_more xs r d l) in
    ap (λ z. z ++ spec.blocks inputs (r + 1) rest) e ∙ (append_assoc t (spec.block inputs r x) (spec.blocks inputs (r + 1) rest)
    ∙ ap (λ z. t ++ z) (ap (λ n. spec.block inputs r x ++ spec.blocks inputs n rest) one ∙ sym k))

-- ---- widths of a circuit in which all fits

-- an element of a list, by its place
get_is : {X : Type 0} → (xs : List X) (i : ℕ) (x d : X) → slice_get xs i ≡ Some x → (i < length xs) × (get_or xs i d ≡ x)
get_is [] i x d e = cc
get_is (y ∷ ys) zero x d e = (omega arith, (let k : y ≡ x = cc in k))
get_is (y ∷ ys) (suc i) x d e = let k = get_is ys i x d e in (omega arith, k.1)

power_low : (b d : ℕ) → d ≡ 2 ^ b → 1 ≤ d
power_low b d e = let k = pow_pos b in omega (arith, e, k)

-- each array of a netlist in which all fits has words of at least 1 bit, and at least one of them
pub array_widths : (n : Netlist) → IsWell (circuit_of n) → spec.HaveArrayWidths n.arrays
array_widths n w = λ i a e.
    let k = get_is n.arrays i a no_array e in
    let v = w.arrays i k.0 in
    (subst (λ x. 1 ≤ x.width) k.1 v.low, subst (λ x. 1 ≤ x.depth) k.1 (power_low v.depth.bits (get_or n.arrays i no_array).depth v.depth.power))

-- a cell that fits is a constant of at most widest bits, or none
short : (c : Circuit) (There : Net → Type 0) (at : Net → Signal) (g : Cell) → FitsIn c There at g → spec.IsShort g
short c There at (Const w v) f = f.1
short c There at (Not a) f = tt
short c There at (Bin op a b) f = tt
short c There at (Mux x a b) f = tt
short c There at (Slice a high low) f = tt
short c There at (Cat a b) f = tt
short c There at (Rep k a) f = tt
short c There at (Read m a) f = tt

-- each constant among the cells of a netlist in which all fits has at most widest bits
pub short_cell : (n : Netlist) (xs : List Cell) (k : ℕ) → IsWell (circuit_of n)
    → k < length n.cells → xs ≡ n.cells → spec.IsShort (get_or xs k no_cell)
short_cell n xs k w h e =
    short (circuit_of n) (IsThereAt (circuit_of n) k) (signal (circuit_of n)) (get_or xs k no_cell) (fits_read (circuit_of n) xs k k w h e refl)

-- each cell of a netlist in which all fits has at least 1 bit
pub wide_cell : (n : Netlist) (ws : List ℕ) (k : ℕ) → IsWell (circuit_of n) → HasWidths (circuit_of n) ws
    → length ws ≡ length n.cells → k < length n.cells → 1 ≤ get_or ws k 0
wide_cell n ws k w h e l =
    let i = (cells_well (circuit_of n) w).widths k l in
    subst (λ x. 1 ≤ x) (sym (h.each k (omega arith))) i.low
