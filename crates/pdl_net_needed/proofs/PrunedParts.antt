-- The parts of a pruned netlist.
use Rattle.std.proofs.Common.{◌≡◌, ℕ, ◌<◌, List, [], ◌∷◌, length, map, filter_map, refl, sym, ap, ◌∙◌, subst, arith}
use Rattle.std.proofs.lemmas.List.{length-map, get_or-map}
use Rattle.pdl_net.specs.declared.Net.{Net}
use Rattle.pdl_net.specs.declared.Net.TheVariants.{Reg as RegNet, Cell as CellNet}
use Rattle.pdl_net.specs.declared.Dir.{Dir}
use Rattle.pdl_net.specs.declared.Dir.TheVariants.{In, Out}
use Rattle.pdl_net.specs.declared.Port.{Port}
use Rattle.pdl_net.specs.declared.Reg.{Reg}
use Rattle.pdl_net.specs.declared.Array.{Array}
use Rattle.pdl_net.specs.declared.Netlist.{Netlist}
use Rattle.pdl_net.specs.Circuit.{Circuit, State, circuit_of, inputs_of, port_input, reg_at, array_at, no_reg, no_array}
use Rattle.pdl_net.specs.Meaning.{signals, signal, IsThereAt, IsThere}
use Rattle.pdl_net.specs.Well.{CellsFit}
use Rattle.pdl_net.proofs.Signals.{length_signals}
use Rattle.pdl_net_needed.specs.Needed.{Choice, IsKept}
use Rattle.pdl_net_needed.specs.Pruned.{kept_of, kept_before, moved_net, moved_cell, moved_port, moved_reg, moved_array, pruned}
use Rattle.pdl_net_needed.proofs.Counts.{kept_none, kept_get, kept_length, kept_within, none_before}
use Rattle.pdl_net_needed.proofs.Values.{HasMoved, IsSameState, KeepsNets, looked, IsSameRest, rest_same}
use Rattle.pdl_net_needed.proofs.ClosedChoices.{IsClosed}

-- a pruned netlist as lists
abbrev pub after : Choice → Netlist → Circuit
after k n = circuit_of (pruned k n)

inputs_moved : (k : Choice) (ps : List Port) → filter_map port_input (map (moved_port k) ps) ≡ filter_map port_input ps
inputs_moved k [] = refl
inputs_moved k (p ∷ ps) =
    elim p.dir as
    (λ (d : Dir). filter_map port_input (map (moved_port k) (record { name = p.name; width = p.width; dir = d } ∷ ps))
    ≡ filter_map port_input (record { name = p.name; width = p.width; dir = d } ∷ ps))
    [ In ↦ ap (λ ws. p.width ∷ ws) (inputs_moved k ps) | Out x ↦ inputs_moved k ps ]

inputs_same : (k : Choice) (n : Netlist) → inputs_of (after k n) ≡ inputs_of (circuit_of n)
inputs_same k n = inputs_moved k n.ports

reg_there : (k : Choice) (n : Netlist) → IsClosed (circuit_of n) k → (r : ℕ) → IsKept k (RegNet r)
    → kept_before k.regs r < length (after k n).regs
reg_there k n h r kept =
    let l = length-map (kept_of k.regs n.regs) (moved_reg k) in
    let e = kept_length k.regs n.regs h.reg_count in
    let b = kept_within k.regs r kept in
    omega arith

-- a register that a closed choice keeps stands at its new number, with the new number of what it takes next
pub reg_moved : (k : Choice) (n : Netlist) → IsClosed (circuit_of n) k → (r : ℕ) → IsKept k (RegNet r)
    → reg_at (after k n) (kept_before k.regs r) ≡ moved_reg k (reg_at (circuit_of n) r)
reg_moved k n h r kept =
    let e = kept_length k.regs n.regs h.reg_count in
    let b = kept_within k.regs r kept in
    get_or-map (moved_reg k) (kept_of k.regs n.regs) (kept_before k.regs r) no_reg no_reg (omega arith)
    ∙ ap (moved_reg k) (kept_get k.regs n.regs r no_reg kept)

-- each array stays at its number, with the new numbers of what its write ports read
pub array_moved : (k : Choice) (n : Netlist) (m : ℕ)
    → m < length n.arrays → array_at (after k n) m ≡ moved_array k (array_at (circuit_of n) m)
array_moved k n m l = get_or-map (moved_array k) n.arrays m no_array no_array l

has_moved : (k : Choice) (n : Netlist) → IsClosed (circuit_of n) k → HasMoved (circuit_of n) (after k n) k
has_moved k n h = record {
  inputs = inputs_same k n;
  regs = λ r l kept. (reg_there k n h r kept, ap (λ (g : Reg). g.width) (reg_moved k n h r kept));
  arrays = length-map n.arrays (moved_array k);
  widths = λ m l. ap (λ (a : Array). a.width) (array_moved k n m l);
  depths = λ m l. ap (λ (a : Array). a.depth) (array_moved k n m l);
}

-- the kept cells, and all signals
all_same : (k : Choice) (n : Netlist) → IsClosed (circuit_of n) k → CellsFit (circuit_of n) → (s s' : State)
    → IsSameState k s s'
    → IsSameRest (circuit_of n) (after k n) k s s' n.cells [] (map (moved_cell k) (kept_of k.cells n.cells)) []
all_same k n h f s s' t =
    rest_same (circuit_of n) (after k n) k s s' (has_moved k n h) t n.cells [] k.cells [] [] refl refl h.cell_count
    (λ j l kept. h.reads (CellNet j) kept) f (record { count = sym (none_before k.cells); cells = λ j l kept. absurd (omega arith) })

-- a kept net is there by its new number, and has the same value in each state
pub net_same : (k : Choice) (n : Netlist) → IsClosed (circuit_of n) k → CellsFit (circuit_of n) → (s s' : State)
    → IsSameState k s s'
    → KeepsNets k s s' (IsThere (circuit_of n)) (IsThere (after k n)) (signal (circuit_of n)) (signal (after k n))
unfolding signal signals IsThere
net_same k n h f s s' t x there kept =
    let c = circuit_of n in
    let c' = after k n in
    let a = length_signals c in
    let b = length_signals c' in
    let At : ℕ → Type 0 = λ i. IsThereAt c i x in
    let To : ℕ → Type 0 = λ i. IsThereAt c' i (moved_net k x) in
    let w = looked c c' k s s' (has_moved k n h) t (signals c) (signals c') (all_same k n h f s s' t).agree x (subst At (sym a) there) kept in
    record { there = subst To b w.there; same = w.same }

-- a state without inputs, registers and arrays
abbrev pub empty : State
empty = record { inputs = []; regs = []; arrays = [] }

empty_same : (k : Choice) → IsSameState k empty empty
empty_same k = record { inputs = refl; regs = sym (kept_none k.regs); arrays = refl }

-- the cells of a netlist pruned by a closed choice fit where those of the whole do
pub cells_fit : (k : Choice) (n : Netlist) → IsClosed (circuit_of n) k → CellsFit (circuit_of n) → CellsFit (after k n)
cells_fit k n h f = (all_same k n h f empty empty (empty_same k)).fit

-- a net that a closed choice keeps has the same width by its new number
pub width_same : (k : Choice) (n : Netlist) → IsClosed (circuit_of n) k → CellsFit (circuit_of n) → (x : Net)
    → IsThere (circuit_of n) x → IsKept k x
    → (signal (after k n) (moved_net k x)).width ≡ (signal (circuit_of n) x).width
width_same k n h f x there kept = (net_same k n h f empty empty (empty_same k) x there kept).same.width

-- a net that is there, and that a closed choice keeps, is there by its new number
pub there_same : (k : Choice) (n : Netlist) → IsClosed (circuit_of n) k → CellsFit (circuit_of n) → (x : Net)
    → IsThere (circuit_of n) x → IsKept k x → IsThere (after k n) (moved_net k x)
there_same k n h f x there kept = (net_same k n h f empty empty (empty_same k) x there kept).there
