-- What a pruned netlist keeps is needed in it.
use Rattle.std.proofs.Common.{◌≡◌, ℕ, List, [], ◌∷◌, ◌++◌, length, map, flat_map, get_or, refl, sym, ap, ◌∙◌, subst, arith}
use Rattle.std.specs.Prelude.{Contains}
use Rattle.std.proofs.lemmas.List.{length-map, get_or-map, map-append}
use Rattle.pdl_net.specs.declared.Net.{Net}
use Rattle.pdl_net.specs.declared.Net.TheVariants.{Input, Reg as RegNet, Cell as CellNet}
use Rattle.pdl_net.specs.declared.Cell.{Cell}
use Rattle.pdl_net.specs.declared.Cell.TheVariants.{Const, Not, Bin, Mux, Slice, Cat, Rep, Read}
use Rattle.pdl_net.specs.declared.Dir.{Dir}
use Rattle.pdl_net.specs.declared.Dir.TheVariants.{In, Out}
use Rattle.pdl_net.specs.declared.Port.{Port}
use Rattle.pdl_net.specs.declared.Reg.{Reg}
use Rattle.pdl_net.specs.declared.WritePort.{WritePort}
use Rattle.pdl_net.specs.declared.Array.{Array}
use Rattle.pdl_net.specs.declared.Netlist.{Netlist}
use Rattle.pdl_net.specs.Circuit.{circuit_of}
use Rattle.pdl_net_needed.specs.Needed.{reads_of, shown_by, read_by, written_from, used_outside, no_cell, cell_at, sources, IsNeeded, Choice, IsKept, KeepsNeeded, AllNeeded}
use Rattle.pdl_net_needed.specs.Needed.IsNeeded.{outside, inside}
use Rattle.pdl_net_needed.specs.Pruned.{kept_of, kept_before, moved_net, moved_cell, moved_port, moved_reg, moved_write, moved_array}
use Rattle.pdl_net_needed.proofs.Counts.{kept_get, kept_length, kept_within, kept_from}
use Rattle.pdl_net_needed.proofs.ClosedChoices.{IsClosed, closed}
use Rattle.pdl_net_needed.proofs.PrunedParts.{after, reg_moved}

-- ---- what is read is read by its new number

reads_moved : (k : Choice) (g : Cell) → reads_of (moved_cell k g) ≡ map (moved_net k) (reads_of g)
reads_moved k (Const w v) = refl
reads_moved k (Not a) = refl
reads_moved k (Bin op a b) = refl
reads_moved k (Mux x a b) = refl
reads_moved k (Slice a high low) = refl
reads_moved k (Cat a b) = refl
reads_moved k (Rep n a) = refl
reads_moved k (Read m a) = refl

shown_moved : (k : Choice) (ps : List Port)
    → flat_map (λ p. shown_by p.dir) (map (moved_port k) ps) ≡ map (moved_net k) (flat_map (λ p. shown_by p.dir) ps)
shown_moved k [] = refl
shown_moved k (p ∷ ps) =
    elim p.dir as
    (λ (d : Dir). flat_map (λ (q : Port). shown_by q.dir) (map (moved_port k) (record { name = p.name; width = p.width; dir = d } ∷ ps))
    ≡ map (moved_net k) (flat_map (λ (q : Port). shown_by q.dir) (record { name = p.name; width = p.width; dir = d } ∷ ps))) [
      | In ↦ shown_moved k ps
      | Out x ↦ ap (λ xs. moved_net k x ∷ xs) (shown_moved k ps)
    ]

written_moved : (k : Choice) (ps : List WritePort) → flat_map read_by (map (moved_write k) ps) ≡ map (moved_net k) (flat_map read_by ps)
written_moved k [] = refl
written_moved k (p ∷ ps) = ap (λ xs. moved_net k p.enable ∷ moved_net k p.addr ∷ moved_net k p.value ∷ xs) (written_moved k ps)

arrays_moved : (k : Choice) (ms : List Array)
    → flat_map written_from (map (moved_array k) ms) ≡ map (moved_net k) (flat_map written_from ms)
arrays_moved k [] = refl
arrays_moved k (a ∷ ms) =
    ap (λ xs. xs ++ flat_map written_from (map (moved_array k) ms)) (written_moved k a.writes)
    ∙ ap (λ xs. map (moved_net k) (written_from a) ++ xs) (arrays_moved k ms)
    ∙ sym (map-append (moved_net k) (written_from a) (flat_map written_from ms))

used_moved : (k : Choice) (n : Netlist) → used_outside (after k n) ≡ map (moved_net k) (used_outside (circuit_of n))
used_moved k n =
    let shown = flat_map (λ (p : Port). shown_by p.dir) n.ports in
    ap (λ xs. xs ++ flat_map written_from (map (moved_array k) n.arrays)) (shown_moved k n.ports)
    ∙ ap (λ xs. map (moved_net k) shown ++ xs) (arrays_moved k n.arrays)
    ∙ sym (map-append (moved_net k) shown (flat_map written_from n.arrays))

-- a cell that a closed choice keeps stands at its new number, with the new numbers of what it reads
pub cell_moved : (k : Choice) (n : Netlist) → IsClosed (circuit_of n) k → (j : ℕ) → IsKept k (CellNet j)
    → cell_at (after k n) (kept_before k.cells j) ≡ moved_cell k (cell_at (circuit_of n) j)
cell_moved k n h j kept =
    let e = kept_length k.cells n.cells h.cell_count in
    let b = kept_within k.cells j kept in
    get_or-map (moved_cell k) (kept_of k.cells n.cells) (kept_before k.cells j) no_cell no_cell (omega arith)
    ∙ ap (moved_cell k) (kept_get k.cells n.cells j no_cell kept)

sources_moved : (k : Choice) (n : Netlist) → IsClosed (circuit_of n) k → (x : Net) → IsKept k x
    → sources (after k n) (moved_net k x) ≡ map (moved_net k) (sources (circuit_of n) x)
sources_moved k n h (Input i) kept = refl
sources_moved k n h (RegNet r) kept = ap (λ (g : Reg). g.next ∷ []) (reg_moved k n h r kept)
sources_moved k n h (CellNet j) kept = ap reads_of (cell_moved k n h j kept) ∙ reads_moved k (cell_at (circuit_of n) j)

-- ---- what is needed is needed by its new number

contains_moved : (k : Choice) (xs ys : List Net) (x : Net) → ys ≡ map (moved_net k) xs → Contains xs x → Contains ys (moved_net k x)
contains_moved k xs ys x e m =
    let l = length-map xs (moved_net k) in
    let d : length ys ≡ length (map (moved_net k) xs) = ap length e in
    (m.0, omega (arith, l, d, m.1), ap (λ zs. get_or zs m.0 (moved_net k x)) e ∙ get_or-map (moved_net k) xs m.0 x (moved_net k x) m.1 ∙ ap (moved_net k) m.2)

needed_moved : (k : Choice) (n : Netlist) → KeepsNeeded (circuit_of n) k → {x : Net} → IsNeeded (circuit_of n) x
    → IsNeeded (after k n) (moved_net k x)
needed_moved k n h (outside {x = x} m) = outside (contains_moved k (used_outside (circuit_of n)) (used_outside (after k n)) x (used_moved k n) m)
needed_moved k n h (inside {x = x} {y = y} b m) =
    inside (needed_moved k n h b)
    (contains_moved k (sources (circuit_of n) x) (sources (after k n) (moved_net k x)) y (sources_moved k n (closed (circuit_of n) k h) x (h.needed x b)) m)

-- each register and each cell of a pruned netlist is needed in it, where just what was needed is kept
pub all_needed : (k : Choice) (n : Netlist) → KeepsNeeded (circuit_of n) k → AllNeeded (after k n)
all_needed k n h = record {
  regs = λ r l.
      let a = length-map (kept_of k.regs n.regs) (moved_reg k) in
      let b = kept_length k.regs n.regs h.reg_count in
      let p = kept_from k.regs r (omega arith) in
      subst (λ i. IsNeeded (after k n) (RegNet i)) p.here (needed_moved k n h (h.regs p.old p.kept));
  cells = λ j l.
      let a = length-map (kept_of k.cells n.cells) (moved_cell k) in
      let b = kept_length k.cells n.cells h.cell_count in
      let p = kept_from k.cells j (omega arith) in
      subst (λ i. IsNeeded (after k n) (CellNet i)) p.here (needed_moved k n h (h.cells p.old p.kept));
}
