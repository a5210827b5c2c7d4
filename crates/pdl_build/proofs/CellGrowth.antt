-- Each change keeps a circuit well formed, and keeps what its nets mean: cells and ports.
use Rattle.std.proofs.Common.{◌≡◌, ℕ, zero, suc, ◌+◌, ◌<◌, ◌≤◌, ◌⊎◌, inl, inr, List, [], ◌∷◌, ◌++◌, length, get_or, refl, sym, ap, ◌∙◌, subst, arith, length-append, ⊎_elim}
use Rattle.std.specs.Prelude.{slice_get, Some, filter_map}
use Rattle.std.proofs.lemmas.List.{get_or_append_left, get_or_push, append-nil}
use Rattle.std.proofs.lemmas.List.Elements.{filter_map-append}
use Rattle.std.proofs.lemmas.Bool.{cases_lt}
use Rattle.pdl_net.specs.declared.Net.{Net}
use Rattle.pdl_net.specs.declared.Net.TheVariants.{Input, Cell as CellNet}
use Rattle.pdl_net.specs.declared.Dir.TheVariants.{In, Out}
use Rattle.pdl_net.specs.declared.Port.{Port}
use Rattle.pdl_net.specs.declared.Cell.{Cell}
use Rattle.pdl_net.specs.Circuit.{Circuit, inputs_of, port_input, port_output, reg_at, array_at, shapes_of}
use Rattle.pdl_net.specs.Signal.{Signal, input_signal}
use Rattle.pdl_net.specs.Meaning.{cell_signal, signal, IsThere, Means}
use Rattle.pdl_net.specs.Well.{Fits, AllFit, IsWell, IsWellPort}
use Rattle.pdl_net.specs.Growth.{Grows, KeepsNets, Extends, ExtendsPorts}
use Rattle.pdl_net.proofs.Signals.{keeps_nets_grown, signal_added}
use Rattle.pdl_net.proofs.CircuitGrowth.{all_fit_added, all_fit_grown, port_stays, reg_stays, array_stays, KeepsParts, extends_kept, extends_ports_kept}
use Rattle.pdl_build.specs.Change.{with_cell, with_port, input_port, output_port}
use Rattle.pdl_build.specs.declared.Extent.{Extent}
use Rattle.pdl_build.specs.Parts.{IsExtent, HaveExtents, no_cell, extent_in}
use Rattle.pdl_word.specs.Words.{widest}

-- all cells still fit in a circuit that has grown but by no cell
pub all_fit_still : (old new : Circuit) → Grows old new → IsWell old → new.cells ≡ old.cells → AllFit new new.cells []
all_fit_still old new g w e =
    let P : List Cell → Type 0 = λ gs. AllFit new gs [] in
    subst P (sym e) (all_fit_grown old new g old.cells [] w.cells)

-- where no input and no cell is added, what is known stays true
pub extents_still : (old new : Circuit) (ins : List ℕ) (ns : List Extent) → KeepsNets old new
    → inputs_of new ≡ inputs_of old → new.cells ≡ old.cells → HaveExtents old ins ns → HaveExtents new ins ns
unfolding IsThere
extents_still old new ins ns k i e h =
    let n : length new.cells ≡ length old.cells = ap length e in
    record {
      inputs = h.inputs ∙ sym i;
      count = h.count ∙ sym n;
      cells = λ j l.
          let lt : j < length old.cells = omega (arith, n) in
          subst (λ (f : Signal). IsExtent f (extent_in ns j)) (sym (k.nets (CellNet j) lt).same) (h.cells j lt);
    }

-- an element of a list with one more
pub get_pushed : {X : Type 0} (xs : List X) (x y : X) (k : ℕ) → slice_get (xs ++ x ∷ []) k ≡ Some y → (slice_get xs k ≡ Some y) ⊎ (x ≡ y)
get_pushed [] x y zero e = inr (cc)
get_pushed [] x y (suc k) e = absurd (cc)
get_pushed (z ∷ xs) x y zero e = inl e
get_pushed (z ∷ xs) x y (suc k) e = get_pushed xs x y k e

-- a cell

cell_grows : (c : Circuit) (g : Cell) → Grows c (with_cell c g)
cell_grows c g = record {
  inputs = λ i h. (h, refl);
  regs = λ r h. (h, refl);
  arrays = λ m h. (h, refl, refl);
  more = g ∷ [];
  cells = refl;
}

cell_keeps : (c : Circuit) (g : Cell) → IsWell c → KeepsNets c (with_cell c g)
cell_keeps c g w = keeps_nets_grown c (with_cell c g) (cell_grows c g) w.cells

cell_parts : (c : Circuit) (g : Cell) → KeepsParts c (with_cell c g)
cell_parts c g = record { regs = λ r h. (h, refl); arrays = λ m h. (h, refl) }

-- a well formed circuit is extended by a cell more
pub extends_cell : (c : Circuit) (g : Cell) → IsWell c → Extends c (with_cell c g)
unfolding shapes_of
extends_cell c g w = extends_kept c (with_cell c g) (cell_keeps c g w) w (cell_parts c g) refl refl

-- a cell more that fits leaves a circuit well formed
pub well_cell : (c : Circuit) (g : Cell) → IsWell c → Fits c g → IsWell (with_cell c g)
well_cell c g w f =
    let k = cell_keeps c g w in
    record {
      ports = λ i p e. port_stays c (with_cell c g) k p (w.ports i p e);
      cells = all_fit_added c (with_cell c g) g (cell_grows c g) w.cells f refl;
      regs = λ r h. reg_stays c (with_cell c g) k (reg_at c r) (w.regs r h);
      arrays = λ m h. array_stays c (with_cell c g) k (array_at c m) (w.arrays m h);
    }

-- the net of an added cell that fits means the cell's signal
pub means_cell : (c : Circuit) (g : Cell) → IsWell c → Fits c g
    → Means (with_cell c g) (CellNet (length c.cells)) (cell_signal c (signal c) g)
unfolding IsThere
means_cell c g w f = record {
  there = omega (arith, length-append c.cells (g ∷ []));
  same = signal_added c (with_cell c g) g (cell_grows c g) w.cells f refl;
}

-- with a cell more that fits, what is known of cells is that and what is known of this one
pub extents_cell : (c : Circuit) (g : Cell) (ins : List ℕ) (ns : List Extent) (v : Extent) → IsWell c → Fits c g
    → HaveExtents c ins ns → IsExtent (cell_signal c (signal c) g) v → HaveExtents (with_cell c g) ins (ns ++ v ∷ [])
unfolding IsThere
extents_cell c g ins ns v w f h e =
    let d = with_cell c g in
    let n = length-append c.cells (g ∷ []) in
    let m = length-append ns (v ∷ []) in
    record {
      inputs = h.inputs;
      count = omega (arith, n, m, h.count);
      cells = λ k l. ⊎_elim
          (λ (lt : k < length c.cells).
          subst (IsExtent (signal d (CellNet k))) (sym (get_or_append_left ns (v ∷ []) no_cell k (omega (arith, h.count))))
          (subst (λ (s : Signal). IsExtent s (extent_in ns k)) (sym ((cell_keeps c g w).nets (CellNet k) lt).same) (h.cells k lt)))
          (λ (ge : length c.cells ≤ k).
          let i : length c.cells ≡ k = omega (arith, n) in
          subst (IsExtent (signal d (CellNet k))) (sym (get_or_push ns v no_cell k (h.count ∙ i)))
          (subst (λ (s : Signal). IsExtent s v) (sym (ap (λ j. signal d (CellNet j)) (sym i) ∙ (means_cell c g w f).same)) e))
          (cases_lt k (length c.cells));
    }

-- a port

inputs_pushed : (c : Circuit) (p : Port) → inputs_of (with_port c p) ≡ inputs_of c ++ filter_map port_input (p ∷ [])
inputs_pushed c p = filter_map-append port_input c.ports (p ∷ [])

port_grows : (c : Circuit) (p : Port) → Grows c (with_port c p)
port_grows c p =
    let more = filter_map port_input (p ∷ []) in
    let e = inputs_pushed c p in
    let n = ap length e ∙ length-append (inputs_of c) more in
    record {
      inputs = λ i h. (omega (arith, n), ap (λ ws. get_or ws i 0) e ∙ get_or_append_left (inputs_of c) more 0 i h);
      regs = λ r h. (h, refl);
      arrays = λ m h. (h, refl, refl);
      more = [];
      cells = sym (append-nil c.cells);
    }

port_keeps : (c : Circuit) (p : Port) → IsWell c → KeepsNets c (with_port c p)
port_keeps c p w = keeps_nets_grown c (with_port c p) (port_grows c p) w.cells

port_parts : (c : Circuit) (p : Port) → KeepsParts c (with_port c p)
port_parts c p = record { regs = λ r h. (h, refl); arrays = λ m h. (h, refl) }

-- a well formed circuit is extended by a port more
pub extends_port : (c : Circuit) (p : Port) → IsWell c → ExtendsPorts c (with_port c p) (p ∷ [])
unfolding shapes_of
extends_port c p w = extends_ports_kept c (with_port c p) (p ∷ []) (port_keeps c p w) w (port_parts c p) refl refl

-- a well formed circuit stays well formed with a port more, where the port fits it
pub well_port : (c : Circuit) (p : Port) → IsWell c → IsWellPort c p → IsWell (with_port c p)
well_port c p w f =
    let d = with_port c p in
    let k = port_keeps c p w in
    record {
      ports = λ i q e. port_stays c d k q (⊎_elim
          (λ (o : slice_get c.ports i ≡ Some q). w.ports i q o)
          (λ (s : p ≡ q). subst (IsWellPort c) s f)
          (get_pushed c.ports p q i e));
      cells = all_fit_still c d (port_grows c p) w refl;
      regs = λ r h. reg_stays c d k (reg_at c r) (w.regs r h);
      arrays = λ m h. array_stays c d k (array_at c m) (w.arrays m h);
    }

-- an input more of 1 to widest bits leaves a circuit well formed
pub well_input : (c : Circuit) (n : List ℕ) (w : ℕ) → IsWell c → 1 ≤ w → w ≤ widest → IsWell (with_port c (input_port n w))
well_input c n w h low high = well_port c (input_port n w) h (record { low = low; high = high; driven = tt })

-- the net of an added input means the input's signal
pub means_input : (c : Circuit) (n : List ℕ) (w : ℕ)
    → Means (with_port c (input_port n w)) (Input (length (inputs_of c))) (input_signal w (length (inputs_of c)))
unfolding IsThere signal
means_input c n w =
    let e = inputs_pushed c (input_port n w) in
    let m = ap length e ∙ length-append (inputs_of c) (w ∷ []) in
    record {
      there = omega (arith, m);
      same =
          ap (λ v. input_signal v (length (inputs_of c)))
          (ap (λ ns. get_or ns (length (inputs_of c)) 0) e ∙ get_or_push (inputs_of c) w 0 (length (inputs_of c)) refl);
    }

-- with an input more, the widths of inputs are those with its own, and what is known of cells stays true
pub extents_input : (c : Circuit) (n : List ℕ) (w : ℕ) (ins : List ℕ) (ns : List Extent) → IsWell c
    → HaveExtents c ins ns → HaveExtents (with_port c (input_port n w)) (ins ++ w ∷ []) ns
unfolding IsThere
extents_input c n w ins ns h x = record {
  inputs = ap (λ l. l ++ w ∷ []) x.inputs ∙ sym (inputs_pushed c (input_port n w));
  count = x.count;
  cells = λ k l. subst (λ (s : Signal). IsExtent s (extent_in ns k)) (sym ((port_keeps c (input_port n w) h).nets (CellNet k) l).same) (x.cells k l);
}

-- an output more of a net that is there, of 1 to widest bits, leaves a circuit well formed
pub well_output : (c : Circuit) (n : List ℕ) (x : Net) → IsWell c → IsThere c x
    → 1 ≤ (signal c x).width → (signal c x).width ≤ widest → IsWell (with_port c (output_port c n x))
well_output c n x w t low high = well_port c (output_port c n x) w (record { low = low; high = high; driven = (t, refl) })

-- with an output more, what is known of inputs and cells stays true
pub extents_output : (c : Circuit) (n : List ℕ) (x : Net) (ins : List ℕ) (ns : List Extent) → IsWell c
    → HaveExtents c ins ns → HaveExtents (with_port c (output_port c n x)) ins ns
extents_output c n x ins ns w h =
    extents_still c (with_port c (output_port c n x)) ins ns (port_keeps c (output_port c n x) w)
    (inputs_pushed c (output_port c n x) ∙ append-nil (inputs_of c)) refl h

-- each port is an input or an output
pub count_ports : (ps : List Port) → length (filter_map port_input ps) + length (filter_map port_output ps) ≡ length ps
count_ports [] = refl
count_ports (p ∷ ps) =
    elim p.dir as
    (λ d. length (filter_map port_input (record p { dir = d } ∷ ps)) + length (filter_map port_output (record p { dir = d } ∷ ps)) ≡ length (p ∷ ps))
    [ In ↦ omega (arith, count_ports ps) | Out x ↦ omega (arith, count_ports ps) ]
