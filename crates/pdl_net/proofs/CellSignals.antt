-- Each cell's signal is that of its nets.
use Rattle.std.proofs.Common.{◌≡◌, ℕ, zero, suc, ◌+◌, ◌<◌, List, [], ◌∷◌, ◌++◌, length, get_or, refl, sym, ap, ◌∙◌, subst, arith, length-append, append_assoc}
use Rattle.std.specs.Prelude.{slice_index_or}
use Rattle.std.proofs.lemmas.List.{get_or_at, append-nil}
use Rattle.pdl_net.specs.declared.Net.{Net}
use Rattle.pdl_net.specs.declared.Net.TheVariants.{Cell as CellNet}
use Rattle.pdl_net.specs.declared.Cell.{Cell}
use Rattle.pdl_net.specs.declared.Cell.TheVariants.{Const}
use Rattle.pdl_net.specs.Circuit.{Circuit}
use Rattle.pdl_net.specs.Signal.{Signal, no_signal}
use Rattle.pdl_net.specs.Meaning.{look, cell_signal, signals_from, signals, signal, IsThereAt}
use Rattle.pdl_net.specs.Well.{FitsIn, AllFit, CellsFit}
use Rattle.pdl_net.specs.Growth.{Grows}
use Rattle.pdl_net.proofs.Signals.{signals_from_front, cell_signal_same, look_front}
use Rattle.pdl_net.proofs.CircuitGrowth.{fits_same}

-- the cell past the last one
abbrev pub no_cell : Cell
no_cell = Const 0 0

-- the k-th cell
abbrev pub cell_at : Circuit → ℕ → Cell
cell_at c k = slice_index_or c.cells k no_cell

grows_refl : (c : Circuit) → Grows c c
grows_refl c = record { inputs = λ i h. (h, refl); regs = λ r h. (h, refl); arrays = λ m h. (h, refl, refl); more = []; cells = sym (append-nil c.cells) }

-- the k-th of these cells fits the first cells, and means what its nets make
record IsFixed (c : Circuit) (all : List Signal) (n : ℕ) (g : Cell) : Type 0 where
  value : get_or all n no_signal ≡ cell_signal c (look c all) g
  fits : FitsIn c (IsThereAt c n) (look c all) g

fixed : (c : Circuit) (gs : List Cell) (done : List Signal) → AllFit c gs done → (k : ℕ)
    → k < length gs → IsFixed c (signals_from c gs done) (length done + k) (get_or gs k no_cell)
fixed c [] done f k h = absurd (omega arith)
fixed c (g ∷ gs) done f zero h =
    let s = cell_signal c (look c done) g in
    let all = signals_from c gs (done ++ s ∷ []) in
    let r = signals_from_front c gs (done ++ s ∷ []) in
    let e : all ≡ done ++ (s ∷ r.0) = r.1 ∙ append_assoc done (s ∷ []) r.0 in
    let n : length done ≡ length done + 0 = omega arith in
    let same : (x : Net) → IsThereAt c (length done) x → look c all x ≡ look c done x = λ x t. ap (λ l. look c l x) e ∙ look_front c done (s ∷ r.0) x t in
    let P : ℕ → Type 0 = λ i. IsFixed c all i g in
    subst P n (record {
      value =
          ap (λ l. get_or l (length done) no_signal) e ∙ get_or_at done s r.0 no_signal (length done) refl
          ∙ sym (cell_signal_same c c (IsThereAt c (length done)) (look c done) (look c all) (grows_refl c) same g f.0);
      fits = fits_same c c (IsThereAt c (length done)) (IsThereAt c (length done)) (look c done) (look c all) (grows_refl c) (λ x t. t) same g f.0;
    })
fixed c (g ∷ gs) done f (suc k) h =
    let s = cell_signal c (look c done) g in
    let n : length (done ++ s ∷ []) + k ≡ length done + suc k = omega (arith, length-append done (s ∷ [])) in
    let P : ℕ → Type 0 = λ i. IsFixed c (signals_from c gs (done ++ s ∷ [])) i (get_or gs k no_cell) in
    subst P n (fixed c gs (done ++ s ∷ []) f.1 k (omega arith))

fixed_at : (c : Circuit) → CellsFit c → (k : ℕ) → k < length c.cells → IsFixed c (signals_from c c.cells []) k (cell_at c k)
fixed_at c w k h =
    let n : 0 + k ≡ k = omega arith in
    let P : ℕ → Type 0 = λ i. IsFixed c (signals_from c c.cells []) i (cell_at c k) in
    subst P n (fixed c c.cells [] w k h)

-- the net of a cell means the signal that the cell makes
pub signal_cell : (c : Circuit) → CellsFit c → (k : ℕ) → k < length c.cells → signal c (CellNet k) ≡ cell_signal c (signal c) (cell_at c k)
unfolding signal signals
signal_cell c w k h = (fixed_at c w k h).value

-- a cell reads earlier cells, with the right widths
pub fits_cell : (c : Circuit) → CellsFit c → (k : ℕ) → k < length c.cells → FitsIn c (IsThereAt c k) (signal c) (cell_at c k)
unfolding signal signals
fits_cell c w k h = (fixed_at c w k h).fits
