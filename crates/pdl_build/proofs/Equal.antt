-- An equal cell that is there means what one more would mean.
use Rattle.std.proofs.Common.{◌≡◌, ℕ, zero, suc, ◌+◌, ◌<◌, List, [], ◌∷◌, ◌++◌, length, get_or, refl, sym, ap, ◌∙◌, arith, length-append}
use Rattle.std.proofs.lemmas.List.{append-nil, get_or_append_left, get_or_push}
use Rattle.pdl_net.specs.declared.Net.TheVariants.{Cell as CellNet}
use Rattle.pdl_net.specs.declared.Cell.{Cell}
use Rattle.pdl_net.specs.Circuit.{Circuit}
use Rattle.pdl_net.specs.Signal.{Signal, no_signal}
use Rattle.pdl_net.specs.Meaning.{look, cell_signal, signals_from, signals, signal, IsThereAt, IsThere, Means}
use Rattle.pdl_net.specs.Well.{AllFit, IsWell}
use Rattle.pdl_net.specs.Growth.{Grows}
use Rattle.pdl_net.proofs.Signals.{signals_from_front, look_front, cell_signal_same}

-- a circuit is itself with nothing added
pub same_grows : (c : Circuit) → Grows c c
same_grows c = record {
  inputs = λ i h. (h, refl);
  regs = λ r h. (h, refl);
  arrays = λ m h. (h, refl, refl);
  more = [];
  cells = sym (append-nil c.cells);
}

-- the first of some cells among the signals of all
first_signal : (c : Circuit) (g : Cell) (gs : List Cell) (done : List Signal) → AllFit c (g ∷ gs) done
    → get_or (signals_from c (g ∷ gs) done) (length done) no_signal ≡ cell_signal c (look c (signals_from c (g ∷ gs) done)) g
first_signal c g gs done fit =
    let f = cell_signal c (look c done) g in
    let r = signals_from_front c gs (done ++ f ∷ []) in
    let n = length-append done (f ∷ []) in
    let front = signals_from_front c (g ∷ gs) done in
    let at : get_or (signals_from c gs (done ++ f ∷ [])) (length done) no_signal ≡ f =
    ap (λ fs. get_or fs (length done) no_signal) r.1
    ∙ get_or_append_left (done ++ f ∷ []) r.0 no_signal (length done) (omega (arith, n))
    ∙ get_or_push done f no_signal (length done) refl in
    let same = cell_signal_same c c (IsThereAt c (length done)) (look c done) (look c (signals_from c (g ∷ gs) done)) (same_grows c)
    (λ x h. ap (λ fs. look c fs x) front.1 ∙ look_front c done front.0 x h) g fit.0 in
    at ∙ sym same

-- each of them
signal_at : (c : Circuit) (gs : List Cell) (done : List Signal) (k : ℕ) (g d : Cell) → AllFit c gs done → k < length gs → get_or gs k d ≡ g
    → get_or (signals_from c gs done) (length done + k) no_signal ≡ cell_signal c (look c (signals_from c gs done)) g
signal_at c [] done k g d fit l e = absurd (omega (arith, l))
signal_at c (x ∷ gs) done zero g d fit l e =
    let n : length done + 0 ≡ length done = omega arith in
    ap (λ i. get_or (signals_from c (x ∷ gs) done) i no_signal) n ∙ first_signal c x gs done fit ∙ ap (cell_signal c (look c (signals_from c (x ∷ gs) done))) e
signal_at c (x ∷ gs) done (suc k) g d fit l e =
    let f = cell_signal c (look c done) x in
    let n : length done + suc k ≡ length (done ++ f ∷ []) + k = omega (arith, length-append done (f ∷ [])) in
    ap (λ i. get_or (signals_from c (x ∷ gs) done) i no_signal) n ∙ signal_at c gs (done ++ f ∷ []) k g d fit.1 (omega (arith, l)) e

-- the net of a cell that is there means the signal of an equal cell
pub means_equal : (c : Circuit) (k : ℕ) (g d : Cell) → IsWell c
    → k < length c.cells → get_or c.cells k d ≡ g → Means c (CellNet k) (cell_signal c (signal c) g)
unfolding IsThere signal signals
means_equal c k g d w l e =
    let n : k ≡ 0 + k = omega arith in
    record { there = l; same = ap (λ i. get_or (signals_from c c.cells []) i no_signal) n ∙ signal_at c c.cells [] k g d w.cells l e }
