-- A circuit stays well formed as it grows.
use Rattle.std.proofs.Common.{◌≡◌, ℕ, zero, suc, ◌*◌, ◌^◌, ◌≤◌, map, ◌<◌, List, [], ◌∷◌, ◌++◌, length, Some, refl, sym, ap, ◌∙◌, subst, arith}
use Rattle.std.specs.Prelude.{slice_get}
use Rattle.pdl_net.specs.declared.Net.{Net}
use Rattle.pdl_net.specs.declared.Cell.{Cell}
use Rattle.pdl_net.specs.declared.Cell.TheVariants.{Const, Not, Bin, Mux, Slice, Cat, Rep, Read}
use Rattle.pdl_net.specs.declared.Dir.{Dir}
use Rattle.pdl_net.specs.declared.Dir.TheVariants.{In, Out}
use Rattle.pdl_net.specs.declared.Port.{Port}
use Rattle.pdl_net.specs.declared.Array.{Array}
use Rattle.pdl_net.specs.declared.Reg.{Reg}
use Rattle.pdl_net.specs.declared.WritePort.{WritePort}
use Rattle.pdl_net.specs.Circuit.{Circuit, Shape, shapes_of, reg_at, array_at, HasReg, reg_width, reg_reset, HasArray, array_width, array_depth}
use Rattle.pdl_net.specs.Signal.{Signal}
use Rattle.pdl_net.specs.Meaning.{look, cell_signal, signals_from, signals, signal, IsThereAt, IsThere, next_signal, write_signal, write_signals}
use Rattle.pdl_net.specs.Well.{FitsIn, Fits, AllFit, IsDriven, IsWellPort, IsWellReg, IsWellWrite, IsWellArray, IsWell}
use Rattle.pdl_net.specs.Growth.{Extends, ExtendsPorts, ExtendsArrays, Grows, KeepsNets}
use Rattle.pdl_net.proofs.Signals.{cell_signal_same, look_grows, there_grows, signals_from_grows, length_signals}
use Rattle.pdl_word.specs.Words.{widest}

-- a cell fits where its nets are there and mean the same
pub fits_same : (old new : Circuit) (There There' : Net → Type 0) (at at' : Net → Signal) → Grows old new
    → ((x : Net) → There x → There' x) → ((x : Net) → There x → at' x ≡ at x) → (g : Cell) → FitsIn old There at g
    → FitsIn new There' at' g
fits_same old new There There' at at' w i h (Const v n) f = f
fits_same old new There There' at at' w i h (Not a) f = i a f
fits_same old new There There' at at' w i h (Bin op a b) f = (i a f.0, i b f.1, ap (λ s. s.width) (h a f.0) ∙ f.2 ∙ sym (ap (λ s. s.width) (h b f.1)))
fits_same old new There There' at at' w i h (Mux s a b) f =
    (i s f.0, i a f.1, i b f.2, ap (λ s. s.width) (h s f.0) ∙ f.3, ap (λ s. s.width) (h a f.1) ∙ f.4 ∙ sym (ap (λ s. s.width) (h b f.2)))
fits_same old new There There' at at' w i h (Slice a high low) f = (i a f.0, f.1, let e = ap (λ s. s.width) (h a f.0) in omega (arith, e, f.2))
fits_same old new There There' at at' w i h (Cat a b) f =
    (i a f.0, i b f.1, let e = ap (λ s. s.width) (h a f.0) in let d = ap (λ s. s.width) (h b f.1) in omega (arith, e, d, f.2))
fits_same old new There There' at at' w i h (Rep k a) f =
    (i a f.0, f.1, let e = ap (λ s. s.width) (h a f.0) in let P : ℕ → Type 0 = λ n. k * n ≤ widest in subst P (sym e) f.2)
fits_same old new There There' at at' w i h (Read m a) f = ((w.arrays m f.0).0, i a f.1, ap (λ s. 2 ^ s.width) (h a f.1) ∙ f.2 ∙ sym ((w.arrays m f.0).2))

-- cells that fit do so in a circuit that has grown
pub all_fit_grown : (old new : Circuit) → Grows old new → (gs : List Cell) (done : List Signal) → AllFit old gs done → AllFit new gs done
all_fit_grown old new w [] done f = tt
all_fit_grown old new w (g ∷ gs) done f =
    let e = cell_signal_same old new (IsThereAt old (length done)) (look old done) (look new done) w (look_grows old new w done) g f.0 in
    let P : Signal → Type 0 = λ s. AllFit new gs (done ++ s ∷ []) in (
      fits_same old new (IsThereAt old (length done)) (IsThereAt new (length done)) (look old done)
          (look new done) w (there_grows old new w (length done) (length done) (omega arith))
          (look_grows old new w done) g f.0,
      subst P (sym e) (all_fit_grown old new w gs (done ++ cell_signal old (look old done) g ∷ []) f.1),
    )

all_fit_append : (c : Circuit) (xs ys : List Cell) (done : List Signal) → AllFit c xs done
    → AllFit c ys (signals_from c xs done) → AllFit c (xs ++ ys) done
all_fit_append c [] ys done f g = g
all_fit_append c (x ∷ xs) ys done f g = (f.0, all_fit_append c xs ys (done ++ cell_signal c (look c done) x ∷ []) f.1 g)

-- with one more cell that fits, all cells fit
pub all_fit_added : (old new : Circuit) (g : Cell) → Grows old new → AllFit old old.cells [] → Fits old g
    → new.cells ≡ old.cells ++ g ∷ [] → AllFit new new.cells []
unfolding signal signals IsThere
all_fit_added old new g w f fit e =
    let d = signals_from old old.cells [] in
    let n = length_signals old in
    let P : ℕ → Net → Type 0 = λ k x. IsThereAt old k x in
    let last : FitsIn new (IsThereAt new (length d)) (look new d) g =
    fits_same old new (IsThere old) (IsThereAt new (length d)) (look old d)
    (look new d) w (λ x h. there_grows old new w (length old.cells) (length d) (omega (arith, n)) x h)
    (λ x h. look_grows old new w d x (subst (λ k. P k x) (sym n) h)) g fit in
    let R : List Signal → Type 0 = λ s. FitsIn new (IsThereAt new (length s)) (look new s) g in
    let Q : List Cell → Type 0 = λ gs. AllFit new gs [] in
    subst Q (sym e)
    (all_fit_append new old.cells (g ∷ []) [] (all_fit_grown old new w old.cells [] f)
    (subst R (sym (signals_from_grows old new w old.cells [] f)) last, tt))

-- a well formed port, register, write port or array stays so
driven_stays : (old new : Circuit) → KeepsNets old new → (w : ℕ) (d : Dir) → IsDriven old w d → IsDriven new w d
driven_stays old new k w In h = tt
driven_stays old new k w (Out x) h = ((k.nets x h.0).there, ap (λ s. s.width) ((k.nets x h.0).same) ∙ h.1)

-- a well formed port stays so where the nets are kept
pub port_stays : (old new : Circuit) → KeepsNets old new → (p : Port) → IsWellPort old p → IsWellPort new p
port_stays old new k p w = record { low = w.low; high = w.high; driven = driven_stays old new k p.width p.dir w.driven }

-- a well formed register stays so where the nets are kept
pub reg_stays : (old new : Circuit) → KeepsNets old new → (r : Reg) → IsWellReg old r → IsWellReg new r
reg_stays old new k r w = record {
  low = w.low;
  high = w.high;
  reset = w.reset;
  next = (k.nets r.next w.next).there;
  width = ap (λ s. s.width) ((k.nets r.next w.next).same) ∙ w.width;
}

-- a well formed write port stays so where the nets are kept
pub write_stays : (old new : Circuit) → KeepsNets old new → (a : Array) (p : WritePort) → IsWellWrite old a p → IsWellWrite new a p
write_stays old new k a p w = record {
  enable = (k.nets p.enable w.enable).there;
  addr = (k.nets p.addr w.addr).there;
  value = (k.nets p.value w.value).there;
  one = ap (λ s. s.width) ((k.nets p.enable w.enable).same) ∙ w.one;
  reach = ap (λ s. 2 ^ s.width) ((k.nets p.addr w.addr).same) ∙ w.reach;
  width = ap (λ s. s.width) ((k.nets p.value w.value).same) ∙ w.width;
}

-- a well formed array stays so where the nets are kept
pub array_stays : (old new : Circuit) → KeepsNets old new → (a : Array) → IsWellArray old a → IsWellArray new a
array_stays old new k a w = record {
  low = w.low;
  high = w.high;
  depth = w.depth;
  writes = λ i p e. write_stays old new k a p (w.writes i p e);
}

-- the well formed write ports of an array mean the same where the nets are kept
pub writes_stay : (old new : Circuit) → KeepsNets old new → (a : Array) (ps : List WritePort)
    → ((k : ℕ) (p : WritePort) → slice_get ps k ≡ Some p → IsWellWrite old a p)
    → map (write_signal new) ps ≡ map (write_signal old) ps
writes_stay old new k a [] w = refl
writes_stay old new k a (p ∷ ps) w =
    let f = w zero p refl in
    cc ((k.nets p.enable f.enable).same, (k.nets p.addr f.addr).same, (k.nets p.value f.value).same, writes_stay old new k a ps (λ i q e. w (suc i) q e))

-- the new circuit has each register and array of the old one as it was
pub record KeepsParts (old new : Circuit) : Type 0 where
  pub regs : (r : ℕ) → r < length old.regs → (r < length new.regs) × (reg_at new r ≡ reg_at old r)
  pub arrays : (m : ℕ) → m < length old.arrays → (m < length new.arrays) × (array_at new m ≡ array_at old m)

-- then also what they take next
nexts_kept : (old new : Circuit) → KeepsNets old new → IsWell old → KeepsParts old new → (r : ℕ) → HasReg old r
    → next_signal new r ≡ next_signal old r
unfolding HasReg next_signal
nexts_kept old new k w p r h = ap (λ g. signal new g.next) (p.regs r h).1 ∙ (k.nets (reg_at old r).next ((w.regs r h).next)).same

writes_kept : (old new : Circuit) → KeepsNets old new → IsWell old → KeepsParts old new → (m : ℕ) → HasArray old m
    → write_signals new m ≡ write_signals old m
unfolding HasArray write_signals
writes_kept old new k w p m h =
    ap (λ g. map (write_signal new) g.writes) (p.arrays m h).1
    ∙ writes_stay old new k (array_at old m) (array_at old m).writes ((w.arrays m h).writes)

-- a circuit that keeps nets, parts, ports and shapes of a well formed one extends it
pub extends_kept : (old new : Circuit) → KeepsNets old new → IsWell old → KeepsParts old new
    → new.ports ≡ old.ports → shapes_of new ≡ shapes_of old → Extends old new
unfolding HasReg HasArray reg_width reg_reset array_width array_depth
extends_kept old new k w p ports shapes = record {
  there = λ x h. (k.nets x h).there;
  kept = λ x h. (k.nets x h).same;
  has_reg = λ r h. (p.regs r h).0;
  width = λ r h. ap (λ g. g.width) (p.regs r h).1;
  reset = λ r h. ap (λ g. g.reset) (p.regs r h).1;
  has_array = λ m h. (p.arrays m h).0;
  word = λ m h. ap (λ g. g.width) (p.arrays m h).1;
  depth = λ m h. ap (λ g. g.depth) (p.arrays m h).1;
  nexts = λ r h. nexts_kept old new k w p r h;
  writes = λ m h. writes_kept old new k w p m h;
  ports = ports;
  shapes = shapes;
}

-- a circuit that keeps nets and parts of a well formed one, with these ports added, extends it with them
pub extends_ports_kept : (old new : Circuit) (added : List Port) → KeepsNets old new → IsWell old → KeepsParts old new
    → new.ports ≡ old.ports ++ added → shapes_of new ≡ shapes_of old → ExtendsPorts old new added
unfolding HasReg HasArray reg_width reg_reset array_width array_depth
extends_ports_kept old new added k w p ports shapes = record {
  there = λ x h. (k.nets x h).there;
  kept = λ x h. (k.nets x h).same;
  has_reg = λ r h. (p.regs r h).0;
  width = λ r h. ap (λ g. g.width) (p.regs r h).1;
  reset = λ r h. ap (λ g. g.reset) (p.regs r h).1;
  has_array = λ m h. (p.arrays m h).0;
  word = λ m h. ap (λ g. g.width) (p.arrays m h).1;
  depth = λ m h. ap (λ g. g.depth) (p.arrays m h).1;
  nexts = λ r h. nexts_kept old new k w p r h;
  writes = λ m h. writes_kept old new k w p m h;
  ports = ports;
  shapes = shapes;
}

-- a circuit that keeps nets and parts of a well formed one, with these arrays added, extends it with them
pub extends_arrays_kept : (old new : Circuit) (added : List Shape) → KeepsNets old new → IsWell old → KeepsParts old new
    → new.ports ≡ old.ports → shapes_of new ≡ shapes_of old ++ added → ExtendsArrays old new added
unfolding HasReg HasArray reg_width reg_reset array_width array_depth
extends_arrays_kept old new added k w p ports shapes = record {
  there = λ x h. (k.nets x h).there;
  kept = λ x h. (k.nets x h).same;
  has_reg = λ r h. (p.regs r h).0;
  width = λ r h. ap (λ g. g.width) (p.regs r h).1;
  reset = λ r h. ap (λ g. g.reset) (p.regs r h).1;
  has_array = λ m h. (p.arrays m h).0;
  word = λ m h. ap (λ g. g.width) (p.arrays m h).1;
  depth = λ m h. ap (λ g. g.depth) (p.arrays m h).1;
  nexts = λ r h. nexts_kept old new k w p r h;
  writes = λ m h. writes_kept old new k w p m h;
  ports = ports;
  shapes = shapes;
}
