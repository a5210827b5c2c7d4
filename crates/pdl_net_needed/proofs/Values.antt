-- Kept cells fit, and keep their values.
use Rattle.std.proofs.Common.{◌≡◌, ℕ, zero, suc, ◌*◌, ◌^◌, ◌<◌, ◌≤◌, ⊎_elim, Bool, true, false, List, [], ◌∷◌, ◌++◌, length, map, get_or, refl, sym, ap, ◌∙◌, subst, arith, append_assoc, length-append}
use Rattle.std.proofs.lemmas.List.{get_or_append_left, get_or_push, get_or_at}
use Rattle.std.proofs.lemmas.Bool.{cases_lt}
use Rattle.pdl_word.specs.Each.{Each}
use Rattle.pdl_word.proofs.Bools.{untrue}
use Rattle.pdl_net.specs.declared.Net.{Net}
use Rattle.pdl_net.specs.declared.Net.TheVariants.{Input, Reg as RegNet, Cell as CellNet}
use Rattle.pdl_net.specs.declared.Cell.{Cell}
use Rattle.pdl_net.specs.declared.Cell.TheVariants.{Const, Not, Bin, Mux, Slice, Cat, Rep, Read}
use Rattle.pdl_net.specs.Circuit.{Circuit, State, inputs_of, reg_at, array_at}
use Rattle.pdl_net.specs.Signal.{Signal, no_signal, input_value, reg_value, const_value, not_value, bin_value, mux_value, slice_value, cat_value, rep_value, read_value, bin_width}
use Rattle.pdl_net.specs.Meaning.{look, cell_signal, signals_from, IsThereAt}
use Rattle.pdl_net.specs.Well.{FitsIn, AllFit}
use Rattle.pdl_net_needed.specs.Needed.{reads_of, no_cell, Choice, IsKept}
use Rattle.pdl_net_needed.specs.Pruned.{kept_of, kept_before, moved_net, moved_cell}
use Rattle.pdl_net_needed.proofs.Counts.{kept_get, kept_less, kept_next}
use Rattle.pdl_word.specs.Words.{widest}

-- two circuits with the same inputs and array sizes, of which the second has the kept registers of the first
pub record HasMoved (c c' : Circuit) (k : Choice) : Type 0 where
  pub inputs : inputs_of c' ≡ inputs_of c
  pub regs : (r : ℕ) → r < length c.regs → IsKept k (RegNet r)
      → (kept_before k.regs r < length c'.regs) × ((reg_at c' (kept_before k.regs r)).width ≡ (reg_at c r).width)
  pub arrays : length c'.arrays ≡ length c.arrays
  pub widths : (m : ℕ) → m < length c.arrays → (array_at c' m).width ≡ (array_at c m).width
  pub depths : (m : ℕ) → m < length c.arrays → (array_at c' m).depth ≡ (array_at c m).depth

-- two states with the same inputs and arrays, of which the second has the kept registers of the first
pub record IsSameState (k : Choice) (s s' : State) : Type 0 where
  pub inputs : s'.inputs ≡ s.inputs
  pub regs : s'.regs ≡ kept_of k.regs s.regs
  pub arrays : s'.arrays ≡ s.arrays

-- two signals of one width that have the same value, each in a state of its own
pub record SameAt (s s' : State) (f f' : Signal) : Type 0 where
  pub width : f'.width ≡ f.width
  pub value : f'.value s' ≡ f.value s

-- a net is there by its new number, and has the same value
pub record IsSameNet (s s' : State) (There' : Net → Type 0) (f : Signal) (at' : Net → Signal) (y : Net) : Type 0 where
  pub there : There' y
  pub same : SameAt s s' f (at' y)

-- each kept net that is there is there by its new number, with the same width and value
abbrev pub KeepsNets : Choice → State → State → (Net → Type 0) → (Net → Type 0) → (Net → Signal) → (Net → Signal) → Type 0
KeepsNets k s s' There There' at at' = (x : Net) → There x → IsKept k x → IsSameNet s s' There' (at x) at' (moved_net k x)

-- a cell over kept nets fits
moved_fits : (c c' : Circuit) (k : Choice) (s s' : State) (There There' : Net → Type 0) (at at' : Net → Signal)
    → HasMoved c c' k → KeepsNets k s s' There There' at at' → (g : Cell) → Each (IsKept k) (reads_of g)
    → FitsIn c There at g → FitsIn c' There' at' (moved_cell k g)
moved_fits c c' k s s' There There' at at' m h (Const v n) e f = f
moved_fits c c' k s s' There There' at at' m h (Not a) e f = (h a f e.0).there
moved_fits c c' k s s' There There' at at' m h (Bin op a b) e f =
    let p = h a f.0 e.0 in let q = h b f.1 e.1.0 in
    (p.there, q.there, p.same.width ∙ f.2 ∙ sym q.same.width)
moved_fits c c' k s s' There There' at at' m h (Mux x a b) e f =
    let o = h x f.0 e.0 in let p = h a f.1 e.1.0 in let q = h b f.2 e.1.1.0 in
    (o.there, p.there, q.there, o.same.width ∙ f.3, p.same.width ∙ f.4 ∙ sym q.same.width)
moved_fits c c' k s s' There There' at at' m h (Slice a high low) e f = let p = h a f.0 e.0 in (p.there, f.1, omega (arith, p.same.width, f.2))
moved_fits c c' k s s' There There' at at' m h (Cat a b) e f =
    let p = h a f.0 e.0 in let q = h b f.1 e.1.0 in
    (p.there, q.there, omega (arith, p.same.width, q.same.width, f.2))
moved_fits c c' k s s' There There' at at' m h (Rep n a) e f =
    let p = h a f.0 e.0 in let P : ℕ → Type 0 = λ w. n * w ≤ widest in
    (p.there, f.1, subst P (sym p.same.width) f.2)
moved_fits c c' k s s' There There' at at' m h (Read i a) e f =
    let p = h a f.1 e.0 in
    (omega (arith, m.arrays, f.0), p.there, ap (λ w. 2 ^ w) p.same.width ∙ f.2 ∙ sym (m.depths i f.0))

-- and has the same value
moved_value : (c c' : Circuit) (k : Choice) (s s' : State) (There There' : Net → Type 0) (at at' : Net → Signal)
    → HasMoved c c' k → IsSameState k s s' → KeepsNets k s s' There There' at at' → (g : Cell)
    → Each (IsKept k) (reads_of g) → FitsIn c There at g
    → SameAt s s' (cell_signal c at g) (cell_signal c' at' (moved_cell k g))
unfolding const_value not_value bin_value mux_value slice_value cat_value rep_value read_value
moved_value c c' k s s' There There' at at' m t h (Const v n) e f = record { width = refl; value = refl }
moved_value c c' k s s' There There' at at' m t h (Not a) e f = let p = (h a f e.0).same in record { width = p.width; value = cc (p.width, p.value) }
moved_value c c' k s s' There There' at at' m t h (Bin op a b) e f =
    let p = (h a f.0 e.0).same in let q = (h b f.1 e.1.0).same in
    record { width = ap (bin_width op) p.width; value = cc (p.width, p.value, q.value) }
moved_value c c' k s s' There There' at at' m t h (Mux x a b) e f =
    let o = (h x f.0 e.0).same in let p = (h a f.1 e.1.0).same in let q = (h b f.2 e.1.1.0).same in
    record { width = p.width; value = cc (o.value, p.value, q.value) }
moved_value c c' k s s' There There' at at' m t h (Slice a high low) e f = let p = (h a f.0 e.0).same in record { width = refl; value = cc (p.value) }
moved_value c c' k s s' There There' at at' m t h (Cat a b) e f =
    let p = (h a f.0 e.0).same in let q = (h b f.1 e.1.0).same in
    record { width = cc (p.width, q.width); value = cc (q.width, p.value, q.value) }
moved_value c c' k s s' There There' at at' m t h (Rep n a) e f = let p = (h a f.0 e.0).same in
    record { width = ap (λ w. n * w) p.width; value = cc (p.width, p.value) }
moved_value c c' k s s' There There' at at' m t h (Read i a) e f = let p = (h a f.1 e.0).same in
    record { width = m.widths i f.0; value = cc (t.arrays, p.value) }

-- the signals of the first cells, and those of the kept ones among them
pub record Agrees (k : Choice) (s s' : State) (done done' : List Signal) : Type 0 where
  pub count : length done' ≡ kept_before k.cells (length done)
  pub cells : (j : ℕ) → j < length done → IsKept k (CellNet j) → SameAt s s' (get_or done j no_signal) (get_or done' (kept_before k.cells j) no_signal)

-- kept nets have the same values in the pruned circuit where those of the first cells have
pub looked : (c c' : Circuit) (k : Choice) (s s' : State) → HasMoved c c' k → IsSameState k s s'
    → (done done' : List Signal) → Agrees k s s' done done'
    → KeepsNets k s s' (IsThereAt c (length done)) (IsThereAt c' (length done')) (look c done) (look c' done')
unfolding input_value reg_value
looked c c' k s s' m t done done' g (Input i) l e = record {
  there = omega (arith, ap length m.inputs, l);
  same = record { width = ap (λ ws. get_or ws i 0) m.inputs; value = ap (λ xs. get_or xs i 0) t.inputs };
}
looked c c' k s s' m t done done' g (RegNet r) l e = record {
  there = (m.regs r l e).0;
  same = record { width = (m.regs r l e).1; value = ap (λ xs. get_or xs (kept_before k.regs r) 0) t.regs ∙ kept_get k.regs s.regs r 0 e };
}
looked c c' k s s' m t done done' g (CellNet j) l e = record {
  there = let b = kept_less k.cells j (length done) l e in omega (arith, b, g.count);
  same = g.cells j l e;
}

-- one cell more, kept or not
agrees_kept : (k : Choice) (s s' : State) (front bs : List Bool) (done done' : List Signal) (f f' : Signal)
    → k.cells ≡ front ++ true ∷ bs → length front ≡ length done → Agrees k s s' done done' → SameAt s s' f f'
    → Agrees k s s' (done ++ f ∷ []) (done' ++ f' ∷ [])
agrees_kept k s s' front bs done done' f f' e n g h =
    let last : kept_before k.cells (suc (length front)) ≡ suc (kept_before k.cells (length front)) =
    (let P : List Bool → Type 0 = λ xs. kept_before xs (suc (length front)) ≡ suc (kept_before xs (length front)) in
    subst P (sym e) (kept_next front true bs)) in
    let l = length-append done (f ∷ []) in
    let l' = length-append done' (f' ∷ []) in
    record {
      count =
          let a : length (done ++ f ∷ []) ≡ suc (length front) = omega arith in
          let b : kept_before k.cells (length (done ++ f ∷ [])) ≡ kept_before k.cells (suc (length front)) = ap (kept_before k.cells) a in
          let d : kept_before k.cells (length front) ≡ kept_before k.cells (length done) = ap (kept_before k.cells) n in
          omega (arith, g.count);
      cells = λ j lt kept. ⊎_elim
          (λ (less : j < length done).
          let w = kept_less k.cells j (length done) less kept in
          let P : Signal → Signal → Type 0 = λ x y. SameAt s s' x y in
          let i = get_or_append_left done (f ∷ []) no_signal j less in
          let i' = get_or_append_left done' (f' ∷ []) no_signal (kept_before k.cells j) (omega (arith, w, g.count)) in
          subst (λ x. P x (get_or (done' ++ f' ∷ []) (kept_before k.cells j) no_signal)) (sym i)
          (subst (P (get_or done j no_signal)) (sym i') (g.cells j less kept)))
          (λ (ge : length done ≤ j).
          let a : length done ≡ j = omega arith in
          let P : Signal → Signal → Type 0 = λ x y. SameAt s s' x y in
          let i = get_or_push done f no_signal j a in
          let i' = get_or_push done' f' no_signal (kept_before k.cells j) (g.count ∙ ap (kept_before k.cells) a) in
          subst (λ x. P x (get_or (done' ++ f' ∷ []) (kept_before k.cells j) no_signal)) (sym i) (subst (P f) (sym i') h))
          (cases_lt j (length done));
    }

agrees_left : (k : Choice) (s s' : State) (front bs : List Bool) (done done' : List Signal) (f : Signal)
    → k.cells ≡ front ++ false ∷ bs → length front ≡ length done → Agrees k s s' done done'
    → Agrees k s s' (done ++ f ∷ []) done'
agrees_left k s s' front bs done done' f e n g =
    let last : kept_before k.cells (suc (length front)) ≡ kept_before k.cells (length front) =
    (let P : List Bool → Type 0 = λ xs. kept_before xs (suc (length front)) ≡ kept_before xs (length front) in subst P (sym e) (kept_next front false bs)) in
    let l = length-append done (f ∷ []) in
    record {
      count =
          let a : length (done ++ f ∷ []) ≡ suc (length front) = omega arith in
          let b : kept_before k.cells (length (done ++ f ∷ [])) ≡ kept_before k.cells (suc (length front)) = ap (kept_before k.cells) a in
          let d : kept_before k.cells (length front) ≡ kept_before k.cells (length done) = ap (kept_before k.cells) n in
          omega (arith, g.count);
      cells = λ j lt kept. ⊎_elim
          (λ (less : j < length done).
          let P : Signal → Type 0 = λ x. SameAt s s' x (get_or done' (kept_before k.cells j) no_signal) in
          subst P (sym (get_or_append_left done (f ∷ []) no_signal j less)) (g.cells j less kept))
          (λ (ge : length done ≤ j).
          let a : length front ≡ j = omega arith in
          untrue (sym (ap (λ xs. get_or xs j false) e ∙ get_or_at front false bs false j a) ∙ kept))
          (cases_lt j (length done));
    }

-- the kept ones among some cells fit after others, and all agree
pub record IsSameRest (c c' : Circuit) (k : Choice) (s s' : State) (gs : List Cell) (done : List Signal) (gs' : List Cell) (done' : List Signal) : Type 0 where
  pub fit : AllFit c' gs' done'
  pub agree : Agrees k s s' (signals_from c gs done) (signals_from c' gs' done')

-- the kept ones among the other cells fit, and have the values that they had
pub rest_same : (c c' : Circuit) (k : Choice) (s s' : State) → HasMoved c c' k → IsSameState k s s'
    → (gs : List Cell) (front bs : List Bool) (done done' : List Signal)
    → k.cells ≡ front ++ bs → length front ≡ length done → length bs ≡ length gs
    → ((j : ℕ) → j < length gs → get_or bs j false ≡ true → Each (IsKept k) (reads_of (get_or gs j no_cell)))
    → AllFit c gs done → Agrees k s s' done done'
    → IsSameRest c c' k s s' gs done (map (moved_cell k) (kept_of bs gs)) done'
rest_same c c' k s s' m t [] front [] done done' e n l r f g = record { fit = tt; agree = g }
rest_same c c' k s s' m t [] front (b ∷ bs) done done' e n l r f g = absurd (omega (arith, l))
rest_same c c' k s s' m t (x ∷ gs) front [] done done' e n l r f g = absurd (omega (arith, l))
rest_same c c' k s s' m t (x ∷ gs) front (false ∷ bs) done done' e n l r f g =
    let y = cell_signal c (look c done) x in
    let a = agrees_left k s s' front bs done done' y e n g in
    let i = rest_same c c' k s s' m t gs (front ++ false ∷ []) bs (done ++ y ∷ []) done'
    (e ∙ sym (append_assoc front (false ∷ []) bs))
    (omega (arith, length-append front (false ∷ []), length-append done (y ∷ []), n))
    (omega (arith, l)) (λ j h q. r (suc j) (omega (arith, h)) q) f.1 a in
    record { fit = i.fit; agree = i.agree }
rest_same c c' k s s' m t (x ∷ gs) front (true ∷ bs) done done' e n l r f g =
    let There = IsThereAt c (length done) in
    let There' = IsThereAt c' (length done') in
    let nets = looked c c' k s s' m t done done' g in
    let reads = r zero (omega arith) refl in
    let y = cell_signal c (look c done) x in
    let y' = cell_signal c' (look c' done') (moved_cell k x) in
    let v = moved_value c c' k s s' There There' (look c done) (look c' done') m t nets x reads f.0 in
    let w = moved_fits c c' k s s' There There' (look c done) (look c' done') m nets x reads f.0 in
    let a = agrees_kept k s s' front bs done done' y y' e n g v in
    let i = rest_same c c' k s s' m t gs (front ++ true ∷ []) bs (done ++ y ∷ []) (done' ++ y' ∷ [])
    (e ∙ sym (append_assoc front (true ∷ []) bs))
    (omega (arith, length-append front (true ∷ []), length-append done (y ∷ []), n))
    (omega (arith, l)) (λ j h q. r (suc j) (omega (arith, h)) q) f.1 a in
    record { fit = (w, i.fit); agree = i.agree }
