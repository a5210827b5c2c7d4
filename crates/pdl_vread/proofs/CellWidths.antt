-- Cells that keep V3 fit, and have the widths that are declared.
use Rattle.std.proofs.Common.{◌≡◌, ◌⊎◌, inl, inr, ℕ, zero, suc, ◌+◌, ◌-◌, ◌*◌, ◌^◌, ◌<◌, ◌≤◌, true, ◌&&◌, eqb, leb, ltb, List, [], ◌∷◌, ◌++◌, length, map, drop, get_or, Option, Some, None, Result, Ok, Err, refl, sym, ap, ◌∙◌, subst, arith}
use Rattle.std.proofs.lemmas.Bool.{and_parts, eqb-true, leb-true, ltb-true, cases_lt}
use Rattle.std.proofs.lemmas.List.{get_or_append_left, get_or_push, length_push}
use Rattle.pdl_net.specs.declared.Net.{Net}
use Rattle.pdl_net.specs.declared.Net.TheVariants.{Input, Reg as RegNet, Cell as CellNet}
use Rattle.pdl_net.specs.declared.Cell.{Cell}
use Rattle.pdl_net.specs.declared.Cell.TheVariants as made
use Rattle.pdl_net.specs.Circuit.{Circuit}
use Rattle.pdl_net.specs.Signal.{Signal, no_signal, bin_width}
use Rattle.pdl_net.specs.Meaning.{look, cell_signal, signals_from, signals, signal, IsThereAt, IsThere}
use Rattle.pdl_net.specs.Well.{FitsIn, AllFit}
use Rattle.pdl_net.proofs.Signals.{length_signals}
use Rattle.pdl_vread_text.specs.declared.file.File.{File}
use Rattle.pdl_vread_text.specs.declared.file.CellDecl.{CellDecl}
use Rattle.pdl_vread_nets.specs.Wired.{wired_cell, onto_line, cells_from}
use Rattle.pdl_vread_rules.specs.RuleQuestions.{first_wrong, both}
use Rattle.pdl_vread_rules.specs.Widths.{bits, widths_of, net_width, is_width, fits, fits_cell, asked_cell}
use Rattle.pdl_vread.proofs.Depths.{right_both}
use Rattle.pdl_vread.proofs.NamedNets.{Has, NetsThere, cell_there}
use Rattle.pdl_word.specs.Words.{widest}

-- a width that passes the test of V3 is 1 to widest bits
pub is_width_parts : (w : ℕ) → is_width w ≡ true → (1 ≤ w) × (w ≤ widest)
is_width_parts w h = let p = and_parts (leb 1 w) (leb w widest) h in (leb-true 1 w p.0, leb-true w widest p.1)

-- a cell fits, and its signal has this width
record FitsWidth (c : Circuit) (There : Net → Type 0) (at : Net → Signal) (g : Cell) (w : ℕ) : Type 0 where
  fit : FitsIn c There at g
  width : (cell_signal c at g).width ≡ w

module _ (c : Circuit) (f : File) (h : Has c f) (There : Net → Type 0) (at : Net → Signal)
    (wide : (x : Net) → There x → (at x).width ≡ net_width (widths_of f) x) where
  abbrev declared_width : Net → ℕ
  declared_width x = net_width (widths_of f) x

  cell_fits : (g : Cell) (w : ℕ) → NetsThere c There g → 1 ≤ w → w ≤ widest → fits_cell (widths_of f) g w ≡ true → FitsWidth c There at g w
  cell_fits (made.Const own v) w n l m e =
      let p = and_parts (eqb own w) (fits v own) e in
      let q = and_parts (is_width own) (ltb v (2 ^ own)) p.1 in
      let r = is_width_parts own q.0 in
      record { fit = (r.0, r.1, ltb-true v (2 ^ own) q.1); width = eqb-true own w p.0 }
  cell_fits (made.Not a) w n l m e = record { fit = n; width = wide a n ∙ eqb-true (declared_width a) w e }
  cell_fits (made.Bin op a b) w n l m e =
      let p = and_parts (eqb (declared_width a) (declared_width b)) (eqb (bin_width op (declared_width a)) w) e in
      record {
        fit = (n.0, n.1, wide a n.0 ∙ (eqb-true (declared_width a) (declared_width b) p.0 ∙ sym (wide b n.1)));
        width = ap (bin_width op) (wide a n.0) ∙ eqb-true (bin_width op (declared_width a)) w p.1;
      }
  cell_fits (made.Mux x a b) w n l m e =
      let p = and_parts (eqb (declared_width x) 1) (eqb (declared_width a) (declared_width b) && eqb (declared_width a) w) e in
      let q = and_parts (eqb (declared_width a) (declared_width b)) (eqb (declared_width a) w) p.1 in
      record {
        fit = (
          n.0,
          n.1,
          n.2,
          wide x n.0 ∙ eqb-true (declared_width x) 1 p.0,
          wide a n.1 ∙ (eqb-true (declared_width a) (declared_width b) q.0 ∙ sym (wide b n.2)),
        );
        width = wide a n.1 ∙ eqb-true (declared_width a) w q.1;
      }
  cell_fits (made.Slice a high low) w n l m e =
      let p = and_parts (leb low high) (ltb high (declared_width a) && eqb (high - low + 1) w) e in
      let q = and_parts (ltb high (declared_width a)) (eqb (high - low + 1) w) p.1 in
      let i : low ≤ high = leb-true low high p.0 in
      let j : high < declared_width a = ltb-true high (declared_width a) q.0 in
      let k : high - low + 1 ≡ w = eqb-true (high - low + 1) w q.1 in
      let s : (at a).width ≡ declared_width a = wide a n in
      let u : high < (at a).width = subst (λ z. high < z) (sym s) j in
      record { fit = (n, i, u); width = omega arith }
  cell_fits (made.Cat a b) w n l m e =
      let i : declared_width a + declared_width b ≡ w = eqb-true (declared_width a + declared_width b) w e in
      let s : (at a).width + (at b).width ≡ w = ap (λ z. z + (at b).width) (wide a n.0) ∙ (ap (λ z. declared_width a + z) (wide b n.1) ∙ i) in
      record { fit = (n.0, n.1, subst (λ z. z ≤ widest) (sym s) m); width = s }
  cell_fits (made.Rep k a) w n l m e =
      let p = and_parts (leb 1 k) (eqb (k * declared_width a) w) e in
      let s : k * (at a).width ≡ w = ap (λ z. k * z) (wide a n) ∙ eqb-true (k * declared_width a) w p.1 in
      record { fit = (n, leb-true 1 k p.0, subst (λ z. z ≤ widest) (sym s) m); width = s }
  cell_fits (made.Read a x) w n l m e =
      let depth = get_or (widths_of f).depths a 0 in
      let p = and_parts (eqb (2 ^ declared_width x) depth) (eqb (get_or (widths_of f).words a 0) w) e in
      let b : a < length f.arrays = omega (arith, n.0, h.array_count) in
      record {
        fit = (n.0, n.1, ap (λ z. 2 ^ z) (wide x n.1) ∙ (eqb-true (2 ^ declared_width x) depth p.0 ∙ sym (h.array_depths a b)));
        width = h.array_widths a b ∙ eqb-true (get_or (widths_of f).words a 0) w p.1;
      }

-- ---- all cells

-- signals have the widths of the first cells
abbrev pub AreWide : File → List Signal → Type 0
AreWide f done = (j : ℕ) → j < length done → (get_or done j no_signal).width ≡ get_or (widths_of f).cells j 0

look_wide : (c : Circuit) (f : File) → Has c f → (done : List Signal) → AreWide f done → (x : Net)
    → IsThereAt c (length done) x → (look c done x).width ≡ net_width (widths_of f) x
look_wide c f h done w (Input i) l = ap (λ z. get_or z i 0) h.inputs
look_wide c f h done w (RegNet r) l = h.reg_widths r (omega (arith, l, h.reg_count))
look_wide c f h done w (CellNet k) l = w k l

next_drop : (n : ℕ) (xs : List CellDecl) (d : CellDecl) (ds : List CellDecl)
    → drop n xs ≡ d ∷ ds → (get_or (map (λ e. bits e.high) xs) n 0 ≡ bits d.high) × (drop (suc n) xs ≡ ds)
next_drop zero [] d ds h = absurd (cc)
next_drop (suc n) [] d ds h = absurd (cc)
next_drop zero (x ∷ xs) d ds h =
    let e : x ≡ d = cc in
    let g : xs ≡ ds = cc in
    (ap (λ (z : CellDecl). bits z.high) e, g)
next_drop (suc n) (x ∷ xs) d ds h = next_drop n xs d ds h

-- where all declarations of a list are found, the first is, and so are the others
pub onto_inv : {B : Type 0} (o : Option B) (line : ℕ) (rest : Result (List B) ℕ) (ys : List B)
    → onto_line o line rest ≡ Ok ys → (z : B) × (zs : List B) × (o ≡ Some z) × (rest ≡ Ok zs) × (z ∷ zs ≡ ys)
onto_inv None line rest ys h = absurd (cc)
onto_inv (Some y) line (Ok zs) ys h = (y, zs, refl, refl, cc)
onto_inv (Some y) line (Err e) ys h = absurd (cc)

wide_more : (f : File) (done : List Signal) (x : Signal) → AreWide f done
    → x.width ≡ get_or (widths_of f).cells (length done) 0 → AreWide f (done ++ x ∷ [])
wide_more f done x w e = λ j l. go j l (cases_lt j (length done))
  where
    go : (j : ℕ) → j < length (done ++ x ∷ []) → (j < length done) ⊎ (length done ≤ j)
        → (get_or (done ++ x ∷ []) j no_signal).width ≡ get_or (widths_of f).cells j 0
    go j l (inl k) = ap (λ (z : Signal). z.width) (get_or_append_left done (x ∷ []) no_signal j k) ∙ w j k
    go j l (inr k) =
        let n = length_push done x in
        let i : length done ≡ j = omega arith in
        ap (λ (z : Signal). z.width) (get_or_push done x no_signal j i) ∙ (e ∙ ap (λ z. get_or (widths_of f).cells z 0) i)

-- these cells fit after those with these signals, and all have the widths that are declared
record AllWide (c : Circuit) (f : File) (gs : List Cell) (done : List Signal) : Type 0 where
  fit : AllFit c gs done
  wide : AreWide f (signals_from c gs done)

all_wide : (c : Circuit) (f : File) → Has c f → (ds : List CellDecl) (gs : List Cell) (done : List Signal)
    → drop (length done) f.cells ≡ ds → cells_from f (length done) ds ≡ Ok gs
    → first_wrong (both (asked_cell (widths_of f)) ds gs) ≡ None → AreWide f done → AllWide c f gs done
all_wide c f h [] gs done at e r w =
    let i : [] ≡ gs = cc in
    subst (λ z. AllWide c f z done) i (record { fit = tt; wide = w })
all_wide c f h (d ∷ ds) gs done at e r w =
    let ask = asked_cell (widths_of f) in
    let o = onto_inv (wired_cell f (length done) d) d.line (cells_from f (suc (length done)) ds) gs e in
    let g = o.0 in
    let wd = bits d.high in
    let s : first_wrong (both ask (d ∷ ds) (g ∷ o.1)) ≡ None = subst (λ z. first_wrong (both ask (d ∷ ds) z) ≡ None) (sym o.4) r in
    let u = right_both (is_width wd && fits_cell (widths_of f) g wd) (first_wrong (both ask ds o.1)) d.line s in
    let p = and_parts (is_width wd) (fits_cell (widths_of f) g wd) u.0 in
    let v = is_width_parts wd p.0 in
    let n = next_drop (length done) f.cells d ds at in
    let one = cell_fits c f h (IsThereAt c (length done)) (look c done) (look_wide c f h done w) g wd (cell_there c f h (length done) d g o.2) v.0 v.1 p.1 in
    let x = cell_signal c (look c done) g in
    let l : suc (length done) ≡ length (done ++ x ∷ []) = (let q = length_push done x in omega arith) in
    let more =
    all_wide c f h ds o.1 (done ++ x ∷ []) (subst (λ z. drop z f.cells ≡ ds) l n.1)
    (subst (λ z. cells_from f z ds ≡ Ok o.1) l o.3) u.1 (wide_more f done x w (one.width ∙ sym n.0)) in
    subst (λ z. AllWide c f z done) o.4 (record { fit = (one.fit, more.fit); wide = more.wide })

none_wide : (f : File) → AreWide f []
none_wide f = λ j l. absurd (omega arith)

-- what V2 and V3 say of the cells of a circuit
pub record CellsRight (c : Circuit) (f : File) : Type 0 where
  pub fit : AllFit c c.cells []
  pub wide : (x : Net) → IsThere c x → (signal c x).width ≡ net_width (widths_of f) x

-- wired cells in which V3 finds nothing wrong fit, and all nets have the widths that are declared
pub cells_right : (c : Circuit) (f : File) → Has c f
    → cells_from f 0 f.cells ≡ Ok c.cells → first_wrong (both (asked_cell (widths_of f)) f.cells c.cells) ≡ None
    → CellsRight c f
unfolding signal signals IsThere
cells_right c f h e r =
    let a = all_wide c f h f.cells c.cells [] refl e r (none_wide f) in
    record {
      fit = a.fit;
      wide = λ x l. look_wide c f h (signals c) a.wide x (subst (λ n. IsThereAt c n x) (sym (length_signals c)) l);
    }
