-- Every value is below the power of two of its width.
use Rattle.std.proofs.Common.{List, [], ◌∷◌, get_or, filter_map, Some, refl, ◌≡◌, ℕ, zero, suc, ◌*◌, ◌^◌, ◌<◌, ◌≤◌, length, sym, subst, arith, ⊎_elim, lit≤}
use Rattle.std.proofs.lemmas.Bool.{cases_lt}
use Rattle.std.specs.Prelude.{slice_get}
use Rattle.pdl_word.proofs.Bounds.{add_below, sub_below, mul_below, complement_below, and_below, or_below, xor_below, equal_below, differ_below, less_below, shl_below, shr_below, slice_below, cat_below, mux_below, rep_below}
use Rattle.pdl_net.specs.declared.Net.{Net}
use Rattle.pdl_net.specs.declared.Net.TheVariants.{Input, Reg as RegNet, Cell as CellNet}
use Rattle.std.specs.List.{cons_option}
use Rattle.pdl_net.specs.declared.Dir.{Dir}
use Rattle.pdl_net.specs.declared.Dir.TheVariants.{In, Out}
use Rattle.pdl_net.specs.declared.Port.{Port}
use Rattle.pdl_net.specs.declared.BinOp.{BinOp}
use Rattle.pdl_net.specs.declared.BinOp.TheVariants.{Add, Sub, Mul, And, Or, Xor, Eq, Ne, Lt, Shl, Shr}
use Rattle.pdl_net.specs.declared.Cell.{Cell}
use Rattle.pdl_net.specs.declared.Cell.TheVariants.{Const, Not, Bin, Mux, Slice, Cat, Rep, Read}
use Rattle.pdl_net.specs.Circuit.{Circuit, State, inputs_of, input_with, port_input}
use Rattle.pdl_net.specs.Signal.{Signal, input_value, reg_value, const_value, not_value, bin_value, mux_value, slice_value, cat_value, rep_value, read_value, bin_signal}
use Rattle.pdl_net.specs.Meaning.{cell_signal, signal, IsThereAt, IsThere}
use Rattle.pdl_net.specs.Well.{IsWidth, FitsIn, IsWellPort, IsWell, Suits, IsBounded}
use Rattle.pdl_net.proofs.CellSignals.{signal_cell, fits_cell, cell_at}

-- k copies of u bits are at least 1 bit, where k and u are at least 1
pub rep_wide : (k u : ℕ) → 1 ≤ k → 1 ≤ u → 1 ≤ k * u
rep_wide zero u h p = absurd (omega arith)
rep_wide (suc k) u h p = omega (arith, p)

-- a value that fits a width fits the same width by another name
narrowed : (v w x : ℕ) → x < 2 ^ v → w ≡ v → x < 2 ^ w
narrowed v w x h e = let P : ℕ → Type 0 = λ n. x < 2 ^ n in subst P (sym e) h

bin_bounded : (s : State) (op : BinOp) (a b : Signal) → IsBounded s a → IsBounded s b → a.width ≡ b.width → IsBounded s (bin_signal op a b)
unfolding bin_value
bin_bounded s Add a b p q e = record { low = p.low; high = p.high; fits = add_below a.width (a.value s) (b.value s) }
bin_bounded s Sub a b p q e = record { low = p.low; high = p.high; fits = sub_below a.width (a.value s) (b.value s) }
bin_bounded s Mul a b p q e = record { low = p.low; high = p.high; fits = mul_below a.width (a.value s) (b.value s) }
bin_bounded s And a b p q e = record { low = p.low; high = p.high; fits = and_below a.width (a.value s) (b.value s) p.fits }
bin_bounded s Or a b p q e =
    record { low = p.low; high = p.high; fits = or_below a.width (a.value s) (b.value s) p.fits (narrowed b.width a.width (b.value s) q.fits e) }
bin_bounded s Xor a b p q e =
    record { low = p.low; high = p.high; fits = xor_below a.width (a.value s) (b.value s) p.fits (narrowed b.width a.width (b.value s) q.fits e) }
bin_bounded s Eq a b p q e = record { low = lit≤ tt; high = lit≤ tt; fits = equal_below (a.value s) (b.value s) }
bin_bounded s Ne a b p q e = record { low = lit≤ tt; high = lit≤ tt; fits = differ_below (a.value s) (b.value s) }
bin_bounded s Lt a b p q e = record { low = lit≤ tt; high = lit≤ tt; fits = less_below (a.value s) (b.value s) }
bin_bounded s Shl a b p q e = record { low = p.low; high = p.high; fits = shl_below a.width (a.value s) (b.value s) }
bin_bounded s Shr a b p q e = record { low = p.low; high = p.high; fits = shr_below a.width (a.value s) (b.value s) p.fits }

-- a cell over bounded nets is bounded
pub cell_bounded : (c : Circuit) (s : State) (There : Net → Type 0) (at : Net → Signal) → IsWell c → Suits c s
    → ((x : Net) → There x → IsBounded s (at x)) → (g : Cell) → FitsIn c There at g → IsBounded s (cell_signal c at g)
unfolding const_value not_value mux_value slice_value cat_value rep_value read_value
cell_bounded c s There at w t h (Const n v) f = record { low = f.0; high = f.1; fits = f.2 }
cell_bounded c s There at w t h (Not a) f = let p = h a f in record { low = p.low; high = p.high; fits = complement_below (at a).width ((at a).value s) }
cell_bounded c s There at w t h (Bin op a b) f = bin_bounded s op (at a) (at b) (h a f.0) (h b f.1) f.2
cell_bounded c s There at w t h (Mux x a b) f =
    let p = h a f.1 in let q = h b f.2 in
    record {
      low = p.low;
      high = p.high;
      fits =
          mux_below (at a).width ((at x).value s) ((at a).value s) ((at b).value s) p.fits (narrowed (at b).width (at a).width ((at b).value s) q.fits f.4);
    }
cell_bounded c s There at w t h (Slice a high low) f =
    let p = h a f.0 in
    record { low = omega (arith, f.1); high = omega (arith, f.1, f.2, p.high); fits = slice_below high low ((at a).value s) }
cell_bounded c s There at w t h (Cat a b) f =
    let p = h a f.0 in let q = h b f.1 in
    record { low = omega (arith, p.low); high = f.2; fits = cat_below (at a).width (at b).width ((at a).value s) ((at b).value s) p.fits q.fits }
cell_bounded c s There at w t h (Rep k a) f =
    let p = h a f.0 in
    record { low = rep_wide k (at a).width f.1 p.low; high = f.2; fits = rep_below (at a).width k ((at a).value s) p.fits }
cell_bounded c s There at w t h (Read m a) f =
    let k = w.arrays m f.0 in
    record { low = k.low; high = k.high; fits = t.words m f.0 ((at a).value s) }

-- each input has a width
input_step : (d : Dir) (w : ℕ) (ws : List ℕ) → IsWidth w
    → ((i : ℕ) → i < length ws → IsWidth (get_or ws i 0)) → (i : ℕ) → i < length (cons_option (input_with d w) ws)
    → IsWidth (get_or (cons_option (input_with d w) ws) i 0)
input_step In w ws h f zero l = h
input_step In w ws h f (suc i) l = f i (omega arith)
input_step (Out x) w ws h f i l = f i l

inputs_well : (c : Circuit) (ps : List Port)
    → ((k : ℕ) (p : Port) → slice_get ps k ≡ Some p → IsWellPort c p) → (i : ℕ) → i < length (filter_map port_input ps)
    → IsWidth (get_or (filter_map port_input ps) i 0)
inputs_well c [] w i h = absurd (omega arith)
inputs_well c (p ∷ ps) w i h =
    let g = w zero p refl in
    input_step p.dir p.width (filter_map port_input ps) (record { low = g.low; high = g.high }) (inputs_well c ps (λ k q e. w (suc k) q e)) i h

-- each input of a well formed circuit has 1 to widest bits
pub input_well : (c : Circuit) → IsWell c → (i : ℕ) → i < length (inputs_of c) → IsWidth (get_or (inputs_of c) i 0)
input_well c w i h = inputs_well c c.ports w.ports i h

-- each net among the first n cells is bounded
pub bounded_at : (c : Circuit) (s : State) → IsWell c → Suits c s → (n : ℕ)
    → n ≤ length c.cells → (x : Net) → IsThereAt c n x → IsBounded s (signal c x)
unfolding signal input_value reg_value
bounded_at c s w t n l (Input i) h = let b = input_well c w i h in record { low = b.low; high = b.high; fits = t.inputs i h }
bounded_at c s w t n l (RegNet r) h = let b = w.regs r h in record { low = b.low; high = b.high; fits = t.regs r h }
bounded_at c s w t zero l (CellNet k) h = absurd (omega arith)
bounded_at c s w t (suc n) l (CellNet k) h =
    ⊎_elim
    (λ (lt : k < n). bounded_at c s w t n (omega arith) (CellNet k) lt)
    (λ (ge : n ≤ k).
    let i : k < length c.cells = omega arith in
    let e : k ≡ n = omega arith in
    let P : Signal → Type 0 = λ f. IsBounded s f in
    let Q : ℕ → Type 0 = λ j. FitsIn c (IsThereAt c j) (signal c) (cell_at c k) in
    subst P (sym (signal_cell c w.cells k i))
    (cell_bounded c s (IsThereAt c n) (signal c) w t (bounded_at c s w t n (omega arith)) (cell_at c k) (subst Q e (fits_cell c w.cells k i))))
    (cases_lt k n)

-- each net of a well formed circuit has 1 to widest bits and a value that fits them, in each state that suits it
pub bounded : (c : Circuit) (s : State) → IsWell c → Suits c s → (x : Net) → IsThere c x → IsBounded s (signal c x)
unfolding IsThere
bounded c s w t x h = bounded_at c s w t (length c.cells) (omega arith) x h
