-- Each change keeps a circuit well formed, and keeps what its nets mean: registers and arrays.
use Rattle.std.proofs.Common.{◌≡◌, ℕ, zero, suc, ◌+◌, ◌^◌, ◌<◌, ◌≤◌, ◌≢◌, map, List, [], ◌∷◌, ◌++◌, length, get_or, refl, sym, ap, ◌∙◌, subst, arith, length-append, ⊎_elim}
use Rattle.std.specs.Prelude.{slice_get, Some, slice_set as set}
use Rattle.std.proofs.lemmas.List.{get_or_append_left, get_or_push, append-nil, get_or-set_same, get_or-set_other, length-set, get_or_default, map-append}
use Rattle.std.proofs.Math.Seq.{map-set_same}
use Rattle.std.proofs.lemmas.Bool.{cases_lt, cases_eq}
use Rattle.pdl_net.specs.declared.Net.{Net}
use Rattle.pdl_net.specs.declared.Net.TheVariants.{Reg as RegNet}
use Rattle.pdl_net.specs.declared.Reg.{Reg}
use Rattle.pdl_net.specs.declared.Array.{Array}
use Rattle.pdl_net.specs.declared.WritePort.{WritePort}
use Rattle.pdl_net.specs.Circuit.{Circuit, Shape, reg_at, array_at, no_reg, no_array, shape_of, shapes_of, HasReg, reg_width, reg_reset, HasArray, array_width, array_depth}
use Rattle.pdl_net.specs.declared.Cell.TheVariants.{Read}
use Rattle.pdl_net.specs.Signal.{reg_signal, read_signal}
use Rattle.pdl_net.specs.HasWidth.{HasWidth}
use Rattle.pdl_net.specs.Meaning.{signal, cell_signal, IsThere, Means, next_signal, write_signal, write_signals}
use Rattle.pdl_net.specs.Well.{Fits, IsWell, IsWellReg, IsWellArray, IsWellWrite, IsDepth}
use Rattle.pdl_net.specs.Growth.{Grows, KeepsNets, Extends, ExtendsBut, ExtendsArrays}
use Rattle.pdl_net.proofs.Signals.{keeps_nets_grown}
use Rattle.pdl_net.proofs.CircuitGrowth.{port_stays, reg_stays, write_stays, array_stays, writes_stay, KeepsParts, extends_kept, extends_arrays_kept}
use Rattle.pdl_build.specs.Change.{new_reg, with_reg, next_reg, with_next, new_shape, new_array, with_array, written_array, with_write, one_reg, one_array, IsNewReg, IsNewArray}
use Rattle.pdl_build.specs.declared.Extent.{Extent}
use Rattle.pdl_build.specs.Parts.{HaveExtents}
use Rattle.pdl_build.proofs.CellGrowth.{all_fit_still, extents_still, get_pushed}
use Rattle.pdl_word.specs.Words.{widest}

-- a register

reg_grows : (c : Circuit) (w v : ℕ) → Grows c (with_reg c w v)
reg_grows c w v =
    let g = new_reg c w v in
    record {
      inputs = λ i h. (h, refl);
      regs = λ r h. (omega (arith, length-append c.regs (g ∷ [])), ap (λ (q : Reg). q.width) (get_or_append_left c.regs (g ∷ []) no_reg r h));
      arrays = λ m h. (h, refl, refl);
      more = [];
      cells = sym (append-nil c.cells);
    }

reg_keeps : (c : Circuit) (w v : ℕ) → IsWell c → KeepsNets c (with_reg c w v)
reg_keeps c w v h = keeps_nets_grown c (with_reg c w v) (reg_grows c w v) h.cells

reg_parts : (c : Circuit) (w v : ℕ) → KeepsParts c (with_reg c w v)
reg_parts c w v =
    let g = new_reg c w v in
    record { regs = λ r l. (omega (arith, length-append c.regs (g ∷ [])), get_or_append_left c.regs (g ∷ []) no_reg r l); arrays = λ m l. (l, refl) }

-- a well formed circuit is extended by a register more
pub extends_reg : (c : Circuit) (w v : ℕ) → IsWell c → Extends c (with_reg c w v)
unfolding shapes_of
extends_reg c w v h = extends_kept c (with_reg c w v) (reg_keeps c w v h) h (reg_parts c w v) refl refl

-- with a register more, what is known of inputs and cells stays true
pub extents_reg : (c : Circuit) (w v : ℕ) (ins : List ℕ) (ns : List Extent) → IsWell c → HaveExtents c ins ns
    → HaveExtents (with_reg c w v) ins ns
extents_reg c w v ins ns h x = extents_still c (with_reg c w v) ins ns (reg_keeps c w v h) refl refl x

reg_here : (c : Circuit) (w v : ℕ) → reg_at (with_reg c w v) (length c.regs) ≡ new_reg c w v
reg_here c w v = get_or_push c.regs (new_reg c w v) no_reg (length c.regs) refl

means_reg : (c : Circuit) (w v : ℕ) → Means (with_reg c w v) (RegNet (length c.regs)) (reg_signal w (length c.regs))
unfolding IsThere signal
means_reg c w v = record {
  there = omega (arith, length-append c.regs (new_reg c w v ∷ []));
  same = ap (λ (q : Reg). reg_signal q.width (length c.regs)) (reg_here c w v);
}

-- an added register is there, has its width and its reset value, and keeps its value
pub is_new_reg : (c : Circuit) (w v : ℕ) → IsNewReg (with_reg c w v) (length c.regs) w v
unfolding HasReg reg_width reg_reset next_signal
is_new_reg c w v = record {
  has = omega (arith, length-append c.regs (new_reg c w v ∷ []));
  there = (means_reg c w v).there;
  same = (means_reg c w v).same;
  width = ap (λ (q : Reg). q.width) (reg_here c w v);
  reset = ap (λ (q : Reg). q.reset) (reg_here c w v);
  next = ap (λ (q : Reg). signal (with_reg c w v) q.next) (reg_here c w v) ∙ (means_reg c w v).same;
}

-- a register more of 1 to widest bits, whose reset value fits them, leaves a circuit well formed
pub well_reg : (c : Circuit) (w v : ℕ) → IsWell c → 1 ≤ w → w ≤ widest → v < 2 ^ w → IsWell (with_reg c w v)
well_reg c w v h low high fits =
    let d = with_reg c w v in
    let g = new_reg c w v in
    let k = reg_keeps c w v h in
    let m = means_reg c w v in
    let W : Reg → Type 0 = λ q. IsWellReg d q in
    let last : IsWellReg d g = record { low = low; high = high; reset = fits; next = m.there; width = ap (λ f. f.width) m.same } in
    record {
      ports = λ i p e. port_stays c d k p (h.ports i p e);
      cells = all_fit_still c d (reg_grows c w v) h refl;
      regs = λ r l. ⊎_elim
          (λ (lt : r < length c.regs). subst W (sym (get_or_append_left c.regs (g ∷ []) no_reg r lt)) (reg_stays c d k (reg_at c r) (h.regs r lt)))
          (λ (ge : length c.regs ≤ r). let n : length c.regs ≡ r = omega (arith, length-append c.regs (g ∷ [])) in
          subst W (sym (get_or_push c.regs g no_reg r n)) last)
          (cases_lt r (length c.regs));
      arrays = λ i l. array_stays c d k (array_at c i) (h.arrays i l);
    }

-- a register's next value

next_there : (c : Circuit) (r q : ℕ) (x : Net) → q ≢ r → reg_at (with_next c r x) q ≡ reg_at c q
next_there c r q x n = get_or-set_other c.regs r q (next_reg c r x) no_reg n

next_here : (c : Circuit) (r : ℕ) (x : Net) → r < length c.regs → reg_at (with_next c r x) r ≡ next_reg c r x
next_here c r x h = get_or-set_same c.regs r (next_reg c r x) no_reg h

-- all but the next value stays
next_width : (c : Circuit) (r q : ℕ) (x : Net)
    → r < length c.regs
    → ((reg_at (with_next c r x) q).width ≡ (reg_at c q).width) × ((reg_at (with_next c r x) q).reset ≡ (reg_at c q).reset)
next_width c r q x h = ⊎_elim
    (λ (e : q ≡ r). rw e (ap (λ (g : Reg). g.width) (next_here c r x h), ap (λ (g : Reg). g.reset) (next_here c r x h)))
    (λ (n : q ≢ r). (ap (λ (g : Reg). g.width) (next_there c r q x n), ap (λ (g : Reg). g.reset) (next_there c r q x n)))
    (cases_eq q r)

next_grows : (c : Circuit) (r : ℕ) (x : Net) → r < length c.regs → Grows c (with_next c r x)
next_grows c r x h = record {
  inputs = λ i l. (l, refl);
  regs = λ q l. (omega (arith, length-set c.regs r (next_reg c r x)), (next_width c r q x h).0);
  arrays = λ m l. (l, refl, refl);
  more = [];
  cells = sym (append-nil c.cells);
}

next_keeps : (c : Circuit) (r : ℕ) (x : Net) → r < length c.regs → IsWell c → KeepsNets c (with_next c r x)
next_keeps c r x h w = keeps_nets_grown c (with_next c r x) (next_grows c r x h) w.cells

-- a register is told what it takes next, and nothing else of a well formed circuit changes
pub extends_next : (c : Circuit) (r : ℕ) (x : Net) → HasReg c r → IsWell c → ExtendsBut (one_reg r) c (with_next c r x)
unfolding HasReg HasArray reg_width reg_reset array_width array_depth next_signal write_signals shapes_of
extends_next c r x h w =
    let d = with_next c r x in
    let k = next_keeps c r x h w in
    record {
      there = λ y l. (k.nets y l).there;
      kept = λ y l. (k.nets y l).same;
      has_reg = λ q l. omega (arith, length-set c.regs r (next_reg c r x));
      width = λ q l. (next_width c r q x h).0;
      reset = λ q l. (next_width c r q x h).1;
      has_array = λ m l. l;
      word = λ m l. refl;
      depth = λ m l. refl;
      nexts = λ q l u.
          let n : q ≢ r = λ e. ⊎_elim (λ (a : q < r). absurd (omega arith)) (λ (b : r + 1 ≤ q). absurd (omega arith)) u in
          ap (λ (g : Reg). signal d g.next) (next_there c r q x n) ∙ (k.nets (reg_at c q).next ((w.regs q l).next)).same;
      writes = λ m l u. writes_stay c d k (array_at c m) (array_at c m).writes ((w.arrays m l).writes);
      ports = refl;
      shapes = refl;
    }

-- where a register is told what it takes next, what is known of inputs and cells stays true
pub extents_next : (c : Circuit) (r : ℕ) (x : Net) (ins : List ℕ) (ns : List Extent) → HasReg c r → IsWell c
    → HaveExtents c ins ns → HaveExtents (with_next c r x) ins ns
unfolding HasReg
extents_next c r x ins ns h w i = extents_still c (with_next c r x) ins ns (next_keeps c r x h w) refl refl i

-- what a register takes next is the signal of the net that it is told
pub next_set : (c : Circuit) (r : ℕ) (x : Net) → HasReg c r → IsThere c x → IsWell c → next_signal (with_next c r x) r ≡ signal c x
unfolding HasReg next_signal
next_set c r x h t w = ap (λ (g : Reg). signal (with_next c r x) g.next) (next_here c r x h) ∙ ((next_keeps c r x h w).nets x t).same

-- a net that is there, told to a register as wide as what it takes next, leaves a circuit well formed
pub well_next : (c : Circuit) (r : ℕ) (x : Net) → HasReg c r → HasWidth c x (reg_width c r)
    → IsWell c → IsWell (with_next c r x)
unfolding HasReg reg_width
well_next c r x h v w =
    let d = with_next c r x in
    let k = next_keeps c r x h w in
    let W : Reg → Type 0 = λ q. IsWellReg d q in
    let old = w.regs r h in
    let n = k.nets x v.there in
    let here : IsWellReg d (next_reg c r x) =
    record { low = old.low; high = old.high; reset = old.reset; next = n.there; width = ap (λ f. f.width) n.same ∙ v.width } in
    record {
      ports = λ i p y. port_stays c d k p (w.ports i p y);
      cells = all_fit_still c d (next_grows c r x h) w refl;
      regs = λ q l.
          let m : q < length c.regs = omega (arith, length-set c.regs r (next_reg c r x)) in
          ⊎_elim
          (λ (i : q ≡ r). subst W (sym (ap (λ j. reg_at d j) i ∙ next_here c r x h)) here)
          (λ (n : q ≢ r). subst W (sym (next_there c r q x n)) (reg_stays c d k (reg_at c q) (w.regs q m)))
          (cases_eq q r);
      arrays = λ i l. array_stays c d k (array_at c i) (w.arrays i l);
    }

-- what the program writes is `with_next`
pub next_same : (c : Circuit) (r : ℕ) (x : Net) (g : Reg) → HasReg c r
    → g ≡ get_or c.regs r g → record c { regs = set c.regs r (record g { next = x }) } ≡ with_next c r x
unfolding HasReg
next_same c r x g h e = ap (λ (q : Reg). record c { regs = set c.regs r (record q { next = x }) }) (e ∙ get_or_default c.regs r g no_reg h)

-- an array

array_grows : (c : Circuit) (n : List ℕ) (w d : ℕ) → Grows c (with_array c n w d)
array_grows c n w d =
    let a = new_array n w d in
    record {
      inputs = λ i h. (h, refl);
      regs = λ r h. (h, refl);
      arrays = λ m h. let e = get_or_append_left c.arrays (a ∷ []) no_array m h in
          (omega (arith, length-append c.arrays (a ∷ [])), ap (λ (x : Array). x.width) e, ap (λ (x : Array). x.depth) e);
      more = [];
      cells = sym (append-nil c.cells);
    }

array_keeps : (c : Circuit) (n : List ℕ) (w d : ℕ) → IsWell c → KeepsNets c (with_array c n w d)
array_keeps c n w d h = keeps_nets_grown c (with_array c n w d) (array_grows c n w d) h.cells

array_parts : (c : Circuit) (n : List ℕ) (w d : ℕ) → KeepsParts c (with_array c n w d)
array_parts c n w d =
    let a = new_array n w d in
    record { regs = λ r l. (l, refl); arrays = λ m l. (omega (arith, length-append c.arrays (a ∷ [])), get_or_append_left c.arrays (a ∷ []) no_array m l) }

-- a well formed circuit is extended by an array more
pub extends_array : (c : Circuit) (n : List ℕ) (w d : ℕ) → IsWell c → ExtendsArrays c (with_array c n w d) (new_shape n w d ∷ [])
unfolding shapes_of
extends_array c n w d h =
    extends_arrays_kept c (with_array c n w d) (new_shape n w d ∷ [])
    (array_keeps c n w d h) h (array_parts c n w d) refl (map-append shape_of c.arrays (new_array n w d ∷ []))

-- with an array more, what is known of inputs and cells stays true
pub extents_array : (c : Circuit) (n : List ℕ) (w d : ℕ) (ins : List ℕ) (ns : List Extent) → IsWell c
    → HaveExtents c ins ns → HaveExtents (with_array c n w d) ins ns
extents_array c n w d ins ns h x = extents_still c (with_array c n w d) ins ns (array_keeps c n w d h) refl refl x

array_here : (c : Circuit) (n : List ℕ) (w d : ℕ) → array_at (with_array c n w d) (length c.arrays) ≡ new_array n w d
array_here c n w d = get_or_push c.arrays (new_array n w d) no_array (length c.arrays) refl

-- an added array is there, has its width and its depth, and nothing writes it
pub is_new_array : (c : Circuit) (n : List ℕ) (w d : ℕ) → IsNewArray (with_array c n w d) (length c.arrays) w d
unfolding HasArray array_width array_depth write_signals
is_new_array c n w d = record {
  has = omega (arith, length-append c.arrays (new_array n w d ∷ []));
  width = ap (λ (x : Array). x.width) (array_here c n w d);
  depth = ap (λ (x : Array). x.depth) (array_here c n w d);
  writes = ap (λ (x : Array). map (write_signal (with_array c n w d)) x.writes) (array_here c n w d);
}

-- an array more of 1 to widest bits, with the depth of an array, leaves a circuit well formed
pub well_array : (c : Circuit) (n : List ℕ) (w d : ℕ) → IsWell c → 1 ≤ w → w ≤ widest → IsDepth d → IsWell (with_array c n w d)
well_array c n w d h low high is =
    let b = with_array c n w d in
    let a = new_array n w d in
    let k = array_keeps c n w d h in
    let W : Array → Type 0 = λ q. IsWellArray b q in
    let last : IsWellArray b a = record { low = low; high = high; depth = is; writes = λ i p e. absurd (cc) } in
    record {
      ports = λ i p e. port_stays c b k p (h.ports i p e);
      cells = all_fit_still c b (array_grows c n w d) h refl;
      regs = λ r l. reg_stays c b k (reg_at c r) (h.regs r l);
      arrays = λ m l. ⊎_elim
          (λ (lt : m < length c.arrays). subst W (sym (get_or_append_left c.arrays (a ∷ []) no_array m lt)) (array_stays c b k (array_at c m) (h.arrays m lt)))
          (λ (ge : length c.arrays ≤ m). let e : length c.arrays ≡ m = omega (arith, length-append c.arrays (a ∷ [])) in
          subst W (sym (get_or_push c.arrays a no_array m e)) last)
          (cases_lt m (length c.arrays));
    }

-- a write port

write_there : (c : Circuit) (m q : ℕ) (p : WritePort) → q ≢ m → array_at (with_write c m p) q ≡ array_at c q
write_there c m q p n = get_or-set_other c.arrays m q (written_array c m p) no_array n

write_here : (c : Circuit) (m : ℕ) (p : WritePort) → m < length c.arrays → array_at (with_write c m p) m ≡ written_array c m p
write_here c m p h = get_or-set_same c.arrays m (written_array c m p) no_array h

write_width : (c : Circuit) (m q : ℕ) (p : WritePort)
    → m < length c.arrays → shape_of (array_at (with_write c m p) q) ≡ shape_of (array_at c q)
write_width c m q p h = ⊎_elim
    (λ (e : q ≡ m). rw e (ap shape_of (write_here c m p h)))
    (λ (n : q ≢ m). ap shape_of (write_there c m q p n))
    (cases_eq q m)

write_grows : (c : Circuit) (m : ℕ) (p : WritePort) → m < length c.arrays → Grows c (with_write c m p)
write_grows c m p h = record {
  inputs = λ i l. (l, refl);
  regs = λ r l. (l, refl);
  arrays = λ q l. let e = write_width c m q p h in
      (omega (arith, length-set c.arrays m (written_array c m p)), ap (λ (s : Shape). s.width) e, ap (λ (s : Shape). s.depth) e);
  more = [];
  cells = sym (append-nil c.cells);
}

write_keeps : (c : Circuit) (m : ℕ) (p : WritePort) → m < length c.arrays → IsWell c → KeepsNets c (with_write c m p)
write_keeps c m p h w = keeps_nets_grown c (with_write c m p) (write_grows c m p h) w.cells

write_shapes : (c : Circuit) (m : ℕ) (p : WritePort) → m < length c.arrays → map shape_of (with_write c m p).arrays ≡ map shape_of c.arrays
write_shapes c m p h =
    map-set_same shape_of c.arrays m (written_array c m p) (array_at c m) (ap shape_of (sym (get_or_default c.arrays m (array_at c m) no_array h)))

-- an array has a write port more, and nothing else of a well formed circuit changes
pub extends_write : (c : Circuit) (m : ℕ) (p : WritePort) → HasArray c m → IsWell c → ExtendsBut (one_array m) c (with_write c m p)
unfolding HasReg HasArray reg_width reg_reset array_width array_depth next_signal write_signals shapes_of
extends_write c m p h w =
    let d = with_write c m p in
    let k = write_keeps c m p h w in
    record {
      there = λ y l. (k.nets y l).there;
      kept = λ y l. (k.nets y l).same;
      has_reg = λ r l. l;
      width = λ r l. refl;
      reset = λ r l. refl;
      has_array = λ q l. omega (arith, length-set c.arrays m (written_array c m p));
      word = λ q l. ap (λ (s : Shape). s.width) (write_width c m q p h);
      depth = λ q l. ap (λ (s : Shape). s.depth) (write_width c m q p h);
      nexts = λ r l u. (k.nets (reg_at c r).next ((w.regs r l).next)).same;
      writes = λ q l u.
          let n : q ≢ m = λ e. ⊎_elim (λ (a : q < m). absurd (omega arith)) (λ (b : m + 1 ≤ q). absurd (omega arith)) u in
          ap (λ (g : Array). map (write_signal d) g.writes) (write_there c m q p n)
          ∙ writes_stay c d k (array_at c q) (array_at c q).writes ((w.arrays q l).writes);
      ports = refl;
      shapes = write_shapes c m p h;
    }

-- with a write port more, what is known of inputs and cells stays true
pub extents_write : (c : Circuit) (m : ℕ) (p : WritePort) (ins : List ℕ) (ns : List Extent) → HasArray c m → IsWell c
    → HaveExtents c ins ns → HaveExtents (with_write c m p) ins ns
unfolding HasArray
extents_write c m p ins ns h w x = extents_still c (with_write c m p) ins ns (write_keeps c m p h w) refl refl x

only_write : (c : Circuit) (a : Array) (p : WritePort) → IsWellWrite c a p → (i : ℕ) (q : WritePort)
    → slice_get (p ∷ []) i ≡ Some q → IsWellWrite c a q
only_write c a p f zero q e = let s : p ≡ q = cc in subst (λ x. IsWellWrite c a x) s f
only_write c a p f (suc i) q e = absurd (cc)

-- the writes of an array with a write port more are those before and the port's
pub writes_more : (c : Circuit) (m : ℕ) (p : WritePort) → HasArray c m → IsWellWrite c (array_at c m) p → IsWell c
    → write_signals (with_write c m p) m ≡ write_signals c m ++ write_signal c p ∷ []
unfolding HasArray write_signals
writes_more c m p h f w =
    let d = with_write c m p in
    let k = write_keeps c m p h w in
    ap (λ (g : Array). map (write_signal d) g.writes) (write_here c m p h)
    ∙ map-append (write_signal d) (array_at c m).writes (p ∷ [])
    ∙ ap (λ l. l ++ write_signal d p ∷ []) (writes_stay c d k (array_at c m) (array_at c m).writes ((w.arrays m h).writes))
    ∙ ap (λ l. map (write_signal c) (array_at c m).writes ++ l) (writes_stay c d k (array_at c m) (p ∷ []) (only_write c (array_at c m) p f))

-- what is well of an array does not depend on the writes that it has
write_moved : (d c : Circuit) (m : ℕ) (p q : WritePort) → IsWellWrite d (array_at c m) q → IsWellWrite d (written_array c m p) q
write_moved d c m p q f = record { enable = f.enable; addr = f.addr; value = f.value; one = f.one; reach = f.reach; width = f.width }

-- a write port more that fits its array leaves a circuit well formed
pub well_write : (c : Circuit) (m : ℕ) (p : WritePort) → HasArray c m → IsWellWrite c (array_at c m) p → IsWell c
    → IsWell (with_write c m p)
unfolding HasArray
well_write c m p h f w =
    let d = with_write c m p in
    let k = write_keeps c m p h w in
    let old = w.arrays m h in
    let W : Array → Type 0 = λ q. IsWellArray d q in
    let here : IsWellArray d (written_array c m p) = record {
      low = old.low;
      high = old.high;
      depth = old.depth;
      writes = λ i q e. write_moved d c m p q (write_stays c d k (array_at c m) q (⊎_elim
          (λ (o : slice_get (array_at c m).writes i ≡ Some q). old.writes i q o)
          (λ (s : p ≡ q). subst (λ x. IsWellWrite c (array_at c m) x) s f)
          (get_pushed (array_at c m).writes p q i e)));
    } in
    record {
      ports = λ i q e. port_stays c d k q (w.ports i q e);
      cells = all_fit_still c d (write_grows c m p h) w refl;
      regs = λ r l. reg_stays c d k (reg_at c r) (w.regs r l);
      arrays = λ q l.
          let n : q < length c.arrays = omega (arith, length-set c.arrays m (written_array c m p)) in
          ⊎_elim
          (λ (i : q ≡ m). subst W (sym (ap (λ j. array_at d j) i ∙ write_here c m p h)) here)
          (λ (x : q ≢ m). subst W (sym (write_there c m q p x)) (array_stays c d k (array_at c q) (w.arrays q n)))
          (cases_eq q m);
    }

-- what the program pushes is `with_write`
pub write_same : (c : Circuit) (m : ℕ) (p : WritePort) (a : Array) → HasArray c m
    → a ≡ get_or c.arrays m a
    → record c { arrays = set c.arrays m (record a { writes = a.writes ++ p ∷ [] }) } ≡ with_write c m p
unfolding HasArray
write_same c m p a h e =
    ap (λ (q : Array). record c { arrays = set c.arrays m (record q { writes = q.writes ++ p ∷ [] }) }) (e ∙ get_or_default c.arrays m a no_array h)

-- the number of a register that is there is below their count
pub has_reg_below : (c : Circuit) (r : ℕ) → HasReg c r → r < length c.regs
unfolding HasReg
has_reg_below c r h = h

-- the number of an array that is there is below their count
pub has_array_below : (c : Circuit) (m : ℕ) → HasArray c m → m < length c.arrays
unfolding HasArray
has_array_below c m h = h

-- a write port fits its array where its nets are there, with their right widths
pub well_port_write : (c : Circuit) (m : ℕ) (p : WritePort) → HasWidth c p.enable 1 → IsThere c p.addr
    → 2 ^ (signal c p.addr).width ≡ array_depth c m → HasWidth c p.value (array_width c m)
    → IsWellWrite c (array_at c m) p
unfolding array_depth array_width
well_port_write c m p e a r v = record { enable = e.there; addr = a; value = v.there; one = e.width; reach = r; width = v.width }

-- a read

-- a read of an array fits where its address is there and reaches each word and no more
pub fits_read : (c : Circuit) (m : ℕ) (a : Net) → HasArray c m → IsThere c a → 2 ^ (signal c a).width ≡ array_depth c m → Fits c (Read m a)
unfolding HasArray array_depth
fits_read c m a h t r = (h, t, r)

-- what a read of an array at an address means is the signal of its cell
pub read_is : (c : Circuit) (m : ℕ) (a : Net) → read_signal (array_width c m) m (signal c a) ≡ cell_signal c (signal c) (Read m a)
unfolding array_width
read_is c m a = refl
