-- Nets and arrays that names stand for are there.
use Rattle.std.proofs.Common.{◌≡◌, ℕ, zero, suc, ◌+◌, ◌<◌, ◌≤◌, Bool, true, false, cond, List, [], ◌∷◌, length, map, take, get_or, filter_map, bytes_eq, Option, Some, None, refl, sym, ap, subst, arith}
use Rattle.std.specs.List.{cons_option}
use Rattle.std.proofs.lemmas.List.{length-map, length-take}
use Rattle.pdl_net.specs.declared.Net.{Net}
use Rattle.pdl_net.specs.declared.Net.TheVariants.{Input, Reg as RegNet, Cell as CellNet}
use Rattle.pdl_net.specs.declared.Cell.{Cell}
use Rattle.pdl_net.specs.declared.Cell.TheVariants as made
use Rattle.pdl_net.specs.Circuit.{Circuit, inputs_of, reg_at, array_at}
use Rattle.pdl_net.specs.Meaning.{IsThereAt}
use Rattle.pdl_vread_text.specs.declared.file.File.{File}
use Rattle.pdl_vread_text.specs.declared.file.PortDecl.{PortDecl}
use Rattle.pdl_vread_text.specs.declared.file.CellDecl.{CellDecl}
use Rattle.pdl_vread_text.specs.declared.file.Term.{Term}
use Rattle.pdl_vread_text.specs.declared.file.Term.TheVariants as t
use Rattle.pdl_vread_nets.specs.Wired.{place, shifted, port_place, reg_place, array_place, cell_place, port_nets, net_at, input_of, net_of, cell_or, reg_or, with_one, with_two, with_three, small, cell_of, wired_cell}
use Rattle.pdl_vread_rules.specs.Widths.{bits, input_width, widths_of}

-- a circuit has the inputs, registers and arrays of a file, with their widths
pub record Has (c : Circuit) (f : File) : Type 0 where
  pub inputs : inputs_of c ≡ (widths_of f).inputs
  pub reg_count : length c.regs ≡ length f.regs
  pub reg_widths : (r : ℕ) → r < length f.regs → (reg_at c r).width ≡ get_or (widths_of f).regs r 0
  pub array_count : length c.arrays ≡ length f.arrays
  pub array_widths : (m : ℕ) → m < length f.arrays → (array_at c m).width ≡ get_or (widths_of f).words m 0
  pub array_depths : (m : ℕ) → m < length f.arrays → (array_at c m).depth ≡ get_or (widths_of f).depths m 0

-- ---- places

place_below : (xs : List (List ℕ)) (x : List ℕ) (i : ℕ) → place xs x ≡ Some i → i < length xs
place_below [] x i h = absurd (cc)
place_below (y ∷ ys) x i h = go (bytes_eq x y) (place ys x) (place_below ys x) h
  where
    go : (b : Bool) (o : Option ℕ) → ((j : ℕ) → o ≡ Some j → j < length ys) → cond b (Some 0) (shifted o) ≡ Some i → i < suc (length ys)
    go true o k e = let q : 0 ≡ i = cc in omega arith
    go false None k e = absurd (cc)
    go false (Some j) k e =
        let q : suc j ≡ i = cc in
        let l : j < length ys = k j refl in
        omega arith

-- an array that a name stands for is one of the file's
pub array_there : (f : File) (x : List ℕ) (m : ℕ) → array_place f x ≡ Some m → m < length f.arrays
array_there f x m h =
    let l = place_below (map (λ a. a.name) f.arrays) x m h in
    let n = length-map f.arrays (λ a. a.name) in
    omega arith

-- an input at one of so many places, counted from i
record IsInput (i n : ℕ) (x : Net) : Type 0 where
  slot : ℕ
  same : x ≡ Input slot
  low : i ≤ slot
  high : slot < i + n

port_net_there : (ps : List PortDecl) (i k : ℕ) (x : Net)
    → get_or (port_nets i ps) k None ≡ Some x → IsInput i (length (filter_map input_width ps)) x
port_net_there [] i k x h = absurd (cc)
port_net_there (p ∷ ps) i k x h = go (λ j n e. port_net_there ps j n x e) p.input k h
  where
    go : ((j n : ℕ) → get_or (port_nets j ps) n None ≡ Some x → IsInput j (length (filter_map input_width ps)) x)
        → (b : Bool) (k : ℕ)
        → get_or (cond b (Some (Input i) ∷ port_nets (suc i) ps) (None ∷ port_nets i ps)) k None ≡ Some x
        → IsInput i (length (cons_option (cond b (Some (bits p.high)) None) (filter_map input_width ps))) x
    go more true zero e = record { slot = i; same = cc; low = omega arith; high = omega arith }
    go more true (suc k) e =
        let q = more (suc i) k e in
        let l : suc i ≤ q.slot = q.low in
        let m : q.slot < suc i + length (filter_map input_width ps) = q.high in
        record { slot = q.slot; same = q.same; low = omega arith; high = omega arith }
    go more false zero e = absurd (cc)
    go more false (suc k) e = more i k e

input_there : (f : File) (o : Option ℕ) (x : Net) → net_at (port_nets 0 f.ports) o ≡ Some x → IsInput 0 (length (widths_of f).inputs) x
input_there f None x h = absurd (cc)
input_there f (Some k) x h = port_net_there f.ports 0 k x h

-- a net that a name stands for after k cells is there before the k-th cell
pub net_there : (c : Circuit) (f : File) → Has c f → (k : ℕ) (x : List ℕ) (n : Net) → net_of f k x ≡ Some n → IsThereAt c k n
unfolding net_of
net_there c f g k x n h = go (cell_place f k x) (reg_place f x) refl refl h
  where
    go : (a b : Option ℕ) → cell_place f k x ≡ a → reg_place f x ≡ b → cell_or a (reg_or b (input_of f x)) ≡ Some n → IsThereAt c k n
    go (Some i) b p q e =
        let l = place_below (map (λ d. d.name) (take k f.cells)) x i p in
        let m : i < k = omega (arith, l, length-map (take k f.cells) (λ d. d.name), length-take k f.cells) in
        let s : CellNet i ≡ n = cc in
        subst (IsThereAt c k) s m
    go None (Some r) p q e =
        let l = place_below (map (λ d. d.name) f.regs) x r q in
        let m : r < length c.regs = omega (arith, l, g.reg_count, length-map f.regs (λ d. d.name)) in
        let s : RegNet r ≡ n = cc in
        subst (IsThereAt c k) s m
    go None None p q e =
        let i = input_there f (port_place f x) n e in
        let l : i.slot < 0 + length (widths_of f).inputs = i.high in
        let m : i.slot < length (inputs_of c) = omega (arith, ap length g.inputs) in
        subst (IsThereAt c k) (sym i.same) m

-- ---- cells

one_inv : {A B : Type 0} (make : A → B) (o : Option A) (y : B) → with_one make o ≡ Some y → (a : A) × (o ≡ Some a) × (make a ≡ y)
one_inv make (Some a) y h = (a, refl, cc)
one_inv make None y h = absurd (cc)

-- what is made of two values is there only where both values are
pub two_inv : {A B C : Type 0} (make : A → B → C) (o : Option A) (p : Option B) (y : C)
    → with_two make o p ≡ Some y → (a : A) × (b : B) × (o ≡ Some a) × (p ≡ Some b) × (make a b ≡ y)
two_inv make (Some a) p y h = let r = one_inv (make a) p y h in (a, r.0, refl, r.1, r.2)
two_inv make None p y h = absurd (cc)

-- what is made of three values is there only where all three are
pub three_inv : {A B C D : Type 0} (make : A → B → C → D) (o : Option A) (p : Option B) (q : Option C) (y : D)
    → with_three make o p q ≡ Some y
    → (a : A) × (b : B) × (d : C) × (o ≡ Some a) × (p ≡ Some b) × (q ≡ Some d) × (make a b d ≡ y)
three_inv make (Some a) p q y h = let r = two_inv (make a) p q y h in (a, r.0, r.1, refl, r.2, r.3, r.4)
three_inv make None p q y h = absurd (cc)

-- the nets of a cell, and the array that it reads, are there
abbrev pub NetsThere : Circuit → (Net → Type 0) → Cell → Type 0
NetsThere c There (made.Const w v) = Unit {0}
NetsThere c There (made.Not a) = There a
NetsThere c There (made.Bin op a b) = There a × There b
NetsThere c There (made.Mux x a b) = There x × There a × There b
NetsThere c There (made.Slice a high low) = There a
NetsThere c There (made.Cat a b) = There a × There b
NetsThere c There (made.Rep k a) = There a
NetsThere c There (made.Read m a) = (m < length c.arrays) × There a

term_there : (c : Circuit) (f : File) → Has c f → (k : ℕ) (e : Term) (g : Cell) → cell_of f k e ≡ Some g → NetsThere c (IsThereAt c k) g
term_there c f h k (t.Const w v) g e = let i : made.Const (small w) v ≡ g = cc in subst (NetsThere c (IsThereAt c k)) i tt
term_there c f h k (t.Not a) g e =
    let r = one_inv made.Not (net_of f k a) g e in
    subst (NetsThere c (IsThereAt c k)) r.2 (net_there c f h k a r.0 r.1)
term_there c f h k (t.Bin op a b) g e =
    let r = two_inv (made.Bin op) (net_of f k a) (net_of f k b) g e in
    subst (NetsThere c (IsThereAt c k)) r.4 (net_there c f h k a r.0 r.2, net_there c f h k b r.1 r.3)
term_there c f h k (t.Mux x a b) g e =
    let r = three_inv made.Mux (net_of f k x) (net_of f k a) (net_of f k b) g e in
    subst (NetsThere c (IsThereAt c k)) r.6 (net_there c f h k x r.0 r.3, net_there c f h k a r.1 r.4, net_there c f h k b r.2 r.5)
term_there c f h k (t.Slice a high low) g e =
    let r = one_inv (λ n. made.Slice n (small high) (small low)) (net_of f k a) g e in
    subst (NetsThere c (IsThereAt c k)) r.2 (net_there c f h k a r.0 r.1)
term_there c f h k (t.Cat a b) g e =
    let r = two_inv made.Cat (net_of f k a) (net_of f k b) g e in
    subst (NetsThere c (IsThereAt c k)) r.4 (net_there c f h k a r.0 r.2, net_there c f h k b r.1 r.3)
term_there c f h k (t.Rep n a) g e =
    let r = one_inv (made.Rep (small n)) (net_of f k a) g e in
    subst (NetsThere c (IsThereAt c k)) r.2 (net_there c f h k a r.0 r.1)
term_there c f h k (t.Read m a) g e =
    let r = two_inv made.Read (array_place f m) (net_of f k a) g e in
    let l : r.0 < length c.arrays = omega (arith, array_there f m r.0 r.2, h.array_count) in
    subst (NetsThere c (IsThereAt c k)) r.4 (l, net_there c f h k a r.1 r.3)

-- the nets that the k-th cell reads, where its names stand for something, are there before it
pub cell_there : (c : Circuit) (f : File) → Has c f → (k : ℕ) (d : CellDecl) (g : Cell)
    → wired_cell f k d ≡ Some g → NetsThere c (IsThereAt c k) g
cell_there c f h k d g e = go (bytes_eq d.target d.name) e
  where
    go : (b : Bool) → cond b (cell_of f k d.term) None ≡ Some g → NetsThere c (IsThereAt c k) g
    go true i = term_there c f h k d.term g i
    go false i = absurd (cc)
