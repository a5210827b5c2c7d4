-- The start of a simulator: registers have their reset values, and the list of values has constants.
use Rattle.std.proofs.Common.{◌≡◌, ◌⊎◌, inl, inr, refl, sym, ap, ◌∙◌, subst, ℕ, zero, suc, ◌+◌, ◌^◌, ◌<◌, ◌≤◌, Option, Some, None, codes, List, [], ◌∷◌, ◌++◌, length, get_or, take, drop, map, replicate, arith, ◌-◌, length-append}
use Rattle.std.specs.Prelude.{slice_index}
use Rattle.std.proofs.lemmas.List.{get_or-append_right, get_or-map, get_or_default, length-map, length-replicate}
use Rattle.std.proofs.lemmas.List.Elements.{All-append}
use Rattle.std.proofs.lemmas.Nat.{pow_pos}
use Rattle.std.proofs.Math.Nat.{pow-le-pow_right}
use Rattle.pdl_word.proofs.Lists.{zeros_at}
use Rattle.pdl_net.specs.declared.Cell.{Cell}
use Rattle.pdl_net.specs.declared.Cell.TheVariants as cell
use Rattle.pdl_net.specs.declared.Netlist.{Netlist}
use Rattle.pdl_net.specs.Circuit.{Circuit, circuit_of, inputs_of, reg_at, array_at}
use Rattle.pdl_net.specs.Signal.{Signal}
use Rattle.pdl_net.specs.Meaning.{signal, cell_signal, IsThereAt}
use Rattle.pdl_net.specs.Well.{FitsIn, IsWell}
use Rattle.pdl_net.specs.Holds.{Holds}
use Rattle.pdl_net.proofs.CellSignals.{signal_cell}
use Rattle.pdl_netrun.proofs.Orders.{fits_whole}
use Rattle.pdl_net.specs.Run.{Store, delayed_mems, loaded_arrays, place_of, value_at}
use Rattle.pdl_netrun.specs.Order.{first_place, cell_at, cell_of, unplaced, HasTurn, IsOrder, IsOrderOf, AllEarly, AllPlaced}
use Rattle.pdl_netrun.specs.Plan.{held_at_start, IsHeld, HasConstants}
use Rattle.pdl_netrun.specs.declared.order.CellOrder.{CellOrder}
use Rattle.pdl_netrun.specs.Sim.{run_at, run_at_start}
use Rattle.pdl_netrun.specs.Outside.{AddressesSeen, first_stores}
use Rattle.pdl_netrun.specs.Held.{AreSmall, AreWithin, ListsFit, first_lists, first_values}

-- what a place holds at the start is what a constant holds
held_first : (g : Cell) → IsHeld g (held_at_start g)
held_first (cell.Const w v) = refl
held_first (cell.Not a) = tt
held_first (cell.Bin o a b) = tt
held_first (cell.Mux x a b) = tt
held_first (cell.Slice a high low) = tt
held_first (cell.Cat a b) = tt
held_first (cell.Rep k a) = tt
held_first (cell.Read m a) = tt

front_length : (c : Circuit) → length (replicate {A = ℕ} (first_place c) 0) ≡ first_place c
front_length c = simp length-replicate

-- the first list of values has one for each input, each register and each cell of the order
pub values_count : (c : Circuit) (order vs : List ℕ) → vs ≡ first_values c order → length vs ≡ first_place c + length order
values_count c order vs e =
    let a = length-append (replicate (first_place c) 0) (map (λ k. held_at_start (cell_at c k)) order) in
    let b : length (map (λ k. held_at_start (cell_at c k)) order) ≡ length order = simp length-map in
    let d = ap length e in
    let f = front_length c in
    omega (arith, a, b, d, f)

-- the first list of values has those of the constants that have a place
pub constants_first : (c : Circuit) (order ps vs : List ℕ) (n : ℕ) → IsOrder c order ps
    → n < unplaced → vs ≡ first_values c order → HasConstants c ps n vs
constants_first c order ps vs n o l e = record { each = λ k h b. held k h b (o.known k h) }
  where
    held : (k : ℕ) → k < length c.cells → slice_index ps k < n → (slice_index ps k ≡ unplaced) ⊎ HasTurn c order ps k
        → IsHeld (cell_at c k) (slice_index vs (slice_index ps k))
    held k h b (inl u) = absurd (omega (arith, u, b, l))
    held k h b (inr t) =
        let front : List ℕ = replicate (first_place c) 0 in
        let f = first_place c in
        let j : f + t.turn - f ≡ t.turn = omega arith in
        let v : slice_index vs (slice_index ps k) ≡ held_at_start (cell_at c k) =
        ap (slice_index vs) t.own
        ∙ ap (λ xs. slice_index xs (f + t.turn)) e
        ∙ get_or-append_right front (map (λ i. held_at_start (cell_at c i)) order) f (f + t.turn) 0 (front_length c) (omega arith)
        ∙ ap (λ i. slice_index (map (λ i. held_at_start (cell_at c i)) order) i) j
        ∙ get_or-map (λ i. held_at_start (cell_at c i)) order t.turn 0 0 t.within
        ∙ ap (λ i. held_at_start (cell_at c i)) t.same in
        subst (λ x. IsHeld (cell_at c k) x) (sym v) (held_first (cell_at c k))

-- the simulator begins at the start of the first cycle
pub begun_is : (n : Netlist) (image : List (List ℕ)) (k : ℕ) (regs : List ℕ) (arrays : List (List ℕ)) (stores : List Store)
    → k ≡ length (delayed_mems n) → regs ≡ map (λ r. r.reset) n.regs → arrays ≡ loaded_arrays n.arrays (drop k image)
    → stores ≡ first_stores (take k image) → run_at n regs arrays stores ≡ run_at_start n image
begun_is n image k regs arrays stores d e f g =
    ap (λ x. run_at n x arrays stores) e
    ∙ ap (λ x. run_at n (map (λ r. r.reset) n.regs) x stores) (f ∙ ap (λ (j : ℕ). loaded_arrays n.arrays (drop j image)) d)
    ∙ ap (run_at n (map (λ r. r.reset) n.regs) (loaded_arrays n.arrays (drop (length (delayed_mems n)) image)))
    (g ∙ ap (λ (j : ℕ). first_stores (take j image)) d)

-- ADDRESSES

zero_shown : (n : ℕ) (place : Option ℕ) → value_at (replicate n 0) place < 2 ^ 16
zero_shown n None = omega arith
zero_shown n (Some i) = let e = zeros_at n i in omega (arith, e)

-- zeros are addresses of at most 16 bits
pub nothing_seen : (c : Circuit) (n : ℕ) → AddressesSeen c (replicate n 0)
nothing_seen c n mem = (zero_shown n (place_of c (codes "ca_" ++ mem)), zero_shown n (place_of c (codes "ca2_" ++ mem)))

-- SIZES

small_more : (bits x w : ℕ) → x < 2 ^ w → w ≤ bits → x < 2 ^ bits
small_more bits x w h l = let p : 2 ^ w ≤ 2 ^ bits = pow-le-pow_right {n = 2} (omega arith) {i = w} {j = bits} l in omega (arith, h, p)

small_zeros : (bits n : ℕ) → AreSmall bits (replicate n 0)
small_zeros bits zero k d l = absurd (omega arith)
small_zeros bits (suc n) zero d l = pow_pos bits
small_zeros bits (suc n) (suc k) d l = small_zeros bits n k d (omega arith)

small_append : (bits : ℕ) (xs ys : List ℕ) → AreSmall bits xs → AreSmall bits ys → AreSmall bits (xs ++ ys)
small_append bits xs ys f g = All-append (λ x. x < 2 ^ bits) xs ys f g

-- a cell that is there holds no more at the start than it has bits
small_start : (bits : ℕ) (c : Circuit) (w : IsWell c) → AreWithin bits c → (k : ℕ) → k < length c.cells → held_at_start (cell_at c k) < 2 ^ bits
small_start bits c w h k l = at (cell_at c k) (fits_whole c w k l) (subst (λ (x : Signal). x.width ≤ bits) (signal_cell c w.cells k l) (h.cells k l))
  where
    at : (g : Cell) → FitsIn c (IsThereAt c (length c.cells)) (signal c) g → (cell_signal c (signal c) g).width ≤ bits → held_at_start g < 2 ^ bits
    at (cell.Const u v) f m = small_more bits v u f.2 m
    at (cell.Not a) f m = pow_pos bits
    at (cell.Bin o a b) f m = pow_pos bits
    at (cell.Mux x a b) f m = pow_pos bits
    at (cell.Slice a high low) f m = pow_pos bits
    at (cell.Cat a b) f m = pow_pos bits
    at (cell.Rep n a) f m = pow_pos bits
    at (cell.Read n a) f m = pow_pos bits

small_cells : (bits : ℕ) (c : Circuit) → ((k : ℕ) → k < length c.cells → held_at_start (cell_at c k) < 2 ^ bits)
    → (order : List ℕ) → ((j : ℕ) → j < length order → slice_index order j < length c.cells)
    → AreSmall bits (map (λ k. held_at_start (cell_at c k)) order)
small_cells bits c f [] g k d l = absurd (omega arith)
small_cells bits c f (x ∷ order) g zero d l = f x (g zero (omega arith))
small_cells bits c f (x ∷ order) g (suc k) d l = small_cells bits c f order (λ j m. g (suc j) (omega arith)) k d (omega arith)

-- all words that are held at the start have no more bits than the nets and the arrays
pub small_lists : (bits : ℕ) (c : Circuit) (order ps regs : List ℕ) (arrays : List (List ℕ)) → IsWell c → IsOrder c order ps
    → Holds c regs arrays → AreWithin bits c → ListsFit bits (first_lists c order regs arrays)
small_lists bits c order ps regs arrays w o h q = record {
  values =
      small_append bits (replicate (first_place c) 0) (map (λ k. held_at_start (cell_at c k)) order) (small_zeros bits (first_place c))
      (small_cells bits c (small_start bits c w q) order (λ j l. (o.turns j l).there));
  arrays = λ m d l k e i.
      let r : m < length c.arrays = (let n = h.array_count in omega (arith, n, l)) in
      let same : get_or arrays m d ≡ get_or arrays m [] = get_or_default arrays m d [] l in
      let x : get_or (get_or arrays m d) k e ≡ slice_index (get_or arrays m []) k =
      get_or_default (get_or arrays m d) k e 0 i ∙ ap (λ xs. slice_index xs k) same in
      let s = small_more bits (slice_index (get_or arrays m []) k) (array_at c m).width (h.words m r k) (q.arrays m r) in
      omega (arith, x, s);
  next = λ k d l.
      let r : k < length c.regs = (let n = h.reg_count in omega (arith, n, l)) in
      let x : get_or regs k d ≡ slice_index regs k = get_or_default regs k d 0 l in
      let s = small_more bits (slice_index regs k) (reg_at c k).width (h.each k r) (q.regs k r) in
      omega (arith, x, s);
}

-- OF A NETLIST

-- what is known of an order of a netlist
pub record IsOrdered (o : CellOrder) (n : Netlist) : Type 0 where
  pub regs : o.regs ≡ length (inputs_of (circuit_of n))
  pub order : IsOrder (circuit_of n) o.cells.items o.places.items
  pub all : AllEarly (circuit_of n) o.places.items (first_place (circuit_of n) + length o.cells.items)

-- where all cells have a place in an order of a netlist, it is an order of all its cells
pub ordered : (o : CellOrder) (n : Netlist) → o.net.now ≡ n → IsOrderOf o → AllPlaced o → IsOrdered o n
ordered o n e f a =
    subst (IsOrdered o) e (record { regs = f.regs; order = f.order; all = subst (λ i. AllEarly (circuit_of o.net.now) o.places.items i) f.next a })

-- zeros for inputs and registers, and then what each cell holds at the start, are the first list of values
pub first_is : (o : CellOrder) (n : Netlist) (front vs : List ℕ) (k : ℕ)
    → o.net.now ≡ n → vs ≡ front ++ map (λ i. held_at_start (cell_of o i)) o.cells.items → front ≡ replicate k 0
    → k ≡ first_place (circuit_of n) → vs ≡ first_values (circuit_of n) o.cells.items
first_is o n front vs k e f g h =
    f ∙ ap (λ l. l ++ map (λ i. held_at_start (cell_of o i)) o.cells.items) (g ∙ ap (λ (i : ℕ). replicate {A = ℕ} i 0) h)
    ∙ ap (λ (m : Netlist). replicate {A = ℕ} (first_place (circuit_of n)) 0 ++ map (λ i. held_at_start (cell_at (circuit_of m) i)) o.cells.items) e
