-- Orders of cells, and how they grow.
use Rattle.std.proofs.Common.{◌≡◌, ◌≢◌, ◌⊎◌, inl, inr, refl, sym, ap, ◌∙◌, subst, ℕ, zero, suc, ◌+◌, ◌<◌, ◌≤◌, List, [], ◌∷◌, ◌++◌, length, get_or, set, replicate, arith, length-append, ⊎_elim}
use Rattle.std.specs.Prelude.{slice_index}
use Rattle.std.proofs.lemmas.List.{get_or-set_same, get_or-set_other, length-set, length-replicate, get_or_append_left, get_or_push}
use Rattle.std.proofs.lemmas.Bool.{cases_lt, cases_eq}
use Rattle.pdl_net.specs.declared.Net.{Net}
use Rattle.pdl_net.specs.declared.Net.TheVariants.{Input, Reg as RegNet, Cell as CellNet}
use Rattle.pdl_net.specs.declared.Cell.{Cell}
use Rattle.pdl_net.specs.declared.Cell.TheVariants as cell
use Rattle.pdl_net.specs.Circuit.{Circuit}
use Rattle.pdl_net.specs.Meaning.{signal, IsThereAt}
use Rattle.pdl_net.specs.Well.{FitsIn, IsWell}
use Rattle.pdl_net.proofs.CellSignals.{fits_cell}
use Rattle.pdl_netrun.specs.Order.{first_place, unplaced, IsPlaced, Reads, IsEarly, cell_at, IsTurn, HasTurn, IsOrder, AllEarly}

-- WHAT A CELL READS

reads_each : (P Q : Net → Type 0) → ((x : Net) → P x → Q x) → (g : Cell) → Reads P g → Reads Q g
reads_each P Q f (cell.Const w v) r = tt
reads_each P Q f (cell.Not a) r = f a r
reads_each P Q f (cell.Bin o a b) r = (f a r.0, f b r.1)
reads_each P Q f (cell.Mux x a b) r = (f x r.0, f a r.1, f b r.2)
reads_each P Q f (cell.Slice a high low) r = f a r
reads_each P Q f (cell.Cat a b) r = (f a r.0, f b r.1)
reads_each P Q f (cell.Rep k a) r = f a r
reads_each P Q f (cell.Read m a) r = f a r

-- a cell that fits reads what is there
reads_fit : (c : Circuit) (There : Net → Type 0) (g : Cell) → FitsIn c There (signal c) g → Reads There g
reads_fit c There (cell.Const w v) h = tt
reads_fit c There (cell.Not a) h = h
reads_fit c There (cell.Bin o a b) h = (h.0, h.1)
reads_fit c There (cell.Mux x a b) h = (h.0, h.1, h.2)
reads_fit c There (cell.Slice a high low) h = h.0
reads_fit c There (cell.Cat a b) h = (h.0, h.1)
reads_fit c There (cell.Rep k a) h = h.0
reads_fit c There (cell.Read m a) h = h.1

-- and it fits where what it reads has another property too
fits_both : (c : Circuit) (There Also : Net → Type 0) (g : Cell) → FitsIn c There (signal c) g → Reads Also g → FitsIn c Also (signal c) g
fits_both c There Also (cell.Const w v) h r = h
fits_both c There Also (cell.Not a) h r = r
fits_both c There Also (cell.Bin o a b) h r = (r.0, r.1, h.2)
fits_both c There Also (cell.Mux x a b) h r = (r.0, r.1, r.2, h.3, h.4)
fits_both c There Also (cell.Slice a high low) h r = (r, h.1, h.2)
fits_both c There Also (cell.Cat a b) h r = (r.0, r.1, h.2)
fits_both c There Also (cell.Rep k a) h r = (r, h.1, h.2)
fits_both c There Also (cell.Read m a) h r = (h.0, r, h.2)

-- a net that is there early is there later
there_later : (c : Circuit) (k n : ℕ) (x : Net) → k ≤ n → IsThereAt c k x → IsThereAt c n x
there_later c k n (Input i) l h = h
there_later c k n (RegNet r) l h = h
there_later c k n (CellNet j) l h = omega arith

-- all that a cell of a well formed circuit reads is there
pub reads_there : (c : Circuit) → IsWell c → (k : ℕ) → k < length c.cells → Reads (IsThereAt c (length c.cells)) (cell_at c k)
reads_there c w k h =
    reads_each (IsThereAt c k) (IsThereAt c (length c.cells))
    (λ x t. there_later c k (length c.cells) x (omega arith) t) (cell_at c k)
    (reads_fit c (IsThereAt c k) (cell_at c k) (fits_cell c w.cells k h))

both_each : (c : Circuit) (ps : List ℕ) (n k : ℕ)
    → k < length c.cells → (g : Cell) → FitsIn c (IsThereAt c k) (signal c) g → Reads (IsEarly c ps n) g
    → Reads (IsPlaced c ps n) g
both_each c ps n k l (cell.Const w v) h r = tt
both_each c ps n k l (cell.Not a) h r = record { there = there_later c k _ a (omega arith) h; early = r }
both_each c ps n k l (cell.Bin o a b) h r =
    (record { there = there_later c k _ a (omega arith) h.0; early = r.0 }, record { there = there_later c k _ b (omega arith) h.1; early = r.1 })
both_each c ps n k l (cell.Mux x a b) h r = (
  record { there = there_later c k _ x (omega arith) h.0; early = r.0 },
  record { there = there_later c k _ a (omega arith) h.1; early = r.1 },
  record { there = there_later c k _ b (omega arith) h.2; early = r.2 },
)
both_each c ps n k l (cell.Slice a high low) h r = record { there = there_later c k _ a (omega arith) h.0; early = r }
both_each c ps n k l (cell.Cat a b) h r =
    (record { there = there_later c k _ a (omega arith) h.0; early = r.0 }, record { there = there_later c k _ b (omega arith) h.1; early = r.1 })
both_each c ps n k l (cell.Rep m a) h r = record { there = there_later c k _ a (omega arith) h.0; early = r }
both_each c ps n k l (cell.Read m a) h r = record { there = there_later c k _ a (omega arith) h.1; early = r }

-- a cell at its turn fits the nets that have a place before
pub fits_turn : (c : Circuit) (ps : List ℕ) (k at : ℕ) → IsWell c → IsTurn c ps k at → FitsIn c (IsPlaced c ps at) (signal c) (cell_at c k)
fits_turn c ps k at w t =
    let h = fits_cell c w.cells k t.there in
    fits_both c (IsThereAt c k) (IsPlaced c ps at) (cell_at c k) h (both_each c ps at k t.there (cell_at c k) h t.reads)

-- ONE CELL MORE

early_kept : (c : Circuit) (ps : List ℕ) (k v n : ℕ)
    → slice_index ps k ≡ unplaced → n ≤ unplaced → (x : Net) → IsEarly c ps n x → IsEarly c (set ps k v) n x
early_kept c ps k v n e l (Input i) h = h
early_kept c ps k v n e l (RegNet r) h = h
early_kept c ps k v n e l (CellNet m) h = ⊎_elim
    (λ (s : m ≡ k). absurd (let t = ap (slice_index ps) s in omega (arith, s, t, e, l, h)))
    (λ (ne : m ≢ k). subst (λ i. i < n) (sym (get_or-set_other ps k m v 0 ne)) h)
    (cases_eq m k)

module _ (c : Circuit) (order ps : List ℕ) (k : ℕ) (o : IsOrder c order ps) (h : k < length c.cells)
    (e : slice_index ps k ≡ unplaced) (r : Reads (IsEarly c ps (first_place c + length order)) (cell_at c k)) where
  abbrev at : ℕ
  at = first_place c + length order

  abbrev new : List ℕ
  new = set ps k at

  inside : k < length ps
  inside = omega (arith, o.count, h)

  kept : (n : ℕ) (g : Cell) → n ≤ at → Reads (IsEarly c ps n) g → Reads (IsEarly c new n) g
  kept n g l q = reads_each (IsEarly c ps n) (IsEarly c new n) (early_kept c ps k at n e (let m = o.room in omega (arith, m, l))) g q

  turn_kept : (j m : ℕ) → m < length order → IsTurn c ps j (first_place c + m) → IsTurn c new j (first_place c + m)
  turn_kept j m l t = record {
    there = t.there;
    own = get_or-set_other ps k j at 0 (λ s. absurd (let q = ap (slice_index ps) s in let u = t.own in let v = o.room in omega (arith, q, u, v, e, l))) ∙ t.own;
    reads = kept (first_place c + m) (cell_at c j) (omega arith) t.reads;
  }

  turns : (j : ℕ) → j < length (order ++ k ∷ []) → IsTurn c new (slice_index (order ++ k ∷ []) j) (first_place c + j)
  turns j l = ⊎_elim
      (λ (lt : j < length order). subst (λ i. IsTurn c new i (first_place c + j))
      (sym (get_or_append_left order (k ∷ []) 0 j lt)) (turn_kept (slice_index order j) j lt (o.turns j lt)))
      (λ (ge : length order ≤ j).
      let s : length order ≡ j = omega (arith, l, length-append order (k ∷ [])) in
      let t : IsTurn c new k at = record { there = h; own = get_or-set_same ps k at 0 inside; reads = kept at (cell_at c k) (omega arith) r } in
      subst (λ i. IsTurn c new i (first_place c + j)) (sym (get_or_push order k 0 j s)) (subst (λ i. IsTurn c new k (first_place c + i)) s t))
      (cases_lt j (length order))

  known : (m : ℕ) → m < length c.cells → (slice_index new m ≡ unplaced) ⊎ HasTurn c (order ++ k ∷ []) new m
  known m l = ⊎_elim
      (λ (s : m ≡ k). inr (record {
        turn = length order;
        within = omega (arith, length-append order (k ∷ []));
        own = ap (λ i. slice_index new i) s ∙ get_or-set_same ps k at 0 inside;
        same = get_or_push order k 0 (length order) refl ∙ sym s;
      }))
      (λ (ne : m ≢ k). ⊎_elim
      (λ (u : slice_index ps m ≡ unplaced). inl (get_or-set_other ps k m at 0 ne ∙ u))
      (λ (t : HasTurn c order ps m). inr (record {
        turn = t.turn;
        within = (let v = t.within in omega (arith, v, length-append order (k ∷ [])));
        own = get_or-set_other ps k m at 0 ne ∙ t.own;
        same = get_or_append_left order (k ∷ []) 0 t.turn t.within ∙ t.same;
      }))
      (o.known m l))
      (cases_eq m k)

  -- an order goes on with a cell that has no place yet, where all that it reads has an earlier one and there is room
  pub order_more : first_place c + length order + 1 < unplaced → IsOrder c (order ++ k ∷ []) new
  order_more l = record {
    count = length-set ps k at ∙ o.count;
    room = omega (arith, l, length-append order (k ∷ []));
    turns = turns;
    known = known;
  }

-- ORDERS OF NETLISTS

-- at first no cell has a place
all_unplaced : (n k : ℕ) → k < n → slice_index (replicate n unplaced) k ≡ unplaced
all_unplaced zero k h = absurd (omega arith)
all_unplaced (suc n) zero h = refl
all_unplaced (suc n) (suc k) h = all_unplaced n k (omega arith)

-- an order without cells, in which no cell has a place
pub order_first : (c : Circuit) (order ps : List ℕ)
    → order ≡ [] → ps ≡ replicate (length c.cells) unplaced → first_place c < unplaced → IsOrder c order ps
order_first c order ps e f h =
    let n = ap length e in
    record {
      count = ap length f ∙ (simp length-replicate);
      room = omega (arith, h, n);
      turns = λ j l. absurd (omega (arith, n, l));
      known = λ k l. inl (ap (λ xs. slice_index xs k) f ∙ all_unplaced (length c.cells) k l);
    }

-- a cell whose earlier cells all have a place reads what has one
early_before : (c : Circuit) (ps : List ℕ) (k n : ℕ)
    → first_place c ≤ n → ((j : ℕ) → j < k → slice_index ps j < n) → (x : Net) → IsThereAt c k x → IsEarly c ps n x
early_before c ps k n l f (Input i) h = omega arith
early_before c ps k n l f (RegNet r) h = omega arith
early_before c ps k n l f (CellNet j) h = f j h

-- a cell reads nets of earlier places, where all cells before it have one before this place
pub reads_before : (c : Circuit) (ps : List ℕ) (k n : ℕ) → IsWell c
    → k < length c.cells → first_place c ≤ n → ((j : ℕ) → j < k → slice_index ps j < n)
    → Reads (IsEarly c ps n) (cell_at c k)
reads_before c ps k n w h l f =
    reads_each (IsThereAt c k) (IsEarly c ps n) (early_before c ps k n l f) (cell_at c k) (reads_fit c (IsThereAt c k) (cell_at c k) (fits_cell c w.cells k h))

-- a cell with a place has one before the next
placed_early : (c : Circuit) (order ps : List ℕ) (k : ℕ) → IsOrder c order ps
    → k < length c.cells → slice_index ps k ≢ unplaced → slice_index ps k < first_place c + length order
placed_early c order ps k o h ne = ⊎_elim
    (λ (u : slice_index ps k ≡ unplaced). absurd (ne u))
    (λ (t : HasTurn c order ps k). let v = t.within in let e = t.own in omega (arith, v, e))
    (o.known k h)

-- all cells up to one more
early_more : (ps : List ℕ) (k n : ℕ)
    → k < length ps → ((j : ℕ) → j < k → slice_index ps j < n) → (j : ℕ) → j < k + 1
    → slice_index (set ps k n) j < n + 1
early_more ps k n h f j l = ⊎_elim
    (λ (s : j ≡ k). let e = ap (slice_index (set ps k n)) s ∙ get_or-set_same ps k n 0 h in omega (arith, e))
    (λ (ne : j ≢ k). let e = get_or-set_other ps k j n 0 ne in let i : j < k = omega (arith, l, ne) in let q = f j i in omega (arith, e, q))
    (cases_eq j k)

-- a cell that was read reads what is there
pub reads_read : (c : Circuit) (xs : List Cell) (k : ℕ) → IsWell c
    → k < length c.cells → xs ≡ c.cells → Reads (IsThereAt c (length c.cells)) (get_or xs k (cell.Const 0 0))
reads_read c xs k w h e = subst (λ (l : List Cell). Reads (IsThereAt c (length c.cells)) (get_or l k (cell.Const 0 0))) (sym e) (reads_there c w k h)

-- the order after a cell got the next place
pub order_next : (c : Circuit) (order ps cells : List ℕ) (k n : ℕ) → IsOrder c order ps
    → k < length c.cells → slice_index ps k ≡ unplaced → n ≡ first_place c + length order
    → Reads (IsEarly c ps n) (cell_at c k) → n ≢ 4294967294 → cells ≡ order ++ k ∷ [] → IsOrder c cells (set ps k n)
order_next c order ps cells k n o h u e r ne f =
    let q = subst (λ i. Reads (IsEarly c ps i) (cell_at c k)) e r in
    let m = order_more c order ps k o h u q (let l = o.room in omega (arith, l, e, ne)) in
    subst (λ xs. IsOrder c xs (set ps k n)) (sym f) (subst (λ i. IsOrder c (order ++ k ∷ []) (set ps k i)) (sym e) m)

-- each cell fits the netlist's nets
fits_later : (c : Circuit) (k n : ℕ) → k ≤ n → (g : Cell) → FitsIn c (IsThereAt c k) (signal c) g → FitsIn c (IsThereAt c n) (signal c) g
fits_later c k n l g h =
    fits_both c (IsThereAt c k)
    (IsThereAt c n) g h (reads_each (IsThereAt c k) (IsThereAt c n) (λ x t. there_later c k n x l t) g (reads_fit c (IsThereAt c k) g h))

-- each cell of a well formed circuit fits over all its nets
pub fits_whole : (c : Circuit) → IsWell c → (k : ℕ) → k < length c.cells → FitsIn c (IsThereAt c (length c.cells)) (signal c) (cell_at c k)
fits_whole c w k h = fits_later c k (length c.cells) (omega arith) (cell_at c k) (fits_cell c w.cells k h)

-- where all cells have a place, each net that is there has one
pub all_placed : (c : Circuit) (ps : List ℕ) (n : ℕ) → AllEarly c ps n
    → first_place c ≤ n → (x : Net) → IsThereAt c (length c.cells) x → IsPlaced c ps n x
all_placed c ps n a l (Input i) h = record { there = h; early = omega (arith, l, h) }
all_placed c ps n a l (RegNet r) h = record { there = h; early = omega (arith, l, h) }
all_placed c ps n a l (CellNet k) h = record { there = h; early = a k h }
