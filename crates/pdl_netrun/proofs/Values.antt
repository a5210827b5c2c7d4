-- The steps of a plan give each cell's place the value of its signal.
use Rattle.std.proofs.Common.{◌≡◌, ◌≢◌, refl, sym, ap, ap₂, ◌∙◌, subst, ℕ, zero, suc, ◌+◌, ◌-◌, ◌<◌, ◌≤◌, ◌^◌, List, [], ◌∷◌, length, get_or, set, drop, map, arith, ⊎_elim}
use Rattle.std.specs.Prelude.{slice_index}
use Rattle.std.proofs.lemmas.List.{get_or-set_same, get_or-set_other, drop_more, drop_all}
use Rattle.std.proofs.lemmas.Bool.{cases_lt, cases_eq}
use Rattle.std.proofs.Math.Nat.{pow-le-pow_right}
use Rattle.pdl_net.specs.declared.Net.{Net}
use Rattle.pdl_net.specs.declared.Net.TheVariants.{Input, Reg as RegNet, Cell as CellNet}
use Rattle.pdl_net.specs.declared.BinOp.{BinOp}
use Rattle.pdl_net.specs.declared.BinOp.TheVariants as op
use Rattle.pdl_net.specs.declared.Cell.{Cell}
use Rattle.pdl_net.specs.declared.Cell.TheVariants as cell
use Rattle.pdl_net.specs.Circuit.{Circuit, State}
use Rattle.pdl_word.specs.Words as words
use Rattle.pdl_net.specs.Signal.{Signal, bin_word, const_value, not_value, bin_value, mux_value, slice_value, cat_value, rep_value, read_value}
use Rattle.pdl_net.specs.Meaning.{signal, cell_signal}
use Rattle.pdl_net.specs.Well.{FitsIn, IsWell, Suits, IsBounded}
use Rattle.pdl_net.proofs.CellSignals.{signal_cell}
use Rattle.pdl_net.proofs.Bounds.{bounded_at}
use Rattle.pdl_netrun.specs.declared.operation.CellKind.{CellKind}
use Rattle.pdl_netrun.specs.declared.operation.CellKind.TheVariants as kinds
use Rattle.pdl_netrun.specs.declared.operation.CellOperands.{CellOperands}
use Rattle.pdl_netrun.specs.Kinds.{operator_kind}
use Rattle.pdl_netrun.specs.Steps.{Step, KindFits, StepsFit, AreWords, mask_within, after_kind, after_step, after_steps}
use Rattle.pdl_netrun.specs.Order.{first_place, place, unplaced, IsPlaced, cell_at, IsTurn, HasTurn, IsOrder}
use Rattle.pdl_netrun.specs.Plan.{step_of_cell, cell_operands, HasValues, HasConstants, IsHeld}
use Rattle.pdl_netrun.specs.Held.{AreWithin}
use Rattle.pdl_netrun.proofs.NarrowNets.{width_within}
use Rattle.pdl_netrun.proofs.Orders.{fits_turn}
use Rattle.pdl_netrun.proofs.Steps.{after_kind_length}
use Rattle.pdl_word.proofs.Lists.{either}

-- ONE STEP

-- a step changes no other place, and no number of places
after_other : (k : CellKind) (o : CellOperands) (at j : ℕ) (vs : List ℕ) (ws : List (List ℕ)) → j ≢ at
    → slice_index (after_kind k o at vs ws) j ≡ slice_index vs j
after_other kinds.Constant o at j vs ws ne = refl
after_other _ o at j vs ws ne = get_or-set_other vs at j _ 0 ne

-- an operator's cell
operated : (f : BinOp) (o : CellOperands) (at : ℕ) (vs : List ℕ) (ws : List (List ℕ))
    → after_kind (operator_kind f) o at vs ws
    ≡ set vs at (bin_word f o.width (slice_index vs (slice_index o.places 0)) (slice_index vs (slice_index o.places 1)))
operated op.Add o at vs ws = refl
operated op.Sub o at vs ws = refl
operated op.Mul o at vs ws = refl
operated op.And o at vs ws = refl
operated op.Or o at vs ws = refl
operated op.Xor o at vs ws = refl
operated op.Eq o at vs ws = refl
operated op.Ne o at vs ws = refl
operated op.Lt o at vs ws = refl
operated op.Shl o at vs ws = refl
operated op.Shr o at vs ws = refl

operation_fits : (bits : ℕ) (f : BinOp) (o : CellOperands) (vs : List ℕ) (ws : List (List ℕ)) → AreWords bits o.width o vs
    → KindFits bits (operator_kind f) o vs ws
operation_fits bits op.Add o vs ws h = h
operation_fits bits op.Sub o vs ws h = h
operation_fits bits op.Mul o vs ws h = h
operation_fits bits op.And o vs ws h = record { first = h.there; second = h.second_there }
operation_fits bits op.Or o vs ws h = record { first = h.there; second = h.second_there }
operation_fits bits op.Xor o vs ws h = record { first = h.there; second = h.second_there }
operation_fits bits op.Eq o vs ws h = record { first = h.there; second = h.second_there }
operation_fits bits op.Ne o vs ws h = record { first = h.there; second = h.second_there }
operation_fits bits op.Lt o vs ws h = record { first = h.there; second = h.second_there }
operation_fits bits op.Shl o vs ws h = h
operation_fits bits op.Shr o vs ws h = h

-- what fits a width fits a greater one
room : (bits x high low : ℕ) → x < 2 ^ high → high + low ≤ bits → x < 2 ^ (bits - low)
room bits x high low h l =
    let e : high ≤ bits - low = omega arith in
    omega (arith, h, pow-le-pow_right {n = 2} (omega arith) e)

-- a choice between two places
chosen : (vs : List ℕ) (x a b n : ℕ)
    → x ≡ n → n < 2 → slice_index vs (slice_index (b ∷ a ∷ []) x) ≡ words.mux n (slice_index vs a) (slice_index vs b)
unfolding words.mux
chosen vs x a b zero e l = ap (λ i. slice_index vs (slice_index (b ∷ a ∷ []) i)) e
chosen vs x a b (suc zero) e l = ap (λ i. slice_index vs (slice_index (b ∷ a ∷ []) i)) e
chosen vs x a b (suc (suc n)) e l = absurd (omega arith)

module _ (c : Circuit) (s : State) (w : IsWell c) (t : Suits c s) (bits : ℕ) (within : AreWithin bits c) (ps vs : List ℕ) (n : ℕ)
    (few : n ≤ length vs) (v : HasValues c ps s vs n) where
  bound : (x : Net) → IsPlaced c ps n x → IsBounded s (signal c x)
  bound x h = bounded_at c s w t (length c.cells) (omega arith) x h.there

  most : (x : Net) → IsPlaced c ps n x → (signal c x).width ≤ bits
  most x h = width_within bits c within x h.there

  here : (x : Net) → IsPlaced c ps n x → place c ps x < length vs
  here x h = let e = h.early in omega (arith, e, few)

  fits : (x : Net) → IsPlaced c ps n x → slice_index vs (place c ps x) < 2 ^ (signal c x).width
  fits x h = let e = v.each x h in let b = (bound x h).fits in omega (arith, e, b)

  -- a bit
  is_bit : (x : Net) → IsPlaced c ps n x → (signal c x).width ≡ 1 → slice_index vs (place c ps x) < 2
  is_bit x h e = subst (λ (u : ℕ). slice_index vs (place c ps x) < 2 ^ u) e (fits x h)

  -- the step of a cell that fits, and has no more than so many bits
  pub fits_planned : (g : Cell) → FitsIn c (IsPlaced c ps n) (signal c) g → (cell_signal c (signal c) g).width ≤ bits
      → KindFits bits (step_of_cell c ps g).kind (cell_operands c ps g) vs s.arrays
  fits_planned (cell.Const b x) h q = tt
  fits_planned (cell.Not a) h q = record { mask = refl; there = here a h; low = (bound a h).low; high = most a h; fits = fits a h }
  fits_planned (cell.Bin o a b) h q =
      operation_fits bits o (cell_operands c ps (cell.Bin o a b)) vs s.arrays (record {
        mask = refl;
        there = here a h.0;
        second_there = here b h.1;
        low = (bound a h.0).low;
        high = most a h.0;
        fits = fits a h.0;
        second_fits = subst (λ (u : ℕ). slice_index vs (place c ps b) < 2 ^ u) (sym h.2) (fits b h.1);
      })
  fits_planned (cell.Mux x a b) h q = record {
    count = refl;
    bit_there = here x h.0;
    bit_fits = is_bit x h.0 h.3;
    each = either (λ i. i < length vs) (place c ps b) (place c ps a) (here b h.2) (here a h.1);
  }
  fits_planned (cell.Slice a high low) h q = let b = most a h.0 in let l = h.2 in let o = h.1 in record {
    mask = (let e : high - low + 1 ≡ high + 1 - low = omega (arith, o) in ap mask_within e);
    there = here a h.0;
    order = o;
    top = omega (arith, b, l);
  }
  fits_planned (cell.Cat a b) h q =
      let l = (bound a h.0).low in
      let m : (signal c a).width + (signal c b).width ≤ bits = q in
      record {
        there = here a h.0;
        second_there = here b h.1;
        some = (bound b h.1).low;
        room = omega (arith, l, m);
        fits = room bits (slice_index vs (place c ps a)) (signal c a).width (signal c b).width (fits a h.0) m;
        second_fits = fits b h.1;
      }
  fits_planned (cell.Rep k a) h q = record {
    word = record { mask = refl; there = here a h.0; low = (bound a h.0).low; high = most a h.0; fits = fits a h.0 };
    some = h.1;
    room = q;
  }
  fits_planned (cell.Read m a) h q =
      let e = t.depth m h.0 in
      let f = fits a h.1 in
      let r = h.2 in
      record { there = here a h.1; array = omega (arith, t.array_count, h.0); within = omega (arith, e, f, r) }

  -- the step of a cell that fits gives its place the signal's value, which a constant's place has already
  pub after_planned : (g : Cell) (at : ℕ) → FitsIn c (IsPlaced c ps n) (signal c) g → at < length vs
      → IsHeld g (slice_index vs at)
      → slice_index (after_step (step_of_cell c ps g) at vs s.arrays) at ≡ (cell_signal c (signal c) g).value s
  unfolding const_value not_value bin_value mux_value slice_value cat_value rep_value read_value
  after_planned (cell.Const b x) at h l k = k
  after_planned (cell.Not a) at h l k = get_or-set_same vs at _ 0 l ∙ ap (λ x. words.complement (signal c a).width x) (v.each a h)
  after_planned (cell.Bin o a b) at h l k =
      ap (λ xs. slice_index xs at) (operated o (cell_operands c ps (cell.Bin o a b)) at vs s.arrays)
      ∙ get_or-set_same vs at _ 0 l
      ∙ ap₂ (λ x y. bin_word o (signal c a).width x y) (v.each a h.0) (v.each b h.1)
  after_planned (cell.Mux x a b) at h l k =
      get_or-set_same vs at _ 0 l
      ∙ chosen vs (slice_index vs (place c ps x)) (place c ps a) (place c ps b) ((signal c x).value s) (v.each x h.0)
      (let q = is_bit x h.0 h.3 in let e = v.each x h.0 in omega (arith, q, e))
      ∙ ap₂ (λ y z. words.mux ((signal c x).value s) y z) (v.each a h.1) (v.each b h.2)
  after_planned (cell.Slice a high low) at h l k = get_or-set_same vs at _ 0 l ∙ ap (λ x. words.slice high low x) (v.each a h.0)
  after_planned (cell.Cat a b) at h l k = get_or-set_same vs at _ 0 l ∙ ap₂ (λ x y. words.cat (signal c b).width x y) (v.each a h.0) (v.each b h.1)
  after_planned (cell.Rep m a) at h l k = get_or-set_same vs at _ 0 l ∙ ap (λ x. words.rep (signal c a).width m x) (v.each a h.0)
  after_planned (cell.Read m a) at h l k = get_or-set_same vs at _ 0 l ∙ ap (λ x. slice_index (get_or s.arrays m []) x) (v.each a h.1)

-- a constant stays
held_after : (c : Circuit) (ps : List ℕ) (g : Cell) (at : ℕ) (vs : List ℕ) (ws : List (List ℕ))
    → IsHeld g (slice_index vs at) → IsHeld g (slice_index (after_step (step_of_cell c ps g) at vs ws) at)
held_after c ps (cell.Const b x) at vs ws h = h
held_after c ps (cell.Not a) at vs ws h = tt
held_after c ps (cell.Bin o a b) at vs ws h = tt
held_after c ps (cell.Mux x a b) at vs ws h = tt
held_after c ps (cell.Slice a high low) at vs ws h = tt
held_after c ps (cell.Cat a b) at vs ws h = tt
held_after c ps (cell.Rep m a) at vs ws h = tt
held_after c ps (cell.Read m a) at vs ws h = tt

-- ALL STEPS

-- the cell that has the place of a turn is that of the turn
pub turn_of : (c : Circuit) (order ps : List ℕ) (j k : ℕ) → IsOrder c order ps
    → j < length order → k < length c.cells → slice_index ps k ≡ first_place c + j → slice_index order j ≡ k
turn_of c order ps j k o l h e = ⊎_elim
    (λ (u : slice_index ps k ≡ unplaced). let r = o.room in absurd (omega (arith, u, e, r, l)))
    (λ (t : HasTurn c order ps k). let q = t.own in let i : t.turn ≡ j = omega (arith, q, e) in ap (slice_index order) (sym i) ∙ t.same)
    (o.known k h)

-- what a step keeps: the values before it, its own value, and the constants
module _ (c : Circuit) (s : State) (w : IsWell c) (t : Suits c s) (bits : ℕ) (within : AreWithin bits c) (order ps : List ℕ)
    (o : IsOrder c order ps) (j : ℕ) (l : j < length order) (vs : List ℕ) (count : length vs ≡ first_place c + length order)
    (v : HasValues c ps s vs (first_place c + j)) (f : HasConstants c ps (length vs) vs) where
  abbrev own_cell : Cell
  own_cell = cell_at c (slice_index order j)

  abbrev at : ℕ
  at = first_place c + j

  abbrev new : List ℕ
  new = after_step (step_of_cell c ps own_cell) at vs s.arrays

  turn : IsTurn c ps (slice_index order j) at
  turn = o.turns j l

  inside : at < length vs
  inside = omega (arith, count, l)

  fits_own : FitsIn c (IsPlaced c ps at) (signal c) own_cell
  fits_own = fits_turn c ps (slice_index order j) at w turn

  own_within : (cell_signal c (signal c) own_cell).width ≤ bits
  own_within =
      subst (λ (x : Signal). x.width ≤ bits) (signal_cell c w.cells (slice_index order j) turn.there) (within.cells (slice_index order j) turn.there)

  -- the step of the cell at this turn reads places that are there, with words as wide as its kind takes them to be
  pub step_fits : KindFits bits (step_of_cell c ps own_cell).kind (cell_operands c ps own_cell) vs s.arrays
  step_fits = fits_planned c s w t bits within ps vs at (omega (arith, count, l)) v own_cell fits_own own_within

  held : IsHeld own_cell (slice_index vs at)
  held =
      subst (λ (i : ℕ). IsHeld own_cell (slice_index vs i)) (turn.own) (f.each (slice_index order j) turn.there (let e = turn.own in omega (arith, e, inside)))

  own : slice_index new at ≡ (signal c (CellNet (slice_index order j))).value s
  own =
      after_planned c s w t bits within ps vs at (omega (arith, count, l)) v own_cell at fits_own inside held
      ∙ ap (λ (x : Signal). x.value s) (sym (signal_cell c w.cells (slice_index order j) turn.there))

  other : (i : ℕ) → i ≢ at → slice_index new i ≡ slice_index vs i
  other i ne = after_other (step_of_cell c ps own_cell).kind (cell_operands c ps own_cell) at i vs s.arrays ne

  each_new : (x : Net) → IsPlaced c ps (suc at) x → slice_index new (place c ps x) ≡ (signal c x).value s
  each_new (Input i) h = let q = h.there in other i (λ e. absurd (omega (arith, e, q))) ∙ v.each (Input i) (record { there = q; early = omega (arith, q) })
  each_new (RegNet r) h = let q = h.there in
      other (place c ps (RegNet r)) (λ e. absurd (omega (arith, e, q))) ∙ v.each (RegNet r) (record { there = q; early = omega (arith, q) })
  each_new (CellNet k) h = ⊎_elim
      (λ (lt : slice_index ps k < at). other (slice_index ps k) (λ e. absurd (omega (arith, e, lt)))
      ∙ v.each (CellNet k) (record { there = h.there; early = lt }))
      (λ (ge : at ≤ slice_index ps k).
      let q = h.early in
      let e : slice_index ps k ≡ at = omega (arith, q, ge) in
      let i = turn_of c order ps j k o l h.there e in
      ap (slice_index new) e ∙ own ∙ ap (λ m. (signal c (CellNet m)).value s) i)
      (cases_lt (slice_index ps k) at)

  -- after the step the list has the values of all nets up to its own place
  pub step_values : HasValues c ps s new (suc at)
  step_values = record { each = each_new }

  -- the step leaves as many values as there were
  pub step_count : length new ≡ length vs
  step_count = after_kind_length (step_of_cell c ps own_cell).kind (cell_operands c ps own_cell) at vs s.arrays

  kept : (k : ℕ) → k < length c.cells → slice_index ps k < length vs → IsHeld (cell_at c k) (slice_index new (slice_index ps k))
  kept k h b = ⊎_elim
      (λ (e : slice_index ps k ≡ at).
      let i = turn_of c order ps j k o l h e in
      subst (λ (m : ℕ). IsHeld (cell_at c k) (slice_index new m)) (sym e)
      (subst (λ (m : ℕ). IsHeld (cell_at c m) (slice_index new at)) i (held_after c ps own_cell at vs s.arrays held)))
      (λ (ne : slice_index ps k ≢ at). subst (λ (x : ℕ). IsHeld (cell_at c k) x) (sym (other (slice_index ps k) ne)) (f.each k h b))
      (cases_eq (slice_index ps k) at)

  -- after the step the list still has the values of all constants
  pub step_constants : HasConstants c ps (length new) new
  step_constants = record { each = λ k h b. kept k h (omega (arith, b, step_count)) }

-- what the steps from a turn on do
pub record IsWalked (bits : ℕ) (c : Circuit) (ps : List ℕ) (s : State) (vs : List ℕ) (steps : List Step) (at : ℕ) : Type 0 where
  pub fit : StepsFit bits steps at vs s.arrays
  pub values : HasValues c ps s (after_steps steps at vs s.arrays) (length vs)
  pub constants : HasConstants c ps (length vs) (after_steps steps at vs s.arrays)
  pub count : length (after_steps steps at vs s.arrays) ≡ length vs

-- the steps of the cells in this order
abbrev pub order_steps : Circuit → List ℕ → List ℕ → List Step
order_steps c ps order = map (λ k. step_of_cell c ps (cell_at c k)) order

walked_from : (c : Circuit) (s : State) → IsWell c → Suits c s → (bits : ℕ) → AreWithin bits c → (order ps : List ℕ) → IsOrder c order ps → (n j : ℕ)
    → n + j ≡ length order → (vs : List ℕ) → length vs ≡ first_place c + length order
    → HasValues c ps s vs (first_place c + j) → HasConstants c ps (length vs) vs
    → IsWalked bits c ps s vs (order_steps c ps (drop j order)) (first_place c + j)
walked_from c s w t bits within order ps o zero j e vs m v f =
    let P : List ℕ → Type 0 = λ l. IsWalked bits c ps s vs (order_steps c ps l) (first_place c + j) in
    subst P (sym (drop_all j order (omega (arith, e))))
    (record {
      fit = tt;
      values = (let z : first_place c + j ≡ length vs = omega (arith, e, m) in subst (λ (i : ℕ). HasValues c ps s vs i) z v);
      constants = f;
      count = refl;
    })
walked_from c s w t bits within order ps o (suc n) j e vs m v f =
    let l : j < length order = omega (arith, e) in
    let x = slice_index order j in
    let new = after_step (step_of_cell c ps (cell_at c x)) (first_place c + j) vs s.arrays in
    let k = step_count c s w t bits within order ps o j l vs m v f in
    let i : suc (first_place c + j) ≡ first_place c + (j + 1) = omega arith in
    let rest =
    walked_from c s w t bits within order ps o n (j + 1) (omega (arith, e)) new (k ∙ m)
    (subst (λ (a : ℕ). HasValues c ps s new a) i (step_values c s w t bits within order ps o j l vs m v f))
    (step_constants c s w t bits within order ps o j l vs m v f) in
    let Q : ℕ → Type 0 = λ a. IsWalked bits c ps s new (order_steps c ps (drop (j + 1) order)) a in
    let r = subst Q (sym i) rest in
    let P : List ℕ → Type 0 = λ xs. IsWalked bits c ps s vs (order_steps c ps xs) (first_place c + j) in
    subst P (sym (drop_more order j 0 l)) (record {
      fit = (step_fits c s w t bits within order ps o j l vs m v f, r.fit);
      values = subst (λ (a : ℕ). HasValues c ps s (after_steps (order_steps c ps (drop (j + 1) order)) (suc (first_place c + j)) new s.arrays) a) k r.values;
      constants =
          subst (λ (a : ℕ). HasConstants c ps a (after_steps (order_steps c ps (drop (j + 1) order)) (suc (first_place c + j)) new s.arrays)) k r.constants;
      count = r.count ∙ k;
    })

-- the steps of all cells in their order walk the values from the first place on
pub walked : (c : Circuit) (s : State) → IsWell c → Suits c s → (bits : ℕ) → AreWithin bits c → (order ps : List ℕ) → IsOrder c order ps → (vs : List ℕ)
    → length vs ≡ first_place c + length order → HasValues c ps s vs (first_place c) → HasConstants c ps (length vs) vs
    → IsWalked bits c ps s vs (order_steps c ps order) (first_place c)
walked c s w t bits within order ps o vs m v f =
    let e : first_place c + 0 ≡ first_place c = omega arith in
    subst (λ (a : ℕ). IsWalked bits c ps s vs (order_steps c ps order) a) e
    (walked_from c s w t bits within order ps o (length order) 0 (omega arith) vs m (subst (λ (a : ℕ). HasValues c ps s vs a) (sym e) v) f)
