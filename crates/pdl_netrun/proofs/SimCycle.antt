-- One cycle of a simulator.
use Rattle.std.proofs.Common.{◌≡◌, ◌⊎◌, inl, inr, refl, sym, ap, ◌∙◌, subst, ℕ, zero, suc, ◌+◌, ◌<◌, ◌≤◌, Bool, List, [], ◌∷◌, ◌++◌, length, get_or, take, drop, map, filter_map, All, Some, ap₂, ◌-◌, length-append, append_assoc, arith}
use Rattle.std.specs.Prelude.{slice_index, slice_get}
use Rattle.std.specs.List.{cons_option}
use Rattle.std.proofs.lemmas.List.{get_or-drop, get_or-take, get_or-map, get_or-append_right, get_or_append_left, length-map, length-take-le, length-drop}
use Rattle.pdl_net.specs.declared.Net.{Net}
use Rattle.pdl_net.specs.declared.Net.TheVariants.{Input, Reg as RegNet, Cell as CellNet}
use Rattle.pdl_net.specs.declared.Dir.{Dir}
use Rattle.pdl_net.specs.declared.Dir.TheVariants.{In, Out}
use Rattle.pdl_net.specs.declared.Port.{Port}
use Rattle.pdl_net.specs.declared.Reg.{Reg}
use Rattle.pdl_net.specs.declared.Netlist.{Netlist}
use Rattle.pdl_net.specs.Circuit.{Circuit, State, Output, circuit_of, inputs_of, outputs_of, output_with, port_output, no_reg, reg_at}
use Rattle.pdl_net.specs.Signal.{reg_value, input_value}
use Rattle.pdl_net.specs.Meaning.{signal, IsThere}
use Rattle.pdl_net.specs.Well.{IsWell, IsWellPort, IsDriven, Suits}
use Rattle.pdl_net.specs.Cycle.{net_value, output_values, next_regs, next_arrays}
use Rattle.pdl_net.specs.Run.{Store, next_stores, delayed_mems, answers, some_waits}
use Rattle.pdl_netrun.specs.Steps.{AreBelow, steps_of}
use Rattle.pdl_netrun.specs.Held.{begun_with, bits_of, held_lists, put_at}
use Rattle.pdl_netrun.specs.Order.{first_place, place, unplaced, cell_at, HasTurn, IsPlaced, IsOrder, AllEarly}
use Rattle.pdl_netrun.specs.Plan.{HasValues, HasConstants, IsHeld}
use Rattle.pdl_netrun.specs.Sim.{Run, run_after}
use Rattle.pdl_netrun.specs.Inside.{run_of, IsReady}
use Rattle.pdl_netrun.specs.declared.sim.Sim.TheInside.{Inside}
use Rattle.pdl_netrun.specs.Outside.{stores_of, stores_after}
use Rattle.pdl_netrun.proofs.Environment.{inputs_fit, stores_named}
use Rattle.pdl_netrun.proofs.Orders.{all_placed}
use Rattle.pdl_netrun.proofs.Values.{IsWalked, order_steps, walked}

-- the state of the circuit in the next cycle, with these reply bits
abbrev pub state_now : Inside → ℕ → State
state_now a bits = record { inputs = answers (stores_of a.outside.items) bits; regs = (held_lists a.held).next; arrays = (held_lists a.held).arrays }

-- the state in the next cycle suits the circuit of a simulator that is ready
pub suits_now : (a : Inside) (bits : ℕ) → IsReady a → Suits (circuit_of a.net.now) (state_now a bits)
suits_now a bits r =
    let h = r.holds in
    let i = inputs_fit (inputs_of (circuit_of a.net.now)) (stores_of a.outside.items) bits (r.outside).fit in
    record { input_count = i.count; inputs = i.each; reg_count = h.reg_count; regs = h.each; array_count = h.array_count; depth = h.depth; words = h.words }

-- the registers are those that were put there, and nothing after them has changed
put_within : (vs next : List ℕ) (n r : ℕ)
    → n ≤ length vs → r < length next → slice_index (put_at n vs next) (n + r) ≡ slice_index next r
put_within vs next n r h l =
    let m : length (take n vs) ≡ n = length-take-le n vs h in
    let e : n + r - n ≡ r = omega arith in
    ap (λ xs. slice_index xs (n + r)) (append_assoc (take n vs) next (drop (n + length next) vs))
    ∙ get_or-append_right (take n vs) (next ++ drop (n + length next) vs) n (n + r) 0 m (omega arith)
    ∙ ap (slice_index (next ++ drop (n + length next) vs)) e
    ∙ get_or_append_left next (drop (n + length next) vs) 0 r l

put_after : (vs next : List ℕ) (n j : ℕ)
    → n + length next ≤ j → n + length next ≤ length vs → slice_index (put_at n vs next) j ≡ slice_index vs j
put_after vs next n j h l =
    let m : length (take n vs) ≡ n = length-take-le n vs (omega arith) in
    let e : n + length next + (j - n - length next) ≡ j = omega arith in
    ap (λ xs. slice_index xs j) (append_assoc (take n vs) next (drop (n + length next) vs))
    ∙ get_or-append_right (take n vs) (next ++ drop (n + length next) vs) n j 0 m (omega arith)
    ∙ get_or-append_right next (drop (n + length next) vs) (length next) (j - n) 0 refl (omega arith)
    ∙ get_or-drop (n + length next) vs (j - n - length next) 0
    ∙ ap (λ i. slice_index vs i) e

-- the list of values stays as long as it was, where there is room for what is put in
pub put_length : (vs next : List ℕ) (n : ℕ) → n + length next ≤ length vs → length (put_at n vs next) ≡ length vs
put_length vs next n l =
    let a = length-take-le n vs (omega arith) in
    let b = length-append (take n vs ++ next) (drop (n + length next) vs) in
    let d = length-append (take n vs) next in
    let e = length-drop (n + length next) vs in
    omega (arith, a, b, d, e)

-- nothing before them has changed
put_before : (vs next : List ℕ) (n j : ℕ) → j < n → n ≤ length vs → slice_index (put_at n vs next) j ≡ slice_index vs j
put_before vs next n j h l =
    let m : length (take n vs) ≡ n = length-take-le n vs l in
    ap (λ xs. slice_index xs j) (append_assoc (take n vs) next (drop (n + length next) vs))
    ∙ get_or_append_left (take n vs) (next ++ drop (n + length next) vs) 0 j (omega (arith, m, h))
    ∙ get_or-take n vs j 0 h

-- at the start of a cycle the list has the values of the inputs and registers
values_first : (c : Circuit) (s : State) (ps vs : List ℕ) (order : List ℕ)
    → length s.inputs ≡ length (inputs_of c) → IsOrder c order ps → length s.regs ≡ length c.regs
    → length vs ≡ first_place c + length order
    → HasValues c ps s (put_at (length (inputs_of c)) (put_at 0 vs s.inputs) s.regs) (first_place c)
unfolding signal reg_value input_value
values_first c s ps vs order n o g l = record { each = at }
  where
    long : length (put_at 0 vs s.inputs) ≡ length vs
    long = put_length vs s.inputs 0 (omega (arith, n, l))

    at : (x : Net) → IsPlaced c ps (first_place c) x
        → slice_index (put_at (length (inputs_of c)) (put_at 0 vs s.inputs) s.regs) (place c ps x) ≡ (signal c x).value s
    at (Input i) h =
        let q = h.there in
        let z : 0 + i ≡ i = omega arith in
        put_before (put_at 0 vs s.inputs) s.regs (length (inputs_of c)) i q (omega (arith, l, long))
        ∙ ap (slice_index (put_at 0 vs s.inputs)) (sym z)
        ∙ put_within vs s.inputs 0 i (omega arith) (omega (arith, n, q))
    at (RegNet r) h = let q = h.there in put_within (put_at 0 vs s.inputs) s.regs (length (inputs_of c)) r (omega (arith, l, long)) (omega (arith, g, q))
    at (CellNet k) h = absurd (late k (o.known k h.there) h.early)
      where
        late : (k : ℕ) → (slice_index ps k ≡ unplaced) ⊎ HasTurn c order ps k → slice_index ps k < first_place c → ⊥
        late k (inl u) h = let r = o.room in omega (arith, u, r, h)
        late k (inr t) h = let e = t.own in omega (arith, e, h)

-- what is put before the cells leaves the constants
constants_put : (c : Circuit) (order ps vs next : List ℕ) (n : ℕ) → IsOrder c order ps
    → n + length next ≤ first_place c → length vs ≡ first_place c + length order → HasConstants c ps (length vs) vs
    → HasConstants c ps (length vs) (put_at n vs next)
constants_put c order ps vs next n o e l f = record { each = λ k h b. held k h b (o.known k h) }
  where
    held : (k : ℕ) → k < length c.cells → slice_index ps k < length vs
        → (slice_index ps k ≡ unplaced) ⊎ HasTurn c order ps k
        → IsHeld (cell_at c k) (slice_index (put_at n vs next) (slice_index ps k))
    held k h b (inl u) = let r = o.room in absurd (omega (arith, u, b, l, r))
    held k h b (inr t) =
        let q = t.own in
        subst (λ x. IsHeld (cell_at c k) x) (sym (put_after vs next n (slice_index ps k) (omega (arith, e, q)) (omega (arith, e, l)))) (f.each k h b)

-- the list of values with those of the inputs
abbrev pub answered_values : Inside → ℕ → List ℕ
answered_values a bits = put_at 0 (held_lists a.held).values (answers (stores_of a.outside.items) bits)

-- the list of values as a cycle begins to walk
abbrev pub begun_values : Inside → ℕ → List ℕ
begun_values a bits = begun_with a.plan (answers (stores_of a.outside.items) bits) (held_lists a.held)

-- a register has one next value
pub next_count : (a : Inside) → IsReady a → length (held_lists a.held).next ≡ length a.net.now.regs
next_count a r = (r.holds).reg_count

-- there is an answer for each input of the netlist
pub answers_count : (a : Inside) (bits : ℕ) → IsReady a
    → length (answers (stores_of a.outside.items) bits) ≡ length (inputs_of (circuit_of a.net.now))
answers_count a bits r = (inputs_fit (inputs_of (circuit_of a.net.now)) (stores_of a.outside.items) bits (r.outside).fit).count

-- with the inputs the list has as many values as before
pub answered_count : (a : Inside) (bits : ℕ) → IsReady a → length (answered_values a bits) ≡ length (held_lists a.held).values
answered_count a bits r = let l = r.room in let n = answers_count a bits r in
    put_length (held_lists a.held).values (answers (stores_of a.outside.items) bits) 0 (omega (arith, l, n))

-- as a cycle begins to walk, the list has as many values as before
pub begun_count : (a : Inside) (bits : ℕ) → IsReady a → length (begun_values a bits) ≡ length (held_lists a.held).values
begun_count a bits r = let e = r.plan.first_reg in let l = r.room in let n = next_count a r in
    let k = answered_count a bits r in
    put_length (answered_values a bits) (held_lists a.held).next a.plan.first_reg (omega (arith, e, l, n, k)) ∙ k

-- what the steps of a cycle do
pub walked_now : (a : Inside) (bits : ℕ) (r : IsReady a)
    → IsWalked (bits_of a.held) (circuit_of a.net.now) r.places (state_now a bits) (begun_values a bits) (steps_of a.plan.runs.items) a.plan.first_cell
walked_now a bits r =
    let c = circuit_of a.net.now in
    let s = state_now a bits in
    let n = next_count a r in
    let i = length (inputs_of c) in
    let j = answers_count a bits r in
    let k = answered_count a bits r in
    let l = r.room in
    let e : put_at i (answered_values a bits) (held_lists a.held).next ≡ begun_values a bits =
    ap (λ x. put_at x (answered_values a bits) (held_lists a.held).next) (sym r.plan.first_reg) in
    let m = begun_count a bits r in
    let v = subst (λ (xs : List ℕ). HasValues c r.places s xs (first_place c)) e (values_first c s r.places (held_lists a.held).values r.order j r.ordered n r.room) in
    let asked = constants_put c r.order r.places (held_lists a.held).values (answers (stores_of a.outside.items) bits) 0 r.ordered (omega (arith, j)) r.room r.constants in
    let held =
    constants_put c r.order r.places (answered_values a bits) (held_lists a.held).next i r.ordered (omega (arith, n)) (k ∙ l)
    (subst (λ (x : ℕ). HasConstants c r.places x (answered_values a bits)) (sym k) asked) in
    let constants = subst (λ (xs : List ℕ). HasConstants c r.places (length (answered_values a bits)) xs) e held in
    let w =
    walked c s r.well (suits_now a bits r) (bits_of a.held) r.within r.order r.places r.ordered (begun_values a bits)
    (m ∙ r.room) v (subst (λ (x : ℕ). HasConstants c r.places x (begun_values a bits)) (k ∙ sym m) constants) in
    subst (λ xs. IsWalked (bits_of a.held) c r.places s (begun_values a bits) xs a.plan.first_cell) (sym r.plan.runs)
    (subst (λ n. IsWalked (bits_of a.held) c r.places s (begun_values a bits) (order_steps c r.places r.order) n) (sym r.plan.first_cell) w)

-- OUTPUTS AND REGISTERS

-- the nets that drive outputs are there
driver_step : (c : Circuit) (d : Dir) (w : ℕ) (name : List ℕ) (os : List Output) → IsDriven c w d
    → All (λ o. IsThere c o.net) os → All (λ o. IsThere c o.net) (cons_option (output_with d name) os)
driver_step c In w name os h f k x l = f k x l
driver_step c (Out y) w name os h f zero x l = h.0
driver_step c (Out y) w name os h f (suc k) x l = f k x (omega arith)

drivers_in : (c : Circuit) (ps : List Port)
    → ((k : ℕ) (p : Port) → slice_get ps k ≡ Some p → IsWellPort c p)
    → All (λ o. IsThere c o.net) (filter_map port_output ps)
drivers_in c [] w k x l = absurd (omega arith)
drivers_in c (p ∷ ps) w k x l =
    driver_step c p.dir p.width p.name (filter_map port_output ps) ((w zero p refl).driven) (drivers_in c ps (λ j q e. w (suc j) q e)) k x l

module _ (c : Circuit) (w : IsWell c) (ps : List ℕ) (n : ℕ) (all : AllEarly c ps n) (few : first_place c ≤ n) where
  below : (x : Net) → IsThere c x → place c ps x < n
  unfolding IsThere
  below x h = (all_placed c ps n all few x h).early

  outputs_below : (os : List Output) → All (λ o. IsThere c o.net) os → AreBelow n (map (λ o. place c ps o.net) os)
  outputs_below [] f k d h = absurd (omega arith)
  outputs_below (o ∷ os) f zero d h = below o.net (f 0 o (omega arith))
  outputs_below (o ∷ os) f (suc k) d h = outputs_below os (λ j x l. f (suc j) x (omega arith)) k d (omega arith)

  -- the places that the outputs are read from are below those of a list that has all nets
  pub drivers_below : (places : List ℕ) → places ≡ map (λ o. place c ps o.net) (outputs_of c) → AreBelow n places
  drivers_below places e = subst (AreBelow n) (sym e) (outputs_below (outputs_of c) (drivers_in c c.ports w.ports))

  next_below : (k d : ℕ) → k < length (map (λ (r : Reg). place c ps r.next) c.regs) → get_or (map (λ (r : Reg). place c ps r.next) c.regs) k d < n
  next_below k d h =
      let l : k < length c.regs = omega (arith, h, simp length-map at h) in
      subst (λ m. m < n) (sym (get_or-map (λ (r : Reg). place c ps r.next) c.regs k no_reg d l)) (below (reg_at c k).next ((w.regs k l).next))

  -- the places that the registers' next values are read from are below those of a list that has all nets
  pub nexts_below : (places : List ℕ) → places ≡ map (λ r. place c ps r.next) c.regs → AreBelow n places
  nexts_below places e = subst (AreBelow n) (sym e) next_below

module _ (c : Circuit) (s : State) (w : IsWell c) (ps vs : List ℕ) (v : HasValues c ps s vs (length vs))
    (all : AllEarly c ps (length vs)) (few : first_place c ≤ length vs) where
  valued : (x : Net) → IsThere c x → slice_index vs (place c ps x) ≡ net_value c s x
  unfolding IsThere
  valued x h = v.each x (all_placed c ps (length vs) all few x h)

  outputs_valued : (os : List Output) → All (λ o. IsThere c o.net) os
      → map (slice_index vs) (map (λ o. place c ps o.net) os) ≡ map (λ o. net_value c s o.net) os
  outputs_valued [] f = refl
  outputs_valued (o ∷ os) f = ap₂ (λ x xs. x ∷ xs) (valued o.net (f 0 o (omega arith))) (outputs_valued os (λ j x l. f (suc j) x (omega arith)))

  -- what is read at the places of the outputs' nets are the values of the outputs
  pub outputs_read : (places : List ℕ) → places ≡ map (λ o. place c ps o.net) (outputs_of c) → map (slice_index vs) places ≡ output_values c s
  unfolding output_values
  outputs_read places e = ap (map (slice_index vs)) e ∙ outputs_valued (outputs_of c) (drivers_in c c.ports w.ports)

  regs_valued : (rs : List Reg) → ((k : ℕ) → k < length rs → IsThere c (get_or rs k no_reg).next)
      → map (slice_index vs) (map (λ r. place c ps r.next) rs) ≡ map (λ r. net_value c s r.next) rs
  regs_valued [] f = refl
  regs_valued (r ∷ rs) f = ap₂ (λ x xs. x ∷ xs) (valued r.next (f 0 (omega arith))) (regs_valued rs (λ k l. f (suc k) (omega arith)))

  -- what is read at the places of the registers' next values are the registers of the next cycle
  pub nexts_read : (places : List ℕ) → places ≡ map (λ r. place c ps r.next) c.regs → map (slice_index vs) places ≡ next_regs c s
  unfolding next_regs
  nexts_read places e = ap (map (slice_index vs)) e ∙ regs_valued c.regs (λ k l. (w.regs k l).next)

-- THE CYCLE

-- a run from its parts
abbrev pub run_with : Netlist → List ℕ → List (List ℕ) → List Store → List ℕ → Bool → Run
run_with n regs arrays stores ports waited =
    record { netlist = n; held = record { regs = regs; arrays = arrays; stores = stores }; last = record { ports = ports; waited = waited } }

-- a run whose parts are those after a cycle is the run after that cycle
pub stepped_from : (a : Inside) (bits : ℕ) (regs : List ℕ) (arrays : List (List ℕ)) (stores : List Store) (outs : List ℕ) (waited : Bool)
    → IsReady a → regs ≡ next_regs (circuit_of a.net.now) (state_now a bits)
    → arrays ≡ next_arrays (circuit_of a.net.now) (state_now a bits)
    → outs ≡ output_values (circuit_of a.net.now) (state_now a bits) → stores ≡ stores_after outs a.outside.items bits
    → waited ≡ some_waits (stores_of a.outside.items) bits
    → run_with a.net.now regs arrays stores outs waited ≡ run_after (run_of a) bits
stepped_from a bits regs arrays stores outs waited r e f g h w =
    let n = a.net.now in
    let c = circuit_of n in
    let s = state_now a bits in
    ap (λ x. run_with n x arrays stores outs waited) e
    ∙ ap (λ x. run_with n (next_regs c s) x stores outs waited) f
    ∙ ap (λ x. run_with n (next_regs c s) (next_arrays c s) x outs waited)
    (h ∙ sym (stores_named c outs (delayed_mems n) a.outside.items bits (r.outside).commits (r.outside).requests))
    ∙ ap (λ x. run_with n (next_regs c s) (next_arrays c s) (next_stores c x (delayed_mems n) (stores_of a.outside.items) bits) x waited) g
    ∙ ap
    (run_with n (next_regs c s) (next_arrays c s)
    (next_stores c (output_values c s) (delayed_mems n) (stores_of a.outside.items) bits) (output_values c s)) w
