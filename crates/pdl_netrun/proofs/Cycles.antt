-- The parts of a cycle, from the fields of a simulator that is ready.
use Rattle.std.proofs.Common.{◌≡◌, true, refl, sym, ap, ◌∙◌, subst, ℕ, ◌+◌, ◌*◌, ◌^◌, ◌<◌, ◌≤◌, List, length, map, get_or, All, arith}
use Rattle.std.specs.Prelude.{slice_index}
use Rattle.std.proofs.lemmas.List.{get_or-map, get_or_default, length-map}
use Rattle.std.proofs.Math.Nat.{pow-le-pow_right}
use Rattle.pdl_net.specs.declared.Netlist.{Netlist}
use Rattle.pdl_net.specs.Circuit.{circuit_of, inputs_of}
use Rattle.pdl_kit.specs.declared.mem_info.MemInfo.{MemInfo}
use Rattle.pdl_net.specs.Run.{answers, delayed_mems, mem_at, next_stores, no_mem, value_at}
use Rattle.pdl_net.specs.Cycle.{output_values, next_regs, next_arrays}
use Rattle.pdl_net.specs.Holds.{Holds}
use Rattle.pdl_net.proofs.Holds.{next_holds}
use Rattle.pdl_netrun.specs.declared.sim.Sim.TheInside.{Inside}
use Rattle.pdl_netrun.specs.Steps.{AreBelow, WriteFits, after_all, steps_of}
use Rattle.pdl_netrun.specs.Held.{AreSmall, HeldLists, PlanFits, after_plan, bits_of, held_lists, walked_with}
use Rattle.pdl_netrun.specs.Order.{first_place, AllEarly}
use Rattle.pdl_netrun.specs.Plan.{HasValues, HasConstants}
use Rattle.pdl_netrun.specs.declared.outside.Outside.{Outside}
use Rattle.pdl_netrun.specs.declared.places.MemoryPlaces.{MemoryPlaces}
use Rattle.pdl_netrun.specs.Places.{places_of}
use Rattle.pdl_netrun.specs.Outside.{AreOutside, AddressesSeen, WordsFit, stores_of, stores_after}
use Rattle.pdl_netrun.specs.Inside.{IsReady, run_of, seen_at}
use Rattle.pdl_netrun.proofs.Arrays.{arrays_written, writes_fit}
use Rattle.pdl_netrun.proofs.Environment.{inputs_fit, stores_named, words_kept}
use Rattle.pdl_netrun.proofs.SimCycle.{state_now, suits_now, answers_count, answered_count, next_count, begun_count, begun_values, walked_now, drivers_below, outputs_read, nexts_below, nexts_read}

-- the inputs of the next cycle
abbrev pub inputs_now : Inside → ℕ → List ℕ
inputs_now a bits = answers (stores_of a.outside.items) bits

-- the values after the walk
abbrev pub walked_values : Inside → ℕ → List ℕ
walked_values a bits = walked_with a.plan (inputs_now a bits) (held_lists a.held)

-- what is held after the cycle
abbrev pub lists_now : Inside → ℕ → HeldLists
lists_now a bits = after_plan a.plan (inputs_now a bits) (held_lists a.held)

-- what holds of the values after the walk
pub record AreWalked (a : Inside) (bits : ℕ) (ps vs : List ℕ) : Type 0 where
  pub count : length vs ≡ length (held_lists a.held).values
  pub values : HasValues (circuit_of a.net.now) ps (state_now a bits) vs (length vs)
  pub all : AllEarly (circuit_of a.net.now) ps (length vs)
  pub few : first_place (circuit_of a.net.now) ≤ length vs
  pub constants : HasConstants (circuit_of a.net.now) ps (length vs) vs

-- after the walk the list has the values of all nets in the cycle
pub now_walked : (a : Inside) (bits : ℕ) (r : IsReady a) (vs : List ℕ) → vs ≡ walked_values a bits → AreWalked a bits r.places vs
now_walked a bits r vs e =
    let c = circuit_of a.net.now in
    let w = walked_now a bits r in
    let k : length (begun_values a bits) ≡ length (walked_values a bits) = sym w.count in
    let n : length (walked_values a bits) ≡ length (held_lists a.held).values = w.count ∙ begun_count a bits r in
    subst (AreWalked a bits r.places) (sym e) (record {
      count = n;
      values = subst (λ (i : ℕ). HasValues c r.places (state_now a bits) (walked_values a bits) i) k w.values;
      all = subst (λ (i : ℕ). AllEarly c r.places i) (sym n) r.all;
      few = (let m = r.room in omega (arith, m, n));
      constants = subst (λ (i : ℕ). HasConstants c r.places i (walked_values a bits)) k w.constants;
    })

inputs_small : (a : Inside) (bits : ℕ) → IsReady a → AreSmall (bits_of a.held) (inputs_now a bits)
inputs_small a bits r k d l =
    let c = circuit_of a.net.now in
    let f = inputs_fit (inputs_of c) (stores_of a.outside.items) bits r.outside.fit in
    let n = f.count in
    let i : k < length (inputs_of c) = omega (arith, l, n) in
    let e : get_or (inputs_now a bits) k d ≡ slice_index (inputs_now a bits) k = get_or_default (inputs_now a bits) k d 0 l in
    let x = f.each k i in
    let p : 2 ^ slice_index (inputs_of c) k ≤ 2 ^ bits_of a.held =
    pow-le-pow_right {n = 2} (omega arith) {i = slice_index (inputs_of c) k} {j = bits_of a.held} (r.within.inputs k i) in
    omega (arith, e, x, p)

-- a cycle by the plan finds room and words of no more bits than are held
pub plan_fits : (a : Inside) (bits : ℕ) → IsReady a → PlanFits (bits_of a.held) a.plan (inputs_now a bits) (held_lists a.held)
plan_fits a bits r =
    let c = circuit_of a.net.now in
    let w = now_walked a bits r (walked_values a bits) refl in
    let room = r.room in
    let inputs = answers_count a bits r in
    let answered = answered_count a bits r in
    let begun = begun_count a bits r in
    let next = next_count a r in
    let first_reg = r.plan.first_reg in
    let first_cell = r.plan.first_cell in
    let steps : length (steps_of a.plan.runs.items) ≡ length r.order = ap length r.plan.runs ∙ length-map r.order _ in
    let nexts : length a.plan.nexts.items ≡ length a.net.now.regs = ap length r.plan.nexts ∙ length-map a.net.now.regs _ in
    record {
      small = inputs_small a bits r;
      front = omega (arith, inputs, room);
      regs = omega (arith, first_reg, next, answered, room);
      cells = omega (arith, first_cell, steps, begun, room);
      fit = (walked_now a bits r).fit;
      nexts = nexts_below c r.well r.places (length (walked_values a bits)) w.all w.few a.plan.nexts.items r.plan.nexts;
      count = next ∙ sym nexts;
      writes =
          subst (λ x. All (λ p. WriteFits p (walked_values a bits) (held_lists a.held).arrays) x) (sym r.plan.writes)
          (writes_fit c (state_now a bits) r.well (suits_now a bits r) r.places (walked_values a bits) w.values w.all w.few);
    }

-- what the registers take next is what they take next in the circuit
pub regs_now : (a : Inside) (bits : ℕ) → IsReady a → (lists_now a bits).next ≡ next_regs (circuit_of a.net.now) (state_now a bits)
regs_now a bits r =
    let w = now_walked a bits r (walked_values a bits) refl in
    nexts_read (circuit_of a.net.now) (state_now a bits) r.well r.places (walked_values a bits) w.values w.all w.few a.plan.nexts.items r.plan.nexts

-- the arrays after the planned writes are those after the cycle of the circuit
pub arrays_now : (a : Inside) (bits : ℕ) → IsReady a → (lists_now a bits).arrays ≡ next_arrays (circuit_of a.net.now) (state_now a bits)
arrays_now a bits r =
    let w = now_walked a bits r (walked_values a bits) refl in
    ap (λ x. after_all x (walked_values a bits) (held_lists a.held).arrays) r.plan.writes
    ∙ arrays_written (circuit_of a.net.now) (state_now a bits) r.well (suits_now a bits r) r.places (walked_values a bits) w.values w.all w.few

-- what goes on holding of what is held
pub record IsKept (n : Netlist) (order places : List ℕ) (l : HeldLists) : Type 0 where
  pub all : AllEarly (circuit_of n) places (length l.values)
  pub room : length l.values ≡ first_place (circuit_of n) + length order
  pub constants : HasConstants (circuit_of n) places (length l.values) l.values
  pub holds : Holds (circuit_of n) l.next l.arrays

-- it holds of what is held after the cycle
pub kept_now : (a : Inside) (bits : ℕ) (r : IsReady a) (l : HeldLists) → l ≡ lists_now a bits → IsKept a.net.now r.order r.places l
kept_now a bits r l e =
    let c = circuit_of a.net.now in
    let s = state_now a bits in
    let w = now_walked a bits r (walked_values a bits) refl in
    subst (IsKept a.net.now r.order r.places) (sym e) (record {
      all = w.all;
      room = w.count ∙ r.room;
      constants = w.constants;
      holds =
          subst (λ x. Holds c x (lists_now a bits).arrays) (sym (regs_now a bits r))
          (subst (λ x. Holds c (next_regs c s) x) (sym (arrays_now a bits r)) (next_holds c s r.well (suits_now a bits r)));
    })

-- the values at the places of the outputs' nets are those that the outputs show
pub outs_now : (a : Inside) (bits : ℕ) → IsReady a → (vs : List ℕ)
    → vs ≡ walked_values a bits
    → map (slice_index vs) a.drivers.items ≡ output_values (circuit_of a.net.now) (state_now a bits)
outs_now a bits r vs f = let w = now_walked a bits r vs f in
    outputs_read (circuit_of a.net.now) (state_now a bits) r.well r.places vs w.values w.all w.few a.drivers.items r.drivers

-- what the delayed memories show goes by the outputs
pub outs_below_now : (a : Inside) (bits : ℕ) → IsReady a → (ps vs : List ℕ)
    → ps ≡ a.drivers.items → vs ≡ walked_values a bits → AreBelow (length vs) ps
outs_below_now a bits r ps vs e f = let w = now_walked a bits r vs f in
    drivers_below (circuit_of a.net.now) r.well r.places (length vs) w.all w.few ps (e ∙ r.drivers)

-- the delayed memories go on by what the outputs show, where they go on by the values at their places
pub stores_now : (a : Inside) (bits : ℕ) → IsReady a → (ps vs : List ℕ) (old new : List Outside)
    → ps ≡ a.drivers.items → vs ≡ walked_values a bits → old ≡ a.outside.items
    → stores_of new ≡ stores_after (map (slice_index vs) ps) old bits
    → stores_of new ≡ stores_after (output_values (circuit_of a.net.now) (state_now a bits)) a.outside.items bits
stores_now a bits r ps vs old new e f g h =
    h ∙ ap (λ l. stores_after (map (slice_index vs) ps) l bits) g
    ∙ ap (λ l. stores_after l a.outside.items bits) (ap (map (slice_index vs)) e ∙ outs_now a bits r vs f)

-- the delayed memories go on standing outside the netlist
pub outside_now : (a : Inside) (bits : ℕ) → IsReady a → (new : List Outside)
    → stores_of new ≡ stores_after (output_values (circuit_of a.net.now) (state_now a bits)) a.outside.items bits
    → map (λ (m : Outside). m.commits) new ≡ map (λ (m : Outside). m.commits) a.outside.items
    → map (λ (m : Outside). m.requests) new ≡ map (λ (m : Outside). m.requests) a.outside.items
    → AreOutside (circuit_of a.net.now) (delayed_mems a.net.now) new
outside_now a bits r new e f g =
    let c = circuit_of a.net.now in
    let s = state_now a bits in
    let o = r.outside in
    let infos = delayed_mems a.net.now in
    let same : next_stores c (output_values c s) infos (stores_of a.outside.items) bits ≡ stores_of new =
    stores_named c (output_values c s) infos a.outside.items bits o.commits o.requests ∙ sym e in
    record {
      commits = f ∙ o.commits;
      requests = g ∙ o.requests;
      fit = subst (WordsFit (inputs_of c)) same (words_kept c s (inputs_of c) infos (stores_of a.outside.items) bits (suits_now a bits r) o.wide o.fit);
      wide = o.wide;
    }

-- room for two inputs of each delayed memory is room for those of memories with the same commit ports
pub inputs_kept : (old new : List Outside) (n : ℕ)
    → map (λ (m : Outside). m.commits) new ≡ map (λ (m : Outside). m.commits) old → 2 * length old ≤ n
    → 2 * length new ≤ n
inputs_kept old new n e h =
    let l = ap length e in
    let a : length (map (λ (m : Outside). m.commits) new) ≡ length new = simp length-map in
    let b : length (map (λ (m : Outside). m.commits) old) ≡ length old = simp length-map in
    omega (arith, l, a, b, h)

-- what the ports show has addresses of at most 16 bits
pub seen_now : (a : Inside) (bits : ℕ) → IsReady a → (vs : List ℕ) → vs ≡ walked_values a bits
    → AddressesSeen (circuit_of a.net.now) (map (slice_index vs) a.drivers.items)
seen_now a bits r vs f =
    subst (AddressesSeen (circuit_of a.net.now)) (sym (outs_now a bits r vs f))
    (λ mem. ((r.addresses mem).0 (state_now a bits) (suits_now a bits r), (r.addresses mem).1 (state_now a bits) (suits_now a bits r)))

-- OUTPUTS

-- the place of an output's net is among those of the values
pub driver_now : (a : Inside) → IsReady a → (i x : ℕ) → i < length a.drivers.items → x ≡ slice_index a.drivers.items i
    → x < length (held_lists a.held).values
driver_now a r i x l e =
    let m = r.room in
    let b =
    drivers_below (circuit_of a.net.now) r.well r.places (length (held_lists a.held).values) r.all (omega (arith, m)) a.drivers.items r.drivers i 0 l in
    omega (arith, b, e)

-- the value of an output in the last cycle
pub port_now : (a : Inside) (i x n : ℕ) → i < length a.drivers.items → x ≡ slice_index a.drivers.items i → a.shown ≡ true
    → n ≡ slice_index (held_lists a.held).values x → n ≡ slice_index (run_of a).last.ports i
port_now a i x n l e b g =
    g ∙ ap (slice_index (held_lists a.held).values) e
    ∙ sym (get_or-map (slice_index (held_lists a.held).values) a.drivers.items i 0 0 l)
    ∙ ap (λ x. slice_index (seen_at x (held_lists a.held).values a.drivers.items) i) (sym b)

-- the addresses of what a memory committed have at most 16 bits
pub addresses_now : (a : Inside) → IsReady a → (m : ℕ) (p : MemoryPlaces) → m < length a.net.now.mems → p ≡ get_or a.commits.items m p
    → (value_at (run_of a).last.ports p.first.addr < 2 ^ 64) × (value_at (run_of a).last.ports p.second.addr < 2 ^ 64)
addresses_now a r m p l e =
    let c = circuit_of a.net.now in
    let ports = (run_of a).last.ports in
    let name = (mem_at a.net.now m).name in
    let q : p ≡ places_of c name =
    e ∙ ap (λ (xs : List MemoryPlaces). get_or xs m p) r.commits ∙ get_or-map (λ (i : MemInfo). places_of c i.name) a.net.now.mems m no_mem p l in
    let s = r.seen name in
    let P : MemoryPlaces → Type 0 = λ x. (value_at ports x.first.addr < 2 ^ 64) × (value_at ports x.second.addr < 2 ^ 64) in
    let s0 = s.0 in
    let s1 = s.1 in
    subst P (sym q) (omega (arith, s0), omega (arith, s1))
