-- A pruned netlist shows the same.
use Rattle.std.proofs.Common.{◌≡◌, ℕ, zero, suc, ◌<◌, ◌+◌, Bool, true, false, List, [], ◌∷◌, ◌++◌, length, map, filter_map, drop, get_or, Some, refl, ap, ◌∙◌, arith, cond, bytes_eq, codes}
use Rattle.std.specs.Prelude.{slice_set, slice_index_or, ◌==◌, if◌then◌else◌, ◌/◌}
use Rattle.std.specs.List.{position_from}
use Rattle.pdl_word.specs.Each.{Each}
use Rattle.pdl_kit.specs.declared.mem_info.MemInfo.{MemInfo}
use Rattle.pdl_net.specs.declared.Net.{Net}
use Rattle.pdl_net.specs.declared.Net.TheVariants.{Reg as RegNet}
use Rattle.pdl_net.specs.declared.Dir.{Dir}
use Rattle.pdl_net.specs.declared.Dir.TheVariants.{In, Out}
use Rattle.pdl_net.specs.declared.Port.{Port}
use Rattle.pdl_net.specs.declared.Reg.{Reg}
use Rattle.pdl_net.specs.declared.WritePort.{WritePort}
use Rattle.pdl_net.specs.declared.Array.{Array}
use Rattle.pdl_net.specs.declared.Netlist.{Netlist}
use Rattle.pdl_net.specs.Circuit.{State, circuit_of, port_output, reg_at, no_reg, array_at, no_array}
use Rattle.pdl_net.specs.Meaning.{IsThere}
use Rattle.pdl_net.specs.Cycle.{net_value, output_values, next_regs, after_writes, arrays_from, next_arrays}
use Rattle.pdl_net.specs.Run.{Store, Held, Shown, some_waits, shown_ports, state_in, commit_of, commit2_of, request_of, place_of, next_stores, next, loaded_arrays, start, nports_from, nports, delayed_mems}
use Rattle.pdl_net.specs.Well.{IsDriven, IsWell}
use Rattle.pdl_net_needed.specs.Needed.{shown_by, read_by, Choice, IsKept}
use Rattle.pdl_net_needed.specs.Pruned.{kept_of, moved_net, moved_port, moved_reg, moved_write, moved_array, pruned}
use Rattle.pdl_net_needed.proofs.Values.{IsSameState}
use Rattle.pdl_net_needed.proofs.ClosedChoices.{IsClosed, port_kept, write_kept}
use Rattle.pdl_net_needed.proofs.PrunedParts.{after, net_same}
use Rattle.pdl_word.proofs.Each.{each_from_get}

-- ---- the names of outputs

place_from : (k : Choice) (name : List ℕ) (ps : List Port) (i : ℕ)
    → position_from (λ o. bytes_eq o.name name) i (filter_map port_output (map (moved_port k) ps))
    ≡ position_from (λ o. bytes_eq o.name name) i (filter_map port_output ps)
place_from k name [] i = refl
place_from k name (p ∷ ps) i =
    elim p.dir as
    (λ (d : Dir). position_from (λ o. bytes_eq o.name name) i
    (filter_map port_output (map (moved_port k) (record { name = p.name; width = p.width; dir = d } ∷ ps)))
    ≡ position_from (λ o. bytes_eq o.name name) i (filter_map port_output (record { name = p.name; width = p.width; dir = d } ∷ ps))) [
      | In ↦ place_from k name ps i
      | Out x ↦ ap (cond (bytes_eq p.name name) (Some i)) (place_from k name ps (i + 1))
    ]

place_same : (k : Choice) (n : Netlist) (name : List ℕ) → place_of (after k n) name ≡ place_of (circuit_of n) name
place_same k n name = place_from k name n.ports 0

commit_same : (k : Choice) (n : Netlist) (ports mem : List ℕ) → commit_of (after k n) ports mem ≡ commit_of (circuit_of n) ports mem
commit_same k n ports mem = cc (place_same k n (codes "c_" ++ mem), place_same k n (codes "ca_" ++ mem), place_same k n (codes "cd_" ++ mem))

commit2_same : (k : Choice) (n : Netlist) (ports mem : List ℕ) → commit2_of (after k n) ports mem ≡ commit2_of (circuit_of n) ports mem
commit2_same k n ports mem = cc (place_same k n (codes "c2_" ++ mem), place_same k n (codes "ca2_" ++ mem), place_same k n (codes "cd2_" ++ mem))

request_same : (k : Choice) (n : Netlist) (ports mem : List ℕ) → request_of (after k n) ports mem ≡ request_of (circuit_of n) ports mem
request_same k n ports mem = cc (place_same k n (codes "q_" ++ mem), place_same k n (codes "qa_" ++ mem))

stores_same : (k : Choice) (n : Netlist) (ports : List ℕ) (mems : List MemInfo) (stores : List Store) (bits : ℕ)
    → next_stores (after k n) ports mems stores bits ≡ next_stores (circuit_of n) ports mems stores bits
stores_same k n ports [] stores bits = refl
stores_same k n ports (i ∷ mems) [] bits = refl
stores_same k n ports (i ∷ mems) (m ∷ stores) bits =
    cc (commit_same k n ports i.name, commit2_same k n ports i.name, request_same k n ports i.name, stores_same k n ports mems stores (bits / 2))

-- ---- values in one cycle

-- a net has one value in a netlist and, by its new number, in its pruned one
abbrev pub IsSame : Choice → Netlist → State → State → Net → Type 0
IsSame k n s s' x = net_value (after k n) s' (moved_net k x) ≡ net_value (circuit_of n) s x

value_same : (k : Choice) (n : Netlist) → IsClosed (circuit_of n) k → IsWell (circuit_of n) → (s s' : State)
    → IsSameState k s s' → (x : Net) → IsThere (circuit_of n) x → IsKept k x → IsSame k n s s' x
value_same k n h w s s' t x there kept = (net_same k n h w.cells s s' t x there kept).same.value

-- what holds at each place below a list's length holds of each of its elements
pub each_from_at : {A : Type 0} (P : A → Type 0) (d : A) (xs : List A) → ((i : ℕ) → i < length xs → P (get_or xs i d)) → Each P xs
each_from_at P d [] h = tt
each_from_at P d (x ∷ xs) h = (h zero (omega arith), each_from_at P d xs (λ i l. h (suc i) (omega (arith, l))))

ports_same : (k : Choice) (n : Netlist) → IsClosed (circuit_of n) k → IsWell (circuit_of n) → (s s' : State)
    → IsSameState k s s' → Each (λ p. Each (IsSame k n s s') (shown_by p.dir)) n.ports
ports_same k n h w s s' t =
    each_from_get (λ (p : Port). Each (IsSame k n s s') (shown_by p.dir)) n.ports
    (λ i p e. at p.width p.dir (w.ports i p e).driven (port_kept (circuit_of n) k h i p e))
  where
    at : (v : ℕ) (d : Dir) → IsDriven (circuit_of n) v d → Each (IsKept k) (shown_by d) → Each (IsSame k n s s') (shown_by d)
    at v In d kept = tt
    at v (Out x) d kept = (value_same k n h w s s' t x d.0 kept.0, tt)

outputs_from : (k : Choice) (n : Netlist) (s s' : State) (ps : List Port)
    → Each (λ p. Each (IsSame k n s s') (shown_by p.dir)) ps
    → map (λ o. net_value (after k n) s' o.net) (filter_map port_output (map (moved_port k) ps))
    ≡ map (λ o. net_value (circuit_of n) s o.net) (filter_map port_output ps)
outputs_from k n s s' [] h = refl
outputs_from k n s s' (p ∷ ps) h =
    (elim p.dir as
    (λ (d : Dir). Each (IsSame k n s s') (shown_by d)
    → map (λ o. net_value (after k n) s' o.net) (filter_map port_output (map (moved_port k) (record { name = p.name; width = p.width; dir = d } ∷ ps)))
    ≡ map (λ o. net_value (circuit_of n) s o.net) (filter_map port_output (record { name = p.name; width = p.width; dir = d } ∷ ps))) [
      | In ↦ (λ g. outputs_from k n s s' ps h.1)
      | Out x ↦ (λ g. cc (g.0, outputs_from k n s s' ps h.1))
    ]) h.0

outputs_same : (k : Choice) (n : Netlist) → IsClosed (circuit_of n) k → IsWell (circuit_of n) → (s s' : State)
    → IsSameState k s s' → output_values (after k n) s' ≡ output_values (circuit_of n) s
unfolding output_values
outputs_same k n h w s s' t = outputs_from k n s s' n.ports (ports_same k n h w s s' t)

nexts_from : (k : Choice) (n : Netlist) (s s' : State) (bs : List Bool) (rs : List Reg)
    → ((r : ℕ) → r < length rs → get_or bs r false ≡ true → IsSame k n s s' (get_or rs r no_reg).next)
    → map (λ r. net_value (after k n) s' r.next) (map (moved_reg k) (kept_of bs rs))
    ≡ kept_of bs (map (λ r. net_value (circuit_of n) s r.next) rs)
nexts_from k n s s' [] rs h = refl
nexts_from k n s s' (b ∷ bs) [] h = refl
nexts_from k n s s' (true ∷ bs) (r ∷ rs) h = cc (h zero (omega arith) refl, nexts_from k n s s' bs rs (λ i l e. h (suc i) (omega (arith, l)) e))
nexts_from k n s s' (false ∷ bs) (r ∷ rs) h = nexts_from k n s s' bs rs (λ i l e. h (suc i) (omega (arith, l)) e)

nexts_same : (k : Choice) (n : Netlist) → IsClosed (circuit_of n) k → IsWell (circuit_of n) → (s s' : State)
    → IsSameState k s s' → next_regs (after k n) s' ≡ kept_of k.regs (next_regs (circuit_of n) s)
unfolding next_regs
nexts_same k n h w s s' t =
    nexts_from k n s s' k.regs n.regs (λ r l e. value_same k n h w s s' t (reg_at (circuit_of n) r).next (w.regs r l).next (h.reads (RegNet r) e).0)

writes_from : (k : Choice) (n : Netlist) (s s' : State) (ps : List WritePort) (xs : List ℕ)
    → Each (λ p. Each (IsSame k n s s') (read_by p)) ps
    → after_writes (after k n) s' (map (moved_write k) ps) xs ≡ after_writes (circuit_of n) s ps xs
writes_from k n s s' [] xs h = refl
writes_from k n s s' (p ∷ ps) xs h =
    let e = h.0.0 in
    let a = h.0.1.0 in
    let v = h.0.1.1.0 in
    let one :
    (if net_value (after k n) s' (moved_net k p.enable) == 1
    then slice_set xs (net_value (after k n) s' (moved_net k p.addr)) (net_value (after k n) s' (moved_net k p.value))
    else xs)
    ≡ (if net_value (circuit_of n) s p.enable == 1 then slice_set xs (net_value (circuit_of n) s p.addr) (net_value (circuit_of n) s p.value) else xs) =
    cc (e, a, v) in
    ap (after_writes (after k n) s' (map (moved_write k) ps)) one ∙ writes_from k n s s' ps _ h.1

arrays_from_same : (k : Choice) (n : Netlist) (s s' : State)
    → s'.arrays ≡ s.arrays → (ms : List Array) (j : ℕ)
    → Each (λ a. Each (λ p. Each (IsSame k n s s') (read_by p)) a.writes) ms
    → arrays_from (after k n) s' (map (moved_array k) ms) j ≡ arrays_from (circuit_of n) s ms j
arrays_from_same k n s s' t [] j h = refl
arrays_from_same k n s s' t (a ∷ ms) j h =
    let first =
    ap (λ xs. after_writes (after k n) s' (map (moved_write k) a.writes) (slice_index_or xs j [])) t
    ∙ writes_from k n s s' a.writes (slice_index_or s.arrays j []) h.0 in
    cc (first, arrays_from_same k n s s' t ms (suc j) h.1)

writes_same : (k : Choice) (n : Netlist) → IsClosed (circuit_of n) k → IsWell (circuit_of n) → (s s' : State)
    → IsSameState k s s' → Each (λ a. Each (λ p. Each (IsSame k n s s') (read_by p)) a.writes) n.arrays
writes_same k n h w s s' t = each_from_at (λ (a : Array). Each (λ p. Each (IsSame k n s s') (read_by p)) a.writes) no_array n.arrays (λ m l.
    each_from_get (λ (p : WritePort). Each (IsSame k n s s') (read_by p)) (array_at (circuit_of n) m).writes (λ i p e.
    let f = (w.arrays m l).writes i p e in
    let kept = write_kept (circuit_of n) k h m l i p e in (
      value_same k n h w s s' t p.enable f.enable kept.0,
      (value_same k n h w s s' t p.addr f.addr kept.1.0, (value_same k n h w s s' t p.value f.value kept.1.1.0, tt)),
    )))

arrays_same : (k : Choice) (n : Netlist) → IsClosed (circuit_of n) k → IsWell (circuit_of n) → (s s' : State)
    → IsSameState k s s' → next_arrays (after k n) s' ≡ next_arrays (circuit_of n) s
unfolding next_arrays
arrays_same k n h w s s' t = arrays_from_same k n s s' t.arrays n.arrays 0 (writes_same k n h w s s' t)

-- ---- cycle after cycle

-- the same at the start of a cycle, but for the registers that aren't kept
pub record IsSameHeld (k : Choice) (a b : Held) : Type 0 where
  pub regs : b.regs ≡ kept_of k.regs a.regs
  pub arrays : b.arrays ≡ a.arrays
  pub stores : b.stores ≡ a.stores

state_same : (k : Choice) (a b : Held) (bits : ℕ) → IsSameHeld k a b → IsSameState k (state_in a bits) (state_in b bits)
state_same k a b bits t = record { inputs = cc (t.stores); regs = t.regs; arrays = t.arrays }

-- where a netlist and its pruned one hold the same they do so after a cycle
pub next_same : (k : Choice) (n : Netlist) → IsClosed (circuit_of n) k → IsWell (circuit_of n) → (a b : Held) (bits : ℕ)
    → IsSameHeld k a b → IsSameHeld k (next n a bits) (next (pruned k n) b bits)
next_same k n h w a b bits t =
    let s = state_same k a b bits t in record {
      regs = nexts_same k n h w (state_in a bits) (state_in b bits) s;
      arrays = arrays_same k n h w (state_in a bits) (state_in b bits) s;
      stores =
          ap (λ xs. next_stores (after k n) xs (delayed_mems n) b.stores bits) (outputs_same k n h w (state_in a bits) (state_in b bits) s)
          ∙ ap (λ xs. next_stores (after k n) (output_values (circuit_of n) (state_in a bits)) (delayed_mems n) xs bits) t.stores
          ∙ stores_same k n (output_values (circuit_of n) (state_in a bits)) (delayed_mems n) a.stores bits;
    }

-- where they hold the same a kept net has one value in both, by its new number in the pruned one
pub value_kept : (k : Choice) (n : Netlist) → IsClosed (circuit_of n) k → IsWell (circuit_of n) → (a b : Held) (bits : ℕ)
    → IsSameHeld k a b → (x : Net) → IsThere (circuit_of n) x → IsKept k x → IsSame k n (state_in a bits) (state_in b bits) x
value_kept k n h w a b bits t x there kept = value_same k n h w (state_in a bits) (state_in b bits) (state_same k a b bits t) x there kept

run_same : (k : Choice) (n : Netlist) → IsClosed (circuit_of n) k → IsWell (circuit_of n)
    → (a b : Held) (schedule : List ℕ) → IsSameHeld k a b
    → nports_from (pruned k n) b schedule ≡ nports_from n a schedule
run_same k n h w a b [] t = refl
run_same k n h w a b (bits ∷ schedule) t =
    let o = outputs_same k n h w (state_in a bits) (state_in b bits) (state_same k a b bits t) in
    let seen : shown_ports (pruned k n) b bits ≡ shown_ports n a bits =
    ap (λ (xs : List ℕ). record { ports = xs; waited = some_waits b.stores bits }) o
    ∙ ap (λ (ms : List Store). record { ports = output_values (circuit_of n) (state_in a bits); waited = some_waits ms bits }) t.stores in
    ap (λ (x : Shown). x ∷ nports_from (pruned k n) (next (pruned k n) b bits) schedule) seen
    ∙ ap (λ (xs : List Shown). shown_ports n a bits ∷ xs) (run_same k n h w (next n a bits) (next (pruned k n) b bits) schedule (next_same k n h w a b bits t))

loaded_same : (k : Choice) (ms : List Array) (image : List (List ℕ)) → loaded_arrays (map (moved_array k) ms) image ≡ loaded_arrays ms image
loaded_same k [] image = refl
loaded_same k (a ∷ ms) image = cc (loaded_same k ms (drop 1 image))

resets_same : (k : Choice) (bs : List Bool) (rs : List Reg)
    → map (λ r. r.reset) (map (moved_reg k) (kept_of bs rs)) ≡ kept_of bs (map (λ r. r.reset) rs)
resets_same k [] rs = refl
resets_same k (b ∷ bs) [] = refl
resets_same k (true ∷ bs) (r ∷ rs) = ap (λ xs. r.reset ∷ xs) (resets_same k bs rs)
resets_same k (false ∷ bs) (r ∷ rs) = resets_same k bs rs

-- a netlist and its pruned one hold the same at the start, from each image
pub start_same : (k : Choice) (n : Netlist) (image : List (List ℕ)) → IsSameHeld k (start n image) (start (pruned k n) image)
start_same k n image = record {
  regs = resets_same k k.regs n.regs;
  arrays = loaded_same k n.arrays (drop (length (delayed_mems n)) image);
  stores = refl;
}

-- a well formed netlist pruned by a closed choice shows the same in each cycle, from each image
pub shows_same : (k : Choice) (n : Netlist) → IsClosed (circuit_of n) k → IsWell (circuit_of n)
    → (image : List (List ℕ)) (schedule : List ℕ) → nports (pruned k n) image schedule ≡ nports n image schedule
shows_same k n h w image schedule = run_same k n h w (start n image) (start (pruned k n) image) schedule (start_same k n image)
