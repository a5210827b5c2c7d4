-- The writes of a plan are those of the arrays.
use Rattle.std.proofs.Common.{◌≡◌, ◌≢◌, refl, sym, ap, ◌∙◌, ℕ, zero, suc, ◌+◌, ◌<◌, ◌≤◌, Bool, true, false, List, [], ◌∷◌, ◌++◌, length, get_or, set, take, map, All, Some, arith, ⊎_elim, append-nil, append_assoc}
use Rattle.std.specs.Prelude.{slice_index, slice_get, if◌then◌else◌, ◌==◌}
use Rattle.std.proofs.lemmas.List.{set-get_or, get_or-set_same, get_or-set_other, length-set, ext_get_or, take_all}
use Rattle.std.proofs.lemmas.List.Elements.{All-append}
use Rattle.std.proofs.lemmas.Grind.{take-set_at}
use Rattle.std.proofs.lemmas.Bool.{cases_eq}
use Rattle.pdl_net.specs.declared.Net.{Net}
use Rattle.pdl_net.specs.declared.WritePort.{WritePort}
use Rattle.pdl_net.specs.declared.Array.{Array}
use Rattle.pdl_net.specs.Circuit.{Circuit, State, array_at, no_array}
use Rattle.pdl_net.specs.Meaning.{IsThere}
use Rattle.pdl_net.specs.Cycle.{net_value, after_writes, arrays_from, next_arrays}
use Rattle.pdl_net.specs.Well.{IsWell, IsWellWrite, IsWellArray, Suits}
use Rattle.pdl_net.proofs.Bounds.{bounded}
use Rattle.pdl_netrun.specs.declared.writes.PlannedWrite.{PlannedWrite}
use Rattle.pdl_netrun.specs.Steps.{WriteFits, after_write, after_all}
use Rattle.pdl_netrun.specs.Order.{first_place, place, AllEarly}
use Rattle.pdl_netrun.specs.Plan.{planned_write, planned_writes, writes_from, HasValues}
use Rattle.pdl_netrun.proofs.Orders.{all_placed}

-- WRITES ONE AFTER ANOTHER

after_all_append : (ps qs : List PlannedWrite) (vs : List ℕ) (ws : List (List ℕ))
    → after_all (ps ++ qs) vs ws ≡ after_all qs vs (after_all ps vs ws)
after_all_append [] qs vs ws = refl
after_all_append (p ∷ ps) qs vs ws = after_all_append ps qs vs (after_write p vs ws)

-- one write changes its own array
abbrev written : Bool → List ℕ → ℕ → ℕ → List ℕ
written b xs a v = if b then set xs a v else xs

one_set : (b : Bool) (ws : List (List ℕ)) (m a v : ℕ)
    → (if b then set ws m (set (get_or ws m []) a v) else ws) ≡ set ws m (written b (get_or ws m []) a v)
one_set true ws m a v = refl
one_set false ws m a v = sym (set-get_or ws m [])

-- what the first of two writes of an array put there is written over
set_again : (ws : List (List ℕ)) (m : ℕ) (x y : List ℕ) → m < length ws → set (set ws m x) m y ≡ set ws m y
set_again ws m x y h =
    ext_get_or [] (set (set ws m x) m y) (set ws m y) (length-set (set ws m x) m y ∙ length-set ws m x ∙ sym (length-set ws m y)) (λ i l. ⊎_elim
    (λ (e : i ≡ m). ap (λ j. get_or (set (set ws m x) m y) j []) e
    ∙ get_or-set_same (set ws m x) m y [] (omega (arith, h, length-set ws m x))
    ∙ sym (ap (λ j. get_or (set ws m y) j []) e ∙ get_or-set_same ws m y [] h))
    (λ (ne : i ≢ m). get_or-set_other (set ws m x) m i y [] ne ∙ get_or-set_other ws m i x [] ne ∙ sym (get_or-set_other ws m i y [] ne))
    (cases_eq i m))

module _ (c : Circuit) (s : State) (w : IsWell c) (t : Suits c s) (places vs : List ℕ)
    (v : HasValues c places s vs (length vs)) (all : AllEarly c places (length vs))
    (few : first_place c ≤ length vs) where
  value_of : (x : Net) → IsThere c x → slice_index vs (place c places x) ≡ net_value c s x
  unfolding IsThere
  value_of x h = v.each x (all_placed c places (length vs) all few x h)

  below : (x : Net) → IsThere c x → place c places x < length vs
  unfolding IsThere
  below x h = (all_placed c places (length vs) all few x h).early

  -- a planned write does what its port says
  one_planned : (a : Array) (m : ℕ) (p : WritePort) → IsWellWrite c a p → (ws : List (List ℕ))
      → after_write (planned_write c places m p) vs ws
      ≡ set ws m (written (net_value c s p.enable == 1) (get_or ws m []) (net_value c s p.addr) (net_value c s p.value))
  one_planned a m p h ws =
      one_set (slice_index vs (place c places p.enable) == 1) ws m (slice_index vs (place c places p.addr)) (slice_index vs (place c places p.value))
      ∙ ap (λ x. set ws m (written (x == 1) (get_or ws m []) (slice_index vs (place c places p.addr)) (slice_index vs (place c places p.value))))
      (value_of p.enable h.enable)
      ∙ ap (λ x. set ws m (written (net_value c s p.enable == 1) (get_or ws m []) x (slice_index vs (place c places p.value)))) (value_of p.addr h.addr)
      ∙ ap (λ x. set ws m (written (net_value c s p.enable == 1) (get_or ws m []) (net_value c s p.addr) x)) (value_of p.value h.value)

  -- those of one array
  array_planned : (a : Array) (m : ℕ) (ps : List WritePort)
      → ((k : ℕ) (p : WritePort) → slice_get ps k ≡ Some p → IsWellWrite c a p) → (ws : List (List ℕ)) → m < length ws
      → after_all (map (planned_write c places m) ps) vs ws ≡ set ws m (after_writes c s ps (get_or ws m []))
  array_planned a m [] f ws h = sym (set-get_or ws m [])
  array_planned a m (p ∷ ps) f ws h =
      let new = written (net_value c s p.enable == 1) (get_or ws m []) (net_value c s p.addr) (net_value c s p.value) in
      ap (after_all (map (planned_write c places m) ps) vs) (one_planned a m p (f zero p refl) ws)
      ∙ array_planned a m ps (λ k q e. f (suc k) q e) (set ws m new) (omega (arith, h, length-set ws m new))
      ∙ set_again ws m new _ h
      ∙ ap (λ x. set ws m (after_writes c s ps x)) (get_or-set_same ws m new [] h)

  -- those of all arrays from the k-th on
  arrays_planned : (ms : List Array) (k : ℕ) → ((j : ℕ) → j < length ms → IsWellArray c (get_or ms j no_array))
      → (ws : List (List ℕ)) → length ws ≡ k + length ms → ((j : ℕ) → k ≤ j → get_or ws j [] ≡ get_or s.arrays j [])
      → after_all (writes_from c places k ms) vs ws ≡ take k ws ++ arrays_from c s ms k
  arrays_planned [] k f ws l h = sym (ap (λ x. x ++ []) (take_all k ws (omega (arith, l))) ∙ append-nil ws)
  arrays_planned (a ∷ ms) k f ws l h =
      let at : k < length ws = omega (arith, l) in
      let new = after_writes c s a.writes (get_or ws k []) in
      after_all_append (map (planned_write c places k) a.writes) (writes_from c places (suc k) ms) vs ws
      ∙ ap (after_all (writes_from c places (suc k) ms) vs) (array_planned a k a.writes ((f zero (omega arith)).writes) ws at)
      ∙ arrays_planned ms (suc k) (λ j i. f (suc j) (omega arith)) (set ws k new)
      (omega (arith, l, length-set ws k new))
      (λ j i. get_or-set_other ws k j new [] (λ e. absurd (omega (arith, e))) ∙ h j (omega arith))
      ∙ ap (λ x. x ++ arrays_from c s ms (suc k)) (take-set_at ws k (suc k) new (omega arith) at)
      ∙ append_assoc (take k ws) (new ∷ []) (arrays_from c s ms (suc k))
      ∙ ap (λ x. take k ws ++ after_writes c s a.writes x ∷ arrays_from c s ms (suc k)) (h k (omega arith))

  -- the planned writes, done one after another, leave the arrays of the next cycle
  pub arrays_written : after_all (planned_writes c places) vs s.arrays ≡ next_arrays c s
  unfolding next_arrays
  arrays_written = arrays_planned c.arrays 0 (λ j h. w.arrays j h) s.arrays (omega (arith, t.array_count)) (λ j h. refl)

  -- each planned write fits
  write_fits : (a : Array) (m : ℕ) (p : WritePort) → IsWellWrite c a p → m < length c.arrays
      → a.depth ≡ (array_at c m).depth → WriteFits (planned_write c places m p) vs s.arrays
  write_fits a m p h l e =
      let b = bounded c s w t p.addr h.addr in
      let d = t.depth m l in
      let x = value_of p.addr h.addr in
      record {
        enable = below p.enable h.enable;
        addr = below p.addr h.addr;
        value = below p.value h.value;
        array = omega (arith, l, t.array_count);
        within = omega (arith, x, h.reach, b.fits, d, e);
      }

  port_fits : (a : Array) (m : ℕ) (ps : List WritePort)
      → ((k : ℕ) (p : WritePort) → slice_get ps k ≡ Some p → IsWellWrite c a p) → m < length c.arrays
      → a.depth ≡ (array_at c m).depth → All (λ p. WriteFits p vs s.arrays) (map (planned_write c places m) ps)
  port_fits a m [] f l e k d h = absurd (omega arith)
  port_fits a m (p ∷ ps) f l e zero d h = write_fits a m p (f zero p refl) l e
  port_fits a m (p ∷ ps) f l e (suc k) d h = port_fits a m ps (λ j q i. f (suc j) q i) l e k d (omega arith)

  all_fit : (ms : List Array) (k : ℕ) → ((j : ℕ) → j < length ms → IsWellArray c (get_or ms j no_array))
      → ((j : ℕ) → j < length ms → (k + j < length c.arrays) × ((get_or ms j no_array).depth ≡ (array_at c (k + j)).depth))
      → All (λ p. WriteFits p vs s.arrays) (writes_from c places k ms)
  all_fit [] k f g = λ i d h. absurd (omega arith)
  all_fit (a ∷ ms) k f g =
      let z : k + 0 ≡ k = omega arith in
      let here = g 0 (omega arith) in
      All-append (λ p. WriteFits p vs s.arrays) (map (planned_write c places k) a.writes) (writes_from c places (suc k) ms)
      (port_fits a k a.writes ((f zero (omega arith)).writes) (omega (arith, here.0)) (here.1 ∙ ap (λ j. (array_at c j).depth) z))
      (all_fit ms (suc k) (λ j i. f (suc j) (omega arith))
      (λ j i. let e : k + suc j ≡ suc k + j = omega arith in let r = g (suc j) (omega arith) in
      (omega (arith, r.0), r.1 ∙ ap (λ n. (array_at c n).depth) e)))

  -- each planned write has places that are there, and an address within its array
  pub writes_fit : All (λ p. WriteFits p vs s.arrays) (planned_writes c places)
  writes_fit = all_fit c.arrays 0 (λ j h. w.arrays j h) (λ j h. let e : 0 + j ≡ j = omega arith in (omega arith, ap (λ n. (array_at c n).depth) (sym e)))
