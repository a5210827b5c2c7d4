-- Registers and arrays stay within their widths.
use Rattle.std.proofs.Common.{◌≡◌, ◌≢◌, ℕ, zero, suc, ◌^◌, ◌+◌, ◌<◌, ◌≤◌, List, [], ◌∷◌, length, get_or, set, refl, ap, ◌∙◌, subst, arith, ⊎_elim, Bool, true, false, Some}
use Rattle.std.specs.Prelude.{slice_get, ◌==◌, if◌then◌else◌}
use Rattle.std.proofs.lemmas.List.{get_or-set_same, get_or-set_other, length-set, length-map, get_or-map, get_or_past}
use Rattle.std.proofs.lemmas.Bool.{cases_lt, cases_eq}
use Rattle.pdl_net.specs.declared.Reg.{Reg}
use Rattle.pdl_net.specs.declared.WritePort.{WritePort}
use Rattle.pdl_net.specs.Circuit.{Circuit, State, array_at, reg_at, no_reg, no_array}
use Rattle.pdl_net.specs.Cycle.{net_value, after_writes, next_arrays, next_regs, arrays_from}
use Rattle.pdl_net.specs.Well.{IsWell, IsWellWrite, Suits}
use Rattle.pdl_net.specs.declared.Array.{Array}
use Rattle.pdl_net.proofs.Bounds.{bounded}
use Rattle.pdl_net.specs.Holds.{Holds}

-- the j-th of the arrays from k on has its words after the writes of its ports
pub arrays_at : (c : Circuit) (s : State) (ms : List Array) (k j : ℕ)
    → j < length ms
    → get_or (arrays_from c s ms k) j [] ≡ after_writes c s (get_or ms j no_array).writes (get_or s.arrays (k + j) [])
arrays_at c s [] k j h = absurd (omega arith)
arrays_at c s (m ∷ ms) k zero h =
    let e : k ≡ k + 0 = omega arith in
    ap (λ i. after_writes c s m.writes (get_or s.arrays i [])) e
arrays_at c s (m ∷ ms) k (suc j) h =
    let e : suc k + j ≡ k + suc j = omega arith in
    arrays_at c s ms (suc k) j (omega arith) ∙ ap (λ i. after_writes c s (get_or ms j no_array).writes (get_or s.arrays i [])) e

arrays_length : (c : Circuit) (s : State) (ms : List Array) (k : ℕ) → length (arrays_from c s ms k) ≡ length ms
arrays_length c s [] k = refl
arrays_length c s (m ∷ ms) k = let e = arrays_length c s ms (suc k) in omega (arith, e)

-- a word after a write
set_below : (xs : List ℕ) (i v n : ℕ) → v < n → ((a : ℕ) → get_or xs a 0 < n) → (a : ℕ) → get_or (set xs i v) a 0 < n
set_below xs i v n h f a = ⊎_elim
    (λ (e : a ≡ i). ⊎_elim
    (λ (lt : i < length xs). let s = get_or-set_same xs i v 0 lt in let g = ap (λ j. get_or (set xs i v) j 0) e in omega (arith, s, g, h))
    (λ (ge : length xs ≤ i). let s = get_or_past (set xs i v) a 0 (omega (arith, length-set xs i v)) in omega (arith, s, h))
    (cases_lt i (length xs)))
    (λ (ne : a ≢ i). let s = get_or-set_other xs i a v 0 ne in omega (arith, s, f a))
    (cases_eq a i)

-- one write keeps the number of words
written_length : (t : Bool) (xs : List ℕ) (i v : ℕ) → length (if t then set xs i v else xs) ≡ length xs
written_length true xs i v = length-set xs i v
written_length false xs i v = refl

written_below : (t : Bool) (xs : List ℕ) (i v n : ℕ)
    → v < n → ((a : ℕ) → get_or xs a 0 < n) → (a : ℕ) → get_or (if t then set xs i v else xs) a 0 < n
written_below true xs i v n h f a = set_below xs i v n h f a
written_below false xs i v n h f a = f a

length-after_writes : (c : Circuit) (s : State) (ps : List WritePort) (xs : List ℕ) → length (after_writes c s ps xs) ≡ length xs
length-after_writes c s [] xs = refl
length-after_writes c s (p ∷ ps) xs =
    length-after_writes c s ps _ ∙ written_length (net_value c s p.enable == 1) xs (net_value c s p.addr) (net_value c s p.value)

after_writes_below : (c : Circuit) (s : State) (m : Array) → IsWell c → Suits c s → (ps : List WritePort)
    → ((k : ℕ) (p : WritePort) → slice_get ps k ≡ Some p → IsWellWrite c m p) → (xs : List ℕ)
    → ((a : ℕ) → get_or xs a 0 < 2 ^ m.width) → (a : ℕ) → get_or (after_writes c s ps xs) a 0 < 2 ^ m.width
after_writes_below c s m w t [] f xs h a = h a
after_writes_below c s m w t (p ∷ ps) f xs h a =
    let g = f zero p refl in
    let b = bounded c s w t p.value g.value in
    let P : ℕ → Type 0 = λ n. net_value c s p.value < 2 ^ n in
    after_writes_below c s m w t ps (λ k q i. f (suc k) q i) _
    (written_below (net_value c s p.enable == 1) xs (net_value c s p.addr) (net_value c s p.value) (2 ^ m.width) (subst P g.width b.fits) h) a

array_after : (c : Circuit) (s : State) (m : ℕ)
    → m < length c.arrays
    → get_or (next_arrays c s) m [] ≡ after_writes c s (array_at c m).writes (get_or s.arrays m [])
unfolding next_arrays
array_after c s m h =
    let e : 0 + m ≡ m = omega arith in
    arrays_at c s c.arrays 0 m h ∙ ap (λ j. after_writes c s (array_at c m).writes (get_or s.arrays j [])) e

-- what the registers and arrays take next fits
pub next_holds : (c : Circuit) (s : State) → IsWell c → Suits c s → Holds c (next_regs c s) (next_arrays c s)
unfolding next_regs next_arrays
next_holds c s w t = record {
  reg_count = simp length-map;
  each = λ r h.
      let g = w.regs r h in
      let b = bounded c s w t (reg_at c r).next g.next in
      let v = get_or-map (λ (x : Reg). net_value c s x.next) c.regs r no_reg 0 h in
      let P : ℕ → Type 0 = λ n. net_value c s (reg_at c r).next < 2 ^ n in
      let l : net_value c s (reg_at c r).next < 2 ^ (reg_at c r).width = subst P g.width b.fits in
      omega (arith, v, l);
  array_count = arrays_length c s c.arrays 0;
  depth = λ m h. ap length (array_after c s m h) ∙ length-after_writes c s (array_at c m).writes (get_or s.arrays m []) ∙ t.depth m h;
  words = λ m h a.
      let e = ap (λ xs. get_or xs a 0) (array_after c s m h) in
      let l = after_writes_below c s (array_at c m) w t (array_at c m).writes ((w.arrays m h).writes) (get_or s.arrays m []) (t.words m h) a in
      omega (arith, e, l);
}
