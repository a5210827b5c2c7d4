-- A pruned netlist is well formed.
use Rattle.std.proofs.Common.{◌≡◌, ℕ, zero, suc, ◌<◌, ◌^◌, ◌⊎◌, ◌≢◌, find, List, [], ◌∷◌, ◌++◌, length, map, get_or, All, Some, refl, sym, ap, ◌∙◌, subst, arith, bytes_eq}
use Rattle.std.specs.Prelude.{slice_get, AllPairs, Contains}
use Rattle.std.proofs.lemmas.List.{length-map}
use Rattle.std.proofs.lemmas.List.Elements.{All-map}
use Rattle.pdl_word.specs.Each.{Each}
use Rattle.pdl_net.specs.declared.Net.TheVariants.{Reg as RegNet}
use Rattle.pdl_net.specs.declared.Dir.{Dir}
use Rattle.pdl_net.specs.declared.Dir.TheVariants.{In, Out}
use Rattle.pdl_net.specs.declared.Port.{Port}
use Rattle.pdl_net.specs.declared.WritePort.{WritePort}
use Rattle.pdl_net.specs.declared.Array.{Array}
use Rattle.pdl_net.specs.declared.Netlist.{Netlist}
use Rattle.pdl_net.specs.Circuit.{circuit_of, array_at, reg_at, shape_of, shapes_of}
use Rattle.pdl_net.specs.Well.{IsDriven, IsWellPort, IsWellReg, IsWellWrite, IsWellArray, IsWell}
use Rattle.pdl_net.specs.Pipe.{head_of, is_input, PortMem, IsPipeArray, comb_info, delayed_info, IsPipe, IsWellFormed}
use Rattle.pdl_net_needed.specs.Needed.{shown_by, read_by, Choice, IsKept}
use Rattle.pdl_net_needed.specs.Pruned.{kept_of, moved_dir, moved_port, moved_reg, moved_write, moved_array, pruned, HasSameFrame}
use Rattle.pdl_net_needed.proofs.Counts.{kept_length, within_marks, kept_from}
use Rattle.pdl_net_needed.proofs.ClosedChoices.{IsClosed, port_kept, write_kept}
use Rattle.pdl_net_needed.proofs.PrunedParts.{after, reg_moved, array_moved, cells_fit, width_same, there_same}

-- what is at a place of a list that was mapped
record IsFrom {A B : Type 0} (f : A → B) (xs : List A) (i : ℕ) (y : B) : Type 0 where
  old : A
  here : slice_get xs i ≡ Some old
  same : f old ≡ y

mapped_at : {A B : Type 0} (f : A → B) (xs : List A) (i : ℕ) (y : B) → slice_get (map f xs) i ≡ Some y → IsFrom f xs i y
mapped_at f [] i y e = absurd (cc e)
mapped_at f (x ∷ xs) zero y e = record { old = x; here = refl; same = cc }
mapped_at f (x ∷ xs) (suc i) y e = let r = mapped_at f xs i y e in record { old = r.old; here = r.here; same = r.same }

driven_moved : (k : Choice) (n : Netlist) → IsClosed (circuit_of n) k → IsWell (circuit_of n) → (w : ℕ) (d : Dir)
    → Each (IsKept k) (shown_by d) → IsDriven (circuit_of n) w d → IsDriven (after k n) w (moved_dir k d)
driven_moved k n h f w In kept d = tt
driven_moved k n h f w (Out x) kept d = (there_same k n h f.cells x d.0 kept.0, width_same k n h f.cells x d.0 kept.0 ∙ d.1)

port_well : (k : Choice) (n : Netlist) → IsClosed (circuit_of n) k → IsWell (circuit_of n) → (i : ℕ) (q : Port)
    → slice_get (after k n).ports i ≡ Some q → IsWellPort (after k n) q
port_well k n h f i q e =
    let r = mapped_at (moved_port k) n.ports i q e in
    let w = f.ports i r.old r.here in
    subst (IsWellPort (after k n)) r.same
    (record { low = w.low; high = w.high; driven = driven_moved k n h f r.old.width r.old.dir (port_kept (circuit_of n) k h i r.old r.here) w.driven })

reg_well : (k : Choice) (n : Netlist) → IsClosed (circuit_of n) k → IsWell (circuit_of n) → (r : ℕ)
    → r < length (after k n).regs → IsWellReg (after k n) (reg_at (after k n) r)
reg_well k n h f r l =
    let a = length-map (kept_of k.regs n.regs) (moved_reg k) in
    let b = kept_length k.regs n.regs h.reg_count in
    let p = kept_from k.regs r (omega arith) in
    let old = reg_at (circuit_of n) p.old in
    let o : p.old < length n.regs = let i = within_marks k.regs p.old p.kept in omega (arith, i, h.reg_count) in
    let w = f.regs p.old o in
    let next = (h.reads (RegNet p.old) p.kept).0 in
    let P : ℕ → Type 0 = λ i. IsWellReg (after k n) (reg_at (after k n) i) in
    subst P p.here (subst (IsWellReg (after k n)) (sym (reg_moved k n h p.old p.kept)) (record {
      low = w.low;
      high = w.high;
      reset = w.reset;
      next = there_same k n h f.cells old.next w.next next;
      width = width_same k n h f.cells old.next w.next next ∙ w.width;
    }))

write_well : (k : Choice) (n : Netlist) → IsClosed (circuit_of n) k → IsWell (circuit_of n)
    → (a : Array) (p : WritePort) → Each (IsKept k) (read_by p) → IsWellWrite (circuit_of n) a p
    → IsWellWrite (after k n) (moved_array k a) (moved_write k p)
write_well k n h f a p kept w = record {
  enable = there_same k n h f.cells p.enable w.enable kept.0;
  addr = there_same k n h f.cells p.addr w.addr kept.1.0;
  value = there_same k n h f.cells p.value w.value kept.1.1.0;
  one = width_same k n h f.cells p.enable w.enable kept.0 ∙ w.one;
  reach = ap (λ b. 2 ^ b) (width_same k n h f.cells p.addr w.addr kept.1.0) ∙ w.reach;
  width = width_same k n h f.cells p.value w.value kept.1.1.0 ∙ w.width;
}

array_well : (k : Choice) (n : Netlist) → IsClosed (circuit_of n) k → IsWell (circuit_of n) → (m : ℕ)
    → m < length (after k n).arrays → IsWellArray (after k n) (array_at (after k n) m)
array_well k n h f m l =
    let o : m < length n.arrays = omega (arith, length-map n.arrays (moved_array k), l) in
    let a = array_at (circuit_of n) m in
    let w = f.arrays m o in
    subst (IsWellArray (after k n)) (sym (array_moved k n m o)) (record {
      low = w.low;
      high = w.high;
      depth = w.depth;
      writes = λ i q e.
          let r = mapped_at (moved_write k) a.writes i q e in
          subst (IsWellWrite (after k n) (moved_array k a)) r.same
          (write_well k n h f a r.old (write_kept (circuit_of n) k h m o i r.old r.here) (w.writes i r.old r.here));
    })

-- the circuit of a netlist pruned by a closed choice is well formed where that of the whole is
pub well : (k : Choice) (n : Netlist) → IsClosed (circuit_of n) k → IsWell (circuit_of n) → IsWell (after k n)
well k n h f = record {
  ports = port_well k n h f;
  cells = cells_fit k n h f.cells;
  regs = reg_well k n h f;
  arrays = array_well k n h f;
}

-- names, widths, directions and depths stay
heads_same : (k : Choice) (ps : List Port) → map head_of (map (moved_port k) ps) ≡ map head_of ps
heads_same k [] = refl
heads_same k (p ∷ ps) = cc (input p.dir, heads_same k ps)
  where
    input : (d : Dir) → is_input (moved_dir k d) ≡ is_input d
    input In = refl
    input (Out x) = refl

shapes_same : (k : Choice) (ms : List Array) → map shape_of (map (moved_array k) ms) ≡ map shape_of ms
shapes_same k [] = refl
shapes_same k (a ∷ ms) = ap (λ ss. shape_of a ∷ ss) (shapes_same k ms)

-- a pruned netlist has the name, ports, array shapes and memories of the netlist
pub frame : (k : Choice) (n : Netlist) → HasSameFrame n (pruned k n)
unfolding shapes_of
frame k n = record { name = refl; ports = heads_same k n.ports; arrays = shapes_same k n.arrays; mems = refl }

names_same : (k : Choice) (ps : List Port) → map (λ p. p.name) (map (moved_port k) ps) ≡ map (λ p. p.name) ps
names_same k [] = refl
names_same k (p ∷ ps) = ap (λ ns. p.name ∷ ns) (names_same k ps)

array_names_same : (k : Choice) (ms : List Array) → map (λ a. a.name) (map (moved_array k) ms) ≡ map (λ a. a.name) ms
array_names_same k [] = refl
array_names_same k (a ∷ ms) = ap (λ ns. a.name ∷ ns) (array_names_same k ms)

mems_same : (k : Choice) (locked : List PortMem) (ms : List Array)
    → map (λ a. comb_info a (find (λ m. bytes_eq m.name a.name) locked)) (map (moved_array k) ms)
    ≡ map (λ a. comb_info a (find (λ m. bytes_eq m.name a.name) locked)) ms
mems_same k locked [] = refl
mems_same k locked (a ∷ ms) = ap (λ xs. comb_info a (find (λ m. bytes_eq m.name a.name) locked) ∷ xs) (mems_same k locked ms)

pipe : (k : Choice) (n : Netlist) → IsPipe n → IsPipe (pruned k n)
pipe k n p = record {
  stages = p.stages;
  delayed = p.delayed;
  locked = p.locked;
  few = p.few;
  many = p.many;
  ports = heads_same k n.ports ∙ p.ports;
  delayed_addresses = p.delayed_addresses;
  locked_addresses = p.locked_addresses;
  agree = p.agree;
  arrays = All-map (IsPipeArray p.delayed p.locked) (moved_array k) n.arrays (λ i d l. array d i l);
  kept = subst (λ ns. All (λ m. Contains (map (λ d. d.name) p.delayed) m.name ⊎ Contains ns m.name) p.locked) (sym (array_names_same k n.arrays)) p.kept;
  mems = p.mems ∙ ap (λ xs. map delayed_info p.delayed ++ xs) (sym (mems_same k p.locked n.arrays));
  count = p.count;
}
  where
    array : (d : Array) (i : ℕ) → i < length n.arrays → IsPipeArray p.delayed p.locked (moved_array k (get_or n.arrays i d))
    array d i l = let a = p.arrays i d l in record {
      inside = a.inside;
      width = a.width;
      depth = a.depth;
      unlocked = a.unlocked;
    }

-- a netlist pruned by a closed choice is well formed where the whole is
pub well_formed : (k : Choice) (n : Netlist) → IsClosed (circuit_of n) k → IsWellFormed n → IsWellFormed (pruned k n)
well_formed k n h w = record {
  well = well k n h w.well;
  port_names = subst (AllPairs (λ a b. a ≢ b)) (sym (names_same k n.ports)) w.port_names;
  array_names = subst (AllPairs (λ a b. a ≢ b)) (sym (array_names_same k n.arrays)) w.array_names;
  pipe = pipe k n w.pipe;
}
