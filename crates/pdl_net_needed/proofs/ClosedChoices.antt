-- A choice that keeps what is needed keeps what each kept net takes its value from.
use Rattle.std.proofs.Common.{◌≡◌, ℕ, ◌<◌, List, [], ◌∷◌, length, get_or, flat_map, Some, arith}
use Rattle.std.specs.Prelude.{Contains, slice_get}
use Rattle.std.proofs.lemmas.List.Elements.{Contains-get_or}
use Rattle.pdl_word.specs.Each.{Each}
use Rattle.pdl_word.proofs.Each.{each_from_all, each_front, each_back, each_got, each_get}
use Rattle.pdl_net.specs.declared.Net.{Net}
use Rattle.pdl_net.specs.declared.Net.TheVariants.{Input, Reg as RegNet, Cell as CellNet}
use Rattle.pdl_net.specs.declared.Port.{Port}
use Rattle.pdl_net.specs.declared.WritePort.{WritePort}
use Rattle.pdl_net.specs.Circuit.{Circuit, array_at, no_array}
use Rattle.pdl_net_needed.specs.Needed.{shown_by, read_by, written_from, used_outside, sources, Choice, IsKept, KeepsNeeded}
use Rattle.pdl_net_needed.specs.Needed.IsNeeded.{outside, inside}

-- a choice has a mark for each register and cell, keeps what is used outside, and keeps the sources of each net that it keeps
pub record IsClosed (c : Circuit) (k : Choice) : Type 0 where
  pub reg_count : length k.regs ≡ length c.regs
  pub cell_count : length k.cells ≡ length c.cells
  pub ends : Each (IsKept k) (used_outside c)
  pub reads : (x : Net) → IsKept k x → Each (IsKept k) (sources c x)

-- what holds of all that a list contains holds of each of its elements
pub contained : {A : Type 0} (P : A → Type 0) (xs : List A) → ((x : A) → Contains xs x → P x) → Each P xs
contained P xs h = each_from_all P xs (λ i d l. h (get_or xs i d) (Contains-get_or xs i d l))

-- a choice that keeps what is needed is closed: it keeps what is used outside, and the sources of each kept net
pub closed : (c : Circuit) (k : Choice) → KeepsNeeded c k → IsClosed c k
closed c k h = record {
  reg_count = h.reg_count;
  cell_count = h.cell_count;
  ends = contained (IsKept k) (used_outside c) (λ x m. h.needed x (outside m));
  reads = λ x kept. contained (IsKept k) (sources c x) (from x kept);
}
  where
    from : (x : Net) → IsKept k x → (y : Net) → Contains (sources c x) y → IsKept k y
    from (Input i) kept y m = absurd (omega (arith, m.1))
    from (RegNet r) kept y m = h.needed y (inside (h.regs r kept) m)
    from (CellNet j) kept y m = h.needed y (inside (h.cells j kept) m)

-- what holds of each element of joined lists holds of each element of each of them
pub each_unflat : {A B : Type 0} (P : B → Type 0) (f : A → List B) (xs : List A) → Each P (flat_map f xs) → Each (λ x. Each P (f x)) xs
each_unflat P f [] h = tt
each_unflat P f (x ∷ xs) h = (each_front P (f x) (flat_map f xs) h, each_unflat P f xs (each_back P (f x) (flat_map f xs) h))

-- the nets that a port shows are kept
pub port_kept : (c : Circuit) (k : Choice) → IsClosed c k → (i : ℕ) (p : Port)
    → slice_get c.ports i ≡ Some p → Each (IsKept k) (shown_by p.dir)
port_kept c k h i p e =
    let f = λ (q : Port). shown_by q.dir in
    each_got (λ q. Each (IsKept k) (f q)) c.ports i p
    (each_unflat (IsKept k) f c.ports (each_front (IsKept k) (flat_map f c.ports) (flat_map written_from c.arrays) h.ends)) e

-- the nets that a write port of an array reads are kept
pub write_kept : (c : Circuit) (k : Choice) → IsClosed c k → (m : ℕ)
    → m < length c.arrays → (i : ℕ) (p : WritePort) → slice_get (array_at c m).writes i ≡ Some p
    → Each (IsKept k) (read_by p)
write_kept c k h m l i p e =
    let f = λ (q : Port). shown_by q.dir in
    let all = each_unflat (IsKept k) written_from c.arrays (each_back (IsKept k) (flat_map f c.ports) (flat_map written_from c.arrays) h.ends) in
    let here = each_get (λ a. Each (IsKept k) (written_from a)) c.arrays m no_array l all in
    each_got (λ q. Each (IsKept k) (read_by q)) (array_at c m).writes i p (each_unflat (IsKept k) read_by (array_at c m).writes here) e
