-- The netlist of the tests breaks no rule.
use Rattle.std.proofs.Common.{◌≡◌, ◌≢◌, ◌⊎◌, inl, inr, ℕ, zero, suc, ◌*◌, ◌^◌, ◌<◌, Bool, true, ◌&&◌, not, List, [], ◌∷◌, ◌++◌, length, get_or, map, All, AllPairs, Some, codes, bytes_eq, refl, sym, ap, subst, arith, lit<, lit≤}
use Rattle.std.specs.Prelude.{slice_get}
use Rattle.std.specs.List.{list_all}
use Rattle.std.proofs.lemmas.Slice.Eq.{bytes_eq-Decides}
use Rattle.std.specs.Fmt.{digits}
use Rattle.std.proofs.lemmas.Bool.{and_parts}
use Rattle.pdl_net.specs.declared.Net.TheVariants.{Reg as RegNet, Cell as CellNet}
use Rattle.pdl_net.specs.declared.Netlist.{Netlist}
use Rattle.pdl_net.specs.Run.{delayed_mems}
use Rattle.pdl_netrun.specs.Sample.{out, memory, odd_write, later_write, commits, ends, sample}
use Rattle.pdl_net.specs.Circuit.{Circuit, circuit_of, outputs_of, reg_at, array_at}
use Rattle.pdl_net.specs.Meaning.{signal, signals, IsThere}
use Rattle.pdl_net.specs.Well.{IsWellPort, IsWellReg, IsWellArray, IsWellWrite, CellsFit, CellsWell}
use Rattle.pdl_net.proofs.Widths.{cells_well}
use Rattle.pdl_net.specs.Pipe.{PortMem, IsAddress, IsPipeArray, IsKept, IsPipe, IsWellFormed}

abbrev circuit : Circuit
circuit = circuit_of sample

-- what holds of each element of a list, element by element
abbrev Each : {X : Type 0} → (X → Type 0) → List X → Type 0
Each P [] = Unit {0}
Each P (x ∷ xs) = P x × Each P xs

each_got : {X : Type 0} (P : X → Type 0) (xs : List X) → Each P xs → (i : ℕ) (x : X) → slice_get xs i ≡ Some x → P x
each_got P [] h i x e = cc e
each_got P (y ∷ ys) h zero x e = let s : y ≡ x = cc e in subst P s h.0
each_got P (y ∷ ys) h (suc i) x e = each_got P ys h.1 i x e

each_joined : {X : Type 0} (P : X → Type 0) (xs ys : List X) → Each P xs → Each P ys → Each P (xs ++ ys)
each_joined P [] ys h k = k
each_joined P (x ∷ xs) ys h k = (h.0, each_joined P xs ys h.1 k)

-- names that differ, by a test
abbrev differ_all : List (List ℕ) → Bool
differ_all [] = true
differ_all (x ∷ xs) = list_all (λ y. not (bytes_eq x y)) xs && differ_all xs

apart : (x y : List ℕ) → not (bytes_eq x y) ≡ true → x ≢ y
apart x y h e = let t = (bytes_eq-Decides x y).1 e in absurd (cc (h, t))

apart_all : (x : List ℕ) (xs : List (List ℕ))
    → list_all (λ y. not (bytes_eq x y)) xs ≡ true → (j : ℕ) (d : List ℕ) → j < length xs → x ≢ get_or xs j d
apart_all x [] h j d l = absurd (omega arith)
apart_all x (y ∷ ys) h zero d l = apart x y (and_parts (not (bytes_eq x y)) (list_all (λ z. not (bytes_eq x z)) ys) h).0
apart_all x (y ∷ ys) h (suc j) d l = apart_all x ys (and_parts (not (bytes_eq x y)) (list_all (λ z. not (bytes_eq x z)) ys) h).1 j d (omega arith)

differing : (xs : List (List ℕ)) → differ_all xs ≡ true → AllPairs (λ a b. a ≢ b) xs
differing [] h i j d l m = absurd (omega arith)
differing (x ∷ xs) h zero zero d l m = absurd (omega arith)
differing (x ∷ xs) h zero (suc j) d l m = apart_all x xs (and_parts (list_all (λ y. not (bytes_eq x y)) xs) (differ_all xs) h).0 j d (omega arith)
differing (x ∷ xs) h (suc i) zero d l m = absurd (omega arith)
differing (x ∷ xs) h (suc i) (suc j) d l m =
    differing xs (and_parts (list_all (λ y. not (bytes_eq x y)) xs) (differ_all xs) h).1 i j d (omega arith) (omega arith)

cells_fit : CellsFit circuit
cells_fit = (
  (lit≤ tt, lit≤ tt, lit< tt),
  (
    (lit≤ tt, lit≤ tt, lit< tt),
    (
      (lit< tt, lit< tt, refl),
      (
        (lit< tt, lit≤ tt, lit< tt),
        (
          (lit≤ tt, lit≤ tt, lit< tt),
          (
            (lit< tt, lit≤ tt, lit< tt),
            ((lit< tt, lit< tt, refl), ((lit< tt, lit< tt, refl), ((lit< tt, lit< tt, refl), ((lit< tt, lit< tt, refl), tt)))),
          ),
        ),
      ),
    ),
  ),
)

write_well : IsWellWrite circuit memory odd_write
unfolding signal signals IsThere
write_well = record { enable = lit< tt; addr = lit< tt; value = lit< tt; one = refl; reach = refl; width = refl }

later_well : IsWellWrite circuit memory later_write
unfolding signal signals IsThere
later_well = record { enable = lit< tt; addr = lit< tt; value = lit< tt; one = refl; reach = refl; width = refl }

array_well : IsWellArray circuit memory
array_well = record {
  low = lit≤ tt;
  high = lit≤ tt;
  depth = record { bits = 1; low = lit≤ tt; high = lit≤ tt; power = refl };
  writes = each_got (IsWellWrite circuit memory) memory.writes (write_well, (later_well, tt));
}

commits_well : Each (IsWellPort circuit) commits
unfolding signal signals IsThere
commits_well = (record { low = lit≤ tt; high = lit≤ tt; driven = (lit< tt, refl) }, (record { low = lit≤ tt; high = lit≤ tt; driven = (lit< tt, refl) }, (record { low = lit≤ tt; high = lit≤ tt; driven = (lit< tt, refl) }, (record { low = lit≤ tt; high = lit≤ tt; driven = (lit< tt, refl) }, (record { low = lit≤ tt; high = lit≤ tt; driven = (lit< tt, refl) }, (record { low = lit≤ tt; high = lit≤ tt; driven = (lit< tt, refl) }, tt))))))

ends_well : Each (IsWellPort circuit) ends
unfolding signal signals IsThere
ends_well = (record { low = lit≤ tt; high = lit≤ tt; driven = (lit< tt, refl) }, (record { low = lit≤ tt; high = lit≤ tt; driven = (lit< tt, refl) }, tt))

ports_well : Each (IsWellPort circuit) circuit.ports
unfolding signal signals IsThere
ports_well = (
  record { low = lit≤ tt; high = lit≤ tt; driven = (lit< tt, refl) },
  (record { low = lit≤ tt; high = lit≤ tt; driven = (lit< tt, refl) }, each_joined (IsWellPort circuit) commits ends commits_well ends_well),
)

reg_well : (r : ℕ) → r < length circuit.regs → IsWellReg circuit (reg_at circuit r)
unfolding signal signals IsThere
reg_well zero h = record { low = lit≤ tt; high = lit≤ tt; reset = lit< tt; next = lit< tt; width = refl }
reg_well (suc r) h = absurd (omega arith)

arrays_well : (m : ℕ) → m < length circuit.arrays → IsWellArray circuit (array_at circuit m)
arrays_well zero h = array_well
arrays_well (suc m) h = absurd (omega arith)

abbrev locked : PortMem
locked = record { name = codes "m"; width = 4; bits = 1; twice = true }

each_all : {X : Type 0} (P : X → Type 0) (xs : List X) → Each P xs → All P xs
each_all P [] h k d l = absurd (omega arith)
each_all P (x ∷ xs) h zero d l = h.0
each_all P (x ∷ xs) h (suc k) d l = each_all P xs h.1 k d (omega arith)

array_of_pipe : IsPipeArray [] (locked ∷ []) memory
array_of_pipe = record {
  inside = λ k d l. absurd (omega arith);
  width = each_all (λ m. m.name ≡ memory.name → memory.width ≡ m.width) (locked ∷ []) ((λ e. refl), tt);
  depth = each_all (λ m. m.name ≡ memory.name → (memory.depth ≡ 2 ^ m.bits) ⊎ (memory.depth ≡ 2 * 2 ^ m.bits)) (locked ∷ []) ((λ e. inl refl), tt);
  unlocked = λ n. absurd (n 0 locked (lit< tt) refl);
}

pipe_well : IsPipe sample
unfolding digits
pipe_well = record {
  stages = 1;
  delayed = [];
  locked = locked ∷ [];
  few = lit≤ tt;
  many = lit≤ tt;
  ports = refl;
  delayed_addresses = λ k d l. absurd (omega arith);
  locked_addresses = each_all IsAddress (locked ∷ []) (record { low = lit≤ tt; high = lit≤ tt }, tt);
  agree = λ d l h i e. let n = h.1 in absurd (omega (arith, n));
  arrays = each_all (IsPipeArray [] (locked ∷ [])) (memory ∷ []) (array_of_pipe, tt);
  kept = each_all (IsKept [] (memory ∷ [])) (locked ∷ []) (inr (0, lit< tt, refl), tt);
  mems = refl;
  count = lit≤ tt;
}

sample_well : IsWellFormed sample
sample_well = record {
  well = record { ports = each_got (IsWellPort circuit) circuit.ports ports_well; cells = cells_fit; regs = reg_well; arrays = arrays_well };
  port_names = differing (map (λ p. p.name) sample.ports) refl;
  array_names = differing (map (λ a. a.name) sample.arrays) refl;
  pipe = pipe_well;
}

-- a netlist equal to that of the tests is well formed
pub well_of : (n : Netlist) → n ≡ sample → IsWellFormed n
well_of n e = subst IsWellFormed (sym e) sample_well

-- the netlist of the tests has no delayed memory
pub here_of : (n : Netlist) → n ≡ sample → delayed_mems n ≡ []
here_of n e = ap delayed_mems e

-- the netlist of the tests has outputs 0 to 9
pub output_of : (n : Netlist) (i : ℕ) → n ≡ sample → i < 10 → i < length (outputs_of (circuit_of n))
output_of n i e h = let l : length (outputs_of (circuit_of n)) ≡ 10 = ap (λ x. length (outputs_of (circuit_of x))) e in omega (arith, h, l)

-- the netlist of the tests has memory 0
pub mem_of : (n : Netlist) (m : ℕ) → n ≡ sample → m < 1 → m < length n.mems
mem_of n m e h = let l : length n.mems ≡ 1 = ap (λ x. length x.mems) e in omega (arith, h, l)

-- the cells of the tests' netlist fit, and have 1 to 64 bits
pub cells_of : (n : Netlist) → n ≡ sample → CellsWell (circuit_of n)
cells_of n e = cells_well (circuit_of n) (well_of n e).well

-- the netlist of the tests has cells 0 to 9
pub cell_of : (n : Netlist) (k : ℕ) → n ≡ sample → k < 10 → IsThere (circuit_of n) (CellNet k)
unfolding IsThere
cell_of n k e h = let l : length n.cells ≡ 10 = ap (λ x. length x.cells) e in omega (arith, h, l)

-- the netlist of the tests has register 0
pub reg_of : (n : Netlist) (r : ℕ) → n ≡ sample → r < 1 → IsThere (circuit_of n) (RegNet r)
unfolding IsThere
reg_of n r e h = let l : length n.regs ≡ 1 = ap (λ x. length x.regs) e in omega (arith, h, l)

pub ruleset samples = (here_of, output_of, mem_of, cell_of, reg_of)
