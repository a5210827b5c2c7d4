-- The names that the text of a netlist declares are apart.
use Rattle.std.proofs.Common.{◌≡◌, ◌≢◌, ℕ, zero, suc, ◌+◌, ◌^◌, ◌<◌, ◌≤◌, true, not, List, [], ◌∷◌, ◌++◌, length, map, take, get_or, codes, bytes_eq, Some, None, is_some, refl, sym, ap, ◌∙◌, subst, arith}
use Rattle.std.specs.List.{AllPairs}
use Rattle.std.proofs.lemmas.Bool.{cond-false, false_from_ne_true}
use Rattle.std.proofs.lemmas.List.{append_cancel_left, get_or-map, get_or-take, length-map, length-take, take-map}
use Rattle.pdl_word.proofs.Bytes.{bytes_same}
use Rattle.pdl_net.specs.declared.Cell.{Cell}
use Rattle.pdl_net.specs.declared.Port.{Port}
use Rattle.pdl_net.specs.declared.Reg.{Reg}
use Rattle.pdl_net.specs.declared.Array.{Array}
use Rattle.pdl_vread_text.specs.declared.file.PortDecl.{PortDecl}
use Rattle.pdl_vread_text.specs.declared.file.RegDecl.{RegDecl}
use Rattle.pdl_vread_text.specs.declared.file.ArrayDecl.{ArrayDecl}
use Rattle.pdl_vread_text.specs.declared.file.CellDecl.{CellDecl}
use Rattle.pdl_vread_nets.specs.Wired.{place, shifted}
use Rattle.pdl_vread_rules.specs.Once.{is_new}
use Rattle.pdl_verilog.specs.Declared.{reg_name, cell_name, port_decl, reg_decls, array_decls, cell_decls}
use Rattle.pdl_verilog.proofs.Places.{AreApart, numbered, regs_apart as reg_names_apart, cells_apart as cell_names_apart}
use Rattle.pdl_verilog.proofs.Nets.{port_names, reg_names}

-- ---- names that are apart are new in turn

place_missing : (ns : List (List ℕ)) (x : List ℕ) → ((i : ℕ) (d : List ℕ) → i < length ns → get_or ns i d ≢ x) → place ns x ≡ None
place_missing [] x h = refl
place_missing (y ∷ ys) x h =
    cond-false (bytes_eq x y) (Some 0) (shifted (place ys x)) (false_from_ne_true (bytes_eq x y) (λ e. h 0 y (omega arith) (sym (bytes_same x y e))))
    ∙ ap shifted (place_missing ys x (λ i d l. h (suc i) d (omega arith)))

-- of names that are apart the i-th is none of those before it
pub apart_new : {A : Type 0} (name : A → List ℕ) (xs : List A) (d : A) (i : ℕ) → AllPairs (λ a b. a ≢ b) (map name xs)
    → i < length xs → is_new (map name (take i xs)) (name (get_or xs i d)) ≡ true
apart_new name xs d i h l =
    ap (λ o. not (is_some o)) (place_missing (map name (take i xs)) (name (get_or xs i d)) (λ j z k.
    let n = length-map (take i xs) name in
    let m = length-take i xs in
    let o = length-map xs name in
    let b : j < i = omega arith in
    let e : get_or (map name (take i xs)) j z ≡ get_or (map name xs) j z =
    ap (λ ys. get_or ys j z) (sym (take-map name i xs)) ∙ get_or-take i (map name xs) j z b in
    λ q. h j i z b (omega arith) (sym e ∙ (q ∙ sym (get_or-map name xs i d z l)))))

-- ---- names by number

length_numbered : (f : ℕ → List ℕ) (k n : ℕ) → length (numbered f k n) ≡ n
length_numbered f k zero = refl
length_numbered f k (suc n) = ap suc (length_numbered f (suc k) n)

get_numbered : (f : ℕ → List ℕ) (k n i : ℕ) (d : List ℕ) → i < n → get_or (numbered f k n) i d ≡ f (k + i)
get_numbered f k zero i d l = absurd (omega arith)
get_numbered f k (suc n) zero d l = let e : k ≡ k + 0 = omega arith in ap f e
get_numbered f k (suc n) (suc i) d l = let e : suc k + i ≡ k + suc i = omega arith in get_numbered f (suc k) n i d (omega arith) ∙ ap f e

numbered_apart : (f : ℕ → List ℕ) (m : ℕ) → AreApart f m → (k n : ℕ) → k + n ≤ m → AllPairs (λ a b. a ≢ b) (numbered f k n)
numbered_apart f m apart k n h = λ i j d l o q.
    let p = length_numbered f k n in
    let a : i < n = omega arith in
    let b : j < n = omega arith in
    let x : k + i < m = omega arith in
    let y : k + j < m = omega arith in
    let s : k + i ≡ k + j = apart (k + i) (k + j) x y (sym (get_numbered f k n i d a) ∙ (q ∙ get_numbered f k n j d b)) in
    absurd (omega arith)

-- the names of declared registers, of which there are at most 2^64, are apart
pub regs_apart : (at : ℕ → ℕ) (xs : List Reg)
    → length xs ≤ 2 ^ 64 → AllPairs (λ a b. a ≢ b) (map (λ (d : RegDecl). d.name) (reg_decls at 0 xs))
regs_apart at xs h =
    subst (AllPairs (λ (a b : List ℕ). a ≢ b)) (sym (reg_names at 0 xs)) (numbered_apart reg_name (2 ^ 64) reg_names_apart 0 (length xs) (omega arith))

cell_names : (at : ℕ → ℕ) (inputs : List (List ℕ)) (arrays : List Array) (width : ℕ → ℕ) (k : ℕ) (gs : List Cell)
    → map (λ (d : CellDecl). d.name) (cell_decls at inputs arrays width k gs) ≡ numbered cell_name k (length gs)
cell_names at inputs arrays width k [] = refl
cell_names at inputs arrays width k (g ∷ gs) = ap (λ z. cell_name k ∷ z) (cell_names at inputs arrays width (suc k) gs)

-- the names of declared cells, of which there are at most 2^64, are apart
pub cells_apart : (at : ℕ → ℕ) (inputs : List (List ℕ)) (arrays : List Array) (width : ℕ → ℕ) (gs : List Cell)
    → length gs ≤ 2 ^ 64
    → AllPairs (λ a b. a ≢ b) (map (λ (d : CellDecl). d.name) (cell_decls at inputs arrays width 0 gs))
cells_apart at inputs arrays width gs h =
    subst (AllPairs (λ (a b : List ℕ). a ≢ b)) (sym (cell_names at inputs arrays width 0 gs))
    (numbered_apart cell_name (2 ^ 64) cell_names_apart 0 (length gs) (omega arith))

-- ---- ports and arrays

-- the names of declared ports are apart where those of the ports are
pub ports_apart : (line : ℕ) (ps : List Port) → AllPairs (λ a b. a ≢ b) (map (λ (p : Port). p.name) ps)
    → AllPairs (λ a b. a ≢ b) (map (λ (d : PortDecl). d.name) (map (port_decl line) ps))
ports_apart line ps h = subst (AllPairs (λ (a b : List ℕ). a ≢ b)) (sym (port_names line ps)) h

-- a text after a prefix
abbrev after_prefix : List ℕ → List ℕ → List ℕ
after_prefix prefix x = prefix ++ x

prefixed_apart : (prefix : List ℕ) (ns : List (List ℕ)) → AllPairs (λ a b. a ≢ b) ns
    → AllPairs (λ a b. a ≢ b) (map (after_prefix prefix) ns)
prefixed_apart prefix ns h = λ i j d l m q.
    let n = length-map ns (after_prefix prefix) in
    let b : j < length ns = omega arith in
    let a : i < length ns = omega arith in
    h i j d l b
    (append_cancel_left prefix (get_or ns i d) (get_or ns j d)
    (sym (get_or-map (after_prefix prefix) ns i d d a) ∙ (q ∙ get_or-map (after_prefix prefix) ns j d d b)))

array_names : (at : ℕ → ℕ) (m : ℕ) (xs : List Array)
    → map (λ (d : ArrayDecl). d.name) (array_decls at m xs) ≡ map (after_prefix (codes "a_")) (map (λ (a : Array). a.name) xs)
array_names at m [] = refl
array_names at m (a ∷ xs) = ap (λ z. (codes "a_" ++ a.name) ∷ z) (array_names at (suc m) xs)

-- the names of declared arrays are apart where those of the arrays are
pub arrays_apart : (at : ℕ → ℕ) (xs : List Array) → AllPairs (λ a b. a ≢ b) (map (λ (a : Array). a.name) xs)
    → AllPairs (λ a b. a ≢ b) (map (λ (d : ArrayDecl). d.name) (array_decls at 0 xs))
arrays_apart at xs h = subst (AllPairs (λ (a b : List ℕ). a ≢ b)) (sym (array_names at 0 xs)) (prefixed_apart (codes "a_") (map (λ (a : Array). a.name) xs) h)
