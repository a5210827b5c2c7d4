-- Which inputs the names of a netlist's ports stand for, and how they begin.
use Rattle.std.proofs.Common.{◌≡◌, ◌≢◌, ℕ, zero, suc, ◌+◌, ◌<◌, Bool, true, false, cond, if◌then◌else◌, List, [], ◌∷◌, ◌++◌, length, map, flat_map, filter_map, get_or, codes, Option, Some, None, All, refl, sym, ap, ◌∙◌, subst, arith}
use Rattle.std.specs.List.{AllPairs, cons_option, range_with_len}
use Rattle.pdl_net.specs.declared.Net.{Net}
use Rattle.pdl_net.specs.declared.Net.TheVariants.{Input}
use Rattle.pdl_net.specs.declared.Dir.{Dir}
use Rattle.pdl_net.specs.declared.Dir.TheVariants.{In, Out}
use Rattle.pdl_net.specs.declared.Port.{Port}
use Rattle.pdl_net.specs.declared.Netlist.{Netlist}
use Rattle.pdl_net.specs.Circuit.{input_with, port_input}
use Rattle.pdl_net.specs.Pipe.{Head, PortMem, head_of, is_input, output, reply_ports, stage_ports, first_ports, second_ports, commit_ports, request_ports, pipe_ports, IsPipe}
use Rattle.pdl_vread_text.specs.declared.file.PortDecl.{PortDecl}
use Rattle.pdl_vlog.specs.Layout.{input_name, input_names}
use Rattle.pdl_vread_nets.specs.Wired.{place, shifted, port_nets, net_at}
use Rattle.pdl_verilog.specs.Declared.{port_decl}
use Rattle.pdl_verilog.proofs.Places.{Begins, place_first, place_later}
use Rattle.pdl_word.proofs.Bools.{untrue}
use Rattle.pdl_word.specs.Each.{Each}
use Rattle.pdl_word.proofs.Each.{each_append, each_unmapped}

-- ---- where inputs stand

abbrev names : List Port → List (List ℕ)
names ps = map (λ (p : Port). p.name) ps

-- so many inputs
abbrev count : List Port → ℕ
count ps = length (filter_map port_input ps)

-- the name of the i-th input
abbrev name_at : List Port → ℕ → List ℕ
name_at ps i = get_or (input_names ps) i []

abbrev decls : ℕ → List Port → List PortDecl
decls line ps = map (port_decl line) ps

-- a name that no port has is that of no input
input_apart : (ps : List Port) (x : List ℕ) (i : ℕ) → All (λ a. x ≢ a) (names ps) → i < count ps → x ≢ name_at ps i
input_apart [] x i h l = absurd (omega arith)
input_apart (p ∷ ps) x i h l = go (λ j m. input_apart ps x j (λ k d o. h (suc k) d (omega arith)) m) p.dir i l
  where
    go : ((j : ℕ) → j < count ps → x ≢ name_at ps j) → (d : Dir) (i : ℕ)
        → i < length (cons_option (input_with d p.width) (filter_map port_input ps))
        → x ≢ get_or (input_name d p.name ++ input_names ps) i []
    go more In zero m = h 0 [] (omega arith)
    go more In (suc j) m = more j (omega arith)
    go more (Out y) j m = more j m

net_at_later : (a : Option Net) (nets : List (Option Net)) (o : Option ℕ) → net_at (a ∷ nets) (shifted o) ≡ net_at nets o
net_at_later a nets None = refl
net_at_later a nets (Some i) = refl

-- a name that isn't that of the first port
past_first : (a : Option Net) (nets : List (Option Net)) (y : List ℕ) (ys : List (List ℕ)) (x : List ℕ) → x ≢ y
    → net_at (a ∷ nets) (place (y ∷ ys) x) ≡ net_at nets (place ys x)
past_first a nets y ys x ne = ap (net_at (a ∷ nets)) (place_later y ys x ne) ∙ net_at_later a nets (place ys x)

-- the name of the i-th input stands for it, where the inputs are counted from j
pub input_placed : (line : ℕ) (ps : List Port) (i j k : ℕ) → AllPairs (λ a b. a ≢ b) (names ps) → i < count ps → j + i ≡ k
    → net_at (port_nets j (decls line ps)) (place (names ps) (name_at ps i)) ≡ Some (Input k)
input_placed line [] i j k h l e = absurd (omega arith)
input_placed line (p ∷ ps) i j k h l e =
    go (λ m o b q. input_placed line ps m o k (λ s t d u v. h (suc s) (suc t) d (omega arith) (omega arith)) b q)
    (λ t d u. h 0 (suc t) d (omega arith) (omega arith)) p.dir i l e
  where
    go : ((m o : ℕ) → m < count ps → o + m ≡ k → net_at (port_nets o (decls line ps)) (place (names ps) (name_at ps m)) ≡ Some (Input k))
        → All (λ a. p.name ≢ a) (names ps) → (d : Dir) (i : ℕ)
        → i < length (cons_option (input_with d p.width) (filter_map port_input ps)) → j + i ≡ k
        → net_at (cond (is_input d) (Some (Input j) ∷ port_nets (suc j) (decls line ps)) (None ∷ port_nets j (decls line ps)))
        (place (p.name ∷ names ps) (get_or (input_name d p.name ++ input_names ps) i []))
        ≡ Some (Input k)
    go more apart In zero b q =
        let same : j ≡ k = omega arith in
        ap (net_at (Some (Input j) ∷ port_nets (suc j) (decls line ps))) (place_first p.name (names ps) p.name refl) ∙ ap (λ z. Some (Input z)) same
    go more apart In (suc m) b q =
        let l : m < count ps = omega arith in
        past_first (Some (Input j)) (port_nets (suc j) (decls line ps)) p.name (names ps) (name_at ps m) (λ z. input_apart ps p.name m apart l (sym z))
        ∙ more m (suc j) l (omega arith)
    go more apart (Out y) m b q =
        past_first None (port_nets j (decls line ps)) p.name (names ps) (name_at ps m) (λ z. input_apart ps p.name m apart b (sym z)) ∙ more m j b q

-- ---- how their names begin

each_flat : {A B : Type 0} (P : B → Type 0) (f : A → List B) → ((x : A) → Each P (f x)) → (xs : List A) → Each P (flat_map f xs)
each_flat P f h [] = tt
each_flat P f h (x ∷ xs) = each_append P (f x) (flat_map f xs) (h x) (each_flat P f h xs)

-- an input has a name that begins with `p`
abbrev IsMarked : Head → Type 0
IsMarked h = h.input ≡ true → Begins 112 h.name

commit_marked : (m : PortMem) → Each IsMarked (commit_ports m)
commit_marked m =
    let P : Bool → Type 0 = λ b. Each IsMarked (first_ports m ++ (if b then second_ports m else [])) in
    elim m.twice as P [
      | true ↦ ((λ e. untrue e), ((λ e. untrue e), ((λ e. untrue e), ((λ e. untrue e), ((λ e. untrue e), ((λ e. untrue e), tt))))))
      | false ↦ ((λ e. untrue e), ((λ e. untrue e), ((λ e. untrue e), tt)))
    ]

pipe_marked : (s : ℕ) (d l : List PortMem) → Each IsMarked (pipe_ports s d l)
pipe_marked s d l =
    let a = flat_map reply_ports d in
    let b = flat_map stage_ports (range_with_len 0 s) in
    let c = flat_map commit_ports l in
    let r = flat_map request_ports d in
    let last = output (codes "ended") 1 ∷ output (codes "squash") 1 ∷ [] in
    let ha : Each IsMarked a = each_flat IsMarked reply_ports (λ m. ((λ e. refl), ((λ e. refl), tt))) d in
    let hb : Each IsMarked b = each_flat IsMarked stage_ports (λ k. ((λ e. untrue e), ((λ e. untrue e), tt))) (range_with_len 0 s) in
    let hc : Each IsMarked c = each_flat IsMarked commit_ports commit_marked l in
    let hr : Each IsMarked r = each_flat IsMarked request_ports (λ m. ((λ e. untrue e), ((λ e. untrue e), tt))) d in
    let hl : Each IsMarked last = ((λ e. untrue e), ((λ e. untrue e), tt)) in
    each_append IsMarked (((a ++ b) ++ c) ++ r) last
    (each_append IsMarked ((a ++ b) ++ c) r (each_append IsMarked (a ++ b) c (each_append IsMarked a b ha hb) hc) hr) hl

input_marked : (ps : List Port) (i : ℕ) → Each (λ p. IsMarked (head_of p)) ps → i < count ps → Begins 112 (name_at ps i)
input_marked [] i h l = absurd (omega arith)
input_marked (p ∷ ps) i h l = go (λ j m. input_marked ps j h.1 m) p.dir h.0 i l
  where
    go : ((j : ℕ) → j < count ps → Begins 112 (name_at ps j)) → (d : Dir) → (is_input d ≡ true → Begins 112 p.name)
        → (i : ℕ) → i < length (cons_option (input_with d p.width) (filter_map port_input ps))
        → Begins 112 (get_or (input_name d p.name ++ input_names ps) i [])
    go more In k zero m = k refl
    go more In k (suc j) m = more j (omega arith)
    go more (Out y) k j m = more j m

-- the inputs of a pipe have names that begin with `p`
pub input_begins : (n : Netlist) → IsPipe n → (i : ℕ) → i < count n.ports → Begins 112 (name_at n.ports i)
input_begins n h i l =
    input_marked n.ports i (each_unmapped IsMarked head_of n.ports (subst (Each IsMarked) (sym h.ports) (pipe_marked h.stages h.delayed h.locked))) l
