-- The memories with a commit port, port by port.
use Rattle.std.proofs.Common.{◌≡◌, ℕ, suc, ◌+◌, ◌<◌, Bool, true, false, cond, List, [], ◌∷◌, ◌++◌, length, map, drop, get_or, All, Option, Some, None, codes, bytes_eq, refl, sym, ap, ◌∙◌, subst, append_assoc, arith}
use Rattle.std.specs.Prelude.{filter_map, find, position, slice_index_or}
use Rattle.std.specs.List.{cons_option, position_from}
use Rattle.std.specs.Option.{option_map}
use Rattle.std.proofs.lemmas.Iterator.Adapters.{position_from-zero}
use Rattle.std.proofs.lemmas.List.{map-append, drop_more}
use Rattle.std.proofs.lemmas.List.Elements.{All-append, All-cons, All-nil}
use Rattle.pdl_kit.specs.declared.mem_info.MemInfo.{MemInfo}
use Rattle.pdl_net.specs.declared.Dir.{Dir}
use Rattle.pdl_net.specs.declared.Dir.TheVariants.{In, Out}
use Rattle.pdl_net.specs.declared.Net.{Net}
use Rattle.pdl_net.specs.declared.Port.{Port}
use Rattle.pdl_net.specs.declared.Netlist.{Netlist}
use Rattle.pdl_net.specs.Circuit.{Output, output_with, port_output}
use Rattle.pdl_net.specs.Run.{no_mem, mem_at}
use Rattle.pdl_law_parts.specs.Runs.{commit_mem, commit_mems}

-- the first element that passes is the one at the first such place
found_from : {X : Type 0} (p : X → Bool) (d : X) (xs : List X) (k : ℕ) (all : List X)
    → ((i : ℕ) → slice_index_or all (k + i) d ≡ slice_index_or xs i d)
    → find p xs ≡ option_map (λ i. slice_index_or all i d) (position_from p k xs)
found_from p d [] k all h = refl
found_from p d (x ∷ xs) k all h =
    go (p x) (found_from p d xs (k + 1) all (λ i. let e : k + 1 + i ≡ k + suc i = omega arith in ap (λ j. slice_index_or all j d) e ∙ h (suc i)))
  where
    here : slice_index_or all k d ≡ x
    here = let z : k ≡ k + 0 = omega arith in ap (λ j. slice_index_or all j d) z ∙ h 0

    go : (b : Bool) → find p xs ≡ option_map (λ i. slice_index_or all i d) (position_from p (k + 1) xs)
        → cond b (Some x) (find p xs) ≡ option_map (λ i. slice_index_or all i d) (cond b (Some k) (position_from p (k + 1) xs))
    go true e = ap Some (sym here)
    go false e = e

commits_by : (n : Netlist) (port : List ℕ)
    → commit_mem n.mems port ≡ option_map (mem_at n) (position (λ (m : MemInfo). bytes_eq port (codes "c_" ++ m.name)) n.mems)
commits_by n port =
    let test : MemInfo → Bool = λ m. bytes_eq port (codes "c_" ++ m.name) in
    found_from test no_mem n.mems 0 n.mems (λ i. let z : 0 + i ≡ i = omega arith in ap (λ j. slice_index_or n.mems j no_mem) z)
    ∙ ap (option_map (mem_at n)) (sym (position_from-zero test n.mems))

-- the memories that commit by these ports
abbrev pub by_ports : Netlist → List Port → List MemInfo
by_ports n ports = filter_map (λ (o : Output). commit_mem n.mems o.name) (filter_map port_output ports)

-- the numbers so far, and the ports to come
pub record AreSoFar (n : Netlist) (order : List ℕ) (ports : List Port) : Type 0 where
  pub there : All (λ i. i < length n.mems) order
  pub mems : map (mem_at n) order ++ by_ports n ports ≡ commit_mems n

by_dir : (n : Netlist) (p : Port) (ports : List Port) (d : Dir)
    → p.dir ≡ d
    → by_ports n (p ∷ ports)
    ≡ filter_map (λ (o : Output). commit_mem n.mems o.name) (cons_option (output_with d p.name) (filter_map port_output ports))
by_dir n p ports d e = ap (λ d. filter_map (λ (o : Output). commit_mem n.mems o.name) (cons_option (output_with d p.name) (filter_map port_output ports))) e

-- the number by a port, which is an output of this name
abbrev pub number_by : Netlist → Port → Option ℕ
number_by n p = position (λ (m : MemInfo). bytes_eq p.name (codes "c_" ++ m.name)) n.mems

by_output : (n : Netlist) (p : Port) (x : Net) (ports : List Port) (r : Option ℕ)
    → p.dir ≡ Out x → r ≡ number_by n p
    → by_ports n (p ∷ ports) ≡ cons_option (option_map (mem_at n) r) (by_ports n ports)
by_output n p x ports r e h =
    by_dir n p ports (Out x) e
    ∙ ap (λ o. cons_option o (by_ports n ports)) (commits_by n p.name ∙ ap (option_map (mem_at n)) (sym h))

-- the next of the ports
next_port : (n : Netlist) (ports : List Port) (k : ℕ) (p : Port)
    → k < length ports → p ≡ get_or ports k p → by_ports n (drop k ports) ≡ by_ports n (p ∷ drop (k + 1) ports)
next_port n ports k p l e = ap (by_ports n) (drop_more ports k p l ∙ ap (λ q. q ∷ drop (k + 1) ports) (sym e))

-- with an output by which a memory commits, the order so far has that memory too
pub one_more : (n : Netlist) (ports : List Port) (k : ℕ) (p : Port) (x : Net) (i : ℕ) (old new : List ℕ)
    → k < length ports → p ≡ get_or ports k p → p.dir ≡ Out x → Some i ≡ number_by n p → i < length n.mems
    → new ≡ old ++ i ∷ [] → AreSoFar n old (drop k ports) → AreSoFar n new (drop (k + 1) ports)
one_more n ports k p x i old new l e out h low more so_far =
    let rest = drop (k + 1) ports in
    record {
      there =
          subst (All (λ i. i < length n.mems)) (sym more)
          (All-append (λ i. i < length n.mems) old (i ∷ []) so_far.there (All-cons (λ i. i < length n.mems) i [] low (All-nil (λ i. i < length n.mems))));
      mems =
          ap (λ (o : List ℕ). map (mem_at n) o ++ by_ports n rest) more
          ∙ ap (λ l. l ++ by_ports n rest) (map-append (mem_at n) old (i ∷ []))
          ∙ append_assoc (map (mem_at n) old) (mem_at n i ∷ []) (by_ports n rest)
          ∙ ap (λ l. map (mem_at n) old ++ l) (sym (next_port n ports k p l e ∙ by_output n p x rest (Some i) out h))
          ∙ so_far.mems;
    }

-- an output that begins no commit of a memory changes nothing in the order so far
pub none_more : (n : Netlist) (ports : List Port) (k : ℕ) (p : Port) (x : Net) (order : List ℕ)
    → k < length ports → p ≡ get_or ports k p → p.dir ≡ Out x → None ≡ number_by n p → AreSoFar n order (drop k ports)
    → AreSoFar n order (drop (k + 1) ports)
none_more n ports k p x order l e out h so_far = record {
  there = so_far.there;
  mems = ap (λ l. map (mem_at n) order ++ l) (sym (next_port n ports k p l e ∙ by_output n p x (drop (k + 1) ports) None out h)) ∙ so_far.mems;
}

-- an input changes nothing in the order so far
pub input_more : (n : Netlist) (ports : List Port) (k : ℕ) (p : Port) (order : List ℕ)
    → k < length ports → p ≡ get_or ports k p → p.dir ≡ In → AreSoFar n order (drop k ports)
    → AreSoFar n order (drop (k + 1) ports)
input_more n ports k p order l e input so_far = record {
  there = so_far.there;
  mems = ap (λ l. map (mem_at n) order ++ l) (sym (next_port n ports k p l e ∙ by_dir n p (drop (k + 1) ports) In input)) ∙ so_far.mems;
}
