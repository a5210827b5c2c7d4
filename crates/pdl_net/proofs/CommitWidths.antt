-- What a memory commits, first and second in a cycle: a value fits a delayed memory's words, and an address has at most 16 bits.
use Rattle.std.proofs.Common.{◌≡◌, ◌≢◌, ℕ, suc, ◌+◌, ◌^◌, ◌<◌, ◌≤◌, Bool, true, false, cond, if◌then◌else◌, List, [], ◌∷◌, ◌++◌, length, map, get_or, filter_map, flat_map, Contains, Some, codes, decimal, bytes_eq, refl, sym, ap, ◌∙◌, subst, arith, append_assoc, length-append}
use Rattle.std.specs.List.{cons_option, position_from, range_with_len, slice_get}
use Rattle.std.proofs.lemmas.List.{get_or_at}
use Rattle.std.proofs.Math.Pow.{pow_mono}
use Rattle.std.proofs.lemmas.Nat.{pow_pos}
use Rattle.std.proofs.lemmas.Slice.Eq.{bytes_eq-Decides}
use Rattle.pdl_word.specs.Each.{Each}
use Rattle.pdl_word.proofs.Each.{each_append, each_flat, each_from_all, each_unmapped, each_weaker}
use Rattle.pdl_net.specs.declared.Dir.{Dir}
use Rattle.pdl_net.specs.declared.Dir.TheVariants.{In, Out}
use Rattle.pdl_net.specs.declared.Port.{Port}
use Rattle.pdl_net.specs.declared.Netlist.{Netlist}
use Rattle.pdl_net.specs.Circuit.{Circuit, State, Output, circuit_of, outputs_of, output_with, port_output}
use Rattle.pdl_net.specs.Well.{IsWell, IsWellPort, IsDriven, Suits}
use Rattle.pdl_net.specs.Cycle.{net_value, output_values}
use Rattle.pdl_net.specs.Run.{port_value, value_at}
use Rattle.pdl_net.specs.Pipe.{Head, head_of, is_input, output, PortMem, reply_ports, stage_ports, first_ports, second_ports, commit_ports, request_ports, IsAddress, IsPipe, IsWellFormed}
use Rattle.pdl_net.proofs.Bounds.{bounded}

-- an output of this name has at most this width
abbrev Shows : List ℕ → ℕ → Head → Type 0
Shows name w h = h.input ≡ false → h.name ≡ name → h.width ≤ w

-- a locked memory's words have at most this width, where a port that shows what it commits has this name
abbrev WordsShow : List ℕ → ℕ → PortMem → Type 0
WordsShow name w l = (codes "cd_" ++ l.name ≡ name → l.width ≤ w) × (codes "cd2_" ++ l.name ≡ name → l.width ≤ w)

-- HEADS

goes_on_apart : (name : List ℕ) (w letter : ℕ) → get_or name 1 0 ≡ letter → (h : Head) → get_or h.name 1 0 ≢ letter → Shows name w h
goes_on_apart name w letter second h n i e = absurd (n (ap (λ xs. get_or xs 1 0) e ∙ second))

-- of a name that begins with `c`
module _ (name : List ℕ) (w : ℕ) (first : get_or name 0 0 ≡ 99) where
  begins_apart : (h : Head) → get_or h.name 0 0 ≢ 99 → Shows name w h
  begins_apart h n i e = absurd (n (ap (λ xs. get_or xs 0 0) e ∙ first))

  replies_fit : (ds : List PortMem) → Each (λ d. Each (Shows name w) (reply_ports d)) ds
  replies_fit [] = tt
  replies_fit (d ∷ ds) = ((λ i e. absurd (cc i), (λ i e. absurd (cc i), tt)), replies_fit ds)

  stages_fit : (ks : List ℕ) → Each (λ k. Each (Shows name w) (stage_ports k)) ks
  stages_fit [] = tt
  stages_fit (k ∷ ks) = (
    (begins_apart (output (codes "v_" ++ decimal k) 1) (λ e. omega arith), (begins_apart (output (codes "g_" ++ decimal k) 1) (λ e. omega arith), tt)),
    stages_fit ks,
  )

  requests_fit : (ds : List PortMem) → Each (λ d. Each (Shows name w) (request_ports d)) ds
  requests_fit [] = tt
  requests_fit (d ∷ ds) = (
    (begins_apart (output (codes "q_" ++ d.name) 1) (λ e. omega arith), (begins_apart (output (codes "qa_" ++ d.name) d.bits) (λ e. omega arith), tt)),
    requests_fit ds,
  )

  heads_fit : (n : Netlist) (p : IsPipe n) → Each (λ l. Each (Shows name w) (commit_ports l)) p.locked
      → Each (λ q. Shows name w (head_of q)) n.ports
  heads_fit n p f =
      let P = Shows name w in
      let replies = flat_map reply_ports p.delayed in
      let stages = flat_map stage_ports (range_with_len 0 p.stages) in
      let commits = flat_map commit_ports p.locked in
      let requests = flat_map request_ports p.delayed in
      let ends = output (codes "ended") 1 ∷ output (codes "squash") 1 ∷ [] in
      each_unmapped P head_of n.ports (subst (Each P) (sym p.ports)
      (each_append P (((replies ++ stages) ++ commits) ++ requests) ends
      (each_append P ((replies ++ stages) ++ commits) requests
      (each_append P (replies ++ stages) commits
      (each_append P replies stages (each_flat P reply_ports p.delayed (replies_fit p.delayed))
      (each_flat P stage_ports (range_with_len 0 p.stages) (stages_fit (range_with_len 0 p.stages))))
      (each_flat P commit_ports p.locked f))
      (each_flat P request_ports p.delayed (requests_fit p.delayed)))
      (begins_apart (output (codes "ended") 1) (λ e. omega arith), (begins_apart (output (codes "squash") 1) (λ e. omega arith), tt))))

-- of a name that begins with `cd`
module _ (name : List ℕ) (w : ℕ) (second : get_or name 1 0 ≡ 100) where
  value_fits : (l : PortMem) → WordsShow name w l → Each (Shows name w) (commit_ports l)
  value_fits l f =
      let P : Bool → Type 0 = λ b. Each (Shows name w) (first_ports l ++ (if b then second_ports l else [])) in
      let enable = goes_on_apart name w 100 second (output (codes "c_" ++ l.name) 1) (λ e. omega arith) in
      let addr = goes_on_apart name w 100 second (output (codes "ca_" ++ l.name) l.bits) (λ e. omega arith) in
      let enable2 = goes_on_apart name w 100 second (output (codes "c2_" ++ l.name) 1) (λ e. omega arith) in
      let addr2 = goes_on_apart name w 100 second (output (codes "ca2_" ++ l.name) l.bits) (λ e. omega arith) in
      elim l.twice as P [
        | true ↦ (enable, (addr, (λ i e. f.0 e, (enable2, (addr2, (λ i e. f.1 e, tt))))))
        | false ↦ (enable, (addr, (λ i e. f.0 e, tt)))
      ]

  values_fit : (ls : List PortMem) → ((l : PortMem) → Contains ls l → WordsShow name w l) → Each (λ l. Each (Shows name w) (commit_ports l)) ls
  values_fit [] f = tt
  values_fit (l ∷ ls) f = (value_fits l (f l (0, omega arith, refl)), values_fit ls (λ m c. f m (suc c.0, omega (arith, c.1), c.2)))

-- of a name that begins with `ca`
module _ (name : List ℕ) (w : ℕ) (second : get_or name 1 0 ≡ 97) where
  address_fits : (l : PortMem) → l.bits ≤ w → Each (Shows name w) (commit_ports l)
  address_fits l f =
      let P : Bool → Type 0 = λ b. Each (Shows name w) (first_ports l ++ (if b then second_ports l else [])) in
      let enable = goes_on_apart name w 97 second (output (codes "c_" ++ l.name) 1) (λ e. omega arith) in
      let value = goes_on_apart name w 97 second (output (codes "cd_" ++ l.name) l.width) (λ e. omega arith) in
      let enable2 = goes_on_apart name w 97 second (output (codes "c2_" ++ l.name) 1) (λ e. omega arith) in
      let value2 = goes_on_apart name w 97 second (output (codes "cd2_" ++ l.name) l.width) (λ e. omega arith) in
      elim l.twice as P [
        | true ↦ (enable, (λ i e. f, (value, (enable2, (λ i e. f, (value2, tt))))))
        | false ↦ (enable, (λ i e. f, (value, tt)))
      ]

-- NAMES

first_name : (n m : List ℕ) → (codes "cd_" ++ n) ≡ (codes "cd_" ++ m) → n ≡ m
first_name n m e = cc

second_name : (n m : List ℕ) → (codes "cd2_" ++ n) ≡ (codes "cd2_" ++ m) → n ≡ m
second_name n m e = cc

names_apart : (n m : List ℕ) → (codes "cd_" ++ n) ≡ (codes "cd2_" ++ m) → ⊥
names_apart n m e = let l = ap (λ xs. get_or xs 2 0) e in omega (arith, l)

-- VALUES

module _ (c : Circuit) (s : State) (w : IsWell c) (t : Suits c s) (name : List ℕ) (bits : ℕ) where
  -- what an output of this name shows fits the width
  abbrev Fits : Output → Type 0
  Fits o = o.name ≡ name → net_value c s o.net < 2 ^ bits

  port_fits : (q : Port) (os : List Output) → IsWellPort c q → Shows name bits (head_of q) → Each Fits os → Each Fits (cons_option (port_output q) os)
  port_fits q os h f rest =
      let P : Dir → Type 0 = λ d. q.dir ≡ d → Each Fits (cons_option (output_with d q.name) os) in
      (elim q.dir as P [
        | In ↦ (λ e. rest)
        | Out x ↦ (λ e.
            let g = subst (λ (d : Dir). IsDriven c q.width d) e h.driven in
            let b = bounded c s w t x g.0 in (
              (λ same.
                  let fits : net_value c s x < 2 ^ q.width = subst (λ k. net_value c s x < 2 ^ k) g.1 b.fits in
                  let more : 2 ^ q.width ≤ 2 ^ bits = pow_mono (f (ap is_input e) same) in
                  omega (arith, fits, more)),
              rest,
            ))
      ]) refl

  outputs_fit : (ps : List Port) → ((k : ℕ) (q : Port) → slice_get ps k ≡ Some q → IsWellPort c q)
      → Each (λ q. Shows name bits (head_of q)) ps → Each Fits (filter_map port_output ps)
  outputs_fit [] h f = tt
  outputs_fit (q ∷ ps) h f = port_fits q (filter_map port_output ps) (h 0 q refl) f.0 (outputs_fit ps (λ k r e. h (suc k) r e) f.1)

  found_fits : (os : List Output) (front : List ℕ) (i : ℕ) → length front ≡ i → 0 < 2 ^ bits → Each Fits os
      → value_at (front ++ map (λ o. net_value c s o.net) os) (position_from (λ o. bytes_eq o.name name) i os) < 2 ^ bits
  found_fits [] front i e z f = z
  found_fits (o ∷ os) front i e z f =
      let v = net_value c s o.net in
      let values = front ++ v ∷ map (λ o. net_value c s o.net) os in
      let here : get_or values i 0 ≡ v = get_or_at front v (map (λ o. net_value c s o.net) os) 0 i e in
      let later : value_at ((front ++ v ∷ []) ++ map (λ o. net_value c s o.net) os) (position_from (λ o. bytes_eq o.name name) (i + 1) os) < 2 ^ bits =
      found_fits os (front ++ v ∷ []) (i + 1) (length-append front (v ∷ []) ∙ ap (λ k. k + 1) e) z f.1 in
      let after =
      subst (λ xs. value_at xs (position_from (λ o. bytes_eq o.name name) (i + 1) os) < 2 ^ bits)
      (append_assoc front (v ∷ []) (map (λ o. net_value c s o.net) os)) later in
      let P : Bool → Type 0 =
      λ b. (b ≡ true → o.name ≡ name) → value_at values (cond b (Some i) (position_from (λ o. bytes_eq o.name name) (i + 1) os)) < 2 ^ bits in
      (elim (bytes_eq o.name name) as P [ true ↦ (λ g. subst (λ x. x < 2 ^ bits) (sym here) (f.0 (g refl))) | false ↦ (λ g. after) ])
      ((bytes_eq-Decides o.name name).0)

shown_fits : (n : Netlist) (w : IsWellFormed n) (name : List ℕ) (bits : ℕ)
    → get_or name 0 0 ≡ 99 → Each (λ l. Each (Shows name bits) (commit_ports l)) w.pipe.locked
    → (s : State) → Suits (circuit_of n) s → port_value (circuit_of n) (output_values (circuit_of n) s) name < 2 ^ bits
unfolding output_values
shown_fits n w name bits f h s t =
    let k = circuit_of n in
    found_fits k s w.well t name bits (outputs_of k) [] 0 refl (pow_pos bits)
    (outputs_fit k s w.well t name bits n.ports w.well.ports (heads_fit name bits f n w.pipe h))

-- the value that a delayed memory commits, in each state that suits
pub committed_fits : (n : Netlist) (w : IsWellFormed n) (d : PortMem) → Contains w.pipe.delayed d → (s : State)
    → Suits (circuit_of n) s
    → port_value (circuit_of n) (output_values (circuit_of n) s) (codes "cd_" ++ d.name) < 2 ^ d.width
committed_fits n w d c s t =
    shown_fits n w (codes "cd_" ++ d.name) d.width refl
    (values_fit (codes "cd_" ++ d.name) d.width refl w.pipe.locked
    (λ l k. (
      λ e. let same = (w.pipe.agree d l c k (sym (first_name l.name d.name e))).0 in omega (arith, same),
      λ e. absurd (names_apart d.name l.name (sym e)),
    ))) s t

-- and the value that it commits after that
pub committed2_fits : (n : Netlist) (w : IsWellFormed n) (d : PortMem) → Contains w.pipe.delayed d → (s : State)
    → Suits (circuit_of n) s
    → port_value (circuit_of n) (output_values (circuit_of n) s) (codes "cd2_" ++ d.name) < 2 ^ d.width
committed2_fits n w d c s t =
    shown_fits n w (codes "cd2_" ++ d.name) d.width refl
    (values_fit (codes "cd2_" ++ d.name) d.width refl w.pipe.locked
    (λ l k. (
      λ e. absurd (names_apart l.name d.name e),
      λ e. let same = (w.pipe.agree d l c k (sym (second_name l.name d.name e))).0 in omega (arith, same),
    ))) s t

addresses_fit : (n : Netlist) (w : IsWellFormed n) (name : List ℕ) → get_or name 1 0 ≡ 97
    → Each (λ l. Each (Shows name 16) (commit_ports l)) w.pipe.locked
addresses_fit n w name second =
    each_weaker IsAddress (λ l. Each (Shows name 16) (commit_ports l)) (λ l a. address_fits name 16 second l a.high) w.pipe.locked
    (each_from_all IsAddress w.pipe.locked w.pipe.locked_addresses)

-- the address of a word that a memory commits, in each state that suits
pub addressed_fits : (n : Netlist) (w : IsWellFormed n) (mem : List ℕ) (s : State) → Suits (circuit_of n) s
    → port_value (circuit_of n) (output_values (circuit_of n) s) (codes "ca_" ++ mem) < 2 ^ 16
addressed_fits n w mem s t = shown_fits n w (codes "ca_" ++ mem) 16 refl (addresses_fit n w (codes "ca_" ++ mem) refl) s t

-- and that of a word that it commits after that
pub addressed2_fits : (n : Netlist) (w : IsWellFormed n) (mem : List ℕ) (s : State) → Suits (circuit_of n) s
    → port_value (circuit_of n) (output_values (circuit_of n) s) (codes "ca2_" ++ mem) < 2 ^ 16
addressed2_fits n w mem s t = shown_fits n w (codes "ca2_" ++ mem) 16 refl (addresses_fit n w (codes "ca2_" ++ mem) refl) s t
