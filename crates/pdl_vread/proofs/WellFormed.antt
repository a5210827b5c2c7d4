-- A netlist that is read is well formed.
use Rattle.std.proofs.Common.{◌≡◌, ◌≢◌, ◌⊎◌, inl, inr, ℕ, zero, suc, ◌+◌, ◌^◌, ◌<◌, ◌≤◌, Bool, true, false, cond, ◌&&◌, ◌||◌, eqb, ltb, List, [], ◌∷◌, length, map, take, drop, get_or, filter_map, Option, Some, None, is_some, Result, Ok, Err, IfOk, refl, sym, ap, ◌∙◌, subst, arith}
use Rattle.std.specs.List.{cons_option, filter, slice_get, AllPairs}
use Rattle.std.proofs.lemmas.Bool.{and_parts, eqb-true, ltb-true, not-true}
use Rattle.std.proofs.lemmas.List.{length-map, length-take-le, take-map}
use Rattle.std.proofs.lemmas.List.Sums.{length-filter}
use Rattle.pdl_net.specs.declared.Net.{Net}
use Rattle.pdl_net.specs.declared.Net.TheVariants.{Input, Reg as RegNet}
use Rattle.pdl_net.specs.declared.Dir.TheVariants.{In, Out}
use Rattle.pdl_net.specs.declared.Port.{Port}
use Rattle.pdl_net.specs.declared.Reg.{Reg}
use Rattle.pdl_net.specs.declared.Array.{Array}
use Rattle.pdl_net.specs.declared.Netlist.{Netlist}
use Rattle.pdl_net.specs.Circuit.{Circuit, circuit_of, input_with, port_input, no_reg, no_array, reg_at, array_at}
use Rattle.pdl_net.specs.Meaning.{signal, IsThereAt, IsThere}
use Rattle.pdl_net.specs.Well.{IsDriven, IsWellPort, IsWellReg, IsWellWrite, IsWellArray, IsWell}
use Rattle.pdl_net.specs.Pipe.{IsWellFormed}
use Rattle.pdl_vread_text.specs.declared.file.File.{File}
use Rattle.pdl_vread_text.specs.declared.file.PortDecl.{PortDecl}
use Rattle.pdl_vread_text.specs.declared.file.RegDecl.{RegDecl}
use Rattle.pdl_vread_text.specs.declared.file.ArrayDecl.{ArrayDecl}
use Rattle.pdl_vread_text.specs.declared.file.CellDecl.{CellDecl}
use Rattle.pdl_vread_text.specs.declared.file.OutputDecl.{OutputDecl}
use Rattle.pdl_vread_text.specs.declared.file.RegBlock.{RegBlock}
use Rattle.pdl_vread_text.specs.declared.file.WriteDecl.{WriteDecl}
use Rattle.pdl_net.specs.declared.Cell.{Cell}
use Rattle.pdl_vread_nets.specs.declared.wiring.OutputDrive.{OutputDrive}
use Rattle.pdl_vread_nets.specs.declared.wiring.RegDrive.{RegDrive}
use Rattle.pdl_vread_nets.specs.declared.wiring.ArrayWrite.{ArrayWrite}
use Rattle.pdl_vread_nets.specs.declared.wiring.Wiring.{Wiring}
use Rattle.pdl_vread_nets.specs.Wired.{place, net_of, output_of, reg_place, array_place, wired_cell, wired_output, wired_reg, wired_port, wired_array, wired_write, cells_from}
use Rattle.pdl_vread_rules.specs.Widths.{bits, input_width, widths_of, net_width, is_width, is_depth, fits, asked_port, asked_reg, asked_array, asked_output, asked_block, asked_write}
use Rattle.pdl_vread_rules.specs.Once.{owner, is_new, output_drives, reg_drives, port_once, reg_once, array_once}
use Rattle.pdl_vread_pipe.specs.ToldParts.{with_mems}
use Rattle.pdl_vread.specs.declared.read.VError.{VError}
use Rattle.pdl_vread.specs.Built.{driver, port, ports, undriven, given, driven, regs, writes, arrays, built}
use Rattle.pdl_vread.specs.Reads.{IsWired, Reads, Judges}
use Rattle.pdl_vread.proofs.Depths.{WidthParts, width_parts, length_arrays}
use Rattle.pdl_vread.proofs.DrivenNets.{length_regs, get_regs_from}
use Rattle.pdl_vread.proofs.NamedNets.{Has, two_inv, three_inv, net_there}
use Rattle.pdl_vread.proofs.CellWidths.{is_width_parts, onto_inv, CellsRight, cells_right}
use Rattle.pdl_vread.proofs.Parts.{each_right, each_write, turn_at, new_apart, map_right, WiringParts, wiring_parts, OnceParts, once_parts}
use Rattle.pdl_vread.proofs.Powers.{depth_is}
use Rattle.pdl_vread.proofs.ArrayNames.{file_named, apart_rests, get_mapped}
use Rattle.pdl_word.specs.Each.{Each}
use Rattle.pdl_word.proofs.Each.{each_got}
use Rattle.pdl_word.specs.Words.{widest}

-- the circuit that is built
abbrev circuit : File → Wiring → Circuit
circuit f w = record { ports = ports w.outputs 0 f.ports; regs = regs w.regs 0 f.regs; arrays = arrays w.blocks 0 f.arrays; cells = w.cells }

circuit_built : (f : File) (w : Wiring) (n : Netlist) → n ≡ with_mems (built f w) n.mems → circuit_of n ≡ circuit f w
unfolding built
circuit_built f w n e = ap circuit_of e

-- ---- what is built has what is declared

port_input_of : (p : PortDecl) (x : Net) → port_input (port p x) ≡ input_width p
port_input_of p x = go p.input
  where
    go : (b : Bool) → input_with (cond b In (Out x)) (bits p.high) ≡ cond b (Some (bits p.high)) None
    go true = refl
    go false = refl

inputs_built : (drives : List OutputDrive) (i : ℕ) (ps : List PortDecl)
    → filter_map port_input (ports drives i ps) ≡ filter_map input_width ps
inputs_built drives i [] = refl
inputs_built drives i (p ∷ ps) =
    ap (λ o. cons_option o (filter_map port_input (ports drives (suc i) ps))) (port_input_of p (driver i (Input 0) drives))
    ∙ ap (cons_option (input_width p)) (inputs_built drives (suc i) ps)

driven_width : (r : ℕ) (x : Reg) (ds : List RegDrive) → (driven r x ds).width ≡ x.width
driven_width r x [] = refl
driven_width r x (d ∷ ds) = driven_width r (cond (eqb d.reg r) (given x d) x) ds ∙ go (eqb d.reg r)
  where
    go : (b : Bool) → (cond b (given x d) x).width ≡ x.width
    go true = refl
    go false = refl

-- what a list of numbers made of declarations has at a place
number_at : {A : Type 0} (f : A → ℕ) (xs : List A) (i : ℕ) (d : A) → i < length xs → get_or (map f xs) i 0 ≡ f (get_or xs i d)
number_at f [] i d l = absurd (omega arith)
number_at f (x ∷ xs) zero d l = refl
number_at f (x ∷ xs) (suc i) d l = number_at f xs i d (omega arith)

-- the declaration of a register in place of one that isn't there
abbrev pub no_decl : RegDecl
no_decl = record { line = 0; name = []; high = 0 }

-- the declaration of an array in place of one that isn't there
abbrev pub no_array_decl : ArrayDecl
no_array_decl = record { line = 0; name = []; high = 0; last = 0 }

-- the declaration of a port in place of one that isn't there
abbrev pub no_port_decl : PortDecl
no_port_decl = record { line = 0; name = []; high = 0; input = false }

abbrev array : List (List ArrayWrite) → ℕ → ArrayDecl → Array
array blocks m a = record { name = drop 2 a.name; width = bits a.high; depth = a.last + 1; writes = writes m blocks }

get_arrays_from : (blocks : List (List ArrayWrite)) (m i j : ℕ) (decls : List ArrayDecl) (x : Array) (z : ArrayDecl)
    → i < length decls → m + i ≡ j → get_or (arrays blocks m decls) i x ≡ array blocks j (get_or decls i z)
get_arrays_from blocks m i j [] x z h e = absurd (omega arith)
get_arrays_from blocks m zero j (a ∷ rest) x z h e = let k : m ≡ j = omega arith in ap (λ q. array blocks q a) k
get_arrays_from blocks m (suc i) j (a ∷ rest) x z h e = get_arrays_from blocks (suc m) i j rest x z (omega arith) (omega arith)

array_is : (f : File) (w : Wiring) (m : ℕ)
    → m < length f.arrays → array_at (circuit f w) m ≡ array w.blocks m (get_or f.arrays m no_array_decl)
array_is f w m l = get_arrays_from w.blocks 0 m m f.arrays no_array no_array_decl l (omega arith)

reg_is : (f : File) (w : Wiring) (r : ℕ) → r < length f.regs → reg_at (circuit f w) r ≡ driven r (undriven (get_or f.regs r no_decl)) w.regs
reg_is f w r l = get_regs_from w.regs 0 r r f.regs no_reg no_decl l (omega arith)

has_all : (f : File) (w : Wiring) → Has (circuit f w) f
has_all f w = record {
  inputs = inputs_built w.outputs 0 f.ports;
  reg_count = length_regs w.regs f.regs;
  reg_widths = λ r l.
      ap (λ (x : Reg). x.width) (reg_is f w r l)
      ∙ (driven_width r (undriven (get_or f.regs r no_decl)) w.regs ∙ sym (number_at (λ (d : RegDecl). bits d.high) f.regs r no_decl l));
  array_count = length_arrays w.blocks 0 f.arrays;
  array_widths = λ m l. ap (λ (x : Array). x.width) (array_is f w m l) ∙ sym (number_at (λ (a : ArrayDecl). bits a.high) f.arrays m no_array_decl l);
  array_depths = λ m l. ap (λ (x : Array). x.depth) (array_is f w m l) ∙ sym (number_at (λ (a : ArrayDecl). a.last + 1) f.arrays m no_array_decl l);
}

cells_counted : (f : File) (k : ℕ) (ds : List CellDecl) (gs : List Cell) → cells_from f k ds ≡ Ok gs → length gs ≡ length ds
cells_counted f k [] gs e = let i : [] ≡ gs = cc in ap length (sym i)
cells_counted f k (d ∷ ds) gs e =
    let o = onto_inv (wired_cell f k d) d.line (cells_from f (suc k) ds) gs e in
    ap length (sym o.4) ∙ ap suc (cells_counted f (suc k) ds o.1 o.3)

-- ---- all that a file's rules say

-- a file and what its rules found keep all rules of netlists
record KeepsRules (f : File) (w : Wiring) : Type 0 where
  wired : WiringParts f w
  widths : WidthParts f w
  once : OnceParts f w
  cells : CellsRight (circuit f w) f

keeps_rules : (f : File) (w : Wiring) → IsWired f w → KeepsRules f w
keeps_rules f w h =
    let p = wiring_parts f w h.names in
    let q = width_parts f w h.widths in
    record { wired = p; widths = q; once = once_parts f w h.once; cells = cells_right (circuit f w) f (has_all f w) p.cells q.cells }

module _ (f : File) (w : Wiring) (k : KeepsRules f w) where
  abbrev c : Circuit
  c = circuit f w

  is_there : (x : List ℕ) (n : Net) → net_of f (length f.cells) x ≡ Some n → IsThere c n
  unfolding IsThere
  is_there x n e = subst (λ z. IsThereAt c z n) (sym (cells_counted f 0 f.cells w.cells k.wired.cells)) (net_there c f (has_all f w) (length f.cells) x n e)

  -- ---- outputs

  -- what an output shows is there, with the width of its port
  record GoodOutput (o : OutputDrive) : Type 0 where
    there : IsThere c o.net
    width : (signal c o.net).width ≡ get_or (widths_of f).ports o.port 0

  good_output : (d : OutputDecl) (o : OutputDrive) → wired_output f (length f.cells) d ≡ Some o → (asked_output (widths_of f) d o).right ≡ true → GoodOutput o
  good_output d o e r =
      let i = two_inv _ (output_of f d.port) (net_of f (length f.cells) d.source) o e in
      let n : i.1 ≡ o.net = ap (λ (z : OutputDrive). z.net) i.4 in
      let t : IsThere c o.net = subst (IsThere c) n (is_there d.source i.1 i.3) in
      record { there = t; width = k.cells.wide o.net t ∙ eqb-true (net_width (widths_of f) o.net) (get_or (widths_of f).ports o.port 0) r }

  good_outputs : Each GoodOutput w.outputs
  good_outputs =
      each_right (wired_output f (length f.cells)) (λ d. d.line)
      (asked_output (widths_of f)) GoodOutput good_output f.outputs w.outputs k.wired.outputs k.widths.outputs

  drives_to : (i : ℕ) (Q : Net → Type 0) → ((o : OutputDrive) → GoodOutput o → o.port ≡ i → Q o.net)
      → (os : List OutputDrive) (x : Net) → Each GoodOutput os → Q x ⊎ (1 ≤ length (filter (λ o. eqb o.port i) os))
      → Q (driver i x os)
  drives_to i Q step [] x h (inl q) = q
  drives_to i Q step [] x h (inr l) = absurd (omega arith)
  drives_to i Q step (o ∷ os) x h s = go (λ y k. drives_to i Q step os y h.1 k) (eqb o.port i) refl s
    where
      go : ((y : Net) → Q y ⊎ (1 ≤ length (filter (λ o. eqb o.port i) os)) → Q (driver i y os)) → (b : Bool)
          → eqb o.port i ≡ b
          → Q x ⊎ (1 ≤ length (cond b (o ∷ filter (λ o. eqb o.port i) os) (filter (λ o. eqb o.port i) os)))
          → Q (driver i (cond b o.net x) os)
      go more true e s = more o.net (inl (step o h.0 (eqb-true o.port i e)))
      go more false e k = more x k

  once_driven : (i : ℕ) → i < length f.ports → (get_or f.ports i no_port_decl).input ≡ false → 1 ≤ length (filter (λ o. eqb o.port i) w.outputs)
  once_driven i l e =
      let d = get_or f.ports i no_port_decl in
      let before = take i f.ports in
      let t = turn_at (port_once w.outputs) f.ports i no_port_decl k.once.ports l in
      let p = and_parts (is_new (map (λ q. q.name) before) d.name) (d.input || eqb (output_drives w.outputs (length before)) 1) t in
      let q : eqb (output_drives w.outputs (length before)) 1 ≡ true = ap (λ b. b || eqb (output_drives w.outputs (length before)) 1) (sym e) ∙ p.1 in
      let n : output_drives w.outputs (length before) ≡ 1 = eqb-true _ 1 q in
      let m : output_drives w.outputs i ≡ 1 = ap (output_drives w.outputs) (sym (length-take-le i f.ports (omega arith))) ∙ n in
      let g = length-filter (λ (o : OutputDrive). eqb o.port i) w.outputs in
      omega arith

  well_port : (i : ℕ) (d : PortDecl) → i < length f.ports → d ≡ get_or f.ports i no_port_decl → IsWellPort c (port d (driver i (Input 0) w.outputs))
  well_port i d l e = record { low = wd.0; high = wd.1; driven = go d.input refl }
    where
      wd : (1 ≤ bits d.high) × (bits d.high ≤ widest)
      wd =
          subst (λ (z : PortDecl). (1 ≤ bits z.high) × (bits z.high ≤ widest)) (sym e)
          (is_width_parts _ (map_right asked_port f.ports k.widths.ports i no_port_decl l))

      step : (o : OutputDrive) → GoodOutput o → o.port ≡ i → IsThere c o.net × ((signal c o.net).width ≡ bits d.high)
      step o h q = (
        h.there,
        h.width
            ∙ (ap (λ z. get_or (widths_of f).ports z 0) q
            ∙ (number_at (λ (p : PortDecl). bits p.high) f.ports i no_port_decl l ∙ ap (λ (z : PortDecl). bits z.high) (sym e))),
      )

      go : (b : Bool) → d.input ≡ b → IsDriven c (bits d.high) (cond b In (Out (driver i (Input 0) w.outputs)))
      go true q = tt
      go false q =
          drives_to i (λ x. IsThere c x × ((signal c x).width ≡ bits d.high)) step w.outputs (Input 0) good_outputs
          (inr (once_driven i l (ap (λ (z : PortDecl). z.input) (sym e) ∙ q)))

  well_ports_from : (ps : List PortDecl) (r i : ℕ) (p : Port)
      → ((j : ℕ) (d : PortDecl) → j < length ps → d ≡ get_or ps j no_port_decl → IsWellPort c (port d (driver (r + j) (Input 0) w.outputs)))
      → slice_get (ports w.outputs r ps) i ≡ Some p → IsWellPort c p
  well_ports_from [] r i p h e = absurd (cc)
  well_ports_from (d ∷ ds) r zero p h e =
      let q : port d (driver r (Input 0) w.outputs) ≡ p = cc in
      let z : r + 0 ≡ r = omega arith in
      subst (IsWellPort c) q (subst (λ n. IsWellPort c (port d (driver n (Input 0) w.outputs))) z (h 0 d (omega arith) refl))
  well_ports_from (d ∷ ds) r (suc i) p h e =
      well_ports_from ds (suc r) i p
      (λ j x l q. let z : r + suc j ≡ suc r + j = omega arith in
      subst (λ n. IsWellPort c (port x (driver n (Input 0) w.outputs))) z (h (suc j) x (omega arith) q)) e

  well_ports : (i : ℕ) (p : Port) → slice_get c.ports i ≡ Some p → IsWellPort c p
  well_ports i p e =
      well_ports_from f.ports 0 i p
      (λ j d l q. let z : j ≡ 0 + j = omega arith in subst (λ n. IsWellPort c (port d (driver n (Input 0) w.outputs))) z (well_port j d l q)) e

  -- ---- registers

  -- what a register takes next is there, with its width, and its reset value fits that
  record GoodReg (b : RegDrive) : Type 0 where
    there : IsThere c b.net
    net : (signal c b.net).width ≡ b.width
    width : b.width ≡ get_or (widths_of f).regs b.reg 0
    reset : b.reset < 2 ^ b.width

  good_reg : (d : RegBlock) (b : RegDrive) → wired_reg f (length f.cells) d ≡ Some b → (asked_block (widths_of f) d b).right ≡ true → GoodReg b
  good_reg d b e r =
      let i = two_inv _ (reg_place f d.reg) (net_of f (length f.cells) d.source) b e in
      let n : i.1 ≡ b.net = ap (λ (z : RegDrive). z.net) i.4 in
      let t : IsThere c b.net = subst (IsThere c) n (is_there d.source i.1 i.3) in
      let p = and_parts (eqb b.width (net_width (widths_of f) (RegNet b.reg))) (fits b.reset b.width && eqb (net_width (widths_of f) b.net) b.width) r in
      let q = and_parts (fits b.reset b.width) (eqb (net_width (widths_of f) b.net) b.width) p.1 in
      let s = and_parts (is_width b.width) (ltb b.reset (2 ^ b.width)) q.0 in
      record {
        there = t;
        net = k.cells.wide b.net t ∙ eqb-true (net_width (widths_of f) b.net) b.width q.1;
        width = eqb-true b.width (get_or (widths_of f).regs b.reg 0) p.0;
        reset = ltb-true b.reset (2 ^ b.width) s.1;
      }

  good_regs : Each GoodReg w.regs
  good_regs =
      each_right (wired_reg f (length f.cells)) (λ d. d.line) (asked_block (widths_of f)) GoodReg good_reg f.reg_blocks w.regs k.wired.regs k.widths.blocks

  well_given : (x : Reg) (b : RegDrive) → (1 ≤ x.width) × (x.width ≤ widest) → GoodReg b → b.width ≡ x.width → IsWellReg c (given x b)
  well_given x b wd g e = record {
    low = wd.0;
    high = wd.1;
    reset = subst (λ z. b.reset < 2 ^ z) e g.reset;
    next = g.there;
    width = g.net ∙ e;
  }

  drives_reg : (r wide : ℕ) → (1 ≤ wide) × (wide ≤ widest) → wide ≡ get_or (widths_of f).regs r 0
      → (ds : List RegDrive) (x : Reg) → x.width ≡ wide → Each GoodReg ds
      → IsWellReg c x ⊎ (1 ≤ length (filter (λ b. eqb b.reg r) ds)) → IsWellReg c (driven r x ds)
  drives_reg r wide wd same [] x e h (inl q) = q
  drives_reg r wide wd same [] x e h (inr l) = absurd (omega arith)
  drives_reg r wide wd same (d ∷ ds) x e h s = go (λ y q k. drives_reg r wide wd same ds y q h.1 k) (eqb d.reg r) refl s
    where
      go : ((y : Reg) → y.width ≡ wide → IsWellReg c y ⊎ (1 ≤ length (filter (λ b. eqb b.reg r) ds)) → IsWellReg c (driven r y ds))
          → (b : Bool) → eqb d.reg r ≡ b
          → IsWellReg c x ⊎ (1 ≤ length (cond b (d ∷ filter (λ b. eqb b.reg r) ds) (filter (λ b. eqb b.reg r) ds)))
          → IsWellReg c (driven r (cond b (given x d) x) ds)
      go more true q s =
          let n : d.reg ≡ r = eqb-true d.reg r q in
          let m : d.width ≡ x.width = h.0.width ∙ (ap (λ z. get_or (widths_of f).regs z 0) n ∙ (sym same ∙ sym e)) in
          let y : (1 ≤ x.width) × (x.width ≤ widest) = subst (λ z. (1 ≤ z) × (z ≤ widest)) (sym e) wd in
          more (given x d) e (inl (well_given x d y h.0 m))
      go more false q k = more x e k

  reg_driven : (r : ℕ) → r < length f.regs → 1 ≤ length (filter (λ b. eqb b.reg r) w.regs)
  reg_driven r l =
      let d = get_or f.regs r no_decl in
      let before = take r f.regs in
      let t = turn_at (reg_once w.regs) f.regs r no_decl k.once.regs l in
      let p = and_parts (is_new (map (λ q. q.name) before) d.name) (eqb (reg_drives w.regs (length before)) 1) t in
      let n : reg_drives w.regs (length before) ≡ 1 = eqb-true _ 1 p.1 in
      let m : reg_drives w.regs r ≡ 1 = ap (reg_drives w.regs) (sym (length-take-le r f.regs (omega arith))) ∙ n in
      let g = length-filter (λ (b : RegDrive). eqb b.reg r) w.regs in
      omega arith

  well_regs : (r : ℕ) → r < length c.regs → IsWellReg c (reg_at c r)
  well_regs r l =
      let n : r < length f.regs = omega (arith, l, length_regs w.regs f.regs) in
      let d = get_or f.regs r no_decl in
      let wd = is_width_parts (bits d.high) (map_right asked_reg f.regs k.widths.regs r no_decl n) in
      subst (IsWellReg c) (sym (reg_is f w r n))
      (drives_reg r (bits d.high) wd (sym (number_at (λ (z : RegDecl). bits z.high) f.regs r no_decl n)) w.regs
      (undriven d) refl good_regs (inr (reg_driven r n)))

  -- ---- arrays

  -- the nets of a write port are there, with 1 bit, the bits of an address of its array, and the width of its words
  record GoodWrite (b : ArrayWrite) : Type 0 where
    enable : IsThere c b.port.enable
    addr : IsThere c b.port.addr
    value : IsThere c b.port.value
    one : (signal c b.port.enable).width ≡ 1
    reach : 2 ^ (signal c b.port.addr).width ≡ get_or (widths_of f).depths b.array 0
    width : (signal c b.port.value).width ≡ get_or (widths_of f).words b.array 0

  nets_there : (m : ℕ) (d : WriteDecl) (b : ArrayWrite) → wired_port f (length f.cells) m d ≡ Some b
      → IsThere c b.port.enable × IsThere c b.port.addr × IsThere c b.port.value
  nets_there m d b e =
      let n = length f.cells in
      let i = three_inv _ (net_of f n d.enable) (net_of f n d.addr) (net_of f n d.value) b e in
      subst (λ (z : ArrayWrite). IsThere c z.port.enable × IsThere c z.port.addr × IsThere c z.port.value) i.6
      (is_there d.enable i.0 i.3, is_there d.addr i.1 i.4, is_there d.value i.2 i.5)

  found_array : (d : WriteDecl) (b : ArrayWrite) (o : Option ℕ) → wired_array f (length f.cells) d o ≡ Some b
      → IsThere c b.port.enable × IsThere c b.port.addr × IsThere c b.port.value
  found_array d b None e = absurd (cc)
  found_array d b (Some m) e = nets_there m d b e

  good_write : (d : WriteDecl) (b : ArrayWrite) → wired_write f (length f.cells) d ≡ Some b → (asked_write (widths_of f) d b).right ≡ true → GoodWrite b
  good_write d b e r =
      let t = found_array d b (array_place f d.array) e in
      let wide = net_width (widths_of f) in
      let depth = get_or (widths_of f).depths b.array 0 in
      let word = get_or (widths_of f).words b.array 0 in
      let p = and_parts (eqb (wide b.port.enable) 1) (eqb (2 ^ wide b.port.addr) depth && eqb (wide b.port.value) word) r in
      let q = and_parts (eqb (2 ^ wide b.port.addr) depth) (eqb (wide b.port.value) word) p.1 in
      record {
        enable = t.0;
        addr = t.1;
        value = t.2;
        one = k.cells.wide b.port.enable t.0 ∙ eqb-true (wide b.port.enable) 1 p.0;
        reach = ap (λ z. 2 ^ z) (k.cells.wide b.port.addr t.1) ∙ eqb-true (2 ^ wide b.port.addr) depth q.0;
        width = k.cells.wide b.port.value t.2 ∙ eqb-true (wide b.port.value) word q.1;
      }

  good_writes : Each (λ ws. Each (λ b. GoodWrite b × (b.array ≡ owner ws)) ws) w.blocks
  good_writes = each_write f (length f.cells) GoodWrite good_write f.array_blocks w.blocks [] k.wired.blocks k.widths.writes k.once.blocks

  well_writes : (m : ℕ) (a : Array) → a.depth ≡ get_or (widths_of f).depths m 0
      → a.width ≡ get_or (widths_of f).words m 0 → (bs : List (List ArrayWrite))
      → Each (λ ws. Each (λ b. GoodWrite b × (b.array ≡ owner ws)) ws) bs → Each (IsWellWrite c a) (writes m bs)
  well_writes m a d v [] h = tt
  well_writes m a d v (ws ∷ more) h = go (well_writes m a d v more h.1) (eqb (owner ws) m) refl
    where
      all : (xs : List ArrayWrite) → owner ws ≡ m → Each (λ b. GoodWrite b × (b.array ≡ owner ws)) xs → Each (IsWellWrite c a) (map (λ b. b.port) xs)
      all [] e h = tt
      all (b ∷ bs) e h =
          let g = h.0.0 in
          let n : b.array ≡ m = h.0.1 ∙ e in (
            record {
              enable = g.enable;
              addr = g.addr;
              value = g.value;
              one = g.one;
              reach = g.reach ∙ (ap (λ z. get_or (widths_of f).depths z 0) n ∙ sym d);
              width = g.width ∙ (ap (λ z. get_or (widths_of f).words z 0) n ∙ sym v);
            },
            all bs e h.1,
          )

      go : Each (IsWellWrite c a) (writes m more) → (b : Bool) → eqb (owner ws) m ≡ b → Each (IsWellWrite c a) (cond b (map (λ z. z.port) ws) (writes m more))
      go rest true e = all ws (eqb-true (owner ws) m e) h.0
      go rest false e = rest

  well_arrays : (m : ℕ) → m < length c.arrays → IsWellArray c (array_at c m)
  well_arrays m l =
      let n : m < length f.arrays = omega (arith, l, length_arrays w.blocks 0 f.arrays) in
      let d = get_or f.arrays m no_array_decl in
      let a = array w.blocks m d in
      let p = and_parts (is_width (bits d.high)) (is_depth (d.last + 1)) (map_right asked_array f.arrays k.widths.arrays m no_array_decl n) in
      let wd = is_width_parts (bits d.high) p.0 in
      let deep : a.depth ≡ get_or (widths_of f).depths m 0 = sym (number_at (λ (z : ArrayDecl). z.last + 1) f.arrays m no_array_decl n) in
      let wide : a.width ≡ get_or (widths_of f).words m 0 = sym (number_at (λ (z : ArrayDecl). bits z.high) f.arrays m no_array_decl n) in
      let all = well_writes m a deep wide w.blocks good_writes in
      subst (IsWellArray c) (sym (array_is f w m n)) (record {
        low = wd.0;
        high = wd.1;
        depth = depth_is (d.last + 1) p.1;
        writes = λ i x e. each_got (IsWellWrite c a) (writes m w.blocks) i x all e;
      })

  well : IsWell c
  well = record { ports = well_ports; cells = k.cells.fit; regs = well_regs; arrays = well_arrays }

  port_names : (drives : List OutputDrive) (i : ℕ) (ps : List PortDecl) → map (λ p. p.name) (ports drives i ps) ≡ map (λ p. p.name) ps
  port_names drives i [] = refl
  port_names drives i (p ∷ ps) = ap (λ z. p.name ∷ z) (port_names drives (suc i) ps)

  array_names : (blocks : List (List ArrayWrite)) (i : ℕ) (xs : List ArrayDecl) → map (λ a. a.name) (arrays blocks i xs) ≡ map (λ a. drop 2 a.name) xs
  array_names blocks i [] = refl
  array_names blocks i (a ∷ xs) = ap (λ z. drop 2 a.name ∷ z) (array_names blocks (suc i) xs)

-- names are apart where each is new among those before it
names_apart : {A : Type 0} (name : A → List ℕ) (xs : List A) (d : A)
    → ((i : ℕ) → i < length xs → is_new (map name (take i xs)) (name (get_or xs i d)) ≡ true)
    → AllPairs (λ a b. a ≢ b) (map name xs)
names_apart name xs d h = new_apart (map name xs) (λ j z l.
    let n = length-map xs name in
    let b : j < length xs = omega arith in
    let e : get_or (map name xs) j z ≡ name (get_or xs j d) = get_mapped name xs j z d b in
    ap (λ y. is_some (place (take j (map name xs)) y)) e ∙ (ap (λ y. is_some (place y (name (get_or xs j d)))) (take-map name j xs) ∙ not-true _ (h j b)))

-- a netlist that a text reads as is well formed
pub reads_well : (bytes : List ℕ) (n : Netlist) → Reads bytes n → IsWellFormed n
reads_well bytes n h =
    let f = h.file in
    let w = h.netlist.wiring in
    let k = keeps_rules f w h.netlist.wired in
    let e : circuit_of n ≡ circuit f w = circuit_built f w n h.netlist.same in
    let ps =
    names_apart (λ (p : PortDecl). p.name) f.ports no_port_decl
    (λ i l.
    (and_parts (is_new (map (λ q. q.name) (take i f.ports)) (get_or f.ports i no_port_decl).name) _
    (turn_at (port_once w.outputs) f.ports i no_port_decl k.once.ports l)).0) in
    let qs = names_apart (λ (a : ArrayDecl). a.name) f.arrays no_array_decl (λ i l. turn_at array_once f.arrays i no_array_decl k.once.arrays l) in
    record {
      well = subst IsWell (sym e) (well f w k);
      port_names =
          subst (AllPairs (λ (a b : List ℕ). a ≢ b)) (sym (ap (λ (c : Circuit). map (λ p. p.name) c.ports) e ∙ port_names f w k w.outputs 0 f.ports)) ps;
      array_names =
          subst (AllPairs (λ (a b : List ℕ). a ≢ b))
          (sym (ap (λ (c : Circuit). map (λ a. a.name) c.arrays) e ∙ array_names f w k w.blocks 0 f.arrays))
          (apart_rests f.arrays (file_named bytes f h.text) qs);
      pipe = h.netlist.pipe;
    }

-- a netlist that the reader answers is well formed
pub read_well : (bytes : List ℕ) (r : Result Netlist VError) → Judges bytes r → IfOk r IsWellFormed
read_well bytes (Ok n) h = reads_well bytes n h
read_well bytes (Err e) h = tt
